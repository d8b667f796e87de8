use Rattle.std.{proofs.Common.{◌≡◌, ◌<◌, ◌^◌, take}, specs.Str.Parse.digits_value}
use Rattle.debug_session.proofs.number.value_of.Given as goal

abbrev pub invariant-loop-digit : goal.invariant-loop-digit
invariant-loop-digit l = record {
  read : l.value ≡ digits_value 16 (take l.digit-index l.digits);
  small : l.value < 16 ^ l.digit-index;
}
