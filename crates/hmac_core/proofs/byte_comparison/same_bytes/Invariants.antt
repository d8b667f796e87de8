use Rattle.std.{proofs.Common.{◌≡◌, take}, specs.Str.bytes_eq}
use Rattle.hmac_core.proofs.byte_comparison.same_bytes.Given as goal

-- whether the bytes so far are equal
abbrev pub invariant-loop-i : goal.invariant-loop-i
invariant-loop-i l = l.same ≡ bytes_eq (take l.i l.left) (take l.i l.right)
