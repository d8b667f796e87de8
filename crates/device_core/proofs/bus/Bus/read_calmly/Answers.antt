use Rattle.std.proofs.Common.{◌≡◌, ◌∙◌, ap, false, sym}
use Rattle.device_trace.specs.{Logs.{flags_of, logged_bounds}, Signals.{signals_of, value_read}}
use Rattle.device_core.proofs.CalmRegion.{calm-signals, quiet-where-watched, turn-access}
use Rattle.device_core.proofs.bus.Bus.read_calmly.Goals as goal

pub returns-then-stay_where_quiet : goal.returns-then-stay_where_quiet
returns-then-stay_where_quiet g c = λ start logs regs stands turn region.
    let flag = g.G.TraceFlag.flag in
    let code = c.args.code in
    let value = c.value_read-value.ensures start logs stands.same_memory stands.same_peripherals in
    let now : c.signals-now.result ≡ signals_of start logs false =
    c.signals-now.ensures.signals start logs regs turn value (sym region.unasked) in
    let bounds : c.bounds.result ≡ logged_bounds start logs =
    c.bounds.ensures start.power (flags_of start logs) logs.memory stands.same_memory in
    let calm =
    calm-signals start logs regs c.args.turn.now code turn region.unasked
    (sym c.is_calm.ensures ∙ c.if-not-is_calm.false) in
    record {
      calm = calm;
      keeps = record {
        shown = region.shown;
        leaves = λ entry is.
            rw bounds at
            (c.stay_where_quiet.ensures entry logs.records stands.same_monitors
            (rw (now, bounds)
            (quiet-where-watched flag code start logs (signals_of start logs false) region calm))
            (rw now is) c.if-stay_where_quiet.true);
      };
      reads =
          value
          ∙ ap (value_read start logs) (turn-access start logs regs c.args.turn.now turn);
    }
