use Rattle.std.proofs.Common.{◌≡◌, ◌-◌, ◌∙◌, suc, true, is_some, refl, sym, subst, arith}
use Rattle.device_types.specs.declared.bus_record.BusRecord.{BusRecord}
use Rattle.device_core.specs.Device.{machine_of}
use Rattle.debug_session.specs.Place.{aux_at, exec_at, step_at}
use Rattle.debug_walk.proofs.Views.{aux-at, exec-at, last-entry}
use Rattle.debug_walk.proofs.walk.with_kept_step.Goals as goal

pub returns-in-Some : goal.returns-in-Some
returns-in-Some g c = λ run playback midway last ends exec aux.
    let entry : BusRecord = c.in-Some.entry.now in
    let is : step_at run last ≡ entry =
    last-entry run midway last entry ends c.in-Some.ensures.last in
    let kept : is_some (machine_of c.args.live.now).bus.last ≡ true =
    sym c.in-Some.ensures.kept in
    let exec_now : c.exec.result ≡ exec_at run (suc last) =
    subst (λ at. c.exec.result ≡ exec_at run at) ends
    (exec-at run midway c.exec.result c.exec.ensures) in
    let aux_now : c.aux.result ≡ aux_at run (suc last) =
    subst (λ at. c.aux.result ≡ aux_at run at) ends
    (aux-at run midway c.aux.result c.aux.ensures) in
    let step : c.steps.result - 1 ≡ last = omega (arith, c.steps.ensures.made, ends) in
    c.with.ensures
    ∙ rw (
      c.new-seen.ensures,
      c.differs-exec_changed.ensures,
      c.differs-aux_changed.ensures,
      exec,
      aux,
      exec_now,
      aux_now,
      step,
      kept,
      is,
    )
    refl
