use Rattle.std.proofs.{Common.{◌≡◌, ◌∙◌, ◌-◌, ℕ, ap, sym, min, arith}, lemmas.List.append-nil}
use Rattle.debug_session.{specs.{Monitor.{flags_text, texts_from}, Place.view_of}, proofs.Views.view-at}
use Rattle.debug_link.proofs.AddedText.{put_none}
use Rattle.debug_walk.specs.Walk.{place_of}
use Rattle.device_debug.{specs.{Telling.text_in, declared.step_text.StepText.TheVariants.{Trace as TraceText}}, proofs.Refusals.puts-none}
use Rattle.device_debug.proofs.monitor.tell.Goals as goal

pub returns-in-Steps-clause-tells : goal.returns-in-Steps-clause-tells
returns-in-Steps-clause-tells g c = λ run track walks few.
    rw c.in-Steps.is
    (rw (c.as_slice.ensures, c.steps_line.ensures (view_of run), c.place-place.ensures) at
    c.tell_text.ensures.tells)

pub returns-in-Flags-clause-tells : goal.returns-in-Flags-clause-tells
returns-in-Flags-clause-tells g c = λ run track walks few.
    rw c.in-Flags.is
    (rw (c.as_slice-in-Flags.ensures ∙ c.flags_line.ensures run walks
    ∙ ap flags_text (sym (view-at run (place_of c.args.halted.now) few))) at
    c.tell_text-in-Flags.ensures.tells)

pub returns-in_err-end-in-Play-clause-tells : goal.returns-in_err-end-in-Play-clause-tells
returns-in_err-end-in-Play-clause-tells g c = λ run track walks few.
    puts-none _ _ _ _ c.from_residual.ensures.0

pub returns-in_ok-end-in-Play-clause-tells : goal.returns-in_ok-end-in-Play-clause-tells
returns-in_ok-end-in-Play-clause-tells g c = λ run track walks few.
    let place = place_of c.args.halted.now in
    let count : c.place-place.result - 0 ≡ place = omega (arith, c.place-place.ensures) in
    rw (c.in-Play.is, view-at run place few)
    (rw (count, c.as_slice-in-Play.ensures, c.in_ok-end-in-Play.ensures.text run walks) at
    (c.tell_steps.ensures.tells run track (omega arith)
    (omega (arith, few, c.place-place.ensures))))

pub returns-in-Trace-clause-tells : goal.returns-in-Trace-clause-tells
returns-in-Trace-clause-tells g c = λ run track walks few.
    let view = view_of run in
    let place = place_of c.args.halted.now in
    let lines = c.in-Trace.lines in
    let first = c.saturating_sub-first.result in
    let first_is : first ≡ place - lines =
    c.saturating_sub-first.ensures ∙ ap (λ (at : ℕ). at - lines) c.place-place.ensures in
    let count : c.place-place.result - first ≡ min lines place =
    omega (arith, c.saturating_sub-first.ensures, c.place-place.ensures) in
    rw c.in-Trace.is
    (rw (
      append-nil (texts_from view (text_in TraceText) first (c.place-place.result - first)),
      count,
      first_is,
    ) at
    (c.tell_steps-in-Trace.ensures.tells run track (omega (arith, c.saturating_sub-first.ensures))
    (omega (arith, few, c.place-place.ensures))))

pub returns-in-Until-clause-tells : goal.returns-in-Until-clause-tells
returns-in-Until-clause-tells g c = λ run track walks few.
    rw c.in-Until.is (record { all = put_none _ _; prefix = tt })

pub returns-in-Help-clause-tells : goal.returns-in-Help-clause-tells
returns-in-Help-clause-tells g c = λ run track walks few.
    rw c.in-Help.is c.tell_text-in-Help.ensures.tells

pub returns-in-Other-clause-tells : goal.returns-in-Other-clause-tells
returns-in-Other-clause-tells g c = λ run track walks few.
    rw c.in-Other.is c.tell_text-in-Other.ensures.tells
