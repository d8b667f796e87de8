use Rattle.std.proofs.Common.{◌∙◌, ap, refl}
use Rattle.debug_link.proofs.AddedText.{put_none}
use Rattle.debug_session.specs.{Going.step_of, declared.command.Way.TheVariants.{Ahead, Back}}
use Rattle.device_debug.{specs.{Going.step_in, declared.debugger.Debugger.Debugger}, proofs.{Answering.may-fail, Gone.{Leaves, failed-on, went}, debugger.Debugger.resume.{Given.Over, Goals.After-new-seek}}}
use Rattle.device_debug.proofs.debugger.Debugger.resume.Goals as goal

leaves : (g : Over) (c : After-new-seek g)
    → Leaves g.D.Digest32.hash g.W.Sink c.args.self.now c.in_ok-walk.walk
    c.take_walk.new.self.track c.take_walk.new.self.stops (step_in c.new-seek.result) c.args.going
leaves g c =
    let rest = c.take_walk.ensures.rest in
    record {
      is = c.in_ok-walk.ensures.halted;
      track_is = ap (λ (one : Debugger g.row.D.Denot). one.track) rest;
      stops_is = ap (λ (one : Debugger g.row.D.Denot). one.stops) rest;
      step_is = λ run walks. c.new-seek.ensures
          ∙ ap (step_of c.args.going) (c.level.ensures run walks);
    }

pub returns-in_err-walk-in-Ahead-clause-gives : goal.returns-in_err-walk-in-Ahead-clause-gives
returns-in_err-walk-in-Ahead-clause-gives g c =
    rw c.in-Ahead.is
    (failed-on _ _ (leaves g (goal.at.returns-in_err-walk-in-Ahead-clause-gives g c).After-new-seek)
    Ahead c.from_residual-in_err-walk-in-Ahead.ensures.0 c.go_forwards.ensures.same_run
    (λ run place track stands.
    let way = c.in_err-walk-in-Ahead.ensures.goes_on run place track stands in
    (way.0, way.1, way.2.prefix)))

pub returns-in_err-walk-in-Back-clause-gives : goal.returns-in_err-walk-in-Back-clause-gives
returns-in_err-walk-in-Back-clause-gives g c =
    may-fail c.go_back.ensures.came c.from_residual-in_err-walk-in-Back.ensures.0
    (c.go_back.ensures.same_run
    ∙ ap (λ (one : Debugger g.row.D.Denot). one.track.run) c.take_walk.ensures.rest)

pub returns-in_ok-walk-in-Ahead-clause-gives : goal.returns-in_ok-walk-in-Ahead-clause-gives
returns-in_ok-walk-in-Ahead-clause-gives g c =
    rw c.in-Ahead.is
    (went _ _ (leaves g (goal.at.returns-in_ok-walk-in-Ahead-clause-gives g c).After-new-seek) Ahead
    (record c.take_walk.new.self { track = c.go_forwards.new.track }) refl
    c.go_forwards.ensures.same_run c.stand.ensures.same_run c.go_forwards.ensures.stays
    (λ run place track stands.
    let way = c.in_ok-walk-in-Ahead.ensures.goes_on run place track stands in
    (way.0, way.1, (way.2.arrived, way.2.put)))
    c.stand.ensures.gives)

pub returns-in_ok-walk-in-Back-clause-gives : goal.returns-in_ok-walk-in-Back-clause-gives
returns-in_ok-walk-in-Back-clause-gives g c =
    rw c.in-Back.is
    (went _ _ (leaves g (goal.at.returns-in_ok-walk-in-Back-clause-gives g c).After-new-seek) Back
    (record c.take_walk.new.self { track = c.go_back.new.track }) refl
    c.go_back.ensures.same_run c.stand-in-Back.ensures.same_run
    (λ run track walks. c.go_back.ensures.stays run track)
    (λ run place track stands.
    let way = c.in_ok-walk-in-Back.ensures.goes run place track stands in
    (way.0, way.1, (way.2, put_none g.W.Sink c.args.packets.now)))
    c.stand-in-Back.ensures.gives)
