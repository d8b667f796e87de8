-- What a debugger answers from another place, and behind lines that it told.
use Rattle.std.{proofs.Common.{◌≡◌, ◌≤◌, ◌∙◌, ℕ, [], List, Option, Some, Result, Ok, Err, IsErr, refl, ap, sym, subst, arith}, specs.Prelude.codes}
use Rattle.hmac_core.specs.Hash.{Hash}
use Rattle.outside_edge.specs.{Sink.TakesPrefix, declared.sink.Sink.Ghosts as SinkGhosts}
use Rattle.debug_link.specs.{Console.console, Conversation.{HaveCome, count_of}, Packet.packets_of, Writing.{Answers, HasPut, PacketSink, PutsPackets}, declared.{answer_fault.AnswerFault.AnswerFault, connection.Connection.Connection}}
use Rattle.debug_session.{specs.{Request.most_steps, declared.{command.{Going.Going, Way.Way}, request.Request.{Request, TheVariants.Until}, stop.Stop.Stop}, Cause.{Step, cause}, Going.{Standing, interrupted, last_of, step_of, stop_on, where_to}, Monitor.request_text, Place.{Run, sight_at, view_of}, Session.{Session, after_request, answer_to_request, goes, lines_to, says, stands_at}, StopReply.stop_reply, Stops.Stops}, proofs.Views.view-at}
use Rattle.debug_walk.specs.{Copies.{TrackStandsFor, played_run}, Walk.{OfWalk, Walks, place_of}, declared.{track.Track.Track, walk.Walk.Walk}}
use Rattle.device_debug.{specs.{Going.{HasArrived, StandsAt}, Session.{DebuggerStandsFor, Gives, MayGive, run_at, view_in}, declared.debugger.Debugger.Debugger}, proofs.Answering.{answered-behind, failed-before, halted-here}}

-- no request changes the place
place-kept : (session : Session) (request : Request)
    → (after_request session request).place ≡ session.place
place-kept session (Until number) = refl
place-kept session request = refl

module _ {D W : Type 0} (hash : Hash D) (w : SinkGhosts W) where
  -- why it stands where it stands now
  pub stood : (old new : PacketSink W) (debugger : Debugger D) (halted : Walk D) (stop : Stop)
      (now : Standing) (session : Session) (body : List ℕ) (result : Result Connection AnswerFault)
      → body ≡ stop_reply stop
      → HasArrived hash (run_at hash debugger) now halted stop
      → TrackStandsFor hash debugger.track (run_at hash debugger)
      → debugger.stops ≡ session.stops
      → Gives hash w old new (record debugger { halted = Some halted; stop = stop })
      (record debugger { halted = Some halted; stop = stop }) (λ session. says session body) result
      → Answers (DebuggerStandsFor hash) w old new
      (record debugger { halted = Some halted; stop = stop }) (stands_at session now []) result
  stood old new debugger halted stop now session body result is arrived track stops gives =
      let there : Session = record session { place = now.place; stop = now.stop } in
      rw (is ∙ ap stop_reply arrived.stop_is) at (gives.answers there (record {
        halted = halted;
        halted_is = refl;
        stands = arrived.stands;
        track = track;
        stops = stops;
        stop = arrived.stop_is;
      }))

  -- it stands there, wherever its device was halted
  abbrev pub StandsThere : PacketSink W → PacketSink W → Debugger D → Debugger D → Walk D → Stop
      → Result Connection AnswerFault → Type 0
  StandsThere old new debugger after halted stop result =
      (now : Standing) (session : Session)
      → HasArrived hash (run_at hash debugger) now halted stop
      → TrackStandsFor hash debugger.track (run_at hash debugger)
      → debugger.stops ≡ session.stops
      → Answers (DebuggerStandsFor hash) w old new after (stands_at session now []) result

  -- a device that leaves the place of its session, with this track and these stops, for a step
  pub record Leaves (debugger : Debugger D) (halted : Walk D) (track : Track D) (stops : Stops)
      (step : Option Step) (going : Going) : Type 0 where
    pub is : debugger.halted ≡ Some halted
    pub track_is : track ≡ debugger.track
    pub stops_is : stops ≡ debugger.stops
    pub step_is : OfWalk hash halted (λ run place.
        step ≡ step_of going (sight_at run place).level)

  -- what holds of its way, wherever it stands: where it ends, with an interrupt or none
  abbrev pub Goes : Option ℕ → Option ℕ → Walk D → Track D → Stops → Option Step → Way
      → (Run → ℕ → Standing → Type 0) → Type 0
  Goes left left_new halted track stops step way holds =
      (run : Run) (place : ℕ) → TrackStandsFor hash track run → StandsAt hash run place halted
      → (interrupt : Option ℕ) × HaveCome (count_of interrupt) left left_new
      × holds run place
      (interrupted (view_of run) place interrupt
      (stop_on way
      (cause (view_of run) stops (record { way = way; last = last_of way place; step = step }))
      place))

  abbrev pub MayGo : Option ℕ → Option ℕ → PacketSink W → PacketSink W → Debugger D → Debugger D
      → Way → Going → Result Connection AnswerFault → Type 0
  MayGo left left_new old new debugger after way going result =
      MayGive hash w left left_new old new debugger after
      (λ interrupt session. goes (view_in hash debugger) interrupt session way going) result

  module _ {left left_new : Option ℕ} {debugger : Debugger D} {halted : Walk D} {track : Track D}
      {stops : Stops} {step : Option Step} {going : Going}
      (leaves : Leaves debugger halted track stops step going) (way : Way)
    where
      -- so it holds where its session stands, and this is answered there
      goes-so : {after : Debugger D} {old new : PacketSink W}
          {result : Result Connection AnswerFault} (holds : Run → ℕ → Standing → Type 0)
          → after.track.run ≡ track.run → Goes left left_new halted track stops step way holds
          → ((session : Session) (now : Standing) → DebuggerStandsFor hash debugger session
          → Walks hash (run_at hash debugger) halted
          → holds (run_at hash debugger) session.place now
          → Answers (DebuggerStandsFor hash) w old new after
          (stands_at session now (lines_to (view_in hash debugger) way session.place now)) result)
          → MayGo left left_new old new debugger after way going result
      goes-so holds same_run on answered =
          record {
            answers = λ session stands.
                let run : Run = run_at hash debugger in
                let here : StandsAt hash run session.place halted =
                halted-here hash debugger session halted leaves.is stands in
                let same : step ≡ step_of going (view_of run session.place).level =
                rw (view-at run session.place here.within, ← here.place_is)
                (leaves.step_is run here.walks) in
                let one = rw (leaves.stops_is ∙ stands.stops, same) at
                (on run session.place (rw leaves.track_is stands.track) here) in
                (one.0, one.1, answered session _ stands here.walks one.2);
            same_run = same_run ∙ ap (λ (one : Track D). one.run) leaves.track_is;
          }

      -- it arrived, and the lines of its way were put
      pub went : (mid : Debugger D) {after : Debugger D} {old between new : PacketSink W}
          {end : Walk D} {stop : Stop} {result : Result Connection AnswerFault}
          → mid.stops ≡ stops → mid.track.run ≡ track.run → after.track.run ≡ mid.track.run
          → ((run : Run) → TrackStandsFor hash track run → Walks hash run halted
          → TrackStandsFor hash mid.track run)
          → Goes left left_new halted track stops step way (λ run place now.
          HasArrived hash run now end stop
          × HasPut w old between (lines_to (view_of run) way place now))
          → StandsThere between new mid after end stop result
          → MayGo left left_new old new debugger after way going result
      went mid {after} {old} {between} {new} {end} {stop} {result} stops_are same_run after_run
          stays on there =
          let run : Run = run_at hash debugger in
          let same : run ≡ run_at hash mid =
          ap (played_run hash) (sym (same_run ∙ ap (λ (one : Track D). one.run) leaves.track_is)) in
          goes-so (λ run place now. HasArrived hash run now end stop
          × HasPut w old between (lines_to (view_of run) way place now))
          (after_run ∙ same_run) on (λ session now stands walks held.
          answered-behind (DebuggerStandsFor hash) w old between new after
          (stands_at session now []) (lines_to (view_of run) way session.place now) result held.1
          (there now session (subst (λ (one : Run). HasArrived hash one now end stop) same held.0)
          (subst (TrackStandsFor hash mid.track) same
          (stays run (rw leaves.track_is stands.track) walks))
          (stops_are ∙ leaves.stops_is ∙ stands.stops)))

      -- it failed on its way
      pub failed-on : {after : Debugger D} {old new : PacketSink W}
          {result : Result Connection AnswerFault}
          → IsErr result → after.track.run ≡ track.run
          → Goes left left_new halted track stops step way (λ run place now.
          TakesPrefix w.stands old.sink new.sink
          (packets_of (lines_to (view_of run) way place now)))
          → MayGo left left_new old new debugger after way going result
      failed-on {after} {old} {new} {result} failed same_run on =
          goes-so (λ run place now. TakesPrefix w.stands old.sink new.sink
          (packets_of (lines_to (view_of run) way place now)))
          same_run on (λ session now stands walks held.
          failed-before (DebuggerStandsFor hash) w old new after (stands_at session now [])
          (lines_to (view_in hash debugger) way session.place now) result failed held)

  -- it told what a user asked for, after the request was kept
  abbrev pub TellsRequest : {V : Type 0} → PacketSink W → PacketSink W → Debugger D → Walk D
      → Request → Result V AnswerFault → Type 0
  TellsRequest old new debugger halted request result =
      (run : Run)
      → TrackStandsFor hash debugger.track run
      → Walks hash run halted
      → place_of halted ≤ most_steps
      → PutsPackets w old new (console (request_text (view_of run) (place_of halted) request))
      result

  abbrev pub KeepsRequest : Debugger D → Debugger D → Request → Type 0
  KeepsRequest debugger kept request =
      (session : Session) → DebuggerStandsFor hash debugger session
      → DebuggerStandsFor hash kept (after_request session request)

  module _ {debugger kept : Debugger D} {halted : Walk D} (request : Request)
      (run_is : kept.track.run ≡ debugger.track.run) (is : kept.halted ≡ Some halted)
      (keeps : KeepsRequest debugger kept request)
    where
      tells-here : {V : Type 0} (old new : PacketSink W) (result : Result V AnswerFault)
          (session : Session) → DebuggerStandsFor hash debugger session
          → TellsRequest old new kept halted request result
          → PutsPackets w old new
          (console (request_text (view_in hash debugger) session.place request)) result
      tells-here old new result session stands tells =
          let there : Session = after_request session request in
          let here : StandsAt hash (run_at hash kept) there.place halted =
          halted-here hash kept there halted is (keeps session stands) in
          let same : place_of halted ≡ session.place =
          here.place_is ∙ place-kept session request in
          rw (run_is, same) at (tells (run_at hash kept) (keeps session stands).track here.walks
          (omega (arith, here.place_is, here.within)))

      pub told-request : {V : Type 0} {old mid new : PacketSink W} (value : V)
          {result : Result Connection AnswerFault}
          → TellsRequest old mid kept halted request (Ok value)
          → Gives hash w mid new kept kept (λ session. says session (codes "OK")) result
          → Gives hash w old new debugger kept
          (λ session. answer_to_request (view_in hash debugger) session request) result
      told-request {old = old} {mid} {new} value {result} tells gives =
          record {
            answers = λ session stands.
                let there : Session = after_request session request in
                answered-behind (DebuggerStandsFor hash) w old mid new kept
                (says there (codes "OK"))
                (console (request_text (view_in hash debugger) session.place request)) result
                (tells-here old mid (Ok value) session stands tells).all
                (gives.answers there (keeps session stands));
            same_run = run_is;
          }

      pub request-failed : {V : Type 0} {old new : PacketSink W} (fault : AnswerFault)
          {result : Result Connection AnswerFault} → IsErr result
          → TellsRequest {V = V} old new kept halted request (Err fault)
          → Gives hash w old new debugger kept
          (λ session. answer_to_request (view_in hash debugger) session request) result
      request-failed {V} {old} {new} fault {result} failed tells =
          record {
            answers = λ session stands.
                failed-before (DebuggerStandsFor hash) w old new kept
                (says (after_request session request) (codes "OK"))
                (console (request_text (view_in hash debugger) session.place request)) result
                failed (tells-here {V = V} old new (Err fault) session stands tells).prefix;
            same_run = run_is;
          }
