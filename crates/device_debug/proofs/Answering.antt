-- What a debugger answers, wherever its session stands.
use Rattle.std.{proofs.{Common.{◌≡◌, ◌∙◌, ℕ, Bool, true, false, List, [], ◌∷◌, Option, Some, None, Result, Ok, Err, IsErr, refl, ap, sym, ◌++◌}, lemmas.{Option.same_Some, Bool.false≢true, List.append-nil}}, specs.Prelude.{MatchOption, codes, if◌then◌else◌}}
use Rattle.hmac_core.specs.Hash.{Hash}
use Rattle.outside_edge.{specs.{Sink.{Takes, TakesPrefix}, declared.sink.Sink.Ghosts as SinkGhosts}, proofs.SinkLemmas.{prefix_after, prefix_of_more}}
use Rattle.debug_link.{specs.{Conversation.{Answer, HaveCome, count_of}, Packet.{packet_of, packets_of}, Writing.{Answers, PacketSink, HasPut}, declared.{answer_fault.AnswerFault.AnswerFault, connection.Connection.{Connection, TheVariants.{Closed}}}}, proofs.{AddedText.{put_none, packets-both, put_both}, Interrupts.none-came}}
use Rattle.debug_session.specs.{Command.command_of, declared.request.Request.{Request, TheVariants.Until}, Place.{Run, view_of}, Session.{Session, after_request, answer_of, closes, reply, says, with_stops}, Stops.Stops}
use Rattle.debug_walk.specs.{Copies.played_run, Walk.OfWalk, declared.walk.Walk.Walk}
use Rattle.device_debug.specs.{Going.StandsAt, Session.{DebuggerStandsFor, Gives, MayGive, RunSession, StandsInRun, in_run, run_at, run_reply}, declared.{debugger.Debugger.Debugger, run_debugger.RunDebugger.RunDebugger}}
use Rattle.device_play.proofs.WriteCounts.{nothing-begun}

-- Answers that were put, whoever stands behind them.

module _ {T S W : Type 0} (stands : T → S → Type 0) (w : SinkGhosts W) where
  -- a prefix of their packets was put
  half-answered : {old new : PacketSink W} {answerer : T} {answer : Answer S}
      (result : Result Connection AnswerFault)
      → IsErr result → TakesPrefix w.stands old.sink new.sink (packets_of answer.packets)
      → Answers stands w old new answerer answer result
  half-answered (Ok connection) is prefix = absurd (false≢true is)
  half-answered (Err fault) is prefix = record { all = tt; prefix = prefix }

  -- nothing was
  none-answered : {same : PacketSink W} {answerer : T} {answer : Answer S}
      {result : Result Connection AnswerFault}
      → IsErr result → Answers stands w same same answerer answer result
  none-answered {same} {answer = answer} {result} is =
      half-answered result is (nothing-begun w.stands same.sink (packets_of answer.packets))

  -- others were put before them
  pub answered-behind : (old mid new : PacketSink W) (answerer : T) (answer : Answer S)
      (bodies : List (List ℕ)) (result : Result Connection AnswerFault)
      → HasPut w old mid bodies → Answers stands w mid new answerer answer result
      → Answers stands w old new answerer
      (record answer { packets = bodies ++ answer.packets }) result
  answered-behind old mid new answerer answer bodies (Ok connection) put answers =
      record {
        all = record {
          connection_is = answers.all.connection_is;
          stood = answers.all.stood;
          puts = put_both w old mid new bodies answer.packets put answers.all.puts;
        };
        prefix = tt;
      }
  answered-behind old mid new answerer answer bodies (Err fault) put answers =
      record {
        all = tt;
        prefix = rw (packets-both bodies answer.packets)
            (prefix_after w.stands old.sink mid.sink new.sink (packets_of bodies)
            (packets_of answer.packets) put.takes answers.prefix);
      }

  -- those before them could not be put
  pub failed-before : (old new : PacketSink W) (answerer : T) (answer : Answer S)
      (bodies : List (List ℕ)) (result : Result Connection AnswerFault)
      → IsErr result → TakesPrefix w.stands old.sink new.sink (packets_of bodies)
      → Answers stands w old new answerer
      (record answer { packets = bodies ++ answer.packets }) result
  failed-before old new answerer answer bodies result is prefix =
      half-answered result is
      (rw (packets-both bodies answer.packets)
      (prefix_of_more w.stands old.sink new.sink (packets_of bodies) (packets_of answer.packets)
      prefix))

module _ {D : Type 0} (hash : Hash D) where
  -- its device is halted there
  pub halted-here : (debugger : Debugger D) (session : Session) (halted : Walk D)
      → debugger.halted ≡ Some halted → DebuggerStandsFor hash debugger session
      → StandsAt hash (run_at hash debugger) session.place halted
  halted-here debugger session halted is stands =
      rw (same_Some stands.halted halted (sym stands.halted_is ∙ is)) at stands.stands

  -- so what holds of the device's place holds of the session's
  pub holds-here : (debugger : Debugger D) (session : Session) (halted : Walk D)
      (holds : Run → ℕ → Type 0)
      → debugger.halted ≡ Some halted → DebuggerStandsFor hash debugger session
      → OfWalk hash halted holds → holds (run_at hash debugger) session.place
  holds-here debugger session halted holds is stands of_halted =
      let here = halted-here debugger session halted is stands in
      rw here.place_is at (of_halted (run_at hash debugger) here.walks)

  -- with other stops it stands for a session with other stops
  pub other-stops : {debugger : Debugger D} {session : Session} {one other : Stops}
      → one ≡ other → DebuggerStandsFor hash debugger session
      → DebuggerStandsFor hash (record debugger { stops = one })
      (record session { stops = other })
  other-stops same stands =
      record {
        halted = stands.halted;
        halted_is = stands.halted_is;
        stands = stands.stands;
        track = stands.track;
        stops = same;
        stop = stands.stop;
      }

  -- a request that is no `until` changes nothing of its session
  pub no-until : (debugger : Debugger D) (session : Session) (request : Request)
      → ((number : ℕ) → request ≡ Until number → ⊥)
      → DebuggerStandsFor hash debugger session
      → DebuggerStandsFor hash debugger (after_request session request)
  no-until debugger session (Until number) other stands = absurd (other number refl)
  no-until debugger session request other stands = stands

module _ {D W : Type 0} {hash : Hash D} {w : SinkGhosts W} where
  -- packets are put, behind which the connection is open or closed
  all-given : {old new : PacketSink W} {debugger : Debugger D} {bodies : List (List ℕ)}
      (connection : Connection)
      → HasPut w old new bodies
      → Gives hash w old new debugger debugger
      (λ session. record { session = session; packets = bodies; connection = connection })
      (Ok connection)
  all-given connection puts =
      record {
        answers = λ session stands.
            record {
              all = record { connection_is = refl; stood = stands; puts = puts };
              prefix = tt;
            };
        same_run = refl;
      }

  -- one packet is
  pub packet-given : {old new : PacketSink W} {debugger : Debugger D} (body : List ℕ)
      (connection : Connection)
      → Takes w.stands old.sink new.sink (packet_of body) → new.last ≡ packet_of body
      → Gives hash w old new debugger debugger
      (λ session. record { session = session; packets = body ∷ []; connection = connection })
      (Ok connection)
  unfolding packets_of
  packet-given body connection takes last =
      all-given connection
      (record { takes = rw (append-nil (packet_of body)) takes; last = last })

  -- or a prefix of it
  pub half-given : {old new : PacketSink W} {debugger : Debugger D} (body : List ℕ)
      (connection : Connection) {result : Result Connection AnswerFault}
      → IsErr result → TakesPrefix w.stands old.sink new.sink (packet_of body)
      → Gives hash w old new debugger debugger
      (λ session. record { session = session; packets = body ∷ []; connection = connection })
      result
  unfolding packets_of
  half-given {old} {new} body connection {result} is prefix =
      record {
        answers = λ session stands.
            half-answered _ _ result is
            (prefix_of_more w.stands old.sink new.sink (packet_of body) [] prefix);
        same_run = refl;
      }

  -- nothing is put
  pub none-said : {same : PacketSink W} {old new : Debugger D} {answer : Session → Answer Session}
      {result : Result Connection AnswerFault}
      → IsErr result → new.track.run ≡ old.track.run → Gives hash w same same old new answer result
  none-said is run =
      record { answers = λ session stands. none-answered _ _ is; same_run = run }

  pub may-fail : {left left_new : Option ℕ} {same : PacketSink W} {old new : Debugger D}
      {answer : Option ℕ → Session → Answer Session} {result : Result Connection AnswerFault}
      → HaveCome 0 left left_new → IsErr result → new.track.run ≡ old.track.run
      → MayGive hash w left left_new same same old new answer result
  may-fail came is run =
      record { answers = λ session stands. (None, came, none-answered _ _ is); same_run = run }

  -- an answer that nothing interrupts
  pub uninterrupted : {left : Option ℕ} {old new : PacketSink W} {before after : Debugger D}
      {answer : Session → Answer Session} {result : Result Connection AnswerFault}
      → Gives hash w old new before after answer result
      → MayGive hash w left left old new before after (λ interrupt. answer) result
  uninterrupted {left} gives =
      record {
        answers = λ session stands. (None, none-came left, gives.answers session stands);
        same_run = gives.same_run;
      }

  -- the connection is closed without a packet
  pub closed-silently : {same : PacketSink W} {debugger : Debugger D}
      → Gives hash w same same debugger debugger (λ session. closes session []) (Ok Closed)
  closed-silently = all-given Closed (put_none _ _)

  -- what was answered by a debugger that had changed
  behind-change : {old new : PacketSink W} {before changed after : Debugger D}
      (change : Session → Session) {answer said : Session → Answer Session}
      {result : Result Connection AnswerFault}
      → changed.track.run ≡ before.track.run
      → ((session : Session) → DebuggerStandsFor hash before session
      → DebuggerStandsFor hash changed (change session)
      × (said (change session) ≡ answer session))
      → Gives hash w old new changed after said result
      → Gives hash w old new before after answer result
  behind-change change run changes gives =
      record {
        answers = λ session here.
            let there = changes session here in
            rw there.1 at (gives.answers (change session) there.0);
        same_run = gives.same_run ∙ run;
      }

  -- what was put is what the session has to say
  pub said-so : {old new : PacketSink W} {debugger after : Debugger D} (body : List ℕ)
      (text : Session → List ℕ) {result : Result Connection AnswerFault}
      → ((session : Session) → DebuggerStandsFor hash debugger session → body ≡ text session)
      → Gives hash w old new debugger after (λ session. says session body) result
      → Gives hash w old new debugger after (λ session. says session (text session)) result
  said-so body text same gives =
      behind-change (λ session. session) refl
      (λ session stands. (
        stands,
        ap (λ (one : List ℕ). says session one) (same session stands),
      ))
      gives

  -- it was said whether the stops could change
  stops-said : {old new : PacketSink W} {debugger after : Debugger D} (stops : Stops)
      (asked : Stops → Option Stops) (found : Option Stops) (is_set : Bool)
      {result : Result Connection AnswerFault}
      → asked debugger.stops ≡ found
      → MatchOption found ((is_set ≡ false) × (stops ≡ debugger.stops))
      (λ other. (is_set ≡ true) × (stops ≡ other))
      → Gives hash w old new (record debugger { stops = stops }) after
      (λ session. says session (if is_set then codes "OK" else codes "E01")) result
      → Gives hash w old new debugger after
      (λ session. with_stops session (asked session.stops)) result
  stops-said stops asked None is_set found is gives =
      behind-change (λ session. session) refl
      (λ session stands. (
        other-stops hash (is.1 ∙ stands.stops) stands,
        ap (with_stops session) (sym found ∙ ap asked stands.stops),
      ))
      (rw is.0 at gives)
  stops-said stops asked (Some other) is_set found is gives =
      behind-change (λ session. record session { stops = other }) refl
      (λ session stands. (
        other-stops hash is.1 stands,
        ap (with_stops session) (sym found ∙ ap asked stands.stops),
      ))
      (rw is.0 at gives)

  pub stops-asked : {old new : PacketSink W} {debugger after : Debugger D} (stops : Stops)
      (asked : Stops → Option Stops) (is_set : Bool) {result : Result Connection AnswerFault}
      → MatchOption (asked debugger.stops) ((is_set ≡ false) × (stops ≡ debugger.stops))
      (λ other. (is_set ≡ true) × (stops ≡ other))
      → Gives hash w old new (record debugger { stops = stops }) after
      (λ session. says session (if is_set then codes "OK" else codes "E01")) result
      → Gives hash w old new debugger after
      (λ session. with_stops session (asked session.stops)) result
  stops-asked {debugger = debugger} stops asked is_set is gives =
      stops-said stops asked (asked debugger.stops) is_set refl is gives

  -- what is answered is answered in its run
  answered-in_run : {I : Type 0} {old new : PacketSink W} (before after : RunDebugger D I)
      (same_run : after.debugger.track.run ≡ before.debugger.track.run)
      (answer : Run → Session → Answer Session) (result : Result Connection AnswerFault)
      (now : RunSession)
      → StandsInRun hash before now
      → Answers (DebuggerStandsFor hash) w old new after.debugger
      (answer (run_at hash before.debugger) now.session) result
      → Answers (StandsInRun hash) w old new after
      (in_run now.run (answer now.run now.session)) result
  answered-in_run before after same_run answer (Ok connection) now stands is =
      let answers = rw stands.0 at is in
      record {
        all = record {
          connection_is = answers.all.connection_is;
          stood = (ap (played_run hash) same_run ∙ stands.0, answers.all.stood);
          puts = answers.all.puts;
        };
        prefix = tt;
      }
  answered-in_run before after same_run answer (Err fault) now stands is =
      record { all = tt; prefix = (rw stands.0 at is).prefix }

  -- and so a body is
  pub replied : {I : Type 0} {left left_new : Option ℕ} {old new : PacketSink W}
      (before after : RunDebugger D I) (body : List ℕ) {result : Result Connection AnswerFault}
      → MayGive hash w left left_new old new before.debugger after.debugger
      (λ interrupt session.
      answer_of (view_of (run_at hash before.debugger)) interrupt session (command_of body)) result
      → (now : RunSession) → StandsInRun hash before now
      → (interrupt : Option ℕ) × HaveCome (count_of interrupt) left left_new
      × Answers (StandsInRun hash) w old new after (run_reply interrupt now body) result
  unfolding reply
  replied before after body {result} gives now stands =
      let one = gives.answers now.session stands.1 in (
        one.0,
        one.1,
        answered-in_run before after gives.same_run
            (λ run session. answer_of (view_of run) one.0 session (command_of body)) result now
            stands one.2,
      )
