-- What was put once a source was served, its end line among it.
use Rattle.std.{proofs.{Common.{◌≡◌, ◌≤◌, ◌+◌, ◌++◌, ◌∙◌, ◌⊎◌, ℕ, suc, List, [], ◌∷◌, Some, Result, Ok, Err, length, take, drop, refl, ap, sym, subst, arith, inl, inr, append_assoc, append-nil, length-append, ⊎_elim}, lemmas.Bool.cases_Bool}, specs.{Prelude.{codes, nat_eq}, declared.alloc.AllocError.AllocError}}
use Rattle.device_types.specs.{Address.Bytes, TraceFlag.Flag}
use Rattle.hmac_core.specs.Hash.{Hash}
use Rattle.outside_edge.{specs.{Buffer.{Buffer, BufferStandsFor}, Calls.Rose, Sink.{CountsFaults, Puts, Takes, TakesPrefix}, declared.{sink.{Failed.Failed, Sink.Ghosts as SinkGhosts}, source.Source.Ghosts as SourceGhosts}}, proofs.{Counts.rose_since, SinkLemmas.{prefix_after, prefix_of_more, takes_both}}}
use Rattle.source_server.specs.{HeldLine.short_line, LineCut.{LineCut, all_lines, cut_of, empty_cut, whole_lines, with_byte, with_all_bytes, with_last}, Lines.{promise_of, within}, Responder.{Moment, Promise}, Serving.{EndsSo, StopsSo}, Taken.{joined_pieces, most_input}, declared.{halt.Halt.{Halt, TheVariants.{Write, Own}}, lines.Lines.Lines, served.Served.Served}}
use Rattle.device_trace.specs.Start.{Start}
use Rattle.device_live.specs.{Answer.{or_refusal, standing_line}, Conversation.{answer_to, conversation, talk_of, StopsLife, life_promise}, Faults.end_with, Life.{Life, at_power_on}, Living.LivingStandsFor, LineResponder.{AreFew, HasTold, LiveStart, StopsTold, live_promise}, declared.living.Living.Living}
use Rattle.source_server.specs.declared.served.Served.TheVariants as served
use Rattle.device_live.proofs.serving.serve_lines.Goals as goal

-- bytes have no more lines than bytes
byte-lines : (cut : LineCut) (byte : ℕ)
    → length (with_byte cut byte).lines + length (with_byte cut byte).rest
    ≤ length cut.lines + length cut.rest + 1
byte-lines cut byte =
    ⊎_elim
    (λ end. rw end (omega arith))
    (λ other. rw other (omega (arith, length-append cut.rest (byte ∷ []))))
    (cases_Bool (nat_eq byte 10))

cut-lines : (cut : LineCut) (bytes : List ℕ)
    → length (with_all_bytes cut bytes).lines + length (with_all_bytes cut bytes).rest
    ≤ length cut.lines + length cut.rest + length bytes
cut-lines cut [] = omega arith
cut-lines cut (byte ∷ bytes) =
    omega (arith, byte-lines cut byte, cut-lines (with_byte cut byte) bytes)

last-lines : (lines : List (List ℕ)) (rest : List ℕ)
    → length (with_last lines rest) ≤ length lines + length rest
last-lines lines [] = omega arith
last-lines lines (byte ∷ rest) = omega arith

few-whole : (bytes : List ℕ) → length bytes ≤ most_input → AreFew (whole_lines bytes)
few-whole bytes few = omega (arith, few, cut-lines empty_cut bytes)

few-all : (bytes : List ℕ) → length bytes ≤ most_input → AreFew (all_lines bytes)
few-all bytes few =
    omega (
      arith,
      few,
      cut-lines empty_cut bytes,
      last-lines (cut_of bytes).lines (cut_of bytes).rest,
    )

-- what is put of lines begins with what is put of the first ones
text-more : (start : Start) (later lines : List (List ℕ))
    → (rest : Bytes) × ((talk_of start (later ++ lines)).text ≡ (talk_of start lines).text ++ rest)
text-more start [] lines = ([], sym (append-nil (talk_of start lines).text))
text-more start (line ∷ later) lines =
    let before = text-more start later lines in
    let talk = talk_of start (later ++ lines) in
    let said = or_refusal talk.life (suc (length (later ++ lines)))
    (answer_to start talk.life (short_line line)) in (
      before.0 ++ (said.told ++ said.line),
      ap (λ (text : Bytes). text ++ (said.told ++ said.line)) before.1
          ∙ append_assoc (talk_of start lines).text before.0 (said.told ++ said.line),
    )

prefix-more : {S : Type 0} (stands : S → Bytes → Type 0) (old new : S) (start : Start)
    (later lines all : List (List ℕ)) → all ≡ later ++ lines
    → TakesPrefix stands old new (talk_of start lines).text
    → TakesPrefix stands old new (conversation start all)
prefix-more stands old new start later lines all parts prefix =
    let more = text-more start later lines in
    let end : Bytes = standing_line (codes "end") start (talk_of start all).life in
    prefix_of_more stands old new (talk_of start all).text end
    (rw (parts, more.1)
    (prefix_of_more stands old new (talk_of start lines).text more.0 prefix))

-- what rose before a call has risen behind it
rose-kept : {S : Type 0} (faults : S → ℕ) (first : ℕ) (old new : S) (result : Result Unit Failed)
    → first ≤ faults old → Rose first (faults old) → CountsFaults faults old new result
    → Rose first (faults new)
rose-kept faults first old new (Ok tt) before rose counts = rw counts.quiet rose
rose-kept faults first old new (Err failed) before rose counts =
    rose_since first (faults old) (faults new) before counts.failed

-- what waited in a buffer was put, or it failed
record IsFinished {W : Type 0} (w : SinkGhosts W) (buffer : Buffer W) (out : W)
    (result : Result Unit Failed) : Type 0 where
  pub puts : (begun : Buffer W) (text : List ℕ) → begun.waiting ≡ []
      → Takes (BufferStandsFor w.stands) begun buffer text
      → Puts w.stands begun.sink out text result
  pub prefix : (begun : Buffer W) (text : List ℕ) → begun.waiting ≡ []
      → TakesPrefix (BufferStandsFor w.stands) begun buffer text
      → TakesPrefix w.stands begun.sink out text
  pub counts : CountsFaults w.faults buffer.sink out result
  pub idle : buffer.waiting ≡ [] → (out ≡ buffer.sink) × (result ≡ Ok tt)

-- the end line was put where all was answered, or it failed
record HasEnded {D G W : Type 0} (hash : Hash D) (flag : Flag G) (w : SinkGhosts W)
    (start : Start) (living : Living D G) (old new : Buffer W) (how : Served AllocError)
    (result : Result Unit Failed) : Type 0 where
  pub end : how ≡ served.Done → (life : Life) → LivingStandsFor hash flag living start life
      → Puts (BufferStandsFor w.stands) old new (standing_line (codes "end") start life) result
  pub other : ¬ (how ≡ served.Done) → (result ≡ Ok tt) × (new ≡ old)
  pub counts : CountsFaults w.faults old.sink new.sink result

abbrev halt_with : Halt AllocError → Result Unit Failed → Halt AllocError
halt_with why (Ok tt) = why
halt_with why (Err failed) = Write

module _ {D G W : Type 0} (hash : Hash D) (flag : Flag G) (w : SinkGhosts W) (start : Start)
    (first : W) (now : Moment (Lines (Living D G)) (Buffer W)) (out : W)
    (rises : w.faults first ≤ w.faults now.edge.sink) where
  abbrev begun : Buffer W
  begun = record { sink = first; waiting = [] }

  abbrev at : LiveStart W
  at = record { start = start; first = begun }

  abbrev InBuffer : Promise (Moment (Lines (Living D G)) (Buffer W)) AllocError
  InBuffer = promise_of (live_promise hash flag w at)

  -- where all that was due was put already, nothing more is
  at-rest : (lines : List (List ℕ)) (flushed : Result Unit Failed)
      → IsFinished w now.edge out flushed
      → HasTold hash flag w at (within now) lines × (now.edge.waiting ≡ [])
      → (flushed ≡ Ok tt) × Takes w.stands first out (talk_of start lines).text
  at-rest lines flushed finished so =
      let done = (finished.idle so.1).1 in
      let Put : Result Unit Failed → Type 0 =
      λ result. Puts w.stands first out (talk_of start lines).text result in (
        done,
        (subst Put done
            (finished.puts begun (talk_of start lines).text refl so.0.put)).all,
      )

  write-stopped : (later lines all : List (List ℕ)) (flushed : Result Unit Failed)
      → all ≡ later ++ lines → StopsTold w at (within now) lines Write
      → IsFinished w now.edge out flushed
      → StopsLife w start first out all Write
  write-stopped later lines all flushed parts so finished = (
    prefix-more w.stands first out start later lines all parts
        (finished.prefix begun (talk_of start lines).text refl so.0),
    rose-kept w.faults (w.faults first) now.edge.sink out flushed rises so.1 finished.counts,
  )

  own-stopped : (later lines all : List (List ℕ)) (error : AllocError)
      (flushed : Result Unit Failed)
      → all ≡ later ++ lines → StopsTold w at (within now) lines (Own error)
      → IsFinished w now.edge out flushed
      → StopsLife w start first out all (halt_with (Own error) flushed)
  own-stopped later [] all error flushed parts so finished = absurd so
  own-stopped later (line ∷ earlier) all error (Ok tt) parts so finished =
      record {
        later = later;
        line = line;
        earlier = earlier;
        parts = parts;
        put = (finished.puts begun (talk_of start earlier).text refl so).all;
      }
  own-stopped later (line ∷ earlier) all error (Err failed) parts so finished = (
    prefix-more w.stands first out start (later ++ line ∷ []) earlier all
        (parts ∙ sym (append_assoc later (line ∷ []) earlier))
        (finished.puts begun (talk_of start earlier).text refl so).prefix,
    rose_since (w.faults first) (w.faults now.edge.sink) (w.faults out) rises
        finished.counts.failed,
  )

  stopped-at : (later lines all : List (List ℕ)) (why : Halt AllocError)
      (flushed : Result Unit Failed)
      → all ≡ later ++ lines → StopsTold w at (within now) lines why
      → IsFinished w now.edge out flushed
      → StopsLife w start first out all (halt_with why flushed)
  stopped-at later lines all Write (Ok tt) parts so finished =
      write-stopped later lines all (Ok tt) parts so finished
  stopped-at later lines all Write (Err failed) parts so finished =
      write-stopped later lines all (Err failed) parts so finished
  stopped-at later lines all (Own error) flushed parts so finished =
      own-stopped later lines all error flushed parts so finished

  stopped-among : (before last : List ℕ) (why : Halt AllocError) (flushed : Result Unit Failed)
      → length (before ++ last) ≤ most_input
      → InBuffer.stopped now before last why
      → IsFinished w now.edge out flushed
      → StopsLife w start first out (all_lines (before ++ last)) (halt_with why flushed)
  stopped-among before last why flushed few so finished =
      let lines : List (List ℕ) = so.newer ++ whole_lines before in
      let all = few-all (before ++ last) few in
      let less : length (all_lines (before ++ last)) ≡ length so.later + length lines =
      ap length so.parts ∙ length-append so.later lines in
      stopped-at so.later lines (all_lines (before ++ last)) why flushed so.parts
      (so.stopped (omega (arith, all, less))) finished

  -- all was answered
  ended-all : (lines : List (List ℕ)) (edge : Buffer W) (unit : Unit {0})
      (flushed : Result Unit Failed)
      → HasTold hash flag w at (within now) lines
      → HasEnded hash flag w start now.responder.responder now.edge edge served.Done (Ok unit)
      → IsFinished w edge out flushed
      → Puts w.stands first out (conversation start lines) flushed
  ended-all lines edge unit flushed told ends finished =
      let life : Life = (talk_of start lines).life in
      finished.puts begun (conversation start lines) refl
      (takes_both (BufferStandsFor w.stands) begun now.edge edge (talk_of start lines).text
      (standing_line (codes "end") start life) told.put
      (ends.end refl life told.stands).all)

  -- or the end line failed
  end-failed : (lines : List (List ℕ)) (edge : Buffer W) (failed : Failed)
      (flushed : Result Unit Failed)
      → HasTold hash flag w at (within now) lines
      → HasEnded hash flag w start now.responder.responder now.edge edge served.Done (Err failed)
      → IsFinished w edge out flushed
      → StopsLife w start first out lines Write
  end-failed lines edge failed flushed told ends finished =
      let life : Life = (talk_of start lines).life in (
        finished.prefix begun (conversation start lines) refl
            (prefix_after (BufferStandsFor w.stands) begun now.edge edge (talk_of start lines).text
            (standing_line (codes "end") start life) told.put
            (ends.end refl life told.stands).prefix),
        rose-kept w.faults (w.faults first) edge.sink out flushed
            (omega (arith, rises, ends.counts.counted))
            (rose_since (w.faults first) (w.faults now.edge.sink) (w.faults edge.sink) rises
            ends.counts.failed) finished.counts,
      )

  module _ {R : Type 0} (r : SourceGhosts R) (old new : R) where
    -- at the end of the source, where an append of nothing is read away
    at-end : (bytes : List ℕ) → StopsLife w start first out (all_lines bytes) Write
        → StopsLife w start first out (all_lines (bytes ++ [])) Write
    at-end bytes so = rw append-nil so

    same-parts : (pieces : List (List ℕ))
        → joined_pieces (drop 1 pieces) ++ joined_pieces (take 1 pieces) ≡ joined_pieces pieces
    same-parts [] = refl
    same-parts (piece ∷ pieces) = refl

    stops : (pieces : List (List ℕ)) (why : Halt AllocError) (flushed : Result Unit Failed)
        → length (joined_pieces pieces) ≤ most_input
        → StopsSo r InBuffer old new now pieces why
        → IsFinished w now.edge out flushed
        → StopsSo r (life_promise w start first) old new out pieces (halt_with why flushed)
    stops pieces why flushed few (inl so) finished =
        inl (
          so.0,
          stopped-among (joined_pieces (drop 1 pieces)) (joined_pieces (take 1 pieces)) why flushed
              (rw (same-parts pieces) few) so.1 finished,
        )
    stops pieces why flushed few (inr so) finished =
        inr (
          so.0,
          stopped-among (joined_pieces pieces) [] why flushed
              (rw (append-nil (joined_pieces pieces)) few) so.1 finished,
        )

    all-served : (pieces : List (List ℕ)) (edge : Buffer W) (how : Served AllocError)
        (ended flushed : Result Unit Failed)
        → length (joined_pieces pieces) ≤ most_input
        → EndsSo r InBuffer old new now pieces how
        → HasEnded hash flag w start now.responder.responder now.edge edge how ended
        → IsFinished w edge out flushed
        → EndsSo r (life_promise w start first) old new out pieces
        (end_with (end_with how ended) flushed)
    all-served pieces edge served.Done (Ok one) (Ok two) few so ends finished = (
      so.0,
      (ended-all (all_lines (joined_pieces pieces)) edge one (Ok two)
          (so.1 (few-all (joined_pieces pieces) few)).0 ends finished).all,
    )
    all-served pieces edge served.Done (Ok one) (Err failed) few so ends finished =
        inr (
          so.0,
          at-end (joined_pieces pieces) (
            (ended-all (all_lines (joined_pieces pieces)) edge one (Err failed)
                (so.1 (few-all (joined_pieces pieces) few)).0 ends finished).prefix,
            rose_since (w.faults first) (w.faults edge.sink) (w.faults out)
                (omega (arith, rises, ends.counts.counted)) finished.counts.failed,
          ),
        )
    all-served pieces edge served.Done (Err failed) (Ok two) few so ends finished =
        inr (
          so.0,
          at-end (joined_pieces pieces) (end-failed (all_lines (joined_pieces pieces)) edge failed
              (Ok tt) (so.1 (few-all (joined_pieces pieces) few)).0 ends finished),
        )
    all-served pieces edge served.Done (Err failed) (Err other) few so ends finished =
        inr (
          so.0,
          at-end (joined_pieces pieces) (end-failed (all_lines (joined_pieces pieces)) edge failed
              (Err other) (so.1 (few-all (joined_pieces pieces) few)).0 ends finished),
        )
    all-served pieces edge served.Spent ended flushed few so ends finished =
        let same = ends.other (λ is. cc is) in
        let rest = at-rest (whole_lines (joined_pieces pieces)) flushed (rw same.1 at finished)
        (so.2.1 (few-whole (joined_pieces pieces) few)) in
        rw (same.0, rest.0) (so.0, so.1, rest.1)
    all-served pieces edge served.ReadFault ended flushed few so ends finished =
        let same = ends.other (λ is. cc is) in
        let rest = at-rest (whole_lines (joined_pieces pieces)) flushed (rw same.1 at finished)
        (so.1.1 (few-whole (joined_pieces pieces) few)) in
        rw (same.0, rest.0) (so.0, rest.1)
    all-served pieces edge served.WriteFault ended (Ok tt) few so ends finished =
        let same = ends.other (λ is. cc is) in
        rw same.0 (stops pieces Write (Ok tt) few so (rw same.1 at finished))
    all-served pieces edge served.WriteFault ended (Err failed) few so ends finished =
        let same = ends.other (λ is. cc is) in
        stops pieces Write (Err failed) few so (rw same.1 at finished)
    all-served pieces edge (served.Own error) ended (Ok tt) few so ends finished =
        let same = ends.other (λ is. cc is) in
        rw same.0 (stops pieces (Own error) (Ok tt) few so (rw same.1 at finished))
    all-served pieces edge (served.Own error) ended (Err failed) few so ends finished =
        let same = ends.other (λ is. cc is) in
        stops pieces (Own error) (Err failed) few so (rw same.1 at finished)

pair-parts : {A B : Type 0} (pair : A × B) (one : A) (two : B) → pair ≡ (one, two)
    → (pair.0 ≡ one) × (pair.1 ≡ two)
pair-parts {A} {B} pair one two same =
    (ap (λ (each : A × B). each.0) same, ap (λ (each : A × B). each.1) same)

-- before the first byte
begins-told : {D G W : Type 0} (hash : Hash D) (flag : Flag G) (w : SinkGhosts W)
    (start : Start) (lines : Lines (Living D G)) (buffer : Buffer W) → buffer.waiting ≡ []
    → lines.held ≡ Some []
    → lines.responder.lines ≡ 0
    → LivingStandsFor hash flag lines.responder start at_power_on
    → (promise_of (live_promise hash flag w (record { start = start; first = buffer }))).answered
    (record { responder = lines; edge = buffer }) []
begins-told hash flag w start lines buffer idle held number stands =
    let told : HasTold hash flag w (record { start = start; first = buffer })
    (record { responder = lines.responder; edge = buffer }) [] = record {
      stands = stands;
      number = number;
      put = λ before holds. rw (append-nil before) holds;
      rises = omega arith;
    } in (
      record { told = λ few. told; holds = rw held refl },
      λ few. (told, idle),
    )

pub returns-clause-sink_faults : goal.returns-clause-sink_faults
returns-clause-sink_faults g c =
    let rises = c.serve-served.ensures.grows
    (record { responder = c.new-lines.result; edge = c.new-buffer.result }) (omega arith) in
    let begun : g.W.Sink.faults c.new-buffer.result.sink ≡ g.W.Sink.faults c.args.sink =
    rw c.new-buffer.ensures refl in
    omega (
      arith,
      rises,
      begun,
      c.put_end-ended.ensures.counts.counted,
      c.finish-sink.ensures.counts.counted,
    )

pub returns-clause-serves : goal.returns-clause-serves
returns-clause-serves g c = λ start stands empty.
    let hash = g.D.Digest32.hash in
    let flag = g.G.TraceFlag.flag in
    let told = begins-told hash flag g.W.Sink start c.new-lines.result c.new-buffer.result
    (rw c.new-buffer.ensures refl) (c.new-lines.ensures.held ∙ empty)
    (rw c.new-lines.ensures.responder c.new.ensures.lines)
    (rw c.new-lines.ensures.responder (c.new.ensures.lives start stands)) in
    let serves = rw c.new-buffer.ensures at (c.serve-served.ensures.serves
    (record { start = start; first = c.new-buffer.result }) told) in
    let rises = rw c.new-buffer.ensures at (c.serve-served.ensures.grows
    (record { responder = c.new-lines.result; edge = c.new-buffer.result }) (omega arith)) in
    record {
      pieces = serves.pieces;
      given = serves.given;
      ends = rw (c.with_put-2.ensures, c.with_put.ensures)
          (all-served hash flag g.W.Sink start c.args.sink
          (record { responder = c.serve-served.new.responder; edge = c.serve-served.new.edge })
          c.finish-sink.result.0 rises g.R.Source c.args.source.now c.serve-served.new.source
          serves.pieces c.put_end-ended.new.sink c.serve-served.result c.put_end-ended.result
          c.finish-sink.result.1 serves.given.few serves.ends
          (record {
            end = λ is life lives. c.put_end-ended.ensures.end is start life
                (rw c.into_responder.ensures lives);
            other = c.put_end-ended.ensures.other;
            counts = record {
              failed = c.put_end-ended.ensures.counts.failed;
              quiet = c.put_end-ended.ensures.counts.quiet;
              counted = c.put_end-ended.ensures.counts.counted;
            };
          })
          (record {
            puts = c.finish-sink.ensures.puts;
            prefix = c.finish-sink.ensures.prefix;
            counts = c.finish-sink.ensures.counts;
            idle = λ none. pair-parts _ _ _ (c.finish-sink.ensures.idle none);
          }));
    }
