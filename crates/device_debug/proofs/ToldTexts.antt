-- Texts that wait, and the packets of them that are put.
use Rattle.std.{proofs.{Common.{◌≡◌, ◌<◌, ◌+◌, ◌∙◌, ◌++◌, ℕ, suc, true, false, List, [], ◌∷◌, Result, Ok, Err, length, get_or, take, drop, refl, ap, sym, subst, append_assoc, append-nil, ⊎_elim, Some}, lemmas.{Bool.{cases_Bool, false≢true}, List.{take_more, take-append-drop}, Result.on_ok_weaker}}, specs.Prelude.{IsErr, OnOk, is_ok, if◌then◌else◌}}
use Rattle.hmac_core.specs.Hash.{Hash}
use Rattle.device_core.specs.{Device.LiveStandsFor, declared.live.Live.Live}
use Rattle.device_trace.specs.Trace.{play_of}
use Rattle.debug_link.{specs.{Console.console, Writing.{HasPut, PacketSink, PutsPackets}}, proofs.AddedText.{put_both, puts_behind, puts_failed, puts_less}}
use Rattle.debug_session.specs.Place.{Run, sight_at, logs_at, play_to, step_sight}
use Rattle.debug_walk.{specs.{Walk.{AuxFlag, Walks, place_of, second_flag}, declared.walk.Walk.Walk}, proofs.Views.some-same}
use Rattle.device_debug.{specs.Telling.{GrownText, TellsStep, bodies_of, step_bodies}, proofs.Refusals.puts-none}
use Rattle.trace_files.specs.{LineText.trace_line, declared.trace_line.TraceLine.TraceLine, TraceText.last_line}
use Rattle.outside_edge.specs.declared.sink.Sink.{Ghosts as SinkGhosts}

-- the packets of texts, one list behind another
pub bodies-both : (xs ys : List GrownText) → bodies_of (xs ++ ys) ≡ bodies_of xs ++ bodies_of ys
bodies-both [] ys = refl
bodies-both (text ∷ xs) ys =
    ap (λ (rest : List (List ℕ)). console text.bytes ++ rest) (bodies-both xs ys)
    ∙ sym (append_assoc (console text.bytes) (bodies_of xs) (bodies_of ys))

-- of one text more
pub bodies-more : (texts : List GrownText) (text : GrownText)
    → bodies_of (texts ++ text ∷ []) ≡ bodies_of texts ++ console text.bytes
bodies-more texts text =
    bodies-both texts (text ∷ [])
    ∙ ap (λ (last : List (List ℕ)). bodies_of texts ++ last) (append-nil (console text.bytes))

-- a list of texts behind a push
pub kept-is : {V E : Type 0} (old inside new : List GrownText) (value text : GrownText)
    (result : Result V E)
    → new ≡ (if is_ok result then inside ++ value ∷ [] else inside)
    → is_ok result ≡ true → inside ≡ old → value ≡ text
    → bodies_of new ≡ bodies_of old ++ console text.bytes
kept-is old inside new value text (Ok done) pushed ok same is =
    ap bodies_of pushed ∙ bodies-more inside value
    ∙ ap (λ (texts : List GrownText). bodies_of texts ++ console value.bytes) same
    ∙ ap (λ (one : GrownText). bodies_of old ++ console one.bytes) is
kept-is old inside new value text (Err error) pushed ok same is = absurd (false≢true ok)

-- the texts of a list up to one of them
module _ (texts : List GrownText) (n : ℕ) (text : GrownText) (within : n < length texts)
    (is : text ≡ get_or texts n text)
  where
    bodies-next : bodies_of (take (n + 1) texts) ≡ bodies_of (take n texts) ++ console text.bytes
    bodies-next =
        ap bodies_of (take_more texts n text within)
        ∙ bodies-more (take n texts) (get_or texts n text)
        ∙ ap (λ (one : GrownText). bodies_of (take n texts) ++ console one.bytes) (sym is)

    -- the call of this one failed, behind those before it
    pub texts-failed : {W V U E F : Type 0} {w : SinkGhosts W} {old mid new : PacketSink W}
        {error : E} {result : Result V F}
        → IsErr result
        → HasPut w old mid (bodies_of (take n texts))
        → PutsPackets {V = U} w mid new (console text.bytes) (Err error)
        → PutsPackets w old new (bodies_of texts) result
    texts-failed {U = U} {w = w} failed put puts =
        let later : List (List ℕ) = bodies_of (drop (n + 1) texts) in
        let whole : bodies_of texts ≡ (bodies_of (take n texts) ++ console text.bytes) ++ later =
        ap bodies_of (sym (take-append-drop (n + 1) texts)) ∙ bodies-both (take (n + 1) texts) _
        ∙ ap (λ (front : List (List ℕ)). front ++ later) bodies-next in
        puts_failed _ _ _ _ _ failed
        (rw whole (puts_less w {V = U} _ _ _ later _ (puts_behind w _ _ _ _ _ _ put puts)).prefix)

    -- this one was put too
    pub texts-next : {W : Type 0} {w : SinkGhosts W} {old mid new : PacketSink W}
        → HasPut w old mid (bodies_of (take n texts)) → HasPut w mid new (console text.bytes)
        → HasPut w old new (bodies_of (take (n + 1) texts))
    texts-next put more = rw bodies-next (put_both _ _ _ _ _ _ put more)

module _ {W : Type 0} {w : SinkGhosts W} where
  module _ {V E : Type 0} {old new : PacketSink W} {waiting left : List GrownText} {run : Run}
      {step : ℕ} {result : Result V E} {all : List (List ℕ)}
      (whole : all ≡ bodies_of waiting ++ step_bodies run step)
    where
      -- at a boundary all is put
      pub tells-all : (sight_at run (suc step)).boundary ≡ true
          → PutsPackets w old new all result → OnOk result (left ≡ [])
          → TellsStep w old new waiting left run step result
      tells-all here puts emptied =
          record {
            put = all;
            later = [];
            whole = append-nil all ∙ whole;
            has_put = puts.all;
            prefix = puts.prefix;
            waits = on_ok_weaker result (λ (is : left ≡ []). sym (ap bodies_of is)) emptied;
            none_waits = λ same. refl;
            none_put = λ away. absurd (cc (away, here));
          }

      -- and elsewhere it waits
      pub tells-later : (sight_at run (suc step)).boundary ≡ false
          → PutsPackets w old new [] result → OnOk result (all ≡ bodies_of left)
          → TellsStep w old new waiting left run step result
      tells-later away puts waits =
          record {
            put = [];
            later = all;
            whole = whole;
            has_put = puts.all;
            prefix = puts.prefix;
            waits = waits;
            none_waits = λ here. absurd (cc (away, here));
            none_put = λ same. refl;
          }

  -- behind a step nothing was put, since there was no memory for its lines
  pub tells-none : {V E : Type 0} {now : PacketSink W} {waiting new : List GrownText} {run : Run}
      {step : ℕ} (result : Result V E)
      → IsErr result → TellsStep w now now waiting new run step result
  tells-none (Ok value) failed = absurd (false≢true failed)
  tells-none {run = run} {step = step} (Err error) failed =
      ⊎_elim (λ here. tells-all refl here (puts-none _ _ _ _ failed) tt)
      (λ away. tells-later refl away (puts-none _ _ _ _ failed) tt)
      (cases_Bool (sight_at run (suc step)).boundary)

-- the last step of a walk, as its device stands for it
pub last-stands : {D : Type 0} {hash : Hash D} (run : Run) (walk : Walk D)
    {live : Live D AuxFlag} (step : ℕ)
    → live ≡ walk.live → Walks hash run walk → place_of walk ≡ suc step
    → LiveStandsFor hash second_flag live run.start (play_of run.events_at (suc step))
last-stands {hash = hash} run walk step same walks made =
    rw same
    (subst (λ (steps : ℕ). LiveStandsFor hash second_flag walk.live run.start
    (play_of run.events_at steps)) made walks.stands)

-- The text of a step.

-- the line that a device tells of its last step
pub traced-text : (run : Run) (step : ℕ) (line : TraceLine)
    → last_line run.start (play_to run (suc step)) ≡ Some line
    → trace_line step line ≡ (step_sight run step).trace_line
unfolding logs_at step_sight
traced-text run step line is = ap (trace_line step) (sym (some-same is))
