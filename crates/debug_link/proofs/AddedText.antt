-- Text that is added behind a rest of text, one piece after the other.
use Rattle.std.{proofs.{Common.{◌≡◌, ◌≤◌, ◌<◌, ◌+◌, ◌∙◌, ◌++◌, ℕ, List, [], ◌∷◌, Result, Ok, Err, IsErr, refl, ap, sym, subst, append_assoc, length, take, arith, ◌-◌, zero, suc, drop}, lemmas.{Bool.false≢true, List.{append-nil, take_more, drop_all, length-drop, take_all}}, Math.Seq.{drop-append_seam, take-append_seam}}, specs.Prelude.{slice_index, slice_set}}
use Rattle.outside_edge.{specs.{Sink.{TakesPrefix, Puts}, declared.sink.Sink.Ghosts as SinkGhosts}, proofs.SinkLemmas.{prefix_after, prefix_of_more, takes_both}}
use Rattle.debug_link.specs.{Console.{AddsText, HasAdded, MOST_TEXT, console, text_body, console_bodies}, Packet.{packets_of, packet_of}, Writing.{HasPut, PacketSink, PutsPackets}, Conversation.last_packet}
use borrow.Rule.Slice.PartMut.{put_mid}

-- Packets that are put one after the other.

one_packet : (body : List ℕ) → packets_of (body ∷ []) ≡ packet_of body
unfolding packets_of
one_packet body = append-nil (packet_of body)

pub packets-both : (xs ys : List (List ℕ))
    → packets_of (xs ++ ys) ≡ packets_of xs ++ packets_of ys
unfolding packets_of
packets-both [] ys = refl
packets-both (body ∷ xs) ys =
    ap (λ (rest : List ℕ). packet_of body ++ rest) (packets-both xs ys)
    ∙ sym (append_assoc (packet_of body) (packets_of xs) (packets_of ys))

last-both : (before : List ℕ) (xs ys : List (List ℕ))
    → last_packet before (xs ++ ys) ≡ last_packet (last_packet before xs) ys
last-both before [] ys = refl
last-both before (body ∷ xs) ys = last-both (packet_of body) xs ys

module _ {W : Type 0} (w : SinkGhosts W) where
  pub put_one : {V E : Type 0} (old new : PacketSink W) (body : List ℕ) (result : Result V E)
      → Puts w.stands old.sink new.sink (packet_of body) result → new.last ≡ packet_of body
      → PutsPackets w old new (body ∷ []) result
  put_one old new body (Ok value) puts last =
      record { all = record { takes = rw (one_packet body) puts.all; last = last }; prefix = tt }
  put_one old new body (Err error) puts last =
      record { all = tt; prefix = rw (one_packet body) puts.prefix }

  -- no packet at all
  pub put_none : (now : PacketSink W) → HasPut w now now []
  unfolding packets_of
  put_none now = record { takes = λ before holds. rw (append-nil before) holds; last = refl }

  pub put_both : (old mid new : PacketSink W) (xs ys : List (List ℕ))
      → HasPut w old mid xs → HasPut w mid new ys → HasPut w old new (xs ++ ys)
  put_both old mid new xs ys first second =
      record {
        takes = rw (packets-both xs ys)
            (takes_both w.stands old.sink mid.sink new.sink (packets_of xs) (packets_of ys)
            first.takes second.takes);
        last = second.last ∙ ap (λ (one : List ℕ). last_packet one ys) first.last
            ∙ sym (last-both old.last xs ys);
      }

  -- what is put behind packets that were put
  pub puts_behind : {V E : Type 0} (old mid new : PacketSink W) (xs ys : List (List ℕ))
      (result : Result V E)
      → HasPut w old mid xs → PutsPackets w mid new ys result
      → PutsPackets w old new (xs ++ ys) result
  puts_behind old mid new xs ys (Ok value) first second =
      record { all = put_both old mid new xs ys first second.all; prefix = tt }
  puts_behind old mid new xs ys (Err error) first second =
      record {
        all = tt;
        prefix = rw (packets-both xs ys)
            (prefix_after w.stands old.sink mid.sink new.sink (packets_of xs) (packets_of ys)
            first.takes second.prefix);
      }

  -- a call that failed before the last of its packets
  pub puts_less : {V E : Type 0} (old new : PacketSink W) (xs ys : List (List ℕ)) (error : E)
      → PutsPackets {V = V} w old new xs (Err error)
      → PutsPackets {V = V} w old new (xs ++ ys) (Err error)
  puts_less old new xs ys error puts =
      record {
        all = tt;
        prefix = rw (packets-both xs ys)
            (prefix_of_more w.stands old.sink new.sink (packets_of xs) (packets_of ys) puts.prefix);
      }

  -- a call that failed where another one did
  pub puts_failed : {V E : Type 0} (old new : PacketSink W) (bodies : List (List ℕ))
      (result : Result V E)
      → IsErr result → TakesPrefix w.stands old.sink new.sink (packets_of bodies)
      → PutsPackets w old new bodies result
  puts_failed old new bodies (Ok value) is prefix = absurd (false≢true is)
  puts_failed old new bodies (Err error) is prefix = record { all = tt; prefix = prefix }

-- Text that is cut into pieces for the console.

-- how many pieces are allowed is no matter, where there is one for each byte
pub pieces-same : (one other : ℕ) (text : List ℕ) → length text ≤ one → length text ≤ other
    → console_bodies one text ≡ console_bodies other text
pieces-same zero zero [] few more = refl
pieces-same zero (suc other) [] few more = refl
pieces-same (suc one) zero [] few more = refl
pieces-same (suc one) (suc other) [] few more = refl
pieces-same zero other (byte ∷ text) few more = absurd (omega (arith, few))
pieces-same (suc one) zero (byte ∷ text) few more = absurd (omega (arith, more))
pieces-same (suc one) (suc other) (byte ∷ text) few more =
    let size = length-drop MOST_TEXT (byte ∷ text) in
    ap (λ (rest : List (List ℕ)). text_body (take MOST_TEXT (byte ∷ text)) ∷ rest)
    (pieces-same one other (drop MOST_TEXT (byte ∷ text)) (omega (arith, few, size))
    (omega (arith, more, size)))

-- the first piece, and those of the rest
pub pieces-next : (byte : ℕ) (text : List ℕ)
    → console (byte ∷ text)
    ≡ text_body (take MOST_TEXT (byte ∷ text)) ∷ console (drop MOST_TEXT (byte ∷ text))
pieces-next byte text =
    let size = length-drop MOST_TEXT (byte ∷ text) in
    ap (λ (rest : List (List ℕ)). text_body (take MOST_TEXT (byte ∷ text)) ∷ rest)
    (pieces-same (length text) (length (drop MOST_TEXT (byte ∷ text)))
    (drop MOST_TEXT (byte ∷ text)) (omega (arith, size)) (omega arith))

-- a piece that is full, and what comes behind it
pub pieces-full : (piece more : List ℕ) → length piece ≡ MOST_TEXT
    → console (piece ++ more) ≡ text_body piece ∷ console more
pieces-full [] more full = absurd (omega (arith, full))
pieces-full (byte ∷ rest) more full =
    let piece : List ℕ = byte ∷ rest in
    let front : take MOST_TEXT (piece ++ more) ≡ piece =
    subst (λ (n : ℕ). take n (piece ++ more) ≡ piece) full (take-append_seam piece more) in
    let behind : drop MOST_TEXT (piece ++ more) ≡ more =
    subst (λ (n : ℕ). drop n (piece ++ more) ≡ more) full (drop-append_seam piece more) in
    pieces-next byte (rest ++ more)
    ∙ ap (λ (one : List ℕ). text_body one ∷ console (drop MOST_TEXT (piece ++ more))) front
    ∙ ap (λ (later : List ℕ). text_body piece ∷ console later) behind

-- a text that is one piece
pub pieces-one : (piece : List ℕ) → 0 < length piece → length piece ≤ MOST_TEXT
    → console piece ≡ text_body piece ∷ []
pieces-one [] some few = absurd (omega (arith, some))
pieces-one (byte ∷ rest) some few =
    let piece : List ℕ = byte ∷ rest in
    pieces-next byte rest
    ∙ ap (λ (one : List ℕ). text_body one ∷ console (drop MOST_TEXT piece))
    (take_all MOST_TEXT piece few)
    ∙ ap (λ (later : List ℕ). text_body piece ∷ console later) (drop_all MOST_TEXT piece few)

-- what is written behind a first byte
pub written-behind : (old digits : List ℕ) (first : ℕ) → 0 < length old
    → put_mid 1 (length (slice_set old 0 first) - 1) (slice_set old 0 first) digits
    ≡ first ∷ digits
written-behind [] digits first some = absurd (omega (arith, some))
written-behind (byte ∷ rest) digits first some =
    let none : drop (length (first ∷ rest) - 1) rest ≡ [] =
    drop_all (length (first ∷ rest) - 1) rest (omega arith) in
    ap (λ (later : List ℕ). first ∷ (digits ++ later)) none
    ∙ ap (λ (later : List ℕ). first ∷ later) (append-nil digits)

regrouped : (rest one two more : List ℕ)
    → rest ++ (one ++ two) ++ more ≡ (rest ++ one) ++ (two ++ more)
regrouped rest one two more =
    append_assoc rest (one ++ two) more
    ∙ ap (λ (text : List ℕ). rest ++ text) (append_assoc one two more)
    ∙ sym (append_assoc rest one (two ++ more))

module _ {W : Type 0} (w : SinkGhosts W) where
  -- a prefix of the packets of a text was put
  abbrev pub PutsPrefix : PacketSink W → PacketSink W → List ℕ → Type 0
  PutsPrefix old new text = TakesPrefix w.stands old.sink new.sink (packets_of (console text))

  -- nothing was put
  pub prefix_none : (now : PacketSink W) (text : List ℕ) → PutsPrefix now now text
  prefix_none now text = (0, omega arith, λ before holds. rw (append-nil before) holds)

  -- no text
  pub added_none : (now : PacketSink W) (rest : List ℕ) → HasAdded w now now rest [] rest
  added_none now rest =
      record {
        bodies = [];
        put = put_none w now;
        whole = λ more. ap (λ (text : List ℕ). console (text ++ more)) (append-nil rest);
      }

  -- text that is kept
  pub added_kept : (now : PacketSink W) (rest text : List ℕ)
      → HasAdded w now now rest text (rest ++ text)
  added_kept now rest text = record { bodies = []; put = put_none w now; whole = λ more. refl }

  -- a piece that is full is put
  pub added_full : (old new : PacketSink W) (piece rest : List ℕ)
      → piece ≡ rest → length rest ≡ MOST_TEXT → HasPut w old new (text_body piece ∷ [])
      → HasAdded w old new rest [] []
  added_full old new piece rest is full put =
      record {
        bodies = text_body rest ∷ [];
        put = subst (λ (one : List ℕ). HasPut w old new (text_body one ∷ [])) is put;
        whole = λ more. ap (λ (text : List ℕ). console (text ++ more)) (append-nil rest)
            ∙ pieces-full rest more full;
      }

  -- or a prefix of its packet
  pub full_failed : (old new : PacketSink W) (piece rest : List ℕ)
      → piece ≡ rest → length rest ≡ MOST_TEXT
      → TakesPrefix w.stands old.sink new.sink (packets_of (text_body piece ∷ []))
      → (more : List ℕ) → PutsPrefix old new (rest ++ [] ++ more)
  full_failed old new piece rest is full prefix more =
      let Prefix : List (List ℕ) → Type 0 =
      λ bodies. TakesPrefix w.stands old.sink new.sink (packets_of bodies) in
      let puts : PutsPackets {V = Unit {0}} {E = Unit {0}} w old new (text_body rest ∷ [])
      (Err tt) = record {
        all = tt;
        prefix = subst (λ (one : List ℕ). Prefix (text_body one ∷ [])) is prefix;
      } in
      subst Prefix
      (sym (ap (λ (text : List ℕ). console (text ++ more)) (append-nil rest)
      ∙ pieces-full rest more full))
      (puts_less w old new (text_body rest ∷ []) (console more) tt puts).prefix

  -- one text after the other
  pub added_both : (old mid new : PacketSink W) (rest one rest_mid two rest_new : List ℕ)
      → HasAdded w old mid rest one rest_mid → HasAdded w mid new rest_mid two rest_new
      → HasAdded w old new rest (one ++ two) rest_new
  added_both old mid new rest one rest_mid two rest_new first second =
      record {
        bodies = first.bodies ++ second.bodies;
        put = put_both w old mid new first.bodies second.bodies first.put second.put;
        whole = λ more.
            ap console (regrouped rest one two more)
            ∙ first.whole (two ++ more)
            ∙ ap (λ (text : List ℕ). first.bodies ++ console text)
            (sym (append_assoc rest_mid two more))
            ∙ ap (λ (later : List (List ℕ)). first.bodies ++ later) (second.whole more)
            ∙ sym (append_assoc first.bodies second.bodies (console (rest_new ++ more)));
      }

  -- a prefix of the packets of a text behind text that was added
  pub prefix_behind : (old mid new : PacketSink W) (rest one rest_mid later : List ℕ)
      → HasAdded w old mid rest one rest_mid → PutsPrefix mid new (rest_mid ++ later)
      → PutsPrefix old new (rest ++ one ++ later)
  prefix_behind old mid new rest one rest_mid later first prefix =
      let after : List (List ℕ) = console (rest_mid ++ later) in
      let puts : PutsPackets {V = Unit {0}} {E = Unit {0}} w mid new after (Err tt) =
      record { all = tt; prefix = prefix } in
      subst (λ (bodies : List (List ℕ)). TakesPrefix w.stands old.sink new.sink (packets_of bodies))
      (sym (first.whole later))
      (puts_behind w old mid new first.bodies after (Err tt) first.put puts).prefix

  -- a prefix of the packets of one text is one of those of a longer one
  pub prefix_less : (old new : PacketSink W) (rest one two : List ℕ)
      → ((more : List ℕ) → PutsPrefix old new (rest ++ one ++ more))
      → (more : List ℕ) → PutsPrefix old new (rest ++ (one ++ two) ++ more)
  prefix_less old new rest one two prefix more =
      subst (λ (text : List ℕ). PutsPrefix old new text) (sym (regrouped rest one two more))
      (prefix (two ++ more))

  -- and one of a second text behind the first
  pub prefix_next : (old mid new : PacketSink W) (rest one rest_mid two more : List ℕ)
      → HasAdded w old mid rest one rest_mid → PutsPrefix mid new (rest_mid ++ two ++ more)
      → PutsPrefix old new (rest ++ (one ++ two) ++ more)
  prefix_next old mid new rest one rest_mid two more first prefix =
      subst (λ (text : List ℕ). PutsPrefix old new text) (sym (regrouped rest one two more))
      (prefix_behind old mid new rest one rest_mid (two ++ more) first
      (subst (λ (text : List ℕ). PutsPrefix mid new text) (append_assoc rest_mid two more) prefix))

  pub adds_behind : {V E : Type 0} (old mid new : PacketSink W)
      (rest one rest_mid two rest_new : List ℕ) (result : Result V E)
      → HasAdded w old mid rest one rest_mid → AddsText w mid new rest_mid two rest_new result
      → AddsText w old new rest (one ++ two) rest_new result
  adds_behind old mid new rest one rest_mid two rest_new (Ok value) first second =
      record {
        all = added_both old mid new rest one rest_mid two rest_new first second.all;
        prefix = tt;
      }
  adds_behind old mid new rest one rest_mid two rest_new (Err error) first second =
      record {
        all = tt;
        prefix = λ more.
            prefix_next old mid new rest one rest_mid two more first (second.prefix more);
      }

  -- a call that failed where another one did
  pub adds_failed : {V E : Type 0} (old new : PacketSink W) (rest text rest_new : List ℕ)
      (result : Result V E)
      → IsErr result → ((more : List ℕ) → PutsPrefix old new (rest ++ text ++ more))
      → AddsText w old new rest text rest_new result
  adds_failed old new rest text rest_new (Ok value) is prefix = absurd (false≢true is)
  adds_failed old new rest text rest_new (Err error) is prefix =
      record { all = tt; prefix = prefix }

  -- it failed on its way through a text, behind the first part of it
  pub adds_failed_in : {V E : Type 0} (old mid new : PacketSink W)
      (rest rest_mid rest_new one two text : List ℕ) (result : Result V E)
      → IsErr result → text ≡ one ++ two → HasAdded w old mid rest one rest_mid
      → ((more : List ℕ) → PutsPrefix mid new (rest_mid ++ two ++ more))
      → AddsText w old new rest text rest_new result
  adds_failed_in old mid new rest rest_mid rest_new one two text result is same first prefix =
      adds_failed old new rest text rest_new result is
      (λ more. subst (λ (whole : List ℕ). PutsPrefix old new (rest ++ whole ++ more)) (sym same)
      (prefix_next old mid new rest one rest_mid two more first (prefix more)))

  -- one byte of a text more, where there was made room for it
  pub added_byte : (old mid new : PacketSink W) (rest rest_mid rest_new text : List ℕ) (at byte : ℕ)
      → at < length text → byte ≡ slice_index text at
      → HasAdded w old mid rest (take at text) rest_mid → HasAdded w mid new rest_mid [] rest_new
      → HasAdded w old new rest (take (at + 1) text) (rest_new ++ byte ∷ [])
  added_byte old mid new rest rest_mid rest_new text at byte within is first room =
      rw (take_more text at 0 within, ← is)
      (added_both old mid new rest (take at text) rest_mid (byte ∷ []) (rest_new ++ byte ∷ []) first
      (added_both mid new new rest_mid [] rest_new (byte ∷ []) (rest_new ++ byte ∷ []) room
      (added_kept new rest_new (byte ∷ []))))

  -- a rest of text is put
  pub rest_put : {V E : Type 0} (old new : PacketSink W) (piece rest : List ℕ) (result : Result V E)
      → piece ≡ rest → 0 < length rest → length rest ≤ MOST_TEXT
      → PutsPackets w old new (text_body piece ∷ []) result
      → PutsPackets w old new (console rest) result
  rest_put old new piece rest result is some few puts =
      subst (λ (bodies : List (List ℕ)). PutsPackets w old new bodies result)
      (ap (λ (one : List ℕ). text_body one ∷ []) is ∙ sym (pieces-one rest some few))
      puts

  -- and where there is none, nothing
  nothing_kept : {V E : Type 0} (now : PacketSink W) (rest : List ℕ) (value : V)
      → length rest ≡ 0
      → PutsPackets {E = E} w now now (console rest) (Ok value)
  nothing_kept now [] value none = record { all = put_none w now; prefix = tt }
  nothing_kept now (byte ∷ rest) value none = absurd (omega (arith, none))

  pub no_rest : {V E : Type 0} (now : PacketSink W) (kept rest : List ℕ) (value : V)
      → kept ≡ rest → length kept ≡ 0
      → PutsPackets {E = E} w now now (console rest) (Ok value)
  no_rest {V} {E} now kept rest value is none =
      subst (λ (one : List ℕ). PutsPackets {E = E} w now now (console one) (Ok value)) is
      (nothing_kept now kept value none)

  -- a text that is put to its end
  pub text_finished : {V E : Type 0} (old mid new : PacketSink W) (rest text rest_new : List ℕ)
      (result : Result V E)
      → rest ≡ [] → HasAdded w old mid rest text rest_new
      → PutsPackets w mid new (console rest_new) result
      → PutsPackets w old new (console text) result
  text_finished old mid new rest text rest_new result none first puts =
      let same : console text ≡ first.bodies ++ console rest_new =
      ap (λ (before : List ℕ). console (before ++ text)) (sym none)
      ∙ ap console (sym (append-nil (rest ++ text)))
      ∙ first.whole []
      ∙ ap (λ (one : List ℕ). first.bodies ++ console one) (append-nil rest_new) in
      subst (λ (bodies : List (List ℕ)). PutsPackets w old new bodies result) (sym same)
      (puts_behind w old mid new first.bodies (console rest_new) result first.put puts)

  -- a prefix that is put whatever comes behind, where nothing does
  pub prefix_end : (old new : PacketSink W) (rest text : List ℕ)
      → ((more : List ℕ) → PutsPrefix old new (rest ++ text ++ more))
      → PutsPrefix old new (rest ++ text)
  prefix_end old new rest text prefix =
      subst (λ (whole : List ℕ). PutsPrefix old new whole) (append-nil (rest ++ text)) (prefix [])

  -- a call that failed on its way through a text
  pub text_failed : {V E : Type 0} (old new : PacketSink W) (rest text : List ℕ)
      (result : Result V E)
      → IsErr result → rest ≡ [] → PutsPrefix old new (rest ++ text)
      → PutsPackets w old new (console text) result
  text_failed old new rest text result is none prefix =
      puts_failed w old new (console text) result is
      (subst (λ (before : List ℕ). PutsPrefix old new (before ++ text)) none prefix)

  -- or through two of them
  pub texts_failed : {V E : Type 0} (old new : PacketSink W) (rest one two : List ℕ)
      (result : Result V E)
      → IsErr result → rest ≡ [] → PutsPrefix old new (rest ++ one ++ two)
      → PutsPackets w old new (console (one ++ two)) result
  texts_failed old new rest one two result is none prefix =
      puts_failed w old new (console (one ++ two)) result is
      (subst (λ (before : List ℕ). PutsPrefix old new (before ++ one ++ two)) none prefix)
