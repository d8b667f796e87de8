-- The phases of a call, as a word passes.
use Rattle.std.{proofs.{Common.{◌≡◌, ◌<◌, ◌+◌, ◌++◌, ◌∷◌, ◌∙◌, [], ℕ, false, List, length, length-append, append_assoc, append-nil, ap, refl, subst, sym, arith, lit≤}, Math.Seq.get_or-append_seam, lemmas.Bool.cond-false}, specs.{Prelude.{◌==◌, slice_index, Option, None, Some, IsNone, IsSome}, Option.option_and}}
use Rattle.device_types.specs.declared.bounds.Bounds.{Bounds}
use Rattle.hmac_core.specs.{Hash.Hash, Hmac.HmacStandsFor, declared.running_hmac.Hmac.Hmac}
use Rattle.part_definitions.specs.{Attestation.{bounds_read, region_words, decision_read, decision_in, counter_word, bytes_of_words, metadata_read, region_read, call_key, inner_in, tag_in}, Request.ATTESTS}
use Rattle.swatt_rom.{specs.{Phase.{WritesDigest, PhaseStandsFor, NextStandsFor, HashesRegion, HasDecided, EndsRegion, StandsAtDerivedKey, StandsAtRegion, StandsAtInnerDigest, StandsAtMac, IsBeforeReturn, before_inner_digest, before_mac, before_return}, declared.{decided.Decided.Decided, phase.Phase.Phase, digest_words.DigestWords.DigestWords, region_words.RegionWords.RegionWords}}, proofs.WordsPassed.{region_in, bounds_read-append, region_in-append, metadata_read-append, decision_read-append, decision_in-append, counter_word-append, call_key-append, region_read-before, region_read-more, inner_in-append, tag_in-append}}

-- a word of a digest is written
WritesDigest-more :
    (writes rest : DigestWords) (digest later : List ℕ) (before after : ℕ)
    (words : List ℕ) (word : ℕ)
    → rest.bytes ≡ writes.bytes
    → rest.next ≡ writes.next + 1
    → later ≡ digest
    → after ≡ before
    → WritesDigest writes digest before words
    → WritesDigest rest later after (words ++ word ∷ [])
WritesDigest-more writes rest digest later before after words word bytes next other moves stands =
    record {
      same_bytes = bytes ∙ stands.same_bytes ∙ sym other;
      same_length =
          omega (arith, length-append words (word ∷ []), stands.same_length, next, moves);
    }

module _ {D : Type 0} (hash : Hash D) where
  -- the running MAC stands for equal keys and messages
  HmacStandsFor-same :
      (mac : Hmac D) (key other message text : List ℕ)
      → other ≡ key
      → text ≡ message
      → HmacStandsFor hash mac key message
      → HmacStandsFor hash mac other text
  HmacStandsFor-same mac key other message text same_key same_text stands =
      rw (same_key, same_text) stands

  -- the MAC begins with the metadata
  pub HashesRegion-first :
      (mac : Hmac D) (words : List ℕ)
      → length words ≡ 93
      → HmacStandsFor hash mac (call_key hash.digest_of words) (metadata_read words)
      → HashesRegion hash mac words
  HashesRegion-first mac words count stands =
      subst (HmacStandsFor hash mac (call_key hash.digest_of words))
      (sym (ap (λ bytes. metadata_read words ++ bytes) (region_read-before words (omega arith))
      ∙ append-nil (metadata_read words)))
      stands

  -- a word of the region passes, and the MAC takes it
  HashesRegion-more :
      (mac later : Hmac D) (region : RegionWords) (words : List ℕ) (word : ℕ)
      → ((key message : List ℕ) → HmacStandsFor hash mac key message
      → HmacStandsFor hash later key (message ++ bytes_of_words (word ∷ [])))
      → StandsAtRegion hash region mac words
      → HashesRegion hash later (words ++ word ∷ [])
  HashesRegion-more mac later region words word takes stands =
      let count : length words ≡ 93 + region.next = stands.same_length in
      let remainder : region.next < region_in words =
      subst (λ bounds. region.next < region_words bounds) stands.same_bounds region.some_left in
      let metadata = metadata_read-append words (word ∷ []) (omega arith) in
      HmacStandsFor-same later (call_key hash.digest_of words)
      (call_key hash.digest_of (words ++ word ∷ []))
      ((metadata_read words ++ region_read words) ++ bytes_of_words (word ∷ []))
      (metadata_read (words ++ word ∷ []) ++ region_read (words ++ word ∷ []))
      (call_key-append hash.digest_of words (word ∷ []) (omega arith))
      (ap (λ bytes. bytes ++ region_read (words ++ word ∷ [])) metadata
      ∙ ap (λ bytes. metadata_read words ++ bytes)
      (region_read-more words word (omega arith) (omega arith))
      ∙ sym (append_assoc (metadata_read words) (region_read words) (bytes_of_words (word ∷ []))))
      (takes (call_key hash.digest_of words) (metadata_read words ++ region_read words)
      stands.hashes)

  pub region-more :
      (mac later : Hmac D) (region rest : RegionWords) (words : List ℕ) (word : ℕ)
      → rest.bounds ≡ region.bounds
      → rest.next ≡ region.next + 1
      → ((key message : List ℕ) → HmacStandsFor hash mac key message
      → HmacStandsFor hash later key (message ++ bytes_of_words (word ∷ [])))
      → StandsAtRegion hash region mac words
      → StandsAtRegion hash rest later (words ++ word ∷ [])
  region-more mac later region rest words word bounds next takes stands =
      let count : length words ≡ 93 + region.next = stands.same_length in
      let same = bounds_read-append words (word ∷ []) (omega arith) in
      record {
        same_bounds = bounds ∙ stands.same_bounds ∙ sym same;
        same_length = omega (arith, length-append words (word ∷ []));
        hashes = HashesRegion-more mac later region words word takes stands;
        attests = decision_read-append words (word ∷ []) (omega arith) ∙ stands.attests;
      }

  -- the last of them passes
  pub region-last :
      (mac later : Hmac D) (region : RegionWords) (words : List ℕ) (word : ℕ)
      → region.next + 1 ≡ region_words region.bounds
      → ((key message : List ℕ) → HmacStandsFor hash mac key message
      → HmacStandsFor hash later key (message ++ bytes_of_words (word ∷ [])))
      → StandsAtRegion hash region mac words
      → EndsRegion hash later (words ++ word ∷ [])
  region-last mac later region words word last takes stands =
      let count : length words ≡ 93 + region.next = stands.same_length in
      let all : region.next + 1 ≡ region_in words = last ∙ ap region_words stands.same_bounds in
      let stays = region_in-append words (word ∷ []) (omega arith) in
      record {
        count = omega (arith, length-append words (word ∷ []), stays);
        hashes = HashesRegion-more mac later region words word takes stands;
        attests = decision_read-append words (word ∷ []) (omega arith) ∙ stands.attests;
      }

  -- the call goes on
  pub goes_on :
      (phase : Phase D) (next : Option ℕ) (words : List ℕ)
      → next ≡ None
      → PhaseStandsFor hash phase words
      → NextStandsFor hash phase next words
  goes_on phase next words none stands =
      subst (λ next. NextStandsFor hash phase next words) (sym none) stands

  -- it goes on, or it is before its return where the last of some words passed
  pub ends_with :
      (phase : Phase D) (passed : Option (Unit {0})) (next : Option ℕ) (decision : ℕ)
      (words : List ℕ)
      → next ≡ option_and passed (Some decision)
      → (IsNone passed → PhaseStandsFor hash phase words)
      → (IsSome passed → IsBeforeReturn decision words)
      → NextStandsFor hash phase next words
  ends_with phase None next decision words is more last =
      subst (λ next. NextStandsFor hash phase next words) (sym is) (more refl)
  ends_with phase (Some unit) next decision words is more last =
      subst (λ next. NextStandsFor hash phase next words) (sym is) (last refl)

-- the decision to attest was written, and the derived key comes
pub derived_key-first :
    (digest : List ℕ → List ℕ) (writes : DigestWords) (bounds : Bounds)
    (bytes words rest : List ℕ)
    → length words ≡ 74
    → length (words ++ rest) ≡ 77
    → decision_read (words ++ rest) ≡ ATTESTS
    → writes.bytes ≡ call_key digest words
    → writes.next ≡ 0
    → bounds ≡ bounds_read words
    → bytes ≡ metadata_read words
    → StandsAtDerivedKey digest writes bounds bytes (words ++ rest)
derived_key-first digest writes bounds bytes words rest size count attests key next same metadata =
    record {
      at_word =
          record {
            same_bytes = key ∙ sym (call_key-append digest words rest (omega arith));
            same_length = omega arith;
          };
      same_bounds = same ∙ sym (bounds_read-append words rest (omega arith));
      same_metadata = metadata ∙ sym (metadata_read-append words rest (omega arith));
      attests = attests;
    }

pub derived_key-more :
    (digest : List ℕ → List ℕ) (writes rest : DigestWords) (bounds : Bounds)
    (bytes words : List ℕ) (word : ℕ)
    → rest.bytes ≡ writes.bytes
    → rest.next ≡ writes.next + 1
    → StandsAtDerivedKey digest writes bounds bytes words
    → StandsAtDerivedKey digest rest bounds bytes (words ++ word ∷ [])
derived_key-more digest writes rest bounds bytes words word same next stands =
    let count : length words ≡ 77 + writes.next = stands.at_word.same_length in
    record {
      at_word =
          WritesDigest-more writes rest (call_key digest words)
          (call_key digest (words ++ word ∷ [])) 77 77 words word same next
          (call_key-append digest words (word ∷ []) (omega arith)) (omega arith) stands.at_word;
      same_bounds = stands.same_bounds ∙ sym (bounds_read-append words (word ∷ []) (omega arith));
      same_metadata =
          stands.same_metadata ∙ sym (metadata_read-append words (word ∷ []) (omega arith));
      attests = decision_read-append words (word ∷ []) (omega arith) ∙ stands.attests;
    }

pub inner_digest-more :
    (digest : List ℕ → List ℕ) (writes rest mac : DigestWords) (words : List ℕ) (word : ℕ)
    → rest.bytes ≡ writes.bytes
    → rest.next ≡ writes.next + 1
    → StandsAtInnerDigest digest writes mac words
    → StandsAtInnerDigest digest rest mac (words ++ word ∷ [])
inner_digest-more digest writes rest mac words word bytes next stands =
    let count : length words ≡ before_inner_digest words + writes.next =
    stands.at_word.same_length in
    record {
      at_word =
          WritesDigest-more writes rest (inner_in digest words)
          (inner_in digest (words ++ word ∷ [])) (before_inner_digest words)
          (before_inner_digest (words ++ word ∷ [])) words word bytes next
          (inner_in-append digest words (word ∷ []) (omega arith))
          (ap (λ region. 93 + region) (region_in-append words (word ∷ []) (omega arith)))
          stands.at_word;
      same_mac = stands.same_mac ∙ sym (tag_in-append digest words (word ∷ []) (omega arith));
      mac_first = stands.mac_first;
      attests = decision_read-append words (word ∷ []) (omega arith) ∙ stands.attests;
    }

-- the inner digest was written, and the MAC comes
pub inner_digest-last :
    (digest : List ℕ → List ℕ) (writes mac : DigestWords) (words : List ℕ) (word : ℕ)
    → writes.next + 1 ≡ 16
    → StandsAtInnerDigest digest writes mac words
    → StandsAtMac digest mac (words ++ word ∷ [])
inner_digest-last digest writes mac words word last stands =
    let count : length words ≡ before_inner_digest words + writes.next =
    stands.at_word.same_length in
    let same = region_in-append words (word ∷ []) (omega arith) in
    let tag = tag_in-append digest words (word ∷ []) (omega arith) in
    record {
      at_word =
          record {
            same_bytes = stands.same_mac ∙ sym tag;
            same_length = omega (arith, length-append words (word ∷ []), same, stands.mac_first);
          };
      attests = decision_read-append words (word ∷ []) (omega arith) ∙ stands.attests;
    }

pub mac-more :
    (digest : List ℕ → List ℕ) (writes rest : DigestWords) (words : List ℕ) (word : ℕ)
    → rest.bytes ≡ writes.bytes
    → rest.next ≡ writes.next + 1
    → StandsAtMac digest writes words
    → StandsAtMac digest rest (words ++ word ∷ [])
mac-more digest writes rest words word bytes next stands =
    let count : length words ≡ before_mac words + writes.next = stands.at_word.same_length in
    record {
      at_word =
          WritesDigest-more writes rest (tag_in digest words) (tag_in digest (words ++ word ∷ []))
          (before_mac words) (before_mac (words ++ word ∷ [])) words word bytes next
          (tag_in-append digest words (word ∷ []) (omega arith))
          (ap (λ region. 109 + region) (region_in-append words (word ∷ []) (omega arith)))
          stands.at_word;
      attests = decision_read-append words (word ∷ []) (omega arith) ∙ stands.attests;
    }

pub mac-last :
    (digest : List ℕ → List ℕ) (writes : DigestWords) (words : List ℕ) (word : ℕ)
    → writes.next + 1 ≡ 16
    → StandsAtMac digest writes words
    → IsBeforeReturn ATTESTS (words ++ word ∷ [])
mac-last digest writes words word last stands =
    let count : length words ≡ before_mac words + writes.next = stands.at_word.same_length in
    let attests : decision_read (words ++ word ∷ []) ≡ ATTESTS =
    decision_read-append words (word ∷ []) (omega arith) ∙ stands.attests in
    record {
      count =
          rw attests
          (omega (
            arith,
            length-append words (word ∷ []),
            region_in-append words (word ∷ []) (omega arith),
          ));
      same_decision = sym attests;
    }

-- how many words a call has
return-denies : (words : List ℕ) → (decision_read words == ATTESTS) ≡ false
    → before_return words ≡ 77
return-denies words denies =
    cond-false (decision_read words == ATTESTS) (125 + region_in words) 77 denies

-- the kept counter was read, and the call has decided
pub decided-first :
    (digest : List ℕ → List ℕ) (decided : Decided) (words : List ℕ)
    → length words ≡ 74
    → decided.words ≡ words
    → decided.decision ≡ decision_in digest words
    → slice_index decided.counter 0 ≡ counter_word words decided.decision 0
    → slice_index decided.counter 1 ≡ counter_word words decided.decision 1
    → HasDecided digest decided 0 words
decided-first digest decided words size same decision low high =
    record {
      rest = [];
      begins = sym (append-nil decided.words ∙ same);
      size = ap length same ∙ size;
      count = size;
      same_decision = decision;
      same_low = low ∙ ap (λ choice. counter_word words choice 0) decision;
      same_high = high ∙ ap (λ choice. counter_word words choice 1) decision;
    }

-- a word that comes of the decision passes
pub decided-more :
    (digest : List ℕ → List ℕ) (decided : Decided) (passed after : ℕ) (words : List ℕ) (word : ℕ)
    → after ≡ passed + 1
    → HasDecided digest decided passed words
    → HasDecided digest decided after (words ++ word ∷ [])
decided-more digest decided passed after words word next has =
    let count : length words ≡ 74 + passed = has.count in
    let same = decision_in-append digest words (word ∷ []) (omega arith) in
    let stays : (i : ℕ) → i < 2 → counter_word words (decision_in digest words) i
    ≡ counter_word (words ++ word ∷ []) (decision_in digest (words ++ word ∷ [])) i =
    λ i within.
    sym (ap (λ choice. counter_word (words ++ word ∷ []) choice i) same
    ∙ counter_word-append words (word ∷ []) (decision_in digest words) i (omega arith) within) in
    record {
      rest = has.rest ++ word ∷ [];
      begins = ap (λ ws. ws ++ word ∷ []) has.begins
          ∙ append_assoc decided.words has.rest (word ∷ []);
      size = has.size;
      count = omega (arith, length-append words (word ∷ []), next);
      same_decision = has.same_decision ∙ sym same;
      same_low = has.same_low ∙ stays 0 (lit≤ tt);
      same_high = has.same_high ∙ stays 1 (lit≤ tt);
    }

-- the decision was written
decision_read-written :
    (digest : List ℕ → List ℕ) (decided : Decided) (words : List ℕ)
    → HasDecided digest decided 2 words
    → decision_read (words ++ decided.decision ∷ []) ≡ decided.decision
decision_read-written digest decided words has =
    ap (λ n. slice_index (words ++ decided.decision ∷ []) n) (sym has.count)
    ∙ get_or-append_seam words decided.decision [] 0

pub decided-denies :
    (digest : List ℕ → List ℕ) (decided : Decided) (words : List ℕ)
    → HasDecided digest decided 2 words
    → (decided.decision == ATTESTS) ≡ false
    → IsBeforeReturn decided.decision (words ++ decided.decision ∷ [])
decided-denies digest decided words has denies =
    let written = decision_read-written digest decided words has in
    let whole = return-denies (words ++ decided.decision ∷ [])
    (ap (λ decision. decision == ATTESTS) written ∙ denies) in
    let count : length words ≡ 76 = has.count in
    record {
      count = omega (arith, length-append words (decided.decision ∷ []), whole);
      same_decision = sym written;
    }

pub decided-attests :
    {D : Type 0} (hash : Hash D) (phase : Phase D) (decided : Decided) (words : List ℕ)
    → ((rest : List ℕ)
    → length (decided.words ++ rest) ≡ 77
    → decision_read (decided.words ++ rest) ≡ ATTESTS
    → PhaseStandsFor hash phase (decided.words ++ rest))
    → decided.decision ≡ ATTESTS
    → HasDecided hash.digest_of decided 2 words
    → PhaseStandsFor hash phase (words ++ decided.decision ∷ [])
decided-attests hash phase decided words begins attests has =
    let count : length words ≡ 76 = has.count in
    let same : decided.words ++ (has.rest ++ decided.decision ∷ [])
    ≡ words ++ decided.decision ∷ [] =
    sym (ap (λ ws. ws ++ decided.decision ∷ []) has.begins
    ∙ append_assoc decided.words has.rest (decided.decision ∷ [])) in
    subst (PhaseStandsFor hash phase) same
    (begins (has.rest ++ decided.decision ∷ [])
    (ap length same ∙ omega (arith, length-append words (decided.decision ∷ [])))
    (ap decision_read same ∙ decision_read-written hash.digest_of decided words has ∙ attests))
