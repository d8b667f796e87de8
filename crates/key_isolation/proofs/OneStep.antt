-- A step that is not refused, with and without the key: its access, its value, and what it leads
-- to.
use Rattle.std.{proofs.{Common.{◌≡◌, ℕ, Bool, true, false, List, [], ◌∷◌, ◌++◌, length, Option, Some, None, refl, ap, sym, ◌∙◌, subst, not}, lemmas.Bool.cond-false}, specs.Prelude.{◌==◌, ◌&&◌, ◌||◌, if◌then◌else◌}}
use Rattle.word_arith.specs.declared.size.Size.TheVariants.{Word}
use Rattle.device_types.specs.{declared.{access.Access.{Access, TheVariants.{Fetch, Read, Write}}, kind.Kind.{Kind, TheVariants.Rom}}, Access.{some_writes, some_reads}, Map.{touches, some_touches, key_region, stack_region, ROM_EXIT}}
use Rattle.part_definitions.specs.{Attestation.{CallItem, KeyRead, MetadataRead, KeptRead, KeptWrite, DecisionWrite, DerivedKeyWrite, RegionRead, InnerDigestWrite, MacWrite, ReturnRead, region_words, decision_read, call_item, item_access, item_pc, is_return, bounds_read}, CpuRegister.sp_of, CpuState.{CpuState, cpu_pc}, MonitorRule.in_rom}
use Rattle.device_trace.specs.{Blank.{touches_secrets, blank_access, blank_value}, Logs.{Logs, with_released_word, released_words_after}, Progress.{Progress, Held, Runs, InCall, next_pc_of, running_access, access_of, after_return, call_after, next_progress}, Signals.value_read, Start.{Start, mac_word}}
use Rattle.key_isolation.proofs.{Bytes.zero_either, HiddenWords.{hides_word, hidden_word, rest_shown, hide_words, call_item-hide, hide_words-more}, Hiding.{open_start, hide_progress, hide}, Reading.value_read-hide, SignalShape.item_access-hide, CallStep.same_item}
use Rattle.trace_facts.proofs.{ExecFlag.first_false, Sound.IsWithin, CallPlaces.{ItemFits, item_after-fits}}

-- the rules K1, K2 and A4, of an access and its `pc`
pub record KeepsSecrets (access : Option Access) (pc : ℕ) : Type 0 where
  pub k1 : (some_touches access key_region && not (some_writes access) && not (in_rom pc)) ≡ false
  pub k2 : (some_touches access stack_region && not (in_rom pc)) ≡ false
  pub a4 :
      ((pc == ROM_EXIT) && some_reads access
      && (some_touches access key_region || some_touches access stack_region)) ≡ false

-- access and value of a step, real and without the key, and where they lead
pub record SameStep (start : Start) (free : List ℕ) (logs : Logs) (kind : Kind)
    (progress : Progress) (real view : Option Access) : Type 0 where
  pub access : blank_access real ≡ view
  pub value : blank_value real (value_read start logs real)
      ≡ value_read (open_start free start) (hide logs) view
  pub next :
      next_progress kind (hide_progress progress) view
      (value_read (open_start free start) (hide logs) view)
      ≡ hide_progress (next_progress kind progress real (value_read start logs real))

-- an access outside the ROM
record SameAccess (start : Start) (free : List ℕ) (logs : Logs)
    (access : Option Access) : Type 0 where
  same : blank_access access ≡ access
  blanked : blank_value access (value_read start logs access)
      ≡ value_read (open_start free start) (hide logs) access
  value : value_read (open_start free start) (hide logs) access ≡ value_read start logs access

no_write : (key stack : Bool) → (key && true) ≡ false → stack ≡ false → (key || stack) ≡ false
no_write true stack off rest = absurd (cc)
no_write false stack off rest = rest

reads_same : (start : Start) (free : List ℕ) (logs : Logs) (access : Access)
    → blank_access (Some access) ≡ Some access → touches_secrets access ≡ false
    → SameAccess start free logs (Some access)
reads_same start free logs access same off =
    let value = value_read-hide start free logs access off in
    record {
      same = same;
      blanked = cond-false (touches_secrets access) 0 (value_read start logs (Some access)) off
          ∙ sym value;
      value = value;
    }

access_same : (start : Start) (free : List ℕ) (logs : Logs) (access : Option Access)
    → (some_touches access key_region && not (some_writes access)) ≡ false
    → some_touches access stack_region ≡ false
    → SameAccess start free logs access
access_same start free logs None key stack =
    record { same = refl; blanked = refl; value = refl }
access_same start free logs (Some (Fetch place)) key stack =
    reads_same start free logs (Fetch place) refl (no_write _ _ key stack)
access_same start free logs (Some (Read place size)) key stack =
    reads_same start free logs (Read place size) refl (no_write _ _ key stack)
access_same start free logs (Some (Write place size number)) key stack =
    record {
      same =
          ap (λ (n : ℕ). Some (Write place size n))
          (cond-false (touches (Write place size number) stack_region) 0 number stack);
      blanked = zero_either (touches_secrets (Write place size number));
      value = refl;
    }

-- outside the ROM the rules have less to say
runs_same : (start : Start) (free : List ℕ) (logs : Logs) (kind : Kind) (cpu : CpuState)
    → in_rom (cpu_pc cpu) ≡ false
    → KeepsSecrets (running_access kind cpu) (cpu_pc cpu)
    → SameStep start free logs kind (Runs cpu) (running_access kind cpu)
    (running_access kind cpu)
runs_same start free logs kind cpu outside keeps =
    let access : Option Access = running_access kind cpu in
    let same = access_same start free logs access
    (first_false (some_touches access key_region && not (some_writes access))
    (in_rom (cpu_pc cpu)) keeps.k1 outside)
    (first_false (some_touches access stack_region) (in_rom (cpu_pc cpu)) keeps.k2 outside) in
    record {
      access = same.same;
      value = same.blanked;
      next = ap (λ (value : ℕ). next_progress kind (Runs cpu) access value) same.value;
    }

-- what a call goes on with: the word of its return read is shown
return_shown : (region count : ℕ) (item : CallItem) → ItemFits region count item
    → is_return item ≡ true → hides_word count ≡ false
return_shown region count (KeyRead i) fits returns = absurd (cc)
return_shown region count (MetadataRead i) fits returns = absurd (cc)
return_shown region count (KeptRead i) fits returns = absurd (cc)
return_shown region count (KeptWrite i) fits returns = absurd (cc)
return_shown region count DecisionWrite fits returns = absurd (cc)
return_shown region count (DerivedKeyWrite i) fits returns = absurd (cc)
return_shown region count (RegionRead i) fits returns = absurd (cc)
return_shown region count (InnerDigestWrite i) fits returns = absurd (cc)
return_shown region count (MacWrite i) fits returns = absurd (cc)
return_shown region count ReturnRead fits returns = rest_shown count fits

goes_either : (returns : Bool) (regs words blanks : List ℕ) (word word' : ℕ)
    → (returns ≡ true → word' ≡ word)
    → blanks ++ word' ∷ [] ≡ hide_words (words ++ word ∷ [])
    → (if returns then after_return regs word' else InCall regs (blanks ++ word' ∷ []))
    ≡ hide_progress (if returns then after_return regs word else InCall regs (words ++ word ∷ []))
goes_either true regs words blanks word word' same more = ap (after_return regs) (same refl)
goes_either false regs words blanks word word' same more = ap (λ (ws : List ℕ). InCall regs ws) more

call_after-hide : (regs words : List ℕ) (word word' : ℕ)
    → word' ≡ hidden_word (length words) word
    → call_after regs (hide_words words) word' ≡ hide_progress (call_after regs words word)
call_after-hide regs words word word' passed =
    ap
    (λ (item : CallItem). if is_return item then after_return regs word'
    else InCall regs (hide_words words ++ word' ∷ []))
    (call_item-hide words)
    ∙ goes_either (is_return (call_item words)) regs words (hide_words words) word word'
    (λ returns.
    passed ∙ cond-false (hides_word (length words)) 0 word
    (return_shown (region_words (bounds_read words)) (length words) (call_item words)
    (item_after-fits (region_words (bounds_read words)) (decision_read words) (length words))
    returns))
    (ap (λ (w : ℕ). hide_words words ++ w ∷ []) passed ∙ sym (hide_words-more words word))

call_same : (start : Start) (free more : List ℕ) (logs : Logs) (regs words : List ℕ)
    → KeepsSecrets (access_of start (length logs.released_words) Rom (InCall regs words))
    (item_pc (call_item words))
    → free ≡ with_released_word
    (access_of start (length logs.released_words) Rom (InCall regs words)) logs.released_words
    ++ more
    → SameStep start free logs Rom (InCall regs words)
    (access_of start (length logs.released_words) Rom (InCall regs words))
    (access_of (open_start free start) (length logs.released_words) Rom
    (hide_progress (InCall regs words)))
call_same start free more logs regs words keeps split =
    let open_access : Access =
    item_access (sp_of regs) (bounds_read words) (call_item words)
    (mac_word free (length logs.released_words) (call_item words)) in
    let view : access_of (open_start free start) (length logs.released_words) Rom
    (hide_progress (InCall regs words)) ≡ Some open_access =
    λ i. Some (item_access-hide (sp_of regs) words
    (mac_word free (length logs.released_words) (call_item-hide words i)) i) in
    let same =
    same_item start free more logs (sp_of regs) (length words)
    (start.call_word (length logs.released_words) (call_item words) words) (bounds_read words)
    (call_item words)
    (item_after-fits (region_words (bounds_read words)) (decision_read words) (length words))
    keeps.a4 split in
    let claim : Option Access → Type 0 =
    λ access. SameStep start free logs Rom (InCall regs words)
    (access_of start (length logs.released_words) Rom (InCall regs words)) access in
    let at_access : claim (Some open_access) =
    record {
      access = same.access;
      value = same.value;
      next = call_after-hide regs words _ _ same.passed;
    } in
    subst claim (sym view) at_access

pub step_same : (start : Start) (free more : List ℕ) (logs : Logs) (kind : Kind)
    (progress : Progress)
    → IsWithin kind progress
    → KeepsSecrets (access_of start (length logs.released_words) kind progress)
    (next_pc_of progress)
    → free
    ≡ released_words_after None kind
    (access_of start (length logs.released_words) kind progress) logs.released_words ++ more
    → SameStep start free logs kind progress
    (access_of start (length logs.released_words) kind progress)
    (access_of (open_start free start) (length logs.released_words) kind (hide_progress progress))
step_same start free more logs kind Held within keeps split =
    let same = reads_same start free logs (Read 0xFFFE Word) refl refl in
    record {
      access = refl;
      value = same.blanked;
      next = ap (λ (value : ℕ). next_progress kind Held None value) same.value;
    }
step_same start free more logs kind (Runs cpu) within keeps split =
    runs_same start free logs kind cpu within keeps
step_same start free more logs kind (InCall regs words) within keeps split =
    subst
    (λ (k : Kind). free
    ≡ released_words_after None k
    (access_of start (length logs.released_words) k (InCall regs words)) logs.released_words
    ++ more
    → SameStep start free logs k (InCall regs words)
    (access_of start (length logs.released_words) k (InCall regs words))
    (access_of (open_start free start) (length logs.released_words) k
    (hide_progress (InCall regs words))))
    (sym within)
    (λ rom_split. call_same start free more logs regs words keeps rom_split)
    split
