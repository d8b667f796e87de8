-- Bytes that are shown, one after another.
use Rattle.std.{proofs.{Common.{◌≡◌, ◌≤◌, ◌<◌, ◌+◌, ◌-◌, ◌%◌, ◌∙◌, ◌++◌, ◌⊎◌, inl, inr, ℕ, zero, suc, Bool, true, false, List, [], ◌∷◌, Option, Some, None, refl, ap, sym, arith, append_assoc}, lemmas.{Bool.{cond-false, cond-true, le-ltb}, List.append-nil}}, specs.Prelude.{◌||◌, if◌then◌else◌}}
use Rattle.word_arith.specs.declared.size.Size.TheVariants.{Byte}
use Rattle.device_types.specs.Map.{key_region, lies_in, stack_region}
use Rattle.device_trace.specs.Signals.{number_read}
use Rattle.debug_session.specs.{Place.{Run, is_shown, logs_at, sight_at}, Shown.{byte_and, bytes_shown}, Sight.Sight}

module _ (here : Sight) where
  -- one byte more
  pub shown-more : (earlier whole : List ℕ) (at count byte : ℕ)
      → 0 < count → here.byte_at at ≡ Some byte
      → earlier ++ bytes_shown here at count ≡ whole
      → (earlier ++ byte ∷ []) ++ bytes_shown here (at + 1) (count - 1) ≡ whole
  shown-more earlier whole at zero byte some is before = absurd (omega (arith, some))
  shown-more earlier whole at (suc count) byte some is before =
      let later : List ℕ = bytes_shown here (suc at) count in
      let next : at + 1 ≡ suc at = omega arith in
      let less : suc count - 1 ≡ count = omega arith in
      rw (next, less, append_assoc)
      (ap (λ (one : Option ℕ). earlier ++ byte_and one later) (sym is) ∙ before)

  -- and none
  pub shown-end : (earlier whole : List ℕ) (at count : ℕ)
      → (here.byte_at at ≡ None) ⊎ (count ≡ 0)
      → earlier ++ bytes_shown here at count ≡ whole
      → earlier ≡ whole
  shown-end earlier whole at zero ends before = sym (append-nil earlier) ∙ before
  shown-end earlier whole at (suc count) (inr none) before = absurd (omega (arith, none))
  shown-end earlier whole at (suc count) (inl none) before =
      sym (append-nil earlier)
      ∙ ap (λ (one : Option ℕ). earlier ++ byte_and one (bytes_shown here (suc at) count))
      (sym none)
      ∙ before

-- a place that may be shown has a byte
pub some-there : (run : Run) (place at : ℕ) → is_shown at ≡ true
    → (byte : ℕ) × ((sight_at run place).byte_at at ≡ Some byte)
unfolding sight_at
some-there run place at here = (
  number_read run.start (logs_at run place) at Byte % 256,
  cond-true (is_shown at) _ None here,
)

-- any other has none
pub none-there : (run : Run) (place at : ℕ) → is_shown at ≡ false
    → (sight_at run place).byte_at at ≡ None
unfolding sight_at
none-there run place at none = cond-false (is_shown at) _ None none

same-choice : (test : Bool) → (if test then false else false) ≡ false
same-choice true = refl
same-choice false = refl

-- past the last address no byte is shown
none-past : (at : ℕ) → 65536 ≤ at → is_shown at ≡ false
none-past at past =
    rw (le-ltb at 65536 past) (same-choice (lies_in key_region at || lies_in stack_region at))

-- so many addresses from the first on, or all to the last
pub all-shown : (run : Run) (place first count at : ℕ)
    → first ≤ at → (65536 ≤ at) ⊎ (first + count ≤ at)
    → ((sight_at run place).byte_at at ≡ None) ⊎ (count - (at - first) ≡ 0)
all-shown run place first count at from (inl past) =
    inl (none-there run place at (none-past at past))
all-shown run place first count at from (inr all) = inr (omega (arith, from, all))
