-- Where a scan over places ends.
use Rattle.std.proofs.{Common.{◌≡◌, ◌≤◌, ◌<◌, ◌+◌, ◌∙◌, ⊎_elim, ℕ, zero, suc, Option, Some, None, refl, ap, sym, subst, arith}, lemmas.Bool.cases_lt}
use Rattle.debug_session.specs.{declared.stop.Stop.{Stop, TheVariants.{Begin, End}}, Going.{Standing, first_stop, last_stop, standing_at}}

module _ (cause : ℕ → Option Stop) where
  abbrev pub NoneBetween : ℕ → ℕ → Type 0
  NoneBetween from until = (at : ℕ) → from < at → at < until → cause at ≡ None

  standing-next : (place : ℕ) (rest : Standing) → cause place ≡ None
      → standing_at place (cause place) rest ≡ rest
  standing-next place rest none = ap (λ (one : Option Stop). standing_at place one rest) none

  standing-here : (place until : ℕ) (stop : Stop) (rest : Standing) → place ≡ until
      → cause until ≡ Some stop
      → standing_at place (cause place) rest ≡ record { place = until; stop = stop }
  standing-here place until stop rest same is =
      ap (λ (one : Option Stop). standing_at place one rest)
      (subst (λ (at : ℕ). cause at ≡ Some stop) (sym same) is)
      ∙ ap {B = Standing} (λ (at : ℕ). record { place = at; stop = stop }) same

  -- forwards it ends at the first place with a cause
  pub first-at : (until : ℕ) (stop : Stop) → cause until ≡ Some stop → (left place : ℕ)
      → place < until → until ≤ left + place → NoneBetween place until
      → first_stop cause place left ≡ record { place = until; stop = stop }
  first-at until stop is zero place before within none = absurd (omega (arith, before, within))
  first-at until stop is (suc left) place before within none =
      let rest : Standing = first_stop cause (suc place) left in
      ⊎_elim
      (λ (less : suc place < until).
      standing-next (suc place) rest (none (suc place) (omega arith) less)
      ∙ first-at until stop is left (suc place) less (omega (arith, within))
      (λ at after. none at (omega (arith, after))))
      (λ (over : until ≤ suc place).
      standing-here (suc place) until stop rest (omega (arith, over, before)) is)
      (cases_lt (suc place) until)

  -- or at the last of all
  pub first-none : (left place last : ℕ) → last ≡ left + place
      → ((at : ℕ) → place < at → at ≤ last → cause at ≡ None)
      → first_stop cause place left ≡ record { place = last; stop = End }
  first-none zero place last same none =
      ap {B = Standing} (λ (at : ℕ). record { place = at; stop = End }) (omega (arith, same))
  first-none (suc left) place last same none =
      standing-next (suc place) (first_stop cause (suc place) left)
      (none (suc place) (omega arith) (omega (arith, same)))
      ∙ first-none left (suc place) last (omega (arith, same))
      (λ at after. none at (omega (arith, after)))

  least-of : (least place : ℕ) (one : Option Stop) (rest : Standing) → least ≤ place
      → least ≤ rest.place → least ≤ (standing_at place one rest).place
  least-of least place (Some stop) rest here there = here
  least-of least place None rest here there = there

  first-later : (left place : ℕ) → place ≤ (first_stop cause place left).place
  first-later zero place = omega arith
  first-later (suc left) place =
      let rest : Standing = first_stop cause (suc place) left in
      least-of place (suc place) (cause (suc place)) rest (omega arith)
      (omega (arith, first-later left (suc place)))

  -- not before a place up to which there is none
  pub first-past : (until left place : ℕ) → until ≤ left + place → NoneBetween place until
      → until ≤ (first_stop cause place left).place
  first-past until zero place within none = omega (arith, within)
  first-past until (suc left) place within none =
      let rest : Standing = first_stop cause (suc place) left in
      ⊎_elim
      (λ (less : suc place < until).
      subst (λ (one : Standing). until ≤ one.place)
      (sym (standing-next (suc place) rest (none (suc place) (omega arith) less)))
      (first-past until left (suc place) (omega (arith, within))
      (λ at after early. none at (omega (arith, after)) early)))
      (λ (over : until ≤ suc place).
      least-of until (suc place) (cause (suc place)) rest over
      (omega (arith, over, first-later left (suc place))))
      (cases_lt (suc place) until)

  -- back it ends at the last place before with a cause
  pub last-at : (until : ℕ) (stop : Stop) → cause until ≡ Some stop → 1 ≤ until → (place : ℕ)
      → until < place → NoneBetween until place
      → last_stop cause place ≡ record { place = until; stop = stop }
  last-at until stop is late zero before none = absurd (omega (arith, before))
  last-at until stop is late (suc zero) before none = absurd (omega (arith, before, late))
  last-at until stop is late (suc (suc place)) before none =
      let rest : Standing = last_stop cause (suc place) in
      ⊎_elim
      (λ (less : until < suc place).
      standing-next (suc place) rest (none (suc place) less (omega arith))
      ∙ last-at until stop is late (suc place) less
      (λ at after early. none at after (omega (arith, early))))
      (λ (over : suc place ≤ until).
      standing-here (suc place) until stop rest (omega (arith, over, before)) is)
      (cases_lt until (suc place))

  -- or at the first
  pub last-none : (place : ℕ) → ((at : ℕ) → 1 ≤ at → at < place → cause at ≡ None)
      → last_stop cause place ≡ record { place = 1; stop = Begin }
  last-none zero none = refl
  last-none (suc zero) none = refl
  last-none (suc (suc place)) none =
      standing-next (suc place) (last_stop cause (suc place))
      (none (suc place) (omega arith) (omega arith))
      ∙ last-none (suc place) (λ at late before. none at late (omega (arith, before)))
