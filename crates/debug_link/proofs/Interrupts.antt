-- How many interrupts came.
use Rattle.std.{proofs.{Common.{◌≡◌, ◌≤◌, ◌+◌, ◌++◌, ◌∙◌, ℕ, List, [], ◌∷◌, Option, Some, None, refl, ap, subst, sym, arith}, lemmas.Option.same_Some}, specs.Prelude.option_map}
use Rattle.debug_link.{specs.Conversation.{HaveCome, Input, MayCome, count_of, interrupts_of}, proofs.Talks.quiet}

pub none-came : (left : Option ℕ) → HaveCome 0 left left
none-came None = record { came = 0; enough = omega arith; fewer = refl }
none-came (Some yet) =
    let same : yet ≡ 0 + yet = omega arith in
    record { came = 0; enough = omega arith; fewer = ap (λ (one : ℕ). Some one) same }

pub fewer-came : (fewer count : ℕ) (before after : Option ℕ) → fewer ≤ count
    → HaveCome count before after → HaveCome fewer before after
fewer-came fewer count before after less came =
    record {
      came = came.came;
      enough = omega (arith, less, came.enough);
      fewer = came.fewer;
    }

both-left : (first second : ℕ) (after : Option ℕ)
    → option_map (λ (yet : ℕ). first + yet) (option_map (λ (yet : ℕ). second + yet) after)
    ≡ option_map (λ (yet : ℕ). (first + second) + yet) after
both-left first second None = refl
both-left first second (Some yet) =
    let same : first + (second + yet) ≡ (first + second) + yet = omega arith in
    ap (λ (one : ℕ). Some one) same

-- some, and then others
pub both-came : (first second : ℕ) (before between after : Option ℕ)
    → HaveCome first before between → HaveCome second between after
    → HaveCome (first + second) before after
both-came first second before between after one two =
    record {
      came = one.came + two.came;
      enough = omega (arith, one.enough, two.enough);
      fewer = one.fewer
          ∙ ap (option_map (λ (yet : ℕ). one.came + yet)) two.fewer
          ∙ both-left one.came two.came after;
    }

-- those that have come might
pub may-come : (count : ℕ) (before after : Option ℕ)
    → HaveCome count before after → MayCome before count
may-come count None after came = tt
may-come count (Some most) None came = absurd (cc came.fewer)
may-come count (Some most) (Some yet) came =
    omega (arith, came.enough, same_Some most (came.came + yet) came.fewer)

interrupts-quiet : (Interrupt : Type 0) (bytes : List ℕ)
    → interrupts_of (quiet {Interrupt = Interrupt} bytes) ≡ 0
interrupts-quiet Interrupt [] = refl
interrupts-quiet Interrupt (byte ∷ bytes) =
    let rest : ℕ = interrupts_of (quiet {Interrupt = Interrupt} bytes) in
    let none : 0 + rest ≡ 0 = omega (arith, interrupts-quiet Interrupt bytes) in none

module _ {Interrupt : Type 0} where
  interrupts-both : (one two : List (Input Interrupt))
      → interrupts_of (one ++ two) ≡ interrupts_of one + interrupts_of two
  interrupts-both [] two =
      let same : interrupts_of two ≡ 0 + interrupts_of two = omega arith in same
  interrupts-both (input ∷ one) two = omega (arith, interrupts-both one two)

  -- those of one input
  pub came-one : (byte : ℕ) (interrupt : Option Interrupt) (before after : Option ℕ)
      → HaveCome (count_of interrupt) before after
      → HaveCome (interrupts_of (record { byte = byte; interrupt = interrupt } ∷ [])) before after
  came-one byte interrupt before after came =
      fewer-came (count_of interrupt + 0) (count_of interrupt) before after (omega arith) came

  -- those of two parts of what comes
  pub came-both : (one two : List (Input Interrupt)) (before between after : Option ℕ)
      → HaveCome (interrupts_of one) before between → HaveCome (interrupts_of two) between after
      → HaveCome (interrupts_of (one ++ two)) before after
  came-both one two before between after first second =
      subst (λ (count : ℕ). HaveCome count before after) (sym (interrupts-both one two))
      (both-came (interrupts_of one) (interrupts_of two) before between after first second)

  -- bytes that nothing interrupts add none
  pub came-quiet : (one : List (Input Interrupt)) (rest : List ℕ) (before after : Option ℕ)
      → HaveCome (interrupts_of one) before after
      → HaveCome (interrupts_of (one ++ quiet rest)) before after
  came-quiet one rest before after came =
      let two : List (Input Interrupt) = quiet rest in
      fewer-came (interrupts_of (one ++ two)) (interrupts_of one) before after
      (omega (arith, interrupts-both one two, interrupts-quiet Interrupt rest)) came
