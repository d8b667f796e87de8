-- The illegal words are those from which no head is computed.
use Rattle.std.{proofs.{Common.{◌≡◌, ℕ, ◌<◌, ◌≤◌, ◌/◌, ◌%◌, ◌^◌, ◌&&◌, ◌||◌, ◌⊎◌, ◌↔◌, inl, inr, Bool, true, false, not, refl, ap, sym, subst, ◌∙◌, arith, Option, Some, None, is_some, if◌then◌else◌}, lemmas.Bool.Decides.nat_tests}, specs.Prelude.IsNone}
use Rattle.msp_decode.{specs.{declared.head.Head.{Head, TheVariants.{One, Reti}}, Field.{one_of, size_of_bit, source_of}, Spelling.{has_form, has_size, takes_result, writes_operand, is_legal, IsIllegalWord}, Head.{two_head, jump_head, head_of}, Law.IllegalWordsSpellNothing}, proofs.{HeadLemmas.{if_legal, one_of_fields, head_of-reti, head_of-low, head_of-fields, head_of-gap, head_of-jump, head_of-two, by_range}, TableLemmas.has_form-source_of}}

-- SWPB, SXT and CALL of bytes, by their fields
byte_only : (op bit : ℕ) → op < 6 → bit < 2 → has_size (one_of op) (size_of_bit bit) ≡ false
    → (bit ≡ 1) × ((op ≡ 1) ⊎ (op ≡ 3) ⊎ (op ≡ 5))
byte_only op bit op_fits bit_fits lacks = grind (arith, nat_tests)

no_size : (op bit : ℕ) → bit ≡ 1 → (op ≡ 1) ⊎ (op ≡ 3) ⊎ (op ≡ 5)
    → has_size (one_of op) (size_of_bit bit) ≡ false
no_size op bit byte words_only = grind (arith, nat_tests)

-- RRC, SWPB, RRA and SXT, by their opcode
writes : (op : ℕ) → writes_operand (one_of op) ≡ true → op < 4
writes op write = grind (arith, nat_tests)

writes_below : (op : ℕ) → op < 4 → writes_operand (one_of op) ≡ true
writes_below op below = grind (arith, nat_tests)

-- an immediate or a constant, by its fields
abbrev IsFixed : ℕ → ℕ → Type 0
IsFixed mode register =
    ((register ≡ 0) × (mode ≡ 3)) ⊎ ((register ≡ 2) × (2 ≤ mode)) ⊎ (register ≡ 3)

is_fixed : (mode register : ℕ) → mode < 4 → takes_result (source_of mode register) ≡ false
    → IsFixed mode register
is_fixed mode register fits takes_none = grind (arith, nat_tests)

takes_none : (mode register : ℕ) → mode < 4 → IsFixed mode register
    → takes_result (source_of mode register) ≡ false
takes_none mode register fits operand = grind (arith, nat_tests)

-- which of the tests fails
first_false : (form size takes write : Bool)
    → form ≡ true
    → (form && size && (takes || not write)) ≡ false
    → (size ≡ false) ⊎ ((takes ≡ false) × (write ≡ true))
first_false form size takes write is fails = grind (arith, nat_tests)

pub middle_false : (form size rest : Bool) → size ≡ false → (form && size && rest) ≡ false
middle_false form size rest is = grind (arith, nat_tests)

unwritable : (form size takes write : Bool)
    → takes ≡ false
    → write ≡ true
    → (form && size && (takes || not write)) ≡ false
unwritable form size takes write is writes = grind (arith, nat_tests)

none_if : (test : Bool) (candidate : Head) → IsNone (if test then Some candidate else None)
    → test ≡ false
none_if true candidate none = cc
none_if false candidate none = refl

if_none : (test : Bool) (candidate : Head) → test ≡ false
    → IsNone (if test then Some candidate else None)
if_none true candidate fails = cc
if_none false candidate fails = refl

-- the fields of an illegal word of one operand: bytes of an operation that has none, or a result
-- that goes to a value
abbrev AreIllegal : ℕ → ℕ → ℕ → ℕ → Type 0
AreIllegal op bit mode register =
    ((bit ≡ 1) × ((op ≡ 1) ⊎ (op ≡ 3) ⊎ (op ≡ 5))) ⊎ ((op < 4) × IsFixed mode register)

illegal_fields :
    (op bit mode register : ℕ) → op < 6 → bit < 2 → mode < 4 → register < 16
    → is_legal (One (one_of op) (size_of_bit bit) (source_of mode register)) ≡ false
    → AreIllegal op bit mode register
illegal_fields op bit mode register op_fits bit_fits mode_fits register_fits fails =
    let size : Bool = has_size (one_of op) (size_of_bit bit) in
    let takes : Bool = takes_result (source_of mode register) in
    let write : Bool = writes_operand (one_of op) in
    let form = has_form-source_of mode register mode_fits register_fits in
    elim (first_false (has_form (source_of mode register)) size takes write form fails) [
      | inl lacks ↦ inl (byte_only op bit op_fits bit_fits lacks)
      | inr operand ↦ inr (writes op (operand.1), is_fixed mode register mode_fits (operand.0))
    ]

fields_illegal :
    (op bit mode register : ℕ) → mode < 4 → AreIllegal op bit mode register
    → is_legal (One (one_of op) (size_of_bit bit) (source_of mode register)) ≡ false
fields_illegal op bit mode register mode_fits illegal =
    let form : Bool = has_form (source_of mode register) in
    let size : Bool = has_size (one_of op) (size_of_bit bit) in
    let takes : Bool = takes_result (source_of mode register) in
    let write : Bool = writes_operand (one_of op) in
    elim illegal [
      | inl byte ↦ middle_false form size (takes || not write) (no_size op bit (byte.0) (byte.1))
      | inr operand ↦
          let none : takes ≡ false = takes_none mode register mode_fits (operand.1) in
          unwritable form size takes write none (writes_below op (operand.0))
    ]

-- what is illegal below 1300 has such fields
word_fields : (word : ℕ) → 0x1000 ≤ word → word < 0x1300 → IsIllegalWord word
    → AreIllegal (word / 0x80 % 8) (word / 0x40 % 2) (word / 0x10 % 4) (word % 16)
word_fields word least fits illegal = grind arith

-- below 1300 a word gives no head exactly where it is illegal
pub one_illegal : (word : ℕ) → 0x1000 ≤ word → word < 0x1300
    → IsNone (head_of word) ↔ IsIllegalWord word
one_illegal word least fits =
    let op : ℕ = word / 0x80 % 8 in
    let bit : ℕ = word / 0x40 % 2 in
    let mode : ℕ = word / 0x10 % 4 in
    let register : ℕ = word % 16 in
    let is : head_of word ≡ if_legal (one_of_fields word) = head_of-fields word least fits in
    let legal : Bool = is_legal (one_of_fields word) in (
      (λ none.
          let fails : legal ≡ false =
          none_if legal (one_of_fields word) (subst (λ (h : Option Head). IsNone h) is none) in
          elim (illegal_fields op bit mode register (omega arith) (omega arith) (omega arith)
          (omega arith) fails) [
            | inl byte ↦ inr (inr (inl (least, fits, byte)))
            | inr operand ↦ inr (inr (inr (least, omega (arith, operand.0), operand.1)))
          ]),
      (λ illegal.
          let fails : legal ≡ false =
          fields_illegal op bit mode register (omega arith) (word_fields word least fits illegal) in
          subst (λ (h : Option Head). IsNone h) (sym is)
          (if_none legal (one_of_fields word) fails)),
    )

not_none : (word : ℕ) (head : Head) → head_of word ≡ Some head → IsNone (head_of word) → ⊥
not_none word head is none = let impossible : IsNone (Some head) =
    subst (λ (h : Option Head). IsNone h) is none in cc

-- no word from 1300 on is illegal but those of the gap
outside_gap : (word : ℕ) → 0x1300 ≤ word → (word ≡ 0x1300) ⊎ (0x2000 ≤ word) → IsIllegalWord word
    → ⊥
outside_gap word least outside illegal = grind arith

-- a word that gives a head is not illegal, nor the other way round
legal : (word : ℕ) (head : Head) → head_of word ≡ Some head → (IsIllegalWord word → ⊥)
    → IsNone (head_of word) ↔ IsIllegalWord word
legal word head is fine =
    ((λ none. absurd (not_none word head is none)), (λ illegal. absurd (fine illegal)))

pub illegal_words_spell_nothing : IllegalWordsSpellNothing
illegal_words_spell_nothing word fits =
    by_range (λ w. IsNone (head_of w) ↔ IsIllegalWord w) word
    (λ low. ((λ _. inl low), (λ _. ap is_some (head_of-low word low))))
    (λ least most. one_illegal word least most)
    (λ exact.
    legal word Reti (ap head_of exact ∙ head_of-reti)
    (λ illegal. outside_gap word (omega arith) (inl exact) illegal))
    (λ above most.
    ((λ _. inr (inl (above, most))), (λ _. ap is_some (head_of-gap word above most))))
    (λ least most.
    legal word (jump_head word) (head_of-jump word least most)
    (λ illegal. outside_gap word (omega arith) (inr least) illegal))
    (λ least.
    legal word (two_head word) (head_of-two word least)
    (λ illegal. outside_gap word (omega arith) (inr (omega arith)) illegal))

-- the law for a head that is known to be the one of the word
pub illegal_where_none : (word : ℕ) (answer : Option Head) → word < 2 ^ 16 → answer ≡ head_of word
    → IsNone answer ↔ IsIllegalWord word
illegal_where_none word answer fits is =
    subst (λ (h : Option Head). IsNone h ↔ IsIllegalWord word) (sym is)
    (illegal_words_spell_nothing word fits)
