-- The head that is computed from a word is the one that the word spells.
use Rattle.std.{proofs.{Common.{◌≡◌, ℕ, ◌<◌, ◌≤◌, ◌/◌, ◌%◌, ◌^◌, ◌↔◌, ℤ, Bool, true, false, refl, ap, sym, ◌∙◌, subst, arith, Option, Some, None, if◌then◌else◌, inl, inr}, lemmas.Bool.Decides.{nat_tests, leb_tells}}, specs.Prelude.{IsTrue, ◌&&◌, ◌||◌, not}}
use Rattle.word_arith.specs.declared.{size.Size.Size, op2.Op2.Op2}
use Rattle.msp_decode.{specs.{declared.{one.One.One, cond.Cond.Cond, source_form.SourceForm.SourceForm, dest_form.DestForm.DestForm, head.Head.{Head, TheVariants.{Two, One as OneOperand, Reti, Jump}}}, Table.{op2_number, one_number, cond_number, size_number, source_mode, source_register, dest_mode, dest_register, offset_number}, Spelling.{has_form, has_range, is_legal, word_of, Spells, has_size, takes_result, writes_operand}, Head.{one_head, two_head, jump_head, head_of}, Law.HeadsAreSpelled, Field.{one_of, size_of_bit, source_of}}, proofs.TableLemmas.{op2_number-op2_of, op2_of-op2_number, op2_number-lt, op2_number-le, one_number-one_of, one_of-one_number, one_number-lt, cond_number-cond_of, cond_of-cond_number, cond_number-lt, size_number-size_of_bit, size_of_bit-size_number, size_number-lt, source_mode-lt, source_register-lt, source_of-fields, source_mode-source_of, source_register-source_of, has_form-source_of, dest_mode-lt, dest_register-lt, dest_of-fields, dest_mode-dest_of, dest_register-dest_of, offset_number-lt, offset_of-offset_number, offset_number-offset_of, has_range-offset_of}}

-- The ranges of words: illegal, of one operand, RETI, illegal again, jumps, of two operands.

-- what holds in each range holds of every word
pub by_range :
    (P : ℕ → Type 0) (word : ℕ)
    → (word < 0x1000 → P word)
    → (0x1000 ≤ word → word < 0x1300 → P word)
    → (word ≡ 0x1300 → P word)
    → (0x1300 < word → word < 0x2000 → P word)
    → (0x2000 ≤ word → word < 0x4000 → P word)
    → (0x4000 ≤ word → P word)
    → P word
by_range P word low one reti gap jump two = elim (leb_tells 0x1000 word) [
  | inr below ↦ low below.1
  | inl above_low ↦ elim (leb_tells 0x1300 word) [
    | inr below ↦ one above_low.1 below.1
    | inl above_one ↦ elim (leb_tells 0x1301 word) [
      | inr below ↦ reti (omega (arith, above_one.1, below.1))
      | inl above_reti ↦ elim (leb_tells 0x2000 word) [
        | inr below ↦ gap (omega (arith, above_reti.1)) below.1
        | inl above_gap ↦ elim (leb_tells 0x4000 word) [
          | inr below ↦ jump above_gap.1 below.1
          | inl above_jump ↦ two above_jump.1
        ]
      ]
    ]
  ]
]

-- A word of one operand gives the head of its fields, where that is legal.

-- a head, if it is legal
abbrev pub if_legal : Head → Option Head
if_legal head = if is_legal head then Some head else None

-- the head of the fields, legal or not
abbrev pub one_of_fields : ℕ → Head
one_of_fields word =
    OneOperand (one_of (word / 0x80 % 8)) (size_of_bit (word / 0x40 % 2))
    (source_of (word / 0x10 % 4) (word % 16))

pub one_head-legal : (word : ℕ) → one_head word ≡ if_legal (one_of_fields word)
one_head-legal word =
    ap (λ (formed : Bool).
    if formed && has_size (one_of (word / 0x80 % 8)) (size_of_bit (word / 0x40 % 2))
    && (takes_result (source_of (word / 0x10 % 4) (word % 16))
    || not (writes_operand (one_of (word / 0x80 % 8))))
    then Some (one_of_fields word) else None)
    (sym (has_form-source_of (word / 0x10 % 4) (word % 16) (omega arith) (omega arith)))

-- the word of the head that is read from a word is that word
two_spelled : (word : ℕ) → 0x4000 ≤ word → word < 0x10000 → Spells word (two_head word)
two_spelled word least fits = (
  has_form-source_of (word / 0x10 % 4) (word / 0x100 % 16) (omega arith) (omega arith),
  grind (
    arith,
    op2_number-op2_of,
    size_number-size_of_bit,
    source_mode-source_of,
    source_register-source_of,
    dest_mode-dest_of,
    dest_register-dest_of,
  ),
)

one_is : (word : ℕ) → 0x1000 ≤ word → word < 0x1300 → word ≡ word_of (one_of_fields word)
one_is word least fits =
    grind (
      arith,
      one_number-one_of,
      size_number-size_of_bit,
      source_mode-source_of,
      source_register-source_of,
    )

jump_spelled : (word : ℕ) → 0x2000 ≤ word → word < 0x4000 → Spells word (jump_head word)
jump_spelled word least fits = (
  has_range-offset_of (word % 0x400) (omega arith),
  grind (arith, cond_number-cond_of, offset_number-offset_of),
)

-- the head that is read from the word of a head is that head
two_read : (op : Op2) (size : Size) (source : SourceForm) (dest : DestForm) (word : ℕ)
    → IsTrue (has_form source) → word ≡ word_of (Two op size source dest)
    → two_head word ≡ Two op size source dest
two_read op size source dest word is_formed is =
    let op_fits = op2_number-lt op in
    let size_fits = size_number-lt size in
    let mode_fits = source_mode-lt source in
    let register_fits = source_register-lt source in
    let dest_fits = dest_mode-lt dest in
    let last_fits = dest_register-lt dest in
    let op_is : word / 0x1000 ≡ op2_number op = omega arith in
    let size_is : word / 0x40 % 2 ≡ size_number size = omega arith in
    let mode_is : word / 0x10 % 4 ≡ source_mode source = omega arith in
    let register_is : word / 0x100 % 16 ≡ source_register source = omega arith in
    let dest_is : word / 0x80 % 2 ≡ dest_mode dest = omega arith in
    let last_is : word % 16 ≡ dest_register dest = omega arith in
    rw (
      op_is,
      size_is,
      mode_is,
      register_is,
      dest_is,
      last_is,
      op2_of-op2_number op,
      size_of_bit-size_number size,
      source_of-fields source is_formed,
      dest_of-fields dest,
    ) refl

one_read : (op : One) (size : Size) (source : SourceForm) (word : ℕ) → IsTrue (has_form source)
    → word ≡ word_of (OneOperand op size source) → one_of_fields word ≡ OneOperand op size source
one_read op size source word is_formed is =
    let op_fits = one_number-lt op in
    let size_fits = size_number-lt size in
    let mode_fits = source_mode-lt source in
    let register_fits = source_register-lt source in
    let op_is : word / 0x80 % 8 ≡ one_number op = omega arith in
    let size_is : word / 0x40 % 2 ≡ size_number size = omega arith in
    let mode_is : word / 0x10 % 4 ≡ source_mode source = omega arith in
    let register_is : word % 16 ≡ source_register source = omega arith in
    rw (
      op_is,
      size_is,
      mode_is,
      register_is,
      one_of-one_number op,
      size_of_bit-size_number size,
      source_of-fields source is_formed,
    ) refl

jump_read : (condition : Cond) (offset : ℤ) (word : ℕ) → IsTrue (has_range offset)
    → word ≡ word_of (Jump condition offset) → jump_head word ≡ Jump condition offset
jump_read condition offset word fits is =
    let condition_fits = cond_number-lt condition in
    let offset_fits = offset_number-lt offset fits in
    let condition_is : word / 0x400 % 8 ≡ cond_number condition = omega arith in
    let offset_is : word % 0x400 ≡ offset_number offset = omega arith in
    rw (
      condition_is,
      offset_is,
      cond_of-cond_number condition,
      offset_of-offset_number offset fits,
    ) refl

-- which kind of head is read, by the ranges of words
pub head_of-reti : head_of 0x1300 ≡ Some Reti
unfolding head_of
head_of-reti = refl

pub head_of-low : (word : ℕ) → word < 0x1000 → head_of word ≡ None
unfolding head_of
head_of-low word fits = grind (arith, nat_tests)

pub head_of-one : (word : ℕ) → 0x1000 ≤ word → word < 0x1300 → head_of word ≡ one_head word
unfolding head_of
head_of-one word least fits = grind (arith, nat_tests)

pub head_of-fields : (word : ℕ) → 0x1000 ≤ word → word < 0x1300
    → head_of word ≡ if_legal (one_of_fields word)
head_of-fields word least fits = head_of-one word least fits ∙ one_head-legal word

pub head_of-gap : (word : ℕ) → 0x1300 < word → word < 0x2000 → head_of word ≡ None
unfolding head_of
head_of-gap word above fits = grind (arith, nat_tests)

pub head_of-jump : (word : ℕ) → 0x2000 ≤ word → word < 0x4000 → head_of word ≡ Some (jump_head word)
unfolding head_of
head_of-jump word least fits = grind (arith, nat_tests)

pub head_of-two : (word : ℕ) → 0x4000 ≤ word → head_of word ≡ Some (two_head word)
unfolding head_of
head_of-two word least = grind (arith, nat_tests)

-- a head is given exactly where it is legal
some_if : (test : Bool) (candidate head : Head)
    → (if test then Some candidate else None) ≡ Some head → IsTrue test × (candidate ≡ head)
some_if true candidate head is = (refl, cc)
some_if false candidate head is = cc

if_legal-legal : (head : Head) → IsTrue (is_legal head) → if_legal head ≡ Some head
if_legal-legal head legal = rw legal refl

one_spelled : (word : ℕ) (head : Head) → 0x1000 ≤ word → word < 0x1300
    → if_legal (one_of_fields word) ≡ Some head → Spells word head
one_spelled word head least fits is =
    let answer = some_if (is_legal (one_of_fields word)) (one_of_fields word) head is in
    subst (λ (h : Head). Spells word h) (answer.1) (answer.0, one_is word least fits)

-- a word that gives no head gives no other
unread : (word : ℕ) (head : Head) → head_of word ≡ None → head_of word ≡ Some head → ⊥
unread word head none some = cc

-- a word that gives one head gives no other
read_as : (word : ℕ) (answer head : Head) → head_of word ≡ Some answer → head_of word ≡ Some head
    → Spells word answer → Spells word head
read_as word answer head first second spells =
    let same : answer ≡ head = cc in
    subst (λ (h : Head). Spells word h) same spells

reti_spelled : (word : ℕ) (head : Head) → word ≡ 0x1300 → head_of word ≡ Some head
    → Spells word head
reti_spelled word head exact is =
    read_as word Reti head (ap head_of exact ∙ head_of-reti) is (refl, exact)

head_sound : (word : ℕ) (head : Head) → word < 2 ^ 16 → head_of word ≡ Some head → Spells word head
head_sound word head fits is =
    by_range (λ _. Spells word head) word
    (λ low. absurd (unread word head (head_of-low word low) is))
    (λ least most. one_spelled word head least most (sym (head_of-fields word least most) ∙ is))
    (λ exact. reti_spelled word head exact is)
    (λ above most. absurd (unread word head (head_of-gap word above most) is))
    (λ least most. read_as word (jump_head word) head (head_of-jump word least most) is
    (jump_spelled word least most))
    (λ least. read_as word (two_head word) head (head_of-two word least) is
    (two_spelled word least (omega arith)))

pub head_complete : (word : ℕ) (head : Head) → word < 2 ^ 16 → Spells word head
    → head_of word ≡ Some head
head_complete word (Two op size source dest) fits spells =
    let least : 4 ≤ op2_number op = op2_number-le op in
    rw (head_of-two word (omega (arith, spells.1)))
    (ap Some (two_read op size source dest word (spells.0) (spells.1)))
head_complete word (OneOperand op size source) fits spells =
    let op_fits = one_number-lt op in
    let size_fits = size_number-lt size in
    let mode_fits = source_mode-lt source in
    let register_fits = source_register-lt source in
    let is : word ≡ word_of (OneOperand op size source) = spells.1 in
    let is_formed : IsTrue (has_form source) = grind (arith, spells.0) in
    head_of-fields word (omega (arith, is)) (omega (arith, is))
    ∙ ap if_legal (one_read op size source word is_formed is)
    ∙ if_legal-legal (OneOperand op size source) (spells.0)
head_complete word Reti fits spells = ap head_of (spells.1) ∙ head_of-reti
head_complete word (Jump condition offset) fits spells =
    let condition_fits = cond_number-lt condition in
    let offset_fits = offset_number-lt offset (spells.0) in
    let is : word ≡ word_of (Jump condition offset) = spells.1 in
    rw (head_of-jump word (omega (arith, is)) (omega (arith, is)))
    (ap Some (jump_read condition offset word (spells.0) is))

pub heads_are_spelled : HeadsAreSpelled
heads_are_spelled word head fits = (head_sound word head fits, head_complete word head fits)

-- the law for a head that is known to be the one of the word
pub spells_where_found : (word : ℕ) (answer : Option Head) → word < 2 ^ 16 → answer ≡ head_of word
    → (head : Head) → (answer ≡ Some head) ↔ Spells word head
spells_where_found word answer fits is head =
    subst (λ (h : Option Head). (h ≡ Some head) ↔ Spells word head) (sym is)
    (heads_are_spelled word head fits)
