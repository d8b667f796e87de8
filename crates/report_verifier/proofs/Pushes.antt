-- Pieces that are put behind one another in an array, where they fit.
use Rattle.std.proofs.{Common.{◌≡◌, ◌≤◌, ◌+◌, ◌-◌, ◌++◌, ◌∙◌, ◌∷◌, [], ℕ, List, length, refl, ap, arith, length-append, append_assoc, sym, take}, Math.Seq.take-append_seam}
use Rattle.part_definitions.{specs.{Memory.bytes_from, Region.bytes_between}, proofs.BytesFrom.{length-bytes_from, bytes_between-span}}
use Rattle.report_verifier.proofs.CodeBytes.{append-byte}

-- Pieces that are appended one by one, and the first of them.

pub append-three :
    (all a b c : List ℕ) → ((all ++ a) ++ b) ++ c ≡ all ++ (a ++ (b ++ c))
append-three all a b c =
    append_assoc (all ++ a) b c ∙ append_assoc all a (b ++ c)

pub append-six :
    (all a b c d e f : List ℕ)
    → (((((all ++ a) ++ b) ++ c) ++ d) ++ e) ++ f ≡ all ++ (a ++ (b ++ (c ++ (d ++ (e ++ f)))))
append-six all a b c d e f =
    append-three (((all ++ a) ++ b) ++ c) d e f
    ∙ append_assoc ((all ++ a) ++ b) c (d ++ (e ++ f))
    ∙ append-three all a b (c ++ (d ++ (e ++ f)))

take-prefix : (first rest : List ℕ) (n : ℕ) → length first ≡ n → take n (first ++ rest) ≡ first
take-prefix first rest n is = ap (λ k. take k (first ++ rest)) (sym is)
    ∙ take-append_seam first rest

pub take-first : (first second third : List ℕ) (n : ℕ) → length first ≡ n
    → take n ((first ++ second) ++ third) ≡ first
take-first first second third n is =
    ap (take n) (append_assoc first second third) ∙ take-prefix first (second ++ third) n is

-- one more piece behind the first ones, whose number of bytes is known
pushes :
    (most : ℕ) (old new before piece : List ℕ) (count : ℕ)
    → old ≡ before
    → length before ≡ count
    → count + length piece ≤ most
    → (length old + length piece ≤ most → new ≡ old ++ piece)
    → (new ≡ before ++ piece) × (length (before ++ piece) ≡ count + length piece)
pushes most old new before piece count is size fits push = (
  push (omega (arith, ap length is, size, fits)) ∙ ap (λ (l : List ℕ). l ++ piece) is,
  length-append before piece ∙ ap (λ (n : ℕ). n + length piece) size,
)

pub six-pushed :
    (most : ℕ) (l₀ l₁ l₂ l₃ l₄ l₅ l₆ a b c d e f : List ℕ)
    → l₀ ≡ []
    → length a + length b + length c + length d + length e + length f ≤ most
    → (length l₀ + length a ≤ most → l₁ ≡ l₀ ++ a)
    → (length l₁ + length b ≤ most → l₂ ≡ l₁ ++ b)
    → (length l₂ + length c ≤ most → l₃ ≡ l₂ ++ c)
    → (length l₃ + length d ≤ most → l₄ ≡ l₃ ++ d)
    → (length l₄ + length e ≤ most → l₅ ≡ l₄ ++ e)
    → (length l₅ + length f ≤ most → l₆ ≡ l₅ ++ f)
    → l₆ ≡ a ++ (b ++ (c ++ (d ++ (e ++ f))))
six-pushed most l₀ l₁ l₂ l₃ l₄ l₅ l₆ a b c d e f empty fits p₁ p₂ p₃ p₄ p₅ p₆ =
    let one = pushes most l₀ l₁ [] a 0 empty refl (omega (arith, fits)) p₁ in
    let two = pushes most l₁ l₂ ([] ++ a) b (0 + length a) one.0 one.1 (omega (arith, fits)) p₂ in
    let three = pushes most l₂ l₃ (([] ++ a) ++ b) c (0 + length a + length b) two.0 two.1
    (omega (arith, fits)) p₃ in
    let four = pushes most l₃ l₄ ((([] ++ a) ++ b) ++ c) d (0 + length a + length b + length c)
    three.0 three.1 (omega (arith, fits)) p₄ in
    let five = pushes most l₄ l₅ (((([] ++ a) ++ b) ++ c) ++ d) e
    (0 + length a + length b + length c + length d) four.0 four.1 (omega (arith, fits)) p₅ in
    let six = pushes most l₅ l₆ ((((([] ++ a) ++ b) ++ c) ++ d) ++ e) f
    (0 + length a + length b + length c + length d + length e) five.0 five.1 (omega (arith, fits))
    p₆ in
    six.0 ∙ append-six [] a b c d e f

pub two-pushed :
    (most : ℕ) (l₁ l₂ l₃ a b c : List ℕ)
    → l₁ ≡ a
    → length a + length b + length c ≤ most
    → (length l₁ + length b ≤ most → l₂ ≡ l₁ ++ b)
    → (length l₂ + length c ≤ most → l₃ ≡ l₂ ++ c)
    → l₃ ≡ a ++ (b ++ c)
two-pushed most l₁ l₂ l₃ a b c is fits p₂ p₃ =
    let two = pushes most l₁ l₂ a b (length a) is refl (omega (arith, fits)) p₂ in
    let three = pushes most l₂ l₃ (a ++ b) c (length a + length b) two.0 two.1 (omega (arith, fits))
    p₃ in
    three.0 ∙ append_assoc a b c

-- the bytes up to a place, and the byte there
pub byte-pushed :
    (most : ℕ) (bytes : ℕ → ℕ) (message now new : List ℕ) (first place end byte : ℕ)
    → first ≤ place
    → place + 1 ≤ end
    → length message + (end - first) ≤ most
    → byte ≡ bytes place
    → now ≡ message ++ bytes_from bytes first (place - first)
    → (length now + 1 ≤ most → new ≡ now ++ byte ∷ [])
    → new ≡ message ++ bytes_from bytes first (place + 1 - first)
byte-pushed most bytes message now new first place end byte order below fits same is push =
    let size : length now ≡ length message + (place - first) =
    ap length is ∙ length-append message (bytes_from bytes first (place - first))
    ∙ ap (λ (n : ℕ). length message + n) (length-bytes_from bytes first (place - first)) in
    push (omega (arith, size, fits, below, order))
    ∙ ap (λ (l : List ℕ). l ++ byte ∷ []) is
    ∙ append-byte bytes message first place byte order same

-- a piece that was lent
pub lent-pushed :
    (most : ℕ) (bytes : ℕ → ℕ) (old piece new : List ℕ) (first count : ℕ)
    → piece ≡ bytes_from bytes first count
    → length old + count ≤ most
    → (length old + length piece ≤ most → new ≡ old ++ piece)
    → new ≡ old ++ bytes_from bytes first count
lent-pushed most bytes old piece new first count is fits push =
    push (omega (arith, ap length is, length-bytes_from bytes first count, fits))
    ∙ ap (λ (l : List ℕ). old ++ l) is

-- code and output behind the metadata
pub spans-pushed :
    (most : ℕ) (bytes : ℕ → ℕ) (old mid new : List ℕ) (er_min er_max or_min or_max : ℕ)
    → er_min ≤ er_max
    → or_min ≤ or_max
    → length old ≡ 80
    → 80 + (er_max + 2 - er_min) + (or_max + 2 - or_min) ≤ most
    → (length old + (er_max + 1 + 1 - er_min) ≤ most
    → mid ≡ old ++ bytes_from bytes er_min (er_max + 1 + 1 - er_min))
    → (length mid + (or_max + 1 + 1 - or_min) ≤ most
    → new ≡ mid ++ bytes_from bytes or_min (or_max + 1 + 1 - or_min))
    → new ≡ old ++ (bytes_between bytes er_min er_max ++ bytes_between bytes or_min or_max)
spans-pushed most bytes old mid new er_min er_max or_min or_max code output size fits first second =
    let er : List ℕ = bytes_between bytes er_min er_max in
    let or : List ℕ = bytes_between bytes or_min or_max in
    let one : mid ≡ old ++ er =
    first (omega (arith, code, size, fits))
    ∙ ap (λ (l : List ℕ). old ++ l) (bytes_between-span bytes er_min er_max code) in
    let count : length er ≡ er_max + 2 - er_min =
    length-bytes_from bytes er_min (er_max + 2 - er_min) in
    let all : length mid ≡ length old + length er = ap length one ∙ length-append old er in
    let two : new ≡ mid ++ or =
    second (omega (arith, output, size, count, all, fits))
    ∙ ap (λ (l : List ℕ). mid ++ l) (bytes_between-span bytes or_min or_max output) in
    two ∙ ap (λ (l : List ℕ). l ++ or) one ∙ append_assoc old er or
