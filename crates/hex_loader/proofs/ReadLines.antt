-- A text that is read line by line.
use Rattle.std.{proofs.Common.{◌≡◌, ◌∙◌, ◌+◌, ℕ, true, false, List, [], ◌∷◌, length, reverse, Some, None, refl, sym, ap, arith}, specs.Str.Lines.lines}
use mathlib.Core.List.{reverse_aux}
use Rattle.mem_map.specs.Image.{byte_in}
use Rattle.text_scan.specs.{declared.{fault_at.FaultAt.FaultAt, fault_kind.FaultKind.{FaultKind, TheVariants.NoEnd}}, LineFold.numbered_lines}
use Rattle.hex_loader.specs.{declared.reader.Reader.Reader, HexImage.{first_fault, line_fault, has_ended, hex_fault, hex_byte, ReaderStandsFor}}

-- the lines up to these were read, and have no fault
pub record IsReadTo (text : List ℕ) (later : List (ℕ × List ℕ)) (count : ℕ) (reader : Reader) : Type
    0 where
  pub earlier : List (List ℕ)
  pub rest : List (List ℕ)
  pub numbers : later ≡ numbered_lines (count + 1) rest
  pub all : reverse (lines text) ≡ reverse_aux rest earlier
  pub counted : count ≡ length earlier
  pub no_fault : first_fault earlier ≡ None
  pub stands : ReaderStandsFor reader earlier

-- a first fault stays the first, whatever follows
first_fault-stays : (rest earlier : List (List ℕ)) (fault : FaultAt)
    → first_fault earlier ≡ Some fault → first_fault (reverse_aux rest earlier) ≡ Some fault
first_fault-stays [] earlier fault first = first
first_fault-stays (line ∷ rest) earlier fault first =
    first_fault-stays rest (line ∷ earlier) fault (rw first refl)

-- the next line of those that are left
record Next (rest : List (List ℕ)) (count number : ℕ) (line : List ℕ)
    (later : List (ℕ × List ℕ)) : Type 0 where
  after : List (List ℕ)
  is : rest ≡ line ∷ after
  number_is : number ≡ count + 1
  left_is : later ≡ numbered_lines (number + 1) after

next_of : (rest : List (List ℕ)) (count number : ℕ) (line : List ℕ) (later : List (ℕ × List ℕ))
    → numbered_lines (count + 1) rest ≡ (number, line) ∷ later → Next rest count number line later
next_of [] count number line later is = absurd cc
next_of (first ∷ rest) count number line later is =
    let head : ◌≡◌ {A = ℕ × List ℕ} (count + 1, first) (number, line) = cc in
    let tail : numbered_lines (count + 1 + 1) rest ≡ later = cc in
    let same : count + 1 ≡ number = ap (λ (item : ℕ × List ℕ). item.0) head in
    record {
      after = rest;
      is = ap (λ (item : ℕ × List ℕ). item.1 ∷ rest) head;
      number_is = sym same;
      left_is = sym tail ∙ ap (λ (n : ℕ). numbered_lines (n + 1) rest) same;
    }

-- one line more
pub line_read : (text : List ℕ) (later more : List (ℕ × List ℕ)) (count number : ℕ) (line : List ℕ)
    (reader new : Reader)
    (at : IsReadTo text later count reader) → later ≡ (number, line) ∷ more
    → None ≡ line_fault at.earlier line → ReaderStandsFor new (line ∷ at.earlier)
    → IsReadTo text more number new
line_read text later more count number line reader new at is sound stands =
    let next = next_of at.rest count number line more (sym at.numbers ∙ is) in
    record {
      earlier = line ∷ at.earlier;
      rest = next.after;
      numbers = next.left_is;
      all = at.all ∙ ap (λ (rest : List (List ℕ)). reverse_aux rest at.earlier) next.is;
      counted = omega (arith, next.number_is, at.counted);
      no_fault = rw (at.no_fault, ← sound) refl;
      stands = stands;
    }

-- a line with a fault
pub fault_read : (text : List ℕ) (later more : List (ℕ × List ℕ)) (count number : ℕ) (line : List ℕ)
    (reader : Reader) (kind : FaultKind)
    (at : IsReadTo text later count reader) → later ≡ (number, line) ∷ more
    → Some kind ≡ line_fault at.earlier line
    → hex_fault text ≡ Some (record { line = number; kind = kind })
fault_read text later more count number line reader kind at is fault =
    let next = next_of at.rest count number line more (sym at.numbers ∙ is) in
    let lines_are = at.all ∙ ap (λ (rest : List (List ℕ)). reverse_aux rest at.earlier) next.is in
    let same : length at.earlier + 1 ≡ number = omega (arith, next.number_is, at.counted) in
    let here : first_fault (line ∷ at.earlier) ≡ Some (record { line = number; kind = kind }) =
    rw (at.no_fault, ← fault, same) refl in
    let first = first_fault-stays next.after (line ∷ at.earlier)
    (record { line = number; kind = kind }) here in
    rw (lines_are, first) refl

none_of : (rest : List (List ℕ)) (first : ℕ) → [] ≡ numbered_lines first rest → rest ≡ []
none_of [] first is = refl
none_of (line ∷ rest) first is = absurd cc

-- where no line is left
all_read : (text : List ℕ) (later : List (ℕ × List ℕ)) (count : ℕ) (reader : Reader)
    (at : IsReadTo text later count reader)
    → later ≡ [] → reverse (lines text) ≡ at.earlier
all_read text later count reader at none =
    at.all ∙ ap (λ (rest : List (List ℕ)). reverse_aux rest at.earlier)
    (none_of at.rest (count + 1) (sym none ∙ at.numbers))

pub no_end : (text : List ℕ) (later : List (ℕ × List ℕ)) (count : ℕ) (reader : Reader)
    → IsReadTo text later count reader
    → later ≡ [] → reader.has_ended ≡ false → hex_fault text
    ≡ Some (record { line = count; kind = NoEnd })
no_end text later count reader at none ends =
    let lines_are = all_read text later count reader at none in
    let open_ended : has_ended at.earlier ≡ false = sym at.stands.same_end ∙ ends in
    rw (lines_are, at.no_fault, open_ended, ← at.counted) refl

pub no_fault : (text : List ℕ) (later : List (ℕ × List ℕ)) (count : ℕ) (reader : Reader)
    → IsReadTo text later count reader
    → later ≡ [] → reader.has_ended ≡ true → hex_fault text ≡ None
no_fault text later count reader at none ends =
    let lines_are = all_read text later count reader at none in
    let is_closed : has_ended at.earlier ≡ true = sym at.stands.same_end ∙ ends in
    rw (lines_are, at.no_fault, is_closed) refl

pub bytes_read : (text : List ℕ) (later : List (ℕ × List ℕ)) (count : ℕ) (reader : Reader)
    → IsReadTo text later count reader
    → later ≡ [] → (place : ℕ) → byte_in reader.image place ≡ hex_byte text place
bytes_read text later count reader at none place =
    rw (all_read text later count reader at none) (at.stands.bytes place)
