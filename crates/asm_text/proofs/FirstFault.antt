-- The lines of a source that was read, and the first faulty line of one that was not.
use Rattle.std.proofs.Common.{◌≡◌, ◌∙◌, ap, sym, refl, ℕ, List, [], ◌∷◌, inl, inr, map, Result, Ok, Err}
use Rattle.text_scan.{specs.{declared.{fault_at.FaultAt.FaultAt, fault_kind.FaultKind.FaultKind}, LineFold.text_lines, Reader.{◌>>=◌, in_line}}, proofs.TextUtf8.{text_read, text_refused, later_read, later_fault}}
use Rattle.asm_text.specs.{declared.statement.Statement.Statement, Source.{lone_statement, IsSource, IsFirstFault, IsFaultOf, statement_of, source_of}, Operand.all_of}

-- what is done with a statement: the later ones follow it
abbrev then_later : List (ℕ × List ℕ) → Statement → Result (List Statement) FaultAt
then_later lines statement =
    all_of (map statement_of lines) >>= (λ later. Ok (statement ∷ later))

lone_first : (line : ℕ × List ℕ) (lines : List (ℕ × List ℕ)) (statements : List Statement)
    (answer : Result Statement FaultKind) → lone_statement line ≡ answer
    → ((later : List Statement) → all_of (map statement_of lines) ≡ Ok later
    → map lone_statement lines ≡ map Ok later)
    → (in_line line.0 answer >>= then_later lines) ≡ Ok statements
    → map lone_statement (line ∷ lines) ≡ map Ok statements
lone_first line lines statements (Err kind) is later h = absurd (cc h)
lone_first line lines statements (Ok statement) is later h =
    let rest = later_read (λ (later : List Statement). statement ∷ later)
    (all_of (map statement_of lines)) statements h in
    rw rest.2 (cc (is, later rest.0 rest.1))

lone_all : (lines : List (ℕ × List ℕ)) (statements : List Statement)
    → all_of (map statement_of lines) ≡ Ok statements → map lone_statement lines ≡ map Ok statements
lone_all [] statements h =
    let none : [] ≡ statements = cc h in ap (map Ok) none
lone_all (line ∷ lines) statements h =
    lone_first line lines statements (lone_statement line) refl (lone_all lines) h

fault_first : (line : ℕ × List ℕ) (lines : List (ℕ × List ℕ)) (fault : FaultAt)
    (answer : Result Statement FaultKind) → lone_statement line ≡ answer
    → (all_of (map statement_of lines) ≡ Err fault → IsFirstFault lines fault)
    → (in_line line.0 answer >>= then_later lines) ≡ Err fault
    → IsFirstFault (line ∷ lines) fault
fault_first line lines fault (Err kind) is later h =
    let same : record { line = line.0; kind = kind } ≡ fault = cc h in record {
      before = [];
      line = line;
      after = lines;
      cut = refl;
      statements = [];
      sound = refl;
      number = sym (ap (λ (f : FaultAt). f.line) same);
      kind = is ∙ ap (λ (f : FaultAt). Err f.kind) same;
    }
fault_first line lines fault (Ok statement) is later h =
    let rest = later (later_fault (λ (l : List Statement). statement ∷ l)
    (all_of (map statement_of lines)) fault h) in record {
      before = line ∷ rest.before;
      line = rest.line;
      after = rest.after;
      cut = ap (λ (l : List (ℕ × List ℕ)). line ∷ l) rest.cut;
      statements = statement ∷ rest.statements;
      sound = cc (is, rest.sound);
      number = rest.number;
      kind = rest.kind;
    }

first_fault : (lines : List (ℕ × List ℕ)) (fault : FaultAt)
    → all_of (map statement_of lines) ≡ Err fault → IsFirstFault lines fault
first_fault [] fault h = absurd (cc h)
first_fault (line ∷ lines) fault h =
    fault_first line lines fault (lone_statement line) refl (first_fault lines fault) h

pub source_of-lines : (text : List ℕ) (statements : List Statement)
    → source_of text ≡ Ok statements → IsSource text statements
unfolding source_of
source_of-lines text statements h =
    let sound = text_read text (all_of (map statement_of (text_lines text))) statements h in
    record { utf8 = sound.0; each = lone_all (text_lines text) statements sound.1 }

pub source_of-fault : (text : List ℕ) (fault : FaultAt) → source_of text ≡ Err fault
    → IsFaultOf text fault
unfolding source_of
source_of-fault text fault h =
    elim (text_refused text (all_of (map statement_of (text_lines text))) fault h) [
      | inl not_utf8 ↦ inl not_utf8
      | inr sound ↦ inr (sound.0, first_fault (text_lines text) fault sound.1)
    ]
