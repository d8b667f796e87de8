-- The reading of one file.
use Rattle.std.{proofs.{Common.{◌≡◌, ◌<◌, ◌≤◌, ℕ, suc, List, Option, Some, None, IfSome, Result, Ok, Err, length, replicate, refl, inl, inr, arith, ap}, lemmas.{Bool.{lt-ltb, le-ltb}, List.length-replicate}}, specs.Prelude.IsSomeAnd}
use Rattle.outside_edge.specs.{Calls.Rose, File.{file_of, HasFile, Finds}, Shelf.KeepsFiles, declared.file_fault.FileFault.FileFault}
use Rattle.text_scan.specs.declared.{fault_at.FaultAt.FaultAt, fault_kind.FaultKind.TheVariants.TooLong}
use Rattle.input_files.specs.{declared.{refusal.Refusal.Refusal, status.Status.Status}, Row.{FileKind, RowOf, read_file, file_value}, Reading.{Files, Leaves, ParsesAs, Reaches, Reads, Refuses, first_refusal, refusal_of}}
use Rattle.outside_edge.specs.declared.file_fault.FileFault.TheVariants as file
use Rattle.input_files.specs.declared.status.Status.TheVariants as status
use Rattle.input_files.proofs.file.FileInputs.read.Goals as goal

-- past its limit a file has its fault at line 0
longer-value : {M : Type 0} (kind : FileKind M) (bytes : List ℕ) → kind.limit < length bytes
    → file_value kind bytes ≡ Err (record { line = 0; kind = TooLong })
longer-value kind bytes longer = rw (lt-ltb kind.limit (length bytes) longer) refl

short-value : {M : Type 0} (kind : FileKind M) (bytes : List ℕ) → length bytes ≤ kind.limit
    → file_value kind bytes ≡ kind.grammar bytes
short-value kind bytes short = rw (le-ltb kind.limit (length bytes) short) refl

-- a file with a value
same-rest : {M Outcome : Type 0} (files : Files) (name bytes : List ℕ) (kind : FileKind M)
    (onward : M → RowOf Outcome) (value : M)
    → Finds files name (Some bytes) → file_value kind bytes ≡ Ok value
    → IfSome files (λ contents.
    first_refusal (read_file kind name onward) contents ≡ first_refusal (onward value) contents)
same-rest None name bytes kind onward value finds is = tt
same-rest (Some contents) name bytes kind onward value finds is = rw (finds, is) refl

read-leaves : {M Outcome : Type 0} (files : Files) (name bytes : List ℕ) (kind : FileKind M)
    (onward : M → RowOf Outcome) (value : M)
    → Finds files name (Some bytes) → file_value kind bytes ≡ Ok value
    → Leaves files (read_file kind name onward) (onward value)
read-leaves files name bytes kind onward value finds is =
    record {
      reaches = λ end reaches. (bytes, finds, rw is reaches);
      same_refusal = same-rest files name bytes kind onward value finds is;
    }

-- a file with a fault
bad-reaches : {M Outcome : Type 0} (files : Files) (name bytes : List ℕ) (kind : FileKind M)
    (onward : M → RowOf Outcome) (fault : FaultAt)
    → Finds files name (Some bytes) → file_value kind bytes ≡ Err fault
    → Reaches files (read_file kind name onward) (Err (kind.refusal fault))
bad-reaches files name bytes kind onward fault finds is = (bytes, finds, rw is refl)

bad-refuses : {M Outcome : Type 0} (files : Files) (name bytes : List ℕ) (kind : FileKind M)
    (onward : M → RowOf Outcome) (fault : FaultAt)
    → Finds files name (Some bytes) → file_value kind bytes ≡ Err fault
    → IfSome files (λ contents. Refuses (first_refusal (read_file kind name onward) contents)
    (status.Bad (kind.refusal fault)))
bad-refuses None name bytes kind onward fault finds is = tt
bad-refuses (Some contents) name bytes kind onward fault finds is =
    let same : first_refusal (read_file kind name onward) contents
    ≡ Some (status.Bad (kind.refusal fault)) = rw (finds, is) refl in
    rw same (inl refl)

-- a failure refuses any files
memory-refuses : (answer : Option Status) → Refuses answer status.Memory
memory-refuses None = inr refl
memory-refuses (Some answer) = inr (inr refl)

failure-refuses : (answer : Option Status) → Refuses answer status.ReadFault
failure-refuses None = inl refl
failure-refuses (Some answer) = inr (inl refl)

memory-order : {Outcome : Type 0} (files : Files) (row : RowOf Outcome)
    → IfSome files (λ contents. Refuses (first_refusal row contents) status.Memory)
memory-order None row = tt
memory-order (Some contents) row = memory-refuses (first_refusal row contents)

failure-order : {Outcome : Type 0} (files : Files) (row : RowOf Outcome)
    → IfSome files (λ contents. Refuses (first_refusal row contents) status.ReadFault)
failure-order None row = tt
failure-order (Some contents) row = failure-refuses (first_refusal row contents)

absent-order : {M Outcome : Type 0} (files : Files) (name : List ℕ) (kind : FileKind M)
    (onward : M → RowOf Outcome)
    → Finds files name None
    → IfSome files (λ contents.
    Refuses (first_refusal (read_file kind name onward) contents) status.Absent)
absent-order None name kind onward finds = tt
absent-order (Some contents) name kind onward finds =
    let is : first_refusal (read_file kind name onward) contents ≡ Some status.Absent =
    rw finds refl in
    rw is (inl refl)

-- the bytes of a file, read as its value or refused
parsed-Reads : {S V M Outcome : Type 0} (files : S → Files) (faults misses : S → ℕ)
    (old new : S) (name bytes : List ℕ) (kind : FileKind M) (meaning : V → M)
    (onward : M → RowOf Outcome) (result : Result V Refusal)
    → Finds (files old) name (Some bytes) → length bytes ≤ kind.limit
    → KeepsFiles files faults misses old new
    → ParsesAs kind meaning bytes result
    → Reads files faults misses old new (read_file kind name onward)
    (λ value. onward (meaning value)) result
parsed-Reads files faults misses old new name bytes kind meaning onward (Ok value) finds short keeps
    parses =
    record {
      values = read-leaves (files old) name bytes kind onward (meaning value) finds
          (rw (short-value kind bytes short) parses);
      refusal = tt;
      order = tt;
      kept = keeps;
    }
parsed-Reads files faults misses old new name bytes kind meaning onward (Err refused) finds short
    keeps (inl memory) =
    rw memory (record {
      values = tt;
      refusal = inr (inr (inl refl));
      order = memory-order (files old) (read_file kind name onward);
      kept = keeps;
    })
parsed-Reads files faults misses old new name bytes kind meaning onward (Err refused) finds short
    keeps (inr (fault, is, same)) =
    let faulty : file_value kind bytes ≡ Err fault = rw (short-value kind bytes short) is in
    rw same (record {
      values = tt;
      refusal = inr (inr (inr (
        kind.refusal fault,
        refl,
        bad-reaches (files old) name bytes kind onward fault finds faulty,
      )));
      order = bad-refuses (files old) name bytes kind onward fault finds faulty;
      kept = keeps;
    })

-- a file that is too long; where no files are told, any bytes of that number will do
record IsLonger {M : Type 0} (files : Files) (name : List ℕ) (kind : FileKind M) : Type 0 where
  bytes : List ℕ
  finds : Finds files name (Some bytes)
  longer : kind.limit < length bytes

longer-among : {M : Type 0} (contents : List (List ℕ × List ℕ)) (name : List ℕ)
    (kind : FileKind M) (entry : Option (List ℕ))
    → file_of contents name ≡ entry → IsSomeAnd entry (λ file. kind.limit < length file)
    → IsLonger (Some contents) name kind
longer-among contents name kind None is longer = absurd longer
longer-among contents name kind (Some file) is longer =
    record { bytes = file; finds = is; longer = longer }

longer-file : {M : Type 0} (files : Files) (name : List ℕ) (kind : FileKind M)
    → HasFile files name (λ file. kind.limit < length file) → IsLonger files name kind
longer-file None name kind longer =
    record {
      bytes = replicate (suc kind.limit) 0;
      finds = tt;
      longer = rw length-replicate (omega arith);
    }
longer-file (Some contents) name kind longer =
    longer-among contents name kind (file_of contents name) refl longer

-- a file that can't be had
unread-Reads : {S V M Outcome : Type 0} (files : S → Files) (faults misses : S → ℕ)
    (old new : S) (name : List ℕ) (kind : FileKind M) (rest : V → RowOf Outcome)
    (onward : M → RowOf Outcome) (fault : FileFault)
    → (fault ≡ file.Absent → Finds (files old) name None)
    → (fault ≡ file.Absent → Rose (misses old) (misses new))
    → (fault ≡ file.Failed → Rose (faults old) (faults new))
    → (fault ≡ file.TooLong → HasFile (files old) name (λ file. kind.limit < length file))
    → KeepsFiles files faults misses old new
    → Reads files faults misses old new (read_file kind name onward) rest
    (Err (refusal_of kind fault))
unread-Reads files faults misses old new name kind rest onward file.Absent absent miss fails long
    keeps =
    record {
      values = tt;
      refusal = inl (refl, miss refl);
      order = absent-order (files old) name kind onward (absent refl);
      kept = keeps;
    }
unread-Reads files faults misses old new name kind rest onward file.Failed absent miss fails long
    keeps =
    record {
      values = tt;
      refusal = inr (inl (refl, fails refl));
      order = failure-order (files old) (read_file kind name onward);
      kept = keeps;
    }
unread-Reads files faults misses old new name kind rest onward file.TooLong absent miss fails long
    keeps =
    let file = longer-file (files old) name kind (long refl) in
    let fault : FaultAt = record { line = 0; kind = TooLong } in
    let faulty : file_value kind file.bytes ≡ Err fault =
    longer-value kind file.bytes file.longer in
    record {
      values = tt;
      refusal = inr (inr (inr (
        kind.refusal fault,
        refl,
        bad-reaches (files old) name file.bytes kind onward fault file.finds faulty,
      )));
      order = bad-refuses (files old) name file.bytes kind onward fault file.finds faulty;
      kept = keeps;
    }
unread-Reads files faults misses old new name kind rest onward (file.Memory error) absent miss
    fails long keeps =
    record {
      values = tt;
      refusal = inr (inr (inl refl));
      order = memory-order (files old) (read_file kind name onward);
      kept = keeps;
    }

pub returns-in-Ok : goal.returns-in-Ok
returns-in-Ok g c = λ onward.
    parsed-Reads g.S.Shelf.files g.S.Shelf.faults g.S.Shelf.misses c.args.shelf.now
    c.read_whole.new.shelf c.args.self.now.name.now c.in-Ok.bytes.items g.K.Kind.kind
    g.K.Kind.meaning onward c.parse.result c.in-Ok.ensures.whole
    (omega (arith, c.in-Ok.bytes.ok.0, c.in-Ok.ensures.within, c.limit.ensures))
    c.read_whole.ensures.kept c.parse.ensures

pub returns-in-Err : goal.returns-in-Err
returns-in-Err g c = λ onward.
    rw c.refusal_of.ensures
    (unread-Reads g.S.Shelf.files g.S.Shelf.faults g.S.Shelf.misses c.args.shelf.now
    c.read_whole.new.shelf c.args.self.now.name.now g.K.Kind.kind
    (λ value. onward (g.K.Kind.meaning value)) onward c.in-Err.fault
    (λ is. c.in-Err.ensures.absent (ap Err is))
    (λ is. c.in-Err.ensures.missed (ap Err is))
    (λ is. c.in-Err.ensures.failed (ap Err is))
    (λ is. rw c.limit.ensures at (c.in-Err.ensures.too_long (ap Err is)))
    c.read_whole.ensures.kept)
