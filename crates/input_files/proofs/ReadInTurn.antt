-- Files that are read after others.
use Rattle.std.{proofs.Common.{◌≡◌, ◌∙◌, ℕ, Some, None, IfSome, Result, Ok, Err, subst, inl, inr, arith}, specs.Prelude.IsErrAnd}
use Rattle.outside_edge.{specs.{Calls.Rose, Shelf.KeepsFiles}, proofs.Counts.rose_since}
use Rattle.input_files.specs.{declared.{refusal.Refusal.Refusal, status.Status.Status}, Row.RowOf, Reading.{Files, IsRefusal, Leaves, Reads, Refuses, first_refusal}, Status.status_of_refusal}

refusal-both : {Outcome : Type 0} (files : Files) (row middle rest : RowOf Outcome)
    → IfSome files (λ contents. first_refusal row contents ≡ first_refusal middle contents)
    → IfSome files (λ contents. first_refusal middle contents ≡ first_refusal rest contents)
    → IfSome files (λ contents. first_refusal row contents ≡ first_refusal rest contents)
refusal-both None row middle rest first second = tt
refusal-both (Some contents) row middle rest first second = first ∙ second

leaves-both : {Outcome : Type 0} (files : Files) (row middle rest : RowOf Outcome)
    → Leaves files row middle → Leaves files middle rest → Leaves files row rest
leaves-both files row middle rest first second =
    record {
      reaches = λ end reaches. first.reaches end (second.reaches end reaches);
      same_refusal = refusal-both files row middle rest first.same_refusal second.same_refusal;
    }

order-before : {Outcome : Type 0} (files : Files) (row rest : RowOf Outcome) (status : Status)
    → IfSome files (λ contents. first_refusal row contents ≡ first_refusal rest contents)
    → IfSome files (λ contents. Refuses (first_refusal rest contents) status)
    → IfSome files (λ contents. Refuses (first_refusal row contents) status)
order-before None row rest status same order = tt
order-before (Some contents) row rest status same order = rw same order

-- a refusal after files that were read
IsRefusal-before : {S Outcome : Type 0} (files : S → Files) (faults misses : S → ℕ)
    (old mid new : S) (row rest : RowOf Outcome) (status : Status)
    → KeepsFiles files faults misses old mid
    → Leaves (files old) row rest
    → IsRefusal (files mid) (Rose (misses mid) (misses new)) (Rose (faults mid) (faults new)) rest
    status
    → IsRefusal (files old) (Rose (misses old) (misses new)) (Rose (faults old) (faults new)) row
    status
IsRefusal-before files faults misses old mid new row rest status keeps leaves (inl miss) =
    inl (
      miss.0,
      rose_since (misses old) (misses mid) (misses new) keeps.misses_counted miss.1,
    )
IsRefusal-before files faults misses old mid new row rest status keeps leaves (inr (inl fails)) =
    inr (inl (
      fails.0,
      rose_since (faults old) (faults mid) (faults new) keeps.faults_counted fails.1,
    ))
IsRefusal-before files faults misses old mid new row rest status keeps leaves
    (inr (inr (inl memory))) =
    inr (inr (inl memory))
IsRefusal-before files faults misses old mid new row rest status keeps leaves
    (inr (inr (inr (fault, is, reaches)))) =
    inr (inr (inr (fault, is, leaves.reaches (Err fault) (rw keeps.same at reaches))))

kept-both : {S : Type 0} (files : S → Files) (faults misses : S → ℕ) (old mid new : S)
    → KeepsFiles files faults misses old mid → KeepsFiles files faults misses mid new
    → KeepsFiles files faults misses old new
kept-both files faults misses old mid new first second =
    record {
      same = second.same ∙ first.same;
      faults_counted = omega (arith, first.faults_counted, second.faults_counted);
      misses_counted = omega (arith, first.misses_counted, second.misses_counted);
    }

-- the first files were refused
pub first-refused : {S A B Outcome : Type 0} {files : S → Files} {faults misses : S → ℕ}
    {old new : S} {row : RowOf Outcome} {rest : A → RowOf Outcome} (both : B → RowOf Outcome)
    {refusal : Refusal} (result : Result B Refusal)
    → Reads {V = A} files faults misses old new row rest (Err refusal)
    → IsErrAnd result (λ error. error ≡ refusal)
    → Reads files faults misses old new row both result
first-refused both (Ok values) reads is = absurd is
first-refused both (Err error) reads is =
    rw is (record {
      values = tt;
      refusal = reads.refusal;
      order = reads.order;
      kept = reads.kept;
    })

-- the others were, after the first were read
pub more-refused : {S A B C Outcome : Type 0} {files : S → Files} {faults misses : S → ℕ}
    {old mid new : S} {row : RowOf Outcome} {middle : A → RowOf Outcome}
    {rest : B → RowOf Outcome} (both : C → RowOf Outcome) {first : A} {refusal : Refusal}
    (result : Result C Refusal)
    → Reads files faults misses old mid row middle (Ok first)
    → Reads {V = B} files faults misses mid new (middle first) rest (Err refusal)
    → IsErrAnd result (λ error. error ≡ refusal)
    → Reads files faults misses old new row both result
more-refused both (Ok values) reads next is = absurd is
more-refused {files = files} {faults = faults} {misses = misses} {old = old} {mid = mid} {new = new}
    {row = row} {middle = middle} both {first = first} {refusal = refusal} (Err error) reads next is
    =
    rw is (record {
      values = tt;
      refusal = IsRefusal-before files faults misses old mid new row (middle first)
          (status_of_refusal refusal) reads.kept reads.values next.refusal;
      order = order-before (files old) row (middle first) (status_of_refusal refusal)
          reads.values.same_refusal
          (subst (λ told. IfSome told (λ contents.
          Refuses (first_refusal (middle first) contents) (status_of_refusal refusal)))
          reads.kept.same next.order);
      kept = kept-both files faults misses old mid new reads.kept next.kept;
    })

-- all of them were read
pub both-read : {S A B C Outcome : Type 0} {files : S → Files} {faults misses : S → ℕ}
    {old mid new : S} {row : RowOf Outcome} {middle : A → RowOf Outcome}
    {rest : B → RowOf Outcome} (both : C → RowOf Outcome) {first : A} {second : B} (all : C)
    → Reads files faults misses old mid row middle (Ok first)
    → Reads files faults misses mid new (middle first) rest (Ok second)
    → rest second ≡ both all
    → Reads files faults misses old new row both (Ok all)
both-read {files = files} {faults = faults} {misses = misses} {old = old} {mid = mid} {new = new}
    {row = row} {middle = middle} {rest = rest} both {first = first} {second = second} all reads
    next same =
    record {
      values = leaves-both (files old) row (middle first) (both all) reads.values
          (subst (Leaves (files old) (middle first)) same
          (subst (λ told. Leaves told (middle first) (rest second)) reads.kept.same next.values));
      refusal = tt;
      order = tt;
      kept = kept-both files faults misses old mid new reads.kept next.kept;
    }
