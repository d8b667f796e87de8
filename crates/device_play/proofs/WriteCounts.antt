-- A call that puts text and may run out of memory: what it put, and what it counted.
use Rattle.std.{proofs.{Common.{◌≡◌, ◌≤◌, ◌⊎◌, [], ℕ, List, Result, Ok, Err, inl, refl, arith, append-nil, ◌∙◌, ◌++◌, ◌∷◌, Bool, true, ap, sym}, Math.ListN.get_or-map, lemmas.List.{length-map, Elements.Contains-push}}, specs.Prelude.{IsErrAnd, Contains, if◌then◌else◌}}
use Rattle.outside_edge.{specs.{Calls.Rose, Sink.{TakesPrefix, Puts, Takes}}, proofs.SinkLemmas.takes_both}
use Rattle.device_play.specs.{declared.put_fault.PutFault.{PutFault, TheVariants.{Write, Memory}}, Cuts.{CountsWriteFaults, behind, TakesSuch, StopsOnlyAt}}

-- A text of which nothing was put.

pub takes-nothing : {S : Type 0} (stands : S → List ℕ → Type 0) (same : S)
    → Takes stands same same []
takes-nothing stands same = λ before holds. rw append-nil holds

-- nothing was put of a text
pub nothing-begun : {S : Type 0} (stands : S → List ℕ → Type 0) (same : S) (text : List ℕ)
    → TakesPrefix stands same same text
nothing-begun stands same text = (0, omega arith, takes-nothing stands same)

pub nothing-put : {S V E : Type 0} (stands : S → List ℕ → Type 0) (same : S) (value : V)
    → Puts {E = E} stands same same [] (Ok value)
nothing-put stands same value = record { all = takes-nothing stands same; prefix = tt }

pub counts-nothing : {S V : Type 0} (faults : S → ℕ) (same : S) (value : V)
    → CountsWriteFaults faults same same (Ok value)
counts-nothing faults same value = record { failed = tt; quiet = refl; counted = omega arith }

pub counts-write :
    {S V : Type 0} (faults : S → ℕ) (old mid new : S) (result : Result V PutFault)
    → IsErrAnd result (λ error. error ≡ Write)
    → faults mid ≡ faults old
    → Rose (faults mid) (faults new)
    → faults mid ≤ faults new
    → CountsWriteFaults faults old new result
counts-write faults old mid new (Ok value) is same rose keeps = absurd is
counts-write faults old mid new (Err error) is same rose keeps = record {
  failed = inl (is, rw same at rose);
  quiet = tt;
  counted = rw same at keeps;
}

earlier-failed :
    (fault error : PutFault) (before between after : ℕ)
    → error ≡ fault
    → between ≡ before
    → ((fault ≡ Write) × Rose between after) ⊎ (fault ≡ Memory)
    → ((error ≡ Write) × Rose before after) ⊎ (error ≡ Memory)
earlier-failed fault error before between after is same fails = rw (is, ← same) fails

-- the counts of a call that handed on the answer of another
pub counts-passed :
    {S V U : Type 0} (faults : S → ℕ) (old mid new : S) (fault : PutFault)
    (result : Result V PutFault)
    → IsErrAnd result (λ error. error ≡ fault)
    → faults mid ≡ faults old
    → CountsWriteFaults {V = U} faults mid new (Err fault)
    → CountsWriteFaults faults old new result
counts-passed faults old mid new fault (Ok value) is same counts = absurd is
counts-passed faults old mid new fault (Err error) is same counts = record {
  failed = earlier-failed fault error (faults old) (faults mid) (faults new) is same
      counts.failed;
  quiet = tt;
  counted = rw same at counts.counted;
}

-- Where the putting of a text stopped, and what was put until then.

-- each of them is one behind that text
pub contains-behind :
    (before : List ℕ) (cuts : List (List ℕ)) (cut : List ℕ)
    → Contains cuts cut → Contains (behind before cuts) (before ++ cut)
contains-behind before cuts cut has =
    let place : List ℕ → List ℕ = λ bytes. before ++ bytes in (
      has.0,
      omega (arith, length-map cuts place, has.1),
      get_or-map place cuts has.0 cut ∙ ap place has.2,
    )

-- memory ran out in a call whose answer is handed on, behind what was put before
pub stops-later :
    {S V : Type 0} (stands : S → List ℕ → Type 0) (old mid new : S) (before : List ℕ)
    (cuts : List (List ℕ)) (fault : PutFault) (result : Result V PutFault)
    → IsErrAnd result (λ error. error ≡ fault)
    → Takes stands old mid before
    → (fault ≡ Memory → TakesSuch stands mid new (Contains cuts))
    → StopsOnlyAt stands old new (behind before cuts) result
stops-later stands old mid new before cuts fault (Ok value) is takes stops = tt
stops-later stands old mid new before cuts fault (Err error) is takes stops = λ memory.
    let here = stops (sym is ∙ memory) in (
      before ++ here.0,
      contains-behind before cuts here.0 here.1,
      takes_both stands old mid new before here.0 takes here.2,
    )

-- memory ran out before the first byte
pub stops-at_first :
    {S V : Type 0} (stands : S → List ℕ → Type 0) (same : S) (has_pair : Bool)
    (result : Result V PutFault)
    → has_pair ≡ true
    → StopsOnlyAt stands same same (if has_pair then [] ∷ [] else []) result
stops-at_first stands same has_pair (Ok value) pair = tt
stops-at_first stands same has_pair (Err error) pair = λ memory.
    rw pair ([], Contains-push [] [], takes-nothing stands same)
