-- What the sink behind a buffer took.
use Rattle.std.proofs.Common.{◌-◌, ◌≡◌, ℕ, List, [], ◌∷◌, ◌++◌, length, take, drop, get_or, Result, Ok, Err, OnOk, refl, sym, ap, subst, ◌∙◌, append_assoc, arith, length-append}
use Rattle.std.proofs.lemmas.List.{append-nil, append_cancel_left, take_at, take-append-drop}
use Rattle.outside_edge.specs.{Sink.{Takes, TakesPrefix, Puts}, Buffer.{Buffer, BufferStandsFor}}
use Rattle.outside_edge.proofs.SinkLemmas.{prefix_of_prefix}

-- The buffer's sink took the first of the bytes that waited.
pub stands_after_part : {W : Type 0} (stands : W → List ℕ → Type 0) (old new : Buffer W) (n : ℕ)
    → Takes stands old.sink new.sink (take n old.waiting)
    → new.waiting ≡ drop n old.waiting
    → (list : List ℕ) → BufferStandsFor stands old list → BufferStandsFor stands new list
stands_after_part stands old new n more rest list before = record {
  earlier = before.earlier;
  taken = before.taken ++ take n old.waiting;
  told = rw (rest, append_assoc, take-append-drop n old.waiting) before.told;
  stood = rw (← append_assoc) (more (before.earlier ++ before.taken) before.stood);
}

-- Two lists that are one, cut after as many items.
pub same_parts : {A : Type 0} (a b xs ys : List A) → length a ≡ length b → a ++ xs ≡ b ++ ys
    → (a ≡ b) × (xs ≡ ys)
same_parts a b xs ys long same =
    let first : a ≡ b = sym (take_at a xs (length a) refl)
    ∙ (ap (take (length a)) same ∙ take_at b ys (length a) (sym long)) in
    (first, append_cancel_left b xs ys (rw first at same))

-- A list that says how long its beginning is.
pub same_told : (a b xs ys : List ℕ) → length a ∷ (a ++ xs) ≡ length b ∷ (b ++ ys)
    → (a ≡ b) × (xs ≡ ys)
same_told a b xs ys same = same_parts a b xs ys
    (ap (λ (list : List ℕ). get_or list 0 0) same) (ap (λ (list : List ℕ). drop 1 list) same)

-- What was put into a buffer in which nothing waited is what its sink took, and what waits.
pub record Reached {W : Type 0} (stands : W → List ℕ → Type 0) (new : Buffer W)
    (earlier text : List ℕ) : Type 0 where
  pub taken : List ℕ
  pub whole : text ≡ taken ++ new.waiting
  pub stood : stands new.sink (earlier ++ taken)

pub reached : {W : Type 0} (stands : W → List ℕ → Type 0) (begun new : Buffer W) (text : List ℕ)
    → begun.waiting ≡ [] → Takes (BufferStandsFor stands) begun new text
    → (earlier : List ℕ) → stands begun.sink earlier → Reached stands new earlier text
reached stands begun new text none put earlier holds =
    let now : BufferStandsFor stands new (length earlier ∷ (earlier ++ text)) =
    put (length earlier ∷ earlier) (record {
      earlier = earlier;
      taken = [];
      told = rw (none, append-nil) refl;
      stood = rw append-nil holds;
    }) in
    let same : (earlier ≡ now.earlier) × (text ≡ now.taken ++ new.waiting) =
    same_told earlier now.earlier text (now.taken ++ new.waiting) now.told in
    record {
      taken = now.taken;
      whole = same.1;
      stood = subst (λ (list : List ℕ). stands new.sink (list ++ now.taken)) (sym same.0)
          now.stood;
    }

all_of : (stands : List ℕ → Type 0) (earlier taken waiting text : List ℕ)
    → text ≡ taken ++ waiting → waiting ≡ [] → stands (earlier ++ taken)
    → stands (earlier ++ text)
all_of stands earlier taken waiting text whole none stood = rw (whole, none, append-nil) stood

first_of : (stands : List ℕ → Type 0) (earlier taken waiting text : List ℕ)
    → text ≡ taken ++ waiting → stands (earlier ++ taken)
    → stands (earlier ++ take (length text - length waiting) text)
first_of stands earlier taken waiting text whole stood =
    rw (
      whole,
      take_at taken waiting (length (taken ++ waiting) - length waiting)
          (omega (arith, length-append taken waiting)),
    ) stood

-- Nothing waits any more: the sink took all that was put.
pub sink_took_all : {W : Type 0} (stands : W → List ℕ → Type 0) (begun new : Buffer W)
    (text : List ℕ)
    → begun.waiting ≡ [] → Takes (BufferStandsFor stands) begun new text → new.waiting ≡ []
    → Takes stands begun.sink new.sink text
sink_took_all stands begun new text none put sent earlier holds =
    let now : Reached stands new earlier text =
    reached stands begun new text none put earlier holds in
    all_of (stands new.sink) earlier now.taken new.waiting text now.whole sent now.stood

-- The sink took a prefix of what was put.
pub sink_took_prefix : {W : Type 0} (stands : W → List ℕ → Type 0) (begun new : Buffer W)
    (text : List ℕ)
    → begun.waiting ≡ [] → Takes (BufferStandsFor stands) begun new text
    → TakesPrefix stands begun.sink new.sink text
sink_took_prefix stands begun new text none put = (
  length text - length new.waiting,
  omega arith,
  λ earlier holds.
      let now : Reached stands new earlier text =
      reached stands begun new text none put earlier holds in
      first_of (stands new.sink) earlier now.taken new.waiting text now.whole now.stood,
)

-- The same of a flush that follows.
pub flush_puts : {W V E : Type 0} (stands : W → List ℕ → Type 0) (begun mid new : Buffer W)
    (text : List ℕ) (result : Result V E)
    → begun.waiting ≡ [] → Takes (BufferStandsFor stands) begun mid text
    → ((list : List ℕ) → BufferStandsFor stands mid list → BufferStandsFor stands new list)
    → OnOk result (new.waiting ≡ [])
    → Puts stands begun.sink new.sink text result
flush_puts stands begun mid new text (Ok value) none put keeps sent = record {
  all = sink_took_all stands begun new text none
      (λ list holds. keeps (list ++ text) (put list holds)) sent;
  prefix = tt;
}
flush_puts stands begun mid new text (Err error) none put keeps sent = record {
  all = tt;
  prefix = sink_took_prefix stands begun new text none
      (λ list holds. keeps (list ++ text) (put list holds));
}

pub flush_takes_prefix :
    {W : Type 0} (stands : W → List ℕ → Type 0) (begun mid new : Buffer W) (text : List ℕ)
    → begun.waiting ≡ [] → TakesPrefix (BufferStandsFor stands) begun mid text
    → ((list : List ℕ) → BufferStandsFor stands mid list → BufferStandsFor stands new list)
    → TakesPrefix stands begun.sink new.sink text
flush_takes_prefix stands begun mid new text none prefix keeps =
    let part : List ℕ = take prefix.0 text in
    prefix_of_prefix stands begun.sink new.sink text prefix.0
    (sink_took_prefix stands begun new part none
    (λ list holds. keeps (list ++ part) (prefix.2 list holds)))
