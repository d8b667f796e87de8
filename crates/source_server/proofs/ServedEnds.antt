-- What the end of a serving tells of its source and of where its responder stopped.
use Rattle.std.{proofs.Common.{◌≡◌, ◌≤◌, ◌<◌, ◌⊎◌, ◌+◌, ◌++◌, ℕ, List, [], Option, Some, None, drop, length, take, refl, arith, length-append, inl, inr}, specs.Prelude.option_map}
use Rattle.outside_edge.specs.{Calls.Rose, declared.source.Source.Ghosts as SourceGhosts}
use Rattle.source_server.specs.{declared.{halt.Halt.Halt, served.Served.{Served, TheVariants.{Done, Spent, ReadFault, WriteFault, Own}}}, Responder.Promise, Serving.{EndsSo, Serves, StopsSo, served_of}, Taken.{KeepsLimit, joined_pieces, most_input}}
use Rattle.source_server.specs.declared.halt.Halt.TheVariants as halt

-- no more were taken than were left
few_taken : (bytes : List ℕ) (rest : Option (List ℕ)) (taken : List ℕ)
    → Some bytes ≡ option_map (λ (rest : List ℕ). taken ++ rest) rest
    → length taken ≤ length bytes
few_taken bytes None taken is = absurd (cc is)
few_taken bytes (Some rest) taken is =
    let same : bytes ≡ taken ++ rest = cc is in
    rw (same, length-append) (omega arith)

module _ {R X O : Type 0} (r : SourceGhosts R) (promise : Promise X O) (old new : R)
    (now : X) where
  -- where it stopped
  abbrev pub StopsSomewhere : Halt O → Type 0
  StopsSomewhere why = (before : List ℕ) × (last : List ℕ) × promise.stopped now before last why

  stops_somewhere : (pieces : List (List ℕ)) (why : Halt O)
      → StopsSo r promise old new now pieces why → StopsSomewhere why
  stops_somewhere pieces why (inl so) = (
    joined_pieces (drop 1 pieces),
    joined_pieces (take 1 pieces),
    so.1,
  )
  stops_somewhere pieces why (inr so) = (joined_pieces pieces, [], so.1)

  pub unwritten : Serves r promise old new now WriteFault → StopsSomewhere halt.Write
  unwritten so = stops_somewhere so.pieces halt.Write so.ends

  spent_pieces : (pieces : List (List ℕ)) (served : Served O)
      → EndsSo r promise old new now pieces served → served ≡ Spent
      → length (joined_pieces pieces) ≡ most_input
  spent_pieces pieces Spent so is = so.1
  spent_pieces pieces Done so is = absurd (cc is)
  spent_pieces pieces ReadFault so is = absurd (cc is)
  spent_pieces pieces WriteFault so is = absurd (cc is)
  spent_pieces pieces (Own own) so is = absurd (cc is)

  -- no more was given than the limit, and that much where this is the end
  pub keeps_limit : {IsSpent : Type 0} (served : Served O) → Serves r promise old new now served
      → (IsSpent → served ≡ Spent) → KeepsLimit r old new IsSpent
  keeps_limit served so spends =
      record {
        few = omega (arith, so.given.gave.count, so.given.few);
        spent = λ is.
            let spent = spent_pieces so.pieces served so.ends (spends is) in
            omega (arith, so.given.gave.count, spent);
      }

  -- of what is told and within the limit all is answered, unless its responder stops
  whole_pieces : (pieces : List (List ℕ)) (served : Served O)
      → EndsSo r promise old new now pieces served
      → length (joined_pieces pieces) < most_input
      → ¬ Rose (r.faults old) (r.faults new)
      → (served ≡ Done)
      ⊎ ((why : Halt O) × (served ≡ served_of why) × StopsSomewhere why)
  whole_pieces pieces Done so few sound = inl refl
  whole_pieces pieces Spent so few sound = absurd (omega (arith, few, so.1))
  whole_pieces pieces ReadFault so few sound = absurd (sound so.0.1)
  whole_pieces pieces WriteFault so few sound =
      inr (halt.Write, refl, stops_somewhere pieces halt.Write so)
  whole_pieces pieces (Own own) so few sound =
      inr (halt.Own own, refl, stops_somewhere pieces (halt.Own own) so)

  pub whole_or_stopped : (bytes : List ℕ) (served : Served O)
      → Serves r promise old new now served
      → r.left old ≡ Some bytes → length bytes < most_input
      → ¬ Rose (r.faults old) (r.faults new)
      → (served ≡ Done)
      ⊎ ((why : Halt O) × (served ≡ served_of why) × StopsSomewhere why)
  whole_or_stopped bytes served so is few sound =
      let within = few_taken bytes (r.left new) (joined_pieces so.pieces)
      (rw is at so.given.gave.told) in
      whole_pieces so.pieces served so.ends (omega (arith, few, within)) sound
