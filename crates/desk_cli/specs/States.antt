-- The command `states`: the entries of a memory as text.
use Rattle.std.specs.Prelude.{◌≡◌, ◌≤◌, ◌⊎◌, ◌↔◌, ℕ, List, [], ◌∷◌, Option, Some, None, IfSome}
use Rattle.outside_edge.specs.{Calls.Rose, Sink.{Takes, TakesPrefix}, declared.sink.Sink.Ghosts as SinkGhosts}
use Rattle.desk_memory.specs.{declared.memory.Memory.Ghosts as MemoryGhosts, Entry.Entry}
use Rattle.input_files.specs.{declared.status.Status.{Status, TheVariants.{Done, Words, WriteFault}}}
use Rattle.desk_cli.specs.{MemoryFiles.{ToldMemories, UsesIf}, StateText.states_text}

-- `states MEMORY`
abbrev pub states_name_of : List (List ℕ) → Option (List ℕ)
states_name_of (memory ∷ []) = Some memory
states_name_of arguments = None

-- how a text was put
abbrev pub PutsText : {W : Type 0} → SinkGhosts W → W → W → List ℕ → Status → Type 0
PutsText w old new text status =
    ((status ≡ Done) × Takes w.stands old new text)
    ⊎ ((status ≡ WriteFault) × TakesPrefix w.stands old new text
    × Rose (w.faults old) (w.faults new))

-- the entries of a memory were put, which stays as it was opened
abbrev pub TellsStates : {M W : Type 0} → SinkGhosts W → W → W → Status → List ℕ → List Entry
    → M → M → Type 0
TellsStates w old new status desk entries opened left =
    (left ≡ opened) × PutsText w old new (states_text entries) status

-- an answer to arguments that may name a memory
pub record IsStatesAnswer {F M W : Type 0} (told : ToldMemories F M) (m : MemoryGhosts M)
    (desk_of : M → List ℕ) (w : SinkGhosts W) (memories memories_after : F) (old new : W)
    (name : Option (List ℕ)) (status : Status) : Type 0 where
  pub words : (status ≡ Words) ↔ (name ≡ None)
  pub unread : status ≡ Words → (memories_after ≡ memories) × (new ≡ old)
  pub answers : IfSome name (λ name.
      UsesIf told m desk_of memories memories_after name status (new ≡ old)
      (TellsStates w old new status))
  pub sink_counted : w.faults old ≤ w.faults new
