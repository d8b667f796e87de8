-- Where the engine is in a call of the attestation ROM, and what it does next.
use Rattle.std.specs.Prelude.{◌++◌, ℕ, List, [], ◌∷◌, Option, Some, None, if◌then◌else◌}
use Rattle.device_types.specs.{declared.access.Access.Access, Address.even}
use Rattle.part_definitions.specs.{Attestation.{call_item, item_access, item_pc, bounds_read, decision_read, is_return, written_word, word_passed}, CpuRegister.plus, Hmac.Digest}
use Rattle.swatt_rom.specs.declared.call_end.CallEnd.{CallEnd}

pub data RomCall : Type 0 where
  NoCall : RomCall
  -- in a call: the stack pointer at its start, and the words that passed in it, oldest first
  InCall : ℕ → List ℕ → RomCall
  -- after its last step: what it leaves
  AfterCall : CallEnd → RomCall

-- the access after these words
abbrev pub call_access : Digest → ℕ → List ℕ → Access
call_access digest sp words =
    item_access sp (bounds_read words) (call_item words)
    (written_word digest words (call_item words))

abbrev pub rom_access : Digest → RomCall → Option Access
rom_access digest NoCall = None
rom_access digest (InCall sp words) = Some (call_access digest sp words)
rom_access digest (AfterCall end) = None

-- the `pc` of the next step, 0 where there is none
abbrev pub rom_pc : RomCall → ℕ
rom_pc NoCall = 0
rom_pc (InCall sp words) = item_pc (call_item words)
rom_pc (AfterCall end) = 0

abbrev pub call_end : RomCall → Option CallEnd
call_end NoCall = None
call_end (InCall sp words) = None
call_end (AfterCall end) = Some end

-- the word that passes in a step of a call whose access read this value, 0 for a write
abbrev pub next_word : Digest → ℕ → List ℕ → ℕ → ℕ
next_word digest sp words value = word_passed (Some (call_access digest sp words)) value

-- the return read gives PC, and SP is raised by 2
abbrev pub end_of_call : ℕ → ℕ → ℕ → CallEnd
end_of_call sp word decision = record { pc = even word; sp = plus sp 2; decision = decision }

abbrev pub after_step : Digest → ℕ → List ℕ → ℕ → RomCall
after_step digest sp words value =
    if is_return (call_item words) then AfterCall (end_of_call sp value (decision_read words))
    else InCall sp (words ++ next_word digest sp words value ∷ [])

abbrev pub after_value : Digest → RomCall → ℕ → RomCall
after_value digest NoCall value = NoCall
after_value digest (InCall sp words) value = after_step digest sp words value
after_value digest (AfterCall end) value = AfterCall end
