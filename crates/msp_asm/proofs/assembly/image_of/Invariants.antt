use Rattle.std.proofs.Common.{◌≡◌, ℕ, None, IsTrue, reverse, take}
use Rattle.part_definitions.specs.Memory.{is_image_place}
use Rattle.mem_map.specs.Image.{byte_in}
use Rattle.msp_asm.specs.{FirstPass.first_fault, SecondPass.{byte_placed, second_pass_fault}}
use Rattle.msp_asm.proofs.assembly.image_of.Given as goal

abbrev pub invariant-loop-i : goal.invariant-loop-i
invariant-loop-i l = record {
  sound : first_fault (second_pass_fault (reverse l.statements))
      (reverse (take l.i l.statements)) ≡ None;
  bytes : (place : ℕ) → IsTrue (is_image_place place)
      → byte_in l.image place
      ≡ byte_placed (reverse l.statements) (reverse (take l.i l.statements)) place;
}
