use Rattle.std.{proofs.Common.{◌≡◌, ◌+◌, ℕ, IsTrue, drop}, specs.Option.option_or}
use Rattle.part_definitions.specs.Memory.{is_image_place}
use Rattle.mem_map.specs.Image.{byte_in, byte_among}
use Rattle.msp_asm.proofs.image_writer.place_bytes.Given as goal

abbrev pub invariant-loop-byte : goal.invariant-loop-byte
invariant-loop-byte l = record {
  at : l.place ≡ l.first + l.byte-index;
  bytes : (place : ℕ) → IsTrue (is_image_place place)
      → option_or (byte_among l.place (drop l.byte-index l.bytes) place) (byte_in l.image place)
      ≡ option_or (byte_among l.first l.bytes place) (byte_in l.fn.image place);
}
