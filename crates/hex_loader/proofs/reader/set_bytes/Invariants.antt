use Rattle.std.{proofs.Common.{◌≡◌, ◌+◌, ℕ, drop}, specs.Option.option_or}
use Rattle.mem_map.specs.Image.{byte_in, byte_among}
use Rattle.hex_loader.specs.HexImage.{are_image_places}
use Rattle.hex_loader.proofs.reader.set_bytes.Given as goal

abbrev pub invariant-loop-byte : goal.invariant-loop-byte
invariant-loop-byte l = record {
  place : l.place ≡ l.first + l.byte-index;
  taken : are_image_places l.first l.bytes ≡ are_image_places l.place (drop l.byte-index l.bytes);
  bytes : (place : ℕ) → option_or (byte_among l.place (drop l.byte-index l.bytes) place)
      (byte_in l.image place)
      ≡ option_or (byte_among l.first l.bytes place) (byte_in l.fn.image place);
}
