use Rattle.std.proofs.Common.{◌≡◌, ◌+◌, ◌%◌, ◌++◌, codes, sum, take}
use Rattle.arrayvec.specs.ArrayVec.{array_vec_len}
use Rattle.debug_link.proofs.packet_writer.write_packet.Given as goal

abbrev pub invariant-loop-byte : goal.invariant-loop-byte
invariant-loop-byte l = record {
  items : l.packet.items ≡ codes "$" ++ take l.byte-index l.body;
  room : array_vec_len l.packet ≡ 1 + l.byte-index;
  total : l.sum ≡ sum (take l.byte-index l.body) % 256;
}
