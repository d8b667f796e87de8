use Rattle.std.proofs.Common.{◌≡◌, ◌+◌, ◌-◌, ◌++◌, ◌≤◌, length}
use Rattle.mem_map.specs.Image.{byte_in, image_byte}
use Rattle.part_definitions.specs.Memory.{bytes_from}
use Rattle.report_verifier.proofs.image_code.push_code.Given as goal

-- the bytes up to this place were put, where all of them fit
abbrev pub invariant-loop-place : goal.invariant-loop-place
invariant-loop-place g l =
    (l.initial.place ≤ l.place)
    × (l.place ≤ l.end)
    × (length l.initial.list + (l.end - l.initial.place) ≤ g.row.MOST
    → l.list ≡ l.initial.list
    ++ bytes_from (image_byte (byte_in l.image)) l.initial.place (l.place - l.initial.place))
