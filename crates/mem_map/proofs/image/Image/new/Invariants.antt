use Rattle.std.proofs.Common.{◌≡◌, ℕ, None, vec_len, slice_index_or}
use Rattle.mem_map.proofs.image.Image.new.Given as goal

-- every place so far is empty
abbrev pub invariant-loop-place : goal.invariant-loop-place
invariant-loop-place l =
    (vec_len l.bytes ≡ l._place) × ((place : ℕ) → slice_index_or l.bytes.items place None ≡ None)
