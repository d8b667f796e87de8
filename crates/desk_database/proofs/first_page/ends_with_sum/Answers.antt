use Rattle.std.proofs.{Common.{◌≡◌, ◌≤◌, length, take, drop, sym, ap₂, ◌∙◌, arith, rules, bytes_eq, length-take-le}, lemmas.{List.{places, take_rest}, Slice.Eq.bytes_eq-Decides}}
use Rattle.sqlite_pool.specs.Stored.{sum_bytes}
use Rattle.desk_database.proofs.first_page.ends_with_sum.Goals as goal

pub returns : goal.returns
returns c =
    let page = c.args.page.now in
    let size = c.args.size in
    let few : size ≤ length page = omega (arith, c.requires) in
    let len : length (take size page) ≡ size = length-take-le size page few in
    let tail = drop size page in
    let sum = sum_bytes (take size page) in
    let eight : length c.sum_of.result ≡ 8 = search rules in
    let test : c.eq.result ≡ bytes_eq tail sum =
    c.eq.ensures ∙ ap₂ bytes_eq (take_rest page size) (search (rules, places)) in
    let decides = bytes_eq-Decides tail sum in
    (λ yes. decides.0 (sym test ∙ yes), λ is. test ∙ decides.1 is)
