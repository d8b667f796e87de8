-- What the flags say of signed numbers.
use Rattle.std.proofs.{Common.{true, false, arith}, lemmas.{Int.ints, Bool.Decides.nat_tests}}
use Rattle.word_arith.specs.{declared.size.Size.TheVariants.{Byte, Word}, SignedNumber.{OverflowIsSigned, ComparisonOrders}}

pub overflow_is_signed : OverflowIsSigned
overflow_is_signed Byte left right true left_fits right_fits = grind (arith, ints, nat_tests)
overflow_is_signed Byte left right false left_fits right_fits = grind (arith, ints, nat_tests)
overflow_is_signed Word left right true left_fits right_fits = grind (arith, ints, nat_tests)
overflow_is_signed Word left right false left_fits right_fits = grind (arith, ints, nat_tests)

pub comparison_orders : ComparisonOrders
comparison_orders Byte src dst before src_fits dst_fits = (
  (grind (arith, nat_tests), grind (arith, nat_tests)),
  (grind (arith, nat_tests), grind (arith, nat_tests)),
  (grind (arith, ints, nat_tests), grind (arith, ints, nat_tests)),
)
comparison_orders Word src dst before src_fits dst_fits = (
  (grind (arith, nat_tests), grind (arith, nat_tests)),
  (grind (arith, nat_tests), grind (arith, nat_tests)),
  (grind (arith, ints, nat_tests), grind (arith, ints, nat_tests)),
)
