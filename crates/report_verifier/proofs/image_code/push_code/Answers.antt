use Rattle.std.proofs.{Common.{arith, rules, ◌≡◌, ◌-◌, ◌++◌}, Math.Path.subst}
use Rattle.mem_map.specs.Image.{byte_in, image_byte}
use Rattle.part_definitions.specs.Memory.{bytes_from}
use Rattle.report_verifier.proofs.{CodeBytes.append-none, Pushes.byte-pushed}
use Rattle.report_verifier.proofs.image_code.push_code.Goals as goal

pub loop-place-init : goal.loop-place-init
loop-place-init g c = (
  search rules,
  search rules,
  λ fits. append-none (image_byte (byte_in c.args.image.now)) c.args.list.now c.args.first,
)

pub loop-place-preserved : goal.loop-place-preserved
loop-place-preserved g c = (
  omega (arith, c.loop-place.invariant.0),
  search rules,
  λ fits. byte-pushed g.row.MOST (image_byte (byte_in c.args.image.now)) c.args.list.now
      c.loop-place.list c.push.new.self c.args.first c.loop-place.place c.args.end
      c.unwrap_or.result c.loop-place.invariant.0 (search rules)
      fits (search rules) (c.loop-place.invariant.2 fits) c.push.ensures,
)

pub returns : goal.returns
returns g c = λ fits.
    subst (λ place. c.loop-place.list ≡ c.args.list.now
    ++ bytes_from (image_byte (byte_in c.args.image.now)) c.args.first (place - c.args.first))
    (search rules) (c.loop-place.invariant.2 fits)
