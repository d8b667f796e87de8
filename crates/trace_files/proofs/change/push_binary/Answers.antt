use Rattle.std.{proofs.Common.{◌∙◌, ap, length, length-append, false, arith}, specs.Fmt.digits}
use Rattle.trace_files.proofs.Binary.{few_digits}
use Rattle.trace_files.proofs.change.push_binary.Goals as goal

pub push_bits-requires : goal.push_bits-requires
push_bits-requires c =
    omega (arith, c.requires, few_digits c.args.number (omega (arith, c.ranges.number.fits)))

pub returns-clause-len : goal.returns-clause-len
returns-clause-len c =
    omega (
      arith,
      few_digits c.args.number (omega (arith, c.ranges.number.fits)),
      ap length c.push_bits.ensures
          ∙ length-append c.args.text.now (digits 2 false c.args.number),
    )
