use Rattle.std.proofs.Common.{refl}
use Rattle.input_files.proofs.ReadInTurn.{first-refused, more-refused, both-read}
use Rattle.input_files.proofs.inputs.Tuple2Inputs.read.Goals as goal

pub returns-in_err-first : goal.returns-in_err-first
returns-in_err-first g c = λ onward.
    first-refused _ _
    (c.in_err-first.ensures (λ first.
    g.Second.Inputs.row_with g.E.RowEnd.Outcome c.args.self.now.1 (λ second.
    onward (first, second))))
    c.from_residual.ensures.1

pub returns-in_err-second : goal.returns-in_err-second
returns-in_err-second g c = λ onward.
    more-refused _ _
    (c.in_ok-first.ensures (λ first.
    g.Second.Inputs.row_with g.E.RowEnd.Outcome c.args.self.now.1 (λ second.
    onward (first, second))))
    (c.in_err-second.ensures (λ second.
    onward (g.First.Inputs.meaning c.in_ok-first.first, second)))
    c.from_residual-in_err-second.ensures.1

pub returns : goal.returns
returns g c = λ onward.
    both-read _ (c.in_ok-first.first, c.in_ok-second.second)
    (c.in_ok-first.ensures (λ first.
    g.Second.Inputs.row_with g.E.RowEnd.Outcome c.args.self.now.1 (λ second.
    onward (first, second))))
    (c.in_ok-second.ensures (λ second.
    onward (g.First.Inputs.meaning c.in_ok-first.first, second)))
    refl
