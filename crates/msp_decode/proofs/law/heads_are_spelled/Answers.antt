use Rattle.msp_decode.proofs.HeadLemmas.{heads_are_spelled}
use Rattle.msp_decode.proofs.law.heads_are_spelled.Goals as goal

pub returns : goal.returns
returns c = heads_are_spelled
