use Rattle.source_server.proofs.law.bytes_are_cut_anywhere.Goals as goal
use Rattle.source_server.proofs.LineLemmas.{cut_anywhere}

pub returns : goal.returns
returns c = cut_anywhere
