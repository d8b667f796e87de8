use Rattle.report_verifier.proofs.PolicyBounds.{policy_of-valid}
use Rattle.report_verifier.proofs.law.policies_have_valid_bounds.Goals as goal

pub returns : goal.returns
returns c = policy_of-valid
