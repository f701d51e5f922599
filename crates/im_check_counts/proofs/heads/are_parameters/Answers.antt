use Rattle.std.proofs.Common.{ap}
use Rattle.im_check_outline.specs.Walked.{nearest_of}
use Rattle.im_rules_limits.specs.Limits.{head_by}
use Rattle.im_check_counts.proofs.heads.are_parameters.Goals as goal

pub returns-in-Parameters : goal.returns-in-Parameters
returns-in-Parameters c = λ d. ap (λ n. head_by (nearest_of n) d) c.in-Parameters.is
