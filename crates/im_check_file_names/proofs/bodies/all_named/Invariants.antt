use Rattle.std.proofs.Common.{◌≡◌, drop}
use Rattle.im_check_declarators.specs.im_rules.Rules as u
use Rattle.im_check_declarators.specs.im_ctree_parts.Lists.{parameters_from}
use Rattle.im_check_file_names.proofs.bodies.all_named.Given as goal

abbrev pub invariant-loop-parameter : goal.invariant-loop-parameter
invariant-loop-parameter l = u.all_named (parameters_from l.parameters) ≡ u.all_named (parameters_from (drop l.parameter-index l.parameters))
