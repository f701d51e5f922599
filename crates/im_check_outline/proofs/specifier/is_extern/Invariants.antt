use Rattle.std.proofs.Common.{◌≡◌, drop}
use Rattle.im_check_name_map.specs.im_rules.Rules as u
use Rattle.im_check_name_map.specs.im_rules.Outline as o
use Rattle.im_ctree_parts.specs.Lists.{list_from}
use Rattle.im_check_outline.proofs.specifier.is_extern.Given as goal

abbrev pub invariant-loop-specifier : goal.invariant-loop-specifier
invariant-loop-specifier l = o.is_extern (list_from l.specifiers) ≡ o.is_extern (list_from (drop l.specifier-index l.specifiers))
