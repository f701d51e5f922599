use Rattle.std.proofs.Common.{◌≡◌, ◌+◌, ◌≤◌, length, drop}
use Rattle.im_check_scopes.specs.im_rules.Rules.{storage_in}
use Rattle.im_ctree_parts.specs.Lists.{list_from}
use Rattle.im_check_type_specifiers.proofs.words.storage_count.Given as goal

abbrev pub invariant-loop-specifier : goal.invariant-loop-specifier
invariant-loop-specifier l = (l.n ≤ l.specifier-index) × (length (storage_in (list_from l.specifiers)) ≡ l.n + length (storage_in (list_from (drop l.specifier-index l.specifiers))))
