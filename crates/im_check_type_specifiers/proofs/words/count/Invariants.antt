use Rattle.std.proofs.Common.{◌≡◌, ◌+◌, ◌≤◌, drop}
use Rattle.im_check_scopes.specs.im_rules.Rules.{count_word, keywords_in}
use Rattle.im_ctree_parts.specs.Lists.{list_from}
use Rattle.im_check_type_specifiers.proofs.words.count.Given as goal

abbrev pub invariant-loop-specifier : goal.invariant-loop-specifier
invariant-loop-specifier l = (l.n ≤ l.specifier-index) × (count_word l.code (keywords_in (list_from l.specifiers)) ≡ l.n + count_word l.code (keywords_in (list_from (drop l.specifier-index l.specifiers))))
