use Rattle.std.proofs.Common.{◌≡◌, ◌+◌, ◌≤◌, length, drop}
use Rattle.im_rules.specs.Rules.{named_in, keywords_in}
use Rattle.im_ctree_parts.specs.Lists.{list_from}
use Rattle.im_check_file_specifiers.proofs.words.type_count.Given as goal

abbrev pub invariant-loop-specifier : goal.invariant-loop-specifier
invariant-loop-specifier l =
    (l.n ≤ l.specifier-index)
    × (length (named_in (list_from l.specifiers)) + length (keywords_in (list_from l.specifiers))
    ≡ l.n + (length (named_in (list_from (drop l.specifier-index l.specifiers))) + length (keywords_in (list_from (drop l.specifier-index l.specifiers)))))
