use Rattle.std.proofs.Common.{◌≡◌, length, arith}
use Rattle.im_check_scopes.specs.im_rules.Rules.{named_in, keywords_in}
use Rattle.im_ctree_parts.specs.Lists.{list_from, specifier_in}
use Rattle.im_check_type_specifiers.specs.Specified.{at_place}
use Rattle.im_check_type_specifiers.proofs.Made.{first_is_named, name_alone}
use Rattle.im_check_type_specifiers.proofs.specified.base_type.Goals as goal

pub named_type-requires : goal.named_type-requires
named_type-requires c =
    let f = c.in-Some.ensures in
    first_is_named (list_from c.args.specifiers.now) (specifier_in c.in-Some.named.now) f.0 f.1

pub returns-else-keyword_count-ne0 : goal.returns-else-keyword_count-ne0
returns-else-keyword_count-ne0 c =
    let xs = list_from c.args.specifiers.now in
    let f = c.in-Some.ensures in
    let one : length (named_in xs) ≡ 1 = omega (arith, c.named_count.ensures) in
    let none : length (keywords_in xs) ≡ 0 = omega (arith, c.keyword_count.ensures) in
    λ k. name_alone (at_place k c.args.scope.now c.args.lists.now) xs (specifier_in c.in-Some.named.now) f.0 c.args.at c.named_type.result f.1 one none c.requires (c.named_type.ensures k)
