use Rattle.std.proofs.Common.{◌≡◌, length, arith}
use Rattle.im_check_scopes.specs.im_rules.Rules.{storage_in}
use Rattle.im_check_scopes.specs.im_rules.Declared.{type_of_specifiers}
use Rattle.im_ctree_parts.specs.Lists.{list_from}
use Rattle.im_check_type_specifiers.specs.Specified.{at_place}
use Rattle.im_check_type_specifiers.proofs.Made.{elsewhere}
use Rattle.im_check_type_specifiers.proofs.specified.specified_type.Goals as goal

pub returns : goal.returns
returns c =
    let xs = list_from c.args.specifiers.now in
    let none : length (storage_in xs) ≡ 0 = omega (arith, c.storage_count.ensures) in
    λ k. elsewhere (at_place k c.args.scope.now c.args.lists.now) xs (type_of_specifiers (at_place k c.args.scope.now c.args.lists.now) xs) c.args.at c.type_at_file.result none (c.type_at_file.ensures k)
