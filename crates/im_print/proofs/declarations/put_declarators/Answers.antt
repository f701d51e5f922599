use Rattle.std.proofs.Common.{◌∙◌, ap, sym}
use Rattle.im_ctree.specs.Shape.{init_declarators_of}
use Rattle.im_print_relation.specs.Printed as printed
use Rattle.im_print_parts.specs.Output.{known}
use Rattle.im_print_parts.proofs.Writing.{writes_append, writes_same}
use Rattle.im_print_parts.proofs.Rows.{split_first, init_declarators_first}
use Rattle.im_print.proofs.declarations.put_declarators.Goals as goal

pub returns-in_ok-put_next_declarators-in-len1-up : goal.returns-in_ok-put_next_declarators-in-len1-up
returns-in_ok-put_next_declarators-in-len1-up c =
    let T = known c.args.names.now in
    let parted = split_first c.args.declarators.now c.first-item.result c.in-len1-up.len_at_least c.first-item.is in
    let row = ap (λ xs. printed.init_declarators T c.args.typed (init_declarators_of xs)) parted ∙ init_declarators_first T c.args.typed c.first-item.result _ in
    writes_same (sym row) (writes_append c.in_ok-put_behind_specifiers-in-len1-up.ensures (writes_append c.in_ok-put_maybe_initializer-in-len1-up.ensures c.in_ok-put_next_declarators-in-len1-up.ensures))
