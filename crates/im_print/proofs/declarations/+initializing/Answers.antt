use Rattle.std.proofs.Common.{rules, ap, sym, ◌∙◌}
use Rattle.im_ctree.specs.Shape.{initializer_of}
use Rattle.im_print_relation.specs.Printed as printed
use Rattle.im_print_parts.specs.Output.{known}
use Rattle.im_print_parts.specs.Parts as parts
use Rattle.im_print_parts.proofs.Writing.{writes_append, writes_first, writes_same}
use Rattle.im_print_parts.proofs.Rows.{list_words, separated_step, initializers_separated}
use Rattle.im_print.proofs.declarations.+initializing.Goals as goal

pub put_braced-returns : goal.put_braced-returns
put_braced-returns t c =
    let initializers = writes_same (sym (initializers_separated (known c.args.names.now) c.args.initializers.now)) c.in_ok-put_initializers.ensures in
    writes_first c.in_ok-put_mark.ensures (writes_append initializers c.in_ok-put_mark-2.ensures)

pub put_initializer-returns-in-List : goal.put_initializer-returns-in-List
put_initializer-returns-in-List t c =
    let same = ap (λ i. printed.initializer (known c.args.names.now) (initializer_of i)) c.in-List.is in
    let made = list_words (known c.args.names.now) c.in-List.field-0 c.in-List.items in
    search (rules, same, made)

pub put_initializers-loop-initializer-preserved : goal.put_initializers-loop-initializer-preserved
put_initializers-loop-initializer-preserved t c = separated_step (parts.initializer_words (known c.args.names.now)) c.loop-initializer.behind c.args.initializers.now c.loop-initializer.initializer-index c.initializer-item.result (writes_append c.in_ok-put_comma_if.ensures c.in_ok-put_initializer.ensures) c.loop-initializer-test.true c.initializer-item.is ∙ c.loop-initializer.invariant
