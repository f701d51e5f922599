use Rattle.std.proofs.Common.{◌≤◌, ◌-◌, length, get_or, ap, sym, ◌∙◌, pos, arith}
use Rattle.std.proofs.lemmas.Bool.Decides.{nat_tests}
use Rattle.im_block.specs.declared.code.Line.TheVariants.{Put}
use Rattle.im_live.specs.Words.{starts_have}
use Rattle.im_select.specs.Emitted.{zero_of, by_zero}
use Rattle.im_select.proofs.Taking.{last_taken}
use Rattle.im_select.proofs.branching.taken_test.Goals as goal

pub returns-clause-value : goal.returns-clause-value
returns-clause-value c =
    let live = starts_have c.args.live.now in
    let lines = c.args.lines.now in
    let exit = c.args.exit in
    let two : 2 ≤ length lines = grind (arith, nat_tests, c.if-lines-lt2.false) in
    c.by_zero.ensures.value
    ∙ ap (λ o. by_zero live o c.taken_by-taken.result exit) c.zero_of.ensures.value
    ∙ ap (λ t. by_zero live (zero_of (get_or lines (length lines - 2) (Put 0 (pos 0)))) t exit) c.taken_by-taken.ensures.value
    ∙ sym (last_taken live lines exit (Put 0 (pos 0)) two)
