use Rattle.std.proofs.Common.{◌++◌, ◌∷◌, [], ◌∙◌, ap, sym, List}
use Rattle.std.proofs.lemmas.List.{take_all}
use Rattle.im_check_defined.specs.im_word.Words.{Name}
use Rattle.im_check_program.specs.Given.{names_given}
use Rattle.im_check_program.proofs.Firsts.{names_more}
use Rattle.im_check_program.proofs.given.names_of.Goals as goal

pub loop-one-preserved : goal.loop-one-preserved
loop-one-preserved c =
    let gs = c.args.given.now in
    rw c.deref.ensures.value at c.in_ok-push.ensures.pushed
    ∙ ap (λ (ns : List Name). ns ++ c.one-item.result.name.items ∷ []) c.loop-one.invariant
    ∙ sym (names_more gs c.loop-one.one-index c.one-item.result c.loop-one-test.true c.one-item.is)

pub returns : goal.returns
returns c = c.loop-one.invariant ∙ ap names_given (take_all c.loop-one.one-index c.args.given.now c.loop-one-test.false)
