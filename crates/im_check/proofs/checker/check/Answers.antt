use Rattle.std.proofs.Common.{ap, ◌∙◌}
use Rattle.std.proofs.lemmas.Result.{err_from_is_err_and}
use Rattle.im_ctree.specs.Shape.{tree_of}
use Rattle.im_check_counts.specs.Heads.{heads_in}
use Rattle.im_check.proofs.checker.check.Goals as goal

pub returns-in_err-typed : goal.returns-in_err-typed
returns-in_err-typed c =
    let p = err_from_is_err_and c.from_residual-in_err-typed.result c.from_residual-in_err-typed.ensures.1 in
    rw (p.1, p.2) c.in_err-typed.ensures

pub returns : goal.returns
returns c = c.unit_program.ensures (tree_of c.args.tree) c.requires c.in_ok-typed.ensures (ap heads_in c.deref.ensures.value ∙ c.in_ok-heads.ensures)
