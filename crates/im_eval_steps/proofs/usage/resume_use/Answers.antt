use Rattle.std.proofs.Common.{◌≡◌}
use Rattle.im_eval_tasks.specs.declared.tasks.Use.TheVariants.{Piece}
use Rattle.im_eval_steps.proofs.usage.resume_use.Goals as goal

pub returns-in-Piece-clause-goes : goal.returns-in-Piece-clause-goes
returns-in-Piece-clause-goes c =
    let e : c.args.usage ≡ Piece c.in-Piece.left = cc (c.in-Piece.is, c.in-Piece.left-is) in
    rw e (λ n ts s i. c.store_piece.ensures.goes n ts s i)
