use Rattle.std.proofs.Common.{◌∙◌, sym}
use Rattle.im_cut.proofs.Passing.{pass_cut, pass_quiet, pass_touch}
use Rattle.im_cut.proofs.lines.pass.Goals as goal

pub returns-then-is_checkpoint : goal.returns-then-is_checkpoint
returns-then-is_checkpoint c = λ m h. pass_cut c.args.tags.now c.args.line.now _ m (sym c.is_checkpoint.ensures ∙ c.if-is_checkpoint.true) c.restart.ensures

pub returns-in_ok-touch-in-Some : goal.returns-in_ok-touch-in-Some
returns-in_ok-touch-in-Some c = λ m h. pass_touch c.args.tags.now c.args.line.now c.in-Some.access _ m (sym c.in-Some.ensures) (c.in_ok-touch-in-Some.ensures m h)

pub returns-in-None : goal.returns-in-None
returns-in-None c = λ m h. pass_quiet c.args.tags.now c.args.line.now _ m (sym c.is_checkpoint.ensures ∙ c.if-is_checkpoint.false) (sym c.in-None.ensures) h
