use Rattle.std.proofs.Common.{sym, subst, refl, ◌∙◌, List, reverse, []}
use Rattle.std.proofs.lemmas.Result.{err_from_is_err_and}
use Rattle.im_block.specs.Meaning as m
use Rattle.im_block.specs.Runs as runs
use Rattle.im_block_run.specs.Shown.{AreFrames, setting_of}
use Rattle.im_block_run.proofs.Enters.{called, not-entered}
use Rattle.im_block_run.proofs.runs.start.Goals as goal

pub returns-in_err-frame : goal.returns-in_err-frame
returns-in_err-frame c =
    let p = err_from_is_err_and c.from_residual.result c.from_residual.ensures.1 in
    let u = c.args.code.unit.now in
    let g = setting_of c.args.code.setting in
    rw (p.1, p.2) (λ n h.
    not-entered u c.in_err-frame.field-0.0 c.args.state.now c.enter.new.memory [] n (runs.before u g n) (runs.start u g n) h
    (c.in_err-frame.ensures (runs.before u g n) [] n h.running.frame h.held h.begun))

pub returns : goal.returns
returns c = λ n h.
    let u = c.args.code.unit.now in
    let g = setting_of c.args.code.setting in
    let s = runs.before u g n in
    let a = c.args.state.now in
    let r = h.running in
    let entered = c.in_ok-frame.ensures s [] n r.frame h.held h.begun in
    called _ s c.in_ok-frame.frame c.enter.new.memory [] n (runs.start u g n) entered refl refl
    (λ x is cs i o f. record {
      frame = is;
      callers = subst (λ (ss : List m.Frame). AreFrames (reverse a.callers.items) ss) (sym cs) r.callers;
      input = i ∙ r.input;
      output = o ∙ r.output;
      fuel = f ∙ r.fuel;
    })
