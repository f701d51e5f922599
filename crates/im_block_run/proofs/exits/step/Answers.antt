use Rattle.std.proofs.Common.{ap, sym, ◌∙◌, List}
use Rattle.im_block.specs.declared.code.Line.{Line}
use Rattle.im_block.specs.Meaning as m
use Rattle.im_block_run.specs.Shown.{setting_of}
use Rattle.im_block_run.proofs.States.{follows-as, with-frame}
use Rattle.im_block_run.proofs.Steps.{does-same}
use Rattle.im_block_run.proofs.exits.step.Goals as goal

pub returns-in-None : goal.returns-in-None
returns-in-None c = λ s h.
    let u = c.args.code.unit.now in
    let g = setting_of c.args.code.setting in
    let a = c.args.state.now in
    let taken = c.in-None.ensures s.frame h.running.frame in
    follows-as u c.leave.result c.leave.new.state _ _ (ap (λ (lines : List Line). m.step_at u g lines s) taken.0)
    (c.leave.ensures s (with-frame a s c.next_line.new.frame s.frame h taken.1))

pub returns-in-Some : goal.returns-in-Some
returns-in-Some c = λ s h.
    let u = c.args.code.unit.now in
    let g = setting_of c.args.code.setting in
    let a = c.args.state.now in
    let line = c.in-Some.line in
    let taken = c.in-Some.ensures s.frame h.running.frame in
    let t : m.State = record s { frame = m.with_rest s.frame taken.0 } in
    follows-as u c.perform.result c.perform.new.state _ _ (ap (λ (lines : List Line). m.step_at u g lines s) taken.1 ∙ sym (does-same u g line taken.0 s))
    (c.perform.ensures t (with-frame a s c.next_line.new.frame (m.with_rest s.frame taken.0) h taken.2))
