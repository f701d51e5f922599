use Rattle.std.proofs.Common.{ap, ◌∙◌}
use Rattle.std.proofs.lemmas.Result.{err_from_is_err_and}
use Rattle.im_store.specs.Checks.{Checked}
use Rattle.im_store.specs.Objects as o
use Rattle.im_block.specs.Meaning as m
use Rattle.im_block_run.specs.declared.state.State.{State}
use Rattle.im_block_run.proofs.Steps.{writes-bad, writes-fine}
use Rattle.im_block_run.proofs.lines.writes.Goals as goal

pub returns-in_err-write : goal.returns-in_err-write
returns-in_err-write c =
    let p = err_from_is_err_and c.from_residual.result c.from_residual.ensures.1 in
    let a = c.args.state.now in
    rw (p.1, p.2) (λ u site s h.
    let at : o.Value → Checked m.Left = λ v. m.write_place c.args.place c.args.kind v s.frame.active s.frame.registers s.store in
    let b : State = record a { memory = c.write.new.memory } in
    writes-bad u b s site c.in_err-write.field-0.0 (at (s.frame.registers c.args.from)) (ap at (c.register-value.ensures s.frame h.running.frame) ∙ c.in_err-write.ensures a.begun s.store s.frame h.held h.running.frame))

pub returns : goal.returns
returns c = λ u site s h.
    let a = c.args.state.now in
    let at : o.Value → Checked m.Left = λ v. m.write_place c.args.place c.args.kind v s.frame.active s.frame.registers s.store in
    let left = c.in_ok-write.ensures a.begun s.store s.frame h.held h.running.frame in
    writes-fine a s h c.write.new.memory site left.0 (at (s.frame.registers c.args.from)) (ap at (c.register-value.ensures s.frame h.running.frame) ∙ left.1) left.2
