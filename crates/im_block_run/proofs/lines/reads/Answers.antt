use Rattle.std.proofs.lemmas.Result.{err_from_is_err_and}
use Rattle.im_block.specs.Meaning as m
use Rattle.im_eval_store.specs.Shown.{shown}
use Rattle.im_block_run.proofs.Steps.{reads-bad, reads-fine}
use Rattle.im_block_run.proofs.lines.reads.Goals as goal

pub returns-in_err-value : goal.returns-in_err-value
returns-in_err-value c =
    let p = err_from_is_err_and c.from_residual.result c.from_residual.ensures.1 in
    let a = c.args.state.now in
    rw (p.1, p.2) (λ u site s h.
    reads-bad u a s c.args.to site c.in_err-value.field-0.0 (m.read_place c.args.place c.args.kind s.frame.active s.frame.registers s.store) (c.in_err-value.ensures a.begun s.store s.frame h.held h.running.frame))

pub returns : goal.returns
returns c = λ u site s h.
    let a = c.args.state.now in
    let found = c.in_ok-value.ensures a.begun s.store s.frame h.held h.running.frame in
    reads-fine a s h c.set.new.self c.args.to site found.0 (shown c.in_ok-value.value) (m.read_place c.args.place c.args.kind s.frame.active s.frame.registers s.store) found.1 (c.in_ok-set.ensures s.frame h.running.frame)
