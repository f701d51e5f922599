use Rattle.std.proofs.Common.{◌+◌, ◌*◌, ◌++◌, ◌∷◌, [], get_or, ap, ◌∙◌}
use Rattle.im_rv.specs.Lines.{code_lines, plain_line}
use Rattle.im_ckpt.specs.Recovery.{load_line}
use Rattle.im_ckpt.proofs.Pushing.{register_at, load_grown}
use Rattle.im_ckpt.proofs.recovery.push_loads.Goals as goal

pub push_load-requires-clause-register : goal.push_load-requires-clause-register
push_load-requires-clause-register c = register_at c.args.registers.now c.loop-register.register-index c.requires.named c.loop-register-test.true

pub loop-register-preserved : goal.loop-register-preserved
loop-register-preserved c =
    let r = get_or c.args.registers.now c.loop-register.register-index 0 in
    load_grown c.args.base (code_lines c.args.lines.now.items) (code_lines c.loop-register.lines.items) (code_lines c.push_load.new.lines.items) c.args.registers.now c.loop-register.register-index c.loop-register-test.true c.loop-register.invariant
    (c.in_ok-push_load.ensures ∙ ap (λ z. code_lines c.loop-register.lines.items ++ plain_line (load_line r (c.args.base + 4 * z)) ∷ []) c.from.ensures)
