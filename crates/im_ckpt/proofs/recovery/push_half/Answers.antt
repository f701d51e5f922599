use Rattle.std.proofs.Common.{◌++◌, ◌∷◌, [], map, ap, ◌∙◌}
use Rattle.im_rv.specs.Lines.{code_lines, plain_line}
use Rattle.im_ckpt.specs.Recovery.{load_line, load_lines, kept_registers, return_line}
use Rattle.im_ckpt.proofs.Pushing.{joined}
use Rattle.im_ckpt.proofs.recovery.push_half.Goals as goal

pub returns : goal.returns
returns c =
    joined (code_lines c.args.lines.now.items) (code_lines c.push_load.new.lines.items) (code_lines c.push_loads.new.lines.items) (code_lines c.push.new.lines.items)
    (plain_line (load_line 3 c.args.base) ∷ []) (map plain_line (load_lines c.args.base kept_registers)) (plain_line return_line ∷ [])
    c.in_ok-push_load.ensures c.in_ok-push_loads.ensures
    (c.in_ok-push.ensures ∙ ap (λ l. code_lines c.push_loads.new.lines.items ++ plain_line l ∷ []) c.jalr.ensures)
