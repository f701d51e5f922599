use Rattle.std.proofs.Common.{ap, sym, ◌∙◌}
use Rattle.im_select.specs.Emitted.{own_lines}
use Rattle.im_select.proofs.branching.own_lines.Goals as goal

pub returns-in-Some : goal.returns-in-Some
returns-in-Some c = c.lines_but.ensures ∙ sym (ap (λ z. own_lines z c.args.lines.now) c.in-Some.is)
