use Rattle.std.proofs.Common.{subst}
use Rattle.std.specs.Prelude.{codes}
use Rattle.im_select_assemble.specs.Assembled.{AddsNamed}
use Rattle.im_select_assemble.proofs.runtime.push_start.Goals as goal

pub returns : goal.returns
returns c = λ parts holds.
    let a = c.in_ok-push_part.ensures parts holds in
    (a.0, a.1, subst (λ z. AddsNamed z (codes "start") parts a.0) c.in_ok-start_lines.ensures a.2)
