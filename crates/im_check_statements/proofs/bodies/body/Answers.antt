use Rattle.std.proofs.Common.{take, ap, ◌∙◌}
use Rattle.im_check_statement_forms.specs.Opening.{with_scope}
use Rattle.im_check_statements.proofs.Composed.{done_body}
use Rattle.im_check_statements.proofs.bodies.body.Goals as goal

pub returns : goal.returns
returns c =
    let b = c.items.new.body in
    done_body c.in_ok-done.ensures (c.closed.ensures ∙ ap (λ k. with_scope (take k b.place.scope) b) c.mark-mark.ensures) c.block_made.ensures
