use Rattle.std.proofs.Common.{ℕ, ap, ◌∙◌}
use Rattle.std.specs.Prelude.{◌==◌, ◌||◌, ◌&&◌, not}
use Rattle.im_alloc_relation.specs.Live.{uses}
use Rattle.im_live.specs.Words.{has}
use Rattle.im_live.specs.Reads.{reads}
use Rattle.im_live.proofs.registers.before.Goals as goal

pub returns : goal.returns
returns c r lt =
    let word : ℕ = c.args.word in
    c.through.ensures r lt
    ∙ ap (λ z. (z || (c.needs_stack-by_stack.result && r == 2)) || (not (has c.writes_of-written.result r) && has word r)) (c.uses_of-used.ensures r lt)
    ∙ ap (λ z. (uses c.args.line r || (z && r == 2)) || (not (has c.writes_of-written.result r) && has word r)) c.needs_stack-by_stack.ensures
    ∙ ap (λ z. reads c.args.line r || (not z && has word r)) (c.writes_of-written.ensures r lt)
