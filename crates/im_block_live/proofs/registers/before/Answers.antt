use Rattle.std.proofs.Common.{◌+◌, ap, ◌∙◌}
use Rattle.std.specs.Prelude.{◌||◌, ◌&&◌, not}
use Rattle.im_alloc_relation.specs.Live.{uses}
use Rattle.im_block_live.specs.Words.{has}
use Rattle.im_block_live.proofs.registers.before.Goals as goal

pub returns : goal.returns
returns c j lt =
    c.through.ensures j lt
    ∙ ap (λ z. z || (not (has c.sets_of-set.result j) && has c.args.behind j)) (c.uses_of-used.ensures j lt)
    ∙ ap (λ z. uses c.args.line (c.args.base + j) || (not z && has c.args.behind j)) (c.sets_of-set.ensures j lt)
