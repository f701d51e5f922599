use Rattle.std.proofs.Common.{◌+◌, ap, ◌∙◌}
use Rattle.std.specs.Prelude.{◌==◌, ◌||◌}
use Rattle.im_block_live.specs.Words.{has}
use Rattle.im_block_live.proofs.Bits.{has_or}
use Rattle.im_block_live.proofs.registers.two.Goals as goal

pub returns : goal.returns
returns c j lt =
    has_or c.single-a.result c.single-b.result j
    ∙ ap (λ z. z || has c.single-b.result j) (c.single-a.ensures j lt)
    ∙ ap (λ z. c.args.base + j == c.args.left || z) (c.single-b.ensures j lt)
