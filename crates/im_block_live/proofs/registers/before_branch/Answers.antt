use Rattle.std.proofs.Common.{ap, ◌∙◌}
use Rattle.std.specs.Prelude.{◌||◌, bit_or}
use Rattle.im_block_live.specs.Words.{has}
use Rattle.im_block_live.proofs.Bits.{has_or}
use Rattle.im_block_live.proofs.registers.before_branch.Goals as goal

pub returns : goal.returns
returns c j lt =
    has_or (bit_or c.single-a.result c.args.holds) c.args.fails j
    ∙ ap (λ z. z || has c.args.fails j) (has_or c.single-a.result c.args.holds j)
    ∙ ap (λ z. (z || has c.args.holds j) || has c.args.fails j) (c.single-a.ensures j lt)
