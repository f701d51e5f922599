use Rattle.std.proofs.Common.{ap, ◌∙◌}
use Rattle.std.specs.Prelude.{◌||◌, bit_and}
use Rattle.std.specs.Int.{w32, bit_not}
use Rattle.im_block_live.specs.Words.{has}
use Rattle.im_block_live.proofs.Bits.{has_or, has_kept}
use Rattle.im_block_live.proofs.registers.through.Goals as goal

pub returns : goal.returns
returns c j lt =
    let small = c.ranges.set in
    has_or c.args.used (bit_and c.args.behind (bit_not w32 c.args.set)) j
    ∙ ap (λ z. has c.args.used j || z) (has_kept c.args.behind c.args.set j small.fits lt)
