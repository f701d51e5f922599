use Rattle.std.proofs.Common.{◌+◌, ap, ◌∙◌}
use Rattle.std.specs.Prelude.{◌||◌}
use Rattle.im_alloc_relation.specs.Live.{place_uses}
use Rattle.im_block_live.specs.Words.{has}
use Rattle.im_block_live.proofs.Bits.{has_or}
use Rattle.im_block_live.proofs.registers.with_place.Goals as goal

pub returns : goal.returns
returns c j lt =
    has_or c.uses_of_place-a.result c.single-b.result j
    ∙ ap (λ z. z || has c.single-b.result j) (c.uses_of_place-a.ensures j lt)
    ∙ ap (λ z. place_uses c.args.place (c.args.base + j) || z) (c.single-b.ensures j lt)
