use Rattle.std.proofs.Common.{ap, ◌∙◌}
use Rattle.std.specs.Prelude.{◌||◌}
use Rattle.im_alloc_relation.specs.Live.{place_uses}
use Rattle.im_live.specs.Words.{has}
use Rattle.im_live.proofs.Bits.{has_or}
use Rattle.im_live.proofs.registers.with_place.Goals as goal

pub returns : goal.returns
returns c r lt =
    has_or c.uses_of_place-a.result c.one-b.result r
    ∙ ap (λ z. z || has c.one-b.result r) (c.uses_of_place-a.ensures r lt)
    ∙ ap (λ z. place_uses c.args.place r || z) (c.one-b.ensures r lt)
