use Rattle.std.proofs.Common.{ap, ◌∙◌}
use Rattle.std.specs.Prelude.{◌==◌, ◌||◌}
use Rattle.im_live.specs.Words.{has}
use Rattle.im_live.proofs.Bits.{has_or}
use Rattle.im_live.proofs.registers.two.Goals as goal

pub returns : goal.returns
returns c r lt =
    has_or c.one-a.result c.one-b.result r
    ∙ ap (λ z. z || has c.one-b.result r) (c.one-a.ensures r lt)
    ∙ ap (λ z. r == c.args.left || z) (c.one-b.ensures r lt)
