use Rattle.std.proofs.Common.{ap, ◌∙◌}
use Rattle.std.specs.Prelude.{◌==◌, ◌||◌, bit_or}
use Rattle.im_live.specs.Words.{has}
use Rattle.im_live.proofs.Bits.{has_or}
use Rattle.im_live.proofs.registers.before_branch.Goals as goal

pub returns : goal.returns
returns c r lt =
    has_or c.one-a.result (bit_or c.args.holds c.args.fails) r
    ∙ ap (λ z. z || has (bit_or c.args.holds c.args.fails) r) (c.one-a.ensures r lt)
    ∙ ap (λ z. r == c.args.on || z) (has_or c.args.holds c.args.fails r)
