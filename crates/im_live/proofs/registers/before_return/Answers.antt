use Rattle.std.proofs.Common.{ap, sym, ◌∙◌}
use Rattle.std.specs.Prelude.{◌==◌, ◌||◌}
use Rattle.im_alloc_relation.specs.Live.{result_uses}
use Rattle.im_live.specs.Words.{has}
use Rattle.im_live.proofs.Bits.{has_or, has_returned}
use Rattle.im_live.proofs.registers.before_return.Goals as goal

pub returns-in-None : goal.returns-in-None
returns-in-None c r lt = has_returned r lt ∙ sym (ap (λ z. result_uses z r || (r == 1 || r == 2)) c.in-None.is)

pub returns-in-Some : goal.returns-in-Some
returns-in-Some c r lt =
    has_or c.one.result 6 r
    ∙ ap (λ z. z || has 6 r) (c.one.ensures r lt)
    ∙ ap (λ z. r == c.in-Some.register || z) (has_returned r lt)
    ∙ sym (ap (λ z. result_uses z r || (r == 1 || r == 2)) c.in-Some.is)
