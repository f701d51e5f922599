use Rattle.std.proofs.Common.{refl, subst, sym}
use Rattle.im_store.specs.Applied.{Applies}
use Rattle.im_store.specs.Objects as o
use Rattle.im_block.specs.Meaning as m
use Rattle.im_block_run.proofs.streams.given.Goals as goal

pub returns-in-None : goal.returns-in-None
returns-in-None c = rw c.in-None.is (λ s h. refl)

pub returns-in-Some : goal.returns-in-Some
returns-in-Some c =
    rw c.in-Some.is (λ s h. subst (λ (v : o.Value). Applies c.number_of.result (m.number_of v)) (sym (c.register.ensures s h)) c.number_of.ensures)
