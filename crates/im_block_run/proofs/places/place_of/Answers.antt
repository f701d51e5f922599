use Rattle.std.proofs.Common.{◌∙◌, sym, ap}
use Rattle.im_store.specs.Objects as o
use Rattle.im_store.specs.Objects.{Named}
use Rattle.im_block.specs.Meaning as m
use Rattle.im_eval_store.specs.Shown.{shown}
use Rattle.im_block_run.proofs.Steps.{checks-at}
use Rattle.im_block_run.proofs.places.place_of.Goals as goal

pub returns-in-Static : goal.returns-in-Static
returns-in-Static c =
    rw c.in-Static.is (λ last store s h is.
    checks-at c.further.result (m.further store c.in-Static.offset) _ (shown c.start_of.result) (sym c.start_of.ensures) (c.further.ensures last store h))

pub returns-in-Local : goal.returns-in-Local
returns-in-Local c =
    rw c.in-Local.is (λ last store s h is.
    checks-at c.further-in-Local.result (m.further store c.in-Local.offset) _ (shown c.start_of-in-Local.result)
    (ap (λ (by : m.Active). o.Pointer (m.object_of by (Named c.in-Local.object)) 0) is.active ∙ sym c.start_of-in-Local.ensures) (c.further-in-Local.ensures last store h))

pub returns-in-Through : goal.returns-in-Through
returns-in-Through c =
    rw c.in-Through.is (λ last store s h is.
    checks-at c.further-in-Through.result (m.further store c.in-Through.offset) (s.registers c.in-Through.pointer) (shown c.register.result) (c.register.ensures s is) (c.further-in-Through.ensures last store h))
