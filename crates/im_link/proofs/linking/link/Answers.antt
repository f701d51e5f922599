use Rattle.im_link.proofs.Whole.{parts_on, parts_end, if_linked, if_fault}
use Rattle.im_link.proofs.linking.link.Goals as goal

pub loop-part-preserved : goal.loop-part-preserved
loop-part-preserved c = parts_on c.add.new.self c.args.parts.now c.loop-part.part-index c.part-item.result c.loop-part-test.true c.part-item.is (c.in_ok-add.ensures _ c.loop-part.invariant)

pub finish-requires : goal.finish-requires
finish-requires c = record { parts = c.args.parts.now; holds = parts_end c.loop-part.linker c.args.parts.now c.loop-part.part-index c.loop-part-test.false c.loop-part.invariant; linkable = c.requires }

pub returns-clause-linked : goal.returns-clause-linked
returns-clause-linked c = if_linked _ _ c.finish.result (c.finish.ensures.code c.args.parts.now (parts_end c.loop-part.linker c.args.parts.now c.loop-part.part-index c.loop-part-test.false c.loop-part.invariant) c.requires)

pub returns-clause-fault : goal.returns-clause-fault
returns-clause-fault c = if_fault _ _ c.finish.result (c.finish.ensures.code c.args.parts.now (parts_end c.loop-part.linker c.args.parts.now c.loop-part.part-index c.loop-part-test.false c.loop-part.invariant) c.requires)
