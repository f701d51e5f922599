use Rattle.std.proofs.Common.{◌∙◌, sym}
use Rattle.im_rv.proofs.Masks.{none_torn, one_torn, all_torn, inner_place}
use Rattle.im_rv.proofs.torn.put_masked.Goals as goal

pub loop-i-init : goal.loop-i-init
loop-i-init g c = none_torn c.args.mask (g.M.Memory.bytes c.args.memory.now) c.args.address c.args.size c.args.value

pub put_if-requires : goal.put_if-requires
put_if-requires g c = inner_place c.args.address c.args.size c.loop-i.i c.requires c.loop-i-test.true

pub loop-i-preserved : goal.loop-i-preserved
loop-i-preserved g c =
    one_torn c.loop-i.bits (g.M.Memory.bytes c.loop-i.memory) (g.M.Memory.bytes c.put_if.new.memory) c.args.address c.args.size c.loop-i.i c.loop-i.bytes c.loop-i-test.true c.put_if.ensures
    ∙ c.loop-i.invariant

pub returns : goal.returns
returns g c =
    sym (all_torn c.loop-i.bits (g.M.Memory.bytes c.loop-i.memory) c.args.address c.args.size c.loop-i.i c.loop-i.bytes c.loop-i-test.false)
    ∙ c.loop-i.invariant
