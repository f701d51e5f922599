use Rattle.std.proofs.Common.{◌≡◌, ◌+◌, None, suc, arith, subst}
use Rattle.std.specs.Prelude.{slice_set}
use Rattle.im_promote.proofs.Emptying.{EmptiedTo, emptied_more}
use Rattle.im_promote.proofs.rewrite.empty_objects.Goals as goal

pub loop-k-preserved : goal.loop-k-preserved
loop-k-preserved c =
    let l = c.loop-k in
    let t = c.loop-k-test.true in
    let q = c.requires in
    let next : suc l.k ≡ l.k + 1 = omega arith in
    let m = emptied_more c.args.homes.now l.k c.args.objects.now l.objects None c.index-objects-k.result c.empty_object.new.object (omega arith) (omega arith) l.invariant c.empty_object.ensures in
    subst (λ j. EmptiedTo c.args.homes.now j c.args.objects.now (slice_set l.objects l.k c.empty_object.new.object)) next m
