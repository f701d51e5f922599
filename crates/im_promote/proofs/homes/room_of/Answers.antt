use Rattle.std.proofs.Common.{arith}
use Rattle.im_promote.proofs.Emptying.{room_more, room_done}
use Rattle.im_promote.proofs.homes.room_of.Goals as goal

pub loop-object-preserved : goal.loop-object-preserved
loop-object-preserved c =
    let l = c.loop-object in
    let t = c.loop-object-test.true in
    let more = room_more c.args.objects.now l.object-index c.object-item.result (omega arith) c.object-item.is in
    let known = l.invariant in
    omega (arith, more, known)

pub returns : goal.returns
returns c =
    let l = c.loop-object in
    let t = c.loop-object-test.false in
    let done = room_done c.args.objects.now l.object-index (omega arith) in
    let known = l.invariant in
    omega (arith, done, known)
