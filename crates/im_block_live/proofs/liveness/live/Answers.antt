use Rattle.std.proofs.Common.{◌+◌, ◌*◌, ◌<◌, ◌≤◌, length, sym, subst, arith}
use Rattle.im_block_live.specs.Words.{AreLinked}
use Rattle.im_block_live.proofs.Pointed.{linked, live_of}
use Rattle.im_block_live.proofs.liveness.live.Goals as goal

pub starts-requires : goal.starts-requires
starts-requires c = subst AreLinked (sym c.deref.ensures.value) (linked c.args.function.now c.requires)

pub returns : goal.returns
returns c =
    let l = c.loop-i in
    let ceil = c.div_ceil-i-end.ensures in
    let past = c.loop-i-test.false in
    let count = l.invariant.count in
    let enough : c.args.function.now.register_count ≤ 32 * length l.groups.items = omega arith in
    let few : 32 * length l.groups.items < c.args.function.now.register_count + 32 = omega arith in
    record {
      live = live_of c.args.function.now l.groups.items c.requires enough l.invariant.each;
      words = record { enough = enough; few = few; each = λ i words is. (l.invariant.each i words is).count };
    }
