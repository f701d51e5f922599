use Rattle.std.proofs.Common.{◌-◌, ◌<◌, length, sym, arith}
use Rattle.im_eval_store.proofs.Searches.{stands-found}
use Rattle.im_eval_store.proofs.object.stands_in.Goals as goal

pub returns-then-given-left : goal.returns-then-given-left
returns-then-given-left c =
    let le = c.search.invariant.0 in
    let some = c.search-test.true in
    let lt : c.search.left - 1 < length c.args.given.now = omega arith in
    sym (stands-found c.args.offset c.args.given.now (c.search.left - 1) lt c.if-given-left.true)
