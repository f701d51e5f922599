use Rattle.std.proofs.Common.{length, ◌∙◌, arith}
use Rattle.std.proofs.lemmas.Iterator.Adapters.{YieldsList-from_vec}
use Rattle.std.proofs.lemmas.Iterator.Consumers.{YieldsList-turn, YieldsList-end}
use Rattle.std.proofs.lemmas.Result.{err_from_is_err_and}
use Rattle.im_check_externals.proofs.Reached.{next, last, reached_none, reached_push, reached_fault, reached_all}
use Rattle.im_check_externals.proofs.unit.in_order.Goals as goal

pub loop-x-init : goal.loop-x-init
loop-x-init c = reached_none c.args.file.now _ c.args.list.items c.new.ensures.items c.new-2.ensures.items

pub loop-x-preserved : goal.loop-x-preserved
loop-x-preserved c =
    let all = c.args.list.items in
    let h = c.into_iter-x-iterator.ensures.into_iter_gives in
    let t = YieldsList-turn (YieldsList-from_vec {s = c.into_iter-x-iterator.result} all h.0 (h.1 ∙ c.args.list.ok.0)) c.loop-x.yielded c.loop-x.x-iterator c.loop-x.yielded_by c.next.result c.next.new.self c.in-Some.x c.in-Some.is c.next.ensures.steps in
    reached_push all c.loop-x.yielded c.in-Some.x t.0 t.1 c.loop-x.invariant c.in_ok-external.ensures

pub returns-in_err-external : goal.returns-in_err-external
returns-in_err-external c =
    let p = err_from_is_err_and c.from_residual.result c.from_residual.ensures.1 in
    let all = c.args.list.items in
    let h = c.into_iter-x-iterator.ensures.into_iter_gives in
    let t = YieldsList-turn (YieldsList-from_vec {s = c.into_iter-x-iterator.result} all h.0 (h.1 ∙ c.args.list.ok.0)) c.loop-x.yielded c.loop-x.x-iterator c.loop-x.yielded_by c.next.result c.next.new.self c.in-Some.x c.in-Some.is c.next.ensures.steps in
    let at = next all (length c.loop-x.yielded) c.in-Some.x t.0 t.1 in
    rw (p.1, p.2) (reached_fault _ at c.loop-x.invariant c.in_err-external.ensures)

pub returns : goal.returns
returns c =
    let all = c.args.list.items in
    let h = c.into_iter-x-iterator.ensures.into_iter_gives in
    let e = YieldsList-end (YieldsList-from_vec {s = c.into_iter-x-iterator.result} all h.0 (h.1 ∙ c.args.list.ok.0)) c.loop-x.yielded c.loop-x.x-iterator c.loop-x.yielded_by c.next.result c.next.new.self c.in-None.is c.next.ensures.steps in
    reached_all (last all (length c.loop-x.yielded) (omega (arith, e.1))) c.loop-x.invariant
