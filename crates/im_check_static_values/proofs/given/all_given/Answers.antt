use Rattle.std.proofs.Common.{length, ◌∙◌}
use Rattle.std.proofs.lemmas.Iterator.Adapters.{YieldsList-from_vec}
use Rattle.std.proofs.lemmas.Iterator.Consumers.{YieldsList-turn}
use Rattle.std.proofs.lemmas.Result.{err_from_is_err_and}
use Rattle.im_check_static_values.proofs.GivenValues.{given_item, unfit_at}
use Rattle.im_check_static_values.proofs.given.all_given.Goals as goal

pub returns-in_err-one : goal.returns-in_err-one
returns-in_err-one g c =
    let types = c.args.table.now in
    let size = g.S.Sizes.size c.args.sizes.now in
    let all = c.args.items.items in
    let p = err_from_is_err_and c.from_residual.result c.from_residual.ensures.1 in
    let h = c.into_iter-item-iterator.ensures.into_iter_gives in
    let t = YieldsList-turn (YieldsList-from_vec {s = c.into_iter-item-iterator.result} all h.0 (h.1 ∙ c.args.items.ok.0)) c.loop-item.yielded c.loop-item.item-iterator c.loop-item.yielded_by c.next.result c.next.new.self c.in-Some.item c.in-Some.is c.next.ensures.steps in
    rw (p.1, p.2) (unfit_at types size all (length c.loop-item.yielded) c.in-Some.item c.in_err-one.field-0.0 t.0 t.1 c.in_err-one.ensures)

pub loop-item-preserved : goal.loop-item-preserved
loop-item-preserved g c =
    let types = c.args.table.now in
    let size = g.S.Sizes.size c.args.sizes.now in
    given_item types size c.loop-item.yielded c.loop-item.done.items c.push.new.self.items c.in-Some.item c.in_ok-one.one c.in_ok-push.ensures.items c.loop-item.invariant c.in_ok-one.ensures
