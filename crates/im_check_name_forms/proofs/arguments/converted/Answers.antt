use Rattle.std.proofs.Common.{◌<◌, ◌+◌, length, ap, ◌∙◌, sym, arith}
use Rattle.std.proofs.lemmas.Iterator.Adapters.{YieldsList-from_vec}
use Rattle.std.proofs.lemmas.Iterator.Consumers.{YieldsList-turn}
use Rattle.std.proofs.lemmas.List.{length_push}
use Rattle.im_check_name_forms.proofs.Passed.{one_more}
use Rattle.im_check_name_forms.proofs.arguments.converted.Goals as goal

pub bounds-parameters-i : goal.bounds-parameters-i
bounds-parameters-i c =
    let h = c.into_iter-argument-iterator.ensures.into_iter_gives in
    let t = YieldsList-turn (YieldsList-from_vec {s = c.into_iter-argument-iterator.result} c.args.arguments.items h.0 (h.1 ∙ c.args.arguments.ok.0)) c.loop-argument.yielded c.loop-argument.argument-iterator c.loop-argument.yielded_by c.next.result c.next.new.self c.in-Some.argument c.in-Some.is c.next.ensures.steps in
    let below : length c.loop-argument.yielded < length c.args.arguments.items = t.0 in
    omega (arith, below, c.loop-argument.invariant.0, c.requires)

pub loop-argument-preserved : goal.loop-argument-preserved
loop-argument-preserved c =
    let h = c.into_iter-argument-iterator.ensures.into_iter_gives in
    let t = YieldsList-turn (YieldsList-from_vec {s = c.into_iter-argument-iterator.result} c.args.arguments.items h.0 (h.1 ∙ c.args.arguments.ok.0)) c.loop-argument.yielded c.loop-argument.argument-iterator c.loop-argument.yielded_by c.next.result c.next.new.self c.in-Some.argument c.in-Some.is c.next.ensures.steps in
    let below : length c.loop-argument.yielded < length c.args.arguments.items = t.0 in
    let within : c.loop-argument.i < length c.args.parameters.now = omega (arith, below, c.loop-argument.invariant.0, c.requires) in
    let ty = c.index-parameters-i.result in (
      ap (λ n. n + 1) c.loop-argument.invariant.0 ∙ sym (length_push c.loop-argument.yielded c.in-Some.argument),
      rw c.in_ok-push.ensures.items (one_more c.args.table.now c.args.parameters.now c.loop-argument.i c.loop-argument.yielded ty c.in-Some.argument _ _ c.loop-argument.invariant.0 within c.index-parameters-i.is c.loop-argument.invariant.1 c.in_ok-expr.ensures),
    )
