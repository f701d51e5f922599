use Rattle.std.proofs.Common.{◌≡◌, ◌+◌, ◌*◌, length, ap, sym, ◌∙◌, arith}
use Rattle.std.proofs.lemmas.Result.{err_from_is_err_and}
use Rattle.std.proofs.lemmas.Bool.Decides.{nat_tests}
use Rattle.im_image.specs.Contents.{ObjectValue}
use Rattle.im_image.specs.Faults.{objects_requirements, record_end}
use Rattle.im_image.proofs.Loops.{end_is, objects_go_on, objects_stop, objects_end}
use Rattle.im_image.proofs.objects.read_objects.Goals as goal

pub returns-in_err-object-clause-wrong : goal.returns-in_err-object-clause-wrong
returns-in_err-object-clause-wrong c =
    let p = err_from_is_err_and c.from_residual.result c.from_residual.ensures.1 in
    rw (p.1, p.2) (objects_stop c.args.bytes.now c.args.statics c.args.count c.args.place c.loop.counter c.loop.least c.loop.next c.loop.objects.items c.in_err-object.field-0.0 c.loop-test.true c.in_err-object.ensures.wrong c.loop.invariant)

pub overflow_add-next-in-loop : goal.overflow_add-next-in-loop
overflow_add-next-in-loop c =
    let e = end_is c.args.bytes.now c.loop.next c.in_ok-object.object c.in_ok-object.ensures.object c.in_ok-object.ensures.there in
    let name = ap (λ (x : ObjectValue). length x.name) c.object.view_is in
    let runs = ap (λ (x : ObjectValue). length x.runs) c.object.view_is in
    omega (arith, c.object.inside.name.ok.0, c.object.inside.runs.ok.0, c.len.ensures, c.len-in-loop.ensures, c.in_ok-object.ensures.there)

pub overflow_add-next-in-loop-2 : goal.overflow_add-next-in-loop-2
overflow_add-next-in-loop-2 c =
    let e = end_is c.args.bytes.now c.loop.next c.in_ok-object.object c.in_ok-object.ensures.object c.in_ok-object.ensures.there in
    let name = ap (λ (x : ObjectValue). length x.name) c.object.view_is in
    let runs = ap (λ (x : ObjectValue). length x.runs) c.object.view_is in
    omega (arith, c.object.inside.name.ok.0, c.object.inside.runs.ok.0, c.len.ensures, c.len-in-loop.ensures, c.in_ok-object.ensures.there)

pub loop-preserved : goal.loop-preserved
loop-preserved c =
    let e = end_is c.args.bytes.now c.loop.next c.in_ok-object.object c.in_ok-object.ensures.object c.in_ok-object.ensures.there in
    let at = ap (λ (x : ObjectValue). x.at) c.object.view_is in
    let size = ap (λ (x : ObjectValue). x.size) c.object.view_is in
    let name = ap (λ (x : ObjectValue). length x.name) c.object.view_is in
    let runs = ap (λ (x : ObjectValue). length x.runs) c.object.view_is in
    let lower : c.from.result + c.from-in-loop.result + 1 ≡ c.in_ok-object.object.at + c.in_ok-object.object.size + 1 = omega (arith, c.from.ensures, c.from-in-loop.ensures) in
    let after : c.loop.next + (16 + c.len.result + 12 * c.len-in-loop.result) ≡ record_end c.args.bytes.now c.loop.next =
    omega (arith, c.object.inside.name.ok.0, c.object.inside.runs.ok.0, c.len.ensures, c.len-in-loop.ensures) in
    objects_go_on c.args.bytes.now c.args.statics c.args.count c.args.place c.loop.counter c.loop.least c.loop.next (c.from.result + c.from-in-loop.result + 1) (c.loop.next + (16 + c.len.result + 12 * c.len-in-loop.result)) c.in_ok-object.object c.loop.objects.items c.push.new.self.items c.loop-test.true c.in_ok-object.ensures.object c.in_ok-object.ensures.there lower after c.in_ok-object.ensures.right c.in_ok-push.ensures.items c.loop.invariant

pub returns-then-next-bytes-clause-wrong : goal.returns-then-next-bytes-clause-wrong
unfolding objects_requirements
returns-then-next-bytes-clause-wrong c =
    let e = objects_end c.args.bytes.now c.args.statics c.args.count c.args.place c.loop.counter c.loop.least c.loop.next c.loop.objects.items c.loop-test.false c.loop.invariant in
    sym e.1 ∙ grind (arith, nat_tests, c.loop.invariant.there)

pub returns-clause-objects : goal.returns-clause-objects
returns-clause-objects c =
    (objects_end c.args.bytes.now c.args.statics c.args.count c.args.place c.loop.counter c.loop.least c.loop.next c.loop.objects.items c.loop-test.false c.loop.invariant).0

pub returns-clause-right : goal.returns-clause-right
unfolding objects_requirements
returns-clause-right c =
    let e = objects_end c.args.bytes.now c.args.statics c.args.count c.args.place c.loop.counter c.loop.least c.loop.next c.loop.objects.items c.loop-test.false c.loop.invariant in
    sym e.1 ∙ grind (arith, nat_tests, c.loop.invariant.there)
