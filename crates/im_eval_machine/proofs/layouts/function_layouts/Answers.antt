use Rattle.std.proofs.Common.{◌≡◌, ◌+◌, ◌<◌, ◌∙◌, List, [], ◌∷◌, ◌++◌, map, take, length, arith, subst, sym, ap}
use Rattle.im_typed.specs.Program.{Func}
use Rattle.im_typed.specs.ProgramOf.{func_of, object_of}
use Rattle.im_typed.specs.declared.program.Object.{Object}
use Rattle.im_eval_machine.specs.declared.code.Layout.{Layout}
use Rattle.im_eval_machine.specs.Settings.{AreLayouts, ArePlans, local_shapes}
use Rattle.im_eval_machine.proofs.Rows.{taken-one, length-mapped}
use Rattle.im_eval_machine.proofs.Plans.{past, past-more, layouts-more}
use Rattle.im_eval_machine.proofs.layouts.function_layouts.Goals as goal

pub loop-func-preserved : goal.loop-func-preserved
loop-func-preserved c =
    let l = c.loop-func in
    let types = c.args.types.now in
    let first = c.args.first in
    let x = c.func-item.result in
    let within : l.func-index < length c.args.funcs.now = omega arith in
    let before = map (func_of types) (take l.func-index c.args.funcs.now) in
    let same = taken-one (func_of types) c.args.funcs.now l.func-index x within c.func-item.is in
    let count = length-mapped (object_of types) x.objects.items in
    let plus = past-more first before (func_of types x) in
    let said = c.len.ensures in
    let whole = x.objects.ok in
    let sum = c.in-Some.ensures in
    let so_far = l.invariant.0 in
    let next : c.in-Some.past ≡ past first (before ++ func_of types x ∷ []) =
    sum.1 ∙ ap (λ n. n + c.len.result) so_far ∙ ap (λ n. past first before + n) (said ∙ whole.0 ∙ sym count) ∙ sym plus in
    let plans = subst (λ (os : List Object). ArePlans (local_shapes (map (object_of types) os)) c.in_ok-plans.plans.items) c.deref.ensures.value c.in_ok-plans.ensures in
    let more = layouts-more first before l.layouts.items (func_of types x) _ l.invariant.1 so_far plans in
    subst (λ (fs : List Func). (c.in-Some.past ≡ past first fs) × AreLayouts first fs c.push.new.self.items) (sym same)
    (next, subst (λ (ls : List Layout). AreLayouts first (before ++ func_of types x ∷ []) ls) (sym c.in_ok-push.ensures.items) more)
