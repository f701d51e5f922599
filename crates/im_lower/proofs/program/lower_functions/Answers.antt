use Rattle.std.proofs.Common.{◌≡◌, ℕ, ◌+◌, ◌<◌, ◌==◌, Bool, List, [], ◌∷◌, ◌++◌, take, length, get_or, arith, subst, sym, ap, ◌∙◌}
use Rattle.std.proofs.lemmas.List.{length-take}
use Rattle.im_typed.specs.declared.program.Func.{Func}
use Rattle.im_block.specs.declared.unit.Function.{Function}
use Rattle.im_lower_plain.specs.MakeUnit.{FunctionMade, FunctionsMade, objects_of}
use Rattle.im_lower.proofs.FunctionsMore.{functions_more, objects_of_more, take_more}
use Rattle.im_lower.proofs.program.lower_functions.Goals as goal

pub loop-number-preserved : goal.loop-number-preserved
loop-number-preserved c =
    let l = c.loop-number in
    let g = c.args.prog.now in
    let fs = g.funcs.items in
    let f = c.func-item.result in
    let one = c.in_ok-function.function in
    let all_there = c.deref-func-items.ensures.value in
    let as_many = ap (λ (xs : List Func). length xs) all_there in
    let within : l.number < length fs = omega arith in
    let is : f ≡ get_or fs l.number f = c.func-item.is ∙ ap (λ (xs : List Func). get_or xs l.number f) all_there in
    let done = take l.number fs in
    let taken : take (l.number + 1) fs ≡ done ++ f ∷ [] = take_more fs l.number f within is in
    let count : length done ≡ l.number = omega (arith, length-take l.number fs) in
    let first = l.invariant.first in
    let more = objects_of_more done f in
    let next = c.in_ok-function.next in
    let statics = length g.statics.items in
    let here : l.number ≡ 0 + length done = omega arith in
    let made : FunctionMade g f (l.number == g.main) l.first l.accesses one next = c.in_ok-function.ensures in
    let placed = subst (λ (n : ℕ). FunctionMade g f (n == g.main) (statics + objects_of done) l.accesses one next) here
    (subst (λ (n : ℕ). FunctionMade g f (l.number == g.main) n l.accesses one next) first made) in
    let all = functions_more g 0 statics 0 l.accesses done l.made.items f one next l.invariant.each placed in
    let objects : c.in_ok-first-2.first ≡ statics + objects_of (done ++ f ∷ []) = omega arith in
    record {
      first = objects ∙ ap (λ (xs : List Func). statics + objects_of xs) (sym taken);
      each = subst (λ (cs : List Function). FunctionsMade g 0 statics 0 next (take (l.number + 1) fs) cs) (sym c.in_ok-push.ensures.items)
          (subst (λ (xs : List Func). FunctionsMade g 0 statics 0 next xs (l.made.items ++ one ∷ [])) (sym taken) all);
    }
