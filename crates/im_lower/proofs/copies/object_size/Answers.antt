use Rattle.std.proofs.Common.{◌≡◌, ◌+◌, ◌-◌, ◌<◌, ◌≤◌, List, map, drop, length, get_or, sym, ap, ◌∙◌, arith}
use Rattle.std.specs.Prelude.{slice_get}
use Rattle.im_typed.specs.declared.program.Func.{Func}
use Rattle.im_typed.specs.ProgramOf.{func_of}
use Rattle.im_lower_relation.specs.Codes.{all_objects, object_size}
use Rattle.im_lower.proofs.Sizes.{sized-here, sized-past}
use Rattle.im_lower.proofs.copies.object_size.Goals as goal

pub returns-then-left-len : goal.returns-then-left-len
returns-then-left-len c =
    let l = c.loop-func in
    let fs = c.args.prog.now.funcs.items in
    let f = c.func-item.result in
    let all_there = c.deref-func-items.ensures.value in
    let as_many = ap (λ (xs : List Func). length xs) all_there in
    let within : l.func-index < length fs = omega arith in
    let is : f ≡ get_or fs l.func-index f = c.func-item.is ∙ ap (λ (xs : List Func). get_or xs l.func-index f) all_there in
    let lt : l.left < length f.objects.items = omega arith in
    sym (l.invariant ∙ sized-here c.args.prog.now.types fs l.func-index l.left f within is c.index.result.now lt c.index.ensures)

pub loop-func-preserved : goal.loop-func-preserved
loop-func-preserved c =
    let l = c.loop-func in
    let types = c.args.prog.now.types in
    let fs = c.args.prog.now.funcs.items in
    let f = c.func-item.result in
    let all_there = c.deref-func-items.ensures.value in
    let as_many = ap (λ (xs : List Func). length xs) all_there in
    let within : l.func-index < length fs = omega arith in
    let is : f ≡ get_or fs l.func-index f = c.func-item.is ∙ ap (λ (xs : List Func). get_or xs l.func-index f) all_there in
    let le : length f.objects.items ≤ l.left = omega arith in
    let fewer : l.left - length f.objects.items ≡ l.left - c.len-left.result = omega arith in
    l.invariant ∙ sized-past types fs l.func-index l.left f within is le
    ∙ ap (λ n. object_size (slice_get (all_objects (map (func_of types) (drop (l.func-index + 1) fs))) n)) fewer
