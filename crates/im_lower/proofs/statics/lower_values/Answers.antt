use Rattle.std.proofs.Common.{◌≡◌, ◌+◌, ◌<◌, ◌≤◌, List, [], ◌∷◌, ◌++◌, map, take, length, arith, ap, sym, ◌∙◌}
use Rattle.std.proofs.lemmas.List.{map-append}
use Rattle.im_block.specs.declared.unit.Constant.{Constant as BlockConstant}
use Rattle.im_block.specs.Meaning.{constant}
use Rattle.im_store.specs.Objects.{Value}
use Rattle.im_typed.specs.declared.program.Constant.{Constant}
use Rattle.im_typed.specs.declared.program.Constant.TheVariants.{Number}
use Rattle.std.specs.Prelude.{pos}
use Rattle.im_typed.specs.ProgramOf.{first_of}
use Rattle.im_lower.proofs.Taken.{taken_at, take_all}
use Rattle.im_lower.proofs.statics.lower_values.Goals as goal

pub loop-value-preserved : goal.loop-value-preserved
loop-value-preserved c = λ types.
    let h = c.lower_value.ensures types in
    let l = c.loop-value in
    let i = l.invariant types in
    let vs = c.args.values.now in
    let one = c.lower_value.result in
    let done = map (first_of types) (take l.value-index vs) in
    let within : l.value-index < length vs = omega arith in
    ap (λ (xs : List BlockConstant). map constant xs) c.in_ok-push.ensures.items
    ∙ map-append {A = BlockConstant} constant l.found.items (one ∷ [])
    ∙ ap (λ (xs : List Value). xs ++ constant one ∷ []) i
    ∙ ap (λ (w : Value). done ++ w ∷ []) h
    ∙ sym (taken_at (first_of types) vs l.value-index (Number (pos 0)) within)

pub returns : goal.returns
returns c = λ types.
    let i = c.loop-value.invariant types in
    let past : length c.args.values.now ≤ c.loop-value.value-index = omega arith in
    i ∙ ap (λ (xs : List Constant). map (first_of types) xs) (take_all c.args.values.now c.loop-value.value-index past)
