use Rattle.std.proofs.Common.{◌≡◌, ◌<◌, ◌≤◌, ◌+◌, ◌-◌, true, false, [], ◌∷◌, ◌++◌, length, drop, sym, ap, subst, ◌∙◌, arith}
use Rattle.im_rules.specs.Outline.{is_in}
use Rattle.im_check_place.specs.declared.field.Field.{Field}
use Rattle.im_check_file_specifiers.proofs.Constants.{next}
use Rattle.im_check_file_specifiers.proofs.Names.{names_more, names_same}
use Rattle.im_check_file_specifiers.proofs.lists.differ.Goals as goal

pub returns-then-contains : goal.returns-then-contains
returns-then-contains c =
    let fs = c.args.fields.now in
    let i = c.loop-place.place in
    let f = c.index-fields-place.result in
    let some = c.loop-place-test.true in
    let few = c.loop-place.invariant.0 in
    let within : i - 1 < length fs = omega (arith, some, few) in
    let back : (i - 1) + 1 ≡ i = omega (arith, some) in
    let at : drop (i - 1) fs ≡ f ∷ drop i fs = next fs (i - 1) f within c.index-fields-place.is ∙ ap (λ k. f ∷ drop k fs) back in
    let there = sym (rw c.deref.ensures.value at c.contains.ensures) ∙ c.if-contains.true in
    let there₁ : is_in f.name.items c.loop-place.behind ≡ true = subst (λ (y : Field). is_in y.name.items c.loop-place.behind ≡ true) (sym c.index-fields-place.is) there in
    sym (names_same fs (i - 1) i f c.loop-place.behind at c.loop-place.invariant.1 there₁)

pub loop-place-preserved : goal.loop-place-preserved
loop-place-preserved c =
    let fs = c.args.fields.now in
    let i = c.loop-place.place in
    let f = c.index-fields-place.result in
    let some = c.loop-place-test.true in
    let few = c.loop-place.invariant.0 in
    let within : i - 1 < length fs = omega (arith, some, few) in
    let back : (i - 1) + 1 ≡ i = omega (arith, some) in
    let at : drop (i - 1) fs ≡ f ∷ drop i fs = next fs (i - 1) f within c.index-fields-place.is ∙ ap (λ k. f ∷ drop k fs) back in
    let absent = sym (rw c.deref.ensures.value at c.contains.ensures) ∙ c.if-contains.false in
    let absent₁ : is_in f.name.items c.loop-place.behind ≡ false = subst (λ (y : Field). is_in y.name.items c.loop-place.behind ≡ false) (sym c.index-fields-place.is) absent in
    let least : i - 1 ≤ length fs = omega (arith, few) in
    let pushed = rw c.deref-in-loop-place.ensures.value at c.in_ok-push.ensures.pushed in
    let pushed₁ : c.push.new.self ≡ c.loop-place.behind ++ f.name.items ∷ [] = subst (λ (y : Field). c.push.new.self ≡ c.loop-place.behind ++ y.name.items ∷ []) (sym c.index-fields-place.is) pushed in
    (least, rw pushed₁ (names_more fs (i - 1) i f c.loop-place.behind at c.loop-place.invariant.1 absent₁))
