use Rattle.std.proofs.Common.{◌≡◌, ℕ, ◌<◌, List, length, get_or, refl, subst, ⊎_elim, arith}
use Rattle.im_block.specs.Sections.{Has}
use Rattle.im_dep.proofs.Lists.{has_item, drop_one}
use Rattle.im_dep.proofs.pairs.is_among.Goals as goal

pub loop-other-preserved : goal.loop-other-preserved
loop-other-preserved c =
    let l = c.loop-other in
    let within : l.other-index < length c.args.objects.now = omega arith in
    λ h. ⊎_elim
    (λ (e : get_or c.args.objects.now l.other-index 0 ≡ c.args.object). absurd (c.if-other-object.false e))
    (λ t. t)
    (subst (λ (xs : List ℕ). Has xs c.args.object) (drop_one c.args.objects.now l.other-index 0 within) (l.invariant h))

pub returns-then-other-object : goal.returns-then-other-object
returns-then-other-object c =
    let l = c.loop-other in
    let within : l.other-index < length c.args.objects.now = omega arith in
    ((λ t. subst (λ (n : ℕ). Has c.args.objects.now n) c.if-other-object.true (has_item c.args.objects.now l.other-index 0 within)), (λ h. refl))
