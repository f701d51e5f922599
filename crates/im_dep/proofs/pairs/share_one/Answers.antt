use Rattle.std.proofs.Common.{◌≡◌, ℕ, ◌<◌, List, length, get_or, sym, ◌∙◌, refl, subst, ⊎_elim, arith, false, true}
use Rattle.im_block.specs.Sections.{Has}
use Rattle.im_dep.proofs.Lists.{has_item, drop_one}
use Rattle.im_dep.proofs.pairs.share_one.Goals as goal

not_told : false ≡ true → ⊥
not_told e = cc

pub loop-object-preserved : goal.loop-object-preserved
loop-object-preserved c =
    let l = c.loop-object in
    let within : l.object-index < length c.args.objects.now = omega arith in
    λ o h k. ⊎_elim
    (λ (e : get_or c.args.objects.now l.object-index 0 ≡ o). absurd (not_told (sym c.if-is_among.false ∙ c.is_among.ensures.1 (subst (λ (n : ℕ). Has c.args.others.now n) (sym e) k))))
    (λ t. t)
    (subst (λ (xs : List ℕ). Has xs o) (drop_one c.args.objects.now l.object-index 0 within) (l.invariant o h k))

pub returns-then-is_among : goal.returns-then-is_among
returns-then-is_among c =
    let l = c.loop-object in
    let within : l.object-index < length c.args.objects.now = omega arith in
    ((λ t. (get_or c.args.objects.now l.object-index 0, has_item c.args.objects.now l.object-index 0 within, c.is_among.ensures.0 c.if-is_among.true)), (λ h. refl))
