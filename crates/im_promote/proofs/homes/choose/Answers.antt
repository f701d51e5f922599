use Rattle.std.proofs.Common.{◌≡◌, ◌+◌, ◌%◌, ◌<◌, ◌++◌, ℕ, List, Option, [], ◌∷◌, Some, None, true, length, subst, sym, ap, ◌∙◌}
use Rattle.im_block.specs.declared.unit.Object.{Object}
use Rattle.im_promote.specs.Words.{has}
use Rattle.im_promote.specs.Homes.{MayBeRegister}
use Rattle.im_promote.proofs.Numbering.{ChosenTo, chosen_none, chosen_some, chosen_may}
use Rattle.im_promote.proofs.homes.choose.Goals as goal
use Rattle.im_promote.proofs.homes.choose.Goals.{then-may+then-is_scalar+then-next-lt4294967295+in_ok-push, else-may+in_ok-push-2}

pub loop-k-preserved : goal.loop-k-preserved
loop-k-preserved c =
    let l = c.loop-k in
    let f = c.args.function.now in
    let within : l.k < length f.objects.items = subst (λ (z : List Object). l.k < length z) c.deref-object-items.ensures.value c.loop-k-test.true in
    elim c.if-may.branch [
      | then-may+then-is_scalar+then-next-lt4294967295+in_ok-push w ↦ (
          let holds : has c.index.result.now (l.k % 32) ≡ true = sym c.contains-may.ensures ∙ w.if-may.true in
          let may : MayBeRegister f (f.first_object + l.k) = chosen_may f c.in_ok-words.words.items l.k c.index.result.now c.in_ok-words.ensures within c.index.ensures holds in
          let items : c.if-may.of.items ≡ l.of.items ++ Some l.next ∷ [] = ap (λ z. z.items) w.of-is ∙ w.in_ok-push.ensures.items in
          subst (λ (z : List (Option ℕ)). ChosenTo f (l.k + 1) z c.if-may.next) (sym items)
          (subst (λ (z : ℕ). ChosenTo f (l.k + 1) (l.of.items ++ Some l.next ∷ []) z) (sym w.next-is) (chosen_some f l.k l.of.items l.next may l.invariant))
          )
      | else-may+in_ok-push-2 w ↦ (
          let items : c.if-may.of.items ≡ l.of.items ++ None ∷ [] = ap (λ z. z.items) w.of-is ∙ w.in_ok-push-2.ensures.items in
          subst (λ (z : List (Option ℕ)). ChosenTo f (l.k + 1) z c.if-may.next) (sym items)
          (subst (λ (z : ℕ). ChosenTo f (l.k + 1) (l.of.items ++ None ∷ []) z) (sym w.next-is) (chosen_none f l.k l.of.items l.next l.invariant))
          )
    ]
