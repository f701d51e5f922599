-- Steps from a static: one more, and one less.
use Rattle.std.proofs.Common.{◌≡◌, ℕ, List, [], ◌∷◌, ◌++◌, Option, Some, refl, ap, ◌∙◌}
use Rattle.im_check_items.specs.im_rules.StaticValues as v
use Rattle.im_check_static_values.specs.declared.steps.Step.{Step}
use Rattle.im_check_static_values.specs.Spots.{stepped, bytes_of}

stepped_more : (size : ℕ → ℕ) (xs : List Step) (x : Step) (s : Option v.Spot) → stepped size (xs ++ x ∷ []) s ≡ stepped size xs (v.moved_spot size s (Some (bytes_of x)))
stepped_more size [] x s = refl
stepped_more size (y ∷ xs) x s = ap (λ o. v.moved_spot size o (Some (bytes_of y))) (stepped_more size xs x s)

pub one_more : (size : ℕ → ℕ) (xs now : List Step) (x : Step) (s : Option v.Spot) → now ≡ xs ++ x ∷ [] → stepped size now s ≡ stepped size xs (v.moved_spot size s (Some (bytes_of x)))
one_more size xs now x s is = ap (λ ys. stepped size ys s) is ∙ stepped_more size xs x s
