-- Words of tokens side by side, and what is printed as words of tokens that derive the same again.
use Rattle.std.proofs.Common.{◌≡◌, ℕ, zero, suc, List, [], ◌∷◌, ◌++◌}
use Rattle.im_word.specs.Words.{Word, mark}
use Rattle.im_tok.specs.declared.punctuator.Punctuator.TheVariants.{CloseParen}
use Rattle.im_print_relation.specs.Fit.{IsFit, AreFit}
use Rattle.im_print_relation.specs.Printed.{stars, consts, in_parentheses}

pub fit_append : (u v : List Word) → AreFit u → AreFit v → AreFit (u ++ v)
fit_append [] v a b = b
fit_append (x ∷ u) v a b = (a.0, fit_append u v a.1 b)

pub fit_left : (u v : List Word) → AreFit (u ++ v) → AreFit u
fit_left [] v a = tt
fit_left (x ∷ u) v a = (a.0, fit_left u v a.1)

pub fit_right : (u v : List Word) → AreFit (u ++ v) → AreFit v
fit_right [] v a = a
fit_right (x ∷ u) v a = fit_right u v a.1

-- what stands before the last word
pub fit_inner : (u : List Word) (x : Word) → AreFit (u ++ (x ∷ [])) → AreFit u
fit_inner u x a = fit_left u (x ∷ []) a

pub fit_closed : (u : List Word) (x : Word) → IsFit x → AreFit u → AreFit (u ++ (x ∷ []))
fit_closed u x is a = fit_append u (x ∷ []) a (is, tt)

pub fit_parentheses : (u : List Word) → AreFit u → AreFit (in_parentheses u)
fit_parentheses u a = (tt, fit_closed u (mark CloseParen) tt a)

pub fit_consts : (n : ℕ) → AreFit (consts n)
fit_consts zero = tt
fit_consts (suc n) = (tt, fit_consts n)

pub fit_stars : (ns : List ℕ) → AreFit (stars ns)
fit_stars [] = tt
fit_stars (n ∷ ns) = (tt, fit_append (consts n) (stars ns) (fit_consts n) (fit_stars ns))

-- The words u of what the tree a is are those of tokens, and wherever they begin they derive a tree that is the same without numbers.
pub record Printed {A : Type 0} (bare : A → A) (D : ℕ → A → List Word → Type 0) (a : A) (u : List Word) : Type 0 where
  pub fit : AreFit u
  pub derives : (q : ℕ) → (again : A) × (bare again ≡ bare a) × D q again u
