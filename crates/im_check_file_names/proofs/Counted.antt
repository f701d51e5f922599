-- Functions without parameters, and names that are the same.
use Rattle.std.proofs.Common.{◌≡◌, ℕ, Bool, true, false, List, [], ◌∷◌, length, nat_eq, ◌↔◌, IsTrue, refl, sym, subst, arith}
use Rattle.std.proofs.lemmas.Bool.{ne_eqb, false≢true}
use Rattle.im_ctype.specs.Types.{CType, function}
use Rattle.im_check_name_map.proofs.SameNames.{same-refl, same-equal}
use Rattle.im_check_declarators.specs.im_rules.Rules.{takes_nothing}
use Rattle.im_check_declarators.specs.im_rules.TypeTests.{same_name}
use Rattle.im_types.specs.declared.tree.Type as rust
use Rattle.im_types.specs.Shape.{types_in}

pub none_taken : (ps : List rust.Type) (r : CType) → nat_eq (length ps) 0 ≡ takes_nothing (function r (types_in ps))
none_taken [] r = refl
none_taken (p ∷ ps) r = ne_eqb (length (p ∷ ps)) 0 (λ e. omega arith)

unless_true : (b : Bool) → (b ≡ true → ⊥) → false ≡ b
unless_true true h = absurd (h refl)
unless_true false h = refl

pub told_same : (b : Bool) (x y : List ℕ) → (IsTrue b ↔ (x ≡ y)) → b ≡ same_name x y
told_same true x y h = sym (subst (λ z. same_name x z ≡ true) (h.0 refl) (same-refl x))
told_same false x y h = unless_true (same_name x y) (λ e. false≢true (h.1 (same-equal x y e)))
