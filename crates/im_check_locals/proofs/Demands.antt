-- What is asked of an object, one after the other.
use Rattle.std.proofs.Common.{◌≡◌, ℕ, Bool, true, List, [], ◌∷◌, ◌++◌, Option, Some, None, inl, inr, refl, subst}
use Rattle.std.specs.Prelude.{is_some}
use Rattle.im_check_initialisers.specs.im_word.Words.{Name}
use Rattle.im_ctree.specs.Shape.{maybe_initializer_of}
use Rattle.im_ctree.specs.declared.declaration.Initializer.{Initializer}
use Rattle.im_check_initialisers.specs.im_ctype.Table.{structs_of}
use Rattle.im_check_initialisers.specs.im_ctype.Types.{CType}
use Rattle.im_rules.specs.Declared as d
use Rattle.im_rules.specs.Demands.{Demand, asks, Meets, Refuses}
use Rattle.im_rules.specs.Outline.{is_initialised}
use Rattle.im_rules.specs.Rules.{rule_5, rule_6_absent}
use Rattle.im_rules.specs.Statements.{name_of}
use Rattle.im_check_scopes.specs.Shape.{scopes_of}
use Rattle.im_check_stop.specs.declared.stop.Stop.{Stop}
use Rattle.im_check_stop.specs.declared.stop.Stop.TheVariants.{Rule, Large, Memory}
use Rattle.im_check_stop.specs.Answers.{IsRefusal}
use Rattle.im_check_place.specs.declared.place.Place.{Place}
use Rattle.im_check_locals.specs.Objects.{name_asks, object_asks}

pub initialised_so : (i : Option Initializer) → is_some i ≡ is_initialised (maybe_initializer_of i)
initialised_so None = refl
initialised_so (Some i) = refl

refused_before : (r : ℕ) (xs ys : List Demand) → Refuses r xs → Refuses r (xs ++ ys)
refused_before r [] ys h = absurd h
refused_before r (x ∷ xs) ys (inl h) = inl h
refused_before r (x ∷ xs) ys (inr h) = inr (refused_before r xs ys h)

refusal_before : (xs ys : List Demand) (at : ℕ) (f : Stop) → IsRefusal xs at f → IsRefusal (xs ++ ys) at f
refusal_before xs ys at (Rule rule token) h = (refused_before rule xs ys h.0, h.1)
refusal_before xs ys at (Large bytes) h = absurd h
refusal_before xs ys at Memory h = tt

pub name_refused : (p : Place) (n at : ℕ) (y : d.Declared) (a : CType) (initialised : Bool) (x : Name) (f : Stop)
    → x ≡ name_of y.name
    → IsRefusal (name_asks (scopes_of p.scope) n y.constant a x initialised) at f
    → IsRefusal (object_asks p n y a initialised) at f
name_refused p n at y a initialised x f e h =
    refusal_before (name_asks (scopes_of p.scope) n y.constant a (name_of y.name) initialised) (asks 6 (rule_6_absent y.type initialised) ∷ asks 5 (rule_5 (structs_of p.structs) a) ∷ []) at f
    (subst (λ z. IsRefusal (name_asks (scopes_of p.scope) n y.constant a z initialised) at f) e h)

pub object_met : (p : Place) (n : ℕ) (y : d.Declared) (a : CType) (initialised : Bool) (x : Name)
    → x ≡ name_of y.name
    → Meets (name_asks (scopes_of p.scope) n y.constant a x initialised)
    → rule_6_absent y.type initialised ≡ true
    → rule_5 (structs_of p.structs) a ≡ true
    → Meets (object_asks p n y a initialised)
object_met p n y a initialised x e m six five =
    let h : Meets (name_asks (scopes_of p.scope) n y.constant a (name_of y.name) initialised) = subst (λ z. Meets (name_asks (scopes_of p.scope) n y.constant a z initialised)) e m in
    (h.0, (h.1.0, (six, (five, tt))))
