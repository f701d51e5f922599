-- The first fault of a tree of demands is one, and a tree without a first fault is right.
use Rattle.std.proofs.Common.{◌≡◌, inl, inr, ℕ, List, [], ◌∷◌, Option, Some, None, refl, ap, Bool, true, false, ◌&&◌}
use Rattle.std.specs.Prelude.{◌⊎◌, if◌then◌else◌}
use Rattle.im_rules.specs.Demands.{Demand, Refuses}
use Rattle.im_rules_asked.specs.Asked.{Asked, node, sized, Parts, no_part, beside, behind, all_hold, is_right, are_right, HasFault, HasFaultIn, Fault, fault, first_refused, or_else, first_fault, first_in}
use Rattle.im_rules_asked.proofs.Right.{joined, right_has_no_fault}

-- one of two or the other
none_left : (e f : Option Fault) → or_else e f ≡ None → e ≡ None
none_left None f p = refl
none_left (Some e) f p = absurd (cc)

none_right : (e f : Option Fault) → or_else e f ≡ None → f ≡ None
none_right None f p = p
none_right (Some e) f p = absurd (cc)

pub either_of : (e f : Option Fault) (g : Fault) → or_else e f ≡ Some g
    → (e ≡ Some g) ⊎ ((e ≡ None) × (f ≡ Some g))
either_of None f g p = inr (refl, p)
either_of (Some e) f g p = inl p

-- what is asked of a node itself

met_if : (h : Bool) (k r : ℕ) (ds : List Demand) → (first_refused k ds ≡ None → all_hold ds ≡ true)
    → (if h then first_refused k ds else Some (fault r k)) ≡ None → (h && all_hold ds) ≡ true
met_if true k r ds f p = f p
met_if false k r ds f p = absurd (cc)

pub none_refused : (k : ℕ) (ds : List Demand) → first_refused k ds ≡ None → all_hold ds ≡ true
none_refused k [] p = refl
none_refused k (d ∷ ds) p = met_if d.holds k d.rule ds (λ q. none_refused k ds q) p

abbrev rule_in : Option Fault → ℕ
rule_in None = 0
rule_in (Some f) = f.rule

abbrev token_in : Option Fault → ℕ
token_in None = 0
token_in (Some f) = f.token

refused_if : (h : Bool) (k r : ℕ) (ds : List Demand) (f : Fault)
    → (first_refused k ds ≡ Some f → (k ≡ f.token) × Refuses f.rule ds)
    → (if h then first_refused k ds else Some (fault r k)) ≡ Some f
    → (k ≡ f.token) × (((r ≡ f.rule) × (h ≡ false)) ⊎ Refuses f.rule ds)
refused_if true k r ds f g p = ((g p).0, inr (g p).1)
refused_if false k r ds f g p = (ap token_in p, inl (ap rule_in p, refl))

pub some_refused : (k : ℕ) (ds : List Demand) (f : Fault) → first_refused k ds ≡ Some f
    → (k ≡ f.token) × Refuses f.rule ds
some_refused k [] f p = absurd (cc)
some_refused k (d ∷ ds) f p = refused_if d.holds k d.rule ds f (λ q. some_refused k ds f q) p

-- trees

mutual
  pub without_fault : (a : Asked) → first_fault a ≡ None → is_right a ≡ true
  without_fault (node k ds ps) p =
      joined (are_right ps) (all_hold ds) (without_faults ps
      (none_left (first_in ps) (first_refused k ds) p))
      (none_refused k ds (none_right (first_in ps) (first_refused k ds) p))
  without_fault (sized ns) p = refl

  pub without_faults : (ps : Parts) → first_in ps ≡ None → are_right ps ≡ true
  without_faults no_part p = refl
  without_faults (beside ps a) p =
      joined (are_right ps) (is_right a) (without_faults ps
      (none_left (first_in ps) (first_fault a) p))
      (without_fault a (none_right (first_in ps) (first_fault a) p))
  without_faults (behind ps a) p =
      joined (are_right ps) (is_right a) (without_faults ps
      (none_left (first_in ps) (first_fault a) p))
      (without_fault a (none_right (first_in ps) (first_fault a) p))

node_fault : (k : ℕ) (ds : List Demand) (ps : Parts) (f : Fault)
    → (first_in ps ≡ Some f → HasFaultIn f.rule f.token ps)
    → (first_in ps ≡ Some f) ⊎ ((first_in ps ≡ None) × (first_refused k ds ≡ Some f))
    → HasFault f.rule f.token (node k ds ps)
node_fault k ds ps f g (inl p) = inr (g p)
node_fault k ds ps f g (inr p) =
    inl ((some_refused k ds f p.1).0, without_faults ps p.0, (some_refused k ds f p.1).1)

beside_fault : (ps : Parts) (a : Asked) (f : Fault)
    → (first_in ps ≡ Some f → HasFaultIn f.rule f.token ps)
    → (first_fault a ≡ Some f → HasFault f.rule f.token a)
    → (first_in ps ≡ Some f) ⊎ ((first_in ps ≡ None) × (first_fault a ≡ Some f))
    → HasFaultIn f.rule f.token (beside ps a)
beside_fault ps a f g h (inl p) = inl (g p)
beside_fault ps a f g h (inr p) = inr (h p.1)

behind_fault : (ps : Parts) (a : Asked) (f : Fault)
    → (first_in ps ≡ Some f → HasFaultIn f.rule f.token ps)
    → (first_fault a ≡ Some f → HasFault f.rule f.token a)
    → (first_in ps ≡ Some f) ⊎ ((first_in ps ≡ None) × (first_fault a ≡ Some f))
    → HasFaultIn f.rule f.token (behind ps a)
behind_fault ps a f g h (inl p) = inl (g p)
behind_fault ps a f g h (inr p) = inr (without_faults ps p.0, h p.1)

mutual
  pub first_is_one : (a : Asked) (f : Fault) → first_fault a ≡ Some f → HasFault f.rule f.token a
  first_is_one (node k ds ps) f p =
      node_fault k ds ps f (λ q. first_part_is_one ps f q)
      (either_of (first_in ps) (first_refused k ds) f p)
  first_is_one (sized ns) f p = absurd (cc)

  pub first_part_is_one : (ps : Parts) (f : Fault) → first_in ps ≡ Some f
      → HasFaultIn f.rule f.token ps
  first_part_is_one no_part f p = absurd (cc)
  first_part_is_one (beside ps a) f p =
      beside_fault ps a f (λ q. first_part_is_one ps f q) (λ q. first_is_one a f q)
      (either_of (first_in ps) (first_fault a) f p)
  first_part_is_one (behind ps a) f p =
      behind_fault ps a f (λ q. first_part_is_one ps f q) (λ q. first_is_one a f q)
      (either_of (first_in ps) (first_fault a) f p)

-- what is right has no first fault

no_fault : (a : Asked) (o : Option Fault) → first_fault a ≡ o → is_right a ≡ true → o ≡ None
no_fault a None p h = refl
no_fault a (Some f) p h = absurd (right_has_no_fault a f.rule f.token h (first_is_one a f p))

pub right_has_none : (a : Asked) → is_right a ≡ true → first_fault a ≡ None
right_has_none a h = no_fault a (first_fault a) refl h
