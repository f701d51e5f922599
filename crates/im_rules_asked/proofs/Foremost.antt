-- The first fault of a tree of demands, as a fact that tells what stands before it: all that is right.
use Rattle.std.proofs.Common.{◌≡◌, ◌⊎◌, inl, inr, ℕ, List, [], ◌∷◌, Some, None, refl, sym, subst, false}
use Rattle.im_rules.specs.Demands.{Demand, asks, Refuses}
use Rattle.im_rules_asked.specs.Asked.{Asked, node, sized, Parts, no_part, beside, behind, HasFault, HasFaultIn, Fault, first_refused, first_fault, first_in}
use Rattle.im_rules_asked.proofs.Right.{Right, so, RightParts, all_so, beside_last, beside_rest, behind_last, behind_rest, right_has_no_fault}
use Rattle.im_rules_asked.proofs.FirstFaults.{either_of, some_refused, without_faults}

mutual
  pub data Foremost : ℕ → ℕ → Asked → Type 0 where
    -- something that is asked of the node itself isn't so
    asked_here : {r k : ℕ} {ds : List Demand} {ps : Parts} → RightParts ps → Refuses r ds
        → Foremost r k (node k ds ps)
    asked_within : {r k t : ℕ} {ds : List Demand} {ps : Parts} → ForemostIn r k ps
        → Foremost r k (node t ds ps)

  pub data ForemostIn : ℕ → ℕ → Parts → Type 0 where
    last_beside : {r k : ℕ} {ps : Parts} {a : Asked} → RightParts ps → Foremost r k a
        → ForemostIn r k (beside ps a)
    rest_beside : {r k : ℕ} {ps : Parts} {a : Asked} → ForemostIn r k ps
        → ForemostIn r k (beside ps a)
    last_behind : {r k : ℕ} {ps : Parts} {a : Asked} → RightParts ps → Foremost r k a
        → ForemostIn r k (behind ps a)
    rest_behind : {r k : ℕ} {ps : Parts} {a : Asked} → ForemostIn r k ps
        → ForemostIn r k (behind ps a)

-- the first fault is so

here_first : (k : ℕ) (ds : List Demand) (ps : Parts) (f : Fault)
    → (first_in ps ≡ Some f → ForemostIn f.rule f.token ps)
    → (first_in ps ≡ Some f) ⊎ ((first_in ps ≡ None) × (first_refused k ds ≡ Some f))
    → Foremost f.rule f.token (node k ds ps)
here_first k ds ps f g (inl p) = asked_within (g p)
here_first k ds ps f g (inr p) =
    subst (λ z. Foremost f.rule z (node k ds ps)) (some_refused k ds f p.1).0
    (asked_here (all_so (without_faults ps p.0)) (some_refused k ds f p.1).1)

beside_first : (ps : Parts) (a : Asked) (f : Fault)
    → (first_in ps ≡ Some f → ForemostIn f.rule f.token ps)
    → (first_fault a ≡ Some f → Foremost f.rule f.token a)
    → (first_in ps ≡ Some f) ⊎ ((first_in ps ≡ None) × (first_fault a ≡ Some f))
    → ForemostIn f.rule f.token (beside ps a)
beside_first ps a f g h (inl p) = rest_beside (g p)
beside_first ps a f g h (inr p) = last_beside (all_so (without_faults ps p.0)) (h p.1)

behind_first : (ps : Parts) (a : Asked) (f : Fault)
    → (first_in ps ≡ Some f → ForemostIn f.rule f.token ps)
    → (first_fault a ≡ Some f → Foremost f.rule f.token a)
    → (first_in ps ≡ Some f) ⊎ ((first_in ps ≡ None) × (first_fault a ≡ Some f))
    → ForemostIn f.rule f.token (behind ps a)
behind_first ps a f g h (inl p) = rest_behind (g p)
behind_first ps a f g h (inr p) = last_behind (all_so (without_faults ps p.0)) (h p.1)

mutual
  pub foremost : (a : Asked) (f : Fault) → first_fault a ≡ Some f → Foremost f.rule f.token a
  foremost (node k ds ps) f p =
      here_first k ds ps f (λ q. foremost_in ps f q)
      (either_of (first_in ps) (first_refused k ds) f p)
  foremost (sized ns) f p = absurd (cc)

  foremost_in : (ps : Parts) (f : Fault) → first_in ps ≡ Some f → ForemostIn f.rule f.token ps
  foremost_in no_part f p = absurd (cc)
  foremost_in (beside ps a) f p =
      beside_first ps a f (λ q. foremost_in ps f q) (λ q. foremost a f q)
      (either_of (first_in ps) (first_fault a) f p)
  foremost_in (behind ps a) f p =
      behind_first ps a f (λ q. foremost_in ps f q) (λ q. foremost a f q)
      (either_of (first_in ps) (first_fault a) f p)

-- what is right has none

mutual
  a_fault : {r k : ℕ} {a : Asked} → Foremost r k a → HasFault r k a
  a_fault (asked_here (all_so h) q) = inl (refl, h, q)
  a_fault (asked_within h) = inr (a_fault_in h)

  a_fault_in : {r k : ℕ} {ps : Parts} → ForemostIn r k ps → HasFaultIn r k ps
  a_fault_in (last_beside p h) = inr (a_fault h)
  a_fault_in (rest_beside h) = inl (a_fault_in h)
  a_fault_in (last_behind (all_so p) h) = inr (p, a_fault h)
  a_fault_in (rest_behind h) = inl (a_fault_in h)

pub no_foremost : {r k : ℕ} {a : Asked} → Right a → Foremost r k a → ⊥
no_foremost {r = r} {k = k} {a = a} (so p) h = right_has_no_fault a r k p (a_fault h)

-- told apart: of a node that asks nothing, of sizes, of a node without parts

pub none_asked : {B : Type 0} {r k t : ℕ} → Foremost r k (node t [] no_part) → B
none_asked (asked_here p q) = absurd q
none_asked (asked_within h) = elim h [ ]

pub none_sized : {B : Type 0} {r k : ℕ} {ns : List ℕ} → Foremost r k (sized ns) → B
none_sized h = elim h [ ]

pub of_leaf : {r k t : ℕ} {ds : List Demand} → Foremost r k (node t ds no_part)
    → (t ≡ k) × Refuses r ds
of_leaf (asked_here p q) = (refl, q)
of_leaf (asked_within h) = elim h [ ]

-- the only rule that is asked
pub only_rule : {r n : ℕ} → Refuses r (asks n false ∷ []) → r ≡ n
only_rule (inl p) = sym p.0
only_rule (inr q) = absurd q

-- of a node with one part, with two, with three

pub of_one : {B : Type 0} {r k t : ℕ} {ds : List Demand} {a : Asked}
    → Foremost r k (node t ds (beside no_part a))
    → (t ≡ k → Right a → Refuses r ds → B) → (Foremost r k a → B) → B
of_one (asked_here p q) f g = f refl (beside_last p) q
of_one (asked_within (last_beside p h)) f g = g h
of_one (asked_within (rest_beside h)) f g = elim h [ ]

pub of_two : {B : Type 0} {r k t : ℕ} {ds : List Demand} {a b : Asked}
    → Foremost r k (node t ds (beside (beside no_part a) b))
    → (t ≡ k → Right a → Right b → Refuses r ds → B)
    → (Foremost r k a → B) → (Right a → Foremost r k b → B) → B
of_two (asked_here p q) f g h = f refl (beside_last (beside_rest p)) (beside_last p) q
of_two (asked_within (last_beside p x)) f g h = h (beside_last p) x
of_two (asked_within (rest_beside (last_beside p x))) f g h = g x
of_two (asked_within (rest_beside (rest_beside x))) f g h = elim x [ ]

pub of_three : {B : Type 0} {r k t : ℕ} {ds : List Demand} {a b c : Asked}
    → Foremost r k (node t ds (beside (beside (beside no_part a) b) c))
    → (t ≡ k → Right a → Right b → Right c → Refuses r ds → B)
    → (Foremost r k a → B) → (Right a → Foremost r k b → B)
    → (Right a → Right b → Foremost r k c → B) → B
of_three (asked_here p q) f g h l =
    f refl (beside_last (beside_rest (beside_rest p))) (beside_last (beside_rest p)) (beside_last p) q
of_three (asked_within (last_beside p x)) f g h l = l (beside_last (beside_rest p)) (beside_last p) x
of_three (asked_within (rest_beside (last_beside p x))) f g h l = h (beside_last p) x
of_three (asked_within (rest_beside (rest_beside (last_beside p x)))) f g h l = g x
of_three (asked_within (rest_beside (rest_beside (rest_beside x)))) f g h l = elim x [ ]

-- of two of which the second stands behind the first
pub of_then : {B : Type 0} {r k t : ℕ} {ds : List Demand} {a b : Asked}
    → Foremost r k (node t ds (behind (beside no_part a) b))
    → (t ≡ k → Right a → Right b → Refuses r ds → B)
    → (Foremost r k a → B) → (Right a → Foremost r k b → B) → B
of_then (asked_here p q) f g h = f refl (beside_last (behind_rest p)) (behind_last p) q
of_then (asked_within (last_behind p x)) f g h = h (beside_last p) x
of_then (asked_within (rest_behind (last_beside p x))) f g h = g x
of_then (asked_within (rest_behind (rest_beside x))) f g h = elim x [ ]

-- where nothing is asked of the node itself

pub of_both : {B : Type 0} {r k t : ℕ} {a b : Asked}
    → Foremost r k (node t [] (beside (beside no_part a) b))
    → (Foremost r k a → B) → (Right a → Foremost r k b → B) → B
of_both h f g = of_two h (λ e p q x. absurd x) f g

pub of_each : {B : Type 0} {r k t : ℕ} {a b c : Asked}
    → Foremost r k (node t [] (beside (beside (beside no_part a) b) c))
    → (Foremost r k a → B) → (Right a → Foremost r k b → B)
    → (Right a → Right b → Foremost r k c → B) → B
of_each h f g l = of_three h (λ e p q s x. absurd x) f g l

pub of_first : {B : Type 0} {r k t : ℕ} {a b : Asked}
    → Foremost r k (node t [] (behind (beside no_part a) b))
    → (Foremost r k a → B) → (Right a → Foremost r k b → B) → B
of_first h f g = of_then h (λ e p q x. absurd x) f g

pub of_row : {B : Type 0} {r k t : ℕ} {a b c : Asked}
    → Foremost r k (node t [] (behind (behind (beside no_part a) b) c))
    → (Foremost r k a → B) → (Right a → Foremost r k b → B)
    → (Right a → Right b → Foremost r k c → B) → B
of_row (asked_here p q) f g l = absurd q
of_row (asked_within (last_behind p x)) f g l = l (beside_last (behind_rest p)) (behind_last p) x
of_row (asked_within (rest_behind (last_behind p x))) f g l = g (beside_last p) x
of_row (asked_within (rest_behind (rest_behind (last_beside p x)))) f g l = f x
of_row (asked_within (rest_behind (rest_behind (rest_beside x)))) f g l = elim x [ ]
