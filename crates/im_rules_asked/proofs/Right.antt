-- What is right has no fault; and rightness as a fact that is taken apart and made by its parts.
use Rattle.std.proofs.Common.{◌≡◌, ◌∙◌, inl, inr, ℕ, [], ◌∷◌, List, subst, sym, ap, refl, Bool, true, false, ◌&&◌}
use Rattle.im_rules.specs.Demands.{Demand, Meets, Refuses}
use Rattle.im_rules_asked.specs.Asked.{Asked, node, sized, Parts, no_part, beside, behind, all_hold, is_right, are_right, HasFault, HasFaultIn, without_sizes, parts_without_sizes}

pub left : (a b : Bool) → (a && b) ≡ true → a ≡ true
left true b p = refl
left false b p = absurd (cc)

pub right : (a b : Bool) → (a && b) ≡ true → b ≡ true
right true b p = p
right false b p = absurd (cc)

pub joined : (a b : Bool) → a ≡ true → b ≡ true → (a && b) ≡ true
joined true b p q = q
joined false b p q = p

pub not_refused : (r : ℕ) (ds : List Demand) → all_hold ds ≡ true → Refuses r ds → ⊥
not_refused r [] h q = q
not_refused r (d ∷ ds) h (inl q) = cc (left d.holds (all_hold ds) h)
not_refused r (d ∷ ds) h (inr q) = not_refused r ds (right d.holds (all_hold ds) h) q

mutual
  pub right_has_no_fault : (a : Asked) (r k : ℕ) → is_right a ≡ true → HasFault r k a → ⊥
  right_has_no_fault (node t ds ps) r k h (inl q) = not_refused r ds (right (are_right ps) (all_hold ds) h) q.2
  right_has_no_fault (node t ds ps) r k h (inr q) = right_parts ps r k (left (are_right ps) (all_hold ds) h) q
  right_has_no_fault (sized ns) r k h q = q

  pub right_parts : (ps : Parts) (r k : ℕ) → are_right ps ≡ true → HasFaultIn r k ps → ⊥
  right_parts no_part r k h q = q
  right_parts (beside ps a) r k h (inl q) = right_parts ps r k (left (are_right ps) (is_right a) h) q
  right_parts (beside ps a) r k h (inr q) = right_has_no_fault a r k (right (are_right ps) (is_right a) h) q
  right_parts (behind ps a) r k h (inl q) = right_parts ps r k (left (are_right ps) (is_right a) h) q
  right_parts (behind ps a) r k h (inr q) = right_has_no_fault a r k (right (are_right ps) (is_right a) h) q.1

pub met : (ds : List Demand) → all_hold ds ≡ true → Meets ds
met [] h = tt
met (d ∷ ds) h = (left d.holds (all_hold ds) h, met ds (right d.holds (all_hold ds) h))

pub all_met : (ds : List Demand) → Meets ds → all_hold ds ≡ true
all_met [] m = refl
all_met (d ∷ ds) m = joined d.holds (all_hold ds) m.0 (all_met ds m.1)

-- two kinds of facts, so that a tree of demands is told from the fact that it is right

pub data Right (a : Asked) : Type 0 where
  so : is_right a ≡ true → Right a

pub data RightParts (ps : Parts) : Type 0 where
  all_so : are_right ps ≡ true → RightParts ps

pub of_right : {a : Asked} → Right a → is_right a ≡ true
of_right (so h) = h

pub own : {k : ℕ} {ds : List Demand} {ps : Parts} → Right (node k ds ps) → Meets ds
own {ds = ds} {ps = ps} (so h) = met ds (right (are_right ps) (all_hold ds) h)

pub within : {k : ℕ} {ds : List Demand} {ps : Parts} → Right (node k ds ps) → RightParts ps
within {ds = ds} {ps = ps} (so h) = all_so (left (are_right ps) (all_hold ds) h)

pub beside_last : {ps : Parts} {a : Asked} → RightParts (beside ps a) → Right a
beside_last {ps = ps} {a = a} (all_so h) = so (right (are_right ps) (is_right a) h)

pub beside_rest : {ps : Parts} {a : Asked} → RightParts (beside ps a) → RightParts ps
beside_rest {ps = ps} {a = a} (all_so h) = all_so (left (are_right ps) (is_right a) h)

pub behind_last : {ps : Parts} {a : Asked} → RightParts (behind ps a) → Right a
behind_last {ps = ps} {a = a} (all_so h) = so (right (are_right ps) (is_right a) h)

pub behind_rest : {ps : Parts} {a : Asked} → RightParts (behind ps a) → RightParts ps
behind_rest {ps = ps} {a = a} (all_so h) = all_so (left (are_right ps) (is_right a) h)

-- made by its parts

pub of_node : {k : ℕ} {ds : List Demand} {ps : Parts} → RightParts ps → Meets ds → Right (node k ds ps)
of_node {ds = ds} {ps = ps} (all_so h) m = so (joined (are_right ps) (all_hold ds) h (all_met ds m))

pub of_none : RightParts no_part
of_none = all_so refl

pub of_beside : {ps : Parts} {a : Asked} → RightParts ps → Right a → RightParts (beside ps a)
of_beside {ps = ps} {a = a} (all_so h) (so p) = all_so (joined (are_right ps) (is_right a) h p)

pub of_behind : {ps : Parts} {a : Asked} → RightParts ps → Right a → RightParts (behind ps a)
of_behind {ps = ps} {a = a} (all_so h) (so p) = all_so (joined (are_right ps) (is_right a) h p)

pub of_one : {a : Asked} → Right a → RightParts (beside no_part a)
of_one h = of_beside of_none h

pub of_both : {a b : Asked} → Right a → Right b → RightParts (beside (beside no_part a) b)
of_both h p = of_beside (of_one h) p

pub of_first : {a b : Asked} → Right a → Right b → RightParts (behind (beside no_part a) b)
of_first h p = of_behind (of_one h) p

pub of_sizes : {ns : List ℕ} → Right (sized ns)
of_sizes = so refl

-- without the sizes the same is asked

mutual
  same_right : (a : Asked) → is_right (without_sizes a) ≡ is_right a
  same_right (node k ds ps) = ap (λ h. h && all_hold ds) (same_parts_right ps)
  same_right (sized ns) = refl

  same_parts_right : (ps : Parts) → are_right (parts_without_sizes ps) ≡ are_right ps
  same_parts_right no_part = refl
  same_parts_right (beside ps a) = cc (same_parts_right ps, same_right a)
  same_parts_right (behind ps a) = cc (same_parts_right ps, same_right a)

pub of_same : {a : Asked} → Right a → Right (without_sizes a)
of_same {a = a} (so h) = so (same_right a ∙ h)

pub to_same : {a : Asked} → Right (without_sizes a) → Right a
to_same {a = a} (so h) = so (sym (same_right a) ∙ h)

-- what is asked of some things is asked of their equals
pub met_1 : {A : Type 0} {x y : A} (P : A → List Demand) → y ≡ x → Meets (P x) → Meets (P y)
met_1 P p m = subst (λ z. Meets (P z)) (sym p) m

pub met_2 : {A B : Type 0} {x y : A} {u v : B} (P : A → B → List Demand) → y ≡ x → v ≡ u → Meets (P x u) → Meets (P y v)
met_2 {x = x} {v = v} P p q m = met_1 (λ z. P z v) p (met_1 (λ z. P x z) q m)

pub met_3 : {A B C : Type 0} {x y : A} {u v : B} {i j : C} (P : A → B → C → List Demand) → y ≡ x → v ≡ u → j ≡ i → Meets (P x u i) → Meets (P y v j)
met_3 {x = x} {v = v} {j = j} P p q r m = met_1 (λ z. P z v j) p (met_2 (λ z k. P x z k) q r m)
