-- What is found in a tree of demands, as a fact that is made at a node and handed on from part to whole: a fault, or a size.
use Rattle.std.proofs.Common.{◌≡◌, inl, inr, ℕ, List, subst, sym, refl, Bool, true}
use Rattle.std.specs.List.{Contains}
use Rattle.std.proofs.lemmas.List.Elements.{Contains-append_left, Contains-append_right}
use Rattle.im_rules.specs.Demands.{Demand, Refuses}
use Rattle.im_rules_asked.specs.Asked.{Asked, node, sized, Parts, no_part, beside, behind, are_right, HasFault, HasFaultIn, where_right, sizes, sizes_in}
use Rattle.im_rules_asked.proofs.Right.{Right, RightParts, all_so, of_one}

pub data Finding : Type 0 where
  a_fault : (rule token : ℕ) → Finding
  a_size : ℕ → Finding

mutual
  pub data Found : Finding → Asked → Type 0 where
    -- something that is asked of the node itself isn't so
    here_faulty : {r k : ℕ} {ds : List Demand} {ps : Parts} → RightParts ps → Refuses r ds
        → Found (a_fault r k) (node k ds ps)
    here_sized : {n : ℕ} {ns : List ℕ} → Contains ns n → Found (a_size n) (sized ns)
    in_parts : {w : Finding} {t : ℕ} {ds : List Demand} {ps : Parts} → FoundIn w ps
        → Found w (node t ds ps)

  pub data FoundIn : Finding → Parts → Type 0 where
    last_beside : {w : Finding} {ps : Parts} {a : Asked} → Found w a → FoundIn w (beside ps a)
    rest_beside : {w : Finding} {ps : Parts} {a : Asked} → FoundIn w ps → FoundIn w (beside ps a)
    last_behind : {w : Finding} {ps : Parts} {a : Asked} → RightParts ps → Found w a
        → FoundIn w (behind ps a)
    rest_behind : {w : Finding} {ps : Parts} {a : Asked} → FoundIn w ps → FoundIn w (behind ps a)

-- a fault that is found is one

mutual
  pub of_faulty : {r k : ℕ} {a : Asked} → Found (a_fault r k) a → HasFault r k a
  of_faulty (here_faulty (all_so h) q) = inl (refl, h, q)
  of_faulty (in_parts h) = inr (of_faulty_in h)

  of_faulty_in : {r k : ℕ} {ps : Parts} → FoundIn (a_fault r k) ps → HasFaultIn r k ps
  of_faulty_in (last_beside h) = inr (of_faulty h)
  of_faulty_in (rest_beside h) = inl (of_faulty_in h)
  of_faulty_in (last_behind (all_so p) h) = inr (p, of_faulty h)
  of_faulty_in (rest_behind h) = inl (of_faulty_in h)

-- a size that is found counts

counts : {h : Bool} (ns : List ℕ) {n : ℕ} → h ≡ true → Contains ns n → Contains (where_right h ns) n
counts ns {n = n} p c = subst (λ z. Contains (where_right z ns) n) (sym p) c

mutual
  pub of_sized : {n : ℕ} {a : Asked} → Found (a_size n) a → Contains (sizes a) n
  of_sized (here_sized c) = c
  of_sized (in_parts h) = of_sized_in h

  of_sized_in : {n : ℕ} {ps : Parts} → FoundIn (a_size n) ps → Contains (sizes_in ps) n
  of_sized_in {n = n} (last_beside {ps = ps} {a = a} h) =
      Contains-append_right (sizes_in ps) (sizes a) n (of_sized h)
  of_sized_in {n = n} (rest_beside {ps = ps} {a = a} h) =
      Contains-append_left (sizes_in ps) (sizes a) n (of_sized_in h)
  of_sized_in {n = n} (last_behind {ps = ps} {a = a} (all_so p) h) =
      Contains-append_right (sizes_in ps) (where_right (are_right ps) (sizes a)) n
      (counts (sizes a) p (of_sized h))
  of_sized_in {n = n} (rest_behind {ps = ps} {a = a} h) =
      Contains-append_left (sizes_in ps) (where_right (are_right ps) (sizes a)) n (of_sized_in h)

-- in a node's only part, in either of two, in one of three
pub in_one : {w : Finding} {t : ℕ} {ds : List Demand} {a : Asked} → Found w a
    → Found w (node t ds (beside no_part a))
in_one h = in_parts (last_beside h)

pub in_first : {w : Finding} {t : ℕ} {ds : List Demand} {a b : Asked} → Found w a
    → Found w (node t ds (beside (beside no_part a) b))
in_first h = in_parts (rest_beside (last_beside h))

pub in_second : {w : Finding} {t : ℕ} {ds : List Demand} {ps : Parts} {b : Asked} → Found w b
    → Found w (node t ds (beside ps b))
in_second h = in_parts (last_beside h)

pub in_first_of_three : {w : Finding} {t : ℕ} {ds : List Demand} {a b c : Asked} → Found w a
    → Found w (node t ds (beside (beside (beside no_part a) b) c))
in_first_of_three h = in_parts (rest_beside (rest_beside (last_beside h)))

pub in_second_of_three : {w : Finding} {t : ℕ} {ds : List Demand} {ps : Parts} {b c : Asked}
    → Found w b → Found w (node t ds (beside (beside ps b) c))
in_second_of_three h = in_parts (rest_beside (last_beside h))

-- and in two of which the second stands behind the first
pub in_earlier : {w : Finding} {t : ℕ} {ds : List Demand} {a b : Asked} → Found w a
    → Found w (node t ds (behind (beside no_part a) b))
in_earlier h = in_parts (rest_behind (last_beside h))

pub in_later : {w : Finding} {t : ℕ} {ds : List Demand} {a b : Asked} → Right a → Found w b
    → Found w (node t ds (behind (beside no_part a) b))
in_later p h = in_parts (last_behind (of_one p) h)

-- what is refused of some things is refused of their equals
pub refused_1 : {A : Type 0} {x y : A} (r : ℕ) (P : A → List Demand) → y ≡ x → Refuses r (P x)
    → Refuses r (P y)
refused_1 r P p q = subst (λ z. Refuses r (P z)) (sym p) q

pub refused_2 : {A B : Type 0} {x y : A} {u v : B} (r : ℕ) (P : A → B → List Demand) → y ≡ x → v ≡ u
    → Refuses r (P x u) → Refuses r (P y v)
refused_2 {x = x} {v = v} r P p q h =
    subst (λ z. Refuses r (P z v)) (sym p) (subst (λ z. Refuses r (P x z)) (sym q) h)

pub refused_3 : {A B C : Type 0} {x y : A} {u v : B} {i j : C} (r : ℕ) (P : A → B → C → List Demand)
    → y ≡ x → v ≡ u → j ≡ i → Refuses r (P x u i) → Refuses r (P y v j)
refused_3 {x = x} {v = v} {j = j} r P p q s h =
    subst (λ z. Refuses r (P z v j)) (sym p) (refused_2 r (λ z w. P x z w) q s h)
