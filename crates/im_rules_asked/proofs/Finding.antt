-- A size that counts is found at the node that has it; and where it is found is told apart.
use Rattle.std.proofs.Common.{◌≡◌, ◌⊎◌, inl, inr, ℕ, List, refl, Bool, true, false, arith}
use Rattle.std.specs.List.{Contains}
use Rattle.std.proofs.lemmas.List.Elements.{Contains-append_cases}
use Rattle.im_rules.specs.Demands.{Demand}
use Rattle.im_rules_asked.specs.Asked.{Asked, node, sized, Parts, no_part, beside, behind, are_right, where_right, sizes, sizes_in, without_sizes, parts_without_sizes}
use Rattle.im_rules_asked.proofs.Right.{Right, all_so, beside_last, behind_last, behind_rest}
use Rattle.im_rules_asked.proofs.Faults.{a_size, Found, here_sized, in_parts, FoundIn, last_beside, rest_beside, last_behind, rest_behind}

-- from the list

of_where : (h : Bool) (ns : List ℕ) {n : ℕ} → Contains (where_right h ns) n → (h ≡ true) × Contains ns n
of_where true ns c = (refl, c)
of_where false ns c = let below = c.1 in absurd (omega arith)

found_beside : (ps : Parts) (a : Asked) {n : ℕ}
    → (Contains (sizes_in ps) n → FoundIn (a_size n) ps)
    → (Contains (sizes a) n → Found (a_size n) a)
    → Contains (sizes_in ps) n ⊎ Contains (sizes a) n
    → FoundIn (a_size n) (beside ps a)
found_beside ps a f g (inl c) = rest_beside (f c)
found_beside ps a f g (inr c) = last_beside (g c)

found_behind : (ps : Parts) (a : Asked) {n : ℕ}
    → (Contains (sizes_in ps) n → FoundIn (a_size n) ps)
    → (Contains (sizes a) n → Found (a_size n) a)
    → Contains (sizes_in ps) n ⊎ Contains (where_right (are_right ps) (sizes a)) n
    → FoundIn (a_size n) (behind ps a)
found_behind ps a f g (inl c) = rest_behind (f c)
found_behind ps a f g (inr c) =
    let p = of_where (are_right ps) (sizes a) c in
    last_behind (all_so p.0) (g p.1)

mutual
  pub found : (a : Asked) {n : ℕ} → Contains (sizes a) n → Found (a_size n) a
  found (node k ds ps) c = in_parts (found_in ps c)
  found (sized ns) c = here_sized c

  found_in : (ps : Parts) {n : ℕ} → Contains (sizes_in ps) n → FoundIn (a_size n) ps
  found_in no_part c = let below = c.1 in absurd (omega arith)
  found_in (beside ps a) {n = n} c =
      found_beside ps a (λ d. found_in ps d) (λ d. found a d)
      (Contains-append_cases (sizes_in ps) (sizes a) n c)
  found_in (behind ps a) {n = n} c =
      found_behind ps a (λ d. found_in ps d) (λ d. found a d)
      (Contains-append_cases (sizes_in ps) (where_right (are_right ps) (sizes a)) n c)

-- where there is no size

pub nowhere : {B : Type 0} {n t : ℕ} {ds : List Demand} → Found (a_size n) (node t ds no_part) → B
nowhere (in_parts h) = elim h [ ]

mutual
  pub no_size : (a : Asked) {n : ℕ} → Found (a_size n) (without_sizes a) → ⊥
  no_size (node k ds ps) (in_parts h) = no_size_in ps h
  no_size (sized ns) (in_parts h) = elim h [ ]

  no_size_in : (ps : Parts) {n : ℕ} → FoundIn (a_size n) (parts_without_sizes ps) → ⊥
  no_size_in no_part h = elim h [ ]
  no_size_in (beside ps a) (last_beside h) = no_size a h
  no_size_in (beside ps a) (rest_beside h) = no_size_in ps h
  no_size_in (behind ps a) (last_behind p h) = no_size a h
  no_size_in (behind ps a) (rest_behind h) = no_size_in ps h

-- told apart

pub of_these : {n : ℕ} {ns : List ℕ} → Found (a_size n) (sized ns) → Contains ns n
of_these (here_sized c) = c

-- in a node's only part, in either of two, in one of three

pub found_one : {n t : ℕ} {ds : List Demand} {a : Asked} → Found (a_size n) (node t ds (beside no_part a)) → Found (a_size n) a
found_one (in_parts (last_beside h)) = h
found_one (in_parts (rest_beside h)) = elim h [ ]

pub found_both : {B : Type 0} {n t : ℕ} {ds : List Demand} {a b : Asked}
    → Found (a_size n) (node t ds (beside (beside no_part a) b))
    → (Found (a_size n) a → B) → (Found (a_size n) b → B) → B
found_both (in_parts (last_beside h)) f g = g h
found_both (in_parts (rest_beside (last_beside h))) f g = f h
found_both (in_parts (rest_beside (rest_beside h))) f g = elim h [ ]

pub found_three : {B : Type 0} {n t : ℕ} {ds : List Demand} {a b c : Asked}
    → Found (a_size n) (node t ds (beside (beside (beside no_part a) b) c))
    → (Found (a_size n) a → B) → (Found (a_size n) b → B) → (Found (a_size n) c → B) → B
found_three (in_parts (last_beside h)) f g k = k h
found_three (in_parts (rest_beside (last_beside h))) f g k = g h
found_three (in_parts (rest_beside (rest_beside (last_beside h)))) f g k = f h
found_three (in_parts (rest_beside (rest_beside (rest_beside h)))) f g k = elim h [ ]

-- in two of which the second stands behind the first, in three that stand so

pub found_then : {B : Type 0} {n t : ℕ} {ds : List Demand} {a b : Asked}
    → Found (a_size n) (node t ds (behind (beside no_part a) b))
    → (Found (a_size n) a → B) → (Right a → Found (a_size n) b → B) → B
found_then (in_parts (last_behind p h)) f g = g (beside_last p) h
found_then (in_parts (rest_behind (last_beside h))) f g = f h
found_then (in_parts (rest_behind (rest_beside h))) f g = elim h [ ]

pub found_then_then : {B : Type 0} {n t : ℕ} {ds : List Demand} {a b c : Asked}
    → Found (a_size n) (node t ds (behind (behind (beside no_part a) b) c))
    → (Found (a_size n) a → B) → (Right a → Found (a_size n) b → B)
    → (Right a → Right b → Found (a_size n) c → B) → B
found_then_then (in_parts (last_behind p h)) f g k = k (beside_last (behind_rest p)) (behind_last p) h
found_then_then (in_parts (rest_behind (last_behind p h))) f g k = g (beside_last p) h
found_then_then (in_parts (rest_behind (rest_behind (last_beside h)))) f g k = f h
found_then_then (in_parts (rest_behind (rest_behind (rest_beside h)))) f g k = elim h [ ]
