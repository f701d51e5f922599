-- What comes first in a tree of demands, a fault or a size over its limit, is there; a tree without either is right and within it.
use Rattle.std.proofs.Common.{◌≡◌, ◌⊎◌, inl, inr, ◌≤◌, ◌<◌, ℕ, List, Option, Some, None, refl, ap, subst, true, arith}
use Rattle.std.specs.List.{Contains}
use Rattle.im_rules.specs.Demands.{Demand}
use Rattle.im_rules_limits.specs.Limits.{size_limit}
use Rattle.im_rules_asked.specs.Asked.{Asked, node, sized, Parts, no_part, beside, behind, all_hold, is_right, are_right, HasFault, sizes, Fault, first_refused}
use Rattle.im_rules_asked.specs.Limits.{first_above, Stop, broken, large, stop_or, where_broken, where_large, first_stop, first_stop_in}
use Rattle.im_rules_asked.proofs.Right.{joined, right_has_no_fault, all_so}
use Rattle.im_rules_asked.proofs.FirstFaults.{none_refused, some_refused}
use Rattle.im_rules_asked.proofs.Above.{none_above, some_above}
use Rattle.im_rules_asked.proofs.Faults.{Finding, a_fault, a_size, Found, here_faulty, here_sized, in_parts, FoundIn, last_beside, rest_beside, last_behind, rest_behind, of_faulty, of_sized}
use Rattle.im_rules_asked.proofs.Finding.{found}

-- one or the other

neither : (a b : Option Stop) → stop_or a b ≡ None → (a ≡ None) × (b ≡ None)
neither None b p = (refl, p)
neither (Some s) b p = absurd (cc)

either_of : (a b : Option Stop) (s : Stop) → stop_or a b ≡ Some s → (a ≡ Some s) ⊎ ((a ≡ None) × (b ≡ Some s))
either_of None b s p = inr (refl, p)
either_of (Some r) b s p = inl p

no_fault_of : (f : Option Fault) → where_broken f ≡ None → f ≡ None
no_fault_of None p = refl
no_fault_of (Some f) p = absurd (cc)

no_size_of : (o : Option ℕ) → where_large o ≡ None → o ≡ None
no_size_of None p = refl
no_size_of (Some n) p = absurd (cc)

-- without a stop

mutual
  pub right_so : (a : Asked) → first_stop a ≡ None → is_right a ≡ true
  right_so (node k ds ps) p =
      let q = neither (first_stop_in ps) (where_broken (first_refused k ds)) p in
      joined (are_right ps) (all_hold ds) (right_parts_so ps q.0) (none_refused k ds (no_fault_of (first_refused k ds) q.1))
  right_so (sized ns) p = refl

  right_parts_so : (ps : Parts) → first_stop_in ps ≡ None → are_right ps ≡ true
  right_parts_so no_part p = refl
  right_parts_so (beside ps a) p =
      let q = neither (first_stop_in ps) (first_stop a) p in
      joined (are_right ps) (is_right a) (right_parts_so ps q.0) (right_so a q.1)
  right_parts_so (behind ps a) p =
      let q = neither (first_stop_in ps) (first_stop a) p in
      joined (are_right ps) (is_right a) (right_parts_so ps q.0) (right_so a q.1)

mutual
  small_so : {a : Asked} {n : ℕ} → first_stop a ≡ None → Found (a_size n) a → n ≤ size_limit
  small_so {n = n} p (here_sized {ns = ns} c) = none_above size_limit ns (no_size_of (first_above size_limit ns) p) n c
  small_so p (in_parts {t = k} {ds = ds} {ps = ps} h) =
      small_parts_so (neither (first_stop_in ps) (where_broken (first_refused k ds)) p).0 h

  small_parts_so : {ps : Parts} {n : ℕ} → first_stop_in ps ≡ None → FoundIn (a_size n) ps → n ≤ size_limit
  small_parts_so p (last_beside {ps = ps} {a = a} h) = small_so (neither (first_stop_in ps) (first_stop a) p).1 h
  small_parts_so p (rest_beside {ps = ps} {a = a} h) = small_parts_so (neither (first_stop_in ps) (first_stop a) p).0 h
  small_parts_so p (last_behind {ps = ps} {a = a} r h) = small_so (neither (first_stop_in ps) (first_stop a) p).1 h
  small_parts_so p (rest_behind {ps = ps} {a = a} h) = small_parts_so (neither (first_stop_in ps) (first_stop a) p).0 h

pub all_small : (a : Asked) → first_stop a ≡ None → (n : ℕ) → Contains (sizes a) n → n ≤ size_limit
all_small a p n c = small_so p (found a c)

-- a stop is found where it is told

abbrev finding : Stop → Finding
finding (broken f) = a_fault f.rule f.token
finding (large n) = a_size n

abbrev IsOver : Stop → Type 0
IsOver (broken f) = Unit {0}
IsOver (large n) = size_limit < n

-- where it is, and that a size is over the limit
abbrev Stops : Stop → Asked → Type 0
Stops s a = Found (finding s) a × IsOver s

abbrev StopsIn : Stop → Parts → Type 0
StopsIn s ps = FoundIn (finding s) ps × IsOver s

abbrev fault_in : Fault → Option Stop → Fault
fault_in d None = d
fault_in d (Some (broken f)) = f
fault_in d (Some (large n)) = d

abbrev size_in : Option Stop → ℕ
size_in None = 0
size_in (Some (broken f)) = 0
size_in (Some (large n)) = n

refused_stop : (k : ℕ) (ds : List Demand) (ps : Parts) (s : Stop) (o : Option Fault) → first_refused k ds ≡ o → are_right ps ≡ true
    → where_broken o ≡ Some s → Stops s (node k ds ps)
refused_stop k ds ps s None q h p = absurd (cc)
refused_stop k ds ps (broken f) (Some g) q h p =
    let r = some_refused k ds f (subst {A = Fault} (λ z. first_refused k ds ≡ Some z) (ap (fault_in g) p) q) in
    (subst (λ z. Found (a_fault f.rule z) (node k ds ps)) r.0 (here_faulty (all_so h) r.1), tt)
refused_stop k ds ps (large n) (Some g) q h p = absurd (cc)

sized_stop : (ns : List ℕ) (s : Stop) (o : Option ℕ) → first_above size_limit ns ≡ o → where_large o ≡ Some s → Stops s (sized ns)
sized_stop ns s None q p = absurd (cc)
sized_stop ns (broken f) (Some m) q p = absurd (cc)
sized_stop ns (large n) (Some m) q p =
    let r = some_above size_limit ns n (subst (λ z. first_above size_limit ns ≡ Some z) (ap size_in p) q) in
    (here_sized r.0, r.1)

node_stop : (k : ℕ) (ds : List Demand) (ps : Parts) (s : Stop)
    → (first_stop_in ps ≡ Some s → StopsIn s ps)
    → (first_stop_in ps ≡ Some s) ⊎ ((first_stop_in ps ≡ None) × (where_broken (first_refused k ds) ≡ Some s))
    → Stops s (node k ds ps)
node_stop k ds ps s f (inl p) = let r = f p in (in_parts r.0, r.1)
node_stop k ds ps s f (inr p) = refused_stop k ds ps s (first_refused k ds) refl (right_parts_so ps p.0) p.1

beside_stop : (ps : Parts) (a : Asked) (s : Stop)
    → (first_stop_in ps ≡ Some s → StopsIn s ps)
    → (first_stop a ≡ Some s → Stops s a)
    → (first_stop_in ps ≡ Some s) ⊎ ((first_stop_in ps ≡ None) × (first_stop a ≡ Some s))
    → StopsIn s (beside ps a)
beside_stop ps a s f g (inl p) = let r = f p in (rest_beside r.0, r.1)
beside_stop ps a s f g (inr p) = let r = g p.1 in (last_beside r.0, r.1)

behind_stop : (ps : Parts) (a : Asked) (s : Stop)
    → (first_stop_in ps ≡ Some s → StopsIn s ps)
    → (first_stop a ≡ Some s → Stops s a)
    → (first_stop_in ps ≡ Some s) ⊎ ((first_stop_in ps ≡ None) × (first_stop a ≡ Some s))
    → StopsIn s (behind ps a)
behind_stop ps a s f g (inl p) = let r = f p in (rest_behind r.0, r.1)
behind_stop ps a s f g (inr p) = let r = g p.1 in (last_behind (all_so (right_parts_so ps p.0)) r.0, r.1)

mutual
  stop_is : (a : Asked) (s : Stop) → first_stop a ≡ Some s → Stops s a
  stop_is (node k ds ps) s p =
      node_stop k ds ps s (λ q. stop_in_is ps s q) (either_of (first_stop_in ps) (where_broken (first_refused k ds)) s p)
  stop_is (sized ns) s p = sized_stop ns s (first_above size_limit ns) refl p

  stop_in_is : (ps : Parts) (s : Stop) → first_stop_in ps ≡ Some s → StopsIn s ps
  stop_in_is no_part s p = absurd (cc)
  stop_in_is (beside ps a) s p =
      beside_stop ps a s (λ q. stop_in_is ps s q) (λ q. stop_is a s q) (either_of (first_stop_in ps) (first_stop a) s p)
  stop_in_is (behind ps a) s p =
      behind_stop ps a s (λ q. stop_in_is ps s q) (λ q. stop_is a s q) (either_of (first_stop_in ps) (first_stop a) s p)

pub broken_is : (a : Asked) (f : Fault) → first_stop a ≡ Some (broken f) → HasFault f.rule f.token a
broken_is a f p = of_faulty (stop_is a (broken f) p).0

pub large_is : (a : Asked) (n : ℕ) → first_stop a ≡ Some (large n) → Contains (sizes a) n × (size_limit < n)
large_is a n p = let r = stop_is a (large n) p in (of_sized r.0, r.1)

-- what is right and within the limit has no stop

none_if : (a : Asked) (o : Option Stop) → first_stop a ≡ o → is_right a ≡ true → ((n : ℕ) → Contains (sizes a) n → n ≤ size_limit) → o ≡ None
none_if a None p h w = refl
none_if a (Some (broken f)) p h w = absurd (right_has_no_fault a f.rule f.token h (broken_is a f p))
none_if a (Some (large n)) p h w =
    let q = large_is a n p in
    let few = w n q.0 in
    let many = q.1 in
    absurd (omega arith)

pub right_has_no_stop : (a : Asked) → is_right a ≡ true → ((n : ℕ) → Contains (sizes a) n → n ≤ size_limit) → first_stop a ≡ None
right_has_no_stop a h w = none_if a (first_stop a) refl h w
