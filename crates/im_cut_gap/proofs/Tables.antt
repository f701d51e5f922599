-- The table of costs at the starts of blocks.
use Rattle.std.proofs.Common.{◌≡◌, ◌⊎◌, ℕ, zero, suc, ◌<◌, ◌≤◌, List, [], ◌∷◌, ◌++◌, length, get_or, Option, Some, None, refl, sym, ap, ◌∙◌, subst, inl, inr, ⊎_elim, arith}
use Rattle.std.specs.Prelude.{Bool, true, false, ◌==◌, ◌||◌, nat_le, if◌then◌else◌, slice_get, slice_set}
use Rattle.std.proofs.lemmas.Bool.{eqb-true, eq-eqb, leb-true, leb-false}
use Rattle.im_block.specs.declared.code.Exit.{Exit}
use Rattle.im_block.specs.declared.code.Exit.TheVariants.{Jump, Turn, Branch, Return}
use Rattle.im_block.specs.declared.code.Block.{Block}
use Rattle.im_cut_gap.specs.Starts.{Reaches, greater, leads_to, turns_to, is_turned, turn_cost, RaisedWhere, AreBlank, AreStarts}
use Rattle.im_cut_gap.proofs.Costs.{some_same, none_some}

clash : true ≡ false → ⊥
clash e = cc

pub or_cases : (x y : Bool) → (x || y) ≡ true → (x ≡ true) ⊎ (y ≡ true)
or_cases true y e = inl refl
or_cases false y e = inr e

or_first : (x y : Bool) → x ≡ true → (x || y) ≡ true
or_first true y e = refl
or_first false y e = cc

or_second : (x y : Bool) → y ≡ true → (x || y) ≡ true
or_second true y e = refl
or_second false y e = e

neither_first : (x y : Bool) → (x || y) ≡ false → x ≡ false
neither_first true y e = cc
neither_first false y e = refl

neither_second : (x y : Bool) → (x || y) ≡ false → y ≡ false
neither_second true y e = cc
neither_second false y e = e

pub eqb_not : (a b : ℕ) → (a ≡ b → ⊥) → (a == b) ≡ false
eqb_not a b n = by (a == b) refl
  where
    by : (t : Bool) → (a == b) ≡ t → t ≡ false
    by true e = absurd (n (eqb-true a b e))
    by false e = refl

-- ---- a place of a list that is set

pub get-set_other : {A : Type 0} (xs : List A) (i k : ℕ) (v d : A) → (k ≡ i → ⊥) → get_or (slice_set xs i v) k d ≡ get_or xs k d
get-set_other [] i k v d n = refl
get-set_other (x ∷ xs) zero zero v d n = absurd (n refl)
get-set_other (x ∷ xs) zero (suc k) v d n = refl
get-set_other (x ∷ xs) (suc i) zero v d n = refl
get-set_other (x ∷ xs) (suc i) (suc k) v d n = get-set_other xs i k v d (λ e. n (ap (λ (j : ℕ). suc j) e))

pub get-set_same : {A : Type 0} (xs : List A) (i : ℕ) (v d : A) → i < length xs → get_or (slice_set xs i v) i d ≡ v
get-set_same [] i v d lt = absurd (omega arith)
get-set_same (x ∷ xs) zero v d lt = refl
get-set_same (x ∷ xs) (suc i) v d lt = get-set_same xs i v d (omega arith)

pub set_count : {A : Type 0} (xs : List A) (i : ℕ) (v : A) → length (slice_set xs i v) ≡ length xs
set_count [] i v = refl
set_count (x ∷ xs) zero v = refl
set_count (x ∷ xs) (suc i) v = ap (λ (j : ℕ). suc j) (set_count xs i v)

pub slice-set_other : {A : Type 0} (xs : List A) (i k : ℕ) (v : A) → (k ≡ i → ⊥) → slice_get (slice_set xs i v) k ≡ slice_get xs k
slice-set_other [] i k v n = refl
slice-set_other (x ∷ xs) zero zero v n = absurd (n refl)
slice-set_other (x ∷ xs) zero (suc k) v n = refl
slice-set_other (x ∷ xs) (suc i) zero v n = refl
slice-set_other (x ∷ xs) (suc i) (suc k) v n = slice-set_other xs i k v (λ e. n (ap (λ (j : ℕ). suc j) e))

pub slice-set_same : {A : Type 0} (xs : List A) (i : ℕ) (v : A) → i < length xs → slice_get (slice_set xs i v) i ≡ Some v
slice-set_same [] i v lt = absurd (omega arith)
slice-set_same (x ∷ xs) zero v lt = refl
slice-set_same (x ∷ xs) (suc i) v lt = slice-set_same xs i v (omega arith)

pub any_default : {A : Type 0} (xs : List A) (i : ℕ) (c d : A) → i < length xs → get_or xs i c ≡ get_or xs i d
any_default [] i c d lt = absurd (omega arith)
any_default (x ∷ xs) zero c d lt = refl
any_default (x ∷ xs) (suc i) c d lt = any_default xs i c d (omega arith)

beyond : (xs : List (Option ℕ)) (i : ℕ) → length xs ≤ i → get_or xs i None ≡ None
beyond [] i le = refl
beyond (x ∷ xs) zero le = absurd (omega arith)
beyond (x ∷ xs) (suc i) le = beyond xs i (omega arith)

-- ---- the greater of two

pub greater_left : (n : ℕ) (a b : Option ℕ) → Reaches n a → Reaches n (greater a b)
greater_left n None b h = absurd h
greater_left n (Some i) None h = h
greater_left n (Some i) (Some j) h = by (nat_le i j) refl
  where
    by : (t : Bool) → nat_le i j ≡ t → Reaches n (if t then Some j else Some i)
    by true e = let le = leb-true i j e in omega arith
    by false e = h

pub greater_right : (n : ℕ) (a b : Option ℕ) → Reaches n b → Reaches n (greater a b)
greater_right n None b h = h
greater_right n (Some i) None h = absurd h
greater_right n (Some i) (Some j) h = by (nat_le i j) refl
  where
    by : (t : Bool) → nat_le i j ≡ t → Reaches n (if t then Some j else Some i)
    by true e = h
    by false e = let lt = leb-false i j e in omega arith

pub greater_from : (m : ℕ) (a b : Option ℕ) → greater a b ≡ Some m → (a ≡ Some m) ⊎ (b ≡ Some m)
greater_from m None b e = inr e
greater_from m (Some i) None e = inl e
greater_from m (Some i) (Some j) e = by (nat_le i j) e
  where
    by : (t : Bool) → (if t then Some j else Some i) ≡ Some m → (Some i ≡ Some m) ⊎ (Some j ≡ Some m)
    by true e = inr e
    by false e = inl e

-- ---- costs that are raised

pub raised_none : (test : ℕ → Bool) (cost : Option ℕ) (costs : List (Option ℕ)) → ((c : ℕ) → test c ≡ false) → RaisedWhere test cost costs costs
raised_none test cost costs none = record {
  len = refl;
  kept = λ c n h. h;
  on = λ c n e lt h. absurd (clash (sym e ∙ none c));
  from = λ c m e. inl e;
  same = λ c e. refl;
}

pub raised_like : (p q : ℕ → Bool) (cost : Option ℕ) (old new : List (Option ℕ)) → ((c : ℕ) → p c ≡ q c) → RaisedWhere p cost old new → RaisedWhere q cost old new
raised_like p q cost old new like h = record {
  len = h.len;
  kept = h.kept;
  on = λ c n e lt r. h.on c n (like c ∙ e) lt r;
  from = λ c m e. ⊎_elim (λ t. inl t) (λ (t : (p c ≡ true) × (cost ≡ Some m)). inr (sym (like c) ∙ t.0, t.1)) (h.from c m e);
  same = λ c e. h.same c (like c ∙ e);
}

pub raised_both : (p q : ℕ → Bool) (cost : Option ℕ) (old mid new : List (Option ℕ)) → RaisedWhere p cost old mid → RaisedWhere q cost mid new → RaisedWhere (λ c. p c || q c) cost old new
raised_both p q cost old mid new h k = record {
  len = k.len ∙ h.len;
  kept = λ c n r. k.kept c n (h.kept c n r);
  on = λ c n e lt r. ⊎_elim (λ t. k.kept c n (h.on c n t lt r)) (λ t. k.on c n t (subst (λ (l : ℕ). c < l) (sym h.len) lt) r) (or_cases (p c) (q c) e);
  from = λ c m e.
      ⊎_elim
      (λ t. ⊎_elim (λ u. inl u) (λ (u : (p c ≡ true) × (cost ≡ Some m)). inr (or_first (p c) (q c) u.0, u.1)) (h.from c m t))
      (λ (t : (q c ≡ true) × (cost ≡ Some m)). inr (or_second (p c) (q c) t.0, t.1))
      (k.from c m e);
  same = λ c e. k.same c (neither_second (p c) (q c) e) ∙ h.same c (neither_first (p c) (q c) e);
}

pub raised_out : (number : ℕ) (cost : Option ℕ) (costs : List (Option ℕ)) → length costs ≤ number → RaisedWhere (λ c. number == c) cost costs costs
raised_out number cost costs le = record {
  len = refl;
  kept = λ c n h. h;
  on = λ c n e lt h. (let same : number ≡ c = eqb-true number c e in absurd (out c same lt));
  from = λ c m e. inl e;
  same = λ c e. refl;
}
  where
    out : (c : ℕ) → number ≡ c → c < length costs → ⊥
    out c e lt = omega arith

pub raised_set : (number : ℕ) (cost here : Option ℕ) (costs : List (Option ℕ)) → number < length costs → here ≡ get_or costs number None → RaisedWhere (λ c. number == c) cost costs (slice_set costs number (greater here cost))
raised_set number cost here costs lt is = record {
  len = set_count costs number (greater here cost);
  kept = λ c n r. kept_at c n r (number == c) refl;
  on = λ c n e within r. (let same = eqb-true number c e in subst (λ (t : Option ℕ). Reaches n t) (sym (set_here c same)) (greater_right n here cost r));
  from = λ c m e. from_at c m e (number == c) refl;
  same = λ c e. get-set_other costs number c (greater here cost) None (other c e);
}
  where
    other : (c : ℕ) → (number == c) ≡ false → c ≡ number → ⊥
    other c e q = clash (sym (eq-eqb number c (sym q)) ∙ e)

    set_here : (c : ℕ) → number ≡ c → get_or (slice_set costs number (greater here cost)) c None ≡ greater here cost
    set_here c e = subst (λ (j : ℕ). get_or (slice_set costs number (greater here cost)) j None ≡ greater here cost) e (get-set_same costs number (greater here cost) None lt)

    was_here : (c : ℕ) → number ≡ c → get_or costs c None ≡ here
    was_here c e = ap (λ (j : ℕ). get_or costs j None) (sym e) ∙ sym is

    kept_at : (c n : ℕ) → Reaches n (get_or costs c None) → (b : Bool) → (number == c) ≡ b → Reaches n (get_or (slice_set costs number (greater here cost)) c None)
    kept_at c n r true e =
        let same = eqb-true number c e in
        subst (λ (t : Option ℕ). Reaches n t) (sym (set_here c same)) (greater_left n here cost (subst (λ (t : Option ℕ). Reaches n t) (was_here c same) r))
    kept_at c n r false e = subst (λ (t : Option ℕ). Reaches n t) (sym (get-set_other costs number c (greater here cost) None (other c e))) r

    from_at : (c m : ℕ) → get_or (slice_set costs number (greater here cost)) c None ≡ Some m → (b : Bool) → (number == c) ≡ b → (get_or costs c None ≡ Some m) ⊎ (((number == c) ≡ true) × (cost ≡ Some m))
    from_at c m e true q =
        let same = eqb-true number c q in
        ⊎_elim (λ t. inl (was_here c same ∙ t)) (λ t. inr (q, t)) (greater_from m here cost (sym (set_here c same) ∙ e))
    from_at c m e false q = inl (sym (get-set_other costs number c (greater here cost) None (other c q)) ∙ e)

-- ---- edges

pub raised_jump : (to : ℕ) (cost : Option ℕ) (old new : List (Option ℕ)) → RaisedWhere (λ c. to == c) cost old new → RaisedWhere (leads_to (Jump to)) cost old new
raised_jump to cost old new h = raised_like (λ c. to == c) (leads_to (Jump to)) cost old new (λ c. refl) h

pub raised_branch : (on x y : ℕ) (cost : Option ℕ) (old mid new : List (Option ℕ)) → RaisedWhere (λ c. x == c) cost old mid → RaisedWhere (λ c. y == c) cost mid new → RaisedWhere (leads_to (Branch on x y)) cost old new
raised_branch on x y cost old mid new h k = raised_like (λ c. (x == c) || (y == c)) (leads_to (Branch on x y)) cost old new (λ c. refl) (raised_both (λ c. x == c) (λ c. y == c) cost old mid new h k)

-- ---- loop edges

pub turned_more : (blocks : List Block) (x : Block) (c : ℕ) → is_turned (blocks ++ x ∷ []) c ≡ (is_turned blocks c || turns_to x.exit c)
turned_more [] x c = or_false (turns_to x.exit c)
  where
    or_false : (b : Bool) → (b || false) ≡ (false || b)
    or_false true = refl
    or_false false = refl
turned_more (y ∷ blocks) x c = ap (λ b. turns_to y.exit c || b) (turned_more blocks x c) ∙ assoc (turns_to y.exit c) (is_turned blocks c) (turns_to x.exit c)
  where
    assoc : (a b c : Bool) → (a || (b || c)) ≡ ((a || b) || c)
    assoc true b c = refl
    assoc false b c = refl

pub raised_turned : (blocks : List Block) (x : Block) (old mid new : List (Option ℕ)) → RaisedWhere (is_turned blocks) (Some turn_cost) old mid → RaisedWhere (turns_to x.exit) (Some turn_cost) mid new → RaisedWhere (is_turned (blocks ++ x ∷ [])) (Some turn_cost) old new
raised_turned blocks x old mid new h k =
    raised_like (λ c. is_turned blocks c || turns_to x.exit c) (is_turned (blocks ++ x ∷ [])) (Some turn_cost) old new (λ c. sym (turned_more blocks x c))
    (raised_both (is_turned blocks) (turns_to x.exit) (Some turn_cost) old mid new h k)

pub turned_at : (blocks : List Block) (c : ℕ) → is_turned blocks c ≡ true → (p : ℕ) × (block : Block) × (slice_get blocks p ≡ Some block) × (block.exit ≡ Turn c)
turned_at [] c e = cc
turned_at (x ∷ xs) c e =
    ⊎_elim
    (λ q. (0, x, refl, is_turn x.exit q))
    (λ q. (let k = turned_at xs c q in (suc k.0, k.1, k.2, k.3)))
    (or_cases (turns_to x.exit c) (is_turned xs c) e)
  where
    is_turn : (exit : Exit) → turns_to exit c ≡ true → exit ≡ Turn c
    is_turn (Jump z) q = cc
    is_turn (Turn z) q = ap (λ n. Turn n) (eqb-true z c q)
    is_turn (Branch on z w) q = cc
    is_turn (Return z) q = cc

pub turned : (blocks : List Block) (p c : ℕ) (block : Block) → slice_get blocks p ≡ Some block → block.exit ≡ Turn c → is_turned blocks c ≡ true
turned [] p c block at e = cc
turned (x ∷ xs) zero c block at e =
    let one : x ≡ block = some_same x block at in
    or_first (turns_to x.exit c) (is_turned xs c) (ap (λ t. turns_to t c) (ap (λ (z : Block). z.exit) one ∙ e) ∙ eq-eqb c c refl)
turned (x ∷ xs) (suc p) c block at e = or_second (turns_to x.exit c) (is_turned xs c) (turned xs p c block at e)

-- ---- before the sweep

pub blank_none : AreBlank []
blank_none = λ c. refl

pub blank_more : (costs : List (Option ℕ)) → AreBlank costs → AreBlank (costs ++ None ∷ [])
blank_more [] h zero = refl
blank_more [] h (suc c) = refl
blank_more (x ∷ costs) h zero = h zero
blank_more (x ∷ costs) h (suc c) = blank_more costs (λ k. h (suc k)) c

pub are_starts : (entry : ℕ) (blocks : List Block) (blank mid new : List (Option ℕ)) → AreBlank blank → RaisedWhere (λ c. entry == c) (Some 0) blank mid → RaisedWhere (is_turned blocks) (Some turn_cost) mid new → AreStarts entry blocks new
are_starts entry blocks blank mid new none h k = record {
  entered = λ lt. k.kept entry 0 (h.on entry 0 (eq-eqb entry entry refl) (subst (λ (l : ℕ). entry < l) (k.len ∙ h.len) lt) zero_up);
  turned = λ c e lt. k.on c turn_cost e (subst (λ (l : ℕ). c < l) k.len lt) two_up;
  from = λ c m e.
      ⊎_elim
      (λ t.
      ⊎_elim
      (λ u. absurd (none_some m (sym (none c) ∙ u)))
      (λ (u : ((entry == c) ≡ true) × (Some 0 ≡ Some m)). inl (sym (eqb-true entry c u.0), sym (some_same 0 m u.1)))
      (h.from c m t))
      (λ (t : (is_turned blocks c ≡ true) × (Some turn_cost ≡ Some m)). inr (t.0, sym (some_same turn_cost m t.1)))
      (k.from c m e);
}
  where
    zero_up : 0 ≤ 0
    zero_up = omega arith

    two_up : turn_cost ≤ turn_cost
    two_up = omega arith
