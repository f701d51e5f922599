-- Which registers live in placed code: homes of what lives in block code; behind a call only the result's.
use Rattle.std.proofs.Common.{◌≡◌, ◌≢◌, ℕ, zero, suc, ◌+◌, ◌<◌, ◌≤◌, ◌⊎◌, inl, inr, Bool, true, false, List, [], ◌∷◌, Some, None, refl, sym, ap, ◌∙◌, arith, eq-eqb}
use Rattle.std.specs.Prelude.{◌==◌, ◌&&◌, ◌||◌, not, nat_lt, nat_le}
use Rattle.std.proofs.lemmas.Bool.Decides.{nat_tests}
use Rattle.std.proofs.lemmas.Bool.{cases_lt}
use Rattle.im_num.specs.declared.values.Cause.TheVariants.{Return as ReturnCut}
use Rattle.im_serve.specs.declared.service.Service.{Service}
use Rattle.im_block.specs.declared.code.Place.{Place}
use Rattle.im_block.specs.declared.code.Place.TheVariants.{Static, Local, Through}
use Rattle.im_block.specs.declared.code.Line.{Line}
use Rattle.im_block.specs.declared.code.Line.TheVariants.{Put, PutNull, Copy, Convert, Unary, Not, Compute, Compare, Move, Distance, Address, Read, Write, Reload, Spill, Cut, Call, Serve}
use Rattle.im_block.specs.declared.code.Exit.{Exit}
use Rattle.im_block.specs.declared.code.Exit.TheVariants.{Jump, Turn, Branch, Return}
use Rattle.im_alloc_relation.specs.Homes.{Home, InRegister, InSlot, numbers_kept, load, reg, save, into, give, bring, load_place, put_line, put_lines, exit_lines, put_exit}
use Rattle.im_alloc_relation.specs.Live.{uses, sets, exit_lives, lives}
use Rattle.im_alloc_relation.specs.Placing.{Survives, ValidLine, Valid}
use Rattle.im_alloc_relation.specs.Settled.{SettlesCalls}

both : (a b : Bool) → (a && b) ≡ true → (a ≡ true) × (b ≡ true)
both true b h = (refl, h)
both false b h = absurd cc

both_are : (a b : Bool) → a ≡ true → b ≡ true → (a && b) ≡ true
both_are a b e f = ap (λ z. z && b) e ∙ f

either : (a b : Bool) → (a || b) ≡ true → (a ≡ true) ⊎ (b ≡ true)
either true b h = inl refl
either false b h = inr h

or_left : (a b : Bool) → a ≡ true → (a || b) ≡ true
or_left a b e = ap (λ z. z || b) e

or_right : (a b : Bool) → b ≡ true → (a || b) ≡ true
or_right true b e = refl
or_right false b e = e

not_true : (a : Bool) → not a ≡ true → a ≡ true → ⊥
not_true true h e = absurd cc
not_true false h e = absurd cc

is_not : (a : Bool) → (a ≡ true → ⊥) → not a ≡ true
is_not true h = absurd (h refl)
is_not false h = refl

same_of : (a b : ℕ) → (a == b) ≡ true → a ≡ b
same_of a b h = grind (arith, nat_tests)

same_is : (a b : ℕ) → a ≡ b → (a == b) ≡ true
same_is a b e = eq-eqb a b e

-- used, or it lives behind and isn't set
left_of : (a b c : Bool) → (a || (not b && c)) ≡ true → (a ≡ true) ⊎ ((not b ≡ true) × (c ≡ true))
left_of a b c w = elim (either a (not b && c) w) [ inl e ↦ inl e | inr e ↦ inr (both (not b) c e) ]

register_one : (q r : ℕ) → InRegister q ≡ InRegister r → q ≡ r
register_one q r e = cc

slot_other : (m r : ℕ) → InSlot m ≡ InRegister r → ⊥
slot_other m r e = cc

-- a register that is the home of what lives
abbrev pub Held : (ℕ → Home) → (ℕ → Bool) → ℕ → Type 0
Held h after r = (v : ℕ) × (after v ≡ true) × (h v ≡ InRegister r)

module _ (wanted : ℕ → ℕ → Bool) (h : ℕ → Home) (exit : Exit) where
  -- the register lives before these lines of placed code
  abbrev L : List Line → ℕ → Bool
  L lines r = lives wanted lines exit r

  abbrev W : List Line → ℕ → Type 0
  W lines r = L lines r ≡ true

  loaded : (X : Type 0) (home : Home) (s a : ℕ) (rest : List Line) (r : ℕ) → (W rest r → (r ≡ reg home s) ⊎ X) → W (load home s a rest) r → (home ≡ InRegister r) ⊎ X
  loaded X (InRegister q) s a rest r k w = elim (k w) [ inl e ↦ inl (ap InRegister (sym e)) | inr x ↦ inr x ]
  loaded X (InSlot m) s a rest r k w =
      let c = both (not (r == s)) (L rest r) w in
      elim (k c.1) [ inl e ↦ absurd (not_true (r == s) c.0 (same_is r s e)) | inr x ↦ inr x ]

  brought : (home : Home) (k a : ℕ) (rest : List Line) (r : ℕ) → W (into home k a rest) r → (home ≡ InRegister r) ⊎ ((r ≢ k) × W rest r)
  brought (InRegister q) k a rest r w = elim (left_of (r == q) (r == k) (L rest r) w) [
    | inl e ↦ inl (ap InRegister (sym (same_of r q e)))
    | inr c ↦ inr ((λ e. not_true (r == k) c.0 (same_is r k e)), c.1)
  ]
  brought (InSlot m) k a rest r w = let c = both (not (r == k)) (L rest r) w in inr ((λ e. not_true (r == k) c.0 (same_is r k e)), c.1)

  saved : (home : Home) (a : ℕ) (rest : List Line) (r : ℕ) → not (r == reg home 7) ≡ true → W (save home a rest) r → (home ≢ InRegister r) × W rest r
  saved (InRegister q) a rest r other w = ((λ e. not_true (r == q) other (same_is r q (sym (register_one q r e)))), w)
  saved (InSlot m) a rest r other w = elim (either (r == 7) (L rest r) w) [
    | inl e ↦ absurd (not_true (r == 7) other e)
    | inr c ↦ ((λ e. slot_other m r e), c)
  ]

  given : (home : Home) (a : ℕ) (rest : List Line) (r : ℕ) → W (give home a rest) r → (r ≡ 10) ⊎ ((home ≢ InRegister r) × W rest r)
  given (InRegister q) a rest r w = elim (left_of (r == 10) (r == q) (L rest r) w) [
    | inl e ↦ inl (same_of r 10 e)
    | inr c ↦ inr ((λ e. not_true (r == q) c.0 (same_is r q (sym (register_one q r e)))), c.1)
  ]
  given (InSlot m) a rest r w = elim (either (r == 10) (L rest r) w) [
    | inl e ↦ inl (same_of r 10 e)
    | inr c ↦ inr ((λ e. slot_other m r e), c)
  ]

  -- what lives before a line that sets `to`
  abbrev Before : (ℕ → Bool) → ℕ → (ℕ → Bool) → ℕ → Type 0
  Before used to after r = Held h (λ v. used v || (not (v == to) && after v)) r

  kept : (used : ℕ → Bool) (to : ℕ) (after : ℕ → Bool) (r : ℕ) → h to ≢ InRegister r → Held h after r → Before used to after r
  kept used to after r other k = (k.0, or_right (used k.0) (not (k.0 == to) && after k.0) (both_are (not (k.0 == to)) (after k.0) (is_not (k.0 == to) (λ e. other (ap h (sym (same_of k.0 to e)) ∙ k.2))) k.1), k.2)

  used_one : (used : ℕ → Bool) (to : ℕ) (after : ℕ → Bool) (r v : ℕ) → used v ≡ true → h v ≡ InRegister r → Before used to after r
  used_one used to after r v e at = (v, or_left (used v) (not (v == to) && after v) e, at)

  -- of what stands behind a line that works on registers
  abbrev Worked : Bool → ℕ → ℕ → List Line → ℕ → Bool
  Worked u to a rest r = u || (not (r == reg (h to) 7) && L (save (h to) a rest) r)

  abbrev Beyond : ℕ → List Line → ℕ → Type 0
  Beyond to rest r = (h to ≢ InRegister r) × W rest r

  worked : (u : Bool) (to a : ℕ) (rest : List Line) (r : ℕ) → Worked u to a rest r ≡ true → (u ≡ true) ⊎ Beyond to rest r
  worked u to a rest r w = elim (left_of u (r == reg (h to) 7) (L (save (h to) a rest) r) w) [ inl e ↦ inl e | inr c ↦ inr (saved (h to) a rest r c.0 c.1) ]

  none_lives : (to a : ℕ) (rest : List Line) (r : ℕ) (after : ℕ → Bool) → (W rest r → Held h after r) → Worked false to a rest r ≡ true → Before (λ v. false) to after r
  none_lives to a rest r after k w = elim (worked false to a rest r w) [ inl e ↦ absurd cc | inr c ↦ kept (λ v. false) to after r c.0 (k c.1) ]

  one_lives : (from to n : ℕ) (line : Line) (rest : List Line) (r : ℕ) (after : ℕ → Bool) → (W (line ∷ save (h to) (n + 2) rest) r → Worked (r == reg (h from) 7) to (n + 2) rest r ≡ true) → (W rest r → Held h after r) → W (load (h from) 7 n (line ∷ save (h to) (n + 2) rest)) r → Before (λ v. v == from) to after r
  one_lives from to n line rest r after is k w =
      let used : ℕ → Bool = λ v. v == from in
      elim (loaded (Beyond to rest r) (h from) 7 n (line ∷ save (h to) (n + 2) rest) r
      (λ z. elim (worked (r == reg (h from) 7) to (n + 2) rest r (is z)) [ inl e ↦ inl (same_of r (reg (h from) 7) e) | inr c ↦ inr c ])
      w) [
        | inl e ↦ used_one used to after r from (same_is from from refl) e
        | inr c ↦ kept used to after r c.0 (k c.1)
      ]

  -- two operands: the second in x8
  two_loaded : (X : Type 0) (left right n : ℕ) (line : Line) (rest : List Line) (r : ℕ) → (W (line ∷ rest) r → ((r == reg (h left) 7 || r == reg (h right) 8) ≡ true) ⊎ X) → W (load (h left) 7 n (load (h right) 8 (n + 1) (line ∷ rest))) r → (h left ≡ InRegister r) ⊎ ((h right ≡ InRegister r) ⊎ X)
  two_loaded X left right n line rest r k w =
      loaded ((h right ≡ InRegister r) ⊎ X) (h left) 7 n (load (h right) 8 (n + 1) (line ∷ rest)) r
      (λ z.
      elim (loaded ((r ≡ reg (h left) 7) ⊎ X) (h right) 8 (n + 1) (line ∷ rest) r
      (λ y.
      elim (k y) [
        | inl u ↦ elim (either (r == reg (h left) 7) (r == reg (h right) 8) u) [ inl a ↦ inr (inl (same_of r (reg (h left) 7) a)) | inr b ↦ inl (same_of r (reg (h right) 8) b) ]
        | inr x ↦ inr (inr x)
      ])
      z) [
        | inl e ↦ inr (inl e)
        | inr q ↦ elim q [ inl a ↦ inl a | inr x ↦ inr (inr x) ]
      ])
      w

  two_lives : (left right to n : ℕ) (line : Line) (rest : List Line) (r : ℕ) (after : ℕ → Bool) → (W (line ∷ save (h to) (n + 2) rest) r → Worked (r == reg (h left) 7 || r == reg (h right) 8) to (n + 2) rest r ≡ true) → (W rest r → Held h after r) → W (load (h left) 7 n (load (h right) 8 (n + 1) (line ∷ save (h to) (n + 2) rest))) r → Before (λ v. v == left || v == right) to after r
  two_lives left right to n line rest r after is k w =
      let used : ℕ → Bool = λ v. v == left || v == right in
      elim (two_loaded (Beyond to rest r) left right n line (save (h to) (n + 2) rest) r (λ z. worked (r == reg (h left) 7 || r == reg (h right) 8) to (n + 2) rest r (is z)) w) [
        | inl e ↦ used_one used to after r left (or_left (left == left) (left == right) (same_is left left refl)) e
        | inr q ↦ elim q [
          | inl e ↦ used_one used to after r right (or_right (right == left) (right == right) (same_is right right refl)) e
          | inr c ↦ kept used to after r c.0 (k c.1)
        ]
      ]

  -- a write sets nothing
  write_direct : (from n : ℕ) (line : Line) (rest : List Line) (r : ℕ) (after : ℕ → Bool) → (W (line ∷ rest) r → (r == reg (h from) 8 || L rest r) ≡ true) → (W rest r → Held h after r) → W (load (h from) 8 (n + 1) (line ∷ rest)) r → Held h (λ v. v == from || after v) r
  write_direct from n line rest r after is k w = elim (loaded (W rest r) (h from) 8 (n + 1) (line ∷ rest) r
      (λ z. elim (either (r == reg (h from) 8) (L rest r) (is z)) [ inl e ↦ inl (same_of r (reg (h from) 8) e) | inr c ↦ inr c ])
      w) [
        | inl e ↦ (from, or_left (from == from) (after from) (same_is from from refl), e)
        | inr c ↦ (let g = k c in (g.0, or_right (g.0 == from) (after g.0) g.1, g.2))
      ]

  write_behind : (pointer from n : ℕ) (line : Line) (rest : List Line) (r : ℕ) (after : ℕ → Bool) → (W (line ∷ rest) r → ((r == reg (h pointer) 7 || r == reg (h from) 8) || L rest r) ≡ true) → (W rest r → Held h after r) → W (load (h pointer) 7 n (load (h from) 8 (n + 1) (line ∷ rest))) r → Held h (λ v. (v == pointer || v == from) || after v) r
  write_behind pointer from n line rest r after is k w =
      elim (two_loaded (W rest r) pointer from n line rest r (λ z. either (r == reg (h pointer) 7 || r == reg (h from) 8) (L rest r) (is z)) w) [
        | inl e ↦ (pointer, or_left (pointer == pointer || pointer == from) (after pointer) (or_left (pointer == pointer) (pointer == from) (same_is pointer pointer refl)), e)
        | inr q ↦ elim q [
          | inl e ↦ (from, or_left (from == pointer || from == from) (after from) (or_right (from == pointer) (from == from) (same_is from from refl)), e)
          | inr c ↦ (let g = k c in (g.0, or_right (g.0 == pointer || g.0 == from) (after g.0) g.1, g.2))
        ]
      ]

  -- ---- calls

  behind_call : (to a : ℕ) (rest : List Line) (after : ℕ → Bool) (r : ℕ) → Survives h to after → (W rest r → Held h after r) → W (give (h to) a rest) r → r ≡ 10
  behind_call to a rest after r survives k w = elim (given (h to) a rest r w) [
    | inl e ↦ e
    | inr c ↦
        (let g = k c.1 in
        let s = survives g.0 g.1 (λ e. c.0 (ap h (sym e) ∙ g.2)) in
        absurd (slot_other s.0 r (sym s.1 ∙ g.2)))
  ]

  arguments : (k first count a : ℕ) (rest : List Line) (r : ℕ) → W (bring h k first count a rest) r → ((v : ℕ) × (first ≤ v) × (v < first + count) × (h v ≡ InRegister r)) ⊎ (W rest r × ((r < k) ⊎ (k + count ≤ r)))
  arguments k first zero a rest r w = inr (w, elim (cases_lt r k) [ inl l ↦ inl l | inr m ↦ inr (omega arith) ])
  arguments k first (suc count) a rest r w = elim (brought (h first) k a (bring h (k + 1) (first + 1) count (a + 1) rest) r w) [
    | inl e ↦ inl (first, omega arith, omega arith, e)
    | inr c ↦ elim (arguments (k + 1) (first + 1) count (a + 1) rest r c.1) [
      | inl g ↦ (let low = g.1 in let high = g.2 in inl (g.0, omega arith, omega arith, g.3))
      | inr d ↦ (let other = c.0 in inr (d.0, elim d.1 [ inl l ↦ inl (below r k l other) | inr m ↦ inr (omega arith) ]))
    ]
  ]
    where
      below : (r k : ℕ) → r < k + 1 → r ≢ k → r < k
      below r k l other = elim (cases_lt r k) [ inl y ↦ y | inr m ↦ absurd (other (omega arith)) ]

  call_lives : (to i first count n : ℕ) (rest : List Line) (after : ℕ → Bool) (r : ℕ) → Survives h to after → (W rest r → Held h after r) → W (put_line h n (Call to i first count) rest) r → Held h (λ v. (nat_le first v && nat_lt v (first + count)) || (not (v == to) && after v)) r
  call_lives to i first count n rest after r survives k w =
      elim (arguments 10 first count (n + 3) (Call 10 i 10 count ∷ Cut ReturnCut ∷ give (h to) (n + 2) rest) r w) [
        | inl g ↦
            (let low = g.1 in
            let high = g.2 in
            let a : nat_le first g.0 ≡ true = grind (arith, nat_tests) in
            let b : nat_lt g.0 (first + count) ≡ true = grind (arith, nat_tests) in
            (g.0, or_left (nat_le first g.0 && nat_lt g.0 (first + count)) (not (g.0 == to) && after g.0) (both_are (nat_le first g.0) (nat_lt g.0 (first + count)) a b), g.3))
        | inr d ↦ absurd (elim (left_of (nat_le 10 r && nat_lt r (10 + count)) (r == 10) (L (give (h to) (n + 2) rest) r) d.0) [
          | inl u ↦
              (let c = both (nat_le 10 r) (nat_lt r (10 + count)) u in
              let c0 = c.0 in
              let c1 = c.1 in
              let a : 10 ≤ r = grind (arith, nat_tests) in
              let b : r < 10 + count = grind (arith, nat_tests) in
              elim d.1 [ inl l ↦ omega arith | inr m ↦ omega arith ])
          | inr c ↦ not_true (r == 10) c.0 (same_is r 10 (behind_call to (n + 2) rest after r survives k c.1))
        ])
      ]

  get_lives : (service : Service) (to n : ℕ) (rest : List Line) (after : ℕ → Bool) (r : ℕ) → Survives h to after → (W rest r → Held h after r) → W (put_line h n (Serve to service None) rest) r → ⊥
  get_lives service to n rest after r survives k w =
      let c = both (not (r == 10)) (L (give (h to) (n + 2) rest) r) w in
      not_true (r == 10) c.0 (same_is r 10 (behind_call to (n + 2) rest after r survives k c.1))

  put_lives : (service : Service) (to from n : ℕ) (rest : List Line) (after : ℕ → Bool) (r : ℕ) → Survives h to after → (W rest r → Held h after r) → W (put_line h n (Serve to service (Some from)) rest) r → Before (λ v. v == from) to after r
  put_lives service to from n rest after r survives k w = elim (brought (h from) 10 n (Serve 10 service (Some 10) ∷ Cut ReturnCut ∷ give (h to) (n + 2) rest) r w) [
    | inl e ↦ used_one (λ v. v == from) to after r from (same_is from from refl) e
    | inr d ↦ absurd (elim (left_of (r == 10) (r == 10) (L (give (h to) (n + 2) rest) r) d.1) [
      | inl e ↦ d.0 (same_of r 10 e)
      | inr c ↦ d.0 (behind_call to (n + 2) rest after r survives k c.1)
    ])
  ]

  -- ---- a line, lines, an exit

  line_lives : (n : ℕ) (line : Line) (rest : List Line) (after : ℕ → Bool) (r : ℕ) → ValidLine h line after → (W rest r → Held h after r) → W (put_line h n line rest) r → Held h (λ v. uses line v || (not (sets line v) && after v)) r
  line_lives n (Put to z) rest after r valid k w = none_lives to (n + 2) rest r after k w
  line_lives n (PutNull to) rest after r valid k w = none_lives to (n + 2) rest r after k w
  line_lives n (Copy to from) rest after r valid k w = one_lives from to n (Copy (reg (h to) 7) (reg (h from) 7)) rest r after (λ z. z) k w
  line_lives n (Convert to kind from) rest after r valid k w = one_lives from to n (Convert (reg (h to) 7) kind (reg (h from) 7)) rest r after (λ z. z) k w
  line_lives n (Unary to op kind from) rest after r valid k w = one_lives from to n (Unary (reg (h to) 7) op kind (reg (h from) 7)) rest r after (λ z. z) k w
  line_lives n (Not to from) rest after r valid k w = one_lives from to n (Not (reg (h to) 7) (reg (h from) 7)) rest r after (λ z. z) k w
  line_lives n (Compute to op kind left right) rest after r valid k w = two_lives left right to n (Compute (reg (h to) 7) op kind (reg (h left) 7) (reg (h right) 8)) rest r after (λ z. z) k w
  line_lives n (Compare to op kind left right) rest after r valid k w = two_lives left right to n (Compare (reg (h to) 7) op kind (reg (h left) 7) (reg (h right) 8)) rest r after (λ z. z) k w
  line_lives n (Move to size back pointer by) rest after r valid k w = two_lives pointer by to n (Move (reg (h to) 7) size back (reg (h pointer) 7) (reg (h by) 8)) rest r after (λ z. z) k w
  line_lives n (Distance to size left right) rest after r valid k w = two_lives left right to n (Distance (reg (h to) 7) size (reg (h left) 7) (reg (h right) 8)) rest r after (λ z. z) k w
  line_lives n (Address to (Static object offset)) rest after r valid k w = none_lives to (n + 2) rest r after k w
  line_lives n (Address to (Local object offset)) rest after r valid k w = none_lives to (n + 2) rest r after k w
  line_lives n (Address to (Through pointer offset)) rest after r valid k w = one_lives pointer to n (Address (reg (h to) 7) (Through (reg (h pointer) 7) offset)) rest r after (λ z. z) k w
  line_lives n (Read to (Static object offset) kind access) rest after r valid k w = none_lives to (n + 2) rest r after k w
  line_lives n (Read to (Local object offset) kind access) rest after r valid k w = none_lives to (n + 2) rest r after k w
  line_lives n (Read to (Through pointer offset) kind access) rest after r valid k w = one_lives pointer to n (Read (reg (h to) 7) (Through (reg (h pointer) 7) offset) kind access) rest r after (λ z. z) k w
  line_lives n (Write (Static object offset) kind from access) rest after r valid k w = write_direct from n (Write (Static object offset) kind (reg (h from) 8) access) rest r after (λ z. z) k w
  line_lives n (Write (Local object offset) kind from access) rest after r valid k w = write_direct from n (Write (Local object offset) kind (reg (h from) 8) access) rest r after (λ z. z) k w
  line_lives n (Write (Through pointer offset) kind from access) rest after r valid k w = write_behind pointer from n (Write (Through (reg (h pointer) 7) offset) kind (reg (h from) 8) access) rest r after (λ z. z) k w
  line_lives n (Reload to slot access) rest after r valid k w = absurd valid
  line_lives n (Spill slot from access) rest after r valid k w = absurd valid
  line_lives n (Cut cause) rest after r valid k w = k w
  line_lives n (Call to i first count) rest after r valid k w = call_lives to i first count n rest after r valid.0 k w
  line_lives n (Serve to service None) rest after r valid k w = absurd (get_lives service to n rest after r valid k w)
  line_lives n (Serve to service (Some from)) rest after r valid k w = put_lives service to from n rest after r valid k w

  pub lines_live : (live : ℕ → ℕ → Bool) (old : Exit) (n : ℕ) (lines tail : List Line) → ((r : ℕ) → W tail r → Held h (exit_lives live old) r) → Valid h live lines old → (r : ℕ) → W (put_lines h n lines tail) r → Held h (lives live lines old) r
  lines_live live old n [] tail k valid r w = k r w
  lines_live live old n (line ∷ lines) tail k valid r w =
      line_lives n line (put_lines h (n + numbers_kept) lines tail) (lives live lines old) r valid.0 (lines_live live old (n + numbers_kept) lines tail k valid.1 r) w

  -- ---- nothing but x10 lives behind calls

  abbrev S : List Line → Type 0
  S lines = SettlesCalls wanted lines exit

  load_settles : (home : Home) (s a : ℕ) (rest : List Line) → S rest → S (load home s a rest)
  load_settles (InRegister r) s a rest q = q
  load_settles (InSlot m) s a rest q = ((λ c. absurd c), q)

  save_settles : (home : Home) (a : ℕ) (rest : List Line) → S rest → S (save home a rest)
  save_settles (InRegister r) a rest q = q
  save_settles (InSlot m) a rest q = ((λ c. absurd c), q)

  into_settles : (home : Home) (k a : ℕ) (rest : List Line) → S rest → S (into home k a rest)
  into_settles (InRegister r) k a rest q = ((λ c. absurd c), q)
  into_settles (InSlot m) k a rest q = ((λ c. absurd c), q)

  give_settles : (home : Home) (a : ℕ) (rest : List Line) → S rest → S (give home a rest)
  give_settles (InRegister r) a rest q = ((λ c. absurd c), q)
  give_settles (InSlot m) a rest q = ((λ c. absurd c), q)

  bring_settles : (k first count a : ℕ) (rest : List Line) → S rest → S (bring h k first count a rest)
  bring_settles k first zero a rest q = q
  bring_settles k first (suc count) a rest q = into_settles (h first) k a (bring h (k + 1) (first + 1) count (a + 1) rest) (bring_settles (k + 1) (first + 1) count (a + 1) rest q)

  place_settles : (place : Place) (a : ℕ) (rest : List Line) → S rest → S (load_place h place a rest)
  place_settles (Static object offset) a rest q = q
  place_settles (Local object offset) a rest q = q
  place_settles (Through pointer offset) a rest q = load_settles (h pointer) 7 a rest q

  two_settle : (left right : Home) (n : ℕ) (rest : List Line) → S rest → S (load left 7 n (load right 8 (n + 1) rest))
  two_settle left right n rest q = load_settles left 7 n (load right 8 (n + 1) rest) (load_settles right 8 (n + 1) rest q)

  line_settles : (n : ℕ) (line : Line) (rest : List Line) (after : ℕ → Bool) → ValidLine h line after → ((r : ℕ) → W rest r → Held h after r) → S rest → S (put_line h n line rest)
  line_settles n (Put to z) rest after valid k q = ((λ c. absurd c), save_settles (h to) (n + 2) rest q)
  line_settles n (PutNull to) rest after valid k q = ((λ c. absurd c), save_settles (h to) (n + 2) rest q)
  line_settles n (Copy to from) rest after valid k q = load_settles (h from) 7 n _ ((λ c. absurd c), save_settles (h to) (n + 2) rest q)
  line_settles n (Convert to kind from) rest after valid k q = load_settles (h from) 7 n _ ((λ c. absurd c), save_settles (h to) (n + 2) rest q)
  line_settles n (Unary to op kind from) rest after valid k q = load_settles (h from) 7 n _ ((λ c. absurd c), save_settles (h to) (n + 2) rest q)
  line_settles n (Not to from) rest after valid k q = load_settles (h from) 7 n _ ((λ c. absurd c), save_settles (h to) (n + 2) rest q)
  line_settles n (Compute to op kind left right) rest after valid k q = two_settle (h left) (h right) n _ ((λ c. absurd c), save_settles (h to) (n + 2) rest q)
  line_settles n (Compare to op kind left right) rest after valid k q = two_settle (h left) (h right) n _ ((λ c. absurd c), save_settles (h to) (n + 2) rest q)
  line_settles n (Move to size back pointer by) rest after valid k q = two_settle (h pointer) (h by) n _ ((λ c. absurd c), save_settles (h to) (n + 2) rest q)
  line_settles n (Distance to size left right) rest after valid k q = two_settle (h left) (h right) n _ ((λ c. absurd c), save_settles (h to) (n + 2) rest q)
  line_settles n (Address to place) rest after valid k q = place_settles place n _ ((λ c. absurd c), save_settles (h to) (n + 2) rest q)
  line_settles n (Read to place kind access) rest after valid k q = place_settles place n _ ((λ c. absurd c), save_settles (h to) (n + 2) rest q)
  line_settles n (Write place kind from access) rest after valid k q = place_settles place n _ (load_settles (h from) 8 (n + 1) _ ((λ c. absurd c), q))
  line_settles n (Reload to slot access) rest after valid k q = absurd valid
  line_settles n (Spill slot from access) rest after valid k q = absurd valid
  line_settles n (Cut cause) rest after valid k q = ((λ c. absurd c), q)
  line_settles n (Call to i first count) rest after valid k q =
      bring_settles 10 first count (n + 3) _
      ((λ c r w. behind_call to (n + 2) rest after r valid.0 (k r) w), ((λ c. absurd c), give_settles (h to) (n + 2) rest q))
  line_settles n (Serve to service None) rest after valid k q = ((λ c r w. behind_call to (n + 2) rest after r valid (k r) w), ((λ c. absurd c), give_settles (h to) (n + 2) rest q))
  line_settles n (Serve to service (Some from)) rest after valid k q =
      into_settles (h from) 10 n _ ((λ c r w. behind_call to (n + 2) rest after r valid (k r) w), ((λ c. absurd c), give_settles (h to) (n + 2) rest q))

  pub lines_settle : (live : ℕ → ℕ → Bool) (old : Exit) (n : ℕ) (lines tail : List Line) → ((r : ℕ) → W tail r → Held h (exit_lives live old) r) → S tail → Valid h live lines old → S (put_lines h n lines tail)
  lines_settle live old n [] tail k q valid = q
  lines_settle live old n (line ∷ lines) tail k q valid =
      line_settles n line (put_lines h (n + numbers_kept) lines tail) (lives live lines old) valid.0 (lines_live live old (n + numbers_kept) lines tail k valid.1) (lines_settle live old (n + numbers_kept) lines tail k q valid.1)

-- what an exit brings

pub exit_held : (wanted live : ℕ → ℕ → Bool) (h : ℕ → Home) (n : ℕ) (exit : Exit) → ((b r : ℕ) → wanted b r ≡ true → Held h (live b) r) → (r : ℕ) → lives wanted (exit_lines h n exit) (put_exit h exit) r ≡ true → Held h (exit_lives live exit) r
exit_held wanted live h n (Jump b) holds r w = holds b r w
exit_held wanted live h n (Turn b) holds r w = holds b r w
exit_held wanted live h n (Branch on a b) holds r w =
    elim (loaded wanted h (Branch (reg (h on) 7) a b) ((wanted a r ≡ true) ⊎ (wanted b r ≡ true)) (h on) 7 n [] r
    (λ z.
    elim (either (r == reg (h on) 7 || wanted a r) (wanted b r) z) [
      | inl y ↦ elim (either (r == reg (h on) 7) (wanted a r) y) [ inl e ↦ inl (same_of r (reg (h on) 7) e) | inr e ↦ inr (inl e) ]
      | inr e ↦ inr (inr e)
    ])
    w) [
      | inl e ↦ (on, or_left (on == on || live a on) (live b on) (or_left (on == on) (live a on) (same_is on on refl)), e)
      | inr q ↦ elim q [
        | inl e ↦ (let g = holds a r e in (g.0, or_left (g.0 == on || live a g.0) (live b g.0) (or_right (g.0 == on) (live a g.0) g.1), g.2))
        | inr e ↦ (let g = holds b r e in (g.0, or_right (g.0 == on || live a g.0) (live b g.0) g.1, g.2))
      ]
    ]
exit_held wanted live h n (Return None) holds r w = absurd cc
exit_held wanted live h n (Return (Some x)) holds r w = elim (brought wanted h (Return (Some 10)) (h x) 10 n [] r w) [
  | inl e ↦ (x, same_is x x refl, e)
  | inr c ↦ absurd (c.0 (same_of r 10 c.1))
]

pub exit_settles : (wanted : ℕ → ℕ → Bool) (h : ℕ → Home) (n : ℕ) (exit : Exit) → SettlesCalls wanted (exit_lines h n exit) (put_exit h exit)
exit_settles wanted h n (Jump b) = tt
exit_settles wanted h n (Turn b) = tt
exit_settles wanted h n (Branch on a b) = load_settles wanted h (Branch (reg (h on) 7) a b) (h on) 7 n [] tt
exit_settles wanted h n (Return None) = tt
exit_settles wanted h n (Return (Some x)) = into_settles wanted h (Return (Some 10)) (h x) 10 n [] tt
