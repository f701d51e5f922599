-- The code of an expression reads no register first; that which takes its value is written.
use Rattle.std.proofs.Common.{◌≡◌, ℕ, suc, ◌+◌, ◌<◌, ◌≤◌, ◌⊎◌, inl, inr, true, false, List, refl, sym, subst, arith}
use Rattle.std.specs.Prelude.{ℤ, pos, ◌&&◌, ◌==◌, nat_le, nat_lt, slice_get, Some, None}
use Rattle.std.proofs.lemmas.Bool.{and_parts, cases_Bool, eqb-false, ltb-true, leb-true}
use Rattle.im_num.specs.declared.kind.Kind.TheVariants.{Ptr}
use Rattle.im_typed.specs.declared.expression.Change.TheVariants.{Number as NumberBy, Move as PointerBy}
use Rattle.im_typed.specs.Program as p
use Rattle.im_typed.specs.Typing.{shape_of}
use Rattle.im_block.specs.declared.code.Place.{Place}
use Rattle.im_block.specs.declared.code.Place.TheVariants.{Static, Local, Through}
use Rattle.im_block.specs.declared.code.Line.TheVariants.{Put, PutNull, Convert, Unary, Not, Compute, Compare, Move, Distance, Address, Read, Call, Serve}
use Rattle.im_block.specs.declared.code.Exit.TheVariants.{Jump, Branch}
use Rattle.im_block.specs.declared.code.Block.{Block}
use Rattle.im_lower_relation.specs.Codes.{Point, before, ends, Begins, above, cells_of_shape, offset_in, count_of, where_of, CodesPlace, Codes, CodesArguments, CodesTest}
use Rattle.im_lower_laws.proofs.Ways.{Or, OrPlace, OrRow, unplaced, placed_once, named_once, nearer, Allows, weaker, step, without, sets_none, sets_one, sets_two, sets_placed, writes, groups_row, jump, branch}

row_bounds : (from count v : ℕ) → (nat_le from v && nat_lt v (from + count)) ≡ true → (from ≤ v) × (v < from + count)
row_bounds from count v e =
    let parts = and_parts (nat_le from v) (nat_lt v (from + count)) e in
    (leb-true from v parts.0, ltb-true v (from + count) parts.1)

other_way : (a b : ℕ) (P : ℕ → Type 0) (v : ℕ) → Or b (Or a P) v → Or a (Or b P) v
other_way a b P v (inl y) = inr (inl y)
other_way a b P v (inr (inl y)) = inl y
other_way a b P v (inr (inr q)) = inr (inr q)

no_row : (from : ℕ) (P : ℕ → Type 0) (v : ℕ) → OrRow from 0 P v → P v
no_row from P v (inl b) = (let one = b.0 in let two = b.1 in absurd (omega (arith, one, two)))
no_row from P v (inr q) = q

row_apart : (from count : ℕ) (P : ℕ → Type 0) (v : ℕ) → ((v == from) ≡ true) ⊎ ((v == from) ≡ false) → OrRow from (suc count) P v → OrRow (from + 1) count (Or from P) v
row_apart from count P v (inl y) q = inr (inl y)
row_apart from count P v (inr f) (inl b) =
    (let ne = eqb-false v from f in let one = b.0 in let two = b.1 in inl (omega (arith, one, ne), omega (arith, two)))
row_apart from count P v (inr f) (inr q) = inr (inr q)

module _ (g : p.Prog) (first : ℕ) (blocks : List Block) where
  -- the block of a truth value, which goes on at another
  truth_allows : (to j : ℕ) (z : ℤ) (t : Point) (n : ℕ) (P : ℕ → Type 0) → Begins blocks j t → Allows blocks n t (Or to P) → Allows blocks n (before (Put to z) (ends (Jump j))) P
  truth_allows to j z t n P begins h =
      sets_none blocks n (Put to z) to (ends (Jump j)) P (λ v. refl) (λ v. refl) (jump blocks n j t (Or to P) begins h)

  abbrev ValueAllows : p.Expr → Type 1
  ValueAllows e = (to free : ℕ) (s t : Point) (n : ℕ) (P : ℕ → Type 0) → Codes g first blocks e to free s t → Allows blocks n t (Or to P) → Allows blocks n s P

  mutual
    pub place_allows : (a : p.Place) (free : ℕ) (s m : Point) (n : ℕ) (P : ℕ → Type 0) → CodesPlace g first blocks a free s m → Allows blocks n m (OrPlace (where_of g first blocks a free) P) → Allows blocks n s P
    place_allows (p.Static x) free s m n P c h = subst (λ z. Allows blocks n z P) (sym c) (weaker blocks n m (OrPlace (Static x 0) P) P h (λ v q. unplaced P v q))
    place_allows (p.Local x) free s m n P c h = subst (λ z. Allows blocks n z P) (sym c) (weaker blocks n m (OrPlace (Local (first + x) 0) P) P h (λ v q. unplaced P v q))
    place_allows (p.Target e) free s m n P c h = allows e free (free + 1) s m n P c h
    place_allows (p.Member a d) free s m n P c h =
        place_allows a free s m n P c (weaker blocks n m _ _ h (λ v q. nearer (where_of g first blocks a free) d P v q))

    pub allows : (e : p.Expr) (to free : ℕ) (s t : Point) (n : ℕ) (P : ℕ → Type 0) → Codes g first blocks e to free s t → Allows blocks n t (Or to P) → Allows blocks n s P
    allows (p.Constant kind z) to free s t n P c h =
        subst (λ x. Allows blocks n x P) (sym c) (sets_none blocks n (Put to z) to t P (λ v. refl) (λ v. refl) h)
    allows (p.NullPointer kind) to free s t n P c h =
        subst (λ x. Allows blocks n x P) (sym c) (sets_none blocks n (PutNull to) to t P (λ v. refl) (λ v. refl) h)
    allows (p.Read (p.Scalar kind) a) to free s t n P c h =
        let w = where_of g first blocks a free in
        place_allows a free s _ n P c.1 (sets_placed blocks n (Read to w kind c.0) w to t P (λ v. refl) (λ v. refl) h)
    allows (p.Read (p.Struct count cells) a) to free s t n P c h =
        let w = where_of g first blocks a free in
        place_allows a free s _ n P c (sets_placed blocks n (Address to w) w to t P (λ v. refl) (λ v. refl) h)
    allows (p.Address a) to free s t n P c h =
        let w = where_of g first blocks a free in
        place_allows a free s _ n P c (sets_placed blocks n (Address to w) w to t P (λ v. refl) (λ v. refl) h)
    allows (p.Convert kind e) to free s t n P c h =
        allows e to free s _ n P c (sets_one blocks n (Convert to kind to) to to t P (λ v. refl) (λ v. refl) h)
    allows (p.Unary op kind e) to free s t n P c h =
        allows e free (free + 1) s _ n P c (sets_one blocks n (Unary to op kind free) free to t P (λ v. refl) (λ v. refl) h)
    allows (p.Binary op kind a b) to free s t n P c h =
        allows a free (free + 1) s c.0 n P c.1 (allows b (free + 1) (free + 2) c.0 _ n (Or free P) c.2
        (sets_two blocks n (Compute to op kind free (free + 1)) free (free + 1) to t P (λ v. refl) (λ v. refl) h))
    allows (p.Move size back a b) to free s t n P c h =
        allows a free (free + 1) s c.0 n P c.1 (allows b (free + 1) (free + 2) c.0 _ n (Or free P) c.2
        (sets_two blocks n (Move to size back free (free + 1)) free (free + 1) to t P (λ v. refl) (λ v. refl) h))
    allows (p.MoveBy size a b) to free s t n P c h =
        allows a free (free + 1) s c.0 n P c.1 (allows b (free + 1) (free + 2) c.0 _ n (Or free P) c.2
        (weaker blocks n _ _ _ (sets_two blocks n (Move to size false (free + 1) free) (free + 1) free to t P (λ v. refl) (λ v. refl) h)
        (λ v q. other_way (free + 1) free P v q)))
    allows (p.Distance size a b) to free s t n P c h =
        allows a free (free + 1) s c.0 n P c.1 (allows b (free + 1) (free + 2) c.0 _ n (Or free P) c.2
        (sets_two blocks n (Distance to size free (free + 1)) free (free + 1) to t P (λ v. refl) (λ v. refl) h))
    allows (p.Compare op kind a b) to free s t n P c h =
        allows a free (free + 1) s c.0 n P c.1 (allows b (free + 1) (free + 2) c.0 _ n (Or free P) c.2
        (sets_two blocks n (Compare to op kind free (free + 1)) free (free + 1) to t P (λ v. refl) (λ v. refl) h))
    allows (p.Not a) to free s t n P c h =
        allows a free (free + 1) s _ n P c (sets_one blocks n (Not to free) free to t P (λ v. refl) (λ v. refl) h)
    allows (p.And a b) to free s t n P c h =
        let one = truth_allows to c.0 (pos 1) t n P c.5 h in
        let none = truth_allows to c.0 (pos 0) t n P c.5 h in
        let holds = jump blocks n c.1 _ P c.6 one in
        let fails = jump blocks n c.2 _ P c.7 none in
        let more = test_by_allows b (λ to free s t n P c h. allows b to free s t n P c h) free c.1 c.2 c.4 n P c.10 holds fails in
        test_by_allows a (λ to free s t n P c h. allows a to free s t n P c h) free c.3 c.2 s n P c.9 (jump blocks n c.3 c.4 P c.8 more) fails
    allows (p.Or a b) to free s t n P c h =
        let one = truth_allows to c.0 (pos 1) t n P c.5 h in
        let none = truth_allows to c.0 (pos 0) t n P c.5 h in
        let holds = jump blocks n c.1 _ P c.6 one in
        let fails = jump blocks n c.2 _ P c.7 none in
        let more = test_by_allows b (λ to free s t n P c h. allows b to free s t n P c h) free c.1 c.2 c.4 n P c.10 holds fails in
        test_by_allows a (λ to free s t n P c h. allows a to free s t n P c h) free c.1 c.3 s n P c.9 holds (jump blocks n c.3 c.4 P c.8 more)
    allows (p.Choose q a b) to free s t n P c h =
        let j = c.0 in
        let joined : Allows blocks n (ends (Jump j)) (Or to P) = jump blocks n j t (Or to P) c.5 h in
        let one = allows a to free c.3 (ends (Jump j)) n P c.9 joined in
        let other = allows b to free c.4 (ends (Jump j)) n P c.10 joined in
        test_by_allows q (λ to free s t n P c h. allows q to free s t n P c h) free c.1 c.2 s n P c.8 (jump blocks n c.1 c.3 P c.6 one) (jump blocks n c.2 c.4 P c.7 other)
    allows (p.Comma a b) to free s t n P c h =
        allows a to free s c.0 n P c.1 (weaker blocks n c.0 P (Or to P) (allows b to free c.0 t n P c.2 h) (λ v q. inr q))
    allows (p.Discard a) to free s t n P c h = allows a to free s t n P c h
    allows (p.Assign (p.Scalar kind) a e) to free s t n P c h =
        let w = where_of g first blocks a free in
        let write = weaker blocks n _ _ (Or to (OrPlace w P)) (writes blocks n w kind to c.1 t (Or to P) h) (λ v q. named_once to w P v q) in
        place_allows a free s c.0 n P c.2 (allows e to (above a free) c.0 _ n (OrPlace w P) c.3 write)
    allows (p.Assign (p.Struct count cells) a e) to free s t n P c h =
        let w = where_of g first blocks a free in
        let low = above a free in
        let last : Allows blocks n (before (Address to w) t) (OrPlace w P) = sets_placed blocks n (Address to w) w to t P (λ v. refl) (λ v. refl) h in
        place_allows a free s c.0 n P c.4 (allows e low (low + 1) c.0 c.1 n (OrPlace w P) c.5 (groups_row blocks n low w c.2 cells c.1 _ P c.6 last))
    allows (p.Update a (NumberBy kind op at) e) to free s t n P c h =
        let w = where_of g first blocks a free in
        let by = above a free in
        let Q : ℕ → Type 0 = OrPlace w P in
        let write = weaker blocks n _ _ (Or to Q) (writes blocks n w kind to c.2 t (Or to P) h) (λ v q. named_once to w P v q) in
        let wrapped = sets_one blocks n (Convert to kind to) to to _ Q (λ v. refl) (λ v. refl) write in
        let computed = sets_two blocks n (Compute to op at to by) to by to _ Q (λ v. refl) (λ v. refl) wrapped in
        let operand = allows e by (by + 1) c.0 _ n (Or to Q) c.4 computed in
        let old = weaker blocks n _ _ Q (sets_placed blocks n (Read to w kind c.1) w to c.0 Q (λ v. refl) (λ v. refl) operand) (λ v q. placed_once w P v q) in
        place_allows a free s _ n P c.3 old
    allows (p.Update a (PointerBy size back) e) to free s t n P c h =
        let w = where_of g first blocks a free in
        let by = above a free in
        let Q : ℕ → Type 0 = OrPlace w P in
        let write = weaker blocks n _ _ (Or to Q) (writes blocks n w Ptr to c.2 t (Or to P) h) (λ v q. named_once to w P v q) in
        let moved = sets_two blocks n (Move to size back to by) to by to _ Q (λ v. refl) (λ v. refl) write in
        let operand = allows e by (by + 1) c.0 _ n (Or to Q) c.4 moved in
        let old = weaker blocks n _ _ Q (sets_placed blocks n (Read to w Ptr c.1) w to c.0 Q (λ v. refl) (λ v. refl) operand) (λ v q. placed_once w P v q) in
        place_allows a free s _ n P c.3 old
    allows (p.Increment a (NumberBy kind op at) false) to free s t n P c h =
        let w = where_of g first blocks a free in
        let by = above a free in
        let Q : ℕ → Type 0 = OrPlace w P in
        let write = weaker blocks n _ _ (Or to Q) (writes blocks n w kind to c.1 t (Or to P) h) (λ v q. named_once to w P v q) in
        let wrapped = sets_one blocks n (Convert to kind to) to to _ Q (λ v. refl) (λ v. refl) write in
        let computed = sets_two blocks n (Compute to op at to by) to by to _ Q (λ v. refl) (λ v. refl) wrapped in
        let one = sets_none blocks n (Put by (pos 1)) by _ (Or to Q) (λ v. refl) (λ v. refl) computed in
        let old = weaker blocks n _ _ Q (sets_placed blocks n (Read to w kind c.0) w to _ Q (λ v. refl) (λ v. refl) one) (λ v q. placed_once w P v q) in
        place_allows a free s _ n P c.2 old
    allows (p.Increment a (NumberBy kind op at) true) to free s t n P c h =
        let w = where_of g first blocks a free in
        let by = above a free in
        let R : ℕ → Type 0 = OrPlace w (Or to P) in
        let write = writes blocks n w kind by c.1 t (Or to P) h in
        let wrapped = sets_one blocks n (Convert by kind by) by by _ R (λ v. refl) (λ v. refl) write in
        let computed = sets_two blocks n (Compute by op at to by) to by by _ R (λ v. refl) (λ v. refl) wrapped in
        let one = sets_none blocks n (Put by (pos 1)) by _ (Or to R) (λ v. refl) (λ v. refl) computed in
        let kept = weaker blocks n _ (Or to R) (Or to (OrPlace w P)) one (λ v q. named_once to w P v q) in
        let old = weaker blocks n _ _ (OrPlace w P) (sets_placed blocks n (Read to w kind c.0) w to _ (OrPlace w P) (λ v. refl) (λ v. refl) kept) (λ v q. placed_once w P v q) in
        place_allows a free s _ n P c.2 old
    allows (p.Increment a (PointerBy size back) false) to free s t n P c h =
        let w = where_of g first blocks a free in
        let by = above a free in
        let Q : ℕ → Type 0 = OrPlace w P in
        let write = weaker blocks n _ _ (Or to Q) (writes blocks n w Ptr to c.1 t (Or to P) h) (λ v q. named_once to w P v q) in
        let moved = sets_two blocks n (Move to size back to by) to by to _ Q (λ v. refl) (λ v. refl) write in
        let one = sets_none blocks n (Put by (pos 1)) by _ (Or to Q) (λ v. refl) (λ v. refl) moved in
        let old = weaker blocks n _ _ Q (sets_placed blocks n (Read to w Ptr c.0) w to _ Q (λ v. refl) (λ v. refl) one) (λ v q. placed_once w P v q) in
        place_allows a free s _ n P c.2 old
    allows (p.Increment a (PointerBy size back) true) to free s t n P c h =
        let w = where_of g first blocks a free in
        let by = above a free in
        let R : ℕ → Type 0 = OrPlace w (Or to P) in
        let write = writes blocks n w Ptr by c.1 t (Or to P) h in
        let moved = sets_two blocks n (Move by size back to by) to by by _ R (λ v. refl) (λ v. refl) write in
        let one = sets_none blocks n (Put by (pos 1)) by _ (Or to R) (λ v. refl) (λ v. refl) moved in
        let kept = weaker blocks n _ (Or to R) (Or to (OrPlace w P)) one (λ v q. named_once to w P v q) in
        let old = weaker blocks n _ _ (OrPlace w P) (sets_placed blocks n (Read to w Ptr c.0) w to _ (OrPlace w P) (λ v. refl) (λ v. refl) kept) (λ v q. placed_once w P v q) in
        place_allows a free s _ n P c.2 old
    allows (p.Part from (p.Scalar kind) e) to free s t n P c h =
        let w : Place = Through free (offset_in (slice_get (cells_of_shape (shape_of g e)) from)) in
        allows e free (free + 1) s _ n P c.1 (sets_placed blocks n (Read to w kind c.0) w to t P (λ v. refl) (λ v. refl) h)
    allows (p.Part from (p.Struct count cells) e) to free s t n P c h =
        let w : Place = Through free (offset_in (slice_get (cells_of_shape (shape_of g e)) from)) in
        allows e free (free + 1) s _ n P c (sets_placed blocks n (Address to w) w to t P (λ v. refl) (λ v. refl) h)
    allows (p.Call x es) to free s t n P c h =
        arguments_allow es free s _ n P c
        (step blocks n (Call to x free (count_of es)) t (OrRow free (count_of es) P) (Or to P) (λ v y. inl (row_bounds free (count_of es) v y)) (λ v f q. inr (without to P v f q)) h)
    allows (p.Serve service p.no_argument) to free s t n P c h =
        subst (λ x. Allows blocks n x P) (sym c) (sets_none blocks n (Serve to service None) to t P (λ v. refl) (λ v. refl) h)
    allows (p.Serve service (p.an_argument e)) to free s t n P c h =
        allows e free (free + 1) s _ n P c (sets_one blocks n (Serve to service (Some free)) free to t P (λ v. refl) (λ v. refl) h)

    -- arguments are written side by side
    pub arguments_allow : (es : p.Exprs) (free : ℕ) (s t : Point) (n : ℕ) (P : ℕ → Type 0) → CodesArguments g first blocks es free s t → Allows blocks n t (OrRow free (count_of es) P) → Allows blocks n s P
    arguments_allow p.no_exprs free s t n P c h = subst (λ x. Allows blocks n x P) (sym c) (weaker blocks n t (OrRow free 0 P) P h (λ v q. no_row free P v q))
    arguments_allow (p.more_exprs e rest) free s t n P c h =
        allows e free (free + 1) s c.0 n P c.1 (arguments_allow rest (free + 1) c.0 t n (Or free P) c.2
        (weaker blocks n t _ _ h (λ v q. row_apart free (count_of rest) P v (cases_Bool (v == free)) q)))

    -- a test writes the register that takes its value, and goes on at one of two blocks
    test_by_allows : (e : p.Expr) → ValueAllows e → (free x y : ℕ) (s : Point) (n : ℕ) (P : ℕ → Type 0) → CodesTest g first blocks e free x y s → Allows blocks n (ends (Jump x)) P → Allows blocks n (ends (Jump y)) P → Allows blocks n s P
    test_by_allows (p.Not a) value free x y s n P c h k = test_by_allows a (λ to free s t n P c h. allows a to free s t n P c h) free y x s n P c k h
    test_by_allows (p.And a b) value free x y s n P c h k =
        let more = test_by_allows b (λ to free s t n P c h. allows b to free s t n P c h) free x y c.1 n P c.4 h k in
        test_by_allows a (λ to free s t n P c h. allows a to free s t n P c h) free c.0 y s n P c.3 (jump blocks n c.0 c.1 P c.2 more) k
    test_by_allows (p.Or a b) value free x y s n P c h k =
        let more = test_by_allows b (λ to free s t n P c h. allows b to free s t n P c h) free x y c.1 n P c.4 h k in
        test_by_allows a (λ to free s t n P c h. allows a to free s t n P c h) free x c.0 s n P c.3 h (jump blocks n c.0 c.1 P c.2 more)
    test_by_allows e value free x y s n P c h k = value free (free + 1) s (ends (Branch free x y)) n P c (branch blocks n free x y P h k)

  pub test_allows : (e : p.Expr) (free x y : ℕ) (s : Point) (n : ℕ) (P : ℕ → Type 0) → CodesTest g first blocks e free x y s → Allows blocks n (ends (Jump x)) P → Allows blocks n (ends (Jump y)) P → Allows blocks n s P
  test_allows e free x y s n P c h k = test_by_allows e (λ to free s t n P c h. allows e to free s t n P c h) free x y s n P c h k
