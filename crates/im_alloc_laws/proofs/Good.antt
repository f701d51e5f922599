-- Placed lines have the forms that selection has.
use Rattle.std.proofs.Common.{◌≡◌, ℕ, zero, suc, ◌+◌, ◌*◌, ◌<◌, ◌≤◌, List, [], ◌∷◌, Some, None, refl, sym, subst, arith, length}
use Rattle.std.specs.Prelude.{slice_get, All}
use Rattle.std.proofs.lemmas.List.Elements.{All-nil, All-cons, All-head, All-tail}
use Rattle.im_num.specs.declared.values.Cause.TheVariants.{Return as ReturnCut}
use Rattle.im_block.specs.declared.code.Place.{Place}
use Rattle.im_block.specs.declared.code.Place.TheVariants.{Static, Local, Through}
use Rattle.im_block.specs.declared.code.Line.{Line}
use Rattle.im_block.specs.declared.code.Line.TheVariants.{Put, PutNull, Copy, Convert, Unary, Not, Compute, Compare, Move, Distance, Address, Read, Write, Reload, Spill, Cut, Call, Serve}
use Rattle.im_block.specs.declared.code.Exit.{Exit}
use Rattle.im_block.specs.declared.code.Exit.TheVariants.{Jump, Turn, Branch, Return}
use Rattle.im_block.specs.declared.code.Block.{Block}
use Rattle.im_block.specs.declared.unit.Function.{Function}
use Rattle.im_alloc_placed.specs.Operands.{IsHome, PlaceExists, PlaceAtHome}
use Rattle.im_alloc_placed.specs.Placed.{IsPlacedLine, IsPlacedExit, IsPlacedBlock}
use Rattle.im_alloc_placed.specs.Placeable.{IsPlaceableLine}
use Rattle.im_alloc_relation.specs.Homes.{Home, InRegister, InSlot, numbers_kept, load, reg, save, into, give, bring, load_place, on_place, put_line, needed, put_lines, exit_lines, put_exit}
use Rattle.im_alloc_relation.specs.Placing.{PlacedBlock, PlacedBlocks}
use Rattle.im_alloc_laws.proofs.Needed.{needed_all}

-- what is known of homes
pub record Homes (h : ℕ → Home) (limit : ℕ) : Type 0 where
  pub free : (v r : ℕ) → h v ≡ InRegister r → IsHome r
  pub slots : (v m : ℕ) → h v ≡ InSlot m → m < limit

pub record SameObjects (f g : Function) : Type 0 where
  pub first : g.first_object ≡ f.first_object
  pub count : length g.objects.items ≡ length f.objects.items

home_at : (k : ℕ) → 6 < k → k < 32 → IsHome k
home_at k low high = (low, high)

module _ (statics : ℕ) (f g : Function) (h : ℕ → Home) (homes : Homes h g.slots) (same : SameObjects f g) where
  abbrev P : Line → Type 0
  P line = IsPlacedLine statics g line

  abbrev AllGood : List Line → Type 0
  AllGood lines = All P lines

  home28 : IsHome 7
  home28 = home_at 7 (omega arith) (omega arith)

  home29 : IsHome 8
  home29 = home_at 8 (omega arith) (omega arith)

  home30 : IsHome 7
  home30 = home_at 7 (omega arith) (omega arith)

  home10 : IsHome 10
  home10 = home_at 10 (omega arith) (omega arith)

  reg_at : (home : Home) (v s : ℕ) → h v ≡ home → IsHome s → IsHome (reg home s)
  reg_at (InRegister r) v s e k = homes.free v r e
  reg_at (InSlot m) v s e k = k

  reg_home : (v s : ℕ) → IsHome s → IsHome (reg (h v) s)
  reg_home v s k = reg_at (h v) v s refl k

  cons : (line : Line) (rest : List Line) → P line → AllGood rest → AllGood (line ∷ rest)
  cons line rest p q = All-cons P line rest p q

  load_at : (home : Home) (v s a : ℕ) (rest : List Line) → h v ≡ home → IsHome s → AllGood rest → AllGood (load home s a rest)
  load_at (InRegister r) v s a rest e k q = q
  load_at (InSlot m) v s a rest e k q = cons (Reload s m a) rest (k, homes.slots v m e) q

  good_load : (v s a : ℕ) (rest : List Line) → IsHome s → AllGood rest → AllGood (load (h v) s a rest)
  good_load v s a rest k q = load_at (h v) v s a rest refl k q

  save_at : (home : Home) (v a : ℕ) (rest : List Line) → h v ≡ home → AllGood rest → AllGood (save home a rest)
  save_at (InRegister r) v a rest e q = q
  save_at (InSlot m) v a rest e q = cons (Spill m 7 a) rest (home30, homes.slots v m e) q

  into_at : (home : Home) (v k a : ℕ) (rest : List Line) → h v ≡ home → IsHome k → AllGood rest → AllGood (into home k a rest)
  into_at (InRegister r) v k a rest e is q = cons (Copy k r) rest (is, homes.free v r e) q
  into_at (InSlot m) v k a rest e is q = cons (Reload k m a) rest (is, homes.slots v m e) q

  good_into : (v k a : ℕ) (rest : List Line) → IsHome k → AllGood rest → AllGood (into (h v) k a rest)
  good_into v k a rest is q = into_at (h v) v k a rest refl is q

  give_at : (home : Home) (v a : ℕ) (rest : List Line) → h v ≡ home → AllGood rest → AllGood (give home a rest)
  give_at (InRegister r) v a rest e q = cons (Copy r 10) rest (homes.free v r e, home10) q
  give_at (InSlot m) v a rest e q = cons (Spill m 10 a) rest (home10, homes.slots v m e) q

  good_bring : (k first count a : ℕ) (rest : List Line) → 6 < k → k + count ≤ 32 → AllGood rest → AllGood (bring h k first count a rest)
  good_bring k first zero a rest low high q = q
  good_bring k first (suc count) a rest low high q =
      good_into first k a (bring h (k + 1) (first + 1) count (a + 1) rest) (home_at k low (omega arith)) (good_bring (k + 1) (first + 1) count (a + 1) rest (omega arith) (omega arith) q)

  good_place : (place : Place) (a : ℕ) (rest : List Line) → AllGood rest → AllGood (load_place h place a rest)
  good_place (Static object offset) a rest q = q
  good_place (Local object offset) a rest q = q
  good_place (Through pointer offset) a rest q = good_load pointer 7 a rest home28 q

  place_home : (place : Place) → PlaceAtHome (on_place h place)
  place_home (Static object offset) = tt
  place_home (Local object offset) = tt
  place_home (Through pointer offset) = reg_home pointer 7 home28

  place_there : (place : Place) → PlaceExists statics f place → PlaceExists statics g (on_place h place)
  place_there (Static object offset) p = p
  place_there (Local object offset) p =
      let low = p.0.0 in
      let high = p.0.1 in
      let first = same.first in
      let count = same.count in
      ((omega arith, omega arith), p.1)
  place_there (Through pointer offset) p = p

  -- the line itself, and what it sets goes home
  set : (line : Line) (to a : ℕ) (rest : List Line) → P line → AllGood rest → AllGood (line ∷ save (h to) a rest)
  set line to a rest p q = cons line (save (h to) a rest) p (save_at (h to) to a rest refl q)

  one : (from n : ℕ) (line : Line) (to a : ℕ) (rest : List Line) → P line → AllGood rest → AllGood (load (h from) 7 n (line ∷ save (h to) a rest))
  one from n line to a rest p q = good_load from 7 n (line ∷ save (h to) a rest) home28 (set line to a rest p q)

  two : (left right n : ℕ) (line : Line) (to a : ℕ) (rest : List Line) → P line → AllGood rest → AllGood (load (h left) 7 n (load (h right) 8 (n + 1) (line ∷ save (h to) a rest)))
  two left right n line to a rest p q =
      good_load left 7 n (load (h right) 8 (n + 1) (line ∷ save (h to) a rest)) home28 (good_load right 8 (n + 1) (line ∷ save (h to) a rest) home29 (set line to a rest p q))

  abbrev to_home : (to : ℕ) → IsHome (reg (h to) 7)
  to_home to = reg_home to 7 home30

  abbrev left_home : (v : ℕ) → IsHome (reg (h v) 7)
  left_home v = reg_home v 7 home28

  abbrev right_home : (v : ℕ) → IsHome (reg (h v) 8)
  right_home v = reg_home v 8 home29

  good_line : (n : ℕ) (line : Line) (rest : List Line) → IsPlaceableLine statics f line → AllGood rest → AllGood (put_line h n line rest)
  good_line n (Put to z) rest p q = set (Put (reg (h to) 7) z) to (n + 2) rest (to_home to) q
  good_line n (PutNull to) rest p q = set (PutNull (reg (h to) 7)) to (n + 2) rest (to_home to) q
  good_line n (Copy to from) rest p q = one from n (Copy (reg (h to) 7) (reg (h from) 7)) to (n + 2) rest (to_home to, left_home from) q
  good_line n (Convert to kind from) rest p q = one from n (Convert (reg (h to) 7) kind (reg (h from) 7)) to (n + 2) rest (to_home to, left_home from, p) q
  good_line n (Unary to op kind from) rest p q = one from n (Unary (reg (h to) 7) op kind (reg (h from) 7)) to (n + 2) rest (to_home to, left_home from, p) q
  good_line n (Not to from) rest p q = one from n (Not (reg (h to) 7) (reg (h from) 7)) to (n + 2) rest (to_home to, left_home from) q
  good_line n (Compute to op kind left right) rest p q = two left right n (Compute (reg (h to) 7) op kind (reg (h left) 7) (reg (h right) 8)) to (n + 2) rest (to_home to, left_home left, right_home right, p) q
  good_line n (Compare to op kind left right) rest p q = two left right n (Compare (reg (h to) 7) op kind (reg (h left) 7) (reg (h right) 8)) to (n + 2) rest (to_home to, left_home left, right_home right, p) q
  good_line n (Move to size back pointer by) rest p q = two pointer by n (Move (reg (h to) 7) size back (reg (h pointer) 7) (reg (h by) 8)) to (n + 2) rest (to_home to, left_home pointer, right_home by, p) q
  good_line n (Distance to size left right) rest p q = two left right n (Distance (reg (h to) 7) size (reg (h left) 7) (reg (h right) 8)) to (n + 2) rest (to_home to, left_home left, right_home right, p.0, p.1) q
  good_line n (Address to place) rest p q =
      let line : Line = Address (reg (h to) 7) (on_place h place) in
      good_place place n (line ∷ save (h to) (n + 2) rest) (set line to (n + 2) rest (to_home to, place_home place, place_there place p) q)
  good_line n (Read to place kind access) rest p q =
      let line : Line = Read (reg (h to) 7) (on_place h place) kind access in
      good_place place n (line ∷ save (h to) (n + 2) rest) (set line to (n + 2) rest (to_home to, place_home place, place_there place p) q)
  good_line n (Write place kind from access) rest p q =
      let line : Line = Write (on_place h place) kind (reg (h from) 8) access in
      good_place place n (load (h from) 8 (n + 1) (line ∷ rest)) (good_load from 8 (n + 1) (line ∷ rest) home29 (cons line rest (right_home from, place_home place, place_there place p) q))
  good_line n (Reload to slot access) rest p q = q
  good_line n (Spill slot from access) rest p q = q
  good_line n (Cut cause) rest p q = cons (Cut cause) rest tt q
  good_line n (Call to i first count) rest p q =
      let back : List Line = Cut ReturnCut ∷ give (h to) (n + 2) rest in
      good_bring 10 first count (n + 3) (Call 10 i 10 count ∷ back) (omega arith) (omega arith)
      (cons (Call 10 i 10 count) back (refl, refl, p) (cons (Cut ReturnCut) (give (h to) (n + 2) rest) tt (give_at (h to) to (n + 2) rest refl q)))
  good_line n (Serve to service None) rest p q =
      let back : List Line = Cut ReturnCut ∷ give (h to) (n + 2) rest in
      cons (Serve 10 service None) back (refl, p) (cons (Cut ReturnCut) (give (h to) (n + 2) rest) tt (give_at (h to) to (n + 2) rest refl q))
  good_line n (Serve to service (Some from)) rest p q =
      let back : List Line = Cut ReturnCut ∷ give (h to) (n + 2) rest in
      good_into from 10 n (Serve 10 service (Some 10) ∷ back) home10 (cons (Serve 10 service (Some 10)) back (refl, refl, p) (cons (Cut ReturnCut) (give (h to) (n + 2) rest) tt (give_at (h to) to (n + 2) rest refl q)))

  good_lines : (n : ℕ) (lines tail : List Line) → All (IsPlaceableLine statics f) lines → AllGood tail → AllGood (put_lines h n lines tail)
  good_lines n [] tail p q = q
  good_lines n (line ∷ lines) tail p q =
      good_line n line (put_lines h (n + numbers_kept) lines tail) (All-head (IsPlaceableLine statics f) line lines p) (good_lines (n + numbers_kept) lines tail (All-tail (IsPlaceableLine statics f) line lines p) q)

  good_exit_lines : (n : ℕ) (exit : Exit) → AllGood (exit_lines h n exit)
  good_exit_lines n (Jump b) = All-nil P
  good_exit_lines n (Turn b) = All-nil P
  good_exit_lines n (Branch on a b) = good_load on 7 n [] home28 (All-nil P)
  good_exit_lines n (Return None) = All-nil P
  good_exit_lines n (Return (Some r)) = good_into r 10 n [] home10 (All-nil P)

  good_exit : (exit : Exit) → IsPlacedExit (put_exit h exit)
  good_exit (Jump b) = tt
  good_exit (Turn b) = tt
  good_exit (Branch on a b) = left_home on
  good_exit (Return None) = tt
  good_exit (Return (Some r)) = refl

  good_block : (n : ℕ) (x y : Block) → PlacedBlock h n x y → All (IsPlaceableLine statics f) x.lines.items → IsPlacedBlock statics g y
  good_block n x y p q =
      let m : ℕ = n + numbers_kept * length (needed x.exit x.lines.items) in
      record {
        lines = subst (λ l. All (IsPlacedLine statics g) l) (sym p.lines) (good_lines n (needed x.exit x.lines.items) (exit_lines h m x.exit) (needed_all x.exit (IsPlaceableLine statics f) x.lines.items q) (good_exit_lines m x.exit));
        exit = subst IsPlacedExit (sym p.exit) (good_exit x.exit);
      }

  pub good_blocks : (n : ℕ) (xs ys : List Block) → PlacedBlocks h n xs ys → ((b : ℕ) (block : Block) → slice_get xs b ≡ Some block → All (IsPlaceableLine statics f) block.lines.items) → All (IsPlacedBlock statics g) ys
  good_blocks n [] [] p q = All-nil (IsPlacedBlock statics g)
  good_blocks n [] (y ∷ ys) p q = absurd p
  good_blocks n (x ∷ xs) [] p q = absurd p
  good_blocks n (x ∷ xs) (y ∷ ys) p q =
      All-cons (IsPlacedBlock statics g) y ys (good_block n x y p.0 (q 0 x refl)) (good_blocks (n + numbers_kept * suc (length (needed x.exit x.lines.items))) xs ys p.1 (λ b block at. q (suc b) block at))
