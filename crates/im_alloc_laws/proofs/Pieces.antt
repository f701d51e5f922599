-- A line's pieces stand before what follows; blocks of placed code, and what they are made of.
use Rattle.std.proofs.Common.{◌≡◌, ℕ, zero, suc, ◌+◌, List, [], ◌∷◌, ◌++◌, Some, refl, ap}
use Rattle.std.specs.Prelude.{slice_get, None}
use Rattle.im_num.specs.declared.values.Cause.TheVariants.{Return as ReturnCut}
use Rattle.im_block.specs.declared.code.Place.{Place}
use Rattle.im_block.specs.declared.code.Place.TheVariants.{Static, Local, Through}
use Rattle.im_block.specs.declared.code.Line.{Line}
use Rattle.im_block.specs.declared.code.Line.TheVariants.{Put, PutNull, Copy, Convert, Unary, Not, Compute, Compare, Move, Distance, Address, Read, Write, Reload, Spill, Cut, Call, Serve}
use Rattle.im_block.specs.declared.code.Block.{Block}
use Rattle.im_block.specs.Unitwise.{number_at}
use Rattle.im_block.proofs.Unitwise.{from_old}
use Rattle.im_alloc_relation.specs.Homes.{Home, InRegister, InSlot, load, reg, save, into, give, bring, load_place, on_place, put_line}
use Rattle.im_alloc_relation.specs.Placing.{PlacedBlock, PlacedBlocks, number_behind}

save_app : (home : Home) (a : ℕ) (rest : List Line) → save home a rest ≡ save home a [] ++ rest
save_app (InRegister r) a rest = refl
save_app (InSlot m) a rest = refl

give_app : (home : Home) (a : ℕ) (rest : List Line) → give home a rest ≡ give home a [] ++ rest
give_app (InRegister r) a rest = refl
give_app (InSlot m) a rest = refl

into_app : (home : Home) (k a : ℕ) (rest xs ys : List Line) → rest ≡ xs ++ ys → into home k a rest ≡ into home k a xs ++ ys
into_app (InRegister r) k a rest xs ys e = ap (λ q. Copy k r ∷ q) e
into_app (InSlot m) k a rest xs ys e = ap (λ q. Reload k m a ∷ q) e

load_app : (home : Home) (s a : ℕ) (rest xs ys : List Line) → rest ≡ xs ++ ys → load home s a rest ≡ load home s a xs ++ ys
load_app (InRegister r) s a rest xs ys e = e
load_app (InSlot m) s a rest xs ys e = ap (λ q. Reload s m a ∷ q) e

bring_app : (h : ℕ → Home) (k first count a : ℕ) (rest xs ys : List Line) → rest ≡ xs ++ ys → bring h k first count a rest ≡ bring h k first count a xs ++ ys
bring_app h k first zero a rest xs ys e = e
bring_app h k first (suc count) a rest xs ys e =
    into_app (h first) k a (bring h (k + 1) (first + 1) count (a + 1) rest) (bring h (k + 1) (first + 1) count (a + 1) xs) ys (bring_app h (k + 1) (first + 1) count (a + 1) rest xs ys e)

set_app : (line : Line) (home : Home) (a : ℕ) (rest : List Line) → line ∷ save home a rest ≡ (line ∷ save home a []) ++ rest
set_app line home a rest = ap (λ q. line ∷ q) (save_app home a rest)

one_app : (from : Home) (n : ℕ) (line : Line) (home : Home) (a : ℕ) (rest : List Line) → load from 7 n (line ∷ save home a rest) ≡ load from 7 n (line ∷ save home a []) ++ rest
one_app from n line home a rest = load_app from 7 n (line ∷ save home a rest) (line ∷ save home a []) rest (set_app line home a rest)

two_app : (left right : Home) (n m : ℕ) (line : Line) (home : Home) (a : ℕ) (rest : List Line) → load left 7 n (load right 8 m (line ∷ save home a rest)) ≡ load left 7 n (load right 8 m (line ∷ save home a [])) ++ rest
two_app left right n m line home a rest =
    load_app left 7 n (load right 8 m (line ∷ save home a rest)) (load right 8 m (line ∷ save home a [])) rest
    (load_app right 8 m (line ∷ save home a rest) (line ∷ save home a []) rest (set_app line home a rest))

place_app : (h : ℕ → Home) (place : Place) (n : ℕ) (rest xs ys : List Line) → rest ≡ xs ++ ys → load_place h place n rest ≡ load_place h place n xs ++ ys
place_app h (Static object offset) n rest xs ys e = e
place_app h (Local object offset) n rest xs ys e = e
place_app h (Through pointer offset) n rest xs ys e = load_app (h pointer) 7 n rest xs ys e

pub put_app : (h : ℕ → Home) (n : ℕ) (line : Line) (rest : List Line) → put_line h n line rest ≡ put_line h n line [] ++ rest
put_app h n (Put to z) rest = set_app (Put (reg (h to) 7) z) (h to) (n + 2) rest
put_app h n (PutNull to) rest = set_app (PutNull (reg (h to) 7)) (h to) (n + 2) rest
put_app h n (Copy to from) rest = one_app (h from) n (Copy (reg (h to) 7) (reg (h from) 7)) (h to) (n + 2) rest
put_app h n (Convert to kind from) rest = one_app (h from) n (Convert (reg (h to) 7) kind (reg (h from) 7)) (h to) (n + 2) rest
put_app h n (Unary to op kind from) rest = one_app (h from) n (Unary (reg (h to) 7) op kind (reg (h from) 7)) (h to) (n + 2) rest
put_app h n (Not to from) rest = one_app (h from) n (Not (reg (h to) 7) (reg (h from) 7)) (h to) (n + 2) rest
put_app h n (Compute to op kind left right) rest = two_app (h left) (h right) n (n + 1) (Compute (reg (h to) 7) op kind (reg (h left) 7) (reg (h right) 8)) (h to) (n + 2) rest
put_app h n (Compare to op kind left right) rest = two_app (h left) (h right) n (n + 1) (Compare (reg (h to) 7) op kind (reg (h left) 7) (reg (h right) 8)) (h to) (n + 2) rest
put_app h n (Move to size back pointer by) rest = two_app (h pointer) (h by) n (n + 1) (Move (reg (h to) 7) size back (reg (h pointer) 7) (reg (h by) 8)) (h to) (n + 2) rest
put_app h n (Distance to size left right) rest = two_app (h left) (h right) n (n + 1) (Distance (reg (h to) 7) size (reg (h left) 7) (reg (h right) 8)) (h to) (n + 2) rest
put_app h n (Address to place) rest =
    let line : Line = Address (reg (h to) 7) (on_place h place) in
    place_app h place n (line ∷ save (h to) (n + 2) rest) (line ∷ save (h to) (n + 2) []) rest (set_app line (h to) (n + 2) rest)
put_app h n (Read to place kind access) rest =
    let line : Line = Read (reg (h to) 7) (on_place h place) kind access in
    place_app h place n (line ∷ save (h to) (n + 2) rest) (line ∷ save (h to) (n + 2) []) rest (set_app line (h to) (n + 2) rest)
put_app h n (Write place kind from access) rest =
    let line : Line = Write (on_place h place) kind (reg (h from) 8) access in
    place_app h place n (load (h from) 8 (n + 1) (line ∷ rest)) (load (h from) 8 (n + 1) (line ∷ [])) rest (load_app (h from) 8 (n + 1) (line ∷ rest) (line ∷ []) rest refl)
put_app h n (Reload to slot access) rest = refl
put_app h n (Spill slot from access) rest = refl
put_app h n (Cut cause) rest = refl
put_app h n (Call to i first count) rest =
    bring_app h 10 first count (n + 3) (Call 10 i 10 count ∷ Cut ReturnCut ∷ give (h to) (n + 2) rest) (Call 10 i 10 count ∷ Cut ReturnCut ∷ give (h to) (n + 2) []) rest
    (ap (λ q. Call 10 i 10 count ∷ Cut ReturnCut ∷ q) (give_app (h to) (n + 2) rest))
put_app h n (Serve to service None) rest = ap (λ q. Serve 10 service None ∷ Cut ReturnCut ∷ q) (give_app (h to) (n + 2) rest)
put_app h n (Serve to service (Some from)) rest =
    into_app (h from) 10 n (Serve 10 service (Some 10) ∷ Cut ReturnCut ∷ give (h to) (n + 2) rest) (Serve 10 service (Some 10) ∷ Cut ReturnCut ∷ give (h to) (n + 2) []) rest
    (ap (λ q. Serve 10 service (Some 10) ∷ Cut ReturnCut ∷ q) (give_app (h to) (n + 2) rest))

-- a block of placed code, and the one that it is made of
pub record Made (h : ℕ → Home) (xs : List Block) (b : ℕ) (y : Block) : Type 0 where
  pub old : Block
  pub at : slice_get xs b ≡ Some old
  pub number : ℕ
  pub placed : PlacedBlock h number old y

pub made : (h : ℕ → Home) (n : ℕ) (xs ys : List Block) (b : ℕ) (y : Block) → PlacedBlocks h n xs ys → slice_get ys b ≡ Some y → Made h xs b y
made h n xs ys b y p e =
    let o = from_old number_behind (PlacedBlock h) n xs ys b y p e in
    record { old = o.old; at = o.at; number = number_at number_behind n xs b; placed = o.is }
