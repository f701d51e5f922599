-- Placed code is well formed, and has the forms that selection has.
use Rattle.std.proofs.Common.{◌≡◌, ℕ, suc, ◌+◌, ◌*◌, ◌≤◌, List, [], ◌∷◌, Some, None, sym, ap, subst, arith, length}
use Rattle.std.specs.Prelude.{slice_get, All}
use Rattle.std.proofs.lemmas.List.Elements.{All-nil, All-cons, All-head, All-tail, All-weaker}
use Rattle.im_num.specs.declared.values.Cause.TheVariants.{Return as ReturnCut}
use Rattle.im_block.specs.declared.code.Place.{Place}
use Rattle.im_block.specs.declared.code.Place.TheVariants.{Static, Local, Through}
use Rattle.im_block.specs.declared.code.Line.{Line}
use Rattle.im_block.specs.declared.code.Line.TheVariants.{Put, PutNull, Copy, Convert, Unary, Not, Compute, Compare, Move, Distance, Address, Read, Write, Reload, Spill, Cut, Call, Serve}
use Rattle.im_block.specs.declared.code.Exit.{Exit}
use Rattle.im_block.specs.declared.code.Exit.TheVariants.{Jump, Turn, Branch, Return}
use Rattle.im_block.specs.declared.code.Block.{Block}
use Rattle.im_block.specs.declared.unit.Function.{Function}
use Rattle.im_block.specs.declared.unit.Unit.{Unit as Code}
use Rattle.im_block.specs.Shape.{sum_of}
use Rattle.im_block.specs.Wellformed.{HasCells, PlaceWithin, LineWithin, ExitWithin, ExitThere, LineThere, IsBlock, IsFunction, IsWellFormed}
use Rattle.im_block.proofs.Unitwise.{zip_at, zip_length, from_so, takes_kept, numbers_kept as objects_kept}
use Rattle.im_alloc_placed.specs.Operands.{PlaceAtHome}
use Rattle.im_alloc_placed.specs.Placed.{IsPlacedLine, IsPlacedExit, IsPlacedBlock, IsPlacedFunction, IsPlacedCode}
use Rattle.im_alloc_placed.specs.Placeable.{object_room, IsPlaceableFunction, IsPlaceable}
use Rattle.im_alloc_relation.specs.Homes.{Home, InRegister, InSlot, numbers_kept, give, put_line, needed, put_lines, exit_lines, put_exit}
use Rattle.im_alloc_relation.specs.Placing.{PlacedBlock, PlacedBlocks, number_behind, PlacedFunction, PlacedFunctions}
use Rattle.im_alloc_laws.specs.Numbered.{numbers_of_blocks, PlacedFrom, IsWellPlaced}
use Rattle.im_alloc_laws.proofs.Accesses.{accesses_apart}
use Rattle.im_alloc_laws.proofs.Carried.{IsPlain, Carries, carried, carried_load, carried_into}
use Rattle.im_alloc_laws.proofs.Good.{Homes, SameObjects, good_blocks}
use Rattle.im_alloc_laws.proofs.Needed.{needed_all}

-- the forms that selection has

homes_of : (f g : Function) (p : PlacedFunction f g) → Homes p.home g.slots
homes_of f g p = record { free = λ v r e. let k = p.free v r e in let a = k.0 in (omega arith, k.1); slots = p.slots }

objects_of : (f g : Function) → PlacedFunction f g → SameObjects f g
objects_of f g p = record { first = ap (λ (k : Function). k.first_object) p.rest; count = ap (λ (k : Function). length k.objects.items) p.rest }

function_good : (statics : ℕ) (f g : Function) → PlacedFunction f g → g.slots ≤ f.register_count → IsPlaceableFunction statics f → IsPlacedFunction statics g
function_good statics f g p few h = record {
  registers = ap (λ (k : Function). k.registers) p.rest;
  count = ap (λ (k : Function). k.register_count) p.rest;
  received = ap (λ (k : Function). k.first_parameter) p.rest;
  fits =
      let need : g.need ≡ f.need = ap (λ (k : Function). k.need) p.rest in
      let objects : sum_of object_room g.objects.items ≡ sum_of object_room f.objects.items = ap (λ (k : Function). sum_of object_room k.objects.items) p.rest in
      let enough = h.room in
      omega arith;
  blocks = good_blocks statics f g p.home (homes_of f g p) (objects_of f g p) p.first_access f.blocks.items g.blocks.items p.blocks h.lines;
}

functions_good : (statics n : ℕ) (fs gs : List Function) (p : PlacedFunctions fs gs) → PlacedFrom n fs gs p → All (IsPlaceableFunction statics) fs → All (IsPlacedFunction statics) gs
functions_good statics n [] [] p from h = All-nil (IsPlacedFunction statics)
functions_good statics n [] (g ∷ gs) p from h = absurd p
functions_good statics n (f ∷ fs) [] p from h = absurd p
functions_good statics n (f ∷ fs) (g ∷ gs) p from h =
    All-cons (IsPlacedFunction statics) g gs (function_good statics f g p.0 from.1 (All-head (IsPlaceableFunction statics) f fs h))
    (functions_good statics (n + numbers_of_blocks f.blocks.items) fs gs p.1 from.2 (All-tail (IsPlaceableFunction statics) f fs h))

pub placed_code : (u v : Code) → IsWellPlaced u v → IsPlaceable u → IsPlacedCode v
placed_code u v w h = record {
  functions =
      let statics : length v.statics.items ≡ length u.statics.items = ap (λ (k : Code). length k.statics.items) w.placed.rest in
      subst (λ n. All (IsPlacedFunction n) v.functions.items) (sym statics)
      (functions_good (length u.statics.items) w.first u.functions.items v.functions.items w.placed.functions w.from h.functions);
}

-- well formed

place_within : (place : Place) → PlaceAtHome place → PlaceWithin 32 place
place_within (Static object offset) h = tt
place_within (Local object offset) h = tt
place_within (Through pointer offset) h = h.1

within : (statics : ℕ) (g : Function) (line : Line) → IsPlacedLine statics g line → LineWithin 32 line
within statics g (Put to z) h = h.1
within statics g (PutNull to) h = h.1
within statics g (Copy to from) h = (h.0.1, h.1.1)
within statics g (Convert to kind from) h = (h.0.1, h.1.1)
within statics g (Unary to op kind from) h = (h.0.1, h.1.1)
within statics g (Not to from) h = (h.0.1, h.1.1)
within statics g (Compute to op kind left right) h = (h.0.1, h.1.1, h.2.1)
within statics g (Compare to op kind left right) h = (h.0.1, h.1.1, h.2.1)
within statics g (Move to size back pointer by) h = (h.0.1, h.1.1, h.2.1)
within statics g (Distance to size left right) h = (h.0.1, h.1.1, h.2.1)
within statics g (Address to place) h = (h.0.1, place_within place h.1)
within statics g (Read to place kind access) h = (h.0.1, place_within place h.1)
within statics g (Write place kind from access) h = (place_within place h.1, h.0.1)
within statics g (Reload to slot access) h = h.0.1
within statics g (Spill slot from access) h = h.0.1
within statics g (Cut cause) h = tt
within statics g (Call to i first count) h = let a = h.0 in let b = h.1 in let c = h.2 in (omega arith, omega arith)
within statics g (Serve to service None) h = let a = h.0 in omega arith
within statics g (Serve to service (Some from)) h = let a = h.0 in let b = h.1 in (omega arith, omega arith)

exit_within : (exit : Exit) → IsPlacedExit exit → ExitWithin 32 exit
exit_within (Jump b) h = tt
exit_within (Turn b) h = tt
exit_within (Branch on a b) h = h.1
exit_within (Return None) h = tt
exit_within (Return (Some r)) h = omega arith

exit_there : (h : ℕ → Home) (n : ℕ) (exit : Exit) → ExitThere n exit → ExitThere n (put_exit h exit)
exit_there h n (Jump b) t = t
exit_there h n (Turn b) t = t
exit_there h n (Branch on a b) t = t
exit_there h n (Return from) t = tt

parameters_kept : (f g : Function) → PlacedFunction f g → g.parameters ≡ f.parameters
parameters_kept f g p = ap (λ (k : Function). k.parameters) p.rest

abbrev AnyBlocks : Block → Block → Type 0
AnyBlocks x y = Unit {0}

blocks_length : (f g : Function) → PlacedFunction f g → length g.blocks.items ≡ length f.blocks.items
blocks_length f g p =
    zip_length AnyBlocks f.blocks.items g.blocks.items (from_so number_behind (PlacedBlock p.home) AnyBlocks (λ n x y k. tt) p.first_access f.blocks.items g.blocks.items p.blocks)

module _ (fs gs : List Function) (all : PlacedFunctions fs gs) where
  abbrev There : Line → Type 0
  There line = LineThere gs line

  line_there : (line : Line) → LineThere fs line → There line
  line_there (Call to i first count) h = takes_kept PlacedFunction parameters_kept (slice_get fs i) (slice_get gs i) count (zip_at PlacedFunction fs gs i all) h
  line_there (Put to z) h = tt
  line_there line h = h

  plain_there : (line : Line) → IsPlain line → There line
  plain_there (Call to i first count) plain = absurd plain
  plain_there (Put to z) plain = tt
  plain_there line plain = tt

  give_there : (home : Home) (a : ℕ) (rest : List Line) → All There rest → All There (Cut ReturnCut ∷ give home a rest)
  give_there (InRegister r) a rest q = All-cons There (Cut ReturnCut) (Copy r 10 ∷ rest) tt (All-cons There (Copy r 10) rest tt q)
  give_there (InSlot m) a rest q = All-cons There (Cut ReturnCut) (Spill m 10 a ∷ rest) tt (All-cons There (Spill m 10 a) rest tt q)

  there_carried : Carries There (All There)
  there_carried = record {
    plain = λ line rest plain q. All-cons There line rest (plain_there line plain) q;
    call = λ to i first count home a rest fact q. All-cons There (Call 10 i 10 count) (Cut ReturnCut ∷ give home a rest) fact (give_there home a rest q);
    get = λ service home a rest q. All-cons There (Serve 10 service None) (Cut ReturnCut ∷ give home a rest) tt (give_there home a rest q);
    put = λ service home a rest q. All-cons There (Serve 10 service (Some 10)) (Cut ReturnCut ∷ give home a rest) tt (give_there home a rest q);
  }

  there_line : (h : ℕ → Home) (n : ℕ) (line : Line) (rest : List Line) → There line → All There rest → All There (put_line h n line rest)
  there_line h n (Cut cause) rest t q = All-cons There (Cut cause) rest tt q
  there_line h n line rest t q = carried There (All There) there_carried h n line rest (λ k. k) t q

  there_lines : (h : ℕ → Home) (n : ℕ) (lines tail : List Line) → All There lines → All There tail → All There (put_lines h n lines tail)
  there_lines h n [] tail t q = q
  there_lines h n (line ∷ lines) tail t q =
      there_line h n line (put_lines h (n + numbers_kept) lines tail) (All-head There line lines t) (there_lines h (n + numbers_kept) lines tail (All-tail There line lines t) q)

  there_exit : (h : ℕ → Home) (n : ℕ) (exit : Exit) → All There (exit_lines h n exit)
  there_exit h n (Jump b) = All-nil There
  there_exit h n (Turn b) = All-nil There
  there_exit h n (Branch on a b) = carried_load There (All There) there_carried (h on) 7 n [] (All-nil There)
  there_exit h n (Return None) = All-nil There
  there_exit h n (Return (Some r)) = carried_into There (All There) there_carried (h r) 10 n [] (All-nil There)

  block_whole : (statics : ℕ) (f g : Function) (h : ℕ → Home) (n : ℕ) (x y : Block) → length g.blocks.items ≡ length f.blocks.items → g.register_count ≡ 32 → PlacedBlock h n x y → IsPlacedBlock statics g y → IsBlock fs f x → IsBlock gs g y
  block_whole statics f g h n x y count registers p good b =
      let m : ℕ = n + numbers_kept * length (needed x.exit x.lines.items) in
      record {
        lines_within = subst (λ k. All (LineWithin k) y.lines.items) (sym registers) (All-weaker (IsPlacedLine statics g) (LineWithin 32) (within statics g) y.lines.items good.lines);
        exit_within = subst (λ k. ExitWithin k y.exit) (sym registers) (exit_within y.exit good.exit);
        lines_there = subst (λ l. All There l) (sym p.lines) (there_lines h n (needed x.exit x.lines.items) (exit_lines h m x.exit) (needed_all x.exit There x.lines.items (All-weaker (LineThere fs) There line_there x.lines.items b.lines_there)) (there_exit h m x.exit));
        exit_there = subst (λ k. ExitThere k y.exit) (sym count) (subst (ExitThere (length f.blocks.items)) (sym p.exit) (exit_there h (length f.blocks.items) x.exit b.exit_there));
      }

  blocks_whole : (statics : ℕ) (f g : Function) (h : ℕ → Home) (n : ℕ) (xs ys : List Block) → length g.blocks.items ≡ length f.blocks.items → g.register_count ≡ 32 → PlacedBlocks h n xs ys → All (IsPlacedBlock statics g) ys → All (IsBlock fs f) xs → All (IsBlock gs g) ys
  blocks_whole statics f g h n [] [] count registers p good b = All-nil (IsBlock gs g)
  blocks_whole statics f g h n [] (y ∷ ys) count registers p good b = absurd p
  blocks_whole statics f g h n (x ∷ xs) [] count registers p good b = absurd p
  blocks_whole statics f g h n (x ∷ xs) (y ∷ ys) count registers p good b =
      All-cons (IsBlock gs g) y ys
      (block_whole statics f g h n x y count registers p.0 (All-head (IsPlacedBlock statics g) y ys good) (All-head (IsBlock fs f) x xs b))
      (blocks_whole statics f g h (n + numbers_kept * suc (length (needed x.exit x.lines.items))) xs ys count registers p.1 (All-tail (IsPlacedBlock statics g) y ys good) (All-tail (IsBlock fs f) x xs b))

  function_whole : (statics : ℕ) (f g : Function) → PlacedFunction f g → IsPlacedFunction statics g → IsFunction fs f → IsFunction gs g
  function_whole statics f g p good h =
      let count : length g.blocks.items ≡ length f.blocks.items = blocks_length f g p in
      let parameters = parameters_kept f g p in
      let entry : g.entry ≡ f.entry = ap (λ (k : Function). k.entry) p.rest in
      let few = h.parameters in
      let there = h.entry in
      let registers = good.count in
      let received = good.received in
      record {
        parameters = omega arith;
        received = omega arith;
        entry = omega arith;
        objects = subst (λ (k : Function). All HasCells k.objects.items) (sym p.rest) h.objects;
        blocks = blocks_whole statics f g p.home p.first_access f.blocks.items g.blocks.items count good.count p.blocks good.blocks h.blocks;
      }

functions_whole : (us ws : List Function) (whole : PlacedFunctions us ws) (statics : ℕ) (fs gs : List Function) → PlacedFunctions fs gs → All (IsPlacedFunction statics) gs → All (IsFunction us) fs → All (IsFunction ws) gs
functions_whole us ws whole statics [] [] p good h = All-nil (IsFunction ws)
functions_whole us ws whole statics [] (g ∷ gs) p good h = absurd p
functions_whole us ws whole statics (f ∷ fs) [] p good h = absurd p
functions_whole us ws whole statics (f ∷ fs) (g ∷ gs) p good h =
    All-cons (IsFunction ws) g gs
    (function_whole us ws whole statics f g p.0 (All-head (IsPlacedFunction statics) g gs good) (All-head (IsFunction us) f fs h))
    (functions_whole us ws whole statics fs gs p.1 (All-tail (IsPlacedFunction statics) g gs good) (All-tail (IsFunction us) f fs h))

with_functions : (u v : Code) → IsWellPlaced u v → IsPlaceable u → IsWellFormed u → IsWellFormed (record u { functions = v.functions })
with_functions u v w able h = record {
  statics = h.statics;
  functions =
      functions_whole u.functions.items v.functions.items w.placed.functions (length v.statics.items) u.functions.items v.functions.items w.placed.functions (placed_code u v w able).functions h.functions;
  numbered = objects_kept PlacedFunction (λ f g k. ap (λ (z : Function). z.first_object) k.rest) (λ f g k. ap (λ (z : Function). length z.objects.items) k.rest) (length u.statics.items) u.functions.items v.functions.items w.placed.functions h.numbered;
  main = takes_kept PlacedFunction parameters_kept (slice_get u.functions.items u.main) (slice_get v.functions.items u.main) 0 (zip_at PlacedFunction u.functions.items v.functions.items u.main w.placed.functions) h.main;
  accesses = accesses_apart u v w h.accesses;
}

pub well_formed : (u v : Code) → IsWellPlaced u v → IsPlaceable u → IsWellFormed u → IsWellFormed v
well_formed u v w able h = subst IsWellFormed (sym w.placed.rest) (with_functions u v w able h)
