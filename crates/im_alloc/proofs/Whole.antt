-- A whole unit is placed.
use Rattle.std.proofs.Common.{◌≡◌, ℕ, zero, suc, ◌+◌, ◌≤◌, List, [], ◌∷◌, Some, refl, sym, subst, arith, length, take, drop}
use Rattle.std.specs.Prelude.{slice_get, All}
use Rattle.std.proofs.lemmas.List.Elements.{All-nil, All-cons, All-head, All-tail}
use Rattle.im_block.specs.declared.code.Line.{Line}
use Rattle.im_block.specs.declared.code.Line.TheVariants.{Call}
use Rattle.im_block.specs.declared.code.Block.{Block}
use Rattle.im_block.specs.declared.unit.Function.{Function}
use Rattle.im_block.specs.declared.unit.Unit.{Unit as Code}
use Rattle.im_block.specs.Wellformed.{IsFunction, IsWellFormed}
use Rattle.im_alloc_placed.specs.Placeable.{IsPlaceableLine, IsPlaceableFunction, IsPlaceable}
use Rattle.im_alloc_relation.specs.Placing.{PlacedFunctions}
use Rattle.im_alloc_laws.specs.Numbered.{numbers_of_blocks, PlacedFrom, IsWellPlaced}
use Rattle.im_alloc_intervals.specs.Homes.{IsAble}
use Rattle.im_alloc.specs.Leaves.{LeavesLeaves}
use Rattle.im_alloc.specs.Numbers.{past_functions}
use Rattle.im_alloc.specs.Parts.{Fits}
use Rattle.im_alloc.specs.Places.{FitsBlock, PlacesFunctions}
use Rattle.im_alloc.proofs.Beyond.{functions_past}
use Rattle.im_alloc.proofs.Placed.{placed_of, no_slots}

-- calls fit

line_fits : (statics : ℕ) (f : Function) (line : Line) → IsPlaceableLine statics f line → Fits line
line_fits statics f (Call to i first count) k = k
line_fits statics f line k = tt

lines_fit : (statics : ℕ) (f : Function) (lines : List Line) → All (IsPlaceableLine statics f) lines → All Fits lines
lines_fit statics f [] k = All-nil Fits
lines_fit statics f (line ∷ lines) k =
    All-cons Fits line lines (line_fits statics f line (All-head (IsPlaceableLine statics f) line lines k)) (lines_fit statics f lines (All-tail (IsPlaceableLine statics f) line lines k))

blocks_fit : (statics : ℕ) (f : Function) (blocks : List Block) → ((b : ℕ) (block : Block) → slice_get blocks b ≡ Some block → All (IsPlaceableLine statics f) block.lines.items) → All FitsBlock blocks
blocks_fit statics f [] k = All-nil FitsBlock
blocks_fit statics f (block ∷ blocks) k =
    All-cons FitsBlock block blocks (lines_fit statics f block.lines.items (k 0 block refl)) (blocks_fit statics f blocks (λ b x at. k (suc b) x at))

pub all_fit : (f : Function) → IsAble f → All FitsBlock f.blocks.items
all_fit f k = blocks_fit k.statics f f.blocks.items k.placeable.lines

-- homes can be chosen for each function

functions_able : (functions : List Function) (statics : ℕ) (fs : List Function) → All (IsFunction functions) fs → All (IsPlaceableFunction statics) fs → All IsAble fs
functions_able functions statics [] w k = All-nil IsAble
functions_able functions statics (f ∷ fs) w k =
    All-cons IsAble f fs
    (record { functions = functions; statics = statics; whole = All-head (IsFunction functions) f fs w; placeable = All-head (IsPlaceableFunction statics) f fs k })
    (functions_able functions statics fs (All-tail (IsFunction functions) f fs w) (All-tail (IsPlaceableFunction statics) f fs k))

pub all_able : (u : Code) → IsWellFormed u → IsPlaceable u → All IsAble u.functions.items
all_able u w k = functions_able u.functions.items (length u.statics.items) u.functions.items w.functions k.functions

-- all are placed

all_done : (n i : ℕ) (xs ys : List Function) → length ys ≤ i → PlacesFunctions n (take i xs) (take i ys) → drop i ys ≡ drop i xs → PlacesFunctions n xs ys
all_done n i [] [] le done left = tt
all_done n zero [] (y ∷ ys) le done left = absurd (omega arith)
all_done n (suc i) [] (y ∷ ys) le done left = absurd done
all_done n zero (x ∷ xs) [] le done left = absurd cc
all_done n (suc i) (x ∷ xs) [] le done left = absurd done
all_done n zero (x ∷ xs) (y ∷ ys) le done left = absurd (omega arith)
all_done n (suc i) (x ∷ xs) (y ∷ ys) le done left = (done.0, all_done (n + numbers_of_blocks x.blocks.items) i xs ys (omega arith) done.1 left)

record AllPlaced (n : ℕ) (fs gs : List Function) : Type 0 where
  placed : PlacedFunctions fs gs
  from : PlacedFrom n fs gs placed

all_placed : (statics n : ℕ) (fs gs : List Function) → All (IsPlaceableFunction statics) fs → PlacesFunctions n fs gs → AllPlaced n fs gs
all_placed statics n [] [] k s = record { placed = tt; from = tt }
all_placed statics n [] (g ∷ gs) k s = absurd s
all_placed statics n (f ∷ fs) [] k s = absurd s
all_placed statics n (f ∷ fs) (g ∷ gs) k s =
    let m : ℕ = n + numbers_of_blocks f.blocks.items in
    let one = placed_of statics n m f g (All-head (IsPlaceableFunction statics) f fs k) s.0 in
    let rest = all_placed statics m fs gs (All-tail (IsPlaceableFunction statics) f fs k) s.1 in
    record { placed = (one.placed, rest.placed); from = (one.first, one.few, rest.from) }

-- the functions of a unit after so many, which are all
pub record AllDone (u v : Code) : Type 0 where
  pub rest : v ≡ record u { functions = v.functions }
  pub functions : PlacesFunctions (past_functions 0 u.functions.items) u.functions.items v.functions.items

pub all_of : (u v : Code) (i : ℕ) (ys : List Function) → v ≡ record u { functions = v.functions } → v.functions.items ≡ ys → length ys ≤ i → PlacesFunctions (past_functions 0 u.functions.items) (take i u.functions.items) (take i ys) → drop i ys ≡ drop i u.functions.items → AllDone u v
all_of u v i ys rest items le done left =
    let first : ℕ = past_functions 0 u.functions.items in
    record { rest = rest; functions = subst (λ z. PlacesFunctions first u.functions.items z) (sym items) (all_done first i u.functions.items ys le done left) }

pub well_placed : (u v : Code) → IsPlaceable u → AllDone u v → IsWellPlaced u v
well_placed u v k s =
    let first : ℕ = past_functions 0 u.functions.items in
    let p = all_placed (length u.statics.items) first u.functions.items v.functions.items k.functions s.functions in
    record {
      placed = record { functions = p.placed; rest = s.rest };
      first = first;
      beyond = functions_past 0 u.functions.items;
      from = p.from;
    }

pub leaves : (u v : Code) → AllDone u v → LeavesLeaves u v
leaves u v s = record {
  none = λ i f g at at' leaf tight enters.
      no_slots (past_functions 0 u.functions.items) i u.functions.items v.functions.items f g s.functions at at' leaf tight enters;
}
