-- Promoted code costs no more.
use Rattle.std.proofs.Common.{◌≡◌, ℕ, ◌≤◌, List, [], ◌∷◌, Option, Some, None, refl, ap, arith}
use Rattle.std.specs.Prelude.{map}
use Rattle.im_num.specs.declared.kind.Kind.{Kind}
use Rattle.im_num.specs.declared.kind.Kind.TheVariants.{I8, U8, I16, U16, I32, U32, Ptr}
use Rattle.im_block.specs.declared.code.Place.{Place}
use Rattle.im_block.specs.declared.code.Place.TheVariants.{Static, Local, Through}
use Rattle.im_block.specs.declared.code.Line.{Line}
use Rattle.im_block.specs.declared.code.Line.TheVariants.{Put, PutNull, Copy, Convert, Unary, Not, Compute, Compare, Move, Distance, Address, Read, Write, Reload, Spill, Cut, Call, Serve}
use Rattle.im_block.specs.declared.code.Block.{Block}
use Rattle.im_block.specs.declared.unit.Function.{Function}
use Rattle.im_block.specs.Shape.{sum_of, cost, exit_cost, block_cost, function_cost}
use Rattle.im_block.proofs.Unitwise.{zip_less}
use Rattle.im_promote.specs.Promote.{taken_into, read_as, write_as, home_of, promoted, PromotesBlock, PromotesFunction}

taken_cost : (kind : Kind) (r from : ℕ) → cost (taken_into kind r from) ≤ 12
taken_cost I8 r from = omega arith
taken_cost U8 r from = omega arith
taken_cost I16 r from = omega arith
taken_cost U16 r from = omega arith
taken_cost I32 r from = omega arith
taken_cost U32 r from = omega arith
taken_cost Ptr r from = omega arith

module _ (homes : ℕ → Option ℕ) where
  read_cost : (to : ℕ) (place : Place) (kind : Kind) (access : ℕ) (home : Option ℕ) → home_of homes place ≡ home → cost (read_as home to place kind access) ≤ cost (Read to place kind access)
  read_cost to place kind access None e = omega arith
  read_cost to (Static object offset) kind access (Some r) e = cc
  read_cost to (Through pointer offset) kind access (Some r) e = cc
  read_cost to (Local object offset) kind access (Some r) e = omega arith

  write_cost : (place : Place) (kind : Kind) (from access : ℕ) (home : Option ℕ) → home_of homes place ≡ home → cost (write_as home place kind from access) ≤ cost (Write place kind from access)
  write_cost place kind from access None e = omega arith
  write_cost (Static object offset) kind from access (Some r) e = cc
  write_cost (Through pointer offset) kind from access (Some r) e = cc
  write_cost (Local object offset) kind from access (Some r) e = taken_cost kind r from

  line_cost : (line : Line) → cost (promoted homes line) ≤ cost line
  line_cost (Put to z) = omega arith
  line_cost (PutNull to) = omega arith
  line_cost (Copy to from) = omega arith
  line_cost (Convert to kind from) = omega arith
  line_cost (Unary to op kind from) = omega arith
  line_cost (Not to from) = omega arith
  line_cost (Compute to op kind left right) = omega arith
  line_cost (Compare to op kind left right) = omega arith
  line_cost (Move to size back pointer by) = omega arith
  line_cost (Distance to size left right) = omega arith
  line_cost (Address to place) = omega arith
  line_cost (Read to place kind access) = read_cost to place kind access (home_of homes place) refl
  line_cost (Write place kind from access) = write_cost place kind from access (home_of homes place) refl
  line_cost (Reload to slot access) = omega arith
  line_cost (Spill slot from access) = omega arith
  line_cost (Cut cause) = omega arith
  line_cost (Call to i first many) = omega arith
  line_cost (Serve to service None) = omega arith
  line_cost (Serve to service (Some from)) = omega arith

  lines_cost : (lines : List Line) → sum_of cost (map (promoted homes) lines) ≤ sum_of cost lines
  lines_cost [] = omega arith
  lines_cost (line ∷ lines) =
      let a = line_cost line in
      let b = lines_cost lines in
      omega (arith, a, b)

  one_block : (f : Function) (x y : Block) → PromotesBlock homes f x y → block_cost y ≤ block_cost x
  one_block f x y h =
      let a = lines_cost x.lines.items in
      let same : sum_of cost y.lines.items ≡ sum_of cost (map (promoted homes) x.lines.items) = ap (λ l. sum_of cost l) h.lines in
      let exit : exit_cost y.exit ≡ exit_cost x.exit = ap exit_cost h.exit in
      omega (arith, a, same, exit)

pub costs : (homes : ℕ → Option ℕ) (old new : Function) → PromotesFunction homes old new → function_cost new ≤ function_cost old
costs homes old new p = let a = zip_less (PromotesBlock homes old) block_cost (one_block homes old) old.blocks.items new.blocks.items p.blocks in omega (arith, a)
