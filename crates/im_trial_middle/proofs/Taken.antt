-- A unit of two functions, of which the first has the lines of a row: placing takes it.
use Rattle.std.proofs.Common.{◌≡◌, ℕ, zero, suc, ◌+◌, List, [], ◌∷◌, ◌++◌, length, take, None, Some, sym, subst, arith}
use Rattle.std.specs.Prelude.{slice_get, All}
use Rattle.std.proofs.lemmas.List.Elements.{All-nil, All-weaker}
use Rattle.im_block.specs.declared.code.Place.{Place}
use Rattle.im_block.specs.declared.code.Place.TheVariants.{Static, Local, Through}
use Rattle.im_block.specs.declared.code.Line.{Line}
use Rattle.im_block.specs.declared.code.Line.TheVariants.{Put, PutNull, Copy, Convert, Unary, Not, Compute, Compare, Move, Distance, Address, Read, Write, Reload, Spill, Cut, Call, Serve}
use Rattle.im_block.specs.declared.code.Exit.{Exit}
use Rattle.im_block.specs.declared.code.Exit.TheVariants.{Jump, Turn, Branch, Return}
use Rattle.im_block.specs.declared.code.Block.{Block}
use Rattle.im_block.specs.declared.unit.Static.{Static as StaticOf}
use Rattle.im_block.specs.declared.unit.Function.{Function}
use Rattle.im_block.specs.declared.unit.Unit.{Unit as Code}
use Rattle.im_block.specs.Shape.{sum_of}
use Rattle.im_block.specs.Wellformed.{LineWithin, ExitWithin, LineThere, Takes, IsBlock, IsFunction, IsStatic, AreApart, accesses_of_blocks, accesses_of_functions}
use Rattle.im_alloc_placed.specs.Operands.{PlaceFrom}
use Rattle.im_alloc_placed.specs.Placeable.{LineFrom, ExitFrom, Receives, first_free, IsPlaceableFunction}
use Rattle.im_block.proofs.Unitwise.{all_at}
use Rattle.im_alloc.specs.Sample.{IsTaken}
use Rattle.im_trial_middle.specs.Unplaced.{IsFirst, IsSecond, CallsSecond, IsOpenBlock, Rises}
use Rattle.im_trial_middle.proofs.Two.{all_of_two}
use Rattle.im_trial_middle.proofs.Rising.{rises_apart}

-- where no register is a parameter's

place_from : (place : Place) → PlaceFrom 0 place
place_from (Static object offset) = tt
place_from (Local object offset) = tt
place_from (Through pointer offset) = omega arith

line_from : (line : Line) → LineFrom 0 line
line_from (Put to z) = omega arith
line_from (PutNull to) = omega arith
line_from (Copy to from) = (omega arith, omega arith)
line_from (Convert to kind from) = (omega arith, omega arith)
line_from (Unary to op kind from) = (omega arith, omega arith)
line_from (Not to from) = (omega arith, omega arith)
line_from (Compute to op kind left right) = (omega arith, omega arith, omega arith)
line_from (Compare to op kind left right) = (omega arith, omega arith, omega arith)
line_from (Move to size back pointer by) = (omega arith, omega arith, omega arith)
line_from (Distance to size left right) = (omega arith, omega arith, omega arith)
line_from (Address to place) = (omega arith, place_from place)
line_from (Read to place kind access) = (omega arith, place_from place)
line_from (Write place kind from access) = (place_from place, omega arith)
line_from (Reload to slot access) = omega arith
line_from (Spill slot from access) = omega arith
line_from (Cut cause) = tt
line_from (Call to i first count) = (omega arith, omega arith)
line_from (Serve to service None) = omega arith
line_from (Serve to service (Some from)) = (omega arith, omega arith)

lines_from : (lines : List Line) → All (LineFrom 0) lines
lines_from lines k d less = line_from _

exit_from : (exit : Exit) → ExitFrom 0 exit
exit_from (Jump b) = tt
exit_from (Turn b) = tt
exit_from (Branch on x y) = omega arith
exit_from (Return None) = tt
exit_from (Return (Some r)) = omega arith

receives : (lines : List Line) → Receives 0 lines
receives [] = tt
receives (Write place kind from access ∷ lines) = receives lines
receives (Cut cause ∷ lines) = receives lines
receives (Copy to from ∷ lines) = (omega arith, receives lines)
receives (Convert to kind from ∷ lines) = (omega arith, receives lines)
receives (line ∷ lines) = lines_from (line ∷ lines)

line_there : (fs : List Function) → Takes (slice_get fs 1) 2 → (line : Line) → CallsSecond line → LineThere fs line
line_there fs takes (Call to function first count) h =
    let one = h.0 in
    let two = h.1 in
    rw (one, two) takes
line_there fs takes line h = tt

block_of : (fs : List Function) (f : Function) → Takes (slice_get fs 1) 2 → f.register_count ≡ 32 → (block : Block) → IsOpenBlock f block → IsBlock fs f block
block_of fs f takes count block is = record {
  lines_within = subst (λ n. All (LineWithin n) block.lines.items) (sym count) is.within;
  exit_within = subst (λ n. ExitWithin n block.exit) (sym count) is.exit;
  lines_there = All-weaker CallsSecond (LineThere fs) (line_there fs takes) block.lines.items is.calls;
  exit_there = is.there;
}

function_of : (fs : List Function) (f : Function) → Takes (slice_get fs 1) 2 → IsFirst f → All (IsOpenBlock f) f.blocks.items → IsFunction fs f
function_of fs f takes is blocks = record {
  parameters = (let none = is.parameters in omega (arith, none));
  received = (let none = is.parameters in let first = is.first_parameter in let count = is.count in omega (arith, none, first, count));
  entry = is.entry;
  objects = is.cells;
  blocks = All-weaker (IsOpenBlock f) (IsBlock fs f) (block_of fs f takes is.count) f.blocks.items blocks;
}

placeable_of : (f : Function) → IsFirst f → All (IsOpenBlock f) f.blocks.items → IsPlaceableFunction 0 f
placeable_of f is blocks =
    let free : first_free f ≡ 0 = (let none = is.parameters in let first = is.first_parameter in omega (arith, none, first)) in
    record {
      registers = is.registers;
      slots = is.slots;
      first = is.first_parameter;
      room = is.room;
      lines = λ b block at. (let found = all_at (IsOpenBlock f) f.blocks.items b block blocks at in found.placeable);
      others = λ b block at other. subst (λ n. All (LineFrom n) block.lines.items) (sym free) (lines_from block.lines.items);
      entry = λ block at. subst (λ n. Receives n block.lines.items) (sym free) (receives block.lines.items);
      exits = λ b block at. subst (λ n. ExitFrom n block.exit) (sym free) (exit_from block.exit);
      no_return = λ b block at edge. is.parameters;
    }

numbered : (f g : Function) → length f.objects.items ≡ 1 → f.first_object ≡ 0 → g.first_object ≡ 1 → (i : ℕ) (h : Function) → slice_get (f ∷ g ∷ []) i ≡ Some h → h.first_object ≡ 0 + sum_of (λ (k : Function). length k.objects.items) (take i (f ∷ g ∷ []))
numbered f g one none first zero h e = let same : f ≡ h = cc in subst (λ (k : Function). k.first_object ≡ 0) same none
numbered f g one none first (suc zero) h e =
    let same : g ≡ h = cc in
    let second : h.first_object ≡ 1 = subst (λ (k : Function). k.first_object ≡ 1) same first in
    omega (arith, second, one)
numbered f g one none first (suc (suc i)) h e = cc

pub taken : (u : Code) (f g : Function) → u.statics.items ≡ [] → u.functions.items ≡ f ∷ g ∷ [] → u.main ≡ 0 → IsFirst f → All (IsOpenBlock f) f.blocks.items → Rises 0 (accesses_of_blocks f.blocks.items ++ []) → IsSecond g → IsTaken u
taken u f g statics functions main one blocks rises two =
    let called : Takes (slice_get (f ∷ g ∷ []) 1) 2 = two.parameters in
    let all : Rises 0 (accesses_of_functions (f ∷ g ∷ [])) = subst (λ xs. Rises 0 (accesses_of_blocks f.blocks.items ++ (xs ++ []))) (sym two.accesses) rises in
    record {
      well_formed = record {
        statics = subst (λ ss. All (IsStatic ss) ss) (sym statics) (All-nil (IsStatic []));
        functions = subst (λ fs. All (IsFunction fs) fs) (sym functions) (all_of_two (IsFunction (f ∷ g ∷ [])) f g (function_of (f ∷ g ∷ []) f called one blocks) (two.function (f ∷ g ∷ [])));
        numbered = λ i h e.
            let t = numbered f g one.objects one.first_object two.first_object i h (subst (λ fs. slice_get fs i ≡ Some h) functions e) in
            rw (statics, functions) t;
        main = rw (main, functions) one.parameters;
        accesses = subst (λ fs. AreApart (accesses_of_functions fs)) (sym functions) (rises_apart _ all);
      };
      placeable = record {
        functions = subst (λ fs. All (IsPlaceableFunction (length u.statics.items)) fs) (sym functions) (subst (λ (ss : List StaticOf). All (IsPlaceableFunction (length ss)) (f ∷ g ∷ [])) (sym statics) (all_of_two (IsPlaceableFunction 0) f g (placeable_of f one blocks) two.placeable));
      };
    }
