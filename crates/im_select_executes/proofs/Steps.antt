-- The steps of placed code are few for its words, and the cuts too.
use Rattle.std.proofs.Common.{◌≡◌, ℕ, ◌+◌, ◌-◌, ◌*◌, ◌/◌, ◌≤◌, Bool, true, false, cond, List, [], ◌∷◌, length, refl, arith}
use Rattle.std.specs.Prelude.{◌==◌, ◌&&◌, if◌then◌else◌, Option, Some, None}
use Rattle.std.proofs.lemmas.Bool.Decides.{nat_tests}
use Rattle.im_num.specs.declared.kind.Kind.{Kind}
use Rattle.im_num.specs.declared.kind.Kind.TheVariants.{I8, U8, I16, U16, I32, U32, Ptr}
use Rattle.im_num.specs.Kinds.{kind_size}
use Rattle.im_block.specs.declared.code.Line.{Line}
use Rattle.im_block.specs.declared.code.Line.TheVariants.{Put, PutNull, Copy, Convert, Unary, Not, Compute, Compare, Move, Distance, Address, Read, Write, Reload, Spill, Cut, Call, Serve}
use Rattle.im_block.specs.declared.code.Exit.{Exit}
use Rattle.im_block.specs.declared.code.Exit.TheVariants.{Jump, Turn, Branch, Return}
use Rattle.im_block.specs.declared.code.Block.{Block}
use Rattle.im_block.specs.declared.unit.Function.{Function}
use Rattle.im_block.specs.declared.unit.Unit.{Unit as Code}
use Rattle.im_block.specs.Shape.{narrowing, exit_words, sum_of, blocks_weight, total}
use Rattle.im_select_relation.specs.Jumps.{jump_of, one_if, jumps_in, are_few}
use Rattle.im_select_relation.specs.Linking.{Linking}
use Rattle.im_select_relation.specs.Law.{steps_of, steps}
use Rattle.im_select_executes.specs.Executing.{line_halves, words_by, block_words, jump_words, function_words, cuts_in, cuts}

narrow : (k : Kind) → narrowing k ≤ 2
narrow I8 = omega arith
narrow U8 = omega arith
narrow I16 = omega arith
narrow U16 = omega arith
narrow I32 = omega arith
narrow U32 = omega arith
narrow Ptr = omega arith

-- a line that may be nothing
nothing_or : (b : Bool) (n : ℕ) → n ≤ 20 → cond b 0 n ≤ 20 * cond b 0 1
nothing_or true n h = omega arith
nothing_or false n h = omega arith

few_line : (p : Linking) (line : Line) → steps_of p line ≤ 20 * line_halves line
few_line p (Put to z) = omega arith
few_line p (PutNull to) = omega arith
few_line p (Copy to from) = nothing_or (to == from) 1 (omega arith)
few_line p (Convert to kind from) = nothing_or (kind_size kind == 4 && to == from) 2 (omega arith)
few_line p (Unary to op kind from) = let k = narrow kind in omega arith
few_line p (Not to from) = omega arith
few_line p (Compute to op kind left right) = let k = narrow kind in omega arith
few_line p (Compare to op kind left right) = omega arith
few_line p (Move to size back pointer by) = omega arith
few_line p (Distance to size left right) = omega arith
few_line p (Address to place) = omega arith
few_line p (Read to place kind access) = omega arith
few_line p (Write place kind from access) = omega arith
few_line p (Reload to slot access) = omega arith
few_line p (Spill slot from access) = omega arith
few_line p (Cut cause) = omega arith
few_line p (Call to i first count) = omega arith
few_line p (Serve to service None) = omega arith
few_line p (Serve to service (Some from)) = omega arith

few_exit : (exit : Exit) → exit_words exit ≤ 7
few_exit (Jump b) = omega arith
few_exit (Turn b) = omega arith
few_exit (Branch on x y) = omega arith
few_exit (Return from) = omega arith

jumps_most : (blocks : List Block) → jumps_in blocks ≤ length blocks
jumps_most [] = omega arith
jumps_most (x ∷ xs) = by (jump_of x.lines.items x.exit) (jumps_most xs)
  where
    by : (o : Option ℕ) → jumps_in xs ≤ length xs → one_if o + jumps_in xs ≤ length (x ∷ xs)
    by None h = omega arith
    by (Some c) h = omega arith

module _ (p : Linking) (short : p.longest ≤ 120) where
  few_lines : (lines : List Line) → sum_of (steps_of p) lines ≤ 20 * sum_of line_halves lines
  few_lines [] = omega arith
  few_lines (line ∷ lines) = let a = few_line p line in let b = few_lines lines in omega arith

  few_block : (lines : List Line) (exit : Exit) → sum_of (steps_of p) lines + exit_words exit + 16 ≤ 66 * words_by (jump_of lines exit) lines + 17 * one_if (jump_of lines exit)
  few_block [] (Jump b) = omega arith
  few_block [] (Turn b) = omega arith
  few_block [] (Branch on x y) = omega arith
  few_block [] (Return from) = omega arith
  few_block (line ∷ lines) exit =
      let here = few_lines (line ∷ lines) in
      let last = few_exit exit in
      omega arith

  few_blocks : (blocks : List Block) → blocks_weight (steps p) blocks + 16 * length blocks ≤ 66 * sum_of block_words blocks + 17 * jumps_in blocks
  few_blocks [] = omega arith
  few_blocks (x ∷ xs) =
      let here = few_block x.lines.items x.exit in
      let rest = few_blocks xs in
      omega arith

  -- where those that only jump are few, the others pay for them
  few_function : (blocks : List Block) → 10 + blocks_weight (steps p) blocks ≤ 66 * (1 + sum_of block_words blocks + jump_words blocks)
  few_function blocks = by (are_few blocks) refl
    where
      by : (t : Bool) → are_few blocks ≡ t → 10 + blocks_weight (steps p) blocks ≤ 66 * (1 + sum_of block_words blocks + (if t then 0 else jumps_in blocks))
      by true e =
          let all = few_blocks blocks in
          let most = jumps_most blocks in
          let few : jumps_in blocks / 16 ≤ length blocks - jumps_in blocks = grind (arith, nat_tests) in
          omega arith
      by false e = let all = few_blocks blocks in let most = jumps_most blocks in omega arith

  few_functions : (fs : List Function) → sum_of (λ (f : Function). (steps p).entry + blocks_weight (steps p) f.blocks.items) fs ≤ 66 * sum_of function_words fs
  few_functions [] = omega arith
  few_functions (f ∷ fs) = let here = few_function f.blocks.items in let rest = few_functions fs in omega arith

  pub few_steps : (u : Code) (w : ℕ) → 3 + sum_of function_words u.functions.items ≤ w → 34 + 15 + total (steps p) u ≤ 66 * w
  few_steps u w words = let few = few_functions u.functions.items in omega arith

-- cuts

one_cut : (line : Line) → 2 * cuts_in line ≤ line_halves line
one_cut (Cut cause) = omega arith
one_cut line = omega arith

cuts_lines : (lines : List Line) → 2 * sum_of cuts_in lines ≤ sum_of line_halves lines
cuts_lines [] = omega arith
cuts_lines (line ∷ lines) = let a = one_cut line in let b = cuts_lines lines in omega arith

cuts_block : (lines : List Line) (exit : Exit) → sum_of cuts_in lines ≤ words_by (jump_of lines exit) lines
cuts_block [] (Jump b) = omega arith
cuts_block [] (Turn b) = omega arith
cuts_block [] (Branch on x y) = omega arith
cuts_block [] (Return from) = omega arith
cuts_block (line ∷ lines) exit = let a = cuts_lines (line ∷ lines) in omega arith

module _ (p : Linking) where
  cuts_blocks : (blocks : List Block) → blocks_weight (cuts p) blocks ≤ sum_of block_words blocks
  cuts_blocks [] = omega arith
  cuts_blocks (x ∷ xs) = let a = cuts_block x.lines.items x.exit in let b = cuts_blocks xs in omega arith

  cuts_functions : (fs : List Function) → sum_of (λ (f : Function). (cuts p).entry + blocks_weight (cuts p) f.blocks.items) fs ≤ sum_of function_words fs
  cuts_functions [] = omega arith
  cuts_functions (f ∷ fs) = let a = cuts_blocks f.blocks.items in let b = cuts_functions fs in omega arith

  pub few_cuts : (u : Code) (w : ℕ) → p.flips ≤ 3 → 3 + sum_of function_words u.functions.items ≤ w → total (cuts p) u ≤ w
  few_cuts u w few words = let a = cuts_functions u.functions.items in omega arith
