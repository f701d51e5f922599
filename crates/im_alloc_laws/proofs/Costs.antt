-- What a line becomes costs at most what the line did.
use Rattle.std.proofs.Common.{◌≡◌, ℕ, zero, suc, ◌+◌, ◌*◌, ◌≤◌, List, [], ◌∷◌, Some, None, ap, arith, length}
use Rattle.im_num.specs.declared.values.Cause.TheVariants.{Return as ReturnCut}
use Rattle.im_block.specs.declared.code.Place.{Place}
use Rattle.im_block.specs.declared.code.Place.TheVariants.{Static, Local, Through}
use Rattle.im_block.specs.declared.code.Line.{Line}
use Rattle.im_block.specs.declared.code.Line.TheVariants.{Put, PutNull, Copy, Convert, Unary, Not, Compute, Compare, Move, Distance, Address, Read, Write, Reload, Spill, Cut, Call, Serve}
use Rattle.im_block.specs.declared.code.Exit.{Exit}
use Rattle.im_block.specs.declared.code.Exit.TheVariants.{Jump, Turn, Branch, Return}
use Rattle.im_block.specs.declared.code.Block.{Block}
use Rattle.im_block.specs.declared.unit.Function.{Function}
use Rattle.im_block.specs.declared.unit.Unit.{Unit as Code}
use Rattle.im_block.specs.Shape.{sum_of, with_cut, place_registers, cost, exit_words, exit_cost, block_cost, function_cost, placed_block_cost, placed_cost}
use Rattle.im_alloc_relation.specs.Homes.{Home, InRegister, InSlot, numbers_kept, load, reg, save, into, give, bring, load_place, on_place, put_line, needed, put_lines, exit_lines, put_exit}
use Rattle.im_alloc_relation.specs.Placing.{PlacedBlock, PlacedBlocks, PlacedFunctions, IsPlaced}
use Rattle.im_alloc_laws.proofs.Needed.{needed_cost}

abbrev words : List Line → ℕ
words lines = sum_of with_cut lines

load_words : (home : Home) (s a : ℕ) (rest : List Line) → words (load home s a rest) ≤ 4 + words rest
load_words (InRegister r) s a rest = omega arith
load_words (InSlot m) s a rest = omega arith

save_words : (home : Home) (a : ℕ) (rest : List Line) → words (save home a rest) ≤ 4 + words rest
save_words (InRegister r) a rest = omega arith
save_words (InSlot m) a rest = omega arith

into_words : (home : Home) (k a : ℕ) (rest : List Line) → words (into home k a rest) ≤ 4 + words rest
into_words (InRegister r) k a rest = omega arith
into_words (InSlot m) k a rest = omega arith

give_words : (home : Home) (a : ℕ) (rest : List Line) → words (give home a rest) ≤ 4 + words rest
give_words (InRegister r) a rest = omega arith
give_words (InSlot m) a rest = omega arith

place_words : (h : ℕ → Home) (place : Place) (a : ℕ) (rest : List Line) → words (load_place h place a rest) ≤ 4 * place_registers place + words rest
place_words h (Static object offset) a rest = omega arith
place_words h (Local object offset) a rest = omega arith
place_words h (Through pointer offset) a rest = let w = load_words (h pointer) 7 a rest in omega arith

bring_words : (h : ℕ → Home) (k first count a : ℕ) (rest : List Line) → words (bring h k first count a rest) ≤ 4 * count + words rest
bring_words h k first zero a rest = omega arith
bring_words h k first (suc count) a rest =
    let w = into_words (h first) k a (bring h (k + 1) (first + 1) count (a + 1) rest) in
    let b = bring_words h (k + 1) (first + 1) count (a + 1) rest in
    omega arith

set_words : (line : Line) (home : Home) (a : ℕ) (rest : List Line) → words (line ∷ save home a rest) ≤ with_cut line + 4 + words rest
set_words line home a rest = let w = save_words home a rest in omega arith

one_words : (from : Home) (n : ℕ) (line : Line) (home : Home) (a : ℕ) (rest : List Line) → words (load from 7 n (line ∷ save home a rest)) ≤ with_cut line + 8 + words rest
one_words from n line home a rest =
    let w = set_words line home a rest in
    let l = load_words from 7 n (line ∷ save home a rest) in
    omega arith

two_words : (left right : Home) (n : ℕ) (line : Line) (home : Home) (a : ℕ) (rest : List Line) → words (load left 7 n (load right 8 (n + 1) (line ∷ save home a rest))) ≤ with_cut line + 12 + words rest
two_words left right n line home a rest =
    let w = set_words line home a rest in
    let r = load_words right 8 (n + 1) (line ∷ save home a rest) in
    let l = load_words left 7 n (load right 8 (n + 1) (line ∷ save home a rest)) in
    omega arith

line_words : (h : ℕ → Home) (n : ℕ) (line : Line) (rest : List Line) → words (put_line h n line rest) ≤ cost line + words rest
line_words h n (Put to z) rest = let w = set_words (Put (reg (h to) 7) z) (h to) (n + 2) rest in omega arith
line_words h n (PutNull to) rest = let w = set_words (PutNull (reg (h to) 7)) (h to) (n + 2) rest in omega arith
line_words h n (Copy to from) rest = let w = one_words (h from) n (Copy (reg (h to) 7) (reg (h from) 7)) (h to) (n + 2) rest in omega arith
line_words h n (Convert to kind from) rest = let w = one_words (h from) n (Convert (reg (h to) 7) kind (reg (h from) 7)) (h to) (n + 2) rest in omega arith
line_words h n (Unary to op kind from) rest = let w = one_words (h from) n (Unary (reg (h to) 7) op kind (reg (h from) 7)) (h to) (n + 2) rest in omega arith
line_words h n (Not to from) rest = let w = one_words (h from) n (Not (reg (h to) 7) (reg (h from) 7)) (h to) (n + 2) rest in omega arith
line_words h n (Compute to op kind left right) rest = let w = two_words (h left) (h right) n (Compute (reg (h to) 7) op kind (reg (h left) 7) (reg (h right) 8)) (h to) (n + 2) rest in omega arith
line_words h n (Compare to op kind left right) rest = let w = two_words (h left) (h right) n (Compare (reg (h to) 7) op kind (reg (h left) 7) (reg (h right) 8)) (h to) (n + 2) rest in omega arith
line_words h n (Move to size back pointer by) rest = let w = two_words (h pointer) (h by) n (Move (reg (h to) 7) size back (reg (h pointer) 7) (reg (h by) 8)) (h to) (n + 2) rest in omega arith
line_words h n (Distance to size left right) rest = let w = two_words (h left) (h right) n (Distance (reg (h to) 7) size (reg (h left) 7) (reg (h right) 8)) (h to) (n + 2) rest in omega arith
line_words h n (Address to place) rest =
    let line : Line = Address (reg (h to) 7) (on_place h place) in
    let w = set_words line (h to) (n + 2) rest in
    let p = place_words h place n (line ∷ save (h to) (n + 2) rest) in
    omega arith
line_words h n (Read to place kind access) rest =
    let line : Line = Read (reg (h to) 7) (on_place h place) kind access in
    let w = set_words line (h to) (n + 2) rest in
    let p = place_words h place n (line ∷ save (h to) (n + 2) rest) in
    omega arith
line_words h n (Write place kind from access) rest =
    let line : Line = Write (on_place h place) kind (reg (h from) 8) access in
    let w = load_words (h from) 8 (n + 1) (line ∷ rest) in
    let p = place_words h place n (load (h from) 8 (n + 1) (line ∷ rest)) in
    omega arith
line_words h n (Reload to slot access) rest = omega arith
line_words h n (Spill slot from access) rest = omega arith
line_words h n (Cut cause) rest = omega arith
line_words h n (Call to i first count) rest =
    let g = give_words (h to) (n + 2) rest in
    let b = bring_words h 10 first count (n + 3) (Call 10 i 10 count ∷ Cut ReturnCut ∷ give (h to) (n + 2) rest) in
    omega arith
line_words h n (Serve to service None) rest = let g = give_words (h to) (n + 2) rest in omega arith
line_words h n (Serve to service (Some from)) rest =
    let g = give_words (h to) (n + 2) rest in
    let i = into_words (h from) 10 n (Serve 10 service (Some 10) ∷ Cut ReturnCut ∷ give (h to) (n + 2) rest) in
    omega arith

lines_words : (h : ℕ → Home) (n : ℕ) (lines tail : List Line) → words (put_lines h n lines tail) ≤ sum_of cost lines + words tail
lines_words h n [] tail = omega arith
lines_words h n (line ∷ lines) tail =
    let one = line_words h n line (put_lines h (n + numbers_kept) lines tail) in
    let rest = lines_words h (n + numbers_kept) lines tail in
    omega arith

exit_cost_kept : (h : ℕ → Home) (n : ℕ) (exit : Exit) → words (exit_lines h n exit) + (1 + exit_words (put_exit h exit)) ≤ exit_cost exit
exit_cost_kept h n (Jump b) = omega arith
exit_cost_kept h n (Turn b) = omega arith
exit_cost_kept h n (Branch on a b) = let w = load_words (h on) 7 n [] in omega arith
exit_cost_kept h n (Return None) = omega arith
exit_cost_kept h n (Return (Some r)) = let w = into_words (h r) 10 n [] in omega arith

block_words : (h : ℕ → Home) (n : ℕ) (x y : Block) → PlacedBlock h n x y → placed_block_cost y ≤ block_cost x
block_words h n x y p =
    let m : ℕ = n + numbers_kept * length (needed x.exit x.lines.items) in
    let a = lines_words h n (needed x.exit x.lines.items) (exit_lines h m x.exit) in
    let b = exit_cost_kept h m x.exit in
    let e : words y.lines.items ≡ words (put_lines h n (needed x.exit x.lines.items) (exit_lines h m x.exit)) = ap words p.lines in
    let less = needed_cost x.exit x.lines.items in
    let f : exit_words y.exit ≡ exit_words (put_exit h x.exit) = ap exit_words p.exit in
    omega arith

blocks_words : (h : ℕ → Home) (n : ℕ) (xs ys : List Block) → PlacedBlocks h n xs ys → sum_of placed_block_cost ys ≤ sum_of block_cost xs
blocks_words h n [] [] p = omega arith
blocks_words h n [] (y ∷ ys) p = absurd p
blocks_words h n (x ∷ xs) [] p = absurd p
blocks_words h n (x ∷ xs) (y ∷ ys) p =
    let a = block_words h n x y p.0 in
    let b = blocks_words h (n + numbers_kept * suc (length (needed x.exit x.lines.items))) xs ys p.1 in
    omega arith

functions_words : (fs gs : List Function) → PlacedFunctions fs gs → sum_of placed_cost gs ≤ sum_of function_cost fs
functions_words [] [] p = omega arith
functions_words [] (g ∷ gs) p = absurd p
functions_words (f ∷ fs) [] p = absurd p
functions_words (f ∷ fs) (g ∷ gs) p =
    let a = blocks_words p.0.home p.0.first_access f.blocks.items g.blocks.items p.0.blocks in
    let b = functions_words fs gs p.1 in
    omega arith

pub costs : (u v : Code) → IsPlaced u v → sum_of placed_cost v.functions.items ≤ sum_of function_cost u.functions.items
costs u v p = functions_words u.functions.items v.functions.items p.functions
