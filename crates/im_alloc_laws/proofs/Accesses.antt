-- Placed code's accesses have numbers of their own.
use Rattle.std.proofs.Common.{◌≡◌, ℕ, zero, suc, ◌+◌, ◌*◌, ◌<◌, ◌≤◌, inl, inr, ⊎_elim, List, [], ◌∷◌, ◌++◌, Some, None, refl, sym, ap, ◌∙◌, subst, append_assoc, arith, length}
use Rattle.std.specs.Prelude.{slice_get, Bool}
use Rattle.im_num.specs.declared.values.Cause.TheVariants.{Return as ReturnCut}
use Rattle.im_block.specs.declared.code.Place.{Place}
use Rattle.im_block.specs.declared.code.Place.TheVariants.{Static, Local, Through}
use Rattle.im_block.specs.declared.code.Line.{Line}
use Rattle.im_block.specs.declared.code.Line.TheVariants.{Put, PutNull, Copy, Convert, Unary, Not, Compute, Compare, Move, Distance, Address, Read, Write, Reload, Spill, Cut, Call, Serve}
use Rattle.im_block.specs.declared.code.Exit.{Exit}
use Rattle.im_block.specs.declared.code.Exit.TheVariants.{Jump, Turn, Branch, Return}
use Rattle.im_block.specs.declared.code.Block.{Block}
use Rattle.im_block.specs.declared.unit.Function.{Function}
use Rattle.im_block.specs.declared.unit.Unit.{Unit as Code}
use Rattle.im_block.specs.Sections.{Has}
use Rattle.im_block.specs.Wellformed.{AreApart, accesses_of_line, accesses_of_lines, accesses_of_blocks, accesses_of_functions}
use Rattle.im_alloc_relation.specs.Homes.{Home, InRegister, InSlot, load, reg, save, into, give, bring, load_place, on_place, put_line, needed, put_lines, exit_lines}
use Rattle.im_alloc_relation.specs.Placing.{ValidLine, Valid, PlacedBlock, PlacedBlocks, PlacedFunctions}
use Rattle.im_alloc_laws.specs.Numbered.{numbers_of_blocks, PlacedFrom, IsWellPlaced}
use Rattle.im_alloc_laws.proofs.Needed.{needed_accesses, needed_valid}
use Rattle.im_alloc_laws.proofs.Pieces.{put_app}
use Rattle.im_alloc_laws.proofs.Numbers.{Once, once_of, apart_of, Fresh, Below, fresh_none, fresh_wide, fresh_new, fresh_own, fresh_join, split_left, split_right, below_left, below_right, below_more}

-- at most eight arguments

abbrev pub Few : Line → Type 0
Few (Call to i first count) = count ≤ 8
Few line = Unit {0}

abbrev pub FewLines : List Line → Type 0
FewLines [] = Unit {0}
FewLines (line ∷ lines) = Few line × FewLines lines

few_line : (h : ℕ → Home) (line : Line) (after : ℕ → Bool) → ValidLine h line after → Few line
few_line h (Call to i first count) after v = v.1.few
few_line h line after v = tt

pub few_lines : (h : ℕ → Home) (live : ℕ → ℕ → Bool) (lines : List Line) (exit : Exit) → Valid h live lines exit → FewLines lines
few_lines h live [] exit v = tt
few_lines h live (line ∷ lines) exit v = (few_line h line _ v.0, few_lines h live lines exit v.1)

-- the pieces of a line

fresh_load : (home : Home) (s a : ℕ) (rest : List Line) (old : List ℕ) (low high : ℕ) → a < low → low ≤ high → Below old a → Fresh old (accesses_of_lines rest) low high → Fresh old (accesses_of_lines (load home s a rest)) a high
fresh_load (InRegister r) s a rest old low high lt le below h = fresh_wide old (accesses_of_lines rest) low high a high (omega arith) (omega arith) h
fresh_load (InSlot m) s a rest old low high lt le below h =
    fresh_new old (accesses_of_lines rest) low high a lt le (below_more old a low (omega arith) below) (λ k. let b = below a k in omega arith) h

fresh_into : (home : Home) (k a : ℕ) (rest : List Line) (old : List ℕ) (low high : ℕ) → a < low → low ≤ high → Below old a → Fresh old (accesses_of_lines rest) low high → Fresh old (accesses_of_lines (into home k a rest)) a high
fresh_into (InRegister r) k a rest old low high lt le below h = fresh_wide old (accesses_of_lines rest) low high a high (omega arith) (omega arith) h
fresh_into (InSlot m) k a rest old low high lt le below h =
    fresh_new old (accesses_of_lines rest) low high a lt le (below_more old a low (omega arith) below) (λ k. let b = below a k in omega arith) h

below_none : (n : ℕ) → Below [] n
below_none n a h = absurd h

fresh_save : (home : Home) (a high : ℕ) → a < high → Fresh [] (accesses_of_lines (save home a [])) a high
fresh_save (InRegister r) a high lt = fresh_none a high
fresh_save (InSlot m) a high lt = fresh_new [] [] (a + 1) high a (omega arith) (omega arith) (below_none (a + 1)) (λ k. k) (fresh_none (a + 1) high)

fresh_give : (home : Home) (a high : ℕ) → a < high → Fresh [] (accesses_of_lines (give home a [])) a high
fresh_give (InRegister r) a high lt = fresh_none a high
fresh_give (InSlot m) a high lt = fresh_new [] [] (a + 1) high a (omega arith) (omega arith) (below_none (a + 1)) (λ k. k) (fresh_none (a + 1) high)

fresh_place : (h : ℕ → Home) (place : Place) (a : ℕ) (rest : List Line) (old : List ℕ) (low high : ℕ) → a < low → low ≤ high → Below old a → Fresh old (accesses_of_lines rest) low high → Fresh old (accesses_of_lines (load_place h place a rest)) a high
fresh_place h (Static object offset) a rest old low high lt le below f = fresh_wide old (accesses_of_lines rest) low high a high (omega arith) (omega arith) f
fresh_place h (Local object offset) a rest old low high lt le below f = fresh_wide old (accesses_of_lines rest) low high a high (omega arith) (omega arith) f
fresh_place h (Through pointer offset) a rest old low high lt le below f = fresh_load (h pointer) 7 a rest old low high lt le below f

fresh_bring : (h : ℕ → Home) (k first count a : ℕ) (rest : List Line) → Once (accesses_of_lines rest) → Below (accesses_of_lines rest) a → Fresh (accesses_of_lines rest) (accesses_of_lines (bring h k first count a rest)) a (a + count)
fresh_bring h k first zero a rest once below = record { each = λ b t. inl t; once = once }
fresh_bring h k first (suc count) a rest once below =
    let more : List Line = bring h (k + 1) (first + 1) count (a + 1) rest in
    let q = fresh_bring h (k + 1) (first + 1) count (a + 1) rest once (below_more (accesses_of_lines rest) a (a + 1) (omega arith) below) in
    let f = fresh_into (h first) k a more (accesses_of_lines rest) (a + 1) (a + 1 + count) (omega arith) (omega arith) below q in
    fresh_wide (accesses_of_lines rest) (accesses_of_lines (into (h first) k a more)) a (a + 1 + count) a (a + suc count) (omega arith) (omega arith) f

fresh_set : (home : Home) (n : ℕ) → Fresh [] (accesses_of_lines (save home (n + 2) [])) n (n + 16)
fresh_set home n = fresh_wide [] (accesses_of_lines (save home (n + 2) [])) (n + 2) (n + 16) n (n + 16) (omega arith) (omega arith) (fresh_save home (n + 2) (n + 16) (omega arith))

-- a line that has no access of its own
abbrev Silent : Line → Type 0
Silent line = accesses_of_line line ≡ []

behind : (line : Line) (home : Home) (a high : ℕ) → Silent line → a < high → Fresh [] (accesses_of_lines (line ∷ save home a [])) a high
behind line home a high e lt = subst (λ q. Fresh [] (q ++ accesses_of_lines (save home a [])) a high) (sym e) (fresh_save home a high lt)

fresh_one : (from : Home) (n : ℕ) (line : Line) (home : Home) → Silent line → Fresh [] (accesses_of_lines (load from 7 n (line ∷ save home (n + 2) []))) n (n + 16)
fresh_one from n line home e =
    fresh_load from 7 n (line ∷ save home (n + 2) []) [] (n + 2) (n + 16) (omega arith) (omega arith) (below_none n) (behind line home (n + 2) (n + 16) e (omega arith))

fresh_two : (left right : Home) (n : ℕ) (line : Line) (home : Home) → Silent line → Fresh [] (accesses_of_lines (load left 7 n (load right 8 (n + 1) (line ∷ save home (n + 2) [])))) n (n + 16)
fresh_two left right n line home e =
    fresh_load left 7 n (load right 8 (n + 1) (line ∷ save home (n + 2) [])) [] (n + 1) (n + 16) (omega arith) (omega arith) (below_none n)
    (fresh_load right 8 (n + 1) (line ∷ save home (n + 2) []) [] (n + 2) (n + 16) (omega arith) (omega arith) (below_none (n + 1)) (behind line home (n + 2) (n + 16) e (omega arith)))

fresh_call : (h : ℕ → Home) (to i first count n : ℕ) → count ≤ 8 → Fresh [] (accesses_of_lines (put_line h n (Call to i first count) [])) n (n + 16)
fresh_call h to i first count n few =
    let rest : List Line = Call 10 i 10 count ∷ Cut ReturnCut ∷ give (h to) (n + 2) [] in
    let last : Fresh [] (accesses_of_lines rest) (n + 2) (n + 3) = fresh_give (h to) (n + 2) (n + 3) (omega arith) in
    let below : Below (accesses_of_lines rest) (n + 3) = λ a k. ⊎_elim (λ (o : ⊥). absurd o) (λ (q : (n + 2 ≤ a) × (a < n + 3)). q.1) (last.each a k) in
    let f = fresh_bring h 10 first count (n + 3) rest last.once below in
    record {
      each = λ a k.
          ⊎_elim
          (λ (o : Has (accesses_of_lines rest) a).
          ⊎_elim
          (λ (z : ⊥). absurd z)
          (λ (q : (n + 2 ≤ a) × (a < n + 3)). inr (let l = q.0 in let r = q.1 in (omega arith, omega arith)))
          (last.each a o))
          (λ (q : (n + 3 ≤ a) × (a < n + 3 + count)). inr (let l = q.0 in let r = q.1 in (omega arith, omega arith)))
          (f.each a k);
      once = f.once;
    }

one_below : (x n : ℕ) → Below (x ∷ []) n → x < n
one_below x n h = h x (inl refl)

fresh_own_save : (home : Home) (n access : ℕ) → access < n → Fresh (access ∷ []) (access ∷ accesses_of_lines (save home (n + 2) [])) (n + 2) (n + 16)
fresh_own_save home n access lt =
    fresh_own (accesses_of_lines (save home (n + 2) [])) (n + 2) (n + 16) access (omega arith) (fresh_save home (n + 2) (n + 16) (omega arith))

fresh_line : (h : ℕ → Home) (n : ℕ) (line : Line) → Few line → Below (accesses_of_line line) n → Fresh (accesses_of_line line) (accesses_of_lines (put_line h n line [])) n (n + 16)
fresh_line h n (Put to z) few below = fresh_set (h to) n
fresh_line h n (PutNull to) few below = fresh_set (h to) n
fresh_line h n (Copy to from) few below = fresh_one (h from) n (Copy (reg (h to) 7) (reg (h from) 7)) (h to) refl
fresh_line h n (Convert to kind from) few below = fresh_one (h from) n (Convert (reg (h to) 7) kind (reg (h from) 7)) (h to) refl
fresh_line h n (Unary to op kind from) few below = fresh_one (h from) n (Unary (reg (h to) 7) op kind (reg (h from) 7)) (h to) refl
fresh_line h n (Not to from) few below = fresh_one (h from) n (Not (reg (h to) 7) (reg (h from) 7)) (h to) refl
fresh_line h n (Compute to op kind left right) few below = fresh_two (h left) (h right) n (Compute (reg (h to) 7) op kind (reg (h left) 7) (reg (h right) 8)) (h to) refl
fresh_line h n (Compare to op kind left right) few below = fresh_two (h left) (h right) n (Compare (reg (h to) 7) op kind (reg (h left) 7) (reg (h right) 8)) (h to) refl
fresh_line h n (Move to size back pointer by) few below = fresh_two (h pointer) (h by) n (Move (reg (h to) 7) size back (reg (h pointer) 7) (reg (h by) 8)) (h to) refl
fresh_line h n (Distance to size left right) few below = fresh_two (h left) (h right) n (Distance (reg (h to) 7) size (reg (h left) 7) (reg (h right) 8)) (h to) refl
fresh_line h n (Address to place) few below =
    fresh_place h place n (Address (reg (h to) 7) (on_place h place) ∷ save (h to) (n + 2) []) [] (n + 2) (n + 16) (omega arith) (omega arith) (below_none n) (fresh_save (h to) (n + 2) (n + 16) (omega arith))
fresh_line h n (Read to place kind access) few below =
    fresh_place h place n (Read (reg (h to) 7) (on_place h place) kind access ∷ save (h to) (n + 2) []) (access ∷ []) (n + 2) (n + 16) (omega arith) (omega arith) below (fresh_own_save (h to) n access (one_below access n below))
fresh_line h n (Write place kind from access) few below =
    let lt = one_below access n below in
    let line : Line = Write (on_place h place) kind (reg (h from) 8) access in
    let own : Fresh (access ∷ []) (accesses_of_lines (line ∷ [])) (n + 2) (n + 16) = fresh_own [] (n + 2) (n + 16) access (omega arith) (fresh_none (n + 2) (n + 16)) in
    fresh_place h place n (load (h from) 8 (n + 1) (line ∷ [])) (access ∷ []) (n + 1) (n + 16) (omega arith) (omega arith) below
    (fresh_load (h from) 8 (n + 1) (line ∷ []) (access ∷ []) (n + 2) (n + 16) (omega arith) (omega arith) (below_more (access ∷ []) n (n + 1) (omega arith) below) own)
fresh_line h n (Reload to slot access) few below = record { each = λ a k. absurd k; once = tt }
fresh_line h n (Spill slot from access) few below = record { each = λ a k. absurd k; once = tt }
fresh_line h n (Cut cause) few below = fresh_none n (n + 16)
fresh_line h n (Call to i first count) few below = fresh_call h to i first count n few
fresh_line h n (Serve to service None) few below =
    fresh_wide [] (accesses_of_lines (give (h to) (n + 2) [])) (n + 2) (n + 16) n (n + 16) (omega arith) (omega arith) (fresh_give (h to) (n + 2) (n + 16) (omega arith))
fresh_line h n (Serve to service (Some from)) few below =
    fresh_into (h from) 10 n (Serve 10 service (Some 10) ∷ Cut ReturnCut ∷ give (h to) (n + 2) []) [] (n + 2) (n + 16) (omega arith) (omega arith) (below_none n) (fresh_give (h to) (n + 2) (n + 16) (omega arith))

fresh_exit : (h : ℕ → Home) (n : ℕ) (exit : Exit) → Fresh [] (accesses_of_lines (exit_lines h n exit)) n (n + 16)
fresh_exit h n (Jump b) = fresh_none n (n + 16)
fresh_exit h n (Turn b) = fresh_none n (n + 16)
fresh_exit h n (Branch on a b) = fresh_load (h on) 7 n [] [] (n + 1) (n + 16) (omega arith) (omega arith) (below_none n) (fresh_none (n + 1) (n + 16))
fresh_exit h n (Return None) = fresh_none n (n + 16)
fresh_exit h n (Return (Some r)) = fresh_into (h r) 10 n [] [] (n + 1) (n + 16) (omega arith) (omega arith) (below_none n) (fresh_none (n + 1) (n + 16))

-- lines, blocks, functions

accesses_append : (a b : List Line) → accesses_of_lines (a ++ b) ≡ accesses_of_lines a ++ accesses_of_lines b
accesses_append [] b = refl
accesses_append (x ∷ a) b = ap (λ q. accesses_of_line x ++ q) (accesses_append a b) ∙ sym (append_assoc (accesses_of_line x) (accesses_of_lines a) (accesses_of_lines b))

fresh_lines : (h : ℕ → Home) (n : ℕ) (lines tail : List Line) → FewLines lines → Once (accesses_of_lines lines) → Below (accesses_of_lines lines) n → Fresh [] (accesses_of_lines tail) (n + 16 * length lines) (n + 16 * length lines + 16) → Fresh (accesses_of_lines lines) (accesses_of_lines (put_lines h n lines tail)) n (n + 16 * suc (length lines))
fresh_lines h n [] tail few once below last = fresh_wide [] (accesses_of_lines tail) (n + 0) (n + 0 + 16) n (n + 16) (omega arith) (omega arith) last
fresh_lines h n (line ∷ lines) tail few once below last =
    let more : List Line = put_lines h (n + 16) lines tail in
    let own : List ℕ = accesses_of_line line in
    let old : List ℕ = accesses_of_lines lines in
    let l : ℕ = length lines in
    let end = fresh_wide [] (accesses_of_lines tail) (n + 16 * suc l) (n + 16 * suc l + 16) (n + 16 + 16 * l) (n + 16 + 16 * l + 16) (omega arith) (omega arith) last in
    let one = fresh_line h n line few.0 (below_left own old n below) in
    let rest = fresh_lines h (n + 16) lines tail few.1 (split_right own old once) (below_more old n (n + 16) (omega arith) (below_right own old n below)) end in
    let both = fresh_join own old (accesses_of_lines (put_line h n line [])) (accesses_of_lines more) n (n + 16) (n + 16 + 16 * suc l) (omega arith) (omega arith) once below one rest in
    let is : accesses_of_lines (put_line h n line more) ≡ accesses_of_lines (put_line h n line []) ++ accesses_of_lines more = ap accesses_of_lines (put_app h n line more) ∙ accesses_append (put_line h n line []) more in
    let all = subst (λ q. Fresh (own ++ old) q n (n + 16 + 16 * suc l)) (sym is) both in
    fresh_wide (own ++ old) (accesses_of_lines (put_line h n line more)) n (n + 16 + 16 * suc l) n (n + 16 * suc (suc l)) (omega arith) (omega arith) all

fresh_block : (h : ℕ → Home) (n : ℕ) (x y : Block) → PlacedBlock h n x y → FewLines (needed x.exit x.lines.items) → Once (accesses_of_lines x.lines.items) → Below (accesses_of_lines x.lines.items) n → Fresh (accesses_of_lines x.lines.items) (accesses_of_lines y.lines.items) n (n + 16 * suc (length (needed x.exit x.lines.items)))
fresh_block h n x y p few once below =
    let lines : List Line = needed x.exit x.lines.items in
    let end : ℕ = n + 16 * suc (length lines) in
    let same : accesses_of_lines x.lines.items ≡ accesses_of_lines lines = sym (needed_accesses x.exit x.lines.items) in
    subst (λ q. Fresh q (accesses_of_lines y.lines.items) n end) (sym same)
    (subst (λ q. Fresh (accesses_of_lines lines) (accesses_of_lines q) n end) (sym p.lines)
    (fresh_lines h n lines (exit_lines h (n + 16 * length lines) x.exit) few (subst Once same once) (subst (λ q. Below q n) same below) (fresh_exit h (n + 16 * length lines) x.exit)))

fresh_blocks : (h : ℕ → Home) (n : ℕ) (xs ys : List Block) → PlacedBlocks h n xs ys → ((b : ℕ) (block : Block) → slice_get xs b ≡ Some block → FewLines (needed block.exit block.lines.items)) → Once (accesses_of_blocks xs) → Below (accesses_of_blocks xs) n → Fresh (accesses_of_blocks xs) (accesses_of_blocks ys) n (n + numbers_of_blocks xs)
fresh_blocks h n [] [] p few once below = fresh_none n (n + 0)
fresh_blocks h n [] (y ∷ ys) p few once below = absurd p
fresh_blocks h n (x ∷ xs) [] p few once below = absurd p
fresh_blocks h n (x ∷ xs) (y ∷ ys) p few once below =
    let own : List ℕ = accesses_of_lines x.lines.items in
    let old : List ℕ = accesses_of_blocks xs in
    let k : ℕ = 16 * suc (length (needed x.exit x.lines.items)) in
    let one = fresh_block h n x y p.0 (few 0 x refl) (split_left own old once) (below_left own old n below) in
    let rest = fresh_blocks h (n + k) xs ys p.1 (λ b block at. few (suc b) block at) (split_right own old once) (below_more old n (n + k) (omega arith) (below_right own old n below)) in
    let both = fresh_join own old (accesses_of_lines y.lines.items) (accesses_of_blocks ys) n (n + k) (n + k + numbers_of_blocks xs) (omega arith) (omega arith) once below one rest in
    fresh_wide (own ++ old) (accesses_of_lines y.lines.items ++ accesses_of_blocks ys) n (n + k + numbers_of_blocks xs) n (n + (k + numbers_of_blocks xs)) (omega arith) (omega arith) both

abbrev numbers_of : List Function → ℕ
numbers_of [] = 0
numbers_of (f ∷ fs) = numbers_of_blocks f.blocks.items + numbers_of fs

fresh_functions : (n : ℕ) (fs gs : List Function) (p : PlacedFunctions fs gs) → PlacedFrom n fs gs p → Once (accesses_of_functions fs) → Below (accesses_of_functions fs) n → Fresh (accesses_of_functions fs) (accesses_of_functions gs) n (n + numbers_of fs)
fresh_functions n [] [] p from once below = fresh_none n (n + 0)
fresh_functions n [] (g ∷ gs) p from once below = absurd from
fresh_functions n (f ∷ fs) [] p from once below = absurd from
fresh_functions n (f ∷ fs) (g ∷ gs) p from once below =
    let own : List ℕ = accesses_of_blocks f.blocks.items in
    let old : List ℕ = accesses_of_functions fs in
    let k : ℕ = numbers_of_blocks f.blocks.items in
    let start : p.0.first_access ≡ n = from.0 in
    let blocks = subst (λ m. PlacedBlocks p.0.home m f.blocks.items g.blocks.items) start p.0.blocks in
    let few = λ (b : ℕ) (block : Block) (at : slice_get f.blocks.items b ≡ Some block). few_lines p.0.home p.0.live (needed block.exit block.lines.items) block.exit (needed_valid p.0.home p.0.live block.exit block.lines.items (p.0.valid b block at)) in
    let one = fresh_blocks p.0.home n f.blocks.items g.blocks.items blocks few (split_left own old once) (below_left own old n below) in
    let rest = fresh_functions (n + k) fs gs p.1 from.2 (split_right own old once) (below_more old n (n + k) (omega arith) (below_right own old n below)) in
    let both = fresh_join own old (accesses_of_blocks g.blocks.items) (accesses_of_functions gs) n (n + k) (n + k + numbers_of fs) (omega arith) (omega arith) once below one rest in
    fresh_wide (own ++ old) (accesses_of_blocks g.blocks.items ++ accesses_of_functions gs) n (n + k + numbers_of fs) n (n + (k + numbers_of fs)) (omega arith) (omega arith) both

pub accesses_apart : (u v : Code) → IsWellPlaced u v → AreApart (accesses_of_functions u.functions.items) → AreApart (accesses_of_functions v.functions.items)
accesses_apart u v w h =
    let f = fresh_functions w.first u.functions.items v.functions.items w.placed.functions w.from (once_of (accesses_of_functions u.functions.items) h) w.beyond in
    apart_of (accesses_of_functions v.functions.items) f.once
