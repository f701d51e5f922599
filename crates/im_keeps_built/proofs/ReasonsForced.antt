-- Forced cuts have their reasons.
use Rattle.std.proofs.Common.{◌≡◌, inl, ℕ, suc, Bool, true, false, List, [], ◌∷◌, ◌++◌, Option, Some, None, refl, sym, ap, subst}
use Rattle.std.specs.Prelude.{◌==◌, if◌then◌else◌, slice_get, All}
use Rattle.std.proofs.lemmas.List.Elements.{All-head, All-tail}
use Rattle.im_num.specs.declared.values.Cause.{Cause}
use Rattle.im_num.specs.declared.values.Cause.TheVariants.{Entry, Return as Back}
use Rattle.im_block.specs.declared.code.Line.{Line}
use Rattle.im_block.specs.declared.code.Line.TheVariants.{Cut, Call, Serve}
use Rattle.im_block.specs.declared.code.Exit.{Exit}
use Rattle.im_block.specs.declared.code.Exit.TheVariants.{Jump, Turn, Branch, Return}
use Rattle.im_block.specs.declared.code.Block.{Block}
use Rattle.im_block.specs.declared.unit.Function.{Function}
use Rattle.im_alloc_placed.specs.Apart.{IsNoCut}
use Rattle.im_force.specs.Force.{due_behind, due_at, due_first, cut_of, forced_lines, ForcesBlocks, ForcesFunction}
use Rattle.im_keeps_built.proofs.Reasons.{Before, Begins, Called, Anything, behind_line, no_reads, Fits, Reasoned, begins_at, ReasonedBlocks, ReasonedFunction}

abbrev due_of : Before → Option Cause
due_of Begins = Some Entry
due_of Called = Some Back
due_of Anything = None

due_same : (line : Line) → due_behind line ≡ due_of (behind_line line)
due_same (Call to function first count) = refl
due_same (Serve to service from) = refl
due_same line = refl

ends : (exit : Exit) (before : Before) → Reasoned no_reads exit before (cut_of (due_at (due_of before) exit))
ends exit Begins = (refl, tt)
ends exit Called = (inl refl, tt)
ends (Jump b) Anything = tt
ends (Turn b) Anything = (tt, tt)
ends (Branch on x y) Anything = tt
ends (Return from) Anything = tt

uncut_fits : (before : Before) (rest : List Line) (exit : Exit) (line : Line) → IsNoCut line → Fits no_reads before rest exit line
uncut_fits before rest exit (Cut cause) n = absurd (n tt)
uncut_fits before rest exit line n = tt

first : (exit : Exit) (before : Before) (line : Line) (rest : List Line) → IsNoCut line → Reasoned no_reads exit (behind_line line) rest → Reasoned no_reads exit before (cut_of (due_of before) ++ line ∷ rest)
first exit Begins line rest n r = (refl, (uncut_fits Anything rest exit line n, r))
first exit Called line rest n r = (inl refl, (uncut_fits Anything rest exit line n, r))
first exit Anything line rest n r = (uncut_fits Anything rest exit line n, r)

lines_forced : (exit : Exit) (before : Before) (lines : List Line) → All IsNoCut lines → Reasoned no_reads exit before (forced_lines exit (due_of before) lines)
lines_forced exit before [] n = ends exit before
lines_forced exit before (line ∷ lines) n =
    let behind = lines_forced exit (behind_line line) lines (All-tail IsNoCut line lines n) in
    first exit before line (forced_lines exit (due_behind line) lines) (All-head IsNoCut line lines n)
    (subst (λ d. Reasoned no_reads exit (behind_line line) (forced_lines exit d lines)) (sym (due_same line)) behind)

due_begins : (entry n : ℕ) → due_of (begins_at entry n) ≡ due_first entry n
due_begins entry n = by (n == entry)
  where
    by : (b : Bool) → due_of (if b then Begins else Anything) ≡ (if b then Some Entry else None)
    by true = refl
    by false = refl

abbrev pub Uncut : List Block → Type 0
Uncut blocks = (b : ℕ) (block : Block) → slice_get blocks b ≡ Some block → All IsNoCut block.lines.items

blocks_forced : (entry n : ℕ) (xs ys : List Block) → ForcesBlocks entry n xs ys → Uncut xs → ReasonedBlocks no_reads entry n ys
blocks_forced entry n [] [] h u = tt
blocks_forced entry n [] (y ∷ ys) h u = absurd h
blocks_forced entry n (x ∷ xs) [] h u = absurd h
blocks_forced entry n (x ∷ xs) (y ∷ ys) h u =
    let one = lines_forced x.exit (begins_at entry n) x.lines.items (u 0 x refl) in
    let due = subst (λ d. Reasoned no_reads x.exit (begins_at entry n) (forced_lines x.exit d x.lines.items)) (due_begins entry n) one in
    let exit = subst (λ e. Reasoned no_reads e (begins_at entry n) (forced_lines x.exit (due_first entry n) x.lines.items)) (sym h.0.exit) due in
    (subst (λ l. Reasoned no_reads y.exit (begins_at entry n) l) (sym h.0.lines) exit, blocks_forced entry (suc n) xs ys h.1 (λ b block e. u (suc b) block e))

pub function_forced : (old new : Function) → ForcesFunction old new → Uncut old.blocks.items → ReasonedFunction no_reads new
function_forced old new h u =
    let entry : new.entry ≡ old.entry = ap (λ (f : Function). f.entry) h.rest in
    subst (λ e. ReasonedBlocks no_reads e 0 new.blocks.items) (sym entry) (blocks_forced old.entry 0 old.blocks.items new.blocks.items h.blocks u)
