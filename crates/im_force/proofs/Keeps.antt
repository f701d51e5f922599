-- What forced cuts change, and that each cut that must stand does.
use Rattle.std.proofs.Common.{◌≡◌, ℕ, List, [], ◌∷◌, ◌++◌, Option, Some, None, sym, ap, ◌∙◌, subst, arith, eq-eqb}
use Rattle.std.specs.Prelude.{slice_get, if◌then◌else◌}
use Rattle.std.proofs.lemmas.Bool.{ne_eqb}
use Rattle.std.proofs.lemmas.Option.{slice_get_within}
use Rattle.im_num.specs.declared.values.Cause.{Cause}
use Rattle.im_num.specs.declared.values.Cause.TheVariants.{Entry, Return as Back}
use Rattle.im_block.specs.declared.code.Line.{Line}
use Rattle.im_block.specs.declared.code.Line.TheVariants.{Cut, Call, Serve}
use Rattle.im_block.specs.declared.code.Exit.{Exit}
use Rattle.im_block.specs.declared.code.Exit.TheVariants.{Jump, Turn, Branch, Return}
use Rattle.im_block.specs.declared.code.Block.{Block}
use Rattle.im_block.specs.declared.unit.Function.{Function}
use Rattle.im_block.specs.declared.unit.Unit.{Unit as Code}
use Rattle.im_block.specs.Uncut.{WithCuts, Empty, Same, Added, SameBlock, SameFunction, SameButCuts}
use Rattle.im_block.specs.Forced.{StartsWithCut, EndsWithCut, CutAfterCalls, CutAtTurn, IsForced, AllForced}
use Rattle.im_block.specs.Unitwise.{number_at, place_behind}
use Rattle.im_block.proofs.Unitwise.{Old, zip_old, zip_so, from_old, from_so, number_is}
use Rattle.im_force.specs.Force.{due_behind, due_at, cut_of, forced_lines, ForcesBlock, due_first, ForcesAt, ForcesFunction, Forces}

-- cuts are added, and nothing else

cut_added : (due : Option Cause) → WithCuts [] (cut_of due)
cut_added None = Empty
cut_added (Some cause) = Added cause [] [] Empty

due_added : (due : Option Cause) (old new : List Line) → WithCuts old new → WithCuts old (cut_of due ++ new)
due_added None old new h = h
due_added (Some cause) old new h = Added cause old new h

lines_same : (exit : Exit) (due : Option Cause) (lines : List Line) → WithCuts lines (forced_lines exit due lines)
lines_same exit due [] = cut_added (due_at due exit)
lines_same exit due (line ∷ lines) =
    due_added due (line ∷ lines) (line ∷ forced_lines exit (due_behind line) lines)
    (Same line lines (forced_lines exit (due_behind line) lines) (lines_same exit (due_behind line) lines))

block_same : (due : Option Cause) (x y : Block) → ForcesBlock due x y → SameBlock x y
block_same due x y h = record { lines = subst (WithCuts x.lines.items) (sym h.lines) (lines_same x.exit due x.lines.items); exit = h.exit }

function_same : (f g : Function) → ForcesFunction f g → SameFunction f g
function_same f g h = record {
  blocks = from_so place_behind (ForcesAt f.entry) SameBlock (λ n x y b. block_same (due_first f.entry n) x y b) 0 f.blocks.items g.blocks.items h.blocks;
  rest = h.rest;
}

pub same : (old new : Code) → Forces old new → SameButCuts old new
same old new h = record {
  functions = zip_so ForcesFunction SameFunction old.functions.items new.functions.items (λ i f g at k. function_same f g k) h.functions;
  rest = h.rest;
}

-- each cut that must stand does

starts : (exit : Exit) (cause : Cause) (lines : List Line) → StartsWithCut (forced_lines exit (Some cause) lines)
starts exit cause [] = tt
starts exit cause (line ∷ lines) = tt

behind_due : (due : Option Cause) (lines : List Line) → CutAfterCalls lines → CutAfterCalls (cut_of due ++ lines)
behind_due None lines h = h
behind_due (Some cause) lines h = h

only_due : (due : Option Cause) → CutAfterCalls (cut_of due)
only_due None = tt
only_due (Some cause) = tt

behind_call : (exit : Exit) (line : Line) (lines : List Line) → CutAfterCalls (forced_lines exit (due_behind line) lines) → CutAfterCalls (line ∷ forced_lines exit (due_behind line) lines)
behind_call exit (Call to i first count) lines h = (starts exit Back lines, h)
behind_call exit (Serve to service None) lines h = (starts exit Back lines, h)
behind_call exit (Serve to service (Some from)) lines h = (starts exit Back lines, h)
behind_call exit line lines h = h

calls : (exit : Exit) (due : Option Cause) (lines : List Line) → CutAfterCalls (forced_lines exit due lines)
calls exit due [] = only_due (due_at due exit)
calls exit due (line ∷ lines) =
    behind_due due (line ∷ forced_lines exit (due_behind line) lines) (behind_call exit line lines (calls exit (due_behind line) lines))

ends_more : (line : Line) (lines : List Line) → EndsWithCut lines → EndsWithCut (line ∷ lines)
ends_more line [] h = absurd h
ends_more line (next ∷ lines) h = h

ends_due : (due : Option Cause) (lines : List Line) → EndsWithCut lines → EndsWithCut (cut_of due ++ lines)
ends_due None lines h = h
ends_due (Some cause) lines h = ends_more (Cut cause) lines h

turn : (b : ℕ) (due : Option Cause) (lines : List Line) → EndsWithCut (forced_lines (Turn b) due lines)
turn b None [] = tt
turn b (Some cause) [] = tt
turn b due (line ∷ lines) =
    ends_due due (line ∷ forced_lines (Turn b) (due_behind line) lines) (ends_more line (forced_lines (Turn b) (due_behind line) lines) (turn b (due_behind line) lines))

turns : (exit : Exit) (due : Option Cause) (lines : List Line) → CutAtTurn exit (forced_lines exit due lines)
turns (Jump b) due lines = tt
turns (Turn b) due lines = turn b due lines
turns (Branch on x y) due lines = tt
turns (Return from) due lines = tt

-- the old block that one of the new code is made of
pub made : (f g : Function) → ForcesFunction f g → (b : ℕ) (y : Block) → slice_get g.blocks.items b ≡ Some y → Old (ForcesAt f.entry b) f.blocks.items b y
made f g h b y at =
    let o = from_old place_behind (ForcesAt f.entry) 0 f.blocks.items g.blocks.items b y h.blocks at in
    let number : number_at place_behind 0 f.blocks.items b ≡ b = number_is 0 f.blocks.items b (slice_get_within f.blocks.items b o.old o.at) ∙ omega arith in
    record { old = o.old; at = o.at; is = subst (λ n. ForcesAt f.entry n o.old y) number o.is }

pub first_due : (entry n : ℕ) → n ≡ entry → due_first entry n ≡ Some Entry
first_due entry n e = ap (λ b. if b then Some Entry else None) (eq-eqb n entry e)

pub other_due : (entry n : ℕ) → (n ≡ entry → ⊥) → due_first entry n ≡ None
other_due entry n ne = ap (λ b. if b then Some Entry else None) (ne_eqb n entry ne)

function_forced : (f g : Function) → ForcesFunction f g → IsForced g
function_forced f g h = record {
  entry = λ block at.
      let m = made f g h g.entry block at in
      let due = first_due f.entry g.entry (ap (λ (k : Function). k.entry) h.rest) in
      subst StartsWithCut (sym m.is.lines) (subst (λ d. StartsWithCut (forced_lines m.old.exit d m.old.lines.items)) (sym due) (starts m.old.exit Entry m.old.lines.items));
  calls = λ b block at.
      let m = made f g h b block at in
      subst CutAfterCalls (sym m.is.lines) (calls m.old.exit (due_first f.entry b) m.old.lines.items);
  turns = λ b block at.
      let m = made f g h b block at in
      subst (λ l. CutAtTurn block.exit l) (sym m.is.lines) (subst (λ e. CutAtTurn e (forced_lines m.old.exit (due_first f.entry b) m.old.lines.items)) (sym m.is.exit) (turns m.old.exit (due_first f.entry b) m.old.lines.items));
}

pub forced : (old new : Code) → Forces old new → AllForced new
forced old new h = record {
  each = λ i g at. let o = zip_old ForcesFunction old.functions.items new.functions.items i g h.functions at in function_forced o.old g o.is;
}
