-- Forced cuts.
use Rattle.std.proofs.Common.{ℕ, suc, Bool, true, false, List, [], ◌∷◌, ◌++◌, Option, Some, None, refl}
use Rattle.std.specs.Prelude.{if◌then◌else◌, ◌==◌}
use Rattle.im_num.specs.declared.values.Cause.{Cause}
use Rattle.im_num.specs.declared.values.Cause.TheVariants.{Entry, Loop}
use Rattle.im_block.specs.declared.code.Line.{Line}
use Rattle.im_block.specs.declared.code.Line.TheVariants.{Put, PutNull, Copy, Convert, Unary, Not, Compute, Compare, Move, Distance, Address, Read, Write, Reload, Spill, Cut, Call, Serve}
use Rattle.im_block.specs.declared.code.Exit.{Exit}
use Rattle.im_block.specs.declared.code.Exit.TheVariants.{Jump, Turn, Branch, Return}
use Rattle.im_block.specs.declared.code.Block.{Block}
use Rattle.im_block.specs.declared.unit.Function.{Function}
use Rattle.im_block.specs.Wellformed.{accesses_of_lines}
use Rattle.im_force.specs.Force.{due_behind, due_at, due_first, cut_of, forced_lines, ForcesBlocks, ForcesFunctions}
use Rattle.im_compile_dependences.specs.Laws.{ForceNames}
use Rattle.im_compile_dependences.proofs.Members.{Names, Carries, CarriesBlocks, no_blocks, more_blocks, carried, same_line, cut_before, same_lines, equal_lines, Names_each, next}

-- a cut that is due names nothing
abbrev Plain : Option Cause → Type 0
Plain None = Unit {0}
Plain (Some cause) = (accesses : List ℕ) → Names accesses cause

due_plain : (line : Line) → Plain (due_behind line)
due_plain (Put to z) = tt
due_plain (PutNull to) = tt
due_plain (Copy to from) = tt
due_plain (Convert to kind from) = tt
due_plain (Unary to op kind from) = tt
due_plain (Not to from) = tt
due_plain (Compute to op kind left right) = tt
due_plain (Compare to op kind left right) = tt
due_plain (Move to size back pointer by) = tt
due_plain (Distance to size left right) = tt
due_plain (Address to place) = tt
due_plain (Read to place kind access) = tt
due_plain (Write place kind from access) = tt
due_plain (Reload to slot access) = tt
due_plain (Spill slot from access) = tt
due_plain (Cut cause) = tt
due_plain (Call to function first count) = λ accesses. tt
due_plain (Serve to service None) = λ accesses. tt
due_plain (Serve to service (Some from)) = λ accesses. tt

first_plain : (b : Bool) → Plain (if b then Some Entry else None)
first_plain true = λ accesses. tt
first_plain false = tt

at_end : (due : Option Cause) (exit : Exit) → Plain due → Carries [] (cut_of (due_at due exit))
at_end (Some cause) exit h = cut_before cause [] [] (h []) (same_lines [])
at_end None (Jump b) h = same_lines []
at_end None (Turn b) h = cut_before Loop [] [] tt (same_lines [])
at_end None (Branch on x y) h = same_lines []
at_end None (Return from) h = same_lines []

cut_here : (due : Option Cause) (old new : List Line) → Plain due → Carries old new → Carries old (cut_of due ++ new)
cut_here None old new h c = c
cut_here (Some cause) old new h c = cut_before cause old new (h (accesses_of_lines new)) c

forced_carries : (exit : Exit) (due : Option Cause) (lines : List Line) → Plain due → Carries lines (forced_lines exit due lines)
forced_carries exit due [] h = at_end due exit h
forced_carries exit due (line ∷ lines) h =
    cut_here due (line ∷ lines) (line ∷ forced_lines exit (due_behind line) lines) h
    (same_line line lines (forced_lines exit (due_behind line) lines) (forced_carries exit (due_behind line) lines (due_plain line)))

blocks : (entry n : ℕ) (xs ys : List Block) → ForcesBlocks entry n xs ys → CarriesBlocks xs ys
blocks entry n [] [] h = no_blocks
blocks entry n [] (y ∷ ys) h = absurd h
blocks entry n (x ∷ xs) [] h = absurd h
blocks entry n (x ∷ xs) (y ∷ ys) h =
    more_blocks x y xs ys
    (equal_lines x.lines.items (forced_lines x.exit (due_first entry n) x.lines.items) y.lines.items h.0.lines (forced_carries x.exit (due_first entry n) x.lines.items (first_plain (n == entry))))
    (blocks entry (suc n) xs ys h.1)

functions : (fs gs : List Function) → ForcesFunctions fs gs → Names_each fs → Names_each gs
functions [] [] h names = names
functions [] (g ∷ gs) h names = absurd h
functions (f ∷ fs) [] h names = absurd h
functions (f ∷ fs) (g ∷ gs) h names =
    next g gs (carried f.blocks.items g.blocks.items (blocks f.entry 0 f.blocks.items g.blocks.items h.0.blocks) (names 0 f refl)) (functions fs gs h.1 (λ i k e. names (suc i) k e))

pub forced : ForceNames
forced old new h names = record { each = functions old.functions.items new.functions.items h.functions names.each }
