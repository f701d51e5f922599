-- What a line sets, and what a call does.
use Rattle.std.proofs.Common.{◌≡◌, ℕ, zero, suc, Bool, true, List, [], ◌∷◌, Some, sym, ap, ◌∙◌, drop, eq-eqb}
use Rattle.std.specs.Prelude.{◌==◌, ◌&&◌, ◌||◌, ◌+◌, not, nat_le, nat_lt, slice_get, None}
use Rattle.std.proofs.lemmas.Option.{same_Some}
use Rattle.im_block.specs.declared.code.Line.{Line}
use Rattle.im_block.specs.declared.code.Line.TheVariants.{Put, PutNull, Copy, Convert, Unary, Not, Compute, Compare, Move, Distance, Address, Read, Write, Reload, Spill, Cut, Call, Serve}
use Rattle.im_block.specs.declared.code.Exit.{Exit}
use Rattle.im_alloc_relation.specs.Live.{uses, sets, lives}
use Rattle.im_alloc_relation.specs.Settled.{IsCall}
use Rattle.im_alloc_intervals.specs.Lines.{target_of, result_of, IsArgument}
use Rattle.im_alloc_intervals.proofs.Lives.{both_are, less_is, most_is}

one_sets : (v to : ℕ) → Some to ≡ Some v → (v == to) ≡ true
one_sets v to e = eq-eqb v to (sym (same_Some to v e))

pub sets_target : (line : Line) (v : ℕ) → target_of line ≡ Some v → sets line v ≡ true
sets_target (Put to z) v e = one_sets v to e
sets_target (PutNull to) v e = one_sets v to e
sets_target (Copy to from) v e = one_sets v to e
sets_target (Convert to kind from) v e = one_sets v to e
sets_target (Unary to op kind from) v e = one_sets v to e
sets_target (Not to from) v e = one_sets v to e
sets_target (Compute to op kind left right) v e = one_sets v to e
sets_target (Compare to op kind left right) v e = one_sets v to e
sets_target (Move to size back pointer by) v e = one_sets v to e
sets_target (Distance to size left right) v e = one_sets v to e
sets_target (Address to place) v e = one_sets v to e
sets_target (Read to place kind access) v e = one_sets v to e
sets_target (Write place kind from access) v e = absurd cc
sets_target (Reload to slot access) v e = one_sets v to e
sets_target (Spill slot from access) v e = absurd cc
sets_target (Cut cause) v e = absurd cc
sets_target (Call to i first count) v e = one_sets v to e
sets_target (Serve to service None) v e = one_sets v to e
sets_target (Serve to service (Some from)) v e = one_sets v to e

pub result_target : (line : Line) (to : ℕ) → result_of line ≡ Some to → target_of line ≡ Some to
result_target (Call w i first count) to e = e
result_target (Serve w service None) to e = e
result_target (Serve w service (Some from)) to e = e
result_target line to e = absurd cc

pub result_call : (line : Line) (to : ℕ) → result_of line ≡ Some to → IsCall line
result_call (Call w i first count) to e = tt
result_call (Serve w service None) to e = tt
result_call (Serve w service (Some from)) to e = tt
result_call line to e = absurd cc

pub argument_call : (line : Line) (v : ℕ) → IsArgument line v → IsCall line
argument_call (Call w i first count) v e = tt
argument_call line v e = absurd e

pub argument_used : (line : Line) (v : ℕ) → IsArgument line v → uses line v ≡ true
argument_used (Call w i first count) v e = both_are (nat_le first v) (nat_lt v (first + count)) (most_is first v e.0) (less_is v (first + count) e.1)
argument_used line v e = absurd e

pub drop_line : (lines : List Line) (i : ℕ) (line : Line) → slice_get lines i ≡ Some line → drop i lines ≡ line ∷ drop (suc i) lines
drop_line [] i line e = absurd cc
drop_line (x ∷ xs) zero line e = ap (λ (z : Line). z ∷ xs) (same_Some x line e)
drop_line (x ∷ xs) (suc i) line e = drop_line xs i line e

-- what a line uses lives before it
pub lives_used : (live : ℕ → ℕ → Bool) (lines : List Line) (exit : Exit) (i : ℕ) (line : Line) (v : ℕ) → slice_get lines i ≡ Some line → uses line v ≡ true → lives live (drop i lines) exit v ≡ true
lives_used live lines exit i line v at used =
    ap (λ (z : List Line). lives live z exit v) (drop_line lines i line at) ∙ ap (λ (z : Bool). z || (not (sets line v) && lives live (drop (suc i) lines) exit v)) used
