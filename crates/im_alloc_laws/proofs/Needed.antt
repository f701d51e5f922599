-- The lines that are put one by one: what holds of a block's lines holds of them.
use Rattle.std.proofs.Common.{◌≡◌, ℕ, ◌≤◌, Bool, true, List, [], ◌∷◌, ◌++◌, refl, sym, ap, ◌∙◌, arith}
use Rattle.std.specs.Prelude.{All, ◌&&◌, ◌||◌, not, Some, None}
use Rattle.std.proofs.lemmas.List.Elements.{All-nil, All-cons, All-head, All-tail}
use Rattle.im_num.specs.declared.values.Cause.{Cause}
use Rattle.im_block.specs.declared.code.Line.{Line}
use Rattle.im_block.specs.declared.code.Line.TheVariants.{Put, PutNull, Copy, Convert, Unary, Not, Compute, Compare, Move, Distance, Address, Read, Write, Reload, Spill, Cut, Call, Serve}
use Rattle.im_block.specs.declared.code.Exit.{Exit}
use Rattle.im_block.specs.declared.code.Exit.TheVariants.{Jump, Turn, Branch, Return}
use Rattle.im_block.specs.Shape.{sum_of, cost}
use Rattle.im_block.specs.Forced.{StartsWithCut, EndsWithCut}
use Rattle.im_block.specs.Wellformed.{accesses_of_line, accesses_of_lines}
use Rattle.im_alloc_placed.specs.Apart.{CutsApart}
use Rattle.im_alloc_relation.specs.Homes.{Home, loop_cut, past_cut, behind, needed}
use Rattle.im_alloc_relation.specs.Live.{uses, sets, lives}
use Rattle.im_alloc_relation.specs.Placing.{ValidLine, Valid}

-- behind a line either all stays or the first line goes, a cut

loop_by : (exit : Exit) (Q : List Line → List Line → Type 0) → ((rest : List Line) → Q rest rest) → ((cause : Cause) (rest : List Line) → Q (Cut cause ∷ rest) rest) → (cause : Cause) (rest : List Line) → Q (Cut cause ∷ rest) (loop_cut exit cause rest)
loop_by (Turn b) Q all less cause [] = all (Cut cause ∷ [])
loop_by (Turn b) Q all less cause (next ∷ rest) = less cause (next ∷ rest)
loop_by (Jump b) Q all less cause rest = less cause rest
loop_by (Branch on a b) Q all less cause rest = less cause rest
loop_by (Return from) Q all less cause rest = less cause rest

past_by : (exit : Exit) (Q : List Line → List Line → Type 0) → ((rest : List Line) → Q rest rest) → ((cause : Cause) (rest : List Line) → Q (Cut cause ∷ rest) rest) → (rest : List Line) → Q rest (past_cut exit rest)
past_by exit Q all less [] = all []
past_by exit Q all less (Cut cause ∷ rest) = loop_by exit Q all less cause rest
past_by exit Q all less (line ∷ rest) = all (line ∷ rest)

behind_by : (exit : Exit) (Q : List Line → List Line → Type 0) → ((rest : List Line) → Q rest rest) → ((cause : Cause) (rest : List Line) → Q (Cut cause ∷ rest) rest) → (line : Line) (rest : List Line) → Q rest (behind exit line rest)
behind_by exit Q all less (Call to i first count) rest = past_by exit Q all less rest
behind_by exit Q all less (Serve to service None) rest = past_by exit Q all less rest
behind_by exit Q all less (Serve to service (Some from)) rest = past_by exit Q all less rest
behind_by exit Q all less line rest = all rest

pub needed_all : (exit : Exit) (P : Line → Type 0) (lines : List Line) → All P lines → All P (needed exit lines)
needed_all exit P [] a = All-nil P
needed_all exit P (line ∷ lines) a =
    All-cons P line (behind exit line (needed exit lines)) (All-head P line lines a)
    (behind_by exit (λ x y. All P x → All P y) (λ rest q. q) (λ cause rest q. All-tail P (Cut cause) rest q) line (needed exit lines) (needed_all exit P lines (All-tail P line lines a)))

pub needed_accesses : (exit : Exit) (lines : List Line) → accesses_of_lines (needed exit lines) ≡ accesses_of_lines lines
needed_accesses exit [] = refl
needed_accesses exit (line ∷ lines) =
    ap (λ q. accesses_of_line line ++ q)
    (behind_by exit (λ x y. accesses_of_lines y ≡ accesses_of_lines x) (λ rest. refl) (λ cause rest. refl) line (needed exit lines) ∙ needed_accesses exit lines)

pub needed_cost : (exit : Exit) (lines : List Line) → sum_of cost (needed exit lines) ≤ sum_of cost lines
needed_cost exit [] = omega arith
needed_cost exit (line ∷ lines) =
    let less = behind_by exit (λ x y. sum_of cost y ≤ sum_of cost x) (λ rest. omega arith) (λ cause rest. omega arith) line (needed exit lines) in
    let rest = needed_cost exit lines in
    omega arith

-- cuts

pub needed_starts : (exit : Exit) (lines : List Line) → StartsWithCut lines → StartsWithCut (needed exit lines)
needed_starts exit [] s = s
needed_starts exit (line ∷ lines) s = s

starts_before : (exit : Exit) (lines : List Line) → StartsWithCut (needed exit lines) → StartsWithCut lines
starts_before exit [] s = s
starts_before exit (line ∷ lines) s = s

ends_more : (line : Line) (rest : List Line) → EndsWithCut rest → EndsWithCut (line ∷ rest)
ends_more line [] e = absurd e
ends_more line (next ∷ rest) e = e

turn_ends : (b : ℕ) (line : Line) (rest : List Line) → EndsWithCut rest → EndsWithCut (line ∷ past_cut (Turn b) rest)
turn_ends b line [] e = absurd e
turn_ends b line (Cut cause ∷ []) e = tt
turn_ends b line (Cut cause ∷ next ∷ rest) e = e
turn_ends b line (next ∷ rest) e = e

turn_behind : (b : ℕ) (line : Line) (rest : List Line) → EndsWithCut rest → EndsWithCut (line ∷ behind (Turn b) line rest)
turn_behind b (Call to i first count) rest e = turn_ends b (Call to i first count) rest e
turn_behind b (Serve to service None) rest e = turn_ends b (Serve to service None) rest e
turn_behind b (Serve to service (Some from)) rest e = turn_ends b (Serve to service (Some from)) rest e
turn_behind b line rest e = ends_more line rest e

-- the cut of a loop edge stays
pub needed_ends : (b : ℕ) (lines : List Line) → EndsWithCut lines → EndsWithCut (needed (Turn b) lines)
needed_ends b [] e = absurd e
needed_ends b (Cut cause ∷ []) e = tt
needed_ends b (line ∷ []) e = absurd e
needed_ends b (line ∷ next ∷ rest) e = turn_behind b line (needed (Turn b) (next ∷ rest)) (needed_ends b (next ∷ rest) e)

apart_behind : (exit : Exit) (line : Line) (rest : List Line) → CutsApart rest → CutsApart (behind exit line rest)
apart_behind exit line rest a = behind_by exit (λ x y. CutsApart x → CutsApart y) (λ lines q. q) (λ cause lines q. q.1) line rest a

pub needed_apart : (exit : Exit) (lines : List Line) → CutsApart lines → CutsApart (needed exit lines)
needed_apart exit [] a = tt
needed_apart exit (Cut cause ∷ lines) a = ((λ s. a.0 (starts_before exit lines s)), needed_apart exit lines a.1)
needed_apart exit (line ∷ lines) a = apart_behind exit line (needed exit lines) (needed_apart exit lines a)

-- what lives: a cut uses and sets nothing

pub needed_lives : (live : ℕ → ℕ → Bool) (exit : Exit) (lines : List Line) (v : ℕ) → lives live (needed exit lines) exit v ≡ lives live lines exit v
needed_lives live exit [] v = refl
needed_lives live exit (line ∷ lines) v =
    ap (λ z. uses line v || (not (sets line v) && z))
    (behind_by exit (λ x y. lives live y exit v ≡ lives live x exit v) (λ rest. refl) (λ cause rest. refl) line (needed exit lines) ∙ needed_lives live exit lines v)

valid_less : (h : ℕ → Home) (line : Line) (after less : ℕ → Bool) → ((v : ℕ) → less v ≡ true → after v ≡ true) → ValidLine h line after → ValidLine h line less
valid_less h (Put to z) after less le k = λ v t. k v (le v t)
valid_less h (PutNull to) after less le k = λ v t. k v (le v t)
valid_less h (Copy to from) after less le k = λ v t. k v (le v t)
valid_less h (Convert to kind from) after less le k = λ v t. k v (le v t)
valid_less h (Unary to op kind from) after less le k = λ v t. k v (le v t)
valid_less h (Not to from) after less le k = λ v t. k v (le v t)
valid_less h (Compute to op kind left right) after less le k = λ v t. k v (le v t)
valid_less h (Compare to op kind left right) after less le k = λ v t. k v (le v t)
valid_less h (Move to size back pointer by) after less le k = λ v t. k v (le v t)
valid_less h (Distance to size left right) after less le k = λ v t. k v (le v t)
valid_less h (Address to place) after less le k = λ v t. k v (le v t)
valid_less h (Read to place kind access) after less le k = λ v t. k v (le v t)
valid_less h (Write place kind from access) after less le k = tt
valid_less h (Reload to slot access) after less le k = k
valid_less h (Spill slot from access) after less le k = k
valid_less h (Cut cause) after less le k = tt
valid_less h (Call to i first count) after less le k = ((λ v t. k.0 v (le v t)), k.1)
valid_less h (Serve to service None) after less le k = λ v t. k v (le v t)
valid_less h (Serve to service (Some from)) after less le k = λ v t. k v (le v t)

pub needed_valid : (h : ℕ → Home) (live : ℕ → ℕ → Bool) (exit : Exit) (lines : List Line) → Valid h live lines exit → Valid h live (needed exit lines) exit
needed_valid h live exit [] v = tt
needed_valid h live exit (line ∷ lines) v = (
  valid_less h line (lives live lines exit) (lives live (behind exit line (needed exit lines)) exit)
      (λ q t. sym (behind_by exit (λ x y. lives live y exit q ≡ lives live x exit q) (λ rest. refl) (λ cause rest. refl) line (needed exit lines) ∙ needed_lives live exit lines q) ∙ t) v.0,
  behind_by exit (λ x y. Valid h live x exit → Valid h live y exit) (λ rest k. k) (λ cause rest k. k.1) line (needed exit lines) (needed_valid h live exit lines v.1),
)
