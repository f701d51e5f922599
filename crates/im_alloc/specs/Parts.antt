-- The parts of a line's placing, for private contracts: operands, the line on registers, its result.
use Rattle.std.specs.Prelude.{◌≡◌, ◌≤◌, ℕ, ◌+◌, ◌*◌, Bool, true, false, List, [], ◌∷◌, ◌++◌, Option, Some, None, length}
use Rattle.im_block.specs.declared.code.Place.{Place}
use Rattle.im_block.specs.declared.code.Place.TheVariants.{Static, Local, Through}
use Rattle.im_block.specs.declared.code.Line.{Line}
use Rattle.im_block.specs.declared.code.Line.TheVariants.{Put, PutNull, Copy, Convert, Unary, Not, Compute, Compare, Move, Distance, Address, Read, Write, Cut, Call, Serve}
use Rattle.im_block.specs.declared.code.Exit.{Exit}
use Rattle.im_block.specs.declared.code.Exit.TheVariants.{Turn}
use Rattle.im_alloc_relation.specs.Homes.{Home, numbers_kept, load, reg, save, on_place, past_cut, needed, put_lines}

-- lines were added, as a function of what stands behind them
abbrev pub Adds : (List Line → List Line) → List Line → List Line → Type 0
Adds piece old new = (rest : List Line) → new ++ rest ≡ old ++ piece rest

-- a call has at most eight arguments
abbrev pub Fits : Line → Type 0
Fits (Call to i first given) = given ≤ 8
Fits line = Unit {0}

abbrev pub pointer_in : Place → Option ℕ
pointer_in (Static object offset) = None
pointer_in (Local object offset) = None
pointer_in (Through pointer offset) = Some pointer

abbrev pub first_operand : Line → Option ℕ
first_operand (Copy to from) = Some from
first_operand (Convert to kind from) = Some from
first_operand (Unary to op kind from) = Some from
first_operand (Not to from) = Some from
first_operand (Compute to op kind left right) = Some left
first_operand (Compare to op kind left right) = Some left
first_operand (Move to size back pointer by) = Some pointer
first_operand (Distance to size left right) = Some left
first_operand (Address to place) = pointer_in place
first_operand (Read to place kind access) = pointer_in place
first_operand (Write place kind from access) = pointer_in place
first_operand line = None

abbrev pub second_operand : Line → Option ℕ
second_operand (Compute to op kind left right) = Some right
second_operand (Compare to op kind left right) = Some right
second_operand (Move to size back pointer by) = Some by
second_operand (Distance to size left right) = Some right
second_operand (Write place kind from access) = Some from
second_operand line = None

abbrev pub target : Line → Option ℕ
target (Put to z) = Some to
target (PutNull to) = Some to
target (Copy to from) = Some to
target (Convert to kind from) = Some to
target (Unary to op kind from) = Some to
target (Not to from) = Some to
target (Compute to op kind left right) = Some to
target (Compare to op kind left right) = Some to
target (Move to size back pointer by) = Some to
target (Distance to size left right) = Some to
target (Address to place) = Some to
target (Read to place kind access) = Some to
target line = None

abbrev pub values_in : (ℕ → Home) → Line → Line
values_in h (Put to z) = Put (reg (h to) 7) z
values_in h (PutNull to) = PutNull (reg (h to) 7)
values_in h (Copy to from) = Copy (reg (h to) 7) (reg (h from) 7)
values_in h (Convert to kind from) = Convert (reg (h to) 7) kind (reg (h from) 7)
values_in h (Not to from) = Not (reg (h to) 7) (reg (h from) 7)
values_in h line = line

abbrev pub operators_in : (ℕ → Home) → Line → Line
operators_in h (Unary to op kind from) = Unary (reg (h to) 7) op kind (reg (h from) 7)
operators_in h (Compute to op kind left right) = Compute (reg (h to) 7) op kind (reg (h left) 7) (reg (h right) 8)
operators_in h (Compare to op kind left right) = Compare (reg (h to) 7) op kind (reg (h left) 7) (reg (h right) 8)
operators_in h line = line

abbrev pub pointers_in : (ℕ → Home) → Line → Line
pointers_in h (Move to size back pointer by) = Move (reg (h to) 7) size back (reg (h pointer) 7) (reg (h by) 8)
pointers_in h (Distance to size left right) = Distance (reg (h to) 7) size (reg (h left) 7) (reg (h right) 8)
pointers_in h line = line

abbrev pub places_in : (ℕ → Home) → Line → Line
places_in h (Address to place) = Address (reg (h to) 7) (on_place h place)
places_in h (Read to place kind access) = Read (reg (h to) 7) (on_place h place) kind access
places_in h (Write place kind from access) = Write (on_place h place) kind (reg (h from) 8) access
places_in h line = line

abbrev pub in_registers : (ℕ → Home) → Line → Line
in_registers h line = places_in h (pointers_in h (operators_in h (values_in h line)))

abbrev pub load_some : (ℕ → Home) → Option ℕ → ℕ → ℕ → List Line → List Line
load_some h None scratch access rest = rest
load_some h (Some v) scratch access rest = load (h v) scratch access rest

abbrev pub save_some : (ℕ → Home) → Option ℕ → ℕ → List Line → List Line
save_some h None access rest = rest
save_some h (Some v) access rest = save (h v) access rest

abbrev pub plain_line : (ℕ → Home) → ℕ → Line → List Line → List Line
plain_line h n line rest =
    load_some h (first_operand line) 7 n (load_some h (second_operand line) 8 (n + 1) (in_registers h line ∷ save_some h (target line) (n + 2) rest))

-- what is left to put: as much as is needed, and, behind a call, past its cut

abbrev pub calls : Line → Bool
calls (Call to i first given) = true
calls (Serve to service from) = true
calls line = false

abbrev pub left_to_put : Exit → Bool → List Line → List Line
left_to_put exit true lines = past_cut exit (needed exit lines)
left_to_put exit false lines = needed exit lines

abbrev pub keeps_loop_cut : Exit → List Line → Bool
keeps_loop_cut (Turn b) [] = true
keeps_loop_cut exit rest = false

-- behind a call, or not: whether a line is put, before the rest of its block
abbrev pub puts_line : Exit → Bool → Line → List Line → Bool
puts_line exit true (Cut cause) rest = keeps_loop_cut exit rest
puts_line exit behind_call line rest = true

-- the needed lines of a block with that exit, with numbers from n up to next
pub record AddsLines (h : ℕ → Home) (n : ℕ) (exit : Exit) (lines : List Line) (next : ℕ) (old new : List Line) : Type 0 where
  pub next_is : next ≡ n + numbers_kept * length (needed exit lines)
  pub adds : (tail : List Line) → new ++ tail ≡ old ++ put_lines h n (needed exit lines) tail
