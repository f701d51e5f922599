-- Placed lines.
use Rattle.std.proofs.Common.{◌≡◌, inl, inr, ℕ, zero, suc, ◌+◌, ◌*◌, Bool, List, [], ◌∷◌, ◌++◌, Option, Some, None, length, refl, subst}
use Rattle.std.specs.Prelude.{slice_get}
use Rattle.im_num.specs.declared.values.Cause.{Cause}
use Rattle.im_num.specs.declared.values.Cause.TheVariants.{Return as ReturnCut}
use Rattle.im_block.specs.declared.code.Place.{Place}
use Rattle.im_block.specs.declared.code.Place.TheVariants.{Static, Local, Through}
use Rattle.im_block.specs.declared.code.Line.{Line}
use Rattle.im_block.specs.declared.code.Line.TheVariants.{Put, PutNull, Copy, Convert, Unary, Not, Compute, Compare, Move, Distance, Address, Read, Write, Reload, Spill, Cut, Call, Serve}
use Rattle.im_block.specs.declared.code.Exit.{Exit}
use Rattle.im_block.specs.declared.code.Exit.TheVariants.{Jump, Turn, Branch, Return}
use Rattle.im_block.specs.declared.code.Block.{Block}
use Rattle.im_block.specs.declared.unit.Function.{Function}
use Rattle.im_block.specs.Wellformed.{accesses_of_line, accesses_of_lines}
use Rattle.im_select.specs.Selects.{causes_of_line, causes_of_lines}
use Rattle.im_alloc_relation.specs.Homes.{Home, InRegister, InSlot, numbers_kept, load, reg, save, into, give, bring, load_place, on_place, put_line, loop_cut, past_cut, behind, needed, put_lines, bring_result, exit_lines}
use Rattle.im_alloc_relation.specs.Live.{lives}
use Rattle.im_alloc_relation.specs.Placing.{ValidLine, Valid, PlacedBlocks, PlacedFunctions}
use Rattle.im_compile_dependences.specs.Laws.{PlaceNames}
use Rattle.im_compile_dependences.proofs.Members.{In, in_left, in_right, in_either, more_named, Carries, CarriesBlocks, no_blocks, more_blocks, carried, same_line, cut_before, same_lines, equal_lines, Names_each, next}

-- lines before others, none of them a cut
record Before (rest new : List Line) : Type 0 where
  accesses : (n : ℕ) → In n (accesses_of_lines rest) → In n (accesses_of_lines new)
  causes : (c : Cause) → In c (causes_of_lines new) → In c (causes_of_lines rest)

nothing_before : (rest : List Line) → Before rest rest
nothing_before rest = record { accesses = λ n h. h; causes = λ c h. h }

one_before : (line : Line) (rest new : List Line) → causes_of_line line ≡ [] → Before rest new → Before rest (line ∷ new)
one_before line rest new none b = record {
  accesses = λ n h. in_right n (accesses_of_line line) (accesses_of_lines new) (b.accesses n h);
  causes = λ c h. b.causes c (subst (λ (z : List Cause). In c (z ++ causes_of_lines new)) none h);
}

carry : (old rest new : List Line) → Before rest new → Carries old rest → Carries old new
carry old rest new b c = record {
  accesses = λ n h. b.accesses n (c.accesses n h);
  causes = λ q h. elim (c.causes q (b.causes q h)) [
    | inl a ↦ inl a
    | inr a ↦ inr (more_named (accesses_of_lines rest) (accesses_of_lines new) q b.accesses a)
  ];
}

load_before : (h : Home) (scratch access : ℕ) (rest new : List Line) → Before rest new → Before rest (load h scratch access new)
load_before (InRegister r) scratch access rest new b = b
load_before (InSlot n) scratch access rest new b = one_before (Reload scratch n access) rest new refl b

save_before : (h : Home) (access : ℕ) (rest new : List Line) → Before rest new → Before rest (save h access new)
save_before (InRegister r) access rest new b = b
save_before (InSlot n) access rest new b = one_before (Spill n 7 access) rest new refl b

into_before : (h : Home) (k access : ℕ) (rest new : List Line) → Before rest new → Before rest (into h k access new)
into_before (InRegister r) k access rest new b = one_before (Copy k r) rest new refl b
into_before (InSlot n) k access rest new b = one_before (Reload k n access) rest new refl b

give_before : (h : Home) (access : ℕ) (rest new : List Line) → Before rest new → Before rest (give h access new)
give_before (InRegister r) access rest new b = one_before (Copy r 10) rest new refl b
give_before (InSlot n) access rest new b = one_before (Spill n 10 access) rest new refl b

bring_before : (h : ℕ → Home) (k first count access : ℕ) (rest new : List Line) → Before rest new → Before rest (bring h k first count access new)
bring_before h k first zero access rest new b = b
bring_before h k first (suc count) access rest new b =
    into_before (h first) k access rest (bring h (k + 1) (first + 1) count (access + 1) new) (bring_before h (k + 1) (first + 1) count (access + 1) rest new b)

place_before : (h : ℕ → Home) (place : Place) (access : ℕ) (rest new : List Line) → Before rest new → Before rest (load_place h place access new)
place_before h (Static object offset) access rest new b = b
place_before h (Local object offset) access rest new b = b
place_before h (Through pointer offset) access rest new b = load_before (h pointer) 7 access rest new b

-- a line that has no access of its own
unnamed : (line : Line) (old new : List Line) → accesses_of_line line ≡ [] → Carries old new → Carries (line ∷ old) new
unnamed line old new none c = record {
  accesses = λ n h. c.accesses n (subst (λ (z : List ℕ). In n (z ++ accesses_of_lines old)) none h);
  causes = λ q h. elim (c.causes q h) [
    | inl a ↦ inl (in_right q (causes_of_line line) (causes_of_lines old) a)
    | inr a ↦ inr a
  ];
}

-- an access that is kept
kept : (line other : Line) (old new : List Line) → accesses_of_line line ≡ accesses_of_line other → causes_of_line other ≡ [] → Carries old new → Carries (line ∷ old) (other ∷ new)
kept line other old new same none c = record {
  accesses = λ n h. elim (in_either n (accesses_of_line line) (accesses_of_lines old) h) [
    | inl a ↦ in_left n (accesses_of_line other) (accesses_of_lines new) (subst (λ (z : List ℕ). In n z) same a)
    | inr a ↦ in_right n (accesses_of_line other) (accesses_of_lines new) (c.accesses n a)
  ];
  causes = λ q h. elim (c.causes q (subst (λ (z : List Cause). In q (z ++ causes_of_lines new)) none h)) [
    | inl a ↦ inl (in_right q (causes_of_line line) (causes_of_lines old) a)
    | inr a ↦ inr (more_named (accesses_of_lines new) (accesses_of_line other ++ accesses_of_lines new) q (λ n z. in_right n (accesses_of_line other) (accesses_of_lines new) z) a)
  ];
}

-- with what a line sets going home
module _ (h : ℕ → Home) (n : ℕ) (old rest : List Line) (c : Carries old rest) where
  -- the rest, behind what goes home
  saved : (to : ℕ) → Before rest (save (h to) (n + 2) rest)
  saved to = save_before (h to) (n + 2) rest rest (nothing_before rest)

  put : (line : Line) (new : List Line) → accesses_of_line line ≡ [] → Before rest new → Carries (line ∷ old) new
  put line new none b = unnamed line old new none (carry old rest new b c)

  called : (to : ℕ) (line other : Line) → accesses_of_line line ≡ [] → causes_of_line other ≡ [] → Carries (line ∷ old) (other ∷ Cut ReturnCut ∷ give (h to) (n + 2) rest)
  called to line other none bare =
      let home : Carries old (give (h to) (n + 2) rest) = carry old rest (give (h to) (n + 2) rest) (give_before (h to) (n + 2) rest rest (nothing_before rest)) c in
      let back : Carries old (Cut ReturnCut ∷ give (h to) (n + 2) rest) = cut_before ReturnCut old (give (h to) (n + 2) rest) tt home in
      unnamed line old (other ∷ Cut ReturnCut ∷ give (h to) (n + 2) rest) none
      (carry old (Cut ReturnCut ∷ give (h to) (n + 2) rest) (other ∷ Cut ReturnCut ∷ give (h to) (n + 2) rest) (one_before other (Cut ReturnCut ∷ give (h to) (n + 2) rest) (Cut ReturnCut ∷ give (h to) (n + 2) rest) bare (nothing_before (Cut ReturnCut ∷ give (h to) (n + 2) rest))) back)

  put_carries : (line : Line) (after : ℕ → Bool) → ValidLine h line after → Carries (line ∷ old) (put_line h n line rest)
  put_carries (Put to z) after v = put (Put to z) (put_line h n (Put to z) rest) refl (one_before (Put (reg (h to) 7) z) rest (save (h to) (n + 2) rest) refl (saved to))
  put_carries (PutNull to) after v = put (PutNull to) (put_line h n (PutNull to) rest) refl (one_before (PutNull (reg (h to) 7)) rest (save (h to) (n + 2) rest) refl (saved to))
  put_carries (Copy to from) after v =
      put (Copy to from) (put_line h n (Copy to from) rest) refl (load_before (h from) 7 n rest (Copy (reg (h to) 7) (reg (h from) 7) ∷ save (h to) (n + 2) rest) (one_before (Copy (reg (h to) 7) (reg (h from) 7)) rest (save (h to) (n + 2) rest) refl (saved to)))
  put_carries (Convert to kind from) after v =
      put (Convert to kind from) (put_line h n (Convert to kind from) rest) refl (load_before (h from) 7 n rest (Convert (reg (h to) 7) kind (reg (h from) 7) ∷ save (h to) (n + 2) rest) (one_before (Convert (reg (h to) 7) kind (reg (h from) 7)) rest (save (h to) (n + 2) rest) refl (saved to)))
  put_carries (Unary to op kind from) after v =
      put (Unary to op kind from) (put_line h n (Unary to op kind from) rest) refl (load_before (h from) 7 n rest (Unary (reg (h to) 7) op kind (reg (h from) 7) ∷ save (h to) (n + 2) rest) (one_before (Unary (reg (h to) 7) op kind (reg (h from) 7)) rest (save (h to) (n + 2) rest) refl (saved to)))
  put_carries (Not to from) after v =
      put (Not to from) (put_line h n (Not to from) rest) refl (load_before (h from) 7 n rest (Not (reg (h to) 7) (reg (h from) 7) ∷ save (h to) (n + 2) rest) (one_before (Not (reg (h to) 7) (reg (h from) 7)) rest (save (h to) (n + 2) rest) refl (saved to)))
  put_carries (Compute to op kind left right) after v =
      put (Compute to op kind left right) (put_line h n (Compute to op kind left right) rest) refl (load_before (h left) 7 n rest (load (h right) 8 (n + 1) (Compute (reg (h to) 7) op kind (reg (h left) 7) (reg (h right) 8) ∷ save (h to) (n + 2) rest)) (load_before (h right) 8 (n + 1) rest (Compute (reg (h to) 7) op kind (reg (h left) 7) (reg (h right) 8) ∷ save (h to) (n + 2) rest) (one_before (Compute (reg (h to) 7) op kind (reg (h left) 7) (reg (h right) 8)) rest (save (h to) (n + 2) rest) refl (saved to))))
  put_carries (Compare to op kind left right) after v =
      put (Compare to op kind left right) (put_line h n (Compare to op kind left right) rest) refl (load_before (h left) 7 n rest (load (h right) 8 (n + 1) (Compare (reg (h to) 7) op kind (reg (h left) 7) (reg (h right) 8) ∷ save (h to) (n + 2) rest)) (load_before (h right) 8 (n + 1) rest (Compare (reg (h to) 7) op kind (reg (h left) 7) (reg (h right) 8) ∷ save (h to) (n + 2) rest) (one_before (Compare (reg (h to) 7) op kind (reg (h left) 7) (reg (h right) 8)) rest (save (h to) (n + 2) rest) refl (saved to))))
  put_carries (Move to size back pointer by) after v =
      put (Move to size back pointer by) (put_line h n (Move to size back pointer by) rest) refl (load_before (h pointer) 7 n rest (load (h by) 8 (n + 1) (Move (reg (h to) 7) size back (reg (h pointer) 7) (reg (h by) 8) ∷ save (h to) (n + 2) rest)) (load_before (h by) 8 (n + 1) rest (Move (reg (h to) 7) size back (reg (h pointer) 7) (reg (h by) 8) ∷ save (h to) (n + 2) rest) (one_before (Move (reg (h to) 7) size back (reg (h pointer) 7) (reg (h by) 8)) rest (save (h to) (n + 2) rest) refl (saved to))))
  put_carries (Distance to size left right) after v =
      put (Distance to size left right) (put_line h n (Distance to size left right) rest) refl (load_before (h left) 7 n rest (load (h right) 8 (n + 1) (Distance (reg (h to) 7) size (reg (h left) 7) (reg (h right) 8) ∷ save (h to) (n + 2) rest)) (load_before (h right) 8 (n + 1) rest (Distance (reg (h to) 7) size (reg (h left) 7) (reg (h right) 8) ∷ save (h to) (n + 2) rest) (one_before (Distance (reg (h to) 7) size (reg (h left) 7) (reg (h right) 8)) rest (save (h to) (n + 2) rest) refl (saved to))))
  put_carries (Address to place) after v =
      put (Address to place) (put_line h n (Address to place) rest) refl (place_before h place n rest (Address (reg (h to) 7) (on_place h place) ∷ save (h to) (n + 2) rest) (one_before (Address (reg (h to) 7) (on_place h place)) rest (save (h to) (n + 2) rest) refl (saved to)))
  put_carries (Read to place kind access) after v =
      let other : Line = Read (reg (h to) 7) (on_place h place) kind access in
      let new : List Line = other ∷ save (h to) (n + 2) rest in
      carry (Read to place kind access ∷ old) new (load_place h place n new) (place_before h place n new new (nothing_before new))
      (kept (Read to place kind access) other old (save (h to) (n + 2) rest) refl refl (carry old rest (save (h to) (n + 2) rest) (saved to) c))
  put_carries (Write place kind from access) after v =
      let other : Line = Write (on_place h place) kind (reg (h from) 8) access in
      let new : List Line = other ∷ rest in
      carry (Write place kind from access ∷ old) new (load_place h place n (load (h from) 8 (n + 1) new))
      (place_before h place n new (load (h from) 8 (n + 1) new) (load_before (h from) 8 (n + 1) new new (nothing_before new)))
      (kept (Write place kind from access) other old rest refl refl c)
  put_carries (Reload to slot access) after v = absurd v
  put_carries (Spill slot from access) after v = absurd v
  put_carries (Cut cause) after v = same_line (Cut cause) old rest c
  put_carries (Call to function first count) after v =
      let new : List Line = Call 10 function 10 count ∷ Cut ReturnCut ∷ give (h to) (n + 2) rest in
      carry (Call to function first count ∷ old) new (bring h 10 first count (n + 3) new) (bring_before h 10 first count (n + 3) new new (nothing_before new))
      (called to (Call to function first count) (Call 10 function 10 count) refl refl)
  put_carries (Serve to service None) after v = called to (Serve to service None) (Serve 10 service None) refl refl
  put_carries (Serve to service (Some from)) after v =
      let new : List Line = Serve 10 service (Some 10) ∷ Cut ReturnCut ∷ give (h to) (n + 2) rest in
      carry (Serve to service (Some from) ∷ old) new (into (h from) 10 n new) (into_before (h from) 10 n new new (nothing_before new))
      (called to (Serve to service (Some from)) (Serve 10 service (Some 10)) refl refl)

-- the lines of a block, put with all that is needed of them, and without a cut that came with a call before them
record CarriesBoth (h : ℕ → Home) (exit : Exit) (lines tail : List Line) : Type 0 where
  all : (n : ℕ) → Carries lines (put_lines h n (needed exit lines) tail)
  past : (n : ℕ) → Carries lines (put_lines h n (past_cut exit (needed exit lines)) tail)

module _ (h : ℕ → Home) (live : ℕ → ℕ → Bool) (exit : Exit) (tail : List Line) where
  behind_carries : (line : Line) (lines : List Line) (n : ℕ) → CarriesBoth h exit lines tail → Carries lines (put_lines h n (behind exit line (needed exit lines)) tail)
  behind_carries (Call to function first count) lines n c = c.past n
  behind_carries (Serve to service None) lines n c = c.past n
  behind_carries (Serve to service (Some from)) lines n c = c.past n
  behind_carries line lines n c = c.all n

  loop_carries : (on : Exit) (cause : Cause) (lines : List Line) (n : ℕ) → CarriesBoth h exit lines tail → Carries (Cut cause ∷ lines) (put_lines h n (Cut cause ∷ needed exit lines) tail) → Carries (Cut cause ∷ lines) (put_lines h n (loop_cut on cause (needed exit lines)) tail)
  loop_carries (Turn b) cause [] n c all = all
  loop_carries (Turn b) cause (next ∷ lines) n c all = unnamed (Cut cause) (next ∷ lines) (put_lines h n (needed exit (next ∷ lines)) tail) refl (c.all n)
  loop_carries (Jump b) cause lines n c all = unnamed (Cut cause) lines (put_lines h n (needed exit lines) tail) refl (c.all n)
  loop_carries (Branch on a b) cause lines n c all = unnamed (Cut cause) lines (put_lines h n (needed exit lines) tail) refl (c.all n)
  loop_carries (Return from) cause lines n c all = unnamed (Cut cause) lines (put_lines h n (needed exit lines) tail) refl (c.all n)

  past_carries : (line : Line) (lines : List Line) (n : ℕ) → CarriesBoth h exit lines tail → Carries (line ∷ lines) (put_lines h n (needed exit (line ∷ lines)) tail) → Carries (line ∷ lines) (put_lines h n (past_cut exit (needed exit (line ∷ lines))) tail)
  past_carries (Cut cause) lines n c all = loop_carries exit cause lines n c all
  past_carries line lines n c all = all

  more_carries : (line : Line) (lines : List Line) → ValidLine h line (lives live lines exit) → CarriesBoth h exit lines tail → CarriesBoth h exit (line ∷ lines) tail
  more_carries line lines v c = record { all = all; past = λ n. past_carries line lines n c (all n) }
    where
      all : (n : ℕ) → Carries (line ∷ lines) (put_lines h n (needed exit (line ∷ lines)) tail)
      all n = put_carries h n lines (put_lines h (n + numbers_kept) (behind exit line (needed exit lines)) tail) (behind_carries line lines (n + numbers_kept) c) line (lives live lines exit) v

  lines_carry : (lines : List Line) → Valid h live lines exit → Carries [] tail → CarriesBoth h exit lines tail
  lines_carry [] v c = record { all = λ n. c; past = λ n. c }
  lines_carry (line ∷ lines) v c = more_carries line lines v.0 (lines_carry lines v.1 c)

result_before : (h : ℕ → Home) (n : ℕ) (from : Option ℕ) → Before [] (bring_result h n from)
result_before h n None = nothing_before []
result_before h n (Some r) = into_before (h r) 10 n [] [] (nothing_before [])

exit_before : (h : ℕ → Home) (n : ℕ) (exit : Exit) → Before [] (exit_lines h n exit)
exit_before h n (Jump b) = nothing_before []
exit_before h n (Turn b) = nothing_before []
exit_before h n (Branch on a b) = load_before (h on) 7 n [] [] (nothing_before [])
exit_before h n (Return from) = result_before h n from

blocks : (h : ℕ → Home) (live : ℕ → ℕ → Bool) (n : ℕ) (xs ys : List Block) → PlacedBlocks h n xs ys → ((b : ℕ) (block : Block) → slice_get xs b ≡ Some block → Valid h live block.lines.items block.exit) → CarriesBlocks xs ys
blocks h live n [] [] p v = no_blocks
blocks h live n [] (y ∷ ys) p v = absurd p
blocks h live n (x ∷ xs) [] p v = absurd p
blocks h live n (x ∷ xs) (y ∷ ys) p v =
    let lines : List Line = needed x.exit x.lines.items in
    let tail : List Line = exit_lines h (n + numbers_kept * length lines) x.exit in
    let both = lines_carry h live x.exit tail x.lines.items (v 0 x refl) (carry [] [] tail (exit_before h (n + numbers_kept * length lines) x.exit) (same_lines [])) in
    more_blocks x y xs ys
    (equal_lines x.lines.items (put_lines h n lines tail) y.lines.items p.0.lines (both.all n))
    (blocks h live (n + numbers_kept * suc (length lines)) xs ys p.1 (λ b k e. v (suc b) k e))

functions : (fs gs : List Function) → PlacedFunctions fs gs → Names_each fs → Names_each gs
functions [] [] h names = names
functions [] (g ∷ gs) h names = absurd h
functions (f ∷ fs) [] h names = absurd h
functions (f ∷ fs) (g ∷ gs) h names =
    let p = h.0 in
    next g gs (carried f.blocks.items g.blocks.items (blocks p.home p.live p.first_access f.blocks.items g.blocks.items p.blocks p.valid) (names 0 f refl)) (functions fs gs h.1 (λ i k e. names (suc i) k e))

pub placed : PlaceNames
placed old new h names = record { each = functions old.functions.items new.functions.items h.functions names.each }
