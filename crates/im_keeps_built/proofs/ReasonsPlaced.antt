-- Placed cuts have their reasons.
use Rattle.std.proofs.Common.{◌≡◌, inl, inr, ℕ, zero, suc, ◌+◌, ◌*◌, Bool, true, false, List, [], ◌∷◌, Option, Some, None, length, refl, sym, ap, subst}
use Rattle.std.specs.Prelude.{◌==◌, if◌then◌else◌}
use Rattle.im_num.specs.declared.values.Cause.{Cause}
use Rattle.im_num.specs.declared.values.Cause.TheVariants.{Entry, Return as Back, Loop, Length, Gap, Dep}
use Rattle.im_block.specs.declared.code.Place.{Place}
use Rattle.im_block.specs.declared.code.Place.TheVariants.{Static, Local, Through}
use Rattle.im_block.specs.declared.code.Line.{Line}
use Rattle.im_block.specs.declared.code.Line.TheVariants.{Put, PutNull, Copy, Convert, Unary, Not, Compute, Compare, Move, Distance, Address, Read, Write, Reload, Spill, Cut, Call, Serve}
use Rattle.im_block.specs.declared.code.Exit.{Exit}
use Rattle.im_block.specs.declared.code.Exit.TheVariants.{Jump, Turn, Branch, Return}
use Rattle.im_block.specs.declared.code.Block.{Block}
use Rattle.im_block.specs.declared.unit.Function.{Function}
use Rattle.im_block.specs.Paths.{IsCut}
use Rattle.im_alloc_relation.specs.Homes.{Home, InRegister, InSlot, numbers_kept, load, reg, save, into, give, bring, load_place, on_place, put_line, loop_cut, past_cut, needed, put_lines, bring_result, exit_lines, put_exit}
use Rattle.im_alloc_relation.specs.Placing.{PlacedBlocks, PlacedFunction}
use Rattle.im_keeps_built.proofs.Reasons.{Before, Begins, Called, Anything, behind_line, IsTurn, EndsLoop, no_reads, Reason, Fits, Reasoned, begins_at, ReasonedBlocks, ReasonedFunction, anywhere}

-- ---- what is put of a block: behind a call the cut is left out, unless it ends a loop

abbrev Left : Before → List Line → Exit → Cause → Type 0
Left before rest exit Entry = before ≡ Begins
Left before rest exit Back = EndsLoop rest exit
Left before rest exit Loop = EndsLoop rest exit
Left before rest exit Length = ⊥
Left before rest exit Gap = ⊥
Left before rest exit (Dep read write) = ⊥

abbrev LeftLine : Before → List Line → Exit → Line → Type 0
LeftLine before rest exit (Cut cause) = Left before rest exit cause
LeftLine before rest exit line = Unit {0}

abbrev AreLeft : Exit → Before → List Line → Type 0
AreLeft exit before [] = Unit {0}
AreLeft exit before (line ∷ rest) = LeftLine before rest exit line × AreLeft exit Anything rest

abbrev After : Exit → Before → List Line → Type 0
After exit Begins lines = AreLeft exit Begins lines
After exit Called lines = AreLeft exit Anything (past_cut exit lines)
After exit Anything lines = AreLeft exit Anything lines

ends_needed : (exit : Exit) (lines : List Line) → EndsLoop lines exit → EndsLoop (needed exit lines) exit
ends_needed exit [] e = e
ends_needed exit (line ∷ lines) e = absurd e

left_of : (before : Before) (lines : List Line) (exit : Exit) (cause : Cause) → (before ≡ Called → ⊥) → Reason no_reads before lines exit cause → Left before (needed exit lines) exit cause
left_of before lines exit Entry n r = r
left_of before lines exit Back n (inl e) = absurd (n e)
left_of before lines exit Back n (inr e) = ends_needed exit lines e
left_of before lines exit Loop n r = ends_needed exit lines r
left_of before lines exit Length n r = absurd r
left_of before lines exit Gap n r = r
left_of before lines exit (Dep read write) n r = absurd r.0

last : (b : ℕ) (lines : List Line) (cause : Cause) → Reason no_reads Called lines (Turn b) cause → Left Anything [] (Turn b) cause
last b lines Entry r = (let bad : Called ≡ Begins = r in absurd cc)
last b lines Back r = tt
last b lines Loop r = tt
last b lines Length r = absurd r
last b lines Gap r = r
last b lines (Dep read write) r = absurd r.0

past : (exit : Exit) (rest : List Line) (cause : Cause) (lines : List Line) → Reason no_reads Called lines exit cause → AreLeft exit Anything rest → AreLeft exit Anything (loop_cut exit cause rest)
past (Turn b) [] cause lines r a = (last b lines cause r, tt)
past (Turn b) (x ∷ xs) cause lines r a = a
past (Jump b) rest cause lines r a = a
past (Branch on x y) rest cause lines r a = a
past (Return from) rest cause lines r a = a

next : (exit : Exit) (before : Before) (line : Line) (lines : List Line) → Fits no_reads before lines exit line → After exit (behind_line line) (needed exit lines) → After exit before (needed exit (line ∷ lines))
next exit Begins (Cut cause) lines f a = (left_of Begins lines exit cause (λ (e : Begins ≡ Called). absurd cc) f, a)
next exit Called (Cut cause) lines f a = past exit (needed exit lines) cause lines f a
next exit Anything (Cut cause) lines f a = (left_of Anything lines exit cause (λ (e : Anything ≡ Called). absurd cc) f, a)
next exit Begins line lines f a = (tt, a)
next exit Called line lines f a = (tt, a)
next exit Anything line lines f a = (tt, a)

wanted : (exit : Exit) (before : Before) (lines : List Line) → Reasoned no_reads exit before lines → After exit before (needed exit lines)
wanted exit Begins [] r = tt
wanted exit Called [] r = tt
wanted exit Anything [] r = tt
wanted exit before (line ∷ lines) r = next exit before line lines r.0 (wanted exit (behind_line line) lines r.1)

-- ---- what stands behind anything

abbrev Stands : Exit → List Line → Type 0
Stands exit lines = (before : Before) → Reasoned no_reads exit before lines

load_stands : (exit : Exit) (h : Home) (scratch access : ℕ) (lines : List Line) → Stands exit lines → Stands exit (load h scratch access lines)
load_stands exit (InRegister r) scratch access lines s = s
load_stands exit (InSlot n) scratch access lines s = λ before. (tt, s Anything)

save_stands : (exit : Exit) (h : Home) (access : ℕ) (lines : List Line) → Stands exit lines → Stands exit (save h access lines)
save_stands exit (InRegister r) access lines s = s
save_stands exit (InSlot n) access lines s = λ before. (tt, s Anything)

into_stands : (exit : Exit) (h : Home) (k access : ℕ) (lines : List Line) → Stands exit lines → Stands exit (into h k access lines)
into_stands exit (InRegister r) k access lines s = λ before. (tt, s Anything)
into_stands exit (InSlot n) k access lines s = λ before. (tt, s Anything)

give_stands : (exit : Exit) (h : Home) (access : ℕ) (lines : List Line) → Stands exit lines → Stands exit (give h access lines)
give_stands exit (InRegister r) access lines s = λ before. (tt, s Anything)
give_stands exit (InSlot n) access lines s = λ before. (tt, s Anything)

bring_stands : (exit : Exit) (h : ℕ → Home) (k first count access : ℕ) (lines : List Line) → Stands exit lines → Stands exit (bring h k first count access lines)
bring_stands exit h k first zero access lines s = s
bring_stands exit h k first (suc count) access lines s =
    into_stands exit (h first) k access (bring h (k + 1) (first + 1) count (access + 1) lines) (bring_stands exit h (k + 1) (first + 1) count (access + 1) lines s)

place_stands : (exit : Exit) (h : ℕ → Home) (place : Place) (access : ℕ) (lines : List Line) → Stands exit lines → Stands exit (load_place h place access lines)
place_stands exit h (Static object offset) access lines s = s
place_stands exit h (Local object offset) access lines s = s
place_stands exit h (Through pointer offset) access lines s = load_stands exit (h pointer) 7 access lines s

module _ (exit : Exit) (h : ℕ → Home) (n : ℕ) (rest : List Line) (s : Stands exit rest) where
  saved : (to : ℕ) → Stands exit (save (h to) (n + 2) rest)
  saved to = save_stands exit (h to) (n + 2) rest s

  from_one : (from : ℕ) (lines : List Line) → Stands exit lines → Stands exit (load (h from) 7 n lines)
  from_one from lines t = load_stands exit (h from) 7 n lines t

  from_two : (left right : ℕ) (lines : List Line) → Stands exit lines → Stands exit (load (h left) 7 n (load (h right) 8 (n + 1) lines))
  from_two left right lines t = load_stands exit (h left) 7 n (load (h right) 8 (n + 1) lines) (load_stands exit (h right) 8 (n + 1) lines t)

  put_stands : (line : Line) → (IsCut line → ⊥) → Stands exit (put_line h n line rest)
  put_stands (Put to z) uncut = λ before. (tt, saved to Anything)
  put_stands (PutNull to) uncut = λ before. (tt, saved to Anything)
  put_stands (Copy to from) uncut = from_one from (Copy (reg (h to) 7) (reg (h from) 7) ∷ save (h to) (n + 2) rest) (λ before. (tt, saved to Anything))
  put_stands (Convert to kind from) uncut = from_one from (Convert (reg (h to) 7) kind (reg (h from) 7) ∷ save (h to) (n + 2) rest) (λ before. (tt, saved to Anything))
  put_stands (Unary to op kind from) uncut = from_one from (Unary (reg (h to) 7) op kind (reg (h from) 7) ∷ save (h to) (n + 2) rest) (λ before. (tt, saved to Anything))
  put_stands (Not to from) uncut = from_one from (Not (reg (h to) 7) (reg (h from) 7) ∷ save (h to) (n + 2) rest) (λ before. (tt, saved to Anything))
  put_stands (Compute to op kind left right) uncut = from_two left right (Compute (reg (h to) 7) op kind (reg (h left) 7) (reg (h right) 8) ∷ save (h to) (n + 2) rest) (λ before. (tt, saved to Anything))
  put_stands (Compare to op kind left right) uncut = from_two left right (Compare (reg (h to) 7) op kind (reg (h left) 7) (reg (h right) 8) ∷ save (h to) (n + 2) rest) (λ before. (tt, saved to Anything))
  put_stands (Move to size back pointer by) uncut = from_two pointer by (Move (reg (h to) 7) size back (reg (h pointer) 7) (reg (h by) 8) ∷ save (h to) (n + 2) rest) (λ before. (tt, saved to Anything))
  put_stands (Distance to size left right) uncut = from_two left right (Distance (reg (h to) 7) size (reg (h left) 7) (reg (h right) 8) ∷ save (h to) (n + 2) rest) (λ before. (tt, saved to Anything))
  put_stands (Address to place) uncut = place_stands exit h place n (Address (reg (h to) 7) (on_place h place) ∷ save (h to) (n + 2) rest) (λ before. (tt, saved to Anything))
  put_stands (Read to place kind access) uncut = place_stands exit h place n (Read (reg (h to) 7) (on_place h place) kind access ∷ save (h to) (n + 2) rest) (λ before. (tt, saved to Anything))
  put_stands (Write place kind from access) uncut =
      let write : Line = Write (on_place h place) kind (reg (h from) 8) access in
      place_stands exit h place n (load (h from) 8 (n + 1) (write ∷ rest)) (load_stands exit (h from) 8 (n + 1) (write ∷ rest) (λ before. (tt, s Anything)))
  put_stands (Reload to slot access) uncut = s
  put_stands (Spill slot from access) uncut = s
  put_stands (Cut cause) uncut = absurd (uncut tt)
  put_stands (Call to i first count) uncut =
      bring_stands exit h 10 first count (n + 3) (Call 10 i 10 count ∷ Cut Back ∷ give (h to) (n + 2) rest)
      (λ before. (tt, (inl refl, give_stands exit (h to) (n + 2) rest s Anything)))
  put_stands (Serve to service None) uncut = λ before. (tt, (inl refl, give_stands exit (h to) (n + 2) rest s Anything))
  put_stands (Serve to service (Some from)) uncut =
      into_stands exit (h from) 10 n (Serve 10 service (Some 10) ∷ Cut Back ∷ give (h to) (n + 2) rest)
      (λ before. (tt, (inl refl, give_stands exit (h to) (n + 2) rest s Anything)))

-- ---- lines one by one, and behind them the lines of the exit

module _ (h : ℕ → Home) (exit out : Exit) (tail : List Line) (behind : Stands out tail) (turn : IsTurn exit → EndsLoop tail out) where
  ends : (n : ℕ) (lines : List Line) → EndsLoop lines exit → EndsLoop (put_lines h n lines tail) out
  ends n [] e = turn e
  ends n (line ∷ lines) e = absurd e

  cut_put : (before : Before) (n : ℕ) (lines : List Line) (cause : Cause) → Left before lines exit cause → Reason no_reads before (put_lines h n lines tail) out cause
  cut_put before n lines Entry e = e
  cut_put before n lines Back e = inr (ends n lines e)
  cut_put before n lines Loop e = ends n lines e
  cut_put before n lines Length e = e
  cut_put before n lines Gap e = e
  cut_put before n lines (Dep read write) e = absurd e

  put : (before : Before) (n : ℕ) (line : Line) (lines : List Line) → LeftLine before lines exit line → Reasoned no_reads out Anything (put_lines h (n + numbers_kept) lines tail) → Reasoned no_reads out before (put_lines h n (line ∷ lines) tail)
  put before n (Cut cause) lines e r = (cut_put before (n + numbers_kept) lines cause e, r)
  put before n line lines e r =
      put_stands out h n (put_lines h (n + numbers_kept) lines tail) (λ b. anywhere no_reads out b (put_lines h (n + numbers_kept) lines tail) r) line (λ (c : IsCut line). c) before

  puts : (before : Before) (n : ℕ) (lines : List Line) → AreLeft exit before lines → Reasoned no_reads out before (put_lines h n lines tail)
  puts before n [] a = behind before
  puts before n (line ∷ lines) a = put before n line lines a.0 (puts Anything (n + numbers_kept) lines a.1)

result_stands : (out : Exit) (h : ℕ → Home) (n : ℕ) (from : Option ℕ) → Stands out (bring_result h n from)
result_stands out h n None = λ before. tt
result_stands out h n (Some r) = into_stands out (h r) 10 n [] (λ before. tt)

exit_stands : (out : Exit) (h : ℕ → Home) (n : ℕ) (exit : Exit) → Stands out (exit_lines h n exit)
exit_stands out h n (Jump b) = λ before. tt
exit_stands out h n (Turn b) = λ before. tt
exit_stands out h n (Branch on a b) = load_stands out (h on) 7 n [] (λ before. tt)
exit_stands out h n (Return from) = result_stands out h n from

exit_turns : (h : ℕ → Home) (n : ℕ) (exit : Exit) → IsTurn exit → EndsLoop (exit_lines h n exit) (put_exit h exit)
exit_turns h n (Jump b) e = absurd e
exit_turns h n (Turn b) e = tt
exit_turns h n (Branch on a b) e = absurd e
exit_turns h n (Return from) e = absurd e

at_start : (exit : Exit) (first : Bool) (lines : List Line) → After exit (if first then Begins else Anything) lines → AreLeft exit (if first then Begins else Anything) lines
at_start exit true lines a = a
at_start exit false lines a = a

blocks_placed : (h : ℕ → Home) (entry k n : ℕ) (xs ys : List Block) → PlacedBlocks h n xs ys → ReasonedBlocks no_reads entry k xs → ReasonedBlocks no_reads entry k ys
blocks_placed h entry k n [] [] p r = tt
blocks_placed h entry k n [] (y ∷ ys) p r = absurd p
blocks_placed h entry k n (x ∷ xs) [] p r = absurd p
blocks_placed h entry k n (x ∷ xs) (y ∷ ys) p r =
    let lines : List Line = needed x.exit x.lines.items in
    let m : ℕ = n + numbers_kept * length lines in
    let left = at_start x.exit (k == entry) lines (wanted x.exit (begins_at entry k) x.lines.items r.0) in
    let one = puts h x.exit (put_exit h x.exit) (exit_lines h m x.exit) (exit_stands (put_exit h x.exit) h m x.exit) (exit_turns h m x.exit) (begins_at entry k) n lines left in
    let exit = subst (λ e. Reasoned no_reads e (begins_at entry k) (put_lines h n lines (exit_lines h m x.exit))) (sym p.0.exit) one in
    (subst (λ l. Reasoned no_reads y.exit (begins_at entry k) l) (sym p.0.lines) exit, blocks_placed h entry (suc k) (n + numbers_kept * suc (length lines)) xs ys p.1 r.1)

pub function_placed : (old new : Function) → PlacedFunction old new → ReasonedFunction no_reads old → ReasonedFunction no_reads new
function_placed old new p r =
    let entry : new.entry ≡ old.entry = ap (λ (f : Function). f.entry) p.rest in
    subst (λ e. ReasonedBlocks no_reads e 0 new.blocks.items) (sym entry) (blocks_placed p.home old.entry 0 p.first_access old.blocks.items new.blocks.items p.blocks r)
