-- No two cuts side by side.
use Rattle.std.proofs.Common.{ℕ, zero, suc, ◌+◌, ◌*◌, List, [], ◌∷◌, Some, None, sym, subst, length}
use Rattle.std.specs.Prelude.{Bool}
use Rattle.im_num.specs.declared.values.Cause.TheVariants.{Return as ReturnCut}
use Rattle.im_block.specs.declared.code.Place.{Place}
use Rattle.im_block.specs.declared.code.Place.TheVariants.{Static, Local, Through}
use Rattle.im_block.specs.declared.code.Line.{Line}
use Rattle.im_block.specs.declared.code.Line.TheVariants.{Put, PutNull, Copy, Convert, Unary, Not, Compute, Compare, Move, Distance, Address, Read, Write, Reload, Spill, Cut, Call, Serve}
use Rattle.im_block.specs.declared.code.Exit.{Exit}
use Rattle.im_block.specs.declared.code.Exit.TheVariants.{Jump, Turn, Branch, Return}
use Rattle.im_block.specs.declared.unit.Unit.{Unit as Code}
use Rattle.im_block.specs.Paths.{IsCut}
use Rattle.im_block.specs.Forced.{StartsWithCut}
use Rattle.im_alloc_placed.specs.Apart.{CutsApart, AllApart}
use Rattle.im_block.proofs.Unitwise.{zip_old}
use Rattle.im_alloc_relation.specs.Homes.{Home, InRegister, InSlot, numbers_kept, load, reg, save, into, give, bring, load_place, on_place, put_line, needed, put_lines, exit_lines}
use Rattle.im_alloc_relation.specs.Placing.{ValidLine, Valid, PlacedFunction, IsPlaced}
use Rattle.im_alloc_laws.proofs.Carried.{IsPlain, Carries, carried, carried_load, carried_into}
use Rattle.im_alloc_laws.proofs.Needed.{needed_apart, needed_valid}
use Rattle.im_alloc_laws.proofs.Pieces.{made}

abbrev Uncut : List Line → Type 0
Uncut lines = StartsWithCut lines → ⊥

apart_plain : (line : Line) (rest : List Line) → IsPlain line → CutsApart rest → CutsApart (line ∷ rest)
apart_plain (Cut cause) rest plain c = absurd plain
apart_plain line rest plain c = c

apart_give : (home : Home) (a : ℕ) (rest : List Line) → CutsApart rest → CutsApart (Cut ReturnCut ∷ give home a rest)
apart_give (InRegister r) a rest c = (λ s. s, c)
apart_give (InSlot m) a rest c = (λ s. s, c)

abbrev Any : Line → Type 0
Any line = Unit {0}

apart_carried : Carries Any CutsApart
apart_carried = record {
  plain = apart_plain;
  call = λ to i first count home a rest fact c. apart_give home a rest c;
  get = λ service home a rest c. apart_give home a rest c;
  put = λ service home a rest c. apart_give home a rest c;
}

-- what a line becomes begins with a cut only where it is one

uncut_load : (home : Home) (s a : ℕ) (rest : List Line) → Uncut rest → Uncut (load home s a rest)
uncut_load (InRegister r) s a rest c = c
uncut_load (InSlot m) s a rest c = λ k. k

uncut_into : (home : Home) (k a : ℕ) (rest : List Line) → Uncut (into home k a rest)
uncut_into (InRegister r) k a rest = λ s. s
uncut_into (InSlot m) k a rest = λ s. s

uncut_bring : (h : ℕ → Home) (k first count a : ℕ) (rest : List Line) → Uncut rest → Uncut (bring h k first count a rest)
uncut_bring h k first zero a rest c = c
uncut_bring h k first (suc count) a rest c = uncut_into (h first) k a (bring h (k + 1) (first + 1) count (a + 1) rest)

uncut_place : (h : ℕ → Home) (place : Place) (a : ℕ) (rest : List Line) → Uncut rest → Uncut (load_place h place a rest)
uncut_place h (Static object offset) a rest c = c
uncut_place h (Local object offset) a rest c = c
uncut_place h (Through pointer offset) a rest c = uncut_load (h pointer) 7 a rest c

uncut_two : (left right : Home) (n : ℕ) (rest : List Line) → Uncut rest → Uncut (load left 7 n (load right 8 (n + 1) rest))
uncut_two left right n rest c = uncut_load left 7 n (load right 8 (n + 1) rest) (uncut_load right 8 (n + 1) rest c)

uncut_line : (h : ℕ → Home) (n : ℕ) (line : Line) (rest : List Line) (after : ℕ → Bool) → ValidLine h line after → (IsCut line → ⊥) → Uncut (put_line h n line rest)
uncut_line h n (Put to z) rest after valid other = λ s. s
uncut_line h n (PutNull to) rest after valid other = λ s. s
uncut_line h n (Copy to from) rest after valid other = uncut_load (h from) 7 n (Copy (reg (h to) 7) (reg (h from) 7) ∷ save (h to) (n + 2) rest) (λ s. s)
uncut_line h n (Convert to kind from) rest after valid other = uncut_load (h from) 7 n (Convert (reg (h to) 7) kind (reg (h from) 7) ∷ save (h to) (n + 2) rest) (λ s. s)
uncut_line h n (Unary to op kind from) rest after valid other = uncut_load (h from) 7 n (Unary (reg (h to) 7) op kind (reg (h from) 7) ∷ save (h to) (n + 2) rest) (λ s. s)
uncut_line h n (Not to from) rest after valid other = uncut_load (h from) 7 n (Not (reg (h to) 7) (reg (h from) 7) ∷ save (h to) (n + 2) rest) (λ s. s)
uncut_line h n (Compute to op kind left right) rest after valid other = uncut_two (h left) (h right) n (Compute (reg (h to) 7) op kind (reg (h left) 7) (reg (h right) 8) ∷ save (h to) (n + 2) rest) (λ s. s)
uncut_line h n (Compare to op kind left right) rest after valid other = uncut_two (h left) (h right) n (Compare (reg (h to) 7) op kind (reg (h left) 7) (reg (h right) 8) ∷ save (h to) (n + 2) rest) (λ s. s)
uncut_line h n (Move to size back pointer by) rest after valid other = uncut_two (h pointer) (h by) n (Move (reg (h to) 7) size back (reg (h pointer) 7) (reg (h by) 8) ∷ save (h to) (n + 2) rest) (λ s. s)
uncut_line h n (Distance to size left right) rest after valid other = uncut_two (h left) (h right) n (Distance (reg (h to) 7) size (reg (h left) 7) (reg (h right) 8) ∷ save (h to) (n + 2) rest) (λ s. s)
uncut_line h n (Address to place) rest after valid other = uncut_place h place n (Address (reg (h to) 7) (on_place h place) ∷ save (h to) (n + 2) rest) (λ s. s)
uncut_line h n (Read to place kind access) rest after valid other = uncut_place h place n (Read (reg (h to) 7) (on_place h place) kind access ∷ save (h to) (n + 2) rest) (λ s. s)
uncut_line h n (Write place kind from access) rest after valid other =
    let line : Line = Write (on_place h place) kind (reg (h from) 8) access in
    uncut_place h place n (load (h from) 8 (n + 1) (line ∷ rest)) (uncut_load (h from) 8 (n + 1) (line ∷ rest) (λ s. s))
uncut_line h n (Reload to slot access) rest after valid other = absurd valid
uncut_line h n (Spill slot from access) rest after valid other = absurd valid
uncut_line h n (Cut cause) rest after valid other = absurd (other tt)
uncut_line h n (Call to i first count) rest after valid other = uncut_bring h 10 first count (n + 3) (Call 10 i 10 count ∷ Cut ReturnCut ∷ give (h to) (n + 2) rest) (λ s. s)
uncut_line h n (Serve to service None) rest after valid other = λ s. s
uncut_line h n (Serve to service (Some from)) rest after valid other = uncut_into (h from) 10 n (Serve 10 service (Some 10) ∷ Cut ReturnCut ∷ give (h to) (n + 2) rest)

uncut_lines : (h : ℕ → Home) (live : ℕ → ℕ → Bool) (n : ℕ) (lines tail : List Line) (exit : Exit) → Valid h live lines exit → Uncut lines → Uncut tail → Uncut (put_lines h n lines tail)
uncut_lines h live n [] tail exit valid other last = last
uncut_lines h live n (line ∷ lines) tail exit valid other last = uncut_line h n line (put_lines h (n + numbers_kept) lines tail) _ valid.0 other

apart_line : (h : ℕ → Home) (n : ℕ) (line : Line) (lines rest : List Line) → CutsApart (line ∷ lines) → (Uncut lines → Uncut rest) → CutsApart rest → CutsApart (put_line h n line rest)
apart_line h n (Cut cause) lines rest apart uncut c = (uncut apart.0, c)
apart_line h n line lines rest apart uncut c = carried Any CutsApart apart_carried h n line rest (λ k. k) tt c

apart_behind : (line : Line) (lines : List Line) → CutsApart (line ∷ lines) → CutsApart lines
apart_behind (Cut cause) lines c = c.1
apart_behind line lines c = c

apart_lines : (h : ℕ → Home) (live : ℕ → ℕ → Bool) (n : ℕ) (lines tail : List Line) (exit : Exit) → Valid h live lines exit → CutsApart lines → Uncut tail → CutsApart tail → CutsApart (put_lines h n lines tail)
apart_lines h live n [] tail exit valid apart uncut last = last
apart_lines h live n (line ∷ lines) tail exit valid apart uncut last =
    apart_line h n line lines (put_lines h (n + numbers_kept) lines tail) apart
    (λ other. uncut_lines h live (n + numbers_kept) lines tail exit valid.1 other uncut)
    (apart_lines h live (n + numbers_kept) lines tail exit valid.1 (apart_behind line lines apart) uncut last)

uncut_exit : (h : ℕ → Home) (n : ℕ) (exit : Exit) → Uncut (exit_lines h n exit)
uncut_exit h n (Jump b) = λ s. s
uncut_exit h n (Turn b) = λ s. s
uncut_exit h n (Branch on a b) = uncut_load (h on) 7 n [] (λ s. s)
uncut_exit h n (Return None) = λ s. s
uncut_exit h n (Return (Some r)) = uncut_into (h r) 10 n []

apart_exit : (h : ℕ → Home) (n : ℕ) (exit : Exit) → CutsApart (exit_lines h n exit)
apart_exit h n (Jump b) = tt
apart_exit h n (Turn b) = tt
apart_exit h n (Branch on a b) = carried_load Any CutsApart apart_carried (h on) 7 n [] tt
apart_exit h n (Return None) = tt
apart_exit h n (Return (Some r)) = carried_into Any CutsApart apart_carried (h r) 10 n [] tt

pub apart : (u v : Code) → IsPlaced u v → AllApart u → AllApart v
apart u v p a = record {
  each = λ i g b y at there.
      let o = zip_old PlacedFunction u.functions.items v.functions.items i g p.functions at in
      let f = o.is in
      let m = made f.home f.first_access o.old.blocks.items g.blocks.items b y f.blocks there in
      let k : ℕ = m.number + numbers_kept * length (needed m.old.exit m.old.lines.items) in
      subst CutsApart (sym m.placed.lines)
      (apart_lines f.home f.live m.number (needed m.old.exit m.old.lines.items) (exit_lines f.home k m.old.exit) m.old.exit (needed_valid f.home f.live m.old.exit m.old.lines.items (f.valid b m.old m.at)) (needed_apart m.old.exit m.old.lines.items (a.each i o.old b m.old o.at m.at)) (uncut_exit f.home k m.old.exit) (apart_exit f.home k m.old.exit));
}
