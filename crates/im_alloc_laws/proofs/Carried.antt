-- What holds of the lines behind holds of them with a line's pieces before, where pieces keep it.
use Rattle.std.specs.Prelude.{Some, None}
use Rattle.std.proofs.Common.{ℕ, zero, suc, ◌+◌, List, ◌∷◌}
use Rattle.im_num.specs.declared.values.Cause.TheVariants.{Return as ReturnCut}
use Rattle.im_serve.specs.declared.service.Service.{Service}
use Rattle.im_block.specs.declared.code.Place.{Place}
use Rattle.im_block.specs.declared.code.Place.TheVariants.{Static, Local, Through}
use Rattle.im_block.specs.declared.code.Line.{Line}
use Rattle.im_block.specs.declared.code.Line.TheVariants.{Put, PutNull, Copy, Convert, Unary, Not, Compute, Compare, Move, Distance, Address, Read, Write, Reload, Spill, Cut, Call, Serve}
use Rattle.im_block.specs.Paths.{IsCut}
use Rattle.im_alloc_relation.specs.Homes.{Home, InRegister, InSlot, load, reg, save, into, give, bring, load_place, on_place, put_line}

-- a line that is no call and no cut
abbrev pub IsPlain : Line → Type 0
IsPlain (Cut cause) = ⊥
IsPlain (Call to i first count) = ⊥
IsPlain (Serve to service None) = ⊥
IsPlain (Serve to service (Some from)) = ⊥
IsPlain line = Unit {0}

-- what keeps a property of lines: a plain line, and a call with its cut and the way of its result home
pub record Carries (Fact : Line → Type 0) (Q : List Line → Type 0) : Type 0 where
  pub plain : (line : Line) (rest : List Line) → IsPlain line → Q rest → Q (line ∷ rest)
  pub call : (to i first count : ℕ) (home : Home) (a : ℕ) (rest : List Line) → Fact (Call to i first count) → Q rest → Q (Call 10 i 10 count ∷ Cut ReturnCut ∷ give home a rest)
  pub get : (service : Service) (home : Home) (a : ℕ) (rest : List Line) → Q rest → Q (Serve 10 service None ∷ Cut ReturnCut ∷ give home a rest)
  pub put : (service : Service) (home : Home) (a : ℕ) (rest : List Line) → Q rest → Q (Serve 10 service (Some 10) ∷ Cut ReturnCut ∷ give home a rest)

module _ (Fact : Line → Type 0) (Q : List Line → Type 0) (c : Carries Fact Q) where
  pub carried_load : (home : Home) (s a : ℕ) (rest : List Line) → Q rest → Q (load home s a rest)
  carried_load (InRegister r) s a rest q = q
  carried_load (InSlot m) s a rest q = c.plain (Reload s m a) rest tt q

  carried_save : (home : Home) (a : ℕ) (rest : List Line) → Q rest → Q (save home a rest)
  carried_save (InRegister r) a rest q = q
  carried_save (InSlot m) a rest q = c.plain (Spill m 7 a) rest tt q

  pub carried_into : (home : Home) (k a : ℕ) (rest : List Line) → Q rest → Q (into home k a rest)
  carried_into (InRegister r) k a rest q = c.plain (Copy k r) rest tt q
  carried_into (InSlot m) k a rest q = c.plain (Reload k m a) rest tt q

  carried_bring : (h : ℕ → Home) (k first count a : ℕ) (rest : List Line) → Q rest → Q (bring h k first count a rest)
  carried_bring h k first zero a rest q = q
  carried_bring h k first (suc count) a rest q =
      carried_into (h first) k a (bring h (k + 1) (first + 1) count (a + 1) rest) (carried_bring h (k + 1) (first + 1) count (a + 1) rest q)

  carried_place : (h : ℕ → Home) (place : Place) (a : ℕ) (rest : List Line) → Q rest → Q (load_place h place a rest)
  carried_place h (Static object offset) a rest q = q
  carried_place h (Local object offset) a rest q = q
  carried_place h (Through pointer offset) a rest q = carried_load (h pointer) 7 a rest q

  set : (line : Line) (home : Home) (a : ℕ) (rest : List Line) → IsPlain line → Q rest → Q (line ∷ save home a rest)
  set line home a rest plain q = c.plain line (save home a rest) plain (carried_save home a rest q)

  one : (from : Home) (n : ℕ) (line : Line) (home : Home) (a : ℕ) (rest : List Line) → IsPlain line → Q rest → Q (load from 7 n (line ∷ save home a rest))
  one from n line home a rest plain q = carried_load from 7 n (line ∷ save home a rest) (set line home a rest plain q)

  two : (left right : Home) (n : ℕ) (line : Line) (home : Home) (a : ℕ) (rest : List Line) → IsPlain line → Q rest → Q (load left 7 n (load right 8 (n + 1) (line ∷ save home a rest)))
  two left right n line home a rest plain q =
      carried_load left 7 n (load right 8 (n + 1) (line ∷ save home a rest)) (carried_load right 8 (n + 1) (line ∷ save home a rest) (set line home a rest plain q))

  pub carried : (h : ℕ → Home) (n : ℕ) (line : Line) (rest : List Line) → (IsCut line → ⊥) → Fact line → Q rest → Q (put_line h n line rest)
  carried h n (Put to z) rest other fact q = set (Put (reg (h to) 7) z) (h to) (n + 2) rest tt q
  carried h n (PutNull to) rest other fact q = set (PutNull (reg (h to) 7)) (h to) (n + 2) rest tt q
  carried h n (Copy to from) rest other fact q = one (h from) n (Copy (reg (h to) 7) (reg (h from) 7)) (h to) (n + 2) rest tt q
  carried h n (Convert to kind from) rest other fact q = one (h from) n (Convert (reg (h to) 7) kind (reg (h from) 7)) (h to) (n + 2) rest tt q
  carried h n (Unary to op kind from) rest other fact q = one (h from) n (Unary (reg (h to) 7) op kind (reg (h from) 7)) (h to) (n + 2) rest tt q
  carried h n (Not to from) rest other fact q = one (h from) n (Not (reg (h to) 7) (reg (h from) 7)) (h to) (n + 2) rest tt q
  carried h n (Compute to op kind left right) rest other fact q = two (h left) (h right) n (Compute (reg (h to) 7) op kind (reg (h left) 7) (reg (h right) 8)) (h to) (n + 2) rest tt q
  carried h n (Compare to op kind left right) rest other fact q = two (h left) (h right) n (Compare (reg (h to) 7) op kind (reg (h left) 7) (reg (h right) 8)) (h to) (n + 2) rest tt q
  carried h n (Move to size back pointer by) rest other fact q = two (h pointer) (h by) n (Move (reg (h to) 7) size back (reg (h pointer) 7) (reg (h by) 8)) (h to) (n + 2) rest tt q
  carried h n (Distance to size left right) rest other fact q = two (h left) (h right) n (Distance (reg (h to) 7) size (reg (h left) 7) (reg (h right) 8)) (h to) (n + 2) rest tt q
  carried h n (Address to place) rest other fact q =
      let line : Line = Address (reg (h to) 7) (on_place h place) in
      carried_place h place n (line ∷ save (h to) (n + 2) rest) (set line (h to) (n + 2) rest tt q)
  carried h n (Read to place kind access) rest other fact q =
      let line : Line = Read (reg (h to) 7) (on_place h place) kind access in
      carried_place h place n (line ∷ save (h to) (n + 2) rest) (set line (h to) (n + 2) rest tt q)
  carried h n (Write place kind from access) rest other fact q =
      let line : Line = Write (on_place h place) kind (reg (h from) 8) access in
      carried_place h place n (load (h from) 8 (n + 1) (line ∷ rest)) (carried_load (h from) 8 (n + 1) (line ∷ rest) (c.plain line rest tt q))
  carried h n (Reload to slot access) rest other fact q = q
  carried h n (Spill slot from access) rest other fact q = q
  carried h n (Cut cause) rest other fact q = absurd (other tt)
  carried h n (Call to i first count) rest other fact q =
      carried_bring h 10 first count (n + 3) (Call 10 i 10 count ∷ Cut ReturnCut ∷ give (h to) (n + 2) rest) (c.call to i first count (h to) (n + 2) rest fact q)
  carried h n (Serve to service None) rest other fact q = c.get service (h to) (n + 2) rest q
  carried h n (Serve to service (Some from)) rest other fact q =
      carried_into (h from) 10 n (Serve 10 service (Some 10) ∷ Cut ReturnCut ∷ give (h to) (n + 2) rest) (c.put service (h to) (n + 2) rest q)
