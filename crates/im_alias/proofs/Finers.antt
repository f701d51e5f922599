-- A closed assignment by registers is one by definitions.
use Rattle.std.proofs.Common.{◌≡◌, ℕ, zero, suc, ◌+◌, List, [], ◌∷◌, ◌++◌, Bool, true, false, Option, Some, None, refl, sym, subst, inl, inr, ⊎_elim, ◌⊎◌}
use Rattle.std.specs.Prelude.{slice_get, ◌==◌, if◌then◌else◌}
use Rattle.std.proofs.lemmas.Bool.{eqb-true}
use Rattle.im_block.specs.declared.code.Place.{Place}
use Rattle.im_block.specs.declared.code.Place.TheVariants.{Static, Local, Through}
use Rattle.im_block.specs.declared.code.Line.{Line}
use Rattle.im_block.specs.declared.code.Line.TheVariants.{Put, PutNull, Copy, Convert, Unary, Not, Compute, Compare, Move, Distance, Address, Read, Write, Reload, Spill, Cut, Call, Serve}
use Rattle.im_block.specs.declared.code.Exit.{Exit}
use Rattle.im_block.specs.declared.code.Exit.TheVariants.{Jump, Turn, Branch, Return}
use Rattle.im_block.specs.declared.code.Block.{Block}
use Rattle.im_block.specs.declared.unit.Function.{Function}
use Rattle.im_block.specs.declared.unit.Unit.{Unit as Code}
use Rattle.im_block.specs.Sections.{Has}
use Rattle.im_block_laws.specs.PointsTo.{Points, Sub, PlaceHas, ExitGives, BlocksGive, CallClosed, LineClosed, LinesAre, IsClosed}
use Rattle.im_alias.specs.PointsAt.{PointsAt, sets_at, with_set, union, addressed, loaded, behind, CallFits, LineFits, ExitFits, Fit, IsClosedAt, exit_set, returned_by, result_of, finer}

pub from_append : (xs ys : List ℕ) (n : ℕ) → Has (xs ++ ys) n → Has xs n ⊎ Has ys n
from_append [] ys n h = inr h
from_append (x ∷ xs) ys n h = ⊎_elim (λ e. inl (inl e)) (λ t. ⊎_elim (λ a. inl (inr a)) (λ b. inr b) (from_append xs ys n t)) h

pub to_front : (xs ys : List ℕ) (n : ℕ) → Has xs n → Has (xs ++ ys) n
to_front [] ys n h = absurd h
to_front (x ∷ xs) ys n h = ⊎_elim (λ e. inl e) (λ t. inr (to_front xs ys n t)) h

pub to_back : (xs ys : List ℕ) (n : ℕ) → Has ys n → Has (xs ++ ys) n
to_back [] ys n h = h
to_back (x ∷ xs) ys n h = inr (to_back xs ys n h)

from_union : (sets : ℕ → List ℕ) (ns : List ℕ) (m : ℕ) → Has (union sets ns) m → (n : ℕ) × Has ns n × Has (sets n) m
from_union sets [] m h = absurd h
from_union sets (x ∷ ns) m h =
    ⊎_elim
    (λ a. (x, inl refl, a))
    (λ b. let k = from_union sets ns m b in (k.0, inr k.1, k.2))
    (from_append (sets x) (union sets ns) m h)

-- what returns give
exit_within : (points : Points) (i : ℕ) (set : List ℕ) (exit : Exit) → ExitGives points i set exit → Sub (exit_set points i exit) set
exit_within points i set (Jump b) h = λ n k. absurd k
exit_within points i set (Turn b) h = λ n k. absurd k
exit_within points i set (Branch on x y) h = λ n k. absurd k
exit_within points i set (Return None) h = λ n k. absurd k
exit_within points i set (Return (Some r)) h = h

returned_within : (points : Points) (i : ℕ) (set : List ℕ) (blocks : List Block) → BlocksGive points i set blocks → Sub (returned_by points i blocks) set
returned_within points i set [] h = λ n k. absurd k
returned_within points i set (b ∷ blocks) h = λ n k.
    ⊎_elim (λ a. exit_within points i set b.exit h.0 n a) (λ c. returned_within points i set blocks h.1 n c) (from_append (exit_set points i b.exit) (returned_by points i blocks) n k)

some_is : {A : Type 0} (a b : A) → Some a ≡ Some b → a ≡ b
some_is a b e = cc

is_returned : (points : Points) (i : ℕ) (blocks : List Block) (b : ℕ) (block : Block) → slice_get blocks b ≡ Some block → Sub (exit_set points i block.exit) (returned_by points i blocks)
is_returned points i [] b block at = cc
is_returned points i (x ∷ blocks) zero block at = λ n h.
    let one : x ≡ block = some_is x block at in
    to_front (exit_set points i x.exit) (returned_by points i blocks) n (subst (λ (y : Block). Has (exit_set points i y.exit) n) (sym one) h)
is_returned points i (x ∷ blocks) (suc b) block at = λ n h. to_back (exit_set points i x.exit) (returned_by points i blocks) n (is_returned points i blocks b block at n h)

module _ (u : Code) (points : Points) (closed : IsClosed points u) where
  abbrev p : PointsAt
  p = finer points u

  abbrev pub Within : ℕ → (ℕ → List ℕ) → Type 0
  Within i sets = (r : ℕ) → Sub (sets r) (points.register i r)

  pub within_set : (i : ℕ) (sets : ℕ → List ℕ) (to : ℕ) (set : List ℕ) → Within i sets → Sub set (points.register i to) → Within i (with_set sets to set)
  within_set i sets to set w h = λ r. choose r (r == to) refl
    where
      choose : (r : ℕ) (b : Bool) → (r == to) ≡ b → Sub (if b then set else sets r) (points.register i r)
      choose r true e = λ n k. subst (λ q. Has (points.register i q) n) (sym (eqb-true r to e)) (h n k)
      choose r false e = w r

  nothing : (i to : ℕ) → Sub [] (points.register i to)
  nothing i to = λ n k. absurd k

  place_within : (i : ℕ) (sets : ℕ → List ℕ) (place : Place) → Within i sets → (n : ℕ) → PlaceHas (sets_at p sets) i place n → PlaceHas points i place n
  place_within i sets (Static object offset) w n h = h
  place_within i sets (Local object offset) w n h = h
  place_within i sets (Through pointer offset) w n h = w pointer n h

  addressed_within : (i : ℕ) (sets : ℕ → List ℕ) (place : Place) (set : List ℕ) → Within i sets → ((n : ℕ) → PlaceHas points i place n → Has set n) → Sub (addressed sets place) set
  addressed_within i sets (Static object offset) set w h = λ n k. ⊎_elim (λ e. h n e) (λ x. absurd x) k
  addressed_within i sets (Local object offset) set w h = λ n k. ⊎_elim (λ e. h n e) (λ x. absurd x) k
  addressed_within i sets (Through pointer offset) set w h = λ n k. h n (w pointer n k)

  loaded_within : (i : ℕ) (sets : ℕ → List ℕ) (place : Place) (set : List ℕ) → Within i sets → ((n : ℕ) → PlaceHas points i place n → Sub (points.object n) set) → Sub (loaded p sets place) set
  loaded_within i sets (Static object offset) set w h = h object refl
  loaded_within i sets (Local object offset) set w h = h object refl
  loaded_within i sets (Through pointer offset) set w h = λ n k. let o = from_union points.object (sets pointer) n k in h o.0 (w pointer o.0 o.1) n o.2

  call_fits : (i to first count callee : ℕ) (sets : ℕ → List ℕ) (o : Option Function) → Within i sets → CallClosed points i to first count callee o → CallFits p sets first count callee o
  call_fits i to first count callee sets None w h = tt
  call_fits i to first count callee sets (Some f) w h = λ k few n a. h.0 k few n (w (first + k) n a)

  result_within : (i to first count callee : ℕ) (o : Option Function) → CallClosed points i to first count callee o → Sub (result_of points callee o) (points.register i to)
  result_within i to first count callee None h = λ n k. absurd k
  result_within i to first count callee (Some f) h = returned_within points callee (points.register i to) f.blocks.items h.1

  line_fits : (i : ℕ) (sets : ℕ → List ℕ) (line : Line) → Within i sets → LineClosed points u.functions.items i line → LineFits p u.functions.items sets i line
  line_fits i sets (Write place kind from access) w h = λ n k m a. h n (place_within i sets place w n k) m (w from m a)
  line_fits i sets (Reload to slot access) w h = h
  line_fits i sets (Spill slot from access) w h = h
  line_fits i sets (Call to callee first count) w h = call_fits i to first count callee sets (slice_get u.functions.items callee) w h
  line_fits i sets line w h = tt

  pub behind_within : (i : ℕ) (sets : ℕ → List ℕ) (line : Line) → Within i sets → LineClosed points u.functions.items i line → Within i (behind p sets line)
  behind_within i sets (Put to z) w h = within_set i sets to [] w (nothing i to)
  behind_within i sets (PutNull to) w h = within_set i sets to [] w (nothing i to)
  behind_within i sets (Copy to from) w h = within_set i sets to (sets from) w (λ n k. h n (w from n k))
  behind_within i sets (Convert to kind from) w h = within_set i sets to [] w (nothing i to)
  behind_within i sets (Unary to op kind from) w h = within_set i sets to [] w (nothing i to)
  behind_within i sets (Not to from) w h = within_set i sets to [] w (nothing i to)
  behind_within i sets (Compute to op kind left right) w h = within_set i sets to [] w (nothing i to)
  behind_within i sets (Compare to op kind left right) w h = within_set i sets to [] w (nothing i to)
  behind_within i sets (Move to size back pointer by) w h = within_set i sets to (sets pointer) w (λ n k. h n (w pointer n k))
  behind_within i sets (Distance to size left right) w h = within_set i sets to [] w (nothing i to)
  behind_within i sets (Address to place) w h = within_set i sets to (addressed sets place) w (addressed_within i sets place (points.register i to) w h)
  behind_within i sets (Read to place kind access) w h = within_set i sets to (loaded p sets place) w (loaded_within i sets place (points.register i to) w h)
  behind_within i sets (Write place kind from access) w h = w
  behind_within i sets (Reload to slot access) w h = w
  behind_within i sets (Spill slot from access) w h = w
  behind_within i sets (Cut cause) w h = w
  behind_within i sets (Call to callee first count) w h = within_set i sets to (p.result callee) w (result_within i to first count callee (slice_get u.functions.items callee) h)
  behind_within i sets (Serve to service None) w h = within_set i sets to [] w (nothing i to)
  behind_within i sets (Serve to service (Some from)) w h = within_set i sets to [] w (nothing i to)

  exit_fits : (i : ℕ) (sets : ℕ → List ℕ) (exit : Exit) → Within i sets → Sub (exit_set points i exit) (p.result i) → ExitFits p sets i exit
  exit_fits i sets (Jump b) w h = w
  exit_fits i sets (Turn b) w h = w
  exit_fits i sets (Branch on x y) w h = w
  exit_fits i sets (Return None) w h = tt
  exit_fits i sets (Return (Some r)) w h = λ n k. h n (w r n k)

  lines_fit : (i : ℕ) (sets : ℕ → List ℕ) (lines : List Line) (exit : Exit) → Within i sets → LinesAre (LineClosed points u.functions.items i) lines → Sub (exit_set points i exit) (p.result i) → Fit p u.functions.items sets i lines exit
  lines_fit i sets [] exit w h e = exit_fits i sets exit w e
  lines_fit i sets (line ∷ lines) exit w h e = (line_fits i sets line w h.0, lines_fit i (behind p sets line) lines exit (behind_within i sets line w h.0) h.1 e)

  result_is : (i : ℕ) (f : Function) (b : ℕ) (block : Block) → slice_get u.functions.items i ≡ Some f → slice_get f.blocks.items b ≡ Some block → Sub (exit_set points i block.exit) (p.result i)
  result_is i f b block at_f at = subst (λ o. Sub (exit_set points i block.exit) (result_of points i o)) (sym at_f) (is_returned points i f.blocks.items b block at)

  pub closed_at : IsClosedAt (finer points u) u
  closed_at = record {
    lines = λ i f b block at_f at. lines_fit i (points.register i) block.lines.items block.exit (λ r n k. k) (closed.lines i f b block at_f at) (result_is i f b block at_f at);
    statics = closed.statics;
  }
