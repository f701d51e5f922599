-- Forwarded code is placeable: what comes in the place of a register is no parameter.
use Rattle.std.proofs.Common.{◌≡◌, ◌⊎◌, inl, inr, ℕ, ◌≤◌, Bool, List, [], ◌∷◌, Some, None, sym, ap, ◌∙◌, subst, arith, length}
use Rattle.std.specs.Prelude.{slice_get, All}
use Rattle.std.proofs.lemmas.List.Elements.{All-nil, All-cons, All-head, All-tail}
use Rattle.im_block.specs.declared.code.Place.{Place}
use Rattle.im_block.specs.declared.code.Place.TheVariants.{Static, Local, Through}
use Rattle.im_block.specs.declared.code.Line.{Line}
use Rattle.im_block.specs.declared.code.Line.TheVariants.{Copy, Convert, Unary, Not, Compute, Compare, Move, Distance, Address, Read, Write, Spill, Cut, Serve}
use Rattle.im_block.specs.declared.code.Exit.{Exit}
use Rattle.im_block.specs.declared.code.Exit.TheVariants.{Jump, Turn, Branch, Return}
use Rattle.im_block.specs.declared.code.Block.{Block}
use Rattle.im_block.specs.declared.unit.Function.{Function}
use Rattle.im_block.specs.declared.unit.Unit.{Unit as Code}
use Rattle.im_block.specs.Paths.{IsEdge}
use Rattle.im_block.specs.Unitwise.{EachFunction}
use Rattle.im_block.proofs.Unitwise.{Old, zip_old, zip_each}
use Rattle.im_alloc_placed.specs.Operands.{PlaceExists, PlaceFrom}
use Rattle.im_alloc_placed.specs.Placeable.{IsPlaceableLine, LineFrom, ExitFrom, first_free, Receives, HasRoom, IsPlaceableFunction, IsPlaceable}
use Rattle.im_forward.specs.Straight.{target, setting, PassesOn, Copies, Converts}
use Rattle.im_forward.specs.Forward.{place_using, line_using, exit_using, ForwardsLines, Ends, Kept, LeftOut, Straight, ForwardsBlock, ForwardsOnce}
use Rattle.im_forward.proofs.Setting.{from_setting, from_passing}
use Rattle.im_forward.proofs.Shapes.{leaving}

-- lines that use no parameter are an entry's
all_receive : (n : ℕ) (lines : List Line) → All (LineFrom n) lines → Receives n lines
all_receive n [] w = tt
all_receive n (Write place kind from access ∷ rest) w = all_receive n rest (All-tail (LineFrom n) (Write place kind from access) rest w)
all_receive n (Cut cause ∷ rest) w = all_receive n rest (All-tail (LineFrom n) (Cut cause) rest w)
all_receive n (Copy to from ∷ rest) w = ((All-head (LineFrom n) (Copy to from) rest w).0, all_receive n rest (All-tail (LineFrom n) (Copy to from) rest w))
all_receive n (Convert to kind from ∷ rest) w = ((All-head (LineFrom n) (Convert to kind from) rest w).0, all_receive n rest (All-tail (LineFrom n) (Convert to kind from) rest w))
all_receive n (line ∷ rest) w = w

-- ---- what comes in is no parameter

module _ (n : ℕ) (instead : ℕ → ℕ) (keeps : (v : ℕ) → (instead v ≡ v) ⊎ (n ≤ instead v)) where
  one_from : (v : ℕ) → n ≤ v → n ≤ instead v
  one_from v le = elim (keeps v) [
    | inl e ↦ subst (λ z. n ≤ z) (sym e) le
    | inr k ↦ k
  ]

  place_from : (place : Place) → PlaceFrom n place → PlaceFrom n (place_using instead place)
  place_from (Static object offset) w = w
  place_from (Local object offset) w = w
  place_from (Through pointer offset) w = one_from pointer w

  line_from : (line : Line) → LineFrom n line → LineFrom n (line_using instead line)
  line_from (Copy to from) w = (w.0, one_from from w.1)
  line_from (Convert to kind from) w = (w.0, one_from from w.1)
  line_from (Unary to op kind from) w = (w.0, one_from from w.1)
  line_from (Not to from) w = (w.0, one_from from w.1)
  line_from (Compute to op kind left right) w = (w.0, one_from left w.1, one_from right w.2)
  line_from (Compare to op kind left right) w = (w.0, one_from left w.1, one_from right w.2)
  line_from (Move to size back pointer by) w = (w.0, one_from pointer w.1, one_from by w.2)
  line_from (Distance to size left right) w = (w.0, one_from left w.1, one_from right w.2)
  line_from (Address to place) w = (w.0, place_from place w.1)
  line_from (Read to place kind access) w = (w.0, place_from place w.1)
  line_from (Write place kind from access) w = (place_from place w.0, one_from from w.1)
  line_from (Spill slot from access) w = one_from from w
  line_from (Serve to service (Some from)) w = (w.0, one_from from w.1)
  line_from line w = w

  exit_from : (exit : Exit) → ExitFrom n exit → ExitFrom n (exit_using instead exit)
  exit_from (Jump b) w = w
  exit_from (Turn b) w = w
  exit_from (Branch on a b) w = one_from on w
  exit_from (Return None) w = w
  exit_from (Return (Some r)) w = one_from r w

  -- the first line of those that receive arguments, or all of them
  receives_line : (line : Line) (rest rest' : List Line) → Receives n (line ∷ rest) → (Receives n rest → Receives n rest') → (All (LineFrom n) rest → All (LineFrom n) rest') → Receives n (line_using instead line ∷ rest')
  receives_line (Write place kind from access) rest rest' h on all = on h
  receives_line (Cut cause) rest rest' h on all = on h
  receives_line (Copy to from) rest rest' h on all = (h.0, on h.1)
  receives_line (Convert to kind from) rest rest' h on all = (h.0, on h.1)
  receives_line (Serve to service None) rest rest' h on all =
      let line = Serve to service None in
      All-cons (LineFrom n) line rest' (line_from line (All-head (LineFrom n) line rest h)) (all (All-tail (LineFrom n) line rest h))
  receives_line (Serve to service (Some from)) rest rest' h on all =
      let line = Serve to service (Some from) in
      All-cons (LineFrom n) (line_using instead line) rest' (line_from line (All-head (LineFrom n) line rest h)) (all (All-tail (LineFrom n) line rest h))
  receives_line line rest rest' h on all =
      All-cons (LineFrom n) (line_using instead line) rest' (line_from line (All-head (LineFrom n) line rest h)) (all (All-tail (LineFrom n) line rest h))

lines_from : (n : ℕ) (live : ℕ → ℕ → Bool) (a b : Exit) (before old new : List Line) → ForwardsLines n live a b before old new → All (LineFrom n) old → All (LineFrom n) new
lines_from n live a b before old new (Ends gone e) h = All-nil (LineFrom n)
lines_from n live a b before old new (Kept gone rest rest' x y k left) h =
    All-cons (LineFrom n) y rest' (subst (LineFrom n) (sym k.line) (line_from n k.instead k.may.no_parameter x (All-head (LineFrom n) x rest h)))
    (lines_from n live a b (x ∷ gone) rest rest' left (All-tail (LineFrom n) x rest h))
lines_from n live a b before old new (LeftOut gone rest rest' to from dead left) h =
    lines_from n live a b (Copy to from ∷ gone) rest rest' left (All-tail (LineFrom n) (Copy to from) rest h)
lines_from n live a b before old new (Straight gone rest rest' x y t v p left) h =
    let behind = All-tail (LineFrom n) x (y ∷ rest) h in
    let le : n ≤ v = from_passing x t v n y p.passes (All-head (LineFrom n) y rest behind) in
    All-cons (LineFrom n) (setting v x) rest' (from_setting n v le x (All-head (LineFrom n) x (y ∷ rest) h))
    (lines_from n live a b (y ∷ x ∷ gone) rest rest' left (All-tail (LineFrom n) y rest behind))

-- what comes in the place of a line and of that which passes its value on
receives_passing : (n t v : ℕ) (x y : Line) → PassesOn x t v y → (rest rest' : List Line) → Receives n (y ∷ rest) → (Receives n rest → Receives n rest') → (n ≤ v) × Receives n rest'
receives_passing n t v x y Copies rest rest' h on = (h.0, on h.1)
receives_passing n t v x y (Converts kind g) rest rest' h on = (h.0, on h.1)

receives_pair : (n t v : ℕ) (x y : Line) → target x ≡ Some t → PassesOn x t v y → (rest rest' : List Line) → Receives n (x ∷ y ∷ rest) → (Receives n rest → Receives n rest') → (All (LineFrom n) rest → All (LineFrom n) rest') → Receives n (setting v x ∷ rest')
receives_pair n t v (Write place kind from access) y sets p rest rest' h on all = absurd cc
receives_pair n t v (Cut cause) y sets p rest rest' h on all = absurd cc
receives_pair n t v (Copy to from) y sets p rest rest' h on all = absurd cc
receives_pair n t v (Convert to kind from) y sets p rest rest' h on all = receives_passing n t v (Convert to kind from) y p rest rest' h.1 on
receives_pair n t v x y sets p rest rest' h on all =
    let behind = All-tail (LineFrom n) x (y ∷ rest) h in
    let le : n ≤ v = from_passing x t v n y p (All-head (LineFrom n) y rest behind) in
    All-cons (LineFrom n) (setting v x) rest' (from_setting n v le x (All-head (LineFrom n) x (y ∷ rest) h)) (all (All-tail (LineFrom n) y rest behind))

lines_receive : (n : ℕ) (live : ℕ → ℕ → Bool) (a b : Exit) (before old new : List Line) → ForwardsLines n live a b before old new → Receives n old → Receives n new
lines_receive n live a b before old new (Ends gone e) h = tt
lines_receive n live a b before old new (Kept gone rest rest' x y k left) h =
    subst (λ z. Receives n (z ∷ rest')) (sym k.line)
    (receives_line n k.instead k.may.no_parameter x rest rest' h (lines_receive n live a b (x ∷ gone) rest rest' left) (lines_from n live a b (x ∷ gone) rest rest' left))
lines_receive n live a b before old new (LeftOut gone rest rest' to from dead left) h =
    lines_receive n live a b (Copy to from ∷ gone) rest rest' left h.1
lines_receive n live a b before old new (Straight gone rest rest' x y t v p left) h =
    receives_pair n t v x y p.sets p.passes rest rest' h (lines_receive n live a b (y ∷ x ∷ gone) rest rest' left) (lines_from n live a b (y ∷ x ∷ gone) rest rest' left)

-- ---- operators, objects and calls are as they were

module _ (statics : ℕ) (f g : Function) (first : g.first_object ≡ f.first_object) (count : length g.objects.items ≡ length f.objects.items) where
  place_exists : (instead : ℕ → ℕ) (place : Place) → PlaceExists statics f place → PlaceExists statics g (place_using instead place)
  place_exists instead (Static object offset) h = h
  place_exists instead (Local object offset) h =
      let low = h.0.0 in
      let high = h.0.1 in
      ((omega (arith, first, low), omega (arith, first, count, high)), h.1)
  place_exists instead (Through pointer offset) h = h

  line_able : (instead : ℕ → ℕ) (line : Line) → IsPlaceableLine statics f line → IsPlaceableLine statics g (line_using instead line)
  line_able instead (Address to place) h = place_exists instead place h
  line_able instead (Read to place kind access) h = place_exists instead place h
  line_able instead (Write place kind from access) h = place_exists instead place h
  line_able instead (Serve to service None) h = h
  line_able instead (Serve to service (Some from)) h = h
  line_able instead line h = h

  exists_still : (place : Place) → PlaceExists statics f place → PlaceExists statics g place
  exists_still (Static object offset) h = h
  exists_still (Local object offset) h =
      let low = h.0.0 in
      let high = h.0.1 in
      ((omega (arith, first, low), omega (arith, first, count, high)), h.1)
  exists_still (Through pointer offset) h = h

  able_setting : (v : ℕ) (line : Line) → IsPlaceableLine statics f line → IsPlaceableLine statics g (setting v line)
  able_setting v (Address to place) h = exists_still place h
  able_setting v (Read to place kind access) h = exists_still place h
  able_setting v (Write place kind from access) h = exists_still place h
  able_setting v line h = h

  lines_able : (n : ℕ) (live : ℕ → ℕ → Bool) (a b : Exit) (before old new : List Line) → ForwardsLines n live a b before old new → All (IsPlaceableLine statics f) old → All (IsPlaceableLine statics g) new
  lines_able n live a b before old new (Ends gone e) h = All-nil (IsPlaceableLine statics g)
  lines_able n live a b before old new (Kept gone rest rest' x y k left) h =
      All-cons (IsPlaceableLine statics g) y rest' (subst (IsPlaceableLine statics g) (sym k.line) (line_able k.instead x (All-head (IsPlaceableLine statics f) x rest h)))
      (lines_able n live a b (x ∷ gone) rest rest' left (All-tail (IsPlaceableLine statics f) x rest h))
  lines_able n live a b before old new (LeftOut gone rest rest' to from dead left) h =
      lines_able n live a b (Copy to from ∷ gone) rest rest' left (All-tail (IsPlaceableLine statics f) (Copy to from) rest h)
  lines_able n live a b before old new (Straight gone rest rest' x y t v p left) h =
      All-cons (IsPlaceableLine statics g) (setting v x) rest' (able_setting v x (All-head (IsPlaceableLine statics f) x (y ∷ rest) h))
      (lines_able n live a b (y ∷ x ∷ gone) rest rest' left (All-tail (IsPlaceableLine statics f) y rest (All-tail (IsPlaceableLine statics f) x (y ∷ rest) h)))

edge_kept : (instead : ℕ → ℕ) (exit : Exit) (b : ℕ) → IsEdge (exit_using instead exit) b → IsEdge exit b
edge_kept instead (Jump c) b h = h
edge_kept instead (Turn c) b h = h
edge_kept instead (Branch on x y) b h = h
edge_kept instead (Return None) b h = h
edge_kept instead (Return (Some r)) b h = h

-- ---- the old block of a new one

old_of : (f g : Function) (p : ForwardsOnce f g) (b : ℕ) (y : Block) → slice_get g.blocks.items b ≡ Some y → Old (ForwardsBlock (first_free f) p.live) f.blocks.items b y
old_of f g p b y at = zip_old (ForwardsBlock (first_free f) p.live) f.blocks.items g.blocks.items b y p.blocks at

placeable : (statics : ℕ) (f g : Function) → ForwardsOnce f g → IsPlaceableFunction statics f → IsPlaceableFunction statics g
placeable statics f g p h =
    let entry : g.entry ≡ f.entry = ap (λ (k : Function). k.entry) p.rest in
    let parameters : g.parameters ≡ f.parameters = ap (λ (k : Function). k.parameters) p.rest in
    let first : g.first_parameter ≡ f.first_parameter = ap (λ (k : Function). k.first_parameter) p.rest in
    let objects : g.first_object ≡ f.first_object = ap (λ (k : Function). k.first_object) p.rest in
    let count : length g.objects.items ≡ length f.objects.items = ap (λ (k : Function). length k.objects.items) p.rest in
    let none : first_free g ≡ first_free f = omega (arith, parameters, first) in
    let free = first_free f in
    record {
      registers = ap (λ (k : Function). k.registers) p.rest ∙ h.registers;
      slots = ap (λ (k : Function). k.slots) p.rest ∙ h.slots;
      first = first ∙ h.first;
      room = subst HasRoom (sym p.rest) h.room;
      lines = λ b y at.
          let o = old_of f g p b y at in
          lines_able statics f g objects count free p.live o.old.exit y.exit [] o.old.lines.items y.lines.items o.is.lines (h.lines b o.old o.at);
      others = λ b y at other.
          let o = old_of f g p b y at in
          subst (λ n. All (LineFrom n) y.lines.items) (sym none)
          (lines_from free p.live o.old.exit y.exit [] o.old.lines.items y.lines.items o.is.lines (h.others b o.old o.at (λ e. other (e ∙ sym entry))));
      entry = λ y at.
          let o = old_of f g p g.entry y at in
          subst (λ n. Receives n y.lines.items) (sym none)
          (lines_receive free p.live o.old.exit y.exit [] o.old.lines.items y.lines.items o.is.lines (h.entry o.old (subst (λ b. slice_get f.blocks.items b ≡ Some o.old) entry o.at)));
      exits = λ b y at.
          let o = old_of f g p b y at in
          let e = (leaving free p.live o.old.exit y.exit [] o.old.lines.items y.lines.items o.is.lines).exit in
          subst (λ n. ExitFrom n y.exit) (sym none) (subst (ExitFrom free) (sym e.exit) (exit_from free e.instead e.may.no_parameter o.old.exit (h.exits b o.old o.at)));
      no_return = λ b y at edge.
          let o = old_of f g p b y at in
          let e = (leaving free p.live o.old.exit y.exit [] o.old.lines.items y.lines.items o.is.lines).exit in
          parameters ∙ h.no_return b o.old o.at (subst (IsEdge o.old.exit) entry (edge_kept e.instead o.old.exit g.entry (subst (λ x. IsEdge x g.entry) e.exit edge)));
    }

pub unit_placeable : (old new : Code) → EachFunction ForwardsOnce old new → IsPlaceable old → IsPlaceable new
unit_placeable old new p h = subst IsPlaceable (sym p.rest) (record {
  functions = zip_each ForwardsOnce (IsPlaceableFunction (length old.statics.items)) (IsPlaceableFunction (length old.statics.items)) (placeable (length old.statics.items)) old.functions.items new.functions.items p.functions h.functions;
})
