-- Promoted code is placeable.
use Rattle.std.proofs.Common.{◌≡◌, ℕ, ◌≤◌, List, [], ◌∷◌, Option, Some, None, refl, sym, ap, ◌∙◌, subst, arith, length}
use Rattle.std.specs.Prelude.{slice_get, map, All}
use Rattle.std.proofs.lemmas.List.Elements.{All-nil, All-cons, All-head, All-tail}
use Rattle.im_num.specs.declared.kind.Kind.{Kind}
use Rattle.im_num.specs.declared.kind.Kind.TheVariants.{I8, U8, I16, U16, I32, U32, Ptr}
use Rattle.im_block.specs.declared.code.Place.{Place}
use Rattle.im_block.specs.declared.code.Place.TheVariants.{Static, Local, Through}
use Rattle.im_block.specs.declared.code.Line.{Line}
use Rattle.im_block.specs.declared.code.Line.TheVariants.{Put, PutNull, Copy, Convert, Unary, Not, Compute, Compare, Move, Distance, Address, Read, Write, Reload, Spill, Cut, Call, Serve}
use Rattle.im_block.specs.declared.code.Block.{Block}
use Rattle.im_block.specs.declared.unit.Function.{Function}
use Rattle.im_block.specs.declared.unit.Unit.{Unit as Code}
use Rattle.im_block.specs.Paths.{IsEdge}
use Rattle.im_alloc_placed.specs.Operands.{PlaceExists}
use Rattle.im_alloc_placed.specs.Placeable.{IsPlaceableLine, LineFrom, ExitFrom, Receives, first_free, HasRoom, IsPlaceableFunction}
use Rattle.im_block.proofs.Unitwise.{Old, zip_old}
use Rattle.im_promote.specs.Laws.{PlaceableLaw}
use Rattle.im_promote.specs.Promote.{taken_into, read_as, write_as, home_of, promoted, PlaceFits, LineFits, LinesFit, PromotesBlock, PromotesFunction, PromotesFunctions}

taken_able : (statics : ℕ) (f : Function) (kind : Kind) (r from : ℕ) → IsPlaceableLine statics f (taken_into kind r from)
taken_able statics f I8 r from = λ e. cc
taken_able statics f U8 r from = λ e. cc
taken_able statics f I16 r from = λ e. cc
taken_able statics f U16 r from = λ e. cc
taken_able statics f I32 r from = λ e. cc
taken_able statics f U32 r from = λ e. cc
taken_able statics f Ptr r from = tt

taken_from : (n : ℕ) (kind : Kind) (r from : ℕ) → n ≤ r → n ≤ from → LineFrom n (taken_into kind r from)
taken_from n I8 r from p q = (p, q)
taken_from n U8 r from p q = (p, q)
taken_from n I16 r from p q = (p, q)
taken_from n U16 r from p q = (p, q)
taken_from n I32 r from p q = (p, q)
taken_from n U32 r from p q = (p, q)
taken_from n Ptr r from p q = (p, q)

taken_receives : (n : ℕ) (kind : Kind) (r from : ℕ) (rest : List Line) → n ≤ r → Receives n rest → Receives n (taken_into kind r from ∷ rest)
taken_receives n I8 r from rest p q = (p, q)
taken_receives n U8 r from rest p q = (p, q)
taken_receives n I16 r from rest p q = (p, q)
taken_receives n U16 r from rest p q = (p, q)
taken_receives n I32 r from rest p q = (p, q)
taken_receives n U32 r from rest p q = (p, q)
taken_receives n Ptr r from rest p q = (p, q)

-- lines that use no parameter are an entry's
all_receive : (n : ℕ) (lines : List Line) → All (LineFrom n) lines → Receives n lines
all_receive n [] w = tt
all_receive n (Write place kind from access ∷ rest) w = all_receive n rest (All-tail (LineFrom n) (Write place kind from access) rest w)
all_receive n (Cut cause ∷ rest) w = all_receive n rest (All-tail (LineFrom n) (Cut cause) rest w)
all_receive n (Copy to from ∷ rest) w = ((All-head (LineFrom n) (Copy to from) rest w).0, all_receive n rest (All-tail (LineFrom n) (Copy to from) rest w))
all_receive n (Convert to kind from ∷ rest) w = ((All-head (LineFrom n) (Convert to kind from) rest w).0, all_receive n rest (All-tail (LineFrom n) (Convert to kind from) rest w))
all_receive n (Put to z ∷ rest) w = w
all_receive n (PutNull to ∷ rest) w = w
all_receive n (Unary to op kind from ∷ rest) w = w
all_receive n (Not to from ∷ rest) w = w
all_receive n (Compute to op kind left right ∷ rest) w = w
all_receive n (Compare to op kind left right ∷ rest) w = w
all_receive n (Move to size back pointer by ∷ rest) w = w
all_receive n (Distance to size left right ∷ rest) w = w
all_receive n (Address to place ∷ rest) w = w
all_receive n (Read to place kind access ∷ rest) w = w
all_receive n (Reload to slot access ∷ rest) w = w
all_receive n (Spill slot from access ∷ rest) w = w
all_receive n (Call to i first many ∷ rest) w = w
all_receive n (Serve to service None ∷ rest) w = w
all_receive n (Serve to service (Some from) ∷ rest) w = w

module _ (statics : ℕ) (homes : ℕ → Option ℕ) (f g : Function) (p : PromotesFunction homes f g) (n : ℕ) (free : n ≤ f.register_count) where
  first_same : g.first_object ≡ f.first_object
  first_same = ap (λ (k : Function). k.first_object) p.rest

  place_exists : (place : Place) → PlaceExists statics f place → PlaceExists statics g place
  place_exists (Static object offset) h = h
  place_exists (Local object offset) h =
      let first = first_same in
      let count = p.count in
      let low = h.0.0 in
      let high = h.0.1 in
      ((omega (arith, first, low), omega (arith, first, count, high)), h.1)
  place_exists (Through pointer offset) h = h

  read_able : (to : ℕ) (place : Place) (kind : Kind) (access : ℕ) (home : Option ℕ) → PlaceExists statics f place → IsPlaceableLine statics g (read_as home to place kind access)
  read_able to place kind access None h = place_exists place h
  read_able to place kind access (Some r) h = tt

  write_able : (place : Place) (kind : Kind) (from access : ℕ) (home : Option ℕ) → PlaceExists statics f place → IsPlaceableLine statics g (write_as home place kind from access)
  write_able place kind from access None h = place_exists place h
  write_able place kind from access (Some r) h = taken_able statics g kind r from

  line_able : (line : Line) → IsPlaceableLine statics f line → IsPlaceableLine statics g (promoted homes line)
  line_able (Put to z) h = h
  line_able (PutNull to) h = h
  line_able (Copy to from) h = h
  line_able (Convert to kind from) h = h
  line_able (Unary to op kind from) h = h
  line_able (Not to from) h = h
  line_able (Compute to op kind left right) h = h
  line_able (Compare to op kind left right) h = h
  line_able (Move to size back pointer by) h = h
  line_able (Distance to size left right) h = h
  line_able (Address to place) h = place_exists place h
  line_able (Read to place kind access) h = read_able to place kind access (home_of homes place) h
  line_able (Write place kind from access) h = write_able place kind from access (home_of homes place) h
  line_able (Reload to slot access) h = h
  line_able (Spill slot from access) h = h
  line_able (Cut cause) h = h
  line_able (Call to i first many) h = h
  line_able (Serve to service None) h = h
  line_able (Serve to service (Some from)) h = h

  fresh_home : (place : Place) (r : ℕ) → home_of homes place ≡ Some r → PlaceFits homes f place → n ≤ r
  fresh_home (Static object offset) r e h = cc
  fresh_home (Through pointer offset) r e h = cc
  fresh_home (Local object offset) r e h = let low = (p.fresh object r (h r e).0 e).0 in omega (arith, free, low)

  read_from : (to : ℕ) (place : Place) (kind : Kind) (access : ℕ) (home : Option ℕ) → home_of homes place ≡ home → PlaceFits homes f place → LineFrom n (Read to place kind access) → LineFrom n (read_as home to place kind access)
  read_from to place kind access None e h w = w
  read_from to place kind access (Some r) e h w = (w.0, fresh_home place r e h)

  write_from : (place : Place) (kind : Kind) (from access : ℕ) (home : Option ℕ) → home_of homes place ≡ home → PlaceFits homes f place → LineFrom n (Write place kind from access) → LineFrom n (write_as home place kind from access)
  write_from place kind from access None e h w = w
  write_from place kind from access (Some r) e h w = taken_from n kind r from (fresh_home place r e h) w.1

  line_from : (line : Line) → LineFits homes f line → LineFrom n line → LineFrom n (promoted homes line)
  line_from (Put to z) h w = w
  line_from (PutNull to) h w = w
  line_from (Copy to from) h w = w
  line_from (Convert to kind from) h w = w
  line_from (Unary to op kind from) h w = w
  line_from (Not to from) h w = w
  line_from (Compute to op kind left right) h w = w
  line_from (Compare to op kind left right) h w = w
  line_from (Move to size back pointer by) h w = w
  line_from (Distance to size left right) h w = w
  line_from (Address to place) h w = w
  line_from (Read to place kind access) h w = read_from to place kind access (home_of homes place) refl h w
  line_from (Write place kind from access) h w = write_from place kind from access (home_of homes place) refl h w
  line_from (Reload to slot access) h w = absurd h
  line_from (Spill slot from access) h w = absurd h
  line_from (Cut cause) h w = w
  line_from (Call to i first many) h w = w
  line_from (Serve to service None) h w = w
  line_from (Serve to service (Some from)) h w = w

  lines_able : (lines : List Line) → All (IsPlaceableLine statics f) lines → All (IsPlaceableLine statics g) (map (promoted homes) lines)
  lines_able [] h = All-nil (IsPlaceableLine statics g)
  lines_able (line ∷ lines) h = All-cons (IsPlaceableLine statics g) (promoted homes line) (map (promoted homes) lines) (line_able line (All-head (IsPlaceableLine statics f) line lines h)) (lines_able lines (All-tail (IsPlaceableLine statics f) line lines h))

  lines_from : (lines : List Line) → LinesFit homes f lines → All (LineFrom n) lines → All (LineFrom n) (map (promoted homes) lines)
  lines_from [] h w = All-nil (LineFrom n)
  lines_from (line ∷ lines) h w = All-cons (LineFrom n) (promoted homes line) (map (promoted homes) lines) (line_from line h.0.0 (All-head (LineFrom n) line lines w)) (lines_from lines h.1 (All-tail (LineFrom n) line lines w))

  write_receives : (place : Place) (kind : Kind) (from access : ℕ) (rest : List Line) (home : Option ℕ) → home_of homes place ≡ home → PlaceFits homes f place → Receives n rest → Receives n (write_as home place kind from access ∷ rest)
  write_receives place kind from access rest None e h w = w
  write_receives place kind from access rest (Some r) e h w = taken_receives n kind r from rest (fresh_home place r e h) w

  lines_receive : (lines : List Line) → LinesFit homes f lines → Receives n lines → Receives n (map (promoted homes) lines)
  lines_receive [] h w = tt
  lines_receive (Write place kind from access ∷ rest) h w = write_receives place kind from access (map (promoted homes) rest) (home_of homes place) refl h.0.0 (lines_receive rest h.1 w)
  lines_receive (Cut cause ∷ rest) h w = lines_receive rest h.1 w
  lines_receive (Copy to from ∷ rest) h w = (w.0, lines_receive rest h.1 w.1)
  lines_receive (Convert to kind from ∷ rest) h w = (w.0, lines_receive rest h.1 w.1)
  lines_receive (Put to z ∷ rest) h w = lines_from (Put to z ∷ rest) h w
  lines_receive (PutNull to ∷ rest) h w = lines_from (PutNull to ∷ rest) h w
  lines_receive (Unary to op kind from ∷ rest) h w = lines_from (Unary to op kind from ∷ rest) h w
  lines_receive (Not to from ∷ rest) h w = lines_from (Not to from ∷ rest) h w
  lines_receive (Compute to op kind left right ∷ rest) h w = lines_from (Compute to op kind left right ∷ rest) h w
  lines_receive (Compare to op kind left right ∷ rest) h w = lines_from (Compare to op kind left right ∷ rest) h w
  lines_receive (Move to size back pointer by ∷ rest) h w = lines_from (Move to size back pointer by ∷ rest) h w
  lines_receive (Distance to size left right ∷ rest) h w = lines_from (Distance to size left right ∷ rest) h w
  lines_receive (Address to place ∷ rest) h w = lines_from (Address to place ∷ rest) h w
  lines_receive (Read to place kind access ∷ rest) h w = all_receive n (map (promoted homes) (Read to place kind access ∷ rest)) (lines_from (Read to place kind access ∷ rest) h w)
  lines_receive (Reload to slot access ∷ rest) h w = absurd h.0.0
  lines_receive (Spill slot from access ∷ rest) h w = absurd h.0.0
  lines_receive (Call to i first many ∷ rest) h w = lines_from (Call to i first many ∷ rest) h w
  lines_receive (Serve to service None ∷ rest) h w = lines_from (Serve to service None ∷ rest) h w
  lines_receive (Serve to service (Some from) ∷ rest) h w = lines_from (Serve to service (Some from) ∷ rest) h w

old_of : (homes : ℕ → Option ℕ) (f g : Function) (b : ℕ) (y : Block) → PromotesFunction homes f g → slice_get g.blocks.items b ≡ Some y → Old (PromotesBlock homes f) f.blocks.items b y
old_of homes f g b y p at = zip_old (PromotesBlock homes f) f.blocks.items g.blocks.items b y p.blocks at

placeable : (statics : ℕ) (homes : ℕ → Option ℕ) (f g : Function) → PromotesFunction homes f g → HasRoom g → IsPlaceableFunction statics f → IsPlaceableFunction statics g
placeable statics homes f g p room h =
    let entry : g.entry ≡ f.entry = ap (λ (k : Function). k.entry) p.rest in
    let parameters : g.parameters ≡ f.parameters = ap (λ (k : Function). k.parameters) p.rest in
    let first : g.first_parameter ≡ f.first_parameter = ap (λ (k : Function). k.first_parameter) p.rest in
    let none : first_free g ≡ first_free f = omega (arith, parameters, first) in
    let free = p.received in
    record {
      registers = ap (λ (k : Function). k.registers) p.rest ∙ h.registers;
      slots = ap (λ (k : Function). k.slots) p.rest ∙ h.slots;
      first = first ∙ h.first;
      room = room;
      lines = λ b y at.
          let o = old_of homes f g b y p at in
          subst (All (IsPlaceableLine statics g)) (sym o.is.lines) (lines_able statics homes f g p (first_free f) free o.old.lines.items (h.lines b o.old o.at));
      others = λ b y at other.
          let o = old_of homes f g b y p at in
          subst (λ n. All (LineFrom n) y.lines.items) (sym none) (subst (All (LineFrom (first_free f))) (sym o.is.lines)
          (lines_from statics homes f g p (first_free f) free o.old.lines.items o.is.fits (h.others b o.old o.at (λ e. other (e ∙ sym entry)))));
      entry = λ y at.
          let o = old_of homes f g g.entry y p at in
          subst (λ n. Receives n y.lines.items) (sym none) (subst (Receives (first_free f)) (sym o.is.lines)
          (lines_receive statics homes f g p (first_free f) free o.old.lines.items o.is.fits (h.entry o.old (subst (λ b. slice_get f.blocks.items b ≡ Some o.old) entry o.at))));
      exits = λ b y at.
          let o = old_of homes f g b y p at in
          subst (λ n. ExitFrom n y.exit) (sym none) (subst (ExitFrom (first_free f)) (sym o.is.exit) (h.exits b o.old o.at));
      no_return = λ b y at edge.
          let o = old_of homes f g b y p at in
          parameters ∙ h.no_return b o.old o.at (subst (IsEdge o.old.exit) entry (subst (λ x. IsEdge x g.entry) o.is.exit edge));
    }

-- whole units

functions_placeable : (statics : ℕ) (homes : ℕ → Option ℕ) (fs gs : List Function) → PromotesFunctions homes fs gs → All HasRoom gs → All (IsPlaceableFunction statics) fs → All (IsPlaceableFunction statics) gs
functions_placeable statics homes [] [] p room h = All-nil (IsPlaceableFunction statics)
functions_placeable statics homes [] (g ∷ gs) p room h = absurd p
functions_placeable statics homes (f ∷ fs) [] p room h = absurd p
functions_placeable statics homes (f ∷ fs) (g ∷ gs) p room h =
    All-cons (IsPlaceableFunction statics) g gs
    (placeable statics homes f g p.0 (All-head HasRoom g gs room) (All-head (IsPlaceableFunction statics) f fs h))
    (functions_placeable statics homes fs gs p.1 (All-tail HasRoom g gs room) (All-tail (IsPlaceableFunction statics) f fs h))

pub placeable_all : PlaceableLaw
placeable_all old new p h =
    let statics : length new.statics.items ≡ length old.statics.items = ap (λ (u : Code). length u.statics.items) p.promotes.rest in
    record {
      functions = subst (λ (n : ℕ). All (IsPlaceableFunction n) new.functions.items) (sym statics)
          (functions_placeable (length old.statics.items) p.promotes.homes old.functions.items new.functions.items p.promotes.functions p.room h.functions);
    }
