-- Promoted code writes each register before it reads it.
use Rattle.std.proofs.Common.{◌≡◌, ◌⊎◌, inl, inr, ℕ, zero, suc, ◌+◌, ◌<◌, ◌≤◌, List, [], ◌∷◌, length, Bool, true, false, Option, Some, None, refl, sym, ap, ◌∙◌, subst, arith, eq-eqb}
use Rattle.std.specs.Prelude.{slice_get, map, ◌==◌, ◌&&◌, ◌||◌, not, nat_le, nat_lt}
use Rattle.std.proofs.lemmas.Bool.{eqb-true, ltb-true, ltb-false}
use Rattle.im_num.specs.declared.kind.Kind.{Kind}
use Rattle.im_num.specs.declared.kind.Kind.TheVariants.{I8, U8, I16, U16, I32, U32, Ptr}
use Rattle.im_block.specs.declared.code.Place.{Place}
use Rattle.im_block.specs.declared.code.Place.TheVariants.{Static, Local, Through}
use Rattle.im_block.specs.declared.code.Line.{Line}
use Rattle.im_block.specs.declared.code.Line.TheVariants.{Put, PutNull, Copy, Convert, Unary, Not, Compute, Compare, Move, Distance, Address, Read, Write, Reload, Spill, Cut, Call, Serve}
use Rattle.im_block.specs.declared.code.Exit.{Exit}
use Rattle.im_block.specs.declared.code.Exit.TheVariants.{Jump, Turn, Branch, Return}
use Rattle.im_block.specs.declared.code.Block.{Block}
use Rattle.im_block.specs.declared.unit.Function.{Function}
use Rattle.im_block.specs.Wellformed.{PlaceWithin, LineWithin, ExitWithin}
use Rattle.im_block.proofs.Unitwise.{Both, zip_at}
use Rattle.im_promote.specs.Promote.{taken_into, read_as, write_as, home_of, promoted, Owns, PlaceFits, LineFits, LinesFit, PromotesBlock, PromotesFunction}
use Rattle.im_alloc_relation.specs.Live.{place_uses, uses, sets, exit_lives, lives}
use Rattle.im_alloc_relation.specs.Reads.{lives_in, reads_first, WritesFirst}
use Rattle.im_promote.specs.Written.{names, reads_object, writes_object, exit_objects, object_lives, IsWrittenFirst, WritesObjectsFirst}
use Rattle.im_promote.proofs.Alikes.{false_or, both}
use Rattle.im_promote.proofs.Sims.{some_is}

apart : (a b : ℕ) → (a ≡ b → ⊥) → (a == b) ≡ false
apart a b h = false_or (a == b) (λ e. h (eqb-true a b e))

same_test : (a b : Bool) → (a ≡ true → b ≡ true) → (b ≡ true → a ≡ true) → a ≡ b
same_test true true f h = refl
same_test true false f h = sym (f refl)
same_test false true f h = h refl
same_test false false f h = refl

or_false : (a b : Bool) → a ≡ false → b ≡ false → (a || b) ≡ false
or_false false false p q = refl
or_false false true p q = q
or_false true b p q = cc

and_false : (a b : Bool) → b ≡ false → (a && b) ≡ false
and_false true b q = q
and_false false b q = refl

-- what isn't of a line's registers it neither uses nor sets

no_place_uses : (n : ℕ) (place : Place) (v : ℕ) → PlaceWithin n place → n ≤ v → place_uses place v ≡ false
no_place_uses n (Static object offset) v h le = refl
no_place_uses n (Local object offset) v h le = refl
no_place_uses n (Through pointer offset) v h le = apart v pointer (λ e. omega arith)

no_uses : (n : ℕ) (line : Line) (v : ℕ) → LineWithin n line → n ≤ v → uses line v ≡ false
no_uses n (Put to z) v h le = refl
no_uses n (PutNull to) v h le = refl
no_uses n (Copy to from) v h le = apart v from (λ e. omega arith)
no_uses n (Convert to kind from) v h le = apart v from (λ e. omega arith)
no_uses n (Unary to op kind from) v h le = apart v from (λ e. omega arith)
no_uses n (Not to from) v h le = apart v from (λ e. omega arith)
no_uses n (Compute to op kind left right) v h le = or_false (v == left) (v == right) (apart v left (λ e. omega arith)) (apart v right (λ e. omega arith))
no_uses n (Compare to op kind left right) v h le = or_false (v == left) (v == right) (apart v left (λ e. omega arith)) (apart v right (λ e. omega arith))
no_uses n (Move to size back pointer by) v h le = or_false (v == pointer) (v == by) (apart v pointer (λ e. omega arith)) (apart v by (λ e. omega arith))
no_uses n (Distance to size left right) v h le = or_false (v == left) (v == right) (apart v left (λ e. omega arith)) (apart v right (λ e. omega arith))
no_uses n (Address to place) v h le = no_place_uses n place v h.1 le
no_uses n (Read to place kind access) v h le = no_place_uses n place v h.1 le
no_uses n (Write place kind from access) v h le = or_false (place_uses place v) (v == from) (no_place_uses n place v h.0 le) (apart v from (λ e. omega arith))
no_uses n (Reload to slot access) v h le = refl
no_uses n (Spill slot from access) v h le = apart v from (λ e. omega arith)
no_uses n (Cut cause) v h le = refl
no_uses n (Call to i first count) v h le = false_or (nat_le first v && nat_lt v (first + count)) (λ e.
    let t = both (nat_le first v) (nat_lt v (first + count)) e in
    let less = ltb-true v (first + count) t.1 in
    omega (arith, less, h, le))
no_uses n (Serve to service None) v h le = refl
no_uses n (Serve to service (Some from)) v h le = apart v from (λ e. omega arith)

no_sets : (n : ℕ) (line : Line) (v : ℕ) → LineWithin n line → n ≤ v → sets line v ≡ false
no_sets n (Put to z) v h le = apart v to (λ e. omega arith)
no_sets n (PutNull to) v h le = apart v to (λ e. omega arith)
no_sets n (Copy to from) v h le = apart v to (λ e. omega arith)
no_sets n (Convert to kind from) v h le = apart v to (λ e. omega arith)
no_sets n (Unary to op kind from) v h le = apart v to (λ e. omega arith)
no_sets n (Not to from) v h le = apart v to (λ e. omega arith)
no_sets n (Compute to op kind left right) v h le = apart v to (λ e. omega arith)
no_sets n (Compare to op kind left right) v h le = apart v to (λ e. omega arith)
no_sets n (Move to size back pointer by) v h le = apart v to (λ e. omega arith)
no_sets n (Distance to size left right) v h le = apart v to (λ e. omega arith)
no_sets n (Address to place) v h le = apart v to (λ e. omega arith)
no_sets n (Read to place kind access) v h le = apart v to (λ e. omega arith)
no_sets n (Write place kind from access) v h le = refl
no_sets n (Reload to slot access) v h le = apart v to (λ e. omega arith)
no_sets n (Spill slot from access) v h le = refl
no_sets n (Cut cause) v h le = refl
no_sets n (Call to i first count) v h le = apart v to (λ e. omega arith)
no_sets n (Serve to service None) v h le = apart v to (λ e. omega arith)
no_sets n (Serve to service (Some from)) v h le = apart v to (λ e. omega arith)

taken_uses : (kind : Kind) (r from v : ℕ) → uses (taken_into kind r from) v ≡ (v == from)
taken_uses I8 r from v = refl
taken_uses U8 r from v = refl
taken_uses I16 r from v = refl
taken_uses U16 r from v = refl
taken_uses I32 r from v = refl
taken_uses U32 r from v = refl
taken_uses Ptr r from v = refl

taken_sets : (kind : Kind) (r from v : ℕ) → sets (taken_into kind r from) v ≡ (v == r)
taken_sets I8 r from v = refl
taken_sets U8 r from v = refl
taken_sets I16 r from v = refl
taken_sets U16 r from v = refl
taken_sets I32 r from v = refl
taken_sets U32 r from v = refl
taken_sets Ptr r from v = refl

module _ (homes : ℕ → Option ℕ) (old new : Function) (p : PromotesFunction homes old new) where
  abbrev count : ℕ
  count = old.register_count

  -- registers of the old code: the new lines use and set them as before

  module _ (v : ℕ) (low : v < count) where
    below_home : (n r : ℕ) → Owns old n → homes n ≡ Some r → (v == r) ≡ false
    below_home n r owns is = let fresh = (p.fresh n r owns is).0 in apart v r (λ e. omega (arith, low, fresh, e))

    read_low : (to : ℕ) (place : Place) (kind : Kind) (access : ℕ) (home : Option ℕ) → home_of homes place ≡ home → PlaceFits homes old place → (uses (read_as home to place kind access) v ≡ uses (Read to place kind access) v) × (sets (read_as home to place kind access) v ≡ sets (Read to place kind access) v)
    read_low to place kind access None is h = (refl, refl)
    read_low to (Static object offset) kind access (Some r) is h = cc
    read_low to (Through pointer offset) kind access (Some r) is h = cc
    read_low to (Local object offset) kind access (Some r) is h = (below_home object r (h r is).0 is, refl)

    write_low : (place : Place) (kind : Kind) (from access : ℕ) (home : Option ℕ) → home_of homes place ≡ home → PlaceFits homes old place → (uses (write_as home place kind from access) v ≡ uses (Write place kind from access) v) × (sets (write_as home place kind from access) v ≡ sets (Write place kind from access) v)
    write_low place kind from access None is h = (refl, refl)
    write_low (Static object offset) kind from access (Some r) is h = cc
    write_low (Through pointer offset) kind from access (Some r) is h = cc
    write_low (Local object offset) kind from access (Some r) is h = (taken_uses kind r from v, taken_sets kind r from v ∙ below_home object r (h r is).0 is)

    line_low : (line : Line) → LineFits homes old line → (uses (promoted homes line) v ≡ uses line v) × (sets (promoted homes line) v ≡ sets line v)
    line_low (Put to z) h = (refl, refl)
    line_low (PutNull to) h = (refl, refl)
    line_low (Copy to from) h = (refl, refl)
    line_low (Convert to kind from) h = (refl, refl)
    line_low (Unary to op kind from) h = (refl, refl)
    line_low (Not to from) h = (refl, refl)
    line_low (Compute to op kind left right) h = (refl, refl)
    line_low (Compare to op kind left right) h = (refl, refl)
    line_low (Move to size back pointer by) h = (refl, refl)
    line_low (Distance to size left right) h = (refl, refl)
    line_low (Address to place) h = (refl, refl)
    line_low (Read to place kind access) h = read_low to place kind access (home_of homes place) refl h
    line_low (Write place kind from access) h = write_low place kind from access (home_of homes place) refl h
    line_low (Reload to slot access) h = absurd h
    line_low (Spill slot from access) h = absurd h
    line_low (Cut cause) h = (refl, refl)
    line_low (Call to i first many) h = (refl, refl)
    line_low (Serve to service None) h = (refl, refl)
    line_low (Serve to service (Some from)) h = (refl, refl)

    exit_low : (a b : ℕ → ℕ → Bool) (exit : Exit) → ((c : ℕ) → a c v ≡ b c v) → exit_lives a exit v ≡ exit_lives b exit v
    exit_low a b (Jump c) e = e c
    exit_low a b (Turn c) e = e c
    exit_low a b (Branch on x y) e = ap (λ z. v == on || z || a y v) (e x) ∙ ap (λ z. v == on || b x v || z) (e y)
    exit_low a b (Return from) e = refl

    lines_low : (a b : ℕ → ℕ → Bool) (lines : List Line) (exit : Exit) → LinesFit homes old lines → ((c : ℕ) → a c v ≡ b c v) → lives a (map (promoted homes) lines) exit v ≡ lives b lines exit v
    lines_low a b [] exit h e = exit_low a b exit e
    lines_low a b (line ∷ rest) exit h e =
        let t = line_low line h.0.0 in
        ap (λ z. z || (not (sets (promoted homes line) v) && lives a (map (promoted homes) rest) exit v)) t.0
        ∙ ap (λ z. uses line v || (not z && lives a (map (promoted homes) rest) exit v)) t.1
        ∙ ap (λ z. uses line v || (not (sets line v) && z)) (lines_low a b rest exit h.1 e)

    block_low : (a b : ℕ → ℕ → Bool) (x y : Option Block) → Both (PromotesBlock homes old) x y → ((c : ℕ) → a c v ≡ b c v) → lives_in a y v ≡ lives_in b x v
    block_low a b None None h e = refl
    block_low a b None (Some y) h e = absurd h
    block_low a b (Some x) None h e = absurd h
    block_low a b (Some x) (Some y) h e =
        ap (λ l. lives a l y.exit v) h.lines ∙ ap (λ z. lives a (map (promoted homes) x.lines.items) z v) h.exit ∙ lines_low a b x.lines.items x.exit h.fits e

    first_low : (n b : ℕ) → reads_first new.blocks.items n b v ≡ reads_first old.blocks.items n b v
    first_low zero b = refl
    first_low (suc n) b = block_low (reads_first new.blocks.items n) (reads_first old.blocks.items n) (slice_get old.blocks.items b) (slice_get new.blocks.items b) (zip_at (PromotesBlock homes old) old.blocks.items new.blocks.items b p.blocks) (first_low n)

  -- registers of promoted objects: the new lines use and set them where the old ones read and write the object

  module _ (v m : ℕ) (owns : Owns old m) (is_v : homes m ≡ Some v) where
    high : count ≤ v
    high = (p.fresh m v owns is_v).0

    same_home : (k r : ℕ) → Owns old k → homes k ≡ Some r → (v == r) ≡ (m == k)
    same_home k r own is = same_test (v == r) (m == k)
        (λ e. eq-eqb m k (p.own m k v owns own is_v (is ∙ ap Some (sym (eqb-true v r e)))))
        (λ e. eq-eqb v r (some_is v r (sym is_v ∙ ap homes (eqb-true m k e) ∙ is)))

    other_home : (place : Place) → home_of homes place ≡ None → names place m ≡ false
    other_home (Static object offset) is = refl
    other_home (Local object offset) is = apart m object (λ e. (let none : homes m ≡ None = ap homes e ∙ is in let some = is_v in cc))
    other_home (Through pointer offset) is = refl

    read_high : (to : ℕ) (place : Place) (kind : Kind) (access : ℕ) (home : Option ℕ) → home_of homes place ≡ home → PlaceFits homes old place → LineWithin count (Read to place kind access) → (uses (read_as home to place kind access) v ≡ names place m) × (sets (read_as home to place kind access) v ≡ false)
    read_high to place kind access None is h w = (no_uses count (Read to place kind access) v w high ∙ sym (other_home place is), no_sets count (Read to place kind access) v w high)
    read_high to (Static object offset) kind access (Some r) is h w = cc
    read_high to (Through pointer offset) kind access (Some r) is h w = cc
    read_high to (Local object offset) kind access (Some r) is h w = (same_home object r (h r is).0 is, no_sets count (Read to (Local object offset) kind access) v w high)

    write_high : (place : Place) (kind : Kind) (from access : ℕ) (home : Option ℕ) → home_of homes place ≡ home → PlaceFits homes old place → LineWithin count (Write place kind from access) → (uses (write_as home place kind from access) v ≡ false) × (sets (write_as home place kind from access) v ≡ names place m)
    write_high place kind from access None is h w = (no_uses count (Write place kind from access) v w high, sym (other_home place is))
    write_high (Static object offset) kind from access (Some r) is h w = cc
    write_high (Through pointer offset) kind from access (Some r) is h w = cc
    write_high (Local object offset) kind from access (Some r) is h w = (
      taken_uses kind r from v ∙ no_uses count (Write (Local object offset) kind from access) v w high,
      taken_sets kind r from v ∙ same_home object r (h r is).0 is,
    )

    other_line : (line : Line) → LineWithin count line → (uses line v ≡ false) × (sets line v ≡ false)
    other_line line w = (no_uses count line v w high, no_sets count line v w high)

    line_high : (line : Line) → LineFits homes old line → LineWithin count line → (uses (promoted homes line) v ≡ reads_object line m) × (sets (promoted homes line) v ≡ writes_object line m)
    line_high (Put to z) h w = other_line (Put to z) w
    line_high (PutNull to) h w = other_line (PutNull to) w
    line_high (Copy to from) h w = other_line (Copy to from) w
    line_high (Convert to kind from) h w = other_line (Convert to kind from) w
    line_high (Unary to op kind from) h w = other_line (Unary to op kind from) w
    line_high (Not to from) h w = other_line (Not to from) w
    line_high (Compute to op kind left right) h w = other_line (Compute to op kind left right) w
    line_high (Compare to op kind left right) h w = other_line (Compare to op kind left right) w
    line_high (Move to size back pointer by) h w = other_line (Move to size back pointer by) w
    line_high (Distance to size left right) h w = other_line (Distance to size left right) w
    line_high (Address to place) h w = other_line (Address to place) w
    line_high (Read to place kind access) h w = read_high to place kind access (home_of homes place) refl h w
    line_high (Write place kind from access) h w = write_high place kind from access (home_of homes place) refl h w
    line_high (Reload to slot access) h w = absurd h
    line_high (Spill slot from access) h w = absurd h
    line_high (Cut cause) h w = other_line (Cut cause) w
    line_high (Call to i first many) h w = other_line (Call to i first many) w
    line_high (Serve to service None) h w = other_line (Serve to service None) w
    line_high (Serve to service (Some from)) h w = other_line (Serve to service (Some from)) w

    module _ (a : ℕ → ℕ → Bool) (b : ℕ → Bool) (below : (c : ℕ) → a c v ≡ true → b c ≡ true) where
      exit_high : (exit : Exit) → ExitWithin count exit → exit_lives a exit v ≡ true → exit_objects b exit ≡ true
      exit_high (Jump c) w e = below c e
      exit_high (Turn c) w e = below c e
      exit_high (Branch on x y) w e = by_parts (v == on) (a x v) (a y v) (b x) (b y) (apart v on (λ q. (let h = high in omega (arith, w, h, q)))) (below x) (below y) e
        where
          by_parts : (t p q p' q' : Bool) → t ≡ false → (p ≡ true → p' ≡ true) → (q ≡ true → q' ≡ true) → (t || p || q) ≡ true → (p' || q') ≡ true
          by_parts true p q p' q' none f h e = cc
          by_parts false true q true q' none f h e = refl
          by_parts false true q false q' none f h e = (let z = f refl in cc)
          by_parts false false q true q' none f h e = refl
          by_parts false false q false q' none f h e = h e
      exit_high (Return None) w e = e
      exit_high (Return (Some r)) w e = (let z = apart v r (λ q. (let h = high in omega (arith, w, h, q))) in cc)

      lines_high : (lines : List Line) (exit : Exit) → LinesFit homes old lines → ExitWithin count exit → lives a (map (promoted homes) lines) exit v ≡ true → object_lives b lines exit m ≡ true
      lines_high [] exit h w e = exit_high exit w e
      lines_high (line ∷ rest) exit h w e =
          let t = line_high line h.0.0 h.0.1 in
          by_parts (uses (promoted homes line) v) (sets (promoted homes line) v) (lives a (map (promoted homes) rest) exit v) (reads_object line m) (writes_object line m) (object_lives b rest exit m) t.0 t.1 (lines_high rest exit h.1 w) e
        where
          by_parts : (p q r p' q' r' : Bool) → p ≡ p' → q ≡ q' → (r ≡ true → r' ≡ true) → (p || (not q && r)) ≡ true → (p' || (not q' && r')) ≡ true
          by_parts p q r true q' r' i j f e = refl
          by_parts true q r false q' r' i j f e = cc
          by_parts false true r false q' r' i j f e = cc
          by_parts false false r false true r' i j f e = cc
          by_parts false false r false false r' i j f e = f e

    block_high : (k : IsWrittenFirst old m) (n b : ℕ) (x y : Option Block) → ((c : ℕ) → reads_first new.blocks.items n c v ≡ true → k.live c ≡ true) → slice_get old.blocks.items b ≡ x → Both (PromotesBlock homes old) x y → lives_in (reads_first new.blocks.items n) y v ≡ true → k.live b ≡ true
    block_high k n b None None below at h e = cc
    block_high k n b None (Some y) below at h e = absurd h
    block_high k n b (Some x) None below at h e = absurd h
    block_high k n b (Some x) (Some y) below at h e =
        let same : lives (reads_first new.blocks.items n) (map (promoted homes) x.lines.items) x.exit v ≡ true =
        ap (λ z. lives (reads_first new.blocks.items n) (map (promoted homes) x.lines.items) z v) (sym h.exit) ∙ ap (λ l. lives (reads_first new.blocks.items n) l y.exit v) (sym h.lines) ∙ e in
        k.closed b x at (lines_high (reads_first new.blocks.items n) k.live below x.lines.items x.exit h.fits h.exit_within same)

    first_high : (k : IsWrittenFirst old m) (n b : ℕ) → reads_first new.blocks.items n b v ≡ true → k.live b ≡ true
    first_high k zero b e = cc
    first_high k (suc n) b e = block_high k n b (slice_get old.blocks.items b) (slice_get new.blocks.items b) (first_high k n) refl (zip_at (PromotesBlock homes old) old.blocks.items new.blocks.items b p.blocks) e

  -- further registers are used by no line

  module _ (v : ℕ) (high : count ≤ v) (none : (k r : ℕ) → Owns old k → homes k ≡ Some r → v ≡ r → ⊥) where
    read_none : (to : ℕ) (place : Place) (kind : Kind) (access : ℕ) (home : Option ℕ) → home_of homes place ≡ home → PlaceFits homes old place → LineWithin count (Read to place kind access) → uses (read_as home to place kind access) v ≡ false
    read_none to place kind access None is h w = no_uses count (Read to place kind access) v w high
    read_none to (Static object offset) kind access (Some r) is h w = cc
    read_none to (Through pointer offset) kind access (Some r) is h w = cc
    read_none to (Local object offset) kind access (Some r) is h w = apart v r (none object r (h r is).0 is)

    write_none : (place : Place) (kind : Kind) (from access : ℕ) (home : Option ℕ) → LineWithin count (Write place kind from access) → uses (write_as home place kind from access) v ≡ false
    write_none place kind from access None w = no_uses count (Write place kind from access) v w high
    write_none place kind from access (Some r) w = taken_uses kind r from v ∙ apart v from (λ e. (let lt = w.1 in omega (arith, lt, high, e)))

    line_none : (line : Line) → LineFits homes old line → LineWithin count line → uses (promoted homes line) v ≡ false
    line_none (Put to z) h w = refl
    line_none (PutNull to) h w = refl
    line_none (Copy to from) h w = no_uses count (Copy to from) v w high
    line_none (Convert to kind from) h w = no_uses count (Convert to kind from) v w high
    line_none (Unary to op kind from) h w = no_uses count (Unary to op kind from) v w high
    line_none (Not to from) h w = no_uses count (Not to from) v w high
    line_none (Compute to op kind left right) h w = no_uses count (Compute to op kind left right) v w high
    line_none (Compare to op kind left right) h w = no_uses count (Compare to op kind left right) v w high
    line_none (Move to size back pointer by) h w = no_uses count (Move to size back pointer by) v w high
    line_none (Distance to size left right) h w = no_uses count (Distance to size left right) v w high
    line_none (Address to place) h w = no_uses count (Address to place) v w high
    line_none (Read to place kind access) h w = read_none to place kind access (home_of homes place) refl h w
    line_none (Write place kind from access) h w = write_none place kind from access (home_of homes place) w
    line_none (Reload to slot access) h w = absurd h
    line_none (Spill slot from access) h w = absurd h
    line_none (Cut cause) h w = refl
    line_none (Call to i first many) h w = no_uses count (Call to i first many) v w high
    line_none (Serve to service None) h w = refl
    line_none (Serve to service (Some from)) h w = no_uses count (Serve to service (Some from)) v w high

    exit_none : (a : ℕ → ℕ → Bool) (exit : Exit) → ExitWithin count exit → ((c : ℕ) → a c v ≡ false) → exit_lives a exit v ≡ false
    exit_none a (Jump c) w e = e c
    exit_none a (Turn c) w e = e c
    exit_none a (Branch on x y) w e = or_false (v == on || a x v) (a y v) (or_false (v == on) (a x v) (apart v on (λ q. omega (arith, w, high, q))) (e x)) (e y)
    exit_none a (Return None) w e = refl
    exit_none a (Return (Some r)) w e = apart v r (λ q. omega (arith, w, high, q))

    lines_none : (a : ℕ → ℕ → Bool) (lines : List Line) (exit : Exit) → LinesFit homes old lines → ExitWithin count exit → ((c : ℕ) → a c v ≡ false) → lives a (map (promoted homes) lines) exit v ≡ false
    lines_none a [] exit h w e = exit_none a exit w e
    lines_none a (line ∷ rest) exit h w e = or_false (uses (promoted homes line) v) _ (line_none line h.0.0 h.0.1) (and_false (not (sets (promoted homes line) v)) (lives a (map (promoted homes) rest) exit v) (lines_none a rest exit h.1 w e))

    block_none : (a : ℕ → ℕ → Bool) (x y : Option Block) → Both (PromotesBlock homes old) x y → ((c : ℕ) → a c v ≡ false) → lives_in a y v ≡ false
    block_none a None None h e = refl
    block_none a None (Some y) h e = absurd h
    block_none a (Some x) None h e = absurd h
    block_none a (Some x) (Some y) h e =
        ap (λ l. lives a l y.exit v) h.lines ∙ ap (λ z. lives a (map (promoted homes) x.lines.items) z v) h.exit ∙ lines_none a x.lines.items x.exit h.fits h.exit_within e

    first_none : (n b : ℕ) → reads_first new.blocks.items n b v ≡ false
    first_none zero b = refl
    first_none (suc n) b = block_none (reads_first new.blocks.items n) (slice_get old.blocks.items b) (slice_get new.blocks.items b) (zip_at (PromotesBlock homes old) old.blocks.items new.blocks.items b p.blocks) (first_none n)

  -- whose register it is

  abbrev Found : ℕ → ℕ → Type 0
  Found v k = ((n : ℕ) × (old.first_object ≤ n) × (n < old.first_object + k) × (homes n ≡ Some v)) ⊎ ((n : ℕ) → old.first_object ≤ n → n < old.first_object + k → homes n ≡ Some v → ⊥)

  is_home : (v : ℕ) (o : Option ℕ) → (o ≡ Some v) ⊎ (o ≡ Some v → ⊥)
  is_home v None = inr (λ e. cc)
  is_home v (Some r) = by_test (r == v) refl
    where
      by_test : (b : Bool) → (r == v) ≡ b → (Some r ≡ Some v) ⊎ (Some r ≡ Some v → ⊥)
      by_test true e = inl (ap Some (eqb-true r v e))
      by_test false e = inr (λ q. (let t = eq-eqb r v (some_is r v q) in cc))

  search_home : (v k : ℕ) → Found v k
  search_home v zero = inr (λ n le lt e. omega (arith, le, lt))
  search_home v (suc k) = next (search_home v k) (is_home v (homes (old.first_object + k)))
    where
      next : Found v k → ((homes (old.first_object + k) ≡ Some v) ⊎ (homes (old.first_object + k) ≡ Some v → ⊥)) → Found v (suc k)
      next (inl h) t = inl (h.0, h.1, omega (arith, h.2), h.3)
      next (inr h) (inl e) = inl (old.first_object + k, omega arith, omega arith, e)
      next (inr h) (inr ne) = inr (λ n le lt e. last n le lt e (n == old.first_object + k) refl)
        where
          last : (n : ℕ) → old.first_object ≤ n → n < old.first_object + suc k → homes n ≡ Some v → (b : Bool) → (n == old.first_object + k) ≡ b → ⊥
          last n le lt e true t = ne (ap homes (sym (eqb-true n (old.first_object + k) t)) ∙ e)
          last n le lt e false t = h n le (let differ : n ≡ old.first_object + k → ⊥ = λ q. (let z = eq-eqb n (old.first_object + k) q in cc) in less n le lt differ) e
            where
              less : (n : ℕ) → old.first_object ≤ n → n < old.first_object + suc k → (n ≡ old.first_object + k → ⊥) → n < old.first_object + k
              less n le lt differ = omega (arith, le, lt, differ)

  written : WritesObjectsFirst homes old → WritesFirst old → WritesFirst new
  written k w = record {
    each = λ n v e.
        let entry : new.entry ≡ old.entry = ap (λ (f : Function). f.entry) p.rest in
        let parameters : new.parameters ≡ old.parameters = ap (λ (f : Function). f.parameters) p.rest in
        subst (λ z. v < z) (sym parameters) (by_side n v (ap (λ b. reads_first new.blocks.items n b v) (sym entry) ∙ e) (nat_lt v count) refl);
  }
    where
      by_owner : (n v : ℕ) → reads_first new.blocks.items n old.entry v ≡ true → count ≤ v → Found v (length old.objects.items) → v < old.parameters
      by_owner n v e le (inl h) =
          let first = k.each h.0 v (h.1, h.2) h.3 in
          let lives_there = first_high v h.0 (h.1, h.2) h.3 first n old.entry e in
          let dead = first.entry in
          cc
      by_owner n v e le (inr h) =
          let dead = first_none v le (λ m r owns is same. h m owns.0 owns.1 (is ∙ ap Some (sym same))) n old.entry in
          cc

      by_side : (n v : ℕ) → reads_first new.blocks.items n old.entry v ≡ true → (b : Bool) → nat_lt v count ≡ b → v < old.parameters
      by_side n v e true t = w.each n v (sym (first_low v (ltb-true v count t) n old.entry) ∙ e)
      by_side n v e false t = by_owner n v e (ltb-false v count t) (search_home v (length old.objects.items))

pub written_all : (homes : ℕ → Option ℕ) (old new : Function) → PromotesFunction homes old new → WritesObjectsFirst homes old → WritesFirst old → WritesFirst new
written_all homes old new p k w = written homes old new p k w
