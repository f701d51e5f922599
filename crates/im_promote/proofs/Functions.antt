-- A function whose lines and objects are rewritten is promoted.
use Rattle.std.proofs.Common.{◌≡◌, ℕ, ◌+◌, ◌*◌, ◌<◌, ◌≤◌, Bool, true, false, List, [], ◌∷◌, Option, Some, None, refl, sym, ap, ◌∙◌, subst, arith, eq-eqb}
use Rattle.std.specs.Prelude.{slice_get, All, ◌==◌, ◌&&◌, not}
use Rattle.std.specs.List.{AllZip}
use Rattle.std.proofs.lemmas.List.Elements.{All-head, All-tail}
use Rattle.im_num.specs.declared.kind.Kind.{Kind}
use Rattle.im_block.specs.declared.code.Place.{Place}
use Rattle.im_block.specs.declared.code.Place.TheVariants.{Static, Local, Through}
use Rattle.im_block.specs.declared.code.Line.{Line}
use Rattle.im_block.specs.declared.code.Line.TheVariants.{Put, PutNull, Copy, Convert, Unary, Not, Compute, Compare, Move, Distance, Address, Read, Write, Reload, Spill, Cut, Call, Serve}
use Rattle.im_block.specs.declared.unit.Object.{Object}
use Rattle.im_block.specs.declared.unit.Function.{Function}
use Rattle.im_block.specs.Shape.{sum_of}
use Rattle.im_block.specs.Wellformed.{LineWithin, IsBlock}
use Rattle.im_alloc_placed.specs.Operands.{PlaceExists}
use Rattle.im_alloc_placed.specs.Placeable.{IsPlaceableLine, object_room}
use Rattle.im_block.proofs.Unitwise.{zip_so, zip_same, all_at}
use Rattle.im_promote.specs.Promote.{read_as, write_as, home_of, promoted, Owns, PlaceKept, PlaceFits, LineFits, LinesFit, PromotesBlock, PromotesFunction}
use Rattle.im_promote.specs.Written.{names, WritesObjectsFirst}
use Rattle.im_promote.specs.Words.{inside, breaks}
use Rattle.im_promote.specs.Homes.{home_at, homes_from, Numbered, MayBeRegister, AreChosen, RewritesBlock, RewritesFunction, IsReady, IsPromotedFunction}
use Rattle.im_promote.proofs.Bits.{same_of}
use Rattle.im_promote.proofs.Lists.{map_same}
use Rattle.im_promote.proofs.Numbering.{numbered_more, numbered_between, numbered_apart, home_below, home_index, has_home}
use Rattle.im_promote.proofs.Emptying.{emptied_count, emptied_others, emptied_own, emptied_room, no_homes, no_homes_count, no_homes_at, none_emptied}

at_start : (n offset : ℕ) → (n == n && not (offset == 0)) ≡ false → offset ≡ 0
at_start n offset e = by (offset == 0) refl
  where
    by : (t : Bool) → (offset == 0) ≡ t → offset ≡ 0
    by true q = same_of offset 0 q
    by false q = (let a : (n == n) ≡ true = eq-eqb n n refl in let b : (n == n && not (offset == 0)) ≡ true = ap (λ z. z && not (offset == 0)) a ∙ ap not q in cc)

module _ (f g : Function) (own : List (Option ℕ)) (count : ℕ) (ready : IsReady f) (chosen : AreChosen f own count) (rewrites : RewritesFunction own count f g) where
  abbrev homes : ℕ → Option ℕ
  homes = homes_from f.first_object own

  no_static : (n : ℕ) → n < ready.statics → homes n ≡ None
  no_static n lt = let le = ready.first in home_below f.first_object own n (omega arith)

  owned : (n r : ℕ) → homes n ≡ Some r → Owns f n
  owned n r e =
      let h = has_home f.first_object own n r e in
      let count = chosen.count in
      let number = h.number in
      let within = h.within in
      (omega (arith, number), omega (arith, number, within, count))

  may : (n r : ℕ) → homes n ≡ Some r → MayBeRegister f n
  may n r e = let h = has_home f.first_object own n r e in subst (MayBeRegister f) (sym h.number) (chosen.may h.index r h.at)

  -- lines

  kept : (place : Place) → PlaceExists ready.statics f place → ((n r : ℕ) → homes n ≡ Some r → names place n ≡ false) → PlaceKept homes place
  kept (Static object offset) h u = no_static object h.0
  kept (Through pointer offset) h u = tt
  kept (Local object offset) h u = by (homes object) refl
    where
      by : (o : Option ℕ) → homes object ≡ o → homes object ≡ None
      by None e = e
      by (Some r) e = (let a = u object r e in let b : (object == object) ≡ true = eq-eqb object object refl in cc)

  fits : (place : Place) → PlaceExists ready.statics f place → ((n r : ℕ) → homes n ≡ Some r → inside place n ≡ false) → PlaceFits homes f place
  fits (Static object offset) h u = no_static object h.0
  fits (Through pointer offset) h u = tt
  fits (Local object offset) h u = λ r e. (owned object r e, at_start object offset (u object r e))

  line_fits : (line : Line) → IsPlaceableLine ready.statics f line → ((n r : ℕ) → homes n ≡ Some r → breaks line n ≡ false) → LineFits homes f line
  line_fits (Put to z) h u = tt
  line_fits (PutNull to) h u = tt
  line_fits (Copy to from) h u = tt
  line_fits (Convert to kind from) h u = tt
  line_fits (Unary to op kind from) h u = tt
  line_fits (Not to from) h u = tt
  line_fits (Compute to op kind left right) h u = tt
  line_fits (Compare to op kind left right) h u = tt
  line_fits (Move to size back pointer by) h u = tt
  line_fits (Distance to size left right) h u = tt
  line_fits (Address to place) h u = kept place h u
  line_fits (Read to place kind access) h u = fits place h u
  line_fits (Write place kind from access) h u = fits place h u
  line_fits (Reload to slot access) h u = h
  line_fits (Spill slot from access) h u = h
  line_fits (Cut cause) h u = tt
  line_fits (Call to i first many) h u = tt
  line_fits (Serve to service None) h u = tt
  line_fits (Serve to service (Some from)) h u = tt

  lines_fit : (lines : List Line) → All (IsPlaceableLine ready.statics f) lines → All (LineWithin f.register_count) lines → ((n r : ℕ) → homes n ≡ Some r → All (λ (line : Line). breaks line n ≡ false) lines) → LinesFit homes f lines
  lines_fit [] h w u = tt
  lines_fit (line ∷ rest) h w u = (
    (line_fits line (All-head (IsPlaceableLine ready.statics f) line rest h) (λ n r e. All-head (λ (l : Line). breaks l n ≡ false) line rest (u n r e)), All-head (LineWithin f.register_count) line rest w),
    lines_fit rest (All-tail (IsPlaceableLine ready.statics f) line rest h) (All-tail (LineWithin f.register_count) line rest w) (λ n r e. All-tail (λ (l : Line). breaks l n ≡ false) line rest (u n r e)),
  )

  blocks_promoted : AllZip (PromotesBlock homes f) f.blocks.items g.blocks.items
  blocks_promoted = zip_so (RewritesBlock homes) (PromotesBlock homes f) f.blocks.items g.blocks.items (λ b x y at h.
      let one = all_at (IsBlock ready.functions f) f.blocks.items b x ready.formed.blocks at in
      record {
        lines = h.lines;
        exit = h.exit;
        fits = lines_fit x.lines.items (ready.placeable.lines b x at) one.lines_within (λ n r e. (may n r e).whole b x at);
        exit_within = one.exit_within;
      }) rewrites.blocks

  promotes : PromotesFunction homes f g
  promotes = record {
    blocks = blocks_promoted;
    rest = rewrites.rest ∙ ap (λ (z : ℕ). record f { register_count = z; objects = g.objects; blocks = g.blocks }) (sym count_is);
    virtual = ready.placeable.registers;
    received = ready.formed.received;
    fresh = λ n r owns e.
        let h = has_home f.first_object own n r e in
        let b = numbered_between f.register_count own count h.index r chosen.numbered h.at in
        (b.0, subst (λ z. r < z) (sym count_is) b.1);
    own = λ m n r owns owns' e e'.
        let h = has_home f.first_object own m r e in
        let k = has_home f.first_object own n r e' in
        h.number ∙ ap (λ z. f.first_object + z) (numbered_apart f.register_count own count h.index k.index r chosen.numbered h.at k.at) ∙ sym k.number;
    more = subst (λ z. f.register_count ≤ z) (sym count_is) (numbered_more f.register_count own count chosen.numbered);
    count = emptied_count own f.objects.items g.objects.items rewrites.objects;
    others = λ k e. emptied_others own f.objects.items g.objects.items rewrites.objects k (sym (home_index f.first_object own k) ∙ e);
    emptied = λ k r o e at. emptied_own own f.objects.items g.objects.items rewrites.objects k r o (sym (home_index f.first_object own k) ∙ e) at;
  }
    where
      count_is : g.register_count ≡ count
      count_is = ap (λ (k : Function). k.register_count) rewrites.rest

  written_first : WritesObjectsFirst homes f
  written_first = record { each = λ n r owns e. (may n r e).first }

  pub promoted_of : 8 + 8 * count + sum_of object_room f.objects.items ≤ f.need → IsPromotedFunction f g
  promoted_of room = record {
    own = own;
    count = chosen.count;
    promotes = promotes;
    first = written_first;
    room = (
        let less = emptied_room own f.objects.items g.objects.items rewrites.objects in
        let registers : g.register_count ≡ count = ap (λ (k : Function). k.register_count) rewrites.rest in
        let need : g.need ≡ f.need = ap (λ (k : Function). k.need) rewrites.rest in
        omega (arith, less, registers, need, room)
        );
  }

-- ---- a function that stays as it is

module _ (f : Function) (ready : IsReady f) where
  abbrev stays : List (Option ℕ)
  stays = no_homes f.objects.items

  no_home : (n : ℕ) → homes_from f.first_object stays n ≡ None
  no_home n = by (homes_from f.first_object stays n) refl
    where
      by : (o : Option ℕ) → homes_from f.first_object stays n ≡ o → homes_from f.first_object stays n ≡ None
      by None e = e
      by (Some r) e = (let h = has_home f.first_object stays n r e in let a : home_at (slice_get stays h.index) ≡ Some r = ap home_at h.at in let b = no_homes_at f.objects.items h.index in cc)

  read_stays : (to : ℕ) (place : Place) (kind : Kind) (access : ℕ) → home_of (homes_from f.first_object stays) place ≡ None → read_as (home_of (homes_from f.first_object stays) place) to place kind access ≡ Read to place kind access
  read_stays to place kind access e = ap (λ z. read_as z to place kind access) e

  write_stays : (place : Place) (kind : Kind) (from access : ℕ) → home_of (homes_from f.first_object stays) place ≡ None → write_as (home_of (homes_from f.first_object stays) place) place kind from access ≡ Write place kind from access
  write_stays place kind from access e = ap (λ z. write_as z place kind from access) e

  place_stays : (place : Place) → home_of (homes_from f.first_object stays) place ≡ None
  place_stays (Static object offset) = refl
  place_stays (Local object offset) = no_home object
  place_stays (Through pointer offset) = refl

  line_stays : (line : Line) → promoted (homes_from f.first_object stays) line ≡ line
  line_stays (Put to z) = refl
  line_stays (PutNull to) = refl
  line_stays (Copy to from) = refl
  line_stays (Convert to kind from) = refl
  line_stays (Unary to op kind from) = refl
  line_stays (Not to from) = refl
  line_stays (Compute to op kind left right) = refl
  line_stays (Compare to op kind left right) = refl
  line_stays (Move to size back pointer by) = refl
  line_stays (Distance to size left right) = refl
  line_stays (Address to place) = refl
  line_stays (Read to place kind access) = read_stays to place kind access (place_stays place)
  line_stays (Write place kind from access) = write_stays place kind from access (place_stays place)
  line_stays (Reload to slot access) = refl
  line_stays (Spill slot from access) = refl
  line_stays (Cut cause) = refl
  line_stays (Call to i first many) = refl
  line_stays (Serve to service None) = refl
  line_stays (Serve to service (Some from)) = refl

  blocks_stay : AllZip (RewritesBlock (homes_from f.first_object stays)) f.blocks.items f.blocks.items
  blocks_stay = zip_same (RewritesBlock (homes_from f.first_object stays)) (λ x. record { lines = sym (map_same (promoted (homes_from f.first_object stays)) line_stays x.lines.items); exit = refl }) f.blocks.items

  pub stays_promoted : IsPromotedFunction f f
  stays_promoted = promoted_of f f stays f.register_count ready
      (record {
        count = no_homes_count f.objects.items;
        numbered = none_numbered f.objects.items;
        may = λ k r e. (let a : home_at (slice_get stays k) ≡ Some r = ap home_at e in let b = no_homes_at f.objects.items k in cc);
      })
      (record { blocks = blocks_stay; objects = none_emptied f.objects.items; rest = refl })
      ready.placeable.room
    where
      none_numbered : (xs : List Object) → Numbered f.register_count (no_homes xs) f.register_count
      none_numbered [] = refl
      none_numbered (x ∷ xs) = none_numbered xs
