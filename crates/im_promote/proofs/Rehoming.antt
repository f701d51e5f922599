-- What is promoted with one map of homes is promoted with any that says the same of its own objects, and nothing of statics.
use Rattle.std.proofs.Common.{◌≡◌, inl, inr, ℕ, ◌+◌, ◌<◌, List, [], ◌∷◌, Option, Some, None, refl, sym, ap, ◌∙◌, arith, length}
use Rattle.std.specs.Prelude.{slice_get, map, All}
use Rattle.std.proofs.lemmas.List.Elements.{All-head, All-tail}
use Rattle.std.proofs.lemmas.Option.{slice_get_within, slice_get_past}
use Rattle.std.proofs.lemmas.Bool.{cases_lt}
use Rattle.im_block.specs.declared.code.Place.{Place}
use Rattle.im_block.specs.declared.code.Place.TheVariants.{Static, Local, Through}
use Rattle.im_block.specs.declared.code.Line.{Line}
use Rattle.im_block.specs.declared.code.Line.TheVariants.{Put, PutNull, Copy, Convert, Unary, Not, Compute, Compare, Move, Distance, Address, Read, Write, Reload, Spill, Cut, Call, Serve}
use Rattle.im_block.specs.declared.code.Block.{Block}
use Rattle.im_block.specs.declared.unit.Function.{Function}
use Rattle.im_alloc_placed.specs.Operands.{PlaceExists}
use Rattle.im_alloc_placed.specs.Placeable.{IsPlaceableLine}
use Rattle.im_block.proofs.Unitwise.{zip_so}
use Rattle.im_promote.specs.Promote.{read_as, write_as, home_of, promoted, Owns, PlaceKept, PlaceFits, LineFits, LinesFit, PromotesBlock, PromotesFunction}
use Rattle.im_promote.specs.Written.{WritesObjectsFirst}

module _ (h k : ℕ → Option ℕ) (statics : ℕ) (f : Function) (same : (n : ℕ) → Owns f n → k n ≡ h n) (none : (n : ℕ) → n < statics → k n ≡ None) where
  place_same : (place : Place) → PlaceExists statics f place → home_of k place ≡ home_of h place
  place_same (Static object offset) e = refl
  place_same (Local object offset) e = same object e.0
  place_same (Through pointer offset) e = refl

  line_same : (line : Line) → IsPlaceableLine statics f line → promoted k line ≡ promoted h line
  line_same (Put to z) e = refl
  line_same (PutNull to) e = refl
  line_same (Copy to from) e = refl
  line_same (Convert to kind from) e = refl
  line_same (Unary to op kind from) e = refl
  line_same (Not to from) e = refl
  line_same (Compute to op kind left right) e = refl
  line_same (Compare to op kind left right) e = refl
  line_same (Move to size back pointer by) e = refl
  line_same (Distance to size left right) e = refl
  line_same (Address to place) e = refl
  line_same (Read to place kind access) e = ap (λ z. read_as z to place kind access) (place_same place e)
  line_same (Write place kind from access) e = ap (λ z. write_as z place kind from access) (place_same place e)
  line_same (Reload to slot access) e = refl
  line_same (Spill slot from access) e = refl
  line_same (Cut cause) e = refl
  line_same (Call to i first many) e = refl
  line_same (Serve to service None) e = refl
  line_same (Serve to service (Some from)) e = refl

  lines_same : (lines : List Line) → All (IsPlaceableLine statics f) lines → map (promoted k) lines ≡ map (promoted h) lines
  lines_same [] e = refl
  lines_same (line ∷ rest) e =
      ap (λ z. z ∷ map (promoted k) rest) (line_same line (All-head (IsPlaceableLine statics f) line rest e))
      ∙ ap (λ z. promoted h line ∷ z) (lines_same rest (All-tail (IsPlaceableLine statics f) line rest e))

  place_kept : (place : Place) → PlaceExists statics f place → PlaceKept h place → PlaceKept k place
  place_kept (Static object offset) e w = none object e.0
  place_kept (Local object offset) e w = same object e.0 ∙ w
  place_kept (Through pointer offset) e w = tt

  place_fits : (place : Place) → PlaceExists statics f place → PlaceFits h f place → PlaceFits k f place
  place_fits (Static object offset) e w = none object e.0
  place_fits (Local object offset) e w = λ r is. w r (sym (same object e.0) ∙ is)
  place_fits (Through pointer offset) e w = tt

  line_fits : (line : Line) → IsPlaceableLine statics f line → LineFits h f line → LineFits k f line
  line_fits (Put to z) e w = tt
  line_fits (PutNull to) e w = tt
  line_fits (Copy to from) e w = tt
  line_fits (Convert to kind from) e w = tt
  line_fits (Unary to op kind from) e w = tt
  line_fits (Not to from) e w = tt
  line_fits (Compute to op kind left right) e w = tt
  line_fits (Compare to op kind left right) e w = tt
  line_fits (Move to size back pointer by) e w = tt
  line_fits (Distance to size left right) e w = tt
  line_fits (Address to place) e w = place_kept place e w
  line_fits (Read to place kind access) e w = place_fits place e w
  line_fits (Write place kind from access) e w = place_fits place e w
  line_fits (Reload to slot access) e w = w
  line_fits (Spill slot from access) e w = w
  line_fits (Cut cause) e w = tt
  line_fits (Call to i first many) e w = tt
  line_fits (Serve to service None) e w = tt
  line_fits (Serve to service (Some from)) e w = tt

  lines_fit : (lines : List Line) → All (IsPlaceableLine statics f) lines → LinesFit h f lines → LinesFit k f lines
  lines_fit [] e w = tt
  lines_fit (line ∷ rest) e w = (
    (line_fits line (All-head (IsPlaceableLine statics f) line rest e) w.0.0, w.0.1),
    lines_fit rest (All-tail (IsPlaceableLine statics f) line rest e) w.1,
  )

  block_again : (x y : Block) → All (IsPlaceableLine statics f) x.lines.items → PromotesBlock h f x y → PromotesBlock k f x y
  block_again x y e p = record {
    lines = p.lines ∙ sym (lines_same x.lines.items e);
    exit = p.exit;
    fits = lines_fit x.lines.items e p.fits;
    exit_within = p.exit_within;
  }

  owns : (i : ℕ) → i < length f.objects.items → Owns f (f.first_object + i)
  owns i lt = (omega arith, omega arith)

  pub function_again : (g : Function) → ((b : ℕ) (block : Block) → slice_get f.blocks.items b ≡ Some block → All (IsPlaceableLine statics f) block.lines.items) → PromotesFunction h f g → PromotesFunction k f g
  function_again g e p = record {
    blocks = zip_so (PromotesBlock h f) (PromotesBlock k f) f.blocks.items g.blocks.items (λ b x y at q. block_again x y (e b x at) q) p.blocks;
    rest = p.rest;
    virtual = p.virtual;
    received = p.received;
    fresh = λ n r o is. p.fresh n r o (sym (same n o) ∙ is);
    own = λ m n r o o' is is'. p.own m n r o o' (sym (same m o) ∙ is) (sym (same n o') ∙ is');
    more = p.more;
    count = p.count;
    others = λ i is. elim (cases_lt i (length f.objects.items)) [
      | inl lt ↦ p.others i (sym (same (f.first_object + i) (owns i lt)) ∙ is)
      | inr le ↦ (let c = p.count in slice_get_past g.objects.items i (omega arith) ∙ sym (slice_get_past f.objects.items i le))
    ];
    emptied = λ i r o is at.
        let lt = slice_get_within g.objects.items i o at in
        let c = p.count in
        let lt' : i < length f.objects.items = omega arith in
        p.emptied i r o (sym (same (f.first_object + i) (owns i lt')) ∙ is) at;
  }

  pub first_again : WritesObjectsFirst h f → WritesObjectsFirst k f
  first_again w = record { each = λ n r o is. w.each n r o (sym (same n o) ∙ is) }
