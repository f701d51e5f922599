-- What is known of a unit's blocks and lines.
use Rattle.std.proofs.Common.{◌≡◌, ℕ, zero, suc, ◌+◌, ◌<◌, ◌≤◌, List, [], ◌∷◌, length, take, Option, Some, None, refl, sym, ap, ◌∙◌, subst, arith, le_refl}
use Rattle.std.specs.Prelude.{slice_get, All}
use Rattle.std.proofs.lemmas.Option.{slice_get_within, get_or_from_slice_get}
use Rattle.std.proofs.lemmas.List.{take_all}
use Rattle.im_block.specs.declared.code.Line.{Line}
use Rattle.im_block.specs.declared.code.Line.TheVariants.{Call, Reload, Spill}
use Rattle.im_block.specs.declared.code.Block.{Block}
use Rattle.im_block.specs.declared.unit.Function.{Function}
use Rattle.im_block.specs.declared.unit.Unit.{Unit as Code}
use Rattle.im_block.specs.Shape.{sum_of}
use Rattle.im_block.specs.Wellformed.{IsFunction, IsBlock, LineWithin, LineThere, Takes, objects_below}
use Rattle.im_alloc_placed.specs.Placeable.{IsPlaceableFunction, IsPlaceableLine}
use Rattle.im_alias.specs.declared.table.RegisterSets.{RegisterSets}
use Rattle.im_alias.specs.declared.table.Table.{Table}
use Rattle.im_alias.specs.Sets.{IsCode, HasShape, IsBlockOf, SameShape, width, row_sets}
use Rattle.im_alias.specs.Scan.{CanPass, CanTake, TakesAll, CallsOf, IsSlotless}
use Rattle.im_alias.proofs.Scans.{HasObjects, Within, line_reached}

pub all_get : {X : Type 0} (P : X → Type 0) (xs : List X) (i : ℕ) (x : X) → All P xs → slice_get xs i ≡ Some x → P x
all_get P xs i x h e = subst P (get_or_from_slice_get xs i x x e) (h i x (slice_get_within xs i x e))

sum_at : (g : Function → ℕ) (xs : List Function) (i : ℕ) (x : Function) → slice_get xs i ≡ Some x → sum_of g (take i xs) + g x ≤ sum_of g xs
sum_at g [] i x e = cc
sum_at g (y ∷ xs) zero x e =
    let same : y ≡ x = cc in
    let k : g y ≡ g x = ap g same in
    omega arith
sum_at g (y ∷ xs) (suc i) x e = let r = sum_at g xs i x e in omega arith

module _ (u : Code) (code : IsCode u) where
  abbrev pub statics : ℕ
  statics = length u.statics.items

  abbrev pub total : ℕ
  total = objects_below u (length u.functions.items)

  pub function_is : (i : ℕ) (f : Function) → slice_get u.functions.items i ≡ Some f → IsFunction u.functions.items f
  function_is i f e = all_get (IsFunction u.functions.items) u.functions.items i f code.formed.functions e

  pub placeable_is : (i : ℕ) (f : Function) → slice_get u.functions.items i ≡ Some f → IsPlaceableFunction statics f
  placeable_is i f e = all_get (IsPlaceableFunction statics) u.functions.items i f code.placeable.functions e

  pub block_is : (i : ℕ) (f : Function) (block : Block) → IsBlockOf u i f block → IsBlock u.functions.items f block
  block_is i f block b = all_get (IsBlock u.functions.items f) f.blocks.items b.b block (function_is i f b.function_there).blocks b.block_there

  pub lines_are : (i : ℕ) (f : Function) (block : Block) → IsBlockOf u i f block → All (IsPlaceableLine statics f) block.lines.items
  lines_are i f block b = (placeable_is i f b.function_there).lines b.b block b.block_there

  pub statics_first : (i : ℕ) (f : Function) → slice_get u.functions.items i ≡ Some f → statics ≤ f.first_object
  statics_first i f e = let n = code.formed.numbered i f e in omega arith

  pub objects_there : (i : ℕ) (f : Function) → slice_get u.functions.items i ≡ Some f → HasObjects total statics f
  objects_there i f e =
      let n = code.formed.numbered i f e in
      let s = sum_at (λ (g : Function). length g.objects.items) u.functions.items i f e in
      let a : sum_of (λ (g : Function). length g.objects.items) (take (length u.functions.items) u.functions.items) ≡ sum_of (λ (g : Function). length g.objects.items) u.functions.items = ap (sum_of (λ (g : Function). length g.objects.items)) (take_all (length u.functions.items) u.functions.items (le_refl (length u.functions.items))) in
      record { statics_few = omega arith; locals_few = omega arith }

  callee_there : (functions : List Function) (callee count : ℕ) (o : Option Function) → slice_get functions callee ≡ o → Takes o count → callee < length functions
  callee_there functions callee count None e h = absurd h
  callee_there functions callee count (Some g) e h = slice_get_within functions callee g e

  calls_there : (line : Line) → LineThere u.functions.items line → CallsOf (length u.functions.items) line
  calls_there (Call to callee first count) h = callee_there u.functions.items callee count (slice_get u.functions.items callee) refl h
  calls_there line h = tt

  takes_all : (t : Table) (callee count : ℕ) (o : Option Function) → HasShape u t → slice_get u.functions.items callee ≡ o → Takes o count → TakesAll (width (slice_get t.registers.items callee)) count o
  takes_all t callee count None shape e h = absurd h
  takes_all t callee count (Some g) shape e h =
      let r = (function_is callee g e).received in
      let w = shape.widths callee g e in
      omega arith

  can_take : (t : Table) (line : Line) → HasShape u t → LineThere u.functions.items line → CanTake u.functions.items t line
  can_take t (Call to callee first count) shape h = takes_all t callee count (slice_get u.functions.items callee) shape refl h
  can_take t line shape h = tt

  slotless_line : (f : Function) (line : Line) → IsPlaceableLine statics f line → IsSlotless line
  slotless_line f (Reload to slot access) h = h
  slotless_line f (Spill slot from access) h = h
  slotless_line f line h = tt

  -- the line at a place of a block
  module _ (i : ℕ) (f : Function) (block : Block) (at : IsBlockOf u i f block) (t : Table) (shape : HasShape u t) (k : ℕ) (line : Line) (there : slice_get block.lines.items k ≡ Some line) where
    pub line_placeable : IsPlaceableLine statics f line
    line_placeable = all_get (IsPlaceableLine statics f) block.lines.items k line (lines_are i f block at) there

    pub line_takes : CanTake u.functions.items t line
    line_takes = can_take t line shape (all_get (LineThere u.functions.items) block.lines.items k line (block_is i f block at).lines_there there)

    pub line_passes : (spot : RegisterSets) → length spot.sets.items ≡ f.register_count → Within (length t.objects.items) (row_sets spot) → CanPass t spot line
    line_passes spot count within = record {
      within = subst (λ n. LineWithin n line) (sym count) (all_get (LineWithin f.register_count) block.lines.items k line (block_is i f block at).lines_within there);
      reaches = line_reached (length t.objects.items) statics f (row_sets spot) line (subst (λ n. HasObjects n statics f) (sym shape.objects) (objects_there i f at.function_there)) within line_placeable;
      calls = subst (λ n. CallsOf n line) (sym shape.returned) (calls_there line (all_get (LineThere u.functions.items) block.lines.items k line (block_is i f block at).lines_there there));
      slotless = slotless_line f line line_placeable;
    }

pub shape_kept : (u : Code) (a b : Table) → HasShape u a → SameShape a b → HasShape u b
shape_kept u a b h s = record {
  objects = s.objects ∙ h.objects;
  returned = s.returned ∙ h.returned;
  registers = s.registers ∙ h.registers;
  widths = λ i f e. s.widths i ∙ h.widths i f e;
}
