-- A unit as a whole: that the assignment of all objects is closed, what a sweep keeps, and what the last one gives.
use Rattle.std.proofs.Common.{◌≡◌, ℕ, suc, ◌<◌, ◌≤◌, List, [], ◌∷◌, ◌++◌, length, Bool, false, Option, Some, None, refl, sym, ap, ◌∙◌, subst, ⊎_elim, arith}
use Rattle.std.specs.Prelude.{slice_get}
use Rattle.std.proofs.lemmas.Option.{slice_get_within, slice_get_cases}
use Rattle.im_num.specs.declared.kind.Kind.{Kind}
use Rattle.im_ctype.specs.declared.cell.Cell.{Cell}
use Rattle.im_block.specs.declared.access.Tags.{Tags}
use Rattle.im_block.specs.declared.code.Block.{Block}
use Rattle.im_block.specs.declared.unit.Constant.{Constant}
use Rattle.im_block.specs.declared.unit.Constant.TheVariants.{Number, Null, Inside}
use Rattle.im_block.specs.declared.unit.Function.{Function}
use Rattle.im_block.specs.declared.unit.Static.{Static as StaticOf}
use Rattle.im_block.specs.declared.unit.Unit.{Unit as Code}
use Rattle.im_block.specs.Sections.{Has}
use Rattle.im_block.specs.Tagged.{IsSound}
use Rattle.im_block.specs.Wellformed.{IsStatic, HasBytes, Suits, objects_below, accesses_of_functions}
use Rattle.im_block_laws.specs.PointsTo.{ConstantIn, ConstantsIn}
use Rattle.im_alias.specs.PointsAt.{PointsAt, Fit, IsClosedAt, AreTagsAt}
use Rattle.im_alias.specs.Least.{Below, IsLeastAt, AreTagsWithin, AreLeastTags}
use Rattle.im_alias.proofs.PointsAts.{sound_at}
use Rattle.im_alias.proofs.LeastTags.{least_tags}
use Rattle.im_alias.specs.declared.table.Table.{Table}
use Rattle.im_alias.specs.declared.found.Found.{Found}
use Rattle.im_alias.specs.Sets.{points, HasShape, IsEmptyTable, IsCode, IsPart, IsBounded, IsBlockOf, Flowed, StaticsFit}
use Rattle.im_alias.specs.Scan.{Agrees, BlocksFit, UnitFits, FunctionsTagged, FlowedUnit, Settled, numbers}
use Rattle.im_alias.proofs.Flows.{full, upto, within_upto, upto_has, bounded_after}
use Rattle.im_alias.proofs.Scans.{HasObjects, fit_full, have_tags, tags_within}
use Rattle.im_alias.proofs.Codes.{all_get, lines_are, objects_there, statics_first, shape_kept}

constants_by : (set : List ℕ) (values : List Constant) → ((k : ℕ) (v : Constant) → slice_get values k ≡ Some v → ConstantIn set v) → ConstantsIn set values
constants_by set [] h = tt
constants_by set (v ∷ values) h = (h 0 v refl, constants_by set values (λ k w e. h (suc k) w e))

bytes_there : (statics : List StaticOf) (object n : ℕ) (o : Option StaticOf) → slice_get statics object ≡ o → HasBytes o n → object < length statics
bytes_there statics object n None e h = absurd h
bytes_there statics object n (Some s) e h = slice_get_within statics object s e

module _ (u : Code) (code : IsCode u) (bound : ℕ) (is : bound ≡ objects_below u (length u.functions.items)) where
  few : length u.statics.items ≤ bound
  few = omega arith

  value_in : (kind : Kind) (v : Constant) → Suits u.statics.items kind v → ConstantIn (upto bound) v
  value_in kind (Number z) h = tt
  value_in kind Null h = tt
  value_in kind (Inside object offset) h =
      let l = bytes_there u.statics.items object offset (slice_get u.statics.items object) refl h.1 in
      let f = few in
      upto_has bound object (omega arith)

  static_full : (n : ℕ) (s : StaticOf) → slice_get u.statics.items n ≡ Some s → ConstantsIn (upto bound) s.values.items
  static_full n s e =
      let st : IsStatic u.statics.items s = all_get (IsStatic u.statics.items) u.statics.items n s code.formed.statics e in
      constants_by (upto bound) s.values.items (λ k v at.
      let l = slice_get_within s.values.items k v at in
      let same = st.count in
      ⊎_elim
      (λ (w : (x : Cell) × (k < length s.object.cells.items) × (slice_get s.object.cells.items k ≡ Some x) × _). value_in w.0.kind v (st.values k w.0 v w.2 at))
      (λ (w : (length s.object.cells.items ≤ k) × _). let p = w.0 in absurd (omega arith))
      ((slice_get_cases s.object.cells.items k).1))

  block_full : (i : ℕ) (f : Function) (block : Block) → IsBlockOf u i f block → Fit (full bound) u.functions.items ((full bound).register i) i block.lines.items block.exit
  block_full i f block at =
      fit_full bound (length u.statics.items) u.functions.items f
      (subst (λ n. HasObjects n (length u.statics.items) f) (sym is) (objects_there u code i f at.function_there))
      (λ r. upto bound) i block.lines.items block.exit (λ r. within_upto bound) (lines_are u code i f block at)

  pub blocks_full : (n i : ℕ) (f : Function) → slice_get u.functions.items i ≡ Some f → BlocksFit n u i f.blocks.items (full bound)
  blocks_full n i f at b block l at_b = block_full i f block (record { function_there = at; b = b; block_there = at_b })

  pub statics_full : (n : ℕ) → StaticsFit n u (full bound)
  statics_full n k s l e = static_full k s e

  pub unit_full : UnitFits u (full bound)
  unit_full = record { statics = statics_full (length u.statics.items); functions = λ i f l at. blocks_full (length f.blocks.items) i f at }

-- a closed assignment is what a sweep asks, and what a sweep asks is closed
pub closed_fits : (u : Code) (q : PointsAt) → IsClosedAt q u → UnitFits u q
closed_fits u q c = record {
  statics = λ k s l e. c.statics k s e;
  functions = λ i f l at b block m at_b. c.lines i f b block at at_b;
}

pub fits_closed : (u : Code) (q : PointsAt) → UnitFits u q → IsClosedAt q u
fits_closed u q h = record {
  lines = λ i f b block at at_b. h.functions i f (slice_get_within u.functions.items i f at) at b block (slice_get_within f.blocks.items b block at_b) at_b;
  statics = λ n s e. h.statics n s (slice_get_within u.statics.items n s e) e;
}

pub part_after : (u : Code) (P : PointsAt → Type 0) (a b : Table) (c : Bool) → IsCode u → IsPart u a → Flowed P a b c → P (full (length a.objects.items)) → IsPart u b
part_after u P a b c code part f h =
    let bounded = bounded_after P a b c (length a.objects.items) f part.bounded h in
    record {
      shape = shape_kept u a b part.shape f.shape;
      bounded = subst (λ n. IsBounded n (points b)) (sym f.shape.objects) bounded;
    }

pub least_after : (u : Code) (a b : Table) (c : Bool) → IsLeastAt (points a) u → Flowed (UnitFits u) a b c → IsLeastAt (points b) u
least_after u a b c least f q closed = f.upper q (least q closed) (closed_fits u q closed)

pub settled_end : (u : Code) (a b : Table) (x y : Found) → x.accesses.items ≡ [] → IsLeastAt (points a) u → FlowedUnit u a b x y false → Settled u b y
settled_end u a b x y none least h =
    let s = h.flowed.same refl in
    record {
      least = least_after u a b false least h.flowed;
      closed = subst (UnitFits u) (sym s.0) s.1;
      numbers = h.finds.numbers ∙ ap (λ l. numbers l ++ accesses_of_functions u.functions.items) none;
      tags = λ final k. subst (λ p. FunctionsTagged (length u.functions.items) u p final) (sym s.0) (h.tags refl final k);
    }

pub alias_is : (u : Code) (t : Table) (found : Found) (tags : Tags) → IsCode u → Settled u t found → Agrees tags found → IsSound u tags × AreLeastTags u tags
alias_is u t found tags code h agrees =
    let p = points t in
    let closed = fits_closed u p h.closed in
    let alike = λ (i : ℕ) (f : Function) (b : ℕ) (block : Block) (at : slice_get u.functions.items i ≡ Some f) (at_b : slice_get f.blocks.items b ≡ Some block).
    h.tags tags agrees i f (slice_get_within u.functions.items i f at) at b block (slice_get_within f.blocks.items b block at_b) at_b in
    let tagged : AreTagsAt p u tags = record {
      lines = λ i f b block at at_b.
          have_tags (length u.statics.items) f (statics_first u code i f at) p tags (p.register i) i block.lines.items (lines_are u code i f block (record { function_there = at; b = b; block_there = at_b })) (alike i f b block at at_b);
    } in
    let within : AreTagsWithin p u tags = record { lines = λ i f b block at at_b. tags_within p tags (p.register i) block.lines.items (alike i f b block at at_b) } in
    (sound_at u p tags closed tagged, least_tags u p tags h.least within)

-- a table with nothing in its sets
pub empty_below : (t : Table) (q : PointsAt) → IsEmptyTable t → Below (points t) q
empty_below t q e = record {
  register = λ i r n h. absurd (subst (λ l. Has l n) (e.registers i r) h);
  object = λ m n h. absurd (subst (λ l. Has l n) (e.objects m) h);
  result = λ i n h. absurd (subst (λ l. Has l n) (e.returned i) h);
}

pub part_start : (u : Code) (t : Table) → HasShape u t → IsEmptyTable t → IsPart u t
part_start u t shape e = record {
  shape = shape;
  bounded = record {
    register = λ i r n h. absurd (subst (λ l. Has l n) (e.registers i r) h);
    object = λ m n h. absurd (subst (λ l. Has l n) (e.objects m) h);
    result = λ i n h. absurd (subst (λ l. Has l n) (e.returned i) h);
  };
}

pub least_start : (u : Code) (t : Table) → IsEmptyTable t → IsLeastAt (points t) u
least_start u t e q closed = empty_below t q e
