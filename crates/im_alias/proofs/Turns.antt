-- Where the loops of a sweep begin, what each turn needs of what holds before it, and where they end.
use Rattle.std.proofs.Common.{◌≡◌, ℕ, ◌+◌, ◌<◌, ◌≤◌, List, ◌∷◌, ◌++◌, length, take, drop, Bool, true, Some, sym, ap, ◌∙◌, subst, arith, le_refl}
use Rattle.std.specs.Prelude.{slice_get, ◌||◌}
use Rattle.std.proofs.lemmas.List.{take_all, drop_all, drop_more}
use Rattle.std.proofs.lemmas.Option.{slice_get_within, get_or_from_slice_get}
use Rattle.im_block.specs.declared.code.Line.{Line}
use Rattle.im_block.specs.declared.code.Block.{Block}
use Rattle.im_block.specs.declared.unit.Function.{Function}
use Rattle.im_block.specs.declared.unit.Unit.{Unit as Code}
use Rattle.im_block.specs.Wellformed.{ExitWithin, accesses_of_blocks, accesses_of_functions}
use Rattle.im_alias.specs.PointsAt.{LineFits, ExitFits}
use Rattle.im_alias.specs.declared.table.RegisterSets.{RegisterSets}
use Rattle.im_alias.specs.declared.table.Table.{Table}
use Rattle.im_alias.specs.declared.found.Found.{Found}
use Rattle.im_alias.specs.Sets.{IsCode, IsPart, HasShape, IsBlockOf, SameShape, Flowed, StaticsFit, width, points, room, row_sets}
use Rattle.im_alias.specs.Scan.{CanPass, CanTake, FindsAt, Passes, FlowedBlock, FlowedBlocks, FunctionsFit, FlowedUnit, UnitFits, numbers}
use Rattle.im_alias.proofs.Flows.{flowed_as, shape_then, bounded_after}
use Rattle.im_alias.proofs.Scans.{HasObjects, Within, line_reached}
use Rattle.im_alias.proofs.Codes.{block_is, objects_there, line_placeable, line_passes, line_takes, shape_kept}
use Rattle.im_alias.proofs.Blocks.{InBlock, block_step, block_end}
use Rattle.im_alias.proofs.Whole.{FlowedFunctions, finds_start}
use Rattle.im_alias.proofs.Units.{unit_full}

-- blocks of a function
pub blocks_end : (u : Code) (i n : ℕ) (blocks : List Block) (a b : Table) (x y : Found) (c : Bool) → n ≡ length blocks → FlowedBlocks n u i blocks (accesses_of_blocks (take n blocks)) a b x y c → FlowedBlocks (length blocks) u i blocks (accesses_of_blocks blocks) a b x y c
blocks_end u i n blocks a b x y c e f =
    let at_end = subst (λ k. FlowedBlocks k u i blocks (accesses_of_blocks (take k blocks)) a b x y c) e f in
    subst (λ l. FlowedBlocks (length blocks) u i blocks (accesses_of_blocks l) a b x y c) (take_all (length blocks) blocks (le_refl (length blocks))) at_end

-- functions of a unit
pub functions_start : (u : Code) (a b : Table) (x : Found) (c : Bool) → Flowed (StaticsFit (length u.statics.items) u) a b c → FlowedFunctions 0 u a b x x c
functions_start u a b x c f = record {
  flowed = flowed_as (StaticsFit (length u.statics.items) u) (λ p. StaticsFit (length u.statics.items) u p × FunctionsFit 0 u p) a b c
      (λ p h. (h, λ i g l e. absurd (omega arith)))
      (λ p h. h.0)
      f;
  finds = finds_start x;
  tags = λ e final h i g l at. absurd (omega arith);
}

functions_whole : (u : Code) (a b : Table) (x y : Found) (c : Bool) → FlowedFunctions (length u.functions.items) u a b x y c → FlowedUnit u a b x y c
functions_whole u a b x y c h = record {
  flowed = flowed_as (λ p. StaticsFit (length u.statics.items) u p × FunctionsFit (length u.functions.items) u p) (UnitFits u) a b c
      (λ p k. record { statics = k.0; functions = k.1 })
      (λ p k. (k.statics, k.functions))
      h.flowed;
  finds = record {
    numbers = h.finds.numbers ∙ ap (λ l. numbers x.accesses.items ++ accesses_of_functions l) (take_all (length u.functions.items) u.functions.items (le_refl (length u.functions.items)));
    more = h.finds.more;
  };
  tags = h.tags;
}

pub functions_end : (u : Code) (n : ℕ) (a b : Table) (x y : Found) (c : Bool) → n ≡ length u.functions.items → FlowedFunctions n u a b x y c → FlowedUnit u a b x y c
functions_end u n a b x y c e h = functions_whole u a b x y c (subst (λ k. FlowedFunctions k u a b x y c) e h)

-- a sweep that changed a set leaves less room
pub room_after : (u : Code) (a b : Table) (c : Bool) → IsCode u → IsPart u a → Flowed (UnitFits u) a b c → c ≡ true → room (length b.objects.items) b < room (length a.objects.items) a
room_after u a b c code part f e =
    let bound = length a.objects.items in
    let bounded = bounded_after (UnitFits u) a b c bound f part.bounded (unit_full u code bound part.shape.objects) in
    subst (λ n. room n b < room bound a) (sym f.shape.objects) (f.less bound e bounded)

-- lines of a block
module _ (u : Code) (code : IsCode u) (i : ℕ) (f : Function) (block : Block) (at : IsBlockOf u i f block) (old : Table) (part : IsPart u old) (before : Found) where
  abbrev Here : Table → Found → RegisterSets → List Line → Bool → Type 0
  Here now found spot rest c = InBlock u i block.lines.items block.exit old before now found spot rest c

  counts : (now : Table) (found : Found) (spot : RegisterSets) (rest : List Line) (c : Bool) → Here now found spot rest c → length spot.sets.items ≡ f.register_count
  counts now found spot rest c in_ = in_.count ∙ part.shape.widths i f at.function_there

  module _ (now t : Table) (found : Found) (spot : RegisterSets) (k : ℕ) (line : Line) (rest : List Line) (c : Bool) (there : slice_get block.lines.items k ≡ Some line) (in_ : Here now found spot rest c) (same : SameShape now t) where
    shaped : HasShape u t
    shaped = shape_kept u old t part.shape (shape_then old now t in_.shape same)

    pub line_takes_at : CanTake u.functions.items t line
    line_takes_at = line_takes u code i f block at t shaped k line there

    pub line_passes_at : CanPass t spot line
    line_passes_at =
        line_passes u code i f block at t shaped k line there spot (counts now found spot rest c in_)
        (subst (λ n. Within n (row_sets spot)) (sym (same.objects ∙ in_.shape.objects)) in_.within)

  pub line_next : (now next : Table) (found find : Found) (spot pass : RegisterSets) (k : ℕ) (line : Line) (c m : Bool) → slice_get block.lines.items k ≡ Some line → Here now found spot (drop k block.lines.items) c → FindsAt (row_sets spot) line found find → Flowed (λ p. LineFits p u.functions.items (row_sets spot) 0 line) now next m → Passes (points next) line spot pass → Here next find pass (drop (k + 1) block.lines.items) (c || m)
  line_next now next found find spot pass k line c m there in_ finds flow passes =
      let bound = length old.objects.items in
      let statics = length u.statics.items in
      let lines = block.lines.items in
      let split : drop k lines ≡ line ∷ drop (k + 1) lines = drop_more lines k line (slice_get_within lines k line there) ∙ ap (λ x. x ∷ drop (k + 1) lines) (get_or_from_slice_get lines k line line there) in
      let objects : HasObjects bound statics f = subst (λ n. HasObjects n statics f) (sym part.shape.objects) (objects_there u code i f at.function_there) in
      let placeable = line_placeable u code i f block at old part.shape k line there in
      block_step u i lines block.exit old before now next found find spot pass line (drop (k + 1) lines) c m
      (subst (λ l. Here now found spot l c) split in_) finds flow passes statics f objects placeable
      (line_reached bound statics f (row_sets spot) line objects in_.within placeable)

  -- at the exit
  module _ (now : Table) (found : Found) (spot : RegisterSets) (rest : List Line) (c : Bool) (in_ : Here now found spot rest c) where
    pub exit_within_at : ExitWithin (length spot.sets.items) block.exit
    exit_within_at = subst (λ n. ExitWithin n block.exit) (sym (counts now found spot rest c in_)) (block_is u code i f block at).exit_within

    pub exit_rows : length spot.sets.items ≤ width (slice_get now.registers.items i)
    exit_rows = let a = in_.count in let b = in_.shape.widths i in omega arith

    pub exit_returned : i < length now.returned.items
    exit_returned = let a = slice_get_within u.functions.items i f at.function_there in let b = in_.shape.returned in let d = part.shape.returned in omega arith

  pub block_ends : (now next : Table) (found : Found) (spot : RegisterSets) (k : ℕ) (c m : Bool) → length block.lines.items ≤ k → Here now found spot (drop k block.lines.items) c → Flowed (λ p. ExitFits p (row_sets spot) i block.exit) now next m → FlowedBlock u i block old next before found (c || m)
  block_ends now next found spot k c m le in_ flow =
      let e = block_end u i block.lines.items block.exit old before now next found spot c m (subst (λ l. Here now found spot l c) (drop_all k block.lines.items le) in_) flow in
      record { flowed = e.0; finds = e.1; tags = e.2 }
