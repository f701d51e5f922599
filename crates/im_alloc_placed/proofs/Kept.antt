-- What further cuts leave of placed and placeable code.
use Rattle.std.proofs.Common.{ℕ, List, ◌∷◌, length, sym, subst}
use Rattle.std.specs.Prelude.{All}
use Rattle.std.proofs.lemmas.List.Elements.{All-nil, All-cons, All-head, All-tail, All-weaker}
use Rattle.im_num.specs.declared.values.Cause.{Cause}
use Rattle.im_block.specs.declared.code.Place.{Place}
use Rattle.im_block.specs.declared.code.Place.TheVariants.{Static, Local, Through}
use Rattle.im_block.specs.declared.code.Line.{Line}
use Rattle.im_block.specs.declared.code.Line.TheVariants.{Copy, Convert, Address, Read, Write, Cut}
use Rattle.im_block.specs.declared.code.Block.{Block}
use Rattle.im_block.specs.declared.unit.Function.{Function}
use Rattle.im_block.specs.declared.unit.Unit.{Unit as Code}
use Rattle.im_block.specs.Paths.{IsEdge}
use Rattle.im_block.specs.Uncut.{WithCuts, Empty, Same, Added, SameBlock, SameBlocks, SameFunction, SameFunctions, SameButCuts}
use Rattle.im_block.proofs.Unitwise.{zip_old, zip_each}
use Rattle.im_alloc_placed.specs.Operands.{PlaceExists}
use Rattle.im_alloc_placed.specs.Placed.{IsPlacedLine, IsPlacedExit, IsPlacedBlock, IsPlacedFunction, IsPlacedCode}
use Rattle.im_alloc_placed.specs.Placeable.{IsPlaceableLine, LineFrom, ExitFrom, Receives, first_free, IsPlaceableFunction, IsPlaceable}

lines_all : (P : Line → Type 0) → ((cause : Cause) → P (Cut cause)) → (old new : List Line) → WithCuts old new → All P old → All P new
lines_all P cut old new Empty h = All-nil P
lines_all P cut old new (Same line a b d) h = All-cons P line b (All-head P line a h) (lines_all P cut a b d (All-tail P line a h))
lines_all P cut old new (Added cause a b d) h = All-cons P (Cut cause) b (cut cause) (lines_all P cut old b d h)

-- what a line may name doesn't hang on blocks

module _ (statics : ℕ) (f g : Function) where
  place_there : (place : Place) → PlaceExists statics f place → PlaceExists statics (record f { blocks = g.blocks }) place
  place_there (Static object offset) h = h
  place_there (Local object offset) h = h
  place_there (Through pointer offset) h = h

  placed_there : (line : Line) → IsPlacedLine statics f line → IsPlacedLine statics (record f { blocks = g.blocks }) line
  placed_there (Address to place) h = (h.0, h.1, place_there place h.2)
  placed_there (Read to place kind access) h = (h.0, h.1, place_there place h.2)
  placed_there (Write place kind from access) h = (h.0, h.1, place_there place h.2)
  placed_there line h = h

  placeable_there : (line : Line) → IsPlaceableLine statics f line → IsPlaceableLine statics (record f { blocks = g.blocks }) line
  placeable_there (Address to place) h = place_there place h
  placeable_there (Read to place kind access) h = place_there place h
  placeable_there (Write place kind from access) h = place_there place h
  placeable_there line h = h

  placed_block : (x y : Block) → SameBlock x y → IsPlacedBlock statics f x → IsPlacedBlock statics (record f { blocks = g.blocks }) y
  placed_block x y s h = record {
    lines = lines_all (IsPlacedLine statics (record f { blocks = g.blocks })) (λ cause. tt) x.lines.items y.lines.items s.lines (All-weaker (IsPlacedLine statics f) (IsPlacedLine statics (record f { blocks = g.blocks })) placed_there x.lines.items h.lines);
    exit = subst IsPlacedExit (sym s.exit) h.exit;
  }

  placeable_lines : (old new : List Line) → WithCuts old new → All (IsPlaceableLine statics f) old → All (IsPlaceableLine statics (record f { blocks = g.blocks })) new
  placeable_lines old new d h =
      lines_all (IsPlaceableLine statics (record f { blocks = g.blocks })) (λ cause. tt) old new d (All-weaker (IsPlaceableLine statics f) (IsPlaceableLine statics (record f { blocks = g.blocks })) placeable_there old h)

placed_function : (statics : ℕ) (f g : Function) → SameFunction f g → IsPlacedFunction statics f → IsPlacedFunction statics g
placed_function statics f g same h = subst (IsPlacedFunction statics) (sym same.rest) (record {
  registers = h.registers;
  count = h.count;
  received = h.received;
  fits = h.fits;
  blocks = zip_each SameBlock (IsPlacedBlock statics f) (IsPlacedBlock statics (record f { blocks = g.blocks })) (placed_block statics f g) f.blocks.items g.blocks.items same.blocks h.blocks;
})

placed_units : (u w : Code) → SameFunctions u.functions.items w.functions.items → IsPlacedCode u → IsPlacedCode (record u { functions = w.functions })
placed_units u w all h = record {
  functions = zip_each SameFunction (IsPlacedFunction (length u.statics.items)) (IsPlacedFunction (length u.statics.items)) (placed_function (length u.statics.items)) u.functions.items w.functions.items all h.functions;
}

pub placed_kept : (old new : Code) → SameButCuts old new → IsPlacedCode old → IsPlacedCode new
placed_kept old new same h = subst IsPlacedCode (sym same.rest) (placed_units old new same.functions h)

-- placeable code

receives_kept : (n : ℕ) (old new : List Line) → WithCuts old new → Receives n old → Receives n new
receives_kept n old new Empty h = h
receives_kept n old new (Same (Write place kind from access) a b d) h = receives_kept n a b d h
receives_kept n old new (Same (Cut cause) a b d) h = receives_kept n a b d h
receives_kept n old new (Same (Copy to from) a b d) h = (h.0, receives_kept n a b d h.1)
receives_kept n old new (Same (Convert to kind from) a b d) h = (h.0, receives_kept n a b d h.1)
receives_kept n old new (Same line a b d) h = lines_all (LineFrom n) (λ cause. tt) (line ∷ a) (line ∷ b) (Same line a b d) h
receives_kept n old new (Added cause a b d) h = receives_kept n old b d h

placeable_in : (statics : ℕ) (f g : Function) → SameBlocks f.blocks.items g.blocks.items → IsPlaceableFunction statics f → IsPlaceableFunction statics (record f { blocks = g.blocks })
placeable_in statics f g same h = record {
  registers = h.registers;
  slots = h.slots;
  first = h.first;
  room = h.room;
  lines = λ b block at.
      let o = zip_old SameBlock f.blocks.items g.blocks.items b block same at in
      placeable_lines statics f g o.old.lines.items block.lines.items o.is.lines (h.lines b o.old o.at);
  others = λ b block at apart.
      let o = zip_old SameBlock f.blocks.items g.blocks.items b block same at in
      lines_all (LineFrom (first_free f)) (λ cause. tt) o.old.lines.items block.lines.items o.is.lines (h.others b o.old o.at apart);
  entry = λ block at.
      let o = zip_old SameBlock f.blocks.items g.blocks.items f.entry block same at in
      receives_kept (first_free f) o.old.lines.items block.lines.items o.is.lines (h.entry o.old o.at);
  exits = λ b block at.
      let o = zip_old SameBlock f.blocks.items g.blocks.items b block same at in
      subst (ExitFrom (first_free f)) (sym o.is.exit) (h.exits b o.old o.at);
  no_return = λ b block at edge.
      let o = zip_old SameBlock f.blocks.items g.blocks.items b block same at in
      h.no_return b o.old o.at (subst (λ e. IsEdge e f.entry) o.is.exit edge);
}

placeable_function : (statics : ℕ) (f g : Function) → SameFunction f g → IsPlaceableFunction statics f → IsPlaceableFunction statics g
placeable_function statics f g same h = subst (IsPlaceableFunction statics) (sym same.rest) (placeable_in statics f g same.blocks h)

placeable_units : (u w : Code) → SameFunctions u.functions.items w.functions.items → IsPlaceable u → IsPlaceable (record u { functions = w.functions })
placeable_units u w all h = record {
  functions = zip_each SameFunction (IsPlaceableFunction (length u.statics.items)) (IsPlaceableFunction (length u.statics.items)) (placeable_function (length u.statics.items)) u.functions.items w.functions.items all h.functions;
}

pub placeable_kept : (old new : Code) → SameButCuts old new → IsPlaceable old → IsPlaceable new
placeable_kept old new same h = subst IsPlaceable (sym same.rest) (placeable_units old new same.functions h)
