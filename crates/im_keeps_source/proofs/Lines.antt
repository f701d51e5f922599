-- Each relation keeps its line.
use Rattle.std.proofs.Common.{ℕ, List, [], ◌∷◌, Option, refl, ap, ◌∙◌, arith}
use Rattle.im_block.specs.declared.access.Tags.{Tags}
use Rattle.im_block.specs.declared.code.Line.{Line}
use Rattle.im_block.specs.declared.code.Block.{Block}
use Rattle.im_block.specs.declared.unit.Function.{Function}
use Rattle.im_block.specs.declared.unit.Unit.{Unit as Code}
use Rattle.im_block.specs.Uncut.{WithCuts, Empty, Same, SameBlock, SameFunction, SameButCuts}
use Rattle.im_block.proofs.Unitwise.{zip_same, zip_map}
use Rattle.im_alloc_relation.specs.Placing.{PlacedFunction}
use Rattle.im_alloc_laws.specs.Numbered.{IsWellPlaced}
use Rattle.im_alloc_laws.specs.Laws.{PlacedCodeLaw}
use Rattle.im_forward.specs.Registers.{InRegisters}
use Rattle.im_forward.specs.RegistersLaws.{RegistersLaw}
use Rattle.im_recut.specs.Recut.{RecutsTo}
use Rattle.im_recut.specs.Laws.{RecutKeepsLaw}
use Rattle.im_keeps_passes.specs.Source.{Source}
use Rattle.im_keeps_passes.specs.Passes.{Lowers, Cuts, Places, Recuts}
use Rattle.im_keeps_passes.specs.Laws.{CodeBoundsLaw}
use Rattle.im_keeps_source.specs.MiddleLaws.{MiddleLaw}

-- no cuts

lines_same : (lines : List Line) → WithCuts lines lines
lines_same [] = Empty
lines_same (line ∷ lines) = Same line lines lines (lines_same lines)

function_same : (f : Function) → SameFunction f f
function_same f = record { blocks = zip_same SameBlock (λ (b : Block). record { lines = lines_same b.lines.items; exit = refl }) f.blocks.items; rest = refl }

uncut_same : (u : Code) → SameButCuts u u
uncut_same u = record { functions = zip_same SameFunction function_same u.functions.items; rest = refl }

cut : (u : Code) → Cuts u u
cut u = record { same = uncut_same u; apart = λ h. h }

-- registers

registers : RegistersLaw → (source : Source) (lowered forwarded : Code) → Lowers source lowered → InRegisters lowered forwarded → Lowers source forwarded
registers law source lowered forwarded l r = record {
  runs = λ g n input defined. (let run = l.runs g n input defined in law.runs lowered forwarded r g n (source.means g n) run.0 defined run.1);
  statics = law.statics lowered forwarded r ∙ l.statics;
  needs = law.needs lowered forwarded r ∙ l.needs;
  ordered = law.ordered lowered forwarded r l.ordered;
  well_formed = law.well_formed lowered forwarded r l.well_formed;
  placeable = law.placeable lowered forwarded r l.placeable;
  uncut = law.uncut lowered forwarded r l.uncut;
  cost = (let less = law.cost lowered forwarded r in let few = l.cost in omega (arith, less, few));
}

-- places

place : PlacedCodeLaw → (u v : Code) → IsWellPlaced u v → Places u v
place law u v w = record {
  runs = λ well. law.runs u v well w.placed;
  statics = ap (λ (k : Code). k.statics.items) w.placed.rest;
  needs = zip_map PlacedFunction (λ (f : Function). f.need) (λ f g k. ap (λ (z : Function). z.need) k.rest) u.functions.items v.functions.items w.placed.functions;
  ordered = law.ordered u v w.placed;
  forced = law.forced u v w.placed;
  apart = law.apart u v w.placed;
  well_formed = law.well_formed u v w;
  placed = law.placed u v w;
  cost = law.cost u v w.placed;
}

recut : RecutKeepsLaw → (u v : Code) (tags : Tags) (max_gap : Option ℕ) → RecutsTo tags max_gap u v → Recuts tags u v
recut law u v tags max_gap r = record { same = law.same tags max_gap u v r; apart = law.apart tags max_gap u v r; sectioned = law.sectioned tags max_gap u v r }

pub middle : RegistersLaw → PlacedCodeLaw → RecutKeepsLaw → CodeBoundsLaw → MiddleLaw
middle law placing cutting bounds = record {
  registers = registers law;
  cut = cut;
  place = place placing;
  recut = recut cutting;
  bounds = λ source code c. bounds source code (record {
    lowered = c.lowered;
    lower = c.lower;
    forced = c.forced;
    force = c.force;
    trimmed = c.forced;
    cut = cut c.forced;
    placed = c.placed;
    place = place placing c.forced c.placed c.place;
    recut = record { same = cutting.same c.tags c.max_gap c.placed code c.recut; apart = cutting.apart c.tags c.max_gap c.placed code c.recut };
  });
  whole = λ source frames image gap c. record {
    lowered = c.lowered;
    lower = c.lower;
    forced = c.forced;
    force = c.force;
    tags = c.tags;
    alias = c.alias;
    trimmed = c.forced;
    cut = cut c.forced;
    placed = c.placed;
    place = place placing c.forced c.placed c.place;
    sectioned = c.sectioned;
    recut = recut cutting c.placed c.sectioned c.tags c.max_gap c.recut;
    select = c.select;
    measure = c.measure;
  };
}
