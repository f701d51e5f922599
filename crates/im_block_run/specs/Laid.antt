-- How the objects of a unit lie in memory. Private contracts alone speak of this.
use Rattle.std.specs.Prelude.{List, [], ◌∷◌, map, Vec}
use Rattle.std.specs.declared.alloc.Global.{Global}
use Rattle.im_store.specs.Objects.{Shape, shape_of}
use Rattle.im_block.specs.declared.unit.Object.{Object}
use Rattle.im_block.specs.declared.unit.Function.{Function}
use Rattle.im_block.specs.declared.unit.Unit.{Unit as Blocks}
use Rattle.im_block.specs.Meaning.{statics_of}
use Rattle.im_eval_store.specs.declared.plan.Plan.{Plan}
use Rattle.im_eval_machine.specs.Settings.{ArePlans, static_shapes}
use Rattle.im_block_run.specs.declared.code.Layouts.{Layouts}

abbrev pub object_shapes : List Object → List Shape
object_shapes objects = map {A = Object} (λ x. shape_of x.size x.cells.items) objects

-- the plans of each function's objects
abbrev pub AreLayouts : List Function → List (Vec Plan Global) → Type 0
AreLayouts [] [] = Unit {0}
AreLayouts [] (v ∷ vs) = ⊥
AreLayouts (f ∷ fs) [] = ⊥
AreLayouts (f ∷ fs) (v ∷ vs) = ArePlans (object_shapes f.objects.items) v.items × AreLayouts fs vs

pub record AreLaidOut (u : Blocks) (all : Layouts) : Type 0 where
  pub statics : ArePlans (static_shapes (statics_of u)) all.statics.items
  pub functions : AreLayouts u.functions.items all.functions.items
