-- How the objects of a program lie in memory, and the setting in which code is evaluated.
use Rattle.std.specs.Prelude.{◌≡◌, ℕ, ◌+◌, List, [], ◌∷◌, get_or, slice_get, length, map, Option, Some, None, Vec}
use Rattle.std.specs.declared.alloc.Global.{Global}
use Rattle.std.specs.List.{All}
use Rattle.im_ctype.specs.declared.cell.Cell.{Cell}
use Rattle.im_ctype.specs.Layout.{layouts, layout_at}
use Rattle.im_ctype.specs.Table.{Table, IsIn, structs_of}
use Rattle.im_store.specs.Objects.{Shape, shape_of}
use Rattle.im_store.specs.Statics.{StaticObject}
use Rattle.im_eval_store.specs.declared.plan.Plan.{Plan}
use Rattle.im_typed.specs.declared.program.Object as rust
use Rattle.im_typed.specs.declared.program.Static as rust_static
use Rattle.im_typed.specs.declared.program.Func as rust_func
use Rattle.im_typed.specs.declared.program.Prog as rust_prog
use Rattle.im_typed.specs.Program.{LocalObject, Func}
use Rattle.im_typed.specs.ProgramOf.{program_of}
use Rattle.im_typed.specs.Programs.{Setting}
use Rattle.im_eval_machine.specs.Small.{small_prog}
use Rattle.im_eval_machine.specs.declared.code.Code.{Code}
use Rattle.im_eval_machine.specs.declared.code.Layout.{Layout}
use Rattle.im_eval_machine.specs.declared.code.Layouts.{Layouts}

-- the types of the statics and of the functions' objects are in the program's table
abbrev pub HasTypes : Table → List rust.Object → Type 0
HasTypes types objects = All (λ (o : rust.Object). IsIn types o.ty) objects

pub record HasKnownTypes (g : rust_prog.Prog) : Type 0 where
  pub statics : All (λ (s : rust_static.Static). IsIn g.types s.object.ty) g.statics.items
  pub objects : All (λ (f : rust_func.Func). HasTypes g.types f.objects.items) g.funcs.items

pub record IsPlanOf (shape : Shape) (plan : Plan) : Type 0 where
  pub size : shape.size ≡ plan.size
  pub cells : (i : ℕ) → shape.cells i ≡ get_or plan.kinds.items i None

-- a plan for each object, in their order
abbrev pub ArePlans : List Shape → List Plan → Type 0
ArePlans [] [] = Unit {0}
ArePlans [] (plan ∷ plans) = ⊥
ArePlans (shape ∷ shapes) [] = ⊥
ArePlans (shape ∷ shapes) (plan ∷ plans) = IsPlanOf shape plan × ArePlans shapes plans

abbrev pub static_shapes : List StaticObject → List Shape
static_shapes statics = map {A = StaticObject} (λ s. shape_of s.size s.cells) statics

abbrev pub local_shapes : List LocalObject → List Shape
local_shapes objects = map {A = LocalObject} (λ x. shape_of x.size x.cells) objects

-- the layout of each function, whose first object has that number
abbrev pub AreLayouts : ℕ → List Func → List Layout → Type 0
AreLayouts first [] [] = Unit {0}
AreLayouts first [] (l ∷ ls) = ⊥
AreLayouts first (f ∷ fs) [] = ⊥
AreLayouts first (f ∷ fs) (l ∷ ls) =
    (l.first ≡ first) × ArePlans (local_shapes f.objects) l.plans.items × AreLayouts (first + length f.objects) fs ls

abbrev pub cells_at : Option (List Cell) → List Cell
cells_at None = []
cells_at (Some cells) = cells

-- the layouts are those of the program's objects and structs
pub record AreLayoutsOf (g : rust_prog.Prog) (all : Layouts) : Type 0 where
  pub statics : ArePlans (static_shapes (program_of g).statics) all.statics.items
  pub functions : AreLayouts (length (program_of g).statics) (program_of g).funcs all.functions.items
  pub structs : (n : ℕ) → cells_at (slice_get (map {A = Vec Cell Global} (λ v. v.items) all.structs.items) n) ≡ (layout_at (layouts (structs_of g.types)) n).cells

-- the setting of code: its program with numbers that operators take
abbrev pub setting_of : Code → Setting
setting_of c =
    record { prog = small_prog (program_of c.prog.now); frames = c.frames.now; stack = c.stack; capacity = c.capacity }
