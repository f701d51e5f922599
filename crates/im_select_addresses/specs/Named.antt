-- The named objects of an image are the statics of a unit, in their order.
use Rattle.std.specs.Prelude.{◌≡◌, ◌<◌, ℕ, zero, suc, ◌+◌, List, [], ◌∷◌}
use Rattle.std.specs.List.{flat_map}
use Rattle.im_num.specs.declared.kind.Kind.{Kind}
use Rattle.im_num.specs.Kinds.{kind_size}
use Rattle.im_num.specs.Variables.{Variable}
use Rattle.im_mem.specs.Map.{statics_start, statics_capacity}
use Rattle.im_mem.specs.Memory.{Mem}
use Rattle.im_image.specs.declared.object.CellRun.{CellRun}
use Rattle.im_image.specs.Contents.{ObjectValue}
use Rattle.im_device.specs.Variables.{vars_of}
use Rattle.im_ctype.specs.declared.cell.Cell.{Cell}
use Rattle.im_store.specs.Objects.{Named}
use Rattle.im_store.specs.Statics.{StaticObject, static_shapes}
use Rattle.im_typed.specs.Sound.{ShowEach}
use Rattle.im_block.specs.declared.unit.Unit.{Unit as Code}
use Rattle.im_block.specs.Meaning.{statics_of}
use Rattle.im_block.specs.Wellformed.{IsWellFormed}
use Rattle.im_select_relation.specs.Linking.{Linking, LaidOut}
use Rattle.im_select_relation.specs.Law.{ShowsStatics}

-- so many cells of a kind side by side, from an offset on
abbrev pub cells_along : Kind → ℕ → ℕ → List Cell
cells_along kind offset zero = []
cells_along kind offset (suc n) = record { offset = offset; kind = kind } ∷ cells_along kind (offset + kind_size kind) n

abbrev pub cells_of_run : CellRun → List Cell
cells_of_run run = cells_along run.kind run.offset run.count

-- the object is the static of this number: its name, its place, its bytes and its cells
pub record IsNamed (p : Linking) (n : ℕ) (s : StaticObject) (o : ObjectValue) : Type 0 where
  pub name : o.name ≡ s.name
  pub at : o.at ≡ p.at (Named n)
  pub size : o.size ≡ s.size
  pub cells : flat_map cells_of_run o.runs ≡ s.cells

abbrev pub AreNamed : Linking → ℕ → List StaticObject → List ObjectValue → Type 0
AreNamed p n [] [] = Unit {0}
AreNamed p n [] (o ∷ os) = ⊥
AreNamed p n (s ∷ ss) [] = ⊥
AreNamed p n (s ∷ ss) (o ∷ os) = IsNamed p n s o × AreNamed p (suc n) ss os

abbrev pub ShownLaw : Type 0
ShownLaw =
    (p : Linking) (u : Code) (objects : List ObjectValue) (m : Mem) (shown : List Variable) →
    IsWellFormed u → LaidOut p (static_shapes (statics_of u)) statics_start (statics_start + statics_capacity) →
    AreNamed p 0 (statics_of u) objects → ((a : ℕ) → m a < 256) →
    ShowEach (statics_of u) (statics_of u) shown → ShowsStatics p u shown m → vars_of objects m ≡ shown
