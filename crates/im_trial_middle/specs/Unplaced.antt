-- Block code that is made for a row of lines, and placed: function 0, of those lines, and function 1, which takes two arguments.
use Rattle.std.specs.Prelude.{◌≡◌, ◌<◌, ◌≤◌, ℕ, suc, List, [], ◌∷◌, ◌++◌, length, All}
use Rattle.im_block.specs.declared.code.Line.{Line}
use Rattle.im_block.specs.declared.code.Line.TheVariants.{Call}
use Rattle.im_block.specs.declared.code.Block.{Block}
use Rattle.im_block.specs.declared.unit.Registers.TheVariants.{Virtual}
use Rattle.im_block.specs.declared.unit.Function.{Function}
use Rattle.im_block.specs.Wellformed.{HasCells, LineWithin, ExitWithin, ExitThere, IsFunction, accesses_of_blocks}
use Rattle.im_alloc_placed.specs.Placeable.{HasRoom, IsPlaceableLine, IsPlaceableFunction}

-- what the function of the lines has, whatever they are
pub record IsFirst (f : Function) : Type 0 where
  pub registers : f.registers ≡ Virtual
  pub count : f.register_count ≡ 32
  pub parameters : f.parameters ≡ 0
  pub first_parameter : f.first_parameter ≡ 0
  pub first_object : f.first_object ≡ 0
  pub objects : length f.objects.items ≡ 1
  pub cells : All HasCells f.objects.items
  pub slots : f.slots ≡ 0
  pub room : HasRoom f
  pub entry : f.entry < length f.blocks.items

pub record IsSecond (f : Function) : Type 0 where
  pub parameters : f.parameters ≡ 2
  pub first_object : f.first_object ≡ 1
  pub accesses : accesses_of_blocks f.blocks.items ≡ []
  pub function : (functions : List Function) → IsFunction functions f
  pub placeable : IsPlaceableFunction 0 f

-- calls are of function 1
abbrev pub CallsSecond : Line → Type 0
CallsSecond (Call to function first count) = (function ≡ 1) × (count ≡ 2)
CallsSecond line = Unit {0}

-- a block of function 0
pub record IsOpenBlock (f : Function) (block : Block) : Type 0 where
  pub within : All (LineWithin 32) block.lines.items
  pub calls : All CallsSecond block.lines.items
  pub placeable : All (IsPlaceableLine 0 f) block.lines.items
  pub exit : ExitWithin 32 block.exit
  pub there : ExitThere (length f.blocks.items) block.exit

-- numbers that rise from one on
abbrev pub Rises : ℕ → List ℕ → Type 0
Rises n [] = Unit {0}
Rises n (x ∷ xs) = (n ≤ x) × Rises (suc x) xs

-- behind these, what rises from the second number on rises from the first on
abbrev pub Leads : ℕ → List ℕ → ℕ → Type 0
Leads n xs next = (ys : List ℕ) → Rises next ys → Rises n (xs ++ ys)
