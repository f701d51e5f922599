-- What a memory shows of an image's variables.
use Rattle.std.specs.Prelude.{ℕ, zero, suc, ◌+◌, ◌-◌, ◌==◌, ◌&&◌, nat_le, Bool, if◌then◌else◌, pos, List, [], ◌∷◌, map}
use Rattle.std.specs.List.{flat_map}
use Rattle.im_num.specs.declared.kind.Kind.{Kind}
use Rattle.im_num.specs.declared.kind.Kind.TheVariants.{I8, U8, I16, U16, I32, U32, Ptr}
use Rattle.im_num.specs.declared.values.CellValue.{CellValue}
use Rattle.im_num.specs.declared.values.CellValue.TheVariants.{Number, Null, Inside, Local}
use Rattle.im_num.specs.Variables.{Variable}
use Rattle.im_num.specs.Kinds.{kind_size, wrap}
use Rattle.im_mem.specs.Memory.{Mem, little}
use Rattle.im_image.specs.declared.object.CellRun.{CellRun}
use Rattle.im_image.specs.Contents.{ObjectValue}

-- an address is a byte's of the object, or the one past its end
abbrev pub reaches : ObjectValue → ℕ → Bool
reaches object address = nat_le object.at address && nat_le address (object.at + object.size)

-- the place of an address in one of the objects, which are numbered from k on
abbrev pub place_from : ℕ → List ObjectValue → ℕ → CellValue
place_from k [] address = Local
place_from k (object ∷ others) address = if reaches object address then Inside k (address - object.at) else place_from (k + 1) others address

-- the value of a pointer's word
abbrev pub pointer_of : List ObjectValue → ℕ → CellValue
pointer_of objects word = if word == 0 then Null else place_from 0 objects word

-- the value of a kind whose bytes make this word
abbrev pub value_of : List ObjectValue → Kind → ℕ → CellValue
value_of objects Ptr word = pointer_of objects word
value_of objects I8 word = Number (wrap I8 (pos word))
value_of objects U8 word = Number (wrap U8 (pos word))
value_of objects I16 word = Number (wrap I16 (pos word))
value_of objects U16 word = Number (wrap U16 (pos word))
value_of objects I32 word = Number (wrap I32 (pos word))
value_of objects U32 word = Number (wrap U32 (pos word))

-- the value of the cell of a kind at an address
abbrev pub cell_of : List ObjectValue → Mem → Kind → ℕ → CellValue
cell_of objects m kind at = value_of objects kind (little m at (kind_size kind))

-- the values of n cells of a kind side by side, the first of them at an address
abbrev pub cells_from : List ObjectValue → Mem → Kind → ℕ → ℕ → List CellValue
cells_from objects m kind at zero = []
cells_from objects m kind at (suc n) = cell_of objects m kind at ∷ cells_from objects m kind (at + kind_size kind) n

-- the values of a run's cells, in an object at an address
abbrev pub run_cells : List ObjectValue → Mem → ℕ → CellRun → List CellValue
run_cells objects m at run = cells_from objects m run.kind (at + run.offset) run.count

abbrev pub variable : List ObjectValue → Mem → ObjectValue → Variable
variable objects m object = record { name = object.name; cells = flat_map (run_cells objects m object.at) object.runs }

-- the variables of an image's objects, in order
abbrev pub vars_of : List ObjectValue → Mem → List Variable
vars_of objects m = map (variable objects m) objects
