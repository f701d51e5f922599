-- What is printed of the variables.
use Rattle.std.specs.Prelude.{ℕ, List, ◌++◌, codes, decimal, map, slice_index_or, []}
use Rattle.std.specs.List.{flat_map}
use Rattle.std.specs.Fmt.{signed_decimal}
use Rattle.im_num.specs.declared.values.CellValue.{CellValue}
use Rattle.im_num.specs.declared.values.CellValue.TheVariants.{Number, Null, Inside, Local, NoValue}
use Rattle.im_image.specs.Contents.{ObjectValue}
use Rattle.im_num.specs.Variables.{Variable}

-- the name of the object of this number
abbrev pub object_name : List ObjectValue → ℕ → List ℕ
object_name objects number = slice_index_or (map (λ object. object.name) objects) number []

abbrev pub cell_text : List ObjectValue → CellValue → List ℕ
cell_text objects (Number n) = signed_decimal n
cell_text objects Null = codes "null"
cell_text objects (Inside object offset) = object_name objects object ++ codes "+" ++ decimal offset
cell_text objects Local = codes "local"
cell_text objects NoValue = codes "unset"

-- a variable's name, and behind it each of its cells
abbrev pub variable_line : List ObjectValue → Variable → List ℕ
variable_line objects variable =
    codes "var " ++ variable.name ++ flat_map (λ cell. codes " " ++ cell_text objects cell) variable.cells ++ codes "\n"

abbrev pub variable_lines : List ObjectValue → List Variable → List ℕ
variable_lines objects = flat_map (variable_line objects)
