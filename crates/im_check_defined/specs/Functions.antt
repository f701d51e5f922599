-- The functions of the definitions that defined ones stand for.
use Rattle.std.specs.Prelude.{◌≡◌, ℕ, Bool, true, ◌&&◌, List, [], ◌∷◌, length}
use Rattle.im_check_sites.specs.im_ctype.Table.{Table, structs_of}
use Rattle.im_check_sites.specs.im_ctype.Types.{is_complete}
use Rattle.im_typed.specs.Program.{Func}
use Rattle.im_typed.specs.ProgramOf.{stmt_of}
use Rattle.im_types.specs.Shape.{type_of}
use Rattle.im_typed.specs.StructsLaws.{IsLonger}
use Rattle.im_check_sites.specs.declared.body.Local.{Local}
use Rattle.im_check_sites.specs.Sites.{objects_in}
use Rattle.im_check_defined.specs.declared.function.Defined.{Defined}

abbrev pub all_complete : ℕ → List Local → Bool
all_complete known [] = true
all_complete known (l ∷ ls) = is_complete known (type_of l.ty) && all_complete known ls

-- by a table of types
abbrev pub function_in : Table → Defined → Func
function_in types f =
    record { name = f.name.items; params = f.params; result = f.result; objects = objects_in types f.objects.items; body = stmt_of types f.body }

-- by the table that stood before it, of which the last one has all structs in front; its objects have complete types by it
pub record IsDefined (last : Table) (k : Func) (f : Defined) : Type 0 where
  pub types : Table
  pub longer : IsLonger (structs_of types) (structs_of last)
  pub complete : all_complete (length (structs_of types)) f.objects.items ≡ true
  pub same : k ≡ function_in types f

abbrev pub AreDefined : Table → List Func → List Defined → Type 0
AreDefined last [] [] = Unit {0}
AreDefined last [] (f ∷ fs) = ⊥
AreDefined last (k ∷ ks) [] = ⊥
AreDefined last (k ∷ ks) (f ∷ fs) = IsDefined last k f × AreDefined last ks fs
