-- Functions by the table of a unit's end: they are those of the definitions, which are typed by earlier tables.
use Rattle.std.proofs.Common.{◌≡◌, ℕ, Bool, true, false, ◌&&◌, List, [], ◌∷◌, length, map, refl, sym, ap, ◌∙◌, subst}
use Rattle.std.specs.Prelude.{Option}
use Rattle.im_num.specs.declared.kind.Kind.{Kind}
use Rattle.im_check_externals.specs.im_ctype.Layout.{Layout}
use Rattle.im_check_externals.specs.im_ctype.Table.{Table, structs_of}
use Rattle.im_check_externals.specs.im_ctype.Types.{Structs, is_complete}
use Rattle.im_typed.specs.declared.program.Func as rf
use Rattle.im_typed.specs.declared.statement.Stmt as rs
use Rattle.im_typed.specs.Program.{LocalObject, Func, Prog, Stmt}
use Rattle.im_typed.specs.ProgramOf.{object_of, stmt_of, func_of}
use Rattle.im_typed.specs.Typing.{Each, IsTypedFunc}
use Rattle.im_check_externals.specs.im_types.Shape.{type_of}
use Rattle.im_typed.specs.StructsLaws.{IsLonger, StatementsLaw, ObjectsLaw}
use Rattle.im_check_sites.specs.declared.body.Local.{Local}
use Rattle.im_check_sites.specs.Sites.{object_in, objects_in}
use Rattle.im_check_defined.specs.declared.function.Defined.{Defined}
use Rattle.im_check_defined.specs.Functions.{all_complete, function_in, IsDefined, AreDefined}
use Rattle.im_check_program.specs.Known.{IsFunctionOf, AreFunctionsOf}

both_true : (x y : Bool) → (x && y) ≡ true → (x ≡ true) × (y ≡ true)
both_true true y h = (refl, h)
both_true false y h = absurd cc

object_kept : ObjectsLaw → (types last : Table) → IsLonger (structs_of types) (structs_of last) → (l : Local) → is_complete (length (structs_of types)) (type_of l.ty) ≡ true → object_in last l ≡ object_in types l
object_kept law types last longer l h = ap (λ (y : Layout). record { name = l.name.items; size = y.size; cells = y.cells }) (law (structs_of types) (structs_of last) (type_of l.ty) longer h)

objects_kept : ObjectsLaw → (types last : Table) → IsLonger (structs_of types) (structs_of last) → (ls : List Local) → all_complete (length (structs_of types)) ls ≡ true → objects_in last ls ≡ objects_in types ls
objects_kept law types last longer [] h = refl
objects_kept law types last longer (l ∷ ls) h =
    let both = both_true (is_complete (length (structs_of types)) (type_of l.ty)) (all_complete (length (structs_of types)) ls) h in
    ap (λ (x : LocalObject). x ∷ objects_in last ls) (object_kept law types last longer l both.0) ∙ ap (λ (xs : List LocalObject). object_in types l ∷ xs) (objects_kept law types last longer ls both.1)

abbrev function_by : List ℕ → ℕ → Option Kind → List LocalObject → Stmt → Func
function_by x n r os b = record { name = x; params = n; result = r; objects = os; body = b }

one_function : StatementsLaw → ObjectsLaw → (p : Prog) (last after : Table) → structs_of after ≡ structs_of last → (k : Func) (f : Defined) (g : rf.Func) → IsDefined last k f → IsFunctionOf last after f g
    → IsTypedFunc p k → func_of after g ≡ k
one_function statements objects p last after same k f g d m t =
    let typed : IsTypedFunc p (function_in d.types f) = subst (λ (x : Func). IsTypedFunc p x) d.same t in
    let longer : IsLonger (structs_of d.types) (structs_of after) = subst (λ (x : Structs). IsLonger (structs_of d.types) x) (sym same) d.longer in
    let body : stmt_of after g.body ≡ stmt_of d.types f.body =
    ap (λ (b : rs.Stmt). stmt_of after b) m.body ∙ statements d.types after p (function_in d.types f) false false f.body longer typed.3 in
    let os : map (object_of after) g.objects.items ≡ objects_in d.types f.objects.items = m.objects ∙ objects_kept objects d.types last d.longer f.objects.items d.complete in
    ap (λ x. function_by x.items g.params g.result (map (object_of after) g.objects.items) (stmt_of after g.body)) m.name
    ∙ ap (λ (n : ℕ). function_by f.name.items n g.result (map (object_of after) g.objects.items) (stmt_of after g.body)) m.params
    ∙ ap (λ (r : Option Kind). function_by f.name.items f.params r (map (object_of after) g.objects.items) (stmt_of after g.body)) m.result
    ∙ ap (λ (xs : List LocalObject). function_by f.name.items f.params f.result xs (stmt_of after g.body)) os
    ∙ ap (λ (b : Stmt). function_by f.name.items f.params f.result (objects_in d.types f.objects.items) b) body
    ∙ sym d.same

pub all_functions : StatementsLaw → ObjectsLaw → (p : Prog) (last after : Table) → structs_of after ≡ structs_of last → (ks : List Func) (fs : List Defined) (gs : List rf.Func) → AreDefined last ks fs → AreFunctionsOf last after fs gs
    → Each (IsTypedFunc p) ks → map (func_of after) gs ≡ ks
all_functions statements objects p last after same [] [] [] d m t = refl
all_functions statements objects p last after same [] [] (g ∷ gs) d m t = absurd m
all_functions statements objects p last after same [] (f ∷ fs) gs d m t = absurd d
all_functions statements objects p last after same (k ∷ ks) [] gs d m t = absurd d
all_functions statements objects p last after same (k ∷ ks) (f ∷ fs) [] d m t = absurd m
all_functions statements objects p last after same (k ∷ ks) (f ∷ fs) (g ∷ gs) d m t =
    ap (λ (x : Func). x ∷ map (func_of after) gs) (one_function statements objects p last after same k f g d.0 m.0 t.0)
    ∙ ap (λ (xs : List Func). k ∷ xs) (all_functions statements objects p last after same ks fs gs d.1 m.1 t.1)
