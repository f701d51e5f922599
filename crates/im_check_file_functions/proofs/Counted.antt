-- Parameters as objects, one behind the other.
use Rattle.std.proofs.Common.{◌≡◌, ◌≤◌, ℕ, ◌+◌, List, [], ◌∷◌, ◌++◌, map, length, drop, sym, ap, ◌∙◌, append_assoc}
use Rattle.std.proofs.lemmas.List.{append-nil, drop_all, map_push}
use Rattle.im_check_statements.specs.im_ctype.Table.{Table, structs_of}
use Rattle.im_rules.specs.Declared as d
use Rattle.im_rules.specs.TypedUnit.{parameter_objects}
use Rattle.im_check_declarators.specs.declared.declared.Declared.{Declared}
use Rattle.im_check_declarators.specs.Shape.{declared_of}
use Rattle.im_check_sites.specs.declared.body.Local.{Local}
use Rattle.im_check_sites.specs.Sites.{object_in, objects_in}

-- how many parameters have their objects
abbrev pub HaveObjects : List Declared → ℕ → List Local → Type 0
HaveObjects ys i ls =
    (types : Table) → objects_in types ls ++ parameter_objects (structs_of types) (map declared_of (drop i ys)) ≡ parameter_objects (structs_of types) (map declared_of ys)

pub have_none : (ys : List Declared) (ls : List Local) → ls ≡ [] → HaveObjects ys 0 ls
have_none ys ls none types = ap (λ (zs : List Local). objects_in types zs ++ parameter_objects (structs_of types) (map declared_of ys)) none

pub have_more : (ys : List Declared) (i : ℕ) (ls : List Local) {y : Declared} (l : Local)
    → drop i ys ≡ y ∷ drop (i + 1) ys
    → HaveObjects ys i ls
    → ((types : Table) (rest : List d.Declared) → parameter_objects (structs_of types) (declared_of y ∷ rest) ≡ object_in types l ∷ parameter_objects (structs_of types) rest)
    → HaveObjects ys (i + 1) (ls ++ l ∷ [])
have_more ys i ls l at have one types =
    let known = structs_of types in
    let rest = map declared_of (drop (i + 1) ys) in
    ap (λ z. z ++ parameter_objects known rest) (map_push {X = Local} (object_in types) ls l)
    ∙ append_assoc (objects_in types ls) (object_in types l ∷ []) (parameter_objects known rest)
    ∙ ap (λ z. objects_in types ls ++ z) (sym (one types rest))
    ∙ ap (λ zs. objects_in types ls ++ parameter_objects known (map declared_of zs)) (sym at)
    ∙ have types

pub have_all : (ys : List Declared) {i : ℕ} (ls : List Local) → length ys ≤ i → HaveObjects ys i ls → (types : Table) → objects_in types ls ≡ parameter_objects (structs_of types) (map declared_of ys)
have_all ys {i = i} ls ends have types =
    sym (append-nil (objects_in types ls)) ∙ ap (λ zs. objects_in types ls ++ parameter_objects (structs_of types) (map declared_of zs)) (sym (drop_all i ys ends)) ∙ have types
