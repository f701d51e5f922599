-- Objects, statics and functions whose types stand in a table.
use Rattle.std.specs.Prelude.{◌≡◌, List, [], ◌∷◌, map, All}
use Rattle.im_ctype.specs.Table.{Table, IsIn}
use Rattle.im_check_defined.specs.im_store.Statics.{StaticObject}
use Rattle.im_typed.specs.declared.program.Object.{Object}
use Rattle.im_typed.specs.declared.program.Static.{Static}
use Rattle.im_typed.specs.declared.program.Func.{Func}
use Rattle.im_typed.specs.Program.{LocalObject}
use Rattle.im_typed.specs.ProgramOf.{object_of, static_of}
use Rattle.im_check_sites.specs.Sites.{objects_in}
use Rattle.im_check_defined.specs.declared.function.Defined.{Defined}

pub record IsObjectOf (types : Table) (x : LocalObject) (o : Object) : Type 0 where
  pub known : IsIn types o.ty
  pub same : object_of types o ≡ x

abbrev pub KnowObjects : Table → List Object → Type 0
KnowObjects types os = All (λ (o : Object). IsIn types o.ty) os

pub record IsStaticOf (types : Table) (x : StaticObject) (s : Static) : Type 0 where
  pub known : IsIn types s.object.ty
  pub same : static_of types s ≡ x

abbrev pub AreStaticsOf : Table → List StaticObject → List Static → Type 0
AreStaticsOf types [] [] = Unit {0}
AreStaticsOf types [] (s ∷ ss) = ⊥
AreStaticsOf types (x ∷ xs) [] = ⊥
AreStaticsOf types (x ∷ xs) (s ∷ ss) = IsStaticOf types x s × AreStaticsOf types xs ss

-- a function with the objects that a table has made of its own by an earlier one
pub record IsFunctionOf (before after : Table) (f : Defined) (g : Func) : Type 0 where
  pub name : g.name ≡ f.name
  pub params : g.params ≡ f.params
  pub result : g.result ≡ f.result
  pub body : g.body ≡ f.body
  pub objects : map (object_of after) g.objects.items ≡ objects_in before f.objects.items
  pub known : KnowObjects after g.objects.items

abbrev pub AreFunctionsOf : Table → Table → List Defined → List Func → Type 0
AreFunctionsOf before after [] [] = Unit {0}
AreFunctionsOf before after [] (g ∷ gs) = ⊥
AreFunctionsOf before after (f ∷ fs) [] = ⊥
AreFunctionsOf before after (f ∷ fs) (g ∷ gs) = IsFunctionOf before after f g × AreFunctionsOf before after fs gs
