-- Where the body of a function begins.
use Rattle.std.proofs.Common.{◌≡◌, suc, List, [], ◌∷◌, ◌++◌, length, Vec, Global, refl, sym, ap, ◌∙◌}
use Rattle.std.proofs.lemmas.List.{length-map}
use Rattle.im_ctree.specs.Tree as t
use Rattle.im_check_statements.specs.im_ctype.Table.{Table, structs_of}
use Rattle.im_check_statements.specs.im_ctype.Types.{Structs}
use Rattle.im_rules.specs.Context.{Context}
use Rattle.im_rules.specs.Declared as d
use Rattle.im_rules.specs.Scopes.{Scopes, opened}
use Rattle.im_rules.specs.TypedUnit.{parameter_objects}
use Rattle.im_types.specs.declared.tree.Type as rust
use Rattle.im_check_scopes.specs.declared.entity.Entry.{Entry}
use Rattle.im_check_scopes.specs.declared.entity.Entry.TheVariants.{Opened}
use Rattle.im_check_scopes.specs.Shape.{scopes_of}
use Rattle.im_check_place.specs.declared.place.Place.{Place}
use Rattle.im_check_place.specs.Contexts.{context_of}
use Rattle.im_check_file_place.specs.declared.file.File.{File}
use Rattle.im_check_sites.specs.declared.body.Local.{Local}
use Rattle.im_check_sites.specs.Sites.{object_in, objects_in}
use Rattle.im_check_sites.proofs.Sites.{same_site}
use Rattle.im_check_statements.specs.Checked.{alone}
use Rattle.im_check_sites.specs.Sites.{position_of}
use Rattle.im_check_file_functions.specs.Bodies.{AreEntered, IsBegun}
use Rattle.im_check_file_functions.proofs.Entering.{more_two}

-- there is an object of each parameter
each_object : (known : Structs) (ds : List d.Declared) → length (parameter_objects known ds) ≡ length ds
each_object known [] = refl
each_object known (y ∷ ds) = ap suc (each_object known ds)

counted : (types : Table) (ls : List Local) (ds : List d.Declared) → objects_in types ls ≡ parameter_objects (structs_of types) ds → length ls ≡ length ds
counted types ls ds h = sym (length-map ls (object_in types)) ∙ ap length h ∙ each_object (structs_of types) ds

abbrev in_scopes : Place → Scopes → Context
in_scopes p g = record (context_of p) { scopes = g }

pub begun_so : {f : File} {p : Place} {es : List Entry} {ps : t.Parameters} {ds : List d.Declared} (r : rust.Type) (g : File) (locals : Vec Local Global)
    → es ≡ f.place.scope ++ Opened ∷ []
    → scopes_of es ≡ opened (scopes_of f.place.scope)
    → AreEntered (record f.place { scope = es }) ps ds p
    → ((types : Table) → objects_in types locals.items ≡ parameter_objects (structs_of types) ds)
    → g ≡ record f { place = g.place; texts = g.texts }
    → IsBegun f r ps ds g (record { place = p; result = r; locals = locals; texts = f.texts })
begun_so {f = f} {p = p} {es = es} {ps = ps} {ds = ds} r g locals opens scopes entered objects rest =
    let more = more_two {p = f.place} (record { grown = (Opened ∷ [], opens); all_else = refl }) entered.more in
    let same : p.structs ≡ f.place.structs = ap (λ (z : Place). z.structs) more.all_else in
    record {
      site = same_site (position_of alone) (entered.context ∙ ap (λ z. d.with_parameters 0 ps ds (in_scopes f.place z)) scopes) refl (counted p.structs locals.items ds (objects p.structs));
      more = more;
      objects = objects p.structs ∙ ap (λ z. parameter_objects (structs_of z) ds) same;
      texts = refl;
      all_else = rest;
    }
