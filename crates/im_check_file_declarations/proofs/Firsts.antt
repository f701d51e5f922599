-- What an initialiser gives a static, put together.
use Rattle.std.proofs.Common.{◌≡◌, ℕ, Bool, List, [], ◌∷◌, ◌++◌, map, Vec, Global, Option, Some, None, is_some, Result, Ok, Err, MatchResult, IfOk, IfErr, refl, sym, ap, ◌∙◌, subst}
use Rattle.std.proofs.lemmas.List.{append-nil, map_push}
use Rattle.im_check_file_specifiers.specs.im_word.Words.{Name}
use Rattle.im_ctree.specs.Tree as t
use Rattle.im_ctree.specs.Shape.{maybe_initializer_of}
use Rattle.im_ctree.specs.declared.declaration.Initializer.{Initializer}
use Rattle.im_check_file_specifiers.specs.im_ctype.Table.{Table, structs_of}
use Rattle.im_check_file_specifiers.specs.im_ctype.Types.{CType, Structs}
use Rattle.im_typed.specs.declared.program.Constant.{Constant}
use Rattle.im_typed.specs.ProgramOf as q
use Rattle.im_rules.specs.Declared.{Declared}
use Rattle.im_rules.specs.Demands.{Meets}
use Rattle.im_rules.specs.FileScope.{FilePlace, past_strings, static_size, file_asks, with_declared}
use Rattle.im_rules.specs.Initialisers.{Item, completed, strings_given, pieces_of}
use Rattle.im_rules.specs.Outline.{is_initialised}
use Rattle.im_rules.specs.StaticValues.{cell_values}
use Rattle.im_rules.specs.TypedUnit.{MayGive, gives_nothing, gives_values, AreConstants, cells_in, values_given}
use Rattle.im_check_file_specifiers.specs.im_rules_limits.Limits.{Counted}
use Rattle.im_check_sizes.specs.Sizes.{AllFit, IsOver}
use Rattle.im_check_stop.specs.declared.stop.Stop.{Stop}
use Rattle.im_check_stop.specs.declared.stop.Stop.TheVariants.{Rule, Large, Memory}
use Rattle.im_check_stop.specs.Answers.{IsRefusal}
use Rattle.im_check_items.specs.declared.item.Item as ri
use Rattle.im_check_items.specs.Shape.{items_in}
use Rattle.im_check_static_values.specs.Firsts.{AreConstant, IsUnfit}
use Rattle.im_check_static_values.proofs.FilePlaces.{are_constants, refused_item}
use Rattle.im_check_file_place.specs.declared.file.File.{File}
use Rattle.im_check_file_names.specs.Kept.{KeepsOthers}
use Rattle.im_check_file_place.specs.Files.{file_place_of}
use Rattle.im_check_file_specifiers.proofs.Places.{past_none}
use Rattle.im_check_defined.specs.declared.first_values.FirstValues as rf
use Rattle.im_check_defined.specs.Values.{no_types, values_in, first_values_of, first_values_in}
use Rattle.im_check_defined.proofs.Constants.{same_values}
use Rattle.im_check_file_declarations.specs.Steps.{IsRefusedItem, IsFirst, IsEntered, IsNameFault, MayAdd}

-- the values of the cells of a static, by its items
abbrev pub ValuesAre : FilePlace → CType → List Item → List Constant → Type 0
ValuesAre p a ps vs = values_in vs ≡ cell_values (static_size p) (cells_in p.context.known a) (pieces_of p.context.known ps)

pub values_made : (file : File) (table : Table) (a : CType) (items : List ri.Item) (result : Result (Vec Constant Global) Stop)
    → table ≡ file.place.structs
    → IfOk result (λ vs. AreConstant (static_size (file_place_of file)) (structs_of table) (items_in table items))
    → IfOk result (λ vs. map {A = Constant} (q.first_of table) vs.items ≡ cell_values (static_size (file_place_of file)) (cells_in (structs_of table) a) (pieces_of (structs_of table) (items_in table items)))
    → IfErr result (IsUnfit (static_size (file_place_of file)) (structs_of table) (items_in table items))
    → MatchResult result
    (λ vs. AreConstants (file_place_of file) (items_in file.place.structs items) × ValuesAre (file_place_of file) a (items_in file.place.structs items) vs.items)
    (IsRefusedItem (file_place_of file) (items_in file.place.structs items))
values_made file table a items (Ok vs) e k v r =
    let size = static_size (file_place_of file) in
    let k₁ = subst (λ (z : Table). AreConstant size (structs_of z) (items_in z items)) e k in
    let v₁ = ap (λ (z : Table). cell_values size (cells_in (structs_of z) a) (pieces_of (structs_of z) (items_in z items))) e in
    (are_constants (file_place_of file) (items_in file.place.structs items) k₁, same_values no_types table vs.items ∙ v ∙ v₁)
values_made file table a items (Err (Rule rule token)) e k v r =
    let r₁ = subst (λ (z : Table). IsUnfit (static_size (file_place_of file)) (structs_of z) (items_in z items) (Rule rule token)) e r in
    refused_item (file_place_of file) rule token (items_in file.place.structs items) r₁
values_made file table a items (Err (Large bytes)) e k v r = absurd r
values_made file table a items (Err Memory) e k v r = tt

-- what it gives stands behind the others

pub none_added : (f : FilePlace) (x : Name) (a : CType) (old : List rf.FirstValues) → MayAdd f x a t.no_initializer old old f
none_added f x a old = record { given = []; added = sym (append-nil (first_values_in old)); gives = gives_nothing; place = sym (past_none f); within = tt }

pub one_added : (f g : FilePlace) (x y : Name) (a : CType) (i : t.Initializer) (old new : List rf.FirstValues) (v : rf.FirstValues)
    → y ≡ x
    → new ≡ old ++ v ∷ []
    → IsFirst f y a i (first_values_of v) g
    → MayAdd f x a (t.an_initializer i) old new g
one_added f g x y a i old new v same pushed h =
    let past = past_strings (strings_given f.context.known a i) f in
    let d : MayGive f x a (t.an_initializer i) (values_given past x a h.items ∷ []) = gives_values h.initialised h.constants in
    let e : values_given past x a h.items ≡ first_values_of v = ap (λ z. values_given past z a h.items) (sym same) ∙ sym h.values in
    record {
      given = first_values_of v ∷ [];
      added = ap first_values_in pushed ∙ map_push {X = rf.FirstValues} first_values_of old v;
      gives = subst (λ z. MayGive f x a (t.an_initializer i) (z ∷ [])) e d;
      place = h.place;
      within = h.within;
    }

-- a declarator's name in scope

pub initialised_so : (x : Option Initializer) → is_some x ≡ is_initialised (maybe_initializer_of x)
initialised_so None = refl
initialised_so (Some i) = refl

pub name_refused : (f : FilePlace) (xs : t.SpecifierList) (y : Declared) (i : t.MaybeInitializer) (at : ℕ) (a : CType) (whole : Bool) (stop : Stop)
    → a ≡ completed y.type i
    → whole ≡ is_initialised i
    → IsRefusal (file_asks f xs y a whole) at stop
    → IsNameFault f xs y i at stop
name_refused f xs y i at a whole (Rule rule token) e w h =
    subst (λ z. IsRefusal (file_asks f xs y (completed y.type i) z) at (Rule rule token)) w (subst (λ z. IsRefusal (file_asks f xs y z whole) at (Rule rule token)) e h)
name_refused f xs y i at a whole (Large bytes) e w h = absurd h
name_refused f xs y i at a whole Memory e w h = tt

pub same_known : (old new : File) (table : Table) → KeepsOthers old new → table ≡ new.place.structs → structs_of table ≡ (file_place_of old).context.known
same_known old new table kept e = ap structs_of (e ∙ ap (λ (z : File). z.place.structs) kept)

pub name_large : (f : FilePlace) (xs : t.SpecifierList) (y : Declared) (i : t.MaybeInitializer) (at : ℕ) (known : Structs) (a : CType) (stop : Stop)
    → known ≡ f.context.known
    → a ≡ completed y.type i
    → IsOver known a stop
    → IsNameFault f xs y i at stop
name_large f xs y i at known a (Rule rule token) same e h = absurd h
name_large f xs y i at known a (Large bytes) same e h =
    (subst (λ z. Counted f.context.known z bytes) e (subst (λ z. Counted z a bytes) same h.0), h.1)
name_large f xs y i at known a Memory same e h = tt

pub name_done : (f g : FilePlace) (xs : t.SpecifierList) (y : Declared) (i : t.MaybeInitializer) (a : CType) (whole : Bool) (known : Structs)
    → a ≡ completed y.type i
    → whole ≡ is_initialised i
    → Meets (file_asks f xs y a whole)
    → g ≡ with_declared xs y a whole f
    → known ≡ f.context.known
    → AllFit known a
    → IsEntered f xs y i g
name_done f g xs y i a whole known e w meets place same fits =
    record {
      meets = subst (λ z. Meets (file_asks f xs y (completed y.type i) z)) w (subst (λ z. Meets (file_asks f xs y z whole)) e meets);
      fits = subst (λ z. AllFit f.context.known z) e (subst (λ z. AllFit z a) same fits);
      place = place ∙ ap (λ z. with_declared xs y z whole f) e ∙ ap (λ z. with_declared xs y (completed y.type i) z f) w;
    }
