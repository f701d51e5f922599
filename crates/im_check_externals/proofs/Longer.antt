-- The structs of a place are those of each place before it, with more behind them.
use Rattle.std.proofs.Common.{◌≡◌, ℤ, List, [], ◌∷◌, ◌++◌, Option, Some, None, refl, sym, ap, ◌∙◌, append_assoc}
use Rattle.std.proofs.lemmas.List.{append-nil}
use Rattle.im_check_file_functions.specs.im_word.Words.{Name}
use Rattle.im_ctree.specs.declared.specifier.SpecifierWord.{SpecifierWord}
use Rattle.im_ctree.specs.Tree as t
use Rattle.im_check_file_functions.specs.im_ctype.Types.{Member, Structs}
use Rattle.im_check_file_functions.specs.im_typed.Program.{Func}
use Rattle.im_rules.specs.Declared.{Qualified}
use Rattle.im_rules.specs.FileScope.{FilePlace, Level, with_enum_tag}
use Rattle.im_rules.specs.TypedUnit.{AreEnumerators, no_enumerator, an_enumerator, Specify, of_specifiers, NamesType, no_list, a_struct, an_enum, AreMembers, no_member, some_members, AreFields, no_field, a_field, FirstValues, AreDeclared, none_declared, one_declared, TypedExternal, of_declaration, of_function}

abbrev pub HasMore : FilePlace → FilePlace → Type 0
HasMore f g = (more : Structs) × (g.context.known ≡ f.context.known ++ more)

none_more : (f : FilePlace) → HasMore f f
none_more f = ([], sym (append-nil f.context.known))

two_more : (f g h : FilePlace) → HasMore f g → HasMore g h → HasMore f h
two_more f g h p q = (p.0 ++ q.0, q.1 ∙ ap (λ z. z ++ q.0) p.1 ∙ append_assoc f.context.known p.0 q.0)

tag_more : (x : Option Name) (g : FilePlace) → (with_enum_tag x g).context.known ≡ g.context.known
tag_more None g = refl
tag_more (Some x) g = refl

enumerators_more : {f g : FilePlace} {next : ℤ} {es : t.Enumerators} → AreEnumerators f next es g → HasMore f g
enumerators_more {f = f} no_enumerator = none_more f
enumerators_more (an_enumerator n m r) = enumerators_more r

mutual
  specify_more : {l : Level} {f g : FilePlace} {xs : t.SpecifierList} {q : Qualified} → Specify l f xs q g → HasMore f g
  specify_more (of_specifiers m n) = names_more n

  names_more : {f g : FilePlace} {ss : List t.Specifier} {ks : List SpecifierWord} {q : Qualified} → NamesType f ss ks q g → HasMore f g
  names_more {f = f} (no_list m) = none_more f
  names_more {f = f} (a_struct {fields = fields} ms m) =
      let p = members_more ms in
      (p.0 ++ fields ∷ [], ap (λ z. z ++ fields ∷ []) p.1 ∙ append_assoc f.context.known p.0 (fields ∷ []))
  names_more (an_enum {g = g} {x = x} m es) = let p = enumerators_more es in (p.0, tag_more x g ∙ p.1)

  members_more : {f g : FilePlace} {ms : t.Members} {fields : List Member} → AreMembers f ms fields g → HasMore f g
  members_more {f = f} no_member = none_more f
  members_more {f = f} {g = e} (some_members {g = g} {h = h} s d r) = two_more f g e (specify_more s) (two_more g h e (fields_more d) (members_more r))

  fields_more : {q : Qualified} {f g : FilePlace} {ds : t.Declarators} {fields : List Member} → AreFields q f ds fields g → HasMore f g
  fields_more {f = f} no_field = none_more f
  fields_more (a_field d m r) = fields_more r

declared_more : {xs : t.SpecifierList} {q : Qualified} {f g : FilePlace} {ds : t.InitDeclarators} {gs : List FirstValues} → AreDeclared xs q f ds gs g → HasMore f g
declared_more {f = f} none_declared = none_more f
declared_more (one_declared d m k r) = declared_more r

pub external_more : {f g : FilePlace} {x : t.External} {gs : List FirstValues} {ks : List Func} → TypedExternal f x gs ks g → HasMore f g
external_more {f = f} {g = e} (of_declaration {g = g} s d) = two_more f g e (specify_more s) (declared_more d)
external_more (of_function s d m k a b) = specify_more s
