-- Where all that is asked of a unit is so, it is typed.
use Rattle.std.proofs.Common.{ℕ, ℤ, List, [], ◌∷◌, pos, ◌+ℤ◌}
use Rattle.im_rules.specs.im_word.Words.{Name}
use Rattle.im_rules.specs.im_ctree.declared.specifier.SpecifierWord.{SpecifierWord}
use Rattle.im_rules.specs.im_ctree.Tree as t
use Rattle.im_rules.specs.im_ctype.Types.{CType}
use Rattle.im_rules.specs.Rules.{named_in, keywords_in}
use Rattle.im_rules.specs.Strings.{strings_of_declarator}
use Rattle.im_rules.specs.Context.{Context, in_new_scope}
use Rattle.im_rules.specs.Declared.{Qualified}
use Rattle.im_rules.specs.Initialisers.{Item, strings_given}
use Rattle.im_rules.specs.FileScope.{FilePlace, past_strings, file_start, Level, of_members, of_the_file, number_in, with_list_begun}
use Rattle.im_rules.specs.TypedUnit.{IsNumber, counted_on, written, AreEnumerators, no_enumerator, an_enumerator, Specify, of_specifiers, NamesType, no_list, a_struct, an_enum, AreMembers, no_member, some_members, AreFields, no_field, a_field, AreConstants, MayGive, gives_nothing, gives_values, AreDeclared, none_declared, one_declared, TypedExternal, of_declaration, of_function, AreExternals, no_external, an_external, TypedUnit, of_unit}
use Rattle.im_rules_asked.specs.Expressions.{declared}
use Rattle.im_rules_asked.specs.Initialisers.{items}
use Rattle.im_rules_asked.specs.Units.{number_of, number_asked, past_enumerator, enumerators, enumerators_asked, fields, fields_asked, fields_of, named_type, members, specify, named_asked, members_asked, specifiers_asked, first_values, static_type, past_static, past_given, declarations, constants_asked, first_values_asked, declarations_asked, own as own_of, start_of_body, external, external_asked, externals, externals_asked, unit, unit_asked}
use Rattle.im_rules_asked.proofs.Right.{Right, own, within, beside_last, beside_rest, behind_last, behind_rest, to_same}
use Rattle.im_rules_asked.proofs.Built.{part, first_part, second_part, first_of, then_of, built, built_declarator, built_parameters}
use Rattle.im_rules_asked.proofs.BuiltBodies.{built_items, built_row}

pub built_number : (c : Context) (next : ℤ) (e : t.MaybeExpression) → Right (number_asked c e)
    → IsNumber c next e (number_of c next e)
built_number c next t.no_expression h = counted_on
built_number c next (t.an_expression e) h = written (built c e h)

pub built_enumerators : (f : FilePlace) (next : ℤ) (es : t.Enumerators)
    → Right (enumerators_asked f next es) → AreEnumerators f next es (enumerators f next es)
built_enumerators f next t.no_enumerators h = no_enumerator
built_enumerators f next (t.more_enumerators at x e es) h =
    an_enumerator (built_number f.context next e (first_of h)) (own (first_part (then_of h)))
    (built_enumerators (past_enumerator f next x e)
    (number_in (number_of f.context next e) +ℤ pos 1) es (second_part (then_of h)))

pub built_fields : (q : Qualified) (f : FilePlace) (ds : t.Declarators)
    → Right (fields_asked q f ds) → AreFields q f ds (fields q f ds).members (fields q f ds).place
built_fields q f t.no_declarators h = no_field
built_fields q f (t.more_declarators d ds) h =
    a_field (built_declarator f.context q d (part (first_part h))) (own (first_part h))
    (built_fields q (past_strings (strings_of_declarator d) f) ds (second_part h))

mutual
  pub built_named : (f : FilePlace) (first : ℕ) (ks : List SpecifierWord) (xs : t.SpecifierList)
      → Right (named_asked f first xs)
      → NamesType f (named_in xs) ks (named_type f ks xs).type (named_type f ks xs).place
  built_named f first ks t.no_specifiers h = no_list tt
  built_named f first ks (t.more_specifiers (t.word_specifier at x) xs) h =
      built_named f first ks xs h
  built_named f first ks (t.more_specifiers (t.typedef_specifier at x) xs) h = no_list (own h)
  built_named f first ks (t.more_specifiers (t.struct_tag at x) xs) h = no_list (own h)
  built_named f first ks (t.more_specifiers (t.enum_tag at x) xs) h = no_list (own h)
  built_named f first ks (t.more_specifiers (t.struct_specifier at x ms) xs) h =
      a_struct (built_members (with_list_begun at x f) ms (first_of h)) (own h)
  built_named f first ks (t.more_specifiers (t.enum_specifier at x es) xs) h =
      an_enum (own (first_part h)) (built_enumerators f (pos 0) es (second_part h))

  pub built_members : (f : FilePlace) (ms : t.Members) → Right (members_asked f ms)
      → AreMembers f ms (members f ms).members (members f ms).place
  built_members f t.no_members h = no_member
  built_members f (t.more_members (t.specifiers at xs) ds ms) h =
      some_members
      (of_specifiers {l = of_members} (own (first_of
      (beside_last (behind_rest (behind_rest (within h))))))
      (built_named f at (keywords_in xs) xs (then_of
      (beside_last (behind_rest (behind_rest (within h)))))))
      (built_fields (specify f xs).type (specify f xs).place ds
      (behind_last (behind_rest (within h))))
      (built_members (fields_of (specify f xs) ds).place ms (behind_last (within h)))

pub built_specify : (l : Level) (f : FilePlace) (at : ℕ) (xs : t.SpecifierList)
    → Right (specifiers_asked l f at xs) → Specify l f xs (specify f xs).type (specify f xs).place
built_specify l f at xs h =
    of_specifiers {l = l} (own (first_of h)) (built_named f at (keywords_in xs) xs (then_of h))

built_constants : (f : FilePlace) (ps : List Item) → Right (constants_asked f ps)
    → AreConstants f ps
built_constants f [] h = tt
built_constants f (p ∷ ps) h = (own (first_part h), built_constants f ps (second_part h))

built_given : (f : FilePlace) (x : Name) (a : CType) (i : t.MaybeInitializer)
    → Right (first_values_asked f a i) → MayGive f x a i (first_values f x a i)
built_given f x a t.no_initializer h = gives_nothing
built_given f x a (t.an_initializer i) h =
    gives_values (built_items f.context a 0 i (first_of h))
    (built_constants (past_strings (strings_given f.context.known a i) f) (items f.context a 0 i)
    (then_of h))

built_declarations : (xs : t.SpecifierList) (q : Qualified) (f : FilePlace) (ds : t.InitDeclarators)
    → Right (declarations_asked xs q f ds)
    → AreDeclared xs q f ds (declarations xs q f ds).values (declarations xs q f ds).place
built_declarations xs q f t.no_init_declarators h = none_declared
built_declarations xs q f (t.more_init_declarators d i ds) h =
    one_declared (built_declarator f.context q d (first_of h))
    (own (beside_last (beside_rest (beside_rest (within (second_part (then_of h)))))))
    (built_given (past_static xs q f d i) _ (static_type q f d i) i
    (beside_last (beside_rest (within (second_part (then_of h))))))
    (built_declarations xs q (past_given xs q f d i) ds
    (beside_last (within (second_part (then_of h)))))

pub built_external : (f : FilePlace) (x : t.External) → Right (external_asked f x)
    → TypedExternal f x (external f x).values (external f x).functions (external f x).place
built_external f (t.external_declaration (t.declaration (t.specifiers at xs) ds)) h =
    of_declaration (built_specify of_the_file f at xs (first_of h))
    (built_declarations xs (specify f xs).type (specify f xs).place ds (then_of h))
built_external f (t.function_definition (t.specifiers at xs) d (t.block at' is)) h =
    of_function (built_specify of_the_file f at xs (first_of h))
    (built_declarator (specify f xs).place.context (specify f xs).type d (first_of (then_of h)))
    (own (beside_last (beside_rest (beside_rest (within (then_of (then_of h)))))))
    (own (beside_last (beside_rest (within (then_of (then_of h))))))
    (built_parameters (in_new_scope (specify f xs).place.context) 0 (own_of d)
    (to_same (first_of (beside_last (within (then_of (then_of h)))))))
    (built_row (start_of_body xs (specify f xs).place d
    (declared (specify f xs).place.context (specify f xs).type d)) is
    (then_of (beside_last (within (then_of (then_of h))))))

pub built_externals : (f : FilePlace) (u : t.Tree) → Right (externals_asked f u)
    → AreExternals f u (externals f u).values (externals f u).functions (externals f u).place
built_externals f t.no_externals h = no_external
built_externals f (t.more_externals x xs) h =
    an_external (built_external f x (first_of h))
    (built_externals (external f x).place xs (then_of h))

pub built_unit : (u : t.Tree) → Right (unit_asked u) → TypedUnit u (unit u)
built_unit u h = of_unit (built_externals (file_start u) u (part h)) (own h)
