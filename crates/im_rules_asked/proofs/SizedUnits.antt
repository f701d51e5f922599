-- A size that is found in what is asked of a unit is counted by the relations.
use Rattle.std.proofs.Common.{ℕ, ℤ, ◌+ℤ◌, pos, List, [], ◌∷◌, Option, length}
use Rattle.std.specs.List.{Contains}
use Rattle.im_rules.specs.im_ctree.Tree as t
use Rattle.im_rules.specs.im_word.Words.{Name}
use Rattle.im_rules.specs.Rules.{named_in}
use Rattle.im_rules.specs.Strings.{strings_of_declarator}
use Rattle.im_rules.specs.Context.{in_new_scope}
use Rattle.im_rules.specs.Declared.{Qualified}
use Rattle.im_rules.specs.Typed.{Declares}
use Rattle.im_rules.specs.Initialisers.{Item, strings_given}
use Rattle.im_rules.specs.FileScope.{FilePlace, past_strings, file_start, of_the_file, of_members, Level, with_list_begun, with_struct, number_in}
use Rattle.im_rules.specs.TypedUnit.{AreMembers}
use Rattle.im_rules.specs.UnitBreaks.{some_externals, an_external, some_declared, file_specifiers, some_named, some_members, some_fields, some_enumerators, first_external, other_externals, declaration_specifiers, declared_part, function_specifiers, named_part, struct_members, enum_constants, other_enumerators, member_specifiers, member_fields, other_members, other_fields, other_declared, enumerator_value, field_declarator, file_declarator, function_declarator}
use Rattle.im_rules_limits.specs.Limits.{FileSized, of_struct, of_member, of_static, size_in_file_part, size_in_file_inner, size_in_static_initialiser, size_in_body}
use Rattle.im_rules_asked.specs.Asked.{sizes}
use Rattle.im_rules_asked.specs.Expressions.{declared, parameters_asked}
use Rattle.im_rules_asked.specs.Initialisers.{items}
use Rattle.im_rules_asked.specs.Units.{number_of, number_asked, past_enumerator, enumerators_asked, fields_asked, fields_of, members, specify, named_asked, members_asked, specifiers_asked, constants_asked, first_values_asked, static_type, past_static, past_given, declarations_asked, own as own_of, start_of_body, external, external_asked, externals_asked, unit_asked}
use Rattle.im_rules_asked.proofs.Right.{own, to_same}
use Rattle.im_rules_asked.proofs.Built.{built_declarator, built_parameters}
use Rattle.im_rules_asked.proofs.BuiltUnits.{built_number, built_fields, built_members, built_specify, built_external}
use Rattle.im_rules_asked.proofs.Faults.{a_size, Found}
use Rattle.im_rules_asked.proofs.Counting.{is_counted, StructHas, a_member_has, struct_has, of_struct_counted}
use Rattle.im_rules_asked.proofs.Finding.{found, nowhere, no_size, of_these, found_one, found_both, found_three, found_then, found_then_then}
use Rattle.im_rules_asked.proofs.SizedExpressions.{sized_expression, sized_declarator, sized_given}
use Rattle.im_rules_asked.proofs.SizedBodies.{sized_row}

-- enumeration constants

sized_number : (f : FilePlace) (next : ℤ) (at : ℕ) (x : Name) (e : t.MaybeExpression) (es : t.Enumerators) {n : ℕ}
    → Found (a_size n) (number_asked f.context e) → FileSized f (some_enumerators next (t.more_enumerators at x e es)) n
sized_number f next at x t.no_expression es h = nowhere h
sized_number f next at x (t.an_expression e) es h = size_in_file_inner enumerator_value (sized_expression f.context e h)

sized_enumerators : (f : FilePlace) (next : ℤ) (es : t.Enumerators) {n : ℕ} → Found (a_size n) (enumerators_asked f next es)
    → FileSized f (some_enumerators next es) n
sized_enumerators f next t.no_enumerators h = nowhere h
sized_enumerators f next (t.more_enumerators at x e es) h =
    found_then h (λ y. sized_number f next at x e es y) (λ r z. found_both z (λ y. nowhere y)
    (λ y. size_in_file_part (other_enumerators (built_number f.context next e r))
    (sized_enumerators (past_enumerator f next x e) (number_in (number_of f.context next e) +ℤ pos 1) es y)))

-- members

sized_fields : (q : Qualified) (f : FilePlace) (ds : t.Declarators) {n : ℕ} → Found (a_size n) (fields_asked q f ds)
    → FileSized f (some_fields q ds) n
sized_fields q f t.no_declarators h = nowhere h
sized_fields q f (t.more_declarators d ds) h =
    found_both h (λ x. size_in_file_inner field_declarator (sized_declarator f.context q d (found_one x)))
    (λ x. size_in_file_part other_fields (sized_fields q (past_strings (strings_of_declarator d) f) ds x))

struct_sized : (f : FilePlace) (first at : ℕ) (x : Option Name) (ms : t.Members) (ss : List t.Specifier) {n : ℕ}
    → AreMembers (with_list_begun at x f) ms (members (with_list_begun at x f) ms).members (members (with_list_begun at x f) ms).place
    → StructHas (with_struct (members (with_list_begun at x f) ms).members (members (with_list_begun at x f) ms).place).context.known
    (members (with_list_begun at x f) ms).members (length (members (with_list_begun at x f) ms).place.context.known) n
    → FileSized f (some_named first (t.struct_specifier at x ms ∷ ss)) n
struct_sized f first at x ms ss b (a_member_has m c h) = of_member b c h
struct_sized f first at x ms ss b (struct_has w) = of_struct b w

mutual
  sized_named : (f : FilePlace) (first : ℕ) (xs : t.SpecifierList) {n : ℕ} → Found (a_size n) (named_asked f first xs)
      → FileSized f (some_named first (named_in xs)) n
  sized_named f first t.no_specifiers h = nowhere h
  sized_named f first (t.more_specifiers (t.word_specifier at x) xs) h = sized_named f first xs h
  sized_named f first (t.more_specifiers (t.typedef_specifier at x) xs) h = nowhere h
  sized_named f first (t.more_specifiers (t.struct_tag at x) xs) h = nowhere h
  sized_named f first (t.more_specifiers (t.enum_tag at x) xs) h = nowhere h
  sized_named f first (t.more_specifiers (t.struct_specifier at x ms) xs) h =
      found_then h (λ y. size_in_file_part struct_members (sized_members (with_list_begun at x f) ms y))
      (λ r y. struct_sized f first at x ms (named_in xs) (built_members (with_list_begun at x f) ms r)
      (of_struct_counted (with_struct (members (with_list_begun at x f) ms).members (members (with_list_begun at x f) ms).place).context.known
      (members (with_list_begun at x f) ms).members (length (members (with_list_begun at x f) ms).place.context.known) (of_these y)))
  sized_named f first (t.more_specifiers (t.enum_specifier at x es) xs) h =
      found_both h (λ y. nowhere y) (λ y. size_in_file_part enum_constants (sized_enumerators f (pos 0) es y))

  sized_members : (f : FilePlace) (ms : t.Members) {n : ℕ} → Found (a_size n) (members_asked f ms) → FileSized f (some_members ms) n
  sized_members f t.no_members h = nowhere h
  sized_members f (t.more_members (t.specifiers at xs) ds ms) h =
      found_then_then h
      (λ y. size_in_file_part member_specifiers (found_then y (λ x. nowhere x)
      (λ r x. size_in_file_part (named_part {l = of_members} (own r)) (sized_named f at xs x))))
      (λ r x. size_in_file_part (member_fields (built_specify of_members f at xs r)) (sized_fields (specify f xs).type (specify f xs).place ds x))
      (λ r d x. size_in_file_part (other_members (built_specify of_members f at xs r) (built_fields (specify f xs).type (specify f xs).place ds d))
      (sized_members (fields_of (specify f xs) ds).place ms x))

sized_specifiers : (l : Level) (f : FilePlace) (at : ℕ) (xs : t.SpecifierList) {n : ℕ} → Found (a_size n) (specifiers_asked l f at xs)
    → FileSized f (file_specifiers l (t.specifiers at xs)) n
sized_specifiers l f at xs h =
    found_then h (λ x. nowhere x) (λ r x. size_in_file_part (named_part {l = l} (own r)) (sized_named f at xs x))

-- declarators at file scope

no_constant : (f : FilePlace) (ps : List Item) {n : ℕ} → Found (a_size n) (constants_asked f ps) → ⊥
no_constant f [] h = nowhere h
no_constant f (p ∷ ps) h = found_both h (λ x. nowhere x) (λ x. no_constant f ps x)

sized_first : (xs : t.SpecifierList) (q : Qualified) (f : FilePlace) (d : t.Declarator) (i : t.MaybeInitializer) (ds : t.InitDeclarators) {n : ℕ}
    → Declares f.context q d (declared f.context q d)
    → Found (a_size n) (first_values_asked (past_static xs q f d i) (static_type q f d i) i)
    → FileSized f (some_declared xs q (t.more_init_declarators d i ds)) n
sized_first xs q f d t.no_initializer ds p h = nowhere h
sized_first xs q f d (t.an_initializer i) ds p h =
    found_then h (λ x. size_in_static_initialiser p
    (sized_given (past_static xs q f d (t.an_initializer i)).context (static_type q f d (t.an_initializer i)) 0 i x))
    (λ r x. absurd (no_constant (past_strings (strings_given (past_static xs q f d (t.an_initializer i)).context.known (static_type q f d (t.an_initializer i)) i)
    (past_static xs q f d (t.an_initializer i)))
    (items (past_static xs q f d (t.an_initializer i)).context (static_type q f d (t.an_initializer i)) 0 i) x))

sized_declarations : (xs : t.SpecifierList) (q : Qualified) (f : FilePlace) (ds : t.InitDeclarators) {n : ℕ}
    → Found (a_size n) (declarations_asked xs q f ds) → FileSized f (some_declared xs q ds) n
sized_declarations xs q f t.no_init_declarators h = nowhere h
sized_declarations xs q f (t.more_init_declarators d i ds) h =
    found_then h (λ x. size_in_file_inner file_declarator (sized_declarator f.context q d x))
    (λ p y. found_both y
    (λ x. of_static (built_declarator f.context q d p) (is_counted f.context.known (static_type q f d i) (of_these x)))
    (λ z. found_three z (λ x. nowhere x) (λ x. sized_first xs q f d i ds (built_declarator f.context q d p) x)
    (λ x. size_in_file_part (other_declared (built_declarator f.context q d p)) (sized_declarations xs q (past_given xs q f d i) ds x))))

-- external declarations

sized_external : (f : FilePlace) (x : t.External) {n : ℕ} → Found (a_size n) (external_asked f x) → FileSized f (an_external x) n
sized_external f (t.external_declaration (t.declaration (t.specifiers at xs) ds)) h =
    found_then h (λ x. size_in_file_part declaration_specifiers (sized_specifiers of_the_file f at xs x))
    (λ r x. size_in_file_part (declared_part (built_specify of_the_file f at xs r)) (sized_declarations xs (specify f xs).type (specify f xs).place ds x))
sized_external f (t.function_definition (t.specifiers at xs) d (t.block at' is)) h =
    found_then h (λ x. size_in_file_part function_specifiers (sized_specifiers of_the_file f at xs x))
    (λ r y. found_then y
    (λ x. size_in_file_inner (function_declarator (built_specify of_the_file f at xs r)) (sized_declarator (specify f xs).place.context (specify f xs).type d x))
    (λ p z. found_three z (λ x. nowhere x) (λ x. nowhere x) (λ w. found_then w
    (λ x. absurd (no_size (parameters_asked (in_new_scope (specify f xs).place.context) 0 (own_of d)) x))
    (λ k x. size_in_body (built_specify of_the_file f at xs r) (built_declarator (specify f xs).place.context (specify f xs).type d p)
    (built_parameters (in_new_scope (specify f xs).place.context) 0 (own_of d) (to_same k))
    (sized_row (start_of_body xs (specify f xs).place d (declared (specify f xs).place.context (specify f xs).type d)) is x)))))

sized_externals : (f : FilePlace) (u : t.Tree) {n : ℕ} → Found (a_size n) (externals_asked f u) → FileSized f (some_externals u) n
sized_externals f t.no_externals h = nowhere h
sized_externals f (t.more_externals x xs) h =
    found_then h (λ y. size_in_file_part first_external (sized_external f x y))
    (λ r y. size_in_file_part (other_externals (built_external f x r)) (sized_externals (external f x).place xs y))

pub unit_sized : (u : t.Tree) (n : ℕ) → Contains (sizes (unit_asked u)) n → FileSized (file_start u) (some_externals u) n
unit_sized u n c = sized_externals (file_start u) u (found_one (found (unit_asked u) c))
