-- What depends on no numbers: types among specifiers, typedef names, the `if` that takes an `else`.
use Rattle.std.proofs.Common.{◌≡◌, Bool, false, ◌||◌, cond, List, ◌++◌, sym, ap, refl, ◌∙◌}
use Rattle.im_word.specs.Words.{Name}
use Rattle.im_ctree.specs.Tree as t
use Rattle.im_ctree.specs.Typedefs.{adds_type, has_type_from, has_type, is_typedef, has_typedef, declared_name, core_name, declared_names, typedef_names, names_behind_init, names_behind, names_behind_else, names_behind_block, names_behind_items, names_behind_external}
use Rattle.im_ctree.specs.Units.{takes_else}
use Rattle.im_print_relation.specs.Unnumbered as bare

adds_bare : (a : Bool) (x : t.Specifier) → adds_type a (bare.specifier x) ≡ adds_type a x
adds_bare a (t.word_specifier p x) = refl
adds_bare a (t.typedef_specifier p n) = refl
adds_bare a (t.struct_tag p n) = refl
adds_bare a (t.enum_tag p n) = refl
adds_bare a (t.struct_specifier p n ms) = refl
adds_bare a (t.enum_specifier p n es) = refl

pub adds_again : (a : Bool) (x y : t.Specifier) → bare.specifier y ≡ bare.specifier x → adds_type a y ≡ adds_type a x
adds_again a x y e = sym (adds_bare a y) ∙ ap (λ z. adds_type a z) e ∙ adds_bare a x

has_from_bare : (a : Bool) (xs : t.SpecifierList) → has_type_from a (bare.specifier_list xs) ≡ has_type_from a xs
has_from_bare a t.no_specifiers = refl
has_from_bare a (t.more_specifiers x xs) = has_from_bare (adds_type a (bare.specifier x)) xs ∙ ap (λ z. has_type_from z xs) (adds_bare a x)

has_bare : (s : t.Specifiers) → has_type (bare.specifiers s) ≡ has_type s
has_bare (t.specifiers p xs) = has_from_bare false xs

pub has_again : (s r : t.Specifiers) → bare.specifiers r ≡ bare.specifiers s → has_type r ≡ has_type s
has_again s r e = sym (has_bare r) ∙ ap has_type e ∙ has_bare s

typedef_bare : (xs : t.SpecifierList) → has_typedef (bare.specifier_list xs) ≡ has_typedef xs
typedef_bare t.no_specifiers = refl
typedef_bare (t.more_specifiers (t.word_specifier p x) xs) = ap (λ z. is_typedef x || z) (typedef_bare xs)
typedef_bare (t.more_specifiers (t.typedef_specifier p n) xs) = typedef_bare xs
typedef_bare (t.more_specifiers (t.struct_tag p n) xs) = typedef_bare xs
typedef_bare (t.more_specifiers (t.enum_tag p n) xs) = typedef_bare xs
typedef_bare (t.more_specifiers (t.struct_specifier p n ms) xs) = typedef_bare xs
typedef_bare (t.more_specifiers (t.enum_specifier p n es) xs) = typedef_bare xs

mutual
  name_bare : (d : t.Declarator) → declared_name (bare.declarator d) ≡ declared_name d
  name_bare (t.declarator p ns c ts) = core_bare c

  core_bare : (c : t.Core) → core_name (bare.core c) ≡ core_name c
  core_bare t.absent_core = refl
  core_bare (t.name_core n) = refl
  core_bare (t.inner_core d) = name_bare d

names_bare : (ds : t.InitDeclarators) → declared_names (bare.init_declarators ds) ≡ declared_names ds
names_bare t.no_init_declarators = refl
names_bare (t.more_init_declarators d i ds) = ap (λ z. z ++ declared_names (bare.init_declarators ds)) (name_bare d) ∙ ap (λ z. declared_name d ++ z) (names_bare ds)

declaration_bare : (T : List Name) (d : t.Declaration) → typedef_names T (bare.declaration d) ≡ typedef_names T d
declaration_bare T (t.declaration (t.specifiers p xs) ds) =
    ap (λ z. cond z (declared_names (bare.init_declarators ds) ++ T) T) (typedef_bare xs) ∙ ap (λ z. cond (has_typedef xs) (z ++ T) T) (names_bare ds)

pub declaration_again : (T : List Name) (d r : t.Declaration) → bare.declaration r ≡ bare.declaration d → typedef_names T r ≡ typedef_names T d
declaration_again T d r e = sym (declaration_bare T r) ∙ ap (λ z. typedef_names T z) e ∙ declaration_bare T d

init_bare : (T : List Name) (i : t.ForInit) → names_behind_init T (bare.for_init i) ≡ names_behind_init T i
init_bare T (t.for_declaration d) = declaration_bare T d
init_bare T (t.for_expression e) = refl

pub init_again : (T : List Name) (i r : t.ForInit) → bare.for_init r ≡ bare.for_init i → names_behind_init T r ≡ names_behind_init T i
init_again T i r e = sym (init_bare T r) ∙ ap (λ z. names_behind_init T z) e ∙ init_bare T i

mutual
  statement_bare : (T : List Name) (s : t.Statement) → names_behind T (bare.statement s) ≡ names_behind T s
  statement_bare T (t.block_statement p b) = block_bare T b
  statement_bare T (t.expression_statement p e) = refl
  statement_bare T (t.if_statement p e s o) = else_bare (names_behind T (bare.statement s)) o ∙ ap (λ z. names_behind_else z o) (statement_bare T s)
  statement_bare T (t.while_statement p e s) = statement_bare T s
  statement_bare T (t.do_statement p s e) = statement_bare T s
  statement_bare T (t.for_statement p i c n s) = statement_bare (names_behind_init T (bare.for_init i)) s ∙ ap (λ z. names_behind z s) (init_bare T i)
  statement_bare T (t.switch_statement p e b) = block_bare T b
  statement_bare T (t.case_statement p e s) = statement_bare T s
  statement_bare T (t.default_statement p s) = statement_bare T s
  statement_bare T (t.break_statement p) = refl
  statement_bare T (t.continue_statement p) = refl
  statement_bare T (t.return_statement p e) = refl

  else_bare : (T : List Name) (o : t.MaybeStatement) → names_behind_else T (bare.maybe_statement o) ≡ names_behind_else T o
  else_bare T t.no_statement = refl
  else_bare T (t.a_statement s) = statement_bare T s

  block_bare : (T : List Name) (b : t.Block) → names_behind_block T (bare.block b) ≡ names_behind_block T b
  block_bare T (t.block p is) = items_bare T is

  items_bare : (T : List Name) (is : t.BlockItems) → names_behind_items T (bare.items is) ≡ names_behind_items T is
  items_bare T t.no_items = refl
  items_bare T (t.declaration_item d is) = items_bare (typedef_names T (bare.declaration d)) is ∙ ap (λ z. names_behind_items z is) (declaration_bare T d)
  items_bare T (t.statement_item s is) = items_bare (names_behind T (bare.statement s)) is ∙ ap (λ z. names_behind_items z is) (statement_bare T s)

pub statement_again : (T : List Name) (s r : t.Statement) → bare.statement r ≡ bare.statement s → names_behind T r ≡ names_behind T s
statement_again T s r e = sym (statement_bare T r) ∙ ap (λ z. names_behind T z) e ∙ statement_bare T s

external_bare : (T : List Name) (x : t.External) → names_behind_external T (bare.external x) ≡ names_behind_external T x
external_bare T (t.external_declaration d) = declaration_bare T d
external_bare T (t.function_definition s d b) = block_bare T b

pub external_again : (T : List Name) (x r : t.External) → bare.external r ≡ bare.external x → names_behind_external T r ≡ names_behind_external T x
external_again T x r e = sym (external_bare T r) ∙ ap (λ z. names_behind_external T z) e ∙ external_bare T x

takes_bare : (s : t.Statement) → takes_else (bare.statement s) ≡ takes_else s
takes_bare (t.block_statement p b) = refl
takes_bare (t.expression_statement p e) = refl
takes_bare (t.if_statement p e s t.no_statement) = refl
takes_bare (t.if_statement p e s (t.a_statement o)) = takes_bare o
takes_bare (t.while_statement p e s) = takes_bare s
takes_bare (t.do_statement p s e) = refl
takes_bare (t.for_statement p i c n s) = takes_bare s
takes_bare (t.switch_statement p e b) = refl
takes_bare (t.case_statement p e s) = takes_bare s
takes_bare (t.default_statement p s) = takes_bare s
takes_bare (t.break_statement p) = refl
takes_bare (t.continue_statement p) = refl
takes_bare (t.return_statement p e) = refl

pub takes_again : (s r : t.Statement) → bare.statement r ≡ bare.statement s → takes_else r ≡ takes_else s
takes_again s r e = sym (takes_bare r) ∙ ap takes_else e ∙ takes_bare s
