-- What a tree says of its names: whether specifiers have a type, and which typedef names are declared.
use Rattle.std.specs.Prelude.{Bool, true, false, ◌||◌, cond, List, [], ◌∷◌, ◌++◌}
use Rattle.im_word.specs.Words.{Name}
use Rattle.im_ctree.specs.declared.specifier.SpecifierWord.{SpecifierWord}
use Rattle.im_ctree.specs.declared.specifier.SpecifierWord.TheVariants as word
use Rattle.im_ctree.specs.Tree.{Specifiers, specifiers, SpecifierList, no_specifiers, more_specifiers, Specifier, word_specifier, typedef_specifier, struct_tag, enum_tag, struct_specifier, enum_specifier, Declarator, declarator, Core, absent_core, name_core, inner_core, InitDeclarators, no_init_declarators, more_init_declarators, Declaration, declaration, ForInit, for_declaration, for_expression, Statement, block_statement, expression_statement, if_statement, while_statement, do_statement, for_statement, switch_statement, case_statement, default_statement, break_statement, continue_statement, return_statement, MaybeStatement, no_statement, a_statement, Block, block, BlockItems, no_items, declaration_item, statement_item, External, external_declaration, function_definition}

-- a keyword of a type (C11 6.7.2)
abbrev pub is_type_word : SpecifierWord → Bool
is_type_word word.Typedef = false
is_type_word word.Extern = false
is_type_word word.Static = false
is_type_word word.Const = false
is_type_word word.Void = true
is_type_word word.Char = true
is_type_word word.Short = true
is_type_word word.Int = true
is_type_word word.Long = true
is_type_word word.Signed = true
is_type_word word.Unsigned = true

-- whether a type stands in specifiers up to this one, where the Bool says so of those before it
abbrev pub adds_type : Bool → Specifier → Bool
adds_type before (word_specifier p x) = before || is_type_word x
adds_type before (typedef_specifier p n) = true
adds_type before (struct_tag p n) = true
adds_type before (enum_tag p n) = true
adds_type before (struct_specifier p n ms) = true
adds_type before (enum_specifier p n es) = true

abbrev pub has_type_from : Bool → SpecifierList → Bool
has_type_from before no_specifiers = before
has_type_from before (more_specifiers x xs) = has_type_from (adds_type before x) xs

abbrev pub has_type : Specifiers → Bool
has_type (specifiers p xs) = has_type_from false xs

abbrev pub is_typedef : SpecifierWord → Bool
is_typedef word.Typedef = true
is_typedef word.Extern = false
is_typedef word.Static = false
is_typedef word.Const = false
is_typedef word.Void = false
is_typedef word.Char = false
is_typedef word.Short = false
is_typedef word.Int = false
is_typedef word.Long = false
is_typedef word.Signed = false
is_typedef word.Unsigned = false

abbrev pub has_typedef : SpecifierList → Bool
has_typedef no_specifiers = false
has_typedef (more_specifiers (word_specifier p x) xs) = is_typedef x || has_typedef xs
has_typedef (more_specifiers (typedef_specifier p n) xs) = has_typedef xs
has_typedef (more_specifiers (struct_tag p n) xs) = has_typedef xs
has_typedef (more_specifiers (enum_tag p n) xs) = has_typedef xs
has_typedef (more_specifiers (struct_specifier p n ms) xs) = has_typedef xs
has_typedef (more_specifiers (enum_specifier p n es) xs) = has_typedef xs

-- the name that a declarator declares, if it has one
abbrev mutual
  pub declared_name : Declarator → List Name
  declared_name (declarator p ns c ts) = core_name c

  pub core_name : Core → List Name
  core_name absent_core = []
  core_name (name_core n) = n ∷ []
  core_name (inner_core d) = declared_name d

abbrev pub declared_names : InitDeclarators → List Name
declared_names no_init_declarators = []
declared_names (more_init_declarators d i ds) = declared_name d ++ declared_names ds

-- the typedef names behind a declaration
abbrev pub typedef_names : List Name → Declaration → List Name
typedef_names T (declaration (specifiers p xs) ds) = cond (has_typedef xs) (declared_names ds ++ T) T

-- the typedef names behind what a `for` begins with
abbrev pub names_behind_init : List Name → ForInit → List Name
names_behind_init T (for_declaration d) = typedef_names T d
names_behind_init T (for_expression e) = T

-- the typedef names behind a statement, which may hold declarations
abbrev mutual
  pub names_behind : List Name → Statement → List Name
  names_behind T (block_statement p b) = names_behind_block T b
  names_behind T (expression_statement p e) = T
  names_behind T (if_statement p e s t) = names_behind_else (names_behind T s) t
  names_behind T (while_statement p e s) = names_behind T s
  names_behind T (do_statement p s e) = names_behind T s
  names_behind T (for_statement p i c n s) = names_behind (names_behind_init T i) s
  names_behind T (switch_statement p e b) = names_behind_block T b
  names_behind T (case_statement p e s) = names_behind T s
  names_behind T (default_statement p s) = names_behind T s
  names_behind T (break_statement p) = T
  names_behind T (continue_statement p) = T
  names_behind T (return_statement p e) = T

  pub names_behind_else : List Name → MaybeStatement → List Name
  names_behind_else T no_statement = T
  names_behind_else T (a_statement s) = names_behind T s

  pub names_behind_block : List Name → Block → List Name
  names_behind_block T (block p is) = names_behind_items T is

  pub names_behind_items : List Name → BlockItems → List Name
  names_behind_items T no_items = T
  names_behind_items T (declaration_item d is) = names_behind_items (typedef_names T d) is
  names_behind_items T (statement_item s is) = names_behind_items (names_behind T s) is

-- the typedef names behind an external declaration
abbrev pub names_behind_external : List Name → External → List Name
names_behind_external T (external_declaration d) = typedef_names T d
names_behind_external T (function_definition s d b) = names_behind_block T b
