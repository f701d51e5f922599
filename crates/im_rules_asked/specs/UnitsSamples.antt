-- Trees that keep and that break the rules on declarators, definitions and initialisers (C11 6.7.6, 6.7.9, 6.9); each stands under its source.
use Rattle.std.specs.Prelude.{codes, [], ◌∷◌, Some}
use Rattle.im_rules.specs.im_ctree.declared.specifier.SpecifierWord.TheVariants as w
use Rattle.im_rules.specs.im_ctree.declared.operator.UnaryOp.TheVariants as o
use Rattle.im_rules.specs.im_ctree.declared.operator.BinaryOp.TheVariants as b
use Rattle.im_rules.specs.im_ctree.Tree as t
use Rattle.im_rules_asked.specs.Samples.{plain, words, number, only_void}

-- `int f(int a); int main(void) { return 0; }`
abbrev pub kept_9 : t.Tree
kept_9 =
    t.more_externals (t.external_declaration (t.declaration (words 0 (w.Int ∷ [])) (t.more_init_declarators (t.declarator 1 [] (t.name_core (codes "f")) (t.function_suffix 2 (t.more_parameters (words 3 (w.Int ∷ [])) (t.a_declarator (plain 4 (codes "a"))) t.no_parameters) t.no_suffixes)) t.no_initializer t.no_init_declarators)))
    (t.more_externals (t.function_definition (words 7 (w.Int ∷ [])) (t.declarator 8 [] (t.name_core (codes "main")) (t.function_suffix 9 (only_void 10) t.no_suffixes)) (t.block 12 (t.statement_item (t.return_statement 13 (t.an_expression (number 14 0))) t.no_items))) t.no_externals)

-- `struct s { int a; }; int f(struct s x);`
abbrev pub broken_9 : t.Tree
broken_9 =
    t.more_externals (t.external_declaration (t.declaration (t.specifiers 0 (t.more_specifiers (t.struct_specifier 0 (Some (codes "s")) (t.more_members (words 3 (w.Int ∷ [])) (t.more_declarators (plain 4 (codes "a")) t.no_declarators) t.no_members)) t.no_specifiers)) t.no_init_declarators))
    (t.more_externals (t.external_declaration (t.declaration (words 8 (w.Int ∷ [])) (t.more_init_declarators (t.declarator 9 [] (t.name_core (codes "f")) (t.function_suffix 10 (t.more_parameters (t.specifiers 11 (t.more_specifiers (t.struct_tag 11 (codes "s")) t.no_specifiers)) (t.a_declarator (plain 13 (codes "x"))) t.no_parameters) t.no_suffixes)) t.no_initializer t.no_init_declarators))) t.no_externals)

-- `int *p; int main(void) { return 0; }`
abbrev pub kept_10 : t.Tree
kept_10 =
    t.more_externals (t.external_declaration (t.declaration (words 0 (w.Int ∷ [])) (t.more_init_declarators (t.declarator 1 (0 ∷ []) (t.name_core (codes "p")) t.no_suffixes) t.no_initializer t.no_init_declarators)))
    (t.more_externals (t.function_definition (words 4 (w.Int ∷ [])) (t.declarator 5 [] (t.name_core (codes "main")) (t.function_suffix 6 (only_void 7) t.no_suffixes)) (t.block 9 (t.statement_item (t.return_statement 10 (t.an_expression (number 11 0))) t.no_items))) t.no_externals)

-- `void *p;`
abbrev pub broken_10 : t.Tree
broken_10 =
    t.more_externals (t.external_declaration (t.declaration (words 0 (w.Void ∷ [])) (t.more_init_declarators (t.declarator 1 (0 ∷ []) (t.name_core (codes "p")) t.no_suffixes) t.no_initializer t.no_init_declarators))) t.no_externals

-- `int f(int a) { return a; } int main(void) { return 0; }`
abbrev pub kept_11 : t.Tree
kept_11 =
    t.more_externals (t.function_definition (words 0 (w.Int ∷ [])) (t.declarator 1 [] (t.name_core (codes "f")) (t.function_suffix 2 (t.more_parameters (words 3 (w.Int ∷ [])) (t.a_declarator (plain 4 (codes "a"))) t.no_parameters) t.no_suffixes)) (t.block 6 (t.statement_item (t.return_statement 7 (t.an_expression (t.identifier 8 (codes "a")))) t.no_items)))
    (t.more_externals (t.function_definition (words 11 (w.Int ∷ [])) (t.declarator 12 [] (t.name_core (codes "main")) (t.function_suffix 13 (only_void 14) t.no_suffixes)) (t.block 16 (t.statement_item (t.return_statement 17 (t.an_expression (number 18 0))) t.no_items))) t.no_externals)

-- `int f(int) { return 0; }`
abbrev pub broken_11 : t.Tree
broken_11 =
    t.more_externals (t.function_definition (words 0 (w.Int ∷ [])) (t.declarator 1 [] (t.name_core (codes "f")) (t.function_suffix 2 (t.more_parameters (words 3 (w.Int ∷ [])) t.no_declarator t.no_parameters) t.no_suffixes)) (t.block 5 (t.statement_item (t.return_statement 6 (t.an_expression (number 7 0))) t.no_items))) t.no_externals

-- `int f(void) { return 1; } int main(void) { return f(); }`
abbrev pub kept_12 : t.Tree
kept_12 =
    t.more_externals (t.function_definition (words 0 (w.Int ∷ [])) (t.declarator 1 [] (t.name_core (codes "f")) (t.function_suffix 2 (only_void 3) t.no_suffixes)) (t.block 5 (t.statement_item (t.return_statement 6 (t.an_expression (number 7 1))) t.no_items)))
    (t.more_externals (t.function_definition (words 10 (w.Int ∷ [])) (t.declarator 11 [] (t.name_core (codes "main")) (t.function_suffix 12 (only_void 13) t.no_suffixes)) (t.block 15 (t.statement_item (t.return_statement 16 (t.an_expression (t.call 17 (t.identifier 17 (codes "f")) t.no_expressions))) t.no_items))) t.no_externals)

-- `int f(void); int main(void) { return f(); }`
abbrev pub broken_12 : t.Tree
broken_12 =
    t.more_externals (t.external_declaration (t.declaration (words 0 (w.Int ∷ [])) (t.more_init_declarators (t.declarator 1 [] (t.name_core (codes "f")) (t.function_suffix 2 (only_void 3) t.no_suffixes)) t.no_initializer t.no_init_declarators)))
    (t.more_externals (t.function_definition (words 6 (w.Int ∷ [])) (t.declarator 7 [] (t.name_core (codes "main")) (t.function_suffix 8 (only_void 9) t.no_suffixes)) (t.block 11 (t.statement_item (t.return_statement 12 (t.an_expression (t.call 13 (t.identifier 13 (codes "f")) t.no_expressions))) t.no_items))) t.no_externals)

-- `int main(void) { return 0; }`
abbrev pub kept_13 : t.Tree
kept_13 =
    t.more_externals (t.function_definition (words 0 (w.Int ∷ [])) (t.declarator 1 [] (t.name_core (codes "main")) (t.function_suffix 2 (only_void 3) t.no_suffixes)) (t.block 5 (t.statement_item (t.return_statement 6 (t.an_expression (number 7 0))) t.no_items))) t.no_externals

-- `int x;`
abbrev pub broken_13 : t.Tree
broken_13 =
    t.more_externals (t.external_declaration (t.declaration (words 0 (w.Int ∷ [])) (t.more_init_declarators (plain 1 (codes "x")) t.no_initializer t.no_init_declarators))) t.no_externals

-- `int x; int *p = &x; int main(void) { return 0; }`
abbrev pub kept_14 : t.Tree
kept_14 =
    t.more_externals (t.external_declaration (t.declaration (words 0 (w.Int ∷ [])) (t.more_init_declarators (plain 1 (codes "x")) t.no_initializer t.no_init_declarators)))
    (t.more_externals (t.external_declaration (t.declaration (words 3 (w.Int ∷ [])) (t.more_init_declarators (t.declarator 4 (0 ∷ []) (t.name_core (codes "p")) t.no_suffixes) (t.an_initializer (t.value_initializer (t.unary 7 o.AddressOf (t.identifier 8 (codes "x"))))) t.no_init_declarators)))
    (t.more_externals (t.function_definition (words 10 (w.Int ∷ [])) (t.declarator 11 [] (t.name_core (codes "main")) (t.function_suffix 12 (only_void 13) t.no_suffixes)) (t.block 15 (t.statement_item (t.return_statement 16 (t.an_expression (number 17 0))) t.no_items))) t.no_externals))

-- `int x; int y = x;`
abbrev pub broken_14 : t.Tree
broken_14 =
    t.more_externals (t.external_declaration (t.declaration (words 0 (w.Int ∷ [])) (t.more_init_declarators (plain 1 (codes "x")) t.no_initializer t.no_init_declarators)))
    (t.more_externals (t.external_declaration (t.declaration (words 3 (w.Int ∷ [])) (t.more_init_declarators (plain 4 (codes "y")) (t.an_initializer (t.value_initializer (t.identifier 6 (codes "x")))) t.no_init_declarators))) t.no_externals)

-- `int a[1 + 1]; int main(void) { return 0; }`
abbrev pub kept_15 : t.Tree
kept_15 =
    t.more_externals (t.external_declaration (t.declaration (words 0 (w.Int ∷ [])) (t.more_init_declarators (t.declarator 1 [] (t.name_core (codes "a")) (t.array_suffix 2 (t.an_expression (t.binary 3 b.Add (number 3 1) (number 5 1))) t.no_suffixes)) t.no_initializer t.no_init_declarators)))
    (t.more_externals (t.function_definition (words 8 (w.Int ∷ [])) (t.declarator 9 [] (t.name_core (codes "main")) (t.function_suffix 10 (only_void 11) t.no_suffixes)) (t.block 13 (t.statement_item (t.return_statement 14 (t.an_expression (number 15 0))) t.no_items))) t.no_externals)

-- `int x; int a[x];`
abbrev pub broken_15 : t.Tree
broken_15 =
    t.more_externals (t.external_declaration (t.declaration (words 0 (w.Int ∷ [])) (t.more_init_declarators (plain 1 (codes "x")) t.no_initializer t.no_init_declarators)))
    (t.more_externals (t.external_declaration (t.declaration (words 3 (w.Int ∷ [])) (t.more_init_declarators (t.declarator 4 [] (t.name_core (codes "a")) (t.array_suffix 5 (t.an_expression (t.identifier 6 (codes "x"))) t.no_suffixes)) t.no_initializer t.no_init_declarators))) t.no_externals)

-- `int a[2] = {1, 2}; int main(void) { return 0; }`
abbrev pub kept_16 : t.Tree
kept_16 =
    t.more_externals (t.external_declaration (t.declaration (words 0 (w.Int ∷ [])) (t.more_init_declarators (t.declarator 1 [] (t.name_core (codes "a")) (t.array_suffix 2 (t.an_expression (number 3 2)) t.no_suffixes)) (t.an_initializer (t.braced_initializer 6 (t.more_initializers (t.value_initializer (number 7 1)) (t.more_initializers (t.value_initializer (number 9 2)) t.no_initializers)))) t.no_init_declarators)))
    (t.more_externals (t.function_definition (words 12 (w.Int ∷ [])) (t.declarator 13 [] (t.name_core (codes "main")) (t.function_suffix 14 (only_void 15) t.no_suffixes)) (t.block 17 (t.statement_item (t.return_statement 18 (t.an_expression (number 19 0))) t.no_items))) t.no_externals)

-- `int a[1] = {1, 2};`
abbrev pub broken_16 : t.Tree
broken_16 =
    t.more_externals (t.external_declaration (t.declaration (words 0 (w.Int ∷ [])) (t.more_init_declarators (t.declarator 1 [] (t.name_core (codes "a")) (t.array_suffix 2 (t.an_expression (number 3 1)) t.no_suffixes)) (t.an_initializer (t.braced_initializer 6 (t.more_initializers (t.value_initializer (number 7 1)) (t.more_initializers (t.value_initializer (number 9 2)) t.no_initializers)))) t.no_init_declarators))) t.no_externals
