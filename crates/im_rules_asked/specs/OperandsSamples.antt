-- Trees that keep and that break the rules on names, calls, lvalues and operands of unary operators (C11 6.5.1 to 6.5.3, 6.5.16); each stands under its source.
use Rattle.std.specs.Prelude.{codes, [], ◌∷◌, Some}
use Rattle.im_rules.specs.im_ctree.declared.specifier.SpecifierWord.TheVariants as w
use Rattle.im_rules.specs.im_ctree.declared.operator.UnaryOp.TheVariants as o
use Rattle.im_rules.specs.im_ctree.declared.operator.AssignOp.TheVariants as a
use Rattle.im_rules.specs.im_ctree.Tree as t
use Rattle.im_rules_asked.specs.Samples.{plain, words, number, only_void}

-- `int main(void) { int *p; p = 0; return 0; }`
abbrev pub kept_17 : t.Tree
kept_17 =
    t.more_externals (t.function_definition (words 0 (w.Int ∷ [])) (t.declarator 1 [] (t.name_core (codes "main")) (t.function_suffix 2 (only_void 3) t.no_suffixes)) (t.block 5 (t.declaration_item (t.declaration (words 6 (w.Int ∷ [])) (t.more_init_declarators (t.declarator 7 (0 ∷ []) (t.name_core (codes "p")) t.no_suffixes) t.no_initializer t.no_init_declarators)) (t.statement_item (t.expression_statement 10 (t.an_expression (t.assign 10 a.Plain (t.identifier 10 (codes "p")) (number 12 0)))) (t.statement_item (t.return_statement 14 (t.an_expression (number 15 0))) t.no_items))))) t.no_externals

-- `int main(void) { int *p; p = 1; return 0; }`
abbrev pub broken_17 : t.Tree
broken_17 =
    t.more_externals (t.function_definition (words 0 (w.Int ∷ [])) (t.declarator 1 [] (t.name_core (codes "main")) (t.function_suffix 2 (only_void 3) t.no_suffixes)) (t.block 5 (t.declaration_item (t.declaration (words 6 (w.Int ∷ [])) (t.more_init_declarators (t.declarator 7 (0 ∷ []) (t.name_core (codes "p")) t.no_suffixes) t.no_initializer t.no_init_declarators)) (t.statement_item (t.expression_statement 10 (t.an_expression (t.assign 10 a.Plain (t.identifier 10 (codes "p")) (number 12 1)))) (t.statement_item (t.return_statement 14 (t.an_expression (number 15 0))) t.no_items))))) t.no_externals

-- `int x; int main(void) { return x; }`
abbrev pub kept_18 : t.Tree
kept_18 =
    t.more_externals (t.external_declaration (t.declaration (words 0 (w.Int ∷ [])) (t.more_init_declarators (plain 1 (codes "x")) t.no_initializer t.no_init_declarators)))
    (t.more_externals (t.function_definition (words 3 (w.Int ∷ [])) (t.declarator 4 [] (t.name_core (codes "main")) (t.function_suffix 5 (only_void 6) t.no_suffixes)) (t.block 8 (t.statement_item (t.return_statement 9 (t.an_expression (t.identifier 10 (codes "x")))) t.no_items))) t.no_externals)

-- `int main(void) { return x; }`
abbrev pub broken_18 : t.Tree
broken_18 =
    t.more_externals (t.function_definition (words 0 (w.Int ∷ [])) (t.declarator 1 [] (t.name_core (codes "main")) (t.function_suffix 2 (only_void 3) t.no_suffixes)) (t.block 5 (t.statement_item (t.return_statement 6 (t.an_expression (t.identifier 7 (codes "x")))) t.no_items))) t.no_externals

-- `int f(int a) { return a; } int main(void) { return f(1); }`
abbrev pub kept_19 : t.Tree
kept_19 =
    t.more_externals (t.function_definition (words 0 (w.Int ∷ [])) (t.declarator 1 [] (t.name_core (codes "f")) (t.function_suffix 2 (t.more_parameters (words 3 (w.Int ∷ [])) (t.a_declarator (plain 4 (codes "a"))) t.no_parameters) t.no_suffixes)) (t.block 6 (t.statement_item (t.return_statement 7 (t.an_expression (t.identifier 8 (codes "a")))) t.no_items)))
    (t.more_externals (t.function_definition (words 11 (w.Int ∷ [])) (t.declarator 12 [] (t.name_core (codes "main")) (t.function_suffix 13 (only_void 14) t.no_suffixes)) (t.block 16 (t.statement_item (t.return_statement 17 (t.an_expression (t.call 18 (t.identifier 18 (codes "f")) (t.more_expressions (number 20 1) t.no_expressions)))) t.no_items))) t.no_externals)

-- `int f(int a) { return a; } int main(void) { return f(); }`
abbrev pub broken_19 : t.Tree
broken_19 =
    t.more_externals (t.function_definition (words 0 (w.Int ∷ [])) (t.declarator 1 [] (t.name_core (codes "f")) (t.function_suffix 2 (t.more_parameters (words 3 (w.Int ∷ [])) (t.a_declarator (plain 4 (codes "a"))) t.no_parameters) t.no_suffixes)) (t.block 6 (t.statement_item (t.return_statement 7 (t.an_expression (t.identifier 8 (codes "a")))) t.no_items)))
    (t.more_externals (t.function_definition (words 11 (w.Int ∷ [])) (t.declarator 12 [] (t.name_core (codes "main")) (t.function_suffix 13 (only_void 14) t.no_suffixes)) (t.block 16 (t.statement_item (t.return_statement 17 (t.an_expression (t.call 18 (t.identifier 18 (codes "f")) t.no_expressions))) t.no_items))) t.no_externals)

-- `int a[2]; int main(void) { return a[1]; }`
abbrev pub kept_20 : t.Tree
kept_20 =
    t.more_externals (t.external_declaration (t.declaration (words 0 (w.Int ∷ [])) (t.more_init_declarators (t.declarator 1 [] (t.name_core (codes "a")) (t.array_suffix 2 (t.an_expression (number 3 2)) t.no_suffixes)) t.no_initializer t.no_init_declarators)))
    (t.more_externals (t.function_definition (words 6 (w.Int ∷ [])) (t.declarator 7 [] (t.name_core (codes "main")) (t.function_suffix 8 (only_void 9) t.no_suffixes)) (t.block 11 (t.statement_item (t.return_statement 12 (t.an_expression (t.index 13 (t.identifier 13 (codes "a")) (number 15 1)))) t.no_items))) t.no_externals)

-- `int a; int main(void) { return a[1]; }`
abbrev pub broken_20 : t.Tree
broken_20 =
    t.more_externals (t.external_declaration (t.declaration (words 0 (w.Int ∷ [])) (t.more_init_declarators (plain 1 (codes "a")) t.no_initializer t.no_init_declarators)))
    (t.more_externals (t.function_definition (words 3 (w.Int ∷ [])) (t.declarator 4 [] (t.name_core (codes "main")) (t.function_suffix 5 (only_void 6) t.no_suffixes)) (t.block 8 (t.statement_item (t.return_statement 9 (t.an_expression (t.index 10 (t.identifier 10 (codes "a")) (number 12 1)))) t.no_items))) t.no_externals)

-- `struct s { int a; } x; int main(void) { return x.a; }`
abbrev pub kept_21 : t.Tree
kept_21 =
    t.more_externals (t.external_declaration (t.declaration (t.specifiers 0 (t.more_specifiers (t.struct_specifier 0 (Some (codes "s")) (t.more_members (words 3 (w.Int ∷ [])) (t.more_declarators (plain 4 (codes "a")) t.no_declarators) t.no_members)) t.no_specifiers)) (t.more_init_declarators (plain 7 (codes "x")) t.no_initializer t.no_init_declarators)))
    (t.more_externals (t.function_definition (words 9 (w.Int ∷ [])) (t.declarator 10 [] (t.name_core (codes "main")) (t.function_suffix 11 (only_void 12) t.no_suffixes)) (t.block 14 (t.statement_item (t.return_statement 15 (t.an_expression (t.member_of 16 (t.identifier 16 (codes "x")) (codes "a")))) t.no_items))) t.no_externals)

-- `struct s { int a; } x; int main(void) { return x.b; }`
abbrev pub broken_21 : t.Tree
broken_21 =
    t.more_externals (t.external_declaration (t.declaration (t.specifiers 0 (t.more_specifiers (t.struct_specifier 0 (Some (codes "s")) (t.more_members (words 3 (w.Int ∷ [])) (t.more_declarators (plain 4 (codes "a")) t.no_declarators) t.no_members)) t.no_specifiers)) (t.more_init_declarators (plain 7 (codes "x")) t.no_initializer t.no_init_declarators)))
    (t.more_externals (t.function_definition (words 9 (w.Int ∷ [])) (t.declarator 10 [] (t.name_core (codes "main")) (t.function_suffix 11 (only_void 12) t.no_suffixes)) (t.block 14 (t.statement_item (t.return_statement 15 (t.an_expression (t.member_of 16 (t.identifier 16 (codes "x")) (codes "b")))) t.no_items))) t.no_externals)

-- `int x; int main(void) { x = 2; return x; }`
abbrev pub kept_22 : t.Tree
kept_22 =
    t.more_externals (t.external_declaration (t.declaration (words 0 (w.Int ∷ [])) (t.more_init_declarators (plain 1 (codes "x")) t.no_initializer t.no_init_declarators)))
    (t.more_externals (t.function_definition (words 3 (w.Int ∷ [])) (t.declarator 4 [] (t.name_core (codes "main")) (t.function_suffix 5 (only_void 6) t.no_suffixes)) (t.block 8 (t.statement_item (t.expression_statement 9 (t.an_expression (t.assign 9 a.Plain (t.identifier 9 (codes "x")) (number 11 2)))) (t.statement_item (t.return_statement 13 (t.an_expression (t.identifier 14 (codes "x")))) t.no_items)))) t.no_externals)

-- `int main(void) { 1 = 2; return 0; }`
abbrev pub broken_22 : t.Tree
broken_22 =
    t.more_externals (t.function_definition (words 0 (w.Int ∷ [])) (t.declarator 1 [] (t.name_core (codes "main")) (t.function_suffix 2 (only_void 3) t.no_suffixes)) (t.block 5 (t.statement_item (t.expression_statement 6 (t.an_expression (t.assign 6 a.Plain (number 6 1) (number 8 2)))) (t.statement_item (t.return_statement 10 (t.an_expression (number 11 0))) t.no_items)))) t.no_externals

-- `int x; const int *p; int main(void) { p = &x; return 0; }`
abbrev pub kept_23 : t.Tree
kept_23 =
    t.more_externals (t.external_declaration (t.declaration (words 0 (w.Int ∷ [])) (t.more_init_declarators (plain 1 (codes "x")) t.no_initializer t.no_init_declarators)))
    (t.more_externals (t.external_declaration (t.declaration (words 3 (w.Const ∷ w.Int ∷ [])) (t.more_init_declarators (t.declarator 5 (0 ∷ []) (t.name_core (codes "p")) t.no_suffixes) t.no_initializer t.no_init_declarators)))
    (t.more_externals (t.function_definition (words 8 (w.Int ∷ [])) (t.declarator 9 [] (t.name_core (codes "main")) (t.function_suffix 10 (only_void 11) t.no_suffixes)) (t.block 13 (t.statement_item (t.expression_statement 14 (t.an_expression (t.assign 14 a.Plain (t.identifier 14 (codes "p")) (t.unary 16 o.AddressOf (t.identifier 17 (codes "x")))))) (t.statement_item (t.return_statement 19 (t.an_expression (number 20 0))) t.no_items)))) t.no_externals))

-- `const int x; int main(void) { x = 1; return 0; }`
abbrev pub broken_23 : t.Tree
broken_23 =
    t.more_externals (t.external_declaration (t.declaration (words 0 (w.Const ∷ w.Int ∷ [])) (t.more_init_declarators (plain 2 (codes "x")) t.no_initializer t.no_init_declarators)))
    (t.more_externals (t.function_definition (words 4 (w.Int ∷ [])) (t.declarator 5 [] (t.name_core (codes "main")) (t.function_suffix 6 (only_void 7) t.no_suffixes)) (t.block 9 (t.statement_item (t.expression_statement 10 (t.an_expression (t.assign 10 a.Plain (t.identifier 10 (codes "x")) (number 12 1)))) (t.statement_item (t.return_statement 14 (t.an_expression (number 15 0))) t.no_items)))) t.no_externals)

-- `int *p; int main(void) { return *p; }`
abbrev pub kept_24 : t.Tree
kept_24 =
    t.more_externals (t.external_declaration (t.declaration (words 0 (w.Int ∷ [])) (t.more_init_declarators (t.declarator 1 (0 ∷ []) (t.name_core (codes "p")) t.no_suffixes) t.no_initializer t.no_init_declarators)))
    (t.more_externals (t.function_definition (words 4 (w.Int ∷ [])) (t.declarator 5 [] (t.name_core (codes "main")) (t.function_suffix 6 (only_void 7) t.no_suffixes)) (t.block 9 (t.statement_item (t.return_statement 10 (t.an_expression (t.unary 11 o.Dereference (t.identifier 12 (codes "p"))))) t.no_items))) t.no_externals)

-- `int p; int main(void) { return *p; }`
abbrev pub broken_24 : t.Tree
broken_24 =
    t.more_externals (t.external_declaration (t.declaration (words 0 (w.Int ∷ [])) (t.more_init_declarators (plain 1 (codes "p")) t.no_initializer t.no_init_declarators)))
    (t.more_externals (t.function_definition (words 3 (w.Int ∷ [])) (t.declarator 4 [] (t.name_core (codes "main")) (t.function_suffix 5 (only_void 6) t.no_suffixes)) (t.block 8 (t.statement_item (t.return_statement 9 (t.an_expression (t.unary 10 o.Dereference (t.identifier 11 (codes "p"))))) t.no_items))) t.no_externals)

-- `int *p; int main(void) { return !p; }`
abbrev pub kept_25 : t.Tree
kept_25 =
    t.more_externals (t.external_declaration (t.declaration (words 0 (w.Int ∷ [])) (t.more_init_declarators (t.declarator 1 (0 ∷ []) (t.name_core (codes "p")) t.no_suffixes) t.no_initializer t.no_init_declarators)))
    (t.more_externals (t.function_definition (words 4 (w.Int ∷ [])) (t.declarator 5 [] (t.name_core (codes "main")) (t.function_suffix 6 (only_void 7) t.no_suffixes)) (t.block 9 (t.statement_item (t.return_statement 10 (t.an_expression (t.unary 11 o.Not (t.identifier 12 (codes "p"))))) t.no_items))) t.no_externals)

-- `int *p; int main(void) { return -p; }`
abbrev pub broken_25 : t.Tree
broken_25 =
    t.more_externals (t.external_declaration (t.declaration (words 0 (w.Int ∷ [])) (t.more_init_declarators (t.declarator 1 (0 ∷ []) (t.name_core (codes "p")) t.no_suffixes) t.no_initializer t.no_init_declarators)))
    (t.more_externals (t.function_definition (words 4 (w.Int ∷ [])) (t.declarator 5 [] (t.name_core (codes "main")) (t.function_suffix 6 (only_void 7) t.no_suffixes)) (t.block 9 (t.statement_item (t.return_statement 10 (t.an_expression (t.unary 11 o.Minus (t.identifier 12 (codes "p"))))) t.no_items))) t.no_externals)
