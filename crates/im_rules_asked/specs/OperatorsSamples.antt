-- Trees that keep and that break the rules on binary operators, casts, sizes and jumps (C11 6.5.4 to 6.5.17, 6.8); each stands under its source.
use Rattle.std.specs.Prelude.{codes, [], ◌∷◌}
use Rattle.im_rules.specs.im_ctree.declared.specifier.SpecifierWord.TheVariants as w
use Rattle.im_rules.specs.im_ctree.declared.operator.BinaryOp.TheVariants as b
use Rattle.im_rules.specs.im_ctree.declared.operator.AssignOp.TheVariants as a
use Rattle.im_rules.specs.im_ctree.Tree as t
use Rattle.im_rules_asked.specs.Samples.{plain, words, number, only_void}

-- `int main(void) { return 6 % 4; }`
abbrev pub kept_26 : t.Tree
kept_26 =
    t.more_externals (t.function_definition (words 0 (w.Int ∷ [])) (t.declarator 1 [] (t.name_core (codes "main")) (t.function_suffix 2 (only_void 3) t.no_suffixes)) (t.block 5 (t.statement_item (t.return_statement 6 (t.an_expression (t.binary 7 b.Remainder (number 7 6) (number 9 4)))) t.no_items))) t.no_externals

-- `int *p; int main(void) { return p % 4; }`
abbrev pub broken_26 : t.Tree
broken_26 =
    t.more_externals (t.external_declaration (t.declaration (words 0 (w.Int ∷ [])) (t.more_init_declarators (t.declarator 1 (0 ∷ []) (t.name_core (codes "p")) t.no_suffixes) t.no_initializer t.no_init_declarators)))
    (t.more_externals (t.function_definition (words 4 (w.Int ∷ [])) (t.declarator 5 [] (t.name_core (codes "main")) (t.function_suffix 6 (only_void 7) t.no_suffixes)) (t.block 9 (t.statement_item (t.return_statement 10 (t.an_expression (t.binary 11 b.Remainder (t.identifier 11 (codes "p")) (number 13 4)))) t.no_items))) t.no_externals)

-- `int *p; int main(void) { p = p + 1; return 0; }`
abbrev pub kept_27 : t.Tree
kept_27 =
    t.more_externals (t.external_declaration (t.declaration (words 0 (w.Int ∷ [])) (t.more_init_declarators (t.declarator 1 (0 ∷ []) (t.name_core (codes "p")) t.no_suffixes) t.no_initializer t.no_init_declarators)))
    (t.more_externals (t.function_definition (words 4 (w.Int ∷ [])) (t.declarator 5 [] (t.name_core (codes "main")) (t.function_suffix 6 (only_void 7) t.no_suffixes)) (t.block 9 (t.statement_item (t.expression_statement 10 (t.an_expression (t.assign 10 a.Plain (t.identifier 10 (codes "p")) (t.binary 12 b.Add (t.identifier 12 (codes "p")) (number 14 1))))) (t.statement_item (t.return_statement 16 (t.an_expression (number 17 0))) t.no_items)))) t.no_externals)

-- `int *p; int main(void) { return p + p; }`
abbrev pub broken_27 : t.Tree
broken_27 =
    t.more_externals (t.external_declaration (t.declaration (words 0 (w.Int ∷ [])) (t.more_init_declarators (t.declarator 1 (0 ∷ []) (t.name_core (codes "p")) t.no_suffixes) t.no_initializer t.no_init_declarators)))
    (t.more_externals (t.function_definition (words 4 (w.Int ∷ [])) (t.declarator 5 [] (t.name_core (codes "main")) (t.function_suffix 6 (only_void 7) t.no_suffixes)) (t.block 9 (t.statement_item (t.return_statement 10 (t.an_expression (t.binary 11 b.Add (t.identifier 11 (codes "p")) (t.identifier 13 (codes "p"))))) t.no_items))) t.no_externals)

-- `int *p; int main(void) { return p < p; }`
abbrev pub kept_28 : t.Tree
kept_28 =
    t.more_externals (t.external_declaration (t.declaration (words 0 (w.Int ∷ [])) (t.more_init_declarators (t.declarator 1 (0 ∷ []) (t.name_core (codes "p")) t.no_suffixes) t.no_initializer t.no_init_declarators)))
    (t.more_externals (t.function_definition (words 4 (w.Int ∷ [])) (t.declarator 5 [] (t.name_core (codes "main")) (t.function_suffix 6 (only_void 7) t.no_suffixes)) (t.block 9 (t.statement_item (t.return_statement 10 (t.an_expression (t.binary 11 b.Less (t.identifier 11 (codes "p")) (t.identifier 13 (codes "p"))))) t.no_items))) t.no_externals)

-- `int *p; int main(void) { return p < 1; }`
abbrev pub broken_28 : t.Tree
broken_28 =
    t.more_externals (t.external_declaration (t.declaration (words 0 (w.Int ∷ [])) (t.more_init_declarators (t.declarator 1 (0 ∷ []) (t.name_core (codes "p")) t.no_suffixes) t.no_initializer t.no_init_declarators)))
    (t.more_externals (t.function_definition (words 4 (w.Int ∷ [])) (t.declarator 5 [] (t.name_core (codes "main")) (t.function_suffix 6 (only_void 7) t.no_suffixes)) (t.block 9 (t.statement_item (t.return_statement 10 (t.an_expression (t.binary 11 b.Less (t.identifier 11 (codes "p")) (number 13 1)))) t.no_items))) t.no_externals)

-- `int *p; int main(void) { return p == 0; }`
abbrev pub kept_29 : t.Tree
kept_29 =
    t.more_externals (t.external_declaration (t.declaration (words 0 (w.Int ∷ [])) (t.more_init_declarators (t.declarator 1 (0 ∷ []) (t.name_core (codes "p")) t.no_suffixes) t.no_initializer t.no_init_declarators)))
    (t.more_externals (t.function_definition (words 4 (w.Int ∷ [])) (t.declarator 5 [] (t.name_core (codes "main")) (t.function_suffix 6 (only_void 7) t.no_suffixes)) (t.block 9 (t.statement_item (t.return_statement 10 (t.an_expression (t.binary 11 b.Equal (t.identifier 11 (codes "p")) (number 13 0)))) t.no_items))) t.no_externals)

-- `int *p; int main(void) { return p == 1; }`
abbrev pub broken_29 : t.Tree
broken_29 =
    t.more_externals (t.external_declaration (t.declaration (words 0 (w.Int ∷ [])) (t.more_init_declarators (t.declarator 1 (0 ∷ []) (t.name_core (codes "p")) t.no_suffixes) t.no_initializer t.no_init_declarators)))
    (t.more_externals (t.function_definition (words 4 (w.Int ∷ [])) (t.declarator 5 [] (t.name_core (codes "main")) (t.function_suffix 6 (only_void 7) t.no_suffixes)) (t.block 9 (t.statement_item (t.return_statement 10 (t.an_expression (t.binary 11 b.Equal (t.identifier 11 (codes "p")) (number 13 1)))) t.no_items))) t.no_externals)

-- `int x; int main(void) { x += 1; return x; }`
abbrev pub kept_30 : t.Tree
kept_30 =
    t.more_externals (t.external_declaration (t.declaration (words 0 (w.Int ∷ [])) (t.more_init_declarators (plain 1 (codes "x")) t.no_initializer t.no_init_declarators)))
    (t.more_externals (t.function_definition (words 3 (w.Int ∷ [])) (t.declarator 4 [] (t.name_core (codes "main")) (t.function_suffix 5 (only_void 6) t.no_suffixes)) (t.block 8 (t.statement_item (t.expression_statement 9 (t.an_expression (t.assign 9 a.Add (t.identifier 9 (codes "x")) (number 11 1)))) (t.statement_item (t.return_statement 13 (t.an_expression (t.identifier 14 (codes "x")))) t.no_items)))) t.no_externals)

-- `int *p; int main(void) { p *= 2; return 0; }`
abbrev pub broken_30 : t.Tree
broken_30 =
    t.more_externals (t.external_declaration (t.declaration (words 0 (w.Int ∷ [])) (t.more_init_declarators (t.declarator 1 (0 ∷ []) (t.name_core (codes "p")) t.no_suffixes) t.no_initializer t.no_init_declarators)))
    (t.more_externals (t.function_definition (words 4 (w.Int ∷ [])) (t.declarator 5 [] (t.name_core (codes "main")) (t.function_suffix 6 (only_void 7) t.no_suffixes)) (t.block 9 (t.statement_item (t.expression_statement 10 (t.an_expression (t.assign 10 a.Multiply (t.identifier 10 (codes "p")) (number 12 2)))) (t.statement_item (t.return_statement 14 (t.an_expression (number 15 0))) t.no_items)))) t.no_externals)

-- `int *p; int main(void) { p = 1 ? p : 0; return 0; }`
abbrev pub kept_31 : t.Tree
kept_31 =
    t.more_externals (t.external_declaration (t.declaration (words 0 (w.Int ∷ [])) (t.more_init_declarators (t.declarator 1 (0 ∷ []) (t.name_core (codes "p")) t.no_suffixes) t.no_initializer t.no_init_declarators)))
    (t.more_externals (t.function_definition (words 4 (w.Int ∷ [])) (t.declarator 5 [] (t.name_core (codes "main")) (t.function_suffix 6 (only_void 7) t.no_suffixes)) (t.block 9 (t.statement_item (t.expression_statement 10 (t.an_expression (t.assign 10 a.Plain (t.identifier 10 (codes "p")) (t.conditional 12 (number 12 1) (t.identifier 14 (codes "p")) (number 16 0))))) (t.statement_item (t.return_statement 18 (t.an_expression (number 19 0))) t.no_items)))) t.no_externals)

-- `int *p; int main(void) { 1 ? p : 1; return 0; }`
abbrev pub broken_31 : t.Tree
broken_31 =
    t.more_externals (t.external_declaration (t.declaration (words 0 (w.Int ∷ [])) (t.more_init_declarators (t.declarator 1 (0 ∷ []) (t.name_core (codes "p")) t.no_suffixes) t.no_initializer t.no_init_declarators)))
    (t.more_externals (t.function_definition (words 4 (w.Int ∷ [])) (t.declarator 5 [] (t.name_core (codes "main")) (t.function_suffix 6 (only_void 7) t.no_suffixes)) (t.block 9 (t.statement_item (t.expression_statement 10 (t.an_expression (t.conditional 10 (number 10 1) (t.identifier 12 (codes "p")) (number 14 1)))) (t.statement_item (t.return_statement 16 (t.an_expression (number 17 0))) t.no_items)))) t.no_externals)

-- `int main(void) { return (char) 300; }`
abbrev pub kept_32 : t.Tree
kept_32 =
    t.more_externals (t.function_definition (words 0 (w.Int ∷ [])) (t.declarator 1 [] (t.name_core (codes "main")) (t.function_suffix 2 (only_void 3) t.no_suffixes)) (t.block 5 (t.statement_item (t.return_statement 6 (t.an_expression (t.cast 7 (t.type_name (words 8 (w.Char ∷ [])) t.no_declarator) (number 10 300)))) t.no_items))) t.no_externals

-- `int *p; int main(void) { return (int) p; }`
abbrev pub broken_32 : t.Tree
broken_32 =
    t.more_externals (t.external_declaration (t.declaration (words 0 (w.Int ∷ [])) (t.more_init_declarators (t.declarator 1 (0 ∷ []) (t.name_core (codes "p")) t.no_suffixes) t.no_initializer t.no_init_declarators)))
    (t.more_externals (t.function_definition (words 4 (w.Int ∷ [])) (t.declarator 5 [] (t.name_core (codes "main")) (t.function_suffix 6 (only_void 7) t.no_suffixes)) (t.block 9 (t.statement_item (t.return_statement 10 (t.an_expression (t.cast 11 (t.type_name (words 12 (w.Int ∷ [])) t.no_declarator) (t.identifier 14 (codes "p"))))) t.no_items))) t.no_externals)

-- `int main(void) { return sizeof(int); }`
abbrev pub kept_33 : t.Tree
kept_33 =
    t.more_externals (t.function_definition (words 0 (w.Int ∷ [])) (t.declarator 1 [] (t.name_core (codes "main")) (t.function_suffix 2 (only_void 3) t.no_suffixes)) (t.block 5 (t.statement_item (t.return_statement 6 (t.an_expression (t.size_of_type 7 (t.type_name (words 9 (w.Int ∷ [])) t.no_declarator)))) t.no_items))) t.no_externals

-- `int main(void) { return sizeof(void); }`
abbrev pub broken_33 : t.Tree
broken_33 =
    t.more_externals (t.function_definition (words 0 (w.Int ∷ [])) (t.declarator 1 [] (t.name_core (codes "main")) (t.function_suffix 2 (only_void 3) t.no_suffixes)) (t.block 5 (t.statement_item (t.return_statement 6 (t.an_expression (t.size_of_type 7 (t.type_name (words 9 (w.Void ∷ [])) t.no_declarator)))) t.no_items))) t.no_externals

-- `int main(void) { switch (1) { case 1: case 2: break; default: ; } return 0; }`
abbrev pub kept_34 : t.Tree
kept_34 =
    t.more_externals (t.function_definition (words 0 (w.Int ∷ [])) (t.declarator 1 [] (t.name_core (codes "main")) (t.function_suffix 2 (only_void 3) t.no_suffixes)) (t.block 5 (t.statement_item (t.switch_statement 6 (number 8 1) (t.block 10 (t.statement_item (t.case_statement 11 (number 12 1) (t.case_statement 14 (number 15 2) (t.break_statement 17))) (t.statement_item (t.default_statement 19 (t.expression_statement 21 t.no_expression)) t.no_items)))) (t.statement_item (t.return_statement 23 (t.an_expression (number 24 0))) t.no_items)))) t.no_externals

-- `int main(void) { break; return 0; }`
abbrev pub broken_34 : t.Tree
broken_34 =
    t.more_externals (t.function_definition (words 0 (w.Int ∷ [])) (t.declarator 1 [] (t.name_core (codes "main")) (t.function_suffix 2 (only_void 3) t.no_suffixes)) (t.block 5 (t.statement_item (t.break_statement 6) (t.statement_item (t.return_statement 8 (t.an_expression (number 9 0))) t.no_items)))) t.no_externals
