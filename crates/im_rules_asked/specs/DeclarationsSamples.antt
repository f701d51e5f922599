-- Trees that keep and that break the rules on declarations (C11 6.7.1 to 6.7.3, 6.7.8); each stands under its source.
use Rattle.std.specs.Prelude.{ℕ, codes, [], ◌∷◌, Some}
use Rattle.im_rules.specs.im_ctree.declared.specifier.SpecifierWord.TheVariants as w
use Rattle.im_rules.specs.im_ctree.Tree as t
use Rattle.im_rules_asked.specs.Samples.{plain, words, number, only_void}

-- `unsigned long x; int main(void) { return 0; }`
abbrev pub kept_1 : t.Tree
kept_1 =
    t.more_externals (t.external_declaration (t.declaration (words 0 (w.Unsigned ∷ w.Long ∷ [])) (t.more_init_declarators (plain 2 (codes "x")) t.no_initializer t.no_init_declarators)))
    (t.more_externals (t.function_definition (words 4 (w.Int ∷ [])) (t.declarator 5 [] (t.name_core (codes "main")) (t.function_suffix 6 (only_void 7) t.no_suffixes)) (t.block 9 (t.statement_item (t.return_statement 10 (t.an_expression (number 11 0))) t.no_items))) t.no_externals)

-- `short long x;`
abbrev pub broken_1 : t.Tree
broken_1 =
    t.more_externals (t.external_declaration (t.declaration (words 0 (w.Short ∷ w.Long ∷ [])) (t.more_init_declarators (plain 2 (codes "x")) t.no_initializer t.no_init_declarators))) t.no_externals

-- `typedef int T; int main(void) { return 0; }`
abbrev pub kept_2 : t.Tree
kept_2 =
    t.more_externals (t.external_declaration (t.declaration (words 0 (w.Typedef ∷ w.Int ∷ [])) (t.more_init_declarators (plain 2 (codes "T")) t.no_initializer t.no_init_declarators)))
    (t.more_externals (t.function_definition (words 4 (w.Int ∷ [])) (t.declarator 5 [] (t.name_core (codes "main")) (t.function_suffix 6 (only_void 7) t.no_suffixes)) (t.block 9 (t.statement_item (t.return_statement 10 (t.an_expression (number 11 0))) t.no_items))) t.no_externals)

-- `int main(void) { static int x; return 0; }`
abbrev pub broken_2 : t.Tree
broken_2 =
    t.more_externals (t.function_definition (words 0 (w.Int ∷ [])) (t.declarator 1 [] (t.name_core (codes "main")) (t.function_suffix 2 (only_void 3) t.no_suffixes)) (t.block 5 (t.declaration_item (t.declaration (words 6 (w.Static ∷ w.Int ∷ [])) (t.more_init_declarators (plain 8 (codes "x")) t.no_initializer t.no_init_declarators)) (t.statement_item (t.return_statement 10 (t.an_expression (number 11 0))) t.no_items)))) t.no_externals

-- `int x; int x; int main(void) { return 0; }`
abbrev pub kept_3 : t.Tree
kept_3 =
    t.more_externals (t.external_declaration (t.declaration (words 0 (w.Int ∷ [])) (t.more_init_declarators (plain 1 (codes "x")) t.no_initializer t.no_init_declarators)))
    (t.more_externals (t.external_declaration (t.declaration (words 3 (w.Int ∷ [])) (t.more_init_declarators (plain 4 (codes "x")) t.no_initializer t.no_init_declarators)))
    (t.more_externals (t.function_definition (words 6 (w.Int ∷ [])) (t.declarator 7 [] (t.name_core (codes "main")) (t.function_suffix 8 (only_void 9) t.no_suffixes)) (t.block 11 (t.statement_item (t.return_statement 12 (t.an_expression (number 13 0))) t.no_items))) t.no_externals))

-- `int x; char x;`
abbrev pub broken_3 : t.Tree
broken_3 =
    t.more_externals (t.external_declaration (t.declaration (words 0 (w.Int ∷ [])) (t.more_init_declarators (plain 1 (codes "x")) t.no_initializer t.no_init_declarators)))
    (t.more_externals (t.external_declaration (t.declaration (words 3 (w.Char ∷ [])) (t.more_init_declarators (plain 4 (codes "x")) t.no_initializer t.no_init_declarators))) t.no_externals)

-- `typedef int T; T x; int main(void) { return 0; }`
abbrev pub kept_4 : t.Tree
kept_4 =
    t.more_externals (t.external_declaration (t.declaration (words 0 (w.Typedef ∷ w.Int ∷ [])) (t.more_init_declarators (plain 2 (codes "T")) t.no_initializer t.no_init_declarators)))
    (t.more_externals (t.external_declaration (t.declaration (t.specifiers 4 (t.more_specifiers (t.typedef_specifier 4 (codes "T")) t.no_specifiers)) (t.more_init_declarators (plain 5 (codes "x")) t.no_initializer t.no_init_declarators)))
    (t.more_externals (t.function_definition (words 7 (w.Int ∷ [])) (t.declarator 8 [] (t.name_core (codes "main")) (t.function_suffix 9 (only_void 10) t.no_suffixes)) (t.block 12 (t.statement_item (t.return_statement 13 (t.an_expression (number 14 0))) t.no_items))) t.no_externals))

-- `typedef int T; int main(void) { int T; return 0; }`
abbrev pub broken_4 : t.Tree
broken_4 =
    t.more_externals (t.external_declaration (t.declaration (words 0 (w.Typedef ∷ w.Int ∷ [])) (t.more_init_declarators (plain 2 (codes "T")) t.no_initializer t.no_init_declarators)))
    (t.more_externals (t.function_definition (words 4 (w.Int ∷ [])) (t.declarator 5 [] (t.name_core (codes "main")) (t.function_suffix 6 (only_void 7) t.no_suffixes)) (t.block 9 (t.declaration_item (t.declaration (words 10 (w.Int ∷ [])) (t.more_init_declarators (plain 11 (codes "T")) t.no_initializer t.no_init_declarators)) (t.statement_item (t.return_statement 13 (t.an_expression (number 14 0))) t.no_items)))) t.no_externals)

-- `struct s { int a; }; struct s x; int main(void) { return 0; }`
abbrev pub kept_5 : t.Tree
kept_5 =
    t.more_externals (t.external_declaration (t.declaration (t.specifiers 0 (t.more_specifiers (t.struct_specifier 0 (Some (codes "s")) (t.more_members (words 3 (w.Int ∷ [])) (t.more_declarators (plain 4 (codes "a")) t.no_declarators) t.no_members)) t.no_specifiers)) t.no_init_declarators))
    (t.more_externals (t.external_declaration (t.declaration (t.specifiers 8 (t.more_specifiers (t.struct_tag 8 (codes "s")) t.no_specifiers)) (t.more_init_declarators (plain 10 (codes "x")) t.no_initializer t.no_init_declarators)))
    (t.more_externals (t.function_definition (words 12 (w.Int ∷ [])) (t.declarator 13 [] (t.name_core (codes "main")) (t.function_suffix 14 (only_void 15) t.no_suffixes)) (t.block 17 (t.statement_item (t.return_statement 18 (t.an_expression (number 19 0))) t.no_items))) t.no_externals))

-- `struct s x;`
abbrev pub broken_5 : t.Tree
broken_5 =
    t.more_externals (t.external_declaration (t.declaration (t.specifiers 0 (t.more_specifiers (t.struct_tag 0 (codes "s")) t.no_specifiers)) (t.more_init_declarators (plain 2 (codes "x")) t.no_initializer t.no_init_declarators))) t.no_externals

-- `int a[2]; int main(void) { return 0; }`
abbrev pub kept_6 : t.Tree
kept_6 =
    t.more_externals (t.external_declaration (t.declaration (words 0 (w.Int ∷ [])) (t.more_init_declarators (t.declarator 1 [] (t.name_core (codes "a")) (t.array_suffix 2 (t.an_expression (number 3 2)) t.no_suffixes)) t.no_initializer t.no_init_declarators)))
    (t.more_externals (t.function_definition (words 6 (w.Int ∷ [])) (t.declarator 7 [] (t.name_core (codes "main")) (t.function_suffix 8 (only_void 9) t.no_suffixes)) (t.block 11 (t.statement_item (t.return_statement 12 (t.an_expression (number 13 0))) t.no_items))) t.no_externals)

-- `int a[0];`
abbrev pub broken_6 : t.Tree
broken_6 =
    t.more_externals (t.external_declaration (t.declaration (words 0 (w.Int ∷ [])) (t.more_init_declarators (t.declarator 1 [] (t.name_core (codes "a")) (t.array_suffix 2 (t.an_expression (number 3 0)) t.no_suffixes)) t.no_initializer t.no_init_declarators))) t.no_externals

-- `struct s { int a; int b; }; int main(void) { return 0; }`
abbrev pub kept_7 : t.Tree
kept_7 =
    t.more_externals (t.external_declaration (t.declaration (t.specifiers 0 (t.more_specifiers (t.struct_specifier 0 (Some (codes "s")) (t.more_members (words 3 (w.Int ∷ [])) (t.more_declarators (plain 4 (codes "a")) t.no_declarators) (t.more_members (words 6 (w.Int ∷ [])) (t.more_declarators (plain 7 (codes "b")) t.no_declarators) t.no_members))) t.no_specifiers)) t.no_init_declarators))
    (t.more_externals (t.function_definition (words 11 (w.Int ∷ [])) (t.declarator 12 [] (t.name_core (codes "main")) (t.function_suffix 13 (only_void 14) t.no_suffixes)) (t.block 16 (t.statement_item (t.return_statement 17 (t.an_expression (number 18 0))) t.no_items))) t.no_externals)

-- `struct s { int a; int a; };`
abbrev pub broken_7 : t.Tree
broken_7 =
    t.more_externals (t.external_declaration (t.declaration (t.specifiers 0 (t.more_specifiers (t.struct_specifier 0 (Some (codes "s")) (t.more_members (words 3 (w.Int ∷ [])) (t.more_declarators (plain 4 (codes "a")) t.no_declarators) (t.more_members (words 6 (w.Int ∷ [])) (t.more_declarators (plain 7 (codes "a")) t.no_declarators) t.no_members))) t.no_specifiers)) t.no_init_declarators)) t.no_externals

-- `enum e { A, B }; enum e x; int main(void) { return 0; }`
abbrev pub kept_8 : t.Tree
kept_8 =
    t.more_externals (t.external_declaration (t.declaration (t.specifiers 0 (t.more_specifiers (t.enum_specifier 0 (Some (codes "e")) (t.more_enumerators 3 (codes "A") t.no_expression (t.more_enumerators 5 (codes "B") t.no_expression t.no_enumerators))) t.no_specifiers)) t.no_init_declarators))
    (t.more_externals (t.external_declaration (t.declaration (t.specifiers 8 (t.more_specifiers (t.enum_tag 8 (codes "e")) t.no_specifiers)) (t.more_init_declarators (plain 10 (codes "x")) t.no_initializer t.no_init_declarators)))
    (t.more_externals (t.function_definition (words 12 (w.Int ∷ [])) (t.declarator 13 [] (t.name_core (codes "main")) (t.function_suffix 14 (only_void 15) t.no_suffixes)) (t.block 17 (t.statement_item (t.return_statement 18 (t.an_expression (number 19 0))) t.no_items))) t.no_externals))

-- `enum e x;`
abbrev pub broken_8 : t.Tree
broken_8 =
    t.more_externals (t.external_declaration (t.declaration (t.specifiers 0 (t.more_specifiers (t.enum_tag 0 (codes "e")) t.no_specifiers)) (t.more_init_declarators (plain 2 (codes "x")) t.no_initializer t.no_init_declarators))) t.no_externals

-- `struct s`, at that token
abbrev pub struct_s : ℕ → t.Specifiers
struct_s at = t.specifiers at (t.more_specifiers (t.struct_tag at (codes "s")) t.no_specifiers)

-- `struct s { int a; };`, then a `main` of these declarations and statements
abbrev pub behind_struct : t.BlockItems → t.Tree
behind_struct is =
    t.more_externals (t.external_declaration (t.declaration (t.specifiers 0 (t.more_specifiers (t.struct_specifier 0 (Some (codes "s")) (t.more_members (words 3 (w.Int ∷ [])) (t.more_declarators (plain 4 (codes "a")) t.no_declarators) t.no_members)) t.no_specifiers)) t.no_init_declarators))
    (t.more_externals (t.function_definition (words 8 (w.Int ∷ [])) (t.declarator 9 [] (t.name_core (codes "main")) (t.function_suffix 10 (only_void 11) t.no_suffixes)) (t.block 13 is)) t.no_externals)

-- `struct s { int a; }; int main(void) { struct s; struct s x; return 0; }`
abbrev pub inner_tag : t.Tree
inner_tag =
    behind_struct (t.declaration_item (t.declaration (struct_s 14) t.no_init_declarators)
    (t.declaration_item (t.declaration (struct_s 17) (t.more_init_declarators (plain 19 (codes "x")) t.no_initializer t.no_init_declarators))
    (t.statement_item (t.return_statement 21 (t.an_expression (number 22 0))) t.no_items)))

-- `struct s { int a; }; int main(void) { { struct s; struct s *p; } struct s x; return 0; }`
abbrev pub outer_tag : t.Tree
outer_tag =
    behind_struct (t.statement_item (t.block_statement 14 (t.block 14 (t.declaration_item (t.declaration (struct_s 15) t.no_init_declarators)
    (t.declaration_item (t.declaration (struct_s 18) (t.more_init_declarators (t.declarator 20 (0 ∷ []) (t.name_core (codes "p")) t.no_suffixes) t.no_initializer t.no_init_declarators)) t.no_items))))
    (t.declaration_item (t.declaration (struct_s 24) (t.more_init_declarators (plain 26 (codes "x")) t.no_initializer t.no_init_declarators))
    (t.statement_item (t.return_statement 28 (t.an_expression (number 29 0))) t.no_items)))

-- `enum s { A }; int main(void) { struct s; return 0; }`
abbrev pub tag_of_enum : t.Tree
tag_of_enum =
    t.more_externals (t.external_declaration (t.declaration (t.specifiers 0 (t.more_specifiers (t.enum_specifier 0 (Some (codes "s")) (t.more_enumerators 3 (codes "A") t.no_expression t.no_enumerators)) t.no_specifiers)) t.no_init_declarators))
    (t.more_externals (t.function_definition (words 6 (w.Int ∷ [])) (t.declarator 7 [] (t.name_core (codes "main")) (t.function_suffix 8 (only_void 9) t.no_suffixes)) (t.block 11 (t.declaration_item (t.declaration (struct_s 12) t.no_init_declarators) (t.statement_item (t.return_statement 15 (t.an_expression (number 16 0))) t.no_items)))) t.no_externals)
