-- Trees that are within the limits, and that are over one; each stands under its source.
use Rattle.std.specs.Prelude.{codes, ℕ, zero, suc, ◌+◌, ◌*◌, [], ◌∷◌, Some}
use Rattle.im_rules.specs.im_ctree.declared.specifier.SpecifierWord.TheVariants as w
use Rattle.im_rules.specs.im_ctree.Tree as t
use Rattle.im_rules_asked.specs.Samples.{plain, words, number, only_void}

-- `int main(void) { ITEMS }`, from that token on
abbrev pub main_with : ℕ → t.BlockItems → t.Tree
main_with at is =
    t.more_externals (t.function_definition (words at (w.Int ∷ [])) (t.declarator (at + 1) [] (t.name_core (codes "main")) (t.function_suffix (at + 2) (only_void (at + 3)) t.no_suffixes)) (t.block (at + 5) is)) t.no_externals

-- `return E;`
abbrev pub returns : ℕ → t.Expression → t.BlockItems
returns at e = t.statement_item (t.return_statement at (t.an_expression e)) t.no_items

-- `int main(void) { return 0; }`, from that token on
abbrev pub only_main : ℕ → t.Tree
only_main at = main_with at (returns (at + 6) (number (at + 7) 0))

-- so many parameters of type int, without names
abbrev pub ints : ℕ → ℕ → t.Parameters
ints at zero = t.no_parameters
ints at (suc n) = t.more_parameters (words at (w.Int ∷ [])) t.no_declarator (ints (at + 2) n)

-- `int f(int, int, .. int); int main(void) { return 0; }`
abbrev pub with_parameters : ℕ → t.Tree
with_parameters n =
    t.more_externals (t.external_declaration (t.declaration (words 0 (w.Int ∷ [])) (t.more_init_declarators (t.declarator 1 [] (t.name_core (codes "f")) (t.function_suffix 2 (ints 3 n) t.no_suffixes)) t.no_initializer t.no_init_declarators)))
    (only_main (2 * n + 4))

-- `char a SUFFIXES;` or, with an initialiser, `char a SUFFIXES = ..;`
abbrev pub chars : ℕ → t.Suffixes → t.MaybeInitializer → t.Declaration
chars at ss i = t.declaration (words at (w.Char ∷ [])) (t.more_init_declarators (t.declarator (at + 1) [] (t.name_core (codes "a")) ss) i t.no_init_declarators)

-- `[N] SUFFIXES`
abbrev pub array_of : ℕ → ℕ → t.Suffixes → t.Suffixes
array_of at n ss = t.array_suffix at (t.an_expression (number (at + 1) n)) ss

-- `char a[N];`, from that token on
abbrev pub an_array : ℕ → ℕ → t.External
an_array at n = t.external_declaration (chars at (array_of (at + 2) n t.no_suffixes) t.no_initializer)

-- `char a[N]; int main(void) { return 0; }`
abbrev pub with_array : ℕ → t.Tree
with_array n = t.more_externals (an_array 0 n) (only_main 6)

-- `char a[M][N]; int main(void) { return 0; }`
abbrev pub with_rows : ℕ → ℕ → t.Tree
with_rows m n =
    t.more_externals (t.external_declaration (chars 0 (array_of 2 m (array_of 5 n t.no_suffixes)) t.no_initializer)) (only_main 9)

-- `char a[] = "ab"; int main(void) { return 0; }`
abbrev pub with_string : t.Tree
with_string =
    t.more_externals (t.external_declaration (chars 0 (t.array_suffix 2 t.no_expression t.no_suffixes) (t.an_initializer (t.value_initializer (t.string_literal 5 (codes "ab"))))))
    (only_main 7)

-- `int main(void) { char a[N]; return 0; }`
abbrev pub with_local : ℕ → t.Tree
with_local n = main_with 0 (t.declaration_item (chars 6 (array_of 8 n t.no_suffixes) t.no_initializer) (returns 12 (number 13 0)))

-- `int main(void) { return sizeof "ab"; }`
abbrev pub measuring_string : t.Tree
measuring_string = main_with 0 (returns 6 (t.size_of_expression 7 (t.string_literal 8 (codes "ab"))))

-- `struct s { char a; int b; }; int main(void) { return 0; }`
abbrev pub with_struct : t.Tree
with_struct =
    t.more_externals (t.external_declaration (t.declaration (t.specifiers 0 (t.more_specifiers (t.struct_specifier 0 (Some (codes "s")) (t.more_members (words 3 (w.Char ∷ [])) (t.more_declarators (plain 4 (codes "a")) t.no_declarators) (t.more_members (words 6 (w.Int ∷ [])) (t.more_declarators (plain 7 (codes "b")) t.no_declarators) t.no_members))) t.no_specifiers)) t.no_init_declarators))
    (only_main 11)

-- `void *p;`, from that token on: it breaks rule 10
abbrev pub void_pointer : ℕ → t.External
void_pointer at =
    t.external_declaration (t.declaration (words at (w.Void ∷ [])) (t.more_init_declarators (t.declarator (at + 1) (at ∷ []) (t.name_core (codes "p")) t.no_suffixes) t.no_initializer t.no_init_declarators))

-- `char a[1048577]; void *p;`
abbrev pub large_then_broken : t.Tree
large_then_broken = t.more_externals (an_array 0 1048577) (t.more_externals (void_pointer 6) t.no_externals)

-- `void *p; char a[1048577];`
abbrev pub broken_then_large : t.Tree
broken_then_large = t.more_externals (void_pointer 0) (t.more_externals (an_array 4 1048577) t.no_externals)
