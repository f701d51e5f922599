-- Words that stand for what is peculiar to the grammar, and the tree that they spell.
use Rattle.std.specs.Prelude.{ℕ, List, [], ◌∷◌, codes}
use Rattle.im_tok.specs.declared.number.Number.{Number}
use Rattle.im_tok.specs.declared.number.NumberType.TheVariants as number_type
use Rattle.im_tok.specs.declared.keyword.Keyword.TheVariants.{Int, Typedef, Const, Void, Return, If, Else, Do, While, Sizeof}
use Rattle.im_tok.specs.declared.punctuator.Punctuator.TheVariants.{OpenParen, CloseParen, OpenBrace, CloseBrace, Question, Colon, Semicolon, Assign}
use Rattle.im_word.specs.Words.{Name, Word, name, keyword, number, mark}
use Rattle.im_ctree.specs.declared.specifier.SpecifierWord.TheVariants as word
use Rattle.im_ctree.specs.Tree.{Expression, identifier, integer_constant, call, size_of_expression, size_of_type, cast, no_expressions, more_expressions, an_expression, Specifiers, specifiers, no_specifiers, more_specifiers, word_specifier, typedef_specifier, declarator, absent_core, name_core, no_suffixes, function_suffix, no_declarator, MaybeDeclarator, a_declarator, no_parameters, more_parameters, type_name, Statement, expression_statement, if_statement, do_statement, return_statement, no_statement, a_statement, Block, block, no_items, statement_item, declaration_item, Declaration, declaration, no_initializer, more_init_declarators, no_init_declarators, function_definition, Tree, no_externals, more_externals}

-- an integer constant of type int
abbrev pub int_constant : ℕ → Number
int_constant value = record { value = value; number_type = number_type.Int }

-- int main ( void ) { putchar ( 72 ) ; return 7 ; }
abbrev pub program_words : List Word
program_words = keyword Int ∷ name (codes "main") ∷ mark OpenParen ∷ keyword Void ∷ mark CloseParen ∷ mark OpenBrace ∷ name (codes "putchar") ∷ mark OpenParen ∷ number (int_constant 72) ∷ mark CloseParen ∷ mark Semicolon ∷ keyword Return ∷ number (int_constant 7) ∷ mark Semicolon ∷ mark CloseBrace ∷ []

abbrev pub program_tree : Tree
program_tree =
    let int = specifiers 0 (more_specifiers (word_specifier 0 word.Int) no_specifiers) in
    let void = specifiers 3 (more_specifiers (word_specifier 3 word.Void) no_specifiers) in
    let main = declarator 1 [] (name_core (codes "main")) (function_suffix 2 (more_parameters void no_declarator no_parameters) no_suffixes) in
    let put = expression_statement 6 (an_expression (call 6 (identifier 6 (codes "putchar")) (more_expressions (integer_constant 8 (int_constant 72)) no_expressions))) in
    let give = return_statement 11 (an_expression (integer_constant 12 (int_constant 7))) in
    more_externals (function_definition int main (block 5 (statement_item put (statement_item give no_items)))) no_externals

-- the statement of one name, which begins at word p
abbrev pub name_statement : ℕ → Name → Statement
name_statement p x = expression_statement p (an_expression (identifier p x))

-- if ( a ) if ( b ) c ; else d ;
abbrev pub else_words : Name → Name → Name → Name → List Word
else_words a b c d = keyword If ∷ mark OpenParen ∷ name a ∷ mark CloseParen ∷ keyword If ∷ mark OpenParen ∷ name b ∷ mark CloseParen ∷ name c ∷ mark Semicolon ∷ keyword Else ∷ name d ∷ mark Semicolon ∷ []

-- the `else` is the inner `if`'s
abbrev pub else_tree : Name → Name → Name → Name → Statement
else_tree a b c d = if_statement 0 (identifier 2 a) (if_statement 4 (identifier 6 b) (name_statement 8 c) (a_statement (name_statement 11 d))) no_statement

-- do s ; while ( e ) ;
abbrev pub do_words : Name → Name → List Word
do_words s e = keyword Do ∷ name s ∷ mark Semicolon ∷ keyword While ∷ mark OpenParen ∷ name e ∷ mark CloseParen ∷ mark Semicolon ∷ []

abbrev pub do_tree : Name → Name → Statement
do_tree s e = do_statement 0 (name_statement 1 s) (identifier 5 e)

-- a typedef name that is all of the specifiers, as word p
abbrev pub typedef_specifiers : ℕ → Name → Specifiers
typedef_specifiers p t = specifiers p (more_specifiers (typedef_specifier p t) no_specifiers)

-- sizeof ( x )
abbrev pub sizeof_words : Name → List Word
sizeof_words x = keyword Sizeof ∷ mark OpenParen ∷ name x ∷ mark CloseParen ∷ []

abbrev pub sizeof_type_tree : Name → Expression
sizeof_type_tree x = size_of_type 0 (type_name (typedef_specifiers 2 x) no_declarator)

abbrev pub sizeof_expression_tree : Name → Expression
sizeof_expression_tree x = size_of_expression 0 (identifier 2 x)

-- ( f ) ( x )
abbrev pub cast_words : Name → Name → List Word
cast_words f x = mark OpenParen ∷ name f ∷ mark CloseParen ∷ mark OpenParen ∷ name x ∷ mark CloseParen ∷ []

abbrev pub cast_tree : Name → Name → Expression
cast_tree f x = cast 0 (type_name (typedef_specifiers 1 f) no_declarator) (identifier 4 x)

abbrev pub call_tree : Name → Name → Expression
call_tree f x = call 0 (identifier 1 f) (more_expressions (identifier 4 x) no_expressions)

-- int ( t )
abbrev pub parameter_words : Name → List Word
parameter_words t = keyword Int ∷ mark OpenParen ∷ name t ∷ mark CloseParen ∷ []

abbrev pub int_specifiers : Specifiers
int_specifiers = specifiers 0 (more_specifiers (word_specifier 0 word.Int) no_specifiers)

-- a function of a t
abbrev pub parameter_tree : Name → MaybeDeclarator
parameter_tree t = a_declarator (declarator 1 [] absent_core (function_suffix 1 (more_parameters (typedef_specifiers 2 t) no_declarator no_parameters) no_suffixes))

-- a = b ? c : d = e
abbrev pub assignment_words : Name → Name → Name → Name → Name → List Word
assignment_words a b c d e = name a ∷ mark Assign ∷ name b ∷ mark Question ∷ name c ∷ mark Colon ∷ name d ∷ mark Assign ∷ name e ∷ []

-- the declaration of one name without an initialiser
abbrev pub name_declaration : Specifiers → ℕ → Name → Declaration
name_declaration s p x = declaration s (more_init_declarators (declarator p [] (name_core x) no_suffixes) no_initializer no_init_declarators)

-- { typedef int t ; t x ; }
abbrev pub scope_words : Name → Name → List Word
scope_words t x = mark OpenBrace ∷ keyword Typedef ∷ keyword Int ∷ name t ∷ mark Semicolon ∷ name t ∷ name x ∷ mark Semicolon ∷ mark CloseBrace ∷ []

abbrev pub scope_tree : Name → Name → Block
scope_tree t x =
    let typedef_int = specifiers 1 (more_specifiers (word_specifier 1 word.Typedef) (more_specifiers (word_specifier 2 word.Int) no_specifiers)) in
    block 0 (declaration_item (name_declaration typedef_int 3 t) (declaration_item (name_declaration (typedef_specifiers 5 t) 6 x) no_items))

-- const t ;
abbrev pub nothing_words : Name → List Word
nothing_words t = keyword Const ∷ name t ∷ mark Semicolon ∷ []

abbrev pub nothing_tree : Name → Declaration
nothing_tree t = declaration (specifiers 0 (more_specifiers (word_specifier 0 word.Const) (more_specifiers (typedef_specifier 1 t) no_specifiers))) no_init_declarators

-- const ( t ) ;
abbrev pub grouped_words : Name → List Word
grouped_words t = keyword Const ∷ mark OpenParen ∷ name t ∷ mark CloseParen ∷ mark Semicolon ∷ []

abbrev pub grouped_tree : Name → Declaration
grouped_tree t = name_declaration (specifiers 0 (more_specifiers (word_specifier 0 word.Const) no_specifiers)) 1 t
