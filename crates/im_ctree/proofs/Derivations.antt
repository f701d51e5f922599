-- Derivations of the samples.
use Rattle.std.proofs.Common.{◌≡◌, ℕ, zero, suc, ◌<◌, Bool, true, false, List, [], ◌∷◌, subst, ap, refl, arith, codes}
use Rattle.std.proofs.lemmas.List.{append-nil}
use Rattle.std.specs.List.{Contains}
use Rattle.im_tok.specs.declared.number.Number.{Number}
use Rattle.im_tok.specs.declared.punctuator.Punctuator.{Punctuator}
use Rattle.im_tok.specs.declared.punctuator.Punctuator.TheVariants.{OpenParen, CloseParen, Semicolon}
use Rattle.im_word.specs.Words.{Name, Word, name, number, mark}
use Rattle.im_ctree.specs.Tree as tree
use Rattle.im_ctree.specs.Operators as operators
use Rattle.im_ctree.specs.Grammar as grammar
use Rattle.im_ctree.specs.Units as units
use Rattle.im_ctree.specs.Samples.{int_constant, program_words, program_tree, name_statement, else_words, else_tree, do_words, do_tree, typedef_specifiers, sizeof_words, sizeof_type_tree, sizeof_expression_tree, cast_words, cast_tree, call_tree, parameter_words, int_specifiers, parameter_tree, scope_words, scope_tree, nothing_words, nothing_tree, grouped_words, grouped_tree}

-- a level without operators
looser : {T : List Name} (n : ℕ) {p : ℕ} {t : tree.Expression} {w : List Word} → n < 10 → grammar.IsBinary T (suc n) p t w → grammar.IsBinary T n p t w
looser {T = T} n {p = p} {t = t} {w = w} under d = subst (grammar.IsBinary T n p t) (append-nil w) (grammar.level under d grammar.no_operator)

pub binary_of : {T : List Name} {p : ℕ} {t : tree.Expression} {w : List Word} → grammar.IsCast T p t w → grammar.IsBinary T 0 p t w
binary_of d =
    looser 0 (omega arith) (looser 1 (omega arith) (looser 2 (omega arith) (looser 3 (omega arith) (looser 4 (omega arith) (looser 5 (omega arith) (looser 6 (omega arith) (looser 7 (omega arith) (looser 8 (omega arith) (looser 9 (omega arith) (grammar.casts d))))))))))

pub assign_of : {T : List Name} {p : ℕ} {t : tree.Expression} {w : List Word} → grammar.IsCast T p t w → grammar.IsAssignment T p t w
assign_of d = grammar.chooses (grammar.operates (binary_of d))

pub expression_of : {T : List Name} {p : ℕ} {t : tree.Expression} {w : List Word} → grammar.IsCast T p t w → grammar.IsExpression T p t w
expression_of {T = T} {p = p} {t = t} {w = w} d = subst (grammar.IsExpression T p t) (append-nil w) (grammar.assigns (assign_of d) grammar.no_comma)

-- a primary expression with nothing behind it
pub cast_of : {T : List Name} {p : ℕ} {t : tree.Expression} {w : List Word} → grammar.IsPrimary T p t w → grammar.IsCast T p t w
cast_of {T = T} {p = p} {t = t} {w = w} d = grammar.uncast (grammar.postfix (subst (grammar.IsPostfix T p t) (append-nil w) (grammar.primary d grammar.no_postfix)))

pub name_of : {T : List Name} {p : ℕ} {x : Name} → (Contains T x → ⊥) → grammar.IsCast T p (tree.identifier p x) (name x ∷ [])
name_of {x = x} free = cast_of (grammar.an_identifier x free)

number_of : {T : List Name} {p : ℕ} (n : Number) → grammar.IsCast T p (tree.integer_constant p n) (number n ∷ [])
number_of n = cast_of (grammar.a_number n)

-- the statement of one name
statement_of : {T : List Name} {p : ℕ} {x : Name} → (Contains T x → ⊥) → units.IsStatement T p (name_statement p x) (name x ∷ mark Semicolon ∷ [])
statement_of free = units.computes (units.something (expression_of (name_of free)))

-- one argument in parentheses, behind what it is for
one_argument : {T : List Name} {s p : ℕ} {a b : tree.Expression} {x : Word} → grammar.IsCast T (suc p) b (x ∷ []) → grammar.PostfixTail T s p a (tree.call s a (tree.more_expressions b tree.no_expressions)) (mark OpenParen ∷ x ∷ mark CloseParen ∷ [])
one_argument d = grammar.calls (grammar.first_argument (assign_of d) grammar.last_argument) grammar.no_postfix

pub else_derived : (T : List Name) (a b c d : Name) → (Contains T a → ⊥) → (Contains T b → ⊥) → (Contains T c → ⊥) → (Contains T d → ⊥) → units.IsStatement T 0 (else_tree a b c d) (else_words a b c d)
else_derived T a b c d fa fb fc fd =
    units.ifs (expression_of (name_of fa)) (units.if_elses (expression_of (name_of fb)) (statement_of fc) refl (statement_of fd))

pub do_derived : (T : List Name) (s e : Name) → (Contains T s → ⊥) → (Contains T e → ⊥) → units.IsStatement T 0 (do_tree s e) (do_words s e)
do_derived T s e fs fe = units.dos (statement_of fs) (expression_of (name_of fe))

-- a typedef name as the type of a cast, of `sizeof`, or of a parameter
typedef_of : {T : List Name} {p : ℕ} {x : Name} → Contains T x → grammar.IsSpecifiers T p (typedef_specifiers p x) (name x ∷ [])
typedef_of {x = x} is = grammar.first_specifier (grammar.its_typedef_name x is) grammar.last_specifier

type_of : {T : List Name} {p : ℕ} {x : Name} → Contains T x → grammar.IsTypeName T p (tree.type_name (typedef_specifiers p x) tree.no_declarator) (name x ∷ [])
type_of is = grammar.a_type_name (typedef_of is) grammar.no_abstract

pub sizeof_type_derived : (T : List Name) (x : Name) → Contains T x → grammar.IsExpression T 0 (sizeof_type_tree x) (sizeof_words x)
sizeof_type_derived T x is = expression_of (grammar.uncast (grammar.type_sized (type_of is)))

-- a name in parentheses
grouped_name : {T : List Name} {p : ℕ} {x : Name} → (Contains T x → ⊥) → grammar.IsPrimary T p (tree.identifier (suc p) x) (mark OpenParen ∷ name x ∷ mark CloseParen ∷ [])
grouped_name free = grammar.grouped (expression_of (name_of free))

pub sizeof_expression_derived : (T : List Name) (x : Name) → (Contains T x → ⊥) → grammar.IsExpression T 0 (sizeof_expression_tree x) (sizeof_words x)
sizeof_expression_derived T x free =
    expression_of (grammar.uncast (grammar.sized (grammar.postfix (grammar.primary (grouped_name free) grammar.no_postfix))))

pub cast_derived : (T : List Name) (f x : Name) → Contains T f → (Contains T x → ⊥) → grammar.IsExpression T 0 (cast_tree f x) (cast_words f x)
cast_derived T f x is free = expression_of (grammar.a_cast (type_of is) (cast_of (grouped_name free)))

pub call_derived : (T : List Name) (f x : Name) → (Contains T f → ⊥) → (Contains T x → ⊥) → grammar.IsExpression T 0 (call_tree f x) (cast_words f x)
call_derived T f x ff fx = expression_of (grammar.uncast (grammar.postfix (grammar.primary (grouped_name ff) (one_argument (name_of fx)))))

pub parameter_derived : (T : List Name) (t : Name) → Contains T t → grammar.IsParameter T 0 int_specifiers (parameter_tree t) (parameter_words t)
parameter_derived T t is =
    grammar.other_parameter (grammar.first_specifier (grammar.a_word operators.int) grammar.last_specifier) (grammar.an_abstract (grammar.with_suffixes (grammar.a_function (grammar.first_parameter (grammar.other_parameter (typedef_of is) grammar.no_abstract) grammar.last_parameter) grammar.no_suffix)))

abbrev first_code : Name → ℕ
first_code [] = 0
first_code (c ∷ cs) = c

-- no predeclared typedef name begins with p
putchar_free : Contains units.predeclared_names (codes "putchar") → ⊥
putchar_free (zero, within, same) = let h : 105 ≡ 112 = ap first_code same in omega (arith, h)
putchar_free (suc zero, within, same) = let h : 117 ≡ 112 = ap first_code same in omega (arith, h)
putchar_free (suc (suc zero), within, same) = let h : 105 ≡ 112 = ap first_code same in omega (arith, h)
putchar_free (suc (suc (suc zero)), within, same) = let h : 117 ≡ 112 = ap first_code same in omega (arith, h)
putchar_free (suc (suc (suc (suc zero))), within, same) = let h : 105 ≡ 112 = ap first_code same in omega (arith, h)
putchar_free (suc (suc (suc (suc (suc zero)))), within, same) = let h : 117 ≡ 112 = ap first_code same in omega (arith, h)
putchar_free (suc (suc (suc (suc (suc (suc zero))))), within, same) = let h : 115 ≡ 112 = ap first_code same in omega (arith, h)
putchar_free (suc (suc (suc (suc (suc (suc (suc k)))))), within, same) = omega (arith, within)

-- behind the words of a type no typedef name is one of its specifiers
typed_ends : {T : List Name} {w : List Word} → grammar.GoesOnSpecifiers T true w → ⊥
typed_ends h = elim h [ ]

pub program_derived : units.Spells program_tree program_words
program_derived =
    units.last_external (units.a_definition
    (grammar.first_specifier (grammar.a_word operators.int) grammar.last_specifier)
    typed_ends
    (grammar.a_name (codes "main") grammar.no_star (grammar.a_function (grammar.first_parameter (grammar.other_parameter (grammar.first_specifier (grammar.a_word operators.void) grammar.last_specifier) grammar.no_abstract) grammar.last_parameter) grammar.no_suffix))
    (units.a_block (units.next_statement
    (units.computes (units.something (expression_of (grammar.uncast (grammar.postfix (grammar.primary (grammar.an_identifier (codes "putchar") putchar_free) (one_argument (number_of (int_constant 72)))))))))
    (units.next_statement (units.returns (units.something (expression_of (number_of (int_constant 7))))) units.no_item))))

-- a name without suffixes
name_declarator : {T : List Name} {p : ℕ} (x : Name) → units.IsInitDeclarators T p (tree.more_init_declarators (tree.declarator p [] (tree.name_core x) tree.no_suffixes) tree.no_initializer tree.no_init_declarators) (name x ∷ [])
name_declarator x = units.last_declarator (grammar.a_name x grammar.no_star grammar.no_suffix) units.not_initialized

pub scope_derived : (T : List Name) (t x : Name) → units.IsBlock T 0 (scope_tree t x) (scope_words t x)
scope_derived T t x =
    units.a_block (units.next_declaration
    (units.declares (grammar.first_specifier (grammar.a_word operators.typedef) (grammar.next_specifier (grammar.a_word operators.int) grammar.last_specifier)) typed_ends (name_declarator t))
    (units.next_declaration (units.declares (typedef_of (zero, omega arith, refl)) typed_ends (name_declarator x)) units.no_item))

pub nothing_derived : (T : List Name) (t : Name) → Contains T t → units.IsDeclaration T 0 (nothing_tree t) (nothing_words t)
nothing_derived T t is = units.declares_none (grammar.first_specifier (grammar.a_word operators.const) (grammar.next_specifier (grammar.its_typedef_name t is) grammar.last_specifier))

-- no punctuator goes on with specifiers
mark_ends : {T : List Name} {b : Bool} {m : Punctuator} {w : List Word} → grammar.GoesOnSpecifiers T b (mark m ∷ w) → ⊥
mark_ends h = elim h [ ]

pub grouped_derived : (T : List Name) (t : Name) → units.IsDeclaration T 0 (grouped_tree t) (grouped_words t)
grouped_derived T t =
    units.declares (grammar.first_specifier (grammar.a_word operators.const) grammar.last_specifier) mark_ends
    (units.last_declarator (grammar.an_inner grammar.no_star (grammar.a_name t grammar.no_star grammar.no_suffix) (λ e. absurd (let h : false ≡ true = e in cc)) grammar.no_suffix) units.not_initialized)
