-- Small trees, for the examples.
use Rattle.std.specs.Prelude.{ℕ, pos, false, List, [], ◌∷◌, Some}
use Rattle.im_ctree.specs.im_word.Words.{Name}
use Rattle.im_ctree.specs.im_num.declared.kind.Kind.TheVariants.{I32, U8}
use Rattle.im_ctree.specs.im_tok.declared.number.Number.{Number}
use Rattle.im_ctree.specs.im_tok.declared.number.NumberType.TheVariants as number
use Rattle.im_ctree.specs.declared.operator.BinaryOp.TheVariants as b
use Rattle.im_ctree.specs.declared.operator.UnaryOp.TheVariants as o
use Rattle.im_ctree.specs.declared.specifier.SpecifierWord.{SpecifierWord}
use Rattle.im_ctree.specs.declared.specifier.SpecifierWord.TheVariants as w
use Rattle.im_ctree.specs.Tree as t
use Rattle.im_typed.specs.im_store.declared.operators.BinaryOp.TheVariants as s
use Rattle.im_typed.specs.im_ctype.declared.integer.Integer.TheVariants.{Char, Int}
use Rattle.im_typed.specs.im_ctype.Types.{integer, void}
use Rattle.im_typed.specs.im_store.Objects.{Number as of_number}
use Rattle.im_typed.specs.im_store.Statics.{StaticObject}
use Rattle.im_typed.specs.declared.statement.Case.{Case}
use Rattle.im_typed.specs.Program.{Scalar, Local, Constant, Read, Convert, Binary, Stmt, Block, Switch, Break, Return, Static, no_stmts, more_stmts, Prog}
use Rattle.im_rules.specs.Scopes.{nothing, named, an_object, local_object}
use Rattle.im_rules.specs.Context.{Context}
use Rattle.im_rules.specs.Terms.{Term, value}
use Rattle.im_rules.specs.Statements.{Site}
use Rattle.im_rules.specs.FileScope.{main_name}

abbrev pub x : Name
x = 120 ∷ []

-- `char x;` is in scope, the first object of the function
abbrev pub char_in_scope : Context
char_in_scope =
    record {
      scopes = named x (an_object false (integer Char) (local_object 0)) nothing;
      known = [];
      next_string = 0;
      unit = record { statics = []; bodies = []; lists = [] };
    }

abbrev pub int_number : ℕ → Number
int_number n = record { value = n; number_type = number.Int }

-- `x + 1`, of which x is the fourth token
abbrev pub char_sum : t.Expression
char_sum = t.binary 3 b.Add (t.identifier 3 x) (t.integer_constant 5 (int_number 1))

-- x is read and converted to int, and 1 is added
abbrev pub char_sum_term : Term
char_sum_term =
    value (record { type = integer Int; expr = Binary s.Add I32 (Convert I32 (Read (Scalar U8) (Local 0))) (Constant I32 (pos 1)) })

-- `&1`, of which `&` is the sixth token
abbrev pub address_of_one : t.Expression
address_of_one = t.unary 5 o.AddressOf (t.integer_constant 6 (int_number 1))

abbrev pub in_a_function : Site
in_a_function =
    record { context = char_in_scope; result = void; position = record { in_loop = false; in_switch = false; is_direct = false }; locals = 1 }

-- `switch (x) { case 1: case 2: break; default: ; }`
abbrev pub small_switch : t.Statement
small_switch =
    t.switch_statement 0 (t.identifier 2 x) (t.block 4
    (t.statement_item (t.case_statement 5 (t.integer_constant 6 (int_number 1)) (t.case_statement 8 (t.integer_constant 9 (int_number 2)) (t.break_statement 11)))
    (t.statement_item (t.default_statement 13 (t.expression_statement 15 t.no_expression)) t.no_items)))

abbrev pub case_of : ℕ → ℕ → Case
case_of z n = record { value = pos z; at = n }

-- both labels stand before the first statement of the block, `default` before the second
abbrev pub small_switch_typed : Stmt
small_switch_typed =
    Switch (Convert I32 (Read (Scalar U8) (Local 0))) (case_of 1 0 ∷ case_of 2 0 ∷ []) 1 (more_stmts Break (more_stmts (Block no_stmts) no_stmts))

-- a unit: `int x; static int y = 3; int x; int main(void) { return y; }`

abbrev pub y : Name
y = 121 ∷ []

abbrev pub words : List SpecifierWord → t.SpecifierList
words [] = t.no_specifiers
words (k ∷ ks) = t.more_specifiers (t.word_specifier 0 k) (words ks)

abbrev pub plain : ℕ → Name → t.Declarator
plain at n = t.declarator at [] (t.name_core n) t.no_suffixes

abbrev pub declares : List SpecifierWord → ℕ → Name → t.MaybeInitializer → t.External
declares ks at n i = t.external_declaration (t.declaration (t.specifiers 0 (words ks)) (t.more_init_declarators (plain at n) i t.no_init_declarators))

abbrev pub no_arguments : t.Parameters
no_arguments = t.more_parameters (t.specifiers 0 (words (w.Void ∷ []))) t.no_declarator t.no_parameters

abbrev pub small_unit : t.Tree
small_unit =
    t.more_externals (declares (w.Int ∷ []) 1 x t.no_initializer)
    (t.more_externals (declares (w.Static ∷ w.Int ∷ []) 5 y (t.an_initializer (t.value_initializer (t.integer_constant 7 (int_number 3)))))
    (t.more_externals (declares (w.Int ∷ []) 12 x t.no_initializer)
    (t.more_externals
    (t.function_definition (t.specifiers 14 (words (w.Int ∷ []))) (t.declarator 15 [] (t.name_core main_name) (t.function_suffix 16 no_arguments t.no_suffixes))
    (t.block 19 (t.statement_item (t.return_statement 20 (t.an_expression (t.identifier 21 y))) t.no_items)))
    t.no_externals)))

abbrev pub static_int : Name → ℕ → StaticObject
static_int n z = record { name = n; size = 4; cells = record { offset = 0; kind = I32 } ∷ []; first = of_number (pos z) ∷ [] }

-- x, which is declared twice, is one static; `main` returns what y has
abbrev pub small_program : Prog
small_program =
    record {
      statics = static_int x 0 ∷ static_int y 3 ∷ [];
      funcs = record { name = main_name; params = 0; result = Some I32; objects = []; body = Block (more_stmts (Return (Some (Read (Scalar I32) (Static 1)))) no_stmts) } ∷ [];
      main = 0;
    }
