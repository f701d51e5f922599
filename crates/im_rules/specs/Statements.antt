-- What statements and blocks are typed to (C11 6.8).
use Rattle.std.specs.Prelude.{ℕ, suc, ◌+◌, ℤ, pos, Bool, true, false, List, [], ◌∷◌, ◌++◌, length, Option, Some, None}
use Rattle.im_ctree.specs.im_word.Words.{Name}
use Rattle.im_ctree.specs.im_num.declared.kind.Kind.TheVariants.{I32}
use Rattle.im_ctree.specs.im_num.Kinds.{wrap}
use Rattle.im_ctree.specs.Tree as t
use Rattle.im_typed.specs.im_ctype.declared.integer.Integer.{Integer}
use Rattle.im_typed.specs.im_ctype.Types.{CType, Structs, kind_of}
use Rattle.im_typed.specs.im_ctype.Layout.{layout}
use Rattle.im_typed.specs.declared.statement.Case.{Case}
use Rattle.im_typed.specs.Program.{Expr, Constant, Stmt, Do, Forget, Initialise, Block, If, While, DoWhile, For, Switch, Break, Continue, Return, Stmts, no_stmts, more_stmts, LocalObject}
use Rattle.im_rules.specs.Rules.{Position, rule_15, rule_17, rule_25_condition, rule_34_break, rule_34_continue, rule_34_constant, rule_34_default, rule_34_switch, rule_34_return}
use Rattle.im_rules.specs.Scopes.{Entity, an_object, local_object, at_file_scope}
use Rattle.im_rules.specs.Strings.{strings_in, strings_maybe, strings_of_declarator}
use Rattle.im_rules.specs.Outline.{is_initialised}
use Rattle.im_rules.specs.Context.{Context, in_new_scope, with_entity, behind, behind_maybe, behind_strings, behind_declarator}
use Rattle.im_rules.specs.Terms.{Term, Value, value_of, operand_of, constant_in}
use Rattle.im_rules.specs.Conversions.{as_type, as_integer, promoted, integer_of}
use Rattle.im_rules.specs.Demands.{Demand, asks, Meets}
use Rattle.im_rules.specs.Declared.{Qualified, Declared, declaration_asks, naming_asks, typing_asks, behind_tags, type_of_specifiers}
use Rattle.im_rules.specs.Typed.{Typed, Declares}
use Rattle.im_rules.specs.Initialisers.{Item, Initialised, completed, strings_given, pieces_of}

-- a place in a function's body: what is known there, the function's result, the loops and switches round it, and how many
-- objects the function has before it
pub record Site : Type 0 where
  pub context : Context
  pub result : CType
  pub position : Position
  pub locals : ℕ

-- what a part of a body adds: its objects, and its string literals that initialise no array
pub record Added : Type 0 where
  pub objects : List LocalObject
  pub strings : List Name

abbrev pub nothing_added : Added
nothing_added = record { objects = []; strings = [] }

abbrev pub just_strings : List Name → Added
just_strings ss = record { objects = []; strings = ss }

abbrev pub and_then : Added → Added → Added
and_then a b = record { objects = a.objects ++ b.objects; strings = a.strings ++ b.strings }

-- behind what was added; its names are out of scope
abbrev pub past : Added → Site → Site
past a s = record s { context = behind_strings a.strings s.context; locals = s.locals + length a.objects }

abbrev pub past_expression : t.Expression → Site → Site
past_expression e s = record s { context = behind e s.context }

abbrev pub in_block : Site → Site
in_block s = record s { context = in_new_scope s.context }

abbrev pub in_loop : Site → Site
in_loop s = record s { position = record { in_loop = true; in_switch = s.position.in_switch; is_direct = false } }

abbrev pub in_switch : Site → Site
in_switch s = record s { position = record { in_loop = s.position.in_loop; in_switch = true; is_direct = false } }

-- declarations in a block (C11 6.7)

abbrev pub name_of : Option Name → Name
name_of None = []
name_of (Some x) = x

abbrev pub local_entity : ℕ → Bool → CType → Entity
local_entity n constant a = an_object constant a (local_object n)

-- of an object that is declared in a block: the rules on names, on absent lengths and on complete types
abbrev pub local_asks : Site → Declared → CType → Bool → List Demand
local_asks s d a initialised =
    naming_asks s.context.scopes (name_of d.name) (local_entity s.locals d.constant a) (at_file_scope s.context.scopes) false initialised
    ++ typing_asks s.context.known true d.type a initialised

abbrev pub object_of : Structs → Name → CType → LocalObject
object_of known x a = record { name = x; size = (layout known a).size; cells = (layout known a).cells }

-- its name is in scope in its own initialiser (C11 6.2.1p7)
abbrev pub with_local : t.Declarator → Declared → CType → Site → Site
with_local d y a s =
    record s { context = with_entity (name_of y.name) (local_entity s.locals y.constant a) (behind_declarator d s.context); locals = s.locals + 1 }

abbrev pub declared_strings : Structs → t.Declarator → CType → t.MaybeInitializer → List Name
declared_strings known d a t.no_initializer = strings_of_declarator d
declared_strings known d a (t.an_initializer i) = strings_of_declarator d ++ strings_given known a i

abbrev pub initialised_strings : Structs → CType → t.MaybeInitializer → List Name
initialised_strings known a t.no_initializer = []
initialised_strings known a (t.an_initializer i) = strings_given known a i

abbrev pub local_added : Structs → t.Declarator → Name → CType → t.MaybeInitializer → Added
local_added known d x a i = record { objects = object_of known x a ∷ []; strings = declared_strings known d a i }

abbrev pub behind_initializer : CType → t.MaybeInitializer → Site → Site
behind_initializer a i s = record s { context = behind_strings (initialised_strings s.context.known a i) s.context }

-- what an object's declaration does: it is uninitialised again, or initialised (C11 6.2.4p6)
pub data MayInitialise (c : Context) (n : ℕ) (a : CType) : t.MaybeInitializer → Stmt → Type 0 where
  forgets : MayInitialise c n a t.no_initializer (Forget n)
  initialises : {i : t.Initializer} {ps : List Item}
      → Initialised c a 0 i ps
      → MayInitialise c n a (t.an_initializer i) (Initialise n (length (layout c.known a).cells) (pieces_of c.known ps))

-- the declarators of a declaration in a block, in order, from one site to the next
pub data AreLocals (q : Qualified) : Site → t.InitDeclarators → Stmts → Added → Site → Type 0 where
  no_local : {s : Site} → AreLocals q s t.no_init_declarators no_stmts nothing_added s
  a_local : {s e : Site} {d : t.Declarator} {i : t.MaybeInitializer} {ds : t.InitDeclarators} {y : Declared} {u : Stmt} {us : Stmts} {more : Added}
      → Declares s.context q d y
      → Meets (local_asks s y (completed y.type i) (is_initialised i))
      → MayInitialise (with_local d y (completed y.type i) s).context s.locals (completed y.type i) i u
      → AreLocals q (behind_initializer (completed y.type i) i (with_local d y (completed y.type i) s)) ds us more e
      → AreLocals q s (t.more_init_declarators d i ds) (more_stmts u us) (and_then (local_added s.context.known d (name_of y.name) (completed y.type i) i) more) e

abbrev pub in_context : Context → Site → Site
in_context c s = record s { context = c }

-- a declaration in a block
pub data TypedDeclaration : Site → t.Declaration → Stmts → Added → Site → Type 0 where
  of_declaration : {s e : Site} {at : ℕ} {xs : t.SpecifierList} {ds : t.InitDeclarators} {us : Stmts} {added : Added}
      → Meets (declaration_asks s.context xs ds)
      → AreLocals (type_of_specifiers s.context xs) (in_context (behind_tags s.context xs ds) s) ds us added e
      → TypedDeclaration s (t.declaration (t.specifiers at xs) ds) us added e

-- statements

abbrev pub condition_asks : Term → List Demand
condition_asks x = asks 25 (rule_25_condition (operand_of x)) ∷ []

abbrev pub switch_asks : Term → List Demand
switch_asks x = asks 34 (rule_34_switch (operand_of x)) ∷ []

abbrev pub return_asks : CType → List Demand
return_asks r = asks 34 (rule_34_return r false) ∷ []

abbrev pub return_value_asks : CType → Term → List Demand
return_value_asks r x = asks 34 (rule_34_return r true) ∷ asks 17 (rule_17 r (operand_of x)) ∷ []

abbrev pub value_in : Site → Term → Value
value_in s x = value_of s.context.known x

-- the type of a switch: its promoted one (C11 6.8.4.2p5)
abbrev pub switch_type : Value → Integer
switch_type v = promoted (integer_of v.type)

-- what stands before a label: the constants of its switch, and how many `default`
pub record Labels : Type 0 where
  pub constants : List ℤ
  pub defaults : ℕ

-- what a switch's block gives: its statements, its cases, and where `default` stands
pub record Cases : Type 0 where
  pub statements : Stmts
  pub cases : List Case
  pub otherwise : Option ℕ

abbrev pub label_value : Integer → Option ℤ → ℤ
label_value i None = pos 0
label_value i (Some z) = wrap (kind_of i) z

abbrev pub differs : Integer → Option ℤ → List ℤ → Bool
differs i None before = true
differs i (Some z) before = rule_34_constant (wrap (kind_of i) z) before

-- its constant is one, and differs from those before
abbrev pub case_asks : Integer → Term → Labels → List Demand
case_asks i x before = asks 15 (rule_15 (constant_in x)) ∷ asks 34 (differs i (constant_in x) before.constants) ∷ []

abbrev pub default_asks : Labels → List Demand
default_asks before = asks 34 (rule_34_default before.defaults) ∷ []

abbrev pub with_constant : ℤ → Labels → Labels
with_constant z before = record before { constants = z ∷ before.constants }

abbrev pub with_default : Labels → Labels
with_default before = record before { defaults = suc before.defaults }

abbrev pub case_at : ℤ → ℕ → Case
case_at z n = record { value = z; at = n }

abbrev pub no_cases : Cases
no_cases = record { statements = no_stmts; cases = []; otherwise = None }

abbrev pub first_of : Option ℕ → Option ℕ → Option ℕ
first_of (Some n) m = Some n
first_of None m = m

abbrev pub appended : Stmts → Stmts → Stmts
appended no_stmts vs = vs
appended (more_stmts u us) vs = more_stmts u (appended us vs)

abbrev pub count_stmts : Stmts → ℕ
count_stmts no_stmts = 0
count_stmts (more_stmts u us) = suc (count_stmts us)

abbrev pub with_cases : Stmts → List Case → Option ℕ → Cases → Cases
with_cases us ks d more =
    record { statements = appended us more.statements; cases = ks ++ more.cases; otherwise = first_of d more.otherwise }

-- without `default` a switch goes behind its block
abbrev pub otherwise_of : Cases → ℕ
otherwise_of k = place k.otherwise
  where
    place : Option ℕ → ℕ
    place None = count_stmts k.statements
    place (Some n) = n

abbrev pub empty_block : Stmt
empty_block = Block no_stmts

-- an absent condition is 1, an absent step 0
abbrev pub one_or_zero : ℤ → Expr
one_or_zero z = Constant I32 z

pub data MayTest (s : Site) : t.MaybeExpression → Expr → Type 0 where
  no_test : MayTest s t.no_expression (one_or_zero (pos 1))
  a_test : {e : t.Expression} {x : Term} → Typed s.context e x → Meets (condition_asks x) → MayTest s (t.an_expression e) (value_in s x).expr

pub data MayStep (s : Site) : t.MaybeExpression → Expr → Type 0 where
  no_step : MayStep s t.no_expression (one_or_zero (pos 0))
  a_step : {e : t.Expression} {x : Term} → Typed s.context e x → MayStep s (t.an_expression e) (value_in s x).expr

-- what a `for` begins with: a declaration is one block; its names are in scope in all of the statement (C11 6.8.5p5)
pub data Begins : Site → t.ForInit → Stmt → Added → Site → Type 0 where
  by_declaration : {s e : Site} {d : t.Declaration} {us : Stmts} {added : Added} → TypedDeclaration s d us added e → Begins s (t.for_declaration d) (Block us) added e
  by_nothing : {s : Site} → Begins s (t.for_expression t.no_expression) empty_block nothing_added s
  by_expression : {s : Site} {e : t.Expression} {x : Term} → Typed s.context e x → Begins s (t.for_expression (t.an_expression e)) (Do (value_in s x).expr) (just_strings (strings_in e)) (past_expression e s)

abbrev pub past_maybe : t.MaybeExpression → Site → Site
past_maybe e s = record s { context = behind_maybe e s.context }

mutual
  -- statements that carry no label
  pub data TypedStatement : Site → t.Statement → Stmt → Added → Type 0 where
    of_block : {s : Site} {at at' : ℕ} {is : t.BlockItems} {us : Stmts} {added : Added}
        → TypedItems (in_block s) is us added
        → TypedStatement s (t.block_statement at (t.block at' is)) (Block us) added
    of_nothing : {s : Site} {at : ℕ} → TypedStatement s (t.expression_statement at t.no_expression) empty_block nothing_added
    of_expression : {s : Site} {at : ℕ} {e : t.Expression} {x : Term}
        → Typed s.context e x
        → TypedStatement s (t.expression_statement at (t.an_expression e)) (Do (value_in s x).expr) (just_strings (strings_in e))
    of_if : {s : Site} {at : ℕ} {e : t.Expression} {a : t.Statement} {b : t.MaybeStatement} {x : Term} {u v : Stmt} {m n : Added}
        → Typed s.context e x
        → Meets (condition_asks x)
        → TypedStatement (past_expression e s) a u m
        → MayBeTyped (past m (past_expression e s)) b v n
        → TypedStatement s (t.if_statement at e a b) (If (value_in s x).expr u v) (and_then (just_strings (strings_in e)) (and_then m n))
    of_while : {s : Site} {at : ℕ} {e : t.Expression} {a : t.Statement} {x : Term} {u : Stmt} {m : Added}
        → Typed s.context e x
        → Meets (condition_asks x)
        → TypedStatement (in_loop (past_expression e s)) a u m
        → TypedStatement s (t.while_statement at e a) (While (value_in s x).expr u) (and_then (just_strings (strings_in e)) m)
    of_do : {s : Site} {at : ℕ} {e : t.Expression} {a : t.Statement} {x : Term} {u : Stmt} {m : Added}
        → TypedStatement (in_loop s) a u m
        → Typed (past m s).context e x
        → Meets (condition_asks x)
        → TypedStatement s (t.do_statement at a e) (DoWhile u (value_in s x).expr) (and_then m (just_strings (strings_in e)))
    of_for : {s e : Site} {at : ℕ} {i : t.ForInit} {c n : t.MaybeExpression} {a : t.Statement} {f u : Stmt} {x y : Expr} {m k : Added}
        → Begins (in_block s) i f m e
        → MayTest e c x
        → MayStep (past_maybe c e) n y
        → TypedStatement (in_loop (past_maybe n (past_maybe c e))) a u k
        → TypedStatement s (t.for_statement at i c n a) (For f x y u) (and_then m (and_then (just_strings (strings_maybe c ++ strings_maybe n)) k))
    of_switch : {s : Site} {at at' : ℕ} {e : t.Expression} {is : t.BlockItems} {x : Term} {k : Cases} {m : Added}
        → Typed s.context e x
        → Meets (switch_asks x)
        → TypedCases (switch_type (value_in s x)) (in_switch (in_block (past_expression e s))) 0 (record { constants = []; defaults = 0 }) is k m
        → TypedStatement s (t.switch_statement at e (t.block at' is)) (Switch (as_integer (switch_type (value_in s x)) (value_in s x)) k.cases (otherwise_of k) k.statements) (and_then (just_strings (strings_in e)) m)
    of_break : {s : Site} {at : ℕ} → Meets (asks 34 (rule_34_break s.position) ∷ []) → TypedStatement s (t.break_statement at) Break nothing_added
    of_continue : {s : Site} {at : ℕ} → Meets (asks 34 (rule_34_continue s.position) ∷ []) → TypedStatement s (t.continue_statement at) Continue nothing_added
    of_return : {s : Site} {at : ℕ} → Meets (return_asks s.result) → TypedStatement s (t.return_statement at t.no_expression) (Return None) nothing_added
    of_return_value : {s : Site} {at : ℕ} {e : t.Expression} {x : Term}
        → Typed s.context e x
        → Meets (return_value_asks s.result x)
        → TypedStatement s (t.return_statement at (t.an_expression e)) (Return (Some (as_type s.result (value_in s x)))) (just_strings (strings_in e))

  pub data MayBeTyped : Site → t.MaybeStatement → Stmt → Added → Type 0 where
    no_else : {s : Site} → MayBeTyped s t.no_statement empty_block nothing_added
    an_else : {s : Site} {a : t.Statement} {u : Stmt} {m : Added} → TypedStatement s a u m → MayBeTyped s (t.a_statement a) u m

  -- the items of a block
  pub data TypedItems : Site → t.BlockItems → Stmts → Added → Type 0 where
    no_item : {s : Site} → TypedItems s t.no_items no_stmts nothing_added
    a_declaration : {s e : Site} {d : t.Declaration} {is : t.BlockItems} {us vs : Stmts} {m n : Added}
        → TypedDeclaration s d us m e
        → TypedItems e is vs n
        → TypedItems s (t.declaration_item d is) (appended us vs) (and_then m n)
    a_statement : {s : Site} {a : t.Statement} {is : t.BlockItems} {u : Stmt} {us : Stmts} {m n : Added}
        → TypedStatement s a u m
        → TypedItems (past m s) is us n
        → TypedItems s (t.statement_item a is) (more_stmts u us) (and_then m n)

  -- the items of a switch's block, so many statements behind its start, with these labels before them
  pub data TypedCases : Integer → Site → ℕ → Labels → t.BlockItems → Cases → Added → Type 0 where
    no_case : {i : Integer} {s : Site} {n : ℕ} {before : Labels} → TypedCases i s n before t.no_items no_cases nothing_added
    between_cases : {i : Integer} {s e : Site} {n : ℕ} {before : Labels} {d : t.Declaration} {is : t.BlockItems} {us : Stmts} {k : Cases} {m l : Added}
        → TypedDeclaration s d us m e
        → TypedCases i e (n + count_stmts us) before is k l
        → TypedCases i s n before (t.declaration_item d is) (with_cases us [] None k) (and_then m l)
    a_labelled : {i : Integer} {s : Site} {n : ℕ} {before behind : Labels} {a : t.Statement} {is : t.BlockItems} {u : Stmt} {ks : List Case} {d : Option ℕ} {k : Cases} {m l : Added}
        → Labelled i s n before a behind u ks d m
        → TypedCases i (past m s) (n + 1) behind is k l
        → TypedCases i s n before (t.statement_item a is) (with_cases (more_stmts u no_stmts) ks d k) (and_then m l)

  -- a statement directly in a switch's block, with the labels that it carries
  pub data Labelled : Integer → Site → ℕ → Labels → t.Statement → Labels → Stmt → List Case → Option ℕ → Added → Type 0 where
    no_label : {i : Integer} {s : Site} {n : ℕ} {before : Labels} {a : t.Statement} {u : Stmt} {m : Added}
        → TypedStatement s a u m
        → Labelled i s n before a before u [] None m
    of_case : {i : Integer} {s : Site} {n at : ℕ} {before behind : Labels} {e : t.Expression} {a : t.Statement} {x : Term} {u : Stmt} {ks : List Case} {d : Option ℕ} {m : Added}
        → Typed s.context e x
        → Meets (case_asks i x before)
        → Labelled i (past_expression e s) n (with_constant (label_value i (constant_in x)) before) a behind u ks d m
        → Labelled i s n before (t.case_statement at e a) behind u (case_at (label_value i (constant_in x)) n ∷ ks) d (and_then (just_strings (strings_in e)) m)
    of_default : {i : Integer} {s : Site} {n at : ℕ} {before behind : Labels} {a : t.Statement} {u : Stmt} {ks : List Case} {d : Option ℕ} {m : Added}
        → Meets (default_asks before)
        → Labelled i s n (with_default before) a behind u ks d m
        → Labelled i s n before (t.default_statement at a) behind u ks (Some n) m
