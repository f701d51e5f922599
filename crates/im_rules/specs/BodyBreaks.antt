-- Which node of an initialiser, a statement or a block breaks which rule.
use Rattle.std.specs.Prelude.{◌≡◌, ℕ, ◌+◌, Bool, true, false, List, [], ◌∷◌, Option}
use Rattle.im_ctree.specs.Tree as t
use Rattle.im_typed.specs.im_ctype.declared.integer.Integer.{Integer}
use Rattle.im_typed.specs.im_ctype.declared.member.MemberPlace.{MemberPlace}
use Rattle.im_typed.specs.im_ctype.Types.{CType, Member, members_of}
use Rattle.im_typed.specs.im_ctype.Members.{places}
use Rattle.im_typed.specs.declared.statement.Case.{Case}
use Rattle.im_typed.specs.Program.{Stmt, Stmts}
use Rattle.im_rules.specs.Rules.{rule_34_break, rule_34_continue}
use Rattle.im_rules.specs.Outline.{is_initialised}
use Rattle.im_rules.specs.Context.{Context, behind_strings}
use Rattle.im_rules.specs.Terms.{Term, size_in, constant_in}
use Rattle.im_rules.specs.Demands.{asks, Meets, Refuses}
use Rattle.im_rules.specs.Declared.{Qualified, Declared, declaration_asks, behind_tags, type_of_specifiers}
use Rattle.im_rules.specs.Typed.{Typed, Declares}
use Rattle.im_rules.specs.Breaks.{Node, an_expression, a_declarator, Broken, first_token}
use Rattle.im_rules.specs.Initialisers.{shape, one, elements, members, shape_asks, value_asks, completed, strings_given}
use Rattle.im_rules.specs.Statements.{Site, Added, past, past_expression, past_maybe, in_block, in_loop, in_switch, in_context, local_asks, with_local, behind_initializer, TypedDeclaration, condition_asks, switch_asks, return_asks, return_value_asks, value_in, switch_type, Labels, label_value, case_asks, default_asks, with_constant, with_default, count_stmts, Begins, TypedStatement, Labelled}

-- an initialiser with the type of its object and where that lies, and what stands in its braces
pub data Given : Type 0 where
  an_initialiser : CType → ℕ → t.Initializer → Given
  some_elements : CType → ℕ → t.Initializers → Given
  some_members : List Member → List MemberPlace → ℕ → t.Initializers → Given

pub data GivenBreaks (c : Context) (r : ℕ) : Given → Type 0 where
  at_shape : {a : CType} {at : ℕ} {i : t.Initializer} → Refuses r (shape_asks c.known a i) → GivenBreaks c r (an_initialiser a at i)
  -- the node of an initialising expression is the initialiser
  at_value : {a : CType} {at : ℕ} {i : t.Initializer} {e : t.Expression} {x : Term}
      → shape a i ≡ one e
      → Typed c e x
      → Refuses r (value_asks a x)
      → GivenBreaks c r (an_initialiser a at i)

abbrev pub initialiser_token : t.Initializer → ℕ
initialiser_token (t.value_initializer e) = first_token e
initialiser_token (t.braced_initializer at is) = at

abbrev pub given_token : Given → ℕ
given_token (an_initialiser a at i) = initialiser_token i
given_token g = 0

pub data GivenBroken : Context → Given → ℕ → ℕ → Type 0 where
  here_given : {c : Context} {g : Given} {r : ℕ} → GivenBreaks c r g → GivenBroken c g r (given_token g)
  in_value : {c : Context} {a : CType} {at r k : ℕ} {i : t.Initializer} {e : t.Expression}
      → shape a i ≡ one e
      → Broken c (an_expression e) r k
      → GivenBroken c (an_initialiser a at i) r k
  -- what stands in braces, where these have the object's shape
  in_elements : {c : Context} {a b : CType} {at r k : ℕ} {i : t.Initializer} {is : t.Initializers}
      → Meets (shape_asks c.known a i)
      → shape a i ≡ elements b is
      → GivenBroken c (some_elements b at is) r k
      → GivenBroken c (an_initialiser a at i) r k
  in_members : {c : Context} {a : CType} {n at r k : ℕ} {i : t.Initializer} {is : t.Initializers}
      → Meets (shape_asks c.known a i)
      → shape a i ≡ members n is
      → GivenBroken c (some_members (members_of c.known n) (places c.known n) at is) r k
      → GivenBroken c (an_initialiser a at i) r k
  first_element : {c : Context} {b : CType} {at r k : ℕ} {i : t.Initializer} {is : t.Initializers}
      → GivenBroken c (an_initialiser b at i) r k
      → GivenBroken c (some_elements b at (t.more_initializers i is)) r k
  other_elements : {c : Context} {b : CType} {at r k : ℕ} {i : t.Initializer} {is : t.Initializers}
      → GivenBroken (behind_strings (strings_given c.known b i) c) (some_elements b (at + size_in c.known b) is) r k
      → GivenBroken c (some_elements b at (t.more_initializers i is)) r k
  first_member : {c : Context} {m : Member} {ms : List Member} {o : MemberPlace} {os : List MemberPlace} {at r k : ℕ} {i : t.Initializer} {is : t.Initializers}
      → GivenBroken c (an_initialiser m.type (at + o.offset) i) r k
      → GivenBroken c (some_members (m ∷ ms) (o ∷ os) at (t.more_initializers i is)) r k
  other_members : {c : Context} {m : Member} {ms : List Member} {o : MemberPlace} {os : List MemberPlace} {at r k : ℕ} {i : t.Initializer} {is : t.Initializers}
      → GivenBroken (behind_strings (strings_given c.known m.type i) c) (some_members ms os at is) r k
      → GivenBroken c (some_members (m ∷ ms) (o ∷ os) at (t.more_initializers i is)) r k

-- nodes of a body
pub data BodyNode : Type 0 where
  some_locals : Qualified → t.InitDeclarators → BodyNode
  a_declaration : t.Declaration → BodyNode
  a_beginning : t.ForInit → BodyNode
  a_statement : t.Statement → BodyNode
  an_else : t.MaybeStatement → BodyNode
  some_items : t.BlockItems → BodyNode
  -- in a switch of that type, so many statements behind its start, with these labels before
  some_cases : Integer → ℕ → Labels → t.BlockItems → BodyNode
  a_labelled : Integer → ℕ → Labels → t.Statement → BodyNode

pub data BodyBreaks (s : Site) (r : ℕ) : BodyNode → Type 0 where
  at_local : {q : Qualified} {d : t.Declarator} {i : t.MaybeInitializer} {ds : t.InitDeclarators} {y : Declared}
      → Declares s.context q d y
      → Refuses r (local_asks s y (completed y.type i) (is_initialised i))
      → BodyBreaks s r (some_locals q (t.more_init_declarators d i ds))
  -- the node of a declaration's specifiers is the declaration
  at_declared : {at : ℕ} {xs : t.SpecifierList} {ds : t.InitDeclarators}
      → Refuses r (declaration_asks s.context xs ds)
      → BodyBreaks s r (a_declaration (t.declaration (t.specifiers at xs) ds))
  at_if : {at : ℕ} {e : t.Expression} {a : t.Statement} {b : t.MaybeStatement} {x : Term} → Typed s.context e x → Refuses r (condition_asks x) → BodyBreaks s r (a_statement (t.if_statement at e a b))
  at_while : {at : ℕ} {e : t.Expression} {a : t.Statement} {x : Term} → Typed s.context e x → Refuses r (condition_asks x) → BodyBreaks s r (a_statement (t.while_statement at e a))
  at_do : {at : ℕ} {e : t.Expression} {a : t.Statement} {x : Term} {u : Stmt} {m : Added}
      → TypedStatement (in_loop s) a u m
      → Typed (past m s).context e x
      → Refuses r (condition_asks x)
      → BodyBreaks s r (a_statement (t.do_statement at a e))
  at_for : {e : Site} {at : ℕ} {i : t.ForInit} {c : t.Expression} {n : t.MaybeExpression} {a : t.Statement} {f : Stmt} {x : Term} {m : Added}
      → Begins (in_block s) i f m e
      → Typed e.context c x
      → Refuses r (condition_asks x)
      → BodyBreaks s r (a_statement (t.for_statement at i (t.an_expression c) n a))
  at_switch : {at : ℕ} {e : t.Expression} {b : t.Block} {x : Term} → Typed s.context e x → Refuses r (switch_asks x) → BodyBreaks s r (a_statement (t.switch_statement at e b))
  at_break : {at : ℕ} → Refuses r (asks 34 (rule_34_break s.position) ∷ []) → BodyBreaks s r (a_statement (t.break_statement at))
  at_continue : {at : ℕ} → Refuses r (asks 34 (rule_34_continue s.position) ∷ []) → BodyBreaks s r (a_statement (t.continue_statement at))
  at_return : {at : ℕ} → Refuses r (return_asks s.result) → BodyBreaks s r (a_statement (t.return_statement at t.no_expression))
  at_return_value : {at : ℕ} {e : t.Expression} {x : Term} → Typed s.context e x → Refuses r (return_value_asks s.result x) → BodyBreaks s r (a_statement (t.return_statement at (t.an_expression e)))
  -- a label that doesn't stand directly in a switch's block, or behind such a label
  at_stray_case : {at : ℕ} {e : t.Expression} {a : t.Statement} → r ≡ 34 → BodyBreaks s r (a_statement (t.case_statement at e a))
  at_stray_default : {at : ℕ} {a : t.Statement} → r ≡ 34 → BodyBreaks s r (a_statement (t.default_statement at a))
  at_case : {i : Integer} {n at : ℕ} {before : Labels} {e : t.Expression} {a : t.Statement} {x : Term} → Typed s.context e x → Refuses r (case_asks i x before) → BodyBreaks s r (a_labelled i n before (t.case_statement at e a))
  at_default : {i : Integer} {n at : ℕ} {before : Labels} {a : t.Statement} → Refuses r (default_asks before) → BodyBreaks s r (a_labelled i n before (t.default_statement at a))

abbrev pub is_label : t.Statement → Bool
is_label (t.case_statement at e a) = true
is_label (t.default_statement at a) = true
is_label a = false

-- parts of a body that are nodes of expressions and declarators
pub data InnerPart : Site → BodyNode → Context → Node → Type 0 where
  local_declarator : {s : Site} {q : Qualified} {d : t.Declarator} {i : t.MaybeInitializer} {ds : t.InitDeclarators} → InnerPart s (some_locals q (t.more_init_declarators d i ds)) s.context (a_declarator q d)
  begun : {s : Site} {e : t.Expression} → InnerPart s (a_beginning (t.for_expression (t.an_expression e))) s.context (an_expression e)
  evaluated : {s : Site} {at : ℕ} {e : t.Expression} → InnerPart s (a_statement (t.expression_statement at (t.an_expression e))) s.context (an_expression e)
  if_condition : {s : Site} {at : ℕ} {e : t.Expression} {a : t.Statement} {b : t.MaybeStatement} → InnerPart s (a_statement (t.if_statement at e a b)) s.context (an_expression e)
  while_condition : {s : Site} {at : ℕ} {e : t.Expression} {a : t.Statement} → InnerPart s (a_statement (t.while_statement at e a)) s.context (an_expression e)
  do_condition : {s : Site} {at : ℕ} {e : t.Expression} {a : t.Statement} {u : Stmt} {m : Added} → TypedStatement (in_loop s) a u m → InnerPart s (a_statement (t.do_statement at a e)) (past m s).context (an_expression e)
  switched : {s : Site} {at : ℕ} {e : t.Expression} {b : t.Block} → InnerPart s (a_statement (t.switch_statement at e b)) s.context (an_expression e)
  returned : {s : Site} {at : ℕ} {e : t.Expression} → InnerPart s (a_statement (t.return_statement at (t.an_expression e))) s.context (an_expression e)
  case_constant : {s : Site} {i : Integer} {n at : ℕ} {before : Labels} {e : t.Expression} {a : t.Statement} → InnerPart s (a_labelled i n before (t.case_statement at e a)) s.context (an_expression e)

-- the condition and the last expression of a `for` stand behind what it begins with
pub data StepPart : Site → BodyNode → Context → Node → Type 0 where
  for_condition : {s e : Site} {at : ℕ} {i : t.ForInit} {c : t.Expression} {n : t.MaybeExpression} {a : t.Statement} {f : Stmt} {m : Added}
      → Begins (in_block s) i f m e
      → StepPart s (a_statement (t.for_statement at i (t.an_expression c) n a)) e.context (an_expression c)
  for_step : {s e : Site} {at : ℕ} {i : t.ForInit} {c : t.MaybeExpression} {n : t.Expression} {a : t.Statement} {f : Stmt} {m : Added}
      → Begins (in_block s) i f m e
      → StepPart s (a_statement (t.for_statement at i c (t.an_expression n) a)) (past_maybe c e).context (an_expression n)

-- the parts of a node of a body, each at its site: what stands behind something presupposes that this is typed
pub data BodyPart : Site → BodyNode → Site → BodyNode → Type 0 where
  locals_behind : {s : Site} {q : Qualified} {d : t.Declarator} {i : t.MaybeInitializer} {ds : t.InitDeclarators} {y : Declared}
      → Declares s.context q d y
      → BodyPart s (some_locals q (t.more_init_declarators d i ds)) (behind_initializer (completed y.type i) i (with_local d y (completed y.type i) s)) (some_locals q ds)
  declared_locals : {s : Site} {at : ℕ} {xs : t.SpecifierList} {ds : t.InitDeclarators}
      → Meets (declaration_asks s.context xs ds)
      → BodyPart s (a_declaration (t.declaration (t.specifiers at xs) ds)) (in_context (behind_tags s.context xs ds) s) (some_locals (type_of_specifiers s.context xs) ds)
  begun_by : {s : Site} {d : t.Declaration} → BodyPart s (a_beginning (t.for_declaration d)) s (a_declaration d)
  block_items : {s : Site} {at at' : ℕ} {is : t.BlockItems} → BodyPart s (a_statement (t.block_statement at (t.block at' is))) (in_block s) (some_items is)
  first_branch : {s : Site} {at : ℕ} {e : t.Expression} {a : t.Statement} {b : t.MaybeStatement} → BodyPart s (a_statement (t.if_statement at e a b)) (past_expression e s) (a_statement a)
  second_branch : {s : Site} {at : ℕ} {e : t.Expression} {a : t.Statement} {b : t.MaybeStatement} {u : Stmt} {m : Added}
      → TypedStatement (past_expression e s) a u m
      → BodyPart s (a_statement (t.if_statement at e a b)) (past m (past_expression e s)) (an_else b)
  else_statement : {s : Site} {a : t.Statement} → BodyPart s (an_else (t.a_statement a)) s (a_statement a)
  while_body : {s : Site} {at : ℕ} {e : t.Expression} {a : t.Statement} → BodyPart s (a_statement (t.while_statement at e a)) (in_loop (past_expression e s)) (a_statement a)
  do_body : {s : Site} {at : ℕ} {e : t.Expression} {a : t.Statement} → BodyPart s (a_statement (t.do_statement at a e)) (in_loop s) (a_statement a)
  for_beginning : {s : Site} {at : ℕ} {i : t.ForInit} {c n : t.MaybeExpression} {a : t.Statement} → BodyPart s (a_statement (t.for_statement at i c n a)) (in_block s) (a_beginning i)
  for_body : {s e : Site} {at : ℕ} {i : t.ForInit} {c n : t.MaybeExpression} {a : t.Statement} {f : Stmt} {m : Added} → Begins (in_block s) i f m e → BodyPart s (a_statement (t.for_statement at i c n a)) (in_loop (past_maybe n (past_maybe c e))) (a_statement a)
  switch_block : {s : Site} {at at' : ℕ} {e : t.Expression} {is : t.BlockItems} {x : Term}
      → Typed s.context e x
      → BodyPart s (a_statement (t.switch_statement at e (t.block at' is))) (in_switch (in_block (past_expression e s))) (some_cases (switch_type (value_in s x)) 0 (record { constants = []; defaults = 0 }) is)
  item_declaration : {s : Site} {d : t.Declaration} {is : t.BlockItems} → BodyPart s (some_items (t.declaration_item d is)) s (a_declaration d)
  behind_declaration : {s e : Site} {d : t.Declaration} {is : t.BlockItems} {us : Stmts} {m : Added} → TypedDeclaration s d us m e → BodyPart s (some_items (t.declaration_item d is)) e (some_items is)
  item_statement : {s : Site} {a : t.Statement} {is : t.BlockItems} → BodyPart s (some_items (t.statement_item a is)) s (a_statement a)
  behind_statement : {s : Site} {a : t.Statement} {is : t.BlockItems} {u : Stmt} {m : Added} → TypedStatement s a u m → BodyPart s (some_items (t.statement_item a is)) (past m s) (some_items is)
  case_declaration : {i : Integer} {s : Site} {n : ℕ} {before : Labels} {d : t.Declaration} {is : t.BlockItems} → BodyPart s (some_cases i n before (t.declaration_item d is)) s (a_declaration d)
  cases_behind_declaration : {i : Integer} {s e : Site} {n : ℕ} {before : Labels} {d : t.Declaration} {is : t.BlockItems} {us : Stmts} {m : Added} → TypedDeclaration s d us m e → BodyPart s (some_cases i n before (t.declaration_item d is)) e (some_cases i (n + count_stmts us) before is)
  case_statement : {i : Integer} {s : Site} {n : ℕ} {before : Labels} {a : t.Statement} {is : t.BlockItems} → BodyPart s (some_cases i n before (t.statement_item a is)) s (a_labelled i n before a)
  cases_behind_statement : {i : Integer} {s : Site} {n : ℕ} {before behind : Labels} {a : t.Statement} {is : t.BlockItems} {u : Stmt} {ks : List Case} {d : Option ℕ} {m : Added}
      → Labelled i s n before a behind u ks d m
      → BodyPart s (some_cases i n before (t.statement_item a is)) (past m s) (some_cases i (n + 1) behind is)
  unlabelled : {i : Integer} {s : Site} {n : ℕ} {before : Labels} {a : t.Statement} → is_label a ≡ false → BodyPart s (a_labelled i n before a) s (a_statement a)
  behind_case : {i : Integer} {s : Site} {n at : ℕ} {before : Labels} {e : t.Expression} {a : t.Statement} {x : Term}
      → Typed s.context e x
      → BodyPart s (a_labelled i n before (t.case_statement at e a)) (past_expression e s) (a_labelled i n (with_constant (label_value i (constant_in x)) before) a)
  behind_default : {i : Integer} {s : Site} {n at : ℕ} {before : Labels} {a : t.Statement} → BodyPart s (a_labelled i n before (t.default_statement at a)) s (a_labelled i n (with_default before) a)

-- first tokens

abbrev pub declarator_token : t.Declarator → ℕ
declarator_token (t.declarator at stars core ss) = at

abbrev pub statement_token : t.Statement → ℕ
statement_token (t.block_statement at b) = at
statement_token (t.expression_statement at e) = at
statement_token (t.if_statement at e a b) = at
statement_token (t.while_statement at e a) = at
statement_token (t.do_statement at a e) = at
statement_token (t.for_statement at i c n a) = at
statement_token (t.switch_statement at e b) = at
statement_token (t.case_statement at e a) = at
statement_token (t.default_statement at a) = at
statement_token (t.break_statement at) = at
statement_token (t.continue_statement at) = at
statement_token (t.return_statement at e) = at

abbrev pub body_token : BodyNode → ℕ
body_token (some_locals q (t.more_init_declarators d i ds)) = declarator_token d
body_token (a_declaration (t.declaration (t.specifiers at xs) ds)) = at
body_token (a_statement a) = statement_token a
body_token (a_labelled i n before a) = statement_token a
body_token n = 0

-- a node in it whose first token is the k-th breaks the rule r
pub data BodyBroken : Site → BodyNode → ℕ → ℕ → Type 0 where
  here_in_body : {s : Site} {n : BodyNode} {r : ℕ} → BodyBreaks s r n → BodyBroken s n r (body_token n)
  within_body : {s z : Site} {n m : BodyNode} {r k : ℕ} → BodyPart s n z m → BodyBroken z m r k → BodyBroken s n r k
  in_inner : {s : Site} {c : Context} {n : BodyNode} {m : Node} {r k : ℕ} → InnerPart s n c m → Broken c m r k → BodyBroken s n r k
  in_step : {s : Site} {c : Context} {n : BodyNode} {m : Node} {r k : ℕ} → StepPart s n c m → Broken c m r k → BodyBroken s n r k
  in_local_initialiser : {s : Site} {q : Qualified} {d : t.Declarator} {i : t.Initializer} {ds : t.InitDeclarators} {y : Declared} {r k : ℕ}
      → Declares s.context q d y
      → GivenBroken (with_local d y (completed y.type (t.an_initializer i)) s).context (an_initialiser (completed y.type (t.an_initializer i)) 0 i) r k
      → BodyBroken s (some_locals q (t.more_init_declarators d (t.an_initializer i) ds)) r k
