-- Which node of a unit breaks which rule.
use Rattle.std.specs.Prelude.{◌≡◌, ℕ, ℤ, pos, ◌+ℤ◌, Bool, true, false, List, ◌∷◌, Option}
use Rattle.im_ctree.specs.im_word.Words.{Name}
use Rattle.im_ctree.specs.Tree as t
use Rattle.im_typed.specs.im_ctype.Types.{Member}
use Rattle.im_typed.specs.Program.{Func}
use Rattle.im_rules.specs.TypeTests.{result_of}
use Rattle.im_rules.specs.Rules.{named_in}
use Rattle.im_rules.specs.Strings.{strings_of_declarator, strings_maybe}
use Rattle.im_rules.specs.Outline.{nearest, is_initialised}
use Rattle.im_rules.specs.Context.{Context, in_new_scope}
use Rattle.im_rules.specs.Demands.{Meets, Refuses}
use Rattle.im_rules.specs.Declared.{Qualified, Declared, specified_asks, parameters_of}
use Rattle.im_rules.specs.Typed.{Declares, AreParameters}
use Rattle.im_rules.specs.Breaks.{Node, an_expression, a_declarator, Broken}
use Rattle.im_rules.specs.Initialisers.{Item, Initialised, completed}
use Rattle.im_rules.specs.BodyBreaks.{an_initialiser, GivenBroken, some_items, BodyBroken, declarator_token}
use Rattle.im_rules.specs.StaticValues.{constant_asks, item_token}
use Rattle.im_rules.specs.FileScope.{FilePlace, past_strings, file_start, file_asks, own_parameters, body_asks, Level, of_the_file, of_members, level_asks, with_list_begun, struct_asks, member_asks, enum_asks, number_in, enumerator_asks, with_enumerator, main_asks, static_size}
use Rattle.im_rules.specs.TypedUnit.{IsNumber, Specify, AreMembers, AreFields, FirstValues, given_strings, past_declarator, body_site, past_head, TypedExternal, AreExternals}

-- nodes at file scope
pub data FileNode : Type 0 where
  some_externals : t.Tree → FileNode
  an_external : t.External → FileNode
  some_declared : t.SpecifierList → Qualified → t.InitDeclarators → FileNode
  file_specifiers : Level → t.Specifiers → FileNode
  -- the structs, enums and typedef names among specifiers whose first token is that one
  some_named : ℕ → List t.Specifier → FileNode
  some_members : t.Members → FileNode
  some_fields : Qualified → t.Declarators → FileNode
  some_enumerators : ℤ → t.Enumerators → FileNode

-- a list of members or enumerators is among the specifiers first
abbrev pub begins_with_list : List t.Specifier → Bool
begins_with_list (t.struct_specifier at x ms ∷ ss) = true
begins_with_list (t.enum_specifier at x es ∷ ss) = true
begins_with_list ss = false

-- the rule r refuses the node
pub data FileBreaks (f : FilePlace) (r : ℕ) : FileNode → Type 0 where
  at_words : {l : Level} {at : ℕ} {xs : t.SpecifierList} → Refuses r (level_asks l xs) → FileBreaks f r (file_specifiers l (t.specifiers at xs))
  at_name : {at : ℕ} {ss : List t.Specifier} → begins_with_list ss ≡ false → Refuses r (specified_asks f.context ss) → FileBreaks f r (some_named at ss)
  at_struct : {g : FilePlace} {first at : ℕ} {x : Option Name} {ms : t.Members} {ss : List t.Specifier} {fields : List Member}
      → AreMembers (with_list_begun at x f) ms fields g
      → Refuses r (struct_asks f x fields)
      → FileBreaks f r (some_named first (t.struct_specifier at x ms ∷ ss))
  at_enum : {first at : ℕ} {x : Option Name} {es : t.Enumerators} {ss : List t.Specifier}
      → Refuses r (enum_asks f.context.scopes x)
      → FileBreaks f r (some_named first (t.enum_specifier at x es ∷ ss))
  at_enumerator : {next : ℤ} {at : ℕ} {x : Name} {e : t.MaybeExpression} {es : t.Enumerators} {z : Option ℤ}
      → IsNumber f.context next e z
      → Refuses r (enumerator_asks f.context.scopes x z)
      → FileBreaks f r (some_enumerators next (t.more_enumerators at x e es))
  at_field : {q : Qualified} {d : t.Declarator} {ds : t.Declarators} {y : Declared}
      → Declares f.context q d y
      → Refuses r (member_asks f.context.known y)
      → FileBreaks f r (some_fields q (t.more_declarators d ds))
  at_declarator : {xs : t.SpecifierList} {q : Qualified} {d : t.Declarator} {i : t.MaybeInitializer} {ds : t.InitDeclarators} {y : Declared}
      → Declares f.context q d y
      → Refuses r (file_asks f xs y (completed y.type i) (is_initialised i))
      → FileBreaks f r (some_declared xs q (t.more_init_declarators d i ds))

-- a function's head is a node whose token is its declarator's
pub data HeadBreaks (f : FilePlace) (r : ℕ) : t.External → Type 0 where
  at_head : {g : FilePlace} {at : ℕ} {xs : t.SpecifierList} {q : Qualified} {d : t.Declarator} {b : t.Block} {y : Declared}
      → Specify of_the_file f xs q g
      → Declares g.context q d y
      → Refuses r (body_asks d y)
      → HeadBreaks f r (t.function_definition (t.specifiers at xs) d b)
  at_function : {g : FilePlace} {at : ℕ} {xs : t.SpecifierList} {q : Qualified} {d : t.Declarator} {b : t.Block} {y : Declared}
      → Specify of_the_file f xs q g
      → Declares g.context q d y
      → Refuses r (file_asks g xs y y.type true)
      → HeadBreaks f r (t.function_definition (t.specifiers at xs) d b)

-- the rule on static initialisers refuses an item whose first token is the k-th
pub data RefusedItem (f : FilePlace) (r : ℕ) : ℕ → List Item → Type 0 where
  this_item : {p : Item} {ps : List Item} → Refuses r (constant_asks (static_size f) f.context.known p) → RefusedItem f r (item_token p) (p ∷ ps)
  other_item : {k : ℕ} {p : Item} {ps : List Item} → RefusedItem f r k ps → RefusedItem f r k (p ∷ ps)

abbrev pub external_token : t.External → ℕ
external_token (t.function_definition s d b) = declarator_token d
external_token x = 0

abbrev pub file_token : FileNode → ℕ
file_token (some_declared xs q (t.more_init_declarators d i ds)) = declarator_token d
file_token (file_specifiers l (t.specifiers at xs)) = at
file_token (some_named first (t.struct_specifier at x ms ∷ ss)) = at
file_token (some_named first (t.enum_specifier at x es ∷ ss)) = at
file_token (some_named first ss) = first
file_token (some_fields q (t.more_declarators d ds)) = declarator_token d
file_token (some_enumerators next (t.more_enumerators at x e es)) = at
file_token n = 0

-- parts at file scope of a node at file scope; what stands behind something presupposes that this is typed
pub data FilePart : FilePlace → FileNode → FilePlace → FileNode → Type 0 where
  first_external : {f : FilePlace} {x : t.External} {xs : t.Tree} → FilePart f (some_externals (t.more_externals x xs)) f (an_external x)
  other_externals : {f g : FilePlace} {x : t.External} {xs : t.Tree} {gs : List FirstValues} {ks : List Func}
      → TypedExternal f x gs ks g
      → FilePart f (some_externals (t.more_externals x xs)) g (some_externals xs)
  declaration_specifiers : {f : FilePlace} {s : t.Specifiers} {ds : t.InitDeclarators} → FilePart f (an_external (t.external_declaration (t.declaration s ds))) f (file_specifiers of_the_file s)
  declared_part : {f g : FilePlace} {at : ℕ} {xs : t.SpecifierList} {q : Qualified} {ds : t.InitDeclarators}
      → Specify of_the_file f xs q g
      → FilePart f (an_external (t.external_declaration (t.declaration (t.specifiers at xs) ds))) g (some_declared xs q ds)
  function_specifiers : {f : FilePlace} {s : t.Specifiers} {d : t.Declarator} {b : t.Block} → FilePart f (an_external (t.function_definition s d b)) f (file_specifiers of_the_file s)
  named_part : {f : FilePlace} {l : Level} {at : ℕ} {xs : t.SpecifierList}
      → Meets (level_asks l xs)
      → FilePart f (file_specifiers l (t.specifiers at xs)) f (some_named at (named_in xs))
  struct_members : {f : FilePlace} {first at : ℕ} {x : Option Name} {ms : t.Members} {ss : List t.Specifier} → FilePart f (some_named first (t.struct_specifier at x ms ∷ ss)) (with_list_begun at x f) (some_members ms)
  enum_constants : {f : FilePlace} {first at : ℕ} {x : Option Name} {es : t.Enumerators} {ss : List t.Specifier} → FilePart f (some_named first (t.enum_specifier at x es ∷ ss)) f (some_enumerators (pos 0) es)
  other_enumerators : {f : FilePlace} {next : ℤ} {at : ℕ} {x : Name} {e : t.MaybeExpression} {es : t.Enumerators} {z : Option ℤ}
      → IsNumber f.context next e z
      → FilePart f (some_enumerators next (t.more_enumerators at x e es)) (with_enumerator x z e (past_strings (strings_maybe e) f)) (some_enumerators (number_in z +ℤ pos 1) es)
  member_specifiers : {f : FilePlace} {s : t.Specifiers} {ds : t.Declarators} {ms : t.Members} → FilePart f (some_members (t.more_members s ds ms)) f (file_specifiers of_members s)
  member_fields : {f g : FilePlace} {at : ℕ} {xs : t.SpecifierList} {q : Qualified} {ds : t.Declarators} {ms : t.Members}
      → Specify of_members f xs q g
      → FilePart f (some_members (t.more_members (t.specifiers at xs) ds ms)) g (some_fields q ds)
  other_members : {f g h : FilePlace} {at : ℕ} {xs : t.SpecifierList} {q : Qualified} {ds : t.Declarators} {ms : t.Members} {fields : List Member}
      → Specify of_members f xs q g
      → AreFields q g ds fields h
      → FilePart f (some_members (t.more_members (t.specifiers at xs) ds ms)) h (some_members ms)
  other_fields : {f : FilePlace} {q : Qualified} {d : t.Declarator} {ds : t.Declarators} → FilePart f (some_fields q (t.more_declarators d ds)) (past_strings (strings_of_declarator d) f) (some_fields q ds)
  other_declared : {f : FilePlace} {xs : t.SpecifierList} {q : Qualified} {d : t.Declarator} {i : t.MaybeInitializer} {ds : t.InitDeclarators} {y : Declared}
      → Declares f.context q d y
      → FilePart f (some_declared xs q (t.more_init_declarators d i ds)) (past_strings (given_strings f (completed y.type i) i) (past_declarator xs d y i f)) (some_declared xs q ds)

-- expressions, declarators and parameters in them
pub data FileInner : FilePlace → FileNode → Context → Node → Type 0 where
  enumerator_value : {f : FilePlace} {next : ℤ} {at : ℕ} {x : Name} {e : t.Expression} {es : t.Enumerators} → FileInner f (some_enumerators next (t.more_enumerators at x (t.an_expression e) es)) f.context (an_expression e)
  field_declarator : {f : FilePlace} {q : Qualified} {d : t.Declarator} {ds : t.Declarators} → FileInner f (some_fields q (t.more_declarators d ds)) f.context (a_declarator q d)
  file_declarator : {f : FilePlace} {xs : t.SpecifierList} {q : Qualified} {d : t.Declarator} {i : t.MaybeInitializer} {ds : t.InitDeclarators} → FileInner f (some_declared xs q (t.more_init_declarators d i ds)) f.context (a_declarator q d)
  function_declarator : {f g : FilePlace} {at : ℕ} {xs : t.SpecifierList} {q : Qualified} {d : t.Declarator} {b : t.Block}
      → Specify of_the_file f xs q g
      → FileInner f (an_external (t.function_definition (t.specifiers at xs) d b)) g.context (a_declarator q d)

-- a node in it whose first token is the k-th breaks the rule r
pub data FileBroken : FilePlace → FileNode → ℕ → ℕ → Type 0 where
  here_in_file : {f : FilePlace} {n : FileNode} {r : ℕ} → FileBreaks f r n → FileBroken f n r (file_token n)
  at_its_head : {f : FilePlace} {x : t.External} {r : ℕ} → HeadBreaks f r x → FileBroken f (an_external x) r (external_token x)
  within_file : {f g : FilePlace} {n m : FileNode} {r k : ℕ} → FilePart f n g m → FileBroken g m r k → FileBroken f n r k
  in_file_inner : {f : FilePlace} {c : Context} {n : FileNode} {m : Node} {r k : ℕ} → FileInner f n c m → Broken c m r k → FileBroken f n r k
  in_static_initialiser : {f : FilePlace} {xs : t.SpecifierList} {q : Qualified} {d : t.Declarator} {i : t.Initializer} {ds : t.InitDeclarators} {y : Declared} {r k : ℕ}
      → Declares f.context q d y
      → GivenBroken (past_declarator xs d y (t.an_initializer i) f).context (an_initialiser (completed y.type (t.an_initializer i)) 0 i) r k
      → FileBroken f (some_declared xs q (t.more_init_declarators d (t.an_initializer i) ds)) r k
  in_static_values : {f : FilePlace} {xs : t.SpecifierList} {q : Qualified} {d : t.Declarator} {i : t.Initializer} {ds : t.InitDeclarators} {y : Declared} {ps : List Item} {r k : ℕ}
      → Declares f.context q d y
      → Initialised (past_declarator xs d y (t.an_initializer i) f).context (completed y.type (t.an_initializer i)) 0 i ps
      → RefusedItem (past_strings (given_strings f (completed y.type (t.an_initializer i)) (t.an_initializer i)) (past_declarator xs d y (t.an_initializer i) f)) r k ps
      → FileBroken f (some_declared xs q (t.more_init_declarators d (t.an_initializer i) ds)) r k
  in_body : {f g : FilePlace} {at at' : ℕ} {xs : t.SpecifierList} {q : Qualified} {d : t.Declarator} {is : t.BlockItems} {y : Declared} {ps : List Declared} {r k : ℕ}
      → Specify of_the_file f xs q g
      → Declares g.context q d y
      → AreParameters (in_new_scope g.context) 0 (own_parameters (nearest d)) ps
      → BodyBroken (body_site (past_head xs d y g) (result_of y.type) (own_parameters (nearest d)) (parameters_of (own_parameters (nearest d)) ps)) (some_items is) r k
      → FileBroken f (an_external (t.function_definition (t.specifiers at xs) d (t.block at' is))) r k

-- a node of the unit whose first token is the k-th breaks the rule r; of the rule on `main` the node is the unit
pub data UnitBroken (u : t.Tree) : ℕ → ℕ → Type 0 where
  in_externals : {r k : ℕ} → FileBroken (file_start u) (some_externals u) r k → UnitBroken u r k
  at_unit : {e : FilePlace} {gs : List FirstValues} {ks : List Func} {r : ℕ} → AreExternals (file_start u) u gs ks e → Refuses r (main_asks e.context.scopes) → UnitBroken u r 0
