-- What a unit is refused for beside the rules: a count over its limit. Counts are the words of one function's parameters, the
-- bytes of one type, and the bytes of all statics.
use Rattle.std.specs.Prelude.{◌≡◌, ℕ, ◌+◌, ◌/◌, ◌<◌, ◌≤◌, List, [], ◌∷◌, ◌++◌, length, Option, Some, Contains}
use Rattle.im_rules.specs.im_word.Words.{Name}
use Rattle.im_rules.specs.im_ctree.im_num.declared.kind.Kind.{Kind}
use Rattle.im_rules.specs.im_ctree.im_num.Kinds.{kind_size}
use Rattle.im_rules.specs.im_ctree.Tree as t
use Rattle.im_rules.specs.im_ctype.declared.member.MemberPlace.{MemberPlace}
use Rattle.im_rules.specs.im_ctype.Types.{CType, CTypes, no_types, more_types, array, struct, Member, Structs, members_of}
use Rattle.im_rules.specs.im_ctype.Members.{places}
use Rattle.im_rules.specs.im_typed.Limits.{static_bytes}
use Rattle.im_rules.specs.im_typed.Program.{Func, Prog}
use Rattle.im_rules.specs.TypeTests.{parameters_of as types_given, result_of}
use Rattle.im_rules.specs.Scopes.{Scopes, Entity, a_function, a_typedef, meaning}
use Rattle.im_rules.specs.Outline.{Nearest, parameters, name_of, nearest}
use Rattle.im_rules.specs.Context.{Context, behind, behind_strings, in_new_scope}
use Rattle.im_rules.specs.Terms.{Term, kind_in, size_in, constant_in}
use Rattle.im_rules.specs.Demands.{Meets}
use Rattle.im_rules.specs.Declared.{Qualified, Declared, array_of, length_asks, parameters_of}
use Rattle.im_rules.specs.Typed.{Typed, Declares, Suffixed, AreParameters}
use Rattle.im_rules.specs.Breaks.{Node, an_expression, some_suffixes, Part}
use Rattle.im_rules.specs.Initialisers.{shape, one, elements, members, completed, strings_given}
use Rattle.im_rules.specs.Statements.{Site, with_local}
use Rattle.im_rules.specs.BodyBreaks.{declarator_token, Given, an_initialiser, some_elements, some_members, BodyNode, some_locals, some_items, InnerPart, StepPart, BodyPart}
use Rattle.im_rules.specs.FileScope.{FilePlace, file_start, of_the_file, with_list_begun, with_struct, own_parameters}
use Rattle.im_rules.specs.TypedUnit.{Specify, AreMembers, FirstValues, past_declarator, body_site, past_head, AreExternals, TypedUnit}
use Rattle.im_rules.specs.UnitBreaks.{FileNode, some_externals, an_external, some_declared, some_named, FilePart, FileInner}

-- parameters, of each function that a declarator at file scope declares: what they weigh is the words in which they are passed.
-- Of what types they are is told by the function's name where the unit ends, since a name keeps its type (rule 3)

-- the words of 4 bytes that hold a value of a kind
abbrev pub words_of : Kind → ℕ
words_of k = (kind_size k + 3) / 4

abbrev pub words_in : CTypes → ℕ
words_in no_types = 0
words_in (more_types p ps) = words_of (kind_in p) + words_in ps

-- of a function, and of a function type that a typedef name stands for
abbrev pub words_meant : Option Entity → ℕ
words_meant (Some (a_function k c a)) = words_in (types_given a)
words_meant (Some (a_typedef c a)) = words_in (types_given a)
words_meant e = 0

-- a function where it is declared: the first token of its declarator, and its name
pub record Head : Type 0 where
  pub token : ℕ
  pub name : Name

abbrev pub head_in : t.Declarator → Head
head_in d = record { token = declarator_token d; name = name_of d }

-- where parameters stand next to the name
abbrev pub head_by : Nearest → t.Declarator → List Head
head_by (parameters ps) d = head_in d ∷ []
head_by n d = []

abbrev pub heads_of : t.Declarator → List Head
heads_of d = head_by (nearest d) d

abbrev pub heads_declared : t.InitDeclarators → List Head
heads_declared t.no_init_declarators = []
heads_declared (t.more_init_declarators d i ds) = heads_of d ++ heads_declared ds

abbrev pub heads_external : t.External → List Head
heads_external (t.external_declaration (t.declaration s ds)) = heads_declared ds
heads_external (t.function_definition s d b) = heads_of d

-- in the order of their declarators
abbrev pub function_heads : t.Tree → List Head
function_heads t.no_externals = []
function_heads (t.more_externals x xs) = heads_external x ++ function_heads xs

abbrev pub words_taken : Scopes → List Head → List ℕ
words_taken g [] = []
words_taken g (h ∷ hs) = words_meant (meaning g h.name) ∷ words_taken g hs

abbrev pub parameter_counts : Scopes → t.Tree → List ℕ
parameter_counts g u = words_taken g (function_heads u)

-- the most words of a function's parameters
abbrev pub parameter_limit : ℕ
parameter_limit = 8

-- the first of these counts that is over that limit
pub record IsFirstOver (counts : List ℕ) (n : ℕ) : Type 0 where
  pub before : List ℕ
  pub behind : List ℕ
  pub place : counts ≡ before ++ n ∷ behind
  pub within : (m : ℕ) → Contains before m → m ≤ parameter_limit
  pub over : parameter_limit < n

-- sizes, of each type that a node names or completes. Of types in one another the innermost over the limit is counted, so an
-- array's element and a struct's members are within it

abbrev pub size_limit : ℕ
size_limit = 1048576

abbrev pub size_of_element : Structs → CType → ℕ
size_of_element known (array e n) = size_in known e
size_of_element known a = 0

-- the type's own size counts, or that of its elements, and so on inward
pub data Counted (known : Structs) : CType → ℕ → Type 0 where
  own_size : {a : CType} → size_of_element known a ≤ size_limit → Counted known a (size_in known a)
  size_in_element : {e : CType} {n k : ℕ} → Counted known e k → Counted known (array e n) k

abbrev pub AreMembersWithin : Structs → List Member → Type 0
AreMembersWithin known ms = (m : Member) → Contains ms m → size_in known m.type ≤ size_limit

pub data HasSize (c : Context) : Node → ℕ → Type 0 where
  of_array : {at : ℕ} {q r : Qualified} {e : t.Expression} {ss : t.Suffixes} {x : Term}
      → Suffixed (behind e c) q ss r
      → Typed c e x
      → Meets (length_asks c r (constant_in x))
      → size_in c.known r.type ≤ size_limit
      → HasSize c (some_suffixes q (t.array_suffix at (t.an_expression e) ss)) (size_in c.known (array_of r (constant_in x)).type)
  of_string : {at : ℕ} {s : Name} → HasSize c (an_expression (t.string_literal at s)) (length s + 1)

-- in an expression, a type name or a declarator
pub data Sized : Context → Node → ℕ → Type 0 where
  size_here : {c : Context} {n : Node} {k : ℕ} → HasSize c n k → Sized c n k
  size_within : {c b : Context} {n m : Node} {k : ℕ} → Part c n b m → Sized b m k → Sized c n k

-- in an initialiser
pub data GivenSized : Context → Given → ℕ → Type 0 where
  size_in_value : {c : Context} {a : CType} {at k : ℕ} {i : t.Initializer} {e : t.Expression}
      → shape a i ≡ one e
      → Sized c (an_expression e) k
      → GivenSized c (an_initialiser a at i) k
  size_in_elements : {c : Context} {a b : CType} {at k : ℕ} {i : t.Initializer} {is : t.Initializers}
      → shape a i ≡ elements b is
      → GivenSized c (some_elements b at is) k
      → GivenSized c (an_initialiser a at i) k
  size_in_members : {c : Context} {a : CType} {n at k : ℕ} {i : t.Initializer} {is : t.Initializers}
      → shape a i ≡ members n is
      → GivenSized c (some_members (members_of c.known n) (places c.known n) at is) k
      → GivenSized c (an_initialiser a at i) k
  size_in_first_element : {c : Context} {b : CType} {at k : ℕ} {i : t.Initializer} {is : t.Initializers}
      → GivenSized c (an_initialiser b at i) k
      → GivenSized c (some_elements b at (t.more_initializers i is)) k
  size_in_other_elements : {c : Context} {b : CType} {at k : ℕ} {i : t.Initializer} {is : t.Initializers}
      → GivenSized (behind_strings (strings_given c.known b i) c) (some_elements b (at + size_in c.known b) is) k
      → GivenSized c (some_elements b at (t.more_initializers i is)) k
  size_in_first_member : {c : Context} {m : Member} {ms : List Member} {o : MemberPlace} {os : List MemberPlace} {at k : ℕ} {i : t.Initializer} {is : t.Initializers}
      → GivenSized c (an_initialiser m.type (at + o.offset) i) k
      → GivenSized c (some_members (m ∷ ms) (o ∷ os) at (t.more_initializers i is)) k
  size_in_other_members : {c : Context} {m : Member} {ms : List Member} {o : MemberPlace} {os : List MemberPlace} {at k : ℕ} {i : t.Initializer} {is : t.Initializers}
      → GivenSized (behind_strings (strings_given c.known m.type i) c) (some_members ms os at is) k
      → GivenSized c (some_members (m ∷ ms) (o ∷ os) at (t.more_initializers i is)) k

-- in a body; an array whose length its initialiser gives is completed there
pub data BodySized : Site → BodyNode → ℕ → Type 0 where
  of_local : {s : Site} {q : Qualified} {d : t.Declarator} {i : t.MaybeInitializer} {ds : t.InitDeclarators} {y : Declared} {k : ℕ}
      → Declares s.context q d y
      → Counted s.context.known (completed y.type i) k
      → BodySized s (some_locals q (t.more_init_declarators d i ds)) k
  size_in_part : {s z : Site} {n m : BodyNode} {k : ℕ} → BodyPart s n z m → BodySized z m k → BodySized s n k
  size_in_inner : {s : Site} {c : Context} {n : BodyNode} {m : Node} {k : ℕ} → InnerPart s n c m → Sized c m k → BodySized s n k
  size_in_step : {s : Site} {c : Context} {n : BodyNode} {m : Node} {k : ℕ} → StepPart s n c m → Sized c m k → BodySized s n k
  size_in_local_initialiser : {s : Site} {q : Qualified} {d : t.Declarator} {i : t.Initializer} {ds : t.InitDeclarators} {y : Declared} {k : ℕ}
      → Declares s.context q d y
      → GivenSized (with_local d y (completed y.type (t.an_initializer i)) s).context (an_initialiser (completed y.type (t.an_initializer i)) 0 i) k
      → BodySized s (some_locals q (t.more_init_declarators d (t.an_initializer i) ds)) k

-- at file scope; a struct is completed where its list ends
pub data FileSized : FilePlace → FileNode → ℕ → Type 0 where
  of_struct : {f g : FilePlace} {first at : ℕ} {x : Option Name} {ms : t.Members} {ss : List t.Specifier} {fields : List Member}
      → AreMembers (with_list_begun at x f) ms fields g
      → AreMembersWithin (with_struct fields g).context.known fields
      → FileSized f (some_named first (t.struct_specifier at x ms ∷ ss)) (size_in (with_struct fields g).context.known (struct (length g.context.known)))
  of_member : {f g : FilePlace} {first at k : ℕ} {x : Option Name} {ms : t.Members} {ss : List t.Specifier} {fields : List Member} {m : Member}
      → AreMembers (with_list_begun at x f) ms fields g
      → Contains fields m
      → Counted (with_struct fields g).context.known m.type k
      → FileSized f (some_named first (t.struct_specifier at x ms ∷ ss)) k
  of_static : {f : FilePlace} {xs : t.SpecifierList} {q : Qualified} {d : t.Declarator} {i : t.MaybeInitializer} {ds : t.InitDeclarators} {y : Declared} {k : ℕ}
      → Declares f.context q d y
      → Counted f.context.known (completed y.type i) k
      → FileSized f (some_declared xs q (t.more_init_declarators d i ds)) k
  size_in_file_part : {f g : FilePlace} {n m : FileNode} {k : ℕ} → FilePart f n g m → FileSized g m k → FileSized f n k
  size_in_file_inner : {f : FilePlace} {c : Context} {n : FileNode} {m : Node} {k : ℕ} → FileInner f n c m → Sized c m k → FileSized f n k
  size_in_static_initialiser : {f : FilePlace} {xs : t.SpecifierList} {q : Qualified} {d : t.Declarator} {i : t.Initializer} {ds : t.InitDeclarators} {y : Declared} {k : ℕ}
      → Declares f.context q d y
      → GivenSized (past_declarator xs d y (t.an_initializer i) f).context (an_initialiser (completed y.type (t.an_initializer i)) 0 i) k
      → FileSized f (some_declared xs q (t.more_init_declarators d (t.an_initializer i) ds)) k
  size_in_body : {f g : FilePlace} {at at' : ℕ} {xs : t.SpecifierList} {q : Qualified} {d : t.Declarator} {is : t.BlockItems} {y : Declared} {ps : List Declared} {k : ℕ}
      → Specify of_the_file f xs q g
      → Declares g.context q d y
      → AreParameters (in_new_scope g.context) 0 (own_parameters (nearest d)) ps
      → BodySized (body_site (past_head xs d y g) (result_of y.type) (own_parameters (nearest d)) (parameters_of (own_parameters (nearest d)) ps)) (some_items is) k
      → FileSized f (an_external (t.function_definition (t.specifiers at xs) d (t.block at' is))) k

-- no size in a node is over the limit

abbrev pub IsWithin : Context → Node → Type 0
IsWithin c n = (k : ℕ) → Sized c n k → k ≤ size_limit

abbrev pub IsGivenWithin : Context → Given → Type 0
IsGivenWithin c n = (k : ℕ) → GivenSized c n k → k ≤ size_limit

abbrev pub IsBodyWithin : Site → BodyNode → Type 0
IsBodyWithin s n = (k : ℕ) → BodySized s n k → k ≤ size_limit

abbrev pub IsFileWithin : FilePlace → FileNode → Type 0
IsFileWithin f n = (k : ℕ) → FileSized f n k → k ≤ size_limit

pub data Limit : Type 0 where
  of_parameters of_size of_statics : Limit

-- a count of the unit is over its limit
pub data Exceeds (u : t.Tree) : Limit → ℕ → Type 0 where
  too_many_parameters : {e : FilePlace} {gs : List FirstValues} {ks : List Func} {n : ℕ}
      → AreExternals (file_start u) u gs ks e
      → IsFirstOver (parameter_counts e.context.scopes u) n
      → Exceeds u of_parameters n
  too_large : {n : ℕ} → FileSized (file_start u) (some_externals u) n → size_limit < n → Exceeds u of_size n
  too_many_statics : {g : Prog} → TypedUnit u g → 1048576 < static_bytes g.statics → Exceeds u of_statics (static_bytes g.statics)

-- no count is
abbrev pub IsWithinLimits : t.Tree → Type 0
IsWithinLimits u = (l : Limit) (n : ℕ) → Exceeds u l n → ⊥
