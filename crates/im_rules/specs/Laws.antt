-- What is said of what is typed: it is typed to one thing, and no node in it breaks a rule.
use Rattle.std.specs.Prelude.{◌≡◌, ℕ, List}
use Rattle.im_ctree.specs.Tree as t
use Rattle.im_typed.specs.im_ctype.Types.{CType}
use Rattle.im_typed.specs.Program.{Stmt, Stmts, Prog}
use Rattle.im_rules.specs.Context.{Context}
use Rattle.im_rules.specs.Terms.{Term}
use Rattle.im_rules.specs.Declared.{Qualified, Declared}
use Rattle.im_rules.specs.Typed.{Typed, Names, Declares}
use Rattle.im_rules.specs.Breaks.{Broken, an_expression, a_type_name, a_declarator}
use Rattle.im_rules.specs.Initialisers.{Item, Initialised}
use Rattle.im_rules.specs.Statements.{Site, Added, TypedStatement, TypedItems}
use Rattle.im_rules.specs.BodyBreaks.{GivenBroken, an_initialiser, BodyBroken, a_statement, some_items}
use Rattle.im_rules.specs.TypedUnit.{TypedUnit}
use Rattle.im_rules.specs.UnitBreaks.{UnitBroken}

abbrev pub IsTypedOnce : Type 0
IsTypedOnce = (c : Context) (e : t.Expression) (x y : Term) → Typed c e x → Typed c e y → x ≡ y

abbrev pub NamesOnce : Type 0
NamesOnce = (c : Context) (n : t.TypeName) (x y : Qualified) → Names c n x → Names c n y → x ≡ y

abbrev pub DeclaresOnce : Type 0
DeclaresOnce = (c : Context) (q : Qualified) (e : t.Declarator) (x y : Declared) → Declares c q e x → Declares c q e y → x ≡ y

abbrev pub TypedBreaksNone : Type 0
TypedBreaksNone = (c : Context) (e : t.Expression) (x : Term) (rule token : ℕ) → Typed c e x → Broken c (an_expression e) rule token → ⊥

abbrev pub NamedBreaksNone : Type 0
NamedBreaksNone = (c : Context) (n : t.TypeName) (q : Qualified) (rule token : ℕ) → Names c n q → Broken c (a_type_name n) rule token → ⊥

abbrev pub DeclaredBreaksNone : Type 0
DeclaredBreaksNone = (c : Context) (q : Qualified) (e : t.Declarator) (d : Declared) (rule token : ℕ) → Declares c q e d → Broken c (a_declarator q e) rule token → ⊥

-- initialisers, statements and blocks

abbrev pub InitialisedOnce : Type 0
InitialisedOnce = (c : Context) (a : CType) (at : ℕ) (i : t.Initializer) (ps qs : List Item) → Initialised c a at i ps → Initialised c a at i qs → ps ≡ qs

abbrev pub StatementOnce : Type 0
StatementOnce = (s : Site) (a : t.Statement) (u v : Stmt) (m n : Added) → TypedStatement s a u m → TypedStatement s a v n → (u ≡ v) × (m ≡ n)

abbrev pub ItemsOnce : Type 0
ItemsOnce = (s : Site) (is : t.BlockItems) (us vs : Stmts) (m n : Added) → TypedItems s is us m → TypedItems s is vs n → (us ≡ vs) × (m ≡ n)

abbrev pub InitialisedBreaksNone : Type 0
InitialisedBreaksNone = (c : Context) (a : CType) (at : ℕ) (i : t.Initializer) (ps : List Item) (rule token : ℕ) → Initialised c a at i ps → GivenBroken c (an_initialiser a at i) rule token → ⊥

abbrev pub StatementBreaksNone : Type 0
StatementBreaksNone = (s : Site) (a : t.Statement) (u : Stmt) (m : Added) (rule token : ℕ) → TypedStatement s a u m → BodyBroken s (a_statement a) rule token → ⊥

abbrev pub ItemsBreakNone : Type 0
ItemsBreakNone = (s : Site) (is : t.BlockItems) (us : Stmts) (m : Added) (rule token : ℕ) → TypedItems s is us m → BodyBroken s (some_items is) rule token → ⊥

-- units

abbrev pub UnitOnce : Type 0
UnitOnce = (u : t.Tree) (g h : Prog) → TypedUnit u g → TypedUnit u h → g ≡ h

abbrev pub UnitBreaksNone : Type 0
UnitBreaksNone = (u : t.Tree) (g : Prog) (rule token : ℕ) → TypedUnit u g → UnitBroken u rule token → ⊥
