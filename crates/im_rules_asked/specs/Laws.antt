-- What is said of these functions.
use Rattle.std.specs.Prelude.{◌≡◌, ◌⊎◌, ℕ, Some, None}
use Rattle.im_rules.specs.im_ctree.Tree as t
use Rattle.im_rules.specs.im_typed.Program.{Prog}
use Rattle.im_rules.specs.Context.{Context}
use Rattle.im_rules.specs.FileScope.{file_start}
use Rattle.im_rules.specs.Terms.{Term}
use Rattle.im_rules.specs.Declared.{Qualified, Declared}
use Rattle.im_rules.specs.Typed.{Typed as TypedExpression, Names, Declares}
use Rattle.im_rules.specs.TypedUnit.{TypedUnit}
use Rattle.im_rules.specs.UnitBreaks.{UnitBroken, some_externals}
use Rattle.im_rules_limits.specs.Limits.{Limit, of_size, FileSized, IsFileWithin, Exceeds, IsWithinLimits}
use Rattle.im_rules_asked.specs.Asked.{Asked, IsRight, HasFault, Fault}
use Rattle.im_rules_asked.specs.Expressions.{term, asked, named, name_asked, declared, declarator_asked}
use Rattle.im_rules_asked.specs.Units.{Typed, Breaks, unit, first_fault_of}
use Rattle.im_rules_asked.specs.Limits.{HasSize, first_over, IsExcess, Excess, first_excess_of, broken, large, first_stop_of}

-- of any tree of demands
abbrev pub RightHasNoFault : Type 0
RightHasNoFault = (a : Asked) (rule token : ℕ) → IsRight a → HasFault rule token a → ⊥

abbrev pub TypedBreaksNoRule : Type 0
TypedBreaksNoRule = (u : t.Tree) (g : Prog) (rule token : ℕ) → Typed u g → Breaks rule token u → ⊥

-- the relations of im_rules and these functions agree: what is typed is so to its term, and all that is asked of it is so

abbrev pub ExpressionIsAsked : Type 0
ExpressionIsAsked = (c : Context) (e : t.Expression) (x : Term) → TypedExpression c e x → IsRight (asked c e) × (term c e ≡ x)

abbrev pub NameIsAsked : Type 0
NameIsAsked = (c : Context) (n : t.TypeName) (q : Qualified) → Names c n q → IsRight (name_asked c n) × (named c n ≡ q)

abbrev pub DeclaratorIsAsked : Type 0
DeclaratorIsAsked = (c : Context) (q : Qualified) (e : t.Declarator) (d : Declared) → Declares c q e d → IsRight (declarator_asked c q e) × (declared c q e ≡ d)

-- and the other way round

abbrev pub AskedIsExpression : Type 0
AskedIsExpression = (c : Context) (e : t.Expression) → IsRight (asked c e) → TypedExpression c e (term c e)

abbrev pub AskedIsName : Type 0
AskedIsName = (c : Context) (n : t.TypeName) → IsRight (name_asked c n) → Names c n (named c n)

abbrev pub AskedIsDeclarator : Type 0
AskedIsDeclarator = (c : Context) (q : Qualified) (e : t.Declarator) → IsRight (declarator_asked c q e) → Declares c q e (declared c q e)

-- units: both define which ones are typed, and to which program

abbrev pub AskedIsUnit : Type 0
AskedIsUnit = (u : t.Tree) (g : Prog) → Typed u g → TypedUnit u g

abbrev pub UnitIsAsked : Type 0
UnitIsAsked = (u : t.Tree) (g : Prog) → TypedUnit u g → Typed u g

-- a node that the relations call broken has that fault
abbrev pub BrokenIsAsked : Type 0
BrokenIsAsked = (u : t.Tree) (rule token : ℕ) → UnitBroken u rule token → Breaks rule token u

-- so what computes decides: a unit without a first fault is typed, and one that is typed has none; a first fault is one

abbrev pub FaultlessIsTyped : Type 0
FaultlessIsTyped = (u : t.Tree) → first_fault_of u ≡ None → TypedUnit u (unit u)

abbrev pub TypedIsFaultless : Type 0
TypedIsFaultless = (u : t.Tree) (g : Prog) → TypedUnit u g → first_fault_of u ≡ None

abbrev pub FirstFaultIsOne : Type 0
FirstFaultIsOne = (u : t.Tree) (f : Fault) → first_fault_of u ≡ Some f → Breaks f.rule f.token u

-- what stands before a first fault is right, so it is one by the relations too: the node whose first token it has breaks the rule

abbrev pub FirstFaultIsBroken : Type 0
FirstFaultIsBroken = (u : t.Tree) (f : Fault) → first_fault_of u ≡ Some f → UnitBroken u f.rule f.token

-- so a unit is typed to a program or has a node that breaks a rule; never both, as `typed_breaks_none_law` of im_rules says
abbrev pub IsTypedOrBroken : Type 0
IsTypedOrBroken = (u : t.Tree) → ((g : Prog) × TypedUnit u g) ⊎ ((rule : ℕ) × (token : ℕ) × UnitBroken u rule token)

-- the sizes that the relations count in a unit are those that the functions give

abbrev pub SizedHasSize : Type 0
SizedHasSize = (u : t.Tree) (n : ℕ) → FileSized (file_start u) (some_externals u) n → HasSize n u

abbrev pub HasSizeIsSized : Type 0
HasSizeIsSized = (u : t.Tree) (n : ℕ) → HasSize n u → FileSized (file_start u) (some_externals u) n

-- a count exceeds its limit by the relations where it does by the functions

abbrev pub ExceedsIsExcess : Type 0
ExceedsIsExcess = (u : t.Tree) (l : Limit) (n : ℕ) → Exceeds u l n → IsExcess u l n

abbrev pub ExcessExceeds : Type 0
ExcessExceeds = (u : t.Tree) (l : Limit) (n : ℕ) → IsExcess u l n → Exceeds u l n

-- so what computes decides the limits too: a unit without a first excess is within them, and one that is within them has none;
-- a first excess is one

abbrev pub NoExcessIsWithin : Type 0
NoExcessIsWithin = (u : t.Tree) → first_excess_of u ≡ None → IsWithinLimits u

abbrev pub WithinHasNoExcess : Type 0
WithinHasNoExcess = (u : t.Tree) → IsWithinLimits u → first_excess_of u ≡ None

abbrev pub FirstExcessIsOne : Type 0
FirstExcessIsOne = (u : t.Tree) (e : Excess) → first_excess_of u ≡ Some e → Exceeds u e.limit e.count

-- a unit in which no size is over the limit has no first one
abbrev pub SmallHasNoLarge : Type 0
SmallHasNoLarge = (u : t.Tree) → IsFileWithin (file_start u) (some_externals u) → first_over of_size u ≡ None

-- and which comes first, a fault or a size over its limit: a unit without either is typed and has no such size; what comes first
-- is there

abbrev pub NoStopIsRight : Type 0
NoStopIsRight = (u : t.Tree) → first_stop_of u ≡ None → TypedUnit u (unit u) × IsFileWithin (file_start u) (some_externals u)

abbrev pub RightHasNoStop : Type 0
RightHasNoStop = (u : t.Tree) (g : Prog) → TypedUnit u g → IsFileWithin (file_start u) (some_externals u) → first_stop_of u ≡ None

abbrev pub FirstBrokenIsOne : Type 0
FirstBrokenIsOne = (u : t.Tree) (f : Fault) → first_stop_of u ≡ Some (broken f) → Breaks f.rule f.token u

abbrev pub FirstLargeIsOne : Type 0
FirstLargeIsOne = (u : t.Tree) (n : ℕ) → first_stop_of u ≡ Some (large n) → Exceeds u of_size n
