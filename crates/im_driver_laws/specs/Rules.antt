-- What a source's answer says of its typing and of the limits, in the words of the functions of
-- im_rules_asked.
use Rattle.std.specs.Prelude.{◌≡◌, ◌⊎◌, ℕ, List, Some, None}
use Rattle.im_fault.specs.declared.fault.LineFault.TheVariants.{Rule}
use Rattle.im_fault.specs.declared.fault.Place.{Place}
use Rattle.im_fault.specs.declared.fault.Quantity.{Quantity}
use Rattle.im_fault.specs.declared.fault.Quantity.TheVariants.{Parameters, Size, Statics}
use Rattle.im_fault.specs.declared.fault.SourceFault.TheVariants.{Line, Limit}
use Rattle.im_tok.specs.declared.token.Token.{Token}
use Rattle.im_ctree.specs.Tree as t
use Rattle.im_ctree.specs.declared.unit.Tree.{Tree}
use Rattle.im_ctree.specs.Shape.{tree_of}
use Rattle.im_front.specs.Reading.{place_of_token}
use Rattle.im_typed.specs.Program.{Prog}
use Rattle.im_check.specs.im_rules_limits.Limits as limits
use Rattle.im_rules_asked.specs.Asked.{Fault}
use Rattle.im_rules_asked.specs.Units.{Typed, Breaks, unit, first_fault_of}
use Rattle.im_rules_asked.specs.Limits.{IsExcess, first_over, first_excess_of}
use Rattle.im_driver.specs.Compiled.{IsTreeOf, IsProgramOf, IsRuleBroken, IsRefused}

-- the tokens of a source spell at most one unit
abbrev pub OneUnitLaw : Type 0
OneUnitLaw =
    (source : List ℕ) (ts us : List Token) (a b : Tree) → IsTreeOf source ts a → IsTreeOf source us b →
    tree_of a ≡ tree_of b

-- all that the rules ask of the source's unit is so, and it becomes this program, within the limits
pub record IsTypedTo (source : List ℕ) (prog : Prog) : Type 0 where
  pub tokens : List Token
  pub tree : Tree
  pub is_tree : IsTreeOf source tokens tree
  pub typed : Typed (tree_of tree) prog
  pub within : first_excess_of (tree_of tree) ≡ None

-- a node of the source's unit whose first token stands at this place breaks the rule; its parts are right
pub record IsFaultAt (source : List ℕ) (place : Place) (rule : ℕ) : Type 0 where
  pub tokens : List Token
  pub tree : Tree
  pub is_tree : IsTreeOf source tokens tree
  pub token : ℕ
  pub breaks : Breaks rule token (tree_of tree)
  pub is_place : place ≡ place_of_token source tokens token

-- these are the sources with a program

abbrev pub ProgramIsTypedLaw : Type 0
ProgramIsTypedLaw = (source : List ℕ) (prog : Prog) → IsProgramOf source prog → IsTypedTo source prog

abbrev pub TypedIsProgramLaw : Type 0
TypedIsProgramLaw = (source : List ℕ) (prog : Prog) → IsTypedTo source prog → IsProgramOf source prog

-- a source that is refused for a rule has that fault at that place
abbrev pub RefusedIsFaultLaw : Type 0
RefusedIsFaultLaw =
    (source : List ℕ) (place : Place) (rule : ℕ) → IsRefused source (Line place (Rule rule)) →
    IsFaultAt source place rule

-- a source that has a tree and is within the limits has a program, or a node of its tree breaks a rule
abbrev pub ProgramOrBrokenLaw : Type 0
ProgramOrBrokenLaw =
    (source : List ℕ) (tokens : List Token) (tree : Tree) → IsTreeOf source tokens tree →
    limits.IsWithinLimits (tree_of tree) →
    ((prog : Prog) × IsProgramOf source prog) ⊎ ((place : Place) × (rule : ℕ) × IsRuleBroken source place rule)

-- and never both
abbrev pub NeverBothLaw : Type 0
NeverBothLaw =
    (source : List ℕ) (prog : Prog) (place : Place) (rule : ℕ) → IsProgramOf source prog →
    IsRuleBroken source place rule → ⊥

-- the first fault of the source's unit, which is computed

pub record HasFirstFault (u : t.Tree) : Type 0 where
  pub fault : Fault
  pub is_first : first_fault_of u ≡ Some fault

-- where there is none, the source has the program that is computed, within the limits
abbrev pub FaultlessHasProgramLaw : Type 0
FaultlessHasProgramLaw =
    (source : List ℕ) (tokens : List Token) (tree : Tree) → IsTreeOf source tokens tree →
    first_fault_of (tree_of tree) ≡ None → first_excess_of (tree_of tree) ≡ None →
    IsProgramOf source (unit (tree_of tree))

-- a source with a program has none
abbrev pub ProgramHasNoFaultLaw : Type 0
ProgramHasNoFaultLaw =
    (source : List ℕ) (prog : Prog) (tokens : List Token) (tree : Tree) → IsProgramOf source prog →
    IsTreeOf source tokens tree → first_fault_of (tree_of tree) ≡ None

-- a source that is refused for a rule has one
abbrev pub RefusedHasFaultLaw : Type 0
RefusedHasFaultLaw =
    (source : List ℕ) (place : Place) (rule : ℕ) (tokens : List Token) (tree : Tree) →
    IsRefused source (Line place (Rule rule)) → IsTreeOf source tokens tree → HasFirstFault (tree_of tree)

-- the limits

-- a count of the source's unit is over its limit
pub record IsExcessOf (source : List ℕ) (limit : limits.Limit) (count : ℕ) : Type 0 where
  pub tokens : List Token
  pub tree : Tree
  pub is_tree : IsTreeOf source tokens tree
  pub excess : IsExcess (tree_of tree) limit count

-- as it is told
abbrev pub quantity_of : limits.Limit → Quantity
quantity_of limits.of_parameters = Parameters
quantity_of limits.of_size = Size
quantity_of limits.of_statics = Statics

-- a source with a program has none
abbrev pub ProgramHasNoExcessLaw : Type 0
ProgramHasNoExcessLaw =
    (source : List ℕ) (prog : Prog) (tokens : List Token) (tree : Tree) → IsProgramOf source prog →
    IsTreeOf source tokens tree → first_excess_of (tree_of tree) ≡ None

-- a source that is refused for a limit has that one
abbrev pub RefusedIsExcessLaw : Type 0
RefusedIsExcessLaw =
    (source : List ℕ) (limit : limits.Limit) (count : ℕ) →
    IsRefused source (Limit (quantity_of limit) count) → IsExcessOf source limit count

-- one that is refused for its statics has no size over the limit
abbrev pub StaticsAreLastLaw : Type 0
StaticsAreLastLaw =
    (source : List ℕ) (count : ℕ) (tokens : List Token) (tree : Tree) →
    IsRefused source (Limit Statics count) → IsTreeOf source tokens tree →
    first_over limits.of_size (tree_of tree) ≡ None
