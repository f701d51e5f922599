-- For private contracts: what is answered of enumeration constants.
use Rattle.std.specs.Prelude.{◌≡◌, ◌<◌, ◌≤◌, ℕ, ℤ, Option}
use Rattle.im_ctree.specs.Tree as t
use Rattle.im_rules.specs.Breaks.{Broken, an_expression}
use Rattle.im_rules.specs.FileScope.{FilePlace, past_strings}
use Rattle.im_rules.specs.Strings.{strings_maybe}
use Rattle.im_rules.specs.TypedUnit.{AreEnumerators, IsNumber}
use Rattle.im_rules.specs.UnitBreaks.{some_enumerators}
use Rattle.im_rules_limits.specs.Limits.{size_limit, Sized}
use Rattle.im_check_stop.specs.declared.stop.Stop.{Stop}
use Rattle.im_check_stop.specs.declared.stop.Stop.TheVariants.{Rule, Large, Memory}
use Rattle.im_check_file_specifiers.specs.Answers.{IsRest}

-- the sizes in what is written
abbrev pub ValueSized : FilePlace → t.MaybeExpression → ℕ → Type 0
ValueSized f t.no_expression bytes = ⊥
ValueSized f (t.an_expression e) bytes = Sized f.context (an_expression e) bytes

abbrev pub IsValueWithin : FilePlace → t.MaybeExpression → Type 0
IsValueWithin f e = (bytes : ℕ) → ValueSized f e bytes → bytes ≤ size_limit

-- a constant has that number, if it is a constant expression, the place is behind it, and its sizes are within the limit
abbrev pub IsNumbered : FilePlace → ℤ → t.MaybeExpression → FilePlace → Option ℤ → Type 0
IsNumbered before next e after z = IsNumber before.context next e z × (after ≡ past_strings (strings_maybe e) before) × IsValueWithin before e

-- what is written breaks a rule
abbrev pub ValueBroken : FilePlace → t.MaybeExpression → ℕ → ℕ → Type 0
ValueBroken f t.no_expression rule token = ⊥
ValueBroken f (t.an_expression e) rule token = Broken f.context (an_expression e) rule token

abbrev pub IsValueFault : FilePlace → t.MaybeExpression → Stop → Type 0
IsValueFault f e (Rule rule token) = ValueBroken f e rule token
IsValueFault f e (Large bytes) = ValueSized f e bytes × (size_limit < bytes)
IsValueFault f e Memory = Unit {0}

-- the first of constants is declared: whatever stands behind it is declared with it, and the others are the rest of all
pub record GoesOnEnumerators (before : FilePlace) (next : ℤ) (all : t.Enumerators) (then : ℤ) (rest : t.Enumerators) (after : FilePlace) : Type 0 where
  pub gives : (g : FilePlace) → AreEnumerators after then rest g → AreEnumerators before next all g
  pub behind : IsRest before (some_enumerators next all) after (some_enumerators then rest)
