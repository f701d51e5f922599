-- Places in a body of which the program has all that is added there.
use Rattle.std.specs.Prelude.{◌≡◌, ℕ, ◌+◌, ◌≤◌, true, List, Some, slice_get}
use Rattle.im_typed.specs.Program.{LocalObject, Stmt, Func, Prog}
use Rattle.im_typed.specs.Typing.{Each, IsObject, IsTypedStmt}
use Rattle.im_rules.specs.Rules.{rule_9_result, rule_34_break, rule_34_continue}
use Rattle.im_rules.specs.Statements.{Site, Added}
use Rattle.im_rules.specs.TypedUnit.{result_kind}
use Rattle.im_rules_sound_expressions.specs.Bounded.{IsSoundContext, HasStrings}

-- these objects are some of all, from a number on
abbrev pub StandFrom : List LocalObject → ℕ → List LocalObject → Type 0
StandFrom all n os = (i : ℕ) (o : LocalObject) → slice_get os i ≡ Some o → slice_get all (n + i) ≡ Some o

-- the program has what names mean at the site, the literals and objects that are added there, and its result
pub record IsSoundSite (g : Prog) (f : Func) (s : Site) (added : Added) : Type 0 where
  pub context : IsSoundContext g f s.context
  pub strings : HasStrings g s.context added.strings
  pub objects : StandFrom f.objects s.locals added.objects
  pub result : f.result ≡ result_kind s.result
  pub scalar : rule_9_result s.result ≡ true

abbrev pub AreObjects : List LocalObject → Type 0
AreObjects os = Each {A = LocalObject} (λ o. IsObject o.size o.cells) os

-- what a statement at a site is typed to is well typed there
abbrev pub IsTypedAt : Prog → Func → Site → Stmt → Type 0
IsTypedAt g f s u = IsTypedStmt g f (rule_34_break s.position) (rule_34_continue s.position) u
