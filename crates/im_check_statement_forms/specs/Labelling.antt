-- The labels of a switch that the checker's state stands for.
use Rattle.std.specs.Prelude.{◌≡◌, ℕ, ℤ, Bool, true, not, List, [], ◌∷◌, ◌++◌, Option, Some, None}
use Rattle.std.specs.Ordering.{int_cmp}
use Rattle.std.specs.BTreeSet.{contains}
use Rattle.im_ctree.specs.Tree as t
use Rattle.im_ctype.specs.declared.integer.Integer.{Integer}
use Rattle.im_ctype.specs.Table.{structs_of}
use Rattle.im_typed.specs.declared.statement.Case.{Case}
use Rattle.im_typed.specs.ProgramOf.{expr_of}
use Rattle.im_check_locals.specs.im_rules.Rules.{is_among}
use Rattle.im_check_locals.specs.im_rules.Conversions.{as_integer}
use Rattle.im_check_locals.specs.im_rules.Demands.{Meets}
use Rattle.im_check_locals.specs.im_rules.Statements as s
use Rattle.im_check_locals.specs.im_rules.Strings.{strings_in}
use Rattle.im_check_locals.specs.im_rules.Terms as r
use Rattle.im_check_locals.specs.im_rules.Typed.{Typed}
use Rattle.im_check_locals.specs.im_rules.Breaks.{an_expression}
use Rattle.im_check_locals.specs.im_rules_limits.Limits.{IsWithin}
use Rattle.im_check_place.specs.Contexts.{context_of}
use Rattle.im_check_sites.specs.declared.body.Body.{Body}
use Rattle.im_check_statement_forms.specs.declared.labels.Selector.{Selector}
use Rattle.im_check_statement_forms.specs.declared.labels.Labels.{Labels}
use Rattle.im_check_sites.specs.Sites.{IsPast}

-- the constants of cases, the last one first
abbrev pub constants_behind : List ℤ → List Case → List ℤ
constants_behind zs [] = zs
constants_behind zs (c ∷ cs) = constants_behind (c.value ∷ zs) cs

abbrev pub defaults_in : Option ℕ → ℕ
defaults_in None = 0
defaults_in (Some n) = 1

-- where a switch goes without a case: to `default`, or behind so many statements
abbrev pub place_of : Option ℕ → ℕ → ℕ
place_of None n = n
place_of (Some m) n = m

abbrev pub labels_of : Labels → s.Labels
labels_of l = record { constants = constants_behind [] l.cases.items; defaults = defaults_in l.otherwise }

abbrev pub no_labels : s.Labels
no_labels = record { constants = []; defaults = 0 }

-- the set has the constants of the cases
abbrev pub Tells : Labels → Type 0
Tells l = (z : ℤ) → contains int_cmp l.seen z ≡ is_among z (constants_behind [] l.cases.items)

-- a case is added, unless its constant is that of another one
pub record CaseAdded (before after : Labels) (z : ℤ) (n : ℕ) (fresh : Bool) : Type 0 where
  pub is_fresh : fresh ≡ not (is_among z (constants_behind [] before.cases.items))
  pub cases : fresh ≡ true → after.cases.items ≡ before.cases.items ++ s.case_at z n ∷ []
  pub otherwise : after.otherwise ≡ before.otherwise
  pub told : fresh ≡ true → Tells after

pub record DefaultAdded (before after : Labels) (n : ℕ) : Type 0 where
  pub meets : Meets (s.default_asks (labels_of before))
  pub none : before.otherwise ≡ None
  pub cases : after.cases.items ≡ before.cases.items
  pub otherwise : after.otherwise ≡ Some n
  pub told : Tells after

-- a case's expression is typed and meets what is asked, and the case is added
pub record CaseDone (body : Body) (e : t.Expression) (ty : Integer) (n : ℕ) (before : Labels) (body' : Body) (after : Labels) : Type 0 where
  pub term : r.Term
  pub typed : Typed (context_of body.place) e term
  pub past : IsPast (s.just_strings (strings_in e)) body body'
  pub within : IsWithin (context_of body.place) (an_expression e)
  pub meets : Meets (s.case_asks ty term (labels_of before))
  pub cases : after.cases.items ≡ before.cases.items ++ s.case_at (s.label_value ty (r.constant_in term)) n ∷ []
  pub otherwise : after.otherwise ≡ before.otherwise
  pub told : Tells after

-- what a switch selects by
pub record IsSelected (before : Body) (e : t.Expression) (after : Body) (x : Selector) : Type 0 where
  pub term : r.Term
  pub typed : Typed (context_of before.place) e term
  pub past : IsPast (s.just_strings (strings_in e)) before after
  pub within : IsWithin (context_of before.place) (an_expression e)
  pub meets : Meets (s.switch_asks term)
  pub type : x.ty ≡ s.switch_type (r.value_of (structs_of before.place.structs) term)
  pub is : expr_of before.place.structs x.value ≡ as_integer (s.switch_type (r.value_of (structs_of before.place.structs) term)) (r.value_of (structs_of before.place.structs) term)
