-- What the functions on terms answer.
use Rattle.std.specs.Prelude.{◌≡◌, ℕ, List, MatchResult, Result, Option, Some, None}
use Rattle.im_ctree.specs.declared.operator.BinaryOp.{BinaryOp}
use Rattle.im_ctype.specs.Table.{Table}
use Rattle.im_check_constancy.specs.im_rules.Terms as r
use Rattle.im_check_constancy.specs.im_rules.Demands.{Demand, Meets}
use Rattle.im_check_stop.specs.Answers.{IsRefusal}
use Rattle.im_check_stop.specs.declared.stop.Stop.{Stop}
use Rattle.im_check_operands.specs.declared.term.Term.{Term}
use Rattle.im_check_operands.specs.Shape.{term_in}

-- a term is made where all that is asked is so, and else the answer is a rule that refuses
abbrev pub IsMade : Table → List Demand → r.Term → ℕ → Result Term Stop → Type 0
IsMade types asked t at result = MatchResult result (λ x. Meets asked × (term_in types x ≡ t)) (IsRefusal asked at)

-- the rule that an assignment's value has to fit by
abbrev pub assigned_rule : Option BinaryOp → ℕ
assigned_rule None = 17
assigned_rule (Some op) = 30
