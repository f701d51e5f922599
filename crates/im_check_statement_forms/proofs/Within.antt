-- Sizes in statements that have no statement in them, and in what a `for` begins with.
use Rattle.std.proofs.Common.{ℕ}
use Rattle.im_ctree.specs.Tree as t
use Rattle.im_check_locals.specs.im_rules.Breaks.{an_expression}
use Rattle.im_check_locals.specs.im_rules.Statements.{Site}
use Rattle.im_check_locals.specs.im_rules.BodyBreaks as b
use Rattle.im_check_locals.specs.im_rules_limits.Limits.{size_in_part, size_in_inner, size_in_step, IsWithin, IsBodyWithin}

pub nothing_within : {s : Site} {at : ℕ} → IsBodyWithin s (b.a_statement (t.expression_statement at t.no_expression))
nothing_within k (size_in_part p z) = elim p [ ]
nothing_within k (size_in_inner p z) = elim p [ ]
nothing_within k (size_in_step p z) = elim p [ ]

pub evaluated_within : {s : Site} {at : ℕ} {e : t.Expression} → IsWithin s.context (an_expression e) → IsBodyWithin s (b.a_statement (t.expression_statement at (t.an_expression e)))
evaluated_within h k (size_in_part p z) = elim p [ ]
evaluated_within h k (size_in_inner b.evaluated z) = h k z
evaluated_within h k (size_in_step p z) = elim p [ ]

pub return_within : {s : Site} {at : ℕ} → IsBodyWithin s (b.a_statement (t.return_statement at t.no_expression))
return_within k (size_in_part p z) = elim p [ ]
return_within k (size_in_inner p z) = elim p [ ]
return_within k (size_in_step p z) = elim p [ ]

pub returned_within : {s : Site} {at : ℕ} {e : t.Expression} → IsWithin s.context (an_expression e) → IsBodyWithin s (b.a_statement (t.return_statement at (t.an_expression e)))
returned_within h k (size_in_part p z) = elim p [ ]
returned_within h k (size_in_inner b.returned z) = h k z
returned_within h k (size_in_step p z) = elim p [ ]

pub break_within : {s : Site} {at : ℕ} → IsBodyWithin s (b.a_statement (t.break_statement at))
break_within k (size_in_part p z) = elim p [ ]
break_within k (size_in_inner p z) = elim p [ ]
break_within k (size_in_step p z) = elim p [ ]

pub continue_within : {s : Site} {at : ℕ} → IsBodyWithin s (b.a_statement (t.continue_statement at))
continue_within k (size_in_part p z) = elim p [ ]
continue_within k (size_in_inner p z) = elim p [ ]
continue_within k (size_in_step p z) = elim p [ ]

-- what a `for` begins with

pub begun_declaration_within : {s : Site} {d : t.Declaration} → IsBodyWithin s (b.a_declaration d) → IsBodyWithin s (b.a_beginning (t.for_declaration d))
begun_declaration_within h k (size_in_part b.begun_by z) = h k z
begun_declaration_within h k (size_in_inner p z) = elim p [ ]
begun_declaration_within h k (size_in_step p z) = elim p [ ]

pub begun_nothing_within : {s : Site} → IsBodyWithin s (b.a_beginning (t.for_expression t.no_expression))
begun_nothing_within k (size_in_part p z) = elim p [ ]
begun_nothing_within k (size_in_inner p z) = elim p [ ]
begun_nothing_within k (size_in_step p z) = elim p [ ]

pub begun_expression_within : {s : Site} {e : t.Expression} → IsWithin s.context (an_expression e) → IsBodyWithin s (b.a_beginning (t.for_expression (t.an_expression e)))
begun_expression_within h k (size_in_part p z) = elim p [ ]
begun_expression_within h k (size_in_inner b.begun z) = h k z
begun_expression_within h k (size_in_step p z) = elim p [ ]
