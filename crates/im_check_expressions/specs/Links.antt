-- Chains of expressions by their first operands.
use Rattle.std.specs.Prelude.{◌≡◌, Bool, true, false, Option, Some, None}
use Rattle.im_ctree.specs.Tree as t
use Rattle.im_check_expression_parts.specs.im_rules.Scopes.{Scopes}
use Rattle.im_check_expression_parts.specs.im_rules.Demands.{callee_of, is_function_meant}
use Rattle.im_check_expression_parts.specs.im_rules.Breaks.{a_type_name}
use Rattle.im_check_expression_parts.specs.im_rules.Strings.{strings_named}
use Rattle.im_check_expression_parts.specs.im_rules.Typed.{Names}
use Rattle.im_check_expression_parts.specs.im_rules_limits.Limits.{IsWithin}
use Rattle.im_check_scopes.specs.Shape.{scopes_of}
use Rattle.im_check_type_specifiers.specs.declared.qualified.Qualified.{Qualified}
use Rattle.im_check_type_specifiers.specs.Specified.{qualified_of}
use Rattle.im_check_place.specs.declared.place.Place.{Place}
use Rattle.im_check_place.specs.Contexts.{context_of, behind_strings}

-- what is called, unless that is a function's name
abbrev pub callee_if : Bool → t.Expression → Option t.Expression
callee_if true f = None
callee_if false f = Some f

-- the operand with which a chain goes on
abbrev pub first_of : Scopes → t.Expression → Option t.Expression
first_of s (t.index at a b) = Some a
first_of s (t.call at f xs) = callee_if (is_function_meant (callee_of s f)) f
first_of s (t.member_of at a m) = Some a
first_of s (t.arrow_to at a m) = Some a
first_of s (t.post_step at o a) = Some a
first_of s (t.cast at n a) = Some a
first_of s (t.comma at a b) = Some a
first_of s e = None

-- the type of a cast, and the place behind that type; none of another expression
abbrev pub IsNamed : Place → t.Expression → Option Qualified → Place → Type 0
IsNamed p (t.cast at n a) (Some ty) q = Names (context_of p) n (qualified_of ty) × (q ≡ behind_strings (strings_named n) p) × IsWithin (context_of p) (a_type_name n)
IsNamed p (t.cast at n a) None q = ⊥
IsNamed p e (Some ty) q = ⊥
IsNamed p e None q = q ≡ p

-- from an expression at a place to its first operand at the place before that operand
pub record IsLinked (p : Place) (e : t.Expression) (named : Option Qualified) (q : Place) (f : t.Expression) : Type 0 where
  pub first : first_of (scopes_of p.scope) e ≡ Some f
  pub type_named : IsNamed p e named q
