-- For private contracts: what is answered of the head of a function definition.
use Rattle.std.specs.Prelude.{◌≡◌, ℕ, true, map}
use Rattle.im_ctree.specs.Tree as t
use Rattle.im_rules.specs.Breaks.{a_declarator}
use Rattle.im_rules.specs.Context.{Context, in_new_scope}
use Rattle.im_rules.specs.Declared.{Qualified}
use Rattle.im_rules.specs.Demands.{Meets}
use Rattle.im_rules.specs.FileScope.{FilePlace, of_the_file, file_asks, own_parameters, body_asks}
use Rattle.im_rules.specs.Outline.{nearest}
use Rattle.im_rules.specs.Typed.{Declares, AreParameters}
use Rattle.im_rules.specs.TypedUnit.{Specify, past_head}
use Rattle.im_rules.specs.UnitBreaks.{an_external, file_specifiers}
use Rattle.im_check_statements.specs.im_rules_limits.Limits.{IsWithin, IsFileWithin}
use Rattle.im_check_stop.specs.declared.stop.Stop.{Stop}
use Rattle.im_check_declarators.specs.Shape.{declared_of}
use Rattle.im_check_file_specifiers.specs.Answers.{IsFileFault}
use Rattle.im_check_file_functions.specs.declared.heads.Headed.{Headed}

-- where the next string literal has that number
abbrev pub at_string : ℕ → Context → Context
at_string n c = record c { next_string = n }

-- a head is typed, what is asked of it is so, and its sizes are within the limit; the place behind it
pub record HeadTyped (before : FilePlace) (xs : t.SpecifierList) (at : ℕ) (e : t.Declarator) (after : FilePlace) (h : Headed) : Type 0 where
  pub here : FilePlace
  pub base : Qualified
  pub specified : Specify of_the_file before xs base here
  pub declares : Declares here.context base e (declared_of h.declared)
  pub may_have_body : Meets (body_asks e (declared_of h.declared))
  pub meets : Meets (file_asks here xs (declared_of h.declared) (declared_of h.declared).type true)
  pub parameters : AreParameters (in_new_scope here.context) 0 (own_parameters (nearest e)) (map declared_of h.formals.items)
  pub behind : after ≡ past_head xs e (declared_of h.declared) here
  pub specifiers_within : IsFileWithin before (file_specifiers of_the_file (t.specifiers at xs))
  pub declarator_within : IsWithin here.context (a_declarator base e)

abbrev pub HeadDone : FilePlace → t.Specifiers → t.Declarator → FilePlace → Headed → Type 0
HeadDone before (t.specifiers at xs) e after h = HeadTyped before xs at e after h

-- its fault is one of the definition, whatever its body is
abbrev pub IsHeadFault : FilePlace → t.Specifiers → t.Declarator → Stop → Type 0
IsHeadFault f s e stop = (b : t.Block) → IsFileFault f (an_external (t.function_definition s e b)) stop
