-- From what a node's makers answer to what the walk owes.
use Rattle.std.proofs.Common.{◌≡◌, ℕ, List, Result, Ok, Err, sym, subst}
use Rattle.im_check_declarators.specs.im_ctree.Tree as t
use Rattle.im_rules.specs.Context.{Context}
use Rattle.im_rules.specs.Terms as r
use Rattle.im_rules.specs.Demands.{Demand, Meets, Refuses}
use Rattle.im_rules.specs.Strings.{strings_in}
use Rattle.im_rules.specs.Typed.{Typed}
use Rattle.im_rules.specs.Breaks.{Breaks, Node, an_expression, Part, Broken, here, within, first_token, token_of}
use Rattle.im_check_declarators.specs.im_rules_limits.Limits.{size_within, IsWithin}
use Rattle.im_check_declarators.specs.im_check_stop.declared.stop.Stop.{Stop}
use Rattle.im_check_declarators.specs.im_check_stop.declared.stop.Stop.TheVariants.{Rule, Large, Memory}
use Rattle.im_check_declarators.specs.im_check_stop.Answers.{IsRefusal}
use Rattle.im_check_operands.specs.declared.term.Term.{Term}
use Rattle.im_check_operands.specs.Answers.{IsMade}
use Rattle.im_check_declarators.specs.Suffixes.{IsFault}
use Rattle.im_check_place.specs.declared.place.Place.{Place}
use Rattle.im_check_place.specs.Contexts.{context_of, behind_strings}
use Rattle.im_check_expression_parts.specs.Walked.{IsTyped}

-- a rule's refusal at any node
pub refused_here : {c : Context} {n : Node} (asked : List Demand) → ((rule : ℕ) → Refuses rule asked → Breaks c rule n) → (f : Stop) → IsRefusal asked (token_of n) f → IsFault c n f
refused_here {c = c} {n = n} asked breaks (Rule rule at) h =
    subst (λ z. Broken c n rule z) (sym h.1) (here (breaks rule h.0))
refused_here asked breaks (Large bytes) h = absurd h
refused_here asked breaks Memory h = tt

-- a fault of a part
pub fault_of : {c d : Context} {n m : Node} → Part c n d m → (f : Stop) → IsFault d m f → IsFault c n f
fault_of p (Rule rule at) b = within p b
fault_of p (Large bytes) b = (size_within p b.0, b.1)
fault_of p Memory b = tt

-- a term that is made
pub made : (p after : Place) {e : t.Expression} (asked : List Demand) (y : r.Term) (result : Result Term Stop)
    → (Meets asked → Typed (context_of p) e y)
    → ((rule : ℕ) → Refuses rule asked → Breaks (context_of p) rule (an_expression e))
    → after ≡ behind_strings (strings_in e) p
    → IsWithin (context_of p) (an_expression e)
    → IsMade p.structs asked y (first_token e) result
    → IsTyped p e after result
made p after {e = e} asked y (Ok x) typed breaks q w m = (subst (λ z. Typed (context_of p) e z) (sym m.1) (typed m.0), q, w)
made p after asked y (Err f) typed breaks q w m = refused_here asked breaks f m
