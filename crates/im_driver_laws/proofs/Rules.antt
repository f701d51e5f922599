-- What the relations say of a source's unit, the functions say too.
use Rattle.std.proofs.Common.{◌≡◌, ℕ, List, Option, Some, None, ◌⊎◌, inl, inr, refl, subst}
use Rattle.im_fault.specs.declared.fault.Place.{Place}
use Rattle.im_tok.specs.declared.token.Token.{Token}
use Rattle.im_ctree.specs.Tree as t
use Rattle.im_ctree.specs.declared.unit.Tree.{Tree}
use Rattle.im_ctree.specs.Shape.{tree_of}
use Rattle.im_front.specs.Reading.{place_of_token}
use Rattle.im_typed.specs.Program.{Prog}
use Rattle.im_check.specs.im_rules_limits.Limits as limits
use Rattle.im_check.specs.im_rules.TypedUnit.{TypedUnit}
use Rattle.im_check.specs.im_rules.UnitBreaks.{UnitBroken}
use Rattle.im_check.specs.im_rules.Laws.{UnitBreaksNone}
use Rattle.im_rules_asked.specs.Asked.{Fault}
use Rattle.im_rules_asked.specs.Units.{unit, first_fault_of}
use Rattle.im_rules_asked.specs.Laws.{AskedIsUnit, UnitIsAsked, BrokenIsAsked}
use Rattle.im_rules_asked.specs.Laws.{FaultlessIsTyped, TypedIsFaultless, IsTypedOrBroken}
use Rattle.im_rules_asked.specs.Laws.{NoExcessIsWithin, WithinHasNoExcess}
use Rattle.im_driver.specs.Compiled.{IsTreeOf, IsProgramOf, IsRuleBroken}
use Rattle.im_driver_laws.specs.Rules.{OneUnitLaw, ProgramIsTypedLaw, TypedIsProgramLaw}
use Rattle.im_driver_laws.specs.Rules.{RefusedIsFaultLaw, HasFirstFault, FaultlessHasProgramLaw}
use Rattle.im_driver_laws.specs.Rules.{ProgramHasNoFaultLaw, RefusedHasFaultLaw}
use Rattle.im_driver_laws.specs.Rules.{ProgramOrBrokenLaw, NeverBothLaw}

pub is_typed : UnitIsAsked → WithinHasNoExcess → ProgramIsTypedLaw
is_typed asked few source prog h = record {
  tokens = h.tokens;
  tree = h.tree;
  is_tree = h.is_tree;
  typed = asked (tree_of h.tree) prog h.typed;
  within = few (tree_of h.tree) h.within;
}

pub is_program : AskedIsUnit → NoExcessIsWithin → TypedIsProgramLaw
is_program built few source prog h = record {
  tokens = h.tokens;
  tree = h.tree;
  is_tree = h.is_tree;
  typed = built (tree_of h.tree) prog h.typed;
  within = few (tree_of h.tree) h.within;
}

pub is_fault : BrokenIsAsked → RefusedIsFaultLaw
is_fault breaks source place rule r = record {
  tokens = r.tokens;
  tree = r.tree;
  is_tree = r.is_tree;
  token = r.token;
  breaks = breaks (tree_of r.tree) rule r.token r.broken;
  is_place = r.is_place;
}

pub has_program : FaultlessIsTyped → NoExcessIsWithin → FaultlessHasProgramLaw
has_program typed few source tokens tree is_tree none within = record {
  tokens = tokens;
  tree = tree;
  is_tree = is_tree;
  typed = typed (tree_of tree) none;
  within = few (tree_of tree) within;
}

pub has_none : OneUnitLaw → TypedIsFaultless → ProgramHasNoFaultLaw
has_none one faultless source prog tokens tree h is_tree =
    let same = one source h.tokens tokens h.tree tree h.is_tree is_tree in
    faultless (tree_of tree) prog (subst (λ (z : t.Tree). TypedUnit z prog) same h.typed)

-- a fault that isn't none
one_of :
    (u : t.Tree) (f : Option Fault) → first_fault_of u ≡ f → (first_fault_of u ≡ None → ⊥) →
    HasFirstFault u
one_of u None is not_none = absurd (not_none is)
one_of u (Some f) is not_none = record { fault = f; is_first = is }

pub has_one : OneUnitLaw → UnitBreaksNone → FaultlessIsTyped → RefusedHasFaultLaw
has_one one breaks typed source place rule tokens tree r is_tree =
    let same = one source r.tokens tokens r.tree tree r.is_tree is_tree in
    let broken = subst (λ (z : t.Tree). UnitBroken z rule r.token) same r.broken in
    let u = tree_of tree in
    one_of u (first_fault_of u) refl (λ none. breaks u (unit u) rule r.token (typed u none) broken)

module _ (source : List ℕ) (tokens : List Token) (tree : Tree) (is_tree : IsTreeOf source tokens tree) (within : limits.IsWithinLimits (tree_of tree)) where
  as_source : ((prog : Prog) × TypedUnit (tree_of tree) prog) ⊎ ((rule : ℕ) × (token : ℕ) × UnitBroken (tree_of tree) rule token) →
      ((prog : Prog) × IsProgramOf source prog) ⊎ ((place : Place) × (rule : ℕ) × IsRuleBroken source place rule)
  as_source (inl (prog, typed)) = inl (
    prog,
    record { tokens = tokens; tree = tree; is_tree = is_tree; typed = typed; within = within },
  )
  as_source (inr (rule, token, broken)) = inr (
    place_of_token source tokens token,
    rule,
    record { tokens = tokens; tree = tree; is_tree = is_tree; token = token; broken = broken; is_place = refl },
  )

pub either : IsTypedOrBroken → ProgramOrBrokenLaw
either typed_or_broken source tokens tree is_tree within = as_source source tokens tree is_tree within (typed_or_broken (tree_of tree))

pub never_both : OneUnitLaw → UnitBreaksNone → NeverBothLaw
never_both one none source prog place rule p b =
    let same = one source p.tokens b.tokens p.tree b.tree p.is_tree b.is_tree in
    none (tree_of b.tree) prog rule b.token (subst (λ (z : t.Tree). TypedUnit z prog) same p.typed) b.broken
