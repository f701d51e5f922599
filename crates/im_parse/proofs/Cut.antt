-- The words before the first with dimensions over the limit, parsed alone.
use Rattle.std.proofs.Common.{◌≡◌, ℕ, suc, ◌<◌, ◌≤◌, List, [], length, take, drop, nat_lt, true, false, if◌then◌else◌, refl, sym, subst, arith}
use Rattle.std.proofs.lemmas.Bool.{ltb-true, ltb-false}
use Rattle.std.proofs.lemmas.List.{append-nil, take-append-drop, take-take, take_all, length-take}
use Rattle.im_word.specs.Words.{Word}
use Rattle.im_ctree.specs.Tree as t
use Rattle.im_ctree.specs.Units.{Spells, IsFront, IsUnit, predeclared_names}
use Rattle.im_parse.specs.declared.text.ParseFault.TheVariants as fault
use Rattle.im_parse.specs.Spelling.{IsFirstFault, earlier, IsCutShort}

-- a front of a unit's words begins a unit
front_of : (tree : t.Tree) (words : List Word) (n : ℕ) → Spells tree words → IsFront (take n words)
front_of tree words n d = (drop n words, tree, subst (IsUnit predeclared_names 0 tree) (sym (take-append-drop n words)) d)

-- a fault among the first p words
pub fault_within : (words : List Word) (p q : ℕ) → p < length words → q < p → IsFirstFault (take p words) q → IsFirstFault words q
fault_within words p q within before h =
    let short = length-take p words in
    let many : q < length (take p words) = omega (arith, short) in
    let here : take q (take p words) ≡ take q words = take-take q p words (omega arith) in
    let behind : take (suc q) (take p words) ≡ take (suc q) words = take-take (suc q) p words (omega arith) in
    let stops : IsFront (take (suc q) words) → ⊥ = λ f. h.stops many (subst IsFront (sym behind) f) in
    record {
      within = omega arith;
      begins = subst IsFront here h.begins;
      stops = λ lt. stops;
      unspelt = λ tree d. stops (front_of tree words (suc q) d);
    }

-- none of the first p words is a fault
pub whole_front : (words : List Word) (p : ℕ) (tree : t.Tree) → Spells tree (take p words) → IsFront (take p words)
whole_front words p tree d = ([], tree, subst (IsUnit predeclared_names 0 tree) (sym (append-nil (take p words))) d)

pub front_to : (words : List Word) (p q : ℕ) → p ≤ q → IsFirstFault (take p words) q → IsFront (take p words)
front_to words p q past h =
    let short = length-take p words in
    let few : length (take p words) ≤ q = omega (arith, short) in
    subst IsFront (take_all q (take p words) few) h.begins

-- of a fault behind those words and the limit the earlier one is told
pub earlier_told : (words : List Word) (place q : ℕ) → place < length words → IsFirstFault (take place words) q → IsCutShort words place (earlier q place)
earlier_told words place q within h = elim (nat_lt q place) as (λ b. nat_lt q place ≡ b → IsCutShort words place (if b then fault.Syntax q else fault.Dimensions place)) [
  | true ↦ λ e. (let before = ltb-true q place e in (before, fault_within words place q within before h))
  | false ↦ λ e. (refl, front_to words place q (ltb-false q place e) h)
] refl
