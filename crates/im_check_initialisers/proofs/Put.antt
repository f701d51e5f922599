-- Initialisers by their forms: what is put for each, and what of it is broken.
use Rattle.std.proofs.Common.{◌≡◌, ℕ, true, false, List, [], ◌∷◌, ◌++◌, Result, Ok, Err, MatchResult, refl, sym, ap, ◌∙◌, subst, inl}
use Rattle.std.proofs.lemmas.List.{map_push}
use Rattle.im_check_expressions.specs.im_word.Words.{Name}
use Rattle.im_ctree.specs.Tree as t
use Rattle.im_ctype.specs.Members.{places}
use Rattle.im_ctype.specs.Table.{Table, structs_of}
use Rattle.im_ctype.specs.Types.{CType, members_of}
use Rattle.im_check_expressions.specs.im_rules.BodyBreaks.{GivenBroken, an_initialiser, some_elements, some_members, initialiser_token, here_given, at_shape, at_value, in_value, in_elements, in_members}
use Rattle.im_check_expressions.specs.im_rules.Breaks.{an_expression}
use Rattle.im_check_expressions.specs.im_rules.Context.{Context}
use Rattle.im_check_expressions.specs.im_rules.Demands.{Meets}
use Rattle.im_check_expressions.specs.im_rules.Initialisers as n
use Rattle.im_check_expressions.specs.im_rules.Rules.{rule_17}
use Rattle.im_check_expressions.specs.im_rules.Strings.{strings_in}
use Rattle.im_check_expressions.specs.im_rules.Terms.{Term, operand_of}
use Rattle.im_check_expressions.specs.im_rules.Typed.{Typed}
use Rattle.im_check_expressions.specs.im_rules_limits.Limits.{size_in_value, size_in_elements, size_in_members, IsWithin, IsGivenWithin}
use Rattle.im_check_expressions.specs.im_check_declarators.Suffixes.{IsFault}
use Rattle.im_check_items.specs.declared.item.Item as ri
use Rattle.im_check_items.specs.Shape.{item_in, items_in}
use Rattle.im_check_place.specs.declared.place.Place.{Place}
use Rattle.im_check_place.specs.Contexts.{context_of, behind_strings}
use Rattle.im_check_stop.specs.Answers.{IsRefusal}
use Rattle.im_check_stop.specs.declared.stop.Stop.{Stop}
use Rattle.im_check_stop.specs.declared.stop.Stop.TheVariants.{Rule, Large, Memory}
use Rattle.im_check_expression_parts.proofs.Places.{behind_none}
use Rattle.im_check_initialisers.specs.Forms.{listed}
use Rattle.im_check_initialisers.specs.Given.{IsGivenFault, IsInitialised, IsPut}
use Rattle.im_check_initialisers.proofs.Forms.{told_of}
use Rattle.im_check_initialisers.proofs.Within.{value_within, bytes_within, elements_within, members_within}

-- the rule on forms
pub misshapen_fault : (p : Place) (a : CType) (at : ℕ) (i : t.Initializer) (types : Table) (f : Stop)
    → types ≡ p.structs
    → IsRefusal (n.shape_asks (structs_of types) a i) (initialiser_token i) f
    → IsGivenFault (context_of p) (an_initialiser a at i) f
misshapen_fault p a at i types (Rule rule token) table h =
    let refused = subst (λ (z : Table). IsRefusal (n.shape_asks (structs_of z) a i) (initialiser_token i) (Rule rule token)) table h in
    subst (λ z. GivenBroken (context_of p) (an_initialiser a at i) rule z) (sym refused.1) (here_given (at_shape refused.0))
misshapen_fault p a at i types (Large bytes) table h = absurd h
misshapen_fault p a at i types Memory table h = tt

shaped : (p : Place) {a : CType} {at : ℕ} {i : t.Initializer} {s : n.Shape} {ps : List n.Item}
    → Meets (n.shape_asks (structs_of p.structs) a i)
    → s ≡ n.shape a i
    → n.Shaped (context_of p) a at s ps
    → n.Initialised (context_of p) a at i ps
shaped p {a = a} {at = at} {ps = ps} meets form d = n.initialised meets (subst (λ z. n.Shaped (context_of p) a at z ps) form d)

met : (p : Place) (a : CType) (i : t.Initializer) (types : Table) → types ≡ p.structs → Meets (n.shape_asks (structs_of types) a i) → Meets (n.shape_asks (structs_of p.structs) a i)
met p a i types table meets = subst (λ (z : Table). Meets (n.shape_asks (structs_of z) a i)) table meets

-- the bytes of a string
pub bytes_put : (p : Place) {a e : CType} {at : ℕ} {i : t.Initializer} {s : Name} {old new : List ri.Item} (types : Table)
    → types ≡ p.structs
    → Meets (n.shape_asks (structs_of types) a i)
    → n.bytes e s ≡ n.shape a i
    → ((g : Table) → items_in g new ≡ items_in g old ++ n.byte_items at e s)
    → IsInitialised p a at i old p new × IsGivenWithin (context_of p) (an_initialiser a at i)
bytes_put p {a = a} {e = e} {at = at} {i = i} {s = s} types table meets form put = (
  record {
    added = n.byte_items at e s;
    given = shaped p (met p a i types table meets) form n.of_bytes;
    items = put p.structs;
    place = sym (behind_none p) ∙ ap (λ ss. behind_strings ss p) (sym (told_of (structs_of p.structs) a i (n.bytes e s) form));
  },
  bytes_within (sym form),
)

-- elements and members in braces

pub elements_done : (p after : Place) (a : CType) {e : CType} (at : ℕ) (i : t.Initializer) (is : t.Initializers) {js : t.Initializers} (old new : List ri.Item) (types : Table) (result : Result (Unit {0}) Stop)
    → types ≡ p.structs
    → Meets (n.shape_asks (structs_of types) a i)
    → n.elements e js ≡ n.shape a i
    → is ≡ listed i
    → MatchResult result (λ _. IsPut (n.Elements (context_of p) e at is) (n.strings_among (structs_of p.structs) (n.side_by_side e) is) p old after new × IsGivenWithin (context_of p) (some_elements e at is)) (IsGivenFault (context_of p) (some_elements e at is))
    → MatchResult result (λ _. IsInitialised p a at i old after new × IsGivenWithin (context_of p) (an_initialiser a at i)) (IsGivenFault (context_of p) (an_initialiser a at i))
elements_done p after a {e = e} at i is {js = js} old new types (Ok u) table meets form list put =
    let known = structs_of p.structs in
    let form' : n.elements e is ≡ n.shape a i = ap (λ z. n.elements e z) (list ∙ sym (told_of known a i (n.elements e js) form).0) ∙ form in (
      record {
        added = put.0.added;
        given = shaped p (met p a i types table meets) form' (n.of_elements put.0.given);
        items = put.0.items;
        place = put.0.place ∙ ap (λ ss. behind_strings ss p) (sym (told_of known a i (n.elements e is) form').1);
      },
      elements_within (sym form') put.1,
    )
elements_done p after a {e = e} at i is {js = js} old new types (Err (Rule rule token)) table meets form list broken =
    in_elements (met p a i types table meets) (sym (ap (λ z. n.elements e z) (list ∙ sym (told_of (structs_of p.structs) a i (n.elements e js) form).0) ∙ form)) broken
elements_done p after a {e = e} at i is {js = js} old new types (Err (Large bytes)) table meets form list large =
    (size_in_elements (sym (ap (λ z. n.elements e z) (list ∙ sym (told_of (structs_of p.structs) a i (n.elements e js) form).0) ∙ form)) large.0, large.1)
elements_done p after a at i is old new types (Err Memory) table meets form list broken = tt

pub members_done : (p after : Place) (a : CType) {m : ℕ} (at : ℕ) (i : t.Initializer) (is : t.Initializers) {js : t.Initializers} (old new : List ri.Item) (types : Table) (result : Result (Unit {0}) Stop)
    → types ≡ p.structs
    → Meets (n.shape_asks (structs_of types) a i)
    → n.members m js ≡ n.shape a i
    → is ≡ listed i
    → MatchResult result (λ _. IsPut (n.InMembers (context_of p) (members_of (structs_of p.structs) m) (places (structs_of p.structs) m) at is) (n.strings_among (structs_of p.structs) (n.in_order (members_of (structs_of p.structs) m)) is) p old after new × IsGivenWithin (context_of p) (some_members (members_of (structs_of p.structs) m) (places (structs_of p.structs) m) at is)) (IsGivenFault (context_of p) (some_members (members_of (structs_of p.structs) m) (places (structs_of p.structs) m) at is))
    → MatchResult result (λ _. IsInitialised p a at i old after new × IsGivenWithin (context_of p) (an_initialiser a at i)) (IsGivenFault (context_of p) (an_initialiser a at i))
members_done p after a {m = m} at i is {js = js} old new types (Ok u) table meets form list put =
    let known = structs_of p.structs in
    let form' : n.members m is ≡ n.shape a i = ap (λ z. n.members m z) (list ∙ sym (told_of known a i (n.members m js) form).0) ∙ form in (
      record {
        added = put.0.added;
        given = shaped p (met p a i types table meets) form' (n.of_members put.0.given);
        items = put.0.items;
        place = put.0.place ∙ ap (λ ss. behind_strings ss p) (sym (told_of known a i (n.members m is) form').1);
      },
      members_within (sym form') put.1,
    )
members_done p after a {m = m} at i is {js = js} old new types (Err (Rule rule token)) table meets form list broken =
    in_members (met p a i types table meets) (sym (ap (λ z. n.members m z) (list ∙ sym (told_of (structs_of p.structs) a i (n.members m js) form).0) ∙ form)) broken
members_done p after a {m = m} at i is {js = js} old new types (Err (Large bytes)) table meets form list large =
    (size_in_members (sym (ap (λ z. n.members m z) (list ∙ sym (told_of (structs_of p.structs) a i (n.members m js) form).0) ∙ form)) large.0, large.1)
members_done p after a at i is old new types (Err Memory) table meets form list broken = tt

-- one expression

pub value_fault : (c : Context) (a : CType) (at : ℕ) (i : t.Initializer) {e x : t.Expression} (f : Stop)
    → n.shape a i ≡ n.one e
    → e ≡ x
    → IsFault c (an_expression x) f
    → IsGivenFault c (an_initialiser a at i) f
value_fault c a at i (Rule rule token) form same broken = in_value (form ∙ ap n.one same) broken
value_fault c a at i (Large bytes) form same large = (size_in_value (form ∙ ap n.one same) large.0, large.1)
value_fault c a at i Memory form same broken = tt

pub unfit : {c : Context} {a : CType} {at : ℕ} {i : t.Initializer} {e x : t.Expression} (y : Term)
    → n.shape a i ≡ n.one e
    → e ≡ x
    → Typed c x y
    → rule_17 a (operand_of y) ≡ false
    → GivenBroken c (an_initialiser a at i) 17 (initialiser_token i)
unfit y form same typed fails = here_given (at_value (form ∙ ap n.one same) typed (inl (refl, fails)))

pub value_put : (p after : Place) {a : CType} {at : ℕ} {i : t.Initializer} {e x : t.Expression} (y : Term) (one : ri.Item) {old new : List ri.Item}
    → n.shape a i ≡ n.one e
    → e ≡ x
    → Meets (n.shape_asks (structs_of p.structs) a i)
    → Typed (context_of p) x y × (after ≡ behind_strings (strings_in x) p) × IsWithin (context_of p) (an_expression x)
    → rule_17 a (operand_of y) ≡ true
    → item_in p.structs one ≡ n.item at a (n.from_term x y)
    → new ≡ old ++ one ∷ []
    → IsInitialised p a at i old after new × IsGivenWithin (context_of p) (an_initialiser a at i)
value_put p after {a = a} {at = at} {i = i} {x = x} y one {old = old} {new = new} form same meets typed fits is pushed =
    let form' : n.one x ≡ n.shape a i = sym (form ∙ ap n.one same) in (
      record {
        added = n.item at a (n.from_term x y) ∷ [];
        given = shaped p meets form' (n.of_one typed.0 (fits, tt));
        items = ap (items_in p.structs) pushed ∙ map_push {X = ri.Item} (item_in p.structs) old one ∙ ap (λ z. items_in p.structs old ++ z ∷ []) is;
        place = typed.1 ∙ ap (λ ss. behind_strings ss p) (sym (told_of (structs_of p.structs) a i (n.one x) form').1);
      },
      value_within (sym form') typed.2,
    )
