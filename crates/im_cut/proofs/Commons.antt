-- Spans that two lists hold both, and reads that are added.
use Rattle.std.proofs.Common.{◌≡◌, ℕ, zero, suc, ◌<◌, ◌≤◌, length, get_or, List, [], ◌∷◌, ◌++◌, Option, Some, None, refl, sym, ap, ◌∙◌, subst, inl, inr, ⊎_elim, ◌⊎◌, arith, max, min}
use Rattle.std.specs.Prelude.{Bool, true, false, ◌&&◌, ◌||◌, nat_le}
use Rattle.std.proofs.lemmas.Bool.{eqb-true, eq-eqb, leb-true, le-leb}
use Rattle.im_block.specs.declared.access.Access.{Access}
use Rattle.im_block.specs.declared.access.Tags.{Tags}
use Rattle.im_dep.specs.declared.spans.Base.{Base}
use Rattle.im_dep.specs.declared.spans.Base.TheVariants.{Slot, Object}
use Rattle.im_dep.specs.declared.spans.Span.{Span}
use Rattle.im_dep.specs.Sites.{site_of_access}
use Rattle.im_dep.specs.Spans.{same_base, span_holds, holds_span, is_covered}
use Rattle.im_cut.specs.Stands.{HasAlike}
use Rattle.im_cut.specs.Blocks.{IsRange, SharesWith, AddsShared, AddsExposed}
use Rattle.im_cut.proofs.Standing.{covered_more, has_more, has_behind, has_split}

and_first : (x y : Bool) → (x && y) ≡ true → x ≡ true
and_first true y e = refl
and_first false y e = e

and_second : (x y : Bool) → (x && y) ≡ true → y ≡ true
and_second true y e = e
and_second false y e = cc

and_both : (x y : Bool) → x ≡ true → y ≡ true → (x && y) ≡ true
and_both x y p q = ap (λ t. t && y) p ∙ q

or_cases : (x y : Bool) → (x || y) ≡ true → (x ≡ true) ⊎ (y ≡ true)
or_cases true y e = inl refl
or_cases false y e = inr e

or_first : (x y : Bool) → x ≡ true → (x || y) ≡ true
or_first true y e = refl
or_first false y e = cc

or_second : (x y : Bool) → y ≡ true → (x || y) ≡ true
or_second true y e = refl
or_second false y e = e

-- tests that tell the same are the same
same_test : (x y : Bool) → (x ≡ true → y ≡ true) → (y ≡ true → x ≡ true) → x ≡ y
same_test true y p q = sym (p refl)
same_test false true p q = q refl
same_test false false p q = refl

base_is : (a b : Base) → same_base a b ≡ true → a ≡ b
base_is (Slot x) (Slot y) e = ap (λ n. Slot n) (eqb-true x y e)
base_is (Slot x) (Object y) e = cc
base_is (Object x) (Slot y) e = cc
base_is (Object x) (Object y) e = ap (λ n. Object n) (eqb-true x y e)

base_self : (a : Base) → same_base a a ≡ true
base_self (Slot x) = eq-eqb x x refl
base_self (Object x) = eq-eqb x x refl

-- what the test of spans tells
record Held (a b : Span) : Type 0 where
  base : a.base ≡ b.base
  low : a.from ≤ b.from
  high : b.to ≤ a.to

held : (a b : Span) → span_holds a b ≡ true → Held a b
held a b e =
    let rest = and_second (same_base a.base b.base) (nat_le a.from b.from && nat_le b.to a.to) e in
    record {
      base = base_is a.base b.base (and_first (same_base a.base b.base) (nat_le a.from b.from && nat_le b.to a.to) e);
      low = leb-true a.from b.from (and_first (nat_le a.from b.from) (nat_le b.to a.to) rest);
      high = leb-true b.to a.to (and_second (nat_le a.from b.from) (nat_le b.to a.to) rest);
    }

holds : (a b : Span) → a.base ≡ b.base → a.from ≤ b.from → b.to ≤ a.to → span_holds a b ≡ true
holds a b e low high =
    and_both (same_base a.base b.base) (nat_le a.from b.from && nat_le b.to a.to) (subst (λ (x : Base). same_base a.base x ≡ true) e (base_self a.base))
    (and_both (nat_le a.from b.from) (nat_le b.to a.to) (le-leb a.from b.from low) (le-leb b.to a.to high))

holds_on : (a b c : Span) → span_holds a b ≡ true → span_holds b c ≡ true → span_holds a c ≡ true
holds_on a b c e f =
    let h = held a b e in
    let k = held b c f in
    holds a c (h.base ∙ k.base) (omega (arith, h.low, k.low)) (omega (arith, h.high, k.high))

-- what holds a span holds what that holds
pub covered_through : (spans : List Span) (s : Span) (p : Option Span) → is_covered spans (Some s) ≡ true → holds_span (Some s) p ≡ true → is_covered spans p ≡ true
covered_through spans s None e f = cc
covered_through [] s (Some q) e f = cc
covered_through (x ∷ spans) s (Some q) e f =
    ⊎_elim
    (λ h. or_first (span_holds x q) (is_covered spans (Some q)) (holds_on x s q h f))
    (λ h. or_second (span_holds x q) (is_covered spans (Some q)) (covered_through spans s (Some q) h f))
    (or_cases (span_holds x s) (is_covered spans (Some s)) e)

-- ---- what two spans share

abbrev shared_span : Span → Span → Span
shared_span a b = record { base = a.base; from = max a.from b.from; to = min a.to b.to }

pub shares_some : (a b : Span) → a.base ≡ b.base → SharesWith a b (Some (record { base = a.base; from = max a.from b.from; to = min a.to b.to }))
shares_some a b e None r = refl
shares_some a b e (Some s) r =
    same_test (span_holds (shared_span a b) s) (span_holds a s && span_holds b s)
    (λ t. let h = held (shared_span a b) s t in and_both (span_holds a s) (span_holds b s) (holds a s h.base (low_a h.low) (high_a h.high)) (holds b s (sym e ∙ h.base) (low_b h.low) (high_b h.high)))
    (λ t. let h = held a s (and_first (span_holds a s) (span_holds b s) t) in let k = held b s (and_second (span_holds a s) (span_holds b s) t) in holds (shared_span a b) s h.base (low_both h.low k.low) (high_both h.high k.high))
  where
    low_a : max a.from b.from ≤ s.from → a.from ≤ s.from
    low_a h = omega arith

    low_b : max a.from b.from ≤ s.from → b.from ≤ s.from
    low_b h = omega arith

    high_a : s.to ≤ min a.to b.to → s.to ≤ a.to
    high_a h = omega arith

    high_b : s.to ≤ min a.to b.to → s.to ≤ b.to
    high_b h = omega arith

    low_both : a.from ≤ s.from → b.from ≤ s.from → max a.from b.from ≤ s.from
    low_both h k = omega arith

    high_both : s.to ≤ a.to → s.to ≤ b.to → s.to ≤ min a.to b.to
    high_both h k = omega arith

narrow : (a b s : Span) → a.from ≤ s.from → s.to ≤ a.to → b.from ≤ s.from → s.to ≤ b.to → s.from ≤ s.to → max a.from b.from ≤ min a.to b.to
narrow a b s p q t u v = omega arith

pub shares_none : (a b : Span) → (a.base ≡ b.base → max a.from b.from ≤ min a.to b.to → ⊥) → SharesWith a b None
shares_none a b n None r = refl
shares_none a b n (Some s) r = sym (by (span_holds a s && span_holds b s) refl)
  where
    by : (t : Bool) → (span_holds a s && span_holds b s) ≡ t → (span_holds a s && span_holds b s) ≡ false
    by false e = e
    by true e =
        let h = held a s (and_first (span_holds a s) (span_holds b s) e) in
        let k = held b s (and_second (span_holds a s) (span_holds b s) e) in
        absurd (n (h.base ∙ sym k.base) (narrow a b s h.low h.high k.low k.high r))

-- ---- one span more

-- spans so far are shared with one, and here is one more
spread : (o t h s : Bool) → ((o || (t && s)) || (h && s)) ≡ (o || ((t || h) && s))
spread true t h s = refl
spread false true true true = refl
spread false true true false = refl
spread false true false true = refl
spread false true false false = refl
spread false false true true = refl
spread false false true false = refl
spread false false false true = refl
spread false false false false = refl

or_false : (b : Bool) → b ≡ (b || false)
or_false true = refl
or_false false = refl

or_held : (x y : Bool) → (y ≡ true → x ≡ true) → x ≡ (x || y)
or_held true y h = refl
or_held false true h = h refl
or_held false false h = refl

abbrev pub SharedSoFar : List Span → Span → List Span → List Span → Type 0
SharedSoFar ours span old new = AddsShared ours span old new

pub share_none : (ours : List Span) (x span : Span) (old new : List Span) → SharesWith x span None → SharedSoFar ours span old new → SharedSoFar (ours ++ x ∷ []) span old new
share_none ours x span old new none h p r =
    h p r ∙ or_false (is_covered old p || (is_covered ours p && holds_span (Some span) p)) ∙ ap (λ t. (is_covered old p || (is_covered ours p && holds_span (Some span) p)) || t) (none p r)
    ∙ spread (is_covered old p) (is_covered ours p) (holds_span (Some x) p) (holds_span (Some span) p) ∙ sym (ap (λ t. is_covered old p || (t && holds_span (Some span) p)) (covered_more ours x p))

pub share_held : (ours : List Span) (x span both : Span) (old new : List Span) → SharesWith x span (Some both) → is_covered new (Some both) ≡ true → SharedSoFar ours span old new → SharedSoFar (ours ++ x ∷ []) span old new
share_held ours x span both old new some there h p r =
    or_held (is_covered new p) (holds_span (Some both) p) (λ e. covered_through new both p there e)
    ∙ ap (λ t. t || holds_span (Some both) p) (h p r) ∙ ap (λ t. (is_covered old p || (is_covered ours p && holds_span (Some span) p)) || t) (some p r)
    ∙ spread (is_covered old p) (is_covered ours p) (holds_span (Some x) p) (holds_span (Some span) p) ∙ sym (ap (λ t. is_covered old p || (t && holds_span (Some span) p)) (covered_more ours x p))

pub share_pushed : (ours : List Span) (x span both : Span) (old new : List Span) → SharesWith x span (Some both) → SharedSoFar ours span old new → SharedSoFar (ours ++ x ∷ []) span old (new ++ both ∷ [])
share_pushed ours x span both old new some h p r =
    covered_more new both p ∙ ap (λ t. t || holds_span (Some both) p) (h p r) ∙ ap (λ t. (is_covered old p || (is_covered ours p && holds_span (Some span) p)) || t) (some p r)
    ∙ spread (is_covered old p) (is_covered ours p) (holds_span (Some x) p) (holds_span (Some span) p) ∙ sym (ap (λ t. is_covered old p || (t && holds_span (Some span) p)) (covered_more ours x p))

pub share_nothing : (span : Span) (old : List Span) → SharedSoFar [] span old old
share_nothing span old p r = or_false (is_covered old p)

-- ---- the spans that both hold

abbrev pub CommonSoFar : List Span → List Span → List Span → Type 0
CommonSoFar ours theirs common = (p : Option Span) → IsRange p → is_covered common p ≡ (is_covered ours p && is_covered theirs p)

pub common_nothing : (ours : List Span) → CommonSoFar ours [] []
common_nothing ours p r = no (is_covered ours p)
  where
    no : (b : Bool) → false ≡ (b && false)
    no true = refl
    no false = refl

held_common : (o t s : Bool) → (s ≡ true → o ≡ true) → ((o && t) || s) ≡ (o && (t || s))
held_common true t s h = refl
held_common false t true h = sym (h refl)
held_common false t false h = refl

shared_common : (o t s : Bool) → ((o && t) || (o && s)) ≡ (o && (t || s))
shared_common true t s = refl
shared_common false t s = refl

pub common_held : (ours theirs common : List Span) (span : Span) → is_covered ours (Some span) ≡ true → CommonSoFar ours theirs common → CommonSoFar ours (theirs ++ span ∷ []) (common ++ span ∷ [])
common_held ours theirs common span there h p r =
    covered_more common span p ∙ ap (λ t. t || holds_span (Some span) p) (h p r) ∙ held_common (is_covered ours p) (is_covered theirs p) (holds_span (Some span) p) (λ e. covered_through ours span p there e)
    ∙ sym (ap (λ t. is_covered ours p && t) (covered_more theirs span p))

pub common_shared : (ours theirs common more : List Span) (span : Span) → AddsShared ours span common more → CommonSoFar ours theirs common → CommonSoFar ours (theirs ++ span ∷ []) more
common_shared ours theirs common more span adds h p r =
    adds p r ∙ ap (λ t. t || (is_covered ours p && holds_span (Some span) p)) (h p r) ∙ shared_common (is_covered ours p) (is_covered theirs p) (holds_span (Some span) p)
    ∙ sym (ap (λ t. is_covered ours p && t) (covered_more theirs span p))

-- ---- reads that are added

pub added_nothing : (tags : Tags) (old : List Access) → AddsExposed tags [] old old
added_nothing tags old = record { only = λ a h. inl h; kept = λ a h. h; all = λ a h. absurd h }

more_alike : (tags : Tags) (xs ys : List Access) (a : Access) → HasAlike tags xs (site_of_access a) → HasAlike tags (xs ++ ys) (site_of_access a)
more_alike tags xs ys a h = record { access = h.access; there = has_more xs ys h.access h.there; alike = h.alike }

pub added_alike : (tags : Tags) (from old new : List Access) (a : Access) → HasAlike tags new (site_of_access a) → AddsExposed tags from old new → AddsExposed tags (from ++ a ∷ []) old new
added_alike tags from old new a there h = record {
  only = λ x q. ⊎_elim (λ t. inl t) (λ t. inr (has_more from (a ∷ []) x t)) (h.only x q);
  kept = h.kept;
  all = λ x q. ⊎_elim (λ t. h.all x t) (λ t. ⊎_elim (λ e. subst (λ (y : Access). HasAlike tags new (site_of_access y)) e there) (λ z. absurd z) t) (has_split from (a ∷ []) x q);
}

pub added_pushed : (tags : Tags) (from old new : List Access) (a : Access) → AddsExposed tags from old new → AddsExposed tags (from ++ a ∷ []) old (new ++ a ∷ [])
added_pushed tags from old new a h = record {
  only = λ x q. ⊎_elim (λ t. ⊎_elim (λ k. inl k) (λ k. inr (has_more from (a ∷ []) x k)) (h.only x t)) (λ t. inr (has_behind from (a ∷ []) x t)) (has_split new (a ∷ []) x q);
  kept = λ x q. has_more new (a ∷ []) x (h.kept x q);
  all = λ x q.
      ⊎_elim
      (λ t. more_alike tags new (a ∷ []) x (h.all x t))
      (λ t. ⊎_elim (λ e. subst (λ (y : Access). HasAlike tags (new ++ a ∷ []) (site_of_access y)) e (record { access = a; there = has_behind new (a ∷ []) a (inl refl); alike = record { reach = refl; size = refl } })) (λ z. absurd z) t)
      (has_split from (a ∷ []) x q);
}

-- ---- an item of a list

pub covered_item : (spans : List Span) (i : ℕ) (d s : Span) → i < length spans → span_holds (get_or spans i d) s ≡ true → is_covered spans (Some s) ≡ true
covered_item [] i d s lt e = absurd (omega arith)
covered_item (x ∷ spans) zero d s lt e = or_first (span_holds x s) (is_covered spans (Some s)) e
covered_item (x ∷ spans) (suc i) d s lt e = or_second (span_holds x s) (is_covered spans (Some s)) (covered_item spans i d s (omega arith) e)
