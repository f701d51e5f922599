-- Cases that are added to a switch.
use Rattle.std.proofs.Common.{◌≡◌, ℕ, ℤ, Bool, true, false, not, ◌||◌, cond, int_lt, List, [], ◌∷◌, ◌++◌, Some, None, inl, inr, refl, sym, ap, ◌∙◌, subst}
use Rattle.std.specs.Ordering.{int_cmp, int_eq, is_eq}
use Rattle.std.specs.BTreeSet.{contains}
use Rattle.im_num.specs.Kinds.{wrap}
use Rattle.im_ctree.specs.Tree as t
use Rattle.im_ctype.specs.declared.integer.Integer.{Integer}
use Rattle.im_ctype.specs.Types.{kind_of}
use Rattle.im_typed.specs.declared.statement.Case.{Case}
use Rattle.im_check_locals.specs.im_rules.Demands.{Refuses}
use Rattle.im_check_locals.specs.im_rules.Rules.{is_among, rule_15}
use Rattle.im_check_locals.specs.im_rules.Strings.{strings_in}
use Rattle.im_check_locals.specs.im_rules.Terms as r
use Rattle.im_check_locals.specs.im_rules.Typed.{Typed}
use Rattle.im_check_locals.specs.im_rules.Breaks.{an_expression}
use Rattle.im_check_locals.specs.im_rules_limits.Limits.{IsWithin}
use Rattle.im_check_locals.specs.im_rules.Statements.{just_strings, case_asks, case_at, label_value, differs}
use Rattle.im_check_place.specs.Contexts.{context_of}
use Rattle.im_check_sites.specs.declared.body.Body.{Body}
use Rattle.im_check_sites.specs.Sites.{IsPast}
use Rattle.im_check_statement_forms.specs.declared.labels.Labels.{Labels}
use Rattle.im_check_statement_forms.specs.Labelling.{constants_behind, labels_of, Tells, CaseAdded, CaseDone}

pub constants_push : (zs : List ℤ) (cs : List Case) (c : Case) → constants_behind zs (cs ++ c ∷ []) ≡ c.value ∷ constants_behind zs cs
constants_push zs [] c = refl
constants_push zs (x ∷ xs) c = constants_push (x.value ∷ zs) xs c

both_ways : {O : Type 0} (f : O → Bool) (l g e : O) → f l ≡ f g → (a b : Bool) → f (cond a l (cond b g e)) ≡ f (cond b l (cond a g e))
both_ways f l g e h true true = refl
both_ways f l g e h true false = h
both_ways f l g e h false true = sym h
both_ways f l g e h false false = refl

either : (a b : Bool) → cond a true b ≡ (a || b)
either true b = refl
either false b = refl

-- the set has one constant more
pub one_more_told : (before after : Labels) (v : ℤ) (n : ℕ)
    → Tells before
    → ((z : ℤ) → contains int_cmp after.seen z ≡ cond (int_eq v z) true (contains int_cmp before.seen z))
    → after.cases.items ≡ before.cases.items ++ case_at v n ∷ []
    → Tells after
one_more_told before after v n told put grown = λ z.
    let same : int_eq v z ≡ int_eq z v = both_ways is_eq _ _ _ refl (int_lt v z) (int_lt z v) in
    put z ∙ either (int_eq v z) (contains int_cmp before.seen z) ∙ ap (λ w. w || contains int_cmp before.seen z) same ∙ ap (λ w. int_eq z v || w) (told z)
    ∙ sym (ap (λ w. is_among z (constants_behind [] w)) grown ∙ ap (is_among z) (constants_push [] before.cases.items (case_at v n)))

pub not_constant : (ty : Integer) (x : r.Term) (l : Labels) → None ≡ r.constant_in x → Refuses 15 (case_asks ty x (labels_of l))
not_constant ty x l e = inl (refl, subst (λ w. rule_15 w ≡ false) e refl)

pub there_already : (ty : Integer) (x : r.Term) (l : Labels) (z v : ℤ) → Some z ≡ r.constant_in x → v ≡ wrap (kind_of ty) z → (fresh : Bool) → fresh ≡ not (is_among v (constants_behind [] l.cases.items)) → fresh ≡ false
    → Refuses 34 (case_asks ty x (labels_of l))
there_already ty x l z v e f fresh h stale =
    let g : not (is_among (wrap (kind_of ty) z) (constants_behind [] l.cases.items)) ≡ false = subst (λ w. not (is_among w (constants_behind [] l.cases.items)) ≡ false) f (sym h ∙ stale) in
    inr (inl (refl, subst (λ w. differs ty w (constants_behind [] l.cases.items) ≡ false) e g))

pub case_put : (s0 s1 : Body) (e : t.Expression) (ty : Integer) (n : ℕ) (l0 l1 : Labels) (x : r.Term) (z v : ℤ)
    → Typed (context_of s0.place) e x
    → IsPast (just_strings (strings_in e)) s0 s1
    → IsWithin (context_of s0.place) (an_expression e)
    → Some z ≡ r.constant_in x
    → v ≡ wrap (kind_of ty) z
    → (fresh : Bool)
    → CaseAdded l0 l1 v n fresh
    → fresh ≡ true
    → CaseDone s0 e ty n l0 s1 l1
case_put s0 s1 e ty n l0 l1 x z v typed past within is f fresh a put =
    let g : not (is_among (wrap (kind_of ty) z) (constants_behind [] l0.cases.items)) ≡ true = subst (λ w. not (is_among w (constants_behind [] l0.cases.items)) ≡ true) f (sym a.is_fresh ∙ put) in
    let same : v ≡ label_value ty (r.constant_in x) = f ∙ ap (label_value ty) is in
    record {
      term = x;
      typed = typed;
      past = past;
      within = within;
      meets = (subst (λ w. rule_15 w ≡ true) is refl, (subst (λ w. differs ty w (constants_behind [] l0.cases.items) ≡ true) is g, tt));
      cases = a.cases put ∙ ap (λ w. l0.cases.items ++ case_at w n ∷ []) same;
      otherwise = a.otherwise;
      told = a.told put;
    }
