-- Arguments, one behind the other.
use Rattle.std.proofs.Common.{◌≡◌, ℕ, ◌+◌, ◌<◌, ◌≤◌, List, [], ◌∷◌, ◌++◌, length, drop, get_or, refl, sym, ap, ◌∙◌, subst, append_assoc}
use Rattle.std.proofs.lemmas.List.{drop_more, drop_all, map_push, append-nil}
use Rattle.im_check_declarators.specs.im_ctree.declared.expression.Expression.{Expression}
use Rattle.im_rules.specs.Terms as r
use Rattle.im_rules.specs.Strings.{strings_in, strings_among}
use Rattle.im_rules.specs.Typed.{Typed, AreTyped, no_argument, an_argument}
use Rattle.im_rules.specs.Breaks.{an_expression, some_expressions, first_argument, other_arguments}
use Rattle.im_check_declarators.specs.im_rules_limits.Limits.{IsWithin}
use Rattle.im_check_declarators.specs.im_check_stop.declared.stop.Stop.{Stop}
use Rattle.im_check_declarators.specs.im_ctree_parts.Lists.{expression_in, expressions_from}
use Rattle.im_check_operands.specs.declared.term.Term.{Term}
use Rattle.im_check_operands.specs.Shape.{term_in}
use Rattle.im_check_declarators.specs.Suffixes.{IsFault}
use Rattle.im_check_place.specs.declared.place.Place.{Place}
use Rattle.im_check_place.specs.Contexts.{context_of, behind_strings}
use Rattle.im_check_expression_parts.specs.Walked.{terms_in}
use Rattle.im_check_expression_parts.proofs.Places.{behind_none, behind_two}
use Rattle.im_check_expression_parts.proofs.Made.{fault_of}
use Rattle.im_check_expression_parts.proofs.Within.{no_arguments_within, arguments_within}

pub next : {X : Type 0} (xs : List X) (i : ℕ) (x : X) → i < length xs → x ≡ get_or xs i x → drop i xs ≡ x ∷ drop (i + 1) xs
next xs i x below is = drop_more xs i x below ∙ ap (λ y. y ∷ drop (i + 1) xs) (sym is)

pub last : {X : Type 0} (xs : List X) (i : ℕ) → length xs ≤ i → drop i xs ≡ []
last xs i all = drop_all i xs all

-- how far arguments are typed: whatever the rest is typed to, all are typed to these and that; what is at fault in the rest is
-- at fault in all, and sizes in all are within the limit where those in the rest are
pub record TermsReached (before : Place) (es : List Expression) (i : ℕ) (xs : List Term) (now : Place) : Type 0 where
  pub gives : (ys : List r.Term) → AreTyped (context_of now) (expressions_from (drop i es)) ys → AreTyped (context_of before) (expressions_from es) (terms_in before.structs xs ++ ys)
  pub faults : (stop : Stop) → IsFault (context_of now) (some_expressions (expressions_from (drop i es))) stop → IsFault (context_of before) (some_expressions (expressions_from es)) stop
  pub within : IsWithin (context_of now) (some_expressions (expressions_from (drop i es))) → IsWithin (context_of before) (some_expressions (expressions_from es))
  pub place : behind_strings (strings_among (expressions_from (drop i es))) now ≡ behind_strings (strings_among (expressions_from es)) before

pub terms_none : (p : Place) (es : List Expression) → TermsReached p es 0 [] p
terms_none p es = record { gives = λ ys d. d; faults = λ stop f. f; within = λ w. w; place = refl }

pub terms_more : {before now after : Place} {es : List Expression} {i : ℕ} {e : Expression} (xs : List Term) (x : Term)
    → drop i es ≡ e ∷ drop (i + 1) es
    → TermsReached before es i xs now
    → Typed (context_of now) (expression_in e) (term_in now.structs x) × (after ≡ behind_strings (strings_in (expression_in e)) now) × IsWithin (context_of now) (an_expression (expression_in e))
    → TermsReached before es (i + 1) (xs ++ x ∷ []) after
terms_more {before = before} {now = now} {after = after} {es = es} {i = i} {e = e} xs x at reached typed =
    let rest = expressions_from (drop (i + 1) es) in
    let all = expressions_from es in
    let same : now.structs ≡ before.structs = ap (λ (z : Place). z.structs) reached.place in
    let told : terms_in before.structs xs ++ (term_in now.structs x ∷ []) ≡ terms_in before.structs (xs ++ x ∷ []) = ap (λ z. terms_in before.structs xs ++ (term_in z x ∷ [])) same ∙ sym (map_push (term_in before.structs) xs x) in
    record {
      gives = λ ys d.
          let d₁ : AreTyped (context_of (behind_strings (strings_in (expression_in e)) now)) rest ys = rw typed.1 at d in
          let d₂ : AreTyped (context_of now) (expressions_from (drop i es)) (term_in now.structs x ∷ ys) = rw at (an_argument typed.0 d₁) in
          subst (λ zs. AreTyped (context_of before) all zs) (sym (append_assoc (terms_in before.structs xs) (term_in now.structs x ∷ []) ys) ∙ ap (λ zs. zs ++ ys) told) (reached.gives (term_in now.structs x ∷ ys) d₂);
      faults = λ stop f.
          let f₁ : IsFault (context_of (behind_strings (strings_in (expression_in e)) now)) (some_expressions rest) stop = rw typed.1 at f in
          let f₂ : IsFault (context_of now) (some_expressions (expressions_from (drop i es))) stop = rw at (fault_of other_arguments stop f₁) in
          reached.faults stop f₂;
      within = λ w.
          let w₁ : IsWithin (context_of (behind_strings (strings_in (expression_in e)) now)) (some_expressions rest) = rw typed.1 at w in
          let w₂ : IsWithin (context_of now) (some_expressions (expressions_from (drop i es))) = rw at (arguments_within typed.2 w₁) in
          reached.within w₂;
      place = ap (behind_strings (strings_among rest)) typed.1 ∙ behind_two (strings_in (expression_in e)) (strings_among rest) now ∙ ap (λ zs. behind_strings (strings_among (expressions_from zs)) now) (sym at) ∙ reached.place;
    }

pub terms_fault : {before now : Place} {es : List Expression} {i : ℕ} {e : Expression} (xs : List Term) (f : Stop)
    → drop i es ≡ e ∷ drop (i + 1) es
    → TermsReached before es i xs now
    → IsFault (context_of now) (an_expression (expression_in e)) f
    → IsFault (context_of before) (some_expressions (expressions_from es)) f
terms_fault {now = now} {es = es} {i = i} xs f at reached h =
    let h₁ : IsFault (context_of now) (some_expressions (expressions_from (drop i es))) f = rw at (fault_of first_argument f h) in
    reached.faults f h₁

pub terms_all : {before now : Place} {es : List Expression} {i : ℕ} (xs : List Term)
    → drop i es ≡ []
    → TermsReached before es i xs now
    → AreTyped (context_of before) (expressions_from es) (terms_in before.structs xs) × (now ≡ behind_strings (strings_among (expressions_from es)) before) × IsWithin (context_of before) (some_expressions (expressions_from es))
terms_all {before = before} {now = now} {es = es} {i = i} xs ends reached =
    let d : AreTyped (context_of now) (expressions_from (drop i es)) [] = rw ends no_argument in
    let w : IsWithin (context_of now) (some_expressions (expressions_from (drop i es))) = rw ends no_arguments_within in
    let p : behind_strings (strings_among (expressions_from [])) now ≡ behind_strings (strings_among (expressions_from es)) before = rw ends at reached.place in
    (subst (λ zs. AreTyped (context_of before) (expressions_from es) zs) (append-nil (terms_in before.structs xs)) (reached.gives [] d), sym (behind_none now) ∙ p, reached.within w)
