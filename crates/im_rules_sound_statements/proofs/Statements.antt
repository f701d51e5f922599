-- What a statement is typed to is well typed: by induction over its forms.
use Rattle.std.proofs.Common.{◌≡◌, ℕ, ◌+◌, ◌≤◌, ◌||◌, List, [], ◌++◌, length-append, Bool, true, false, refl, sym, ap, ◌∙◌, subst, arith}
use Rattle.std.specs.Prelude.{Option, Some, None, ℤ, pos, IsTrue, not, if◌then◌else◌}
use Rattle.std.specs.Option.{option_map}
use Rattle.std.specs.Ordering.{int_eq}
use Rattle.std.proofs.lemmas.Int.{ints}
use Rattle.im_num.specs.declared.kind.Kind.TheVariants.{I32}
use Rattle.im_num.specs.Kinds.{IsOfKind}
use Rattle.im_ctree.specs.Tree as t
use Rattle.im_ctype.specs.declared.integer.Integer.{Integer}
use Rattle.im_ctype.specs.Types.{Structs, CType, void, integer, pointer, array, unsized, struct, function, is_void, is_scalar, kind_of}
use Rattle.im_typed.specs.declared.statement.Case.{Case}
use Rattle.im_typed.specs.Program.{Scalar, Expr, Stmt, Stmts, Func, Prog}
use Rattle.im_typed.specs.Typing.{shape_of, IsTyped, IsCondition, IsReturned, IsScalarShape, IsPromotedShape, AreLabels, statements_in, AreTyped}
use Rattle.im_rules.specs.Rules.{is_among, rule_9_result, rule_34_break, rule_34_continue}
use Rattle.im_rules.specs.Strings.{strings_in, strings_maybe}
use Rattle.im_rules.specs.Context.{behind_maybe}
use Rattle.im_rules.specs.Terms.{Term, constant_in, access_of, kind_in}
use Rattle.im_rules.specs.Demands.{Meets}
use Rattle.im_rules.specs.Conversions.{as_type, integer_of}
use Rattle.im_rules.specs.Typed.{Typed}
use Rattle.im_rules.specs.Breaks.{an_expression}
use Rattle.im_rules.specs.TypedUnit.{result_kind}
use Rattle.im_rules.specs.Statements.{Site, Added, and_then, just_strings, past, past_expression, past_maybe, in_block, in_loop, condition_asks, value_in, switch_type, Labels, Cases, label_value, count_stmts, MayTest, no_test, a_test, MayStep, no_step, a_step, Begins, by_declaration, by_nothing, by_expression, TypedStatement, of_block, of_nothing, of_expression, of_if, of_while, of_do, of_for, of_switch, of_break, of_continue, of_return, of_return_value, MayBeTyped, no_else, an_else, TypedItems, no_item, a_declaration, a_statement, TypedCases, no_case, between_cases, a_labelled, Labelled, no_label, of_case, of_default}
use Rattle.im_rules.specs.BodyBreaks.{a_beginning, a_statement as statement_node, an_else as else_node, some_items, some_cases, a_labelled as labelled_node, is_label, begun, evaluated, if_condition, while_condition, do_condition, switched, returned, for_condition, for_step, begun_by, block_items, first_branch, second_branch, else_statement, while_body, do_body, for_beginning, for_body, switch_block, item_declaration, behind_declaration, item_statement, behind_statement, case_declaration, cases_behind_declaration, case_statement, cases_behind_statement, unlabelled, behind_case, behind_default}
use Rattle.im_rules_limits.specs.Limits.{size_in_part, size_in_inner, size_in_step, IsWithin, IsBodyWithin}
use Rattle.im_rules_sound.specs.Sound.{IsSoundValue}
use Rattle.im_rules_sound_expressions.specs.Bounded.{IsSoundContext, HasStrings}
use Rattle.im_rules_sound_expressions.specs.Written.{IsWritten, MayBeWritten, IsWrittenBeginning, IsWrittenStatement, MayBeWrittenStatement, AreWrittenItems}
use Rattle.im_rules_sound.proofs.Operations.{type-seen, scalar-shape, promoted-kind, as-integer-sound}
use Rattle.im_rules_sound.proofs.Terms.{reads, integer-seen}
use Rattle.im_rules_sound_expressions.proofs.Expressions.{expressions, first-strings, last-strings}
use Rattle.im_rules_sound_statements.specs.Sites.{IsSoundSite, AreObjects, IsTypedAt}
use Rattle.im_rules_sound_statements.proofs.Fits.{fitted}
use Rattle.im_rules_sound_statements.proofs.Declarations.{declaration-typed}
use Rattle.im_rules_sound_statements.proofs.Sites.{IsPast, objects-append, first-site, last-site, past-strings-sound, past-expression-is, behind-added, behind-expression, block-site, loop-site, switch-site}
use Rattle.im_rules_sound_statements.proofs.Labels.{count-same, count-appended, typed-appended, AtMost, first-at-most, otherwise-at-most, AreFresh, Covers, or-none, no-label-apart, labels-append, fresh-behind, fresh-before, fresh-append, fresh-first, fresh-rest, label-of-kind, label-differs}

constant-of-kind : (b : Bool) → IsOfKind I32 (if b then pos 1 else pos 0)
constant-of-kind true = record { low = omega (arith, ints); high = omega (arith, ints) }
constant-of-kind false = record { low = omega (arith, ints); high = omega (arith, ints) }

or-last : (x : Bool) → (x || true) ≡ true
or-last true = refl
or-last false = refl

true-is : (b : Bool) → b ≡ true → IsTrue b
true-is true e = refl
true-is false e = absurd (cc)

no-void : (x : Bool) → (if x then not true else true) ≡ true → x ≡ false
no-void true e = absurd (cc)
no-void false e = refl

no-value : (x : Bool) → (if x then not false else false) ≡ true → x ≡ true
no-value true e = refl
no-value false e = absurd (cc)

-- a statement that carries no label isn't one
unlabelled-is : {s : Site} {a : t.Statement} {u : Stmt} {m : Added} → TypedStatement s a u m → is_label a ≡ false
unlabelled-is (of_block d) = refl
unlabelled-is of_nothing = refl
unlabelled-is (of_expression d) = refl
unlabelled-is (of_if d m a b) = refl
unlabelled-is (of_while d m a) = refl
unlabelled-is (of_do a d m) = refl
unlabelled-is (of_for b c n a) = refl
unlabelled-is (of_switch d m k) = refl
unlabelled-is (of_break m) = refl
unlabelled-is (of_continue m) = refl
unlabelled-is (of_return m) = refl
unlabelled-is (of_return_value d m) = refl

module _ (g : Prog) (f : Func) where
  -- what is typed, and the objects that are added
  record IsPart (s : Site) (u : Stmt) (m : Added) : Type 0 where
    pub typed : IsTypedAt g f s u
    pub objects : AreObjects m.objects

  abbrev AreTypedAt : Site → Stmts → Type 0
  AreTypedAt s us = AreTyped g f (rule_34_break s.position) (rule_34_continue s.position) us

  record AreParts (s : Site) (us : Stmts) (m : Added) : Type 0 where
    pub typed : AreTypedAt s us
    pub objects : AreObjects m.objects

  -- statements with labels, in a switch of at most so many statements
  record IsLabelled (i : Integer) (s : Site) (most : ℕ) (before behind : List ℤ) (u : Stmt) (ks : List Case) (d : Option ℕ) (m : Added) : Type 0 where
    pub part : IsPart s u m
    pub labels : AreLabels (Some (Scalar (kind_of i))) most ks
    pub fresh : AreFresh before ks
    pub covers : Covers behind before ks
    pub otherwise : AtMost most d

  record AreCases (i : Integer) (s : Site) (most : ℕ) (before : List ℤ) (k : Cases) (m : Added) : Type 0 where
    pub parts : AreParts s k.statements m
    pub labels : AreLabels (Some (Scalar (kind_of i))) most k.cases
    pub fresh : AreFresh before k.cases
    pub otherwise : AtMost most k.otherwise

  -- expressions at a site

  read-at : (s : Site) (e : t.Expression) (x : Term) → Typed s.context e x → IsWritten e → IsSoundContext g f s.context → HasStrings g s.context (strings_in e) → IsWithin s.context (an_expression e) → IsSoundValue g f s.context.known (value_in s x)
  read-at s e x d w h st l = reads g f s.context.known x (expressions g f s.context e x d w h st l).0

  condition-at : (s : Site) (x : Term) → IsSoundValue g f s.context.known (value_in s x) → Meets (condition_asks x) → IsCondition g f (value_in s x).expr
  condition-at s x h m =
      (h.typed, scalar-shape g f s.context.known (value_in s x) h (ap is_scalar (sym (type-seen s.context.known x h.plain)) ∙ m.0))

  -- a value that is returned

  returned-typed : (r : CType) (x : Expr) → f.result ≡ result_kind r → is_void r ≡ false → rule_9_result r ≡ true → IsTyped g f x → shape_of g x ≡ Some (Scalar (kind_in r)) → IsReturned g f (Some x)
  returned-typed r x is v e h shape =
      let result : f.result ≡ Some (kind_in r) = is ∙ ap (λ b. if b then None else Some (kind_in r)) v in
      (h, subst IsScalarShape (sym shape) tt, shape ∙ ap (option_map Scalar) (sym result))

  scalar-access : (known : Structs) (r : CType) → rule_9_result r ≡ true → is_void r ≡ false → access_of known r ≡ Scalar (kind_in r)
  scalar-access known (integer i) e v = refl
  scalar-access known (pointer d a) e v = refl
  scalar-access known void e v = absurd (cc)
  scalar-access known (array a n) e v = refl
  scalar-access known (unsized a) e v = refl
  scalar-access known (struct n) e v = absurd (cc)
  scalar-access known (function q ps) e v = refl

  test-typed : {s : Site} {e : t.MaybeExpression} {x : Expr} → MayTest s e x → MayBeWritten e → IsSoundContext g f s.context → HasStrings g s.context (strings_maybe e) → ((d : t.Expression) → e ≡ t.an_expression d → IsWithin s.context (an_expression d)) → IsCondition g f x
  test-typed no_test w h st l = ((tt, constant-of-kind true), tt)
  test-typed {s = s} (a_test {e = e} {x = x} d m) w h st l = condition-at s x (read-at s e x d w h st (l e refl)) m

  step-typed : {s : Site} {e : t.MaybeExpression} {x : Expr} → MayStep s e x → MayBeWritten e → IsSoundContext g f s.context → HasStrings g s.context (strings_maybe e) → ((d : t.Expression) → e ≡ t.an_expression d → IsWithin s.context (an_expression d)) → IsTyped g f x
  step-typed no_step w h st l = (tt, constant-of-kind false)
  step-typed {s = s} (a_step {e = e} {x = x} d) w h st l = (read-at s e x d w h st (l e refl)).typed

  test-within : {s e : Site} {at : ℕ} {i : t.ForInit} {c n : t.MaybeExpression} {a : t.Statement} {first : Stmt} {m : Added} {d : t.Expression} → Begins (in_block s) i first m e → c ≡ t.an_expression d → IsBodyWithin s (statement_node (t.for_statement at i c n a)) → IsWithin e.context (an_expression d)
  test-within {s = s} {e = e} {at = at} {i = i} {n = n} {a = a} {d = d} b z l =
      subst (λ c. IsBodyWithin s (statement_node (t.for_statement at i c n a)) → IsWithin e.context (an_expression d)) (sym z)
      (λ k j v. k j (size_in_step (for_condition b) v)) l

  step-within : {s e : Site} {at : ℕ} {i : t.ForInit} {c n : t.MaybeExpression} {a : t.Statement} {first : Stmt} {m : Added} {d : t.Expression} → Begins (in_block s) i first m e → n ≡ t.an_expression d → IsBodyWithin s (statement_node (t.for_statement at i c n a)) → IsWithin (past_maybe c e).context (an_expression d)
  step-within {s = s} {e = e} {at = at} {i = i} {c = c} {a = a} {d = d} b z l =
      subst (λ n. IsBodyWithin s (statement_node (t.for_statement at i c n a)) → IsWithin (past_maybe c e).context (an_expression d)) (sym z)
      (λ k j v. k j (size_in_step (for_step b) v)) l

  -- what a `for` begins with
  record IsBegun (s : Site) (u : Stmt) (m : Added) (e : Site) : Type 0 where
    pub typed : IsTypedAt g f s u
    pub objects : AreObjects m.objects
    pub context : IsSoundContext g f e.context
    pub past : IsPast s m e

  begins-typed : {s e : Site} {i : t.ForInit} {u : Stmt} {m : Added} → Begins s i u m e → IsWrittenBeginning i → IsSoundSite g f s m → IsBodyWithin s (a_beginning i) → IsBegun s u m e
  begins-typed {s = s} (by_declaration d) w h l =
      let all = declaration-typed g f (rule_34_break s.position) (rule_34_continue s.position) d w h (λ n z. l n (size_in_part begun_by z)) in
      record { typed = all.typed; objects = all.objects; context = all.context; past = all.past }
  begins-typed by_nothing w h l =
      record { typed = tt; objects = tt; context = h.context; past = record { strings = omega arith; locals = omega arith; result = refl; position = refl } }
  begins-typed {s = s} (by_expression {e = e} {x = x} d) w h l =
      record {
        typed = (read-at s e x d w h.context h.strings (λ n z. l n (size_in_inner begun z))).typed;
        objects = tt;
        context = past-strings-sound g f (strings_in e) s.context h.context;
        past = past-expression-is g f s e;
      }

  mutual
    statement-typed : {s : Site} {a : t.Statement} {u : Stmt} {m : Added} → TypedStatement s a u m → IsWrittenStatement a → IsSoundSite g f s m → IsBodyWithin s (statement_node a) → IsPart s u m
    statement-typed {s = s} {m = m} (of_block d) w h l =
        let all = items-typed d w (block-site g f s m h) (λ n z. l n (size_in_part block_items z)) in
        record { typed = all.typed; objects = all.objects }
    statement-typed of_nothing w h l = record { typed = tt; objects = tt }
    statement-typed {s = s} (of_expression {e = e} {x = x} d) w h l =
        record { typed = (read-at s e x d w h.context h.strings (λ n z. l n (size_in_inner evaluated z))).typed; objects = tt }
    statement-typed {s = s} (of_if {e = e} {x = x} {m = m} {n = n} d k a b) w h l =
        let inner = behind-expression g f s e (and_then m n) h in
        let value = read-at s e x d w.0 h.context (first-strings g f s.context (strings_in e) (m.strings ++ n.strings) h.strings) (λ i z. l i (size_in_inner if_condition z)) in
        let first = statement-typed a w.1 (first-site g f (past_expression e s) m n inner) (λ i z. l i (size_in_part first_branch z)) in
        let second = may-be-typed b w.2 (behind-added g f (past_expression e s) m n inner) (λ i z. l i (size_in_part (second_branch a) z)) in
        record { typed = (condition-at s x value k, first.typed, second.typed); objects = objects-append m.objects n.objects first.objects second.objects }
    statement-typed {s = s} (of_while {e = e} {x = x} {m = m} d k a) w h l =
        let value = read-at s e x d w.0 h.context (first-strings g f s.context (strings_in e) m.strings h.strings) (λ i z. l i (size_in_inner while_condition z)) in
        let body = statement-typed a w.1 (loop-site g f (past_expression e s) m (behind-expression g f s e m h)) (λ i z. l i (size_in_part while_body z)) in
        record { typed = (condition-at s x value k, body.typed); objects = body.objects }
    statement-typed {s = s} (of_do {e = e} {x = x} {m = m} a d k) w h l =
        let body = statement-typed a w.0 (loop-site g f s m (first-site g f s m (just_strings (strings_in e)) h)) (λ i z. l i (size_in_part do_body z)) in
        let behind = behind-added g f s m (just_strings (strings_in e)) h in
        let value = read-at (past m s) e x d w.1 behind.context behind.strings (λ i z. l i (size_in_inner (do_condition a) z)) in
        record { typed = (body.typed, condition-at (past m s) x value k); objects = objects-append m.objects [] body.objects tt }
    statement-typed {s = s} (of_for {e = e} {i = i} {c = c} {n = n} {a = a} {f = first} {u = u} {x = x} {y = y} {m = m} {k = k} b p q r) w h l =
        let start = first-site g f s m (and_then (just_strings (strings_maybe c ++ strings_maybe n)) k) h in
        let begun = begins-typed b w.0 (block-site g f s m start) (λ j z. l j (size_in_part for_beginning z)) in
        let place : IsPast s m e = record { strings = begun.past.strings; locals = begun.past.locals; result = begun.past.result; position = begun.past.position } in
        let site = last-site g f s e m (and_then (just_strings (strings_maybe c ++ strings_maybe n)) k) h place begun.context in
        let both = first-strings g f e.context (strings_maybe c ++ strings_maybe n) k.strings site.strings in
        let test = test-typed p w.1 begun.context (first-strings g f e.context (strings_maybe c) (strings_maybe n) both) (λ d z. test-within b z l) in
        let step = step-typed q w.2 (past-strings-sound g f (strings_maybe c) e.context begun.context) (last-strings g f e.context.next_string (strings_maybe c) (strings_maybe n) both) (λ d z. step-within b z l) in
        let all = site.strings in
        let l1 = length-append (strings_maybe c ++ strings_maybe n) k.strings in
        let l2 = length-append (strings_maybe c) (strings_maybe n) in
        let inner : IsSoundSite g f (in_loop (past_maybe n (past_maybe c e))) k = record {
          context = past-strings-sound g f (strings_maybe n) (behind_maybe c e.context) (past-strings-sound g f (strings_maybe c) e.context begun.context);
          strings = omega (arith, all, l1, l2);
          objects = site.objects;
          result = site.result;
          scalar = site.scalar;
        } in
        let body = statement-typed r w.3 inner (λ j z. l j (size_in_part (for_body b) z)) in
        record { typed = (begun.typed, test, step, body.typed); objects = objects-append m.objects k.objects begun.objects body.objects }
    statement-typed {s = s} (of_switch {e = e} {is = is} {x = x} {k = k} {m = m} d q c) w h l =
        let i = switch_type (value_in s x) in
        let good = expressions g f s.context e x d w.0 h.context (first-strings g f s.context (strings_in e) m.strings h.strings) (λ n z. l n (size_in_inner switched z)) in
        let value = as-integer-sound g f s.context.known i (value_in s x) (reads g f s.context.known x good.0) (integer-seen g f s.context.known x good.0 q.0) in
        let inner = switch-site g f (in_block (past_expression e s)) m (block-site g f (past_expression e s) m (behind-expression g f s e m h)) in
        let count = count-same k.statements in
        let cases = cases-typed (statements_in k.statements) c w.1 inner (λ n z. l n (size_in_part (switch_block d) z)) (omega (arith, count)) in
        record {
          typed = (
            value.typed,
            subst IsPromotedShape (sym value.shape) (promoted-kind (integer_of (value_in s x).type)),
            subst (λ shape. AreLabels shape (statements_in k.statements) k.cases) (sym value.shape) cases.labels,
            otherwise-at-most (statements_in k.statements) k (omega (arith, count)) cases.otherwise,
            subst (λ b. AreTyped g f b (rule_34_continue s.position) k.statements) (or-last s.position.in_loop) cases.parts.typed,
          );
          objects = cases.parts.objects;
        }
    statement-typed {s = s} (of_break m) w h l = record { typed = true-is (rule_34_break s.position) m.0; objects = tt }
    statement-typed {s = s} (of_continue m) w h l = record { typed = true-is (rule_34_continue s.position) m.0; objects = tt }
    statement-typed {s = s} (of_return m) w h l =
        record { typed = h.result ∙ ap (λ b. if b then None else Some (kind_in s.result)) (no-value (is_void s.result) m.0); objects = tt }
    statement-typed {s = s} (of_return_value {e = e} {x = x} d m) w h l =
        let known = s.context.known in
        let good = expressions g f s.context e x d w h.context h.strings (λ n z. l n (size_in_inner returned z)) in
        let fit = fitted g f known s.result x good.0 m.1.0 in
        let some = no-void (is_void s.result) m.0 in
        let shape = fit.shape ∙ ap Some (scalar-access known s.result h.scalar some) in
        record { typed = returned-typed s.result (as_type s.result (value_in s x)) h.result some h.scalar fit.typed shape; objects = tt }

    may-be-typed : {s : Site} {a : t.MaybeStatement} {u : Stmt} {m : Added} → MayBeTyped s a u m → MayBeWrittenStatement a → IsSoundSite g f s m → IsBodyWithin s (else_node a) → IsPart s u m
    may-be-typed no_else w h l = record { typed = tt; objects = tt }
    may-be-typed (an_else a) w h l = statement-typed a w h (λ n z. l n (size_in_part else_statement z))

    items-typed : {s : Site} {is : t.BlockItems} {us : Stmts} {m : Added} → TypedItems s is us m → AreWrittenItems is → IsSoundSite g f s m → IsBodyWithin s (some_items is) → AreParts s us m
    items-typed no_item w h l = record { typed = tt; objects = tt }
    items-typed {s = s} (a_declaration {e = e} {us = us} {vs = vs} {m = m} {n = n} d r) w h l =
        let first = declaration-typed g f (rule_34_break s.position) (rule_34_continue s.position) d w.0 (first-site g f s m n h) (λ i z. l i (size_in_part item_declaration z)) in
        let rest = items-typed r w.1 (last-site g f s e m n h first.past first.context) (λ i z. l i (size_in_part (behind_declaration d) z)) in
        let here : AreTypedAt s vs = subst (λ p. AreTyped g f (rule_34_break p) (rule_34_continue p) vs) first.past.position rest.typed in
        record { typed = typed-appended g f (rule_34_break s.position) (rule_34_continue s.position) us vs first.typed here; objects = objects-append m.objects n.objects first.objects rest.objects }
    items-typed {s = s} (a_statement {m = m} {n = n} a r) w h l =
        let first = statement-typed a w.0 (first-site g f s m n h) (λ i z. l i (size_in_part item_statement z)) in
        let rest = items-typed r w.1 (behind-added g f s m n h) (λ i z. l i (size_in_part (behind_statement a) z)) in
        record { typed = (first.typed, rest.typed); objects = objects-append m.objects n.objects first.objects rest.objects }

    cases-typed : {i : Integer} {s : Site} {n : ℕ} {before : Labels} {is : t.BlockItems} {k : Cases} {m : Added} (most : ℕ) → TypedCases i s n before is k m → AreWrittenItems is → IsSoundSite g f s m → IsBodyWithin s (some_cases i n before is) → n + count_stmts k.statements ≤ most → AreCases i s most before.constants k m
    cases-typed most no_case w h l le = record { parts = record { typed = tt; objects = tt }; labels = tt; fresh = tt; otherwise = tt }
    cases-typed {s = s} {n = n} most (between_cases {e = e} {us = us} {k = k} {m = m} {l = more} d r) w h l le =
        let first = declaration-typed g f (rule_34_break s.position) (rule_34_continue s.position) d w.0 (first-site g f s m more h) (λ i z. l i (size_in_part case_declaration z)) in
        let count = count-appended us k.statements in
        let rest = cases-typed most r w.1 (last-site g f s e m more h first.past first.context) (λ i z. l i (size_in_part (cases_behind_declaration d) z)) (omega (arith, le, count)) in
        let here : AreTypedAt s k.statements = subst (λ p. AreTyped g f (rule_34_break p) (rule_34_continue p) k.statements) first.past.position rest.parts.typed in
        record {
          parts = record { typed = typed-appended g f (rule_34_break s.position) (rule_34_continue s.position) us k.statements first.typed here; objects = objects-append m.objects more.objects first.objects rest.parts.objects };
          labels = rest.labels;
          fresh = rest.fresh;
          otherwise = rest.otherwise;
        }
    cases-typed {i = i} {s = s} {n = n} {before = before} most (a_labelled {behind = behind} {u = u} {ks = ks} {d = d} {k = k} {m = m} {l = more} a r) w h l le =
        let first = labelled-typed most a w.0 (first-site g f s m more h) (λ j z. l j (size_in_part case_statement z)) (omega (arith, le)) in
        let rest = cases-typed most r w.1 (behind-added g f s m more h) (λ j z. l j (size_in_part (cases_behind_statement a) z)) (omega (arith, le)) in
        record {
          parts = record { typed = (first.part.typed, rest.parts.typed); objects = objects-append m.objects more.objects first.part.objects rest.parts.objects };
          labels = labels-append (Some (Scalar (kind_of i))) most ks k.cases first.labels rest.labels (fresh-behind behind.constants before.constants ks k.cases first.covers rest.fresh);
          fresh = fresh-append before.constants ks k.cases first.fresh (fresh-before behind.constants before.constants ks k.cases first.covers rest.fresh);
          otherwise = first-at-most most d k.otherwise first.otherwise rest.otherwise;
        }

    labelled-typed : {i : Integer} {s : Site} {n : ℕ} {before behind : Labels} {a : t.Statement} {u : Stmt} {ks : List Case} {d : Option ℕ} {m : Added} (most : ℕ) → Labelled i s n before a behind u ks d m → IsWrittenStatement a → IsSoundSite g f s m → IsBodyWithin s (labelled_node i n before a) → n ≤ most
        → IsLabelled i s most before.constants behind.constants u ks d m
    labelled-typed most (no_label a) w h l le =
        record { part = statement-typed a w h (λ j z. l j (size_in_part (unlabelled (unlabelled-is a)) z)); labels = tt; fresh = tt; covers = λ z e. (e, tt); otherwise = tt }
    labelled-typed {i = i} {s = s} {n = n} {before = before} {behind = behind} most (of_case {e = e} {x = x} {ks = ks} {m = m} d q r) w h l le =
        let z = label_value i (constant_in x) in
        let rest = labelled-typed most r w.1 (behind-expression g f s e m h) (λ j y. l j (size_in_part (behind_case d) y)) le in
        let kind = label-of-kind i (constant_in x) q.0 in
        let new = label-differs i (constant_in x) before.constants q.0 q.1.0 in
        let apart = fresh-first z before.constants ks rest.fresh in
        record {
          part = record { typed = rest.part.typed; objects = rest.part.objects };
          labels = (kind, le, no-label-apart z ks apart, rest.labels);
          fresh = (new, fresh-rest z before.constants ks rest.fresh);
          covers = λ y none.
              let all = rest.covers y none in
              let both = or-none (int_eq y z) (is_among y before.constants) all.0 in
              (both.1, (both.0, all.1));
          otherwise = rest.otherwise;
        }
    labelled-typed most (of_default q r) w h l le =
        let rest = labelled-typed most r w h (λ j z. l j (size_in_part behind_default z)) le in
        record { part = rest.part; labels = rest.labels; fresh = rest.fresh; covers = rest.covers; otherwise = le }

  pub statements : (s : Site) (a : t.Statement) (u : Stmt) (m : Added) → TypedStatement s a u m → IsWrittenStatement a → IsSoundSite g f s m → IsBodyWithin s (statement_node a) → IsTypedAt g f s u × AreObjects m.objects
  statements s a u m d w h l = let part = statement-typed d w h l in (part.typed, part.objects)

  pub items : (s : Site) (is : t.BlockItems) (us : Stmts) (m : Added) → TypedItems s is us m → AreWrittenItems is → IsSoundSite g f s m → IsBodyWithin s (some_items is) → AreTypedAt s us × AreObjects m.objects
  items s is us m d w h l = let parts = items-typed d w h l in (parts.typed, parts.objects)
