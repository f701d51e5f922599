-- Enumeration constants, put together and one behind the other.
use Rattle.std.proofs.Common.{◌≡◌, ℕ, ◌+◌, ◌<◌, ℤ, pos, ◌+ℤ◌, true, false, not, List, [], ◌∷◌, length, drop, get_or, Option, Some, None, is_some, refl, sym, ap, ◌∙◌, subst}
use Rattle.std.proofs.lemmas.List.{drop_more, drop_all}
use Rattle.im_check_expressions.specs.im_word.Words.{Name}
use Rattle.im_ctree.specs.Tree as t
use Rattle.im_ctree.specs.declared.specifier.Enumerator.{Enumerator, out-Enumerator}
use Rattle.im_rules.specs.Scopes as s
use Rattle.im_rules.specs.Strings.{strings_maybe}
use Rattle.im_rules.specs.Rules.{rule_3, rule_4}
use Rattle.im_rules.specs.Declared.{is_typedef_name}
use Rattle.im_rules.specs.Demands.{Meets, Refuses}
use Rattle.im_rules.specs.FileScope.{FilePlace, past_strings, with_enumerator, number_in, enumerator_asks}
use Rattle.im_rules.specs.TypedUnit.{AreEnumerators, no_enumerator, an_enumerator, IsNumber}
use Rattle.im_rules.specs.UnitBreaks.{FileBroken, here_in_file, within_file, in_file_inner, some_enumerators, at_enumerator, other_enumerators, enumerator_value}
use Rattle.im_rules_limits.specs.Limits.{size_in_file_part, size_in_file_inner, IsFileWithin}
use Rattle.im_check_stop.specs.declared.stop.Stop.{Stop}
use Rattle.im_check_stop.specs.declared.stop.Stop.TheVariants.{Rule, Large, Memory}
use Rattle.im_check_stop.specs.Answers.{IsRefusal}
use Rattle.im_ctree_parts.specs.Lists.{maybe_from, with_enumerator as with_one, enumerators_from}
use Rattle.im_ctree_parts.proofs.Shapes.{enumerator_shape}
use Rattle.im_check_file_specifiers.specs.Answers.{IsFileFault, IsRest}
use Rattle.im_check_file_specifiers.specs.Enumerators.{IsNumbered, IsValueFault, GoesOnEnumerators}
use Rattle.im_check_file_specifiers.proofs.Places.{with_scopes}
use Rattle.im_check_file_specifiers.proofs.Rests.{rest_itself, rest_then, rest_fault}
use Rattle.im_check_file_specifiers.proofs.Within.{no_enumerators_within, enumerators_within}

-- a constant is new in its scope
pub never_twice : (old : s.Entity) (z : ℤ) (b : _) → rule_3 (Some old) (s.an_enumerator z) b false false ≡ false
never_twice (s.an_object c a k) z true = refl
never_twice (s.a_function f c a) z true = refl
never_twice (s.an_enumerator y) z true = refl
never_twice (s.a_typedef c a) z true = refl
never_twice old z false = refl

pub new_or_not : (old : Option s.Entity) (z : ℤ) (b : _) → rule_3 old (s.an_enumerator z) b false false ≡ not (is_some old)
new_or_not None z b = refl
new_or_not (Some old) z b = never_twice old z b

pub typedef_or_not : (old : Option s.Entity) (z : ℤ) → rule_4 old (s.an_enumerator z) ≡ not (is_typedef_name old)
typedef_or_not None z = refl
typedef_or_not (Some (s.an_object c a k)) z = refl
typedef_or_not (Some (s.a_function f c a)) z = refl
typedef_or_not (Some (s.an_enumerator y)) z = refl
typedef_or_not (Some (s.a_typedef c a)) z = refl

-- one constant

abbrev value_of : Enumerator → t.MaybeExpression
value_of e = maybe_from (out-Enumerator e).value

abbrev tree_by : Enumerator → t.Enumerators → t.Enumerators
tree_by e rest = t.more_enumerators (out-Enumerator e).at (out-Enumerator e).name.items (value_of e) rest

shaped : {f : FilePlace} {next : ℤ} (e : Enumerator) (rest : t.Enumerators) {rule token : ℕ} → FileBroken f (some_enumerators next (tree_by e rest)) rule token → FileBroken f (some_enumerators next (with_one e rest)) rule token
shaped {f = f} {next = next} e rest {rule = rule} {token = token} b = subst (λ z. FileBroken f (some_enumerators next z) rule token) (sym (enumerator_shape e rest)) b

value_broken : (f : FilePlace) (next : ℤ) (at : ℕ) (x : Name) (m : t.MaybeExpression) (rest : t.Enumerators) (stop : Stop) → IsValueFault f m stop → IsFileFault f (some_enumerators next (t.more_enumerators at x m rest)) stop
value_broken f next at x t.no_expression rest (Rule rule token) b = absurd b
value_broken f next at x (t.an_expression e) rest (Rule rule token) b = in_file_inner enumerator_value b
value_broken f next at x t.no_expression rest (Large bytes) b = absurd b.0
value_broken f next at x (t.an_expression e) rest (Large bytes) b = (size_in_file_inner enumerator_value b.0, b.1)
value_broken f next at x m rest Memory b = tt

pub value_fault : (f : FilePlace) (next : ℤ) (e : Enumerator) (rest : t.Enumerators) (stop : Stop) → IsValueFault f (maybe_from (out-Enumerator e).value) stop → IsFileFault f (some_enumerators next (with_one e rest)) stop
value_fault f next e rest stop b =
    subst (λ z. IsFileFault f (some_enumerators next z) stop) (sym (enumerator_shape e rest)) (value_broken f next (out-Enumerator e).at (out-Enumerator e).name.items (value_of e) rest stop b)

pub asked_fault : (f g : FilePlace) (next : ℤ) (e : Enumerator) (z : Option ℤ) (rest : t.Enumerators) (stop : Stop)
    → IsNumbered f next (maybe_from (out-Enumerator e).value) g z
    → IsRefusal (enumerator_asks g.context.scopes (out-Enumerator e).name.items z) (out-Enumerator e).at stop
    → IsFileFault f (some_enumerators next (with_one e rest)) stop
asked_fault f g next e z rest (Rule rule token) n r =
    let refuses : Refuses rule (enumerator_asks f.context.scopes (out-Enumerator e).name.items z) = subst (λ (p : FilePlace). Refuses rule (enumerator_asks p.context.scopes (out-Enumerator e).name.items z)) n.1 r.0 in
    shaped e rest (subst (λ w. FileBroken f (some_enumerators next (tree_by e rest)) rule w) (sym r.1) (here_in_file (at_enumerator n.0 refuses)))
asked_fault f g next e z rest (Large bytes) n r = absurd r
asked_fault f g next e z rest Memory n r = tt

module _ (f g : FilePlace) (next : ℤ) (at : ℕ) (x : Name) (m : t.MaybeExpression) (z then : ℤ)
    (n : IsNumbered f next m g (Some z))
    (one : then ≡ z +ℤ pos 1) where
  abbrev behind_it : FilePlace
  behind_it = with_enumerator x (Some z) m (past_strings (strings_maybe m) f)

  reached : with_scopes (s.named x (s.an_enumerator z) g.context.scopes) g ≡ behind_it
  reached = ap (λ (p : FilePlace). with_scopes (s.named x (s.an_enumerator z) p.context.scopes) p) n.1

  pub one_gives : (rest : t.Enumerators) (h : FilePlace) → Meets (enumerator_asks g.context.scopes x (Some z))
      → AreEnumerators (with_scopes (s.named x (s.an_enumerator z) g.context.scopes) g) then rest h
      → AreEnumerators f next (t.more_enumerators at x m rest) h
  one_gives rest h meets more =
      let meets₁ : Meets (enumerator_asks f.context.scopes x (Some z)) = subst (λ (p : FilePlace). Meets (enumerator_asks p.context.scopes x (Some z))) n.1 meets in
      let more₁ : AreEnumerators behind_it then rest h = subst (λ p. AreEnumerators p then rest h) reached more in
      an_enumerator n.0 meets₁ (subst (λ y. AreEnumerators behind_it y rest h) one more₁)

  pub one_behind : (rest : t.Enumerators)
      → IsRest f (some_enumerators next (t.more_enumerators at x m rest)) (with_scopes (s.named x (s.an_enumerator z) g.context.scopes) g) (some_enumerators then rest)
  one_behind rest =
      let all = some_enumerators next (t.more_enumerators at x m rest) in
      let r : IsRest f all behind_it (some_enumerators (z +ℤ pos 1) rest) = record {
        breaks = λ rule token b. within_file (other_enumerators n.0) b;
        sizes = λ k b. size_in_file_part (other_enumerators n.0) b;
        within = enumerators_within f next at x m rest (Some z) n.0 n.2;
      } in
      let r₁ : IsRest f all behind_it (some_enumerators then rest) = subst (λ y. IsRest f all behind_it (some_enumerators y rest)) (sym one) r in
      subst (λ p. IsRest f all p (some_enumerators then rest)) (sym reached) r₁

pub enumerator_done : (f g h : FilePlace) (next : ℤ) (e : Enumerator) (o : Option ℤ) (z then : ℤ) (rest : t.Enumerators)
    → IsNumbered f next (maybe_from (out-Enumerator e).value) g o
    → Meets (enumerator_asks g.context.scopes (out-Enumerator e).name.items o)
    → o ≡ Some z
    → h ≡ with_scopes (s.named (out-Enumerator e).name.items (s.an_enumerator z) g.context.scopes) g
    → then ≡ z +ℤ pos 1
    → GoesOnEnumerators f next (with_one e rest) then rest h
enumerator_done f g h next e o z then rest n meets is place one =
    let x = (out-Enumerator e).name.items in
    let at = (out-Enumerator e).at in
    let n₁ : IsNumbered f next (value_of e) g (Some z) = subst (λ w. IsNumbered f next (value_of e) g w) is n in
    let meets₁ : Meets (enumerator_asks g.context.scopes x (Some z)) = subst (λ w. Meets (enumerator_asks g.context.scopes x w)) is meets in
    record {
      gives = λ k more.
          subst (λ w. AreEnumerators f next w k) (sym (enumerator_shape e rest)) (one_gives f g next at x (value_of e) z then n₁ one rest k meets₁ (subst (λ p. AreEnumerators p then rest k) place more));
      behind =
          let r = subst (λ p. IsRest f (some_enumerators next (tree_by e rest)) p (some_enumerators then rest)) (sym place) (one_behind f g next at x (value_of e) z then n₁ one rest) in
          subst (λ w. IsRest f (some_enumerators next w) h (some_enumerators then rest)) (sym (enumerator_shape e rest)) r;
    }

-- one behind the other

pub next : {X : Type 0} (xs : List X) (i : ℕ) (x : X) → i < length xs → x ≡ get_or xs i x → drop i xs ≡ x ∷ drop (i + 1) xs
next xs i x below is = drop_more xs i x below ∙ ap (λ y. y ∷ drop (i + 1) xs) (sym is)

-- how far constants are declared
pub record EnumeratorsReached (before : FilePlace) (es : List Enumerator) (i : ℕ) (y : ℤ) (now : FilePlace) : Type 0 where
  pub gives : (g : FilePlace) → AreEnumerators now y (enumerators_from (drop i es)) g → AreEnumerators before (pos 0) (enumerators_from es) g
  pub behind : IsRest before (some_enumerators (pos 0) (enumerators_from es)) now (some_enumerators y (enumerators_from (drop i es)))

pub reached_none : (f : FilePlace) (es : List Enumerator) → EnumeratorsReached f es 0 (pos 0) f
reached_none f es = record { gives = λ g d. d; behind = rest_itself f (some_enumerators (pos 0) (enumerators_from es)) }

pub reached_more : {before now after : FilePlace} {es : List Enumerator} {i : ℕ} {e : Enumerator} (y then : ℤ)
    → drop i es ≡ e ∷ drop (i + 1) es
    → EnumeratorsReached before es i y now
    → ((rest : t.Enumerators) → GoesOnEnumerators now y (with_one e rest) then rest after)
    → EnumeratorsReached before es (i + 1) then after
reached_more {now = now} {after = after} {es = es} {i = i} y then at reached one =
    let r = enumerators_from (drop (i + 1) es) in
    record {
      gives = λ g d.
          let d₁ : AreEnumerators now y (enumerators_from (drop i es)) g = rw at ((one r).gives g d) in
          reached.gives g d₁;
      behind =
          let b : IsRest now (some_enumerators y (enumerators_from (drop i es))) after (some_enumerators then r) = rw at (one r).behind in
          rest_then reached.behind b;
    }

pub reached_fault : {before now : FilePlace} {es : List Enumerator} {i : ℕ} {e : Enumerator} (y : ℤ) (stop : Stop)
    → drop i es ≡ e ∷ drop (i + 1) es
    → EnumeratorsReached before es i y now
    → ((rest : t.Enumerators) → IsFileFault now (some_enumerators y (with_one e rest)) stop)
    → IsFileFault before (some_enumerators (pos 0) (enumerators_from es)) stop
reached_fault {now = now} {es = es} {i = i} y stop at reached broken =
    let b : IsFileFault now (some_enumerators y (enumerators_from (drop i es))) stop = rw at (broken (enumerators_from (drop (i + 1) es))) in
    rest_fault stop reached.behind b

pub reached_all : {before now : FilePlace} {es : List Enumerator} {i : ℕ} (y : ℤ)
    → drop i es ≡ []
    → EnumeratorsReached before es i y now
    → AreEnumerators before (pos 0) (enumerators_from es) now × IsFileWithin before (some_enumerators (pos 0) (enumerators_from es))
reached_all {now = now} {es = es} {i = i} y ends reached =
    let d : AreEnumerators now y (enumerators_from (drop i es)) now = rw ends no_enumerator in
    let w : IsFileWithin now (some_enumerators y (enumerators_from (drop i es))) = rw ends (no_enumerators_within now y) in
    (reached.gives now d, reached.behind.within w)
