-- What stands behind the shape of an initialiser.
use Rattle.std.proofs.Common.{◌≡◌, ◌⊎◌, inl, inr, ℕ, ◌≤◌, ◌||◌, [], length, Bool, true, false, refl, sym, ap, subst}
use Rattle.std.specs.Prelude.{nat_le, if◌then◌else◌}
use Rattle.std.proofs.lemmas.Bool.{leb-true}
use Rattle.im_word.specs.Words.{Name}
use Rattle.im_ctree.specs.Tree as t
use Rattle.im_store.proofs.Same.{both-true}
use Rattle.im_ctype.specs.Types.{CType, void, integer, pointer, array, unsized, struct, function, members_of, is_array, is_character}
use Rattle.im_ctype.specs.Members.{places}
use Rattle.im_typed.specs.Program.{Func, Prog}
use Rattle.im_rules.specs.Rules.{is_string_for, initializer_count, rule_16}
use Rattle.im_rules.specs.Strings.{strings_in}
use Rattle.im_rules.specs.Context.{Context}
use Rattle.im_rules.specs.Breaks.{an_expression}
use Rattle.im_rules.specs.Initialisers.{Shape, one, bytes, elements, members, misshapen, string_shape, element_shape, shape, side_by_side, in_order, strings_given, strings_among}
use Rattle.im_rules.specs.BodyBreaks.{an_initialiser, some_elements, some_members}
use Rattle.im_rules_limits.specs.Limits.{size_in_value, size_in_elements, size_in_members, IsWithin, IsGivenWithin}
use Rattle.im_rules_sound_expressions.specs.Bounded.{HasStrings}
use Rattle.im_rules_sound_expressions.specs.Written.{IsWritten, IsWrittenInitialiser, AreWrittenInitialisers}
use Rattle.im_rules_sound_expressions.proofs.Expressions.{first-strings}

pub record IsOne (g : Prog) (c : Context) (a : CType) (e : t.Expression) : Type 0 where
  pub plain : is_array a ≡ false
  pub written : IsWritten e
  pub strings : HasStrings g c (strings_in e)
  pub within : IsWithin c (an_expression e)

pub record IsBytes (a e : CType) (s : Name) : Type 0 where
  pub count : ℕ
  pub is : a ≡ array e count
  pub fits : length s ≤ count
  pub character : is_character e ≡ true

pub record AreElements (g : Prog) (c : Context) (a : CType) (at : ℕ) (e : CType) (is : t.Initializers) : Type 0 where
  pub count : ℕ
  pub type : a ≡ array e count
  pub fits : initializer_count is ≤ count
  pub written : AreWrittenInitialisers is
  pub strings : HasStrings g c (strings_among c.known (side_by_side e) is)
  pub within : IsGivenWithin c (some_elements e at is)

pub record AreMembersOf (g : Prog) (c : Context) (a : CType) (at n : ℕ) (is : t.Initializers) : Type 0 where
  pub type : a ≡ struct n
  pub written : AreWrittenInitialisers is
  pub strings : HasStrings g c (strings_among c.known (in_order (members_of c.known n)) is)
  pub within : IsGivenWithin c (some_members (members_of c.known n) (places c.known n) at is)

abbrev pub Info : Prog → Context → CType → ℕ → Shape → Type 0
Info g c a at (one e) = IsOne g c a e
Info g c a at (bytes e s) = IsBytes a e s
Info g c a at (elements e is) = AreElements g c a at e is
Info g c a at (members n is) = AreMembersOf g c a at n is
Info g c a at misshapen = Unit {0}

-- a string literal, or an expression that is none

record IsLiteral (x : t.Expression) : Type 0 where
  pub at : ℕ
  pub text : Name
  pub is : x ≡ t.string_literal at text

record IsNoLiteral (x : t.Expression) : Type 0 where
  pub alone : (e : CType) → string_shape e (t.value_initializer x) ≡ misshapen
  pub braced : (e : CType) (p : ℕ) (is : t.Initializers) → string_shape e (t.braced_initializer p (t.more_initializers (t.value_initializer x) is)) ≡ misshapen

literal-or-none : (x : t.Expression) → IsLiteral x ⊎ IsNoLiteral x
literal-or-none (t.string_literal p s) = inl (record { at = p; text = s; is = refl })
literal-or-none (t.identifier p y) = inr (record { alone = λ e. refl; braced = λ e p is. refl })
literal-or-none (t.integer_constant p n) = inr (record { alone = λ e. refl; braced = λ e p is. refl })
literal-or-none (t.character_constant p n) = inr (record { alone = λ e. refl; braced = λ e p is. refl })
literal-or-none (t.index p a b) = inr (record { alone = λ e. refl; braced = λ e p is. refl })
literal-or-none (t.call p d es) = inr (record { alone = λ e. refl; braced = λ e p is. refl })
literal-or-none (t.member_of p d m) = inr (record { alone = λ e. refl; braced = λ e p is. refl })
literal-or-none (t.arrow_to p d m) = inr (record { alone = λ e. refl; braced = λ e p is. refl })
literal-or-none (t.post_step p op d) = inr (record { alone = λ e. refl; braced = λ e p is. refl })
literal-or-none (t.pre_step p op d) = inr (record { alone = λ e. refl; braced = λ e p is. refl })
literal-or-none (t.unary p op d) = inr (record { alone = λ e. refl; braced = λ e p is. refl })
literal-or-none (t.size_of_expression p d) = inr (record { alone = λ e. refl; braced = λ e p is. refl })
literal-or-none (t.size_of_type p n) = inr (record { alone = λ e. refl; braced = λ e p is. refl })
literal-or-none (t.cast p n d) = inr (record { alone = λ e. refl; braced = λ e p is. refl })
literal-or-none (t.binary p op a b) = inr (record { alone = λ e. refl; braced = λ e p is. refl })
literal-or-none (t.conditional p d a b) = inr (record { alone = λ e. refl; braced = λ e p is. refl })
literal-or-none (t.assign p op a b) = inr (record { alone = λ e. refl; braced = λ e p is. refl })
literal-or-none (t.comma p a b) = inr (record { alone = λ e. refl; braced = λ e p is. refl })

module _ (g : Prog) (f : Func) (c : Context) where
  string-info : (e : CType) (n at : ℕ) (i : t.Initializer) → is_string_for (array e n) i ≡ true → Info g c (array e n) at (string_shape e i)
  string-info e n at (t.value_initializer x) r = by-form (literal-or-none x)
    where
      by-form : IsLiteral x ⊎ IsNoLiteral x → Info g c (array e n) at (string_shape e (t.value_initializer x))
      by-form (inl l) =
          subst (λ y. is_string_for (array e n) (t.value_initializer y) ≡ true → Info g c (array e n) at (string_shape e (t.value_initializer y))) (sym l.is)
          (λ k. let both = both-true (is_character e) (nat_le (length l.text) n) k in record { count = n; is = refl; fits = leb-true (length l.text) n both.1; character = both.0 }) r
      by-form (inr l) = subst (Info g c (array e n) at) (sym (l.alone e)) tt
  string-info e n at (t.braced_initializer p t.no_initializers) r = tt
  string-info e n at (t.braced_initializer p (t.more_initializers (t.braced_initializer q js) is)) r = tt
  string-info e n at (t.braced_initializer p (t.more_initializers (t.value_initializer x) is)) r = by-form (literal-or-none x)
    where
      by-others : (q : ℕ) (s : Name) (js : t.Initializers) → is_string_for (array e n) (t.braced_initializer p (t.more_initializers (t.value_initializer (t.string_literal q s)) js)) ≡ true → Info g c (array e n) at (string_shape e (t.braced_initializer p (t.more_initializers (t.value_initializer (t.string_literal q s)) js)))
      by-others q s t.no_initializers k = let both = both-true (is_character e) (nat_le (length s) n) k in record { count = n; is = refl; fits = leb-true (length s) n both.1; character = both.0 }
      by-others q s (t.more_initializers j js) k = tt

      by-form : IsLiteral x ⊎ IsNoLiteral x → Info g c (array e n) at (string_shape e (t.braced_initializer p (t.more_initializers (t.value_initializer x) is)))
      by-form (inl l) =
          subst (λ y. is_string_for (array e n) (t.braced_initializer p (t.more_initializers (t.value_initializer y) is)) ≡ true → Info g c (array e n) at (string_shape e (t.braced_initializer p (t.more_initializers (t.value_initializer y) is)))) (sym l.is)
          (by-others l.at l.text is) r
      by-form (inr l) = subst (Info g c (array e n) at) (sym (l.braced e p is)) tt

  -- what is no string of the array, and has its shape, is a list of few enough
  no-text-few : (e : CType) (n p : ℕ) (is : t.Initializers) → is_string_for (array e n) (t.braced_initializer p is) ≡ false → rule_16 c.known (array e n) (t.braced_initializer p is) ≡ true → nat_le (initializer_count is) n ≡ true
  no-text-few e n p is q r = by (is_string_for (unsized e) (t.braced_initializer p is)) (subst (λ b. (if is_string_for (unsized e) (t.braced_initializer p is) then b else nat_le (initializer_count is) n) ≡ true) q r)
    where
      by : (b : Bool) → (if b then false else nat_le (initializer_count is) n) ≡ true → nat_le (initializer_count is) n ≡ true
      by true h = cc
      by false h = h

  element-info : (e : CType) (n at : ℕ) (i : t.Initializer) → is_string_for (array e n) i ≡ false → rule_16 c.known (array e n) i ≡ true → IsWrittenInitialiser i → HasStrings g c (strings_given c.known (array e n) i) → IsGivenWithin c (an_initialiser (array e n) at i)
      → Info g c (array e n) at (element_shape e i)
  element-info e n at (t.value_initializer x) q r w s l = tt
  element-info e n at (t.braced_initializer p is) q r w s l =
      let few = no-text-few e n p is q r in
      let shaped : shape (array e n) (t.braced_initializer p is) ≡ elements e is = ap (λ b. if b then string_shape e (t.braced_initializer p is) else elements e is) q in
      record {
        count = n;
        type = refl;
        fits = leb-true (initializer_count is) n few;
        written = w;
        strings = subst (λ b. HasStrings g c (if b then [] else strings_among c.known (side_by_side e) is)) q s;
        within = λ m z. l m (size_in_elements shaped z);
      }

  pub info : (a : CType) (at : ℕ) (i : t.Initializer) → rule_16 c.known a i ≡ true → IsWrittenInitialiser i → HasStrings g c (strings_given c.known a i) → IsGivenWithin c (an_initialiser a at i) → Info g c a at (shape a i)
  info void at i r w s l = tt
  info (unsized e) at i r w s l = tt
  info (function q ps) at i r w s l = tt
  info (integer k) at (t.value_initializer e) r w s l = record { plain = refl; written = w; strings = s; within = λ n z. l n (size_in_value refl z) }
  info (integer k) at (t.braced_initializer p (t.more_initializers (t.value_initializer e) t.no_initializers)) r w s l =
      record { plain = refl; written = w.0; strings = first-strings g f c (strings_in e) [] s; within = λ n z. l n (size_in_value refl z) }
  info (integer k) at (t.braced_initializer p t.no_initializers) r w s l = tt
  info (integer k) at (t.braced_initializer p (t.more_initializers (t.value_initializer e) (t.more_initializers j js))) r w s l = tt
  info (integer k) at (t.braced_initializer p (t.more_initializers (t.braced_initializer q js) is)) r w s l = tt
  info (pointer k b) at (t.value_initializer e) r w s l = record { plain = refl; written = w; strings = s; within = λ n z. l n (size_in_value refl z) }
  info (pointer k b) at (t.braced_initializer p (t.more_initializers (t.value_initializer e) t.no_initializers)) r w s l =
      record { plain = refl; written = w.0; strings = first-strings g f c (strings_in e) [] s; within = λ n z. l n (size_in_value refl z) }
  info (pointer k b) at (t.braced_initializer p t.no_initializers) r w s l = tt
  info (pointer k b) at (t.braced_initializer p (t.more_initializers (t.value_initializer e) (t.more_initializers j js))) r w s l = tt
  info (pointer k b) at (t.braced_initializer p (t.more_initializers (t.braced_initializer q js) is)) r w s l = tt
  info (struct n) at (t.value_initializer e) r w s l = record { plain = refl; written = w; strings = s; within = λ m z. l m (size_in_value refl z) }
  info (struct n) at (t.braced_initializer p is) r w s l = record { type = refl; written = w; strings = s; within = λ m z. l m (size_in_members refl z) }
  info (array e n) at i r w s l = by-string (is_string_for (array e n) i) refl
    where
      by-string : (b : Bool) → is_string_for (array e n) i ≡ b → Info g c (array e n) at (if b then string_shape e i else element_shape e i)
      by-string true q = string-info e n at i q
      by-string false q = element-info e n at i q r w s l
