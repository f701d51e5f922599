-- What the string that an initialiser is tells of it.
use Rattle.std.proofs.Common.{◌≡◌, ℕ, ◌+◌, true, false, ◌&&◌, nat_le, length, List, Bor, Option, Some, None, MatchOption, refl, ap, ◌∙◌, subst, if◌then◌else◌}
use Rattle.im_check_stop.specs.im_word.Words.{Name}
use Rattle.im_ctree.specs.Tree as t
use Rattle.im_ctype.specs.Types.{CType, array, unsized, is_character}
use Rattle.im_check_stop.specs.im_rules.Initialisers.{bytes, misshapen, shape, string_shape, element_shape, counted, completed}
use Rattle.im_check_stop.specs.im_rules.Rules.{initializer_count, is_string_for}
use Rattle.im_check_shapes.specs.Parts.{text_of, only_expression, text_if, string_alone}

pub text_made : (found : Option t.Expression) (e : t.Expression) (result : Option (Bor (List ℕ)))
    → found ≡ Some e
    → MatchOption result (text_of e ≡ None) (λ s. text_of e ≡ Some s.now)
    → MatchOption result (text_if found ≡ None) (λ s. text_if found ≡ Some s.now)
text_made found e None f h = ap text_if f ∙ h
text_made found e (Some s) f h = ap text_if f ∙ h

pub record NoString (i : t.Initializer) : Type 0 where
  pub within : (e : CType) (n : ℕ) → is_string_for (array e n) i ≡ false
  pub free : (e : CType) → is_string_for (unsized e) i ≡ false
  pub form : (e : CType) → string_shape e i ≡ misshapen

pub record IsString (i : t.Initializer) (s : Name) : Type 0 where
  pub within : (e : CType) (n : ℕ) → is_string_for (array e n) i ≡ (is_character e && nat_le (length s) n)
  pub free : (e : CType) → is_string_for (unsized e) i ≡ is_character e
  pub form : (e : CType) → string_shape e i ≡ bytes e s

abbrev StringFacts : t.Initializer → Option Name → Type 0
StringFacts i None = NoString i
StringFacts i (Some s) = IsString i s

braced_facts : (at : ℕ) (rest : t.Initializers) (e : t.Expression) → StringFacts (t.braced_initializer at (t.more_initializers (t.value_initializer e) rest)) (string_alone (t.braced_initializer at (t.more_initializers (t.value_initializer e) rest)))
braced_facts at t.no_initializers (t.string_literal at' s) = record { within = λ e n. refl; free = λ e. refl; form = λ e. refl }
braced_facts at (t.more_initializers i is) (t.string_literal at' s) = record { within = λ e n. refl; free = λ e. refl; form = λ e. refl }
braced_facts at _ _ = record { within = λ e n. refl; free = λ e. refl; form = λ e. refl }

string_facts : (i : t.Initializer) → StringFacts i (string_alone i)
string_facts (t.braced_initializer at (t.more_initializers (t.value_initializer e) rest)) = braced_facts at rest e
string_facts (t.value_initializer (t.string_literal at s)) = record { within = λ e n. refl; free = λ e. refl; form = λ e. refl }
string_facts _ = record { within = λ e n. refl; free = λ e. refl; form = λ e. refl }

pub no_string : (i : t.Initializer) → string_alone i ≡ None → NoString i
no_string i h = subst (λ z. StringFacts i z) h (string_facts i)

pub is_string : (i : t.Initializer) (s : Name) → string_alone i ≡ Some s → IsString i s
is_string i s h = subst (λ z. StringFacts i z) h (string_facts i)

-- an array is initialised by a string, or by a list
pub string_array : (e : CType) (n : ℕ) (i : t.Initializer) → is_string_for (array e n) i ≡ true → shape (array e n) i ≡ string_shape e i
string_array e n i h = ap (λ b. if b then string_shape e i else element_shape e i) h

pub list_array : (e : CType) (n : ℕ) (i : t.Initializer) → is_string_for (array e n) i ≡ false → shape (array e n) i ≡ element_shape e i
list_array e n i h = ap (λ b. if b then string_shape e i else element_shape e i) h

-- how many elements an expression gives
abbrev value_count : Option Name → ℕ
value_count None = 0
value_count (Some s) = length s + 1

counted_value : (a : CType) (e : t.Expression) → counted a (t.value_initializer e) ≡ value_count (text_of e)
counted_value a (t.string_literal at s) = refl
counted_value a _ = refl

pub counted_text : (a : CType) (e : t.Expression) (s : Name) → text_of e ≡ Some s → counted a (t.value_initializer e) ≡ length s + 1
counted_text a e s h = counted_value a e ∙ ap value_count h

pub counted_none : (a : CType) (e : t.Expression) → text_of e ≡ None → counted a (t.value_initializer e) ≡ 0
counted_none a e h = counted_value a e ∙ ap value_count h

-- how many elements a list in braces gives
abbrev list_count : CType → t.Initializers → Option Name → ℕ
list_count a is None = initializer_count is
list_count a is (Some s) = if is_character a then length s + 1 else initializer_count is

counted_braced : (a : CType) (at : ℕ) (rest : t.Initializers) (e : t.Expression) → counted a (t.braced_initializer at (t.more_initializers (t.value_initializer e) rest)) ≡ list_count a (t.more_initializers (t.value_initializer e) rest) (text_if (only_expression (t.more_initializers (t.value_initializer e) rest)))
counted_braced a at t.no_initializers (t.string_literal at' s) = refl
counted_braced a at (t.more_initializers i is) (t.string_literal at' s) = refl
counted_braced a at _ _ = refl

counted_list : (a : CType) (at : ℕ) (is : t.Initializers) → counted a (t.braced_initializer at is) ≡ list_count a is (text_if (only_expression is))
counted_list a at (t.more_initializers (t.value_initializer e) rest) = counted_braced a at rest e
counted_list a at _ = refl

pub counted_string : (a : CType) (at : ℕ) (is : t.Initializers) (s : Name) → is_character a ≡ true → text_if (only_expression is) ≡ Some s → counted a (t.braced_initializer at is) ≡ length s + 1
counted_string a at is s c h = counted_list a at is ∙ ap (list_count a is) h ∙ ap (λ b. if b then length s + 1 else initializer_count is) c

pub counted_items : (a : CType) (at : ℕ) (is : t.Initializers) → text_if (only_expression is) ≡ None → counted a (t.braced_initializer at is) ≡ initializer_count is
counted_items a at is h = counted_list a at is ∙ ap (list_count a is) h

plain_count : (a : CType) (is : t.Initializers) (s : Option Name) → is_character a ≡ false → list_count a is s ≡ initializer_count is
plain_count a is None c = refl
plain_count a is (Some s) c = ap (λ b. if b then length s + 1 else initializer_count is) c

pub counted_others : (a : CType) (at : ℕ) (is : t.Initializers) → is_character a ≡ false → counted a (t.braced_initializer at is) ≡ initializer_count is
counted_others a at is c = counted_list a at is ∙ plain_count a is (text_if (only_expression is)) c

-- no initialiser gives a length
pub completed_none : (a : CType) → completed a t.no_initializer ≡ a
completed_none (unsized e) = refl
completed_none _ = refl
