-- Declarators, by their parts: their words derive them again, in parentheses too, and merged with what stands round them.
use Rattle.std.proofs.Common.{◌≡◌, ℕ, zero, suc, ◌+◌, Bool, true, false, not, ◌&&◌, ◌||◌, cond, true≢false, List, [], ◌∷◌, ◌++◌, length, sym, subst, ap, refl, ◌∙◌, arith, append_assoc, bytes_eq, slice_index_or, ◌<◌}
use Rattle.std.proofs.lemmas.Cmp.{nat_list_eq_equiv}
use Rattle.std.specs.List.{Contains}
use Rattle.im_tok.specs.declared.punctuator.Punctuator.{Punctuator}
use Rattle.im_tok.specs.declared.punctuator.Punctuator.TheVariants.{OpenParen, CloseParen, CloseBracket, Star}
use Rattle.im_word.specs.Words.{Name, Word, name, keyword, number, character, text, mark, unknown}
use Rattle.im_ctree.specs.Tree as t
use Rattle.im_ctree.specs.Grammar as g
use Rattle.im_ctree.proofs.Behind.{goes_named}
use Rattle.im_print_relation.specs.Printed as w
use Rattle.im_print_relation.specs.Unnumbered as bare
use Rattle.im_print_relation.specs.Fit.{IsFit, AreFit}
use Rattle.im_print_relation.proofs.Fit.{fit_append, fit_closed, fit_parentheses, fit_stars, Printed}

consts_derived : (n : ℕ) → g.IsConsts n (w.consts n)
consts_derived zero = g.no_const
consts_derived (suc n) = g.a_const (consts_derived n)

pub stars_derived : (ns : List ℕ) → g.IsStars ns (w.stars ns)
stars_derived [] = g.no_star
stars_derived (n ∷ ns) = g.a_star (consts_derived n) (stars_derived ns)

-- what each suffix holds derives it again
pub data SuffixParts (T : List Name) : t.Suffixes → Type 0 where
  no_part : SuffixParts T t.no_suffixes
  array_part : {p : ℕ} {e : t.MaybeExpression} {ts : t.Suffixes} → Printed bare.maybe_expression (g.IsLength T) e (w.array_length T e) → SuffixParts T ts → SuffixParts T (t.array_suffix p e ts)
  function_part : {p : ℕ} {qs : t.Parameters} {ts : t.Suffixes} → Printed bare.parameters (g.IsParameters T) qs (w.parameters T qs) → SuffixParts T ts → SuffixParts T (t.function_suffix p qs ts)

pub suffixes_printed : {T : List Name} {ts : t.Suffixes} → SuffixParts T ts → Printed bare.suffixes (g.IsSuffixes T) ts (w.suffixes T ts)
suffixes_printed no_part = record { fit = tt; derives = λ q. (t.no_suffixes, refl, g.no_suffix) }
suffixes_printed {T = T} (array_part {e = e} {ts = ts} one more) =
    let u = w.array_length T e in
    let rest = suffixes_printed more in
    record {
      fit = (tt, fit_append u (mark CloseBracket ∷ w.suffixes T ts) one.fit (tt, rest.fit));
      derives = λ q. let y = one.derives (suc q) in let z = rest.derives (suc (suc q + length u)) in
          (t.array_suffix q y.0 z.0, cc (y.1, z.1), g.an_array y.2 z.2);
    }
suffixes_printed {T = T} (function_part {qs = qs} {ts = ts} one more) =
    let u = w.parameters T qs in
    let rest = suffixes_printed more in
    record {
      fit = (tt, fit_append u (mark CloseParen ∷ w.suffixes T ts) one.fit (tt, rest.fit));
      derives = λ q. let y = one.derives (suc q) in let z = rest.derives (suc (suc q + length u)) in
          (t.function_suffix q y.0 z.0, cc (y.1, z.1), g.a_function y.2 z.2);
    }

parts_append : {T : List Name} {ts us : t.Suffixes} → SuffixParts T ts → SuffixParts T us → SuffixParts T (t.append_suffixes ts us)
parts_append no_part y = y
parts_append (array_part one more) y = array_part one (parts_append more y)
parts_append (function_part one more) y = function_part one (parts_append more y)

append_none : (ts : t.Suffixes) → t.append_suffixes ts t.no_suffixes ≡ ts
append_none t.no_suffixes = refl
append_none (t.array_suffix p e ts) = ap (λ z. t.array_suffix p e z) (append_none ts)
append_none (t.function_suffix p qs ts) = ap (λ z. t.function_suffix p qs z) (append_none ts)

append_bare : (ts us : t.Suffixes) → bare.suffixes (t.append_suffixes ts us) ≡ t.append_suffixes (bare.suffixes ts) (bare.suffixes us)
append_bare t.no_suffixes us = refl
append_bare (t.array_suffix p e ts) us = ap (λ z. t.array_suffix 0 (bare.maybe_expression e) z) (append_bare ts us)
append_bare (t.function_suffix p qs ts) us = ap (λ z. t.function_suffix 0 (bare.parameters qs) z) (append_bare ts us)

still_suffixed : (ts us : t.Suffixes) → t.unsuffixed ts ≡ false → t.unsuffixed (t.append_suffixes ts us) ≡ false
still_suffixed t.no_suffixes us e = absurd (true≢false e)
still_suffixed (t.array_suffix p e' ts) us e = refl
still_suffixed (t.function_suffix p qs ts) us e = refl

unsuffixed_bare : (ts : t.Suffixes) → t.unsuffixed (bare.suffixes ts) ≡ t.unsuffixed ts
unsuffixed_bare t.no_suffixes = refl
unsuffixed_bare (t.array_suffix p e ts) = refl
unsuffixed_bare (t.function_suffix p qs ts) = refl

bare_cond : (b : Bool) (d r : t.Declarator) → bare.declarator (cond b d r) ≡ cond b (bare.declarator d) (bare.declarator r)
bare_cond true d r = refl
bare_cond false d r = refl

bare_around : (p : ℕ) (ns : List ℕ) (d : t.Declarator) (us : t.Suffixes) → bare.declarator (t.around p ns d us) ≡ t.around 0 ns (bare.declarator d) (bare.suffixes us)
bare_around p ns (t.declarator q ms c ts) us =
    bare_cond (t.unsuffixed us || t.unstarred ms) (t.declarator p (ns ++ ms) c (t.append_suffixes ts us)) (t.declarator p ns (t.inner_core (t.declarator q ms c ts)) us)
    ∙ ap (λ z. cond (t.unsuffixed us || t.unstarred ms) (t.declarator 0 (ns ++ ms) (bare.core c) z) (t.declarator 0 ns (t.inner_core (bare.declarator (t.declarator q ms c ts))) (bare.suffixes us))) (append_bare ts us)
    ∙ ap (λ z. cond (z || t.unstarred ms) (t.declarator 0 (ns ++ ms) (bare.core c) (t.append_suffixes (bare.suffixes ts) (bare.suffixes us))) (t.declarator 0 ns (t.inner_core (bare.declarator (t.declarator q ms c ts))) (bare.suffixes us))) (sym (unsuffixed_bare us))

-- whether it has stars
abbrev pub is_starred : t.Declarator → Bool
is_starred (t.declarator p ns c ts) = not (t.unstarred ns)

-- parentheses that are kept
around_kept : (ns : List ℕ) (d : t.Declarator) (us : t.Suffixes) → is_starred d ≡ true → t.unsuffixed us ≡ false → t.around 0 ns d us ≡ t.declarator 0 ns (t.inner_core d) us
around_kept ns (t.declarator q [] c ts) us starred suffixed = absurd (true≢false (sym starred))
around_kept ns (t.declarator q (m ∷ ms) c ts) t.no_suffixes starred suffixed = absurd (true≢false suffixed)
around_kept ns (t.declarator q (m ∷ ms) c ts) (t.array_suffix p e us) starred suffixed = refl
around_kept ns (t.declarator q (m ∷ ms) c ts) (t.function_suffix p qs us) starred suffixed = refl

starred_bare : (d : t.Declarator) → is_starred (bare.declarator d) ≡ is_starred d
starred_bare (t.declarator q ms c ts) = refl

-- what stands in parentheses again, where they are kept
kept_again : (q : ℕ) (ns : List ℕ) (d r : t.Declarator) (us vs : t.Suffixes) → is_starred d ≡ true → t.unsuffixed us ≡ false → bare.declarator r ≡ bare.declarator d → bare.suffixes vs ≡ bare.suffixes us → bare.declarator (t.around q ns r vs) ≡ t.declarator 0 ns (t.inner_core (bare.declarator d)) (bare.suffixes us)
kept_again q ns d r us vs starred suffixed same_declarator same_suffixes =
    bare_around q ns r vs
    ∙ ap (λ z. t.around 0 ns z (bare.suffixes vs)) same_declarator
    ∙ ap (λ z. t.around 0 ns (bare.declarator d) z) same_suffixes
    ∙ around_kept ns (bare.declarator d) (bare.suffixes us) (starred_bare d ∙ starred) (unsuffixed_bare us ∙ suffixed)

bare_none : (q : ℕ) (d : t.Declarator) → bare.declarator (t.around q [] d t.no_suffixes) ≡ bare.declarator d
bare_none q (t.declarator p ns c ts) = ap (λ z. t.declarator 0 ns (bare.core c) (bare.suffixes z)) (append_none ts)

-- the words that begin with a star, as numbers
abbrev mark_star : Punctuator → ℕ
mark_star Star = 1
mark_star _ = 0

abbrev word_star : Word → ℕ
word_star (mark m) = mark_star m
word_star (name n) = 0
word_star (keyword k) = 0
word_star (number n) = 0
word_star (character c) = 0
word_star (text s) = 0
word_star unknown = 0

abbrev pub leading_star : List Word → ℕ
leading_star [] = 0
leading_star (x ∷ v) = word_star x

opens_starless : {T : List Name} {v : List Word} → g.OpensParameters T v → leading_star v ≡ 0
opens_starless g.at_close = refl
opens_starless (g.at_typedef_name is) = refl
opens_starless (g.at_word is) = refl
opens_starless g.at_struct = refl
opens_starless g.at_enum = refl

starred_leads : (T : List Name) (d : t.Declarator) → is_starred d ≡ true → leading_star (w.declarator T d) ≡ 1
starred_leads T (t.declarator q [] c ts) starred = absurd (true≢false (sym starred))
starred_leads T (t.declarator q (m ∷ ms) c ts) starred = refl

-- a declarator of which this is known
abbrev pub Again : List Name → Bool → t.Declarator → Type 0
Again T guarded d = Printed bare.declarator (g.IsDeclarator T guarded) d (w.declarator T d)

-- what is known of a declarator's parts
pub data Parts (T : List Name) (guarded : Bool) : t.Declarator → Type 0 where
  a_named : {p : ℕ} {ns : List ℕ} {n : Name} {ts : t.Suffixes} → IsFit (name n) → SuffixParts T ts → Parts T guarded (t.declarator p ns (t.name_core n) ts)
  a_kept : {p : ℕ} {ns : List ℕ} {d : t.Declarator} {ts : t.Suffixes} → is_starred d ≡ true → t.unsuffixed ts ≡ false → Again T guarded d → SuffixParts T ts → Parts T guarded (t.declarator p ns (t.inner_core d) ts)

-- the words of a declarator whose core is one in parentheses
inner_words : (T : List Name) (ns : List ℕ) (d : t.Declarator) (ts : t.Suffixes) → w.stars ns ++ (mark OpenParen ∷ (w.declarator T d ++ (mark CloseParen ∷ w.suffixes T ts))) ≡ w.stars ns ++ (w.core T (t.inner_core d) ++ w.suffixes T ts)
inner_words T ns d ts = ap (λ z. w.stars ns ++ (mark OpenParen ∷ z)) (sym (append_assoc (w.declarator T d) (mark CloseParen ∷ []) (w.suffixes T ts)))

inner_fit : (T : List Name) (ns : List ℕ) (d : t.Declarator) (ts : t.Suffixes) → AreFit (w.declarator T d) → AreFit (w.suffixes T ts) → AreFit (w.stars ns ++ (w.core T (t.inner_core d) ++ w.suffixes T ts))
inner_fit T ns d ts a b =
    fit_append (w.stars ns) (w.core T (t.inner_core d) ++ w.suffixes T ts) (fit_stars ns) (fit_append (w.core T (t.inner_core d)) (w.suffixes T ts) (tt, fit_closed (w.declarator T d) (mark CloseParen) tt a) b)

pub assembled : {T : List Name} {guarded : Bool} {d : t.Declarator} → Parts T guarded d → Again T guarded d
assembled {T = T} (a_named {ns = ns} {n = n} {ts = ts} is more) =
    let rest = suffixes_printed more in
    record {
      fit = fit_append (w.stars ns) (name n ∷ w.suffixes T ts) (fit_stars ns) (is, rest.fit);
      derives = λ q. let z = rest.derives (suc (q + length (w.stars ns))) in
          (t.declarator q ns (t.name_core n) z.0, cc z.1, g.a_name n (stars_derived ns) z.2);
    }
assembled {T = T} {guarded = guarded} (a_kept {ns = ns} {d = d} {ts = ts} starred suffixed inner more) =
    let rest = suffixes_printed more in
    record {
      fit = inner_fit T ns d ts inner.fit rest.fit;
      derives = λ q. let y = inner.derives (suc (q + length (w.stars ns))) in let z = rest.derives (suc (suc (q + length (w.stars ns)) + length (w.declarator T d))) in (
        t.around q ns y.0 z.0,
        kept_again q ns d y.0 ts z.0 starred suffixed y.1 z.1,
        subst (g.IsDeclarator T guarded q (t.around q ns y.0 z.0)) (inner_words T ns d ts)
            (g.an_inner (stars_derived ns) y.2 (λ is o. omega (arith, opens_starless o, starred_leads T d starred)) z.2),
      );
    }

-- a declarator with more stars before it and more suffixes behind it
merged : {T : List Name} {guarded : Bool} {q : ℕ} {ms : List ℕ} {c : t.Core} {ts us : t.Suffixes} (p : ℕ) (ns : List ℕ) → Parts T guarded (t.declarator q ms c ts) → SuffixParts T us → Parts T guarded (t.declarator p ns c (t.append_suffixes ts us))
merged p ns (a_named is more) y = a_named is (parts_append more y)
merged {us = us} p ns (a_kept {ts = ts} starred suffixed inner more) y = a_kept starred (still_suffixed ts us suffixed) inner (parts_append more y)

pub parts_around : {T : List Name} {guarded : Bool} (p : ℕ) (ns : List ℕ) (d : t.Declarator) {us : t.Suffixes} → Parts T guarded d → SuffixParts T us → Parts T guarded (t.around p ns d us)
parts_around p ns (t.declarator q ms c ts) x no_part = merged p (ns ++ ms) x no_part
parts_around p ns (t.declarator q [] c ts) x (array_part one more) = merged p (ns ++ []) x (array_part one more)
parts_around p ns (t.declarator q [] c ts) x (function_part one more) = merged p (ns ++ []) x (function_part one more)
parts_around p ns (t.declarator q (m ∷ ms) c ts) x (array_part one more) = a_kept refl refl (assembled x) (array_part one more)
parts_around p ns (t.declarator q (m ∷ ms) c ts) x (function_part one more) = a_kept refl refl (assembled x) (function_part one more)

-- Behind specifiers

or_false : (a b : Bool) → (a || b) ≡ false → (a ≡ false) × (b ≡ false)
or_false true b e = absurd (true≢false e)
or_false false b e = (refl, e)

among_by : (T : List Name) (n : Name) → w.is_among T n ≡ false → (k : ℕ) → k < length T → slice_index_or T k n ≡ n → ⊥
among_by [] n out k within same = omega (arith, within)
among_by (m ∷ T) n out zero within same =
    true≢false (sym (subst (λ z. bytes_eq z n ≡ true) (sym same) (nat_list_eq_equiv.refl n)) ∙ (or_false (bytes_eq m n) (w.is_among T n) out).0)
among_by (m ∷ T) n out (suc k) within same = among_by T n (or_false (bytes_eq m n) (w.is_among T n) out).1 k (omega (arith, within)) same

among : (T : List Name) (n : Name) → w.is_among T n ≡ false → Contains T n → ⊥
among T n out is = among_by T n out is.0 is.1 is.2

goes_untyped : {T : List Name} {a : Bool} {v : List Word} → g.GoesOnSpecifiers T a v → a ≡ true → ⊥
goes_untyped (g.a_typedef_name is) e = true≢false (sym e)

goes_name : {T : List Name} {a : Bool} {n : Name} {v : List Word} → g.GoesOnSpecifiers T a (name n ∷ v) → Contains T n
goes_name (g.a_typedef_name is) = is

opens_of : {T : List Name} {a : Bool} {v : List Word} → g.GoesOnSpecifiers T a v → g.OpensParameters T v
opens_of (g.a_typedef_name is) = g.at_typedef_name is

-- the first declarator behind specifiers
first_by : {T : List Name} {d : t.Declarator} → Parts T false d → (b : Bool) → Printed bare.declarator (g.IsDeclarator T false) d (cond b (w.in_parentheses (w.declarator T d)) (w.declarator T d))
first_by {T = T} {d = d} x true =
    let z = assembled x in
    record {
      fit = fit_parentheses (w.declarator T d) z.fit;
      derives = λ q. let y = z.derives (suc (q + length (w.stars []))) in
          (t.around q [] y.0 t.no_suffixes, bare_none q y.0 ∙ y.1, g.an_inner (stars_derived []) y.2 (λ e o. true≢false (sym e)) g.no_suffix);
    }
first_by x false = assembled x

pub first_printed : {T : List Name} (typed : Bool) (d : t.Declarator) → Parts T false d → Printed bare.declarator (g.IsDeclarator T false) d (w.behind_specifiers T typed d (w.declarator T d))
first_printed {T = T} typed d x = first_by x (not typed && w.begins_with_typedef T d)

named_by : {T : List Name} {d : t.Declarator} → Parts T false d → w.begins_with_typedef T d ≡ false → g.GoesOnSpecifiers T false (w.declarator T d) → ⊥
named_by (a_named {ns = m ∷ ms} is more) out o = omega (arith, goes_named o)
named_by {T = T} (a_named {ns = []} {n = n} is more) out o = among T n out (goes_name o)
named_by (a_kept {ns = m ∷ ms} starred suffixed inner more) out o = omega (arith, goes_named o)
named_by (a_kept {ns = []} starred suffixed inner more) out o = omega (arith, goes_named o)

behind_by : {T : List Name} (typed : Bool) {d : t.Declarator} → Parts T false d → (b : Bool) → (not typed && w.begins_with_typedef T d) ≡ b → g.GoesOnSpecifiers T typed (cond b (w.in_parentheses (w.declarator T d)) (w.declarator T d)) → ⊥
behind_by typed x true is o = omega (arith, goes_named o)
behind_by true x false is o = goes_untyped o refl
behind_by false x false is o = named_by x is o

pub first_free : {T : List Name} (typed : Bool) (d : t.Declarator) → Parts T false d → g.GoesOnSpecifiers T typed (w.behind_specifiers T typed d (w.declarator T d)) → ⊥
first_free {T = T} typed d x o = behind_by typed x (not typed && w.begins_with_typedef T d) refl o

-- what is known of the words v of a parameter's declarator that has but a typedef name, once its parentheses are gone
abbrev pub Led : List Name → t.Declarator → List Word → Type 0
Led T (t.declarator p [] (t.name_core n) ts) v = Contains T n → g.GoesOnSpecifiers T false v
Led T (t.declarator p [] t.absent_core ts) v = Unit {0}
Led T (t.declarator p [] (t.inner_core d) ts) v = Unit {0}
Led T (t.declarator p (n ∷ ns) c ts) v = Unit {0}

led_cond : (T : List Name) (v : List Word) (b : Bool) (d r : t.Declarator) → Led T d v → Led T r v → Led T (cond b d r) v
led_cond T v true d r x y = x
led_cond T v false d r x y = y

led_around : (T : List Name) (p : ℕ) (ns : List ℕ) (d : t.Declarator) (us : t.Suffixes) (inner v : List Word) → Led T d inner → (g.OpensParameters T inner → ⊥) → Led T (t.around p ns d us) v
led_around T p (n ∷ ns) (t.declarator q ms c ts) us inner v x none = led_cond T v (t.unsuffixed us || t.unstarred ms) (t.declarator p (n ∷ (ns ++ ms)) c (t.append_suffixes ts us)) (t.declarator p (n ∷ ns) (t.inner_core (t.declarator q ms c ts)) us) tt tt
led_around T p [] (t.declarator q (m ∷ ms) c ts) us inner v x none = led_cond T v (t.unsuffixed us || t.unstarred (m ∷ ms)) (t.declarator p (m ∷ ms) c (t.append_suffixes ts us)) (t.declarator p [] (t.inner_core (t.declarator q (m ∷ ms) c ts)) us) tt tt
led_around T p [] (t.declarator q [] t.absent_core ts) us inner v x none = led_cond T v (t.unsuffixed us || t.unstarred []) (t.declarator p [] t.absent_core (t.append_suffixes ts us)) (t.declarator p [] (t.inner_core (t.declarator q [] t.absent_core ts)) us) tt tt
led_around T p [] (t.declarator q [] (t.name_core n) ts) us inner v x none = led_cond T v (t.unsuffixed us || t.unstarred []) (t.declarator p [] (t.name_core n) (t.append_suffixes ts us)) (t.declarator p [] (t.inner_core (t.declarator q [] (t.name_core n) ts)) us) (λ has. absurd (none (opens_of (x has)))) tt
led_around T p [] (t.declarator q [] (t.inner_core d) ts) us inner v x none = led_cond T v (t.unsuffixed us || t.unstarred []) (t.declarator p [] (t.inner_core d) (t.append_suffixes ts us)) (t.declarator p [] (t.inner_core (t.declarator q [] (t.inner_core d) ts)) us) tt tt

pub led : {T : List Name} {guarded : Bool} {p : ℕ} {d : t.Declarator} {v : List Word} → g.IsDeclarator T guarded p d v → guarded ≡ true → Led T d v
led (g.a_name n g.no_star ts) is = λ has. g.a_typedef_name has
led (g.a_name n (g.a_star c st) ts) is = tt
led {T = T} (g.an_inner {p = p} {ns = ns} {d = d} {ts = ts} {u = u} {v = v} {w = x} st inner none rest) is =
    led_around T p ns d ts v (u ++ (mark OpenParen ∷ (v ++ (mark CloseParen ∷ x)))) (led inner is) (none is)

pub named_free : {T : List Name} {guarded : Bool} {d : t.Declarator} (typed : Bool) (v : List Word) → Parts T guarded d → Led T d v → (g.GoesOnSpecifiers T typed v → ⊥) → g.GoesOnSpecifiers T typed (w.declarator T d) → ⊥
named_free true v x leads free o = goes_untyped o refl
named_free false v (a_named {ns = m ∷ ms} is more) leads free o = omega (arith, goes_named o)
named_free false v (a_named {ns = []} is more) leads free o = free (leads (goes_name o))
named_free false v (a_kept {ns = m ∷ ms} starred suffixed inner more) leads free o = omega (arith, goes_named o)
named_free false v (a_kept {ns = []} starred suffixed inner more) leads free o = omega (arith, goes_named o)

-- Abstract declarators

abbrev pub AgainAbstract : List Name → t.Declarator → Type 0
AgainAbstract T d = Printed bare.declarator (g.IsAbstract T) d (w.declarator T d)

pub data AbstractParts (T : List Name) : t.Declarator → Type 0 where
  nothing_named : {p : ℕ} {ns : List ℕ} {ts : t.Suffixes} → (t.unstarred ns && t.unsuffixed ts) ≡ false → SuffixParts T ts → AbstractParts T (t.declarator p ns t.absent_core ts)
  inner_kept : {p : ℕ} {ns : List ℕ} {d : t.Declarator} {ts : t.Suffixes} → is_starred d ≡ true → t.unsuffixed ts ≡ false → AgainAbstract T d → SuffixParts T ts → AbstractParts T (t.declarator p ns (t.inner_core d) ts)

pub abstract_assembled : {T : List Name} {d : t.Declarator} → AbstractParts T d → AgainAbstract T d
abstract_assembled {T = T} (nothing_named {ns = n ∷ ns} {ts = ts} some more) =
    let rest = suffixes_printed more in
    record {
      fit = fit_append (w.stars (n ∷ ns)) (w.suffixes T ts) (fit_stars (n ∷ ns)) rest.fit;
      derives = λ q. let z = rest.derives (q + length (w.stars (n ∷ ns))) in (t.declarator q (n ∷ ns) t.absent_core z.0, cc z.1, g.with_stars (stars_derived (n ∷ ns)) z.2);
    }
abstract_assembled (nothing_named {ns = []} some no_part) = absurd (true≢false some)
abstract_assembled (nothing_named {ns = []} some (array_part {p = r} one more)) =
    let rest = suffixes_printed (array_part {p = r} one more) in
    record { fit = rest.fit; derives = λ q. let z = rest.derives q in (t.declarator q [] t.absent_core z.0, cc z.1, g.with_suffixes z.2) }
abstract_assembled (nothing_named {ns = []} some (function_part {p = r} one more)) =
    let rest = suffixes_printed (function_part {p = r} one more) in
    record { fit = rest.fit; derives = λ q. let z = rest.derives q in (t.declarator q [] t.absent_core z.0, cc z.1, g.with_suffixes z.2) }
abstract_assembled (inner_kept {d = t.declarator r [] c us} starred suffixed inner more) = absurd (true≢false (sym starred))
abstract_assembled {T = T} (inner_kept {ns = ns} {d = t.declarator r (m ∷ ms) c us} {ts = ts} starred suffixed inner more) =
    let d = t.declarator r (m ∷ ms) c us in
    let rest = suffixes_printed more in
    record {
      fit = inner_fit T ns d ts inner.fit rest.fit;
      derives = λ q. let y = inner.derives (suc (q + length (w.stars ns))) in let z = rest.derives (suc (suc (q + length (w.stars ns)) + length (w.declarator T d))) in (
        t.around q ns y.0 z.0,
        kept_again q ns d y.0 ts z.0 starred suffixed y.1 z.1,
        subst (g.IsAbstract T q (t.around q ns y.0 z.0)) (inner_words T ns d ts) (g.with_inner (stars_derived ns) y.2 z.2),
      );
    }

suffixes_starless : {T : List Name} {p : ℕ} {ts : t.Suffixes} {v : List Word} → g.IsSuffixes T p ts v → leading_star v ≡ 0
suffixes_starless g.no_suffix = refl
suffixes_starless (g.an_array e ts) = refl
suffixes_starless (g.a_function qs ts) = refl

pub suffixed : {T : List Name} {p : ℕ} {ts : t.Suffixes} {v : List Word} → g.IsSuffixes T p ts v → 0 < length v → t.unsuffixed ts ≡ false
suffixed g.no_suffix some = absurd (omega (arith, some))
suffixed (g.an_array e ts) some = refl
suffixed (g.a_function qs ts) some = refl

cond_starred : (b : Bool) (d r : t.Declarator) → is_starred d ≡ true → is_starred r ≡ true → is_starred (cond b d r) ≡ true
cond_starred true d r x y = x
cond_starred false d r x y = y

around_starred : (p n : ℕ) (ns : List ℕ) (d : t.Declarator) (us : t.Suffixes) → is_starred (t.around p (n ∷ ns) d us) ≡ true
around_starred p n ns (t.declarator q ms c ts) us =
    cond_starred (t.unsuffixed us || t.unstarred ms) (t.declarator p (n ∷ (ns ++ ms)) c (t.append_suffixes ts us)) (t.declarator p (n ∷ ns) (t.inner_core (t.declarator q ms c ts)) us) refl refl

pub abstract_starred : {T : List Name} {p : ℕ} {d : t.Declarator} {v : List Word} → g.IsAbstract T p d v → leading_star v ≡ 1 → is_starred d ≡ true
abstract_starred (g.with_stars st ts) e = refl
abstract_starred (g.with_suffixes ts) e = absurd (omega (arith, e, suffixes_starless ts))
abstract_starred (g.with_inner g.no_star d ts) e = absurd (omega (arith, e))
abstract_starred (g.with_inner {p = p} {d = d} {ts = ts} (g.a_star {n = n} {ns = ns} c st) x rest) e = around_starred p n ns d ts

more_stars : (ns : List ℕ) (m : ℕ) (ms : List ℕ) (b : Bool) → (t.unstarred (ns ++ (m ∷ ms)) && b) ≡ false
more_stars [] m ms b = refl
more_stars (n ∷ ns) m ms b = refl

abstract_merged : {T : List Name} {q m : ℕ} {ms : List ℕ} {c : t.Core} {ts us : t.Suffixes} (p : ℕ) (ns : List ℕ) → AbstractParts T (t.declarator q (m ∷ ms) c ts) → SuffixParts T us → AbstractParts T (t.declarator p (ns ++ (m ∷ ms)) c (t.append_suffixes ts us))
abstract_merged {m = m} {ms = ms} {us = us} p ns (nothing_named {ts = ts} some more) y = nothing_named (more_stars ns m ms (t.unsuffixed (t.append_suffixes ts us))) (parts_append more y)
abstract_merged {us = us} p ns (inner_kept {ts = ts} starred suffixed inner more) y = inner_kept starred (still_suffixed ts us suffixed) inner (parts_append more y)

pub abstract_around : {T : List Name} (p : ℕ) (ns : List ℕ) (d : t.Declarator) {us : t.Suffixes} → is_starred d ≡ true → AbstractParts T d → SuffixParts T us → AbstractParts T (t.around p ns d us)
abstract_around p ns (t.declarator q [] c ts) starred x y = absurd (true≢false (sym starred))
abstract_around p ns (t.declarator q (m ∷ ms) c ts) starred x no_part = abstract_merged p ns x no_part
abstract_around p ns (t.declarator q (m ∷ ms) c ts) starred x (array_part one more) = inner_kept refl refl (abstract_assembled x) (array_part one more)
abstract_around p ns (t.declarator q (m ∷ ms) c ts) starred x (function_part one more) = inner_kept refl refl (abstract_assembled x) (function_part one more)
