-- One specifier more, and what a word adds.
use Rattle.std.proofs.Common.{◌≡◌, ℕ, ◌+◌, ◌<◌, List, ◌∷◌, length, drop, get_or, nat_eq, nat_lt, refl, sym, ap, ◌∙◌, arith, zero-add}
use Rattle.std.proofs.lemmas.Bool.{ne_eqb}
use Rattle.std.proofs.lemmas.List.{drop_more}
use Rattle.im_ctree.specs.Tree as t
use Rattle.im_ctree.specs.declared.specifier.SpecifierWord.{SpecifierWord}
use Rattle.im_ctree.specs.declared.specifier.SpecifierWord.TheVariants as w
use Rattle.im_check_scopes.specs.im_rules.Rules.{word_code, is_storage, count_word, keywords_in, storage_in}
use Rattle.im_check_type_specifiers.specs.Lists.{one_if}

pub next : {X : Type 0} (xs : List X) (i : ℕ) (x : X) → i < length xs → x ≡ get_or xs i x → drop i xs ≡ x ∷ drop (i + 1) xs
next xs i x within is = drop_more xs i x within ∙ ap (λ y. y ∷ drop (i + 1) xs) (sym is)

no_word : (code n : ℕ) → 0 < code → n ≡ one_if (nat_eq 0 code) + n
no_word code n some = rw (ne_eqb 0 code (λ e. omega arith)) (sym (zero-add n))

pub word_step : (at : ℕ) (x : SpecifierWord) (code : ℕ) (rest : t.SpecifierList) → 0 < code
    → count_word code (keywords_in (t.more_specifiers (t.word_specifier at x) rest)) ≡ one_if (nat_eq (word_code x) code) + count_word code (keywords_in rest)
word_step at w.Void code rest some = refl
word_step at w.Char code rest some = refl
word_step at w.Short code rest some = refl
word_step at w.Int code rest some = refl
word_step at w.Long code rest some = refl
word_step at w.Signed code rest some = refl
word_step at w.Unsigned code rest some = refl
word_step at w.Typedef code rest some = no_word code (count_word code (keywords_in rest)) some
word_step at w.Extern code rest some = no_word code (count_word code (keywords_in rest)) some
word_step at w.Static code rest some = no_word code (count_word code (keywords_in rest)) some
word_step at w.Const code rest some = no_word code (count_word code (keywords_in rest)) some

pub storage_step : (at : ℕ) (x : SpecifierWord) (rest : t.SpecifierList) → length (storage_in (t.more_specifiers (t.word_specifier at x) rest)) ≡ one_if (is_storage x) + length (storage_in rest)
storage_step at w.Void rest = sym (zero-add (length (storage_in rest)))
storage_step at w.Char rest = sym (zero-add (length (storage_in rest)))
storage_step at w.Short rest = sym (zero-add (length (storage_in rest)))
storage_step at w.Int rest = sym (zero-add (length (storage_in rest)))
storage_step at w.Long rest = sym (zero-add (length (storage_in rest)))
storage_step at w.Signed rest = sym (zero-add (length (storage_in rest)))
storage_step at w.Unsigned rest = sym (zero-add (length (storage_in rest)))
storage_step at w.Const rest = sym (zero-add (length (storage_in rest)))
storage_step at w.Typedef rest = omega arith
storage_step at w.Extern rest = omega arith
storage_step at w.Static rest = omega arith

pub keyword_step : (at : ℕ) (x : SpecifierWord) (rest : t.SpecifierList) → length (keywords_in (t.more_specifiers (t.word_specifier at x) rest)) ≡ one_if (nat_lt 0 (word_code x)) + length (keywords_in rest)
keyword_step at w.Typedef rest = sym (zero-add (length (keywords_in rest)))
keyword_step at w.Extern rest = sym (zero-add (length (keywords_in rest)))
keyword_step at w.Static rest = sym (zero-add (length (keywords_in rest)))
keyword_step at w.Const rest = sym (zero-add (length (keywords_in rest)))
keyword_step at w.Void rest = omega arith
keyword_step at w.Char rest = omega arith
keyword_step at w.Short rest = omega arith
keyword_step at w.Int rest = omega arith
keyword_step at w.Long rest = omega arith
keyword_step at w.Signed rest = omega arith
keyword_step at w.Unsigned rest = omega arith
