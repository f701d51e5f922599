-- Parts of the trees of the examples.
use Rattle.std.specs.Prelude.{ℕ, ◌+◌, List, [], ◌∷◌}
use Rattle.im_rules.specs.im_word.Words.{Name}
use Rattle.im_rules.specs.im_tok.declared.number.NumberType.TheVariants as number_type
use Rattle.im_rules.specs.im_ctree.declared.specifier.SpecifierWord.{SpecifierWord}
use Rattle.im_rules.specs.im_ctree.declared.specifier.SpecifierWord.TheVariants as w
use Rattle.im_rules.specs.im_ctree.Tree as t

abbrev pub list_of_words : ℕ → List SpecifierWord → t.SpecifierList
list_of_words at [] = t.no_specifiers
list_of_words at (k ∷ ks) = t.more_specifiers (t.word_specifier at k) (list_of_words (at + 1) ks)

-- words alone, from that token on
abbrev pub words : ℕ → List SpecifierWord → t.Specifiers
words at ks = t.specifiers at (list_of_words at ks)

-- a name alone
abbrev pub plain : ℕ → Name → t.Declarator
plain at x = t.declarator at [] (t.name_core x) t.no_suffixes

-- `void`, in parentheses
abbrev pub only_void : ℕ → t.Parameters
only_void at = t.more_parameters (words at (w.Void ∷ [])) t.no_declarator t.no_parameters

-- a decimal constant of type int
abbrev pub number : ℕ → ℕ → t.Expression
number at n = t.integer_constant at (record { value = n; number_type = number_type.Int })
