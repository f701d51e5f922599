-- Words as tokens have them (C11 6.4).
use Rattle.std.specs.Prelude.{◌≡◌, ℕ, ◌≤◌, Bool, true, List, [], ◌++◌, codes, decimal}
use Rattle.im_word.specs.Words.{Name, Word, name, keyword, number, character, text, mark, unknown}
use Rattle.im_typed.specs.Typing.{Each}
use Rattle.im_rules_sound_expressions.specs.Written.{IsOfItsType, AreBytes}

abbrev pub IsLexical : Word → Type 0
IsLexical (name n) = n ≡ [] → ⊥
IsLexical (number n) = IsOfItsType n
IsLexical (character c) = c ≤ 255
IsLexical (text s) = AreBytes s
IsLexical (keyword k) = Unit {0}
IsLexical (mark m) = Unit {0}
IsLexical unknown = Unit {0}

abbrev pub AreLexical : List Word → Type 0
AreLexical words = Each IsLexical words

-- a word's name, if it has one, passes a test
abbrev pub IsNamedBy : (Name → Bool) → Word → Type 0
IsNamedBy test (name n) = test n ≡ true
IsNamedBy test (number n) = Unit {0}
IsNamedBy test (character c) = Unit {0}
IsNamedBy test (text s) = Unit {0}
IsNamedBy test (keyword k) = Unit {0}
IsNamedBy test (mark m) = Unit {0}
IsNamedBy test unknown = Unit {0}

abbrev pub AreNamedBy : (Name → Bool) → List Word → Type 0
AreNamedBy test words = Each (IsNamedBy test) words

-- the name of one of so many statics: one that passes the test, or that of a string literal
pub data IsStaticName (test : Name → Bool) (count : ℕ) : Name → Type 0 where
  declared : {n : Name} → test n ≡ true → IsStaticName test count n
  literal : (k : ℕ) → k ≤ count → IsStaticName test count (codes "$" ++ decimal k)
