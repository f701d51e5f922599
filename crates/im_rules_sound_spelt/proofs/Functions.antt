-- A declarator of a function type is one that the tree tells to be a function's.
use Rattle.std.proofs.Common.{◌≡◌, ℕ, List, [], ◌∷◌, Bool, true, false, refl, sym, ap, ◌∙◌, subst}
use Rattle.std.specs.Prelude.{Option, Some, None, if◌then◌else◌}
use Rattle.im_word.specs.Words.{Name}
use Rattle.im_ctree.specs.declared.specifier.SpecifierWord.{SpecifierWord}
use Rattle.im_ctree.specs.Tree as t
use Rattle.im_ctype.specs.Types.{CType, is_function}
use Rattle.im_rules.specs.Rules.{Line, lines, line_type, same_words, named_in}
use Rattle.im_rules.specs.Scopes.{Entity, an_object, a_function, an_enumerator, a_typedef, Tag, struct_tag, enum_tag, meaning, tag_meaning}
use Rattle.im_rules.specs.Outline.{Nearest, bare, a_star, a_length, parameters, star_or_bare, suffix_or, inner_or, nearest, nearest_in, gives_function, typedef_in}
use Rattle.im_rules.specs.Context.{Context, tag_number}
use Rattle.im_rules.specs.Declared.{Qualified, Declared, starred, with_stars, specified, typedef_meant, line_meant, tag_meant}
use Rattle.im_rules.specs.Typed.{Declares, of_declarator, DeclaresIn, of_nothing, of_name, of_inner, Suffixed, no_suffix, of_array, of_open_array, of_function}

-- behind a star there is a pointer
stars-plain : (q : Qualified) (stars : List ℕ) → is_function q.type ≡ false → is_function (with_stars q stars).type ≡ false
stars-plain q [] h = h
stars-plain q (k ∷ ks) h = stars-plain (starred q k) ks refl

suffix-gives : {c : Context} {r : Qualified} {ss : t.Suffixes} (q : Qualified) (stars : List ℕ) (b : Bool) → Suffixed c (with_stars q stars) ss r → (is_function q.type ≡ true → b ≡ true) → is_function r.type ≡ true → gives_function (suffix_or ss (star_or_bare stars)) b ≡ true
suffix-gives q [] b no_suffix h e = h e
suffix-gives q (k ∷ ks) b no_suffix h e = let plain = stars-plain (starred q k) ks refl in absurd (cc)
suffix-gives q stars b (of_array s d m) h e = absurd (cc)
suffix-gives q stars b (of_open_array s m) h e = absurd (cc)
suffix-gives q stars b (of_function s p m) h e = refl

mutual
  pub declares-function : {c : Context} {q : Qualified} {d : t.Declarator} {y : Declared} (b : Bool) → Declares c q d y → (is_function q.type ≡ true → b ≡ true) → is_function y.type ≡ true → gives_function (nearest d) b ≡ true
  declares-function {q = q} b (of_declarator {stars = stars} {core = core} {ss = ss} m s k) h e =
      core-function (suffix_or ss (star_or_bare stars)) b k (suffix-gives q stars b s h) e

  core-function : {c : Context} {q : Qualified} {core : t.Core} {y : Declared} (outer : Nearest) (b : Bool) → DeclaresIn c q core y → (is_function q.type ≡ true → gives_function outer b ≡ true) → is_function y.type ≡ true → gives_function (inner_or (nearest_in core) outer) b ≡ true
  core-function outer b of_nothing h e = h e
  core-function outer b of_name h e = h e
  core-function {q = q} {y = y} outer b (of_inner {e = d} p) h e = by-inner (nearest d) (declares-function (gives_function outer b) p h e)
    where
      by-inner : (n : Nearest) → gives_function n (gives_function outer b) ≡ true → gives_function (inner_or n outer) b ≡ true
      by-inner bare k = k
      by-inner a_star k = absurd (cc)
      by-inner a_length k = absurd (cc)
      by-inner (parameters ps) k = refl

-- the specifiers' type is a function's only by a typedef name

abbrev ArePlain : List Line → Type 0
ArePlain [] = Unit {0}
ArePlain (l ∷ ls) = (is_function l.type ≡ false) × ArePlain ls

line-plain : (ls : List Line) (ks : List SpecifierWord) → ArePlain ls → is_function (line_meant (line_type ls ks)).type ≡ false
line-plain [] ks h = refl
line-plain (l ∷ ls) ks h = by-test (same_words l.words ks) (line-plain ls ks h.1)
  where
    by-test : (b : Bool) → is_function (line_meant (line_type ls ks)).type ≡ false → is_function (line_meant (if b then Some l.type else line_type ls ks)).type ≡ false
    by-test true k = h.0
    by-test false k = k

words-plain : (ks : List SpecifierWord) → is_function (line_meant (line_type lines ks)).type ≡ false
words-plain ks =
    line-plain lines ks (refl, (refl, (refl, (refl, (refl, (refl, (refl, (refl, (refl, (refl, (refl, (refl, (refl, (refl, (refl, (refl, (refl, (refl, (refl, (refl, (refl, tt)))))))))))))))))))))

tag-plain : (n : ℕ) (g : Option Tag) → is_function (tag_meant n g).type ≡ false
tag-plain n None = refl
tag-plain n (Some (struct_tag m)) = refl
tag-plain n (Some enum_tag) = refl

-- the specifiers are a typedef name of a function type
pub record NamesFunction (c : Context) (ss : List t.Specifier) : Type 0 where
  pub at : ℕ
  pub name : Name
  pub others : List t.Specifier
  pub constant : Bool
  pub type : CType
  pub first : ss ≡ t.typedef_specifier at name ∷ others
  pub means : meaning c.scopes name ≡ Some (a_typedef constant type)
  pub function : is_function type ≡ true

typedef-function : (c : Context) (at : ℕ) (x : Name) (ss : List t.Specifier) (m : Option Entity) → meaning c.scopes x ≡ m → is_function (typedef_meant m).type ≡ true → NamesFunction c (t.typedef_specifier at x ∷ ss)
typedef-function c at x ss None is e = absurd (cc)
typedef-function c at x ss (Some (a_typedef k a)) is e = record { at = at; name = x; others = ss; constant = k; type = a; first = refl; means = is; function = e }
typedef-function c at x ss (Some (an_object k a s)) is e = absurd (cc)
typedef-function c at x ss (Some (a_function f k a)) is e = absurd (cc)
typedef-function c at x ss (Some (an_enumerator z)) is e = absurd (cc)

pub specified-function : (c : Context) (ss : List t.Specifier) (ks : List SpecifierWord) → is_function (specified c ss ks).type ≡ true → NamesFunction c ss
specified-function c (t.typedef_specifier at x ∷ ss) ks e = typedef-function c at x ss (meaning c.scopes x) refl e
specified-function c (t.struct_tag at x ∷ ss) ks e = let plain = tag-plain (tag_number c at x) (tag_meaning c.scopes x) in absurd (cc)
specified-function c (t.enum_tag at x ∷ ss) ks e = absurd (cc)
specified-function c (t.word_specifier at x ∷ ss) ks e = let plain = words-plain ks in absurd (cc)
specified-function c (t.struct_specifier at x ms ∷ ss) ks e = let plain = words-plain ks in absurd (cc)
specified-function c (t.enum_specifier at x es ∷ ss) ks e = let plain = words-plain ks in absurd (cc)
specified-function c [] ks e = let plain = words-plain ks in absurd (cc)

-- and that is the one that the outline looks at
pub first-typedef : (xs : t.SpecifierList) (at : ℕ) (x : Name) (ss : List t.Specifier) → named_in xs ≡ t.typedef_specifier at x ∷ ss → typedef_in xs ≡ x
first-typedef t.no_specifiers at x ss e = absurd (cc)
first-typedef (t.more_specifiers (t.word_specifier p w) xs) at x ss e = first-typedef xs at x ss e
first-typedef (t.more_specifiers (t.typedef_specifier p y) xs) at x ss e = cc
first-typedef (t.more_specifiers (t.struct_tag p y) xs) at x ss e = absurd (cc)
first-typedef (t.more_specifiers (t.enum_tag p y) xs) at x ss e = absurd (cc)
first-typedef (t.more_specifiers (t.struct_specifier p y ms) xs) at x ss e = absurd (cc)
first-typedef (t.more_specifiers (t.enum_specifier p y es) xs) at x ss e = absurd (cc)
