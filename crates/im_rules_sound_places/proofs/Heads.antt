-- Declarators at file scope: the name, and whether and with which parameters they declare a function.
use Rattle.std.proofs.Common.{◌≡◌, ℕ, ◌+◌, List, [], ◌∷◌, ◌++◌, length, Bool, true, false, refl, sym, ap, ◌∙◌, subst, arith}
use Rattle.im_word.specs.Words.{Name}
use Rattle.im_ctree.specs.Tree as t
use Rattle.im_ctype.specs.Types.{CType, function, is_function}
use Rattle.im_rules.specs.Strings.{strings_of_declarator, strings_of_core, strings_of_suffixes}
use Rattle.im_rules.specs.Outline.{name_of, core_name, Nearest, bare, a_star, a_length, parameters, star_or_bare, suffix_or, inner_or, nearest, nearest_in, gives_function}
use Rattle.im_rules.specs.Context.{Context, in_new_scope, behind_strings, behind_core}
use Rattle.im_rules.specs.Declared.{Qualified, Declared, with_stars, types_of, parameters_of}
use Rattle.im_rules.specs.Statements.{name_of as name_in}
use Rattle.im_rules.specs.Typed.{Declares, of_declarator, DeclaresIn, of_nothing, of_name, of_inner, Suffixed, no_suffix, of_array, of_open_array, of_function, AreParameters}

mutual
  pub declared-name : {c : Context} {q : Qualified} {d : t.Declarator} {y : Declared} → Declares c q d y → name_in y.name ≡ name_of d
  declared-name (of_declarator m s k) = core-declared k

  core-declared : {c : Context} {q : Qualified} {core : t.Core} {y : Declared} → DeclaresIn c q core y → name_in y.name ≡ core_name core
  core-declared of_nothing = refl
  core-declared of_name = refl
  core-declared (of_inner d) = declared-name d

-- what the tree says to be a function is one

suffix-function : {c : Context} {r : Qualified} {ss : t.Suffixes} (q : Qualified) (stars : List ℕ) (b : Bool) → Suffixed c (with_stars q stars) ss r → (b ≡ true → is_function q.type ≡ true) → gives_function (suffix_or ss (star_or_bare stars)) b ≡ true → is_function r.type ≡ true
suffix-function q [] b no_suffix h e = h e
suffix-function q (k ∷ ks) b no_suffix h e = absurd (cc)
suffix-function q stars b (of_array s d m) h e = absurd (cc)
suffix-function q stars b (of_open_array s m) h e = absurd (cc)
suffix-function q stars b (of_function s p m) h e = refl

mutual
  pub function-declared : {c : Context} {q : Qualified} {d : t.Declarator} {y : Declared} (b : Bool) → Declares c q d y → (b ≡ true → is_function q.type ≡ true) → gives_function (nearest d) b ≡ true → is_function y.type ≡ true
  function-declared {q = q} b (of_declarator {stars = stars} {core = core} {ss = ss} m s k) h e =
      core-function (suffix_or ss (star_or_bare stars)) b k (suffix-function q stars b s h) e

  core-function : {c : Context} {q : Qualified} {core : t.Core} {y : Declared} (outer : Nearest) (b : Bool) → DeclaresIn c q core y → (gives_function outer b ≡ true → is_function q.type ≡ true) → gives_function (inner_or (nearest_in core) outer) b ≡ true → is_function y.type ≡ true
  core-function outer b of_nothing h e = h e
  core-function outer b of_name h e = h e
  core-function {q = q} {y = y} outer b (of_inner {e = d} p) h e = by-inner (nearest d) refl e (λ i k g. function-declared i p k g)
    where
      by-inner : (n : Nearest) → nearest d ≡ n → gives_function (inner_or n outer) b ≡ true → ((i : Bool) → (i ≡ true → is_function q.type ≡ true) → gives_function (nearest d) i ≡ true → is_function y.type ≡ true) → is_function y.type ≡ true
      by-inner bare is e k = k true (λ z. h e) (ap (λ n. gives_function n true) is)
      by-inner a_star is e k = absurd (cc)
      by-inner a_length is e k = absurd (cc)
      by-inner (parameters ps) is e k = k false (λ z. absurd (cc)) (ap (λ n. gives_function n false) is)

-- nothing but parentheses

inner-bare : (i o : Nearest) → inner_or i o ≡ bare → (i ≡ bare) × (o ≡ bare)
inner-bare bare o e = (refl, e)
inner-bare a_star o e = absurd (cc)
inner-bare a_length o e = absurd (cc)
inner-bare (parameters ps) o e = absurd (cc)

mutual
  bare-strings : (d : t.Declarator) → nearest d ≡ bare → strings_of_declarator d ≡ []
  bare-strings (t.declarator at stars core ss) e =
      let both = inner-bare (nearest_in core) (suffix_or ss (star_or_bare stars)) e in
      no-suffixes ss stars (strings_of_core core) both.1 (bare-core core both.0)

  bare-core : (core : t.Core) → nearest_in core ≡ bare → strings_of_core core ≡ []
  bare-core t.absent_core e = refl
  bare-core (t.name_core x) e = refl
  bare-core (t.inner_core d) e = bare-strings d e

  no-suffixes : (ss : t.Suffixes) (stars : List ℕ) (xs : List Name) → suffix_or ss (star_or_bare stars) ≡ bare → xs ≡ [] → xs ++ strings_of_suffixes ss ≡ []
  no-suffixes t.no_suffixes stars xs e h = ap (λ z. z ++ []) h
  no-suffixes (t.array_suffix p k ss) stars xs e h = absurd (cc)
  no-suffixes (t.function_suffix p ps ss) stars xs e h = absurd (cc)

bare-suffixed : {c : Context} {r : Qualified} {ss : t.Suffixes} (q : Qualified) (stars : List ℕ) → Suffixed c (with_stars q stars) ss r → suffix_or ss (star_or_bare stars) ≡ bare → r.type ≡ q.type
bare-suffixed q [] no_suffix e = refl
bare-suffixed q (k ∷ ks) no_suffix e = absurd (cc)
bare-suffixed q stars (of_array s d m) e = absurd (cc)
bare-suffixed q stars (of_open_array s m) e = absurd (cc)
bare-suffixed q stars (of_function s p m) e = absurd (cc)

mutual
  bare-type : {c : Context} {q : Qualified} {d : t.Declarator} {y : Declared} → Declares c q d y → nearest d ≡ bare → y.type ≡ q.type
  bare-type {q = q} (of_declarator {stars = stars} {core = core} {ss = ss} m s k) e =
      let both = inner-bare (nearest_in core) (suffix_or ss (star_or_bare stars)) e in
      bare-core-type k both.0 ∙ bare-suffixed q stars s both.1

  bare-core-type : {c : Context} {q : Qualified} {core : t.Core} {y : Declared} → DeclaresIn c q core y → nearest_in core ≡ bare → y.type ≡ q.type
  bare-core-type of_nothing e = refl
  bare-core-type of_name e = refl
  bare-core-type (of_inner d) e = bare-type d e

-- the parameters next to the name are those of the function's type

pub record HasOwn (c : Context) (a : CType) (ps : t.Parameters) : Type 0 where
  pub result : CType
  pub given : List Declared
  pub is : a ≡ function result (types_of (parameters_of ps given))
  pub typed : AreParameters (in_new_scope c) 0 ps given

same-context : (c : Context) (ss : List Name) → ss ≡ [] → behind_strings ss c ≡ c
same-context c ss e =
    let none : c.next_string + length ss ≡ c.next_string = ap (λ z. c.next_string + length z) e ∙ omega arith in
    ap (λ n. record c { next_string = n }) none

suffix-own : {c : Context} {r : Qualified} {ss : t.Suffixes} (q : Qualified) (stars : List ℕ) (ps : t.Parameters) → Suffixed c (with_stars q stars) ss r → suffix_or ss (star_or_bare stars) ≡ parameters ps → HasOwn c r.type ps
suffix-own q [] ps no_suffix e = absurd (cc)
suffix-own q (k ∷ ks) ps no_suffix e = absurd (cc)
suffix-own q stars ps (of_array s d m) e = absurd (cc)
suffix-own q stars ps (of_open_array s m) e = absurd (cc)
suffix-own {c = c} q stars ps (of_function {ps = qs} {r = a} {ds = ds} s p m) e =
    let same : qs ≡ ps = cc in
    subst (λ z. HasOwn c (function a.type (types_of (parameters_of qs ds))) z) same (record { result = a.type; given = ds; is = refl; typed = p })

moved-own : (c b : Context) (a : CType) (ps : t.Parameters) → b ≡ c → HasOwn b a ps → HasOwn c a ps
moved-own c b a ps e h = subst (λ z. HasOwn z a ps) e h

mutual
  pub own-parameters : {c : Context} {q : Qualified} {d : t.Declarator} {y : Declared} (ps : t.Parameters) → Declares c q d y → nearest d ≡ parameters ps → HasOwn c y.type ps
  own-parameters {c = c} {q = q} ps (of_declarator {r = r} {stars = stars} {core = core} {ss = ss} m s k) e =
      core-own ps (suffix_or ss (star_or_bare stars)) k e (λ o b. moved-own c (behind_core core c) r.type ps (same-context c (strings_of_core core) b) (suffix-own q stars ps s o))

  core-own : {c : Context} {q : Qualified} {core : t.Core} {y : Declared} (ps : t.Parameters) (outer : Nearest) → DeclaresIn c q core y → inner_or (nearest_in core) outer ≡ parameters ps → (outer ≡ parameters ps → strings_of_core core ≡ [] → HasOwn c q.type ps) → HasOwn c y.type ps
  core-own ps outer of_nothing e k = k e refl
  core-own ps outer of_name e k = k e refl
  core-own {c = c} {q = q} {y = y} ps outer (of_inner {e = d} p) e k = by-inner (nearest d) refl e (λ i. own-parameters ps p i) (λ i. bare-type p i)
    where
      by-inner : (n : Nearest) → nearest d ≡ n → inner_or n outer ≡ parameters ps → (nearest d ≡ parameters ps → HasOwn c y.type ps) → (nearest d ≡ bare → y.type ≡ q.type) → HasOwn c y.type ps
      by-inner bare is e i b = subst (λ a. HasOwn c a ps) (sym (b is)) (k e (bare-strings d is))
      by-inner a_star is e i b = absurd (cc)
      by-inner a_length is e i b = absurd (cc)
      by-inner (parameters qs) is e i b = i (is ∙ e)
