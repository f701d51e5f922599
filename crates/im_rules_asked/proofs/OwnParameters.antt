-- Where a function's declarator is right, so are the parameters next to its name.
use Rattle.std.proofs.Common.{◌≡◌, ◌∙◌, ℕ, ◌+◌, List, [], ◌∷◌, ◌++◌, length, refl, ap, subst, arith}
use Rattle.im_rules.specs.im_word.Words.{Name}
use Rattle.im_rules.specs.im_ctree.Tree as t
use Rattle.im_rules.specs.Strings.{strings_of_declarator, strings_of_core, strings_of_suffixes}
use Rattle.im_rules.specs.Outline.{Nearest, bare, a_star, a_length, parameters, star_or_bare, suffix_or, inner_or, nearest, nearest_in}
use Rattle.im_rules.specs.Context.{Context, in_new_scope, behind_strings}
use Rattle.im_rules.specs.Declared.{Qualified, Declared}
use Rattle.im_rules.specs.Typed.{Declares, of_declarator, DeclaresIn, of_nothing, of_name, of_inner, Suffixed, no_suffix, of_array, of_open_array, of_function}
use Rattle.im_rules.specs.FileScope.{own_parameters}
use Rattle.im_rules_asked.specs.Expressions.{parameters_asked}
use Rattle.im_rules_asked.proofs.Right.{Right, of_node, of_none}
use Rattle.im_rules_asked.proofs.Rightness.{parameters_rightly}

-- what is asked of parameters that stand behind this context is so
abbrev AreFine : Context → t.Parameters → Type 0
AreFine c ps = Right (parameters_asked (in_new_scope c) 0 ps)

-- nothing but parentheses has no string literal

both_bare : (i o : Nearest) → inner_or i o ≡ bare → (i ≡ bare) × (o ≡ bare)
both_bare bare o e = (refl, e)
both_bare a_star o e = absurd (cc)
both_bare a_length o e = absurd (cc)
both_bare (parameters ps) o e = absurd (cc)

no_suffixes : (ss : t.Suffixes) (stars : List ℕ) (xs : List Name) → suffix_or ss (star_or_bare stars) ≡ bare
    → xs ≡ [] → xs ++ strings_of_suffixes ss ≡ []
no_suffixes t.no_suffixes stars xs e h = ap (λ z. z ++ []) h
no_suffixes (t.array_suffix p k ss) stars xs e h = absurd (cc)
no_suffixes (t.function_suffix p ps ss) stars xs e h = absurd (cc)

mutual
  bare_strings : (d : t.Declarator) → nearest d ≡ bare → strings_of_declarator d ≡ []
  bare_strings (t.declarator at stars core ss) e =
      let both = both_bare (nearest_in core) (suffix_or ss (star_or_bare stars)) e in
      no_suffixes ss stars (strings_of_core core) both.1 (bare_core core both.0)

  bare_core : (core : t.Core) → nearest_in core ≡ bare → strings_of_core core ≡ []
  bare_core t.absent_core e = refl
  bare_core (t.name_core x) e = refl
  bare_core (t.inner_core d) e = bare_strings d e

same_context : (c : Context) (ss : List Name) → ss ≡ [] → behind_strings ss c ≡ c
same_context c ss e =
    let none : c.next_string + length ss ≡ c.next_string =
    ap (λ z. c.next_string + length z) e ∙ omega arith in
    ap (λ n. record c { next_string = n }) none

-- the parameters next to a name

suffix_own : {c : Context} {q r : Qualified} {ss : t.Suffixes} (stars : List ℕ) (ps : t.Parameters)
    → Suffixed c q ss r → suffix_or ss (star_or_bare stars) ≡ parameters ps → AreFine c ps
suffix_own [] ps no_suffix e = absurd (cc)
suffix_own (k ∷ ks) ps no_suffix e = absurd (cc)
suffix_own stars ps (of_array s d m) e = absurd (cc)
suffix_own stars ps (of_open_array s m) e = absurd (cc)
suffix_own {c = c} stars ps (of_function {ps = qs} s p m) e =
    let same : qs ≡ ps = cc in subst (λ z. AreFine c z) same (parameters_rightly p)

inner_own : (c : Context) (d : t.Declarator) (ps : t.Parameters) (outer n : Nearest) → nearest d ≡ n
    → inner_or n outer ≡ parameters ps
    → (nearest d ≡ parameters ps → AreFine c ps)
    → (outer ≡ parameters ps → strings_of_declarator d ≡ [] → AreFine c ps)
    → AreFine c ps
inner_own c d ps outer bare is e i k = k e (bare_strings d is)
inner_own c d ps outer a_star is e i k = absurd (cc)
inner_own c d ps outer a_length is e i k = absurd (cc)
inner_own c d ps outer (parameters qs) is e i k = i (is ∙ e)

mutual
  own_fine : {c : Context} {q : Qualified} {d : t.Declarator} {y : Declared} (ps : t.Parameters)
      → Declares c q d y → nearest d ≡ parameters ps → AreFine c ps
  own_fine {c = c} ps (of_declarator {stars = stars} {core = core} {ss = ss} m s k) e =
      core_fine ps (suffix_or ss (star_or_bare stars)) k e (λ o b. subst (λ z. AreFine z ps)
      (same_context c (strings_of_core core) b) (suffix_own stars ps s o))

  core_fine : {c : Context} {q : Qualified} {core : t.Core} {y : Declared} (ps : t.Parameters)
      (outer : Nearest)
      → DeclaresIn c q core y → inner_or (nearest_in core) outer ≡ parameters ps
      → (outer ≡ parameters ps → strings_of_core core ≡ [] → AreFine c ps)
      → AreFine c ps
  core_fine ps outer of_nothing e k = k e refl
  core_fine ps outer of_name e k = k e refl
  core_fine {c = c} ps outer (of_inner {e = d} p) e k =
      inner_own c d ps outer (nearest d) refl e (λ i. own_fine ps p i) k

fine_of : (c : Context) (d : t.Declarator) (n : Nearest) → nearest d ≡ n
    → ((ps : t.Parameters) → nearest d ≡ parameters ps → AreFine c ps)
    → AreFine c (own_parameters n)
fine_of c d bare is f = of_node of_none tt
fine_of c d a_star is f = of_node of_none tt
fine_of c d a_length is f = of_node of_none tt
fine_of c d (parameters ps) is f = f ps is

pub own_right : {c : Context} {q : Qualified} {d : t.Declarator} {y : Declared} → Declares c q d y
    → Right (parameters_asked (in_new_scope c) 0 (own_parameters (nearest d)))
own_right {c = c} {d = d} p = fine_of c d (nearest d) refl (λ ps e. own_fine ps p e)
