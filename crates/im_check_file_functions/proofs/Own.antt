-- The parameters next to the name of a function are a part of its declarator.
use Rattle.std.proofs.Common.{◌≡◌, ℕ, ◌+◌, Bool, true, false, ◌&&◌, List, [], ◌∷◌, ◌++◌, length, refl, sym, ap, ◌∙◌, subst, arith}
use Rattle.im_ctree.specs.Tree as t
use Rattle.im_rules.specs.Breaks.{Node, a_declarator, some_parameters, Part, suffixes_part, core_part, inner_part, parameters_part, Broken, within}
use Rattle.im_rules.specs.Context.{Context, in_new_scope, behind_core}
use Rattle.im_rules.specs.Declared.{Qualified, Declared, with_stars}
use Rattle.im_rules.specs.Demands.{Meets}
use Rattle.im_rules.specs.FileScope.{own_parameters, has_own_parameters, body_asks}
use Rattle.im_rules.specs.Outline.{Nearest, bare, a_star, a_length, parameters, star_or_bare, suffix_or, inner_or, nearest, nearest_in}
use Rattle.im_rules.specs.Rules.{rule_11}
use Rattle.im_rules.specs.Strings.{strings_of_declarator, strings_of_core, strings_of_suffixes}
use Rattle.im_rules.specs.Typed.{Declares, of_declarator, of_nothing, of_name, of_inner, Suffixed}
use Rattle.im_check_statements.specs.im_rules_limits.Limits.{Sized, size_within}
use Rattle.im_check_stop.specs.declared.stop.Stop.{Stop}
use Rattle.im_check_stop.specs.declared.stop.Stop.TheVariants.{Rule, Large, Memory}
use Rattle.im_check_declarators.specs.Suffixes.{IsFault}

-- a declarator of nothing but parentheses has no string literal

both_bare : (m n : Nearest) → inner_or m n ≡ bare → (m ≡ bare) × (n ≡ bare)
both_bare bare n h = (refl, h)
both_bare a_star n h = absurd cc
both_bare a_length n h = absurd cc
both_bare (parameters ps) n h = absurd cc

no_suffix_strings : (ss : t.Suffixes) (n : Nearest) → suffix_or ss n ≡ bare → strings_of_suffixes ss ≡ []
no_suffix_strings t.no_suffixes n h = refl
no_suffix_strings (t.array_suffix at e ss) n h = absurd cc
no_suffix_strings (t.function_suffix at ps ss) n h = absurd cc

mutual
  no_strings : (e : t.Declarator) → nearest e ≡ bare → strings_of_declarator e ≡ []
  no_strings (t.declarator at stars core ss) h =
      let p = both_bare (nearest_in core) (suffix_or ss (star_or_bare stars)) h in
      ap (λ z. z ++ strings_of_suffixes ss) (no_core_strings core p.0) ∙ no_suffix_strings ss (star_or_bare stars) p.1

  no_core_strings : (core : t.Core) → nearest_in core ≡ bare → strings_of_core core ≡ []
  no_core_strings t.absent_core h = refl
  no_core_strings (t.name_core x) h = refl
  no_core_strings (t.inner_core e) h = no_strings e h

behind_nothing : (c : Context) (core : t.Core) → strings_of_core core ≡ [] → behind_core core c ≡ c
behind_nothing c core e =
    let none : length (strings_of_core core) ≡ 0 = ap length e in
    let same : c.next_string + length (strings_of_core core) ≡ c.next_string = omega (arith, none) in
    ap (λ n. record c { next_string = n }) same

-- what is so of a node where it is so of a part of it

module _ (X : Context → Node → Type 0) (whole : (c b : Context) (n m : Node) → Part c n b m → X b m → X c n) where
  own_suffix : {c : Context} {q : Qualified} (at : ℕ) (stars : List ℕ) (core : t.Core) (ss : t.Suffixes) (ps : t.Parameters)
      → strings_of_core core ≡ []
      → suffix_or ss (star_or_bare stars) ≡ parameters ps
      → X (in_new_scope c) (some_parameters 0 ps)
      → X c (a_declarator q (t.declarator at stars core ss))
  own_suffix at [] core t.no_suffixes ps e h x = absurd cc
  own_suffix at (k ∷ ks) core t.no_suffixes ps e h x = absurd cc
  own_suffix at stars core (t.array_suffix a l ss) ps e h x = absurd cc
  own_suffix {c = c} at stars core (t.function_suffix a qs ss) ps e h x =
      let same : qs ≡ ps = ap own_parameters h in
      whole _ _ _ _ suffixes_part (whole _ _ _ _ parameters_part (subst (λ k. X (in_new_scope k) (some_parameters 0 qs)) (sym (behind_nothing c core e)) (subst (λ z. X (in_new_scope c) (some_parameters 0 z)) (sym same) x)))

  inside : {c : Context} {q r : Qualified} (at : ℕ) (stars : List ℕ) (e : t.Declarator) (ss : t.Suffixes) (ps : t.Parameters) (n : Nearest)
      → nearest e ≡ n
      → Suffixed (behind_core (t.inner_core e) c) (with_stars q stars) ss r
      → (nearest e ≡ parameters ps → X (in_new_scope c) (some_parameters 0 ps) → X c (a_declarator r e))
      → inner_or n (suffix_or ss (star_or_bare stars)) ≡ parameters ps
      → X (in_new_scope c) (some_parameters 0 ps)
      → X c (a_declarator q (t.declarator at stars (t.inner_core e) ss))
  inside at stars e ss ps bare is s own h x = own_suffix at stars (t.inner_core e) ss ps (no_strings e is) h x
  inside at stars e ss ps a_star is s own h x = absurd cc
  inside at stars e ss ps a_length is s own h x = absurd cc
  inside at stars e ss ps (parameters qs) is s own h x = whole _ _ _ _ (core_part s) (whole _ _ _ _ inner_part (own (is ∙ h) x))

  pub own_part : {c : Context} {q : Qualified} {e : t.Declarator} {y : Declared} {ps : t.Parameters}
      → Declares c q e y
      → nearest e ≡ parameters ps
      → X (in_new_scope c) (some_parameters 0 ps)
      → X c (a_declarator q e)
  own_part {ps = ps} (of_declarator {at = at} {stars = stars} {ss = ss} m s of_nothing) h x = own_suffix at stars t.absent_core ss ps refl h x
  own_part {ps = ps} (of_declarator {at = at} {stars = stars} {ss = ss} m s (of_name {x = name})) h x = own_suffix at stars (t.name_core name) ss ps refl h x
  own_part {ps = ps} (of_declarator {at = at} {stars = stars} {ss = ss} m s (of_inner {e = e} d)) h x = inside at stars e ss ps (nearest e) refl s (λ own z. own_part d own z) h x

-- a body is asked whether there are such parameters

first_true : (a b : Bool) → a && b ≡ true → a ≡ true
first_true true b h = refl
first_true false b h = absurd cc

they_are : (n : Nearest) → has_own_parameters n ≡ true → n ≡ parameters (own_parameters n)
they_are bare h = absurd cc
they_are a_star h = absurd cc
they_are a_length h = absurd cc
they_are (parameters ps) h = refl

has_them : (e : t.Declarator) (y : Declared) → Meets (body_asks e y) → nearest e ≡ parameters (own_parameters (nearest e))
has_them e y m = they_are (nearest e) (first_true (has_own_parameters (nearest e)) (rule_11 y.type (own_parameters (nearest e))) m.0)

-- a fault in them is one in the declarator
pub own_fault : {c : Context} {q : Qualified} {e : t.Declarator} {y : Declared} (stop : Stop)
    → Declares c q e y
    → Meets (body_asks e y)
    → IsFault (in_new_scope c) (some_parameters 0 (own_parameters (nearest e))) stop
    → IsFault c (a_declarator q e) stop
own_fault {e = e} {y = y} (Rule rule token) d m h = own_part (λ c n. Broken c n rule token) (λ c b n m p x. within p x) d (has_them e y m) h
own_fault {e = e} {y = y} (Large bytes) d m h = (own_part (λ c n. Sized c n bytes) (λ c b n m p x. size_within p x) d (has_them e y m) h.0, h.1)
own_fault Memory d m h = tt
