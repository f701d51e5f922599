-- A declarator in parentheses.
use Rattle.std.proofs.Common.{◌≡◌, ℕ, List, [], ◌∷◌, ◌++◌, length, map, sym, refl, ap, ◌∙◌, subst, Bool, true, false, Global, nat_eq, suc, arith, rules}
use Rattle.std.specs.Prelude.{Result, MatchResult}
use Rattle.std.specs.declared.vec.Vec.{Vec}
use Rattle.im_ctree.specs.declared.declarator.Star.{Star}
use Rattle.im_ctree.specs.declared.declarator.Suffix.{Suffix}
use Rattle.im_ctree.specs.declared.declarator.Core as co
use Rattle.im_ctree.specs.declared.declarator.Declarator as dc
use Rattle.im_ctree.specs.Tree as t
use Rattle.im_ctree.specs.Shape.{declarator_of, core_of}
use Rattle.im_parse_core.specs.Lists.{before}
use Rattle.im_parse_expression.specs.Declaring.{joined, add_suffix, suffix_tree, suffixes_tree, stars_tree, SuffixTree, one_array, one_function}
use Rattle.im_parse_expression.proofs.DeclaringRows.{suffixes_made}

not_zero : (n : ℕ) → nat_eq (suc n) 0 ≡ false
not_zero n = first_of (grind arith, search rules)

pub unstarred_length : (stars : List Star) → nat_eq (length stars) 0 ≡ t.unstarred (map (λ (star : Star). star.consts) stars)
unstarred_length [] = refl
unstarred_length (x ∷ stars) = not_zero (length stars)

unsuffixed_add : (x : SuffixTree) (ts : t.Suffixes) → t.unsuffixed (add_suffix x ts) ≡ false
unsuffixed_add (one_array p e) ts = refl
unsuffixed_add (one_function p qs) ts = refl

pub unsuffixed_length : (suffixes : List Suffix) → nat_eq (length suffixes) 0 ≡ t.unsuffixed (before add_suffix (map suffix_tree suffixes) t.no_suffixes)
unsuffixed_length [] = refl
unsuffixed_length (x ∷ suffixes) = not_zero (length suffixes) ∙ sym (unsuffixed_add (suffix_tree x) (before add_suffix (map suffix_tree suffixes) t.no_suffixes))

appended_add : (x : SuffixTree) (ts us : t.Suffixes) → t.append_suffixes (add_suffix x ts) us ≡ add_suffix x (t.append_suffixes ts us)
appended_add (one_array p e) ts us = refl
appended_add (one_function p qs) ts us = refl

appended : (xs ys : List Suffix) → before add_suffix (map suffix_tree (xs ++ ys)) t.no_suffixes ≡ t.append_suffixes (before add_suffix (map suffix_tree xs) t.no_suffixes) (before add_suffix (map suffix_tree ys) t.no_suffixes)
appended [] ys = refl
appended (x ∷ xs) ys = ap (λ z. add_suffix (suffix_tree x) z) (appended xs ys) ∙ sym (appended_add (suffix_tree x) _ _)

starred : (xs ys : List Star) → map (λ (star : Star). star.consts) (xs ++ ys) ≡ map (λ (star : Star). star.consts) xs ++ map (λ (star : Star). star.consts) ys
starred [] ys = refl
starred (x ∷ xs) ys = ap (λ z. x.consts ∷ z) (starred xs ys)

pub declarator_made : (at : ℕ) (stars : Vec Star Global) (core : co.Core) (suffixes : Vec Suffix Global) → declarator_of (dc.roll-Declarator (record { at = at; stars = stars; core = core; suffixes = suffixes })) ≡ t.declarator at (stars_tree stars) (core_of core) (suffixes_tree suffixes)
declarator_made at stars core suffixes = ap declarator_of (dc.rolls-Declarator' (record { at = at; stars = stars; core = core; suffixes = suffixes })) ∙ ap (λ z. t.declarator at (stars_tree stars) (core_of core) z) (suffixes_made suffixes)

pub declarator_shape : (d : dc.Declarator) → declarator_of d ≡ t.declarator (dc.out-Declarator d).at (stars_tree (dc.out-Declarator d).stars) (core_of (dc.out-Declarator d).core) (suffixes_tree (dc.out-Declarator d).suffixes)
declarator_shape d = ap declarator_of (dc.is-Declarator' d) ∙ ap (λ z. t.declarator (dc.out-Declarator d).at (stars_tree (dc.out-Declarator d).stars) (core_of (dc.out-Declarator d).core) z) (suffixes_made (dc.out-Declarator d).suffixes)

pub merged_law : (at : ℕ) (stars : Vec Star Global) (d : dc.Declarator) (suffixes : Vec Suffix Global) (all : Vec Star Global) (both : Vec Suffix Global) → all.items ≡ stars.items ++ (dc.out-Declarator d).stars.items → both.items ≡ (dc.out-Declarator d).suffixes.items ++ suffixes.items
    → declarator_of (dc.roll-Declarator (record { at = at; stars = all; core = (dc.out-Declarator d).core; suffixes = both })) ≡ joined at (stars_tree stars) (declarator_of d) (suffixes_tree suffixes)
merged_law at stars d suffixes all both one two =
    declarator_made at all (dc.out-Declarator d).core both
    ∙ ap (λ z. t.declarator at z (core_of (dc.out-Declarator d).core) (suffixes_tree both)) (ap (λ z. map (λ (star : Star). star.consts) z) one ∙ starred stars.items (dc.out-Declarator d).stars.items)
    ∙ ap (λ z. t.declarator at (stars_tree stars ++ stars_tree (dc.out-Declarator d).stars) (core_of (dc.out-Declarator d).core) z) (ap (λ z. before add_suffix (map suffix_tree z) t.no_suffixes) two ∙ appended (dc.out-Declarator d).suffixes.items suffixes.items)
    ∙ ap (λ z. joined at (stars_tree stars) z (suffixes_tree suffixes)) (sym (declarator_shape d))

merged_case : (p : ℕ) (ns : List ℕ) (q : ℕ) (ms : List ℕ) (c : t.Core) (ts us : t.Suffixes) → t.unsuffixed us ≡ true → joined p ns (t.declarator q ms c ts) us ≡ t.around p ns (t.declarator q ms c ts) us
merged_case p ns q ms c ts t.no_suffixes e = refl
merged_case p ns q ms c ts (t.array_suffix p' x us) e = absurd (let h : false ≡ true = e in cc)
merged_case p ns q ms c ts (t.function_suffix p' x us) e = absurd (let h : false ≡ true = e in cc)

pub without_suffixes : (p : ℕ) (ns : List ℕ) (d : t.Declarator) (us : t.Suffixes) → t.unsuffixed us ≡ true → joined p ns d us ≡ t.around p ns d us
without_suffixes p ns (t.declarator q ms c ts) us e = merged_case p ns q ms c ts us e

star_case : (p : ℕ) (ns : List ℕ) (q : ℕ) (ms : List ℕ) (c : t.Core) (ts us : t.Suffixes) → t.unstarred ms ≡ true → joined p ns (t.declarator q ms c ts) us ≡ t.around p ns (t.declarator q ms c ts) us
star_case p ns q [] c ts t.no_suffixes e = refl
star_case p ns q [] c ts (t.array_suffix p' x us) e = refl
star_case p ns q [] c ts (t.function_suffix p' x us) e = refl
star_case p ns q (n ∷ ms) c ts us e = absurd (let h : false ≡ true = e in cc)

pub without_stars : (p : ℕ) (ns : List ℕ) (d : dc.Declarator) (us : t.Suffixes) → t.unstarred (stars_tree (dc.out-Declarator d).stars) ≡ true → joined p ns (declarator_of d) us ≡ t.around p ns (declarator_of d) us
without_stars p ns d us e = ap (λ z. joined p ns z us) (declarator_shape d) ∙ star_case p ns _ _ _ _ us e ∙ ap (λ z. t.around p ns z us) (sym (declarator_shape d))

kept_case : (p : ℕ) (ns : List ℕ) (q : ℕ) (ms : List ℕ) (c : t.Core) (ts us : t.Suffixes) → t.unsuffixed us ≡ false → t.unstarred ms ≡ false → t.declarator p ns (t.inner_core (t.declarator q ms c ts)) us ≡ t.around p ns (t.declarator q ms c ts) us
kept_case p ns q ms c ts t.no_suffixes e f = absurd (let h : true ≡ false = e in cc)
kept_case p ns q [] c ts us e f = absurd (let h : true ≡ false = f in cc)
kept_case p ns q (n ∷ ms) c ts (t.array_suffix p' x us) e f = refl
kept_case p ns q (n ∷ ms) c ts (t.function_suffix p' x us) e f = refl

pub with_both : (p : ℕ) (ns : List ℕ) (d : dc.Declarator) (us : t.Suffixes) → t.unsuffixed us ≡ false → t.unstarred (stars_tree (dc.out-Declarator d).stars) ≡ false → t.declarator p ns (t.inner_core (declarator_of d)) us ≡ t.around p ns (declarator_of d) us
with_both p ns d us e f = ap (λ z. t.declarator p ns (t.inner_core z) us) (declarator_shape d) ∙ kept_case p ns _ _ _ _ us e f ∙ ap (λ z. t.around p ns z us) (sym (declarator_shape d))
