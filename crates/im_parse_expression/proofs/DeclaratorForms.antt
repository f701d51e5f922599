-- Declarators by what stands behind their stars.
use Rattle.std.proofs.Common.{◌≡◌, ℕ, suc, ◌+◌, ◌<◌, List, [], ◌∷◌, ◌++◌, length, drop, sym, refl, ap, ◌∙◌, subst, arith, append_assoc, length-append, inl, inr, Bool, true, false}
use Rattle.std.specs.Prelude.{Option, Some, None, ◌⊎◌}
use Rattle.im_tok.specs.declared.punctuator.Punctuator.TheVariants.{OpenBracket, OpenParen, CloseParen, Star}
use Rattle.im_word.specs.Words.{Name, Word, name, keyword, number, character, text, mark, unknown}
use Rattle.im_ctree.specs.Tree as tree
use Rattle.im_ctree.specs.Grammar as g
use Rattle.im_ctree.specs.Follow.{head_rank, head_star, Starting, StartsDeclarator, at_declared, at_star, at_paren, StartsAbstract, at_abstract_star, at_abstract_paren, at_abstract_bracket, Separated, closes, close_paren, close_bracket, close_brace, close_declaration, at_comma}
use Rattle.im_ctree.proofs.Behind.{declarator_starts, abstract_starts}
use Rattle.im_parse_core.specs.Reads.{Family, head}
use Rattle.im_parse_core.specs.Parts.{Both, both}
use Rattle.im_parse_core.proofs.Steps.{Into, tail, cons_of}
use Rattle.im_parse_expression.specs.declared.form.Form.{Form}
use Rattle.im_parse_expression.specs.declared.form.Form.TheVariants.{Declared, Guarded, Either, Abstract}
use Rattle.im_parse_expression.specs.Declaring.{IsForm, HasName, declared, guarded, either, MayBeNameless, either_nameless, abstract, IsInner, declared_inner, guarded_inner, named_inner, either_inner, abstract_inner, NotEmpty, IsStarred, with_name, with_inner, nameless, Stars, BeginsForm, by_suffix, by_star, by_its_name, by_bracket, by_paren, head_named, AfterDeclarator}
use Rattle.im_parse_expression.proofs.CoreFacts.{opens_unstarred}

-- a declarator without a name, in parentheses
abstract_inside : {T : List Name} {p : ℕ} {ns : List ℕ} {d : tree.Declarator} {ts : tree.Suffixes} {u : List Word} (v : List Word) {w : List Word} → g.IsStars ns u → head v ≡ Some (mark Star) → g.IsAbstract T (suc (p + length u)) d v → g.IsSuffixes T (suc (suc (p + length u) + length v)) ts w → g.IsAbstract T p (tree.around p ns d ts) (u ++ (mark OpenParen ∷ (v ++ (mark CloseParen ∷ w))))
abstract_inside [] ss star x ts = absurd (let h : None ≡ Some (mark Star) = star in cc)
abstract_inside {T = T} {p = p} {ns = ns} {d = d} {ts = us} {u = u} (y ∷ v) {w = w} ss star x ts =
    let h : Some y ≡ Some (mark Star) = star in
    let same : y ≡ mark Star = cc in
    subst (λ z. g.IsAbstract T p (tree.around p ns d us) (u ++ (mark OpenParen ∷ ((z ∷ v) ++ (mark CloseParen ∷ w))))) (sym same)
    (g.with_inner ss (subst (λ z. g.IsAbstract T (suc (p + length u)) d (z ∷ v)) same x) ts)

abstract_of : {T : List Name} {p : ℕ} (ns : List ℕ) {ts : tree.Suffixes} {u : List Word} (v : List Word) → g.IsStars ns u → NotEmpty ns v → g.IsSuffixes T (p + length u) ts v → g.IsAbstract T p (tree.declarator p ns tree.absent_core ts) (u ++ v)
abstract_of (n ∷ ns) v ss full ts = g.with_stars ss ts
abstract_of [] [] g.no_star (inl full) ts = absurd (full refl)
abstract_of [] [] g.no_star (inr full) ts = absurd (full refl)
abstract_of {T = T} {p = p} [] {ts = us} (x ∷ v) g.no_star full ts = g.with_suffixes (subst (λ k. g.IsSuffixes T k us (x ∷ v)) (omega arith) ts)

pub starred_into : (T : List Name) (f : Form) (p : ℕ) → Into (Both Stars (IsStarred T f p)) (IsForm T f) p
starred_into T f p t _ (both ss (with_name n declared ts)) = g.a_name n ss ts
starred_into T f p t _ (both ss (with_name n guarded ts)) = g.a_name n ss ts
starred_into T f p t _ (both ss (with_name n either ts)) = inl (g.a_name n ss ts)
starred_into T f p t _ (both ss (with_inner d declared_inner x ts)) = g.an_inner ss x (λ e. absurd (let h : false ≡ true = e in cc)) ts
starred_into T f p t _ (both ss (with_inner d (guarded_inner shut) x ts)) = g.an_inner ss x (λ e. shut) ts
starred_into T f p t _ (both ss (with_inner d (named_inner shut other) x ts)) = inl (g.an_inner ss x (λ e. shut) ts)
starred_into T f p t _ (both ss (with_inner d (either_inner star) (inl x) ts)) = inl (g.an_inner ss x (λ e o. opens_unstarred o star) ts)
starred_into T f p t _ (both ss (with_inner d {v = v} (either_inner star) (inr x) ts)) = inr (abstract_inside v ss star x ts)
starred_into T f p t _ (both ss (with_inner d {v = v} (abstract_inner star) x ts)) = abstract_inside v ss star x ts
starred_into T f p t _ (both {a = ns} {v = v} ss (nameless either_nameless full ts)) = inr (abstract_of ns v ss full ts)
starred_into T f p t _ (both {a = ns} {v = v} ss (nameless abstract full ts)) = abstract_of ns v ss full ts

star_or_not : (v : List Word) → (head v ≡ Some (mark Star)) ⊎ (head v ≡ Some (mark Star) → ⊥)
star_or_not [] = inr (λ e. cc e)
star_or_not (mark Star ∷ v) = inl refl
star_or_not (x ∷ v) = inr (λ e. cc e)

abstract_back : (T : List Name) (f : Form) (h : Form) (p : ℕ) → MayBeNameless f → ((v : List Word) → head v ≡ Some (mark Star) → IsInner T f h v) → ((q : ℕ) (d : tree.Declarator) (v : List Word) → g.IsAbstract T q d v → IsForm T h q d v) → Into (g.IsAbstract T) (Both Stars (IsStarred T f p)) p
abstract_back T f h p may inner lift t _ (g.with_stars ss ts) = both ss (nameless may (inl (λ e. cc e)) ts)
abstract_back T f h p may inner lift t _ (g.with_suffixes {ts = us} {x = x} {v = v} ts) = both g.no_star (nameless may (inr (λ e. cc e)) (subst (λ k. g.IsSuffixes T k us (x ∷ v)) (omega arith) ts))
abstract_back T f h p may inner lift t _ (g.with_inner {d = d} {u = u} {v = v} ss x ts) = both ss (with_inner d (inner (mark Star ∷ v) refl) (lift (suc (p + length u)) d (mark Star ∷ v) x) ts)

either_case : {T : List Name} {p : ℕ} {ns : List ℕ} {d : tree.Declarator} {ts : tree.Suffixes} {u v w : List Word} → (head v ≡ Some (mark Star)) ⊎ (head v ≡ Some (mark Star) → ⊥) → g.IsStars ns u → g.IsDeclarator T true (suc (p + length u)) d v → (g.OpensParameters T v → ⊥) → g.IsSuffixes T (suc (suc (p + length u) + length v)) ts w → Both Stars (IsStarred T Either p) p (tree.around p ns d ts) (u ++ (mark OpenParen ∷ (v ++ (mark CloseParen ∷ w))))
either_case {d = d} (inl star) ss x shut ts = both ss (with_inner d (either_inner star) (inl x) ts)
either_case {d = d} (inr other) ss x shut ts = both ss (with_inner d (named_inner shut other) x ts)

pub starred_back : (T : List Name) (f : Form) (p : ℕ) → Into (IsForm T f) (Both Stars (IsStarred T f p)) p
starred_back T Declared p t _ (g.a_name n ss ts) = both ss (with_name n declared ts)
starred_back T Declared p t _ (g.an_inner {d = d} ss x shut ts) = both ss (with_inner d declared_inner x ts)
starred_back T Guarded p t _ (g.a_name n ss ts) = both ss (with_name n guarded ts)
starred_back T Guarded p t _ (g.an_inner {d = d} ss x shut ts) = both ss (with_inner d (guarded_inner (shut refl)) x ts)
starred_back T Either p t _ (inl (g.a_name n ss ts)) = both ss (with_name n either ts)
starred_back T Either p t _ (inl (g.an_inner {d = d} {v = v} ss x shut ts)) = either_case (star_or_not v) ss x (shut refl) ts
starred_back T Either p t u (inr x) = abstract_back T Either Either p either_nameless (λ v e. either_inner e) (λ q d v y. inr y) t u x
starred_back T Abstract p t u x = abstract_back T Abstract Abstract p abstract (λ v e. abstract_inner e) (λ q d v y. y) t u x

-- what begins a declarator of each form
form_word : {f : Form} {x : Word} → HasName f → StartsDeclarator x → BeginsForm f (Some x)
form_word has at_declared = by_its_name has
form_word has at_star = by_star
form_word has at_paren = by_suffix by_paren

abstract_word : {f : Form} {x : Word} → StartsAbstract x → BeginsForm f (Some x)
abstract_word at_abstract_star = by_star
abstract_word at_abstract_paren = by_suffix by_paren
abstract_word at_abstract_bracket = by_suffix by_bracket

named_begins : {f : Form} {u : List Word} (z : List Word) → HasName f → Starting StartsDeclarator u → BeginsForm f (head (u ++ z))
named_begins {f = f} z has s = subst (λ y. BeginsForm f (head (y ++ z))) (sym s.2) (form_word has s.3)

abstract_begins : {f : Form} {u : List Word} (z : List Word) → Starting StartsAbstract u → BeginsForm f (head (u ++ z))
abstract_begins {f = f} z s = subst (λ y. BeginsForm f (head (y ++ z))) (sym s.2) (abstract_word s.3)

pub form_begins : (T : List Name) (f : Form) (p : ℕ) (d : tree.Declarator) (u : List Word) (z : List Word) → IsForm T f p d u → BeginsForm f (head (u ++ z))
form_begins T Declared p d u z x = named_begins z declared (declarator_starts x)
form_begins T Guarded p d u z x = named_begins z guarded (declarator_starts x)
form_begins T Either p d u z (inl x) = named_begins z either (declarator_starts x)
form_begins T Either p d u z (inr x) = abstract_begins z (abstract_starts x)
form_begins T Abstract p d u z x = abstract_begins z (abstract_starts x)

pub separated_begins : {f : Form} {r : List Word} → Separated r → BeginsForm f (head r) → ⊥
separated_begins (closes close_paren) (by_suffix s) = elim s [ ]
separated_begins (closes close_bracket) (by_suffix s) = elim s [ ]
separated_begins (closes close_brace) (by_suffix s) = elim s [ ]
separated_begins (closes close_declaration) (by_suffix s) = elim s [ ]
separated_begins at_comma (by_suffix s) = elim s [ ]

pub separated_after : {A : Type 0} (a : A) (r : List Word) → Separated r → AfterDeclarator a r
separated_after a r (closes close_paren) = (omega arith, refl, refl)
separated_after a r (closes close_bracket) = (omega arith, refl, refl)
separated_after a r (closes close_brace) = (omega arith, refl, refl)
separated_after a r (closes close_declaration) = (omega arith, refl, refl)
separated_after a r at_comma = (omega arith, refl, refl)
