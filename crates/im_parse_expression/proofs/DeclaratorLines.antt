-- Declarators, part by part.
use Rattle.std.proofs.Common.{◌≡◌, ℕ, zero, suc, ◌+◌, ◌<◌, List, [], ◌∷◌, ◌++◌, length, drop, sym, refl, ap, ◌∙◌, subst, arith, append_assoc, length-append, inl, inr, Bool, true, false, Bor}
use Rattle.std.specs.Prelude.{Option, Some, None, ◌⊎◌}
use Rattle.im_tok.specs.declared.punctuator.Punctuator.TheVariants.{OpenBracket, CloseBracket, OpenParen, CloseParen, Star}
use Rattle.im_word.specs.Words.{Name, Word, name, mark}
use Rattle.im_ctree.specs.Tree as tree
use Rattle.im_ctree.specs.Grammar as g
use Rattle.im_ctree.specs.Follow.{head_rank, head_star, Separated}
use Rattle.im_ctree.proofs.Ranks.{parameter_starts}
use Rattle.im_ctree.proofs.Behind.{opens}
use Rattle.im_parse_core.specs.Reads.{Family, Ending, head, Reads, Refuses, Within}
use Rattle.im_parse_core.specs.Parts.{Both, both, After, after, Made, made, Done, done}
use Rattle.im_parse_core.specs.Places.{IsAt, StopsAt}
use Rattle.im_parse_core.specs.declared.stop.Stop.{Stop}
use Rattle.im_parse_core.specs.declared.stop.Stop.TheVariants.{Syntax, Memory}
use Rattle.im_parse_core.proofs.Steps.{Apart, Completes, Some', Into, Back, BackTwo, Opens, tail, cons_of, start, line, line_at, line_two, word, missing, part, refused, node, all, last, last_refused, nothing}
use Rattle.im_parse_core.proofs.Conditions.{ends, line_where, line_starts, SomeWhere, Starts, IntoWhere}
use Rattle.im_parse_expression.specs.Parsing.{Below, Anything}
use Rattle.im_parse_expression.specs.declared.form.Form.{Form}
use Rattle.im_parse_expression.specs.declared.form.Form.TheVariants.{Declared, Guarded, Either, Abstract}
use Rattle.im_parse_expression.specs.Declaring.{IsForm, HasName, declared, guarded, either, MayBeNameless, either_nameless, abstract, IsInner, declared_inner, guarded_inner, named_inner, either_inner, abstract_inner, NotEmpty, IsStarred, with_name, with_inner, nameless, Stars, AfterStars, AfterDeclarator, AfterParameter, BeginsForm, by_suffix, BeginsSuffix, by_bracket, by_paren, head_named, IsMaybeForm, no_form, a_form}
use Rattle.im_parse_expression.specs.declared.core_start.CoreStart as cs
use Rattle.im_parse_expression.specs.declared.core_start.CoreStart.TheVariants as c
use Rattle.im_parse_expression.specs.Cores.{IsCore, IsNameless, NoCore, IsCoreless, at_once, inside, StopsCore}
use Rattle.im_parse_expression.proofs.DeclaratorForms.{starred_into, starred_back, form_begins, separated_begins, separated_after}
use Rattle.im_parse_expression.proofs.CoreFacts.{opens_moved, opens_unstarred}
use Rattle.im_parse_expression.proofs.PostfixLines.{AName, a_name, reads_name}

-- [ declarator ]
none_into : (T : List Name) (f : Form) (q : ℕ) → Into (Done tree.no_declarator) (IsMaybeForm T f) q
none_into T f q t _ done = no_form

none_back : (T : List Name) (f : Form) (q : ℕ) (m : List Word) → (BeginsForm f (head m) → ⊥) → (t : tree.MaybeDeclarator) (u r : List Word) → head (u ++ r) ≡ head m → IsMaybeForm T f q t u → Done tree.no_declarator q t u
none_back T f q m other t _ r e no_form = done
none_back T f q m other t u r e (a_form {d = d} x) = absurd (other (subst (BeginsForm f) e (form_begins T f q d u r x)))

pub reads_no_declarator : (words : List Word) (T : List Name) (f : Form) (p : ℕ) → (BeginsForm f (head (drop p words)) → ⊥) → Reads (IsMaybeForm T f) AfterParameter p (drop p words) tree.no_declarator p (drop p words)
reads_no_declarator words T f p other = all (line (Done tree.no_declarator) (none_into T f p) (λ t u r e x y. none_back T f p (drop p words) other t u r e x) (start (IsMaybeForm T f) AfterParameter p (drop p words)))

form_into : (T : List Name) (f : Form) (q : ℕ) → Into (Made tree.a_declarator (IsForm T f)) (IsMaybeForm T f) q
form_into T f q t _ (made x) = a_form x

form_back : (T : List Name) (f : Form) (q : ℕ) (m : List Word) → BeginsForm f (head m) → (t : tree.MaybeDeclarator) (u r : List Word) → head (u ++ r) ≡ head m → IsMaybeForm T f q t u → Separated r → Made tree.a_declarator (IsForm T f) q t u
form_back T f q m h t _ r e no_form s = absurd (separated_begins s (subst (BeginsForm f) (sym e) h))
form_back T f q m h t u r e (a_form x) s = made x

pub declarator_ahead : (words : List Word) (T : List Name) (f : Form) (p : ℕ) → BeginsForm f (head (drop p words)) → Within (IsMaybeForm T f) AfterParameter p (drop p words) (IsForm T f) AfterDeclarator p (drop p words) tree.a_declarator
declarator_ahead words T f p h = ends AfterDeclarator (λ t r s. separated_after t r s) (node (line (Made tree.a_declarator (IsForm T f)) (form_into T f p) (λ t u r e x y. form_back T f p (drop p words) h t u r e x y) (start (IsMaybeForm T f) AfterParameter p (drop p words))))

-- stars, and what stands behind them
suffixes_unstarred : {T : List Name} {q : ℕ} {ts : tree.Suffixes} {u : List Word} (r : List Word) → g.IsSuffixes T q ts u → head_star r ≡ 0 → head_star (u ++ r) < 1
suffixes_unstarred r g.no_suffix e = omega (arith, e)
suffixes_unstarred r (g.an_array l ts) e = omega arith
suffixes_unstarred r (g.a_function qs ts) e = omega arith

starred_ends : (T : List Name) (f : Form) (p : ℕ) → Apart (IsStarred T f p) AfterDeclarator AfterStars
starred_ends T f p ns q t _ r (with_name n has ts) e = omega arith
starred_ends T f p ns q t _ r (with_inner d inner x ts) e = omega arith
starred_ends T f p ns q t u r (nameless may full ts) e = suffixes_unstarred r ts e.1

pub starred_completes : (T : List Name) (f : Form) (p : ℕ) → Completes (IsStarred T f p)
starred_completes T Declared p ns q = (tree.declarator p ns (tree.name_core []) tree.no_suffixes, name [] ∷ [], with_name [] declared g.no_suffix)
starred_completes T Guarded p ns q = (tree.declarator p ns (tree.name_core []) tree.no_suffixes, name [] ∷ [], with_name [] guarded g.no_suffix)
starred_completes T Either p ns q = (tree.declarator p ns (tree.name_core []) tree.no_suffixes, name [] ∷ [], with_name [] either g.no_suffix)
starred_completes T Abstract p ns q = (tree.declarator p ns tree.absent_core (tree.array_suffix q tree.no_expression tree.no_suffixes), mark OpenBracket ∷ mark CloseBracket ∷ [], nameless abstract (inr (λ e. cc e)) (g.an_array g.no_length g.no_suffix))

abbrev pub ADeclarator : List Name → Form → List Word → ℕ → Type 0
ADeclarator T f words p = Within (IsForm T f) AfterDeclarator p (drop p words) (Both Stars (IsStarred T f p)) AfterDeclarator p (drop p words) (λ t. t)

declarator_start : (words : List Word) (T : List Name) (f : Form) (p : ℕ) → ADeclarator T f words p
declarator_start words T f p = line (Both Stars (IsStarred T f p)) (starred_into T f p) (λ t u r e x y. starred_back T f p t u x) (start (IsForm T f) AfterDeclarator p (drop p words))

pub refuses_stars : (words : List Word) (T : List Name) (f : Form) {p n : ℕ} → Refuses Stars AfterStars p (drop p words) n (drop n words) → Refuses (IsForm T f) AfterDeclarator p (drop p words) n (drop n words)
refuses_stars words T f {p = p} one = refused (starred_completes T f p) (starred_ends T f p) one (declarator_start words T f p)

abbrev pub Starred : List Name → Form → List Word → ℕ → List ℕ → ℕ → Type 0
Starred T f words p ns q = Within (IsForm T f) AfterDeclarator p (drop p words) (IsStarred T f p ns) AfterDeclarator q (drop q words) (λ t. t)

pub after_stars : (words : List Word) (T : List Name) (f : Form) {p q : ℕ} {ns : List ℕ} → Reads Stars AfterStars p (drop p words) ns q (drop q words) → Starred T f words p ns q
after_stars words T f {p = p} one = part (starred_ends T f p) one (declarator_start words T f p)

-- what has to be read last: suffixes, with this declarator
abbrev pub Suffixed : List Name → Form → List Word → ℕ → ℕ → (tree.Suffixes → tree.Declarator) → Type 0
Suffixed T f words p q put = Within (IsForm T f) AfterDeclarator p (drop p words) (g.IsSuffixes T) (Below 14) q (drop q words) put

suffixed : {T : List Name} (f : Form) {p q : ℕ} {w m : List Word} (put : tree.Suffixes → tree.Declarator) → Within (IsForm T f) AfterDeclarator p w (Made put (g.IsSuffixes T)) AfterDeclarator q m (λ t. t) → Within (IsForm T f) AfterDeclarator p w (g.IsSuffixes T) (Below 14) q m put
suffixed f put from = ends (Below 14) (λ t r e. e.0) (node from)

-- a name
named_into : (T : List Name) (f : Form) (s : ℕ) (ns : List ℕ) (q : ℕ) → HasName f → Into (Both AName (λ n. Made (λ ts. tree.declarator s ns (tree.name_core n) ts) (g.IsSuffixes T))) (IsStarred T f s ns) q
named_into T f s ns q has t _ (both (a_name n) (made {t = us} {u = u} ts)) = with_name n has (subst (λ k. g.IsSuffixes T k us u) (omega arith) ts)

named_back : (T : List Name) (f : Form) (s : ℕ) (ns : List ℕ) (q : ℕ) (n : Name) (t : tree.Declarator) (u r v : List Word) → u ++ r ≡ name n ∷ v → IsStarred T f s ns q t u → head_named r ≡ 0 → Both AName (λ n. Made (λ ts. tree.declarator s ns (tree.name_core n) ts) (g.IsSuffixes T)) q t u
named_back T f s ns q n t _ r v eq (with_name m {ts = us} {u = u} has ts) e = both (a_name m) (made (subst (λ k. g.IsSuffixes T k us u) (omega arith) ts))
named_back T f s ns q n t _ r v eq (with_inner d inner x ts) e = absurd cc
named_back T f s ns q n t _ r v eq (nameless may full g.no_suffix) e = absurd (omega (arith, e, ap head_named eq))
named_back T f s ns q n t _ r v eq (nameless may full (g.an_array l ts)) e = absurd cc
named_back T f s ns q n t _ r v eq (nameless may full (g.a_function qs ts)) e = absurd cc

pub named_core : (words : List Word) {T : List Name} {f : Form} {p q k : ℕ} {ns : List ℕ} {n : Name} → HasName f → IsAt (name n) words q k → Starred T f words p ns q → Suffixed T f words p k (λ ts. tree.declarator p ns (tree.name_core n) ts)
named_core words {T = T} {f = f} {p = p} {q = q} {ns = ns} {n = n} has at from =
    suffixed f (λ ts. tree.declarator p ns (tree.name_core n) ts) (part (λ a q t v r d e. tt) (reads_name words at) (line_at (name n) (Both AName (λ n. Made (λ ts. tree.declarator p ns (tree.name_core n) ts) (g.IsSuffixes T))) (ap head at.here) (named_into T f p ns q has) (λ t u r v eq d e. named_back T f p ns q n t u r v eq d e.2) from))

-- parentheses
pub data InnerRest (T : List Name) (f : Form) (s : ℕ) (ns : List ℕ) : ℕ → tree.Declarator → List Word → Type 0 where
  inner_rest : {h : Form} {q : ℕ} (d : tree.Declarator) {ts : tree.Suffixes} {v w : List Word} → IsInner T f h v → IsForm T h q d v → g.IsSuffixes T (suc (q + length v)) ts w → InnerRest T f s ns q (tree.around s ns d ts) (v ++ (mark CloseParen ∷ w))

inner_into : (T : List Name) (f : Form) (s : ℕ) (ns : List ℕ) (q : ℕ) → Into (After (mark OpenParen) (InnerRest T f s ns)) (IsStarred T f s ns) q
inner_into T f s ns q t _ (after (inner_rest d inner x ts)) = with_inner d inner x ts

second_opens : {T : List Name} {q : ℕ} {qs : tree.Parameters} {u : List Word} (z : List Word) → g.IsParameters T q qs u → g.OpensParameters T (u ++ (mark CloseParen ∷ z))
second_opens z g.no_parameter = g.at_close
second_opens {T = T} z (g.first_parameter {u = u} {v = v} x rest) =
    let s = parameter_starts x in
    subst (λ y. g.OpensParameters T ((y ++ v) ++ (mark CloseParen ∷ z))) (sym s.2) (opens s.3)

open_rank : (r : List Word) → head r ≡ Some (mark OpenParen) → head_rank r < 14 → ⊥
open_rank r h e = let k = ap head_rank (cons_of r (mark OpenParen) h) in omega (arith, k, e)

-- the second word opens a parameter list, where suffixes begin with a parenthesis
suffix_opens : {T : List Name} {q : ℕ} {ts : tree.Suffixes} {u : List Word} (r : List Word) → g.IsSuffixes T q ts u → head_rank r < 14 → head (u ++ r) ≡ Some (mark OpenParen) → g.OpensParameters T (tail (u ++ r))
suffix_opens r g.no_suffix e h = absurd (open_rank r h e)
suffix_opens r (g.an_array l ts) e h = absurd cc
suffix_opens {T = T} r (g.a_function {u = u} {v = v} qs ts) e h = subst (g.OpensParameters T) (sym (append_assoc u (mark CloseParen ∷ v) r)) (second_opens (v ++ r) qs)

pub inner_shut : {T : List Name} {f h : Form} {v : List Word} → MayBeNameless f → IsInner T f h v → g.OpensParameters T v → ⊥
inner_shut may (guarded_inner shut) o = shut o
inner_shut may (named_inner shut other) o = shut o
inner_shut may (either_inner star) o = opens_unstarred o star
inner_shut may (abstract_inner star) o = opens_unstarred o star
inner_shut may declared_inner o = elim may [ ]

inner_moved : {T : List Name} {f h : Form} {m : List Word} (v : List Word) → head v ≡ head m → IsInner T f h m → IsInner T f h v
inner_moved v e declared_inner = declared_inner
inner_moved {m = m} v e (guarded_inner shut) = guarded_inner (λ o. shut (opens_moved m (sym e) o))
inner_moved {m = m} v e (named_inner shut other) = named_inner (λ o. shut (opens_moved m (sym e) o)) (λ h. other (sym e ∙ h))
inner_moved v e (either_inner star) = either_inner (e ∙ star)
inner_moved v e (abstract_inner star) = abstract_inner (e ∙ star)

-- the first word says which form stands in parentheses
inner_same : {T : List Name} {f h h' : Form} {v : List Word} → IsInner T f h v → IsInner T f h' v → h' ≡ h
inner_same declared_inner declared_inner = refl
inner_same (guarded_inner a) (guarded_inner b) = refl
inner_same (named_inner a b) (named_inner c d) = refl
inner_same (named_inner a b) (either_inner c) = absurd (b c)
inner_same (either_inner a) (named_inner c d) = absurd (d a)
inner_same (either_inner a) (either_inner b) = refl
inner_same (abstract_inner a) (abstract_inner b) = refl

inner_back : (T : List Name) (f : Form) (s : ℕ) (ns : List ℕ) (q : ℕ) (m : List Word) → head m ≡ Some (mark OpenParen) → (MayBeNameless f → g.OpensParameters T (tail m) → ⊥) → BackTwo (After (mark OpenParen) (InnerRest T f s ns)) (IsStarred T f s ns) AfterDeclarator q m
inner_back T f s ns q m at shut t _ r one two (with_name n has ts) e = absurd (let h : Some (name n) ≡ Some (mark OpenParen) = one ∙ at in cc)
inner_back T f s ns q m at shut t _ r one two (with_inner d inner x ts) e = after (inner_rest d inner x ts)
inner_back T f s ns q m at shut t u r one two (nameless may full ts) e = absurd (shut may (opens_moved (tail m) (sym two) (suffix_opens r ts e.0 (one ∙ at))))

inner_full : (T : List Name) (f : Form) (s : ℕ) (ns : List ℕ) (q : ℕ) (t : tree.Declarator) (u : List Word) → After (mark OpenParen) (InnerRest T f s ns) q t u → u ≡ [] → ⊥
inner_full T f s ns q t _ (after x) e = cc e

-- something in parentheses
some_inner : (T : List Name) (f h : Form) (s : ℕ) (ns : List ℕ) (q : ℕ) (m : List Word) → IsInner T f h m → (t : tree.Declarator) × (v : List Word) × InnerRest T f s ns q t (mark Star ∷ v)
some_inner T f h s ns q m declared_inner = (_, name [] ∷ mark CloseParen ∷ [], inner_rest (tree.declarator q (0 ∷ []) (tree.name_core []) tree.no_suffixes) {v = mark Star ∷ name [] ∷ []} {w = []} declared_inner (g.a_name [] (g.a_star g.no_const g.no_star) g.no_suffix) g.no_suffix)
some_inner T f h s ns q m (guarded_inner shut) = (_, name [] ∷ mark CloseParen ∷ [], inner_rest (tree.declarator q (0 ∷ []) (tree.name_core []) tree.no_suffixes) {v = mark Star ∷ name [] ∷ []} {w = []} (guarded_inner (λ o. opens_unstarred o refl)) (g.a_name [] (g.a_star g.no_const g.no_star) g.no_suffix) g.no_suffix)
some_inner T f h s ns q m (named_inner shut other) = (_, mark CloseParen ∷ [], inner_rest (tree.declarator q (0 ∷ []) tree.absent_core tree.no_suffixes) {v = mark Star ∷ []} {w = []} (either_inner refl) (inr (g.with_stars (g.a_star g.no_const g.no_star) g.no_suffix)) g.no_suffix)
some_inner T f h s ns q m (either_inner star) = (_, mark CloseParen ∷ [], inner_rest (tree.declarator q (0 ∷ []) tree.absent_core tree.no_suffixes) {v = mark Star ∷ []} {w = []} (either_inner refl) (inr (g.with_stars (g.a_star g.no_const g.no_star) g.no_suffix)) g.no_suffix)
some_inner T f h s ns q m (abstract_inner star) = (_, mark CloseParen ∷ [], inner_rest (tree.declarator q (0 ∷ []) tree.absent_core tree.no_suffixes) {v = mark Star ∷ []} {w = []} (abstract_inner refl) (g.with_stars (g.a_star g.no_const g.no_star) g.no_suffix) g.no_suffix)

opens_inner : (T : List Name) (f h : Form) (s : ℕ) (ns : List ℕ) (q : ℕ) (m v : List Word) → head m ≡ Some (mark OpenParen) → IsInner T f h v → Opens (After (mark OpenParen) (InnerRest T f s ns)) AfterDeclarator q m
opens_inner T f h s ns q m v at inner =
    let x = some_inner T f h s ns (suc q) v inner in
    record {
      full = λ t d. inner_full T f s ns q t [] d refl;
      tree = x.0;
      words = mark OpenParen ∷ mark Star ∷ x.1;
      starts = sym at;
      derived = after x.2;
      ends = (omega arith, refl, refl);
    }

-- behind the parenthesis, the form of what stands in it is known
abbrev InnerLine : List Name → Form → ℕ → List ℕ → Family tree.Declarator
InnerLine T h s ns = Both (IsForm T h) (λ d. After (mark CloseParen) (Made (λ ts. tree.around s ns d ts) (g.IsSuffixes T)))

abbrev IsSo : List Name → Form → Form → Option Word → Type 0
IsSo T f h o = (v : List Word) → head v ≡ o → IsInner T f h v

no_form_none : {f : Form} → BeginsForm f None → ⊥
no_form_none (by_suffix s) = elim s [ ]

form_full : (T : List Name) (h : Form) (q : ℕ) (d : tree.Declarator) (u : List Word) → IsForm T h q d u → u ≡ [] → ⊥
form_full T h q d u x e = no_form_none (subst (λ y. BeginsForm h (head (y ++ []))) e (form_begins T h q d u [] x))

front_head : (u z : List Word) → (u ≡ [] → ⊥) → head u ≡ head (u ++ z)
front_head [] z full = absurd (full refl)
front_head (x ∷ u) z full = refl

known_into : (T : List Name) (f h : Form) (s : ℕ) (ns : List ℕ) (q : ℕ) → IntoWhere (InnerLine T h s ns) (InnerRest T f s ns) (IsSo T f h) q
known_into T f h s ns q t _ so (both {a = d} {u = v} x (after {u = w} (made {t = us} ts))) = inner_rest d (so v (front_head v (mark CloseParen ∷ w) (λ e. form_full T h q d v x e))) x ts

known_back : (T : List Name) (f h : Form) (s : ℕ) (ns : List ℕ) (q : ℕ) (m : List Word) → IsInner T f h m → (t : tree.Declarator) (u r : List Word) → head (u ++ r) ≡ head m → InnerRest T f s ns q t u → InnerLine T h s ns q t u
known_back T f h s ns q m inner t _ r e (inner_rest {h = h'} d {ts = us} {v = v} {w = w} inner' x ts) =
    let z = front_head v ((mark CloseParen ∷ w) ++ r) (λ e. form_full T h' q d v x e) in
    let same : h' ≡ h = inner_same (inner_moved v (z ∙ ap head (sym (append_assoc v (mark CloseParen ∷ w) r)) ∙ e) inner) inner' in
    both (subst (λ y. IsForm T y q d v) same x) (after (made ts))

line_full : (T : List Name) (h : Form) (s : ℕ) (ns : List ℕ) (q : ℕ) (t : tree.Declarator) (u : List Word) → InnerLine T h s ns q t u → u ≡ [] → ⊥
line_full T h s ns q t _ (both {u = v} x (after {u = w} y)) e = let k = length-append v (mark CloseParen ∷ w) in omega (arith, k, ap length e)

opens_unparen : {T : List Name} {m : List Word} → g.OpensParameters T m → head m ≡ Some (mark OpenParen) → ⊥
opens_unparen g.at_close e = cc
opens_unparen (g.at_typedef_name is) e = cc
opens_unparen (g.at_word is) e = cc
opens_unparen g.at_struct e = cc
opens_unparen g.at_enum e = cc

paren_star : Some (mark OpenParen) ≡ Some (mark Star) → ⊥
paren_star e = cc e

known_some : (T : List Name) (f h : Form) (s : ℕ) (ns : List ℕ) (q : ℕ) (m : List Word) → IsInner T f h m → SomeWhere (InnerLine T h s ns) (IsSo T f h) q
known_some T f h s ns q m declared_inner = record { tree = _; words = mark Star ∷ name [] ∷ mark CloseParen ∷ []; derived = both {v = mark CloseParen ∷ []} (g.a_name [] {u = mark Star ∷ []} {v = []} (g.a_star g.no_const g.no_star) g.no_suffix) (after (made g.no_suffix)); so = λ v e. declared_inner }
known_some T f h s ns q m (guarded_inner shut) = record { tree = _; words = mark Star ∷ name [] ∷ mark CloseParen ∷ []; derived = both {v = mark CloseParen ∷ []} (g.a_name [] {u = mark Star ∷ []} {v = []} (g.a_star g.no_const g.no_star) g.no_suffix) (after (made g.no_suffix)); so = λ v e. guarded_inner (λ o. opens_unstarred o e) }
known_some T f h s ns q m (named_inner shut other) = record { tree = _; words = mark OpenParen ∷ mark Star ∷ name [] ∷ mark CloseParen ∷ mark CloseParen ∷ []; derived = both {v = mark CloseParen ∷ []} (g.an_inner {u = []} {v = mark Star ∷ name [] ∷ []} {w = []} g.no_star (g.a_name [] {u = mark Star ∷ []} {v = []} (g.a_star g.no_const g.no_star) g.no_suffix) (λ e o. opens_unstarred o refl) g.no_suffix) (after (made g.no_suffix)); so = λ v e. named_inner (λ o. opens_unparen o e) (λ k. paren_star (sym e ∙ k)) }
known_some T f h s ns q m (either_inner star) = record { tree = _; words = mark Star ∷ mark CloseParen ∷ []; derived = both {v = mark CloseParen ∷ []} (inr (g.with_stars {u = mark Star ∷ []} {v = []} (g.a_star g.no_const g.no_star) g.no_suffix)) (after (made g.no_suffix)); so = λ v e. either_inner e }
known_some T f h s ns q m (abstract_inner star) = record { tree = _; words = mark Star ∷ mark CloseParen ∷ []; derived = both {v = mark CloseParen ∷ []} (g.with_stars {u = mark Star ∷ []} {v = []} (g.a_star g.no_const g.no_star) g.no_suffix) (after (made g.no_suffix)); so = λ v e. abstract_inner e }

abbrev pub Parenthesised : List Name → Form → Form → List Word → ℕ → List ℕ → ℕ → Type 0
Parenthesised T f h words p ns k = Within (IsForm T f) AfterDeclarator p (drop p words) (InnerLine T h p ns) AfterDeclarator k (drop k words) (λ t. t)

tail_of : (words : List Word) {x : Word} {q k : ℕ} → IsAt x words q k → tail (drop q words) ≡ drop k words
tail_of words at = ap tail at.here

in_parentheses : (words : List Word) {T : List Name} {f : Form} (h : Form) {p q k : ℕ} {ns : List ℕ} → IsAt (mark OpenParen) words q k → IsInner T f h (drop k words) → Starred T f words p ns q → Within (IsForm T f) AfterDeclarator p (drop p words) (InnerRest T f p ns) AfterDeclarator k (drop k words) (λ t. t)
in_parentheses words {T = T} {f = f} h {p = p} {q = q} {k = k} {ns = ns} at inner from =
    word at (line_two (After (mark OpenParen) (InnerRest T f p ns)) (inner_into T f p ns q) (inner_back T f p ns q (drop q words) (ap head at.here) (λ may o. inner_shut may inner (subst (g.OpensParameters T) (tail_of words at) o))) (opens_inner T f h p ns q (drop q words) (drop k words) (ap head at.here) inner) from)

pub inner_core : (words : List Word) {T : List Name} {f : Form} {h : Form} {p q k : ℕ} {ns : List ℕ} → IsAt (mark OpenParen) words q k → IsInner T f h (drop k words) → Starred T f words p ns q → Parenthesised T f h words p ns k
inner_core words {T = T} {f = f} {h = h} {p = p} {k = k} {ns = ns} at inner from =
    line_where (InnerLine T h p ns) (IsSo T f h) (known_into T f h p ns k) (λ t u r e x y. known_back T f h p ns k (drop k words) inner t u r e x) (λ t x. absurd (line_full T h p ns k t [] x refl)) (λ v e. inner_moved v e inner) (known_some T f h p ns k (drop k words) inner) (in_parentheses words h at inner from)

paren_apart : (T : List Name) (s : ℕ) (ns : List ℕ) → Apart {A = tree.Declarator} (λ d. After (mark CloseParen) (Made (λ ts. tree.around s ns d ts) (g.IsSuffixes T))) AfterDeclarator AfterDeclarator
paren_apart T s ns d q t _ r (after x) e = (omega arith, refl, refl)

pub refuses_inner : (words : List Word) {T : List Name} (f h : Form) {p k n : ℕ} {ns : List ℕ} → Parenthesised T f h words p ns k → Refuses (IsForm T h) AfterDeclarator k (drop k words) n (drop n words) → Refuses (IsForm T f) AfterDeclarator p (drop p words) n (drop n words)
refuses_inner words {T = T} f h {p = p} {ns = ns} from one = refused (λ d q. (tree.around p ns d tree.no_suffixes, mark CloseParen ∷ [], after (made g.no_suffix))) (paren_apart T p ns) one from

pub misses_inner_end : (words : List Word) {T : List Name} (f h : Form) {p k n : ℕ} {ns : List ℕ} {d : tree.Declarator} → Parenthesised T f h words p ns k → Reads (IsForm T h) AfterDeclarator k (drop k words) d n (drop n words) → (head (drop n words) ≡ Some (mark CloseParen) → ⊥) → Refuses (IsForm T f) AfterDeclarator p (drop p words) n (drop n words)
misses_inner_end words {T = T} f h {p = p} {ns = ns} {d = d} from one other = missing (λ q. (tree.around p ns d tree.no_suffixes, [], made g.no_suffix)) other (part (paren_apart T p ns) one from)

pub inner_suffixes : (words : List Word) {T : List Name} (f h : Form) {p k n l : ℕ} {ns : List ℕ} {d : tree.Declarator} → Parenthesised T f h words p ns k → Reads (IsForm T h) AfterDeclarator k (drop k words) d n (drop n words) → IsAt (mark CloseParen) words n l → Suffixed T f words p l (λ ts. tree.around p ns d ts)
inner_suffixes words {T = T} f h {p = p} {ns = ns} {d = d} from one at = suffixed f (λ ts. tree.around p ns d ts) (word at (part (paren_apart T p ns) one from))

-- no core: suffixes that aren't empty
pub data FullNameless (T : List Name) (s : ℕ) (ns : List ℕ) : ℕ → tree.Declarator → List Word → Type 0 where
  full_nameless : {q : ℕ} {ts : tree.Suffixes} {u : List Word} → (u ≡ [] → ⊥) → g.IsSuffixes T q ts u → FullNameless T s ns q (tree.declarator s ns tree.absent_core ts) u

nameless_put : ℕ → List ℕ → tree.Suffixes → tree.Declarator
nameless_put s ns ts = tree.declarator s ns tree.absent_core ts

full_into : (T : List Name) (f : Form) (s : ℕ) (ns : List ℕ) (q : ℕ) → MayBeNameless f → Into (FullNameless T s ns) (IsStarred T f s ns) q
full_into T f s ns q may t u (full_nameless full ts) = nameless may (inr full) ts

begin_rank : (r : List Word) → BeginsSuffix (head r) → head_rank r < 14 → ⊥
begin_rank [] h e = elim h [ ]
begin_rank (_ ∷ v) by_bracket e = omega (arith, e)
begin_rank (_ ∷ v) by_paren e = omega (arith, e)

begin_name : {n : Name} → BeginsSuffix (Some (name n)) → ⊥
begin_name h = elim h [ ]

full_back : (T : List Name) (f : Form) (s : ℕ) (ns : List ℕ) (q : ℕ) (m : List Word) → BeginsSuffix (head m) → ((h : Form) (v : List Word) → head m ≡ Some (mark OpenParen) → head v ≡ head (tail m) → IsInner T f h v → ⊥) → BackTwo (FullNameless T s ns) (IsStarred T f s ns) AfterDeclarator q m
full_back T f s ns q m begins outer t _ r one two (with_name n has ts) e = absurd (begin_name (subst BeginsSuffix (sym one) begins))
full_back T f s ns q m begins outer t _ r one two (with_inner {h = h} d {v = v} {w = w} inner x ts) e =
    absurd (outer h v (sym one) (front_head v ((mark CloseParen ∷ w) ++ r) (λ e. form_full T h _ d v x e) ∙ ap head (sym (append_assoc v (mark CloseParen ∷ w) r)) ∙ two) inner)
full_back T f s ns q m begins outer t u r one two (nameless may full ts) e =
    full_nameless (λ none. begin_rank r (subst BeginsSuffix (sym one ∙ ap (λ z. head (z ++ r)) none) begins) e.0) ts

opens_case : (T : List Name) (s : ℕ) (ns : List ℕ) (q : ℕ) (o : Option Word) → BeginsSuffix o → (t : tree.Declarator) × (x : Word) × (v : List Word) × (Some x ≡ o) × FullNameless T s ns q t (x ∷ v)
unfolding nameless_put
opens_case T s ns q o by_bracket = (nameless_put s ns (tree.array_suffix q tree.no_expression tree.no_suffixes), mark OpenBracket, mark CloseBracket ∷ [], refl, full_nameless (λ e. cc e) (g.an_array {u = []} {v = []} g.no_length g.no_suffix))
opens_case T s ns q o by_paren = (nameless_put s ns (tree.function_suffix q tree.no_parameters tree.no_suffixes), mark OpenParen, mark CloseParen ∷ [], refl, full_nameless (λ e. cc e) (g.a_function {u = []} {v = []} g.no_parameter g.no_suffix))

full_full : (T : List Name) (s : ℕ) (ns : List ℕ) (q : ℕ) (t : tree.Declarator) (u : List Word) → FullNameless T s ns q t u → u ≡ [] → ⊥
full_full T s ns q t u (full_nameless full ts) e = full e

opens_full : (T : List Name) (s : ℕ) (ns : List ℕ) (q : ℕ) (m : List Word) → BeginsSuffix (head m) → Opens (FullNameless T s ns) AfterDeclarator q m
opens_full T s ns q m begins =
    let x = opens_case T s ns q (head m) begins in
    record {
      full = λ t d. full_full T s ns q t [] d refl;
      tree = x.0;
      words = x.1 ∷ x.2;
      starts = x.3;
      derived = x.4;
      ends = (omega arith, refl, refl);
    }

put_into : (T : List Name) (s : ℕ) (ns : List ℕ) (q : ℕ) → IntoWhere (Made (nameless_put s ns) (g.IsSuffixes T)) (FullNameless T s ns) (λ o. o ≡ None → ⊥) q
unfolding nameless_put
put_into T s ns q t u so (made ts) = full_nameless (λ e. so (ap head e)) ts

put_back : (T : List Name) (s : ℕ) (ns : List ℕ) (q : ℕ) → Into (FullNameless T s ns) (Made (nameless_put s ns) (g.IsSuffixes T)) q
unfolding nameless_put
put_back T s ns q t u (full_nameless full ts) = made ts

put_starts : (T : List Name) (s : ℕ) (ns : List ℕ) (q : ℕ) (m : List Word) → BeginsSuffix (head m) → Starts (Made (nameless_put s ns) (g.IsSuffixes T)) AfterDeclarator q m
put_starts T s ns q m begins =
    let x = opens_case T s ns q (head m) begins in
    record { tree = x.0; first = x.1; others = x.2; starts = x.3; derived = put_back T s ns q x.0 (x.1 ∷ x.2) x.4; ends = (omega arith, refl, refl) }

begins_some : {o : Option Word} → BeginsSuffix o → o ≡ None → ⊥
begins_some by_bracket e = cc e
begins_some by_paren e = cc e

-- a suffix stands there
with_suffix : (words : List Word) {T : List Name} {f : Form} {b : Bool} {p q : ℕ} {ns : List ℕ} → BeginsSuffix (head (drop q words)) → IsNameless T f b words q → ((h : Form) (v : List Word) → head (drop q words) ≡ Some (mark OpenParen) → head v ≡ head (tail (drop q words)) → IsInner T f h v → ⊥) → Starred T f words p ns q → Within (IsForm T f) AfterDeclarator p (drop p words) (Made (nameless_put p ns) (g.IsSuffixes T)) AfterDeclarator q (drop q words) (λ t. t)
with_suffix words {T = T} {f = f} {p = p} {q = q} {ns = ns} begins n outer from =
    line_starts (Made (nameless_put p ns) (g.IsSuffixes T)) (λ o. o ≡ None → ⊥) (put_into T p ns q) (λ t u r e x y. put_back T p ns q t u x) (begins_some begins) (put_starts T p ns q (drop q words) begins)
    (line_two (FullNameless T p ns) (full_into T f p ns q n.form) (full_back T f p ns q (drop q words) begins outer) (opens_full T p ns q (drop q words) begins) from)

-- none does
bare_into : (T : List Name) (f : Form) (s : ℕ) (ns : List ℕ) (q : ℕ) → MayBeNameless f → (ns ≡ [] → ⊥) → Into (Made (nameless_put s ns) (g.IsSuffixes T)) (IsStarred T f s ns) q
unfolding nameless_put
bare_into T f s ns q may full t u (made ts) = nameless may (inl full) ts

bare_back : (T : List Name) (f : Form) (s : ℕ) (ns : List ℕ) (q : ℕ) (m : List Word) → (BeginsSuffix (head m) → ⊥) → (HasName f → (n : Name) → head m ≡ Some (name n) → ⊥) → (t : tree.Declarator) (u r : List Word) → head (u ++ r) ≡ head m → IsStarred T f s ns q t u → Made (nameless_put s ns) (g.IsSuffixes T) q t u
unfolding nameless_put
bare_back T f s ns q m other unnamed t _ r e (with_name n has ts) = absurd (unnamed has n (sym e))
bare_back T f s ns q m other unnamed t _ r e (with_inner d inner x ts) = absurd (other (subst BeginsSuffix e by_paren))
bare_back T f s ns q m other unnamed t u r e (nameless may full ts) = made ts

suffix_or_not : (m : List Word) → BeginsSuffix (head m) ⊎ (BeginsSuffix (head m) → ⊥)
suffix_or_not [] = inr (λ h. elim h [ ])
suffix_or_not (mark OpenBracket ∷ v) = inl by_bracket
suffix_or_not (mark OpenParen ∷ v) = inl by_paren
suffix_or_not (x ∷ v) = inr (λ h. elim h [ ])

starred_or_not : (ns : List ℕ) → (tree.unstarred ns ≡ true) ⊎ (ns ≡ [] → ⊥)
starred_or_not [] = inl refl
starred_or_not (n ∷ ns) = inr (λ e. cc e)

outer_of : (words : List Word) {T : List Name} {f : Form} {b : Bool} {q : ℕ} → IsNameless T f b words q → (k : ℕ) → IsAt (mark OpenParen) words q k → (h : Form) (v : List Word) → head v ≡ head (tail (drop q words)) → IsInner T f h v → ⊥
outer_of words n k at h v e inner = n.outer k at h v (e ∙ ap head (tail_of words at)) inner

drop_tail : (q : ℕ) (words : List Word) → tail (drop q words) ≡ drop (suc q) words
drop_tail zero [] = refl
drop_tail zero (x ∷ words) = refl
drop_tail (suc q) [] = refl
drop_tail (suc q) (x ∷ words) = drop_tail q words

drop_within : {y : Word} (q : ℕ) (words : List Word) → head (drop q words) ≡ Some y → q < length words
drop_within {y = y} zero [] e = absurd (let h : None ≡ Some y = e in cc)
drop_within zero (x ∷ words) e = omega arith
drop_within {y = y} (suc q) [] e = absurd (let h : None ≡ Some y = e in cc)
drop_within (suc q) (x ∷ words) e = let h = drop_within q words e in omega (arith, h)

at_paren_place : (words : List Word) (q : ℕ) → head (drop q words) ≡ Some (mark OpenParen) → IsAt (mark OpenParen) words q (suc q)
at_paren_place words q e = record {
  here = cons_of (drop q words) (mark OpenParen) e ∙ ap (λ z. mark OpenParen ∷ z) (drop_tail q words);
  next = refl;
  within = drop_within q words e;
}

outer_paren : (words : List Word) {T : List Name} {f : Form} {b : Bool} (q : ℕ) → IsNameless T f b words q → head (drop q words) ≡ Some (mark OpenParen) → (h : Form) (v : List Word) → head v ≡ head (tail (drop q words)) → IsInner T f h v → ⊥
outer_paren words q n at h v e inner = outer_of words n (suc q) (at_paren_place words q at) h v e inner

nameless_case : (words : List Word) {T : List Name} {f : Form} {p q : ℕ} {ns : List ℕ} → IsNameless T f (tree.unstarred ns) words q → BeginsSuffix (head (drop q words)) ⊎ (BeginsSuffix (head (drop q words)) → ⊥) → (tree.unstarred ns ≡ true) ⊎ (ns ≡ [] → ⊥) → Starred T f words p ns q → Within (IsForm T f) AfterDeclarator p (drop p words) (Made (nameless_put p ns) (g.IsSuffixes T)) AfterDeclarator q (drop q words) (λ t. t)
nameless_case words {q = q} n (inl begins) stars from = with_suffix words begins n (λ h v at e inner. outer_paren words q n at h v e inner) from
nameless_case words n (inr other) (inl none) from = absurd (other (n.begins none))
nameless_case words {T = T} {f = f} {p = p} {q = q} {ns = ns} n (inr other) (inr full) from =
    line (Made (nameless_put p ns) (g.IsSuffixes T)) (bare_into T f p ns q n.form full) (λ t u r e x y. bare_back T f p ns q (drop q words) other n.unnamed t u r e x) from

pub nameless_core : (words : List Word) {T : List Name} {f : Form} {p q : ℕ} {ns : List ℕ} → IsNameless T f (tree.unstarred ns) words q → Starred T f words p ns q → Suffixed T f words p q (λ ts. tree.declarator p ns tree.absent_core ts)
unfolding nameless_put
nameless_core words {f = f} {p = p} {q = q} {ns = ns} n from = suffixed f (nameless_put p ns) (nameless_case words n (suffix_or_not (drop q words)) (starred_or_not ns) from)

-- nothing of a declarator
suffixes_begin : {T : List Name} {q : ℕ} {ts : tree.Suffixes} (u r : List Word) → g.IsSuffixes T q ts u → (u ≡ [] → ⊥) → BeginsSuffix (head (u ++ r))
suffixes_begin u r g.no_suffix full = absurd (full refl)
suffixes_begin u r (g.an_array l ts) full = by_bracket
suffixes_begin u r (g.a_function qs ts) full = by_paren

none_case : {T : List Name} {q : ℕ} {ts : tree.Suffixes} (ns : List ℕ) (u r : List Word) → g.IsSuffixes T q ts u → NotEmpty ns u → tree.unstarred ns ≡ true → (BeginsSuffix (head (u ++ r)) → ⊥) → ⊥
none_case [] u r ts (inl full) e other = full refl
none_case [] u r ts (inr full) e other = other (suffixes_begin u r ts full)
none_case (n ∷ ns) u r ts full e other = let h : false ≡ true = e in cc

none_at : (T : List Name) (f : Form) (s : ℕ) (ns : List ℕ) (words : List Word) (q : ℕ) → NoCore f (tree.unstarred ns) words q → (t : tree.Declarator) (u r : List Word) → head (u ++ r) ≡ head (drop q words) → IsStarred T f s ns q t u → ⊥
none_at T f s ns words q n t _ r e (with_name m has ts) = n.unnamed has m (sym e)
none_at T f s ns words q n t _ r e (with_inner d inner x ts) = n.paren (sym e)
none_at T f s ns words q n t u r e (nameless may full ts) = let k = n.named may in none_case ns u r ts full k.0 (λ h. k.1 (subst BeginsSuffix e h))

guarded_shut : {T : List Name} {h : Form} {v : List Word} → IsInner T Guarded h v → g.OpensParameters T v → ⊥
guarded_shut (guarded_inner shut) o = shut o

guarded_none : (T : List Name) (s : ℕ) (ns : List ℕ) (q : ℕ) (m : List Word) → g.OpensParameters T m → (t : tree.Declarator) (u r : List Word) → head (u ++ r) ≡ head m → InnerRest T Guarded s ns q t u → ⊥
guarded_none T s ns q m o t _ r e (inner_rest {h = h} d {v = v} {w = w} inner x ts) =
    guarded_shut inner (opens_moved v (front_head v ((mark CloseParen ∷ w) ++ r) (λ e. form_full T h _ d v x e) ∙ ap head (sym (append_assoc v (mark CloseParen ∷ w) r)) ∙ e) o)

guarded_back : (T : List Name) (s : ℕ) (ns : List ℕ) (q : ℕ) (t : tree.Declarator) (u r v : List Word) → u ++ r ≡ mark OpenParen ∷ v → IsStarred T Guarded s ns q t u → After (mark OpenParen) (InnerRest T Guarded s ns) q t u
guarded_back T s ns q t _ r v eq (with_name n has ts) = absurd cc
guarded_back T s ns q t _ r v eq (with_inner d inner x ts) = after (inner_rest d inner x ts)
guarded_back T s ns q t u r v eq (nameless may full ts) = elim may [ ]

some_guarded : (T : List Name) (s : ℕ) (ns : List ℕ) → Some' (InnerRest T Guarded s ns)
some_guarded T s ns q = let x = some_inner T Guarded Guarded s ns q (mark Star ∷ []) (guarded_inner (λ o. opens_unstarred o refl)) in (x.0, mark Star ∷ x.1, x.2)

stops_case : (words : List Word) {T : List Name} {f : Form} {p q k : ℕ} {ns : List ℕ} (b : Bool) → tree.unstarred ns ≡ b → Starred T f words p ns q → IsCoreless T f b words q k → Refuses (IsForm T f) AfterDeclarator p (drop p words) k (drop k words)
stops_case words {T = T} {f = f} {p = p} {q = q} {ns = ns} b e from (at_once n) =
    nothing (λ k. let x = starred_completes T f p ns k in (x.0, x.1, x.2)) (λ t u r h x y. none_at T f p ns words q (subst (λ z. NoCore f z words q) (sym e) n) t u r h x) from
stops_case words {T = T} {p = p} {q = q} {ns = ns} b e from (inside {k = k} at o) =
    nothing (some_guarded T p ns) (λ t u r h x y. guarded_none T p ns k (drop k words) o t u r h x) (word at (line_at (mark OpenParen) (After (mark OpenParen) (InnerRest T Guarded p ns)) (ap head at.here) (inner_into T Guarded p ns q) (λ t u r v eq x y. guarded_back T p ns q t u r v eq x) from))

pub core_stops : (words : List Word) {T : List Name} {f : Form} {p q : ℕ} {ns : List ℕ} (b : Bool) → tree.unstarred ns ≡ b → Starred T f words p ns q → (stop : Stop) → StopsCore T f b words q stop → StopsAt (IsForm T f) AfterDeclarator words p stop
core_stops words b e from Memory h = tt
core_stops words b e from (Syntax k) h = stops_case words b e from h

-- how the core begins
pub is_name : (T : List Name) (b : Bool) {f : Form} {words : List Word} {q : ℕ} {core : cs.CoreStart} {n : Bor Name} {k : ℕ} → core ≡ c.Name n k → IsCore T f b words q core → HasName f × IsAt (name n.now) words q k
is_name T b {f = f} {words = words} {q = q} e h = subst (IsCore T f b words q) e h

pub is_inner : (T : List Name) (b : Bool) {f : Form} {words : List Word} {q : ℕ} {core : cs.CoreStart} {h : Form} {k : ℕ} → core ≡ c.Inner h k → IsCore T f b words q core → IsAt (mark OpenParen) words q k × IsInner T f h (drop k words)
is_inner T b {f = f} {words = words} {q = q} e h = subst (IsCore T f b words q) e h

pub is_nothing : {T : List Name} {f : Form} {b b' : Bool} {words : List Word} {q : ℕ} {core : cs.CoreStart} → core ≡ c.Nothing → b' ≡ b → IsCore T f b words q core → IsNameless T f b' words q
is_nothing {T = T} {f = f} {b = b} {words = words} {q = q} e same h = subst (λ z. IsNameless T f z words q) (sym same) (subst (IsCore T f b words q) e h)
