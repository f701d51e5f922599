-- Labels of a switch: they stand in its block, and differ.
use Rattle.std.proofs.Common.{◌≡◌, ℕ, suc, ◌+◌, ◌≤◌, ◌||◌, List, [], ◌∷◌, ◌++◌, Bool, true, false, refl, sym, ap, ◌∙◌, subst, arith}
use Rattle.std.specs.Prelude.{Option, Some, None, ℤ, not, if◌then◌else◌}
use Rattle.std.specs.Ordering.{int_eq}
use Rattle.std.proofs.lemmas.Cmp.{int_eq_equiv}
use Rattle.im_num.specs.Kinds.{IsOfKind}
use Rattle.im_num.proofs.Wrapping.{wrap-of_kind}
use Rattle.im_ctype.specs.declared.integer.Integer.{Integer}
use Rattle.im_ctype.specs.Types.{kind_of}
use Rattle.im_typed.specs.declared.statement.Case.{Case}
use Rattle.im_typed.specs.Program.{Access, Stmts, no_stmts, more_stmts, Prog, Func}
use Rattle.im_typed.specs.Typing.{Each, is_label, AreLabels, statements_in, AreTyped}
use Rattle.im_rules.specs.Rules.{is_among, rule_15}
use Rattle.im_rules.specs.Statements.{label_value, differs, appended, count_stmts, first_of, otherwise_of, Cases}

pub or-none : (x y : Bool) → (x || y) ≡ false → (x ≡ false) × (y ≡ false)
or-none true y e = absurd (cc)
or-none false y e = (refl, e)

not-none : (b : Bool) → not b ≡ true → b ≡ false
not-none true e = absurd (cc)
not-none false e = refl

-- counts

pub count-same : (us : Stmts) → count_stmts us ≡ statements_in us
count-same no_stmts = refl
count-same (more_stmts u us) = ap suc (count-same us)

pub count-appended : (us vs : Stmts) → count_stmts (appended us vs) ≡ count_stmts us + count_stmts vs
count-appended no_stmts vs = omega arith
count-appended (more_stmts u us) vs = let h = count-appended us vs in omega (arith, h)

pub typed-appended : (g : Prog) (f : Func) (b k : Bool) (us vs : Stmts) → AreTyped g f b k us → AreTyped g f b k vs → AreTyped g f b k (appended us vs)
typed-appended g f b k no_stmts vs h q = q
typed-appended g f b k (more_stmts u us) vs h q = (h.0, typed-appended g f b k us vs h.1 q)

abbrev pub AtMost : ℕ → Option ℕ → Type 0
AtMost most None = Unit {0}
AtMost most (Some n) = n ≤ most

pub first-at-most : (most : ℕ) (m n : Option ℕ) → AtMost most m → AtMost most n → AtMost most (first_of m n)
first-at-most most None n h k = k
first-at-most most (Some m) n h k = h

pub otherwise-at-most : (most : ℕ) (k : Cases) → count_stmts k.statements ≤ most → AtMost most k.otherwise → otherwise_of k ≤ most
otherwise-at-most most k le h = by-place k.otherwise refl h
  where
    by-place : (o : Option ℕ) → k.otherwise ≡ o → AtMost most o → otherwise_of k ≤ most
    by-place None e a = subst (λ o. otherwise_of (record k { otherwise = o }) ≤ most) (sym e) le
    by-place (Some n) e a = subst (λ o. otherwise_of (record k { otherwise = o }) ≤ most) (sym e) a

-- labels that differ from numbers, and from one another

abbrev pub AreFresh : List ℤ → List Case → Type 0
AreFresh before ks = Each {A = Case} (λ k. is_among k.value before ≡ false) ks

abbrev pub IsApart : ℤ → List Case → Type 0
IsApart z ks = Each {A = Case} (λ k. int_eq z k.value ≡ false) ks

-- what isn't among the later numbers isn't among the earlier ones, and is no value of these labels
abbrev pub Covers : List ℤ → List ℤ → List Case → Type 0
Covers behind before ks = (z : ℤ) → is_among z behind ≡ false → (is_among z before ≡ false) × IsApart z ks

pub no-label-apart : (z : ℤ) (ks : List Case) → IsApart z ks → is_label z ks ≡ false
no-label-apart z [] h = refl
no-label-apart z (k ∷ ks) h = ap (λ b. if b then true else is_label z ks) h.0 ∙ no-label-apart z ks h.1

apart-label : (z : ℤ) (ks ls : List Case) → is_label z ks ≡ false → IsApart z ls → is_label z (ks ++ ls) ≡ false
apart-label z [] ls h a = no-label-apart z ls a
apart-label z (k ∷ ks) ls h a = by-test (int_eq z k.value) h (λ e. apart-label z ks ls e a)
  where
    by-test : (b : Bool) → (if b then true else is_label z ks) ≡ false → (is_label z ks ≡ false → is_label z (ks ++ ls) ≡ false) → (if b then true else is_label z (ks ++ ls)) ≡ false
    by-test true e later = absurd (cc)
    by-test false e later = later e

-- each of the others is apart from a label
turned : (z : ℤ) (ls : List Case) → Each {A = Case} (λ l. int_eq l.value z ≡ false) ls → IsApart z ls
turned z [] h = tt
turned z (l ∷ ls) h = (int_eq_equiv.symm z l.value ∙ h.0, turned z ls h.1)

heads : (k : Case) (ks ls : List Case) → Each {A = Case} (λ l. IsApart l.value (k ∷ ks)) ls → Each {A = Case} (λ l. int_eq l.value k.value ≡ false) ls
heads k ks [] h = tt
heads k ks (l ∷ ls) h = (h.0.0, heads k ks ls h.1)

tails : (k : Case) (ks ls : List Case) → Each {A = Case} (λ l. IsApart l.value (k ∷ ks)) ls → Each {A = Case} (λ l. IsApart l.value ks) ls
tails k ks [] h = tt
tails k ks (l ∷ ls) h = (h.0.1, tails k ks ls h.1)

pub labels-append : (shape : Option Access) (most : ℕ) (ks ls : List Case) → AreLabels shape most ks → AreLabels shape most ls → Each {A = Case} (λ l. IsApart l.value ks) ls → AreLabels shape most (ks ++ ls)
labels-append shape most [] ls h q a = q
labels-append shape most (k ∷ ks) ls h q a =
    (h.0, h.1, apart-label k.value ks ls h.2 (turned k.value ls (heads k ks ls a)), labels-append shape most ks ls h.3 q (tails k ks ls a))

-- fresh labels, of numbers that cover

pub fresh-behind : (behind before : List ℤ) (ks ls : List Case) → Covers behind before ks → AreFresh behind ls → Each {A = Case} (λ l. IsApart l.value ks) ls
fresh-behind behind before ks [] c h = tt
fresh-behind behind before ks (l ∷ ls) c h = ((c l.value h.0).1, fresh-behind behind before ks ls c h.1)

pub fresh-before : (behind before : List ℤ) (ks ls : List Case) → Covers behind before ks → AreFresh behind ls → AreFresh before ls
fresh-before behind before ks [] c h = tt
fresh-before behind before ks (l ∷ ls) c h = ((c l.value h.0).0, fresh-before behind before ks ls c h.1)

pub fresh-append : (before : List ℤ) (ks ls : List Case) → AreFresh before ks → AreFresh before ls → AreFresh before (ks ++ ls)
fresh-append before [] ls h q = q
fresh-append before (k ∷ ks) ls h q = (h.0, fresh-append before ks ls h.1 q)

-- fresh beside one number more

pub fresh-first : (z : ℤ) (before : List ℤ) (ks : List Case) → AreFresh (z ∷ before) ks → IsApart z ks
fresh-first z before [] h = tt
fresh-first z before (k ∷ ks) h =
    let none = or-none (int_eq k.value z) (is_among k.value before) h.0 in
    (int_eq_equiv.symm z k.value ∙ none.0, fresh-first z before ks h.1)

pub fresh-rest : (z : ℤ) (before : List ℤ) (ks : List Case) → AreFresh (z ∷ before) ks → AreFresh before ks
fresh-rest z before [] h = tt
fresh-rest z before (k ∷ ks) h = ((or-none (int_eq k.value z) (is_among k.value before) h.0).1, fresh-rest z before ks h.1)

-- the value of a label

pub label-of-kind : (i : Integer) (v : Option ℤ) → rule_15 v ≡ true → IsOfKind (kind_of i) (label_value i v)
label-of-kind i None e = absurd (cc)
label-of-kind i (Some z) e = wrap-of_kind (kind_of i) z

pub label-differs : (i : Integer) (v : Option ℤ) (before : List ℤ) → rule_15 v ≡ true → differs i v before ≡ true → is_among (label_value i v) before ≡ false
label-differs i None before e d = absurd (cc)
label-differs i (Some z) before e d = not-none (is_among (label_value i (Some z)) before) d
