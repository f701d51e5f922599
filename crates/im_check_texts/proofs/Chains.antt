-- A chain of indices, calls, casts and commas: its links from the outermost one on.
use denote.Bor.{Bor}
use Rattle.std.specs.Prelude.{⊤}
use Rattle.std.proofs.Common.{◌≡◌, ◌≤◌, ℕ, List, [], ◌∷◌, ◌++◌, sym, ap, subst, ◌∙◌, append_assoc, append-nil}
use Rattle.im_check_texts.specs.im_word.Words.{Name}
use Rattle.im_ctree.specs.declared.expression.Expression.{Expression, size-Expression}
use Rattle.im_ctree.specs.Tree as t
use Rattle.im_ctree_parts.specs.Lists.{expression_in}
use Rattle.im_check_texts.specs.im_rules.Strings as s
use Rattle.im_check_string_numbers.specs.Chains.{before_first, behind_first}

-- what stands behind the links, from the innermost one on
abbrev pub behind : List (Bor Expression) → List Name
behind [] = []
behind (x ∷ xs) = behind xs ++ behind_first (expression_in x.now)

behind_more : (xs : List (Bor Expression)) (x : Bor Expression) → behind (xs ++ x ∷ []) ≡ behind_first (expression_in x.now) ++ behind xs
behind_more [] x = sym (append-nil (behind_first (expression_in x.now)))
behind_more (y ∷ ys) x = ap (λ z. z ++ behind_first (expression_in y.now)) (behind_more ys x) ∙ append_assoc (behind_first (expression_in x.now)) (behind ys) (behind_first (expression_in y.now))

-- no link is deeper than this
abbrev pub NoneDeeper : ℕ → List (Bor Expression) → Type 0
NoneDeeper n [] = ⊤
NoneDeeper n (x ∷ xs) = (size-Expression x.now ≤ n) × NoneDeeper n xs

deeper_more : (n : ℕ) (xs : List (Bor Expression)) (x : Bor Expression) → NoneDeeper n xs → size-Expression x.now ≤ n → NoneDeeper n (xs ++ x ∷ [])
deeper_more n [] x all one = (one, tt)
deeper_more n (y ∷ ys) x all one = (all.0, deeper_more n ys x all.1 one)

deeper_less : (n : ℕ) (xs : List (Bor Expression)) (x : Bor Expression) → NoneDeeper n (xs ++ x ∷ []) → (size-Expression x.now ≤ n) × NoneDeeper n xs
deeper_less n [] x all = (all.0, tt)
deeper_less n (y ∷ ys) x all = let rest = deeper_less n ys x all.1 in (rest.0, (all.0, rest.1))

pub none_deeper_more : (n : ℕ) (xs ys : List (Bor Expression)) (x : Bor Expression) → ys ≡ xs ++ x ∷ [] → NoneDeeper n xs → size-Expression x.now ≤ n → NoneDeeper n ys
none_deeper_more n xs ys x more all one = subst (NoneDeeper n) (sym more) (deeper_more n xs x all one)

pub none_deeper_less : (n : ℕ) (xs ys : List (Bor Expression)) (x : Bor Expression) → ys ≡ xs ++ x ∷ [] → NoneDeeper n ys → (size-Expression x.now ≤ n) × NoneDeeper n xs
none_deeper_less n xs ys x less all = deeper_less n xs x (subst (NoneDeeper n) less all)

-- one link more: what stands before its operand was appended
pub link_down : (a b : List Name) (xs ys : List (Bor Expression)) (x : Bor Expression) (first : t.Expression)
    → ys ≡ xs ++ x ∷ []
    → s.strings_in (expression_in x.now) ≡ before_first (expression_in x.now) ++ (s.strings_in first ++ behind_first (expression_in x.now))
    → b ≡ a ++ before_first (expression_in x.now)
    → b ++ (s.strings_in first ++ behind ys) ≡ a ++ (s.strings_in (expression_in x.now) ++ behind xs)
link_down a b xs ys x first more told appended =
    let before = before_first (expression_in x.now) in
    let u = s.strings_in first in
    let after = behind_first (expression_in x.now) in
    ap (λ z. z ++ (u ++ behind ys)) appended
    ∙ append_assoc a before (u ++ behind ys)
    ∙ ap (λ z. a ++ (before ++ (u ++ z))) (ap behind more ∙ behind_more xs x)
    ∙ sym (ap (λ z. a ++ (z ++ behind xs)) told
    ∙ ap (λ z. a ++ z) (append_assoc before (u ++ after) (behind xs) ∙ ap (λ z. before ++ z) (append_assoc u after (behind xs))))

-- one link less: what stands behind its operand was appended
pub link_up : (a b : List Name) (xs ys : List (Bor Expression)) (x : Bor Expression)
    → ys ≡ xs ++ x ∷ []
    → b ≡ a ++ behind_first (expression_in x.now)
    → b ++ behind xs ≡ a ++ behind ys
link_up a b xs ys x less appended =
    ap (λ z. z ++ behind xs) appended
    ∙ append_assoc a (behind_first (expression_in x.now)) (behind xs)
    ∙ sym (ap (λ z. a ++ z) (ap behind less ∙ behind_more xs x))

-- the last one was appended
pub formed : (a b xs : List Name) (links : List (Bor Expression)) → b ≡ a ++ xs → b ++ behind links ≡ a ++ (xs ++ behind links)
formed a b xs links appended = ap (λ z. z ++ behind links) appended ∙ append_assoc a xs (behind links)
