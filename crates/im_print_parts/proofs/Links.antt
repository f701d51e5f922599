-- A chain of indices, calls, casts and commas: its links from the outermost one on.
use denote.Bor.{Bor}
use Rattle.std.specs.Prelude.{⊤}
use Rattle.std.proofs.Common.{◌≡◌, ◌≤◌, ℕ, List, [], ◌∷◌, ◌++◌, sym, ap, subst, ◌∙◌, append_assoc, append-nil}
use Rattle.im_word.specs.Words.{Name, Word}
use Rattle.im_ctree.specs.declared.expression.Expression.{Expression, size-Expression}
use Rattle.im_ctree.specs.Tree as t
use Rattle.im_ctree_parts.specs.Lists.{expression_in}
use Rattle.im_print_relation.specs.Printed as printed
use Rattle.im_print_parts.specs.Output.{spaced, Writes}
use Rattle.im_print_parts.specs.Parts.{before_first, behind_first}
use Rattle.im_print_parts.proofs.Writing.{written}

-- what stands behind the links, from the innermost one on
abbrev pub behind : List Name → List (Bor Expression) → List Word
behind T [] = []
behind T (x ∷ xs) = behind T xs ++ behind_first T (expression_in x.now)

behind_more : (T : List Name) (xs : List (Bor Expression)) (x : Bor Expression) → behind T (xs ++ x ∷ []) ≡ behind_first T (expression_in x.now) ++ behind T xs
behind_more T [] x = sym (append-nil (behind_first T (expression_in x.now)))
behind_more T (y ∷ ys) x = ap (λ z. z ++ behind_first T (expression_in y.now)) (behind_more T ys x) ∙ append_assoc (behind_first T (expression_in x.now)) (behind T ys) (behind_first T (expression_in y.now))

-- no link is deeper than this
abbrev pub NoneDeeper : ℕ → List (Bor Expression) → Type 0
NoneDeeper n [] = ⊤
NoneDeeper n (x ∷ xs) = (size-Expression x.now ≤ n) × NoneDeeper n xs

deeper_more : (n : ℕ) (xs : List (Bor Expression)) (x : Bor Expression) → NoneDeeper n xs → size-Expression x.now ≤ n → NoneDeeper n (xs ++ x ∷ [])
deeper_more n [] x all one = (one, tt)
deeper_more n (y ∷ ys) x all one = (all.0, deeper_more n ys x all.1 one)

deeper_less : (n : ℕ) (xs : List (Bor Expression)) (x : Bor Expression) → NoneDeeper n (xs ++ x ∷ []) → (size-Expression x.now ≤ n) × NoneDeeper n xs
deeper_less n [] x all = (all.0, tt)
deeper_less n (y ∷ ys) x all = let rest = deeper_less n ys x all.1 in (rest.0, (all.0, rest.1))

pub none_deeper_more : (n : ℕ) (xs ys : List (Bor Expression)) (x : Bor Expression) → ys ≡ xs ++ x ∷ [] → NoneDeeper n xs → size-Expression x.now ≤ n → NoneDeeper n ys
none_deeper_more n xs ys x more all one = subst (NoneDeeper n) (sym more) (deeper_more n xs x all one)

pub none_deeper_less : (n : ℕ) (xs ys : List (Bor Expression)) (x : Bor Expression) → ys ≡ xs ++ x ∷ [] → NoneDeeper n ys → (size-Expression x.now ≤ n) × NoneDeeper n xs
none_deeper_less n xs ys x less all = deeper_less n xs x (subst (NoneDeeper n) less all)

-- one link more: what stands before its operand was written
pub link_down : {a b : List ℕ} (T : List Name) (xs ys : List (Bor Expression)) (x : Bor Expression) (first : t.Expression)
    → ys ≡ xs ++ x ∷ []
    → printed.expression T (expression_in x.now) ≡ before_first T (expression_in x.now) ++ (printed.expression T first ++ behind_first T (expression_in x.now))
    → Writes a b (before_first T (expression_in x.now))
    → b ++ spaced (printed.expression T first ++ behind T ys) ≡ a ++ spaced (printed.expression T (expression_in x.now) ++ behind T xs)
link_down {a = a} T xs ys x first more words w =
    let before = before_first T (expression_in x.now) in
    let u = printed.expression T first in
    let after = behind_first T (expression_in x.now) in
    written (u ++ behind T ys) w
    ∙ ap (λ z. a ++ spaced (before ++ (u ++ z))) (ap (behind T) more ∙ behind_more T xs x)
    ∙ sym (ap (λ z. a ++ spaced (z ++ behind T xs)) words
    ∙ ap (λ z. a ++ spaced z) (append_assoc before (u ++ after) (behind T xs) ∙ ap (λ z. before ++ z) (append_assoc u after (behind T xs))))

-- one link less: what stands behind its operand was written
pub link_up : {a b : List ℕ} (T : List Name) (xs ys : List (Bor Expression)) (x : Bor Expression)
    → ys ≡ xs ++ x ∷ []
    → Writes a b (behind_first T (expression_in x.now))
    → b ++ spaced (behind T xs) ≡ a ++ spaced (behind T ys)
link_up {a = a} T xs ys x less w = written (behind T xs) w ∙ sym (ap (λ z. a ++ spaced z) (ap (behind T) less ∙ behind_more T xs x))
