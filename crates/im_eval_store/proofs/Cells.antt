-- Cells by their offsets.
use Rattle.std.proofs.Common.{◌≡◌, ℕ, zero, suc, ◌<◌, ◌==◌, List, [], ◌∷◌, ◌++◌, get_or, drop, length, refl, sym, ap, ◌∙◌, arith}
use Rattle.std.specs.Prelude.{Option, Some, None, if◌then◌else◌, set}
use Rattle.std.proofs.lemmas.Bool.{eqb-true, eqb-false}
use Rattle.std.proofs.lemmas.List.{get_or-set_same, get_or-set_other}
use Rattle.im_num.specs.declared.kind.Kind.{Kind}
use Rattle.im_ctype.specs.declared.cell.Cell.{Cell}
use Rattle.im_store.specs.Objects.{kind_at}
use Rattle.im_eval_store.specs.Plans.{kind_from}
use Rattle.im_eval_store.proofs.Finding.{if-true, if-false, by-test}

-- one more that is as what stands past the end
pub pushed-default : {A : Type 0} (xs : List A) (d : A) (i : ℕ) → get_or (xs ++ d ∷ []) i d ≡ get_or xs i d
pushed-default [] d zero = refl
pushed-default [] d (suc i) = refl
pushed-default (x ∷ xs) d zero = refl
pushed-default (x ∷ xs) d (suc i) = pushed-default xs d i

pub kind-set : (xs ys : List (Option Kind)) (cell : Cell) → cell.offset < length ys → ((i : ℕ) → get_or ys i None ≡ get_or xs i None)
    → (i : ℕ) → get_or (set ys cell.offset (Some cell.kind)) i None ≡ kind_from cell (get_or xs i None) i
kind-set xs ys cell lt h i =
    by-test (cell.offset == i)
    (λ t.
    ap (λ k. get_or (set ys cell.offset (Some cell.kind)) k None) (sym (eqb-true cell.offset i t))
    ∙ get_or-set_same ys cell.offset (Some cell.kind) None lt
    ∙ sym (if-true (cell.offset == i) (Some cell.kind) (get_or xs i None) t))
    (λ t.
    get_or-set_other ys cell.offset i (Some cell.kind) None (λ e. eqb-false cell.offset i t (sym e))
    ∙ h i
    ∙ sym (if-false (cell.offset == i) (Some cell.kind) (get_or xs i None) t))

-- one cell more in front
pub kind-step : (cells : List Cell) (n : ℕ) (cell : Cell) (i : ℕ) → n < length cells → cell ≡ get_or cells n cell → kind_at (drop n cells) i ≡ kind_from cell (kind_at (drop (suc n) cells) i) i
kind-step [] n cell i lt e = absurd (omega arith)
kind-step (c ∷ cs) zero cell i lt e = ap (λ (x : Cell). if x.offset == i then Some x.kind else kind_at cs i) (sym e)
kind-step (c ∷ cs) (suc n) cell i lt e = kind-step cs n cell i (omega arith) e
