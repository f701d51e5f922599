-- Lists of lines as they grow.
use Rattle.std.proofs.Common.{◌≡◌, ℕ, suc, ◌+◌, ◌<◌, ◌≤◌, Bool, List, [], ◌∷◌, ◌++◌, Option, length, drop, get_or, refl, sym, ap, ◌∙◌, append_assoc, arith}
use Rattle.std.proofs.lemmas.List.{append-nil, drop_more, drop_all}
use Rattle.im_rv.specs.declared.code.Line.{Line as RustLine}
use Rattle.im_rv.specs.Lines.{CodeLine, code_line, code_lines}
use Rattle.im_store.specs.Objects.{Name}
use Rattle.im_block.specs.declared.code.Line.{Line}
use Rattle.im_select.specs.declared.folding.Constant.{Constant}
use Rattle.im_select.specs.Emitted.{passed_by, way_code, lines_code, Laying, laid_block, laid_code}

-- a line is put, and the others are left
pub lines_grown : (at : Name → ℕ) (m : ℕ → ℕ) (needed : ℕ → ℕ → Bool) (before passed : Option Constant) (old now new : List CodeLine) (xs : List Line) (k : ℕ) (d : Line) → k < length xs → now ++ lines_code at m needed before k (drop k xs) ≡ old → passed ≡ passed_by (needed (k + 1)) (get_or xs k d) (drop (k + 1) xs) → new ≡ now ++ way_code at (m k) passed before (get_or xs k d) → new ++ lines_code at m needed passed (k + 1) (drop (k + 1) xs) ≡ old
lines_grown at m needed before passed old now new xs k d l a e b =
    let line : Line = get_or xs k d in
    let rest : List Line = drop (k + 1) xs in
    let q : k + 1 ≡ suc k = omega arith in
    let own : List CodeLine = way_code at (m k) passed before line in
    ap (λ z. z ++ lines_code at m needed passed (k + 1) rest) b ∙ append_assoc now own (lines_code at m needed passed (k + 1) rest) ∙ ap (λ z. now ++ (own ++ lines_code at m needed passed z rest)) q
    ∙ ap (λ z. now ++ (way_code at (m k) z before line ++ lines_code at m needed z (suc k) rest)) (e ∙ ap (λ z. passed_by (needed z) line rest) q)
    ∙ ap (λ z. now ++ lines_code at m needed before k z) (sym (drop_more xs k d l)) ∙ a

pub lines_done : (at : Name → ℕ) (m : ℕ → ℕ) (needed : ℕ → ℕ → Bool) (before : Option Constant) (old now : List CodeLine) (xs : List Line) (k : ℕ) → length xs ≤ k → now ++ lines_code at m needed before k (drop k xs) ≡ old → now ≡ old
lines_done at m needed before old now xs k l a = sym (append-nil now) ∙ ap (λ z. now ++ lines_code at m needed before k z) (sym (drop_all k xs l)) ∙ a

-- a block is put, and the others are left
pub laid_grown : (laying : Laying) (old now new : List CodeLine) (order : List ℕ) (k d : ℕ) → k < length order → now ++ laid_code laying (drop k order) ≡ old → new ≡ now ++ laid_block laying (get_or order k d) (drop (k + 1) order) → new ++ laid_code laying (drop (k + 1) order) ≡ old
laid_grown laying old now new order k d l a b =
    let own : List CodeLine = laid_block laying (get_or order k d) (drop (k + 1) order) in
    let rest : List CodeLine = laid_code laying (drop (k + 1) order) in
    ap (λ z. z ++ rest) b ∙ append_assoc now own rest ∙ ap (λ z. now ++ laid_code laying z) (sym (drop_more order k d l)) ∙ a

pub none_left : (laying : Laying) (old now : List CodeLine) (order : List ℕ) (k : ℕ) → length order ≤ k → now ++ laid_code laying (drop k order) ≡ old → now ≡ old
none_left laying old now order k l a = sym (append-nil now) ∙ ap (λ z. now ++ laid_code laying z) (sym (drop_all k order l)) ∙ a

pub lines_append : (xs ys : List RustLine) → code_lines (xs ++ ys) ≡ code_lines xs ++ code_lines ys
lines_append [] ys = refl
lines_append (x ∷ xs) ys = ap (λ z. code_line x ∷ z) (lines_append xs ys)

pub lines_length : (xs : List RustLine) → length (code_lines xs) ≡ length xs
lines_length [] = refl
lines_length (x ∷ xs) = let h = lines_length xs in omega arith
