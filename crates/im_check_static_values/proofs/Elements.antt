-- The cells of elements side by side.
use Rattle.std.proofs.Common.{◌≡◌, ℕ, ◌+◌, List, ◌++◌, sym, ap, ◌∙◌, add-one, append_assoc}
use Rattle.im_ctype.specs.declared.cell.Cell.{Cell}
use Rattle.im_ctype.specs.Layout.{Layout, moved, repeated}

-- one element, and those behind it
pub first_element : (at n m : ℕ) (e : Layout) → n ≡ m + 1 → repeated at n e ≡ moved at e.cells ++ repeated (at + e.size) m e
first_element at n m e h = ap (λ k. repeated at k e) (h ∙ add-one m)

pub elements : (l : Layout) (n s : ℕ) (cs : List Cell) → s ≡ l.size → cs ≡ l.cells → repeated 0 n (record { size = s; align = l.align; cells = cs }) ≡ repeated 0 n l
elements l n s cs e f =
    ap (λ k. repeated 0 n (record { size = k; align = l.align; cells = cs })) e
    ∙ ap (λ ds. repeated 0 n (record { size = l.size; align = l.align; cells = ds })) f

-- one element more is listed
pub element_more : (done now : List Cell) (at next n m : ℕ) (e : Layout) (whole : List Cell) → n ≡ m + 1 → next ≡ at + e.size → now ≡ done ++ moved at e.cells
    → done ++ repeated at n e ≡ whole → now ++ repeated next m e ≡ whole
element_more done now at next n m e whole h f g so_far =
    ap (λ xs. xs ++ repeated next m e) g
    ∙ append_assoc done (moved at e.cells) (repeated next m e)
    ∙ ap (λ k. done ++ (moved at e.cells ++ repeated k m e)) f
    ∙ ap (λ xs. done ++ xs) (sym (first_element at n m e h))
    ∙ so_far
