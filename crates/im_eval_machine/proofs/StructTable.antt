-- The cells of all structs of a table, as they are listed.
use Rattle.std.proofs.Common.{◌≡◌, ℕ, zero, suc, List, [], ◌∷◌, map, length, refl, arith}
use Rattle.std.specs.Prelude.{Some, slice_get, Vec}
use Rattle.std.specs.declared.alloc.Global.{Global}
use Rattle.im_ctype.specs.declared.cell.Cell.{Cell}
use Rattle.im_ctype.specs.Layout.{Layout, layout_at}
use Rattle.im_eval_machine.specs.Settings.{cells_at}

pub found-cells : (ls : List Layout) (vs : List (Vec Cell Global)) → length vs ≡ length ls → ((k : ℕ) (v : Vec Cell Global) → slice_get vs k ≡ Some v → v.items ≡ (layout_at ls k).cells)
    → (n : ℕ) → cells_at (slice_get (map {A = Vec Cell Global} (λ v. v.items) vs) n) ≡ (layout_at ls n).cells
found-cells [] [] e each n = refl
found-cells [] (v ∷ vs) e each n = absurd (cc)
found-cells (l ∷ ls) [] e each n = absurd (cc)
found-cells (l ∷ ls) (v ∷ vs) e each zero = each 0 v refl
found-cells (l ∷ ls) (v ∷ vs) e each (suc n) = found-cells ls vs (omega (arith, e)) (λ k. each (suc k)) n
