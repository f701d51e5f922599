-- A static is its name, its bytes, its cells and their first values.
use Rattle.std.proofs.Common.{◌≡◌, ℕ, List, ap, ◌∙◌}
use Rattle.im_ctype.specs.declared.cell.Cell.{Cell}
use Rattle.im_store.specs.Objects.{Value}
use Rattle.im_store.specs.Statics.{StaticObject}

abbrev pub of_parts : List ℕ → ℕ → List Cell → List Value → StaticObject
of_parts name size cells first = record { name = name; size = size; cells = cells; first = first }

pub same_parts : (name other : List ℕ) (size bytes : ℕ) (cells parts : List Cell) (first values : List Value) → name ≡ other → size ≡ bytes → cells ≡ parts → first ≡ values → of_parts name size cells first ≡ of_parts other bytes parts values
same_parts name other size bytes cells parts first values en es ec ef =
    ap (λ x. of_parts x size cells first) en ∙ ap (λ x. of_parts other x cells first) es
    ∙ ap (λ x. of_parts other bytes x first) ec ∙ ap (λ x. of_parts other bytes parts x) ef
