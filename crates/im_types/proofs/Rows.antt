-- The row of a function type's parameters is the vector that it was made of.
use Rattle.std.proofs.Common.{◌≡◌, refl, ap, ◌∙◌, Vec, Box, Global}
use mathlib.Core.Former.{Count}
use Rattle.im_ctype.specs.Types.{function, more_types}
use Rattle.im_types.specs.declared.tree.Type as rust
use Rattle.im_types.specs.Shape.{type_of, types_of, types_in}

abbrev row_in : rust.Type → (n : Count) × rust.Row_of-Type n
row_in (rust.Function' b r _ row) = (_, row)
row_in _ = (_, rust.end_of-Type)

types_row : (n : _) (row : rust.Row_of-Type n) → types_of row ≡ types_in (rust.items-the_row-Type n row)
types_row n rust.end_of-Type = refl
types_row n (rust.more_of-Type t rest) = ap (λ z. more_types (type_of t) z) (types_row _ rest)

pub function-of : (r : Box rust.Type Global) (ps : Vec rust.Type Global) → type_of (rust.Function r ps) ≡ function (type_of r.value) (types_in ps.items)
function-of r ps =
    let row = row_in (rust.Function r ps) in
    ap (λ z. function (type_of r.value) z) (types_row row.0 row.1 ∙ ap types_in (rust.items_hidden-the_row-Type-0 ps))
