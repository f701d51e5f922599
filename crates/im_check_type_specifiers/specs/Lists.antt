-- Counting among specifiers. Private contracts alone speak of this.
use Rattle.std.specs.Prelude.{ℕ, Bool, List, ◌∷◌, if◌then◌else◌}
use Rattle.im_ctree.specs.Tree as t

abbrev pub one_if : Bool → ℕ
one_if b = if b then 1 else 0

abbrev pub with_named : Bool → t.Specifier → List t.Specifier → List t.Specifier
with_named b s ss = if b then s ∷ ss else ss
