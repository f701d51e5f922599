-- Typedef names, which stand in hand as a vector, the one declared last at its end, and as a set.
use Rattle.std.specs.Prelude.{◌≡◌, List, map, reverse, nat_eq}
use Rattle.std.specs.List.{list_any}
use Rattle.std.specs.Cmp.Lexicographic.{pointwise}
use Rattle.std.proofs.Common.{Bor}
use Rattle.im_word.specs.Words.{Name}

-- as the grammar lists them, the one declared last first
abbrev pub names_of : List (Bor Name) → List Name
names_of names = reverse (map (λ (declared : Bor Name). declared.now) names)

-- the set has these names, and no others
abbrev pub HasNames : List (Bor Name) → List Name → Type 0
HasNames set names = (n : Name) → list_any (λ (one : Bor Name). pointwise nat_eq n one.now) set ≡ list_any (pointwise nat_eq n) names
