-- Items before a list, for any kind of list: `cons` puts one item before it.
use Rattle.std.specs.Prelude.{List, [], ◌∷◌}

abbrev pub before : {A B : Type 0} → (A → B → B) → List A → B → B
before cons [] b = b
before cons (x ∷ xs) b = cons x (before cons xs b)
