-- The numbers that names have.
use Rattle.std.specs.Prelude.{ℕ, List, [], ◌∷◌, map, Option, None, if◌then◌else◌, Vec}
use Rattle.std.specs.Global.{Global}
use Rattle.im_rules.specs.im_word.Words.{Name}
use Rattle.im_rules.specs.TypeTests.{same_name}

-- the number that a name has, if any
abbrev pub number_of : List (Name × Option ℕ) → Name → Option ℕ
number_of [] x = None
number_of (e ∷ es) x = if same_name e.0 x then e.1 else number_of es x

abbrev pub entries_of : List (Vec ℕ Global × Option ℕ) → List (Name × Option ℕ)
entries_of es = map (λ e. (e.0.items, e.1)) es
