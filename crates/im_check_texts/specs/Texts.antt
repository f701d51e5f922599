-- The string literals that texts stand for.
use Rattle.std.specs.Prelude.{ℕ, List, map, Vec}
use Rattle.std.specs.Global.{Global}
use Rattle.im_check_texts.specs.im_word.Words.{Name}

abbrev pub texts_in : List (Vec ℕ Global) → List Name
texts_in texts = map {A = Vec ℕ Global} (λ text. text.items) texts
