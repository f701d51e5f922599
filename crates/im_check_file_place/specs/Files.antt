-- The place of the definitions that stands for one at file scope.
use Rattle.std.specs.Prelude.{ℕ, List, map, reverse, Vec}
use Rattle.std.specs.Global.{Global}
use Rattle.im_check_place.specs.im_word.Words.{Name}
use Rattle.im_check_place.specs.im_rules.FileScope.{FilePlace}
use Rattle.im_check_place.specs.Contexts.{context_of}
use Rattle.im_check_file_place.specs.declared.file.File.{File}

-- the bytes of texts
abbrev pub bytes_of : List (Vec ℕ Global) → List Name
bytes_of xs = map (λ x. x.items) xs

-- the definitions list names the last one first
abbrev pub file_place_of : File → FilePlace
file_place_of f =
    record { context = context_of f.place; begun = reverse f.begun; whole = reverse f.whole; strings = bytes_of f.texts.items }
