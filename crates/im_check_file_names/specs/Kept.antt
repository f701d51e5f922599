-- What a declarator at file scope leaves as it was.
use Rattle.std.specs.Prelude.{◌≡◌}
use Rattle.im_check_file_place.specs.declared.file.File.{File}

-- all but the scopes and the names that have a body or an initialiser
abbrev pub KeepsOthers : File → File → Type 0
KeepsOthers before after = after ≡ record before { place = record before.place { scope = after.place.scope }; whole = after.whole }
