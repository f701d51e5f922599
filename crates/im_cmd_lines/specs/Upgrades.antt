-- What is printed of an upgrade.
use Rattle.std.specs.Prelude.{ℕ, List, ◌++◌, codes, decimal}
use Rattle.im_image.specs.declared.version.Version.{Version}
use Rattle.im_image.specs.Text.{version_number}

-- from which version to which
abbrev pub upgrade_line : Version → List ℕ
upgrade_line version = codes "version " ++ decimal (version_number version) ++ codes " to 2\n"
