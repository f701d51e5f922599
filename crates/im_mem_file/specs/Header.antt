-- What the code has of a header: for its own contracts alone.
use Rattle.std.specs.Prelude.{ℕ, List}
use Rattle.im_image.specs.Faults.{version_at}
use Rattle.im_mem_file.specs.declared.header.Header.{Header}
use Rattle.im_mem_file.specs.Faults.{form_at, count_at, pages_place}

abbrev pub header_at : List ℕ → Header
header_at text = record { version = version_at text; form = form_at text; pages = count_at text; place = pages_place text }
