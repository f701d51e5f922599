-- What the code has of a header: for its own contracts alone.
use Rattle.std.specs.Prelude.{ℕ, List}
use Rattle.im_image.specs.declared.header.Header.{Header}
use Rattle.im_image.specs.Faults.{word_at, version_at}

-- what the eight words say, from the second on
abbrev pub header_at : List ℕ → Header
header_at text = record {
  version = version_at text;
  words = word_at text 8;
  statics = word_at text 12;
  stack = word_at text 16;
  out_cap = word_at text 20;
  entry = word_at text 24;
  objects = word_at text 28;
}
