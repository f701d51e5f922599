-- The string literals beside the operand with which a chain goes on: the first one of an index, a call or a comma, and what is
-- cast.
use Rattle.std.specs.Prelude.{List, []}
use Rattle.im_rules.specs.im_word.Words.{Name}
use Rattle.im_rules.specs.Strings as s
use Rattle.im_ctree.specs.Tree as t

abbrev pub before_first : t.Expression → List Name
before_first (t.cast at n e) = s.strings_named n
before_first e = []

abbrev pub behind_first : t.Expression → List Name
behind_first (t.index at a b) = s.strings_in b
behind_first (t.call at f es) = s.strings_among es
behind_first (t.comma at a b) = s.strings_in b
behind_first e = []
