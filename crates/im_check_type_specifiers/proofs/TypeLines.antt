-- The lines of the list, as the table has them.
use Rattle.std.proofs.Common.{◌≡◌, List, refl}
use Rattle.im_ctree.specs.declared.specifier.SpecifierWord.{SpecifierWord}
use Rattle.im_check_scopes.specs.im_rules.Rules.{lines, line_type}
use Rattle.im_check_type_specifiers.specs.declared.line.Counts.{Counts}
use Rattle.im_check_type_specifiers.specs.declared.line.TheConstants.{LINES}
use Rattle.im_check_type_specifiers.specs.Lines.{IsCounted, typed_by}

pub same_lines : (n : Counts) (ks : List SpecifierWord) → IsCounted n ks → typed_by LINES n ≡ line_type lines ks
same_lines n ks h = rw (h.void, h.char, h.short, h.int, h.long, h.signed, h.unsigned) refl
