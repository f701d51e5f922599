use Rattle.std.proofs.Common.{sym, ◌∙◌}
use Rattle.im_check_file_specifiers.proofs.Names.{in_reversed}
use Rattle.im_check_file_specifiers.proofs.lists.has_begun.Goals as goal

pub returns-in-Some : goal.returns-in-Some
returns-in-Some c = rw c.in-Some.is (rw c.deref.ensures.value at (c.contains.ensures ∙ sym (in_reversed _ c.args.begun.now)))
