use Rattle.std.proofs.Common.{◌∙◌, sym}
use Rattle.im_check_declarators.proofs.Formals.{unnamed_word}
use Rattle.im_check_declarators.proofs.functions.is_unnamed_word.Goals as goal

pub returns-in-None : goal.returns-in-None
returns-in-None c = unnamed_word c.args.parameter.now c.in-None.is ∙ sym (rw c.deref.ensures.value at c.is_one.ensures)
