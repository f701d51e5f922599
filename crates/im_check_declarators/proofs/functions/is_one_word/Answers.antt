use Rattle.im_check_declarators.proofs.Formals.{not_one_word}
use Rattle.im_check_declarators.proofs.functions.is_one_word.Goals as goal

pub returns-then-parameters-ne1 : goal.returns-then-parameters-ne1
returns-then-parameters-ne1 c = not_one_word c.args.parameters.now c.if-parameters-ne1.true
