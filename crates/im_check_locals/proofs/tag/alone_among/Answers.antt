use Rattle.im_check_locals.proofs.Alone.{not_one, one_told}
use Rattle.im_check_locals.proofs.tag.alone_among.Goals as goal

pub returns-then-specifiers-ne1 : goal.returns-then-specifiers-ne1
returns-then-specifiers-ne1 c = not_one c.args.specifiers.now c.if-specifiers-ne1.true

pub returns : goal.returns
returns c = one_told c.args.specifiers.now c.index-specifiers-0.result c.struct_tag.result c.if-specifiers-ne1.false c.index-specifiers-0.is c.struct_tag.ensures
