use Rattle.im_ctree_parts.specs.Lists.{list_from}
use Rattle.im_check_locals.proofs.Alone.{with_declarators, alone_told}
use Rattle.im_check_locals.proofs.tag.lone_tag.Goals as goal

pub returns-then-declarators-ne0 : goal.returns-then-declarators-ne0
returns-then-declarators-ne0 c = with_declarators (list_from c.args.specifiers.now) c.args.declarators.now c.if-declarators-ne0.true

pub returns : goal.returns
returns c =
    alone_told (list_from c.args.specifiers.now) c.args.declarators.now c.alone_among.result c.if-declarators-ne0.false c.alone_among.ensures
