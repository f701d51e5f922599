use Rattle.im_check_initialisers.proofs.Forms.{only, some_there}
use Rattle.im_check_initialisers.proofs.parts.first_value.Goals as goal

pub bounds-items-0 : goal.bounds-items-0
bounds-items-0 c = some_there c.args.items.now c.requires.0 c.requires.1 c.requires.2

pub unreachable-requires : goal.unreachable-requires
unreachable-requires c =
    let o = only c.args.items.now c.index-items-0.result c.requires.0 c.requires.1 c.index-items-0.is c.requires.2 in
    cc (o.is_value)

pub returns : goal.returns
returns c = λ at x one.
    let o = only c.args.items.now c.index-items-0.result at x c.index-items-0.is one in
    cc (o.is_value, o.same)
