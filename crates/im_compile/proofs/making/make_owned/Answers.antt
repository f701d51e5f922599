use Rattle.im_compile.proofs.Ready.{limit_of}
use Rattle.im_compile.proofs.making.make_owned.Goals as goal

pub placed_code-requires-clause-limit : goal.placed_code-requires-clause-limit
placed_code-requires-clause-limit c = limit_of c.args.max_gap c.requires.gap
