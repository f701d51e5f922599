use Rattle.std.proofs.Common.{rules, ◌≡◌, true, [], ◌∷◌, ◌++◌, reverse}
use Rattle.im_check_outline.proofs.Walks.{function-pushed}
use Rattle.im_check_outline.proofs.walk.with_function_type.Goals as goal

pub returns : goal.returns
returns c =
    let more = function-pushed true c.args.walk.functions c.args.name.now in
    search (rules, more)
