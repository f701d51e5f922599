use Rattle.std.proofs.Common.{◌∙◌, to_z, of_z}
use mir.Syntax.{w128}
use Rattle.std.proofs.lemmas.Int.{to_z-of_z}
use Rattle.im_eval.proofs.EndingTelling.{ended-is}
use Rattle.im_eval.proofs.ended.conclude.Goals as goal

pub returns-in-Ok : goal.returns-in-Ok
returns-in-Ok c =
    let status = to_z w128 (of_z w128 c.status_of.result) in
    let same = to_z-of_z w128 c.status_of.result (record { sfits = c.status_of.type_inv }) ∙ c.status_of.ensures in
    ended-is c.args.code c.args.machine c.args.end c.in-Ok.found status c.in-Ok.is same c.end_of.result c.end_of.ensures
