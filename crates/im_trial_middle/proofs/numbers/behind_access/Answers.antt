use Rattle.std.proofs.Common.{◌≤◌, arith}
use Rattle.im_trial_middle.proofs.Rising.{access_leads}
use Rattle.im_trial_middle.proofs.numbers.behind_access.Goals as goal

pub returns : goal.returns
returns c =
    let low : c.args.number ≤ c.args.access = (let no = c.if-access-number.false in omega arith) in
    access_leads c.args.number c.args.access c.checked_add.result low c.checked_add.ensures
