use Rattle.im_select_assemble.proofs.functions.push_function.Goals as goal

pub returns : goal.returns
returns c = λ parts holds.
    let a = c.in_ok-push_part.ensures parts holds in
    (a.0, a.1, record { code = _; selection = c.in_ok-lines.ensures; adds = a.2 })
