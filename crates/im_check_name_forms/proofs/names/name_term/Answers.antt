use Rattle.im_check_name_forms.proofs.names.name_term.Goals as goal

pub returns-in-Some : goal.returns-in-Some
returns-in-Some c = λ types next. rw c.in-Some.ensures (c.entity_term.ensures c.args.scope.now types next)
