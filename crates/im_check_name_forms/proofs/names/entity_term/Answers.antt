use Rattle.im_check_name_forms.proofs.names.entity_term.Goals as goal

pub returns-in-Object : goal.returns-in-Object
returns-in-Object c = rw c.in-Object.is (λ es types next. c.object_term.ensures es types next)
