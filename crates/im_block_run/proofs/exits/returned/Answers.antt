use Rattle.im_block_run.proofs.exits.returned.Goals as goal

pub returns-in-Some : goal.returns-in-Some
returns-in-Some c = rw c.in-Some.is (λ u g s h. c.register.ensures s h)
