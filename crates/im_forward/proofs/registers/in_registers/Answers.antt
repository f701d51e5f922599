use Rattle.im_forward.proofs.registers.in_registers.Goals as goal

pub forward-requires-clause-well_formed : goal.forward-requires-clause-well_formed
forward-requires-clause-well_formed c = c.formed_law.ensures c.args.unit c.in_ok-promoted.promoted c.in_ok-promoted.ensures.promotes c.requires.well_formed

pub forward-requires-clause-placeable : goal.forward-requires-clause-placeable
forward-requires-clause-placeable c = c.placeable_law.ensures c.args.unit c.in_ok-promoted.promoted c.in_ok-promoted.ensures c.requires.placeable

pub returns : goal.returns
returns c = record { promoted = c.in_ok-promoted.promoted; promote = c.in_ok-promoted.ensures; forward = c.in_ok-forwarded.ensures }
