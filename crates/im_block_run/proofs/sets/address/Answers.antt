use Rattle.im_block.specs.Meaning as m
use Rattle.im_block_run.proofs.sets.address.Goals as goal

pub returns : goal.returns
returns c = λ u s h.
    c.computes.ensures u (m.place_of c.args.place s.frame.active s.frame.registers s.store) s h
    (c.place_of-result.ensures c.args.state.now.begun s.store s.frame h.held h.running.frame)
