use Rattle.std.proofs.Common.{ap, sym, ℕ}
use Rattle.im_serve.specs.Services.{byte_out}
use Rattle.im_block.specs.Meaning as m
use Rattle.im_block_run.proofs.States.{follows-as}
use Rattle.im_block_run.proofs.streams.work.Goals as goal

pub returns-in-Getchar : goal.returns-in-Getchar
returns-in-Getchar c = rw c.in-Getchar.is (λ g s h capacity. c.get.ensures g s h)

pub returns-in-Putchar : goal.returns-in-Putchar
returns-in-Putchar c = rw c.in-Putchar.is (λ g s h capacity.
    let byte : ℕ → m.Next = λ b. m.replies c.args.unit.now g c.args.to (byte_out g.capacity b s.input s.output) s.frame.spot.rest s.fuel s in
    follows-as c.args.unit.now c.put.result c.put.new.state _ _ (ap byte (sym c.byte_of.ensures)) (c.put.ensures g s h capacity))
