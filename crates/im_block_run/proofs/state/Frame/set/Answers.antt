use Rattle.im_block_run.proofs.Passing.{set-as}
use Rattle.im_block_run.proofs.state.Frame.set.Goals as goal

pub returns : goal.returns
returns c = λ s h. record {
  function = h.function;
  rest = h.rest;
  exit = h.exit;
  active = h.active;
  registers = set-as c.args.self.now.registers.items c.put.new.registers.items c.args.register c.args.value s.registers c.in_ok-put.ensures h.registers;
  to = h.to;
}
