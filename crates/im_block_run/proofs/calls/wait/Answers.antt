use Rattle.std.proofs.Common.{◌∙◌, sym, subst, refl, List, reverse}
use Rattle.im_block.specs.Meaning as m
use Rattle.im_block_run.specs.Shown.{AreFrames, IsFrame}
use Rattle.im_block_run.specs.declared.state.Frame.{Frame}
use Rattle.im_block_run.proofs.States.{waits-more}
use Rattle.im_block_run.proofs.calls.wait.Goals as goal

pub returns-clause-running : goal.returns-clause-running
returns-clause-running c = λ g s t r is callers input output fuel.
    let u = c.args.unit.now in
    let to = c.args.to in
    let waiting = m.waiting u g s.frame to s.frame.spot.rest in
    let lost = c.lose.ensures s.frame r.frame in
    let caller : Frame = record c.lose.new.self { to = to } in
    let waits : IsFrame caller waiting = record { function = lost.function; rest = lost.rest; exit = lost.exit; active = lost.active; registers = lost.registers; to = refl } in record {
      frame = subst (λ (f : Frame). IsFrame f t.frame) (sym c.replace-caller.ensures.after) is;
      callers =
          subst (λ (ss : List m.Frame). AreFrames (reverse c.push.new.self.items) ss) (sym callers)
          (waits-more c.push.new.self.items c.args.state.now.callers.items c.replace-caller.result waiting s.callers c.in_ok-push.ensures.items (subst (λ (f : Frame). IsFrame f waiting) (sym c.replace-caller.ensures.value) waits) r.callers);
      input = input ∙ r.input;
      output = output ∙ r.output;
      fuel = fuel ∙ r.fuel;
    }
