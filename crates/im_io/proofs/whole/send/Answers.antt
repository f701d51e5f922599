use Rattle.std.proofs.Common.{◌≤◌, ◌∙◌, subst, drop, length, length-drop, arith}
use Rattle.im_io.specs.Sink.{Appended}
use Rattle.im_io.proofs.Appending.{appended_more, first_more, rest_of}
use Rattle.im_io.proofs.whole.send.Goals as goal

pub loop-sent-preserved : goal.loop-sent-preserved
loop-sent-preserved g c =
    let text = c.args.text.now in
    let sent = c.loop-sent.sent in
    let count = c.in_ok-sent.field-0 in
    let state = g.S.Sink.state in
    let fits : count ≤ length (drop sent text) = rw (← rest_of sent text) c.in_ok-sent.ensures.fits in
    record {
      some = omega (arith, fits, length-drop sent text);
      taken = subst (λ all. Appended all (state c.args.sink.now).contents (state c.write.new.self).contents) (first_more sent count text)
          (appended_more _ _ _ _ _ c.loop-sent.invariant.taken c.in_ok-sent.ensures.takes.0);
      faults = c.in_ok-sent.ensures.takes.1 ∙ c.loop-sent.invariant.faults;
    }
