use Rattle.std.proofs.Common.{◌≡◌, ◌+◌, List, [], ◌∷◌, ◌++◌, length, ap, arith}
use Rattle.std.proofs.lemmas.List.{length-append}
use Rattle.im_rv.specs.declared.code.Line.{Line}
use Rattle.im_trial_machine.proofs.Linkable.{numbered_more}
use Rattle.im_trial_machine.proofs.parts.lines_between.Goals as goal

pub loop-i-preserved : goal.loop-i-preserved
loop-i-preserved c =
    let before = c.loop-i.invariant.count in
    let more = ap (λ (z : List Line). length z) c.in_ok-push.ensures.items in
    let one : length (c.loop-i.lines.items ++ c.line_at.result ∷ []) ≡ length c.loop-i.lines.items + 1 = length-append c.loop-i.lines.items (c.line_at.result ∷ []) in
    record {
      numbered = numbered_more c.args.first c.loop-i.lines.items c.push.new.self.items c.line_at.result c.loop-i.i c.in_ok-push.ensures.items (omega arith) c.loop-i.invariant.numbered c.line_at.ensures;
      count = omega arith;
    }
