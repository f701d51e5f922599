use Rattle.im_image.proofs.Loops.{RunsRead}
use Rattle.im_image.proofs.runs.read_runs.Given as goal

abbrev pub invariant-loop : goal.invariant-loop
invariant-loop l = RunsRead l.bytes l.at l.size l.count l.place l.counter l.next l.before l.runs.items
