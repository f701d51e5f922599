use Rattle.std.proofs.Common.{take}
use Rattle.std.specs.List.{flat_map}
use Rattle.im_io.specs.Whole.{SentAll}
use Rattle.im_cmd_lines.specs.Dumps.{object_line}
use Rattle.im_cmd_lines.proofs.dumps.send_object_lines.Given as goal

abbrev pub invariant-loop-object : goal.invariant-loop-object
invariant-loop-object g l =
    let state = g.S.Sink.state in
    SentAll (flat_map object_line (take l.object-index l.objects)) (state l.fn.sink) (state l.sink)
