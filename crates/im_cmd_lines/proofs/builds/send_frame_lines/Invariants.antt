use Rattle.std.proofs.Common.{take}
use Rattle.std.specs.List.{flat_map}
use Rattle.im_io.specs.Whole.{SentAll}
use Rattle.im_cmd_lines.specs.Builds.{frame_line}
use Rattle.im_cmd_lines.proofs.builds.send_frame_lines.Given as goal

abbrev pub invariant-loop-frame : goal.invariant-loop-frame
invariant-loop-frame g l =
    let state = g.S.Sink.state in
    SentAll (flat_map frame_line (take l.frame-index l.frames)) (state l.fn.sink) (state l.sink)
