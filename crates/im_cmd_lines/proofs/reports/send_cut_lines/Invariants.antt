use Rattle.std.proofs.Common.{take}
use Rattle.std.specs.List.{flat_map}
use Rattle.im_io.specs.Whole.{SentAll}
use Rattle.im_cmd_lines.specs.Reports.{cut_line}
use Rattle.im_cmd_lines.proofs.reports.send_cut_lines.Given as goal

abbrev pub invariant-loop-cut : goal.invariant-loop-cut
invariant-loop-cut g l =
    let state = g.S.Sink.state in
    SentAll (flat_map cut_line (take l.cut-index l.cuts)) (state l.fn.sink) (state l.sink)
