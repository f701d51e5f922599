use Rattle.std.proofs.Common.{take}
use Rattle.std.specs.List.{flat_map}
use Rattle.im_io.specs.Whole.{SentAll}
use Rattle.im_num.specs.Variables.{variable_of}
use Rattle.im_cmd_lines.specs.Variables.{variable_line}
use Rattle.im_cmd_lines.proofs.variables.send_variable_lines.Given as goal

abbrev pub invariant-loop-variable : goal.invariant-loop-variable
invariant-loop-variable g l =
    let state = g.S.Sink.state in
    SentAll (flat_map (λ variable. variable_line l.fn.objects (variable_of variable)) (take l.variable-index l.variables)) (state l.fn.sink) (state l.sink)
