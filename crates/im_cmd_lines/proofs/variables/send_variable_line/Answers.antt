use Rattle.std.proofs.Common.{◌++◌, codes}
use Rattle.std.specs.List.{flat_map}
use Rattle.im_cmd_lines.specs.Variables.{cell_text}
use Rattle.im_cmd_lines.proofs.Joined.{first_sent, sends_then}
use Rattle.im_cmd_lines.proofs.variables.send_variable_line.Goals as goal

pub returns-in-Ok : goal.returns-in-Ok
returns-in-Ok g c =
    let values = codes "var " ++ c.args.variable.now.name.items ++ flat_map (λ cell. codes " " ++ cell_text c.args.objects.now cell) c.args.variable.now.cells.items in
    sends_then _ _ values (codes "\n") _ _ _ _ c.in-Ok.ensures c.send.ensures

pub returns-in-Err : goal.returns-in-Err
returns-in-Err g c =
    let values = codes "var " ++ c.args.variable.now.name.items ++ flat_map (λ cell. codes " " ++ cell_text c.args.objects.now cell) c.args.variable.now.cells.items in
    first_sent values (codes "\n") _ _ c.in-Err.ensures
