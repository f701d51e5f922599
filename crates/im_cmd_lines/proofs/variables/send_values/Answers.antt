use Rattle.std.proofs.Common.{◌++◌, codes}
use Rattle.std.specs.List.{flat_map}
use Rattle.std.proofs.lemmas.List.{append-nil}
use Rattle.im_cmd_lines.specs.Variables.{cell_text}
use Rattle.im_cmd_lines.proofs.Joined.{first_sent, sends_then}
use Rattle.im_cmd_lines.proofs.variables.send_values.Goals as goal

pub returns-in-Ok : goal.returns-in-Ok
returns-in-Ok g c = sends_then _ _ (codes "var " ++ c.args.variable.now.name.items) (flat_map (λ cell. codes " " ++ cell_text c.args.objects.now cell) c.args.variable.now.cells.items) _ _ _ _ (rw (c.deref.ensures.value, append-nil c.args.variable.now.name.items) at c.in-Ok.ensures) (rw c.deref-in-Ok.ensures.value at c.send_cells.ensures)

pub returns-in-Err : goal.returns-in-Err
returns-in-Err g c = first_sent (codes "var " ++ c.args.variable.now.name.items) (flat_map (λ cell. codes " " ++ cell_text c.args.objects.now cell) c.args.variable.now.cells.items) _ _ (rw (c.deref.ensures.value, append-nil c.args.variable.now.name.items) at c.in-Err.ensures)
