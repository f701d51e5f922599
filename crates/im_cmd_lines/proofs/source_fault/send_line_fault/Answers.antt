use Rattle.im_cmd_lines.proofs.source_fault.send_line_fault.Goals as goal

pub returns-in-OpenLiteral : goal.returns-in-OpenLiteral
returns-in-OpenLiteral g c = rw c.in-OpenLiteral.is c.send_in_line-in-OpenLiteral.ensures
