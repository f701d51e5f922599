use Rattle.im_cmd_lines.proofs.reports.send_dependence.Goals as goal

pub returns : goal.returns
returns g c = rw (c.hex_text-read_at.ensures, c.hex_text-write_at.ensures) at c.send_pieces.ensures
