use Rattle.im_cmd_lines.proofs.reports.send_place.Goals as goal

pub returns : goal.returns
returns g c = rw (c.hex_text.ensures, c.as_bytes.ensures.value) at c.send_pieces.ensures
