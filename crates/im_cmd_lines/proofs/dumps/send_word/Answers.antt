use Rattle.im_cmd_lines.proofs.dumps.send_word.Goals as goal

pub returns : goal.returns
returns g c = rw (c.hex_text.ensures, c.hex_text-2.ensures) at c.send_pieces.ensures
