use Rattle.std.proofs.Common.{ℕ, List, codes, decimal, subst}
use Rattle.im_io.specs.Whole.{Sends}
use Rattle.im_cmd_lines.specs.Numerals.{hex_word}
use Rattle.im_cmd_lines.proofs.Grouped.{thirteen}
use Rattle.im_cmd_lines.proofs.dumps.send_header.Goals as goal

pub returns : goal.returns
returns g c =
    let sent = rw (c.as_bytes.ensures.value, c.format.ensures.text, c.as_bytes-2.ensures.value, c.format-2.ensures.text, c.as_bytes-3.ensures.value, c.format-3.ensures.text, c.as_bytes-4.ensures.value, c.format-4.ensures.text, c.as_bytes-5.ensures.value, c.format-5.ensures.text, c.hex_text.ensures) at c.send_pieces.ensures in
    subst (λ (text : List ℕ). Sends text c.send_pieces.result (g.S.Sink.state c.args.sink.now) (g.S.Sink.state c.send_pieces.new.sink))
    (thirteen (codes "version ") (decimal c.args.version) (codes "\ncode ") (decimal c.args.code) (codes "\nstatics ") (decimal c.args.statics) (codes "\nstack ") (decimal c.args.stack) (codes "\nout-cap ") (decimal c.args.out_cap) (codes "\nentry ") (hex_word c.args.entry) (codes "\n")) sent
