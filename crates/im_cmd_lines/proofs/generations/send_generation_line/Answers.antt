use Rattle.std.proofs.Common.{ℕ, List, codes, decimal, length, sum, subst, to_z-of_z}
use Rattle.std.specs.Fmt.{signed_decimal}
use Rattle.im_io.specs.Whole.{Sends}
use Rattle.im_cmd_lines.proofs.Grouped.{nine}
use Rattle.im_cmd_lines.proofs.generations.send_generation_line.Goals as goal

pub returns : goal.returns
returns g c =
    let sent = rw (
      c.as_bytes.ensures.value,
      c.format.ensures.text,
      c.as_bytes-2.ensures.value,
      c.format-2.ensures.text,
      c.as_bytes-3.ensures.value,
      c.format-3.ensures.text,
      c.sum_of.ensures,
      c.as_bytes-4.ensures.value,
      c.format-4.ensures.text,
      to_z-of_z c.ranges.status,
    ) at c.send_pieces.ensures in
    subst (λ (text : List ℕ). Sends text c.send_pieces.result (g.S.Sink.state c.args.sink.now) (g.S.Sink.state c.send_pieces.new.sink))
    (nine (codes "gen ") (decimal c.args.count) (codes ": output ") (decimal (length c.args.output.now)) (codes " sum ") (decimal (sum c.args.output.now)) (codes " status ") (signed_decimal c.args.status) (codes "\n")) sent
