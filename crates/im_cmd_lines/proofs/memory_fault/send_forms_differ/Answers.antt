use Rattle.std.proofs.Common.{ℕ, List, ◌++◌, codes, decimal, subst}
use Rattle.im_io.specs.Whole.{Sends}
use Rattle.im_image.specs.Text.{form_number}
use Rattle.im_cmd_lines.proofs.Grouped.{behind_forms}
use Rattle.im_cmd_lines.proofs.memory_fault.send_forms_differ.Goals as goal

pub returns : goal.returns
returns g c =
    let sent = rw (c.as_bytes.ensures.value, c.as_bytes-2.ensures.value, c.format.ensures.text, c.number.ensures, c.as_bytes-3.ensures.value, c.as_bytes-4.ensures.value, c.format-2.ensures.text, c.number-2.ensures) at c.send_pieces.ensures in
    subst (λ (text : List ℕ). Sends (codes "intermit: " ++ text) c.send_pieces.result (g.S.Sink.state c.args.sink.now) (g.S.Sink.state c.send_pieces.new.sink))
    (behind_forms c.args.image.now (codes " is form ") (decimal (form_number c.args.form)) (codes ", ") c.args.memory.now (codes " is form ") (decimal (form_number c.args.other)) (codes "\n")) sent
