use Rattle.std.proofs.Common.{sym, ◌∙◌}
use Rattle.std.proofs.lemmas.Bool.{false≢true}
use Rattle.im_lex.proofs.Fronts.{next_marker, no_marker}
use Rattle.im_lex.proofs.pieces.marker_piece.Goals as goal
use Rattle.im_lex.proofs.pieces.marker_piece.Goals.{else-starts_line-via-then-starts_line+else-begins_marker, else-starts_line-via-else-starts_line}

pub returns-then-begins_marker : goal.returns-then-begins_marker
returns-then-begins_marker c = next_marker c.args.starts_line c.args.text.now c.line_end.result c.if-starts_line.true (c.begins_marker.ensures.0 c.if-begins_marker.true) c.line_end.ensures

pub returns-else-starts_line : goal.returns-else-starts_line
returns-else-starts_line c = (
  no_marker c.args.starts_line c.args.text.now c.requires (elim c.else-starts_line.branch [
    | else-starts_line-via-then-starts_line+else-begins_marker w ↦ (λ starts marker. false≢true (sym w.if-begins_marker.false ∙ w.begins_marker.ensures.1 marker))
    | else-starts_line-via-else-starts_line w ↦ (λ starts marker. false≢true (sym w.if-starts_line.false ∙ starts))
  ]),
  c.requires,
)
