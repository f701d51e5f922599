use Rattle.std.proofs.Common.{Some, take, ap, sym, ◌∙◌}
use Rattle.im_select.specs.Emitted.{own_lines}
use Rattle.im_select.proofs.Taking.{but_last_taken, but_two_taken}
use Rattle.im_select.proofs.branching.lines_but.Goals as goal

pub returns-in-Nonzero : goal.returns-in-Nonzero
returns-in-Nonzero c =
    let lines = c.args.lines.now in
    ap (λ n. take n lines) c.saturating_sub.ensures ∙ sym (but_last_taken lines) ∙ sym (ap (λ z. own_lines (Some z) lines) c.in-Nonzero.is)

pub returns-in-Compares : goal.returns-in-Compares
returns-in-Compares c =
    let lines = c.args.lines.now in
    ap (λ n. take n lines) c.saturating_sub-in-Compares.ensures ∙ sym (but_last_taken lines) ∙ sym (ap (λ z. own_lines (Some z) lines) c.in-Compares.is)

pub returns-in-ComparesZero : goal.returns-in-ComparesZero
returns-in-ComparesZero c =
    let lines = c.args.lines.now in
    ap (λ n. take n lines) c.saturating_sub-in-ComparesZero.ensures ∙ sym (but_two_taken lines) ∙ sym (ap (λ z. own_lines (Some z) lines) c.in-ComparesZero.is)
