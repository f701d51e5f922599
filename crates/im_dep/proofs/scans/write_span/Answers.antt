use Rattle.std.proofs.Common.{◌∙◌, sym, ap, List}
use Rattle.std.specs.Prelude.{◌||◌, Option}
use Rattle.im_dep.specs.declared.spans.Span.{Span}
use Rattle.im_dep.specs.Spans.{is_covered, holds_span}
use Rattle.im_dep.proofs.Behind.{covered_more, or_none}
use Rattle.im_dep.proofs.scans.write_span.Goals as goal

pub returns-in_ok-push-in-Some : goal.returns-in_ok-push-in-Some
returns-in_ok-push-in-Some c = λ p.
    let was = c.args.written.now.items in
    ap (λ (t : List Span). is_covered t p) c.in_ok-push-in-Some.ensures.items ∙ covered_more was c.in-Some.span p ∙ ap (λ (t : Option Span). is_covered was p || holds_span t p) (sym c.in-Some.is)

pub returns-in-None : goal.returns-in-None
returns-in-None c = λ p.
    let was = c.args.written.now.items in
    or_none (is_covered was p) ∙ ap (λ (t : Option Span). is_covered was p || holds_span t p) (sym c.in-None.is)
