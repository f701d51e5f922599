use Rattle.std.proofs.Common.{◌+◌, ◌∙◌, sym, ap, drop}
use Rattle.std.specs.Prelude.{◌||◌}
use Rattle.im_dep.specs.declared.spans.Base.TheVariants.{Slot}
use Rattle.im_dep.specs.declared.spans.Span.{Span}
use Rattle.im_dep.specs.Spans.{is_covered}
use Rattle.im_dep.proofs.Lists.{drop_one}
use Rattle.im_dep.proofs.scans.is_written.Goals as goal

abbrev blank : Span
blank = record { base = Slot 0; from = 0; to = 0 }

pub loop-span-preserved : goal.loop-span-preserved
loop-span-preserved c =
    let xs = c.args.written.now in
    let i = c.loop-span.span-index in
    sym (ap (λ t. is_covered t c.args.place) (drop_one xs i blank c.loop-span-test.true) ∙ ap (λ b. b || is_covered (drop (i + 1) xs) c.args.place) (sym c.covers_span.ensures ∙ c.if-covers_span.false)) ∙ c.loop-span.invariant

pub returns-then-covers_span : goal.returns-then-covers_span
returns-then-covers_span c =
    let xs = c.args.written.now in
    let i = c.loop-span.span-index in
    sym (sym c.loop-span.invariant ∙ ap (λ t. is_covered t c.args.place) (drop_one xs i blank c.loop-span-test.true) ∙ ap (λ b. b || is_covered (drop (i + 1) xs) c.args.place) (sym c.covers_span.ensures ∙ c.if-covers_span.true))
