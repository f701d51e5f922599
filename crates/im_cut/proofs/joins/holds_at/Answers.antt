use Rattle.std.proofs.Common.{◌∙◌, ◌<◌, sym, length, arith}
use Rattle.im_dep.specs.declared.spans.Base.TheVariants.{Slot}
use Rattle.im_dep.specs.declared.spans.Span.{Span}
use Rattle.im_cut.proofs.Commons.{covered_item}
use Rattle.im_cut.proofs.joins.holds_at.Goals as goal

abbrev blank : Span
blank = record { base = Slot 0; from = 0; to = 0 }

pub returns : goal.returns
returns c =
    let within : c.args.index < length c.args.spans.now = omega arith in
    λ t. covered_item c.args.spans.now c.args.index blank c.args.span.now within (sym c.holds.ensures ∙ t)
