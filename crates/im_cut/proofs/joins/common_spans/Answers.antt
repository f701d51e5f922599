use Rattle.std.proofs.Common.{◌≡◌, ◌+◌, ◌∙◌, List, [], ◌∷◌, ◌++◌, sym, ap, subst, take, get_or}
use Rattle.std.proofs.lemmas.List.{take_more}
use Rattle.im_dep.specs.declared.spans.Base.TheVariants.{Slot}
use Rattle.im_dep.specs.declared.spans.Span.{Span}
use Rattle.im_cut.proofs.Commons.{CommonSoFar, common_nothing, common_held, common_shared}
use Rattle.im_cut.proofs.joins.common_spans.Goals as goal
use Rattle.im_cut.proofs.joins.common_spans.Goals.{then-holds_at+in_ok-push, else-holds_at+in_ok-add_shared}

abbrev blank : Span
blank = record { base = Slot 0; from = 0; to = 0 }

pub loop-index-init : goal.loop-index-init
loop-index-init c = subst (λ (t : List Span). CommonSoFar c.args.ours.now [] t) (sym c.new-common.ensures.items) (common_nothing c.args.ours.now)

pub loop-index-preserved : goal.loop-index-preserved
loop-index-preserved c =
    let xs = c.args.theirs.now in
    let i = c.loop-index.index in
    let s = get_or xs i blank in
    let ours = c.args.ours.now in
    let had = c.loop-index.common.items in
    let one : take (i + 1) xs ≡ take i xs ++ s ∷ [] = take_more xs i blank c.loop-index-test.true in
    subst (λ (t : List Span). CommonSoFar ours t c.if-holds_at.common.items) (sym one)
    (elim c.if-holds_at.branch [
      | then-holds_at+in_ok-push k ↦
          let more : c.if-holds_at.common.items ≡ had ++ s ∷ [] = ap (λ v. v.items) k.common-is ∙ k.in_ok-push.ensures.items in
          subst (λ (t : List Span). CommonSoFar ours (take i xs ++ s ∷ []) t) (sym more) (common_held ours (take i xs) had s (c.holds_at.ensures k.if-holds_at.true) c.loop-index.invariant)
      | else-holds_at+in_ok-add_shared k ↦
          let more : c.if-holds_at.common.items ≡ k.add_shared.new.common.items = ap (λ v. v.items) k.common-is in
          subst (λ (t : List Span). CommonSoFar ours (take i xs ++ s ∷ []) t) (sym more) (common_shared ours (take i xs) had k.add_shared.new.common.items s k.in_ok-add_shared.ensures c.loop-index.invariant)
    ])
