use Rattle.std.proofs.Common.{◌≡◌, ◌+◌, ◌∙◌, List, [], ◌∷◌, ◌++◌, Some, true, sym, ap, subst, take, get_or}
use Rattle.std.proofs.lemmas.List.{take_more}
use Rattle.im_dep.specs.declared.spans.Base.TheVariants.{Slot}
use Rattle.im_dep.specs.declared.spans.Span.{Span}
use Rattle.im_dep.specs.Spans.{is_covered}
use Rattle.im_cut.proofs.Commons.{SharedSoFar, share_nothing, share_none, share_held, share_pushed}
use Rattle.im_cut.proofs.joins.add_shared.Goals as goal
use Rattle.im_cut.proofs.joins.add_shared.Goals.{in-Some+then-not-is_written+in_ok-push-in-Some, in-Some+else-not-is_written, in-None}

abbrev blank : Span
blank = record { base = Slot 0; from = 0; to = 0 }

pub loop-other-init : goal.loop-other-init
loop-other-init c = share_nothing c.args.span.now c.args.common.now.items

pub loop-other-preserved : goal.loop-other-preserved
loop-other-preserved c =
    let xs = c.args.ours.now in
    let i = c.loop-other.other-index in
    let x = get_or xs i blank in
    let s = c.args.span.now in
    let old = c.args.common.now.items in
    let had = c.loop-other.common.items in
    let one : take (i + 1) xs ≡ take i xs ++ x ∷ [] = take_more xs i blank c.loop-other-test.true in
    subst (λ (t : List Span). SharedSoFar t s old c.match-shared.common.items) (sym one)
    (elim c.match-shared.branch [
      | in-Some+then-not-is_written+in_ok-push-in-Some k ↦
          let more : c.match-shared.common.items ≡ had ++ k.in-Some.both ∷ [] = ap (λ v. v.items) k.common-is ∙ k.in_ok-push-in-Some.ensures.items in
          subst (λ (t : List Span). SharedSoFar (take i xs ++ x ∷ []) s old t) (sym more) (share_pushed (take i xs) x s k.in-Some.both old had k.in-Some.ensures c.loop-other.invariant)
      | in-Some+else-not-is_written k ↦
          let same : c.match-shared.common.items ≡ had = ap (λ v. v.items) k.common-is in
          let there : is_covered had (Some k.in-Some.both) ≡ true = ap (λ (l : List Span). is_covered l (Some k.in-Some.both)) (sym k.deref.ensures.value) ∙ sym k.is_written.ensures ∙ k.if-not-is_written.false in
          subst (λ (t : List Span). SharedSoFar (take i xs ++ x ∷ []) s old t) (sym same) (share_held (take i xs) x s k.in-Some.both old had k.in-Some.ensures there c.loop-other.invariant)
      | in-None k ↦
          let same : c.match-shared.common.items ≡ had = ap (λ v. v.items) k.common-is in
          subst (λ (t : List Span). SharedSoFar (take i xs ++ x ∷ []) s old t) (sym same) (share_none (take i xs) x s old had k.in-None.ensures c.loop-other.invariant)
    ])
