use Rattle.std.proofs.Common.{◌≡◌, ◌+◌, ◌∙◌, List, [], ◌∷◌, ◌++◌, None, false, sym, ap, subst, take, get_or}
use Rattle.std.proofs.lemmas.List.{take_more}
use Rattle.im_block.specs.declared.access.Access.{Access}
use Rattle.im_dep.specs.Sites.{site_of_access}
use Rattle.im_cut.specs.Stands.{HasAlike}
use Rattle.im_cut.specs.Blocks.{AddsExposed}
use Rattle.im_cut.proofs.Commons.{added_alike, added_pushed}
use Rattle.im_cut.proofs.joins.add_exposed.Goals as goal
use Rattle.im_cut.proofs.joins.add_exposed.Goals.{then-not-alike_at+then-not-has_alike+in_ok-push, else-not-alike_at, else-not-alike_at-via-then-not-alike_at+else-not-has_alike, else-not-alike_at-via-else-not-alike_at}

abbrev blank : Access
blank = record { number = 0; write = false; size = 0; slot = None }

pub loop-index-preserved : goal.loop-index-preserved
loop-index-preserved c =
    let xs = c.args.from.now in
    let i = c.loop-index.index in
    let a = get_or xs i blank in
    let tags = c.args.tags.now in
    let old = c.args.into.now.items in
    let had = c.loop-index.into.items in
    let one : take (i + 1) xs ≡ take i xs ++ a ∷ [] = take_more xs i blank c.loop-index-test.true in
    subst (λ (t : List Access). AddsExposed tags t old c.if-not-alike_at.into.items) (sym one)
    (elim c.if-not-alike_at.branch [
      | then-not-alike_at+then-not-has_alike+in_ok-push k ↦
          let more : c.if-not-alike_at.into.items ≡ had ++ a ∷ [] = ap (λ v. v.items) k.into-is ∙ k.in_ok-push.ensures.items in
          subst (λ (t : List Access). AddsExposed tags (take i xs ++ a ∷ []) old t) (sym more) (added_pushed tags (take i xs) old had a c.loop-index.invariant)
      | else-not-alike_at k ↦
          let same : c.if-not-alike_at.into.items ≡ had = ap (λ v. v.items) k.into-is in
          let there : HasAlike tags had (site_of_access a) =
          elim k.else-not-alike_at.branch [
            | else-not-alike_at-via-then-not-alike_at+else-not-has_alike w ↦ subst (λ (l : List Access). HasAlike tags l (site_of_access a)) w.deref-then-not-alike_at.ensures.value (w.has_alike.ensures w.if-not-has_alike.false)
            | else-not-alike_at-via-else-not-alike_at w ↦ subst (λ (l : List Access). HasAlike tags l (site_of_access a)) c.deref.ensures.value (c.alike_at.ensures w.if-not-alike_at.false)
          ] in
          subst (λ (t : List Access). AddsExposed tags (take i xs ++ a ∷ []) old t) (sym same) (added_alike tags (take i xs) old had a there c.loop-index.invariant)
    ])
