use Rattle.std.proofs.Common.{◌≡◌, ◌+◌, List, [], ◌∷◌, ◌++◌, None, false, sym, ap, subst, take, get_or}
use Rattle.std.proofs.lemmas.List.{take_more}
use Rattle.im_block.specs.declared.access.Access.{Access}
use Rattle.im_block.specs.declared.access.Dep.{Dep}
use Rattle.im_dep.specs.Sites.{site_of_access}
use Rattle.im_dep.specs.Exposed.{dep_of, AddsMet}
use Rattle.im_dep.proofs.Behind.{met_not, met_more, no_truth}
use Rattle.im_dep.proofs.scans.push_met.Goals as goal
use Rattle.im_dep.proofs.scans.push_met.Goals.{then-meets+in_ok-push, else-meets}

abbrev blank : Access
blank = record { number = 0; write = false; size = 0; slot = None }

pub loop-read-preserved : goal.loop-read-preserved
loop-read-preserved c =
    let xs = c.args.reads.now in
    let i = c.loop-read.read-index in
    let a = get_or xs i blank in
    let w = c.args.write.now in
    let tags = c.args.tags.now in
    let old = c.args.found.now.items in
    let so_far = c.loop-read.found.items in
    let one : take (i + 1) xs ≡ take i xs ++ a ∷ [] = take_more xs i blank c.loop-read-test.true in
    subst (λ (t : List Access). AddsMet tags t w old c.if-meets.found.items) (sym one)
    (elim c.if-meets.branch [
      | then-meets+in_ok-push k ↦
          let more : c.if-meets.found.items ≡ so_far ++ dep_of (site_of_access a) (site_of_access w) ∷ [] = cc (k.found-is, k.in_ok-push.ensures.items) in
          subst (λ (t : List Dep). AddsMet tags (take i xs ++ a ∷ []) w old t) (sym more) (met_more tags (take i xs) a w old so_far (c.meets.ensures.0 k.if-meets.true) c.loop-read.invariant)
      | else-meets k ↦
          let same : c.if-meets.found.items ≡ so_far = ap (λ v. v.items) k.found-is in
          subst (λ (t : List Dep). AddsMet tags (take i xs ++ a ∷ []) w old t) (sym same) (met_not tags (take i xs) a w old so_far (λ m. no_truth c.meets.result k.if-meets.false (c.meets.ensures.1 m)) c.loop-read.invariant)
    ])
