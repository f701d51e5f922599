use Rattle.std.proofs.Common.{◌≡◌, ◌∙◌, List, [], ◌∷◌, None, true, false, sym, subst, ⊎_elim, take, get_or}
use Rattle.std.proofs.lemmas.List.{take_more}
use Rattle.im_block.specs.declared.access.Access.{Access}
use Rattle.im_block.specs.Sections.{Has}
use Rattle.im_block.specs.Paths.{MeetAt}
use Rattle.im_dep.specs.Sites.{site_of_access}
use Rattle.im_cut.proofs.Standing.{has_item, has_split}
use Rattle.im_cut.proofs.marks.first_met.Goals as goal

abbrev blank : Access
blank = record { number = 0; write = false; size = 0; slot = None }

clash : true ≡ false → ⊥
clash e = cc

pub loop-read-preserved : goal.loop-read-preserved
loop-read-preserved c =
    let xs = c.args.reads.now in
    let i = c.loop-read.read-index in
    let a = get_or xs i blank in
    λ r h m.
    ⊎_elim
    (λ t. c.loop-read.invariant r t m)
    (λ t. ⊎_elim (λ e. clash (sym (c.meets.ensures.1 (subst (λ (x : Access). MeetAt c.args.tags.now (site_of_access c.args.write.now) (site_of_access x)) (sym e) m)) ∙ c.if-meets.false)) (λ z. absurd z) t)
    (has_split (take i xs) (a ∷ []) r (subst (λ (t : List Access). Has t r) (take_more xs i blank c.loop-read-test.true) h))

pub returns-then-meets : goal.returns-then-meets
returns-then-meets c = (has_item c.args.reads.now c.loop-read.read-index blank c.loop-read-test.true, c.meets.ensures.0 c.if-meets.true)
