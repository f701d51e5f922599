use Rattle.std.proofs.Common.{rules, arith, ◌≡◌, ◌<◌, ◌-◌, length, slice_index, List, slice_index_or, subst, sym, ap, ◌∙◌}
use Rattle.im_gap.specs.declared.marks.Mark.TheVariants.{Unseen, Open}
use Rattle.std.proofs.lemmas.List.{get_or_default}
use Rattle.im_gap.specs.Graph.{successors_of}
use Rattle.im_gap.specs.Search.{mark_at}
use Rattle.im_gap.proofs.Visiting.{successors_inside, successor_has, visits_begin, visits_on, visits_back, visits_endless, visits_end}
use Rattle.im_gap.specs.declared.marks.Mark.{Mark}
use Rattle.im_gap.specs.Search.{AreCursorsOf}
use Rattle.im_gap.proofs.Cursors.{passed_kept}
use Rattle.im_gap.proofs.search.visit.Goals as goal

pub loop-top-init : goal.loop-top-init
loop-top-init c = (visits_begin _ _ _ _ _ _ _ c.in_ok-enter.ensures.searched c.new-path.ensures.items c.in_ok-enter.ensures.path, passed_kept _ _ _ _ _ c.requires.passed c.in_ok-enter.ensures.kept)

pub leave-requires-clause-searched : goal.leave-requires-clause-searched
leave-requires-clause-searched c = c.loop-top.invariant.0.searched

pub loop-top-preserved-then-at-successors : goal.loop-top-preserved-then-at-successors
loop-top-preserved-then-at-successors c = (visits_back _ _ _ _ _ _ _ _ c.in-Some.field-0.now c.loop-top.invariant.0 c.leave.ensures.searched c.leave.ensures.path c.leave.ensures.done, passed_kept _ _ _ _ _ (subst (λ (z : List Mark). AreCursorsOf c.args.graph.now z c.advance-at.new.cursors.items) c.deref-in-Some.ensures.value c.advance-at.ensures.passed) c.leave.ensures.kept)

pub index-requires : goal.index-requires
index-requires c =
    let at : c.advance-at.result < length c.successors-successors.result.now = search rules in
    let inside : slice_index c.successors-successors.result.now c.advance-at.result < length c.deref-in-Some.result.now = successors_inside _ _ _ _ _ c.requires.graph c.successors-successors.ensures.value c.deref-in-Some.ensures.value c.loop-top.invariant.0.searched.size c.advance-at.result at in
    search (rules, inside)

pub returns-then-eq-clause-endless : goal.returns-then-eq-clause-endless
returns-then-eq-clause-endless c = λ q b h.
    let some : 0 < length c.loop-top.path.items = search rules in
    let last : slice_index c.loop-top.path.items (length c.loop-top.path.items - 1) ≡ c.in-Some.field-0.now = search rules in
    let at : c.advance-at.result < length c.successors-successors.result.now = search rules in
    let is_open : mark_at c.loop-top.marks.items (slice_index_or c.successors-successors.result.now c.advance-at.result 0) ≡ Open =
    (let inside : slice_index c.successors-successors.result.now c.advance-at.result < length c.deref-in-Some.result.now = successors_inside _ _ _ _ _ c.requires.graph c.successors-successors.ensures.value c.deref-in-Some.ensures.value c.loop-top.invariant.0.searched.size c.advance-at.result at in
    let long : length c.deref-in-Some.result.now ≡ length c.loop-top.marks.items = ap length c.deref-in-Some.ensures.value in
    let same : c.index.result.now ≡ Open = search rules in
    get_or_default c.loop-top.marks.items (slice_index_or c.successors-successors.result.now c.advance-at.result 0) Unseen c.index.result.now (omega arith) ∙ sym c.index.ensures ∙ same) in
    visits_endless _ _ _ _ c.loop-top.marks.items c.loop-top.path.items (slice_index_or c.successors-successors.result.now c.advance-at.result 0) b c.loop-top.invariant.0 some
    (successor_has _ _ _ (c.successors-successors.ensures.value ∙ ap (successors_of c.args.graph.now) (sym last)) at) is_open h

pub enter-requires-else-at-successors-clause-searched : goal.enter-requires-else-at-successors-clause-searched
enter-requires-else-at-successors-clause-searched c = c.loop-top.invariant.0.searched

pub enter-requires-else-at-successors-clause-inside : goal.enter-requires-else-at-successors-clause-inside
enter-requires-else-at-successors-clause-inside c =
    let at : c.advance-at.result < length c.successors-successors.result.now = search rules in
    let inside : slice_index c.successors-successors.result.now c.advance-at.result < length c.deref-in-Some.result.now = successors_inside _ _ _ _ _ c.requires.graph c.successors-successors.ensures.value c.deref-in-Some.ensures.value c.loop-top.invariant.0.searched.size c.advance-at.result at in
    let long : length c.deref-in-Some.result.now ≡ length c.loop-top.marks.items = ap length c.deref-in-Some.ensures.value in
    let size = c.loop-top.invariant.0.searched.size in
    omega arith

pub loop-top-preserved : goal.loop-top-preserved
loop-top-preserved c = (visits_on _ _ _ _ c.loop-top.marks.items _ c.loop-top.path.items _ (slice_index_or c.successors-successors.result.now c.advance-at.result 0) c.loop-top.invariant.0 (search rules) c.in_ok-enter-2.ensures.searched c.in_ok-enter-2.ensures.path, passed_kept _ _ _ _ _ (subst (λ (z : List Mark). AreCursorsOf c.args.graph.now z c.advance-at.new.cursors.items) c.deref-in-Some.ensures.value c.advance-at.ensures.passed) c.in_ok-enter-2.ensures.kept)

pub returns-clause-searched : goal.returns-clause-searched
returns-clause-searched c = λ q.
    let none : length c.loop-top.path.items ≡ 0 = search rules in
    (visits_end _ _ _ _ c.loop-top.marks.items c.loop-top.path.items c.loop-top.invariant.0 none).0

pub returns-clause-done : goal.returns-clause-done
returns-clause-done c = λ q.
    let none : length c.loop-top.path.items ≡ 0 = search rules in
    (visits_end _ _ _ _ c.loop-top.marks.items c.loop-top.path.items c.loop-top.invariant.0 none).1
