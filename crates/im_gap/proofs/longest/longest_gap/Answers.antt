use Rattle.std.proofs.Common.{rules, arith, ◌≡◌, ◌≤◌, ◌<◌, ◌+◌, ℕ, List, length, sym, subst, ◌∙◌}
use Rattle.im_gap.specs.Walks.{IsGreatest}
use Rattle.im_gap.specs.Graph.{successors_of, weight_of}
use Rattle.im_gap.specs.Gap.{recovery_steps, IsGap, HasGap}
use Rattle.im_gap.proofs.Assembling.{is_graph}
use Rattle.im_gap.proofs.ManyStarts.{starts_inside, none, gap_of, no_gap}
use Rattle.im_gap.proofs.longest.longest_gap.Goals as goal

pub longest-requires-clause-graph : goal.longest-requires-clause-graph
longest-requires-clause-graph c = is_graph _ _ c.in_ok-graph.ensures (subst (λ (z : List ℕ). length z ≤ 261120) (sym c.as_slice-words.ensures.value) c.requires)

pub longest-requires-clause-inside : goal.longest-requires-clause-inside
longest-requires-clause-inside c = λ k l.
    let i = starts_inside c.as_slice-words.result.now c.args.code.now.entry c.deref.result.now (c.deref.ensures.value ∙ c.in_ok-starts.ensures) k l in
    let size = c.in_ok-graph.ensures.count in
    omega arith

pub returns-then-is_empty-clause-undefined : goal.returns-then-is_empty-clause-undefined
returns-then-is_empty-clause-undefined c = λ q g.
    let empty : length c.in_ok-starts.starts.items ≡ 0 = search rules in
    none c.as_slice-words.result.now c.args.code.now.entry c.in_ok-starts.starts.items c.in_ok-starts.ensures empty (subst (λ (z : List ℕ). HasGap z c.args.code.now.entry) (sym c.as_slice-words.ensures.value) g)

pub returns-in-None-clause-undefined : goal.returns-in-None-clause-undefined
returns-in-None-clause-undefined c = λ q g.
    let e = c.in_ok-longest.ensures.endless c.in-None.is in
    no_gap c.as_slice-words.result.now c.args.code.now.entry _ c.in_ok-graph.ensures c.deref.result.now (c.deref.ensures.value ∙ c.in_ok-starts.ensures) e.0 e.1 e.2 (subst (λ (z : List ℕ). HasGap z c.args.code.now.entry) (sym c.as_slice-words.ensures.value) g)

pub returns-clause-gap : goal.returns-clause-gap
returns-clause-gap c =
    let some : 0 < length c.deref.result.now = search rules in
    let g : IsGreatest (successors_of c.in_ok-graph.graph) (weight_of c.in_ok-graph.graph) c.deref.result.now c.in-Some.length = search rules in
    subst (λ (z : List ℕ). IsGap z c.args.code.now.entry (recovery_steps + c.in-Some.length)) c.as_slice-words.ensures.value
    (gap_of c.as_slice-words.result.now c.args.code.now.entry _ c.in_ok-graph.ensures c.deref.result.now (c.deref.ensures.value ∙ c.in_ok-starts.ensures) c.in-Some.length some g)
