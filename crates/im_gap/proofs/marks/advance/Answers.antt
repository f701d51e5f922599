use Rattle.std.proofs.Common.{arith, ◌≡◌, ℕ, length, slice_index, ap, refl, ◌∙◌}
use Rattle.std.proofs.lemmas.List.{get_or_default}
use Rattle.im_gap.proofs.Visiting.{successors_inside}
use Rattle.im_gap.proofs.marks.advance.Goals as goal

pub waiting-at-requires-clause-inside : goal.waiting-at-requires-clause-inside
waiting-at-requires-clause-inside c = λ k l. successors_inside _ _ _ _ _ c.requires.graph c.successors.ensures.value refl c.requires.marks k l

pub waiting-at-requires-clause-within : goal.waiting-at-requires-clause-within
waiting-at-requires-clause-within c =
    let e : c.index.result.now ≡ slice_index c.args.cursors.now.items c.args.v = c.index.ensures ∙ get_or_default c.args.cursors.now.items c.args.v c.index.result.now 0 (let z = c.requires.passed.size in let i = c.requires.inside in omega arith) in
    let w = c.requires.passed.within c.args.v in
    let q = ap (length {A = ℕ}) c.successors.ensures.value in
    omega arith
