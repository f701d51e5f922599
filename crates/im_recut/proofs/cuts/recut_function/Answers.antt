use Rattle.im_recut.proofs.Forms.{gaps_same, ordered, turns}
use Rattle.im_recut.proofs.cuts.recut_function.Goals as goal

pub cut_in-requires-clause-ordered : goal.cut_in-requires-clause-ordered
cut_in-requires-clause-ordered c =
    let same = gaps_same c.gap_same_law.ensures c.args.max_gap c.args.function.now c.bound_gaps.new.function c.in_ok-bound_gaps.ensures in
    ordered c.args.function.now c.bound_gaps.new.function same c.requires.ordered

pub cut_in-requires-clause-turns : goal.cut_in-requires-clause-turns
cut_in-requires-clause-turns c =
    let same = gaps_same c.gap_same_law.ensures c.args.max_gap c.args.function.now c.bound_gaps.new.function c.in_ok-bound_gaps.ensures in
    turns c.args.function.now c.bound_gaps.new.function same c.requires.turns

pub returns : goal.returns
returns c = record { gapped = c.bound_gaps.new.function; gaps = c.in_ok-bound_gaps.ensures; added = c.in_ok-cut_in.field-0.items; cuts = c.in_ok-cut_in.ensures }
