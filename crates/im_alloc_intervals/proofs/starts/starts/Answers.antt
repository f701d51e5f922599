use Rattle.std.proofs.Common.{rules, length, refl}
use Rattle.std.proofs.lemmas.List.Sorted.{IsNonDecreasingBy-from_sort_by_key}
use Rattle.im_alloc_intervals.specs.declared.starts.Start.{Start}
use Rattle.im_alloc_intervals.proofs.Sorting.{starts_of}
use Rattle.im_alloc_intervals.proofs.starts.starts.Goals as goal

pub returns : goal.returns
returns c =
    starts_of c.args.from (length c.args.intervals.now) c.args.intervals.now _ _ refl c.in_ok-starts.ensures c.in_ok-sort_by_key.ensures.permutation
    (IsNonDecreasingBy-from_sort_by_key (λ (s : Start). s.first) _ c.in_ok-sort_by_key.ensures.sorted (λ a r q k. search rules))
