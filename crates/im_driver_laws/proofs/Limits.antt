-- What the relations say of the limits of a source's unit, the functions say too.
use Rattle.std.proofs.Common.{◌≡◌, ℕ, List, None, subst}
use Rattle.im_ctree.specs.Tree as t
use Rattle.im_ctree.specs.Shape.{tree_of}
use Rattle.im_check.specs.im_rules_limits.Limits as limits
use Rattle.im_rules_asked.specs.Limits.{first_over, first_excess_of}
use Rattle.im_rules_asked.specs.Laws.{ExceedsIsExcess, WithinHasNoExcess, SmallHasNoLarge}
use Rattle.im_driver.specs.Compiled.{IsExceeded, IsExceededByStatics}
use Rattle.im_driver_laws.specs.Rules.{OneUnitLaw, IsExcessOf, ProgramHasNoExcessLaw, RefusedIsExcessLaw, StaticsAreLastLaw}

pub has_no_excess : OneUnitLaw → WithinHasNoExcess → ProgramHasNoExcessLaw
has_no_excess one few source prog tokens tree h is_tree =
    let same = one source h.tokens tokens h.tree tree h.is_tree is_tree in
    subst (λ (z : t.Tree). first_excess_of z ≡ None) same (few (tree_of h.tree) h.within)

exceeded :
    ExceedsIsExcess → (source : List ℕ) (limit : limits.Limit) (count : ℕ) →
    IsExceeded source limit count → IsExcessOf source limit count
exceeded over source limit count r = record {
  tokens = r.tokens;
  tree = r.tree;
  is_tree = r.is_tree;
  excess = over (tree_of r.tree) limit count r.exceeds;
}

by_statics :
    ExceedsIsExcess → (source : List ℕ) (count : ℕ) → IsExceededByStatics source count →
    IsExcessOf source limits.of_statics count
by_statics over source count r = record {
  tokens = r.tokens;
  tree = r.tree;
  is_tree = r.is_tree;
  excess = over (tree_of r.tree) limits.of_statics count r.exceeds;
}

pub is_excess : ExceedsIsExcess → RefusedIsExcessLaw
is_excess over source limits.of_parameters count r = exceeded over source limits.of_parameters count r
is_excess over source limits.of_size count r = exceeded over source limits.of_size count r
is_excess over source limits.of_statics count r = by_statics over source count r

pub statics_last : OneUnitLaw → SmallHasNoLarge → StaticsAreLastLaw
statics_last one small source count tokens tree r is_tree =
    let same = one source r.tokens tokens r.tree tree r.is_tree is_tree in
    subst (λ (z : t.Tree). first_over limits.of_size z ≡ None) same (small (tree_of r.tree) r.sizes)
