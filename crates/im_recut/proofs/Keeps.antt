-- Gap cuts and greedy cuts function by function: what they change, that sections are right with them, and no path too long.
use Rattle.std.proofs.Common.{◌≡◌, ◌≤◌, ℕ, Option, Some, None, sym, subst, arith}
use Rattle.std.specs.Prelude.{◌-◌, slice_get}
use Rattle.im_block.specs.declared.access.Tags.{Tags}
use Rattle.im_block.specs.declared.code.Block.{Block}
use Rattle.im_block.specs.declared.unit.Function.{Function}
use Rattle.im_block.specs.declared.unit.Unit.{Unit as Code}
use Rattle.im_block.specs.Shape.{IsOrdered, AllOrdered}
use Rattle.im_block.specs.Forced.{CutAtTurn, AllForced}
use Rattle.im_block.specs.Uncut.{SameFunction}
use Rattle.im_block.proofs.Unitwise.{Old, zip_old, zip_so}
use Rattle.im_alloc_placed.specs.Apart.{CutsApart}
use Rattle.im_cut.specs.Laws.{SameLaw, ApartLaw}
use Rattle.im_cut_gap.specs.Costs.{NoneLonger}
use Rattle.im_cut_gap.specs.Laws.{GapSameLaw, GapApartLaw}
use Rattle.im_cut_gap.specs.Remaining.{FurtherLaw}
use Rattle.im_recut.specs.Recut.{IsGapLimit, cost_limit, GapsTo, RecutsFunction, RecutsTo}
use Rattle.im_recut.specs.Laws.{AllWithinGap, RecutKeepsLaw}
use Rattle.im_recut.proofs.Forms.{gaps_same, twice_same, ordered, turns}
use Rattle.im_recut.proofs.Behind.{begin_lies}

module _ (law : SameLaw) (gap_law : GapSameLaw) (tags : Tags) (max_gap : Option ℕ) where
  function_same : (f g : Function) → RecutsFunction tags max_gap f g → SameFunction f g
  function_same f g h = twice_same f h.gapped g (gaps_same gap_law max_gap f h.gapped h.gaps) (law tags h.gapped g h.added h.cuts)

-- the old function that one of the new code is made of
made : (tags : Tags) (max_gap : Option ℕ) (old new : Code) → RecutsTo tags max_gap old new → (i : ℕ) (g : Function) → slice_get new.functions.items i ≡ Some g → Old (RecutsFunction tags max_gap) old.functions.items i g
made tags max_gap old new h i g at = zip_old (RecutsFunction tags max_gap) old.functions.items new.functions.items i g h.functions at

abbrev AreApart : Function → Type 0
AreApart f = (b : ℕ) (block : Block) → slice_get f.blocks.items b ≡ Some block → CutsApart block.lines.items

gaps_apart : GapApartLaw → (max_gap : Option ℕ) (old new : Function) → IsGapLimit max_gap → GapsTo max_gap old new → AreApart old → AreApart new
gaps_apart law None old new limit h apart = subst AreApart (sym h) apart
gaps_apart law (Some gap) old new limit h apart = law (cost_limit gap) old new enough h apart
  where
    enough : 8 ≤ gap - 110
    enough = omega arith

-- no path of the answer is longer than one of the code with gap cuts
function_short : SameLaw → GapSameLaw → FurtherLaw → (tags : Tags) (gap : ℕ) (f g : Function) → RecutsFunction tags (Some gap) f g → IsOrdered f.blocks.items →
    ((b : ℕ) (block : Block) → slice_get f.blocks.items b ≡ Some block → CutAtTurn block.exit block.lines.items) → NoneLonger (cost_limit gap) g
function_short same gap_same further tags gap f g h order turn =
    let first = gap_same (cost_limit gap) f h.gapped h.gaps in
    let second = same tags h.gapped g h.added h.cuts in
    let order_now = ordered h.gapped g second (ordered f h.gapped first order) in
    let turn_now = turns h.gapped g second (turns f h.gapped first turn) in
    further (cost_limit gap) h.gapped g second (begin_lies tags h.gapped g h.added second h.cuts order_now turn_now) h.gaps.bounded

all_short : SameLaw → GapSameLaw → FurtherLaw → (tags : Tags) (max_gap : Option ℕ) (old new : Code) → RecutsTo tags max_gap old new → AllOrdered old → AllForced old → AllWithinGap max_gap new
all_short same gap_same further tags None old new h order forced = tt
all_short same gap_same further tags (Some gap) old new h order forced = λ i g at.
    let m = made tags (Some gap) old new h i g at in
    function_short same gap_same further tags gap m.old g m.is (order.each i m.old m.at) (forced.each i m.old m.at).turns

pub keeps : SameLaw → ApartLaw → GapSameLaw → GapApartLaw → FurtherLaw → RecutKeepsLaw
keeps same apart gap_same gap_apart further = record {
  same = λ tags max_gap old new h. record {
    functions = zip_so (RecutsFunction tags max_gap) SameFunction old.functions.items new.functions.items (λ i f g at k. function_same same gap_same tags max_gap f g k) h.functions;
    rest = h.rest;
  };
  sectioned = λ tags max_gap old new h. record {
    each = λ i g at. (made tags max_gap old new h i g at).is.cuts.sectioned;
  };
  apart = λ tags max_gap old new h all. record {
    each = λ i g b block at there.
        let m = made tags max_gap old new h i g at in
        apart tags m.is.gapped g m.is.added m.is.cuts
        (gaps_apart gap_apart max_gap m.old m.is.gapped h.limit m.is.gaps (λ j x k. all.each i m.old j x m.at k))
        b block there;
  };
  short = all_short same gap_same further;
}
