use Rattle.std.proofs.Common.{◌≡◌, ℕ, List, refl, sym, subst, arith, length}
use Rattle.std.specs.Prelude.{All}
use Rattle.std.proofs.lemmas.List.{with_items_is}
use Rattle.im_block.specs.declared.code.Block.{Block}
use Rattle.im_alloc_relation.specs.Homes.{Home}
use Rattle.im_alloc_relation.specs.Placing.{PlacedBlocks}
use Rattle.im_alloc_intervals.specs.Homes.{home_at}
use Rattle.im_alloc.specs.Places.{FitsBlock, PlacesBlocks}
use Rattle.im_alloc.proofs.Whole.{all_fit}
use Rattle.im_alloc.proofs.placing.place_function.Goals as goal

pub place_blocks-requires : goal.place_blocks-requires
place_blocks-requires c = subst (λ (q : List Block). All FitsBlock q) (sym c.deref_mut.ensures.value) (all_fit c.args.function.now c.requires)

pub returns : goal.returns
returns c =
    let homes = c.in_ok-homes.homes in
    let old : List Block = c.args.function.now.blocks.items in
    let new : List Block = c.place_blocks.new.blocks in
    let h : ℕ → Home = home_at homes.of.items in
    let at_homes = subst (λ q. PlacesBlocks (home_at q) c.args.number c.in_ok-next.next c.deref_mut.result.now new) c.deref.ensures.value c.in_ok-next.ensures in
    let placed = subst (λ (q : List Block). PlacesBlocks h c.args.number c.in_ok-next.next q new) c.deref_mut.ensures.value at_homes in
    let count : length new ≡ c.args.function.now.blocks.len = omega arith in
    let items = with_items_is c.args.function.now.blocks new count in
    record {
      homes = homes;
      suits = c.in_ok-homes.ensures.homes;
      leaf = c.in_ok-homes.ensures.leaf;
      blocks = subst (λ (q : List Block). PlacedBlocks h c.args.number old q) (sym items) placed.placed;
      rest = refl;
      next_is = placed.next_is;
    }
