-- Bounds on placed code, from the promises of the passes before selection.
use Rattle.std.proofs.Common.{◌≡◌, ℕ, zero, suc, ◌*◌, ◌≤◌, List, [], ◌∷◌, map, length, Some, None, sym, ap, ◌∙◌, subst, arith}
use Rattle.std.specs.Prelude.{slice_get}
use Rattle.im_block.specs.declared.unit.Function.{Function}
use Rattle.im_block.specs.declared.unit.Static.{Static as StaticOf}
use Rattle.im_block.specs.declared.unit.Unit.{Unit as Code}
use Rattle.im_block.specs.Meaning.{static_of, statics_of}
use Rattle.im_block.specs.Shape.{sum_of, function_cost, placed_cost}
use Rattle.im_block.specs.Uncut.{SameFunction, SameButCuts}
use Rattle.im_block.proofs.Unitwise.{zip_sum, all_at}
use Rattle.im_block_laws.specs.Laws.{CutsKeepCodeLaw}
use Rattle.im_alloc_placed.specs.Placeable.{IsPlaceable}
use Rattle.im_alloc_placed.specs.Placed.{frame_bytes, IsPlacedFunction, IsPlacedCode}
use Rattle.im_alloc_placed.specs.Laws.{CutsKeepPlacesLaw}
use Rattle.im_force.specs.Laws.{ForceKeepsLaw}
use Rattle.im_keeps_passes.specs.Source.{Source}
use Rattle.im_keeps_passes.specs.Passes.{needs_of, Prepares}
use Rattle.im_keeps_passes.specs.Laws.{CodeBounds, CodeBoundsLaw}
use Rattle.im_keeps_passes.proofs.Units.{statics_kept, needs_kept}

need_at : (fs : List Function) (i need : ℕ) (f : Function) → slice_get (map (λ (g : Function). g.need) fs) i ≡ Some need → slice_get fs i ≡ Some f → f.need ≡ need
need_at [] i need f n e = let bad : None ≡ Some f = e in cc
need_at (g ∷ gs) zero need f n e =
    let one : g ≡ f = cc in
    let is : g.need ≡ need = cc in
    ap (λ (x : Function). x.need) (sym one) ∙ is
need_at (g ∷ gs) (suc i) need f n e = need_at gs i need f n e

module _ (keep : CutsKeepCodeLaw) (places : CutsKeepPlacesLaw) (force : ForceKeepsLaw) (source : Source) (code : Code) (p : Prepares source code) where
  forced_same : SameButCuts p.lowered p.forced
  forced_same = force.same p.lowered p.forced p.force

  trimmed_placeable : IsPlaceable p.trimmed
  trimmed_placeable = places.placeable p.forced p.trimmed p.cut.same (places.placeable p.lowered p.forced forced_same p.lower.placeable)

  placed : IsPlacedCode code
  placed = places.placed p.placed code p.recut.same (p.place.placed trimmed_placeable)

  needs_are : needs_of code ≡ source.needs
  needs_are =
      needs_kept p.placed code p.recut.same ∙ p.place.needs ∙ needs_kept p.forced p.trimmed p.cut.same ∙ needs_kept p.lowered p.forced forced_same ∙ p.lower.needs

  statics_are : statics_of code ≡ source.statics
  statics_are =
      statics_kept p.placed code p.recut.same ∙ ap (λ (l : List StaticOf). map static_of l) p.place.statics ∙ statics_kept p.forced p.trimmed p.cut.same ∙ statics_kept p.lowered p.forced forced_same ∙ p.lower.statics

  cost_same : (old new : Code) → SameButCuts old new → sum_of function_cost new.functions.items ≡ sum_of function_cost old.functions.items
  cost_same old new same = zip_sum SameFunction function_cost (λ f g s. (keep.costs f g s).cost) old.functions.items new.functions.items same.functions

  placed_same : (old new : Code) → SameButCuts old new → sum_of placed_cost new.functions.items ≡ sum_of placed_cost old.functions.items
  placed_same old new same = zip_sum SameFunction placed_cost (λ f g s. (keep.costs f g s).placed) old.functions.items new.functions.items same.functions

  cost : sum_of placed_cost code.functions.items ≤ 64 * source.nodes
  cost =
      let recut = placed_same p.placed code p.recut.same in
      let place = p.place.cost in
      let cut = cost_same p.forced p.trimmed p.cut.same in
      let forced = cost_same p.lowered p.forced forced_same in
      let lower = p.lower.cost in
      omega arith

  pub bounds : CodeBounds source code
  bounds = record {
    apart = p.recut.apart (p.place.apart (p.cut.apart (force.apart p.lowered p.forced p.force p.lower.uncut)));
    cost = cost;
    needs = needs_are;
    statics = statics_are;
    frames_fit = λ i need f n e.
        let fits = (all_at (IsPlacedFunction (length code.statics.items)) code.functions.items i f placed.functions e).fits in
        let same = need_at code.functions.items i need f (ap (λ ns. slice_get ns i) needs_are ∙ n) e in
        subst (λ z. frame_bytes f ≤ z) same fits;
  }

pub code_bounds : CutsKeepCodeLaw → CutsKeepPlacesLaw → ForceKeepsLaw → CodeBoundsLaw
code_bounds keep places force source code p = bounds keep places force source code p
