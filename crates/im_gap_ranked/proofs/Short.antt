-- Where no path without a cut costs more than a limit, little is left behind each cut, and no gap is long.
use Rattle.std.proofs.Common.{◌≡◌, ℕ, ◌+◌, Option, Some, None, inr, refl, subst, arith}
use Rattle.std.specs.Prelude.{slice_get}
use Rattle.im_block.specs.declared.code.Line.TheVariants.{Cut}
use Rattle.im_block.specs.declared.unit.Function.{Function}
use Rattle.im_block.specs.declared.unit.Unit.{Unit as Code}
use Rattle.im_block.specs.Paths.{spot}
use Rattle.im_block.specs.Shape.{AllOrdered}
use Rattle.im_block.specs.Forced.{AllForced}
use Rattle.im_cut_gap.specs.Remaining.{IsRemaining}
use Rattle.im_cut_gap.proofs.Remaining.{remaining}
use Rattle.im_gap_ranked.specs.Laws.{AllShort, LinkedShortLaw}
use Rattle.im_gap_ranked.proofs.Blocks.{block_base}
use Rattle.im_gap_ranked.proofs.Whole.{within}

module _ (u : Code) (ordered : AllOrdered u) (forced : AllForced u) (limit : ℕ) (short : AllShort limit u) where
  rest_of : (i : ℕ) (f : Function) → slice_get u.functions.items i ≡ Some f → (left : ℕ → ℕ) × IsRemaining limit f left
  rest_of i f e = remaining limit f (ordered.each i f e) (forced.each i f e).turns (short.each i f e)

  abbrev lefts_by : (i : ℕ) (o : Option Function) → slice_get u.functions.items i ≡ o → ℕ → ℕ
  lefts_by i None e b = 0
  lefts_by i (Some f) e b = (rest_of i f e).0 b

  abbrev lefts : ℕ → ℕ → ℕ
  lefts i = lefts_by i (slice_get u.functions.items i) refl

  lefts_remain : (i : ℕ) (f : Function) → slice_get u.functions.items i ≡ Some f → IsRemaining limit f (lefts i)
  lefts_remain i f = by (slice_get u.functions.items i) refl
    where
      by : (o : Option Function) (e : slice_get u.functions.items i ≡ o) → o ≡ Some f → IsRemaining limit f (lefts_by i o e)
      by None e q = absurd cc
      by (Some g) e q = let same : g ≡ f = cc in subst (λ z. IsRemaining limit z (lefts_by i (Some g) e)) same (rest_of i g e).1

pub linked_short : LinkedShortLaw
linked_short u statics layouts parts program ordered forced limit short code linkable linked k gap =
    let left : ℕ → ℕ → ℕ = lefts u ordered forced limit short in
    let remain = lefts_remain u ordered forced limit short in
    let top : ℕ = block_base + 3 + limit in
    let most = within u statics layouts parts program forced left
    (λ i f e b block g. (let is = (remain i f e).blocks b block g in omega arith))
    code linkable linked top (omega arith)
    (λ i f e b block g before cause rest q.
    (let less = (remain i f e).begins (spot b rest block.exit) (inr (record { block = block; before = before; cut = Cut cause; at = g; lines = q; is_cut = tt; exit = refl })) in omega arith))
    gap.from gap.walk gap.resumes gap.goes in
    let all = gap.reached in
    omega arith
