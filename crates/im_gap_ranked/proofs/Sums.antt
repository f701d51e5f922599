-- Any ordered code with its forced cuts has a longest gap: what all blocks cost up to a block is no less than what is left there.
use Rattle.std.proofs.Common.{◌≡◌, ℕ, zero, suc, ◌+◌, ◌≤◌, ◌⊎◌, inl, inr, List, [], ◌∷◌, Option, Some, None, refl, sym, ap, subst, arith}
use Rattle.std.specs.Prelude.{slice_get}
use Rattle.im_block.specs.declared.code.Line.{Line}
use Rattle.im_block.specs.declared.code.Line.TheVariants.{Cut}
use Rattle.im_block.specs.declared.code.Exit.{Exit}
use Rattle.im_block.specs.declared.code.Exit.TheVariants.{Jump, Turn, Branch, Return}
use Rattle.im_block.specs.declared.code.Block.{Block}
use Rattle.im_block.specs.declared.unit.Function.{Function}
use Rattle.im_block.specs.Shape.{Descends, sum_of, sum_below, with_cut, exit_words, placed_block_cost}
use Rattle.im_block.specs.Paths.{IsCut}
use Rattle.im_block.specs.Forced.{EndsWithCut, CutAtTurn}
use Rattle.im_cut_gap.specs.Remaining.{cost_on}
use Rattle.im_gap_ranked.specs.Laws.{LinkedGapLaw}
use Rattle.im_gap_ranked.proofs.Whole.{whole}

sum_zero : {X : Type 0} (w : X → ℕ) (xs : List X) → sum_below w xs 0 ≡ 0
sum_zero w [] = refl
sum_zero w (x ∷ xs) = refl

sum_more : {X : Type 0} (w : X → ℕ) (xs : List X) (b : ℕ) (x : X) → slice_get xs b ≡ Some x → sum_below w xs (suc b) ≡ sum_below w xs b + w x
sum_more w [] b x e = absurd cc
sum_more w (y ∷ xs) zero x e =
    let same : y ≡ x = cc in
    let z = sum_zero w xs in
    let here : w y ≡ w x = ap w same in
    omega arith
sum_more w (y ∷ xs) (suc b) x e = let h = sum_more w xs b x e in omega arith

sum_up : {X : Type 0} (w : X → ℕ) (xs : List X) (m n : ℕ) → m ≤ n → sum_below w xs m ≤ sum_below w xs n
sum_up w [] m n h = omega arith
sum_up w (y ∷ xs) zero n h = omega arith
sum_up w (y ∷ xs) (suc m) zero h = absurd (omega arith)
sum_up w (y ∷ xs) (suc m) (suc n) h = let k = sum_up w xs m n (omega arith) in omega arith

ends_rest : (line : Line) (lines : List Line) → (IsCut line → ⊥) → EndsWithCut (line ∷ lines) → EndsWithCut lines
ends_rest line [] h e = absurd (h e)
ends_rest line (next ∷ lines) h e = e

-- lines cost no more than their sum and what is left behind them, unless a cut stands between
lines_up : (left : ℕ → ℕ) (lines : List Line) (exit : Exit) (top : ℕ) → (cost_on left [] exit ≤ top) ⊎ EndsWithCut lines → cost_on left lines exit ≤ sum_of with_cut lines + top
lines_up left [] exit top (inl h) = omega arith
lines_up left [] exit top (inr e) = absurd e
lines_up left (Cut cause ∷ lines) exit top h = omega arith
lines_up left (line ∷ lines) exit top h =
    let k = lines_up left lines exit top (elim h [ inl a ↦ inl a | inr b ↦ inr (ends_rest line lines (λ z. z) b) ]) in
    omega arith

module _ (blocks : List Block) where
  abbrev sum : ℕ → ℕ
  sum b = sum_below placed_block_cost blocks b

  abbrev left : ℕ → ℕ
  left b = sum (suc b)

  exit_up : (b : ℕ) (exit : Exit) (lines : List Line) → Descends exit b → CutAtTurn exit lines → (cost_on left [] exit ≤ 1 + exit_words exit + sum b) ⊎ EndsWithCut lines
  exit_up b (Jump c) lines down cut = let up = sum_up placed_block_cost blocks (suc c) b (omega arith) in inl (omega arith)
  exit_up b (Turn c) lines down cut = inr cut
  exit_up b (Branch on x y) lines down cut =
      let dx = down.0 in
      let dy = down.1 in
      let up = sum_up placed_block_cost blocks (suc x) b (omega arith) in
      let over = sum_up placed_block_cost blocks (suc y) b (omega arith) in
      inl (omega arith)
  exit_up b (Return from) lines down cut = inl (omega arith)

  pub block_up : (b : ℕ) (block : Block) → slice_get blocks b ≡ Some block → Descends block.exit b → CutAtTurn block.exit block.lines.items → cost_on left block.lines.items block.exit ≤ left b
  block_up b block e down cut =
      let most = lines_up left block.lines.items block.exit (1 + exit_words block.exit + sum b) (exit_up b block.exit block.lines.items down cut) in
      let more = sum_more placed_block_cost blocks b block e in
      omega arith

abbrev lefts_of : Option Function → ℕ → ℕ
lefts_of None b = 0
lefts_of (Some f) b = left f.blocks.items b

pub linked_gap : LinkedGapLaw
linked_gap u statics layouts parts program ordered forced code linkable linked =
    whole u statics layouts parts program forced (λ i. lefts_of (slice_get u.functions.items i))
    (λ i f e b block g. subst (λ o. cost_on (lefts_of o) block.lines.items block.exit ≤ lefts_of o b) (sym e) (block_up f.blocks.items b block g ((ordered.each i f e).each b block g) ((forced.each i f e).turns b block g)))
    code linkable linked
