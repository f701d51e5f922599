-- Functions with gap cuts: their edges, and the cuts before their loop edges.
use Rattle.std.proofs.Common.{◌≡◌, ℕ, List, [], ◌∷◌, Option, Some, None, refl, sym, ap, ◌∙◌, subst}
use Rattle.std.specs.Prelude.{slice_get}
use Rattle.im_block.specs.declared.code.Line.{Line}
use Rattle.im_block.specs.declared.code.Line.TheVariants.{Cut}
use Rattle.im_block.specs.declared.code.Exit.{Exit}
use Rattle.im_block.specs.declared.code.Exit.TheVariants.{Jump, Turn, Branch, Return}
use Rattle.im_block.specs.declared.code.Block.{Block}
use Rattle.im_block.specs.declared.unit.Function.{Function}
use Rattle.im_block.specs.Paths.{IsCut}
use Rattle.im_block.specs.Shape.{Descends, IsOrdered}
use Rattle.im_block.specs.Forced.{EndsWithCut, CutAtTurn}
use Rattle.im_block.specs.Uncut.{WithCuts, Empty, Same, Added, SameBlock, SameFunction}
use Rattle.im_block.proofs.Unitwise.{zip_same, zip_then, zip_old}
use Rattle.im_cut_gap.specs.Laws.{GapSameLaw}
use Rattle.im_recut.specs.Recut.{cost_limit, GapsTo}

-- no further cuts

lines_same : (lines : List Line) → WithCuts lines lines
lines_same [] = Empty
lines_same (line ∷ lines) = Same line lines lines (lines_same lines)

function_same : (f : Function) → SameFunction f f
function_same f = record { blocks = zip_same SameBlock (λ b. record { lines = lines_same b.lines.items; exit = refl }) f.blocks.items; rest = refl }

pub gaps_same : GapSameLaw → (max_gap : Option ℕ) (old new : Function) → GapsTo max_gap old new → SameFunction old new
gaps_same law None old new h = subst (SameFunction old) (sym h) (function_same old)
gaps_same law (Some gap) old new h = law (cost_limit gap) old new h

-- further cuts, and then more

lines_twice : (a b c : List Line) → WithCuts a b → WithCuts b c → WithCuts a c
lines_twice a b c h Empty = h
lines_twice a b c h (Added cause x y k) = Added cause a y (lines_twice a x y h k)
lines_twice a b c h (Same line x y k) = under (λ i g. lines_twice i x y g k) a (line ∷ x) h refl
  where
    under : ((i : List Line) → WithCuts i x → WithCuts i y) → (p q : List Line) → WithCuts p q → q ≡ line ∷ x → WithCuts p (line ∷ y)
    under again p q Empty e = cc
    under again p q (Same l i j g) e =
        let head : l ≡ line = cc in
        let tail : j ≡ x = cc in
        subst (λ (t : Line). WithCuts (t ∷ i) (line ∷ y)) (sym head) (Same line i y (again i (subst (WithCuts i) tail g)))
    under again p q (Added cause i j g) e =
        let head : Cut cause ≡ line = cc in
        let tail : j ≡ x = cc in
        subst (λ (t : Line). WithCuts p (t ∷ y)) head (Added cause p y (again p (subst (WithCuts p) tail g)))

block_twice : (x y z : Block) → SameBlock x y → SameBlock y z → SameBlock x z
block_twice x y z h k = record { lines = lines_twice x.lines.items y.lines.items z.lines.items h.lines k.lines; exit = k.exit ∙ h.exit }

pub twice_same : (f g h : Function) → SameFunction f g → SameFunction g h → SameFunction f h
twice_same f g h a b = record {
  blocks = zip_then SameBlock SameBlock SameBlock block_twice f.blocks.items g.blocks.items h.blocks.items a.blocks b.blocks;
  rest = b.rest ∙ ap (λ (k : Function). record k { blocks = h.blocks }) a.rest;
}

-- the last line is a cut

ends_more : (line : Line) (lines : List Line) → EndsWithCut lines → EndsWithCut (line ∷ lines)
ends_more line [] h = absurd h
ends_more line (next ∷ lines) h = h

only_cuts : (old new : List Line) (line : Line) → WithCuts old new → old ≡ [] → IsCut line → EndsWithCut (line ∷ new)
only_cuts old new line Empty e h = h
only_cuts old new line (Same l a b d) e h = cc
only_cuts old new line (Added cause a b d) e h = only_cuts old b (Cut cause) d e tt

ends_kept : (old new : List Line) → WithCuts old new → EndsWithCut old → EndsWithCut new
ends_kept old new Empty h = h
ends_kept old new (Same line [] b d) h = only_cuts [] b line d refl h
ends_kept old new (Same line (next ∷ a) b d) h = ends_more line b (ends_kept (next ∷ a) b d h)
ends_kept old new (Added cause a b d) h = ends_more (Cut cause) b (ends_kept old b d h)

turn_kept : (exit : Exit) (old new : List Line) → WithCuts old new → CutAtTurn exit old → CutAtTurn exit new
turn_kept (Jump b) old new d h = tt
turn_kept (Turn b) old new d h = ends_kept old new d h
turn_kept (Branch on x y) old new d h = tt
turn_kept (Return from) old new d h = tt

-- a function with further cuts

module _ (old new : Function) (same : SameFunction old new) where
  pub ordered : IsOrdered old.blocks.items → IsOrdered new.blocks.items
  ordered h = record {
    each = λ b block at.
        let t = zip_old SameBlock old.blocks.items new.blocks.items b block same.blocks at in
        subst (λ (e : Exit). Descends e b) (sym t.is.exit) (h.each b t.old t.at);
  }

  pub turns : ((b : ℕ) (block : Block) → slice_get old.blocks.items b ≡ Some block → CutAtTurn block.exit block.lines.items) → (b : ℕ) (block : Block) → slice_get new.blocks.items b ≡ Some block → CutAtTurn block.exit block.lines.items
  turns h b block at =
      let t = zip_old SameBlock old.blocks.items new.blocks.items b block same.blocks at in
      subst (λ (e : Exit). CutAtTurn e block.lines.items) (sym t.is.exit) (turn_kept t.old.exit t.old.lines.items block.lines.items t.is.lines (h b t.old t.at))
