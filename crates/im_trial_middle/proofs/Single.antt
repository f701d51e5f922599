-- A unit of one function of one block, that returns.
use Rattle.std.proofs.Common.{◌≡◌, ℕ, zero, suc, List, [], ◌∷◌, None, Some, sym, ap, ◌∙◌, subst}
use Rattle.std.specs.Prelude.{slice_get}
use Rattle.im_block.specs.declared.code.Exit.TheVariants.{Return}
use Rattle.im_block.specs.declared.code.Block.{Block}
use Rattle.im_block.specs.declared.unit.Function.{Function}
use Rattle.im_block.specs.declared.unit.Unit.{Unit as Code}
use Rattle.im_block.specs.Shape.{Descends, IsOrdered, AllOrdered}
use Rattle.im_block.specs.Forced.{StartsWithCut, CutAfterCalls, CutAtTurn, IsForced, AllForced}

each_of_one : {X : Type 0} (P : X → Type 0) (x : X) (xs : List X) → xs ≡ x ∷ [] → P x → (i : ℕ) (y : X) → slice_get xs i ≡ Some y → P y
each_of_one P x xs is h i y e = by i (ap (λ l. slice_get l i) (sym is) ∙ e)
  where
    by : (i : ℕ) → slice_get (x ∷ []) i ≡ Some y → P y
    by zero q = let same : x ≡ y = cc in subst P same h
    by (suc i) q = cc

module _ (u : Code) (f : Function) (block : Block) (functions : u.functions.items ≡ f ∷ []) (blocks : f.blocks.items ≡ block ∷ []) (exit : block.exit ≡ Return None) where
  pub ordered : AllOrdered u
  ordered = record {
    each = each_of_one (λ (g : Function). IsOrdered g.blocks.items) f u.functions.items functions (record {
      each = λ b k at. each_of_one (λ (x : Block). Descends x.exit b) block f.blocks.items blocks (subst (λ e. Descends e b) (sym exit) tt) b k at;
    });
  }

  pub forced : StartsWithCut block.lines.items → CutAfterCalls block.lines.items → AllForced u
  forced starts calls = record {
    each = each_of_one IsForced f u.functions.items functions (record {
      entry = λ k at. each_of_one (λ (x : Block). StartsWithCut x.lines.items) block f.blocks.items blocks starts f.entry k at;
      calls = λ b k at. each_of_one (λ (x : Block). CutAfterCalls x.lines.items) block f.blocks.items blocks calls b k at;
      turns = λ b k at. each_of_one (λ (x : Block). CutAtTurn x.exit x.lines.items) block f.blocks.items blocks (subst (λ e. CutAtTurn e block.lines.items) (sym exit) tt) b k at;
    });
  }
