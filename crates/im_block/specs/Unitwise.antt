-- Code that is made of other code block by block, or function by function, with all else as it was.
use Rattle.std.specs.Prelude.{◌≡◌, ℕ, zero, suc, List, [], ◌∷◌}
use Rattle.std.specs.List.{AllZip}
use Rattle.im_block.specs.declared.code.Block.{Block}
use Rattle.im_block.specs.declared.unit.Function.{Function}
use Rattle.im_block.specs.declared.unit.Unit.{Unit as Code}

-- each block of the new function is R of the old one at its place
pub record EachBlock (R : Block → Block → Type 0) (old new : Function) : Type 0 where
  pub blocks : AllZip R old.blocks.items new.blocks.items
  pub rest : new ≡ record old { blocks = new.blocks }

-- each function of the new unit is R of the old one at its place
pub record EachFunction (R : Function → Function → Type 0) (old new : Code) : Type 0 where
  pub functions : AllZip R old.functions.items new.functions.items
  pub rest : new ≡ record old { functions = new.functions }

-- place by place, where R needs a number too: n for the first ones, next x m behind x with m
abbrev pub AllZipFrom : {X : Type 0} → (X → ℕ → ℕ) → (ℕ → X → X → Type 0) → ℕ → List X → List X → Type 0
AllZipFrom next R n [] [] = Unit {0}
AllZipFrom next R n (x ∷ xs) (y ∷ ys) = R n x y × AllZipFrom next R (next x n) xs ys
AllZipFrom next R n [] (y ∷ ys) = ⊥
AllZipFrom next R n (x ∷ xs) [] = ⊥

-- the number of the element at place i; behind the end of the list, the number behind its last
abbrev pub number_at : {X : Type 0} → (X → ℕ → ℕ) → ℕ → List X → ℕ → ℕ
number_at next n [] i = n
number_at next n (x ∷ xs) zero = n
number_at next n (x ∷ xs) (suc i) = number_at next (next x n) xs i

-- places in order
abbrev pub place_behind : {X : Type 0} → X → ℕ → ℕ
place_behind x n = suc n
