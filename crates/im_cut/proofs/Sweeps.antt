-- What stands at one block of a function that is swept.
use Rattle.std.proofs.Common.{◌≡◌, ℕ, zero, suc, ◌+◌, List, [], ◌∷◌, Option, Some, refl, subst, arith}
use Rattle.std.specs.Prelude.{Bool, slice_get}
use Rattle.im_block.specs.declared.access.Tags.{Tags}
use Rattle.im_block.specs.declared.access.Dep.{Dep}
use Rattle.im_block.specs.declared.code.Block.{Block}
use Rattle.im_block.specs.Meaning.{Site}
use Rattle.im_cut.specs.Sweep.{Marks, SweepLines, SweepBlocks}

pub record SweptBlock (tags : Tags) (covers : Site → Site → Bool) (starts ends : ℕ → Marks) (b : ℕ) (old : Option Block) (y : Block) : Type 0 where
  pub was : Block
  pub at : old ≡ Some was
  pub own : List Dep
  pub lines : SweepLines tags covers (starts b) was.lines.items y.lines.items own (ends b)
  pub exit : y.exit ≡ was.exit

pub some_same : {A : Type 0} (a b : A) → Some a ≡ Some b → a ≡ b
some_same a b e = cc

find_block : (tags : Tags) (covers : Site → Site → Bool) (starts ends : ℕ → Marks) (b : ℕ) (xs ys : List Block) (added : List Dep) (k : ℕ) (y : Block) → SweepBlocks tags covers starts ends b xs ys added → slice_get ys k ≡ Some y → SweptBlock tags covers starts ends (b + k) (slice_get xs k) y
find_block tags covers starts ends b [] [] added k y h e = cc
find_block tags covers starts ends b (x ∷ xs) [] added k y h e = absurd h
find_block tags covers starts ends b [] (z ∷ ys) added k y h e = absurd h
find_block tags covers starts ends b (x ∷ xs) (z ∷ ys) added zero y h e =
    let one : z ≡ y = some_same z y e in
    let here : b ≡ b + 0 = omega arith in
    subst (λ n. SweptBlock tags covers starts ends n (Some x) y) here (subst (λ (q : Block). SweptBlock tags covers starts ends b (Some x) q) one (record { was = x; at = refl; own = h.1; lines = h.4; exit = h.5 }))
find_block tags covers starts ends b (x ∷ xs) (z ∷ ys) added (suc k) y h e =
    let here : suc b + k ≡ b + suc k = omega arith in
    subst (λ n. SweptBlock tags covers starts ends n (slice_get xs k) y) here (find_block tags covers starts ends (suc b) xs ys h.0 k y h.3 e)

pub swept_block : (tags : Tags) (covers : Site → Site → Bool) (starts ends : ℕ → Marks) (xs ys : List Block) (added : List Dep) (b : ℕ) (y : Block) → SweepBlocks tags covers starts ends 0 xs ys added → slice_get ys b ≡ Some y → SweptBlock tags covers starts ends b (slice_get xs b) y
swept_block tags covers starts ends xs ys added b y h e =
    let here : 0 + b ≡ b = omega arith in
    subst (λ n. SweptBlock tags covers starts ends n (slice_get xs b) y) here (find_block tags covers starts ends 0 xs ys added b y h e)
