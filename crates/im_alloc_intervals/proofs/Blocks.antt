-- Blocks of a function, and what is so of each.
use Rattle.std.proofs.Common.{◌≡◌, ℕ, List, Some, length, sym, subst}
use Rattle.std.specs.Prelude.{All, slice_get}
use Rattle.std.proofs.lemmas.List.Elements.{All-get_or}
use Rattle.std.proofs.lemmas.Option.{slice_get_within, get_or_from_slice_get}
use Rattle.im_block.specs.declared.code.Block.{Block}
use Rattle.im_block.specs.Wellformed.{LineWithin, ExitThere}
use Rattle.im_block_live.specs.Words.{AreLinked}

pub all_at : {X : Type 0} (P : X → Type 0) (xs : List X) (i : ℕ) (x : X) → All P xs → slice_get xs i ≡ Some x → P x
all_at P xs i x a e = subst P (get_or_from_slice_get xs i x x e) (All-get_or P xs i x (slice_get_within xs i x e) a)

pub lines_at : (n : ℕ) (blocks : List Block) (b : ℕ) (block : Block) → All (λ (x : Block). All (LineWithin n) x.lines.items) blocks → slice_get blocks b ≡ Some block → All (LineWithin n) block.lines.items
lines_at n blocks b block all at = all_at (λ (x : Block). All (LineWithin n) x.lines.items) blocks b block all at

pub linked_at : (blocks : List Block) (n b : ℕ) (block : Block) → n ≡ length blocks → AreLinked blocks → slice_get blocks b ≡ Some block → ExitThere n block.exit
linked_at blocks n b block is all at = subst (λ z. ExitThere z block.exit) (sym is) (all_at (λ (x : Block). ExitThere (length blocks) x.exit) blocks b block all at)
