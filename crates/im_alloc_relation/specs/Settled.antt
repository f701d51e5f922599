-- Placed code that sets each register before it uses it, on each way from the entry, where arguments come in x10 and on.
use Rattle.std.specs.Prelude.{◌≡◌, ℕ, ◌+◌, ◌<◌, ◌≤◌, Bool, true, List, [], ◌∷◌, Some, slice_get}
use Rattle.im_block.specs.declared.code.Line.{Line}
use Rattle.im_block.specs.declared.code.Line.TheVariants.{Call, Serve}
use Rattle.im_block.specs.declared.code.Exit.{Exit}
use Rattle.im_block.specs.declared.code.Block.{Block}
use Rattle.im_block.specs.declared.unit.Function.{Function}
use Rattle.im_block.specs.declared.unit.Unit.{Unit as Code}
use Rattle.im_alloc_relation.specs.Live.{lives}

abbrev pub IsCall : Line → Type 0
IsCall (Call to i first count) = Unit {0}
IsCall (Serve to service from) = Unit {0}
IsCall line = ⊥

-- behind a call no register lives but the result's. wanted b: the registers that live at the start of block b
abbrev pub SettlesCalls : (ℕ → ℕ → Bool) → List Line → Exit → Type 0
SettlesCalls wanted [] exit = Unit {0}
SettlesCalls wanted (line ∷ rest) exit = (IsCall line → (r : ℕ) → lives wanted rest exit r ≡ true → r ≡ 10) × SettlesCalls wanted rest exit

pub record IsSettledFunction (wanted : ℕ → ℕ → Bool) (f : Function) : Type 0 where
  pub homes : (b r : ℕ) → wanted b r ≡ true → (6 < r) × (r < 32)
  pub closed : (b : ℕ) (block : Block) (r : ℕ) → slice_get f.blocks.items b ≡ Some block → lives wanted block.lines.items block.exit r ≡ true → wanted b r ≡ true
  pub calls : (b : ℕ) (block : Block) → slice_get f.blocks.items b ≡ Some block → SettlesCalls wanted block.lines.items block.exit
  pub entered : (r : ℕ) → wanted f.entry r ≡ true → (10 ≤ r) × (r < 10 + f.parameters)

pub record IsSettled (u : Code) : Type 0 where
  pub wanted : ℕ → ℕ → ℕ → Bool
  pub each : (i : ℕ) (f : Function) → slice_get u.functions.items i ≡ Some f → IsSettledFunction (wanted i) f
