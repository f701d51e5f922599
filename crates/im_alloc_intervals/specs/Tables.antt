-- What is known of a function's registers, from its lines and from what lives in them.
use Rattle.std.specs.Prelude.{◌≡◌, ◌≢◌, ◌<◌, ◌≤◌, ◌⊎◌, ◌^◌, ◌*◌, ℕ, suc, ◌+◌, Bool, true, List, Vec, Some, All, length, slice_get, slice_index, drop}
use Rattle.std.specs.declared.alloc.Global.{Global}
use Rattle.im_block.specs.declared.code.Line.{Line}
use Rattle.im_block.specs.declared.code.Block.{Block}
use Rattle.im_block.specs.declared.unit.Function.{Function}
use Rattle.im_block.specs.Wellformed.{LineWithin}
use Rattle.im_alloc_relation.specs.Live.{lives}
use Rattle.im_alloc_relation.specs.Settled.{IsCall}
use Rattle.im_block_live.specs.Reads.{IsLive}
use Rattle.im_block_live.specs.Words.{starts_have}
use Rattle.im_alloc_intervals.specs.declared.marks.Interval.{Interval}
use Rattle.im_alloc_intervals.specs.declared.tables.Tables.{Tables}
use Rattle.im_alloc_intervals.specs.Leaves.{position, IsNeededAt}
use Rattle.im_alloc_intervals.specs.Lines.{target_of, result_of, IsSetAt, IsPassed, IsArgument}
use Rattle.im_alloc_intervals.specs.Marks.{IsBit, HoldsIn, IsEndOf, interval_at, flag_at}

-- the positions of blocks
pub record ArePlaces (blocks : List Block) (places : List ℕ) : Type 0 where
  pub count : length places ≡ length blocks
  pub each : (b : ℕ) (block : Block) → slice_get blocks b ≡ Some block → slice_index places b ≡ position blocks b 0
  pub room : (b : ℕ) (block : Block) → slice_get blocks b ≡ Some block → slice_index places b + suc (length block.lines.items) < 2 ^ 64

abbrev pub AreLinesWithin : ℕ → List Block → Type 0
AreLinesWithin n blocks = All (λ (block : Block). All (LineWithin n) block.lines.items) blocks

-- each group has a word for so many blocks, or for a block
abbrev pub HaveLength : ℕ → List (Vec ℕ Global) → Type 0
HaveLength count groups = (i : ℕ) (words : Vec ℕ Global) → slice_get groups i ≡ Some words → length words.items ≡ count

abbrev pub HaveBlock : ℕ → List (Vec ℕ Global) → Type 0
HaveBlock b groups = (i : ℕ) (words : Vec ℕ Global) → slice_get groups i ≡ Some words → b < length words.items

-- what stands at an index
abbrev pub At : {X : Type 0} → List X → ℕ → (X → Type 0) → Type 0
At {X} xs k P = (x : X) × (slice_get xs k ≡ Some x) × P x

abbrev pub SetIn : List Block → List ℕ → ℕ → ℕ → ℕ → Type 0
SetIn blocks places b v p = At blocks b (λ (block : Block). IsSetAt block.lines.items (slice_index places b + 1) v p)

abbrev pub PassedIn : List Block → ℕ → ℕ → Type 0
PassedIn blocks b v = At blocks b (λ (block : Block). IsPassed block.lines.items v)

abbrev pub IsSetIn : List Block → List ℕ → ℕ → ℕ → Type 0
IsSetIn blocks places v p = (b : ℕ) × SetIn blocks places b v p

abbrev pub IsPassedIn : List Block → ℕ → Type 0
IsPassedIn blocks v = (b : ℕ) × PassedIn blocks b v

-- a register of 32 lives at a position of a block
pub record IsLivingAt (base : ℕ) (starts : List ℕ) (block : Block) (place v p : ℕ) : Type 0 where
  pub i : ℕ
  pub j : ℕ
  pub inside : i ≤ length block.lines.items
  pub small : j < 32
  pub is : p ≡ place + i
  pub register : v ≡ base + j
  pub living : lives (starts_have starts j) (drop i block.lines.items) block.exit v ≡ true

abbrev pub LivingIn : ℕ → List ℕ → List Block → List ℕ → ℕ → ℕ → ℕ → Type 0
LivingIn base starts blocks places b v p = At blocks b (λ (block : Block). IsLivingAt base starts block (slice_index places b) v p)

abbrev pub IsLivingIn : ℕ → List ℕ → List Block → List ℕ → ℕ → ℕ → Type 0
IsLivingIn base starts blocks places v p = (b : ℕ) × LivingIn base starts blocks places b v p

abbrev pub LivingOf : List (Vec ℕ Global) → List Block → List ℕ → ℕ → ℕ → ℕ → Type 0
LivingOf groups blocks places g v p = At groups g (λ (starts : Vec ℕ Global). IsLivingIn (32 * g) starts.items blocks places v p)

abbrev pub IsLivingOf : List (Vec ℕ Global) → List Block → List ℕ → ℕ → ℕ → Type 0
IsLivingOf groups blocks places v p = (g : ℕ) × LivingOf groups blocks places g v p

-- a register of 32 lives across a call of a block
pub record IsCrossingAt (base : ℕ) (starts : List ℕ) (block : Block) (v : ℕ) : Type 0 where
  pub i : ℕ
  pub j : ℕ
  pub line : Line
  pub to : ℕ
  pub at : slice_get block.lines.items i ≡ Some line
  pub call : result_of line ≡ Some to
  pub small : j < 32
  pub register : v ≡ base + j
  pub living : lives (starts_have starts j) (drop (i + 1) block.lines.items) block.exit v ≡ true
  pub other : v ≢ to

abbrev pub CrossingIn : ℕ → List ℕ → List Block → ℕ → ℕ → Type 0
CrossingIn base starts blocks b v = At blocks b (λ (block : Block). IsCrossingAt base starts block v)

abbrev pub IsCrossingIn : ℕ → List ℕ → List Block → ℕ → Type 0
IsCrossingIn base starts blocks v = (b : ℕ) × CrossingIn base starts blocks b v

abbrev pub CrossingOf : List (Vec ℕ Global) → List Block → ℕ → ℕ → Type 0
CrossingOf groups blocks g v = At groups g (λ (starts : Vec ℕ Global). IsCrossingIn (32 * g) starts.items blocks v)

abbrev pub IsCrossingOf : List (Vec ℕ Global) → List Block → ℕ → Type 0
IsCrossingOf groups blocks v = (g : ℕ) × CrossingOf groups blocks g v

abbrev pub EnteringOf : List (Vec ℕ Global) → ℕ → ℕ → ℕ → Type 0
EnteringOf groups entry g v = At groups g (λ (starts : Vec ℕ Global). IsBit 32 (32 * g) (slice_index starts.items entry) v)

abbrev pub IsEnteringOf : List (Vec ℕ Global) → ℕ → ℕ → Type 0
IsEnteringOf groups entry v = (g : ℕ) × EnteringOf groups entry g v

-- tables of one length, with intervals that begin before they end
pub record AreFitting (t : Tables) : Type 0 where
  pub small : length t.intervals.items < 2 ^ 32
  pub slotted : length t.slotted.items ≡ length t.intervals.items
  pub arguments : length t.arguments.items ≡ length t.intervals.items
  pub ordered : (v : ℕ) (i : Interval) → interval_at t.intervals.items v ≡ Some i → i.first ≤ i.last

pub record HasCall (blocks : List Block) : Type 0 where
  pub b : ℕ
  pub i : ℕ
  pub block : Block
  pub line : Line
  pub at : slice_get blocks b ≡ Some block
  pub stands : slice_get block.lines.items i ≡ Some line
  pub is_call : IsCall line

-- intervals hold where registers live, and what is directly behind a line that sets them, and end there; what lives across a call or at the entry is to have a slot
pub record AreTables (f : Function) (t : Tables) : Type 0 where
  pub live : ℕ → ℕ → Bool
  pub is_live : IsLive f.blocks.items live
  pub count : length t.intervals.items ≡ f.register_count
  pub fitting : AreFitting t
  pub living : (b : ℕ) (block : Block) (i v : ℕ) → slice_get f.blocks.items b ≡ Some block → i ≤ length block.lines.items → lives live (drop i block.lines.items) block.exit v ≡ true → HoldsIn (interval_at t.intervals.items v) (position f.blocks.items b i)
  pub setting : (b : ℕ) (block : Block) (i : ℕ) (line : Line) (v : ℕ) → slice_get f.blocks.items b ≡ Some block → slice_get block.lines.items i ≡ Some line → target_of line ≡ Some v → HoldsIn (interval_at t.intervals.items v) (position f.blocks.items b (suc i))
  pub ends : (v p : ℕ) → IsEndOf (interval_at t.intervals.items v) p → IsNeededAt f.blocks.items v p
  pub crossing : (b : ℕ) (block : Block) (i : ℕ) (line : Line) (to v : ℕ) → slice_get f.blocks.items b ≡ Some block → slice_get block.lines.items i ≡ Some line → result_of line ≡ Some to → lives live (drop (suc i) block.lines.items) block.exit v ≡ true → v ≢ to → flag_at t.slotted.items v ≡ true
  pub entering : (v : ℕ) → live f.entry v ≡ true → flag_at t.slotted.items v ≡ true
  pub slotted : (v : ℕ) → flag_at t.slotted.items v ≡ true → HasCall f.blocks.items ⊎ (live f.entry v ≡ true)
  pub passed : (b : ℕ) (block : Block) (i : ℕ) (line : Line) (v : ℕ) → slice_get f.blocks.items b ≡ Some block → slice_get block.lines.items i ≡ Some line → IsArgument line v → flag_at t.arguments.items v ≡ true
  pub arguments : (v : ℕ) → flag_at t.arguments.items v ≡ true → HasCall f.blocks.items
