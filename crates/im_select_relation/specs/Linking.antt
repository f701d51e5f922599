-- Where all lies in memory, and what values are as words.
use Rattle.std.specs.Prelude.{◌≡◌, ◌<◌, ◌≤◌, ◌⊎◌, ℕ, ◌+◌, ◌-◌, ◌%◌, ◌^◌, ◌==◌, if◌then◌else◌, Option, Some, slice_index_or}
use Rattle.im_num.specs.declared.kind.Kind.{Kind}
use Rattle.im_num.specs.Kinds.{kind_size, word}
use Rattle.im_mem.specs.Map.{stack_end, stack_capacity}
use Rattle.im_mem.specs.Memory.{Mem}
use Rattle.im_rv.specs.Steps.{sum_of}
use Rattle.im_rv_reach.specs.Routines.{Runtime}
use Rattle.im_serve.specs.declared.service.Service.{Service}
use Rattle.im_store.specs.Objects.{Name, Object, static, Value, Number, Null, Pointer, Unset, Shape}
use Rattle.im_block.specs.Meaning.{Setting}

-- an object's place by its name, in its frame or, for a static, in memory, and its bytes; functions and their blocks; the
-- lines that begin and end; the routines, a service's by the service and a checkpoint's by the number of its last register; the
-- most steps of a routine, and the most flips of INDEX; the memory that is loaded
pub record Linking : Type 0 where
  pub at : Name → ℕ
  pub size : Name → ℕ
  pub entry : ℕ → ℕ
  pub place : ℕ → ℕ → ℕ
  pub begin : ℕ
  pub full : ℕ
  pub serves : Service → ℕ
  pub checkpoint : ℕ → ℕ
  pub longest : ℕ
  pub flips : ℕ
  pub image : Mem

-- bytes of stack in use as a stack pointer
abbrev pub pointer_at : ℕ → ℕ
pointer_at depth = stack_end - depth

-- the lowest stack pointer
abbrev pub limit_of : Setting → ℕ
limit_of g = pointer_at g.stack

-- bytes of a function's frame
abbrev pub frame_of : Setting → ℕ → ℕ
frame_of g i = slice_index_or g.frames i 0

abbrev pub runtime : Linking → Setting → Runtime
runtime p g =
    record { image = p.image; limit = limit_of g; capacity = g.capacity; longest = p.longest; flips = p.flips }

-- the map from objects to addresses: an activation's objects lie from its stack pointer on
abbrev pub base_of : Object → ℕ
base_of o = if o.activation == 0 then 0 else pointer_at o.depth

abbrev pub address : Linking → Object → ℕ
address p o = base_of o + p.at o.name

-- a static; or an object of an activation, which is in the stack, even where it lives no more
abbrev pub IsPlaced : Linking → Object → Type 0
IsPlaced p o = ((n : ℕ) × (o ≡ static n)) ⊎ ((0 < o.activation) × (stack_end - stack_capacity ≤ address p o) × (address p o + p.size o.name < 2 ^ 32))

-- the map from values to words
abbrev pub Means : Linking → Value → ℕ → Type 0
Means p (Number z) w = w ≡ word z
Means p Null w = w ≡ 0
Means p (Pointer o i) w = (w ≡ sum_of (address p o) i) × (i ≤ p.size o.name) × IsPlaced p o
Means p Unset w = Unit {0}

-- the cells of a shape lie in it, at multiples of their sizes, and apart
pub record HasCells (sh : Shape) : Type 0 where
  pub inside : (i : ℕ) (k : Kind) → sh.cells i ≡ Some k → i + kind_size k ≤ sh.size
  pub even : (i : ℕ) (k : Kind) → sh.cells i ≡ Some k → i % kind_size k ≡ 0
  pub apart : (i : ℕ) (k : Kind) (j : ℕ) (l : Kind) → sh.cells i ≡ Some k → sh.cells j ≡ Some l → (i ≡ j) ⊎ (i + kind_size k ≤ j) ⊎ (j + kind_size l ≤ i)

-- objects lie from low on, before high, each with an unused byte behind it, at multiples of 4 and apart
pub record LaidOut (p : Linking) (objects : Name → Option Shape) (low high : ℕ) : Type 0 where
  pub from : (a : Name) (sh : Shape) → objects a ≡ Some sh → low ≤ p.at a
  pub inside : (a : Name) (sh : Shape) → objects a ≡ Some sh → p.at a + sh.size < high
  pub even : (a : Name) (sh : Shape) → objects a ≡ Some sh → p.at a % 4 ≡ 0
  pub sized : (a : Name) (sh : Shape) → objects a ≡ Some sh → p.size a ≡ sh.size
  pub apart : (a : Name) (sh : Shape) (b : Name) (th : Shape) → objects a ≡ Some sh → objects b ≡ Some th → (a ≡ b) ⊎ (p.at a + sh.size < p.at b) ⊎ (p.at b + th.size < p.at a)
