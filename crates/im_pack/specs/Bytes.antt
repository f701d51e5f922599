-- For private contracts: the bytes of statics, one behind the other.
use Rattle.std.specs.Prelude.{◌≡◌, ◌<◌, ◌≤◌, ◌^◌, ℕ, ◌+◌, ◌-◌, List, [], ◌∷◌, ◌++◌, length, replicate, drop, Some, slice_get, slice_index}
use Rattle.std.specs.List.{flat_map}
use Rattle.im_num.specs.Bytes.{bytes_of}
use Rattle.im_num.specs.Kinds.{kind_size}
use Rattle.im_mem.specs.Map.{statics_capacity}
use Rattle.im_ctype.specs.declared.cell.Cell.{Cell}
use Rattle.im_block.specs.declared.unit.Constant.{Constant}
use Rattle.im_block.specs.declared.unit.Constant.TheVariants.{Number, Null, Inside}
use Rattle.im_block.specs.declared.unit.Static.{Static as StaticOf}
use Rattle.im_block.specs.Wellformed.{HasCells}
use Rattle.im_frame.specs.Layout.{room, rooms}
use Rattle.im_select_addresses.specs.Statics.{objects_of}
use Rattle.im_pack.specs.Packed.{word_of}

-- the bytes of cells with these values, from one place of their object to another
abbrev pub cells_bytes : List ℕ → ℕ → ℕ → List Cell → List Constant → List ℕ
cells_bytes addresses from end [] vs = replicate (end - from) 0
cells_bytes addresses from end (c ∷ cs) [] = replicate (end - from) 0
cells_bytes addresses from end (c ∷ cs) (v ∷ vs) =
    replicate (c.offset - from) 0 ++ (bytes_of (kind_size c.kind) (word_of addresses v) ++ cells_bytes addresses (c.offset + kind_size c.kind) end cs vs)

abbrev pub static_bytes : List ℕ → StaticOf → List ℕ
static_bytes addresses s = cells_bytes addresses 0 (room s.object.size) s.object.cells.items s.values.items

abbrev pub statics_bytes : List ℕ → List StaticOf → List ℕ
statics_bytes addresses statics = flat_map (static_bytes addresses) statics

-- the word of a first value is one
abbrev pub IsWord : List ℕ → Constant → Type 0
IsWord addresses (Number z) = Unit {0}
IsWord addresses Null = Unit {0}
IsWord addresses (Inside object offset) = (object < length addresses) × (slice_index addresses object + offset < 2 ^ 32)

pub record HasWords (addresses : List ℕ) (s : StaticOf) : Type 0 where
  pub cells : HasCells s.object
  pub count : length s.values.items ≡ length s.object.cells.items
  pub words : (i : ℕ) (v : Constant) → slice_get s.values.items i ≡ Some v → IsWord addresses v

pub record AreReady (statics : List StaticOf) (addresses : List ℕ) : Type 0 where
  pub count : length addresses ≡ length statics
  pub each : (n : ℕ) (s : StaticOf) → slice_get statics n ≡ Some s → HasWords addresses s
  pub few : rooms (objects_of statics) ≤ statics_capacity

-- the bytes of the first i cells are there, and nothing behind them
pub record AreFirstCells (addresses old : List ℕ) (s : StaticOf) (i : ℕ) (bytes : List ℕ) : Type 0 where
  pub from : ℕ
  pub so_far : length bytes ≡ length old + from
  pub before : (c : Cell) → slice_get s.object.cells.items i ≡ Some c → from ≤ c.offset
  pub within : from ≤ s.object.size
  pub whole : old ++ static_bytes addresses s ≡ bytes ++ cells_bytes addresses from (room s.object.size) (drop i s.object.cells.items) (drop i s.values.items)
