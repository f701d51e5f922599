-- Where a program's parts, labels and objects lie.
use Rattle.std.specs.Prelude.{◌≡◌, ◌<◌, ℕ, ◌+◌, ◌^◌, nat_lt, if◌then◌else◌, List, Some, Option, None, length, slice_get}
use Rattle.im_mem.specs.Memory.{Mem}
use Rattle.im_rv.specs.declared.code.Part.{Part}
use Rattle.im_rv.specs.declared.code.Code.{Code as Linked}
use Rattle.im_rv.specs.Code.{address}
use Rattle.im_link.specs.Parts.{lines_of}
use Rattle.im_link.specs.Links.{StandsAt}
use Rattle.im_rtlib.specs.Routines.{service_label, stack_label}
use Rattle.im_store.specs.Objects.{Name}
use Rattle.im_block.specs.declared.unit.Function.{Function}
use Rattle.im_select.specs.Leads.{lead}
use Rattle.im_select_relation.specs.Linking.{Linking}
use Rattle.im_select.specs.Emitted.{entry_label}
use Rattle.im_link_laws.specs.Program.{first_label}

-- place gives each label the address of its line
pub record ArePlaces (parts : List Part) (place : ℕ → ℕ) : Type 0 where
  pub at : (l j : ℕ) → StandsAt (lines_of parts) l j → place l ≡ address j
  pub small : (l : ℕ) → place l < 2 ^ 32

-- the label of a function, of a block, of a checkpoint; some label where there is none
abbrev pub entry_of : List Function → ℕ → ℕ
entry_of functions i = if nat_lt i (length functions) then entry_label i else stack_label

abbrev pub blocks_in : Option Function → ℕ
blocks_in None = 0
blocks_in (Some f) = length f.blocks.items

-- the block where block b leads
abbrev pub lead_in : Option Function → ℕ → ℕ
lead_in None b = b
lead_in (Some f) b = lead f.blocks.items f.entry b

abbrev pub block_of : List Function → ℕ → ℕ → ℕ
block_of functions i b = if nat_lt b (blocks_in (slice_get functions i)) then first_label functions i + lead_in (slice_get functions i) b else entry_of functions i

abbrev pub save_of : ℕ → ℕ
save_of m = if nat_lt m 32 then m else stack_label

-- the linking that the law of selection speaks of: at and size are those of objects
abbrev pub linking_of : List Function → (ℕ → ℕ) → Linked → Mem → (Name → ℕ) → (Name → ℕ) → Linking
linking_of functions place code image at size =
    record {
      at = at;
      size = size;
      entry = λ i. place (entry_of functions i);
      place = λ i b. place (block_of functions i b);
      begin = code.entry;
      full = place stack_label;
      serves = λ service. place (service_label service);
      checkpoint = λ m. place (save_of m);
      longest = 71;
      flips = 3;
      image = image;
    }
