-- Where blocks lead: no line is put for a block that only jumps to a block of a lower number, where such blocks are few, and who goes to
-- it goes where it leads; the entry has its line.
use Rattle.std.specs.Prelude.{◌≡◌, ◌<◌, ℕ, zero, suc, ◌==◌, ◌&&◌, nat_lt, not, Bool, if◌then◌else◌, List, [], ◌∷◌, Option, Some, None, length, slice_get, slice_index}
use Rattle.im_block.specs.declared.code.Exit.{Exit}
use Rattle.im_block.specs.declared.code.Exit.TheVariants.{Jump, Turn, Branch, Return}
use Rattle.im_block.specs.declared.code.Block.{Block}
use Rattle.im_block.specs.declared.unit.Function.{Function}
use Rattle.im_select_relation.specs.Jumps.{jump_of, are_few}

-- block b leads on to a block of a lower number. The entry leads on to none, since each function begins with it
abbrev pub onward_to : ℕ → ℕ → Option ℕ → Option ℕ
onward_to entry b None = None
onward_to entry b (Some c) = if nat_lt c b && not (b == entry) then Some c else None

abbrev pub onward_of : ℕ → ℕ → Option Block → Option ℕ
onward_of entry b None = None
onward_of entry b (Some block) = onward_to entry b (jump_of block.lines.items block.exit)

abbrev pub go_on : (ℕ → ℕ) → ℕ → Option ℕ → ℕ
go_on further b None = b
go_on further b (Some c) = further c

-- through at most n blocks
abbrev pub lead_by : List Block → ℕ → ℕ → ℕ → ℕ
lead_by blocks entry zero b = b
lead_by blocks entry (suc n) b = go_on (lead_by blocks entry n) b (onward_of entry b (slice_get blocks b))

-- the block where block b leads: itself, unless it only leads on
unfoldable pub lead : List Block → ℕ → ℕ → ℕ
lead blocks entry b = if are_few blocks then lead_by blocks entry b b else b

-- an exit to where the blocks lead to which it goes
abbrev pub led : (ℕ → ℕ) → Exit → Exit
led leads (Jump b) = Jump (leads b)
led leads (Turn b) = Turn (leads b)
led leads (Branch on a b) = Branch on (leads a) (leads b)
led leads (Return from) = Return from

-- those of these blocks that lead to themselves
abbrev pub kept : (ℕ → ℕ) → List ℕ → List ℕ
kept leads [] = []
kept leads (b ∷ order) = if leads b == b then b ∷ kept leads order else kept leads order

-- ---- as a list of numbers, made from the lowest block on

-- a block, by where those of lower numbers lead
abbrev pub lead_as : Bool → (ℕ → ℕ) → ℕ → ℕ → Block → ℕ
lead_as few leads entry b block = if few then go_on leads b (onward_to entry b (jump_of block.lines.items block.exit)) else b

pub record AreLeads (f : Function) (leads : List ℕ) : Type 0 where
  pub count : length leads ≡ length f.blocks.items
  pub each : (b : ℕ) → b < length f.blocks.items → slice_index leads b ≡ lead f.blocks.items f.entry b
