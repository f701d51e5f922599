-- What selection gives: lines that may stand for the function, what linking asks of them, and how many they are.
use Rattle.std.specs.Prelude.{◌≡◌, ◌⊎◌, ◌<◌, ◌≤◌, ℕ, ◌+◌, Bool, List, [], ◌∷◌, ◌++◌, Option, Some, None, length, slice_get, All}
use Rattle.im_num.specs.declared.values.Cause.{Cause}
use Rattle.im_rv.specs.declared.format.Format.TheVariants.{Branch}
use Rattle.im_rv.specs.declared.instr.Op.TheVariants.{Jal}
use Rattle.im_rv.specs.Formats.{format_of}
use Rattle.im_rv.specs.Lines.{CodeLine}
use Rattle.im_store.specs.Objects.{Named, Slot}
use Rattle.im_block.specs.declared.code.Line.{Line}
use Rattle.im_block.specs.declared.code.Line.TheVariants.{Cut}
use Rattle.im_block.specs.declared.code.Block.{Block}
use Rattle.im_block.specs.Shape.{placed_cost}
use Rattle.im_block.specs.Wellformed.{accesses_of_blocks, ExitThere}
use Rattle.im_alloc_placed.specs.Operands.{HasObject}
use Rattle.im_alloc_placed.specs.Placed.{IsPlacedFunction}
use Rattle.im_alloc_placed.specs.Apart.{CutsApart}
use Rattle.im_select.specs.Leads.{lead}
use Rattle.im_select_relation.specs.Selected.{IsEntry}
use Rattle.im_select_relation.specs.Symbolic.{Lines, IsSelected}
use Rattle.im_live.specs.Reads.{IsLive}
use Rattle.im_live.specs.Entries.{entries}
use Rattle.im_rtlib.specs.Routines.{service_label, stack_label}
use Rattle.im_serve.specs.declared.service.Service.{Service}
use Rattle.im_select.specs.Given.{Given}
use Rattle.im_select.specs.declared.distance.Distance.{Distance}
use Rattle.im_select.specs.declared.distance.Distance.TheVariants.{Near, Far}
use Rattle.im_select.specs.Emitted.{entry_label, Laying, laid_order, function_code}
use Rattle.im_select.specs.Places.{at_of, HasPlaces, CallsBelow}

-- the label by which block b is gone to: that of the block where it leads
abbrev pub block_label : Given → ℕ → ℕ
block_label given b = given.first_block + lead given.function.blocks.items given.function.entry b

-- places and labels are read so: where this function's objects and blocks are and what it calls, the rest may be anything
pub record Agrees (w : Lines) (given : Given) : Type 0 where
  pub statics : (n : ℕ) → n < length given.statics → w.at (Named n) ≡ at_of given (Named n)
  pub objects : (n : ℕ) → HasObject given.function n → w.at (Named n) ≡ at_of given (Named n)
  pub slots : (n : ℕ) → n < given.function.slots → w.at (Slot n) ≡ at_of given (Slot n)
  pub blocks : (b : ℕ) → b < length given.function.blocks.items → w.block b ≡ block_label given b
  pub entries : (i : ℕ) → i < given.functions → w.entry i ≡ entry_label i
  pub checkpoint : (m : ℕ) → IsEntry m → w.checkpoint m ≡ m
  pub full : w.full ≡ stack_label
  pub serves : (service : Service) → w.serves service ≡ service_label service

-- the functions that are called are there, the blocks that are gone to too
pub record IsClosedBlock (given : Given) (block : Block) : Type 0 where
  pub calls : All (CallsBelow given.functions) block.lines.items
  pub edges : ExitThere (length given.function.blocks.items) block.exit

-- what is asked: placed code, whose names have their places and labels
pub record IsSelectable (given : Given) (i : ℕ) : Type 0 where
  pub places : HasPlaces given
  pub placed : IsPlacedFunction (length given.statics) given.function
  pub number : i < given.functions
  pub entry : given.function.entry < length given.function.blocks.items
  pub closed : All (IsClosedBlock given) given.function.blocks.items

-- what is taken of an option
abbrev pub if_any : {A : Type 0} → Option A → List A → List A
if_any None rest = rest
if_any (Some a) rest = a ∷ rest

-- the numbers of the accesses of lines, and the causes of cuts, in order
abbrev pub accesses_in : List CodeLine → List ℕ
accesses_in [] = []
accesses_in (line ∷ lines) = if_any line.access (accesses_in lines)

abbrev pub causes_in : List CodeLine → List Cause
causes_in [] = []
causes_in (line ∷ lines) = if_any line.cause (causes_in lines)

-- the causes of the cuts of placed code, in order
abbrev pub causes_of_line : Line → List Cause
causes_of_line (Cut cause) = cause ∷ []
causes_of_line line = []

abbrev pub causes_of_lines : List Line → List Cause
causes_of_lines [] = []
causes_of_lines (line ∷ lines) = causes_of_line line ++ causes_of_lines lines

abbrev pub causes_of_blocks : List Block → List Cause
causes_of_blocks [] = []
causes_of_blocks (block ∷ blocks) = causes_of_lines block.lines.items ++ causes_of_blocks blocks

-- line k has the label l
pub record HasLabel (lines : List CodeLine) (k l : ℕ) : Type 0 where
  pub line : CodeLine
  pub there : slice_get lines k ≡ Some line
  pub is : line.label ≡ Some l

-- the labels that a function's lines lead to: of the runtime, of functions, of its own blocks
abbrev pub IsTarget : Given → ℕ → Type 0
IsTarget given l =
    IsEntry l ⊎ ((service : Service) × (l ≡ service_label service)) ⊎ (l ≡ stack_label)
    ⊎ ((i : ℕ) × (i < given.functions) × (l ≡ entry_label i))
    ⊎ ((b : ℕ) × (b < length given.function.blocks.items) × (l ≡ block_label given b))

-- a branch that leads to a block of a function of at most 1023 lines, so that it reaches it
pub record IsNear (given : Given) (lines : List CodeLine) (line : CodeLine) (l : ℕ) : Type 0 where
  pub branches : format_of line.line.op ≡ Branch
  pub few : length lines ≤ 1023
  pub block : (b : ℕ) × (b < length given.function.blocks.items) × (l ≡ block_label given b)

-- a branch leads to a block of the function; a jump reaches all of the code
pub record LeadsTo (given : Given) (lines : List CodeLine) (line : CodeLine) (l : ℕ) : Type 0 where
  pub far : (line.line.op ≡ Jal) ⊎ IsNear given lines line l
  pub to : IsTarget given l

-- blocks in an order, and in the order in which they are laid
abbrev pub if_found : Option Block → List Block → List Block
if_found None rest = rest
if_found (Some block) rest = block ∷ rest

abbrev pub blocks_at : List Block → List ℕ → List Block
blocks_at blocks [] = []
blocks_at blocks (b ∷ order) = if_found (slice_get blocks b) (blocks_at blocks order)

abbrev pub laid_blocks : ℕ → List Block → List Block
laid_blocks entry blocks = blocks_at blocks (laid_order entry (length blocks))

-- what the function's blocks are laid by, where these registers live at its points and each cut has the least entry that saves them
abbrev pub laying_of : Given → (ℕ → ℕ → Bool) → Distance → Laying
laying_of given live distance = record {
  at = at_of given;
  cut = entries live given.function.blocks.items;
  live = live;
  distance = distance;
  first = given.first_block;
  frame = given.layout.frame;
  blocks = given.function.blocks.items;
  entry = given.function.entry;
}

-- the lines of function i: these very ones, each cut with the least entry that saves what lives behind it. Labels are near where the
-- function has at most 1023 lines by near branches
pub record IsFunctionCode (given : Given) (i : ℕ) (lines : List CodeLine) : Type 0 where
  pub live : ℕ → ℕ → Bool
  pub is_live : IsLive given.function.blocks.items live
  pub distance : Distance
  pub lines_are : lines ≡ function_code i (laying_of given live distance)
  pub near : distance ≡ Near → length lines ≤ 1023
  pub far : distance ≡ Far → 1023 < length (function_code i (laying_of given live Near))

-- and what follows from it
pub record IsSelection (given : Given) (i : ℕ) (lines : List CodeLine) : Type 0 where
  pub exact : IsFunctionCode given i lines
  pub starts : ℕ → ℕ
  pub selected : (w : Lines) → w.lines ≡ lines → Agrees w given → IsSelected w given.layout.frame given.function starts
  pub accesses : accesses_in lines ≡ accesses_of_blocks (laid_blocks given.function.entry given.function.blocks.items)
  pub causes : causes_in lines ≡ causes_of_blocks (laid_blocks given.function.entry given.function.blocks.items)
  pub entry : HasLabel lines 0 (entry_label i)
  pub blocks : (b : ℕ) → b < length given.function.blocks.items → HasLabel lines (starts b) (block_label given b)
  pub only : (k l : ℕ) → HasLabel lines k l → ((k ≡ 0) × (l ≡ entry_label i)) ⊎ ((b : ℕ) × (b < length given.function.blocks.items) × (k ≡ starts b) × (l ≡ given.first_block + b))
  pub targets : (k l : ℕ) (line : CodeLine) → slice_get lines k ≡ Some line → line.target ≡ Some l → LeadsTo given lines line l
  pub words : ((b : ℕ) (block : Block) → slice_get given.function.blocks.items b ≡ Some block → CutsApart block.lines.items) → length lines ≤ placed_cost given.function
