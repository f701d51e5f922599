-- That lines are sound: those of a function whose cuts save what lives behind them, and the runtime's routines.
use Rattle.std.specs.Prelude.{◌≡◌, ◌<◌, ◌≤◌, ◌⊎◌, ℕ, suc, ◌+◌, ◌==◌, ◌&&◌, ◌||◌, nat_le, not, Bool, true, false, List, [], ◌∷◌, Some, length, slice_get}
use Rattle.std.specs.Option.{is_some}
use Rattle.im_serve.specs.declared.service.Service.{Service}
use Rattle.im_serve.specs.Services.{row, services}
use Rattle.im_rtlib.specs.Routines.{service_label, routine, exit, stack}
use Rattle.im_store.specs.Objects.{Name}
use Rattle.im_block.specs.declared.code.Line.{Line}
use Rattle.im_block.specs.declared.code.Exit.{Exit}
use Rattle.im_block.specs.declared.code.Block.{Block}
use Rattle.im_block.specs.declared.unit.Function.{Function}
use Rattle.im_block.specs.Wellformed.{IsFunction}
use Rattle.im_alloc_placed.specs.Operands.{IsHome}
use Rattle.im_alloc_placed.specs.Placed.{IsPlacedFunction}
use Rattle.im_alloc_relation.specs.Settled.{IsCall}
use Rattle.im_live.specs.Reads.{lives_before}
use Rattle.im_select.specs.declared.distance.Distance.{Distance}
use Rattle.im_select.specs.Emitted.{entry_label, Laying, function_code}
use Rattle.im_rv.specs.Lines.{CodeLine}
use Rattle.im_saved_code.specs.Scan.{is_base, After, scan, AreSound}

-- whether a label is that of one of the services, with a parameter
abbrev pub takes_argument : List Service → ℕ → Bool
takes_argument [] l = false
takes_argument (service ∷ more) l = (l == service_label service && is_some (row service).parameter) || takes_argument more l

-- what lives at the runtime's labels beside x0, x1 and x2: x10 at a service with a parameter and at the end of a run; x5 and x10
-- inside putchar, and x6 where the length is read
abbrev pub lives_inside : ℕ → ℕ → Bool
lives_inside l r =
    ((takes_argument services l || l == 34) && r == 10)
    || ((((nat_le 41 l && nat_le l 45) && not (l == 43)) && (r == 5 || r == 10)) || ((l == 42 || l == 44) && r == 6))

pub record IsLow (at : ℕ → ℕ → Bool) : Type 0 where
  pub is : (l r : ℕ) → l < 64 → at l r ≡ (is_base r || lives_inside l r)
  pub base : (l r : ℕ) → is_base r ≡ true → at l r ≡ true

-- what lives at functions' labels beside: arguments
pub record HasEntries (functions : List Function) (at : ℕ → ℕ → Bool) : Type 0 where
  pub only : (i r : ℕ) (f : Function) → slice_get functions i ≡ Some f → at (entry_label i) r ≡ true → (is_base r ≡ true) ⊎ ((10 ≤ r) × (r < 10 + f.parameters))
  pub all : (i r : ℕ) (f : Function) → slice_get functions i ≡ Some f → 10 ≤ r → r < 10 + f.parameters → at (entry_label i) r ≡ true

-- what lives at the labels of a function's blocks beside; block 0 has the label `first`
pub record HasBlocks (live : ℕ → ℕ → Bool) (first count : ℕ) (at : ℕ → ℕ → Bool) : Type 0 where
  pub only : (b r : ℕ) → b < count → at (first + b) r ≡ true → (is_base r ≡ true) ⊎ (live b r ≡ true)
  pub all : (b r : ℕ) → b < count → live b r ≡ true → at (first + b) r ≡ true

-- behind a call no register lives but the result's, and x1 and x2
abbrev pub HoldsCalls : (ℕ → ℕ → Bool) → List Line → Exit → Type 0
HoldsCalls live [] leaves = Unit {0}
HoldsCalls live (line ∷ rest) leaves = (IsCall line → (r : ℕ) → lives_before live rest leaves r ≡ true → (is_base r ≡ true) ⊎ (r ≡ 10)) × HoldsCalls live rest leaves

-- what lives in a function: homes, at its entry arguments alone, closed under its lines
pub record IsHeld (live : ℕ → ℕ → Bool) (f : Function) : Type 0 where
  pub homes : (b r : ℕ) → live b r ≡ true → (is_base r ≡ true) ⊎ IsHome r
  pub closed : (b : ℕ) (block : Block) (r : ℕ) → slice_get f.blocks.items b ≡ Some block → lives_before live block.lines.items block.exit r ≡ true → live b r ≡ true
  pub calls : (b : ℕ) (block : Block) → slice_get f.blocks.items b ≡ Some block → HoldsCalls live block.lines.items block.exit
  pub entered : (r : ℕ) → live f.entry r ≡ true → (is_base r ≡ true) ⊎ ((10 ≤ r) × (r < 10 + f.parameters))

-- the entries of a block's lines from number j on save what lives behind them
abbrev pub SavesFrom : (ℕ → ℕ → Bool) → (ℕ → ℕ) → ℕ → List Line → Exit → Type 0
SavesFrom live m j [] leaves = Unit {0}
SavesFrom live m j (line ∷ rest) leaves = ((4 ≤ m j) × (m j ≤ 31) × ((r : ℕ) → lives_before live rest leaves r ≡ true → r ≤ m j)) × SavesFrom live m (suc j) rest leaves

-- what a function's blocks are laid by; by: the registers by which exits take comparisons
abbrev pub laid : Function → (Name → ℕ) → (ℕ → ℕ → ℕ) → (ℕ → ℕ → Bool) → Distance → ℕ → ℕ → Laying
laid f places m by distance first frame = record { at = places; cut = m; live = by; distance = distance; first = first; frame = frame; blocks = f.blocks.items; entry = f.entry }

abbrev pub FunctionLinesLaw : Type 0
FunctionLinesLaw =
    (functions : List Function) (statics i first frame : ℕ) (f : Function) (places : Name → ℕ) (m : ℕ → ℕ → ℕ) (by : ℕ → ℕ → Bool) (distance : Distance) (live at : ℕ → ℕ → Bool) → slice_get functions i ≡ Some f → 64 ≤ first →
    ((b r : ℕ) → live b r ≡ true → by b r ≡ true) → IsLow at → HasEntries functions at → HasBlocks live first (length f.blocks.items) at → IsFunction functions f → IsPlacedFunction statics f → IsHeld live f →
    ((b : ℕ) (block : Block) → slice_get f.blocks.items b ≡ Some block → SavesFrom live (m b) 0 block.lines.items block.exit) →
    (behind : After) → AreSound at (function_code i (laid f places m by distance first frame)) behind

-- each cut enters at a register that lives behind it: as all that lives there is saved, at the greatest
abbrev pub AreLeast : (ℕ → ℕ → Bool) → List CodeLine → After → Type 0
AreLeast at [] behind = Unit {0}
AreLeast at (x ∷ xs) behind = (x.line.rd ≡ 3 → (m : ℕ) × (x.target ≡ Some m) × ((scan at xs behind).next m ≡ true)) × AreLeast at xs behind

pub record RoutineLinesLaw : Type 0 where
  pub service_sound : (service : Service) (at : ℕ → ℕ → Bool) → IsLow at → (behind : After) → AreSound at (routine service) behind
  pub service_least : (service : Service) (at : ℕ → ℕ → Bool) → IsLow at → (behind : After) → AreLeast at (routine service) behind
  pub stack_sound : (at : ℕ → ℕ → Bool) → IsLow at → (behind : After) → AreSound at stack behind
  pub exit_sound : (at : ℕ → ℕ → Bool) → IsLow at → (behind : After) → AreSound at exit behind
  -- what lives where a run ends
  pub exit_lives : (at : ℕ → ℕ → Bool) → IsLow at → (behind : After) (r : ℕ) → (scan at exit behind).next r ≡ true → (is_base r ≡ true) ⊎ (r ≡ 10)
