-- How far words, aims, labels and cuts have come: for `Holds`, and for private contracts.
use Rattle.std.specs.Prelude.{◌≡◌, ◌≢◌, ℕ, ◌+◌, ◌<◌, List, [], ◌∷◌, ◌++◌, Option, Some, None, length, slice_get, slice_index}
use Rattle.im_num.specs.declared.values.Cause.{Cause}
use Rattle.im_num.specs.declared.values.Cause.TheVariants.{Dep}
use Rattle.im_rv.specs.declared.instr.Instr.{Instr}
use Rattle.im_rv.specs.declared.code.Line.{Line}
use Rattle.im_rv.specs.declared.code.Part.{Part}
use Rattle.im_rv.specs.declared.code.Cut.{Cut}
use Rattle.im_rv.specs.Decode.{Line as Instruction, decode}
use Rattle.im_rv.specs.Lines.{line_of}
use Rattle.im_rv.specs.Code.{address}
use Rattle.im_link.specs.Parts.{lines_of}
use Rattle.im_link.specs.declared.aim.Aim.{Aim}
use Rattle.im_link.specs.Links.{StandsAt, IsAimed, Reaches}
use Rattle.im_link.specs.Cuts.{IsAccessAt, HasAccesses, IsCutOf, IsCutIn}

-- the line of an aim: word aim.at, with its target and instruction
pub record IsAimOf (lines : List Line) (aim : Aim) : Type 0 where
  pub line : Line
  pub is_line : slice_get lines aim.at ≡ Some line
  pub target : line.target ≡ Some aim.label
  pub instr : aim.instr ≡ line.instr

-- one of the aims is of line i
abbrev pub HasAim : List Aim → ℕ → Type 0
HasAim aims i = (k : ℕ) × (aim : Aim) × (slice_get aims k ≡ Some aim) × (aim.at ≡ i)

-- The words of lines, those with a target left open; an aim for each of these; and a place of each label, where it stands.
pub record AreLinesKept (lines : List Line) (words : List ℕ) (aims : List Aim) (found : ℕ → Option ℕ) : Type 0 where
  pub count : length words ≡ length lines
  pub plain : (i : ℕ) (line : Line) → slice_get lines i ≡ Some line → line.target ≡ None → decode (slice_index words i) ≡ Some (line_of line.instr)
  pub aims_are : (k : ℕ) (aim : Aim) → slice_get aims k ≡ Some aim → IsAimOf lines aim
  pub aimed : (i l : ℕ) (line : Line) → slice_get lines i ≡ Some line → line.target ≡ Some l → HasAim aims i
  pub stands : (l j : ℕ) → found l ≡ Some j → StandsAt lines l j
  pub known : (l j : ℕ) → StandsAt lines l j → (i : ℕ) × (found l ≡ Some i)

-- the aim of an instruction that is word `at` is added, if it has a target
abbrev pub AddsAim : ℕ → Instr → Option ℕ → List Aim → List Aim → Type 0
AddsAim at instr None old new = new ≡ old
AddsAim at instr (Some l) old new = (aim : Aim) × (new ≡ old ++ aim ∷ []) × (aim.at ≡ at) × (aim.label ≡ l) × (aim.instr ≡ instr)

-- the label of an aim has a place within reach, both in a code
pub record IsNearAim (found : ℕ → Option ℕ) (aim : Aim) : Type 0 where
  pub place : ℕ
  pub is_place : found aim.label ≡ Some place
  pub from : aim.at < 261120
  pub to : place < 261120
  pub reach : Reaches aim.instr aim.at place

-- each aim is of one of the words, and near
abbrev pub AreAimsNear : (ℕ → Option ℕ) → ℕ → List Aim → Type 0
AreAimsNear found count aims = (k : ℕ) (aim : Aim) → slice_get aims k ≡ Some aim → (aim.at < count) × IsNearAim found aim

-- the word of an aim leads to the place of its label
pub record IsAimedWord (found : ℕ → Option ℕ) (aim : Aim) (w : ℕ) : Type 0 where
  pub place : ℕ
  pub is_place : found aim.label ≡ Some place
  pub to : Instruction
  pub is_word : decode w ≡ Some to
  pub leads : IsAimed (line_of aim.instr) aim.at place to

-- w is put at a place of a list that has it, and the rest stays
pub record IsPut (at w : ℕ) (old new : List ℕ) : Type 0 where
  pub count : length new ≡ length old
  pub here : slice_index new at ≡ w
  pub others : (i : ℕ) → i ≢ at → slice_index new i ≡ slice_index old i

-- the map has the places of the accesses of the first n lines: the last line of each
pub record AreAccessesOf (lines : List Line) (n : ℕ) (found : ℕ → Option ℕ) : Type 0 where
  pub is : (a k : ℕ) → found a ≡ Some k → IsAccessAt lines a k
  pub known : (a k : ℕ) → k < n → IsAccessAt lines a k → (j : ℕ) × (found a ≡ Some j)

-- the cuts of the first n lines of the parts
pub record AreFirstCuts (parts : List Part) (n : ℕ) (cuts : List Cut) : Type 0 where
  pub ascending : (b c : ℕ) (this that : Cut) → b < c → slice_get cuts b ≡ Some this → slice_get cuts c ≡ Some that → this.at < that.at
  pub each : (c : ℕ) (cut : Cut) → slice_get cuts c ≡ Some cut → IsCutIn parts cut
  pub below : (c : ℕ) (cut : Cut) → slice_get cuts c ≡ Some cut → cut.at < address n
  pub all : (i : ℕ) (line : Line) (cause : Cause) → i < n → slice_get (lines_of parts) i ≡ Some line → line.cause ≡ Some cause → (c : ℕ) × (cut : Cut) × (slice_get cuts c ≡ Some cut) × (cut.at ≡ address i)

-- the accesses of a part whose first word has the number `first` lie in the code
abbrev pub AreAccessesInside : (ℕ → Option ℕ) → ℕ → Type 0
AreAccessesInside found first = (a k : ℕ) → found a ≡ Some k → first + k < 261120

-- a cause placed by the map of accesses
abbrev pub IsCauseBy : (ℕ → Option ℕ) → ℕ → Cause → Cause → Type 0
IsCauseBy found first (Dep read write) placed = (r w : ℕ) → found read ≡ Some r → found write ≡ Some w → placed ≡ Dep (address (first + r)) (address (first + w))
IsCauseBy found first cause placed = placed ≡ cause

-- the accesses that the dependence of line k names are those of lines of the part
abbrev pub IsNamedAt : Part → ℕ → Type 0
IsNamedAt part k = (line : Line) (cause : Cause) → slice_get part.lines.items k ≡ Some line → line.cause ≡ Some cause → HasAccesses part.lines.items cause

abbrev pub AddsCut : Part → ℕ → ℕ → Option Cause → List Cut → List Cut → Type 0
AddsCut part first k None old new = new ≡ old
AddsCut part first k (Some cause) old new = (cut : Cut) × (new ≡ old ++ cut ∷ []) × IsCutOf part first k cut

-- the cut of line k is added, if it has one
abbrev pub AddsCutOf : Part → ℕ → ℕ → List Cut → List Cut → Type 0
AddsCutOf part first k old new = (line : Line) → slice_get part.lines.items k ≡ Some line → AddsCut part first k line.cause old new
