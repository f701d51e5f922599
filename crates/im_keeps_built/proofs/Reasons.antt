-- Why cuts stand in blocks, told of the lines around them.
use Rattle.std.proofs.Common.{◌≡◌, ◌⊎◌, inl, inr, ℕ, zero, suc, ◌+◌, List, [], ◌∷◌, Option, Some, None, subst, arith}
use Rattle.std.specs.Prelude.{◌==◌, if◌then◌else◌, slice_get}
use Rattle.im_num.specs.declared.values.Cause.{Cause}
use Rattle.im_num.specs.declared.values.Cause.TheVariants.{Entry, Return as Back, Loop, Length, Gap, Dep}
use Rattle.im_block.specs.declared.code.Line.{Line}
use Rattle.im_block.specs.declared.code.Line.TheVariants.{Write, Spill, Cut, Call, Serve}
use Rattle.im_block.specs.declared.code.Exit.{Exit}
use Rattle.im_block.specs.declared.code.Exit.TheVariants.{Turn}
use Rattle.im_block.specs.declared.code.Block.{Block}
use Rattle.im_block.specs.declared.unit.Function.{Function}
use Rattle.im_block.specs.Forced.{StartsWithCut}
use Rattle.im_block.specs.Paths.{IsCut}

-- what stands directly before a place of a block: the begin of a function, a call, or anything
pub data Before : Type 0 where
  Begins : Before
  Called : Before
  Anything : Before

abbrev pub behind_line : Line → Before
behind_line (Call to function first count) = Called
behind_line (Serve to service from) = Called
behind_line line = Anything

abbrev pub IsTurn : Exit → Type 0
IsTurn (Turn b) = Unit {0}
IsTurn exit = ⊥

-- no line is left of a block, and its exit is a loop edge
abbrev pub EndsLoop : List Line → Exit → Type 0
EndsLoop [] exit = IsTurn exit
EndsLoop (line ∷ rest) exit = ⊥

abbrev pub IsWrite : ℕ → Line → Type 0
IsWrite w (Write place kind from access) = access ≡ w
IsWrite w (Spill slot from access) = access ≡ w
IsWrite w line = ⊥

abbrev pub WritesNext : ℕ → List Line → Type 0
WritesNext w [] = ⊥
WritesNext w (line ∷ rest) = IsWrite w line

-- what a cause may name is what is known: of a number that it is a read's, and of none that a longest gap was asked for. Here nothing
abbrev pub no_reads : Option ℕ → Type 0
no_reads known = ⊥

-- a cut of this cause, before the rest of its block
abbrev pub Reason : (Option ℕ → Type 0) → Before → List Line → Exit → Cause → Type 0
Reason Known before rest exit Entry = before ≡ Begins
Reason Known before rest exit Back = (before ≡ Called) ⊎ EndsLoop rest exit
Reason Known before rest exit Loop = EndsLoop rest exit
Reason Known before rest exit Length = ⊥
Reason Known before rest exit Gap = Known None
Reason Known before rest exit (Dep read write) = Known (Some read) × WritesNext write rest

abbrev pub Fits : (Option ℕ → Type 0) → Before → List Line → Exit → Line → Type 0
Fits Known before rest exit (Cut cause) = Reason Known before rest exit cause
Fits Known before rest exit line = Unit {0}

-- what is left of a block
abbrev pub Reasoned : (Option ℕ → Type 0) → Exit → Before → List Line → Type 0
Reasoned Known exit before [] = Unit {0}
Reasoned Known exit before (line ∷ rest) = Fits Known before rest exit line × Reasoned Known exit (behind_line line) rest

-- blocks from number n on
abbrev pub begins_at : ℕ → ℕ → Before
begins_at entry n = if n == entry then Begins else Anything

abbrev pub ReasonedBlocks : (Option ℕ → Type 0) → ℕ → ℕ → List Block → Type 0
ReasonedBlocks Known entry n [] = Unit {0}
ReasonedBlocks Known entry n (block ∷ blocks) = Reasoned Known block.exit (begins_at entry n) block.lines.items × ReasonedBlocks Known entry (suc n) blocks

abbrev pub ReasonedFunction : (Option ℕ → Type 0) → Function → Type 0
ReasonedFunction Known f = ReasonedBlocks Known f.entry 0 f.blocks.items

-- what holds wherever lines stand holds behind anything that stands before them
pub anywhere : (Known : Option ℕ → Type 0) (exit : Exit) (before : Before) (lines : List Line) → Reasoned Known exit Anything lines → Reasoned Known exit before lines
anywhere Known exit before [] r = tt
anywhere Known exit before (line ∷ rest) r = (of_line line r.0, r.1)
  where
    of_line : (line : Line) → Fits Known Anything rest exit line → Fits Known before rest exit line
    of_line (Cut Entry) f = (let bad : Anything ≡ Begins = f in absurd cc)
    of_line (Cut Back) (inl e) = (let bad : Anything ≡ Called = e in absurd cc)
    of_line (Cut Back) (inr e) = inr e
    of_line (Cut Loop) f = f
    of_line (Cut Length) f = f
    of_line (Cut Gap) f = f
    of_line (Cut (Dep read write)) f = f
    of_line line f = f

-- and so does what holds of lines that begin with no cut
pub loosened : (Known : Option ℕ → Type 0) (exit : Exit) (before other : Before) (lines : List Line) → (StartsWithCut lines → ⊥) → Reasoned Known exit before lines → Reasoned Known exit other lines
loosened Known exit before other [] n r = tt
loosened Known exit before other (line ∷ rest) n r = (of_line line n r.0, r.1)
  where
    of_line : (line : Line) → (IsCut line → ⊥) → Fits Known before rest exit line → Fits Known other rest exit line
    of_line (Cut cause) uncut f = absurd (uncut tt)
    of_line line uncut f = f

-- a cut that names no read stays, where a loop's end does
moved : (From To : Option ℕ → Type 0) → (From None → To None) → ((r : ℕ) → From (Some r) → ⊥) → (before : Before) (old new : List Line) (exit : Exit) (cause : Cause) → (EndsLoop old exit → EndsLoop new exit) → Reason From before old exit cause → Reason To before new exit cause
moved From To gap none before old new exit Entry move r = r
moved From To gap none before old new exit Back move (inl e) = inl e
moved From To gap none before old new exit Back move (inr e) = inr (move e)
moved From To gap none before old new exit Loop move r = move r
moved From To gap none before old new exit Length move r = absurd r
moved From To gap none before old new exit Gap move r = gap r
moved From To gap none before old new exit (Dep read write) move r = absurd (none read r.0)

pub line_moved : (From To : Option ℕ → Type 0) → (From None → To None) → ((r : ℕ) → From (Some r) → ⊥) → (before : Before) (old new : List Line) (exit : Exit) (line : Line) → (IsCut line → EndsLoop old exit → EndsLoop new exit) → Fits From before old exit line → Fits To before new exit line
line_moved From To gap none before old new exit (Cut cause) move f = moved From To gap none before old new exit cause (move tt) f
line_moved From To gap none before old new exit line move f = tt

lines_known : (To : Option ℕ → Type 0) (exit : Exit) (before : Before) (lines : List Line) → Reasoned no_reads exit before lines → Reasoned To exit before lines
lines_known To exit before [] r = tt
lines_known To exit before (line ∷ rest) r =
    (line_moved no_reads To (λ (no : ⊥). absurd no) (λ a no. no) before rest rest exit line (λ c e. e) r.0, lines_known To exit (behind_line line) rest r.1)

pub blocks_known : (To : Option ℕ → Type 0) (entry n : ℕ) (blocks : List Block) → ReasonedBlocks no_reads entry n blocks → ReasonedBlocks To entry n blocks
blocks_known To entry n [] r = tt
blocks_known To entry n (x ∷ xs) r = (lines_known To x.exit (begins_at entry n) x.lines.items r.0, blocks_known To entry (suc n) xs r.1)

pub reasoned_at : (Known : Option ℕ → Type 0) (entry n : ℕ) (blocks : List Block) → ReasonedBlocks Known entry n blocks → (b : ℕ) (block : Block) (m : ℕ) → m ≡ n + b → slice_get blocks b ≡ Some block → Reasoned Known block.exit (begins_at entry m) block.lines.items
reasoned_at Known entry n [] r b block m e at = absurd cc
reasoned_at Known entry n (x ∷ xs) r zero block m e at =
    let same : x ≡ block = cc in
    let here : n ≡ m = omega arith in
    subst (λ (z : Block). Reasoned Known z.exit (begins_at entry m) z.lines.items) same (subst (λ k. Reasoned Known x.exit (begins_at entry k) x.lines.items) here r.0)
reasoned_at Known entry n (x ∷ xs) r (suc b) block m e at = reasoned_at Known entry (suc n) xs r.1 b block m (omega arith) at
