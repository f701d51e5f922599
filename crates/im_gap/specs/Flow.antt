-- Static flow between the words of a code: which word may be executed next. Speaks of words by their numbers.
use Rattle.std.specs.Prelude.{◌≡◌, ℕ, suc, ◌<◌, ◌⊎◌, Bool, true, false, cond, ◌&&◌, ◌==◌, List, [], ◌∷◌, Option, Some, None, length}
use Rattle.im_rv.specs.declared.instr.Op.{Op}
use Rattle.im_rv.specs.declared.instr.Op.TheVariants.{Jal, Jalr, Beq, Bne, Blt, Bge, Bltu, Bgeu, Sw, Ebreak}
use Rattle.im_rv.specs.Steps.{sum_of}
use Rattle.im_rv.specs.Decode.{Line}
use Rattle.im_rv.specs.Code.{address, instruction_at}
use Rattle.im_gap.specs.declared.flow.Turn.{Turn}
use Rattle.im_gap.specs.declared.flow.Turn.TheVariants.{Passes, Jumps, Branches, Returns, Stops}

-- sw x4, 0(x0): the store that flips INDEX
abbrev pub is_flip : Line → Bool
is_flip l = l.rs1 == 0 && l.rs2 == 4 && l.imm == 0

-- how an instruction goes on
abbrev pub turn_by : Op → Line → Turn
turn_by Jal l = Jumps
turn_by Jalr l = Returns
turn_by Beq l = Branches
turn_by Bne l = Branches
turn_by Blt l = Branches
turn_by Bge l = Branches
turn_by Bltu l = Branches
turn_by Bgeu l = Branches
turn_by Sw l = cond (is_flip l) Stops Passes
turn_by Ebreak l = Stops
turn_by _ l = Passes

-- a word that is no instruction leads nowhere
abbrev pub turn_of : Option Line → Turn
turn_of None = Stops
turn_of (Some l) = turn_by l.op l

abbrev pub imm_of : Option Line → ℕ
imm_of None = 0
imm_of (Some l) = l.imm

abbrev pub links_by : Op → ℕ → ℕ → Bool
links_by Jal r rd = rd == r
links_by _ r rd = false

-- a jal that links register r: x1 for a call, x3 for a cut
abbrev pub links : ℕ → Option Line → Bool
links r None = false
links r (Some l) = links_by l.op r l.rd

-- word j stands directly behind a jal that links register r
abbrev pub IsBehind : List ℕ → ℕ → ℕ → Type 0
IsBehind words r j = (c : ℕ) × (links r (instruction_at words c) ≡ true) × (j ≡ suc c)

-- where word i may lead, by how it goes on
abbrev pub Leads : List ℕ → ℕ → ℕ → ℕ → Turn → Type 0
Leads words i j imm Passes = j ≡ suc i
Leads words i j imm Jumps = address j ≡ sum_of (address i) imm
Leads words i j imm Branches = (j ≡ suc i) ⊎ (address j ≡ sum_of (address i) imm)
Leads words i j imm Returns = IsBehind words 1 j
Leads words i j imm Stops = ⊥

-- the static edges: to the next word, to the target of a branch or a jal, from a return to every word after a call;
-- none from a flip, an ebreak, or a word that is no instruction
pub record Flow (words : List ℕ) (i j : ℕ) : Type 0 where
  pub inside : j < length words
  pub leads : Leads words i j (imm_of (instruction_at words i)) (turn_of (instruction_at words i))

-- word i, then these: each behind an edge
abbrev pub IsStaticWalk : List ℕ → ℕ → List ℕ → Type 0
IsStaticWalk words i [] = Unit {0}
IsStaticWalk words i (j ∷ js) = Flow words i j × IsStaticWalk words j js

-- a word at which a section begins: the entry, or the word after a cut
pub record IsResumeWord (words : List ℕ) (entry i : ℕ) : Type 0 where
  pub inside : i < length words
  pub is : (address i ≡ entry) ⊎ IsBehind words 3 i
