-- Which registers live at lines of code, by one scan from behind; and what is asked of lines, so that it holds of their words.
use Rattle.std.specs.Prelude.{◌≡◌, ◌≢◌, ◌≤◌, ◌⊎◌, ℕ, Bool, true, false, not, cond, ◌&&◌, ◌||◌, ◌==◌, nat_le, List, [], ◌∷◌, Option, Some, None}
use Rattle.im_rv.specs.declared.instr.Op.{Op}
use Rattle.im_rv.specs.declared.instr.Op.TheVariants.{Jal, Jalr, Beq, Bne, Blt, Bge, Bltu, Bgeu, Fence, Ebreak}
use Rattle.im_rv.specs.Decode.{Line}
use Rattle.im_rv.specs.Lines.{CodeLine}
use Rattle.im_gap.specs.declared.flow.Turn.{Turn}
use Rattle.im_gap.specs.declared.flow.Turn.TheVariants.{Passes, Jumps, Branches, Returns, Stops}

-- how an instruction goes on; no line is a fence
abbrev pub way : Op → Turn
way Jal = Jumps
way Jalr = Returns
way Beq = Branches
way Bne = Branches
way Blt = Branches
way Bge = Branches
way Bltu = Branches
way Bgeu = Branches
way Fence = Stops
way Ebreak = Stops
way op = Passes

-- x0, and x1 and x2, which each cut saves: these may live anywhere
abbrev pub is_base : ℕ → Bool
is_base r = nat_le r 2

-- what lives where a call returns: the result too
abbrev pub is_returned : ℕ → Bool
is_returned r = is_base r || r == 10

-- what lives at the next line, and at the one behind it, to which a branch over one line leads
pub record After : Type 0 where
  pub next : ℕ → Bool
  pub over : ℕ → Bool

abbrev pub nothing : After
nothing = record { next = λ r. false; over = λ r. false }

abbrev pub at_target : (ℕ → ℕ → Bool) → Option ℕ → (ℕ → Bool) → ℕ → Bool
at_target at None other r = other r
at_target at (Some l) other r = at l r

-- what lives where a line leads to. at: what lives at a label. A jump that links x3 is a cut, behind which its section goes on.
-- Behind each call lives the result alone
abbrev pub onward : (ℕ → ℕ → Bool) → Turn → ℕ → Option ℕ → After → ℕ → Bool
onward at Passes rd target after r = after.next r
onward at Jumps rd target after r = cond (rd == 3) (after.next r) (at_target at target (λ x. false) r)
onward at Branches rd target after r = after.next r || at_target at target after.over r
onward at Returns rd target after r = is_returned r
onward at Stops rd target after r = false

-- x0, x1 and x2 may live anywhere
abbrev pub lives_at : (ℕ → ℕ → Bool) → CodeLine → After → ℕ → Bool
lives_at at x after r = is_base r || ((r == x.line.rs1 || r == x.line.rs2) || (not (r == x.line.rd) && onward at (way x.line.op) x.line.rd x.target after r))

abbrev pub before : (ℕ → ℕ → Bool) → CodeLine → After → After
before at x after = record { next = lives_at at x after; over = after.next }

-- before lines, by what is behind them
abbrev pub scan : (ℕ → ℕ → Bool) → List CodeLine → After → After
scan at [] behind = behind
scan at (x ∷ xs) behind = before at x (scan at xs behind)

-- a jump to a label: a cut's is that of an entry, and what lives behind it is saved; any other's is not the checkpoint's
pub record GoesTo (rd l : ℕ) (after : After) : Type 0 where
  pub cut : rd ≡ 3 → (4 ≤ l) × (l ≤ 31)
  pub saved : rd ≡ 3 → (r : ℕ) → after.next r ≡ true → (r ≤ l) × (r ≢ 3) × (r ≢ 4)
  pub call : rd ≡ 1 → (r : ℕ) → after.next r ≡ true → is_returned r ≡ true
  pub other : rd ≢ 3 → 32 ≤ l

abbrev pub Goes : Turn → Line → Option ℕ → After → Type 0
Goes Passes line target after = Unit {0}
Goes Jumps line target after = (l : ℕ) × (target ≡ Some l) × GoesTo line.rd l after
Goes Branches line target after = ((target ≡ None) × (line.imm ≡ 8)) ⊎ ((l : ℕ) × (target ≡ Some l) × (32 ≤ l))
Goes Returns line target after = Unit {0}
Goes Stops line target after = line.op ≡ Ebreak

pub record IsSoundLine (at : ℕ → ℕ → Bool) (x : CodeLine) (after : After) : Type 0 where
  pub labelled : (l r : ℕ) → x.label ≡ Some l → lives_at at x after r ≡ true → at l r ≡ true
  pub goes : Goes (way x.line.op) x.line x.target after

abbrev pub AreSound : (ℕ → ℕ → Bool) → List CodeLine → After → Type 0
AreSound at [] behind = Unit {0}
AreSound at (x ∷ xs) behind = IsSoundLine at x (scan at xs behind) × AreSound at xs behind
