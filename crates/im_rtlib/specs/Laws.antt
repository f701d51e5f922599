-- What the routines' lines name, and where they lead.
use Rattle.std.specs.Prelude.{◌≡◌, ◌≤◌, ℕ, Bool, true, false, cond, not, ◌&&◌, ◌||◌, ◌==◌, nat_le, Option, Some, None, List, [], ◌∷◌, ◌++◌, length}
use Rattle.im_num.specs.declared.values.Cause.{Cause}
use Rattle.im_rv.specs.Decode.{Line}
use Rattle.im_rv.specs.Lines.{CodeLine}
use Rattle.im_rtlib.specs.Routines.{getchar, putchar, exit, stack}

abbrev pub is_cut : Option Cause → Bool
is_cut None = false
is_cut (Some cause) = true

abbrev pub is_label : Option ℕ → ℕ → Bool
is_label None n = false
is_label (Some l) n = l == n

-- a register that a cut of a routine saves, or x0: neither the runtime's x3 and x4, nor one above x10
abbrev pub is_saved : ℕ → Bool
is_saved r = nat_le r 10 && not (r == 3) && not (r == 4)

-- a cut links x3 and leads to entry E10; any other line names registers that it saves
abbrev pub names_saved : CodeLine → Bool
names_saved l = cond (is_cut l.cause) (l.line.rd == 3 && is_label l.target 10) (is_saved l.line.rd && is_saved l.line.rs1 && is_saved l.line.rs2)

abbrev pub name_saved : List CodeLine → Bool
name_saved [] = true
name_saved (l ∷ ls) = names_saved l && name_saved ls

abbrev pub has_label : ℕ → List CodeLine → Bool
has_label n [] = false
has_label n (l ∷ ls) = is_label l.label n || has_label n ls

abbrev pub leads_into : Option ℕ → List CodeLine → Bool
leads_into None ls = true
leads_into (Some n) ls = has_label n ls

-- each line but a cut leads to one further down, if it has a target: so none is executed twice
abbrev pub lead_forward : List CodeLine → Bool
lead_forward [] = true
lead_forward (l ∷ ls) = (is_cut l.cause || leads_into l.target ls) && lead_forward ls

pub record RoutineLines : Type 0 where
  pub registers : name_saved (getchar ++ (putchar ++ (exit ++ stack))) ≡ true
  pub getchar_forward : lead_forward getchar ≡ true
  pub putchar_forward : lead_forward putchar ≡ true
  -- so at most 30 instructions stand between two cuts
  pub getchar_short : length getchar ≤ 30
  pub putchar_short : length putchar ≤ 30

abbrev pub LinesLaw : Type 0
LinesLaw = RoutineLines
