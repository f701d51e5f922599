-- The words of the runtime: its lines are known, and numbers fall along them.
use Rattle.std.proofs.Common.{◌≡◌, ◌<◌, inl, inr, ℕ, zero, suc, ◌+◌, ◌-◌, ◌/◌, ◌%◌, Bool, true, false, cond, List, [], ◌∷◌, ◌++◌, Option, Some, None, length, map, refl, sym, ap, ◌∙◌, subst, arith}
use Rattle.std.specs.Prelude.{◌==◌, ◌&&◌, not, nat_lt, slice_get}
use Rattle.std.proofs.lemmas.Bool.{cases_lt}
use Rattle.std.proofs.lemmas.Bool.Decides.{nat_tests}
use Rattle.im_rv.specs.declared.code.Line.{Line}
use Rattle.im_rv.specs.declared.code.Part.{Part}
use Rattle.im_rv.specs.Steps.{sum_of}
use Rattle.im_rv.specs.Lines.{CodeLine, plain_line, code_line, code_lines}
use Rattle.im_rv.specs.Code.{address}
use Rattle.im_ckpt.specs.Recovery.{recovery}
use Rattle.im_ckpt.specs.Checkpoint.{checkpoint_code}
use Rattle.im_gap.specs.declared.flow.Turn.{Turn}
use Rattle.im_gap.specs.declared.flow.Turn.TheVariants.{Passes, Jumps, Branches, Returns, Stops}
use Rattle.im_gap.specs.Flow.{turn_by, links_by}
use Rattle.im_link.specs.Parts.{lines_of}
use Rattle.im_link.proofs.Joining.{get_kept, get_behind}
use Rattle.im_link_laws.specs.Program.{HasCode}
use Rattle.im_saved_code.proofs.Scanning.{both, same_of}
use Rattle.im_saved_code.proofs.Lists.{code_at}
use Rattle.im_saved_code.proofs.Parts.{code_is}
use Rattle.im_gap_ranked.proofs.Ranks.{cut_rank}

abbrev pub runtime_lines : List CodeLine
runtime_lines = map plain_line recovery ++ checkpoint_code

-- recovery above its returns; the checkpoint by the distance to the flip, an entry's as if it were E31's; its return above what stands
-- behind calls
abbrev pub runtime_rank : ℕ → ℕ
runtime_rank i = cond (nat_lt i 64) (cut_rank + 65 - i) (cond (nat_lt i 204) (36 - (i - 64) % 5) (cond (nat_lt i 236) (235 - i) (cut_rank + 1)))

-- ---- a test

abbrev target_of : ℕ → ℕ → ℕ
target_of i imm = (sum_of (address i) imm - 4096) / 4

abbrev next_test : ℕ → ℕ → Bool
next_test i j = nat_lt j 237 && nat_lt (runtime_rank j) (runtime_rank i)

abbrev far_test : ℕ → ℕ → Bool
far_test i imm = next_test i (target_of i imm) && sum_of (address i) imm == address (target_of i imm)

abbrev turn_test : ℕ → ℕ → Turn → Bool
turn_test i imm Passes = next_test i (suc i)
turn_test i imm Jumps = far_test i imm
turn_test i imm Branches = next_test i (suc i) && far_test i imm
turn_test i imm Returns = nat_lt cut_rank (runtime_rank i)
turn_test i imm Stops = true

abbrev label_small : Option ℕ → Bool
label_small None = true
label_small (Some l) = nat_lt l 32

abbrev no_target : Option ℕ → Bool
no_target None = true
no_target (Some l) = false

abbrev line_test : ℕ → CodeLine → Bool
line_test i x = (turn_test i x.line.imm (turn_by x.line.op x.line) && no_target x.target) && (label_small x.label && (not (links_by x.line.op 1 x.line.rd) && not (links_by x.line.op 3 x.line.rd)))

abbrev lines_test : ℕ → List CodeLine → Bool
lines_test i [] = true
lines_test i (x ∷ xs) = line_test i x && lines_test (suc i) xs

-- word j is of the runtime, and its number less than that of word i
pub record Falls (i j : ℕ) : Type 0 where
  pub inside : j < 237
  pub less : runtime_rank j < runtime_rank i

abbrev pub TurnFalls : ℕ → ℕ → Turn → Type 0
TurnFalls i imm Passes = Falls i (suc i)
TurnFalls i imm Jumps = (j : ℕ) → address j ≡ sum_of (address i) imm → Falls i j
TurnFalls i imm Branches = Falls i (suc i) × ((j : ℕ) → address j ≡ sum_of (address i) imm → Falls i j)
TurnFalls i imm Returns = cut_rank < runtime_rank i
TurnFalls i imm Stops = Unit {0}

pub record IsRuntimeLine (i : ℕ) (x : CodeLine) : Type 0 where
  pub falls : TurnFalls i x.line.imm (turn_by x.line.op x.line)
  pub target : x.target ≡ None
  pub label : (l : ℕ) → x.label ≡ Some l → l < 32
  pub call : links_by x.line.op 1 x.line.rd ≡ true → ⊥
  pub cut : links_by x.line.op 3 x.line.rd ≡ true → ⊥

small_is : (o : Option ℕ) (l : ℕ) → label_small o ≡ true → o ≡ Some l → l < 32
small_is None l t e = absurd cc
small_is (Some m) l t e = let same : m ≡ l = cc in let lt : m < 32 = grind (arith, nat_tests) in omega arith

none_is : (o : Option ℕ) → no_target o ≡ true → o ≡ None
none_is None t = refl
none_is (Some l) t = absurd cc

next_is : (i j : ℕ) → next_test i j ≡ true → Falls i j
next_is i j t =
    let c = both (nat_lt j 237) (nat_lt (runtime_rank j) (runtime_rank i)) t in
    let a = c.0 in
    record { inside = grind (arith, nat_tests); less = less (runtime_rank j) (runtime_rank i) c.1 }
  where
    less : (m n : ℕ) → nat_lt m n ≡ true → m < n
    less m n h = grind (arith, nat_tests)

far_is : (i imm j : ℕ) → far_test i imm ≡ true → address j ≡ sum_of (address i) imm → Falls i j
far_is i imm j t e =
    let c = both (next_test i (target_of i imm)) (sum_of (address i) imm == address (target_of i imm)) t in
    let there : sum_of (address i) imm ≡ address (target_of i imm) = same_of (sum_of (address i) imm) (address (target_of i imm)) c.1 in
    let goes : address j ≡ address (target_of i imm) = e ∙ there in
    subst (Falls i) (sym (same_place j (target_of i imm) goes)) (next_is i (target_of i imm) c.0)
  where
    same_place : (a b : ℕ) → address a ≡ address b → a ≡ b
    same_place a b q = omega arith

turn_is : (i imm : ℕ) (turn : Turn) → turn_test i imm turn ≡ true → TurnFalls i imm turn
turn_is i imm Passes t = next_is i (suc i) t
turn_is i imm Jumps t = λ j e. far_is i imm j t e
turn_is i imm Branches t = let c = both (next_test i (suc i)) (far_test i imm) t in (next_is i (suc i) c.0, (λ j e. far_is i imm j c.1 e))
turn_is i imm Returns t = less cut_rank (runtime_rank i) t
  where
    less : (m n : ℕ) → nat_lt m n ≡ true → m < n
    less m n h = grind (arith, nat_tests)
turn_is i imm Stops t = tt

tested : (xs : List CodeLine) (i k : ℕ) (x : CodeLine) → lines_test i xs ≡ true → slice_get xs k ≡ Some x → IsRuntimeLine (i + k) x
tested [] i k x t e = absurd cc
tested (y ∷ xs) i zero x t e =
    let same : y ≡ x = cc in
    let here : i ≡ i + 0 = omega arith in
    let a = both (line_test i y) (lines_test (suc i) xs) t in
    let b = both (turn_test i y.line.imm (turn_by y.line.op y.line) && no_target y.target) (label_small y.label && (not (links_by y.line.op 1 y.line.rd) && not (links_by y.line.op 3 y.line.rd))) a.0 in
    let c = both (turn_test i y.line.imm (turn_by y.line.op y.line)) (no_target y.target) b.0 in
    let d = both (label_small y.label) (not (links_by y.line.op 1 y.line.rd) && not (links_by y.line.op 3 y.line.rd)) b.1 in
    let no = both (not (links_by y.line.op 1 y.line.rd)) (not (links_by y.line.op 3 y.line.rd)) d.1 in
    subst (λ z. IsRuntimeLine z x) here (subst (IsRuntimeLine i) same (record {
      falls = turn_is i y.line.imm (turn_by y.line.op y.line) c.0;
      target = none_is y.target c.1;
      label = λ l q. small_is y.label l d.0 q;
      call = λ q. (let n : not true ≡ true = ap not (sym q) ∙ no.0 in absurd cc);
      cut = λ q. (let n : not true ≡ true = ap not (sym q) ∙ no.1 in absurd cc);
    }))
tested (y ∷ xs) i (suc k) x t e =
    let q : suc i + k ≡ i + suc k = omega arith in
    subst (λ z. IsRuntimeLine z x) q (tested xs (suc i) k x (both (line_test i y) (lines_test (suc i) xs) t).1 e)

runtime_line : (k : ℕ) (x : CodeLine) → slice_get runtime_lines k ≡ Some x → IsRuntimeLine k x
runtime_line k x e = let z : 0 + k ≡ k = omega arith in subst (λ c. IsRuntimeLine c x) z (tested runtime_lines 0 k x refl e)

-- ---- the first two parts are the runtime

counts : (xs : List Line) → length (code_lines xs) ≡ length xs
counts [] = refl
counts (x ∷ xs) = ap suc (counts xs)

-- the parts behind the first two
abbrev pub others : List Part → List Part
others [] = []
others (x ∷ []) = []
others (x ∷ y ∷ parts) = parts

pub other_part : (parts : List Part) (p : ℕ) (part : Part) → slice_get (others parts) p ≡ Some part → slice_get parts (suc (suc p)) ≡ Some part
other_part [] p part e = absurd cc
other_part (x ∷ []) p part e = absurd cc
other_part (x ∷ y ∷ parts) p part e = e

-- the runtime's lines, and those behind it
pub record Split (parts : List Part) : Type 0 where
  pub runtime : (i : ℕ) (line : Line) → i < 237 → slice_get (lines_of parts) i ≡ Some line → IsRuntimeLine i (code_line line)
  pub past : (k : ℕ) → slice_get (lines_of parts) (237 + k) ≡ slice_get (lines_of (others parts)) k

runtime_by : (x y : List Line) (rest : List Line) → code_lines x ≡ map plain_line recovery → code_lines y ≡ checkpoint_code → length x ≡ 64 → length y ≡ 173 → (i : ℕ) (line : Line) → i < 237 → slice_get (x ++ (y ++ rest)) i ≡ Some line → slice_get runtime_lines i ≡ Some (code_line line)
runtime_by x y rest a b n m i line lt e = elim (cases_lt i 64) [
  | inl c ↦
      (let g : slice_get x i ≡ Some line = sym (get_kept x (y ++ rest) i (omega arith)) ∙ e in
      get_kept (map plain_line recovery) checkpoint_code i c ∙ ap (λ z. slice_get z i) (sym a) ∙ code_at x i line g)
  | inr c ↦
      (let q : i ≡ length x + (i - 64) = omega arith in
      let g : slice_get y (i - 64) ≡ Some line = sym (get_kept y rest (i - 64) (omega arith)) ∙ sym (get_behind x (y ++ rest) i (i - 64) q) ∙ e in
      let p : i ≡ 64 + (i - 64) = omega arith in
      get_behind (map plain_line recovery) checkpoint_code i (i - 64) p ∙ ap (λ z. slice_get z (i - 64)) (sym b) ∙ code_at y (i - 64) line g)
]

past_by : (x y : List Line) (rest : List Line) → length x ≡ 64 → length y ≡ 173 → (k : ℕ) → slice_get (x ++ (y ++ rest)) (237 + k) ≡ slice_get rest k
past_by x y rest n m k =
    let q : 237 + k ≡ length x + (173 + k) = omega arith in
    let r : 173 + k ≡ length y + k = omega arith in
    get_behind x (y ++ rest) (237 + k) (173 + k) q ∙ get_behind y rest (173 + k) k r

pub split : (parts : List Part) → HasCode parts 0 (map plain_line recovery) → HasCode parts 1 checkpoint_code → Split parts
split [] a b = let e = a.is_part in absurd cc
split (x ∷ []) a b = let e = b.is_part in absurd cc
split (x ∷ y ∷ parts) a b =
    let c : code_lines x.lines.items ≡ map plain_line recovery = code_is (x ∷ y ∷ parts) 0 x (map plain_line recovery) refl a in
    let d : code_lines y.lines.items ≡ checkpoint_code = code_is (x ∷ y ∷ parts) 1 y checkpoint_code refl b in
    let n : length x.lines.items ≡ 64 = sym (counts x.lines.items) ∙ ap (length {A = CodeLine}) c in
    let m : length y.lines.items ≡ 173 = sym (counts y.lines.items) ∙ ap (length {A = CodeLine}) d in
    record {
      runtime = λ i line lt e. runtime_line i (code_line line) (runtime_by x.lines.items y.lines.items (lines_of parts) c d n m i line lt e);
      past = past_by x.lines.items y.lines.items (lines_of parts) n m;
    }
