-- Where a run stands in its words, and how it leaves a word outside the runtime.
use Rattle.std.proofs.Common.{◌≡◌, ◌≢◌, ℕ, zero, suc, ◌+◌, ◌%◌, ◌<◌, ◌≤◌, ◌⊎◌, inl, inr, true, false, List, length, Option, Some, None, refl, sym, ap, subst, ◌∙◌, arith}
use Rattle.std.specs.Prelude.{◌==◌, ◌&&◌, nat_lt}
use Rattle.std.proofs.lemmas.Option.{slice_get-get_or}
use Rattle.std.proofs.lemmas.Bool.Decides.{nat_tests}
use Rattle.im_mem.specs.Memory.{loaded, Stands}
use Rattle.im_mem.proofs.Words.{little-alike, stands-alike}
use Rattle.im_rv.specs.declared.instr.Op.{Op}
use Rattle.im_rv.specs.declared.instr.Op.TheVariants.{Sw, Ebreak}
use Rattle.im_rv.specs.declared.step.Went.TheVariants.{On, Halted, Faulted}
use Rattle.im_rv.specs.declared.effect.Effect.{Effect}
use Rattle.im_rv.specs.declared.effect.Effect.TheVariants.{Puts, Stores, Stops as Ends}
use Rattle.im_rv.specs.Steps.{Stepped, sum_of, row, with_reg, effected}
use Rattle.im_rv.specs.Decode.{Line}
use Rattle.im_rv.specs.Runs.{decoded, step_of}
use Rattle.im_rv.specs.Effects.{decoded_word, effect, effect_by, rd_of, writes_by, sets_by}
use Rattle.im_rv.specs.Code.{address, instruction_at}
use Rattle.im_rv.proofs.Locality.{decoded_line, step_effected}
use Rattle.im_replay_path.proofs.Times.{truth}
use Rattle.im_device.specs.Run.{index_of}
use Rattle.im_ckpt.specs.Runs.{State, line_at, effect_at, sets, writes}
use Rattle.im_ckpt.specs.Buffers.{is_fixed}
use Rattle.im_ckpt.specs.Checkpoint.{entry_at}
use Rattle.im_ckpt.specs.Laws.{is_runtime, IsCut, IsIntact}
use Rattle.im_ckpt.proofs.Phases.{Phase, Outside, Enters, none_kept, mem_next, next_is, enters, inside_on}
use Rattle.im_gap.specs.declared.flow.Turn.{Turn}
use Rattle.im_gap.specs.declared.flow.Turn.TheVariants.{Jumps, Branches, Passes, Returns, Stops}
use Rattle.im_gap.specs.Flow.{turn_by, turn_of, imm_of, is_flip, links, links_by, IsBehind, Leads, Flow}
use Rattle.im_gap.specs.Flows.{IsAt, GoesBehindCall}
use Rattle.im_gap.proofs.Rows.{holds_code, fetched_word, step_law}
use Rattle.im_saved.specs.Liveness.{sets_register, names_target, IsCutTo, EntersByCuts}
use Rattle.im_saved.specs.Laws.{BeginsAt, KeepsToCode}
use Rattle.im_saved.proofs.Rows.{place_by, Way, Over, To, Back, Halts, way, link_of, stop_of, sets_same, goes_on}

-- ---- places in and behind the runtime

pub behind_outside : (i : ℕ) → 237 ≤ i → is_runtime (address i) ≡ false
behind_outside i l = grind (arith, nat_tests)

pub outside_behind : (i : ℕ) → is_runtime (address i) ≡ false → 237 ≤ i
outside_behind i h = grind (arith, nat_tests)

place_outside : (pc : ℕ) → 5044 ≤ pc → is_runtime pc ≡ false
place_outside pc l = grind (arith, nat_tests)

pub entry_inside : (m : ℕ) → 4 ≤ m → m ≤ 31 → is_runtime (entry_at m) ≡ true
entry_inside m a b = grind (arith, nat_tests)

pub entry_apart : (m n : ℕ) → 4 ≤ m → 4 ≤ n → entry_at m ≡ entry_at n → m ≡ n
entry_apart m n a b h = omega arith

address_apart : (i j : ℕ) → address i ≡ address j → i ≡ j
address_apart i j h = omega arith

index_fixed : (code a : ℕ) → a < 4 → is_fixed code a ≡ true
index_fixed code a l = grind (arith, nat_tests)

code_fixed : (code a : ℕ) → 4096 ≤ a → a < code → is_fixed code a ≡ true
code_fixed code a h l = grind (arith, nat_tests)

flip_fields : (a b i : ℕ) → (a == 0 && b == 4 && i == 0) ≡ true → (a ≡ 0) × (i ≡ 0)
flip_fields a b i h = (grind (arith, nat_tests), grind (arith, nat_tests))

equal_self : (r : ℕ) → (r == r) ≡ true
equal_self r = grind (arith, nat_tests)

no_link : (l : Line) → ((r rd : ℕ) → links_by l.op r rd ≡ false) → links 3 (Some l) ≡ false
no_link l h = h 3 l.rd

turn_split : (t : Turn) → (t ≡ Returns) ⊎ ((t ≡ Stops) ⊎ ((t ≢ Returns) × (t ≢ Stops)))
turn_split Passes = inr (inr (λ q. cc, λ q. cc))
turn_split Jumps = inr (inr (λ q. cc, λ q. cc))
turn_split Branches = inr (inr (λ q. cc, λ q. cc))
turn_split Returns = inl refl
turn_split Stops = inr (inl refl)

module _ (words : List ℕ) (entry j : ℕ) (run : ℕ → State) (g : BeginsAt words entry run) (keeps : KeepsToCode words run j) (e : EntersByCuts words entry) where
  abbrev code : ℕ
  code = address (length words)

  -- ---- the instruction at a time

  pub record Found (t : ℕ) : Type 0 where
    pub line : Line
    pub is : line_at (run t) ≡ Some line

  found_in : (t : ℕ) (o : Option Line) → t < j → line_at (run t) ≡ o → Found t
  found_in t None lt q = absurd (keeps.calm t (run t).cpu.pc lt (ap (λ (s : Stepped). s.went) (decoded_line (run t).cpu (run t).mem (loaded (run t).mem (run t).cpu.pc 4) ∙ ap (decoded (run t).cpu (run t).mem) q)))
  found_in t (Some l) lt q = record { line = l; is = q }

  pub found : (t : ℕ) → t < j → Found t
  found t lt = found_in t (line_at (run t)) lt refl

  pub place : (t : ℕ) → t < j → (i : ℕ) × (i < length words) × IsAt run t i
  place t lt = keeps.places t lt

  pub within : (t i : ℕ) → t < j → IsAt run t i → i < length words
  within t i lt p = (let x = place t lt in let a = x.1 in let b = x.2 in omega arith)

  stays : (t : ℕ) → IsIntact run code t → Stands (run t).mem 4096 words
  stays t h = stands-alike (run 0).mem (run t).mem words 4096 (λ a p q. sym (h.same a p (omega arith))) g.code

  pub word_line : (t i : ℕ) → t < j → IsIntact run code t → IsAt run t i → instruction_at words i ≡ line_at (run t)
  word_line t i lt h p =
      let l = within t i lt p in
      ap decoded_word (slice_get-get_or words i 0 l) ∙ sym (ap decoded_word (fetched_word words (run t).mem i (run t).cpu.pc g.few (holds_code words (run t).mem (stays t h)) l p))

  -- ---- a step

  stepped_is : (t : ℕ) (l : Line) → line_at (run t) ≡ Some l → step_of (run t).cpu (run t).mem ≡ effected (run t).cpu (run t).mem l.rd (effect (run t).cpu l)
  stepped_is t l q = step_effected (run t).cpu (run t).mem l q

  next_pc : (t : ℕ) → (run (suc t)).cpu.pc ≡ (step_of (run t).cpu (run t).mem).cpu.pc
  next_pc t = ap (λ (s : State). s.cpu.pc) (g.based.steps t)

  -- a step ends the run, or passes on, or goes to its target, or returns
  data Going (t : ℕ) (l : Line) : Type 0 where
    Ended : (run (suc t)).cpu.pc ≡ (run t).cpu.pc → Going t l
    Passed : (step_of (run t).cpu (run t).mem).went ≡ On → links 3 (Some l) ≡ false → (run (suc t)).cpu.pc ≡ sum_of (run t).cpu.pc 4 → Going t l
    Turned : (step_of (run t).cpu (run t).mem).went ≡ On → names_target (turn_by l.op l) ≡ true → (run (suc t)).cpu.pc ≡ sum_of (run t).cpu.pc l.imm → Going t l
    Returned : (step_of (run t).cpu (run t).mem).went ≡ On → links 3 (Some l) ≡ false → turn_by l.op l ≡ Returns → Going t l

  effect_next : (t : ℕ) (l : Line) (x : Effect) → line_at (run t) ≡ Some l → effect (run t).cpu l ≡ x → (run (suc t)).cpu.pc ≡ (effected (run t).cpu (run t).mem l.rd x).cpu.pc
  effect_next t l x q r = next_pc t ∙ ap (λ (s : Stepped). s.cpu.pc) (stepped_is t l q) ∙ ap (λ (z : Effect). (effected (run t).cpu (run t).mem l.rd z).cpu.pc) r

  going_by : (t : ℕ) (l : Line) → line_at (run t) ≡ Some l → (step_of (run t).cpu (run t).mem).went ≡ On → (run (suc t)).cpu.pc ≡ place_by (effect (run t).cpu l) (run t).cpu.pc → Way l.op l (run t).cpu.pc ((run t).cpu.x l.rs1) ((run t).cpu.x l.rs2) l.imm → Going t l
  going_by t l q on to (Over other p) = Passed on (no_link l other) (to ∙ p)
  going_by t l q on to (To names p) = Turned on names (to ∙ p)
  going_by t l q on to (Back other r) = Returned on (no_link l other) r
  going_by t l q on to (Halts s) = Ended (effect_next t l Ends q s)

  going : (t : ℕ) (l : Line) → t < j → line_at (run t) ≡ Some l → Going t l
  going t l lt q =
      let c = (run t).cpu in
      let m = (run t).mem in
      let calm : (at : ℕ) → (effected c m l.rd (effect c l)).went ≢ Faulted at = λ at bad. keeps.calm t at lt (ap (λ (s : Stepped). s.went) (stepped_is t l q) ∙ bad) in
      elim (goes_on c m l.rd (effect c l) calm) [
        | inl s ↦ Ended (effect_next t l Ends q s)
        | inr o ↦ going_by t l q (ap (λ (s : Stepped). s.went) (stepped_is t l q) ∙ o.0) (effect_next t l (effect c l) q refl ∙ o.1) (way l.op l c.pc (c.x l.rs1) (c.x l.rs2) l.imm)
      ]

  -- ---- a cut's jal

  record Is_jal (t : ℕ) (l : Line) : Type 0 where
    effect_is : effect_at (run t) ≡ Puts (sum_of (run t).cpu.pc 4) (sum_of (run t).cpu.pc l.imm)
    sets_link : sets (run t) 3 ≡ true
    link : (run (suc t)).cpu.x 3 ≡ sum_of (run t).cpu.pc 4

  jal_of : (t : ℕ) (l : Line) → line_at (run t) ≡ Some l → links 3 (Some l) ≡ true → Is_jal t l
  jal_of t l q h =
      let c = (run t).cpu in
      let m = (run t).mem in
      let x = link_of l.op 3 l.rd h in
      let f : effect c l ≡ Puts (sum_of c.pc 4) (sum_of c.pc l.imm) = ap (λ (z : Op). row z c.pc (c.x l.rs1) (c.x l.rs2) l.imm) x.0 in
      let eff : effect_at (run t) ≡ Puts (sum_of c.pc 4) (sum_of c.pc l.imm) = ap (effect_by c) q ∙ f in
      record {
        effect_is = eff;
        sets_link = ap (λ (z : Effect). sets_by z (rd_of (line_at (run t))) 3) eff ∙ ap (λ z. 3 == z && nat_lt 0 z) (ap rd_of q ∙ x.1);
        link = ap (λ (z : State). z.cpu.x 3) (next_is run code g.based t l q) ∙ ap (λ (z : Effect). (effected c m l.rd z).cpu.x 3) f ∙ ap (λ z. with_reg c.x z (sum_of c.pc 4) 3) x.1;
      }

  -- ---- where a word outside leads

  pub data Onward (t i : ℕ) : Type 0 where
    Same : IsAt run (suc t) i → Onward t i
    Beside : is_runtime (run (suc t)).cpu.pc ≡ false → links 3 (instruction_at words i) ≡ false → (step_of (run t).cpu (run t).mem).went ≡ On → Onward t i
    Cuts : (m : ℕ) → IsCutTo words i m → IsCut run t m → sets (run t) 3 ≡ true → Onward t i

  cut_of : (t i m : ℕ) (l : Line) → t < j → 237 ≤ i → IsAt run t i → instruction_at words i ≡ Some l → line_at (run t) ≡ Some l → IsCutTo words i m → (run (suc t)).cpu.pc ≡ sum_of (run t).cpu.pc l.imm → Onward t i
  cut_of t i m l lt out p w q c to =
      let inside = within t i lt p in
      let few = g.few in
      let jal = jal_of t l q (sym (ap (links 3) w) ∙ c.linked) in
      let next : sum_of (run t).cpu.pc 4 ≡ (run t).cpu.pc + 4 = omega arith in
      let entered : (run (suc t)).cpu.pc ≡ entry_at m = to ∙ ap (λ (z : ℕ). sum_of z l.imm) p ∙ ap (λ (o : Option Line). sum_of (address i) (imm_of o)) (sym w) ∙ c.target in
      let behind : (run t).cpu.pc + 4 ≡ address (suc i) = omega arith in
      Cuts m c (record {
        above = c.above;
        below = c.below;
        entered = entered;
        linked = jal.link ∙ next;
        even = omega arith;
        outside = ap is_runtime p ∙ behind_outside i out;
        back = ap is_runtime behind ∙ behind_outside (suc i) (omega arith);
      }) jal.sets_link

  turned : (t i : ℕ) (l : Line) → t < j → 237 ≤ i → IsAt run t i → instruction_at words i ≡ Some l → line_at (run t) ≡ Some l → (step_of (run t).cpu (run t).mem).went ≡ On → names_target (turn_by l.op l) ≡ true → (run (suc t)).cpu.pc ≡ sum_of (run t).cpu.pc l.imm → Onward t i
  turned t i l lt out p w q on names to = elim (truth (links 3 (instruction_at words i))) [
    | inl cut ↦ (let c = e.cuts i out cut in cut_of t i c.0 l lt out p w q c.1 to)
    | inr other ↦ (
        let target : (run (suc t)).cpu.pc ≡ sum_of (address i) (imm_of (instruction_at words i)) = to ∙ ap (λ (z : ℕ). sum_of z l.imm) p ∙ ap (λ (o : Option Line). sum_of (address i) (imm_of o)) (sym w) in
        Beside (ap is_runtime target ∙ e.others i out other (ap (λ (o : Option Line). names_target (turn_of o)) w ∙ names)) other on)
  ]

  behind_call : (t : ℕ) → GoesBehindCall words run t → is_runtime (run (suc t)).cpu.pc ≡ false
  behind_call t b =
      let c = b.1 in
      let call = e.calls c.0 c.1 in
      let next = c.2 in
      ap is_runtime b.2 ∙ behind_outside b.0 (omega arith)

  onward_by : (t i : ℕ) (l : Line) → t < j → 237 ≤ i → IsAt run t i → instruction_at words i ≡ Some l → line_at (run t) ≡ Some l → Going t l → Onward t i
  onward_by t i l lt out p w q (Ended same) = Same (same ∙ p)
  onward_by t i l lt out p w q (Passed on other to) =
      let inside = within t i lt p in
      let few = g.few in
      let next : sum_of (run t).cpu.pc 4 ≡ address (suc i) = omega arith in
      Beside (ap is_runtime (to ∙ next) ∙ behind_outside (suc i) (omega arith)) (ap (links 3) w ∙ other) on
  onward_by t i l lt out p w q (Turned on names to) = turned t i l lt out p w q on names to
  onward_by t i l lt out p w q (Returned on other back) =
      Beside (behind_call t (keeps.returns t i lt (ap is_runtime p ∙ behind_outside i out) p (ap turn_of w ∙ back))) (ap (links 3) w ∙ other) on

  pub onward : (t i : ℕ) → t < j → IsIntact run code t → 237 ≤ i → IsAt run t i → Onward t i
  onward t i lt h out p =
      let f = found t lt in
      onward_by t i f.line lt out p (word_line t i lt h p ∙ f.is) f.is (going t f.line lt f.is)

  -- ---- where the run is at each time

  pub record Here (t : ℕ) : Type 0 where
    pub phase : Phase run t
    pub fine : IsIntact run code t

  phase_by : (t i : ℕ) → 237 ≤ i → Onward t i → Phase run (suc t)
  phase_by t i out (Same p) = Outside (ap is_runtime p ∙ behind_outside i out)
  phase_by t i out (Beside off other on) = Outside off
  phase_by t i out (Cuts m to c link) = Enters t m 0 (enters run code g.based t m c)

  plain_on : (t : ℕ) → t < j → IsIntact run code t → is_runtime (run t).cpu.pc ≡ false → Here (suc t)
  plain_on t lt h off =
      let x = place t lt in
      let out = outside_behind x.0 (sym (ap is_runtime x.2) ∙ off) in
      let kept : (a : ℕ) → is_fixed code a ≡ true → (run (suc t)).mem a ≡ (run t).mem a = λ a f. mem_next run code g.based t a ∙ none_kept (writes run t a) ((run t).mem a) (keeps.writes_plain t a lt off f) in
      let index : index_of (run (suc t)).mem ≡ index_of (run t).mem = little-alike (run (suc t)).mem (run t).mem 4 0 (λ i a b. kept i (index_fixed code i b)) in
      record {
        phase = phase_by t x.0 out (onward t x.0 lt h out x.2);
        fine = record {
          same = λ a l r. kept a (code_fixed code a l r) ∙ h.same a l r;
          bit = subst (λ z. z < 2) (sym index) h.bit;
          zero_reg = g.zero_reg (suc t);
          words = g.small (suc t);
        };
      }

  pub first_outside : is_runtime (run 0).cpu.pc ≡ false
  first_outside = ap is_runtime g.entered ∙ place_outside entry e.begins

  pub here : (t : ℕ) → t ≤ j → Here t
  here zero le = record { phase = Outside first_outside; fine = record { same = λ a l r. refl; bit = g.index; zero_reg = g.zero_reg 0; words = g.small 0 } }
  here (suc t) le = let h = here t (omega arith) in elim (truth (is_runtime (run t).cpu.pc)) [
    | inl into ↦ (let n = inside_on run code g.based t h.fine h.phase into in record { phase = n.1; fine = n.0 })
    | inr off ↦ plain_on t (omega arith) h.fine off
  ]

  -- ---- edges, and what isn't set

  halts_not : (t : ℕ) (l : Line) → line_at (run t) ≡ Some l → (step_of (run t).cpu (run t).mem).went ≡ On → l.op ≢ Ebreak
  halts_not t l q on h =
      let c = (run t).cpu in
      let m = (run t).mem in
      let f : effect c l ≡ Ends = ap (λ (z : Op). row z c.pc (c.x l.rs1) (c.x l.rs2) l.imm) h in
      let bad : On ≡ Halted = sym on ∙ ap (λ (s : Stepped). s.went) (stepped_is t l q) ∙ ap (λ (z : Effect). (effected c m l.rd z).went) f in
      cc

  flips_not : (t : ℕ) (l : Line) → t < j → is_runtime (run t).cpu.pc ≡ false → line_at (run t) ≡ Some l → l.op ≡ Sw → is_flip l ≡ true → ⊥
  flips_not t l lt off q h f =
      let c = (run t).cpu in
      let v = c.x l.rs2 in
      let fields = flip_fields l.rs1 l.rs2 l.imm f in
      let base : c.x l.rs1 ≡ 0 = ap c.x fields.0 ∙ g.zero_reg t in
      let at : sum_of (c.x l.rs1) l.imm ≡ 0 = ap (λ (z : ℕ). sum_of z l.imm) base ∙ ap (sum_of 0) fields.1 in
      let eff : effect_at (run t) ≡ Stores 0 4 v = ap (effect_by c) q ∙ ap (λ (z : Op). row z c.pc (c.x l.rs1) v l.imm) h ∙ ap (λ (z : ℕ). Stores z 4 v) at in
      let bad : None ≡ Some (v % 256) = sym (keeps.writes_plain t 0 lt off (index_fixed code 0 (omega arith))) ∙ ap (λ (z : Effect). writes_by z 0) eff in
      cc

  pub edge : (t i k : ℕ) → suc t < j → IsIntact run code t → 237 ≤ i → IsAt run t i → IsAt run (suc t) k → (step_of (run t).cpu (run t).mem).went ≡ On → Flow words i k
  edge t i k lt h out p n on =
      let f = found t (omega arith) in
      let l = f.line in
      let w : instruction_at words i ≡ Some l = word_line t i (omega arith) h p ∙ f.is in
      let off : is_runtime (run t).cpu.pc ≡ false = ap is_runtime p ∙ behind_outside i out in
      let inside = within (suc t) k lt n in
      elim (turn_split (turn_of (instruction_at words i))) [
        | inl r ↦ (
            let b = keeps.returns t i (omega arith) off p r in
            let same : b.0 ≡ k = address_apart b.0 k (sym b.2 ∙ n) in
            record { inside = inside; leads = subst (λ (z : Turn). Leads words i k (imm_of (instruction_at words i)) z) (sym r) (subst (IsBehind words 1) same b.1) })
        | inr (inl s) ↦ absurd (elim (stop_of l.op l (sym (ap turn_of w) ∙ s)) [
          | inl q ↦ halts_not t l f.is on q
          | inr q ↦ flips_not t l (omega arith) off f.is q.0 q.1
        ])
        | inr (inr o) ↦ step_law words (run t).cpu (run t).mem i k g.few (stays t h) (within t i (omega arith) p) inside p (sym (next_pc t) ∙ n) on o.0 o.1
      ]

  pub unset_word : (t i r : ℕ) → t < j → IsIntact run code t → IsAt run t i → sets (run t) r ≡ false → sets_register (instruction_at words i) r ≡ false
  unset_word t i r lt h p u =
      let f = found t lt in
      let l = f.line in
      let c = (run t).cpu in
      ap (λ (o : Option Line). sets_register o r) (word_line t i lt h p ∙ f.is)
      ∙ sym (sets_same l.op c.pc (c.x l.rs1) (c.x l.rs2) l.imm l.rd r)
      ∙ sym (ap (λ (o : Option Line). sets_by (effect_by c o) (rd_of o) r) f.is)
      ∙ u
