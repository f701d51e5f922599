-- The lines of a program's parts are sound, and what its runtime's lines name.
use Rattle.std.proofs.Common.{◌≡◌, ℕ, zero, suc, ◌<◌, ◌⊎◌, inl, inr, Bool, true, List, [], ◌∷◌, Option, Some, None, length, map, refl, sym, ap, ◌∙◌, subst, arith}
use Rattle.std.specs.Prelude.{◌&&◌, not, nat_lt, ◌==◌, slice_get}
use Rattle.std.proofs.lemmas.Bool.Decides.{nat_tests}
use Rattle.std.proofs.lemmas.Option.{slice_get_cases, slice_get_within}
use Rattle.im_rv.specs.declared.code.Part.{Part}
use Rattle.im_rv.specs.Lines.{CodeLine, plain_line, code_lines}
use Rattle.im_gap.specs.Flow.{links_by}
use Rattle.im_link.specs.Parts.{IsPart}
use Rattle.im_ckpt.specs.Recovery.{recovery}
use Rattle.im_ckpt.specs.Checkpoint.{checkpoint_code}
use Rattle.im_rtlib.specs.Routines.{routine, exit}
use Rattle.im_block.specs.declared.code.Block.{Block}
use Rattle.im_block.specs.declared.unit.Function.{Function}
use Rattle.im_block.specs.declared.unit.Unit.{Unit as Code}
use Rattle.im_block.specs.Wellformed.{Takes, IsFunction, IsWellFormed}
use Rattle.im_alloc_placed.specs.Placed.{IsPlacedFunction}
use Rattle.im_alloc_relation.specs.Settled.{IsSettled}
use Rattle.im_live.specs.Entries.{entries}
use Rattle.im_frame.specs.declared.layout.Layout.{Layout}
use Rattle.im_select.specs.declared.distance.Distance.{Distance}
use Rattle.im_select.specs.Emitted.{entry_label, call_code, function_code}
use Rattle.im_select.specs.Places.{at_of}
use Rattle.im_link_laws.specs.Program.{HasCode, routine_part, part_of, first_label, given_at, start_code, IsProgram}
use Rattle.im_link_laws.proofs.Services.{routine_there, PartAt, ServicePart, StackPart, LaterPart, part_at}
use Rattle.im_saved_code.specs.Scan.{is_base, is_returned, After, scan, AreSound}
use Rattle.im_saved_code.specs.LinesLaws.{IsLow, IsHeld, SavesFrom, laid}
use Rattle.im_saved_code.proofs.Scanning.{both, or_left, or_right, same_is, IsUnsaved, unsaved_true, sound_append}
use Rattle.im_saved_code.proofs.Selected.{jump_before, jump_sound}
use Rattle.im_saved_code.proofs.Blocks.{function_lines}
use Rattle.im_saved_code.proofs.Routines.{routine_lines}
use Rattle.im_saved_code.proofs.Lists.{all_at}
use Rattle.im_saved_code.proofs.Held.{held, held_lives, is_held, saves}
use Rattle.im_saved_code.proofs.Labels.{at_labels, labels_low, labels_entries, labels_blocks}

-- the lines of a part are its code
pub code_is : (parts : List Part) (p : ℕ) (part : Part) (code : List CodeLine) → IsPart parts p part → HasCode parts p code → code_lines part.lines.items ≡ code
code_is parts p part code a c = let b = c.is_part in let same : part ≡ c.part = cc in ap (λ (z : Part). code_lines z.lines.items) same ∙ c.lines

module _ (u : Code) (statics : List ℕ) (layouts : List Layout) (parts : List Part) (program : IsProgram u statics layouts parts) (well : IsWellFormed u) (settled : IsSettled u) where
  -- function i, with what lives in it and the entries of its cuts
  pub record OwnPart (i : ℕ) (f : Function) (live : ℕ → ℕ → Bool) : Type 0 where
    pub layout : Layout
    pub m : ℕ → ℕ → ℕ
    pub by : ℕ → ℕ → Bool
    pub kept : (b r : ℕ) → live b r ≡ true → by b r ≡ true
    pub distance : Distance
    pub there : HasCode parts (part_of i) (function_code i (laid f (at_of (given_at u.functions.items statics i f layout)) m by distance (first_label u.functions.items i) layout.frame))
    pub placed : IsPlacedFunction (length statics) f
    pub is_held : IsHeld live f
    pub saves : (b : ℕ) (block : Block) → slice_get f.blocks.items b ≡ Some block → SavesFrom live (m b) 0 block.lines.items block.exit

  pub record Own (i : ℕ) : Type 0 where
    pub live : ℕ → ℕ → Bool
    pub part : (f : Function) → slice_get u.functions.items i ≡ Some f → OwnPart i f live

  own_part : (i : ℕ) (f : Function) → slice_get u.functions.items i ≡ Some f → Own i
  own_part i f e =
      let own = program.functions i f e in
      let placed = own.selectable.placed in
      let exact = own.selection.exact in
      let part : OwnPart i f (held exact.live) = record {
        layout = own.layout;
        m = entries exact.live f.blocks.items;
        by = exact.live;
        kept = λ b r h. held_lives exact.live b r h;
        distance = exact.distance;
        there = subst (HasCode parts (part_of i)) exact.lines_are own.there;
        placed = placed;
        is_held = is_held (length statics) f (settled.wanted i) exact.live placed (settled.each i f e) exact.is_live;
        saves = saves (length statics) f (settled.wanted i) exact.live placed (settled.each i f e) exact.is_live;
      } in
      record { live = held exact.live; part = λ g d. (let same : f ≡ g = cc in subst (λ z. OwnPart i z (held exact.live)) same part) }

  pub own : (i : ℕ) → Own i
  own i = by (slice_get u.functions.items i) refl
    where
      by : (o : Option Function) → slice_get u.functions.items i ≡ o → Own i
      by None e = record { live = λ b r. true; part = λ f d. absurd cc }
      by (Some f) e = own_part i f e

  abbrev pub live_in : ℕ → ℕ → ℕ → Bool
  live_in i = (own i).live

  abbrev pub at : ℕ → ℕ → Bool
  at l r = at_labels live_in u.functions.items l r

  pub low : IsLow at
  low = labels_low live_in u.functions.items

  -- where a run begins lives only what may live anywhere
  main_saved : (o : Option Function) (r : ℕ) → slice_get u.functions.items u.main ≡ o → Takes o 0 → at (entry_label u.main) r ≡ true → is_base r ≡ true
  main_saved None r e t w = absurd t
  main_saved (Some f) r e t w = elim ((labels_entries live_in u.functions.items).only u.main r f e w) [
    | inl s ↦ s
    | inr c ↦ (let a = c.0 in let b = c.1 in let none : f.parameters ≡ 0 = t in absurd (omega arith))
  ]

  pub begins_saved : (behind : After) (r : ℕ) → IsUnsaved r → (scan at (call_code 1 (entry_label u.main)) behind).next r ≡ true → ⊥
  begins_saved behind r n w = unsaved_true r n (main_saved (slice_get u.functions.items u.main) r refl well.main (jump_before at 1 (entry_label u.main) behind r refl n w))

  returned_of : (r : ℕ) → (is_base r ≡ true) ⊎ (r ≡ 10) → is_returned r ≡ true
  returned_of r (inl e) = or_left (is_base r) (r == 10) e
  returned_of r (inr q) = or_right (is_base r) (r == 10) (same_is r 10 q)

  start_sound : (behind : After) → AreSound at (start_code u.main) behind
  start_sound behind =
      sound_append at (call_code 1 (entry_label u.main)) exit behind
      (jump_sound at 1 (entry_label u.main) (scan at exit behind) (λ e. absurd (omega arith)) (omega arith) (λ e r w. returned_of r (routine_lines.exit_lives at low behind r w)))
      (routine_lines.exit_sound at low behind)

  function_sound : (i : ℕ) (f : Function) → slice_get u.functions.items i ≡ Some f → (part : Part) (behind : After) → IsPart parts (part_of i) part → AreSound at (code_lines part.lines.items) behind
  function_sound i f e part behind is_part =
      let p = (own i).part f e in
      let first : ℕ = first_label u.functions.items i in
      let code : List CodeLine = function_code i (laid f (at_of (given_at u.functions.items statics i f p.layout)) p.m p.by p.distance first p.layout.frame) in
      subst (λ z. AreSound at z behind) (sym (code_is parts (part_of i) part code is_part p.there))
      (function_lines u.functions.items (length statics) i first p.layout.frame f (at_of (given_at u.functions.items statics i f p.layout)) p.m p.by p.distance (live_in i) at e (omega arith) p.kept low
      (labels_entries live_in u.functions.items) (labels_blocks live_in u.functions.items i f e) (all_at (IsFunction u.functions.items) u.functions.items i f well.functions e) p.placed p.is_held p.saves behind)

  routine_sound : (p : ℕ) (part : Part) (behind : After) (code : List CodeLine) → IsPart parts p part → HasCode parts p code → AreSound at code behind → AreSound at (code_lines part.lines.items) behind
  routine_sound p part behind code is_part c s = subst (λ z. AreSound at z behind) (sym (code_is parts p part code is_part c)) s

  -- behind recovery and the checkpoint
  pub part_sound : (p : ℕ) (part : Part) (behind : After) → IsPart parts (suc (suc p)) part → AreSound at (code_lines part.lines.items) behind
  part_sound p part behind e = by (suc (suc p)) (part_at p) e
    where
      by : (n : ℕ) → PartAt n → IsPart parts n part → AreSound at (code_lines part.lines.items) behind
      by n (ServicePart service) e = routine_sound (routine_part service) part behind (routine service) e (routine_there u statics layouts parts program service) (routine_lines.service_sound service at low behind)
      by n StackPart e = routine_sound 4 part behind _ e program.stops (routine_lines.stack_sound at low behind)
      by n (LaterPart i) e = elim (slice_get_cases u.functions.items i).1 [
        | inl c ↦ function_sound i c.0 c.2 part behind e
        | inr c ↦
            (let le = c.0 in
            let count = program.count in
            let within = slice_get_within parts (part_of i) part e in
            let q : part_of i ≡ part_of (length u.functions.items) = omega arith in
            routine_sound (part_of (length u.functions.items)) part behind (start_code u.main) (subst (λ z. IsPart parts z part) q e) program.begins (start_sound behind))
      ]

-- ---- the runtime's lines

-- no label from 32 on, and no call
abbrev label_small : Option ℕ → Bool
label_small None = true
label_small (Some l) = nat_lt l 32

abbrev runtime_test : List CodeLine → Bool
runtime_test [] = true
runtime_test (x ∷ xs) = (label_small x.label && not (links_by x.line.op 1 x.line.rd)) && runtime_test xs

pub record IsRuntimeLine (x : CodeLine) : Type 0 where
  pub label : (l : ℕ) → x.label ≡ Some l → l < 32
  pub call : links_by x.line.op 1 x.line.rd ≡ true → ⊥

small_is : (o : Option ℕ) (l : ℕ) → label_small o ≡ true → o ≡ Some l → l < 32
small_is None l t e = absurd cc
small_is (Some m) l t e = let same : m ≡ l = cc in let lt : m < 32 = grind (arith, nat_tests) in omega arith

tested : (xs : List CodeLine) (k : ℕ) (x : CodeLine) → runtime_test xs ≡ true → slice_get xs k ≡ Some x → IsRuntimeLine x
tested [] k x t e = absurd cc
tested (y ∷ xs) zero x t e =
    let same : y ≡ x = cc in
    let a = both (label_small y.label && not (links_by y.line.op 1 y.line.rd)) (runtime_test xs) t in
    let b = both (label_small y.label) (not (links_by y.line.op 1 y.line.rd)) a.0 in
    subst IsRuntimeLine same (record { label = λ l q. small_is y.label l b.0 q; call = λ q. (let n : not true ≡ true = ap not (sym q) ∙ b.1 in absurd cc) })
tested (y ∷ xs) (suc k) x t e = tested xs k x (both (label_small y.label && not (links_by y.line.op 1 y.line.rd)) (runtime_test xs) t).1 e

pub recovery_line : (k : ℕ) (x : CodeLine) → slice_get (map plain_line recovery) k ≡ Some x → IsRuntimeLine x
recovery_line k x e = tested (map plain_line recovery) k x refl e

pub checkpoint_line : (k : ℕ) (x : CodeLine) → slice_get checkpoint_code k ≡ Some x → IsRuntimeLine x
checkpoint_line k x e = tested checkpoint_code k x refl e
