-- The lines of a function are sound.
use Rattle.std.proofs.Common.{◌≡◌, ◌≢◌, ℕ, ◌+◌, ◌-◌, ◌^◌, ◌<◌, ◌≤◌, ◌⊎◌, inl, inr, Bool, true, List, [], ◌∷◌, ◌++◌, Option, Some, None, length, refl, sym, ap, ◌∙◌, subst, arith}
use Rattle.std.specs.Prelude.{slice_get, All}
use Rattle.std.proofs.lemmas.Option.{slice_get_within, get_or_from_slice_get}
use Rattle.im_rv.specs.declared.instr.Op.TheVariants.{Bgeu, Lw, Sw, Addi}
use Rattle.im_rv.specs.Lines.{CodeLine, plain_line}
use Rattle.im_rv_reach.specs.Instructions.{with_immediate, storing, branching}
use Rattle.im_rtlib.specs.Routines.{stack_label}
use Rattle.im_block.specs.declared.code.Line.{Line}
use Rattle.im_block.specs.declared.code.Exit.{Exit}
use Rattle.im_block.specs.declared.code.Block.{Block}
use Rattle.im_block.specs.declared.unit.Function.{Function}
use Rattle.im_block.specs.Wellformed.{LineThere, ExitThere, IsBlock}
use Rattle.im_alloc_placed.specs.Placed.{IsPlacedBlock}
use Rattle.im_alloc_placed.specs.Operands.{IsHome}
use Rattle.im_live.specs.Reads.{lives_before}
use Rattle.im_select.specs.Emitted.{entry_label, labelled, call_code, adds_code, block_code, others_below, laid_order, kept_order, Laying, leads_of, next_label, found_code, laid_block, laid_code, blocks_code, enter_code, prologue_code}
use Rattle.im_select.proofs.Following.{LeadsOn, lead_path, lead_below, lead_entry, kept_first}
use Rattle.im_saved_code.specs.Scan.{is_base, After, scan, AreSound}
use Rattle.im_saved_code.specs.LinesLaws.{lives_inside, IsLow, HasEntries, HasBlocks, HoldsCalls, SavesFrom, laid, FunctionLinesLaw}
use Rattle.im_saved_code.proofs.Scanning.{either, IsUnsaved, unsaved_not, unsaved_true, or_unsaved, scan_append, sound_append, scan_labelled, sound_labelled, Lives, First, Second, Later, line_lives, plain_sound, plain_wants}
use Rattle.im_saved_code.proofs.Plain.{adds_plain, adds_wants}
use Rattle.im_saved_code.proofs.Order.{some_there, AreBelow, order_below, kept_below}
use Rattle.im_saved_code.proofs.Selected.{Meets, jump_before, jump_sound, body, body_before, body_sound}

-- ---- the prologue

-- the stack pointer goes down, the return address is saved
abbrev taken_code : List CodeLine
taken_code = plain_line (with_immediate Addi 2 6 0) ∷ plain_line (storing Sw 2 1 0) ∷ []

-- the test of the stack, over a jump
abbrev tested_code : List CodeLine
tested_code = plain_line (branching Bgeu 6 5 8) ∷ (call_code 0 stack_label ++ taken_code)

abbrev bound_code : List CodeLine
bound_code = plain_line (with_immediate Lw 5 0 28) ∷ []

module _ (at : ℕ → ℕ → Bool) (low : IsLow at) where
  taken_before : (behind : After) (r : ℕ) → IsUnsaved r → r ≢ 6 → (scan at taken_code behind).next r ≡ true → behind.next r ≡ true
  taken_before behind r u away w = by (plain_wants at taken_code behind r ((refl, refl), ((refl, refl), tt)) u w)
    where
      second : (r ≡ 2) ⊎ (r ≡ 1) ⊎ ((r ≢ 0) × (behind.next r ≡ true)) → behind.next r ≡ true
      second (inl e) = absurd (unsaved_not r 2 u refl e)
      second (inr (inl e)) = absurd (unsaved_not r 1 u refl e)
      second (inr (inr c)) = c.1

      by : (r ≡ 6) ⊎ (r ≡ 0) ⊎ ((r ≢ 2) × ((r ≡ 2) ⊎ (r ≡ 1) ⊎ ((r ≢ 0) × (behind.next r ≡ true)))) → behind.next r ≡ true
      by (inl e) = absurd (away e)
      by (inr (inl e)) = absurd (unsaved_not r 0 u refl e)
      by (inr (inr c)) = second c.1

  stack_only : (r : ℕ) → IsUnsaved r → at 35 r ≡ true → ⊥
  stack_only r u e = elim (either (is_base r) (lives_inside 35 r) (sym (low.is 35 r (omega arith)) ∙ e)) [ inl s ↦ unsaved_true r u s | inr w ↦ cc ]

  tested_before : (behind : After) (r : ℕ) → IsUnsaved r → r ≢ 6 → r ≢ 5 → (scan at tested_code behind).next r ≡ true → behind.next r ≡ true
  tested_before behind r u away apart w = by (line_lives at (plain_line (branching Bgeu 6 5 8)) (scan at (call_code 0 stack_label ++ taken_code) behind) r u w)
    where
      by : Lives at (plain_line (branching Bgeu 6 5 8)) (scan at (call_code 0 stack_label ++ taken_code) behind) r → behind.next r ≡ true
      by (First e) = absurd (away e)
      by (Second e) = absurd (apart e)
      by (Later ne o) = elim (either ((scan at (call_code 0 stack_label ++ taken_code) behind).next r) ((scan at taken_code behind).next r) o) [
        | inl a ↦ absurd (stack_only r u (jump_before at 0 35 (scan at taken_code behind) r refl u a))
        | inr b ↦ taken_before behind r u away b
      ]

  enter_before : (behind : After) (r : ℕ) → IsUnsaved r → r ≢ 6 → (scan at enter_code behind).next r ≡ true → behind.next r ≡ true
  enter_before behind r u away w = by (plain_wants at bound_code (scan at tested_code behind) r ((refl, refl), tt) u w)
    where
      by : (r ≡ 0) ⊎ (r ≡ 0) ⊎ ((r ≢ 5) × ((scan at tested_code behind).next r ≡ true)) → behind.next r ≡ true
      by (inl e) = absurd (unsaved_not r 0 u refl e)
      by (inr (inl e)) = absurd (unsaved_not r 0 u refl e)
      by (inr (inr c)) = tested_before behind r u away c.0 c.1

  prologue_before : (frame : ℕ) (behind : After) (r : ℕ) → IsUnsaved r → (scan at (prologue_code frame) behind).next r ≡ true → behind.next r ≡ true
  prologue_before frame behind r u w =
      let by : ℕ = 2 ^ 32 - frame in
      let c = adds_wants 6 by ((scan at enter_code behind).next r ≡ true) r u
      (plain_wants at (adds_code 6 by) (scan at enter_code behind) r (adds_plain 6 by) u (sym (ap (λ (z : After). z.next r) (scan_append at (adds_code 6 by) enter_code behind)) ∙ w)) in
      enter_before behind r u c.0 c.1

  tested_sound : (behind : After) → AreSound at tested_code behind
  tested_sound behind = (
    record { labelled = λ l r e w. absurd cc; goes = inl (refl, refl) },
    sound_append at (call_code 0 stack_label) taken_code behind
        (jump_sound at 0 stack_label (scan at taken_code behind) (λ e. absurd (omega arith)) (omega arith) (λ e. absurd (omega arith)))
        (plain_sound at taken_code behind ((refl, refl), ((refl, refl), tt))),
  )

  prologue_sound : (frame : ℕ) (behind : After) → AreSound at (prologue_code frame) behind
  prologue_sound frame behind =
      let by : ℕ = 2 ^ 32 - frame in
      sound_append at (adds_code 6 by) enter_code behind (plain_sound at (adds_code 6 by) (scan at enter_code behind) (adds_plain 6 by))
      (sound_append at bound_code tested_code behind (plain_sound at bound_code (scan at tested_code behind) ((refl, refl), tt)) (tested_sound behind))

-- ---- blocks

pub record BlockFacts (functions : List Function) (statics count : ℕ) (f : Function) (m : ℕ → ℕ → ℕ) (live : ℕ → ℕ → Bool) (b : ℕ) (block : Block) : Type 0 where
  pub inside : b < count
  pub placed : IsPlacedBlock statics f block
  pub there : All (LineThere functions) block.lines.items
  pub exits : ExitThere count block.exit
  pub calls : HoldsCalls live block.lines.items block.exit
  pub saves : SavesFrom live (m b) 0 block.lines.items block.exit
  pub closed : (r : ℕ) → lives_before live block.lines.items block.exit r ≡ true → live b r ≡ true

module _ (functions : List Function) (statics : ℕ) (f : Function) (laying : Laying) (live at : ℕ → ℕ → Bool) (above : 64 ≤ laying.first) (kept : (b r : ℕ) → live b r ≡ true → laying.live b r ≡ true) (low : IsLow at) (entries : HasEntries functions at) (blocks : HasBlocks live laying.first (length laying.blocks) at) (homes : (b r : ℕ) → live b r ≡ true → (is_base r ≡ true) ⊎ IsHome r) (facts : (b : ℕ) (block : Block) → slice_get laying.blocks b ≡ Some block → BlockFacts functions statics (length laying.blocks) f laying.cut live b block) where
  abbrev Facts : ℕ → Block → Type 0
  Facts b block = BlockFacts functions statics (length laying.blocks) f laying.cut live b block

  inside : (b : ℕ) → b < length laying.blocks → leads_of laying b < length laying.blocks
  inside b h = lead_below laying.blocks laying.entry b (length laying.blocks) h

  -- what lives where a block leads lives at the block
  lives_onward : (b c r : ℕ) → LeadsOn laying.blocks laying.entry b c → live c r ≡ true → live b r ≡ true
  lives_onward b c r on h = (facts b on.block on.there).closed r (subst (λ (z : List Line). lives_before live z on.block.exit r ≡ true) (sym on.lines) (subst (λ (z : Exit). lives_before live [] z r ≡ true) (sym on.exit) h))

  further : (b r : ℕ) → live (leads_of laying b) r ≡ true → live b r ≡ true
  further b r = lead_path laying.blocks laying.entry (λ x d. live d r ≡ true → live x r ≡ true) (λ x h. h) (λ x c d on k h. lives_onward x c r on (k h)) b

  abbrev code_of : Option ℕ → ℕ → Block → List CodeLine
  code_of next b block = block_code laying.at (laying.cut b) laying.live (leads_of laying) laying.distance next laying.first laying.frame b block

  abbrev lines_of : Option ℕ → ℕ → Block → List CodeLine
  lines_of next b block = body functions statics laying.first (length laying.blocks) laying.frame f laying.at (laying.cut b) laying.live laying.distance live at above kept low entries blocks homes (leads_of laying) inside further next block.lines.items block.exit

  -- what lives before a block lives at its label
  lines_before : (next : Option ℕ) (b : ℕ) (block : Block) (behind : After) (r : ℕ) → Facts b block → Meets at next behind → (scan at (lines_of next b block) behind).next r ≡ true → at (laying.first + b) r ≡ true
  lines_before next b block behind r k meets w = elim (or_unsaved (at (laying.first + b) r ≡ true) r unsaved) [
    | inl s ↦ low.base (laying.first + b) r s
    | inr e ↦ e
  ]
    where
      unsaved : IsUnsaved r → at (laying.first + b) r ≡ true
      unsaved u =
          blocks.all b r k.inside
          (k.closed r
          (body_before functions statics laying.first (length laying.blocks) laying.frame f laying.at (laying.cut b) laying.live laying.distance live at above kept low entries blocks homes (leads_of laying) inside further next block.lines.items block.exit behind r meets k.placed.lines k.placed.exit k.there k.exits u w))

  block_before : (next : Option ℕ) (b : ℕ) (block : Block) (behind : After) (r : ℕ) → Facts b block → Meets at next behind → (scan at (code_of next b block) behind).next r ≡ true → at (laying.first + b) r ≡ true
  block_before next b block behind r k meets w =
      lines_before next b block behind r k meets (sym (ap (λ (z : After). z.next r) (scan_labelled at (laying.first + b) (lines_of next b block) behind)) ∙ w)

  block_sound : (next : Option ℕ) (b : ℕ) (block : Block) (behind : After) → Facts b block → Meets at next behind → AreSound at (code_of next b block) behind
  block_sound next b block behind k meets =
      sound_labelled at (laying.first + b) (lines_of next b block) behind (λ r w. lines_before next b block behind r k meets w)
      (body_sound functions statics laying.first (length laying.blocks) laying.frame f laying.at (laying.cut b) laying.live laying.distance live at above kept low entries blocks homes (leads_of laying) inside further next block.lines.items block.exit behind meets k.placed.lines k.placed.exit k.there k.exits k.calls k.saves)

  -- ---- as they are laid

  laid_before : (b : ℕ) (order : List ℕ) (behind : After) (r : ℕ) → b < length laying.blocks → Meets at (next_label laying.first order) behind → (scan at (laid_block laying b order) behind).next r ≡ true → at (laying.first + b) r ≡ true
  laid_before b order behind r there meets w = by (slice_get laying.blocks b) refl w
    where
      next : Option ℕ
      next = next_label laying.first order

      by : (o : Option Block) → slice_get laying.blocks b ≡ o → (scan at (found_code laying b next o) behind).next r ≡ true → at (laying.first + b) r ≡ true
      by None e v = absurd (some_there laying.blocks b there e)
      by (Some block) e v = block_before next b block behind r (facts b block e) meets v

  laid_sound : (b : ℕ) (order : List ℕ) (behind : After) → Meets at (next_label laying.first order) behind → AreSound at (laid_block laying b order) behind
  laid_sound b order behind meets = by (slice_get laying.blocks b) refl
    where
      next : Option ℕ
      next = next_label laying.first order

      by : (o : Option Block) → slice_get laying.blocks b ≡ o → AreSound at (found_code laying b next o) behind
      by None e = tt
      by (Some block) e = block_sound next b block behind (facts b block e) meets

  code_meets : (order : List ℕ) (behind : After) → AreBelow (length laying.blocks) order → Meets at (next_label laying.first order) (scan at (laid_code laying order) behind)
  code_meets [] behind h l r e u w = absurd cc
  code_meets (b ∷ order) behind h l r e u w =
      let rest : After = scan at (laid_code laying order) behind in
      let is = scan_append at (laid_block laying b order) (laid_code laying order) behind in
      let same : laying.first + b ≡ l = cc in
      subst (λ z. at z r ≡ true) same (laid_before b order rest r h.0 (code_meets order behind h.1) (sym (ap (λ (z : After). z.next r) is) ∙ w))

  code_sound : (order : List ℕ) (behind : After) → AreBelow (length laying.blocks) order → AreSound at (laid_code laying order) behind
  code_sound [] behind h = tt
  code_sound (b ∷ order) behind h =
      sound_append at (laid_block laying b order) (laid_code laying order) behind (laid_sound b order (scan at (laid_code laying order) behind) (code_meets order behind h.1)) (code_sound order behind h.1)

  all_below : laying.entry < length laying.blocks → AreBelow (length laying.blocks) (kept_order laying)
  all_below there = kept_below (leads_of laying) (length laying.blocks) (laid_order laying.entry (length laying.blocks)) (order_below laying.entry (length laying.blocks) there)

  blocks_meet : (behind : After) → laying.entry < length laying.blocks → Meets at (Some (laying.first + laying.entry)) (scan at (blocks_code laying) behind)
  blocks_meet behind there =
      let first = kept_first (leads_of laying) laying.entry (others_below laying.entry (length laying.blocks)) (lead_entry laying.blocks laying.entry) in
      subst (λ (z : List ℕ). Meets at (next_label laying.first z) (scan at (blocks_code laying) behind)) first (code_meets (kept_order laying) behind (all_below there))

  blocks_sound : (behind : After) → laying.entry < length laying.blocks → AreSound at (blocks_code laying) behind
  blocks_sound behind there = code_sound (kept_order laying) behind (all_below there)

all_at : {X : Type 0} (P : X → Type 0) (xs : List X) (i : ℕ) (x : X) → All P xs → slice_get xs i ≡ Some x → P x
all_at P xs i x a e = subst P (get_or_from_slice_get xs i x x e) (a i x (slice_get_within xs i x e))

pub function_lines : FunctionLinesLaw
function_lines functions statics i first frame f places m by distance live at there above kept low entries blocks whole placed held saves behind =
    sound_append at (labelled (entry_label i) (prologue_code frame)) rest behind
    (sound_labelled at (entry_label i) (prologue_code frame) onward
    (λ r w.
    elim (or_unsaved (at (entry_label i) r ≡ true) r (λ u.
    argument r u (held.entered r (entry_live r u (blocks_meet functions statics f laying live at above kept low entries blocks held.homes facts behind whole.entry (first + f.entry) r refl u (prologue_before at low frame onward r u w)))))) [
      | inl s ↦ low.base (entry_label i) r s
      | inr e ↦ e
    ])
    (prologue_sound at low frame onward))
    (blocks_sound functions statics f laying live at above kept low entries blocks held.homes facts behind whole.entry)
  where
    laying : Laying
    laying = laid f places m by distance first frame

    rest : List CodeLine
    rest = blocks_code laying

    onward : After
    onward = scan at rest behind

    facts : (b : ℕ) (block : Block) → slice_get f.blocks.items b ≡ Some block → BlockFacts functions statics (length f.blocks.items) f m live b block
    facts b block e =
        let k = all_at (IsBlock functions f) f.blocks.items b block whole.blocks e in
        record {
          inside = slice_get_within f.blocks.items b block e;
          placed = all_at (IsPlacedBlock statics f) f.blocks.items b block placed.blocks e;
          there = k.lines_there;
          exits = k.exit_there;
          calls = held.calls b block e;
          saves = saves b block e;
          closed = λ r w. held.closed b block r e w;
        }

    entry_live : (r : ℕ) → IsUnsaved r → at (first + f.entry) r ≡ true → live f.entry r ≡ true
    entry_live r u e = elim (blocks.only f.entry r whole.entry e) [ inl s ↦ absurd (unsaved_true r u s) | inr w ↦ w ]

    argument : (r : ℕ) → IsUnsaved r → (is_base r ≡ true) ⊎ ((10 ≤ r) × (r < 10 + f.parameters)) → at (entry_label i) r ≡ true
    argument r u (inl s) = absurd (unsaved_true r u s)
    argument r u (inr e) = entries.all i r f there e.0 e.1
