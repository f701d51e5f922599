-- From sound lines to the liveness of registers at their words.
use Rattle.std.proofs.Common.{◌≡◌, ◌≢◌, ℕ, zero, suc, ◌+◌, ◌-◌, ◌<◌, ◌≤◌, ◌⊎◌, inl, inr, Bool, true, false, cond, List, Option, Some, None, length, refl, sym, ap, ◌∙◌, subst, arith}
use Rattle.std.specs.Prelude.{◌==◌, ◌&&◌, ◌||◌, not, nat_lt, nat_le, slice_get}
use Rattle.std.proofs.lemmas.Bool.Decides.{nat_tests}
use Rattle.std.proofs.lemmas.Option.{slice_get_within, slice_get_cases}
use Rattle.im_rv.specs.declared.code.Line.{Line}
use Rattle.im_rv.specs.declared.instr.Op.TheVariants.{Jal, Fence, Ebreak}
use Rattle.im_rv.specs.Formats.{format_of}
use Rattle.im_rv.specs.Steps.{sum_of}
use Rattle.im_rv.specs.Decode.{Line as Instruction, op_in}
use Rattle.im_rv.specs.Lines.{CodeLine, line_of, code_line, code_lines}
use Rattle.im_rv.specs.Code.{address, instruction_at}
use Rattle.im_ckpt.specs.Checkpoint.{checkpoint_end, entry_at}
use Rattle.im_ckpt.specs.Laws.{is_runtime}
use Rattle.im_gap.specs.declared.flow.Turn.{Turn}
use Rattle.im_gap.specs.declared.flow.Turn.TheVariants.{Passes, Jumps, Branches, Returns, Stops}
use Rattle.im_gap.specs.Flow.{turn_of, imm_of, links_by, links, IsBehind, Leads, Flow}
use Rattle.im_link.specs.Links.{StandsAt, Does, AreWordsOf}
use Rattle.im_saved_code.specs.Scan.{way, is_base, is_returned, After, nothing, at_target, onward, lives_at, before, GoesTo, Goes, IsSoundLine, AreSound}
use Rattle.im_saved_code.specs.LinesLaws.{IsLow}
use Rattle.im_saved_code.proofs.Scanning.{both, both_are, either, or_left, or_right, is_not, same_of, same_is, IsUnsaved, unsaved_not, unsaved_true, or_unsaved}
use Rattle.im_saved.specs.Liveness.{has_result, uses_register, sets_register, IsCutTo, IsLiveness, names_target, EntersByCuts}
use Rattle.im_saved_code.proofs.Lists.{after_of, after_at, sound_at, over_is, code_at}
use Rattle.im_saved_code.proofs.Words.{Word, word_of, no_word, resultless, turn_way, links_is, jumps_is}

base_low : (r : ℕ) → is_base r ≡ true → r ≤ 2
base_low r e = grind (arith, nat_tests)

-- ---- a code

pub record IsLaidOut (lines outside : List Line) (words : List ℕ) (at : ℕ → ℕ → Bool) : Type 0 where
  pub are : AreWordsOf lines words
  pub few : length lines ≤ 261120
  pub past : (k : ℕ) → slice_get lines (237 + k) ≡ slice_get outside k
  pub sound : AreSound at (code_lines outside) nothing
  pub low : IsLow at
  pub labels : (l j : ℕ) → 32 ≤ l → StandsAt lines l j → 237 ≤ j
  pub calls : (i : ℕ) → links 1 (instruction_at words i) ≡ true → 237 ≤ i
  pub entries : (l j : ℕ) → 4 ≤ l → l ≤ 31 → StandsAt lines l j → address j ≡ entry_at l

module _ (lines outside : List Line) (words : List ℕ) (at : ℕ → ℕ → Bool) (h : IsLaidOut lines outside words at) where
  abbrev pub after : ℕ → After
  after k = after_of at (code_lines outside) k

  abbrev pub live : ℕ → ℕ → Bool
  live i r = is_base r || (after (i - 237)).next r

  live_is : (i k r : ℕ) → i ≡ 237 + k → (IsUnsaved r → (after k).next r ≡ true) → live i r ≡ true
  live_is i k r e w =
      let q : i - 237 ≡ k = omega arith in
      elim (or_unsaved ((after k).next r ≡ true) r w) [
        | inl s ↦ or_left (is_base r) ((after (i - 237)).next r) s
        | inr a ↦ or_right (is_base r) ((after (i - 237)).next r) (subst (λ z. (after z).next r ≡ true) (sym q) a)
      ]

  live_past : (i k r : ℕ) → i ≡ 237 + k → IsUnsaved r → live i r ≡ true → (after k).next r ≡ true
  live_past i k r e u w =
      let q : i - 237 ≡ k = omega arith in
      elim (either (is_base r) ((after (i - 237)).next r) w) [
        | inl s ↦ absurd (unsaved_true r u s)
        | inr a ↦ subst (λ z. (after z).next r ≡ true) q a
      ]

  record AtLine (i k : ℕ) : Type 0 where
    line : Line
    is_line : slice_get lines i ≡ Some line
    word : Word lines words i line
    is : after k ≡ before at (code_line line) (after (suc k))
    sound : IsSoundLine at (code_line line) (after (suc k))

  abbrev at_line : (i k : ℕ) (line : Line) → i ≡ 237 + k → slice_get lines i ≡ Some line → AtLine i k
  at_line i k line e g =
      let there : slice_get outside k ≡ Some line = sym (h.past k) ∙ ap (slice_get lines) (sym e) ∙ g in
      let here : slice_get (code_lines outside) k ≡ Some (code_line line) = code_at outside k line there in
      record {
        line = line;
        is_line = g;
        word = word_of lines words i line h.are g;
        is = after_at at (code_lines outside) k (code_line line) here;
        sound = sound_at at (code_lines outside) k (code_line line) h.sound here;
      }

  maybe_line : (i k : ℕ) → i ≡ 237 + k → (instruction_at words i ≡ None) ⊎ AtLine i k
  maybe_line i k e = elim (slice_get_cases lines i).1 [
    | inl c ↦ inr (at_line i k c.0 e c.2)
    | inr c ↦ inl (no_word lines words i h.are c.1)
  ]

  -- a word that is an instruction has a line
  some_line : (i k : ℕ) (X : Type 0) → i ≡ 237 + k → ((instruction_at words i ≡ None) → X) → (AtLine i k → X) → X
  some_line i k X e none some = elim (maybe_line i k e) [ inl n ↦ none n | inr a ↦ some a ]

  -- what lives at a line
  now : (i k r : ℕ) (a : AtLine i k) → lives_at at (code_line a.line) (after (suc k)) r ≡ true → (after k).next r ≡ true
  now i k r a w = ap (λ (z : After). z.next r) a.is ∙ w

  later : (i k r : ℕ) (a : AtLine i k) → r ≢ a.line.instr.rd → onward at (way a.line.instr.op) a.line.instr.rd a.line.target (after (suc k)) r ≡ true → (after k).next r ≡ true
  later i k r a ne w =
      let x : CodeLine = code_line a.line in
      now i k r a
      (or_right (is_base r) _
      (or_right (r == x.line.rs1 || r == x.line.rs2) _
      (both_are (not (r == x.line.rd)) (onward at (way x.line.op) x.line.rd x.target (after (suc k)) r) (is_not (r == x.line.rd) (λ q. ne (same_of r x.line.rd q))) w)))

  -- ---- uses

  split : (i : ℕ) → 237 ≤ i → i ≡ 237 + (i - 237)
  split i le = omega arith

  uses_live : (i r : ℕ) → 237 ≤ i → uses_register (instruction_at words i) r ≡ true → live i r ≡ true
  uses_live i r le u =
      let k : ℕ = i - 237 in
      some_line i k (live i r ≡ true) (split i le)
      (λ n.
      let z = (both (nat_lt 0 r) (r == 0 || r == 0) (ap (λ o. uses_register o r) (sym n) ∙ u)).1 in
      let e : r ≡ 0 = elim (either (r == 0) (r == 0) z) [ inl a ↦ same_of r 0 a | inr a ↦ same_of r 0 a ] in
      or_left (is_base r) ((after k).next r) (ap is_base e))
      (λ a.
      let x : CodeLine = code_line a.line in
      let to = a.word.to in
      let z = (both (nat_lt 0 r) (r == to.rs1 || r == to.rs2) (ap (λ o. uses_register o r) (sym a.word.here) ∙ u)).1 in
      let named : (r == x.line.rs1 || r == x.line.rs2) ≡ true =
      elim (either (r == to.rs1) (r == to.rs2) z) [
        | inl e ↦ or_left (r == x.line.rs1) (r == x.line.rs2) (same_is r x.line.rs1 (same_of r to.rs1 e ∙ a.word.rs1))
        | inr e ↦ or_right (r == x.line.rs1) (r == x.line.rs2) (same_is r x.line.rs2 (same_of r to.rs2 e ∙ a.word.rs2))
      ] in
      live_is i k r (split i le) (λ v. now i k r a (or_right (is_base r) _ (or_left (r == x.line.rs1 || r == x.line.rs2) _ named))))

  -- ---- flows

  -- a register that isn't set by a word is not its line's
  not_set : (i k r : ℕ) (a : AtLine i k) → IsUnsaved r → (way a.line.instr.op ≡ Stops → ⊥) → sets_register (instruction_at words i) r ≡ false → r ≢ a.line.instr.rd
  not_set i k r a u ongoing s e = by (has_result (format_of a.word.to.op)) refl
    where
      to : Instruction
      to = a.word.to

      named : r ≡ a.word.to.rd
      named = e ∙ sym a.word.rd

      positive : nat_lt 0 a.word.to.rd ≡ true
      positive = below a.word.to.rd (λ z. unsaved_not r 0 u refl (named ∙ z))
        where
          below : (n : ℕ) → (n ≡ 0 → ⊥) → nat_lt 0 n ≡ true
          below zero k = absurd (k refl)
          below (suc n) k = let lt : 0 < suc n = omega arith in grind (arith, nat_tests)

      by : (b : Bool) → has_result (format_of a.word.to.op) ≡ b → ⊥
      by true t =
          let set : sets_register (Some a.word.to) r ≡ true =
          both_are (has_result (format_of a.word.to.op) && r == a.word.to.rd) (nat_lt 0 a.word.to.rd) (both_are (has_result (format_of a.word.to.op)) (r == a.word.to.rd) t (same_is r a.word.to.rd named)) positive in
          let none : sets_register (Some a.word.to) r ≡ false = ap (λ o. sets_register o r) (sym a.word.here) ∙ s in
          absurd cc
      by false t =
          let z : a.word.to.rd ≡ 0 = resultless a.word.w (op_in a.word.w) a.word.to a.word.decoded t (λ q. ongoing (ap way (sym a.word.op) ∙ q)) in
          unsaved_not r 0 u refl (named ∙ z)

  -- where a word leads that goes to a target
  lands : (i k j l : ℕ) (a : AtLine i k) → a.line.target ≡ Some l → address j ≡ sum_of (address i) (imm_of (instruction_at words i)) → StandsAt lines l j
  lands i k j l a t e = by a.line.target t a.word.does
    where
      by : (o : Option ℕ) → o ≡ Some l → Does lines i a.line o a.word.to → StandsAt lines l j
      by None q d = absurd cc
      by (Some m) q d =
          let same : m ≡ l = cc in
          let to : imm_of (instruction_at words i) ≡ a.word.to.imm = ap imm_of a.word.here in
          let goes : address j ≡ address d.0 = e ∙ ap (sum_of (address i)) to ∙ d.2.leads in
          let is : d.0 ≡ j = omega arith in
          subst (λ z. StandsAt lines l z) is (subst (λ z. StandsAt lines z d.0) same d.1)

  over_two : (i k j : ℕ) (a : AtLine i k) → a.line.target ≡ None → (line_of a.line.instr).imm ≡ 8 → address j ≡ sum_of (address i) (imm_of (instruction_at words i)) → j ≡ suc (suc i)
  over_two i k j a t eight e = by a.line.target t a.word.does
    where
      by : (o : Option ℕ) → o ≡ None → Does lines i a.line o a.word.to → j ≡ suc (suc i)
      by (Some m) q d = absurd cc
      by None q d =
          let imm : imm_of (instruction_at words i) ≡ 8 = ap imm_of a.word.here ∙ ap (λ (z : Instruction). z.imm) d ∙ eight in
          let goes : address j ≡ sum_of (address i) 8 = e ∙ ap (sum_of (address i)) imm in
          let few = h.few in
          let within = slice_get_within lines i a.line a.is_line in
          omega arith

  -- what lives at a label lives where it stands
  at_label : (l j r : ℕ) → 32 ≤ l → StandsAt lines l j → IsUnsaved r → live j r ≡ true → at l r ≡ true
  at_label l j r far s u w =
      let le = h.labels l j far s in
      let k : ℕ = j - 237 in
      let b = at_line j k s.line (split j le) s.is_line in
      b.sound.labelled l r (s.label) (sym (ap (λ (z : After). z.next r) b.is) ∙ live_past j k r (split j le) u w)

  next_live : (i k r : ℕ) → i ≡ 237 + k → IsUnsaved r → live (suc i) r ≡ true → (after (suc k)).next r ≡ true
  next_live i k r e u w = let q : suc i ≡ 237 + suc k = omega arith in live_past (suc i) (suc k) r q u w

  -- the ways on, with what is known of the line
  flow_passes : (i k j r : ℕ) → AtLine i k → i ≡ 237 + k → IsUnsaved r → live j r ≡ true → j ≡ suc i → (after (suc k)).next r ≡ true
  flow_passes i k j r a e u w q = next_live i k r e u (subst (λ z. live z r ≡ true) q w)

  target_is : (o : Option ℕ) (l : ℕ) (other : ℕ → Bool) (r : ℕ) → o ≡ Some l → at l r ≡ true → at_target at o other r ≡ true
  target_is o l other r e w = ap (λ z. at_target at z other r) e ∙ w

  flow_jumps : (i k j r : ℕ) (a : AtLine i k) → (a.line.instr.rd == 3) ≡ false → IsUnsaved r → live j r ≡ true → address j ≡ sum_of (address i) (imm_of (instruction_at words i)) → Goes Jumps (line_of a.line.instr) a.line.target (after (suc k)) → onward at Jumps a.line.instr.rd a.line.target (after (suc k)) r ≡ true
  flow_jumps i k j r a other u w e g =
      let l : ℕ = g.0 in
      let far = g.2.other (λ q. (let t = same_is a.line.instr.rd 3 q in cc)) in
      let lives : at l r ≡ true = at_label l j r far (lands i k j l a g.1 e) u w in
      ap (λ b. cond b ((after (suc k)).next r) (at_target at a.line.target (λ x. false) r)) other ∙ target_is a.line.target l (λ x. false) r g.1 lives

  flow_branches : (i k j r : ℕ) (a : AtLine i k) → i ≡ 237 + k → IsUnsaved r → live j r ≡ true → (j ≡ suc i) ⊎ (address j ≡ sum_of (address i) (imm_of (instruction_at words i))) → Goes Branches (line_of a.line.instr) a.line.target (after (suc k)) → onward at Branches a.line.instr.rd a.line.target (after (suc k)) r ≡ true
  flow_branches i k j r a e u w (inl q) g = or_left ((after (suc k)).next r) (at_target at a.line.target (after (suc k)).over r) (flow_passes i k j r a e u w q)
  flow_branches i k j r a e u w (inr q) (inl g) =
      let two : j ≡ suc (suc i) = over_two i k j a g.0 g.1 q in
      let p : suc (suc i) ≡ 237 + suc (suc k) = omega arith in
      let lives : (after (suc (suc k))).next r ≡ true = live_past (suc (suc i)) (suc (suc k)) r p u (subst (λ z. live z r ≡ true) two w) in
      or_right ((after (suc k)).next r) (at_target at a.line.target (after (suc k)).over r)
      (ap (λ z. at_target at z (after (suc k)).over r) g.0 ∙ over_is at (code_lines outside) (suc k) r ∙ lives)
  flow_branches i k j r a e u w (inr q) (inr g) =
      or_right ((after (suc k)).next r) (at_target at a.line.target (after (suc k)).over r)
      (target_is a.line.target g.0 (after (suc k)).over r g.1 (at_label g.0 j r g.2 (lands i k j g.0 a g.1 q) u w))

  -- behind a call the result lives, and what may live anywhere
  behind_call : (j r : ℕ) → IsBehind words 1 j → live j r ≡ true → is_returned r ≡ true
  behind_call j r b w =
      let c : ℕ = b.0 in
      let le : 237 ≤ c = h.calls c b.1 in
      let k : ℕ = c - 237 in
      elim (or_unsaved (is_returned r ≡ true) r (λ u.
      some_line c k (is_returned r ≡ true) (split c le)
      (λ n. (let t : links 1 None ≡ true = ap (links 1) (sym n) ∙ b.1 in absurd cc))
      (λ a.
      let is = links_is 1 a.word.to (ap (links 1) (sym a.word.here) ∙ b.1) in
      let jal : way (line_of a.line.instr).op ≡ Jumps = ap way (sym a.word.op ∙ is.0) in
      let g = subst (λ z. Goes z (line_of a.line.instr) a.line.target (after (suc k))) jal a.sound.goes in
      g.2.call (sym a.word.rd ∙ is.1) r (next_live c k r (split c le) u (subst (λ z. live z r ≡ true) b.2 w))))) [
        | inl s ↦ or_left (is_base r) (r == 10) s
        | inr s ↦ s
      ]

  no_cut : (i k : ℕ) (a : AtLine i k) → way a.line.instr.op ≡ Jumps → links 3 (instruction_at words i) ≡ false → (a.line.instr.rd == 3) ≡ false
  no_cut i k a jumps n =
      let jal : a.word.to.op ≡ Jal = a.word.op ∙ jumps_is a.line.instr.op jumps in
      let e : links_by a.word.to.op 3 a.word.to.rd ≡ false = ap (links 3) (sym a.word.here) ∙ n in
      let f : (a.word.to.rd == 3) ≡ false = sym (ap (λ z. links_by z 3 a.word.to.rd) jal) ∙ e in
      ap (λ z. z == 3) (sym a.word.rd) ∙ f

  leads_by : (i k j r : ℕ) (a : AtLine i k) (turn : Turn) → way a.line.instr.op ≡ turn → i ≡ 237 + k → IsUnsaved r → links 3 (instruction_at words i) ≡ false → live j r ≡ true → Leads words i j (imm_of (instruction_at words i)) turn → Goes turn (line_of a.line.instr) a.line.target (after (suc k)) → onward at turn a.line.instr.rd a.line.target (after (suc k)) r ≡ true
  leads_by i k j r a Passes is e u n w leads g = flow_passes i k j r a e u w leads
  leads_by i k j r a Jumps is e u n w leads g = flow_jumps i k j r a (no_cut i k a is n) u w leads g
  leads_by i k j r a Branches is e u n w leads g = flow_branches i k j r a e u w leads g
  leads_by i k j r a Returns is e u n w leads g = behind_call j r leads w
  leads_by i k j r a Stops is e u n w leads g = absurd leads

  turn_is : (i k : ℕ) (a : AtLine i k) → (turn_of (instruction_at words i) ≡ way a.line.instr.op) ⊎ (turn_of (instruction_at words i) ≡ Stops)
  turn_is i k a = elim (turn_way a.word.to.op a.word.to) [
    | inl e ↦ inl (ap turn_of a.word.here ∙ e ∙ ap way a.word.op)
    | inr o ↦ elim o [
      | inl e ↦ inr (ap turn_of a.word.here ∙ e)
      | inr f ↦
          (let op : a.line.instr.op ≡ Fence = sym a.word.op ∙ f in
          let g : a.line.instr.op ≡ Ebreak = subst (λ z. Goes z (line_of a.line.instr) a.line.target (after (suc k))) (ap way op) a.sound.goes in
          let bad : Fence ≡ Ebreak = sym op ∙ g in
          absurd cc)
    ]
  ]

  flows_live : (i j r : ℕ) → 237 ≤ i → links 3 (instruction_at words i) ≡ false → Flow words i j → live j r ≡ true → sets_register (instruction_at words i) r ≡ false → live i r ≡ true
  flows_live i j r le n flow w s =
      let k : ℕ = i - 237 in
      live_is i k r (split i le) (λ u.
      some_line i k ((after k).next r ≡ true) (split i le)
      (λ none. absurd (subst (λ z. Leads words i j (imm_of z) (turn_of z)) none flow.leads))
      (λ a.
      elim (turn_is i k a) [
        | inl t ↦
            (let leads : Leads words i j (imm_of (instruction_at words i)) (way a.line.instr.op) = subst (λ z. Leads words i j (imm_of (instruction_at words i)) z) t flow.leads in
            let ongoing : way a.line.instr.op ≡ Stops → ⊥ = (λ q. subst (λ z. Leads words i j (imm_of (instruction_at words i)) z) q leads) in
            later i k r a (not_set i k r a u ongoing s) (leads_by i k j r a (way a.line.instr.op) refl (split i le) u n w leads a.sound.goes))
        | inr t ↦ absurd (subst (λ z. Leads words i j (imm_of (instruction_at words i)) z) t flow.leads)
      ]))

  -- ---- cuts

  record CutAt (i k : ℕ) : Type 0 where
    a : AtLine i k
    rd : a.line.instr.rd ≡ 3
    way_is : way a.line.instr.op ≡ Jumps
    goes : (l : ℕ) × (a.line.target ≡ Some l) × GoesTo a.line.instr.rd l (after (suc k))

  cut_at : (i k : ℕ) → i ≡ 237 + k → links 3 (instruction_at words i) ≡ true → CutAt i k
  cut_at i k e c =
      some_line i k (CutAt i k) e
      (λ n. (let t : links 3 None ≡ true = ap (links 3) (sym n) ∙ c in absurd cc))
      (λ a.
      let is = links_is 3 a.word.to (ap (links 3) (sym a.word.here) ∙ c) in
      let jal : way (line_of a.line.instr).op ≡ Jumps = ap way (sym a.word.op ∙ is.0) in
      record { a = a; rd = sym a.word.rd ∙ is.1; way_is = jal; goes = subst (λ z. Goes z (line_of a.line.instr) a.line.target (after (suc k))) jal a.sound.goes })

  cuts_live : (i r : ℕ) → 237 ≤ i → links 3 (instruction_at words i) ≡ true → live (suc i) r ≡ true → live i r ≡ true
  cuts_live i r le c w =
      let k : ℕ = i - 237 in
      let d = cut_at i k (split i le) c in
      live_is i k r (split i le) (λ u.
      let next = next_live i k r (split i le) u w in
      let saved = d.goes.2.saved d.rd r next in
      let is : (d.a.line.instr.rd == 3) ≡ true = same_is d.a.line.instr.rd 3 d.rd in
      let jumps : onward at Jumps d.a.line.instr.rd d.a.line.target (after (suc k)) r ≡ true = ap (λ b. cond b ((after (suc k)).next r) (at_target at d.a.line.target (λ x. false) r)) is ∙ next in
      later i k r d.a (λ q. saved.1 (q ∙ d.rd)) (subst (λ z. onward at z d.a.line.instr.rd d.a.line.target (after (suc k)) r ≡ true) (sym d.way_is) jumps))

  -- where a cut leads
  entry_of : (i k l : ℕ) (a : AtLine i k) → a.line.target ≡ Some l → 4 ≤ l → l ≤ 31 → sum_of (address i) (imm_of (instruction_at words i)) ≡ entry_at l
  entry_of i k l a t low high = by a.line.target t a.word.does
    where
      by : (o : Option ℕ) → o ≡ Some l → Does lines i a.line o a.word.to → sum_of (address i) (imm_of (instruction_at words i)) ≡ entry_at l
      by None q d = absurd cc
      by (Some m) q d =
          let same : m ≡ l = cc in
          ap (λ z. sum_of (address i) z) (ap imm_of a.word.here) ∙ d.2.leads ∙ h.entries l d.0 low high (subst (λ z. StandsAt lines z d.0) same d.1)

  saved_live : (i m r : ℕ) → 237 ≤ i → IsCutTo words i m → live (suc i) r ≡ true → (r ≤ m) × (r ≢ 3) × (r ≢ 4)
  saved_live i m r le c w =
      let k : ℕ = i - 237 in
      let d = cut_at i k (split i le) c.linked in
      let l : ℕ = d.goes.0 in
      let bounds = d.goes.2.cut d.rd in
      let low = bounds.0 in
      let high = bounds.1 in
      let there : entry_at m ≡ entry_at l = sym c.target ∙ entry_of i k l d.a d.goes.1 low high in
      let above = c.above in
      let below = c.below in
      let same : m ≡ l = omega arith in
      elim (or_unsaved ((r ≤ l) × (r ≢ 3) × (r ≢ 4)) r (λ u. d.goes.2.saved d.rd r (next_live i k r (split i le) u w))) [
        | inl s ↦ (let t = base_low r s in (omega arith, (λ q. omega arith), (λ q. omega arith)))
        | inr t ↦ (let t0 = t.0 in (omega arith, t.1, t.2))
      ]

  cut_leads : (i : ℕ) → 237 ≤ i → links 3 (instruction_at words i) ≡ true → (m : ℕ) × IsCutTo words i m
  cut_leads i le c =
      let k : ℕ = i - 237 in
      let d = cut_at i k (split i le) c in
      let bounds = d.goes.2.cut d.rd in
      let low = bounds.0 in
      let high = bounds.1 in
      (d.goes.0, record { linked = c; above = low; below = high; target = entry_of i k d.goes.0 d.a d.goes.1 low high })

  -- ---- entries into the runtime

  not_runtime : (pc j : ℕ) → pc ≡ address j → 237 ≤ j → is_runtime pc ≡ false
  not_runtime pc j e le =
      let far : nat_lt pc checkpoint_end ≡ false = grind (arith, nat_tests) in
      by (nat_le 4096 pc) far
    where
      by : (b : Bool) → nat_lt pc checkpoint_end ≡ false → (b && nat_lt pc checkpoint_end) ≡ false
      by true f = f
      by false f = refl

  leads_out : (i k l : ℕ) (a : AtLine i k) → a.line.target ≡ Some l → 32 ≤ l → is_runtime (sum_of (address i) (imm_of (instruction_at words i))) ≡ false
  leads_out i k l a t far = by a.line.target t a.word.does
    where
      by : (o : Option ℕ) → o ≡ Some l → Does lines i a.line o a.word.to → is_runtime (sum_of (address i) (imm_of (instruction_at words i))) ≡ false
      by None q d = absurd cc
      by (Some m) q d =
          let same : m ≡ l = cc in
          let goes : sum_of (address i) (imm_of (instruction_at words i)) ≡ address d.0 = ap (λ z. sum_of (address i) z) (ap imm_of a.word.here) ∙ d.2.leads in
          not_runtime (sum_of (address i) (imm_of (instruction_at words i))) d.0 goes (h.labels l d.0 far (subst (λ z. StandsAt lines z d.0) same d.1))

  hops_out : (i k : ℕ) (a : AtLine i k) → 237 ≤ i → a.line.target ≡ None → (line_of a.line.instr).imm ≡ 8 → is_runtime (sum_of (address i) (imm_of (instruction_at words i))) ≡ false
  hops_out i k a le t eight = by a.line.target t a.word.does
    where
      by : (o : Option ℕ) → o ≡ None → Does lines i a.line o a.word.to → is_runtime (sum_of (address i) (imm_of (instruction_at words i))) ≡ false
      by (Some m) q d = absurd cc
      by None q d =
          let imm : imm_of (instruction_at words i) ≡ 8 = ap imm_of a.word.here ∙ ap (λ (z : Instruction). z.imm) d ∙ eight in
          let few = h.few in
          let within = slice_get_within lines i a.line a.is_line in
          let sum : sum_of (address i) 8 ≡ address (suc (suc i)) = omega arith in
          not_runtime (sum_of (address i) (imm_of (instruction_at words i))) (suc (suc i)) (ap (sum_of (address i)) imm ∙ sum) (omega arith)

  others_by : (i k : ℕ) (a : AtLine i k) (turn : Turn) → way a.line.instr.op ≡ turn → 237 ≤ i → links 3 (instruction_at words i) ≡ false → names_target turn ≡ true → Goes turn (line_of a.line.instr) a.line.target (after (suc k)) → is_runtime (sum_of (address i) (imm_of (instruction_at words i))) ≡ false
  others_by i k a Passes is le n t g = absurd cc
  others_by i k a Jumps is le n t g = leads_out i k g.0 a g.1 (g.2.other (λ q. (let s = same_is a.line.instr.rd 3 q in let f = no_cut i k a is n in cc)))
  others_by i k a Branches is le n t (inl g) = hops_out i k a le g.0 g.1
  others_by i k a Branches is le n t (inr g) = leads_out i k g.0 a g.1 g.2
  others_by i k a Returns is le n t g = absurd cc
  others_by i k a Stops is le n t g = absurd cc

  others_out : (i : ℕ) → 237 ≤ i → links 3 (instruction_at words i) ≡ false → names_target (turn_of (instruction_at words i)) ≡ true → is_runtime (sum_of (address i) (imm_of (instruction_at words i))) ≡ false
  others_out i le n t =
      let k : ℕ = i - 237 in
      some_line i k (is_runtime (sum_of (address i) (imm_of (instruction_at words i))) ≡ false) (split i le)
      (λ none. (let bad : names_target (turn_of None) ≡ true = ap (λ z. names_target (turn_of z)) (sym none) ∙ t in absurd cc))
      (λ a.
      elim (turn_is i k a) [
        | inl q ↦ others_by i k a (way a.line.instr.op) refl le n (ap names_target (sym q) ∙ t) a.sound.goes
        | inr q ↦ (let bad : names_target Stops ≡ true = ap names_target (sym q) ∙ t in absurd cc)
      ])

  -- at the entry lives only what may live anywhere
  pub liveness : (entry : ℕ) → ((i r : ℕ) → address i ≡ entry → live i r ≡ true → is_base r ≡ true) → IsLiveness words entry live
  liveness entry first = record {
    uses = uses_live;
    flows = flows_live;
    cuts = cuts_live;
    saved = saved_live;
    first = λ i r e w. (let s = base_low r (first i r e w) in ((λ q. omega arith), (λ q. omega arith), omega arith));
  }

  pub enters : (entry : ℕ) → checkpoint_end ≤ entry → EntersByCuts words entry
  enters entry begins = record { begins = begins; cuts = cut_leads; others = others_out; calls = h.calls }

  -- what lives at a line that is known
  pub lives_here : (i r : ℕ) (line : Line) → 237 ≤ i → slice_get lines i ≡ Some line → ((behind : After) → IsUnsaved r → lives_at at (code_line line) behind r ≡ true → ⊥) → live i r ≡ true → is_base r ≡ true
  lives_here i r line le g none w =
      let k : ℕ = i - 237 in
      let a = at_line i k line (split i le) g in
      elim (or_unsaved ⊥ r (λ u. none (after (suc k)) u (sym (ap (λ (z : After). z.next r) a.is) ∙ live_past i k r (split i le) u w))) [
        | inl s ↦ s
        | inr n ↦ absurd n
      ]
