-- From ranked lines to a number for each word that falls along the flow.
use Rattle.std.proofs.Common.{◌≡◌, ℕ, zero, suc, ◌+◌, ◌-◌, ◌%◌, ◌<◌, ◌≤◌, ◌⊎◌, inl, inr, true, false, Bool, cond, List, [], ◌∷◌, Option, Some, None, drop, length, refl, sym, ap, ◌∙◌, subst, arith}
use Rattle.std.specs.Prelude.{◌==◌, nat_lt, slice_get}
use Rattle.std.proofs.lemmas.Bool.{cases_lt}
use Rattle.std.proofs.lemmas.Bool.Decides.{nat_tests}
use Rattle.std.proofs.lemmas.Option.{slice_get_within, slice_get_cases}
use Rattle.im_rv.specs.declared.code.Line.{Line}
use Rattle.im_rv.specs.declared.code.Part.{Part}
use Rattle.im_rv.specs.declared.instr.Op.TheVariants.{Fence, Ebreak}
use Rattle.im_rv.specs.Steps.{sum_of}
use Rattle.im_rv.specs.Decode.{Line as Instruction}
use Rattle.im_rv.specs.Lines.{CodeLine, line_of, code_line, code_lines}
use Rattle.im_rv.specs.Code.{address, instruction_at}
use Rattle.im_ckpt.specs.Checkpoint.{entry_at}
use Rattle.im_gap.specs.declared.flow.Turn.{Turn}
use Rattle.im_gap.specs.declared.flow.Turn.TheVariants.{Passes, Jumps, Branches, Returns, Stops}
use Rattle.im_gap.specs.Flow.{turn_by, turn_of, imm_of, links_by, links, IsBehind, Leads, Flow}
use Rattle.im_link.specs.Links.{StandsAt, Does, AreWordsOf}
use Rattle.im_link.specs.Parts.{lines_of}
use Rattle.im_saved_code.specs.Scan.{way}
use Rattle.im_saved_code.proofs.Lists.{code_append, code_at}
use Rattle.im_saved_code.proofs.Words.{Word, word_of, no_word, turn_way, links_is}
use Rattle.im_saved_code.proofs.Scanning.{same_of}
use Rattle.im_gap_ranked.proofs.Ranks.{greater, greater_left, greater_right, After, nothing, cut_rank, at_target, rank_by, rank_of, before, scan, Goes, IsRankedLine, AreRanked, IsWithin, AreWithin, ranked_append, within_append}
use Rattle.im_gap_ranked.proofs.Runtime.{runtime_rank, Falls, TurnFalls, IsRuntimeLine}

-- ---- lines by their numbers

-- the numbers of line k of these, and of the next
abbrev after_of : (ℕ → ℕ) → List CodeLine → ℕ → After
after_of at xs k = scan at (drop k xs) nothing

after_at : (at : ℕ → ℕ) (xs : List CodeLine) (k : ℕ) (x : CodeLine) → slice_get xs k ≡ Some x → after_of at xs k ≡ before at x (after_of at xs (suc k))
after_at at [] k x e = absurd cc
after_at at (y ∷ xs) zero x e = let same : y ≡ x = cc in ap (λ (z : CodeLine). before at z (scan at xs nothing)) same
after_at at (y ∷ xs) (suc k) x e = after_at at xs k x e

ranked_at : (at : ℕ → ℕ) (xs : List CodeLine) (k : ℕ) (x : CodeLine) → AreRanked at xs nothing → slice_get xs k ≡ Some x → IsRankedLine at x (after_of at xs (suc k))
ranked_at at [] k x s e = absurd cc
ranked_at at (y ∷ xs) zero x s e = let same : y ≡ x = cc in subst (λ (z : CodeLine). IsRankedLine at z (scan at xs nothing)) same s.0
ranked_at at (y ∷ xs) (suc k) x s e = ranked_at at xs k x s.1 e

within_at : (at : ℕ → ℕ) (top : ℕ) (xs : List CodeLine) (k : ℕ) (x : CodeLine) → AreWithin at top xs nothing → slice_get xs k ≡ Some x → IsWithin top x (after_of at xs (suc k))
within_at at top [] k x s e = absurd cc
within_at at top (y ∷ xs) zero x s e = let same : y ≡ x = cc in subst (λ (z : CodeLine). IsWithin top z (scan at xs nothing)) same s.0
within_at at top (y ∷ xs) (suc k) x s e = within_at at top xs k x s.1 e

none_over : (at : ℕ → ℕ) (k : ℕ) → (after_of at [] k).over ≡ (after_of at [] (suc k)).next
none_over at zero = refl
none_over at (suc k) = refl

over_is : (at : ℕ → ℕ) (xs : List CodeLine) (k : ℕ) → (after_of at xs k).over ≡ (after_of at xs (suc k)).next
over_is at [] k = none_over at k
over_is at (x ∷ xs) zero = refl
over_is at (x ∷ xs) (suc k) = over_is at xs k

pub parts_ranked : (at : ℕ → ℕ) (parts : List Part) (behind : After) → ((p : ℕ) (part : Part) (after : After) → slice_get parts p ≡ Some part → AreRanked at (code_lines part.lines.items) after) → AreRanked at (code_lines (lines_of parts)) behind
parts_ranked at [] behind k = tt
parts_ranked at (x ∷ xs) behind k =
    subst (λ z. AreRanked at z behind) (sym (code_append x.lines.items (lines_of xs)))
    (ranked_append at (code_lines x.lines.items) (code_lines (lines_of xs)) behind (k 0 x (scan at (code_lines (lines_of xs)) behind) refl) (parts_ranked at xs behind (λ p part after e. k (suc p) part after e)))

pub parts_within : (at : ℕ → ℕ) (top : ℕ) (parts : List Part) (behind : After) → ((p : ℕ) (part : Part) (after : After) → slice_get parts p ≡ Some part → AreWithin at top (code_lines part.lines.items) after) → AreWithin at top (code_lines (lines_of parts)) behind
parts_within at top [] behind k = tt
parts_within at top (x ∷ xs) behind k =
    subst (λ z. AreWithin at top z behind) (sym (code_append x.lines.items (lines_of xs)))
    (within_append at top (code_lines x.lines.items) (code_lines (lines_of xs)) behind (k 0 x (scan at (code_lines (lines_of xs)) behind) refl) (parts_within at top xs behind (λ p part after e. k (suc p) part after e)))

checkpoint_low : (j : ℕ) → 64 ≤ j → j < 236 → runtime_rank j < cut_rank
checkpoint_low j low high =
    let a : nat_lt j 64 ≡ false = grind (arith, nat_tests) in
    let first = ap (λ t. cond t (cut_rank + 65 - j) (cond (nat_lt j 204) (36 - (j - 64) % 5) (cond (nat_lt j 236) (235 - j) (cut_rank + 1)))) a in
    elim (cases_lt j 204) [
      | inl c ↦
          (let b : nat_lt j 204 ≡ true = grind (arith, nat_tests) in
          let is : runtime_rank j ≡ 36 - (j - 64) % 5 = first ∙ ap (λ t. cond t (36 - (j - 64) % 5) (cond (nat_lt j 236) (235 - j) (cut_rank + 1))) b in
          subst (λ z. z < cut_rank) (sym is) (entry ((j - 64) % 5)))
      | inr c ↦
          (let b : nat_lt j 204 ≡ false = grind (arith, nat_tests) in
          let d : nat_lt j 236 ≡ true = grind (arith, nat_tests) in
          let is : runtime_rank j ≡ 235 - j = first ∙ ap (λ t. cond t (36 - (j - 64) % 5) (cond (nat_lt j 236) (235 - j) (cut_rank + 1))) b ∙ ap (λ t. cond t (235 - j) (cut_rank + 1)) d in
          subst (λ z. z < cut_rank) (sym is) (let less : 235 - j < 37 = omega arith in less))
    ]
  where
    entry : (r : ℕ) → 36 - r < 37
    entry r = omega arith

-- ---- a code

pub record IsLaidOut (lines outside : List Line) (words : List ℕ) (at : ℕ → ℕ) : Type 0 where
  pub are : AreWordsOf lines words
  pub few : length lines ≤ 261120
  pub runtime : (i : ℕ) (line : Line) → i < 237 → slice_get lines i ≡ Some line → IsRuntimeLine i (code_line line)
  pub past : (k : ℕ) → slice_get lines (237 + k) ≡ slice_get outside k
  pub ranked : AreRanked at (code_lines outside) nothing
  pub entries : (l j : ℕ) → 4 ≤ l → l ≤ 31 → StandsAt lines l j → address j ≡ entry_at l

module _ (lines outside : List Line) (words : List ℕ) (at : ℕ → ℕ) (h : IsLaidOut lines outside words at) where
  abbrev after : ℕ → After
  after k = after_of at (code_lines outside) k

  abbrev pub rank : ℕ → ℕ
  rank i = cond (nat_lt i 237) (runtime_rank i) (after (i - 237)).next

  rank_low : (i : ℕ) → i < 237 → rank i ≡ runtime_rank i
  rank_low i c = let t : nat_lt i 237 ≡ true = grind (arith, nat_tests) in ap (λ b. cond b (runtime_rank i) (after (i - 237)).next) t

  rank_past : (i k : ℕ) → i ≡ 237 + k → rank i ≡ (after k).next
  rank_past i k e =
      let t : nat_lt i 237 ≡ false = grind (arith, nat_tests) in
      let q : i - 237 ≡ k = omega arith in
      ap (λ b. cond b (runtime_rank i) (after (i - 237)).next) t ∙ ap (λ z. (after z).next) q

  record AtLine (i k : ℕ) : Type 0 where
    line : Line
    is_line : slice_get lines i ≡ Some line
    word : Word lines words i line
    is : after k ≡ before at (code_line line) (after (suc k))
    ranked : IsRankedLine at (code_line line) (after (suc k))

  abbrev at_line : (i k : ℕ) (line : Line) → i ≡ 237 + k → slice_get lines i ≡ Some line → AtLine i k
  at_line i k line e g =
      let there : slice_get outside k ≡ Some line = sym (h.past k) ∙ ap (slice_get lines) (sym e) ∙ g in
      let here : slice_get (code_lines outside) k ≡ Some (code_line line) = code_at outside k line there in
      record {
        line = line;
        is_line = g;
        word = word_of lines words i line h.are g;
        is = after_at at (code_lines outside) k (code_line line) here;
        ranked = ranked_at at (code_lines outside) k (code_line line) h.ranked here;
      }

  -- a word that is an instruction has a line
  some_line : (i k : ℕ) (X : Type 0) → i ≡ 237 + k → ((instruction_at words i ≡ None) → X) → (AtLine i k → X) → X
  some_line i k X e none some = elim (slice_get_cases lines i).1 [
    | inl c ↦ some (at_line i k c.0 e c.2)
    | inr c ↦ none (no_word lines words i h.are c.1)
  ]

  split : (i : ℕ) → 237 ≤ i → i ≡ 237 + (i - 237)
  split i le = omega arith

  -- a label from 32 on is none of the runtime's, and no line of it is a call or a cut
  labels : (l j : ℕ) → 32 ≤ l → StandsAt lines l j → 237 ≤ j
  labels l j far s = elim (cases_lt j 237) [
    | inl c ↦ (let r = (h.runtime j s.line c s.is_line).label l s.label in absurd (omega arith))
    | inr c ↦ c
  ]

  linking : (r i : ℕ) → ((line : Line) → IsRuntimeLine i (code_line line) → links_by line.instr.op r line.instr.rd ≡ true → ⊥) → links r (instruction_at words i) ≡ true → 237 ≤ i
  linking r i none e = elim (cases_lt i 237) [
    | inr c ↦ c
    | inl c ↦ absurd (elim (slice_get_cases lines i).1 [
      | inl g ↦
          (let w : Word lines words i g.0 = word_of lines words i g.0 h.are g.2 in
          let t : links_by w.to.op r w.to.rd ≡ true = ap (links r) (sym w.here) ∙ e in
          none g.0 (h.runtime i g.0 c g.2) (ap (λ z. links_by z r g.0.instr.rd) (sym w.op) ∙ ap (links_by w.to.op r) (sym w.rd) ∙ t))
      | inr g ↦ (let n = no_word lines words i h.are g.1 in let t : links r None ≡ true = ap (links r) (sym n) ∙ e in absurd cc)
    ])
  ]

  calls : (i : ℕ) → links 1 (instruction_at words i) ≡ true → 237 ≤ i
  calls i e = linking 1 i (λ line is. is.call) e

  -- where a word leads that goes to a target
  lands : (i k j l : ℕ) (a : AtLine i k) → a.line.target ≡ Some l → address j ≡ sum_of (address i) (imm_of (instruction_at words i)) → StandsAt lines l j
  lands i k j l a t e = by a.line.target t a.word.does
    where
      by : (o : Option ℕ) → o ≡ Some l → Does lines i a.line o a.word.to → StandsAt lines l j
      by None q d = absurd cc
      by (Some m) q d =
          let same : m ≡ l = cc in
          let to : imm_of (instruction_at words i) ≡ a.word.to.imm = ap imm_of a.word.here in
          let goes : address j ≡ address d.0 = e ∙ ap (sum_of (address i)) to ∙ d.2.leads in
          let is : d.0 ≡ j = omega arith in
          subst (λ z. StandsAt lines l z) is (subst (λ z. StandsAt lines z d.0) same d.1)

  over_two : (i k j : ℕ) (a : AtLine i k) → a.line.target ≡ None → (line_of a.line.instr).imm ≡ 8 → address j ≡ sum_of (address i) (imm_of (instruction_at words i)) → j ≡ suc (suc i)
  over_two i k j a t eight e = by a.line.target t a.word.does
    where
      by : (o : Option ℕ) → o ≡ None → Does lines i a.line o a.word.to → j ≡ suc (suc i)
      by (Some m) q d = absurd cc
      by None q d =
          let imm : imm_of (instruction_at words i) ≡ 8 = ap imm_of a.word.here ∙ ap (λ (z : Instruction). z.imm) d ∙ eight in
          let goes : address j ≡ sum_of (address i) 8 = e ∙ ap (sum_of (address i)) imm in
          let few = h.few in
          let within = slice_get_within lines i a.line a.is_line in
          omega arith

  -- the number of a label is no less than where it stands
  at_label : (l j : ℕ) → 32 ≤ l → StandsAt lines l j → rank j ≤ at l
  at_label l j far s =
      let le = labels l j far s in
      let k : ℕ = j - 237 in
      let b = at_line j k s.line (split j le) s.is_line in
      let most = b.ranked.label l s.label in
      let here : rank j ≡ rank_of at (code_line s.line) (after (suc k)) = rank_past j k (split j le) ∙ ap (λ (z : After). z.next) b.is in
      subst (λ z. z ≤ at l) (sym here) most

  behind_call : (j : ℕ) → IsBehind words 1 j → rank j ≤ cut_rank
  behind_call j b =
      let c : ℕ = b.0 in
      let le : 237 ≤ c = calls c b.1 in
      let k : ℕ = c - 237 in
      some_line c k (rank j ≤ cut_rank) (split c le)
      (λ n. (let t : links 1 None ≡ true = ap (links 1) (sym n) ∙ b.1 in absurd cc))
      (λ a.
      let is = links_is 1 a.word.to (ap (links 1) (sym a.word.here) ∙ b.1) in
      let jal : way (line_of a.line.instr).op ≡ Jumps = ap way (sym a.word.op ∙ is.0) in
      let g = subst (λ z. Goes z (line_of a.line.instr) a.line.target (after (suc k))) jal a.ranked.goes in
      let most : (after (suc k)).next ≤ cut_rank = g.2.call (sym a.word.rd ∙ is.1) in
      let b2 = b.2 in
      let q : j ≡ 237 + suc k = omega arith in
      subst (λ z. z ≤ cut_rank) (sym (rank_past j (suc k) q)) most)

  -- ---- the ways on

  next_rank : (i k j : ℕ) → i ≡ 237 + k → j ≡ suc i → rank j ≡ (after (suc k)).next
  next_rank i k j e q = let p : j ≡ 237 + suc k = omega arith in rank_past j (suc k) p

  jumps_fall : (i k j : ℕ) (a : AtLine i k) → address j ≡ sum_of (address i) (imm_of (instruction_at words i)) → Goes Jumps (line_of a.line.instr) a.line.target (after (suc k)) → rank j < rank_by at Jumps a.line.instr.rd a.line.target (after (suc k))
  jumps_fall i k j a e g = by (a.line.instr.rd == 3) refl
    where
      l : ℕ
      l = g.0

      stands : StandsAt lines l j
      stands = lands i k j l a g.1 e

      by : (b : Bool) → (a.line.instr.rd == 3) ≡ b → rank j < cond b cut_rank (suc (at_target at a.line.target 0))
      by true t =
          let bounds = g.2.cut (same_of a.line.instr.rd 3 t) in
          let low = bounds.0 in
          let high = bounds.1 in
          let there : address j ≡ entry_at g.0 = h.entries g.0 j low high stands in
          let from : 64 ≤ j = omega arith in
          let to : j < 236 = omega arith in
          let inside : j < 237 = omega arith in
          subst (λ z. z < cut_rank) (sym (rank_low j inside)) (checkpoint_low j from to)
      by false t =
          let far : 32 ≤ l = g.2.other (λ q. (let s = ap (λ z. z == 3) q in let y : (a.line.instr.rd == 3) ≡ true = s in cc)) in
          let most : rank j ≤ at l = at_label l j far stands in
          let less : rank j < suc (at l) = omega arith in
          subst (λ o. rank j < suc (at_target at o 0)) (sym g.1) less

  branches_fall : (i k j : ℕ) (a : AtLine i k) → i ≡ 237 + k → (j ≡ suc i) ⊎ (address j ≡ sum_of (address i) (imm_of (instruction_at words i))) → Goes Branches (line_of a.line.instr) a.line.target (after (suc k)) → rank j < suc (greater (after (suc k)).next (at_target at a.line.target (after (suc k)).over))
  branches_fall i k j a e (inl q) g =
      let is = next_rank i k j e q in
      let most = greater_left (after (suc k)).next (at_target at a.line.target (after (suc k)).over) in
      by (rank j) (after (suc k)).next (greater (after (suc k)).next (at_target at a.line.target (after (suc k)).over)) is most
    where
      by : (x y z : ℕ) → x ≡ y → y ≤ z → x < suc z
      by x y z p q = omega arith
  branches_fall i k j a e (inr q) (inl g) =
      let two : j ≡ suc (suc i) = over_two i k j a g.0 g.1 q in
      let p : j ≡ 237 + suc (suc k) = omega arith in
      let is : rank j ≡ at_target at a.line.target (after (suc k)).over = rank_past j (suc (suc k)) p ∙ sym (over_is at (code_lines outside) (suc k)) ∙ sym (ap (λ o. at_target at o (after (suc k)).over) g.0) in
      by (rank j) (at_target at a.line.target (after (suc k)).over) (greater (after (suc k)).next (at_target at a.line.target (after (suc k)).over)) is (greater_right (after (suc k)).next (at_target at a.line.target (after (suc k)).over))
    where
      by : (x y z : ℕ) → x ≡ y → y ≤ z → x < suc z
      by x y z p q = omega arith
  branches_fall i k j a e (inr q) (inr g) =
      let most : rank j ≤ at g.0 = at_label g.0 j g.2 (lands i k j g.0 a g.1 q) in
      let is : at g.0 ≡ at_target at a.line.target (after (suc k)).over = sym (ap (λ o. at_target at o (after (suc k)).over) g.1) in
      by (rank j) (at g.0) (at_target at a.line.target (after (suc k)).over) (greater (after (suc k)).next (at_target at a.line.target (after (suc k)).over)) most is (greater_right (after (suc k)).next (at_target at a.line.target (after (suc k)).over))
    where
      by : (w x y z : ℕ) → w ≤ x → x ≡ y → y ≤ z → w < suc z
      by w x y z o p q = omega arith

  leads_by : (i k j : ℕ) (a : AtLine i k) (turn : Turn) → i ≡ 237 + k → Leads words i j (imm_of (instruction_at words i)) turn → Goes turn (line_of a.line.instr) a.line.target (after (suc k)) → rank j < rank_by at turn a.line.instr.rd a.line.target (after (suc k))
  leads_by i k j a Passes e leads g = by (rank j) (after (suc k)).next (next_rank i k j e leads)
    where
      by : (x y : ℕ) → x ≡ y → x < suc y
      by x y p = omega arith
  leads_by i k j a Jumps e leads g = jumps_fall i k j a leads g
  leads_by i k j a Branches e leads g = branches_fall i k j a e leads g
  leads_by i k j a Returns e leads g = by (rank j) (behind_call j leads)
    where
      by : (x : ℕ) → x ≤ cut_rank → x < suc cut_rank
      by x p = omega arith
  leads_by i k j a Stops e leads g = absurd leads

  turn_is : (i k : ℕ) (a : AtLine i k) → (turn_of (instruction_at words i) ≡ way a.line.instr.op) ⊎ (turn_of (instruction_at words i) ≡ Stops)
  turn_is i k a = elim (turn_way a.word.to.op a.word.to) [
    | inl e ↦ inl (ap turn_of a.word.here ∙ e ∙ ap way a.word.op)
    | inr o ↦ elim o [
      | inl e ↦ inr (ap turn_of a.word.here ∙ e)
      | inr f ↦
          (let op : a.line.instr.op ≡ Fence = sym a.word.op ∙ f in
          let g : a.line.instr.op ≡ Ebreak = subst (λ z. Goes z (line_of a.line.instr) a.line.target (after (suc k))) (ap way op) a.ranked.goes in
          let bad : Fence ≡ Ebreak = sym op ∙ g in
          absurd cc)
    ]
  ]

  past_falls : (i j : ℕ) → 237 ≤ i → Flow words i j → rank j < rank i
  past_falls i j le flow =
      let k : ℕ = i - 237 in
      some_line i k (rank j < rank i) (split i le)
      (λ none. absurd (subst (λ z. Leads words i j (imm_of z) (turn_of z)) none flow.leads))
      (λ a.
      elim (turn_is i k a) [
        | inl t ↦
            (let leads : Leads words i j (imm_of (instruction_at words i)) (way a.line.instr.op) = subst (λ z. Leads words i j (imm_of (instruction_at words i)) z) t flow.leads in
            let here : rank i ≡ rank_of at (code_line a.line) (after (suc k)) = rank_past i k (split i le) ∙ ap (λ (z : After). z.next) a.is in
            subst (λ z. rank j < z) (sym here) (leads_by i k j a (way a.line.instr.op) (split i le) leads a.ranked.goes))
        | inr t ↦ absurd (subst (λ z. Leads words i j (imm_of (instruction_at words i)) z) t flow.leads)
      ])

  -- ---- the runtime

  low_falls : (i j : ℕ) → i < 237 → Falls i j → rank j < rank i
  low_falls i j c f = by (rank j) (rank i) (runtime_rank j) (runtime_rank i) (rank_low j f.inside) (rank_low i c) f.less
    where
      by : (w x y z : ℕ) → w ≡ y → x ≡ z → y < z → w < x
      by w x y z p q l = omega arith

  turn_falls : (i j imm : ℕ) (turn : Turn) → i < 237 → Leads words i j imm turn → TurnFalls i imm turn → rank j < rank i
  turn_falls i j imm Passes c leads f = low_falls i j c (subst (Falls i) (sym leads) f)
  turn_falls i j imm Jumps c leads f = low_falls i j c (f j leads)
  turn_falls i j imm Branches c (inl q) f = low_falls i j c (subst (Falls i) (sym q) f.0)
  turn_falls i j imm Branches c (inr q) f = low_falls i j c (f.1 j q)
  turn_falls i j imm Returns c leads f = by (rank j) (rank i) (runtime_rank i) (behind_call j leads) (rank_low i c) f
    where
      by : (x y z : ℕ) → x ≤ cut_rank → y ≡ z → cut_rank < z → x < y
      by x y z p q l = omega arith
  turn_falls i j imm Stops c leads f = absurd leads

  runtime_falls : (i j : ℕ) → i < 237 → Flow words i j → rank j < rank i
  runtime_falls i j c flow = elim (slice_get_cases lines i).1 [
    | inl g ↦
        (let w : Word lines words i g.0 = word_of lines words i g.0 h.are g.2 in
        let r = h.runtime i g.0 c g.2 in
        let to : w.to ≡ line_of g.0.instr = subst (λ o. Does lines i g.0 o w.to) r.target w.does in
        let here : instruction_at words i ≡ Some (line_of g.0.instr) = w.here ∙ ap Some to in
        let leads : Leads words i j (line_of g.0.instr).imm (turn_by (line_of g.0.instr).op (line_of g.0.instr)) = subst (λ z. Leads words i j (imm_of z) (turn_of z)) here flow.leads in
        turn_falls i j (line_of g.0.instr).imm (turn_by (line_of g.0.instr).op (line_of g.0.instr)) c leads r.falls)
    | inr g ↦ absurd (subst (λ z. Leads words i j (imm_of z) (turn_of z)) (no_word lines words i h.are g.1) flow.leads)
  ]

  pub falls : (i j : ℕ) → Flow words i j → rank j < rank i
  falls i j flow = elim (cases_lt i 237) [ inl c ↦ runtime_falls i j c flow | inr c ↦ past_falls i j c flow ]

  -- ---- where sections begin

  pub behind_cut : (top j : ℕ) → AreWithin at top (code_lines outside) nothing → IsBehind words 3 j → rank j ≤ top
  behind_cut top j within b =
      let c : ℕ = b.0 in
      let le : 237 ≤ c = linking 3 c (λ line is. is.cut) b.1 in
      let k : ℕ = c - 237 in
      some_line c k (rank j ≤ top) (split c le)
      (λ n. (let t : links 3 None ≡ true = ap (links 3) (sym n) ∙ b.1 in absurd cc))
      (λ a.
      let is = links_is 3 a.word.to (ap (links 3) (sym a.word.here) ∙ b.1) in
      let jal : way a.line.instr.op ≡ Jumps = ap way (sym a.word.op ∙ is.0) in
      let there : slice_get outside k ≡ Some a.line = sym (h.past k) ∙ ap (slice_get lines) (sym (split c le)) ∙ a.is_line in
      let most : (after (suc k)).next ≤ top = within_at at top (code_lines outside) k (code_line a.line) within (code_at outside k a.line there) jal (sym a.word.rd ∙ is.1) in
      let b2 = b.2 in
      let q : j ≡ 237 + suc k = omega arith in
      subst (λ z. z ≤ top) (sym (rank_past j (suc k) q)) most)

  -- a call has one more than its label
  pub call_rank : (i l : ℕ) (line : Line) → slice_get lines i ≡ Some line → line.target ≡ Some l → way line.instr.op ≡ Jumps → line.instr.rd ≡ 1 → rank i ≡ suc (at l)
  call_rank i l line g target jumps call = elim (cases_lt i 237) [
    | inl c ↦ (let none = (h.runtime i line c g).target in let bad : None ≡ Some l = sym none ∙ target in absurd cc)
    | inr c ↦
        (let k : ℕ = i - 237 in
        let a = at_line i k line (split i c) g in
        rank_past i k (split i c) ∙ ap (λ (z : After). z.next) a.is
        ∙ ap (λ t. rank_by at t line.instr.rd line.target (after (suc k))) jumps
        ∙ ap (λ z. rank_by at Jumps z line.target (after (suc k))) call
        ∙ ap (λ o. suc (at_target at o 0)) target)
  ]
