-- The words of a program's linked code have a liveness, and enter the runtime by cuts alone.
use Rattle.std.proofs.Common.{◌≡◌, ℕ, suc, ◌+◌, ◌-◌, ◌*◌, ◌<◌, ◌≤◌, inl, inr, Bool, true, List, [], ◌∷◌, ◌++◌, Some, None, length, map, refl, sym, ap, ◌∙◌, subst, arith}
use Rattle.std.specs.Prelude.{slice_get}
use Rattle.std.proofs.lemmas.Bool.{cases_lt}
use Rattle.std.proofs.lemmas.Option.{slice_get_cases}
use Rattle.im_rv.specs.declared.code.Line.{Line}
use Rattle.im_rv.specs.declared.code.Part.{Part}
use Rattle.im_rv.specs.declared.code.Code.{Code as Linked}
use Rattle.im_rv.specs.Lines.{CodeLine, plain_line, code_line, code_lines}
use Rattle.im_rv.specs.Code.{address, instruction_at}
use Rattle.im_ckpt.specs.Recovery.{recovery}
use Rattle.im_ckpt.specs.Checkpoint.{checkpoint_code, entry_at}
use Rattle.im_gap.specs.Flow.{links_by, links}
use Rattle.im_link.specs.Parts.{lines_of, first_of, last_of}
use Rattle.im_link.specs.Links.{StandsAt}
use Rattle.im_link.specs.Code.{IsLinkable, IsLinked}
use Rattle.im_link.proofs.Joining.{get_kept, get_behind, line_in, lines_count}
use Rattle.im_rtlib.specs.Routines.{aimed}
use Rattle.im_rv_reach.specs.Instructions.{jumping}
use Rattle.im_block.specs.declared.unit.Unit.{Unit as Code}
use Rattle.im_block.specs.Wellformed.{IsWellFormed}
use Rattle.im_alloc_relation.specs.Settled.{IsSettled}
use Rattle.im_frame.specs.declared.layout.Layout.{Layout}
use Rattle.im_select.specs.Emitted.{entry_label}
use Rattle.im_select.specs.Selects.{HasLabel}
use Rattle.im_link_laws.specs.Program.{HasCode, part_of, IsProgram}
use Rattle.im_link_laws.proofs.Runtimes.{saved_there, size_of}
use Rattle.im_link_laws.proofs.Standing.{behind}
use Rattle.im_saved_code.specs.Scan.{is_base, nothing, lives_at}
use Rattle.im_saved_code.specs.Laws.{IsLiveCode, LiveCodeLaw}
use Rattle.im_saved_code.proofs.Lists.{parts_sound, code_at}
use Rattle.im_saved_code.proofs.Words.{Word, word_of, no_word}
use Rattle.im_saved_code.proofs.Living.{IsLaidOut, live, liveness, enters, lives_here}
use Rattle.im_saved_code.proofs.Parts.{code_is, at, low, begins_saved, part_sound, IsRuntimeLine, recovery_line, checkpoint_line}

-- ---- the first two parts are the runtime

counts : (xs : List Line) → length (code_lines xs) ≡ length xs
counts [] = refl
counts (x ∷ xs) = ap suc (counts xs)

-- the parts behind the first two
abbrev others : List Part → List Part
others [] = []
others (x ∷ []) = []
others (x ∷ y ∷ parts) = parts

other_part : (parts : List Part) (p : ℕ) (part : Part) → slice_get (others parts) p ≡ Some part → slice_get parts (suc (suc p)) ≡ Some part
other_part [] p part e = absurd cc
other_part (x ∷ []) p part e = absurd cc
other_part (x ∷ y ∷ parts) p part e = e

-- the runtime's lines, and those behind it
pub record Split (parts : List Part) : Type 0 where
  pub runtime : (i : ℕ) (line : Line) → i < 237 → slice_get (lines_of parts) i ≡ Some line → IsRuntimeLine (code_line line)
  pub past : (k : ℕ) → slice_get (lines_of parts) (237 + k) ≡ slice_get (lines_of (others parts)) k

split_by : (x y : List Line) (rest : List Line) → code_lines x ≡ map plain_line recovery → code_lines y ≡ checkpoint_code → (length x ≡ 64) × (length y ≡ 173) → ((i : ℕ) (line : Line) → i < 237 → slice_get (x ++ (y ++ rest)) i ≡ Some line → IsRuntimeLine (code_line line)) × ((k : ℕ) → slice_get (x ++ (y ++ rest)) (237 + k) ≡ slice_get rest k)
split_by x y rest a b n =
    let n0 = n.0 in
    let n1 = n.1 in (
      (λ i line lt e.
          elim (cases_lt i 64) [
            | inl c ↦ (let g : slice_get x i ≡ Some line = sym (get_kept x (y ++ rest) i (omega arith)) ∙ e in recovery_line i (code_line line) (ap (λ z. slice_get z i) (sym a) ∙ code_at x i line g))
            | inr c ↦
                (let q : i ≡ length x + (i - 64) = omega arith in
                let g : slice_get y (i - 64) ≡ Some line = sym (get_kept y rest (i - 64) (omega arith)) ∙ sym (get_behind x (y ++ rest) i (i - 64) q) ∙ e in
                checkpoint_line (i - 64) (code_line line) (ap (λ z. slice_get z (i - 64)) (sym b) ∙ code_at y (i - 64) line g))
          ]),
      (λ k. (let q : 237 + k ≡ length x + (173 + k) = omega arith in let r : 173 + k ≡ length y + k = omega arith in get_behind x (y ++ rest) (237 + k) (173 + k) q ∙ get_behind y rest (173 + k) k r)),
    )

split : (parts : List Part) → HasCode parts 0 (map plain_line recovery) → HasCode parts 1 checkpoint_code → Split parts
split [] a b = let e = a.is_part in absurd cc
split (x ∷ []) a b = let e = b.is_part in absurd cc
split (x ∷ y ∷ parts) a b =
    let c : code_lines x.lines.items ≡ map plain_line recovery = code_is (x ∷ y ∷ parts) 0 x (map plain_line recovery) refl a in
    let d : code_lines y.lines.items ≡ checkpoint_code = code_is (x ∷ y ∷ parts) 1 y checkpoint_code refl b in
    let n : length x.lines.items ≡ 64 = sym (counts x.lines.items) ∙ ap (length {A = CodeLine}) c in
    let m : length y.lines.items ≡ 173 = sym (counts y.lines.items) ∙ ap (length {A = CodeLine}) d in
    let k = split_by x.lines.items y.lines.items (lines_of parts) c d (n, m) in
    record { runtime = k.0; past = k.1 }

module _ (u : Code) (statics : List ℕ) (layouts : List Layout) (parts : List Part) (program : IsProgram u statics layouts parts) (well : IsWellFormed u) (settled : IsSettled u) (code : Linked) (linkable : IsLinkable parts) (linked : IsLinked parts code) where
  abbrev words : List ℕ
  words = code.words.items

  parted : Split parts
  parted = split parts program.recovers program.saves

  few : length (lines_of parts) ≤ 261120
  few = let fits = linked.fits in let count = lines_count parts in omega arith

  -- a label from 32 on is none of the runtime's
  labels : (l j : ℕ) → 32 ≤ l → StandsAt (lines_of parts) l j → 237 ≤ j
  labels l j far s = elim (cases_lt j 237) [
    | inl c ↦ (let r = (parted.runtime j s.line c s.is_line).label l s.label in absurd (omega arith))
    | inr c ↦ c
  ]

  calls : (i : ℕ) → links 1 (instruction_at words i) ≡ true → 237 ≤ i
  calls i e = elim (cases_lt i 237) [
    | inr c ↦ c
    | inl c ↦ absurd (elim (slice_get_cases (lines_of parts) i).1 [
      | inl g ↦
          (let w : Word (lines_of parts) words i g.0 = word_of (lines_of parts) words i g.0 linked.words g.2 in
          let t : links_by w.to.op 1 w.to.rd ≡ true = ap (links 1) (sym w.here) ∙ e in
          let s : links_by (code_line g.0).line.op 1 (code_line g.0).line.rd ≡ true = ap (λ z. links_by z 1 (code_line g.0).line.rd) (sym w.op) ∙ ap (links_by w.to.op 1) (sym w.rd) ∙ t in
          (parted.runtime i g.0 c g.2).call s)
      | inr g ↦ (let n = no_word (lines_of parts) words i linked.words g.1 in let t : links 1 None ≡ true = ap (links 1) (sym n) ∙ e in absurd cc)
    ])
  ]

  -- where the label of an entry stands
  entries : (l j : ℕ) → 4 ≤ l → l ≤ 31 → StandsAt (lines_of parts) l j → address j ≡ entry_at l
  entries l j low high s =
      let h : HasLabel checkpoint_code (5 * (l - 4)) l = saved_there l low high in
      let c = program.saves in
      let t : slice_get (code_lines c.part.lines.items) (5 * (l - 4)) ≡ Some h.line = ap (λ z. slice_get z (5 * (l - 4))) c.lines ∙ h.there in
      let b = behind c.part.lines.items (5 * (l - 4)) h.line t in
      let there : StandsAt (lines_of parts) l (first_of parts 1 + 5 * (l - 4)) =
      record { line = b.line; is_line = line_in parts 1 (5 * (l - 4)) c.part b.line c.is_part b.there; label = ap (λ (z : CodeLine). z.label) b.is ∙ h.is } in
      let same : j ≡ first_of parts 1 + 5 * (l - 4) = linkable.labels l j (first_of parts 1 + 5 * (l - 4)) s there in
      let first : first_of parts 1 ≡ 64 = (let a = size_of parts 0 (map plain_line recovery) program.recovers in let z : first_of parts 0 ≡ 0 = refl in let n : length (map plain_line recovery) ≡ 64 = refl in omega arith) in
      omega arith

  abbrev labelled : ℕ → ℕ → Bool
  labelled l r = at u statics layouts parts program well settled l r

  laid_out : IsLaidOut (lines_of parts) (lines_of (others parts)) words labelled
  laid_out = record {
    are = linked.words;
    few = few;
    past = parted.past;
    sound = parts_sound labelled (others parts) nothing (λ p part after e. part_sound u statics layouts parts program well settled p part after (other_part parts p part e));
    low = low u statics layouts parts program well settled;
    labels = labels;
    calls = calls;
    entries = entries;
  }

  -- the entry is the first word of the last part
  abbrev first_word : ℕ
  first_word = first_of parts (last_of parts)

  abbrev call_main : CodeLine
  call_main = aimed (entry_label u.main) (jumping 1 0)

  begins : (line : Line) × (slice_get (lines_of parts) first_word ≡ Some line) × (code_line line ≡ call_main)
  begins =
      let c = program.begins in
      let count = program.count in
      let b = behind c.part.lines.items 0 call_main (ap (λ z. slice_get z 0) c.lines) in
      let p : part_of (length u.functions.items) ≡ last_of parts = omega arith in
      let zero_more : first_of parts (part_of (length u.functions.items)) + 0 ≡ first_word = (let q : first_of parts (part_of (length u.functions.items)) ≡ first_word = ap (first_of parts) p in omega arith) in
      (b.line, subst (λ z. slice_get (lines_of parts) z ≡ Some b.line) zero_more (line_in parts (part_of (length u.functions.items)) 0 c.part b.line c.is_part b.there), b.is)

  begins_past : 237 ≤ first_word
  begins_past = elim (cases_lt first_word 237) [
    | inl c ↦ absurd ((parted.runtime first_word begins.0 c begins.1).call (ap (λ (x : CodeLine). links_by x.line.op 1 x.line.rd) begins.2))
    | inr c ↦ c
  ]

  first_live : (i r : ℕ) → address i ≡ code.entry → live (lines_of parts) (lines_of (others parts)) words labelled laid_out i r ≡ true → is_base r ≡ true
  first_live i r e w =
      let at_first : address i ≡ address first_word = e ∙ linked.entry in
      let is : i ≡ first_word = omega arith in
      let past : 237 ≤ i = (let q = begins_past in omega arith) in
      lives_here (lines_of parts) (lines_of (others parts)) words labelled laid_out i r begins.0 past (ap (slice_get (lines_of parts)) is ∙ begins.1)
      (λ after n z. begins_saved u statics layouts parts program well settled after r n (ap (λ x. lives_at labelled x after r) (sym begins.2) ∙ z))
      w

  pub whole : IsLiveCode code.words.items code.entry
  whole = record {
    live = live (lines_of parts) (lines_of (others parts)) words labelled laid_out;
    liveness = liveness (lines_of parts) (lines_of (others parts)) words labelled laid_out code.entry first_live;
    enters = enters (lines_of parts) (lines_of (others parts)) words labelled laid_out code.entry (let e = linked.entry in let q = begins_past in omega arith);
  }

pub live_code : LiveCodeLaw
live_code u statics layouts parts program well settled code linkable linked = whole u statics layouts parts program well settled code linkable linked
