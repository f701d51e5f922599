-- The linked code of a program has a longest gap, by any numbers that are no less than what is left at the starts of blocks.
use Rattle.std.proofs.Common.{◌≡◌, ℕ, zero, suc, ◌+◌, ◌-◌, ◌*◌, ◌<◌, ◌≤◌, ◌⊎◌, inl, inr, Bool, List, ◌∷◌, ◌++◌, Option, Some, None, length, drop, map, refl, sym, ap, ◌∙◌, subst, arith}
use Rattle.std.specs.Prelude.{slice_get, All}
use Rattle.std.proofs.lemmas.Option.{slice_get_cases, slice_get_within, get_or_from_slice_get}
use Rattle.im_num.specs.declared.values.Cause.{Cause}
use Rattle.im_rv.specs.declared.code.Part.{Part}
use Rattle.im_rv.specs.declared.code.Code.{Code as Linked}
use Rattle.im_rv.specs.Lines.{CodeLine, plain_line, code_lines}
use Rattle.im_rv.specs.Code.{address}
use Rattle.im_ckpt.specs.Recovery.{recovery}
use Rattle.im_ckpt.specs.Checkpoint.{checkpoint_code, entry_at}
use Rattle.im_rv_reach.specs.Instructions.{jumping}
use Rattle.im_serve.specs.declared.service.Service.{Service}
use Rattle.im_rtlib.specs.Routines.{aimed, routine, stack}
use Rattle.im_gap.specs.Flow.{Flow, IsResumeWord}
use Rattle.im_gap.specs.Gap.{IsBounded, HasGap}
use Rattle.im_gap.proofs.Walking.{rank_law}
use Rattle.im_gap.proofs.Bounded.{bounded}
use Rattle.im_link.specs.Parts.{IsPart, lines_of, first_of, last_of}
use Rattle.im_link.specs.Links.{StandsAt}
use Rattle.im_link.specs.Code.{IsLinkable, IsLinked}
use Rattle.im_link.proofs.Joining.{line_in, lines_count}
use Rattle.im_block.specs.declared.code.Line.{Line as BlockLine}
use Rattle.im_block.specs.declared.code.Line.TheVariants.{Cut}
use Rattle.im_block.specs.declared.code.Block.{Block}
use Rattle.im_block.specs.declared.unit.Function.{Function}
use Rattle.im_block.specs.declared.unit.Unit.{Unit as Code}
use Rattle.im_block.specs.Forced.{AllForced}
use Rattle.im_cut_gap.specs.Remaining.{cost_on}
use Rattle.im_frame.specs.declared.layout.Layout.{Layout}
use Rattle.im_live.specs.Reads.{lives_before}
use Rattle.im_live.specs.Entries.{entry_in, entries as least_entries}
use Rattle.im_live.proofs.Least.{entry_within}
use Rattle.im_select.specs.Emitted.{entry_label}
use Rattle.im_select.specs.Places.{at_of}
use Rattle.im_select.specs.Selects.{HasLabel, IsClosedBlock}
use Rattle.im_link_laws.specs.Program.{HasCode, routine_part, part_of, first_label, given_at, start_code, IsProgram}
use Rattle.im_link_laws.proofs.Runtimes.{saved_there, size_of}
use Rattle.im_link_laws.proofs.Services.{routine_there, PartAt, ServicePart, StackPart, LaterPart, part_at}
use Rattle.im_link_laws.proofs.Standing.{behind}
use Rattle.im_saved_code.proofs.Parts.{code_is}
use Rattle.im_saved_code.specs.Scan.{way}
use Rattle.im_gap_ranked.specs.Laws.{HasShortGap}
use Rattle.im_gap_ranked.proofs.Ranks.{After, nothing, AreRanked, AreWithin}
use Rattle.im_gap_ranked.proofs.Routines.{entry_rank, routine_rank, service_ranked, stack_ranked, exit_ranked, service_within, stack_within, exit_within}
use Rattle.im_gap_ranked.proofs.Blocks.{block_base, BlockFacts, function_ranked, function_within}
use Rattle.im_gap_ranked.proofs.Labels.{beyond, at, at_block, callees}
use Rattle.im_gap_ranked.proofs.Runtime.{others, other_part, Split, split}
use Rattle.im_gap_ranked.proofs.Falling.{parts_ranked, parts_within, IsLaidOut, rank, falls, behind_cut, call_rank}

all_at : {X : Type 0} (P : X → Type 0) (xs : List X) (i : ℕ) (x : X) → All P xs → slice_get xs i ≡ Some x → P x
all_at P xs i x a e = subst P (get_or_from_slice_get xs i x x e) (a i x (slice_get_within xs i x e))

entry_okay : (live : ℕ → ℕ → Bool) (block : Option Block) (j : ℕ) → (4 ≤ entry_in live block j) × (entry_in live block j ≤ 31)
entry_okay live None j = (omega arith, omega arith)
entry_okay live (Some block) j = let k = entry_within (lives_before live (drop (suc j) block.lines.items) block.exit) in let low = k.0 in let high = k.1 in (omega arith, omega arith)

-- a bound of the first n numbers
abbrev top_of : (ℕ → ℕ) → ℕ → ℕ
top_of number zero = 0
top_of number (suc n) = number n + top_of number n

top_above : (number : ℕ → ℕ) (n i : ℕ) → i < n → number i ≤ top_of number n
top_above number zero i h = absurd (omega arith)
top_above number (suc n) i h = elim (last_or i n h) [
  | inl l ↦ (let k = top_above number n i l in omega arith)
  | inr e ↦ subst (λ z. number z ≤ number n + top_of number n) (sym e) (let k : number n ≤ number n + top_of number n = omega arith in k)
]
  where
    last_or : (i k : ℕ) → i < suc k → (i < k) ⊎ (i ≡ k)
    last_or i k l = grind arith

module _ (u : Code) (statics : List ℕ) (layouts : List Layout) (parts : List Part) (program : IsProgram u statics layouts parts) (forced : AllForced u) (lefts : ℕ → ℕ → ℕ) (enough : (i : ℕ) (f : Function) → slice_get u.functions.items i ≡ Some f → (b : ℕ) (block : Block) → slice_get f.blocks.items b ≡ Some block → cost_on (lefts i) block.lines.items block.exit ≤ lefts i b) where
  abbrev functions : List Function
  functions = u.functions.items

  abbrev numbers : ℕ → ℕ
  numbers = beyond functions lefts

  abbrev labelled : ℕ → ℕ
  labelled = at functions lefts

  start_ranked : (after : After) → AreRanked labelled (start_code u.main) after
  start_ranked after = (
    record {
      label = λ l e. absurd cc;
      goes = (entry_label u.main, refl, record { cut = λ e. absurd (omega arith); call = λ e. omega arith; other = λ e. omega arith });
    },
    exit_ranked numbers after,
  )

  start_within : (top : ℕ) (after : After) → routine_rank ≤ top → AreWithin labelled top (start_code u.main) after
  start_within top after le = ((λ jumps cut. absurd cc), exit_within numbers after top le)

  block_facts : (i : ℕ) (f : Function) → slice_get functions i ≡ Some f → (b : ℕ) (block : Block) → slice_get f.blocks.items b ≡ Some block → BlockFacts (length functions) (lefts i) f b block
  block_facts i f e b block g =
      let own = program.functions i f e in
      let closed = all_at (IsClosedBlock (given_at functions statics i f own.layout)) f.blocks.items b block own.selectable.closed g in
      let cuts = forced.each i f e in
      record {
        inside = slice_get_within f.blocks.items b block g;
        calls = closed.calls;
        there = closed.edges;
        cuts = cuts.calls b block g;
        most = enough i f e b block g;
        entry = λ q. cuts.entry block (ap (slice_get f.blocks.items) (sym q) ∙ g);
      }

  function_ranks : (i : ℕ) (f : Function) (e : slice_get functions i ≡ Some f) (after : After) → AreRanked labelled (program.functions i f e).code after
  function_ranks i f e after =
      let own = program.functions i f e in
      let objects = at_of (given_at functions statics i f own.layout) in
      subst (λ z. AreRanked labelled z after) (sym own.selection.exact.lines_are)
      (function_ranked labelled objects (least_entries own.selection.exact.live f.blocks.items) (λ b j. entry_okay own.selection.exact.live (slice_get f.blocks.items b) j) own.selection.exact.live own.selection.exact.distance (length functions) (first_label functions i) own.layout.frame (lefts i) f (omega arith) (callees functions lefts) (λ b h. at_block functions lefts i b f e h)
      i after (slice_get_within functions i f e) own.selectable.entry (block_facts i f e))

  -- behind each cut so little is left
  abbrev IsLittle : ℕ → Type 0
  IsLittle top = (i : ℕ) (f : Function) → slice_get functions i ≡ Some f → (b : ℕ) (block : Block) → slice_get f.blocks.items b ≡ Some block → (before : List BlockLine) (cause : Cause) (rest : List BlockLine) → block.lines.items ≡ before ++ Cut cause ∷ rest → block_base + cost_on (lefts i) rest block.exit ≤ top

  function_bounds : (top : ℕ) → IsLittle top → (i : ℕ) (f : Function) (e : slice_get functions i ≡ Some f) (after : After) → AreWithin labelled top (program.functions i f e).code after
  function_bounds top little i f e after =
      let own = program.functions i f e in
      let objects = at_of (given_at functions statics i f own.layout) in
      subst (λ z. AreWithin labelled top z after) (sym own.selection.exact.lines_are)
      (function_within labelled objects (least_entries own.selection.exact.live f.blocks.items) (λ b j. entry_okay own.selection.exact.live (slice_get f.blocks.items b) j) own.selection.exact.live own.selection.exact.distance (length functions) (first_label functions i) own.layout.frame (lefts i) f (omega arith) (callees functions lefts) (λ b h. at_block functions lefts i b f e h)
      top i after own.selectable.entry (λ b block g. (block_facts i f e b block g, little i f e b block g)))

  -- what holds of the lines of each of these parts
  module _ (P : List CodeLine → Type 0) (serves : (service : Service) → P (routine service)) (stops : P stack) (starts : P (start_code u.main)) (each : (i : ℕ) (f : Function) (e : slice_get functions i ≡ Some f) → P (program.functions i f e).code) where
    known : (p : ℕ) (part : Part) (code : List CodeLine) → IsPart parts p part → HasCode parts p code → P code → P (code_lines part.lines.items)
    known p part code is_part c s = subst P (sym (code_is parts p part code is_part c)) s

    -- behind recovery and the checkpoint
    each_part : (p : ℕ) (part : Part) → IsPart parts (suc (suc p)) part → P (code_lines part.lines.items)
    each_part p part e = by (suc (suc p)) (part_at p) e
      where
        by : (n : ℕ) → PartAt n → IsPart parts n part → P (code_lines part.lines.items)
        by n (ServicePart service) e = known (routine_part service) part (routine service) e (routine_there u statics layouts parts program service) (serves service)
        by n StackPart e = known 4 part stack e program.stops stops
        by n (LaterPart i) e = elim (slice_get_cases functions i).1 [
          | inl c ↦ (let own = program.functions i c.0 c.2 in known (part_of i) part own.code e own.there (each i c.0 c.2))
          | inr c ↦
              (let le = c.0 in
              let count = program.count in
              let within = slice_get_within parts (part_of i) part e in
              let q : part_of i ≡ part_of (length functions) = omega arith in
              known (part_of (length functions)) part (start_code u.main) (subst (λ z. IsPart parts z part) q e) program.begins starts)
        ]

  part_ranked : (p : ℕ) (part : Part) (after : After) → IsPart parts (suc (suc p)) part → AreRanked labelled (code_lines part.lines.items) after
  part_ranked p part after e =
      each_part (λ z. AreRanked labelled z after) (service_ranked numbers after) (stack_ranked numbers after) (start_ranked after) (λ i f g. function_ranks i f g after) p part e

  part_within : (top p : ℕ) (part : Part) (after : After) → routine_rank ≤ top → IsLittle top → IsPart parts (suc (suc p)) part → AreWithin labelled top (code_lines part.lines.items) after
  part_within top p part after le little e =
      each_part (λ z. AreWithin labelled top z after) (service_within numbers after top le) (stack_within numbers after top le) (start_within top after le) (λ i f g. function_bounds top little i f g after) p part e

  -- ---- linked

  module _ (code : Linked) (linkable : IsLinkable parts) (linked : IsLinked parts code) where
    parted : Split parts
    parted = split parts program.recovers program.saves

    few : length (lines_of parts) ≤ 261120
    few = let fits = linked.fits in let count = lines_count parts in omega arith

    -- where the label of an entry stands
    entries : (l j : ℕ) → 4 ≤ l → l ≤ 31 → StandsAt (lines_of parts) l j → address j ≡ entry_at l
    entries l j low high s =
        let h : HasLabel checkpoint_code (5 * (l - 4)) l = saved_there l (omega arith) high in
        let c = program.saves in
        let t : slice_get (code_lines c.part.lines.items) (5 * (l - 4)) ≡ Some h.line = ap (λ z. slice_get z (5 * (l - 4))) c.lines ∙ h.there in
        let b = behind c.part.lines.items (5 * (l - 4)) h.line t in
        let there : StandsAt (lines_of parts) l (first_of parts 1 + 5 * (l - 4)) =
        record { line = b.line; is_line = line_in parts 1 (5 * (l - 4)) c.part b.line c.is_part b.there; label = ap (λ (z : CodeLine). z.label) b.is ∙ h.is } in
        let same : j ≡ first_of parts 1 + 5 * (l - 4) = linkable.labels l j (first_of parts 1 + 5 * (l - 4)) s there in
        let first : first_of parts 1 ≡ 64 = (let a = size_of parts 0 (map plain_line recovery) program.recovers in let z : first_of parts 0 ≡ 0 = refl in let n : length (map plain_line recovery) ≡ 64 = refl in omega arith) in
        omega arith

    laid_out : IsLaidOut (lines_of parts) (lines_of (others parts)) code.words.items labelled
    laid_out = record {
      are = linked.words;
      few = few;
      runtime = parted.runtime;
      past = parted.past;
      ranked = parts_ranked labelled (others parts) nothing (λ p part after e. part_ranked p part after (other_part parts p part e));
      entries = entries;
    }

    abbrev ranked : ℕ → ℕ
    ranked i = rank (lines_of parts) (lines_of (others parts)) code.words.items labelled laid_out i

    ranks_fall : (i j : ℕ) → Flow code.words.items i j → ranked j < ranked i
    ranks_fall i j flow = falls (lines_of parts) (lines_of (others parts)) code.words.items labelled laid_out i j flow

    abbrev first : ℕ
    first = first_of parts (last_of parts)

    first_resumes : IsResumeWord code.words.items code.entry first
    first_resumes = record { inside = linked.inside; is = inl (sym linked.entry) }

    has_gap : HasGap code.words.items code.entry
    has_gap = record {
      first = first;
      resumes = first_resumes;
      bound = top_of ranked (length code.words.items);
      bounded = rank_law code.words.items code.entry (top_of ranked (length code.words.items)) ranked ranks_fall (λ i r. top_above ranked (length code.words.items) i r.inside);
    }

    pub whole : HasShortGap code.words.items code.entry
    whole = record { has = has_gap; short = λ k g. bounded code.words.items code.entry k g }

    -- ---- sections

    -- the run begins with a call
    first_rank : ranked first ≡ suc entry_rank
    first_rank =
        let n : ℕ = length functions in
        let count = program.count in
        let last : last_of parts ≡ part_of n = omega arith in
        let c = program.begins in
        let call : CodeLine = aimed (entry_label u.main) (jumping 1 0) in
        let t : slice_get (code_lines c.part.lines.items) 0 ≡ Some call = ap (λ z. slice_get z 0) c.lines in
        let b = behind c.part.lines.items 0 call t in
        let at_first : first_of parts (part_of n) + 0 ≡ first = (let z = ap (first_of parts) last in omega arith) in
        let there : slice_get (lines_of parts) first ≡ Some b.line = sym (ap (slice_get (lines_of parts)) at_first) ∙ line_in parts (part_of n) 0 c.part b.line c.is_part b.there in
        call_rank (lines_of parts) (lines_of (others parts)) code.words.items labelled laid_out first (entry_label u.main) b.line there
        (ap (λ (z : CodeLine). z.target) b.is) (ap (λ (z : CodeLine). way z.line.op) b.is) (ap (λ (z : CodeLine). z.line.rd) b.is)
        ∙ ap suc ((callees functions lefts).entries u.main program.main)

    module _ (top : ℕ) (high : suc entry_rank ≤ top) (little : IsLittle top) where
      all_within : AreWithin labelled top (code_lines (lines_of (others parts))) nothing
      all_within = parts_within labelled top (others parts) nothing (λ p part after e. part_within top p part after (omega arith) little (other_part parts p part e))

      resumed : (i : ℕ) → IsResumeWord code.words.items code.entry i → ranked i ≤ top
      resumed i r = elim r.is [
        | inl e ↦
            (let entry = linked.entry in
            let there : i ≡ first = omega arith in
            let is : ranked i ≡ suc entry_rank = ap ranked there ∙ first_rank in
            omega arith)
        | inr b ↦ behind_cut (lines_of parts) (lines_of (others parts)) code.words.items labelled laid_out top i all_within b
      ]

      pub within : IsBounded code.words.items code.entry top
      within = rank_law code.words.items code.entry top ranked ranks_fall resumed
