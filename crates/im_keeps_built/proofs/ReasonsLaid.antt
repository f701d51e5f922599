-- The lines of a function, block by block.
use Rattle.std.proofs.Common.{◌≡◌, inl, inr, ℕ, zero, suc, ◌+◌, ◌-◌, ◌^◌, Bool, true, false, List, [], ◌∷◌, ◌++◌, Option, Some, None, length, refl, sym, subst, ◌∙◌}
use Rattle.std.specs.Prelude.{◌==◌, if◌then◌else◌, slice_get}
use Rattle.im_num.specs.declared.values.Cause.{Cause}
use Rattle.im_num.specs.declared.values.Cause.TheVariants.{Entry, Return as Back, Loop, Length, Gap, Dep}
use Rattle.im_rv.specs.declared.instr.Op.TheVariants.{Sw}
use Rattle.im_rv.specs.Decode.{Line as Instruction}
use Rattle.im_rv.specs.Lines.{CodeLine}
use Rattle.im_rv_reach.specs.Instructions.{storing}
use Rattle.im_store.specs.Objects.{Name}
use Rattle.im_block.specs.declared.code.Line.{Line}
use Rattle.im_block.specs.declared.code.Line.TheVariants.{Read, Write, Reload, Spill, Cut}
use Rattle.im_block.specs.declared.code.Exit.{Exit}
use Rattle.im_block.specs.declared.code.Block.{Block}
use Rattle.im_select.specs.Leads.{led, kept}
use Rattle.im_select.specs.declared.branching.Test.{Test}
use Rattle.im_select.specs.declared.distance.Distance.{Distance as Reach}
use Rattle.im_select.specs.Emitted.{adds_code, lines_code, behind_each, taken_test, own_lines, exit_code, is_empty, block_code, Laying, leads_of, next_label, found_code, laid_block, laid_code, others_below, blocks_code, enter_code, prologue_code, function_code, labelled, entry_label}
use Rattle.im_select.proofs.Plain.{adds_bare}
use Rattle.im_select.proofs.Taking.{IsTaken, Nothing, Comparing, Zeroing, zero_line, takes}
use Rattle.im_keeps_built.specs.Cuts.{keeps_return}
use Rattle.im_keeps_built.proofs.Numbers.{In, in_right, reads_of_line, reads_of_lines, writes_of_line, writes_of_lines}
use Rattle.im_keeps_built.proofs.Reasons.{Before, Begins, Anything, behind_line, EndsLoop, IsWrite, WritesNext, Reason, Fits, Reasoned, begins_at}
use Rattle.im_keeps_built.proofs.ReasonsSelected.{FitLines, Calm, last_of, Numbered, AreNumbered, bare_calm, calm_append, calm_fit, fit_append, labelled_fit, exit_fits, exit_jumps, Agrees, lines_fit}

-- ---- what an exit takes of its block's lines is neither a cut's nor a write

abbrev Trims : List Line → Type 0
Trims tail = (w : ℕ) → WritesNext w tail → ⊥

taken_trims : (live : ℕ → ℕ → Bool) (tail : List Line) (exit : Exit) (taken : Option Test) → IsTaken live tail exit taken → Trims tail
taken_trims live tail exit taken (Nothing e) = λ w h. h
taken_trims live tail exit taken (Comparing to op kind left right a b x y) = λ w h. h
taken_trims live tail exit taken (Zeroing line r to op kind left right a b nought x y z v) = λ w. zero_line (λ l. IsWrite w l → ⊥) line r nought (λ k h. h) (λ h. h)

ends_trimmed : (exit : Exit) (own tail : List Line) → EndsLoop (own ++ tail) exit → EndsLoop own exit
ends_trimmed exit [] [] e = e
ends_trimmed exit [] (x ∷ tail) e = absurd e
ends_trimmed exit (line ∷ own) tail e = absurd e

writes_trimmed : (w : ℕ) (own tail : List Line) → Trims tail → WritesNext w (own ++ tail) → WritesNext w own
writes_trimmed w [] tail t e = absurd (t w e)
writes_trimmed w (line ∷ own) tail t e = e

reason_trimmed : (Known : Option ℕ → Type 0) (before : Before) (exit : Exit) (own tail : List Line) (cause : Cause) → Trims tail → Reason Known before (own ++ tail) exit cause → Reason Known before own exit cause
reason_trimmed Known before exit own tail Entry t r = r
reason_trimmed Known before exit own tail Back t (inl e) = inl e
reason_trimmed Known before exit own tail Back t (inr e) = inr (ends_trimmed exit own tail e)
reason_trimmed Known before exit own tail Loop t r = ends_trimmed exit own tail r
reason_trimmed Known before exit own tail Length t r = r
reason_trimmed Known before exit own tail Gap t r = r
reason_trimmed Known before exit own tail (Dep read write) t r = (r.0, writes_trimmed write own tail t r.1)

line_trimmed : (Known : Option ℕ → Type 0) (before : Before) (exit : Exit) (own tail : List Line) (line : Line) → Trims tail → Fits Known before (own ++ tail) exit line → Fits Known before own exit line
line_trimmed Known before exit own tail (Cut cause) t f = reason_trimmed Known before exit own tail cause t f
line_trimmed Known before exit own tail line t f = tt

trimmed : (Known : Option ℕ → Type 0) (before : Before) (exit : Exit) (own tail : List Line) → Trims tail → Reasoned Known exit before (own ++ tail) → Reasoned Known exit before own
trimmed Known before exit [] tail t r = tt
trimmed Known before exit (line ∷ own) tail t r = (line_trimmed Known before exit own tail line t r.0, trimmed Known (behind_line line) exit own tail t r.1)

numbers_trimmed : (Known : Option ℕ → Type 0) (Writes : ℕ → Type 0) (own tail : List Line) → AreNumbered Known Writes (own ++ tail) → AreNumbered Known Writes own
numbers_trimmed Known Writes [] tail n = tt
numbers_trimmed Known Writes (line ∷ own) tail n = (n.0, numbers_trimmed Known Writes own tail n.1)

-- ---- the accesses of lines have known numbers

line_numbered : (Known : Option ℕ → Type 0) (Writes : ℕ → Type 0) (line : Line) (rest more : List ℕ) → ((a : ℕ) → In a (reads_of_line line ++ rest) → Known (Some a)) → ((a : ℕ) → In a (writes_of_line line ++ more) → Writes a) → Numbered Known Writes line
line_numbered Known Writes (Read to place kind access) rest more r w = r access (inl refl)
line_numbered Known Writes (Write place kind from access) rest more r w = w access (inl refl)
line_numbered Known Writes (Reload to slot access) rest more r w = r access (inl refl)
line_numbered Known Writes (Spill slot from access) rest more r w = w access (inl refl)
line_numbered Known Writes line rest more r w = tt

pub are_numbered : (Known : Option ℕ → Type 0) (Writes : ℕ → Type 0) (lines : List Line) → ((a : ℕ) → In a (reads_of_lines lines) → Known (Some a)) → ((a : ℕ) → In a (writes_of_lines lines) → Writes a) → AreNumbered Known Writes lines
are_numbered Known Writes [] r w = tt
are_numbered Known Writes (line ∷ lines) r w =
    (line_numbered Known Writes line (reads_of_lines lines) (writes_of_lines lines) r w, are_numbered Known Writes lines (λ a h. r a (in_right a (reads_of_line line) (reads_of_lines lines) h)) (λ a h. w a (in_right a (writes_of_line line) (writes_of_lines lines) h)))

-- ---- blocks

block_fits : (Known : Option ℕ → Type 0) (Writes : ℕ → Type 0) (at : Name → ℕ) (m : ℕ → ℕ) (live : ℕ → ℕ → Bool) (leads : ℕ → ℕ) (distance : Reach) (next : Option ℕ) (first frame b : ℕ) (block : Block) (before : Before) (mark : Option Instruction) → Agrees before mark → Reasoned Known block.exit before block.lines.items → AreNumbered Known Writes block.lines.items → FitLines Known Writes mark (block_code at m live leads distance next first frame b block)
block_fits Known Writes at m live leads distance next first frame b block before mark a r n =
    let taken : Option Test = taken_test live block.lines.items block.exit in
    let own : List Line = own_lines taken block.lines.items in
    let t = takes live block.lines.items block.exit in
    let needed : ℕ → ℕ → Bool = behind_each live block.lines.items block.exit in
    let lines : List CodeLine = lines_code at m needed None 0 own in
    let ends : List CodeLine = exit_code distance next (is_empty lines) first frame taken (led leads block.exit) in
    let reasoned = trimmed Known before block.exit own t.tail (taken_trims live t.tail block.exit taken t.is) (subst (Reasoned Known block.exit before) (sym t.whole) r) in
    let numbered = numbers_trimmed Known Writes own t.tail (subst (AreNumbered Known Writes) (sym t.whole) n) in
    labelled_fit Known Writes (first + b) (lines ++ ends) mark
    (lines_fit Known Writes at m needed block.exit ends (exit_jumps distance next (is_empty lines) first frame taken leads block.exit) (exit_fits Known Writes distance next (is_empty lines) first frame taken (led leads block.exit)) before mark None 0 own a reasoned numbered)

-- blocks that are not the entry
abbrev Others : ℕ → List ℕ → Type 0
Others entry [] = Unit {0}
Others entry (b ∷ rest) = ((b == entry) ≡ false) × Others entry rest

others_by : (entry n : ℕ) → Others entry (others_below entry n) → (q : Bool) → (n == entry) ≡ q → Others entry (if q then others_below entry n else n ∷ others_below entry n)
others_by entry n rest true e = rest
others_by entry n rest false e = (e, rest)

others : (entry n : ℕ) → Others entry (others_below entry n)
others entry zero = tt
others entry (suc n) = others_by entry n (others entry n) (n == entry) refl

kept_by : (entry : ℕ) (leads : ℕ → ℕ) (b : ℕ) (order : List ℕ) → ((b == entry) ≡ false) → Others entry (kept leads order) → (q : Bool) → Others entry (if q then b ∷ kept leads order else kept leads order)
kept_by entry leads b order e rest true = (e, rest)
kept_by entry leads b order e rest false = rest

others_kept : (entry : ℕ) (leads : ℕ → ℕ) (order : List ℕ) → Others entry order → Others entry (kept leads order)
others_kept entry leads [] o = tt
others_kept entry leads (b ∷ order) o = kept_by entry leads b order o.0 (others_kept entry leads order o.1) (leads b == b)

module _ (Known : Option ℕ → Type 0) (Writes : ℕ → Type 0) (laying : Laying) (reasoned : (b : ℕ) (block : Block) → slice_get laying.blocks b ≡ Some block → Reasoned Known block.exit (begins_at laying.entry b) block.lines.items) (numbered : (b : ℕ) (block : Block) → slice_get laying.blocks b ≡ Some block → AreNumbered Known Writes block.lines.items) where
  found_fits : (b : ℕ) (next : Option ℕ) (mark : Option Instruction) → Agrees (begins_at laying.entry b) mark → (o : Option Block) → slice_get laying.blocks b ≡ o → FitLines Known Writes mark (found_code laying b next o)
  found_fits b next mark a None e = tt
  found_fits b next mark a (Some block) e =
      block_fits Known Writes laying.at (laying.cut b) laying.live (leads_of laying) laying.distance next laying.first laying.frame b block (begins_at laying.entry b) mark a (reasoned b block e) (numbered b block e)

  laid_fits : (order : List ℕ) (mark : Option Instruction) → Others laying.entry order → FitLines Known Writes mark (laid_code laying order)
  laid_fits [] mark o = tt
  laid_fits (b ∷ rest) mark o =
      let agrees = subst (λ q. Agrees (if q then Begins else Anything) mark) (sym o.0) tt in
      let own : List CodeLine = laid_block laying b rest in
      fit_append Known Writes own (laid_code laying rest) mark (found_fits b (next_label laying.first rest) mark agrees (slice_get laying.blocks b) refl) (laid_fits rest (last_of mark own) o.1)

  entered : (mark : Option Instruction) → keeps_return mark ≡ true → (q : Bool) → Agrees (if q then Begins else Anything) mark
  entered mark k true = k
  entered mark k false = tt

  order_fits : (mark : Option Instruction) → keeps_return mark ≡ true → (rest : List ℕ) → Others laying.entry rest → (q : Bool) → FitLines Known Writes mark (laid_code laying (if q then laying.entry ∷ rest else rest))
  order_fits mark k rest o false = laid_fits rest mark o
  order_fits mark k rest o true =
      let own : List CodeLine = laid_block laying laying.entry rest in
      fit_append Known Writes own (laid_code laying rest) mark (found_fits laying.entry (next_label laying.first rest) mark (entered mark k (laying.entry == laying.entry)) (slice_get laying.blocks laying.entry) refl) (laid_fits rest (last_of mark own) o)

  blocks_fit : (mark : Option Instruction) → keeps_return mark ≡ true → FitLines Known Writes mark (blocks_code laying)
  blocks_fit mark k =
      let below : List ℕ = others_below laying.entry (length laying.blocks) in
      order_fits mark k (kept (leads_of laying) below) (others_kept laying.entry (leads_of laying) below (others laying.entry (length laying.blocks))) (leads_of laying laying.entry == laying.entry)

  -- ---- a function

  labelled_calm : (label : ℕ) (xs : List CodeLine) → Calm Known Writes xs → Calm Known Writes (labelled label xs)
  labelled_calm label [] c = tt
  labelled_calm label (x ∷ xs) c = c

  labelled_last : (label : ℕ) (xs : List CodeLine) (before : Option Instruction) → last_of before (labelled label xs) ≡ last_of before xs
  labelled_last label [] before = refl
  labelled_last label (x ∷ xs) before = refl

  enter_last : (xs : List CodeLine) (before : Option Instruction) → last_of before (xs ++ enter_code) ≡ Some (storing Sw 2 1 0)
  enter_last [] before = refl
  enter_last (x ∷ xs) before = enter_last xs (Some x.line)

  enter_calm : Calm Known Writes enter_code
  enter_calm = (refl, tt, (refl, tt, (refl, tt, (refl, tt, (refl, tt, tt)))))

  pub function_fits : (i : ℕ) → FitLines Known Writes None (function_code i laying)
  function_fits i =
      let n : ℕ = 2 ^ 32 - laying.frame in
      let prologue : List CodeLine = prologue_code laying.frame in
      let last : last_of None (labelled (entry_label i) prologue) ≡ Some (storing Sw 2 1 0) = labelled_last (entry_label i) prologue None ∙ enter_last (adds_code 6 n) None in
      calm_fit Known Writes (labelled (entry_label i) prologue) (blocks_code laying) None
      (labelled_calm (entry_label i) prologue (calm_append Known Writes (adds_code 6 n) enter_code (bare_calm Known Writes (adds_code 6 n) (adds_bare 6 n)) enter_calm))
      (subst (λ m. FitLines Known Writes m (blocks_code laying)) (sym last) (blocks_fit (Some (storing Sw 2 1 0)) refl))
