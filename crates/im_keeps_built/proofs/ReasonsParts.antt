-- The cuts of each part of a program have their reasons.
use Rattle.std.proofs.Common.{◌≡◌, ◌⊎◌, inl, inr, ℕ, zero, suc, ◌+◌, Bool, true, false, List, [], ◌∷◌, Option, Some, None, map, length, refl, sym, ap, ◌∙◌, subst, arith}
use Rattle.std.specs.Prelude.{◌&&◌, ◌||◌, slice_get}
use Rattle.std.proofs.lemmas.Option.{slice_get_cases, slice_get_within}
use Rattle.im_num.specs.declared.values.Cause.{Cause}
use Rattle.im_num.specs.declared.values.Cause.TheVariants.{Entry, Return as Back, Loop, Length, Gap, Dep}
use Rattle.im_rv.specs.declared.code.Line.{Line as RustLine}
use Rattle.im_rv.specs.declared.code.Part.{Part}
use Rattle.im_rv.specs.declared.code.Cut.{Cut}
use Rattle.im_rv.specs.Lines.{CodeLine, plain_line, code_lines}
use Rattle.im_link.specs.Parts.{IsPart, lines_of, first_of}
use Rattle.im_link.specs.Links.{AreWordsOf}
use Rattle.im_link.specs.Cuts.{IsCutOf, IsCutIn}
use Rattle.im_ckpt.specs.Recovery.{recovery}
use Rattle.im_ckpt.specs.Checkpoint.{checkpoint_code}
use Rattle.im_rtlib.specs.Routines.{getchar, putchar, stack}
use Rattle.im_block.specs.declared.code.Block.{Block}
use Rattle.im_block.specs.declared.unit.Function.{Function}
use Rattle.im_block.specs.declared.unit.Unit.{Unit as Code}
use Rattle.im_block.specs.Wellformed.{accesses_of_functions, IsWellFormed}
use Rattle.im_frame.specs.declared.layout.Layout.{Layout}
use Rattle.im_select.specs.Emitted.{Laying}
use Rattle.im_select.specs.Selects.{accesses_in, laying_of}
use Rattle.im_link_laws.specs.Program.{HasCode, part_of, given_at, start_code, IsProgram}
use Rattle.im_saved_code.proofs.Scanning.{both}
use Rattle.im_keeps_built.specs.Cuts.{is_store, IsCaused}
use Rattle.im_keeps_built.proofs.Numbers.{In, Distinct, reads_of_blocks, writes_of_blocks, reads_in, writes_in, distinct, blocks_once, function_distinct, laid_distinct}
use Rattle.im_keeps_built.proofs.Reasons.{ReasonedFunction, reasoned_at}
use Rattle.im_keeps_built.proofs.ReasonsRecut.{known}
use Rattle.im_keeps_built.proofs.ReasonsSelected.{FitLines}
use Rattle.im_keeps_built.proofs.ReasonsLaid.{are_numbered, function_fits}
use Rattle.im_keeps_built.proofs.ReasonsLinked.{AtLine, Stores, Shown, Aheads, shown_at, sorted_at, one_access, caused_at}
use Rattle.im_keeps_built.proofs.Marked.{code_is}

-- ---- routines: each cut but that of getchar stands behind a store, with one line between them at most

abbrev length_test : Bool → Bool → Option Cause → Bool
length_test one two None = true
length_test one two (Some Length) = one || two
length_test one two (Some cause) = false

abbrev lengths_test : Bool → Bool → List CodeLine → Bool
lengths_test one two [] = true
lengths_test one two (x ∷ xs) = length_test one two x.cause && lengths_test (is_store x.line.op) one xs

or_true : (a b : Bool) → (a || b) ≡ true → (a ≡ true) ⊎ (b ≡ true)
or_true true b e = inl refl
or_true false b e = inr e

-- a line so many lines before line n stores, if this is so
abbrev OneBack : List RustLine → ℕ → Bool → Type 0
OneBack whole n one = one ≡ true → (j : ℕ) × (n ≡ suc j) × AtLine whole j Stores

abbrev TwoBack : List RustLine → ℕ → Bool → Type 0
TwoBack whole n two = two ≡ true → (j : ℕ) × (n ≡ suc (suc j)) × AtLine whole j Stores

length_by : (whole : List RustLine) (n : ℕ) (one two : Bool) → OneBack whole n one → TwoBack whole n two → (cause : Cause) → length_test one two (Some cause) ≡ true → Shown (λ known. ⊥) whole n cause
length_by whole n one two near far Entry t = absurd cc
length_by whole n one two near far Back t = absurd cc
length_by whole n one two near far Loop t = absurd cc
length_by whole n one two near far Length t = elim (or_true one two t) [
  | inl a ↦ (let r = near a in (r.0, inl r.1, (r.2.0, r.2.1, r.2.2)))
  | inr b ↦ (let r = far b in (r.0, inr r.1, (r.2.0, r.2.1, r.2.2)))
]
length_by whole n one two near far Gap t = absurd cc
length_by whole n one two near far (Dep read write) t = absurd cc

lengths_from : (whole xs : List RustLine) (n : ℕ) (one two : Bool) → OneBack whole n one → TwoBack whole n two → Aheads whole n xs → lengths_test one two (code_lines xs) ≡ true → (k m : ℕ) (line : RustLine) (cause : Cause) → m ≡ n + k → slice_get xs k ≡ Some line → line.cause ≡ Some cause → Shown (λ known. ⊥) whole m cause
lengths_from whole [] n one two near far ahead t k m line cause q e c = absurd cc
lengths_from whole (x ∷ xs) n one two near far ahead t zero m line cause q e c =
    let same : x ≡ line = cc in
    let here : n ≡ m = omega arith in
    let is : x.cause ≡ Some cause = ap (λ (z : RustLine). z.cause) same ∙ c in
    let own = (both (length_test one two x.cause) (lengths_test (is_store x.instr.op) one (code_lines xs)) t).0 in
    subst (λ z. Shown (λ known. ⊥) whole z cause) here (length_by whole n one two near far cause (subst (λ o. length_test one two o ≡ true) is own))
lengths_from whole (x ∷ xs) n one two near far ahead t (suc k) m line cause q e c =
    let here : slice_get whole n ≡ Some x = subst (λ z. slice_get whole z ≡ Some x) (let s : n + 0 ≡ n = omega arith in s) (ahead 0 x refl) in
    let rest = (both (length_test one two x.cause) (lengths_test (is_store x.instr.op) one (code_lines xs)) t).1 in
    lengths_from whole xs (suc n) (is_store x.instr.op) one (λ z. (n, refl, (x, here, z))) (λ z. let r = near z in (r.0, ap suc r.1, (r.2.0, r.2.1, r.2.2)))
    (λ j y g. subst (λ z. slice_get whole z ≡ Some y) (let s : n + suc j ≡ suc n + j = omega arith in s) (ahead (suc j) y g))
    rest k m line cause (omega arith) e c

lengths_shown : (lines : List RustLine) → lengths_test false false (code_lines lines) ≡ true → (k : ℕ) (line : RustLine) (cause : Cause) → slice_get lines k ≡ Some line → line.cause ≡ Some cause → Shown (λ known. ⊥) lines k cause
lengths_shown lines t k line cause e c =
    lengths_from lines lines 0 false false (λ (z : false ≡ true). absurd cc) (λ (z : false ≡ true). absurd cc) (λ j x g. subst (λ z. slice_get lines z ≡ Some x) (let s : j ≡ 0 + j = omega arith in s) g) t k k line cause (omega arith) e c

-- getchar reads its place once, cuts, and stores it
getchar_fits : FitLines (λ known. known ≡ Some 0) (λ a. a ≡ 1) None getchar
getchar_fits = (tt, inl (refl, refl), (tt, tt, (tt, tt, (tt, tt, (tt, tt, (tt, tt, (tt, tt, ((refl, inl (refl, refl)), tt, (tt, inr (refl, refl), (tt, tt, (tt, tt, (tt, tt, tt))))))))))))

getchar_distinct : Distinct (accesses_in getchar)
getchar_distinct = ((λ h. elim h [ inl e ↦ (let bad : 1 ≡ 0 = e in absurd cc) | inr e ↦ e ]), ((λ h. h), tt))

module _ (Asked : Type 0) (u : Code) (statics : List ℕ) (layouts : List Layout) (parts : List Part) (program : IsProgram u statics layouts parts) (words : List ℕ) (are : AreWordsOf (lines_of parts) words) (well : IsWellFormed u) (reasons : (i : ℕ) (f : Function) → slice_get u.functions.items i ≡ Some f → ReasonedFunction (known Asked (reads_of_blocks f.blocks.items)) f) where
  abbrev PartCaused : ℕ → Part → Type 0
  PartCaused p part = (k : ℕ) (cut : Cut) → IsCutOf part (first_of parts p) k cut → IsCaused words (first_of parts p + k) cut.cause × (cut.cause ≡ Gap → Asked)

  quiet : (p : ℕ) (part : Part) (code : List CodeLine) → IsPart parts p part → HasCode parts p code → lengths_test false false code ≡ true → PartCaused p part
  quiet p part code is_part has t = λ k cut c.
      let both_are = caused_at parts words are p part is_part (λ known. ⊥) (λ a. ⊥) (λ r no. absurd no) (λ a no other. no) (λ r no. absurd no)
      (lengths_shown part.lines.items (subst (λ l. lengths_test false false l ≡ true) (sym (code_is parts p part code is_part has)) t)) k cut c in
      (both_are.0, λ g. absurd (both_are.1 g))

  sorted : (p : ℕ) (part : Part) (code : List CodeLine) → IsPart parts p part → HasCode parts p code → (Known : Option ℕ → Type 0) (Writes : ℕ → Type 0) → (Known None → Asked) → ((a : ℕ) → Known (Some a) → Writes a → ⊥) → Distinct (accesses_in code) → FitLines Known Writes None code → PartCaused p part
  sorted p part code is_part has Known Writes asks apart once f = λ k cut c.
      let same = code_is parts p part code is_part has in
      let fits = subst (FitLines Known Writes None) (sym same) f in
      let one = subst (λ l. Distinct (accesses_in l)) (sym same) once in
      let both_are = caused_at parts words are p part is_part Known Writes (λ r h. sorted_at Known Writes part.lines.items None fits) apart (λ r h. one_access part.lines.items one) (shown_at Known Writes part.lines.items fits) k cut c in
      (both_are.0, λ g. asks (both_are.1 g))

  function_caused : (i : ℕ) (f : Function) → slice_get u.functions.items i ≡ Some f → (part : Part) → IsPart parts (part_of i) part → PartCaused (part_of i) part
  function_caused i f e part is_part =
      let own = program.functions i f e in
      let exact = own.selection.exact in
      let laying : Laying = laying_of (given_at u.functions.items statics i f own.layout) exact.live exact.distance in
      let blocks : List Block = f.blocks.items in
      let once = function_distinct u.functions.items i f (distinct (accesses_of_functions u.functions.items) well.accesses) e in
      let reasoned = reasoned_at (known Asked (reads_of_blocks blocks)) f.entry 0 blocks (reasons i f e) in
      sorted (part_of i) part own.code is_part own.there (known Asked (reads_of_blocks blocks)) (λ a. In a (writes_of_blocks blocks)) (λ (a : Asked). a) (λ a r w. blocks_once a blocks once r w)
      (subst Distinct (sym own.selection.accesses) (laid_distinct f.entry blocks once))
      (subst (FitLines (known Asked (reads_of_blocks blocks)) (λ a. In a (writes_of_blocks blocks)) None) (sym exact.lines_are)
      (function_fits (known Asked (reads_of_blocks blocks)) (λ a. In a (writes_of_blocks blocks)) laying (λ b block at. reasoned b block b (omega arith) at)
      (λ b block at. are_numbered (known Asked (reads_of_blocks blocks)) (λ a. In a (writes_of_blocks blocks)) block.lines.items (λ a h. reads_in a blocks b block at h) (λ a h. writes_in a blocks b block at h)) i))

  part_caused : (p : ℕ) (part : Part) → IsPart parts p part → PartCaused p part
  part_caused zero part e = quiet 0 part (map plain_line recovery) e program.recovers refl
  part_caused (suc zero) part e = quiet 1 part checkpoint_code e program.saves refl
  part_caused (suc (suc zero)) part e = sorted 2 part getchar e program.gets (λ known. known ≡ Some 0) (λ a. a ≡ 1) (λ (e : None ≡ Some 0). absurd cc) (λ a r w. let q : a ≡ 0 = cc in omega arith) getchar_distinct getchar_fits
  part_caused (suc (suc (suc zero))) part e = quiet 3 part putchar e program.puts refl
  part_caused (suc (suc (suc (suc zero)))) part e = quiet 4 part stack e program.stops refl
  part_caused (suc (suc (suc (suc (suc i))))) part e = elim (slice_get_cases u.functions.items i).1 [
    | inl c ↦
        (let q : suc (suc (suc (suc (suc i)))) ≡ part_of i = omega arith in
        subst (λ z. PartCaused z part) (sym q) (function_caused i c.0 c.2 part (subst (λ z. IsPart parts z part) q e)))
    | inr c ↦
        (let le = c.0 in
        let count = program.count in
        let within = slice_get_within parts (suc (suc (suc (suc (suc i))))) part e in
        let q : suc (suc (suc (suc (suc i)))) ≡ part_of (length u.functions.items) = omega arith in
        subst (λ z. PartCaused z part) (sym q) (quiet (part_of (length u.functions.items)) part (start_code u.main) (subst (λ z. IsPart parts z part) q e) program.begins refl))
  ]

  -- the cause that is told of a cut is shown by the words around it
  pub told_caused : (cut : Cut) (c : IsCutIn parts cut) → IsCaused words (first_of parts c.p + c.k) cut.cause × (cut.cause ≡ Gap → Asked)
  told_caused cut c = part_caused c.p c.part c.is_part c.k cut c.is_cut
