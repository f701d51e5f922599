-- What stands around the lines of a part stands around its words.
use Rattle.std.proofs.Common.{◌≡◌, ◌⊎◌, inl, inr, ℕ, zero, suc, ◌+◌, ◌<◌, ◌≤◌, Bool, true, false, List, [], ◌∷◌, Option, Some, None, refl, sym, ap, ◌∙◌, subst, arith}
use Rattle.std.specs.Prelude.{slice_get}
use Rattle.im_num.specs.declared.values.Cause.{Cause}
use Rattle.im_num.specs.declared.values.Cause.TheVariants.{Entry, Return as Back, Loop, Length, Gap, Dep}
use Rattle.im_rv.specs.declared.instr.Op.{Op}
use Rattle.im_rv.specs.declared.code.Line.{Line as RustLine}
use Rattle.im_rv.specs.declared.code.Part.{Part}
use Rattle.im_rv.specs.declared.code.Cut.{Cut}
use Rattle.im_rv.specs.Decode.{Line as Instruction}
use Rattle.im_rv.specs.Lines.{line_of, code_lines}
use Rattle.im_rv.specs.Code.{address, instruction_at}
use Rattle.im_gap.specs.Flow.{links, links_by}
use Rattle.im_link.specs.Parts.{IsPart, lines_of, first_of}
use Rattle.im_link.specs.Links.{AreWordsOf}
use Rattle.im_link.specs.Cuts.{IsPlacedCause, IsCutOf}
use Rattle.im_link.proofs.Joining.{line_in}
use Rattle.im_select.specs.Selects.{if_any, accesses_in}
use Rattle.im_saved_code.proofs.Words.{Word, word_of}
use Rattle.im_keeps_built.specs.Cuts.{is_load, is_store, has_op, keeps_by, keeps_return, IsCaused}
use Rattle.im_keeps_built.proofs.Numbers.{In, Distinct}
use Rattle.im_keeps_built.proofs.ReasonsSelected.{SortedAt, JumpsNext, StoresWithin, CodeReason, CauseFits, FitLines}

-- line j of these is one for which P holds
abbrev pub AtLine : List RustLine → ℕ → (RustLine → Type 0) → Type 0
AtLine lines j P = (x : RustLine) × (slice_get lines j ≡ Some x) × P x

abbrev pub Keeps : RustLine → Type 0
Keeps x = keeps_return (Some (line_of x.instr)) ≡ true

abbrev pub Links : ℕ → RustLine → Type 0
Links r x = links r (Some (line_of x.instr)) ≡ true

abbrev pub Stores : RustLine → Type 0
Stores x = is_store x.instr.op ≡ true

-- the lines of a part show the cause of the cut that is line k
abbrev pub Shown : (Option ℕ → Type 0) → List RustLine → ℕ → Cause → Type 0
Shown Known lines k Entry = (j : ℕ) × (k ≡ suc j) × AtLine lines j Keeps
Shown Known lines k Back = ((j : ℕ) × (k ≡ suc j) × AtLine lines j (Links 1)) ⊎ AtLine lines (suc k) (Links 0)
Shown Known lines k Loop = AtLine lines (suc k) (Links 0)
Shown Known lines k Length = (j : ℕ) × ((k ≡ suc j) ⊎ (k ≡ suc (suc j))) × AtLine lines j Stores
Shown Known lines k Gap = Known None
Shown Known lines k (Dep read write) = Known (Some read) × ((j : ℕ) × (k < j) × (j ≤ k + 3) × AtLine lines j (λ x. (x.access ≡ Some write) × Stores x))

-- ---- from the lines one by one

jumps_there : (xs : List RustLine) → JumpsNext (code_lines xs) → AtLine xs 0 (Links 0)
jumps_there [] j = absurd j
jumps_there (x ∷ xs) j = (x, refl, j)

stores_there : (w : ℕ) (xs : List RustLine) (n : ℕ) → StoresWithin w (code_lines xs) n → (j : ℕ) × (j ≤ n) × AtLine xs j (λ x. (x.access ≡ Some w) × Stores x)
stores_there w [] n s = absurd s
stores_there w (x ∷ xs) zero s = (0, omega arith, (x, refl, s))
stores_there w (x ∷ xs) (suc n) (inl s) = (0, omega arith, (x, refl, s))
stores_there w (x ∷ xs) (suc n) (inr s) = let r = stores_there w xs n s in let le = r.1 in (suc r.0, omega arith, (r.2.0, r.2.1, r.2.2))

-- what is so of the instruction before line k is so of a line
abbrev Backs : List RustLine → ℕ → Option Instruction → Type 0
Backs whole k mark = (test : Option Instruction → Bool) → test None ≡ false → test mark ≡ true → (j : ℕ) × (k ≡ suc j) × AtLine whole j (λ x. test (Some (line_of x.instr)) ≡ true)

abbrev pub Aheads : List RustLine → ℕ → List RustLine → Type 0
Aheads whole n xs = (j : ℕ) (x : RustLine) → slice_get xs j ≡ Some x → slice_get whole (n + j) ≡ Some x

reason_shown : (Known : Option ℕ → Type 0) (whole rest : List RustLine) (k : ℕ) (mark : Option Instruction) → Backs whole k mark → Aheads whole (suc k) rest → (cause : Cause) → CodeReason Known mark (code_lines rest) cause → Shown Known whole k cause
reason_shown Known whole rest k mark back ahead Entry r = back keeps_return refl r
reason_shown Known whole rest k mark back ahead Back (inl e) = inl (back (links 1) refl e)
reason_shown Known whole rest k mark back ahead Back (inr e) =
    let t = jumps_there rest e in
    inr (t.0, subst (λ n. slice_get whole n ≡ Some t.0) (let q : suc k + 0 ≡ suc k = omega arith in q) (ahead 0 t.0 t.1), t.2)
reason_shown Known whole rest k mark back ahead Loop r =
    let t = jumps_there rest r in
    (t.0, subst (λ n. slice_get whole n ≡ Some t.0) (let q : suc k + 0 ≡ suc k = omega arith in q) (ahead 0 t.0 t.1), t.2)
reason_shown Known whole rest k mark back ahead Length r = absurd r
reason_shown Known whole rest k mark back ahead Gap r = r
reason_shown Known whole rest k mark back ahead (Dep read write) r =
    let t = stores_there write rest 2 r.1 in
    let le = t.1 in
    (r.0, (suc k + t.0, omega arith, omega arith, (t.2.0, ahead t.0 t.2.0 t.2.1, t.2.2)))

shown_from : (Known : Option ℕ → Type 0) (Writes : ℕ → Type 0) (whole xs : List RustLine) (n : ℕ) (mark : Option Instruction) → Backs whole n mark → Aheads whole n xs → FitLines Known Writes mark (code_lines xs) → (k m : ℕ) (line : RustLine) (cause : Cause) → m ≡ n + k → slice_get xs k ≡ Some line → line.cause ≡ Some cause → Shown Known whole m cause
shown_from Known Writes whole [] n mark back ahead f k m line cause q e c = absurd cc
shown_from Known Writes whole (x ∷ xs) n mark back ahead f zero m line cause q e c =
    let same : x ≡ line = cc in
    let here : n ≡ m = omega arith in
    let is : x.cause ≡ Some cause = ap (λ (z : RustLine). z.cause) same ∙ c in
    subst (λ z. Shown Known whole z cause) here
    (reason_shown Known whole xs n mark back (λ j y g. subst (λ z. slice_get whole z ≡ Some y) (let s : n + suc j ≡ suc n + j = omega arith in s) (ahead (suc j) y g)) cause
    (subst (λ o. CauseFits Known mark (code_lines xs) o) is f.0))
shown_from Known Writes whole (x ∷ xs) n mark back ahead f (suc k) m line cause q e c =
    let here : slice_get whole n ≡ Some x = subst (λ z. slice_get whole z ≡ Some x) (let s : n + 0 ≡ n = omega arith in s) (ahead 0 x refl) in
    shown_from Known Writes whole xs (suc n) (Some (line_of x.instr)) (λ test z t. (n, refl, (x, here, t)))
    (λ j y g. subst (λ z. slice_get whole z ≡ Some y) (let s : n + suc j ≡ suc n + j = omega arith in s) (ahead (suc j) y g))
    f.2 k m line cause (omega arith) e c

pub shown_at : (Known : Option ℕ → Type 0) (Writes : ℕ → Type 0) (lines : List RustLine) → FitLines Known Writes None (code_lines lines) → (k : ℕ) (line : RustLine) (cause : Cause) → slice_get lines k ≡ Some line → line.cause ≡ Some cause → Shown Known lines k cause
shown_at Known Writes lines f k line cause e c = shown_from Known Writes lines lines 0 None (λ test no yes. absurd cc) (λ j x g. subst (λ z. slice_get lines z ≡ Some x) (let s : j ≡ 0 + j = omega arith in s) g) f k k line cause (omega arith) e c

pub sorted_at : (Known : Option ℕ → Type 0) (Writes : ℕ → Type 0) (xs : List RustLine) (mark : Option Instruction) → FitLines Known Writes mark (code_lines xs) → (j : ℕ) (x : RustLine) (a : ℕ) → slice_get xs j ≡ Some x → x.access ≡ Some a → SortedAt Known Writes x.instr.op (Some a)
sorted_at Known Writes [] mark f j x a e is = absurd cc
sorted_at Known Writes (y ∷ ys) mark f zero x a e is =
    let same : y ≡ x = cc in
    let own : y.access ≡ Some a = ap (λ (z : RustLine). z.access) same ∙ is in
    subst (λ (z : RustLine). SortedAt Known Writes z.instr.op (Some a)) same (subst (λ o. SortedAt Known Writes y.instr.op o) own f.1)
sorted_at Known Writes (y ∷ ys) mark f (suc j) x a e is = sorted_at Known Writes ys (Some (line_of y.instr)) f.2 j x a e is

-- ---- no two lines are one access

more : (a : ℕ) (o : Option ℕ) (rest : List ℕ) → In a rest → In a (if_any o rest)
more a None rest h = h
more a (Some b) rest h = inr h

rest_distinct : (o : Option ℕ) (rest : List ℕ) → Distinct (if_any o rest) → Distinct rest
rest_distinct None rest d = d
rest_distinct (Some b) rest d = d.1

access_in : (xs : List RustLine) (j : ℕ) (x : RustLine) (a : ℕ) → slice_get xs j ≡ Some x → x.access ≡ Some a → In a (accesses_in (code_lines xs))
access_in [] j x a e is = absurd cc
access_in (y ∷ ys) zero x a e is =
    let same : y ≡ x = cc in
    subst (λ o. In a (if_any o (accesses_in (code_lines ys)))) (sym (ap (λ (z : RustLine). z.access) same ∙ is)) (inl refl)
access_in (y ∷ ys) (suc j) x a e is = more a y.access (accesses_in (code_lines ys)) (access_in ys j x a e is)

first_once : (ys : List RustLine) (y x : RustLine) (a j : ℕ) (z : RustLine) → Distinct (if_any y.access (accesses_in (code_lines ys))) → y ≡ x → x.access ≡ Some a → slice_get ys j ≡ Some z → z.access ≡ Some a → ⊥
first_once ys y x a j z d same is e g =
    let own = subst (λ o. Distinct (if_any o (accesses_in (code_lines ys)))) (ap (λ (q : RustLine). q.access) same ∙ is) d in
    own.0 (access_in ys j z a e g)

pub one_access : (xs : List RustLine) → Distinct (accesses_in (code_lines xs)) → (i j a : ℕ) (x y : RustLine) → slice_get xs i ≡ Some x → x.access ≡ Some a → slice_get xs j ≡ Some y → y.access ≡ Some a → i ≡ j
one_access [] d i j a x y e is g it = absurd cc
one_access (z ∷ zs) d zero zero a x y e is g it = refl
one_access (z ∷ zs) d zero (suc j) a x y e is g it = absurd (first_once zs z x a j y d (let same : z ≡ x = cc in same) is g it)
one_access (z ∷ zs) d (suc i) zero a x y e is g it = absurd (first_once zs z y a i x d (let same : z ≡ y = cc in same) it e is)
one_access (z ∷ zs) d (suc i) (suc j) a x y e is g it = ap suc (one_access zs (rest_distinct z.access (accesses_in (code_lines zs)) d) i j a x y e is g it)

-- ---- the words of a part's lines

module _ (parts : List Part) (words : List ℕ) (are : AreWordsOf (lines_of parts) words) (p : ℕ) (part : Part) (is_part : IsPart parts p part) where
  abbrev lines : List RustLine
  lines = part.lines.items

  abbrev first : ℕ
  first = first_of parts p

  word : (j : ℕ) (x : RustLine) → slice_get lines j ≡ Some x → Word (lines_of parts) words (first + j) x
  word j x e = word_of (lines_of parts) words (first + j) x are (line_in parts p j part x is_part e)

  keeps_word : (j : ℕ) (x : RustLine) → slice_get lines j ≡ Some x → keeps_return (instruction_at words (first + j)) ≡ keeps_return (Some (line_of x.instr))
  keeps_word j x e =
      let w = word j x e in
      ap keeps_return w.here ∙ ap (λ z. keeps_by z w.to.rs1 w.to.rs2) w.op ∙ ap (λ z. keeps_by x.instr.op z w.to.rs2) w.rs1 ∙ ap (λ z. keeps_by x.instr.op x.instr.rs1 z) w.rs2

  links_word : (r j : ℕ) (x : RustLine) → slice_get lines j ≡ Some x → links r (instruction_at words (first + j)) ≡ links r (Some (line_of x.instr))
  links_word r j x e = let w = word j x e in ap (links r) w.here ∙ ap (λ z. links_by z r w.to.rd) w.op ∙ ap (links_by x.instr.op r) w.rd

  op_word : (test : Op → Bool) (j : ℕ) (x : RustLine) → slice_get lines j ≡ Some x → has_op test (instruction_at words (first + j)) ≡ test x.instr.op
  op_word test j x e = let w = word j x e in ap (has_op test) w.here ∙ ap test w.op

  jumps_word : (k : ℕ) → AtLine lines (suc k) (Links 0) → links 0 (instruction_at words (suc (first + k))) ≡ true
  jumps_word k t =
      subst (λ n. links 0 (instruction_at words n) ≡ true) (let s : first + suc k ≡ suc (first + k) = omega arith in s) (links_word 0 (suc k) t.0 t.1 ∙ t.2)

  module _ (Known : Option ℕ → Type 0) (Writes : ℕ → Type 0) (sorted : (r : ℕ) → Known (Some r) → (j : ℕ) (x : RustLine) (a : ℕ) → slice_get lines j ≡ Some x → x.access ≡ Some a → SortedAt Known Writes x.instr.op (Some a)) (apart : (a : ℕ) → Known (Some a) → Writes a → ⊥) (one : (r : ℕ) → Known (Some r) → (i j a : ℕ) (x y : RustLine) → slice_get lines i ≡ Some x → x.access ≡ Some a → slice_get lines j ≡ Some y → y.access ≡ Some a → i ≡ j) where
    loads : (op : Op) (a : ℕ) → Known (Some a) → SortedAt Known Writes op (Some a) → is_load op ≡ true
    loads op a r (inl s) = s.1
    loads op a r (inr s) = absurd (apart a r s.0)

    by_cause : (k : ℕ) (placed : Cause) (cause : Cause) → IsPlacedCause lines first cause placed → Shown Known lines k cause → IsCaused words (first + k) placed
    by_cause k placed Entry q s =
        let e = s.1 in
        subst (IsCaused words (first + k)) (sym q) (first + s.0, omega arith, keeps_word s.0 s.2.0 s.2.1 ∙ s.2.2)
    by_cause k placed Back q (inl s) =
        let e = s.1 in
        subst (IsCaused words (first + k)) (sym q) (inl (first + s.0, links_word 1 s.0 s.2.0 s.2.1 ∙ s.2.2, omega arith))
    by_cause k placed Back q (inr s) = subst (IsCaused words (first + k)) (sym q) (inr (jumps_word k s))
    by_cause k placed Loop q s = subst (IsCaused words (first + k)) (sym q) (jumps_word k s)
    by_cause k placed Length q s =
        subst (IsCaused words (first + k)) (sym q)
        (first + s.0, elim s.1 [ inl e ↦ inl (omega arith) | inr e ↦ inr (omega arith) ], op_word is_store s.0 s.2.0 s.2.1 ∙ s.2.2)
    by_cause k placed Gap q s = subst (IsCaused words (first + k)) (sym q) tt
    by_cause k placed (Dep read write) q s =
        let r = q.reads in
        let w = q.writes in
        let at = s.1 in
        let more_than = at.1 in
        let most = at.2 in
        let x = at.3.0 in
        let same : at.0 ≡ q.write_at = one read s.0 at.0 q.write_at write x w.line at.3.1 at.3.2.0 w.is_line w.access in
        let load : is_load r.line.instr.op ≡ true = loads r.line.instr.op read s.0 (sorted read s.0 q.read_at r.line read r.is_line r.access) in
        let reads = op_word is_load q.read_at r.line r.is_line ∙ load in
        let writes = op_word is_store at.0 x at.3.1 ∙ at.3.2.1 in
        subst (IsCaused words (first + k)) (sym q.is)
        ((first + q.read_at, refl, reads), (first + at.0, ap (λ n. address (first + n)) (sym same), omega arith, omega arith, writes))

    -- a gap cut is told only where a longest gap was asked for
    asked_by : (k : ℕ) (placed : Cause) (cause : Cause) → IsPlacedCause lines first cause placed → Shown Known lines k cause → placed ≡ Gap → Known None
    asked_by k placed Entry q s g = absurd cc
    asked_by k placed Back q s g = absurd cc
    asked_by k placed Loop q s g = absurd cc
    asked_by k placed Length q s g = absurd cc
    asked_by k placed Gap q s g = s
    asked_by k placed (Dep read write) q s g = (let is = q.is in absurd cc)

    pub caused_at : ((k : ℕ) (line : RustLine) (cause : Cause) → slice_get lines k ≡ Some line → line.cause ≡ Some cause → Shown Known lines k cause) → (k : ℕ) (cut : Cut) → IsCutOf part first k cut → IsCaused words (first + k) cut.cause × (cut.cause ≡ Gap → Known None)
    caused_at shown k cut c =
        let s = shown k c.line c.cause c.is_line c.is_cause in
        (by_cause k cut.cause c.cause c.placed s, asked_by k cut.cause c.cause c.placed s)
