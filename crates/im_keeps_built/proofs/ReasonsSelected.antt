-- Selected lines of cuts have their reasons around them.
use Rattle.std.proofs.Common.{◌≡◌, ◌⊎◌, inl, inr, ℕ, zero, suc, ◌+◌, Bool, true, false, List, [], ◌∷◌, ◌++◌, Option, Some, None, refl, sym, ap, subst, append_assoc}
use Rattle.std.specs.Prelude.{not, ◌&&◌, ◌==◌, if◌then◌else◌}
use Rattle.im_num.specs.declared.kind.Kind.{Kind}
use Rattle.im_num.specs.declared.kind.Kind.TheVariants.{I8, U8, I16, U16, I32, U32, Ptr}
use Rattle.im_num.specs.declared.values.Cause.{Cause}
use Rattle.im_num.specs.declared.values.Cause.TheVariants.{Entry, Return as Back, Loop, Length, Gap, Dep}
use Rattle.im_num.specs.Kinds.{word}
use Rattle.im_rv.specs.declared.instr.Op.{Op}
use Rattle.im_rv.specs.declared.instr.Op.TheVariants.{Sw}
use Rattle.im_rv.specs.Decode.{Line as Instruction}
use Rattle.im_rv.specs.Lines.{CodeLine}
use Rattle.im_rv_reach.specs.Instructions.{storing, jumping}
use Rattle.im_gap.specs.Flow.{links}
use Rattle.im_rtlib.specs.Routines.{numbered}
use Rattle.im_store.specs.declared.operators.UnaryOp.TheVariants.{Negate, Complement}
use Rattle.im_store.specs.declared.operators.Comparison.TheVariants.{Less, Greater, LessOrEqual, GreaterOrEqual, Equal, NotEqual}
use Rattle.im_store.specs.Objects.{Name, Slot}
use Rattle.im_select_relation.specs.OperatorTables.{less_op, load_op, store_op}
use Rattle.im_block.specs.declared.code.Place.{Place}
use Rattle.im_block.specs.declared.code.Place.TheVariants.{Static, Local, Through}
use Rattle.im_block.specs.declared.code.Line.{Line}
use Rattle.im_block.specs.declared.code.Line.TheVariants.{Put, PutNull, Copy, Convert, Unary, Not, Compute, Compare, Move, Distance, Address, Read, Write, Reload, Spill, Cut, Call, Serve}
use Rattle.im_block.specs.declared.code.Exit.{Exit}
use Rattle.im_block.specs.declared.code.Exit.TheVariants.{Jump, Turn, Branch, Return}
use Rattle.im_alloc_placed.specs.Apart.{IsNoCut}
use Rattle.im_select.specs.Leads.{led}
use Rattle.im_select.specs.declared.branching.Test.{Test}
use Rattle.im_select.specs.declared.distance.Distance.{Distance as Reach}
use Rattle.im_select.specs.declared.distance.Distance.TheVariants.{Near, Far}
use Rattle.im_select.specs.declared.folding.Constant.{Constant}
use Rattle.im_select.specs.Emitted.{high_of, low_of, constant_code, displaced_by, displaced_code, displaced_base, adds_code, place_number, place_base, place_code, copied_code, scaled_code, address_code, computed_code, constant_line, comparison_line, compared_code, comparison_rest, passed_by, by_or, stored_from, way_code, line_code, lines_code, onward_code, test_code, test_or, is_next, branch_code, exit_code, result_code, leave_code, labelled}
use Rattle.im_select.proofs.Plain.{Bare, weighed_bare, constant_bare, displaced_bare, adds_bare, place_bare, copied_bare, scaled_bare, address_bare}
use Rattle.im_keeps_built.specs.Cuts.{is_load, is_store, keeps_return}
use Rattle.im_keeps_built.proofs.Reasons.{Before, Begins, Called, Anything, behind_line, IsTurn, EndsLoop, IsWrite, WritesNext, Reason, Fits, Reasoned}

-- ---- what is shown by the lines around a line

abbrev pub SortedAt : (Option ℕ → Type 0) → (ℕ → Type 0) → Op → Option ℕ → Type 0
SortedAt Known Writes op None = Unit {0}
SortedAt Known Writes op (Some a) = (Known (Some a) × (is_load op ≡ true)) ⊎ (Writes a × (is_store op ≡ true))

abbrev pub JumpsNext : List CodeLine → Type 0
JumpsNext [] = ⊥
JumpsNext (x ∷ xs) = links 0 (Some x.line) ≡ true

abbrev pub IsStoring : ℕ → CodeLine → Type 0
IsStoring w x = (x.access ≡ Some w) × (is_store x.line.op ≡ true)

-- the store with this number is one of the first lines, behind at most n others
abbrev pub StoresWithin : ℕ → List CodeLine → ℕ → Type 0
StoresWithin w [] n = ⊥
StoresWithin w (x ∷ xs) zero = IsStoring w x
StoresWithin w (x ∷ xs) (suc n) = IsStoring w x ⊎ StoresWithin w xs n

abbrev pub CodeReason : (Option ℕ → Type 0) → Option Instruction → List CodeLine → Cause → Type 0
CodeReason Known before rest Entry = keeps_return before ≡ true
CodeReason Known before rest Back = (links 1 before ≡ true) ⊎ JumpsNext rest
CodeReason Known before rest Loop = JumpsNext rest
CodeReason Known before rest Length = ⊥
CodeReason Known before rest Gap = Known None
CodeReason Known before rest (Dep read write) = Known (Some read) × StoresWithin write rest 2

abbrev pub CauseFits : (Option ℕ → Type 0) → Option Instruction → List CodeLine → Option Cause → Type 0
CauseFits Known before rest None = Unit {0}
CauseFits Known before rest (Some cause) = CodeReason Known before rest cause

-- lines behind an instruction
abbrev pub FitLines : (Option ℕ → Type 0) → (ℕ → Type 0) → Option Instruction → List CodeLine → Type 0
FitLines Known Writes before [] = Unit {0}
FitLines Known Writes before (x ∷ xs) = CauseFits Known before xs x.cause × SortedAt Known Writes x.line.op x.access × FitLines Known Writes (Some x.line) xs

-- lines without cuts
abbrev pub Calm : (Option ℕ → Type 0) → (ℕ → Type 0) → List CodeLine → Type 0
Calm Known Writes [] = Unit {0}
Calm Known Writes (x ∷ xs) = (x.cause ≡ None) × SortedAt Known Writes x.line.op x.access × Calm Known Writes xs

abbrev pub last_of : Option Instruction → List CodeLine → Option Instruction
last_of before [] = before
last_of before (x ∷ xs) = last_of (Some x.line) xs

-- the numbers of a line's accesses are known
abbrev pub Numbered : (Option ℕ → Type 0) → (ℕ → Type 0) → Line → Type 0
Numbered Known Writes (Read to place kind access) = Known (Some access)
Numbered Known Writes (Write place kind from access) = Writes access
Numbered Known Writes (Reload to slot access) = Known (Some access)
Numbered Known Writes (Spill slot from access) = Writes access
Numbered Known Writes line = Unit {0}

abbrev pub AreNumbered : (Option ℕ → Type 0) → (ℕ → Type 0) → List Line → Type 0
AreNumbered Known Writes [] = Unit {0}
AreNumbered Known Writes (line ∷ lines) = Numbered Known Writes line × AreNumbered Known Writes lines

load_is : (kind : Kind) → is_load (load_op kind) ≡ true
load_is I8 = refl
load_is U8 = refl
load_is I16 = refl
load_is U16 = refl
load_is I32 = refl
load_is U32 = refl
load_is Ptr = refl

store_is : (kind : Kind) → is_store (store_op kind) ≡ true
store_is I8 = refl
store_is U8 = refl
store_is I16 = refl
store_is U16 = refl
store_is I32 = refl
store_is U32 = refl
store_is Ptr = refl

module _ (Known : Option ℕ → Type 0) (Writes : ℕ → Type 0) where
  pub bare_calm : (xs : List CodeLine) → Bare xs → Calm Known Writes xs
  bare_calm [] h = tt
  bare_calm (x ∷ xs) h =
      (ap (λ (z : CodeLine). z.cause) h.0, subst (λ o. SortedAt Known Writes x.line.op o) (sym (ap (λ (z : CodeLine). z.access) h.0)) tt, bare_calm xs h.1)

  pub calm_append : (xs ys : List CodeLine) → Calm Known Writes xs → Calm Known Writes ys → Calm Known Writes (xs ++ ys)
  calm_append [] ys a b = b
  calm_append (x ∷ xs) ys a b = (a.0, a.1, calm_append xs ys a.2 b)

  pub calm_fit : (xs ys : List CodeLine) (before : Option Instruction) → Calm Known Writes xs → FitLines Known Writes (last_of before xs) ys → FitLines Known Writes before (xs ++ ys)
  calm_fit [] ys before c f = f
  calm_fit (x ∷ xs) ys before c f = (subst (λ o. CauseFits Known before (xs ++ ys) o) (sym c.0) tt, c.1, calm_fit xs ys (Some x.line) c.2 f)

  pub calm_alone : (xs : List CodeLine) (before : Option Instruction) → Calm Known Writes xs → FitLines Known Writes before xs
  calm_alone [] before c = tt
  calm_alone (x ∷ xs) before c = (subst (λ o. CauseFits Known before xs o) (sym c.0) tt, c.1, calm_alone xs (Some x.line) c.2)

  jumps_grown : (xs ys : List CodeLine) → JumpsNext xs → JumpsNext (xs ++ ys)
  jumps_grown [] ys j = absurd j
  jumps_grown (x ∷ xs) ys j = j

  stores_grown : (w : ℕ) (xs ys : List CodeLine) (n : ℕ) → StoresWithin w xs n → StoresWithin w (xs ++ ys) n
  stores_grown w [] ys n s = absurd s
  stores_grown w (x ∷ xs) ys zero s = s
  stores_grown w (x ∷ xs) ys (suc n) (inl s) = inl s
  stores_grown w (x ∷ xs) ys (suc n) (inr s) = inr (stores_grown w xs ys n s)

  grown : (before : Option Instruction) (xs ys : List CodeLine) (o : Option Cause) → CauseFits Known before xs o → CauseFits Known before (xs ++ ys) o
  grown before xs ys None f = tt
  grown before xs ys (Some Entry) f = f
  grown before xs ys (Some Back) (inl e) = inl e
  grown before xs ys (Some Back) (inr j) = inr (jumps_grown xs ys j)
  grown before xs ys (Some Loop) f = jumps_grown xs ys f
  grown before xs ys (Some Length) f = f
  grown before xs ys (Some Gap) f = f
  grown before xs ys (Some (Dep read write)) f = (f.0, stores_grown write xs ys 2 f.1)

  pub fit_append : (xs ys : List CodeLine) (before : Option Instruction) → FitLines Known Writes before xs → FitLines Known Writes (last_of before xs) ys → FitLines Known Writes before (xs ++ ys)
  fit_append [] ys before f g = g
  fit_append (x ∷ xs) ys before f g = (grown before xs ys x.cause f.0, f.1, fit_append xs ys (Some x.line) f.2 g)

  pub labelled_fit : (label : ℕ) (xs : List CodeLine) (before : Option Instruction) → FitLines Known Writes before xs → FitLines Known Writes before (labelled label xs)
  labelled_fit label [] before f = tt
  labelled_fit label (x ∷ xs) before f = f

  -- ---- lines of placed code but cuts

  stored_calm : (xs : List CodeLine) (access : ℕ) (l : Instruction) → Bare xs → Writes access → is_store l.op ≡ true → Calm Known Writes (xs ++ numbered access l ∷ [])
  stored_calm xs access l b w s = calm_append xs (numbered access l ∷ []) (bare_calm xs b) (refl, inr (w, s), tt)

  loaded_calm : (xs : List CodeLine) (access : ℕ) (l : Instruction) → Bare xs → Known (Some access) → is_load l.op ≡ true → Calm Known Writes (xs ++ numbered access l ∷ [])
  loaded_calm xs access l b r s = calm_append xs (numbered access l ∷ []) (bare_calm xs b) (refl, inl (r, s), tt)

  pub behind_calm : (xs ys : List CodeLine) → Bare xs → Bare ys → Calm Known Writes (xs ++ ys)
  behind_calm xs ys b c = calm_append xs ys (bare_calm xs b) (bare_calm ys c)

  line_calm : (at : Name → ℕ) (m : ℕ) (line : Line) → IsNoCut line → Numbered Known Writes line → Calm Known Writes (line_code at m line)
  line_calm at m (Put to z) uncut n = bare_calm (constant_code to (word z)) (constant_bare to (word z))
  line_calm at m (PutNull to) uncut n = (refl, tt, tt)
  line_calm at m (Copy to from) uncut n = bare_calm (copied_code to from) (copied_bare to from)
  line_calm at m (Convert to I8 from) uncut n = (refl, tt, (refl, tt, tt))
  line_calm at m (Convert to U8 from) uncut n = (refl, tt, tt)
  line_calm at m (Convert to I16 from) uncut n = (refl, tt, (refl, tt, tt))
  line_calm at m (Convert to U16 from) uncut n = (refl, tt, (refl, tt, tt))
  line_calm at m (Convert to I32 from) uncut n = bare_calm (copied_code to from) (copied_bare to from)
  line_calm at m (Convert to U32 from) uncut n = bare_calm (copied_code to from) (copied_bare to from)
  line_calm at m (Convert to Ptr from) uncut n = bare_calm (copied_code to from) (copied_bare to from)
  line_calm at m (Unary to Negate kind from) uncut n = (refl, tt, tt)
  line_calm at m (Unary to Complement kind from) uncut n = (refl, tt, tt)
  line_calm at m (Not to from) uncut n = (refl, tt, tt)
  line_calm at m (Compute to op kind left right) uncut n = (refl, tt, tt)
  line_calm at m (Compare to Less kind left right) uncut n = (refl, tt, tt)
  line_calm at m (Compare to Greater kind left right) uncut n = (refl, tt, tt)
  line_calm at m (Compare to LessOrEqual kind left right) uncut n = (refl, tt, (refl, tt, tt))
  line_calm at m (Compare to GreaterOrEqual kind left right) uncut n = (refl, tt, (refl, tt, tt))
  line_calm at m (Compare to Equal kind left right) uncut n = (refl, tt, (refl, tt, tt))
  line_calm at m (Compare to NotEqual kind left right) uncut n = (refl, tt, (refl, tt, tt))
  line_calm at m (Move to size back pointer by) uncut n = behind_calm (scaled_code size by) _ (scaled_bare size by) (refl, tt)
  line_calm at m (Distance to size left right) uncut n = (refl, tt, behind_calm (constant_code 6 size) _ (constant_bare 6 size) (refl, tt))
  line_calm at m (Address to place) uncut n = bare_calm (address_code to place (place_number at place)) (address_bare to place (place_number at place))
  line_calm at m (Read to place kind access) uncut n = loaded_calm (place_code place (place_number at place)) access _ (place_bare place (place_number at place)) n (load_is kind)
  line_calm at m (Write place kind from access) uncut n = stored_calm (place_code place (place_number at place)) access _ (place_bare place (place_number at place)) n (store_is kind)
  line_calm at m (Reload to slot access) uncut n = loaded_calm (displaced_code 2 (at (Slot slot))) access _ (displaced_bare 2 (at (Slot slot))) n refl
  line_calm at m (Spill slot from access) uncut n = stored_calm (displaced_code 2 (at (Slot slot))) access _ (displaced_bare 2 (at (Slot slot))) n refl
  line_calm at m (Cut cause) uncut n = absurd (uncut tt)
  line_calm at m (Call to i first count) uncut n = (refl, tt, tt)
  line_calm at m (Serve to service from) uncut n = (refl, tt, tt)

  way_calm : (at : Name → ℕ) (m : ℕ) (passed before : Option Constant) (line : Line) → IsNoCut line → Numbered Known Writes line → Calm Known Writes (way_code at m passed before line)
  way_calm at m None before (Put to z) uncut n = line_calm at m (Put to z) uncut n
  way_calm at m (Some c) before (Put to z) uncut n = tt
  way_calm at m None before (PutNull to) uncut n = line_calm at m (PutNull to) uncut n
  way_calm at m (Some c) before (PutNull to) uncut n = tt
  way_calm at m passed None (Compute to op kind left right) uncut n = line_calm at m (Compute to op kind left right) uncut n
  way_calm at m passed (Some c) (Compute to op kind left right) uncut n = by (constant_line to op kind left right c)
    where
      by : (o : Option Instruction) → Calm Known Writes (by_or (computed_code to op kind left right) o [])
      by None = (refl, tt, tt)
      by (Some l) = (refl, tt, tt)
  way_calm at m passed None (Compare to op kind left right) uncut n = line_calm at m (Compare to op kind left right) uncut n
  way_calm at m passed (Some c) (Compare to op kind left right) uncut n = by (comparison_line to op kind left right c)
    where
      by : (o : Option Instruction) → Calm Known Writes (by_or (compared_code to (less_op kind) left right op) o (comparison_rest to op c.word))
      by None = line_calm at m (Compare to op kind left right) uncut n
      by (Some l) = (refl, tt, bare_calm (comparison_rest to op c.word) (weighed_bare to op c.word))
  way_calm at m passed before (Write place kind from access) uncut n = line_calm at m (Write place kind (stored_from before from) access) uncut n
  way_calm at m passed before line uncut n = line_calm at m line uncut n

  -- ---- the ends of blocks

  onward_calm : (falls : Bool) (label : ℕ) → Calm Known Writes (onward_code falls label)
  onward_calm true label = tt
  onward_calm false label = (refl, tt, tt)

  test_calm : (distance : Reach) (holds : Bool) (t : Test) (label : ℕ) → Calm Known Writes (test_code distance holds t label)
  test_calm Near holds t label = (refl, tt, tt)
  test_calm Far holds t label = (refl, tt, (refl, tt, tt))

  branch_calm : (distance : Reach) (next : Option ℕ) (t : Test) (there other : ℕ) → Calm Known Writes (branch_code distance next t there other)
  branch_calm distance next t there other = by (is_next next there)
    where
      rest : List CodeLine
      rest = onward_code (is_next next other) other

      by : (q : Bool) → Calm Known Writes (if q then test_code distance false t other else test_code distance true t there ++ rest)
      by true = test_calm distance false t other
      by false = calm_append (test_code distance true t there) rest (test_calm distance true t there) (onward_calm (is_next next other) other)

  leave_calm : (frame : ℕ) → Calm Known Writes (leave_code frame)
  leave_calm frame = (refl, tt, behind_calm (adds_code 2 frame) _ (adds_bare 2 frame) (refl, tt))

  result_calm : (from : Option ℕ) → Calm Known Writes (result_code from)
  result_calm None = (refl, tt, tt)
  result_calm (Some r) = tt

  exit_calm : (distance : Reach) (next : Option ℕ) (bare : Bool) (first frame : ℕ) (taken : Option Test) (exit : Exit) → Calm Known Writes (exit_code distance next bare first frame taken exit)
  exit_calm distance next bare first frame taken (Jump b) = onward_calm (not bare && is_next next (first + b)) (first + b)
  exit_calm distance next bare first frame taken (Turn b) = (refl, tt, tt)
  exit_calm distance next bare first frame taken (Branch on x y) = branch_calm distance next (test_or taken on) (first + x) (first + y)
  exit_calm distance next bare first frame taken (Return from) = calm_append (result_code from) (leave_code frame) (result_calm from) (leave_calm frame)

pub exit_fits : (Known : Option ℕ → Type 0) (Writes : ℕ → Type 0) (distance : Reach) (next : Option ℕ) (bare : Bool) (first frame : ℕ) (taken : Option Test) (exit : Exit) (before : Option Instruction) → FitLines Known Writes before (exit_code distance next bare first frame taken exit)
exit_fits Known Writes distance next bare first frame taken exit before =
    calm_alone Known Writes (exit_code distance next bare first frame taken exit) before (exit_calm Known Writes distance next bare first frame taken exit)

pub exit_jumps : (distance : Reach) (next : Option ℕ) (bare : Bool) (first frame : ℕ) (taken : Option Test) (leads : ℕ → ℕ) (exit : Exit) → IsTurn exit → JumpsNext (exit_code distance next bare first frame taken (led leads exit))
exit_jumps distance next bare first frame taken leads (Jump b) t = absurd t
exit_jumps distance next bare first frame taken leads (Turn b) t = refl
exit_jumps distance next bare first frame taken leads (Branch on x y) t = absurd t
exit_jumps distance next bare first frame taken leads (Return from) t = absurd t

-- ---- the lines of a block

abbrev pub Agrees : Before → Option Instruction → Type 0
Agrees Begins mark = keeps_return mark ≡ true
Agrees Called mark = links 1 mark ≡ true
Agrees Anything mark = Unit {0}

-- a write's store is behind the lines of its place
displaced_stores : (small : Bool) (r hi w : ℕ) (x : CodeLine) (rest : List CodeLine) → IsStoring w x → StoresWithin w (displaced_by small r hi ++ x ∷ rest) 2
displaced_stores true r hi w x rest s = inl s
displaced_stores false r hi w x rest s = inr (inr s)

place_stores : (place : Place) (n w : ℕ) (x : CodeLine) (rest : List CodeLine) → IsStoring w x → StoresWithin w (place_code place n ++ x ∷ rest) 2
place_stores (Static object offset) n w x rest s = inr (inl s)
place_stores (Local object offset) n w x rest s = displaced_stores (high_of n == 0) 2 (high_of n) w x rest s
place_stores (Through r offset) n w x rest s = displaced_stores (high_of n == 0) r (high_of n) w x rest s

write_stores : (at : Name → ℕ) (m : ℕ) (passed before : Option Constant) (line : Line) (w : ℕ) (rest : List CodeLine) → IsWrite w line → StoresWithin w (way_code at m passed before line ++ rest) 2
write_stores at m passed before (Write place kind from access) w rest e =
    let n : ℕ = place_number at place in
    let x : CodeLine = numbered access (storing (store_op kind) (place_base place n) (stored_from before from) (low_of n)) in
    subst (λ l. StoresWithin w l 2) (sym (append_assoc (place_code place n) (x ∷ []) rest)) (place_stores place n w x rest (ap (λ z. Some z) e, store_is kind))
write_stores at m passed before (Spill slot from access) w rest e =
    let n : ℕ = at (Slot slot) in
    let x : CodeLine = numbered access (storing Sw (displaced_base 2 n) from (low_of n)) in
    subst (λ l. StoresWithin w l 2) (sym (append_assoc (displaced_code 2 n) (x ∷ []) rest)) (displaced_stores (high_of n == 0) 2 (high_of n) w x rest (ap (λ z. Some z) e, refl))
write_stores at m passed before line w rest e = absurd e

module _ (Known : Option ℕ → Type 0) (Writes : ℕ → Type 0) (at : Name → ℕ) (m : ℕ → ℕ) (needed : ℕ → ℕ → Bool) (exit : Exit) (ends : List CodeLine) (turn : IsTurn exit → JumpsNext ends) (fits : (mark : Option Instruction) → FitLines Known Writes mark ends) where
  -- what stands behind a line
  abbrev behind : Option Constant → ℕ → List Line → List CodeLine
  behind passed j lines = lines_code at m needed passed j lines ++ ends

  behind_turn : (passed : Option Constant) (j : ℕ) (lines : List Line) → EndsLoop lines exit → JumpsNext (behind passed j lines)
  behind_turn passed j [] e = turn e
  behind_turn passed j (line ∷ lines) e = absurd e

  behind_write : (w : ℕ) (passed : Option Constant) (j : ℕ) (lines : List Line) → WritesNext w lines → StoresWithin w (behind passed j lines) 2
  behind_write w passed j [] e = absurd e
  behind_write w passed j (line ∷ lines) e =
      let next : Option Constant = passed_by (needed (suc j)) line lines in
      let own : List CodeLine = way_code at (m j) next passed line in
      let rest : List CodeLine = lines_code at m needed next (suc j) lines in
      subst (λ l. StoresWithin w l 2) (sym (append_assoc own rest ends)) (write_stores at (m j) next passed line w (rest ++ ends) e)

  reason : (before : Before) (mark : Option Instruction) (passed : Option Constant) (j : ℕ) (lines : List Line) (cause : Cause) → Agrees before mark → Reason Known before lines exit cause → CodeReason Known mark (behind passed j lines) cause
  reason before mark passed j lines Entry a r = subst (λ b. Agrees b mark) r a
  reason before mark passed j lines Back a (inl e) = inl (subst (λ b. Agrees b mark) e a)
  reason before mark passed j lines Back a (inr e) = inr (behind_turn passed j lines e)
  reason before mark passed j lines Loop a r = behind_turn passed j lines r
  reason before mark passed j lines Length a r = absurd r
  reason before mark passed j lines Gap a r = r
  reason before mark passed j lines (Dep read write) a r = (r.0, behind_write write passed j lines r.1)

  step : (before : Before) (mark : Option Instruction) (next passed : Option Constant) (k j : ℕ) (line : Line) (lines : List Line) → Agrees before mark → Fits Known before lines exit line → Numbered Known Writes line → ((after : Option Instruction) → Agrees (behind_line line) after → FitLines Known Writes after (behind next j lines)) → FitLines Known Writes mark (way_code at k next passed line ++ behind next j lines)
  step before mark next passed k j (Cut cause) lines a f n g = (reason before mark next j lines cause a f, tt, g (Some (jumping 3 0)) tt)
  step before mark next passed k j (Call to i first count) lines a f n g = (tt, tt, g (Some (jumping 1 0)) refl)
  step before mark next passed k j (Serve to service from) lines a f n g = (tt, tt, g (Some (jumping 1 0)) refl)
  step before mark next passed k j line lines a f n g =
      let own : List CodeLine = way_code at k next passed line in
      calm_fit Known Writes own (behind next j lines) mark (way_calm Known Writes at k next passed line (λ c. c) n) (g (last_of mark own) tt)

  pub lines_fit : (before : Before) (mark : Option Instruction) (passed : Option Constant) (j : ℕ) (lines : List Line) → Agrees before mark → Reasoned Known exit before lines → AreNumbered Known Writes lines → FitLines Known Writes mark (lines_code at m needed passed j lines ++ ends)
  lines_fit before mark passed j [] a r n = fits mark
  lines_fit before mark passed j (line ∷ lines) a r n =
      let next : Option Constant = passed_by (needed (suc j)) line lines in
      let own : List CodeLine = way_code at (m j) next passed line in
      let rest : List CodeLine = lines_code at m needed next (suc j) lines in
      subst (λ l. FitLines Known Writes mark l) (sym (append_assoc own rest ends))
      (step before mark next passed (m j) (suc j) line lines a r.0 n.0 (λ after b. lines_fit (behind_line line) after next (suc j) lines b r.1 n.1))
