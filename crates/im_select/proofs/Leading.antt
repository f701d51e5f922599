-- Labels of a function's lines, and where its lines lead to.
use Rattle.std.proofs.Common.{◌≡◌, ◌<◌, ◌≤◌, ◌⊎◌, inl, inr, ℕ, suc, ◌+◌, ◌-◌, ◌^◌, Bool, true, false, List, [], ◌∷◌, ◌++◌, Option, Some, None, length, refl, sym, ap, ◌∙◌, subst, length-append, arith}
use Rattle.std.specs.Prelude.{◌&&◌, not, if◌then◌else◌, slice_get, All}
use Rattle.std.proofs.lemmas.List.Elements.{All-head, All-tail}
use Rattle.im_num.specs.declared.kind.Kind.TheVariants.{I8, U8, I16, U16, I32, U32, Ptr}
use Rattle.im_num.specs.Kinds.{word}
use Rattle.im_rv.specs.declared.instr.Op.TheVariants.{Jal}
use Rattle.im_rv.specs.Formats.{format_of}
use Rattle.im_rv.specs.Decode.{Line as Instruction}
use Rattle.im_rv.specs.Lines.{CodeLine, plain_line}
use Rattle.im_select_relation.specs.OperatorTables.{less_op}
use Rattle.im_store.specs.declared.operators.UnaryOp.TheVariants.{Negate, Complement}
use Rattle.im_store.specs.declared.operators.Comparison.TheVariants.{Less, Greater, LessOrEqual, GreaterOrEqual, Equal, NotEqual}
use Rattle.im_store.specs.Objects.{Name, Slot}
use Rattle.im_block.specs.declared.code.Line.{Line}
use Rattle.im_block.specs.declared.code.Line.TheVariants.{Put, PutNull, Copy, Convert, Unary, Not, Compute, Compare, Move, Distance as Measure, Address, Read, Write, Reload, Spill, Cut, Call, Serve}
use Rattle.im_block.specs.declared.code.Exit.{Exit}
use Rattle.im_block.specs.declared.code.Exit.TheVariants.{Jump, Turn, Branch, Return}
use Rattle.im_block.specs.declared.code.Block.{Block}
use Rattle.im_block.specs.Wellformed.{ExitThere}
use Rattle.im_select.specs.Given.{Given}
use Rattle.im_select.specs.declared.branching.Test.{Test}
use Rattle.im_select.specs.declared.distance.Distance.{Distance}
use Rattle.im_select.specs.declared.distance.Distance.TheVariants.{Near, Far}
use Rattle.im_select.specs.declared.folding.Constant.{Constant}
use Rattle.im_select.specs.Emitted.{constant_code, displaced_code, adds_code, place_number, place_code, copied_code, scaled_code, address_code, call_code, computed_code, constant_line, comparison_line, compared_code, comparison_rest, passed_by, by_or, stored_from, way_code, line_code, lines_code, behind_each, leave_code, result_code, onward_code, test_op, test_code, test_or, taken_test, own_lines, taking_code, is_next, branch_code, exit_code, is_empty, Laying, leads_of, next_label, found_code, laid_block, laid_code, laid_order, kept_order, blocks_code, enter_code, prologue_code, function_code, labelled, entry_label}
use Rattle.im_select.specs.Leads.{led}
use Rattle.im_select_relation.specs.Selected.{IsEntry}
use Rattle.im_select.specs.Places.{CallsBelow}
use Rattle.im_rtlib.specs.Routines.{service_label}
use Rattle.im_select.specs.Selects.{block_label, HasLabel, IsTarget, IsNear, LeadsTo, IsClosedBlock, laying_of}
use Rattle.im_select.proofs.Low.{there}
use Rattle.im_select.proofs.Following.{lead_below, lead_lead, kept_are, kept_all, kept_distinct}
use Rattle.im_select.proofs.Parts.{leads_in}
use Rattle.im_select.proofs.Taking.{takes, all_left, test_branches}
use Rattle.im_select.proofs.Ordering.{Among, Distinct, order_distinct, order_below, order_all}
use Rattle.im_select.proofs.Standing.{after, after_length}
use Rattle.im_select.proofs.Plain.{Bare, weighed_bare, constant_bare, displaced_bare, adds_bare, place_bare, copied_bare, scaled_bare, address_bare, bare_append, Lead, lead_append, bare_lead, lead_labelled, Unlabelled, unlabelled_append, bare_unlabelled, only_first, first_has, label_left, label_right, label_split, length_labelled}
use Rattle.im_select.proofs.Counting.{ended_some}
use Rattle.im_select.proofs.Laid.{starts_in, starts_of, first_start, later_start}

-- no label, and it leads to where it may
abbrev pub Sound : Given → List CodeLine → List CodeLine → Type 0
Sound names whole xs = Unlabelled xs × Lead names whole xs

bare : (names : Given) (whole xs : List CodeLine) → Bare xs → Sound names whole xs
bare names whole xs h = (bare_unlabelled xs h, bare_lead names whole xs h)

both : (names : Given) (whole xs ys : List CodeLine) → Sound names whole xs → Sound names whole ys → Sound names whole (xs ++ ys)
both names whole xs ys a b = (unlabelled_append xs ys a.0 b.0, lead_append names whole xs ys a.1 b.1)

-- a jump or a cut
leads : (names : Given) (whole : List CodeLine) (label : ℕ) (line : CodeLine) → line.line.op ≡ Jal → IsTarget names label → (l : ℕ) → Some label ≡ Some l → LeadsTo names whole line l
leads names whole label line far t l e = let same : label ≡ l = cc in record { far = inl far; to = subst (IsTarget names) same t }

-- a line with an access
silent : (names : Given) (whole : List CodeLine) (x : CodeLine) → x.label ≡ None → x.target ≡ None → Sound names whole (x ∷ [])
silent names whole x a b = ((a, tt), ((λ l e. absurd cc), tt))

line_sound : (names : Given) (whole : List CodeLine) (at : Name → ℕ) (m : ℕ) (line : Line) → IsEntry m → CallsBelow names.functions line → Sound names whole (line_code at m line)
line_sound names whole at m (Put to z) o h = bare names whole (constant_code to (word z)) (constant_bare to (word z))
line_sound names whole at m (PutNull to) o h = bare names whole (line_code at m (PutNull to)) (refl, tt)
line_sound names whole at m (Copy to from) o h = bare names whole (copied_code to from) (copied_bare to from)
line_sound names whole at m (Convert to I8 from) o h = bare names whole (line_code at m (Convert to I8 from)) (refl, (refl, tt))
line_sound names whole at m (Convert to U8 from) o h = bare names whole (line_code at m (Convert to U8 from)) (refl, tt)
line_sound names whole at m (Convert to I16 from) o h = bare names whole (line_code at m (Convert to I16 from)) (refl, (refl, tt))
line_sound names whole at m (Convert to U16 from) o h = bare names whole (line_code at m (Convert to U16 from)) (refl, (refl, tt))
line_sound names whole at m (Convert to I32 from) o h = bare names whole (copied_code to from) (copied_bare to from)
line_sound names whole at m (Convert to U32 from) o h = bare names whole (copied_code to from) (copied_bare to from)
line_sound names whole at m (Convert to Ptr from) o h = bare names whole (copied_code to from) (copied_bare to from)
line_sound names whole at m (Unary to Negate kind from) o h = bare names whole (line_code at m (Unary to Negate kind from)) (refl, tt)
line_sound names whole at m (Unary to Complement kind from) o h = bare names whole (line_code at m (Unary to Complement kind from)) (refl, tt)
line_sound names whole at m (Not to from) o h = bare names whole (line_code at m (Not to from)) (refl, tt)
line_sound names whole at m (Compute to op kind left right) o h = bare names whole (line_code at m (Compute to op kind left right)) (refl, tt)
line_sound names whole at m (Compare to Less kind left right) o h = bare names whole (line_code at m (Compare to Less kind left right)) (refl, tt)
line_sound names whole at m (Compare to Greater kind left right) o h = bare names whole (line_code at m (Compare to Greater kind left right)) (refl, tt)
line_sound names whole at m (Compare to LessOrEqual kind left right) o h = bare names whole (line_code at m (Compare to LessOrEqual kind left right)) (refl, (refl, tt))
line_sound names whole at m (Compare to GreaterOrEqual kind left right) o h = bare names whole (line_code at m (Compare to GreaterOrEqual kind left right)) (refl, (refl, tt))
line_sound names whole at m (Compare to Equal kind left right) o h = bare names whole (line_code at m (Compare to Equal kind left right)) (refl, (refl, tt))
line_sound names whole at m (Compare to NotEqual kind left right) o h = bare names whole (line_code at m (Compare to NotEqual kind left right)) (refl, (refl, tt))
line_sound names whole at m (Move to size back pointer by) o h = bare names whole (line_code at m (Move to size back pointer by)) (bare_append (scaled_code size by) _ (scaled_bare size by) (refl, tt))
line_sound names whole at m (Measure to size left right) o h = bare names whole (line_code at m (Measure to size left right)) (refl, bare_append (constant_code 6 size) _ (constant_bare 6 size) (refl, tt))
line_sound names whole at m (Address to place) o h = bare names whole (address_code to place (place_number at place)) (address_bare to place (place_number at place))
line_sound names whole at m (Read to place kind access) o h = both names whole (place_code place (place_number at place)) _ (bare names whole (place_code place (place_number at place)) (place_bare place (place_number at place))) (silent names whole _ refl refl)
line_sound names whole at m (Write place kind from access) o h = both names whole (place_code place (place_number at place)) _ (bare names whole (place_code place (place_number at place)) (place_bare place (place_number at place))) (silent names whole _ refl refl)
line_sound names whole at m (Reload to slot access) o h = both names whole (displaced_code 2 (at (Slot slot))) _ (bare names whole (displaced_code 2 (at (Slot slot))) (displaced_bare 2 (at (Slot slot)))) (silent names whole _ refl refl)
line_sound names whole at m (Spill slot from access) o h = both names whole (displaced_code 2 (at (Slot slot))) _ (bare names whole (displaced_code 2 (at (Slot slot))) (displaced_bare 2 (at (Slot slot)))) (silent names whole _ refl refl)
line_sound names whole at m (Cut cause) o h = ((refl, tt), ((λ l e. leads names whole m _ refl (inl o) l e), tt))
line_sound names whole at m (Call to i first count) o h = ((refl, tt), ((λ l e. leads names whole (entry_label i) _ refl (inr (inr (inr (inl (i, h, refl))))) l e), tt))
line_sound names whole at m (Serve to service from) o h = ((refl, tt), ((λ l e. leads names whole (service_label service) _ refl (inr (inl (service, refl))) l e), tt))

way_sound : (names : Given) (whole : List CodeLine) (at : Name → ℕ) (m : ℕ) (passed before : Option Constant) (line : Line) → IsEntry m → CallsBelow names.functions line → Sound names whole (way_code at m passed before line)
way_sound names whole at m None before (Put to z) o h = line_sound names whole at m (Put to z) o h
way_sound names whole at m (Some c) before (Put to z) o h = (tt, tt)
way_sound names whole at m None before (PutNull to) o h = line_sound names whole at m (PutNull to) o h
way_sound names whole at m (Some c) before (PutNull to) o h = (tt, tt)
way_sound names whole at m passed None (Compute to op kind left right) o h = line_sound names whole at m (Compute to op kind left right) o h
way_sound names whole at m passed (Some c) (Compute to op kind left right) o h = by (constant_line to op kind left right c)
  where
    by : (o : Option Instruction) → Sound names whole (by_or (computed_code to op kind left right) o [])
    by None = bare names whole (computed_code to op kind left right) (refl, tt)
    by (Some l) = bare names whole (plain_line l ∷ []) (refl, tt)
way_sound names whole at m passed None (Compare to op kind left right) o h = line_sound names whole at m (Compare to op kind left right) o h
way_sound names whole at m passed (Some c) (Compare to op kind left right) o h = by (comparison_line to op kind left right c)
  where
    by : (i : Option Instruction) → Sound names whole (by_or (compared_code to (less_op kind) left right op) i (comparison_rest to op c.word))
    by None = line_sound names whole at m (Compare to op kind left right) o h
    by (Some l) = bare names whole (plain_line l ∷ comparison_rest to op c.word) (refl, weighed_bare to op c.word)
way_sound names whole at m passed before (Write place kind from access) o h = line_sound names whole at m (Write place kind (stored_from before from) access) o h
way_sound names whole at m passed before line o h = line_sound names whole at m line o h

lines_sound : (names : Given) (whole : List CodeLine) (at : Name → ℕ) (m : ℕ → ℕ) (needed : ℕ → ℕ → Bool) (before : Option Constant) (j : ℕ) (lines : List Line) → ((j : ℕ) → IsEntry (m j)) → All (CallsBelow names.functions) lines → Sound names whole (lines_code at m needed before j lines)
lines_sound names whole at m needed before j [] o h = (tt, tt)
lines_sound names whole at m needed before j (line ∷ lines) o h =
    let passed : Option Constant = passed_by (needed (suc j)) line lines in
    both names whole (way_code at (m j) passed before line) (lines_code at m needed passed (suc j) lines) (way_sound names whole at (m j) passed before line (o j) (All-head (CallsBelow names.functions) line lines h)) (lines_sound names whole at m needed passed (suc j) lines o (All-tail (CallsBelow names.functions) line lines h))

block_target : (names : Given) (b : ℕ) → b < length names.function.blocks.items → IsTarget names (block_label names b)
block_target names b h = inr (inr (inr (inr (b, h, refl))))

jump_sound : (names : Given) (whole : List CodeLine) (b : ℕ) → b < length names.function.blocks.items → Sound names whole (call_code 0 (block_label names b))
jump_sound names whole b h = ((refl, tt), ((λ l e. leads names whole (block_label names b) _ refl (block_target names b h) l e), tt))

onward_sound : (names : Given) (whole : List CodeLine) (falls : Bool) (b : ℕ) → b < length names.function.blocks.items → Sound names whole (onward_code falls (block_label names b))
onward_sound names whole true b h = (tt, tt)
onward_sound names whole false b h = jump_sound names whole b h

-- near labels are those of few lines
abbrev pub IsFewWhere : Distance → List CodeLine → Type 0
IsFewWhere distance whole = distance ≡ Near → length whole ≤ 1023

near_leads : (names : Given) (whole : List CodeLine) (holds : Bool) (t : Test) (b : ℕ) (line : CodeLine) → line.line.op ≡ test_op holds t → length whole ≤ 1023 → b < length names.function.blocks.items → (l : ℕ) → Some (block_label names b) ≡ Some l → LeadsTo names whole line l
near_leads names whole holds t b line op few h l e =
    let same : block_label names b ≡ l = cc in
    let near : IsNear names whole line l = record { branches = ap format_of op ∙ test_branches holds t; few = few; block = (b, h, sym same) } in
    record { far = inr near; to = subst (IsTarget names) same (block_target names b h) }

test_sound : (names : Given) (whole : List CodeLine) (distance : Distance) (holds : Bool) (t : Test) (b : ℕ) → IsFewWhere distance whole → b < length names.function.blocks.items → Sound names whole (test_code distance holds t (block_label names b))
test_sound names whole Near holds t b few h = ((refl, tt), ((λ l e. near_leads names whole holds t b _ refl (few refl) h l e), tt))
test_sound names whole Far holds t b few h = let j = jump_sound names whole b h in ((refl, j.0), ((λ l e. absurd cc), j.1))

branch_sound : (names : Given) (whole : List CodeLine) (distance : Distance) (next : Option ℕ) (t : Test) (x y : ℕ) → IsFewWhere distance whole → x < length names.function.blocks.items → y < length names.function.blocks.items → Sound names whole (branch_code distance next t (block_label names x) (block_label names y))
branch_sound names whole distance next t x y few h i = by (is_next next (block_label names x))
  where
    by : (b : Bool) → Sound names whole (if b then test_code distance false t (block_label names y) else test_code distance true t (block_label names x) ++ onward_code (is_next next (block_label names y)) (block_label names y))
    by true = test_sound names whole distance false t y few i
    by false = both names whole (test_code distance true t (block_label names x)) (onward_code (is_next next (block_label names y)) (block_label names y)) (test_sound names whole distance true t x few h) (onward_sound names whole (is_next next (block_label names y)) y i)

exit_sound : (names : Given) (whole : List CodeLine) (distance : Distance) (next : Option ℕ) (bare_ : Bool) (frame : ℕ) (taken : Option Test) (exit : Exit) → IsFewWhere distance whole → ExitThere (length names.function.blocks.items) exit → Sound names whole (exit_code distance next bare_ names.first_block frame taken (led (leads_in names) exit))
exit_sound names whole distance next bare_ frame taken (Jump b) few h = onward_sound names whole (not bare_ && is_next next (block_label names b)) b h
exit_sound names whole distance next bare_ frame taken (Turn b) few h = jump_sound names whole b h
exit_sound names whole distance next bare_ frame taken (Branch on x y) few h = branch_sound names whole distance next (test_or taken on) x y few h.0 h.1
exit_sound names whole distance next bare_ frame taken (Return None) few h = bare names whole (result_code None ++ leave_code frame) (refl, (refl, bare_append (adds_code 2 frame) _ (adds_bare 2 frame) (refl, tt)))
exit_sound names whole distance next bare_ frame taken (Return (Some r)) few h = bare names whole (leave_code frame) (refl, bare_append (adds_code 2 frame) _ (adds_bare 2 frame) (refl, tt))

-- what is known of a function
pub record IsKnown (names : Given) (live : ℕ → ℕ → Bool) (distance : Distance) (whole : List CodeLine) : Type 0 where
  pub entries : (b j : ℕ) → IsEntry ((laying_of names live distance).cut b j)
  pub few : IsFewWhere distance whole
  pub closed : (b : ℕ) (block : Block) → slice_get names.function.blocks.items b ≡ Some block → IsClosedBlock names block

-- the body of a block, before it has its label
abbrev pub body : Laying → ℕ → Option ℕ → Block → List CodeLine
body laying b next block = taking_code laying.at (laying.cut b) (behind_each laying.live block.lines.items block.exit) laying.distance next laying.first laying.frame (taken_test laying.live block.lines.items block.exit) block.lines.items (led (leads_of laying) block.exit)

body_sound : (names : Given) (live : ℕ → ℕ → Bool) (distance : Distance) (whole : List CodeLine) (b : ℕ) (next : Option ℕ) (block : Block) → IsKnown names live distance whole → IsClosedBlock names block → Sound names whole (body (laying_of names live distance) b next block)
body_sound names live distance whole b next block k h =
    let laying : Laying = laying_of names live distance in
    let taken : Option Test = taken_test live block.lines.items block.exit in
    let own : List Line = own_lines taken block.lines.items in
    let t = takes live block.lines.items block.exit in
    let needed : ℕ → ℕ → Bool = behind_each live block.lines.items block.exit in
    let lines : List CodeLine = lines_code laying.at (laying.cut b) needed None 0 own in
    both names whole lines (exit_code distance next (is_empty lines) names.first_block names.layout.frame taken (led (leads_in names) block.exit)) (lines_sound names whole laying.at (laying.cut b) needed None 0 own (k.entries b) (all_left (CallsBelow names.functions) own t.tail (subst (All (CallsBelow names.functions)) (sym t.whole) h.calls))) (exit_sound names whole distance next (is_empty lines) names.layout.frame taken block.exit k.few h.edges)

found_lead : (names : Given) (live : ℕ → ℕ → Bool) (distance : Distance) (whole : List CodeLine) (b : ℕ) (next : Option ℕ) (block : Option Block) → IsKnown names live distance whole → ((x : Block) → block ≡ Some x → IsClosedBlock names x) → Lead names whole (found_code (laying_of names live distance) b next block)
found_lead names live distance whole b next None k h = tt
found_lead names live distance whole b next (Some block) k h = lead_labelled names whole (names.first_block + b) (body (laying_of names live distance) b next block) (body_sound names live distance whole b next block k (h block refl)).1

laid_lead : (names : Given) (live : ℕ → ℕ → Bool) (distance : Distance) (whole : List CodeLine) (order : List ℕ) → IsKnown names live distance whole → Lead names whole (laid_code (laying_of names live distance) order)
laid_lead names live distance whole [] k = tt
laid_lead names live distance whole (b ∷ rest) k =
    let laying : Laying = laying_of names live distance in
    lead_append names whole (laid_block laying b rest) (laid_code laying rest)
    (found_lead names live distance whole b (next_label names.first_block rest) (slice_get names.function.blocks.items b) k (λ x e. k.closed b x e))
    (laid_lead names live distance whole rest k)

enter_sound : (names : Given) (whole : List CodeLine) → Sound names whole enter_code
enter_sound names whole = (
  (refl, (refl, (refl, (refl, (refl, tt))))),
  ((λ l e. absurd cc), ((λ l e. absurd cc), ((λ l e. leads names whole 35 _ refl (inr (inr (inl refl))) l e), ((λ l e. absurd cc), ((λ l e. absurd cc), tt))))),
)

prologue_sound : (names : Given) (whole : List CodeLine) (frame : ℕ) → Sound names whole (prologue_code frame)
prologue_sound names whole frame = both names whole (adds_code 6 (2 ^ 32 - frame)) enter_code (bare names whole (adds_code 6 (2 ^ 32 - frame)) (adds_bare 6 (2 ^ 32 - frame))) (enter_sound names whole)

pub function_lead : (names : Given) (live : ℕ → ℕ → Bool) (distance : Distance) (whole : List CodeLine) (i : ℕ) → IsKnown names live distance whole → Lead names whole (function_code i (laying_of names live distance))
function_lead names live distance whole i k =
    let head : List CodeLine = prologue_code names.layout.frame in
    lead_append names whole (labelled (entry_label i) head) (blocks_code (laying_of names live distance))
    (lead_labelled names whole (entry_label i) head (prologue_sound names whole names.layout.frame).1)
    (laid_lead names live distance whole (kept_order (laying_of names live distance)) k)

-- ---- labels

pub record LabelIn (laying : Laying) (k : ℕ) (order : List ℕ) (j l : ℕ) : Type 0 where
  pub b : ℕ
  pub among : Among order b
  pub line : k + j ≡ starts_in laying k order b
  pub label : l ≡ laying.first + b

found_only : (names : Given) (live : ℕ → ℕ → Bool) (distance : Distance) (whole : List CodeLine) (b : ℕ) (next : Option ℕ) (block : Option Block) (j l : ℕ) → IsKnown names live distance whole → ((x : Block) → block ≡ Some x → IsClosedBlock names x) → HasLabel (found_code (laying_of names live distance) b next block) j l → (j ≡ 0) × (l ≡ names.first_block + b)
found_only names live distance whole b next None j l k h a = let e = a.there in absurd cc
found_only names live distance whole b next (Some block) j l k h a = only_first (body (laying_of names live distance) b next block) (names.first_block + b) j l (body_sound names live distance whole b next block k (h block refl)).0 a

laid_only : (names : Given) (live : ℕ → ℕ → Bool) (distance : Distance) (whole : List CodeLine) (k : ℕ) (order : List ℕ) (j l : ℕ) → IsKnown names live distance whole → Distinct order → HasLabel (laid_code (laying_of names live distance) order) j l → LabelIn (laying_of names live distance) k order j l
laid_only names live distance whole k [] j l known d h = let e = h.there in absurd cc
laid_only names live distance whole k (b ∷ rest) j l known d h =
    let laying : Laying = laying_of names live distance in
    let own : List CodeLine = laid_block laying b rest in
    elim (label_split own (laid_code laying rest) j l h) [
      | inl a ↦
          (let only = found_only names live distance whole b (next_label names.first_block rest) (slice_get names.function.blocks.items b) j l known (λ x e. known.closed b x e) a in
          let o0 = only.0 in
          record { b = b; among = inl refl; line = (let z : k + j ≡ k = omega arith in z ∙ sym (first_start laying k b rest)); label = only.1 })
      | inr a ↦
          (let r = laid_only names live distance whole (after k own) rest a.0 l known d.1 a.1 in
          let e = a.2 in
          let q = after_length k own in
          record { b = r.b; among = inr r.among; line = (let z : k + j ≡ after k own + a.0 = omega arith in z ∙ r.line ∙ sym (later_start laying k b rest r.b (d.0 r.b r.among))); label = r.label })
    ]

-- the label of block b stands at its start
pub record LabelThere (laying : Laying) (k : ℕ) (order : List ℕ) (b : ℕ) : Type 0 where
  pub j : ℕ
  pub has : HasLabel (laid_code laying order) j (laying.first + b)
  pub line : k + j ≡ starts_in laying k order b

found_has : (laying : Laying) (b : ℕ) (next : Option ℕ) (block : Option Block) (x : Block) → block ≡ Some x → HasLabel (found_code laying b next block) 0 (laying.first + b)
found_has laying b next None x e = absurd cc
found_has laying b next (Some block) x e = first_has (body laying b next block) (laying.first + b) (ended_some laying.distance next laying.first laying.frame (taken_test laying.live block.lines.items block.exit) (lines_code laying.at (laying.cut b) (behind_each laying.live block.lines.items block.exit) None 0 (own_lines (taken_test laying.live block.lines.items block.exit) block.lines.items)) (led (leads_of laying) block.exit))

laid_there : (laying : Laying) (k : ℕ) (order : List ℕ) (b : ℕ) (block : Block) → Distinct order → Among order b → slice_get laying.blocks b ≡ Some block → LabelThere laying k order b
laid_there laying k [] b block d a e = absurd a
laid_there laying k (x ∷ rest) b block d a e =
    let own : List CodeLine = laid_block laying x rest in
    elim a [
      | inl s ↦
          subst (LabelThere laying k (x ∷ rest)) s
          (record {
            j = 0;
            has = label_left own (laid_code laying rest) 0 (laying.first + x) (found_has laying x (next_label laying.first rest) (slice_get laying.blocks x) block (ap (slice_get laying.blocks) s ∙ e));
            line = (let z : k + 0 ≡ k = omega arith in z ∙ sym (first_start laying k x rest));
          })
      | inr r ↦
          (let t = laid_there laying (after k own) rest b block d.1 r e in
          let q = after_length k own in
          record {
            j = length own + t.j;
            has = label_right own (laid_code laying rest) t.j (length own + t.j) (laying.first + b) refl t.has;
            line = (let z : k + (length own + t.j) ≡ after k own + t.j = omega arith in z ∙ t.line ∙ sym (later_start laying k x rest b (d.0 b r)));
          })
    ]

pub function_only : (names : Given) (live : ℕ → ℕ → Bool) (distance : Distance) (whole : List CodeLine) (i : ℕ) → IsKnown names live distance whole → names.function.entry < length names.function.blocks.items → (k l : ℕ) → HasLabel (function_code i (laying_of names live distance)) k l → ((k ≡ 0) × (l ≡ entry_label i)) ⊎ ((b : ℕ) × (b < length names.function.blocks.items) × (k ≡ starts_of (laying_of names live distance) b) × (l ≡ names.first_block + b))
function_only names live distance whole i known h k l a =
    let laying : Laying = laying_of names live distance in
    let head : List CodeLine = prologue_code names.layout.frame in
    let entry : ℕ = names.function.entry in
    let count : ℕ = length names.function.blocks.items in
    let order : List ℕ = laid_order entry count in
    elim (label_split (labelled (entry_label i) head) (blocks_code laying) k l a) [
      | inl x ↦ inl (only_first head (entry_label i) k l (prologue_sound names whole names.layout.frame).0 x)
      | inr x ↦
          (let r = laid_only names live distance whole (after 0 head) (kept_order laying) x.0 l known (kept_distinct (leads_of laying) order (order_distinct entry count)) x.1 in
          let is = kept_are (leads_of laying) order r.b r.among in
          let e = x.2 in
          let q = after_length 0 head in
          let s = length_labelled (entry_label i) head in
          let at_start : starts_in laying (after 0 head) (kept_order laying) r.b ≡ starts_of laying r.b = ap (starts_in laying (after 0 head) (kept_order laying)) (sym is.1) in
          inr (r.b, order_below entry count h r.b is.0, (let z : k ≡ after 0 head + x.0 = omega arith in z ∙ r.line ∙ at_start), r.label))
    ]

pub function_entry : (i : ℕ) (laying : Laying) → HasLabel (function_code i laying) 0 (entry_label i)
function_entry i laying =
    let head : List CodeLine = prologue_code laying.frame in
    label_left (labelled (entry_label i) head) (blocks_code laying) 0 (entry_label i)
    (first_has head (entry_label i) (let e = length-append (adds_code 6 (2 ^ 32 - laying.frame)) enter_code in omega arith))

pub function_blocks : (i : ℕ) (laying : Laying) (b : ℕ) → b < length laying.blocks → HasLabel (function_code i laying) (starts_of laying b) (laying.first + leads_of laying b)
function_blocks i laying b h =
    let head : List CodeLine = prologue_code laying.frame in
    let rest : List CodeLine = blocks_code laying in
    let count : ℕ = length laying.blocks in
    let order : List ℕ = laid_order laying.entry count in
    let to : ℕ = leads_of laying b in
    let inside : to < count = lead_below laying.blocks laying.entry b count h in
    let block = there laying.blocks to inside in
    let among : Among (kept_order laying) to = kept_all (leads_of laying) order to (order_all laying.entry count to inside) (lead_lead laying.blocks laying.entry b) in
    let r = laid_there laying (after 0 head) (kept_order laying) to block.0 (kept_distinct (leads_of laying) order (order_distinct laying.entry count)) among block.1 in
    let q = after_length 0 head in
    let s = length_labelled (entry_label i) head in
    label_right (labelled (entry_label i) head) rest r.j (starts_of laying b) (laying.first + to) (sym r.line ∙ omega arith) r.has
