-- Cells as runs.
use Rattle.std.proofs.Common.{◌≡◌, ◌<◌, ◌≤◌, ℕ, zero, suc, ◌+◌, ◌*◌, ◌%◌, Bool, true, false, List, [], ◌∷◌, ◌++◌, Option, Some, None, length, refl, sym, ap, ◌∙◌, arith, add-one, append_assoc}
use Rattle.std.specs.Prelude.{slice_get, nat_le, ◌==◌, ◌&&◌, not, IsTrue, if◌then◌else◌}
use Rattle.std.specs.List.{flat_map}
use Rattle.std.proofs.lemmas.Bool.{leb-true, le-leb, eqb-true, eq-eqb, and_parts, and_from, not_from_false}
use Rattle.std.proofs.lemmas.List.{append-nil}
use Rattle.im_num.specs.declared.kind.Kind.{Kind}
use Rattle.im_num.specs.declared.kind.Kind.TheVariants.{I8, U8, I16, U16, I32, U32, Ptr}
use Rattle.im_num.specs.Kinds.{kind_size}
use Rattle.im_image.specs.declared.object.CellRun.{CellRun}
use Rattle.im_image.specs.Contents.{AreRuns, is_run, run_end, end_of, continues, kind_code}
use Rattle.im_image.specs.Faults.{kind_of}
use Rattle.im_ctype.specs.declared.cell.Cell.{Cell}
use Rattle.im_select_addresses.specs.Named.{cells_along, cells_of_run}
use Rattle.im_pack.specs.Objects.{one_cell, goes_on, longer, added, runs_with, runs_of}
use Rattle.im_pack.proofs.Cells.{AreFrom}

-- ---- kinds

kind_back : (k : Kind) → kind_of (kind_code k) ≡ k
kind_back I8 = refl
kind_back U8 = refl
kind_back I16 = refl
kind_back U16 = refl
kind_back I32 = refl
kind_back U32 = refl
kind_back Ptr = refl

same_kind : (k l : Kind) → kind_code k ≡ kind_code l → k ≡ l
same_kind k l e = sym (kind_back k) ∙ ap kind_of e ∙ kind_back l

one_more : (k : Kind) (n : ℕ) → (n + 1) * kind_size k ≡ n * kind_size k + kind_size k
one_more I8 n = omega arith
one_more U8 n = omega arith
one_more I16 n = omega arith
one_more U16 n = omega arith
one_more I32 n = omega arith
one_more U32 n = omega arith
one_more Ptr n = omega arith

one_alone : (k : Kind) → 1 * kind_size k ≡ kind_size k
one_alone I8 = refl
one_alone U8 = refl
one_alone I16 = refl
one_alone U16 = refl
one_alone I32 = refl
one_alone U32 = refl
one_alone Ptr = refl

even_at : (k : Kind) (a o : ℕ) → a % 4 ≡ 0 → o % kind_size k ≡ 0 → (a + o) % kind_size k ≡ 0
even_at I8 a o e f = omega arith
even_at U8 a o e f = omega arith
even_at I16 a o e f = omega arith
even_at U16 a o e f = omega arith
even_at I32 a o e f = omega arith
even_at U32 a o e f = omega arith
even_at Ptr a o e f = omega arith

-- ---- the cells of the runs

along_more : (k : Kind) (o n : ℕ) → cells_along k o (suc n) ≡ cells_along k o n ++ record { offset = o + n * kind_size k; kind = k } ∷ []
along_more k o zero = let e : o ≡ o + 0 * kind_size k = omega arith in ap (λ z. record { offset = z; kind = k } ∷ []) e
along_more k o (suc n) =
    let m = one_more k n in
    let e : o + kind_size k + n * kind_size k ≡ o + suc n * kind_size k = (let s : suc n * kind_size k ≡ (n + 1) * kind_size k = ap (λ z. z * kind_size k) (sym (add-one n)) in omega arith) in
    ap (λ cs. record { offset = o; kind = k } ∷ cs) (along_more k (o + kind_size k) n)
    ∙ ap (λ z. record { offset = o; kind = k } ∷ (cells_along k (o + kind_size k) n ++ record { offset = z; kind = k } ∷ [])) e

record Meets (run : CellRun) (c : Cell) : Type 0 where
  place : c.offset ≡ run_end run
  kind : c.kind ≡ run.kind

meets : (run : CellRun) (c : Cell) → goes_on run c ≡ true → Meets run c
meets run c t =
    let p = and_parts (c.offset == run_end run) (kind_code c.kind == kind_code run.kind) t in
    record { place = eqb-true _ _ p.0; kind = same_kind c.kind run.kind (eqb-true _ _ p.1) }

longer_cells : (run : CellRun) (c : Cell) → Meets run c → cells_of_run (longer run) ≡ cells_of_run run ++ c ∷ []
longer_cells run c m =
    let last : record { offset = run.offset + run.count * kind_size run.kind; kind = run.kind } ≡ c =
    ap (λ z. record { offset = z; kind = run.kind }) (sym m.place) ∙ ap (λ k. record { offset = c.offset; kind = k }) (sym m.kind) in
    ap (cells_along run.kind run.offset) (add-one run.count) ∙ along_more run.kind run.offset run.count
    ∙ ap (λ z. cells_along run.kind run.offset run.count ++ z ∷ []) last

added_cells : (runs : List CellRun) (c : Cell) → flat_map cells_of_run (added runs c) ≡ flat_map cells_of_run runs ++ c ∷ []
added_cells [] c = refl
added_cells (run ∷ []) c = by (goes_on run c) refl
  where
    by : (b : Bool) → goes_on run c ≡ b → flat_map cells_of_run (if b then longer run ∷ [] else run ∷ one_cell c ∷ []) ≡ (cells_of_run run ++ []) ++ c ∷ []
    by true t = append-nil (cells_of_run (longer run)) ∙ longer_cells run c (meets run c t) ∙ ap (λ cs. cs ++ c ∷ []) (sym (append-nil (cells_of_run run)))
    by false t = ap (λ cs. cs ++ c ∷ []) (sym (append-nil (cells_of_run run)))
added_cells (run ∷ next ∷ runs) c =
    ap (λ cs. cells_of_run run ++ cs) (added_cells (next ∷ runs) c)
    ∙ sym (append_assoc (cells_of_run run) (flat_map cells_of_run (next ∷ runs)) (c ∷ []))

with_cells : (cs : List Cell) (runs : List CellRun) → flat_map cells_of_run (runs_with runs cs) ≡ flat_map cells_of_run runs ++ cs
with_cells [] runs = sym (append-nil (flat_map cells_of_run runs))
with_cells (c ∷ cs) runs =
    with_cells cs (added runs c) ∙ ap (λ xs. xs ++ cs) (added_cells runs c) ∙ append_assoc (flat_map cells_of_run runs) (c ∷ []) cs

pub all_cells : (cells : List Cell) → flat_map cells_of_run (runs_of cells) ≡ cells
all_cells cells = with_cells cells []

-- ---- some run

added_some : (runs : List CellRun) (c : Cell) → 0 < length (added runs c)
added_some [] c = omega arith
added_some (run ∷ []) c = by (goes_on run c)
  where
    by : (b : Bool) → 0 < length (if b then longer run ∷ [] else run ∷ one_cell c ∷ [])
    by true = omega arith
    by false = omega arith
added_some (run ∷ next ∷ runs) c = omega arith

with_some : (cs : List Cell) (runs : List CellRun) → 0 < length runs → 0 < length (runs_with runs cs)
with_some [] runs h = h
with_some (c ∷ cs) runs h = with_some cs (added runs c) (added_some runs c)

pub some_run : (cells : List Cell) → 0 < length cells → 0 < length (runs_of cells)
some_run [] h = absurd (omega arith)
some_run (c ∷ cs) h = with_some cs (one_cell c ∷ []) (omega arith)

-- ---- the rules of runs

five : (p q r s t : Bool) → p ≡ true → q ≡ true → r ≡ true → s ≡ true → t ≡ true → (p && q && r && s && t) ≡ true
five p q r s t a b c d e = and_from _ _ (and_from _ _ (and_from _ _ (and_from _ _ a b) c) d) e

module _ (at size : ℕ) (even : at % 4 ≡ 0) where
  -- they meet the rules, and end by a place
  abbrev EndBy : Option CellRun → List CellRun → ℕ → Type 0
  EndBy before [] e = end_of before ≤ e
  EndBy before (run ∷ runs) e = IsTrue (is_run at size before run) × EndBy (Some run) runs e

  wider : (before : Option CellRun) (runs : List CellRun) (e f : ℕ) → e ≤ f → EndBy before runs e → EndBy before runs f
  wider before [] e f l h = omega arith
  wider before (run ∷ runs) e f l h = (h.0, wider (Some run) runs e f l h.1)

  right : (before : Option CellRun) (runs : List CellRun) (e : ℕ) → EndBy before runs e → AreRuns at size before runs
  right before [] e h = tt
  right before (run ∷ runs) e h = (h.0, right (Some run) runs e h.1)

  module _ (c : Cell) (fits : c.offset + kind_size c.kind ≤ size) (own : c.offset % kind_size c.kind ≡ 0) where
    one_is_run : (before : Option CellRun) → end_of before ≤ c.offset → continues before (one_cell c) ≡ false → IsTrue (is_run at size before (one_cell c))
    one_is_run before low none =
        let k = one_alone c.kind in
        let behind : nat_le (end_of before) c.offset ≡ true = le-leb _ _ low in
        let within : nat_le (run_end (one_cell c)) size ≡ true = le-leb _ _ (let q : run_end (one_cell c) ≤ size = omega arith in q) in
        let place : ((at + c.offset) % kind_size c.kind == 0) ≡ true = eq-eqb _ _ (even_at c.kind at c.offset even own) in
        let alone : not (continues before (one_cell c)) ≡ true = not_from_false _ none in
        five true (nat_le (end_of before) c.offset) (nat_le (run_end (one_cell c)) size) ((at + c.offset) % kind_size c.kind == 0) (not (continues before (one_cell c))) refl behind within place alone

    same_before : (before : Option CellRun) (run : CellRun) → not (continues before run) ≡ true → not (continues before (longer run)) ≡ true
    same_before None run h = h
    same_before (Some b) run h = h

    longer_is_run : (before : Option CellRun) (run : CellRun) → Meets run c → IsTrue (is_run at size before run) → IsTrue (is_run at size before (longer run))
    longer_is_run before run m h =
        let a : Bool = nat_le 1 run.count in
        let b : Bool = nat_le (end_of before) run.offset in
        let d : Bool = nat_le (run_end run) size in
        let e : Bool = (at + run.offset) % kind_size run.kind == 0 in
        let f : Bool = not (continues before run) in
        let p = and_parts (a && b && d && e) f h in
        let q = and_parts (a && b && d) e p.0 in
        let r = and_parts (a && b) d q.0 in
        let s = and_parts a b r.0 in
        let below : run_end run ≤ size = leb-true _ _ r.1 in
        let more = one_more run.kind run.count in
        let meet = m.place in
        let sizes : kind_size c.kind ≡ kind_size run.kind = ap kind_size m.kind in
        let some : nat_le 1 (run.count + 1) ≡ true = le-leb _ _ (let z : 1 ≤ run.count + 1 = omega arith in z) in
        let within : nat_le (run_end (longer run)) size ≡ true = le-leb _ _ (let z : run_end (longer run) ≤ size = omega arith in z) in
        let behind : nat_le (end_of before) run.offset ≡ true = s.1 in
        let place : ((at + run.offset) % kind_size run.kind == 0) ≡ true = q.1 in
        five (nat_le 1 (run.count + 1)) (nat_le (end_of before) run.offset) (nat_le (run_end (longer run)) size) ((at + run.offset) % kind_size run.kind == 0) (not (continues before (longer run))) some behind within place (same_before before run p.1)

    end_longer : (run : CellRun) → Meets run c → run_end (longer run) ≤ c.offset + kind_size c.kind
    end_longer run m =
        let more = one_more run.kind run.count in
        let place = m.place in
        let sizes : kind_size c.kind ≡ kind_size run.kind = ap kind_size m.kind in
        omega arith

    end_one : run_end (one_cell c) ≤ c.offset + kind_size c.kind
    end_one = let k = one_alone c.kind in omega arith

    added_right : (before : Option CellRun) (run : CellRun) (runs : List CellRun) → EndBy before (run ∷ runs) c.offset → EndBy before (added (run ∷ runs) c) (c.offset + kind_size c.kind)
    added_right before run [] h = by (goes_on run c) refl
      where
        by : (b : Bool) → goes_on run c ≡ b → EndBy before (if b then longer run ∷ [] else run ∷ one_cell c ∷ []) (c.offset + kind_size c.kind)
        by true t = (let m = meets run c t in (longer_is_run before run m h.0, end_longer run m))
        by false t = (h.0, (one_is_run (Some run) h.1 t, end_one))
    added_right before run (next ∷ runs) h = (h.0, added_right (Some run) next runs h.1)

    added_first : (runs : List CellRun) → EndBy None runs c.offset → EndBy None (added runs c) (c.offset + kind_size c.kind)
    added_first [] h = (one_is_run None (omega arith) refl, end_one)
    added_first (run ∷ runs) h = added_right None run runs h

  with_right : (cs : List Cell) (runs : List CellRun) (from : ℕ) → AreFrom from size cs → ((i : ℕ) (c : Cell) → slice_get cs i ≡ Some c → c.offset + kind_size c.kind ≤ size)
      → ((i : ℕ) (c : Cell) → slice_get cs i ≡ Some c → c.offset % kind_size c.kind ≡ 0) → EndBy None runs from → AreRuns at size None (runs_with runs cs)
  with_right [] runs from h inside own e = right None runs from e
  with_right (c ∷ cs) runs from h inside own e =
      with_right cs (added runs c) (c.offset + kind_size c.kind) h.1 (λ i d g. inside (suc i) d g) (λ i d g. own (suc i) d g)
      (added_first c (inside 0 c refl) (own 0 c refl) runs (wider None runs from c.offset h.0 e))

  pub are_runs : (cells : List Cell) → AreFrom 0 size cells → ((i : ℕ) (c : Cell) → slice_get cells i ≡ Some c → c.offset + kind_size c.kind ≤ size)
      → ((i : ℕ) (c : Cell) → slice_get cells i ≡ Some c → c.offset % kind_size c.kind ≡ 0) → AreRuns at size None (runs_of cells)
  are_runs cells h inside own = with_right cells [] 0 h inside own (omega arith)
