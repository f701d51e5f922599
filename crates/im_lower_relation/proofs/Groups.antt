-- A struct is copied in groups of its cells, where those that are still to be read aren't among those that are written.
use Rattle.std.proofs.Common.{◌≡◌, ◌⊎◌, inl, inr, ℕ, zero, suc, ◌+◌, ◌-◌, ◌<◌, ◌≤◌, ◌==◌, ◌&&◌, max, Bool, true, false, not, nat_lt, List, [], ◌∷◌, ◌++◌, length, take, drop, refl, sym, ap, ◌∙◌, subst, arith}
use Rattle.std.specs.Prelude.{Some, slice_get, if◌then◌else◌, sum_by}
use Rattle.std.proofs.lemmas.Bool.{eqb-true, eqb-false, ltb-false}
use Rattle.std.proofs.lemmas.List.Sums.{sum_by-cons}
use Rattle.im_num.specs.declared.kind.Kind.{Kind}
use Rattle.im_num.specs.Kinds.{kind_size}
use Rattle.im_ctype.specs.declared.cell.Cell.{Cell}
use Rattle.im_store.specs.declared.undefined.Undefined.TheVariants.{NoSuchCell, PartialOverlap}
use Rattle.im_store.specs.Checks.{Fine, Bad, then_}
use Rattle.im_store.specs.Objects.{Object, Value, Number, Null, Pointer, Unset, Shape, shape_of, kind_at, Store, same_object}
use Rattle.im_store.specs.Pointers.{overlap_in_part}
use Rattle.im_store.specs.Access.{has_cell, stands, taken, read_cell, read_cells, write_cell, write_cells, with_value}
use Rattle.im_store.proofs.Same.{same_object-is, same_object-self, both-true, stands-there}
use Rattle.im_typed.specs.Program.{Prog, Func, LocalObject, Struct}
use Rattle.im_typed.specs.Programs.{first_object}
use Rattle.im_typed.specs.Runs as typed
use Rattle.im_typed.specs.Values.{Values, extent, source_for, write_at}
use Rattle.im_typed.specs.Typing.{Each, AreLaidOut, StandAmong, kinds_of}
use Rattle.im_typed.specs.Sound.{AreValues}
use Rattle.im_typed.proofs.Sounds.{then-fine, unless-fine}
use Rattle.im_typed.proofs.SoundCalls.{by-test, if-true, if-false}
use Rattle.im_block.specs.declared.code.Place.{Place}
use Rattle.im_block.specs.declared.unit.Unit.{Unit as Code}
use Rattle.im_block.specs.Meaning as m
use Rattle.im_block.specs.Meaning.{Setting, State}
use Rattle.im_lower_relation.specs.Codes.{Point, writes_of, CodesGroup, CodesGroups, all_objects, fills}
use Rattle.im_lower_relation.specs.Agrees.{Agrees, Home, Mark, at, Reaches, Does, HasCellsOf}
use Rattle.im_lower_relation.proofs.Steps.{further, does-later, does-checked}
use Rattle.im_lower_relation.proofs.Stores.{taken-kept}
use Rattle.im_lower_relation.proofs.Uses.{taken-same, stands as stands_there}
use Rattle.im_lower_relation.proofs.Layouts.{some-size, laid-end, cells-from}
use Rattle.im_lower_relation.proofs.Structs.{read-parts, stood-taken, all-taken, all-read, writes-shape, dropped-cells, read-back, each-later, reads, writes, Copied}

-- cells in order

each-dropped : (P : Cell → Type 0) (k : ℕ) (cells : List Cell) → Each P cells → Each P (drop k cells)
each-dropped P zero cells h = h
each-dropped P (suc k) [] h = tt
each-dropped P (suc k) (c ∷ cs) h = each-dropped P k cs h.1

-- each cell of a struct begins before the end of them
all-below : (n : ℕ) (cells : List Cell) → extent cells ≤ n → Each {A = Cell} (λ c. c.offset < n) cells
all-below n [] le = tt
all-below n (c ∷ cs) le = let some = some-size c.kind in (omega arith, all-below n cs (omega arith))

each-both : (P Q : Cell → Type 0) (cells : List Cell) → Each P cells → Each Q cells → Each (λ c. P c × Q c) cells
each-both P Q [] h k = tt
each-both P Q (c ∷ cs) h k = ((h.0, k.0), each-both P Q cs h.1 k.1)

abbrev Before : List Cell → Cell → Type 0
Before cells d = Each {A = Cell} (λ c. c.offset < d.offset) cells

-- each of the cells that are left has a larger offset than each of the first ones
split-ordered : (k from size : ℕ) (cells : List Cell) → AreLaidOut from size cells → Each (Before (take k cells)) (drop k cells)
split-ordered zero from size cells h = all-behind cells
  where
    all-behind : (cells : List Cell) → Each (Before []) cells
    all-behind [] = tt
    all-behind (c ∷ cs) = (tt, all-behind cs)
split-ordered (suc k) from size [] h = tt
split-ordered (suc k) from size (c ∷ cs) h =
    let some = some-size c.kind in
    let far : Each {A = Cell} (λ d. c.offset < d.offset) cs = each-later (c.offset + kind_size c.kind) c.offset cs (omega arith) (cells-from (c.offset + kind_size c.kind) size cs h.2) in
    each-both (λ d. c.offset < d.offset) (Before (take k cs)) (drop k cs) (each-dropped (λ d. c.offset < d.offset) k cs far) (split-ordered k (c.offset + kind_size c.kind) size cs h.2)

laid-dropped : (k from size : ℕ) (cells : List Cell) → AreLaidOut from size cells → (start : ℕ) × AreLaidOut start size (drop k cells)
laid-dropped zero from size cells h = (from, h)
laid-dropped (suc k) from size [] h = (from, h)
laid-dropped (suc k) from size (c ∷ cs) h = laid-dropped k (c.offset + kind_size c.kind) size cs h.2

-- values in order

values-first : (k begun : ℕ) (store : Store) (cells : List Cell) (vs : Values) → AreValues begun store (kinds_of cells) vs → AreValues begun store (kinds_of (take k cells)) (take k vs)
values-first zero begun store [] [] h = tt
values-first zero begun store [] (v ∷ vs) h = absurd h
values-first zero begun store (c ∷ cs) [] h = absurd h
values-first zero begun store (c ∷ cs) (v ∷ vs) h = tt
values-first (suc k) begun store [] [] h = tt
values-first (suc k) begun store [] (v ∷ vs) h = absurd h
values-first (suc k) begun store (c ∷ cs) [] h = absurd h
values-first (suc k) begun store (c ∷ cs) (v ∷ vs) h = (h.0, values-first k begun store cs vs h.1)

values-left : (k begun : ℕ) (store : Store) (cells : List Cell) (vs : Values) → AreValues begun store (kinds_of cells) vs → AreValues begun store (kinds_of (drop k cells)) (drop k vs)
values-left zero begun store cells vs h = h
values-left (suc k) begun store [] [] h = tt
values-left (suc k) begun store [] (v ∷ vs) h = absurd h
values-left (suc k) begun store (c ∷ cs) [] h = absurd h
values-left (suc k) begun store (c ∷ cs) (v ∷ vs) h = values-left k begun store cs vs h.1

-- reads and writes of the first cells, and of the others

first-cells : (k : ℕ) (store : Store) (o : Object) (i : ℕ) (cells : List Cell) (vs : Values) → read_cells store o i cells ≡ Fine vs → read_cells store o i (take k cells) ≡ Fine (take k vs)
first-cells zero store o i cells vs e = refl
first-cells (suc k) store o i [] vs e = let same : [] ≡ vs = cc in subst (λ (l : Values). Fine [] ≡ Fine (take (suc k) l)) same refl
first-cells (suc k) store o i (c ∷ cs) vs e =
    let h = read-parts store o i c cs vs e in
    subst (λ (l : Values). read_cells store o i (c ∷ take k cs) ≡ Fine (take (suc k) l)) h.is
    (ap (λ r. then_ r (λ x. then_ (read_cells store o i (take k cs)) (λ xs. Fine (x ∷ xs)))) h.reads
    ∙ ap (λ r. then_ r (λ xs. Fine (h.first ∷ xs))) (first-cells k store o i cs h.rest h.others))

-- a write of several cells, by what it leaves behind the first of them
record Split (k : ℕ) (store : Store) (o : Object) (i : ℕ) (cells : List Cell) (vs : Values) (after : Store) : Type 0 where
  pub mid : Store
  pub first : write_cells store o i (take k cells) (take k vs) ≡ Fine mid
  pub others : write_cells mid o i (drop k cells) (drop k vs) ≡ Fine after

write-split : (k : ℕ) (store : Store) (o : Object) (i : ℕ) (cells : List Cell) (vs : Values) (after : Store) → write_cells store o i cells vs ≡ Fine after → Split k store o i cells vs after
write-split zero store o i cells vs after e = record { mid = store; first = refl; others = e }
write-split (suc k) store o i [] vs after e = record { mid = store; first = refl; others = e }
write-split (suc k) store o i (c ∷ cs) [] after e = absurd (cc)
write-split (suc k) store o i (c ∷ cs) (v ∷ vs) after e =
    let h = then-fine (write_cell store o (i + c.offset) c.kind v) (λ mid. write_cells mid o i cs vs) after e in
    let rest = write-split k h.0 o i cs vs after h.2 in
    record {
      mid = rest.mid;
      first = ap (λ r. then_ r (λ mid. write_cells mid o i (take k cs) (take k vs))) h.1 ∙ rest.first;
      others = rest.others;
    }

-- a place of an object isn't among cells that are written
abbrev Misses : Object → ℕ → Object → ℕ → List Cell → Type 0
Misses q j o i cells = Each {A = Cell} (λ c. (same_object q o && j == i + c.offset) ≡ false) cells

untouched : (store : Store) (o : Object) (i : ℕ) (q : Object) (j : ℕ) (cells : List Cell) (vs : Values) (after : Store) → Misses q j o i cells → write_cells store o i cells vs ≡ Fine after → after.values q j ≡ store.values q j
untouched store o i q j [] vs after miss e = let same : store ≡ after = cc in ap (λ (x : Store). x.values q j) (sym same)
untouched store o i q j (c ∷ cs) [] after miss e = absurd (cc)
untouched store o i q j (c ∷ cs) (v ∷ vs) after miss e =
    let h = then-fine (write_cell store o (i + c.offset) c.kind v) (λ mid. write_cells mid o i cs vs) after e in
    let k = unless-fine (stands store o (i + c.offset) c.kind) (record store { values = with_value store.values o (i + c.offset) v }) h.0 _ h.1 in
    untouched h.0 o i q j cs vs after miss.1 h.2 ∙ ap (λ (x : Store). x.values q j) k.1
    ∙ if-false (same_object q o && j == i + c.offset) v (store.values q j) miss.0

-- a read that stays as it was

stood-value : (store : Store) (o : Object) (i : ℕ) (kind : Kind) (v : Value) → read_cell store o i kind ≡ Fine v → store.values o i ≡ v
stood-value store o i kind v e = by-stand (stands store o i kind) e
  where
    by-stand : (b : Bool) → (if b then taken store (store.values o i) else Bad NoSuchCell) ≡ Fine v → store.values o i ≡ v
    by-stand true h = (taken-same store (store.values o i) v h).0
    by-stand false h = absurd (cc)

kept-read : (store mid : Store) (o : Object) (i : ℕ) (kind : Kind) (v : Value) → ((q : Object) → mid.shape q ≡ store.shape q) → mid.values o i ≡ store.values o i → read_cell store o i kind ≡ Fine v → read_cell mid o i kind ≡ Fine v
kept-read store mid o i kind v shapes same e =
    let s = stood-taken store o i kind v e in
    if-true (stands mid o i kind) (taken mid (mid.values o i)) (Bad NoSuchCell) (ap (has_cell i kind) (shapes o) ∙ s.0)
    ∙ ap (taken mid) (same ∙ stood-value store o i kind v e) ∙ taken-kept store mid v shapes s.1

kept-reads : (store mid : Store) (o : Object) (i : ℕ) (cells : List Cell) (vs : Values) → ((q : Object) → mid.shape q ≡ store.shape q) → Each {A = Cell} (λ c. mid.values o (i + c.offset) ≡ store.values o (i + c.offset)) cells → read_cells store o i cells ≡ Fine vs
    → read_cells mid o i cells ≡ Fine vs
kept-reads store mid o i [] vs shapes same e = e
kept-reads store mid o i (c ∷ cs) vs shapes same e =
    let h = read-parts store o i c cs vs e in
    ap (λ r. then_ r (λ x. then_ (read_cells mid o i cs) (λ xs. Fine (x ∷ xs)))) (kept-read store mid o (i + c.offset) c.kind h.first shapes same.0 h.reads)
    ∙ ap (λ r. then_ r (λ xs. Fine (h.first ∷ xs))) (kept-reads store mid o i cs h.rest shapes same.1 h.others)
    ∙ ap (λ (l : Values). Fine l) h.is

-- two places of so many bytes
abbrev Apart : ℕ → ℕ → ℕ → Type 0
Apart n i j = (j ≡ i) ⊎ ((i + n ≤ j) ⊎ (j + n ≤ i))

-- where source and target are the same or apart, a later cell of the one isn't an earlier one of the other
abbrev pub Clear : ℕ → Object → ℕ → Object → ℕ → Type 0
Clear n o i q j = same_object q o ≡ true → Apart n i j

overlap : (a b c d : Bool) → a ≡ true → b ≡ false → c ≡ true → d ≡ true → not (a && not b && c && d) ≡ true → ⊥
overlap a b c d first second third fourth e =
    let all : (a && not b && c && d) ≡ true = ap (λ x. x && not b && c && d) first ∙ ap (λ x. not x && c && d) second ∙ ap (λ x. x && d) third ∙ fourth in
    let none : false ≡ true = ap not (sym all) ∙ e in
    absurd (cc)

-- a source that doesn't overlap the target in part
apart-of : (n : ℕ) (o : Object) (i : ℕ) (q : Object) (j : ℕ) → not (overlap_in_part n (Pointer o i) (Pointer q j)) ≡ true → Clear n o i q j
apart-of n o i q j e = λ same.
    let object : same_object o q ≡ true = ap (λ x. same_object x q) (sym (same_object-is q o same)) ∙ same_object-self q in
    by-test {P = Apart n i j} (i == j)
    (λ t. inl (sym (eqb-true i j t)))
    (λ apart. by-test {P = Apart n i j} (nat_lt i (j + n))
    (λ before. by-test {P = Apart n i j} (nat_lt j (i + n))
    (λ behind. absurd (overlap (same_object o q) (i == j) (nat_lt i (j + n)) (nat_lt j (i + n)) object apart before behind e))
    (λ behind. inr (inl (ltb-false j (i + n) behind))))
    (λ before. inr (inr (ltb-false i (j + n) before))))

pub source-clear : (cells : List Cell) (at from there : Value) → source_for cells at from ≡ Fine there
    → (there ≡ from) × ((o : Object) (i : ℕ) (q : Object) (j : ℕ) → at ≡ Pointer o i → from ≡ Pointer q j → Clear (extent cells) o i q j)
source-clear cells at from there e =
    let h = unless-fine (not (overlap_in_part (extent cells) at from)) from there PartialOverlap e in
    (h.1, λ o i q j target source. apart-of (extent cells) o i q j (ap (λ x. not (overlap_in_part (extent cells) x (Pointer q j))) (sym target) ∙ ap (λ x. not (overlap_in_part (extent cells) at x)) (sym source) ∙ h.0))

-- what is known of all places that the target may be
clear-at : (k n : ℕ) (o : Object) (i : ℕ) (q : Object) (j : ℕ) → ((k ≡ 0) ⊎ ((x : Object) (y : ℕ) → Pointer o i ≡ Pointer x y → Clear n x y q j)) → (k ≡ 0) ⊎ Clear n o i q j
clear-at k n o i q j (inl none) = inl none
clear-at k n o i q j (inr h) = inr (h o i refl)

later-apart : (n i j c d : ℕ) → Apart n i j → c < d → d < n → j + d ≡ i + c → ⊥
later-apart n i j c d (inl same) lt inside e = omega arith
later-apart n i j c d (inr (inl behind)) lt inside e = omega arith
later-apart n i j c d (inr (inr before)) lt inside e = omega arith

missed : (n : ℕ) (o q : Object) (i j c d : ℕ) → Clear n o i q j → c < d → d < n → (same_object q o && j + d == i + c) ≡ false
missed n o q i j c d clear lt inside =
    by-test {P = (same_object q o && j + d == i + c) ≡ false} (same_object q o && j + d == i + c)
    (λ e. let b = both-true (same_object q o) (j + d == i + c) e in
    absurd (later-apart n i j c d (clear b.0) lt inside (eqb-true (j + d) (i + c) b.1)))
    (λ e. e)

misses : (n : ℕ) (o q : Object) (i j : ℕ) (d : Cell) (cells : List Cell) → Clear n o i q j → Before cells d → d.offset < n → Misses q (j + d.offset) o i cells
misses n o q i j d [] clear h inside = tt
misses n o q i j d (c ∷ cs) clear h inside = (missed n o q i j c.offset d.offset clear h.0 inside, misses n o q i j d cs clear h.1 inside)

all-kept : (n : ℕ) (store mid : Store) (o q : Object) (i j : ℕ) (written cells : List Cell) (vs : Values) → Clear n o i q j → Each (Before written) cells → Each {A = Cell} (λ c. c.offset < n) cells → write_cells store o i written vs ≡ Fine mid → Each {A = Cell} (λ c. mid.values q (j + c.offset) ≡ store.values q (j + c.offset)) cells
all-kept n store mid o q i j written [] vs clear h inside e = tt
all-kept n store mid o q i j written (d ∷ ds) vs clear h inside e =
    (untouched store o i q (j + d.offset) written vs mid (misses n o q i j d written clear h.0 inside.0) e, all-kept n store mid o q i j written ds vs clear h.1 inside.1 e)

-- a struct that is read in an object that it fills begins with it

read-extent : (store : Store) (o : Object) (i : ℕ) (cells : List Cell) (vs : Values) → read_cells store o i cells ≡ Fine vs → 0 < length cells → (d : ℕ) × (kind : Kind) × (d + kind_size kind ≡ extent cells) × (stands store o (i + d) kind ≡ true)
read-extent store o i [] vs e some = absurd (omega arith)
read-extent store o i (c ∷ []) vs e some =
    let h = read-parts store o i c [] vs e in
    (c.offset, c.kind, omega arith, (stood-taken store o (i + c.offset) c.kind h.first h.reads).0)
read-extent store o i (c ∷ d ∷ cs) vs e some =
    let h = read-parts store o i c (d ∷ cs) vs e in
    let s = stood-taken store o (i + c.offset) c.kind h.first h.reads in
    let more = read-extent store o i (d ∷ cs) h.rest h.others (omega arith) in
    larger (extent (d ∷ cs)) (c.offset + kind_size c.kind) s.0 more.0 more.1 more.2 more.3 refl
  where
    larger : (n k : ℕ) → stands store o (i + c.offset) c.kind ≡ true → (a : ℕ) (kind : Kind) → a + kind_size kind ≡ n → stands store o (i + a) kind ≡ true → k ≡ c.offset + kind_size c.kind
        → (b : ℕ) × (l : Kind) × (b + kind_size l ≡ max k n) × (stands store o (i + b) l ≡ true)
    larger n k one a kind same two first =
        by-test {P = (b : ℕ) × (l : Kind) × (b + kind_size l ≡ max k n) × (stands store o (i + b) l ≡ true)} (max k n == n)
        (λ t. let most = eqb-true (max k n) n t in (a, kind, same ∙ sym most, two))
        (λ t. let other = eqb-false (max k n) n t in
        let most : max k n ≡ k = omega (arith, other) in
        (c.offset, c.kind, sym first ∙ sym most, one))

kind-inside : (from size : ℕ) (cells : List Cell) (i : ℕ) (kind : Kind) → AreLaidOut from size cells → kind_at cells i ≡ Some kind → i + kind_size kind ≤ size
kind-inside from size [] i kind h e = absurd (cc)
kind-inside from size (c ∷ cs) i kind h e =
    by-test {P = i + kind_size kind ≤ size} (c.offset == i)
    (λ t. let same : Some c.kind ≡ Some kind = sym (if-true (c.offset == i) (Some c.kind) (kind_at cs i) t) ∙ e in
    let kinds : c.kind ≡ kind = some-kind c.kind kind same in
    let bytes : kind_size c.kind ≡ kind_size kind = ap kind_size kinds in
    let place = eqb-true c.offset i t in
    let end = laid-end (c.offset + kind_size c.kind) size cs h.2 in
    omega arith)
    (λ t. kind-inside (c.offset + kind_size c.kind) size cs i kind h.2 (sym (if-false (c.offset == i) (Some c.kind) (kind_at cs i) t) ∙ e))
  where
    some-kind : (a b : Kind) → Some a ≡ Some b → a ≡ b
    some-kind a b e = cc

pub whole-start : (store : Store) (o : Object) (i size : ℕ) (ds cells : List Cell) (vs : Values) → store.shape o ≡ Some (shape_of size ds) → AreLaidOut 0 size ds → size ≡ extent cells → read_cells store o i cells ≡ Fine vs → 0 < length cells → i ≡ 0
whole-start store o i size ds cells vs lives laid same e some =
    let last = read-extent store o i cells vs e some in
    let s = stands-there store o (i + last.0) last.1 last.3 in
    let shapes : shape_of size ds ≡ s.0 = some-shape (shape_of size ds) s.0 (sym lives ∙ s.1) in
    let inside = kind-inside 0 size ds (i + last.0) last.1 laid (ap (λ (x : Shape). x.cells (i + last.0)) shapes ∙ s.2) in
    let end = last.2 in
    omega arith
  where
    some-shape : (a b : Shape) → Some a ≡ Some b → a ≡ b
    some-shape a b e = cc

pub whole-clear : (store : Store) (whole : Object) (size : ℕ) (ds cells : List Cell) (vs : Values) (q : Object) (j : ℕ) (o : Object) (i : ℕ) → store.shape whole ≡ Some (shape_of size ds) → AreLaidOut 0 size ds → fills (Some size) cells ≡ true → read_cells store q j cells ≡ Fine vs → 0 < length cells
    → Pointer o i ≡ Pointer whole 0 → Clear (extent cells) o i q j
whole-clear store whole size ds cells vs q j o i lives laid fill e some at_start = λ b.
    let object : o ≡ whole = cc in
    let start : i ≡ 0 = cc in
    inl (whole-start store q j size ds cells vs (ap store.shape (same_object-is q o b ∙ object) ∙ lives) laid (eqb-true size (extent cells) fill) e some ∙ sym start)

-- a struct that stands in an object that it fills begins with it

ends-among : (offset size : ℕ) (ds cells : List Cell) → AreLaidOut 0 size ds → offset ≤ size → StandAmong ds offset cells → offset + extent cells ≤ size
ends-among offset size ds [] laid le among = omega arith
ends-among offset size ds (c ∷ cs) laid le among =
    let one = kind-inside 0 size ds (offset + c.offset) c.kind laid among.0 in
    let rest = ends-among offset size ds cs laid le among.1 in
    omega arith

pub filled-clear : (store : Store) (whole : Object) (size offset : ℕ) (ds cells : List Cell) (vs : Values) (q : Object) (j : ℕ) (o : Object) (i : ℕ) → store.shape whole ≡ Some (shape_of size ds) → AreLaidOut 0 size ds → offset ≤ size → StandAmong ds offset cells
    → fills (Some size) cells ≡ true → read_cells store q j cells ≡ Fine vs → 0 < length cells → Pointer whole offset ≡ Pointer o i → Clear (extent cells) o i q j
filled-clear store whole size offset ds cells vs q j o i lives laid le among fill e some target =
    let end = ends-among offset size ds cells laid le among in
    let all = eqb-true size (extent cells) fill in
    let start : offset ≡ 0 = omega arith in
    whole-clear store whole size ds cells vs q j o i lives laid fill e some (sym target ∙ ap (Pointer whole) start)

pub in-right : {A B C : Type 0} → (A ⊎ B) → (B → C) → A ⊎ C
in-right (inl a) h = inl a
in-right (inr b) h = inr (h b)

-- the objects of all functions

got-before : {X : Type 0} (xs ys : List X) (n : ℕ) (x : X) → slice_get xs n ≡ Some x → slice_get (xs ++ ys) n ≡ Some x
got-before [] ys n x e = absurd (cc)
got-before (y ∷ xs) ys zero x e = e
got-before (y ∷ xs) ys (suc n) x e = got-before xs ys n x e

got-past : {X : Type 0} (xs ys : List X) (n : ℕ) → slice_get (xs ++ ys) (length xs + n) ≡ slice_get ys n
got-past [] ys n = ap (slice_get ys) (let same : 0 + n ≡ n = omega arith in same)
got-past (x ∷ xs) ys n =
    let same : length (x ∷ xs) + n ≡ suc (length xs + n) = omega arith in
    ap (λ i. slice_get (x ∷ xs ++ ys) i) same ∙ got-past xs ys n

among-all : (fs : List Func) (k n : ℕ) (f : Func) (o : LocalObject) → slice_get fs k ≡ Some f → slice_get f.objects n ≡ Some o → slice_get (all_objects fs) (sum_by (λ (y : Func). length y.objects) (take k fs) + n) ≡ Some o
among-all [] k n f o e h = absurd (cc)
among-all (x ∷ xs) zero n f o e h =
    let same : x ≡ f = cc in
    let none : 0 + n ≡ n = omega arith in
    ap (λ i. slice_get (x.objects ++ all_objects xs) i) none
    ∙ got-before x.objects (all_objects xs) n o (ap (λ (y : Func). slice_get y.objects n) same ∙ h)
among-all (x ∷ xs) (suc k) n f o e h =
    let sum : sum_by (λ (y : Func). length y.objects) (x ∷ take k xs) + n ≡ length x.objects + (sum_by (λ (y : Func). length y.objects) (take k xs) + n) = let more = sum_by-cons (λ (y : Func). length y.objects) x (take k xs) in omega arith in
    ap (λ i. slice_get (x.objects ++ all_objects xs) i) sum ∙ got-past x.objects (all_objects xs) (sum_by (λ (y : Func). length y.objects) (take k xs) + n) ∙ among-all xs k n f o e h

-- the object of a function, by its number in the unit
pub numbered-of : (p : Prog) (k n : ℕ) (f : Func) (o : LocalObject) → slice_get p.funcs k ≡ Some f → slice_get f.objects n ≡ Some o → slice_get (all_objects p.funcs) (first_object p k + n - length p.statics) ≡ Some o
numbered-of p k n f o e h =
    let index : first_object p k + n - length p.statics ≡ sum_by (λ (y : Func). length y.objects) (take k p.funcs) + n = omega arith in
    ap (λ i. slice_get (all_objects p.funcs) i) index ∙ among-all p.funcs k n f o e h

-- code that copies

module _ (u : Code) (g : Setting) (p : Prog) (home : Home) (n : Mark) (s : typed.State) where
  -- a place that stays where it was found
  abbrev Designates : Place → Object → ℕ → ℕ → (ℕ → Value) → Store → Type 0
  Designates place o i top base start =
      (mid left : Store) (rs : ℕ → Value) → ((q : Object) → mid.shape q ≡ start.shape q) → ((q : ℕ) → q < top → rs q ≡ base q) → Agrees mid left → m.place_of place home.active rs left ≡ Fine (Pointer o i)

  record WereCopied (b : State) (t : Point) (top : ℕ) (base : ℕ → Value) (after : Store) : Type 0 where
    pub registers : ℕ → Value
    pub left : Store
    pub leads : Reaches u g b (at home n t registers left s)
    pub kept : (q : ℕ) → q < top → registers q ≡ base q
    pub agrees : Agrees after left

  group-copied : (begun : ℕ) (values_in : Store) (place : Place) (o : Object) (i : ℕ) (q : Object) (j : ℕ) (cells : List Cell) (vs : Values) (pointer : ℕ) (entry t : Point) (registers : ℕ → Value) (store blocks after : Store)
      → Designates place o i (pointer + 1) registers store → Agrees store blocks → CodesGroup pointer place cells entry t → registers pointer ≡ Pointer q j
      → read_cells store q j cells ≡ Fine vs → AreValues begun values_in (kinds_of cells) vs → write_cells store o i cells vs ≡ Fine after → WereCopied (at home n entry registers blocks s) t (pointer + 1) registers after
  group-copied begun values_in place o i q j cells vs pointer entry t registers store blocks after designates agrees codes has e fits w =
      let got = reads u g p home n s store blocks agrees q j cells vs codes.0 pointer (pointer + 1) (writes_of place (pointer + 1) cells codes.1 t) registers codes.2 (omega arith) has e in
      let put = writes u g p home n s begun values_in place o i got.registers cells vs codes.1 (pointer + 1) t store blocks after (λ mid left same ag. designates mid left got.registers same got.kept ag) agrees codes.3 got.has fits w in
      record {
        registers = got.registers;
        left = put.left;
        leads = subst (λ x. Reaches u g (at home n x registers blocks s) (at home n t got.registers put.left s)) (sym codes.4) (further u g got.leads put.leads);
        kept = got.kept;
        agrees = put.agrees;
      }

  groups-copied : (begun : ℕ) (values_in : Store) (place : Place) (o : Object) (i : ℕ) (q : Object) (j k bytes from size : ℕ) (cells : List Cell) (vs : Values) (pointer : ℕ) (entry t : Point) (registers : ℕ → Value) (store blocks after : Store)
      → ((k ≡ 0) ⊎ Clear bytes o i q j) → Each {A = Cell} (λ c. c.offset < bytes) cells → AreLaidOut from size cells → Designates place o i (pointer + 1) registers store → Agrees store blocks → CodesGroups pointer place k cells entry t → registers pointer ≡ Pointer q j
      → read_cells store q j cells ≡ Fine vs → AreValues begun values_in (kinds_of cells) vs → write_cells store o i cells vs ≡ Fine after → WereCopied (at home n entry registers blocks s) t (pointer + 1) registers after
  groups-copied begun values_in place o i q j zero bytes from size cells vs pointer entry t registers store blocks after clear inside laid designates agrees codes has e fits w =
      group-copied begun values_in place o i q j cells vs pointer entry t registers store blocks after designates agrees codes has e fits w
  groups-copied begun values_in place o i q j (suc k) bytes from size cells vs pointer entry t registers store blocks after (inl none) inside laid designates agrees codes has e fits w = absurd (omega (arith, none))
  groups-copied begun values_in place o i q j (suc k) bytes from size cells vs pointer entry t registers store blocks after (inr clear) inside laid designates agrees codes has e fits w =
      let parts = write-split 8 store o i cells vs after w in
      let mid : Store = parts.mid in
      let shapes : (x : Object) → mid.shape x ≡ store.shape x = writes-shape store o i (take 8 cells) (take 8 vs) mid parts.first in
      let one = group-copied begun values_in place o i q j (take 8 cells) (take 8 vs) pointer entry codes.0 registers store blocks mid designates agrees codes.1 has (first-cells 8 store q j cells vs e) (values-first 8 begun values_in cells vs fits) parts.first in
      let rest_inside = each-dropped (λ c. c.offset < bytes) 8 cells inside in
      let still = kept-reads store mid q j (drop 8 cells) (drop 8 vs) shapes (all-kept bytes store mid o q i j (take 8 cells) (drop 8 cells) (take 8 vs) clear (split-ordered 8 from size cells laid) rest_inside parts.first) (dropped-cells store q j 8 cells vs e) in
      let rest_laid = laid-dropped 8 from size cells laid in
      let rest = groups-copied begun values_in place o i q j k bytes rest_laid.0 size (drop 8 cells) (drop 8 vs) pointer codes.0 t one.registers mid one.left after (inr clear) rest_inside rest_laid.1
      (λ later left rs same kept ag. designates later left rs (λ x. same x ∙ shapes x) (λ r l. kept r l ∙ one.kept r l) ag)
      one.agrees codes.2 (one.kept pointer (omega arith) ∙ has) still (values-left 8 begun values_in cells vs fits) parts.others in
      record {
        registers = rest.registers;
        left = rest.left;
        leads = further u g one.leads rest.leads;
        kept = λ r l. rest.kept r l ∙ one.kept r l;
        agrees = rest.agrees;
      }

  -- a struct whose place and address are known
  pub copy-groups : (v : Value) (place : Place) (count size k : ℕ) (cells : List Cell) (vs : Values) (pointer : ℕ) (entry next : Point) (registers : ℕ → Value) (blocks : Store)
      → ((mid left : Store) (rs : ℕ → Value) → ((q : Object) → mid.shape q ≡ s.world.store.shape q) → ((q : ℕ) → q < pointer + 1 → rs q ≡ registers q) → Agrees mid left → m.place_of place home.active rs left ≡ Fine v)
      → Agrees s.world.store blocks → AreLaidOut 0 size cells → CodesGroups pointer place k cells entry next → (holds : HasCellsOf cells vs s.world.store (registers pointer)) → AreValues s.world.activations s.world.store (kinds_of cells) vs
      → ((k ≡ 0) ⊎ ((o : Object) (i : ℕ) → v ≡ Pointer o i → Clear (extent cells) o i holds.0 holds.1))
      → Does u g p home next (at home n entry registers blocks s) (Copied u g p home n s (pointer + 1) registers v cells vs) (write_at (Struct count cells) v vs s)
  copy-groups (Pointer o i) place count size k cells vs pointer entry next registers blocks designates agrees laid codes holds fits clear =
      does-checked u g p home (write_cells s.world.store o i cells vs) s _ (λ after e.
      let here = clear-at k (extent cells) o i holds.0 holds.1 clear in
      let done = groups-copied s.world.activations s.world.store place o i holds.0 holds.1 k (extent cells) 0 size cells vs pointer entry next registers s.world.store blocks after here (all-below (extent cells) cells (omega arith)) laid designates agrees codes holds.2 holds.3 fits e in
      let t : typed.State = record { world = record s.world { store = after }; fuel = s.fuel } in
      does-later u g p home {c = at home n next done.registers done.left t} done.leads
      (stands_there u g p home (λ _. next) n done.registers done.left t vs (record {
        same = refl;
        agrees = done.agrees;
        kept = done.kept;
        shapes = writes-shape s.world.store o i cells vs after e;
        has = (o, i, refl, read-back s.world.store o i 0 size cells vs after laid (all-read s.world.store holds.0 holds.1 cells vs holds.3) (all-taken s.world.store holds.0 holds.1 cells vs holds.3) e);
      })))
  copy-groups (Number z) place count size k cells vs pointer entry next registers blocks designates agrees laid codes holds fits clear = record { by = tt }
  copy-groups Null place count size k cells vs pointer entry next registers blocks designates agrees laid codes holds fits clear = record { by = tt }
  copy-groups Unset place count size k cells vs pointer entry next registers blocks designates agrees laid codes holds fits clear = record { by = tt }
