-- One cell is read and stored as several are; cells in their order.
use Rattle.std.proofs.Common.{◌≡◌, ℕ, zero, suc, ◌+◌, List, [], ◌∷◌, ◌++◌, take, drop, refl, sym, ap, ◌∙◌, arith, add-one, append_assoc, Ok, Err}
use Rattle.std.specs.Prelude.{Some, None, slice_get, ℤ}
use Rattle.im_num.specs.declared.kind.Kind.{Kind}
use Rattle.im_ctype.specs.declared.cell.Cell.{Cell}
use Rattle.im_store.specs.declared.undefined.Undefined as causes
use Rattle.im_store.specs.declared.undefined.Undefined.TheVariants.{NoSuchCell}
use Rattle.im_store.specs.Checks.{Checked, Fine, Bad, then_}
use Rattle.im_store.specs.Access.{at_place, read_cell, read_cells, taken, write_cell, write_cells}
use Rattle.im_store.specs.Objects as o
use Rattle.im_store.specs.Objects.{Object, Store}
use Rattle.im_eval_store.specs.declared.memory.Memory.{Memory}
use Rattle.im_eval_store.specs.declared.value.Value.{Value}
use Rattle.im_eval_store.specs.Living.{Holds}
use Rattle.im_eval_store.specs.Shown.{shown}
use Rattle.im_typed.specs.declared.expression.Change.{Change}
use Rattle.im_typed.specs.Program.{Scalar}
use Rattle.im_typed.specs.Runs.{State, Answer, Run, ◌>>=◌, goes_on, give, checked, leave_store}
use Rattle.im_typed.specs.Values.{Values, cells_of, scalar, used, value_in, read_at, write_at, changed_kind}
use Rattle.im_eval_machine.specs.Shown.{Finds, IsStep, IsLook, one, shown_all, values}
use Rattle.im_eval_machine.specs.Accesses.{ReadsCells}
use Rattle.im_eval_machine.specs.declared.stopped.Stopped.{Stopped}
use Rattle.im_eval_machine.specs.Steps.{altered, changes}
use Rattle.im_eval_machine.specs.declared.machine.Machine.{Machine}
use Rattle.im_eval_machine.specs.declared.stopped.Stopped.TheVariants.{Undefined, MoreFuel, StackExhausted, OutOfMemory}
use Rattle.std.proofs.lemmas.List.{append-nil}
use Rattle.im_eval_machine.proofs.Stores.{with_store, stored}

plus-none : (n : ℕ) → n + 0 ≡ n
plus-none n = omega arith

-- one cell

singly : (r : Checked o.Value) (s : State) → checked (then_ r (λ v. Fine (v ∷ []))) s ≡ goes_on (checked r s) scalar
singly (Fine v) s = refl
singly (Bad why) s = refl

pub one-read : (kind : Kind) (at : o.Value) (s : State) → read_at (Scalar kind) at s ≡ goes_on (checked (at_place at (λ q offset. read_cell s.world.store q offset kind)) s) scalar
one-read kind (o.Pointer q offset) s =
    ap (λ n. checked (then_ (read_cell s.world.store q n kind) (λ v. Fine (v ∷ []))) s) (plus-none offset) ∙ singly (read_cell s.world.store q offset kind) s
one-read kind (o.Number z) s = refl
one-read kind o.Null s = refl
one-read kind o.Unset s = refl

then-used : (r : Checked o.Value) (s : State) → goes_on (goes_on (checked r s) scalar) used ≡ checked (then_ r (taken s.world.store)) s
then-used (Fine v) s = refl
then-used (Bad why) s = refl

pub value-read : (kind : Kind) (at : o.Value) (s : State) → value_in (read_at (Scalar kind) at) s ≡ checked (then_ (at_place at (λ q offset. read_cell s.world.store q offset kind)) (taken s.world.store)) s
value-read kind at s =
    ap (λ r. goes_on r used) (one-read kind at s) ∙ then-used (at_place at (λ q offset. read_cell s.world.store q offset kind)) s

then-fine : (r : Checked Store) → then_ r Fine ≡ r
then-fine (Fine s) = refl
then-fine (Bad why) = refl

pub one-write : (store : Store) (kind : Kind) (at v : o.Value) (vs : List o.Value)
    → at_place at (λ q offset. write_cells store q offset (cells_of (Scalar kind)) (v ∷ vs)) ≡ at_place at (λ q offset. write_cell store q offset kind v)
one-write store kind (o.Pointer q offset) v vs =
    ap (λ n. then_ (write_cell store q n kind v) Fine) (plus-none offset) ∙ then-fine (write_cell store q offset kind v)
one-write store kind (o.Number z) v vs = refl
one-write store kind o.Null v vs = refl
one-write store kind o.Unset v vs = refl

pub none-write : (store : Store) (kind : Kind) (at : o.Value) → at_place at (λ q offset. write_cells store q offset (cells_of (Scalar kind)) []) ≡ Bad NoSuchCell
none-write store kind (o.Pointer q offset) = refl
none-write store kind (o.Number z) = refl
none-write store kind o.Null = refl
none-write store kind o.Unset = refl

-- several cells

pub got-dropped : {X : Type 0} (xs : List X) (n : ℕ) (x : X) → slice_get xs n ≡ Some x → drop n xs ≡ x ∷ drop (n + 1) xs
got-dropped xs n x e = go xs n x e ∙ ap (λ k. x ∷ drop k xs) (sym (add-one n))
  where
    go : {X : Type 0} (xs : List X) (n : ℕ) (x : X) → slice_get xs n ≡ Some x → drop n xs ≡ x ∷ drop (suc n) xs
    go [] n x e = absurd (cc)
    go (y ∷ ys) zero x e = let same : y ≡ x = cc in ap (λ z. z ∷ ys) same
    go (y ∷ ys) (suc n) x e = go ys n x e

pub none-dropped : {X : Type 0} (xs : List X) (n : ℕ) → slice_get xs n ≡ None → drop n xs ≡ []
none-dropped [] n e = drop-nil n
  where
    drop-nil : {X : Type 0} (n : ℕ) → drop {A = X} n [] ≡ []
    drop-nil zero = refl
    drop-nil (suc n) = refl
none-dropped (y ∷ ys) zero e = absurd (cc)
none-dropped (y ∷ ys) (suc n) e = none-dropped ys n e

module _ (q : Object) (offset : ℕ) where
  -- a cell more is stored
  pub write-on : (store mid after : Store) (cells : List Cell) (vs : List o.Value) (left : List Cell) (given : List o.Value) (c : Cell) (v : o.Value) (cs : List Cell) (ws : List o.Value)
      → write_cells store q offset cells vs ≡ write_cells mid q offset left given → left ≡ c ∷ cs → given ≡ v ∷ ws → write_cell mid q (offset + c.offset) c.kind v ≡ Fine after
      → write_cells store q offset cells vs ≡ write_cells after q offset cs ws
  write-on store mid after cells vs left given c v cs ws so_far ec ev wrote =
      so_far ∙ ap (λ x. write_cells mid q offset x given) ec ∙ ap (λ x. write_cells mid q offset (c ∷ cs) x) ev
      ∙ ap (λ r. then_ r (λ after. write_cells after q offset cs ws)) wrote

  pub write-bad : (store mid : Store) (cells : List Cell) (vs : List o.Value) (left : List Cell) (given : List o.Value) (c : Cell) (v : o.Value) (cs : List Cell) (ws : List o.Value) (why : causes.Undefined)
      → write_cells store q offset cells vs ≡ write_cells mid q offset left given → left ≡ c ∷ cs → given ≡ v ∷ ws → write_cell mid q (offset + c.offset) c.kind v ≡ Bad why
      → write_cells store q offset cells vs ≡ Bad why
  write-bad store mid cells vs left given c v cs ws why so_far ec ev bad =
      so_far ∙ ap (λ x. write_cells mid q offset x given) ec ∙ ap (λ x. write_cells mid q offset (c ∷ cs) x) ev
      ∙ ap (λ r. then_ r (λ after. write_cells after q offset cs ws)) bad

  pub write-short : (store mid : Store) (cells : List Cell) (vs : List o.Value) (left : List Cell) (given : List o.Value) (c : Cell) (cs : List Cell)
      → write_cells store q offset cells vs ≡ write_cells mid q offset left given → left ≡ c ∷ cs → given ≡ [] → write_cells store q offset cells vs ≡ Bad NoSuchCell
  write-short store mid cells vs left given c cs so_far ec ev =
      so_far ∙ ap (λ x. write_cells mid q offset x given) ec ∙ ap (λ x. write_cells mid q offset (c ∷ cs) x) ev

  pub write-done : (store mid : Store) (cells : List Cell) (vs : List o.Value) (left : List Cell) (given : List o.Value)
      → write_cells store q offset cells vs ≡ write_cells mid q offset left given → left ≡ [] → write_cells store q offset cells vs ≡ Fine mid
  write-done store mid cells vs left given so_far ec = so_far ∙ ap (λ x. write_cells mid q offset x given) ec

  -- a cell more is read
  more-read : (store : Store) (acc : List o.Value) (v : o.Value) (r : Checked (List o.Value)) → then_ (then_ r (λ vs. Fine (v ∷ vs))) (λ vs. Fine (acc ++ vs)) ≡ then_ r (λ vs. Fine ((acc ++ v ∷ []) ++ vs))
  more-read store acc v (Fine vs) = ap Fine (sym (append_assoc acc (v ∷ []) vs))
  more-read store acc v (Bad why) = refl

  pub read-on : (store : Store) (whole : Checked (List o.Value)) (acc : List o.Value) (left : List Cell) (c : Cell) (cs : List Cell) (v : o.Value)
      → whole ≡ then_ (read_cells store q offset left) (λ vs. Fine (acc ++ vs)) → left ≡ c ∷ cs → read_cell store q (offset + c.offset) c.kind ≡ Fine v
      → whole ≡ then_ (read_cells store q offset cs) (λ vs. Fine ((acc ++ v ∷ []) ++ vs))
  read-on store whole acc left c cs v so_far ec read =
      so_far ∙ ap (λ x. then_ (read_cells store q offset x) (λ vs. Fine (acc ++ vs))) ec
      ∙ ap (λ r. then_ (then_ r (λ v. then_ (read_cells store q offset cs) (λ vs. Fine (v ∷ vs)))) (λ vs. Fine (acc ++ vs))) read
      ∙ more-read store acc v (read_cells store q offset cs)

  pub read-bad : (store : Store) (whole : Checked (List o.Value)) (acc : List o.Value) (left : List Cell) (c : Cell) (cs : List Cell) (why : causes.Undefined)
      → whole ≡ then_ (read_cells store q offset left) (λ vs. Fine (acc ++ vs)) → left ≡ c ∷ cs → read_cell store q (offset + c.offset) c.kind ≡ Bad why → whole ≡ Bad why
  read-bad store whole acc left c cs why so_far ec bad =
      so_far ∙ ap (λ x. then_ (read_cells store q offset x) (λ vs. Fine (acc ++ vs))) ec
      ∙ ap (λ r. then_ (then_ r (λ v. then_ (read_cells store q offset cs) (λ vs. Fine (v ∷ vs)))) (λ vs. Fine (acc ++ vs))) bad

pub shown-more : (vs : List Value) (v : Value) → shown_all (vs ++ v ∷ []) ≡ shown_all vs ++ shown v ∷ []
shown-more [] v = refl
shown-more (w ∷ vs) v = ap (λ ws. shown w ∷ ws) (shown-more vs v)

-- a change of what stands at a place

module _ (m : Machine) (memory : Memory) (by : Change) (before : o.Value) (z : ℤ) (at : o.Value) (after : Value) (computed : (last : ℕ) (store : Store) → Holds m.memory last store → altered by before z store ≡ Fine (shown after)) where
  pub change-bad : (why : causes.Undefined) → ((last : ℕ) (store : Store) → Holds m.memory last store → at_place at (λ q offset. write_cell store q offset (changed_kind by) (shown after)) ≡ Bad why)
      → IsStep {R = Value} one (Err (Undefined why)) m (record m { memory = memory }) (changes by before z at)
  change-bad why bad = record {
    fuel = omega arith;
    ends = λ s h.
        ap (λ r. goes_on (checked r s) (λ w. write_at (Scalar (changed_kind by)) at (w ∷ []))) (computed m.activations s.world.store h.held)
        ∙ ap (λ r. goes_on (checked r s) (λ store. leave_store store >>= (λ _. give (shown after ∷ [])))) (one-write s.world.store (changed_kind by) at (shown after) [] ∙ bad m.activations s.world.store h.held);
  }

  pub change-fine : ((last : ℕ) (store : Store) → Holds m.memory last store → (new : Store) × (at_place at (λ q offset. write_cell store q offset (changed_kind by) (shown after)) ≡ Fine new) × Holds memory last new)
      → IsStep one (Ok after) m (record m { memory = memory }) (changes by before z at)
  change-fine wrote = record {
    fuel = omega arith;
    ends = λ s h.
        let w = wrote m.activations s.world.store h.held in (
          with_store s w.0,
          stored m memory s w.0 h w.2,
          ap (λ r. goes_on (checked r s) (λ w. write_at (Scalar (changed_kind by)) at (w ∷ []))) (computed m.activations s.world.store h.held)
              ∙ ap (λ r. goes_on (checked r s) (λ store. leave_store store >>= (λ _. give (shown after ∷ [])))) (one-write s.world.store (changed_kind by) at (shown after) [] ∙ w.1),
        );
  }

-- a place at no distance
pub read-here : (store : Store) (q : Object) (offset : ℕ) (kind : Kind) → read_cell store q (offset + 0) kind ≡ read_cell store q offset kind
read-here store q offset kind = ap (λ n. read_cell store q n kind) (plus-none offset)

pub write-here : (store : Store) (q : Object) (offset : ℕ) (kind : Kind) (v : o.Value) → write_cell store q (offset + 0) kind v ≡ write_cell store q offset kind v
write-here store q offset kind v = ap (λ n. write_cell store q n kind v) (plus-none offset)

-- looks that read
pub look-fine : (m : Machine) (run : Run o.Value) (f : Store → Checked o.Value) (v : Value) → ((s : State) → run s ≡ checked (f s.world.store) s) → ((last : ℕ) (store : Store) → Holds m.memory last store → f store ≡ Fine (shown v))
    → IsLook shown (Ok v) m run
look-fine m run f v same fine = λ s h. same s ∙ ap (λ r. checked r s) (fine m.activations s.world.store h.held)

pub look-bad : (m : Machine) (run : Run o.Value) (f : Store → Checked o.Value) (why : causes.Undefined) → ((s : State) → run s ≡ checked (f s.world.store) s) → ((last : ℕ) (store : Store) → Holds m.memory last store → f store ≡ Bad why)
    → IsLook {R = Value} shown (Err (Undefined why)) m run
look-bad m run f why same bad = λ s h. same s ∙ ap (λ r. checked r s) (bad m.activations s.world.store h.held)

-- the first value that is stored
pub first-write : (store : Store) (kind : Kind) (at v : o.Value) (vs : List o.Value) → Some v ≡ slice_get vs 0
    → at_place at (λ q offset. write_cell store q offset kind v) ≡ at_place at (λ q offset. write_cells store q offset (cells_of (Scalar kind)) vs)
first-write store kind at v [] e = absurd (cc)
first-write store kind at v (w ∷ vs) e =
    let same : v ≡ w = cc in
    ap (λ x. at_place at (λ q offset. write_cell store q offset kind x)) same ∙ sym (one-write store kind at w vs)

-- values are copied one by one
pub copy-on : (whole acc vs : List o.Value) (v : o.Value) (k m n : ℕ) → whole ≡ acc ++ take m (drop k vs) → slice_get vs k ≡ Some v → m ≡ suc n → whole ≡ (acc ++ v ∷ []) ++ take n (drop (k + 1) vs)
copy-on whole acc vs v k m n so_far got e =
    so_far ∙ ap (λ x. acc ++ take m x) (got-dropped vs k v got) ∙ ap (λ j. acc ++ take j (v ∷ drop (k + 1) vs)) e
    ∙ sym (append_assoc acc (v ∷ []) (take n (drop (k + 1) vs)))

take-nil : {X : Type 0} (m : ℕ) → take {A = X} m [] ≡ []
take-nil zero = refl
take-nil (suc m) = refl

pub copy-end : (whole acc vs : List o.Value) (k m : ℕ) → whole ≡ acc ++ take m (drop k vs) → slice_get vs k ≡ None → acc ≡ whole
copy-end whole acc vs k m so_far gone =
    sym (so_far ∙ ap (λ x. acc ++ take m x) (none-dropped vs k gone) ∙ ap (λ x. acc ++ x) (take-nil m) ∙ append-nil acc)

pub take-none : (vs : List o.Value) (k : ℕ) → slice_get vs k ≡ None → [] ≡ take 1 (drop k vs)
take-none vs k gone = sym (ap (take 1) (none-dropped vs k gone))

pub take-one : (vs : List o.Value) (k : ℕ) (v : o.Value) → slice_get vs k ≡ Some v → v ∷ [] ≡ take 1 (drop k vs)
take-one vs k v got = sym (ap (take 1) (got-dropped vs k v got))

-- cells that could not be read
pub cells-stop : (why : Stopped) (r : Checked (List o.Value)) (s : State) (a : Answer Values) → a ≡ checked r s → ReadsCells (Err why) r → Finds values (Err why) s a
cells-stop (Undefined why) r s a e h = e ∙ ap (λ x. checked x s) h
cells-stop MoreFuel r s a e h = absurd h
cells-stop StackExhausted r s a e h = absurd h
cells-stop OutOfMemory r s a e h = tt
