-- Steps that store in memory alone.
use Rattle.std.proofs.Common.{◌≡◌, ℕ, List, [], ◌∷◌, refl, sym, ap, ◌∙◌, arith, Ok, Err}
use Rattle.std.specs.Prelude.{Option, Some, None, ◌==◌, true, if◌then◌else◌}
use Rattle.im_num.specs.declared.kind.Kind.{Kind}
use Rattle.im_num.specs.declared.kind.Kind.TheVariants.{I8, U8, I16, U16, I32, U32, Ptr}
use Rattle.im_store.specs.Checks.{Checked, Fine, Bad}
use Rattle.im_store.specs.Access.{at_place, write_cells}
use Rattle.im_store.specs.Objects as o
use Rattle.im_store.specs.Objects.{Object, Shape, Store, ends, same_object}
use Rattle.im_store.proofs.Same.{same_object-is}
use Rattle.im_store.specs.declared.undefined.Undefined as causes
use Rattle.im_eval_store.specs.declared.memory.Memory.{Memory}
use Rattle.im_eval_store.specs.Changes as changes
use Rattle.im_eval_store.specs.Changes.{kind_in, stands_in, with_values}
use Rattle.im_eval_store.specs.Living.{Holds, live_at}
use Rattle.im_eval_store.proofs.Finding.{by-test, if-true, if-false}
use Rattle.im_eval_store.proofs.Revised.{lives-again}
use Rattle.im_typed.specs.Program as p
use Rattle.im_typed.specs.Runs.{State, ◌>>=◌, goes_on, give, change, checked, leave_store}
use Rattle.im_typed.specs.Meaning as meaning
use Rattle.im_typed.specs.Meaning.{change_store, is_among, kind_of_cell}
use Rattle.im_typed.specs.Programs.{leaving}
use Rattle.im_typed.specs.Values.{cells_of, write_at}
use Rattle.im_eval_machine.specs.Shown.{IsIn, IsStep, nothing}
use Rattle.im_eval_machine.specs.declared.machine.Machine.{Machine}
use Rattle.im_eval_machine.specs.declared.stopped.Stopped.TheVariants.{Undefined}

-- a state with another store
abbrev pub with_store : State → Store → State
with_store s store = record { world = record s.world { store = store }; fuel = s.fuel }

pub stored : (old : Machine) (memory : Memory) (s : State) (after : Store) → IsIn old s → Holds memory old.activations after → IsIn (record old { memory = memory }) (with_store s after)
stored old memory s after h held = record {
  held = held;
  activations = h.activations;
  depth = h.depth;
  input = h.input;
  output = h.output;
  fuel = h.fuel;
}

module _ (old : Machine) (memory : Memory) (x : p.Access) (at : o.Value) (vs : List o.Value) where
  abbrev at_cells : Store → Checked Store
  at_cells store = at_place at (λ o offset. write_cells store o offset (cells_of x) vs)

  pub wrote : {U : Type 0} (done : U) → ((last : ℕ) (store : Store) → Holds old.memory last store → (after : Store) × (at_cells store ≡ Fine after) × Holds memory last after)
      → IsStep {R = U} (λ _. vs) (Ok done) old (record old { memory = memory }) (write_at x at vs)
  wrote done stores = record {
    fuel = omega arith;
    ends = λ s h.
        let w = stores old.activations s.world.store h.held in (
          with_store s w.0,
          stored old memory s w.0 h w.2,
          ap (λ r. goes_on (checked r s) (λ after. leave_store after >>= (λ _. give vs))) w.1,
        );
  }

  pub unwritten : {U : Type 0} (why : causes.Undefined) → ((last : ℕ) (store : Store) → Holds old.memory last store → at_cells store ≡ Bad why)
      → IsStep {R = U} (λ _. vs) (Err (Undefined why)) old (record old { memory = memory }) (write_at x at vs)
  unwritten why refuses = record {
    fuel = omega arith;
    ends = λ s h.
        ap (λ r. goes_on (checked r s) (λ after. leave_store after >>= (λ _. give vs))) (refuses old.activations s.world.store h.held);
  }

-- the store changes as a whole
pub restored : {U : Type 0} (done : U) (old : Machine) (memory : Memory) (f : Store → Store) → ((last : ℕ) (store : Store) → Holds old.memory last store → Holds memory last (f store))
    → IsStep (nothing {R = U}) (Ok done) old (record old { memory = memory }) (change_store f)
restored done old memory f holds = record {
  fuel = omega arith;
  ends = λ s h. (with_store s (f s.world.store), stored old memory s (f s.world.store) h (holds old.activations s.world.store h.held), refl);
}

-- an activation ends
pub left : {U : Type 0} (done : U) (old : Machine) (memory : Memory) (activation depth : ℕ) → ((last : ℕ) (store : Store) → Holds old.memory last store → Holds memory last (ends store activation))
    → IsStep (nothing {R = U}) (Ok done) old (record old { memory = memory; depth = depth }) (change (leaving activation depth))
left done old memory activation depth holds = record {
  fuel = omega arith;
  ends = λ s h. (
    record { world = leaving activation depth s.world; fuel = s.fuel },
    record { held = holds old.activations s.world.store h.held; activations = h.activations; depth = refl; input = h.input; output = h.output; fuel = h.fuel },
    refl,
  );
}

-- a store with the same values

among-same : (n : ℕ) (ms : List ℕ) → is_among n ms ≡ stands_in n ms
among-same n [] = refl
among-same n (m ∷ ms) = ap (λ b. if n == m then true else b) (among-same n ms)

zero-same : (kind : Option Kind) (v : o.Value) → meaning.zero_or kind v ≡ changes.zero_or kind v
zero-same None v = refl
zero-same (Some I8) v = refl
zero-same (Some U8) v = refl
zero-same (Some I16) v = refl
zero-same (Some U16) v = refl
zero-same (Some I32) v = refl
zero-same (Some U32) v = refl
zero-same (Some Ptr) v = refl

kind-same : (shape : Option Shape) (i : ℕ) → kind_of_cell shape i ≡ kind_in shape i
kind-same None i = refl
kind-same (Some shape) i = refl

abbrev with_cleared : List ℕ → Object → Store → Store
with_cleared given p store = with_values p (λ i. changes.cleared given (kind_in (store.shape p) i) (store.values p i) i) store

cleared-same : (given : List ℕ) (p : Object) (store : Store) (q : Object) (i : ℕ) → (meaning.cleared given p store).values q i ≡ (with_cleared given p store).values q i
cleared-same given p store q i =
    by-test (same_object q p)
    (λ t.
    let e = same_object-is q p t in
    if-true (same_object q p) (if is_among i given then store.values q i else meaning.zero_or (kind_of_cell (store.shape q) i) (store.values q i)) (store.values q i) t
    ∙ ap (λ (r : Object). if is_among i given then store.values r i else meaning.zero_or (kind_of_cell (store.shape r) i) (store.values r i)) e
    ∙ ap (λ b. if b then store.values p i else meaning.zero_or (kind_of_cell (store.shape p) i) (store.values p i)) (among-same i given)
    ∙ ap (λ v. if stands_in i given then store.values p i else v) (zero-same (kind_of_cell (store.shape p) i) (store.values p i) ∙ ap (λ k. changes.zero_or k (store.values p i)) (kind-same (store.shape p) i))
    ∙ sym (if-true (same_object q p) (changes.cleared given (kind_in (store.shape p) i) (store.values p i) i) (store.values q i) t))
    (λ t.
    if-false (same_object q p) (if is_among i given then store.values q i else meaning.zero_or (kind_of_cell (store.shape q) i) (store.values q i)) (store.values q i) t
    ∙ sym (if-false (same_object q p) (changes.cleared given (kind_in (store.shape p) i) (store.values p i) i) (store.values q i) t))

pub cleared-held : (memory : Memory) (last : ℕ) (given : List ℕ) (p : Object) (store : Store) → Holds memory last (with_cleared given p store) → Holds memory last (meaning.cleared given p store)
cleared-held memory last given p store h = record {
  ordered = h.ordered;
  objects = λ q.
      lives-again (live_at memory.activations.items q) (live_at memory.activations.items q) (store.shape q) (store.shape q) ((with_cleared given p store).values q) ((meaning.cleared given p store).values q) refl refl
      (cleared-same given p store q) (h.objects q);
}
