-- What each step of the meaning keeps.
use Rattle.std.proofs.Common.{ℕ, [], ◌∷◌, Bool}
use Rattle.std.specs.Prelude.{ℤ}
use Rattle.im_num.specs.declared.kind.Kind.{Kind}
use Rattle.im_num.specs.Kinds.{wrap}
use Rattle.im_store.specs.declared.operators.BinaryOp.{BinaryOp}
use Rattle.im_store.specs.declared.undefined.Undefined.TheVariants.{MissingResult}
use Rattle.im_store.specs.Objects.{Value, Number, Store}
use Rattle.im_store.specs.Access.{taken, read_cells, write_cells, at_place}
use Rattle.im_store.specs.Numbers.{apply}
use Rattle.im_serve.specs.declared.service.Service.{Service}
use Rattle.im_serve.specs.Services.{serve}
use Rattle.im_serve.proofs.Rows.{law_of}
use Rattle.im_typed.specs.declared.expression.Change.{Change}
use Rattle.im_typed.specs.declared.expression.Change.TheVariants.{Number as NumberBy, Move as PointerBy}
use Rattle.im_typed.specs.Program.{Access, Scalar}
use Rattle.im_typed.specs.Runs.{Run, leave_store}
use Rattle.im_typed.specs.Values.{Values, Operates, computes, used, value_in, number_of, number_in, cells_of, read_at, write_at, changed_kind, changed, update}
use Rattle.im_typed.specs.Meaning.{Flow, Next, Broke, Continued, Returned, after, after_turn, decides, after_service, served, change_store}
use Rattle.im_store.specs.Pointers.{moved_by, bytes_moved, holds}
use Rattle.im_typed.proofs.Related.{begins_self, Related, rel-bind, rel-give, rel-undefined, rel-look, rel-checked, rel-in_store, rel-change, rel-either}

pub rel-change_store : {k b : ℕ} (f : Store → Store) → Related k b (change_store f) (change_store f)
rel-change_store f = rel-change (λ w. record w { store = f w.store }) (record { grown = λ w. begins_self w.output })

pub rel-leave_store : {k b : ℕ} (store : Store) → Related k b (leave_store store) (leave_store store)
rel-leave_store store = rel-change (λ w. record w { store = store }) (record { grown = λ w. begins_self w.output })

-- values

pub rel-used : {k b : ℕ} (vs : Values) → Related k b (used vs) (used vs)
rel-used [] = rel-undefined MissingResult
rel-used (v ∷ vs) = rel-in_store (λ store. taken store v)

pub rel-value_in : {k b : ℕ} {m m' : Run Values} → Related k b m m' → Related k b (value_in m) (value_in m')
rel-value_in g = rel-bind g (λ vs. rel-used vs)

pub rel-number_in : {k b : ℕ} {m m' : Run Values} → Related k b m m' → Related k b (number_in m) (number_in m')
rel-number_in g = rel-bind (rel-value_in g) (λ v. rel-checked (number_of v))

-- cells

pub rel-read_at : {k b : ℕ} (x : Access) (at : Value) → Related k b (read_at x at) (read_at x at)
rel-read_at x at = rel-in_store (λ store. at_place at (λ o offset. read_cells store o offset (cells_of x)))

pub rel-write_at : {k b : ℕ} (x : Access) (at : Value) (vs : Values) → Related k b (write_at x at vs) (write_at x at vs)
rel-write_at x at vs =
    rel-bind (rel-in_store (λ store. at_place at (λ o offset. write_cells store o offset (cells_of x) vs)))
    (λ after. rel-bind (rel-leave_store after) (λ _. rel-give vs))

-- operators that are related, whatever they work on
pub record RelatedOperates (k b : ℕ) (operates operates' : Operates) : Type 0 where
  pub by : (op : BinaryOp) (kind : Kind) (x y : ℤ) → Related k b (operates op kind x y) (operates' op kind x y)

pub rel-computes : (k b : ℕ) → RelatedOperates k b computes computes
rel-computes k b = record { by = λ op kind x y. rel-checked (apply op kind x y) }

pub rel-changed : {k b : ℕ} {operates operates' : Operates} → RelatedOperates k b operates operates' → (c : Change) (before : Value) (by : ℤ) → Related k b (changed operates c before by) (changed operates' c before by)
rel-changed h (NumberBy kind op at) before by =
    rel-bind (rel-checked (number_of before)) (λ a. rel-bind (h.by op at (wrap at a) by) (λ z. rel-give (Number (wrap kind z))))
rel-changed h (PointerBy size back) before by = rel-in_store (λ store. moved_by store (bytes_moved size back by) before)

pub rel-update : {k b : ℕ} {operates operates' : Operates} → RelatedOperates k b operates operates' → (c : Change) (old : Bool) (at : Value) {m m' : Run ℤ} → Related k b m m' → Related k b (update operates c old m at) (update operates' c old m' at)
rel-update h c old at g =
    rel-bind (rel-value_in (rel-read_at (Scalar (changed_kind c)) at)) (λ before.
    rel-bind g (λ by. rel-bind (rel-changed h c before by) (λ after.
    rel-bind (rel-write_at (Scalar (changed_kind c)) at (after ∷ [])) (λ _. rel-give _))))

-- input and output

pub rel-served : {k b : ℕ} (capacity : ℕ) (service : Service) (z : ℤ) → Related k b (served capacity service z) (served capacity service z)
rel-served capacity service z =
    rel-bind rel-look (λ w.
    rel-bind (rel-change (after_service capacity service z) (record { grown = λ w. (law_of service).puts capacity z w.input w.output })) (λ _. rel-give (Number (serve service capacity z w.input w.output).value ∷ [])))

-- statements

pub rel-after : {k b : ℕ} (f : Flow) {m m' : Run Flow} → Related k b m m' → Related k b (after f m) (after f m')
rel-after Next g = g
rel-after Broke g = rel-give Broke
rel-after Continued g = rel-give Continued
rel-after (Returned vs) g = rel-give (Returned vs)

pub rel-after_turn : {k b : ℕ} (f : Flow) {m m' : Run Flow} → Related k b m m' → Related k b (after_turn f m) (after_turn f m')
rel-after_turn Next g = g
rel-after_turn Broke g = rel-give Next
rel-after_turn Continued g = g
rel-after_turn (Returned vs) g = rel-give (Returned vs)

pub rel-decides : {k b : ℕ} {test test' : Run Values} {x x' y y' : Run Flow} → Related k b test test' → Related k b x x' → Related k b y y' → Related k b (decides test x y) (decides test' x' y')
rel-decides t g h = rel-bind (rel-value_in t) (λ v. rel-either (holds v) g h)
