-- The statics before the start of main.
use Rattle.std.proofs.Common.{◌≡◌, ℕ, zero, suc, ◌+◌, ◌-◌, ◌<◌, ◌≤◌, ◌==◌, List, [], ◌∷◌, true, false, map, min, drop, length, get_or, refl, sym, ap, ◌∙◌, arith}
use Rattle.std.specs.Prelude.{Bool, None, Vec, slice_get, if◌then◌else◌}
use Rattle.std.specs.declared.alloc.Global.{Global}
use Rattle.im_ctype.specs.declared.cell.Cell.{Cell}
use Rattle.im_store.specs.Objects as o
use Rattle.im_store.specs.Objects.{Name, Named, Slot, Link}
use Rattle.im_store.specs.Statics as s
use Rattle.im_store.specs.Statics.{StaticObject, first_value, value_at, with_statics}
use Rattle.im_block.specs.declared.unit.Constant.{Constant}
use Rattle.im_block.specs.Meaning.{constant}
use Rattle.im_eval_store.specs.declared.memory.Live.{Live}
use Rattle.im_eval_store.specs.declared.plan.Plan.{Plan}
use Rattle.im_eval_store.specs.declared.value.Value.{Value}
use Rattle.im_eval_store.specs.declared.value.Value.TheVariants.{Unset}
use Rattle.im_eval_store.specs.Changes.{with_cell}
use Rattle.im_eval_store.specs.Living.{IsHeld}
use Rattle.im_eval_store.specs.Shown.{shown}
use Rattle.im_eval_machine.specs.Fresh.{AreFresh}
use Rattle.im_eval_machine.specs.Settings.{ArePlans, static_shapes}
use Rattle.im_eval_machine.proofs.Beginning.{cell-more, no-values, statics-held}
use Rattle.im_eval_machine.proofs.Rows.{dropped-at}
use Rattle.im_block_run.specs.Shown.{plain, plain_shape}
use Rattle.im_block_run.proofs.Plain.{held-as}

abbrev constants : List Constant → List o.Value
constants ks = map {A = Constant} constant ks

-- behind the last cell, and behind the last value, there is none
pub at-end : (cs : List Cell) (ks : List Constant) (m i : ℕ) → min (length cs) (length ks) ≤ m → o.Unset ≡ value_at (drop m cs) (constants (drop m ks)) i
at-end [] ks zero i le = refl
at-end [] ks (suc m) i le = refl
at-end (c ∷ cs) [] zero i le = refl
at-end (c ∷ cs) [] (suc m) i le = no-values (drop m cs) [] i refl
at-end (c ∷ cs) (k ∷ ks) zero i le = absurd (omega arith)
at-end (c ∷ cs) (k ∷ ks) (suc m) i le = at-end cs ks m i (let less : min (length cs) (length ks) ≤ m = omega arith in less)

pub set-on : (cs : List Cell) (ks : List Constant) (left i : ℕ) (dc : Cell) (dk : Constant) (old : List Value) (new v : Value) → 0 < left → left ≤ length cs → left ≤ length ks → i < length old
    → new ≡ with_cell old (get_or cs (left - 1) dc).offset v i → constant (get_or ks (left - 1) dk) ≡ shown v
    → shown (get_or old i Unset) ≡ value_at (drop left cs) (constants (drop left ks)) i
    → shown new ≡ value_at (drop (left - 1) cs) (constants (drop (left - 1) ks)) i
set-on cs ks left i dc dk old new v some few_cells few_values lt set first rest =
    let k = left - 1 in
    let c = get_or cs k dc in
    let x = get_or ks k dk in
    let back : k + 1 ≡ left = omega arith in
    let cells : drop k cs ≡ c ∷ drop left cs = dropped-at dc cs k (omega arith) ∙ ap (λ n. c ∷ drop n cs) back in
    let values : drop k ks ≡ x ∷ drop left ks = dropped-at dk ks k (omega arith) ∙ ap (λ n. x ∷ drop n ks) back in
    cell-more old new i c.offset v c.kind (drop left cs) (constants (drop left ks)) lt set rest
    ∙ ap (λ w. value_at (c ∷ drop left cs) (w ∷ constants (drop left ks)) i) (sym first)
    ∙ sym (ap (λ (ds : List Cell). value_at ds (constants (x ∷ drop left ks)) i) cells)
    ∙ sym (ap (λ (js : List Constant). value_at (drop k cs) (constants js) i) values)

-- compiled code's objects aren't there yet
plain-static : (statics : List StaticObject) (name : Name) (b c : Bool) → plain_shape name (if b then (if c then s.static_shapes statics name else None) else None) ≡ (if b then (if c then s.static_shapes statics name else None) else None)
plain-static statics (Named n) b c = refl
plain-static statics (Slot n) true true = refl
plain-static statics (Slot n) true false = refl
plain-static statics (Slot n) false c = refl
plain-static statics Link true true = refl
plain-static statics Link true false = refl
plain-static statics Link false c = refl

pub before-main : (statics : List StaticObject) (plans : List Plan) (objects : Vec Live Global) → ArePlans (static_shapes statics) plans → AreFresh plans (λ k. first_value (slice_get statics k)) objects.items
    → IsHeld (record { number = 0; depth = 0; first = 0; objects = objects } ∷ []) 0 (plain (with_statics statics))
before-main statics plans objects are fresh =
    held-as (record { number = 0; depth = 0; first = 0; objects = objects } ∷ []) 0 (with_statics statics) (plain (with_statics statics))
    (λ q. plain-static statics q.name (q.activation == 0) (q.depth == 0)) (λ q i. refl)
    (statics-held statics plans objects.items are fresh objects refl)
