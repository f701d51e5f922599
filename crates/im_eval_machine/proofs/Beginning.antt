-- The statics before the start of main.
use Rattle.std.proofs.Common.{◌≡◌, ℕ, zero, suc, ◌+◌, ◌-◌, ◌<◌, ◌≤◌, ◌==◌, ◌&&◌, List, [], ◌∷◌, Bool, true, false, map, min, drop, length, get_or, refl, sym, ap, ◌∙◌, subst, arith}
use Rattle.std.specs.Prelude.{Some, None, slice_get, nat_le, nat_lt, Vec, if◌then◌else◌}
use Rattle.std.specs.declared.alloc.Global.{Global}
use Rattle.std.specs.Option.{option_map}
use Rattle.std.proofs.lemmas.Bool.{eq-eqb, eqb-true, le-leb, lt-ltb}
use Rattle.im_num.specs.declared.kind.Kind.{Kind}
use Rattle.im_ctype.specs.declared.cell.Cell.{Cell}
use Rattle.im_ctype.specs.Table.{Table}
use Rattle.im_store.specs.Objects as o
use Rattle.im_store.specs.Objects.{Name, Named, Slot, Link, Object, Shape, shape_of}
use Rattle.im_store.specs.Statics as s
use Rattle.im_store.specs.Statics.{StaticObject, first_value, value_at, with_statics}
use Rattle.im_eval_store.specs.declared.memory.Activation.{Activation}
use Rattle.im_eval_store.specs.declared.memory.Live.{Live}
use Rattle.im_eval_store.specs.declared.plan.Plan.{Plan}
use Rattle.im_eval_store.specs.declared.value.Value.{Value}
use Rattle.im_eval_store.specs.declared.value.Value.TheVariants.{Unset}
use Rattle.im_eval_store.specs.Changes.{with_cell}
use Rattle.im_eval_store.specs.Living.{live_named, live_in, live_at, LivesAs, IsHeld}
use Rattle.im_eval_store.specs.Shown.{shown}
use Rattle.im_eval_store.proofs.Finding.{by-test, if-true, if-false}
use Rattle.im_eval_store.proofs.Revised.{lives-again}
use Rattle.im_eval_machine.specs.Small.{small_static, small_value}
use Rattle.im_typed.specs.ProgramOf.{first_of}
use Rattle.im_eval_machine.proofs.Rows.{dropped-at}
use Rattle.im_typed.specs.declared.program.Constant.{Constant}
use Rattle.im_eval_machine.specs.Firsts.{first_values}
use Rattle.im_eval_machine.specs.Fresh.{AreFresh}
use Rattle.im_eval_machine.specs.Settings.{ArePlans, static_shapes}
use Rattle.im_eval_machine.proofs.Entering.{all-live}

-- the shapes that plans were made of
static-got : (statics : List StaticObject) (k : ℕ) → slice_get (static_shapes statics) k ≡ option_map {T = StaticObject} (λ x. shape_of x.size x.cells) (slice_get statics k)
static-got [] k = refl
static-got (x ∷ statics) zero = refl
static-got (x ∷ statics) (suc k) = static-got statics k

module _ (statics : List StaticObject) (plans : List Plan) (xs : List Live) (are : ArePlans (static_shapes statics) plans) (fresh : AreFresh plans (λ k. first_value (slice_get statics k)) xs) where
  named-static : (n : ℕ) → LivesAs (live_named 0 xs (Named n)) (s.static_shapes statics (Named n)) (first_value (slice_get statics n))
  named-static n =
      let start : nat_le 0 n ≡ true = le-leb 0 n (omega arith) in
      let same : n - 0 ≡ n = omega arith in
      let there : live_named 0 xs (Named n) ≡ slice_get xs n = if-true (nat_le 0 n) (slice_get xs (n - 0)) None start ∙ ap (slice_get xs) same in
      let one = all-live (static_shapes statics) plans (λ k. first_value (slice_get statics k)) xs n (first_value (slice_get statics n)) are fresh (λ i. refl) in
      subst (λ r. LivesAs r (s.static_shapes statics (Named n)) (first_value (slice_get statics n))) (sym there)
      (subst (λ r. LivesAs (slice_get xs n) r (first_value (slice_get statics n))) (static-got statics n) one)

  name-static : (name : Name) → LivesAs (live_named 0 xs name) (s.static_shapes statics name) (s.static_values statics name)
  name-static (Named n) = named-static n
  name-static (Slot n) = tt
  name-static Link = tt

  module _ (objects : Vec Live Global) (items : objects.items ≡ xs) where
    abbrev first_activation : Activation
    first_activation = record { number = 0; depth = 0; first = 0; objects = objects }

    flip : (m n : ℕ) → (m == n) ≡ false → (n == m) ≡ false
    flip m n e =
        by-test (n == m)
        (λ t. absurd (let both : true ≡ false = sym (eq-eqb m n (sym (eqb-true n m t))) ∙ e in cc))
        (λ t. t)

    abbrev store : o.Store
    store = with_statics statics

    lives-there : (p : Object) → LivesAs (live_at (first_activation ∷ []) p) (store.shape p) (store.values p)
    lives-there p =
        by-test (p.activation == 0)
        (λ t.
        let e = eqb-true p.activation 0 t in
        let shape-is = if-true (p.activation == 0) (if p.depth == 0 then s.static_shapes statics p.name else None) None t in
        let live-is = ap (λ r. live_in r p) (if-true (0 == p.activation) (Some first_activation) None (eq-eqb 0 p.activation (sym e))) in
        by-test (p.depth == 0)
        (λ d.
        lives-again (live_named 0 xs p.name) (live_at (first_activation ∷ []) p) (s.static_shapes statics p.name) (store.shape p) (s.static_values statics p.name) (store.values p)
        (live-is ∙ if-true (0 == p.depth) (live_named 0 objects.items p.name) None (eq-eqb 0 p.depth (sym (eqb-true p.depth 0 d))) ∙ ap (λ zs. live_named 0 zs p.name) items)
        (shape-is ∙ if-true (p.depth == 0) (s.static_shapes statics p.name) None d)
        (λ i. if-true (p.activation == 0) (s.static_values statics p.name i) o.Unset t)
        (name-static p.name))
        (λ d.
        lives-again None (live_at (first_activation ∷ []) p) None (store.shape p) (store.values p) (store.values p)
        (live-is ∙ if-false (0 == p.depth) (live_named 0 objects.items p.name) None (flip p.depth 0 d))
        (shape-is ∙ if-false (p.depth == 0) (s.static_shapes statics p.name) None d)
        (λ i. refl) tt))
        (λ t.
        lives-again None (live_at (first_activation ∷ []) p) None (store.shape p) (store.values p) (store.values p)
        (ap (λ r. live_in r p) (if-false (0 == p.activation) (Some first_activation) None (flip p.activation 0 t)))
        (if-false (p.activation == 0) (if p.depth == 0 then s.static_shapes statics p.name else None) None t)
        (λ i. refl) tt)

    pub statics-held : IsHeld (first_activation ∷ []) 0 store
    statics-held = record { ordered = (omega arith, omega arith); objects = lives-there }

-- the numbers that operators take change no object's shape
pub small-shapes : (statics : List StaticObject) → static_shapes (map small_static statics) ≡ static_shapes statics
small-shapes [] = refl
small-shapes (x ∷ statics) = ap (λ zs. shape_of x.size x.cells ∷ zs) (small-shapes statics)

-- a cell more has its first value
both : (b d : Bool) → b ≡ true → d ≡ true → (b && d) ≡ true
both true true e f = refl
both true false e f = absurd (cc)
both false d e f = absurd (cc)

neither : (b d : Bool) → b ≡ false → (b && d) ≡ false
neither false d e = refl
neither true d e = absurd (cc)

flipped : (m n : ℕ) → (m == n) ≡ false → (n == m) ≡ false
flipped m n e =
    by-test (n == m)
    (λ t. absurd (let both : true ≡ false = sym (eq-eqb m n (sym (eqb-true n m t))) ∙ e in cc))
    (λ t. t)

pub cell-more : (old : List Value) (new : Value) (i at : ℕ) (v : Value) (kind : Kind) (cs : List Cell) (vs : List o.Value) → i < length old → new ≡ with_cell old at v i → shown (get_or old i Unset) ≡ value_at cs vs i
    → shown new ≡ value_at (record { offset = at; kind = kind } ∷ cs) (shown v ∷ vs) i
cell-more old new i at v kind cs vs lt set rest =
    by-test (i == at)
    (λ t.
    let e = eqb-true i at t in
    let within : nat_lt at (length old) ≡ true = lt-ltb at (length old) (omega arith) in
    ap shown (set ∙ if-true (i == at && nat_lt at (length old)) v (get_or old i Unset) (both (i == at) (nat_lt at (length old)) t within))
    ∙ sym (if-true (at == i) (shown v) (value_at cs vs i) (eq-eqb at i (sym e))))
    (λ t.
    ap shown (set ∙ if-false (i == at && nat_lt at (length old)) v (get_or old i Unset) (neither (i == at) (nat_lt at (length old)) t))
    ∙ rest ∙ sym (if-false (at == i) (shown v) (value_at cs vs i) (flipped i at t)))

pub no-values : (cs : List Cell) (vs : List o.Value) (i : ℕ) → vs ≡ [] → o.Unset ≡ value_at cs vs i
no-values [] vs i e = refl
no-values (c ∷ cs) vs i e = sym (ap (λ ws. value_at (c ∷ cs) ws i) e)

-- behind the last cell, and behind the last value, there is none
pub at-end : (types : Table) (cs : List Cell) (ks : List Constant) (m i : ℕ) → min (length cs) (length ks) ≤ m → o.Unset ≡ value_at (drop m cs) (first_values types (drop m ks)) i
at-end types [] ks zero i le = refl
at-end types [] ks (suc m) i le = refl
at-end types (c ∷ cs) [] zero i le = refl
at-end types (c ∷ cs) [] (suc m) i le = no-values (drop m cs) [] i refl
at-end types (c ∷ cs) (k ∷ ks) zero i le = absurd (omega arith)
at-end types (c ∷ cs) (k ∷ ks) (suc m) i le = at-end types cs ks m i (let less : min (length cs) (length ks) ≤ m = omega arith in less)

pub set-on : (types : Table) (cs : List Cell) (ks : List Constant) (left i : ℕ) (dc : Cell) (dk : Constant) (old : List Value) (new v : Value) → 0 < left → left ≤ length cs → left ≤ length ks → i < length old
    → new ≡ with_cell old (get_or cs (left - 1) dc).offset v i → shown v ≡ small_value (first_of types (get_or ks (left - 1) dk))
    → shown (get_or old i Unset) ≡ value_at (drop left cs) (first_values types (drop left ks)) i
    → shown new ≡ value_at (drop (left - 1) cs) (first_values types (drop (left - 1) ks)) i
set-on types cs ks left i dc dk old new v some few_cells few_values lt set first rest =
    let k = left - 1 in
    let c = get_or cs k dc in
    let x = get_or ks k dk in
    let back : k + 1 ≡ left = omega arith in
    let cells : drop k cs ≡ c ∷ drop left cs = dropped-at dc cs k (omega arith) ∙ ap (λ n. c ∷ drop n cs) back in
    let constants : drop k ks ≡ x ∷ drop left ks = dropped-at dk ks k (omega arith) ∙ ap (λ n. x ∷ drop n ks) back in
    cell-more old new i c.offset v c.kind (drop left cs) (first_values types (drop left ks)) lt set rest
    ∙ ap (λ w. value_at (c ∷ drop left cs) (w ∷ first_values types (drop left ks)) i) first
    ∙ sym (ap (λ (ds : List Cell). value_at ds (first_values types (x ∷ drop left ks)) i) cells)
    ∙ sym (ap (λ (js : List Constant). value_at (drop k cs) (first_values types js) i) constants)
