-- Stores without the objects that compiled code alone has.
use Rattle.std.proofs.Common.{◌≡◌, ℕ, List, Bool, true, false, refl, sym, ap, ◌∙◌, subst, get_or}
use Rattle.std.specs.Prelude.{Option, Some, None, ℤ, pos, negsuc, ◌+◌, ◌+ℤ◌, ◌==◌, if◌then◌else◌, Ok, Err}
use Rattle.std.specs.Prelude.{Result as Either}
use Rattle.im_num.specs.declared.kind.Kind.{Kind}
use Rattle.im_store.specs.declared.undefined.Undefined.{Undefined}
use Rattle.im_store.specs.declared.undefined.Undefined.TheVariants.{NoSuchCell}
use Rattle.im_store.specs.Checks.{Fine, Bad, unless}
use Rattle.im_store.specs.Objects as o
use Rattle.im_store.specs.Objects.{Name, Named, Slot, Link, Object, Shape, Store, ends, lives}
use Rattle.im_store.specs.Access.{is_of_kind, has_cell, stands, taken, read_cell, with_value, write_cell}
use Rattle.im_store.specs.Pointers.{within, moved_by, member_at}
use Rattle.im_store.proofs.Same.{same_kind-is}
use Rattle.im_eval_store.specs.declared.memory.Activation.{Activation}
use Rattle.im_eval_store.specs.declared.memory.Live.{Live}
use Rattle.im_eval_store.specs.declared.memory.Memory.{Memory}
use Rattle.im_eval_store.specs.declared.value.ObjectName.{ObjectName}
use Rattle.im_eval_store.specs.declared.value.Value.{Value}
use Rattle.im_eval_store.specs.declared.value.Value.TheVariants.{Number, Null, Pointer, Unset}
use Rattle.im_eval_store.specs.Changes.{Stores}
use Rattle.im_eval_store.specs.Living.{live_at, LivesAs, IsHeld, Holds}
use Rattle.im_eval_store.specs.Shown.{object_of, shown}
use Rattle.im_eval_store.proofs.Finding.{by-test, if-true, if-false}
use Rattle.im_eval_store.proofs.Revised.{lives-again}
use Rattle.im_block_run.specs.Found.{StoresPlain}
use Rattle.im_block_run.specs.Shown.{plain, plain_shape}

-- stores that agree at each object
pub held-as : (all : List Activation) (last : ℕ) (store new : Store) → ((q : Object) → new.shape q ≡ store.shape q) → ((q : Object) (i : ℕ) → new.values q i ≡ store.values q i) → IsHeld all last store → IsHeld all last new
held-as all last store new shapes values h = record {
  ordered = h.ordered;
  objects = λ q. lives-again (live_at all q) (live_at all q) (store.shape q) (new.shape q) (store.values q) (new.values q) refl (shapes q) (values q) (h.objects q);
}

-- an activation that ends
without : (name : Name) (gone : Bool) (shape : Option Shape) → plain_shape name (if gone then None else shape) ≡ (if gone then None else plain_shape name shape)
without (Named n) gone shape = refl
without (Slot n) true shape = refl
without (Slot n) false shape = refl
without Link true shape = refl
without Link false shape = refl

pub ended : (all : List Activation) (last number : ℕ) (store : Store) → IsHeld all last (ends (plain store) number) → IsHeld all last (plain (ends store number))
ended all last number store h =
    held-as all last (ends (plain store) number) (plain (ends store number)) (λ q. without q.name (q.activation == number) (store.shape q)) (λ q i. refl) h

-- places
within-plain : (store : Store) (p : ObjectName) (z : ℤ) → within (plain store) (object_of p) z ≡ within store (object_of p) z
within-plain store p (pos n) = refl
within-plain store p (negsuc n) = refl

pub moved-plain : (store : Store) (d : ℤ) (v : Value) → moved_by (plain store) d (shown v) ≡ moved_by store d (shown v)
moved-plain store d (Number n) = refl
moved-plain store d Null = refl
moved-plain store d (Pointer p) = within-plain store p.object (pos p.offset +ℤ d)
moved-plain store d Unset = refl

pub member-plain : (store : Store) (d : ℕ) (v : Value) → member_at (plain store) d (shown v) ≡ member_at store d (shown v)
member-plain store d (Number n) = refl
member-plain store d Null = refl
member-plain store d (Pointer p) = within-plain store p.object (pos (p.offset + d))
member-plain store d Unset = refl

-- what a cell has is shown by a value
of-kind : (kind : Kind) (r : Option Kind) → is_of_kind kind r ≡ true → r ≡ Some kind
of-kind kind None e = absurd (cc)
of-kind kind (Some k) e = ap Some (same_kind-is k kind e)

shown-cell : (r : Option Live) (t : Option Shape) (values : ℕ → o.Value) (offset : ℕ) (kind : Kind) → LivesAs r t values → has_cell offset kind t ≡ true → (w : Value) × (values offset ≡ shown w)
shown-cell None None values offset kind h e = absurd (cc)
shown-cell None (Some t) values offset kind h e = absurd h
shown-cell (Some x) None values offset kind h e = absurd h
shown-cell (Some x) (Some t) values offset kind h e = (get_or x.values.items offset Unset, h.have offset kind (of-kind kind (t.cells offset) e))

taken-plain : (store : Store) (w : Value) → taken (plain store) (shown w) ≡ taken store (shown w)
taken-plain store (Number n) = refl
taken-plain store Null = refl
taken-plain store (Pointer p) = refl
taken-plain store Unset = refl

pub read-plain : (m : Memory) (last : ℕ) (store : Store) (p : ObjectName) (offset : ℕ) (kind : Kind) → Holds m last (plain store) → read_cell (plain store) (object_of p) offset kind ≡ read_cell store (object_of p) offset kind
read-plain m last store p offset kind h =
    let q = object_of p in
    by-test (stands store q offset kind)
    (λ t.
    let w = shown-cell (live_at m.activations.items q) (store.shape q) (store.values q) offset kind (h.objects q) t in
    let same : taken (plain store) (store.values q offset) ≡ taken store (store.values q offset) = ap (taken (plain store)) w.1 ∙ taken-plain store w.0 ∙ sym (ap (taken store) w.1) in
    if-true (stands store q offset kind) (taken (plain store) (store.values q offset)) (Bad NoSuchCell) t
    ∙ same
    ∙ sym (if-true (stands store q offset kind) (taken store (store.values q offset)) (Bad NoSuchCell) t))
    (λ t.
    if-false (stands store q offset kind) (taken (plain store) (store.values q offset)) (Bad NoSuchCell) t
    ∙ sym (if-false (stands store q offset kind) (taken store (store.values q offset)) (Bad NoSuchCell) t))

-- what a write leaves
unless-fine : (b : Bool) (w after : Store) (why : Undefined) → unless b (plain w) why ≡ Fine after → (unless b w why ≡ Fine w) × (plain w ≡ after)
unless-fine true w after why e = (refl, cc)
unless-fine false w after why e = absurd (cc)

unless-bad : (b : Bool) (w : Store) (why x : Undefined) → unless b (plain w) why ≡ Bad x → unless b w why ≡ Bad x
unless-bad true w why x e = absurd (cc)
unless-bad false w why x e = e

pub wrote : {A : Type 0} (r : Either A Undefined) (m : Memory) (last : ℕ) (store : Store) (p : ObjectName) (offset : ℕ) (kind : Kind) (v : o.Value) → Stores r m last (write_cell (plain store) (object_of p) offset kind v)
    → StoresPlain r m last (write_cell store (object_of p) offset kind v)
wrote (Ok done) m last store p offset kind v h =
    let w : Store = record store { values = with_value store.values (object_of p) offset v } in
    let u = unless-fine (stands store (object_of p) offset kind) w h.0 NoSuchCell h.1 in
    (w, u.0, subst (λ (s : Store). Holds m last s) (sym u.1) h.2)
wrote (Err why) m last store p offset kind v h =
    let w : Store = record store { values = with_value store.values (object_of p) offset v } in
    unless-bad (stands store (object_of p) offset kind) w NoSuchCell why h
