-- A cell's word and the value that is shown of it.
use Rattle.std.proofs.Common.{◌≡◌, ◌≢◌, ℕ, ◌+◌, ◌*◌, ◌%◌, ◌^◌, ◌<◌, ◌≤◌, inl, inr, Bool, true, false, Option, Some, None, refl, sym, ap, ◌∙◌, subst, arith}
use Rattle.std.specs.Prelude.{ℤ, pos, if◌then◌else◌, ◌==◌, List, slice_get}
use Rattle.std.proofs.lemmas.Bool.Decides.{nat_tests}
use Rattle.std.proofs.lemmas.Int.{ints}
use Rattle.im_num.specs.declared.kind.Kind.{Kind}
use Rattle.im_num.specs.declared.kind.Kind.TheVariants.{I8, U8, I16, U16, I32, U32, Ptr}
use Rattle.im_num.specs.declared.values.CellValue.TheVariants.{Number as ANumber, Inside, Local}
use Rattle.im_num.specs.Kinds.{kind_size, wrap, word, IsOfKind}
use Rattle.im_num.proofs.Wrapping.{wrap-of_kind}
use Rattle.im_mem.specs.Map.{statics_start, statics_capacity}
use Rattle.im_mem.specs.Memory.{Mem, little}
use Rattle.im_rv.specs.Steps.{extended, sum_of}
use Rattle.im_image.specs.Contents.{ObjectValue}
use Rattle.im_device.specs.Variables.{value_of, pointer_of}
use Rattle.im_select_relation.specs.OperatorTables.{extension_of, cell_word}
use Rattle.im_select_relation.proofs.Words.{as_word, word_of, loaded_wrap}
use Rattle.im_store.specs.Objects.{Name, Named, Slot, Link, Object, static, Value, Number, Null, Pointer, Unset, shape_of}
use Rattle.im_store.specs.Statics.{StaticObject, static_shapes}
use Rattle.im_store.specs.Outcomes.{static_shown, place_shown, cell_shown}
use Rattle.im_typed.specs.Typing.{IsInteger, HasPlace}
use Rattle.im_typed.specs.Sound.{IsShown}
use Rattle.im_select_relation.specs.Linking.{Linking, Means, IsPlaced, LaidOut, address}
use Rattle.im_select_addresses.specs.Named.{AreNamed}
use Rattle.im_select_addresses.proofs.Pointers.{shaped, static_place, stack_place}

-- two numbers of a kind with one word are one
same_number : (k : Kind) (y z : ℤ) → IsOfKind k y → IsOfKind k z → word y ≡ word z → y ≡ z
same_number I8 y z a b e = let c = as_word y in let d = as_word z in let i = c.is in let j = d.is in let l = a.low in let h = a.high in let m = b.low in let n = b.high in omega (arith, ints)
same_number U8 y z a b e = let c = as_word y in let d = as_word z in let i = c.is in let j = d.is in let l = a.low in let h = a.high in let m = b.low in let n = b.high in omega (arith, ints)
same_number I16 y z a b e = let c = as_word y in let d = as_word z in let i = c.is in let j = d.is in let l = a.low in let h = a.high in let m = b.low in let n = b.high in omega (arith, ints)
same_number U16 y z a b e = let c = as_word y in let d = as_word z in let i = c.is in let j = d.is in let l = a.low in let h = a.high in let m = b.low in let n = b.high in omega (arith, ints)
same_number I32 y z a b e = let c = as_word y in let d = as_word z in let i = c.is in let j = d.is in let l = a.low in let h = a.high in let m = b.low in let n = b.high in omega (arith, ints)
same_number U32 y z a b e = let c = as_word y in let d = as_word z in let i = c.is in let j = d.is in let l = a.low in let h = a.high in let m = b.low in let n = b.high in omega (arith, ints)
same_number Ptr y z a b e = let c = as_word y in let d = as_word z in let i = c.is in let j = d.is in let l = a.low in let h = a.high in let m = b.low in let n = b.high in omega (arith, ints)

-- the bytes of a cell make a number below its span
few_bytes : (k : Kind) (m : Mem) (a : ℕ) → ((i : ℕ) → m i < 256) → little m a (kind_size k) < 2 ^ (8 * kind_size k)
few_bytes I8 m a h = omega (arith, h a)
few_bytes U8 m a h = omega (arith, h a)
few_bytes I16 m a h = omega (arith, h a, h (a + 1))
few_bytes U16 m a h = omega (arith, h a, h (a + 1))
few_bytes I32 m a h = omega (arith, h a, h (a + 1), h (a + 1 + 1), h (a + 1 + 1 + 1))
few_bytes U32 m a h = omega (arith, h a, h (a + 1), h (a + 1 + 1), h (a + 1 + 1 + 1))
few_bytes Ptr m a h = omega (arith, h a, h (a + 1), h (a + 1 + 1), h (a + 1 + 1 + 1))

span_fits : (k : Kind) (n : ℕ) → n < 2 ^ (8 * kind_size k) → (n < 2 ^ 32) × (n % 2 ^ (8 * kind_size k) ≡ n)
span_fits I8 n h = (omega arith, omega arith)
span_fits U8 n h = (omega arith, omega arith)
span_fits I16 n h = (omega arith, omega arith)
span_fits U16 n h = (omega arith, omega arith)
span_fits I32 n h = (omega arith, omega arith)
span_fits U32 n h = (omega arith, omega arith)
span_fits Ptr n h = (omega arith, omega arith)

-- the number that a cell's bytes make, in its kind
number_in : (k : Kind) (n : ℕ) (z : ℤ) → n < 2 ^ (8 * kind_size k) → IsOfKind k z → extended (kind_size k) (extension_of k) n ≡ word z → wrap k (pos n) ≡ z
number_in k n z small kind e =
    let f = span_fits k n small in
    let w : word (pos n) ≡ n = word_of n f.0 in
    let back : word (wrap k (pos n)) ≡ word z = sym (loaded_wrap k (pos n)) ∙ ap (λ q. extended (kind_size k) (extension_of k) (q % 2 ^ (8 * kind_size k))) w ∙ ap (extended (kind_size k) (extension_of k)) f.1 ∙ e in
    same_number k (wrap k (pos n)) z (wrap-of_kind k (pos n)) kind back

plain_value : (objects : List ObjectValue) (k : Kind) (n : ℕ) → k ≢ Ptr → value_of objects k n ≡ ANumber (wrap k (pos n))
plain_value objects I8 n h = refl
plain_value objects U8 n h = refl
plain_value objects I16 n h = refl
plain_value objects U16 n h = refl
plain_value objects I32 n h = refl
plain_value objects U32 n h = refl
plain_value objects Ptr n h = absurd (h refl)

place_kind : (statics : List StaticObject) (k : Kind) (b : Bool) (name : Name) (i : ℕ) → IsShown statics k (if b then static_shown name i else Local) → k ≡ Ptr
place_kind statics k true (Named n) i h = h.0
place_kind statics k true (Slot n) i h = h
place_kind statics k true Link i h = h
place_kind statics k false name i h = h

number_same : (objects : List ObjectValue) (m : Mem) (k : Kind) (a : ℕ) (z : ℤ) → ((i : ℕ) → m i < 256) → IsInteger k → IsOfKind k z → cell_word m k a ≡ word z
    → value_of objects k (little m a (kind_size k)) ≡ ANumber z
number_same objects m k a z small plain kind e =
    plain_value objects k (little m a (kind_size k)) (no_pointer k plain) ∙ ap ANumber (number_in k (little m a (kind_size k)) z (few_bytes k m a small) kind e)
  where
    no_pointer : (k : Kind) → IsInteger k → k ≢ Ptr
    no_pointer I8 h e = absurd cc
    no_pointer U8 h e = absurd cc
    no_pointer I16 h e = absurd cc
    no_pointer U16 h e = absurd cc
    no_pointer I32 h e = absurd cc
    no_pointer U32 h e = absurd cc
    no_pointer Ptr h e = absurd h

module _ (p : Linking) (objects : List ObjectValue) (statics : List StaticObject) (laid : LaidOut p (static_shapes statics) statics_start (statics_start + statics_capacity)) (named : AreNamed p 0 statics objects) where
  -- a place in a static, or elsewhere
  in_static : (n i w : ℕ) (s : Option StaticObject) → slice_get statics n ≡ s → HasPlace s i → w ≡ sum_of (p.at (Named n)) i → pointer_of objects w ≡ Inside n i
  in_static n i w None e h at = absurd h
  in_static n i w (Some s) e h at =
      let inside = laid.inside (Named n) (shape_of s.size s.cells) (shaped statics n s e) in
      static_place p statics objects laid named w n i s e (omega arith) h

  local_shown : (b : Bool) (name : Name) (i : ℕ) → b ≡ false → (if b then static_shown name i else Local) ≡ Local
  local_shown true name i e = cc
  local_shown false name i e = refl

  placed_same : (o : Object) (i w : ℕ) → IsShown statics Ptr (place_shown o i) → w ≡ sum_of (address p o) i → i ≤ p.size o.name → IsPlaced p o → pointer_of objects w ≡ place_shown o i
  placed_same o i w shown at fits (inl (n, e)) =
      let right : IsShown statics Ptr (Inside n i) = subst (λ z. IsShown statics Ptr (place_shown z i)) e shown in
      let there : w ≡ sum_of (address p (static n)) i = at ∙ ap (λ z. sum_of (address p z) i) e in
      let place : w ≡ sum_of (p.at (Named n)) i = omega arith in
      in_static n i w (slice_get statics n) refl right.1 place ∙ ap (λ z. place_shown z i) (sym e)
  placed_same o i w shown at fits (inr (some, low, high)) =
      stack_place p statics objects laid named w (omega arith) ∙ sym (local_shown (o.activation == 0) o.name i (not_zero o.activation some))
    where
      not_zero : (n : ℕ) → 0 < n → (n == 0) ≡ false
      not_zero n l = grind (arith, nat_tests)

  pointer_same : (m : Mem) (a : ℕ) (v : Value) → IsShown statics Ptr (cell_shown v) → Means p v (little m a 4) → pointer_of objects (little m a 4) ≡ cell_shown v
  pointer_same m a (Number z) shown means = absurd shown.0
  pointer_same m a Null shown means = ap (pointer_of objects) means
  pointer_same m a (Pointer o i) shown means = placed_same o i (little m a 4) shown means.0 means.1 means.2
  pointer_same m a Unset shown means = absurd shown

  pub cell_same : (m : Mem) (k : Kind) (a : ℕ) (v : Value) → ((i : ℕ) → m i < 256) → IsShown statics k (cell_shown v) → Means p v (cell_word m k a) → value_of objects k (little m a (kind_size k)) ≡ cell_shown v
  cell_same m k a (Number z) small shown means = number_same objects m k a z small shown.0 shown.1 means
  cell_same m k a Null small shown means = by k shown means
    where
      by : (k : Kind) → k ≡ Ptr → Means p Null (cell_word m k a) → value_of objects k (little m a (kind_size k)) ≡ cell_shown Null
      by Ptr e h = pointer_same m a Null refl h
      by I8 e h = absurd cc
      by U8 e h = absurd cc
      by I16 e h = absurd cc
      by U16 e h = absurd cc
      by I32 e h = absurd cc
      by U32 e h = absurd cc
  cell_same m k a (Pointer o i) small shown means = by k (place_kind statics k (o.activation == 0) o.name i shown) shown means
    where
      by : (k : Kind) → k ≡ Ptr → IsShown statics k (place_shown o i) → Means p (Pointer o i) (cell_word m k a) → value_of objects k (little m a (kind_size k)) ≡ cell_shown (Pointer o i)
      by Ptr e s h = pointer_same m a (Pointer o i) s h
      by I8 e s h = absurd cc
      by U8 e s h = absurd cc
      by I16 e s h = absurd cc
      by U16 e s h = absurd cc
      by I32 e s h = absurd cc
      by U32 e s h = absurd cc
  cell_same m k a Unset small shown means = absurd shown
