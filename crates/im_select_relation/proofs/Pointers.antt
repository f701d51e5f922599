-- Comparisons, moves and distances of places.
use Rattle.std.proofs.Common.{◌≡◌, ◌≢◌, ℕ, ◌+◌, ◌-◌, ◌*◌, ◌%◌, ◌^◌, ◌<◌, inl, inr, ℤ, pos, ◌+ℤ◌, ◌-ℤ◌, ◌*ℤ◌, Bool, true, false, List, Option, sym, ap, ◌∙◌, subst, arith}
use Rattle.std.specs.Prelude.{neg_ℤ, nat_lt, not, ◌==◌, ◌&&◌, int_div, int_rem}
use Rattle.std.specs.Ordering.{int_eq}
use Rattle.std.proofs.lemmas.Int.{ints}
use Rattle.std.proofs.lemmas.Bool.Decides.{nat_tests}
use Rattle.im_num.specs.Kinds.{word}
use Rattle.im_rv.specs.Steps.{sum_of, difference_of, signed, quotient}
use Rattle.im_select_relation.proofs.Words.{as_word, word_of, signed_low, signed_high, below_or_not}
use Rattle.im_select_relation.proofs.Arithmetic.{word_product}
use Rattle.im_select_relation.proofs.Division.{quotient_word}
use Rattle.im_select_relation.proofs.Comparisons.{outcome, no_difference, some_difference, compares_shifted}
use Rattle.im_store.specs.Checks.{Fine}
use Rattle.im_store.specs.declared.operators.Comparison.{Comparison}
use Rattle.im_store.specs.declared.operators.Comparison.TheVariants.{Less, Greater, LessOrEqual, GreaterOrEqual, Equal, NotEqual}
use Rattle.im_store.specs.Numbers.{compares}
use Rattle.im_store.specs.Objects.{Object, Value, Number, Null, Pointer, Unset, Shape, Store, same_object, lives}
use Rattle.im_store.specs.Pointers.{bytes_moved, moved_by, distance, same_place, ordered, compare_places}
use Rattle.im_block.specs.Meaning.{pointer_of, number_of, moved, distance_of}
use Rattle.im_select_relation.specs.Linking.{Linking, Means, address}
use Rattle.im_select_relation.proofs.Mapped.{Mark, Mapped}
use Rattle.im_select_relation.proofs.Values.{Within, both_true, live, within_live, within_means, no_wrap, unless_fine, same_true, equal_places}
use Rattle.im_select_relation.proofs.Checks.{fine_is, then_fine}
use Rattle.im_select_relation.proofs.Calls.{number_word}

-- a pointer in use: null, or a place in a live object or directly behind it
pub data InUse (p : Linking) (shape : Object → Option Shape) (w : ℕ) : Value → Type 0 where
  Nowhere : w ≡ 0 → InUse p shape w Null
  At : (o : Object) (i : ℕ) → Within shape o i → w ≡ address p o + i → w < 3145728 → 0 < w → InUse p shape w (Pointer o i)

pub in_use : (p : Linking) (store : Store) (frames : List Mark) (v a : Value) (w : ℕ) → Mapped p store.shape frames → pointer_of store v ≡ Fine a → Means p v w → InUse p store.shape w a
in_use p store frames (Number z) a w m h k = absurd cc
in_use p store frames Null a w m h k = subst (λ q. InUse p store.shape w q) (fine_is Null a h) (Nowhere k)
in_use p store frames (Pointer o i) a w m h k =
    let f = unless_fine (lives store o) (Pointer o i) a _ h in
    let q = within_live p store.shape frames o i m k.1 (live store o f.0) in
    let n = no_wrap p store.shape frames o i m q in
    let e : w ≡ address p o + i = (let c = k.0 in let d = n.0 in omega arith) in
    subst (λ q. InUse p store.shape w q) f.1 (At o i q e (let d = n.0 in omega arith) (let d = n.1 in omega arith))
in_use p store frames Unset a w m h k = absurd cc

pub use_small : (p : Linking) (shape : Object → Option Shape) (w : ℕ) (a : Value) → InUse p shape w a → w < 2 ^ 32
use_small p shape w a (Nowhere e) = omega arith
use_small p shape w a (At o i q f t s) = omega arith

same_word : (p : Linking) (shape : Object → Option Shape) (frames : List Mark) (a b : Value) (x y : ℕ) → Mapped p shape frames → InUse p shape x a → InUse p shape y b → same_place a b ≡ (x == y)
same_word p shape frames a b x y m (Nowhere e) (Nowhere f) = zero_both x y e f
  where
    zero_both : (x y : ℕ) → x ≡ 0 → y ≡ 0 → true ≡ (x == y)
    zero_both x y e f = grind (arith, nat_tests)
same_word p shape frames a b x y m (Nowhere e) (At o i q f t s) = differ x y (omega arith)
  where
    differ : (x y : ℕ) → x ≢ y → false ≡ (x == y)
    differ x y ne = grind (arith, nat_tests)
same_word p shape frames a b x y m (At o i q f t s) (Nowhere e) = differ x y (omega arith)
  where
    differ : (x y : ℕ) → x ≢ y → false ≡ (x == y)
    differ x y ne = grind (arith, nat_tests)
same_word p shape frames a b x y m (At o i q f t s) (At o' j r g t' s') =
    sym (equal_places p shape frames o o' i j m q r) ∙ ap (λ z. z == address p o' + j) (sym f) ∙ ap (λ z. x == z) (sym g)

-- two places of one object
ordered_word : (p : Linking) (shape : Object → Option Shape) (op : Comparison) (a b : Value) (x y : ℕ) (t : Bool) → InUse p shape x a → InUse p shape y b → ordered op a b ≡ Fine t → t ≡ outcome nat_lt op x y
ordered_word p shape op a b x y t (Nowhere e) (Nowhere f) h = absurd cc
ordered_word p shape op a b x y t (Nowhere e) (At o i q f l s) h = absurd cc
ordered_word p shape op a b x y t (At o i q f l s) (Nowhere e) h = absurd cc
ordered_word p shape op a b x y t (At o i q f l s) (At o' j r g l' s') h =
    let k = unless_fine (same_object o o') (compares op (pos i) (pos j)) t _ h in
    let e : address p o' ≡ address p o = ap (λ z. address p z) (sym (same_true o o' k.0)) in
    let f' : address p o + i ≡ x = sym f in
    let g' : address p o + j ≡ y = omega arith in
    sym k.1 ∙ compares_shifted op (address p o) i j (omega arith) (omega arith) ∙ ap (λ z. outcome nat_lt op z (address p o + j)) f' ∙ ap (outcome nat_lt op x) g'

small_use : (p : Linking) (shape : Object → Option Shape) (a : Value) (x : ℕ) → InUse p shape x a → x < 2 ^ 32
small_use p shape a x (Nowhere e) = omega arith
small_use p shape a x (At o i q f l s) = omega arith

pub places_word : (p : Linking) (shape : Object → Option Shape) (frames : List Mark) (op : Comparison) (a b : Value) (x y : ℕ) (t : Bool) → Mapped p shape frames → InUse p shape x a → InUse p shape y b → compare_places op a b ≡ Fine t → t ≡ outcome nat_lt op x y
places_word p shape frames Equal a b x y t m h k e = sym (fine_is _ t e) ∙ same_word p shape frames a b x y m h k ∙ sym (no_difference x y (small_use p shape a x h) (small_use p shape b y k))
places_word p shape frames NotEqual a b x y t m h k e = sym (fine_is _ t e) ∙ ap not (same_word p shape frames a b x y m h k) ∙ sym (some_difference x y (small_use p shape a x h) (small_use p shape b y k))
places_word p shape frames Less a b x y t m h k e = ordered_word p shape Less a b x y t h k e
places_word p shape frames Greater a b x y t m h k e = ordered_word p shape Greater a b x y t h k e
places_word p shape frames LessOrEqual a b x y t m h k e = ordered_word p shape LessOrEqual a b x y t h k e
places_word p shape frames GreaterOrEqual a b x y t m h k e = ordered_word p shape GreaterOrEqual a b x y t h k e

-- a pointer moved by elements

step_up : (start i j d w : ℕ) (z t : ℤ) → z ≡ pos d +ℤ t *ℤ pos 4294967296 → d < 2 ^ 32 → pos i +ℤ z ≡ pos j → w ≡ sum_of start i → sum_of w d ≡ sum_of start j
step_up start i j d w z t e small f g = omega (arith, ints)

step_down : (start i j d w : ℕ) (z t : ℤ) → z ≡ pos d +ℤ t *ℤ pos 4294967296 → d < 2 ^ 32 → pos i +ℤ neg_ℤ z ≡ pos j → w ≡ sum_of start i → difference_of w d ≡ sum_of start j
step_down start i j d w z t e small f g = omega (arith, ints)

-- the machine's word for a pointer moved by so many bytes
abbrev pub moved_word : Bool → ℕ → ℕ → ℕ
moved_word true w d = difference_of w d
moved_word false w d = sum_of w d

moved_at : (p : Linking) (store : Store) (frames : List Mark) (size : ℕ) (back : Bool) (z : ℤ) (pointer v : Value) (w : ℕ) → Mapped p store.shape frames → moved_by store (bytes_moved size back z) pointer ≡ Fine v → Means p pointer w → Means p v (moved_word back w (word (z *ℤ pos size)))
moved_at p store frames size back z (Number n) v w m h k = absurd cc
moved_at p store frames size back z Null v w m h k = absurd cc
moved_at p store frames size true z (Pointer o i) v w m h k =
    let a = as_word (z *ℤ pos size) in
    within_means p store frames o (pos i +ℤ neg_ℤ (z *ℤ pos size)) v (difference_of w (word (z *ℤ pos size))) m h (λ j e. step_down (address p o) i j (word (z *ℤ pos size)) w (z *ℤ pos size) a.turns a.is a.small e k.0)
moved_at p store frames size false z (Pointer o i) v w m h k =
    let a = as_word (z *ℤ pos size) in
    within_means p store frames o (pos i +ℤ (z *ℤ pos size)) v (sum_of w (word (z *ℤ pos size))) m h (λ j e. step_up (address p o) i j (word (z *ℤ pos size)) w (z *ℤ pos size) a.turns a.is a.small e k.0)
moved_at p store frames size back z Unset v w m h k = absurd cc

turn : (a b : ℕ) → a * b % 2 ^ 32 ≡ b * a % 2 ^ 32
turn a b = omega arith

pub moved_means : (p : Linking) (store : Store) (frames : List Mark) (size : ℕ) (back : Bool) (pointer by v : Value) (w x : ℕ) → size < 2 ^ 32 → Mapped p store.shape frames → moved store size back pointer by ≡ Fine v → Means p pointer w → Means p by x → Means p v (moved_word back w (size * x % 2 ^ 32))
moved_means p store frames size back pointer by v w x small m h k l =
    let t = then_fine (number_of by) _ v h in
    let e : x ≡ word t.a = number_word p by x t.a t.first l in
    let f : word (t.a *ℤ pos size) ≡ size * x % 2 ^ 32 = word_product t.a (pos size) ∙ ap (λ q. word t.a * q % 2 ^ 32) (word_of size small) ∙ turn (word t.a) size ∙ ap (λ q. size * q % 2 ^ 32) (sym e) in
    subst (λ q. Means p v (moved_word back w q)) f (moved_at p store frames size back t.a pointer v w m t.second k)

-- the distance of two places of one object

apart_signed : (s i j : ℕ) → s + i < 3145728 → s + j < 3145728 → signed (difference_of (s + i) (s + j)) ≡ pos i -ℤ pos j
apart_signed s i j h k = elim (below_or_not i j) [
  | inl l ↦ (let e : difference_of (s + i) (s + j) ≡ 4294967296 - (j - i) = omega arith in let f = signed_high (difference_of (s + i) (s + j)) (omega arith) (omega arith) in f ∙ (omega (arith, ints)))
  | inr l ↦ (let e : difference_of (s + i) (s + j) ≡ i - j = omega arith in let f = signed_low (difference_of (s + i) (s + j)) (omega arith) in f ∙ (omega (arith, ints)))
]

distance_word : (p : Linking) (shape : Object → Option Shape) (size : ℕ) (a b : Value) (x y : ℕ) (z : ℤ) → 0 < size → size < 2 ^ 31 → InUse p shape x a → InUse p shape y b → distance size a b ≡ Fine z → quotient (difference_of x y) size ≡ word z
distance_word p shape size a b x y z some small (Nowhere e) (Nowhere f) h = absurd cc
distance_word p shape size a b x y z some small (Nowhere e) (At o i q f l s) h = absurd cc
distance_word p shape size a b x y z some small (At o i q f l s) (Nowhere e) h = absurd cc
distance_word p shape size a b x y z some small (At o i q f l s) (At o' j r g l' s') h =
    let k = unless_fine (same_object o o' && int_eq (int_rem (pos i -ℤ pos j) (pos size)) (pos 0)) (int_div (pos i -ℤ pos j) (pos size)) z _ h in
    let t = both_true (same_object o o') (int_eq (int_rem (pos i -ℤ pos j) (pos size)) (pos 0)) k.0 in
    let e : address p o' ≡ address p o = ap (λ q. address p q) (sym (same_true o o' t.0)) in
    let g' : y ≡ address p o + j = omega arith in
    let d : signed (difference_of x y) ≡ pos i -ℤ pos j = ap (λ q. signed (difference_of q y)) f ∙ ap (λ q. signed (difference_of (address p o + i) q)) g' ∙ apart_signed (address p o) i j (omega arith) (omega arith) in
    quotient_word (difference_of x y) size (omega arith) some small ∙ ap (λ q. word (int_div q (pos size))) d ∙ ap word k.1

pub distance_means : (p : Linking) (store : Store) (frames : List Mark) (size : ℕ) (v w : Value) (x y : ℕ) (z : ℤ) → 0 < size → size < 2 ^ 31 → Mapped p store.shape frames → distance_of store size v w ≡ Fine z → Means p v x → Means p w y → quotient (difference_of x y) size ≡ word z
distance_means p store frames size v w x y z some small m h k l =
    let t = then_fine (pointer_of store v) _ z h in
    let r = then_fine (pointer_of store w) _ z t.second in
    distance_word p store.shape size t.a r.a x y z some small (in_use p store frames v t.a x m t.first k) (in_use p store frames w r.a y m r.first l) r.second
