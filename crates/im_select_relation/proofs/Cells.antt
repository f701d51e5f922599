-- Cells of live objects as bytes: what is read, what a write leaves.
use Rattle.std.proofs.Common.{◌≡◌, ℕ, ◌+◌, ◌*◌, ◌/◌, ◌%◌, ◌^◌, ◌<◌, ◌≤◌, ◌⊎◌, inl, inr, true, false, cond, List, [], ◌∷◌, Option, Some, sym, ap, ◌∙◌, subst, refl, arith}
use Rattle.std.specs.Prelude.{◌==◌, ◌&&◌, not}
use Rattle.std.proofs.lemmas.Bool.Decides.{nat_tests}
use Rattle.im_num.specs.declared.kind.Kind.{Kind}
use Rattle.im_num.specs.declared.kind.Kind.TheVariants.{I8, U8, I16, U16, I32, U32, Ptr}
use Rattle.im_num.specs.Kinds.{kind_size, wrap, word}
use Rattle.im_num.specs.Bytes.{bytes_of}
use Rattle.im_mem.specs.Memory.{Mem, little, is_place, written}
use Rattle.im_mem.proofs.Words.{little-alike, little-other, written-below, written-small}
use Rattle.im_rv.specs.Steps.{extended}
use Rattle.im_select_relation.specs.OperatorTables.{extension_of, cell_word}
use Rattle.im_select_relation.proofs.Words.{loaded_wrap}
use Rattle.im_store.specs.Checks.{Fine}
use Rattle.im_store.specs.Objects.{Object, Value, Number, Null, Pointer, Unset, Shape, same_kind, same_object}
use Rattle.im_store.specs.Access.{with_value}
use Rattle.im_block.specs.Meaning.{stored}
use Rattle.im_rv_reach.specs.Touches.{Flipped, Loaded, Stored, is_system, heard}
use Rattle.im_rv_reach.specs.Instructions.{Fixed}
use Rattle.im_rv_reach.specs.Routines.{Words}
use Rattle.im_rv_reach.proofs.Reach.{quiet_written, length_same}
use Rattle.im_select_relation.specs.Linking.{Linking, Means, address}
use Rattle.im_select_relation.proofs.Registers.{means_at, truth}
use Rattle.im_select_relation.proofs.Mapped.{Mark, Mapped, Cell, cells_apart}
use Rattle.im_select_relation.proofs.Values.{same_by, same_true, unless_fine}
use Rattle.im_select_relation.proofs.Checks.{kind_true}

-- each cell of a live object has the word of its value
abbrev pub Memory : Linking → (Object → Option Shape) → (Object → ℕ → Value) → Mem → Type 0
Memory p shape values m = (o : Object) (i : ℕ) (k : Kind) → Cell p shape o i k → Means p (values o i) (cell_word m k (address p o + i))

abbrev pub IsSize : ℕ → Type 0
IsSize n = (n ≡ 1) ⊎ (n ≡ 2) ⊎ (n ≡ 4)

pub is_size : (k : Kind) → IsSize (kind_size k)
is_size I8 = inl refl
is_size U8 = inl refl
is_size I16 = inr (inl refl)
is_size U16 = inr (inl refl)
is_size I32 = inr (inr refl)
is_size U32 = inr (inr refl)
is_size Ptr = inr (inr refl)

-- where a cell lies
pub record Room (p : Linking) (o : Object) (i : ℕ) (k : Kind) : Type 0 where
  pub low : 1048576 ≤ address p o + i
  pub high : address p o + i + kind_size k < 3145728
  pub place : is_place (address p o + i) (kind_size k) ≡ true

place_of_size : (a i n : ℕ) → IsSize n → a % 4 ≡ 0 → i % n ≡ 0 → a + i + n < 3145728 → is_place (a + i) n ≡ true
place_of_size a i n (inl e) q r l = subst (λ z. is_place (a + i) z ≡ true) (sym e) (let k : a + i + 1 < 3145728 = omega arith in grind (arith, nat_tests))
place_of_size a i n (inr (inl e)) q r l =
    let r2 : i % 2 ≡ 0 = subst (λ z. i % z ≡ 0) e r in
    let k : a + i + 2 < 3145728 = omega arith in
    let d : (a + i) % 2 ≡ 0 = omega arith in
    subst (λ z. is_place (a + i) z ≡ true) (sym e) (grind (arith, nat_tests))
place_of_size a i n (inr (inr e)) q r l =
    let r4 : i % 4 ≡ 0 = subst (λ z. i % z ≡ 0) e r in
    let k : a + i + 4 < 3145728 = omega arith in
    let d : (a + i) % 4 ≡ 0 = omega arith in
    subst (λ z. is_place (a + i) z ≡ true) (sym e) (grind (arith, nat_tests))

pub room : (p : Linking) (shape : Object → Option Shape) (frames : List Mark) (o : Object) (i : ℕ) (k : Kind) → Mapped p shape frames → Cell p shape o i k → Room p o i k
room p shape frames o i k m c =
    let l = m.lies o c.sh c.live in
    let q = l.cells.inside i k c.cell in
    let h : address p o + i + kind_size k < 3145728 = (let g = l.high in omega arith) in
    record {
      low = (let g = l.low in omega arith);
      high = h;
      place = place_of_size (address p o) i (kind_size k) (is_size k) l.even (l.cells.even i k c.cell) h;
    }

-- what is written is read back
pub little_back : (m : Mem) (a n w : ℕ) → IsSize n → little (written m a (bytes_of n w)) a n ≡ w % 2 ^ (8 * n)
little_back m a n w (inl e) = subst (λ z. little (written m a (bytes_of z w)) a z ≡ w % 2 ^ (8 * z)) (sym e) back
  where
    back : little (written m a (bytes_of 1 w)) a 1 ≡ w % 2 ^ 8
    back = let b0 : written m a (bytes_of 1 w) a ≡ w % 256 = grind (arith, nat_tests) in omega (arith, b0)
little_back m a n w (inr (inl e)) = subst (λ z. little (written m a (bytes_of z w)) a z ≡ w % 2 ^ (8 * z)) (sym e) back
  where
    back : little (written m a (bytes_of 2 w)) a 2 ≡ w % 2 ^ 16
    back =
        let b0 : written m a (bytes_of 2 w) a ≡ w % 256 = grind (arith, nat_tests) in
        let b1 : written m a (bytes_of 2 w) (a + 1) ≡ w / 256 % 256 = grind (arith, nat_tests) in
        omega (arith, b0, b1)
little_back m a n w (inr (inr e)) = subst (λ z. little (written m a (bytes_of z w)) a z ≡ w % 2 ^ (8 * z)) (sym e) back
  where
    back : little (written m a (bytes_of 4 w)) a 4 ≡ w % 2 ^ 32
    back =
        let b0 : written m a (bytes_of 4 w) a ≡ w % 256 = grind (arith, nat_tests) in
        let b1 : written m a (bytes_of 4 w) (a + 1) ≡ w / 256 % 256 = grind (arith, nat_tests) in
        let b2 : written m a (bytes_of 4 w) (a + 1 + 1) ≡ w / 256 / 256 % 256 = grind (arith, nat_tests) in
        let b3 : written m a (bytes_of 4 w) (a + 1 + 1 + 1) ≡ w / 256 / 256 / 256 % 256 = grind (arith, nat_tests) in
        omega (arith, b0, b1, b2, b3)

-- a word as a cell of a kind gives it back
abbrev pub back_word : Kind → ℕ → ℕ
back_word k w = extended (kind_size k) (extension_of k) (w % 2 ^ (8 * kind_size k))

ptr_back : (k : Kind) (w : ℕ) → k ≡ Ptr → back_word k w ≡ w % 2 ^ 32
ptr_back k w e = ap (λ z. back_word z w) e

pub means_word : (p : Linking) (v : Value) (w : ℕ) → Means p v w → Means p v (w % 2 ^ 32)
means_word p (Number z) w m = (let e : w % 2 ^ 32 ≡ w = (let s = Rattle.im_select_relation.proofs.Words.word_small z in let a = m in omega (arith, a)) in e ∙ m)
means_word p Null w m = let a = m in omega (arith, a)
means_word p (Pointer o i) w m = (let a = m.0 in omega (arith, a), m.1, m.2)
means_word p Unset w m = tt

-- what a cell takes of a value, and of its word
pub stored_means : (p : Linking) (k : Kind) (v v' : Value) (w : ℕ) → stored k v ≡ Fine v' → Means p v w → Means p v' (back_word k w)
stored_means p k (Number z) v' w e m =
    let f = unless_fine (not (same_kind k Ptr)) (Number (wrap k z)) v' _ e in
    means_at p (Number (wrap k z)) v' (word (wrap k z)) (back_word k w) (sym f.1) (ap (back_word k) m ∙ loaded_wrap k z) refl
stored_means p k Null v' w e m =
    let f = unless_fine (same_kind k Ptr) Null v' _ e in
    means_at p Null v' (w % 2 ^ 32) (back_word k w) (sym f.1) (ptr_back k w (kind_true k Ptr f.0)) (means_word p Null w m)
stored_means p k (Pointer o i) v' w e m =
    let f = unless_fine (same_kind k Ptr) (Pointer o i) v' _ e in
    means_at p (Pointer o i) v' (w % 2 ^ 32) (back_word k w) (sym f.1) (ptr_back k w (kind_true k Ptr f.0)) (means_word p (Pointer o i) w m)
stored_means p k Unset v' w e m = absurd cc

value_same : (values : Object → ℕ → Value) (o : Object) (i : ℕ) (v : Value) (q : Object) (j : ℕ) → q ≡ o → j ≡ i → with_value values o i v q j ≡ v
value_same values o i v q j e f =
    let t : (same_object q o && j == i) ≡ true = (let s = same_by q o e in let k : (j == i) ≡ true = grind (arith, nat_tests) in ap (λ z. z && j == i) s ∙ k) in
    ap (λ b. cond b v (values q j)) t

value_other : (values : Object → ℕ → Value) (o : Object) (i : ℕ) (v : Value) (q : Object) (j : ℕ) → (q ≡ o → j ≡ i → ⊥) → with_value values o i v q j ≡ values q j
value_other values o i v q j no_ = elim (truth (same_object q o)) [
  | inr f ↦ ap (λ z. cond (z && j == i) v (values q j)) f
  | inl t ↦ elim (truth (j == i)) [
    | inr f ↦ ap (λ z. cond (z && j == i) v (values q j)) t ∙ ap (λ z. cond z v (values q j)) f
    | inl k ↦ absurd (no_ (same_true q o t) (equal j i k))
  ]
]
  where
    equal : (a b : ℕ) → (a == b) ≡ true → a ≡ b
    equal a b h = grind (arith, nat_tests)

some_size : (n : ℕ) → IsSize n → 0 < n
some_size n (inl e) = omega arith
some_size n (inr (inl e)) = omega arith
some_size n (inr (inr e)) = omega arith

-- a write to a cell
pub write_memory : (p : Linking) (shape : Object → Option Shape) (frames : List Mark) (values : Object → ℕ → Value) (m : Mem) (o : Object) (i : ℕ) (n : Kind) (v : Value) (w : ℕ) → Mapped p shape frames → Memory p shape values m → Cell p shape o i n → Means p v (back_word n w) → Memory p shape (with_value values o i v) (written m (address p o + i) (bytes_of (kind_size n) w))
write_memory p shape frames values m o i n v w mp mem c mean q j l d =
    elim (cells_apart p shape frames o i n q j l mp c d) [
      | inl s ↦ same s.0 s.1
      | inr (inl b) ↦ other (inl b) (λ f g. let a : address p q ≡ address p o = ap (λ z. address p z) f in let z = some_size (kind_size l) (is_size l) in omega arith)
      | inr (inr b) ↦ other (inr b) (λ f g. let a : address p q ≡ address p o = ap (λ z. address p z) f in let z = some_size (kind_size n) (is_size n) in omega arith)
    ]
  where
    m' : Mem
    m' = written m (address p o + i) (bytes_of (kind_size n) w)

    same : q ≡ o → j ≡ i → Means p (with_value values o i v q j) (cell_word (written m (address p o + i) (bytes_of (kind_size n) w)) l (address p q + j))
    same f g =
        let one : d.sh ≡ c.sh = (let a : shape q ≡ shape o = ap shape f in cc (d.live, c.live)) in
        let there : c.sh.cells i ≡ Some l = subst (λ z. c.sh.cells z ≡ Some l) g (subst (λ (z : Shape). z.cells j ≡ Some l) one d.cell) in
        let kind : l ≡ n = (let h = c.cell in cc) in
        let spot : address p q + j ≡ address p o + i = (let a : address p q ≡ address p o = ap (λ z. address p z) f in omega arith) in
        let back : cell_word (written m (address p o + i) (bytes_of (kind_size n) w)) l (address p q + j) ≡ back_word n w =
        ap (λ z. cell_word (written m (address p o + i) (bytes_of (kind_size n) w)) l z) spot ∙ ap (λ z. cell_word (written m (address p o + i) (bytes_of (kind_size n) w)) z (address p o + i)) kind ∙ ap (extended (kind_size n) (extension_of n)) (little_back m (address p o + i) (kind_size n) w (is_size n)) in
        means_at p v _ (back_word n w) _ (value_same values o i v q j f g) back mean

    other : (address p q + j + kind_size l ≤ address p o + i) ⊎ (address p o + i + kind_size n ≤ address p q + j) → (q ≡ o → j ≡ i → ⊥) → Means p (with_value values o i v q j) (cell_word (written m (address p o + i) (bytes_of (kind_size n) w)) l (address p q + j))
    other b no_ = means_at p (values q j) _ (cell_word m l (address p q + j)) _ (value_other values o i v q j no_) (ap (extended (kind_size l) (extension_of l)) (little-other m (address p o + i) (kind_size n) w (address p q + j) (kind_size l) b)) (mem q j l d)

-- a store above the code leaves the code, and the words of the low page
pub write_fixed : (image m : Mem) (a n w : ℕ) → 1048576 ≤ a → Fixed image m → Fixed image (written m a (bytes_of n w))
write_fixed image m a n w h f i above less = written-below m a i (bytes_of n w) (omega arith) ∙ f i above less

pub write_words : (limit capacity : ℕ) (m : Mem) (a n w : ℕ) → 1048576 ≤ a → a + n ≤ 3145728 → Words limit capacity m → Words limit capacity (written m a (bytes_of n w))
write_words limit capacity m a n w h top k = record {
  index_small = (let e = little-other m a n w 0 4 (inl (omega arith)) in let z = k.index_small in omega arith);
  status_is = little-other m a n w 4 4 (inl (omega arith)) ∙ k.status_is;
  reason_is = little-other m a n w 8 4 (inl (omega arith)) ∙ k.reason_is;
  length_fits = (let e = length_same m (written m a (bytes_of n w)) (quiet_written m a n w h top) in subst (λ z. z ≤ capacity) (sym e) k.length_fits);
  capacity_is = little-other m a n w 16 4 (inl (omega arith)) ∙ k.capacity_is;
  capacity_fits = k.capacity_fits;
  position_fits = (let e = little-other m a n w 24 4 (inl (omega arith)) in let f = little-other m a n w 20 4 (inl (omega arith)) in let z = k.position_fits in omega arith);
  input_fits = (let f = little-other m a n w 20 4 (inl (omega arith)) in let z = k.input_fits in omega arith);
  limit_is = little-other m a n w 28 4 (inl (omega arith)) ∙ k.limit_is;
  bytes = written-small m a n w k.bytes;
}

-- memory that has the same bytes of statics and stack
pub memory_same : (p : Linking) (shape : Object → Option Shape) (frames : List Mark) (values : Object → ℕ → Value) (m k : Mem) → Mapped p shape frames → ((a : ℕ) → 1048576 ≤ a → a < 3145728 → k a ≡ m a) → Memory p shape values m → Memory p shape values k
memory_same p shape frames values m k mp same mem o i n c =
    let r = room p shape frames o i n mp c in
    means_at p (values o i) (values o i) (cell_word m n (address p o + i)) _ refl (ap (extended (kind_size n) (extension_of n)) (little-alike k m (kind_size n) (address p o + i) (λ a l u. same a (let z = r.low in omega arith) (let z = r.high in omega arith)))) (mem o i n c)

not_system : (a : ℕ) → 1048576 ≤ a → a < 3145728 → is_system a ≡ false
not_system a h k = grind (arith, nat_tests)

pub heard_load : (a n : ℕ) → 1048576 ≤ a → a < 3145728 → heard (Loaded a n ∷ []) ≡ Loaded a n ∷ []
heard_load a n h k = ap (λ b. cond b [] (Loaded a n ∷ [])) (not_system a h k)

pub heard_store : (a n : ℕ) → 1048576 ≤ a → a < 3145728 → heard (Stored a n ∷ []) ≡ Stored a n ∷ []
heard_store a n h k = ap (λ b. cond b (cond (a == 0) (Flipped ∷ []) []) (Stored a n ∷ [])) (not_system a h k)
