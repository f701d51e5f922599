-- Numbers of bytes in lists that stand one behind the other.
use Rattle.std.proofs.Common.{◌≡◌, ◌<◌, ◌≤◌, ℕ, zero, suc, ◌+◌, ◌*◌, ◌%◌, ◌^◌, List, [], ◌∷◌, ◌++◌, length, refl, ap, ◌∙◌, arith}
use Rattle.std.specs.Prelude.{slice_index, replicate}
use Rattle.im_num.specs.declared.kind.Kind.{Kind}
use Rattle.im_num.specs.declared.kind.Kind.TheVariants.{I8, U8, I16, U16, I32, U32, Ptr}
use Rattle.im_num.specs.Bytes.{bytes_of}
use Rattle.im_num.specs.Kinds.{kind_size}
use Rattle.im_mem.specs.Memory.{Mem, little, view}
use Rattle.im_mem.proofs.Words.{little-alike}

pub index_left : (xs ys : List ℕ) (k : ℕ) → k < length xs → slice_index (xs ++ ys) k ≡ slice_index xs k
index_left [] ys k h = absurd (omega arith)
index_left (x ∷ xs) ys zero h = refl
index_left (x ∷ xs) ys (suc k) h = index_left xs ys k (omega arith)

pub index_behind : (xs ys : List ℕ) (k : ℕ) → slice_index (xs ++ ys) (length xs + k) ≡ slice_index ys k
index_behind [] ys k = ap (slice_index ys) (let q : 0 + k ≡ k = omega arith in q)
index_behind (x ∷ xs) ys k =
    let e : suc (length xs) + k ≡ suc (length xs + k) = omega arith in
    ap (slice_index (x ∷ (xs ++ ys))) e ∙ index_behind xs ys k

-- the bytes of one memory are those of another, moved
pub little-moved : (m n : Mem) (d : ℕ) → ((i : ℕ) → m (d + i) ≡ n i) → (k a : ℕ) → little m (d + a) k ≡ little n a k
little-moved m n d same zero a = refl
little-moved m n d same (suc k) a =
    let e : d + a + 1 ≡ d + (a + 1) = omega arith in
    ap (λ z. z + 256 * little m (d + a + 1) k) (same a)
    ∙ ap (λ z. n a + 256 * little m z k) e
    ∙ ap (λ z. n a + 256 * z) (little-moved m n d same k (a + 1))

pub little-behind : (xs ys : List ℕ) (a k : ℕ) → little (view (xs ++ ys)) (length xs + a) k ≡ little (view ys) a k
little-behind xs ys a k = little-moved (view (xs ++ ys)) (view ys) (length xs) (index_behind xs ys) k a

pub little-first : (xs ys : List ℕ) (a k : ℕ) → a + k ≤ length xs → little (view (xs ++ ys)) a k ≡ little (view xs) a k
little-first xs ys a k h = little-alike (view (xs ++ ys)) (view xs) k a (λ i p q. index_left xs ys i (omega arith))

-- the bytes of a cell make its word, as far as they go
pub cell_bytes : (k : Kind) (w : ℕ) (rest : List ℕ) → little (view (bytes_of (kind_size k) w ++ rest)) 0 (kind_size k) ≡ w % 2 ^ (8 * kind_size k)
cell_bytes I8 w rest = omega arith
cell_bytes U8 w rest = omega arith
cell_bytes I16 w rest = omega arith
cell_bytes U16 w rest = omega arith
cell_bytes I32 w rest = omega arith
cell_bytes U32 w rest = omega arith
cell_bytes Ptr w rest = omega arith

pub zeros : (n k : ℕ) → slice_index (replicate {A = ℕ} n 0) k ≡ 0
zeros zero k = refl
zeros (suc n) zero = refl
zeros (suc n) (suc k) = zeros n k

pub length_zeros : (n : ℕ) → length {A = ℕ} (replicate n 0) ≡ n
length_zeros zero = refl
length_zeros (suc n) = ap suc (length_zeros n)
