-- Lists of bytes as memory.
use Rattle.std.proofs.Common.{◌≡◌, ◌<◌, ◌≤◌, ℕ, zero, suc, ◌+◌, cond, List, [], ◌∷◌, ◌++◌, length, take, drop, get_or, refl, ap, add-zero, drop-cons, arith, rules}
use Rattle.std.specs.Prelude.{slice_set, ◌==◌}
use Rattle.im_mem.specs.Memory.{Mem, view, written, bytes_from}

pub written-append : (m : Mem) (a : ℕ) (xs ys : List ℕ) → written m a (xs ++ ys) ≡ written (written m a xs) (a + length xs) ys
written-append m a [] ys = rw (add-zero a) refl
written-append m a (x ∷ xs) ys =
    let next : a + suc (length xs) ≡ a + 1 + length xs = omega arith in
    rw next (written-append (λ k. cond (k == a) x (m k)) (a + 1) xs ys)

pub view-set : (xs : List ℕ) (i b : ℕ) → i < length xs → view (slice_set xs i b) ≡ written (view xs) i (b ∷ [])
view-set xs i b h = search rules

-- n bytes of a list from a place on
pub take-drop : (xs : List ℕ) (a n : ℕ) → a + n ≤ length xs → take n (drop a xs) ≡ bytes_from (view xs) a n
take-drop xs a zero h = refl
take-drop xs a (suc n) h =
    let here : a < length xs = omega arith in
    let next : suc a ≡ a + 1 = omega arith in
    let rest : take n (drop (suc a) xs) ≡ bytes_from (view xs) (a + 1) n = rw next (take-drop xs (a + 1) n (omega arith)) in
    rw (drop-cons xs a 0 here) (ap (λ t. get_or xs a 0 ∷ t) rest)
