-- A store that is torn, byte by byte.
use Rattle.std.proofs.Common.{◌≡◌, ℕ, suc, ◌+◌, ◌-◌, ◌/◌, ◌<◌, ◌≤◌, true, refl, arith, add-zero}
use Rattle.std.proofs.lemmas.Bool.Decides.{nat_tests}
use Rattle.im_num.specs.Bytes.{bytes_of}
use Rattle.im_mem.specs.Memory.{Mem, is_place}
use Rattle.im_rv.specs.Torn.{masked}

pub none_torn : (mask : ℕ) (m : Mem) (a n w : ℕ) → masked mask m (a + 0) (bytes_of (n - 0) w) ≡ masked mask m a (bytes_of n w)
none_torn mask m a n w = let k : n - 0 ≡ n = omega arith in rw (add-zero, k) refl

pub one_torn : (mask : ℕ) (m m' : Mem) (a n i w : ℕ) → i < n → m' ≡ masked mask m (a + i) (bytes_of 1 w)
    → masked (mask / 2) m' (a + (i + 1)) (bytes_of (n - (i + 1)) (w / 256)) ≡ masked mask m (a + i) (bytes_of (n - i) w)
one_torn mask m m' a n i w lt e =
    let k : n - i ≡ suc (n - (i + 1)) = omega arith in
    let next : a + (i + 1) ≡ a + i + 1 = omega arith in
    rw (k, next, e) refl

pub all_torn : (mask : ℕ) (m : Mem) (a n i w : ℕ) → n ≤ i → masked mask m (a + i) (bytes_of (n - i) w) ≡ m
all_torn mask m a n i w le = let k : n - i ≡ 0 = omega arith in rw k refl

pub inner_place : (a n i : ℕ) → is_place a n ≡ true → i < n → is_place (a + i) 1 ≡ true
inner_place a n i place lt = grind (arith, nat_tests)
