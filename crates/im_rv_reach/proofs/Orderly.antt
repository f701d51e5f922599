-- Pieces join, since what is in order behind anything is so behind less.
use Rattle.std.proofs.Common.{◌≡◌, ℕ, ◌+◌, ◌≤◌, Bool, true, false, cond, List, [], ◌∷◌, ◌++◌, refl, sym, ap, ◌∙◌, subst, arith}
use Rattle.std.specs.Prelude.{◌==◌, ◌&&◌, ◌||◌, nat_le}
use Rattle.std.proofs.lemmas.Bool.Decides.{nat_tests}
use Rattle.im_rv_reach.specs.Touches.{Touch, Loaded, Stored, Flipped}
use Rattle.im_rv_reach.specs.Seen.{in_buffer, is_checkpoints, seen}
use Rattle.im_rv_reach.specs.Orderly.{Since, Anything, Nothing, StoresOnly, Selector, Refused, Place, Free, Low, Select, Wrong, may_load, is_free, is_low, place_of, loading, storing, moved, after, is_closed, IsOrderly}

loaded_append : (b : Bool) (t : Touch) (z w us : List Touch) → z ≡ w ++ us → cond b z (t ∷ z) ≡ cond b w (t ∷ w) ++ us
loaded_append true t z w us e = e
loaded_append false t z w us e = ap (λ l. t ∷ l) e

stored_append : (b d : Bool) (t : Touch) (z w us : List Touch) → z ≡ w ++ us → cond b (Flipped ∷ z) (cond d z (t ∷ z)) ≡ cond b (Flipped ∷ w) (cond d w (t ∷ w)) ++ us
stored_append true d t z w us e = ap (λ l. Flipped ∷ l) e
stored_append false true t z w us e = e
stored_append false false t z w us e = ap (λ l. t ∷ l) e

pub seen-append : (ts us : List Touch) → seen (ts ++ us) ≡ seen ts ++ seen us
seen-append [] us = refl
seen-append (Loaded a n ∷ ts) us = loaded_append (is_checkpoints a) (Loaded a n) (seen (ts ++ us)) (seen ts) (seen us) (seen-append ts us)
seen-append (Stored a n ∷ ts) us = stored_append (a == 0) (in_buffer a) (Stored a n) (seen (ts ++ us)) (seen ts) (seen us) (seen-append ts us)
seen-append (Flipped ∷ ts) us = ap (λ l. Flipped ∷ l) (seen-append ts us)

pub after-append : (s : Since) (ts us : List Touch) → after s (ts ++ us) ≡ after (after s ts) us
after-append s [] us = refl
after-append s (t ∷ ts) us = after-append (moved s t) ts us

-- what is refused stays so
moved_refused : (t : Touch) → moved Refused t ≡ Refused
moved_refused (Loaded a n) = by_load (may_load a n)
  where
    by_load : (b : Bool) → loading b Refused ≡ Refused
    by_load true = refl
    by_load false = refl
moved_refused (Stored a n) = by_place (place_of a n)
  where
    by_place : (p : Place) → storing p Refused ≡ Refused
    by_place Free = refl
    by_place Low = refl
    by_place Select = refl
    by_place Wrong = refl
moved_refused Flipped = refl

pub after_refused : (ts : List Touch) → after Refused ts ≡ Refused
after_refused [] = refl
after_refused (t ∷ ts) = ap (λ z. after z ts) (moved_refused t) ∙ after_refused ts

-- the one may be where the other is: it has touched no more
data Less : Since → Since → Type 0 where
  Same : (s : Since) → Less s s
  Fresh : Less Nothing Anything
  Stored_only : Less StoresOnly Anything
  Fresh_stored : Less Nothing StoresOnly
  Any_refused : (s : Since) → Less s Refused

less_moved : (s z : Since) (t : Touch) → Less s z → Less (moved s t) (moved z t)
less_moved s z t (Same _) = Same (moved s t)
less_moved s z t (Any_refused _) = subst (λ y. Less (moved s t) y) (sym (moved_refused t)) (Any_refused (moved s t))
less_moved s z (Loaded a n) Fresh = by_load (may_load a n)
  where
    by_load : (b : Bool) → Less (loading b Nothing) (loading b Anything)
    by_load true = Same Anything
    by_load false = Same Refused
less_moved s z (Stored a n) Fresh = by_place (place_of a n)
  where
    by_place : (p : Place) → Less (storing p Nothing) (storing p Anything)
    by_place Free = Same Anything
    by_place Low = Any_refused StoresOnly
    by_place Select = Any_refused Selector
    by_place Wrong = Same Refused
less_moved s z Flipped Fresh = Same Nothing
less_moved s z (Loaded a n) Stored_only = by_load (may_load a n)
  where
    by_load : (b : Bool) → Less (loading b StoresOnly) (loading b Anything)
    by_load true = Same Anything
    by_load false = Same Refused
less_moved s z (Stored a n) Stored_only = by_place (place_of a n)
  where
    by_place : (p : Place) → Less (storing p StoresOnly) (storing p Anything)
    by_place Free = Same Anything
    by_place Low = Any_refused StoresOnly
    by_place Select = Same Refused
    by_place Wrong = Same Refused
less_moved s z Flipped Stored_only = Same Nothing
less_moved s z (Loaded a n) Fresh_stored = by_load (may_load a n)
  where
    by_load : (b : Bool) → Less (loading b Nothing) (loading b StoresOnly)
    by_load true = Same Anything
    by_load false = Same Refused
less_moved s z (Stored a n) Fresh_stored = by_place (place_of a n)
  where
    by_place : (p : Place) → Less (storing p Nothing) (storing p StoresOnly)
    by_place Free = Same Anything
    by_place Low = Same StoresOnly
    by_place Select = Any_refused Selector
    by_place Wrong = Same Refused
less_moved s z Flipped Fresh_stored = Same Nothing

less_after : (s z : Since) (ts : List Touch) → Less s z → Less (after s ts) (after z ts)
less_after s z [] l = l
less_after s z (t ∷ ts) l = less_after (moved s t) (moved z t) ts (less_moved s z t l)

closed_less : (s z : Since) → Less s z → is_closed z ≡ true → is_closed s ≡ true
closed_less s z (Same _) h = h
closed_less s z Fresh h = refl
closed_less s z Stored_only h = refl
closed_less s z Fresh_stored h = refl
closed_less s z (Any_refused _) h = absurd (let bad : false ≡ true = h in cc)

closed_below : (s : Since) → is_closed s ≡ true → Less s Anything
closed_below Anything h = Same Anything
closed_below Nothing h = Fresh
closed_below StoresOnly h = Stored_only
closed_below Selector h = absurd (let bad : false ≡ true = h in cc)
closed_below Refused h = absurd (let bad : false ≡ true = h in cc)

-- pieces in order join
pub joined : (ts us : List Touch) → IsOrderly ts → IsOrderly us → IsOrderly (ts ++ us)
joined ts us a b =
    let s : Since = after Anything (seen ts) in
    ap (λ z. is_closed (after Anything z)) (seen-append ts us)
    ∙ ap is_closed (after-append Anything (seen ts) (seen us))
    ∙ closed_less (after s (seen us)) (after Anything (seen us)) (less_after s Anything (seen us) (closed_below s a)) b

-- ---- accesses of statics and stack, and those of the lines that begin and end

data_unsaved : (a : ℕ) → 1048576 ≤ a → is_checkpoints a ≡ false
data_unsaved a h = grind (arith, nat_tests)

data_loads : (a n : ℕ) → 1048576 ≤ a → a + n ≤ 3145728 → may_load a n ≡ true
data_loads a n low high = by (nat_le (a + n) 4) (grind (arith, nat_tests)) (grind (arith, nat_tests))
  where
    by : (x : Bool) → nat_le 12 a ≡ true → nat_le (a + n) 4194304 ≡ true → ((x || nat_le 12 a) && nat_le (a + n) 4194304) ≡ true
    by true p q = q
    by false p q = ap (λ z. z && nat_le (a + n) 4194304) p ∙ q

pub load_orderly : (a n : ℕ) → 1048576 ≤ a → a + n ≤ 3145728 → IsOrderly (Loaded a n ∷ [])
load_orderly a n low high =
    ap (λ b. is_closed (after Anything (cond b [] (Loaded a n ∷ [])))) (data_unsaved a low)
    ∙ ap (λ b. is_closed (loading b Anything)) (data_loads a n low high)

data_index : (a : ℕ) → 1048576 ≤ a → (a == 0) ≡ false
data_index a h = grind (arith, nat_tests)

data_buffer : (a : ℕ) → 1048576 ≤ a → in_buffer a ≡ false
data_buffer a h = grind (arith, nat_tests)

data_free : (a n : ℕ) → 1048576 ≤ a → a + n ≤ 3145728 → is_free a n ≡ true
data_free a n low high = by (nat_le 4 a && nat_le (a + n) 12) (nat_le 4194304 a) (grind (arith, nat_tests)) (grind (arith, nat_tests))
  where
    by : (x y : Bool) → nat_le 1048576 a ≡ true → nat_le (a + n) 3145728 ≡ true → (x || (nat_le 1048576 a && nat_le (a + n) 3145728) || y) ≡ true
    by true y p q = refl
    by false y p q = ap (λ z. (z && nat_le (a + n) 3145728) || y) p ∙ ap (λ z. z || y) q

pub store_orderly : (a n : ℕ) → 1048576 ≤ a → a + n ≤ 3145728 → IsOrderly (Stored a n ∷ [])
store_orderly a n low high =
    ap (λ b. is_closed (after Anything (cond b (Flipped ∷ []) (cond (in_buffer a) [] (Stored a n ∷ []))))) (data_index a low)
    ∙ ap (λ b. is_closed (after Anything (cond b [] (Stored a n ∷ [])))) (data_buffer a low)
    ∙ ap (λ b. is_closed (storing (cond b Free (cond (is_low a n) Low (cond (a == 36 && n == 1) Select Wrong))) Anything)) (data_free a n low high)
