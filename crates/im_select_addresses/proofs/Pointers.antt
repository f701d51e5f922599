-- Where the word of a pointer lies among the objects of an image.
use Rattle.std.proofs.Common.{◌≡◌, ◌≢◌, ℕ, zero, suc, ◌+◌, ◌-◌, ◌<◌, ◌≤◌, ◌⊎◌, inl, inr, Bool, true, false, cond, List, [], ◌∷◌, Option, Some, None, refl, sym, ap, ◌∙◌, subst, arith}
use Rattle.std.specs.Prelude.{slice_get, if◌then◌else◌, ◌==◌, ◌&&◌, nat_le}
use Rattle.std.proofs.lemmas.Bool.Decides.{nat_tests}
use Rattle.im_num.specs.declared.values.CellValue.{CellValue}
use Rattle.im_num.specs.declared.values.CellValue.TheVariants.{Null as ANull, Inside, Local}
use Rattle.im_mem.specs.Map.{statics_start, statics_capacity}
use Rattle.im_image.specs.Contents.{ObjectValue}
use Rattle.im_device.specs.Variables.{reaches, place_from, pointer_of}
use Rattle.im_store.specs.Objects.{Name, Named, Shape, shape_of}
use Rattle.im_store.specs.Statics.{StaticObject, static_shapes}
use Rattle.im_select_relation.specs.Linking.{Linking, LaidOut}
use Rattle.im_select_addresses.specs.Named.{IsNamed, AreNamed}

reached : (o : ObjectValue) (w at size : ℕ) → o.at ≡ at → o.size ≡ size → at ≤ w → w ≤ at + size → reaches o w ≡ true
reached o w at size e f low high = grind (arith, nat_tests)

before : (o : ObjectValue) (w at : ℕ) → o.at ≡ at → w < at → reaches o w ≡ false
before o w at e low = grind (arith, nat_tests)

behind : (o : ObjectValue) (w at size : ℕ) → o.at ≡ at → o.size ≡ size → at + size < w → reaches o w ≡ false
behind o w at size e f high = grind (arith, nat_tests)

here : (b : Bool) (x y : CellValue) → b ≡ true → (if b then x else y) ≡ x
here true x y e = refl
here false x y e = cc

there : (b : Bool) (x y : CellValue) → b ≡ false → (if b then x else y) ≡ y
there true x y e = cc
there false x y e = refl

next : (k : ℕ) → k + 1 ≡ suc k
next k = omega arith

start : (n : ℕ) → n ≡ 0 + n
start n = omega arith

further : (k n : ℕ) → k + suc n ≡ suc k + n
further k n = omega arith

-- the word lies in none of the statics, nor directly behind one
abbrev pub IsOutside : Linking → ℕ → ℕ → StaticObject → Type 0
IsOutside p w n s = (w < p.at (Named n)) ⊎ (p.at (Named n) + s.size < w)

not_reached : (p : Linking) (n : ℕ) (s : StaticObject) (o : ObjectValue) (w : ℕ) → IsNamed p n s o → IsOutside p w n s → reaches o w ≡ false
not_reached p n s o w is (inl l) = before o w (p.at (Named n)) is.at l
not_reached p n s o w is (inr l) = behind o w (p.at (Named n)) s.size is.at is.size l

nowhere : (p : Linking) (k : ℕ) (ss : List StaticObject) (os : List ObjectValue) (w : ℕ) → AreNamed p k ss os → ((n : ℕ) (s : StaticObject) → slice_get ss n ≡ Some s → IsOutside p w (k + n) s)
    → place_from k os w ≡ Local
nowhere p k [] [] w named out = refl
nowhere p k [] (o ∷ os) w named out = absurd named
nowhere p k (s ∷ ss) [] w named out = absurd named
nowhere p k (s ∷ ss) (o ∷ os) w named out =
    let first : IsOutside p w k s = (let q : k + 0 ≡ k = omega arith in subst (λ n. IsOutside p w n s) q (out 0 s refl)) in
    there (reaches o w) (Inside k (w - o.at)) (place_from (k + 1) os w) (not_reached p k s o w named.0 first)
    ∙ ap (λ n. place_from n os w) (next k)
    ∙ nowhere p (suc k) ss os w named.1 (λ n t f. let q : k + suc n ≡ suc k + n = omega arith in subst (λ n. IsOutside p w n t) q (out (suc n) t f))

-- it lies in the n-th of them, and in no other one
found : (p : Linking) (k : ℕ) (ss : List StaticObject) (os : List ObjectValue) (w n i : ℕ) (s : StaticObject) → AreNamed p k ss os → slice_get ss n ≡ Some s → w ≡ p.at (Named (k + n)) + i → i ≤ s.size
    → ((m : ℕ) (t : StaticObject) → slice_get ss m ≡ Some t → m ≢ n → IsOutside p w (k + m) t)
    → place_from k os w ≡ Inside (k + n) i
found p k [] os w n i s named is at fits out = let bad : None ≡ Some s = is in cc
found p k (t ∷ ss) [] w n i s named is at fits out = absurd named
found p k (t ∷ ss) (o ∷ os) w zero i s named is at fits out =
    let one : t ≡ s = cc in
    let size : t.size ≡ s.size = ap (λ (z : StaticObject). z.size) one in
    let q : k + 0 ≡ k = omega arith in
    let place : p.at (Named (k + 0)) ≡ p.at (Named k) = ap (λ j. p.at (Named j)) q in
    let start = named.0.at in
    let offset : w - o.at ≡ i = omega arith in
    here (reaches o w) (Inside k (w - o.at)) (place_from (k + 1) os w) (reached o w (p.at (Named k)) t.size start named.0.size (omega arith) (omega arith))
    ∙ ap (λ z. Inside k z) offset
    ∙ ap (λ z. Inside z i) (sym q)
found p k (t ∷ ss) (o ∷ os) w (suc n) i s named is at fits out =
    let first : IsOutside p w k t = (let q : k + 0 ≡ k = omega arith in subst (λ j. IsOutside p w j t) q (out 0 t refl (omega arith))) in
    there (reaches o w) (Inside k (w - o.at)) (place_from (k + 1) os w) (not_reached p k t o w named.0 first)
    ∙ ap (λ z. place_from z os w) (next k)
    ∙ found p (suc k) ss os w n i s named.1 is (at ∙ ap (λ z. p.at (Named z) + i) (further k n)) fits
    (λ m u f ne. subst (λ z. IsOutside p w z u) (further k m) (out (suc m) u f (omega arith)))
    ∙ ap (λ z. Inside z i) (sym (further k n))

-- a static's shape is there
pub shaped : (statics : List StaticObject) (n : ℕ) (s : StaticObject) → slice_get statics n ≡ Some s → static_shapes statics (Named n) ≡ Some (shape_of s.size s.cells)
shaped statics n s e = ap (λ (o : Option StaticObject). shape_in o) e
  where
    shape_in : Option StaticObject → Option Shape
    shape_in None = None
    shape_in (Some s) = Some (shape_of s.size s.cells)

abbrev number : Name → ℕ
number (Named n) = n
number _ = 0

module _ (p : Linking) (statics : List StaticObject) (objects : List ObjectValue) (laid : LaidOut p (static_shapes statics) statics_start (statics_start + statics_capacity)) (named : AreNamed p 0 statics objects) where
  others : (w n i : ℕ) (s : StaticObject) → slice_get statics n ≡ Some s → w ≡ p.at (Named n) + i → i ≤ s.size → (m : ℕ) (t : StaticObject) → slice_get statics m ≡ Some t → m ≢ n → IsOutside p w m t
  others w n i s is at fits m t there_ ne =
      elim (laid.apart (Named n) (shape_of s.size s.cells) (Named m) (shape_of t.size t.cells) (shaped statics n s is) (shaped statics m t there_)) [
        | inl e ↦ absurd (ne (sym (ap number e)))
        | inr (inl l) ↦ inl (omega arith)
        | inr (inr l) ↦ inr (omega arith)
      ]

  -- the word of a place in a static
  pub static_place : (w n i : ℕ) (s : StaticObject) → slice_get statics n ≡ Some s → w ≡ p.at (Named n) + i → i ≤ s.size → pointer_of objects w ≡ Inside n i
  static_place w n i s is at fits =
      let from = laid.from (Named n) (shape_of s.size s.cells) (shaped statics n s is) in
      let some : (w == 0) ≡ false = not_zero w (omega arith) in
      there (w == 0) ANull (place_from 0 objects w) some
      ∙ found p 0 statics objects w n i s named is (at ∙ ap (λ z. p.at (Named z) + i) (start n)) fits (λ m t f ne. subst (λ z. IsOutside p w z t) (start m) (others w n i s is at fits m t f ne))
      ∙ ap (λ z. Inside z i) (sym (start n))
    where
      not_zero : (w : ℕ) → 0 < w → (w == 0) ≡ false
      not_zero w l = grind (arith, nat_tests)

  -- the word of a place behind all statics
  pub stack_place : (w : ℕ) → 2097152 ≤ w → pointer_of objects w ≡ Local
  stack_place w high =
      let some : (w == 0) ≡ false = not_zero w (omega arith) in
      there (w == 0) ANull (place_from 0 objects w) some
      ∙ nowhere p 0 statics objects w named (λ n s e. subst (λ z. IsOutside p w z s) (start n) (inr (let q = laid.inside (Named n) (shape_of s.size s.cells) (shaped statics n s e) in omega arith)))
    where
      not_zero : (w : ℕ) → 0 < w → (w == 0) ≡ false
      not_zero w l = grind (arith, nat_tests)
