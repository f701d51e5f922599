-- Runs whose touches are in order.
use Rattle.std.proofs.Common.{◌≡◌, ◌≢◌, ℕ, zero, suc, ◌+◌, ◌-◌, ◌%◌, ◌<◌, ◌≤◌, ◌⊎◌, inl, inr, Bool, true, false, cond, Option, Some, None, List, [], ◌∷◌, refl, sym, ap, ◌∙◌, subst, arith}
use Rattle.std.specs.Prelude.{◌==◌, ◌&&◌, ◌||◌, nat_le, nat_lt, is_some}
use Rattle.std.proofs.lemmas.Bool.Decides.{nat_tests}
use Rattle.im_num.specs.Bytes.{bytes_of}
use Rattle.im_mem.specs.Memory.{is_place}
use Rattle.im_mem.proofs.Words.{length-bytes_of}
use Rattle.im_rv.specs.declared.effect.Effect.{Effect}
use Rattle.im_rv.specs.declared.effect.Effect.TheVariants.{Puts, Goes, Loads, Stores, Stops}
use Rattle.im_rv.specs.Effects.{patch, writes_by, reads_by}
use Rattle.im_rv.proofs.Locality.{patch_below, patch_above}
use Rattle.im_rv.proofs.Effecting.{step_mem}
use Rattle.im_replay_path.specs.Sections.{start, wrote}
use Rattle.im_replay_path.proofs.Times.{truth, order, start_le, start_past, unwritten}
use Rattle.im_ckpt.specs.Runs.{State, IsRun, effect_at, flip, memory, writes, reads}
use Rattle.im_ckpt.specs.Buffers.{is_buffer}
use Rattle.im_replay.proofs.Shows.{wrote_some}
use Rattle.im_rv_reach.specs.Touches.{Touch, Loaded, Stored, Flipped, touch_of}
use Rattle.im_rv_reach.specs.Seen.{is_checkpoints, seen}
use Rattle.im_rv_reach.specs.Orderly.{Since, Anything, Nothing, StoresOnly, Selector, Refused, Place, Free, Low, Select, Wrong, may_load, is_free, is_low, place_of, loading, storing, after}
use Rattle.im_rtlib_laws.specs.Orderly.{since, IsOrderlyRun}
use Rattle.im_rtlib_laws.specs.SectionsLaws.{SectionsLaw}

some_is : (z : Option ℕ) → is_some z ≡ true → (v : ℕ) × (z ≡ Some v)
some_is None h = absurd (let bad : false ≡ true = h in cc)
some_is (Some v) h = (v, refl)

some_or_none : (z : Option ℕ) → (z ≡ None) ⊎ ((w : ℕ) × (z ≡ Some w))
some_or_none None = inl refl
some_or_none (Some w) = inr (w, refl)

-- ---- what a step that is no flip touches

data Own (e : Effect) : Type 0 where
  Silent : seen (touch_of e) ≡ [] → Own e
  Loads_at : (a n : ℕ) → seen (touch_of e) ≡ Loaded a n ∷ [] → Own e
  Stores_at : (a n : ℕ) → seen (touch_of e) ≡ Stored a n ∷ [] → Own e

is_zero : (a : ℕ) → (a == 0) ≡ true → a ≡ 0
is_zero a h = grind (arith, nat_tests)

own_of : (e : Effect) → ((n v : ℕ) → e ≢ Stores 0 n v) → Own e
own_of (Puts v target) h = Silent refl
own_of (Goes target) h = Silent refl
own_of (Loads a n x) h = elim (truth (is_checkpoints a)) [
  | inl q ↦ Silent (ap (λ b. cond b [] (Loaded a n ∷ [])) q)
  | inr q ↦ Loads_at a n (ap (λ b. cond b [] (Loaded a n ∷ [])) q)
]
own_of (Stores a n v) h = elim (truth (a == 0)) [
  | inl q ↦ absurd (h n v (ap (λ z. Stores z n v) (is_zero a q)))
  | inr q ↦ elim (truth (is_buffer a)) [
    | inl p ↦ Silent (ap (λ b. cond b (Flipped ∷ []) (cond (is_buffer a) [] (Stored a n ∷ []))) q ∙ ap (λ b. cond b [] (Stored a n ∷ [])) p)
    | inr p ↦ Stores_at a n (ap (λ b. cond b (Flipped ∷ []) (cond (is_buffer a) [] (Stored a n ∷ []))) q ∙ ap (λ b. cond b [] (Stored a n ∷ [])) p)
  ]
]
own_of Stops h = Silent refl

-- a store of a byte outside the buffers is seen
record Wrote (e : Effect) (a : ℕ) : Type 0 where
  b : ℕ
  n : ℕ
  v : ℕ
  is : e ≡ Stores b n v
  touch : seen (touch_of e) ≡ Stored b n ∷ []
  low : b ≤ a
  high : a < b + n

pub place_sizes : (a n : ℕ) → is_place a n ≡ true → (n ≡ 1) ⊎ (((n ≡ 2) × (a % 2 ≡ 0)) ⊎ ((n ≡ 4) × (a % 4 ≡ 0)))
place_sizes a n h = grind (arith, nat_tests)

buffer_is : (a : ℕ) → is_buffer a ≡ true → (128 ≤ a) × (a < 384)
buffer_is a h = grind (arith, nat_tests)

in_buffer : (a : ℕ) → 128 ≤ a → a < 384 → is_buffer a ≡ true
in_buffer a l h = grind (arith, nat_tests)

whole_buffer : (b n a : ℕ) → is_place b n ≡ true → is_buffer b ≡ true → b ≤ a → a < b + n → is_buffer a ≡ true
whole_buffer b n a ok h low high =
    let s = buffer_is b h in
    let x = s.0 in
    let y = s.1 in
    elim (place_sizes b n ok) [
      | inl q ↦ in_buffer a (omega arith) (omega arith)
      | inr (inl q) ↦ (let p = q.0 in let r = q.1 in in_buffer a (omega arith) (omega arith))
      | inr (inr q) ↦ (let p = q.0 in let r = q.1 in in_buffer a (omega arith) (omega arith))
    ]

wrote_of : (e : Effect) (a w : ℕ) → ((n v : ℕ) → e ≢ Stores 0 n v) → writes_by e a ≡ Some w → is_buffer a ≡ false → Wrote e a
wrote_of (Puts v target) a w h k out = absurd (let bad : None ≡ Some w = k in cc)
wrote_of (Goes target) a w h k out = absurd (let bad : None ≡ Some w = k in cc)
wrote_of (Loads b n x) a w h k out = absurd (let bad : None ≡ Some w = k in cc)
wrote_of Stops a w h k out = absurd (let bad : None ≡ Some w = k in cc)
wrote_of (Stores b n v) a w h k out = elim (truth (is_place b n)) [
  | inr q ↦ absurd (let bad : None ≡ Some w = sym (ap (λ z. cond z (patch b (bytes_of n v) a) None) q) ∙ k in cc)
  | inl ok ↦ (
      let p : patch b (bytes_of n v) a ≡ Some w = sym (ap (λ z. cond z (patch b (bytes_of n v) a) None) ok) ∙ k in
      elim (order a b) [
        | inl below ↦ absurd (let bad : None ≡ Some w = sym (patch_below b (bytes_of n v) a below) ∙ p in cc)
        | inr low ↦ elim (order a (b + n)) [
          | inr above ↦ absurd (let bad : None ≡ Some w = sym (patch_above b (bytes_of n v) a (omega (arith, length-bytes_of n v))) ∙ p in cc)
          | inl high ↦ elim (truth (is_buffer b)) [
            | inl q ↦ absurd (let bad : true ≡ false = sym (whole_buffer b n a ok q low high) ∙ out in cc)
            | inr q ↦ record { b = b; n = n; v = v; is = refl; touch = by_buffer b n v h ∙ ap (λ z. cond z [] (Stored b n ∷ [])) q; low = low; high = high }
          ]
        ]
      ])
]
  where
    not_index : (b n v : ℕ) → ((k u : ℕ) → Stores b n v ≢ Stores 0 k u) → (b == 0) ≡ false
    not_index b n v h = elim (truth (b == 0)) [ inl q ↦ absurd (h n v (ap (λ z. Stores z n v) (is_zero b q))) | inr q ↦ q ]

    by_buffer : (b n v : ℕ) → ((k u : ℕ) → Stores b n v ≢ Stores 0 k u) → seen (touch_of (Stores b n v)) ≡ cond (is_buffer b) [] (Stored b n ∷ [])
    by_buffer b n v h = ap (λ z. cond z (Flipped ∷ []) (cond (is_buffer b) [] (Stored b n ∷ []))) (not_index b n v h)

-- a load of such a byte too
record Read (e : Effect) (a : ℕ) : Type 0 where
  b : ℕ
  n : ℕ
  touch : seen (touch_of e) ≡ Loaded b n ∷ []
  low : b ≤ a
  high : a < b + n

and_left : (x y : Bool) → (x && y) ≡ true → x ≡ true
and_left true y h = refl
and_left false y h = absurd (let bad : false ≡ true = h in cc)

and_right : (x y : Bool) → (x && y) ≡ true → y ≡ true
and_right true y h = h
and_right false y h = absurd (let bad : false ≡ true = h in cc)

le_of : (a b : ℕ) → nat_le a b ≡ true → a ≤ b
le_of a b h = grind (arith, nat_tests)

lt_of : (a b : ℕ) → nat_lt a b ≡ true → a < b
lt_of a b h = grind (arith, nat_tests)

low_not_index : (b n a : ℕ) → is_place b n ≡ true → (b == 0) ≡ true → a < b + n → a < 4
low_not_index b n a ok q high =
    let z = is_zero b q in
    elim (place_sizes b n ok) [
      | inl r ↦ omega arith
      | inr (inl r) ↦ (let p = r.0 in omega arith)
      | inr (inr r) ↦ (let p = r.0 in omega arith)
    ]

read_of : (e : Effect) (a : ℕ) → reads_by e a ≡ true → 4 ≤ a → is_buffer a ≡ false → Read e a
read_of (Puts v target) a k four out = absurd (let bad : false ≡ true = k in cc)
read_of (Goes target) a k four out = absurd (let bad : false ≡ true = k in cc)
read_of (Stores b n v) a k four out = absurd (let bad : false ≡ true = k in cc)
read_of Stops a k four out = absurd (let bad : false ≡ true = k in cc)
read_of (Loads b n x) a k four out =
    let ok : is_place b n ≡ true = and_left (is_place b n) (nat_le b a) (and_left (is_place b n && nat_le b a) (nat_lt a (b + n)) k) in
    let low : b ≤ a = le_of b a (and_right (is_place b n) (nat_le b a) (and_left (is_place b n && nat_le b a) (nat_lt a (b + n)) k)) in
    let high : a < b + n = lt_of a (b + n) (and_right (is_place b n && nat_le b a) (nat_lt a (b + n)) k) in
    elim (truth (b == 0)) [
      | inl q ↦ absurd (let l = low_not_index b n a ok q high in omega arith)
      | inr q ↦ elim (truth (is_buffer b)) [
        | inl p ↦ absurd (let bad : true ≡ false = sym (whole_buffer b n a ok p low high) ∙ out in cc)
        | inr p ↦ record { b = b; n = n; touch = ap (λ z. cond (z || is_buffer b) [] (Loaded b n ∷ [])) q ∙ ap (λ z. cond z [] (Loaded b n ∷ [])) p; low = low; high = high }
      ]
    ]

-- ---- what lasts in a section

-- a test of what was touched that each further touch keeps
record Lasts (p : Since → Bool) : Type 0 where
  loads : (b : Bool) (s : Since) → p s ≡ true → p (loading b s) ≡ true
  stores : (q : Place) (s : Since) → p s ≡ true → p (storing q s) ≡ true

-- something was read, or stored where all may be stored
is_any : Since → Bool
is_any Anything = true
is_any Nothing = false
is_any StoresOnly = false
is_any Selector = false
is_any Refused = true

-- OUT_SEL was stored
is_selected : Since → Bool
is_selected Anything = false
is_selected Nothing = false
is_selected StoresOnly = false
is_selected Selector = true
is_selected Refused = true

-- something was touched
is_touched : Since → Bool
is_touched Anything = true
is_touched Nothing = false
is_touched StoresOnly = true
is_touched Selector = true
is_touched Refused = true

any_lasts : Lasts is_any
unfolding is_any
any_lasts = record { loads = on_load; stores = on_store }
  where
    on_load : (b : Bool) (s : Since) → is_any s ≡ true → is_any (loading b s) ≡ true
    on_load false s h = refl
    on_load true Anything h = refl
    on_load true Refused h = refl
    on_load true Nothing h = refl
    on_load true StoresOnly h = refl
    on_load true Selector h = refl

    on_store : (q : Place) (s : Since) → is_any s ≡ true → is_any (storing q s) ≡ true
    on_store Wrong s h = refl
    on_store Free Anything h = refl
    on_store Free Refused h = refl
    on_store Free Nothing h = refl
    on_store Free StoresOnly h = refl
    on_store Free Selector h = refl
    on_store Low Anything h = refl
    on_store Low Refused h = refl
    on_store Low Nothing h = absurd (let bad : false ≡ true = h in cc)
    on_store Low StoresOnly h = absurd (let bad : false ≡ true = h in cc)
    on_store Low Selector h = refl
    on_store Select Anything h = refl
    on_store Select Refused h = refl
    on_store Select Nothing h = absurd (let bad : false ≡ true = h in cc)
    on_store Select StoresOnly h = refl
    on_store Select Selector h = refl

selected_lasts : Lasts is_selected
unfolding is_selected
selected_lasts = record { loads = on_load; stores = on_store }
  where
    on_load : (b : Bool) (s : Since) → is_selected s ≡ true → is_selected (loading b s) ≡ true
    on_load false s h = refl
    on_load true Selector h = refl
    on_load true Refused h = refl
    on_load true Anything h = absurd (let bad : false ≡ true = h in cc)
    on_load true Nothing h = absurd (let bad : false ≡ true = h in cc)
    on_load true StoresOnly h = absurd (let bad : false ≡ true = h in cc)

    on_store : (q : Place) (s : Since) → is_selected s ≡ true → is_selected (storing q s) ≡ true
    on_store Wrong s h = refl
    on_store Free Selector h = refl
    on_store Free Refused h = refl
    on_store Free Anything h = absurd (let bad : false ≡ true = h in cc)
    on_store Free Nothing h = absurd (let bad : false ≡ true = h in cc)
    on_store Free StoresOnly h = absurd (let bad : false ≡ true = h in cc)
    on_store Low Selector h = refl
    on_store Low Refused h = refl
    on_store Low Anything h = refl
    on_store Low Nothing h = absurd (let bad : false ≡ true = h in cc)
    on_store Low StoresOnly h = absurd (let bad : false ≡ true = h in cc)
    on_store Select Selector h = refl
    on_store Select Refused h = refl
    on_store Select Anything h = refl
    on_store Select Nothing h = refl
    on_store Select StoresOnly h = refl

touched_lasts : Lasts is_touched
unfolding is_touched
touched_lasts = record { loads = on_load; stores = on_store }
  where
    on_load : (b : Bool) (s : Since) → is_touched s ≡ true → is_touched (loading b s) ≡ true
    on_load false s h = refl
    on_load true Anything h = refl
    on_load true Nothing h = refl
    on_load true StoresOnly h = refl
    on_load true Selector h = refl
    on_load true Refused h = refl

    on_store : (q : Place) (s : Since) → is_touched s ≡ true → is_touched (storing q s) ≡ true
    on_store Wrong s h = refl
    on_store Free Anything h = refl
    on_store Free Nothing h = refl
    on_store Free StoresOnly h = refl
    on_store Free Selector h = refl
    on_store Free Refused h = refl
    on_store Low Anything h = refl
    on_store Low Nothing h = refl
    on_store Low StoresOnly h = refl
    on_store Low Selector h = refl
    on_store Low Refused h = refl
    on_store Select Anything h = refl
    on_store Select Nothing h = refl
    on_store Select StoresOnly h = refl
    on_store Select Selector h = refl
    on_store Select Refused h = refl

-- a store is some touch, a load anything
stored_touched : (q : Place) (s : Since) → is_touched (storing q s) ≡ true
unfolding is_touched
stored_touched Free Anything = refl
stored_touched Free Nothing = refl
stored_touched Free StoresOnly = refl
stored_touched Free Selector = refl
stored_touched Free Refused = refl
stored_touched Low Anything = refl
stored_touched Low Nothing = refl
stored_touched Low StoresOnly = refl
stored_touched Low Selector = refl
stored_touched Low Refused = refl
stored_touched Select Anything = refl
stored_touched Select Nothing = refl
stored_touched Select StoresOnly = refl
stored_touched Select Selector = refl
stored_touched Select Refused = refl
stored_touched Wrong s = refl

loaded_any : (b : Bool) (s : Since) → is_any (loading b s) ≡ true
unfolding is_any
loaded_any false s = refl
loaded_any true Anything = refl
loaded_any true Nothing = refl
loaded_any true StoresOnly = refl
loaded_any true Selector = refl
loaded_any true Refused = refl

-- what may follow
free_behind_any : (q : Place) (s : Since) → is_any s ≡ true → storing q s ≢ Refused → q ≡ Free
unfolding is_any
free_behind_any Free s h ne = refl
free_behind_any Wrong s h ne = absurd (ne refl)
free_behind_any Low Anything h ne = absurd (ne refl)
free_behind_any Low Nothing h ne = absurd (let bad : false ≡ true = h in cc)
free_behind_any Low StoresOnly h ne = absurd (let bad : false ≡ true = h in cc)
free_behind_any Low Selector h ne = absurd (ne refl)
free_behind_any Low Refused h ne = absurd (ne refl)
free_behind_any Select Anything h ne = absurd (ne refl)
free_behind_any Select Nothing h ne = absurd (let bad : false ≡ true = h in cc)
free_behind_any Select StoresOnly h ne = absurd (ne refl)
free_behind_any Select Selector h ne = absurd (ne refl)
free_behind_any Select Refused h ne = absurd (ne refl)

none_behind_selected : (q : Place) (s : Since) → is_selected s ≡ true → storing q s ≡ Refused
unfolding is_selected
none_behind_selected Wrong s h = refl
none_behind_selected Free Selector h = refl
none_behind_selected Free Refused h = refl
none_behind_selected Free Anything h = absurd (let bad : false ≡ true = h in cc)
none_behind_selected Free Nothing h = absurd (let bad : false ≡ true = h in cc)
none_behind_selected Free StoresOnly h = absurd (let bad : false ≡ true = h in cc)
none_behind_selected Low Selector h = refl
none_behind_selected Low Refused h = refl
none_behind_selected Low Anything h = refl
none_behind_selected Low Nothing h = absurd (let bad : false ≡ true = h in cc)
none_behind_selected Low StoresOnly h = absurd (let bad : false ≡ true = h in cc)
none_behind_selected Select Selector h = refl
none_behind_selected Select Refused h = refl
none_behind_selected Select Anything h = refl
none_behind_selected Select Nothing h = absurd (let bad : false ≡ true = h in cc)
none_behind_selected Select StoresOnly h = refl

-- OUT_SEL is stored where nothing was touched, and is stored then
selector_first : (s : Since) → storing Select s ≢ Refused → (is_touched s ≡ false) × (is_selected (storing Select s) ≡ true)
unfolding is_touched is_selected
selector_first Nothing ne = (refl, refl)
selector_first Anything ne = absurd (ne refl)
selector_first StoresOnly ne = absurd (ne refl)
selector_first Selector ne = absurd (ne refl)
selector_first Refused ne = absurd (ne refl)

-- ---- places

free_sides : (b n : ℕ) → is_free b n ≡ true → ((4 ≤ b) × (b + n ≤ 12)) ⊎ (((1048576 ≤ b) × (b + n ≤ 3145728)) ⊎ (4194304 ≤ b))
free_sides b n h = grind (arith, nat_tests)

low_sides : (b n : ℕ) → is_low b n ≡ true → b + n ≤ 36
low_sides b n h = grind (arith, nat_tests)

select_is : (b n : ℕ) → (b == 36 && n == 1) ≡ true → (b ≡ 36) × (n ≡ 1)
select_is b n h = grind (arith, nat_tests)

free_place : (b n : ℕ) → place_of b n ≡ Free → is_free b n ≡ true
free_place b n e = by_parts (is_free b n) (is_low b n) (b == 36 && n == 1) e
  where
    by_parts : (x y z : Bool) → cond x Free (cond y Low (cond z Select Wrong)) ≡ Free → x ≡ true
    by_parts true y z e = refl
    by_parts false true z e = absurd (cc)
    by_parts false false true e = absurd (cc)
    by_parts false false false e = absurd (cc)

-- a store that covers OUT_SEL is OUT_SEL's alone, where it isn't refused
covers_selector : (b n : ℕ) (s : Since) → b ≤ 36 → 36 < b + n → storing (place_of b n) s ≢ Refused → (b ≡ 36) × (n ≡ 1) × (place_of b n ≡ Select)
covers_selector b n s low high ne = elim (truth (is_free b n)) [
  | inl f ↦ absurd (elim (free_sides b n f) [
    | inl x ↦ (let p = x.1 in omega arith)
    | inr (inl x) ↦ (let p = x.0 in omega arith)
    | inr (inr x) ↦ omega arith
  ])
  | inr f ↦ elim (truth (is_low b n)) [
    | inl l ↦ absurd (let p = low_sides b n l in omega arith)
    | inr l ↦ elim (truth (b == 36 && n == 1)) [
      | inl z ↦ (let p = select_is b n z in (p.0, p.1, ap (λ y. cond y Free (cond (is_low b n) Low (cond (b == 36 && n == 1) Select Wrong))) f ∙ ap (λ y. cond y Low (cond (b == 36 && n == 1) Select Wrong)) l ∙ ap (λ y. cond y Select Wrong) z))
      | inr z ↦ absurd (ne (ap (λ q. storing q s) (ap (λ y. cond y Free (cond (is_low b n) Low (cond (b == 36 && n == 1) Select Wrong))) f ∙ ap (λ y. cond y Low (cond (b == 36 && n == 1) Select Wrong)) l ∙ ap (λ y. cond y Select Wrong) z)))
    ]
  ]
]

or_cases : (x y : Bool) → (x || y) ≡ true → (x ≡ true) ⊎ (y ≡ true)
or_cases true y h = inl refl
or_cases false y h = inr h

sides : (b n : ℕ) → may_load b n ≡ true → (b + n ≤ 4) ⊎ (12 ≤ b)
sides b n h = elim (or_cases (nat_le (b + n) 4) (nat_le 12 b) (and_left (nat_le (b + n) 4 || nat_le 12 b) (nat_le (b + n) 4194304) h)) [ inl x ↦ inl (le_of (b + n) 4 x) | inr x ↦ inr (le_of 12 b x) ]

below : (b n : ℕ) → may_load b n ≡ true → b + n ≤ 4194304
below b n h = le_of (b + n) 4194304 (and_right (nat_le (b + n) 4 || nat_le 12 b) (nat_le (b + n) 4194304) h)

module _ (run : ℕ → State) (j : ℕ) (o : IsOrderlyRun run j) where
  abbrev touch_at : ℕ → List Touch
  touch_at t = seen (touch_of (effect_at (run t)))

  no_index : (t : ℕ) → t < j → flip run t ≡ false → (n v : ℕ) → effect_at (run t) ≢ Stores 0 n v
  no_index t l f n v = o.index t n v l f

  step_keeps : (p : Since → Bool) → Lasts p → (t : ℕ) → t < j → flip run t ≡ false → p (since run t) ≡ true → p (since run (suc t)) ≡ true
  step_keeps p k t l f h = elim (own_of (effect_at (run t)) (no_index t l f)) [
    | Silent e ↦ ap (λ z. p (after (since run t) z)) e ∙ h
    | Loads_at a n e ↦ ap (λ z. p (after (since run t) z)) e ∙ k.loads (may_load a n) (since run t) h
    | Stores_at a n e ↦ ap (λ z. p (after (since run t) z)) e ∙ k.stores (place_of a n) (since run t) h
  ]

  keeps : (p : Since → Bool) → Lasts p → (t n : ℕ) → t + n ≤ j → ((s : ℕ) → t ≤ s → s < t + n → flip run s ≡ false) → p (since run t) ≡ true → p (since run (t + n)) ≡ true
  keeps p k t zero l f h = ap (λ z. p (since run z)) (let q : t + 0 ≡ t = omega arith in q) ∙ h
  keeps p k t (suc n) l f h =
      ap (λ z. p (since run z)) (let q : t + suc n ≡ suc (t + n) = omega arith in q)
      ∙ step_keeps p k (t + n) (omega arith) (f (t + n) (omega arith) (omega arith)) (keeps p k t n (omega arith) (λ s a b. f s a (omega arith)) h)

  -- no flip stands between two times of a section
  no_flip : (t u s : ℕ) → start (flip run) t ≡ start (flip run) u → t ≤ s → s < u → flip run s ≡ false
  no_flip t u s same a b = elim (truth (flip run s)) [
    | inl f ↦ absurd (let x = start_past (flip run) s u f b in let y = start_le (flip run) t in omega arith)
    | inr f ↦ f
  ]

  -- from behind time t up to time u of its section
  lasts_to : (p : Since → Bool) → Lasts p → (t u : ℕ) → t < u → u ≤ j → start (flip run) t ≡ start (flip run) u → p (since run (suc t)) ≡ true → p (since run u) ≡ true
  lasts_to p k t u a b same h =
      let n = u - suc t in
      let q : suc t + n ≡ u = omega arith in
      ap (λ z. p (since run z)) (sym q) ∙ keeps p k (suc t) n (omega arith) (λ s x y. no_flip t u s same (omega arith) (omega arith)) h

  wrote_at : (t a w : ℕ) → t < j → flip run t ≡ false → is_buffer a ≡ false → writes run t a ≡ Some w → Wrote (effect_at (run t)) a
  wrote_at t a w l f out h = wrote_of (effect_at (run t)) a w (no_index t l f) h out

  -- behind a store the section isn't refused
  after_store : (t a : ℕ) → (x : Wrote (effect_at (run t)) a) → since run (suc t) ≡ storing (place_of x.b x.n) (since run t)
  after_store t a x = ap (after (since run t)) x.touch

  stands : (t a : ℕ) → t < j → (x : Wrote (effect_at (run t)) a) → storing (place_of x.b x.n) (since run t) ≢ Refused
  stands t a l x e = o.calm (suc t) (omega arith) (after_store t a x ∙ e)

  record Selects (t : ℕ) (x : Wrote (effect_at (run t)) 36) : Type 0 where
    at : x.b ≡ 36
    one : x.n ≡ 1
    first : is_touched (since run t) ≡ false
    then : is_selected (since run (suc t)) ≡ true

  selects : (t : ℕ) → t < j → (x : Wrote (effect_at (run t)) 36) → Selects t x
  selects t l x =
      let c = covers_selector x.b x.n (since run t) x.low x.high (stands t 36 l x) in
      let s = selector_first (since run t) (λ e. stands t 36 l x (ap (λ q. storing q (since run t)) c.2 ∙ e)) in
      record { at = c.0; one = c.1; first = s.0; then = ap is_selected (after_store t 36 x ∙ ap (λ q. storing q (since run t)) c.2) ∙ s.1 }

  byte_of : (t a : ℕ) → (x : Wrote (effect_at (run t)) 36) → Selects t x → (y : Wrote (effect_at (run t)) a) → a ≡ 36
  byte_of t a x s y =
      let e : Stored x.b x.n ∷ [] ≡ Stored y.b y.n ∷ [] = sym x.touch ∙ y.touch in
      let b : x.b ≡ y.b = cc in
      let n : x.n ≡ y.n = cc in
      let p = s.at in
      let q = s.one in
      let low = y.low in
      let high = y.high in
      omega arith

  one_store : (t u a v w : ℕ) → t < j → u < j → start (flip run) t ≡ start (flip run) u → flip run t ≡ false → flip run u ≡ false → writes run t 36 ≡ Some v → is_buffer a ≡ false → writes run u a ≡ Some w → (u ≡ t) × (a ≡ 36)
  one_store t u a v w lt lu same ft fu h out k =
      let x = wrote_at t 36 v lt ft refl h in
      let s = selects t lt x in
      let y = wrote_at u a w lu fu out k in
      elim (order t u) [
        | inl later ↦ absurd (stands u a lu y (none_behind_selected (place_of y.b y.n) (since run u) (lasts_to is_selected selected_lasts t u later (omega arith) same s.then)))
        | inr not_later ↦ elim (order u t) [
          | inl earlier ↦ absurd (
              let z = lasts_to is_touched touched_lasts u t earlier (omega arith) (sym same) (ap is_touched (after_store u a y) ∙ stored_touched (place_of y.b y.n) (since run u)) in
              let bad : true ≡ false = sym z ∙ s.first in
              cc)
          | inr now ↦ (
              let q : t ≡ u = omega arith in
              (sym q, byte_of t a x s (subst (λ z. Wrote (effect_at (run z)) a) (sym q) y)))
        ]
      ]

  -- ---- no write behind a read

  loaded_well : (b n : ℕ) (s : Since) → loading (may_load b n) s ≢ Refused → ((b + n ≤ 4) ⊎ (12 ≤ b)) × (b + n ≤ 4194304)
  loaded_well b n s ne = elim (truth (may_load b n)) [
    | inl h ↦ (sides b n h, below b n h)
    | inr h ↦ absurd (ne (ap (λ z. loading z s) h))
  ]

  apart_by : (a b n c k : ℕ) → b ≤ a → a < b + n → ((b + n ≤ 4) ⊎ (12 ≤ b)) × (b + n ≤ 4194304) → c ≤ a → a < c + k → 4 ≤ a → (a < 1048576) ⊎ (3145728 ≤ a) → ((4 ≤ c) × (c + k ≤ 12)) ⊎ (((1048576 ≤ c) × (c + k ≤ 3145728)) ⊎ (4194304 ≤ c)) → ⊥
  apart_by a b n c k l h r m g four sys (inl x) = let p = x.1 in elim r.0 [ inl y ↦ absurd (omega arith) | inr y ↦ absurd (omega arith) ]
  apart_by a b n c k l h r m g four sys (inr (inl x)) = let p = x.0 in let q = x.1 in elim sys [ inl y ↦ absurd (omega arith) | inr y ↦ absurd (omega arith) ]
  apart_by a b n c k l h r m g four sys (inr (inr x)) = let p = r.1 in absurd (omega arith)

  not_both : (u a w : ℕ) → (x : Read (effect_at (run u)) a) → (y : Wrote (effect_at (run u)) a) → ⊥
  not_both u a w x y = let bad : Loaded x.b x.n ∷ [] ≡ Stored y.b y.n ∷ [] = sym x.touch ∙ y.touch in cc

  no_war : (t u a : ℕ) → t ≤ u → u < j → start (flip run) t ≡ start (flip run) u → flip run u ≡ false → (a < 1048576) ⊎ (3145728 ≤ a) → is_buffer a ≡ false → reads run t a ≡ true → 4 ≤ a → writes run u a ≡ None
  no_war t u a le lu same fu sys out r four = elim (some_or_none (writes run u a)) [
    | inl n ↦ n
    | inr k ↦ absurd (
        let x = read_of (effect_at (run t)) a r four out in
        let y = wrote_at u a k.0 lu fu out k.1 in
        elim (order t u) [
          | inr now ↦ (let q : t ≡ u = omega arith in not_both u a k.0 (subst (λ z. Read (effect_at (run z)) a) q x) y)
          | inl before ↦ (
              let next : since run (suc t) ≡ loading (may_load x.b x.n) (since run t) = ap (after (since run t)) x.touch in
              let any = lasts_to is_any any_lasts t u before (omega arith) same (ap is_any next ∙ loaded_any (may_load x.b x.n) (since run t)) in
              let free = free_place y.b y.n (free_behind_any (place_of y.b y.n) (since run u) any (stands u a lu y)) in
              let well = loaded_well x.b x.n (since run t) (λ e. o.calm (suc t) (omega arith) (next ∙ e)) in
              apart_by a x.b x.n y.b y.n x.low x.high well y.low y.high four sys (free_sides y.b y.n free))
        ])
  ]

  -- ---- lengths

  selector_stays : IsRun run → (t a v : ℕ) → t < j → flip run t ≡ false → is_buffer a ≡ false → writes run t a ≡ Some v → a < 36 → (run t).mem 36 ≡ (run (start (flip run) t)).mem 36
  selector_stays steps t a v l f out h low = elim (truth (wrote (flip run) (writes run) t 36)) [
    | inr n ↦ unwritten (flip run) (writes run) (memory run) 36 (λ z. ap (λ (s : State). s.mem 36) (steps z) ∙ step_mem (run z).cpu (run z).mem 36) t n
    | inl y ↦ absurd (
        let w = wrote_some (flip run) (writes run) t 36 y in
        let early = w.1 in
        let x = some_is (writes run w.0 36) w.4 in
        let q = one_store w.0 t a x.0 v (omega arith) l w.2 w.3 f x.1 out h in
        let z = q.1 in
        omega arith)
  ]

low_out : (a : ℕ) → a < 40 → is_buffer a ≡ false
low_out a l = grind (arith, nat_tests)

pub sections_law : SectionsLaw
sections_law = record {
  one_store = one_store;
  no_war = no_war;
  first_length = λ run j steps o s t a v l f low high h e. s.first t a v l f low high h (selector_stays run j o steps t a v l f (low_out a (omega arith)) h (omega arith) ∙ e);
  second_length = λ run j steps o s t a v l f low high h. sym (selector_stays run j o steps t a v l f (low_out a (omega arith)) h (omega arith)) ∙ s.second t a v l f low high h;
}
