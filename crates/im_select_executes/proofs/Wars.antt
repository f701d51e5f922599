-- No section of a run writes what it has read of statics and stack, since none does of what the run touches in order.
use Rattle.std.proofs.Common.{◌≡◌, ◌≢◌, ℕ, zero, suc, ◌+◌, ◌-◌, ◌<◌, ◌≤◌, inl, inr, Bool, true, false, cond, List, [], ◌∷◌, ◌++◌, is_some, Some, refl, sym, ap, ◌∙◌, subst, arith}
use Rattle.std.specs.Prelude.{◌==◌, ◌||◌}
use Rattle.std.proofs.lemmas.Bool.Decides.{nat_tests}
use Rattle.im_mem.specs.Memory.{is_place}
use Rattle.im_rv.specs.declared.effect.Effect.{Effect}
use Rattle.im_rv.specs.declared.effect.Effect.TheVariants.{Puts, Goes, Loads, Stores, Stops}
use Rattle.im_rv.specs.Effects.{writes_by, reads_by}
use Rattle.im_rv_reach.specs.Touches.{Touch, Loaded, Stored, Flipped, touch_of, touches, is_system, heard}
use Rattle.im_replay_path.specs.Sections.{start, wrote}
use Rattle.im_replay_path.proofs.Times.{truth, order, start_past, start_le}
use Rattle.im_ckpt.specs.Runs.{State, effect_at, flip, writes, reads}
use Rattle.im_block.specs.Sections.{Item, Reader, Writer, Break, Has, Exposed, NoWarAfter}
use Rattle.im_select_relation.specs.Law.{addresses, machine_items}
use Rattle.im_rtlib_laws.specs.Orderly.{touched_from}
use Rattle.im_rtlib_laws.proofs.Sections.{place_sizes}
use Rattle.im_select_executes.proofs.Accesses.{stores_at, loads_at, written_some}

or_none : (b c : Bool) → (b || c) ≡ false → (b ≡ false) × (c ≡ false)
or_none true c h = absurd (let bad : true ≡ false = h in cc)
or_none false c h = (refl, h)

-- ---- lists of touches

heard_one : (t : Bool) (x : Touch) (ab a b : List Touch) → ab ≡ a ++ b → cond t ab (x ∷ ab) ≡ cond t a (x ∷ a) ++ b
heard_one true x ab a b e = e
heard_one false x ab a b e = ap (λ z. x ∷ z) e

heard_two : (t e : Bool) (x : Touch) (ab a b : List Touch) → ab ≡ a ++ b → cond t (cond e (Flipped ∷ ab) ab) (x ∷ ab) ≡ cond t (cond e (Flipped ∷ a) a) (x ∷ a) ++ b
heard_two true true x ab a b h = ap (λ z. Flipped ∷ z) h
heard_two true false x ab a b h = h
heard_two false e x ab a b h = ap (λ z. x ∷ z) h

heard_append : (a b : List Touch) → heard (a ++ b) ≡ heard a ++ heard b
heard_append [] b = refl
heard_append (Loaded x n ∷ a) b = heard_one (is_system x) (Loaded x n) (heard (a ++ b)) (heard a) (heard b) (heard_append a b)
heard_append (Stored x n ∷ a) b = heard_two (is_system x) (x == 0) (Stored x n) (heard (a ++ b)) (heard a) (heard b) (heard_append a b)
heard_append (Flipped ∷ a) b = ap (λ z. Flipped ∷ z) (heard_append a b)

items_append : (a b : List Touch) → machine_items (a ++ b) ≡ machine_items a ++ machine_items b
items_append [] b = refl
items_append (Loaded x n ∷ a) b = ap (λ z. Reader (addresses x n) ∷ z) (items_append a b)
items_append (Stored x n ∷ a) b = ap (λ z. Writer (addresses x n) ∷ z) (items_append a b)
items_append (Flipped ∷ a) b = ap (λ z. Break ∷ z) (items_append a b)

-- a section with more items
grow : List (Item ℕ) → List (Item ℕ) → List (Item ℕ)
grow s [] = s
grow s (Reader bytes ∷ more) = grow (s ++ Reader bytes ∷ []) more
grow s (Writer bytes ∷ more) = grow (s ++ Writer bytes ∷ []) more
grow s (Break ∷ more) = grow [] more

split : (s a b : List (Item ℕ)) → NoWarAfter s (a ++ b) → NoWarAfter s a × NoWarAfter (grow s a) b
unfolding grow
split s [] b h = (tt, h)
split s (Reader bytes ∷ a) b h = split (s ++ Reader bytes ∷ []) a b h
split s (Writer bytes ∷ a) b h = let k = split (s ++ Writer bytes ∷ []) a b h.1 in ((h.0, k.0), k.1)
split s (Break ∷ a) b h = split [] a b h

-- ---- bytes of a section

has_address : (a b n : ℕ) → b ≤ a → a < b + n → Has (addresses b n) a
has_address a b zero low high = absurd (omega arith)
has_address a b (suc n) low high = elim (order b a) [
  | inr q ↦ inl (omega arith)
  | inl q ↦ inr (has_address a (b + 1) n (omega arith) (omega arith))
]

address_has : (a b n : ℕ) → Has (addresses b n) a → (b ≤ a) × (a < b + n)
address_has a b zero h = absurd h
address_has a b (suc n) (inl e) = (omega arith, omega arith)
address_has a b (suc n) (inr h) = let k = address_has a (b + 1) n h in let x = k.0 in let y = k.1 in (omega arith, omega arith)

-- nothing of a section writes the byte
IsClean : List (Item ℕ) → ℕ → Type 0
IsClean [] a = Unit {0}
IsClean (Reader bytes ∷ s) a = IsClean s a
IsClean (Writer bytes ∷ s) a = (Has bytes a → ⊥) × IsClean s a
IsClean (Break ∷ s) a = ⊥

clean_read : (s : List (Item ℕ)) (bytes : List ℕ) (a : ℕ) → IsClean s a → IsClean (s ++ Reader bytes ∷ []) a
unfolding IsClean
clean_read [] bytes a c = tt
clean_read (Reader x ∷ s) bytes a c = clean_read s bytes a c
clean_read (Writer x ∷ s) bytes a c = (c.0, clean_read s bytes a c.1)
clean_read (Break ∷ s) bytes a c = absurd c

clean_write : (s : List (Item ℕ)) (bytes : List ℕ) (a : ℕ) → (Has bytes a → ⊥) → IsClean s a → IsClean (s ++ Writer bytes ∷ []) a
unfolding IsClean
clean_write [] bytes a not_ c = (not_, tt)
clean_write (Reader x ∷ s) bytes a not_ c = clean_write s bytes a not_ c
clean_write (Writer x ∷ s) bytes a not_ c = (c.0, clean_write s bytes a not_ c.1)
clean_write (Break ∷ s) bytes a not_ c = absurd c

exposes : (s : List (Item ℕ)) (bytes : List ℕ) (a : ℕ) → IsClean s a → Has bytes a → Exposed (s ++ Reader bytes ∷ []) a
unfolding IsClean
exposes [] bytes a c h = inl h
exposes (Reader x ∷ s) bytes a c h = inr (exposes s bytes a c h)
exposes (Writer x ∷ s) bytes a c h = (c.0, exposes s bytes a c.1 h)
exposes (Break ∷ s) bytes a c h = absurd c

exposed_more : (s more : List (Item ℕ)) (a : ℕ) → Exposed s a → Exposed (s ++ more) a
exposed_more [] more a e = absurd e
exposed_more (Reader x ∷ s) more a (inl h) = inl h
exposed_more (Reader x ∷ s) more a (inr e) = inr (exposed_more s more a e)
exposed_more (Writer x ∷ s) more a e = (e.0, exposed_more s more a e.1)
exposed_more (Break ∷ s) more a e = absurd e

-- ---- what one step adds

abbrev pub IsData : ℕ → Type 0
IsData a = (1048576 ≤ a) × (a < 3145728)

above : (b n a : ℕ) → is_place b n ≡ true → IsData a → b ≤ a → a < b + n → (1048576 ≤ b) × (b < 3145728)
above b n a ok d low high =
    let x = d.0 in
    let y = d.1 in
    elim (place_sizes b n ok) [
      | inl q ↦ (omega arith, omega arith)
      | inr (inl q) ↦ (let p = q.0 in let r = q.1 in (omega arith, omega arith))
      | inr (inr q) ↦ (let p = q.0 in let r = q.1 in (omega arith, omega arith))
    ]

beside_system : (b : ℕ) → 1048576 ≤ b → b < 3145728 → is_system b ≡ false
beside_system b low high = grind (arith, nat_tests)

abbrev pub items_of : Effect → List (Item ℕ)
items_of e = machine_items (heard (touch_of e))

items_load : (b n : ℕ) → 1048576 ≤ b → b < 3145728 → machine_items (heard (Loaded b n ∷ [])) ≡ Reader (addresses b n) ∷ []
items_load b n low high = ap (λ z. machine_items (cond z [] (Loaded b n ∷ []))) (beside_system b low high)

items_store : (b n : ℕ) → 1048576 ≤ b → b < 3145728 → machine_items (heard (Stored b n ∷ [])) ≡ Writer (addresses b n) ∷ []
items_store b n low high = ap (λ z. machine_items (cond z (cond (b == 0) (Flipped ∷ []) []) (Stored b n ∷ []))) (beside_system b low high)

-- where INDEX isn't stored, a step keeps a byte exposed
kept_load : (s : List (Item ℕ)) (t : Bool) (b n a : ℕ) → Exposed s a → Exposed (grow s (machine_items (cond t [] (Loaded b n ∷ [])))) a
unfolding grow
kept_load s true b n a e = e
kept_load s false b n a e = exposed_more s (Reader (addresses b n) ∷ []) a e

kept_store : (s : List (Item ℕ)) (t : Bool) (b n a : ℕ) → (b == 0) ≡ false → Exposed s a → Exposed (grow s (machine_items (cond t (cond (b == 0) (Flipped ∷ []) []) (Stored b n ∷ [])))) a
unfolding grow
kept_store s true b n a q e = subst (λ z. Exposed (grow s (machine_items (cond z (Flipped ∷ []) []))) a) (sym q) e
kept_store s false b n a q e = exposed_more s (Writer (addresses b n) ∷ []) a e

not_zero : (b n v : ℕ) → ((k u : ℕ) → Stores b n v ≢ Stores 0 k u) → (b == 0) ≡ false
not_zero b n v h = elim (truth (b == 0)) [
  | inl q ↦ absurd (let z : b ≡ 0 = grind (arith, nat_tests) in h n v (ap (λ k. Stores k n v) z))
  | inr q ↦ q
]

kept_exposed : (s : List (Item ℕ)) (e : Effect) (a : ℕ) → ((n v : ℕ) → e ≢ Stores 0 n v) → Exposed s a → Exposed (grow s (items_of e)) a
unfolding grow
kept_exposed s (Puts v target) a h e = e
kept_exposed s (Goes target) a h e = e
kept_exposed s (Loads b n x) a h e = kept_load s (is_system b) b n a e
kept_exposed s (Stores b n v) a h e = kept_store s (is_system b) b n a (not_zero b n v h) e
kept_exposed s Stops a h e = e

clean_load : (s : List (Item ℕ)) (t : Bool) (b n a : ℕ) → IsClean s a → IsClean (grow s (machine_items (cond t [] (Loaded b n ∷ [])))) a
unfolding grow
clean_load s true b n a c = c
clean_load s false b n a c = clean_read s (addresses b n) a c

clean_store : (s : List (Item ℕ)) (t : Bool) (b n a : ℕ) → (b == 0) ≡ false → (Has (addresses b n) a → ⊥) → IsClean s a → IsClean (grow s (machine_items (cond t (cond (b == 0) (Flipped ∷ []) []) (Stored b n ∷ [])))) a
unfolding grow
clean_store s true b n a q h c = subst (λ z. IsClean (grow s (machine_items (cond z (Flipped ∷ []) []))) a) (sym q) c
clean_store s false b n a q h c = clean_write s (addresses b n) a h c

-- and one that doesn't write it leaves it clean
kept_clean : (s : List (Item ℕ)) (e : Effect) (a : ℕ) → ((n v : ℕ) → e ≢ Stores 0 n v) → ((b n v : ℕ) → e ≡ Stores b n v → is_place b n ≡ true) → is_some (writes_by e a) ≡ false → IsClean s a → IsClean (grow s (items_of e)) a
unfolding grow
kept_clean s (Puts v target) a h ok none c = c
kept_clean s (Goes target) a h ok none c = c
kept_clean s (Loads b n x) a h ok none c = clean_load s (is_system b) b n a c
kept_clean s (Stores b n v) a h ok none c =
    clean_store s (is_system b) b n a (not_zero b n v h) (λ has. (let r = address_has a b n has in let bad : true ≡ false = sym (written_some b n v a (ok b n v refl) r.0 r.1) ∙ none in cc)) c
kept_clean s Stops a h ok none c = c

-- a load of a clean byte exposes it
exposed_by : (s : List (Item ℕ)) (e : Effect) (a : ℕ) → IsData a → reads_by e a ≡ true → IsClean s a → Exposed (grow s (items_of e)) a
unfolding grow
exposed_by s e a d r c =
    let l = loads_at e a r in
    let lies = above l.b l.n a l.ok d l.low l.high in
    subst (λ z. Exposed (grow s (items_of z)) a) (sym l.is)
    (subst (λ z. Exposed (grow s z) a) (sym (items_load l.b l.n lies.0 lies.1))
    (exposes s (addresses l.b l.n) a c (has_address a l.b l.n l.low l.high)))

-- a store to it isn't of a section without such a write
refused : (s : List (Item ℕ)) (e : Effect) (a w : ℕ) → IsData a → NoWarAfter s (items_of e) → Exposed s a → writes_by e a ≡ Some w → ⊥
refused s e a w d h x k =
    let l = stores_at e a w k in
    let lies = above l.b l.n a l.ok d l.low l.high in
    let g : NoWarAfter s (Writer (addresses l.b l.n) ∷ []) = subst (NoWarAfter s) (ap items_of l.is ∙ items_store l.b l.n lies.0 lies.1) h in
    g.0 a (has_address a l.b l.n l.low l.high) x

-- ---- a run

module _ (run : ℕ → State) (same : (t : ℕ) → touches (run t).cpu (run t).mem ≡ touch_of (effect_at (run t))) where
  -- the items of a section up to a time
  section : ℕ → List (Item ℕ)
  section zero = []
  section (suc t) = grow (section t) (items_of (effect_at (run t)))

  within : (n t : ℕ) → NoWarAfter (section t) (machine_items (heard (touched_from run t n))) → (k : ℕ) → t ≤ k → k < t + n → NoWarAfter (section k) (items_of (effect_at (run k)))
  unfolding section
  within zero t h k low high = absurd (omega arith)
  within (suc n) t h k low high =
      let parts : machine_items (heard (touched_from run t (suc n))) ≡ items_of (effect_at (run t)) ++ machine_items (heard (touched_from run (suc t) n)) =
      ap machine_items (heard_append (touches (run t).cpu (run t).mem) (touched_from run (suc t) n))
      ∙ items_append (heard (touches (run t).cpu (run t).mem)) (heard (touched_from run (suc t) n))
      ∙ ap (λ z. machine_items (heard z) ++ machine_items (heard (touched_from run (suc t) n))) (same t) in
      let both = split (section t) (items_of (effect_at (run t))) (machine_items (heard (touched_from run (suc t) n))) (subst (NoWarAfter (section t)) parts h) in
      elim (order t k) [
        | inl later ↦ within n (suc t) both.1 k (omega arith) (omega arith)
        | inr now ↦ (let q : t ≡ k = omega arith in subst (λ z. NoWarAfter (section z) (items_of (effect_at (run z)))) q both.0)
      ]

  module _ (j : ℕ) (index : (t n v : ℕ) → t < j → flip run t ≡ false → effect_at (run t) ≢ Stores 0 n v) (ok : (t b n v : ℕ) → t < j → effect_at (run t) ≡ Stores b n v → is_place b n ≡ true) (breaks : (t : ℕ) → t < j → flip run t ≡ true → items_of (effect_at (run t)) ≡ Break ∷ []) where
    clean : (t a : ℕ) → t ≤ j → wrote (flip run) (writes run) t a ≡ false → IsClean (section t) a
    unfolding section IsClean grow
    clean zero a le h = tt
    clean (suc t) a le h = elim (truth (flip run t)) [
      | inl f ↦ subst (λ z. IsClean (grow (section t) z) a) (sym (breaks t (omega arith) f)) tt
      | inr f ↦ (
          let both = or_none (is_some (writes run t a)) (wrote (flip run) (writes run) t a) (sym (ap (λ b. cond b false (is_some (writes run t a) || wrote (flip run) (writes run) t a)) f) ∙ h) in
          kept_clean (section t) (effect_at (run t)) a (λ n v. index t n v (omega arith) f) (λ b n v. ok t b n v (omega arith)) both.0 (clean t a (omega arith) both.1))
    ]

    exposed : (n t a : ℕ) → t + n < j → IsData a → ((k : ℕ) → t ≤ k → k < suc t + n → flip run k ≡ false) → reads run t a ≡ true → wrote (flip run) (writes run) t a ≡ false → Exposed (section (suc t + n)) a
    unfolding section
    exposed zero t a lt d calm r w =
        let q : suc t ≡ suc t + 0 = omega arith in
        subst (λ z. Exposed (section z) a) q (exposed_by (section t) (effect_at (run t)) a d r (clean t a (omega arith) w))
    exposed (suc n) t a lt d calm r w =
        let q : suc (suc t + n) ≡ suc t + suc n = omega arith in
        let rest = exposed n t a (omega arith) d (λ k low high. calm k low (omega arith)) r w in
        subst (λ z. Exposed (section z) a) q (kept_exposed (section (suc t + n)) (effect_at (run (suc t + n))) a (λ m v. index (suc t + n) m v (omega arith) (calm (suc t + n) (omega arith) (omega arith))) rest)

    pub no_war : NoWarAfter [] (machine_items (heard (touched_from run 0 j))) → (t u a w : ℕ) → t < u → u < j → start (flip run) t ≡ start (flip run) u → IsData a → reads run t a ≡ true → wrote (flip run) (writes run) t a ≡ false → writes run u a ≡ Some w → ⊥
    unfolding section
    no_war h t u a w before lt one d r unwritten written_ =
        let n : ℕ = u - suc t in
        let q : suc t + n ≡ u = omega arith in
        let calm : (k : ℕ) → t ≤ k → k < suc t + n → flip run k ≡ false = λ k low high. elim (truth (flip run k)) [
          | inl f ↦ absurd (let x = start_past (flip run) k u f (omega arith) in let y = start_le (flip run) t in omega arith)
          | inr f ↦ f
        ] in
        refused (section u) (effect_at (run u)) a w d (within j 0 h u (omega arith) (omega arith)) (subst (λ z. Exposed (section z) a) q (exposed n t a (omega arith) d calm r unwritten)) written_
