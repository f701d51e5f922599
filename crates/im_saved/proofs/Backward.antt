-- What a run uses lives where it was: by induction backward from the time of use.
use Rattle.std.proofs.Common.{◌≡◌, ◌≢◌, ℕ, zero, suc, ◌+◌, ◌-◌, ◌<◌, ◌≤◌, ◌⊎◌, inl, inr, Bool, true, false, List, length, Option, Some, refl, sym, ap, subst, ◌∙◌, arith}
use Rattle.std.specs.Prelude.{◌==◌, ◌&&◌, ◌||◌, not, nat_lt}
use Rattle.std.proofs.lemmas.Bool.Decides.{nat_tests}
use Rattle.im_rv.specs.declared.effect.Effect.{Effect}
use Rattle.im_rv.specs.Decode.{Line}
use Rattle.im_rv.specs.Effects.{rd_of, rs1_of, rs2_of, sets_by}
use Rattle.im_rv.specs.Code.{address}
use Rattle.im_replay_path.proofs.Times.{order}
use Rattle.im_ckpt.specs.Runs.{State, line_at, effect_at, sets}
use Rattle.im_ckpt.specs.Buffers.{saves_by}
use Rattle.im_ckpt.specs.Recovery.{return_line}
use Rattle.im_ckpt.specs.Checkpoint.{store_line, shift_line, flip_line}
use Rattle.im_ckpt.specs.Laws.{is_runtime, IsCut, IsIntact}
use Rattle.im_ckpt.proofs.Slots.{saves_if}
use Rattle.im_ckpt.proofs.Rungs.{entry_line, ladder_reg, ladder_store, reg_named, store_back, shift_back, flip_back}
use Rattle.im_ckpt.proofs.Phases.{Climbing, entry_line_at, ladder_line_at, climb_store, return_line_at, effect_is, enters, in_entry, on_ladder, at_return, comes_back}
use Rattle.im_replay.specs.Needed.{uses}
use Rattle.im_gap.specs.Flows.{IsAt}
use Rattle.im_keeps_until.specs.Until.{IsUsedAt}
use Rattle.im_saved.specs.Liveness.{uses_register, IsCutTo, IsLiveness, EntersByCuts}
use Rattle.im_saved.specs.Laws.{BeginsAt, KeepsToCode, LivesUntil, LiveLaw}
use Rattle.im_saved.proofs.Places.{behind_outside, outside_behind, entry_inside, entry_apart, found, place, word_line, Same, Beside, Cuts, onward, here, first_outside, edge, unset_word}

equal_of : (i k : ℕ) → (i == k) ≡ true → i ≡ k
equal_of i k h = grind (arith, nat_tests)

one_of : (r a b : ℕ) (s : Bool) → (r == a || (r == b && s)) ≡ true → (r ≡ a) ⊎ (r ≡ b)
one_of r a b s h = by_parts (r == a) (r == b) refl refl h
  where
    by_parts : (x y : Bool) → (r == a) ≡ x → (r == b) ≡ y → (x || (y && s)) ≡ true → (r ≡ a) ⊎ (r ≡ b)
    by_parts true y p q h = inl (equal_of r a p)
    by_parts false true p q h = inr (equal_of r b q)
    by_parts false false p q h = absurd (cc)

-- a use whose second register is stored into a buffer
first_of : (r a b : ℕ) (s : Bool) → s ≡ false → (r == a || (r == b && s)) ≡ true → r ≡ a
first_of r a b s e h = by_parts (r == a) (r == b) refl (ap (λ z. r == a || (r == b && z)) (sym e) ∙ h)
  where
    by_parts : (x y : Bool) → (r == a) ≡ x → (x || (y && false)) ≡ true → r ≡ a
    by_parts true y p h = equal_of r a p
    by_parts false true p h = absurd (cc)
    by_parts false false p h = absurd (cc)

used_word : (r a b : ℕ) (s : Bool) → 0 < r → (r == a || (r == b && s)) ≡ true → (nat_lt 0 r && (r == a || r == b)) ≡ true
used_word r a b s pos h = by_parts (nat_lt 0 r) (r == a) (r == b) s (grind (arith, nat_tests)) h
  where
    by_parts : (p x y s : Bool) → p ≡ true → (x || (y && s)) ≡ true → (p && (x || y)) ≡ true
    by_parts p true y s q h = ap (λ z. z && true) q
    by_parts p false true s q h = ap (λ z. z && true) q
    by_parts p false false s q h = absurd (cc)

later : (run : ℕ → State) (t u r time : ℕ) → t ≤ u → u ≤ time → IsUsedAt run t r time → IsUsedAt run u r time
later run t u r time a b x = record { later = b; used = x.used; unset = λ v l k. x.unset v (omega arith) k }

now_or_later : (t time : ℕ) → t ≤ time → (t ≡ time) ⊎ (t < time)
now_or_later t time l = grind arith

by_zero : (k : ℕ) → (k ≡ 0) ⊎ (0 < k)
by_zero k = grind arith

three_places : (p : ℕ) → p ≤ 31 → (p < 30) ⊎ ((p ≡ 30) ⊎ (p ≡ 31))
three_places p l = grind arith

module _ (words : List ℕ) (entry j : ℕ) (run : ℕ → State) (g : BeginsAt words entry run) (o : KeepsToCode words run j) (e : EntersByCuts words entry) where
  abbrev code : ℕ
  code = address (length words)

  uses_line : (t r : ℕ) (l : Line) → line_at (run t) ≡ Some l → uses (run t) r ≡ true → (r == l.rs1 || (r == l.rs2 && not (saves_by (effect_at (run t))))) ≡ true
  uses_line t r l q h = sym (ap (λ (o : Option Line). r == rs1_of o || (r == rs2_of o && not (saves_by (effect_at (run t))))) q) ∙ h

  uses_two : (t r : ℕ) (l : Line) → line_at (run t) ≡ Some l → uses (run t) r ≡ true → (r ≡ l.rs1) ⊎ (r ≡ l.rs2)
  uses_two t r l q h = one_of r l.rs1 l.rs2 _ (uses_line t r l q h)

  -- ---- the routine uses x0, x3 and x4 alone

  entry_uses : (m k r : ℕ) → 0 < k → (r ≡ (entry_line m k).rs1) ⊎ (r ≡ (entry_line m k).rs2) → (r ≡ 4) ⊎ (r ≡ 0)
  entry_uses m zero r pos h = absurd (omega arith)
  entry_uses m (suc zero) r pos h = h
  entry_uses m (suc (suc zero)) r pos h = h
  entry_uses m (suc (suc (suc zero))) r pos h = h
  entry_uses m (suc (suc (suc (suc k)))) r pos (inl h) = inr h
  entry_uses m (suc (suc (suc (suc k)))) r pos (inr h) = inr h

  rung_uses : (t t0 m p r : ℕ) → IsIntact run code t → Climbing run t t0 m p → uses (run t) r ≡ true → (r ≡ 4) ⊎ (r ≡ 0)
  rung_uses t t0 m p r h c u = elim (three_places p c.to) [
    | inl low ↦ (
        let named = reg_named p low in
        let s = climb_store run code g.based t t0 m p h c low in
        let l = ladder_line_at run code g.based t t0 m p (store_line (ladder_reg p)) h c (ladder_store p low) (store_back (ladder_reg p) named.1) in
        inl (first_of r 4 (ladder_reg p) _ (ap not (saves_if (run t) (ladder_reg p) s.saves)) (uses_line t r (store_line (ladder_reg p)) l u)))
    | inr (inl x) ↦ uses_two t r shift_line (ladder_line_at run code g.based t t0 m 30 shift_line h (subst (Climbing run t t0 m) x c) refl shift_back) u
    | inr (inr x) ↦ swapped (uses_two t r flip_line (ladder_line_at run code g.based t t0 m 31 flip_line h (subst (Climbing run t t0 m) x c) refl flip_back) u)
  ]
    where
      swapped : (r ≡ 0) ⊎ (r ≡ 4) → (r ≡ 4) ⊎ (r ≡ 0)
      swapped (inl q) = inr q
      swapped (inr q) = inl q

  -- of a register that isn't set between the cut and its use: x3 is set by the cut, and x4 by the step behind it
  module _ (t m r time : ℕ) (c : IsCut run t m) (h : IsIntact run code (suc t)) (link : sets (run t) 3 ≡ true) (x : IsUsedAt run t r time) (after : t < time) (pos : 0 < r) where
    not_three : r ≢ 3
    not_three q = (let bad : true ≡ false = sym link ∙ ap (sets (run t)) (sym q) ∙ x.unset t (omega arith) after in cc)

    sets_four : sets (run (suc t)) 4 ≡ true
    sets_four =
        let l = entry_line_at run code g.based (suc t) t m 0 h (enters run code g.based t m c) in
        ap (λ (z : Effect). sets_by z (rd_of (line_at (run (suc t)))) 4) (effect_is run code g.based (suc t) (entry_line m 0) l)
        ∙ ap (λ z. 4 == z && nat_lt 0 z) (ap rd_of l)

    not_four : suc t < time → r ≢ 4
    not_four far q = (let bad : true ≡ false = sym sets_four ∙ ap (sets (run (suc t))) (sym q) ∙ x.unset (suc t) (omega arith) far in cc)

    neither : suc t < time → (r ≡ 4) ⊎ (r ≡ 0) → ⊥
    neither far (inl q) = not_four far q
    neither far (inr q) = absurd (omega arith)

    in_entry_not : (k : ℕ) → k < 5 → time ≡ t + 1 + k → ⊥
    in_entry_not k small q =
        let s = in_entry run code g.based t m k c h small in
        let l = entry_line_at run code g.based (t + 1 + k) t m k s.0 s.1 in
        let u = uses_two (t + 1 + k) r (entry_line m k) l (subst (λ z. uses (run z) r ≡ true) q x.used) in
        elim (by_zero k) [
          | inl first ↦ (elim (subst (λ z. (r ≡ (entry_line m z).rs1) ⊎ (r ≡ (entry_line m z).rs2)) first u) [ inl z ↦ absurd (omega arith) | inr z ↦ absurd (omega arith) ])
          | inr more ↦ neither (omega arith) (entry_uses m k r more u)
        ]

    on_ladder_not : (n : ℕ) → n ≤ m → time ≡ t + 6 + n → ⊥
    on_ladder_not n le q =
        let s = on_ladder run code g.based t m n c h le in
        neither (omega arith) (rung_uses (t + 6 + n) t m (31 - m + n) r s.0 s.1 (subst (λ z. uses (run z) r ≡ true) q x.used))

    at_return_not : time ≡ t + m + 7 → ⊥
    at_return_not q =
        let s = at_return run code g.based t m c h in
        let l = return_line_at run code g.based (t + m + 7) t m s.0 s.1 in
        elim (uses_two (t + m + 7) r return_line l (subst (λ z. uses (run z) r ≡ true) q x.used)) [ inl z ↦ not_three z | inr z ↦ absurd (omega arith) ]

    sections : time < t + m + 8 → (time < t + 6) ⊎ (((t + 6 ≤ time) × (time ≤ t + 6 + m)) ⊎ (time ≡ t + m + 7))
    sections l = grind arith

    inside_not : time < t + m + 8 → ⊥
    inside_not l = elim (sections l) [
      | inl a ↦ in_entry_not (time - (t + 1)) (omega arith) (omega arith)
      | inr (inl b) ↦ (let low = b.0 in let high = b.1 in on_ladder_not (time - (t + 6)) (omega arith) (omega arith))
      | inr (inr q) ↦ at_return_not q
    ]

  -- ---- backward from the use

  behind_cut : (t i m : ℕ) → IsAt run t i → IsCut run t m → IsIntact run code (suc t) → IsAt run (t + m + 8) (suc i)
  behind_cut t i m p c h = let b = (comes_back run code g.based t m c h).1 in omega arith

  module _ (live : ℕ → ℕ → Bool) (n : IsLiveness words entry live) where
    used_here : (t i r : ℕ) → t < j → 237 ≤ i → IsAt run t i → 0 < r → uses (run t) r ≡ true → live i r ≡ true
    used_here t i r lt out p pos u =
        let f = found words entry j run g o e t lt in
        let l = f.line in
        let w = word_line words entry j run g o e t i lt (here words entry j run g o e t (omega arith)).fine p ∙ f.is in
        n.uses i r out (ap (λ (o : Option Line). uses_register o r) w ∙ used_word r l.rs1 l.rs2 _ pos (uses_line t r l f.is u))

    lives : (k t i r time : ℕ) → time < k + t → time < j → 237 ≤ i → IsAt run t i → 0 < r → IsUsedAt run t r time → live i r ≡ true
    lives zero t i r time near lt out p pos x = absurd (let l = x.later in omega arith)
    lives (suc k) t i r time near lt out p pos x = elim (now_or_later t time x.later) [
      | inl q ↦ used_here t i r (omega arith) out p pos (subst (λ z. uses (run z) r ≡ true) (sym q) x.used)
      | inr more ↦ (
          let fine = (here words entry j run g o e t (omega arith)).fine in
          elim (onward words entry j run g o e t i (omega arith) fine out p) [
            | Same next ↦ lives k (suc t) i r time (omega arith) lt out next pos (later run t (suc t) r time (omega arith) (omega arith) x)
            | Beside off other on ↦ (
                let to = place words entry j run g o e (suc t) (omega arith) in
                let behind = outside_behind to.0 (sym (ap is_runtime to.2) ∙ off) in
                let l = lives k (suc t) to.0 r time (omega arith) lt behind to.2 pos (later run t (suc t) r time (omega arith) (omega arith) x) in
                let flow = edge words entry j run g o e t i to.0 (omega arith) fine out p to.2 on in
                n.flows i to.0 r out other flow l (unset_word words entry j run g o e t i r (omega arith) fine p (x.unset t (omega arith) more)))
            | Cuts m to c link ↦ (
                let after = (here words entry j run g o e (suc t) (omega arith)).fine in
                elim (order time (t + m + 8)) [
                  | inl soon ↦ absurd (inside_not t m r time c after link x more pos soon)
                  | inr back ↦ n.cuts i r out to.linked (lives k (t + m + 8) (suc i) r time (omega arith) lt (omega arith) (behind_cut t i m p c after) pos (later run t (t + m + 8) r time (omega arith) back x))
                ])
          ])
    ]

    -- ---- the law

    -- a cut of the run is a cut of the words
    cut_word : (t k i : ℕ) → t < j → IsCut run t k → IsAt run t i → (237 ≤ i) × IsCutTo words i k
    cut_word t k i lt c p =
        let out = outside_behind i (sym (ap is_runtime p) ∙ c.outside) in
        let into : is_runtime (run (suc t)).cpu.pc ≡ true = ap is_runtime c.entered ∙ entry_inside k c.above c.below in (
          out,
          elim (onward words entry j run g o e t i lt (here words entry j run g o e t (omega arith)).fine out p) [
            | Same next ↦ absurd (let bad : true ≡ false = sym into ∙ ap is_runtime next ∙ behind_outside i out in cc)
            | Beside off other on ↦ absurd (let bad : true ≡ false = sym into ∙ off in cc)
            | Cuts m to d link ↦ subst (IsCutTo words i) (entry_apart m k d.above c.above (sym d.entered ∙ c.entered)) to
          ],
        )

    cuts : (t : ℕ) → t < j → is_runtime (run t).cpu.pc ≡ false → is_runtime (run (suc t)).cpu.pc ≡ true → (k : ℕ) × IsCut run t k
    cuts t lt off into =
        let x = place words entry j run g o e t lt in
        let out = outside_behind x.0 (sym (ap is_runtime x.2) ∙ off) in
        elim (onward words entry j run g o e t x.0 lt (here words entry j run g o e t (omega arith)).fine out x.2) [
          | Same next ↦ absurd (let bad : true ≡ false = sym into ∙ ap is_runtime next ∙ behind_outside x.0 out in cc)
          | Beside beyond other on ↦ absurd (let bad : true ≡ false = sym into ∙ beyond in cc)
          | Cuts m to c link ↦ (m, c)
        ]

    needs : (t k i time : ℕ) → time < j → IsCut run t k → IsUsedAt run (t + k + 8) i time → (i ≤ k) × (i ≢ 3) × (i ≢ 4)
    needs t k i time lt c x = elim (by_zero i) [
      | inl none ↦ (omega arith, omega arith, omega arith)
      | inr pos ↦ (
          let late = x.later in
          let at = place words entry j run g o e t (omega arith) in
          let w = cut_word t k at.0 (omega arith) c at.2 in
          let out = w.0 in
          let after = (here words entry j run g o e (suc t) (omega arith)).fine in
          n.saved at.0 k i out w.1 (lives (suc time) (t + k + 8) (suc at.0) i time (omega arith) lt (omega arith) (behind_cut t at.0 k at.2 c after) pos x))
    ]

    needs_first : (i time : ℕ) → time < j → IsUsedAt run 0 i time → (i ≢ 3) × (i ≢ 4) × (i < 32)
    needs_first i time lt x = elim (by_zero i) [
      | inl none ↦ (omega arith, omega arith, omega arith)
      | inr pos ↦ (
          let at = place words entry j run g o e 0 (omega arith) in
          let out = outside_behind at.0 (sym (ap is_runtime at.2) ∙ first_outside words entry j run g o e) in
          n.first at.0 i (sym at.2 ∙ g.entered) (lives (suc time) 0 at.0 i time (omega arith) lt out at.2 pos x))
    ]

    all : LivesUntil words run j
    all = record {
      cuts = cuts;
      needs = needs;
      needs_first = needs_first;
      linked = λ t m i lt c p. (cut_word t m i lt c p).1.linked;
    }

pub live_law : LiveLaw
live_law words entry j live run n e g o = all words entry j run g o e live n
