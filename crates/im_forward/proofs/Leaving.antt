-- Copies that are left out: what lives is no more than before, and leaving out again leaves out.
use Rattle.std.proofs.Common.{◌≡◌, ◌⊎◌, inl, inr, ℕ, zero, suc, ◌+◌, ◌<◌, ◌≤◌, Bool, true, false, List, [], ◌∷◌, ◌++◌, Some, None, refl, sym, ap, ◌∙◌, subst, arith, length, drop, get_or, eqb-true}
use Rattle.std.specs.Prelude.{◌==◌, ◌&&◌, ◌||◌, not, slice_get, slice_index}
use Rattle.im_block.specs.declared.code.Line.{Line}
use Rattle.im_block.specs.declared.code.Line.TheVariants.{Copy, Serve}
use Rattle.im_block.specs.declared.code.Exit.{Exit}
use Rattle.im_block.specs.declared.code.Exit.TheVariants.{Jump, Turn, Branch, Return}
use Rattle.im_alloc_relation.specs.Live.{uses, sets, exit_lives, lives}
use Rattle.im_block_live.specs.Words.{starts_have, ArePoints}
use Rattle.im_block_live.proofs.Paths.{either, or_left, or_right}
use Rattle.im_forward.specs.Straight.{setting, IsPair}
use Rattle.im_forward.specs.Forward.{line_using, ForwardsLines, Ends, Kept, LeftOut, Straight}
use Rattle.im_forward.specs.Known.{IsOutside, IsDead, IsIdle, LeavesOutLines, AreOf}
use Rattle.im_forward.proofs.Same.{both_true, both_are, kept_lives}
use Rattle.im_forward.proofs.Setting.{no_copy_set}

-- ---- what lives

module _ (live : ℕ → ℕ → Bool) (exit : Exit) where
  record Idle (behind : List Line) (line : Line) : Type 0 where
    to : ℕ
    from : ℕ
    is : line ≡ Copy to from
    dead : lives live behind exit to ≡ false

  idle : (behind : List Line) (line : Line) → IsIdle live exit behind line → Idle behind line
  idle behind (Copy to from) h = record { to = to; from = from; is = refl; dead = h }
  idle behind line h = absurd h

  idle_of : (behind : List Line) (line : Line) → Idle behind line → IsIdle live exit behind line
  idle_of behind line h = subst (IsIdle live exit behind) (sym h.is) h.dead

  pub lives_less : (old new : List Line) → LeavesOutLines live exit old new → (v : ℕ) → lives live new exit v ≡ true → lives live old exit v ≡ true
  lives_less [] new h v e = subst (λ z. lives live z exit v ≡ true) h e
  lives_less (line ∷ old) new h v e = elim h [
    | inl kept ↦ (
        let rest = kept.0 in
        let here : lives live (line ∷ rest) exit v ≡ true = subst (λ z. lives live z exit v ≡ true) kept.1 e in
        elim (either (uses line v) (not (sets line v) && lives live rest exit v) here) [
          | inl used ↦ or_left (uses line v) (not (sets line v) && lives live old exit v) used
          | inr behind ↦ (let b = both_true (not (sets line v)) (lives live rest exit v) behind in
              or_right (uses line v) (not (sets line v) && lives live old exit v) (both_are (not (sets line v)) (lives live old exit v) b.0 (lives_less old rest kept.2 v b.1)))
        ]
        )
    | inr left ↦ (
        let i = idle new line left.0 in
        let unset : sets line v ≡ false = ap (λ z. sets z v) i.is ∙ other i.to i.dead (v == i.to) refl in
        kept_lives live line old exit v unset (lives_less old new left.1 v e)
        )
  ]
    where
      other : (to : ℕ) → lives live new exit to ≡ false → (t : Bool) → (v == to) ≡ t → (v == to) ≡ false
      other to dead false is = is
      other to dead true is = absurd (let same : v ≡ to = eqb-true v to is in let no : lives live new exit v ≡ false = subst (λ z. lives live new exit z ≡ false) (sym same) dead in cc)

  pub dead_still : (old new : List Line) → LeavesOutLines live exit old new → (v : ℕ) → lives live old exit v ≡ false → lives live new exit v ≡ false
  dead_still old new h v e = by (lives live new exit v) refl
    where
      by : (t : Bool) → lives live new exit v ≡ t → t ≡ false
      by false is = refl
      by true is = absurd (let more = lives_less old new h v is in cc)

  idle_still : (old new : List Line) → LeavesOutLines live exit old new → (line : Line) → IsIdle live exit old line → IsIdle live exit new line
  idle_still old new h line i =
      let k = idle old line i in
      idle_of new line (record { to = k.to; from = k.from; is = k.is; dead = dead_still old new h k.to k.dead })

  -- ---- none left out, and left out again

  pub leaves_none : (lines : List Line) → LeavesOutLines live exit lines lines
  leaves_none [] = refl
  leaves_none (line ∷ lines) = inl (lines, refl, leaves_none lines)

  pub leaves_again : (xs ys zs : List Line) → LeavesOutLines live exit xs ys → LeavesOutLines live exit ys zs → LeavesOutLines live exit xs zs
  leaves_again [] ys zs h k = subst (λ (z : List Line). LeavesOutLines live exit z zs) h k
  leaves_again (x ∷ xs) ys zs h k = elim h [
    | inl kept ↦ elim (subst (λ (z : List Line). LeavesOutLines live exit z zs) kept.1 k) [
      | inl again ↦ inl (again.0, again.1, leaves_again xs kept.0 again.0 kept.2 again.2)
      | inr left ↦ inr (left.0, leaves_again xs kept.0 zs kept.2 left.1)
    ]
    | inr left ↦ inr (idle_still ys zs k x left.0, leaves_again xs ys zs left.1 k)
  ]

  -- ---- line by line: what is idle behind the old lines is idle behind the new ones

  abbrev pub LeavesTo : ℕ → List Line → List Line → Type 0
  LeavesTo zero old new = new ≡ []
  LeavesTo (suc i) [] new = ⊥
  LeavesTo (suc i) (line ∷ old) new =
      ((rest : List Line) × (new ≡ line ∷ rest) × LeavesTo i old rest) ⊎ (IsIdle live exit old line × LeavesTo i old new)

  pub keeps_more : (i : ℕ) (old new : List Line) (line : Line) → slice_get old i ≡ Some line → LeavesTo i old new → LeavesTo (suc i) old (new ++ line ∷ [])
  keeps_more i [] new line at h = cc
  keeps_more zero (x ∷ old) new line at h =
      let same : x ≡ line = cc in
      inl ([], ap (λ (z : List Line). z ++ line ∷ []) h ∙ ap (λ z. z ∷ []) (sym same), refl)
  keeps_more (suc i) (x ∷ old) new line at h = elim h [
    | inl kept ↦ inl (kept.0 ++ line ∷ [], ap (λ (z : List Line). z ++ line ∷ []) kept.1, keeps_more i old kept.0 line at kept.2)
    | inr left ↦ inr (left.0, keeps_more i old new line at left.1)
  ]

  pub drops_more : (i : ℕ) (old new : List Line) (line : Line) → slice_get old i ≡ Some line → IsIdle live exit (drop (suc i) old) line → LeavesTo i old new → LeavesTo (suc i) old new
  drops_more i [] new line at is h = cc
  drops_more zero (x ∷ old) new line at is h =
      let same : x ≡ line = cc in
      inr (subst (IsIdle live exit old) (sym same) is, h)
  drops_more (suc i) (x ∷ old) new line at is h = elim h [
    | inl kept ↦ inl (kept.0, kept.1, drops_more i old kept.0 line at is kept.2)
    | inr left ↦ inr (left.0, drops_more i old new line at is left.1)
  ]

  pub leaves_all : (i : ℕ) (old new : List Line) → length old ≤ i → LeavesTo i old new → LeavesOutLines live exit old new
  leaves_all zero [] new le h = h
  leaves_all zero (line ∷ old) new le h = absurd (omega arith)
  leaves_all (suc i) [] new le h = absurd h
  leaves_all (suc i) (line ∷ old) new le h = elim h [
    | inl kept ↦ inl (kept.0, kept.1, leaves_all i old kept.0 (omega arith) kept.2)
    | inr left ↦ (let rest = leaves_all i old new (omega arith) left.1 in inr (idle_still old new rest line left.0, rest))
  ]

-- ---- of a group of 32

module _ (f g : ℕ → ℕ → Bool) (v : ℕ) (same : (b : ℕ) → f b v ≡ g b v) where
  exit_same : (exit : Exit) → exit_lives f exit v ≡ exit_lives g exit v
  exit_same (Jump b) = same b
  exit_same (Turn b) = same b
  exit_same (Branch on a b) = ap (λ (z : Bool). v == on || z || f b v) (same a) ∙ ap (λ (z : Bool). v == on || g a v || z) (same b)
  exit_same (Return from) = refl

  lives_same : (lines : List Line) (exit : Exit) → lives f lines exit v ≡ lives g lines exit v
  lives_same [] exit = exit_same exit
  lives_same (line ∷ lines) exit = ap (λ (z : Bool). uses line v || (not (sets line v) && z)) (lives_same lines exit)

outside_idle : (live : ℕ → ℕ → Bool) (base : ℕ) (starts : List ℕ) (lines : List Line) (exit : Exit) (words : List ℕ) (i r : ℕ) → AreOf live base starts → ArePoints base starts lines exit words → i ≤ length lines → IsOutside base (slice_index words i) r → lives live (drop i lines) exit r ≡ false
outside_idle live base starts lines exit words i r of points le o =
    let one : lives (starts_have starts o.bit) (drop i lines) exit (base + o.bit) ≡ false = sym (points.each i o.bit le o.small) ∙ o.dead in
    let all : lives live (drop i lines) exit (base + o.bit) ≡ false = sym (lives_same (starts_have starts o.bit) live (base + o.bit) (λ b. of b o.bit o.small) (drop i lines) exit) ∙ one in
    subst (λ z. lives live (drop i lines) exit z ≡ false) (sym o.is) all

pub dead_idle : (live : ℕ → ℕ → Bool) (base : ℕ) (starts : List ℕ) (lines : List Line) (exit : Exit) (words : List ℕ) (i : ℕ) (line : Line) → AreOf live base starts → ArePoints base starts lines exit words → i ≤ length lines → IsDead base (slice_index words i) line → IsIdle live exit (drop i lines) line
dead_idle live base starts lines exit words i (Copy to from) of points le d = outside_idle live base starts lines exit words i to of points le d
dead_idle live base starts lines exit words i line of points le d = absurd d

pub default_free : (ws : List ℕ) (k a b : ℕ) → k < length ws → get_or ws k a ≡ get_or ws k b
default_free [] k a b lt = absurd (omega arith)
default_free (w ∷ ws) zero a b lt = refl
default_free (w ∷ ws) (suc k) a b lt = default_free ws k a b (omega arith)

-- by the word that was read
pub dead_at : (live : ℕ → ℕ → Bool) (base : ℕ) (starts : List ℕ) (lines : List Line) (exit : Exit) (words : List ℕ) (i word : ℕ) (line : Line) → AreOf live base starts → ArePoints base starts lines exit words → i < length lines → word ≡ get_or words (i + 1) word → IsDead base word line → IsIdle live exit (drop (suc i) lines) line
dead_at live base starts lines exit words i word line of points lt is d =
    let count = points.count in
    let next : i + 1 ≡ suc i = omega arith in
    let read : word ≡ slice_index words (suc i) = is ∙ default_free words (i + 1) word 0 (omega arith) ∙ ap (λ n. slice_index words n) next in
    dead_idle live base starts lines exit words (suc i) line of points (omega arith) (subst (λ w. IsDead base w line) read d)

-- ---- a forwarded block of which copies are left out is a forwarded block

idle_using : (live : ℕ → ℕ → Bool) (exit : Exit) (behind : List Line) (instead : ℕ → ℕ) (line : Line) → IsIdle live exit behind (line_using instead line) → IsIdle live exit behind line
idle_using live exit behind instead (Copy to from) h = h
idle_using live exit behind instead (Serve to service None) h = absurd h
idle_using live exit behind instead (Serve to service (Some from)) h = absurd h
idle_using live exit behind instead line h = absurd h

pair_still : (live : ℕ → ℕ → Bool) (exit : Exit) (old new : List Line) (x y : Line) (t v : ℕ) → LeavesOutLines live exit old new → IsPair live exit old x y t v → IsPair live exit new x y t v
pair_still live exit old new x y t v h p = record {
  sets = p.sets;
  passes = p.passes;
  dies = elim p.dies [ inl same ↦ inl same | inr dead ↦ inr (dead_still live exit old new h t dead) ];
}

pub left_out : (free : ℕ) (live : ℕ → ℕ → Bool) (a b : Exit) (before old middle : List Line) → ForwardsLines free live a b before old middle → (new : List Line) → LeavesOutLines live b middle new → ForwardsLines free live a b before old new
left_out free live a b before old middle (Ends gone e) new h = subst (ForwardsLines free live a b gone []) (sym h) (Ends gone e)
left_out free live a b before old middle (Kept gone rest rest' x y k left) new h = elim h [
  | inl kept ↦ subst (ForwardsLines free live a b gone (x ∷ rest)) (sym kept.1) (Kept gone rest kept.0 x y k (left_out free live a b (x ∷ gone) rest rest' left kept.0 kept.2))
  | inr gone' ↦ (
      let i = idle live b new x (idle_using live b new k.instead x (subst (IsIdle live b new) k.line gone'.0)) in
      let on = left_out free live a b (x ∷ gone) rest rest' left new gone'.1 in
      subst (λ z. ForwardsLines free live a b gone (z ∷ rest) new) (sym i.is)
      (LeftOut gone rest new i.to i.from i.dead (subst (λ z. ForwardsLines free live a b (z ∷ gone) rest new) i.is on))
      )
]
left_out free live a b before old middle (LeftOut gone rest rest' to from dead left) new h =
    LeftOut gone rest new to from (dead_still live b rest' new h to dead) (left_out free live a b (Copy to from ∷ gone) rest rest' left new h)
left_out free live a b before old middle (Straight gone rest rest' x y t v p left) new h = elim h [
  | inl kept ↦ subst (ForwardsLines free live a b gone (x ∷ y ∷ rest)) (sym kept.1)
      (Straight gone rest kept.0 x y t v (pair_still live b rest' kept.0 x y t v kept.2 p) (left_out free live a b (y ∷ x ∷ gone) rest rest' left kept.0 kept.2))
  | inr gone' ↦ absurd (let i = idle live b new (setting v x) gone'.0 in no_copy_set t v x p.sets i.to i.from i.is)
]
