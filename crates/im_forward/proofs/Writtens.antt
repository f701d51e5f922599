-- No register is read first but those that were: what comes in the place of a register was copied before, so it was read.
use Rattle.std.proofs.Common.{◌≡◌, ◌⊎◌, inl, inr, ℕ, zero, suc, ◌<◌, Bool, true, false, List, [], ◌∷◌, Option, Some, None, refl, sym, ap, ◌∙◌, subst, arith, eqb-true}
use Rattle.std.specs.Prelude.{◌==◌, ◌&&◌, ◌||◌, not, slice_get}
use Rattle.im_block.specs.declared.code.Place.{Place}
use Rattle.im_block.specs.declared.code.Place.TheVariants.{Static, Local, Through}
use Rattle.im_block.specs.declared.code.Line.{Line}
use Rattle.im_block.specs.declared.code.Line.TheVariants.{Put, PutNull, Copy, Convert, Unary, Not, Compute, Compare, Move, Distance, Address, Read, Write, Reload, Spill, Cut, Call, Serve}
use Rattle.im_block.specs.declared.code.Exit.{Exit}
use Rattle.im_block.specs.declared.code.Exit.TheVariants.{Jump, Turn, Branch, Return}
use Rattle.im_block.specs.declared.code.Block.{Block}
use Rattle.im_block.specs.declared.unit.Function.{Function}
use Rattle.im_block.proofs.Unitwise.{Both, zip_at}
use Rattle.im_alloc_placed.specs.Placeable.{first_free}
use Rattle.im_alloc_relation.specs.Live.{place_uses, uses, sets, exit_lives, lives}
use Rattle.im_alloc_relation.specs.Reads.{lives_in, reads_first, WritesFirst}
use Rattle.im_block_live.proofs.Paths.{either, or_left, or_right, lives_more}
use Rattle.im_forward.specs.Copies.{IsCopy, Copied, Further, Since, IsSame, Itself, CopyOf}
use Rattle.im_forward.specs.Straight.{setting}
use Rattle.im_forward.specs.Forward.{place_using, line_using, exit_using, ForwardsLines, Ends, Kept, LeftOut, Straight, ForwardsBlock, ForwardsOnce}
use Rattle.im_forward.proofs.Same.{both_true, both_are, itself, used_lives, kept_lives}
use Rattle.im_forward.proofs.Setting.{sets_target, sets_setting, uses_setting, sets_passing, uses_passing}

-- it was copied before these lines, in its block
record IsSource (before : List Line) (v : ℕ) : Type 0 where
  copy : ℕ
  is : IsCopy before copy v

source_behind : (ls : List Line) (c w : ℕ) → IsCopy ls c w → (x : Line) (before : List Line) → ls ≡ x ∷ before → (uses x w ≡ true) ⊎ IsSource before w
source_behind ls c w (Copied above to from ne) x before e =
    let here : x ≡ Copy to from = cc in
    inl (ap (λ z. uses z from) here ∙ itself from)
source_behind ls c w (Further above to from source ne nf r) x before e =
    let rest : above ≡ before = cc in
    inr (record { copy = from; is = subst (λ z. IsCopy z from source) rest r })
source_behind ls c w (Since line above to from p q r) x before e =
    let rest : above ≡ before = cc in
    inr (record { copy = to; is = subst (λ z. IsCopy z to from) rest r })

source_of : (before : List Line) (v w : ℕ) → IsSame before v w → (v ≡ w) ⊎ IsSource before w
source_of before v w (Itself behind u) = inl refl
source_of before v w (CopyOf behind u k t p q) = elim (source_of behind k t q) [
  | inl e ↦ inr (record { copy = u; is = subst (IsCopy behind u) e p })
  | inr s ↦ inr s
]

-- ---- what a line uses, it used, or it was copied

module _ (before : List Line) (instead : ℕ → ℕ) (same : (v : ℕ) → IsSame before v (instead v)) (v : ℕ) where
  one_used : (a : ℕ) → (v == instead a) ≡ true → ((v == a) ≡ true) ⊎ IsSource before v
  one_used a e =
      let is : v ≡ instead a = eqb-true v (instead a) e in
      elim (source_of before a (instead a) (same a)) [
        | inl k ↦ inl (ap (λ z. z == a) (is ∙ sym k) ∙ itself a)
        | inr s ↦ inr (subst (IsSource before) (sym is) s)
      ]

  two_used : (a b : ℕ) → (v == instead a || v == instead b) ≡ true → ((v == a || v == b) ≡ true) ⊎ IsSource before v
  two_used a b e = elim (either (v == instead a) (v == instead b) e) [
    | inl x ↦ elim (one_used a x) [ inl k ↦ inl (or_left (v == a) (v == b) k) | inr s ↦ inr s ]
    | inr y ↦ elim (one_used b y) [ inl k ↦ inl (or_right (v == a) (v == b) k) | inr s ↦ inr s ]
  ]

  place_used : (place : Place) → place_uses (place_using instead place) v ≡ true → (place_uses place v ≡ true) ⊎ IsSource before v
  place_used (Static object offset) e = inl e
  place_used (Local object offset) e = inl e
  place_used (Through pointer offset) e = one_used pointer e

  line_used : (line : Line) → uses (line_using instead line) v ≡ true → (uses line v ≡ true) ⊎ IsSource before v
  line_used (Copy to from) e = one_used from e
  line_used (Convert to kind from) e = one_used from e
  line_used (Unary to op kind from) e = one_used from e
  line_used (Not to from) e = one_used from e
  line_used (Compute to op kind left right) e = two_used left right e
  line_used (Compare to op kind left right) e = two_used left right e
  line_used (Move to size back pointer by) e = two_used pointer by e
  line_used (Distance to size left right) e = two_used left right e
  line_used (Address to place) e = place_used place e
  line_used (Read to place kind access) e = place_used place e
  line_used (Write place kind from access) e = elim (either (place_uses (place_using instead place) v) (v == instead from) e) [
    | inl x ↦ elim (place_used place x) [ inl k ↦ inl (or_left (place_uses place v) (v == from) k) | inr s ↦ inr s ]
    | inr y ↦ elim (one_used from y) [ inl k ↦ inl (or_right (place_uses place v) (v == from) k) | inr s ↦ inr s ]
  ]
  line_used (Spill slot from access) e = one_used from e
  line_used (Serve to service (Some from)) e = one_used from e
  line_used line e = inl e

  exit_used : (live : ℕ → ℕ → Bool) (exit : Exit) → exit_lives live (exit_using instead exit) v ≡ true → (exit_lives live exit v ≡ true) ⊎ IsSource before v
  exit_used live (Jump b) e = inl e
  exit_used live (Turn b) e = inl e
  exit_used live (Branch on a b) e = elim (either (v == instead on || live a v) (live b v) e) [
    | inl x ↦ elim (either (v == instead on) (live a v) x) [
      | inl used ↦ elim (one_used on used) [ inl k ↦ inl (or_left (v == on || live a v) (live b v) (or_left (v == on) (live a v) k)) | inr s ↦ inr s ]
      | inr there ↦ inl (or_left (v == on || live a v) (live b v) (or_right (v == on) (live a v) there))
    ]
    | inr there ↦ inl (or_right (v == on || live a v) (live b v) there)
  ]
  exit_used live (Return None) e = inl e
  exit_used live (Return (Some r)) e = one_used r e

not_is : (b : Bool) → not b ≡ true → b ≡ false
not_is false e = refl
not_is true e = cc

line_sets : (instead : ℕ → ℕ) (line : Line) (v : ℕ) → sets (line_using instead line) v ≡ sets line v
line_sets instead (Put to z) v = refl
line_sets instead (PutNull to) v = refl
line_sets instead (Copy to from) v = refl
line_sets instead (Convert to kind from) v = refl
line_sets instead (Unary to op kind from) v = refl
line_sets instead (Not to from) v = refl
line_sets instead (Compute to op kind left right) v = refl
line_sets instead (Compare to op kind left right) v = refl
line_sets instead (Move to size back pointer by) v = refl
line_sets instead (Distance to size left right) v = refl
line_sets instead (Address to place) v = refl
line_sets instead (Read to place kind access) v = refl
line_sets instead (Write place kind from access) v = refl
line_sets instead (Reload to slot access) v = refl
line_sets instead (Spill slot from access) v = refl
line_sets instead (Cut cause) v = refl
line_sets instead (Call to i first count) v = refl
line_sets instead (Serve to service None) v = refl
line_sets instead (Serve to service (Some from)) v = refl

-- ---- a block

module _ (f g : ℕ → ℕ → Bool) (live : ℕ → ℕ → Bool) (v : ℕ) (le : (c : ℕ) → g c v ≡ true → f c v ≡ true) (there : (c : ℕ) → g c v ≡ true → live c v ≡ true) where
  lines_read : (n : ℕ) (a b : Exit) (before old new : List Line) → ForwardsLines n live a b before old new → lives g new b v ≡ true → (lives f old a v ≡ true) ⊎ IsSource before v
  lines_read n a b before old new (Ends gone e) h = elim (exit_used gone e.instead e.may.same v g a (subst (λ x. exit_lives g x v ≡ true) e.exit h)) [
    | inl k ↦ inl (lives_more g f v le [] a k)
    | inr s ↦ inr s
  ]
  lines_read n a b before old new (Kept gone rest rest' x y k left) h = elim (either (uses y v) (not (sets y v) && lives g rest' b v) h) [
    | inl used ↦ elim (line_used gone k.instead k.may.same v x (subst (λ z. uses z v ≡ true) k.line used)) [
      | inl u ↦ inl (used_lives f x rest a v u)
      | inr s ↦ inr s
    ]
    | inr on ↦ (
        let both = both_true (not (sets y v)) (lives g rest' b v) on in
        elim (lines_read n a b (x ∷ gone) rest rest' left both.1) [
          | inl l ↦ (
              let unset : not (sets x v) ≡ true = ap not (sym (ap (λ z. sets z v) k.line ∙ line_sets k.instead x v)) ∙ both.0 in
              inl (or_right (uses x v) (not (sets x v) && lives f rest a v) (both_are (not (sets x v)) (lives f rest a v) unset l))
              )
          | inr s ↦ elim (source_behind (x ∷ gone) s.copy v s.is x gone refl) [
            | inl u ↦ inl (used_lives f x rest a v u)
            | inr s' ↦ inr s'
          ]
        ]
        )
  ]
  lines_read n a b before old new (LeftOut gone rest rest' to from dead left) h =
      let unset : (v == to) ≡ false = other (v == to) refl in
      elim (lines_read n a b (Copy to from ∷ gone) rest rest' left h) [
        | inl l ↦ inl (kept_lives f (Copy to from) rest a v unset l)
        | inr s ↦ elim (source_behind (Copy to from ∷ gone) s.copy v s.is (Copy to from) gone refl) [
          | inl u ↦ inl (used_lives f (Copy to from) rest a v u)
          | inr s' ↦ inr s'
        ]
      ]
    where
      other : (t : Bool) → (v == to) ≡ t → (v == to) ≡ false
      other false e = e
      other true e = absurd (
          let is : v ≡ to = eqb-true v to e in
          let yes : lives live rest' b v ≡ true = lives_more g live v there rest' b h in
          let no : lives live rest' b v ≡ false = subst (λ z. lives live rest' b z ≡ false) (sym is) dead in
          cc
          )
  lines_read n a b before old new (Straight gone rest rest' x y t w p left) h = elim (either (uses (setting w x) v) (not (sets (setting w x) v) && lives g rest' b v) h) [
    | inl used ↦ inl (used_lives f x (y ∷ rest) a v (sym (uses_setting w x v) ∙ used))
    | inr on ↦ (
        let both = both_true (not (sets (setting w x) v)) (lives g rest' b v) on in
        let unset : (v == w) ≡ false = sym (sets_setting t w x p.sets v) ∙ not_is (sets (setting w x) v) both.0 in
        let other : (v == t) ≡ false = apart both.1 unset (v == t) refl in
        elim (lines_read n a b (y ∷ x ∷ gone) rest rest' left both.1) [
          | inl l ↦ inl (kept_lives f x (y ∷ rest) a v (sets_target t x p.sets v ∙ other) (kept_lives f y rest a v (sets_passing x t w y p.passes v ∙ unset) l))
          | inr s ↦ elim (source_behind (y ∷ x ∷ gone) s.copy v s.is y (x ∷ gone) refl) [
            | inl u ↦ absurd (let no : uses y v ≡ false = uses_passing x t w y p.passes v ∙ other in cc)
            | inr s' ↦ elim (source_behind (x ∷ gone) s'.copy v s'.is x gone refl) [
              | inl u ↦ inl (used_lives f x (y ∷ rest) a v u)
              | inr s'' ↦ inr s''
            ]
          ]
        ]
        )
  ]
    where
      apart : lives g rest' b v ≡ true → (v == w) ≡ false → (c : Bool) → (v == t) ≡ c → (v == t) ≡ false
      apart l unset false e = e
      apart l unset true e = absurd (
          let is : v ≡ t = eqb-true v t e in
          elim p.dies [
            | inl same ↦ (let here : (v == w) ≡ true = ap (λ z. z == w) (is ∙ same) ∙ itself w in cc)
            | inr dead ↦ (
                let yes : lives live rest' b v ≡ true = lives_more g live v there rest' b l in
                let no : lives live rest' b v ≡ false = subst (λ z. lives live rest' b z ≡ false) (sym is) dead in
                cc
                )
          ]
          )

  block_read : (n : ℕ) (o q : Option Block) → Both (ForwardsBlock n live) o q → lives_in g q v ≡ true → lives_in f o v ≡ true
  block_read n None None both h = absurd cc
  block_read n None (Some y) both h = absurd both
  block_read n (Some x) None both h = absurd both
  block_read n (Some x) (Some y) both h = elim (lines_read n x.exit y.exit [] x.lines.items y.lines.items both.lines h) [
    | inl k ↦ k
    | inr s ↦ absurd (none [] s.copy v s.is refl)
  ]
    where
      none : (ls : List Line) (c w : ℕ) → IsCopy ls c w → ls ≡ [] → ⊥
      none ls c w (Copied above to from ne) e = cc
      none ls c w (Further above to from source ne nf r) e = cc
      none ls c w (Since line above to from p q r) e = cc

-- ---- a function

module _ (old new : Function) (p : ForwardsOnce old new) where
  closed_reads : (n b v : ℕ) → reads_first new.blocks.items n b v ≡ true → p.live b v ≡ true
  closed_reads zero b v e = absurd cc
  closed_reads (suc n) b v e = by (λ c h. closed_reads n c v h) (slice_get new.blocks.items b) refl e
    where
      by : ((c : ℕ) → reads_first new.blocks.items n c v ≡ true → p.live c v ≡ true) → (o : Option Block) → slice_get new.blocks.items b ≡ o → lives_in (reads_first new.blocks.items n) o v ≡ true → p.live b v ≡ true
      by k None is h = absurd cc
      by k (Some block) is h = p.closed b block v is (lives_more (reads_first new.blocks.items n) p.live v k block.lines.items block.exit h)

  reads_less : (n b v : ℕ) → reads_first new.blocks.items n b v ≡ true → reads_first old.blocks.items n b v ≡ true
  reads_less zero b v e = e
  reads_less (suc n) b v e =
      block_read (reads_first old.blocks.items n) (reads_first new.blocks.items n) p.live v (λ c h. reads_less n c v h) (λ c h. closed_reads n c v h) (first_free old) (slice_get old.blocks.items b) (slice_get new.blocks.items b)
      (zip_at (ForwardsBlock (first_free old) p.live) old.blocks.items new.blocks.items b p.blocks) e

pub written_once : (old new : Function) → ForwardsOnce old new → WritesFirst old → WritesFirst new
written_once old new p h = record { each = λ n v e. one n v e }
  where
    one : (n v : ℕ) → reads_first new.blocks.items n new.entry v ≡ true → v < new.parameters
    one n v e =
        let entry : new.entry ≡ old.entry = ap (λ (k : Function). k.entry) p.rest in
        let parameters : new.parameters ≡ old.parameters = ap (λ (k : Function). k.parameters) p.rest in
        let lt = h.each n v (reads_less old new p n old.entry v (subst (λ b. reads_first new.blocks.items n b v ≡ true) entry e)) in
        omega (arith, lt, parameters)
