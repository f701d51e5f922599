-- One line back: from what lives behind it to what lives before it. And all groups of registers.
use Rattle.std.proofs.Common.{◌≡◌, ◌≢◌, ℕ, zero, suc, ◌+◌, ◌-◌, ◌*◌, ◌/◌, ◌%◌, ◌<◌, ◌≤◌, Bool, true, false, List, [], ◌∷◌, ◌++◌, Option, Some, None, inl, inr, length, get_or, set, drop, subst, arith, refl, sym, ap, ◌∙◌}
use Rattle.std.specs.Prelude.{Vec, ◌==◌, ◌&&◌, ◌||◌, not, nat_le, nat_lt, All, slice_get}
use Rattle.std.specs.declared.alloc.Global.{Global}
use Rattle.std.proofs.lemmas.Bool.{cases_lt, ltb-true}
use Rattle.std.proofs.lemmas.Bool.Decides.{nat_tests}
use Rattle.std.proofs.lemmas.List.{drop_more, length-set, get_or_default, get_or-set_same, get_or-set_other}
use Rattle.std.proofs.lemmas.List.Elements.{All-head, All-tail, All-weaker}
use Rattle.im_block.specs.declared.code.Place.{Place}
use Rattle.im_block.specs.declared.code.Place.TheVariants.{Static, Local, Through}
use Rattle.im_block.specs.declared.code.Line.{Line}
use Rattle.im_block.specs.declared.code.Line.TheVariants.{Put, PutNull, Copy, Convert, Unary, Not, Compute, Compare, Move, Distance, Address, Read, Write, Reload, Spill, Cut, Call, Serve}
use Rattle.im_block.specs.declared.code.Exit.{Exit}
use Rattle.im_block.specs.declared.code.Exit.TheVariants.{Jump, Turn, Branch, Return}
use Rattle.im_block.specs.declared.code.Block.{Block}
use Rattle.im_block.specs.declared.unit.Function.{Function}
use Rattle.im_block.specs.Wellformed.{PlaceWithin, LineWithin, ExitWithin, ExitThere}
use Rattle.im_alloc_relation.specs.Live.{place_uses, uses, sets, exit_lives, lives}
use Rattle.im_block_live.specs.Reads.{lives_in, reads_first, IsLive}
use Rattle.im_block_live.specs.Words.{has, starts_have, AreStarts, AreLinked, group_has, groups_have, IsWithin, AreWithin}
use Rattle.im_block_live.proofs.Bits.{same_of, not_equal, has_zero}
use Rattle.im_block_live.proofs.Paths.{all_read}
use Rattle.im_block_live.proofs.Sweeping.{past_end}

abbrev pub Lives : ℕ → List ℕ → List Line → Exit → ℕ → Type 0
Lives base starts lines exit word = (j : ℕ) → j < 32 → has word j ≡ lives (starts_have starts j) lines exit (base + j)

pub one_back : (base : ℕ) (starts : List ℕ) (lines : List Line) (exit : Exit) (k : ℕ) (line : Line) (word new : ℕ) → k < length lines → line ≡ get_or lines k line → Lives base starts (drop (k + 1) lines) exit word
    → ((j : ℕ) → j < 32 → has new j ≡ (uses line (base + j) || (not (sets line (base + j)) && has word j))) → Lives base starts (drop k lines) exit new
one_back base starts lines exit k line word new lt is behind made j small =
    made j small ∙ ap (λ z. uses line (base + j) || (not (sets line (base + j)) && z)) (behind j small)
    ∙ ap (λ z. lives (starts_have starts j) (z ∷ drop (k + 1) lines) exit (base + j)) is
    ∙ sym (ap (λ z. lives (starts_have starts j) z exit (base + j)) (drop_more lines k line lt))

abbrev pub PointsFrom : ℕ → List ℕ → List Line → Exit → List ℕ → ℕ → Type 0
PointsFrom base starts lines exit words left =
    (length words ≡ length lines + 1) × (left ≤ length lines) × ((i : ℕ) → left ≤ i → i ≤ length lines → Lives base starts (drop i lines) exit (get_or words i 0))

pub points_step : (base : ℕ) (starts : List ℕ) (lines : List Line) (exit : Exit) (words : List ℕ) (left : ℕ) (line : Line) (behind new : ℕ) → 0 < left → PointsFrom base starts lines exit words left → behind ≡ get_or words left behind → line ≡ get_or lines (left - 1) line
    → ((j : ℕ) → j < 32 → has new j ≡ (uses line (base + j) || (not (sets line (base + j)) && has behind j))) → PointsFrom base starts lines exit (set words (left - 1) new) (left - 1)
points_step base starts lines exit words left line behind new pos inv b l made =
    (length-set words (left - 1) new ∙ inv.0, (let a = inv.1 in omega arith), (λ i lo hi. by i lo hi (i == left - 1) refl))
  where
    back : left - 1 + 1 ≡ left
    back = omega arith

    within : left < length words
    within = let a = inv.0 in let c = inv.1 in omega arith

    behind_is : Lives base starts (drop (left - 1 + 1) lines) exit behind
    behind_is = subst (λ z. Lives base starts (drop z lines) exit behind) (sym back) (subst (λ z. Lives base starts (drop left lines) exit z) (get_or_default words left 0 behind within ∙ sym b) (inv.2 left (omega arith) inv.1))

    by : (i : ℕ) → left - 1 ≤ i → i ≤ length lines → (t : Bool) → (i == left - 1) ≡ t → Lives base starts (drop i lines) exit (get_or (set words (left - 1) new) i 0)
    by i lo hi true e =
        let s : i ≡ left - 1 = same_of i (left - 1) e in
        subst (λ z. Lives base starts (drop z lines) exit (get_or (set words (left - 1) new) z 0)) (sym s)
        (subst (λ z. Lives base starts (drop (left - 1) lines) exit z) (sym (get_or-set_same words (left - 1) new 0 (let w = within in omega arith)))
        (one_back base starts lines exit (left - 1) line behind new (let a = inv.1 in omega arith) l behind_is made))
    by i lo hi false e =
        let ne : i ≢ left - 1 = (λ s. (let t : (i == left - 1) ≡ true = grind (arith, nat_tests) in absurd cc)) in
        subst (λ z. Lives base starts (drop i lines) exit z) (sym (get_or-set_other words (left - 1) i new 0 ne)) (inv.2 i (omega arith) hi)

pub linked : (f : Function) → AreWithin f → AreLinked f.blocks.items
linked f h = All-weaker (IsWithin f.register_count (length f.blocks.items)) (λ (b : Block). ExitThere (length f.blocks.items) b.exit) (λ b one. one.there) f.blocks.items h

pub pushed : {X : Type 0} (P : ℕ → X → Type 0) (xs : List X) (x : X) → ((k : ℕ) (y : X) → slice_get xs k ≡ Some y → P k y) → P (length xs) x → (k : ℕ) (y : X) → slice_get (xs ++ x ∷ []) k ≡ Some y → P k y
pushed P [] x known one zero y e = let same : x ≡ y = cc in subst (P 0) same one
pushed P [] x known one (suc k) y e = cc
pushed P (z ∷ xs) x known one zero y e = known 0 y e
pushed P (z ∷ xs) x known one (suc k) y e = pushed (λ n. P (suc n)) xs x (λ n w. known (suc n) w) one k y e

-- registers beyond the function's are used nowhere

or_false : (a b : Bool) → a ≡ false → b ≡ false → (a || b) ≡ false
or_false false false p q = refl
or_false false true p q = q
or_false true b p q = cc

and_false : (a b : Bool) → b ≡ false → (a && b) ≡ false
and_false true b q = q
and_false false b q = refl

no_place_uses : (n : ℕ) (place : Place) (v : ℕ) → PlaceWithin n place → n ≤ v → place_uses place v ≡ false
no_place_uses n (Static object offset) v h le = refl
no_place_uses n (Local object offset) v h le = refl
no_place_uses n (Through pointer offset) v h le = not_equal v pointer (λ e. omega arith)

no_uses : (n : ℕ) (line : Line) (v : ℕ) → LineWithin n line → n ≤ v → uses line v ≡ false
no_uses n (Put to z) v h le = refl
no_uses n (PutNull to) v h le = refl
no_uses n (Copy to from) v h le = not_equal v from (λ e. omega arith)
no_uses n (Convert to kind from) v h le = not_equal v from (λ e. omega arith)
no_uses n (Unary to op kind from) v h le = not_equal v from (λ e. omega arith)
no_uses n (Not to from) v h le = not_equal v from (λ e. omega arith)
no_uses n (Compute to op kind left right) v h le = or_false (v == left) (v == right) (not_equal v left (λ e. omega arith)) (not_equal v right (λ e. omega arith))
no_uses n (Compare to op kind left right) v h le = or_false (v == left) (v == right) (not_equal v left (λ e. omega arith)) (not_equal v right (λ e. omega arith))
no_uses n (Move to size back pointer by) v h le = or_false (v == pointer) (v == by) (not_equal v pointer (λ e. omega arith)) (not_equal v by (λ e. omega arith))
no_uses n (Distance to size left right) v h le = or_false (v == left) (v == right) (not_equal v left (λ e. omega arith)) (not_equal v right (λ e. omega arith))
no_uses n (Address to place) v h le = no_place_uses n place v h.1 le
no_uses n (Read to place kind access) v h le = no_place_uses n place v h.1 le
no_uses n (Write place kind from access) v h le = or_false (place_uses place v) (v == from) (no_place_uses n place v h.0 le) (not_equal v from (λ e. omega arith))
no_uses n (Reload to slot access) v h le = refl
no_uses n (Spill slot from access) v h le = not_equal v from (λ e. omega arith)
no_uses n (Cut cause) v h le = refl
no_uses n (Call to i first count) v h le = by (nat_lt v (first + count)) refl
  where
    by : (t : Bool) → nat_lt v (first + count) ≡ t → (nat_le first v && nat_lt v (first + count)) ≡ false
    by true e = (let less = ltb-true v (first + count) e in absurd (omega (arith, less, h, le)))
    by false e = and_false (nat_le first v) (nat_lt v (first + count)) e
no_uses n (Serve to service None) v h le = refl
no_uses n (Serve to service (Some from)) v h le = not_equal v from (λ e. omega arith)

module _ (n count v : ℕ) (le : n ≤ v) (none : ℕ → ℕ → Bool) (no : (b : ℕ) → none b v ≡ false) where
  exit_none : (exit : Exit) → ExitWithin n exit → exit_lives none exit v ≡ false
  exit_none (Jump c) w = no c
  exit_none (Turn c) w = no c
  exit_none (Branch on x y) w = or_false (v == on || none x v) (none y v) (or_false (v == on) (none x v) (not_equal v on (λ e. omega arith)) (no x)) (no y)
  exit_none (Return None) w = refl
  exit_none (Return (Some r)) w = not_equal v r (λ e. omega arith)

  lines_none : (lines : List Line) (exit : Exit) → All (LineWithin n) lines → ExitWithin n exit → lives none lines exit v ≡ false
  lines_none [] exit h w = exit_none exit w
  lines_none (line ∷ rest) exit h w =
      or_false (uses line v) (not (sets line v) && lives none rest exit v) (no_uses n line v (All-head (LineWithin n) line rest h) le)
      (and_false (not (sets line v)) (lives none rest exit v) (lines_none rest exit (All-tail (LineWithin n) line rest h) w))

  block_none : (blocks : List Block) (b : ℕ) → All (IsWithin n count) blocks → lives_in none (slice_get blocks b) v ≡ false
  block_none [] b h = refl
  block_none (block ∷ blocks) zero h = let one = All-head (IsWithin n count) block blocks h in lines_none block.lines.items block.exit one.lines one.exit
  block_none (block ∷ blocks) (suc b) h = block_none blocks b (All-tail (IsWithin n count) block blocks h)

none_read : (n count v : ℕ) (blocks : List Block) → n ≤ v → All (IsWithin n count) blocks → (k b : ℕ) → reads_first blocks k b v ≡ false
none_read n count v blocks le h zero b = refl
none_read n count v blocks le h (suc k) b = block_none n count v le (reads_first blocks k) (λ c. none_read n count v blocks le h k c) blocks b h

pub live_within : (f : Function) → AreWithin f → (n b v : ℕ) → reads_first f.blocks.items n b v ≡ true → v < f.register_count
live_within f within n b v e = elim (cases_lt v f.register_count) [
  | inl lt ↦ lt
  | inr le ↦ (let no = none_read f.register_count (length f.blocks.items) v f.blocks.items le within n b in absurd cc)
]

-- all groups together

pub live_of : (f : Function) (groups : List (Vec ℕ Global)) → AreWithin f → f.register_count ≤ 32 * length groups → ((i : ℕ) (words : Vec ℕ Global) → slice_get groups i ≡ Some words → AreStarts (32 * i) f.blocks.items words.items) → IsLive f.blocks.items (groups_have groups)
live_of f groups within enough each = record {
  some = λ b v e. found b v (slice_get groups (v / 32)) refl e;
  all = λ b v n e. all_found b v n (slice_get groups (v / 32)) refl e;
}
  where
    split : (v : ℕ) → 32 * (v / 32) + v % 32 ≡ v
    split v = omega arith

    low : (v : ℕ) → v % 32 < 32
    low v = omega arith

    found : (b v : ℕ) (o : Option (Vec ℕ Global)) → slice_get groups (v / 32) ≡ o → group_has o b (v % 32) ≡ true → (n : ℕ) × (reads_first f.blocks.items n b v ≡ true)
    found b v None is e = cc
    found b v (Some words) is e = elim (cases_lt b (length f.blocks.items)) [
      | inl lt ↦ subst (λ z. (n : ℕ) × (reads_first f.blocks.items n b z ≡ true)) (split v) ((each (v / 32) words is).read b (v % 32) lt (low v) e)
      | inr le ↦ (let starts = each (v / 32) words is in let count = starts.count in
          let z = past_end words.items b (omega arith) in
          let h : has 0 (v % 32) ≡ true = subst (λ x. has x (v % 32) ≡ true) z e in
          let no = has_zero (v % 32) in absurd cc)
    ]

    all_found : (b v n : ℕ) (o : Option (Vec ℕ Global)) → slice_get groups (v / 32) ≡ o → reads_first f.blocks.items n b v ≡ true → group_has (slice_get groups (v / 32)) b (v % 32) ≡ true
    all_found b v n None is e =
        let past : length groups ≤ v / 32 = none_past groups (v / 32) is in
        let no = none_read f.register_count (length f.blocks.items) v f.blocks.items (beyond v past) within n b in
        absurd cc
      where
        none_past : (xs : List (Vec ℕ Global)) (i : ℕ) → slice_get xs i ≡ None → length xs ≤ i
        none_past [] i e = omega arith
        none_past (x ∷ xs) zero e = cc
        none_past (x ∷ xs) (suc i) e = let k = none_past xs i e in omega arith

        beyond : (v : ℕ) → length groups ≤ v / 32 → f.register_count ≤ v
        beyond v past = omega arith
    all_found b v n (Some words) is e =
        let starts = each (v / 32) words is in
        ap (λ o. group_has o b (v % 32)) is
        ∙ all_read (32 * (v / 32)) f.blocks.items words.items starts.closed n b (v % 32) (low v)
        (subst (λ z. reads_first f.blocks.items n b z ≡ true) (sym (split v)) e)
