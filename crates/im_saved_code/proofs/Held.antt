-- What lives in a settled function, by the paths that read it first: homes, as its settling wants them; and the least entries save it.
use Rattle.std.proofs.Common.{◌≡◌, ℕ, zero, suc, ◌+◌, ◌<◌, ◌≤◌, inl, inr, Bool, true, false, List, [], ◌∷◌, Option, Some, None, drop, refl, sym, ap, ◌∙◌, subst, arith}
use Rattle.std.specs.Prelude.{◌==◌, ◌&&◌, ◌||◌, not, nat_lt, nat_le, slice_get, All}
use Rattle.std.proofs.lemmas.Bool.Decides.{nat_tests}
use Rattle.std.proofs.lemmas.List.Elements.{All-head, All-tail}
use Rattle.im_block.specs.declared.code.Place.{Place}
use Rattle.im_block.specs.declared.code.Place.TheVariants.{Static, Local, Through}
use Rattle.im_block.specs.declared.code.Line.{Line}
use Rattle.im_block.specs.declared.code.Line.TheVariants.{Put, PutNull, Copy, Convert, Unary, Not, Compute, Compare, Move, Distance, Address, Read, Write, Reload, Spill, Cut, Call, Serve}
use Rattle.im_block.specs.declared.code.Exit.{Exit}
use Rattle.im_block.specs.declared.code.Exit.TheVariants.{Jump, Turn, Branch, Return}
use Rattle.im_block.specs.declared.code.Block.{Block}
use Rattle.im_block.specs.declared.unit.Function.{Function}
use Rattle.im_alloc_placed.specs.Operands.{IsHome, PlaceAtHome}
use Rattle.im_alloc_placed.specs.Placed.{IsPlacedLine, IsPlacedExit, IsPlacedBlock, IsPlacedFunction}
use Rattle.im_alloc_relation.specs.Live.{place_uses, uses, sets, result_uses, exit_lives, lives}
use Rattle.im_alloc_relation.specs.Settled.{SettlesCalls, IsSettledFunction}
use Rattle.im_live.specs.Reads.{reads_stack, reads, called, writes, exit_live, lives_before, lives_in, reads_first, IsLive}
use Rattle.im_live.specs.Entries.{entry_of, entry_in, entries}
use Rattle.im_live.proofs.Paths.{lives_more, lives_found}
use Rattle.im_live.proofs.Least.{entry_within, entry_saves}
use Rattle.im_saved_code.specs.LinesLaws.{HoldsCalls, IsHeld, SavesFrom}
use Rattle.im_saved_code.proofs.Scanning.{both, both_are, either, or_left, or_right, same_of, IsUnsaved, unsaved_not, or_unsaved}
use Rattle.im_saved_code.proofs.Lists.{all_at}

-- ---- registers of placed code are below 32

module _ (r : ℕ) where
  small_is : (s : ℕ) → s < 32 → (r == s) ≡ true → r < 32
  small_is s h e = let q : r ≡ s = same_of r s e in omega arith

  small_of_two : (s t : ℕ) → s < 32 → t < 32 → (r == s || r == t) ≡ true → r < 32
  small_of_two s t h k e = elim (either (r == s) (r == t) e) [ inl a ↦ small_is s h a | inr b ↦ small_is t k b ]

  small_of_place : (place : Place) → PlaceAtHome place → place_uses place r ≡ true → r < 32
  small_of_place (Static object offset) h e = absurd cc
  small_of_place (Local object offset) h e = absurd cc
  small_of_place (Through pointer offset) h e = small_is pointer h.1 e

  uses_small : (statics : ℕ) (f : Function) (line : Line) → IsPlacedLine statics f line → uses line r ≡ true → r < 32
  uses_small statics f (Put to z) h e = absurd cc
  uses_small statics f (PutNull to) h e = absurd cc
  uses_small statics f (Copy to from) h e = small_is from h.1.1 e
  uses_small statics f (Convert to kind from) h e = small_is from h.1.1 e
  uses_small statics f (Unary to op kind from) h e = small_is from h.1.1 e
  uses_small statics f (Not to from) h e = small_is from h.1.1 e
  uses_small statics f (Compute to op kind left right) h e = small_of_two left right h.1.1 h.2.1 e
  uses_small statics f (Compare to op kind left right) h e = small_of_two left right h.1.1 h.2.1 e
  uses_small statics f (Move to size back pointer by) h e = small_of_two pointer by h.1.1 h.2.1 e
  uses_small statics f (Distance to size left right) h e = small_of_two left right h.1.1 h.2.1 e
  uses_small statics f (Address to place) h e = small_of_place place h.1 e
  uses_small statics f (Read to place kind access) h e = small_of_place place h.1 e
  uses_small statics f (Write place kind from access) h e = elim (either (place_uses place r) (r == from) e) [ inl a ↦ small_of_place place h.1 a | inr b ↦ small_is from h.0.1 b ]
  uses_small statics f (Reload to slot access) h e = absurd cc
  uses_small statics f (Spill slot from access) h e = small_is from h.0.1 e
  uses_small statics f (Cut cause) h e = absurd cc
  uses_small statics f (Call to i first count) h e =
      let c = (both (nat_le first r) (nat_lt r (first + count)) e).1 in
      let below : r < first + count = grind (arith, nat_tests) in
      let at = h.1 in
      let few = h.2 in
      omega arith
  uses_small statics f (Serve to service None) h e = absurd cc
  uses_small statics f (Serve to service (Some from)) h e = let at = h.1 in small_is from (omega arith) e

module _ (r : ℕ) (live : ℕ → ℕ → Bool) (small : (b : ℕ) → live b r ≡ true → r < 32) where
  exit_small : (exit : Exit) → IsPlacedExit exit → exit_live live exit r ≡ true → r < 32
  exit_small (Jump b) h e = small b e
  exit_small (Turn b) h e = small b e
  exit_small (Branch on a b) h e = elim (either (r == on) (live a r || live b r) e) [
    | inl c ↦ small_is r on h.1 c
    | inr c ↦ elim (either (live a r) (live b r) c) [ inl d ↦ small a d | inr d ↦ small b d ]
  ]
  exit_small (Return None) h e = small_of_two r 1 2 (omega arith) (omega arith) e
  exit_small (Return (Some x)) h e = elim (either (r == x) (r == 1 || r == 2) e) [
    | inl a ↦ (let at : x ≡ 10 = h in small_is r x (omega arith) a)
    | inr b ↦ small_of_two r 1 2 (omega arith) (omega arith) b
  ]

  lives_small : (statics : ℕ) (f : Function) (lines : List Line) (exit : Exit) → All (IsPlacedLine statics f) lines → IsPlacedExit exit → lives_before live lines exit r ≡ true → r < 32
  lives_small statics f [] exit h k e = exit_small exit k e
  lives_small statics f (line ∷ lines) exit h k e = elim (either (reads line r) (not (writes line r) && lives_before live lines exit r) e) [
    | inl a ↦ elim (either (uses line r) (reads_stack line && r == 2) a) [
      | inl b ↦ uses_small r statics f line (All-head (IsPlacedLine statics f) line lines h) b
      | inr b ↦ small_is r 2 (omega arith) (both (reads_stack line) (r == 2) b).1
    ]
    | inr a ↦ lives_small statics f lines exit (All-tail (IsPlacedLine statics f) line lines h) k (both (not (writes line r)) (lives_before live lines exit r) a).1
  ]

-- ---- but for x0 to x2 what lives is wanted

-- a call sets its result, and more
result_not_set : (r to : ℕ) → to ≡ 10 → not (called r) ≡ true → not (r == to) ≡ true
result_not_set r to at n = by (r == to) refl
  where
    by : (t : Bool) → (r == to) ≡ t → not t ≡ true
    by true q =
        let same : r ≡ 10 = same_of r to q ∙ at in
        let set : not (called r) ≡ not (called 10) = ap (λ z. not (called z)) same in
        absurd cc
    by false q = refl

not_set : (statics : ℕ) (f : Function) (line : Line) (r : ℕ) → IsPlacedLine statics f line → not (writes line r) ≡ true → not (sets line r) ≡ true
not_set statics f (Call to i first count) r h n = result_not_set r to h.0 n
not_set statics f (Serve to service None) r h n = result_not_set r to h.0 n
not_set statics f (Serve to service (Some from)) r h n = result_not_set r to h.0 n
not_set statics f line r h n = n

module _ (live wanted : ℕ → ℕ → Bool) (r : ℕ) (u : IsUnsaved r) (known : (b : ℕ) → live b r ≡ true → wanted b r ≡ true) where
  exit_wanted : (exit : Exit) → exit_live live exit r ≡ true → exit_lives wanted exit r ≡ true
  exit_wanted (Jump b) e = known b e
  exit_wanted (Turn b) e = known b e
  exit_wanted (Branch on a b) e = elim (either (r == on) (live a r || live b r) e) [
    | inl x ↦ or_left (r == on || wanted a r) (wanted b r) (or_left (r == on) (wanted a r) x)
    | inr y ↦ elim (either (live a r) (live b r) y) [
      | inl x ↦ or_left (r == on || wanted a r) (wanted b r) (or_right (r == on) (wanted a r) (known a x))
      | inr x ↦ or_right (r == on || wanted a r) (wanted b r) (known b x)
    ]
  ]
  exit_wanted (Return from) e = elim (either (result_uses from r) (r == 1 || r == 2) e) [
    | inl x ↦ x
    | inr y ↦ elim (either (r == 1) (r == 2) y) [ inl q ↦ absurd (unsaved_not r 1 u refl (same_of r 1 q)) | inr q ↦ absurd (unsaved_not r 2 u refl (same_of r 2 q)) ]
  ]

  lives_wanted : (statics : ℕ) (f : Function) (lines : List Line) (exit : Exit) → All (IsPlacedLine statics f) lines → lives_before live lines exit r ≡ true → lives wanted lines exit r ≡ true
  lives_wanted statics f [] exit h e = exit_wanted exit e
  lives_wanted statics f (line ∷ lines) exit h e = elim (either (reads line r) (not (writes line r) && lives_before live lines exit r) e) [
    | inl a ↦ elim (either (uses line r) (reads_stack line && r == 2) a) [
      | inl b ↦ or_left (uses line r) (not (sets line r) && lives wanted lines exit r) b
      | inr b ↦ absurd (unsaved_not r 2 u refl (same_of r 2 (both (reads_stack line) (r == 2) b).1))
    ]
    | inr a ↦
        (let c = both (not (writes line r)) (lives_before live lines exit r) a in
        or_right (uses line r) (not (sets line r) && lives wanted lines exit r)
        (both_are (not (sets line r)) (lives wanted lines exit r) (not_set statics f line r (All-head (IsPlacedLine statics f) line lines h) c.0)
        (lives_wanted statics f lines exit (All-tail (IsPlacedLine statics f) line lines h) c.1)))
  ]

-- an entry saves what the equal one does
entry_step : (n e : ℕ) (X : ℕ → Type 0) → n ≡ e → 3 < e → e < 32 → ((r : ℕ) → X r → r ≤ e) → (4 ≤ n) × (n ≤ 31) × ((r : ℕ) → X r → r ≤ n)
entry_step n e X is low high k = (omega arith, omega arith, (λ r x. (let s = k r x in omega arith)))

-- ---- a settled function

-- what lives at its blocks, of the machine's registers
abbrev pub held : (ℕ → ℕ → Bool) → ℕ → ℕ → Bool
held live b r = nat_lt r 32 && live b r

pub held_lives : (live : ℕ → ℕ → Bool) (b r : ℕ) → held live b r ≡ true → live b r ≡ true
held_lives live b r e = (both (nat_lt r 32) (live b r) e).1

module _ (statics : ℕ) (f : Function) (wanted live : ℕ → ℕ → Bool) (placed : IsPlacedFunction statics f) (settled : IsSettledFunction wanted f) (is_live : IsLive f.blocks.items live) where
  block_at : (b : ℕ) (block : Block) → slice_get f.blocks.items b ≡ Some block → IsPlacedBlock statics f block
  block_at b block e = all_at (IsPlacedBlock statics f) f.blocks.items b block placed.blocks e

  path_wanted : (n b r : ℕ) → IsUnsaved r → reads_first f.blocks.items n b r ≡ true → wanted b r ≡ true
  path_wanted zero b r u e = absurd cc
  path_wanted (suc n) b r u e = by (λ q w. path_wanted n q r u w) (slice_get f.blocks.items b) refl
    where
      by : ((q : ℕ) → reads_first f.blocks.items n q r ≡ true → wanted q r ≡ true) → (o : Option Block) → slice_get f.blocks.items b ≡ o → wanted b r ≡ true
      by k None is = let w : lives_in (reads_first f.blocks.items n) None r ≡ true = subst (λ z. lives_in (reads_first f.blocks.items n) z r ≡ true) is e in absurd cc
      by k (Some block) is =
          settled.closed b block r is
          (lives_wanted (reads_first f.blocks.items n) wanted r u k statics f block.lines.items block.exit (block_at b block is).lines
          (subst (λ z. lives_in (reads_first f.blocks.items n) z r ≡ true) is e))

  held_small : (b r : ℕ) → held live b r ≡ true → r < 32
  held_small b r e = let c = (both (nat_lt r 32) (live b r) e).0 in grind (arith, nat_tests)

  held_wanted : (b r : ℕ) → IsUnsaved r → held live b r ≡ true → wanted b r ≡ true
  held_wanted b r u e =
      let p = is_live.some b r (held_small b r e) (both (nat_lt r 32) (live b r) e).1 in
      path_wanted p.0 b r u p.1

  before_wanted : (lines : List Line) (exit : Exit) (r : ℕ) → All (IsPlacedLine statics f) lines → IsUnsaved r → lives_before (held live) lines exit r ≡ true → lives wanted lines exit r ≡ true
  before_wanted lines exit r h u e = lives_wanted (held live) wanted r u (λ b w. held_wanted b r u w) statics f lines exit h e

  before_live : (lines : List Line) (exit : Exit) (r : ℕ) → lives_before (held live) lines exit r ≡ true → lives_before live lines exit r ≡ true
  before_live lines exit r e = lives_more (held live) live r (λ b w. (both (nat_lt r 32) (live b r) w).1) lines exit e

  before_small : (lines : List Line) (exit : Exit) (r : ℕ) → All (IsPlacedLine statics f) lines → IsPlacedExit exit → lives_before (held live) lines exit r ≡ true → r < 32
  before_small lines exit r h k e = lives_small r (held live) (λ b w. held_small b r w) statics f lines exit h k e

  closed : (b : ℕ) (block : Block) (r : ℕ) → slice_get f.blocks.items b ≡ Some block → lives_before (held live) block.lines.items block.exit r ≡ true → held live b r ≡ true
  closed b block r is e =
      let at = block_at b block is in
      let small = before_small block.lines.items block.exit r at.lines at.exit e in
      let p = lives_found f.blocks.items live r (λ q w. is_live.some q r small w) block.lines.items block.exit (before_live block.lines.items block.exit r e) in
      let test : nat_lt r 32 ≡ true = grind (arith, nat_tests) in
      both_are (nat_lt r 32) (live b r) test
      (is_live.all b r (suc p.0) small (subst (λ z. lives_in (reads_first f.blocks.items p.0) z r ≡ true) (sym is) p.1))

  calls : (lines : List Line) (exit : Exit) → All (IsPlacedLine statics f) lines → SettlesCalls wanted lines exit → HoldsCalls (held live) lines exit
  calls [] exit h s = tt
  calls (line ∷ rest) exit h s =
      let k = All-tail (IsPlacedLine statics f) line rest h in
      ((λ c r e. or_unsaved (r ≡ 10) r (λ u. s.0 c r (before_wanted rest exit r k u e))), calls rest exit k s.1)

  pub is_held : IsHeld (held live) f
  is_held = record {
    homes = λ b r e. or_unsaved (IsHome r) r (λ u. settled.homes b r (held_wanted b r u e));
    closed = closed;
    calls = λ b block is. calls block.lines.items block.exit (block_at b block is).lines (settled.calls b block is);
    entered = λ r e. or_unsaved ((10 ≤ r) × (r < 10 + f.parameters)) r (λ u. settled.entered r (held_wanted f.entry r u e));
  }

  saves_from : (m : ℕ → ℕ) (j : ℕ) (lines : List Line) (exit : Exit) → All (IsPlacedLine statics f) lines → IsPlacedExit exit → ((k : ℕ) → m (j + k) ≡ entry_of (lives_before live (drop (suc k) lines) exit)) → SavesFrom (held live) m j lines exit
  saves_from m j [] exit h x k = tt
  saves_from m j (line ∷ rest) exit h x k =
      let tail = All-tail (IsPlacedLine statics f) line rest h in
      let here : j ≡ j + 0 = omega arith in
      let is : m j ≡ entry_of (lives_before live rest exit) = ap m here ∙ k 0 in
      let w = entry_within (lives_before live rest exit) in (
        entry_step (m j) (entry_of (lives_before live rest exit)) (λ r. lives_before (held live) rest exit r ≡ true) is w.0 w.1
            (λ r e. entry_saves (lives_before live rest exit) r (before_small rest exit r tail x e) (before_live rest exit r e)),
        saves_from m (suc j) rest exit tail x (λ n. (let next : suc j + n ≡ j + suc n = omega arith in ap m next ∙ k (suc n))),
      )

  pub saves : (b : ℕ) (block : Block) → slice_get f.blocks.items b ≡ Some block → SavesFrom (held live) (entries live f.blocks.items b) 0 block.lines.items block.exit
  saves b block is =
      let at = block_at b block is in
      saves_from (entries live f.blocks.items b) 0 block.lines.items block.exit at.lines at.exit
      (λ k. (let z : 0 + k ≡ k = omega arith in ap (entries live f.blocks.items b) z ∙ ap (λ o. entry_in live o k) is))
