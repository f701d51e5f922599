-- Homes by intervals are homes of the function; a leaf with few intervals has no slot.
use Rattle.std.proofs.Common.{◌≡◌, ◌≢◌, ◌⊎◌, ◌<◌, ◌≤◌, ◌+◌, ℕ, zero, suc, Bool, true, false, List, [], ◌∷◌, Option, Some, None, inl, inr, ⊎_elim, refl, sym, ap, ◌∙◌, subst, drop, arith}
use Rattle.std.specs.Prelude.{slice_get, All}
use Rattle.std.proofs.lemmas.Bool.{cases_eq, cases_lt}
use Rattle.std.proofs.lemmas.List.Elements.{All-head, All-tail}
use Rattle.std.proofs.lemmas.Option.{slice_get_within}
use Rattle.im_block.specs.declared.code.Line.{Line}
use Rattle.im_block.specs.declared.code.Line.TheVariants.{Put, PutNull, Copy, Convert, Unary, Not, Compute, Compare, Move, Distance, Address, Read, Write, Reload, Spill, Cut, Call, Serve}
use Rattle.im_block.specs.declared.code.Exit.{Exit}
use Rattle.im_block.specs.declared.code.Block.{Block}
use Rattle.im_block.specs.declared.unit.Function.{Function}
use Rattle.im_block.specs.Paths.{IsEdge}
use Rattle.im_block.specs.Wellformed.{IsBlock}
use Rattle.im_alloc_placed.specs.Placeable.{IsPlaceableLine, LineFrom, ExitFrom, Receives, first_free}
use Rattle.im_alloc_relation.specs.Homes.{Home, InRegister, InSlot}
use Rattle.im_alloc_relation.specs.Live.{lives}
use Rattle.im_alloc_relation.specs.Placing.{KeepsHomes, Survives, ValidLine, Valid}
use Rattle.im_block_live.specs.Reads.{lives_in, reads_first}
use Rattle.im_alloc_intervals.specs.declared.marks.Interval.{Interval}
use Rattle.im_alloc_intervals.specs.declared.table.Homes.{Homes}
use Rattle.im_alloc_intervals.specs.declared.tables.Tables.{Tables}
use Rattle.im_alloc_intervals.specs.Homes.{home_at, IsAble, AreHomes}
use Rattle.im_alloc_intervals.specs.Leaves.{position, HoldsAt, IsLeaf, IsTight, NothingElseEnters}
use Rattle.im_alloc_intervals.specs.Lines.{target_of, result_of, IsArgument}
use Rattle.im_alloc_intervals.specs.Marks.{interval_at, HoldsIn, IsEndOf, flag_at}
use Rattle.im_alloc_intervals.specs.Scans.{HoldsFrom, AreScanned, IsEasy}
use Rattle.im_alloc_intervals.specs.Tables.{AreTables, HasCall}
use Rattle.im_alloc_intervals.proofs.Blocks.{all_at}
use Rattle.im_alloc_intervals.proofs.Lives.{EdgesFrom, lives_below, lives_above}
use Rattle.im_alloc_intervals.proofs.Paths.{at_start, at_none, closed}
use Rattle.im_alloc_intervals.proofs.Targets.{result_target, argument_used, lives_used}

-- what homes keep at a line, behind which these live
record KeptLine (h : ℕ → Home) (p : ℕ) (line : Line) (after : ℕ → Bool) : Type 0 where
  apart : (to : ℕ) → target_of line ≡ Some to → (v : ℕ) → after v ≡ true → v ≢ to → h v ≢ h to
  slot : (to : ℕ) → result_of line ≡ Some to → (v : ℕ) → after v ≡ true → p ≤ v → v ≢ to → (n : ℕ) × (h v ≡ InSlot n)
  argument : (v r : ℕ) → IsArgument line v → p ≤ v → h v ≡ InRegister r → (r < 10) ⊎ (17 < r)

module _ (statics p : ℕ) (f : Function) (h : ℕ → Home) where
  abbrev Behind : (ℕ → Bool) → Type 0
  Behind after = (v : ℕ) → after v ≡ true → p ≤ v

  keeps : (line : Line) (to : ℕ) (after : ℕ → Bool) → KeptLine h p line after → target_of line ≡ Some to → KeepsHomes h to after
  keeps line to after kept is v t ne = kept.apart to is v t ne

  survives : (line : Line) (to : ℕ) (after : ℕ → Bool) → KeptLine h p line after → result_of line ≡ Some to → Behind after → Survives h to after
  survives line to after kept is behind v t ne =
      let s = kept.slot to is v t (behind v t) ne in
      (s.0, s.1, kept.apart to (result_target line to is) v t ne)

  line_valid : (line : Line) (after : ℕ → Bool) → KeptLine h p line after → LineFrom p line → IsPlaceableLine statics f line → Behind after → ValidLine h line after
  line_valid (Put to z) after kept from k b = keeps (Put to z) to after kept refl
  line_valid (PutNull to) after kept from k b = keeps (PutNull to) to after kept refl
  line_valid (Copy to source) after kept from k b = keeps (Copy to source) to after kept refl
  line_valid (Convert to kind source) after kept from k b = keeps (Convert to kind source) to after kept refl
  line_valid (Unary to op kind source) after kept from k b = keeps (Unary to op kind source) to after kept refl
  line_valid (Not to source) after kept from k b = keeps (Not to source) to after kept refl
  line_valid (Compute to op kind left right) after kept from k b = keeps (Compute to op kind left right) to after kept refl
  line_valid (Compare to op kind left right) after kept from k b = keeps (Compare to op kind left right) to after kept refl
  line_valid (Move to size back pointer by) after kept from k b = keeps (Move to size back pointer by) to after kept refl
  line_valid (Distance to size left right) after kept from k b = keeps (Distance to size left right) to after kept refl
  line_valid (Address to place) after kept from k b = keeps (Address to place) to after kept refl
  line_valid (Read to place kind access) after kept from k b = keeps (Read to place kind access) to after kept refl
  line_valid (Write place kind source access) after kept from k b = tt
  line_valid (Reload to slot access) after kept from k b = absurd k
  line_valid (Spill slot source access) after kept from k b = absurd k
  line_valid (Cut cause) after kept from k b = tt
  line_valid (Call to i first count) after kept from k b = (
    survives (Call to i first count) to after kept refl b,
    record { few = k; apart = λ v r low high e. kept.argument v r (low, high) (let le = from.1 in omega arith) e },
  )
  line_valid (Serve to service None) after kept from k b = survives (Serve to service None) to after kept refl b
  line_valid (Serve to service (Some source)) after kept from k b = survives (Serve to service (Some source)) to after kept refl b

  abbrev Kept : (ℕ → ℕ → Bool) → List Line → Exit → Type 0
  Kept live lines exit = (i : ℕ) (line : Line) → slice_get lines i ≡ Some line → KeptLine h p line (lives live (drop (suc i) lines) exit)

  abbrev Able : List Line → Type 0
  Able lines = All (IsPlaceableLine statics f) lines

  lines_valid : (live : ℕ → ℕ → Bool) (lines : List Line) (exit : Exit) → Kept live lines exit → All (LineFrom p) lines → Able lines → ExitFrom p exit → EdgesFrom p live exit → Valid h live lines exit
  lines_valid live [] exit kept from k fe edges = tt
  lines_valid live (line ∷ lines) exit kept from k fe edges =
      let from' : All (LineFrom p) lines = All-tail (LineFrom p) line lines from in (
        line_valid line (lives live lines exit) (kept 0 line refl) (All-head (LineFrom p) line lines from) (All-head (IsPlaceableLine statics f) line lines k) (λ v t. lives_above p live lines exit edges from' fe v t),
        lines_valid live lines exit (λ i x at. kept (suc i) x at) from' (All-tail (IsPlaceableLine statics f) line lines k) fe edges,
      )

  -- the entry block, which keeps the parameters first
  entry_valid : (live : ℕ → ℕ → Bool) (lines : List Line) (exit : Exit) → Kept live lines exit → Receives p lines → Able lines → ExitFrom p exit → EdgesFrom p live exit → Valid h live lines exit
  entry_valid live [] exit kept from k fe edges = tt
  entry_valid live (Write place kind source access ∷ lines) exit kept from k fe edges =
      (tt, entry_valid live lines exit (λ i x at. kept (suc i) x at) from (All-tail (IsPlaceableLine statics f) (Write place kind source access) lines k) fe edges)
  entry_valid live (Cut cause ∷ lines) exit kept from k fe edges =
      (tt, entry_valid live lines exit (λ i x at. kept (suc i) x at) from (All-tail (IsPlaceableLine statics f) (Cut cause) lines k) fe edges)
  entry_valid live (Copy to source ∷ lines) exit kept from k fe edges = (
    keeps (Copy to source) to (lives live lines exit) (kept 0 (Copy to source) refl) refl,
    entry_valid live lines exit (λ i x at. kept (suc i) x at) from.1 (All-tail (IsPlaceableLine statics f) (Copy to source) lines k) fe edges,
  )
  entry_valid live (Convert to kind source ∷ lines) exit kept from k fe edges = (
    keeps (Convert to kind source) to (lives live lines exit) (kept 0 (Convert to kind source) refl) refl,
    entry_valid live lines exit (λ i x at. kept (suc i) x at) from.1 (All-tail (IsPlaceableLine statics f) (Convert to kind source) lines k) fe edges,
  )
  entry_valid live (line ∷ lines) exit kept from k fe edges = lines_valid live (line ∷ lines) exit kept from k fe edges

module _ (f : Function) (able : IsAble f) where
  abbrev blocks : List Block
  blocks = f.blocks.items

  abbrev p : ℕ
  p = f.parameters

  all_free : first_free f ≡ f.parameters
  all_free = let e = able.placeable.first in omega arith

  block_of : (b : ℕ) (block : Block) → slice_get blocks b ≡ Some block → IsBlock able.functions f block
  block_of b block at = all_at (IsBlock able.functions f) blocks b block able.whole.blocks at

  below_by : (b v : ℕ) (g : ℕ → ℕ → Bool) → ((c u : ℕ) → g c u ≡ true → u < f.register_count) → (o : Option Block) → slice_get blocks b ≡ o → lives_in g o v ≡ true → v < f.register_count
  below_by b v g known None at q = absurd cc
  below_by b v g known (Some block) at q = let w = block_of b block at in lives_below f.register_count g block.lines.items block.exit known w.lines_within w.exit_within v q

  -- what lives is a register of the function
  pub reads_below : (k b v : ℕ) → reads_first blocks k b v ≡ true → v < f.register_count
  reads_below zero b v e = absurd cc
  reads_below (suc k) b v e = below_by b v (reads_first blocks k) (λ c u z. reads_below k c u z) (slice_get blocks b) refl e

  others : (b : ℕ) (block : Block) → slice_get blocks b ≡ Some block → b ≢ f.entry → All (LineFrom p) block.lines.items
  others b block at ne = subst (λ z. All (LineFrom z) block.lines.items) all_free (able.placeable.others b block at ne)

  exit_from : (b : ℕ) (block : Block) → slice_get blocks b ≡ Some block → ExitFrom p block.exit
  exit_from b block at = subst (λ z. ExitFrom z block.exit) all_free (able.placeable.exits b block at)

  no_way : (b : ℕ) (block : Block) (c : ℕ) → slice_get blocks b ≡ Some block → IsEdge block.exit c → c ≡ f.entry → f.parameters ≡ 0
  no_way b block c at edge e = able.placeable.no_return b block at (subst (IsEdge block.exit) e edge)

  above_by : (c v : ℕ) (g : ℕ → ℕ → Bool) → ((d u : ℕ) → (d ≡ f.entry → f.parameters ≡ 0) → g d u ≡ true → p ≤ u) → (c ≡ f.entry → f.parameters ≡ 0) → (o : Option Block) → slice_get blocks c ≡ o → lives_in g o v ≡ true → p ≤ v
  above_by c v g known free None at q = absurd cc
  above_by c v g known free (Some block) at q =
      ⊎_elim
      (λ (e : c ≡ f.entry). (let none = free e in omega arith))
      (λ (ne : c ≢ f.entry). lives_above p g block.lines.items block.exit (λ d edge u z. known d u (no_way c block d at edge) z) (others c block at ne) (exit_from c block at) v q)
      (cases_eq c f.entry)

  -- no parameter lives at the start of another block than the entry
  reads_above : (k c v : ℕ) → (c ≡ f.entry → f.parameters ≡ 0) → reads_first blocks k c v ≡ true → p ≤ v
  reads_above zero c v free e = absurd cc
  reads_above (suc k) c v free e = above_by c v (reads_first blocks k) (λ d u fr z. reads_above k d u fr z) free (slice_get blocks c) refl e

  module _ (t : Tables) (tables : AreTables f t) (homes : Homes) (s : AreScanned f.parameters t homes) where
    abbrev h : ℕ → Home
    h v = home_at homes.of.items v

    abbrev own : ℕ → Option Interval
    own v = interval_at t.intervals.items v

    edges : (b : ℕ) (block : Block) → slice_get blocks b ≡ Some block → EdgesFrom p tables.live block.exit
    edges b block at c edge v e = let k = tables.is_live.some c v e in reads_above k.0 c v (no_way b block c at edge) k.1

    meet : (v w q : ℕ) → v ≢ w → HoldsIn (own v) q → HoldsIn (own w) q → h v ≡ h w → ⊥
    meet v w q ne x y same = by (own v) (own w) refl refl x y
      where
        by : (o r : Option Interval) → own v ≡ o → own w ≡ r → HoldsIn o q → HoldsIn r q → ⊥
        by None r e g m n = m
        by (Some i) None e g m n = n
        by (Some i) (Some j) e g m n =
            ⊎_elim
            (λ (k : i.last < j.first). (let u = m.1 in let z = n.0 in omega arith))
            (λ (k : j.last < i.first). (let u = m.0 in let z = n.1 in omega arith))
            (s.apart v w i j ne e g same)

    in_slot : (v q : ℕ) → p ≤ v → flag_at t.slotted.items v ≡ true → HoldsIn (own v) q → (n : ℕ) × (h v ≡ InSlot n)
    in_slot v q a flag x = by (own v) refl x (h v) refl
      where
        by : (o : Option Interval) → own v ≡ o → HoldsIn o q → (g : Home) → h v ≡ g → (n : ℕ) × (h v ≡ InSlot n)
        by None e m g is = absurd m
        by (Some i) e m (InSlot n) is = (n, is)
        by (Some i) e m (InRegister r) is = let no = (s.register v r i a e is).0 in absurd cc

    of_argument : (v q r : ℕ) → p ≤ v → flag_at t.arguments.items v ≡ true → HoldsIn (own v) q → h v ≡ InRegister r → (r < 10) ⊎ (17 < r)
    of_argument v q r a flag x is = by (own v) refl x
      where
        by : (o : Option Interval) → own v ≡ o → HoldsIn o q → (r < 10) ⊎ (17 < r)
        by None e m = absurd m
        by (Some i) e m = (s.register v r i a e is).1 flag

    kept : (b : ℕ) (block : Block) → slice_get blocks b ≡ Some block → (i : ℕ) (line : Line) → slice_get block.lines.items i ≡ Some line → KeptLine h p line (lives tables.live (drop (suc i) block.lines.items) block.exit)
    kept b block at i line stands =
        let lt = slice_get_within block.lines.items i line stands in
        record {
          apart = λ to is v after ne. meet v to (position blocks b (suc i)) ne (tables.living b block (suc i) v at (omega arith) after) (tables.setting b block i line to at stands is);
          slot = λ to call v after a ne. in_slot v (position blocks b (suc i)) a (tables.crossing b block i line to v at stands call after ne) (tables.living b block (suc i) v at (omega arith) after);
          argument = λ v r is a e. of_argument v (position blocks b i) r a (tables.passed b block i line v at stands is) (tables.living b block i v at (omega arith) (lives_used tables.live block.lines.items block.exit i line v stands (argument_used line v is))) e;
        }

    valid : (b : ℕ) (block : Block) → slice_get blocks b ≡ Some block → Valid h tables.live block.lines.items block.exit
    valid b block at =
        ⊎_elim
        (λ (e : b ≡ f.entry).
        entry_valid able.statics p f h tables.live block.lines.items block.exit (kept b block at)
        (subst (λ z. Receives z block.lines.items) all_free (able.placeable.entry block (subst (λ z. slice_get blocks z ≡ Some block) e at)))
        (able.placeable.lines b block at) (exit_from b block at) (edges b block at))
        (λ (ne : b ≢ f.entry).
        lines_valid able.statics p f h tables.live block.lines.items block.exit (kept b block at) (others b block at ne) (able.placeable.lines b block at) (exit_from b block at) (edges b block at))
        (cases_eq b f.entry)

    same_register : (q r : ℕ) → InRegister q ≡ InRegister r → q ≡ r
    same_register q r e = cc

    no_slot : (n r : ℕ) → InSlot n ≡ InRegister r → ⊥
    no_slot n r e = cc

    entered : (v r : ℕ) → tables.live f.entry v ≡ true → h v ≡ InRegister r → (10 ≤ r) × (r < 10 + f.parameters)
    entered v r e is =
        ⊎_elim
        (λ (lt : v < f.parameters). (let q : 10 + v ≡ r = same_register (10 + v) r (sym (s.received v lt) ∙ is) in (omega arith, omega arith)))
        (λ (le : f.parameters ≤ v). by le (slice_get blocks f.entry) refl)
        (cases_lt v f.parameters)
      where
        by : f.parameters ≤ v → (o : Option Block) → slice_get blocks f.entry ≡ o → (10 ≤ r) × (r < 10 + f.parameters)
        by le None at = absurd (at_none blocks tables.live tables.is_live f.entry v at e)
        by le (Some block) at =
            let lives_there = at_start blocks tables.live tables.is_live f.entry v block at e in
            let k = in_slot v (position blocks f.entry 0) le (tables.entering v e) (tables.living f.entry block 0 v at (omega arith) lives_there) in
            absurd (no_slot k.0 r (sym k.1 ∙ is))

    pub are_homes : AreHomes f homes
    are_homes = record {
      live = tables.live;
      within = λ b v e. let k = tables.is_live.some b v e in reads_below k.0 b v k.1;
      count = s.count ∙ tables.count;
      received = λ k lt. (let first = able.placeable.first in let is : f.first_parameter + k ≡ k = omega arith in ap (λ (z : ℕ). home_at homes.of.items z) is ∙ s.received k lt);
      slots = s.slots;
      few = (let a = s.few in let b = tables.count in omega arith);
      free = s.free;
      valid = valid;
      closed = λ b block v at e. closed blocks tables.live tables.is_live b v block at e;
      entered = entered;
    }

    no_call : IsLeaf f → HasCall blocks → ⊥
    no_call leaf k = leaf.none k.b k.block k.i k.line k.at k.stands k.is_call

    bool_false : (b : Bool) → (b ≡ true → ⊥) → b ≡ false
    bool_false true f = absurd (f refl)
    bool_false false f = refl

    holds_at : (v q : ℕ) → HoldsFrom p v (own v) q → HoldsAt f v q
    holds_at v q x = by (own v) refl x
      where
        by : (o : Option Interval) → own v ≡ o → HoldsFrom p v o q → HoldsAt f v q
        by None e m = absurd m
        by (Some i) e m = record {
          first = i.first;
          last = i.last;
          begins = tables.ends v i.first (subst (λ z. IsEndOf z i.first) (sym e) (inl refl));
          ends = tables.ends v i.last (subst (λ z. IsEndOf z i.last) (sym e) (inr refl));
          low = ⊎_elim (λ (le : i.first ≤ q). inl le) (λ (lt : v < p). inr (let is = all_free in omega arith)) m.0;
          high = m.1;
        }

    easy : IsLeaf f → IsTight f 20 → NothingElseEnters f → IsEasy f.parameters t
    easy leaf tight enters = record {
      slotted = λ v le. bool_false (flag_at t.slotted.items v) (λ e.
          ⊎_elim
          (λ (k : HasCall blocks). no_call leaf k)
          (λ (l : tables.live f.entry v ≡ true).
          (let k = tables.is_live.some f.entry v l in let lt : v < first_free f = enters.only v k.0 k.1 in let is = all_free in omega arith))
          (tables.slotted v e));
      arguments = λ v. bool_false (flag_at t.arguments.items v) (λ e. no_call leaf (tables.arguments v e));
      few = λ q vs d each. tight.few q vs d (λ v k. holds_at v q (each v k));
    }

    pub no_slots : IsLeaf f → IsTight f 20 → NothingElseEnters f → homes.slots ≡ 0
    no_slots leaf tight enters = s.easy (easy leaf tight enters)
