-- The tables of a function, of what its lines set and of what lives in its blocks.
use Rattle.std.proofs.Common.{◌≡◌, ◌≢◌, ◌<◌, ◌≤◌, ◌+◌, ◌*◌, ◌/◌, ◌%◌, ◌^◌, ℕ, zero, suc, Bool, true, false, List, [], ◌∷◌, Option, Some, None, inl, inr, ⊎_elim, length, refl, sym, ap, ◌∙◌, subst, drop, arith}
use Rattle.std.specs.Prelude.{Vec, ◌==◌, ◌&&◌, ◌||◌, not, slice_get, slice_index, All}
use Rattle.std.specs.declared.alloc.Global.{Global}
use Rattle.std.proofs.lemmas.Bool.{cases_lt}
use Rattle.std.proofs.lemmas.List.{get_or_past}
use Rattle.std.proofs.lemmas.List.Elements.{All-tail}
use Rattle.std.proofs.lemmas.Option.{slice_get_within, none-some, same_Some}
use Rattle.im_block.specs.declared.code.Line.{Line}
use Rattle.im_block.specs.declared.code.Line.TheVariants.{Put, PutNull, Copy, Convert, Unary, Not, Compute, Compare, Move, Distance, Address, Read, Write, Reload, Spill, Cut, Call, Serve}
use Rattle.im_block.specs.declared.code.Exit.{Exit}
use Rattle.im_block.specs.declared.code.Exit.TheVariants.{Jump, Turn, Branch, Return}
use Rattle.im_block.specs.declared.code.Block.{Block}
use Rattle.im_block.specs.declared.unit.Function.{Function}
use Rattle.im_block.specs.Wellformed.{LineWithin, ExitWithin, IsBlock}
use Rattle.im_alloc_relation.specs.Live.{uses, sets, exit_lives, lives}
use Rattle.im_block_live.specs.Reads.{IsLive}
use Rattle.im_block_live.specs.Words.{has, starts_have, group_has, groups_have, HaveWords}
use Rattle.im_alloc_intervals.specs.declared.marks.Interval.{Interval}
use Rattle.im_alloc_intervals.specs.declared.tables.Tables.{Tables}
use Rattle.im_alloc_intervals.specs.Homes.{IsAble}
use Rattle.im_alloc_intervals.specs.Leaves.{position, IsNeededAt, sets_at}
use Rattle.im_alloc_intervals.specs.Lines.{target_of, result_of, IsArgument}
use Rattle.im_alloc_intervals.specs.Marks.{interval_at, HoldsIn, IsEndOf, Adds, flag_at, Flags}
use Rattle.im_alloc_intervals.specs.Tables.{ArePlaces, IsSetIn, IsPassedIn, IsLivingOf, IsCrossingOf, IsEnteringOf, HasCall, AreTables}
use Rattle.im_alloc_intervals.proofs.Adding.{Table}
use Rattle.im_alloc_intervals.proofs.Blocks.{all_at}
use Rattle.im_alloc_intervals.proofs.Lives.{lives_below}
use Rattle.im_alloc_intervals.proofs.Paths.{by_paths}
use Rattle.im_alloc_intervals.proofs.Targets.{sets_target, result_call, argument_call}
use Rattle.im_alloc_intervals.proofs.Whole.{reads_below}

-- what lives depends on what lives at the starts of blocks

module _ (f g : ℕ → ℕ → Bool) (v : ℕ) (same : (b : ℕ) → f b v ≡ g b v) where
  exit_same : (exit : Exit) → exit_lives f exit v ≡ exit_lives g exit v
  exit_same (Jump b) = same b
  exit_same (Turn b) = same b
  exit_same (Branch on a b) = ap (λ (z : Bool). v == on || z || f b v) (same a) ∙ ap (λ (z : Bool). v == on || g a v || z) (same b)
  exit_same (Return from) = refl

  lives_same : (lines : List Line) (exit : Exit) → lives f lines exit v ≡ lives g lines exit v
  lives_same [] exit = exit_same exit
  lives_same (line ∷ lines) exit = ap (λ (z : Bool). uses line v || (not (sets line v) && z)) (lives_same lines exit)

-- registers of lines are those of the function

one_within : (n to v : ℕ) → to < n → Some to ≡ Some v → v < n
one_within n to v lt e = let is : to ≡ v = same_Some to v e in omega arith

target_within : (n : ℕ) (line : Line) (v : ℕ) → LineWithin n line → target_of line ≡ Some v → v < n
target_within n (Put to z) v w e = one_within n to v w e
target_within n (PutNull to) v w e = one_within n to v w e
target_within n (Copy to from) v w e = one_within n to v w.0 e
target_within n (Convert to kind from) v w e = one_within n to v w.0 e
target_within n (Unary to op kind from) v w e = one_within n to v w.0 e
target_within n (Not to from) v w e = one_within n to v w.0 e
target_within n (Compute to op kind left right) v w e = one_within n to v w.0 e
target_within n (Compare to op kind left right) v w e = one_within n to v w.0 e
target_within n (Move to size back pointer by) v w e = one_within n to v w.0 e
target_within n (Distance to size left right) v w e = one_within n to v w.0 e
target_within n (Address to place) v w e = one_within n to v w.0 e
target_within n (Read to place kind access) v w e = one_within n to v w.0 e
target_within n (Write place kind from access) v w e = absurd cc
target_within n (Reload to slot access) v w e = one_within n to v w e
target_within n (Spill slot from access) v w e = absurd cc
target_within n (Cut cause) v w e = absurd cc
target_within n (Call to i first count) v w e = one_within n to v w.0 e
target_within n (Serve to service None) v w e = one_within n to v w e
target_within n (Serve to service (Some from)) v w e = one_within n to v w.0 e

argument_within : (n : ℕ) (line : Line) (v : ℕ) → LineWithin n line → IsArgument line v → v < n
argument_within n (Call to i first count) v w a = let most = w.1 in let less = a.1 in omega arith
argument_within n line v w a = absurd a

dropped_below : (n : ℕ) (live : ℕ → ℕ → Bool) (lines : List Line) (exit : Exit) → ((c v : ℕ) → live c v ≡ true → v < n) → All (LineWithin n) lines → ExitWithin n exit → (i v : ℕ) → lives live (drop i lines) exit v ≡ true → v < n
dropped_below n live lines exit all w we zero v e = lives_below n live lines exit all w we v e
dropped_below n live [] exit all w we (suc i) v e = lives_below n live [] exit all w we v e
dropped_below n live (line ∷ lines) exit all w we (suc i) v e = dropped_below n live lines exit all (All-tail (LineWithin n) line lines w) we i v e

module _ (f : Function) (able : IsAble f) (groups : List (Vec ℕ Global)) (places : List ℕ) (is_live : IsLive f.blocks.items (groups_have groups)) (words : HaveWords f.register_count (length f.blocks.items) groups) (placed : ArePlaces f.blocks.items places) where
  abbrev blocks : List Block
  blocks = f.blocks.items

  abbrev n : ℕ
  n = f.register_count

  abbrev live : ℕ → ℕ → Bool
  live = groups_have groups

  live_below : (b v : ℕ) → live b v ≡ true → v < n
  live_below b v e = let k = is_live.some b v e in reads_below f able k.0 b v k.1

  block_of : (b : ℕ) (block : Block) → slice_get blocks b ≡ Some block → IsBlock able.functions f block
  block_of b block at = all_at (IsBlock able.functions f) blocks b block able.whole.blocks at

  line_of : (b : ℕ) (block : Block) (i : ℕ) (line : Line) → slice_get blocks b ≡ Some block → slice_get block.lines.items i ≡ Some line → LineWithin n line
  line_of b block i line at stands = all_at (LineWithin n) block.lines.items i line (block_of b block at).lines_within stands

  within : (b : ℕ) (block : Block) (i v : ℕ) → slice_get blocks b ≡ Some block → lives live (drop i block.lines.items) block.exit v ≡ true → v < n
  within b block i v at e = let w = block_of b block at in dropped_below n live block.lines.items block.exit live_below w.lines_within w.exit_within i v e

  -- a register's group, and its bit there

  record Grouped (v : ℕ) : Type 0 where
    g : ℕ
    j : ℕ
    starts : Vec ℕ Global
    at : slice_get groups g ≡ Some starts
    small : j < 32
    is : v ≡ 32 * g + j

  grouped : (v : ℕ) → v < n → Grouped v
  grouped v lt = by (slice_get groups (v / 32)) refl
    where
      by : (o : Option (Vec ℕ Global)) → slice_get groups (v / 32) ≡ o → Grouped v
      by (Some starts) at = record { g = v / 32; j = v % 32; starts = starts; at = at; small = omega arith; is = omega arith }
      by None at = absurd (none_past groups (v / 32) at (let a = words.enough in omega arith))
        where
          none_past : (xs : List (Vec ℕ Global)) (i : ℕ) → slice_get xs i ≡ None → i < length xs → ⊥
          none_past [] i e l = omega arith
          none_past (x ∷ xs) zero e l = none-some x (sym e)
          none_past (x ∷ xs) (suc i) e l = none_past xs i e (omega arith)

  same_starts : (g j v : ℕ) (starts : Vec ℕ Global) → slice_get groups g ≡ Some starts → j < 32 → v ≡ 32 * g + j → (b : ℕ) → starts_have starts.items j b v ≡ live b v
  same_starts g j v starts at small is b =
      let quotient : g ≡ v / 32 = omega arith in
      let rest : j ≡ v % 32 = omega arith in
      ap (λ (z : ℕ). has (slice_index starts.items b) z) rest
      ∙ ap (λ (o : Option (Vec ℕ Global)). group_has o b (v % 32)) (sym at)
      ∙ ap (λ (z : ℕ). group_has (slice_get groups z) b (v % 32)) quotient

  same_lives : (g j v : ℕ) (starts : Vec ℕ Global) → slice_get groups g ≡ Some starts → j < 32 → v ≡ 32 * g + j → (lines : List Line) (exit : Exit) → lives (starts_have starts.items j) lines exit v ≡ lives live lines exit v
  same_lives g j v starts at small is lines exit = lives_same (starts_have starts.items j) live v (same_starts g j v starts at small is) lines exit

  place_is : (b : ℕ) (block : Block) (i : ℕ) → slice_get blocks b ≡ Some block → position blocks b i ≡ slice_index places b + i
  place_is b block i at = let e = placed.each b block at in omega arith

  -- marks are what is needed, and the other way

  living_mark : (b : ℕ) (block : Block) (i v : ℕ) → slice_get blocks b ≡ Some block → i ≤ length block.lines.items → lives live (drop i block.lines.items) block.exit v ≡ true → IsLivingOf groups blocks places v (position blocks b i)
  living_mark b block i v at le e =
      let k = grouped v (within b block i v at e) in (
        k.g,
        (
          k.starts,
          k.at,
          (
            b,
            (
              block,
              at,
              record {
                i = i;
                j = k.j;
                inside = le;
                small = k.small;
                is = place_is b block i at;
                register = k.is;
                living = same_lives k.g k.j v k.starts k.at k.small k.is (drop i block.lines.items) block.exit ∙ e;
              },
            ),
          ),
        ),
      )

  living_needed : (v p : ℕ) → IsLivingOf groups blocks places v p → IsNeededAt blocks v p
  living_needed v p k =
      let starts : Vec ℕ Global = k.1.0 in
      let b : ℕ = k.1.2.0 in
      let block : Block = k.1.2.1.0 in
      let at : slice_get blocks b ≡ Some block = k.1.2.1.1 in
      let m = k.1.2.1.2 in
      record {
        b = b;
        i = m.i;
        block = block;
        at = at;
        inside = m.inside;
        is = m.is ∙ sym (place_is b block m.i at);
        needed = inl (by_paths blocks live is_live v (drop m.i block.lines.items) block.exit
            (sym (same_lives k.0 m.j v starts k.1.1 m.small m.register (drop m.i block.lines.items) block.exit) ∙ m.living));
      }

  set_mark : (b : ℕ) (block : Block) (i : ℕ) (line : Line) (v : ℕ) → slice_get blocks b ≡ Some block → slice_get block.lines.items i ≡ Some line → target_of line ≡ Some v → IsSetIn blocks places v (position blocks b (suc i))
  set_mark b block i line v at stands e = (b, (block, at, (i, record { line = line; at = stands; target = (e, (let is = place_is b block (suc i) at in omega arith)) })))

  set_needed : (v p : ℕ) → IsSetIn blocks places v p → IsNeededAt blocks v p
  set_needed v p k =
      let b : ℕ = k.0 in
      let block : Block = k.1.0 in
      let i : ℕ = k.1.2.0 in
      let m = k.1.2.1 in
      let lt = slice_get_within block.lines.items i m.line m.at in
      record {
        b = b;
        i = suc i;
        block = block;
        at = k.1.1;
        inside = omega arith;
        is = (let e = m.target.1 in let is = place_is b block (suc i) k.1.1 in omega arith);
        needed = inr (subst (λ (o : Option Line). sets_at o v ≡ true) (sym m.at) (sets_target m.line v m.target.0));
      }

  crossing_mark : (b : ℕ) (block : Block) (i : ℕ) (line : Line) (to v : ℕ) → slice_get blocks b ≡ Some block → slice_get block.lines.items i ≡ Some line → result_of line ≡ Some to → lives live (drop (suc i) block.lines.items) block.exit v ≡ true → v ≢ to → IsCrossingOf groups blocks v
  crossing_mark b block i line to v at stands call e ne =
      let k = grouped v (within b block (suc i) v at e) in
      let next : i + 1 ≡ suc i = omega arith in (
        k.g,
        (
          k.starts,
          k.at,
          (
            b,
            (
              block,
              at,
              record {
                i = i;
                j = k.j;
                line = line;
                to = to;
                at = stands;
                call = call;
                small = k.small;
                register = k.is;
                living = ap (λ (z : ℕ). lives (starts_have k.starts.items k.j) (drop z block.lines.items) block.exit v) next ∙ same_lives k.g k.j v k.starts k.at k.small k.is (drop (suc i) block.lines.items) block.exit ∙ e;
                other = ne;
              },
            ),
          ),
        ),
      )

  crossing_call : (v : ℕ) → IsCrossingOf groups blocks v → HasCall blocks
  crossing_call v k =
      let m = k.1.2.1.2 in
      record { b = k.1.2.0; i = m.i; block = k.1.2.1.0; line = m.line; at = k.1.2.1.1; stands = m.at; is_call = result_call m.line m.to m.call }

  entering_mark : (v : ℕ) → live f.entry v ≡ true → IsEnteringOf groups f.entry v
  entering_mark v e =
      let k = grouped v (live_below f.entry v e) in
      (k.g, (k.starts, k.at, record { j = k.j; small = k.small; is = k.is; bit = same_starts k.g k.j v k.starts k.at k.small k.is f.entry ∙ e }))

  entering_lives : (v : ℕ) → IsEnteringOf groups f.entry v → live f.entry v ≡ true
  entering_lives v k = let m = k.1.2 in sym (same_starts k.0 m.j v k.1.0 k.1.1 m.small m.is f.entry) ∙ m.bit

  passed_call : (v : ℕ) → IsPassedIn blocks v → HasCall blocks
  passed_call v k =
      let m = k.1.2.1 in
      record { b = k.0; i = k.1.2.0; block = k.1.0; line = m.line; at = k.1.1; stands = m.at; is_call = argument_call m.line v m.argument }

  module _ (t : Tables) (iv0 iv1 : Table) (fl0 fl1 ar0 : List Bool) (no_interval : (v : ℕ) → interval_at iv0 v ≡ None) (no_flag : (v : ℕ) → flag_at fl0 v ≡ false) (no_argument : (v : ℕ) → flag_at ar0 v ≡ false)
      (long : length iv0 ≡ n) (long_flags : length fl0 ≡ n) (long_arguments : length ar0 ≡ n) (small : n < 2 ^ 32)
      (set : Adds (IsSetIn blocks places) iv0 iv1) (living : Adds (IsLivingOf groups blocks places) iv1 t.intervals.items)
      (entering : Flags (IsEnteringOf groups f.entry) fl0 fl1) (crossing : Flags (IsCrossingOf groups blocks) fl1 t.slotted.items)
      (passed : Flags (IsPassedIn blocks) ar0 t.arguments.items) where
    own : ℕ → Option Interval
    own v = interval_at t.intervals.items v

    holds_end : (v p : ℕ) → v < n → IsEndOf (interval_at t.intervals.items v) p → HoldsIn (interval_at t.intervals.items v) p
    holds_end v p lt e =
        ⊎_elim
        (λ (k : IsLivingOf groups blocks places v p). living.holds v p (let c = set.count in omega arith) k)
        (λ (o : IsEndOf (interval_at iv1 v) p).
        ⊎_elim
        (λ (k : IsSetIn blocks places v p). living.keeps v p (set.holds v p (omega arith) k))
        (λ (z : IsEndOf (interval_at iv0 v) p). absurd (subst (λ (y : Option Interval). IsEndOf y p) (no_interval v) z))
        (set.ends v p o))
        (living.ends v p e)

    ordered : (v : ℕ) (i : Interval) → interval_at t.intervals.items v ≡ Some i → i.first ≤ i.last
    ordered v i is =
        ⊎_elim
        (λ (lt : v < n).
        (let h : HoldsIn (Some i) i.first = subst (λ (y : Option Interval). HoldsIn y i.first) is (holds_end v i.first lt (subst (λ (y : Option Interval). IsEndOf y i.first) (sym is) (inl refl))) in h.1))
        (λ (le : n ≤ v). absurd (none-some i (sym (get_or_past t.intervals.items v None (let a = living.count in let b = set.count in omega arith)) ∙ is)))
        (cases_lt v n)

    pub are_tables : AreTables f t
    are_tables = record {
      live = live;
      is_live = is_live;
      count = living.count ∙ set.count ∙ long;
      fitting = record {
        small = (let a = living.count in let b = set.count in omega arith);
        slotted = (let a = living.count in let b = set.count in let c = crossing.count in let d = entering.count in omega arith);
        arguments = (let a = living.count in let b = set.count in let c = passed.count in omega arith);
        ordered = ordered;
      };
      living = λ b block i v at le e. living.holds v (position blocks b i) (let lt = within b block i v at e in let c = set.count in omega arith) (living_mark b block i v at le e);
      setting = λ b block i line v at stands e. living.keeps v (position blocks b (suc i)) (set.holds v (position blocks b (suc i)) (let lt = target_within n line v (line_of b block i line at stands) e in omega arith) (set_mark b block i line v at stands e));
      ends = λ v p e.
          ⊎_elim
          (λ (k : IsLivingOf groups blocks places v p). living_needed v p k)
          (λ (o : IsEndOf (interval_at iv1 v) p).
          ⊎_elim
          (λ (k : IsSetIn blocks places v p). set_needed v p k)
          (λ (z : IsEndOf (interval_at iv0 v) p). absurd (subst (λ (y : Option Interval). IsEndOf y p) (no_interval v) z))
          (set.ends v p o))
          (living.ends v p e);
      crossing = λ b block i line to v at stands call e ne. crossing.set v (let lt = within b block (suc i) v at e in let c = entering.count in omega arith) (crossing_mark b block i line to v at stands call e ne);
      entering = λ v e. crossing.keeps v (entering.set v (let lt = live_below f.entry v e in omega arith) (entering_mark v e));
      slotted = λ v e.
          ⊎_elim
          (λ (k : IsCrossingOf groups blocks v). inl (crossing_call v k))
          (λ (o : flag_at fl1 v ≡ true).
          ⊎_elim
          (λ (k : IsEnteringOf groups f.entry v). inr (entering_lives v k))
          (λ (z : flag_at fl0 v ≡ true). (let no = no_flag v in absurd cc))
          (entering.due v o))
          (crossing.due v e);
      passed = λ b block i line v at stands a. passed.set v (let lt = argument_within n line v (line_of b block i line at stands) a in omega arith) (b, (block, at, (i, record { line = line; at = stands; argument = a })));
      arguments = λ v e.
          ⊎_elim
          (λ (k : IsPassedIn blocks v). passed_call v k)
          (λ (z : flag_at ar0 v ≡ true). (let no = no_argument v in absurd cc))
          (passed.due v e);
    }
