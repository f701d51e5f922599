-- One block, line by line: what a sweep has made of the sets and found of the accesses before the lines that are left.
use Rattle.std.proofs.Common.{◌≡◌, ℕ, ◌<◌, List, [], ◌∷◌, ◌++◌, length, Bool, true, false, Some, refl, sym, ap, ◌∙◌, subst, arith, append_assoc, append-nil}
use Rattle.std.specs.Prelude.{slice_get, ◌||◌}
use Rattle.im_block.specs.declared.access.Tags.{Tags}
use Rattle.im_block.specs.declared.code.Line.{Line}
use Rattle.im_block.specs.declared.code.Exit.{Exit}
use Rattle.im_block.specs.declared.unit.Function.{Function}
use Rattle.im_block.specs.declared.unit.Unit.{Unit as Code}
use Rattle.im_block.specs.Wellformed.{accesses_of_line, accesses_of_lines}
use Rattle.im_block.specs.Sections.{Has}
use Rattle.im_alloc_placed.specs.Placeable.{IsPlaceableLine}
use Rattle.im_alias.specs.PointsAt.{PointsAt, behind, LineFits, ExitFits, Fit}
use Rattle.im_alias.specs.Least.{Below}
use Rattle.im_alias.specs.declared.table.RegisterSets.{RegisterSets}
use Rattle.im_alias.specs.declared.table.Table.{Table}
use Rattle.im_alias.specs.declared.found.Found.{Found}
use Rattle.im_alias.specs.Sets.{row_sets, row_in, width, points, room, SameShape, SameSets, IsBounded, Flowed}
use Rattle.im_alias.specs.Scan.{AlikeSets, Passes, Reaches, FindsAt, Finds, Agrees, TagsAlike, numbers}
use Rattle.im_alias.proofs.Flows.{below_same, below_then, shape_same, shape_then, bounded_below, bounded_after}
use Rattle.im_alias.proofs.Scans.{SubSets, Within, HasObjects, behind_more, behind_alike, behind_within, line_less, exit_less, line_full}
use Rattle.im_alias.proofs.Tagging.{line_tag_alike}

pub alike_then : (a b c : ℕ → List ℕ) → AlikeSets a b → AlikeSets b c → AlikeSets a c
alike_then a b c h k r = record { there = λ n x. (k r).there n ((h r).there n x); back = λ n x. (h r).back n ((k r).back n x) }

pub alike_back : (a b : ℕ → List ℕ) → AlikeSets a b → AlikeSets b a
alike_back a b h r = record { there = (h r).back; back = (h r).there }

module _ (u : Code) (i : ℕ) (lines : List Line) (exit : Exit) (old : Table) (before : Found) where
  abbrev functions : List Function
  functions = u.functions.items

  abbrev bound : ℕ
  bound = length old.objects.items

  -- where nothing was changed, what is left is all that the block owes
  pub record Idle (now : Table) (found : Found) (spot : RegisterSets) (rest : List Line) : Type 0 where
    pub points_same : points now ≡ points old
    pub room_same : (b : ℕ) → room b now ≡ room b old
    pub sets : ℕ → List ℕ
    pub alike : AlikeSets sets (row_sets spot)
    pub fits : Fit (points old) functions sets i rest exit → Fit (points old) functions ((points old).register i) i lines exit
    pub tags : (final : Tags) → Agrees final found → TagsAlike (points old) final sets rest → TagsAlike (points old) final ((points old).register i) lines

  pub record InBlock (now : Table) (found : Found) (spot : RegisterSets) (rest : List Line) (changed : Bool) : Type 0 where
    pub shape : SameShape old now
    pub kept : Below (points old) (points now)
    pub count : length spot.sets.items ≡ width (slice_get old.registers.items i)
    pub bounded : IsBounded bound (points now)
    pub within : Within bound (row_sets spot)
    pub finds : numbers found.accesses.items ++ accesses_of_lines rest ≡ numbers before.accesses.items ++ accesses_of_lines lines
    pub more : (final : Tags) → Agrees final found → Agrees final before
    pub same : changed ≡ false → Idle now found spot rest
    pub less : (b : ℕ) → changed ≡ true → IsBounded b (points now) → room b now < room b old
    pub upper : (q : PointsAt) → Below (points old) q → Fit q functions (q.register i) i lines exit → Below (points now) q × ((sets : ℕ → List ℕ) × SubSets (row_sets spot) sets × Fit q functions sets i rest exit)

  pub block_start : (spot row : RegisterSets) → slice_get old.registers.items i ≡ Some row → SameSets row spot → IsBounded bound (points old) → InBlock old before spot lines false
  block_start spot row there same bounded =
      let are : (r : ℕ) → row_sets spot r ≡ (points old).register i r = λ r. same.sets r ∙ sym (ap (λ o. row_in o r) there) in
      record {
        shape = shape_same old;
        kept = below_same (points old);
        count = same.count ∙ sym (ap width there);
        bounded = bounded;
        within = λ r n h. bounded.register i r n (subst (λ l. Has l n) (are r) h);
        finds = refl;
        more = λ final h. h;
        same = λ e. record {
          points_same = refl;
          room_same = λ b. refl;
          sets = (points old).register i;
          alike = λ r. record { there = λ n h. subst (λ l. Has l n) (sym (are r)) h; back = λ n h. subst (λ l. Has l n) (are r) h };
          fits = λ h. h;
          tags = λ final a h. h;
        };
        less = λ b e h. cc;
        upper = λ q below fit. (below, (q.register i, λ r n h. below.register i r n (subst (λ l. Has l n) (are r) h), fit));
      }

  module _ (now next : Table) (found find : Found) (spot pass : RegisterSets) (line : Line) (rest : List Line) (c m : Bool) (in_ : InBlock now found spot (line ∷ rest) c) (at : FindsAt (row_sets spot) line found find) (flow : Flowed (λ p. LineFits p functions (row_sets spot) 0 line) now next m) (passes : Passes (points next) line spot pass) where
    step_idle : c ≡ false → m ≡ false → Idle next find pass rest
    step_idle e k =
        let idle = in_.same e in
        let flowed = flow.same k in
        let now_is = idle.points_same in
        let next_is : points next ≡ points old = flowed.0 ∙ now_is in
        let fits : LineFits (points old) functions (row_sets spot) 0 line = subst (λ p. LineFits p functions (row_sets spot) 0 line) now_is flowed.1 in
        let sets : AlikeSets (row_sets pass) (behind (points old) (row_sets spot) line) = subst (λ p. AlikeSets (row_sets pass) (behind p (row_sets spot) line)) next_is passes.sets in
        record {
          points_same = next_is;
          room_same = λ b. flowed.2 b ∙ idle.room_same b;
          sets = behind (points old) idle.sets line;
          alike = alike_then (behind (points old) idle.sets line) (behind (points old) (row_sets spot) line) (row_sets pass) (behind_alike (points old) idle.sets (row_sets spot) line idle.alike) (alike_back (row_sets pass) (behind (points old) (row_sets spot) line) sets);
          fits = λ h. idle.fits (line_less (points old) functions idle.sets (row_sets spot) (λ r. (idle.alike r).there) 0 i line fits, h);
          tags = λ final a h. idle.tags final (at.finds.more final a) (line_tag_alike final idle.sets (row_sets spot) line idle.alike (at.tag final a), h);
        }

    step_same : (x y : Bool) → x ≡ c → y ≡ m → (x || y) ≡ false → Idle next find pass rest
    step_same true y a b e = cc
    step_same false true a b e = cc
    step_same false false a b e = step_idle (sym a) (sym b)

    step_less : (x y : Bool) → x ≡ c → y ≡ m → (b : ℕ) → (x || y) ≡ true → IsBounded b (points next) → room b next < room b old
    step_less true true s t b e h =
        let one = in_.less b (sym s) (bounded_below b (points now) (points next) h flow.kept) in
        let two = flow.less b (sym t) h in
        omega arith
    step_less true false s t b e h =
        let one = in_.less b (sym s) (bounded_below b (points now) (points next) h flow.kept) in
        let two = (flow.same (sym t)).2 b in
        omega arith
    step_less false true s t b e h =
        let one = (in_.same (sym s)).room_same b in
        let two = flow.less b (sym t) h in
        omega arith
    step_less false false s t b e h = cc

    step_bounded : (statics : ℕ) (f : Function) → HasObjects bound statics f → IsPlaceableLine statics f line → IsBounded bound (points next)
    step_bounded statics f objects placeable =
        bounded_after (λ p. LineFits p functions (row_sets spot) 0 line) now next m bound flow in_.bounded (line_full bound statics functions f objects (row_sets spot) 0 line in_.within placeable)

    pub block_step : (statics : ℕ) (f : Function) → HasObjects bound statics f → IsPlaceableLine statics f line → Reaches bound (row_sets spot) line → InBlock next find pass rest (c || m)
    block_step statics f objects placeable reaches =
        let bounded_next = step_bounded statics f objects placeable in
        record {
          shape = shape_then old now next in_.shape flow.shape;
          kept = below_then (points old) (points now) (points next) in_.kept flow.kept;
          count = passes.count ∙ in_.count;
          bounded = bounded_next;
          within = λ r n h. behind_within bound (points next) bounded_next (row_sets spot) in_.within line reaches r n ((passes.sets r).there n h);
          finds = ap (λ l. l ++ accesses_of_lines rest) at.finds.numbers ∙ append_assoc (numbers found.accesses.items) (accesses_of_line line) (accesses_of_lines rest) ∙ in_.finds;
          more = λ final a. in_.more final (at.finds.more final a);
          same = step_same c m refl refl;
          less = step_less c m refl refl;
          upper = λ q below fit.
              let was = in_.upper q below fit in
              let sub = was.1.1 in
              let now_below = flow.upper q was.0 (line_less q functions (row_sets spot) was.1.0 sub i 0 line was.1.2.0) in (
                now_below,
                (
                  behind q was.1.0 line,
                  λ r n h. behind_more (points next) q now_below (row_sets spot) was.1.0 sub line r n ((passes.sets r).there n h),
                  was.1.2.1,
                ),
              );
        }

  -- at the exit
  module _ (now next : Table) (found : Found) (spot : RegisterSets) (c m : Bool) (in_ : InBlock now found spot [] c) (flow : Flowed (λ p. ExitFits p (row_sets spot) i exit) now next m) where
    P : PointsAt → Type 0
    P p = Fit p functions (p.register i) i lines exit

    end_idle : c ≡ false → m ≡ false → (points next ≡ points old) × Fit (points old) functions ((points old).register i) i lines exit × ((b : ℕ) → room b next ≡ room b old)
    end_idle e k =
        let idle = in_.same e in
        let flowed = flow.same k in
        let fits : ExitFits (points old) (row_sets spot) i exit = subst (λ p. ExitFits p (row_sets spot) i exit) idle.points_same flowed.1 in
        (flowed.0 ∙ idle.points_same, idle.fits (exit_less (points old) idle.sets (row_sets spot) i exit (λ r. (idle.alike r).there) fits), λ b. flowed.2 b ∙ idle.room_same b)

    end_same : (x y : Bool) → x ≡ c → y ≡ m → (x || y) ≡ false → (points next ≡ points old) × Fit (points old) functions ((points old).register i) i lines exit × ((b : ℕ) → room b next ≡ room b old)
    end_same true y a b e = cc
    end_same false true a b e = cc
    end_same false false a b e = end_idle (sym a) (sym b)

    end_tags : (x y : Bool) → x ≡ c → y ≡ m → (x || y) ≡ false → (final : Tags) → Agrees final found → TagsAlike (points old) final ((points old).register i) lines
    end_tags true y a b e final h = cc
    end_tags false true a b e final h = cc
    end_tags false false a b e final h = (in_.same (sym a)).tags final h tt

    end_less : (x y : Bool) → x ≡ c → y ≡ m → (b : ℕ) → (x || y) ≡ true → IsBounded b (points next) → room b next < room b old
    end_less true true s t b e h =
        let one = in_.less b (sym s) (bounded_below b (points now) (points next) h flow.kept) in
        let two = flow.less b (sym t) h in
        omega arith
    end_less true false s t b e h =
        let one = in_.less b (sym s) (bounded_below b (points now) (points next) h flow.kept) in
        let two = (flow.same (sym t)).2 b in
        omega arith
    end_less false true s t b e h =
        let one = (in_.same (sym s)).room_same b in
        let two = flow.less b (sym t) h in
        omega arith
    end_less false false s t b e h = cc

    pub block_end : (Flowed (λ p. Fit p functions (p.register i) i lines exit) old next (c || m)) × Finds before found (accesses_of_lines lines) × ((c || m) ≡ false → (final : Tags) → Agrees final found → TagsAlike (points old) final ((points old).register i) lines)
    block_end = (
      record {
        shape = shape_then old now next in_.shape flow.shape;
        kept = below_then (points old) (points now) (points next) in_.kept flow.kept;
        same = end_same c m refl refl;
        less = end_less c m refl refl;
        upper = λ q below fit.
            let was = in_.upper q below fit in
            flow.upper q was.0 (exit_less q (row_sets spot) was.1.0 i exit was.1.1 was.1.2);
      },
      record { numbers = sym (append-nil (numbers found.accesses.items)) ∙ in_.finds; more = in_.more },
      end_tags c m refl refl,
    )
