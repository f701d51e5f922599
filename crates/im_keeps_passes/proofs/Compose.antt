-- The compiler's promise, from the passes' promises alone.
use Rattle.std.proofs.Common.{◌≡◌, ℕ, ◌+◌, ◌*◌, ◌<◌, ◌≤◌, true, false, inl, inr, List, [], ◌++◌, length, map, refl, sym, ap, ◌∙◌, subst, arith}
use Rattle.std.specs.Prelude.{ℤ, slice_get}
use Rattle.std.proofs.lemmas.List.{append-nil}
use Rattle.im_num.specs.Variables.{Variable}
use Rattle.im_mem.specs.Memory.{Mem, little, Stands}
use Rattle.im_image.specs.Contents.{ImageValue}
use Rattle.im_device.specs.Load.{memory_of}
use Rattle.im_device.specs.Shows.{output_of}
use Rattle.im_replay_path.specs.Sections.{flips}
use Rattle.im_replay_path.proofs.Times.{order}
use Rattle.im_ckpt.specs.Runs.{State, flip, ends}
use Rattle.im_ckpt.specs.Buffers.{buffer}
use Rattle.im_ckpt.specs.Laws.{CanResume}
use Rattle.im_replay.specs.Compiled.{IsReplayable}
use Rattle.im_replay.specs.Replays.{GapAtMost}
use Rattle.im_replay.specs.Owed.{IsOwed}
use Rattle.im_replay.proofs.Endless.{is_run}
use Rattle.im_replay.proofs.Owing.{sound}
use Rattle.im_replay.proofs.Device.{replay_law, output_law, progress_law}
use Rattle.im_replay.proofs.Shows.{grows_on}
use Rattle.im_replay.proofs.Images.{can_resume, owed_of, first_mem, first_place}
use Rattle.im_gap.specs.Flows.{IsPlaced}
use Rattle.im_gap.specs.FlowLaws.{AlongLaw, GapLaw}
use Rattle.im_store.specs.Outcomes.{Outcome, Undef, More, End, IsDefined}
use Rattle.im_typed.specs.Sound.{EndsRight}
use Rattle.im_block.specs.declared.unit.Static.{Static as StaticOf}
use Rattle.im_block.specs.declared.unit.Unit.{Unit as Code}
use Rattle.im_block.specs.Meaning.{Setting, Event, static_of, statics_of}
use Rattle.im_block.specs.Runs.{Runs}
use Rattle.im_block.specs.Sections.{NoWar, items}
use Rattle.im_block.specs.Tagged.{AllHold}
use Rattle.im_block.specs.Shape.{AllOrdered, sum_of, total, function_cost, placed_cost}
use Rattle.im_block.specs.Uncut.{SameFunction, SameButCuts}
use Rattle.im_block.proofs.Unitwise.{zip_sum}
use Rattle.im_block.specs.Wellformed.{IsWellFormed}
use Rattle.im_block.specs.Laws.{EachLineLaw, AddedCutsLaw, SectionLaw}
use Rattle.im_block_laws.specs.Laws.{CutsKeepCodeLaw}
use Rattle.im_alloc_placed.specs.Placeable.{IsPlaceable}
use Rattle.im_alloc_placed.specs.Laws.{CutsKeepPlacesLaw}
use Rattle.im_force.specs.Laws.{ForceKeepsLaw}
use Rattle.im_keeps.specs.Keeps.{IsInput, IsRightFor, Begins, output_in, KeepsEnd, KeepsOn, EndsOn}
use Rattle.im_keeps_run.specs.Laws.{run_of, IsReady, ShowsBy, EndKeptLaw, RunKeptLaw}
use Rattle.im_keeps_run.proofs.Kept.{more_shown, output_same, shows_same}
use Rattle.im_keeps_until.specs.Until.{OwesUntil}
use Rattle.im_keeps_until.specs.Laws.{Owes, OwesAlways, UntilLaw}
use Rattle.im_keeps_until.proofs.Still.{still, over_still, flips_still, flips_more}
use Rattle.im_keeps_passes.specs.Source.{Source, IsRightSource}
use Rattle.im_keeps_run.specs.Written.{code_end, IsLoaded}
use Rattle.im_keeps_run.specs.WrittenLaws.{WrittenLaw}
use Rattle.im_keeps_passes.specs.Machine.{powered, stores_before, ShowsAfter}
use Rattle.im_keeps_passes.specs.Passes.{needs_of, setting, IsSelectable, Passes}
use Rattle.im_keeps_passes.specs.Laws.{meaning_of, KeepsUninterrupted, ReachesUninterrupted, Survives, PassesKeep}
use Rattle.im_keeps_passes.proofs.Events.{still_hold}
use Rattle.im_keeps_passes.proofs.Bounds.{few_enough, soon_enough}
use Rattle.im_keeps_passes.proofs.Commits.{flips_stored}
use Rattle.im_keeps_passes.proofs.Units.{statics_kept, needs_kept, frames_fit}
use Rattle.im_keeps_passes.proofs.Steady.{Shows_at, shows_at}

begins_same : (a b : List ℕ) → a ≡ b → Begins a b
begins_same a b e = ([], append-nil a ∙ e)

statics_same : (old new : Code) → SameButCuts old new → length new.statics.items ≡ length old.statics.items
statics_same old new same = ap (λ (u : Code). length u.statics.items) same.rest

pub record Laws : Type 0 where
  pub each : EachLineLaw
  pub added : AddedCutsLaw
  pub section : SectionLaw
  pub code : CutsKeepCodeLaw
  pub places : CutsKeepPlacesLaw
  pub force : ForceKeepsLaw
  pub written : WrittenLaw
  pub until : UntilLaw
  pub along : AlongLaw
  pub gap : GapLaw
  pub end_kept : EndKeptLaw
  pub run_kept : RunKeptLaw

module _ (laws : Laws) (source : Source) (frames : List ℕ) (image : ImageValue) (gap : ℕ) (typed : IsRightSource source) (p : Passes source frames image gap) where
  abbrev given : List ℕ → Setting
  given input = setting frames image input

  abbrev mean : List ℕ → ℕ → Outcome
  mean input n = meaning_of source frames image input n

  forced_same : SameButCuts p.lowered p.forced
  forced_same = laws.force.same p.lowered p.forced p.force

  abbrev statics : ℕ
  statics = length p.forced.statics.items

  trimmed_well_formed : IsWellFormed p.trimmed
  trimmed_well_formed = laws.code.well_formed p.forced p.trimmed p.cut.same (laws.code.well_formed p.lowered p.forced forced_same p.lower.well_formed)

  trimmed_placeable : IsPlaceable p.trimmed
  trimmed_placeable = laws.places.placeable p.forced p.trimmed p.cut.same (laws.places.placeable p.lowered p.forced forced_same p.lower.placeable)

  -- what the last code does
  record Reaches (input : List ℕ) (n : ℕ) (o : Outcome) : Type 0 where
    run : List Event
    runs : Runs p.sectioned (given input) n o run
    holds : AllHold statics p.tags run

  reaches : (input : List ℕ) (n : ℕ) → IsInput input → IsDefined (mean input n) → Reaches input n (mean input n)
  reaches input n fits right =
      let g = given input in
      let o = mean input n in
      let a = p.lower.runs g n fits right in
      let b = (laws.added.kept p.lowered p.forced forced_same).runs g n o a.0 a.1 in
      let c = (laws.added.kept p.forced p.trimmed p.cut.same).runs g n o b.0 b.1 in
      let d = p.place.runs trimmed_well_formed g n o c.0 right c.1 in
      let e = (laws.added.kept p.placed p.sectioned p.recut.same).runs g n o d.0 d.1 in
      let tagged = d.2 statics p.tags (still_hold statics p.tags b.0 c.0 c.2 (p.alias.holds g n o b.0 right b.1)) in
      record { run = e.0; runs = e.1; holds = still_hold statics p.tags d.0 e.0 e.2 tagged }

  statics_last : length p.sectioned.statics.items ≡ statics
  statics_last =
      statics_same p.placed p.sectioned p.recut.same ∙ ap (λ (l : List StaticOf). length l) p.place.statics ∙ statics_same p.forced p.trimmed p.cut.same

  statics_are : statics_of p.sectioned ≡ source.statics
  statics_are =
      statics_kept p.placed p.sectioned p.recut.same ∙ ap (λ (l : List StaticOf). map static_of l) p.place.statics ∙ statics_kept p.forced p.trimmed p.cut.same ∙ statics_kept p.lowered p.forced forced_same ∙ p.lower.statics

  needs_are : needs_of p.sectioned ≡ source.needs
  needs_are =
      needs_kept p.placed p.sectioned p.recut.same ∙ p.place.needs ∙ needs_kept p.forced p.trimmed p.cut.same ∙ needs_kept p.lowered p.forced forced_same ∙ p.lower.needs

  ordered : AllOrdered p.sectioned
  ordered = laws.added.ordered p.placed p.sectioned p.recut.same (p.place.ordered (laws.added.ordered p.forced p.trimmed p.cut.same (laws.added.ordered p.lowered p.forced forced_same p.lower.ordered)))

  selectable : IsSelectable p.sectioned
  selectable = record {
    forced = laws.code.forced p.placed p.sectioned p.recut.same (p.place.forced (laws.code.forced p.forced p.trimmed p.cut.same (laws.force.forced p.lowered p.forced p.force)));
    well_formed = laws.code.well_formed p.placed p.sectioned p.recut.same (p.place.well_formed trimmed_placeable trimmed_well_formed);
    placed = laws.places.placed p.placed p.sectioned p.recut.same (p.place.placed trimmed_placeable);
    apart = p.recut.apart (p.place.apart (p.cut.apart (laws.force.apart p.lowered p.forced p.force p.lower.uncut)));
  }

  cost_same : (old new : Code) → SameButCuts old new → sum_of function_cost new.functions.items ≡ sum_of function_cost old.functions.items
  cost_same old new same = zip_sum SameFunction function_cost (λ f g s. (laws.code.costs f g s).cost) old.functions.items new.functions.items same.functions

  placed_same : (old new : Code) → SameButCuts old new → sum_of placed_cost new.functions.items ≡ sum_of placed_cost old.functions.items
  placed_same old new same = zip_sum SameFunction placed_cost (λ f g s. (laws.code.costs f g s).placed) old.functions.items new.functions.items same.functions

  small : 4 * length image.words ≤ 4096 + 256 * source.nodes
  small =
      let words = p.select.small selectable in
      let recut = placed_same p.placed p.sectioned p.recut.same in
      let place = p.place.cost in
      let cut = cost_same p.forced p.trimmed p.cut.same in
      let force = cost_same p.lowered p.forced forced_same in
      let lower = p.lower.cost in
      omega arith

  gap_long : 33 ≤ gap
  gap_long = let most = p.measure.reached in omega arith

  -- the machine's run on an input
  module _ (input : List ℕ) (fits : IsInput input) where
    abbrev r : ℕ → State
    r = run_of image input

    loaded : IsLoaded image input
    loaded = laws.written.loaded image input p.select.written fits

    abbrev output_at : ℕ → List ℕ
    output_at t = output_of image.form (r t).mem

    record Shown (n : ℕ) (o : Outcome) : Type 0 where
      j : ℕ
      shows : ShowsAfter image r o n j
      soon : (g : ℕ) → 33 ≤ g → 34 + j ≤ (2 * n + 2) * length image.words * g
      grows : (i : ℕ) → i ≤ j → Begins (output_at i) (output_at j)
      owes : OwesUntil image.words (code_end image) r j
      commits : stores_before r j ≤ (2 * n + 1) * length image.words

    shown : (n : ℕ) → IsDefined (mean input n) → Shown n (mean input n)
    shown n right =
        let g = given input in
        let o = mean input n in
        let q = reaches input n fits right in
        let x = p.select.executes selectable input fits in
        let ends_right : EndsRight (statics_of p.sectioned) o = subst (λ s. EndsRight s o) (sym statics_are) (typed.ends g n fits) in
        let f = x.follows n o q.run right ends_right q.runs in
        let steps = laws.each p.sectioned g x.steps n q.runs.steps ordered in
        let commits = laws.each p.sectioned g x.cuts n q.runs.steps ordered in
        let holds = subst (λ k. AllHold k p.tags q.run) (sym statics_last) q.holds in
        let safe : NoWar (items q.run) = laws.section p.sectioned p.tags g n o q.run selectable.forced p.recut.sectioned q.runs holds in
        let soon = f.soon in
        record {
          j = f.j;
          shows = f.shows;
          soon = λ k le. soon_enough n (total x.steps p.sectioned) (34 + x.around) (length image.words) k _ (34 + f.j) steps x.few_steps le (omega arith);
          grows = f.grows;
          owes = f.owes safe;
          commits = few_enough n (total x.cuts p.sectioned) (length image.words) _ (stores_before r f.j) commits x.few_cuts f.commits;
        }

    shown_at : (n : ℕ) (o : Outcome) → IsDefined o → mean input n ≡ o → Shown n o
    shown_at n o right e = subst (λ q. Shown n q) e (shown n (subst IsDefined (sym e) right))

    -- what survival asks of the image
    module _ (always : OwesAlways image.words (code_end image) r) where
      compiled : IsReplayable (memory_of image input) (code_end image)
      compiled = record {
        small = loaded.small;
        index = loaded.index;
        start_even = loaded.start_even;
        start_outside = loaded.start_outside;
        long = laws.written.long image p.select.written;
        recovery = loaded.recovery;
        checkpoint = loaded.checkpoint;
        runs = always.safely;
      }

      can : CanResume (memory_of image input)
      can = can_resume (memory_of image input) (code_end image) compiled

      ready : IsReady image input (code_end image)
      ready = record { form = p.select.written.form; objects = laws.written.high image p.select.written; compiled = compiled; shows = always.shows }

      placed : IsPlaced image.words image.entry (code_end image) r
      placed = record {
        few = laws.written.few image p.select.written;
        size = refl;
        first = subst (λ (m : Mem). Stands m 4096 image.words) (sym (first_mem (memory_of image input) can)) loaded.code;
        entered = first_place (memory_of image input) can ∙ ap (λ z. little (memory_of image input) (buffer z) 4) loaded.index ∙ loaded.entered;
        returns = always.returns;
        cuts = always.cuts;
      }

      owed : IsOwed r (code_end image)
      owed = owed_of (memory_of image input) (code_end image) compiled

      gaps : GapAtMost r gap
      gaps =
          laws.gap image.words image.entry gap r (laws.along image.words image.entry (code_end image) r owed placed) p.measure

      few_flips : (t : ℕ) → flips (flip r) t ≤ stores_before r t
      few_flips t = flips_stored r (sound r (code_end image) owed) t

      survives : Survives image gap input
      survives = record {
        replays = replay_law (memory_of image input) (code_end image) compiled;
        never_shrinks = output_law (memory_of image input) (code_end image) compiled always.shows;
        progresses = progress_law (memory_of image input) (code_end image) gap compiled gaps;
      }

      -- a later time of the run shows no less
      later_shown : (s t : ℕ) → s ≤ t → Begins (output_at s) (output_at t)
      later_shown s t le =
          more_shown image (r s).mem (r t).mem p.select.written.form (grows_on r (code_end image) (sound r (code_end image) owed) always.shows s t le)

      shows_in : (n junk : ℕ) → Shows_at (memory_of image input) (code_end image) compiled junk n
      shows_in n junk = shows_at (memory_of image input) (code_end image) compiled junk n

      shown_in : (n junk : ℕ) → output_of image.form (powered image input n junk).mem ≡ output_at (shows_in n junk).t
      shown_in n junk =
          let s = shows_in n junk in
          let form = p.select.written.form in
          ap (λ f. output_of f (powered image input n junk).mem) form ∙ output_same (powered image input n junk).mem (r s.t).mem s.same ∙ sym (ap (λ f. output_of f (r s.t).mem) form)

    -- the program ends
    module _ (n reason : ℕ) (status : ℤ) (output : List ℕ) (variables : List Variable) (f : Shown n (End reason status output variables)) where
      over : ends r f.j ≡ true
      over = let e = f.shows.0 in let before = e.before in over_still r (is_run (memory_of image input)) e.e e.over f.j (omega arith)

      later : (t : ℕ) → f.j ≤ t → r t ≡ r f.j
      later t le = still r (is_run (memory_of image input)) f.j over t le

      one_end : (t : ℕ) → ends r t ≡ true → r t ≡ r f.j
      one_end t ended = elim (order t f.j) [
        | inl lt ↦ sym (still r (is_run (memory_of image input)) t ended f.j (omega arith))
        | inr le ↦ later t le
      ]

      begins_at : (t : ℕ) → Begins (output_at t) output
      begins_at t = elim (order t f.j) [
        | inl lt ↦ subst (Begins (output_at t)) f.shows.1.same_output (f.grows t (omega arith))
        | inr le ↦ begins_same (output_at t) output (ap (λ (s : State). output_of image.form s.mem) (later t le) ∙ f.shows.1.same_output)
      ]

      owes_at : (t : ℕ) → Owes image.words (code_end image) r t
      owes_at t = record {
        j = t + 1;
        later = omega arith;
        owes = laws.until.ended image.words (code_end image) r f.shows.0.e f.j (is_run (memory_of image input)) f.shows.0.before f.shows.0.over f.owes (t + 1);
      }

      end_always : OwesAlways image.words (code_end image) r
      end_always = laws.until.always image.words (code_end image) r owes_at

      commits_at : (t : ℕ) → flips (flip r) t ≤ (2 * n + 1) * length image.words
      commits_at t =
          let most = f.commits in
          let stored = few_flips end_always f.j in
          elim (order t f.j) [
            | inl lt ↦ (let h = flips_more (flip r) t f.j (omega arith) in omega arith)
            | inr le ↦ (let h = flips_still r (is_run (memory_of image input)) f.j over t le in omega arith)
          ]

      keeps_end : KeepsEnd image gap input n reason status output variables
      keeps_end =
          laws.end_kept image input (code_end image) gap n f.j ((2 * n + 1) * length image.words) reason status output variables (ready end_always) (gaps end_always)
          (record { ended = over; commits = commits_at; shown = f.shows.1 })
          (omega arith)

      keeps_uninterrupted : KeepsUninterrupted image gap input n reason status output variables
      keeps_uninterrupted = record {
        halts = λ k junk long.
            let soon = f.soon gap gap_long in
            let s = shows_in end_always k junk in
            elim s.late [
              | inl l ↦ (
                  let e = f.shows.0 in
                  let few = l.0 in
                  let before = e.before in
                  let going : ends r e.e ≡ false = l.1 e.e (omega arith) in
                  let bad : true ≡ false = sym e.over ∙ going in
                  cc)
              | inr d ↦ (
                d.1,
                shows_same image (powered image input k junk).mem (r f.j).mem reason status output variables p.select.written.form (laws.written.high image p.select.written)
                    (λ a out. s.same a out ∙ ap (λ (x : State). x.mem a) (one_end s.t d.0)) f.shows.1,
              )
            ];
        begins = λ k junk.
            let s = shows_in end_always k junk in
            subst (λ o. Begins o output) (sym (shown_in end_always k junk)) (begins_at s.t);
        commits = λ k junk.
            let s = shows_in end_always k junk in
            let few = commits_at s.t in
            let same = s.commits in
            omega arith;
      }

    -- the program is right with any fuel
    said_at : (n t : ℕ) (o : Outcome) → t ≤ n → Shown n o → Begins (output_at t) (output_in o)
    said_at n t (End reason status output variables) le f = begins_at n reason status output variables f t
    said_at n t (More output) le f = let few = f.shows.2 in subst (Begins (output_at t)) f.shows.1 (f.grows t (omega arith))
    said_at n t (Undef why) le f = absurd f.shows

    owes_on : (n t : ℕ) (o : Outcome) → t < n → Shown n o → Owes image.words (code_end image) r t
    owes_on n t (End reason status output variables) le f = owes_at n reason status output variables f t
    owes_on n t (More output) le f = let few = f.shows.2 in record { j = f.j; later = omega arith; owes = f.owes }
    owes_on n t (Undef why) le f = absurd f.shows

    ends_on : (n t : ℕ) (o : Outcome) → t < n → mean input n ≡ o → Shown n o → ends r t ≡ true → EndsOn (meaning_of source frames image) input
    ends_on n t (End reason status output variables) lt e f over = record { fuel = n; reason = reason; status = status; output = output; variables = variables; ends = e }
    ends_on n t (More output) lt e f over =
        let few = f.shows.2 in
        let bad : true ≡ false = sym over ∙ f.shows.0 t (omega arith) in
        cc
    ends_on n t (Undef why) lt e f over = absurd f.shows

    -- at the time that belongs to so much fuel
    output_then : (n : ℕ) (o : Outcome) (f : Shown n o) → output_at f.j ≡ output_in o
    output_then n (End reason status output variables) f = f.shows.1.same_output
    output_then n (More output) f = f.shows.1
    output_then n (Undef why) f = absurd f.shows

    module _ (right : IsRightFor (meaning_of source frames image) input) where
      right_always : OwesAlways image.words (code_end image) r
      right_always = laws.until.always image.words (code_end image) r (λ t. owes_on (t + 1) t (mean input (t + 1)) (omega arith) (shown (t + 1) (right (t + 1))))

      within : (t : ℕ) → Begins (output_at t) (output_in (mean input (t + 1)))
      within t = said_at (t + 1) t (mean input (t + 1)) (omega arith) (shown (t + 1) (right (t + 1)))

      shows_by : (n : ℕ) → ShowsBy image input ((2 * n + 2) * length image.words) (output_in (mean input n))
      shows_by n =
          let f = shown n (right n) in
          let stored = few_flips right_always f.j in
          let most = f.commits in
          record { time = f.j; commits = omega arith; shown = output_then n (mean input n) f }

      reaches_uninterrupted : ReachesUninterrupted (meaning_of source frames image) image gap input
      reaches_uninterrupted = record {
        reaches = λ n k junk long.
            let f = shown n (right n) in
            let soon = f.soon gap gap_long in
            let s = shows_in right_always k junk in
            let b : Begins (output_at f.j) (output_at s.t) = elim (order s.t f.j) [
              | inr le ↦ later_shown right_always f.j s.t le
              | inl lt ↦ elim s.late [
                | inl l ↦ (let few = l.0 in absurd (omega arith))
                | inr d ↦ begins_same (output_at f.j) (output_at s.t) (ap (λ (x : State). output_of image.form x.mem) (still r (is_run (memory_of image input)) s.t d.0 f.j (omega arith)))
              ]
            ] in
            (b.0, ap (λ z. z ++ b.0) (sym (output_then n (mean input n) f)) ∙ b.1 ∙ sym (shown_in right_always k junk));
      }

      keeps_on : KeepsOn (meaning_of source frames image) image gap input
      keeps_on = laws.run_kept (meaning_of source frames image) image input (code_end image) gap (ready right_always) (gaps right_always) (record {
        begins = λ t. (t + 1, within t);
        ended = λ t over. ends_on (t + 1) t (mean input (t + 1)) (omega arith) refl (shown (t + 1) (right (t + 1))) over;
        shows = shows_by;
      })

  pub composed : PassesKeep source frames image gap
  composed = record {
    keeps = record {
      ending = λ input fuel reason status output variables fits e.
          keeps_end input fits fuel reason status output variables (shown_at input fits fuel (End reason status output variables) tt e);
      going_on = λ input fits right. keeps_on input fits right;
    };
    ending = λ input fuel reason status output variables fits e.
        keeps_uninterrupted input fits fuel reason status output variables (shown_at input fits fuel (End reason status output variables) tt e);
    safe = λ input fits right. (right_always input fits right).safely;
    shows = λ input fits right. (right_always input fits right).shows;
    within = λ input fits right. within input fits right;
    survives = λ input fits right. survives input fits (right_always input fits right);
    reaching = λ input fits right. reaches_uninterrupted input fits right;
    small = small;
    frames_fit = λ i need e. frames_fit p.sectioned frames selectable.placed p.select.frames_are i need (ap (λ ns. slice_get ns i) needs_are ∙ e);
  }
