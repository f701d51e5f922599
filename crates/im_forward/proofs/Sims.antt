-- Forwarded code does what the code did, line by line but for copies that are left out.
use Rattle.std.proofs.Common.{◌≡◌, ◌⊎◌, inl, inr, ℕ, zero, suc, ◌+◌, ◌<◌, List, [], ◌∷◌, ◌++◌, Bool, true, false, Option, Some, None, refl, sym, ap, ◌∙◌, subst, append-nil, ◌≤◌, arith}
use Rattle.std.specs.Prelude.{slice_get, pos, nat_le, ◌==◌, ◌||◌, if◌then◌else◌}
use Rattle.std.specs.List.{AllZip}
use Rattle.std.proofs.lemmas.Bool.{eqb-true}
use Rattle.im_num.specs.declared.kind.Kind.{Kind}
use Rattle.im_store.specs.Checks.{Checked, Fine, Bad, then_}
use Rattle.im_store.specs.Objects.{Value, Number, Null, Unset}
use Rattle.im_store.specs.Access.{read_cell, write_cell}
use Rattle.im_store.specs.Outcomes.{Outcome}
use Rattle.im_serve.specs.Services.{serve}
use Rattle.im_block.specs.declared.code.Place.{Place}
use Rattle.im_block.specs.declared.code.Place.TheVariants.{Static, Local, Through}
use Rattle.im_block.specs.declared.code.Line.{Line}
use Rattle.im_block.specs.declared.code.Line.TheVariants.{Put, PutNull, Copy, Convert, Unary, Not, Compute, Compare, Move, Distance, Address, Read, Write, Reload, Spill, Cut, Call, Serve}
use Rattle.im_block.specs.declared.code.Exit.{Exit}
use Rattle.im_block.specs.declared.code.Exit.TheVariants.{Jump, Turn, Branch, Return}
use Rattle.im_block.specs.declared.code.Block.{Block}
use Rattle.im_block.specs.declared.unit.Function.{Function}
use Rattle.im_block.specs.declared.unit.Unit.{Unit as Code}
use Rattle.im_block.specs.Meaning.{Setting, Site, site_of, slot_site, Event, Reads, Tests, Serves, Frame, State, Next, Goes, Stops, Found, Left, Location, on_checked, takes, found, found_in, left_in, stored, kept, kept_by, with_rest, with_register, sets as sets_register, computes, reads, writes, activates, waiting, passed, enters, served, does, goes_to, back, leaves, step_at, step, number_of, as_number, as_truth, converted, computed, computed_one, condition, negation, compared, moved, distance_of, place_of, further, location_of, write_place, write_slot, slot_of, next_active, ended}
use Rattle.im_block.specs.Runs.{start, before, Over, goes_on, exec, Runs}
use Rattle.im_block.specs.Unitwise.{EachFunction}
use Rattle.im_block.proofs.Unitwise.{Both, zip_at}
use Rattle.im_alloc_placed.specs.Placeable.{first_free}
use Rattle.im_alloc_relation.specs.Live.{place_uses, uses, sets, exit_lives, lives}
use Rattle.im_forward.specs.Copies.{IsCopy}
use Rattle.im_forward.specs.Straight.{target, setting, Gives, PassesOn, Copies, Converts, IsPair as IsStraightPair}
use Rattle.im_forward.specs.Forward.{place_using, line_using, exit_using, MayUse, ForwardsLines, Ends, Kept, LeftOut, Straight, ForwardsBlock, ForwardsOnce}
use Rattle.im_forward.proofs.Setting.{sets_target, sets_setting, uses_setting, sets_passing, no_copy}
use Rattle.im_forward.proofs.Numbers.{IsNumber, fine_same, number_is, converts_to, unary_to, computes_to, truth_to}
use Rattle.im_forward.proofs.Same.{or_left, or_right, itself, HaveCopies, same_value, no_copies, copies_next, unset_copy, set_stays, set_here, set_alike, copy_set, used_lives, kept_lives, argument, passed_alike}

some_same : (a b : ℕ) → Some a ≡ Some b → a ≡ b
some_same a b e = cc

-- the frame with another rest of its block, another exit and other registers
abbrev with_new : Frame → List Line → Exit → (ℕ → Value) → Frame
with_new x rest leaves registers = record x { spot = record x.spot { rest = rest; exit = leaves }; registers = registers }

module _ (u w : Code) (g : Setting) (all : AllZip ForwardsOnce u.functions.items w.functions.items) where
  abbrev v : Code
  v = record u { functions = w.functions }

  both_at : (i : ℕ) → Both ForwardsOnce (slice_get u.functions.items i) (slice_get w.functions.items i)
  both_at i = zip_at ForwardsOnce u.functions.items w.functions.items i all

  -- an activation at work, and what is left of it in the new code: what lives there is the same
  record FrameOk (x : Frame) (rest : List Line) (leaves : Exit) (registers : ℕ → Value) : Type 0 where
    function : Function
    other : Function
    at : slice_get u.functions.items x.function ≡ Some function
    at_other : slice_get w.functions.items x.function ≡ Some other
    same : ForwardsOnce function other
    behind : List Line
    lines : ForwardsLines (first_free function) same.live x.spot.exit leaves behind x.spot.rest rest
    copies : HaveCopies behind x.registers
    alike : (q : ℕ) → lives same.live rest leaves q ≡ true → registers q ≡ x.registers q

  -- one that waits for a result: the same, but for the register that takes it, which is no copy
  record WaitOk (x y : Frame) : Type 0 where
    rest : List Line
    leaving : Exit
    registers : ℕ → Value
    is : y ≡ with_new x rest leaving registers
    function : Function
    other : Function
    at : slice_get u.functions.items x.function ≡ Some function
    at_other : slice_get w.functions.items x.function ≡ Some other
    same : ForwardsOnce function other
    behind : List Line
    lines : ForwardsLines (first_free function) same.live x.spot.exit leaving behind x.spot.rest rest
    copies : HaveCopies behind x.registers
    unset : (a b : ℕ) → IsCopy behind a b → ((a == x.to) ≡ false) × ((b == x.to) ≡ false)
    alike : (q : ℕ) → lives same.live rest leaving q ≡ true → (q == x.to) ≡ false → registers q ≡ x.registers q

  abbrev AllWait : List Frame → List Frame → Type 0
  AllWait [] [] = Unit {0}
  AllWait [] (y ∷ ys) = ⊥
  AllWait (x ∷ xs) [] = ⊥
  AllWait (x ∷ xs) (y ∷ ys) = WaitOk x y × AllWait xs ys

  abbrev twin : State → List Line → Exit → (ℕ → Value) → List Frame → State
  twin s rest leaves registers callers = record s { frame = with_new s.frame rest leaves registers; callers = callers }

  record Twin (s t : State) : Type 0 where
    rest : List Line
    leaving : Exit
    registers : ℕ → Value
    callers : List Frame
    is : t ≡ twin s rest leaving registers callers
    ok : FrameOk s.frame rest leaving registers
    waits : AllWait s.callers callers

  abbrev NextSim : Next → Next → Type 0
  NextSim (Stops o m) (Stops p n) = (p ≡ o) × (n ≡ m)
  NextSim (Stops o m) (Goes t n) = ⊥
  NextSim (Goes s m) (Goes t n) = Twin s t × (n ≡ m)
  NextSim (Goes s m) (Stops p n) = ⊥

  -- two steps of the old code, of which the second does nothing that is seen, and one of the new code
  record IsTwo (x y : Next) : Type 0 where
    middle : State
    events : List Event
    goes : x ≡ Goes middle events
    then_is : State
    goes_on : step u g middle ≡ Goes then_is []
    after : State
    after_goes : y ≡ Goes after events
    same : Twin then_is after

  abbrev Follows : Next → Next → Type 0
  Follows x y = NextSim x y ⊎ IsTwo x y

  on_sim : {A : Type 0} (c : Checked A) (f h : A → Next) → ((a : A) → NextSim (f a) (h a)) → NextSim (on_checked c f) (on_checked c h)
  on_sim (Fine a) f h k = k a
  on_sim (Bad why) f h k = (refl, refl)

  checked_sim : {A : Type 0} (c d : Checked A) (f h : A → Next) → d ≡ c → ((a : A) → NextSim (f a) (h a)) → NextSim (on_checked c f) (on_checked d h)
  checked_sim c d f h e k = subst (λ z. NextSim (on_checked c f) (on_checked z h)) (sym e) (on_sim c f h k)

  takes_sim : (fuel : ℕ) (output : List ℕ) (f h : ℕ → Next) → ((less : ℕ) → NextSim (f less) (h less)) → NextSim (takes fuel output f) (takes fuel output h)
  takes_sim zero output f h k = (refl, refl)
  takes_sim (suc less) output f h k = k less

  either_sim : (b : Bool) (x y x' y' : Next) → NextSim x x' → NextSim y y' → NextSim (if b then x else y) (if b then x' else y')
  either_sim true x y x' y' p q = p
  either_sim false x y x' y' p q = q

  block_sim : (free : ℕ) (live : ℕ → ℕ → Bool) (x y : Option Block) (p q : Block → Next) → Both (ForwardsBlock free live) x y → ((a b : Block) → x ≡ Some a → y ≡ Some b → ForwardsBlock free live a b → NextSim (p a) (q b)) → NextSim (on_checked (found x) p) (on_checked (found y) q)
  block_sim free live None None p q b h = (refl, refl)
  block_sim free live None (Some y) p q b h = absurd b
  block_sim free live (Some x) None p q b h = absurd b
  block_sim free live (Some x) (Some y) p q b h = h x y refl refl b

  function_sim : (x y : Option Function) (p q : Function → Next) → Both ForwardsOnce x y → ((a b : Function) → x ≡ Some a → y ≡ Some b → ForwardsOnce a b → NextSim (p a) (q b)) → NextSim (on_checked (found x) p) (on_checked (found y) q)
  function_sim None None p q b h = (refl, refl)
  function_sim None (Some y) p q b h = absurd b
  function_sim (Some x) None p q b h = absurd b
  function_sim (Some x) (Some y) p q b h = h x y refl refl b

  -- a new activation: all its registers are the same
  module _ (s : State) (callers : List Frame) (x y : ℕ → Value) (here : List Line) (leaving : Exit) (registers : ℕ → Value) (others : List Frame) where
    abbrev old_entry : ℕ → Function → ℕ → ℕ → ℕ → Next
    old_entry i f first count fuel =
        if nat_le (next_active u g i s).depth g.stack
        then on_checked (found (slice_get f.blocks.items f.entry))
        (λ block. activates i f (next_active u g i s) (passed f.first_parameter first count x) callers fuel block s)
        else Stops (ended u 1 (pos 0) s) (Tests ∷ [])

    abbrev new_entry : ℕ → Function → ℕ → ℕ → ℕ → Next
    new_entry i f first count fuel =
        if nat_le (next_active u g i s).depth g.stack
        then on_checked (found (slice_get f.blocks.items f.entry))
        (λ block. activates i f (next_active u g i s) (passed f.first_parameter first count y) others fuel block (twin s here leaving registers others))
        else Stops (ended v 1 (pos 0) (twin s here leaving registers others)) (Tests ∷ [])

    begun_sim : (i : ℕ) (f h : Function) (first count fuel : ℕ) (a b : Block) → slice_get u.functions.items i ≡ Some f → slice_get w.functions.items i ≡ Some h → (same : ForwardsOnce f h) → ((j : ℕ) → j < count → y (first + j) ≡ x (first + j)) → AllWait callers others → ForwardsBlock (first_free f) same.live a b → NextSim (activates i f (next_active u g i s) (passed f.first_parameter first count x) callers fuel a s) (activates i (record f { blocks = h.blocks }) (next_active u g i s) (passed f.first_parameter first count y) others fuel b (twin s here leaving registers others))
    begun_sim i f h first count fuel a b at at' same args waits p = (
      record {
        rest = b.lines.items;
        leaving = b.exit;
        registers = passed f.first_parameter first count y;
        callers = others;
        is = refl;
        ok = record {
          function = f;
          other = h;
          at = at;
          at_other = at';
          same = same;
          behind = [];
          lines = p.lines;
          copies = no_copies (passed f.first_parameter first count x);
          alike = λ q l. passed_alike f.first_parameter first count x y args q;
        };
        waits = waits;
      },
      refl,
    )

    enters_sim : (i first count fuel : ℕ) → ((j : ℕ) → j < count → y (first + j) ≡ x (first + j)) → AllWait callers others → NextSim (enters u g i first count x callers fuel s) (enters v g i first count y others fuel (twin s here leaving registers others))
    enters_sim i first count fuel args waits =
        function_sim (slice_get u.functions.items i) (slice_get w.functions.items i) _ _ (both_at i) (λ f h at at' same.
        subst (λ (z : Function). NextSim (old_entry i f first count fuel) (new_entry i z first count fuel)) (sym same.rest)
        (either_sim (nat_le (next_active u g i s).depth g.stack) _ _ _ _
        (block_sim (first_free f) same.live (slice_get f.blocks.items f.entry) (slice_get h.blocks.items f.entry) _ _ (zip_at (ForwardsBlock (first_free f) same.live) f.blocks.items h.blocks.items f.entry same.blocks)
        (λ a b there there' p. begun_sim i f h first count fuel a b at at' same args waits p))
        (refl, refl)))

  module _ (s : State) (here : List Line) (leaving : Exit) (registers : ℕ → Value) (callers : List Frame) (function other : Function) (at : slice_get u.functions.items s.frame.function ≡ Some function) (at_other : slice_get w.functions.items s.frame.function ≡ Some other) (same : ForwardsOnce function other) (behind : List Line) (copies : HaveCopies behind s.frame.registers) (waits : AllWait s.callers callers) where
    abbrev t : State
    t = twin s here leaving registers callers

    abbrev regs : ℕ → Value
    regs = s.frame.registers

    abbrev Remains : List Line → List Line → List Line → Type 0
    Remains gone old new = ForwardsLines (first_free function) same.live s.frame.spot.exit leaving gone old new

    -- calls leave a function's own registers
    kept_old : kept_by (slice_get u.functions.items s.frame.function) regs ≡ regs
    kept_old = ap (λ o. kept_by o regs) at ∙ ap (λ k. kept k regs) same.virtual

    kept_new : kept_by (slice_get w.functions.items s.frame.function) registers ≡ registers
    kept_new = ap (λ o. kept_by o registers) at_other ∙ ap (λ (f : Function). kept f.registers registers) same.rest ∙ ap (λ k. kept k registers) same.virtual

    -- what lives before a line lives here
    abbrev Alike : List Line → Type 0
    Alike lines = (q : ℕ) → lives same.live lines leaving q ≡ true → registers q ≡ regs q

    -- a line of the old code, and the same of the new code
    module _ (x y : Line) (old new : List Line) (left : Remains (x ∷ behind) old new) (alike : Alike (y ∷ new)) where
      set_ok : (to : ℕ) (value : Value) → ((q : ℕ) → sets x q ≡ (q == to)) → ((q : ℕ) → sets y q ≡ (q == to)) → ((a b : ℕ) → x ≡ Copy a b → (a ≡ b → ⊥) → with_register regs to value a ≡ with_register regs to value b) → FrameOk (record (with_rest s.frame old) { registers = with_register regs to value }) new leaving (with_register registers to value)
      set_ok to value sx sy c = record {
        function = function;
        other = other;
        at = at;
        at_other = at_other;
        same = same;
        behind = x ∷ behind;
        lines = left;
        copies = copies_next x behind regs (with_register regs to value) copies (λ q e. set_stays regs to value q (sym (sx q) ∙ e)) c;
        alike = λ q l. set_alike registers regs to value q (λ ne. alike q (kept_lives same.live y new leaving q (sy q ∙ ne) l));
      }

      sets_sim : (to : ℕ) (value : Value) (m : List Event) → ((q : ℕ) → sets x q ≡ (q == to)) → ((q : ℕ) → sets y q ≡ (q == to)) → ((a b : ℕ) → x ≡ Copy a b → (a ≡ b → ⊥) → with_register regs to value a ≡ with_register regs to value b) → NextSim (sets_register to value old s m) (sets_register to value new t m)
      sets_sim to value m sx sy c = (
        record {
          rest = new;
          leaving = leaving;
          registers = with_register registers to value;
          callers = callers;
          is = refl;
          ok = set_ok to value sx sy c;
          waits = waits;
        },
        refl,
      )

      computes_sim : (to : ℕ) (c d : Checked Value) → d ≡ c → ((q : ℕ) → sets x q ≡ (q == to)) → ((q : ℕ) → sets y q ≡ (q == to)) → ((a b : ℕ) → x ≡ Copy a b → ⊥) → NextSim (computes to c old s) (computes to d new t)
      computes_sim to c d e sx sy none = checked_sim c d _ _ e (λ value. sets_sim to value [] sx sy (λ a b is. absurd (none a b is)))

      reads_sim : (to : ℕ) (site : Site) (c d : Checked Found) → d ≡ c → ((q : ℕ) → sets x q ≡ (q == to)) → ((q : ℕ) → sets y q ≡ (q == to)) → ((a b : ℕ) → x ≡ Copy a b → ⊥) → NextSim (reads to site c old s) (reads to site d new t)
      reads_sim to site c d e sx sy none =
          checked_sim c d _ _ e (λ f. sets_sim to f.value (Reads site s.frame.active f.at.object f.at.offset ∷ []) sx sy (λ a b is. absurd (none a b is)))

      -- a line that sets nothing
      idle_ok : ((q : ℕ) → sets y q ≡ false) → ((a b : ℕ) → x ≡ Copy a b → ⊥) → FrameOk (with_rest s.frame old) new leaving registers
      idle_ok sy none = record {
        function = function;
        other = other;
        at = at;
        at_other = at_other;
        same = same;
        behind = x ∷ behind;
        lines = left;
        copies = copies_next x behind regs regs copies (λ q e. refl) (λ a b is ne. absurd (none a b is));
        alike = λ q l. alike q (kept_lives same.live y new leaving q (sy q) l);
      }

      writes_sim : (site : Site) (c d : Checked Left) → d ≡ c → ((q : ℕ) → sets y q ≡ false) → ((a b : ℕ) → x ≡ Copy a b → ⊥) → NextSim (writes site c old s) (writes site d new t)
      writes_sim site c d e sy none =
          checked_sim c d _ _ e (λ l. (
            record {
              rest = new;
              leaving = leaving;
              registers = registers;
              callers = callers;
              is = refl;
              ok = idle_ok sy none;
              waits = waits;
            },
            refl,
          ))

      -- built-in functions
      served_sim : (to : ℕ) (value : Value) (input output : List ℕ) (fuel : ℕ) → ((q : ℕ) → sets x q ≡ (q == to)) → ((q : ℕ) → sets y q ≡ (q == to)) → ((a b : ℕ) → x ≡ Copy a b → ⊥) → NextSim (served u g to value old input output fuel s) (served v g to value new input output fuel t)
      served_sim to value input output fuel sx sy none =
          subst (λ (z : ℕ → Value). NextSim (Goes (record s { frame = record (with_rest s.frame old) { registers = with_register z to value }; input = input; output = output; fuel = fuel }) (Serves ∷ [])) (served v g to value new input output fuel t)) (sym kept_old)
          (subst (λ (z : ℕ → Value). NextSim (Goes (record s { frame = record (with_rest s.frame old) { registers = with_register regs to value }; input = input; output = output; fuel = fuel }) (Serves ∷ [])) (Goes (record t { frame = record (with_rest t.frame new) { registers = with_register z to value }; input = input; output = output; fuel = fuel }) (Serves ∷ []))) (sym kept_new) (
            record {
              rest = new;
              leaving = leaving;
              registers = with_register registers to value;
              callers = callers;
              is = refl;
              ok = set_ok to value sx sy (λ a b is. absurd (none a b is));
              waits = waits;
            },
            refl,
          ))

      -- a caller
      wait_ok : (to : ℕ) → ((q : ℕ) → sets x q ≡ (q == to)) → ((q : ℕ) → sets y q ≡ (q == to)) → ((a b : ℕ) → x ≡ Copy a b → ⊥) → WaitOk (waiting u g s.frame to old) (waiting v g t.frame to new)
      wait_ok to sx sy none = record {
        rest = new;
        leaving = leaving;
        registers = kept_by (slice_get w.functions.items s.frame.function) registers;
        is = refl;
        function = function;
        other = other;
        at = at;
        at_other = at_other;
        same = same;
        behind = x ∷ behind;
        lines = left;
        copies = copies_next x behind regs (kept_by (slice_get u.functions.items s.frame.function) regs) copies (λ q e. ap (λ (z : ℕ → Value). z q) kept_old) (λ a b is ne. absurd (none a b is));
        unset = λ a b p. (let k = unset_copy x behind a b p none in (sym (sx a) ∙ k.0, sym (sx b) ∙ k.1));
        alike = λ q l ne. ap (λ (z : ℕ → Value). z q) kept_new ∙ alike q (kept_lives same.live y new leaving q (sy q ∙ ne) l) ∙ ap (λ (z : ℕ → Value). z q) (sym kept_old);
      }

    -- ---- the lines

    module _ (instead : ℕ → ℕ) (may : MayUse (first_free function) behind instead) where
      -- what the new line uses has the value of what the old one uses
      used : (y : Line) (new : List Line) → Alike (y ∷ new) → (q : ℕ) → uses y (instead q) ≡ true → registers (instead q) ≡ regs q
      used y new alike q e = alike (instead q) (used_lives same.live y new leaving (instead q) e) ∙ same_value behind q (instead q) (may.same q) regs copies

      place_same : (place : Place) → ((q : ℕ) → place_uses (place_using instead place) (instead q) ≡ true → registers (instead q) ≡ regs q) → place_of (place_using instead place) s.frame.active registers s.store ≡ place_of place s.frame.active regs s.store
      place_same (Static object offset) h = refl
      place_same (Local object offset) h = refl
      place_same (Through pointer offset) h = ap (λ z. further s.store offset z) (h pointer (itself (instead pointer)))

      copy_sim : (to from : ℕ) (old new : List Line) → Remains (Copy to from ∷ behind) old new → Alike (Copy to (instead from) ∷ new) → NextSim (does u g (Copy to from) old s) (does v g (Copy to (instead from)) new t)
      copy_sim to from old new left alike =
          subst (λ z. NextSim (sets_register to (regs from) old s []) (sets_register to z new t [])) (sym (used (Copy to (instead from)) new alike from (itself (instead from))))
          (sets_sim (Copy to from) (Copy to (instead from)) old new left alike to (regs from) [] (λ q. refl) (λ q. refl) (λ a b is ne. copied a b is ne))
        where
          copied : (a b : ℕ) → Copy to from ≡ Copy a b → (a ≡ b → ⊥) → with_register regs to (regs from) a ≡ with_register regs to (regs from) b
          copied a b is ne =
              let first : to ≡ a = cc in
              let second : from ≡ b = cc in
              let apart : to ≡ from → ⊥ = λ e. ne (sym first ∙ e ∙ second) in
              ap (with_register regs to (regs from)) (sym first) ∙ copy_set regs to from apart ∙ ap (with_register regs to (regs from)) second

      does_sim : (x : Line) (old new : List Line) → Remains (x ∷ behind) old new → Alike (line_using instead x ∷ new) → NextSim (does u g x old s) (does v g (line_using instead x) new t)
      does_sim (Put to z) old new left alike =
          computes_sim (Put to z) (Put to z) old new left alike to (Fine (Number z)) (Fine (Number z)) refl (λ q. refl) (λ q. refl) (λ a b is. cc)
      does_sim (PutNull to) old new left alike =
          computes_sim (PutNull to) (PutNull to) old new left alike to (Fine Null) (Fine Null) refl (λ q. refl) (λ q. refl) (λ a b is. cc)
      does_sim (Copy to from) old new left alike = copy_sim to from old new left alike
      does_sim (Convert to kind from) old new left alike =
          let y : Line = Convert to kind (instead from) in
          computes_sim (Convert to kind from) y old new left alike to _ _
          (ap (λ z. as_number (converted kind z)) (used y new alike from (itself (instead from)))) (λ q. refl) (λ q. refl) (λ a b is. cc)
      does_sim (Unary to op kind from) old new left alike =
          let y : Line = Unary to op kind (instead from) in
          computes_sim (Unary to op kind from) y old new left alike to _ _
          (ap (λ z. as_number (computed_one op kind z)) (used y new alike from (itself (instead from)))) (λ q. refl) (λ q. refl) (λ a b is. cc)
      does_sim (Not to from) old new left alike =
          let y : Line = Not to (instead from) in
          computes_sim (Not to from) y old new left alike to _ _
          (ap (λ z. as_truth (negation s.store z)) (used y new alike from (itself (instead from)))) (λ q. refl) (λ q. refl) (λ a b is. cc)
      does_sim (Compute to op kind left_ right_) old new left alike =
          let y : Line = Compute to op kind (instead left_) (instead right_) in
          let one = used y new alike left_ (or_left (instead left_ == instead left_) (instead left_ == instead right_) (itself (instead left_))) in
          let two = used y new alike right_ (or_right (instead right_ == instead left_) (instead right_ == instead right_) (itself (instead right_))) in
          computes_sim (Compute to op kind left_ right_) y old new left alike to _ _
          (ap (λ z. as_number (computed op kind z (registers (instead right_)))) one ∙ ap (λ z. as_number (computed op kind (regs left_) z)) two) (λ q. refl) (λ q. refl) (λ a b is. cc)
      does_sim (Compare to op kind left_ right_) old new left alike =
          let y : Line = Compare to op kind (instead left_) (instead right_) in
          let one = used y new alike left_ (or_left (instead left_ == instead left_) (instead left_ == instead right_) (itself (instead left_))) in
          let two = used y new alike right_ (or_right (instead right_ == instead left_) (instead right_ == instead right_) (itself (instead right_))) in
          computes_sim (Compare to op kind left_ right_) y old new left alike to _ _
          (ap (λ z. as_truth (compared s.store op kind z (registers (instead right_)))) one ∙ ap (λ z. as_truth (compared s.store op kind (regs left_) z)) two) (λ q. refl) (λ q. refl) (λ a b is. cc)
      does_sim (Move to size back pointer by_) old new left alike =
          let y : Line = Move to size back (instead pointer) (instead by_) in
          let one = used y new alike pointer (or_left (instead pointer == instead pointer) (instead pointer == instead by_) (itself (instead pointer))) in
          let two = used y new alike by_ (or_right (instead by_ == instead pointer) (instead by_ == instead by_) (itself (instead by_))) in
          computes_sim (Move to size back pointer by_) y old new left alike to _ _
          (ap (λ z. moved s.store size back z (registers (instead by_))) one ∙ ap (λ z. moved s.store size back (regs pointer) z) two) (λ q. refl) (λ q. refl) (λ a b is. cc)
      does_sim (Distance to size left_ right_) old new left alike =
          let y : Line = Distance to size (instead left_) (instead right_) in
          let one = used y new alike left_ (or_left (instead left_ == instead left_) (instead left_ == instead right_) (itself (instead left_))) in
          let two = used y new alike right_ (or_right (instead right_ == instead left_) (instead right_ == instead right_) (itself (instead right_))) in
          computes_sim (Distance to size left_ right_) y old new left alike to _ _
          (ap (λ z. as_number (distance_of s.store size z (registers (instead right_)))) one ∙ ap (λ z. as_number (distance_of s.store size (regs left_) z)) two) (λ q. refl) (λ q. refl) (λ a b is. cc)
      does_sim (Address to place) old new left alike =
          let y : Line = Address to (place_using instead place) in
          computes_sim (Address to place) y old new left alike to _ _ (place_same place (λ q e. used y new alike q e)) (λ q. refl) (λ q. refl) (λ a b is. cc)
      does_sim (Read to place kind access) old new left alike =
          let y : Line = Read to (place_using instead place) kind access in
          reads_sim (Read to place kind access) y old new left alike to (site_of access kind) _ _
          (ap (λ z. then_ (then_ z location_of) (λ (l : Location). found_in l (read_cell s.store l.object l.offset kind))) (place_same place (λ q e. used y new alike q e)))
          (λ q. refl) (λ q. refl) (λ a b is. cc)
      does_sim (Write place kind from access) old new left alike =
          let y : Line = Write (place_using instead place) kind (instead from) access in
          let one = place_same place (λ q e. used y new alike q (or_left (place_uses (place_using instead place) (instead q)) (instead q == instead from) e)) in
          let two = used y new alike from (or_right (place_uses (place_using instead place) (instead from)) (instead from == instead from) (itself (instead from))) in
          writes_sim (Write place kind from access) y old new left alike (site_of access kind) _ _
          (ap (λ z. write_place (place_using instead place) kind z s.frame.active registers s.store) two
          ∙ ap (λ z. then_ (then_ z location_of) (λ (l : Location). then_ (stored kind (regs from)) (λ taken. left_in l (write_cell s.store l.object l.offset kind taken)))) one)
          (λ q. refl) (λ a b is. cc)
      does_sim (Reload to slot access) old new left alike =
          reads_sim (Reload to slot access) (Reload to slot access) old new left alike to (slot_site access slot) _ _ refl (λ q. refl) (λ q. refl) (λ a b is. cc)
      does_sim (Spill slot from access) old new left alike =
          let y : Line = Spill slot (instead from) access in
          writes_sim (Spill slot from access) y old new left alike (slot_site access slot) _ _
          (ap (λ z. write_slot (slot_of slot s.frame.active) z s.store) (used y new alike from (itself (instead from)))) (λ q. refl) (λ a b is. cc)
      does_sim (Cut cause) old new left alike = (
        record {
          rest = new;
          leaving = leaving;
          registers = registers;
          callers = callers;
          is = refl;
          ok = idle_ok (Cut cause) (Cut cause) old new left alike (λ q. refl) (λ a b is. cc);
          waits = waits;
        },
        refl,
      )
      does_sim (Call to i first count) old new left alike =
          takes_sim s.fuel s.output _ _ (λ fuel.
          enters_sim s (waiting u g s.frame to old ∷ s.callers) regs registers here leaving registers (waiting v g t.frame to new ∷ callers) i first count fuel
          (λ j lt. alike (first + j) (used_lives same.live (Call to i first count) new leaving (first + j) (argument first count j lt)))
          (wait_ok (Call to i first count) (Call to i first count) old new left alike to (λ q. refl) (λ q. refl) (λ a b is. cc), waits))
      does_sim (Serve to service None) old new left alike =
          takes_sim s.fuel s.output _ _ (λ fuel.
          let reply = serve service g.capacity (pos 0) s.input s.output in
          served_sim (Serve to service None) (Serve to service None) old new left alike to (Number reply.value) reply.input reply.output fuel (λ q. refl) (λ q. refl) (λ a b is. cc))
      does_sim (Serve to service (Some from)) old new left alike =
          let y : Line = Serve to service (Some (instead from)) in
          takes_sim s.fuel s.output _ _ (λ fuel.
          checked_sim (number_of (regs from)) (number_of (registers (instead from))) _ _ (ap number_of (used y new alike from (itself (instead from)))) (λ z.
          let reply = serve service g.capacity z s.input s.output in
          served_sim (Serve to service (Some from)) y old new left alike to (Number reply.value) reply.input reply.output fuel (λ q. refl) (λ q. refl) (λ a b is. cc)))

    -- ---- a line, and the next, which passes on what it set

    module _ (y : Line) (to v' : ℕ) (old new : List Line) (x : Line) (pair : IsStraightPair same.live leaving new x y to v') (left : Remains (y ∷ x ∷ behind) old new) (alike : Alike (setting v' x ∷ new)) where
      -- between the two, and behind them
      abbrev between : Value → State
      between value = record s { frame = record (with_rest s.frame (y ∷ old)) { registers = with_register regs to value } }

      abbrev after : Value → State
      after value = record s { frame = record (with_rest s.frame old) { registers = with_register (with_register regs to value) v' value } }

      set_both : (value : Value) → with_register (with_register regs to value) v' value to ≡ value
      set_both value = by (to == v') refl
        where
          by : (c : Bool) → (to == v') ≡ c → (if c then value else with_register regs to value to) ≡ value
          by true e = refl
          by false e = set_here regs to value

      passes_on : (z : Line) → PassesOn x to v' z → (value : Value) → ((kind : Kind) → Gives kind x → IsNumber kind value) → does u g z old (between value) ≡ Goes (after value) []
      passes_on z Copies value h =
          ap (λ (k : Value). Goes (record s { frame = record (with_rest s.frame old) { registers = with_register (with_register regs to value) v' k } }) []) (set_here regs to value)
      passes_on z (Converts kind gives) value h =
          ap (λ (c : Checked Value). computes v' c old (between value)) (number_is kind (with_register regs to value to) value (set_here regs to value) (h kind gives))

      -- the register that is passed on lives no more
      unpassed : (q : ℕ) → lives same.live new leaving q ≡ true → (q == v') ≡ false → (c : Bool) → (q == to) ≡ c → (q == to) ≡ false
      unpassed q l unset false e = e
      unpassed q l unset true e = absurd (
          let is : q ≡ to = eqb-true q to e in
          elim pair.dies [
            | inl here ↦ (let at_v : (q == v') ≡ true = ap (λ z. z == v') (is ∙ here) ∙ itself v' in cc)
            | inr dead ↦ (let no : lives same.live new leaving q ≡ false = subst (λ z. lives same.live new leaving z ≡ false) (sym is) dead in cc)
          ]
          )

      both_alike : (value : Value) (q : ℕ) → lives same.live new leaving q ≡ true → with_register registers v' value q ≡ with_register (with_register regs to value) v' value q
      both_alike value q l = set_alike registers (with_register regs to value) v' value q (λ unset.
          alike q (kept_lives same.live (setting v' x) new leaving q (sets_setting to v' x pair.sets q ∙ unset) l)
          ∙ sym (set_stays regs to value q (unpassed q l unset (q == to) refl)))

      passing_copies : (z : Line) → PassesOn x to v' z → (value : Value) (a b : ℕ) → z ≡ Copy a b → with_register (with_register regs to value) v' value a ≡ with_register (with_register regs to value) v' value b
      passing_copies z Copies value a b is =
          let first : v' ≡ a = cc in
          let second : to ≡ b = cc in
          let r : ℕ → Value = with_register (with_register regs to value) v' value in
          ap r (sym first) ∙ set_here (with_register regs to value) v' value ∙ sym (set_both value) ∙ ap r second
      passing_copies z (Converts kind gives) value a b is = absurd cc

      both_ok : (value : Value) → FrameOk (after value).frame new leaving (with_register registers v' value)
      both_ok value = record {
        function = function;
        other = other;
        at = at;
        at_other = at_other;
        same = same;
        behind = y ∷ x ∷ behind;
        lines = left;
        copies = copies_next y (x ∷ behind) (with_register regs to value) (with_register (with_register regs to value) v' value)
            (copies_next x behind regs (with_register regs to value) copies (λ q e. set_stays regs to value q (sym (sets_target to x pair.sets q) ∙ e)) (λ a b is ne. absurd (no_copy to x pair.sets a b is)))
            (λ q e. set_stays (with_register regs to value) v' value q (sym (sets_passing x to v' y pair.passes q) ∙ e))
            (λ a b is ne. passing_copies y pair.passes value a b is);
        alike = λ q l. both_alike value q l;
      }

      two : (value : Value) (m : List Event) → ((kind : Kind) → Gives kind x → IsNumber kind value) → Follows (sets_register to value (y ∷ old) s m) (sets_register v' value new t m)
      two value m h = inr (record {
        middle = between value;
        events = m;
        goes = refl;
        then_is = after value;
        goes_on = passes_on y pair.passes value h;
        after = record t { frame = record (with_rest t.frame new) { registers = with_register registers v' value } };
        after_goes = refl;
        same = record {
          rest = new;
          leaving = leaving;
          registers = with_register registers v' value;
          callers = callers;
          is = refl;
          ok = both_ok value;
          waits = waits;
        };
      })

      target_is : (r : ℕ) → target x ≡ Some r → to ≡ r
      target_is r e = some_same to r (sym pair.sets ∙ e)

      computes_two : (r : ℕ) → target x ≡ Some r → (c d : Checked Value) → d ≡ c → ((kind : Kind) (value : Value) → Gives kind x → c ≡ Fine value → IsNumber kind value) → Follows (computes r c (y ∷ old) s) (computes v' d new t)
      computes_two r here c d e h =
          subst (λ k. Follows (computes k c (y ∷ old) s) (computes v' d new t)) (target_is r here)
          (subst (λ z. Follows (computes to c (y ∷ old) s) (computes v' z new t)) (sym e) (one c h))
        where
          one : (c : Checked Value) → ((kind : Kind) (value : Value) → Gives kind x → c ≡ Fine value → IsNumber kind value) → Follows (computes to c (y ∷ old) s) (computes v' c new t)
          one (Fine value) h = two value [] (λ kind gives. h kind value gives refl)
          one (Bad why) h = inl (refl, refl)

      reads_two : (r : ℕ) → target x ≡ Some r → (site : Site) (c d : Checked Found) → d ≡ c → ((kind : Kind) → Gives kind x → ⊥) → Follows (reads r site c (y ∷ old) s) (reads v' site d new t)
      reads_two r here site c d e none =
          subst (λ k. Follows (reads k site c (y ∷ old) s) (reads v' site d new t)) (target_is r here)
          (subst (λ z. Follows (reads to site c (y ∷ old) s) (reads v' site z new t)) (sym e) (one c))
        where
          one : (c : Checked Found) → Follows (reads to site c (y ∷ old) s) (reads v' site c new t)
          one (Fine f) = two f.value (Reads site s.frame.active f.at.object f.at.offset ∷ []) (λ kind gives. absurd (none kind gives))
          one (Bad why) = inl (refl, refl)

      here_used : (q : ℕ) → uses x q ≡ true → registers q ≡ regs q
      here_used q e = alike q (used_lives same.live (setting v' x) new leaving q (uses_setting v' x q ∙ e))

      place_alike : (place : Place) → ((q : ℕ) → place_uses place q ≡ true → registers q ≡ regs q) → place_of place s.frame.active registers s.store ≡ place_of place s.frame.active regs s.store
      place_alike (Static object offset) h = refl
      place_alike (Local object offset) h = refl
      place_alike (Through pointer offset) h = ap (λ z. further s.store offset z) (h pointer (itself pointer))

    -- the lines whose value goes straight on
    straight_sim : (x y : Line) (to v' : ℕ) (old new : List Line) → IsStraightPair same.live leaving new x y to v' → Remains (y ∷ x ∷ behind) old new → Alike (setting v' x ∷ new) → Follows (does u g x (y ∷ old) s) (does v g (setting v' x) new t)
    straight_sim (Put r z) y to v' old new pair left alike =
        computes_two y to v' old new (Put r z) pair left alike r refl (Fine (Number z)) (Fine (Number z)) (refl) (λ kind value gives e. record { number = z; is = sym (fine_same (Number z) value e); of = gives })
    straight_sim (PutNull r) y to v' old new pair left alike =
        computes_two y to v' old new (PutNull r) pair left alike r refl (Fine Null) (Fine Null) (refl) (λ kind value gives e. absurd gives)
    straight_sim (Convert r kind from) y to v' old new pair left alike =
        let used : (q : ℕ) → uses (Convert r kind from) q ≡ true → registers q ≡ regs q = here_used y to v' old new (Convert r kind from) pair left alike in
        computes_two y to v' old new (Convert r kind from) pair left alike r refl _ _ (ap (λ z. as_number (converted kind z)) (used from (itself from))) (λ k value gives e. converts_to k kind (regs from) value gives e)
    straight_sim (Unary r op kind from) y to v' old new pair left alike =
        let used : (q : ℕ) → uses (Unary r op kind from) q ≡ true → registers q ≡ regs q = here_used y to v' old new (Unary r op kind from) pair left alike in
        computes_two y to v' old new (Unary r op kind from) pair left alike r refl _ _ (ap (λ z. as_number (computed_one op kind z)) (used from (itself from))) (λ k value gives e. unary_to k op kind (regs from) value gives e)
    straight_sim (Not r from) y to v' old new pair left alike =
        let used : (q : ℕ) → uses (Not r from) q ≡ true → registers q ≡ regs q = here_used y to v' old new (Not r from) pair left alike in
        computes_two y to v' old new (Not r from) pair left alike r refl _ _ (ap (λ z. as_truth (negation s.store z)) (used from (itself from))) (λ k value gives e. truth_to k (negation s.store (regs from)) value e)
    straight_sim (Compute r op kind left_ right_) y to v' old new pair left alike =
        let used : (q : ℕ) → uses (Compute r op kind left_ right_) q ≡ true → registers q ≡ regs q = here_used y to v' old new (Compute r op kind left_ right_) pair left alike in
        computes_two y to v' old new (Compute r op kind left_ right_) pair left alike r refl _ _ (ap (λ z. as_number (computed op kind z (registers right_))) (used left_ (or_left (left_ == left_) (left_ == right_) (itself left_))) ∙ ap (λ z. as_number (computed op kind (regs left_) z)) (used right_ (or_right (right_ == left_) (right_ == right_) (itself right_)))) (λ k value gives e. computes_to k op kind (regs left_) (regs right_) value gives e)
    straight_sim (Compare r op kind left_ right_) y to v' old new pair left alike =
        let used : (q : ℕ) → uses (Compare r op kind left_ right_) q ≡ true → registers q ≡ regs q = here_used y to v' old new (Compare r op kind left_ right_) pair left alike in
        computes_two y to v' old new (Compare r op kind left_ right_) pair left alike r refl _ _ (ap (λ z. as_truth (compared s.store op kind z (registers right_))) (used left_ (or_left (left_ == left_) (left_ == right_) (itself left_))) ∙ ap (λ z. as_truth (compared s.store op kind (regs left_) z)) (used right_ (or_right (right_ == left_) (right_ == right_) (itself right_)))) (λ k value gives e. truth_to k (compared s.store op kind (regs left_) (regs right_)) value e)
    straight_sim (Move r size back pointer by_) y to v' old new pair left alike =
        let used : (q : ℕ) → uses (Move r size back pointer by_) q ≡ true → registers q ≡ regs q = here_used y to v' old new (Move r size back pointer by_) pair left alike in
        computes_two y to v' old new (Move r size back pointer by_) pair left alike r refl _ _ (ap (λ z. moved s.store size back z (registers by_)) (used pointer (or_left (pointer == pointer) (pointer == by_) (itself pointer))) ∙ ap (λ z. moved s.store size back (regs pointer) z) (used by_ (or_right (by_ == pointer) (by_ == by_) (itself by_)))) (λ kind value gives e. absurd gives)
    straight_sim (Distance r size left_ right_) y to v' old new pair left alike =
        let used : (q : ℕ) → uses (Distance r size left_ right_) q ≡ true → registers q ≡ regs q = here_used y to v' old new (Distance r size left_ right_) pair left alike in
        computes_two y to v' old new (Distance r size left_ right_) pair left alike r refl _ _ (ap (λ z. as_number (distance_of s.store size z (registers right_))) (used left_ (or_left (left_ == left_) (left_ == right_) (itself left_))) ∙ ap (λ z. as_number (distance_of s.store size (regs left_) z)) (used right_ (or_right (right_ == left_) (right_ == right_) (itself right_)))) (λ kind value gives e. absurd gives)
    straight_sim (Address r place) y to v' old new pair left alike =
        let used : (q : ℕ) → uses (Address r place) q ≡ true → registers q ≡ regs q = here_used y to v' old new (Address r place) pair left alike in
        computes_two y to v' old new (Address r place) pair left alike r refl _ _ (place_alike y to v' old new (Address r place) pair left alike place used) (λ kind value gives e. absurd gives)
    straight_sim (Read r place kind access) y to v' old new pair left alike =
        let used : (q : ℕ) → uses (Read r place kind access) q ≡ true → registers q ≡ regs q = here_used y to v' old new (Read r place kind access) pair left alike in
        reads_two y to v' old new (Read r place kind access) pair left alike r refl (site_of access kind) _ _ (ap (λ z. then_ (then_ z location_of) (λ (l : Location). found_in l (read_cell s.store l.object l.offset kind))) (place_alike y to v' old new (Read r place kind access) pair left alike place used)) (λ k gives. absurd gives)
    straight_sim (Copy r from) y to v' old new pair left alike = absurd (let none = pair.sets in cc)
    straight_sim (Write place kind from access) y to v' old new pair left alike = absurd (let none = pair.sets in cc)
    straight_sim (Reload r slot access) y to v' old new pair left alike = absurd (let none = pair.sets in cc)
    straight_sim (Spill slot from access) y to v' old new pair left alike = absurd (let none = pair.sets in cc)
    straight_sim (Cut cause) y to v' old new pair left alike = absurd (let none = pair.sets in cc)
    straight_sim (Call r i first count) y to v' old new pair left alike = absurd (let none = pair.sets in cc)
    straight_sim (Serve r service None) y to v' old new pair left alike = absurd (let none = pair.sets in cc)
    straight_sim (Serve r service (Some from)) y to v' old new pair left alike = absurd (let none = pair.sets in cc)

    -- ---- the exit

    to_sim : (b fuel : ℕ) → ((q : ℕ) → same.live b q ≡ true → registers q ≡ regs q) → NextSim (goes_to u g b fuel s) (goes_to v g b fuel t)
    to_sim b fuel alike =
        subst (λ o. NextSim (on_checked (found o) old_to) (goes_to v g b fuel t)) (sym at)
        (subst (λ o. NextSim (old_to function) (on_checked (found o) new_to)) (sym at_other)
        (block_sim (first_free function) same.live (slice_get function.blocks.items b) (slice_get other.blocks.items b) _ _ (zip_at (ForwardsBlock (first_free function) same.live) function.blocks.items other.blocks.items b same.blocks)
        (λ x y there there' p. (
          record {
            rest = y.lines.items;
            leaving = y.exit;
            registers = registers;
            callers = callers;
            is = refl;
            ok = record {
              function = function;
              other = other;
              at = at;
              at_other = at_other;
              same = same;
              behind = [];
              lines = p.lines;
              copies = no_copies regs;
              alike = λ q l. alike q (same.closed b y q there' l);
            };
            waits = waits;
          },
          refl,
        ))))
      where
        old_to : Function → Next
        old_to f =
            on_checked (found (slice_get f.blocks.items b)) (λ block.
            Goes (record s { frame = record s.frame { spot = record { block = b; rest = block.lines.items; exit = block.exit } }; fuel = fuel }) [])

        new_to : Function → Next
        new_to f =
            on_checked (found (slice_get f.blocks.items b)) (λ block.
            Goes (record t { frame = record t.frame { spot = record { block = b; rest = block.lines.items; exit = block.exit } }; fuel = fuel }) [])

    back_sim : (x : Value) (old new : List Frame) → AllWait old new → NextSim (back u g old x s) (back v g new x t)
    back_sim x [] [] h = checked_sim (number_of x) (number_of x) _ _ refl (λ z. (refl, refl))
    back_sim x [] (y ∷ ys) h = absurd h
    back_sim x (c ∷ cs) [] h = absurd h
    back_sim x (c ∷ cs) (y ∷ ys) h =
        let f = h.0 in
        subst (λ (z : Frame). NextSim (back u g (c ∷ cs) x s) (back v g (z ∷ ys) x t)) (sym f.is) (
          record {
            rest = f.rest;
            leaving = f.leaving;
            registers = with_register f.registers c.to x;
            callers = ys;
            is = refl;
            ok = record {
              function = f.function;
              other = f.other;
              at = f.at;
              at_other = f.at_other;
              same = f.same;
              behind = f.behind;
              lines = f.lines;
              copies = λ a b p. (let k = f.unset a b p in set_stays c.registers c.to x a k.0 ∙ f.copies a b p ∙ sym (set_stays c.registers c.to x b k.1));
              alike = λ q l. set_alike f.registers c.registers c.to x q (λ ne. f.alike q l ne);
            };
            waits = h.1;
          },
          refl,
        )

    module _ (instead : ℕ → ℕ) (may : MayUse (first_free function) behind instead) where
      abbrev AlikeAt : Exit → Type 0
      AlikeAt exit = (q : ℕ) → exit_lives same.live exit q ≡ true → registers q ≡ regs q

      leaves_sim : (exit : Exit) → AlikeAt (exit_using instead exit) → NextSim (leaves u g exit s) (leaves v g (exit_using instead exit) t)
      leaves_sim (Jump b) alike = to_sim b s.fuel alike
      leaves_sim (Turn b) alike = takes_sim s.fuel s.output _ _ (λ fuel. to_sim b fuel alike)
      leaves_sim (Branch on a b) alike =
          checked_sim (condition s.store (regs on)) (condition s.store (registers (instead on))) _ _
          (ap (condition s.store) (alike (instead on) (or_left (instead on == instead on || same.live a (instead on)) (same.live b (instead on)) (or_left (instead on == instead on) (same.live a (instead on)) (itself (instead on))))
          ∙ same_value behind on (instead on) (may.same on) regs copies))
          (λ holds. to_sim (if holds then a else b) s.fuel (taken holds))
        where
          taken : (holds : Bool) (q : ℕ) → same.live (if holds then a else b) q ≡ true → registers q ≡ regs q
          taken true q l = alike q (or_left (q == instead on || same.live a q) (same.live b q) (or_right (q == instead on) (same.live a q) l))
          taken false q l = alike q (or_right (q == instead on || same.live a q) (same.live b q) l)
      leaves_sim (Return None) alike = back_sim Unset s.callers callers waits
      leaves_sim (Return (Some r)) alike =
          subst (λ z. NextSim (back u g s.callers (regs r) s) (back v g callers z t)) (sym (alike (instead r) (itself (instead r)) ∙ same_value behind r (instead r) (may.same r) regs copies))
          (back_sim (regs r) s.callers callers waits)

  -- ---- a step of the old code is one of the new code, or none

  record IsIdle (s t : State) : Type 0 where
    then_is : State
    goes : step u g s ≡ Goes then_is []
    same : Twin then_is t

  -- the new code's step; or none yet; or one for two
  abbrev Steps : State → State → Type 0
  Steps s t = Follows (step u g s) (step v g t) ⊎ IsIdle s t

  step_on : (f : Function) (live : ℕ → ℕ → Bool) (from to : Exit) (behind old new : List Line) → ForwardsLines (first_free f) live from to behind old new
      → (s : State) (registers : ℕ → Value) (callers : List Frame) (other : Function) → slice_get u.functions.items s.frame.function ≡ Some f → slice_get w.functions.items s.frame.function ≡ Some other → (same : ForwardsOnce f other) → live ≡ same.live → from ≡ s.frame.spot.exit → old ≡ s.frame.spot.rest → HaveCopies behind s.frame.registers → AllWait s.callers callers → ((q : ℕ) → lives live new to q ≡ true → registers q ≡ s.frame.registers q)
      → Steps s (twin s new to registers callers)
  step_on f live from to behind old new (Ends gone e) s registers callers other at at' same is_live is_exit is_rest copies waits alike =
      let one : (q : ℕ) → exit_lives same.live (exit_using e.instead from) q ≡ true → registers q ≡ s.frame.registers q = λ q l. alike q (subst (λ (z : ℕ → ℕ → Bool). exit_lives z to q ≡ true) (sym is_live) (subst (λ x. exit_lives same.live x q ≡ true) (sym e.exit) l)) in
      let sim : NextSim (leaves u g from s) (leaves v g (exit_using e.instead from) (twin s [] to registers callers)) = leaves_sim s [] to registers callers f other at at' same gone copies waits e.instead e.may from one in
      inl (inl (subst (λ lines. NextSim (step_at u g lines s) (leaves v g to (twin s [] to registers callers))) is_rest
      (subst (λ x. NextSim (leaves u g x s) (leaves v g to (twin s [] to registers callers))) is_exit
      (subst (λ x. NextSim (leaves u g from s) (leaves v g x (twin s [] to registers callers))) (sym e.exit) sim))))
  step_on f live from to behind old new (Kept gone rest rest' x y k left) s registers callers other at at' same is_live is_exit is_rest copies waits alike =
      let left' : ForwardsLines (first_free f) same.live s.frame.spot.exit to (x ∷ gone) rest rest' =
      subst (λ (z : ℕ → ℕ → Bool). ForwardsLines (first_free f) z s.frame.spot.exit to (x ∷ gone) rest rest') is_live (subst (λ z. ForwardsLines (first_free f) live z to (x ∷ gone) rest rest') is_exit left) in
      let alike' : (q : ℕ) → lives same.live (line_using k.instead x ∷ rest') to q ≡ true → registers q ≡ s.frame.registers q =
      λ q l. alike q (subst (λ (z : ℕ → ℕ → Bool). lives z (y ∷ rest') to q ≡ true) (sym is_live) (subst (λ z. lives same.live (z ∷ rest') to q ≡ true) (sym k.line) l)) in
      let sim : NextSim (does u g x rest s) (does v g (line_using k.instead x) rest' (twin s (y ∷ rest') to registers callers)) = does_sim s (y ∷ rest') to registers callers f other at at' same gone copies waits k.instead k.may x rest rest' left' alike' in
      inl (inl (subst (λ lines. NextSim (step_at u g lines s) (does v g y rest' (twin s (y ∷ rest') to registers callers))) is_rest
      (subst (λ z. NextSim (does u g x rest s) (does v g z rest' (twin s (y ∷ rest') to registers callers))) (sym k.line) sim)))
  step_on f live from to behind old new (Straight gone rest rest' x y r v' pair left) s registers callers other at at' same is_live is_exit is_rest copies waits alike =
      let left' : ForwardsLines (first_free f) same.live s.frame.spot.exit to (y ∷ x ∷ gone) rest rest' =
      subst (λ (z : ℕ → ℕ → Bool). ForwardsLines (first_free f) z s.frame.spot.exit to (y ∷ x ∷ gone) rest rest') is_live (subst (λ z. ForwardsLines (first_free f) live z to (y ∷ x ∷ gone) rest rest') is_exit left) in
      let pair' : IsStraightPair same.live to rest' x y r v' = subst (λ (z : ℕ → ℕ → Bool). IsStraightPair z to rest' x y r v') is_live pair in
      let alike' : (q : ℕ) → lives same.live (setting v' x ∷ rest') to q ≡ true → registers q ≡ s.frame.registers q =
      λ q l. alike q (subst (λ (z : ℕ → ℕ → Bool). lives z (setting v' x ∷ rest') to q ≡ true) (sym is_live) l) in
      let here : State = twin s (setting v' x ∷ rest') to registers callers in
      inl (subst (λ lines. Follows (step_at u g lines s) (does v g (setting v' x) rest' here)) is_rest
      (straight_sim s (setting v' x ∷ rest') to registers callers f other at at' same gone copies waits x y r v' rest rest' pair' left' alike'))
  step_on f live from to behind old new (LeftOut gone rest rest' a b dead left) s registers callers other at at' same is_live is_exit is_rest copies waits alike =
      let left' : ForwardsLines (first_free f) same.live s.frame.spot.exit to (Copy a b ∷ gone) rest rest' =
      subst (λ (z : ℕ → ℕ → Bool). ForwardsLines (first_free f) z s.frame.spot.exit to (Copy a b ∷ gone) rest rest') is_live (subst (λ z. ForwardsLines (first_free f) live z to (Copy a b ∷ gone) rest rest') is_exit left) in
      let regs = s.frame.registers in
      inr (record {
        then_is = record s { frame = record (with_rest s.frame rest) { registers = with_register regs a (regs b) } };
        goes = ap (λ lines. step_at u g lines s) (sym is_rest);
        same = record {
          rest = rest';
          leaving = to;
          registers = registers;
          callers = callers;
          is = refl;
          ok = record {
            function = f;
            other = other;
            at = at;
            at_other = at';
            same = same;
            behind = Copy a b ∷ gone;
            lines = left';
            copies = copies_next (Copy a b) gone regs (with_register regs a (regs b)) copies (λ q e. set_stays regs a (regs b) q e) (λ c d is ne. copied c d is ne);
            alike = λ q l. (
                let lives_here : lives live rest' to q ≡ true = subst (λ (z : ℕ → ℕ → Bool). lives z rest' to q ≡ true) (sym is_live) l in
                alike q lives_here ∙ sym (set_stays regs a (regs b) q (dead_other q (q == a) refl lives_here))
                );
          };
          waits = waits;
        };
      })
    where
      copied : (c d : ℕ) → Copy a b ≡ Copy c d → (c ≡ d → ⊥) → with_register s.frame.registers a (s.frame.registers b) c ≡ with_register s.frame.registers a (s.frame.registers b) d
      copied c d is ne =
          let first : a ≡ c = cc in
          let second : b ≡ d = cc in
          let apart : a ≡ b → ⊥ = λ e. ne (sym first ∙ e ∙ second) in
          ap (with_register s.frame.registers a (s.frame.registers b)) (sym first) ∙ copy_set s.frame.registers a b apart ∙ ap (with_register s.frame.registers a (s.frame.registers b)) second

      -- what lives isn't the copy that is left out
      dead_other : (q : ℕ) (t : Bool) → (q == a) ≡ t → lives live rest' to q ≡ true → (q == a) ≡ false
      dead_other q false e l = e
      dead_other q true e l = absurd (let is : q ≡ a = eqb-true q a e in let no : lives live rest' to q ≡ false = subst (λ z. lives live rest' to z ≡ false) (sym is) dead in cc)

  step_sim : (s t : State) → Twin s t → Steps s t
  step_sim s t h =
      subst (λ (z : State). Steps s z) (sym h.is)
      (step_on h.ok.function h.ok.same.live s.frame.spot.exit h.leaving h.ok.behind s.frame.spot.rest h.rest h.ok.lines s h.registers h.callers h.ok.other h.ok.at h.ok.at_other h.ok.same refl refl refl h.ok.copies h.waits h.ok.alike)

  -- ---- runs

  start_sim : (n : ℕ) → NextSim (start u g n) (start v g n)
  start_sim n = enters_sim (before u g n) [] (λ r. Unset) (λ r. Unset) [] (before u g n).frame.spot.exit (λ r. Unset) [] u.main 0 0 n (λ j lt. refl) tt

  module _ (o : Outcome) (run : List Event) where
    abbrev Ended : ℕ → State → List Event → Type 0
    Ended k t events = exec v g k t events ≡ Over o run

    next_ends : (k : ℕ) (a b : Next) (events : List Event) → ((s t : State) (events : List Event) → Twin s t → exec u g k s events ≡ Over o run → (k' : ℕ) × Ended k' t events) → NextSim a b → goes_on a (exec u g k) events ≡ Over o run → (k' : ℕ) × (goes_on b (exec v g k') events ≡ Over o run)
    next_ends k (Stops x m) (Stops y n) events go h r = (0, ap (λ z. Over z (events ++ n)) h.0 ∙ ap (λ (z : List Event). Over x (events ++ z)) h.1 ∙ r)
    next_ends k (Stops x m) (Goes t n) events go h r = absurd h
    next_ends k (Goes s m) (Stops y n) events go h r = absurd h
    next_ends k (Goes s m) (Goes t n) events go h r =
        let again = go s t (events ++ m) h.0 r in
        (again.0, ap (λ (z : List Event). exec v g again.0 t (events ++ z)) h.1 ∙ again.1)

    ends_same : (k n : ℕ) → n ≤ k → (s t : State) (events : List Event) → Twin s t → exec u g n s events ≡ Over o run → (k' : ℕ) × Ended k' t events
    ends_same k zero le s t events h r = cc
    ends_same zero (suc n) le s t events h r = absurd (omega arith)
    ends_same (suc k) (suc n) le s t events h r = elim (step_sim s t h) [
      | inl follows ↦ elim follows [
        | inl sim ↦ (let e = next_ends n (step u g s) (step v g t) events (ends_same k n (omega arith)) sim r in (suc e.0, e.1))
        | inr two ↦ after_two (λ m small. ends_same k m small) n (omega arith) two (ap (λ (z : Next). goes_on z (exec u g n) events) (sym two.goes) ∙ r)
      ]
      | inr idle ↦ (
          let on : exec u g n idle.then_is (events ++ []) ≡ Over o run = ap (λ (z : Next). goes_on z (exec u g n) events) (sym idle.goes) ∙ r in
          ends_same k n (omega arith) idle.then_is t events idle.same (ap (λ (z : List Event). exec u g n idle.then_is z) (sym (append-nil events)) ∙ on)
          )
    ]
      where
        after_two : ((m : ℕ) → m ≤ k → (s t : State) (events : List Event) → Twin s t → exec u g m s events ≡ Over o run → (k' : ℕ) × Ended k' t events) → (m : ℕ) → m ≤ k → (two : IsTwo (step u g s) (step v g t)) → exec u g m two.middle (events ++ two.events) ≡ Over o run → (k' : ℕ) × Ended k' t events
        after_two again zero small two r = cc
        after_two again (suc m) small two r =
            let more = events ++ two.events in
            let on : exec u g m two.then_is (more ++ []) ≡ Over o run = ap (λ (z : Next). goes_on z (exec u g m) more) (sym two.goes_on) ∙ r in
            let e = again m (omega arith) two.then_is two.after more two.same (ap (λ (z : List Event). exec u g m two.then_is z) (sym (append-nil more)) ∙ on) in
            (suc e.0, ap (λ (z : Next). goes_on z (exec v g e.0) events) two.after_goes ∙ e.1)

pub whole : (old new : Code) → EachFunction ForwardsOnce old new → (g : Setting) (n : ℕ) (o : Outcome) (run : List Event) → Runs old g n o run → Runs new g n o run
whole old new p g n o run r =
    let e = next_ends old new g p.functions o run r.steps (start old g n) (start (record old { functions = new.functions }) g n) [] (ends_same old new g p.functions o run r.steps r.steps (omega arith)) (start_sim old new g p.functions n) r.over in
    subst (λ (z : Code). Runs z g n o run) (sym p.rest) (record { steps = e.0; over = e.1 })
