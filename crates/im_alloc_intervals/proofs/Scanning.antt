-- The scan: one register after the other gets a home.
use Rattle.std.proofs.Common.{◌≡◌, ◌≢◌, ◌⊎◌, ◌<◌, ◌≤◌, ◌+◌, ℕ, zero, suc, List, [], ◌∷◌, Option, Some, None, inl, inr, ⊎_elim, length, refl, sym, ap, ◌∙◌, subst, arith}
use Rattle.std.specs.Prelude.{slice_get}
use Rattle.std.proofs.lemmas.Bool.{cases_eq, cases_lt}
use Rattle.std.proofs.lemmas.List.{length-set, get_or_past}
use Rattle.std.proofs.lemmas.Option.{slice_get_within, none-some, same_Some}
use Rattle.im_block.specs.Sections.{Has}
use Rattle.im_alloc_relation.specs.Homes.{Home, InRegister, InSlot}
use Rattle.im_alloc_intervals.specs.declared.marks.Interval.{Interval}
use Rattle.im_alloc_intervals.specs.declared.starts.Start.{Start}
use Rattle.im_alloc_intervals.specs.declared.table.Home.{Home as HomeOf}
use Rattle.im_alloc_intervals.specs.declared.table.Homes.{Homes}
use Rattle.im_alloc_intervals.specs.declared.tables.Tables.{Tables}
use Rattle.im_alloc_intervals.specs.declared.taken.Taken.{Taken}
use Rattle.im_alloc_intervals.specs.Homes.{home_of, home_or, home_at}
use Rattle.im_alloc_intervals.specs.Leaves.{AreDistinct}
use Rattle.im_alloc_intervals.specs.Marks.{interval_at, flag_at}
use Rattle.im_alloc_intervals.specs.Tables.{AreFitting}
use Rattle.im_alloc_intervals.specs.Scans.{AreStarts, IsFreeAt, IsUsedAt, NoneFree, until, IsRegisterFor, IsSlotBelow, last_of, AreWaiting, AreFirst, GivesHome, GivesSome, Gives, HoldsFrom, IsEasy, AreDisjoint, AreScanned}
use Rattle.im_alloc_intervals.proofs.Firsts.{waits_in}
use Rattle.im_alloc_intervals.proofs.Gets.{set_same, set_other, cases_home, same_register, not_slot}

-- a register among the first k of the list
pub record Done (starts : List Start) (k v : ℕ) : Type 0 where
  pub j : ℕ
  pub start : Start
  pub less : j < k
  pub at : slice_get starts j ≡ Some start
  pub is : start.register ≡ v

-- a parameter, or one of these
abbrev pub Given : ℕ → List Start → ℕ → ℕ → Type 0
Given p starts k v = (v < p) ⊎ Done starts k v

pub record IsTaker (p : ℕ) (t : Tables) (starts : List Start) (k : ℕ) (of : List HomeOf) (r last : ℕ) : Type 0 where
  pub v : ℕ
  pub interval : Interval
  pub given : Given p starts k v
  pub at : interval_at t.intervals.items v ≡ Some interval
  pub is : interval.last ≡ last
  pub home : home_at of v ≡ InRegister r

pub record Scan (p : ℕ) (t : Tables) (starts : List Start) (k : ℕ) (of : List HomeOf) (taken : Taken) : Type 0 where
  pub count : length of ≡ length t.intervals.items
  pub received : (v : ℕ) → v < p → home_at of v ≡ InRegister (10 + v)
  pub others : (v : ℕ) → p ≤ v → (Done starts k v → ⊥) → home_at of v ≡ InRegister 31
  pub used : (v : ℕ) (i : Interval) → Given p starts k v → interval_at t.intervals.items v ≡ Some i → IsUsedAt (until taken (home_at of v)) i.last
  pub apart : (v w : ℕ) (i j : Interval) → Given p starts k v → Given p starts k w → v ≢ w → interval_at t.intervals.items v ≡ Some i → interval_at t.intervals.items w ≡ Some j → home_at of v ≡ home_at of w → AreDisjoint i j
  pub register : (v : ℕ) → Done starts k v → IsRegisterFor (flag_at t.slotted.items v) (flag_at t.arguments.items v) (home_at of v)
  pub slot : (v : ℕ) → Done starts k v → IsSlotBelow (length taken.slots.items) (home_at of v)
  pub few : length taken.slots.items ≤ k
  pub takers : (r last : ℕ) → until taken (InRegister r) ≡ Some last → IsTaker p t starts k of r last
  pub easy : IsEasy p t → length taken.slots.items ≡ 0

used_free : (o : Option ℕ) (a b : ℕ) → IsUsedAt o a → IsFreeAt o b → a < b
used_free None a b x y = absurd x
used_free (Some last) a b x y = omega arith

slot_more : (a b : ℕ) (g : Home) → a ≤ b → IsSlotBelow a g → IsSlotBelow b g
slot_more a b (InRegister r) le s = tt
slot_more a b (InSlot n) le s = omega arith

-- a list of registers of the machine, from x9 on, each in use by a register whose interval holds a position
record Chosen (p : ℕ) (t : Tables) (of : List HomeOf) (q n : ℕ) : Type 0 where
  vs : List ℕ
  long : length vs ≡ n
  distinct : AreDistinct vs
  each : (v : ℕ) → Has vs v → HoldsFrom p v (interval_at t.intervals.items v) q × ((r : ℕ) × (r < 9 + n) × (home_at of v ≡ InRegister r))

choose : (p : ℕ) (t : Tables) (of : List HomeOf) (q n : ℕ) → n ≤ 23 → ((r : ℕ) → 8 < r → r < 32 → (v : ℕ) × HoldsFrom p v (interval_at t.intervals.items v) q × (home_at of v ≡ InRegister r)) → Chosen p t of q n
choose p t of q zero le taken = record { vs = []; long = refl; distinct = tt; each = λ v k. absurd k }
choose p t of q (suc n) le taken =
    let c = choose p t of q n (omega arith) taken in
    let one = taken (9 + n) (omega arith) (omega arith) in
    record {
      vs = one.0 ∷ c.vs;
      long = ap (λ (z : ℕ). suc z) c.long;
      distinct = (
        (λ k. (let o = (c.each one.0 k).1 in let same : 9 + n ≡ o.0 = same_register (9 + n) o.0 (sym one.2 ∙ o.2) in let less = o.1 in absurd (omega arith))),
        c.distinct,
      );
      each = λ v k.
          ⊎_elim
          (λ (e : one.0 ≡ v). (subst (λ (z : ℕ). HoldsFrom p z (interval_at t.intervals.items z) q) e one.1, (9 + n, omega arith, ap (λ (z : ℕ). home_at of z) (sym e) ∙ one.2)))
          (λ (h : Has c.vs v). (let o = c.each v h in let less = o.1.1 in (o.0, (o.1.0, omega arith, o.1.2))))
          k;
    }

module _ (p : ℕ) (t : Tables) (starts : List Start) (listed : AreStarts p t.intervals.items starts) where
  abbrev own : ℕ → Option Interval
  own v = interval_at t.intervals.items v

  -- ---- the begin

  pub scan_begin : (of : List HomeOf) (taken : Taken) → AreFirst p (length t.intervals.items) of →
      AreWaiting p t.intervals.items taken.registers → length taken.slots.items ≡ 0 →
      Scan p t starts 0 of taken
  scan_begin of taken first waiting none = record {
    count = first.long;
    received = first.received;
    others = λ v le no. first.rest v le;
    used = λ v i d e. used v i (parameter v d) e;
    apart = λ v w i j d e ne a b same. absurd (ne (one v w (parameter v d) (parameter w e) same));
    register = λ v d. (let lt = d.less in absurd (omega arith));
    slot = λ v d. (let lt = d.less in absurd (omega arith));
    few = omega arith;
    takers = λ r last e.
        (let w = waits_in p t.intervals.items taken.registers waiting r last e in
        record {
          v = w.v;
          interval = w.interval;
          given = inl w.less;
          at = w.at;
          is = w.is;
          home = first.received w.v w.less ∙ ap (λ (z : ℕ). InRegister z) w.home;
        });
    easy = λ e. none;
  }
    where
      parameter : (v : ℕ) → Given p starts 0 v → v < p
      parameter v (inl lt) = lt
      parameter v (inr d) = let lt = d.less in absurd (omega arith)

      used : (v : ℕ) (i : Interval) → v < p → own v ≡ Some i → IsUsedAt (until taken (home_at of v)) i.last
      used v i lt e =
          let at : until taken (home_at of v) ≡ Some i.last =
          ap (λ (g : Home). until taken g) (first.received v lt) ∙ waiting.each v lt ∙ ap last_of e in
          subst (λ (o : Option ℕ). IsUsedAt o i.last) (sym at) (omega arith)

      one : (v w : ℕ) → v < p → w < p → home_at of v ≡ home_at of w → v ≡ w
      one v w a b same =
          let at = sym (first.received v a) ∙ same ∙ first.received w b in
          let e : 10 + v ≡ 10 + w = same_register (10 + v) (10 + w) at in
          omega arith

  -- ---- one register more

  module _ (k : ℕ) (s : Start) (at_start : slice_get starts k ≡ Some s) (i : Interval) (at_own : own s.register ≡ Some i) (ordered : i.first ≤ i.last) (of new_of : List HomeOf) (old new : Taken) (scan : Scan p t starts k of old) (gives : GivesHome t s.register i old new of new_of) where
    abbrev h : Home
    h = home_of gives.home

    within : s.register < length of
    within =
        ⊎_elim
        (λ (lt : s.register < length of). lt)
        (λ (le : length of ≤ s.register). absurd (none-some i (sym (get_or_past t.intervals.items s.register None (let c = scan.count in omega arith)) ∙ at_own)))
        (cases_lt s.register (length of))

    home_new : home_at new_of s.register ≡ h
    home_new = ap (λ (z : List HomeOf). home_at z s.register) gives.is ∙ ap home_or (set_same of s.register gives.home within)

    home_old : (w : ℕ) → w ≢ s.register → home_at new_of w ≡ home_at of w
    home_old w ne = ap (λ (z : List HomeOf). home_at z w) gives.is ∙ ap home_or (set_other of s.register w gives.home ne)

    not_done : Done starts k s.register → ⊥
    not_done d = let same = listed.once d.j k d.start s d.at at_start d.is in let lt = d.less in omega arith

    now_done : Done starts (k + 1) s.register
    now_done = record { j = k; start = s; less = omega arith; at = at_start; is = refl }

    done_later : (w : ℕ) → Done starts k w → Done starts (k + 1) w
    done_later w d = record { j = d.j; start = d.start; less = (let lt = d.less in omega arith); at = d.at; is = d.is }

    later : (w : ℕ) → Given p starts k w → Given p starts (k + 1) w
    later w (inl lt) = inl lt
    later w (inr d) = inr (done_later w d)

    other : (w : ℕ) → Given p starts k w → w ≢ s.register
    other w (inl lt) e = let low = (listed.each k s at_start).low in omega arith
    other w (inr d) e = not_done (subst (λ (z : ℕ). Done starts k z) e d)

    done_cases : (w : ℕ) → Done starts (k + 1) w → Done starts k w ⊎ (w ≡ s.register)
    done_cases w d =
        ⊎_elim
        (λ (e : d.j ≡ k). inr (sym d.is ∙ ap (λ (z : Start). z.register) (same_Some d.start s (sym d.at ∙ subst (λ (z : ℕ). slice_get starts z ≡ Some s) (sym e) at_start))))
        (λ (ne : d.j ≢ k). inl (record { j = d.j; start = d.start; less = (let lt = d.less in omega arith); at = d.at; is = d.is }))
        (cases_eq d.j k)

    given_cases : (w : ℕ) → Given p starts (k + 1) w → Given p starts k w ⊎ (w ≡ s.register)
    given_cases w (inl lt) = inl (inl lt)
    given_cases w (inr d) = ⊎_elim (λ (was : Done starts k w). inl (inr was)) (λ (is : w ≡ s.register). inr is) (done_cases w d)

    -- who has the same home has it no more where the new interval begins
    gone : (w : ℕ) (j : Interval) → Given p starts k w → own w ≡ Some j → home_at of w ≡ h → j.last < i.first
    gone w j d e same = used_free (until old h) j.last i.first (subst (λ (g : Home). IsUsedAt (until old g) j.last) same (scan.used w j d e)) gives.takes.free

    same_interval : (w : ℕ) (j : Interval) → w ≡ s.register → own w ≡ Some j → i ≡ j
    same_interval w j e f = same_Some i j (sym at_own ∙ ap own (sym e) ∙ f)

    used : (w : ℕ) (j : Interval) → Given p starts (k + 1) w → own w ≡ Some j → IsUsedAt (until new (home_at new_of w)) j.last
    used w j d e =
        ⊎_elim
        (λ (was : Given p starts k w).
        subst (λ (g : Home). IsUsedAt (until new g) j.last) (sym (home_old w (other w was)))
        (⊎_elim
        (λ (same : home_at of w ≡ h).
        subst (λ (g : Home). IsUsedAt (until new g) j.last) (sym same)
        (subst (λ (o : Option ℕ). IsUsedAt o j.last) (sym gives.takes.now) (let lt = gone w j was e same in omega arith)))
        (λ (ne : home_at of w ≢ h). subst (λ (o : Option ℕ). IsUsedAt o j.last) (sym (gives.takes.others (home_at of w) ne)) (scan.used w j was e))
        (cases_home (home_at of w) h)))
        (λ (is : w ≡ s.register).
        subst (λ (g : Home). IsUsedAt (until new g) j.last) (sym (ap (λ (z : ℕ). home_at new_of z) is ∙ home_new))
        (subst (λ (o : Option ℕ). IsUsedAt o j.last) (sym gives.takes.now)
        (let q : i.last ≡ j.last = ap (λ (z : Interval). z.last) (same_interval w j is e) in omega arith)))
        (given_cases w d)

    -- one is new
    apart_new : (w u : ℕ) (j l : Interval) → w ≡ s.register → Given p starts k u → own w ≡ Some j → own u ≡ Some l → home_at new_of w ≡ home_at new_of u → l.last < j.first
    apart_new w u j l is was e f same =
        let lt = gone u l was f (sym (home_old u (other u was)) ∙ sym same ∙ ap (λ (z : ℕ). home_at new_of z) is ∙ home_new) in
        let q : i.first ≡ j.first = ap (λ (z : Interval). z.first) (same_interval w j is e) in
        omega arith

    apart : (w u : ℕ) (j l : Interval) → Given p starts (k + 1) w → Given p starts (k + 1) u → w ≢ u → own w ≡ Some j → own u ≡ Some l → home_at new_of w ≡ home_at new_of u → AreDisjoint j l
    apart w u j l dw du ne e f same =
        ⊎_elim
        (λ (was : Given p starts k w).
        ⊎_elim
        (λ (had : Given p starts k u). scan.apart w u j l was had ne e f (sym (home_old w (other w was)) ∙ same ∙ home_old u (other u had)))
        (λ (is : u ≡ s.register). inl (apart_new u w l j is was f e (sym same)))
        (given_cases u du))
        (λ (is : w ≡ s.register).
        ⊎_elim
        (λ (had : Given p starts k u). inr (apart_new w u j l is had e f same))
        (λ (too : u ≡ s.register). absurd (ne (is ∙ sym too)))
        (given_cases u du))
        (given_cases w dw)

    register : (w : ℕ) → Done starts (k + 1) w → IsRegisterFor (flag_at t.slotted.items w) (flag_at t.arguments.items w) (home_at new_of w)
    register w d =
        ⊎_elim
        (λ (was : Done starts k w). subst (λ (g : Home). IsRegisterFor (flag_at t.slotted.items w) (flag_at t.arguments.items w) g) (sym (home_old w (other w (inr was)))) (scan.register w was))
        (λ (is : w ≡ s.register).
        subst (λ (z : ℕ). IsRegisterFor (flag_at t.slotted.items z) (flag_at t.arguments.items z) (home_at new_of z)) (sym is)
        (subst (λ (g : Home). IsRegisterFor (flag_at t.slotted.items s.register) (flag_at t.arguments.items s.register) g) (sym home_new) gives.takes.register))
        (done_cases w d)

    slot : (w : ℕ) → Done starts (k + 1) w → IsSlotBelow (length new.slots.items) (home_at new_of w)
    slot w d =
        ⊎_elim
        (λ (was : Done starts k w). subst (λ (g : Home). IsSlotBelow (length new.slots.items) g) (sym (home_old w (other w (inr was)))) (slot_more (length old.slots.items) (length new.slots.items) (home_at of w) gives.takes.more (scan.slot w was)))
        (λ (is : w ≡ s.register). subst (λ (g : Home). IsSlotBelow (length new.slots.items) g) (sym (ap (λ (z : ℕ). home_at new_of z) is ∙ home_new)) gives.takes.slot)
        (done_cases w d)

    takers : (r last : ℕ) → until new (InRegister r) ≡ Some last → IsTaker p t starts (k + 1) new_of r last
    takers r last e =
        ⊎_elim
        (λ (same : InRegister r ≡ h).
        record {
          v = s.register;
          interval = i;
          given = inr now_done;
          at = at_own;
          is = same_Some i.last last (sym gives.takes.now ∙ ap (λ (g : Home). until new g) (sym same) ∙ e);
          home = home_new ∙ sym same;
        })
        (λ (ne : InRegister r ≢ h).
        (let was = scan.takers r last (sym (gives.takes.others (InRegister r) ne) ∙ e) in
        record { v = was.v; interval = was.interval; given = later was.v was.given; at = was.at; is = was.is; home = home_old was.v (other was.v was.given) ∙ was.home }))
        (cases_home (InRegister r) h)

    -- where no register is free, more intervals hold the position than may
    begun : (w : ℕ) (j : Interval) → own w ≡ Some j → Given p starts k w → (j.first ≤ i.first) ⊎ (w < p)
    begun w j e (inl lt) = inr lt
    begun w j e (inr d) =
        let was = listed.each d.j d.start d.at in
        let own_is : own w ≡ Some was.interval = ap own (sym d.is) ∙ was.at in
        let same : was.interval ≡ j = same_Some was.interval j (sym own_is ∙ e) in
        let one = listed.each k s at_start in
        let mine : one.interval ≡ i = same_Some one.interval i (sym one.at ∙ at_own) in
        let up = listed.sorted d.j k d.start s d.at at_start (let lt = d.less in omega arith) in
        let a : was.interval.first ≡ j.first = ap (λ (z : Interval). z.first) same in
        let b : one.interval.first ≡ i.first = ap (λ (z : Interval). z.first) mine in
        let c = was.first in
        let q = one.first in
        inl (omega arith)

    holder : (r last : ℕ) → IsTaker p t starts k of r last → i.first ≤ last → (w : ℕ) × HoldsFrom p w (own w) i.first × (home_at of w ≡ InRegister r)
    holder r last taker le =
        let z = taker.is in
        let held : HoldsFrom p taker.v (Some taker.interval) i.first = (begun taker.v taker.interval taker.at taker.given, omega arith) in
        (taker.v, subst (λ (o : Option Interval). HoldsFrom p taker.v o i.first) (sym taker.at) held, taker.home)

    all_held : (r : ℕ) → IsUsedAt (until old (InRegister r)) i.first → (w : ℕ) × HoldsFrom p w (own w) i.first × (home_at of w ≡ InRegister r)
    all_held r used = by (until old (InRegister r)) refl used
      where
        by : (o : Option ℕ) → until old (InRegister r) ≡ o → IsUsedAt o i.first → (w : ℕ) × HoldsFrom p w (own w) i.first × (home_at of w ≡ InRegister r)
        by None e x = absurd x
        by (Some last) e x = holder r last (scan.takers r last e) x

    easy : IsEasy p t → length new.slots.items ≡ 0
    easy e =
        ⊎_elim
        (λ (same : length new.slots.items ≡ length old.slots.items). same ∙ scan.easy e)
        (λ (none : NoneFree old.registers i.first (flag_at t.arguments.items s.register)).
        (let no = e.arguments s.register in
        let c = choose p t of i.first 23 (omega arith) (λ r low high. all_held r (none r low high (λ yes. absurd cc))) in
        let few = e.few i.first c.vs c.distinct (λ w m. (c.each w m).0) in
        let long = c.long in
        absurd (omega arith)))
        (gives.takes.none_free (e.slotted s.register (listed.each k s at_start).low))

    pub scan_next : Scan p t starts (k + 1) new_of new
    scan_next = record {
      count = ap length gives.is ∙ length-set of s.register gives.home ∙ scan.count;
      received = λ w lt. home_old w (λ e. (let low = (listed.each k s at_start).low in omega arith)) ∙ scan.received w lt;
      others = λ w le no. home_old w (λ e. no (subst (λ (z : ℕ). Done starts (k + 1) z) (sym e) now_done)) ∙ scan.others w le (λ d. no (done_later w d));
      used = used;
      apart = apart;
      register = register;
      slot = slot;
      few = (let a = gives.takes.one in let b = scan.few in omega arith);
      takers = takers;
      easy = easy;
    }

  pub start_within : (k : ℕ) (s : Start) → slice_get starts k ≡ Some s → s.register < length t.intervals.items
  start_within k s at =
      let one = listed.each k s at in
      ⊎_elim
      (λ (lt : s.register < length t.intervals.items). lt)
      (λ (le : length t.intervals.items ≤ s.register). absurd (none-some one.interval (sym (get_or_past t.intervals.items s.register None le) ∙ one.at)))
      (cases_lt s.register (length t.intervals.items))

  pub scan_step : AreFitting t → (k : ℕ) (s : Start) → slice_get starts k ≡ Some s → (of new_of : List HomeOf) (old new : Taken) → Scan p t starts k of old → Gives t s.register old new of new_of → Scan p t starts (k + 1) new_of new
  scan_step fits k s at of new_of old new scan gives =
      let one = listed.each k s at in
      let given : GivesHome t s.register one.interval old new of new_of = subst (λ (o : Option Interval). GivesSome t s.register o old new of new_of) one.at gives in
      scan_next k s at one.interval one.at (fits.ordered s.register one.interval one.at) of new_of old new scan given

  -- ---- the end

  module _ (k : ℕ) (homes : Homes) (taken : Taken) (all : length starts ≤ k) (some : k ≤ length starts) (slots : homes.slots ≡ length taken.slots.items) (few_parameters : p ≤ 8) (scan : Scan p t starts k homes.of.items taken) where
    abbrev home : ℕ → Home
    home v = home_at homes.of.items v

    done : (v : ℕ) (i : Interval) → p ≤ v → own v ≡ Some i → Done starts k v
    done v i le e =
        let l = listed.all v i le e in
        let lt = slice_get_within starts l.k l.start l.at in
        record { j = l.k; start = l.start; less = omega arith; at = l.at; is = l.is }

    given : (v : ℕ) (i : Interval) → own v ≡ Some i → Given p starts k v
    given v i e = ⊎_elim (λ (lt : v < p). inl lt) (λ (le : p ≤ v). inr (done v i le e)) (cases_lt v p)

    undone : (v : ℕ) → own v ≡ None → Done starts k v → ⊥
    undone v none d = let one = listed.each d.j d.start d.at in none-some one.interval (sym none ∙ ap own (sym d.is) ∙ one.at)

    slot_there : (v n : ℕ) → home v ≡ InSlot n → n < homes.slots
    slot_there v n e =
        ⊎_elim
        (λ (lt : v < p). absurd (not_slot n (10 + v) (sym (scan.received v lt) ∙ e)))
        (λ (le : p ≤ v). by le (own v) refl)
        (cases_lt v p)
      where
        by : p ≤ v → (o : Option Interval) → own v ≡ o → n < homes.slots
        by le None is = absurd (not_slot n 31 (sym (scan.others v le (undone v is)) ∙ e))
        by le (Some i) is =
            let below : IsSlotBelow (length taken.slots.items) (InSlot n) = subst (λ (g : Home). IsSlotBelow (length taken.slots.items) g) e (scan.slot v (done v i le is)) in
            omega arith

    registers : (v r : ℕ) (i : Interval) → p ≤ v → own v ≡ Some i → home v ≡ InRegister r → IsRegisterFor (flag_at t.slotted.items v) (flag_at t.arguments.items v) (InRegister r)
    registers v r i le is e = subst (λ (g : Home). IsRegisterFor (flag_at t.slotted.items v) (flag_at t.arguments.items v) g) e (scan.register v (done v i le is))

    free : (v r : ℕ) → home v ≡ InRegister r → (8 < r) × (r < 32)
    free v r e =
        ⊎_elim
        (λ (lt : v < p). (let is : 10 + v ≡ r = same_register (10 + v) r (sym (scan.received v lt) ∙ e) in (omega arith, omega arith)))
        (λ (le : p ≤ v). by le (own v) refl)
        (cases_lt v p)
      where
        by : p ≤ v → (o : Option Interval) → own v ≡ o → (8 < r) × (r < 32)
        by le None is = (let q : 31 ≡ r = same_register 31 r (sym (scan.others v le (undone v is)) ∙ e) in (omega arith, omega arith))
        by le (Some i) is = (let k = registers v r i le is e in (k.0, k.1))

    pub scan_end : AreScanned p t homes
    scan_end = record {
      count = scan.count;
      received = scan.received;
      slots = slot_there;
      few = (let a = scan.few in let b = listed.few in omega arith);
      free = free;
      apart = λ v w i j ne e f same. scan.apart v w i j (given v i e) (given w j f) ne e f same;
      register = λ v r i le is e. (let k = registers v r i le is e in (k.3, k.2));
      easy = λ e. slots ∙ scan.easy e;
    }
