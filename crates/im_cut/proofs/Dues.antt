-- Each cut that a sweep adds is due: each mark has a path that shows it.
use Rattle.std.proofs.Common.{◌≡◌, ℕ, zero, suc, ◌+◌, ◌-◌, ◌<◌, ◌≤◌, List, [], ◌∷◌, ◌++◌, Option, Some, None, refl, sym, ap, ◌∙◌, subst, inl, inr, ⊎_elim, append_assoc, arith}
use Rattle.std.specs.Prelude.{Bool, true, false, slice_get, ◌==◌, ◌&&◌, if◌then◌else◌}
use Rattle.std.proofs.lemmas.List.{append-nil}
use Rattle.std.proofs.lemmas.Bool.{eqb-true, cases_lt}
use Rattle.im_num.specs.declared.values.Cause.{Cause}
use Rattle.im_num.specs.declared.values.Cause.TheVariants.{Dep as DepCut}
use Rattle.im_block.specs.declared.access.Tags.{Tags}
use Rattle.im_block.specs.declared.access.Dep.{Dep}
use Rattle.im_block.specs.declared.code.Line.{Line}
use Rattle.im_block.specs.declared.code.Line.TheVariants.{Read, Write, Reload, Spill, Cut}
use Rattle.im_block.specs.declared.code.Exit.{Exit}
use Rattle.im_block.specs.declared.code.Exit.TheVariants.{Jump, Turn, Branch, Return}
use Rattle.im_block.specs.declared.code.Block.{Block}
use Rattle.im_block.specs.declared.unit.Function.{Function}
use Rattle.im_block.specs.Meaning.{Site, site_of, slot_site, Spot, at_block}
use Rattle.im_block.specs.Sections.{Has}
use Rattle.im_block.specs.Paths.{Step, ReadStep, WriteStep, steps_of, Open, IsCut, IsEdge, spot, Path, Here, Along, Across, IsEntry}
use Rattle.im_block.specs.Shape.{Descends, IsOrdered}
use Rattle.im_block.specs.Forced.{EndsWithCut, CutAtTurn}
use Rattle.im_block.specs.Flow.{same_slot, same_site, open_through}
use Rattle.im_cut.specs.Greedy.{cause_of, causes_of_line, causes_of_lines, causes_of_blocks, Known, BehindCut, Starts, IsDue, CutLines, Empty, Same, Added, CutBlocks}
use Rattle.im_dep.specs.Sites.{Decides}
use Rattle.im_dep.specs.Exposed.{dep_of}
use Rattle.im_cut.specs.Sweep.{Marks, fresh, passed, SweepLines, Ends, Keeps, Cuts, SweepBlocks, ComesFrom, Swept}
use Rattle.im_cut.proofs.Flows.{NoCover, open-append, open_more, open_here, clean_past}
use Rattle.im_cut.proofs.Sweeps.{SweptBlock, some_same, swept_block}
use Rattle.im_cut.proofs.Sections.{open_along}

-- ---- lists

has_more : {X : Type 0} (xs ys : List X) (x : X) → Has xs x → Has (xs ++ ys) x
has_more [] ys x h = absurd h
has_more (y ∷ xs) ys x h = ⊎_elim (λ e. inl e) (λ t. inr (has_more xs ys x t)) h

has_behind : {X : Type 0} (xs ys : List X) (x : X) → Has ys x → Has (xs ++ ys) x
has_behind [] ys x h = h
has_behind (y ∷ xs) ys x h = inr (has_behind xs ys x h)

known_more : (causes : List Cause) (done more : List Dep) (cause : Cause) → Known causes done cause → Known causes (done ++ more) cause
known_more causes done more cause k =
    ⊎_elim (λ h. inl h) (λ (d : (x : Dep) × Has done x × (cause ≡ cause_of x)). inr (d.0, has_more done more d.0 d.1, d.2)) k

-- ---- covers

cover_read : (tags : Tags) (path : List Step) (a r : Site) → NoCover tags path r → NoCover tags (path ++ ReadStep a ∷ []) r
cover_read tags [] a r h = tt
cover_read tags (ReadStep b ∷ path) a r h = cover_read tags path a r h
cover_read tags (WriteStep b ∷ path) a r h = (h.0, cover_read tags path a r h.1)

same_slot_is : (a b : Option ℕ) → same_slot a b ≡ true → a ≡ b
same_slot_is None None e = refl
same_slot_is (Some x) (Some y) e = ap (λ n. Some n) (eqb-true x y e)
same_slot_is None (Some y) e = cc
same_slot_is (Some x) None e = cc

and_first : (x y : Bool) → (x && y) ≡ true → x ≡ true
and_first true y e = refl
and_first false y e = e

and_second : (x y : Bool) → (x && y) ≡ true → y ≡ true
and_second true y e = e
and_second false y e = cc

same_site_is : (a b : Site) → same_site a b ≡ true → a ≡ b
same_site_is a b e =
    let both = and_first (a.number == b.number && a.size == b.size) (same_slot a.slot b.slot) e in
    let one = eqb-true a.number b.number (and_first (a.number == b.number) (a.size == b.size) both) in
    let two = eqb-true a.size b.size (and_second (a.number == b.number) (a.size == b.size) both) in
    let three = same_slot_is a.slot b.slot (and_second (a.number == b.number && a.size == b.size) (same_slot a.slot b.slot) e) in
    ap (λ n. record { number = n; size = a.size; slot = a.slot }) one ∙ ap (λ n. record { number = b.number; size = n; slot = a.slot }) two ∙ ap (λ n. record { number = b.number; size = b.size; slot = n }) three

module _ (tags : Tags) (covers : Site → Site → Bool) (decides : Decides tags covers) (f : Function) (causes : List Cause) where
  -- a path that shows a mark
  record ShowsClean (done : List Dep) (s : Spot) (r : Site) : Type 0 where
    start : Spot
    starts : Starts causes done f start
    path : List Step
    goes : Path f.blocks.items start path s
    clean : NoCover tags path r

  record ShowsOpen (done : List Dep) (s : Spot) (r : Site) : Type 0 where
    start : Spot
    starts : Starts causes done f start
    path : List Step
    goes : Path f.blocks.items start path s
    opens : Open tags path r

  record Shows (m : Marks) (done : List Dep) (s : Spot) : Type 0 where
    clean : (r : Site) → m.clean r ≡ true → ShowsClean done s r
    opens : (r : Site) → m.opened r ≡ true → ShowsOpen done s r

  starts_more : (done more : List Dep) (s : Spot) → Starts causes done f s → Starts causes (done ++ more) f s
  starts_more done more s h =
      ⊎_elim
      (λ (e : IsEntry f s). inl e)
      (λ (c : BehindCut causes done f.blocks.items s). inr (record { block = c.block; before = c.before; cause = c.cause; at = c.at; lines = c.lines; exit = c.exit; known = known_more causes done more c.cause c.known }))
      h

  shows_more : (m : Marks) (done more : List Dep) (s : Spot) → Shows m done s → Shows m (done ++ more) s
  shows_more m done more s h = record {
    clean = λ r e. let k = h.clean r e in record { start = k.start; starts = starts_more done more k.start k.starts; path = k.path; goes = k.goes; clean = k.clean };
    opens = λ r e. let k = h.opens r e in record { start = k.start; starts = starts_more done more k.start k.starts; path = k.path; goes = k.goes; opens = k.opens };
  }

  -- a section begins here
  shows_fresh : (done : List Dep) (s : Spot) → Starts causes done f s → Shows fresh done s
  shows_fresh done s h = record {
    clean = λ r e. record { start = s; starts = h; path = []; goes = Here; clean = tt };
    opens = λ r e. cc;
  }

  module _ (done : List Dep) (b : ℕ) (rest : List Line) (exit : Exit) where
    -- a line without an access
    quiet : (m : Marks) (line : Line) → (IsCut line → ⊥) → steps_of line ≡ [] → Shows m done (spot b (line ∷ rest) exit) → Shows m done (spot b rest exit)
    quiet m line uncut none h = record {
      clean = λ r e. let k = h.clean r e in record { start = k.start; starts = k.starts; path = k.path ++ steps_of line; goes = Along k.path b line rest exit uncut k.goes; clean = subst (λ p. NoCover tags p r) (sym (ap (λ t. k.path ++ t) none ∙ append-nil k.path)) k.clean };
      opens = λ r e. let k = h.opens r e in record { start = k.start; starts = k.starts; path = k.path ++ steps_of line; goes = Along k.path b line rest exit uncut k.goes; opens = open_more tags k.path (steps_of line) r k.opens };
    }

    read_shows : (m : Marks) (line : Line) (a : Site) → (IsCut line → ⊥) → steps_of line ≡ ReadStep a ∷ [] → Shows m done (spot b (line ∷ rest) exit) → Shows (record { clean = m.clean; opened = λ r. if same_site a r && m.clean r then true else m.opened r }) done (spot b rest exit)
    read_shows m line a uncut is h = record {
      clean = λ r e. let k = h.clean r e in record { start = k.start; starts = k.starts; path = k.path ++ steps_of line; goes = Along k.path b line rest exit uncut k.goes; clean = subst (λ t. NoCover tags (k.path ++ t) r) (sym is) (cover_read tags k.path a r k.clean) };
      opens = λ r e. either r (same_site a r && m.clean r) refl e;
    }
      where
        either : (r : Site) (t : Bool) → (same_site a r && m.clean r) ≡ t → (if t then true else m.opened r) ≡ true → ShowsOpen done (spot b rest exit) r
        either r true q e =
            let same = same_site_is a r (and_first (same_site a r) (m.clean r) q) in
            let k = h.clean r (and_second (same_site a r) (m.clean r) q) in
            record { start = k.start; starts = k.starts; path = k.path ++ steps_of line; goes = Along k.path b line rest exit uncut k.goes; opens = subst (λ t. Open tags (k.path ++ t) r) (sym (is ∙ ap (λ x. ReadStep x ∷ []) same)) (open_here tags k.path r k.clean) }
        either r false q e =
            let k = h.opens r e in
            record { start = k.start; starts = k.starts; path = k.path ++ steps_of line; goes = Along k.path b line rest exit uncut k.goes; opens = open_more tags k.path (steps_of line) r k.opens }

    write_shows : (m : Marks) (line : Line) (w : Site) → (IsCut line → ⊥) → steps_of line ≡ WriteStep w ∷ [] → Shows m done (spot b (line ∷ rest) exit) → Shows (record { clean = λ r. if covers w r then false else m.clean r; opened = m.opened }) done (spot b rest exit)
    write_shows m line w uncut is h = record {
      clean = λ r e. either r (covers w r) refl e;
      opens = λ r e. let k = h.opens r e in record { start = k.start; starts = k.starts; path = k.path ++ steps_of line; goes = Along k.path b line rest exit uncut k.goes; opens = open_more tags k.path (steps_of line) r k.opens };
    }
      where
        either : (r : Site) (t : Bool) → covers w r ≡ t → (if t then false else m.clean r) ≡ true → ShowsClean done (spot b rest exit) r
        either r true q e = cc
        either r false q e =
            let k = h.clean r e in
            record { start = k.start; starts = k.starts; path = k.path ++ steps_of line; goes = Along k.path b line rest exit uncut k.goes; clean = subst (λ t. NoCover tags (k.path ++ t) r) (sym is) (clean_past tags k.path w r k.clean (decides.no w r q)) }

    -- a line that is no cut
    past_line : (m : Marks) (line : Line) → (IsCut line → ⊥) → Shows m done (spot b (line ∷ rest) exit) → Shows (passed covers line m) done (spot b rest exit)
    past_line m (Read to place kind a) uncut h = read_shows m (Read to place kind a) (site_of a kind) uncut refl h
    past_line m (Reload to slot a) uncut h = read_shows m (Reload to slot a) (slot_site a slot) uncut refl h
    past_line m (Write place kind from a) uncut h = write_shows m (Write place kind from a) (site_of a kind) uncut refl h
    past_line m (Spill slot from a) uncut h = write_shows m (Spill slot from a) (slot_site a slot) uncut refl h
    past_line m (Cut cause) uncut h = absurd (uncut tt)
    past_line m line uncut h = quiet m line uncut refl h

  -- what is left of a block that is swept: its cuts are due, and the marks at its end are shown
  record LinesDue (b : ℕ) (exit : Exit) (done : List Dep) (old new : List Line) (added : List Dep) (n : Marks) : Type 0 where
    lines : CutLines tags f causes b exit done old new added
    shows : Shows n (done ++ added) (spot b [] exit)

  module _ (b : ℕ) (block : Block) (at : slice_get f.blocks.items b ≡ Some block) where
    behind : (done : List Dep) (front rest : List Line) (cause : Cause) → block.lines.items ≡ front ++ Cut cause ∷ rest → Known causes done cause → Starts causes done f (spot b rest block.exit)
    behind done front rest cause lines known = inr (record { block = block; before = front; cause = cause; at = at; lines = lines; exit = refl; known = known })

    over_line : (k : Marks) (done : List Dep) (front x y : List Line) (line : Line) → block.lines.items ≡ front ++ line ∷ y → ((cause : Cause) → Has (line ∷ x) (Cut cause) → Has causes cause) → Shows k done (spot b (line ∷ y) block.exit) → Shows (passed covers line k) done (spot b y block.exit)
    over_line k done front x y (Cut cause) e known h = shows_fresh done (spot b y block.exit) (behind done front y cause e (inl (known cause (inl refl))))
    over_line k done front x y line e known h = past_line done b y block.exit k line (λ i. i) h

    uncut_write : (line : Line) (w : Site) → steps_of line ≡ WriteStep w ∷ [] → IsCut line → ⊥
    uncut_write (Cut cause) w e is = cc
    uncut_write line w e is = is

    due_lines : (m : Marks) (old new : List Line) (added : List Dep) (n : Marks) (done : List Dep) (front : List Line) → SweepLines tags covers m old new added n →
        block.lines.items ≡ front ++ new → ((cause : Cause) → Has old (Cut cause) → Has causes cause) → Shows m done (spot b new block.exit) → LinesDue b block.exit done old new added n
    due_lines m old new added n done front (Ends k) e known h = record { lines = Empty done; shows = shows_more k done [] (spot b [] block.exit) h }
    due_lines m old new added n done front (Keeps k line x y more l free swept) e known h =
        let next = over_line k done front x y line e known h in
        let rec = due_lines (passed covers line k) x y more l done (front ++ line ∷ []) swept (e ∙ sym (append_assoc front (line ∷ []) y)) (λ cause there. known cause (inr there)) next in
        record { lines = Same done line x y more rec.lines; shows = rec.shows }
    due_lines m old new added n done front (Cuts k w r line x y more l step opened meets swept) e known h =
        let d = dep_of r w in
        let cut = Cut (cause_of d) in
        let seen = h.opens r opened in
        let more_done : List Dep = done ++ d ∷ [] in
        let due : IsDue tags f causes done d w (spot b (cut ∷ line ∷ y) block.exit) = record { start = seen.start; starts = seen.starts; path = seen.path; goes = seen.goes; read = r; number = refl; opens = seen.opens; meets = meets } in
        let first = shows_fresh more_done (spot b (line ∷ y) block.exit) (behind more_done front (line ∷ y) (cause_of d) e (inr (d, has_behind done (d ∷ []) d (inl refl), refl))) in
        let next = past_line more_done b y block.exit fresh line (uncut_write line w step) first in
        let one = e ∙ sym (append_assoc front (cut ∷ []) (line ∷ y)) in
        let two = one ∙ sym (append_assoc (front ++ cut ∷ []) (line ∷ []) y) in
        let rec = due_lines (passed covers line fresh) x y more l more_done ((front ++ cut ∷ []) ++ line ∷ []) swept two (λ cause there. known cause (inr there)) next in
        record {
          lines = Added done d w line x y more step refl due rec.lines;
          shows = subst (λ (t : List Dep). Shows l t (spot b [] block.exit)) (append_assoc done (d ∷ []) more) rec.shows;
        }

-- ---- the causes of old cuts

cause_in_lines : (lines : List Line) (cause : Cause) → Has lines (Cut cause) → Has (causes_of_lines lines) cause
cause_in_lines [] cause h = absurd h
cause_in_lines (line ∷ lines) cause h =
    ⊎_elim
    (λ e. has_more (causes_of_line line) (causes_of_lines lines) cause (subst (λ (q : Line). Has (causes_of_line q) cause) (sym e) (inl refl)))
    (λ t. has_behind (causes_of_line line) (causes_of_lines lines) cause (cause_in_lines lines cause t))
    h

cause_in_blocks : (blocks : List Block) (b : ℕ) (block : Block) (cause : Cause) → slice_get blocks b ≡ Some block → Has block.lines.items (Cut cause) → Has (causes_of_blocks blocks) cause
cause_in_blocks [] b block cause at h = cc
cause_in_blocks (x ∷ xs) zero block cause at h =
    let one : x ≡ block = some_same x block at in
    has_more (causes_of_lines x.lines.items) (causes_of_blocks xs) cause (cause_in_lines x.lines.items cause (subst (λ (q : Block). Has q.lines.items (Cut cause)) (sym one) h))
cause_in_blocks (x ∷ xs) (suc b) block cause at h = has_behind (causes_of_lines x.lines.items) (causes_of_blocks xs) cause (cause_in_blocks xs b block cause at h)

-- a loop edge's block ends with a cut that was there
record LastCut (old new : List Line) : Type 0 where
  front : List Line
  cause : Cause
  lines : new ≡ front ++ Cut cause ∷ []
  was : Has old (Cut cause)

more_front : (line : Line) (old new : List Line) → LastCut old new → LastCut (line ∷ old) (line ∷ new)
more_front line old new l = record { front = line ∷ l.front; cause = l.cause; lines = ap (λ t. line ∷ t) l.lines; was = inr l.was }

only_line : (tags : Tags) (covers : Site → Site → Bool) (m : Marks) (old new : List Line) (added : List Dep) (n : Marks) → SweepLines tags covers m old new added n → old ≡ [] → new ≡ []
only_line tags covers m old new added n (Ends k) e = refl
only_line tags covers m old new added n (Keeps k line x y more l free h) e = cc
only_line tags covers m old new added n (Cuts k w r line x y more l step opened meets h) e = cc

one_cut : (line : Line) (new : List Line) → IsCut line → new ≡ [] → LastCut (line ∷ []) (line ∷ new)
one_cut (Cut cause) new is e = record { front = []; cause = cause; lines = ap (λ t. Cut cause ∷ t) e; was = inl refl }
one_cut line new is e = absurd is

last_cut : (tags : Tags) (covers : Site → Site → Bool) (m : Marks) (old new : List Line) (added : List Dep) (n : Marks) → SweepLines tags covers m old new added n → EndsWithCut old → LastCut old new
last_cut tags covers m old new added n (Ends k) h = absurd h
last_cut tags covers m old new added n (Keeps k line [] y more l free s) h = one_cut line y h (only_line tags covers (passed covers line k) [] y more l s refl)
last_cut tags covers m old new added n (Keeps k line (z ∷ x) y more l free s) h = more_front line (z ∷ x) y (last_cut tags covers (passed covers line k) (z ∷ x) y more l s h)
last_cut tags covers m old new added n (Cuts k w r line [] y more l step opened meets s) h = absurd (write_uncut line w step h)
  where
    write_uncut : (q : Line) (w : Site) → steps_of q ≡ WriteStep w ∷ [] → IsCut q → ⊥
    write_uncut (Cut cause) w e is = cc
    write_uncut q w e is = is
last_cut tags covers m old new added n (Cuts k w r line (z ∷ x) y more l step opened meets s) h =
    let k = more_front line (z ∷ x) y (last_cut tags covers (passed covers line fresh) (z ∷ x) y more l s h) in
    record { front = Cut (DepCut r.number w.number) ∷ k.front; cause = k.cause; lines = ap (λ t. Cut (DepCut r.number w.number) ∷ t) k.lines; was = k.was }

-- an edge that doesn't descend is a loop's
loop_edge : (exit : Exit) (p b : ℕ) → Descends exit p → IsEdge exit b → p ≤ b → exit ≡ Turn b
loop_edge (Jump c) p b down edge le = absurd (up c edge down)
  where
    up : (c : ℕ) → b ≡ c → c < p → ⊥
    up c e lt = omega arith
loop_edge (Turn c) p b down edge le = ap (λ n. Turn n) (sym edge)
loop_edge (Branch on x y) p b down edge le = ⊎_elim (λ e. absurd (up x e down.0)) (λ e. absurd (up y e down.1)) edge
  where
    up : (c : ℕ) → b ≡ c → c < p → ⊥
    up c e lt = omega arith
loop_edge (Return from) p b down edge le = absurd edge

module _ (tags : Tags) (covers : Site → Site → Bool) (decides : Decides tags covers) (old f : Function) (added : List Dep) (swept : Swept tags covers old f added) (ordered : IsOrdered f.blocks.items) (turns : (b : ℕ) (block : Block) → slice_get old.blocks.items b ≡ Some block → CutAtTurn block.exit block.lines.items) where
  abbrev causes : List Cause
  causes = causes_of_blocks old.blocks.items

  abbrev Shown : Marks → List Dep → Spot → Type 0
  Shown m done s = Shows tags covers decides f causes m done s

  block_swept : (b : ℕ) (y : Block) → slice_get f.blocks.items b ≡ Some y → SweptBlock tags covers swept.starts swept.ends b (slice_get old.blocks.items b) y
  block_swept b y at = swept_block tags covers swept.starts swept.ends old.blocks.items f.blocks.items added b y swept.blocks at

  -- an edge from a block that isn't a later one is behind a cut
  record LoopCut (z : Block) : Type 0 where
    front : List Line
    cause : Cause
    lines : z.lines.items ≡ front ++ Cut cause ∷ []
    known : Has causes cause

  loop_cut : (p b : ℕ) (z : Block) → slice_get f.blocks.items p ≡ Some z → IsEdge z.exit b → p ≤ b → LoopCut z
  loop_cut p b z at edge le =
      let k = block_swept p z at in
      let exit = loop_edge z.exit p b (ordered.each p z at) edge le in
      let turn = subst (λ e. CutAtTurn e k.was.lines.items) (sym k.exit ∙ exit) (turns p k.was k.at) in
      let l = last_cut tags covers (swept.starts p) k.was.lines.items z.lines.items k.own (swept.ends p) k.lines turn in
      record { front = l.front; cause = l.cause; lines = l.lines; known = cause_in_blocks old.blocks.items p k.was l.cause k.at l.was }

  none_open : (p : ℕ) (z : Block) (r : Site) → slice_get f.blocks.items p ≡ Some z → LoopCut z → (swept.ends p).opened r ≡ true → ⊥
  none_open p z r at l e =
      let k = block_swept p z at in
      let one = open_along tags covers (swept.starts p) k.was.lines.items z.lines.items k.own (swept.ends p) r k.lines ∙ e in
      let two = subst (λ t. open_through (λ w. covers w r) r t ((swept.starts p).clean r) ((swept.starts p).opened r) ≡ true) l.lines one in
      let three = sym (open-append (λ w. covers w r) r l.front (Cut l.cause ∷ []) ((swept.starts p).clean r) ((swept.starts p).opened r)) ∙ two in
      no_flag three
    where
      no_flag : false ≡ true → ⊥
      no_flag q = cc

  -- the marks at a block's start, where those at the ends of all later blocks are shown
  start_shown : (b : ℕ) (y : Block) (done : List Dep) → slice_get f.blocks.items b ≡ Some y → ((p : ℕ) (z : Block) → b < p → slice_get f.blocks.items p ≡ Some z → Shown (swept.ends p) done (spot p [] z.exit)) → Shown (swept.starts b) done (spot b y.lines.items y.exit)
  start_shown b y done at later = record {
    clean = λ r e. ⊎_elim (λ i. entered r i) (λ c. comes r c) (swept.joined.clean_from b r e);
    opens = λ r e. opened r (swept.joined.open_from b r e);
  }
    where
      here : Spot
      here = spot b y.lines.items y.exit

      entered : (r : Site) → b ≡ f.entry → ShowsClean tags covers decides f causes done (spot b y.lines.items y.exit) r
      entered r i = record {
        start = spot b y.lines.items y.exit;
        starts = inl (record { block = y; at = subst (λ n. slice_get f.blocks.items n ≡ Some y) i at; is = ap (λ n. at_block n y) i });
        path = [];
        goes = Here;
        clean = tt;
      }

      comes : (r : Site) → ComesFrom f.blocks.items b (λ p. (swept.ends p).clean r ≡ true) → ShowsClean tags covers decides f causes done (spot b y.lines.items y.exit) r
      comes r c =
          ⊎_elim
          (λ lt. let k = (later c.0 c.1 lt c.2).clean r c.4 in record { start = k.start; starts = k.starts; path = k.path; goes = Across k.path c.0 c.1.exit b y c.3 at k.goes; clean = k.clean })
          (λ le.
          let l = loop_cut c.0 b c.1 c.2 c.3 le in
          record {
            start = spot c.0 [] c.1.exit;
            starts = inr (record { block = c.1; before = l.front; cause = l.cause; at = c.2; lines = l.lines; exit = refl; known = inl l.known });
            path = [];
            goes = Across [] c.0 c.1.exit b y c.3 at Here;
            clean = tt;
          })
          (cases_lt b c.0)

      opened : (r : Site) → ComesFrom f.blocks.items b (λ p. (swept.ends p).opened r ≡ true) → ShowsOpen tags covers decides f causes done (spot b y.lines.items y.exit) r
      opened r c =
          ⊎_elim
          (λ lt. let k = (later c.0 c.1 lt c.2).opens r c.4 in record { start = k.start; starts = k.starts; path = k.path; goes = Across k.path c.0 c.1.exit b y c.3 at k.goes; opens = k.opens })
          (λ le. absurd (none_open c.0 c.1 r c.2 (loop_cut c.0 b c.1 c.2 c.3 le) c.4))
          (cases_lt b c.0)

  record BlocksDue (b : ℕ) (xs ys : List Block) (some : List Dep) : Type 0 where
    blocks : CutBlocks tags f causes b xs ys some
    shows : (p : ℕ) (z : Block) → b ≤ p → slice_get f.blocks.items p ≡ Some z → Shown (swept.ends p) some (spot p [] z.exit)

  beyond : (b p : ℕ) (z : Block) → ((k : ℕ) → slice_get f.blocks.items (b + k) ≡ slice_get [] k) → b ≤ p → slice_get f.blocks.items p ≡ Some z → ⊥
  beyond b p z here le at =
      let sum : b + (p - b) ≡ p = omega arith in
      let one = sym (here (p - b)) ∙ ap (λ n. slice_get f.blocks.items n) sum ∙ at in
      none_some z one
    where
      none_some : (z : Block) → None ≡ Some z → ⊥
      none_some z e = cc

  due_blocks : (b : ℕ) (xs ys : List Block) (some : List Dep) → SweepBlocks tags covers swept.starts swept.ends b xs ys some → ((k : ℕ) → slice_get f.blocks.items (b + k) ≡ slice_get ys k) → ((k : ℕ) → slice_get old.blocks.items (b + k) ≡ slice_get xs k) → BlocksDue b xs ys some
  due_blocks b [] [] some h here was = record { blocks = h; shows = λ p z le at. absurd (beyond b p z here le at) }
  due_blocks b (x ∷ xs) [] some h here was = absurd h
  due_blocks b [] (y ∷ ys) some h here was = absurd h
  due_blocks b (x ∷ xs) (y ∷ ys) some h here was =
      let zero_b : b + 0 ≡ b = omega arith in
      let at = subst (λ n. slice_get f.blocks.items n ≡ Some y) zero_b (here 0) in
      let at_old = subst (λ n. slice_get old.blocks.items n ≡ Some x) zero_b (was 0) in
      let rec = due_blocks (suc b) xs ys h.0 h.3 (λ k. subst (λ n. slice_get f.blocks.items n ≡ slice_get ys k) (next b k) (here (suc k))) (λ k. subst (λ n. slice_get old.blocks.items n ≡ slice_get xs k) (next b k) (was (suc k))) in
      let start = start_shown b y h.0 at (λ p z lt there. rec.shows p z (up b p lt) there) in
      let own = due_lines tags covers decides f causes b y at (swept.starts b) x.lines.items y.lines.items h.1 (swept.ends b) h.0 [] h.4 refl (λ cause there. cause_in_blocks old.blocks.items b x cause at_old there) start in
      record {
        blocks = (h.0, h.1, h.2, rec.blocks, own.lines, h.5);
        shows = λ p z le there.
            subst (λ (t : List Dep). Shown (swept.ends p) t (spot p [] z.exit)) (sym h.2)
            (⊎_elim
            (λ lt. shows_more tags covers decides f causes (swept.ends p) h.0 h.1 (spot p [] z.exit) (rec.shows p z (up b p lt) there))
            (λ ge. last p z (same p le ge) there own.shows)
            (cases_lt b p));
      }
    where
      next : (b k : ℕ) → b + suc k ≡ suc b + k
      next b k = omega arith

      up : (b p : ℕ) → b < p → suc b ≤ p
      up b p lt = omega arith

      same : (p : ℕ) → b ≤ p → p ≤ b → b ≡ p
      same p le ge = omega arith

      last : (p : ℕ) (z : Block) → b ≡ p → slice_get f.blocks.items p ≡ Some z → Shown (swept.ends b) (h.0 ++ h.1) (spot b [] y.exit) → Shown (swept.ends p) (h.0 ++ h.1) (spot p [] z.exit)
      last p z e there s =
          let zero_b : b + 0 ≡ b = omega arith in
          let at = subst (λ n. slice_get f.blocks.items n ≡ Some y) zero_b (here 0) in
          let one : y ≡ z = some_same y z (sym at ∙ ap (λ n. slice_get f.blocks.items n) e ∙ there) in
          subst (λ n. Shown (swept.ends n) (h.0 ++ h.1) (spot n [] z.exit)) e (subst (λ (q : Block). Shown (swept.ends b) (h.0 ++ h.1) (spot b [] q.exit)) one s)

  pub swept_due : CutBlocks tags f causes 0 old.blocks.items f.blocks.items added
  swept_due = (due_blocks 0 old.blocks.items f.blocks.items added swept.blocks (λ k. ap (λ n. slice_get f.blocks.items n) (none_more k)) (λ k. ap (λ n. slice_get old.blocks.items n) (none_more k))).blocks
    where
      none_more : (k : ℕ) → 0 + k ≡ k
      none_more k = omega arith
