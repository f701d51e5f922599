-- Gap cuts and greedy cuts have their reasons, and leave those of the cuts before them.
use Rattle.std.proofs.Common.{◌≡◌, ◌⊎◌, inl, inr, ℕ, suc, List, [], ◌∷◌, ◌++◌, Option, Some, None, refl, sym, ap, ◌∙◌, subst, ⊎_elim, append_assoc, arith}
use Rattle.std.specs.Prelude.{slice_get}
use Rattle.im_num.specs.declared.values.Cause.{Cause}
use Rattle.im_block.specs.declared.access.Tags.{Tags}
use Rattle.im_block.specs.declared.access.Dep.{Dep}
use Rattle.im_block.specs.declared.code.Line.{Line}
use Rattle.im_block.specs.declared.code.Line.TheVariants.{Read, Write, Reload, Spill, Cut}
use Rattle.im_block.specs.declared.code.Exit.{Exit}
use Rattle.im_block.specs.declared.code.Block.{Block}
use Rattle.im_block.specs.declared.unit.Function.{Function}
use Rattle.im_block.specs.Meaning.{Site, site_of, slot_site, Spot}
use Rattle.im_block.specs.Forced.{StartsWithCut}
use Rattle.im_block.specs.Paths.{Step, ReadStep, WriteStep, steps_of, IsCut, Open, spot, Path, Here, Along, Across, IsEntry}
use Rattle.im_alloc_placed.specs.Apart.{CutsApart}
use Rattle.im_cut.specs.Greedy.{cause_of, causes_of_blocks, BehindCut, Starts, IsDue, CutLines, Empty, Same, Added, CutBlocks}
use Rattle.im_cut_gap.specs.Gaps as gaps
use Rattle.im_cut_gap.specs.Gaps.{GapLines, GapBlocks, GapCutsTo}
use Rattle.im_cut_gap.specs.Laws.{GapApartLaw}
use Rattle.im_recut.specs.Recut.{IsGapLimit, cost_limit, GapsTo, RecutsFunction}
use Rattle.im_keeps_built.proofs.Reasons.{Before, Anything, behind_line, EndsLoop, IsWrite, no_reads, Fits, Reasoned, begins_at, ReasonedBlocks, ReasonedFunction, line_moved, loosened, blocks_known}
use Rattle.im_keeps_built.proofs.Numbers.{In, in_left, in_right, reads_of_line, reads_of_lines, reads_of_blocks, reads_in}

-- ---- gap cuts, none of them beside another cut

abbrev pub AllApartHere : List Block → Type 0
AllApartHere blocks = (b : ℕ) (block : Block) → slice_get blocks b ≡ Some block → CutsApart block.lines.items

apart_behind : (line : Line) (rest : List Line) → CutsApart (line ∷ rest) → CutsApart rest
apart_behind (Cut cause) rest a = a.1
apart_behind line rest a = a

apart_here : (line : Line) (rest : List Line) → CutsApart (line ∷ rest) → IsCut line → StartsWithCut rest → ⊥
apart_here (Cut cause) rest a c = a.0
apart_here line rest a c = absurd c

-- what is known of functions: whether a longest gap was asked for, and the numbers of their reads
abbrev pub known : Type 0 → List ℕ → Option ℕ → Type 0
known Asked reads None = Asked
known Asked reads (Some a) = In a reads

module _ (Asked : Type 0) (asked : Asked) (limit : ℕ) (was : List Block) (f : Function) (b : ℕ) (exit : Exit) where
  gap_ends : (n : ℕ) (old new : List Line) → GapLines limit was f b exit n old new → (StartsWithCut new → ⊥) → EndsLoop old exit → EndsLoop new exit
  gap_ends n old new (gaps.Empty k) uncut e = e
  gap_ends n old new (gaps.Same k line x y g) uncut e = absurd e
  gap_ends n old new (gaps.Added k x y long g) uncut e = absurd (uncut tt)

  gap_lines : (n : ℕ) (old new : List Line) (before : Before) → GapLines limit was f b exit n old new → CutsApart new → Reasoned no_reads exit before old → Reasoned (known Asked []) exit before new
  gap_lines n old new before (gaps.Empty k) apart r = tt
  gap_lines n old new before (gaps.Same k line x y g) apart r =
      (line_moved no_reads (known Asked []) (λ (no : ⊥). absurd no) (λ a no. no) before x y exit line (λ c. gap_ends (suc k) x y g (apart_here line y apart c)) r.0, gap_lines (suc k) x y (behind_line line) g (apart_behind line y apart) r.1)
  gap_lines n old new before (gaps.Added k x y long g) apart r = (asked, loosened (known Asked []) exit before Anything y apart.0 (gap_lines (suc k) x y before g apart.1 r))

gap_blocks : (Asked : Type 0) → Asked → (limit : ℕ) (was : List Block) (f : Function) (entry b : ℕ) (xs ys : List Block) → GapBlocks limit was f b xs ys → AllApartHere ys → ReasonedBlocks no_reads entry b xs → ReasonedBlocks (known Asked []) entry b ys
gap_blocks Asked asked limit was f entry b [] [] h apart r = tt
gap_blocks Asked asked limit was f entry b [] (y ∷ ys) h apart r = absurd h
gap_blocks Asked asked limit was f entry b (x ∷ xs) [] h apart r = absurd h
gap_blocks Asked asked limit was f entry b (x ∷ xs) (y ∷ ys) h apart r =
    let here = subst (λ e. Reasoned no_reads e (begins_at entry b) x.lines.items) (sym h.1) r.0 in
    (gap_lines Asked asked limit was f b y.exit 0 x.lines.items y.lines.items (begins_at entry b) h.0 (apart 0 y refl) here, gap_blocks Asked asked limit was f entry (suc b) xs ys h.2 (λ k block e. apart (suc k) block e) r.1)

gapped : GapApartLaw → (max_gap : Option ℕ) (old new : Function) → IsGapLimit max_gap → GapsTo max_gap old new → AllApartHere old.blocks.items → ReasonedFunction no_reads old → ReasonedFunction (known (max_gap ≡ None → ⊥) []) new
gapped law None old new limit h apart r = subst (ReasonedFunction (known (None ≡ None → ⊥) [])) (sym h) (blocks_known (known (None ≡ None → ⊥) []) old.entry 0 old.blocks.items r)
gapped law (Some gap) old new limit h apart r =
    let entry : new.entry ≡ old.entry = ap (λ (f : Function). f.entry) h.rest in
    let still = law (cost_limit gap) old new (omega arith) h apart in
    subst (λ e. ReasonedBlocks (known (Some gap ≡ None → ⊥) []) e 0 new.blocks.items) (sym entry) (gap_blocks (Some gap ≡ None → ⊥) (λ (e : Some gap ≡ None). absurd cc) (cost_limit gap) old.blocks.items new old.entry 0 old.blocks.items new.blocks.items h.blocks still r)

-- ---- the read of a greedy cut is one of a path

record Stands (blocks : List Block) (s : Spot) : Type 0 where
  block : Block
  before : List Line
  at : slice_get blocks s.block ≡ Some block
  lines : block.lines.items ≡ before ++ s.rest

start_stands : (f : Function) (causes : List Cause) (done : List Dep) (start : Spot) → Starts causes done f start → Stands f.blocks.items start
start_stands f causes done start starts =
    ⊎_elim
    (λ (e : IsEntry f start). subst (Stands f.blocks.items) (sym e.is) (record { block = e.block; before = []; at = e.at; lines = refl }))
    (λ (c : BehindCut causes done f.blocks.items start). record { block = c.block; before = c.before ++ Cut c.cause ∷ []; at = c.at; lines = c.lines ∙ sym (append_assoc c.before (Cut c.cause ∷ []) start.rest) })
    starts

stands : (blocks : List Block) (start : Spot) → Stands blocks start → (path : List Step) (s : Spot) → Path blocks start path s → Stands blocks s
stands blocks start first path s Here = first
stands blocks start first path s (Along p b line rest exit uncut q) =
    let k = stands blocks start first p (spot b (line ∷ rest) exit) q in
    record { block = k.block; before = k.before ++ line ∷ []; at = k.at; lines = k.lines ∙ sym (append_assoc k.before (line ∷ []) rest) }
stands blocks start first path s (Across p b exit c block edge at q) = record { block = block; before = []; at = at; lines = refl }

in_lines : (n : ℕ) (before : List Line) (line : Line) (rest : List Line) → In n (reads_of_line line) → In n (reads_of_lines (before ++ line ∷ rest))
in_lines n [] line rest h = in_left n (reads_of_line line) (reads_of_lines rest) h
in_lines n (x ∷ before) line rest h = in_right n (reads_of_line x) (reads_of_lines (before ++ line ∷ rest)) (in_lines n before line rest h)

here : (n : ℕ) (blocks : List Block) (b : ℕ) (line : Line) (rest : List Line) (exit : Exit) → Stands blocks (spot b (line ∷ rest) exit) → In n (reads_of_line line) → In n (reads_of_blocks blocks)
here n blocks b line rest exit s h =
    reads_in n blocks b s.block s.at (subst (λ l. In n (reads_of_lines l)) (sym s.lines) (in_lines n s.before line rest h))

abbrev Meets : List Step → Site → Type 0
Meets [] r = ⊥
Meets (ReadStep site ∷ path) r = (site ≡ r) ⊎ Meets path r
Meets (WriteStep site ∷ path) r = Meets path r

opened : (tags : Tags) (path : List Step) (r : Site) → Open tags path r → Meets path r
opened tags [] r h = h
opened tags (ReadStep site ∷ path) r (inl e) = inl e
opened tags (ReadStep site ∷ path) r (inr h) = inr (opened tags path r h)
opened tags (WriteStep site ∷ path) r h = opened tags path r h.1

either : (path more : List Step) (r : Site) → Meets (path ++ more) r → Meets path r ⊎ Meets more r
either [] more r h = inr h
either (ReadStep site ∷ path) more r (inl e) = inl (inl e)
either (ReadStep site ∷ path) more r (inr h) = elim (either path more r h) [
  | inl a ↦ inl (inr a)
  | inr b ↦ inr b
]
either (WriteStep site ∷ path) more r h = either path more r h

line_reads : (line : Line) (r : Site) → Meets (steps_of line) r → In r.number (reads_of_line line)
line_reads (Read to place kind access) r (inl e) = inl (ap (λ (s : Site). s.number) e)
line_reads (Read to place kind access) r (inr h) = absurd h
line_reads (Reload to slot access) r (inl e) = inl (ap (λ (s : Site). s.number) e)
line_reads (Reload to slot access) r (inr h) = absurd h
line_reads (Write place kind from access) r h = absurd h
line_reads (Spill slot from access) r h = absurd h
line_reads line r h = absurd h

path_reads : (blocks : List Block) (start : Spot) → Stands blocks start → (path : List Step) (s : Spot) → Path blocks start path s → (r : Site) → Meets path r → In r.number (reads_of_blocks blocks)
path_reads blocks start first path s Here r h = absurd h
path_reads blocks start first path s (Along p b line rest exit uncut q) r h = elim (either p (steps_of line) r h) [
  | inl a ↦ path_reads blocks start first p (spot b (line ∷ rest) exit) q r a
  | inr z ↦ here r.number blocks b line rest exit (stands blocks start first p (spot b (line ∷ rest) exit) q) (line_reads line r z)
]
path_reads blocks start first path s (Across p b exit c block edge at q) r h = path_reads blocks start first p (spot b [] exit) q r h

-- ---- greedy cuts, each directly before its write

writes : (line : Line) (w : Site) (d : Dep) → steps_of line ≡ WriteStep w ∷ [] → w.number ≡ d.write → IsWrite d.write line
writes (Read to place kind access) w d e n = absurd cc
writes (Reload to slot access) w d e n = absurd cc
writes (Write place kind from access) w d e n = let same : site_of access kind ≡ w = cc in ap (λ (s : Site). s.number) same ∙ n
writes (Spill slot from access) w d e n = let same : slot_site access slot ≡ w = cc in ap (λ (s : Site). s.number) same ∙ n
writes line w d e n = absurd cc

write_fits : (Known : Option ℕ → Type 0) (before : Before) (rest : List Line) (exit : Exit) (line : Line) (w : Site) → steps_of line ≡ WriteStep w ∷ [] → Fits Known before rest exit line
write_fits Known before rest exit (Cut cause) w e = absurd cc
write_fits Known before rest exit line w e = tt

module _ (Asked : Type 0) (tags : Tags) (f : Function) (causes : List Cause) where
  abbrev Known : Option ℕ → Type 0
  Known = known Asked (reads_of_blocks f.blocks.items)

  due_reads : (done : List Dep) (d : Dep) (w : Site) (at : Spot) → IsDue tags f causes done d w at → Known (Some d.read)
  due_reads done d w at due =
      subst (λ n. In n (reads_of_blocks f.blocks.items)) due.number
      (path_reads f.blocks.items due.start (start_stands f causes done due.start due.starts) due.path at due.goes due.read (opened tags due.path due.read due.opens))

  cut_ends : (b : ℕ) (exit : Exit) (done : List Dep) (old new : List Line) (added : List Dep) → CutLines tags f causes b exit done old new added → EndsLoop old exit → EndsLoop new exit
  cut_ends b exit done old new added (Empty d) e = e
  cut_ends b exit done old new added (Same d line x y more k) e = absurd e
  cut_ends b exit done old new added (Added d dep w line x y more is number due k) e = absurd e

  cut_lines : (b : ℕ) (exit : Exit) (done : List Dep) (old new : List Line) (added : List Dep) (before : Before) → CutLines tags f causes b exit done old new added → Reasoned (known Asked []) exit before old → Reasoned Known exit before new
  cut_lines b exit done old new added before (Empty d) r = tt
  cut_lines b exit done old new added before (Same d line x y more k) r =
      (line_moved (known Asked []) Known (λ (a : Asked). a) (λ a no. no) before x y exit line (λ c. cut_ends b exit d x y more k) r.0, cut_lines b exit d x y more (behind_line line) k r.1)
  cut_lines b exit done old new added before (Added d dep w line x y more is number due k) r =
      ((due_reads d dep w (spot b (Cut (cause_of dep) ∷ line ∷ y) exit) due, writes line w dep is number), (write_fits Known Anything y exit line w is, cut_lines b exit (d ++ dep ∷ []) x y more (behind_line line) k r.1))

  cut_blocks : (entry b : ℕ) (xs ys : List Block) (added : List Dep) → CutBlocks tags f causes b xs ys added → ReasonedBlocks (known Asked []) entry b xs → ReasonedBlocks Known entry b ys
  cut_blocks entry b [] [] added h r = tt
  cut_blocks entry b [] (y ∷ ys) added h r = absurd h
  cut_blocks entry b (x ∷ xs) [] added h r = absurd h
  cut_blocks entry b (x ∷ xs) (y ∷ ys) added h r =
      let here = subst (λ e. Reasoned (known Asked []) e (begins_at entry b) x.lines.items) (sym h.5) r.0 in
      (cut_lines b y.exit h.0 x.lines.items y.lines.items h.1 (begins_at entry b) h.4 here, cut_blocks entry (suc b) xs ys h.0 h.3 r.1)

pub function_recut : GapApartLaw → (tags : Tags) (max_gap : Option ℕ) (old new : Function) → IsGapLimit max_gap → RecutsFunction tags max_gap old new → AllApartHere old.blocks.items → ReasonedFunction no_reads old → ReasonedFunction (known (max_gap ≡ None → ⊥) (reads_of_blocks new.blocks.items)) new
function_recut law tags max_gap old new limit h apart r =
    let cuts = h.cuts in
    let entry : new.entry ≡ h.gapped.entry = ap (λ (f : Function). f.entry) cuts.rest in
    let before = gapped law max_gap old h.gapped limit h.gaps apart r in
    subst (λ e. ReasonedBlocks (known (max_gap ≡ None → ⊥) (reads_of_blocks new.blocks.items)) e 0 new.blocks.items) (sym entry)
    (cut_blocks (max_gap ≡ None → ⊥) tags new (causes_of_blocks h.gapped.blocks.items) h.gapped.entry 0 h.gapped.blocks.items new.blocks.items h.added cuts.blocks before)
