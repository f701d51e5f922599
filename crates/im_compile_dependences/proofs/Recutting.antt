-- Gap cuts name no access. Greedy cuts: each names the write behind it, and a read of the path for which it stands.
use Rattle.std.proofs.Common.{◌≡◌, ◌⊎◌, inl, inr, ℕ, zero, suc, List, [], ◌∷◌, ◌++◌, Option, Some, None, refl, sym, ap, ◌∙◌, subst, ⊎_elim, append_assoc}
use Rattle.std.specs.Prelude.{slice_get}
use Rattle.im_num.specs.declared.values.Cause.{Cause}
use Rattle.im_num.specs.declared.values.Cause.TheVariants.{Gap}
use Rattle.im_block.specs.declared.access.Tags.{Tags}
use Rattle.im_block.specs.declared.access.Dep.{Dep}
use Rattle.im_block.specs.declared.code.Line.{Line}
use Rattle.im_block.specs.declared.code.Line.TheVariants.{Read, Write, Reload, Spill, Cut}
use Rattle.im_block.specs.declared.code.Exit.{Exit}
use Rattle.im_block.specs.declared.code.Block.{Block}
use Rattle.im_block.specs.declared.unit.Function.{Function}
use Rattle.im_block.specs.Meaning.{Site, site_of, slot_site, Spot}
use Rattle.im_block.specs.Paths.{Step, ReadStep, WriteStep, steps_of, Open, spot, Path, Here, Along, Across, IsEntry}
use Rattle.im_block.specs.Wellformed.{accesses_of_line, accesses_of_lines, accesses_of_blocks}
use Rattle.im_select.specs.Selects.{causes_of_line, causes_of_lines, causes_of_blocks}
use Rattle.im_link_laws.specs.Laws.{NamesOwn}
use Rattle.im_cut.specs.Greedy as greedy
use Rattle.im_cut.specs.Greedy.{cause_of, BehindCut, Starts, IsDue, CutLines, Empty, Same, Added, CutBlocks, CutsTo}
use Rattle.im_cut_gap.specs.Gaps as gaps
use Rattle.im_cut_gap.specs.Gaps.{GapLines, GapBlocks, GapCutsTo}
use Rattle.im_recut.specs.Recut.{cost_limit, GapsTo, RecutsFunctions}
use Rattle.im_compile_dependences.specs.Laws.{RecutNames}
use Rattle.im_compile_dependences.proofs.Members.{In, in_left, in_right, in_either, Names, all_named, names_own, Names_each, next}

-- where a path comes to

record Stands (blocks : List Block) (s : Spot) : Type 0 where
  block : Block
  before : List Line
  at : slice_get blocks s.block ≡ Some block
  lines : block.lines.items ≡ before ++ s.rest

start_stands : (f : Function) (causes : List Cause) (done : List Dep) (start : Spot) → Starts causes done f start → Stands f.blocks.items start
start_stands f causes done start starts =
    ⊎_elim
    (λ (e : IsEntry f start). subst (Stands f.blocks.items) (sym e.is) (record { block = e.block; before = []; at = e.at; lines = refl }))
    (λ (c : BehindCut causes done f.blocks.items start). record { block = c.block; before = c.before ++ Cut c.cause ∷ []; at = c.at; lines = c.lines ∙ sym (append_assoc c.before (Cut c.cause ∷ []) start.rest) })
    starts

stands : (blocks : List Block) (start : Spot) → Stands blocks start → (path : List Step) (s : Spot) → Path blocks start path s → Stands blocks s
stands blocks start first path s Here = first
stands blocks start first path s (Along p b line rest exit uncut q) =
    let k = stands blocks start first p (spot b (line ∷ rest) exit) q in
    record { block = k.block; before = k.before ++ line ∷ []; at = k.at; lines = k.lines ∙ sym (append_assoc k.before (line ∷ []) rest) }
stands blocks start first path s (Across p b exit c block edge at q) = record { block = block; before = []; at = at; lines = refl }

-- a line of a block has its accesses in all blocks

in_lines : (n : ℕ) (before : List Line) (line : Line) (rest : List Line) → In n (accesses_of_line line) → In n (accesses_of_lines (before ++ line ∷ rest))
in_lines n [] line rest h = in_left n (accesses_of_line line) (accesses_of_lines rest) h
in_lines n (x ∷ before) line rest h = in_right n (accesses_of_line x) (accesses_of_lines (before ++ line ∷ rest)) (in_lines n before line rest h)

in_blocks : (n : ℕ) (blocks : List Block) (b : ℕ) (block : Block) → slice_get blocks b ≡ Some block → In n (accesses_of_lines block.lines.items) → In n (accesses_of_blocks blocks)
in_blocks n [] b block at h = cc
in_blocks n (x ∷ xs) zero block at h =
    let one : x ≡ block = cc in
    in_left n (accesses_of_lines x.lines.items) (accesses_of_blocks xs) (subst (λ (k : Block). In n (accesses_of_lines k.lines.items)) (sym one) h)
in_blocks n (x ∷ xs) (suc b) block at h = in_right n (accesses_of_lines x.lines.items) (accesses_of_blocks xs) (in_blocks n xs b block at h)

here : (n : ℕ) (blocks : List Block) (b : ℕ) (line : Line) (rest : List Line) (exit : Exit) → Stands blocks (spot b (line ∷ rest) exit) → In n (accesses_of_line line) → In n (accesses_of_blocks blocks)
here n blocks b line rest exit s h =
    in_blocks n blocks b s.block s.at (subst (λ l. In n (accesses_of_lines l)) (sym s.lines) (in_lines n s.before line rest h))

-- a path reads at a site

abbrev Meets : List Step → Site → Type 0
Meets [] r = ⊥
Meets (ReadStep site ∷ path) r = (site ≡ r) ⊎ Meets path r
Meets (WriteStep site ∷ path) r = Meets path r

opened : (tags : Tags) (path : List Step) (r : Site) → Open tags path r → Meets path r
opened tags [] r h = h
opened tags (ReadStep site ∷ path) r (inl e) = inl e
opened tags (ReadStep site ∷ path) r (inr h) = inr (opened tags path r h)
opened tags (WriteStep site ∷ path) r h = opened tags path r h.1

either : (path more : List Step) (r : Site) → Meets (path ++ more) r → Meets path r ⊎ Meets more r
either [] more r h = inr h
either (ReadStep site ∷ path) more r (inl e) = inl (inl e)
either (ReadStep site ∷ path) more r (inr h) = elim (either path more r h) [
  | inl a ↦ inl (inr a)
  | inr b ↦ inr b
]
either (WriteStep site ∷ path) more r h = either path more r h

line_reads : (line : Line) (r : Site) → Meets (steps_of line) r → In r.number (accesses_of_line line)
line_reads (Read to place kind access) r (inl e) = inl (ap (λ (s : Site). s.number) e)
line_reads (Read to place kind access) r (inr h) = absurd h
line_reads (Reload to slot access) r (inl e) = inl (ap (λ (s : Site). s.number) e)
line_reads (Reload to slot access) r (inr h) = absurd h
line_reads (Write place kind from access) r h = absurd h
line_reads (Spill slot from access) r h = absurd h
line_reads line r h = absurd h

line_writes : (line : Line) (w : Site) → steps_of line ≡ WriteStep w ∷ [] → In w.number (accesses_of_line line)
line_writes (Read to place kind access) w e = cc
line_writes (Reload to slot access) w e = cc
line_writes (Write place kind from access) w e = let same : site_of access kind ≡ w = cc in inl (ap (λ (s : Site). s.number) same)
line_writes (Spill slot from access) w e = let same : slot_site access slot ≡ w = cc in inl (ap (λ (s : Site). s.number) same)
line_writes line w e = cc

path_reads : (blocks : List Block) (start : Spot) → Stands blocks start → (path : List Step) (s : Spot) → Path blocks start path s → (r : Site) → Meets path r → In r.number (accesses_of_blocks blocks)
path_reads blocks start first path s Here r h = absurd h
path_reads blocks start first path s (Along p b line rest exit uncut q) r h = elim (either p (steps_of line) r h) [
  | inl a ↦ path_reads blocks start first p (spot b (line ∷ rest) exit) q r a
  | inr z ↦ here r.number blocks b line rest exit (stands blocks start first p (spot b (line ∷ rest) exit) q) (line_reads line r z)
]
path_reads blocks start first path s (Across p b exit c block edge at q) r h = path_reads blocks start first p (spot b [] exit) q r h

-- what a cut names

abbrev Own : Function → Cause → Type 0
Own f cause = Names (accesses_of_blocks f.blocks.items) cause

due_named : (tags : Tags) (f : Function) (causes : List Cause) (done : List Dep) (d : Dep) (w : Site) (b : ℕ) (line : Line) (rest : List Line) (exit : Exit) → steps_of line ≡ WriteStep w ∷ [] → w.number ≡ d.write → IsDue tags f causes done d w (spot b (Cut (cause_of d) ∷ line ∷ rest) exit) → Own f (cause_of d)
due_named tags f causes done d w b line rest exit is number due =
    let blocks = f.blocks.items in
    let first = start_stands f causes done due.start due.starts in
    let s = stands blocks due.start first due.path (spot b (Cut (cause_of d) ∷ line ∷ rest) exit) due.goes in
    let behind : Stands blocks (spot b (line ∷ rest) exit) =
    record { block = s.block; before = s.before ++ Cut (cause_of d) ∷ []; at = s.at; lines = s.lines ∙ sym (append_assoc s.before (Cut (cause_of d) ∷ []) (line ∷ rest)) } in
    let read = path_reads blocks due.start first due.path (spot b (Cut (cause_of d) ∷ line ∷ rest) exit) due.goes due.read (opened tags due.path due.read due.opens) in
    let write = here w.number blocks b line rest exit behind (line_writes line w is) in
    (subst (λ n. In n (accesses_of_blocks blocks)) due.number read, subst (λ n. In n (accesses_of_blocks blocks)) number write)

-- each cut is an old one or an added one

module _ (tags : Tags) (f : Function) (causes : List Cause) where
  lines_named : (b : ℕ) (exit : Exit) (done : List Dep) (old new : List Line) (added : List Dep) → CutLines tags f causes b exit done old new added → (c : Cause) → In c (causes_of_lines new) → In c (causes_of_lines old) ⊎ Own f c
  lines_named b exit done old new added (Empty d) c h = absurd h
  lines_named b exit done old new added (Same d line x y more k) c h = elim (in_either c (causes_of_line line) (causes_of_lines y) h) [
    | inl a ↦ inl (in_left c (causes_of_line line) (causes_of_lines x) a)
    | inr z ↦ elim (lines_named b exit d x y more k c z) [
      | inl p ↦ inl (in_right c (causes_of_line line) (causes_of_lines x) p)
      | inr q ↦ inr q
    ]
  ]
  lines_named b exit done old new added (Added d dep w line x y more is number due k) c (inl e) = inr (subst (Own f) e (due_named tags f causes d dep w b line y exit is number due))
  lines_named b exit done old new added (Added d dep w line x y more is number due k) c (inr h) = elim (in_either c (causes_of_line line) (causes_of_lines y) h) [
    | inl a ↦ inl (in_left c (causes_of_line line) (causes_of_lines x) a)
    | inr z ↦ elim (lines_named b exit (d ++ dep ∷ []) x y more k c z) [
      | inl p ↦ inl (in_right c (causes_of_line line) (causes_of_lines x) p)
      | inr q ↦ inr q
    ]
  ]

  lines_accesses : (b : ℕ) (exit : Exit) (done : List Dep) (old new : List Line) (added : List Dep) → CutLines tags f causes b exit done old new added → accesses_of_lines new ≡ accesses_of_lines old
  lines_accesses b exit done old new added (Empty d) = refl
  lines_accesses b exit done old new added (Same d line x y more k) = ap (λ l. accesses_of_line line ++ l) (lines_accesses b exit d x y more k)
  lines_accesses b exit done old new added (Added d dep w line x y more is number due k) = ap (λ l. accesses_of_line line ++ l) (lines_accesses b exit (d ++ dep ∷ []) x y more k)

  blocks_named : (b : ℕ) (xs ys : List Block) (added : List Dep) → CutBlocks tags f causes b xs ys added → (c : Cause) → In c (causes_of_blocks ys) → In c (causes_of_blocks xs) ⊎ Own f c
  blocks_named b [] [] added h c i = absurd i
  blocks_named b [] (y ∷ ys) added h c i = absurd h
  blocks_named b (x ∷ xs) [] added h c i = absurd h
  blocks_named b (x ∷ xs) (y ∷ ys) added h c i = elim (in_either c (causes_of_lines y.lines.items) (causes_of_blocks ys) i) [
    | inl a ↦ elim (lines_named b y.exit h.0 x.lines.items y.lines.items h.1 h.4 c a) [
      | inl p ↦ inl (in_left c (causes_of_lines x.lines.items) (causes_of_blocks xs) p)
      | inr q ↦ inr q
    ]
    | inr z ↦ elim (blocks_named (suc b) xs ys h.0 h.3 c z) [
      | inl p ↦ inl (in_right c (causes_of_lines x.lines.items) (causes_of_blocks xs) p)
      | inr q ↦ inr q
    ]
  ]

  blocks_accesses : (b : ℕ) (xs ys : List Block) (added : List Dep) → CutBlocks tags f causes b xs ys added → accesses_of_blocks ys ≡ accesses_of_blocks xs
  blocks_accesses b [] [] added h = refl
  blocks_accesses b [] (y ∷ ys) added h = absurd h
  blocks_accesses b (x ∷ xs) [] added h = absurd h
  blocks_accesses b (x ∷ xs) (y ∷ ys) added h =
      ap (λ l. l ++ accesses_of_blocks ys) (lines_accesses b y.exit h.0 x.lines.items y.lines.items h.1 h.4) ∙ ap (λ l. accesses_of_lines x.lines.items ++ l) (blocks_accesses (suc b) xs ys h.0 h.3)

function_named : (tags : Tags) (old new : Function) (added : List Dep) → CutsTo tags old new added → NamesOwn (causes_of_blocks old.blocks.items) (accesses_of_blocks old.blocks.items) → NamesOwn (causes_of_blocks new.blocks.items) (accesses_of_blocks new.blocks.items)
function_named tags old new added h names =
    names_own (causes_of_blocks new.blocks.items) (accesses_of_blocks new.blocks.items) each
  where
    known : List Cause
    known = greedy.causes_of_blocks old.blocks.items

    same : accesses_of_blocks new.blocks.items ≡ accesses_of_blocks old.blocks.items
    same = blocks_accesses tags new known 0 old.blocks.items new.blocks.items added h.blocks

    each : (c : Cause) → In c (causes_of_blocks new.blocks.items) → Names (accesses_of_blocks new.blocks.items) c
    each c i = elim (blocks_named tags new known 0 old.blocks.items new.blocks.items added h.blocks c i) [
      | inl a ↦ subst (λ l. Names l c) (sym same) (all_named (causes_of_blocks old.blocks.items) (accesses_of_blocks old.blocks.items) names c a)
      | inr b ↦ b
    ]

-- gap cuts name nothing

module _ (limit : ℕ) (was : List Block) (f : Function) where
  gap_lines_named : (b : ℕ) (exit : Exit) (n : ℕ) (old new : List Line) → GapLines limit was f b exit n old new → (c : Cause) → In c (causes_of_lines new) → In c (causes_of_lines old) ⊎ (c ≡ Gap)
  gap_lines_named b exit n old new (gaps.Empty k) c h = absurd h
  gap_lines_named b exit n old new (gaps.Same k line x y g) c h = elim (in_either c (causes_of_line line) (causes_of_lines y) h) [
    | inl a ↦ inl (in_left c (causes_of_line line) (causes_of_lines x) a)
    | inr z ↦ elim (gap_lines_named b exit (suc k) x y g c z) [
      | inl p ↦ inl (in_right c (causes_of_line line) (causes_of_lines x) p)
      | inr q ↦ inr q
    ]
  ]
  gap_lines_named b exit n old new (gaps.Added k x y due g) c (inl e) = inr (sym e)
  gap_lines_named b exit n old new (gaps.Added k x y due g) c (inr h) = gap_lines_named b exit (suc k) x y g c h

  gap_lines_accesses : (b : ℕ) (exit : Exit) (n : ℕ) (old new : List Line) → GapLines limit was f b exit n old new → accesses_of_lines new ≡ accesses_of_lines old
  gap_lines_accesses b exit n old new (gaps.Empty k) = refl
  gap_lines_accesses b exit n old new (gaps.Same k line x y g) = ap (λ l. accesses_of_line line ++ l) (gap_lines_accesses b exit (suc k) x y g)
  gap_lines_accesses b exit n old new (gaps.Added k x y due g) = gap_lines_accesses b exit (suc k) x y g

  gap_blocks_named : (b : ℕ) (xs ys : List Block) → GapBlocks limit was f b xs ys → (c : Cause) → In c (causes_of_blocks ys) → In c (causes_of_blocks xs) ⊎ (c ≡ Gap)
  gap_blocks_named b [] [] h c i = absurd i
  gap_blocks_named b [] (y ∷ ys) h c i = absurd h
  gap_blocks_named b (x ∷ xs) [] h c i = absurd h
  gap_blocks_named b (x ∷ xs) (y ∷ ys) h c i = elim (in_either c (causes_of_lines y.lines.items) (causes_of_blocks ys) i) [
    | inl a ↦ elim (gap_lines_named b y.exit 0 x.lines.items y.lines.items h.0 c a) [
      | inl p ↦ inl (in_left c (causes_of_lines x.lines.items) (causes_of_blocks xs) p)
      | inr q ↦ inr q
    ]
    | inr z ↦ elim (gap_blocks_named (suc b) xs ys h.2 c z) [
      | inl p ↦ inl (in_right c (causes_of_lines x.lines.items) (causes_of_blocks xs) p)
      | inr q ↦ inr q
    ]
  ]

  gap_blocks_accesses : (b : ℕ) (xs ys : List Block) → GapBlocks limit was f b xs ys → accesses_of_blocks ys ≡ accesses_of_blocks xs
  gap_blocks_accesses b [] [] h = refl
  gap_blocks_accesses b [] (y ∷ ys) h = absurd h
  gap_blocks_accesses b (x ∷ xs) [] h = absurd h
  gap_blocks_accesses b (x ∷ xs) (y ∷ ys) h =
      ap (λ l. l ++ accesses_of_blocks ys) (gap_lines_accesses b y.exit 0 x.lines.items y.lines.items h.0) ∙ ap (λ l. accesses_of_lines x.lines.items ++ l) (gap_blocks_accesses (suc b) xs ys h.2)

gapped_named : (limit : ℕ) (old new : Function) → GapCutsTo limit old new → NamesOwn (causes_of_blocks old.blocks.items) (accesses_of_blocks old.blocks.items) → NamesOwn (causes_of_blocks new.blocks.items) (accesses_of_blocks new.blocks.items)
gapped_named limit old new h names =
    names_own (causes_of_blocks new.blocks.items) (accesses_of_blocks new.blocks.items) each
  where
    same : accesses_of_blocks new.blocks.items ≡ accesses_of_blocks old.blocks.items
    same = gap_blocks_accesses limit old.blocks.items new 0 old.blocks.items new.blocks.items h.blocks

    each : (c : Cause) → In c (causes_of_blocks new.blocks.items) → Names (accesses_of_blocks new.blocks.items) c
    each c i = elim (gap_blocks_named limit old.blocks.items new 0 old.blocks.items new.blocks.items h.blocks c i) [
      | inl a ↦ subst (λ l. Names l c) (sym same) (all_named (causes_of_blocks old.blocks.items) (accesses_of_blocks old.blocks.items) names c a)
      | inr e ↦ subst (Names (accesses_of_blocks new.blocks.items)) (sym e) tt
    ]

gaps_named : (max_gap : Option ℕ) (old new : Function) → GapsTo max_gap old new → NamesOwn (causes_of_blocks old.blocks.items) (accesses_of_blocks old.blocks.items) → NamesOwn (causes_of_blocks new.blocks.items) (accesses_of_blocks new.blocks.items)
gaps_named None old new h names = subst (λ (f : Function). NamesOwn (causes_of_blocks f.blocks.items) (accesses_of_blocks f.blocks.items)) (sym h) names
gaps_named (Some gap) old new h names = gapped_named (cost_limit gap) old new h names

functions : (tags : Tags) (max_gap : Option ℕ) (fs gs : List Function) → RecutsFunctions tags max_gap fs gs → Names_each fs → Names_each gs
functions tags max_gap [] [] h names = names
functions tags max_gap [] (g ∷ gs) h names = absurd h
functions tags max_gap (f ∷ fs) [] h names = absurd h
functions tags max_gap (f ∷ fs) (g ∷ gs) h names =
    next g gs (function_named tags h.0.gapped g h.0.added h.0.cuts (gaps_named max_gap f h.0.gapped h.0.gaps (names 0 f refl))) (functions tags max_gap fs gs h.1 (λ i k e. names (suc i) k e))

pub recut : RecutNames
recut tags max_gap old new h names = record { each = functions tags max_gap old.functions.items new.functions.items h.functions names.each }
