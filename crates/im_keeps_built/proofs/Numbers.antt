-- The numbers of reads and of writes: no read has that of a write.
use Rattle.std.proofs.Common.{◌≡◌, ◌⊎◌, inl, inr, ℕ, zero, suc, ◌<◌, Bool, true, false, List, [], ◌∷◌, ◌++◌, Option, Some, None, length, refl, sym, ap, ◌∙◌, subst, arith}
use Rattle.std.specs.Prelude.{◌==◌, if◌then◌else◌, slice_get}
use Rattle.im_block.specs.declared.code.Line.{Line}
use Rattle.im_block.specs.declared.code.Line.TheVariants.{Read, Write, Reload, Spill}
use Rattle.im_block.specs.declared.code.Block.{Block}
use Rattle.im_block.specs.declared.unit.Function.{Function}
use Rattle.im_block.specs.Wellformed.{accesses_of_line, accesses_of_lines, accesses_of_blocks, accesses_of_functions, AreApart}
use Rattle.im_select.specs.Emitted.{others_below, laid_order}
use Rattle.im_select.proofs.Ordering.{itself}
use Rattle.im_select.specs.Selects.{if_found, blocks_at, laid_blocks}

abbrev pub In : ℕ → List ℕ → Type 0
In x [] = ⊥
In x (y ∷ ys) = (y ≡ x) ⊎ In x ys

pub in_left : (x : ℕ) (xs ys : List ℕ) → In x xs → In x (xs ++ ys)
in_left x [] ys h = absurd h
in_left x (y ∷ xs) ys (inl e) = inl e
in_left x (y ∷ xs) ys (inr h) = inr (in_left x xs ys h)

pub in_right : (x : ℕ) (xs ys : List ℕ) → In x ys → In x (xs ++ ys)
in_right x [] ys h = h
in_right x (y ∷ xs) ys h = inr (in_right x xs ys h)

pub in_either : (x : ℕ) (xs ys : List ℕ) → In x (xs ++ ys) → In x xs ⊎ In x ys
in_either x [] ys h = inr h
in_either x (y ∷ xs) ys (inl e) = inl (inl e)
in_either x (y ∷ xs) ys (inr h) = elim (in_either x xs ys h) [
  | inl a ↦ inl (inr a)
  | inr b ↦ inr b
]

pub in_there : (x : ℕ) (xs : List ℕ) (k : ℕ) → slice_get xs k ≡ Some x → In x xs
in_there x [] k e = absurd cc
in_there x (y ∷ xs) zero e = inl (let q : Some y ≡ Some x = e in cc)
in_there x (y ∷ xs) (suc k) e = inr (in_there x xs k e)

-- ---- reads and writes

abbrev pub reads_of_line : Line → List ℕ
reads_of_line (Read to place kind access) = access ∷ []
reads_of_line (Reload to slot access) = access ∷ []
reads_of_line line = []

abbrev pub reads_of_lines : List Line → List ℕ
reads_of_lines [] = []
reads_of_lines (line ∷ lines) = reads_of_line line ++ reads_of_lines lines

abbrev pub reads_of_blocks : List Block → List ℕ
reads_of_blocks [] = []
reads_of_blocks (block ∷ blocks) = reads_of_lines block.lines.items ++ reads_of_blocks blocks

abbrev pub writes_of_line : Line → List ℕ
writes_of_line (Write place kind from access) = access ∷ []
writes_of_line (Spill slot from access) = access ∷ []
writes_of_line line = []

abbrev pub writes_of_lines : List Line → List ℕ
writes_of_lines [] = []
writes_of_lines (line ∷ lines) = writes_of_line line ++ writes_of_lines lines

abbrev pub writes_of_blocks : List Block → List ℕ
writes_of_blocks [] = []
writes_of_blocks (block ∷ blocks) = writes_of_lines block.lines.items ++ writes_of_blocks blocks

pub reads_in : (a : ℕ) (blocks : List Block) (b : ℕ) (block : Block) → slice_get blocks b ≡ Some block → In a (reads_of_lines block.lines.items) → In a (reads_of_blocks blocks)
reads_in a [] b block at h = absurd cc
reads_in a (x ∷ xs) zero block at h =
    let one : x ≡ block = cc in
    in_left a (reads_of_lines x.lines.items) (reads_of_blocks xs) (subst (λ (k : Block). In a (reads_of_lines k.lines.items)) (sym one) h)
reads_in a (x ∷ xs) (suc b) block at h = in_right a (reads_of_lines x.lines.items) (reads_of_blocks xs) (reads_in a xs b block at h)

pub writes_in : (a : ℕ) (blocks : List Block) (b : ℕ) (block : Block) → slice_get blocks b ≡ Some block → In a (writes_of_lines block.lines.items) → In a (writes_of_blocks blocks)
writes_in a [] b block at h = absurd cc
writes_in a (x ∷ xs) zero block at h =
    let one : x ≡ block = cc in
    in_left a (writes_of_lines x.lines.items) (writes_of_blocks xs) (subst (λ (k : Block). In a (writes_of_lines k.lines.items)) (sym one) h)
writes_in a (x ∷ xs) (suc b) block at h = in_right a (writes_of_lines x.lines.items) (writes_of_blocks xs) (writes_in a xs b block at h)

line_read : (a : ℕ) (line : Line) → In a (reads_of_line line) → In a (accesses_of_line line)
line_read a (Read to place kind access) h = h
line_read a (Reload to slot access) h = h
line_read a line h = absurd h

line_write : (a : ℕ) (line : Line) → In a (writes_of_line line) → In a (accesses_of_line line)
line_write a (Write place kind from access) h = h
line_write a (Spill slot from access) h = h
line_write a line h = absurd h

lines_read : (a : ℕ) (lines : List Line) → In a (reads_of_lines lines) → In a (accesses_of_lines lines)
lines_read a [] h = absurd h
lines_read a (line ∷ lines) h = elim (in_either a (reads_of_line line) (reads_of_lines lines) h) [
  | inl x ↦ in_left a (accesses_of_line line) (accesses_of_lines lines) (line_read a line x)
  | inr y ↦ in_right a (accesses_of_line line) (accesses_of_lines lines) (lines_read a lines y)
]

lines_write : (a : ℕ) (lines : List Line) → In a (writes_of_lines lines) → In a (accesses_of_lines lines)
lines_write a [] h = absurd h
lines_write a (line ∷ lines) h = elim (in_either a (writes_of_line line) (writes_of_lines lines) h) [
  | inl x ↦ in_left a (accesses_of_line line) (accesses_of_lines lines) (line_write a line x)
  | inr y ↦ in_right a (accesses_of_line line) (accesses_of_lines lines) (lines_write a lines y)
]

blocks_read : (a : ℕ) (blocks : List Block) → In a (reads_of_blocks blocks) → In a (accesses_of_blocks blocks)
blocks_read a [] h = absurd h
blocks_read a (x ∷ xs) h = elim (in_either a (reads_of_lines x.lines.items) (reads_of_blocks xs) h) [
  | inl p ↦ in_left a (accesses_of_lines x.lines.items) (accesses_of_blocks xs) (lines_read a x.lines.items p)
  | inr q ↦ in_right a (accesses_of_lines x.lines.items) (accesses_of_blocks xs) (blocks_read a xs q)
]

blocks_write : (a : ℕ) (blocks : List Block) → In a (writes_of_blocks blocks) → In a (accesses_of_blocks blocks)
blocks_write a [] h = absurd h
blocks_write a (x ∷ xs) h = elim (in_either a (writes_of_lines x.lines.items) (writes_of_blocks xs) h) [
  | inl p ↦ in_left a (accesses_of_lines x.lines.items) (accesses_of_blocks xs) (lines_write a x.lines.items p)
  | inr q ↦ in_right a (accesses_of_lines x.lines.items) (accesses_of_blocks xs) (blocks_write a xs q)
]

-- ---- lists in which no number stands twice

abbrev pub Distinct : List ℕ → Type 0
Distinct [] = Unit {0}
Distinct (x ∷ xs) = (In x xs → ⊥) × Distinct xs

there : (x : ℕ) (xs : List ℕ) → In x xs → (k : ℕ) × (slice_get xs k ≡ Some x)
there x [] h = absurd h
there x (y ∷ ys) (inl e) = (0, ap (λ z. Some z) e)
there x (y ∷ ys) (inr h) = let r = there x ys h in (suc r.0, r.1)

pub distinct : (xs : List ℕ) → AreApart xs → Distinct xs
distinct [] a = tt
distinct (x ∷ xs) a =
    ((λ h. let r = there x xs h in let bad : 0 ≡ suc r.0 = a.each 0 (suc r.0) x refl r.1 in absurd cc), distinct xs (record { each = λ i j n e g. let same : suc i ≡ suc j = a.each (suc i) (suc j) n e g in omega arith }))

pub distinct_left : (xs ys : List ℕ) → Distinct (xs ++ ys) → Distinct xs
distinct_left [] ys d = tt
distinct_left (x ∷ xs) ys d = ((λ h. d.0 (in_left x xs ys h)), distinct_left xs ys d.1)

pub distinct_right : (xs ys : List ℕ) → Distinct (xs ++ ys) → Distinct ys
distinct_right [] ys d = d
distinct_right (x ∷ xs) ys d = distinct_right xs ys d.1

pub distinct_both : (xs ys : List ℕ) (a : ℕ) → Distinct (xs ++ ys) → In a xs → In a ys → ⊥
distinct_both [] ys a d h g = h
distinct_both (x ∷ xs) ys a d (inl e) g = d.0 (in_right x xs ys (subst (λ z. In z ys) (sym e) g))
distinct_both (x ∷ xs) ys a d (inr h) g = distinct_both xs ys a d.1 h g

distinct_append : (xs ys : List ℕ) → Distinct xs → Distinct ys → ((a : ℕ) → In a xs → In a ys → ⊥) → Distinct (xs ++ ys)
distinct_append [] ys d e apart = e
distinct_append (x ∷ xs) ys d e apart =
    ((λ h. elim (in_either x xs ys h) [ inl a ↦ d.0 a | inr b ↦ apart x (inl refl) b ]), distinct_append xs ys d.1 e (λ a h g. apart a (inr h) g))

-- ---- of distinct accesses

line_once : (a : ℕ) (line : Line) → In a (reads_of_line line) → In a (writes_of_line line) → ⊥
line_once a (Write place kind from access) r w = r
line_once a (Spill slot from access) r w = r
line_once a line r w = w

lines_once : (a : ℕ) (lines : List Line) → Distinct (accesses_of_lines lines) → In a (reads_of_lines lines) → In a (writes_of_lines lines) → ⊥
lines_once a [] d r w = r
lines_once a (line ∷ lines) d r w =
    let apart = distinct_both (accesses_of_line line) (accesses_of_lines lines) a d in
    elim (in_either a (reads_of_line line) (reads_of_lines lines) r) [
      | inl p ↦ elim (in_either a (writes_of_line line) (writes_of_lines lines) w) [
        | inl q ↦ line_once a line p q
        | inr q ↦ apart (line_read a line p) (lines_write a lines q)
      ]
      | inr p ↦ elim (in_either a (writes_of_line line) (writes_of_lines lines) w) [
        | inl q ↦ apart (line_write a line q) (lines_read a lines p)
        | inr q ↦ lines_once a lines (distinct_right (accesses_of_line line) (accesses_of_lines lines) d) p q
      ]
    ]

pub blocks_once : (a : ℕ) (blocks : List Block) → Distinct (accesses_of_blocks blocks) → In a (reads_of_blocks blocks) → In a (writes_of_blocks blocks) → ⊥
blocks_once a [] d r w = r
blocks_once a (x ∷ xs) d r w =
    let apart = distinct_both (accesses_of_lines x.lines.items) (accesses_of_blocks xs) a d in
    elim (in_either a (reads_of_lines x.lines.items) (reads_of_blocks xs) r) [
      | inl p ↦ elim (in_either a (writes_of_lines x.lines.items) (writes_of_blocks xs) w) [
        | inl q ↦ lines_once a x.lines.items (distinct_left (accesses_of_lines x.lines.items) (accesses_of_blocks xs) d) p q
        | inr q ↦ apart (lines_read a x.lines.items p) (blocks_write a xs q)
      ]
      | inr p ↦ elim (in_either a (writes_of_lines x.lines.items) (writes_of_blocks xs) w) [
        | inl q ↦ apart (lines_write a x.lines.items q) (blocks_read a xs p)
        | inr q ↦ blocks_once a xs (distinct_right (accesses_of_lines x.lines.items) (accesses_of_blocks xs) d) p q
      ]
    ]

pub function_distinct : (fs : List Function) (i : ℕ) (f : Function) → Distinct (accesses_of_functions fs) → slice_get fs i ≡ Some f → Distinct (accesses_of_blocks f.blocks.items)
function_distinct [] i f d e = absurd cc
function_distinct (x ∷ xs) zero f d e =
    let same : x ≡ f = cc in
    subst (λ (g : Function). Distinct (accesses_of_blocks g.blocks.items)) same (distinct_left (accesses_of_blocks x.blocks.items) (accesses_of_functions xs) d)
function_distinct (x ∷ xs) (suc i) f d e = function_distinct xs i f (distinct_right (accesses_of_blocks x.blocks.items) (accesses_of_functions xs) d) e

-- ---- of blocks in the order in which they are laid

at_block : (blocks : List Block) (b : ℕ) (block : Block) (a : ℕ) → slice_get blocks b ≡ Some block → In a (accesses_of_lines block.lines.items) → In a (accesses_of_blocks blocks)
at_block [] b block a e h = absurd cc
at_block (x ∷ xs) zero block a e h =
    let same : x ≡ block = cc in
    in_left a (accesses_of_lines x.lines.items) (accesses_of_blocks xs) (subst (λ (z : Block). In a (accesses_of_lines z.lines.items)) (sym same) h)
at_block (x ∷ xs) (suc b) block a e h = in_right a (accesses_of_lines x.lines.items) (accesses_of_blocks xs) (at_block xs b block a e h)

-- two blocks that have an access in common are one
one_block : (blocks : List Block) (b c : ℕ) (x y : Block) (a : ℕ) → Distinct (accesses_of_blocks blocks) → slice_get blocks b ≡ Some x → slice_get blocks c ≡ Some y → In a (accesses_of_lines x.lines.items) → In a (accesses_of_lines y.lines.items) → b ≡ c
one_block [] b c x y a d e g h k = absurd cc
one_block (z ∷ zs) zero zero x y a d e g h k = refl
one_block (z ∷ zs) zero (suc c) x y a d e g h k =
    let same : z ≡ x = cc in
    absurd (distinct_both (accesses_of_lines z.lines.items) (accesses_of_blocks zs) a d (subst (λ (q : Block). In a (accesses_of_lines q.lines.items)) (sym same) h) (at_block zs c y a g k))
one_block (z ∷ zs) (suc b) zero x y a d e g h k =
    let same : z ≡ y = cc in
    absurd (distinct_both (accesses_of_lines z.lines.items) (accesses_of_blocks zs) a d (subst (λ (q : Block). In a (accesses_of_lines q.lines.items)) (sym same) k) (at_block zs b x a e h))
one_block (z ∷ zs) (suc b) (suc c) x y a d e g h k =
    ap suc (one_block zs b c x y a (distinct_right (accesses_of_lines z.lines.items) (accesses_of_blocks zs) d) e g h k)

block_distinct : (blocks : List Block) (b : ℕ) (x : Block) → Distinct (accesses_of_blocks blocks) → slice_get blocks b ≡ Some x → Distinct (accesses_of_lines x.lines.items)
block_distinct [] b x d e = absurd cc
block_distinct (z ∷ zs) zero x d e =
    let same : z ≡ x = cc in
    subst (λ (q : Block). Distinct (accesses_of_lines q.lines.items)) same (distinct_left (accesses_of_lines z.lines.items) (accesses_of_blocks zs) d)
block_distinct (z ∷ zs) (suc b) x d e = block_distinct zs b x (distinct_right (accesses_of_lines z.lines.items) (accesses_of_blocks zs) d) e

-- an access of blocks in an order is one of a block that the order names
record Named (blocks : List Block) (order : List ℕ) (a : ℕ) : Type 0 where
  b : ℕ
  x : Block
  among : In b order
  at : slice_get blocks b ≡ Some x
  is : In a (accesses_of_lines x.lines.items)

later : (blocks : List Block) (b : ℕ) (order : List ℕ) (a : ℕ) → Named blocks order a → Named blocks (b ∷ order) a
later blocks b order a n = record { b = n.b; x = n.x; among = inr n.among; at = n.at; is = n.is }

named_by : (blocks : List Block) (b : ℕ) (order : List ℕ) (a : ℕ) → (In a (accesses_of_blocks (blocks_at blocks order)) → Named blocks order a) → (o : Option Block) → slice_get blocks b ≡ o → In a (accesses_of_blocks (if_found o (blocks_at blocks order))) → Named blocks (b ∷ order) a
named_by blocks b order a rest None e g = later blocks b order a (rest g)
named_by blocks b order a rest (Some x) e g = elim (in_either a (accesses_of_lines x.lines.items) (accesses_of_blocks (blocks_at blocks order)) g) [
  | inl p ↦ record { b = b; x = x; among = inl refl; at = e; is = p }
  | inr q ↦ later blocks b order a (rest q)
]

named : (blocks : List Block) (order : List ℕ) (a : ℕ) → In a (accesses_of_blocks (blocks_at blocks order)) → Named blocks order a
named blocks [] a h = absurd h
named blocks (b ∷ order) a h = named_by blocks b order a (named blocks order a) (slice_get blocks b) refl h

order_by : (blocks : List Block) (b : ℕ) (order : List ℕ) → Distinct (accesses_of_blocks blocks) → (In b order → ⊥) → Distinct (accesses_of_blocks (blocks_at blocks order)) → (q : Option Block) → slice_get blocks b ≡ q → Distinct (accesses_of_blocks (if_found q (blocks_at blocks order)))
order_by blocks b order d once rest None e = rest
order_by blocks b order d once rest (Some x) e =
    distinct_append (accesses_of_lines x.lines.items) (accesses_of_blocks (blocks_at blocks order)) (block_distinct blocks b x d e) rest
    (λ a h g. let n = named blocks order a g in once (subst (λ z. In z order) (sym (one_block blocks b n.b x n.x a d e n.at h n.is)) n.among))

order_distinct : (blocks : List Block) (order : List ℕ) → Distinct (accesses_of_blocks blocks) → Distinct order → Distinct (accesses_of_blocks (blocks_at blocks order))
order_distinct blocks [] d o = tt
order_distinct blocks (b ∷ order) d o = order_by blocks b order d o.0 (order_distinct blocks order d o.1) (slice_get blocks b) refl

not_itself : (n : ℕ) → (n == n) ≡ false → ⊥
not_itself n e = let same = itself n in absurd cc

-- the numbers of others are below n, and none is the entry's
abbrev Below : ℕ → ℕ → ℕ → Type 0
Below entry n k = (k ≡ entry → ⊥) × (k < n)

deeper : (entry n k : ℕ) → Below entry n k → Below entry (suc n) k
deeper entry n k h = (h.0, (let e = h.1 in omega arith))

below_by : (entry n k : ℕ) → (In k (others_below entry n) → Below entry n k) → (q : Bool) → (n == entry) ≡ q → In k (if q then others_below entry n else n ∷ others_below entry n) → Below entry (suc n) k
below_by entry n k rest true e g = deeper entry n k (rest g)
below_by entry n k rest false e (inl g) = ((λ z. let same : n ≡ entry = g ∙ z in let bad = ap (λ (m : ℕ). m == entry) same in not_itself entry (sym bad ∙ e)), (omega arith))
below_by entry n k rest false e (inr g) = deeper entry n k (rest g)

pub below : (entry n k : ℕ) → In k (others_below entry n) → Below entry n k
below entry zero k h = absurd h
below entry (suc n) k h = below_by entry n k (below entry n k) (n == entry) refl h

others_by : (entry n : ℕ) → Distinct (others_below entry n) → (q : Bool) → Distinct (if q then others_below entry n else n ∷ others_below entry n)
others_by entry n rest true = rest
others_by entry n rest false = ((λ h. let r = below entry n n h in let e = r.1 in omega arith), rest)

others_distinct : (entry n : ℕ) → Distinct (others_below entry n)
others_distinct entry zero = tt
others_distinct entry (suc n) = others_by entry n (others_distinct entry n) (n == entry)

pub laid_distinct : (entry : ℕ) (blocks : List Block) → Distinct (accesses_of_blocks blocks) → Distinct (accesses_of_blocks (laid_blocks entry blocks))
laid_distinct entry blocks d =
    order_distinct blocks (laid_order entry (length blocks)) d ((λ h. (below entry (length blocks) entry h).0 refl), others_distinct entry (length blocks))
