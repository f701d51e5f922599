-- From lines of a list to lines at their places.
use Rattle.std.proofs.Common.{◌≡◌, ℕ, suc, ◌+◌, ◌-◌, ◌%◌, ◌^◌, ◌<◌, ◌≤◌, inl, inr, List, [], ◌∷◌, Option, Some, None, sym, ap, ◌∙◌, subst, arith}
use Rattle.im_num.specs.declared.kind.Kind.{Kind}
use Rattle.im_num.specs.declared.values.Cause.{Cause}
use Rattle.im_rv.specs.declared.instr.Op.{Op}
use Rattle.im_rv.specs.declared.instr.Op.TheVariants.{Bltu}
use Rattle.im_rv.specs.Steps.{sum_of}
use Rattle.im_rv.specs.Decode.{Line as Instruction}
use Rattle.im_rv_reach.specs.Instructions.{Holds, Splits, jumping, branching}
use Rattle.im_store.specs.declared.operators.Comparison.{Comparison}
use Rattle.im_store.specs.Objects.{Name, Named, Slot}
use Rattle.im_block.specs.declared.code.Place.{Place}
use Rattle.im_block.specs.declared.code.Line.{Line}
use Rattle.im_block.specs.declared.code.Exit.{Exit}
use Rattle.im_block.specs.declared.code.Exit.TheVariants.{Jump, Turn, Branch, Return}
use Rattle.im_block.specs.declared.code.Block.{Block}
use Rattle.im_select_relation.specs.Linking.{Linking, frame_of}
use Rattle.im_select_relation.specs.Selected.{Constant, Displaced, Based, Adds, Compared, Copied, Converted, Scaled, Selected, Jumps, Continues, Test, nonzero, comparing, or_zero, Tested, Leaves, ExitAt, Joined, ComparedBy, Folded, Stands, Checked, Prologue}
use Rattle.im_select_relation.specs.Selected as linked
use Rattle.im_select_relation.specs.Symbolic.{Lines, HasLine, ConstantIn, Small, Large, DisplacedIn, Near, Far, BasedIn, InFrame, InStatic, Behind, AddsIn, Short, Long, ComparedIn, Lesser, Larger, NotLarger, NotLesser, Same, Other, CopiedIn, Already, Moved, ConvertedIn, Whole, Masked, Narrowed, ScaledIn, Bytes, Shifted, Multiplied, SelectedIn, Numbers, Nulls, Copies, Converts, Negates, Complements, Nots, Computes, Compares, Moves, Measures, Addresses, AddressesPage, Fetches, StoresValue, Reloads, Spills, Cuts_, Calls, Serves_, JumpsIn, ContinuesIn, Falls, Leaps, TestedIn, Reached, Missed, Hopped, Skipped, LeavesIn, ExitIn, JoinedIn, Decides, DecidesByZero, ComparedByIn, LesserBy, NotLesserBy, NotLargerBy, LargerBy, SameZero, SameBy, OtherZero, OtherBy, FoldedIn, ComputesBy, ComputesFrom, ComparesBy, StoresZero, StandsIn, CheckedIn, Direct, Around, PrologueIn, spot_of, distance, IsLaid, LinesLaw, FrameLaw}

lands : (pc target : ℕ) → pc + 4 ≤ 1048576 → target < 2 ^ 32 → sum_of pc (distance pc target) ≡ target
lands pc target a b = omega arith

-- an instruction with nothing to resolve, and one that is aimed at a label
plain : (p : Linking) (i : ℕ) (w : Lines) (place starts : ℕ → ℕ) → IsLaid p i w place starts → (k : ℕ) (m : Instruction) (access : Option ℕ) (cause : Option Cause) → HasLine w k m None access cause → Holds p.image (spot_of (p.entry i) k) m
plain p i w place starts l k m access cause h = l.each k m None access cause h

aimed : (p : Linking) (i : ℕ) (w : Lines) (place starts : ℕ → ℕ) → IsLaid p i w place starts → (k : ℕ) (m : Instruction) (label target : ℕ) (cause : Option Cause) → place label ≡ target → HasLine w k m (Some label) None cause → Holds p.image (spot_of (p.entry i) k) (record m { imm = distance (spot_of (p.entry i) k) target })
aimed p i w place starts l k m label target cause e h = subst (λ z. Holds p.image (spot_of (p.entry i) k) (record m { imm = distance (spot_of (p.entry i) k) z })) e (l.each k m (Some label) None cause h)

-- a place of the code is a word
small_place : (p : Linking) (i : ℕ) (w : Lines) (place starts : ℕ → ℕ) → IsLaid p i w place starts → (label target : ℕ) → place label ≡ target → target < 2 ^ 32
small_place p i w place starts l label target e = let s = l.small label in omega arith

constant : (p : Linking) (i : ℕ) (w : Lines) (place starts : ℕ → ℕ) → IsLaid p i w place starts → (k rd n next : ℕ) → ConstantIn w k rd n next → Constant p (spot_of (p.entry i) k) rd n (spot_of (p.entry i) next)
constant p i w place starts l k rd n next (Small m s a) = linked.Small m s (plain p i w place starts l k _ None None a)
constant p i w place starts l k rd n next (Large m hi lo s a b) = linked.Large m hi lo s (plain p i w place starts l k _ None None a) (plain p i w place starts l (suc k) _ None None b)

displaced : (p : Linking) (i : ℕ) (w : Lines) (place starts : ℕ → ℕ) → IsLaid p i w place starts → (k r n base imm next : ℕ) → DisplacedIn w k r n base imm next → Displaced p (spot_of (p.entry i) k) r n base imm (spot_of (p.entry i) next)
displaced p i w place starts l k r n base imm next (Near m) = linked.Near m
displaced p i w place starts l k r n base imm next (Far m hi lo s a b) = linked.Far m hi lo s (plain p i w place starts l k _ None None a) (plain p i w place starts l (suc k) _ None None b)

based : (p : Linking) (i : ℕ) (w : Lines) (place starts : ℕ → ℕ) → IsLaid p i w place starts → (k : ℕ) (q : Place) (base imm next : ℕ) → BasedIn w k q base imm next → Based p (spot_of (p.entry i) k) q base imm (spot_of (p.entry i) next)
based p i w place starts l k q base imm next (InFrame object offset base' imm' next' d) =
    linked.InFrame object offset base' imm' (spot_of (p.entry i) next') (subst (λ z. Displaced p (spot_of (p.entry i) k) 2 z base' imm' (spot_of (p.entry i) next')) (ap (λ (z : Name → ℕ). z (Named object) + offset) l.at) (displaced p i w place starts l k 2 _ base' imm' next' d))
based p i w place starts l k q base imm next (InStatic object offset hi lo s a) =
    linked.InStatic object offset hi lo (subst (λ (z : Name → ℕ). Splits hi lo (z (Named object) + offset)) l.at s) (plain p i w place starts l k _ None None a)
based p i w place starts l k q base imm next (Behind r offset base' imm' next' home d) = linked.Behind r offset base' imm' (spot_of (p.entry i) next') home (displaced p i w place starts l k r offset base' imm' next' d)

slot : (p : Linking) (i : ℕ) (w : Lines) (place starts : ℕ → ℕ) → IsLaid p i w place starts → (k n base imm next : ℕ) → DisplacedIn w k 2 (w.at (Slot n)) base imm next → Displaced p (spot_of (p.entry i) k) 2 (p.at (Slot n)) base imm (spot_of (p.entry i) next)
slot p i w place starts l k n base imm next d = subst (λ z. Displaced p (spot_of (p.entry i) k) 2 z base imm (spot_of (p.entry i) next)) (ap (λ (z : Name → ℕ). z (Slot n)) l.at) (displaced p i w place starts l k 2 _ base imm next d)

adds : (p : Linking) (i : ℕ) (w : Lines) (place starts : ℕ → ℕ) → IsLaid p i w place starts → (k rd by next : ℕ) → AddsIn w k rd by next → Adds p (spot_of (p.entry i) k) rd by (spot_of (p.entry i) next)
adds p i w place starts l k rd by next (Short a) = linked.Short (plain p i w place starts l k _ None None a)
adds p i w place starts l k rd by next (Long mid c a) = linked.Long (spot_of (p.entry i) mid) (constant p i w place starts l k 5 by mid c) (plain p i w place starts l mid _ None None a)

compared : (p : Linking) (i : ℕ) (w : Lines) (place starts : ℕ → ℕ) → IsLaid p i w place starts → (k to : ℕ) (less : Op) (left right : ℕ) (op : Comparison) (next : ℕ) → ComparedIn w k to less left right op next → Compared p (spot_of (p.entry i) k) to less left right op (spot_of (p.entry i) next)
compared p i w place starts l k to less left right op next (Lesser a) = linked.Lesser (plain p i w place starts l k _ None None a)
compared p i w place starts l k to less left right op next (Larger a) = linked.Larger (plain p i w place starts l k _ None None a)
compared p i w place starts l k to less left right op next (NotLarger a b) = linked.NotLarger (plain p i w place starts l k _ None None a) (plain p i w place starts l (suc k) _ None None b)
compared p i w place starts l k to less left right op next (NotLesser a b) = linked.NotLesser (plain p i w place starts l k _ None None a) (plain p i w place starts l (suc k) _ None None b)
compared p i w place starts l k to less left right op next (Same a b) = linked.Same (plain p i w place starts l k _ None None a) (plain p i w place starts l (suc k) _ None None b)
compared p i w place starts l k to less left right op next (Other a b) = linked.Other (plain p i w place starts l k _ None None a) (plain p i w place starts l (suc k) _ None None b)

copied : (p : Linking) (i : ℕ) (w : Lines) (place starts : ℕ → ℕ) → IsLaid p i w place starts → (k to from next : ℕ) → CopiedIn w k to from next → Copied p (spot_of (p.entry i) k) to from (spot_of (p.entry i) next)
copied p i w place starts l k to from next (Already e) = linked.Already e
copied p i w place starts l k to from next (Moved ne a) = linked.Moved ne (plain p i w place starts l k _ None None a)

converted : (p : Linking) (i : ℕ) (w : Lines) (place starts : ℕ → ℕ) → IsLaid p i w place starts → (k to : ℕ) (kind : Kind) (from next : ℕ) → ConvertedIn w k to kind from next → Converted p (spot_of (p.entry i) k) to kind from (spot_of (p.entry i) next)
converted p i w place starts l k to kind from next (Whole next' h c) = linked.Whole (spot_of (p.entry i) next') h (copied p i w place starts l k to from next' c)
converted p i w place starts l k to kind from next (Masked h a) = linked.Masked h (plain p i w place starts l k _ None None a)
converted p i w place starts l k to kind from next (Narrowed x a b) = linked.Narrowed x (plain p i w place starts l k _ None None a) (plain p i w place starts l (suc k) _ None None b)

scaled : (p : Linking) (i : ℕ) (w : Lines) (place starts : ℕ → ℕ) → IsLaid p i w place starts → (k size by register next : ℕ) → ScaledIn w k size by register next → Scaled p (spot_of (p.entry i) k) size by register (spot_of (p.entry i) next)
scaled p i w place starts l k size by register next (Bytes e) = linked.Bytes e
scaled p i w place starts l k size by register next (Shifted bits few e a) = linked.Shifted bits few e (plain p i w place starts l k _ None None a)
scaled p i w place starts l k size by register next (Multiplied mid c a) = linked.Multiplied (spot_of (p.entry i) mid) (constant p i w place starts l k 5 size mid c) (plain p i w place starts l mid _ None None a)

selected : (p : Linking) (i : ℕ) (w : Lines) (place starts : ℕ → ℕ) → IsLaid p i w place starts → (k : ℕ) (line : Line) (next : ℕ) → SelectedIn w k line next → Selected p (spot_of (p.entry i) k) line (spot_of (p.entry i) next)
selected p i w place starts l k line next (Numbers to z mid home c) = linked.Numbers to z (spot_of (p.entry i) mid) home (constant p i w place starts l k to _ mid c)
selected p i w place starts l k line next (Nulls to home a) = linked.Nulls to home (plain p i w place starts l k _ None None a)
selected p i w place starts l k line next (Copies to from mid home x c) = linked.Copies to from (spot_of (p.entry i) mid) home x (copied p i w place starts l k to from mid c)
selected p i w place starts l k line next (Converts to kind from mid home x c) = linked.Converts to kind from (spot_of (p.entry i) mid) home x (converted p i w place starts l k to kind from mid c)
selected p i w place starts l k line next (Negates to kind from home x h a) = linked.Negates to kind from home x h (plain p i w place starts l k _ None None a)
selected p i w place starts l k line next (Complements to kind from home x h a) = linked.Complements to kind from home x h (plain p i w place starts l k _ None None a)
selected p i w place starts l k line next (Nots to from home x a) = linked.Nots to from home x (plain p i w place starts l k _ None None a)
selected p i w place starts l k line next (Computes to op kind left right home x y h a) = linked.Computes to op kind left right home x y h (plain p i w place starts l k _ None None a)
selected p i w place starts l k line next (Compares to op kind left right mid home x y h c) = linked.Compares to op kind left right (spot_of (p.entry i) mid) home x y h (compared p i w place starts l k to _ left right op mid c)
selected p i w place starts l k line next (Moves to size back pointer by register mid home x y s c a) = linked.Moves to size back pointer by register (spot_of (p.entry i) mid) home x y s (scaled p i w place starts l k size by register mid c) (plain p i w place starts l mid _ None None a)
selected p i w place starts l k line next (Measures to size left right mid home x y s t a c b) = linked.Measures to size left right (spot_of (p.entry i) mid) home x y s t (plain p i w place starts l k _ None None a) (constant p i w place starts l (suc k) 6 size mid c) (plain p i w place starts l mid _ None None b)
selected p i w place starts l k line next (Addresses to q base imm mid home b a) = linked.Addresses to q base imm (spot_of (p.entry i) mid) home (based p i w place starts l k q base imm mid b) (plain p i w place starts l mid _ None None a)
selected p i w place starts l k line next (AddressesPage to object offset hi home s a) = linked.AddressesPage to object offset hi home (subst (λ (z : Name → ℕ). Splits hi 0 (z (Named object) + offset)) l.at s) (plain p i w place starts l k _ None None a)
selected p i w place starts l k line next (Fetches to q kind access base imm mid home b a) = linked.Fetches to q kind access base imm (spot_of (p.entry i) mid) home (based p i w place starts l k q base imm mid b) (plain p i w place starts l mid _ (Some access) None a)
selected p i w place starts l k line next (StoresValue q kind from access base imm mid home b a) = linked.StoresValue q kind from access base imm (spot_of (p.entry i) mid) home (based p i w place starts l k q base imm mid b) (plain p i w place starts l mid _ (Some access) None a)
selected p i w place starts l k line next (Reloads to n access base imm mid home d a) = linked.Reloads to n access base imm (spot_of (p.entry i) mid) home (slot p i w place starts l k n base imm mid d) (plain p i w place starts l mid _ (Some access) None a)
selected p i w place starts l k line next (Spills n from access base imm mid home d a) = linked.Spills n from access base imm (spot_of (p.entry i) mid) home (slot p i w place starts l k n base imm mid d) (plain p i w place starts l mid _ (Some access) None a)
selected p i w place starts l k line next (Cuts_ cause m entry a) =
    let h = aimed p i w place starts l k (jumping 3 0) (w.checkpoint m) (p.checkpoint m) (Some cause) (l.checkpoint m) a in
    linked.Cuts_ cause m (distance (spot_of (p.entry i) k) (p.checkpoint m)) entry (lands (spot_of (p.entry i) k) (p.checkpoint m) h.low (small_place p i w place starts l _ _ (l.checkpoint m))) h
selected p i w place starts l k line next (Calls n count a) =
    let h = aimed p i w place starts l k (jumping 1 0) (w.entry n) (p.entry n) None (l.entry n) a in
    linked.Calls n count (distance (spot_of (p.entry i) k) (p.entry n)) (lands (spot_of (p.entry i) k) (p.entry n) h.low (small_place p i w place starts l _ _ (l.entry n))) h
selected p i w place starts l k line next (Serves_ service a) =
    let h = aimed p i w place starts l k (jumping 1 0) (w.serves service) (p.serves service) None (l.serves service) a in
    linked.Serves_ service (distance (spot_of (p.entry i) k) (p.serves service)) (lands (spot_of (p.entry i) k) (p.serves service) h.low (small_place p i w place starts l _ _ (l.serves service))) h

jumps : (p : Linking) (i : ℕ) (w : Lines) (place starts : ℕ → ℕ) → IsLaid p i w place starts → (k label target : ℕ) → place label ≡ target → JumpsIn w k label → Jumps p (spot_of (p.entry i) k) target
jumps p i w place starts l k label target e a =
    let h = aimed p i w place starts l k (jumping 0 0) label target None e a in
    record { imm = distance (spot_of (p.entry i) k) target; lands = lands (spot_of (p.entry i) k) target h.low (small_place p i w place starts l _ _ e); jumps = h }

continues : (p : Linking) (i : ℕ) (w : Lines) (place starts : ℕ → ℕ) → IsLaid p i w place starts → (k b : ℕ) → ContinuesIn w starts k b → Continues p (spot_of (p.entry i) k) (p.place i b)
continues p i w place starts l k b (Falls e) = linked.Falls (ap (spot_of (p.entry i)) e ∙ sym (l.starts_at b))
continues p i w place starts l k b (Leaps a) = linked.Leaps (jumps p i w place starts l k (w.block b) (p.place i b) (l.block b) a)

-- two lines on
eight : (p : Linking) (pc target : ℕ) → Continues p (pc + 4 + 4) target → Continues p (pc + 8) target
eight p pc target c = let e : pc + 4 + 4 ≡ pc + 8 = omega arith in subst (λ q. Continues p q target) e c

-- where a branch that is aimed at a block lands
branch_lands : (p : Linking) (i : ℕ) (w : Lines) (place starts : ℕ → ℕ) → IsLaid p i w place starts → (k b : ℕ) (m : Instruction) → Holds p.image (spot_of (p.entry i) k) m → sum_of (spot_of (p.entry i) k) (distance (spot_of (p.entry i) k) (p.place i b)) ≡ p.place i b
branch_lands p i w place starts l k b m h = lands (spot_of (p.entry i) k) (p.place i b) h.low (small_place p i w place starts l _ _ (l.block b))

tested : (p : Linking) (i : ℕ) (w : Lines) (place starts : ℕ → ℕ) → IsLaid p i w place starts → (k : ℕ) (t : Test) (a b : ℕ) → TestedIn w starts k t a b → Tested p (spot_of (p.entry i) k) t (p.place i a) (p.place i b)
tested p i w place starts l k t a b (Reached x y) =
    let h = aimed p i w place starts l k (branching t.holds t.left t.right 0) (w.block a) (p.place i a) None (l.block a) x in
    linked.Reached (distance (spot_of (p.entry i) k) (p.place i a)) (branch_lands p i w place starts l k a _ h) h (continues p i w place starts l (suc k) b y)
tested p i w place starts l k t a b (Missed x y) =
    let h = aimed p i w place starts l k (branching t.fails t.left t.right 0) (w.block b) (p.place i b) None (l.block b) x in
    linked.Missed (distance (spot_of (p.entry i) k) (p.place i b)) (branch_lands p i w place starts l k b _ h) h (continues p i w place starts l (suc k) a y)
tested p i w place starts l k t a b (Hopped x y z) =
    linked.Hopped (plain p i w place starts l k _ None None x) (jumps p i w place starts l (suc k) (w.block a) (p.place i a) (l.block a) y) (eight p (spot_of (p.entry i) k) (p.place i b) (continues p i w place starts l (suc (suc k)) b z))
tested p i w place starts l k t a b (Skipped x y z) =
    linked.Skipped (plain p i w place starts l k _ None None x) (jumps p i w place starts l (suc k) (w.block b) (p.place i b) (l.block b) y) (eight p (spot_of (p.entry i) k) (p.place i a) (continues p i w place starts l (suc (suc k)) a z))

leaves : (p : Linking) (i : ℕ) (w : Lines) (place starts : ℕ → ℕ) → IsLaid p i w place starts → (k frame : ℕ) → LeavesIn w k frame → Leaves p (spot_of (p.entry i) k) frame
leaves p i w place starts l k frame a = record { link = plain p i w place starts l k _ None None a.link; next = spot_of (p.entry i) a.next; raised = adds p i w place starts l (suc k) 2 frame a.next a.raised; returns = plain p i w place starts l a.next _ None None a.returns }

exits : (p : Linking) (i : ℕ) (w : Lines) (place starts : ℕ → ℕ) → IsLaid p i w place starts → (frame k : ℕ) (exit : Exit) → ExitIn w starts frame k exit → ExitAt p i frame (spot_of (p.entry i) k) exit
exits p i w place starts l frame k (Jump b) h = continues p i w place starts l k b h
exits p i w place starts l frame k (Turn b) h = jumps p i w place starts l k (w.block b) (p.place i b) (l.block b) h
exits p i w place starts l frame k (Branch on a b) h = (h.0, tested p i w place starts l k (nonzero on) a b h.1)
exits p i w place starts l frame k (Return None) h = (plain p i w place starts l k _ None None h.0, leaves p i w place starts l (suc k) frame h.1)
exits p i w place starts l frame k (Return (Some r)) h = (h.0, leaves p i w place starts l k frame h.1)

joined : (p : Linking) (i : ℕ) (w : Lines) (place starts : ℕ → ℕ) → IsLaid p i w place starts → (blocks : List Block) (k : ℕ) (line : Line) (rest : List Line) (exit : Exit) → JoinedIn w blocks starts k line rest exit → Joined p blocks i (spot_of (p.entry i) k) line rest exit
joined p i w place starts l blocks k line rest exit (Decides to op kind left right a b x y h c d t) = linked.Decides to op kind left right a b x y h c d (tested p i w place starts l k (comparing kind left right op) a b t)
joined p i w place starts l blocks k line rest exit (DecidesByZero zero r to op kind left right a b is x y h c d e f t) = linked.DecidesByZero zero r to op kind left right a b is x y h c d e f (tested p i w place starts l k (comparing kind (or_zero r left) (or_zero r right) op) a b t)

compared_by : (p : Linking) (i : ℕ) (w : Lines) (place starts : ℕ → ℕ) → IsLaid p i w place starts → (k to : ℕ) (kind : Kind) (left n : ℕ) (op : Comparison) (next : ℕ) → ComparedByIn w k to kind left n op next → ComparedBy p (spot_of (p.entry i) k) to kind left n op (spot_of (p.entry i) next)
compared_by p i w place starts l k to kind left n op next (LesserBy a) = linked.LesserBy (plain p i w place starts l k _ None None a)
compared_by p i w place starts l k to kind left n op next (NotLesserBy a b) = linked.NotLesserBy (plain p i w place starts l k _ None None a) (plain p i w place starts l (suc k) _ None None b)
compared_by p i w place starts l k to kind left n op next (NotLargerBy above e ne a) = linked.NotLargerBy above e ne (plain p i w place starts l k _ None None a)
compared_by p i w place starts l k to kind left n op next (LargerBy above e ne a b) = linked.LargerBy above e ne (plain p i w place starts l k _ None None a) (plain p i w place starts l (suc k) _ None None b)
compared_by p i w place starts l k to kind left n op next (SameZero e a) = linked.SameZero e (plain p i w place starts l k _ None None a)
compared_by p i w place starts l k to kind left n op next (SameBy imm e a b) = linked.SameBy imm e (plain p i w place starts l k _ None None a) (plain p i w place starts l (suc k) _ None None b)
compared_by p i w place starts l k to kind left n op next (OtherZero e a) = linked.OtherZero e (plain p i w place starts l k _ None None a)
compared_by p i w place starts l k to kind left n op next (OtherBy imm e a b) = linked.OtherBy imm e (plain p i w place starts l k _ None None a) (plain p i w place starts l (suc k) _ None None b)

folded : (p : Linking) (i : ℕ) (w : Lines) (place starts : ℕ → ℕ) → IsLaid p i w place starts → (blocks : List Block) (k r n : ℕ) (user : Line) (rest : List Line) (exit : Exit) (next : ℕ) → FoldedIn w blocks k r n user rest exit next → Folded p blocks (spot_of (p.entry i) k) r n user rest exit (spot_of (p.entry i) next)
folded p i w place starts l blocks k r n user rest exit next (ComputesBy to op kind left rest' exit' by imm home x ne h is spent a) = linked.ComputesBy to op kind left rest' exit' by imm home x ne h is spent (plain p i w place starts l k _ None None a)
folded p i w place starts l blocks k r n user rest exit next (ComputesFrom to op kind right rest' exit' by imm home x ne h turns is spent a) = linked.ComputesFrom to op kind right rest' exit' by imm home x ne h turns is spent (plain p i w place starts l k _ None None a)
folded p i w place starts l blocks k r n user rest exit next (ComparesBy to op kind left rest' exit' next' home x ne h spent a) = linked.ComparesBy to op kind left rest' exit' (spot_of (p.entry i) next') home x ne h spent (compared_by p i w place starts l k to kind left n op next' a)
folded p i w place starts l blocks k r n user rest exit next (StoresZero at kind access rest' exit' base imm mid zero apart unread b a) = linked.StoresZero at kind access rest' exit' base imm (spot_of (p.entry i) mid) zero apart unread (based p i w place starts l k at base imm mid b) (plain p i w place starts l mid _ (Some access) None a)

stands : (p : Linking) (i : ℕ) (w : Lines) (place starts : ℕ → ℕ) → IsLaid p i w place starts → (blocks : List Block) (frame k : ℕ) (lines : List Line) (exit : Exit) → StandsIn w blocks starts frame k lines exit → Stands p blocks i frame (spot_of (p.entry i) k) lines exit
stands p i w place starts l blocks frame k [] exit h = exits p i w place starts l frame k exit h
stands p i w place starts l blocks frame k (line ∷ rest) exit (inl h) = inl (spot_of (p.entry i) h.0, selected p i w place starts l k line h.0 h.1, stands p i w place starts l blocks frame h.0 rest exit h.2)
stands p i w place starts l blocks frame k (line ∷ rest) exit (inr (inl h)) = inr (inl (joined p i w place starts l blocks k line rest exit h))
stands p i w place starts l blocks frame k (line ∷ []) exit (inr (inr h)) = absurd h
stands p i w place starts l blocks frame k (line ∷ user ∷ rest) exit (inr (inr h)) = inr (inr (h.0, h.1, spot_of (p.entry i) h.2, h.3, folded p i w place starts l blocks k h.0 h.1 user rest exit h.2 h.4, stands p i w place starts l blocks frame h.2 rest exit h.5))

checked : (p : Linking) (i : ℕ) (w : Lines) (place starts : ℕ → ℕ) → IsLaid p i w place starts → (k next : ℕ) → CheckedIn w k next → Checked p (spot_of (p.entry i) k) (spot_of (p.entry i) next)
checked p i w place starts l k next (Direct a) =
    let h = aimed p i w place starts l k (branching Bltu 6 5 0) w.full p.full None l.full a in
    linked.Direct (distance (spot_of (p.entry i) k) p.full) (lands (spot_of (p.entry i) k) p.full h.low (small_place p i w place starts l _ _ l.full)) h
checked p i w place starts l k next (Around a b) = linked.Around (plain p i w place starts l k _ None None a) (jumps p i w place starts l (suc k) w.full p.full l.full b)

prologue : (p : Linking) (i : ℕ) (w : Lines) (place starts : ℕ → ℕ) → IsLaid p i w place starts → (frame entry : ℕ) → PrologueIn w starts 0 frame entry → Prologue p (p.entry i) frame (p.place i entry)
prologue p i w place starts l frame entry h = record {
  a = spot_of (p.entry i) h.a;
  b = spot_of (p.entry i) h.b;
  lowered = adds p i w place starts l 0 6 (2 ^ 32 - frame) h.a h.lowered;
  bound = plain p i w place starts l h.a _ None None h.bound;
  checked = checked p i w place starts l (suc h.a) h.b h.checked;
  taken = plain p i w place starts l h.b _ None None h.taken;
  saved = plain p i w place starts l (suc h.b) _ None None h.saved;
  continues = continues p i w place starts l (suc (suc h.b)) entry h.continues;
}

pub lines : LinesLaw
lines p g i f w place starts framed h l = record {
  small = framed.small;
  even = framed.even;
  layout = framed.layout;
  registers = framed.registers;
  received = framed.received;
  prologue = prologue p i w place starts l (frame_of g i) f.entry h.prologue;
  blocks = λ b block e. subst (λ z. Stands p f.blocks.items i (frame_of g i) z block.lines.items block.exit) (sym (l.starts_at b)) (stands p i w place starts l f.blocks.items (frame_of g i) (starts b) block.lines.items block.exit (h.blocks b block e));
}

pub frame : FrameLaw
frame p g i f l is agrees e machine received = record {
  small = (let s = is.small in omega arith);
  even = (let s = is.even in ap (λ z. z % 4) e ∙ s);
  layout = record {
    from = λ a sh h. omega arith;
    inside = λ a sh h. let k = is.inside a sh h in let q = agrees.at a sh h in omega arith;
    even = λ a sh h. ap (λ z. z % 4) (agrees.at a sh h) ∙ is.even_places a sh h;
    sized = agrees.size;
    apart = λ a sh b th h k.
        let x = agrees.at a sh h in
        let y = agrees.at b th k in
        elim (is.apart a sh b th h k) [
          | inl same ↦ inl same
          | inr (inl lower) ↦ inr (inl (omega arith))
          | inr (inr upper) ↦ inr (inr (omega arith))
        ];
  };
  registers = machine;
  received = received;
}
