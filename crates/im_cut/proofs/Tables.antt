-- The table of marks behind each step of the sweep over the blocks.
use Rattle.std.proofs.Common.{◌≡◌, ℕ, zero, suc, ◌+◌, ◌<◌, ◌≤◌, List, [], ◌∷◌, ◌++◌, length, take, drop, get_or, Some, None, refl, sym, ap, ◌∙◌, subst, inl, inr, ⊎_elim, ◌⊎◌, arith}
use Rattle.std.specs.Prelude.{Bool, true, false, not, ◌==◌, ◌&&◌, ◌||◌, slice_get, slice_set}
use Rattle.std.proofs.lemmas.Bool.{eqb-true, eq-eqb}
use Rattle.std.proofs.lemmas.List.{get_or-take, take-set, drop-set, drop_all}
use Rattle.std.proofs.lemmas.Option.{slice_get_within, slice_get-get_or}
use Rattle.std.proofs.Math.Seq.{drop-cons}
use Rattle.im_block.specs.declared.access.Access.{Access}
use Rattle.im_block.specs.declared.access.Tags.{Tags}
use Rattle.im_block.specs.declared.access.Dep.{Dep}
use Rattle.im_block.specs.declared.code.Exit.{Exit}
use Rattle.im_block.specs.declared.code.Exit.TheVariants.{Jump, Branch}
use Rattle.im_block.specs.declared.code.Block.{Block}
use Rattle.im_block.specs.declared.unit.Function.{Function}
use Rattle.im_block.specs.Sections.{Has}
use Rattle.im_block.specs.Shape.{Descends, IsOrdered}
use Rattle.im_block.specs.Forced.{CutAtTurn}
use Rattle.im_dep.specs.Sites.{Decides}
use Rattle.im_dep.specs.declared.spans.Span.{Span}
use Rattle.im_dep.specs.Spans.{span_of, covers_by, is_covered}
use Rattle.im_cut.specs.declared.marks.Marks.{Marks as Known}
use Rattle.im_cut.specs.Greedy.{CutsTo}
use Rattle.im_cut.specs.Sweep.{Marks}
use Rattle.im_cut.specs.Stands.{Stands}
use Rattle.im_cut.specs.Lines.{SweepsLines}
use Rattle.im_cut.specs.Blocks.{joined, only_if, leads_to, handed, Joins, JoinsAt, HandsOn, StandBelow, SweepsBlock, IsStart, AreBlank, AreStarts, start_marks, begins, BegunIf, BeginsWhere, is_turned, turns_to, SweepDown, Last, Down}
use Rattle.im_cut.proofs.Standing.{stands_skip}
use Rattle.im_cut.proofs.Down.{swept_down}
use Rattle.im_cut.proofs.Dues.{swept_due}
use Rattle.im_cut.proofs.Sections.{swept_sectioned}

some_is : {A : Type 0} (x y : A) → Some x ≡ Some y → x ≡ y
some_is x y e = cc

none_some : {A : Type 0} (x : A) → None ≡ Some x → ⊥
none_some x e = cc

eqb_not : (a b : ℕ) → (a ≡ b → ⊥) → (a == b) ≡ false
eqb_not a b n = by (a == b) refl
  where
    by : (t : Bool) → (a == b) ≡ t → t ≡ false
    by true e = absurd (n (eqb-true a b e))
    by false e = refl

-- ---- a place of a list that is set

pub get-set_other : {A : Type 0} (xs : List A) (i k : ℕ) (v : A) → (k ≡ i → ⊥) → slice_get (slice_set xs i v) k ≡ slice_get xs k
get-set_other [] i k v n = refl
get-set_other (x ∷ xs) zero zero v n = absurd (n refl)
get-set_other (x ∷ xs) zero (suc k) v n = refl
get-set_other (x ∷ xs) (suc i) zero v n = refl
get-set_other (x ∷ xs) (suc i) (suc k) v n = get-set_other xs i k v (λ e. n (ap (λ (j : ℕ). suc j) e))

pub get-set_same : {A : Type 0} (xs : List A) (i : ℕ) (v w : A) → slice_get (slice_set xs i v) i ≡ Some w → v ≡ w
get-set_same [] i v w e = absurd (none_some w e)
get-set_same (x ∷ xs) zero v w e = some_is v w e
get-set_same (x ∷ xs) (suc i) v w e = get-set_same xs i v w e

pub length-set : {A : Type 0} (xs : List A) (i : ℕ) (v : A) → length (slice_set xs i v) ≡ length xs
length-set [] i v = refl
length-set (x ∷ xs) zero v = refl
length-set (x ∷ xs) (suc i) v = ap (λ (j : ℕ). suc j) (length-set xs i v)

-- ---- marks that are handed on

lead : (tags : Tags) (o k ends : Known) (b : Bool) → b ≡ true → Joins tags o ends k → (m n : Marks) → Stands tags o m → Stands tags ends n → Stands tags k (joined m (only_if b n))
lead tags o k ends b e j m n h i = subst (λ (t : Bool). Stands tags k (joined m (only_if t n))) (sym e) (j m n h i)

skip : (tags : Tags) (o k : Known) (b : Bool) → b ≡ false → o ≡ k → (m n : Marks) → Stands tags o m → Stands tags k (joined m (only_if b n))
skip tags o k b e same m n h = subst (λ (t : Bool). Stands tags k (joined m (only_if t n))) (sym e) (stands_skip tags k m n (subst (λ (x : Known). Stands tags x m) same h))

pub hands_nothing : (tags : Tags) (exit : Exit) (ends : Known) (table : List Known) → ((c : ℕ) → leads_to exit c ≡ false) → HandsOn tags exit ends table table
hands_nothing tags exit ends table none = λ c k at. (k, at, λ m n h i. skip tags k k (leads_to exit c) (none c) refl m n h)

pub hands_jump : (tags : Tags) (to : ℕ) (ends : Known) (old new : List Known) → JoinsAt tags to old ends new → HandsOn tags (Jump to) ends old new
hands_jump tags to ends old new j = λ c k at.
    let o = j c k at in (
      o.0,
      o.1,
      λ m n h i.
          ⊎_elim
          (λ (p : (c ≡ to) × Joins tags o.0 ends k). lead tags o.0 k ends (to == c) (eq-eqb to c (sym p.0)) p.1 m n h i)
          (λ (p : (c ≡ to → ⊥) × (o.0 ≡ k)). skip tags o.0 k (to == c) (eqb_not to c (λ e. p.0 (sym e))) p.1 m n h)
          o.2,
    )

pub hands_one : (tags : Tags) (on x y : ℕ) (ends : Known) (old new : List Known) → x ≡ y → JoinsAt tags x old ends new → HandsOn tags (Branch on x y) ends old new
hands_one tags on x y ends old new same j = λ c k at.
    let o = j c k at in (
      o.0,
      o.1,
      λ m n h i.
          ⊎_elim
          (λ (p : (c ≡ x) × Joins tags o.0 ends k). lead tags o.0 k ends ((x == c) || (y == c)) (ap (λ b. b || (y == c)) (eq-eqb x c (sym p.0))) p.1 m n h i)
          (λ (p : (c ≡ x → ⊥) × (o.0 ≡ k)). skip tags o.0 k ((x == c) || (y == c)) (ap (λ b. b || (y == c)) (eqb_not x c (λ e. p.0 (sym e))) ∙ eqb_not y c (λ e. p.0 (sym (same ∙ e)))) p.1 m n h)
          o.2,
    )

pub hands_two : (tags : Tags) (on x y : ℕ) (ends : Known) (old mid new : List Known) → (y ≡ x → ⊥) → JoinsAt tags x old ends mid → JoinsAt tags y mid ends new → HandsOn tags (Branch on x y) ends old new
hands_two tags on x y ends old mid new apart j l = λ c k at.
    let p = l c k at in
    let o = j c p.0 p.1 in (
      o.0,
      o.1,
      λ m n h i.
          ⊎_elim
          (λ (q : (c ≡ y) × Joins tags p.0 ends k).
          ⊎_elim
          (λ (s : (c ≡ x) × Joins tags o.0 ends p.0). absurd (apart (sym q.0 ∙ s.0)))
          (λ (s : (c ≡ x → ⊥) × (o.0 ≡ p.0)). lead tags o.0 k ends ((x == c) || (y == c)) (ap (λ b. b || (y == c)) (eqb_not x c (λ e. s.0 (sym e))) ∙ eq-eqb y c (sym q.0)) (subst (λ (z : Known). Joins tags z ends k) (sym s.1) q.1) m n h i)
          o.2)
          (λ (q : (c ≡ y → ⊥) × (p.0 ≡ k)).
          ⊎_elim
          (λ (s : (c ≡ x) × Joins tags o.0 ends p.0). lead tags o.0 k ends ((x == c) || (y == c)) (ap (λ b. b || (y == c)) (eq-eqb x c (sym s.0))) (subst (λ (z : Known). Joins tags o.0 ends z) q.1 s.1) m n h i)
          (λ (s : (c ≡ x → ⊥) × (o.0 ≡ p.0)). skip tags o.0 k ((x == c) || (y == c)) (ap (λ b. b || (y == c)) (eqb_not x c (λ e. s.0 (sym e))) ∙ eqb_not y c (λ e. q.0 (sym e))) (s.1 ∙ q.1) m n h)
          o.2)
          p.2,
    )

-- ---- a block

pub block_swept : (tags : Tags) (number : ℕ) (old new : Block) (table mid later : List Known) (start start' blank : Known) (deps more : List Dep) → slice_get table number ≡ Some start → mid ≡ slice_set table number blank →
    SweepsLines tags start start' old.lines.items new.lines.items deps more → new.exit ≡ old.exit → HandsOn tags new.exit start' mid later → SweepsBlock tags number old new table later deps more
block_swept tags number old new table mid later start start' blank deps more at is lines exit hands = λ pending stand.
    let self : number < suc number = omega arith in
    let k = lines (pending number) (stand number start self at) in
    record {
      own = k.own;
      ends = k.ends;
      swept = k.swept;
      exit = exit;
      added = k.added;
      stands = λ c known lt there.
          let o = hands c known there in
          let was = sym (get-set_other table number c blank (apart c lt)) ∙ ap (λ (t : List Known). slice_get t c) (sym is) ∙ o.1 in
          o.2 (pending c) k.ends (stand c o.0 (up c lt) was) k.stands;
    }
  where
    apart : (c : ℕ) → c < number → c ≡ number → ⊥
    apart c lt e = omega arith

    up : (c : ℕ) → c < number → c < suc number
    up c lt = omega arith

-- ---- the starts

start_one : (tags : Tags) (entry : ℕ) (blocks : List Block) (c : ℕ) (known : Known) → IsStart entry blocks c known → Stands tags known (start_marks entry blocks c)
start_one tags entry blocks c known s = record {
  clean = λ r. sym (ap (λ b. b && not (is_covered known.written.items (span_of tags r))) s.reached ∙ ap (λ (w : List Span). begins entry blocks c && not (is_covered w (span_of tags r))) s.written ∙ and_true (begins entry blocks c));
  some = λ a q. absurd (subst (λ (x : List Access). Has x a) s.exposed q);
  all = λ r o. absurd (clash o);
}
  where
    and_true : (b : Bool) → (b && true) ≡ b
    and_true true = refl
    and_true false = refl

    clash : false ≡ true → ⊥
    clash e = cc

pub start_stands : (tags : Tags) (entry : ℕ) (blocks : List Block) (b : ℕ) (table : List Known) → AreStarts entry blocks table → StandBelow tags b table (start_marks entry blocks)
start_stands tags entry blocks b table h = λ c known lt at. start_one tags entry blocks c known (h c known at)

-- ---- where sections begin

pub begins_on : (p q : ℕ → Bool) (old mid new : List Known) → BeginsWhere p old mid → BeginsWhere q mid new → BeginsWhere (λ c. p c || q c) old new
begins_on p q old mid new h k = λ c known at.
    let m = k c known at in
    let o = h c m.0 m.1 in (
      o.0,
      o.1,
      record {
        reached = m.2.reached ∙ ap (λ b. b || q c) o.2.reached ∙ assoc o.0.reached (p c) (q c);
        written = m.2.written ∙ o.2.written;
        exposed = m.2.exposed ∙ o.2.exposed;
      },
    )
  where
    assoc : (a b c : Bool) → ((a || b) || c) ≡ (a || (b || c))
    assoc true b c = refl
    assoc false b c = refl

pub begins_same : (q : ℕ → Bool) (table : List Known) → ((c : ℕ) → q c ≡ false) → BeginsWhere q table table
begins_same q table none = λ c known at. (known, at, record { reached = sym (ap (λ b. known.reached || b) (none c) ∙ or_false known.reached); written = refl; exposed = refl })
  where
    or_false : (b : Bool) → (b || false) ≡ b
    or_false true = refl
    or_false false = refl

pub begins_like : (p q : ℕ → Bool) (old new : List Known) → ((c : ℕ) → p c ≡ q c) → BeginsWhere p old new → BeginsWhere q old new
begins_like p q old new same h = λ c known at. let o = h c known at in (o.0, o.1, record { reached = o.2.reached ∙ ap (λ b. o.0.reached || b) (same c); written = o.2.written; exposed = o.2.exposed })

pub turned_more : (blocks : List Block) (x : Block) (c : ℕ) → is_turned (blocks ++ x ∷ []) c ≡ (is_turned blocks c || turns_to x.exit c)
turned_more [] x c = or_false (turns_to x.exit c)
  where
    or_false : (b : Bool) → (b || false) ≡ (false || b)
    or_false true = refl
    or_false false = refl
turned_more (y ∷ blocks) x c = ap (λ b. turns_to y.exit c || b) (turned_more blocks x c) ∙ assoc (turns_to y.exit c) (is_turned blocks c) (turns_to x.exit c)
  where
    assoc : (a b c : Bool) → (a || (b || c)) ≡ ((a || b) || c)
    assoc true b c = refl
    assoc false b c = refl

pub are_starts : (entry : ℕ) (blocks : List Block) (blank new : List Known) → AreBlank blank → BeginsWhere (begins entry blocks) blank new → AreStarts entry blocks new
are_starts entry blocks blank new none h = λ c known at.
    let o = h c known at in
    let b = none c o.0 o.1 in
    record {
      reached = o.2.reached ∙ ap (λ t. t || begins entry blocks c) b.0;
      written = ap (λ v. v.items) o.2.written ∙ b.1;
      exposed = ap (λ v. v.items) o.2.exposed ∙ b.2;
    }

-- ---- the function, as far as it is swept

pub record CutSoFar (tags : Tags) (old new : Function) (number : ℕ) (table : List Known) (deps : List Dep) : Type 0 where
  pub pending : ℕ → Marks
  pub swept : SweepDown tags old.entry old.blocks.items number (drop number old.blocks.items) (drop number new.blocks.items) deps pending
  pub stands : StandBelow tags number table pending
  pub left : take number new.blocks.items ≡ take number old.blocks.items
  pub len : length table ≡ length old.blocks.items
  pub size : length new.blocks.items ≡ length old.blocks.items
  pub rest : new ≡ record old { blocks = new.blocks }

drop_whole : {A : Type 0} (xs : List A) → drop (length xs) xs ≡ []
drop_whole xs = drop_all (length xs) xs self
  where
    self : length xs ≤ length xs
    self = omega arith

pub cut_none : (tags : Tags) (f : Function) (table : List Known) → AreStarts f.entry f.blocks.items table → length table ≡ length f.blocks.items → CutSoFar tags f f (length f.blocks.items) table []
cut_none tags f table starts len = record {
  pending = start_marks f.entry f.blocks.items;
  swept = subst (λ (xs : List Block). SweepDown tags f.entry f.blocks.items (length f.blocks.items) xs xs [] (start_marks f.entry f.blocks.items)) (sym (drop_whole f.blocks.items)) (Last (length f.blocks.items));
  stands = start_stands tags f.entry f.blocks.items (length f.blocks.items) table starts;
  left = refl;
  len = len;
  size = refl;
  rest = refl;
}

take_shorter : {A : Type 0} (xs : List A) (n : ℕ) → take n (take (suc n) xs) ≡ take n xs
take_shorter [] zero = refl
take_shorter [] (suc n) = refl
take_shorter (x ∷ xs) zero = refl
take_shorter (x ∷ xs) (suc n) = ap (λ (t : List _). x ∷ t) (take_shorter xs n)

drop-set-suc : {A : Type 0} (xs : List A) (i : ℕ) (y : A) → i < length xs → drop i (slice_set xs i y) ≡ y ∷ drop (suc i) xs
drop-set-suc {A} xs i y h =
    let e : i + 1 ≡ suc i = omega arith in
    subst (λ (n : ℕ). drop i (slice_set xs i y) ≡ y ∷ drop n xs) e (drop-set xs i y h)

-- one block more
pub cut_more : (tags : Tags) (old mid new : Function) (number : ℕ) (x y : Block) (table later : List Known) (deps more : List Dep) → number < length old.blocks.items → CutSoFar tags old mid (suc number) table deps → get_or mid.blocks.items number x ≡ x → new.blocks.items ≡ slice_set mid.blocks.items number y → new ≡ record mid { blocks = new.blocks } → SweepsBlock tags number x y table later deps more → length later ≡ length table → CutSoFar tags old new number later more
cut_more tags old mid new number x y table later deps more within h is set rest sweeps len =
    let xs = old.blocks.items in
    let ms = mid.blocks.items in
    let k = sweeps h.pending h.stands in
    let here : number < length ms = omega (arith, h.size) in
    let next : number < suc number = omega arith in
    let was : get_or xs number x ≡ x = sym (get_or-take (suc number) xs number x next) ∙ ap (λ (t : List Block). get_or t number x) (sym h.left) ∙ get_or-take (suc number) ms number x next ∙ is in
    let tail : drop number xs ≡ x ∷ drop (suc number) xs = drop-cons xs number x within ∙ ap (λ (b : Block). b ∷ drop (suc number) xs) was in
    let end : drop number new.blocks.items ≡ y ∷ drop (suc number) ms = ap (λ (t : List Block). drop number t) set ∙ drop-set-suc ms number y here in
    record {
      pending = handed y.exit k.ends h.pending;
      swept = subst (λ (d : List Dep). SweepDown tags old.entry xs number (drop number xs) (drop number new.blocks.items) d (handed y.exit k.ends h.pending)) (sym k.added)
          (subst (λ (t : List Block). SweepDown tags old.entry xs number (drop number xs) t (deps ++ k.own) (handed y.exit k.ends h.pending)) (sym end)
          (subst (λ (t : List Block). SweepDown tags old.entry xs number t (y ∷ drop (suc number) ms) (deps ++ k.own) (handed y.exit k.ends h.pending)) (sym tail)
          (Down number x y (drop (suc number) xs) (drop (suc number) ms) deps k.own h.pending k.ends h.swept k.swept k.exit)));
      stands = k.stands;
      left = ap (λ (t : List Block). take number t) set ∙ take-set ms number y ∙ sym (take_shorter ms number) ∙ ap (λ (t : List Block). take number t) h.left ∙ take_shorter xs number;
      len = len ∙ h.len;
      size = ap (λ (t : List Block). length t) set ∙ length-set ms number y ∙ h.size;
      rest = rest ∙ ap (λ (f : Function). record f { blocks = new.blocks }) h.rest;
    }

-- the new blocks have the exits of the old ones
pub still_ordered : (tags : Tags) (entry : ℕ) (all : List Block) (b : ℕ) (xs ys : List Block) (added : List Dep) (pending : ℕ → Marks) → SweepDown tags entry all b xs ys added pending → ((p : ℕ) (block : Block) → slice_get xs p ≡ Some block → Descends block.exit (b + p)) → (p : ℕ) (block : Block) → slice_get ys p ≡ Some block → Descends block.exit (b + p)
still_ordered tags entry all b xs ys added pending (Last n) h p block at = absurd (none_some block at)
still_ordered tags entry all b xs ys added pending (Down n x y us vs later own q e k lines exit) h zero block at =
    subst (λ (z : Block). Descends z.exit (n + 0)) (some_is y block at) (subst (λ (t : Exit). Descends t (n + 0)) (sym exit) (h 0 x refl))
still_ordered tags entry all b xs ys added pending (Down n x y us vs later own q e k lines exit) h (suc p) block at =
    subst (λ (j : ℕ). Descends block.exit j) (up n p) (still_ordered tags entry all (suc n) us vs later q k (λ r z there. subst (λ (j : ℕ). Descends z.exit j) (sym (up n r)) (h (suc r) z there)) p block at)
  where
    up : (n p : ℕ) → suc n + p ≡ n + suc p
    up n p = omega arith

-- all blocks are swept
pub cut_whole : (tags : Tags) (old new : Function) (table : List Known) (deps : List Dep) → Decides tags (covers_by tags) → CutSoFar tags old new 0 table deps → IsOrdered old.blocks.items → ((b : ℕ) (block : Block) → slice_get old.blocks.items b ≡ Some block → CutAtTurn block.exit block.lines.items) → CutsTo tags old new deps
cut_whole tags old new table deps decides h ordered turns =
    let swept = swept_down tags old new deps h.pending h.swept h.rest still turns in
    record { blocks = swept_due tags (covers_by tags) decides old new deps swept still turns; rest = h.rest; sectioned = swept_sectioned tags (covers_by tags) old new deps decides swept }
  where
    zero_up : (p : ℕ) → 0 + p ≡ p
    zero_up p = omega arith

    still : IsOrdered new.blocks.items
    still = record {
      each = λ p block at. subst (λ (j : ℕ). Descends block.exit j) (zero_up p)
          (still_ordered tags old.entry old.blocks.items 0 old.blocks.items new.blocks.items deps h.pending h.swept (λ q z there. subst (λ (j : ℕ). Descends z.exit j) (sym (zero_up q)) (ordered.each q z there)) p block at);
    }

pub blank_more : (table : List Known) (k : Known) → AreBlank table → k.reached ≡ false → k.written.items ≡ [] → k.exposed.items ≡ [] → AreBlank (table ++ k ∷ [])
blank_more [] k h p q r zero known at = let one : k ≡ known = some_is k known at in (ap (λ (x : Known). x.reached) (sym one) ∙ p, ap (λ (x : Known). x.written.items) (sym one) ∙ q, ap (λ (x : Known). x.exposed.items) (sym one) ∙ r)
blank_more [] k h p q r (suc c) known at = absurd (none_some known at)
blank_more (x ∷ table) k h p q r zero known at = h 0 known at
blank_more (x ∷ table) k h p q r (suc c) known at = blank_more table k (λ d z there. h (suc d) z there) p q r c known at

pub begins_out : (table : List Known) (number : ℕ) → length table ≤ number → BeginsWhere (λ c. number == c) table table
begins_out table number le = λ c known at.
    (known, at, record { reached = sym (ap (λ b. known.reached || b) (eqb_not number c (apart c known at)) ∙ or_false known.reached); written = refl; exposed = refl })
  where
    or_false : (b : Bool) → (b || false) ≡ b
    or_false true = refl
    or_false false = refl

    apart : (c : ℕ) (known : Known) → slice_get table c ≡ Some known → number ≡ c → ⊥
    apart c known at e = let lt : c < length table = slice_get_within table c known at in omega arith

pub begins_set : (table : List Known) (number : ℕ) (old new : Known) → number < length table → old ≡ get_or table number old → new.reached ≡ true → new.written ≡ old.written → new.exposed ≡ old.exposed → BeginsWhere (λ c. number == c) table (slice_set table number new)
begins_set table number old new lt is reached written exposed = λ c known at. by c known at (number == c) refl
  where
    or_true : (b : Bool) → (b || true) ≡ true
    or_true true = refl
    or_true false = refl

    or_false : (b : Bool) → (b || false) ≡ b
    or_false true = refl
    or_false false = refl

    clash : true ≡ false → ⊥
    clash e = cc

    apart : (c : ℕ) → (number == c) ≡ false → c ≡ number → ⊥
    apart c e q = clash (sym (eq-eqb number c (sym q)) ∙ e)

    by : (c : ℕ) (known : Known) → slice_get (slice_set table number new) c ≡ Some known → (b : Bool) → (number == c) ≡ b → (o : Known) × (slice_get table c ≡ Some o) × BegunIf (number == c) o known
    by c known at true e =
        let same = eqb-true number c e in
        let one : new ≡ known = get-set_same table number new known (subst (λ (j : ℕ). slice_get (slice_set table number new) j ≡ Some known) (sym same) at) in (
          old,
          ap (λ (j : ℕ). slice_get table j) (sym same) ∙ slice_get-get_or table number old lt ∙ ap (λ (k : Known). Some k) (sym is),
          record {
            reached = ap (λ (k : Known). k.reached) (sym one) ∙ reached ∙ sym (ap (λ b. old.reached || b) e ∙ or_true old.reached);
            written = ap (λ (k : Known). k.written) (sym one) ∙ written;
            exposed = ap (λ (k : Known). k.exposed) (sym one) ∙ exposed;
          },
        )
    by c known at false e =
        (known, sym (get-set_other table number c new (apart c e)) ∙ at, record { reached = sym (ap (λ b. known.reached || b) e ∙ or_false known.reached); written = refl; exposed = refl })

-- ---- one place of the table is joined

pub joins_out : (tags : Tags) (to : ℕ) (from : Known) (table : List Known) → length table ≤ to → JoinsAt tags to table from table
joins_out tags to from table le = λ c k at. (k, at, inr (apart c k at, refl))
  where
    apart : (c : ℕ) (k : Known) → slice_get table c ≡ Some k → c ≡ to → ⊥
    apart c k at e = let lt : c < length table = slice_get_within table c k at in omega arith

pub joins_set : (tags : Tags) (to : ℕ) (from old new : Known) (table : List Known) → slice_get table to ≡ Some old → Joins tags old from new → JoinsAt tags to table from (slice_set table to new)
joins_set tags to from old new table is join = λ c k at. by c k at (c == to) refl
  where
    clash : true ≡ false → ⊥
    clash e = cc

    by : (c : ℕ) (k : Known) → slice_get (slice_set table to new) c ≡ Some k → (b : Bool) → (c == to) ≡ b → (o : Known) × (slice_get table c ≡ Some o) × ((c ≡ to) × Joins tags o from k ⊎ ((c ≡ to → ⊥) × (o ≡ k)))
    by c k at true e =
        let same = eqb-true c to e in
        let one : new ≡ k = get-set_same table to new k (subst (λ (j : ℕ). slice_get (slice_set table to new) j ≡ Some k) same at) in
        (old, ap (λ (j : ℕ). slice_get table j) same ∙ is, inl (same, subst (λ (z : Known). Joins tags old from z) one join))
    by c k at false e =
        (k, sym (get-set_other table to c new (λ q. clash (sym (eq-eqb c to q) ∙ e))) ∙ at, inr ((λ q. clash (sym (eq-eqb c to q) ∙ e)), refl))
