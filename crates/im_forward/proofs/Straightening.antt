-- Blocks whose pairs of lines became one line each are forwarded, and what lives at their starts is what lived.
use Rattle.std.proofs.Common.{◌≡◌, inl, inr, ℕ, zero, suc, ◌+◌, ◌≤◌, Bool, true, false, List, [], ◌∷◌, ◌++◌, Some, None, refl, sym, ap, ◌∙◌, subst, arith, length, drop, eqb-true, append-nil}
use Rattle.std.specs.Prelude.{◌==◌, ◌&&◌, not, slice_get, All, Vec}
use Rattle.std.specs.declared.alloc.Global.{Global}
use Rattle.std.specs.List.{AllZip}
use Rattle.std.proofs.lemmas.List.{drop_all}
use Rattle.std.proofs.lemmas.List.Elements.{All-nil}
use Rattle.im_block.specs.declared.code.Place.{Place}
use Rattle.im_block.specs.declared.code.Place.TheVariants.{Static, Local, Through}
use Rattle.im_block.specs.declared.code.Line.{Line}
use Rattle.im_block.specs.declared.code.Line.TheVariants.{Put, PutNull, Copy, Convert, Unary, Not, Compute, Compare, Move, Distance, Address, Read, Write, Reload, Spill, Cut, Call, Serve}
use Rattle.im_block.specs.declared.code.Exit.{Exit}
use Rattle.im_block.specs.declared.code.Exit.TheVariants.{Jump, Turn, Branch, Return}
use Rattle.im_block.specs.declared.code.Block.{Block}
use Rattle.im_block.specs.declared.unit.Registers.TheVariants.{Virtual}
use Rattle.im_block.specs.declared.unit.Function.{Function}
use Rattle.im_block.specs.Wellformed.{LineWithin, ExitWithin, ExitThere}
use Rattle.im_block.proofs.Unitwise.{zip_old, zip_length, zip_each, zip_same, zip_so}
use Rattle.im_alloc_placed.specs.Placeable.{first_free}
use Rattle.im_alloc_relation.specs.Live.{uses, sets, lives}
use Rattle.im_block_live.specs.Words.{IsWithin, HaveWords}
use Rattle.im_block_live.proofs.Paths.{either}
use Rattle.im_forward.specs.Copies.{Itself}
use Rattle.im_forward.specs.Straight.{setting, IsPair, StraightLines, Ends as NoMore, Stays as Stayed, Pairs, IsStraight, Straightens, AllStraighten}
use Rattle.im_forward.specs.Forward.{place_using, line_using, exit_using, MayUse, ForwardsLine, ForwardsExit, ForwardsLines, Ends, Kept, Straight, ForwardsBlock, ForwardsOnce, ForwardsFunction, Once, Then}
use Rattle.im_forward.specs.Known.{IsReady}
use Rattle.im_forward.proofs.Same.{both_true, itself, used_lives, kept_lives}
use Rattle.im_forward.proofs.Setting.{sets_target, sets_setting, uses_setting, sets_passing}
use Rattle.im_forward.proofs.Shapes.{lines_within}

-- ---- lines that stay

place_same : (place : Place) → place ≡ place_using (λ v. v) place
place_same (Static object offset) = refl
place_same (Local object offset) = refl
place_same (Through pointer offset) = refl

line_same : (line : Line) → line ≡ line_using (λ v. v) line
line_same (Put to z) = refl
line_same (PutNull to) = refl
line_same (Copy to from) = refl
line_same (Convert to kind from) = refl
line_same (Unary to op kind from) = refl
line_same (Not to from) = refl
line_same (Compute to op kind left right) = refl
line_same (Compare to op kind left right) = refl
line_same (Move to size back pointer by) = refl
line_same (Distance to size left right) = refl
line_same (Address to place) = ap (λ (p : Place). Address to p) (place_same place)
line_same (Read to place kind access) = ap (λ (p : Place). Read to p kind access) (place_same place)
line_same (Write place kind from access) = ap (λ (p : Place). Write p kind from access) (place_same place)
line_same (Reload to slot access) = refl
line_same (Spill slot from access) = refl
line_same (Cut cause) = refl
line_same (Call to i first count) = refl
line_same (Serve to service None) = refl
line_same (Serve to service (Some from)) = refl

exit_same : (exit : Exit) → exit ≡ exit_using (λ v. v) exit
exit_same (Jump b) = refl
exit_same (Turn b) = refl
exit_same (Branch on a b) = refl
exit_same (Return None) = refl
exit_same (Return (Some r)) = refl

may_same : (free : ℕ) (before : List Line) → MayUse free before (λ v. v)
may_same free before = record { same = λ v. Itself before v; no_parameter = λ v. inl refl }

one_same : (free : ℕ) (before : List Line) (line : Line) → ForwardsLine free before line line
one_same free before line = record { instead = λ v. v; may = may_same free before; line = line_same line }

exit_stays : (free : ℕ) (before : List Line) (exit : Exit) → ForwardsExit free before exit exit
exit_stays free before exit = record { instead = λ v. v; may = may_same free before; exit = exit_same exit }

-- ---- what lives

not_is : (b : Bool) → not b ≡ true → b ≡ false
not_is false e = refl
not_is true e = cc

-- the register that is passed on is no other that lives
apart : (live : ℕ → ℕ → Bool) (exit : Exit) (rest : List Line) (x y : Line) (t v : ℕ) → IsPair live exit rest x y t v → (q : ℕ) → lives live rest exit q ≡ true → (q == v) ≡ false → (c : Bool) → (q == t) ≡ c → (q == t) ≡ false
apart live exit rest x y t v p q l unset false e = e
apart live exit rest x y t v p q l unset true e = absurd (
    let is : q ≡ t = eqb-true q t e in
    elim p.dies [
      | inl same ↦ (let here : (q == v) ≡ true = ap (λ z. z == v) (is ∙ same) ∙ itself v in cc)
      | inr dead ↦ (let no : lives live rest exit q ≡ false = subst (λ z. lives live rest exit z ≡ false) (sym is) dead in cc)
    ]
    )

module _ (live : ℕ → ℕ → Bool) (exit : Exit) where
  pub lives_less : (old new : List Line) → StraightLines live exit old new → (q : ℕ) → lives live new exit q ≡ true → lives live old exit q ≡ true
  lives_less old new NoMore q e = e
  lives_less old new (Stayed x rest rest' h) q e = elim (either (uses x q) (not (sets x q) && lives live rest' exit q) e) [
    | inl used ↦ used_lives live x rest exit q used
    | inr on ↦ (let b = both_true (not (sets x q)) (lives live rest' exit q) on in kept_lives live x rest exit q (not_is (sets x q) b.0) (lives_less rest rest' h q b.1))
  ]
  lives_less old new (Pairs x y t v rest rest' p h) q e = elim (either (uses (setting v x) q) (not (sets (setting v x) q) && lives live rest' exit q) e) [
    | inl used ↦ used_lives live x (y ∷ rest) exit q (sym (uses_setting v x q) ∙ used)
    | inr on ↦ (
        let b = both_true (not (sets (setting v x) q)) (lives live rest' exit q) on in
        let unset : (q == v) ≡ false = sym (sets_setting t v x p.sets q) ∙ not_is (sets (setting v x) q) b.0 in
        let l = lives_less rest rest' h q b.1 in
        kept_lives live x (y ∷ rest) exit q (sets_target t x p.sets q ∙ apart live exit rest x y t v p q l unset (q == t) refl)
        (kept_lives live y rest exit q (sets_passing x t v y p.passes q ∙ unset) l)
        )
  ]

  pub pair_on : (old new : List Line) → StraightLines live exit old new → (x y : Line) (t v : ℕ) → IsPair live exit old x y t v → IsPair live exit new x y t v
  pair_on old new h x y t v p = record {
    sets = p.sets;
    passes = p.passes;
    dies = elim p.dies [ inl same ↦ inl same | inr dead ↦ inr (still (lives live new exit t) refl dead) ];
  }
    where
      still : (c : Bool) → lives live new exit t ≡ c → lives live old exit t ≡ false → c ≡ false
      still false is dead = refl
      still true is dead = absurd (let more = lives_less old new h t is in cc)

  -- ---- lines, blocks and functions

  pub straight_lines : (free : ℕ) (before old new : List Line) → StraightLines live exit old new → ForwardsLines free live exit exit before old new
  straight_lines free before old new NoMore = Ends before (exit_stays free before exit)
  straight_lines free before old new (Stayed x rest rest' h) = Kept before rest rest' x x (one_same free before x) (straight_lines free (x ∷ before) rest rest' h)
  straight_lines free before old new (Pairs x y t v rest rest' p h) =
      Straight before rest rest' x y t v (pair_on rest rest' h x y t v p) (straight_lines free (y ∷ x ∷ before) rest rest' h)

  pub all_stay : (lines : List Line) → StraightLines live exit lines lines
  all_stay [] = NoMore
  all_stay (x ∷ xs) = Stayed x xs xs (all_stay xs)

straight_block : (free : ℕ) (live : ℕ → ℕ → Bool) (x y : Block) → Straightens live x y → ForwardsBlock free live x y
straight_block free live x y h = record {
  lines = subst (λ e. ForwardsLines free live x.exit e [] x.lines.items y.lines.items) (sym h.exit) (straight_lines live x.exit free [] x.lines.items y.lines.items h.lines);
}

-- what lives before a block's lines lives at its start
abbrev pub IsClosed : (ℕ → ℕ → Bool) → List Block → Type 0
IsClosed live blocks = (b : ℕ) (block : Block) (v : ℕ) → slice_get blocks b ≡ Some block → lives live block.lines.items block.exit v ≡ true → live b v ≡ true

pub closed_on : (live : ℕ → ℕ → Bool) (xs ys : List Block) → AllZip (Straightens live) xs ys → IsClosed live xs → IsClosed live ys
closed_on live xs ys h closed b y v at e =
    let k = zip_old (Straightens live) xs ys b y h at in
    let same : lives live y.lines.items k.old.exit v ≡ true = subst (λ (z : Exit). lives live y.lines.items z v ≡ true) k.is.exit e in
    closed b k.old v k.at (lives_less live k.old.exit k.old.lines.items y.lines.items k.is.lines v same)

pub straight_once : (live : ℕ → ℕ → Bool) (f g : Function) → f.registers ≡ Virtual → IsClosed live f.blocks.items → AllStraighten live f g → ForwardsOnce f g
straight_once live f g virtual closed h = record {
  live = live;
  closed = closed_on live f.blocks.items g.blocks.items h.blocks closed;
  blocks = zip_so (Straightens live) (ForwardsBlock (first_free f) live) f.blocks.items g.blocks.items (λ b x y at k. straight_block (first_free f) live x y k) h.blocks;
  virtual = virtual;
  rest = h.rest;
}

-- a step that changes nothing
pub once_same : (f : Function) → f.registers ≡ Virtual → ForwardsOnce f f
once_same f virtual = straight_once (λ b v. true) f f virtual (λ b block v at e. refl) (record {
  blocks = zip_same (Straightens (λ b v. true)) (λ x. record { lines = all_stay (λ b v. true) x.exit x.lines.items; exit = refl }) f.blocks.items;
  rest = refl;
})

-- ---- what lines and exits name is there

within_block : (n count : ℕ) (live : ℕ → ℕ → Bool) (x y : Block) → Straightens live x y → IsWithin n count x → IsWithin n count y
within_block n count live x y h w =
    let lines = straight_lines live x.exit 0 [] x.lines.items y.lines.items h.lines in
    let k = lines_within n 0 live x.exit x.exit [] x.lines.items y.lines.items lines (All-nil (LineWithin n)) w.lines w.exit in
    record {
      lines = k.0;
      exit = subst (ExitWithin n) (sym h.exit) k.1;
      there = subst (ExitThere count) (sym h.exit) w.there;
    }

pub straight_ready : (live : ℕ → ℕ → Bool) (f g : Function) → AllStraighten live f g → IsReady f → IsReady g
straight_ready live f g h r =
    let same : length g.blocks.items ≡ length f.blocks.items = zip_length (Straightens live) f.blocks.items g.blocks.items h.blocks in
    let count : g.register_count ≡ f.register_count = ap (λ (z : Function). z.register_count) h.rest in
    let parameters : g.parameters ≡ f.parameters = ap (λ (z : Function). z.parameters) h.rest in
    let first : g.first_parameter ≡ f.first_parameter = ap (λ (z : Function). z.first_parameter) h.rest in
    let received = r.received in
    record {
      virtual = ap (λ (z : Function). z.registers) h.rest ∙ r.virtual;
      received = omega (arith, received, count, parameters, first);
      within = subst (λ n. All (IsWithin n (length g.blocks.items)) g.blocks.items) (sym count)
          (subst (λ n. All (IsWithin f.register_count n) g.blocks.items) (sym same)
          (zip_each (Straightens live) (IsWithin f.register_count (length f.blocks.items)) (IsWithin f.register_count (length f.blocks.items)) (within_block f.register_count (length f.blocks.items) live) f.blocks.items g.blocks.items h.blocks r.within));
    }

-- ---- line by line

abbrev pub BecomesTo : (ℕ → ℕ → Bool) → Exit → List Line → ℕ → List Line → Type 0
BecomesTo live exit old i kept = (rest : List Line) → StraightLines live exit (drop i old) rest → StraightLines live exit old (kept ++ rest)

pub from_place : (xs : List Line) (i : ℕ) (x : Line) → slice_get xs i ≡ Some x → drop i xs ≡ x ∷ drop (suc i) xs
from_place [] i x e = cc
from_place (y ∷ xs) zero x e = (let same : y ≡ x = cc in ap (λ z. z ∷ xs) same)
from_place (y ∷ xs) (suc i) x e = from_place xs i x e

one_on : (kept : List Line) (x : Line) (rest : List Line) → (kept ++ x ∷ []) ++ rest ≡ kept ++ x ∷ rest
one_on [] x rest = refl
one_on (y ∷ kept) x rest = ap (λ z. y ∷ z) (one_on kept x rest)

module _ (live : ℕ → ℕ → Bool) (exit : Exit) (old : List Line) where
  pub stays_on : (i : ℕ) (kept : List Line) (x : Line) → slice_get old i ≡ Some x → BecomesTo live exit old i kept → BecomesTo live exit old (suc i) (kept ++ x ∷ [])
  stays_on i kept x at so_far rest h =
      subst (StraightLines live exit old) (sym (one_on kept x rest))
      (so_far (x ∷ rest) (subst (λ z. StraightLines live exit z (x ∷ rest)) (sym (from_place old i x at)) (Stayed x (drop (suc i) old) rest h)))

  pub pairs_on : (i : ℕ) (kept : List Line) (line : Line) → IsStraight live exit old i line → BecomesTo live exit old i kept → BecomesTo live exit old (suc (suc i)) (kept ++ line ∷ [])
  pairs_on i kept line p so_far rest h =
      let next : slice_get old (suc i) ≡ Some p.y = subst (λ n. slice_get old n ≡ Some p.y) (one_more i) p.next in
      let pair : IsPair live exit (drop (suc (suc i)) old) p.x p.y p.t p.v = subst (λ n. IsPair live exit (drop n old) p.x p.y p.t p.v) (two_more i) p.pair in
      let is : drop i old ≡ p.x ∷ p.y ∷ drop (suc (suc i)) old = from_place old i p.x p.first ∙ ap (λ z. p.x ∷ z) (from_place old (suc i) p.y next) in
      subst (StraightLines live exit old) (sym (one_on kept line rest))
      (subst (λ z. StraightLines live exit old (kept ++ z ∷ rest)) (sym p.is)
      (so_far (setting p.v p.x ∷ rest) (subst (λ z. StraightLines live exit z (setting p.v p.x ∷ rest)) (sym is) (Pairs p.x p.y p.t p.v (drop (suc (suc i)) old) rest pair h))))
    where
      one_more : (n : ℕ) → n + 1 ≡ suc n
      one_more n = omega arith

      two_more : (n : ℕ) → n + 2 ≡ suc (suc n)
      two_more n = omega arith

  pub all_become : (i : ℕ) (kept : List Line) → length old ≤ i → BecomesTo live exit old i kept → StraightLines live exit old kept
  all_become i kept past so_far =
      subst (StraightLines live exit old) (append-nil kept)
      (so_far [] (subst (λ z. StraightLines live exit z []) (sym (drop_all i old past)) NoMore))

pub none_yet : (live : ℕ → ℕ → Bool) (exit : Exit) (old : List Line) → BecomesTo live exit old 0 []
none_yet live exit old rest h = h

-- ---- block by block

-- the words of groups are those of the function still
pub words_still : (live : ℕ → ℕ → Bool) (f g : Function) (groups words : List (Vec ℕ Global)) → words ≡ groups → AllStraighten live f g → HaveWords f.register_count (length f.blocks.items) groups → HaveWords g.register_count (length g.blocks.items) words
words_still live f g groups words is h w =
    let same : length g.blocks.items ≡ length f.blocks.items = zip_length (Straightens live) f.blocks.items g.blocks.items h.blocks in
    let count : g.register_count ≡ f.register_count = ap (λ (z : Function). z.register_count) h.rest in
    subst (HaveWords g.register_count (length g.blocks.items)) (sym is)
    (subst (λ n. HaveWords n (length g.blocks.items) groups) (sym count) (subst (λ n. HaveWords f.register_count n groups) (sym same) w))

-- twice
pub straight_twice : (live : ℕ → ℕ → Bool) (f g h : Function) → f.registers ≡ Virtual → IsClosed live f.blocks.items → AllStraighten live f g → AllStraighten live g h → ForwardsFunction f h
straight_twice live f g h virtual closed first second =
    Then f g h (straight_once live f g virtual closed first)
    (Once g h (straight_once live g h (ap (λ (z : Function). z.registers) first.rest ∙ virtual) (closed_on live f.blocks.items g.blocks.items first.blocks closed) second))
