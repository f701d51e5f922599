-- What the sweep over the blocks gives is a sweep with marks at each start and end.
use Rattle.std.proofs.Common.{◌≡◌, ℕ, zero, suc, ◌+◌, ◌<◌, ◌≤◌, List, [], ◌∷◌, ◌++◌, Some, refl, sym, ap, ◌∙◌, subst, inl, inr, ⊎_elim, ◌⊎◌, arith}
use Rattle.std.specs.Prelude.{Bool, true, false, slice_get, ◌==◌, ◌&&◌, ◌||◌, nat_le, if◌then◌else◌}
use Rattle.std.proofs.lemmas.Bool.{eqb-true, eq-eqb, leb-true, le-leb, cases_lt}
use Rattle.im_block.specs.declared.access.Tags.{Tags}
use Rattle.im_block.specs.declared.access.Dep.{Dep}
use Rattle.im_block.specs.declared.code.Line.{Line}
use Rattle.im_block.specs.declared.code.Line.TheVariants.{Cut}
use Rattle.im_block.specs.declared.code.Exit.{Exit}
use Rattle.im_block.specs.declared.code.Exit.TheVariants.{Jump, Turn, Branch, Return}
use Rattle.im_block.specs.declared.code.Block.{Block}
use Rattle.im_block.specs.declared.unit.Function.{Function}
use Rattle.im_block.specs.Meaning.{Site}
use Rattle.im_block.specs.Paths.{WriteStep, steps_of, IsCut, IsEdge}
use Rattle.im_block.specs.Shape.{Descends, IsOrdered}
use Rattle.im_block.specs.Forced.{EndsWithCut, CutAtTurn}
use Rattle.im_dep.specs.Spans.{covers_by}
use Rattle.im_cut.specs.Sweep.{Marks, passed, fresh, SweepLines, Ends, Keeps, Cuts, SweepBlocks, ComesFrom, Swept}
use Rattle.im_cut.specs.Blocks.{joined, only_if, turns_to, is_turned, begins, start_marks, leads_to, handed, SweepDown, Last, Down}
use Rattle.im_cut.proofs.Sweeps.{swept_block}

-- ---- tests

or_cases : (x y : Bool) → (x || y) ≡ true → (x ≡ true) ⊎ (y ≡ true)
or_cases true y e = inl refl
or_cases false y e = inr e

or_first : (x y : Bool) → x ≡ true → (x || y) ≡ true
or_first true y e = refl
or_first false y e = cc

or_second : (x y : Bool) → y ≡ true → (x || y) ≡ true
or_second true y e = refl
or_second false y e = e

and_both : (x y : Bool) → x ≡ true → y ≡ true → (x && y) ≡ true
and_both x y p q = ap (λ t. t && y) p ∙ q

and_first : (x y : Bool) → (x && y) ≡ true → x ≡ true
and_first true y e = refl
and_first false y e = e

and_second : (x y : Bool) → (x && y) ≡ true → y ≡ true
and_second true y e = e
and_second false y e = cc

clash : true ≡ false → ⊥
clash e = cc

-- two numbers are not equal
eqb_not : (a b : ℕ) → (a ≡ b → ⊥) → (a == b) ≡ false
eqb_not a b n = by (a == b) refl
  where
    by : (t : Bool) → (a == b) ≡ t → t ≡ false
    by true e = absurd (n (eqb-true a b e))
    by false e = refl

leb_not : (a b : ℕ) → b < a → nat_le a b ≡ false
leb_not a b h = by (nat_le a b) refl
  where
    wrong : a ≤ b → ⊥
    wrong k = omega arith

    by : (t : Bool) → nat_le a b ≡ t → t ≡ false
    by true e = absurd (wrong (leb-true a b e))
    by false e = refl

leads_edge : (exit : Exit) (c : ℕ) → leads_to exit c ≡ true → IsEdge exit c
leads_edge (Jump x) c e = sym (eqb-true x c e)
leads_edge (Turn x) c e = cc
leads_edge (Branch on x y) c e = ⊎_elim (λ p. inl (sym (eqb-true x c p))) (λ p. inr (sym (eqb-true y c p))) (or_cases (x == c) (y == c) e)
leads_edge (Return from) c e = cc

-- an edge is a loop's, or leads on downwards
edge_leads : (exit : Exit) (p c : ℕ) → Descends exit p → IsEdge exit c → (exit ≡ Turn c) ⊎ ((leads_to exit c ≡ true) × (c < p))
edge_leads (Jump x) p c down e = inr (eq-eqb x c (sym e), below x e down)
  where
    below : (x : ℕ) → c ≡ x → x < p → c < p
    below x q lt = omega arith
edge_leads (Turn x) p c down e = inl (ap (λ n. Turn n) (sym e))
edge_leads (Branch on x y) p c down e =
    inr
    (⊎_elim
    (λ q. (or_first (x == c) (y == c) (eq-eqb x c (sym q)), below x q down.0))
    (λ q. (or_second (x == c) (y == c) (eq-eqb y c (sym q)), below y q down.1))
    e)
  where
    below : (x : ℕ) → c ≡ x → x < p → c < p
    below x q lt = omega arith
edge_leads (Return from) p c down e = absurd e

-- ---- behind a cut at the end of a block a section begins

record IsFresh (m : Marks) (r : Site) : Type 0 where
  clean : m.clean r ≡ true
  shut : m.opened r ≡ false

only_ends : (tags : Tags) (covers : Site → Site → Bool) (m : Marks) (old new : List Line) (added : List Dep) (n : Marks) (r : Site) → SweepLines tags covers m old new added n → old ≡ [] → IsFresh m r → IsFresh n r
only_ends tags covers m old new added n r (Ends k) e h = h
only_ends tags covers m old new added n r (Keeps k line x y more l free s) e h = cc
only_ends tags covers m old new added n r (Cuts k w a line x y more l step opened meets s) e h = cc

cut_fresh : (covers : Site → Site → Bool) (m : Marks) (line : Line) (r : Site) → IsCut line → IsFresh (passed covers line m) r
cut_fresh covers m (Cut cause) r h = record { clean = refl; shut = refl }
cut_fresh covers m line r h = absurd h

no_cut : (line : Line) (w : Site) → steps_of line ≡ WriteStep w ∷ [] → IsCut line → ⊥
no_cut (Cut cause) w e is = cc
no_cut line w e is = is

end_fresh : (tags : Tags) (covers : Site → Site → Bool) (m : Marks) (old new : List Line) (added : List Dep) (n : Marks) (r : Site) → SweepLines tags covers m old new added n → EndsWithCut old → IsFresh n r
end_fresh tags covers m old new added n r (Ends k) h = absurd h
end_fresh tags covers m old new added n r (Keeps k line [] y more l free s) h = only_ends tags covers (passed covers line k) [] y more l r s refl (cut_fresh covers k line r h)
end_fresh tags covers m old new added n r (Keeps k line (z ∷ x) y more l free s) h = end_fresh tags covers (passed covers line k) (z ∷ x) y more l r s h
end_fresh tags covers m old new added n r (Cuts k w a line [] y more l step opened meets s) h = absurd (no_cut line w step h)
end_fresh tags covers m old new added n r (Cuts k w a line (z ∷ x) y more l step opened meets s) h = end_fresh tags covers (passed covers line fresh) (z ∷ x) y more l r s h

-- ---- the marks at starts and ends

module _ (tags : Tags) (entry : ℕ) (all : List Block) where
  abbrev Sweep : ℕ → List Block → List Block → List Dep → (ℕ → Marks) → Type 0
  Sweep b xs ys added pending = SweepDown tags entry all b xs ys added pending

  -- at the start of a block: of one that is swept when it was, of another so far
  abbrev starts : (b : ℕ) (xs ys : List Block) (added : List Dep) (pending : ℕ → Marks) → Sweep b xs ys added pending → ℕ → Marks
  starts b xs ys added pending (Last n) c = start_marks entry all c
  starts b xs ys added pending (Down n x y us vs later own p e h lines exit) c = if nat_le n c then starts (suc n) us vs later p h c else handed y.exit e p c

  abbrev ends : (b : ℕ) (xs ys : List Block) (added : List Dep) (pending : ℕ → Marks) → Sweep b xs ys added pending → ℕ → Marks
  ends b xs ys added pending (Last n) c = fresh
  ends b xs ys added pending (Down n x y us vs later own p e h lines exit) c = if n == c then e else ends (suc n) us vs later p h c

  starts_below : (b : ℕ) (xs ys : List Block) (added : List Dep) (pending : ℕ → Marks) (h : Sweep b xs ys added pending) (c : ℕ) → c < b → starts b xs ys added pending h c ≡ pending c
  starts_below b xs ys added pending (Last n) c lt = refl
  starts_below b xs ys added pending (Down n x y us vs later own p e h lines exit) c lt =
      ap (λ (t : Bool). if t then starts (suc n) us vs later p h c else handed y.exit e p c) (leb_not n c lt)

  starts_from : (n : ℕ) (x y : Block) (us vs : List Block) (later own : List Dep) (p : ℕ → Marks) (e : Marks) (h : Sweep (suc n) us vs later p) (lines : SweepLines tags (covers_by tags) (p n) x.lines.items y.lines.items own e) (exit : y.exit ≡ x.exit) (c : ℕ) → n ≤ c →
      starts n (x ∷ us) (y ∷ vs) (later ++ own) (handed y.exit e p) (Down n x y us vs later own p e h lines exit) c ≡ starts (suc n) us vs later p h c
  starts_from n x y us vs later own p e h lines exit c le = ap (λ (t : Bool). if t then starts (suc n) us vs later p h c else handed y.exit e p c) (le-leb n c le)

  ends_here : (n : ℕ) (x y : Block) (us vs : List Block) (later own : List Dep) (p : ℕ → Marks) (e : Marks) (h : Sweep (suc n) us vs later p) (lines : SweepLines tags (covers_by tags) (p n) x.lines.items y.lines.items own e) (exit : y.exit ≡ x.exit) (c : ℕ) → n ≡ c →
      ends n (x ∷ us) (y ∷ vs) (later ++ own) (handed y.exit e p) (Down n x y us vs later own p e h lines exit) c ≡ e
  ends_here n x y us vs later own p e h lines exit c q = ap (λ (t : Bool). if t then e else ends (suc n) us vs later p h c) (eq-eqb n c q)

  ends_from : (n : ℕ) (x y : Block) (us vs : List Block) (later own : List Dep) (p : ℕ → Marks) (e : Marks) (h : Sweep (suc n) us vs later p) (lines : SweepLines tags (covers_by tags) (p n) x.lines.items y.lines.items own e) (exit : y.exit ≡ x.exit) (c : ℕ) → (n ≡ c → ⊥) →
      ends n (x ∷ us) (y ∷ vs) (later ++ own) (handed y.exit e p) (Down n x y us vs later own p e h lines exit) c ≡ ends (suc n) us vs later p h c
  ends_from n x y us vs later own p e h lines exit c q = ap (λ (t : Bool). if t then e else ends (suc n) us vs later p h c) (eqb_not n c q)

  -- the blocks are swept with these
  blocks_swept : (s t : ℕ → Marks) (b : ℕ) (xs ys : List Block) (added : List Dep) (pending : ℕ → Marks) (h : Sweep b xs ys added pending) → ((c : ℕ) → b ≤ c → s c ≡ starts b xs ys added pending h c) → ((c : ℕ) → b ≤ c → t c ≡ ends b xs ys added pending h c) → SweepBlocks tags (covers_by tags) s t b xs ys added
  blocks_swept s t b xs ys added pending (Last n) p q = refl
  blocks_swept s t b xs ys added pending (Down n x y us vs later own w e h lines exit) p q =
      let below : n < suc n = omega arith in
      let self : n ≤ n = omega arith in
      let one : s n ≡ w n = p n self ∙ starts_from n x y us vs later own w e h lines exit n self ∙ starts_below (suc n) us vs later w h n below in
      let two : t n ≡ e = q n self ∙ ends_here n x y us vs later own w e h lines exit n refl in
      (later, own, refl, blocks_swept s t (suc n) us vs later w h (λ c le. p c (down n c le) ∙ starts_from n x y us vs later own w e h lines exit c (down n c le)) (λ c le. q c (down n c le) ∙ ends_from n x y us vs later own w e h lines exit c (apart n c le)), subst (λ (k : Marks). SweepLines tags (covers_by tags) (s n) x.lines.items y.lines.items own k) (sym two) (subst (λ (k : Marks). SweepLines tags (covers_by tags) k x.lines.items y.lines.items own e) (sym one) lines), exit)
    where
      down : (n c : ℕ) → suc n ≤ c → n ≤ c
      down n c le = omega arith

      apart : (n c : ℕ) → suc n ≤ c → n ≡ c → ⊥
      apart n c le e = omega arith

  -- ---- a mark is handed on

  begun : (b : ℕ) (xs ys : List Block) (added : List Dep) (pending : ℕ → Marks) (h : Sweep b xs ys added pending) (c : ℕ) (r : Site) → begins entry all c ≡ true → (starts b xs ys added pending h c).clean r ≡ true
  begun b xs ys added pending (Last n) c r e = e
  begun b xs ys added pending (Down n x y us vs later own p k h lines exit) c r e =
      ⊎_elim
      (λ lt. ap (λ (m : Marks). m.clean r) (starts_below n (x ∷ us) (y ∷ vs) (later ++ own) (handed y.exit k p) (Down n x y us vs later own p k h lines exit) c lt)
      ∙ or_first ((p c).clean r) (leads_to y.exit c && k.clean r) (sym (ap (λ (m : Marks). m.clean r) (starts_below (suc n) us vs later p h c (up c n lt))) ∙ begun (suc n) us vs later p h c r e))
      (λ le. ap (λ (m : Marks). m.clean r) (starts_from n x y us vs later own p k h lines exit c le) ∙ begun (suc n) us vs later p h c r e)
      (cases_lt c n)
    where
      up : (c n : ℕ) → c < n → c < suc n
      up c n lt = omega arith

  some_is : {A : Type 0} (x y : A) → Some x ≡ Some y → x ≡ y
  some_is x y e = cc

  -- which flag of the marks
  module _ (flag : Marks → Site → Bool) (of_joined : (m n : Marks) (t : Bool) (r : Site) → flag (joined m (only_if t n)) r ≡ (flag m r || (t && flag n r))) where
    module _ (n : ℕ) (x y : Block) (us vs : List Block) (later own : List Dep) (p : ℕ → Marks) (e : Marks) (h : Sweep (suc n) us vs later p) (lines : SweepLines tags (covers_by tags) (p n) x.lines.items y.lines.items own e) (exit : y.exit ≡ x.exit) where
      abbrev whole : Sweep n (x ∷ us) (y ∷ vs) (later ++ own) (handed y.exit e p)
      whole = Down n x y us vs later own p e h lines exit

      abbrev whole_starts : ℕ → Marks
      whole_starts = starts n (x ∷ us) (y ∷ vs) (later ++ own) (handed y.exit e p) whole

      abbrev whole_ends : ℕ → Marks
      whole_ends = ends n (x ∷ us) (y ∷ vs) (later ++ own) (handed y.exit e p) whole

      -- what stands at a start before this block is swept stands there afterwards
      still : (c : ℕ) (r : Site) → flag (starts (suc n) us vs later p h c) r ≡ true → flag (whole_starts c) r ≡ true
      still c r f =
          ⊎_elim
          (λ lt. ap (λ (m : Marks). flag m r) (starts_below n (x ∷ us) (y ∷ vs) (later ++ own) (handed y.exit e p) whole c lt) ∙ of_joined (p c) e (leads_to y.exit c) r
          ∙ or_first (flag (p c) r) (leads_to y.exit c && flag e r) (sym (ap (λ (m : Marks). flag m r) (starts_below (suc n) us vs later p h c (up lt))) ∙ f))
          (λ le. ap (λ (m : Marks). flag m r) (starts_from n x y us vs later own p e h lines exit c le) ∙ f)
          (cases_lt c n)
        where
          up : c < n → c < suc n
          up lt = omega arith

      own_end : (c : ℕ) (r : Site) → leads_to y.exit c ≡ true → c < n → flag e r ≡ true → flag (whole_starts c) r ≡ true
      own_end c r l lt f =
          ap (λ (m : Marks). flag m r) (starts_below n (x ∷ us) (y ∷ vs) (later ++ own) (handed y.exit e p) whole c lt) ∙ of_joined (p c) e (leads_to y.exit c) r
          ∙ or_second (flag (p c) r) (leads_to y.exit c && flag e r) (and_both (leads_to y.exit c) (flag e r) l f)

    on : (b : ℕ) (xs ys : List Block) (added : List Dep) (pending : ℕ → Marks) (h : Sweep b xs ys added pending) (k c : ℕ) (block : Block) (r : Site) → slice_get ys k ≡ Some block → leads_to block.exit c ≡ true → c < b + k → flag (ends b xs ys added pending h (b + k)) r ≡ true → flag (starts b xs ys added pending h c) r ≡ true
    on b xs ys added pending (Last n) k c block r at l lt f = cc
    on b xs ys added pending (Down n x y us vs later own p e h lines exit) zero c block r at l lt f =
        let one : y ≡ block = some_is y block at in
        let here : n ≡ n + 0 = omega arith in
        own_end n x y us vs later own p e h lines exit c r (subst (λ (z : Block). leads_to z.exit c ≡ true) (sym one) l) (omega arith) (sym (ap (λ (m : Marks). flag m r) (ends_here n x y us vs later own p e h lines exit (n + 0) here)) ∙ f)
    on b xs ys added pending (Down n x y us vs later own p e h lines exit) (suc k) c block r at l lt f =
        let here : n + suc k ≡ suc n + k = omega arith in
        let other : n ≡ n + suc k → ⊥ = λ q. omega (arith, q) in
        let deep = ap (λ (m : Marks). flag m r) (sym (ends_from n x y us vs later own p e h lines exit (n + suc k) other)) ∙ f in
        still n x y us vs later own p e h lines exit c r (on (suc n) us vs later p h k c block r at l (omega arith) (subst (λ (j : ℕ). flag (ends (suc n) us vs later p h j) r ≡ true) here deep))

    -- where a mark at a start comes from
    record Source (b : ℕ) (ys : List Block) (stops : ℕ → Marks) (c : ℕ) (r : Site) : Type 0 where
      place : ℕ
      block : Block
      at : slice_get ys place ≡ Some block
      leads : leads_to block.exit c ≡ true
      holds : flag (stops (b + place)) r ≡ true

    deeper : (n : ℕ) (x y : Block) (us vs : List Block) (later own : List Dep) (p : ℕ → Marks) (e : Marks) (h : Sweep (suc n) us vs later p) (lines : SweepLines tags (covers_by tags) (p n) x.lines.items y.lines.items own e) (exit : y.exit ≡ x.exit) (c : ℕ) (r : Site) → Source (suc n) vs (ends (suc n) us vs later p h) c r → Source n (y ∷ vs) (whole_ends n x y us vs later own p e h lines exit) c r
    deeper n x y us vs later own p e h lines exit c r s =
        let here : suc n + s.place ≡ n + suc s.place = omega arith in
        let other : n ≡ n + suc s.place → ⊥ = λ q. omega (arith, q) in
        record {
          place = suc s.place;
          block = s.block;
          at = s.at;
          leads = s.leads;
          holds = ap (λ (m : Marks). flag m r) (ends_from n x y us vs later own p e h lines exit (n + suc s.place) other) ∙ subst (λ (j : ℕ). flag (ends (suc n) us vs later p h j) r ≡ true) here s.holds;
        }

    from_down : (first : ℕ → Type 0) (n : ℕ) (x y : Block) (us vs : List Block) (later own : List Dep) (p : ℕ → Marks) (e : Marks) (h : Sweep (suc n) us vs later p) (lines : SweepLines tags (covers_by tags) (p n) x.lines.items y.lines.items own e) (exit : y.exit ≡ x.exit) (c : ℕ) (r : Site) →
        (flag (starts (suc n) us vs later p h c) r ≡ true → first c ⊎ Source (suc n) vs (ends (suc n) us vs later p h) c r) → flag (whole_starts n x y us vs later own p e h lines exit c) r ≡ true → first c ⊎ Source n (y ∷ vs) (whole_ends n x y us vs later own p e h lines exit) c r
    from_down first n x y us vs later own p e h lines exit c r deep f =
        ⊎_elim
        (λ lt.
        let sum = sym (ap (λ (m : Marks). flag m r) (starts_below n (x ∷ us) (y ∷ vs) (later ++ own) (handed y.exit e p) (Down n x y us vs later own p e h lines exit) c lt) ∙ of_joined (p c) e (leads_to y.exit c) r) ∙ f in
        ⊎_elim
        (λ q. again (ap (λ (m : Marks). flag m r) (starts_below (suc n) us vs later p h c (up lt)) ∙ q))
        (λ q. inr (record { place = 0; block = y; at = refl; leads = and_first (leads_to y.exit c) (flag e r) q; holds = ap (λ (m : Marks). flag m r) (ends_here n x y us vs later own p e h lines exit (n + 0) zero_more) ∙ and_second (leads_to y.exit c) (flag e r) q }))
        (or_cases (flag (p c) r) (leads_to y.exit c && flag e r) sum))
        (λ le. again (sym (ap (λ (m : Marks). flag m r) (starts_from n x y us vs later own p e h lines exit c le)) ∙ f))
        (cases_lt c n)
      where
        up : c < n → c < suc n
        up lt = omega arith

        zero_more : n ≡ n + 0
        zero_more = omega arith

        again : flag (starts (suc n) us vs later p h c) r ≡ true → first c ⊎ Source n (y ∷ vs) (whole_ends n x y us vs later own p e h lines exit) c r
        again g = ⊎_elim (λ t. inl t) (λ s. inr (deeper n x y us vs later own p e h lines exit c r s)) (deep g)

    from : (first : ℕ → Type 0) → ((c : ℕ) (r : Site) → flag (start_marks entry all c) r ≡ true → first c) → (b : ℕ) (xs ys : List Block) (added : List Dep) (pending : ℕ → Marks) (h : Sweep b xs ys added pending) (c : ℕ) (r : Site) → flag (starts b xs ys added pending h c) r ≡ true → first c ⊎ Source b ys (ends b xs ys added pending h) c r
    from first begin b xs ys added pending (Last n) c r f = inl (begin c r f)
    from first begin b xs ys added pending (Down n x y us vs later own p e h lines exit) c r f = from_down first n x y us vs later own p e h lines exit c r (λ g. from first begin (suc n) us vs later p h c r g) f

-- ---- loop edges

turned_at : (blocks : List Block) (c : ℕ) → is_turned blocks c ≡ true → (p : ℕ) × (block : Block) × (slice_get blocks p ≡ Some block) × (block.exit ≡ Turn c)
turned_at [] c e = cc
turned_at (x ∷ xs) c e =
    ⊎_elim
    (λ q. (0, x, refl, is_turn x.exit q))
    (λ q. let k = turned_at xs c q in (suc k.0, k.1, k.2, k.3))
    (or_cases (turns_to x.exit c) (is_turned xs c) e)
  where
    is_turn : (exit : Exit) → turns_to exit c ≡ true → exit ≡ Turn c
    is_turn (Jump z) q = cc
    is_turn (Turn z) q = ap (λ n. Turn n) (eqb-true z c q)
    is_turn (Branch on z w) q = cc
    is_turn (Return z) q = cc

turned : (blocks : List Block) (p c : ℕ) (block : Block) → slice_get blocks p ≡ Some block → block.exit ≡ Turn c → is_turned blocks c ≡ true
turned [] p c block at e = cc
turned (x ∷ xs) zero c block at e =
    let one : x ≡ block = cc in
    or_first (turns_to x.exit c) (is_turned xs c) (ap (λ t. turns_to t c) (ap (λ (z : Block). z.exit) one ∙ e) ∙ eq-eqb c c refl)
turned (x ∷ xs) (suc p) c block at e = or_second (turns_to x.exit c) (is_turned xs c) (turned xs p c block at e)

same_turns : (tags : Tags) (covers : Site → Site → Bool) (s t : ℕ → Marks) (b : ℕ) (xs ys : List Block) (added : List Dep) (c : ℕ) → SweepBlocks tags covers s t b xs ys added → is_turned xs c ≡ is_turned ys c
same_turns tags covers s t b [] [] added c h = refl
same_turns tags covers s t b (x ∷ xs) (y ∷ ys) added c h = ap (λ e. turns_to e c || is_turned xs c) (sym h.5) ∙ ap (λ k. turns_to y.exit c || k) (same_turns tags covers s t (suc b) xs ys h.0 c h.3)
same_turns tags covers s t b [] (y ∷ ys) added c h = absurd h
same_turns tags covers s t b (x ∷ xs) [] added c h = absurd h

-- ---- the whole function

module _ (tags : Tags) (old new : Function) (added : List Dep) (pending : ℕ → Marks) (h : SweepDown tags old.entry old.blocks.items 0 old.blocks.items new.blocks.items added pending) (rest : new ≡ record old { blocks = new.blocks }) (ordered : IsOrdered new.blocks.items) (turns : (b : ℕ) (block : Block) → slice_get old.blocks.items b ≡ Some block → CutAtTurn block.exit block.lines.items) where
  abbrev xs : List Block
  xs = old.blocks.items

  abbrev ys : List Block
  ys = new.blocks.items

  abbrev start : ℕ → Marks
  start = starts tags old.entry xs 0 xs ys added pending h

  abbrev stop : ℕ → Marks
  stop = ends tags old.entry xs 0 xs ys added pending h

  swept_blocks : SweepBlocks tags (covers_by tags) start stop 0 xs ys added
  swept_blocks = blocks_swept tags old.entry xs start stop 0 xs ys added pending h (λ c le. refl) (λ c le. refl)

  same_entry : new.entry ≡ old.entry
  same_entry = ap (λ (f : Function). f.entry) rest

  -- a loop edge's block ends with fresh marks
  turn_fresh : (p c : ℕ) (block : Block) (r : Site) → slice_get ys p ≡ Some block → block.exit ≡ Turn c → IsFresh (stop p) r
  turn_fresh p c block r at e =
      let k = swept_block tags (covers_by tags) start stop xs ys added p block swept_blocks at in
      let cut = subst (λ x. CutAtTurn x k.was.lines.items) (sym k.exit ∙ e) (turns p k.was k.at) in
      end_fresh tags (covers_by tags) (start p) k.was.lines.items block.lines.items k.own (stop p) r k.lines cut

  zero_up : (p : ℕ) → 0 + p ≡ p
  zero_up p = omega arith

  below_up : (p c : ℕ) → c < p → c < 0 + p
  below_up p c lt = omega arith

  clean_on : (p c : ℕ) (block : Block) (r : Site) → slice_get ys p ≡ Some block → IsEdge block.exit c → (stop p).clean r ≡ true → (start c).clean r ≡ true
  clean_on p c block r at edge f =
      ⊎_elim
      (λ t. begun tags old.entry xs 0 xs ys added pending h c r (or_second (old.entry == c) (is_turned xs c) (same_turns tags (covers_by tags) start stop 0 xs ys added c swept_blocks ∙ turned ys p c block at t)))
      (λ (l : (leads_to block.exit c ≡ true) × (c < p)). on tags old.entry xs (λ m s. m.clean s) (λ m n t s. refl) 0 xs ys added pending h p c block r at l.0 (below_up p c l.1) (subst (λ j. (stop j).clean r ≡ true) (sym (zero_up p)) f))
      (edge_leads block.exit p c (ordered.each p block at) edge)

  open_on : (p c : ℕ) (block : Block) (r : Site) → slice_get ys p ≡ Some block → IsEdge block.exit c → (stop p).opened r ≡ true → (start c).opened r ≡ true
  open_on p c block r at edge f =
      ⊎_elim
      (λ t. absurd (clash (sym f ∙ (turn_fresh p c block r at t).shut)))
      (λ (l : (leads_to block.exit c ≡ true) × (c < p)). on tags old.entry xs (λ m s. m.opened s) (λ m n t s. refl) 0 xs ys added pending h p c block r at l.0 (below_up p c l.1) (subst (λ j. (stop j).opened r ≡ true) (sym (zero_up p)) f))
      (edge_leads block.exit p c (ordered.each p block at) edge)

  clean_from : (c : ℕ) (r : Site) → (start c).clean r ≡ true → (c ≡ new.entry) ⊎ ComesFrom ys c (λ p. (stop p).clean r ≡ true)
  clean_from c r f =
      ⊎_elim
      (λ t. ⊎_elim (λ e. inl (sym (same_entry ∙ eqb-true old.entry c e))) (λ e. inr (by_turn e)) (or_cases (old.entry == c) (is_turned xs c) t))
      (λ s. inr (s.place, s.block, s.at, leads_edge s.block.exit c s.leads, subst (λ j. (stop j).clean r ≡ true) (zero_up s.place) s.holds))
      (from tags old.entry xs (λ m s. m.clean s) (λ m n t s. refl) (λ k. begins old.entry xs k ≡ true) (λ k s e. e) 0 xs ys added pending h c r f)
    where
      by_turn : is_turned xs c ≡ true → ComesFrom ys c (λ p. (stop p).clean r ≡ true)
      by_turn e =
          let k = turned_at ys c (sym (same_turns tags (covers_by tags) start stop 0 xs ys added c swept_blocks) ∙ e) in
          (k.0, k.1, k.2, subst (λ x. IsEdge x c) (sym k.3) refl, (turn_fresh k.0 c k.1 r k.2 k.3).clean)

  open_from : (c : ℕ) (r : Site) → (start c).opened r ≡ true → ComesFrom ys c (λ p. (stop p).opened r ≡ true)
  open_from c r f =
      ⊎_elim
      (λ t. absurd t)
      (λ s. (s.place, s.block, s.at, leads_edge s.block.exit c s.leads, subst (λ j. (stop j).opened r ≡ true) (zero_up s.place) s.holds))
      (from tags old.entry xs (λ m s. m.opened s) (λ m n t s. refl) (λ k. ⊥) (λ k s e. clash (sym e)) 0 xs ys added pending h c r f)

  pub swept_down : Swept tags (covers_by tags) old new added
  swept_down = record {
    starts = start;
    ends = stop;
    blocks = swept_blocks;
    joined = record {
      entry = λ r. begun tags old.entry xs 0 xs ys added pending h new.entry r (or_first (old.entry == new.entry) (is_turned xs new.entry) (eq-eqb old.entry new.entry (sym same_entry)));
      clean_on = clean_on;
      open_on = open_on;
      clean_from = clean_from;
      open_from = open_from;
    };
    rest = rest;
  }
