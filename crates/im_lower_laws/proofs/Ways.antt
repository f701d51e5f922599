-- What is read first from a point on, line by line and over jumps.
use Rattle.std.proofs.Common.{◌≡◌, ℕ, zero, suc, ◌+◌, ◌<◌, ◌≤◌, ◌⊎◌, inl, inr, Bool, true, false, not, List, [], ◌∷◌, length, take, drop, refl, sym, ap, ◌∙◌, subst, arith}
use Rattle.std.specs.Prelude.{◌&&◌, ◌||◌, ◌==◌}
use Rattle.std.proofs.lemmas.Bool.{and_parts, or_cases, cases_Bool, not-true, both_ways, eqb-true, eqb-false}
use Rattle.im_num.specs.declared.kind.Kind.{Kind}
use Rattle.im_ctype.specs.declared.cell.Cell.{Cell}
use Rattle.im_block.specs.declared.code.Place.{Place}
use Rattle.im_block.specs.declared.code.Place.TheVariants.{Static, Local, Through}
use Rattle.im_block.specs.declared.code.Line.{Line}
use Rattle.im_block.specs.declared.code.Line.TheVariants.{Read, Write}
use Rattle.im_block.specs.declared.code.Exit.TheVariants.{Jump, Turn, Branch}
use Rattle.im_block.specs.declared.code.Block.{Block}
use Rattle.im_alloc_relation.specs.Live.{place_uses, uses, sets, lives}
use Rattle.im_alloc_relation.specs.Reads.{lives_in, reads_first}
use Rattle.im_lower_relation.specs.Codes.{Point, before, ends, Begins, further_in, reads_of, writes_of, CodesGroup, CodesGroups}

-- a register, the register of a place, several side by side; or what else
abbrev pub Or : ℕ → (ℕ → Type 0) → ℕ → Type 0
Or r P v = ((v == r) ≡ true) ⊎ P v

abbrev pub OrPlace : Place → (ℕ → Type 0) → ℕ → Type 0
OrPlace w P v = (place_uses w v ≡ true) ⊎ P v

abbrev pub OrRow : ℕ → ℕ → (ℕ → Type 0) → ℕ → Type 0
OrRow from count P v = ((from ≤ v) × (v < from + count)) ⊎ P v

pub without : (r : ℕ) (P : ℕ → Type 0) (v : ℕ) → (v == r) ≡ false → Or r P v → P v
without r P v f (inl y) = absurd (both_ways (v == r) f y)
without r P v f (inr q) = q

pub unplaced : (P : ℕ → Type 0) (v : ℕ) → (false ≡ true) ⊎ P v → P v
unplaced P v (inl y) = absurd (both_ways false refl y)
unplaced P v (inr q) = q

pub placed_once : (w : Place) (P : ℕ → Type 0) (v : ℕ) → OrPlace w (OrPlace w P) v → OrPlace w P v
placed_once w P v (inl y) = inl y
placed_once w P v (inr q) = q

pub named_once : (r : ℕ) (w : Place) (P : ℕ → Type 0) (v : ℕ) → Or r (OrPlace w (Or r P)) v → Or r (OrPlace w P) v
named_once r w P v (inl y) = inl y
named_once r w P v (inr (inl u)) = inr (inl u)
named_once r w P v (inr (inr (inl y))) = inl y
named_once r w P v (inr (inr (inr q))) = inr (inr q)

pub place_first : (r : ℕ) (w : Place) (P : ℕ → Type 0) (v : ℕ) → Or r (OrPlace w P) v → OrPlace w (Or r P) v
place_first r w P v (inl y) = inr (inl y)
place_first r w P v (inr (inl u)) = inl u
place_first r w P v (inr (inr q)) = inr (inr q)

pub further : (w : Place) (d : ℕ) (P : ℕ → Type 0) (v : ℕ) → OrPlace w P v → OrPlace (further_in w d) P v
further (Static object offset) d P v q = q
further (Local object offset) d P v q = q
further (Through pointer offset) d P v q = q

pub nearer : (w : Place) (d : ℕ) (P : ℕ → Type 0) (v : ℕ) → OrPlace (further_in w d) P v → OrPlace w P v
nearer (Static object offset) d P v q = q
nearer (Local object offset) d P v q = q
nearer (Through pointer offset) d P v q = q

-- what is read first from a point on, over at most n further blocks
abbrev pub reads_at : List Block → ℕ → Point → ℕ → Bool
reads_at blocks n s v = lives (reads_first blocks n) s.rest s.exit v

-- what is read first over at most n further blocks is one of these
pub record Allows (blocks : List Block) (n : ℕ) (s : Point) (P : ℕ → Type 0) : Type 0 where
  pub is : (k v : ℕ) → k ≤ n → reads_at blocks k s v ≡ true → P v

module _ (blocks : List Block) where
  pub weaker : (n : ℕ) (s : Point) (P Q : ℕ → Type 0) → Allows blocks n s P → ((v : ℕ) → P v → Q v) → Allows blocks n s Q
  weaker n s P Q h f = record { is = λ k v le t. f v (h.is k v le t) }

  pub lower : (m n : ℕ) (s : Point) (P : ℕ → Type 0) → m ≤ n → Allows blocks n s P → Allows blocks m s P
  lower m n s P less h = record { is = λ k v le t. h.is k v (omega (arith, less, le)) t }

  pub step : (n : ℕ) (line : Line) (t : Point) (P Q : ℕ → Type 0) → ((v : ℕ) → uses line v ≡ true → P v) → ((v : ℕ) → sets line v ≡ false → Q v → P v) → Allows blocks n t Q → Allows blocks n (before line t) P
  step n line t P Q used kept h = record {
    is = λ k v le e. elim (or_cases (uses line v) (not (sets line v) && reads_at blocks k t v) e) [
      | inl u ↦ used v u
      | inr r ↦ (let parts = and_parts (not (sets line v)) (reads_at blocks k t v) r in kept v (not-true (sets line v) parts.0) (h.is k v le parts.1))
    ];
  }

  -- a line that sets a register, by what it uses
  pub sets_none : (n : ℕ) (line : Line) (to : ℕ) (t : Point) (P : ℕ → Type 0) → ((v : ℕ) → uses line v ≡ false) → ((v : ℕ) → sets line v ≡ (v == to)) → Allows blocks n t (Or to P) → Allows blocks n (before line t) P
  sets_none n line to t P u s h =
      step n line t P (Or to P) (λ v y. absurd (both_ways (uses line v) (u v) y)) (λ v f q. without to P v (sym (s v) ∙ f) q) h

  pub sets_one : (n : ℕ) (line : Line) (a to : ℕ) (t : Point) (P : ℕ → Type 0) → ((v : ℕ) → uses line v ≡ (v == a)) → ((v : ℕ) → sets line v ≡ (v == to)) → Allows blocks n t (Or to P) → Allows blocks n (before line t) (Or a P)
  sets_one n line a to t P u s h =
      step n line t (Or a P) (Or to P) (λ v y. inl (sym (u v) ∙ y)) (λ v f q. inr (without to P v (sym (s v) ∙ f) q)) h

  pub sets_two : (n : ℕ) (line : Line) (a b to : ℕ) (t : Point) (P : ℕ → Type 0) → ((v : ℕ) → uses line v ≡ (v == a || v == b)) → ((v : ℕ) → sets line v ≡ (v == to)) → Allows blocks n t (Or to P) → Allows blocks n (before line t) (Or b (Or a P))
  sets_two n line a b to t P u s h =
      step n line t (Or b (Or a P)) (Or to P)
      (λ v y. elim (or_cases (v == a) (v == b) (sym (u v) ∙ y)) [ inl q ↦ inr (inl q) | inr q ↦ inl q ])
      (λ v f q. inr (inr (without to P v (sym (s v) ∙ f) q))) h

  pub sets_placed : (n : ℕ) (line : Line) (w : Place) (to : ℕ) (t : Point) (P : ℕ → Type 0) → ((v : ℕ) → uses line v ≡ place_uses w v) → ((v : ℕ) → sets line v ≡ (v == to)) → Allows blocks n t (Or to P) → Allows blocks n (before line t) (OrPlace w P)
  sets_placed n line w to t P u s h =
      step n line t (OrPlace w P) (Or to P) (λ v y. inl (sym (u v) ∙ y)) (λ v f q. inr (without to P v (sym (s v) ∙ f) q)) h

  pub writes : (n : ℕ) (w : Place) (kind : Kind) (from access : ℕ) (t : Point) (P : ℕ → Type 0) → Allows blocks n t P → Allows blocks n (before (Write w kind from access) t) (Or from (OrPlace w P))
  writes n w kind from access t P h =
      step n (Write w kind from access) t (Or from (OrPlace w P)) P
      (λ v y. elim (or_cases (place_uses w v) (v == from) y) [ inl q ↦ inr (inl q) | inr q ↦ inl q ])
      (λ v f q. inr (inr q)) h

  -- the cells of a struct
  row_more : (from count : ℕ) (P : ℕ → Type 0) (v : ℕ) → OrRow (suc from) count P v → OrRow from (suc count) P v
  row_more from count P v (inl b) = (let one = b.0 in let two = b.1 in inl (omega (arith, one), omega (arith, two)))
  row_more from count P v (inr q) = inr q

  row_first : (from count : ℕ) (P : ℕ → Type 0) (v : ℕ) → (v == from) ≡ true → OrRow from (suc count) P v
  row_first from count P v y = (let e = eqb-true v from y in inl (omega (arith, e), omega (arith, e)))

  row_rest : (from count : ℕ) (P : ℕ → Type 0) (v : ℕ) → (v == from) ≡ false → OrRow from (suc count) P v → OrRow (suc from) count P v
  row_rest from count P v f (inl b) =
      (let ne = eqb-false v from f in let one = b.0 in let two = b.1 in inl (omega (arith, one, ne), omega (arith, two)))
  row_rest from count P v f (inr q) = inr q

  pub writes_row : (n : ℕ) (w : Place) (from : ℕ) (cells : List Cell) (ks : List ℕ) (t : Point) (P : ℕ → Type 0) → Allows blocks n t (OrPlace w P) → Allows blocks n (writes_of w from cells ks t) (OrRow from (length cells) (OrPlace w P))
  writes_row n w from [] ks t P h = weaker n t _ _ h (λ v q. inr q)
  writes_row n w from (c ∷ cs) [] t P h = weaker n t _ _ h (λ v q. inr q)
  writes_row n w from (c ∷ cs) (k ∷ ks) t P h =
      let rest = weaker n _ _ _ (writes_row n w (suc from) cs ks t P h) (λ v q. row_more from (length cs) (OrPlace w P) v q) in
      step n (Write (further_in w c.offset) c.kind from k) _ _ _
      (λ v y. elim (or_cases (place_uses (further_in w c.offset) v) (v == from) y) [
        | inl q ↦ inr (nearer w c.offset P v (inl q))
        | inr q ↦ row_first from (length cs) (OrPlace w P) v q
      ])
      (λ v f q. q) rest

  pub reads_row : (n pointer to : ℕ) (cells : List Cell) (ns : List ℕ) (t : Point) (P : ℕ → Type 0) → length ns ≡ length cells → Allows blocks n t (OrRow to (length cells) P) → Allows blocks n (reads_of pointer to cells ns t) (Or pointer P)
  reads_row n pointer to [] ns t P e h = weaker n t _ _ h (λ v q. no_row to P v q)
    where
      no_row : (to : ℕ) (P : ℕ → Type 0) (v : ℕ) → OrRow to 0 P v → Or pointer P v
      no_row to P v (inl b) = (let one = b.0 in let two = b.1 in absurd (omega (arith, one, two)))
      no_row to P v (inr q) = inr q
  reads_row n pointer to (c ∷ cs) [] t P e h = absurd (omega (arith, e))
  reads_row n pointer to (c ∷ cs) (k ∷ ks) t P e h =
      let rest : Allows blocks n (reads_of pointer (suc to) cs ks t) (Or pointer (Or to P)) =
      reads_row n pointer (suc to) cs ks t (Or to P) (omega (arith, e)) (weaker n t _ _ h (λ v q. row_taken v (cases_Bool (v == to)) q)) in
      step n (Read to (Through pointer c.offset) c.kind k) _ (Or pointer P) (Or pointer (Or to P))
      (λ v y. inl y)
      (λ v f q. taken v f q) rest
    where
      row_taken : (v : ℕ) → (((v == to) ≡ true) ⊎ ((v == to) ≡ false)) → OrRow to (suc (length cs)) P v → OrRow (suc to) (length cs) (Or to P) v
      row_taken v (inl y) q = inr (inl y)
      row_taken v (inr f) q = row_or v (row_rest to (length cs) P v f q)
        where
          row_or : (v : ℕ) → OrRow (suc to) (length cs) P v → OrRow (suc to) (length cs) (Or to P) v
          row_or v (inl b) = inl b
          row_or v (inr q) = inr (inr q)

      taken : (v : ℕ) → (v == to) ≡ false → Or pointer (Or to P) v → Or pointer P v
      taken v f (inl y) = inl y
      taken v f (inr q) = inr (without to P v f q)

  group_row : (n low : ℕ) (w : Place) (cells : List Cell) (s t : Point) (P : ℕ → Type 0) → CodesGroup low w cells s t → Allows blocks n t (OrPlace w P) → Allows blocks n s (Or low (OrPlace w P))
  group_row n low w cells s t P c h =
      subst (λ z. Allows blocks n z (Or low (OrPlace w P))) (sym c.4)
      (reads_row n low (low + 1) cells c.0 _ (OrPlace w P) c.2 (writes_row n w (low + 1) cells c.1 t P h))

  pub groups_row : (n low : ℕ) (w : Place) (count : ℕ) (cells : List Cell) (s t : Point) (P : ℕ → Type 0) → CodesGroups low w count cells s t → Allows blocks n t (OrPlace w P) → Allows blocks n s (Or low (OrPlace w P))
  groups_row n low w zero cells s t P c h = group_row n low w cells s t P c h
  groups_row n low w (suc count) cells s t P c h =
      let rest = weaker n c.0 _ _ (groups_row n low w count (drop 8 cells) c.0 t P c.2 h) (λ v q. place_first low w P v q) in
      weaker n s _ _ (group_row n low w (take 8 cells) s c.0 (Or low P) c.1 rest) (λ v q. named_once low w P v q)

  -- over a jump to a block
  enter : (m j : ℕ) (t : Point) (b : Begins blocks j t) (v : ℕ) → reads_first blocks (suc m) j v ≡ reads_at blocks m t v
  enter m j t b v =
      ap (λ o. lives_in (reads_first blocks m) o v) b.there ∙ ap (λ ls. lives (reads_first blocks m) ls b.block.exit v) b.lines ∙ ap (λ x. lives (reads_first blocks m) t.rest x v) b.exit

  behind : (n j : ℕ) (t : Point) (P : ℕ → Type 0) → Begins blocks j t → ((m : ℕ) → m < n → Allows blocks m t P) → (k v : ℕ) → k ≤ n → reads_at blocks k (ends (Jump j)) v ≡ true → P v
  behind n j t P b h zero v le e = absurd (both_ways false refl e)
  behind n j t P b h (suc m) v le e = (h m (omega (arith, le))).is m v (omega arith) (sym (enter m j t b v) ∙ e)

  pub at_block : (n j : ℕ) (t : Point) (P : ℕ → Type 0) → Begins blocks j t → ((m : ℕ) → m < n → Allows blocks m t P) → Allows blocks n (ends (Jump j)) P
  at_block n j t P b h = record { is = behind n j t P b h }

  pub as_turn : (n j : ℕ) (P : ℕ → Type 0) → Allows blocks n (ends (Jump j)) P → Allows blocks n (ends (Turn j)) P
  as_turn n j P h = record { is = h.is }

  pub jump : (n j : ℕ) (t : Point) (P : ℕ → Type 0) → Begins blocks j t → Allows blocks n t P → Allows blocks n (ends (Jump j)) P
  jump n j t P b h = at_block n j t P b (λ m less. lower m n t P (omega (arith, less)) h)

  pub branch : (n on x y : ℕ) (P : ℕ → Type 0) → Allows blocks n (ends (Jump x)) P → Allows blocks n (ends (Jump y)) P → Allows blocks n (ends (Branch on x y)) (Or on P)
  branch n on x y P one other = record {
    is = λ k v le e. elim (or_cases (v == on || reads_first blocks k x v) (reads_first blocks k y v) e) [
      | inl a ↦ elim (or_cases (v == on) (reads_first blocks k x v) a) [ inl q ↦ inl q | inr q ↦ inr (one.is k v le q) ]
      | inr q ↦ inr (other.is k v le q)
    ];
  }
