-- The cuts, line by line.
use Rattle.std.proofs.Common.{◌≡◌, ℕ, zero, suc, ◌+◌, ◌<◌, ◌≤◌, ◌⊎◌, inl, inr, List, [], ◌∷◌, ◌++◌, length, Option, Some, None, refl, sym, ap, subst, ◌∙◌, arith}
use Rattle.std.specs.Prelude.{slice_get}
use Rattle.std.specs.String.{string_bytes}
use Rattle.std.proofs.lemmas.Option.{slice_get_within}
use Rattle.im_num.specs.declared.values.Cause.{Cause}
use Rattle.im_num.specs.declared.values.Cause.TheVariants.{Entry, Return, Loop, Length, Gap, Dep}
use Rattle.im_rv.specs.declared.code.Line.{Line}
use Rattle.im_rv.specs.declared.code.Part.{Part}
use Rattle.im_rv.specs.declared.code.Cut.{Cut}
use Rattle.im_rv.specs.Code.{address}
use Rattle.im_link.specs.Parts.{word_count, lines_of, first_of, IsPart}
use Rattle.im_link.specs.Cuts.{IsAccessAt, HasAccesses, IsPlacedCause, IsCutOf, IsCutIn, AreCutsOf}
use Rattle.im_link.specs.State.{AreAccessesOf, AreAccessesInside, IsCauseBy, IsNamedAt, AddsCut, AddsCutOf, AreFirstCuts}
use Rattle.im_link.specs.Code.{AreDependencesNamed}
use Rattle.im_link.proofs.Joining.{get_kept, same_at, old_or_last, last_one, lines_count, lines_snoc, line_in, first_inside, first_kept, first_behind, part_kept, part_behind}

below_or : (j n : ℕ) → j < n + 1 → (j < n) ⊎ (j ≡ n)
below_or j n l = grind arith

inside_or : (j n : ℕ) → (j < n) ⊎ (n ≤ j)
inside_or j n = grind arith

element_at : {X : Type 0} (xs : List X) (k : ℕ) → k < length xs → (x : X) × (slice_get xs k ≡ Some x)
element_at [] k l = absurd (omega arith)
element_at (x ∷ xs) zero l = (x, refl)
element_at (x ∷ xs) (suc k) l = element_at xs k (omega arith)

module _ (parts : List Part) where
  pub no_cuts : (cuts : List Cut) → cuts ≡ [] → AreFirstCuts parts 0 cuts
  no_cuts cuts q = subst (AreFirstCuts parts 0) (sym q) (record {
    ascending = λ b c this that l g h. absurd (let bad : None ≡ Some this = g in cc);
    each = λ c cut g. absurd (let bad : None ≡ Some cut = g in cc);
    below = λ c cut g. absurd (let bad : None ≡ Some cut = g in cc);
    all = λ i line cause l g h. absurd (omega arith);
  })

  pub cut_skipped : (n : ℕ) (line : Line) (cuts : List Cut) → slice_get (lines_of parts) n ≡ Some line → line.cause ≡ None → AreFirstCuts parts n cuts → AreFirstCuts parts (n + 1) cuts
  cut_skipped n line cuts g none s = record {
    ascending = s.ascending;
    each = s.each;
    below = λ c cut h. (let b = s.below c cut h in omega arith);
    all = λ i other cause l h e. elim (below_or i n l) [
      | inl b ↦ s.all i other cause b h e
      | inr q ↦ absurd (
          let same : other ≡ line = same_at (lines_of parts) n other line (subst (λ (z : ℕ). slice_get (lines_of parts) z ≡ Some other) q h) g in
          let bad : Some cause ≡ None = sym e ∙ ap (λ (z : Line). z.cause) same ∙ none in cc)
    ];
  }

  pub cut_added : (n : ℕ) (line : Line) (cuts : List Cut) (cut : Cut) → slice_get (lines_of parts) n ≡ Some line → cut.at ≡ address n → IsCutIn parts cut → AreFirstCuts parts n cuts → AreFirstCuts parts (n + 1) (cuts ++ cut ∷ [])
  cut_added n line cuts cut g at is s = record {
    ascending = λ b c this that l p q. elim (old_or_last cuts cut that c q) [
      | inl old ↦ s.ascending b c this that l (sym (get_kept cuts (cut ∷ []) b (let i = slice_get_within cuts c that old in omega arith)) ∙ p) old
      | inr last ↦ (
          let before = sym (get_kept cuts (cut ∷ []) b (let i = last.0 in omega arith)) ∙ p in
          let low = s.below b this before in
          let same : that.at ≡ cut.at = ap (λ (z : Cut). z.at) last.1 in
          omega arith)
    ];
    each = λ c other h. elim (old_or_last cuts cut other c h) [
      | inl old ↦ s.each c other old
      | inr last ↦ subst (IsCutIn parts) (sym last.1) is
    ];
    below = λ c other h. elim (old_or_last cuts cut other c h) [
      | inl old ↦ (let b = s.below c other old in omega arith)
      | inr last ↦ (let same : other.at ≡ cut.at = ap (λ (z : Cut). z.at) last.1 in omega arith)
    ];
    all = λ i other cause l h e. elim (below_or i n l) [
      | inl b ↦ (let r = s.all i other cause b h e in (r.0, r.1, get_kept cuts (cut ∷ []) r.0 (slice_get_within cuts r.0 r.1 r.2) ∙ r.2, r.3))
      | inr q ↦ (length cuts, cut, last_one cuts cut, at ∙ ap address (sym q))
    ];
  }

  on_by : (p k : ℕ) (part : Part) (line : Line) (o : Option Cause) (old new : List Cut) → line.cause ≡ o → IsPart parts p part → slice_get part.lines.items k ≡ Some line → AddsCut part (first_of parts p) k o old new → AreFirstCuts parts (first_of parts p + k) old → AreFirstCuts parts (first_of parts p + k + 1) new
  on_by p k part line None old new e g h a s = subst (AreFirstCuts parts (first_of parts p + k + 1)) (sym a) (cut_skipped (first_of parts p + k) line old (line_in parts p k part line g h) e s)
  on_by p k part line (Some cause) old new e g h a s = subst (AreFirstCuts parts (first_of parts p + k + 1)) (sym a.1)
      (cut_added (first_of parts p + k) line old a.0 (line_in parts p k part line g h) a.2.at (record { p = p; k = k; part = part; is_part = g; is_cut = a.2 }) s)

  cuts_on : (p k first : ℕ) (part : Part) (line : Line) (old new : List Cut) → first ≡ first_of parts p → IsPart parts p part → slice_get part.lines.items k ≡ Some line → AddsCutOf part first k old new → AreFirstCuts parts (first + k) old → AreFirstCuts parts (first + (k + 1)) new
  cuts_on p k first part line old new e g h a s =
      let was : AreFirstCuts parts (first_of parts p + k) old = subst (λ (z : ℕ). AreFirstCuts parts (z + k) old) e s in
      let adds : AddsCut part (first_of parts p) k line.cause old new = subst (λ (z : ℕ). AddsCut part z k line.cause old new) e (a line h) in
      let next = on_by p k part line line.cause old new refl g h adds was in
      subst (λ (z : ℕ). AreFirstCuts parts z new) (let z : first_of parts p + k + 1 ≡ first + (k + 1) = omega arith in z) next

  pub cuts_next : (p k first : ℕ) (part : Part) (old new : List Cut) → first ≡ first_of parts p → IsPart parts p part → k < length part.lines.items → AddsCutOf part first k old new → AreFirstCuts parts (first + k) old → AreFirstCuts parts (first + (k + 1)) new
  cuts_next p k first part old new e g l a s = (let line = element_at part.lines.items k l in cuts_on p k first part line.0 old new e g line.1 a s)

  pub all_cuts : (n : ℕ) (cuts : List Cut) → n ≡ word_count parts → AreFirstCuts parts n cuts → AreCutsOf parts cuts
  all_cuts n cuts e s = record {
    ascending = s.ascending;
    each = s.each;
    all = λ i line cause g h. s.all i line cause (let l = slice_get_within (lines_of parts) i line g in let c = lines_count parts in omega arith) g h;
  }

  pub named_at : (p k : ℕ) (part : Part) → AreDependencesNamed parts → IsPart parts p part → IsNamedAt part k
  named_at p k part d g = λ line cause h e. d p k part line cause g h e

  pub room_in : (p first : ℕ) (part : Part) → first ≡ first_of parts p → IsPart parts p part → word_count parts ≤ 261120 → first + length part.lines.items ≤ 261120
  room_in p first part e g few = (let i = first_inside parts p part g in omega arith)

-- ---- the cuts of a part that is behind the others

cut_kept : (parts : List Part) (part : Part) (cut : Cut) → IsCutIn parts cut → IsCutIn (parts ++ part ∷ []) cut
cut_kept parts part cut h = record {
  p = h.p;
  k = h.k;
  part = h.part;
  is_part = part_kept parts part h.part h.p h.is_part;
  is_cut = subst (λ (z : ℕ). IsCutOf h.part z h.k cut) (sym (first_kept parts part h.p (let l = slice_get_within parts h.p h.part h.is_part in omega arith))) h.is_cut;
}

pub cuts_kept : (parts : List Part) (part : Part) (n : ℕ) (cuts : List Cut) → n ≡ word_count parts → AreFirstCuts parts n cuts → AreFirstCuts (parts ++ part ∷ []) n cuts
cuts_kept parts part n cuts e s = record {
  ascending = s.ascending;
  each = λ c cut g. cut_kept parts part cut (s.each c cut g);
  below = s.below;
  all = λ i line cause l g h.
      let there : slice_get (lines_of parts ++ part.lines.items) i ≡ Some line = sym (ap (λ (z : List Line). slice_get z i) (lines_snoc parts part)) ∙ g in
      let inside : i < length (lines_of parts) = (let c = lines_count parts in omega arith) in
      s.all i line cause l (sym (get_kept (lines_of parts) part.lines.items i inside) ∙ there) h;
}

pub cuts_begin : (parts : List Part) (part : Part) (first : ℕ) (cuts : List Cut) → first ≡ word_count parts → AreFirstCuts parts first cuts → AreFirstCuts (parts ++ part ∷ []) (first + 0) cuts
cuts_begin parts part first cuts e s = subst (λ (z : ℕ). AreFirstCuts (parts ++ part ∷ []) z cuts) (let z : first ≡ first + 0 = omega arith in z) (cuts_kept parts part first cuts e s)

pub cuts_behind : (parts : List Part) (part : Part) (first k : ℕ) (old new : List Cut) → first ≡ word_count parts → k < length part.lines.items → AreDependencesNamed (parts ++ part ∷ []) →
    (IsNamedAt part k → AddsCutOf part first k old new) → AreFirstCuts (parts ++ part ∷ []) (first + k) old → AreFirstCuts (parts ++ part ∷ []) (first + (k + 1)) new
cuts_behind parts part first k old new e l named adds s =
    let all : List Part = parts ++ part ∷ [] in
    let here = part_behind parts part in
    cuts_next all (length parts) k first part old new (e ∙ sym (first_behind parts part)) here l (adds (named_at all (length parts) k part named here)) s

pub cuts_end : (parts : List Part) (part : Part) (first k : ℕ) (cuts : List Cut) → k ≡ length part.lines.items → AreFirstCuts (parts ++ part ∷ []) (first + k) cuts → AreFirstCuts (parts ++ part ∷ []) (first + length part.lines.items) cuts
cuts_end parts part first k cuts e s = subst (λ (z : ℕ). AreFirstCuts (parts ++ part ∷ []) (first + z) cuts) e s

module _ (lines : List Line) (found : ℕ → Option ℕ) (a : AreAccessesOf lines (length lines) found) where
  pub accesses_inside : (first : ℕ) → first + length lines ≤ 261120 → AreAccessesInside found first
  accesses_inside first room = λ n k e. (let i = a.is n k e in let l = slice_get_within lines k i.line i.is_line in omega arith)

  known_at : (n : ℕ) → ((k : ℕ) × IsAccessAt lines n k) → (j : ℕ) × (found n ≡ Some j)
  known_at n h = a.known n h.0 (slice_get_within lines h.0 h.1.line h.1.is_line) h.1

  pub placed_by : (first : ℕ) (cause placed : Cause) → HasAccesses lines cause → IsCauseBy found first cause placed → IsPlacedCause lines first cause placed
  placed_by first Entry placed h b = b
  placed_by first Return placed h b = b
  placed_by first Loop placed h b = b
  placed_by first Length placed h b = b
  placed_by first Gap placed h b = b
  placed_by first (Dep read write) placed h b =
      let r = known_at read h.0 in
      let w = known_at write h.1 in
      record {
        read_at = r.0;
        write_at = w.0;
        reads = a.is read r.0 r.1;
        writes = a.is write w.0 w.1;
        is = b r.0 w.0 r.1 w.1;
      }

pub adds_none : (part : Part) (first k : ℕ) (line : Line) (old new : List Cut) → slice_get part.lines.items k ≡ Some line → line.cause ≡ None → new ≡ old → AddsCutOf part first k old new
adds_none part first k line old new g none e = λ other h.
    let same : line ≡ other = same_at part.lines.items k line other g h in
    let is : None ≡ other.cause = sym none ∙ ap (λ (z : Line). z.cause) same in
    subst (λ (o : Option Cause). AddsCut part first k o old new) is e

pub adds_one : (part : Part) (first k : ℕ) (line : Line) (cause : Cause) (cut : Cut) (old new : List Cut) → slice_get part.lines.items k ≡ Some line → line.cause ≡ Some cause → new ≡ old ++ cut ∷ [] → cut.at ≡ address (first + k) → string_bytes cut.function ≡ string_bytes part.name → IsPlacedCause part.lines.items first cause cut.cause → AddsCutOf part first k old new
adds_one part first k line cause cut old new g c e at name placed = λ other h.
    let same : line ≡ other = same_at part.lines.items k line other g h in
    let is : Some cause ≡ other.cause = sym c ∙ ap (λ (z : Line). z.cause) same in
    subst (λ (o : Option Cause). AddsCut part first k o old new) is (cut, e, record { line = line; cause = cause; is_line = g; is_cause = c; at = at; function = name; placed = placed })
