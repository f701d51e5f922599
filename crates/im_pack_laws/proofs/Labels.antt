-- The addresses of labels.
use Rattle.std.proofs.Common.{◌≡◌, ◌≤◌, ℕ, zero, suc, ◌+◌, Bool, true, false, List, [], ◌∷◌, Option, Some, None, length, refl, ap, ◌∙◌, arith}
use Rattle.std.specs.Prelude.{if◌then◌else◌}
use Rattle.std.proofs.lemmas.Bool.{eqb-true, eq-eqb}
use Rattle.im_rv.specs.declared.code.Line.{Line}
use Rattle.im_rv.specs.Code.{address}
use Rattle.im_link.specs.Parts.{lines_of}
use Rattle.im_link.specs.Links.{StandsAt, AreLabelsApart}
use Rattle.im_link.proofs.Joining.{lines_count}
use Rattle.im_pack_laws.specs.Places.{has_label, place_among}
use Rattle.im_pack_laws.specs.Laws.{PlacesLaw}

label_is : (o : Option ℕ) (l : ℕ) → has_label o l ≡ true → o ≡ Some l
label_is None l h = absurd (let bad : false ≡ true = h in cc)
label_is (Some m) l h = ap (λ (z : ℕ). Some z) (eqb-true m l h)

is_label : (o : Option ℕ) (l : ℕ) → o ≡ Some l → has_label o l ≡ true
is_label None l h = absurd (let bad : None ≡ Some l = h in cc)
is_label (Some m) l h = eq-eqb m l (let e : m ≡ l = cc in e)

-- a line further on, among all
up : (x : Line) (lines : List Line) (l j : ℕ) → StandsAt lines l j → StandsAt (x ∷ lines) l (suc j)
up x lines l j s = record { line = s.line; is_line = s.is_line; label = s.label }

later : (x : Line) (lines : List Line) → AreLabelsApart (x ∷ lines) → AreLabelsApart lines
later x lines apart l a b s t = let e = apart l (suc a) (suc b) (up x lines l a s) (up x lines l b t) in omega arith

first_label : (x : Line) (lines : List Line) (l : ℕ) → StandsAt (x ∷ lines) l 0 → has_label x.label l ≡ true
first_label x lines l s =
    let one : Some x ≡ Some s.line = s.is_line in
    let same : x ≡ s.line = cc in
    is_label x.label l (ap (λ (z : Line). z.label) same ∙ s.label)

-- the first line with the label is the only one
found : (lines : List Line) (i l j : ℕ) → AreLabelsApart lines → StandsAt lines l j → place_among lines i l ≡ address (i + j)
found [] i l j apart s = (let bad : None ≡ Some s.line = s.is_line in absurd cc)
found (x ∷ lines) i l zero apart s =
    let q : i ≡ i + 0 = omega arith in
    ap (λ b. if b then address i else place_among lines (suc i) l) (first_label x lines l s) ∙ ap address q
found (x ∷ lines) i l (suc j) apart s =
    by (has_label x.label l) refl (found lines (suc i) l j (later x lines apart) (record { line = s.line; is_line = s.is_line; label = s.label }))
  where
    by : (b : Bool) → has_label x.label l ≡ b → place_among lines (suc i) l ≡ address (suc i + j) → (if b then address i else place_among lines (suc i) l) ≡ address (i + suc j)
    by true t h = absurd (let e : 0 ≡ suc j = apart l 0 (suc j) (record { line = x; is_line = refl; label = label_is x.label l t }) s in omega arith)
    by false t h = (let q : suc i + j ≡ i + suc j = omega arith in h ∙ ap address q)

bounded : (lines : List Line) (i l : ℕ) → place_among lines i l ≤ address (i + length lines)
bounded [] i l = omega arith
bounded (x ∷ lines) i l = by (has_label x.label l) (bounded lines (suc i) l)
  where
    by : (b : Bool) → place_among lines (suc i) l ≤ address (suc i + length lines) → (if b then address i else place_among lines (suc i) l) ≤ address (i + suc (length lines))
    by true h = omega arith
    by false h = omega arith

pub places : PlacesLaw
places parts code linkable linked = record {
  at = λ l j s. (let e : address (0 + j) ≡ address j = (let q : 0 + j ≡ j = omega arith in ap address q) in found (lines_of parts) 0 l j linkable.labels s ∙ e);
  small = λ l.
      (let b = bounded (lines_of parts) 0 l in
      let c = lines_count parts in
      let f = linked.fits in
      omega arith);
}
