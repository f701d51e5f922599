-- What lists of lines have beside their instructions: labels, targets, accesses, causes.
use Rattle.std.proofs.Common.{◌≡◌, ◌<◌, ◌⊎◌, inl, inr, ℕ, zero, suc, ◌+◌, Bool, true, false, List, [], ◌∷◌, ◌++◌, Option, Some, None, length, refl, ap, ◌∙◌, subst, arith}
use Rattle.std.specs.Prelude.{◌==◌, if◌then◌else◌, slice_get}
use Rattle.im_rv.specs.declared.instr.Op.TheVariants.{Sltiu, Sltu}
use Rattle.im_rv.specs.Lines.{CodeLine, plain_line}
use Rattle.im_rv_reach.specs.Instructions.{with_immediate, on_registers, upper}
use Rattle.im_store.specs.declared.operators.Comparison.{Comparison}
use Rattle.im_store.specs.declared.operators.Comparison.TheVariants.{Less, Greater, LessOrEqual, GreaterOrEqual, Equal, NotEqual}
use Rattle.im_block.specs.declared.code.Place.{Place}
use Rattle.im_block.specs.declared.code.Place.TheVariants.{Static, Local, Through}
use Rattle.im_select.specs.Given.{Given}
use Rattle.im_select.specs.Emitted.{high_of, low_of, constant_by, constant_code, displaced_by, displaced_code, adds_by, adds_code, place_code, moved_code, copied_code, shift_of, shifts_code, scaled_code, based_code, address_code, comparison_rest, labelled}
use Rattle.im_select.specs.Selects.{if_any, accesses_in, causes_in, HasLabel, LeadsTo}

-- instructions and nothing else
abbrev pub Bare : List CodeLine → Type 0
Bare [] = Unit {0}
Bare (x ∷ xs) = (x ≡ plain_line x.line) × Bare xs

pub bare_append : (xs ys : List CodeLine) → Bare xs → Bare ys → Bare (xs ++ ys)
bare_append [] ys a b = b
bare_append (x ∷ xs) ys a b = (a.0, bare_append xs ys a.1 b)

pub constant_bare : (rd n : ℕ) → Bare (constant_code rd n)
constant_bare rd n = by (high_of n == 0)
  where
    by : (b : Bool) → Bare (constant_by b rd (high_of n) (low_of n))
    by true = (refl, tt)
    by false = (refl, (refl, tt))

pub displaced_bare : (r n : ℕ) → Bare (displaced_code r n)
displaced_bare r n = by (high_of n == 0)
  where
    by : (b : Bool) → Bare (displaced_by b r (high_of n))
    by true = tt
    by false = (refl, (refl, tt))

pub adds_bare : (rd n : ℕ) → Bare (adds_code rd n)
adds_bare rd n = by (high_of n == 0)
  where
    by : (b : Bool) → Bare (adds_by b rd n)
    by true = (refl, tt)
    by false = bare_append (constant_code 5 n) _ (constant_bare 5 n) (refl, tt)

pub place_bare : (place : Place) (n : ℕ) → Bare (place_code place n)
place_bare (Static object offset) n = (refl, tt)
place_bare (Local object offset) n = displaced_bare 2 n
place_bare (Through r offset) n = displaced_bare r n

pub copied_bare : (to from : ℕ) → Bare (copied_code to from)
copied_bare to from = by (to == from)
  where
    by : (b : Bool) → Bare (if b then [] else moved_code to from)
    by true = tt
    by false = (refl, tt)

shifts_bare : (shift : Option ℕ) (size by : ℕ) → Bare (shifts_code shift size by)
shifts_bare None size by = bare_append (constant_code 5 size) _ (constant_bare 5 size) (refl, tt)
shifts_bare (Some bits) size by = (refl, tt)

pub scaled_bare : (size by : ℕ) → Bare (scaled_code size by)
scaled_bare size by = cases (size == 1)
  where
    cases : (b : Bool) → Bare (if b then [] else shifts_code (shift_of size) size by)
    cases true = tt
    cases false = shifts_bare (shift_of size) size by

based_bare : (to : ℕ) (place : Place) (n : ℕ) → Bare (based_code to place n)
based_bare to place n = bare_append (place_code place n) _ (place_bare place n) (refl, tt)

pub address_bare : (to : ℕ) (place : Place) (n : ℕ) → Bare (address_code to place n)
address_bare to (Static object offset) n = by (low_of n == 0)
  where
    by : (b : Bool) → Bare (if b then plain_line (upper to (high_of n)) ∷ [] else based_code to (Static object offset) n)
    by true = (refl, tt)
    by false = based_bare to (Static object offset) n
address_bare to (Local object offset) n = based_bare to (Local object offset) n
address_bare to (Through r offset) n = based_bare to (Through r offset) n

-- ---- accesses and causes

if_any_append : {A : Type 0} (o : Option A) (xs ys : List A) → if_any o (xs ++ ys) ≡ if_any o xs ++ ys
if_any_append None xs ys = refl
if_any_append (Some a) xs ys = refl

pub accesses_append : (xs ys : List CodeLine) → accesses_in (xs ++ ys) ≡ accesses_in xs ++ accesses_in ys
accesses_append [] ys = refl
accesses_append (x ∷ xs) ys = ap (if_any x.access) (accesses_append xs ys) ∙ if_any_append x.access (accesses_in xs) (accesses_in ys)

pub causes_append : (xs ys : List CodeLine) → causes_in (xs ++ ys) ≡ causes_in xs ++ causes_in ys
causes_append [] ys = refl
causes_append (x ∷ xs) ys = ap (if_any x.cause) (causes_append xs ys) ∙ if_any_append x.cause (causes_in xs) (causes_in ys)

pub bare_accesses : (xs : List CodeLine) → Bare xs → accesses_in xs ≡ []
bare_accesses [] h = refl
bare_accesses (x ∷ xs) h = ap (λ (z : CodeLine). if_any z.access (accesses_in xs)) h.0 ∙ bare_accesses xs h.1

pub bare_causes : (xs : List CodeLine) → Bare xs → causes_in xs ≡ []
bare_causes [] h = refl
bare_causes (x ∷ xs) h = ap (λ (z : CodeLine). if_any z.cause (causes_in xs)) h.0 ∙ bare_causes xs h.1

-- bare lines and then others
pub accesses_behind : (xs ys : List CodeLine) → Bare xs → accesses_in (xs ++ ys) ≡ accesses_in ys
accesses_behind xs ys h = accesses_append xs ys ∙ ap (λ z. z ++ accesses_in ys) (bare_accesses xs h)

pub causes_behind : (xs ys : List CodeLine) → Bare xs → causes_in (xs ++ ys) ≡ causes_in ys
causes_behind xs ys h = causes_append xs ys ∙ ap (λ z. z ++ causes_in ys) (bare_causes xs h)

pub accesses_labelled : (l : ℕ) (xs : List CodeLine) → accesses_in (labelled l xs) ≡ accesses_in xs
accesses_labelled l [] = refl
accesses_labelled l (x ∷ xs) = refl

pub causes_labelled : (l : ℕ) (xs : List CodeLine) → causes_in (labelled l xs) ≡ causes_in xs
causes_labelled l [] = refl
causes_labelled l (x ∷ xs) = refl

-- ---- targets

-- where they lead to, as lines of the whole list
abbrev pub Lead : Given → List CodeLine → List CodeLine → Type 0
Lead names whole [] = Unit {0}
Lead names whole (x ∷ xs) = ((l : ℕ) → x.target ≡ Some l → LeadsTo names whole x l) × Lead names whole xs

pub lead_append : (names : Given) (whole xs ys : List CodeLine) → Lead names whole xs → Lead names whole ys → Lead names whole (xs ++ ys)
lead_append names whole [] ys a b = b
lead_append names whole (x ∷ xs) ys a b = (a.0, lead_append names whole xs ys a.1 b)

pub bare_lead : (names : Given) (whole xs : List CodeLine) → Bare xs → Lead names whole xs
bare_lead names whole [] h = tt
bare_lead names whole (x ∷ xs) h = ((λ l e. let n : x.target ≡ None = ap (λ (z : CodeLine). z.target) h.0 in absurd cc), bare_lead names whole xs h.1)

-- its label is nothing to where it leads
relabelled : (names : Given) (whole : List CodeLine) (l t : ℕ) (x : CodeLine) → LeadsTo names whole x t → LeadsTo names whole (record x { label = Some l }) t
relabelled names whole l t x h = record { far = elim h.far [ inl j ↦ inl j | inr n ↦ inr (record { branches = n.branches; few = n.few; block = n.block }) ]; to = h.to }

pub lead_labelled : (names : Given) (whole : List CodeLine) (l : ℕ) (xs : List CodeLine) → Lead names whole xs → Lead names whole (labelled l xs)
lead_labelled names whole l [] h = tt
lead_labelled names whole l (x ∷ xs) h = ((λ t e. relabelled names whole l t x (h.0 t e)), h.1)

pub lead_at : (names : Given) (whole xs : List CodeLine) → Lead names whole xs → (k l : ℕ) (line : CodeLine) → slice_get xs k ≡ Some line → line.target ≡ Some l → LeadsTo names whole line l
lead_at names whole [] h k l line e t = absurd cc
lead_at names whole (x ∷ xs) h zero l line e t = let same : x ≡ line = cc in subst (λ z. LeadsTo names whole z l) same (h.0 l (ap (λ (z : CodeLine). z.target) same ∙ t))
lead_at names whole (x ∷ xs) h (suc k) l line e t = lead_at names whole xs h.1 k l line e t

-- ---- labels

abbrev pub Unlabelled : List CodeLine → Type 0
Unlabelled [] = Unit {0}
Unlabelled (x ∷ xs) = (x.label ≡ None) × Unlabelled xs

pub unlabelled_append : (xs ys : List CodeLine) → Unlabelled xs → Unlabelled ys → Unlabelled (xs ++ ys)
unlabelled_append [] ys a b = b
unlabelled_append (x ∷ xs) ys a b = (a.0, unlabelled_append xs ys a.1 b)

pub bare_unlabelled : (xs : List CodeLine) → Bare xs → Unlabelled xs
bare_unlabelled [] h = tt
bare_unlabelled (x ∷ xs) h = (ap (λ (z : CodeLine). z.label) h.0, bare_unlabelled xs h.1)

none : (xs : List CodeLine) (k l : ℕ) → Unlabelled xs → HasLabel xs k l → ⊥
none [] k l u h = let e = h.there in absurd cc
none (x ∷ xs) zero l u h =
    let e = h.there in
    let same : x ≡ h.line = cc in
    let a : x.label ≡ Some l = ap (λ (z : CodeLine). z.label) same ∙ h.is in
    let b = u.0 in
    absurd cc
none (x ∷ xs) (suc k) l u h = none xs k l u.1 (record { line = h.line; there = h.there; is = h.is })

pub only_first : (xs : List CodeLine) (label k l : ℕ) → Unlabelled xs → HasLabel (labelled label xs) k l → (k ≡ 0) × (l ≡ label)
only_first [] label k l u h = let e = h.there in absurd cc
only_first (x ∷ xs) label zero l u h =
    let y : CodeLine = record x { label = Some label } in
    let e : Some y ≡ Some h.line = h.there in
    let same : y ≡ h.line = cc in
    let a : Some label ≡ Some l = ap (λ (z : CodeLine). z.label) same ∙ h.is in
    (refl, cc)
only_first (x ∷ xs) label (suc k) l u h = absurd (none xs k l u.1 (record { line = h.line; there = h.there; is = h.is }))

pub first_has : (xs : List CodeLine) (label : ℕ) → 0 < length xs → HasLabel (labelled label xs) 0 label
first_has [] label h = absurd (omega arith)
first_has (x ∷ xs) label h = record { line = record x { label = Some label }; there = refl; is = refl }

pub label_left : (xs ys : List CodeLine) (k l : ℕ) → HasLabel xs k l → HasLabel (xs ++ ys) k l
label_left [] ys k l h = let e = h.there in absurd cc
label_left (x ∷ xs) ys zero l h = record { line = h.line; there = h.there; is = h.is }
label_left (x ∷ xs) ys (suc k) l h =
    let t : HasLabel xs k l = record { line = h.line; there = h.there; is = h.is } in
    let r = label_left xs ys k l t in
    record { line = r.line; there = r.there; is = r.is }

pub label_right : (xs ys : List CodeLine) (j k l : ℕ) → k ≡ length xs + j → HasLabel ys j l → HasLabel (xs ++ ys) k l
label_right [] ys j k l e h = let q : j ≡ k = omega arith in subst (λ z. HasLabel ys z l) q h
label_right (x ∷ xs) ys j zero l e h = absurd (omega arith)
label_right (x ∷ xs) ys j (suc k) l e h =
    let r = label_right xs ys j k l (omega arith) h in
    record { line = r.line; there = r.there; is = r.is }

pub label_split : (xs ys : List CodeLine) (k l : ℕ) → HasLabel (xs ++ ys) k l → HasLabel xs k l ⊎ ((j : ℕ) × HasLabel ys j l × (k ≡ length xs + j))
label_split [] ys k l h = inr (k, h, omega arith)
label_split (x ∷ xs) ys zero l h = inl (record { line = h.line; there = h.there; is = h.is })
label_split (x ∷ xs) ys (suc k) l h =
    let t : HasLabel (xs ++ ys) k l = record { line = h.line; there = h.there; is = h.is } in
    elim (label_split xs ys k l t) [
      | inl a ↦ inl (record { line = a.line; there = a.there; is = a.is })
      | inr a ↦ (let e = a.2 in inr (a.0, a.1, omega arith))
    ]

pub length_labelled : (l : ℕ) (xs : List CodeLine) → length (labelled l xs) ≡ length xs
length_labelled l [] = refl
length_labelled l (x ∷ xs) = refl

-- behind the first instruction of a comparison with a word
pub weighed_bare : (to : ℕ) (op : Comparison) (n : ℕ) → Bare (comparison_rest to op n)
weighed_bare to Less n = tt
weighed_bare to Greater n = (refl, tt)
weighed_bare to LessOrEqual n = tt
weighed_bare to GreaterOrEqual n = (refl, tt)
weighed_bare to Equal n = by (n == 0)
  where
    by : (b : Bool) → Bare (if b then [] else plain_line (with_immediate Sltiu to 5 1) ∷ [])
    by true = tt
    by false = (refl, tt)
weighed_bare to NotEqual n = by (n == 0)
  where
    by : (b : Bool) → Bare (if b then [] else plain_line (on_registers Sltu to 0 5) ∷ [])
    by true = tt
    by false = (refl, tt)
