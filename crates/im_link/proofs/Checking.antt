-- A test of what linking asks, for parts that are given line by line.
use Rattle.std.proofs.Common.{◌≡◌, ℕ, zero, suc, ◌+◌, ◌<◌, ◌≤◌, ◌⊎◌, inl, inr, Bool, true, false, List, [], ◌∷◌, ◌++◌, length, Option, Some, None, refl, sym, ap, subst, ◌∙◌, arith}
use Rattle.std.specs.Prelude.{slice_get, not, ◌&&◌, ◌||◌, ◌==◌, nat_le}
use Rattle.std.proofs.lemmas.Bool.{both_ways, not-true, eqb-true, eq-eqb, leb-true, or_cases}
use Rattle.im_num.specs.declared.values.Cause.{Cause}
use Rattle.im_num.specs.declared.values.Cause.TheVariants.{Entry, Return, Loop, Length, Gap, Dep}
use Rattle.im_rv.specs.declared.format.Format.{Format}
use Rattle.im_rv.specs.declared.format.Format.TheVariants.{Branch, Jump}
use Rattle.im_rv.specs.Formats.{format_of}
use Rattle.im_rv.specs.declared.code.Line.{Line}
use Rattle.im_rv.specs.declared.code.Part.{Part}
use Rattle.im_link.specs.Parts.{lines_of}
use Rattle.im_link.specs.Links.{StandsAt, Reaches, AreLabelsApart, AreTargetsNear}
use Rattle.im_link.specs.Cuts.{IsAccessAt, HasAccesses}
use Rattle.im_link.specs.Code.{AreDependencesNamed, IsLinkable}

both : (a b : Bool) → (a && b) ≡ true → (a ≡ true) × (b ≡ true)
both true b h = (refl, h)
both false b h = absurd (let bad : false ≡ true = h in cc)

-- a label or an access is this one
abbrev pub is_number : Option ℕ → ℕ → Bool
is_number None n = false
is_number (Some m) n = m == n

number_is : (o : Option ℕ) (n : ℕ) → is_number o n ≡ true → o ≡ Some n
number_is None n h = absurd (let bad : false ≡ true = h in cc)
number_is (Some m) n h = ap (λ (z : ℕ). Some z) (eqb-true m n h)

is_of_number : (o : Option ℕ) (n : ℕ) → o ≡ Some n → is_number o n ≡ true
is_of_number None n h = absurd (let bad : None ≡ Some n = h in cc)
is_of_number (Some m) n h = eq-eqb m n (let e : m ≡ n = cc in e)

abbrev pub missing : ℕ → List Line → Bool
missing l [] = true
missing l (x ∷ xs) = not (is_number x.label l) && missing l xs

abbrev pub missing_from : Option ℕ → List Line → Bool
missing_from None xs = true
missing_from (Some l) xs = missing l xs

abbrev pub apart : List Line → Bool
apart [] = true
apart (x ∷ xs) = missing_from x.label xs && apart xs

behind : (x : Line) (xs : List Line) (l j : ℕ) → StandsAt (x ∷ xs) l (suc j) → StandsAt xs l j
behind x xs l j s = record { line = s.line; is_line = s.is_line; label = s.label }

head_label : (x : Line) (xs : List Line) (l : ℕ) → StandsAt (x ∷ xs) l 0 → x.label ≡ Some l
head_label x xs l s =
    let e : Some x ≡ Some s.line = s.is_line in
    let same : x ≡ s.line = cc in
    ap (λ (z : Line). z.label) same ∙ s.label

nowhere : (l j : ℕ) (xs : List Line) → missing l xs ≡ true → StandsAt xs l j → ⊥
nowhere l j [] h s = (let bad : None ≡ Some s.line = s.is_line in cc)
nowhere l zero (x ∷ xs) h s = both_ways (is_number x.label l) (not-true (is_number x.label l) (both (not (is_number x.label l)) (missing l xs) h).0) (is_of_number x.label l (head_label x xs l s))
nowhere l (suc j) (x ∷ xs) h s = nowhere l j xs (both (not (is_number x.label l)) (missing l xs) h).1 (behind x xs l j s)

missing_label : (o : Option ℕ) (l : ℕ) (xs : List Line) → o ≡ Some l → missing_from o xs ≡ true → missing l xs ≡ true
missing_label None l xs e h = absurd (let bad : None ≡ Some l = e in cc)
missing_label (Some m) l xs e h = (let same : m ≡ l = cc in subst (λ (z : ℕ). missing z xs ≡ true) same h)

gone : (x : Line) (xs : List Line) (l j : ℕ) → missing_from x.label xs ≡ true → StandsAt (x ∷ xs) l 0 → StandsAt xs l j → ⊥
gone x xs l j h s t = nowhere l j xs (missing_label x.label l xs (head_label x xs l s) h) t

one_more : (x : Line) (xs : List Line) → missing_from x.label xs ≡ true → AreLabelsApart xs → (l i j : ℕ) → StandsAt (x ∷ xs) l i → StandsAt (x ∷ xs) l j → i ≡ j
one_more x xs h rest l zero zero s t = refl
one_more x xs h rest l zero (suc j) s t = absurd (gone x xs l j h s (behind x xs l j t))
one_more x xs h rest l (suc i) zero s t = absurd (gone x xs l i h t (behind x xs l i s))
one_more x xs h rest l (suc i) (suc j) s t = ap (λ (z : ℕ). suc z) (rest l i j (behind x xs l i s) (behind x xs l j t))

labels_apart : (xs : List Line) → apart xs ≡ true → AreLabelsApart xs
labels_apart [] h = λ l i j s t. absurd (let bad : None ≡ Some s.line = s.is_line in cc)
labels_apart (x ∷ xs) h = (let b = both (missing_from x.label xs) (apart xs) h in one_more x xs b.0 (labels_apart xs b.1))

-- ---- targets

abbrev pub IsNear : Format → ℕ → ℕ → Type 0
IsNear f i j = (f ≡ Jump) ⊎ ((f ≡ Branch) × (j ≤ i + 1023) × (i ≤ j + 1024))

abbrev pub in_reach : Format → ℕ → ℕ → Bool
in_reach Jump i j = true
in_reach Branch i j = nat_le j (i + 1023) && nat_le i (j + 1024)
in_reach _ i j = false

reaches_by : (f : Format) (i j : ℕ) → in_reach f i j ≡ true → IsNear f i j
reaches_by Jump i j h = inl refl
reaches_by Branch i j h = (let b = both (nat_le j (i + 1023)) (nat_le i (j + 1024)) h in inr (refl, leb-true j (i + 1023) b.0, leb-true i (j + 1024) b.1))
reaches_by _ i j h = absurd (let bad : false ≡ true = h in cc)

-- the label stands at one of these, the first of which is line j, in reach of line i
abbrev pub found_near : Format → ℕ → ℕ → ℕ → List Line → Bool
found_near f i l j [] = false
found_near f i l j (x ∷ xs) = (is_number x.label l && in_reach f i j) || found_near f i l (suc j) xs

found_there : (f : Format) (i l j : ℕ) (xs : List Line) → found_near f i l j xs ≡ true → (k : ℕ) × StandsAt xs l k × IsNear f i (j + k)
found_there f i l j [] h = absurd (let bad : false ≡ true = h in cc)
found_there f i l j (x ∷ xs) h = elim (or_cases (is_number x.label l && in_reach f i j) (found_near f i l (suc j) xs) h) [
  | inl a ↦ (
      let b = both (is_number x.label l) (in_reach f i j) a in
      (0, record { line = x; is_line = refl; label = number_is x.label l b.0 }, subst (IsNear f i) (let z : j ≡ j + 0 = omega arith in z) (reaches_by f i j b.1)))
  | inr a ↦ (
      let r = found_there f i l (suc j) xs a in
      (suc r.0, record { line = r.1.line; is_line = r.1.is_line; label = r.1.label }, subst (IsNear f i) (let z : suc j + r.0 ≡ j + suc r.0 = omega arith in z) r.2))
]

abbrev pub target_near : List Line → ℕ → Line → Option ℕ → Bool
target_near whole i line None = true
target_near whole i line (Some l) = found_near (format_of line.instr.op) i l 0 whole

abbrev pub near_from : List Line → ℕ → List Line → Bool
near_from whole i [] = true
near_from whole i (x ∷ xs) = target_near whole i x x.target && near_from whole (suc i) xs

near_at : (whole : List Line) (i k : ℕ) (xs : List Line) (line : Line) → near_from whole i xs ≡ true → slice_get xs k ≡ Some line → target_near whole (i + k) line line.target ≡ true
near_at whole i k [] line h g = absurd (let bad : None ≡ Some line = g in cc)
near_at whole i zero (x ∷ xs) line h g =
    let e : Some x ≡ Some line = g in
    let same : x ≡ line = cc in
    subst (λ (z : ℕ). target_near whole z line line.target ≡ true) (let z : i ≡ i + 0 = omega arith in z)
    (subst (λ (z : Line). target_near whole i z z.target ≡ true) same (both (target_near whole i x x.target) (near_from whole (suc i) xs) h).0)
near_at whole i (suc k) (x ∷ xs) line h g =
    subst (λ (z : ℕ). target_near whole z line line.target ≡ true) (let z : suc i + k ≡ i + suc k = omega arith in z)
    (near_at whole (suc i) k xs line (both (target_near whole i x x.target) (near_from whole (suc i) xs) h).1 g)

target_by : (whole : List Line) (i l : ℕ) (line : Line) (o : Option ℕ) → o ≡ Some l → target_near whole i line o ≡ true → (j : ℕ) × StandsAt whole l j × Reaches line.instr i j
target_by whole i l line None e h = absurd (let bad : None ≡ Some l = e in cc)
target_by whole i l line (Some m) e h =
    let same : m ≡ l = cc in
    let r = found_there (format_of line.instr.op) i m 0 whole h in
    (r.0, subst (λ (z : ℕ). StandsAt whole z r.0) same r.1, subst (λ (z : ℕ). Reaches line.instr i z) (let z : 0 + r.0 ≡ r.0 = omega arith in z) r.2)

targets_near : (xs : List Line) → near_from xs 0 xs ≡ true → AreTargetsNear xs
targets_near xs h = λ i line l g e. target_by xs i l line line.target e (subst (λ (z : ℕ). target_near xs z line line.target ≡ true) (let z : 0 + i ≡ i = omega arith in z) (near_at xs 0 i xs line h g))

-- ---- accesses

abbrev pub has_access : ℕ → List Line → Bool
has_access n [] = false
has_access n (x ∷ xs) = is_number x.access n || has_access n xs

access_there : (n : ℕ) (xs : List Line) → has_access n xs ≡ true → (k : ℕ) × IsAccessAt xs n k
access_there n [] h = absurd (let bad : false ≡ true = h in cc)
access_there n (x ∷ xs) h = elim (or_cases (is_number x.access n) (has_access n xs) h) [
  | inl a ↦ (0, record { line = x; is_line = refl; access = number_is x.access n a })
  | inr a ↦ (let r = access_there n xs a in (suc r.0, record { line = r.1.line; is_line = r.1.is_line; access = r.1.access }))
]

abbrev pub named : List Line → Cause → Bool
named whole (Dep read write) = has_access read whole && has_access write whole
named whole _ = true

named_by : (whole : List Line) (cause : Cause) → named whole cause ≡ true → HasAccesses whole cause
named_by whole (Dep read write) h = (let b = both (has_access read whole) (has_access write whole) h in (access_there read whole b.0, access_there write whole b.1))
named_by whole Entry h = tt
named_by whole Return h = tt
named_by whole Loop h = tt
named_by whole Length h = tt
named_by whole Gap h = tt

abbrev pub cause_named : List Line → Option Cause → Bool
cause_named whole None = true
cause_named whole (Some cause) = named whole cause

abbrev pub all_named : List Line → List Line → Bool
all_named whole [] = true
all_named whole (x ∷ xs) = cause_named whole x.cause && all_named whole xs

of_cause : (whole : List Line) (cause : Cause) (o : Option Cause) → o ≡ Some cause → cause_named whole o ≡ true → HasAccesses whole cause
of_cause whole cause None e h = absurd (let bad : None ≡ Some cause = e in cc)
of_cause whole cause (Some other) e h = (let same : other ≡ cause = cc in subst (λ (z : Cause). HasAccesses whole z) same (named_by whole other h))

named_in : (whole : List Line) (k : ℕ) (xs : List Line) (line : Line) (cause : Cause) → all_named whole xs ≡ true → slice_get xs k ≡ Some line → line.cause ≡ Some cause → HasAccesses whole cause
named_in whole k [] line cause h g e = absurd (let bad : None ≡ Some line = g in cc)
named_in whole zero (x ∷ xs) line cause h g e =
    let q : Some x ≡ Some line = g in
    let same : x ≡ line = cc in
    of_cause whole cause x.cause (ap (λ (z : Line). z.cause) same ∙ e) (both (cause_named whole x.cause) (all_named whole xs) h).0
named_in whole (suc k) (x ∷ xs) line cause h g e = named_in whole k xs line cause (both (cause_named whole x.cause) (all_named whole xs) h).1 g e

abbrev pub parts_named : List Part → Bool
parts_named [] = true
parts_named (x ∷ xs) = all_named x.lines.items x.lines.items && parts_named xs

dependences : (parts : List Part) → parts_named parts ≡ true → AreDependencesNamed parts
dependences [] h p k part line cause is g e = absurd (let bad : None ≡ Some part = is in cc)
dependences (x ∷ xs) h zero k part line cause is g e =
    let q : Some x ≡ Some part = is in
    let same : x ≡ part = cc in
    subst (λ (z : Part). HasAccesses z.lines.items cause) same (named_in x.lines.items k x.lines.items line cause (both (all_named x.lines.items x.lines.items) (parts_named xs) h).0 (ap (λ (z : Part). slice_get z.lines.items k) same ∙ g) e)
dependences (x ∷ xs) h (suc p) k part line cause is g e = dependences xs (both (all_named x.lines.items x.lines.items) (parts_named xs) h).1 p k part line cause is g e

-- the lines pass all tests
unfoldable pub passes : List Line → Bool
passes lines = apart lines && near_from lines 0 lines

unfoldable pub are_named : List Line → Bool
are_named lines = all_named lines lines

-- parts of two lists of lines
pub linkable_of : (a b : Part) (xs ys : List Line) → a.lines.items ≡ xs → b.lines.items ≡ ys → 0 < length ys → passes (xs ++ (ys ++ [])) ≡ true → are_named xs ≡ true → are_named ys ≡ true → IsLinkable (a ∷ b ∷ [])
unfolding passes are_named
linkable_of a b xs ys p q some h m n =
    let whole : lines_of (a ∷ b ∷ []) ≡ xs ++ (ys ++ []) = ap (λ (z : List Line). z ++ (b.lines.items ++ [])) p ∙ ap (λ (z : List Line). xs ++ (z ++ [])) q in
    let t = both (apart (xs ++ (ys ++ []))) (near_from (xs ++ (ys ++ [])) 0 (xs ++ (ys ++ []))) h in
    record {
      last = record { some = omega arith; last = b; is_last = refl; line = subst (λ (z : List Line). 0 < length z) (sym q) some };
      labels = subst AreLabelsApart (sym whole) (labels_apart (xs ++ (ys ++ [])) t.0);
      targets = subst AreTargetsNear (sym whole) (targets_near (xs ++ (ys ++ [])) t.1);
      dependences = dependences (a ∷ b ∷ [])
          (subst (λ (z : List Line). (all_named z z && (all_named b.lines.items b.lines.items && true)) ≡ true) (sym p)
          (subst (λ (z : List Line). (all_named xs xs && (all_named z z && true)) ≡ true) (sym q) (joined (all_named xs xs) (all_named ys ys) m n)));
    }
  where
    joined : (c d : Bool) → c ≡ true → d ≡ true → (c && (d && true)) ≡ true
    joined true true e f = refl
    joined true false e f = f
    joined false d e f = e
