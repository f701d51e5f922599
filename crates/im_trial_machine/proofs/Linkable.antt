-- Two parts whose lines are numbered through may be linked.
use Rattle.std.proofs.Common.{◌≡◌, ℕ, zero, suc, ◌+◌, ◌<◌, ◌≤◌, ◌⊎◌, inl, inr, List, [], ◌∷◌, ◌++◌, length, Option, Some, None, refl, sym, ap, subst, ◌∙◌, arith}
use Rattle.std.specs.Prelude.{slice_get, IfSome, ◌-◌}
use Rattle.std.proofs.lemmas.List.{length-append}
use Rattle.std.proofs.lemmas.Option.{slice_get_within}
use Rattle.im_num.specs.declared.values.Cause.{Cause}
use Rattle.im_num.specs.declared.values.Cause.TheVariants.{Entry, Return, Loop, Length, Gap, Dep}
use Rattle.im_rv.specs.declared.code.Line.{Line}
use Rattle.im_rv.specs.declared.code.Part.{Part}
use Rattle.im_link.specs.Parts.{lines_of}
use Rattle.im_link.specs.Links.{StandsAt, AreLabelsApart, AreTargetsNear}
use Rattle.im_link.specs.Cuts.{IsAccessAt, HasAccesses}
use Rattle.im_link.specs.Code.{AreDependencesNamed, IsLinkable}
use Rattle.im_link.proofs.Joining.{get_kept, get_behind}
use Rattle.im_trial_machine.specs.Numbered.{Leads, Spans, IsCauseAt, FitsAt, AreNumbered}

there : {X : Type 0} → (xs : List X) (k : ℕ) → k < length xs → (x : X) × (slice_get xs k ≡ Some x)
there [] k l = absurd (omega arith)
there (x ∷ xs) zero l = (x, refl)
there (x ∷ xs) (suc k) l = there xs k (omega arith)

if_some : {X : Type 0} (P : X → Type 0) (o : Option X) (x : X) → o ≡ Some x → IfSome o P → P x
if_some P None x e h = absurd (let bad : None ≡ Some x = e in cc)
if_some P (Some y) x e h = (let same : y ≡ x = cc in subst P same h)

fits_at : (lines : List Line) → AreNumbered 0 lines → (i : ℕ) (line : Line) → slice_get lines i ≡ Some line → FitsAt i line
fits_at lines n i line g = subst (λ (z : ℕ). FitsAt z line) (let e : 0 + i ≡ i = omega arith in e) (n i line g)

label_of : (lines : List Line) → AreNumbered 0 lines → (l i : ℕ) → StandsAt lines l i → l ≡ 64 + i
label_of lines n l i s =
    let e : Some l ≡ Some (64 + i) = sym s.label ∙ (fits_at lines n i s.line s.is_line).label in
    cc

labels_apart : (lines : List Line) → AreNumbered 0 lines → AreLabelsApart lines
labels_apart lines n l i j a b = (let p = label_of lines n l i a in let q = label_of lines n l j b in omega arith)

targets_near : (lines : List Line) → length lines ≡ 261120 → AreNumbered 0 lines → AreTargetsNear lines
targets_near lines count n i line l g t =
    let d = if_some (λ (m : ℕ). Leads line.instr i m) line.target l t (fits_at lines n i line g).target in
    let at = there lines d.j (let m = d.inside in omega arith) in
    (d.j, record { line = at.0; is_line = at.1; label = (fits_at lines n d.j at.0 at.1).label ∙ ap (λ (z : ℕ). Some z) (sym d.label) }, d.near)

access_at : (first : ℕ) (lines : List Line) → AreNumbered first lines → (n k : ℕ) → n ≡ first + k → k < length lines → (j : ℕ) × IsAccessAt lines n j
access_at first lines fit n k e l =
    let at = there lines k l in
    (k, record { line = at.0; is_line = at.1; access = (fit k at.0 at.1).access ∙ ap (λ (z : ℕ). Some z) (sym e) })

-- all lines up to the last, or some of the first ten
abbrev IsStretch : ℕ → List Line → Type 0
IsStretch first lines = ((first ≤ 8) × (first + length lines ≡ 261120)) ⊎ (first + length lines ≤ 10)

spanned : (first : ℕ) (lines : List Line) → IsStretch first lines → AreNumbered first lines → (k read write : ℕ) → k < length lines → Spans (first + k) read write → HasAccesses lines (Dep read write)
spanned first lines (inl s) fit k read write l d =
    let low = s.0 in
    let count = s.1 in
    let behind = d.behind in
    let inside = d.inside in
    let r = d.read_at in
    let w = d.write_at in
    (access_at first lines fit read (k - 2) (omega arith) (omega arith), access_at first lines fit write (k + 1) (omega arith) (omega arith))
spanned first lines (inr s) fit k read write l d = absurd (let behind = d.behind in omega arith)

cause_named : (first : ℕ) (lines : List Line) → IsStretch first lines → AreNumbered first lines → (k : ℕ) → k < length lines → (cause : Cause) → IsCauseAt (first + k) cause → HasAccesses lines cause
cause_named first lines s fit k l (Dep read write) h = spanned first lines s fit k read write l h
cause_named first lines s fit k l Entry h = tt
cause_named first lines s fit k l Return h = tt
cause_named first lines s fit k l Loop h = tt
cause_named first lines s fit k l Length h = tt
cause_named first lines s fit k l Gap h = tt

named : (first : ℕ) (lines : List Line) → IsStretch first lines → AreNumbered first lines → (k : ℕ) (line : Line) (cause : Cause) → slice_get lines k ≡ Some line → line.cause ≡ Some cause → HasAccesses lines cause
named first lines s fit k line cause g e =
    cause_named first lines s fit k (slice_get_within lines k line g) cause (if_some (λ (c : Cause). IsCauseAt (first + k) c) line.cause cause e (fit k line g).cause)

below_or : (k n : ℕ) → (k < n) ⊎ (n ≤ k)
below_or k n = grind arith

joined : (first : ℕ) (xs ys : List Line) → AreNumbered first xs → AreNumbered (first + length xs) ys → AreNumbered first (xs ++ ys)
joined first xs ys a b k line g = elim (below_or k (length xs)) [
  | inl l ↦ a k line (sym (get_kept xs ys k l) ∙ g)
  | inr l ↦ subst (λ (z : ℕ). FitsAt z line) (let e : first + length xs + (k - length xs) ≡ first + k = omega arith in e)
      (b (k - length xs) line (sym (get_behind xs ys k (k - length xs) (omega arith)) ∙ g))
]

none_numbered : (first : ℕ) → AreNumbered first []
none_numbered first k line g = absurd (let l = slice_get_within [] k line g in omega arith)

dependences : (a b : Part) → IsStretch 0 a.lines.items → IsStretch 8 b.lines.items → AreNumbered 0 a.lines.items → AreNumbered 8 b.lines.items → AreDependencesNamed (a ∷ b ∷ [])
dependences a b s t f g zero k part line cause is h e =
    let q : Some a ≡ Some part = is in
    let same : a ≡ part = cc in
    subst (λ (z : Part). HasAccesses z.lines.items cause) same (named 0 a.lines.items s f k line cause (ap (λ (z : Part). slice_get z.lines.items k) same ∙ h) e)
dependences a b s t f g (suc zero) k part line cause is h e =
    let q : Some b ≡ Some part = is in
    let same : b ≡ part = cc in
    subst (λ (z : Part). HasAccesses z.lines.items cause) same (named 8 b.lines.items t g k line cause (ap (λ (z : Part). slice_get z.lines.items k) same ∙ h) e)
dependences a b s t f g (suc (suc p)) k part line cause is h e = absurd (let bad : None ≡ Some part = is in cc)

pub linkable : (a b : Part) → AreNumbered 0 a.lines.items → length a.lines.items ≡ 8 → AreNumbered 8 b.lines.items → length b.lines.items ≡ 261112 → IsLinkable (a ∷ b ∷ [])
linkable a b f m g n =
    let tail : AreNumbered (0 + length a.lines.items) (b.lines.items ++ []) =
    subst (λ (z : ℕ). AreNumbered z (b.lines.items ++ [])) (let e : 8 ≡ 0 + length a.lines.items = omega arith in e) (joined 8 b.lines.items [] g (none_numbered (8 + length b.lines.items))) in
    let whole = joined 0 a.lines.items (b.lines.items ++ []) f tail in
    let count : length (a.lines.items ++ (b.lines.items ++ [])) ≡ 261120 =
    (let p = length-append a.lines.items (b.lines.items ++ []) in let q = length-append b.lines.items [] in omega arith) in
    record {
      last = record { some = omega arith; last = b; is_last = refl; line = omega arith };
      labels = labels_apart (a.lines.items ++ (b.lines.items ++ [])) whole;
      targets = targets_near (a.lines.items ++ (b.lines.items ++ [])) count whole;
      dependences = dependences a b (inr (omega arith)) (inl (omega arith, omega arith)) f g;
    }

-- one line more
pub numbered_more : (first : ℕ) (lines more : List Line) (line : Line) (i : ℕ) → more ≡ lines ++ line ∷ [] → i ≡ first + length lines → AreNumbered first lines → FitsAt i line → AreNumbered first more
numbered_more first lines more line i e at f h = subst (λ (z : List Line). AreNumbered first z) (sym e) (joined first lines (line ∷ []) f one)
  where
    one : AreNumbered (first + length lines) (line ∷ [])
    one zero other g =
        let q : Some line ≡ Some other = g in
        let same : line ≡ other = cc in
        subst (λ (z : Line). FitsAt (first + length lines + 0) z) same (subst (λ (z : ℕ). FitsAt z line) (let s : i ≡ first + length lines + 0 = omega arith in s) h)
    one (suc k) other g = absurd (let bad : None ≡ Some other = g in cc)
