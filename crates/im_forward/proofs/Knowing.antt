-- The copies that are known: what may be used in the place of what, and what is known behind one line more.
use Rattle.std.proofs.Common.{◌≡◌, ◌≢◌, ◌≤◌, ◌⊎◌, inl, inr, ℕ, Bool, true, false, List, [], ◌∷◌, ◌++◌, cond, refl, sym, ◌∙◌, subst, eqb-true}
use Rattle.std.specs.Prelude.{◌==◌, not, if◌then◌else◌}
use Rattle.std.specs.List.{filter}
use Rattle.std.proofs.lemmas.List.Elements.{All-nil, All-cons, All-head, All-tail, All-push}
use Rattle.im_block.specs.declared.code.Line.{Line}
use Rattle.im_block.specs.declared.code.Line.TheVariants.{Copy}
use Rattle.im_alloc_relation.specs.Live.{sets}
use Rattle.im_forward.specs.declared.copies.Known.{Known}
use Rattle.im_forward.specs.Copies.{IsCopy, Copied, Further, Since, IsSame, Itself, CopyOf}
use Rattle.im_forward.specs.Forward.{MayUse}
use Rattle.im_forward.specs.Known.{instead_of, is_without, IsKnown, AreKnown, Passes, PassesCopy}
use Rattle.im_forward.proofs.Same.{both_true}

not_true : (t : Bool) → not t ≡ true → t ≡ false
not_true true e = cc
not_true false e = refl

-- ---- what may be used

-- itself, or what it is a copy of
abbrev pub Found : ℕ → List Line → ℕ → ℕ → Type 0
Found free before v w = (w ≡ v) ⊎ (IsCopy before v w × (free ≤ w))

pub found : (free : ℕ) (before : List Line) (copies : List Known) → AreKnown free before copies → (v : ℕ) → Found free before v (instead_of copies v)
found free before [] h v = inl refl
found free before (k ∷ ks) h v = by (found free before ks (All-tail (IsKnown free before) k ks h) v) (v == k.register) refl
  where
    by : Found free before v (instead_of ks v) → (t : Bool) → (v == k.register) ≡ t → Found free before v (if t then k.source else instead_of ks v)
    by rest true e =
        let is : v ≡ k.register = eqb-true v k.register e in
        let one = All-head (IsKnown free before) k ks h in
        inr (subst (λ z. IsCopy before z k.source) (sym is) one.copy, one.no_parameter)
    by rest false e = rest

pub may_use : (free : ℕ) (before : List Line) (copies : List Known) → AreKnown free before copies → MayUse free before (instead_of copies)
may_use free before copies h = record {
  same = λ v. elim (found free before copies h v) [
    | inl e ↦ subst (IsSame before v) (sym e) (Itself before v)
    | inr k ↦ CopyOf before v (instead_of copies v) (instead_of copies v) k.0 (Itself before (instead_of copies v))
  ];
  no_parameter = λ v. elim (found free before copies h v) [
    | inl e ↦ inl e
    | inr k ↦ inr k.1
  ];
}

-- ---- behind a line

pub passes_none : (free : ℕ) (line : Line) (old : List Known) → ((v : ℕ) → sets line v ≡ false) → Passes free line old old
passes_none free line [] none before h = All-nil (IsKnown free (line ∷ before))
passes_none free line (k ∷ ks) none before h =
    let one = All-head (IsKnown free before) k ks h in
    All-cons (IsKnown free (line ∷ before)) k ks
    (record { copy = Since line before k.register k.source (none k.register) (none k.source) one.copy; no_parameter = one.no_parameter })
    (passes_none free line ks none before (All-tail (IsKnown free before) k ks h))

pub passes_set : (free : ℕ) (line : Line) (r : ℕ) (old : List Known) → ((v : ℕ) → sets line v ≡ (v == r)) → Passes free line old (filter (is_without r) old)
passes_set free line r [] set before h = All-nil (IsKnown free (line ∷ before))
passes_set free line r (k ∷ ks) set before h = by (passes_set free line r ks set before (All-tail (IsKnown free before) k ks h)) (is_without r k) refl
  where
    by : AreKnown free (line ∷ before) (filter (is_without r) ks) → (t : Bool) → is_without r k ≡ t → AreKnown free (line ∷ before) (cond t (k ∷ filter (is_without r) ks) (filter (is_without r) ks))
    by rest true e =
        let one = All-head (IsKnown free before) k ks h in
        let both = both_true (not (k.register == r)) (not (k.source == r)) e in
        All-cons (IsKnown free (line ∷ before)) k (filter (is_without r) ks)
        (record {
          copy = Since line before k.register k.source (set k.register ∙ not_true (k.register == r) both.0) (set k.source ∙ not_true (k.source == r) both.1) one.copy;
          no_parameter = one.no_parameter;
        })
        rest
    by rest false e = rest

-- a copy more
pub passes_copy : (free to from : ℕ) (old : List Known) (k : Known) → k.register ≡ to → k.source ≡ instead_of old from → to ≢ from → to ≢ instead_of old from → free ≤ instead_of old from → PassesCopy free to from old (filter (is_without to) old ++ k ∷ [])
passes_copy free to from old k is_to is_source ne nf low before h =
    All-push (IsKnown free (Copy to from ∷ before)) (filter (is_without to) old) k
    (passes_set free (Copy to from) to old (λ v. refl) before h)
    (record {
      copy = subst (λ z. IsCopy (Copy to from ∷ before) z k.source) (sym is_to) (subst (IsCopy (Copy to from ∷ before) to) (sym is_source) (elim (found free before old h from) [
        | inl e ↦ subst (IsCopy (Copy to from ∷ before) to) (sym e) (Copied before to from ne)
        | inr c ↦ Further before to from (instead_of old from) ne nf c.0
      ]));
      no_parameter = subst (λ z. free ≤ z) (sym is_source) low;
    })
