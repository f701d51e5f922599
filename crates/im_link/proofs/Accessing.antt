-- Accesses by lines.
use Rattle.std.proofs.Common.{◌≡◌, ◌≢◌, ℕ, ◌+◌, ◌<◌, ◌⊎◌, inl, inr, List, Option, Some, None, refl, sym, ap, subst, ◌∙◌, arith}
use Rattle.std.specs.Prelude.{slice_get, IfSome}
use Rattle.im_rv.specs.declared.code.Line.{Line}
use Rattle.im_link.specs.Cuts.{IsAccessAt}
use Rattle.im_link.specs.State.{AreAccessesOf}

same_or : (a b : ℕ) → (a ≡ b) ⊎ (a ≢ b)
same_or a b = grind arith

below_or : (j n : ℕ) → j < n + 1 → (j < n) ⊎ (j ≡ n)
below_or j n l = grind arith

pub no_accesses : (lines : List Line) (found : ℕ → Option ℕ) → ((a : ℕ) → found a ≡ None) → AreAccessesOf lines 0 found
no_accesses lines found none = record {
  is = λ a k e. absurd (let bad : None ≡ Some k = sym (none a) ∙ e in cc);
  known = λ a k b s. absurd (omega arith);
}

access_here : (lines : List Line) (i a : ℕ) (line : Line) → slice_get lines i ≡ Some line → IsAccessAt lines a i → line.access ≡ Some a
access_here lines i a line g s =
    let e : Some line ≡ Some s.line = sym g ∙ s.is_line in
    let same : line ≡ s.line = cc in
    ap (λ (z : Line). z.access) same ∙ s.access

noted_by : (lines : List Line) (i : ℕ) (line : Line) (old new : ℕ → Option ℕ) (o : Option ℕ) → line.access ≡ o → AreAccessesOf lines i old → slice_get lines i ≡ Some line → IfSome o (λ a. new a ≡ Some i) → ((q : ℕ) → o ≢ Some q → new q ≡ old q) → AreAccessesOf lines (i + 1) new
noted_by lines i line old new None e p g here others =
    let same : (q : ℕ) → new q ≡ old q = λ q. others q (λ h. cc) in
    record {
      is = λ a k f. p.is a k (sym (same a) ∙ f);
      known = λ a k b s. elim (below_or k i b) [
        | inl x ↦ (let r = p.known a k x s in (r.0, same a ∙ r.1))
        | inr x ↦ absurd (let bad : None ≡ Some a = sym e ∙ access_here lines i a line g (subst (λ (z : ℕ). IsAccessAt lines a z) x s) in cc)
      ];
    }
noted_by lines i line old new (Some m) e p g here others =
    let apart : (q : ℕ) → q ≢ m → new q ≡ old q = λ q ne. others q (λ h. ne (let r : q ≡ m = cc in r)) in
    record {
      is = λ a k f. elim (same_or a m) [
        | inl q ↦ (
            let at : Some i ≡ Some k = sym here ∙ ap new (sym q) ∙ f in
            let ik : i ≡ k = cc in
            subst (λ (z : ℕ). IsAccessAt lines a z) ik (record { line = line; is_line = g; access = e ∙ ap (λ (z : ℕ). Some z) (sym q) }))
        | inr ne ↦ p.is a k (sym (apart a ne) ∙ f)
      ];
      known = λ a k b s. elim (same_or a m) [
        | inl q ↦ (i, ap new q ∙ here)
        | inr ne ↦ elim (below_or k i b) [
          | inl x ↦ (let r = p.known a k x s in (r.0, apart a ne ∙ r.1))
          | inr x ↦ absurd (
              let at : Some m ≡ Some a = sym e ∙ access_here lines i a line g (subst (λ (z : ℕ). IsAccessAt lines a z) x s) in
              let ma : m ≡ a = cc in
              ne (sym ma))
        ]
      ];
    }

pub noted_on : (lines : List Line) (i : ℕ) (line : Line) (old new : ℕ → Option ℕ) → AreAccessesOf lines i old → slice_get lines i ≡ Some line → IfSome line.access (λ a. new a ≡ Some i) → ((q : ℕ) → line.access ≢ Some q → new q ≡ old q) → AreAccessesOf lines (i + 1) new
noted_on lines i line old new p g here others = noted_by lines i line old new line.access refl p g here others
