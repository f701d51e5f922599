-- What is put of each line.
use Rattle.std.proofs.Common.{◌≡◌, ℕ, ◌+◌, ◌<◌, ◌≤◌, List, [], ◌∷◌, ◌++◌, Option, Some, None, refl, sym, ap, ◌∙◌, subst, append_assoc}
use Rattle.std.specs.Prelude.{true, false}
use Rattle.std.proofs.lemmas.List.{append-nil}
use Rattle.im_num.specs.declared.values.Cause.{Cause}
use Rattle.im_num.specs.declared.values.Cause.TheVariants.{Gap}
use Rattle.im_block.specs.declared.code.Line.{Line}
use Rattle.im_block.specs.declared.code.Line.TheVariants.{Cut}
use Rattle.im_block.specs.declared.code.Exit.{Exit}
use Rattle.im_block.specs.Paths.{IsCut}
use Rattle.im_block.specs.Shape.{with_cut}
use Rattle.im_cut_gap.specs.Costs.{leave_cost}
use Rattle.im_cut_gap.specs.Sweep.{is_cut, Spends, Nowhere, Fits, Splits, Puts, SweepLines, Leaves, AtCut, Skips, Keeps, Cuts, SweepsLine}

cut_case : (line : Line) → is_cut line ≡ true → (cause : Cause) × (line ≡ Cut cause)
cut_case (Cut cause) e = (cause, refl)
cut_case line e = cc

no_cut : (line : Line) → is_cut line ≡ false → IsCut line → ⊥
no_cut (Cut cause) e is = cc
no_cut line e is = is

pub sweeps_cut : (limit : ℕ) (m : Option ℕ) (line : Line) (cut longer : List Line) → is_cut line ≡ true → longer ≡ cut ++ line ∷ [] → SweepsLine limit m (Some 0) line cut longer
sweeps_cut limit m line cut longer e is =
    let c = cut_case line e in
    record {
      put = line ∷ [];
      longer_by = is;
      sweeps = λ exit old new n h. subst (λ (l : Line). SweepLines limit exit m (l ∷ old) (l ∷ new) n) (sym c.1) (AtCut m c.0 old new n h);
    }

spends_line : (limit : ℕ) (line : Line) (exit : Exit) (m : Option ℕ) (put : List Line) (k : Option ℕ) (old new : List Line) (n : Option ℕ) → (IsCut line → ⊥) → Spends limit (with_cut line) m put k → SweepLines limit exit k old new n → SweepLines limit exit m (line ∷ old) (put ++ line ∷ new) n
spends_line limit line exit m put k old new n uncut Nowhere h = Skips line old new n uncut h
spends_line limit line exit m put k old new n uncut (Fits j fits) h = Keeps j line old new n uncut fits h
spends_line limit line exit m put k old new n uncut (Splits j long) h = Cuts j line old new n uncut long h

pub sweeps_plain : (limit : ℕ) (m k : Option ℕ) (line : Line) (cut mid longer : List Line) → is_cut line ≡ false → Puts limit (with_cut line) m k cut mid → longer ≡ mid ++ line ∷ [] → SweepsLine limit m k line cut longer
sweeps_plain limit m k line cut mid longer e p is = record {
  put = p.put ++ line ∷ [];
  longer_by = is ∙ ap (λ (t : List Line). t ++ line ∷ []) p.longer_by ∙ append_assoc cut p.put (line ∷ []);
  sweeps = λ exit old new n h.
      subst (λ (t : List Line). SweepLines limit exit m (line ∷ old) t n) (sym (append_assoc p.put (line ∷ []) new))
      (spends_line limit line exit m p.put k old new n (no_cut line e) p.spends h);
}

-- what is swept so far, whatever is left
pub record SweptSoFar (limit : ℕ) (start to : Option ℕ) (lines cut : List Line) : Type 0 where
  pub whole : (exit : Exit) (old new : List Line) (n : Option ℕ) → SweepLines limit exit to old new n → SweepLines limit exit start (lines ++ old) (cut ++ new) n

pub so_far_none : (limit : ℕ) (start : Option ℕ) → SweptSoFar limit start start [] []
so_far_none limit start = record { whole = λ exit old new n h. h }

pub so_far_more : (limit : ℕ) (start m k : Option ℕ) (lines cut longer : List Line) (line : Line) → SweptSoFar limit start m lines cut → SweepsLine limit m k line cut longer → SweptSoFar limit start k (lines ++ line ∷ []) longer
so_far_more limit start m k lines cut longer line h s = record {
  whole = λ exit old new n rest.
      subst (λ (t : List Line). SweepLines limit exit start t (longer ++ new) n) (sym (append_assoc lines (line ∷ []) old))
      (subst (λ (t : List Line). SweepLines limit exit start (lines ++ line ∷ old) t n) (sym (ap (λ (t : List Line). t ++ new) s.longer_by ∙ append_assoc cut s.put new))
      (h.whole exit (line ∷ old) (s.put ++ new) n (s.sweeps exit old new n rest)));
}

pub so_far_end : (limit : ℕ) (exit : Exit) (start m n : Option ℕ) (lines cut longer : List Line) → SweptSoFar limit start m lines cut → Puts limit (leave_cost exit) m n cut longer → SweepLines limit exit start lines longer n
so_far_end limit exit start m n lines cut longer h p =
    subst (λ (t : List Line). SweepLines limit exit start lines t n) (sym p.longer_by)
    (subst (λ (t : List Line). SweepLines limit exit start t (cut ++ p.put) n) (append-nil lines) (h.whole exit [] p.put n (Leaves m p.put n p.spends)))

-- ---- costs

pub puts_nowhere : (limit cost : ℕ) (cut : List Line) → Puts limit cost None None cut cut
puts_nowhere limit cost cut = record { put = []; longer_by = sym (append-nil cut); spends = Nowhere }

pub puts_fits : (limit cost m : ℕ) (cut : List Line) → m + cost ≤ limit → Puts limit cost (Some m) (Some (m + cost)) cut cut
puts_fits limit cost m cut le = record { put = []; longer_by = sym (append-nil cut); spends = Fits m le }

pub puts_splits : (limit cost m : ℕ) (cut longer : List Line) → limit < m + cost → longer ≡ cut ++ Cut Gap ∷ [] → Puts limit cost (Some m) (Some cost) cut longer
puts_splits limit cost m cut longer lt is = record { put = Cut Gap ∷ []; longer_by = is; spends = Splits m lt }
