-- A block whose lines are rewritten one by one, in place.
use Rattle.std.proofs.Common.{◌≡◌, ℕ, zero, suc, ◌<◌, ◌≤◌, Bool, List, [], ◌∷◌, sym, ap, subst, arith, length, get_or}
use Rattle.std.specs.Prelude.{slice_set}
use Rattle.im_block.specs.declared.code.Line.{Line}
use Rattle.im_block.specs.declared.code.Exit.{Exit}
use Rattle.im_block.specs.declared.code.Block.{Block}
use Rattle.im_forward.specs.Forward.{ForwardsLine, ForwardsExit, ForwardsLines, Ends, Kept}
use Rattle.im_forward.specs.Known.{UsesSources}

-- the first lines, the last first, in front of others
abbrev pub behind_of : ℕ → List Line → List Line → List Line
behind_of zero before lines = before
behind_of (suc i) before [] = before
behind_of (suc i) before (x ∷ xs) = behind_of i (x ∷ before) xs

-- the first lines are rewritten, the others are as they were
abbrev pub UsesTo : ℕ → ℕ → List Line → List Line → List Line → Type 0
UsesTo free zero before old new = new ≡ old
UsesTo free (suc i) before [] new = ⊥
UsesTo free (suc i) before (x ∷ xs) [] = ⊥
UsesTo free (suc i) before (x ∷ xs) (y ∷ ys) = ForwardsLine free before x y × UsesTo free i (x ∷ before) xs ys

-- a line that is as it was
pub untouched : (free i : ℕ) (before old new : List Line) (d : Line) → i < length new → UsesTo free i before old new → get_or new i d ≡ get_or old i d
untouched free zero before old new d lt h = ap (λ (z : List Line). get_or z 0 d) h
untouched free (suc i) before [] new d lt h = absurd h
untouched free (suc i) before (x ∷ xs) [] d lt h = absurd h
untouched free (suc i) before (x ∷ xs) (y ∷ ys) d lt h = untouched free i (x ∷ before) xs ys d (omega arith) h.1

pub behind_more : (free i : ℕ) (before old new : List Line) (d : Line) → i < length new → UsesTo free i before old new → behind_of (suc i) before old ≡ get_or new i d ∷ behind_of i before old
behind_more free zero before [] [] d lt h = absurd (omega arith)
behind_more free zero before [] (y ∷ ys) d lt h = cc
behind_more free zero before (x ∷ xs) [] d lt h = absurd (omega arith)
behind_more free zero before (x ∷ xs) (y ∷ ys) d lt h = (let same : y ≡ x = cc in ap (λ z. z ∷ before) (sym same))
behind_more free (suc i) before [] new d lt h = absurd h
behind_more free (suc i) before (x ∷ xs) [] d lt h = absurd h
behind_more free (suc i) before (x ∷ xs) (y ∷ ys) d lt h = behind_more free i (x ∷ before) xs ys d (omega arith) h.1

pub uses_more : (free i : ℕ) (before old new : List Line) (d y : Line) → i < length new → UsesTo free i before old new → ForwardsLine free (behind_of i before old) (get_or new i d) y → UsesTo free (suc i) before old (slice_set new i y)
uses_more free zero before old [] d y lt h one = absurd (omega arith)
uses_more free zero before [] (b ∷ ys) d y lt h one = cc
uses_more free zero before (a ∷ xs) (b ∷ ys) d y lt h one =
    let same : b ≡ a = cc in
    let rest : ys ≡ xs = cc in
    (subst (λ z. ForwardsLine free before z y) same one, rest)
uses_more free (suc i) before [] new d y lt h one = absurd h
uses_more free (suc i) before (a ∷ xs) [] d y lt h one = absurd h
uses_more free (suc i) before (a ∷ xs) (b ∷ ys) d y lt h one = (h.0, uses_more free i (a ∷ before) xs ys d y (omega arith) h.1 one)

pub uses_all : (free : ℕ) (live : ℕ → ℕ → Bool) (a b : Exit) (i : ℕ) (before old new : List Line) → length new ≤ i → UsesTo free i before old new → ForwardsExit free (behind_of i before old) a b → ForwardsLines free live a b before old new
uses_all free live a b zero before [] [] le h e = Ends before e
uses_all free live a b zero before [] (y ∷ ys) le h e = absurd (omega arith)
uses_all free live a b zero before (x ∷ xs) [] le h e = cc
uses_all free live a b zero before (x ∷ xs) (y ∷ ys) le h e = absurd (omega arith)
uses_all free live a b (suc i) before [] new le h e = absurd h
uses_all free live a b (suc i) before (x ∷ xs) [] le h e = absurd h
uses_all free live a b (suc i) before (x ∷ xs) (y ∷ ys) le h e = Kept before xs ys x y h.0 (uses_all free live a b i (x ∷ before) xs ys (omega arith) h.1 e)

-- the whole block
pub uses_block : (free : ℕ) (x y : Block) (i : ℕ) (items : List Line) → y.lines.items ≡ items → length items ≤ i → UsesTo free i [] x.lines.items items → ForwardsExit free (behind_of i [] x.lines.items) x.exit y.exit → UsesSources free x y
uses_block free x y i items is le h e live = record {
  lines = subst (ForwardsLines free live x.exit y.exit [] x.lines.items) (sym is) (uses_all free live x.exit y.exit i [] x.lines.items items le h e);
}
