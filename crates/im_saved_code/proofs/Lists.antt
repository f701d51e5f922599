-- Lines by their numbers: each is sound, and what lives at it is known by those behind it.
use Rattle.std.proofs.Common.{◌≡◌, ℕ, zero, suc, Bool, List, [], ◌∷◌, ◌++◌, Some, drop, refl, sym, ap, subst}
use Rattle.std.specs.Prelude.{slice_get, All}
use Rattle.std.proofs.lemmas.Option.{slice_get_within, get_or_from_slice_get}
use Rattle.im_rv.specs.declared.code.Line.{Line}
use Rattle.im_rv.specs.declared.code.Part.{Part}
use Rattle.im_rv.specs.Lines.{CodeLine, code_line, code_lines}
use Rattle.im_link.specs.Parts.{lines_of}
use Rattle.im_saved_code.specs.Scan.{After, nothing, before, scan, IsSoundLine, AreSound}
use Rattle.im_saved_code.proofs.Scanning.{sound_append}

pub all_at : {X : Type 0} (P : X → Type 0) (xs : List X) (i : ℕ) (x : X) → All P xs → slice_get xs i ≡ Some x → P x
all_at P xs i x a e = subst P (get_or_from_slice_get xs i x x e) (a i x (slice_get_within xs i x e))

-- what lives at line k of these, and at the next
abbrev pub after_of : (ℕ → ℕ → Bool) → List CodeLine → ℕ → After
after_of at xs k = scan at (drop k xs) nothing

pub after_at : (at : ℕ → ℕ → Bool) (xs : List CodeLine) (k : ℕ) (x : CodeLine) → slice_get xs k ≡ Some x → after_of at xs k ≡ before at x (after_of at xs (suc k))
after_at at [] k x e = absurd cc
after_at at (y ∷ xs) zero x e = let same : y ≡ x = cc in ap (λ (z : CodeLine). before at z (scan at xs nothing)) same
after_at at (y ∷ xs) (suc k) x e = after_at at xs k x e

pub sound_at : (at : ℕ → ℕ → Bool) (xs : List CodeLine) (k : ℕ) (x : CodeLine) → AreSound at xs nothing → slice_get xs k ≡ Some x → IsSoundLine at x (after_of at xs (suc k))
sound_at at [] k x s e = absurd cc
sound_at at (y ∷ xs) zero x s e = let same : y ≡ x = cc in subst (λ (z : CodeLine). IsSoundLine at z (scan at xs nothing)) same s.0
sound_at at (y ∷ xs) (suc k) x s e = sound_at at xs k x s.1 e

none_over : (at : ℕ → ℕ → Bool) (k r : ℕ) → (after_of at [] k).over r ≡ (after_of at [] (suc k)).next r
none_over at zero r = refl
none_over at (suc k) r = refl

pub over_is : (at : ℕ → ℕ → Bool) (xs : List CodeLine) (k r : ℕ) → (after_of at xs k).over r ≡ (after_of at xs (suc k)).next r
over_is at [] k r = none_over at k r
over_is at (x ∷ xs) zero r = refl
over_is at (x ∷ xs) (suc k) r = over_is at xs k r

-- ---- parts

pub code_append : (xs ys : List Line) → code_lines (xs ++ ys) ≡ code_lines xs ++ code_lines ys
code_append [] ys = refl
code_append (x ∷ xs) ys = ap (λ (z : List CodeLine). code_line x ∷ z) (code_append xs ys)

pub parts_sound : (at : ℕ → ℕ → Bool) (parts : List Part) (behind : After) → ((p : ℕ) (part : Part) (after : After) → slice_get parts p ≡ Some part → AreSound at (code_lines part.lines.items) after) → AreSound at (code_lines (lines_of parts)) behind
parts_sound at [] behind k = tt
parts_sound at (x ∷ xs) behind k =
    subst (λ z. AreSound at z behind) (sym (code_append x.lines.items (lines_of xs)))
    (sound_append at (code_lines x.lines.items) (code_lines (lines_of xs)) behind (k 0 x (scan at (code_lines (lines_of xs)) behind) refl) (parts_sound at xs behind (λ p part after e. k (suc p) part after e)))

pub code_at : (xs : List Line) (k : ℕ) (line : Line) → slice_get xs k ≡ Some line → slice_get (code_lines xs) k ≡ Some (code_line line)
code_at [] k line e = absurd cc
code_at (x ∷ xs) zero line e = let same : x ≡ line = cc in ap (λ z. Some (code_line z)) same
code_at (x ∷ xs) (suc k) line e = code_at xs k line e
