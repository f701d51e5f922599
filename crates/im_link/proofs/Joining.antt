-- The lines of parts, one part after another.
use Rattle.std.proofs.Common.{◌≡◌, ℕ, zero, suc, ◌+◌, ◌<◌, ◌≤◌, ◌⊎◌, inl, inr, List, [], ◌∷◌, ◌++◌, length, take, Some, None, refl, sym, ap, ◌∙◌, arith, append_assoc, get_or}
use Rattle.std.specs.Prelude.{slice_get}
use Rattle.std.proofs.lemmas.List.{length-append, take_more, take_all}
use Rattle.std.proofs.lemmas.List.Sums.{sum_by-cons, sum_by_more, sum_by_more_le}
use Rattle.std.proofs.lemmas.Option.{slice_get_within, get_or_from_slice_get}
use Rattle.im_rv.specs.declared.code.Line.{Line}
use Rattle.im_rv.specs.declared.code.Part.{Part}
use Rattle.im_link.specs.Parts.{part_size, word_count, lines_of, first_of, IsPart}

pub get_kept : {X : Type 0} → (xs ys : List X) (k : ℕ) → k < length xs → slice_get (xs ++ ys) k ≡ slice_get xs k
get_kept [] ys k l = absurd (omega arith)
get_kept (x ∷ xs) ys zero l = refl
get_kept (x ∷ xs) ys (suc k) l = get_kept xs ys k (omega arith)

pub get_behind : {X : Type 0} → (xs ys : List X) (i k : ℕ) → i ≡ length xs + k → slice_get (xs ++ ys) i ≡ slice_get ys k
get_behind [] ys i k e = ap (slice_get ys) (let z : i ≡ k = omega arith in z)
get_behind (x ∷ xs) ys zero k e = absurd (omega arith)
get_behind (x ∷ xs) ys (suc i) k e = get_behind xs ys i k (omega arith)

pub same_at : {X : Type 0} (xs : List X) (i : ℕ) (x y : X) → slice_get xs i ≡ Some x → slice_get xs i ≡ Some y → x ≡ y
same_at xs i x y p q = (let e : Some x ≡ Some y = sym p ∙ q in cc)

-- an element of a list with one more is an old one or the last
pub old_or_last : {X : Type 0} (xs : List X) (y x : X) (c : ℕ) → slice_get (xs ++ y ∷ []) c ≡ Some x → (slice_get xs c ≡ Some x) ⊎ ((c ≡ length xs) × (x ≡ y))
old_or_last [] y x zero e = inr (refl, (let q : Some y ≡ Some x = e in cc))
old_or_last [] y x (suc c) e = absurd (let q : None ≡ Some x = e in cc)
old_or_last (z ∷ xs) y x zero e = inl e
old_or_last (z ∷ xs) y x (suc c) e = elim (old_or_last xs y x c e) [
  | inl o ↦ inl o
  | inr l ↦ inr ((let q = l.0 in omega arith), l.1)
]

pub last_one : {X : Type 0} (xs : List X) (y : X) → slice_get (xs ++ y ∷ []) (length xs) ≡ Some y
last_one [] y = refl
last_one (x ∷ xs) y = last_one xs y

pub lines_append : (xs ys : List Part) → lines_of (xs ++ ys) ≡ lines_of xs ++ lines_of ys
lines_append [] ys = refl
lines_append (x ∷ xs) ys = ap (λ (z : List Line). x.lines.items ++ z) (lines_append xs ys) ∙ sym (append_assoc x.lines.items (lines_of xs) (lines_of ys))

append_nil : (xs : List Line) → xs ++ [] ≡ xs
append_nil [] = refl
append_nil (x ∷ xs) = ap (λ (z : List Line). x ∷ z) (append_nil xs)

pub lines_count : (parts : List Part) → length (lines_of parts) ≡ word_count parts
lines_count [] = refl
lines_count (x ∷ xs) = length-append x.lines.items (lines_of xs) ∙ ap (λ (z : ℕ). part_size x + z) (lines_count xs) ∙ sym (sum_by-cons part_size x xs)

pub lines_more : (parts : List Part) (p : ℕ) (part : Part) → IsPart parts p part → lines_of (take (p + 1) parts) ≡ lines_of (take p parts) ++ part.lines.items
lines_more parts p part g =
    let l = slice_get_within parts p part g in
    ap lines_of (take_more parts p part l) ∙ ap (λ (z : Part). lines_of (take p parts ++ z ∷ [])) (get_or_from_slice_get parts p part part g)
    ∙ lines_append (take p parts) (part ∷ []) ∙ ap (λ (z : List Line). lines_of (take p parts) ++ z) (append_nil part.lines.items)

pub lines_whole : (parts : List Part) → lines_of (take (length parts) parts) ≡ lines_of parts
lines_whole parts = ap lines_of (take_all (length parts) parts (omega arith))

pub first_more : (parts : List Part) (p : ℕ) (part : Part) → IsPart parts p part → first_of parts (p + 1) ≡ first_of parts p + part_size part
first_more parts p part g =
    let l = slice_get_within parts p part g in
    sum_by_more part_size parts p part l ∙ ap (λ (z : Part). first_of parts p + part_size z) (get_or_from_slice_get parts p part part g)

pub first_whole : (parts : List Part) → first_of parts (length parts) ≡ word_count parts
first_whole parts = ap word_count (take_all (length parts) parts (omega arith))

pub first_inside : (parts : List Part) (p : ℕ) (part : Part) → IsPart parts p part → first_of parts p + part_size part ≤ word_count parts
first_inside parts p part g =
    let l = slice_get_within parts p part g in
    let e : part_size (get_or parts p part) ≡ part_size part = ap part_size (get_or_from_slice_get parts p part part g) in
    let m = sum_by_more_le part_size parts p part l in
    omega arith

-- line k of part p is word first_of parts p + k
pub line_in : (parts : List Part) (p k : ℕ) (part : Part) (line : Line) → IsPart parts p part → slice_get part.lines.items k ≡ Some line → slice_get (lines_of parts) (first_of parts p + k) ≡ Some line
line_in [] p k part line g h = absurd (let l = slice_get_within [] p part g in omega arith)
line_in (x ∷ xs) zero k part line g h =
    let same : x ≡ part = (let e : Some x ≡ Some part = g in cc) in
    let here : slice_get x.lines.items k ≡ Some line = ap (λ (z : Part). slice_get z.lines.items k) same ∙ h in
    ap (slice_get (x.lines.items ++ lines_of xs)) (let z : 0 + k ≡ k = omega arith in z)
    ∙ get_kept x.lines.items (lines_of xs) k (slice_get_within x.lines.items k line here) ∙ here
line_in (x ∷ xs) (suc p) k part line g h =
    let sum = sum_by-cons part_size x (take p xs) in
    get_behind x.lines.items (lines_of xs) (first_of (x ∷ xs) (suc p) + k) (first_of xs p + k) (omega arith) ∙ line_in xs p k part line g h

-- ---- one part more

pub lines_snoc : (parts : List Part) (part : Part) → lines_of (parts ++ part ∷ []) ≡ lines_of parts ++ part.lines.items
lines_snoc parts part = lines_append parts (part ∷ []) ∙ ap (λ (z : List Line). lines_of parts ++ z) (append_nil part.lines.items)

pub count_snoc : (parts : List Part) (part : Part) → word_count (parts ++ part ∷ []) ≡ word_count parts + part_size part
count_snoc parts part =
    sym (lines_count (parts ++ part ∷ [])) ∙ ap (length {A = Line}) (lines_snoc parts part) ∙ length-append (lines_of parts) part.lines.items
    ∙ ap (λ (z : ℕ). z + part_size part) (lines_count parts)

take_kept : {X : Type 0} (xs ys : List X) (p : ℕ) → p ≤ length xs → take p (xs ++ ys) ≡ take p xs
take_kept xs ys zero l = refl
take_kept [] ys (suc p) l = absurd (omega arith)
take_kept (x ∷ xs) ys (suc p) l = ap (λ (z : List _). x ∷ z) (take_kept xs ys p (omega arith))

pub first_kept : (parts : List Part) (part : Part) (p : ℕ) → p ≤ length parts → first_of (parts ++ part ∷ []) p ≡ first_of parts p
first_kept parts part p l = ap word_count (take_kept parts (part ∷ []) p l)

-- the added part begins where the others end
pub first_behind : (parts : List Part) (part : Part) → first_of (parts ++ part ∷ []) (length parts) ≡ word_count parts
first_behind parts part = first_kept parts part (length parts) (omega arith) ∙ first_whole parts

pub part_kept : (parts : List Part) (part other : Part) (p : ℕ) → IsPart parts p other → IsPart (parts ++ part ∷ []) p other
part_kept parts part other p g = get_kept parts (part ∷ []) p (slice_get_within parts p other g) ∙ g

pub part_behind : (parts : List Part) (part : Part) → IsPart (parts ++ part ∷ []) (length parts) part
part_behind parts part = last_one parts part
