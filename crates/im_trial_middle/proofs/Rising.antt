-- Numbers of accesses that rise from line to line: they are apart.
use Rattle.std.proofs.Common.{◌≡◌, ◌≤◌, ◌<◌, ◌^◌, ℕ, zero, suc, ◌+◌, List, [], ◌∷◌, ◌++◌, length, get_or, drop, Option, None, Some, refl, sym, ap, subst, arith}
use Rattle.std.specs.Prelude.{slice_get, IfSome, SomeIff}
use Rattle.std.proofs.lemmas.List.{append_assoc, drop_more, drop_all}
use Rattle.im_block.specs.declared.code.Line.{Line}
use Rattle.im_block.specs.declared.code.Block.{Block}
use Rattle.im_block.specs.Wellformed.{AreApart, accesses_of_line, accesses_of_lines, accesses_of_blocks}
use Rattle.im_trial_middle.specs.Unplaced.{Rises, Leads}

above : (n : ℕ) (xs : List ℕ) → Rises n xs → (i a : ℕ) → slice_get xs i ≡ Some a → n ≤ a
above n [] h i a e = absurd (cc)
above n (x ∷ xs) h zero a e =
    let same : x ≡ a = cc in
    let low = h.0 in
    omega (arith, same, low)
above n (x ∷ xs) h (suc i) a e =
    let low = h.0 in
    let rest = above (suc x) xs h.1 i a e in
    omega (arith, low, rest)

once : (n : ℕ) (xs : List ℕ) → Rises n xs → (i j a : ℕ) → slice_get xs i ≡ Some a → slice_get xs j ≡ Some a → i ≡ j
once n [] h i j a p q = absurd (cc)
once n (x ∷ xs) h zero zero a p q = refl
once n (x ∷ xs) h zero (suc j) a p q =
    let same : x ≡ a = cc in
    let rest = above (suc x) xs h.1 j a q in
    absurd (omega (arith, same, rest))
once n (x ∷ xs) h (suc i) zero a p q =
    let same : x ≡ a = cc in
    let rest = above (suc x) xs h.1 i a p in
    absurd (omega (arith, same, rest))
once n (x ∷ xs) h (suc i) (suc j) a p q = ap (λ k. suc k) (once (suc x) xs h.1 i j a p q)

pub rises_apart : (xs : List ℕ) → Rises 0 xs → AreApart xs
rises_apart xs h = record { each = once 0 xs h }

-- an access, by the sum that is the number behind it
pub access_leads : (n access : ℕ) (sum : Option ℕ) → n ≤ access → SomeIff sum (access + 1 < 2 ^ 64) (access + 1) → IfSome sum (Leads n (access ∷ []))
access_leads n access None low is = tt
access_leads n access (Some next) low is = λ ys h.
    let same : next ≡ suc access = (let e = is.1 in omega (arith, e)) in
    (low, subst (λ k. Rises k ys) same h)

pub none_leads : (n : ℕ) → Leads n [] n
none_leads n ys h = h

both : (n m k : ℕ) (xs ys : List ℕ) → Leads n xs m → Leads m ys k → Leads n (xs ++ ys) k
both n m k xs ys one two zs h = subst (Rises n) (sym (append_assoc xs ys zs)) (one (ys ++ zs) (two zs h))

pub lines_step : (n next : ℕ) (lines : List Line) (i : ℕ) (d : Line) → i < length lines → Leads n (accesses_of_line (get_or lines i d)) next →
    (m : ℕ) → Leads next (accesses_of_lines (drop (i + 1) lines)) m → Leads n (accesses_of_lines (drop i lines)) m
lines_step n next lines i d within one m rest =
    subst (λ xs. Leads n (accesses_of_lines xs) m) (sym (drop_more lines i d within)) (both n next m _ _ one rest)

pub lines_end : (n i : ℕ) (lines : List Line) → length lines ≤ i → Leads n (accesses_of_lines (drop i lines)) n
lines_end n i lines all = subst (λ xs. Leads n (accesses_of_lines xs) n) (sym (drop_all i lines all)) (λ ys h. h)

pub blocks_step : (n next : ℕ) (blocks : List Block) (i : ℕ) (block : Block) → i < length blocks → block ≡ get_or blocks i block → Leads n (accesses_of_lines block.lines.items) next →
    (m : ℕ) → Leads next (accesses_of_blocks (drop (i + 1) blocks)) m → Leads n (accesses_of_blocks (drop i blocks)) m
blocks_step n next blocks i block within is one m rest =
    let here : Leads n (accesses_of_lines (get_or blocks i block).lines.items) next = subst (λ (b : Block). Leads n (accesses_of_lines b.lines.items) next) is one in
    subst (λ xs. Leads n (accesses_of_blocks xs) m) (sym (drop_more blocks i block within)) (both n next m _ _ here rest)

pub blocks_end : (n i : ℕ) (blocks : List Block) → length blocks ≤ i → Leads n (accesses_of_blocks (drop i blocks)) n
blocks_end n i blocks all = subst (λ xs. Leads n (accesses_of_blocks xs) n) (sym (drop_all i blocks all)) (λ ys h. h)
