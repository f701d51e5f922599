-- Words that are written stand in memory.
use Rattle.std.proofs.Common.{◌≡◌, ℕ, suc, ◌+◌, ◌*◌, ◌^◌, ◌<◌, List, [], ◌∷◌, ◌++◌, length, sym, ◌∙◌, subst, arith}
use Rattle.std.specs.Prelude.{slice_index}
use Rattle.std.specs.List.{flat_map}
use Rattle.im_num.specs.Bytes.{word_bytes}
use Rattle.im_mem.specs.Memory.{Mem, little, written, Stands}
use Rattle.im_mem.proofs.Words.{little-alike, little-same, written-below}

abbrev pub Words : List ℕ → Type 0
Words [] = Unit {0}
Words (w ∷ ws) = (w < 2 ^ 32) × Words ws

pub indexed : (ws : List ℕ) → ((k : ℕ) → slice_index ws k < 2 ^ 32) → Words ws
indexed [] h = tt
indexed (w ∷ ws) h = (h 0, indexed ws (λ k. h (suc k)))

pub words_stand : (ws : List ℕ) (m : Mem) (a : ℕ) → Words ws → Stands (written m a (flat_map word_bytes ws)) a ws
words_stand [] m a h = tt
words_stand (w ∷ ws) m a h =
    let n = written m a (word_bytes w) in
    let rest = flat_map word_bytes ws in
    let e : a + 1 + 1 + 1 + 1 ≡ a + 4 = omega arith in
    let first : little (written n (a + 1 + 1 + 1 + 1) rest) a 4 ≡ w =
    little-alike (written n (a + 1 + 1 + 1 + 1) rest) n 4 a (λ k p q. written-below n (a + 1 + 1 + 1 + 1) k rest (omega arith)) ∙ little-same m a w h.0 in
    (first, subst (λ z. Stands (written n z rest) (a + 4) ws) (sym e) (words_stand ws n (a + 4) h.1))

pub stand_first : (m : Mem) (a : ℕ) (xs ys : List ℕ) → Stands m a (xs ++ ys) → Stands m a xs
stand_first m a [] ys s = tt
stand_first m a (x ∷ xs) ys s = (s.0, stand_first m (a + 4) xs ys s.1)

pub stand_rest : (m : Mem) (a : ℕ) (xs ys : List ℕ) → Stands m a (xs ++ ys) → Stands m (a + 4 * length xs) ys
stand_rest m a [] ys s = let e : a ≡ a + 4 * 0 = omega arith in subst (λ z. Stands m z ys) e s
stand_rest m a (x ∷ xs) ys s =
    let e : a + 4 + 4 * length xs ≡ a + 4 * suc (length xs) = omega arith in
    subst (λ z. Stands m z ys) e (stand_rest m (a + 4) xs ys s.1)
