-- Words written one behind the other.
use Rattle.std.proofs.Common.{◌≡◌, ◌<◌, ◌+◌, ℕ, List, [], ◌∷◌, ◌++◌, length, drop, get_or, sym, ap, refl, subst, ◌∙◌, append_assoc, append-nil}
use Rattle.std.proofs.lemmas.List.{drop_more}
use Rattle.im_word.specs.Words.{Word}
use Rattle.im_print_relation.specs.Text.{word_text}
use Rattle.im_print_parts.specs.Output.{spaced, Writes, each}

pub spaced_append : (u v : List Word) → spaced (u ++ v) ≡ spaced u ++ spaced v
spaced_append [] v = refl
spaced_append (x ∷ u) v = ap (λ z. word_text x ++ (32 ∷ z)) (spaced_append u v) ∙ sym (append_assoc (word_text x) (32 ∷ spaced u) (spaced v))

pub writes_none : (a : List ℕ) → Writes a a []
writes_none a = record { behind = sym (append-nil a) }

pub writes_append : {a b c : List ℕ} {u v : List Word} → Writes a b u → Writes b c v → Writes a c (u ++ v)
writes_append {a = a} {u = u} {v = v} x y =
    record { behind = y.behind ∙ ap (λ z. z ++ spaced v) x.behind ∙ append_assoc a (spaced u) (spaced v) ∙ ap (λ z. a ++ z) (sym (spaced_append u v)) }

pub writes_first : {a b c : List ℕ} {x : Word} {v : List Word} → Writes a b (x ∷ []) → Writes b c v → Writes a c (x ∷ v)
writes_first x y = writes_append x y

pub writes_word : {a b : List ℕ} (x : Word) → b ≡ a ++ (word_text x ++ (32 ∷ [])) → Writes a b (x ∷ [])
writes_word x e = record { behind = e }

pub writes_same : {a b : List ℕ} {u v : List Word} → u ≡ v → Writes a b u → Writes a b v
writes_same {a = a} {b = b} e w = subst (λ z. Writes a b z) e w

-- what is still to be written, where these words were
pub written : {a b : List ℕ} {u : List Word} (rest : List Word) → Writes a b u → b ++ spaced rest ≡ a ++ spaced (u ++ rest)
written {a = a} {u = u} rest w = ap (λ z. z ++ spaced rest) w.behind ∙ append_assoc a (spaced u) (spaced rest) ∙ ap (λ z. a ++ z) (sym (spaced_append u rest))

-- all is written where nothing is left
pub writes_all : {a b : List ℕ} {u : List Word} → b ++ spaced [] ≡ a ++ spaced u → Writes a b u
writes_all {b = b} e = record { behind = sym (append-nil b) ∙ e }

-- the items from the i-th on
pub next : {X : Type 0} (xs : List X) (i : ℕ) (x : X) → i < length xs → x ≡ get_or xs i x → drop i xs ≡ x ∷ drop (i + 1) xs
next xs i x within is = drop_more xs i x within ∙ ap (λ y. y ∷ drop (i + 1) xs) (sym is)

-- one item more
pub each_step : {X : Type 0} {a b : List ℕ} (words : X → List Word) (xs : List X) (i : ℕ) (x : X)
    → Writes a b (words x)
    → i < length xs
    → x ≡ get_or xs i x
    → b ++ spaced (each words (drop (i + 1) xs)) ≡ a ++ spaced (each words (drop i xs))
each_step {a = a} words xs i x w within is = written (each words (drop (i + 1) xs)) w ∙ ap (λ z. a ++ spaced (each words z)) (sym (next xs i x within is))

-- the same of a row by its own definition
pub row_step : {X : Type 0} {a b : List ℕ} (row : List X → List Word) (words : X → List Word)
    → ((x : X) (xs : List X) → row (x ∷ xs) ≡ words x ++ row xs)
    → (xs : List X) (i : ℕ) (x : X)
    → Writes a b (words x)
    → i < length xs
    → x ≡ get_or xs i x
    → b ++ spaced (row (drop (i + 1) xs)) ≡ a ++ spaced (row (drop i xs))
row_step {a = a} row words more xs i x w within is =
    written (row (drop (i + 1) xs)) w
    ∙ ap (λ z. a ++ spaced z) (sym (more x (drop (i + 1) xs)))
    ∙ ap (λ z. a ++ spaced (row z)) (sym (next xs i x within is))

-- what closes a part, and what stands behind it
pub writes_behind : {a b d : List ℕ} (u : List Word) {v : List Word} (close : Word) → Writes a b (u ++ (close ∷ [])) → Writes b d v → Writes a d (u ++ (close ∷ v))
writes_behind u {v = v} close x y = writes_same (append_assoc u (close ∷ []) v) (writes_append x y)

-- a head in parentheses, and what stands behind it
pub writes_headed : {a b d : List ℕ} (u : List Word) {v : List Word} {word opening : Word} (close : Word)
    → Writes a b (word ∷ opening ∷ (u ++ (close ∷ [])))
    → Writes b d v
    → Writes a d (word ∷ opening ∷ (u ++ (close ∷ v)))
writes_headed u {v = v} {word = word} {opening = opening} close x y = writes_same (ap (λ z. word ∷ opening ∷ z) (append_assoc u (close ∷ []) v)) (writes_append x y)
