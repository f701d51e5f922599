-- Lists that a loop reads into a vector: what was read stands before what is still to be read.
use Rattle.std.proofs.Common.{◌≡◌, ℕ, suc, ◌+◌, List, [], ◌∷◌, ◌++◌, length, sym, refl, ap, subst, append_assoc, arith, length-append}
use Rattle.im_word.specs.Words.{Word}
use Rattle.im_parse_core.specs.Reads.{Family, Ending, Within}
use Rattle.im_parse_core.specs.Parts.{Both, both, After, after, Made, made}
use Rattle.im_parse_core.specs.Lists.{before}
use Rattle.im_parse_core.proofs.Steps.{Into, line, flat_after}

pub before_more : {A B : Type 0} (cons : A → B → B) (xs : List A) (a : A) (b : B) → before cons (xs ++ a ∷ []) b ≡ before cons xs (cons a b)
before_more cons [] a b = refl
before_more cons (x ∷ xs) a b = ap (λ z. cons x z) (before_more cons xs a b)

-- an item, with nothing or a word before it, goes to those that were read
abbrev pub Item : {A B C : Type 0} → Family A → Family B → (A → B → B) → List A → (B → Family C) → Family C
Item X L cons xs Y = Both X (λ a. Both L (λ b. Y (before cons (xs ++ a ∷ []) b)))

item_into : {A B C : Type 0} (X : Family A) (L : Family B) (cons : A → B → B) (xs : List A) (Y : B → Family C) (q : ℕ) → Into (Item X L cons xs Y) (Both (Both X (λ a. Made (cons a) L)) (λ b. Y (before cons xs b))) q
item_into X L cons xs Y q t _ (both {a = a} {u = u} d (both {a = b} {u = v} {v = w} e f)) =
    subst (Both (Both X (λ a. Made (cons a) L)) (λ b. Y (before cons xs b)) q t) (append_assoc u v w)
    (both (both d (made e)) (subst (λ k. Y (before cons xs (cons a b)) k t w) (omega (arith, length-append u v)) (subst (λ z. Y z (q + length u + length v) t w) (before_more cons xs a b) f)))

item_back : {A B C : Type 0} (X : Family A) (L : Family B) (cons : A → B → B) (xs : List A) (Y : B → Family C) (q : ℕ) → Into (Both (Both X (λ a. Made (cons a) L)) (λ b. Y (before cons xs b))) (Item X L cons xs Y) q
item_back X L cons xs Y q t _ (both {v = w} (both {a = a} {u = u} d (made {t = b} {u = v} e)) f) =
    subst (Item X L cons xs Y q t) (sym (append_assoc u v w))
    (both d (both e (subst (λ z. Y z (q + length u + length v) t w) (sym (before_more cons xs a b)) (subst (λ k. Y (before cons xs (cons a b)) k t w) (omega (arith, length-append u v)) f))))

pub item : {A B C D' : Type 0} {D : Family D'} {E : Ending D'} {p : ℕ} {w : List Word} {X : Family A} {L : Family B} {cons : A → B → B} {F : Ending C} {q : ℕ} {m : List Word} {put : C → D'} (xs : List A) (Y : B → Family C) → Within D E p w (Both (Both X (λ a. Made (cons a) L)) (λ b. Y (before cons xs b))) F q m put → Within D E p w (Item X L cons xs Y) F q m put
item {X = X} {L = L} {cons = cons} {q = q} xs Y from = line (Item X L cons xs Y) (item_into X L cons xs Y q) (λ t u r e d f. item_back X L cons xs Y q t u d) from

after_item_into : {A B C : Type 0} (x : Word) (X : Family A) (L : Family B) (cons : A → B → B) (xs : List A) (Y : B → Family C) (q : ℕ) → Into (After x (Item X L cons xs Y)) (After x (Both (Both X (λ a. Made (cons a) L)) (λ b. Y (before cons xs b)))) q
after_item_into x X L cons xs Y q t _ (after {u = u} d) = after (item_into X L cons xs Y (suc q) t u d)

after_item_back : {A B C : Type 0} (x : Word) (X : Family A) (L : Family B) (cons : A → B → B) (xs : List A) (Y : B → Family C) (q : ℕ) → Into (After x (Both (Both X (λ a. Made (cons a) L)) (λ b. Y (before cons xs b)))) (After x (Item X L cons xs Y)) q
after_item_back x X L cons xs Y q t _ (after {u = u} d) = after (item_back X L cons xs Y (suc q) t u d)

-- the same behind a word that parts items
pub after_item : {A B C D' : Type 0} {D : Family D'} {E : Ending D'} {p : ℕ} {w : List Word} {x : Word} {X : Family A} {L : Family B} {cons : A → B → B} {F : Ending C} {q : ℕ} {m : List Word} {put : C → D'} (xs : List A) (Y : B → Family C) → Within D E p w (Both (After x (Both X (λ a. Made (cons a) L))) (λ b. Y (before cons xs b))) F q m put → Within D E p w (After x (Item X L cons xs Y)) F q m put
after_item {x = x} {X = X} {L = L} {cons = cons} {q = q} xs Y from = line (After x (Item X L cons xs Y)) (after_item_into x X L cons xs Y q) (λ t u r e d f. after_item_back x X L cons xs Y q t u d) (flat_after from)
