-- Repetitions that a loop reads into a vector, item by item, for any kind of item.
use Rattle.std.proofs.Common.{◌≡◌, ℕ, ◌+◌, List, [], ◌∷◌, ◌++◌, length, sym, refl, ap, ◌∙◌, subst, append_assoc, arith, length-append}
use Rattle.im_word.specs.Words.{Word}
use Rattle.im_parse_core.specs.Reads.{Family, Ending, head, Within}
use Rattle.im_parse_core.specs.Parts.{Both, both, Made, made}
use Rattle.im_parse_core.specs.Lists.{before}
use Rattle.im_parse_core.specs.Repeats.{Repeated, no_more, one_more, moved}
use Rattle.im_parse_core.proofs.Steps.{Apart, Completes, Into, line}
use Rattle.im_parse_core.proofs.Lists.{before_more}

pub moved_more : {S A : Type 0} (step : S → A → S) (s : S) (xs : List A) (a : A) → moved step s (xs ++ a ∷ []) ≡ step (moved step s xs) a
moved_more step s [] a = refl
moved_more step s (x ∷ xs) a = moved_more step (step s x) xs a

-- what is to be read behind these items: more of them, and then what Y says
abbrev pub Rest : {S A B C : Type 0} → (S → Family A) → (S → A → S) → (A → B → B) → B → (B → Family C) → List A → S → Family C
Rest X step cons nil Y xs s = Both (Repeated X step cons nil s) (λ b. Y (before cons xs b))

-- an item, and what is to be read behind it
abbrev pub Next : {S A B C : Type 0} → (S → Family A) → (S → A → S) → (A → B → B) → B → (B → Family C) → List A → S → Family C
Next X step cons nil Y xs s = Both (X s) (λ a. Rest X step cons nil Y (xs ++ a ∷ []) (step s a))

next_into : {S A B C : Type 0} (X : S → Family A) (step : S → A → S) (cons : A → B → B) (nil : B) (Y : B → Family C) (xs : List A) (s : S) (q : ℕ) → Into (Next X step cons nil Y xs s) (Rest X step cons nil Y xs s) q
next_into X step cons nil Y xs s q t _ (both {a = a} {u = u} d (both {a = b} {u = v} {v = w} rest y)) =
    subst (Rest X step cons nil Y xs s q t) (append_assoc u v w)
    (both (one_more d rest) (subst (λ k. Y (before cons xs (cons a b)) k t w) (omega (arith, length-append u v)) (subst (λ z. Y z (q + length u + length v) t w) (before_more cons xs a b) y)))

next_back : {S A B C : Type 0} (X : S → Family A) (step : S → A → S) (cons : A → B → B) (nil : B) (Y : B → Family C) (F : Ending C) (xs : List A) (s : S) (q : ℕ) (m : List Word) → ((k : ℕ) (t : C) (u r : List Word) → head (u ++ r) ≡ head m → Y (before cons xs nil) k t u → F t r → ⊥) → (t : C) (u r : List Word) → head (u ++ r) ≡ head m → Rest X step cons nil Y xs s q t u → F t r → Next X step cons nil Y xs s q t u
next_back X step cons nil Y F xs s q m other t _ r eq (both {v = w} no_more y) f = absurd (other (q + 0) t w r eq y f)
next_back X step cons nil Y F xs s q m other t _ r eq (both {v = w} (one_more {a = a} {b = b} {u = u} {v = v} d rest) y) f =
    subst (Next X step cons nil Y xs s q t) (sym (append_assoc u v w))
    (both d (both rest (subst (λ z. Y z (q + length u + length v) t w) (sym (before_more cons xs a b)) (subst (λ k. Y (before cons xs (cons a b)) k t w) (omega (arith, length-append u v)) y))))

-- an item stands next, since nothing that may stand behind them does
pub one : {S A B C D' : Type 0} {D : Family D'} {E : Ending D'} {p : ℕ} {w : List Word} {X : S → Family A} {step : S → A → S} {cons : A → B → B} {nil : B} {F : Ending C} {q : ℕ} {m : List Word} {put : C → D'} {s : S} (Y : B → Family C) (xs : List A) → ((k : ℕ) (t : C) (u r : List Word) → head (u ++ r) ≡ head m → Y (before cons xs nil) k t u → F t r → ⊥) → Within D E p w (Rest X step cons nil Y xs s) F q m put → Within D E p w (Next X step cons nil Y xs s) F q m put
one {X = X} {step = step} {cons = cons} {nil = nil} {F = F} {q = q} {m = m} {s = s} Y xs other from =
    line (Next X step cons nil Y xs s) (next_into X step cons nil Y xs s q) (λ t u r e d f. next_back X step cons nil Y F xs s q m other t u r e d f) from

over_into : {S A B C : Type 0} (X : S → Family A) (step : S → A → S) (cons : A → B → B) (nil : B) (Y : B → Family C) (xs : List A) (s : S) (q : ℕ) → Into (Y (before cons xs nil)) (Rest X step cons nil Y xs s) q
over_into X step cons nil Y xs s q t u y = both no_more (subst (λ k. Y (before cons xs nil) k t u) (omega arith) y)

over_back : {S A B C : Type 0} (X : S → Family A) (step : S → A → S) (cons : A → B → B) (nil : B) (Y : B → Family C) (xs : List A) (s : S) (q : ℕ) (m : List Word) → ((a : A) (u z : List Word) → X s q a u → head (u ++ z) ≡ head m → ⊥) → (t : C) (u r : List Word) → head (u ++ r) ≡ head m → Rest X step cons nil Y xs s q t u → Y (before cons xs nil) q t u
over_back X step cons nil Y xs s q m other t _ r eq (both {v = w} no_more y) = subst (λ k. Y (before cons xs nil) k t w) (omega arith) y
over_back X step cons nil Y xs s q m other t _ r eq (both {v = w} (one_more {a = a} {u = u} {v = v} d rest) y) =
    absurd (other a u (v ++ (w ++ r)) d (ap head (sym (append_assoc u v (w ++ r)) ∙ sym (append_assoc (u ++ v) w r)) ∙ eq))

-- no item stands next
pub over : {S A B C D' : Type 0} {D : Family D'} {E : Ending D'} {p : ℕ} {w : List Word} {X : S → Family A} {step : S → A → S} {cons : A → B → B} {nil : B} {F : Ending C} {q : ℕ} {m : List Word} {put : C → D'} {s : S} (Y : B → Family C) (xs : List A) → ((a : A) (u z : List Word) → X s q a u → head (u ++ z) ≡ head m → ⊥) → Within D E p w (Rest X step cons nil Y xs s) F q m put → Within D E p w (Y (before cons xs nil)) F q m put
over {X = X} {step = step} {cons = cons} {nil = nil} {F = F} {q = q} {m = m} {s = s} Y xs other from =
    line (Y (before cons xs nil)) (over_into X step cons nil Y xs s q) (λ t u r e d f. over_back X step cons nil Y xs s q m other t u r e d) from

apart_case : {S A B C : Type 0} {X : S → Family A} {step : S → A → S} {cons : A → B → B} {nil : B} (Y : B → Family C) {F : Ending C} (G : Ending A) (xs : List A) (s : S) (a : A)
    → ((a' : A) (k : ℕ) (u z : List Word) → X s k a' u → G a (u ++ z))
    → ((b : B) (k : ℕ) (t : C) (v r : List Word) → Y (before cons (xs ++ a ∷ []) b) k t v → F t r → G a (v ++ r))
    → (q : ℕ) (t : C) (v r : List Word) → Rest X step cons nil Y (xs ++ a ∷ []) s q t v → F t r → G a (v ++ r)
apart_case {cons = cons} {nil = nil} Y G xs s a starts ends q t _ r (both {v = w} no_more y) f = ends nil (q + 0) t w r y f
apart_case Y G xs s a starts ends q t _ r (both {v = w} (one_more {a = a'} {u = u} {v = v} d rest) y) f =
    subst (G a) (sym (append_assoc u v (w ++ r)) ∙ sym (append_assoc (u ++ v) w r)) (starts a' q u (v ++ (w ++ r)) d)

-- what stands behind an item, which is another item or what Y says, is its ending
pub apart_item : {S A B C : Type 0} {X : S → Family A} {step : S → A → S} {cons : A → B → B} {nil : B} (Y : B → Family C) {F : Ending C} (G : Ending A) (xs : List A) (s : S)
    → ((a a' : A) (k : ℕ) (u z : List Word) → X (step s a) k a' u → G a (u ++ z))
    → ((a : A) (b : B) (k : ℕ) (t : C) (v r : List Word) → Y (before cons (xs ++ a ∷ []) b) k t v → F t r → G a (v ++ r))
    → Apart (λ a. Rest X step cons nil Y (xs ++ a ∷ []) (step s a)) F G
apart_item {X = X} {step = step} {cons = cons} {nil = nil} Y {F = F} G xs s starts ends a q t v r d f = apart_case {X = X} {step = step} {cons = cons} {nil = nil} Y {F = F} G xs (step s a) a (starts a) (ends a) q t v r d f

-- it can be completed
pub completes_item : {S A B C : Type 0} {X : S → Family A} {step : S → A → S} {cons : A → B → B} {nil : B} (Y : B → Family C) (xs : List A) (s : S)
    → ((b : B) (k : ℕ) → (t : C) × (v : List Word) × Y b k t v)
    → Completes (λ a. Rest X step cons nil Y (xs ++ a ∷ []) (step s a))
completes_item {cons = cons} {nil = nil} Y xs s some a q =
    let y = some (before cons (xs ++ a ∷ []) nil) (q + 0) in
    (y.0, y.1, both no_more y.2)

-- the first item of one or more
first_into : {A B C : Type 0} (X : Family A) (R : A → Family B) (cons : A → B → B) (Y : B → Family C) (q : ℕ) → Into (Both X (λ a. Both (R a) (λ b. Y (cons a b)))) (Both (Both X (λ a. Made (cons a) (R a))) Y) q
first_into X R cons Y q t _ (both {a = a} {u = u} d (both {a = b} {u = v} {v = w} e f)) =
    subst (Both (Both X (λ a. Made (cons a) (R a))) Y q t) (append_assoc u v w) (both (both d (made e)) (subst (λ k. Y (cons a b) k t w) (omega (arith, length-append u v)) f))

first_back : {A B C : Type 0} (X : Family A) (R : A → Family B) (cons : A → B → B) (Y : B → Family C) (q : ℕ) → Into (Both (Both X (λ a. Made (cons a) (R a))) Y) (Both X (λ a. Both (R a) (λ b. Y (cons a b)))) q
first_back X R cons Y q t _ (both {v = w} (both {a = a} {u = u} d (made {t = b} {u = v} e)) f) =
    subst (Both X (λ a. Both (R a) (λ b. Y (cons a b))) q t) (sym (append_assoc u v w)) (both d (both e (subst (λ k. Y (cons a b) k t w) (omega (arith, length-append u v)) f)))

pub first : {A B C D' : Type 0} {D : Family D'} {E : Ending D'} {p : ℕ} {w : List Word} {X : Family A} {R : A → Family B} {cons : A → B → B} {F : Ending C} {q : ℕ} {m : List Word} {put : C → D'} (Y : B → Family C) → Within D E p w (Both (Both X (λ a. Made (cons a) (R a))) Y) F q m put → Within D E p w (Both X (λ a. Both (R a) (λ b. Y (cons a b)))) F q m put
first {X = X} {R = R} {cons = cons} {q = q} Y from = line (Both X (λ a. Both (R a) (λ b. Y (cons a b)))) (first_into X R cons Y q) (λ t u r e d f. first_back X R cons Y q t u d) from
