-- Lists of items with a word between them, which may stand behind the last one too, and that a word closes.
use Rattle.std.proofs.Common.{◌≡◌, ℕ, suc, ◌+◌, List, [], ◌∷◌, ◌++◌, length, drop, sym, refl, ap, ◌∙◌, subst, append_assoc, arith, length-append}
use Rattle.std.specs.Prelude.{Some}
use Rattle.im_word.specs.Words.{Word}
use Rattle.im_parse_core.specs.Reads.{Family, Ending, head, Reads, Refuses, Within}
use Rattle.im_parse_core.specs.Parts.{Both, both, After, after, Made, Done, done}
use Rattle.im_parse_core.specs.Places.{IsAt}
use Rattle.im_parse_core.specs.Lists.{before}
use Rattle.im_parse_core.proofs.Steps.{Apart, Completes, Into, line, line_at, word, part, refused, all, flat_done, first_line}
use Rattle.im_parse_core.proofs.Lists.{before_more}
use Rattle.im_parse_core.proofs.Repeats.{first}
use Rattle.im_parse_core.proofs.SeparatedLists.{Whatever, ClosedBy, closed_apart}

-- { separator item } [ separator ]
pub data Trailed {A B : Type 0} (X : Family A) (cons : A → B → B) (nil : B) (between : Word) : ℕ → B → List Word → Type 0 where
  trailed_none : {p : ℕ} → Trailed X cons nil between p nil []
  trailed_last : {p : ℕ} → Trailed X cons nil between p nil (between ∷ [])
  trailed_next : {p : ℕ} {a : A} {b : B} {u v : List Word} → X (suc p) a u → Trailed X cons nil between (suc p + length u) b v → Trailed X cons nil between p (cons a b) (between ∷ (u ++ v))

abbrev pub TBehind : {A B : Type 0} → Family A → (A → B → B) → B → Word → Word → List A → Family B
TBehind X cons nil between close xs = Both (Trailed X cons nil between) (λ b. After close (Done (before cons xs b)))

abbrev pub TBefore : {A B : Type 0} → Family A → (A → B → B) → B → Word → Word → List A → Family B
TBefore X cons nil between close xs = Both X (λ a. TBehind X cons nil between close (xs ++ a ∷ []))

-- behind a separator
pub data TAfter {A B : Type 0} (X : Family A) (cons : A → B → B) (nil : B) (between close : Word) (xs : List A) : ℕ → B → List Word → Type 0 where
  an_item : {p : ℕ} {t : B} {u : List Word} → TBefore X cons nil between close xs p t u → TAfter X cons nil between close xs p t u
  the_close : {p : ℕ} → TAfter X cons nil between close xs p (before cons xs nil) (close ∷ [])

pub trail_opened : {A B D' : Type 0} {D : Family D'} {E : Ending D'} {p : ℕ} {w : List Word} {q : ℕ} {m : List Word} {put : B → D'} (L : Family B) (X : Family A) (cons : A → B → B) (nil : B) (between close : Word)
    → Into (Both X (λ a. Made (cons a) (Trailed X cons nil between))) L q
    → Into L (Both X (λ a. Made (cons a) (Trailed X cons nil between))) q
    → Within D E p w (ClosedBy close L) Whatever q m put → Within D E p w (TBefore X cons nil between close []) Whatever q m put
trail_opened L X cons nil between close into back from =
    first (λ b. After close (Done b)) (first_line {G = λ t r. head r ≡ Some close} (Both X (λ a. Made (cons a) (Trailed X cons nil between))) (closed_apart close) into (λ t u r e d f. back t u d) from)

trail_ends : {A B : Type 0} {X : Family A} {cons : A → B → B} {nil : B} {between close : Word} (G : Ending A) (xs : List A) (a : A) → ((z : List Word) → G a (between ∷ z)) → ((z : List Word) → G a (close ∷ z)) → (q : ℕ) (t : B) (v r : List Word) → TBehind X cons nil between close xs q t v → G a (v ++ r)
trail_ends G xs a starts closes q t _ r (both trailed_none (after {u = u} d)) = closes (u ++ r)
trail_ends {close = close} G xs a starts closes q t _ r (both trailed_last (after {u = u} d)) = starts (close ∷ (u ++ r))
trail_ends {close = close} G xs a starts closes q t _ r (both (trailed_next {u = u} {v = v} d rest) (after {u = w} d')) = starts (((u ++ v) ++ (close ∷ w)) ++ r)

trail_apart : {A B : Type 0} {X : Family A} {cons : A → B → B} {nil : B} {between close : Word} (G : Ending A) (xs : List A) → ((a : A) (z : List Word) → G a (between ∷ z)) → ((a : A) (z : List Word) → G a (close ∷ z)) → Apart (λ a. TBehind X cons nil between close (xs ++ a ∷ [])) Whatever G
trail_apart {X = X} {cons = cons} {nil = nil} {between = between} {close = close} G xs starts closes a q t v r d e = trail_ends {X = X} {cons = cons} {nil = nil} {between = between} {close = close} G (xs ++ a ∷ []) a (starts a) (closes a) q t v r d

trail_completes : {A B : Type 0} {X : Family A} {cons : A → B → B} {nil : B} {between close : Word} (xs : List A) → Completes (λ a. TBehind X cons nil between close (xs ++ a ∷ []))
trail_completes {cons = cons} {nil = nil} {close = close} xs a q = (before cons (xs ++ a ∷ []) nil, close ∷ [], both trailed_none (after done))

pub trail_refused : {A B D' : Type 0} {D : Family D'} {E : Ending D'} {p : ℕ} {w : List Word} {X : Family A} {cons : A → B → B} {nil : B} {between close : Word} {q n : ℕ} {v m : List Word} {put : B → D'} (G : Ending A) (xs : List A) → ((a : A) (z : List Word) → G a (between ∷ z)) → ((a : A) (z : List Word) → G a (close ∷ z)) → Within D E p w (TBefore X cons nil between close xs) Whatever q v put → Refuses X G q v n m → Refuses D E p w n m
trail_refused {X = X} {cons = cons} {nil = nil} {between = between} {close = close} G xs starts closes from one = refused (trail_completes {X = X} {cons = cons} {nil = nil} {between = between} {close = close} xs) (trail_apart {X = X} {cons = cons} {nil = nil} {between = between} {close = close} G xs starts closes) one from

pub trail_listed : {A B D' : Type 0} {D : Family D'} {E : Ending D'} {p : ℕ} {w : List Word} {X : Family A} {cons : A → B → B} {nil : B} {between close : Word} {q n : ℕ} {v m : List Word} {put : B → D'} {a : A} (G : Ending A) (xs : List A) → ((a : A) (z : List Word) → G a (between ∷ z)) → ((a : A) (z : List Word) → G a (close ∷ z)) → Within D E p w (TBefore X cons nil between close xs) Whatever q v put → Reads X G q v a n m → Within D E p w (TBehind X cons nil between close (xs ++ a ∷ [])) Whatever n m put
trail_listed {X = X} {cons = cons} {nil = nil} {between = between} {close = close} G xs starts closes from one = part (trail_apart {X = X} {cons = cons} {nil = nil} {between = between} {close = close} G xs starts closes) one from

after_into : {A B : Type 0} (X : Family A) (cons : A → B → B) (nil : B) (between close : Word) (xs : List A) (q : ℕ) → Into (After between (TAfter X cons nil between close xs)) (TBehind X cons nil between close xs) q
after_into X cons nil between close xs q t _ (after the_close) = both trailed_last (after done)
after_into X cons nil between close xs q t _ (after (an_item (both {a = a} {u = u} d (both {a = b} {u = v} rest (after {u = w} y))))) =
    subst (TBehind X cons nil between close xs q t) (ap (λ z. between ∷ z) (append_assoc u v (close ∷ w)))
    (both (trailed_next d rest) (after (subst (λ k. Done (before cons xs (cons a b)) k t w) (omega (arith, length-append u v)) (subst (λ z. Done z (suc (suc q + length u + length v)) t w) (before_more cons xs a b) y))))

after_back : {A B : Type 0} (X : Family A) (cons : A → B → B) (nil : B) (between close : Word) (xs : List A) → (Some close ≡ Some between → ⊥) → (q : ℕ) (t : B) (u r v : List Word) → u ++ r ≡ between ∷ v → TBehind X cons nil between close xs q t u → After between (TAfter X cons nil between close xs) q t u
after_back X cons nil between close xs other q t _ r v eq (both trailed_none (after d)) = absurd (other (ap head eq))
after_back X cons nil between close xs other q t _ r v eq (both trailed_last (after done)) = after the_close
after_back X cons nil between close xs other q t _ r v eq (both (trailed_next {a = a} {b = b} {u = u} {v = v'} d rest) (after {u = w} y)) =
    subst (After between (TAfter X cons nil between close xs) q t) (ap (λ z. between ∷ z) (sym (append_assoc u v' (close ∷ w))))
    (after (an_item (both d (both rest (after (subst (λ z. Done z (suc (suc q + length u + length v')) t w) (sym (before_more cons xs a b)) (subst (λ k. Done (before cons xs (cons a b)) k t w) (omega (arith, length-append u v')) y)))))))

-- a separator stands next
pub trail_another : {A B D' : Type 0} {D : Family D'} {E : Ending D'} {p : ℕ} {w words : List Word} {X : Family A} {cons : A → B → B} {nil : B} {between close : Word} {q n : ℕ} {put : B → D'} (xs : List A) → (Some close ≡ Some between → ⊥) → IsAt between words q n → Within D E p w (TBehind X cons nil between close xs) Whatever q (drop q words) put → Within D E p w (TAfter X cons nil between close xs) Whatever n (drop n words) put
trail_another {X = X} {cons = cons} {nil = nil} {between = between} {close = close} {q = q} xs other at from =
    word at (line_at between (After between (TAfter X cons nil between close xs)) (ap head at.here) (after_into X cons nil between close xs q) (λ t u r v eq d e. after_back X cons nil between close xs other q t u r v eq d) from)

close_into : {A B : Type 0} (X : Family A) (cons : A → B → B) (nil : B) (between close : Word) (xs : List A) (q : ℕ) → Into (After close (Done (before cons xs nil))) (TAfter X cons nil between close xs) q
close_into X cons nil between close xs q t _ (after done) = the_close

close_back : {A B : Type 0} (X : Family A) (cons : A → B → B) (nil : B) (between close : Word) (xs : List A) (q : ℕ) → ((a : A) (u z : List Word) → X q a u → head (u ++ z) ≡ Some close → ⊥) → (t : B) (u r v : List Word) → u ++ r ≡ close ∷ v → TAfter X cons nil between close xs q t u → After close (Done (before cons xs nil)) q t u
close_back X cons nil between close xs q other t _ r v eq the_close = after done
close_back X cons nil between close xs q other t _ r v eq (an_item (both {a = a} {u = u} {v = w} d rest)) = absurd (other a u (w ++ r) d (ap head (sym (append_assoc u w r) ∙ eq)))

-- the list is closed behind a separator
pub trail_closed : {A B D' : Type 0} {D : Family D'} {E : Ending D'} {p : ℕ} {w words : List Word} {X : Family A} {cons : A → B → B} {nil : B} {between close : Word} {q n : ℕ} {put : B → D'} (xs : List A) → ((a : A) (u z : List Word) → X q a u → head (u ++ z) ≡ Some close → ⊥) → IsAt close words q n → Within D E p w (TAfter X cons nil between close xs) Whatever q (drop q words) put → Reads D E p w (put (before cons xs nil)) n (drop n words)
trail_closed {X = X} {cons = cons} {nil = nil} {between = between} {close = close} {q = q} xs other at from =
    all (word at (line_at close (After close (Done (before cons xs nil))) (ap head at.here) (close_into X cons nil between close xs q) (λ t u r v eq d e. close_back X cons nil between close xs q other t u r v eq d) from))

item_back : {A B : Type 0} (X : Family A) (cons : A → B → B) (nil : B) (between close : Word) (xs : List A) (q : ℕ) (m : List Word) → (head m ≡ Some close → ⊥) → (t : B) (u r : List Word) → head (u ++ r) ≡ head m → TAfter X cons nil between close xs q t u → TBefore X cons nil between close xs q t u
item_back X cons nil between close xs q m other t _ r e the_close = absurd (other (sym e))
item_back X cons nil between close xs q m other t u r e (an_item d) = d

-- it isn't
pub trail_item : {A B D' : Type 0} {D : Family D'} {E : Ending D'} {p : ℕ} {w : List Word} {X : Family A} {cons : A → B → B} {nil : B} {between close : Word} {q : ℕ} {m : List Word} {put : B → D'} (xs : List A) → (head m ≡ Some close → ⊥) → Within D E p w (TAfter X cons nil between close xs) Whatever q m put → Within D E p w (TBefore X cons nil between close xs) Whatever q m put
trail_item {X = X} {cons = cons} {nil = nil} {between = between} {close = close} {q = q} {m = m} xs other from =
    line (TBefore X cons nil between close xs) (λ t u d. an_item d) (λ t u r e d f. item_back X cons nil between close xs q m other t u r e d) from

none_into : {A B : Type 0} (X : Family A) (cons : A → B → B) (nil : B) (between : Word) (q : ℕ) → Into (Done nil) (Trailed X cons nil between) q
none_into X cons nil between q t _ done = trailed_none

none_back : {A B : Type 0} (X : Family A) (cons : A → B → B) (nil : B) (between : Word) (q : ℕ) (m : List Word) → (head m ≡ Some between → ⊥) → (t : B) (u r : List Word) → head (u ++ r) ≡ head m → Trailed X cons nil between q t u → Done nil q t u
none_back X cons nil between q m other t _ r e trailed_none = done
none_back X cons nil between q m other t _ r e trailed_last = absurd (other (sym e))
none_back X cons nil between q m other t _ r e (trailed_next d rest) = absurd (other (sym e))

trail_close_apart : {A B : Type 0} (cons : A → B → B) (close : Word) (xs : List A) → Apart {A = B} (λ b. After close (Done (before cons xs b))) Whatever (λ t r. head r ≡ Some close)
trail_close_apart cons close xs a q t _ r (after d) e = refl

-- no separator stands next
pub trail_over : {A B D' : Type 0} {D : Family D'} {E : Ending D'} {p : ℕ} {w : List Word} {X : Family A} {cons : A → B → B} {nil : B} {between close : Word} {q : ℕ} {m : List Word} {put : B → D'} (xs : List A) → (head m ≡ Some between → ⊥) → Within D E p w (TBehind X cons nil between close xs) Whatever q m put → Within D E p w (After close (Done (before cons xs nil))) Whatever q m put
trail_over {B = B} {X = X} {cons = cons} {nil = nil} {between = between} {close = close} {q = q} {m = m} xs other from =
    flat_done (first_line {G = λ (t : B) r. head r ≡ Some close} (Done nil) (trail_close_apart cons close xs) (none_into X cons nil between q) (λ t u r e d f. none_back X cons nil between q m other t u r e d) from)
