-- Lists of items with a word between them, that a word closes.
use Rattle.std.proofs.Common.{◌≡◌, ℕ, List, [], ◌∷◌, ◌++◌, drop, sym, refl, ap, ◌∙◌}
use Rattle.std.specs.Prelude.{Some}
use Rattle.im_word.specs.Words.{Word}
use Rattle.im_parse_core.specs.Reads.{Family, Ending, head, Reads, Refuses, Within}
use Rattle.im_parse_core.specs.Parts.{Both, After, after, Made, Done, done}
use Rattle.im_parse_core.specs.Places.{IsAt}
use Rattle.im_parse_core.specs.Lists.{before}
use Rattle.im_parse_core.specs.Repeats.{Repeated}
use Rattle.im_parse_core.proofs.Steps.{Apart, Completes, Into, word, part, refused, flat_after, first_line}
use Rattle.im_parse_core.proofs.Repeats.{Rest, one, over, apart_item, completes_item, first}

-- { separator item } of a list
abbrev pub Others : {A B : Type 0} → Family A → (A → B → B) → B → Word → Family B
Others X cons nil between = Repeated (λ (s : Unit {0}). After between X) (λ s a. s) cons nil tt

abbrev pub Whatever : {A : Type 0} → Ending A
Whatever t r = Unit {0}

-- what this word closes
abbrev pub ClosedBy : {A : Type 0} → Word → Family A → Family A
ClosedBy close D = Both D (λ t. After close (Done t))

-- what is to be read behind these items, and where another one has to stand
abbrev pub Behind : {A B : Type 0} → Family A → (A → B → B) → B → Word → Word → List A → Family B
Behind X cons nil between close xs = Rest (λ (s : Unit {0}). After between X) (λ s a. s) cons nil (λ b. After close (Done b)) xs tt

abbrev pub Before : {A B : Type 0} → Family A → (A → B → B) → B → Word → Word → List A → Family B
Before X cons nil between close xs = Both X (λ a. Behind X cons nil between close (xs ++ a ∷ []))

pub closed_apart : {B : Type 0} (close : Word) → Apart {A = B} (λ t. After close (Done t)) Whatever (λ t r. head r ≡ Some close)
closed_apart close a q t _ r (after d) e = refl

-- the list begins with an item
pub opened : {A B D' : Type 0} {D : Family D'} {E : Ending D'} {p : ℕ} {w : List Word} {q : ℕ} {m : List Word} {put : B → D'} (L : Family B) (X : Family A) (cons : A → B → B) (nil : B) (between close : Word)
    → Into (Both X (λ a. Made (cons a) (Others X cons nil between))) L q
    → ((t : B) (u r : List Word) → head (u ++ r) ≡ head m → L q t u → head r ≡ Some close → Both X (λ a. Made (cons a) (Others X cons nil between)) q t u)
    → Within D E p w (ClosedBy close L) Whatever q m put → Within D E p w (Before X cons nil between close []) Whatever q m put
opened L X cons nil between close into back from =
    first (λ b. After close (Done b)) (first_line {G = λ t r. head r ≡ Some close} (Both X (λ a. Made (cons a) (Others X cons nil between))) (closed_apart close) into back from)

behind_starts : {A : Type 0} {X : Family A} {between : Word} (G : Ending A) → ((a : A) (z : List Word) → G a (between ∷ z)) → (a a' : A) (k : ℕ) (u z : List Word) → After between X k a' u → G a (u ++ z)
behind_starts G starts a a' k _ z (after {u = u} d) = starts a (u ++ z)

behind_ends : {A B : Type 0} {close : Word} {t' : B} (G : Ending A) → ((a : A) (z : List Word) → G a (close ∷ z)) → (a : A) (k : ℕ) (t : B) (v r : List Word) → After close (Done t') k t v → G a (v ++ r)
behind_ends G ends a k t _ r (after {u = u} d) = ends a (u ++ r)

-- what stands behind an item is its ending
pub item_apart : {A B : Type 0} {X : Family A} {cons : A → B → B} {nil : B} {between close : Word} (G : Ending A) (xs : List A) → ((a : A) (z : List Word) → G a (between ∷ z)) → ((a : A) (z : List Word) → G a (close ∷ z)) → Apart (λ a. Behind X cons nil between close (xs ++ a ∷ [])) Whatever G
item_apart {B = B} {X = X} {cons = cons} {nil = nil} {close = close} G xs starts ends =
    apart_item (λ (b : B). After close (Done b)) G xs tt (behind_starts {X = X} G starts) (λ a b k t v r d e. behind_ends G ends a k t v r d)

pub item_completes : {A B : Type 0} {X : Family A} {cons : A → B → B} {nil : B} {between close : Word} (xs : List A) → Completes (λ a. Behind X cons nil between close (xs ++ a ∷ []))
item_completes {B = B} {close = close} xs = completes_item (λ (b : B). After close (Done b)) xs tt (λ b k. (b, close ∷ [], after done))

pub refuses_listed : {A B D' : Type 0} {D : Family D'} {E : Ending D'} {p : ℕ} {w : List Word} {X : Family A} {cons : A → B → B} {nil : B} {between close : Word} {q n : ℕ} {v m : List Word} {put : B → D'} (G : Ending A) (xs : List A) → ((a : A) (z : List Word) → G a (between ∷ z)) → ((a : A) (z : List Word) → G a (close ∷ z)) → Within D E p w (Before X cons nil between close xs) Whatever q v put → Refuses X G q v n m → Refuses D E p w n m
refuses_listed {X = X} {cons = cons} {nil = nil} {between = between} {close = close} G xs starts ends from one = refused (item_completes {X = X} {cons = cons} {nil = nil} {between = between} {close = close} xs) (item_apart {X = X} {cons = cons} {nil = nil} {between = between} {close = close} G xs starts ends) one from

pub listed : {A B D' : Type 0} {D : Family D'} {E : Ending D'} {p : ℕ} {w : List Word} {X : Family A} {cons : A → B → B} {nil : B} {between close : Word} {q n : ℕ} {v m : List Word} {put : B → D'} {a : A} (G : Ending A) (xs : List A) → ((a : A) (z : List Word) → G a (between ∷ z)) → ((a : A) (z : List Word) → G a (close ∷ z)) → Within D E p w (Before X cons nil between close xs) Whatever q v put → Reads X G q v a n m → Within D E p w (Behind X cons nil between close (xs ++ a ∷ [])) Whatever n m put
listed {X = X} {cons = cons} {nil = nil} {between = between} {close = close} G xs starts ends from one = part (item_apart {X = X} {cons = cons} {nil = nil} {between = between} {close = close} G xs starts ends) one from

closes_first : {B : Type 0} {close : Word} {t' : B} {k : ℕ} {t : B} (u r : List Word) → After close (Done t') k t u → head (u ++ r) ≡ Some close
closes_first _ r (after d) = refl

-- a separator stands next
pub another : {A B D' : Type 0} {D : Family D'} {E : Ending D'} {p : ℕ} {w words : List Word} {X : Family A} {cons : A → B → B} {nil : B} {between close : Word} {q n : ℕ} {put : B → D'} (xs : List A) → (Some close ≡ Some between → ⊥) → IsAt between words q n → Within D E p w (Behind X cons nil between close xs) Whatever q (drop q words) put → Within D E p w (Before X cons nil between close xs) Whatever n (drop n words) put
another {B = B} {close = close} xs other at from =
    word at (flat_after (one (λ (b : B). After close (Done b)) xs (λ k t u r e d f. other (sym (closes_first u r d) ∙ e ∙ ap head at.here)) from))

item_first : {A : Type 0} {X : Family A} {between : Word} {k : ℕ} {a : A} (u z : List Word) → After between X k a u → head (u ++ z) ≡ Some between
item_first _ z (after d) = refl

-- no separator does
pub no_other : {A B D' : Type 0} {D : Family D'} {E : Ending D'} {p : ℕ} {w : List Word} {X : Family A} {cons : A → B → B} {nil : B} {between close : Word} {q : ℕ} {m : List Word} {put : B → D'} (xs : List A) → (head m ≡ Some between → ⊥) → Within D E p w (Behind X cons nil between close xs) Whatever q m put → Within D E p w (After close (Done (before cons xs nil))) Whatever q m put
no_other {A = A} {B = B} {X = X} {close = close} xs other from = over (λ (b : B). After close (Done b)) xs (λ a u z d e. other (sym e ∙ item_first {X = X} u z d)) from
