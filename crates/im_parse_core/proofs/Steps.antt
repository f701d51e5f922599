-- Step by step through a line of the grammar: how what is read of its parts gives what is read of the whole.
use Rattle.std.proofs.Common.{◌≡◌, ℕ, suc, ◌+◌, List, [], ◌∷◌, ◌++◌, length, drop, sym, refl, ap, ◌∙◌, subst, append_assoc, arith, length-append, inl, inr}
use Rattle.std.specs.Prelude.{Some, ◌⊎◌}
use Rattle.std.proofs.lemmas.List.{append_cancel_left, append-nil}
use Rattle.im_word.specs.Words.{Word}
use Rattle.im_parse_core.specs.Reads.{Family, Ending, head, Reads, Refuses, Within}
use Rattle.im_parse_core.specs.Parts.{Both, both, After, after, Made, made, Done, done}
use Rattle.im_parse_core.specs.Places.{IsAt}

-- what stands behind the first part, where the second has its ending behind it, is the first's ending
abbrev pub Apart : {A B : Type 0} → (A → Family B) → Ending B → Ending A → Type 0
Apart {A} {B} X F G = (a : A) (q : ℕ) (t : B) (v r : List Word) → X a q t v → F t r → G a (v ++ r)

-- each first part can be completed
abbrev pub Completes : {A B : Type 0} → (A → Family B) → Type 0
Completes {A} {B} X = (a : A) (q : ℕ) → (t : B) × (v : List Word) × X a q t v

abbrev pub Some' : {A : Type 0} → Family A → Type 0
Some' {A} X = (q : ℕ) → (t : A) × (v : List Word) × X q t v

pub head_more : (f r r' : List Word) → head r' ≡ head r → head (f ++ r') ≡ head (f ++ r)
head_more [] r r' e = e
head_more (x ∷ f) r r' e = refl

rest_same : {x x' : Word} {v v' : List Word} → x ∷ v ≡ x' ∷ v' → v ≡ v'
rest_same same = cc

-- nothing is read yet
pub start : {A : Type 0} (D : Family A) (E : Ending A) (p : ℕ) (w : List Word) → Within D E p w D E p w (λ t. t)
start D E p w = record { reads = λ t n rest h. h; refuses = λ n rest h. h }

-- the derivations of L are of D
abbrev pub Into : {A : Type 0} → Family A → Family A → ℕ → Type 0
Into {A} L D q = (t : A) (u : List Word) → L q t u → D q t u

-- the derivations of D whose first word is that of m are of L
abbrev pub Back : {A : Type 0} → Family A → Family A → Ending A → ℕ → List Word → Type 0
Back {A} L D E q m = (t : A) (u r : List Word) → head (u ++ r) ≡ head m → D q t u → E t r → L q t u

pub head_front : {w : List Word} (f m others : List Word) → w ≡ f ++ m → head others ≡ head m → head (f ++ others) ≡ head w
head_front f m others cut next = head_more f m others next ∙ ap head (sym cut)

reads_as : {A : Type 0} (L D : Family A) (E : Ending A) (p : ℕ) (w : List Word) → Into L D p → Back L D E p w → (t : A) (n : ℕ) (m : List Word) → Reads L E p w t n m → Reads D E p w t n m
reads_as L D E p w into back t n m one = record {
  front = one.front;
  cut = one.cut;
  place = one.place;
  derived = into t one.front one.derived;
  sole = λ others u r t' next eq d e. one.sole others u r t' next eq (back t' u r (ap head (sym eq) ∙ head_front one.front m others one.cut next) d e) e;
}

refuses_as : {A : Type 0} (L D : Family A) (E : Ending A) (p : ℕ) (w : List Word) → Into L D p → Back L D E p w → (n : ℕ) (m : List Word) → Refuses L E p w n m → Refuses D E p w n m
refuses_as L D E p w into back n m one = record {
  front = one.front;
  cut = one.cut;
  place = one.place;
  more = one.more;
  whole = one.whole;
  begun = into one.whole (one.front ++ one.more) one.begun;
  none = λ others u r t' next eq d e. one.none others u r t' next eq (back t' u r (ap head (sym eq) ∙ head_front one.front m others one.cut next) d e) e;
}

-- what is to be read is a line of the nonterminal, by the next word
pub line : {A B : Type 0} {D : Family A} {E : Ending A} {p : ℕ} {w : List Word} {X : Family B} {F : Ending B} {q : ℕ} {m : List Word} {put : B → A} (L : Family B) → Into L X q → Back L X F q m → Within D E p w X F q m put → Within D E p w L F q m put
line {X = X} {F = F} {q = q} {m = m} L into back from = record {
  reads = λ t n rest h. from.reads t n rest (reads_as L X F q m into back t n rest h);
  refuses = λ n rest h. from.refuses n rest (refuses_as L X F q m into back n rest h);
}

after_sole : {A : Type 0} {X : Family A} {F : Ending A} {q : ℕ} (P : A → List Word → Type 0) (x : Word) (f : List Word) (m : List Word) → ((others u r : List Word) (t : A) → head others ≡ head m → f ++ others ≡ u ++ r → X (suc q) t u → F t r → P t (x ∷ u)) → (others u r : List Word) (t : A) → head others ≡ head m → (x ∷ f) ++ others ≡ u ++ r → After x X q t u → F t r → P t u
after_sole P x f m sole others _ r t next eq (after {u = u} d) e = sole others u r t next (rest_same eq) d e

reads_after : {A : Type 0} (x : Word) (X : Family A) (F : Ending A) (q : ℕ) (m : List Word) (t : A) (n : ℕ) (rest : List Word) → Reads X F (suc q) m t n rest → Reads (After x X) F q (x ∷ m) t n rest
reads_after x X F q m t n rest one = record {
  front = x ∷ one.front;
  cut = ap (λ z. x ∷ z) one.cut;
  place = omega (arith, one.place);
  derived = after one.derived;
  sole = after_sole (λ t' u. (t' ≡ t) × (u ≡ x ∷ one.front)) x one.front rest (λ others u r t' next eq d e. let h = one.sole others u r t' next eq d e in (h.0, ap (λ z. x ∷ z) h.1));
}

refuses_after : {A : Type 0} (x : Word) (X : Family A) (F : Ending A) (q : ℕ) (m : List Word) (n : ℕ) (rest : List Word) → Refuses X F (suc q) m n rest → Refuses (After x X) F q (x ∷ m) n rest
refuses_after x X F q m n rest one = record {
  front = x ∷ one.front;
  cut = ap (λ z. x ∷ z) one.cut;
  place = omega (arith, one.place);
  more = one.more;
  whole = one.whole;
  begun = after one.begun;
  none = after_sole (λ t' u. ⊥) x one.front rest one.none;
}

within_after : {A B : Type 0} {D : Family A} {E : Ending A} {p : ℕ} {w : List Word} {x : Word} {X : Family B} {F : Ending B} {q : ℕ} {m : List Word} {put : B → A} → Within D E p w (After x X) F q (x ∷ m) put → Within D E p w X F (suc q) m put
within_after {x = x} {X = X} {F = F} {q = q} {m = m} from = record {
  reads = λ t n rest h. from.reads t n rest (reads_after x X F q m t n rest h);
  refuses = λ n rest h. from.refuses n rest (refuses_after x X F q m n rest h);
}

-- the word that has to stand next does
pub word : {A B : Type 0} {D : Family A} {E : Ending A} {p : ℕ} {w words : List Word} {x : Word} {X : Family B} {F : Ending B} {q n : ℕ} {put : B → A} → IsAt x words q n → Within D E p w (After x X) F q (drop q words) put → Within D E p w X F n (drop n words) put
word {D = D} {E = E} {p = p} {w = w} {words = words} {x = x} {X = X} {F = F} {q = q} {n = n} {put = put} at from =
    subst (λ z. Within D E p w X F z (drop n words) put) (sym at.next) (within_after (subst (λ z. Within D E p w (After x X) F q z put) at.here from))

head_after : {A : Type 0} {x : Word} {X : Family A} {q : ℕ} {t : A} {u : List Word} (r : List Word) → After x X q t u → head (u ++ r) ≡ Some x
head_after r (after d) = refl

-- it doesn't
pub missing : {A B : Type 0} {D : Family A} {E : Ending A} {p : ℕ} {w : List Word} {x : Word} {X : Family B} {F : Ending B} {q : ℕ} {m : List Word} {put : B → A} → Some' X → (head m ≡ Some x → ⊥) → Within D E p w (After x X) F q m put → Refuses D E p w q m
missing {x = x} {X = X} {F = F} {q = q} {m = m} some other from =
    let more = some (suc q) in
    from.refuses q m (record {
      front = [];
      cut = refl;
      place = omega arith;
      more = x ∷ more.1;
      whole = more.0;
      begun = after more.2;
      none = λ others u r t next eq d e. other (sym next ∙ ap head eq ∙ head_after r d);
    })

-- a part, and another that has the first's tree
both_sole : {A B : Type 0} {X : Family A} {Y : A → Family B} {F : Ending B} {G : Ending A} (P : B → List Word → Type 0) (q : ℕ) (a : A) (f1 f2 m rest : List Word) → Apart Y F G
    → ((others u r : List Word) (t : A) → head others ≡ head m → f1 ++ others ≡ u ++ r → X q t u → G t r → (t ≡ a) × (u ≡ f1))
    → m ≡ f2 ++ rest
    → ((others u r : List Word) (t : B) → head others ≡ head rest → f2 ++ others ≡ u ++ r → Y a (q + length f1) t u → F t r → P t (f1 ++ u))
    → (others u r : List Word) (t : B) → head others ≡ head rest → (f1 ++ f2) ++ others ≡ u ++ r → Both X Y q t u → F t r → P t u
both_sole {Y = Y} P q a f1 f2 m rest apart s1 mcut s2 others _ r t next eq (both {a = b} {u = u} {v = v} d d') e =
    let cut : f1 ++ (f2 ++ others) ≡ u ++ (v ++ r) = sym (append_assoc f1 f2 others) ∙ eq ∙ append_assoc u v r in
    let one : (b ≡ a) × (u ≡ f1) = s1 (f2 ++ others) u (v ++ r) b (head_front f2 rest others mcut next) cut d (apart b (q + length u) t v r d' e) in
    let tail : f2 ++ others ≡ v ++ r = append_cancel_left f1 _ _ (cut ∙ ap (λ z. z ++ (v ++ r)) one.1) in
    let moved : Y a (q + length f1) t v = subst (λ z. Y z (q + length f1) t v) one.0 (subst (λ z. Y b (q + length z) t v) one.1 d') in
    subst (λ z. P t (z ++ v)) (sym one.1) (s2 others v r t next tail moved e)

reads_both : {A B : Type 0} (X : Family A) (Y : A → Family B) (F : Ending B) (G : Ending A) (q : ℕ) (w : List Word) (a : A) (n : ℕ) (m : List Word) → Apart Y F G → Reads X G q w a n m → (t : B) (k : ℕ) (rest : List Word) → Reads (Y a) F n m t k rest → Reads (Both X Y) F q w t k rest
reads_both X Y F G q w a n m apart one t k rest two =
    let moved : Y a (q + length one.front) t two.front = subst (λ z. Y a z t two.front) one.place two.derived in
    record {
      front = one.front ++ two.front;
      cut = one.cut ∙ ap (λ z. one.front ++ z) two.cut ∙ sym (append_assoc one.front two.front rest);
      place = omega (arith, one.place, two.place, length-append one.front two.front);
      derived = both one.derived moved;
      sole = both_sole {Y = Y} (λ t' u. (t' ≡ t) × (u ≡ one.front ++ two.front)) q a one.front two.front m rest apart one.sole two.cut
          (λ others u r t' next eq d e. let h = two.sole others u r t' next eq (subst (λ z. Y a z t' u) (sym one.place) d) e in (h.0, ap (λ z. one.front ++ z) h.1));
    }

refuses_second : {A B : Type 0} (X : Family A) (Y : A → Family B) (F : Ending B) (G : Ending A) (q : ℕ) (w : List Word) (a : A) (n : ℕ) (m : List Word) → Apart Y F G → Reads X G q w a n m → (k : ℕ) (rest : List Word) → Refuses (Y a) F n m k rest → Refuses (Both X Y) F q w k rest
refuses_second X Y F G q w a n m apart one k rest two =
    let moved : Y a (q + length one.front) two.whole (two.front ++ two.more) = subst (λ z. Y a z two.whole (two.front ++ two.more)) one.place two.begun in
    record {
      front = one.front ++ two.front;
      cut = one.cut ∙ ap (λ z. one.front ++ z) two.cut ∙ sym (append_assoc one.front two.front rest);
      place = omega (arith, one.place, two.place, length-append one.front two.front);
      more = two.more;
      whole = two.whole;
      begun = subst (Both X Y q two.whole) (sym (append_assoc one.front two.front two.more)) (both one.derived moved);
      none = both_sole {Y = Y} (λ t' u. ⊥) q a one.front two.front m rest apart one.sole two.cut
          (λ others u r t' next eq d e. two.none others u r t' next eq (subst (λ z. Y a z t' u) (sym one.place) d) e);
    }

-- a part was read: what it doesn't take is the second's
pub part : {A B C : Type 0} {D : Family A} {E : Ending A} {p : ℕ} {w : List Word} {X : Family C} {Y : C → Family B} {F : Ending B} {G : Ending C} {q n : ℕ} {v m : List Word} {a : C} {put : B → A} → Apart Y F G → Reads X G q v a n m → Within D E p w (Both X Y) F q v put → Within D E p w (Y a) F n m put
part {X = X} {Y = Y} {F = F} {G = G} {q = q} {n = n} {v = v} {m = m} {a = a} apart one from = record {
  reads = λ t k rest h. from.reads t k rest (reads_both X Y F G q v a n m apart one t k rest h);
  refuses = λ k rest h. from.refuses k rest (refuses_second X Y F G q v a n m apart one k rest h);
}

first_none : {A B : Type 0} {X : Family A} {Y : A → Family B} {F : Ending B} {G : Ending A} (q : ℕ) (f m : List Word) → Apart Y F G → ((others u r : List Word) (t : A) → head others ≡ head m → f ++ others ≡ u ++ r → X q t u → G t r → ⊥) → (others u r : List Word) (t : B) → head others ≡ head m → f ++ others ≡ u ++ r → Both X Y q t u → F t r → ⊥
first_none q f m apart none others _ r t next eq (both {a = a} {u = u} {v = v} d d') e =
    none others u (v ++ r) a next (eq ∙ append_assoc u v r) d (apart a (q + length u) t v r d' e)

-- a part was refused
pub refused : {A B C : Type 0} {D : Family A} {E : Ending A} {p : ℕ} {w : List Word} {X : Family C} {Y : C → Family B} {F : Ending B} {G : Ending C} {q n : ℕ} {v m : List Word} {put : B → A} → Completes Y → Apart Y F G → Refuses X G q v n m → Within D E p w (Both X Y) F q v put → Refuses D E p w n m
refused {X = X} {Y = Y} {q = q} {n = n} {m = m} completes apart one from =
    let more = completes one.whole (q + length (one.front ++ one.more)) in
    from.refuses n m (record {
      front = one.front;
      cut = one.cut;
      place = one.place;
      more = one.more ++ more.1;
      whole = more.0;
      begun = subst (Both X Y q more.0) (append_assoc one.front one.more more.1) (both one.begun more.2);
      none = first_none {Y = Y} q one.front m apart one.none;
    })

-- what is to be read is a part, whose tree is put into a node
made_sole : {A B : Type 0} {X : Family A} {f : A → B} (F : Ending B) (P : B → List Word → Type 0) (q : ℕ) (front m : List Word) → ((others u r : List Word) (t : A) → head others ≡ head m → front ++ others ≡ u ++ r → X q t u → F (f t) r → P (f t) u) → (others u r : List Word) (t : B) → head others ≡ head m → front ++ others ≡ u ++ r → Made f X q t u → F t r → P t u
made_sole F P q front m sole others u r _ next eq (made {t = t} d) e = sole others u r t next eq d e

pub node : {A B C : Type 0} {D : Family A} {E : Ending A} {p : ℕ} {w : List Word} {X : Family C} {f : C → B} {F : Ending B} {q : ℕ} {m : List Word} {put : B → A} → Within D E p w (Made f X) F q m put → Within D E p w X (λ a. F (f a)) q m (λ a. put (f a))
node {X = X} {f = f} {F = F} {q = q} from = record {
  reads = λ t n rest h. from.reads (f t) n rest (record {
    front = h.front;
    cut = h.cut;
    place = h.place;
    derived = made h.derived;
    sole = made_sole F (λ t' u. (t' ≡ f t) × (u ≡ h.front)) q h.front rest (λ others u r t' next eq d e. let k = h.sole others u r t' next eq d e in (ap f k.0, k.1));
  });
  refuses = λ n rest h. from.refuses n rest (record {
    front = h.front;
    cut = h.cut;
    place = h.place;
    more = h.more;
    whole = f h.whole;
    begun = made h.begun;
    none = made_sole F (λ t' u. ⊥) q h.front rest h.none;
  });
}

done_sole : {A : Type 0} {tree t : A} {q : ℕ} {u : List Word} → Done tree q t u → (t ≡ tree) × (u ≡ [])
done_sole done = (refl, refl)

-- all is read
pub all : {A B : Type 0} {D : Family A} {E : Ending A} {p : ℕ} {w : List Word} {t : B} {F : Ending B} {q : ℕ} {m : List Word} {put : B → A} → Within D E p w (Done t) F q m put → Reads D E p w (put t) q m
all {t = t} {q = q} {m = m} from = from.reads t q m (record {
  front = [];
  cut = refl;
  place = omega arith;
  derived = done;
  sole = λ others u r t' next eq d e. done_sole d;
})

-- the last part was read, or refused
pub last : {A B : Type 0} {D : Family A} {E : Ending A} {p : ℕ} {w : List Word} {X : Family B} {F : Ending B} {q n : ℕ} {v m : List Word} {t : B} {put : B → A} → Reads X F q v t n m → Within D E p w X F q v put → Reads D E p w (put t) n m
last {n = n} {m = m} {t = t} one from = from.reads t n m one

pub last_refused : {A B : Type 0} {D : Family A} {E : Ending A} {p : ℕ} {w : List Word} {X : Family B} {F : Ending B} {q n : ℕ} {v m : List Word} {put : B → A} → Refuses X F q v n m → Within D E p w X F q v put → Refuses D E p w n m
last_refused {n = n} {m = m} one from = from.refuses n m one

-- no line begins with the next word
pub nothing : {A B : Type 0} {D : Family A} {E : Ending A} {p : ℕ} {w : List Word} {X : Family B} {F : Ending B} {q : ℕ} {m : List Word} {put : B → A} → Some' X → ((t : B) (u r : List Word) → head (u ++ r) ≡ head m → X q t u → F t r → ⊥) → Within D E p w X F q m put → Refuses D E p w q m
nothing {q = q} {m = m} some none from =
    let more = some q in
    from.refuses q m (record {
      front = [];
      cut = refl;
      place = omega arith;
      more = more.1;
      whole = more.0;
      begun = more.2;
      none = λ others u r t next eq d e. none t u r (ap head (sym eq) ∙ next) d e;
    })

-- the words behind the first
abbrev pub tail : List Word → List Word
tail [] = []
tail (x ∷ v) = v

pub cons_of : (z : List Word) (x : Word) → head z ≡ Some x → z ≡ x ∷ tail z
cons_of [] x e = absurd cc
cons_of (y ∷ v) x e = let h : y ≡ x = cc in ap (λ z. z ∷ v) h

-- what is to be read is a line of the nonterminal, by the next word, which is x
pub line_at : {A B : Type 0} {D : Family A} {E : Ending A} {p : ℕ} {w : List Word} {X : Family B} {F : Ending B} {q : ℕ} {m : List Word} {put : B → A} (x : Word) (L : Family B) → head m ≡ Some x → Into L X q → ((t : B) (u r v : List Word) → u ++ r ≡ x ∷ v → X q t u → F t r → L q t u) → Within D E p w X F q m put → Within D E p w L F q m put
line_at x L at into back from = line L into (λ t u r e d f. back t u r (tail (u ++ r)) (cons_of (u ++ r) x (e ∙ at)) d f) from

-- the first part of what is to be read is a line
first_into : {A B : Type 0} {L X : Family A} (Y : A → Family B) (q : ℕ) → Into L X q → Into (Both L Y) (Both X Y) q
first_into Y q into t _ (both d e) = both (into _ _ d) e

first_back : {A B : Type 0} {L X : Family A} {Y : A → Family B} {F : Ending B} {G : Ending A} (q : ℕ) (m : List Word) → Apart Y F G → Back L X G q m → Back (Both L Y) (Both X Y) F q m
first_back q m apart back t _ r e (both {a = a} {u = u} {v = v} d d') f =
    both (back a u (v ++ r) (ap head (sym (append_assoc u v r)) ∙ e) d (apart a (q + length u) t v r d' f)) d'

pub first_line : {A B C : Type 0} {D : Family A} {E : Ending A} {p : ℕ} {w : List Word} {X : Family C} {Y : C → Family B} {F : Ending B} {G : Ending C} {q : ℕ} {m : List Word} {put : B → A} (L : Family C) → Apart Y F G → Into L X q → Back L X G q m → Within D E p w (Both X Y) F q m put → Within D E p w (Both L Y) F q m put
first_line {Y = Y} {q = q} {m = m} L apart into back from = line (Both L Y) (first_into Y q into) (first_back q m apart back) from

pub first_line_at : {A B C : Type 0} {D : Family A} {E : Ending A} {p : ℕ} {w : List Word} {X : Family C} {Y : C → Family B} {F : Ending B} {G : Ending C} {q : ℕ} {m : List Word} {put : B → A} (x : Word) (L : Family C) → Apart Y F G → head m ≡ Some x → Into L X q → ((t : C) (u r v : List Word) → u ++ r ≡ x ∷ v → X q t u → G t r → L q t u) → Within D E p w (Both X Y) F q m put → Within D E p w (Both L Y) F q m put
first_line_at x L apart at into back from = first_line L apart into (λ t u r e d g. back t u r (tail (u ++ r)) (cons_of (u ++ r) x (e ∙ at)) d g) from

-- parts in parts, one after another
flat_into : {A B C : Type 0} (X : Family A) (Y : A → Family B) (Z : B → Family C) (q : ℕ) → Into (Both X (λ a. Both (Y a) Z)) (Both (Both X Y) Z) q
flat_into X Y Z q t _ (both {a = a} {u = u} d (both {a = b} {u = v} {v = w} e f)) =
    subst (Both (Both X Y) Z q t) (append_assoc u v w) (both (both d e) (subst (λ k. Z b k t w) (omega (arith, length-append u v)) f))

flat_back : {A B C : Type 0} (X : Family A) (Y : A → Family B) (Z : B → Family C) (q : ℕ) → Into (Both (Both X Y) Z) (Both X (λ a. Both (Y a) Z)) q
flat_back X Y Z q t _ (both {a = b} {v = w} (both {u = u} {v = v} d e) f) =
    subst (Both X (λ a. Both (Y a) Z) q t) (sym (append_assoc u v w)) (both d (both e (subst (λ k. Z b k t w) (omega (arith, length-append u v)) f)))

pub flat : {A B C C' : Type 0} {D : Family A} {E : Ending A} {p : ℕ} {w : List Word} {X : Family C} {Y : C → Family C'} {Z : C' → Family B} {F : Ending B} {q : ℕ} {m : List Word} {put : B → A} → Within D E p w (Both (Both X Y) Z) F q m put → Within D E p w (Both X (λ a. Both (Y a) Z)) F q m put
flat {X = X} {Y = Y} {Z = Z} {q = q} from = line (Both X (λ a. Both (Y a) Z)) (flat_into X Y Z q) (λ t u r e d f. flat_back X Y Z q t u d) from

flat_made_into : {A B C : Type 0} (f : A → B) (X : Family A) (Z : B → Family C) (q : ℕ) → Into (Both X (λ a. Z (f a))) (Both (Made f X) Z) q
flat_made_into f X Z q t _ (both d e) = both (made d) e

flat_made_back : {A B C : Type 0} (f : A → B) (X : Family A) (Z : B → Family C) (q : ℕ) → Into (Both (Made f X) Z) (Both X (λ a. Z (f a))) q
flat_made_back f X Z q t _ (both (made d) e) = both d e

pub flat_made : {A B C C' : Type 0} {D : Family A} {E : Ending A} {p : ℕ} {w : List Word} {f : C → C'} {X : Family C} {Z : C' → Family B} {F : Ending B} {q : ℕ} {m : List Word} {put : B → A} → Within D E p w (Both (Made f X) Z) F q m put → Within D E p w (Both X (λ a. Z (f a))) F q m put
flat_made {f = f} {X = X} {Z = Z} {q = q} from = line (Both X (λ a. Z (f a))) (flat_made_into f X Z q) (λ t u r e d g. flat_made_back f X Z q t u d) from

flat_after_into : {A B : Type 0} (x : Word) (X : Family A) (Z : A → Family B) (q : ℕ) → Into (After x (Both X Z)) (Both (After x X) Z) q
flat_after_into x X Z q t _ (after (both {a = a} {u = u} {v = v} d e)) = both (after d) (subst (λ k. Z a k t v) (omega arith) e)

flat_after_back : {A B : Type 0} (x : Word) (X : Family A) (Z : A → Family B) (q : ℕ) → Into (Both (After x X) Z) (After x (Both X Z)) q
flat_after_back x X Z q t _ (both {a = a} {v = v} (after d) e) = after (both d (subst (λ k. Z a k t v) (omega arith) e))

pub flat_after : {A B C : Type 0} {D : Family A} {E : Ending A} {p : ℕ} {w : List Word} {x : Word} {X : Family C} {Z : C → Family B} {F : Ending B} {q : ℕ} {m : List Word} {put : B → A} → Within D E p w (Both (After x X) Z) F q m put → Within D E p w (After x (Both X Z)) F q m put
flat_after {x = x} {X = X} {Z = Z} {q = q} from = line (After x (Both X Z)) (flat_after_into x X Z q) (λ t u r e d g. flat_after_back x X Z q t u d) from

flat_done_into : {A B : Type 0} (a : A) (Z : A → Family B) (q : ℕ) → Into (Z a) (Both (Done a) Z) q
flat_done_into a Z q t u d = both done (subst (λ k. Z a k t u) (omega arith) d)

flat_done_back : {A B : Type 0} (a : A) (Z : A → Family B) (q : ℕ) → Into (Both (Done a) Z) (Z a) q
flat_done_back a Z q t _ (both {v = v} done e) = subst (λ k. Z a k t v) (omega arith) e

pub flat_done : {A B C : Type 0} {D : Family A} {E : Ending A} {p : ℕ} {w : List Word} {a : C} {Z : C → Family B} {F : Ending B} {q : ℕ} {m : List Word} {put : B → A} → Within D E p w (Both (Done a) Z) F q m put → Within D E p w (Z a) F q m put
flat_done {a = a} {Z = Z} {q = q} from = line (Z a) (flat_done_into a Z q) (λ t u r e d g. flat_done_back a Z q t u d) from

-- What is to be read is a line of the nonterminal, by the next two words: no derivation of the line is without a word,
-- and one begins with the first.
second_more : (f m others : List Word) → (f ≡ [] → ⊥) → head others ≡ head m → head (tail (f ++ others)) ≡ head (tail (f ++ m))
second_more [] m others full next = absurd (full refl)
second_more (x ∷ f) m others full next = head_more f m others next

empty_or : (f : List Word) → (f ≡ []) ⊎ (f ≡ [] → ⊥)
empty_or [] = inl refl
empty_or (x ∷ f) = inr (λ e. cc e)

pub record Opens {A : Type 0} (L : Family A) (E : Ending A) (q : ℕ) (m : List Word) : Type 0 where
  pub full : (t : A) → L q t [] → ⊥
  pub tree : A
  pub words : List Word
  pub starts : head words ≡ head m
  pub derived : L q tree words
  pub ends : E tree []

abbrev pub BackTwo : {A : Type 0} → Family A → Family A → Ending A → ℕ → List Word → Type 0
BackTwo {A} L D E q m = (t : A) (u r : List Word) → head (u ++ r) ≡ head m → head (tail (u ++ r)) ≡ head (tail m) → D q t u → E t r → L q t u

two_reads : {A : Type 0} (L D : Family A) (E : Ending A) (p : ℕ) (w : List Word) → Into L D p → BackTwo L D E p w → Opens L E p w → (t : A) (n : ℕ) (m : List Word) → Reads L E p w t n m → Reads D E p w t n m
two_reads L D E p w into back opens t n m one =
    let full : one.front ≡ [] → ⊥ = λ e. opens.full t (subst (L p t) e one.derived) in
    record {
      front = one.front;
      cut = one.cut;
      place = one.place;
      derived = into t one.front one.derived;
      sole = λ others u r t' next eq d e. one.sole others u r t' next eq (back t' u r (ap head (sym eq) ∙ head_front one.front m others one.cut next) (ap (λ z. head (tail z)) (sym eq) ∙ second_more one.front m others full next ∙ ap (λ z. head (tail z)) (sym one.cut)) d e) e;
    }

not_empty : {A : Type 0} (L : Family A) (E : Ending A) (p : ℕ) (w : List Word) → Opens L E p w → (n : ℕ) (m : List Word) (one : Refuses L E p w n m) → one.front ≡ [] → ⊥
not_empty L E p w opens n m one e =
    let same : w ≡ m = one.cut ∙ ap (λ z. z ++ m) e in
    one.none opens.words opens.words [] opens.tree (opens.starts ∙ ap head same) (ap (λ z. z ++ opens.words) e ∙ sym (append-nil opens.words)) opens.derived opens.ends

two_refuses : {A : Type 0} (L D : Family A) (E : Ending A) (p : ℕ) (w : List Word) → Into L D p → BackTwo L D E p w → Opens L E p w → (n : ℕ) (m : List Word) → Refuses L E p w n m → Refuses D E p w n m
two_refuses L D E p w into back opens n m one =
    let full = not_empty L E p w opens n m one in
    record {
      front = one.front;
      cut = one.cut;
      place = one.place;
      more = one.more;
      whole = one.whole;
      begun = into one.whole (one.front ++ one.more) one.begun;
      none = λ others u r t' next eq d e. one.none others u r t' next eq (back t' u r (ap head (sym eq) ∙ head_front one.front m others one.cut next) (ap (λ z. head (tail z)) (sym eq) ∙ second_more one.front m others full next ∙ ap (λ z. head (tail z)) (sym one.cut)) d e) e;
    }

pub line_two : {A B : Type 0} {D : Family A} {E : Ending A} {p : ℕ} {w : List Word} {X : Family B} {F : Ending B} {q : ℕ} {m : List Word} {put : B → A} (L : Family B) → Into L X q → BackTwo L X F q m → Opens L F q m → Within D E p w X F q m put → Within D E p w L F q m put
line_two {X = X} {F = F} {q = q} {m = m} L into back opens from = record {
  reads = λ t n rest h. from.reads t n rest (two_reads L X F q m into back opens t n rest h);
  refuses = λ n rest h. from.refuses n rest (two_refuses L X F q m into back opens n rest h);
}

-- a part and the punctuator that closes it, taken together
closed_into : {A B : Type 0} (x : Word) (X : Family A) (Y : A → Family B) (q : ℕ) → Into (Both (Both X (λ a. After x (Done a))) Y) (Both X (λ a. After x (Y a))) q
closed_into x X Y q t _ (both {v = w} (both {a = a} {u = u} d (after done)) f) =
    subst (Both X (λ a. After x (Y a)) q t) (sym (append_assoc u (x ∷ []) w)) (both d (after (subst (λ k. Y a k t w) (omega (arith, length-append u (x ∷ []))) f)))

closed_back : {A B : Type 0} (x : Word) (X : Family A) (Y : A → Family B) (q : ℕ) → Into (Both X (λ a. After x (Y a))) (Both (Both X (λ a. After x (Done a))) Y) q
closed_back x X Y q t _ (both {a = a} {u = u} d (after {u = w} f)) =
    subst (Both (Both X (λ a. After x (Done a))) Y q t) (append_assoc u (x ∷ []) w) (both (both d (after done)) (subst (λ k. Y a k t w) (omega (arith, length-append u (x ∷ []))) f))

pub as_closed : {A B C : Type 0} {D : Family A} {E : Ending A} {p : ℕ} {w : List Word} {x : Word} {X : Family C} {Y : C → Family B} {F : Ending B} {q : ℕ} {m : List Word} {put : B → A} → Within D E p w (Both X (λ a. After x (Y a))) F q m put → Within D E p w (Both (Both X (λ a. After x (Done a))) Y) F q m put
as_closed {x = x} {X = X} {Y = Y} {q = q} from = line (Both (Both X (λ a. After x (Done a))) Y) (closed_into x X Y q) (λ t u r e d f. closed_back x X Y q t u d) from

-- the same tree, put otherwise
pub reput : {A B : Type 0} {D : Family A} {E : Ending A} {p : ℕ} {w : List Word} {X : Family B} {F : Ending B} {q : ℕ} {m : List Word} {f g : B → A} → ((t : B) → f t ≡ g t) → Within D E p w X F q m f → Within D E p w X F q m g
reput {D = D} {E = E} {p = p} {w = w} same from = record {
  reads = λ t n rest h. subst (λ z. Reads D E p w z n rest) (same t) (from.reads t n rest h);
  refuses = λ n rest h. from.refuses n rest h;
}
