-- Lines that hold under a condition on their first word, and endings.
use Rattle.std.proofs.Common.{◌≡◌, ℕ, List, [], ◌∷◌, ◌++◌, sym, refl, ap, ◌∙◌, subst}
use Rattle.std.specs.Prelude.{Option, Some, None}
use Rattle.std.proofs.lemmas.List.{append-nil}
use Rattle.im_word.specs.Words.{Word}
use Rattle.im_parse_core.specs.Reads.{Family, Ending, head, Within}
use Rattle.im_parse_core.proofs.Steps.{Back, head_front}

-- what may stand behind it, may stand behind it here
pub ends : {A B : Type 0} {D : Family A} {E : Ending A} {p : ℕ} {w : List Word} {X : Family B} {F : Ending B} {q : ℕ} {m : List Word} {put : B → A} (G : Ending B) → ((t : B) (r : List Word) → F t r → G t r) → Within D E p w X F q m put → Within D E p w X G q m put
ends G more from = record {
  reads = λ t n rest h. from.reads t n rest (record {
    front = h.front;
    cut = h.cut;
    place = h.place;
    derived = h.derived;
    sole = λ others u r t' next eq d e. h.sole others u r t' next eq d (more t' r e);
  });
  refuses = λ n rest h. from.refuses n rest (record {
    front = h.front;
    cut = h.cut;
    place = h.place;
    more = h.more;
    whole = h.whole;
    begun = h.begun;
    none = λ others u r t' next eq d e. h.none others u r t' next eq d (more t' r e);
  });
}

-- the derivations of L whose first word is so are of D
abbrev pub IntoWhere : {A : Type 0} → Family A → Family A → (Option Word → Type 0) → ℕ → Type 0
IntoWhere {A} L D C q = (t : A) (u : List Word) → C (head u) → L q t u → D q t u

back_sole : {A : Type 0} (L X : Family A) {F : Ending A} {q : ℕ} {m : List Word} (P : A → List Word → Type 0) (f rest : List Word) → m ≡ f ++ rest → Back L X F q m → ((others u r : List Word) (t : A) → head others ≡ head rest → f ++ others ≡ u ++ r → L q t u → F t r → P t u) → (others u r : List Word) (t : A) → head others ≡ head rest → f ++ others ≡ u ++ r → X q t u → F t r → P t u
back_sole L X P f rest cut back sole others u r t next eq d e = sole others u r t next eq (back t u r (ap head (sym eq) ∙ head_front f rest others cut next) d e) e

where_front : (C : Option Word → Type 0) (w f m : List Word) → (f ≡ [] → C None) → C (head w) → w ≡ f ++ m → C (head f)
where_front C w [] m none here cut = none refl
where_front C w (x ∷ f) m none here cut = subst C (ap head cut) here

-- something of a line, whose first word is so
pub record SomeWhere {A : Type 0} (L : Family A) (C : Option Word → Type 0) (q : ℕ) : Type 0 where
  pub tree : A
  pub words : List Word
  pub derived : L q tree words
  pub so : C (head words)

where_begun : {A : Type 0} {L : Family A} (X : Family A) (C : Option Word → Type 0) {q : ℕ} (w f m more : List Word) (whole : A) → IntoWhere L X C q → C (head w) → SomeWhere L C q → w ≡ f ++ m → L q whole (f ++ more) → (v : List Word) × (t : A) × X q t (f ++ v)
where_begun X C w [] m more whole into here some cut d = (some.words, some.tree, into some.tree some.words some.so some.derived)
where_begun X C w (x ∷ f) m more whole into here some cut d = (more, whole, into whole ((x ∷ f) ++ more) (subst C (ap head cut) here) d)

-- the next word is so, and the end of all words too
pub line_where : {A B : Type 0} {D : Family A} {E : Ending A} {p : ℕ} {w : List Word} {X : Family B} {F : Ending B} {q : ℕ} {m : List Word} {put : B → A} (L : Family B) (C : Option Word → Type 0) → IntoWhere L X C q → Back L X F q m → ((t : B) → L q t [] → C None) → C (head m) → SomeWhere L C q → Within D E p w X F q m put → Within D E p w L F q m put
line_where {X = X} {q = q} {m = m} L C into back none here some from = record {
  reads = λ t n rest h. from.reads t n rest (record {
    front = h.front;
    cut = h.cut;
    place = h.place;
    derived = into t h.front (where_front C m h.front rest (λ e. none t (subst (L q t) e h.derived)) here h.cut) h.derived;
    sole = back_sole L X (λ t' u. (t' ≡ t) × (u ≡ h.front)) h.front rest h.cut back h.sole;
  });
  refuses = λ n rest h. let b = where_begun X C m h.front rest h.more h.whole into here some h.cut h.begun in from.refuses n rest (record {
    front = h.front;
    cut = h.cut;
    place = h.place;
    more = b.0;
    whole = b.1;
    begun = b.2;
    none = back_sole L X (λ t' u. ⊥) h.front rest h.cut back h.none;
  });
}

-- a derivation of a line that begins with the next word
pub record Starts {A : Type 0} (L : Family A) (F : Ending A) (q : ℕ) (m : List Word) : Type 0 where
  pub tree : A
  pub first : Word
  pub others : List Word
  pub starts : Some first ≡ head m
  pub derived : L q tree (first ∷ others)
  pub ends : F tree []

started : {A : Type 0} {L : Family A} {F : Ending A} {q : ℕ} {m : List Word} (C : Option Word → Type 0) (f rest : List Word) → m ≡ f ++ rest → Starts L F q m → C (head m)
    → ((others u r : List Word) (t : A) → head others ≡ head rest → f ++ others ≡ u ++ r → L q t u → F t r → u ≡ f) → C (head f)
started C [] rest cut s here sole =
    let h = sole (s.first ∷ s.others) (s.first ∷ s.others) [] s.tree (s.starts ∙ ap head cut) (sym (append-nil (s.first ∷ s.others))) s.derived s.ends in
    absurd (let e : s.first ∷ s.others ≡ [] = h in cc)
started C (x ∷ f) rest cut s here sole = subst C (ap head cut) here

front_full : {A : Type 0} {L : Family A} {F : Ending A} {q : ℕ} {m : List Word} (f rest : List Word) → m ≡ f ++ rest → Starts L F q m → ((others u r : List Word) (t : A) → head others ≡ head rest → f ++ others ≡ u ++ r → L q t u → F t r → ⊥) → f ≡ [] → ⊥
front_full f rest cut s none e =
    none (s.first ∷ s.others) (s.first ∷ s.others) [] s.tree (s.starts ∙ ap head (cut ∙ ap (λ z. z ++ rest) e)) (ap (λ z. z ++ (s.first ∷ s.others)) e ∙ sym (append-nil (s.first ∷ s.others))) s.derived s.ends

started_more : (C : Option Word → Type 0) (f more : List Word) → C (head f) → (f ≡ [] → ⊥) → C (head (f ++ more))
started_more C [] more so full = absurd (full refl)
started_more C (x ∷ f) more so full = so

-- the next word is so, and begins a derivation
pub line_starts : {A B : Type 0} {D : Family A} {E : Ending A} {p : ℕ} {w : List Word} {X : Family B} {F : Ending B} {q : ℕ} {m : List Word} {put : B → A} (L : Family B) (C : Option Word → Type 0) → IntoWhere L X C q → Back L X F q m → C (head m) → Starts L F q m → Within D E p w X F q m put → Within D E p w L F q m put
line_starts {X = X} {F = F} {m = m} L C into back here s from = record {
  reads = λ t n rest h. from.reads t n rest (record {
    front = h.front;
    cut = h.cut;
    place = h.place;
    derived = into t h.front (started {L = L} {F = F} C h.front rest h.cut s here (λ others u r t' next eq d e. (h.sole others u r t' next eq d e).1)) h.derived;
    sole = back_sole L X (λ t' u. (t' ≡ t) × (u ≡ h.front)) h.front rest h.cut back h.sole;
  });
  refuses = λ n rest h. from.refuses n rest (record {
    front = h.front;
    cut = h.cut;
    place = h.place;
    more = h.more;
    whole = h.whole;
    begun = into h.whole (h.front ++ h.more) (started_more C h.front h.more (started {L = L} {F = F} C h.front rest h.cut s here (λ others u r t' next eq d e. absurd (h.none others u r t' next eq d e))) (front_full h.front rest h.cut s h.none)) h.begun;
    none = back_sole L X (λ t' u. ⊥) h.front rest h.cut back h.none;
  });
}
