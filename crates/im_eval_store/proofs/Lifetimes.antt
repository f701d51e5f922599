-- Activations that begin and end.
use Rattle.std.proofs.Common.{◌≡◌, ℕ, zero, suc, ◌<◌, ◌≤◌, ◌==◌, List, [], ◌∷◌, ◌++◌, true, false, refl, sym, ap, ◌∙◌, subst, arith}
use Rattle.std.specs.Prelude.{Some, None, slice_get, if◌then◌else◌}
use Rattle.std.specs.List.{remove}
use Rattle.std.proofs.lemmas.Bool.{eq-eqb, eqb-true}
use Rattle.im_store.specs.Objects.{Store, ends}
use Rattle.im_eval_store.specs.declared.memory.Activation.{Activation}
use Rattle.im_eval_store.specs.Living.{live_in, activation_at, live_at, LivesAs, Ascends, IsHeld}
use Rattle.im_eval_store.specs.Changes.{IsBegun}
use Rattle.im_eval_store.proofs.Finding.{if-true, if-false, by-test, differs, at_least}
use Rattle.im_eval_store.proofs.Revised.{lives-again}

-- one activation more

pub missing : (from last : ℕ) (all : List Activation) (number : ℕ) → Ascends from last all → last < number → activation_at all number ≡ None
missing from last [] number h lt = refl
missing from last (b ∷ bs) number h lt =
    let le = most (suc b.number) last bs h.1 in
    if-false (b.number == number) (Some b) (activation_at bs number) (differs b.number number (omega arith)) ∙ missing (suc b.number) last bs number h.1 lt
  where
    most : (from last : ℕ) (all : List Activation) → Ascends from last all → from ≤ suc last
    most from last [] h = h
    most from last (b ∷ bs) h =
        let r = most (suc b.number) last bs h.1 in
        let l = h.0 in
        omega arith

last-one : (all : List Activation) (a : Activation) (number : ℕ) → a.number ≡ number → activation_at all number ≡ None → activation_at (all ++ a ∷ []) number ≡ Some a
last-one [] a number e h = if-true (a.number == number) (Some a) None (eq-eqb a.number number e)
last-one (b ∷ bs) a number e h =
    by-test (b.number == number)
    (λ t. absurd (let some : Some b ≡ None = sym (if-true (b.number == number) (Some b) (activation_at bs number) t) ∙ h in cc))
    (λ t. if-false (b.number == number) (Some b) (activation_at (bs ++ a ∷ []) number) t
    ∙ last-one bs a number e (sym (if-false (b.number == number) (Some b) (activation_at bs number) t) ∙ h))

before-last : (all : List Activation) (a : Activation) (number : ℕ) → (a.number == number) ≡ false → activation_at (all ++ a ∷ []) number ≡ activation_at all number
before-last [] a number e = if-false (a.number == number) (Some a) None e
before-last (b ∷ bs) a number e = ap (λ r. if b.number == number then Some b else r) (before-last bs a number e)

ascends-more : (from last : ℕ) (all : List Activation) (a : Activation) → Ascends from last all → last < a.number → Ascends from a.number (all ++ a ∷ [])
ascends-more from last [] a h lt = (omega arith, omega arith)
ascends-more from last (b ∷ bs) a h lt = (h.0, ascends-more (suc b.number) last bs a h.1 lt)

flip : (m n : ℕ) → (m == n) ≡ false → (n == m) ≡ false
flip m n e =
    by-test (n == m)
    (λ t. absurd (let both : true ≡ false = sym (eq-eqb m n (sym (eqb-true n m t))) ∙ e in cc))
    (λ t. t)

pub pushed : (all : List Activation) (a : Activation) (last : ℕ) (store new : Store) → IsHeld all last store → IsBegun a last store new → IsHeld (all ++ a ∷ []) a.number new
pushed all a last store new h b = record {
  ordered = ascends-more 0 last all a h.ordered b.later;
  objects = λ q.
      by-test (q.activation == a.number)
      (λ t.
      let e = eqb-true q.activation a.number t in
      subst (λ r. LivesAs (live_in r q) (new.shape q) (new.values q))
      (sym (last-one all a q.activation (sym e) (missing 0 last all q.activation h.ordered (let l = b.later in omega arith))))
      (b.own q e))
      (λ t.
      let same = b.before q t in
      lives-again (live_at all q) (live_at (all ++ a ∷ []) q) (store.shape q) (new.shape q) (store.values q) (new.values q)
      (ap (λ r. live_in r q) (before-last all a q.activation (flip q.activation a.number t))) same.0 same.1 (h.objects q));
}

-- one activation less

early : (from last : ℕ) (all : List Activation) (number : ℕ) → Ascends from last all → number < from → activation_at all number ≡ None
early from last [] number h lt = refl
early from last (b ∷ bs) number h lt =
    let l = h.0 in
    let apart : (b.number == number) ≡ false = flip number b.number (differs number b.number (omega arith)) in
    if-false (b.number == number) (Some b) (activation_at bs number) apart ∙ early (suc b.number) last bs number h.1 (omega arith)

weaker : (from low last : ℕ) (all : List Activation) → low ≤ from → Ascends from last all → Ascends low last all
weaker from low last [] le h = omega arith
weaker from low last (b ∷ bs) le h = let l = h.0 in (omega arith, h.1)

removed-gone : (from last : ℕ) (all : List Activation) (l : ℕ) (a : Activation) → Ascends from last all → slice_get all l ≡ Some a → activation_at (remove all l) a.number ≡ None
removed-gone from last [] l a h e = absurd (cc)
removed-gone from last (b ∷ bs) zero a h e =
    let same : b ≡ a = cc in
    ap (λ (x : Activation). activation_at bs x.number) (sym same) ∙ early (suc b.number) last bs b.number h.1 (omega arith)
removed-gone from last (b ∷ bs) (suc l) a h e =
    let le = at_least (suc b.number) last bs l a h.1 e in
    if-false (b.number == a.number) (Some b) (activation_at (remove bs l) a.number) (differs b.number a.number (omega arith)) ∙ removed-gone (suc b.number) last bs l a h.1 e

removed-other : (all : List Activation) (l : ℕ) (a : Activation) (number : ℕ) → slice_get all l ≡ Some a → (a.number == number) ≡ false → activation_at (remove all l) number ≡ activation_at all number
removed-other [] l a number e d = absurd (cc)
removed-other (b ∷ bs) zero a number e d =
    let same : b ≡ a = cc in
    sym (if-false (b.number == number) (Some b) (activation_at bs number) (ap (λ (x : Activation). x.number == number) same ∙ d))
removed-other (b ∷ bs) (suc l) a number e d =
    ap (λ r. if b.number == number then Some b else r) (removed-other bs l a number e d)

removed-ordered : (from last : ℕ) (all : List Activation) (l : ℕ) (a : Activation) → Ascends from last all → slice_get all l ≡ Some a → Ascends from last (remove all l)
removed-ordered from last [] l a h e = absurd (cc)
removed-ordered from last (b ∷ bs) zero a h e = let l = h.0 in weaker (suc b.number) from last bs (omega arith) h.1
removed-ordered from last (b ∷ bs) (suc l) a h e = (h.0, removed-ordered (suc b.number) last bs l a h.1 e)

-- what is held once no activation of that number is
ended : (all rest : List Activation) (number last : ℕ) (store : Store) → IsHeld all last store → Ascends 0 last rest → activation_at rest number ≡ None
    → ((m : ℕ) → (number == m) ≡ false → activation_at rest m ≡ activation_at all m) → IsHeld rest last (ends store number)
ended all rest number last store h o none same = record {
  ordered = o;
  objects = λ q.
      by-test (q.activation == number)
      (λ t.
      let e = eqb-true q.activation number t in
      let dead : live_at rest q ≡ None = ap (λ r. live_in r q) (ap (activation_at rest) e ∙ none) in
      subst (λ r. LivesAs r ((ends store number).shape q) (store.values q)) (sym dead)
      (subst (λ w. LivesAs None w (store.values q)) (sym (if-true (q.activation == number) None (store.shape q) t)) tt))
      (λ t.
      lives-again (live_at all q) (live_at rest q) (store.shape q) ((ends store number).shape q) (store.values q) (store.values q)
      (ap (λ r. live_in r q) (same q.activation (flip q.activation number t)))
      (if-false (q.activation == number) None (store.shape q) t) (λ i. refl) (h.objects q));
}

pub removed : (all : List Activation) (l : ℕ) (a : Activation) (last : ℕ) (store : Store) → IsHeld all last store → slice_get all l ≡ Some a → IsHeld (remove all l) last (ends store a.number)
removed all l a last store h e =
    ended all (remove all l) a.number last store h (removed-ordered 0 last all l a h.ordered e) (removed-gone 0 last all l a h.ordered e) (λ m d. removed-other all l a m e d)

pub unended : (all : List Activation) (number last : ℕ) (store : Store) → IsHeld all last store → activation_at all number ≡ None → IsHeld all last (ends store number)
unended all number last store h e = ended all all number last store h h.ordered e (λ m d. refl)
