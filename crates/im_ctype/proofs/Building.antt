-- Lists built in order.
use Rattle.std.proofs.Common.{◌≡◌, ℕ, zero, suc, ◌+◌, ◌<◌, List, [], ◌∷◌, ◌++◌, length, get_or, subst, refl, sym, ap, ◌∙◌, arith, append_assoc, length-append, append-nil}
use Rattle.std.proofs.Math.Seq.{get_or-append_seam}
use Rattle.std.proofs.lemmas.List.{get_or_append_left}
use Rattle.im_ctype.specs.Built.{built_from, built}

module _ {A B : Type 0} (build : List B → A → B) where
  pub length-built_from : (done : List B) (xs : List A) → length (built_from build done xs) ≡ length done + length xs
  length-built_from done [] = omega arith
  length-built_from done (x ∷ xs) =
      let h = length-built_from (done ++ build done x ∷ []) xs in
      let k : length (done ++ build done x ∷ []) ≡ length done + 1 = length-append done (build done x ∷ []) in
      omega arith

  pub length-built : (xs : List A) → length (built build xs) ≡ length xs
  length-built xs = omega (arith, length-built_from [] xs)

  pub built_from-append : (done : List B) (xs ys : List A) → built_from build done (xs ++ ys) ≡ built_from build (built_from build done xs) ys
  built_from-append done [] ys = refl
  built_from-append done (x ∷ xs) ys = built_from-append (done ++ build done x ∷ []) xs ys

  pub built-push : (xs : List A) (x : A) → built build (xs ++ x ∷ []) ≡ built build xs ++ build (built build xs) x ∷ []
  built-push xs x = built_from-append [] xs (x ∷ [])

  pub built_from-prefix : (done : List B) (xs : List A) → (rest : List B) × (built_from build done xs ≡ done ++ rest)
  built_from-prefix done [] = ([], sym (append-nil done))
  built_from-prefix done (x ∷ xs) =
      let p = built_from-prefix (done ++ build done x ∷ []) xs in
      (build done x ∷ p.0, p.1 ∙ append_assoc done (build done x ∷ []) p.0)

  -- an item that those built before it settle is built from the whole list as well
  abbrev pub IsSettled : ℕ → A → Type 0
  IsSettled n x = (done more : List B) → length done ≡ n → build (done ++ more) x ≡ build done x

  here : (done rest all : List B) (x : A) (d : B) → all ≡ done ++ build done x ∷ rest → IsSettled (length done) x → get_or all (length done) d ≡ build all x
  here done rest all x d e h =
      ap (λ z. get_or z (length done) d) e ∙ get_or-append_seam done (build done x) rest d
      ∙ sym (h done (build done x ∷ rest) refl)
      ∙ ap (λ z. build z x) (sym e)

  built_from-at : (done : List B) (xs : List A) (j : ℕ) (x : A) (d : B) → j < length xs → get_or xs j x ≡ x → IsSettled (length done + j) x → get_or (built_from build done xs) (length done + j) d ≡ build (built_from build done xs) x
  built_from-at done [] j x d lt e h = absurd (omega arith)
  built_from-at done (y ∷ xs) zero x d lt e h =
      let p = built_from-prefix (done ++ build done y ∷ []) xs in
      let z : length done + 0 ≡ length done = omega arith in
      let q : built_from build done (y ∷ xs) ≡ done ++ build done y ∷ p.0 = p.1 ∙ append_assoc done (build done y ∷ []) p.0 in
      let r : built_from build done (y ∷ xs) ≡ done ++ build done x ∷ p.0 = q ∙ ap (λ w. done ++ build done w ∷ p.0) e in
      ap (λ n. get_or (built_from build done (y ∷ xs)) n d) z
      ∙ here done p.0 (built_from build done (y ∷ xs)) x d r (subst (λ n. IsSettled n x) z h)
  built_from-at done (y ∷ xs) (suc j) x d lt e h =
      let w = done ++ build done y ∷ [] in
      let l : length w ≡ length done + 1 = length-append done (build done y ∷ []) in
      let m : length done + suc j ≡ length w + j = omega arith in
      ap (λ n. get_or (built_from build done (y ∷ xs)) n d) m
      ∙ built_from-at w xs j x d (omega arith) e (subst (λ n. IsSettled n x) m h)

  pub built-at : (xs : List A) (n : ℕ) (x : A) (d : B) → n < length xs → get_or xs n x ≡ x → IsSettled n x → get_or (built build xs) n d ≡ build (built build xs) x
  built-at xs n x d lt e h =
      let z : 0 + n ≡ n = omega arith in
      ap (λ k. get_or (built build xs) k d) (sym z)
      ∙ built_from-at [] xs n x d lt e (subst (λ k. IsSettled k x) (sym z) h)

  -- what stands stays as more is built
  pub built-stays : (xs ys : List A) (n : ℕ) (d : B) → n < length xs → get_or (built build (xs ++ ys)) n d ≡ get_or (built build xs) n d
  built-stays xs ys n d lt =
      let p = built_from-prefix (built build xs) ys in
      ap (λ z. get_or z n d) (built_from-append [] xs ys ∙ p.1)
      ∙ get_or_append_left (built build xs) p.0 d n (omega (arith, length-built xs))

  pub built-prefix : (xs ys : List A) → (rest : List B) × (built build (xs ++ ys) ≡ built build xs ++ rest)
  built-prefix xs ys =
      let p = built_from-prefix (built build xs) ys in
      (p.0, built_from-append [] xs ys ∙ p.1)
