-- The bytes of keywords are those of names.
use Rattle.std.proofs.Common.{◌≡◌, ℕ, suc, zero, ◌<◌, ◌≤◌, ◌⊎◌, inl, inr, List, [], ◌∷◌, Bool, true, false, length, refl, sym, subst, arith, cond, nat_lt, ◌&&◌}
use Rattle.std.specs.Prelude.{slice_index}
use Rattle.std.specs.List.{list_all}
use Rattle.std.proofs.lemmas.Bool.{ltb-true, ltb-false}
use Rattle.im_tok.specs.Keywords.{keyword_text}
use Rattle.im_tok.specs.declared.keyword.Keyword.{Keyword}
use Rattle.im_lex.specs.Bytes.{IsNameByte}
use Rattle.im_lex.proofs.Spellings.{name_byte, keyword_bytes}

cond_false : (b c : Bool) → cond b false c ≡ true → (b ≡ false) × (c ≡ true)
cond_false true c e = absurd (cc)
cond_false false c e = (refl, e)

cond_true : (b c : Bool) → cond b true c ≡ true → (b ≡ true) ⊎ ((b ≡ false) × (c ≡ true))
cond_true true c e = inl refl
cond_true false c e = inr (refl, e)

and_true : (a b : Bool) → (a && b) ≡ true → (a ≡ true) × (b ≡ true)
and_true true b e = (refl, e)
and_true false b e = absurd (cc)

name_byte-true : (b : ℕ) → name_byte b ≡ true → IsNameByte b
name_byte-true b e = digits (cond_true (nat_lt b 58) _ (cond_false (nat_lt b 48) _ e).1)
  where
    low : 48 ≤ b
    low = ltb-false b 48 (cond_false (nat_lt b 48) _ e).0

    upper : (b ≡ 95) ⊎ ((97 ≤ b) × (b ≤ 122)) → IsNameByte b
    upper (inl f) = inl (inr (inr f))
    upper (inr f) = inl (inr (inl f))

    lower : 91 ≤ b → (nat_lt b 96 ≡ true) ⊎ ((nat_lt b 96 ≡ false) × (cond (nat_lt b 97) false (nat_lt b 123) ≡ true)) → (nat_lt b 95 ≡ false) → IsNameByte b
    lower f (inl g) h = upper (inl (omega (arith, ltb-true b 96 g, ltb-false b 95 h)))
    lower f (inr g) h =
        let k = cond_false (nat_lt b 97) _ g.1 in
        upper (inr (ltb-false b 97 k.0, omega (arith, ltb-true b 123 k.1)))

    letters : 65 ≤ b → (nat_lt b 91 ≡ true) ⊎ ((nat_lt b 91 ≡ false) × (cond (nat_lt b 95) false (cond (nat_lt b 96) true (cond (nat_lt b 97) false (nat_lt b 123))) ≡ true)) → IsNameByte b
    letters f (inl g) = inl (inl (f, omega (arith, ltb-true b 91 g)))
    letters f (inr g) =
        let k = cond_false (nat_lt b 95) _ g.1 in
        lower (ltb-false b 91 g.0) (cond_true (nat_lt b 96) _ k.1) k.0

    digits : (nat_lt b 58 ≡ true) ⊎ ((nat_lt b 58 ≡ false) × (cond (nat_lt b 65) false (cond (nat_lt b 91) true (cond (nat_lt b 95) false (cond (nat_lt b 96) true (cond (nat_lt b 97) false (nat_lt b 123))))) ≡ true)) → IsNameByte b
    digits (inl g) = inr (low, omega (arith, ltb-true b 58 g))
    digits (inr g) =
        let k = cond_false (nat_lt b 65) _ g.1 in
        letters (ltb-false b 65 k.0) (cond_true (nat_lt b 91) _ k.1)

at_each : (bytes : List ℕ) → list_all name_byte bytes ≡ true → (i : ℕ) → i < length bytes → name_byte (slice_index bytes i) ≡ true
at_each [] e i h = absurd (omega arith)
at_each (b ∷ bytes) e zero h = (and_true (name_byte b) (list_all name_byte bytes) e).0
at_each (b ∷ bytes) e (suc i) h = at_each bytes (and_true (name_byte b) (list_all name_byte bytes) e).1 i (omega arith)

pub keyword_name : (k : Keyword) (bytes : List ℕ) → bytes ≡ keyword_text k → (i : ℕ) → i < length bytes → IsNameByte (slice_index bytes i)
keyword_name k bytes e i h =
    let P : List ℕ → Type 0 = λ l. list_all name_byte l ≡ true in
    name_byte-true (slice_index bytes i) (at_each bytes (subst P (sym e) (keyword_bytes k)) i h)
