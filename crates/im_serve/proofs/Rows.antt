-- The laws of each row.
use Rattle.std.proofs.Common.{◌≡◌, ℕ, suc, ◌+◌, ◌<◌, ◌≤◌, ◌^◌, List, [], ◌∷◌, ◌++◌, length, drop, Bool, true, false, ℤ, pos, negsuc, ◌+ℤ◌, ◌-ℤ◌, ◌*ℤ◌, ◌≤ℤ◌, inl, inr, refl, sym, ap, ◌∙◌, subst, arith, append-nil}
use Rattle.std.specs.Prelude.{nat_abs, nat_lt}
use Rattle.std.specs.Int.{int_rem_euclid}
use Rattle.std.proofs.lemmas.Int.{ints}
use Rattle.im_num.specs.declared.kind.Kind.{Kind}
use Rattle.im_num.specs.declared.kind.Kind.TheVariants.{U8, I32, U32}
use Rattle.im_num.specs.Kinds.{IsOfKind, wrap, word}
use Rattle.im_num.proofs.Wrapping.{wrap-of_kind, wrap-modulo, wrap-only}
use Rattle.im_serve.specs.declared.service.Service.{Service}
use Rattle.im_serve.specs.declared.service.Service.TheVariants.{Getchar, Putchar}
use Rattle.im_serve.specs.Services.{byte_in, byte_put, byte_out}
use Rattle.im_serve.specs.Laws.{AreBytes, IsWord, ServiceLaw}

-- numbers

none-of_kind : IsOfKind I32 (negsuc 0)
none-of_kind = record { low = omega (arith, ints); high = omega (arith, ints) }

byte-of_kind : (b : ℕ) → b < 256 → IsOfKind I32 (pos b)
byte-of_kind b lt = record { low = omega (arith, ints); high = omega (arith, ints) }

byte-below : (z : ℤ) → IsOfKind U8 z → nat_abs z < 256
byte-below (pos n) h = omega (arith, ints, h.high)
byte-below (negsuc n) h = absurd (omega (arith, ints, h.low))

abs_is : (r : ℤ) → pos 0 ≤ℤ r → pos (nat_abs r) ≡ r
abs_is (pos n) h = refl
abs_is (negsuc n) h = absurd (omega (arith, ints))

add_none : (r : ℤ) → r +ℤ pos 0 ≡ r
add_none r = omega (arith, ints)

less_none : (r : ℤ) → r -ℤ pos 0 ≡ r
less_none r = omega (arith, ints)

-- a word is the value of unsigned
word-is : (z : ℤ) → pos (word z) ≡ wrap U32 z
unfolding wrap word
word-is z =
    let e : wrap U32 z ≡ int_rem_euclid z (pos 4294967296) = ap (λ (q : ℤ). int_rem_euclid q (pos 4294967296) +ℤ pos 0) (less_none z) ∙ add_none (int_rem_euclid z (pos 4294967296)) in
    let low : pos 0 ≤ℤ int_rem_euclid z (pos 4294967296) = subst (λ (q : ℤ). pos 0 ≤ℤ q) e (wrap-of_kind U32 z).low in
    abs_is (int_rem_euclid z (pos 4294967296)) low ∙ sym e

-- the byte of a number is that of its word
low-byte : (z : ℤ) → wrap U8 z ≡ wrap U8 (pos (word z))
low-byte z =
    let w = word-is z in
    let m = wrap-modulo U32 z in
    let k = wrap-modulo U8 (pos (word z)) in
    wrap-only U8 z (wrap U8 (pos (word z))) (k.0 +ℤ m.0 *ℤ pos 16777216) (wrap-of_kind U8 (pos (word z)))
    (let e = m.1 in let f = k.1 in omega (arith, ints))

-- a byte of input

in-value : (input output : List ℕ) → AreBytes input → IsOfKind I32 (byte_in input output).value
in-value [] output h = none-of_kind
in-value (b ∷ rest) output h = byte-of_kind b h.0

in-takes : (input output : List ℕ) → (n : ℕ) × ((byte_in input output).input ≡ drop n input)
in-takes [] output = (0, refl)
in-takes (b ∷ rest) output = (1, refl)

in-puts : (input output : List ℕ) → (more : List ℕ) × (output ++ more ≡ (byte_in input output).output)
in-puts [] output = ([], append-nil output)
in-puts (b ∷ rest) output = ([], append-nil output)

in-fits : (capacity : ℕ) (input output : List ℕ) → length output ≤ capacity → length (byte_in input output).output ≤ capacity
in-fits capacity [] output h = h
in-fits capacity (b ∷ rest) output h = h

-- a byte of output

out-value : (has : Bool) (byte : ℕ) (input output : List ℕ) → byte < 256 → IsOfKind I32 (byte_put has byte input output).value
out-value true byte input output lt = byte-of_kind byte lt
out-value false byte input output lt = none-of_kind

out-takes : (has : Bool) (byte : ℕ) (input output : List ℕ) → (n : ℕ) × ((byte_put has byte input output).input ≡ drop n input)
out-takes true byte input output = (0, refl)
out-takes false byte input output = (0, refl)

out-puts : (has : Bool) (byte : ℕ) (input output : List ℕ) → (more : List ℕ) × (output ++ more ≡ (byte_put has byte input output).output)
out-puts true byte input output = (byte ∷ [], refl)
out-puts false byte input output = ([], append-nil output)

length-more : (output : List ℕ) (byte : ℕ) → length (output ++ byte ∷ []) ≡ suc (length output)
length-more [] byte = refl
length-more (b ∷ rest) byte = ap suc (length-more rest byte)

out-fits : (capacity byte : ℕ) (input output : List ℕ) (has : Bool) → nat_lt (length output) capacity ≡ has → length output ≤ capacity → length (byte_put has byte input output).output ≤ capacity
out-fits capacity byte input output true e h = let l = length-more output byte in grind (arith, e, l)
out-fits capacity byte input output false e h = h

-- the rows

pub law_of : (service : Service) → ServiceLaw service
law_of Getchar = record {
  parameter = λ kind e. absurd (cc);
  result = inl refl;
  value = λ capacity z input output h. in-value input output h;
  takes = λ capacity z input output. in-takes input output;
  puts = λ capacity z input output. in-puts input output;
  fits = λ capacity z input output h. in-fits capacity input output h;
  low = λ capacity z input output. refl;
}
law_of Putchar = record {
  parameter = λ kind e. inl (let q : I32 ≡ kind = cc in sym q);
  result = inl refl;
  value = λ capacity z input output h.
      out-value (nat_lt (length output) capacity) (nat_abs (wrap U8 z)) input output (byte-below (wrap U8 z) (wrap-of_kind U8 z));
  takes = λ capacity z input output. out-takes (nat_lt (length output) capacity) (nat_abs (wrap U8 z)) input output;
  puts = λ capacity z input output. out-puts (nat_lt (length output) capacity) (nat_abs (wrap U8 z)) input output;
  fits = λ capacity z input output h.
      out-fits capacity (nat_abs (wrap U8 z)) input output (nat_lt (length output) capacity) refl h;
  low = λ capacity z input output. ap (λ y. byte_out capacity (nat_abs y) input output) (low-byte z);
}
