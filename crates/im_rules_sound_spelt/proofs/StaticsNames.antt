-- Names of identifiers and of string literals are names that an image takes.
use Rattle.std.proofs.Common.{◌≡◌, inl, inr, ℕ, zero, suc, ◌+◌, ◌*◌, ◌/◌, ◌<◌, ◌≤◌, ◌^◌, List, [], ◌∷◌, ◌++◌, length, length-append, Bool, true, false, refl, sym, ap, ◌∙◌, subst, arith}
use Rattle.std.specs.Prelude.{◌&&◌, ◌||◌, nat_lt, nat_le, codes, decimal, slice_index}
use Rattle.std.specs.List.{list_all, fold}
use Rattle.std.specs.Str.Parse.{AllDigits}
use Rattle.std.proofs.lemmas.Bool.{lt-ltb, le-leb, eq-eqb, and_from}
use Rattle.std.proofs.lemmas.Fmt.{decimal_is_IsNumeral, length-decimal-le_succ}
use Rattle.std.proofs.lemmas.Str.Parse.{digit_from_value}
use Rattle.std.proofs.lemmas.List.Folds.{list_all-append}
use Rattle.im_image.specs.Contents.{is_name_byte}
use Rattle.im_tok.specs.declared.token.TokenKind.{TokenKind}
use Rattle.im_tok.specs.declared.token.TokenKind.TheVariants as kind
use Rattle.im_lex.specs.declared.piece.PieceKind.TheVariants.{Token as TokenPiece}
use Rattle.im_lex.specs.Bytes.{IsNameByte}
use Rattle.im_lex.specs.Pieces.{IsName, IsPiece}
use Rattle.im_word.specs.Words.{Name, Word, name, keyword, number, character, text, mark, unknown}
use Rattle.im_word.specs.Tokens.{IsWordOf}
use Rattle.im_ctree.specs.Tree as t
use Rattle.im_ctree.specs.Units.{Spells}
use Rattle.im_typed.specs.im_store.Statics.{StaticObject}
use Rattle.im_typed.specs.Limits.{static_bytes}
use Rattle.im_typed.specs.Program.{Prog}
use Rattle.im_typed.specs.Typing.{Each}
use Rattle.im_rules.specs.TypedUnit.{TypedUnit}
use Rattle.im_rules_limits.specs.Limits.{IsWithinLimits}
use Rattle.im_rules_sound_unit.proofs.Units.{units}
use Rattle.im_rules_sound_spelt.specs.Words.{AreLexical, IsNamedBy, AreNamedBy, IsStaticName, declared, literal}
use Rattle.im_rules_sound_spelt.proofs.Names.{names-of-source}
use Rattle.im_rules_sound_spelt.proofs.Units.{unit-written}
use Rattle.im_rules_sound_spelt.specs.Namable.{is_name, HasCell, IsNamable}
use Rattle.im_rules_sound_spelt.proofs.Cells.{statics-cells}

or-first : (a b : Bool) → a ≡ true → (a || b) ≡ true
or-first a b e = ap (λ z. z || b) e

or-second : (a b : Bool) → b ≡ true → (a || b) ≡ true
or-second true b e = refl
or-second false b e = e

-- bytes

between : (low high b : ℕ) → low ≤ b → b ≤ high → (nat_le low b && nat_le b high) ≡ true
between low high b l h = and_from _ _ (le-leb low b l) (le-leb b high h)

name-byte : (b : ℕ) → IsNameByte b → is_name_byte b ≡ true
name-byte b (inl (inl h)) = or-first _ _ (or-first _ _ (or-first _ _ (or-second _ _ (between 65 90 b h.0 h.1))))
name-byte b (inl (inr (inl h))) = or-first _ _ (or-first _ _ (or-first _ _ (or-first _ _ (between 97 122 b h.0 h.1))))
name-byte b (inl (inr (inr h))) = or-first _ _ (or-second _ _ (eq-eqb b 95 h))
name-byte b (inr h) = or-first _ _ (or-first _ _ (or-second _ _ (between 48 57 b h.0 h.1)))

name-bytes : (bytes : List ℕ) → ((i : ℕ) → i < length bytes → IsNameByte (slice_index bytes i)) → list_all is_name_byte bytes ≡ true
name-bytes [] h = refl
name-bytes (b ∷ bytes) h = and_from _ _ (name-byte b (h 0 (omega arith))) (name-bytes bytes (λ i below. h (suc i) (omega (arith, below))))

digit-bytes : (ds : List ℕ) → AllDigits 10 ds → list_all is_name_byte ds ≡ true
digit-bytes [] h = refl
digit-bytes (d ∷ ds) h = let range = digit_from_value d h.0 in and_from _ _ (name-byte d (inr (range.0, range.1))) (digit-bytes ds h.1)

is-name : (bytes : List ℕ) → 0 < length bytes → length bytes < 2 ^ 32 → list_all is_name_byte bytes ≡ true → is_name bytes ≡ true
is-name bytes some short all = and_from _ _ (and_from _ _ (lt-ltb 0 (length bytes) some) (lt-ltb (length bytes) (2 ^ 32) short)) all

-- the name of a word

pub word-named : (k : TokenKind) (bytes : List ℕ) (w : Word) → IsPiece false (TokenPiece k) bytes → IsWordOf k bytes w → length bytes < 2 ^ 32 → IsNamedBy is_name w
word-named k bytes (name n) p h short =
    let own : IsPiece false (TokenPiece kind.Name) bytes = subst (λ z. IsPiece false (TokenPiece z) bytes) h.0 p in
    ap is_name h.1 ∙ is-name bytes own.0.some short (name-bytes bytes own.0.each)
word-named k bytes (keyword x) p h short = tt
word-named k bytes (number n) p h short = tt
word-named k bytes (character c) p h short = tt
word-named k bytes (text s) p h short = tt
word-named k bytes (mark m) p h short = tt
word-named k bytes unknown p h short = tt

-- the name of a string literal
literal-name : (k : ℕ) → k ≤ 1048576 → is_name (codes "$" ++ decimal k) ≡ true
literal-name k le =
    let digits = (decimal_is_IsNumeral k (omega (arith, le))).0 in
    let short = length-decimal-le_succ k (omega (arith, le)) in
    let counted = length-append (codes "$") (decimal k) in
    is-name (codes "$" ++ decimal k) (omega (arith, counted)) (omega (arith, counted, short, le))
    (list_all-append is_name_byte (codes "$") (decimal k) ∙ digit-bytes (decimal k) digits.1)

-- there are no more statics than bytes of them

many-bytes : (a : ℕ) (xs : List StaticObject) → a + length xs ≤ fold {A = StaticObject} {B = ℕ} (λ b (o : StaticObject). b + (o.size + 1 + 3) / 4 * 4) a xs
many-bytes a [] = omega arith
many-bytes a (o ∷ xs) = let rest = many-bytes (a + (o.size + 1 + 3) / 4 * 4) xs in omega (arith, rest)

few-statics : (xs : List StaticObject) → static_bytes xs ≤ 1048576 → length xs ≤ 1048576
few-statics xs h = let many = many-bytes 0 xs in omega (arith, many, h)

static-name : (count : ℕ) (n : Name) → count ≤ 1048576 → IsStaticName is_name count n → is_name n ≡ true
static-name count n few (declared e) = e
static-name count _ few (literal k le) = literal-name k (omega (arith, few, le))

all-namable : (count : ℕ) (xs : List StaticObject) → count ≤ 1048576 → Each HasCell xs → Each {A = StaticObject} (λ o. IsStaticName is_name count o.name) xs → Each IsNamable xs
all-namable count [] few h k = tt
all-namable count (o ∷ xs) few h k = ((h.0, static-name count o.name few k.0), all-namable count xs few h.1 k.1)

pub statics-namable : (u : t.Tree) (words : List Word) (g : Prog) → Spells u words → AreLexical words → AreNamedBy is_name words → TypedUnit u g → IsWithinLimits u → Each IsNamable g.statics
statics-namable u words g d h k x l =
    let written = unit-written d h in
    let few = few-statics g.statics (units u g x written l).1.statics in
    all-namable (length g.statics) g.statics few (statics-cells u g x written l) (names-of-source is_name u words g d h k x l)
