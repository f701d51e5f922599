-- What stands at a quote.
use Rattle.std.proofs.Common.{◌≡◌, ◌≢◌, ℕ, ◌+◌, ◌<◌, ◌≤◌, ◌⊎◌, inl, inr, List, [], ◌∷◌, Bool, length, take, drop, map, refl, sym, ap, subst, ◌∙◌, arith}
use Rattle.std.specs.Prelude.{slice_index}
use Rattle.std.proofs.lemmas.List.{get_or-take, get_or-drop, length-take-le}
use Rattle.im_tok.specs.Literals.{AreElements, elements_length, IsLiteral, IsCharacter, NoElement, Refused}
use Rattle.im_tok.specs.declared.literal.Element.{Element}
use Rattle.im_tok.specs.declared.literal.ElementFault.{ElementFault}
use Rattle.im_tok.specs.declared.literal.ElementFault.TheVariants.{BadEscape}
use Rattle.im_tok.specs.declared.token.TokenKind.TheVariants.{Character as CharacterToken, Text as TextToken}
use Rattle.im_lex.specs.declared.piece.PieceKind.{PieceKind}
use Rattle.im_lex.specs.declared.piece.PieceKind.TheVariants.{Token}
use Rattle.im_lex.specs.declared.opening.Opening.TheVariants.{Character, Text}
use Rattle.im_lex.specs.Runs.{ElementsEnd}
use Rattle.im_lex.specs.Faults.{IsBroken}
use Rattle.im_lex.specs.Pieces.{IsPiece, IsNext, HasNone}
use Rattle.im_lex.proofs.OpeningFacts.{piece_opening, byte_opening}
use Rattle.im_lex.proofs.PieceFacts.{if_character, if_text}
use Rattle.im_lex.proofs.Readings.{piece_some}
use Rattle.im_lex.proofs.LiteralReads.{LiteralAt, literal_at, literal_front, read_closed}

-- a piece at a quote is a literal, and one of a single quote has one element
pub record Quoted (quote : ℕ) (text : List ℕ) (m : ℕ) : Type 0 where
  pub elements : List Element
  pub is : LiteralAt quote text elements m
  pub single : quote ≡ 39 → length elements ≡ 1

quoted : (quote : ℕ) (text : List ℕ) → (quote ≡ 39) ⊎ (quote ≡ 34) → slice_index text 0 ≡ quote → (start : Bool) (k : PieceKind) (m : ℕ) → m ≤ length text → IsPiece start k (take m text) → Quoted quote text m
quoted quote text (inl e) begins start k m within is =
    let some = piece_some start k (take m text) is in
    let first : slice_index (take m text) 0 ≡ 39 = get_or-take m text 0 0 (omega (arith, length-take-le m text within)) ∙ begins ∙ e in
    let h = if_character start k (take m text) is (sym (piece_opening start k (take m text) is) ∙ byte_opening (take m text) 39 Character first refl) in
    let P : ℕ → Type 0 = λ q. LiteralAt q text (h.1.0 ∷ []) m in
    record { elements = h.1.0 ∷ []; is = subst P (sym e) (literal_at 39 m text (h.1.0 ∷ []) within h.1.1); single = λ _. refl }
quoted quote text (inr e) begins start k m within is =
    let some = piece_some start k (take m text) is in
    let first : slice_index (take m text) 0 ≡ 34 = get_or-take m text 0 0 (omega (arith, length-take-le m text within)) ∙ begins ∙ e in
    let h = if_text start k (take m text) is (sym (piece_opening start k (take m text) is) ∙ byte_opening (take m text) 34 Text first refl) in
    let P : ℕ → Type 0 = λ q. LiteralAt q text h.1.0 m in
    record { elements = h.1.0; is = subst P (sym e) (literal_at 34 m text h.1.0 within h.1.1); single = λ f. absurd (omega arith) }

no_backslash : (quote : ℕ) → (quote ≡ 39) ⊎ (quote ≡ 34) → quote ≢ 92
no_backslash quote (inl e) f = absurd (omega arith)
no_backslash quote (inr e) f = absurd (omega arith)

-- where the reading doesn't end at the quote, or at the wrong count, no literal stands
pub no_literal : (quote : ℕ) (text : List ℕ) (end count : ℕ) (fault : ElementFault) → (quote ≡ 39) ⊎ (quote ≡ 34) → slice_index text 0 ≡ quote → ElementsEnd quote text end count fault → (end < length text → slice_index text end ≡ quote → (quote ≡ 39 → count ≡ 1) → ⊥) → (start : Bool) → HasNone start text
no_literal quote text end count fault kind begins read fails start p is =
    let h = quoted quote text kind begins start p.kind p.length is.0.within is.0.is in
    let g = read_closed quote p.length end count text h.elements fault (no_backslash quote kind) h.is read in
    fails g.1 g.2 (λ e. sym g.3 ∙ h.single e)

pub bad_escape : (quote : ℕ) (text : List ℕ) (end count : ℕ) → (quote ≡ 39) ⊎ (quote ≡ 34) → slice_index text 0 ≡ quote → ElementsEnd quote text end count BadEscape → (start : Bool) → HasNone start text
bad_escape quote text end count kind begins read = no_literal quote text end count BadEscape kind begins read (λ within closed one.
    let e : 92 ≡ quote = sym read.refused ∙ get_or-drop end text 0 0 ∙ ap (λ k. slice_index text k) (omega arith) ∙ closed in
    no_backslash quote kind (sym e))

quote_of : (quote : ℕ) (text : List ℕ) → (quote ≡ 39) ⊎ (quote ≡ 34) → slice_index text 0 ≡ quote → (slice_index text 0 ≡ 39) ⊎ (slice_index text 0 ≡ 34)
quote_of quote text (inl e) begins = inl (begins ∙ e)
quote_of quote text (inr e) begins = inr (begins ∙ e)

pub broken : (quote : ℕ) (text : List ℕ) (end count : ℕ) (fault : ElementFault) → (quote ≡ 39) ⊎ (quote ≡ 34) → slice_index text 0 ≡ quote → ElementsEnd quote text end count fault → IsBroken fault text
broken quote text end count fault kind begins read =
    let P : ℕ → Type 0 = λ q. AreElements q (drop 1 text) read.elements in
    let Q : ℕ → Type 0 = λ k. NoElement quote (drop k text) in
    let R : ℕ → Type 0 = λ q. NoElement q (drop (elements_length read.elements + 1) text) in
    let S : ℕ → Type 0 = λ k. Refused fault quote (drop k text) in
    let T : ℕ → Type 0 = λ q. Refused fault q (drop (elements_length read.elements + 1) text) in
    record {
      quote = quote_of quote text kind begins;
      elements = read.elements;
      read = subst P (sym begins) read.read;
      none = subst R (sym begins) (subst Q read.place read.none);
      refused = subst T (sym begins) (subst S read.place read.refused);
    }

literal_read : (quote : ℕ) (text : List ℕ) (end count : ℕ) (fault : ElementFault) → slice_index text 0 ≡ quote → (read : ElementsEnd quote text end count fault) → end < length text → slice_index text end ≡ quote → LiteralAt quote text read.elements (end + 1)
literal_read quote text end count fault begins read within closed =
    let P : ℕ → Type 0 = λ k. slice_index text k ≡ quote in
    record { begins = begins; read = read.read; closed = subst P read.place closed; whole = omega (arith, read.place); within = omega arith }

literal_longest : (quote : ℕ) (text : List ℕ) (end count : ℕ) (fault : ElementFault) → (quote ≡ 39) ⊎ (quote ≡ 34) → slice_index text 0 ≡ quote → ElementsEnd quote text end count fault → (start : Bool) (k : PieceKind) (m : ℕ) → m ≤ length text → IsPiece start k (take m text) → m ≤ end + 1
literal_longest quote text end count fault kind begins read start k m within is =
    let h = quoted quote text kind begins start k m within is in
    omega (arith, (read_closed quote m end count text h.elements fault (no_backslash quote kind) h.is read).0)

pub next_text : (quote : ℕ) (text : List ℕ) (end count : ℕ) (fault : ElementFault) → quote ≡ 34 → slice_index text 0 ≡ quote → ElementsEnd quote text end count fault → end < length text → slice_index text end ≡ quote → (start : Bool) → IsNext start text (record { kind = Token TextToken; length = end + 1 })
next_text quote text end count fault kind begins read within closed start =
    let P : ℕ → Type 0 = λ q. IsLiteral q (take (end + 1) text) read.elements in
    let is = subst P kind (literal_front quote (end + 1) text read.elements (literal_read quote text end count fault begins read within closed)) in (
      record {
        within = omega arith;
        is = (map (λ (a : Element). a.value) read.elements, (read.elements, is, refl));
        longest = literal_longest quote text end count fault (inr kind) begins read start;
      },
      tt,
    )

only_one : (quote : ℕ) (bytes : List ℕ) (elements : List Element) → length elements ≡ 1 → IsLiteral 39 bytes elements → (value : ℕ) × IsCharacter bytes value
only_one quote bytes [] one is = absurd (omega arith)
only_one quote bytes (a ∷ []) one is = (a.value, (a, is, refl))
only_one quote bytes (a ∷ b ∷ more) one is = absurd (omega arith)

pub next_character : (quote : ℕ) (text : List ℕ) (end count : ℕ) (fault : ElementFault) → quote ≡ 39 → count ≡ 1 → slice_index text 0 ≡ quote → ElementsEnd quote text end count fault → end < length text → slice_index text end ≡ quote → (start : Bool) → IsNext start text (record { kind = Token CharacterToken; length = end + 1 })
next_character quote text end count fault kind one begins read within closed start =
    let P : ℕ → Type 0 = λ q. IsLiteral q (take (end + 1) text) read.elements in
    let is = subst P kind (literal_front quote (end + 1) text read.elements (literal_read quote text end count fault begins read within closed)) in (
      record {
        within = omega arith;
        is = only_one quote (take (end + 1) text) read.elements (sym read.counted ∙ one) is;
        longest = literal_longest quote text end count fault (inl kind) begins read start;
      },
      tt,
    )

pub single_quote : (quote : ℕ) → (quote ≡ 39) ⊎ (quote ≡ 34) → quote ≢ 34 → quote ≡ 39
single_quote quote (inl e) differs = e
single_quote quote (inr e) differs = absurd (differs e)
