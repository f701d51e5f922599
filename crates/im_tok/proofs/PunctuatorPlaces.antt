-- The place of each punctuator in the list of all.
use Rattle.std.proofs.Common.{◌≡◌, ℕ, ◌<◌, List, [], ◌∷◌, Bool, false, eqb, get_or, refl, subst, sym, ◌∙◌, ap, lit<, ◌≢◌}
use Rattle.std.specs.Cmp.Lexicographic.{pointwise}
use Rattle.std.proofs.lemmas.Bool.{false≢true}
use Rattle.std.proofs.lemmas.Bool.Decides.{Decides-eqb}
use Rattle.std.proofs.lemmas.Slice.Eq.{slice_eq-Decides}
use Rattle.im_tok.specs.Punctuators.{punctuator_text}
use Rattle.im_tok.specs.declared.punctuator.Punctuator.{Punctuator}
use Rattle.im_tok.specs.declared.punctuator.Punctuator.TheVariants.{OpenBracket, CloseBracket, OpenParen, CloseParen, OpenBrace, CloseBrace, Dot, Arrow, Increment, Decrement, Ampersand, Star, Plus, Minus, Tilde, Exclamation, Slash, Percent, ShiftLeft, ShiftRight, Less, Greater, LessEqual, GreaterEqual, EqualEqual, NotEqual, Caret, Bar, AndAnd, OrOr, Question, Colon, Semicolon, Ellipsis, Assign, StarAssign, SlashAssign, PercentAssign, PlusAssign, MinusAssign, ShiftLeftAssign, ShiftRightAssign, AndAssign, XorAssign, OrAssign, Comma}

abbrev pub all : List Punctuator
all = OpenBracket ∷ CloseBracket ∷ OpenParen ∷ CloseParen ∷ OpenBrace ∷ CloseBrace ∷ Dot ∷ Arrow ∷ Increment ∷ Decrement ∷ Ampersand ∷ Star ∷ Plus ∷ Minus ∷ Tilde ∷ Exclamation ∷ Slash ∷ Percent ∷ ShiftLeft ∷ ShiftRight ∷ Less ∷ Greater ∷ LessEqual ∷ GreaterEqual ∷ EqualEqual ∷ NotEqual ∷ Caret ∷ Bar ∷ AndAnd ∷ OrOr ∷ Question ∷ Colon ∷ Semicolon ∷ Ellipsis ∷ Assign ∷ StarAssign ∷ SlashAssign ∷ PercentAssign ∷ PlusAssign ∷ MinusAssign ∷ ShiftLeftAssign ∷ ShiftRightAssign ∷ AndAssign ∷ XorAssign ∷ OrAssign ∷ Comma ∷ []

abbrev pub place : Punctuator → ℕ
place OpenBracket = 0
place CloseBracket = 1
place OpenParen = 2
place CloseParen = 3
place OpenBrace = 4
place CloseBrace = 5
place Dot = 6
place Arrow = 7
place Increment = 8
place Decrement = 9
place Ampersand = 10
place Star = 11
place Plus = 12
place Minus = 13
place Tilde = 14
place Exclamation = 15
place Slash = 16
place Percent = 17
place ShiftLeft = 18
place ShiftRight = 19
place Less = 20
place Greater = 21
place LessEqual = 22
place GreaterEqual = 23
place EqualEqual = 24
place NotEqual = 25
place Caret = 26
place Bar = 27
place AndAnd = 28
place OrOr = 29
place Question = 30
place Colon = 31
place Semicolon = 32
place Ellipsis = 33
place Assign = 34
place StarAssign = 35
place SlashAssign = 36
place PercentAssign = 37
place PlusAssign = 38
place MinusAssign = 39
place ShiftLeftAssign = 40
place ShiftRightAssign = 41
place AndAssign = 42
place XorAssign = 43
place OrAssign = 44
place Comma = 45

pub place-lt : (x : Punctuator) → place x < 46
place-lt OpenBracket = lit< tt
place-lt CloseBracket = lit< tt
place-lt OpenParen = lit< tt
place-lt CloseParen = lit< tt
place-lt OpenBrace = lit< tt
place-lt CloseBrace = lit< tt
place-lt Dot = lit< tt
place-lt Arrow = lit< tt
place-lt Increment = lit< tt
place-lt Decrement = lit< tt
place-lt Ampersand = lit< tt
place-lt Star = lit< tt
place-lt Plus = lit< tt
place-lt Minus = lit< tt
place-lt Tilde = lit< tt
place-lt Exclamation = lit< tt
place-lt Slash = lit< tt
place-lt Percent = lit< tt
place-lt ShiftLeft = lit< tt
place-lt ShiftRight = lit< tt
place-lt Less = lit< tt
place-lt Greater = lit< tt
place-lt LessEqual = lit< tt
place-lt GreaterEqual = lit< tt
place-lt EqualEqual = lit< tt
place-lt NotEqual = lit< tt
place-lt Caret = lit< tt
place-lt Bar = lit< tt
place-lt AndAnd = lit< tt
place-lt OrOr = lit< tt
place-lt Question = lit< tt
place-lt Colon = lit< tt
place-lt Semicolon = lit< tt
place-lt Ellipsis = lit< tt
place-lt Assign = lit< tt
place-lt StarAssign = lit< tt
place-lt SlashAssign = lit< tt
place-lt PercentAssign = lit< tt
place-lt PlusAssign = lit< tt
place-lt MinusAssign = lit< tt
place-lt ShiftLeftAssign = lit< tt
place-lt ShiftRightAssign = lit< tt
place-lt AndAssign = lit< tt
place-lt XorAssign = lit< tt
place-lt OrAssign = lit< tt
place-lt Comma = lit< tt

get_or-place : (x d : Punctuator) → get_or all (place x) d ≡ x
get_or-place OpenBracket d = refl
get_or-place CloseBracket d = refl
get_or-place OpenParen d = refl
get_or-place CloseParen d = refl
get_or-place OpenBrace d = refl
get_or-place CloseBrace d = refl
get_or-place Dot d = refl
get_or-place Arrow d = refl
get_or-place Increment d = refl
get_or-place Decrement d = refl
get_or-place Ampersand d = refl
get_or-place Star d = refl
get_or-place Plus d = refl
get_or-place Minus d = refl
get_or-place Tilde d = refl
get_or-place Exclamation d = refl
get_or-place Slash d = refl
get_or-place Percent d = refl
get_or-place ShiftLeft d = refl
get_or-place ShiftRight d = refl
get_or-place Less d = refl
get_or-place Greater d = refl
get_or-place LessEqual d = refl
get_or-place GreaterEqual d = refl
get_or-place EqualEqual d = refl
get_or-place NotEqual d = refl
get_or-place Caret d = refl
get_or-place Bar d = refl
get_or-place AndAnd d = refl
get_or-place OrOr d = refl
get_or-place Question d = refl
get_or-place Colon d = refl
get_or-place Semicolon d = refl
get_or-place Ellipsis d = refl
get_or-place Assign d = refl
get_or-place StarAssign d = refl
get_or-place SlashAssign d = refl
get_or-place PercentAssign d = refl
get_or-place PlusAssign d = refl
get_or-place MinusAssign d = refl
get_or-place ShiftLeftAssign d = refl
get_or-place ShiftRightAssign d = refl
get_or-place AndAssign d = refl
get_or-place XorAssign d = refl
get_or-place OrAssign d = refl
get_or-place Comma d = refl

-- what was compared with the spelling at this one's place isn't spelled like it
pub differs_at_place : (x d : Punctuator) (i : ℕ) (text spelling : List ℕ) (same : Bool) → place x ≡ i → spelling ≡ punctuator_text (get_or all i d) → same ≡ pointwise eqb text spelling → same ≡ false → text ≢ punctuator_text x
differs_at_place x d i text spelling same at is tested differs equal =
    let P : ℕ → Type 0 = λ n. get_or all n d ≡ x in
    let found = subst P at (get_or-place x d) in
    absurd (false≢true (sym differs ∙ (slice_eq-Decides Decides-eqb _ _ _ tested).1 (equal ∙ sym (ap punctuator_text found) ∙ sym is)))
