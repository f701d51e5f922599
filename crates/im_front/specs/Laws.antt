-- A token has one word (C11 6.4), and so tokens have one list of words.
use Rattle.std.specs.Prelude.{◌≡◌, ℕ, List}
use Rattle.im_tok.specs.declared.token.Token.{Token}
use Rattle.im_tok.specs.declared.token.TokenKind.{TokenKind}
use Rattle.im_word.specs.Words.{Word}
use Rattle.im_word.specs.Tokens.{IsWordOf}
use Rattle.im_parse.specs.Spelling.{AreWords}

abbrev pub OneWordLaw : Type 0
OneWordLaw = (k : TokenKind) (bytes : List ℕ) (v w : Word) → IsWordOf k bytes v → IsWordOf k bytes w → v ≡ w

abbrev pub OneListLaw : Type 0
OneListLaw =
    (source : List ℕ) (tokens : List Token) (vs ws : List Word) → AreWords source tokens vs → AreWords source tokens ws → vs ≡ ws
