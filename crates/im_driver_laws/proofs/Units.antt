-- The tokens of a source are one list, read as one list of words, which spells at most one unit.
use Rattle.std.proofs.Common.{◌≡◌, ℕ, List, subst}
use Rattle.im_tok.specs.declared.token.Token.{Token}
use Rattle.im_lex.specs.Lexing.{Lexes}
use Rattle.im_word.specs.Words.{Word}
use Rattle.im_ctree.specs.Tree as t
use Rattle.im_ctree.specs.Shape.{tree_of}
use Rattle.im_ctree.specs.Units.{Spells}
use Rattle.im_parse.specs.Spelling.{AreWords}
use Rattle.im_front.specs.Laws.{OneListLaw}
use Rattle.im_driver_laws.specs.Rules.{OneUnitLaw}

abbrev pub TokensLaw : Type 0
TokensLaw = (text : List ℕ) (a b : List Token) → Lexes text a → Lexes text b → a ≡ b

abbrev pub SpeltOnceLaw : Type 0
SpeltOnceLaw = (u v : t.Tree) (words : List Word) → Spells u words → Spells v words → u ≡ v

abbrev pub WordsLaw : Type 0
WordsLaw =
    (source : List ℕ) (ts us : List Token) (vs ws : List Word) → Lexes source ts → Lexes source us →
    AreWords source ts vs → AreWords source us ws → vs ≡ ws

pub one_list : TokensLaw → OneListLaw → WordsLaw
one_list lexed listed source ts us vs ws a b v w =
    let read = subst (λ (z : List Token). AreWords source z vs) (lexed source ts us a b) v in
    listed source us vs ws read w

pub one_unit : TokensLaw → OneListLaw → SpeltOnceLaw → OneUnitLaw
one_unit lexed listed spelt source ts us a b x y =
    let vs = x.parsed.0 in
    let ws = y.parsed.0 in
    let same = one_list lexed listed source ts us vs ws x.lexes y.lexes x.parsed.1 y.parsed.1 in
    let spelled = subst (λ (z : List Word). Spells (tree_of a) z) same x.parsed.2.2 in
    spelt (tree_of a) (tree_of b) ws spelled y.parsed.2.2
