-- What a word is to the nesting.
use Rattle.im_tok.specs.declared.keyword.Keyword.{Keyword}
use Rattle.im_tok.specs.declared.keyword.Keyword.TheVariants.{If, While, For, Do, Switch, Case, Default, Sizeof, Else}
use Rattle.im_tok.specs.declared.punctuator.Punctuator.{Punctuator}
use Rattle.im_tok.specs.declared.punctuator.Punctuator.TheVariants.{OpenBracket, CloseBracket, OpenParen, CloseParen, OpenBrace, CloseBrace, Semicolon, Colon, Ellipsis, Comma, Question}
use Rattle.im_word.specs.Words.{Word, name, keyword, number, character, text, mark, unknown}
use Rattle.im_word.specs.declared.role.Role.{Role}
use Rattle.im_word.specs.declared.role.Role.TheVariants as role

abbrev pub keyword_role : Keyword → Role
keyword_role Else = role.Else
keyword_role While = role.While
keyword_role Do = role.Do
keyword_role If = role.Chooses
keyword_role For = role.Chooses
keyword_role Switch = role.Chooses
keyword_role Case = role.Chooses
keyword_role Default = role.Chooses
keyword_role Sizeof = role.Weighs
keyword_role _ = role.Neutral

abbrev pub mark_role : Punctuator → Role
mark_role OpenParen = role.Opens
mark_role OpenBracket = role.Opens
mark_role OpenBrace = role.Opens
mark_role CloseParen = role.Closes
mark_role CloseBracket = role.Closes
mark_role CloseBrace = role.ClosesBrace
mark_role Semicolon = role.Semicolon
mark_role Comma = role.Comma
mark_role Colon = role.Neutral
mark_role Ellipsis = role.Neutral
mark_role Question = role.Chooses
mark_role _ = role.Weighs

abbrev pub role_of : Word → Role
role_of (keyword k) = keyword_role k
role_of (mark m) = mark_role m
role_of (name n) = role.Neutral
role_of (number n) = role.Neutral
role_of (character c) = role.Neutral
role_of (text s) = role.Neutral
role_of unknown = role.Neutral
