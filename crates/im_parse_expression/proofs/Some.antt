-- Something of each nonterminal, by which what was begun can be completed.
use Rattle.std.proofs.Common.{ℕ, List, [], ◌∷◌}
use Rattle.im_tok.specs.declared.number.Number.{Number}
use Rattle.im_tok.specs.declared.number.NumberType.TheVariants.{Int}
use Rattle.im_word.specs.Words.{Name, Word, number}
use Rattle.im_ctree.specs.Tree as tree
use Rattle.im_ctree.specs.Grammar as g
use Rattle.im_ctree.proofs.Derivations.{cast_of, binary_of, assign_of, expression_of}
use Rattle.im_parse_core.proofs.Steps.{Some'}

abbrev pub zero_number : Number
zero_number = record { value = 0; number_type = Int }

abbrev pub zero_word : Word
zero_word = number zero_number

pub some_cast : (T : List Name) → Some' (g.IsCast T)
some_cast T q = (tree.integer_constant q zero_number, zero_word ∷ [], cast_of (g.a_number zero_number))

pub some_unary : (T : List Name) → Some' (g.IsUnary T)
some_unary T q = (tree.integer_constant q zero_number, zero_word ∷ [], g.postfix (g.primary (g.a_number zero_number) g.no_postfix))

pub some_conditional : (T : List Name) → Some' (g.IsConditional T)
some_conditional T q = (tree.integer_constant q zero_number, zero_word ∷ [], g.operates (binary_of (cast_of (g.a_number zero_number))))

pub some_assignment : (T : List Name) → Some' (g.IsAssignment T)
some_assignment T q = (tree.integer_constant q zero_number, zero_word ∷ [], assign_of (cast_of (g.a_number zero_number)))

pub some_expression : (T : List Name) → Some' (g.IsExpression T)
some_expression T q = (tree.integer_constant q zero_number, zero_word ∷ [], expression_of (cast_of (g.a_number zero_number)))

pub some_primary : (T : List Name) → Some' (g.IsPrimary T)
some_primary T q = (tree.integer_constant q zero_number, zero_word ∷ [], g.a_number zero_number)
