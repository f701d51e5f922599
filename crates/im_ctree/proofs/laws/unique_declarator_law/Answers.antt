use Rattle.std.proofs.Common.{[], ◌∷◌, refl, arith}
use Rattle.im_word.specs.Words.{mark}
use Rattle.im_ctree.specs.Follow.{close_paren, closes}
use Rattle.im_tok.specs.declared.punctuator.Punctuator.TheVariants.{CloseParen}
use Rattle.im_ctree.proofs.Behind.{goes_named}
use Rattle.im_ctree.proofs.Unique.{unique_specifiers, unique_declarator, unique_parameter, unique_type_name}
use Rattle.im_ctree.proofs.laws.unique_declarator_law.Goals as goal

pub returns-clause-specifiers : goal.returns-clause-specifiers
returns-clause-specifiers c = λ names p specifiers other words d d'. (unique_specifiers d d' refl [] [] (refl, λ g. omega (arith, goes_named g)) (refl, λ g. omega (arith, goes_named g)) refl).0

pub returns-clause-declarator : goal.returns-clause-declarator
returns-clause-declarator c = λ names guarded other_guarded p declarator other words d d'. (unique_declarator d d' refl [] [] (omega arith) (omega arith) refl).0

pub returns-clause-type_name : goal.returns-clause-type_name
returns-clause-type_name c = λ names p type_name other words d d'. (unique_type_name d d' refl (mark CloseParen ∷ []) (mark CloseParen ∷ []) close_paren close_paren refl).0

pub returns-clause-parameter : goal.returns-clause-parameter
returns-clause-parameter c = λ names p specifiers other_specifiers declarator other_declarator words d d'. (unique_parameter d d' refl (mark CloseParen ∷ []) (mark CloseParen ∷ []) (closes close_paren) (closes close_paren) refl).0
