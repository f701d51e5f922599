use Rattle.im_rules_asked.proofs.Right.{of_right}
use Rattle.im_rules_asked.proofs.Terms.{term_of, named_of, declared_of}
use Rattle.im_rules_asked.proofs.Rightness.{rightly, name_rightly, declarator_rightly}
use Rattle.im_rules_asked.proofs.laws.typed_is_asked_law.Goals as goal

pub returns : goal.returns
returns c = record {
  expression = λ g e x d. (of_right (rightly d), term_of d);
  type_name = λ g n q d. (of_right (name_rightly d), named_of d);
  declarator = λ g q e y d. (of_right (declarator_rightly d), declared_of d);
}
