use Rattle.im_rules_asked.proofs.Right.{so}
use Rattle.im_rules_asked.proofs.Built.{built, built_name, built_declarator}
use Rattle.im_rules_asked.proofs.laws.asked_is_typed_law.Goals as goal

pub returns : goal.returns
returns c = record {
  expression = λ g e h. built g e (so h);
  type_name = λ g n h. built_name g n (so h);
  declarator = λ g q e h. built_declarator g q e (so h);
}
