use Rattle.im_rules.proofs.Sound.{typed_breaks_none, typed_expression, typed_name, typed_declarator}
use Rattle.im_rules.proofs.BodySound.{given_breaks_none, given_one, typed_body_breaks_none, body_statement, body_items}
use Rattle.im_rules.proofs.UnitSound.{unit_breaks_none}
use Rattle.im_rules.proofs.laws.typed_breaks_none_law.Goals as goal

pub returns : goal.returns
returns c = record {
  expression = λ g e x r k d b. typed_breaks_none b (typed_expression d);
  type_name = λ g n q r k d b. typed_breaks_none b (typed_name d);
  declarator = λ g q e d r k s b. typed_breaks_none b (typed_declarator s);
  initialiser = λ g a at i ps r k d b. given_breaks_none b (given_one d);
  statement = λ s a u m r k d b. typed_body_breaks_none b (body_statement d);
  items = λ s is us m r k d b. typed_body_breaks_none b (body_items d);
  unit = λ u g r k d b. unit_breaks_none b d;
}
