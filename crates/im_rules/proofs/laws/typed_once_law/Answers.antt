use Rattle.im_rules.proofs.Once.{once, names_once, declares_once}
use Rattle.im_rules.proofs.BodiesOnce.{initialised_once, statement_once, items_once}
use Rattle.im_rules.proofs.UnitOnce.{unit_once}
use Rattle.im_rules.proofs.laws.typed_once_law.Goals as goal

pub returns : goal.returns
returns c = record {
  expression = λ g e x y p q. once p q;
  type_name = λ g n x y p q. names_once p q;
  declarator = λ g s e x y p q. declares_once p q;
  initialiser = λ g a at i x y p q. initialised_once p q;
  statement = λ s a u v m n p q. statement_once p q;
  items = λ s is u v m n p q. items_once p q;
  unit = λ u g h p q. unit_once p q;
}
