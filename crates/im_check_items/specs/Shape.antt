-- The items that Rust values stand for, by the table of their types.
use Rattle.std.specs.Prelude.{List, map}
use Rattle.im_ctype.specs.Table.{Table}
use Rattle.im_check_conversions.specs.im_rules.Initialisers as n
use Rattle.im_ctree_parts.specs.Lists.{expression_in}
use Rattle.im_types.specs.Shape.{type_of}
use Rattle.im_check_operands.specs.Shape.{term_in}
use Rattle.im_check_items.specs.declared.item.Item as ri
use Rattle.im_check_items.specs.declared.item.Source.{Source}
use Rattle.im_check_items.specs.declared.item.Source.TheVariants.{Term, Byte}

abbrev pub source_in : Table → Source → n.Source
source_in types (Term e x) = n.from_term (expression_in e.now) (term_in types x)
source_in types (Byte b) = n.from_byte b

abbrev pub item_in : Table → ri.Item → n.Item
item_in types i = record { offset = i.offset; type = type_of i.ty; source = source_in types i.source }

abbrev pub items_in : Table → List ri.Item → List n.Item
items_in types is = map {A = ri.Item} (item_in types) is
