-- The rows of a block are the vector that it was made of.
use Rattle.std.proofs.Common.{◌≡◌, List, [], ◌∷◌, refl, ap, ◌∙◌, map, Global}
use Rattle.std.specs.declared.vec.Vec.{Vec}
use Rattle.im_ctree.specs.declared.statement.BlockItem.TheBlock.{hidden-the_row-BlockItem-0}
use Rattle.im_ctree.specs.declared.statement.BlockItem as bi
use Rattle.im_ctree.specs.declared.statement.StatementKind as sk
use Rattle.im_ctree.specs.Tree as t
use Rattle.im_ctree.specs.Shape.{items_of, block_items_of, statement_of, declaration_of}
use Rattle.im_parse_core.specs.Lists.{before}
use Rattle.im_parse_statement.specs.Statements.{add_item, item_tree}

items_row : (n : _) (row : sk.Row_of-BlockItem n) → items_of row ≡ block_items_of (sk.items-the_row-BlockItem n row)
items_row _ sk.end_of-BlockItem = refl
items_row _ (sk.more_of-BlockItem (bi.Declaration d) xs) = ap (λ z. t.declaration_item (declaration_of d) z) (items_row _ xs)
items_row _ (sk.more_of-BlockItem (bi.Statement' i s) xs) = ap (λ z. t.statement_item (statement_of i s) z) (items_row _ xs)

pub items_made : (items : Vec bi.BlockItem Global) → items_of (hidden-the_row-BlockItem-0 items) ≡ block_items_of items.items
items_made items = items_row _ (hidden-the_row-BlockItem-0 items) ∙ ap block_items_of (sk.items_hidden-the_row-BlockItem-0 items)

pub items_before : (items : List bi.BlockItem) → block_items_of items ≡ before add_item (map item_tree items) t.no_items
items_before [] = refl
items_before (bi.Declaration d ∷ xs) = ap (λ z. t.declaration_item (declaration_of d) z) (items_before xs)
items_before (bi.Statement' i s ∷ xs) = ap (λ z. t.statement_item (statement_of i s) z) (items_before xs)
