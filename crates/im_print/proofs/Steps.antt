-- One item of a block, or one external declaration, more; and nodes that hold one part or none.
use Rattle.std.proofs.Common.{◌≡◌, ◌<◌, ◌+◌, ℕ, List, ◌++◌, Option, Some, None, Box, Global, length, drop, get_or, sym, ap, refl, ◌∙◌}
use Rattle.im_word.specs.Words.{Name}
use Rattle.im_ctree.specs.declared.expression.Expression.{Expression}
use Rattle.im_ctree.specs.declared.statement.Statement.{Statement}
use Rattle.im_ctree.specs.declared.statement.StatementKind as sm
use Rattle.im_ctree.specs.declared.statement.BlockItem as bi
use Rattle.im_ctree.specs.declared.unit.External.{External}
use Rattle.im_ctree.specs.Tree as t
use Rattle.im_ctree.specs.Shape.{expression_of, statement_of, block_items_of, externals_of, external_of}
use Rattle.im_ctree.specs.Typedefs.{names_behind_items, names_behind_external}
use Rattle.im_print_relation.specs.Printed as printed
use Rattle.im_print_parts.specs.Output.{spaced, Writes}
use Rattle.im_print_parts.specs.Parts as parts
use Rattle.im_print_parts.proofs.Writing.{written, next}
use Rattle.im_print_parts.proofs.Rows.{items_more, items_known}
use Rattle.im_ctree_parts.specs.Lists.{statement_in}

pub items_step : {a b : List ℕ} (T U : List Name) (xs : List bi.BlockItem) (i : ℕ) (x : bi.BlockItem)
    → Writes a b (parts.item_words T x)
    → U ≡ parts.names_behind_item T x
    → i < length xs
    → x ≡ get_or xs i x
    → b ++ spaced (printed.items U (block_items_of (drop (i + 1) xs))) ≡ a ++ spaced (printed.items T (block_items_of (drop i xs)))
items_step {a = a} {b = b} T U xs i x w u within is =
    let rest = block_items_of (drop (i + 1) xs) in
    ap (λ z. b ++ spaced (printed.items z rest)) u
    ∙ written (printed.items (parts.names_behind_item T x) rest) w
    ∙ ap (λ z. a ++ spaced z) (sym (items_more T x (drop (i + 1) xs)))
    ∙ ap (λ z. a ++ spaced (printed.items T (block_items_of z))) (sym (next xs i x within is))

pub items_known_step : (T U : List Name) (xs : List bi.BlockItem) (i : ℕ) (x : bi.BlockItem)
    → U ≡ parts.names_behind_item T x
    → i < length xs
    → x ≡ get_or xs i x
    → names_behind_items U (block_items_of (drop (i + 1) xs)) ≡ names_behind_items T (block_items_of (drop i xs))
items_known_step T U xs i x u within is =
    ap (λ z. names_behind_items z (block_items_of (drop (i + 1) xs))) u
    ∙ sym (items_known T x (drop (i + 1) xs))
    ∙ ap (λ z. names_behind_items T (block_items_of z)) (sym (next xs i x within is))

pub externals_step : {a b : List ℕ} (T U : List Name) (xs : List External) (i : ℕ) (x : External)
    → Writes a b (printed.external T (external_of x))
    → U ≡ names_behind_external T (external_of x)
    → i < length xs
    → x ≡ get_or xs i x
    → b ++ spaced (printed.externals U (externals_of (drop (i + 1) xs))) ≡ a ++ spaced (printed.externals T (externals_of (drop i xs)))
externals_step {a = a} {b = b} T U xs i x w u within is =
    let rest = externals_of (drop (i + 1) xs) in
    ap (λ z. b ++ spaced (printed.externals z rest)) u
    ∙ written (printed.externals (names_behind_external T (external_of x)) rest) w
    ∙ ap (λ z. a ++ spaced (printed.externals T (externals_of z))) (sym (next xs i x within is))

-- an `if`, by what stands behind its `else`
pub if_tree : (at : ℕ) (e : Expression) (s : Box Statement Global) (o : Option (Box Statement Global))
    → statement_of at (sm.If e s o) ≡ t.if_statement at (expression_of e.at e.kind) (statement_in s.value) (parts.other_from o)
if_tree at e s None = refl
if_tree at e s (Some b) = refl
