-- What is typed at a place that is known by an equation.
use Rattle.std.proofs.Common.{◌≡◌, ◌+◌, List, ◌++◌, length, ap, subst, length-append, arith}
use Rattle.im_check_statement_forms.specs.im_word.Words.{Name}
use Rattle.im_ctree.specs.Tree as t
use Rattle.im_ctype.specs.Table.{Table}
use Rattle.im_typed.specs.ProgramOf.{stmt_of}
use Rattle.im_typed.specs.declared.statement.Stmt as rs
use Rattle.im_rules.specs.Context.{Context, behind_strings}
use Rattle.im_rules.specs.Statements.{Site, Added, TypedStatement, TypedItems}
use Rattle.im_check_sites.specs.Stmts.{stmts_from}

pub moved_statement : {s z : Site} {a b : Table} {tree : t.Statement} {m : Added} (u : rs.Stmt) → s ≡ z → a ≡ b → TypedStatement s tree (stmt_of a u) m → TypedStatement z tree (stmt_of b u) m
moved_statement {z = z} {a = a} {tree = tree} {m = m} u e f d = subst (λ x. TypedStatement z tree (stmt_of x u) m) f (subst (λ x. TypedStatement x tree (stmt_of a u) m) e d)

pub moved_items : {s z : Site} {a b : Table} {is : t.BlockItems} {m : Added} (us : List rs.Stmt) → s ≡ z → a ≡ b → TypedItems s is (stmts_from a us) m → TypedItems z is (stmts_from b us) m
moved_items {z = z} {a = a} {is = is} {m = m} us e f d = subst (λ x. TypedItems z is (stmts_from x us) m) f (subst (λ x. TypedItems x is (stmts_from a us) m) e d)

pub behind_both : (xs ys : List Name) (c : Context) → behind_strings (xs ++ ys) c ≡ behind_strings ys (behind_strings xs c)
behind_both xs ys c =
    let e : c.next_string + length (xs ++ ys) ≡ c.next_string + length xs + length ys = omega (arith, length-append xs ys) in
    ap (λ n. record c { next_string = n }) e
