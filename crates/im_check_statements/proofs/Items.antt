-- The items of a block, one behind the other.
use Rattle.std.proofs.Common.{◌≡◌, ℕ, ◌+◌, ◌<◌, ◌≤◌, List, [], ◌∷◌, ◌++◌, length, drop, get_or, Result, Ok, Err, MatchResult, refl, sym, ap, ◌∙◌, subst, append_assoc}
use Rattle.std.proofs.lemmas.List.{append-nil, drop_more, drop_all}
use Rattle.im_ctree.specs.Tree as t
use Rattle.im_ctree.specs.Shape.{block_items_of, declaration_of}
use Rattle.im_ctree.specs.declared.declaration.Declaration.{Declaration}
use Rattle.im_ctree.specs.declared.statement.BlockItem as bi
use Rattle.im_ctree.specs.declared.statement.BlockItem.{BlockItem}
use Rattle.im_ctree.specs.declared.statement.Statement.{Statement}
use Rattle.im_ctree_parts.specs.Lists.{statement_in}
use Rattle.im_ctype.specs.Table.{Table}
use Rattle.im_typed.specs.Program as p
use Rattle.im_typed.specs.Program.{LocalObject}
use Rattle.im_typed.specs.ProgramOf.{stmt_of}
use Rattle.im_typed.specs.declared.statement.Stmt as rs
use Rattle.im_check_statement_forms.specs.im_word.Words.{Name}
use Rattle.im_rules.specs.Statements.{Added, and_then, nothing_added, appended, TypedItems, no_item, a_declaration, a_statement}
use Rattle.im_rules.specs.BodyBreaks as b
use Rattle.im_rules.specs.BodyBreaks.{some_items}
use Rattle.im_check_statement_forms.specs.im_rules_limits.Limits.{IsBodyWithin}
use Rattle.im_check_stop.specs.declared.stop.Stop.{Stop}
use Rattle.im_check_sites.specs.declared.body.Body.{Body}
use Rattle.im_check_sites.specs.declared.position.Position.{Position}
use Rattle.im_check_sites.specs.Sites.{site_of, IsBodyFault}
use Rattle.im_check_sites.specs.Stmts.{stmts_before, stmts_from}
use Rattle.im_check_sites.proofs.Sites.{past_site, declared_none, declared_then, declared_past, structs_stay}
use Rattle.im_check_statement_forms.specs.Declarations.{DeclarationDone, IsDeclarationFault}
use Rattle.im_check_statement_forms.specs.Done.{StatementDone}
use Rattle.im_check_statements.specs.Checked.{ItemDone, IsItemFault, ItemsReached, ItemsDone}
use Rattle.im_check_statement_forms.proofs.Parts.{moved_within, part_fault}
use Rattle.im_check_statements.proofs.Within.{no_item_within, declaration_within, statement_within}

pub next : {X : Type 0} (xs : List X) (i : ℕ) (x : X) → i < length xs → x ≡ get_or xs i x → drop i xs ≡ x ∷ drop (i + 1) xs
next xs i x below is = drop_more xs i x below ∙ ap (λ y. y ∷ drop (i + 1) xs) (sym is)

pub last : {X : Type 0} (xs : List X) (i : ℕ) → length xs ≤ i → drop i xs ≡ []
last xs i all = drop_all i xs all

-- what is added in two steps

abbrev added_of : List LocalObject → List Name → Added
added_of os ss = record { objects = os; strings = ss }

pub added_behind : (m n k : Added) → and_then m (and_then n k) ≡ and_then (and_then m n) k
added_behind m n k =
    ap (λ z. added_of z (m.strings ++ (n.strings ++ k.strings))) (sym (append_assoc m.objects n.objects k.objects)) ∙ ap (λ z. added_of ((m.objects ++ n.objects) ++ k.objects) z) (sym (append_assoc m.strings n.strings k.strings))

pub added_last : (m : Added) → and_then m nothing_added ≡ m
added_last m = ap (λ z. added_of z (m.strings ++ [])) (append-nil m.objects) ∙ ap (λ z. added_of m.objects z) (append-nil m.strings)

pub appended_before : (types : Table) (us : List rs.Stmt) (vs : p.Stmts) → appended (stmts_from types us) vs ≡ stmts_before types us vs
appended_before types [] vs = refl
appended_before types (u ∷ us) vs = ap (λ z. p.more_stmts (stmt_of types u) z) (appended_before types us vs)

pub before_both : (types : Table) (us vs : List rs.Stmt) (ws : p.Stmts) → stmts_before types us (stmts_before types vs ws) ≡ stmts_before types (us ++ vs) ws
before_both types [] vs ws = refl
before_both types (u ∷ us) vs ws = ap (λ z. p.more_stmts (stmt_of types u) z) (before_both types us vs ws)

pub item_stated : {w : Position} {b0 b1 : Body} {d0 d1 : List rs.Stmt} {u : rs.Stmt} (s : Statement)
    → StatementDone w b0 (statement_in s) b1 u
    → d1 ≡ d0 ++ u ∷ []
    → ItemDone w b0 d0 (bi.Statement s) b1 d1
item_stated {w = w} {b0 = b0} {b1 = b1} {u = u} s d pushed = record {
  entries = [];
  added = d.added;
  behind = declared_past d.past;
  statements = u ∷ [];
  done_grown = pushed;
  goes_on = λ is us m x. a_statement d.typed (subst (λ z. TypedItems z (block_items_of is) us m) (past_site d.past w) x);
  faults_on = λ is f h. part_fault b0 b1 w w (b.behind_statement d.typed) (past_site d.past w) f h;
  within_on = λ is h. statement_within d.typed d.within (moved_within (past_site d.past w) h);
}

pub item_declared : {b0 b1 : Body} {d0 d1 : List rs.Stmt} (w : Position) (d : Declaration)
    → DeclarationDone b0 b1 d0 d1 (declaration_of d)
    → ItemDone w b0 d0 (bi.Declaration d) b1 d1
item_declared {b0 = b0} {b1 = b1} w d h = record {
  entries = h.entries;
  added = h.added;
  behind = h.behind;
  statements = h.statements;
  done_grown = h.done_grown;
  goes_on = λ is us m x.
      subst (λ z. TypedItems (site_of b0 w) (t.declaration_item (declaration_of d) (block_items_of is)) z (and_then h.added m)) (appended_before b0.place.structs h.statements us)
      (a_declaration (h.typed w) x);
  faults_on = λ is f x. part_fault b0 b1 w w (b.behind_declaration (h.typed w)) refl f x;
  within_on = λ is x. declaration_within (h.typed w) (h.within w) x;
}

pub stated_fault : (w : Position) (s : Body) (x : Statement) (f : Stop) → IsBodyFault s w (b.a_statement (statement_in x)) f → IsItemFault w s (bi.Statement x) f
stated_fault w s x f h = λ is. part_fault s s w w b.item_statement refl f h

pub declared_fault : (w : Position) (s : Body) (d : Declaration) (f : Stop) → IsDeclarationFault s (declaration_of d) f → IsItemFault w s (bi.Declaration d) f
declared_fault w s d f h = λ is. part_fault s s w w b.item_declaration refl f (h w)

-- what is answered of a declaration, as an item
pub declared_result : (w : Position) (b0 b1 : Body) (d0 d1 : List rs.Stmt) (d : Declaration) (result : Result (Unit {0}) Stop)
    → MatchResult result (λ u. DeclarationDone b0 b1 d0 d1 (declaration_of d)) (IsDeclarationFault b0 (declaration_of d))
    → MatchResult result (λ u. ItemDone w b0 d0 (bi.Declaration d) b1 d1) (IsItemFault w b0 (bi.Declaration d))
declared_result w b0 b1 d0 d1 d (Ok u) h = item_declared w d h
declared_result w b0 b1 d0 d1 d (Err f) h = declared_fault w b0 d f h

pub reached_none : (w : Position) (s : Body) (xs : List BlockItem) → ItemsReached w s s [] xs 0
reached_none w s xs = record {
  entries = [];
  added = nothing_added;
  behind = declared_none s;
  goes_on = λ us m x. x;
  faults_on = λ f h. h;
  within_on = λ h. h;
}

pub reached_more : {w : Position} {b0 b1 b2 : Body} {d1 d2 : List rs.Stmt} {xs : List BlockItem} {i : ℕ} {x : BlockItem}
    → drop i xs ≡ x ∷ drop (i + 1) xs
    → ItemsReached w b0 b1 d1 xs i
    → ItemDone w b1 d1 x b2 d2
    → ItemsReached w b0 b2 d2 xs (i + 1)
reached_more {w = w} {b0 = b0} {b1 = b1} {b2 = b2} {d1 = d1} {xs = xs} {i = i} {x = x} at r d = record {
  entries = r.entries ++ d.entries;
  added = and_then r.added d.added;
  behind = declared_then r.behind d.behind;
  goes_on = λ us m g.
      let types = b0.place.structs in
      let s = site_of b0 w in
      let rest = drop (i + 1) xs in
      let m' = and_then d.added m in
      let one = subst (λ z. TypedItems (site_of b1 w) (block_items_of (x ∷ rest)) (stmts_before z d.statements us) m') (structs_stay r.behind.added) (d.goes_on rest us m g) in
      let all = r.goes_on (stmts_before types d.statements us) m' (subst (λ z. TypedItems (site_of b1 w) (block_items_of z) (stmts_before types d.statements us) m') (sym at) one) in
      subst (λ z. TypedItems s (block_items_of xs) (stmts_before types z us) (and_then (and_then r.added d.added) m)) (sym d.done_grown)
      (subst (λ z. TypedItems s (block_items_of xs) z (and_then (and_then r.added d.added) m)) (before_both types d1 d.statements us)
      (subst (λ z. TypedItems s (block_items_of xs) (stmts_before types d1 (stmts_before types d.statements us)) z) (added_behind r.added d.added m) all));
  faults_on = λ f h. r.faults_on f (subst (λ z. IsBodyFault b1 w (some_items (block_items_of z)) f) (sym at) (d.faults_on (drop (i + 1) xs) f h));
  within_on = λ h. r.within_on (subst (λ z. IsBodyWithin (site_of b1 w) (some_items (block_items_of z))) (sym at) (d.within_on (drop (i + 1) xs) h));
}

pub reached_fault : {w : Position} {b0 b1 : Body} {d1 : List rs.Stmt} {xs : List BlockItem} {i : ℕ} {x : BlockItem} (f : Stop)
    → drop i xs ≡ x ∷ drop (i + 1) xs
    → ItemsReached w b0 b1 d1 xs i
    → IsItemFault w b1 x f
    → IsBodyFault b0 w (some_items (block_items_of xs)) f
reached_fault {w = w} {b1 = b1} {xs = xs} {i = i} f at r h = r.faults_on f (subst (λ z. IsBodyFault b1 w (some_items (block_items_of z)) f) (sym at) (h (drop (i + 1) xs)))

pub reached_all : {w : Position} {b0 b1 : Body} {d1 : List rs.Stmt} {xs : List BlockItem} {i : ℕ}
    → drop i xs ≡ []
    → ItemsReached w b0 b1 d1 xs i
    → ItemsDone w b0 xs b1 d1
reached_all {w = w} {b0 = b0} {b1 = b1} {d1 = d1} {xs = xs} at r = record {
  entries = r.entries;
  added = r.added;
  behind = r.behind;
  typed =
      let whole = r.goes_on p.no_stmts nothing_added (subst (λ z. TypedItems (site_of b1 w) (block_items_of z) p.no_stmts nothing_added) (sym at) no_item) in
      subst (λ z. TypedItems (site_of b0 w) (block_items_of xs) (stmts_from b0.place.structs d1) z) (added_last r.added) whole;
  within = r.within_on (subst (λ z. IsBodyWithin (site_of b1 w) (some_items (block_items_of z))) (sym at) no_item_within);
}
