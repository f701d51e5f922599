-- Labels, and the items of a switch's block.
use Rattle.std.proofs.Common.{◌≡◌, ℕ, ℤ, ◌+◌, suc, false, List, [], ◌∷◌, ◌++◌, length, drop, Option, Some, None, Result, Ok, Err, MatchResult, refl, sym, ap, ◌∙◌, subst, append_assoc, length-append}
use Rattle.std.proofs.lemmas.List.{append-nil, length_push}
use Rattle.im_ctree.specs.Tree as t
use Rattle.im_ctree.specs.Shape.{block_items_of, declaration_of}
use Rattle.im_ctree.specs.declared.declaration.Declaration.{Declaration}
use Rattle.im_ctree.specs.declared.statement.BlockItem as bi
use Rattle.im_ctree.specs.declared.statement.BlockItem.{BlockItem}
use Rattle.im_ctree.specs.declared.statement.Statement.{Statement}
use Rattle.im_ctree_parts.specs.Lists.{statement_in}
use Rattle.im_ctype.specs.Table.{Table}
use Rattle.im_ctype.specs.declared.integer.Integer.{Integer}
use Rattle.im_typed.specs.declared.statement.Case.{Case}
use Rattle.im_typed.specs.Program as p
use Rattle.im_typed.specs.ProgramOf.{stmt_of}
use Rattle.im_typed.specs.declared.statement.Stmt as rs
use Rattle.im_rules.specs.Strings.{strings_in}
use Rattle.im_rules.specs.Terms as r
use Rattle.im_rules.specs.Statements as st
use Rattle.im_rules.specs.Statements.{Cases, just_strings, and_then, nothing_added, past, past_expression, appended, with_cases, no_cases, first_of, with_constant, with_default, case_at, label_value, case_asks, default_asks, count_stmts, TypedCases, Labelled, no_case, between_cases, a_labelled, no_label, of_case, of_default}
use Rattle.im_rules.specs.BodyBreaks as b
use Rattle.im_rules.specs.BodyBreaks.{BodyBroken, here_in_body, some_cases, is_label}
use Rattle.im_check_statement_forms.specs.im_rules_limits.Limits.{IsBodyWithin}
use Rattle.im_check_stop.specs.declared.stop.Stop.{Stop}
use Rattle.im_check_stop.specs.declared.stop.Stop.TheVariants.{Rule, Large, Memory}
use Rattle.im_check_stop.specs.Answers.{IsRefusal}
use Rattle.im_check_sites.specs.declared.body.Body.{Body}
use Rattle.im_check_sites.specs.declared.position.Position.{Position}
use Rattle.im_check_sites.specs.Sites.{site_of, IsBodyFault}
use Rattle.im_check_sites.specs.Stmts.{stmts_before, stmts_from}
use Rattle.im_check_sites.proofs.Sites.{past_then, past_site, declared_none, declared_then, declared_past, structs_stay}
use Rattle.im_check_statement_forms.specs.Declarations.{DeclarationDone, IsDeclarationFault}
use Rattle.im_check_statement_forms.specs.declared.labels.Labels.{Labels}
use Rattle.im_check_statement_forms.specs.Asked.{IsAskedFault}
use Rattle.im_check_statement_forms.specs.Done.{StatementDone, IsLeaf}
use Rattle.im_check_statement_forms.specs.Labelling.{constants_behind, defaults_in, labels_of, no_labels, Tells, DefaultAdded, CaseDone}
use Rattle.im_check_statement_forms.proofs.Adding.{constants_push}
use Rattle.im_check_statement_forms.proofs.Asking.{asked_fault}
use Rattle.im_check_statement_forms.proofs.Behind.{site_behind}
use Rattle.im_check_statement_forms.proofs.Rows.{count_from}
use Rattle.im_check_statements.specs.Checked.{LabelledDone, IsLabelledFault, CaseItemDone, IsCaseItemFault, CasesReached, CasesDone}
use Rattle.im_check_statements.proofs.Items.{appended_before, before_both, added_behind, added_last}
use Rattle.im_check_statement_forms.proofs.Parts.{moved_within, part_fault}
use Rattle.im_check_statements.proofs.Within.{no_case_within, between_within, case_within, unlabelled_within, of_case_within, of_default_within}

abbrev labels : List ℤ → ℕ → st.Labels
labels zs n = record { constants = zs; defaults = n }

first_none : (o : Option ℕ) → o ≡ first_of o None
first_none None = refl
first_none (Some n) = refl

first_both : (o d e : Option ℕ) → first_of o (first_of d e) ≡ first_of (first_of o d) e
first_both None d e = refl
first_both (Some n) d e = refl

-- a statement without a label
pub done_unlabelled : {w : Position} {b0 b1 : Body} {tree : t.Statement} {u : rs.Stmt} (ty : Integer) (n : ℕ) (l : Labels)
    → is_label tree ≡ false
    → Tells l
    → StatementDone w b0 tree b1 u
    → LabelledDone ty n w b0 l tree b1 l u
done_unlabelled ty n l plain told d = record {
  added = d.added;
  past = d.past;
  cases = [];
  cases_grown = sym (append-nil l.cases.items);
  otherwise = None;
  otherwise_first = first_none l.otherwise;
  told = told;
  typed = no_label d.typed;
  within = unlabelled_within plain d.within;
}

case_labels : {b0 b1 : Body} {e : t.Expression} {ty : Integer} {n : ℕ} {l0 l1 : Labels} (c : CaseDone b0 e ty n l0 b1 l1) → labels_of l1 ≡ with_constant (label_value ty (r.constant_in c.term)) (labels_of l0)
case_labels {ty = ty} {n = n} {l0 = l0} {l1 = l1} c =
    let z = label_value ty (r.constant_in c.term) in
    ap (λ w. labels (constants_behind [] w) (defaults_in l1.otherwise)) c.cases ∙ ap (λ w. labels w (defaults_in l1.otherwise)) (constants_push [] l0.cases.items (case_at z n)) ∙ ap (λ w. labels (z ∷ constants_behind [] l0.cases.items) (defaults_in w)) c.otherwise

default_labels : {n : ℕ} {l0 l1 : Labels} → DefaultAdded l0 l1 n → labels_of l1 ≡ with_default (labels_of l0)
default_labels {l0 = l0} {l1 = l1} c =
    ap (λ w. labels (constants_behind [] w) (defaults_in l1.otherwise)) c.cases ∙ ap (λ w. labels (constants_behind [] l0.cases.items) (defaults_in w)) c.otherwise ∙ ap (λ w. labels (constants_behind [] l0.cases.items) (suc (defaults_in w))) (sym c.none)

pub done_case : {w : Position} {b0 b1 b2 : Body} {e : t.Expression} {tree : t.Statement} {u : rs.Stmt} {ty : Integer} {n : ℕ} {l0 l1 l2 : Labels} (at : ℕ)
    → CaseDone b0 e ty n l0 b1 l1
    → LabelledDone ty n w b1 l1 tree b2 l2 u
    → LabelledDone ty n w b0 l0 (t.case_statement at e tree) b2 l2 u
done_case {w = w} {b0 = b0} {b1 = b1} {e = e} {tree = tree} {u = u} {ty = ty} {n = n} {l0 = l0} {l1 = l1} {l2 = l2} at c d =
    let z = label_value ty (r.constant_in c.term) in
    let s = past_expression e (site_of b0 w) in
    let placed : Labelled ty s n (labels_of l1) tree (labels_of l2) (stmt_of b1.place.structs u) d.cases d.otherwise d.added =
    subst (λ x. Labelled ty x n (labels_of l1) tree (labels_of l2) (stmt_of b1.place.structs u) d.cases d.otherwise d.added) (site_behind w c.past) d.typed in
    let told : Labelled ty s n (labels_of l1) tree (labels_of l2) (stmt_of b0.place.structs u) d.cases d.otherwise d.added =
    subst (λ x. Labelled ty s n (labels_of l1) tree (labels_of l2) (stmt_of x u) d.cases d.otherwise d.added) (structs_stay c.past.added) placed in
    record {
      added = and_then (just_strings (strings_in e)) d.added;
      past = past_then c.past d.past;
      cases = case_at z n ∷ d.cases;
      cases_grown = d.cases_grown ∙ ap (λ x. x ++ d.cases) c.cases ∙ append_assoc l0.cases.items (case_at z n ∷ []) d.cases;
      otherwise = d.otherwise;
      otherwise_first = d.otherwise_first ∙ ap (λ x. first_of x d.otherwise) c.otherwise;
      told = d.told;
      typed = of_case c.typed c.meets (subst (λ x. Labelled ty s n x tree (labels_of l2) (stmt_of b0.place.structs u) d.cases d.otherwise d.added) (case_labels c) told);
      within = of_case_within c.typed c.within (subst (λ x. IsBodyWithin s (b.a_labelled ty n x tree)) (case_labels c) (moved_within (site_behind w c.past) d.within));
    }

pub done_default : {w : Position} {b0 b1 : Body} {tree : t.Statement} {u : rs.Stmt} {ty : Integer} {n : ℕ} {l0 l1 l2 : Labels} (at : ℕ)
    → DefaultAdded l0 l1 n
    → LabelledDone ty n w b0 l1 tree b1 l2 u
    → LabelledDone ty n w b0 l0 (t.default_statement at tree) b1 l2 u
done_default {w = w} {b0 = b0} {tree = tree} {u = u} {ty = ty} {n = n} {l2 = l2} at c d = record {
  added = d.added;
  past = d.past;
  cases = d.cases;
  cases_grown = d.cases_grown ∙ ap (λ x. x ++ d.cases) c.cases;
  otherwise = Some n;
  otherwise_first = d.otherwise_first ∙ ap (λ x. first_of x d.otherwise) c.otherwise ∙ ap (λ x. first_of x (Some n)) (sym c.none);
  told = d.told;
  typed = of_default c.meets (subst (λ x. Labelled ty (site_of b0 w) n x tree (labels_of l2) (stmt_of b0.place.structs u) d.cases d.otherwise d.added) (default_labels c) d.typed);
  within = of_default_within (subst (λ x. IsBodyWithin (site_of b0 w) (b.a_labelled ty n x tree)) (default_labels c) d.within);
}

pub unlabelled_fault : (ty : Integer) (n : ℕ) (w : Position) (s : Body) (l : Labels) (tree : t.Statement) (f : Stop)
    → is_label tree ≡ false
    → IsBodyFault s w (b.a_statement tree) f → IsLabelledFault ty n w s l tree f
unlabelled_fault ty n w s l tree f plain h = part_fault s s w w (b.unlabelled plain) refl f h

pub case_fault : (ty : Integer) (n : ℕ) (w : Position) (s : Body) (l : Labels) (at : ℕ) (e : t.Expression) (tree : t.Statement) (f : Stop)
    → IsAskedFault (λ x. case_asks ty x (labels_of l)) s e at f → IsLabelledFault ty n w s l (t.case_statement at e tree) f
case_fault ty n w s l at e tree =
    asked_fault s w (b.a_labelled ty n (labels_of l) (t.case_statement at e tree)) (λ x. case_asks ty x (labels_of l)) e at b.case_constant (λ rule x. b.at_case) refl

pub behind_case_fault : {b0 b1 : Body} {e : t.Expression} {ty : Integer} {n : ℕ} {l0 l1 : Labels} (w : Position) (at : ℕ) (tree : t.Statement) (f : Stop)
    → CaseDone b0 e ty n l0 b1 l1
    → IsLabelledFault ty n w b1 l1 tree f
    → IsLabelledFault ty n w b0 l0 (t.case_statement at e tree) f
behind_case_fault {b0 = b0} {b1 = b1} {ty = ty} {n = n} w at tree f c h =
    part_fault b0 b1 w w (b.behind_case c.typed) (site_behind w c.past) f (subst (λ x. IsBodyFault b1 w (b.a_labelled ty n x tree) f) (case_labels c) h)

pub default_fault : (ty : Integer) (n : ℕ) (w : Position) (s : Body) (l : Labels) (at : ℕ) (tree : t.Statement) (f : Stop)
    → IsRefusal (default_asks (labels_of l)) at f → IsLabelledFault ty n w s l (t.default_statement at tree) f
default_fault ty n w s l at tree (Rule rule token) h =
    subst (λ x. BodyBroken (site_of s w) (b.a_labelled ty n (labels_of l) (t.default_statement at tree)) rule x) (sym h.1) (here_in_body (b.at_default h.0))
default_fault ty n w s l at tree (Large bytes) h = absurd h
default_fault ty n w s l at tree Memory h = tt

pub behind_default_fault : (ty : Integer) {n : ℕ} {l0 l1 : Labels} (w : Position) (s : Body) (at : ℕ) (tree : t.Statement) (f : Stop)
    → DefaultAdded l0 l1 n
    → IsLabelledFault ty n w s l1 tree f
    → IsLabelledFault ty n w s l0 (t.default_statement at tree) f
behind_default_fault ty {n = n} w s at tree f c h =
    part_fault s s w w b.behind_default refl f (subst (λ x. IsBodyFault s w (b.a_labelled ty n x tree) f) (default_labels c) h)

-- items

pub case_stated : {w : Position} {b0 b1 : Body} {d0 d1 : List rs.Stmt} {l0 l1 : Labels} {ty : Integer} {n : ℕ} {u : rs.Stmt} (x : Statement)
    → LabelledDone ty n w b0 l0 (statement_in x) b1 l1 u
    → n ≡ length d0
    → d1 ≡ d0 ++ u ∷ []
    → CaseItemDone ty w b0 d0 l0 (bi.Statement x) b1 d1 l1
case_stated {w = w} {b0 = b0} {b1 = b1} {d0 = d0} {d1 = d1} {l0 = l0} {l1 = l1} {ty = ty} {n = n} {u = u} x d count pushed =
    let s = site_of b0 w in
    let longer : length d1 ≡ length d0 + 1 = ap length pushed ∙ length_push d0 u in
    let first : Labelled ty s (length d0) (labels_of l0) (statement_in x) (labels_of l1) (stmt_of b0.place.structs u) d.cases d.otherwise d.added =
    subst (λ z. Labelled ty s z (labels_of l0) (statement_in x) (labels_of l1) (stmt_of b0.place.structs u) d.cases d.otherwise d.added) count d.typed in
    record {
      entries = [];
      added = d.added;
      behind = declared_past d.past;
      statements = u ∷ [];
      done_grown = pushed;
      cases = d.cases;
      cases_grown = d.cases_grown;
      otherwise = d.otherwise;
      otherwise_first = d.otherwise_first;
      told = d.told;
      goes_on = λ is c m g.
          let rest = subst (λ z. TypedCases ty z (length d1) (labels_of l1) (block_items_of is) c m) (past_site d.past w) g in
          a_labelled first (subst (λ z. TypedCases ty (past d.added s) z (labels_of l1) (block_items_of is) c m) longer rest);
      faults_on = λ is f h.
          part_fault b0 b1 w w (b.cases_behind_statement first) (past_site d.past w) f
          (subst (λ z. IsBodyFault b1 w (some_cases ty z (labels_of l1) (block_items_of is)) f) longer h);
      within_on = λ is h.
          case_within first (subst (λ z. IsBodyWithin s (b.a_labelled ty z (labels_of l0) (statement_in x))) count d.within)
          (subst (λ z. IsBodyWithin (past d.added s) (some_cases ty z (labels_of l1) (block_items_of is))) longer (moved_within (past_site d.past w) h));
    }

pub case_declared : {b0 b1 : Body} {d0 d1 : List rs.Stmt} (ty : Integer) (w : Position) (l : Labels) (d : Declaration)
    → Tells l
    → DeclarationDone b0 b1 d0 d1 (declaration_of d)
    → CaseItemDone ty w b0 d0 l (bi.Declaration d) b1 d1 l
case_declared {b0 = b0} {b1 = b1} {d0 = d0} {d1 = d1} ty w l d told h =
    let longer : length d1 ≡ length d0 + count_stmts (stmts_from b0.place.structs h.statements) = ap length h.done_grown ∙ length-append d0 h.statements ∙ ap (λ z. length d0 + z) (sym (count_from b0.place.structs h.statements)) in
    record {
      entries = h.entries;
      added = h.added;
      behind = h.behind;
      statements = h.statements;
      done_grown = h.done_grown;
      cases = [];
      cases_grown = sym (append-nil l.cases.items);
      otherwise = None;
      otherwise_first = first_none l.otherwise;
      told = told;
      goes_on = λ is c m g. between_cases (h.typed w) (subst (λ z. TypedCases ty (site_of b1 w) z (labels_of l) (block_items_of is) c m) longer g);
      faults_on = λ is f g.
          part_fault b0 b1 w w (b.cases_behind_declaration (h.typed w)) refl f (subst (λ z. IsBodyFault b1 w (some_cases ty z (labels_of l) (block_items_of is)) f) longer g);
      within_on = λ is g.
          between_within (h.typed w) (h.within w) (subst (λ z. IsBodyWithin (site_of b1 w) (some_cases ty z (labels_of l) (block_items_of is))) longer g);
    }

pub case_stated_fault : (ty : Integer) (w : Position) (s : Body) (n j : ℕ) (l : Labels) (x : Statement) (f : Stop)
    → n ≡ j
    → IsLabelledFault ty n w s l (statement_in x) f → IsCaseItemFault ty w s j l (bi.Statement x) f
case_stated_fault ty w s n j l x f count h = λ is.
    part_fault s s w w b.case_statement refl f (subst (λ z. IsBodyFault s w (b.a_labelled ty z (labels_of l) (statement_in x)) f) count h)

pub case_declared_fault : (ty : Integer) (w : Position) (s : Body) (n : ℕ) (l : Labels) (d : Declaration) (f : Stop)
    → IsDeclarationFault s (declaration_of d) f → IsCaseItemFault ty w s n l (bi.Declaration d) f
case_declared_fault ty w s n l d f h = λ is. part_fault s s w w b.case_declaration refl f (h w)

-- what is answered of the parts of an item

pub unlabelled_result : (ty : Integer) (n : ℕ) (w : Position) (b0 b1 : Body) (l : Labels) (tree : t.Statement) (result : Result rs.Stmt Stop)
    → is_label tree ≡ false
    → Tells l
    → IsLeaf w b0 tree b1 result
    → MatchResult result (LabelledDone ty n w b0 l tree b1 l) (IsLabelledFault ty n w b0 l tree)
unlabelled_result ty n w b0 b1 l tree (Ok u) plain told h = done_unlabelled ty n l plain told h
unlabelled_result ty n w b0 b1 l tree (Err f) plain told h = unlabelled_fault ty n w b0 l tree f plain h

pub behind_case_result : {b0 b1 : Body} {e : t.Expression} {ty : Integer} {n : ℕ} {l0 l1 : Labels} (w : Position) (b2 : Body) (l2 : Labels) (at : ℕ) (tree : t.Statement) (result : Result rs.Stmt Stop)
    → CaseDone b0 e ty n l0 b1 l1
    → MatchResult result (LabelledDone ty n w b1 l1 tree b2 l2) (IsLabelledFault ty n w b1 l1 tree)
    → MatchResult result (LabelledDone ty n w b0 l0 (t.case_statement at e tree) b2 l2) (IsLabelledFault ty n w b0 l0 (t.case_statement at e tree))
behind_case_result w b2 l2 at tree (Ok u) c h = done_case at c h
behind_case_result w b2 l2 at tree (Err f) c h = behind_case_fault w at tree f c h

pub behind_default_result : {n : ℕ} {l0 l1 : Labels} (ty : Integer) (w : Position) (b0 b1 : Body) (l2 : Labels) (at : ℕ) (tree : t.Statement) (result : Result rs.Stmt Stop)
    → DefaultAdded l0 l1 n
    → MatchResult result (LabelledDone ty n w b0 l1 tree b1 l2) (IsLabelledFault ty n w b0 l1 tree)
    → MatchResult result (LabelledDone ty n w b0 l0 (t.default_statement at tree) b1 l2) (IsLabelledFault ty n w b0 l0 (t.default_statement at tree))
behind_default_result ty w b0 b1 l2 at tree (Ok u) c h = done_default at c h
behind_default_result ty w b0 b1 l2 at tree (Err f) c h = behind_default_fault ty w b0 at tree f c h

pub case_declared_result : (ty : Integer) (w : Position) (b0 b1 : Body) (d0 d1 : List rs.Stmt) (l : Labels) (d : Declaration) (result : Result (Unit {0}) Stop)
    → Tells l
    → MatchResult result (λ u. DeclarationDone b0 b1 d0 d1 (declaration_of d)) (IsDeclarationFault b0 (declaration_of d))
    → MatchResult result (λ u. CaseItemDone ty w b0 d0 l (bi.Declaration d) b1 d1 l) (IsCaseItemFault ty w b0 (length d0) l (bi.Declaration d))
case_declared_result ty w b0 b1 d0 d1 l d (Ok u) told h = case_declared ty w l d told h
case_declared_result ty w b0 b1 d0 d1 l d (Err f) told h = case_declared_fault ty w b0 (length d0) l d f h

-- one behind the other

abbrev cases_of : p.Stmts → List Case → Option ℕ → Cases
cases_of us ks o = record { statements = us; cases = ks; otherwise = o }

cases_both : (types : Table) (us vs : List rs.Stmt) (ks ls : List Case) (o d : Option ℕ) (c : Cases)
    → with_cases (stmts_from types us) ks o (with_cases (stmts_from types vs) ls d c) ≡ with_cases (stmts_from types (us ++ vs)) (ks ++ ls) (first_of o d) c
cases_both types us vs ks ls o d c =
    let e : appended (stmts_from types us) (appended (stmts_from types vs) c.statements) ≡ appended (stmts_from types (us ++ vs)) c.statements =
    appended_before types us (appended (stmts_from types vs) c.statements) ∙ ap (stmts_before types us) (appended_before types vs c.statements) ∙ before_both types us vs c.statements ∙ sym (appended_before types (us ++ vs) c.statements) in
    ap (λ z. cases_of z (ks ++ (ls ++ c.cases)) (first_of o (first_of d c.otherwise))) e
    ∙ ap (λ z. cases_of (appended (stmts_from types (us ++ vs)) c.statements) z (first_of o (first_of d c.otherwise))) (sym (append_assoc ks ls c.cases))
    ∙ ap (λ z. cases_of (appended (stmts_from types (us ++ vs)) c.statements) ((ks ++ ls) ++ c.cases) z) (first_both o d c.otherwise)

cases_ended : (types : Table) (us : List rs.Stmt) (ks : List Case) (o : Option ℕ) → with_cases (stmts_from types us) ks o no_cases ≡ cases_of (stmts_from types us) ks o
cases_ended types us ks o =
    ap (λ z. cases_of z (ks ++ []) (first_of o None)) (appended_before types us p.no_stmts) ∙ ap (λ z. cases_of (stmts_from types us) z (first_of o None)) (append-nil ks) ∙ ap (λ z. cases_of (stmts_from types us) ks z) (sym (first_none o))

pub cases_none : (ty : Integer) (w : Position) (s : Body) (l : Labels) (xs : List BlockItem)
    → Tells l → l.cases.items ≡ [] → l.otherwise ≡ None
    → CasesReached ty w s s [] l xs 0
cases_none ty w s l xs told no_case' no_default =
    let same : labels_of l ≡ no_labels = ap (λ z. labels (constants_behind [] z) (defaults_in l.otherwise)) no_case' ∙ ap (λ z. labels [] (defaults_in z)) no_default in
    record {
      entries = [];
      added = nothing_added;
      behind = declared_none s;
      told = told;
      goes_on = λ c m g.
          let begun : TypedCases ty (site_of s w) 0 no_labels (block_items_of xs) c m = subst (λ z. TypedCases ty (site_of s w) 0 z (block_items_of xs) c m) same g in
          subst (λ z. TypedCases ty (site_of s w) 0 no_labels (block_items_of xs) (with_cases p.no_stmts z l.otherwise c) m) (sym no_case')
          (subst (λ z. TypedCases ty (site_of s w) 0 no_labels (block_items_of xs) (with_cases p.no_stmts [] z c) m) (sym no_default) begun);
      faults_on = λ f h. subst (λ z. IsBodyFault s w (some_cases ty 0 z (block_items_of xs)) f) same h;
      within_on = λ h. subst (λ z. IsBodyWithin (site_of s w) (some_cases ty 0 z (block_items_of xs))) same h;
    }

pub cases_more : {ty : Integer} {w : Position} {b0 b1 b2 : Body} {d1 d2 : List rs.Stmt} {l1 l2 : Labels} {xs : List BlockItem} {i : ℕ} {x : BlockItem}
    → drop i xs ≡ x ∷ drop (i + 1) xs
    → CasesReached ty w b0 b1 d1 l1 xs i
    → CaseItemDone ty w b1 d1 l1 x b2 d2 l2
    → CasesReached ty w b0 b2 d2 l2 xs (i + 1)
cases_more {ty = ty} {w = w} {b0 = b0} {b1 = b1} {b2 = b2} {d1 = d1} {d2 = d2} {l1 = l1} {l2 = l2} {xs = xs} {i = i} {x = x} at g d = record {
  entries = g.entries ++ d.entries;
  added = and_then g.added d.added;
  behind = declared_then g.behind d.behind;
  told = d.told;
  goes_on = λ c m h.
      let types = b0.place.structs in
      let rest = drop (i + 1) xs in
      let s = site_of b0 w in
      let c' = with_cases (stmts_from types d.statements) d.cases d.otherwise c in
      let m' = and_then d.added m in
      let m'' = and_then (and_then g.added d.added) m in
      let one = subst (λ z. TypedCases ty (site_of b1 w) (length d1) (labels_of l1) (block_items_of (x ∷ rest)) (with_cases (stmts_from z d.statements) d.cases d.otherwise c) m') (structs_stay g.behind.added) (d.goes_on rest c m h) in
      let all = g.goes_on c' m' (subst (λ z. TypedCases ty (site_of b1 w) (length d1) (labels_of l1) (block_items_of z) c' m') (sym at) one) in
      subst (λ z. TypedCases ty s 0 no_labels (block_items_of xs) (with_cases (stmts_from types d2) l2.cases.items z c) m'') (sym d.otherwise_first)
      (subst (λ z. TypedCases ty s 0 no_labels (block_items_of xs) (with_cases (stmts_from types d2) z (first_of l1.otherwise d.otherwise) c) m'') (sym d.cases_grown)
      (subst (λ z. TypedCases ty s 0 no_labels (block_items_of xs) (with_cases (stmts_from types z) (l1.cases.items ++ d.cases) (first_of l1.otherwise d.otherwise) c) m'') (sym d.done_grown)
      (subst (λ z. TypedCases ty s 0 no_labels (block_items_of xs) z m'') (cases_both types d1 d.statements l1.cases.items d.cases l1.otherwise d.otherwise c)
      (subst (λ z. TypedCases ty s 0 no_labels (block_items_of xs) (with_cases (stmts_from types d1) l1.cases.items l1.otherwise c') z) (added_behind g.added d.added m) all))));
  faults_on = λ f h.
      g.faults_on f (subst (λ z. IsBodyFault b1 w (some_cases ty (length d1) (labels_of l1) (block_items_of z)) f) (sym at) (d.faults_on (drop (i + 1) xs) f h));
  within_on = λ h.
      g.within_on (subst (λ z. IsBodyWithin (site_of b1 w) (some_cases ty (length d1) (labels_of l1) (block_items_of z))) (sym at) (d.within_on (drop (i + 1) xs) h));
}

pub cases_reached_fault : {ty : Integer} {w : Position} {b0 b1 : Body} {d1 : List rs.Stmt} {l1 : Labels} {xs : List BlockItem} {i : ℕ} {x : BlockItem} (f : Stop)
    → drop i xs ≡ x ∷ drop (i + 1) xs
    → CasesReached ty w b0 b1 d1 l1 xs i
    → IsCaseItemFault ty w b1 (length d1) l1 x f
    → IsBodyFault b0 w (some_cases ty 0 no_labels (block_items_of xs)) f
cases_reached_fault {ty = ty} {w = w} {b1 = b1} {d1 = d1} {l1 = l1} {xs = xs} {i = i} f at g h =
    g.faults_on f (subst (λ z. IsBodyFault b1 w (some_cases ty (length d1) (labels_of l1) (block_items_of z)) f) (sym at) (h (drop (i + 1) xs)))

pub cases_all : {ty : Integer} {w : Position} {b0 b1 : Body} {d1 : List rs.Stmt} {l1 : Labels} {xs : List BlockItem} {i : ℕ}
    → drop i xs ≡ []
    → CasesReached ty w b0 b1 d1 l1 xs i
    → CasesDone ty w b0 xs b1 d1 l1.cases.items l1.otherwise
cases_all {ty = ty} {w = w} {b0 = b0} {b1 = b1} {d1 = d1} {l1 = l1} {xs = xs} at g = record {
  entries = g.entries;
  added = g.added;
  behind = g.behind;
  typed =
      let types = b0.place.structs in
      let s = site_of b0 w in
      let whole = g.goes_on no_cases nothing_added (subst (λ z. TypedCases ty (site_of b1 w) (length d1) (labels_of l1) (block_items_of z) no_cases nothing_added) (sym at) no_case) in
      let told = subst (λ z. TypedCases ty s 0 no_labels (block_items_of xs) (with_cases (stmts_from types d1) l1.cases.items l1.otherwise no_cases) z) (added_last g.added) whole in
      subst (λ z. TypedCases ty s 0 no_labels (block_items_of xs) z g.added) (cases_ended types d1 l1.cases.items l1.otherwise) told;
  within = g.within_on (subst (λ z. IsBodyWithin (site_of b1 w) (some_cases ty (length d1) (labels_of l1) (block_items_of z))) (sym at) no_case_within);
}
