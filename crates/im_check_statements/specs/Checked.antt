-- What is answered of blocks and of the blocks of switches.
use Rattle.std.specs.Prelude.{◌≡◌, ℕ, true, false, List, ◌∷◌, ◌++◌, length, drop, Option}
use Rattle.im_ctree.specs.Tree as t
use Rattle.im_ctree.specs.Shape.{block_items_of}
use Rattle.im_ctree.specs.declared.statement.BlockItem.{BlockItem}
use Rattle.im_ctype.specs.declared.integer.Integer.{Integer}
use Rattle.im_typed.specs.declared.statement.Case.{Case}
use Rattle.im_typed.specs.Program as p
use Rattle.im_typed.specs.ProgramOf.{stmt_of}
use Rattle.im_typed.specs.declared.statement.Stmt as rs
use Rattle.im_rules.specs.Statements.{Added, Cases, and_then, with_cases, first_of, TypedItems, TypedCases, Labelled}
use Rattle.im_rules.specs.BodyBreaks.{some_items, some_cases, a_labelled}
use Rattle.im_check_statement_forms.specs.im_rules_limits.Limits.{IsBodyWithin}
use Rattle.im_check_scopes.specs.declared.entity.Entry.{Entry}
use Rattle.im_check_stop.specs.declared.stop.Stop.{Stop}
use Rattle.im_check_sites.specs.declared.body.Body.{Body}
use Rattle.im_check_sites.specs.declared.position.Position.{Position}
use Rattle.im_check_sites.specs.Sites.{site_of, IsDeclared, IsPast, IsBodyFault}
use Rattle.im_check_sites.specs.Stmts.{stmts_before, stmts_from}
use Rattle.im_check_statement_forms.specs.declared.labels.Labels.{Labels}
use Rattle.im_check_statement_forms.specs.Labelling.{labels_of, no_labels, Tells}

-- where no loop and no switch stands round
abbrev pub alone : Position
alone = record { in_loop = false; in_switch = false }

abbrev pub looped_in : Position → Position
looped_in w = record { in_loop = true; in_switch = w.in_switch }

abbrev pub switched_in : Position → Position
switched_in w = record { in_loop = w.in_loop; in_switch = true }

-- what the items of a block leave: names behind those before them, and their objects; no size in them is over the limit
pub record ItemsDone (w : Position) (before : Body) (xs : List BlockItem) (after : Body) (us : List rs.Stmt) : Type 0 where
  pub entries : List Entry
  pub added : Added
  pub behind : IsDeclared entries added before after
  pub typed : TypedItems (site_of before w) (block_items_of xs) (stmts_from before.place.structs us) added
  pub within : IsBodyWithin (site_of before w) (some_items (block_items_of xs))

-- what an item leaves: whatever is typed, at fault, or within the limit behind it is so with it
pub record ItemDone (w : Position) (before : Body) (done : List rs.Stmt) (x : BlockItem) (after : Body) (done' : List rs.Stmt) : Type 0 where
  pub entries : List Entry
  pub added : Added
  pub behind : IsDeclared entries added before after
  pub statements : List rs.Stmt
  pub done_grown : done' ≡ done ++ statements
  pub goes_on : (is : List BlockItem) (us : p.Stmts) (m : Added)
      → TypedItems (site_of after w) (block_items_of is) us m
      → TypedItems (site_of before w) (block_items_of (x ∷ is)) (stmts_before before.place.structs statements us) (and_then added m)
  pub faults_on : (is : List BlockItem) (f : Stop)
      → IsBodyFault after w (some_items (block_items_of is)) f
      → IsBodyFault before w (some_items (block_items_of (x ∷ is))) f
  pub within_on : (is : List BlockItem)
      → IsBodyWithin (site_of after w) (some_items (block_items_of is))
      → IsBodyWithin (site_of before w) (some_items (block_items_of (x ∷ is)))

-- an item's fault is one of the items that it begins
abbrev pub IsItemFault : Position → Body → BlockItem → Stop → Type 0
IsItemFault w before x f = (is : List BlockItem) → IsBodyFault before w (some_items (block_items_of (x ∷ is))) f

-- how far items are typed: whatever is typed, at fault, or within the limit behind the first i of them is so with them
pub record ItemsReached (w : Position) (before now : Body) (done : List rs.Stmt) (xs : List BlockItem) (i : ℕ) : Type 0 where
  pub entries : List Entry
  pub added : Added
  pub behind : IsDeclared entries added before now
  pub goes_on : (us : p.Stmts) (m : Added)
      → TypedItems (site_of now w) (block_items_of (drop i xs)) us m
      → TypedItems (site_of before w) (block_items_of xs) (stmts_before before.place.structs done us) (and_then added m)
  pub faults_on : (f : Stop)
      → IsBodyFault now w (some_items (block_items_of (drop i xs))) f
      → IsBodyFault before w (some_items (block_items_of xs)) f
  pub within_on : IsBodyWithin (site_of now w) (some_items (block_items_of (drop i xs))) → IsBodyWithin (site_of before w) (some_items (block_items_of xs))

-- what the items of a switch's block leave: the block's statements, and its labels
pub record CasesDone (ty : Integer) (w : Position) (before : Body) (xs : List BlockItem) (after : Body) (us : List rs.Stmt) (ks : List Case) (otherwise : Option ℕ) : Type 0 where
  pub entries : List Entry
  pub added : Added
  pub behind : IsDeclared entries added before after
  pub typed : TypedCases ty (site_of before w) 0 no_labels (block_items_of xs) (record { statements = stmts_from before.place.structs us; cases = ks; otherwise = otherwise }) added
  pub within : IsBodyWithin (site_of before w) (some_cases ty 0 no_labels (block_items_of xs))

-- a statement directly in a switch's block, so many statements behind its start, with its labels
pub record LabelledDone (ty : Integer) (n : ℕ) (w : Position) (before : Body) (labels : Labels) (tree : t.Statement) (after : Body) (labels' : Labels) (u : rs.Stmt) : Type 0 where
  pub added : Added
  pub past : IsPast added before after
  pub cases : List Case
  pub cases_grown : labels'.cases.items ≡ labels.cases.items ++ cases
  pub otherwise : Option ℕ
  pub otherwise_first : labels'.otherwise ≡ first_of labels.otherwise otherwise
  pub told : Tells labels'
  pub typed : Labelled ty (site_of before w) n (labels_of labels) tree (labels_of labels') (stmt_of before.place.structs u) cases otherwise added
  pub within : IsBodyWithin (site_of before w) (a_labelled ty n (labels_of labels) tree)

abbrev pub IsLabelledFault : Integer → ℕ → Position → Body → Labels → t.Statement → Stop → Type 0
IsLabelledFault ty n w before labels tree f = IsBodyFault before w (a_labelled ty n (labels_of labels) tree) f

-- what an item of a switch's block leaves: whatever is typed, at fault, or within the limit behind it is so with it
pub record CaseItemDone (ty : Integer) (w : Position) (before : Body) (done : List rs.Stmt) (labels : Labels) (x : BlockItem) (after : Body) (done' : List rs.Stmt) (labels' : Labels) : Type 0 where
  pub entries : List Entry
  pub added : Added
  pub behind : IsDeclared entries added before after
  pub statements : List rs.Stmt
  pub done_grown : done' ≡ done ++ statements
  pub cases : List Case
  pub cases_grown : labels'.cases.items ≡ labels.cases.items ++ cases
  pub otherwise : Option ℕ
  pub otherwise_first : labels'.otherwise ≡ first_of labels.otherwise otherwise
  pub told : Tells labels'
  pub goes_on : (is : List BlockItem) (c : Cases) (m : Added)
      → TypedCases ty (site_of after w) (length done') (labels_of labels') (block_items_of is) c m
      → TypedCases ty (site_of before w) (length done) (labels_of labels) (block_items_of (x ∷ is)) (with_cases (stmts_from before.place.structs statements) cases otherwise c) (and_then added m)
  pub faults_on : (is : List BlockItem) (f : Stop)
      → IsBodyFault after w (some_cases ty (length done') (labels_of labels') (block_items_of is)) f
      → IsBodyFault before w (some_cases ty (length done) (labels_of labels) (block_items_of (x ∷ is))) f
  pub within_on : (is : List BlockItem)
      → IsBodyWithin (site_of after w) (some_cases ty (length done') (labels_of labels') (block_items_of is))
      → IsBodyWithin (site_of before w) (some_cases ty (length done) (labels_of labels) (block_items_of (x ∷ is)))

abbrev pub IsCaseItemFault : Integer → Position → Body → ℕ → Labels → BlockItem → Stop → Type 0
IsCaseItemFault ty w before n labels x f = (is : List BlockItem) → IsBodyFault before w (some_cases ty n (labels_of labels) (block_items_of (x ∷ is))) f

-- how far the items of a switch's block are typed
pub record CasesReached (ty : Integer) (w : Position) (before now : Body) (done : List rs.Stmt) (labels : Labels) (xs : List BlockItem) (i : ℕ) : Type 0 where
  pub entries : List Entry
  pub added : Added
  pub behind : IsDeclared entries added before now
  pub told : Tells labels
  pub goes_on : (c : Cases) (m : Added)
      → TypedCases ty (site_of now w) (length done) (labels_of labels) (block_items_of (drop i xs)) c m
      → TypedCases ty (site_of before w) 0 no_labels (block_items_of xs) (with_cases (stmts_from before.place.structs done) labels.cases.items labels.otherwise c) (and_then added m)
  pub faults_on : (f : Stop)
      → IsBodyFault now w (some_cases ty (length done) (labels_of labels) (block_items_of (drop i xs))) f
      → IsBodyFault before w (some_cases ty 0 no_labels (block_items_of xs)) f
  pub within_on : IsBodyWithin (site_of now w) (some_cases ty (length done) (labels_of labels) (block_items_of (drop i xs)))
      → IsBodyWithin (site_of before w) (some_cases ty 0 no_labels (block_items_of xs))

-- a function's body is typed to these statements, its names are out of scope again, and no size in it is over the limit
pub record BodyDone (before : Body) (xs : List BlockItem) (after : Body) (u : rs.Stmt) : Type 0 where
  pub added : Added
  pub past : IsPast added before after
  pub statements : p.Stmts
  pub is_block : stmt_of before.place.structs u ≡ p.Block statements
  pub typed : TypedItems (site_of before alone) (block_items_of xs) statements added
  pub within : IsBodyWithin (site_of before alone) (some_items (block_items_of xs))
