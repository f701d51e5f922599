-- What a function's body leaves.
use Rattle.std.proofs.Common.{◌≡◌, ℕ, true, List, ◌++◌, length, take, Vec, Global, Option, ap, ◌∙◌, subst}
use Rattle.std.proofs.Math.Seq.{take-append_seam}
use Rattle.im_ctree.specs.Tree as t
use Rattle.im_ctree.specs.Shape.{block_items_of}
use Rattle.im_ctree.specs.declared.statement.BlockItem.{BlockItem}
use Rattle.im_check_statements.specs.im_ctype.Table.{structs_of}
use Rattle.im_num.specs.declared.kind.Kind.{Kind}
use Rattle.im_check_statements.specs.im_word.Words.{Name}
use Rattle.im_typed.specs.Program.{Stmt, Func, LocalObject}
use Rattle.im_typed.specs.ProgramOf.{stmt_of}
use Rattle.im_typed.specs.declared.statement.Stmt as rs
use Rattle.im_rules.specs.BodyBreaks.{BodyBroken, some_items}
use Rattle.im_rules.specs.Declared as d
use Rattle.im_rules.specs.FileScope.{past_strings}
use Rattle.im_rules.specs.Statements.{TypedItems, name_of}
use Rattle.im_rules.specs.TypedUnit.{result_kind, body_site}
use Rattle.im_rules.specs.TypeTests.{result_of}
use Rattle.im_check_statements.specs.im_rules_limits.Limits.{BodySized, IsBodyWithin}
use Rattle.im_types.specs.declared.tree.Type as rust
use Rattle.im_types.specs.Shape.{type_of}
use Rattle.im_check_scopes.specs.declared.entity.Entry.{Entry}
use Rattle.im_check_stop.specs.declared.stop.Stop.{Stop}
use Rattle.im_check_stop.specs.declared.stop.Stop.TheVariants.{Rule, Large, Memory}
use Rattle.im_check_place.specs.declared.place.Place.{Place}
use Rattle.im_check_place.specs.Contexts.{behind_strings}
use Rattle.im_check_file_place.specs.declared.file.File.{File}
use Rattle.im_check_file_place.specs.Files.{file_place_of, bytes_of}
use Rattle.im_check_sites.specs.declared.body.Body.{Body}
use Rattle.im_check_sites.specs.declared.body.Local.{Local}
use Rattle.im_check_sites.specs.Sites.{site_of, objects_in, IsBodyFault}
use Rattle.im_check_statements.specs.Checked.{alone, BodyDone}
use Rattle.im_check_defined.specs.Functions.{all_complete}
use Rattle.im_check_file_functions.specs.Bodies.{IsMore, IsBegun, site_in, FunctionDone, IsInsideFault}

abbrev with_scope : List Entry → Place → Place
with_scope es p = record p { scope = es }

-- the place behind a body whose scope is closed
closed_place : (ss : List Name) {p q r : Place} → IsMore p q → r ≡ with_scope r.scope (behind_strings ss q) → r.scope ≡ q.scope
    → with_scope (take (length p.scope) r.scope) r ≡ behind_strings ss p
closed_place ss {p = p} {q = q} {r = r} more behind same =
    let es = take (length p.scope) r.scope in
    let again : es ≡ p.scope = ap (take (length p.scope)) (same ∙ more.grown.1) ∙ take-append_seam p.scope more.grown.0 in
    ap (with_scope es) behind ∙ ap (λ z. with_scope es (behind_strings ss z)) more.all_else ∙ ap (λ z. with_scope z (behind_strings ss p)) again

abbrev func_by : Name → ℕ → Option Kind → List LocalObject → Stmt → Func
func_by x n r os b = record { name = x; params = n; result = r; objects = os; body = b }

same_function : {x y : Name} {m n : ℕ} {r s : Option Kind} {os ps : List LocalObject} {a b : Stmt} → x ≡ y → m ≡ n → r ≡ s → os ≡ ps → a ≡ b → func_by x m r os a ≡ func_by y n s ps b
same_function {y = y} {m = m} {n = n} {r = r} {s = s} {os = os} {ps = ps} {a = a} e f g h i =
    ap (λ z. func_by z m r os a) e ∙ ap (λ z. func_by y z r os a) f ∙ ap (λ z. func_by y n z os a) g ∙ ap (λ z. func_by y n s z a) h ∙ ap (λ z. func_by y n s ps z) i

begun_site : {f g : File} {ty : rust.Type} {ps : t.Parameters} {ds : List d.Declared} {b : Body} (y : d.Declared) → type_of ty ≡ result_of y.type → IsBegun f ty ps ds g b → site_of b alone ≡ site_in (file_place_of f) y ps ds
begun_site {f = f} {ps = ps} {ds = ds} y r begun = begun.site ∙ ap (λ z. body_site (file_place_of f) z ps ds) r

abbrev ended_file : ℕ → Body → File → File
ended_file mark b f = record f { place = with_scope (take mark b.place.scope) b.place; texts = b.texts }

pub function_done : {f g : File} {ty : rust.Type} {y : d.Declared} {ps : t.Parameters} {ds : List d.Declared} {b c : Body} {is : List BlockItem} {u : rs.Stmt} (h : File) (x : Vec ℕ Global) (n : ℕ) (k : Option Kind) (os : Vec Local Global)
    → x.items ≡ name_of y.name
    → n ≡ length ds
    → type_of ty ≡ result_of y.type
    → k ≡ result_kind (type_of ty)
    → IsBegun f ty ps ds g b
    → BodyDone b is c u
    → h ≡ ended_file (length f.place.scope) c g
    → os ≡ c.locals
    → all_complete (length (structs_of h.place.structs)) os.items ≡ true
    → FunctionDone f y ps ds (block_items_of is) h (record { name = x; params = n; result = k; objects = os; body = u })
function_done {f = f} {g = g} {ty = ty} {y = y} {ps = ps} {ds = ds} {b = b} {c = c} {is = is} {u = u} h x n k os named params result kind begun done ended objects complete =
    let added = done.added in
    let past = done.past.added in
    let site = begun_site y result begun in
    let closed = closed_place added.strings begun.more past.place done.past.scope in
    let stays : c.place.structs ≡ f.place.structs = ap (λ (z : Place). z.structs) past.place ∙ ap (λ (z : Place). z.structs) begun.more.all_else in
    let types : h.place.structs ≡ c.place.structs = ap (λ (z : File). z.place.structs) ended in
    let whole : h ≡ record f { place = behind_strings added.strings f.place; texts = c.texts } =
    ended ∙ ap (ended_file (length f.place.scope) c) begun.all_else ∙ ap (λ z. record f { place = z; texts = c.texts }) closed in
    let texts : bytes_of c.texts.items ≡ bytes_of f.texts.items ++ added.strings = past.strings ∙ ap (λ (z : Vec (Vec ℕ Global) Global). bytes_of z.items ++ added.strings) begun.texts in
    record {
      added = added;
      statements = done.statements;
      typed = subst (λ z. TypedItems z (block_items_of is) done.statements added) site done.typed;
      within = subst (λ z. IsBodyWithin z (some_items (block_items_of is))) site done.within;
      behind = ap file_place_of whole ∙ ap (λ z. record (past_strings added.strings (file_place_of f)) { strings = z }) texts;
      same =
          same_function named params (kind ∙ ap result_kind result)
          (ap (λ z. objects_in z os.items) types
          ∙ ap (λ (z : Vec Local Global). objects_in c.place.structs z.items) objects
          ∙ past.objects
          ∙ ap (λ z. z ++ added.objects) begun.objects)
          (ap (λ z. stmt_of z u) (types ∙ ap (λ (z : Place). z.structs) past.place) ∙ done.is_block);
      complete = complete;
    }

pub inside_fault : {f g : File} {ty : rust.Type} (y : d.Declared) {ps : t.Parameters} {ds : List d.Declared} {b : Body} (is : t.BlockItems) (stop : Stop)
    → type_of ty ≡ result_of y.type
    → IsBegun f ty ps ds g b
    → IsBodyFault b alone (some_items is) stop
    → IsInsideFault (file_place_of f) y ps ds is stop
inside_fault y is (Rule rule token) result begun h = subst (λ z. BodyBroken z (some_items is) rule token) (begun_site y result begun) h
inside_fault y is (Large bytes) result begun h = (subst (λ z. BodySized z (some_items is) bytes) (begun_site y result begun) h.0, h.1)
inside_fault y is Memory result begun h = tt
