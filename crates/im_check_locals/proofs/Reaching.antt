-- Declarators, one behind the other.
use Rattle.std.proofs.Common.{◌≡◌, ℕ, ◌+◌, ◌<◌, ◌≤◌, List, [], ◌∷◌, ◌++◌, length, drop, get_or, sym, ap, ◌∙◌, subst, append_assoc}
use Rattle.std.proofs.lemmas.List.{append-nil, drop_more, drop_all}
use Rattle.im_check_initialisers.specs.im_word.Words.{Name}
use Rattle.im_ctree.specs.Tree as t
use Rattle.im_ctree.specs.Shape.{init_declarators_of}
use Rattle.im_ctree.specs.declared.declaration.InitDeclarator.{InitDeclarator}
use Rattle.im_typed.specs.Program as p
use Rattle.im_typed.specs.Program.{LocalObject}
use Rattle.im_typed.specs.ProgramOf.{stmt_of}
use Rattle.im_typed.specs.declared.statement.Stmt as rs
use Rattle.im_rules.specs.Declared as d
use Rattle.im_rules.specs.Statements.{Site, Added, and_then, nothing_added, AreLocals, no_local}
use Rattle.im_rules.specs.BodyBreaks.{BodyBroken, some_locals}
use Rattle.im_check_initialisers.specs.im_rules_limits.Limits.{BodySized, IsBodyWithin}
use Rattle.im_check_scopes.specs.declared.entity.Entry.{Entry}
use Rattle.im_check_stop.specs.declared.stop.Stop.{Stop}
use Rattle.im_check_stop.specs.declared.stop.Stop.TheVariants.{Rule, Large, Memory}
use Rattle.im_check_sites.specs.declared.body.Body.{Body}
use Rattle.im_check_sites.specs.declared.position.Position.{Position}
use Rattle.im_check_sites.specs.Sites.{site_of, IsDeclared}
use Rattle.im_check_sites.specs.Stmts.{stmts_before, stmts_from}
use Rattle.im_check_sites.proofs.Sites.{structs_stay, declared_none, declared_then}
use Rattle.im_check_sites.proofs.Statements.{before_one_more}
use Rattle.im_check_locals.specs.Objects.{LocalDone, IsLocalFault, LocalsDone, AreLocalsFault}
use Rattle.im_check_locals.proofs.Within.{no_local_within}

pub next : {X : Type 0} (xs : List X) (i : ℕ) (x : X) → i < length xs → x ≡ get_or xs i x → drop i xs ≡ x ∷ drop (i + 1) xs
next xs i x below is = drop_more xs i x below ∙ ap (λ y. y ∷ drop (i + 1) xs) (sym is)

pub last : {X : Type 0} (xs : List X) (i : ℕ) → length xs ≤ i → drop i xs ≡ []
last xs i all = drop_all i xs all

-- what is added in two steps

abbrev added_by : List LocalObject → List Name → Added
added_by os ss = record { objects = os; strings = ss }

added_assoc : (m k l : Added) → and_then (and_then m k) l ≡ and_then m (and_then k l)
added_assoc m k l =
    ap (λ os. added_by os ((m.strings ++ k.strings) ++ l.strings)) (append_assoc m.objects k.objects l.objects) ∙ ap (λ ss. added_by (m.objects ++ (k.objects ++ l.objects)) ss) (append_assoc m.strings k.strings l.strings)

added_last : (m : Added) → and_then m nothing_added ≡ m
added_last m = ap (λ os. added_by os (m.strings ++ [])) (append-nil m.objects) ∙ ap (λ ss. added_by m.objects ss) (append-nil m.strings)

-- how far declarators are typed: whatever is typed behind the first i of them is typed with them, and is within the limit
-- of sizes with them
pub record LocalsReached (q : d.Qualified) (before now : Body) (done done' : List rs.Stmt) (xs : List InitDeclarator) (i : ℕ) : Type 0 where
  pub entries : List Entry
  pub added : Added
  pub behind : IsDeclared entries added before now
  pub statements : List rs.Stmt
  pub done_grown : done' ≡ done ++ statements
  pub goes_on : (w : Position) (us : p.Stmts) (m : Added) (e : Site)
      → AreLocals q (site_of now w) (init_declarators_of (drop i xs)) us m e
      → AreLocals q (site_of before w) (init_declarators_of xs) (stmts_before before.place.structs statements us) (and_then added m) e
  pub breaks_on : (w : Position) (rule token : ℕ)
      → BodyBroken (site_of now w) (some_locals q (init_declarators_of (drop i xs))) rule token
      → BodyBroken (site_of before w) (some_locals q (init_declarators_of xs)) rule token
  pub sizes_on : (w : Position) (k : ℕ)
      → BodySized (site_of now w) (some_locals q (init_declarators_of (drop i xs))) k
      → BodySized (site_of before w) (some_locals q (init_declarators_of xs)) k
  pub within_on : (w : Position)
      → IsBodyWithin (site_of now w) (some_locals q (init_declarators_of (drop i xs)))
      → IsBodyWithin (site_of before w) (some_locals q (init_declarators_of xs))

pub reached_none : (q : d.Qualified) (b : Body) (done : List rs.Stmt) (xs : List InitDeclarator) → LocalsReached q b b done done xs 0
reached_none q b done xs = record {
  entries = [];
  added = nothing_added;
  behind = declared_none b;
  statements = [];
  done_grown = sym (append-nil done);
  goes_on = λ w us m e h. h;
  breaks_on = λ w rule token h. h;
  sizes_on = λ w k h. h;
  within_on = λ w h. h;
}

pub reached_more : {q : d.Qualified} {b0 b1 b2 : Body} {done done' : List rs.Stmt} {xs : List InitDeclarator} {i : ℕ} {x : InitDeclarator} {u : rs.Stmt}
    → drop i xs ≡ x ∷ drop (i + 1) xs
    → LocalsReached q b0 b1 done done' xs i
    → LocalDone q b1 b2 x u
    → LocalsReached q b0 b2 done (done' ++ u ∷ []) xs (i + 1)
reached_more {q = q} {b0 = b0} {b1 = b1} {b2 = b2} {done = done} {xs = xs} {i = i} {x = x} {u = u} at r one =
    let types = b0.place.structs in
    let same : b1.place.structs ≡ types = structs_stay r.behind.added in
    record {
      entries = r.entries ++ one.entries;
      added = and_then r.added one.added;
      behind = declared_then r.behind one.behind;
      statements = r.statements ++ u ∷ [];
      done_grown = ap (λ z. z ++ u ∷ []) r.done_grown ∙ append_assoc done r.statements (u ∷ []);
      goes_on = λ w us m e h.
          let more = and_then one.added m in
          let h₁ : AreLocals q (site_of b1 w) (init_declarators_of (x ∷ drop (i + 1) xs)) (p.more_stmts (stmt_of types u) us) more e =
          subst (λ z. AreLocals q (site_of b1 w) (init_declarators_of (x ∷ drop (i + 1) xs)) (p.more_stmts (stmt_of z u) us) more e) same (one.goes_on w (drop (i + 1) xs) us m e h) in
          let h₂ : AreLocals q (site_of b1 w) (init_declarators_of (drop i xs)) (p.more_stmts (stmt_of types u) us) more e =
          subst (λ zs. AreLocals q (site_of b1 w) (init_declarators_of zs) (p.more_stmts (stmt_of types u) us) more e) (sym at) h₁ in
          let h₃ = r.goes_on w (p.more_stmts (stmt_of types u) us) more e h₂ in
          subst (λ z. AreLocals q (site_of b0 w) (init_declarators_of xs) (stmts_before types (r.statements ++ u ∷ []) us) z e) (sym (added_assoc r.added one.added m))
          (subst (λ z. AreLocals q (site_of b0 w) (init_declarators_of xs) z (and_then r.added more) e) (before_one_more types r.statements u us) h₃);
      breaks_on = λ w rule token b.
          r.breaks_on w rule token (subst (λ zs. BodyBroken (site_of b1 w) (some_locals q (init_declarators_of zs)) rule token) (sym at) (one.breaks_on w (drop (i + 1) xs) rule token b));
      sizes_on = λ w k z.
          r.sizes_on w k (subst (λ zs. BodySized (site_of b1 w) (some_locals q (init_declarators_of zs)) k) (sym at) (one.sizes_on w (drop (i + 1) xs) k z));
      within_on = λ w h.
          r.within_on w (subst (λ zs. IsBodyWithin (site_of b1 w) (some_locals q (init_declarators_of zs))) (sym at) (one.within_on w (drop (i + 1) xs) h));
    }

pub reached_fault : {q : d.Qualified} {b0 b1 : Body} {done done' : List rs.Stmt} {xs : List InitDeclarator} {i : ℕ} {x : InitDeclarator} (f : Stop)
    → drop i xs ≡ x ∷ drop (i + 1) xs
    → LocalsReached q b0 b1 done done' xs i
    → IsLocalFault q b1 x f
    → AreLocalsFault q b0 (init_declarators_of xs) f
reached_fault {q = q} {b1 = b1} {xs = xs} {i = i} (Rule rule token) at r h = λ w.
    r.breaks_on w rule token (subst (λ zs. BodyBroken (site_of b1 w) (some_locals q (init_declarators_of zs)) rule token) (sym at) (h w (drop (i + 1) xs)))
reached_fault {q = q} {b1 = b1} {xs = xs} {i = i} (Large bytes) at r h = λ w.
    let k = h w (drop (i + 1) xs) in
    (r.sizes_on w bytes (subst (λ zs. BodySized (site_of b1 w) (some_locals q (init_declarators_of zs)) bytes) (sym at) k.0), k.1)
reached_fault Memory at r h = λ w. tt

pub no_memory : (q : d.Qualified) (b : Body) (ds : t.InitDeclarators) (f : Stop) → f ≡ Memory → AreLocalsFault q b ds f
no_memory q b ds f e = rw e (λ w. tt)

pub reached_all : {q : d.Qualified} {b0 b1 : Body} {done done' : List rs.Stmt} {xs : List InitDeclarator} {i : ℕ}
    → drop i xs ≡ []
    → LocalsReached q b0 b1 done done' xs i
    → LocalsDone q b0 b1 done done' (init_declarators_of xs)
reached_all {q = q} {b0 = b0} {b1 = b1} {xs = xs} at r = record {
  entries = r.entries;
  added = r.added;
  behind = r.behind;
  statements = r.statements;
  done_grown = r.done_grown;
  typed = λ w.
      let end = site_of b1 w in
      subst (λ m. AreLocals q (site_of b0 w) (init_declarators_of xs) (stmts_from b0.place.structs r.statements) m end) (added_last r.added)
      (r.goes_on w p.no_stmts nothing_added end (subst (λ zs. AreLocals q end (init_declarators_of zs) p.no_stmts nothing_added end) (sym at) no_local));
  within = λ w.
      let none : IsBodyWithin (site_of b1 w) (some_locals q (init_declarators_of [])) = no_local_within in
      r.within_on w (subst (λ zs. IsBodyWithin (site_of b1 w) (some_locals q (init_declarators_of zs))) (sym at) none);
}
