-- For private contracts: what is answered of one declarator in a block.
use Rattle.std.specs.Prelude.{◌≡◌, ℕ, Bool, false, List, [], ◌∷◌, ◌++◌, length}
use Rattle.im_check_initialisers.specs.im_word.Words.{Name}
use Rattle.im_ctree.specs.Tree as t
use Rattle.im_ctree.specs.Shape.{init_declarators_of}
use Rattle.im_ctree.specs.declared.declaration.InitDeclarator.{InitDeclarator}
use Rattle.im_check_initialisers.specs.im_ctype.Types.{CType}
use Rattle.im_check_initialisers.specs.im_ctype.Table.{structs_of}
use Rattle.im_typed.specs.ProgramOf.{stmt_of}
use Rattle.im_typed.specs.Program as p
use Rattle.im_typed.specs.declared.statement.Stmt as rs
use Rattle.im_rules.specs.Demands.{Demand, Meets, asks}
use Rattle.im_rules.specs.Declared as d
use Rattle.im_rules.specs.Initialisers.{completed}
use Rattle.im_rules.specs.Rules.{rule_3, rule_4, rule_5, rule_6_absent}
use Rattle.im_rules.specs.Scopes.{Scopes, named, meaning, meaning_here, at_file_scope}
use Rattle.im_rules.specs.Statements.{Site, Added, nothing_added, and_then, local_entity, name_of, object_of, AreLocals}
use Rattle.im_rules.specs.BodyBreaks.{BodyBroken, some_locals}
use Rattle.im_check_initialisers.specs.im_rules_limits.Limits.{BodySized, IsBodyWithin}
use Rattle.im_types.specs.Shape.{type_of}
use Rattle.im_check_scopes.specs.declared.entity.Entry.{Entry}
use Rattle.im_check_scopes.specs.Shape.{scopes_of}
use Rattle.im_check_stop.specs.declared.stop.Stop.{Stop}
use Rattle.im_check_place.specs.declared.place.Place.{Place}
use Rattle.im_check_sites.specs.declared.body.Body.{Body}
use Rattle.im_check_sites.specs.declared.position.Position.{Position}
use Rattle.im_check_sites.specs.Sites.{site_of, IsDeclared, IsBodyFault}
use Rattle.im_check_sites.specs.Stmts.{stmts_from}
use Rattle.im_check_locals.specs.declared.objects.Object.{Object}

-- what is asked of a name
abbrev pub name_asks : Scopes → ℕ → Bool → CType → Name → Bool → List Demand
name_asks g n constant a x initialised =
    asks 3 (rule_3 (meaning_here g x) (local_entity n constant a) (at_file_scope g) false initialised)
    ∷ asks 4 (rule_4 (meaning g x) (local_entity n constant a))
    ∷ []

-- what is asked of an object at a place, where so many objects stand before it
abbrev pub object_asks : Place → ℕ → d.Declared → CType → Bool → List Demand
object_asks p n y a initialised =
    asks 3 (rule_3 (meaning_here (scopes_of p.scope) (name_of y.name)) (local_entity n y.constant a) (at_file_scope (scopes_of p.scope)) false initialised)
    ∷ asks 4 (rule_4 (meaning (scopes_of p.scope) (name_of y.name)) (local_entity n y.constant a))
    ∷ asks 6 (rule_6_absent y.type initialised)
    ∷ asks 5 (rule_5 (structs_of p.structs) a)
    ∷ []

-- the object that a declarator declares, with the type that its initialiser completes
pub record IsObject (y : d.Declared) (i : t.MaybeInitializer) (o : Object) : Type 0 where
  pub name : o.name.items ≡ name_of y.name
  pub constant : o.constant ≡ y.constant
  pub type : type_of o.ty ≡ completed y.type i

-- the object of that number is behind the others, and its name in scope
pub record IsKept (before after : Body) (o : Object) (n : ℕ) : Type 0 where
  pub number : n ≡ length before.locals.items
  pub entry : Entry
  pub behind : IsDeclared (entry ∷ []) (record { objects = object_of (structs_of before.place.structs) o.name.items (type_of o.ty) ∷ []; strings = [] }) before after
  pub scopes : scopes_of after.place.scope ≡ named o.name.items (local_entity n o.constant (type_of o.ty)) (scopes_of before.place.scope)

-- what a declarator leaves: whatever is typed behind it is typed with it, and is within the limit of sizes with it
pub record LocalDone (q : d.Qualified) (before after : Body) (x : InitDeclarator) (u : rs.Stmt) : Type 0 where
  pub entries : List Entry
  pub added : Added
  pub behind : IsDeclared entries added before after
  pub goes_on : (w : Position) (ds : List InitDeclarator) (us : p.Stmts) (m : Added) (e : Site)
      → AreLocals q (site_of after w) (init_declarators_of ds) us m e
      → AreLocals q (site_of before w) (init_declarators_of (x ∷ ds)) (p.more_stmts (stmt_of before.place.structs u) us) (and_then added m) e
  pub breaks_on : (w : Position) (ds : List InitDeclarator) (rule token : ℕ)
      → BodyBroken (site_of after w) (some_locals q (init_declarators_of ds)) rule token
      → BodyBroken (site_of before w) (some_locals q (init_declarators_of (x ∷ ds))) rule token
  pub sizes_on : (w : Position) (ds : List InitDeclarator) (k : ℕ)
      → BodySized (site_of after w) (some_locals q (init_declarators_of ds)) k
      → BodySized (site_of before w) (some_locals q (init_declarators_of (x ∷ ds))) k
  pub within_on : (w : Position) (ds : List InitDeclarator)
      → IsBodyWithin (site_of after w) (some_locals q (init_declarators_of ds))
      → IsBodyWithin (site_of before w) (some_locals q (init_declarators_of (x ∷ ds)))

-- a declarator's fault is one of the declarators that it begins
abbrev pub IsLocalFault : d.Qualified → Body → InitDeclarator → Stop → Type 0
IsLocalFault q before x f = (w : Position) (ds : List InitDeclarator) → IsBodyFault before w (some_locals q (init_declarators_of (x ∷ ds))) f

-- what declarators leave
pub record LocalsDone (q : d.Qualified) (before after : Body) (done done' : List rs.Stmt) (ds : t.InitDeclarators) : Type 0 where
  pub entries : List Entry
  pub added : Added
  pub behind : IsDeclared entries added before after
  pub statements : List rs.Stmt
  pub done_grown : done' ≡ done ++ statements
  pub typed : (w : Position) → AreLocals q (site_of before w) ds (stmts_from before.place.structs statements) added (site_of after w)
  pub within : (w : Position) → IsBodyWithin (site_of before w) (some_locals q ds)

abbrev pub AreLocalsFault : d.Qualified → Body → t.InitDeclarators → Stop → Type 0
AreLocalsFault q before ds f = (w : Position) → IsBodyFault before w (some_locals q ds) f

-- all that is asked of specifiers is so, and these are the scopes behind them
pub record IsSpecified (before after : Body) (asked : List Demand) (declared : Scopes) : Type 0 where
  pub meets : Meets asked
  pub entries : List Entry
  pub behind : IsDeclared entries nothing_added before after
  pub scopes : scopes_of after.place.scope ≡ declared
