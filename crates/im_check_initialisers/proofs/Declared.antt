-- Declarations with an initialiser.
use Rattle.std.proofs.Common.{◌≡◌, ℕ, List, [], ◌++◌, length, map, sym, ap, ◌∙◌, subst}
use Rattle.im_ctree.specs.Tree as t
use Rattle.im_ctype.specs.Layout.{layout}
use Rattle.im_ctype.specs.Table.{Table, structs_of}
use Rattle.im_ctype.specs.Types.{CType}
use Rattle.im_check_expressions.specs.im_rules.BodyBreaks.{an_initialiser}
use Rattle.im_check_expressions.specs.im_rules.Context.{Context}
use Rattle.im_check_expressions.specs.im_rules.Initialisers as n
use Rattle.im_check_expressions.specs.im_rules.Statements.{MayInitialise, initialises, initialised_strings}
use Rattle.im_check_expressions.specs.im_rules_limits.Limits.{IsGivenWithin}
use Rattle.im_typed.specs.declared.statement.Piece as rp
use Rattle.im_typed.specs.Program as p
use Rattle.im_typed.specs.ProgramOf.{piece_of}
use Rattle.im_check_items.specs.declared.item.Item as ri
use Rattle.im_check_items.specs.Shape.{items_in}
use Rattle.im_check_place.specs.declared.place.Place.{Place}
use Rattle.im_check_place.specs.Contexts.{context_of, behind_strings}
use Rattle.im_check_stop.specs.declared.stop.Stop.{Stop}
use Rattle.im_check_stop.specs.declared.stop.Stop.TheVariants.{Rule, Large, Memory}
use Rattle.im_check_initialisers.specs.Given.{IsGivenFault, IsInitialisationFault, IsInitialised}

pub declared_fault : (c : Context) (a : CType) (i : t.Initializer) (f : Stop) → IsGivenFault c (an_initialiser a 0 i) f → IsInitialisationFault c a (t.an_initializer i) f
declared_fault c a i (Rule rule token) broken = broken
declared_fault c a i (Large bytes) large = large
declared_fault c a i Memory broken = tt

pub declared : (before after : Place) {a : CType} {i : t.Initializer} {old new : List ri.Item} (first second : Table) (local cells : ℕ) (pieces : List rp.Piece)
    → old ≡ []
    → IsInitialised before a 0 i old after new × IsGivenWithin (context_of before) (an_initialiser a 0 i)
    → first ≡ after.structs
    → cells ≡ length (layout (structs_of first) a).cells
    → second ≡ after.structs
    → map {A = rp.Piece} (piece_of second) pieces ≡ n.pieces_of (structs_of second) (items_in second new)
    → MayInitialise (context_of before) local a (t.an_initializer i) (p.Initialise local cells (map {A = rp.Piece} (piece_of before.structs) pieces)) × (after ≡ behind_strings (initialised_strings (structs_of before.structs) a (t.an_initializer i)) before) × IsGivenWithin (context_of before) (an_initialiser a 0 i)
declared before after {a = a} {i = i} {new = new} first second local cells pieces none done here count there are =
    let known = structs_of before.structs in
    let same : after.structs ≡ before.structs = ap (λ (z : Place). z.structs) done.0.place in
    let put : items_in before.structs new ≡ done.0.added = done.0.items ∙ ap (λ xs. items_in before.structs xs ++ done.0.added) none in
    let at_start : map {A = rp.Piece} (piece_of before.structs) pieces ≡ n.pieces_of known (items_in before.structs new) =
    subst (λ (z : Table). map {A = rp.Piece} (piece_of z) pieces ≡ n.pieces_of (structs_of z) (items_in z new)) (there ∙ same) are in
    let all : map {A = rp.Piece} (piece_of before.structs) pieces ≡ n.pieces_of known done.0.added = at_start ∙ ap (n.pieces_of known) put in
    let counted : cells ≡ length (layout known a).cells = subst (λ (z : Table). cells ≡ length (layout (structs_of z) a).cells) (here ∙ same) count in
    let made : MayInitialise (context_of before) local a (t.an_initializer i) (p.Initialise local (length (layout known a).cells) (n.pieces_of known done.0.added)) = initialises done.0.given in (
      subst (λ xs. MayInitialise (context_of before) local a (t.an_initializer i) (p.Initialise local cells xs)) (sym all) (subst (λ k. MayInitialise (context_of before) local a (t.an_initializer i) (p.Initialise local k (n.pieces_of known done.0.added))) (sym counted) made),
      done.0.place,
      done.1,
    )
