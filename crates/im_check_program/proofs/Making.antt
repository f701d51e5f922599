-- The program of its parts.
use Rattle.std.proofs.Common.{◌≡◌, ◌++◌, List, map, refl, sym, ap, ◌∙◌, subst}
use Rattle.im_check_defined.specs.im_word.Words.{Name}
use Rattle.im_ctype.specs.Table.{Table, IsGrown, structs_of}
use Rattle.im_ctype.specs.Types.{Structs}
use Rattle.im_typed.specs.declared.program.Prog.{Prog}
use Rattle.im_typed.specs.declared.program.Static.{Static}
use Rattle.im_check_defined.specs.im_rules.FileScope.{FilePlace, main_name}
use Rattle.im_check_defined.specs.im_rules.Outline.{place_in}
use Rattle.im_check_defined.specs.im_rules.TypedUnit as u
use Rattle.im_check_scopes.specs.Shape.{scopes_of}
use Rattle.im_check_file_place.specs.Files.{file_place_of, bytes_of}
use Rattle.im_check_defined.specs.Values.{first_values_in}
use Rattle.im_check_program.specs.declared.programs.Parts.{Parts}
use Rattle.im_check_program.specs.Known.{AreStaticsOf, AreFunctionsOf}
use Rattle.im_check_program.specs.Programs.{all_statics, IsProgram}
use Rattle.im_check_program.proofs.Growing.{statics_both, statics_later, functions_earlier}

-- objects and string literals, of which the second ones stand in a table that has grown
pub statics_joined : (start first second : Table) (e : FilePlace) (gs : List u.FirstValues) (objects texts whole : List Static) → e.context.known ≡ structs_of start → IsGrown start first → IsGrown first second
    → AreStaticsOf first (map (u.static_named e gs) e.context.unit.statics) objects → AreStaticsOf second (u.string_statics (structs_of first) 1 e.strings) texts → whole ≡ objects ++ texts
    → AreStaticsOf second (all_statics e gs) whole
statics_joined start first second e gs objects texts whole known one two h k split =
    let os : AreStaticsOf second (map (u.static_named e gs) e.context.unit.statics) objects = statics_later first second (map (u.static_named e gs) e.context.unit.statics) objects two h in
    let ts : AreStaticsOf second (u.string_statics e.context.known 1 e.strings) texts = subst (λ (s : Structs). AreStaticsOf second (u.string_statics s 1 e.strings) texts) (one.structs ∙ sym known) k in
    let all = statics_both second (map (u.static_named e gs) e.context.unit.statics) (u.string_statics e.context.known 1 e.strings) objects texts os ts in
    subst (λ (ss : List Static). AreStaticsOf second (all_statics e gs) ss) (sym split) all

pub program_made : (p : Parts) (start first : Table) (g : Prog) → start ≡ p.file.place.structs → IsGrown start first → IsGrown first g.types
    → ((e : FilePlace) → e.context.known ≡ structs_of start → e.context.scopes ≡ scopes_of p.file.place.scope → e.context.unit.statics ≡ p.file.place.outline.statics → e.strings ≡ bytes_of p.file.texts.items
    → AreStaticsOf first (all_statics e (first_values_in p.given.items)) g.statics.items)
    → AreFunctionsOf first g.types p.functions.items g.funcs.items → g.main ≡ place_in main_name p.file.place.outline.bodies
    → IsProgram p g
program_made p start first g same one two statics functions main =
    let e = file_place_of p.file in
    let from : IsGrown p.file.place.structs first = subst (λ (t : Table). IsGrown t first) same one in
    let here : AreStaticsOf first (all_statics e (first_values_in p.given.items)) g.statics.items = statics e (ap structs_of (sym same)) refl refl refl in
    record {
      statics = statics_later first g.types (all_statics e (first_values_in p.given.items)) g.statics.items two here;
      functions = functions_earlier p.file.place.structs first g.types p.functions.items g.funcs.items from functions;
      main = main;
      structs = two.structs ∙ from.structs;
    }
