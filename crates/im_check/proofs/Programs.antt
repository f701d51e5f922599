-- The program of a unit that is typed and within the limits.
use Rattle.std.proofs.Common.{◌≡◌, ◌≤◌, ℕ, List, [], ◌∷◌, ◌++◌, map, refl, ap, ◌∙◌, subst, arith}
use Rattle.std.specs.Prelude.{Contains}
use Rattle.im_ctree.specs.Tree as t
use Rattle.im_check_externals.specs.im_store.Statics.{StaticObject}
use Rattle.im_typed.specs.declared.program.Prog as rp
use Rattle.im_typed.specs.declared.program.Static as rst
use Rattle.im_typed.specs.Limits.{static_bytes}
use Rattle.im_typed.specs.Program.{Func, Prog}
use Rattle.im_typed.specs.ProgramOf.{static_of, func_of, program_of}
use Rattle.im_check_externals.specs.im_ctype.Table.{Table}
use Rattle.im_rules.specs.FileScope.{FilePlace, file_start}
use Rattle.im_rules.specs.TypedUnit.{program, static_named, string_statics, TypedUnit, of_unit}
use Rattle.im_rules.specs.UnitBreaks.{some_externals}
use Rattle.im_rules.proofs.UnitOnce.{externals_once, unit_once}
use Rattle.im_rules_limits.specs.Limits as l
use Rattle.im_rules_limits.proofs.First.{first-among}
use Rattle.im_typed.specs.StructsLaws.{StatementsLaw, ObjectsLaw}
use Rattle.im_rules_sound_unit.specs.Laws.{UnitsLaw}
use Rattle.im_rules_sound_unit.specs.im_rules_sound_places.Units.{IsWrittenUnit}
use Rattle.im_check_file_place.specs.Files.{file_place_of}
use Rattle.im_check_defined.specs.Values.{first_values_in}
use Rattle.im_check_program.specs.declared.programs.Parts.{Parts}
use Rattle.im_check_program.specs.Known.{AreStaticsOf}
use Rattle.im_check_program.specs.Programs.{IsProgram}
use Rattle.im_check.specs.Units.{UnitTyped}
use Rattle.im_check.proofs.Functions.{all_functions}

same_statics : (types : Table) (xs : List StaticObject) (ss : List rst.Static) → AreStaticsOf types xs ss → map (static_of types) ss ≡ xs
same_statics types [] [] h = refl
same_statics types [] (s ∷ ss) h = absurd h
same_statics types (x ∷ xs) [] h = absurd h
same_statics types (x ∷ xs) (s ∷ ss) h = ap (λ (y : StaticObject). y ∷ map (static_of types) ss) h.0.same ∙ ap (λ (ys : List StaticObject). x ∷ ys) (same_statics types xs ss h.1)

-- the program of the definitions
abbrev pub meant : {u : t.Tree} {p : Parts} → UnitTyped u p → Prog
meant {p = p} h = program (file_place_of p.file) (first_values_in p.given.items) h.functions

pub is_typed : {u : t.Tree} {p : Parts} (h : UnitTyped u p) → TypedUnit u (meant h)
is_typed h = of_unit h.typed h.has_main

pub statics_same : {u : t.Tree} {p : Parts} (h : UnitTyped u p) (g : rp.Prog) → IsProgram p g → (program_of g).statics ≡ (meant h).statics
statics_same {p = p} h g m =
    let e = file_place_of p.file in
    same_statics g.types (map (static_named e (first_values_in p.given.items)) e.context.unit.statics ++ string_statics e.context.known 1 e.strings) g.statics.items m.statics

-- the limits

pub within : {u : t.Tree} {p : Parts} (h : UnitTyped u p) → l.IsFileWithin (file_start u) (some_externals u) → ((n : ℕ) → Contains (l.parameter_counts (file_place_of p.file).context.scopes u) n → n ≤ l.parameter_limit) → static_bytes (meant h).statics ≤ 1048576
    → l.IsWithinLimits u
within {u = u} h sizes few small l.of_parameters n (l.too_many_parameters {e = e} typed first) =
    let same = (externals_once typed h.typed).2 in
    let among = first-among (l.parameter_counts e.context.scopes u) n first in
    let le = few n (subst (λ (f : FilePlace). Contains (l.parameter_counts f.context.scopes u) n) same among) in
    let over = first.over in
    absurd (omega arith)
within h sizes few small l.of_size n (l.too_large size over) = let le = sizes n size in absurd (omega arith)
within h sizes few small l.of_statics n (l.too_many_statics {g = g} typed over) =
    let same : static_bytes g.statics ≡ static_bytes (meant h).statics = ap (λ (x : Prog). static_bytes x.statics) (unit_once typed (is_typed h)) in
    absurd (omega (arith, same, over, small))

pub is_program : StatementsLaw → ObjectsLaw → UnitsLaw → {u : t.Tree} {p : Parts} (h : UnitTyped u p) (g : rp.Prog) → IsProgram p g → IsWrittenUnit u → l.IsWithinLimits u
    → program_of g ≡ meant h
is_program statements objects units {u = u} {p = p} h g m written limits =
    let well = units u (meant h) (is_typed h) written limits in
    let funcs : map (func_of g.types) g.funcs.items ≡ h.functions = all_functions statements objects (meant h) p.file.place.structs g.types m.structs h.functions p.functions.items g.funcs.items h.defined m.functions well.0.funcs in
    ap (λ (xs : List StaticObject). record { statics = xs; funcs = map (func_of g.types) g.funcs.items; main = g.main }) (statics_same h g m)
    ∙ ap (λ (ks : List Func). record { statics = (meant h).statics; funcs = ks; main = g.main }) funcs
    ∙ ap (λ (n : ℕ). record { statics = (meant h).statics; funcs = h.functions; main = n }) m.main
