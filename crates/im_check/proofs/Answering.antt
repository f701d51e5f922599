-- The checker's answers.
use Rattle.std.proofs.Common.{◌≡◌, ◌≤◌, ◌<◌, ℕ, zero, suc, List, [], ◌∷◌, length, get_or, sym, ap, ◌∙◌, subst, arith}
use Rattle.std.specs.List.{All}
use Rattle.std.specs.Prelude.{Contains}
use Rattle.im_ctree.specs.Tree as t
use Rattle.im_check_externals.specs.im_ctype.Table.{Table, IsIn}
use Rattle.im_check_externals.specs.im_store.Statics.{StaticObject}
use Rattle.im_typed.specs.declared.program.Func as rf
use Rattle.im_typed.specs.declared.program.Prog.{Prog}
use Rattle.im_typed.specs.declared.program.Static as rst
use Rattle.im_typed.specs.Limits.{static_bytes}
use Rattle.im_typed.specs.ProgramOf.{program_of}
use Rattle.im_rules.specs.Scopes.{Scopes}
use Rattle.im_rules.specs.TypedUnit.{TypedUnit}
use Rattle.im_rules_limits.specs.Limits as l
use Rattle.im_lower_plain.specs.MakeUnit.{HasTypes}
use Rattle.im_typed.specs.StructsLaws.{StatementsLaw, ObjectsLaw}
use Rattle.im_rules_sound_unit.specs.Laws.{UnitsLaw}
use Rattle.im_rules_sound_unit.specs.im_rules_sound_places.Units.{IsWrittenUnit}
use Rattle.im_check_counts.specs.declared.crowded.Crowded.{Crowded as Found}
use Rattle.im_check_counts.specs.Crowded.{CrowdedAmong}
use Rattle.im_check_counts.proofs.Found.{first_over}
use Rattle.im_check_file_place.specs.Files.{file_place_of}
use Rattle.im_check_defined.specs.declared.function.Defined.{Defined}
use Rattle.im_check_defined.specs.Values.{first_values_in}
use Rattle.im_check_program.specs.declared.programs.Parts.{Parts}
use Rattle.im_check_program.specs.Known.{AreStaticsOf, AreFunctionsOf}
use Rattle.im_check_program.specs.Programs.{IsProgram}
use Rattle.im_check.specs.declared.fault.CheckFault.{CheckFault}
use Rattle.im_check.specs.declared.fault.CheckFault.TheVariants as f
use Rattle.im_check.specs.Checked.{IsChecked, IsCheckFault}
use Rattle.im_check.specs.Counts.{IsToldOf, IsOverParameters, IsOverStatics}
use Rattle.im_check.specs.Units.{UnitTyped}
use Rattle.im_check.proofs.Programs.{meant, is_typed, statics_same, within, is_program}

statics_known : (types : Table) (xs : List StaticObject) (ss : List rst.Static) → AreStaticsOf types xs ss → All (λ (x : rst.Static). IsIn types x.object.ty) ss
statics_known types [] [] h = λ i d lt. absurd (omega (arith, lt))
statics_known types [] (s ∷ ss) h = absurd h
statics_known types (x ∷ xs) [] h = absurd h
statics_known types (x ∷ xs) (s ∷ ss) h = at (statics_known types xs ss h.1)
  where
    at : All (λ (y : rst.Static). IsIn types y.object.ty) ss → (i : ℕ) (d : rst.Static) → i < length (s ∷ ss) → IsIn types (get_or (s ∷ ss) i d).object.ty
    at rest zero d lt = h.0.known
    at rest (suc i) d lt = rest i d (omega (arith, lt))

functions_known : (before after : Table) (fs : List Defined) (gs : List rf.Func) → AreFunctionsOf before after fs gs → All (λ (g : rf.Func). HasTypes after g.objects.items) gs
functions_known before after [] [] h = λ i d lt. absurd (omega (arith, lt))
functions_known before after [] (g ∷ gs) h = absurd h
functions_known before after (k ∷ fs) [] h = absurd h
functions_known before after (k ∷ fs) (g ∷ gs) h = at (functions_known before after fs gs h.1)
  where
    at : All (λ (y : rf.Func). HasTypes after y.objects.items) gs → (i : ℕ) (d : rf.Func) → i < length (g ∷ gs) → HasTypes after (get_or (g ∷ gs) i d).objects.items
    at rest zero d lt = h.0.known
    at rest (suc i) d lt = rest i d (omega (arith, lt))

-- within the limits the program is that of the definitions
pub checked : StatementsLaw → ObjectsLaw → UnitsLaw → {u : t.Tree} {p : Parts} (h : UnitTyped u p) (g : Prog) → IsProgram p g → IsWrittenUnit u → ((n : ℕ) → Contains (l.parameter_counts (file_place_of p.file).context.scopes u) n → n ≤ 8) → static_bytes (program_of g).statics ≤ 1048576
    → IsChecked u g
checked statements objects units {u = u} {p = p} h g m written few small =
    let bytes : static_bytes (meant h).statics ≤ 1048576 = subst (λ xs. static_bytes xs ≤ 1048576) (statics_same h g m) small in
    let limits : l.IsWithinLimits u = within h h.within few bytes in
    let same = is_program statements objects units h g m written limits in
    record {
      typed = subst (λ z. TypedUnit u z) (sym same) (is_typed h);
      within = limits;
      known = record { statics = statics_known g.types _ g.statics.items m.statics; objects = functions_known p.file.place.structs g.types p.functions.items g.funcs.items m.functions };
    }

-- the program is within them where no function's parameters take too many words
pub few_parameters : {u : t.Tree} {p : Parts} {hs : List l.Head} → UnitTyped u p → hs ≡ l.function_heads u → ((n : ℕ) → Contains (l.words_taken (file_place_of p.file).context.scopes hs) n → n ≤ 8)
    → (n : ℕ) → Contains (l.parameter_counts (file_place_of p.file).context.scopes u) n → n ≤ 8
few_parameters {p = p} h same few n c = few n (subst (λ hs. Contains (l.words_taken (file_place_of p.file).context.scopes hs) n) (sym same) c)

pub parameters_stop : {u : t.Tree} {p : Parts} {hs : List l.Head} → UnitTyped u p → hs ≡ l.function_heads u → (x : CheckFault) → IsOverParameters (file_place_of p.file).context.scopes hs x
    → IsCheckFault u x
parameters_stop {u = u} {p = p} h same (f.Crowded words token name) o =
    let e = file_place_of p.file in
    let among : CrowdedAmong e.context.scopes (l.function_heads u) words token name.items = subst (λ hs. CrowdedAmong e.context.scopes hs words token name.items) same o in
    record {
      exceeds = l.too_many_parameters h.typed (first_over among);
      first = record { place = e; values = first_values_in p.given.items; functions = h.functions; typed = h.typed; first = among };
    }
parameters_stop h same (f.Large bytes token name) o = absurd o
parameters_stop h same (f.Statics bytes) o = absurd o
parameters_stop h same (f.Rule rule token) o = absurd o
parameters_stop h same f.OutOfMemory o = tt

pub told : (g : Scopes) (hs : List l.Head) (found : Found) (x : CheckFault) → CrowdedAmong g hs found.words found.at found.name.now → IsToldOf found x → IsOverParameters g hs x
told g hs found (f.Crowded words token name) h is =
    subst (λ (n : ℕ). CrowdedAmong g hs n token name.items) (sym is.0)
    (subst (λ (n : ℕ). CrowdedAmong g hs found.words n name.items) (sym is.1)
    (subst (λ z. CrowdedAmong g hs found.words found.at z) (sym is.2) h))
told g hs found (f.Large bytes token name) h is = absurd is
told g hs found (f.Statics bytes) h is = absurd is
told g hs found (f.Rule rule token) h is = absurd is
told g hs found f.OutOfMemory h is = tt

pub statics_stop : {u : t.Tree} {p : Parts} (h : UnitTyped u p) (g : Prog) (x : CheckFault) → IsProgram p g → IsOverStatics (program_of g) x → IsCheckFault u x
statics_stop {u = u} h g (f.Statics bytes) m o =
    let same : bytes ≡ static_bytes (meant h).statics = o.0 ∙ ap (λ xs. static_bytes xs) (statics_same h g m) in
    (subst (λ n. l.Exceeds u l.of_statics n) (sym same) (l.too_many_statics (is_typed h) (subst (λ n. 1048576 < n) same o.1)), h.within)
statics_stop h g (f.Crowded words token name) m o = absurd o
statics_stop h g (f.Large bytes token name) m o = absurd o
statics_stop h g (f.Rule rule token) m o = absurd o
statics_stop h g f.OutOfMemory m o = tt
