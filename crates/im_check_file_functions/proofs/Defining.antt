-- Function definitions of a head and a body.
use Rattle.std.proofs.Common.{◌≡◌, ℕ, List, [], ◌∷◌, ◌++◌, map, length, Result, Ok, Err, MatchResult, sym, ap, ◌∙◌, subst}
use Rattle.im_ctree.specs.Tree as t
use Rattle.im_check_statements.specs.im_ctype.Types.{Structs}
use Rattle.im_typed.specs.Program.{Block, Func}
use Rattle.im_rules.specs.BodyBreaks.{BodyBroken, some_items}
use Rattle.im_rules.specs.Declared as d
use Rattle.im_rules.specs.FileScope.{FilePlace, past_strings, own_parameters}
use Rattle.im_rules.specs.Outline.{nearest}
use Rattle.im_rules.specs.Statements.{TypedItems, name_of}
use Rattle.im_rules.specs.TypedUnit.{result_kind, parameter_objects, function_made, past_head, TypedExternal, of_function}
use Rattle.im_rules.specs.TypeTests.{result_of}
use Rattle.im_rules.specs.UnitBreaks.{an_external, in_body}
use Rattle.im_check_statements.specs.im_rules_limits.Limits.{BodySized, IsBodyWithin, size_in_body}
use Rattle.im_check_stop.specs.declared.stop.Stop.{Stop}
use Rattle.im_check_stop.specs.declared.stop.Stop.TheVariants.{Rule, Large, Memory}
use Rattle.im_check_declarators.specs.Shape.{declared_of}
use Rattle.im_check_file_place.specs.declared.file.File.{File}
use Rattle.im_check_file_place.specs.Files.{file_place_of}
use Rattle.im_check_file_specifiers.specs.Answers.{IsFileFault}
use Rattle.im_check_defined.specs.declared.function.Defined.{Defined}
use Rattle.im_check_defined.specs.Functions.{function_in}
use Rattle.im_check_file_functions.specs.declared.heads.Headed.{Headed}
use Rattle.im_check_file_functions.specs.Heads.{HeadTyped}
use Rattle.im_check_file_functions.specs.Bodies.{site_in, FunctionDone, IsInsideFault}
use Rattle.im_check_file_functions.specs.Definitions.{DefinitionDone}
use Rattle.im_check_file_functions.proofs.Within.{definition_within}

-- the parameters that there are, as the head declares them
abbrev pub kept : t.Declarator → Headed → List d.Declared
kept e h = d.parameters_of (own_parameters (nearest e)) (map declared_of h.formals.items)

definition_done : {before here after : File} {xs : t.SpecifierList} {e : t.Declarator} {h : Headed} {is : t.BlockItems} {f : Defined} (at at' : ℕ)
    → HeadTyped (file_place_of before) xs at e (file_place_of here) h
    → FunctionDone here (declared_of h.declared) (own_parameters (nearest e)) (kept e h) is after f
    → DefinitionDone before (t.function_definition (t.specifiers at xs) e (t.block at' is)) after f
definition_done {before = before} {here = here} {after = after} {xs = xs} {e = e} {h = h} {is = is} {f = f} at at' head done =
    let y = declared_of h.declared in
    let own = own_parameters (nearest e) in
    let ds = kept e h in
    let x = t.function_definition (t.specifiers at xs) e (t.block at' is) in
    let m = done.added in
    let us = done.statements in
    let items = subst (λ (z : FilePlace). TypedItems (site_in z y own ds) is us m) head.behind done.typed in
    let whole : TypedExternal (file_place_of before) x [] (function_made head.here y ds us m ∷ []) (past_strings m.strings (past_head xs e y head.here)) =
    of_function head.specified head.declares head.may_have_body head.meets head.parameters items in
    let by : Structs → Func = λ known. record {
      name = name_of y.name;
      params = length ds;
      result = result_kind (result_of y.type);
      objects = parameter_objects known ds ++ m.objects;
      body = Block us;
    } in
    let made : function_in after.place.structs f ≡ function_made head.here y ds us m = done.same ∙ ap by (ap (λ (z : FilePlace). z.context.known) head.behind) in
    let behind : file_place_of after ≡ past_strings m.strings (past_head xs e y head.here) = done.behind ∙ ap (past_strings m.strings) head.behind in
    record {
      typed =
          subst (λ z. TypedExternal (file_place_of before) x [] (function_in after.place.structs f ∷ []) z) (sym behind)
          (subst (λ (z : Func). TypedExternal (file_place_of before) x [] (z ∷ []) (past_strings m.strings (past_head xs e y head.here))) (sym made) whole);
      within = definition_within head.specified head.declares head.parameters head.specifiers_within head.declarator_within (subst (λ (z : FilePlace). IsBodyWithin (site_in z y own ds) (some_items is)) head.behind done.within);
      complete = done.complete;
    }

definition_fault : {before here : FilePlace} {xs : t.SpecifierList} {e : t.Declarator} {h : Headed} (at at' : ℕ) (is : t.BlockItems) (stop : Stop)
    → HeadTyped before xs at e here h
    → IsInsideFault here (declared_of h.declared) (own_parameters (nearest e)) (kept e h) is stop
    → IsFileFault before (an_external (t.function_definition (t.specifiers at xs) e (t.block at' is))) stop
definition_fault {e = e} {h = h} at at' is (Rule rule token) head b =
    in_body head.specified head.declares head.parameters (subst (λ (z : FilePlace). BodyBroken (site_in z (declared_of h.declared) (own_parameters (nearest e)) (kept e h)) (some_items is) rule token) head.behind b)
definition_fault {e = e} {h = h} at at' is (Large bytes) head b =
    (size_in_body head.specified head.declares head.parameters (subst (λ (z : FilePlace). BodySized (site_in z (declared_of h.declared) (own_parameters (nearest e)) (kept e h)) (some_items is) bytes) head.behind b.0), b.1)
definition_fault at at' is Memory head b = tt

pub defined : (before here after : File) {xs : t.SpecifierList} {e : t.Declarator} {h : Headed} (at at' : ℕ) (is : t.BlockItems) (result : Result Defined Stop)
    → HeadTyped (file_place_of before) xs at e (file_place_of here) h
    → MatchResult result (FunctionDone here (declared_of h.declared) (own_parameters (nearest e)) (kept e h) is after)
    (IsInsideFault (file_place_of here) (declared_of h.declared) (own_parameters (nearest e)) (kept e h) is)
    → MatchResult result (DefinitionDone before (t.function_definition (t.specifiers at xs) e (t.block at' is)) after)
    (IsFileFault (file_place_of before) (an_external (t.function_definition (t.specifiers at xs) e (t.block at' is))))
defined before here after at at' is (Ok f) head h = definition_done at at' head h
defined before here after at at' is (Err stop) head h = definition_fault at at' is stop head h
