-- External declarations, one behind the other.
use Rattle.std.proofs.Common.{◌≡◌, ◌<◌, ◌≤◌, ℕ, ◌+◌, List, [], ◌∷◌, ◌++◌, length, drop, get_or, Vec, Global, sym, ap, ◌∙◌, subst, append_assoc}
use Rattle.std.proofs.lemmas.List.{append-nil, drop_more, drop_all, length_push}
use Rattle.im_ctree.specs.Tree as t
use Rattle.im_ctree.specs.Shape.{external_of, externals_of}
use Rattle.im_ctree.specs.declared.unit.External.{External}
use Rattle.im_check_file_functions.specs.im_typed.Program.{Func}
use Rattle.im_rules.specs.FileScope.{FilePlace}
use Rattle.im_rules.specs.TypedUnit as u
use Rattle.im_rules.specs.TypedUnit.{AreExternals, no_external, an_external}
use Rattle.im_rules.specs.BodyBreaks.{declarator_token}
use Rattle.im_rules.specs.Outline.{name_of}
use Rattle.im_rules.specs.UnitBreaks as b
use Rattle.im_rules.specs.UnitBreaks.{FileBroken, some_externals, within_file, first_external, other_externals}
use Rattle.im_check_file_functions.specs.im_word.Words.{Name}
use Rattle.im_check_file_functions.specs.im_rules_limits.Limits.{IsFileWithin}
use Rattle.im_check_stop.specs.declared.stop.Stop.{Stop}
use Rattle.im_check_file_place.specs.declared.file.File.{File}
use Rattle.im_check_file_place.specs.Files.{file_place_of}
use Rattle.im_check_file_specifiers.specs.Answers.{IsFileFault}
use Rattle.im_check_defined.specs.declared.first_values.FirstValues.{FirstValues}
use Rattle.im_check_defined.specs.declared.function.Defined.{Defined}
use Rattle.im_check_defined.specs.Functions.{function_in, AreDefined}
use Rattle.im_check_defined.specs.Values.{first_values_in}
use Rattle.im_check_file_declarations.specs.Declarations.{DeclarationDone}
use Rattle.im_check_file_functions.specs.Definitions.{DefinitionDone}
use Rattle.im_check_externals.specs.declared.fault.UnitFault.{UnitFault}
use Rattle.im_check_externals.specs.declared.unit.UnitDefined.{UnitDefined}
use Rattle.im_check_externals.specs.Externals.{ExternalDone, ExternalsDone}
use Rattle.im_check_externals.specs.Faults.{IsExternalFault, IsExternalsFault, IsMetIn}
use Rattle.im_check_externals.specs.Large.{LargeExternal, LargeAmong, in_function, this_external, other_external}
use Rattle.im_check_externals.proofs.Faults.{of_whole, of_stop}
use Rattle.im_check_externals.proofs.Longer.{external_more}
use Rattle.im_check_externals.proofs.Defined.{defined_longer, defined_two, defined_one}
use Rattle.im_check_externals.proofs.Within.{nothing_within, more_within}

pub next : {X : Type 0} (xs : List X) (i : ℕ) (x : X) → i < length xs → x ≡ get_or xs i x → drop i xs ≡ x ∷ drop (i + 1) xs
next xs i x below is = drop_more xs i x below ∙ ap (λ y. y ∷ drop (i + 1) xs) (sym is)

pub last : {X : Type 0} (xs : List X) (i : ℕ) → length xs ≤ i → drop i xs ≡ []
last xs i all = drop_all i xs all

-- one of either kind

pub of_declared : {before after : File} {x : t.External} (firsts : Vec FirstValues Global) (done : UnitDefined)
    → DeclarationDone (file_place_of before) x done.firsts.items firsts.items (file_place_of after)
    → ExternalDone before done x after (record { firsts = firsts; functions = done.functions })
of_declared firsts done d =
    record {
      given = d.given;
      made = [];
      defined = [];
      typed = d.typed;
      within = d.within;
      firsts = d.added;
      functions = sym (append-nil done.functions.items);
      same = tt;
    }

pub of_defined : {before after : File} {x : t.External} {f : Defined} (functions : Vec Defined Global) (done : UnitDefined)
    → functions.items ≡ done.functions.items ++ f ∷ []
    → DefinitionDone before x after f
    → ExternalDone before done x after (record { firsts = done.firsts; functions = functions })
of_defined {after = after} {f = f} functions done pushed d =
    record {
      given = [];
      made = function_in after.place.structs f ∷ [];
      defined = f ∷ [];
      typed = d.typed;
      within = d.within;
      firsts = sym (append-nil (first_values_in done.firsts.items));
      functions = pushed;
      same = defined_one after.place.structs f d.complete;
    }

-- how far external declarations are typed: whatever is typed behind the first i of them is typed with them
pub record Reached (before now : File) (done : UnitDefined) (xs : List External) (i : ℕ) : Type 0 where
  pub made : List Func
  pub goes_on : (hs : List u.FirstValues) (ks : List Func) (e : FilePlace)
      → AreExternals (file_place_of now) (externals_of (drop i xs)) hs ks e
      → AreExternals (file_place_of before) (externals_of xs) (first_values_in done.firsts.items ++ hs) (made ++ ks) e
  pub breaks_on : (rule token : ℕ)
      → FileBroken (file_place_of now) (some_externals (externals_of (drop i xs))) rule token
      → FileBroken (file_place_of before) (some_externals (externals_of xs)) rule token
  pub larges_on : (bytes token : ℕ) (name : Name) → LargeAmong (file_place_of now) (externals_of (drop i xs)) bytes token name → LargeAmong (file_place_of before) (externals_of xs) bytes token name
  pub within_on : IsFileWithin (file_place_of now) (some_externals (externals_of (drop i xs))) → IsFileWithin (file_place_of before) (some_externals (externals_of xs))
  pub same : AreDefined now.place.structs made done.functions.items

pub reached_none : (f : File) (done : UnitDefined) (xs : List External) → done.firsts.items ≡ [] → done.functions.items ≡ [] → Reached f f done xs 0
reached_none f done xs no_firsts no_functions =
    record {
      made = [];
      goes_on = λ hs ks e h. subst (λ (vs : List FirstValues). AreExternals (file_place_of f) (externals_of xs) (first_values_in vs ++ hs) ks e) (sym no_firsts) h;
      breaks_on = λ rule token h. h;
      larges_on = λ bytes token name h. h;
      within_on = λ h. h;
      same = subst (λ fs. AreDefined f.place.structs [] fs) (sym no_functions) tt;
    }

pub reached_more : {before now after : File} {done done' : UnitDefined} {xs : List External} {i : ℕ} {x : External}
    → drop i xs ≡ x ∷ drop (i + 1) xs
    → Reached before now done xs i
    → ExternalDone now done (external_of x) after done'
    → Reached before after done' xs (i + 1)
reached_more {before = before} {now = now} {after = after} {done = done} {done' = done'} {xs = xs} {i = i} at reached one =
    let rest = externals_of (drop (i + 1) xs) in
    let whole : externals_of (drop i xs) ≡ t.more_externals (external_of _) rest = ap externals_of at in
    let longer = external_more one.typed in
    record {
      made = reached.made ++ one.made;
      goes_on = λ hs ks e h.
          let h₁ : AreExternals (file_place_of now) (externals_of (drop i xs)) (one.given ++ hs) (one.made ++ ks) e = subst (λ z. AreExternals (file_place_of now) z (one.given ++ hs) (one.made ++ ks) e) (sym whole) (an_external one.typed h) in
          let values : first_values_in done.firsts.items ++ (one.given ++ hs) ≡ first_values_in done'.firsts.items ++ hs = sym (append_assoc (first_values_in done.firsts.items) one.given hs) ∙ ap (λ z. z ++ hs) (sym one.firsts) in
          subst (λ z. AreExternals (file_place_of before) (externals_of xs) z ((reached.made ++ one.made) ++ ks) e) values
          (subst (λ z. AreExternals (file_place_of before) (externals_of xs) (first_values_in done.firsts.items ++ (one.given ++ hs)) z e) (sym (append_assoc reached.made one.made ks)) (reached.goes_on (one.given ++ hs) (one.made ++ ks) e h₁));
      breaks_on = λ rule token h. reached.breaks_on rule token (subst (λ z. FileBroken (file_place_of now) (some_externals z) rule token) (sym whole) (within_file (other_externals one.typed) h));
      larges_on = λ bytes token name h. reached.larges_on bytes token name (subst (λ z. LargeAmong (file_place_of now) z bytes token name) (sym whole) (other_external one.typed one.within h));
      within_on = λ h. reached.within_on (subst (λ z. IsFileWithin (file_place_of now) (some_externals z)) (sym whole) (more_within one.typed one.within h));
      same =
          subst (λ fs. AreDefined after.place.structs (reached.made ++ one.made) fs) (sym one.functions)
          (defined_two after.place.structs reached.made done.functions.items one.made one.defined (defined_longer now.place.structs after.place.structs longer.0 longer.1 reached.made done.functions.items reached.same) one.same);
    }

-- one more that an iterator yields
pub reached_push : {before now after : File} {done done' : UnitDefined} (xs yielded : List External) (x : External) → length yielded < length xs → x ≡ get_or xs (length yielded) x
    → Reached before now done xs (length yielded)
    → ExternalDone now done (external_of x) after done'
    → Reached before after done' xs (length (yielded ++ x ∷ []))
reached_push {before = before} {after = after} {done' = done'} xs yielded x below is reached one =
    subst (λ n. Reached before after done' xs n) (sym (length_push yielded x)) (reached_more (next xs (length yielded) x below is) reached one)

pub reached_fault : {before now : File} {done : UnitDefined} {xs : List External} {i : ℕ} {x : External} (fault : UnitFault)
    → drop i xs ≡ x ∷ drop (i + 1) xs
    → Reached before now done xs i
    → IsExternalFault (file_place_of now) (external_of x) fault
    → IsExternalsFault (file_place_of before) (externals_of xs) fault
reached_fault {before = before} {now = now} {xs = xs} {i = i} {x = x} fault at reached h =
    let rest = externals_of (drop (i + 1) xs) in
    let here : IsExternalsFault (file_place_of now) (t.more_externals (external_of x) rest) fault =
    of_whole fault (λ rule token z. within_file first_external z) (λ bytes token name z. this_external z) h in
    let here' : IsExternalsFault (file_place_of now) (externals_of (drop i xs)) fault = subst (λ (zs : List External). IsExternalsFault (file_place_of now) (externals_of zs) fault) (sym at) here in
    of_whole fault reached.breaks_on reached.larges_on here'

-- a fault in a function definition
pub function_fault : (f : FilePlace) (s : t.Specifiers) (d : t.Declarator) (body : t.Block) (stop : Stop) (fault : UnitFault)
    → IsFileFault f (b.an_external (t.function_definition s d body)) stop
    → IsMetIn (declarator_token d) (name_of d) stop fault
    → IsExternalFault f (t.function_definition s d body) fault
function_fault f s d body stop fault h is = of_stop (LargeExternal f (t.function_definition s d body)) (declarator_token d) (name_of d) stop fault (λ rule token z. z) (λ bytes z. in_function z) h is

pub reached_all : {before now : File} {done : UnitDefined} {xs : List External} {i : ℕ} → drop i xs ≡ [] → Reached before now done xs i → ExternalsDone before (externals_of xs) now done
reached_all {before = before} {now = now} {done = done} {xs = xs} ends reached =
    let h = reached.goes_on [] [] (file_place_of now) (subst (λ (zs : List External). AreExternals (file_place_of now) (externals_of zs) [] [] (file_place_of now)) (sym ends) no_external) in
    record {
      made = reached.made;
      typed =
          subst (λ z. AreExternals (file_place_of before) (externals_of xs) z reached.made (file_place_of now)) (append-nil (first_values_in done.firsts.items))
          (subst (λ z. AreExternals (file_place_of before) (externals_of xs) (first_values_in done.firsts.items ++ []) z (file_place_of now)) (append-nil reached.made) h);
      within = reached.within_on (subst (λ (zs : List External). IsFileWithin (file_place_of now) (some_externals (externals_of zs))) (sym ends) (nothing_within (file_place_of now)));
      same = reached.same;
    }
