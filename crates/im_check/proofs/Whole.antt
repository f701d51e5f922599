-- Whole units.
use Rattle.std.proofs.Common.{◌≡◌, sym, subst}
use Rattle.im_ctree.specs.Tree as t
use Rattle.im_rules.specs.Demands.{Meets}
use Rattle.im_rules.specs.FileScope.{FilePlace, file_start, main_asks}
use Rattle.im_rules.specs.TypedUnit.{AreExternals}
use Rattle.im_rules.specs.UnitBreaks.{some_externals, UnitBroken, in_externals, at_unit}
use Rattle.im_rules_limits.specs.Limits as l
use Rattle.im_rules_limits.specs.Limits.{IsFileWithin}
use Rattle.im_check_file_place.specs.declared.file.File.{File}
use Rattle.im_check_file_place.specs.Files.{file_place_of}
use Rattle.im_check_defined.specs.Values.{first_values_in}
use Rattle.im_check_externals.specs.declared.fault.UnitFault.{UnitFault}
use Rattle.im_check_externals.specs.declared.fault.UnitFault.TheVariants as f
use Rattle.im_check_externals.specs.declared.unit.UnitDefined.{UnitDefined}
use Rattle.im_check_externals.specs.Externals.{ExternalsDone}
use Rattle.im_check_externals.specs.Faults.{IsExternalsFault}
use Rattle.im_check_externals.proofs.Large.{among_sized}
use Rattle.im_check.specs.declared.fault.CheckFault.{CheckFault}
use Rattle.im_check.specs.declared.fault.CheckFault.TheVariants.{Rule, Crowded, Large, Statics, OutOfMemory}
use Rattle.im_check.specs.Checked.{IsCheckFault}
use Rattle.im_check.specs.Stops.{IsRuleFault, fault_of}
use Rattle.im_check.specs.Units.{UnitTyped}

pub unit_typed : (u : t.Tree) (before after : File) (done : UnitDefined) → file_place_of before ≡ file_start u → ExternalsDone before u after done → Meets (main_asks (file_place_of after).context.scopes)
    → UnitTyped u (record { file = after; given = done.firsts; functions = done.functions })
unit_typed u before after done begun h main =
    record {
      functions = h.made;
      typed = subst (λ (p : FilePlace). AreExternals p u (first_values_in done.firsts.items) h.made (file_place_of after)) begun h.typed;
      has_main = main;
      defined = h.same;
      within = subst (λ (p : FilePlace). IsFileWithin p (some_externals u)) begun h.within;
    }

unit_fault : (u : t.Tree) (fault : UnitFault) → IsExternalsFault (file_start u) u fault → IsCheckFault u (fault_of fault)
unit_fault u (f.Rule rule token) h = in_externals h
unit_fault u (f.Large bytes token name) h = record { exceeds = l.too_large (among_sized h.0) h.1; first = h.0 }
unit_fault u f.Memory h = tt

pub externals_fault : (u : t.Tree) (p : FilePlace) (fault : UnitFault) (x : CheckFault) → x ≡ fault_of fault → p ≡ file_start u → IsExternalsFault p u fault → IsCheckFault u x
externals_fault u p fault x same begun h =
    subst (IsCheckFault u) (sym same) (unit_fault u fault (subst (λ (q : FilePlace). IsExternalsFault q u fault) begun h))

pub main_fault : (u : t.Tree) (before after : File) (done : UnitDefined) (x : CheckFault) → file_place_of before ≡ file_start u → ExternalsDone before u after done
    → IsRuleFault (main_asks (file_place_of after).context.scopes) x → IsCheckFault u x
main_fault u before after done (Rule rule token) begun h r =
    let typed : AreExternals (file_start u) u (first_values_in done.firsts.items) h.made (file_place_of after) = subst (λ (p : FilePlace). AreExternals p u (first_values_in done.firsts.items) h.made (file_place_of after)) begun h.typed in
    subst (λ k. UnitBroken u rule k) (sym r.1) (at_unit typed r.0)
main_fault u before after done (Crowded words token name) begun h r = absurd r
main_fault u before after done (Large bytes token name) begun h r = absurd r
main_fault u before after done (Statics bytes) begun h r = absurd r
main_fault u before after done OutOfMemory begun h r = tt
