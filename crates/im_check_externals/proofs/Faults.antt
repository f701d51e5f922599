-- Faults as faults of what is round them.
use Rattle.std.proofs.Common.{◌≡◌, ℕ, sym, ap, subst}
use Rattle.im_check_file_functions.specs.im_word.Words.{Name}
use Rattle.im_ctree.specs.Shape.{declarator_of}
use Rattle.im_ctree.specs.declared.declarator.Declarator as dc
use Rattle.im_ctree_parts.proofs.Shapes.{declarator_shape}
use Rattle.im_rules.specs.BodyBreaks.{declarator_token}
use Rattle.im_rules.specs.Outline.{name_of}
use Rattle.im_rules.specs.FileScope.{FilePlace}
use Rattle.im_rules.specs.UnitBreaks.{FileNode, FileBroken}
use Rattle.im_check_file_functions.specs.im_rules_limits.Limits.{FileSized}
use Rattle.im_check_stop.specs.declared.stop.Stop.{Stop}
use Rattle.im_check_stop.specs.declared.stop.Stop.TheVariants as s
use Rattle.im_check_file_specifiers.specs.Answers.{IsFileFault}
use Rattle.im_check_externals.specs.declared.fault.UnitFault.{UnitFault}
use Rattle.im_check_externals.specs.declared.fault.UnitFault.TheVariants.{Rule, Large, Memory}
use Rattle.im_check_externals.specs.Faults.{IsFaultBy, IsMetIn}

pub of_whole : {B C : ℕ → ℕ → Type 0} {L M : ℕ → ℕ → Name → Type 0} (fault : UnitFault)
    → ((rule token : ℕ) → B rule token → C rule token)
    → ((bytes token : ℕ) (name : Name) → L bytes token name → M bytes token name)
    → IsFaultBy B L fault
    → IsFaultBy C M fault
of_whole (Rule rule token) broken large h = broken rule token h
of_whole (Large bytes token name) broken large h = (large bytes token name.items h.0, h.1)
of_whole Memory broken large h = tt

-- a stop at a node that has no other parts
pub of_stop : {f : FilePlace} {n : FileNode} {C : ℕ → ℕ → Type 0} (M : ℕ → ℕ → Name → Type 0) (at : ℕ) (called : Name) (stop : Stop) (fault : UnitFault)
    → ((rule token : ℕ) → FileBroken f n rule token → C rule token)
    → ((bytes : ℕ) → FileSized f n bytes → M bytes at called)
    → IsFileFault f n stop
    → IsMetIn at called stop fault
    → IsFaultBy C M fault
of_stop {f = f} {n = n} M at called stop (Rule rule token) broken large h is = broken rule token (subst (λ z. IsFileFault f n z) is h)
of_stop {f = f} {n = n} M at called stop (Large bytes token name) broken large h (is, is_token, is_name) =
    let k : IsFileFault f n (s.Large bytes) = subst (λ z. IsFileFault f n z) is h in
    (subst (λ z. M bytes z name.items) (sym is_token) (subst (λ z. M bytes at z) (sym is_name) (large bytes k.0)), k.1)
of_stop M at called stop Memory broken large h is = tt

-- a declarator begins with its first token
pub met_in_declarator : (d : dc.Declarator) (called : Name) (stop : Stop) (fault : UnitFault) → called ≡ name_of (declarator_of d)
    → IsMetIn (dc.out-Declarator d).at called stop fault
    → IsMetIn (declarator_token (declarator_of d)) (name_of (declarator_of d)) stop fault
met_in_declarator d called stop fault is h =
    subst (λ z. IsMetIn z (name_of (declarator_of d)) stop fault) (sym (ap declarator_token (declarator_shape d)))
    (subst (λ z. IsMetIn (dc.out-Declarator d).at z stop fault) is h)
