-- Faults of a unit, and a rule's refusal, as faults of the checker.
use Rattle.std.specs.Prelude.{◌≡◌, List}
use Rattle.im_rules.specs.Demands.{Demand, Refuses}
use Rattle.im_check_externals.specs.declared.fault.UnitFault.{UnitFault}
use Rattle.im_check_externals.specs.declared.fault.UnitFault.TheVariants as u
use Rattle.im_check.specs.declared.fault.CheckFault.{CheckFault}
use Rattle.im_check.specs.declared.fault.CheckFault.TheVariants.{Rule, Crowded, Large, Statics, OutOfMemory}

abbrev pub fault_of : UnitFault → CheckFault
fault_of (u.Rule number token) = Rule number token
fault_of (u.Large bytes token name) = Large bytes token name
fault_of u.Memory = OutOfMemory

-- a rule refuses, at a unit's first token; or memory ran out
abbrev pub IsRuleFault : List Demand → CheckFault → Type 0
IsRuleFault asked (Rule number token) = Refuses number asked × (token ≡ 0)
IsRuleFault asked (Crowded words token name) = ⊥
IsRuleFault asked (Large bytes token name) = ⊥
IsRuleFault asked (Statics bytes) = ⊥
IsRuleFault asked OutOfMemory = Unit {0}
