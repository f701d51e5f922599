use Rattle.std.proofs.Common.{◌≡◌, drop}
use Rattle.im_check_scopes.specs.im_rules.Rules.{members_free}
use Rattle.im_check_place.specs.Fields.{fields_of}
use Rattle.im_check_place.proofs.free.are_free.Given as goal

abbrev pub invariant-loop-field : goal.invariant-loop-field
invariant-loop-field l = members_free l.done (fields_of l.fields) ≡ members_free l.done (fields_of (drop l.field-index l.fields))
