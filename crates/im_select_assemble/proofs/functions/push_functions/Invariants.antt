use Rattle.std.proofs.Common.{◌≡◌, length}
use Rattle.im_link.specs.Linking.{Grows}
use Rattle.im_link_laws.specs.Program.{first_label}
use Rattle.im_select_assemble.specs.Assembled.{AddsNamedFunctions}
use Rattle.im_select_assemble.proofs.functions.push_functions.Given as goal

abbrev pub invariant-loop-function : goal.invariant-loop-function
invariant-loop-function l = record {
  count : l.number ≡ length l.yielded;
  label : l.first_block ≡ first_label l.fn.functions.items l.number;
  added : Grows l.initial.linker l.linker (AddsNamedFunctions l.fn.functions.items l.program l.number);
}
