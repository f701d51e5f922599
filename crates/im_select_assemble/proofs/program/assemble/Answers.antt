use Rattle.im_select_assemble.specs.Names.{part_names}
use Rattle.im_select_assemble.proofs.Assembling.{program_of}
use Rattle.im_select_assemble.proofs.Naming.{program_named}
use Rattle.im_select_assemble.proofs.program.assemble.Goals as goal

pub returns-clause-parts : goal.returns-clause-parts
returns-clause-parts c =
    let u = c.args.unit in
    let program = c.args.program.now in
    let first = c.in_ok-linker.ensures in
    let second = c.in_ok-push_functions.ensures.adds first.parts first.holds in
    let third = c.in_ok-push_start.ensures second.0 second.1 in
    record {
      parts = third.0;
      holds = third.1;
      is_program = program_of u program first.parts second.0 third.0 c.requires first.runtime second.2.adds third.2.adds;
      names = program_named program.names.now _ (part_names first.parts) (part_names second.0) (part_names third.0) c.requires.names first.names second.2.named third.2.named;
    }
