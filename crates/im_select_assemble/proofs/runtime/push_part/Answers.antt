use Rattle.std.proofs.Common.{◌++◌, ◌∷◌, [], refl}
use Rattle.im_rv.specs.declared.code.Part.{Part}
use Rattle.im_select_assemble.proofs.Naming.{named_new}
use Rattle.im_select_assemble.proofs.runtime.push_part.Goals as goal

pub returns : goal.returns
returns c = λ parts holds.
    let part : Part = record { name = c.in_ok-name.name; lines = c.args.lines } in (
      parts ++ part ∷ [],
      c.in_ok-add.ensures parts holds,
      record {
        adds = record { part = part; added = refl; lines = refl };
        named = named_new parts part c.args.name.now c.in_ok-name.ensures.ok;
      },
    )
