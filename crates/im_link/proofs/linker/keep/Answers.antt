use Rattle.std.proofs.Common.{List, ◌++◌, length, refl, ap, subst, arith}
use Rattle.std.specs.Prelude.{nat_eq}
use Rattle.std.specs.HashMap as hash
use Rattle.im_rv.specs.declared.code.Line.{Line}
use Rattle.im_link.specs.State.{AreLinesKept}
use Rattle.im_link.proofs.Whole.{kept_more}
use Rattle.im_link.proofs.linker.keep.Goals as goal

pub push_lines-requires : goal.push_lines-requires
push_lines-requires c =
    let same = ap (λ (z : List Line). length z) c.deref.ensures.value in
    let first = c.requires.first in
    let room = c.requires.room in
    omega arith

pub returns-clause-kept : goal.returns-clause-kept
returns-clause-kept c parts kept =
    kept_more c.args.linker.now _ parts c.args.part.now c.args.first c.requires.first refl
    (λ before k. subst (λ (z : List Line). AreLinesKept (before ++ z) c.push_lines.new.words.items c.push_lines.new.aims.items (hash.get nat_eq c.push_lines.new.places)) c.deref.ensures.value (c.in_ok-push_lines.ensures before k))
    c.in_ok-push_cuts.ensures kept
