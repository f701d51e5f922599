use Rattle.std.proofs.Common.{◌≡◌, length, Some, sym, subst}
use Rattle.std.specs.Prelude.{slice_get}
use Rattle.std.proofs.lemmas.Option.{slice_get_within}
use Rattle.im_block.specs.declared.access.Tags.{Tags}
use Rattle.im_block.specs.Wellformed.{AreApart}
use Rattle.im_alias.specs.Scan.{Agrees, IsScattered, numbers}
use Rattle.im_alias.specs.Sets.{IsCode}
use Rattle.im_alias.proofs.Units.{alias_is, part_start, least_start}
use Rattle.im_alias.proofs.tags.alias.Goals as goal

pub settle-requires : goal.settle-requires
settle-requires c =
    let u = c.args.unit.now in
    let t = c.in_ok-table.table in
    record {
      code = record { formed = c.requires.well_formed; placeable = c.requires.placeable };
      part = part_start u t c.in_ok-table.ensures.shape c.in_ok-table.ensures.empty;
      least = least_start u t c.in_ok-table.ensures.empty;
    }

pub scatter-requires : goal.scatter-requires
scatter-requires c =
    subst (λ l. AreApart (numbers l)) (sym c.deref.ensures.value) (subst AreApart (sym c.in_ok-found.ensures.numbers) c.requires.well_formed.accesses)

pub returns : goal.returns
returns c =
    let u = c.args.unit.now in
    let found = c.in_ok-found.found in
    let tags : Tags = record { of = c.in_ok-of.of; tags = c.into_tags-tags.result } in
    let code : IsCode u = record { formed = c.requires.well_formed; placeable = c.requires.placeable } in
    let scattered : IsScattered (length found.accesses.items) found.accesses.items tags.of.items = subst (λ l. IsScattered (length l) l tags.of.items) c.deref.ensures.value c.in_ok-of.ensures in
    let agrees : Agrees tags found = record {
      of = λ k a e. scattered k a (slice_get_within found.accesses.items k a e) e;
      tags = λ k tag e. subst (λ v. slice_get v.items k ≡ Some tag) (sym c.into_tags-tags.ensures) e;
    } in
    let is = alias_is u c.settle.new.table found tags code c.in_ok-found.ensures agrees in
    record { sound = is.0; least = is.1 }
