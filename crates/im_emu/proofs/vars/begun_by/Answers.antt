use Rattle.std.proofs.Common.{leb, leb-true, arith, rules}
use Rattle.std.proofs.lemmas.Bool.{leb-false}
use Rattle.std.proofs.lemmas.List.Sorted.{IsPartitionPoint-from_clause, IsPartitionedBy-leb}
use Rattle.im_image.specs.Contents.{ObjectValue}
use Rattle.im_emu.proofs.Layouts.{rising}
use Rattle.im_emu.proofs.vars.begun_by.Goals as goal

pub returns : goal.returns
returns c =
    let parted = IsPartitionedBy-leb (λ (object : ObjectValue). object.at) c.args.objects.now c.args.address (rising c.args.objects.now c.requires) in
    let point = IsPartitionPoint-from_clause (λ (object : ObjectValue). leb object.at c.args.address) _ _ c.partition_point.ensures.partitioned parted (λ a r q k. search rules) in
    record {
      few = c.partition_point.ensures.bound;
      low = λ k d below. leb-true _ _ (point.0 k d (omega arith) below);
      high = λ k d above below. leb-false _ _ (point.1 k d above below);
    }
