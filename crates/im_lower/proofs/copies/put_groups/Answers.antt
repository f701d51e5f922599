use Rattle.std.proofs.Common.{◌≡◌, ◌+◌, ◌-◌, ◌*◌, ◌<◌, drop, ap, ◌∙◌, arith}
use Rattle.std.specs.Prelude.{slice_range}
use Rattle.im_lower_plain.specs.Make.{put_group, put_groups}
use Rattle.im_lower.proofs.GroupSteps.{groups-start, groups-more}
use Rattle.im_lower.proofs.copies.put_groups.Goals as goal

pub loop-group-init : goal.loop-group-init
loop-group-init c =
    c.in_ok-put_group.ensures ∙ groups-start c.args.pointer c.args.place c.args.cells.now c.args.code.now c.args.groups

pub loop-group-preserved : goal.loop-group-preserved
loop-group-preserved c =
    let l = c.loop-group in
    let cells = c.args.cells.now in
    let i = l.group - 1 in
    let same : l.group ≡ i + 1 = omega arith in
    let within : i < c.args.groups = omega arith in
    c.in_ok-put_group-2.ensures
    ∙ ap (λ m. put_group c.args.pointer c.args.place (slice_range cells (8 * i) (8 * i + 8)) m)
    (l.invariant ∙ ap (λ n. put_groups c.args.pointer c.args.place (c.args.groups - n) (drop (8 * n) cells) c.args.code.now) same)
    ∙ groups-more c.args.pointer c.args.place cells c.args.code.now c.args.groups i within

pub returns : goal.returns
returns c =
    let l = c.loop-group in
    let cells = c.args.cells.now in
    let start : 8 * l.group ≡ 0 = omega arith in
    let all : c.args.groups - l.group ≡ c.args.groups = omega arith in
    l.invariant ∙ ap (λ n. put_groups c.args.pointer c.args.place n (drop (8 * l.group) cells) c.args.code.now) all
    ∙ ap (λ k. put_groups c.args.pointer c.args.place c.args.groups (drop k cells) c.args.code.now) start
