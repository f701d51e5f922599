use Rattle.im_ctype.specs.Table.{structs_of}
use Rattle.im_check_type_specifiers.specs.Specified.{qualified_of}
use Rattle.std.proofs.Common.{◌≡◌, ◌-◌, length, drop, arith}
use Rattle.std.proofs.lemmas.Result.{err_from_is_err_and}
use Rattle.im_check_declarators.proofs.Steps.{none_done, one_more, step_fault, all_done, before, given_at, given_count}
use Rattle.im_check_declarators.proofs.suffixes.suffixed.Goals as goal

pub loop-i-init : goal.loop-i-init
loop-i-init c =
    let ss = c.args.suffixes.now in
    let gs = c.args.given.now in
    let n : length gs ≡ length ss = given_count (qualified_of c.args.q) ss gs c.requires.0 c.requires.1 in
    (omega arith, n, none_done (structs_of c.args.table.now) (qualified_of c.args.q) ss gs (length ss) (omega arith))

pub one_suffix-requires : goal.one_suffix-requires
one_suffix-requires c =
    let i = c.loop-i.i in
    let ss = c.args.suffixes.now in
    let gs = c.args.given.now in
    let s = before ss i c.index-suffixes-i.result (omega arith) (omega arith) c.index-suffixes-i.is in
    let x = before gs i c.index-given-i.result (omega arith) (omega arith) c.index-given-i.is in
    given_at (qualified_of c.args.q) ss gs (i - 1) c.index-suffixes-i.result (drop i ss) c.index-given-i.result (drop i gs) c.requires.0 c.requires.1 s x

pub loop-i-preserved : goal.loop-i-preserved
loop-i-preserved c =
    let i = c.loop-i.i in
    let ss = c.args.suffixes.now in
    let gs = c.args.given.now in
    let s = before ss i c.index-suffixes-i.result (omega arith) (omega arith) c.index-suffixes-i.is in
    let x = before gs i c.index-given-i.result (omega arith) (omega arith) c.index-given-i.is in
    (omega arith, c.loop-i.invariant.1, one_more (structs_of c.args.table.now) (qualified_of c.args.q) c.index-suffixes-i.result (drop i ss) c.index-given-i.result (drop i gs) (qualified_of c.loop-i.behind) c.in_ok-behind.behind (drop (i - 1) ss) (drop (i - 1) gs) c.in_ok-behind.ensures c.loop-i.invariant.2 s x)

pub returns-in_err-behind : goal.returns-in_err-behind
returns-in_err-behind c =
    let p = err_from_is_err_and c.from_residual.result c.from_residual.ensures.1 in
    let i = c.loop-i.i in
    let ss = c.args.suffixes.now in
    let gs = c.args.given.now in
    let s = before ss i c.index-suffixes-i.result (omega arith) (omega arith) c.index-suffixes-i.is in
    let x = before gs i c.index-given-i.result (omega arith) (omega arith) c.index-given-i.is in
    rw (p.1, p.2) (step_fault (structs_of c.args.table.now) (qualified_of c.args.q) c.index-suffixes-i.result (drop i ss) c.index-given-i.result (drop i gs) (qualified_of c.loop-i.behind) _ ss gs (i - 1) c.in_err-behind.ensures c.loop-i.invariant.2 s x)

pub returns : goal.returns
returns c = all_done (structs_of c.args.table.now) (qualified_of c.args.q) c.args.suffixes.now c.args.given.now c.loop-i.behind c.loop-i.i (omega arith) c.loop-i.invariant.2
