use Rattle.std.proofs.Common.{map, arith, []}
use Rattle.std.proofs.lemmas.Result.{err_from_is_err_and}
use Rattle.std.proofs.lemmas.List.{length-map}
use Rattle.im_word.specs.Shown.{shown}
use Rattle.im_ctree.specs.Shape.{external_of}
use Rattle.im_ctree.specs.Units.{predeclared_names}
use Rattle.im_parse_expression.proofs.Exits.{shorter}
use Rattle.im_parse.proofs.UnitLines.{unit_start, externals_more, refuses_external, externals_next, reads_unit, externals_item, externals_before, external_advances, ended, unended, spells, stops_unit}
use Rattle.im_parse.proofs.units.unit.Goals as goal

pub returns-in_err-names : goal.returns-in_err-names
returns-in_err-names c = let p = err_from_is_err_and c.from_residual.result c.from_residual.ensures.1 in rw (p.1, p.2, c.in_err-names.ensures) (tt)

pub returns-in_err-first : goal.returns-in_err-first
returns-in_err-first c = let p = err_from_is_err_and c.from_residual-in_err-first.result c.from_residual-in_err-first.ensures.1 in rw (p.1, p.2) (stops_unit (map shown c.args.words.now) (λ n h. refuses_external (map shown c.args.words.now) [] (unit_start (map shown c.args.words.now) predeclared_names) h) _ (rw c.in_ok-names.ensures at c.in_err-first.ensures.parses))

pub loop-next-init : goal.loop-next-init
loop-next-init c = rw (c.in_ok-push.ensures.items, externals_item, c.new-externals.ensures.items) (externals_next (map shown c.args.words.now) [] (rw c.in_ok-names.ensures at c.in_ok-first.ensures.known) (unit_start (map shown c.args.words.now) predeclared_names) (rw c.in_ok-names.ensures at c.in_ok-first.ensures.parses))

pub returns-in_err-item : goal.returns-in_err-item
returns-in_err-item c = let p = err_from_is_err_and c.from_residual-in_err-item.result c.from_residual-in_err-item.ensures.1 in rw (p.1, p.2) (stops_unit (map shown c.args.words.now) (λ n h. refuses_external (map shown c.args.words.now) (map external_of c.loop-next.externals.items) (externals_more (map shown c.args.words.now) (map external_of c.loop-next.externals.items) (unended (map shown c.args.words.now) c.loop-next.next (omega (arith, length-map c.args.words.now shown))) c.loop-next.invariant) h) _ c.in_err-item.ensures.parses)

pub loop-next-smaller : goal.loop-next-smaller
loop-next-smaller c = shorter (map shown c.args.words.now) c.in_ok-item.ensures.parses (external_advances c.in_ok-item.ensures.parses)

pub loop-next-preserved : goal.loop-next-preserved
loop-next-preserved c = rw (c.in_ok-push-2.ensures.items, externals_item) (externals_next (map shown c.args.words.now) (map external_of c.loop-next.externals.items) c.in_ok-item.ensures.known (externals_more (map shown c.args.words.now) (map external_of c.loop-next.externals.items) (unended (map shown c.args.words.now) c.loop-next.next (omega (arith, length-map c.args.words.now shown))) c.loop-next.invariant) c.in_ok-item.ensures.parses)

pub returns : goal.returns
returns c = rw externals_before (spells (map shown c.args.words.now) (omega (arith, length-map c.args.words.now shown)) (reads_unit (map shown c.args.words.now) (map external_of c.loop-next.externals.items) (ended (map shown c.args.words.now) c.loop-next.next (omega (arith, length-map c.args.words.now shown))) c.loop-next.invariant))
