use Rattle.std.proofs.Common.{[], arith, map}
use Rattle.std.proofs.lemmas.Result.{err_from_is_err_and}
use Rattle.im_word.specs.Shown.{shown}
use Rattle.im_ctree.specs.Shape.{initializer_of}
use Rattle.im_parse_core.proofs.Steps.{last, last_refused}
use Rattle.im_parse_expression.proofs.Exits.{stopped}
use Rattle.im_parse_expression.proofs.InitializerLines.{value_start, braced_start, refuses_braced, reads_braced, list_start, list_comma, list_more, list_next, refuses_item, reads_trailing, misses_brace, reads_initializers, initializers_item}
use Rattle.im_parse_expression.proofs.initializers.+initializer.Goals as goal

pub initializer-returns-in_err-value-in-None : goal.initializer-returns-in_err-value-in-None
initializer-returns-in_err-value-in-None t c = let p = err_from_is_err_and c.from_residual.result c.from_residual.ensures.1 in rw (p.1, p.2) (stopped (map shown c.args.words.now) (λ n h. last_refused h (value_start (map shown c.args.words.now) (c.args.names.now) c.in-None.ensures)) _ c.in_err-value-in-None.ensures)

pub initializer-returns-in_ok-value-in-None : goal.initializer-returns-in_ok-value-in-None
initializer-returns-in_ok-value-in-None t c = last c.in_ok-value-in-None.ensures (value_start (map shown c.args.words.now) (c.args.names.now) c.in-None.ensures)

pub initializer-returns-in_err-items-in-Some : goal.initializer-returns-in_err-items-in-Some
initializer-returns-in_err-items-in-Some t c = let p = err_from_is_err_and c.from_residual-in_err-items-in-Some.result c.from_residual-in_err-items-in-Some.ensures.1 in rw (p.1, p.2) (stopped (map shown c.args.words.now) (λ n h. refuses_braced (map shown c.args.words.now) (braced_start (map shown c.args.words.now) (c.args.names.now) c.in-Some.ensures) h) _ c.in_err-items-in-Some.ensures)

pub initializer-returns-in_ok-items-in-Some : goal.initializer-returns-in_ok-items-in-Some
initializer-returns-in_ok-items-in-Some t c = rw c.braced.ensures (reads_braced (map shown c.args.words.now) (braced_start (map shown c.args.words.now) (c.args.names.now) c.in-Some.ensures) c.in_ok-items-in-Some.ensures)

pub closed_initializers-returns-in_err-first : goal.closed_initializers-returns-in_err-first
closed_initializers-returns-in_err-first t c = let p = err_from_is_err_and c.from_residual.result c.from_residual.ensures.1 in rw (p.1, p.2) (stopped (map shown c.args.words.now) (λ n h. refuses_item (map shown c.args.words.now) [] (list_start (map shown c.args.words.now) (c.args.names.now) c.args.at) h) _ c.in_err-first.ensures)

pub closed_initializers-loop-behind-init : goal.closed_initializers-loop-behind-init
closed_initializers-loop-behind-init t c = (rw (c.in_ok-push.ensures.items, initializers_item, c.new-items.ensures.items) (list_next (map shown c.args.words.now) [] (list_start (map shown c.args.words.now) (c.args.names.now) c.args.at) c.in_ok-first.ensures), omega (arith, c.in_ok-first.ensures.place))

pub closed_initializers-returns-in-Some-after_mark : goal.closed_initializers-returns-in-Some-after_mark
closed_initializers-returns-in-Some-after_mark t c = reads_trailing (map shown c.args.words.now) (map initializer_of c.loop-behind.items.items) c.in-Some-after_mark.ensures (list_comma (map shown c.args.words.now) (map initializer_of c.loop-behind.items.items) c.in-Some.ensures c.loop-behind.invariant.0)

pub closed_initializers-returns-in_err-item : goal.closed_initializers-returns-in_err-item
closed_initializers-returns-in_err-item t c = let p = err_from_is_err_and c.from_residual-in_err-item.result c.from_residual-in_err-item.ensures.1 in rw (p.1, p.2) (stopped (map shown c.args.words.now) (λ n h. refuses_item (map shown c.args.words.now) (map initializer_of c.loop-behind.items.items) (list_more (map shown c.args.words.now) (map initializer_of c.loop-behind.items.items) c.in_default-after_mark.ensures (list_comma (map shown c.args.words.now) (map initializer_of c.loop-behind.items.items) c.in-Some.ensures c.loop-behind.invariant.0)) h) _ c.in_err-item.ensures)

pub closed_initializers-loop-behind-preserved : goal.closed_initializers-loop-behind-preserved
closed_initializers-loop-behind-preserved t c = (rw (c.in_ok-push-2.ensures.items, initializers_item) (list_next (map shown c.args.words.now) (map initializer_of c.loop-behind.items.items) (list_more (map shown c.args.words.now) (map initializer_of c.loop-behind.items.items) c.in_default-after_mark.ensures (list_comma (map shown c.args.words.now) (map initializer_of c.loop-behind.items.items) c.in-Some.ensures c.loop-behind.invariant.0)) c.in_ok-item.ensures), omega (arith, c.in-Some.ensures, c.in_ok-item.ensures.place))

pub closed_initializers-returns-in_err-end : goal.closed_initializers-returns-in_err-end
closed_initializers-returns-in_err-end t c = let p = err_from_is_err_and c.from_residual-in_err-end.result c.from_residual-in_err-end.ensures.1 in rw (p.1, p.2, c.in_err-end.ensures.0) (misses_brace (map shown c.args.words.now) (map initializer_of c.loop-behind.items.items) c.in_default.ensures c.loop-behind.invariant.0 c.in_err-end.ensures.1)

pub closed_initializers-returns : goal.closed_initializers-returns
closed_initializers-returns t c = reads_initializers (map shown c.args.words.now) (map initializer_of c.loop-behind.items.items) c.in_default.ensures c.loop-behind.invariant.0 c.in_ok-end.ensures
