use Rattle.std.proofs.Common.{[], arith, map}
use Rattle.std.proofs.lemmas.Result.{err_from_is_err_and}
use Rattle.im_word.specs.Shown.{shown}
use Rattle.im_ctree.specs.Shape.{initializer_of}
use Rattle.im_parse_core.proofs.Steps.{last, last_refused}
use Rattle.im_parse_expression.proofs.Exits.{stopped}
use Rattle.im_parse_expression.specs.Initializing.{init_declarator_tree}
use Rattle.im_parse_expression.proofs.DeclarationLines.{inits_start, inits_more, refuses_init, inits_next, inits_item, misses_semicolon, reads_inits}
use Rattle.im_parse_expression.proofs.declarations.closed_init_declarators.Goals as goal

pub returns-in_err-first : goal.returns-in_err-first
returns-in_err-first c = let p = err_from_is_err_and c.from_residual.result c.from_residual.ensures.1 in rw (p.1, p.2) (stopped (map shown c.args.words.now) (λ n h. refuses_init (map shown c.args.words.now) [] (inits_start (map shown c.args.words.now) (c.args.names.now) c.args.at) h) _ c.in_err-first.ensures)

pub loop-behind-init : goal.loop-behind-init
loop-behind-init c = (rw (c.in_ok-push.ensures.items, inits_item, c.new-items.ensures.items) (inits_next (map shown c.args.words.now) [] (inits_start (map shown c.args.words.now) (c.args.names.now) c.args.at) c.in_ok-first.ensures), omega (arith, c.in_ok-first.ensures.place))

pub returns-in_err-item : goal.returns-in_err-item
returns-in_err-item c = let p = err_from_is_err_and c.from_residual-in_err-item.result c.from_residual-in_err-item.ensures.1 in rw (p.1, p.2) (stopped (map shown c.args.words.now) (λ n h. refuses_init (map shown c.args.words.now) (map init_declarator_tree c.loop-behind.items.items) (inits_more (map shown c.args.words.now) (map init_declarator_tree c.loop-behind.items.items) c.in-Some.ensures c.loop-behind.invariant.0) h) _ c.in_err-item.ensures)

pub loop-behind-preserved : goal.loop-behind-preserved
loop-behind-preserved c = (rw (c.in_ok-push-2.ensures.items, inits_item) (inits_next (map shown c.args.words.now) (map init_declarator_tree c.loop-behind.items.items) (inits_more (map shown c.args.words.now) (map init_declarator_tree c.loop-behind.items.items) c.in-Some.ensures c.loop-behind.invariant.0) c.in_ok-item.ensures), omega (arith, c.in-Some.ensures, c.in_ok-item.ensures.place))

pub loop-behind-smaller : goal.loop-behind-smaller
loop-behind-smaller c = omega (arith, c.in-Some.ensures, c.in_ok-item.ensures.place)

pub returns-in_err-end : goal.returns-in_err-end
returns-in_err-end c = let p = err_from_is_err_and c.from_residual-in_err-end.result c.from_residual-in_err-end.ensures.1 in rw (p.1, p.2, c.in_err-end.ensures.0) (misses_semicolon (map shown c.args.words.now) (map init_declarator_tree c.loop-behind.items.items) c.in_default.ensures c.loop-behind.invariant.0 c.in_err-end.ensures.1)

pub returns : goal.returns
returns c = rw c.shrink_to_fit.ensures.items (reads_inits (map shown c.args.words.now) (map init_declarator_tree c.loop-behind.items.items) c.in_default.ensures c.loop-behind.invariant.0 c.in_ok-end.ensures)
