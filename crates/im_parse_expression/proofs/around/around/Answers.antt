use Rattle.std.proofs.Common.{sym, ◌∙◌, ap, map, subst}
use Rattle.im_ctree.specs.Tree as t
use Rattle.im_ctree.specs.Shape.{declarator_of}
use Rattle.im_parse_core.specs.Lists.{before}
use Rattle.im_parse_expression.specs.Declaring.{Makes, add_suffix, suffix_tree, suffixes_tree, stars_tree}
use Rattle.im_parse_expression.proofs.AroundFacts.{declarator_made, without_suffixes, without_stars, with_both}
use Rattle.im_parse_expression.proofs.around.around.Goals as goal

pub returns-then-unsuffixed : goal.returns-then-unsuffixed
returns-then-unsuffixed c = subst (λ z. Makes declarator_of c.merged.result z) (without_suffixes c.args.at (stars_tree c.args.stars) (declarator_of c.args.inner) (suffixes_tree c.args.suffixes) (ap (λ z. t.unsuffixed (before add_suffix (map suffix_tree z) t.no_suffixes)) (sym c.deref.ensures.value) ∙ sym c.unsuffixed.ensures ∙ c.if-unsuffixed.true)) c.merged.ensures

pub returns-then-unstarred : goal.returns-then-unstarred
returns-then-unstarred c = subst (λ z. Makes declarator_of c.merged-then-unstarred.result z) (without_stars c.args.at (stars_tree c.args.stars) c.args.inner (suffixes_tree c.args.suffixes) (ap (λ z. t.unstarred (map (λ star. star.consts) z)) (sym c.deref-2.ensures.value) ∙ sym c.unstarred.ensures ∙ c.if-unstarred.true)) c.merged-then-unstarred.ensures

pub returns : goal.returns
returns c = declarator_made c.args.at c.args.stars _ c.args.suffixes ∙ ap (λ z. t.declarator c.args.at (stars_tree c.args.stars) (t.inner_core (declarator_of z)) (suffixes_tree c.args.suffixes)) c.in_ok-new.ensures.ok ∙ with_both c.args.at (stars_tree c.args.stars) c.args.inner (suffixes_tree c.args.suffixes) (ap (λ z. t.unsuffixed (before add_suffix (map suffix_tree z) t.no_suffixes)) (sym c.deref.ensures.value) ∙ sym c.unsuffixed.ensures ∙ c.if-unsuffixed.false) (ap (λ z. t.unstarred (map (λ star. star.consts) z)) (sym c.deref-2.ensures.value) ∙ sym c.unstarred.ensures ∙ c.if-unstarred.false)
