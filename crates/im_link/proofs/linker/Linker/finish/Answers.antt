use Rattle.std.proofs.Common.{List, length, refl, sym, subst}
use Rattle.std.specs.Prelude.{nat_eq}
use Rattle.std.specs.HashMap as hash
use Rattle.im_link.specs.declared.aim.Aim.{Aim}
use Rattle.im_link.specs.Parts.{lines_of}
use Rattle.im_link.specs.Links.{AreWordsOf}
use Rattle.im_link.specs.State.{AreLinesKept, AreAimsNear}
use Rattle.im_link.proofs.Whole.{few_is, near_of, linked_of}
use Rattle.im_link.proofs.linker.Linker.finish.Goals as goal

pub aim_words-requires : goal.aim_words-requires
aim_words-requires c =
    let near = near_of c.args.self c.requires.parts c.requires.holds c.requires.linkable c.if-self-gt-MOST_WORDS.false in
    subst (λ (z : List Aim). AreAimsNear (hash.get nat_eq c.args.self.places) (length c.args.self.words.items) z) (sym c.deref.ensures.value) near

pub returns-clause-code : goal.returns-clause-code
returns-clause-code c parts held linkable =
    let small = c.if-self-gt-MOST_WORDS.false in
    let kept = held.kept (few_is c.args.self parts held small) in
    let lines = subst (λ (z : List Aim). AreLinesKept (lines_of parts) c.args.self.words.items z (hash.get nat_eq c.args.self.places)) (sym c.deref.ensures.value) kept.lines in
    let words = subst (AreWordsOf (lines_of parts)) (sym c.shrink_to_fit.ensures.items) (c.aim_words.ensures (lines_of parts) lines) in
    linked_of c.args.self parts held _ linkable small words refl c.shrink_to_fit-2.ensures.items
