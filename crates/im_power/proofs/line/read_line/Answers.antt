use Rattle.std.proofs.Common.{◌≡◌, ℕ, List, map, true, false, refl, sym, ap, ◌∙◌}
use Rattle.im_power.specs.declared.line.Line.TheVariants.{Skipped}
use Rattle.im_power.specs.Text.{fields, is_comment, by_fields, line_of}
use Rattle.im_power.proofs.line.read_line.Goals as goal

comment_is : (line : List ℕ) (parts : List (List ℕ)) → parts ≡ fields line → is_comment parts ≡ true → Skipped ≡ line_of line
unfolding line_of
comment_is line parts e same = rw (← e, same) refl

other_is : (line : List ℕ) (parts : List (List ℕ)) → parts ≡ fields line → is_comment parts ≡ false → by_fields parts ≡ line_of line
unfolding line_of
other_is line parts e same = rw (← e, same) refl

pub returns-then-is_comment : goal.returns-then-is_comment
returns-then-is_comment c =
    comment_is c.args.line.now (map (λ part. part.now) c.deref.result.now) (ap (map (λ part. part.now)) c.deref.ensures.value ∙ c.in_ok-parts.ensures) (sym c.is_comment.ensures ∙ c.if-is_comment.true)

pub returns : goal.returns
returns c =
    let e = ap (map (λ part. part.now)) c.deref.ensures.value ∙ c.in_ok-parts.ensures in
    let f : map (λ part. part.now) c.deref-2.result.now ≡ fields c.args.line.now = ap (map (λ part. part.now)) c.deref-2.ensures.value ∙ c.in_ok-parts.ensures in
    c.read_fields.ensures ∙ ap by_fields (f ∙ sym e) ∙ other_is c.args.line.now (map (λ part. part.now) c.deref.result.now) e (sym c.is_comment.ensures ∙ c.if-is_comment.false)
