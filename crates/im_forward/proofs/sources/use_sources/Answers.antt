use Rattle.std.proofs.Common.{◌≡◌, ◌+◌, ◌<◌, List, [], suc, length, get_or, sym, ap, ◌∙◌, subst, arith}
use Rattle.std.specs.Prelude.{slice_set, pos}
use Rattle.std.proofs.lemmas.List.{with_items_is}
use Rattle.im_block.specs.declared.code.Line.TheVariants.{Put}
use Rattle.im_forward.specs.declared.copies.Known.{Known}
use Rattle.im_forward.specs.Forward.{line_using, exit_using, ForwardsLine, ForwardsExit}
use Rattle.im_forward.specs.Known.{instead_of, AreKnown}
use Rattle.im_forward.proofs.Knowing.{may_use}
use Rattle.im_forward.proofs.Using.{behind_of, UsesTo, behind_more, uses_more, uses_block}
use Rattle.im_forward.proofs.sources.use_sources.Goals as goal

pub loop-line-preserved : goal.loop-line-preserved
loop-line-preserved c =
    let l = c.loop-line in
    let t = c.loop-line-test.true in
    let old = c.args.block.now.lines.items in
    let free = c.args.free in
    let none = Put 0 (pos 0) in
    let line = get_or l.line-items l.line-index none in
    let behind = behind_of l.line-index [] old in
    let within : l.line-index < length l.line-items = omega arith in
    let next : suc l.line-index ≡ l.line-index + 1 = omega arith in
    let is : c.line_with.result ≡ line_using (instead_of l.copies.items) line = c.line_with.ensures ∙ ap (λ (z : List Known). line_using (instead_of z) line) c.deref.ensures.value in
    let one : ForwardsLine free behind line c.line_with.result = record { instead = instead_of l.copies.items; may = may_use free behind l.copies.items l.invariant.known; line = is } in
    record {
      lines = subst (λ j. UsesTo free j [] old (slice_set l.line-items l.line-index c.line_with.result)) next (uses_more free l.line-index [] old l.line-items none c.line_with.result within l.invariant.lines one);
      known = subst (λ j. AreKnown free (behind_of j [] old) c.pass.new.copies.items) next
          (subst (λ z. AreKnown free z c.pass.new.copies.items) (sym (behind_more free l.line-index [] old l.line-items none within l.invariant.lines)) (c.in_ok-pass.ensures behind l.invariant.known));
    }

pub returns : goal.returns
returns c =
    let l = c.loop-line in
    let block = c.args.block.now in
    let free = c.args.free in
    let behind = behind_of l.line-index [] block.lines.items in
    let whole : length l.line-items ≡ block.lines.len = omega arith in
    let items = with_items_is block.lines l.line-items whole in
    let exit : ForwardsExit free behind block.exit c.exit_with-block.result = record {
      instead = instead_of l.copies.items;
      may = may_use free behind l.copies.items l.invariant.known;
      exit = c.exit_with-block.ensures ∙ ap (λ (z : List Known). exit_using (instead_of z) block.exit) c.deref-2.ensures.value;
    } in
    uses_block free block _ l.line-index l.line-items items (omega arith) l.invariant.lines exit
