use Rattle.std.proofs.Common.{◌≡◌, ◌+◌, ◌∙◌, ℕ, List, [], ◌∷◌, ◌++◌, Option, None, true, false, sym, ap, subst, take, get_or}
use Rattle.std.proofs.lemmas.List.{take_more, take_all}
use Rattle.im_block.specs.declared.access.Access.{Access}
use Rattle.im_dep.specs.declared.spans.Span.{Span}
use Rattle.im_dep.specs.Sites.{site_of_access}
use Rattle.im_dep.specs.Spans.{span_of, is_covered}
use Rattle.im_dep.proofs.Behind.{Written, written_write, written_read, written_span, Found, found_write, found_read, found_covered, are_exposed}
use Rattle.im_dep.proofs.scans.exposed.Goals as goal
use Rattle.im_dep.proofs.scans.exposed.Goals.{then-access+in_ok-write_span, else-access+then-not-is_written+in_ok-push, else-access+else-not-is_written}

abbrev blank : Access
blank = record { number = 0; write = false; size = 0; slot = None }

pub loop-access-preserved : goal.loop-access-preserved
loop-access-preserved c =
    let xs = c.args.accesses.now in
    let i = c.loop-access.access-index in
    let a = get_or xs i blank in
    let tags = c.args.tags.now in
    let h = c.loop-access.invariant in
    let before = take i xs in
    let one : take (i + 1) xs ≡ before ++ a ∷ [] = take_more xs i blank c.loop-access-test.true in
    let was = c.loop-access.written.items in
    let had = c.loop-access.found.items in
    elim c.if-access.branch [
      | then-access+in_ok-write_span k ↦
          let found : c.if-access.found.items ≡ had = ap (λ v. v.items) k.found-is in
          let written : c.if-access.written.items ≡ k.write_span.new.written.items = ap (λ v. v.items) k.written-is in
          record {
            written = subst (λ (t : List Access). Written tags t c.if-access.written.items) (sym one) (subst (λ (t : List Span). Written tags (before ++ a ∷ []) t) (sym written) (written_write tags before was k.write_span.new.written.items a k.if-access.true h.written (written_span tags was k.write_span.new.written.items (site_of_access a) c.direct_span-place.result c.direct_span-place.ensures k.in_ok-write_span.ensures)));
            found = subst (λ (t : List Access). Found tags t c.if-access.found.items) (sym one) (subst (λ (t : List ℕ). Found tags (before ++ a ∷ []) t) (sym found) (found_write tags before had a k.if-access.true h.found));
          }
      | else-access+then-not-is_written+in_ok-push k ↦
          let found : c.if-access.found.items ≡ had ++ a.number ∷ [] = ap (λ v. v.items) k.found-is ∙ k.in_ok-push.ensures.items in
          let written : c.if-access.written.items ≡ was = ap (λ v. v.items) k.written-is in
          let place = c.direct_span-place.ensures in
          let free : is_covered was (span_of tags (site_of_access a)) ≡ false = sym (ap (λ (p : Option Span). is_covered was p) place) ∙ ap (λ (l : List Span). is_covered l c.direct_span-place.result) (sym k.deref.ensures.value) ∙ sym k.is_written.ensures ∙ k.if-not-is_written.true in
          record {
            written = subst (λ (t : List Access). Written tags t c.if-access.written.items) (sym one) (subst (λ (t : List Span). Written tags (before ++ a ∷ []) t) (sym written) (written_read tags before was a k.if-access.false h.written));
            found = subst (λ (t : List Access). Found tags t c.if-access.found.items) (sym one) (subst (λ (t : List ℕ). Found tags (before ++ a ∷ []) t) (sym found) (found_read tags before had was a k.if-access.false h.written free h.found));
          }
      | else-access+else-not-is_written k ↦
          let found : c.if-access.found.items ≡ had = ap (λ v. v.items) k.found-is in
          let written : c.if-access.written.items ≡ was = ap (λ v. v.items) k.written-is in
          let place = c.direct_span-place.ensures in
          let held : is_covered was (span_of tags (site_of_access a)) ≡ true = sym (ap (λ (p : Option Span). is_covered was p) place) ∙ ap (λ (l : List Span). is_covered l c.direct_span-place.result) (sym k.deref.ensures.value) ∙ sym k.is_written.ensures ∙ k.if-not-is_written.false in
          record {
            written = subst (λ (t : List Access). Written tags t c.if-access.written.items) (sym one) (subst (λ (t : List Span). Written tags (before ++ a ∷ []) t) (sym written) (written_read tags before was a k.if-access.false h.written));
            found = subst (λ (t : List Access). Found tags t c.if-access.found.items) (sym one) (subst (λ (t : List ℕ). Found tags (before ++ a ∷ []) t) (sym found) (found_covered tags before had was a k.if-access.false h.written held h.found));
          }
    ]

pub returns : goal.returns
returns c = are_exposed c.args.tags.now c.args.accesses.now c.loop-access.found.items (subst (λ (t : List Access). Found c.args.tags.now t c.loop-access.found.items) (take_all c.loop-access.access-index c.args.accesses.now c.loop-access-test.false) c.loop-access.invariant.found)
