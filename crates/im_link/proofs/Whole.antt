-- The parts in a linker as a whole, and their code.
use Rattle.std.proofs.Common.{◌≡◌, ◌<◌, ◌≤◌, ℕ, ◌+◌, ◌-◌, ◌*◌, ◌^◌, List, [], ◌∷◌, ◌++◌, length, take, get_or, Result, Ok, Err, refl, sym, ap, subst, ◌∙◌, arith}
use Rattle.std.specs.Prelude.{min, nat_eq, MatchResult, IfOk, IfErr}
use Rattle.std.specs.HashMap as hash
use Rattle.std.proofs.lemmas.List.{length_push, take_more, take_all}
use Rattle.im_rv.specs.declared.code.Line.{Line}
use Rattle.im_rv.specs.declared.code.Part.{Part}
use Rattle.im_rv.specs.declared.code.Code.{Code}
use Rattle.im_rv.specs.Code.{address}
use Rattle.im_link.specs.declared.linker.Linker.{Linker}
use Rattle.im_link.specs.declared.fault.LinkFault.{LinkFault}
use Rattle.im_link.specs.declared.fault.LinkFault.TheVariants.{Limit}
use Rattle.im_link.specs.Parts.{word_count, byte_count, lines_of, first_of, last_of}
use Rattle.im_link.specs.Links.{AreWordsOf}
use Rattle.im_link.specs.State.{AreLinesKept, AreAimsNear, AreFirstCuts}
use Rattle.im_link.specs.Linking.{AreKept, Holds}
use Rattle.im_link.specs.Code.{AreDependencesNamed, IsLinkable, IsLinked, IsFaultOf, byte_limit, told_count}
use Rattle.im_link.proofs.Joining.{lines_count, lines_snoc, count_snoc, first_inside, first_behind, part_kept}
use Rattle.im_link.proofs.Keeping.{near_aims}
use Rattle.im_link.proofs.Cutting.{all_cuts}

named_before : (parts : List Part) (part : Part) → AreDependencesNamed (parts ++ part ∷ []) → AreDependencesNamed parts
named_before parts part d p k other line cause is g h = d p k other line cause (part_kept parts part other p is) g h

last_is : (parts : List Part) (part : Part) → last_of (parts ++ part ∷ []) ≡ length parts
last_is parts part = (let p = length_push parts part in omega arith)

pub kept_more : (old new : Linker) (parts : List Part) (part : Part) (first : ℕ) → first ≡ length old.words.items → new.entry ≡ address first →
    ((before : List Line) → AreLinesKept before old.words.items old.aims.items (hash.get nat_eq old.places) → AreLinesKept (before ++ part.lines.items) new.words.items new.aims.items (hash.get nat_eq new.places)) →
    ((ps : List Part) → first ≡ word_count ps → AreDependencesNamed (ps ++ part ∷ []) → AreFirstCuts ps first old.cuts.items → AreFirstCuts (ps ++ part ∷ []) (first + length part.lines.items) new.cuts.items) →
    AreKept old parts → AreKept new (parts ++ part ∷ [])
kept_more old new parts part first at entry lines cuts k =
    let before : first ≡ word_count parts = at ∙ k.lines.count ∙ lines_count parts in
    let behind : first + length part.lines.items ≡ word_count (parts ++ part ∷ []) = (let s = count_snoc parts part in omega arith) in
    record {
      lines = subst (λ (z : List Line). AreLinesKept z new.words.items new.aims.items (hash.get nat_eq new.places)) (sym (lines_snoc parts part)) (lines (lines_of parts) k.lines);
      cuts = λ named. subst (λ (z : ℕ). AreFirstCuts (parts ++ part ∷ []) z new.cuts.items) behind
          (cuts parts before named (subst (λ (z : ℕ). AreFirstCuts parts z old.cuts.items) (sym before) (k.cuts (named_before parts part named))));
      entry = λ some. entry ∙ ap address (before ∙ sym (first_behind parts part) ∙ sym (ap (first_of (parts ++ part ∷ [])) (last_is parts part)));
    }

count_more : (parts : List Part) (part : Part) (old new : ℕ) → old ≡ min (word_count parts) (2 ^ 64 - 1) → new ≡ min (old + length part.lines.items) (2 ^ 64 - 1) → new ≡ min (word_count (parts ++ part ∷ [])) (2 ^ 64 - 1)
count_more parts part old new e f = (let s = count_snoc parts part in omega arith)

-- a part more, for which a code has no room
pub skipped_more : (old new : Linker) (parts : List Part) (part : Part) → new.count ≡ min (old.count + length part.lines.items) (2 ^ 64 - 1) → 261120 < length old.words.items + length part.lines.items → Holds old parts → Holds new (parts ++ part ∷ [])
skipped_more old new parts part count large h =
    let counted = count_more parts part old.count new.count h.count count in
    record {
      count = counted;
      kept = λ few. absurd (
          let s = count_snoc parts part in
          let k = h.kept (omega arith) in
          let c = k.lines.count ∙ lines_count parts in
          omega arith);
    }

pub held_more : (old new : Linker) (parts : List Part) (part : Part) → new.count ≡ min (old.count + length part.lines.items) (2 ^ 64 - 1) → (AreKept old parts → AreKept new (parts ++ part ∷ [])) → Holds old parts → Holds new (parts ++ part ∷ [])
held_more old new parts part count kept h =
    let counted = count_more parts part old.count new.count h.count count in
    record { count = counted; kept = λ few. kept (h.kept (let s = count_snoc parts part in omega arith)) }

module _ (linker : Linker) (parts : List Part) (h : Holds linker parts) where
  pub large_fault : (bytes : ℕ) → 261120 < linker.count → bytes ≡ min (4 * linker.count) (2 ^ 64 - 1) → IsFaultOf parts (Limit bytes)
  large_fault bytes large e = ((let c = h.count in omega arith), (let c = h.count in omega arith))

  pub told_is : (bytes : ℕ) → 261120 < linker.count → bytes ≡ min (4 * linker.count) (2 ^ 64 - 1) → bytes ≡ told_count parts
  told_is bytes large e = (let c = h.count in omega arith)

  pub few_is : linker.count ≤ 261120 → word_count parts ≤ 261120
  few_is few = (let c = h.count in omega arith)

  pub near_of : IsLinkable parts → linker.count ≤ 261120 → AreAimsNear (hash.get nat_eq linker.places) (length linker.words.items) linker.aims.items
  near_of l small =
      let few = few_is small in
      let k = h.kept few in
      near_aims (lines_of parts) linker.words.items linker.aims.items (hash.get nat_eq linker.places) k.lines l.labels l.targets (let c = lines_count parts in omega arith)

  pub not_large : linker.count ≤ 261120 → byte_limit < byte_count parts → ⊥
  not_large few large = (let c = h.count in omega arith)

  pub linked_of : (code : Code) → IsLinkable parts → linker.count ≤ 261120 → AreWordsOf (lines_of parts) code.words.items → code.entry ≡ linker.entry → code.cuts.items ≡ linker.cuts.items → IsLinked parts code
  linked_of code l small w entry cuts =
      let few = few_is small in
      let k = h.kept few in
      let count = w.count ∙ lines_count parts in
      record {
        words = w;
        size = count;
        fits = omega arith;
        entry = entry ∙ k.entry l.last.some;
        inside = (let i = first_inside parts (last_of parts) l.last.last l.last.is_last in let some = l.last.line in omega arith);
        cuts = all_cuts parts (word_count parts) code.cuts.items refl (subst (AreFirstCuts parts (word_count parts)) (sym cuts) (k.cuts l.dependences));
      }

-- ---- parts from one place on

pub parts_on : (linker : Linker) (parts : List Part) (i : ℕ) (part : Part) → i < length parts → part ≡ get_or parts i part → Holds linker (take i parts ++ part ∷ []) → Holds linker (take (i + 1) parts)
parts_on linker parts i part below is h = subst (Holds linker) (sym (take_more parts i part below ∙ ap (λ (z : Part). take i parts ++ z ∷ []) (sym is))) h

pub parts_end : (linker : Linker) (parts : List Part) (i : ℕ) → length parts ≤ i → Holds linker (take i parts) → Holds linker parts
parts_end linker parts i all h = subst (Holds linker) (take_all i parts all) h

pub if_linked : (P : Code → Type 0) (Q : LinkFault → Type 0) (r : Result Code LinkFault) → MatchResult r P Q → IfOk r P
if_linked P Q (Ok code) h = h
if_linked P Q (Err fault) h = tt

pub if_fault : (P : Code → Type 0) (Q : LinkFault → Type 0) (r : Result Code LinkFault) → MatchResult r P Q → IfErr r Q
if_fault P Q (Ok code) h = tt
if_fault P Q (Err fault) h = h
