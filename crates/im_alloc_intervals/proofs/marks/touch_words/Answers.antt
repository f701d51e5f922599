use Rattle.std.proofs.Common.{◌+◌, get_or, refl, subst, sym, arith}
use Rattle.im_alloc_intervals.specs.Marks.{Adds, IsBitAt}
use Rattle.im_alloc_intervals.proofs.Adding.{Table}
use Rattle.im_alloc_intervals.proofs.Words.{words_step, no_word, words_all}
use Rattle.im_alloc_intervals.proofs.marks.touch_words.Goals as goal
use Rattle.im_alloc_intervals.proofs.marks.touch_words.Goals.{then-word-ne0, else-word-ne0}

pub loop-i-preserved : goal.loop-i-preserved
loop-i-preserved c =
    let l = c.loop-i in
    let a = c.args in
    let word = get_or a.words.now l.i 0 in
    let step = λ (n : Table) (one : Adds (IsBitAt a.base word (a.start + l.i)) l.table n). words_step a.base a.start a.words.now l.i word a.table.now l.table n c.loop-i-test.true refl l.invariant one in
    elim c.if-word-ne0.branch [
      | then-word-ne0 w ↦ step c.if-word-ne0.table (subst (λ (z : Table). Adds (IsBitAt a.base word (a.start + l.i)) l.table z) (sym w.table-is) w.touch_word.ensures)
      | else-word-ne0 w ↦ step c.if-word-ne0.table (no_word a.base word (a.start + l.i) l.table c.if-word-ne0.table w.if-word-ne0.false w.table-is)
    ]

pub returns : goal.returns
returns c = words_all c.args.base c.args.start c.args.words.now c.loop-i.i c.args.table.now c.loop-i.table (let t = c.loop-i-test.false in omega arith) c.loop-i.invariant
