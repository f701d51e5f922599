use Rattle.std.proofs.Common.{◌≡◌, false, ◌∙◌, sym, ap, subst}
use Rattle.im_mem.specs.Memory.{Mem, view, is_place}
use Rattle.im_mem_paged.specs.Pages.{IsMemory}
use Rattle.im_mem_paged.proofs.Unmarked.{stored-unmarked}
use Rattle.im_mem_paged.proofs.Memories.{stored-memory, stored-nowhere}
use Rattle.im_mem_paged.proofs.paged.PagedMemMemory.store.Goals as goal

pub invariant_of-self : goal.invariant_of-self
invariant_of-self c = record {
  count = c.mark_page.ensures.length ∙ c.self.invariant.count;
  zero = λ k inside unmarked. ap (λ (m : Mem). m k) c.put-took.ensures.bytes ∙ stored-unmarked (view c.self.inside.flat) c.self.inside.marks.items c.mark_page.new.marks.items c.args.addr c.args.size c.args.word c.self.invariant.zero c.mark_page.ensures.keeps c.mark_page.ensures.page k inside unmarked;
  memory = subst IsMemory (sym c.put-took.ensures.bytes) (stored-memory (view c.self.inside.flat) c.args.addr c.args.size c.args.word c.self.invariant.memory);
}

pub invariant_of-self-else-took : goal.invariant_of-self-else-took
invariant_of-self-else-took c =
    let refused : is_place c.args.addr c.args.size ≡ false = sym c.put-took.ensures.took ∙ c.if-took.false in
    let same = c.put-took.ensures.bytes ∙ stored-nowhere (view c.self.inside.flat) c.args.addr c.args.size c.args.word refused in
    record {
      count = c.self.invariant.count;
      zero = λ k inside unmarked. ap (λ (m : Mem). m k) same ∙ c.self.invariant.zero k inside unmarked;
      memory = subst IsMemory (sym same) c.self.invariant.memory;
    }
