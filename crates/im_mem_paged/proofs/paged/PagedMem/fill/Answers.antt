use Rattle.std.proofs.Common.{◌∙◌, sym, ap, subst, arith}
use Rattle.im_mem.specs.Memory.{Mem, view}
use Rattle.im_mem_paged.specs.Pages.{IsMemory}
use Rattle.im_mem_paged.proofs.Unmarked.{written-unmarked}
use Rattle.im_mem_paged.proofs.Memories.{written-memory}
use Rattle.im_mem_paged.proofs.paged.PagedMem.fill.Goals as goal

pub invariant_of-self : goal.invariant_of-self
invariant_of-self c = record {
  count = c.mark_bytes.ensures.length ∙ c.self.invariant.count;
  zero = λ k inside unmarked. ap (λ (m : Mem). m k) c.fill.ensures ∙ written-unmarked (view c.self.inside.flat) c.self.inside.marks.items c.mark_bytes.new.marks.items c.args.at c.args.bytes.now c.self.invariant.zero c.mark_bytes.ensures.keeps c.mark_bytes.ensures.all k inside unmarked;
  memory = subst IsMemory (sym c.fill.ensures) (written-memory (view c.self.inside.flat) c.args.at c.args.bytes.now c.self.invariant.memory c.requires (λ i. omega (arith, c.type_inv.bytes i)));
}
