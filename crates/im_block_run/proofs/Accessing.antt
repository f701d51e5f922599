-- Reads and writes at places.
use Rattle.std.proofs.Common.{◌≡◌, ◌∙◌, ℕ, zero, suc, ◌+◌, ap, sym, subst, refl, arith}
use Rattle.std.specs.Prelude.{Ok, Err}
use Rattle.std.specs.Prelude.{Result as Either}
use Rattle.im_num.specs.declared.kind.Kind.{Kind}
use Rattle.im_store.specs.declared.undefined.Undefined.{Undefined}
use Rattle.im_store.specs.Access.{read_cell, write_cell}
use Rattle.im_store.specs.Checks.{Checked, Fine, then_}
use Rattle.im_store.specs.Objects as o
use Rattle.im_store.specs.Objects.{Store}
use Rattle.im_store.specs.Pointers.{member_at}
use Rattle.im_block.specs.Meaning as m
use Rattle.im_eval_store.specs.declared.memory.Memory.{Memory}
use Rattle.im_eval_store.specs.declared.value.Place.{Place}
use Rattle.im_eval_store.specs.declared.value.Value.{Value}
use Rattle.im_eval_store.specs.Changes.{Stores}
use Rattle.im_eval_store.specs.Living.{Holds}
use Rattle.im_eval_store.specs.Shown.{Checks, object_of, shown}
use Rattle.im_block_run.specs.Found.{Finds, Leaves, StoresPlain}
use Rattle.im_block_run.specs.Shown.{plain}
use Rattle.im_block_run.proofs.Plain.{member-plain, read-plain, wrote}

pub further-none : (store : Store) (d : ℕ) (v : o.Value) → d ≡ 0 → m.further store d v ≡ Fine v
further-none store d v e = ap (λ n. m.further store n v) e

pub further-some : (store : Store) (d : ℕ) (v : Value) → (d ≡ 0 → ⊥) → m.further store d (shown v) ≡ member_at (plain store) d (shown v)
further-some store zero v h = absurd (h refl)
further-some store (suc d) v h = sym (member-plain store (suc d) v)

abbrev at_spot : Place → m.Location
at_spot p = record { object = object_of p.object; offset = p.offset }

finds-at : (r : Either Value Undefined) (at : m.Location) (c : Checked o.Value) → Checks r c → Finds r (m.found_in at c)
finds-at (Ok v) at c h = (at, ap (m.found_in at) h)
finds-at (Err why) at c h = ap (m.found_in at) h

leaves-at : {A : Type 0} (r : Either A Undefined) (memory : Memory) (last : ℕ) (at : m.Location) (c : Checked Store) → StoresPlain r memory last c → Leaves r memory last (m.left_in at c)
leaves-at (Ok done) memory last at c h = (record { at = at; store = h.0 }, ap (m.left_in at) h.1, h.2)
leaves-at (Err why) memory last at c h = ap (m.left_in at) h

no-further : (n : ℕ) → n + 0 ≡ n
no-further n = omega arith

pub read-found : (r : Either Value Undefined) (memory : Memory) (last : ℕ) (store : Store) (p : Place) (kind : Kind) (place : Checked m.Location) → Holds memory last (plain store) → place ≡ Fine (at_spot p)
    → Checks r (read_cell (plain store) (object_of p.object) (p.offset + 0) kind) → Finds r (then_ place (λ at. m.found_in at (read_cell store at.object at.offset kind)))
read-found r memory last store p kind place h e c =
    let same : read_cell (plain store) (object_of p.object) (p.offset + 0) kind ≡ read_cell store (object_of p.object) p.offset kind =
    ap (λ n. read_cell (plain store) (object_of p.object) n kind) (no-further p.offset) ∙ read-plain memory last store p.object p.offset kind h in
    let read = subst (λ (x : Checked o.Value). Checks r x) same c in
    subst (λ (x : Checked m.Location). Finds r (then_ x (λ at. m.found_in at (read_cell store at.object at.offset kind)))) (sym e)
    (finds-at r (at_spot p) (read_cell store (object_of p.object) p.offset kind) read)

pub write-left : {A : Type 0} (r : Either A Undefined) (memory : Memory) (last : ℕ) (store : Store) (p : Place) (kind : Kind) (v : Value) (place : Checked m.Location) (taken : Checked o.Value) → place ≡ Fine (at_spot p) → taken ≡ Fine (shown v)
    → Stores r memory last (write_cell (plain store) (object_of p.object) (p.offset + 0) kind (shown v))
    → Leaves r memory last (then_ place (λ at. then_ taken (λ w. m.left_in at (write_cell store at.object at.offset kind w))))
write-left r memory last store p kind v place taken e f c =
    let there = subst (λ (n : ℕ). Stores r memory last (write_cell (plain store) (object_of p.object) n kind (shown v))) (no-further p.offset) c in
    let done = leaves-at r memory last (at_spot p) (write_cell store (object_of p.object) p.offset kind (shown v)) (wrote r memory last store p.object p.offset kind (shown v) there) in
    subst (λ (x : Checked m.Location). Leaves r memory last (then_ x (λ at. then_ taken (λ w. m.left_in at (write_cell store at.object at.offset kind w))))) (sym e)
    (subst (λ (x : Checked o.Value). Leaves r memory last (then_ x (λ w. m.left_in (at_spot p) (write_cell store (object_of p.object) p.offset kind w)))) (sym f) done)
