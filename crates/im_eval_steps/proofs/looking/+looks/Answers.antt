use Rattle.std.proofs.Common.{◌≡◌, ◌∙◌, ℕ, subst, sym, true, false, Err, Ok}
use Rattle.std.specs.Prelude.{not}
use Rattle.im_num.specs.Kinds.{wrap}
use Rattle.im_ctype.specs.Table.{Table}
use Rattle.im_store.specs.Numbers.{apply, apply_one}
use Rattle.im_store.specs.Objects as o
use Rattle.im_store.specs.Pointers.{bytes_moved, compare_values, holds, member_at, moved_by}
use Rattle.im_typed.specs.declared.expression.Expr.{Expr}
use Rattle.im_typed.specs.declared.expression.Place.{Place}
use Rattle.im_typed.specs.Meaning.{place_of, value_of}
use Rattle.im_typed.specs.ProgramOf.{access_of, expr_of, place_of as typed_place}
use Rattle.im_typed.specs.Programs.{Setting}
use Rattle.im_typed.specs.Runs.{Run, checked, either, goes_on, in_store}
use Rattle.im_typed.specs.Values.{Values, number, number_in, read_at, scalar, truth, value_in}
use Rattle.im_eval_store.specs.Shown.{shown}
use Rattle.im_eval_machine.specs.Shown.{one}
use Rattle.im_eval_machine.specs.Small.{small_expr, small_place}
use Rattle.im_eval_machine.specs.declared.here.Here.{Here}
use Rattle.im_eval_tasks.specs.Stack.{in_activation}
use Rattle.im_eval_steps.specs.Seen.{Sees, whole_of}
use Rattle.im_eval_steps.proofs.Seeing.{unseen, seen-then}
use Rattle.im_eval_steps.proofs.looking.+looks.Goals as goal

module _ (types : Table) (g : Setting) (n : ℕ) (here : Here) where
  abbrev val : Expr → Run Values
  val e = value_of (in_activation types g n here) (small_expr (expr_of types e))

  abbrev at : Place → Run o.Value
  at a = place_of (in_activation types g n here) (small_place (typed_place types a))

pub place_seen-returns-in-Static : goal.place_seen-returns-in-Static
place_seen-returns-in-Static t c = λ types g n last s h. rw c.in-Static.is (c.static_place.ensures types g n c.args.here s)

pub place_seen-returns-in-Local : goal.place_seen-returns-in-Local
place_seen-returns-in-Local t c = λ types g n last s h. rw c.in-Local.is (c.local_place.ensures types g n s)

pub place_seen-returns-in-Target : goal.place_seen-returns-in-Target
place_seen-returns-in-Target t c = λ types g n last s h.
    let v = val types g n c.args.here in
    rw c.in-Target.is (subst (λ e. Sees shown c.used.result s (value_in (v e) s)) c.deref.ensures
    (c.used.ensures last s (v c.deref.result.now s) h (c.seen.ensures types g n last s h)))

pub place_seen-returns-in-Member : goal.place_seen-returns-in-Member
place_seen-returns-in-Member t c = λ types g n last s h.
    let v = at types g n c.args.here in
    rw c.in-Member.is (subst (λ a. Sees shown c.member_of.result s (goes_on (v a s) (λ w. in_store (λ store. member_at store c.in-Member.offset w)))) c.deref-in-Member.ensures
    (c.member_of.ensures last s (v c.deref-in-Member.result.now s) h (c.place_seen.ensures types g n last s h)))

pub seen-returns-in-Read : goal.seen-returns-in-Read
seen-returns-in-Read t c = λ types g n last s h.
    let v = at types g n c.args.here in
    let w = c.in-Read in
    rw w.is (subst (λ a. Sees one c.read_from.result s (goes_on (v a s) (read_at (access_of types w.access)))) c.deref.ensures
    (c.read_from.ensures types last s (v c.deref.result.now s) h (c.place_seen.ensures types g n last s h)))

pub seen-returns-in-Address : goal.seen-returns-in-Address
seen-returns-in-Address t c = λ types g n last s h.
    let v = at types g n c.args.here in
    rw c.in-Address.is (subst (λ a. Sees one c.address.result s (goes_on (v a s) scalar)) c.deref-in-Address.ensures
    (c.address.ensures s (v c.deref-in-Address.result.now s) (c.place_seen-in-Address.ensures types g n last s h)))

pub seen-returns-in-Convert : goal.seen-returns-in-Convert
seen-returns-in-Convert t c = λ types g n last s h.
    let v = val types g n c.args.here in
    rw c.in-Convert.is (subst (λ e. Sees one c.convert.result s (goes_on (number_in (v e) s) (λ z. number (wrap c.in-Convert.kind z)))) c.deref-in-Convert.ensures
    (c.convert.ensures last s (v c.deref-in-Convert.result.now s) h (c.seen.ensures types g n last s h)))

pub seen-returns-in-Unary : goal.seen-returns-in-Unary
seen-returns-in-Unary t c = λ types g n last s h.
    let v = val types g n c.args.here in
    let w = c.in-Unary in
    rw w.is (subst (λ e. Sees one c.unary.result s (goes_on (number_in (v e) s) (λ z. number (apply_one w.op w.kind z)))) c.deref-in-Unary.ensures
    (c.unary.ensures last s (v c.deref-in-Unary.result.now s) h (c.seen-in-Unary.ensures types g n last s h)))

pub seen-returns-in-Not : goal.seen-returns-in-Not
seen-returns-in-Not t c = λ types g n last s h.
    let v = val types g n c.args.here in
    rw c.in-Not.is (subst (λ e. Sees one c.negated.result s (goes_on (value_in (v e) s) (λ x. truth (not (holds x))))) c.deref-in-Not.ensures
    (c.negated.ensures last s (v c.deref-in-Not.result.now s) h (c.seen-in-Not.ensures types g n last s h)))

pub seen-returns-in-Err : goal.seen-returns-in-Err
seen-returns-in-Err t c = λ types g n last s h.
    let v = val types g n c.args.here in
    rw c.in-Binary.is (unseen whole_of one c.in-Err.why s (number_in (v c.in-Binary.left.value) s) _
    (subst (λ e. Sees whole_of (Err c.in-Err.why) s (number_in (v e) s)) c.deref-in-Binary.ensures
    (c.in-Err.ensures last s (v c.deref-in-Binary.result.now s) h (c.seen-in-Binary.ensures types g n last s h))))

pub seen-returns-in-Ok : goal.seen-returns-in-Ok
seen-returns-in-Ok t c = λ types g n last s h.
    let v = val types g n c.args.here in
    let w = c.in-Binary in
    rw w.is (seen-then whole_of one c.in-Ok.x c.binary.result s (number_in (v w.left.value) s) _
    (subst (λ e. Sees whole_of (Ok c.in-Ok.x) s (number_in (v e) s)) c.deref-in-Binary.ensures
    (c.in-Ok.ensures last s (v c.deref-in-Binary.result.now s) h (c.seen-in-Binary.ensures types g n last s h)))
    (subst (λ e. Sees one c.binary.result s (goes_on (number_in (v e) s) (λ y u. goes_on (checked (apply w.op w.kind c.in-Ok.x.value y) u) number))) c.deref-in-Ok.ensures
    (c.binary.ensures last s (v c.deref-in-Ok.result.now s) h (c.seen-in-Ok.ensures types g n last s h))))

pub seen-returns-in-Err-used : goal.seen-returns-in-Err-used
seen-returns-in-Err-used t c = λ types g n last s h.
    let v = val types g n c.args.here in
    rw c.in-Compare.is (unseen shown one c.in-Err-used.why s (value_in (v c.in-Compare.left.value) s) _
    (subst (λ e. Sees shown (Err c.in-Err-used.why) s (value_in (v e) s)) c.deref-in-Compare.ensures
    (c.in-Err-used.ensures last s (v c.deref-in-Compare.result.now s) h (c.seen-in-Compare.ensures types g n last s h))))

pub seen-returns-in-Ok-used : goal.seen-returns-in-Ok-used
seen-returns-in-Ok-used t c = λ types g n last s h.
    let v = val types g n c.args.here in
    let w = c.in-Compare in
    let x = c.in-Ok-used.x in
    rw w.is (seen-then shown one x c.compare.result s (value_in (v w.left.value) s) _
    (subst (λ e. Sees shown (Ok x) s (value_in (v e) s)) c.deref-in-Compare.ensures
    (c.in-Ok-used.ensures last s (v c.deref-in-Compare.result.now s) h (c.seen-in-Compare.ensures types g n last s h)))
    (subst (λ e. Sees one c.compare.result s (goes_on (value_in (v e) s) (λ y u. goes_on (checked (compare_values w.op (shown x) y) u) truth))) c.deref-in-Ok-used.ensures
    (c.compare.ensures last s (v c.deref-in-Ok-used.result.now s) h (c.seen-in-Ok-used.ensures types g n last s h))))

pub seen-returns-in-Err-used-2 : goal.seen-returns-in-Err-used-2
seen-returns-in-Err-used-2 t c = λ types g n last s h.
    let v = val types g n c.args.here in
    rw c.in-Move.is (unseen shown one c.in-Err-used-2.why s (value_in (v c.in-Move.pointer.value) s) _
    (subst (λ e. Sees shown (Err c.in-Err-used-2.why) s (value_in (v e) s)) c.deref-in-Move.ensures
    (c.in-Err-used-2.ensures last s (v c.deref-in-Move.result.now s) h (c.seen-in-Move.ensures types g n last s h))))

pub seen-returns-in-Ok-used-2 : goal.seen-returns-in-Ok-used-2
seen-returns-in-Ok-used-2 t c = λ types g n last s h.
    let v = val types g n c.args.here in
    let w = c.in-Move in
    let x = c.in-Ok-used-2.x in
    rw w.is (seen-then shown one x c.moved.result s (value_in (v w.pointer.value) s) _
    (subst (λ e. Sees shown (Ok x) s (value_in (v e) s)) c.deref-in-Move.ensures
    (c.in-Ok-used-2.ensures last s (v c.deref-in-Move.result.now s) h (c.seen-in-Move.ensures types g n last s h)))
    (subst (λ e. Sees one c.moved.result s (goes_on (number_in (v e) s) (λ z u. goes_on (in_store (λ store. moved_by store (bytes_moved w.size w.back z) (shown x)) u) scalar))) c.deref-in-Ok-used-2.ensures
    (c.moved.ensures last s (v c.deref-in-Ok-used-2.result.now s) h (c.seen-in-Ok-used-2.ensures types g n last s h))))

pub seen-returns-in-Err-used-3 : goal.seen-returns-in-Err-used-3
seen-returns-in-Err-used-3 t c = λ types g n last s h.
    let v = val types g n c.args.here in
    rw c.in-Choose.is (unseen shown one c.in-Err-used-3.why s (value_in (v c.in-Choose.test.value) s) (λ y. either (holds y) (v c.in-Choose.first.value) (v c.in-Choose.second.value))
    (subst (λ e. Sees shown (Err c.in-Err-used-3.why) s (value_in (v e) s)) c.deref-in-Choose.ensures
    (c.in-Err-used-3.ensures last s (v c.deref-in-Choose.result.now s) h (c.seen-in-Choose.ensures types g n last s h))))

pub seen-returns-then-holds : goal.seen-returns-then-holds
seen-returns-then-holds t c = λ types g n last s h.
    let v = val types g n c.args.here in
    let w = c.in-Choose in
    let x = c.in-Ok-used-3.x in
    let decides : holds (shown x) ≡ true = sym c.holds.ensures ∙ c.if-holds.true in
    rw w.is (seen-then shown one x c.seen-then-holds.result s (value_in (v w.test.value) s) (λ y. either (holds y) (v w.first.value) (v w.second.value))
    (subst (λ e. Sees shown (Ok x) s (value_in (v e) s)) c.deref-in-Choose.ensures
    (c.in-Ok-used-3.ensures last s (v c.deref-in-Choose.result.now s) h (c.seen-in-Choose.ensures types g n last s h)))
    (subst (λ b. Sees one c.seen-then-holds.result s (either b (v w.first.value) (v w.second.value) s)) (sym decides)
    (subst (λ e. Sees one c.seen-then-holds.result s (v e s)) c.deref-then-holds.ensures (c.seen-then-holds.ensures types g n last s h))))

pub seen-returns-else-holds : goal.seen-returns-else-holds
seen-returns-else-holds t c = λ types g n last s h.
    let v = val types g n c.args.here in
    let w = c.in-Choose in
    let x = c.in-Ok-used-3.x in
    let decides : holds (shown x) ≡ false = sym c.holds.ensures ∙ c.if-holds.false in
    rw w.is (seen-then shown one x c.seen-else-holds.result s (value_in (v w.test.value) s) (λ y. either (holds y) (v w.first.value) (v w.second.value))
    (subst (λ e. Sees shown (Ok x) s (value_in (v e) s)) c.deref-in-Choose.ensures
    (c.in-Ok-used-3.ensures last s (v c.deref-in-Choose.result.now s) h (c.seen-in-Choose.ensures types g n last s h)))
    (subst (λ b. Sees one c.seen-else-holds.result s (either b (v w.first.value) (v w.second.value) s)) (sym decides)
    (subst (λ e. Sees one c.seen-else-holds.result s (v e s)) c.deref-else-holds.ensures (c.seen-else-holds.ensures types g n last s h))))
