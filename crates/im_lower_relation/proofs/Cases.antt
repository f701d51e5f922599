-- The labels of a switch, and an object that loses its values.
use Rattle.std.proofs.Common.{◌≡◌, ℕ, ◌+◌, List, [], ◌∷◌, Bool, true, false, refl, sym, ap, ◌∙◌, subst, arith}
use Rattle.std.specs.Prelude.{Some, ℤ, pos, if◌then◌else◌, slice_get}
use Rattle.std.specs.Ordering.{int_eq}
use Rattle.im_num.specs.declared.kind.Kind.{Kind}
use Rattle.im_num.specs.Kinds.{IsOfKind}
use Rattle.im_store.specs.declared.operators.Comparison.TheVariants.{Equal}
use Rattle.im_store.specs.Checks.{Fine}
use Rattle.im_store.specs.Objects.{Object, Value, Number, Unset, Store, same_object}
use Rattle.im_typed.specs.declared.statement.Case.{Case}
use Rattle.im_typed.specs.Program as q
use Rattle.im_typed.specs.Runs as typed
use Rattle.im_typed.specs.Meaning.{entered, forgotten}
use Rattle.im_typed.specs.Typing.{IsInteger, AreLabels}
use Rattle.im_block.specs.declared.code.Line.TheVariants.{Put, Compare}
use Rattle.im_block.specs.declared.code.Exit.TheVariants.{Branch}
use Rattle.im_block.specs.declared.unit.Function.{Function}
use Rattle.im_block.specs.declared.unit.Unit.{Unit as Code}
use Rattle.im_block.specs.Meaning as m
use Rattle.im_block.specs.Meaning.{Setting, with_register}
use Rattle.im_lower_relation.specs.Codes.{Point, before, ends}
use Rattle.im_lower_relation.specs.Statements.{start_at, CodesCases}
use Rattle.im_lower_relation.specs.Agrees.{Same, Agrees, Home, Mark, moved, at, Reaches}
use Rattle.im_lower_relation.proofs.Steps.{further}
use Rattle.im_lower_relation.proofs.Uses.{register-same, register-other, line-goes, jumps, branches}
use Rattle.im_lower_relation.proofs.Operands.{compared-same, truth-condition}

-- block code has come to a point, with whatever registers
pub record Comes (u : Code) (g : Setting) (home : Home) (b : m.State) (next : Point) (store : Store) (s : typed.State) : Type 0 where
  pub mark : Mark
  pub registers : ℕ → Value
  pub leads : Reaches u g b (at home mark next registers store s)

module _ (u : Code) (g : Setting) (p : q.Prog) (home : Home) (fn : Function) (is : slice_get u.functions.items home.function ≡ Some fn) where
  -- the labels lead to where the switch enters its block
  pub cases-lead : (low : ℕ) (kind : Kind) (ks : List Case) (otherwise count : ℕ) (start : Point) (qs : List Point) (entry : Point) (z : ℤ) (n : Mark) (registers : ℕ → Value) (store : Store) (s : typed.State)
      → IsInteger kind → IsOfKind kind z → registers low ≡ Number z → AreLabels (Some (q.Scalar kind)) count ks → CodesCases low fn.blocks.items kind ks otherwise start qs entry
      → Comes u g home (at home n entry registers store s) (start_at start qs (entered z ks otherwise)) store s
  cases-lead low kind [] otherwise count start qs entry z n registers store s i hz has labels codes = record {
    mark = moved n codes.0;
    registers = registers;
    leads = subst (λ x. Reaches u g (at home n x registers store s) (at home (moved n codes.0) (start_at start qs otherwise) registers store s)) (sym codes.2)
        (jumps u g p home fn is codes.0 (start_at start qs otherwise) n registers store s codes.1);
  }
  cases-lead low kind (k ∷ ks) otherwise count start qs entry z n registers store s i₀ hz has labels codes =
      let top : ℕ = low + 1 in
      let one : ℕ → Value = with_register registers top (Number k.value) in
      let kept : one low ≡ Number z = register-other registers top low (Number k.value) (λ e. omega arith) ∙ has in
      let two : ℕ → Value = with_register one top (Number (if int_eq z k.value then pos 1 else pos 0)) in
      let first : Reaches u g (at home n entry registers store s) (at home n (ends (Branch top codes.0 codes.1)) two store s) =
      subst (λ x. Reaches u g (at home n x registers store s) (at home n (ends (Branch top codes.0 codes.1)) two store s)) (sym codes.6)
      (further u g
      (line-goes u g p home (Put top k.value) (before (Compare top Equal kind low top) (ends (Branch top codes.0 codes.1))) n registers store s top (Fine (Number k.value)) (Number k.value) refl refl)
      (line-goes u g p home (Compare top Equal kind low top) (ends (Branch top codes.0 codes.1)) n one store s top (m.as_truth (m.compared store Equal kind (one low) (one top))) (Number (if int_eq z k.value then pos 1 else pos 0)) refl
      (compared-same store Equal kind (one low) (one top) z k.value i₀ kept (register-same registers top (Number k.value)) hz labels.0))) in
      by-test (int_eq z k.value) (λ (i : Mark) (rs : ℕ → Value). λ h. cases-lead low kind ks otherwise count start qs codes.2 z i rs store s i₀ hz h labels.3 codes.5) two first (register-same one top (Number (if int_eq z k.value then pos 1 else pos 0)))
      (register-other one top low (Number (if int_eq z k.value then pos 1 else pos 0)) (λ e. omega arith) ∙ kept)
    where
      by-test : (c : Bool) → ((i : Mark) (rs : ℕ → Value) → rs low ≡ Number z → Comes u g home (at home i codes.2 rs store s) (start_at start qs (entered z ks otherwise)) store s) → (rs : ℕ → Value) → Reaches u g (at home n entry registers store s) (at home n (ends (Branch (low + 1) codes.0 codes.1)) rs store s) → rs (low + 1) ≡ Number (if c then pos 1 else pos 0) → rs low ≡ Number z
          → Comes u g home (at home n entry registers store s) (start_at start qs (if c then k.at else entered z ks otherwise)) store s
      by-test true rest rs h e kept = record {
        mark = moved n codes.0;
        registers = rs;
        leads = further u g h (branches u g p home fn is (low + 1) codes.0 codes.1 (start_at start qs k.at) codes.2 n rs store s true codes.3 codes.4 (ap (m.condition store) e ∙ truth-condition store true));
      }
      by-test false rest rs h e kept =
          let last = rest (moved n codes.1) rs kept in
          record {
            mark = last.mark;
            registers = last.registers;
            leads = further u g (further u g h (branches u g p home fn is (low + 1) codes.0 codes.1 (start_at start qs k.at) codes.2 n rs store s false codes.3 codes.4 (ap (m.condition store) e ∙ truth-condition store false))) last.leads;
          }

-- an object that loses its values

forgotten-same : (c : Bool) (v w : Value) → Same v w → Same (if c then Unset else v) w
forgotten-same true v w h = tt
forgotten-same false v w h = h

pub forgotten-agrees : (store blocks : Store) (o : Object) → Agrees store blocks → Agrees (forgotten o store) blocks
forgotten-agrees store blocks o agrees = record {
  inside = agrees.inside;
  shapes = agrees.shapes;
  values = λ p i. forgotten-same (same_object p o) (store.values p i) (blocks.values p i) (agrees.values p i);
}
