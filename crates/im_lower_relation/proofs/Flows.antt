-- Where statements end, and what comes behind them.
use Rattle.std.proofs.Common.{◌≡◌, ℕ, [], ◌∷◌}
use Rattle.std.specs.Prelude.{Some, None, slice_get}
use Rattle.im_store.specs.Objects.{Value, Store}
use Rattle.im_typed.specs.Program.{Prog}
use Rattle.im_typed.specs.Runs.{Answer, Run}
use Rattle.im_typed.specs.Runs as typed
use Rattle.im_typed.specs.Meaning.{Flow, Next, Broke, Continued, Returned, after, after_turn, out_of_switch}
use Rattle.im_block.specs.declared.code.Exit.TheVariants.{Jump, Return}
use Rattle.im_block.specs.declared.unit.Function.{Function}
use Rattle.im_block.specs.declared.unit.Unit.{Unit as Code}
use Rattle.im_block.specs.Meaning.{Setting, State}
use Rattle.im_lower_relation.specs.Codes.{Point, ends, Begins}
use Rattle.im_lower_relation.specs.Agrees.{Agrees, Home, Mark, moved, at, Reaches, Follows}
use Rattle.im_lower_relation.proofs.Steps.{here, does-later, does-moved}
use Rattle.im_lower_relation.proofs.Uses.{jumps, stands}

-- the point that follows, those of `break` and `continue`, and a return
abbrev pub end_of : ℕ → Point → Point → Point → Flow → Point
end_of low t out again Next = t
end_of low t out again Broke = out
end_of low t out again Continued = again
end_of low t out again (Returned []) = ends (Return None)
end_of low t out again (Returned (v ∷ vs)) = ends (Return (Some low))

abbrev pub HasResult : ℕ → Flow → (ℕ → Value) → Type 0
HasResult low Next registers = Unit {0}
HasResult low Broke registers = Unit {0}
HasResult low Continued registers = Unit {0}
HasResult low (Returned []) registers = Unit {0}
HasResult low (Returned (v ∷ vs)) registers = registers low ≡ v

-- behind a statement
pub record Left (low : ℕ) (flow : Flow) (t : typed.State) (registers : ℕ → Value) (store : Store) : Type 0 where
  pub agrees : Agrees t.world.store store
  pub has : HasResult low flow registers

module _ (u : Code) (g : Setting) (p : Prog) (home : Home) (fn : Function) (is : slice_get u.functions.items home.function ≡ Some fn) (low : ℕ) where
  -- an arm that ends with a jump
  pub flow-arm : {b : State} {r : Answer Flow} {P : Flow → typed.State → (ℕ → Value) → Store → Type 0} (j : ℕ) (t out again : Point) → Begins fn.blocks.items j t → Follows u g p home (end_of low (ends (Jump j)) out again) b P r → Follows u g p home (end_of low t out again) b P r
  flow-arm j t out again begins h = does-moved u g p home to-end h
    where
      to-end : (flow : Flow) (n : Mark) (registers : ℕ → Value) (store : Store) (s : typed.State) → (i : Mark) × Reaches u g (at home n (end_of low (ends (Jump j)) out again flow) registers store s) (at home i (end_of low t out again flow) registers store s)
      to-end Next n registers store s = (moved n j, jumps u g p home fn is j t n registers store s begins)
      to-end Broke n registers store s = (n, here u g _)
      to-end Continued n registers store s = (n, here u g _)
      to-end (Returned []) n registers store s = (n, here u g _)
      to-end (Returned (v ∷ vs)) n registers store s = (n, here u g _)

  -- what comes behind a statement that may go on
  pub followed : (flow : Flow) (m t out again : Point) (n : Mark) (registers : ℕ → Value) (store : Store) (s : typed.State) (next : Run Flow) → Left low flow s registers store
      → Follows u g p home (end_of low t out again) (at home n m registers store s) (Left low) (next s)
      → Follows u g p home (end_of low t out again) (at home n (end_of low m out again flow) registers store s) (Left low) (after flow next s)
  followed Next m t out again n registers store s next left h = h
  followed Broke m t out again n registers store s next left h = stands u g p home (end_of low t out again) n registers store s Broke left
  followed Continued m t out again n registers store s next left h = stands u g p home (end_of low t out again) n registers store s Continued left
  followed (Returned []) m t out again n registers store s next left h = stands u g p home (end_of low t out again) n registers store s (Returned []) left
  followed (Returned (v ∷ vs)) m t out again n registers store s next left h = stands u g p home (end_of low t out again) n registers store s (Returned (v ∷ vs)) left

  -- what comes behind a loop's body, which jumps to where a `continue` goes on
  pub turned : (flow : Flow) (l : ℕ) (inner t out again : Point) (n : Mark) (registers : ℕ → Value) (store : Store) (s : typed.State) (next : Run Flow) → Begins fn.blocks.items l inner → Left low flow s registers store
      → ((i : Mark) → Follows u g p home (end_of low t out again) (at home i inner registers store s) (Left low) (next s))
      → Follows u g p home (end_of low t out again) (at home n (end_of low (ends (Jump l)) t inner flow) registers store s) (Left low) (after_turn flow next s)
  turned Next l inner t out again n registers store s next begins left h = does-later u g p home (jumps u g p home fn is l inner n registers store s begins) (h (moved n l))
  turned Broke l inner t out again n registers store s next begins left h = stands u g p home (end_of low t out again) n registers store s Next (record { agrees = left.agrees; has = tt })
  turned Continued l inner t out again n registers store s next begins left h = h n
  turned (Returned []) l inner t out again n registers store s next begins left h = stands u g p home (end_of low t out again) n registers store s (Returned []) left
  turned (Returned (v ∷ vs)) l inner t out again n registers store s next begins left h = stands u g p home (end_of low t out again) n registers store s (Returned (v ∷ vs)) left

  -- what comes behind a switch's block
  pub switched : (flow : Flow) (j : ℕ) (t out again : Point) (n : Mark) (registers : ℕ → Value) (store : Store) (s : typed.State) → Begins fn.blocks.items j t → Left low flow s registers store
      → Follows u g p home (end_of low t out again) (at home n (end_of low (ends (Jump j)) t again flow) registers store s) (Left low) (typed.give (out_of_switch flow) s)
  switched Next j t out again n registers store s begins left =
      does-later u g p home (jumps u g p home fn is j t n registers store s begins) (stands u g p home (end_of low t out again) (moved n j) registers store s Next left)
  switched Broke j t out again n registers store s begins left = stands u g p home (end_of low t out again) n registers store s Next (record { agrees = left.agrees; has = tt })
  switched Continued j t out again n registers store s begins left = stands u g p home (end_of low t out again) n registers store s Continued left
  switched (Returned []) j t out again n registers store s begins left = stands u g p home (end_of low t out again) n registers store s (Returned []) left
  switched (Returned (v ∷ vs)) j t out again n registers store s begins left = stands u g p home (end_of low t out again) n registers store s (Returned (v ∷ vs)) left
