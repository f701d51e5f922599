-- A piece of an initialiser is stored.
use Rattle.std.proofs.Common.{◌≡◌, ◌∙◌, ◌+◌, ◌≤◌, ◌++◌, ap, refl, sym, subst, ℕ, zero, suc, List, [], ◌∷◌, drop, length, map, Ok, Err, arith}
use Rattle.im_store.specs.Objects as o
use Rattle.im_typed.specs.declared.statement.Piece.{Piece}
use Rattle.im_ctype.specs.Table.{Table}
use Rattle.im_typed.specs.Meaning.{Flow, change_store, cleared, given_offsets, local, Next as NextFlow}
use Rattle.im_typed.specs.ProgramOf.{access_of, piece_of}
use Rattle.im_typed.specs.Runs.{State, Answer, Run, goes_on, give}
use Rattle.im_typed.specs.Values.{Values, cells_of, used, write_at}
use Rattle.im_eval_store.specs.Shown.{shown}
use Rattle.im_eval_store.specs.declared.value.Value.{Value as Held}
use Rattle.im_eval_machine.specs.Shown.{Ends, Finds, Halts, nothing}
use Rattle.im_eval_machine.specs.Activations.{local_in}
use Rattle.im_eval_machine.specs.Initials.{offsets_from}
use Rattle.im_eval_machine.specs.Settings.{setting_of}
use Rattle.im_eval_machine.specs.declared.code.Code.{Code}
use Rattle.im_eval_machine.specs.declared.here.Here.{Here}
use Rattle.im_eval_machine.specs.declared.machine.Machine.{Machine}
use Rattle.im_eval_machine.specs.declared.stopped.Stopped.{Stopped}
use Rattle.im_eval_machine.proofs.Steps.{halts-on}
use Rattle.im_eval_tasks.specs.Stack.{Flowed, in_activation, runs}
use Rattle.im_eval_tasks.specs.Tasks.{initialises, piece_in, takes_piece}
use Rattle.im_eval_tasks.specs.declared.steps.Next.TheVariants.{Just}
use Rattle.im_eval_tasks.specs.declared.steps.Now.TheVariants.{Ended, Pieces}
use Rattle.im_eval_tasks.specs.declared.completion.Ended.TheVariants.{Next}
use Rattle.im_eval_tasks.specs.declared.tasks.Initialiser.{Initialiser}
use Rattle.im_eval_tasks.specs.declared.tasks.Task.{Task}
use Rattle.im_eval_tasks.proofs.Binds.{assoc}
use Rattle.im_eval_steps.specs.Going.{Goes, follows, types_of}
use Rattle.im_eval_steps.proofs.Going.{unfound, went}

module _ (code : Code) (n : ℕ) (here : Here) (ts : List Task) (s : State) (left : Initialiser) (piece : Piece) (vs : Values)
    (e : drop left.next left.pieces.now.items ≡ piece ∷ drop (left.next + 1) left.pieces.now.items) where
  abbrev all : List Piece
  all = left.pieces.now.items

  abbrev at : o.Value
  at = o.Pointer (local (in_activation (types_of code) (setting_of code) n here) left.local) piece.offset

  abbrev stores : Run Values
  stores = write_at (access_of (types_of code) piece.access) at vs

  abbrev others : List Piece → Values → Run Values
  others rest ws t =
      goes_on (initialises (types_of code) (in_activation (types_of code) (setting_of code) n here) left.local all rest t)
      (λ f. follows code n here ts (Flowed f))

  abbrev takes : List Piece → Answer Values
  takes rest =
      goes_on (takes_piece (types_of code) (in_activation (types_of code) (setting_of code) n here) left.local all rest vs s)
      (λ f. follows code n here ts (Flowed f))

  pub piece-unused : (why : Stopped) (m : Machine) → Finds {R = Held} shown (Err why) s (used vs s) → Halts why m (takes (drop left.next all))
  piece-unused why m h =
      let begin = initialises (types_of code) (in_activation (types_of code) (setting_of code) n here) left.local all (drop (left.next + 1) all) in
      subst (λ rest. Halts why m (takes rest)) (sym e)
      (halts-on why m _ (λ f. follows code n here ts (Flowed f)) (unfound shown why m s (used vs s) (λ _ t. goes_on (stores t) (λ _. begin)) h))

  module _ (v : Held) (u : Finds shown (Ok v) s (used vs s)) where
    piece-is : goes_on (stores s) (others (drop (left.next + 1) all)) ≡ takes (drop left.next all)
    piece-is =
        let begin = initialises (types_of code) (in_activation (types_of code) (setting_of code) n here) left.local all (drop (left.next + 1) all) in
        sym (ap takes e
        ∙ ap (λ r. goes_on (goes_on r (λ _ t. goes_on (stores t) (λ _. begin))) (λ f. follows code n here ts (Flowed f))) u
        ∙ assoc (stores s) (λ _. begin) (λ f. follows code n here ts (Flowed f)))

    pub piece-stops : (why : Stopped) (m : Machine) → Halts why m (stores s) → Halts why m (takes (drop left.next all))
    piece-stops why m h =
        subst (Halts why m) piece-is (halts-on why m (stores s) (others (drop (left.next + 1) all)) h)

    pub piece-goes : {R : Type 0} (done : R) (m : Machine) → Ends (λ (r : R). vs) (Ok done) m (stores s)
        → let more : Initialiser = record { local = left.local; pieces = left.pieces; next = left.next + 1 } in
        Goes code n here ts (Ok (Just (Pieces more))) m (takes (drop left.next all))
    piece-goes {R} done m h =
        let more : Initialiser = record { local = left.local; pieces = left.pieces; next = left.next + 1 } in
        subst (Goes code n here ts (Ok (Just (Pieces more))) m) piece-is
        (went code n here ts (λ (r : R). vs) done (Just (Pieces more)) m (stores s) (others (drop (left.next + 1) all)) h (λ t. refl))

-- constants of pieces don't say which cells these give
pub same-offsets : (types : Table) (ps : List Piece) → given_offsets (map (piece_in types) ps) ≡ given_offsets (map (piece_of types) ps)
same-offsets types [] = refl
same-offsets types (p ∷ ps) = ap (λ ns. offsets_from p.offset (cells_of (access_of types p.access)) ++ ns) (same-offsets types ps)

pub dropped-past : {X : Type 0} (xs : List X) (n : ℕ) → length xs ≤ n → drop n xs ≡ []
dropped-past [] zero le = refl
dropped-past [] (suc n) le = refl
dropped-past (x ∷ xs) zero le = absurd (omega arith)
dropped-past (x ∷ xs) (suc n) le = dropped-past xs n (let less : length xs ≤ n = omega arith in less)

-- where no piece is left, the other cells are cleared
pub clears : (code : Code) (n : ℕ) (here : Here) (ts : List Task) (s : State) (left : Initialiser) → drop left.next left.pieces.now.items ≡ [] → (m : Machine)
    → Ends (nothing {R = Unit {0}}) (Ok tt) m (change_store (cleared (given_offsets (map (piece_in (types_of code)) left.pieces.now.items)) (local_in here left.local)) s)
    → Goes code n here ts (Ok (Just (Ended Next))) m (runs (types_of code) (setting_of code) n here ts (Pieces left) s)
clears code n here ts s left e m h =
    let types = types_of code in
    let all = left.pieces.now.items in
    let then_ : Flow → Run Values = λ f. follows code n here ts (Flowed f) in
    subst (λ rest. Goes code n here ts (Ok (Just (Ended Next))) m (goes_on (initialises types (in_activation types (setting_of code) n here) left.local all rest s) then_)) (sym e)
    (h.0, h.1, ap (λ r. goes_on (goes_on r (λ _. give NextFlow)) then_) h.2)
