-- A function that is swept is sectioned: its marks are what the search for each read is to find.
use Rattle.std.proofs.Common.{◌≡◌, ℕ, List, [], ◌∷◌, ◌++◌, Some, refl, sym, ◌∙◌, subst}
use Rattle.std.specs.Prelude.{Bool, true, false, slice_get}
use Rattle.im_num.specs.declared.values.Cause.TheVariants.{Dep as DepCut}
use Rattle.im_block.specs.declared.access.Tags.{Tags}
use Rattle.im_block.specs.declared.access.Dep.{Dep}
use Rattle.im_block.specs.declared.code.Line.{Line}
use Rattle.im_block.specs.declared.code.Line.TheVariants.{Cut}
use Rattle.im_block.specs.declared.code.Block.{Block}
use Rattle.im_block.specs.declared.unit.Function.{Function}
use Rattle.im_block.specs.Meaning.{Site}
use Rattle.im_block.specs.Paths.{Step, WriteStep, steps_of, MeetAt, IsSectioned}
use Rattle.im_block.specs.Flow.{clean_after, open_after, clean_through, open_through, IsClosed}
use Rattle.im_dep.specs.Sites.{Decides}
use Rattle.im_cut.specs.Sweep.{Marks, fresh, passed, SweepLines, Ends, Keeps, Cuts, Swept}
use Rattle.im_cut.proofs.Flows.{sectioned_by_search}
use Rattle.im_cut.proofs.Sweeps.{SweptBlock, swept_block}

no_step : (w : Site) (steps : List Step) → steps ≡ [] → steps ≡ WriteStep w ∷ [] → ⊥
no_step w steps e f = cc

no_flag : false ≡ true → ⊥
no_flag e = cc

module _ (tags : Tags) (covers : Site → Site → Bool) where
  pub clean_along : (m : Marks) (old new : List Line) (added : List Dep) (n : Marks) (r : Site) → SweepLines tags covers m old new added n → clean_through (λ w. covers w r) new (m.clean r) ≡ n.clean r
  clean_along m old new added n r (Ends k) = refl
  clean_along m old new added n r (Keeps k line x y more l free h) = clean_along (passed covers line k) x y more l r h
  clean_along m old new added n r (Cuts k w a line x y more l step opened meets h) = clean_along (passed covers line fresh) x y more l r h

  pub open_along : (m : Marks) (old new : List Line) (added : List Dep) (n : Marks) (r : Site) → SweepLines tags covers m old new added n → open_through (λ w. covers w r) r new (m.clean r) (m.opened r) ≡ n.opened r
  open_along m old new added n r (Ends k) = refl
  open_along m old new added n r (Keeps k line x y more l free h) = open_along (passed covers line k) x y more l r h
  open_along m old new added n r (Cuts k w a line x y more l step opened meets h) = open_along (passed covers line fresh) x y more l r h

  -- no write that has no cut before it meets an open read
  passes_along : (m : Marks) (old new : List Line) (added : List Dep) (n : Marks) (w r : Site) (before lines : List Line) (line : Line) → SweepLines tags covers m old new added n →
      new ≡ before ++ line ∷ lines → steps_of line ≡ WriteStep w ∷ [] → open_through (λ x. covers x r) r before (m.clean r) (m.opened r) ≡ true → MeetAt tags w r → ⊥
  passes_along m old new added n w r [] lines line (Ends k) e is opened meet = cc
  passes_along m old new added n w r (b ∷ before) lines line (Ends k) e is opened meet = cc
  passes_along m old new added n w r [] lines line (Keeps k l x y more j free h) e is opened meet =
      let same : l ≡ line = cc in
      free w r (subst (λ (q : Line). steps_of q ≡ WriteStep w ∷ []) (sym same) is) opened meet
  passes_along m old new added n w r (b ∷ before) lines line (Keeps k l x y more j free h) e is opened meet =
      let same : b ≡ l = cc in
      let rest : y ≡ before ++ line ∷ lines = cc in
      passes_along (passed covers l k) x y more j w r before lines line h rest is (subst (λ (q : Line). open_through (λ z. covers z r) r before (clean_after (λ z. covers z r) q (k.clean r)) (open_after r q (k.clean r) (k.opened r)) ≡ true) same opened) meet
  passes_along m old new added n w r [] lines line (Cuts k v a l x y more j step o meets h) e is opened meet =
      let same : Cut (DepCut a.number v.number) ≡ line = cc in
      no_step w (steps_of (Cut (DepCut a.number v.number))) refl (subst (λ (q : Line). steps_of q ≡ WriteStep w ∷ []) (sym same) is)
  passes_along m old new added n w r (b ∷ []) lines line (Cuts k v a l x y more j step o meets h) e is opened meet =
      let same : b ≡ Cut (DepCut a.number v.number) = cc in
      no_flag (subst (λ (q : Line). open_after r q (k.clean r) (k.opened r) ≡ true) same opened)
  passes_along m old new added n w r (b ∷ c ∷ before) lines line (Cuts k v a l x y more j step o meets h) e is opened meet =
      let first : b ≡ Cut (DepCut a.number v.number) = cc in
      let second : c ≡ l = cc in
      let rest : y ≡ before ++ line ∷ lines = cc in
      let one = subst (λ (q : Line). open_through (λ z. covers z r) r before (clean_after (λ z. covers z r) c (clean_after (λ z. covers z r) q (k.clean r))) (open_after r c (clean_after (λ z. covers z r) q (k.clean r)) (open_after r q (k.clean r) (k.opened r))) ≡ true) first opened in
      let two = subst (λ (q : Line). open_through (λ z. covers z r) r before (clean_after (λ z. covers z r) q true) (open_after r q true false) ≡ true) second one in
      passes_along (passed covers l fresh) x y more j w r before lines line h rest is two meet

module _ (tags : Tags) (covers : Site → Site → Bool) (old new : Function) (added : List Dep) (decides : Decides tags covers) (swept : Swept tags covers old new added) where
  block_at : (b : ℕ) (y : Block) → slice_get new.blocks.items b ≡ Some y → SweptBlock tags covers swept.starts swept.ends b (slice_get old.blocks.items b) y
  block_at b y at = swept_block tags covers swept.starts swept.ends old.blocks.items new.blocks.items added b y swept.blocks at

  closed : (r : Site) → IsClosed tags new r
  closed r = record {
    covers = λ w. covers w r;
    clean = λ b. (swept.starts b).clean r;
    opened = λ b. (swept.starts b).opened r;
    covers_is = λ w e. decides.yes w r e;
    entry = swept.joined.entry r;
    clean_on = λ b c block at edge e.
        let k = block_at b block at in
        swept.joined.clean_on b c block r at edge (sym (clean_along tags covers (swept.starts b) k.was.lines.items block.lines.items k.own (swept.ends b) r k.lines) ∙ e);
    open_on = λ b c block at edge e.
        let k = block_at b block at in
        swept.joined.open_on b c block r at edge (sym (open_along tags covers (swept.starts b) k.was.lines.items block.lines.items k.own (swept.ends b) r k.lines) ∙ e);
    passes = λ b w block before lines line at parts is opened meet.
        let k = block_at b block at in
        passes_along tags covers (swept.starts b) k.was.lines.items block.lines.items k.own (swept.ends b) w r before lines line k.lines parts is opened meet;
  }

  pub swept_sectioned : IsSectioned tags new
  swept_sectioned = sectioned_by_search tags new closed
