use Rattle.std.proofs.Common.{◌∷◌, [], true, Ok, Err, sym, subst}
use Rattle.std.specs.Prelude.{is_ok}
use Rattle.std.specs.List.{insert}
use Rattle.std.specs.List.Sorted.{IsBinarySearchResult}
use Rattle.std.specs.Ordering.{nat_cmp}
use Rattle.im_alias.specs.Ascending.{Adds}
use Rattle.im_alias.proofs.Adding.{found_ok, found_err, ascends_either}
use Rattle.im_alias.proofs.set.ObjectSet.add.Goals as goal

pub invariant_of-self : goal.invariant_of-self
invariant_of-self c =
    let xs = c.args.self.now.members.items in
    let x = c.args.object in
    let found = found_err xs x c.in-Err.at c.args.self.now.ascending (subst (λ l. IsBinarySearchResult (λ y. nat_cmp y x) l (Err c.in-Err.at)) c.deref.ensures.value c.in-Err.ensures.position) in
    record { ascending = ascends_either (is_ok c.insert.result) (insert xs c.in-Err.at x) xs c.insert.new.self.items c.insert.ensures.items found.1 c.args.self.now.ascending }

pub returns-in-Ok : goal.returns-in-Ok
returns-in-Ok c =
    let xs = c.args.self.now.members.items in
    let x = c.args.object in
    found_ok xs x c.in-Ok.field-0 c.args.self.now.ascending (subst (λ l. IsBinarySearchResult (λ y. nat_cmp y x) l (Ok c.in-Ok.field-0)) c.deref.ensures.value c.in-Ok.ensures.position)

pub returns-in_ok-insert-in-Err : goal.returns-in_ok-insert-in-Err
returns-in_ok-insert-in-Err c =
    let xs = c.args.self.now.members.items in
    let x = c.args.object in
    let found = found_err xs x c.in-Err.at c.args.self.now.ascending (subst (λ l. IsBinarySearchResult (λ y. nat_cmp y x) l (Err c.in-Err.at)) c.deref.ensures.value c.in-Err.ensures.position) in
    subst (λ l. Adds xs (x ∷ []) l true) (sym c.in_ok-insert-in-Err.ensures.items) found.0
