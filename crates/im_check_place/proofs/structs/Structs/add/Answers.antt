use Rattle.std.proofs.Common.{◌≡◌, [], ◌∷◌, ◌++◌, sym, ap, ◌∙◌}
use Rattle.im_ctype.specs.Table.{structs_of, with_struct, members_in, types_of}
use Rattle.im_check_scopes.specs.im_rules.Rules.{free_from, members_free}
use Rattle.im_check_place.specs.Fields.{fields_of}
use Rattle.im_check_place.proofs.Added.{struct_more, free_more}
use Rattle.im_check_place.proofs.structs.Structs.add.Goals as goal

pub invariant_of-self-in-Ok : goal.invariant_of-self-in-Ok
invariant_of-self-in-Ok c =
    let t = c.entered.new.table in
    let ss = structs_of c.self.inside.table in
    let fs = fields_of c.args.fields.now in
    let e = c.in_ok-members.ensures.members in
    let grown : structs_of t ≡ ss = c.in_ok-members.ensures.grown.structs in
    let more : structs_of c.add_struct.new.self ≡ ss ++ fs ∷ [] =
    ap structs_of c.in-Ok.ensures.grown
    ∙ struct_more t c.in_ok-members.members.items
    ∙ ap (λ ms. structs_of t ++ ms ∷ []) e.same
    ∙ ap (λ zs. zs ++ fs ∷ []) grown in
    let before : c.self.inside.free.items ≡ free_from [] ss = c.self.invariant in
    let free : c.are_free-is_free.result ≡ members_free (free_from [] ss) fs = rw c.deref-2.ensures.value at c.are_free-is_free.ensures ∙ ap (λ done. members_free done fs) before in
    c.in_ok-push.ensures.items
    ∙ ap (λ zs. zs ++ c.are_free-is_free.result ∷ []) before
    ∙ ap (λ b. free_from [] ss ++ b ∷ []) free
    ∙ sym (free_more [] ss fs)
    ∙ ap (free_from []) (sym more)
