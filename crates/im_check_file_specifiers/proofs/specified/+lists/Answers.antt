use Rattle.std.proofs.Common.{◌≡◌, ◌+◌, List, [], drop, inl, refl, ap, ◌∙◌}
use Rattle.std.proofs.lemmas.Result.{err_from_is_err_and}
use Rattle.std.proofs.lemmas.List.{drop_all}
use Rattle.im_ctree.specs.Shape.{specifier_of}
use Rattle.im_ctree.specs.declared.specifier.Specifiers.{out-Specifiers}
use Rattle.im_ctype.specs.Table.{structs_of}
use Rattle.im_rules.specs.Rules.{named_in, keywords_in}
use Rattle.im_ctree_parts.specs.Lists.{list_from, specifier_in, members_from}
use Rattle.im_ctree_parts.proofs.Shapes.{struct_tree, enum_tree}
use Rattle.im_types.specs.Shape.{type_of}
use Rattle.im_check_type_specifiers.specs.Specified.{qualified_of}
use Rattle.im_check_file_place.specs.Files.{file_place_of}
use Rattle.im_check_file_specifiers.specs.Answers.{level_of, list_of}
use Rattle.im_check_place.specs.Fields.{fields_of}
use Rattle.im_check_file_specifiers.specs.Lists.{tag_of}
use Rattle.im_check_file_specifiers.specs.Words.{NoListBefore}
use Rattle.im_check_file_specifiers.proofs.Constants.{next}
use Rattle.im_check_file_specifiers.proofs.Members.{members_none, members_more, members_fault, members_all, member_unspecified, member_made, members_broken, list_refused, list_large, list_done}
use Rattle.im_check_file_specifiers.proofs.Specifiers.{words_fault, passed_by, found_list, no_list_at_all, typed_with, fault_with}
use Rattle.im_check_file_specifiers.proofs.specified.+lists.Goals as goal

pub specify-returns-in_err-may_stand : goal.specify-returns-in_err-may_stand
specify-returns-in_err-may_stand t c =
    let p = err_from_is_err_and c.from_residual.result c.from_residual.ensures.1 in
    rw (p.1, p.2) (words_fault (file_place_of c.args.file.now) (level_of c.args.level) _ (list_of c.args.specifiers.now) _ (rw c.deref.ensures.value at c.in_err-may_stand.ensures.asked))

pub specify-loop-specifier-init : goal.specify-loop-specifier-init
specify-loop-specifier-init t c = (inl refl, refl)

pub specify-loop-specifier-preserved : goal.specify-loop-specifier-preserved
specify-loop-specifier-preserved t c =
    let items = (out-Specifiers c.args.specifiers.now).items.items in
    let i = c.loop-specifier.specifier-index in
    let s = c.specifier-item.result in
    let same = c.deref-specifier-items.ensures.value in
    let at = next items i s (rw same at c.loop-specifier-test.true) (rw same at c.specifier-item.is) in
    let may = rw c.deref.ensures.value at c.in_ok-may_stand.ensures.asked in
    (passed_by (list_of c.args.specifiers.now) (specifier_in s) (list_from (drop (i + 1) items)) (c.is_list.ensures [] ∙ c.if-is_list.false) may.1 (rw at at c.loop-specifier.invariant.0), c.loop-specifier.invariant.1)

pub specify-returns-in_err-ty : goal.specify-returns-in_err-ty
specify-returns-in_err-ty t c =
    let p = err_from_is_err_and c.from_residual-in_err-ty.result c.from_residual-in_err-ty.ensures.1 in
    let xs = list_of c.args.specifiers.now in
    let items = (out-Specifiers c.args.specifiers.now).items.items in
    let i = c.loop-specifier.specifier-index in
    let s = c.specifier-item.result in
    let rest = list_from (drop (i + 1) items) in
    let same = c.deref-specifier-items.ensures.value in
    let at = next items i s (rw same at c.loop-specifier-test.true) (rw same at c.specifier-item.is) in
    let may = rw c.deref.ensures.value at c.in_ok-may_stand.ensures.asked in
    let e = found_list xs (specifier_in s) rest (c.is_list.ensures [] ∙ c.if-is_list.true) (rw at at c.loop-specifier.invariant.0) in
    let h = rw c.loop-specifier.invariant.1 at (c.in_err-ty.ensures (out-Specifiers c.args.specifiers.now).at (named_in rest) (keywords_in xs)) in
    rw (p.1, p.2) (fault_with (file_place_of c.args.file.now) (level_of c.args.level) _ xs (specifier_in s) (named_in rest) _ e may h)

pub specify-returns-then-is_list : goal.specify-returns-then-is_list
specify-returns-then-is_list t c =
    let xs = list_of c.args.specifiers.now in
    let items = (out-Specifiers c.args.specifiers.now).items.items in
    let i = c.loop-specifier.specifier-index in
    let s = c.specifier-item.result in
    let rest = list_from (drop (i + 1) items) in
    let same = c.deref-specifier-items.ensures.value in
    let at = next items i s (rw same at c.loop-specifier-test.true) (rw same at c.specifier-item.is) in
    let may = rw c.deref.ensures.value at c.in_ok-may_stand.ensures.asked in
    let e = found_list xs (specifier_in s) rest (c.is_list.ensures [] ∙ c.if-is_list.true) (rw at at c.loop-specifier.invariant.0) in
    let h = rw c.loop-specifier.invariant.1 at (c.in_ok-ty.ensures (out-Specifiers c.args.specifiers.now).at (named_in rest) (keywords_in xs)) in
    typed_with (file_place_of c.args.file.now) _ (level_of c.args.level) (out-Specifiers c.args.specifiers.now).at xs (specifier_in s) (named_in rest) (type_of c.in_ok-ty.ty) _ e may h (rw c.deref-then-is_list.ensures.value at c.has_const.ensures)

pub specify-unlisted-requires : goal.specify-unlisted-requires
specify-unlisted-requires t c =
    let items = (out-Specifiers c.args.specifiers.now).items.items in
    let none = drop_all c.loop-specifier.specifier-index items (rw c.deref-specifier-items.ensures.value at c.loop-specifier-test.false) in
    rw c.deref-2.ensures.value (no_list_at_all (list_of c.args.specifiers.now) (rw none at c.loop-specifier.invariant.0))

pub specify-returns : goal.specify-returns
specify-returns t c =
    let may = rw c.deref.ensures.value at c.in_ok-may_stand.ensures.asked in
    let u = rw c.deref-2.ensures.value at (c.unlisted.ensures (level_of c.args.level)) in
    rw c.loop-specifier.invariant.1 at (u may)

pub listed-returns-in_err-number-in-Struct : goal.listed-returns-in_err-number-in-Struct
listed-returns-in_err-number-in-Struct t c = λ first ss ks.
    let p = err_from_is_err_and c.from_residual.result c.from_residual.ensures.1 in
    let a = c.args.specifier.now.at in
    rw (p.1, p.2, ap (specifier_of a) c.in-Struct.is ∙ struct_tree a c.in-Struct.tag c.in-Struct.written) (rw c.deref.ensures.value at (c.in_err-number-in-Struct.ensures first ss ks))

pub listed-returns-in_ok-number-in-Struct : goal.listed-returns-in_ok-number-in-Struct
listed-returns-in_ok-number-in-Struct t c = λ first ss ks.
    let a = c.args.specifier.now.at in
    rw (ap (specifier_of a) c.in-Struct.is ∙ struct_tree a c.in-Struct.tag c.in-Struct.written) (rw c.deref.ensures.value at (c.in_ok-number-in-Struct.ensures first ss ks))

pub listed-returns-in_err-enumeration-in-Enum : goal.listed-returns-in_err-enumeration-in-Enum
listed-returns-in_err-enumeration-in-Enum t c = λ first ss ks.
    let p = err_from_is_err_and c.from_residual-in_err-enumeration-in-Enum.result c.from_residual-in_err-enumeration-in-Enum.ensures.1 in
    let a = c.args.specifier.now.at in
    rw (p.1, p.2, ap (specifier_of a) c.in-Enum.is ∙ enum_tree a c.in-Enum.tag c.in-Enum.written) (rw c.deref-in-Enum.ensures.value at (c.in_err-enumeration-in-Enum.ensures first ss ks))

pub listed-returns-in_ok-enumeration-in-Enum : goal.listed-returns-in_ok-enumeration-in-Enum
listed-returns-in_ok-enumeration-in-Enum t c = λ first ss ks.
    let a = c.args.specifier.now.at in
    rw (ap (specifier_of a) c.in-Enum.is ∙ enum_tree a c.in-Enum.tag c.in-Enum.written) (rw c.deref-in-Enum.ensures.value at (c.in_ok-enumeration-in-Enum.ensures first ss ks))

pub structure-returns-in_err-fields : goal.structure-returns-in_err-fields
structure-returns-in_err-fields t c = λ first ss ks.
    let p = err_from_is_err_and c.from_residual-in_err-fields.result c.from_residual-in_err-fields.ensures.1 in
    rw (p.1, p.2) (members_broken (file_place_of c.args.file.now) c.args.at first (tag_of c.args.tag.now) (members_from c.args.written.now) ss _ (rw c.in_ok-begin.ensures at c.in_err-fields.ensures))

pub structure-returns-in_err-may_list : goal.structure-returns-in_err-may_list
structure-returns-in_err-may_list t c = λ first ss ks.
    let p = err_from_is_err_and c.from_residual-in_err-may_list.result c.from_residual-in_err-may_list.ensures.1 in
    let x = tag_of c.args.tag.now in
    let d = rw c.in_ok-begin.ensures at c.in_ok-fields.ensures in
    let r = rw c.deref.ensures.value at (c.in_err-may_list.ensures (file_place_of c.args.file.now) x c.where_it_stands-place.ensures) in
    rw (p.1, p.2) (list_refused (file_place_of c.args.file.now) _ c.args.at first x (members_from c.args.written.now) ss _ _ d.0 r)

pub structure-returns-in_err-struct_fits : goal.structure-returns-in_err-struct_fits
structure-returns-in_err-struct_fits t c = λ first ss ks.
    let p = err_from_is_err_and c.from_residual-in_err-struct_fits.result c.from_residual-in_err-struct_fits.ensures.1 in
    let x = tag_of c.args.tag.now in
    let d = rw c.in_ok-begin.ensures at c.in_ok-fields.ensures in
    let e = rw c.deref-2.ensures.value at c.in_ok-number.ensures in
    rw (p.1, p.2) (list_large (file_place_of c.args.file.now) _ _ _ c.args.at first _ x (members_from c.args.written.now) ss _ _ d.0 e (ap structs_of c.table.ensures) (rw c.deref-3.ensures.value at c.in_err-struct_fits.ensures))

pub structure-returns : goal.structure-returns
structure-returns t c = λ first ss ks.
    let x = tag_of c.args.tag.now in
    let d = rw c.in_ok-begin.ensures at c.in_ok-fields.ensures in
    let m = rw c.deref.ensures.value at (c.in_ok-may_list.ensures (file_place_of c.args.file.now) x c.where_it_stands-place.ensures) in
    list_done (file_place_of c.args.file.now) _ _ _ c.args.at first _ x (members_from c.args.written.now) ss ks _ d m (rw c.deref-2.ensures.value at c.in_ok-number.ensures) (ap structs_of c.table.ensures) (rw c.deref-3.ensures.value at c.in_ok-struct_fits.ensures)

pub members-loop-member-init : goal.members-loop-member-init
members-loop-member-init t c = rw c.new-fields.ensures.items (members_none _ _)

pub members-loop-member-preserved : goal.members-loop-member-preserved
members-loop-member-preserved t c =
    let at = next c.args.written.now c.loop-member.member-index c.member-item.result c.loop-member-test.true c.member-item.is in
    members_more _ _ at c.loop-member.invariant c.in_ok-with_member.ensures

pub members-returns-in_err-with_member : goal.members-returns-in_err-with_member
members-returns-in_err-with_member t c =
    let p = err_from_is_err_and c.from_residual.result c.from_residual.ensures.1 in
    let at = next c.args.written.now c.loop-member.member-index c.member-item.result c.loop-member-test.true c.member-item.is in
    rw (p.1, p.2) (members_fault _ _ at c.loop-member.invariant c.in_err-with_member.ensures)

pub members-returns : goal.members-returns
members-returns t c = members_all _ (drop_all c.loop-member.member-index c.args.written.now c.loop-member-test.false) c.loop-member.invariant

pub with_member-returns-in_err-q : goal.with_member-returns-in_err-q
with_member-returns-in_err-q t c = λ rest.
    let p = err_from_is_err_and c.from_residual.result c.from_residual.ensures.1 in
    rw (p.1, p.2) (member_unspecified (file_place_of c.args.file.now) c.args.member.now rest _ c.in_err-q.ensures)

pub with_member-returns : goal.with_member-returns
with_member-returns t c = λ rest.
    member_made (file_place_of c.args.file.now) _ _ c.args.member.now (qualified_of c.in_ok-q.q) rest _ _ c.with_fields.result c.in_ok-q.ensures (rw c.deref.ensures.value at c.with_fields.ensures)
