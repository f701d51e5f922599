use Rattle.im_check_type_specifiers.proofs.specified.named_type.Goals as goal

pub returns-in-TypedefName : goal.returns-in-TypedefName
returns-in-TypedefName c = λ k ks. rw c.in-TypedefName.is (rw c.deref.ensures.value at (c.typedef_type.ensures k c.args.lists.now c.args.named.now.at ks))

pub returns-in-EnumTag : goal.returns-in-EnumTag
returns-in-EnumTag c = λ k ks. rw c.in-EnumTag.is (rw c.deref-in-EnumTag.ensures.value at (c.enum_type.ensures.typed k c.args.lists.now c.args.named.now.at ks))

pub returns-in-StructTag : goal.returns-in-StructTag
returns-in-StructTag c = λ k ks. rw c.in-StructTag.is (rw c.deref-in-StructTag.ensures.value at (c.struct_type.ensures k ks))
