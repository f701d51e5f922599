use Rattle.im_check_locals.proofs.tag.tag_alone.Goals as goal

pub returns : goal.returns
returns c = rw (c.deref.ensures.value, c.deref-2.ensures.value) at c.lone_tag.ensures
