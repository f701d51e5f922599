use Rattle.im_cmd_lines.specs.Refusals.{refused_of}
use Rattle.im_cmd.specs.Upgrades.{upgrade_unread, upgrade_unwritten}
use Rattle.im_cmd.proofs.Upgrades.{content_refused}
use Rattle.im_cmd.proofs.upgrading.upgrade_file.Goals as goal

pub returns-in-Ok-store : goal.returns-in-Ok-store
returns-in-Ok-store g c = record {
  text = c.in-Ok.text.items;
  read = _;
  reads = c.in-Ok.ensures;
  new_text = c.in-Ok-upgraded_text.upgraded.text.items;
  is_upgraded = rw c.deref.ensures.value at c.in-Ok-upgraded_text.ensures;
  stores = record { counts = c.in-Ok-store.ensures.counts; files = rw c.deref-2.ensures.value at c.in-Ok-store.ensures.told };
}

pub returns-in-Err : goal.returns-in-Err
returns-in-Err g c = upgrade_unread (refused_of c.in-Err.refusal) c.in-Err.ensures

pub returns-in-Err-upgraded_text : goal.returns-in-Err-upgraded_text
returns-in-Err-upgraded_text g c =
    content_refused c.args.old.now c.args.new.now c.in-Ok.text.items _ _ c.in-Ok.ensures (refused_of c.in-Err-upgraded_text.refusal) (rw c.deref.ensures.value at c.in-Err-upgraded_text.ensures)

pub returns : goal.returns
returns g c =
    upgrade_unwritten c.in-Ok.text.items c.in-Ok-upgraded_text.upgraded.text.items _ _ c.in-Ok.ensures (rw c.deref.ensures.value at c.in-Ok-upgraded_text.ensures)
    (record { counts = c.in-Err-store.ensures.counts; files = rw c.deref-2.ensures.value at c.in-Err-store.ensures.told })
