use Rattle.ext_index.specs.ValidIndex.{IsWellFormedAttachment}
use Rattle.ext_gen.proofs.PreparingListLemmas.{each_more, each_whole}
use Rattle.ext_gen.proofs.preparing.forms.look_at_attachments.Goals as goal

pub attachments-preserved : goal.attachments-preserved
attachments-preserved c = each_more IsWellFormedAttachment c.args.attached.now c.attachments.attachment-index c.attachment-item.result c.attachments-test.true c.attachment-item.is c.attachments.invariant c.look_at_attachment.ensures

pub returns : goal.returns
returns c = each_whole IsWellFormedAttachment c.args.attached.now c.attachments.attachment-index c.attachments-test.false c.attachments.invariant
