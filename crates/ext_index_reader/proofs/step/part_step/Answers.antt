use Rattle.ext_index_reader.proofs.StepLemmas.{in_part, in_part_ok}
use Rattle.ext_index_reader.proofs.step.part_step.Goals as goal

pub returns-in-Sysext : goal.returns-in-Sysext
returns-in-Sysext c = in_part c.args.generation c.args.so_far.now c.sysext_line.new.so_far c.args.part _ c.args.line.now c.sysext_line.result c.in-Sysext.is (c.sysext_line.ensures c.args.generation)

pub returns-in-SysextName : goal.returns-in-SysextName
returns-in-SysextName c = in_part_ok c.args.generation c.args.so_far.now c.sysext_name_line.new.so_far c.args.part _ c.args.line.now c.sysext_name_line.result c.in-SysextName.is (c.sysext_name_line.ensures c.args.generation)

pub returns-in-Confext : goal.returns-in-Confext
returns-in-Confext c = in_part c.args.generation c.args.so_far.now c.confext_line.new.so_far c.args.part _ c.args.line.now c.confext_line.result c.in-Confext.is (c.confext_line.ensures c.args.generation)

pub returns-in-ConfextName : goal.returns-in-ConfextName
returns-in-ConfextName c = in_part_ok c.args.generation c.args.so_far.now c.confext_name_line.new.so_far c.args.part _ c.args.line.now c.confext_name_line.result c.in-ConfextName.is (c.confext_name_line.ensures c.args.generation)

pub returns-in-Attached : goal.returns-in-Attached
returns-in-Attached c = in_part c.args.generation c.args.so_far.now c.args.so_far.now c.args.part _ c.args.line.now c.attached_line.result c.in-Attached.is (c.attached_line.ensures c.args.generation c.args.so_far.now)

pub returns-in-Attachment : goal.returns-in-Attachment
returns-in-Attachment c = in_part c.args.generation c.args.so_far.now c.args.so_far.now c.args.part _ c.args.line.now c.attachment_line.result c.in-Attachment.is (c.attachment_line.ensures c.args.generation c.args.so_far.now)

pub returns-in-Image : goal.returns-in-Image
returns-in-Image c = in_part_ok c.args.generation c.args.so_far.now c.args.so_far.now c.args.part _ c.args.line.now c.image_line.result c.in-Image.is (c.image_line.ensures c.args.generation)

pub returns-in-Place : goal.returns-in-Place
returns-in-Place c = in_part_ok c.args.generation c.args.so_far.now c.place_line.new.so_far c.args.part _ c.args.line.now c.place_line.result c.in-Place.is (c.place_line.ensures c.args.generation)

pub returns-in-Added : goal.returns-in-Added
returns-in-Added c = in_part_ok c.args.generation c.args.so_far.now c.added_line.new.so_far c.args.part _ c.args.line.now c.added_line.result c.in-Added.is (c.added_line.ensures c.args.generation)

pub returns-in-Kept : goal.returns-in-Kept
returns-in-Kept c = in_part c.args.generation c.args.so_far.now c.args.so_far.now c.args.part _ c.args.line.now c.kept_line.result c.in-Kept.is (c.kept_line.ensures c.args.generation c.args.so_far.now)

pub returns-in-Manifest : goal.returns-in-Manifest
returns-in-Manifest c = in_part_ok c.args.generation c.args.so_far.now c.manifest_line.new.so_far c.args.part _ c.args.line.now c.manifest_line.result c.in-Manifest.is (c.manifest_line.ensures c.args.generation)

pub returns-in-Item : goal.returns-in-Item
returns-in-Item c = in_part_ok c.args.generation c.args.so_far.now c.item_line.new.so_far c.args.part _ c.args.line.now c.item_line.result c.in-Item.is (c.item_line.ensures c.args.generation)

pub returns-in-Root : goal.returns-in-Root
returns-in-Root c = in_part_ok c.args.generation c.args.so_far.now c.root_line.new.so_far c.args.part _ c.args.line.now c.root_line.result c.in-Root.is (c.root_line.ensures c.args.generation)

pub returns-in-RootEntry : goal.returns-in-RootEntry
returns-in-RootEntry c = in_part_ok c.args.generation c.args.so_far.now c.root_entry_line.new.so_far c.args.part _ c.args.line.now c.root_entry_line.result c.in-RootEntry.is c.root_entry_line.ensures

pub returns-in-Lower : goal.returns-in-Lower
returns-in-Lower c = in_part_ok c.args.generation c.args.so_far.now c.lower_line.new.so_far c.args.part _ c.args.line.now c.lower_line.result c.in-Lower.is (c.lower_line.ensures c.args.generation)

pub returns-in-LowerEntry : goal.returns-in-LowerEntry
returns-in-LowerEntry c = in_part_ok c.args.generation c.args.so_far.now c.lower_entry_line.new.so_far c.args.part _ c.args.line.now c.lower_entry_line.result c.in-LowerEntry.is c.lower_entry_line.ensures
