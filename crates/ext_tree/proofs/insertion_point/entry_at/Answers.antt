use Rattle.std.proofs.Common.{rules, refl, sym, length}
use Rattle.std.proofs.lemmas.Option.{slice_get_read, slice_get_past}
use Rattle.std.proofs.lemmas.Bool.{ltb-false}
use Rattle.ext_text.specs.Order.{paths_total}
use Rattle.ext_text.specs.Path.{path_cmp}
use Rattle.ext_tree.proofs.InsertionPointLemmas.{hit, missed, past_end}
use Rattle.ext_tree.proofs.insertion_point.entry_at.Goals as goal
use Rattle.ext_tree.proofs.insertion_point.entry_at.Goals.{in_default-via-in-Some+else-is_eq, in_default-via-in_default}

pub returns-in-Some : goal.returns-in-Some
returns-in-Some g c =
    let read = c.in-Some.ensures.lookup in
    let at = slice_get_read c.args.entries.now (length c.args.entries.now) c.args.index c.in-Some.field-0.now refl read.3.0 read.1 in
    hit path_cmp paths_total c.args.names.now c.args.entries.now c.args.index c.in-Some.field-0.now c.requires.sorted c.requires.index at (search rules)

pub returns-in_default : goal.returns-in_default
returns-in_default g c = elim c.in_default.branch [
  | in_default-via-in-Some+else-is_eq w ↦
      let read = w.in-Some.ensures.lookup in
      let at = slice_get_read c.args.entries.now (length c.args.entries.now) c.args.index w.in-Some.field-0.now refl read.3.0 read.1 in
      missed path_cmp paths_total c.args.names.now c.args.entries.now c.args.index w.in-Some.field-0.now c.requires.sorted c.requires.index at (search rules)
  | in_default-via-in_default w ↦
      past_end path_cmp paths_total c.args.names.now c.args.entries.now c.args.index c.requires.sorted c.requires.index (slice_get_past c.args.entries.now c.args.index (ltb-false _ _ (sym w.in_default.ensures.lookup.0)))
]
