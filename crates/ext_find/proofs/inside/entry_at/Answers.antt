use Rattle.std.proofs.Common.{rules, refl, sym, length}
use Rattle.std.proofs.lemmas.Option.{slice_get_read, slice_get_past}
use Rattle.std.proofs.lemmas.Bool.{ltb-false}
use Rattle.ext_find.specs.Inside.{borrowed}
use Rattle.ext_find.proofs.InsideLemmas.{seen_hit, seen_missed, seen_past}
use Rattle.ext_find.proofs.inside.entry_at.Goals as goal
use Rattle.ext_find.proofs.inside.entry_at.Goals.{in_default-via-in-Some+else-is_eq, in_default-via-in_default}

pub returns-in-Some : goal.returns-in-Some
returns-in-Some g c =
    let read = c.in-Some.ensures.lookup in
    let at = slice_get_read c.args.entries.now (length c.args.entries.now) c.args.index c.in-Some.entry.now refl read.3.0 read.1 in
    seen_hit c.args.depth (borrowed c.args.names.now) c.args.entries.now c.requires.sorted c.args.index c.in-Some.entry.now c.requires.index at (search rules)

pub returns-in_default : goal.returns-in_default
returns-in_default g c = elim c.in_default.branch [
  | in_default-via-in-Some+else-is_eq w ↦
      let read = w.in-Some.ensures.lookup in
      let at = slice_get_read c.args.entries.now (length c.args.entries.now) c.args.index w.in-Some.entry.now refl read.3.0 read.1 in
      seen_missed c.args.depth (borrowed c.args.names.now) c.args.entries.now c.requires.sorted c.args.index w.in-Some.entry.now c.requires.index at (search rules)
  | in_default-via-in_default w ↦
      seen_past c.args.depth (borrowed c.args.names.now) c.args.entries.now c.requires.sorted c.args.index c.requires.index (slice_get_past c.args.entries.now c.args.index (ltb-false _ _ (sym w.in_default.ensures.lookup.0)))
]
