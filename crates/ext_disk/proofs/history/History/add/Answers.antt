use Rattle.std.proofs.Common.{[], ◌∷◌, ◌++◌, ◌∙◌, ap, subst}
use Rattle.ext_disk.specs.DiskEntries.{IsGrown}
use Rattle.ext_disk.proofs.HistoryLemmas.{places_same, whole_add}
use Rattle.ext_disk.proofs.history.History.add.Goals as goal

pub apply-requires-clause-grown : goal.apply-requires-clause-grown
apply-requires-clause-grown c =
    let self = c.args.self.now in
    subst IsGrown (places_same self.disk_entries self.given.items self.deeds.items self.whole) self.whole.grown

pub invariant_of-self-2 : goal.invariant_of-self-2
invariant_of-self-2 c =
    let self = c.args.self.now in
    record {
      whole = whole_add self.disk_entries c.apply.new.disk_entries self.given.items self.deeds.items c.push_reserved.new.self.items c.args.deed self.whole c.requires c.in_ok-apply.ensures.ok
          (c.push_reserved.ensures.items ∙ ap (λ l. l ++ c.args.deed ∷ []) c.in_ok-reserve.ensures.items);
    }
