use Rattle.std.proofs.Common.{ℕ, List, subst, codes}
use Rattle.std.specs.Prelude.{OnOk}
use Rattle.ext_index.specs.Index.{merged_lines, record_lines, listed_tree_lines}
use Rattle.ext_index.proofs.PrintingLemmas.{five}
use Rattle.ext_index.proofs.printing.put_sections.Goals as goal

pub returns : goal.returns
returns g c = λ before held.
    let P : List ℕ → Type 0 = λ xs. OnOk c.put_tree-2.result (g.O.Out.holds c.put_tree-2.new.out xs) in
    let s = c.args.sections in
    subst P (five before (merged_lines (codes "sysext") s.sysext.now) (merged_lines (codes "confext") s.confext.now) (record_lines s.attached.now s.kept.now) (listed_tree_lines (codes "root") c.args.generation s.root.now) (listed_tree_lines (codes "lower") c.args.generation s.lower.now))
    (c.put_tree-2.ensures _ (c.in_ok-put_tree.ensures _ (c.in_ok-put_records.ensures _ (c.in_ok-put_merged-2.ensures _ (c.in_ok-put_merged.ensures before held)))))
