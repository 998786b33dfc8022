use Rattle.std.proofs.Common.{ℕ, List, ◌++◌, take}
use Rattle.std.specs.List.{flat_map}
use Rattle.ext_lines.specs.Lines.{lines_text}
use Rattle.ext_index.specs.Index.{manifest_lines}
use Rattle.ext_index.proofs.printing.put_manifests.Given as goal

abbrev pub invariant-manifests : goal.invariant-manifests
invariant-manifests g l = (before : List ℕ) → g.O.Out.holds l.fn.out before → g.O.Out.holds l.out (before ++ lines_text (flat_map (manifest_lines) (take l.manifest-index l.kept)))
