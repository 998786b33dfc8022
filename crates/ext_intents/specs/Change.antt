-- What changes at a path have in common: the tree that is seen changes, and the manifests that are related to the path go.
use Rattle.std.specs.Prelude.{ℕ, List}
use Rattle.ext_tree.specs.Tree.{Entries}
use Rattle.ext_host.specs.Held.{HeldFile}
use Rattle.ext_host.specs.Touch.{untouched}
use Rattle.ext_host.specs.declared.host.Host.{Host}

-- the host with another tree that is seen, without the manifests that are related to the path
abbrev pub changed_at : Host → List (List ℕ) → Entries HeldFile → Host
changed_at host path root = record host { root = root; kept = untouched path host.kept }
