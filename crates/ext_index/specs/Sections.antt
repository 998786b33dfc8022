-- The parts of a host, or of a past tree, that are borrowed for printing.
use Rattle.ext_host.specs.Host.{HostTree}
use Rattle.ext_index.specs.declared.sections.Sections.{Sections}

-- the tree that sections are of
abbrev pub listed : Sections → HostTree
listed s = record { root = s.root.now; lower = s.lower.now; sysext = s.sysext.now; confext = s.confext.now; attached = s.attached.now; kept = s.kept.now }
