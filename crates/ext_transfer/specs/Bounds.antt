-- What holds of each transfer that a file says, whatever the file and the host.
use Rattle.std.specs.Prelude.{◌≢◌, ◌<◌, ◌≤◌, List, [], length, IfSome}
use Rattle.std.specs.List.{AllByRecursion}
use Rattle.ext_text.specs.Path.{path_text}
use Rattle.ext_vers.specs.Version.{IsVersion}
use Rattle.ext_pattern.specs.Pattern.{PatternView}
use Rattle.ext_transfer.specs.declared.transfer.Transfer.{Transfer}
use Rattle.ext_transfer.specs.Patterns.{most_patterns}

-- one pattern at least, and at most as many as a key has
abbrev pub AreKeyPatterns : List PatternView → Type 0
AreKeyPatterns patterns = (0 < length patterns) × (length patterns ≤ most_patterns)

-- the source leaves room below its path, source and target have patterns, two instances at least are kept and not too many, a
-- link is not the root, and what is named as a version is one
pub record KeepsBounds (transfer : Transfer) : Type 0 where
  pub source_names : length transfer.source.path ≤ 63
  pub source_bytes : length (path_text transfer.source.path) ≤ 3840
  pub source_patterns : AreKeyPatterns transfer.source.patterns
  pub target_patterns : AreKeyPatterns transfer.target.patterns
  pub least_instances : 2 ≤ transfer.instances
  pub most_instances : transfer.instances ≤ 1000000
  pub link : IfSome transfer.link (λ path. path ≢ [])
  pub min : IfSome transfer.min IsVersion
  pub protect : AllByRecursion IsVersion transfer.protect
