-- What reading an index gives: the host and the number of the text, or the first faulty line.
use Rattle.std.specs.Prelude.{ℕ, List, Result, Ok, Err}
use Rattle.ext_host.specs.declared.host.Host.{Host}
use Rattle.ext_index_reader.specs.declared.err.IndexErr.{IndexErr}
use Rattle.ext_index_reader.specs.declared.err.IndexErr.TheVariants.{OutOfMemory, Broken}
use Rattle.ext_index.specs.Faulty.{IsFaulty}
use Rattle.ext_index.specs.ValidIndex.{GivesIndex}

-- what reading an index gives: the host and the number of the text, or the first faulty line
abbrev pub ReadsIndex : ℕ → List ℕ → Result (Host × ℕ) IndexErr → Type 0
ReadsIndex g bytes (Ok given) = GivesIndex g bytes given
ReadsIndex g bytes (Err OutOfMemory) = Unit {0}
ReadsIndex g bytes (Err (Broken line)) = IsFaulty g bytes line
