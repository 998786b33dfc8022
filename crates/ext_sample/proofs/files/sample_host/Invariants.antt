use Rattle.std.proofs.Common.{◌≡◌}
use Rattle.ext_sample.proofs.SampleLemmas.{host_so_far}
use Rattle.ext_sample.proofs.files.sample_host.Given as goal

abbrev pub invariant-files : goal.invariant-files
invariant-files l = l.files.items ≡ host_so_far l.number
