use Rattle.ext_sample.proofs.SampleLemmas.{host_more}
use Rattle.ext_sample.proofs.files.sample_host.Goals as goal

pub files-preserved : goal.files-preserved
files-preserved c = host_more c.files.number c.files.files.items c.push-in-files.new.self.items c.in_ok-host_file.field-0 c.files.invariant c.in_ok-host_file.ensures c.in_ok-push-2.ensures.items
