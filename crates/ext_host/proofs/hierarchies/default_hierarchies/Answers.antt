use Rattle.ext_host.proofs.DefaultLemmas.{etc_name, opt_name, usr_name}
use Rattle.ext_host.proofs.hierarchies.default_hierarchies.Goals as goal

pub append_name-requires : goal.append_name-requires
append_name-requires c = opt_name

pub append_name-requires-in-Sysext : goal.append_name-requires-in-Sysext
append_name-requires-in-Sysext c = usr_name

pub append_name-requires-in-Confext : goal.append_name-requires-in-Confext
append_name-requires-in-Confext c = etc_name
