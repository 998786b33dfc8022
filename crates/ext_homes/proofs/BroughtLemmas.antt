-- The files that a change brings.
use Rattle.std.proofs.Common.{◌^◌, ◌<◌, ◌++◌, arith}
use Rattle.ext_text.proofs.ForCallers.{all_append, all_weaker}
use Rattle.ext_tree.specs.EntryLine.{IsWritable}
use Rattle.ext_tree.specs.declared.entry.Entry.{Entry}
use Rattle.ext_tree.specs.declared.entry.Entry.TheVariants.{Dir, Opaque, File, Link, Hide}
use Rattle.ext_host.specs.Held.{HeldFile}
use Rattle.ext_host.specs.Host.{HostTree}
use Rattle.ext_host.specs.Valid.{IsWithinLimits, bytes_of, held_form}
use Rattle.ext_homes.specs.Brought.{AreSmall}

small : (e : Entry HeldFile) → IsWritable held_form e → bytes_of e < 2 ^ 63
small (Dir attributes) is = omega arith
small (Opaque attributes) is = omega arith
small (File attributes held) is = let size = is.1.size in omega arith
small (Link owner target) is = omega arith
small Hide is = omega arith

-- the files of a tree within the limits are small enough to be brought
pub limits_small : (tree : HostTree) → IsWithinLimits tree → AreSmall (tree.root ++ tree.lower)
limits_small tree limits =
    all_append (λ e. bytes_of e.1 < 2 ^ 63) tree.root tree.lower
    (all_weaker (λ e. IsWritable held_form e.1) (λ e. bytes_of e.1 < 2 ^ 63) (λ e. small e.1) tree.root limits.root)
    (all_weaker (λ e. IsWritable held_form e.1) (λ e. bytes_of e.1 < 2 ^ 63) (λ e. small e.1) tree.lower limits.lower)
