-- What is wanted, by cases on what is answered.
use Rattle.std.proofs.Common.{Ok, Err}
use Rattle.std.specs.Prelude.{Result}
use Rattle.ext_port.specs.Wants.{BarMemory}
use Rattle.ext_port.specs.declared.attaching.Attach.{Attach}
use Rattle.ext_port.specs.declared.errors.PortErr.{PortErr}
use Rattle.ext_port.specs.declared.errors.PortErr.TheVariants as errors

-- what is wanted is wanted but for a lack of memory
pub bar_from : (P : Result Attach PortErr → Type 0) (r : Result Attach PortErr) → P r → BarMemory P r
bar_from P (Ok attach) is = is
bar_from P (Err errors.OutOfMemory) is = tt
bar_from P (Err errors.NoSuchImage) is = is
bar_from P (Err errors.AlreadyAttached) is = is
bar_from P (Err errors.NotAttached) is = is
bar_from P (Err errors.NotPortable) is = is
bar_from P (Err (errors.BadRelease line)) is = is
bar_from P (Err (errors.PrefixForbidden prefix)) is = is
bar_from P (Err errors.NoUnits) is = is
bar_from P (Err errors.NoProfile) is = is
bar_from P (Err (errors.ReadOnly path)) is = is
bar_from P (Err (errors.UnitExists path)) is = is
bar_from P (Err (errors.NotDirectory path)) is = is
bar_from P (Err (errors.Limit which)) is = is
bar_from P (Err (errors.Shelf e)) is = is

-- what follows from it is wanted too
pub bar_more : (P Q : Result Attach PortErr → Type 0) → ((r : Result Attach PortErr) → P r → Q r) → (r : Result Attach PortErr) → BarMemory P r → BarMemory Q r
bar_more P Q more (Ok attach) is = more (Ok attach) is
bar_more P Q more (Err errors.OutOfMemory) is = tt
bar_more P Q more (Err errors.NoSuchImage) is = more (Err errors.NoSuchImage) is
bar_more P Q more (Err errors.AlreadyAttached) is = more (Err errors.AlreadyAttached) is
bar_more P Q more (Err errors.NotAttached) is = more (Err errors.NotAttached) is
bar_more P Q more (Err errors.NotPortable) is = more (Err errors.NotPortable) is
bar_more P Q more (Err (errors.BadRelease line)) is = more (Err (errors.BadRelease line)) is
bar_more P Q more (Err (errors.PrefixForbidden prefix)) is = more (Err (errors.PrefixForbidden prefix)) is
bar_more P Q more (Err errors.NoUnits) is = more (Err errors.NoUnits) is
bar_more P Q more (Err errors.NoProfile) is = more (Err errors.NoProfile) is
bar_more P Q more (Err (errors.ReadOnly path)) is = more (Err (errors.ReadOnly path)) is
bar_more P Q more (Err (errors.UnitExists path)) is = more (Err (errors.UnitExists path)) is
bar_more P Q more (Err (errors.NotDirectory path)) is = more (Err (errors.NotDirectory path)) is
bar_more P Q more (Err (errors.Limit which)) is = more (Err (errors.Limit which)) is
bar_more P Q more (Err (errors.Shelf e)) is = more (Err (errors.Shelf e)) is
