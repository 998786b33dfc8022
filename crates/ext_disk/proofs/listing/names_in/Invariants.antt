use Rattle.std.proofs.Common.{◌≡◌, ◌++◌, ◌∷◌, []}
use Rattle.std.specs.List.{AllByRecursion}
use Rattle.ext_text.specs.Path.{IsPath}
use Rattle.ext_disk.proofs.ListingLemmas.{names_of}
use Rattle.ext_disk.proofs.listing.names_in.Given as goal

-- the names so far, and those of the entries that are left, are all of them
abbrev pub invariant-disk_entries : goal.invariant-disk_entries
invariant-disk_entries l =
    (l.names ++ names_of l.dir l.path-iterator ≡ names_of l.dir l.disk_entries.entries)
    × AllByRecursion (λ n. IsPath (l.dir ++ n ∷ [])) l.names
