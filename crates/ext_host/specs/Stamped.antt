-- Trees whose files are known by their stamps alone.
use Rattle.std.specs.Prelude.{◌≡◌, ℕ, List, map}
use Rattle.std.specs.Option.{option_map}
use Rattle.ext_tree.specs.Tree.{Entries, lookup}
use Rattle.ext_tree.specs.declared.entry.Entry.{Entry}
use Rattle.ext_tree.specs.declared.entry.Entry.TheVariants.{Dir, Opaque, File, Link, Hide}
use Rattle.ext_tree.specs.declared.stamp.Stamp.{Stamp}
use Rattle.ext_host.specs.Held.{HeldFile}

-- the entry, a file with its stamp alone
abbrev pub stamped_entry : Entry HeldFile → Entry Stamp
stamped_entry (Dir attributes) = Dir attributes
stamped_entry (Opaque attributes) = Opaque attributes
stamped_entry (File attributes held) = File attributes held.stamp
stamped_entry (Link owner target) = Link owner target
stamped_entry Hide = Hide

-- entries with the stamps of their files alone
abbrev pub stamps : Entries HeldFile → Entries Stamp
stamps es = map (λ e. (e.0, stamped_entry e.1)) es

-- path by path: the same entries, with each file's stamp alone
abbrev pub AreStamps : Entries HeldFile → Entries Stamp → Type 0
AreStamps es copy = (path : List (List ℕ)) → lookup copy path ≡ option_map stamped_entry (lookup es path)
