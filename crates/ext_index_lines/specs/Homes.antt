-- Homes of held files. A file is kept at a home; one that is not takes a home in the coming generation.
use Rattle.std.specs.Prelude.{ℕ, List}
use Rattle.ext_tree.specs.declared.entry.Entry.{Entry}
use Rattle.ext_tree.specs.declared.entry.Entry.TheVariants.{Dir, Opaque, File, Link, Hide}
use Rattle.ext_host.specs.Held.{HeldFile}
use Rattle.ext_host.specs.declared.home.Home.{Home}
use Rattle.ext_host.specs.declared.body.Body.{Body}
use Rattle.ext_host.specs.declared.body.Body.TheVariants.{Here, Kept, Depot}
use Rattle.ext_index_lines.specs.Homed.{homed_line}
use Rattle.ext_index_lines.specs.declared.homed.Homed.{Homed}

-- Where the body stands, or a home in this generation. Which number the file takes there does not matter to the length of its
-- line: a number of a file has five digits.
abbrev pub home_of : ℕ → Body → Home
home_of generation (Here bytes) = record { generation = generation; file = 0 }
home_of generation (Kept home) = home
home_of generation (Depot path) = record { generation = generation; file = 0 }

-- what an index of the generation holds of a file
abbrev pub listed_file : ℕ → HeldFile → Homed
listed_file generation held = record { stamp = held.stamp; home = home_of generation held.body }

-- an entry as an index lists it
abbrev pub listed_entry : ℕ → Entry HeldFile → Entry Homed
listed_entry generation (Dir attributes) = Dir attributes
listed_entry generation (Opaque attributes) = Opaque attributes
listed_entry generation (File attributes held) = File attributes (listed_file generation held)
listed_entry generation (Link owner target) = Link owner target
listed_entry generation Hide = Hide

-- a file that an index lists, as a held one
abbrev pub kept_file : Homed → HeldFile
kept_file file = record { stamp = file.stamp; body = Kept file.home }

-- the entry of a line of an index, as a host has it
abbrev pub kept_entry : Entry Homed → Entry HeldFile
kept_entry (Dir attributes) = Dir attributes
kept_entry (Opaque attributes) = Opaque attributes
kept_entry (File attributes file) = File attributes (kept_file file)
kept_entry (Link owner target) = Link owner target
kept_entry Hide = Hide

-- the line of a host's entry in an index, without its newline
abbrev pub line_of_entry : ℕ → List (List ℕ) × Entry HeldFile → List ℕ
line_of_entry generation x = homed_line (x.0, listed_entry generation x.1)
