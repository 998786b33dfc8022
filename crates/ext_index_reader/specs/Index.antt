-- The index of a generation, this project's own format, by printing. Text 2:
--
--     hostext-store 2
--     host ARCH SCOPE
--     hierarchies K
--     h CLASS NAME        K lines: of sysext, then of confext
--     SECTIONS            the host's own
--     past K              then K records:
--     g GENERATION
--     SECTIONS            of a past tree
--     end
--
-- SECTIONS are:
--
--     sysext K            where system extensions are merged, then K lines
--     n NAME
--     confext K           where configuration extensions are merged, then K lines
--     n NAME
--     attached K          then K records:
--     a WHERE COUNT
--     i NAME
--     s PATH
--     p PATH              COUNT lines
--     kept K              then K records:
--     k COUNT PATH
--     m HEX PATH          COUNT lines
--     root K              then K lines of entries
--     lower K             then K lines of entries
--
-- Text 3 begins with `hostext-store 3` and is else text 2; lines of entries that tell an owner or a capability stand in it
-- alone. Text 1 has no hierarchies and no past trees: its sections follow the line `host`, and `end` follows them.
use Rattle.std.specs.Prelude.{ℕ, ◌+◌, Bool, List, [], ◌∷◌, ◌++◌, length, map, codes, Option, Some, None}
use Rattle.std.specs.List.{flat_map}
use Rattle.ext_lines.specs.Lines.{lines_text}
use Rattle.ext_text.specs.declared.extension.Extension.TheVariants.{Sysext, Confext}
use Rattle.ext_tree.specs.Tree.{Entries}
use Rattle.ext_host.specs.Held.{HeldFile}
use Rattle.ext_host.specs.Host.{HostTree, past_tree, present}
use Rattle.ext_host.specs.declared.attachment.Attachment.{Attachment}
use Rattle.ext_host.specs.declared.manifest.Item.{Item}
use Rattle.ext_host.specs.declared.manifest.Manifest.{Manifest}
use Rattle.ext_host.specs.declared.past.Past.{Past}
use Rattle.ext_host.specs.declared.host.Host.{Host}
use Rattle.ext_index_lines.specs.Homes.{line_of_entry}
use Rattle.ext_index_lines.specs.declared.text_number.TextNumber.{TextNumber}
use Rattle.ext_index_lines.specs.declared.text_number.TextNumber.TheVariants.{One, Later}
use Rattle.ext_index_lines.specs.Lines.{attachment_line, header_line, hierarchy_line, host_line, item_line, manifest_line, number_line, path_line, worded}

-- the merged names of a class, or nothing
abbrev pub merged_lines : List ℕ → Option (List (List ℕ)) → List (List ℕ)
merged_lines word None = []
merged_lines word (Some names) = number_line word (length names) ∷ map (worded (codes "n")) names

-- the lines of an attachment: its own, and those of what was added
abbrev pub attachment_lines : Attachment → List (List ℕ)
attachment_lines a =
    attachment_line a.runtime (length a.added) ∷ worded (codes "i") a.name ∷ path_line (codes "s") a.place ∷ map (path_line (codes "p")) a.added

-- the line of an item of a manifest
abbrev pub line_of_item : Item → List ℕ
line_of_item item = item_line item.digest.0 item.path

-- the lines of a manifest: its own, and those of its items
abbrev pub manifest_lines : Manifest → List (List ℕ)
manifest_lines m = manifest_line (length m.items) m.path ∷ map line_of_item m.items

-- the entries of a tree; a file that is not kept is listed in this generation
abbrev pub listed_tree_lines : List ℕ → ℕ → Entries HeldFile → List (List ℕ)
listed_tree_lines word generation es = number_line word (length es) ∷ map (line_of_entry generation) es

-- attachments and kept manifests
abbrev pub record_lines : List Attachment → List Manifest → List (List ℕ)
record_lines attached kept =
    number_line (codes "attached") (length attached) ∷ (flat_map attachment_lines attached
    ++ (number_line (codes "kept") (length kept) ∷ flat_map manifest_lines kept))

-- the lines of a tree: what is merged, attached and left by updates, and both trees
abbrev pub section_lines : ℕ → HostTree → List (List ℕ)
section_lines generation s =
    merged_lines (codes "sysext") s.sysext
    ++ (merged_lines (codes "confext") s.confext
    ++ (record_lines s.attached s.kept
    ++ (listed_tree_lines (codes "root") generation s.root
    ++ listed_tree_lines (codes "lower") generation s.lower)))

-- the lines of the hierarchies, after their number
abbrev pub hierarchy_lines : Host → List (List ℕ)
hierarchy_lines host =
    number_line (codes "hierarchies") (length host.sysext_hier + length host.confext_hier)
    ∷ (map (hierarchy_line Sysext) host.sysext_hier ++ map (hierarchy_line Confext) host.confext_hier)

-- the lines of a past tree, after its generation
abbrev pub past_lines : ℕ → Past → List (List ℕ)
past_lines generation past = number_line (codes "g") past.generation ∷ section_lines generation (past_tree past)

-- the first line, and those of the machine
abbrev pub machine_lines : Bool → Host → List (List ℕ)
machine_lines owners host = header_line (Later owners) ∷ host_line host.arch host.scope ∷ hierarchy_lines host

-- the lines of text 1
abbrev pub lines_1 : ℕ → Host → List (List ℕ)
lines_1 generation host = header_line One ∷ host_line host.arch host.scope ∷ (section_lines generation (present host) ++ codes "end" ∷ [])

-- the lines of text 2, or of text 3
abbrev pub lines_2 : Bool → ℕ → Host → List (List ℕ)
lines_2 owners generation host =
    machine_lines owners host
    ++ (section_lines generation (present host)
    ++ (number_line (codes "past") (length host.past) ∷ (flat_map (past_lines generation) host.past ++ codes "end" ∷ [])))

-- the lines of an index, as one of the texts
abbrev pub index_lines : TextNumber → ℕ → Host → List (List ℕ)
index_lines One generation host = lines_1 generation host
index_lines (Later owners) generation host = lines_2 owners generation host

-- the index of a host in a generation, as one of the texts
abbrev pub index_text : TextNumber → ℕ → Host → List ℕ
index_text text generation host = lines_text (index_lines text generation host)
