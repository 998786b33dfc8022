-- The entries of a listed host as the rows of its index: each has a line, its file is kept up to the generation, and the homes
-- that are noted are those of the host's files, so that no two differ in their stamps.
use Rattle.std.proofs.Common.{◌≡◌, ℕ, zero, suc, ◌<◌, ◌≤◌, List, [], ◌∷◌, length, Some, None, refl, sym, ap, ◌∙◌, arith}
use Rattle.std.specs.Prelude.{Contains, is_some, map, slice_get}
use Rattle.std.proofs.lemmas.Bool.{false≢true}
use Rattle.std.specs.List.{AllByRecursion}
use Rattle.ext_text.specs.Order.{paths_total}
use Rattle.ext_text.specs.Path.{IsPath, path_cmp}
use Rattle.ext_tree.specs.EntryLine.{IsWritable}
use Rattle.ext_tree.specs.Tree.{Entries, IsTree, lookup}
use Rattle.ext_tree.specs.declared.entry.Entry.{Entry}
use Rattle.ext_tree.specs.declared.entry.Entry.TheVariants.{Dir, Opaque, File, Link, Hide}
use Rattle.ext_tree.specs.declared.stamp.Stamp.{Stamp}
use Rattle.ext_tree.proofs.ForCallers.{find_there}
use Rattle.ext_host.specs.Drawn.{IsFileOf}
use Rattle.ext_host.specs.Held.{HeldFile}
use Rattle.ext_host.specs.Valid.{AreInRange, held_form}
use Rattle.ext_host.specs.declared.body.Body.{Body}
use Rattle.ext_host.specs.declared.body.Body.TheVariants.{Here, Kept, Depot}
use Rattle.ext_host.specs.declared.home.Home.{Home}
use Rattle.ext_index_lines.specs.Homed.{HasHomedLine, homed_form}
use Rattle.ext_index_lines.specs.Homes.{home_of, kept_entry, listed_entry, listed_file}
use Rattle.ext_index_lines.specs.declared.homed.Homed.{Homed}
use Rattle.ext_index_reader.specs.Listed.{IsHomeUpTo, IsKeptUpTo}
use Rattle.ext_index_reader.specs.Homes.{Agrees, IsOrNone, Stamps, noted, noted_file, stamp_at}
use Rattle.ext_index_reader.specs.Step.{IsUpTo}
use Rattle.ext_index_reader.proofs.RowLemmas.{AllAgree, Row, noted_all, rows_of}
use Rattle.ext_index_reader.proofs.StampLemmas.{noted_other, noted_same, same_or_other}

-- an entry of a tree as its line has it
abbrev pub listed_row : ℕ → List (List ℕ) × Entry HeldFile → Row
listed_row g x = (x.0, listed_entry g x.1)

abbrev pub listed_rows : ℕ → Entries HeldFile → List Row
listed_rows g es = map (listed_row g) es

-- an entry's file is one of these trees, and kept up to this generation
abbrev pub FileIn : ℕ → List (Entries HeldFile) → Entry HeldFile → Type 0
FileIn g trees (Dir attributes) = Unit {0}
FileIn g trees (Opaque attributes) = Unit {0}
FileIn g trees (File attributes held) = IsKeptUpTo g held.body × IsFileOf trees held
FileIn g trees (Link owner target) = Unit {0}
FileIn g trees Hide = Unit {0}

kept_body : (g : ℕ) (body : Body) → IsKeptUpTo g body → Kept (home_of g body) ≡ body
kept_body g (Here bytes) kept = absurd kept
kept_body g (Kept home) kept = refl
kept_body g (Depot path) kept = absurd kept

kept_home : (g : ℕ) (body : Body) → IsKeptUpTo g body → IsHomeUpTo g (home_of g body)
kept_home g (Here bytes) kept = absurd kept
kept_home g (Kept home) kept = kept
kept_home g (Depot path) kept = absurd kept

-- as its line has it, it is the entry again
row_back : (g : ℕ) (trees : List (Entries HeldFile)) (e : Entry HeldFile) → FileIn g trees e → kept_entry (listed_entry g e) ≡ e
row_back g trees (Dir attributes) is = refl
row_back g trees (Opaque attributes) is = refl
row_back g trees (File attributes held) is = λ i. File attributes (record { stamp = held.stamp; body = kept_body g held.body is.0 i })
row_back g trees (Link owner target) is = refl
row_back g trees Hide is = refl

pub rows_back : (g : ℕ) (trees : List (Entries HeldFile)) (es : Entries HeldFile) → AllByRecursion (λ x. FileIn g trees x.1) es → rows_of (listed_rows g es) ≡ es
rows_back g trees [] all = refl
rows_back g trees (x ∷ es) all = λ i. (x.0, row_back g trees x.1 all.0 i) ∷ rows_back g trees es all.1 i

writable_back : (g : ℕ) (trees : List (Entries HeldFile)) (e : Entry HeldFile) → g ≤ 4294967295 → FileIn g trees e → IsWritable held_form e → IsWritable homed_form (listed_entry g e)
writable_back g trees (Dir attributes) last is writable = writable
writable_back g trees (Opaque attributes) last is writable = writable
writable_back g trees (File attributes held) last is writable =
    let home = kept_home g held.body is.0 in
    let until = home.last in
    (writable.0, record { stamp = writable.1; home = record { first = home.first; last = omega arith; file = home.file } })
writable_back g trees (Link owner target) last is writable = writable
writable_back g trees Hide last is writable = tt

up_to_back : (g : ℕ) (trees : List (Entries HeldFile)) (e : Entry HeldFile) → FileIn g trees e → IsUpTo g (listed_entry g e)
up_to_back g trees (Dir attributes) is = tt
up_to_back g trees (Opaque attributes) is = tt
up_to_back g trees (File attributes held) is = (kept_home g held.body is.0).last
up_to_back g trees (Link owner target) is = tt
up_to_back g trees Hide is = tt

-- what a tree says of each of its entries
record StandsIn (whole : Entries HeldFile) (x : List (List ℕ) × Entry HeldFile) : Type 0 where
  path : IsPath x.0
  non_empty : 0 < length x.0
  stands : lookup whole x.0 ≡ Some x.1

below_root : (whole : Entries HeldFile) (path : List (List ℕ)) (e : Entry HeldFile) → lookup whole [] ≡ None → lookup whole path ≡ Some e → 0 < length path
below_root whole [] e root stands = absurd (false≢true (sym (ap is_some root) ∙ ap is_some stands))
below_root whole (n ∷ path) e root stands = omega arith

by_index : {X : Type 0} (P : X → Type 0) (xs : List X) → ((i : ℕ) (x : X) → slice_get xs i ≡ Some x → P x) → AllByRecursion P xs
by_index P [] holds = tt
by_index P (x ∷ xs) holds = (holds zero x refl, by_index P xs (λ i y at. holds (suc i) y at))

stand_all : (es : Entries HeldFile) → IsTree es → AllByRecursion (StandsIn es) es
stand_all es tree =
    by_index (StandsIn es) es (λ i x at.
    let stands = find_there path_cmp paths_total es i x tree.sorted at in
    record { path = tree.paths x.0 (ap is_some stands); non_empty = below_root es x.0 x.1 tree.root stands; stands = stands })

lines_back : (g : ℕ) (trees : List (Entries HeldFile)) (whole es : Entries HeldFile) → g ≤ 4294967295 → AllByRecursion (StandsIn whole) es → AllByRecursion (λ x. FileIn g trees x.1) es → AreInRange es → AllByRecursion HasHomedLine (listed_rows g es)
lines_back g trees whole [] last stand all range = tt
lines_back g trees whole (x ∷ es) last stand all range =
    (record { path = stand.0.path; non_empty = stand.0.non_empty; writable = writable_back g trees x.1 last all.0 range.0 }, lines_back g trees whole es last stand.1 all.1 range.1)

pub rows_have_lines : (g : ℕ) (trees : List (Entries HeldFile)) (es : Entries HeldFile) → g ≤ 4294967295 → IsTree es → AllByRecursion (λ x. FileIn g trees x.1) es → AreInRange es → AllByRecursion HasHomedLine (listed_rows g es)
rows_have_lines g trees es last tree all range = lines_back g trees es es last (stand_all es tree) all range

-- each file of one of the trees is one of theirs
file_in : (g : ℕ) (trees : List (Entries HeldFile)) (es : Entries HeldFile) (path : List (List ℕ)) (e : Entry HeldFile) → ((held : HeldFile) → IsFileOf trees held → IsKeptUpTo g held.body) → Contains trees es → lookup es path ≡ Some e → FileIn g trees e
file_in g trees es path (Dir attributes) kept among stands = tt
file_in g trees es path (Opaque attributes) kept among stands = tt
file_in g trees es path (File attributes held) kept among stands =
    let is : IsFileOf trees held = record { tree = es; among = among; file = record { path = path; attributes = attributes; stands = stands } } in
    (kept held is, is)
file_in g trees es path (Link owner target) kept among stands = tt
file_in g trees es path Hide kept among stands = tt

files_each : (g : ℕ) (trees : List (Entries HeldFile)) (whole es : Entries HeldFile) → ((held : HeldFile) → IsFileOf trees held → IsKeptUpTo g held.body) → Contains trees whole → AllByRecursion (StandsIn whole) es → AllByRecursion (λ x. FileIn g trees x.1) es
files_each g trees whole [] kept among stand = tt
files_each g trees whole (x ∷ es) kept among stand = (file_in g trees whole x.0 x.1 kept among stand.0.stands, files_each g trees whole es kept among stand.1)

pub files_in_tree : (g : ℕ) (trees : List (Entries HeldFile)) (es : Entries HeldFile) → ((held : HeldFile) → IsFileOf trees held → IsKeptUpTo g held.body) → Contains trees es → IsTree es → AllByRecursion (λ x. FileIn g trees x.1) es
files_in_tree g trees es kept among tree = files_each g trees es es kept among (stand_all es tree)

-- each stamp that is noted is that of a file of these trees at this home
abbrev pub AreOfFiles : List (Entries HeldFile) → Stamps → Type 0
AreOfFiles trees stamps = (home : Home) (stamp : Stamp) → stamp_at stamps home ≡ Some stamp → (held : HeldFile) × IsFileOf trees held × (held.body ≡ Kept home) × (held.stamp ≡ stamp)

-- files of one home have one stamp
abbrev pub AgreeIn : List (Entries HeldFile) → Type 0
AgreeIn trees = (a b : HeldFile) (home : Home) → IsFileOf trees a → IsFileOf trees b → a.body ≡ Kept home → b.body ≡ Kept home → a.stamp ≡ b.stamp

pub none_noted : (trees : List (Entries HeldFile)) → AreOfFiles trees []
none_noted trees home stamp found = absurd (let wrong : None ≡ Some stamp = found in cc)

some_same : (a b : Stamp) → Some a ≡ Some b → a ≡ b
some_same a b e = let same : Some a ≡ Some b = e in cc

module _ (g : ℕ) (trees : List (Entries HeldFile)) (agree : AgreeIn trees) where
  -- a file of theirs agrees with what is noted
  file_agrees : (stamps : Stamps) (held : HeldFile) (home : Home) → AreOfFiles trees stamps → IsFileOf trees held → held.body ≡ Kept home → IsOrNone (stamp_at stamps home) held.stamp
  file_agrees stamps held home of is body =
      elim (stamp_at stamps home) as (λ found. stamp_at stamps home ≡ found → IsOrNone found held.stamp) [
        | None ↦ λ _. tt
        | Some stamp ↦ λ found. let other = of home stamp found in sym other.3 ∙ agree other.0 held home other.1 is other.2 body
      ] refl

  -- and may be noted
  file_noted : (stamps : Stamps) (file : Homed) (held : HeldFile) → AreOfFiles trees stamps → IsFileOf trees held → held.body ≡ Kept file.home → held.stamp ≡ file.stamp → AreOfFiles trees (noted_file stamps file)
  file_noted stamps file held of is body same home stamp found =
      same_or_other home file.home ((other : HeldFile) × IsFileOf trees other × (other.body ≡ Kept home) × (other.stamp ≡ stamp))
      (λ here. (held, is, body ∙ ap Kept (sym here), same ∙ some_same file.stamp stamp (sym (noted_same stamps file) ∙ ap (stamp_at (noted_file stamps file)) (sym here) ∙ found)))
      (λ there. of home stamp (sym (noted_other stamps file home there) ∙ found))

  entry_agrees : (stamps : Stamps) (e : Entry HeldFile) → AreOfFiles trees stamps → FileIn g trees e → Agrees stamps (listed_entry g e) × AreOfFiles trees (noted stamps (listed_entry g e))
  entry_agrees stamps (Dir attributes) of is = (tt, of)
  entry_agrees stamps (Opaque attributes) of is = (tt, of)
  entry_agrees stamps (File attributes held) of is =
      let body = sym (kept_body g held.body is.0) in
      (file_agrees stamps held (home_of g held.body) of is.1 body, file_noted stamps (listed_file g held) held of is.1 body refl)
  entry_agrees stamps (Link owner target) of is = (tt, of)
  entry_agrees stamps Hide of is = (tt, of)

  -- the rows of a tree agree with what is noted, and may be noted
  pub rows_agree : (stamps : Stamps) (es : Entries HeldFile) → AreOfFiles trees stamps → AllByRecursion (λ x. FileIn g trees x.1) es → AllAgree g stamps (listed_rows g es) × AreOfFiles trees (noted_all stamps (listed_rows g es))
  rows_agree stamps [] of all = (tt, of)
  rows_agree stamps (x ∷ es) of all =
      let first = entry_agrees stamps x.1 of all.0 in
      let rest = rows_agree (noted stamps (listed_entry g x.1)) es first.1 all.1 in
      (((up_to_back g trees x.1 all.0, first.0), rest.0), rest.1)
