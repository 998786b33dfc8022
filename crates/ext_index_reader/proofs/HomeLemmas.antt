-- Homes over all trees of an index: each file is kept up to its generation, and files of one home have one stamp.
use Rattle.std.proofs.Common.{◌≡◌, ℕ, List, [], ◌∷◌, Some, sym, ◌∙◌, subst}
use Rattle.std.specs.Prelude.{map}
use Rattle.std.proofs.lemmas.List.Elements.{All-contains, All-from_recursion}
use Rattle.std.specs.List.{AllByRecursion}
use Rattle.ext_attributes.specs.Attributes.{OfFile}
use Rattle.ext_tree.specs.Tree.{Entries}
use Rattle.ext_tree.specs.declared.entry.Entry.{Entry}
use Rattle.ext_tree.specs.declared.entry.Entry.TheVariants.{Dir, Opaque, File, Link, Hide}
use Rattle.ext_tree.specs.declared.stamp.Stamp.{Stamp}
use Rattle.ext_host.specs.Drawn.{IsFileOf}
use Rattle.ext_host.specs.Held.{HeldFile}
use Rattle.ext_host.specs.declared.body.Body.TheVariants.{Kept}
use Rattle.ext_host.specs.declared.home.Home.{Home}
use Rattle.ext_index_lines.specs.Homed.{HasHomedLine, homed_form}
use Rattle.ext_index_lines.specs.Homes.{kept_entry}
use Rattle.ext_index_lines.specs.declared.homed.Homed.{Homed}
use Rattle.ext_tree.specs.EntryLine.{IsWritable}
use Rattle.ext_index_reader.specs.Listed.{IsKeptUpTo}
use Rattle.ext_index_reader.specs.Homes.{Agrees, Stamps, noted, stamp_at}
use Rattle.ext_index_reader.specs.Step.{IsUpTo}
use Rattle.ext_index_reader.proofs.PartsLemmas.{all_found}
use Rattle.ext_index_reader.proofs.RowLemmas.{AllAgree, Row, noted_all, rows_of}
use Rattle.ext_index_reader.proofs.StampLemmas.{noted_keeps, noted_same}

abbrev pub noted_trees : Stamps → List (List Row) → Stamps
noted_trees stamps [] = stamps
noted_trees stamps (xs ∷ trees) = noted_trees (noted_all stamps xs) trees

abbrev pub TreesAgree : ℕ → Stamps → List (List Row) → Type 0
TreesAgree g stamps [] = Unit {0}
TreesAgree g stamps (xs ∷ trees) = AllAgree g stamps xs × TreesAgree g (noted_all stamps xs) trees

abbrev pub TreesHaveLines : List (List Row) → Type 0
TreesHaveLines trees = AllByRecursion (AllByRecursion HasHomedLine) trees

abbrev KeptEntry : ℕ → Entry HeldFile → Type 0
KeptEntry g (Dir attributes) = Unit {0}
KeptEntry g (Opaque attributes) = Unit {0}
KeptEntry g (File attributes held) = IsKeptUpTo g held.body
KeptEntry g (Link owner target) = Unit {0}
KeptEntry g Hide = Unit {0}

kept_row : (g : ℕ) (e : Entry Homed) → IsWritable homed_form e → IsUpTo g e → KeptEntry g (kept_entry e)
kept_row g (Dir attributes) is up_to = tt
kept_row g (Opaque attributes) is up_to = tt
kept_row g (File attributes file) is up_to = record { first = is.1.home.first; last = up_to; file = is.1.home.file }
kept_row g (Link owner target) is up_to = tt
kept_row g Hide is up_to = tt

kept_rows : (g : ℕ) (stamps : Stamps) (xs : List Row) → AllByRecursion HasHomedLine xs → AllAgree g stamps xs → AllByRecursion (λ x. KeptEntry g x.1) (rows_of xs)
kept_rows g stamps [] lines agree = tt
kept_rows g stamps (x ∷ xs) lines agree = (kept_row g x.1 lines.0.writable agree.0.0, kept_rows g (noted stamps x.1) xs lines.1 agree.1)

kept_trees : (g : ℕ) (stamps : Stamps) (trees : List (List Row)) → TreesHaveLines trees → TreesAgree g stamps trees → AllByRecursion (λ (es : Entries HeldFile). AllByRecursion (λ x. KeptEntry g x.1) es) (map rows_of trees)
kept_trees g stamps [] lines agree = tt
kept_trees g stamps (xs ∷ trees) lines agree = (kept_rows g stamps xs lines.0 agree.0, kept_trees g (noted_all stamps xs) trees lines.1 agree.1)

abbrev HasItsStamp : Stamps → Entry HeldFile → Type 0
HasItsStamp stamps (Dir attributes) = Unit {0}
HasItsStamp stamps (Opaque attributes) = Unit {0}
HasItsStamp stamps (File attributes held) = (home : Home) → held.body ≡ Kept home → stamp_at stamps home ≡ Some held.stamp
HasItsStamp stamps (Link owner target) = Unit {0}
HasItsStamp stamps Hide = Unit {0}

entry_keeps : (stamps : Stamps) (e : Entry Homed) (home : Home) (stamp : Stamp) → Agrees stamps e → stamp_at stamps home ≡ Some stamp → stamp_at (noted stamps e) home ≡ Some stamp
entry_keeps stamps (Dir attributes) home stamp agrees has = has
entry_keeps stamps (Opaque attributes) home stamp agrees has = has
entry_keeps stamps (File attributes file) home stamp agrees has = noted_keeps stamps file home stamp agrees has
entry_keeps stamps (Link owner target) home stamp agrees has = has
entry_keeps stamps Hide home stamp agrees has = has

rows_keep : (g : ℕ) (stamps : Stamps) (xs : List Row) (home : Home) (stamp : Stamp) → AllAgree g stamps xs → stamp_at stamps home ≡ Some stamp → stamp_at (noted_all stamps xs) home ≡ Some stamp
rows_keep g stamps [] home stamp agree has = has
rows_keep g stamps (x ∷ xs) home stamp agree has = rows_keep g (noted stamps x.1) xs home stamp agree.1 (entry_keeps stamps x.1 home stamp agree.0.1 has)

trees_keep : (g : ℕ) (stamps : Stamps) (trees : List (List Row)) (home : Home) (stamp : Stamp) → TreesAgree g stamps trees → stamp_at stamps home ≡ Some stamp → stamp_at (noted_trees stamps trees) home ≡ Some stamp
trees_keep g stamps [] home stamp agree has = has
trees_keep g stamps (xs ∷ trees) home stamp agree has = trees_keep g (noted_all stamps xs) trees home stamp agree.1 (rows_keep g stamps xs home stamp agree.0 has)

-- what keeps the stamps that a home has, keeps that of an entry
its_stamp : (stamps later : Stamps) (e : Entry Homed) → ((home : Home) (stamp : Stamp) → stamp_at (noted stamps e) home ≡ Some stamp → stamp_at later home ≡ Some stamp) → HasItsStamp later (kept_entry e)
its_stamp stamps later (Dir attributes) keeps = tt
its_stamp stamps later (Opaque attributes) keeps = tt
its_stamp stamps later (File attributes file) keeps =
    λ home is. let same : file.home ≡ home = cc in subst (λ h. stamp_at later h ≡ Some file.stamp) same (keeps file.home file.stamp (noted_same stamps file))
its_stamp stamps later (Link owner target) keeps = tt
its_stamp stamps later Hide keeps = tt

rows_have : (g : ℕ) (stamps later : Stamps) (xs : List Row) → AllAgree g stamps xs → ((home : Home) (stamp : Stamp) → stamp_at (noted_all stamps xs) home ≡ Some stamp → stamp_at later home ≡ Some stamp) → AllByRecursion (λ x. HasItsStamp later x.1) (rows_of xs)
rows_have g stamps later [] agree keeps = tt
rows_have g stamps later (x ∷ xs) agree keeps =
    (its_stamp stamps later x.1 (λ home stamp has. keeps home stamp (rows_keep g (noted stamps x.1) xs home stamp agree.1 has)), rows_have g (noted stamps x.1) later xs agree.1 keeps)

trees_have : (g : ℕ) (stamps later : Stamps) (trees : List (List Row)) → TreesAgree g stamps trees → ((home : Home) (stamp : Stamp) → stamp_at (noted_trees stamps trees) home ≡ Some stamp → stamp_at later home ≡ Some stamp)
    → AllByRecursion (λ (es : Entries HeldFile). AllByRecursion (λ x. HasItsStamp later x.1) es) (map rows_of trees)
trees_have g stamps later [] agree keeps = tt
trees_have g stamps later (xs ∷ trees) agree keeps =
    (rows_have g stamps later xs agree.0 (λ home stamp has. keeps home stamp (trees_keep g (noted_all stamps xs) trees home stamp agree.1 has)), trees_have g (noted_all stamps xs) later trees agree.1 keeps)

-- what holds of each entry holds of each file
of_file : (P : Entry HeldFile → Type 0) (trees : List (Entries HeldFile)) → AllByRecursion (λ (es : Entries HeldFile). AllByRecursion (λ x. P x.1) es) trees → (held : HeldFile) → IsFileOf trees held → (attributes : OfFile) × P (File attributes held)
of_file P trees all held is =
    let Each : Entries HeldFile → Type 0 = λ es. AllByRecursion (λ x. P x.1) es in
    let there = All-contains Each trees is.tree (All-from_recursion Each trees all) is.among in
    (is.file.attributes, all_found (λ path e. P e) is.tree is.file.path (File is.file.attributes held) there is.file.stands)

pub files_are_kept : (g : ℕ) (trees : List (List Row)) → TreesHaveLines trees → TreesAgree g [] trees → (held : HeldFile) → IsFileOf (map rows_of trees) held → IsKeptUpTo g held.body
files_are_kept g trees lines agree held is = (of_file (KeptEntry g) (map rows_of trees) (kept_trees g [] trees lines agree) held is).1

pub files_agree : (g : ℕ) (trees : List (List Row)) → TreesAgree g [] trees → (a b : HeldFile) (home : Home) → IsFileOf (map rows_of trees) a → IsFileOf (map rows_of trees) b → a.body ≡ Kept home → b.body ≡ Kept home → a.stamp ≡ b.stamp
files_agree g trees agree a b home is_a is_b at_a at_b =
    let stamps = noted_trees [] trees in
    let all = trees_have g [] stamps trees agree (λ _ _ has. has) in
    let first : stamp_at stamps home ≡ Some a.stamp = (of_file (HasItsStamp stamps) (map rows_of trees) all a is_a).1 home at_a in
    let second : stamp_at stamps home ≡ Some b.stamp = (of_file (HasItsStamp stamps) (map rows_of trees) all b is_b).1 home at_b in
    let both : Some a.stamp ≡ Some b.stamp = sym first ∙ second in
    cc
