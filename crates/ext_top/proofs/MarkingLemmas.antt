-- What the commands of marks want brings no file, so that none is written.
use Rattle.std.proofs.Common.{◌≡◌, ℕ, zero, suc, ◌+◌, List, [], ◌∷◌, ◌++◌, length, Option, Some, None, refl, sym, ap, ◌∙◌, subst, arith}
use Rattle.std.specs.Prelude.{Contains}
use Rattle.std.specs.List.{AllByRecursion, sum_by}
use Rattle.ext_text.specs.Order.{paths_total}
use Rattle.ext_text.specs.Path.{path_cmp}
use Rattle.ext_depot.specs.Depot.{DepotState}
use Rattle.ext_disk.specs.Disk.{BothTold, DiskState, Told}
use Rattle.ext_tree.specs.Tree.{Entries, IsTree}
use Rattle.ext_tree.specs.declared.entry.Entry.{Entry}
use Rattle.ext_tree.specs.declared.entry.Entry.TheVariants.{Dir, Opaque, File, Link, Hide}
use Rattle.ext_tree.proofs.ForCallers.{find_there}
use Rattle.ext_host.specs.Drawn.{HasFile, trees_of}
use Rattle.ext_host.specs.Held.{HeldFile}
use Rattle.ext_host.specs.Host.{past_tree}
use Rattle.ext_host.specs.declared.body.Body.{Body}
use Rattle.ext_host.specs.declared.body.Body.TheVariants.{Here, Kept, Depot}
use Rattle.ext_host.specs.declared.home.Home.{Home}
use Rattle.ext_host.specs.declared.host.Host.{Host}
use Rattle.ext_host.specs.declared.past.Past.{Past}
use Rattle.ext_history.specs.Marks.{FindsMark, back_to}
use Rattle.ext_store_files.specs.Appended.{RaisesTold, raised}
use Rattle.ext_store_files.specs.Names.{current_text}
use Rattle.ext_homes.specs.Placed.{ArePlaced, IsBodyPlaced, IsEntryPlaced, IsHostPlaced, Stored}
use Rattle.ext_index.specs.ValidIndex.{IsKeptUpTo, IsWellFormed, IsWellFormedTree}
use Rattle.ext_gen.specs.Opened.{Generation, IsOpened}
use Rattle.ext_gen.specs.Preparing.{trees_of_pasts}
use Rattle.ext_gen.specs.PreparingIndex.{coming_index}
use Rattle.ext_gen.proofs.ForCallers.{opened_is_valid_for, opened_is_well_formed}
use Rattle.ext_cmd.specs.declared.answer.Answer.{Answer}
use Rattle.ext_cmd.specs.declared.command.Command.{Command}
use Rattle.ext_cmd.specs.declared.command.Command.TheVariants.{Init, ImportFs, Remove, Sysext, Confext, Tree, Cat, Compare, Check, Layer, Migrate, Batch, Sample, Sysupdate, Components}
use Rattle.ext_cmd.specs.declared.command.Command.TheVariants.{Mark, History, HistoryChanges, Rollback, Forget, Portable}
use Rattle.ext_intents.specs.Marks.{forget_of, mark_in, rollback_to}
use Rattle.ext_intents.specs.declared.intent.Intent.TheVariants.{Changes}
use Rattle.ext_intents.proofs.ForCallers.{finds}
use Rattle.ext_top.specs.Laws.{IsMarking, MarksAppendTheirIndex}
use Rattle.ext_top.specs.Working.{ReplacedTold, WantsOn}
use Rattle.ext_top.proofs.CheckLemmas.{by_index}
use Rattle.ext_top.proofs.KeptEntriesLemmas.{IsKeptAt}
use Rattle.ext_top.proofs.ReplacingLemmas.{lower_among, root_among}

-- each file of the entries is kept
abbrev AllKept : Entries HeldFile → Type 0
AllKept es = AllByRecursion (λ (x : List (List ℕ) × Entry HeldFile). IsKeptAt (Some x.1)) es

tree_kept : (es : Entries HeldFile) → IsTree es → ((held : HeldFile) → HasFile es held → (home : Home) × (held.body ≡ Kept home)) → AllKept es
tree_kept es tree kept =
    by_index (λ x. IsKeptAt (Some x.1)) es (λ i x at attributes held found.
    kept held (record { path = x.0; attributes = attributes; stands = find_there path_cmp paths_total es i x tree.sorted at ∙ found }))

module _ (old : Stored) (depot : DepotState) (n : ℕ) where
  entry_nothing : (e : Entry HeldFile) (next : ℕ) (f : Entry HeldFile) (written : List (List ℕ)) → IsEntryPlaced old depot n e next f written → IsKeptAt (Some e) → written ≡ []
  entry_nothing (Dir attributes) next f written is kept = is.1
  entry_nothing (Opaque attributes) next f written is kept = is.1
  entry_nothing (File attributes held) next f written (placed, is, same) kept =
      let home = kept attributes held refl in
      let stays = subst (λ body. IsBodyPlaced old depot n held body next placed written) home.1 is in
      stays.1
  entry_nothing (Link owner target) next f written is kept = is.1
  entry_nothing Hide next f written is kept = is.1

  tree_nothing : (es : Entries HeldFile) (next : ℕ) (new : Entries HeldFile) (written : List (List ℕ)) → AllKept es → ArePlaced old depot n es next new written → written ≡ []
  tree_nothing [] next new written all is = is.1
  tree_nothing (x ∷ es) next new written all (f, fs, first, rest, one, others, new_is, written_is) =
      written_is
      ∙ ap (λ l. l ++ rest) (entry_nothing x.1 next f first one all.0)
      ∙ tree_nothing es (next + length first) fs rest all.1 others

  host_nothing : (host new : Host) (written : List (List ℕ)) → AllKept host.root → AllKept host.lower → IsHostPlaced old depot n host new written → written ≡ []
  host_nothing host new written root_kept lower_kept (root, lower, (first, rest, one, two, parts), same) =
      parts ∙ ap (λ l. l ++ rest) (tree_nothing host.root 0 root first root_kept one) ∙ tree_nothing host.lower (0 + length first) lower rest lower_kept two

-- a kept body
has_home : (n : ℕ) (body : Body) → IsKeptUpTo n body → (home : Home) × (body ≡ Kept home)
has_home n (Here bytes) kept = absurd kept
has_home n (Kept home) kept = (home, refl)
has_home n (Depot path) kept = absurd kept

next_same : (a b : Host) (x y : Answer) → Changes a x ≡ Changes b y → a ≡ b
next_same a b x y same = cc

all_has : {X : Type 0} (P : X → Type 0) (xs : List X) (x : X) → AllByRecursion P xs → Contains xs x → P x
all_has P [] x all (k, lt, is) = absurd (omega arith)
all_has P (y ∷ xs) x all (zero, lt, is) = subst P is all.0
all_has P (y ∷ xs) x all (suc k, lt, is) = all_has P xs x all.1 (k, omega arith, is)

-- its trees are kept
record AreKeptTrees (host : Host) : Type 0 where
  root : AllKept host.root
  lower : AllKept host.lower

module _ (g : Generation) (opened : IsOpened g) where
  formed : IsWellFormed g.host
  formed = opened_is_well_formed g opened

  -- a tree of the host
  of_tree : (es : Entries HeldFile) → IsTree es → Contains (trees_of g.host) es → AllKept es
  of_tree es tree among =
      tree_kept es tree (λ held file. has_home g.number held.body ((opened_is_valid_for g opened).kept held (record { tree = es; among = among; file = file })))

  own_kept : AreKeptTrees g.host
  own_kept = record {
    root = of_tree g.host.root formed.now.root (zero, omega arith, refl);
    lower = of_tree g.host.lower formed.now.lower (suc zero, omega arith, refl);
  }

  -- those of a mark
  later : (es : Entries HeldFile) → Contains (trees_of_pasts g.host.past) es → Contains (trees_of g.host) es
  later es (k, lt, is) = (suc (suc k), omega (arith, lt), is)

  mark_kept : (mark : Past) → Contains g.host.past mark → AreKeptTrees (back_to mark g.host)
  mark_kept mark has =
      let tree = all_has (λ p. IsWellFormedTree (past_tree p)) g.host.past mark formed.past has in
      record {
        root = of_tree mark.root tree.root (later mark.root (root_among g.host.past mark has));
        lower = of_tree mark.lower tree.lower (later mark.lower (lower_among g.host.past mark has));
      }

  rollback_kept : (number : ℕ) (found : Option Past) (next : Host) (answer : Answer) → FindsMark number g.host.past found → Changes next answer ≡ rollback_to g.host number found → AreKeptTrees next
  rollback_kept number None next answer none_is same = cc
  rollback_kept number (Some mark) next answer is same = subst AreKeptTrees (sym (next_same next (back_to mark g.host) answer _ same)) (mark_kept mark is.among)

  same_trees : (host : Host) → host.root ≡ g.host.root → host.lower ≡ g.host.lower → AreKeptTrees host
  same_trees host root lower = record { root = subst AllKept (sym root) own_kept.root; lower = subst AllKept (sym lower) own_kept.lower }

  forget_kept : (number : ℕ) (found : Option Past) (next : Host) (answer : Answer) → Changes next answer ≡ forget_of g.host number found → AreKeptTrees next
  forget_kept number None next answer same = cc
  forget_kept number (Some mark) next answer same =
      let is = next_same next _ answer _ same in
      same_trees next (ap (λ (h : Host). h.root) is) (ap (λ (h : Host). h.lower) is)

  wanted_kept : (command : Command) (old : DiskState) (depot : DepotState) (answer : Answer) (next : Host) → IsMarking command → WantsOn (Some g) old depot.contents command (Changes next answer) → AreKeptTrees next
  wanted_kept (Mark keep) old depot answer next marking wants =
      let is = next_same next _ answer _ wants.1 in
      same_trees next (ap (λ (h : Host). h.root) is) (ap (λ (h : Host). h.lower) is)
  wanted_kept (Rollback mark) old depot answer next marking wants = rollback_kept mark (mark_in mark g.host.past) next answer (finds mark g.host.past) wants
  wanted_kept (Forget mark) old depot answer next marking wants = forget_kept mark (mark_in mark g.host.past) next answer wants
  wanted_kept (Init arch scope hierarchies) old depot answer next marking wants = absurd marking
  wanted_kept (ImportFs resource path) old depot answer next marking wants = absurd marking
  wanted_kept (Remove path) old depot answer next marking wants = absurd marking
  wanted_kept (Sysext view) old depot answer next marking wants = absurd marking
  wanted_kept (Confext view) old depot answer next marking wants = absurd marking
  wanted_kept (Tree path) old depot answer next marking wants = absurd marking
  wanted_kept (Cat path) old depot answer next marking wants = absurd marking
  wanted_kept (Compare a b) old depot answer next marking wants = absurd marking
  wanted_kept Check old depot answer next marking wants = absurd marking
  wanted_kept Layer old depot answer next marking wants = absurd marking
  wanted_kept Migrate old depot answer next marking wants = absurd marking
  wanted_kept Batch old depot answer next marking wants = absurd marking
  wanted_kept (Sample images) old depot answer next marking wants = absurd marking
  wanted_kept (Sysupdate component verb) old depot answer next marking wants = absurd marking
  wanted_kept Components old depot answer next marking wants = absurd marking
  wanted_kept History old depot answer next marking wants = absurd marking
  wanted_kept (HistoryChanges mark) old depot answer next marking wants = absurd marking
  wanted_kept (Portable command) old depot answer next marking wants = absurd marking

both_more : (P Q : Told → Told → Type 0) (d e : Option Told) → ((a b : Told) → P a b → Q a b) → BothTold P d e → BothTold Q d e
both_more P Q None None more holds = tt
both_more P Q None (Some b) more holds = holds
both_more P Q (Some a) None more holds = holds
both_more P Q (Some a) (Some b) more holds = more a b holds

none_more : (n : ℕ) → 0 + n ≡ n
none_more n = omega arith

pub marks_append : MarksAppendTheirIndex
marks_append g coming command old new depot answer next opened marking wants replaced =
    let kept = wanted_kept g opened command old depot answer next marking wants in
    let none = host_nothing _ depot coming.number next coming.host replaced.written kept.root kept.lower replaced.homes in
    both_more (ReplacedTold (Some g) coming replaced.written) (RaisesTold (length (coming_index coming.number coming.host) + length (current_text coming.number))) old.told new.told
    (λ a b told.
    let rest = length (coming_index coming.number coming.host) + length (current_text coming.number) in
    told.appended ∙ ap (λ l. raised a.appended (sum_by length l + rest)) none ∙ ap (raised a.appended) (none_more rest)) replaced.told
