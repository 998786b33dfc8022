-- Detaching undoes attaching: what was put goes, files that were there keep their homes, and nothing but the room of the store can be
-- in the way.
use Rattle.std.proofs.Common.{◌≡◌, ℕ, ◌+◌, ◌==◌, Bool, true, false, cond, not, if◌then◌else◌, List, [], ◌∷◌, ◌++◌, length, inl, inr, Option, Some, None, Ok, Err, refl, sym, ap, ◌∙◌, subst, arith}
use Rattle.std.specs.FinMap.Entries.{where_key}
use Rattle.std.specs.List.{AllByRecursion}
use Rattle.std.proofs.lemmas.Bool.{true≢false}
use Rattle.ext_attributes.specs.Attributes.{OfFile}
use Rattle.ext_text.specs.Path.{path_cmp}
use Rattle.ext_text.specs.SortedPaths.{covers, meets}
use Rattle.ext_text.specs.declared.which.Which.{Which}
use Rattle.ext_text.proofs.ForCallers.{all_append, all_back}
use Rattle.ext_depot.specs.Depot.{DepotState, Files}
use Rattle.ext_tree.specs.Cut.{cut_all}
use Rattle.ext_tree.specs.Graft.{or_made}
use Rattle.ext_tree.specs.Tree.{Entries, IsTree, lookup}
use Rattle.ext_tree.specs.declared.entry.Entry.{Entry}
use Rattle.ext_tree.specs.declared.entry.Entry.TheVariants.{Dir, Opaque, File, Link, Hide}
use Rattle.ext_tree.proofs.ForCallers.{is_cut_all, tree_cut_all}
use Rattle.ext_host.specs.Held.{HeldFile}
use Rattle.ext_host.specs.ReadOnly.{is_read_only}
use Rattle.ext_host.specs.Shelf.{stored}
use Rattle.ext_host.specs.Touch.{untouched_all}
use Rattle.ext_host.specs.Valid.{AreAttachments}
use Rattle.ext_host.specs.declared.body.Body.{Body}
use Rattle.ext_host.specs.declared.body.Body.TheVariants.{Here, Kept, Depot}
use Rattle.ext_host.specs.declared.home.Home.{Home}
use Rattle.ext_host.specs.declared.host.Host.{Host}
use Rattle.ext_host.specs.declared.manifest.Manifest.{Manifest}
use Rattle.ext_units.specs.ImageName.{first_part, image_name}
use Rattle.ext_units.specs.declared.image.Image.{Image}
use Rattle.ext_attached.specs.Detaching.{Detaches, IsAttached}
use Rattle.ext_attached.specs.Going.{cut_paths, detached, goes, paths_without, staying}
use Rattle.ext_attached.specs.Least.{NonePasses}
use Rattle.ext_attached.specs.declared.errors.DetachErr.{DetachErr}
use Rattle.ext_attached.specs.declared.errors.DetachErr.TheVariants as detaching
use Rattle.ext_attached.specs.declared.going.By.TheVariants.{Name, FirstPart}
use Rattle.ext_attached.proofs.ForCallers.{cut_found, staying_attached}
use Rattle.ext_port.specs.Laws.{added_of, is_way, with_ways}
use Rattle.ext_port.specs.Starting.{cut_of, start_host}
use Rattle.ext_port.proofs.ForCallers.{LeavesOthers, LeavesRest}
use Rattle.ext_homes.specs.Placed.{ArePlaced, IsBodyPlaced, IsEntryPlaced, IsHostPlaced, Stored}
use Rattle.ext_homes.specs.Refused.{StopsAt}
use Rattle.ext_index.specs.ValidIndex.{written_text}
use Rattle.ext_gen.specs.Opened.{Generation}
use Rattle.ext_gen.specs.Preparing.{contents_after, contents_of, coming_number}
use Rattle.ext_gen.specs.Store.{State, at, generation_in, none}
use Rattle.ext_gen.proofs.ForCallers.{current_is_opened, opened_is_well_formed}
use Rattle.ext_cmd.specs.Portable.{ask_of, extensions_of}
use Rattle.ext_cmd.specs.Replies.{answer_text}
use Rattle.ext_cmd.specs.declared.answer.Answer.TheVariants as answers
use Rattle.ext_cmd.specs.declared.command.Command.TheVariants.{Portable}
use Rattle.ext_cmd.specs.declared.portable.AttachWords.{AttachWords}
use Rattle.ext_cmd.specs.declared.portable.PortCommand.TheVariants as commands
use Rattle.ext_cmd.specs.declared.refusal.Refusal.{Refusal}
use Rattle.ext_cmd.specs.declared.refusal.Refusal.TheVariants as refusals
use Rattle.ext_intents.specs.Intents.{IsPlanned, Seen}
use Rattle.ext_intents.specs.Portable.{AttachWants, DetachWants, not_detached}
use Rattle.ext_intents.specs.Step.{WantsOf}
use Rattle.ext_intents.specs.declared.intent.Intent.{Intent}
use Rattle.ext_top.specs.Laws.{DetachingUndoesAttaching}
use Rattle.ext_top.specs.Machine.{Comes, IsMismatch, IsNextState, IsNotThere, Outcome, RefusesNext, Replaces, Step, StopsFor, bytes_at, depot_of, gives, refuses, stored_of}
use Rattle.ext_top.specs.Services.{GivesBack, HasNoRoom, IsBackFrom, attaching}
use Rattle.ext_top.proofs.BaseStaysLemmas.{IfChanges}
use Rattle.ext_top.proofs.KeptEntriesLemmas.{IsKeptAt, lower_placed, root_placed, stays_at}
use Rattle.ext_top.proofs.ServicesLemmas.{attached_leaves}
use Rattle.ext_top.proofs.UntouchedLemmas.{IsGood, next_bytes, next_good, stands_good, step_planned}
use Rattle.ext_top.proofs.ViewFilesLemmas.{lower_file, root_file}

state_same : (u v : State) (a b : List ℕ) → gives u a ≡ gives v b → u ≡ v
state_same u v a b same = cc

not_refused : {A : Type 0} (v : State) (reply : List ℕ) (refusal : Refusal) → gives v reply ≡ refuses refusal → A
not_refused v reply refusal same = cc

-- files that have homes

-- each file of the entries is kept
abbrev AllKept : Entries HeldFile → Type 0
AllKept es = AllByRecursion (λ (x : List (List ℕ) × Entry HeldFile). IsKeptAt (Some x.1)) es

some_file : (e : Entry HeldFile) (attributes : OfFile) (held : HeldFile) → Some e ≡ Some (File attributes held) → e ≡ File attributes held
some_file e attributes held same = cc

same_held : (m n : OfFile) (a b : HeldFile) → File m a ≡ File n b → a ≡ b
same_held m n a b same = cc

module _ (old : Stored) (depot : DepotState) (n : ℕ) where
  -- a file that has its home is kept
  body_kept : (held : HeldFile) (body : Body) (next : ℕ) (new : HeldFile) (written : List (List ℕ)) → held.body ≡ body → IsBodyPlaced old depot n held body next new written → (home : Home) × (new.body ≡ Kept home)
  body_kept held (Here bytes) next new written is (home, takes, same) = (home, ap (λ (h : HeldFile). h.body) same)
  body_kept held (Kept home) next new written is (same, empty) = (home, ap (λ (h : HeldFile). h.body) same ∙ is)
  body_kept held (Depot path) next new written is (home, takes, same) = (home, ap (λ (h : HeldFile). h.body) same)

  no_file : (e f : Entry HeldFile) → f ≡ e → ((attributes : OfFile) (held : HeldFile) → e ≡ File attributes held → ⊥) → IsKeptAt (Some f)
  no_file e f same no_such attributes held found = absurd (no_such attributes held (sym same ∙ some_file f attributes held found))

  entry_kept : (e : Entry HeldFile) (next : ℕ) (f : Entry HeldFile) (written : List (List ℕ)) → IsEntryPlaced old depot n e next f written → IsKeptAt (Some f)
  entry_kept (Dir m) next f written is = no_file (Dir m) f is.0 (λ attributes held same. cc)
  entry_kept (Opaque m) next f written is = no_file (Opaque m) f is.0 (λ attributes held same. cc)
  entry_kept (File m file) next f written (placed, is, same) = λ attributes held found.
      let kept = body_kept file file.body next placed written refl is in
      let one : placed ≡ held = same_held m attributes placed held (sym same ∙ some_file f attributes held found) in
      subst (λ (h : HeldFile). (home : Home) × (h.body ≡ Kept home)) one kept
  entry_kept (Link owner target) next f written is = no_file (Link owner target) f is.0 (λ attributes held same. cc)
  entry_kept Hide next f written is = no_file Hide f is.0 (λ attributes held same. cc)

  placed_kept : (es : Entries HeldFile) (next : ℕ) (new : Entries HeldFile) (written : List (List ℕ)) → ArePlaced old depot n es next new written → AllKept new
  placed_kept [] next new written is = subst AllKept (sym is.0) tt
  placed_kept (x ∷ es) next new written (f, fs, first, rest, one, others, new_is, written_is) =
      subst AllKept (sym new_is) (entry_kept x.1 next f first one, placed_kept es (next + length first) fs rest others)

  -- no kept file stops a change
  none_stops : (es : Entries HeldFile) (next : ℕ) (why : HeldFile → Type 0) → AllKept es → ((held : HeldFile) → why held → (path : List (List ℕ)) × (held.body ≡ Depot path)) → StopsAt old depot n es next why → ⊥
  none_stops es next why kept in_depot stops =
      let here = all_back (λ (x : List (List ℕ) × Entry HeldFile). IsKeptAt (Some x.1)) stops.before ((stops.path, File stops.attributes stops.held) ∷ stops.after) (subst AllKept stops.entries kept) in
      let home = here.0 stops.attributes stops.held refl in
      let place = in_depot stops.held stops.why in
      other home.0 place.0 (sym home.1 ∙ place.1)
    where
      other : (home : Home) (path : List (List ℕ)) → Kept home ≡ Depot path → ⊥
      other home path same = cc

-- entries that pass a test
some_kept : (test : List (List ℕ) → Bool) (es : Entries HeldFile) → AllKept es → AllKept (where_key path_cmp test es)
some_kept test [] kept = tt
some_kept test (x ∷ es) kept = elim (test x.0) as (λ b. AllKept (cond b (x ∷ where_key path_cmp test es) (where_key path_cmp test es))) [
  | true ↦ (kept.0, some_kept test es kept.1)
  | false ↦ some_kept test es kept.1
]

-- a made directory is no file
made_kept : (o : Option (Entry HeldFile)) → IsKeptAt o → IsKeptAt (or_made o)
made_kept None kept = λ attributes held found. let wrong = some_file _ attributes held found in cc
made_kept (Some e) kept = kept

ways_kept : (paths : List (List (List ℕ))) (root : Entries HeldFile) (q : List (List ℕ)) → IsKeptAt (lookup root q) → IsKeptAt (with_ways paths root q)
ways_kept paths root q kept = elim (is_way paths q) as (λ b. IsKeptAt (if b then or_made (lookup root q) else lookup root q)) [ true ↦ made_kept (lookup root q) kept | false ↦ kept ]

-- what is untouched stays so
untouched_once : (paths : List (List (List ℕ))) (kept : List Manifest) → untouched_all paths (untouched_all paths kept) ≡ untouched_all paths kept
untouched_once paths [] = refl
untouched_once paths (m ∷ kept) = elim (meets paths m.path) as (λ b. meets paths m.path ≡ b → untouched_all paths (cond (not b) (m ∷ untouched_all paths kept) (untouched_all paths kept)) ≡ cond (not b) (m ∷ untouched_all paths kept) (untouched_all paths kept)) [
  | true ↦ λ _. untouched_once paths kept
  | false ↦ λ apart. ap (λ b. cond (not b) (m ∷ untouched_all paths (untouched_all paths kept)) (untouched_all paths (untouched_all paths kept))) apart ∙ ap (λ l. m ∷ l) (untouched_once paths kept)
] refl

-- the host from which is attached

start_tree : (again : Bool) (image : Image) (host : Host) → IsTree host.root → IsTree (start_host again image host).root
start_tree false image host tree = tree
start_tree true image host tree = tree_cut_all (paths_without image host) host.root tree

start_attached : (again : Bool) (image : Image) (host : Host) → AreAttachments host.attached → AreAttachments (start_host again image host).attached
start_attached false image host are = are
start_attached true image host are = staying_attached (λ a. not (goes FirstPart (first_part (image_name image)) a)) host.attached are

start_found : (again : Bool) (image : Image) (host : Host) (q : List (List ℕ)) (e : Entry HeldFile) → lookup (start_host again image host).root q ≡ Some e → lookup host.root q ≡ Some e
start_found false image host q e found = found
start_found true image host q e found = cut_found (paths_without image host) host.root q e found

start_lower : (again : Bool) (image : Image) (host : Host) → (start_host again image host).lower ≡ host.lower
start_lower false image host = refl
start_lower true image host = refl

-- two states one after the other: an image was attached in the second
module _ (g : Generation) (contents : Home → List ℕ) (files : Option Files) (again : Bool) (words : AttachWords) (next : Host) (good : IsGood (at g contents)) (tree : IsTree g.host.root)
    (leaves : LeavesOthers again g.host (ask_of words) next) (planned : IsPlanned (g.number + 1) (Some g.host) next)
    (coming : Generation) (number : coming.number ≡ g.number + 1) (text : coming.text ≡ written_text coming.host) (written : List (List ℕ)) (homes : IsHostPlaced (stored_of (at g contents)) (depot_of files) coming.number next coming.host written) where
  abbrev name : List ℕ
  name = image_name words.image

  abbrev start : Host
  start = start_host again words.image g.host

  abbrev s : State
  s = at g contents

  abbrev u : State
  u = at coming (contents_after coming.number written s)

  abbrev h : Host
  h = coming.host

  abbrev added : List (List (List ℕ))
  added = cut_paths Name name h

  rest : LeavesRest start (cut_of again words.image g.host) (ask_of words) next
  rest = leaves.leaves

  state : IsNextState s files next u
  state = record { coming = coming; number = number; text = text; written = written; homes = homes; is = refl }

  second_good : IsGood u
  second_good = next_good s good files next u planned state

  same_added : added ≡ added_of (ask_of words) next
  same_added = ap (cut_paths Name name) homes.3

  -- what was attached can be detached
  attached_there : IsAttached h name × NonePasses (is_read_only h) added
  attached_there =
      let undone = (rest.undone (start_tree again words.image g.host tree)).0 in
      subst (λ (x : Host). IsAttached x name × NonePasses (is_read_only x) (cut_paths Name name x)) (sym homes.3) (undone.0, undone.1)

  -- what stood there before is kept
  start_kept : (q : List (List ℕ)) → IsKeptAt (lookup start.root q)
  start_kept q attributes held found =
      let is = good.homed held (root_file g.host q attributes held (start_found again words.image g.host q (File attributes held) found)) in (is.home, is.body)

  -- and is there, outside of what was added
  second_root : (q : List (List ℕ)) → covers added q ≡ false → lookup h.root q ≡ with_ways added start.root q
  second_root q out =
      let out_next : covers (added_of (ask_of words) next) q ≡ false = ap (λ ps. covers ps q) (sym same_added) ∙ out in
      let is = rest.outside q out_next in
      stays_at (stored_of s) (depot_of files) coming.number (lookup next.root q) (lookup h.root q) (root_placed (stored_of s) (depot_of files) coming.number next h written q homes)
      (subst IsKeptAt (sym is) (ways_kept (added_of (ask_of words) next) start.root q (start_kept q)))
      ∙ is
      ∙ ap (λ ps. with_ways ps start.root q) (sym same_added)

  none_there : (q : List (List ℕ)) → covers added q ≡ true → None ≡ with_ways added start.root q
  none_there q covered =
      let undone = (rest.undone (start_tree again words.image g.host tree)).1 q in
      let there : covers (added_of (ask_of words) next) q ≡ true = ap (λ ps. covers ps q) (sym same_added) ∙ covered in
      sym (is_cut_all (added_of (ask_of words) next) next.root q ∙ ap (λ b. if b then None else lookup next.root q) there)
      ∙ undone
      ∙ ap (λ ps. with_ways ps start.root q) (sym same_added)

  cut_root : (q : List (List ℕ)) → lookup (cut_all added h.root) q ≡ with_ways added start.root q
  cut_root q =
      is_cut_all added h.root q
      ∙ elim (covers added q) as (λ b. covers added q ≡ b → (if b then None else lookup h.root q) ≡ with_ways added start.root q) [
        | true ↦ λ covered. none_there q covered
        | false ↦ λ out. second_root q out
      ] refl

  second_lower : (q : List (List ℕ)) → lookup h.lower q ≡ lookup start.lower q
  second_lower q =
      let is : next.lower ≡ start.lower = ap (λ (x : Host). x.lower) rest.rest in
      let kept : IsKeptAt (lookup next.lower q) = λ attributes held found.
      let home = good.homed held (lower_file g.host q attributes held (ap (λ es. lookup es q) (sym (is ∙ start_lower again words.image g.host)) ∙ found)) in (home.home, home.body) in
      stays_at (stored_of s) (depot_of files) coming.number (lookup next.lower q) (lookup h.lower q) (lower_placed (stored_of s) (depot_of files) coming.number next h written q homes) kept
      ∙ ap (λ es. lookup es q) is

  -- the state after that
  module _ (more : Option Files) where
    abbrev left : Host
    left = detached Name name h

    -- nothing but the room stops it
    entries_kept : AllKept (left.root ++ left.lower)
    entries_kept =
        let (root, lower, (first, others, one, two, parts), is) = homes in
        let root_kept : AllKept h.root = subst (λ (x : Host). AllKept x.root) (sym is) (placed_kept (stored_of s) (depot_of files) coming.number next.root 0 root first one) in
        let lower_kept : AllKept h.lower = subst (λ (x : Host). AllKept x.lower) (sym is) (placed_kept (stored_of s) (depot_of files) coming.number next.lower (0 + length first) lower others two) in
        all_append (λ (x : List (List ℕ) × Entry HeldFile). IsKeptAt (Some x.1)) (cut_all added h.root) h.lower (some_kept (λ q. not (covers added q)) h.root root_kept) lower_kept

    no_stop : (why : HeldFile → Type 0) → ((held : HeldFile) → why held → (path : List (List ℕ)) × (held.body ≡ Depot path)) → StopsFor u more left why → ⊥
    no_stop why in_depot stops = none_stops (stored_of u) (depot_of more) (coming_number (generation_in u)) (left.root ++ left.lower) 0 why entries_kept in_depot stops.1

    only_room : (refusal : Refusal) → RefusesNext u more left refusal → (which : Which) × (refusal ≡ refusals.Limit which) × HasNoRoom u name which
    only_room (refusals.Limit which) refused = (which, refl, refused)
    only_room (refusals.NotInDepot path) refused = absurd (no_stop (IsNotThere (depot_of more) path) (λ held why. (path, why.body)) refused)
    only_room (refusals.Mismatch path listed found) refused = absurd (no_stop (IsMismatch (depot_of more) path listed found) (λ held why. (path, why.body)) refused)
    only_room refusals.NoStore refused = absurd refused
    only_room refusals.StoreExists refused = absurd refused
    only_room refusals.Merged refused = absurd refused
    only_room refusals.NoHostRelease refused = absurd refused
    only_room (refusals.BadHostRelease line) refused = absurd refused
    only_room (refusals.ReadOnly path) refused = absurd refused
    only_room (refusals.NoEntry path) refused = absurd refused
    only_room (refusals.NotDirectory path) refused = absurd refused
    only_room (refusals.NotFile path) refused = absurd refused
    only_room (refusals.BadTree line path) refused = absurd refused
    only_room refusals.NoTransfers refused = absurd refused
    only_room (refusals.BadTransfer line why file) refused = absurd refused
    only_room (refusals.BadManifest line place) refused = absurd refused
    only_room refusals.NoneNewer refused = absurd refused
    only_room (refusals.NoSuchVersion v) refused = absurd refused
    only_room (refusals.NoRoom count file) refused = absurd refused
    only_room (refusals.Clash place) refused = absurd refused
    only_room (refusals.BadFeature line why file) refused = absurd refused
    only_room refusals.NoneOn refused = absurd refused
    only_room (refusals.NoMark generation) refused = absurd refused
    only_room refusals.NoSuchImage refused = absurd refused
    only_room refusals.NotPortable refused = absurd refused
    only_room (refusals.BadRelease line) refused = absurd refused
    only_room (refusals.PrefixForbidden prefix) refused = absurd refused
    only_room refusals.NoUnits refused = absurd refused
    only_room refusals.NoProfile refused = absurd refused
    only_room (refusals.UnitExists path) refused = absurd refused
    only_room refusals.AlreadyAttached refused = absurd refused
    only_room refusals.NotAttached refused = absurd refused
    only_room (refusals.NoExtension extension) refused = absurd refused
    only_room (refusals.Extension extension why) refused = absurd refused

    -- what there is then
    left_kept : (q : List (List ℕ)) → IsKeptAt (lookup left.root q)
    left_kept q attributes held found = let is = second_good.homed held (root_file h q attributes held (cut_found added h.root q (File attributes held) found)) in (is.home, is.body)

    lower_kept : (q : List (List ℕ)) → IsKeptAt (lookup h.lower q)
    lower_kept q attributes held found = let is = second_good.homed held (lower_file h q attributes held found) in (is.home, is.body)

    gives_back : (v : State) → IsNextState u more left v → IsBackFrom again words.image s u v
    gives_back v after =
        let old = stored_of u in
        let depot = depot_of more in
        let n = after.coming.number in
        let last = after.coming.host in
        let placed = after.homes.3 in
        subst (IsBackFrom again words.image s u) (sym after.is) (
          record {
            root = λ q. stays_at old depot n (lookup left.root q) (lookup last.root q) (root_placed old depot n left last after.written q after.homes) (left_kept q) ∙ cut_root q;
            lower = λ q. stays_at old depot n (lookup h.lower q) (lookup last.lower q) (lower_placed old depot n left last after.written q after.homes) (lower_kept q) ∙ second_lower q;
            sysext = ap (λ (x : Host). x.sysext) placed ∙ ap (λ (x : Host). x.sysext) homes.3 ∙ ap (λ (x : Host). x.sysext) rest.rest;
            confext = ap (λ (x : Host). x.confext) placed ∙ ap (λ (x : Host). x.confext) homes.3 ∙ ap (λ (x : Host). x.confext) rest.rest;
            attached =
                ap (λ (x : Host). x.attached) placed
                ∙ ap (λ (x : Host). staying Name name x.attached) homes.3
                ∙ rest.others (start_attached again words.image g.host good.valid.present.attached) leaves.fresh;
            kept =
                ap (λ (x : Host). x.kept) placed
                ∙ ap (λ (x : Host). untouched_all added x.kept) homes.3
                ∙ ap (untouched_all added) (rest.kept ∙ ap (λ ps. untouched_all ps start.kept) (sym same_added))
                ∙ untouched_once added start.kept;
          },
          λ held file.
              let is = good.homed held file in
              let first : contents_of u is.home ≡ contents_of s is.home = next_bytes s good files next u is.home state is.last in
              let second : contents_of v is.home ≡ contents_of u is.home = next_bytes u second_good more left v is.home after (let last = is.last in omega (arith, last, number)) in
              subst (λ x. bytes_at x held.body ≡ bytes_at s held.body) after.is
              (ap (bytes_at v) is.body ∙ second ∙ first ∙ sym (ap (bytes_at s) is.body)),
        )

    -- by what detaching wants
    not_detached_here : (error : DetachErr) (refusal : Refusal) → Detaches h name (Err error) → not_detached error ≡ Ok refusal → ⊥
    not_detached_here detaching.OutOfMemory refusal fails told = cc
    not_detached_here detaching.NotAttached refusal fails told = true≢false (sym attached_there.0 ∙ fails)
    not_detached_here (detaching.ReadOnly path) refusal fails told = true≢false (sym fails.1.passes ∙ attached_there.1 path fails.1.among)

    detach_gives : (intent : Intent) (outcome : Outcome) → DetachWants h name intent → Comes u more intent outcome → GivesBack again words.image s u outcome
    detach_gives intent outcome (inl (plan, detaches, is)) comes =
        replaced (subst (λ (x : Host). Replaces u more x (answer_text answers.Detached) outcome) detaches.2 (subst (λ i. Comes u more i outcome) is comes))
      where
        replaced : Replaces u more left (answer_text answers.Detached) outcome → GivesBack again words.image s u outcome
        replaced (inl (v, free, after, same)) = inl (v, same, gives_back v after)
        replaced (inr (refusal, refused, same)) =
            let room = only_room refusal refused in
            inr (room.0, same ∙ ap (λ r. refuses r) room.1, room.2)
    detach_gives intent outcome (inr (error, refusal, fails, told, is)) comes = absurd (not_detached_here error refusal fails told)

-- the first of both steps

-- what is wanted where an image is attached
attach_wants : (seen : Seen) (files : Option Files) (again : Bool) (words : AttachWords) (intent : Intent) → WantsOf seen files (Portable (attaching again words)) intent → AttachWants seen.host seen.told again words intent
attach_wants seen files false words intent wants = wants
attach_wants seen files true words intent wants = wants

some_state : (g : Generation) (contents : Home → List ℕ) → at g contents ≡ none → ⊥
some_state g contents same = cc

module _ (g : Generation) (contents : Home → List ℕ) (files later : Option Files) (again : Bool) (words : AttachWords) (u : State) (reply : List ℕ) (outcome : Outcome)
    (good : IsGood (at g contents)) (tree : IsTree g.host.root) (second : Step u later (Portable (commands.Detach (image_name words.image))) outcome) where
  next_gives : (next : Host) → LeavesOthers again g.host (ask_of words) next → IsPlanned (g.number + 1) (Some g.host) next → IsNextState (at g contents) files next u → GivesBack again words.image (at g contents) u outcome
  next_gives next leaves planned state =
      let step = subst (λ x. Step x later (Portable (commands.Detach (image_name words.image))) outcome) state.is second in
      subst (λ x. GivesBack again words.image (at g contents) x outcome) (sym state.is)
      (detach_gives g contents files again words next good tree leaves planned state.coming state.number state.text state.written state.homes later step.intent outcome step.wants step.comes)

  attach_gives : (intent : Intent) → AttachWants g.host (λ held. stored (bytes_at (at g contents) held.body)) again words intent → IfChanges (IsPlanned (g.number + 1) (Some g.host)) intent
      → Comes (at g contents) files intent (gives u reply) → GivesBack again words.image (at g contents) u outcome
  attach_gives intent (inl (attach, attached, plans, is)) planned comes =
      replaced (subst (IfChanges (IsPlanned (g.number + 1) (Some g.host))) is planned) (subst (λ i. Comes (at g contents) files i (gives u reply)) is comes)
    where
      replaced : IsPlanned (g.number + 1) (Some g.host) attach.plan.next → Replaces (at g contents) files attach.plan.next (answer_text (answers.Attached attach.units)) (gives u reply) → GivesBack again words.image (at g contents) u outcome
      replaced plan (inl (v, free, state, same)) =
          next_gives attach.plan.next (attached_leaves (λ held. stored (bytes_at (at g contents) held.body)) again g.host (ask_of words) (extensions_of words) attach attached) plan
          (subst (IsNextState (at g contents) files attach.plan.next) (sym (state_same u v reply _ same)) state)
      replaced plan (inr (refusal, refused, same)) = not_refused u reply refusal same
  attach_gives intent (inr (refusal, fails, is)) planned comes = not_refused u reply refusal (subst (λ i. Comes (at g contents) files i (gives u reply)) is comes)

pub detaching_undoes : DetachingUndoesAttaching
detaching_undoes t none u files later again words reply outcome stands first second =
    not_refused u reply refusals.NoStore (subst (λ i. Comes none files i (gives u reply)) first.wants first.comes)
detaching_undoes t (at g contents) u files later again words reply outcome stands first second =
    let good = stands_good t (at g contents) stands in
    let tree = (opened_is_well_formed g (current_is_opened g t stands.0)).now.root in
    attach_gives g contents files later again words u reply outcome good tree second first.intent
    (attach_wants (record { host = g.host; number = g.number; newest = not (g.text == 1); told = λ held. stored (bytes_at (at g contents) held.body) }) files again words first.intent first.wants)
    (step_planned (at g contents) files (Portable (attaching again words)) first.intent good (λ same. absurd (some_state g contents same)) first.wants) first.comes
