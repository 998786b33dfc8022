-- The switch: what a rename of the new manifest over the old one leaves of a folder that was ready.
use Rattle.std.proofs.Common.{◌≡◌, ◌≢◌, ◌⊎◌, ℕ, ◌<◌, ◌≤◌, Bool, true, false, cond, not, ◌&&◌, List, [], ◌∷◌, ◌++◌, Option, Some, None, IfSome, Result, Ok, Err, refl, sym, ap, ◌∙◌, subst, inl, inr, arith}
use Rattle.std.proofs.lemmas.Bool.{false≢true, and_parts, and_from, not_from_false, cond-false, cases_lt}
use Rattle.std.specs.Option.{is_some}
use Rattle.std.specs.Result.{is_ok}
use Rattle.std.specs.Ordering.{eq_by_cmp}
use Rattle.ext_text.specs.Path.{is_prefix, path_cmp}
use Rattle.ext_disk.specs.Disk.{Node, Tree, Place, Places, Told, DiskState, BothTold, Swing, MayLeave, IsDisk, file, folder, is_durable, is_file, is_no_folder, is_synced, at_prefixes, now}
use Rattle.ext_disk.specs.Calls.{Allows, CanRename, Does, DoesTold, IsFree, IsWithin, MayCall, left_place, make_file, put, reached_place, rename, renamed, sync_dir, synced, synced_in, is_child}
use Rattle.ext_disk.specs.Fixed.{IsFixed, IsUnchangedAt, Spares}
use Rattle.ext_disk.specs.Since.{IsLater, Since}
use Rattle.ext_disk.proofs.ForCallers.{call_keeps_fixed, fixed_now, since_past, follows_then, call_follows}
use Rattle.ext_host.specs.Held.{HeldFile}
use Rattle.ext_store_files.specs.Writing.{Holds, IsWritten, SyncsIn}
use Rattle.ext_store_files.proofs.ForCallers.{folder_synced}
use Rattle.ext_published.specs.Asked.{AskedOf, IsPublishAsk}
use Rattle.ext_published.specs.Names.{coming_manifest_name, manifest_name, tree_text_name}
use Rattle.ext_published.specs.Places.{coming_manifest_path, published_manifest_path, published_resource_path, tree_text_path}
use Rattle.ext_published.specs.Published.{IsPublished, IsListedThere}
use Rattle.ext_published.specs.declared.payload.Payload.{Payload}
use Rattle.ext_published.specs.declared.payload.Payload.TheVariants.{Directory, File}
use Rattle.ext_publish.specs.Out.{file_bytes, files_standing}
use Rattle.ext_publish.specs.Switching.{EachResource, IsLeftBySwitch, IsReadyFor, IsResourceDurable, IsSwitchable, Switches, is_switched_at, with_manifest_text}
use Rattle.ext_publish.specs.Copying.{WorksAt}
use Rattle.ext_publish.specs.declared.stop.Stop.{Stop}
use Rattle.ext_publish.proofs.TwoDisks.{if_map, put_at, put_off, told_second, told_two, told_with}
use Rattle.ext_publish.proofs.PrefixLemmas.{above_child, at_child, at_weaker, names_apart, no_coming_text, no_manifest_text, proper_child, two_manifests}
use Rattle.ext_depot.specs.Depot.{Files}

-- a path of the resource lies apart from both manifests
abbrev pub IsApart : AskedOf → List (List ℕ) → Type 0
IsApart asked p = (is_prefix (coming_manifest_path asked) p ≡ false) × (is_prefix (published_manifest_path asked) p ≡ false)

below_resource : (asked : AskedOf) → IsPublishAsk asked → (rest : List (List ℕ)) → IsApart asked (asked.folder ++ asked.name ∷ rest)
below_resource asked ask rest = (
  names_apart asked.folder coming_manifest_name asked.name rest (λ same. ask.name.no_coming_manifest (sym same)),
  names_apart asked.folder manifest_name asked.name rest (λ same. ask.name.no_manifest (sym same)),
)

-- of each path of a resource, by one that it has
pub each_with : (P Q : List (List ℕ) → Type 0) (asked : AskedOf) (payload : Payload) → IsPublishAsk asked → ((p : List (List ℕ)) → IsApart asked p → P p → Q p) → EachResource P asked payload → EachResource Q asked payload
each_with P Q asked (Directory tree) ask gives each = (
  gives (tree_text_path asked) (names_apart asked.folder coming_manifest_name (tree_text_name asked.name) [] (no_coming_text asked.name), names_apart asked.folder manifest_name (tree_text_name asked.name) [] (no_manifest_text asked.name)) each.0,
  λ path held has. gives (published_resource_path asked ++ path)
      (subst (IsApart asked) (sym (Rattle.std.proofs.Common.append_assoc asked.folder (asked.name ∷ []) path)) (below_resource asked ask path)) (each.1 path held has),
)
each_with P Q asked (File held) ask gives each = gives (published_resource_path asked) (below_resource asked ask []) each

-- of each path of a resource, by two facts
pub each_both : (P Q R : List (List ℕ) → Type 0) (asked : AskedOf) (payload : Payload) → ((p : List (List ℕ)) → P p → Q p → R p) → EachResource P asked payload → EachResource Q asked payload → EachResource R asked payload
each_both P Q R asked (Directory tree) gives one two = (gives _ one.0 two.0, λ path held has. gives _ (one.1 path held has) (two.1 path held has))
each_both P Q R asked (File held) gives one two = gives _ one two

listed_same : (c e : Files) (asked : AskedOf) (name digest : List ℕ) → e (published_manifest_path asked) ≡ c (published_manifest_path asked) → IsListedThere c asked name digest → IsListedThere e asked name digest
listed_same c e asked name digest same listed = record { text = listed.text; stands = same ∙ listed.stands; size = listed.size; sums = listed.sums; reads = listed.reads; lists = listed.lists }

-- whether a resource is published depends on its paths alone
pub published_same : (c e : Files) (asked : AskedOf) (payload : Payload) (bytes_of : HeldFile → List ℕ) → e (published_manifest_path asked) ≡ c (published_manifest_path asked)
    → EachResource (λ p. e p ≡ c p) asked payload → IsPublished c asked payload bytes_of → IsPublished e asked payload bytes_of
published_same c e asked (Directory tree) bytes_of manifest each published = record {
  size = published.size;
  text = each.0 ∙ published.text;
  listed = listed_same c e asked _ _ manifest published.listed;
  files = λ path held has. each.1 path held has ∙ published.files path held has;
}
published_same c e asked (File held) bytes_of manifest each published = record { file = each ∙ published.file; listed = listed_same c e asked _ _ manifest published.listed }

-- with another manifest, the same stands at each path apart from it
apart_is : (asked : AskedOf) (text : List ℕ) (t : Tree) (p : List (List ℕ)) → is_prefix (published_manifest_path asked) p ≡ false → with_manifest_text asked text t p ≡ t p
apart_is asked text t p out = cond-false (eq_by_cmp path_cmp (published_manifest_path asked) p) (Some (file text)) (t p) (not_tied (eq_by_cmp path_cmp (published_manifest_path asked) p) refl)
  where
    not_tied : (b : Bool) → eq_by_cmp path_cmp (published_manifest_path asked) p ≡ b → eq_by_cmp path_cmp (published_manifest_path asked) p ≡ false
    not_tied false is = is
    not_tied true tied = absurd (false≢true (sym out ∙ subst (λ q. is_prefix (published_manifest_path asked) q ≡ true) (Rattle.ext_text.proofs.ForCallers.same_path _ p tied) (Rattle.ext_text.proofs.ForCallers.prefix_self (published_manifest_path asked))))

-- where the new manifest stands, and each path of the resource is as it was, it is published
pub published_then : (asked : AskedOf) (payload : Payload) (bytes_of : HeldFile → List ℕ) (text : List ℕ) (before t : Tree) → IsPublishAsk asked → IsPublished (files_standing (with_manifest_text asked text before)) asked payload bytes_of
    → t (published_manifest_path asked) ≡ Some (file text) → EachResource (λ p. t p ≡ before p) asked payload → IsPublished (files_standing t) asked payload bytes_of
published_then asked payload bytes_of text before t ask published manifest each =
    published_same (files_standing (with_manifest_text asked text before)) (files_standing t) asked payload bytes_of
    (ap file_bytes manifest ∙ sym (ap file_bytes (here (published_manifest_path asked))))
    (each_with (λ p. t p ≡ before p) (λ p. files_standing t p ≡ files_standing (with_manifest_text asked text before) p) asked payload ask
    (λ p apart same. ap file_bytes (same ∙ sym (apart_is asked text before p apart.1))) each) published
  where
    here : (q : List (List ℕ)) → cond (eq_by_cmp path_cmp q q) (Some (file text)) (before q) ≡ Some (file text)
    here q = Rattle.std.proofs.lemmas.Bool.cond-true (eq_by_cmp path_cmp q q) (Some (file text)) (before q) (Rattle.ext_text.proofs.ForCallers.tied_path q q refl)

-- the prefixes of a folder are synced
abbrev AreSynced : List (List ℕ) → Places → Type 0
AreSynced dir x = at_prefixes (λ q. is_synced (x q)) dir ≡ true

-- a stop leaves one of the two at the path
abbrev LeavesEither : List (List ℕ) → Option Node → Option Node → Places → Type 0
LeavesEither p before after x = (t : Tree) → MayLeave x t → (t p ≡ before) ⊎ (t p ≡ after)

either_before : (p : List (List ℕ)) (before after : Option Node) (x : Places) → is_durable x p ≡ true → (x p).node ≡ before → LeavesEither p before after x
either_before p before after x durable is = λ t left. inl (left.durable p durable ∙ is)

either_after : (p : List (List ℕ)) (before after : Option Node) (x : Places) → is_durable x p ≡ true → (x p).node ≡ after → LeavesEither p before after x
either_after p before after x durable is = λ t left. inr (left.durable p durable ∙ is)

either_swung : (dir : List (List ℕ)) (b : List ℕ) (before after : Option Node) (x : Places) → AreSynced dir x → (x (dir ++ b ∷ [])).unsynced_rename ≡ Some (record { before = before; after = after }) → LeavesEither (dir ++ b ∷ []) before after x
either_swung dir b before after x synced is = λ t left. left.unsynced_rename (dir ++ b ∷ []) (record { before = before; after = after }) is (proper_child (λ q. is_synced (x q)) dir b ∙ synced)

-- a path in a folder is durable where the folder is synced, and the path itself
child_durable : (dir : List (List ℕ)) (b : List ℕ) (x : Places) → AreSynced dir x → is_synced (x (dir ++ b ∷ [])) ≡ true → (x (dir ++ b ∷ [])).unsynced_bytes ≡ false → is_durable x (dir ++ b ∷ []) ≡ true
child_durable dir b x synced here hard = and_from _ _ (at_child (λ q. is_synced (x q)) dir b synced here) (ap not hard)

durable_parts : (x : Places) (p : List (List ℕ)) → is_durable x p ≡ true → (at_prefixes (λ q. is_synced (x q)) p ≡ true) × ((x p).unsynced_bytes ≡ false)
durable_parts x p durable = let parts = and_parts (at_prefixes (λ q. is_synced (x q)) p) (not (x p).unsynced_bytes) durable in (parts.0, Rattle.std.proofs.lemmas.Bool.not-true (x p).unsynced_bytes parts.1)

-- the test of a path that is durable itself
at_itself : (f : List (List ℕ) → Bool) (p : List (List ℕ)) → at_prefixes f p ≡ true → f p ≡ true
at_itself f [] all = all
at_itself f (n ∷ p) all = at_itself (λ q. f (n ∷ q)) p (and_parts (f []) (at_prefixes (λ q. f (n ∷ q)) p) all).1

-- what a rename leaves elsewhere, and at the path to which it was
renamed_off : (from to : List (List ℕ)) (moved : Bool) (d : Places) (p : List (List ℕ)) → eq_by_cmp path_cmp from p ≡ false → eq_by_cmp path_cmp to p ≡ false → renamed from to moved d p ≡ d p
renamed_off from to moved d p one two = cond-false (eq_by_cmp path_cmp from p) _ _ one ∙ cond-false (eq_by_cmp path_cmp to p) _ (d p) two

renamed_to : (from to : List (List ℕ)) (moved : Bool) (d : Places) → eq_by_cmp path_cmp from to ≡ false → is_durable d from ≡ true → is_durable d to ≡ true → renamed from to moved d to ≡ reached_place moved true (d from) (d to)
renamed_to from to moved d two one other =
    cond-false (eq_by_cmp path_cmp from to) _ _ two
    ∙ Rattle.std.proofs.lemmas.Bool.cond-true (eq_by_cmp path_cmp to to) (reached_place moved (is_durable d from && is_durable d to) (d from) (d to)) (d to) (Rattle.ext_text.proofs.ForCallers.tied_path to to refl)
    ∙ ap (λ b. reached_place moved b (d from) (d to)) (and_from _ _ one other)

two_paths : (dir : List (List ℕ)) (a b : List ℕ) → a ≢ b → eq_by_cmp path_cmp (dir ++ a ∷ []) (dir ++ b ∷ []) ≡ false
two_paths dir a b two = none (eq_by_cmp path_cmp (dir ++ a ∷ []) (dir ++ b ∷ [])) refl
  where
    none : (c : Bool) → eq_by_cmp path_cmp (dir ++ a ∷ []) (dir ++ b ∷ []) ≡ c → eq_by_cmp path_cmp (dir ++ a ∷ []) (dir ++ b ∷ []) ≡ false
    none false is = is
    none true tied = absurd (false≢true (sym (names_apart dir a b [] two) ∙ subst (λ q. is_prefix (dir ++ a ∷ []) q ≡ true) (Rattle.ext_text.proofs.ForCallers.same_path _ _ tied) (Rattle.ext_text.proofs.ForCallers.prefix_self (dir ++ a ∷ []))))

-- a rename in a folder leaves its prefixes as they were
renamed_synced : (dir : List (List ℕ)) (a b : List ℕ) (moved : Bool) (d : Places) → AreSynced dir d → AreSynced dir (renamed (dir ++ a ∷ []) (dir ++ b ∷ []) moved d)
renamed_synced dir a b moved d synced =
    at_weaker (λ q. is_synced (d q)) (λ q. is_synced (renamed (dir ++ a ∷ []) (dir ++ b ∷ []) moved d q)) dir
    (λ q pre is. ap is_synced (renamed_off (dir ++ a ∷ []) (dir ++ b ∷ []) moved d q (above_child dir a q pre) (above_child dir b q pre)) ∙ is) synced

-- the two outcomes of a rename in a synced folder, both of whose paths are durable
record CanSwing (dir : List (List ℕ)) (a b : List ℕ) (d : Places) : Type 0 where
  two : a ≢ b
  synced : AreSynced dir d
  from : is_durable d (dir ++ a ∷ []) ≡ true
  to : is_durable d (dir ++ b ∷ []) ≡ true

renamed_either : (dir : List (List ℕ)) (a b : List ℕ) (moved : Bool) (d : Places) → CanSwing dir a b d
    → LeavesEither (dir ++ b ∷ []) (d (dir ++ b ∷ [])).node (d (dir ++ a ∷ [])).node (renamed (dir ++ a ∷ []) (dir ++ b ∷ []) moved d)
renamed_either dir a b moved d can =
    either_swung dir b (d (dir ++ b ∷ [])).node (d (dir ++ a ∷ [])).node (renamed (dir ++ a ∷ []) (dir ++ b ∷ []) moved d) (renamed_synced dir a b moved d can.synced)
    (ap (λ (x : Place). x.unsynced_rename) (renamed_to (dir ++ a ∷ []) (dir ++ b ∷ []) moved d (two_paths dir a b can.two) can.from can.to))

renaming_either : (dir : List (List ℕ)) (a b : List ℕ) (d x : Places) → CanSwing dir a b d → (x ≡ d) ⊎ IsWithin (rename (dir ++ a ∷ []) (dir ++ b ∷ [])) d x
    → LeavesEither (dir ++ b ∷ []) (d (dir ++ b ∷ [])).node (d (dir ++ a ∷ [])).node x
renaming_either dir a b d x can (inl same) =
    subst (LeavesEither (dir ++ b ∷ []) (d (dir ++ b ∷ [])).node (d (dir ++ a ∷ [])).node) (sym same) (either_before (dir ++ b ∷ []) _ _ d can.to refl)
renaming_either dir a b d x can (inr (inl is)) =
    subst (LeavesEither (dir ++ b ∷ []) (d (dir ++ b ∷ [])).node (d (dir ++ a ∷ [])).node) (sym is) (renamed_either dir a b true d can)
renaming_either dir a b d x can (inr (inr (inl same))) =
    subst (LeavesEither (dir ++ b ∷ []) (d (dir ++ b ∷ [])).node (d (dir ++ a ∷ [])).node) (sym same) (either_before (dir ++ b ∷ []) _ _ d can.to refl)
renaming_either dir a b d x can (inr (inr (inr half))) =
    subst (LeavesEither (dir ++ b ∷ []) (d (dir ++ b ∷ [])).node (d (dir ++ a ∷ [])).node) (sym half.1) (renamed_either dir a b half.0 d can)

child_is : (dir : List (List ℕ)) (n : List ℕ) → is_child dir (dir ++ n ∷ []) ≡ true
child_is [] n = refl
child_is (m ∷ dir) n =
    ap (λ c. is_some (cond c (Rattle.ext_disk.specs.Calls.child_name dir (dir ++ n ∷ [])) None)) (Rattle.ext_text.proofs.ForCallers.tied_name m m refl) ∙ child_is dir n

-- a sync of the folder keeps what is synced, and makes the new file durable
synced_still : (dir : List (List ℕ)) (x : Places) → AreSynced dir x → AreSynced dir (synced_in dir x)
synced_still dir x synced =
    at_weaker (λ q. is_synced (x q)) (λ q. is_synced (synced_in dir x q)) dir (λ q pre is. Rattle.ext_store_files.proofs.ForCallers.still_synced (is_child dir q) (x q) is) synced

swung_synced : (dir : List (List ℕ)) (a b : List ℕ) (d : Places) → CanSwing dir a b d → synced_in dir (renamed (dir ++ a ∷ []) (dir ++ b ∷ []) true d) (dir ++ b ∷ []) ≡ synced (reached_place true true (d (dir ++ a ∷ [])) (d (dir ++ b ∷ [])))
swung_synced dir a b d can =
    Rattle.std.proofs.lemmas.Bool.cond-true (is_child dir (dir ++ b ∷ [])) (synced (renamed (dir ++ a ∷ []) (dir ++ b ∷ []) true d (dir ++ b ∷ []))) _ (child_is dir b)
    ∙ ap synced (renamed_to (dir ++ a ∷ []) (dir ++ b ∷ []) true d (two_paths dir a b can.two) can.from can.to)

swung_durable : (dir : List (List ℕ)) (a b : List ℕ) (d : Places) → CanSwing dir a b d → is_durable (synced_in dir (renamed (dir ++ a ∷ []) (dir ++ b ∷ []) true d)) (dir ++ b ∷ []) ≡ true
swung_durable dir a b d can =
    let x = renamed (dir ++ a ∷ []) (dir ++ b ∷ []) true d in
    let is = swung_synced dir a b d can in
    child_durable dir b (synced_in dir x) (synced_still dir x (renamed_synced dir a b true d can.synced)) (ap is_synced is)
    (ap (λ (y : Place). y.unsynced_bytes) is ∙ (durable_parts d (dir ++ b ∷ []) can.to).1)

syncing_either : (dir : List (List ℕ)) (a b : List ℕ) (d x : Places) → CanSwing dir a b d → (x ≡ renamed (dir ++ a ∷ []) (dir ++ b ∷ []) true d) ⊎ IsWithin (sync_dir dir) (renamed (dir ++ a ∷ []) (dir ++ b ∷ []) true d) x
    → LeavesEither (dir ++ b ∷ []) (d (dir ++ b ∷ [])).node (d (dir ++ a ∷ [])).node x
syncing_either dir a b d x can (inl same) =
    subst (LeavesEither (dir ++ b ∷ []) (d (dir ++ b ∷ [])).node (d (dir ++ a ∷ [])).node) (sym same) (renamed_either dir a b true d can)
syncing_either dir a b d x can (inr (inl is)) =
    subst (LeavesEither (dir ++ b ∷ []) (d (dir ++ b ∷ [])).node (d (dir ++ a ∷ [])).node) (sym is)
    (either_after (dir ++ b ∷ []) _ _ _ (swung_durable dir a b d can) (ap (λ (y : Place). y.node) (swung_synced dir a b d can)))
syncing_either dir a b d x can (inr (inr (inl same))) =
    subst (LeavesEither (dir ++ b ∷ []) (d (dir ++ b ∷ [])).node (d (dir ++ a ∷ [])).node) (sym same) (renamed_either dir a b true d can)
syncing_either dir a b d x can (inr (inr (inr half))) = absurd half

-- what a stop during a call may have left, by each outcome of the call
since_within : (Q : Tree → Type 0) (call : Rattle.ext_disk.specs.Calls.Call) (done : Bool) (d e : Told) (t : Tree) → IsDisk d → DoesTold call done d e → ((x : Places) → (x ≡ d.places) ⊎ IsWithin call d.places x → MayLeave x t → Q t) → Since e d.clock t → Q t
since_within Q call done d e t disk does gives s = side (cases_lt d.clock s.moment)
  where
    side : (d.clock < s.moment) ⊎ (s.moment ≤ d.clock) → Q t
    side (inl late) = gives (e.past s.moment) (inr (does.within s.moment late s.upto)) s.left
    side (inr early) =
        let from = s.from in
        let same : s.moment ≡ d.clock = omega (arith, early) in
        gives (e.past s.moment) (inl (ap e.past same ∙ does.later.past d.clock (omega arith) ∙ disk.present)) s.left

-- the new manifest is written and durable, and nothing else has changed that is durable
pub record IsWrittenFor (asked : AskedOf) (payload : Payload) (text : List ℕ) (c d : Told) : Type 0 where
  pub resource : EachResource (λ p. IsFixed d c.clock p × ((d.places p).node ≡ (c.places p).node)) asked payload
  pub manifest : IsFixed d c.clock (published_manifest_path asked)
  pub same : (d.places (published_manifest_path asked)).node ≡ (c.places (published_manifest_path asked)).node
  pub coming : is_durable d.places (coming_manifest_path asked) ≡ true
  pub is : (d.places (coming_manifest_path asked)).node ≡ Some (file text)
  pub folder : AreSynced asked.folder d.places
  pub later : IsLater c d

can_swing : (asked : AskedOf) (payload : Payload) (text : List ℕ) (c d : Told) → IsWrittenFor asked payload text c d → CanSwing asked.folder coming_manifest_name manifest_name d.places
can_swing asked payload text c d written = record { two = two_manifests; synced = written.folder; from = written.coming; to = written.manifest.durable }

-- the old manifest, or the new one
abbrev HasOneOf : AskedOf → List ℕ → Told → Tree → Type 0
HasOneOf asked text c t = (t (published_manifest_path asked) ≡ (c.places (published_manifest_path asked)).node) ⊎ (t (published_manifest_path asked) ≡ Some (file text))

one_of : (asked : AskedOf) (payload : Payload) (text : List ℕ) (c d : Told) (t : Tree) → IsWrittenFor asked payload text c d
    → (t (published_manifest_path asked) ≡ (d.places (published_manifest_path asked)).node) ⊎ (t (published_manifest_path asked) ≡ (d.places (coming_manifest_path asked)).node) → HasOneOf asked text c t
one_of asked payload text c d t written (inl old) = inl (old ∙ written.same)
one_of asked payload text c d t written (inr new) = inr (new ∙ written.is)

written_one : (asked : AskedOf) (payload : Payload) (text : List ℕ) (c d : Told) (t : Tree) → IsWrittenFor asked payload text c d → Since d c.clock t → HasOneOf asked text c t
written_one asked payload text c d t written s = inl (written.manifest.since t s ∙ written.same)

renaming_one : (asked : AskedOf) (payload : Payload) (text : List ℕ) (done : Bool) (c d e : Told) (t : Tree) → IsDisk d → IsWrittenFor asked payload text c d → DoesTold (rename (coming_manifest_path asked) (published_manifest_path asked)) done d e
    → Since e c.clock t → HasOneOf asked text c t
renaming_one asked payload text done c d e t disk written does s = side ((since_past d e c.clock t does.later).1 s)
  where
    side : Since d c.clock t ⊎ Since e d.clock t → HasOneOf asked text c t
    side (inl before) = written_one asked payload text c d t written before
    side (inr late) = since_within (HasOneOf asked text c) (rename (coming_manifest_path asked) (published_manifest_path asked)) done d e t disk does
        (λ x within left. one_of asked payload text c d t written (renaming_either asked.folder coming_manifest_name manifest_name d.places x (can_swing asked payload text c d written) within t left)) late

syncing_one : (asked : AskedOf) (payload : Payload) (text : List ℕ) (done : Bool) (c d e f : Told) (t : Tree) → IsDisk d → IsDisk e → IsWrittenFor asked payload text c d
    → DoesTold (rename (coming_manifest_path asked) (published_manifest_path asked)) true d e → DoesTold (sync_dir asked.folder) done e f → Since f c.clock t → HasOneOf asked text c t
syncing_one asked payload text done c d e f t disk after written does syncs s = side ((since_past e f c.clock t syncs.later).1 s)
  where
    side : Since e c.clock t ⊎ Since f e.clock t → HasOneOf asked text c t
    side (inl before) = renaming_one asked payload text true c d e t disk written does before
    side (inr late) = since_within (HasOneOf asked text c) (sync_dir asked.folder) done e f t after syncs
        (λ x within left. one_of asked payload text c d t written (syncing_either asked.folder coming_manifest_name manifest_name d.places x (can_swing asked payload text c d written) (moved x within) t left)) late
      where
        moved : (x : Places) → (x ≡ e.places) ⊎ IsWithin (sync_dir asked.folder) e.places x
            → (x ≡ renamed (coming_manifest_path asked) (published_manifest_path asked) true d.places) ⊎ IsWithin (sync_dir asked.folder) (renamed (coming_manifest_path asked) (published_manifest_path asked) true d.places) x
        moved x within = subst (λ y. (x ≡ y) ⊎ IsWithin (sync_dir asked.folder) y x) does.ends.0 within

-- a path of the resource is fixed through the rename, and through a sync
resource_renamed : (asked : AskedOf) (payload : Payload) (text : List ℕ) (done : Bool) (c d e : Told) → IsPublishAsk asked → IsWrittenFor asked payload text c d → DoesTold (rename (coming_manifest_path asked) (published_manifest_path asked)) done d e
    → EachResource (λ p. IsFixed e c.clock p × ((e.places p).node ≡ (c.places p).node)) asked payload
resource_renamed asked payload text done c d e ask written does =
    each_with (λ p. IsFixed d c.clock p × ((d.places p).node ≡ (c.places p).node)) (λ p. IsFixed e c.clock p × ((e.places p).node ≡ (c.places p).node)) asked payload ask
    (λ p apart was.
    let kept = call_keeps_fixed (rename (coming_manifest_path asked) (published_manifest_path asked)) done d e c.clock p does (λ i. Rattle.std.specs.Prelude.◌||◌ (apart.0 i) (apart.1 i)) written.later.clock was.0 in
    (kept.0, kept.1 ∙ was.1)) written.resource

resource_synced : (asked : AskedOf) (payload : Payload) (done : Bool) (c e f : Told) → IsLater c e → DoesTold (sync_dir asked.folder) done e f → EachResource (λ p. IsFixed e c.clock p × ((e.places p).node ≡ (c.places p).node)) asked payload
    → EachResource (λ p. IsFixed f c.clock p × ((f.places p).node ≡ (c.places p).node)) asked payload
resource_synced asked payload done c e f later does each =
    each_both (λ p. IsFixed e c.clock p × ((e.places p).node ≡ (c.places p).node)) (λ p. IsFixed e c.clock p × ((e.places p).node ≡ (c.places p).node)) (λ p. IsFixed f c.clock p × ((f.places p).node ≡ (c.places p).node)) asked payload
    (λ p was same.
    let kept = call_keeps_fixed (sync_dir asked.folder) done e f c.clock p does refl later.clock was.0 in
    (kept.0, kept.1 ∙ was.1)) each each

-- one of both manifests, with all of the resource
left_by : (asked : AskedOf) (payload : Payload) (bytes_of : HeldFile → List ℕ) (text : List ℕ) (c e : Told) (t : Tree) → IsPublishAsk asked → IsReadyFor c.places asked payload bytes_of text
    → EachResource (λ p. IsFixed e c.clock p × ((e.places p).node ≡ (c.places p).node)) asked payload → Since e c.clock t → HasOneOf asked text c t → IsLeftBySwitch (now c.places) t asked payload bytes_of text
left_by asked payload bytes_of text c e t ask ready each s (inl old) = inl old
left_by asked payload bytes_of text c e t ask ready each s (inr new) =
    inr (
      new,
      published_then asked payload bytes_of text (now c.places) t ask ready.published new
          (each_both (λ p. IsFixed e c.clock p × ((e.places p).node ≡ (c.places p).node)) (λ p. IsFixed e c.clock p × ((e.places p).node ≡ (c.places p).node)) (λ p. t p ≡ now c.places p) asked payload
          (λ p was same. was.0.since t s ∙ was.1) each each),
    )

sync_node : (b : Bool) (x : Place) → (cond b (synced x) x).node ≡ x.node
sync_node true x = refl
sync_node false x = refl

-- the new manifest is written, and its folder synced
written_for : (asked : AskedOf) (payload : Payload) (bytes_of : HeldFile → List ℕ) (text : List ℕ) (c m d : Told) → IsPublishAsk asked → IsDisk c → IsReadyFor c.places asked payload bytes_of text
    → ((p : List (List ℕ)) → is_prefix (coming_manifest_path asked) p ≡ false → IsUnchangedAt c m p) → IsLater c m → IsWritten (coming_manifest_path asked) text m.places → DoesTold (sync_dir asked.folder) true m d → SyncsIn asked.folder m d
    → IsWrittenFor asked payload text c d
written_for asked payload bytes_of text c m d ask disk ready unchanged later written does syncs = record {
  resource = each_with (λ p. is_durable c.places p ≡ true) (λ p. IsFixed d c.clock p × ((d.places p).node ≡ (c.places p).node)) asked payload ask (λ p apart durable. fixed p apart.0 durable) ready.resource;
  manifest = (fixed (published_manifest_path asked) manifest_apart ready.manifest).0;
  same = (fixed (published_manifest_path asked) manifest_apart ready.manifest).1;
  coming = (syncs.durable (durable_parts m.places asked.folder ((unchanged asked.folder folder_apart).fixed c.clock (omega arith) (fixed_now c asked.folder disk ready.folder)).durable).0 coming_manifest_name).1 written.hard;
  is = ap (λ (x : Places). (x (coming_manifest_path asked)).node) does.ends.0 ∙ sync_node (is_child asked.folder (coming_manifest_path asked)) (m.places (coming_manifest_path asked)) ∙ written.node;
  folder = (durable_parts d.places asked.folder (fixed asked.folder folder_apart ready.folder).0.durable).0;
  later = Rattle.ext_disk.proofs.Sparing.later_then c m d later does.later;
}
  where
    fixed : (p : List (List ℕ)) → is_prefix (coming_manifest_path asked) p ≡ false → is_durable c.places p ≡ true → IsFixed d c.clock p × ((d.places p).node ≡ (c.places p).node)
    fixed p apart durable =
        let one = unchanged p apart in
        let kept = call_keeps_fixed (sync_dir asked.folder) true m d c.clock p does refl later.clock (one.fixed c.clock (omega arith) (fixed_now c p disk durable)) in
        (kept.0, kept.1 ∙ one.stays.node)

    manifest_apart : is_prefix (coming_manifest_path asked) (published_manifest_path asked) ≡ false
    manifest_apart = names_apart asked.folder coming_manifest_name manifest_name [] two_manifests

    folder_apart : is_prefix (coming_manifest_path asked) asked.folder ≡ false
    folder_apart = Rattle.ext_publish.proofs.PrefixLemmas.longer_apart asked.folder coming_manifest_name

-- whatever is ready, the new manifest is written for it
abbrev pub Written : AskedOf → List ℕ → Told → Told → Type 0
Written asked text c d = (payload : Payload) (bytes_of : HeldFile → List ℕ) → IsReadyFor c.places asked payload bytes_of text → IsWrittenFor asked payload text c d

abbrev Unchanged : AskedOf → Told → Told → Type 0
Unchanged asked d e = (p : List (List ℕ)) → is_prefix (coming_manifest_path asked) p ≡ false → IsUnchangedAt d e p

three_written : (asked : AskedOf) (text : List ℕ) (x y z : Option Told) → IsPublishAsk asked → IfSome x IsDisk → BothTold (Unchanged asked) x y → BothTold IsLater x y → IfSome y (λ m. IsWritten (coming_manifest_path asked) text m.places)
    → BothTold (DoesTold (sync_dir asked.folder) true) y z → BothTold (SyncsIn asked.folder) y z → BothTold (Written asked text) x z
three_written asked text None None None ask disk unchanged later written does syncs = tt
three_written asked text None None (Some d) ask disk unchanged later written does syncs = absurd does
three_written asked text None (Some m) z ask disk unchanged later written does syncs = absurd later
three_written asked text (Some c) None z ask disk unchanged later written does syncs = absurd later
three_written asked text (Some c) (Some m) None ask disk unchanged later written does syncs = absurd does
three_written asked text (Some c) (Some m) (Some d) ask disk unchanged later written does syncs = λ payload bytes_of ready. written_for asked payload bytes_of text c m d ask disk ready unchanged later written does syncs

-- written and synced
pub written_both : (asked : AskedOf) (text : List ℕ) (old mid new : DiskState) → IsPublishAsk asked → IfSome old.told IsDisk → WorksAt (coming_manifest_path asked) old mid → Holds (IsWritten (coming_manifest_path asked) text) mid
    → Does (sync_dir asked.folder) mid new true → BothTold (Written asked text) old.told new.told
written_both asked text old mid new ask disk works written sync =
    three_written asked text old.told mid.told new.told ask disk works.spares.told works.spares.follows.told written sync.told (folder_synced asked.folder mid.told new.told sync.told)

unswitched_told : (T : Type 0) (stop : Stop) (asked : AskedOf) (text : List ℕ) (d e : Told) → IsDisk d → Unchanged asked d e → Switches {T = T} (Err stop) asked text d e
unswitched_told T stop asked text d e disk unchanged = record {
  ends = λ payload bytes_of ready. tt;
  stops = λ payload bytes_of ready t s.
      let one = unchanged (published_manifest_path asked) (names_apart asked.folder coming_manifest_name manifest_name [] two_manifests) in
      inl ((one.fixed d.clock (omega arith) (fixed_now d (published_manifest_path asked) disk ready.manifest)).since t s ∙ one.stays.node);
}

-- it stopped before the rename
pub unswitched : (T : Type 0) (stop : Stop) (asked : AskedOf) (text : List ℕ) (old new : DiskState) → IfSome old.told IsDisk → Spares (is_prefix (coming_manifest_path asked)) old new → BothTold (Switches {T = T} (Err stop) asked text) old.told new.told
unswitched T stop asked text old new disk spares = told_with IsDisk (Unchanged asked) (Switches {T = T} (Err stop) asked text) (unswitched_told T stop asked text) old.told new.told disk spares.told

abbrev Renames : AskedOf → Bool → Told → Told → Type 0
Renames asked done d e = DoesTold (rename (coming_manifest_path asked) (published_manifest_path asked)) done d e

failed_told : (T : Type 0) (stop : Stop) (asked : AskedOf) (text : List ℕ) (done : Bool) (c d e : Told) → IsPublishAsk asked → Written asked text c d × IsDisk d → Renames asked done d e → Switches {T = T} (Err stop) asked text c e
failed_told T stop asked text done c d e ask written does = record {
  ends = λ payload bytes_of ready. tt;
  stops = λ payload bytes_of ready t s.
      let here = written.0 payload bytes_of ready in
      left_by asked payload bytes_of text c e t ask ready (resource_renamed asked payload text done c d e ask here does) s (renaming_one asked payload text done c d e t written.1 here does s);
}

-- the rename failed
pub rename_failed : (T : Type 0) (stop : Stop) (asked : AskedOf) (text : List ℕ) (old mid new : DiskState) → IsPublishAsk asked → BothTold (Written asked text) old.told mid.told → IfSome mid.told IsDisk
    → Does (rename (coming_manifest_path asked) (published_manifest_path asked)) mid new false → BothTold (Switches {T = T} (Err stop) asked text) old.told new.told
rename_failed T stop asked text old mid new ask written disk does =
    Rattle.ext_store_files.proofs.ForCallers.told_then (λ c d. Written asked text c d × IsDisk d) (Renames asked false) (Switches {T = T} (Err stop) asked text)
    (λ c d e one two. failed_told T stop asked text false c d e ask one two) old.told mid.told new.told
    (Rattle.ext_publish.proofs.TwoDisks.told_and (Written asked text) IsDisk old.told mid.told written disk) does.told

switched_stops : {T : Type 0} (result : Result T Stop) (asked : AskedOf) (payload : Payload) (bytes_of : HeldFile → List ℕ) (text : List ℕ) (done : Bool) (c d e f : Told) → IsPublishAsk asked → IsDisk d → IsDisk e → IsReadyFor c.places asked payload bytes_of text
    → IsWrittenFor asked payload text c d → Renames asked true d e → DoesTold (sync_dir asked.folder) done e f → (t : Tree) → Since f c.clock t → IsLeftBySwitch (now c.places) t asked payload bytes_of text
switched_stops result asked payload bytes_of text done c d e f ask disk after ready written does sync t s =
    left_by asked payload bytes_of text c f t ask ready
    (resource_synced asked payload done c e f (Rattle.ext_disk.proofs.Sparing.later_then c d e written.later does.later) sync (resource_renamed asked payload text true c d e ask written does)) s
    (syncing_one asked payload text done c d e f t disk after written does sync s)

-- renamed and synced, the new manifest stands, and is durable
switched_ends : (asked : AskedOf) (payload : Payload) (bytes_of : HeldFile → List ℕ) (text : List ℕ) (c d e f : Told) → IsPublishAsk asked → IsReadyFor c.places asked payload bytes_of text
    → IsWrittenFor asked payload text c d → Renames asked true d e → DoesTold (sync_dir asked.folder) true e f
    → IsPublished (files_standing (now f.places)) asked payload bytes_of × IsResourceDurable f.places asked payload × (is_durable f.places (published_manifest_path asked) ≡ true)
switched_ends asked payload bytes_of text c d e f ask ready written does sync =
    let can = can_swing asked payload text c d written in
    let is : f.places ≡ synced_in asked.folder (renamed (coming_manifest_path asked) (published_manifest_path asked) true d.places) = sync.ends.0 ∙ ap (synced_in asked.folder) does.ends.0 in
    let manifest = swung_synced asked.folder coming_manifest_name manifest_name d.places can in
    let each = resource_synced asked payload true c e f (Rattle.ext_disk.proofs.Sparing.later_then c d e written.later does.later) sync (resource_renamed asked payload text true c d e ask written does) in (
      published_then asked payload bytes_of text (now c.places) (now f.places) ask ready.published (ap (λ (x : Places). (x (published_manifest_path asked)).node) is ∙ ap (λ (y : Place). y.node) manifest ∙ written.is)
          (each_both (λ p. IsFixed f c.clock p × ((f.places p).node ≡ (c.places p).node)) (λ p. IsFixed f c.clock p × ((f.places p).node ≡ (c.places p).node)) (λ p. now f.places p ≡ now c.places p) asked payload (λ p was same. was.1) each each),
      each_both (λ p. IsFixed f c.clock p × ((f.places p).node ≡ (c.places p).node)) (λ p. IsFixed f c.clock p × ((f.places p).node ≡ (c.places p).node)) (λ p. is_durable f.places p ≡ true) asked payload (λ p was same. was.0.durable) each each,
      ap (λ (x : Places). is_durable x (published_manifest_path asked)) is ∙ swung_durable asked.folder coming_manifest_name manifest_name d.places can,
    )

four_told : (result : Result (Unit {0}) Stop) (asked : AskedOf) (text : List ℕ) (w x y z : Option Told) → IsPublishAsk asked → BothTold (Written asked text) w x → IfSome x IsDisk → IfSome y IsDisk
    → BothTold (Renames asked true) x y → BothTold (DoesTold (sync_dir asked.folder) (is_ok result)) y z → BothTold (Switches result asked text) w z
four_told result asked text None None None None ask written disk after does sync = tt
four_told result asked text None None None (Some f) ask written disk after does sync = absurd sync
four_told result asked text None None (Some e) z ask written disk after does sync = absurd does
four_told result asked text None (Some d) y z ask written disk after does sync = absurd written
four_told result asked text (Some c) None y z ask written disk after does sync = absurd written
four_told result asked text (Some c) (Some d) None z ask written disk after does sync = absurd does
four_told result asked text (Some c) (Some d) (Some e) None ask written disk after does sync = absurd sync
four_told (Ok done) asked text (Some c) (Some d) (Some e) (Some f) ask written disk after does sync = record {
  ends = λ payload bytes_of ready. switched_ends asked payload bytes_of text c d e f ask ready (written payload bytes_of ready) does sync;
  stops = λ payload bytes_of ready t s. switched_stops {T = Unit {0}} (Ok done) asked payload bytes_of text true c d e f ask disk after ready (written payload bytes_of ready) does sync t s;
}
four_told (Err stop) asked text (Some c) (Some d) (Some e) (Some f) ask written disk after does sync = record {
  ends = λ payload bytes_of ready. tt;
  stops = λ payload bytes_of ready t s. switched_stops {T = Unit {0}} (Err stop) asked payload bytes_of text false c d e f ask disk after ready (written payload bytes_of ready) does sync t s;
}

-- the rename was done, and the folder synced or not
pub switched : (result : Result (Unit {0}) Stop) (asked : AskedOf) (text : List ℕ) (old mid after new : DiskState) → IsPublishAsk asked → BothTold (Written asked text) old.told mid.told → IfSome mid.told IsDisk → IfSome after.told IsDisk
    → Does (rename (coming_manifest_path asked) (published_manifest_path asked)) mid after true → Does (sync_dir asked.folder) after new (is_ok result) → BothTold (Switches result asked text) old.told new.told
switched result asked text old mid after new ask written disk after_disk does sync = four_told result asked text old.told mid.told after.told new.told ask written disk after_disk does.told sync.told

-- the calls at the paths of what is asked
pub renames_at : (asked : AskedOf) (from to : List (List ℕ)) (done : Bool) (old new : DiskState) → from ≡ coming_manifest_path asked → to ≡ published_manifest_path asked → Does (rename from to) old new done
    → Does (rename (coming_manifest_path asked) (published_manifest_path asked)) old new done
renames_at asked from to done old new from_is to_is does =
    subst (λ q. Does (rename (coming_manifest_path asked) q) old new done) to_is (subst (λ q. Does (rename q to) old new done) from_is does)

still_node : (dir : List (List ℕ)) (done : Bool) (d e : Told) (p : List (List ℕ)) → DoesTold (sync_dir dir) done d e → (e.places p).node ≡ (d.places p).node
still_node dir true d e p does = ap (λ (x : Places). (x p).node) does.ends.0 ∙ sync_node (is_child dir p) (d.places p)
still_node dir false d e p does = ap (λ (x : Told). (x.places p).node) does.ends

-- the rename may be made
pub may_rename : (asked : AskedOf) (text : List ℕ) (from to : List (List ℕ)) (old mid new : DiskState) {dir : List (List ℕ)} → from ≡ coming_manifest_path asked → to ≡ published_manifest_path asked → IfSome old.told (λ d. IsSwitchable asked d.places)
    → WorksAt (coming_manifest_path asked) old mid → Holds (IsWritten (coming_manifest_path asked) text) mid → Does (sync_dir dir) mid new true → MayCall (rename from to) new
may_rename asked text from to old mid new {dir} from_is to_is may works written sync =
    subst (λ q. MayCall (rename q to) new) (sym from_is) (subst (λ q. MayCall (rename (coming_manifest_path asked) q) new) (sym to_is)
    (at old.told mid.told new.told may works.spares.told written sync.told))
  where
    at : (x y z : Option Told) → IfSome x (λ d. IsSwitchable asked d.places) → BothTold (Unchanged asked) x y → IfSome y (λ m. IsWritten (coming_manifest_path asked) text m.places) → BothTold (DoesTold (sync_dir dir) true) y z
        → IfSome z (λ e. CanRename e.places (coming_manifest_path asked) (published_manifest_path asked))
    at None None None may unchanged written sync = tt
    at None None (Some e) may unchanged written sync = absurd sync
    at None (Some m) z may unchanged written sync = absurd unchanged
    at (Some d) None z may unchanged written sync = absurd unchanged
    at (Some d) (Some m) None may unchanged written sync = absurd sync
    at (Some d) (Some m) (Some e) may unchanged written sync = record {
      dir = asked.folder;
      old_name = coming_manifest_name;
      new_name = manifest_name;
      from_is = refl;
      to_is = refl;
      two = λ same. false≢true (sym (names_apart asked.folder coming_manifest_name manifest_name [] two_manifests) ∙ subst (λ q. is_prefix (coming_manifest_path asked) q ≡ true) same (Rattle.ext_text.proofs.ForCallers.prefix_self (coming_manifest_path asked)));
      from_file = ap is_file (still_node dir true m e (coming_manifest_path asked) sync ∙ written.node);
      to_free = ap is_no_folder (still_node dir true m e (published_manifest_path asked) sync ∙ (unchanged (published_manifest_path asked) (names_apart asked.folder coming_manifest_name manifest_name [] two_manifests)).stays.node) ∙ may.manifest;
    }

-- and the folder may be synced once more
pub may_sync_again : (asked : AskedOf) (path : List (List ℕ)) (mid new : DiskState) → path ≡ asked.folder → IfSome mid.told (λ d. Rattle.ext_disk.specs.Disk.is_folder (d.places asked.folder).node ≡ true)
    → Does (rename (coming_manifest_path asked) (published_manifest_path asked)) mid new true → MayCall (sync_dir path) new
may_sync_again asked path mid new path_is there does =
    subst (λ q. MayCall (sync_dir q) new) (sym path_is)
    (told_second (λ d. Rattle.ext_disk.specs.Disk.is_folder (d.places asked.folder).node ≡ true) (λ e. Rattle.ext_disk.specs.Disk.is_folder (e.places asked.folder).node ≡ true) (Renames asked true)
    (λ d e there told. ap (λ (x : Places). Rattle.ext_disk.specs.Disk.is_folder (x asked.folder).node) told.ends.0
    ∙ ap (λ (x : Place). Rattle.ext_disk.specs.Disk.is_folder x.node) (renamed_off (coming_manifest_path asked) (published_manifest_path asked) true d.places asked.folder
    (above_child asked.folder coming_manifest_name asked.folder (Rattle.ext_text.proofs.ForCallers.prefix_self asked.folder)) (above_child asked.folder manifest_name asked.folder (Rattle.ext_text.proofs.ForCallers.prefix_self asked.folder))) ∙ there)
    mid.told new.told there does.told)

-- where the switch may be made, the folder stands, and does so after the new manifest was written
pub folder_stands : (asked : AskedOf) (old mid new : DiskState) (dir : List (List ℕ)) → IfSome old.told (λ d. IsSwitchable asked d.places) → IfSome old.told IsDisk → WorksAt (coming_manifest_path asked) old mid → Does (sync_dir dir) mid new true
    → IfSome new.told (λ e. Rattle.ext_disk.specs.Disk.is_folder (e.places asked.folder).node ≡ true)
folder_stands asked old mid new dir may disk works sync = at old.told mid.told new.told may disk works.spares.told sync.told
  where
    at : (x y z : Option Told) → IfSome x (λ d. IsSwitchable asked d.places) → IfSome x IsDisk → BothTold (Unchanged asked) x y → BothTold (DoesTold (sync_dir dir) true) y z
        → IfSome z (λ e. Rattle.ext_disk.specs.Disk.is_folder (e.places asked.folder).node ≡ true)
    at None None None may disk unchanged sync = tt
    at None None (Some e) may disk unchanged sync = absurd sync
    at None (Some m) z may disk unchanged sync = absurd unchanged
    at (Some d) None z may disk unchanged sync = absurd unchanged
    at (Some d) (Some m) None may disk unchanged sync = absurd sync
    at (Some d) (Some m) (Some e) may disk unchanged sync =
        ap Rattle.ext_disk.specs.Disk.is_folder (still_node dir true m e asked.folder sync ∙ (unchanged asked.folder (Rattle.ext_publish.proofs.PrefixLemmas.longer_apart asked.folder coming_manifest_name)).stays.node) ∙ may.folder

-- the switch spares what lies apart from both manifests: writing the new one, syncs, and the rename
pub write_switch : (asked : AskedOf) (old new : DiskState) → Spares (is_prefix (coming_manifest_path asked)) old new → Spares (is_switched_at asked) old new
write_switch asked old new spares =
    Rattle.ext_disk.proofs.ForCallers.spares_wider (is_prefix (coming_manifest_path asked)) (is_switched_at asked) old new
    (λ p out. (Rattle.std.proofs.lemmas.Bool.or_parts (is_prefix (coming_manifest_path asked) p) (is_prefix (published_manifest_path asked) p) out).0) spares

pub rename_switch : (asked : AskedOf) (done : Bool) (old new : DiskState) → Does (rename (coming_manifest_path asked) (published_manifest_path asked)) old new done → Spares (is_switched_at asked) old new
rename_switch asked done old new does =
    Rattle.ext_disk.proofs.ForCallers.call_spares_out_of_reach (is_switched_at asked) (rename (coming_manifest_path asked) (published_manifest_path asked)) old new done (λ p out. out) does
