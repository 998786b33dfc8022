-- How a run carries out what may be published: what stands after each stage, and what a stop leaves.
use Rattle.std.proofs.Common.{◌≡◌, ◌≢◌, ◌⊎◌, ℕ, zero, suc, ◌+◌, ◌<◌, ◌≤◌, Bool, true, false, not, cond, ◌||◌, List, [], ◌∷◌, ◌++◌, Option, Some, None, IfErr, IfSome, Result, Ok, Err, refl, sym, ap, ◌∙◌, subst, inl, inr, arith, append_assoc}
use Rattle.std.specs.Option.{is_some}
use Rattle.std.specs.Ordering.{eq_by_cmp}
use Rattle.std.specs.FinMap.{put}
use Rattle.std.specs.FinMap.Entries.{find-put}
use Rattle.std.proofs.lemmas.Bool.{false≢true, true≢false, and_parts, and_from, or_from, cond-true, cond-false, not-true}
use Rattle.sha2.specs.Sha256.{sha256}
use Rattle.ext_lines.specs.ByteOrder.{bytes_cmp}
use Rattle.ext_text.specs.Digest.{IsDigest}
use Rattle.ext_text.specs.Path.{is_prefix, path_cmp}
use Rattle.ext_text.proofs.ForCallers.{prefix_self, prefix_trans, same_path, tied_path}
use Rattle.ext_disk.specs.Disk.{Tree, Places, Told, DiskState, IsDisk, IsTree, file, folder, at_prefixes, is_durable, is_folder, is_no_folder, is_synced, now}
use Rattle.ext_disk.specs.Fixed.{IsUnchangedAt}
use Rattle.ext_disk.specs.Since.{IsLater, Since}
use Rattle.ext_disk.proofs.ForCallers.{fixed_now, since_past, later_then, unchanged_then}
use Rattle.ext_host.specs.Held.{HeldFile}
use Rattle.ext_host.specs.Shelf.{IsTold}
use Rattle.ext_sums.specs.Manifest.{IsManifest}
use Rattle.ext_sums.specs.Sums.{said}
use Rattle.ext_tree.specs.Tree.{Entries}
use Rattle.ext_published.specs.Asked.{AskedOf, IsPublishAsk}
use Rattle.ext_published.specs.Manifest.{ListsNeither, with_listing}
use Rattle.ext_published.specs.Names.{coming_manifest_name, manifest_name, tree_text_name}
use Rattle.ext_published.specs.Payload.{HasHeldFileAt, listing_name}
use Rattle.ext_published.specs.Places.{coming_manifest_path, published_manifest_path, published_resource_path, tree_text_path}
use Rattle.ext_published.specs.Published.{IsListedThere, IsPublished, published_text}
use Rattle.ext_published.specs.declared.payload.Payload.{Payload}
use Rattle.ext_published.specs.declared.payload.Payload.TheVariants.{Directory, File}
use Rattle.ext_published.proofs.ForCallers.{listing_adds, name_is_listed}
use Rattle.ext_publish.specs.Out.{IsQuiet, file_bytes, files_standing, first_file, first_missing, is_at_or_below, is_left_at, is_missing_at, is_published_at, manifest_bytes, wrong_kind}
use Rattle.ext_publish.specs.Refusing.{HasShortTexts, look_digest}
use Rattle.ext_publish.specs.Carrying.{Carries, ChangesThere, EndsCarrying, EndsClear, IsCleared, IsPublishable, IsResourceWritten, LeavesWell, Tells}
use Rattle.ext_publish.specs.Filling.{AreNamed, IsResourceFilled, IsFilledWith, IsFilling, IsOpenFor, IsPublishedFileOf, is_filled_at}
use Rattle.ext_publish.specs.Folders.{IsCalmAt, MakesDownTold}
use Rattle.ext_publish.specs.Stops.{HasNewManifest, listed_digest, new_manifest}
use Rattle.ext_publish.specs.Switching.{IsLeftBySwitch, IsReadyFor, IsResourceDurable, IsSwitchable, Switches, is_switched_at, with_manifest_text}
use Rattle.ext_publish.specs.declared.stop.Stop.{Stop}
use Rattle.ext_publish.specs.declared.stop.Stop.TheVariants as stops
use Rattle.ext_publish.proofs.FoldersLemmas.{folder_above}
use Rattle.ext_publish.proofs.PrefixLemmas.{at_child, longer_apart}
use Rattle.ext_publish.proofs.ReachLemmas.{above_not_left, at_all, coming_is_left, coming_not_filled, filled_is_left, first_file_same, first_missing_same, left_no_prefix, manifest_not_left, missing_apart, prefix_side, published_parts, right_kinds, unless}
use Rattle.ext_publish.proofs.DigestLemmas.{digest_is}

-- nothing changed but at left-overs, and at folders that were missing
abbrev pub UnchangedOut : AskedOf → Told → Told → Type 0
UnchangedOut asked d e = (p : List (List ℕ)) → is_left_at asked p ≡ false → is_missing_at (now d.places) asked p ≡ false → IsUnchangedAt d e p

-- a path of a quiet disk that is unchanged is left as it was by each stop since
pub fixed_quiet : (d e : Told) (p : List (List ℕ)) → IsDisk d → IsQuiet d.places → IsUnchangedAt d e p → (t : Tree) → Since e d.clock t → t p ≡ (d.places p).node
fixed_quiet d e p disk quiet unchanged t s =
    (unchanged.fixed d.clock (omega arith) (fixed_now d p disk (quiet_durable d.places p quiet))).since t s ∙ unchanged.stays.node
  where
    quiet_durable : (x : Places) (p : List (List ℕ)) → IsQuiet x → is_durable x p ≡ true
    quiet_durable x p quiet = and_from _ _ (at_all (λ q. is_synced (x q)) p (λ q pre. quiet.synced q)) (ap not (quiet.hard p))

not_missing : (asked : AskedOf) (t : Tree) (p : List (List ℕ)) → first_missing t [] asked.folder ≡ None → is_missing_at t asked p ≡ false
not_missing asked t p none = ap (λ o. is_at_or_below o p) none

out_of_missing : (asked : AskedOf) (t : Tree) (first p : List (List ℕ)) → first_missing t [] asked.folder ≡ Some first → is_prefix first p ≡ false → is_missing_at t asked p ≡ false
out_of_missing asked t first p is out = ap (λ o. is_at_or_below o p) is ∙ out

-- before the switch, a stop leaves the old manifest
pub leaves_old : (asked : AskedOf) (payload : Payload) (bytes_of : HeldFile → List ℕ) (d e : Told) → IsPublishAsk asked → IsDisk d → IsQuiet d.places → UnchangedOut asked d e → LeavesWell asked payload bytes_of d e
leaves_old asked payload bytes_of d e ask disk quiet out = record {
  there = λ none t s. record {
    manifest = inl (fixed_quiet d e (published_manifest_path asked) disk quiet (out (published_manifest_path asked) (manifest_not_left asked ask) (not_missing asked (now d.places) (published_manifest_path asked) none)) t s);
    elsewhere = λ p apart. fixed_quiet d e p disk quiet (out p (published_parts asked p apart).0 (not_missing asked (now d.places) p none)) t s;
  };
  missing = λ first is t s p apart. fixed_quiet d e p disk quiet
      (out p (published_parts asked p (missing_apart asked (now d.places) first p is apart)).0 (out_of_missing asked (now d.places) first p is apart)) t s;
}

-- a stage that ends without having published anything
pub carries_old : {T : Type 0} (result : Result T Stop) (store : DiskState) (asked : AskedOf) (payload : Payload) (d e : Told) → IsPublishAsk asked → IsDisk d → UnchangedOut asked d e
    → ((bytes_of : HeldFile → List ℕ) → Tells store payload bytes_of → EndsCarrying result asked payload bytes_of d e) → Carries result store asked payload d e
carries_old result store asked payload d e ask disk out ends = record {
  ends = λ quiet bytes_of tells. ends bytes_of tells;
  stops = λ quiet bytes_of tells. leaves_old asked payload bytes_of d e ask disk quiet out;
}

-- left-overs are gone, and the folder is there
module _ {T : Type 0} (x : T) (asked : AskedOf) (ask : IsPublishAsk asked) (d b c : Told) (out : (p : List (List ℕ)) → is_left_at asked p ≡ false → IsUnchangedAt d b p)
    (first : IsLater d b) (second : IsLater b c) (clears : EndsClear (Ok x) asked d.places b.places) where
  same_way : (q : List (List ℕ)) → is_prefix q asked.folder ≡ true → now b.places q ≡ now d.places q
  same_way q pre = (out q (above_not_left asked q pre)).stays.node

  pub same_missing : first_missing (now b.places) [] asked.folder ≡ first_missing (now d.places) [] asked.folder
  same_missing = first_missing_same (now b.places) (now d.places) [] asked.folder same_way

  pub same_file : first_file (now b.places) [] asked.folder ≡ first_file (now d.places) [] asked.folder
  same_file = first_file_same (now b.places) (now d.places) [] asked.folder same_way

  pub made_out : {U : Type 0} (result : Result U Stop) → MakesDownTold [] asked.folder result b c → UnchangedOut asked d c
  made_out result makes = λ p left missing. unchanged_then d b c p first (out p left) (makes.spares p (ap (λ o. is_at_or_below o p) same_missing ∙ missing))

  module _ {U : Type 0} (y : U) (makes : MakesDownTold [] asked.folder (Ok y) b c) where
    calm_first : IsQuiet d.places → (p : List (List ℕ)) → is_left_at asked p ≡ false → IsCalmAt b.places p
    calm_first quiet p left = let stays = (out p left).stays in record { synced = stays.synced (quiet.synced p); hard = stays.hard (quiet.hard p) }

    pub made_cleared : IsCleared asked d c
    made_cleared = record {
      later = later_then d b c first second;
      out = made_out (Ok y) makes;
      few = clears.0;
      calm = λ quiet p left. makes.ends.calm p (calm_first quiet p left);
      manifest = makes.ends.others (published_manifest_path asked) (longer_apart asked.folder manifest_name) ∙ (out (published_manifest_path asked) (manifest_not_left asked ask)).stays.node;
    }

    pub made_open : IsOpenFor asked c.places
    made_open = record { folder = makes.ends.there; clear = λ p left. makes.ends.others p (left_no_prefix asked p left) ∙ clears.1 p left }

-- what was cleared is so while the resource is written
pub cleared_then : (asked : AskedOf) (d c e : Told) → IsPublishAsk asked → IsLater c e → ((p : List (List ℕ)) → is_filled_at asked p ≡ false → IsUnchangedAt c e p) → IsCleared asked d c → IsCleared asked d e
cleared_then asked d c e ask later out cleared = record {
  later = later_then d c e cleared.later later;
  out = λ p left missing. unchanged_then d c e p cleared.later (cleared.out p left missing) (out p (filled_is_left asked p left));
  few = cleared.few;
  calm = λ quiet p left. let was = cleared.calm quiet p left in let stays = (out p (filled_is_left asked p left)).stays in record { synced = stays.synced was.synced; hard = stays.hard was.hard };
  manifest = (out (published_manifest_path asked) (filled_is_left asked (published_manifest_path asked) (manifest_not_left asked ask))).stays.node ∙ cleared.manifest;
}

-- the resource is written
pub record IsWrittenOut (store : DiskState) (asked : AskedOf) (payload : Payload) (d e : Told) : Type 0 where
  pub cleared : IsCleared asked d e
  pub folder : (e.places asked.folder).node ≡ Some folder
  pub coming : (e.places (coming_manifest_path asked)).node ≡ None
  pub written : IsResourceWritten store asked payload e.places

pub written_out : (store : DiskState) (asked : AskedOf) (payload : Payload) (d c e : Told) → IsPublishAsk asked → IsLater c e → ((p : List (List ℕ)) → is_filled_at asked p ≡ false → IsUnchangedAt c e p) → IsCleared asked d c → IsOpenFor asked c.places
    → IsResourceWritten store asked payload e.places → IsWrittenOut store asked payload d e
written_out store asked payload d c e ask later out cleared opened written = record {
  cleared = cleared_then asked d c e ask later out cleared;
  folder = (out asked.folder (filled_is_left asked asked.folder (above_not_left asked asked.folder (prefix_self asked.folder)))).stays.node ∙ opened.folder;
  coming = (out (coming_manifest_path asked) (coming_not_filled asked ask)).stays.node ∙ opened.clear (coming_manifest_path asked) (coming_is_left asked);
  written = written;
}

-- the manifest may be switched
pub may_switch : (store : DiskState) (asked : AskedOf) (payload : Payload) (d e : Told) → wrong_kind (now d.places) asked ≡ None → IsWrittenOut store asked payload d e → IsSwitchable asked e.places
may_switch store asked payload d e kinds out = record {
  folder = ap is_folder out.folder;
  coming = record { dir = asked.folder; name = coming_manifest_name; path_is = refl; dir_there = out.folder; path_absent = out.coming };
  manifest = ap (λ o. is_no_folder o) out.cleared.manifest ∙ ap not (right_kinds (now d.places) asked kinds).1;
}

-- a path apart from the manifest has what it had
with_apart : (asked : AskedOf) (text : List ℕ) (t : Tree) (p : List (List ℕ)) → is_prefix (published_manifest_path asked) p ≡ false → with_manifest_text asked text t p ≡ t p
with_apart asked text t p out =
    cond-false (eq_by_cmp path_cmp (published_manifest_path asked) p) (Some (file text)) (t p)
    (unless (eq_by_cmp path_cmp (published_manifest_path asked) p) (λ tied. false≢true (sym out ∙ subst (λ q. is_prefix (published_manifest_path asked) q ≡ true) (same_path _ p tied) (prefix_self (published_manifest_path asked)))))

with_here : (asked : AskedOf) (text : List ℕ) (t : Tree) → with_manifest_text asked text t (published_manifest_path asked) ≡ Some (file text)
with_here asked text t = cond-true (eq_by_cmp path_cmp (published_manifest_path asked) (published_manifest_path asked)) (Some (file text)) (t (published_manifest_path asked)) (tied_path _ (published_manifest_path asked) refl)

-- the new manifest lists the name with the digest
lists_new : (asked : AskedOf) (t u : Tree) (payload : Payload) (name digest : List ℕ) → IsDigest digest → Rattle.ext_sums.specs.Entry.is_listed_name name ≡ true → listing_name payload asked.name ≡ name → look_digest payload ≡ digest
    → (sums : Rattle.ext_sums.specs.Sums.Entries) → IsManifest (manifest_bytes t asked) sums → said sums name ≡ None → HasShortTexts asked payload t
    → IsListedThere (files_standing (with_manifest_text asked (with_listing (manifest_bytes t asked) digest name) u)) asked name digest
lists_new asked t u payload name digest is listed name_is digest_same sums reads none texts = record {
  text = with_listing (manifest_bytes t asked) digest name;
  stands = ap file_bytes (with_here asked (with_listing (manifest_bytes t asked) digest name) u);
  size = subst (λ n. Rattle.std.proofs.Common.length (with_listing (manifest_bytes t asked) digest n) ≤ Rattle.ext_published.specs.Manifest.most_published_text) name_is
      (subst (λ h. Rattle.std.proofs.Common.length (with_listing (manifest_bytes t asked) h (listing_name payload asked.name)) ≤ Rattle.ext_published.specs.Manifest.most_published_text) digest_same texts.new);
  sums = put bytes_cmp name digest sums;
  reads = listing_adds (manifest_bytes t asked) digest name sums is listed reads none;
  lists = find-put bytes_cmp Rattle.ext_lines.specs.ByteOrder.bytes_total name name digest sums ∙ cond-true (eq_by_cmp bytes_cmp name name) (Some digest) (said sums name) (Rattle.ext_text.proofs.ForCallers.tied_name name name refl);
}

-- the digest that is listed is that of the bytes
pub digest_same : (store : DiskState) (payload : Payload) (bytes_of : HeldFile → List ℕ) → Tells store payload bytes_of → look_digest payload ≡ listed_digest payload bytes_of
digest_same store (Directory tree) bytes_of tells = refl
digest_same store (File held) bytes_of tells = (tells.stamped held refl).digest

-- a file of what is published has the bytes that the store tells
filled_bytes : (store : DiskState) (payload : Payload) (bytes_of : HeldFile → List ℕ) (held : HeldFile) (path : List (List ℕ)) (e : Places) → Tells store payload bytes_of → IsPublishedFileOf payload held → IsFilledWith store held path e
    → (e path).node ≡ Some (file (bytes_of held))
filled_bytes store payload bytes_of held path e tells is filled =
    filled.3.node ∙ ap (λ (b : List ℕ). Some (file b)) (subst (λ t. IsTold t filled.0) (tells.tells held is) filled.1)

-- the paths at and below the resource lie apart from the manifest
resource_apart : (asked : AskedOf) → IsPublishAsk asked → (rest : List (List ℕ)) → is_prefix (published_manifest_path asked) (published_resource_path asked ++ rest) ≡ false
resource_apart asked ask rest =
    ap (is_prefix (published_manifest_path asked)) (append_assoc asked.folder (asked.name ∷ []) rest)
    ∙ Rattle.ext_publish.proofs.PrefixLemmas.names_apart asked.folder manifest_name asked.name rest (λ same. ask.name.no_manifest (sym same))

text_apart : (asked : AskedOf) → is_prefix (published_manifest_path asked) (tree_text_path asked) ≡ false
text_apart asked = Rattle.ext_publish.proofs.PrefixLemmas.names_apart asked.folder manifest_name (tree_text_name asked.name) [] (Rattle.ext_publish.proofs.PrefixLemmas.no_manifest_text asked.name)

-- with the new manifest it is published
pub published_with : (store : DiskState) (asked : AskedOf) (payload : Payload) (bytes_of : HeldFile → List ℕ) (t : Tree) (e : Places) → IsPublishAsk asked → IsPublishable asked t payload → Tells store payload bytes_of → IsResourceFilled store asked payload e
    → IsPublished (files_standing (with_manifest_text asked (new_manifest t asked payload bytes_of) (now e))) asked payload bytes_of
published_with store asked (Directory tree) bytes_of t e ask may tells filled = record {
  size = may.texts.text;
  text = ap file_bytes (with_apart asked _ (now e) (tree_text_path asked) (text_apart asked) ∙ filled.0.node);
  listed = lists_new asked t (now e) (Directory tree) (tree_text_name asked.name) (sha256 (published_text tree)) (digest_is (published_text tree)) (name_is_listed (tree_text_name asked.name) ask.name.text) refl refl
      may.manifest.sums may.manifest.reads may.manifest.no_text may.texts;
  files = λ path held has. ap file_bytes (with_apart asked _ (now e) (published_resource_path asked ++ path) (resource_apart asked ask path)
      ∙ filled_bytes store (Directory tree) bytes_of held (published_resource_path asked ++ path) e tells (path, has) (filled.1.files path held has));
}
published_with store asked (File held) bytes_of t e ask may tells filled = record {
  file = ap file_bytes (with_apart asked _ (now e) (published_resource_path asked) (Rattle.ext_publish.proofs.PrefixLemmas.names_apart asked.folder manifest_name asked.name [] (λ same. ask.name.no_manifest (sym same)))
      ∙ filled_bytes store (File held) bytes_of held (published_resource_path asked) e tells refl filled);
  listed = lists_new asked t (now e) (File held) asked.name (sha256 (bytes_of held)) (digest_is (bytes_of held)) (name_is_listed asked.name ask.name.within) refl (tells.stamped held refl).digest
      may.manifest.sums may.manifest.reads may.manifest.no_name may.texts;
}

-- the prefixes of the folder are synced
calm_above : (asked : AskedOf) (d e : Told) → IsQuiet d.places → IsCleared asked d e → at_prefixes (λ q. is_synced (e.places q)) asked.folder ≡ true
calm_above asked d e quiet cleared = at_all (λ q. is_synced (e.places q)) asked.folder (λ q pre. (cleared.calm quiet q (above_not_left asked q pre)).synced)

-- what stands in the folder is durable, where its name and bytes are synced
durable_child : (asked : AskedOf) (d e : Told) (n : List ℕ) → IsQuiet d.places → IsCleared asked d e → is_synced (e.places (asked.folder ++ n ∷ [])) ≡ true → (e.places (asked.folder ++ n ∷ [])).unsynced_bytes ≡ false
    → is_durable e.places (asked.folder ++ n ∷ []) ≡ true
durable_child asked d e n quiet cleared here hard = and_from _ _ (at_child (λ q. is_synced (e.places q)) asked.folder n (calm_above asked d e quiet cleared) here) (ap not hard)

-- where something stands below a path, a folder stands there
above_file : (x : Places) → IsTree x → (p : List (List ℕ)) (n : List ℕ) (s : List (List ℕ)) → is_some (x (p ++ n ∷ s)).node ≡ true → (x p).node ≡ Some folder
above_file x tree p n [] is = tree.parents p n (Rattle.std.proofs.lemmas.Bool.or_left _ _ is)
above_file x tree p n (m ∷ s) is =
    folder_above x tree p (n ∷ []) (above_file x tree (p ++ n ∷ []) m s (subst (λ q. is_some (x q).node ≡ true) (sym (append_assoc p (n ∷ []) (m ∷ s))) is))

-- so is each file of a directory
durable_file : (store : DiskState) (asked : AskedOf) (tree : Entries HeldFile) (d e : Told) (path : List (List ℕ)) (held : HeldFile) → IsDisk e → IsQuiet d.places → IsCleared asked d e
    → IsFilling store asked.folder (published_resource_path asked) tree tree e.places → AreNamed (published_resource_path asked) tree e.places → HasHeldFileAt tree path held
    → is_durable e.places (published_resource_path asked ++ path) ≡ true
durable_file store asked tree d e path held disk quiet cleared filling named has =
    and_from _ _ (at_all (λ q. is_synced (e.places q)) (published_resource_path asked ++ path) (λ q pre. each q (side q pre))) (ap not (filling.files path held has).3.hard)
  where
    side : (q : List (List ℕ)) → is_prefix q (published_resource_path asked ++ path) ≡ true → (is_prefix q (published_resource_path asked) ≡ true) ⊎ ((r : List (List ℕ)) × (q ≡ published_resource_path asked ++ r) × (is_prefix r path ≡ true))
    side q pre = prefix_side q (published_resource_path asked) path pre

    -- at a prefix of the path below the resource stands a folder, or it is the path itself
    below : (r s : List (List ℕ)) → r ++ s ≡ path → is_synced (e.places (published_resource_path asked ++ r)) ≡ true
    below r [] same = subst (λ p. is_synced (e.places (published_resource_path asked ++ p)) ≡ true) (sym same ∙ Rattle.std.proofs.lemmas.List.append-nil r) (named path held has)
    below r (n ∷ s) same =
        let there : (e.places ((published_resource_path asked ++ r) ++ n ∷ s)).node ≡ Some (file (filling.files path held has).0) =
        ap (λ p. (e.places p).node) (append_assoc (published_resource_path asked) r (n ∷ s) ∙ ap (λ p. published_resource_path asked ++ p) same) ∙ (filling.files path held has).3.node in
        (filling.calm r (above_file e.places disk.tree (published_resource_path asked ++ r) n s (ap is_some there))).synced

    above : (q : List (List ℕ)) → (is_prefix q asked.folder ≡ true) ⊎ ((r : List (List ℕ)) × (q ≡ asked.folder ++ r) × (is_prefix r (asked.name ∷ []) ≡ true)) → is_synced (e.places q) ≡ true
    above q (inl pre) = (cleared.calm quiet q (above_not_left asked q pre)).synced
    above q (inr ([], is, pre)) = (cleared.calm quiet q (above_not_left asked q (subst (λ x. is_prefix x asked.folder ≡ true) (sym (is ∙ Rattle.std.proofs.lemmas.List.append-nil asked.folder)) (prefix_self asked.folder)))).synced
    above q (inr (n ∷ [], is, pre)) =
        let same : n ≡ asked.name = Rattle.ext_text.proofs.ForCallers.same_name n asked.name (and_parts (eq_by_cmp Rattle.ext_text.specs.Name.bytes_cmp n asked.name) true pre).0 in
        subst (λ x. is_synced (e.places x) ≡ true) (Rattle.std.proofs.lemmas.List.append-nil (published_resource_path asked) ∙ sym (is ∙ ap (λ (m : List ℕ). asked.folder ++ m ∷ []) same)) (below [] path refl)
    above q (inr (n ∷ m ∷ r, is, pre)) = absurd (false≢true (sym (ap (λ b. b) (Rattle.std.proofs.lemmas.Bool.and_right (eq_by_cmp Rattle.ext_text.specs.Name.bytes_cmp n asked.name) false refl)) ∙ pre))

    each : (q : List (List ℕ)) → (is_prefix q (published_resource_path asked) ≡ true) ⊎ ((r : List (List ℕ)) × (q ≡ published_resource_path asked ++ r) × (is_prefix r path ≡ true)) → is_synced (e.places q) ≡ true
    each q (inl pre) = above q (prefix_side q asked.folder (asked.name ∷ []) pre)
    each q (inr (r, is, pre)) =
        let rest = Rattle.ext_store_files.proofs.ForCallers.rest_of r path pre in
        subst (λ x. is_synced (e.places x) ≡ true) (sym is) (below r rest.0 (sym rest.1))

-- the resource is durable
resource_durable : (store : DiskState) (asked : AskedOf) (payload : Payload) (d e : Told) → IsDisk e → IsQuiet d.places → IsWrittenOut store asked payload d e → IsResourceDurable e.places asked payload
resource_durable store asked (Directory tree) d e disk quiet out = (
  durable_child asked d e (tree_text_name asked.name) quiet out.cleared out.written.text out.written.filled.0.hard,
  λ path held has. durable_file store asked tree d e path held disk quiet out.cleared out.written.filled.1 out.written.filled.2 has,
)
resource_durable store asked (File held) d e disk quiet out = durable_child asked d e asked.name quiet out.cleared out.written.resource out.written.filled.3.hard

-- all is ready for the switch
pub ready : (store : DiskState) (asked : AskedOf) (payload : Payload) (bytes_of : HeldFile → List ℕ) (d e : Told) → IsPublishAsk asked → IsDisk e → IsQuiet d.places → IsPublishable asked (now d.places) payload → Tells store payload bytes_of
    → IsWrittenOut store asked payload d e → IsReadyFor e.places asked payload bytes_of (new_manifest (now d.places) asked payload bytes_of)
ready store asked payload bytes_of d e ask disk quiet may tells out =
    let calm = out.cleared.calm quiet (published_manifest_path asked) (manifest_not_left asked ask) in
    let folder_calm = out.cleared.calm quiet asked.folder (above_not_left asked asked.folder (prefix_self asked.folder)) in
    record {
      published = published_with store asked payload bytes_of (now d.places) e.places ask may tells out.written.filled;
      resource = resource_durable store asked payload d e disk quiet out;
      manifest = durable_child asked d e manifest_name quiet out.cleared calm.synced calm.hard;
      folder = and_from _ _ (calm_above asked d e quiet out.cleared) (ap not folder_calm.hard);
    }

-- the switch spares what lies apart from both manifests
abbrev pub SparedBySwitch : AskedOf → Told → Told → Type 0
SparedBySwitch asked c e = (p : List (List ℕ)) → is_switched_at asked p ≡ false → IsUnchangedAt c e p

module _ (store : DiskState) (asked : AskedOf) (payload : Payload) (bytes_of : HeldFile → List ℕ) (text : List ℕ) (d c e : Told) (ask : IsPublishAsk asked) (disk : IsDisk d) (disk_c : IsDisk c) (later : IsLater c e)
    (may : IsPublishable asked (now d.places) payload) (quiet : IsQuiet d.places) (tells : Tells store payload bytes_of) (text_is : text ≡ new_manifest (now d.places) asked payload bytes_of) (out : IsWrittenOut store asked payload d c)
    (spared : SparedBySwitch asked c e) where
  unchanged_apart : (p : List (List ℕ)) → is_published_at asked p ≡ false → is_missing_at (now d.places) asked p ≡ false → IsUnchangedAt d e p
  unchanged_apart p apart missing =
      let parts = published_parts asked p apart in
      unchanged_then d c e p out.cleared.later (out.cleared.out p parts.0 missing) (spared p (or_from _ _ (Rattle.ext_publish.proofs.ReachLemmas.left_parts asked p parts.0).0 parts.1))

  is_ready : IsReadyFor c.places asked payload bytes_of text
  is_ready = subst (IsReadyFor c.places asked payload bytes_of) (sym text_is) (ready store asked payload bytes_of d c ask disk_c quiet may tells out)

  elsewhere_then : ChangesThere (now d.places) (now e.places) asked
  elsewhere_then p apart missing = (unchanged_apart p apart missing).stays.node

  left_manifest : (stops : (t : Tree) → Since e c.clock t → IsLeftBySwitch (now c.places) t asked payload bytes_of text) → first_missing (now d.places) [] asked.folder ≡ None → (t : Tree) → Since e d.clock t
      → (t (published_manifest_path asked) ≡ now d.places (published_manifest_path asked)) ⊎ (IsPublishable asked (now d.places) payload × HasNewManifest (now d.places) t asked payload bytes_of)
  left_manifest stops none t s = side ((since_past c e d.clock t later).1 s)
    where
      switched : IsLeftBySwitch (now c.places) t asked payload bytes_of text
          → (t (published_manifest_path asked) ≡ now d.places (published_manifest_path asked)) ⊎ (IsPublishable asked (now d.places) payload × HasNewManifest (now d.places) t asked payload bytes_of)
      switched (inl old) = inl (old ∙ out.cleared.manifest)
      switched (inr new) = inr (may, record { manifest = new.0 ∙ ap (λ (b : List ℕ). Some (file b)) text_is; published = new.1 })

      side : Since c d.clock t ⊎ Since e c.clock t
          → (t (published_manifest_path asked) ≡ now d.places (published_manifest_path asked)) ⊎ (IsPublishable asked (now d.places) payload × HasNewManifest (now d.places) t asked payload bytes_of)
      side (inl before) = inl (fixed_quiet d c (published_manifest_path asked) disk quiet
          (out.cleared.out (published_manifest_path asked) (manifest_not_left asked ask) (not_missing asked (now d.places) (published_manifest_path asked) none)) t before)
      side (inr after) = switched (stops t after)

  leaves_new : ((t : Tree) → Since e c.clock t → IsLeftBySwitch (now c.places) t asked payload bytes_of text) → LeavesWell asked payload bytes_of d e
  leaves_new stops = record {
    there = λ none t s. record {
      manifest = left_manifest stops none t s;
      elsewhere = λ p apart. fixed_quiet d e p disk quiet (unchanged_apart p apart (not_missing asked (now d.places) p none)) t s;
    };
    missing = λ first is t s p apart. fixed_quiet d e p disk quiet (unchanged_apart p (missing_apart asked (now d.places) first p is apart) (out_of_missing asked (now d.places) first p is apart)) t s;
  }

-- switched, or not
pub carries_switched : (result : Result (Unit {0}) Stop) (store : DiskState) (asked : AskedOf) (payload : Payload) (text : List ℕ) (d c e : Told) → IsPublishAsk asked → IsDisk d → IsDisk c → IsLater c e → IsPublishable asked (now d.places) payload
    → text ≡ with_listing (manifest_bytes (now d.places) asked) (look_digest payload) (listing_name payload asked.name) → IsWrittenOut store asked payload d c → SparedBySwitch asked c e → Switches result asked text c e
    → IfErr result (λ stop. stop ≡ stops.OutFault) → Carries result store asked payload d e
carries_switched result store asked payload text d c e ask disk disk_c later may text_is out spared switches cause = record {
  ends = λ quiet bytes_of tells. ends result switches cause quiet bytes_of tells;
  stops = λ quiet bytes_of tells. leaves_new store asked payload bytes_of text d c e ask disk disk_c later may quiet tells (text_new bytes_of tells) out spared
      (switches.stops payload bytes_of (is_ready store asked payload bytes_of text d c e ask disk disk_c later may quiet tells (text_new bytes_of tells) out spared));
}
  where
    text_new : (bytes_of : HeldFile → List ℕ) → Tells store payload bytes_of → text ≡ new_manifest (now d.places) asked payload bytes_of
    text_new bytes_of tells = text_is ∙ ap (λ h. with_listing (manifest_bytes (now d.places) asked) h (listing_name payload asked.name)) (digest_same store payload bytes_of tells)

    ends : (result : Result (Unit {0}) Stop) → Switches result asked text c e → IfErr result (λ stop. stop ≡ stops.OutFault) → IsQuiet d.places → (bytes_of : HeldFile → List ℕ) → Tells store payload bytes_of → EndsCarrying result asked payload bytes_of d e
    ends (Ok x) switches cause quiet bytes_of tells =
        let new = text_new bytes_of tells in
        let done = switches.ends payload bytes_of (is_ready store asked payload bytes_of text d c e ask disk disk_c later may quiet tells new out spared) in
        record {
          allowed = may;
          few = out.cleared.few;
          published = done.0;
          durable = (done.2, done.1);
          elsewhere = elsewhere_then store asked payload bytes_of text d c e ask disk disk_c later may quiet tells new out spared;
        }
    ends (Err stop) switches cause quiet bytes_of tells = subst (λ s. EndsCarrying {T = Unit {0}} (Err s) asked payload bytes_of d e) (sym cause) tt
