-- The store folder synced: a store that stands for a state then does so durably; and what a stop within a call leaves.
use Rattle.std.proofs.Common.{◌≡◌, ◌⊎◌, ℕ, ◌<◌, ◌≤◌, Bool, true, false, cond, not, List, [], ◌∷◌, Option, Some, None, IfSome, refl, sym, ap, ◌∙◌, subst, inl, inr, arith}
use Rattle.std.proofs.lemmas.Bool.{cases_lt, and_parts, and_from}
use Rattle.ext_disk.specs.Disk.{Tree, Place, Places, Told, DiskState, IsDisk, MayLeave, at_prefixes, is_durable, is_folder, is_synced, now, root_place}
use Rattle.ext_disk.specs.Calls.{Allows, Call, IsWithin, Does, DoesTold, MayCall, is_child, synced, synced_in, sync_dir}
use Rattle.ext_disk.specs.Since.{Since}
use Rattle.ext_store_files.specs.Names.{current_path}
use Rattle.ext_store_files.specs.Writing.{WorksTold}
use Rattle.ext_store_files.proofs.ForCallers.{still_synced, within_same}
use Rattle.ext_gen.specs.Store.{State, Stands}
use Rattle.ext_gen.specs.Sound.{IsBaseDurable, IsDurably, StandsSince}
use Rattle.ext_gen.proofs.StatesLemmas.{stands_same}

node_synced : (b : Bool) (x : Place) → (cond b (synced x) x).node ≡ x.node
node_synced true x = refl
node_synced false x = refl

unsynced_bytes_synced : (b : Bool) (x : Place) → (cond b (synced x) x).unsynced_bytes ≡ x.unsynced_bytes
unsynced_bytes_synced true x = refl
unsynced_bytes_synced false x = refl

-- the same stands there
pub now_synced : (dir : List (List ℕ)) (d : Places) (p : List (List ℕ)) → (synced_in dir d p).node ≡ (d p).node
now_synced dir d p = node_synced (is_child dir p) (d p)

at_prefixes_weaker : (f g : List (List ℕ) → Bool) (p : List (List ℕ)) → ((q : List (List ℕ)) → f q ≡ true → g q ≡ true) → at_prefixes f p ≡ true → at_prefixes g p ≡ true
at_prefixes_weaker f g [] gives all = gives [] all
at_prefixes_weaker f g (n ∷ p) gives all =
    let parts = and_parts (f []) (at_prefixes (λ q. f (n ∷ q)) p) all in
    and_from _ _ (gives [] parts.0) (at_prefixes_weaker (λ q. f (n ∷ q)) (λ q. g (n ∷ q)) p (λ q. gives (n ∷ q)) parts.1)

-- a durable path stays durable
pub durable_synced : (dir : List (List ℕ)) (d : Places) (p : List (List ℕ)) → is_durable d p ≡ true → is_durable (synced_in dir d) p ≡ true
durable_synced dir d p durable =
    let parts = and_parts (at_prefixes (λ q. is_synced (d q)) p) (not (d p).unsynced_bytes) durable in
    and_from _ _
    (at_prefixes_weaker (λ q. is_synced (d q)) (λ q. is_synced (synced_in dir d q)) p (λ q. still_synced (is_child dir q) (d q)) parts.0)
    (ap not (unsynced_bytes_synced (is_child dir p) (d p)) ∙ parts.1)

-- The store folder is synced: the state for which the store stands, it stands for durably.
pub durably_synced : (s : State) (d : Places) → d [] ≡ root_place → (d current_path).unsynced_bytes ≡ false → Stands (now d) s → IsBaseDurable d s → IsDurably s (synced_in [] d)
durably_synced s d root hard stands base = record {
  current = and_from _ _ (and_from _ _ (ap is_synced root) refl) (ap not hard);
  base = λ p b. durable_synced [] d p (base p b);
  stands = stands_same (now d) (now (synced_in [] d)) s (now_synced [] d current_path) (λ p b. now_synced [] d p) stands;
}

moment_of : (P : State → Type 0) (call : Call) (done : Bool) (d e : Told) (t : Tree) → IsDisk d → DoesTold call done d e
    → ((x : Places) → (x ≡ d.places) ⊎ IsWithin call d.places x → MayLeave x t → (s : State) × P s × Stands t s)
    → (since : Since e d.clock t) → (d.clock < since.moment) ⊎ (since.moment ≤ d.clock) → (s : State) × P s × Stands t s
moment_of P call done d e t disk does gives since (inl late) = gives (e.past since.moment) (inr (does.within since.moment late since.upto)) since.left
moment_of P call done d e t disk does gives since (inr early) =
    let from = since.from in
    let same : since.moment ≡ d.clock = omega arith in
    gives (e.past since.moment) (inl (does.later.past since.moment early ∙ ap d.past same ∙ disk.present)) since.left

-- each tree that a stop since the call may have left stands for a state of these, where that holds before it and at each moment
-- within it
pub within_since : (P : State → Type 0) (call : Call) (done : Bool) (d e : Told) → IsDisk d → DoesTold call done d e
    → ((x : Places) (t : Tree) → (x ≡ d.places) ⊎ IsWithin call d.places x → MayLeave x t → (s : State) × P s × Stands t s) → StandsSince P e d.clock
within_since P call done d e disk does gives =
    λ t since. moment_of P call done d e t disk does (λ x. gives x t) since (cases_lt d.clock since.moment)

-- what stands is the same, and nothing is appended
pub sync_works : (at : List (List ℕ) → Bool) (done : Bool) (d e : Told) → DoesTold (sync_dir []) done d e → WorksTold at 0 d e
sync_works at true d e does = record { now = λ p out. ap (λ (f : Places). (f p).node) does.ends.0 ∙ now_synced [] d.places p; appended = within_same 0 d.appended e.appended does.ends.1 }
sync_works at false d e does = record { now = λ p out. ap (λ (x : Told). (x.places p).node) does.ends; appended = within_same 0 d.appended e.appended (ap (λ (x : Told). x.appended) does.ends) }

may_sync_at : (x : Option Told) → IfSome x IsDisk → IfSome x (λ d. Allows (sync_dir []) d.places)
may_sync_at None disk = tt
may_sync_at (Some d) disk = ap (λ (x : Place). is_folder x.node) disk.tree.root

-- it may be made at the store folder
pub may_sync : (dir : List (List ℕ)) (disk : DiskState) → dir ≡ [] → IfSome disk.told IsDisk → MayCall (sync_dir dir) disk
may_sync dir disk is tree = subst (λ (p : List (List ℕ)). MayCall (sync_dir p) disk) (sym is) (may_sync_at disk.told tree)

-- and is one there
pub syncs : (dir : List (List ℕ)) (old new : DiskState) (done : Bool) → dir ≡ [] → Does (sync_dir dir) old new done → Does (sync_dir []) old new done
syncs dir old new done is does = subst (λ (p : List (List ℕ)). Does (sync_dir p) old new done) is does
