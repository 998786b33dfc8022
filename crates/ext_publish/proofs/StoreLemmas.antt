-- The store: what opening it, and only reading it then, leaves of it; and what it tells of a host's files.
use Rattle.std.proofs.Common.{◌≡◌, ◌⊎◌, ℕ, zero, true, false, List, Option, Some, None, IfSome, Result, Ok, Err, refl, sym, ap, ◌∙◌, subst, inl, inr, arith}
use Rattle.std.specs.Option.{is_some}
use Rattle.std.proofs.lemmas.Bool.{false≢true}
use Rattle.std.proofs.lemmas.Option.{none-some, same_Some}
use Rattle.ext_disk.specs.Disk.{Node, Places, Swing, Told, DiskState, BothTold, IsDisk, now}
use Rattle.ext_disk.specs.Since.{Follows, Rests}
use Rattle.ext_disk.proofs.ForCallers.{follows_itself, follows_then, rests_follow, since_now}
use Rattle.ext_host.specs.Drawn.{HasFile, IsFileOf, trees_of}
use Rattle.ext_host.specs.Held.{HeldFile, IsStampOf}
use Rattle.ext_host.specs.Shelf.{stored}
use Rattle.ext_host.specs.declared.body.Body.{Body}
use Rattle.ext_host.specs.declared.body.Body.TheVariants.{Here, Kept, Depot}
use Rattle.ext_host.specs.declared.home.Home.{Home}
use Rattle.ext_host.specs.declared.host.Host.{Host}
use Rattle.ext_index.specs.ValidIndex.{IsKeptUpTo}
use Rattle.ext_store_files.specs.HeldFiles.{body_told, is_served, node_told, told_at}
use Rattle.ext_store_files.specs.Names.{current_path, home_path}
use Rattle.ext_store_files.proofs.ForCallers.{told_itself, within_same}
use Rattle.ext_gen.specs.Opened.{Generation, IsOpened}
use Rattle.ext_gen.specs.Opening.{KeepsNow, OpenSays, OpensTold}
use Rattle.ext_gen.specs.Sound.{IsDurably, IsGenerationPath, base_folder, base_index, base_home, IsMember, IsSound, MayHold, as_now, as_before, as_after, with_current}
use Rattle.ext_gen.specs.Store.{State, none, at, Stands, generation_in}
use Rattle.ext_gen.specs.declared.errors.StoreErr.{StoreErr}
use Rattle.ext_gen.proofs.ForCallers.{current_is_opened, durably_is_sound, one_generation, one_state, opened_is_served, opened_is_valid_for, sound_left, sound_now, stands_points, durably_marks, stands_with, stands_without}
use Rattle.ext_publish.specs.Attempting.{TellsHost, TellsOpened}
use Rattle.ext_publish.specs.Store.{KeepsStore, StaysSound, body_bytes, bytes_in}

-- the state with other contents
abbrev with_contents : State → (Home → List ℕ) → State
with_contents none contents = none
with_contents (at g old) contents = at g contents

path_with : (s : State) (p : List (List ℕ)) (contents : Home → List ℕ) → IsGenerationPath s p → IsGenerationPath (with_contents s contents) p
path_with s p contents (base_folder g old) = base_folder g contents
path_with s p contents (base_index g old) = base_index g contents
path_with s p contents (base_home g old held kept is) = base_home g contents held kept is

rests_on_one : (s : State) (p : List (List ℕ)) → IsGenerationPath s p → is_some (generation_in s) ≡ true
rests_on_one s p (base_folder g contents) = refl
rests_on_one s p (base_index g contents) = refl
rests_on_one s p (base_home g contents held kept is) = refl

-- two states of one generation rest on the same paths
same_paths : (s u : State) (p : List (List ℕ)) → generation_in s ≡ generation_in u → IsGenerationPath s p → IsGenerationPath u p
same_paths none u p same path = absurd (false≢true (rests_on_one none p path))
same_paths (at g contents) none p same path = absurd (none-some g (sym same))
same_paths (at g contents) (at h others) p same path = subst (λ k. IsGenerationPath (at k others) p) (same_Some _ _ same) (path_with (at g contents) p others path)

no_swing : (o : Option Swing) (w : Swing) → is_some o ≡ false → o ≡ Some w → ⊥
no_swing o w still some = false≢true (sym still ∙ ap is_some some)

-- without an unsynced rename, what may be held is what is
holds_now : (d : Places) (s : State) (node : Option Node) → is_some (d current_path).unsynced_rename ≡ false → MayHold d node → Stands (with_current node (now d)) s → Stands (now d) s
holds_now d s node still as_now stands = stands_without (now d) s stands
holds_now d s node still (as_before w is) stands = absurd (no_swing (d current_path).unsynced_rename w still is)
holds_now d s node still (as_after w is) stands = absurd (no_swing (d current_path).unsynced_rename w still is)

same_now : (d e : Told) → KeepsNow d e → now e.places ≡ now d.places
same_now d e keeps = λ i p. keeps.now p refl i

-- whatever a durable store stands for, it stood for before
member_before : (d e : Told) (u : State) → IsSound d.places → KeepsNow d e → IsDurably u e.places → (s : State) → IsMember e.places s → IsMember d.places s
member_before d e u sound keeps durably s member =
    let stands : Stands (now d.places) s = subst (λ t. Stands t s) (same_now d e keeps) (holds_now e.places s member.node (durably_marks u e.places durably).2 member.may member.stands) in
    let one = sound_now d.places sound in
    record {
      node = (d.places current_path).node;
      may = as_now;
      stands = stands_with (now d.places) s stands;
      durable = base one.2.node one.2.durable (one_state (now d.places) one.0 s one.1 stands);
    }
  where
    base : Option Node → Rattle.ext_gen.specs.Sound.IsBaseDurable d.places (sound_now d.places sound).0 → generation_in (sound_now d.places sound).0 ≡ generation_in s → Rattle.ext_gen.specs.Sound.IsBaseDurable d.places s
    base node durable same = λ p path. durable p (same_paths s (sound_now d.places sound).0 p (sym same) path)

stays_opened : (result : Result (Option Generation) StoreErr) (d e : Told) → KeepsNow d e → OpensTold result d e → IsSound d.places → StaysSound d e
stays_opened (Ok answer) d e keeps opens sound =
    let says = opens sound in
    record { sound = durably_is_sound says.ends.0 e.places says.ends.3; within = member_before d e says.ends.0 sound keeps says.ends.3; since = says.since }
stays_opened (Err error) d e keeps opens sound = side (opens sound).ends
  where
    side : (e ≡ d) ⊎ ((s : State) × Stands (now d.places) s × IsDurably s e.places) → StaysSound d e
    side (inl same) = record {
      sound = subst (λ (x : Told). IsSound x.places) (sym same) sound;
      within = λ s member. subst (λ (x : Told). IsMember x.places s) same member;
      since = (opens sound).since;
    }
    side (inr one) = record { sound = durably_is_sound one.0 e.places one.2; within = member_before d e one.0 sound keeps one.2; since = (opens sound).since }

-- a store that was opened, or not, and then only read
pub keeps_store : (result : Result (Option Generation) StoreErr) (old mid new : DiskState) → Follows old mid → BothTold KeepsNow old.told mid.told → BothTold (OpensTold result) old.told mid.told → Rests mid new → KeepsStore old new
keeps_store result old mid new follows keeps opens rests = record {
  follows = follows_then old mid new follows (rests_follow mid new rests);
  now = subst (BothTold KeepsNow old.told) (sym rests.told) keeps;
  sound = subst (BothTold (λ d e. IsSound d.places → StaysSound d e) old.told) (sym rests.told) (both old.told mid.told keeps opens);
}
  where
    both : (x y : Option Told) → BothTold KeepsNow x y → BothTold (OpensTold result) x y → BothTold (λ d e. IsSound d.places → StaysSound d e) x y
    both None None keeps opens = tt
    both None (Some e) keeps opens = absurd keeps
    both (Some d) None keeps opens = absurd keeps
    both (Some d) (Some e) keeps opens = stays_opened result d e keeps opens

-- a store that is not touched
pub untouched_store : (s : DiskState) → IfSome s.told IsDisk → KeepsStore s s
untouched_store s disk = record { follows = follows_itself s; now = told_itself KeepsNow (λ d. record { now = λ p out. refl; appended = within_same 0 d.appended d.appended refl }) s.told; sound = at s.told disk }
  where
    at : (x : Option Told) → IfSome x IsDisk → BothTold (λ d e. IsSound d.places → StaysSound d e) x x
    at None disk = tt
    at (Some d) disk = λ sound. record {
      sound = sound;
      within = λ s member. member;
      since = λ t since. sound_left d.places t disk.tree.root sound (since_now d t disk since);
    }

seen_file : (host : Host) (held : HeldFile) → HasFile host.root held → IsFileOf (trees_of host) held
seen_file host held has = record { tree = host.root; among = (zero, omega arith, refl); file = has }

-- the files of a host that was opened can be read
pub opened_serves : (g : Generation) → IsOpened g → (held : HeldFile) → HasFile g.host.root held → is_served held.body ≡ true
opened_serves g opened held has = opened_is_served g opened held (seen_file g.host held has)

kept_at : (n : ℕ) (body : Body) → IsKeptUpTo n body → (home : Home) × (body ≡ Kept home)
kept_at n (Here bytes) kept = absurd kept
kept_at n (Kept home) kept = (home, refl)
kept_at n (Depot path) kept = absurd kept

-- what a store tells of a host's files: what it stands for
tells_state : (g : Generation) (contents : Home → List ℕ) (d e : Told) (mid : DiskState) → mid.told ≡ Some e → now e.places ≡ now d.places → Stands (now d.places) (at g contents) → TellsHost mid g.host (at g contents)
tells_state g contents d e mid told same stands = record { is = refl; tells = λ held has. tells held has (home_of held has); stamped = λ held has. stamped held has (home_of held has) }
  where
    home_of : (held : HeldFile) → HasFile g.host.root held → (home : Home) × (held.body ≡ Kept home)
    home_of held has = kept_at g.number held.body ((opened_is_valid_for g (current_is_opened g (now d.places) stands.0)).kept held (seen_file g.host held has))

    tells : (held : HeldFile) → HasFile g.host.root held → (home : Home) × (held.body ≡ Kept home) → body_told mid held.body ≡ stored (bytes_in (at g contents) held)
    tells held has (home, is) =
        ap (body_told mid) is ∙ ap (λ o. told_at o (home_path home.generation home.file)) told
        ∙ ap (λ t. node_told (t (home_path home.generation home.file))) same
        ∙ ap node_told (stands.1.stands held home (record { file = seen_file g.host held has; body = is }))
        ∙ ap stored (sym (ap (body_bytes contents) is))

    stamped : (held : HeldFile) → HasFile g.host.root held → (home : Home) × (held.body ≡ Kept home) → IsStampOf (bytes_in (at g contents) held) held.stamp
    stamped held has (home, is) =
        subst (λ bytes. IsStampOf bytes held.stamp) (sym (ap (body_bytes contents) is)) (stands.1.stamped held home (record { file = seen_file g.host held has; body = is }))

-- the state for which a store stands is that of what was opened
tells_of : (opened : Option Generation) (s : State) (d e : Told) (mid : DiskState) → mid.told ≡ Some e → now e.places ≡ now d.places → Stands (now d.places) s → opened ≡ generation_in s → TellsOpened mid opened s
tells_of None none d e mid told same stands is = refl
tells_of None (at g contents) d e mid told same stands is = absurd (none-some g is)
tells_of (Some g) none d e mid told same stands is = absurd (none-some g (sym is))
tells_of (Some g) (at h contents) d e mid told same stands is = subst (λ (k : Generation). TellsHost mid k.host (at h contents)) (sym (same_Some _ _ is)) (tells_state h contents d e mid told same stands)

-- what a store that was opened tells
pub opened_tells : (opened : Option Generation) (mid : DiskState) (x : Option Told) → BothTold KeepsNow x mid.told → IfSome x (λ d. OpenSays (Ok opened) (now d.places))
    → IfSome x (λ d. (s : State) → Stands (now d.places) s → TellsOpened mid opened s)
opened_tells opened mid None keeps says = tt
opened_tells opened mid (Some d) keeps says = λ s stands. told mid.told refl keeps s stands
  where
    told : (y : Option Told) → mid.told ≡ y → BothTold KeepsNow (Some d) y → (s : State) → Stands (now d.places) s → TellsOpened mid opened s
    told None is keeps s stands = absurd keeps
    told (Some e) is keeps s stands = tells_of opened s d e mid is (same_now d e keeps) stands (one_generation (now d.places) opened (generation_in s) says (stands_points (now d.places) s stands))
