-- Opening a store: what was read says what it points to, and the barrier before it makes it durable.
use Rattle.std.proofs.Common.{◌≡◌, ◌≢◌, ◌⊎◌, ℕ, ◌<◌, ◌≤◌, Bool, true, false, cond, List, [], ◌∷◌, length, Option, Some, None, IfSome, Result, Ok, Err, refl, sym, ap, ◌∙◌, subst, inl, inr, arith, length-append}
use Rattle.std.specs.Prelude.{nat_le}
use Rattle.std.proofs.lemmas.Bool.{leb-false}
use Rattle.std.proofs.lemmas.Fmt.{length-decimal-le}
use Rattle.std.specs.Fmt.{decimal}
use Rattle.ext_disk.specs.Disk.{Node, Tree, Places, Told, DiskState, BothTold, IsDisk, MayLeave, folder, file, now, root_place}
use Rattle.ext_disk.specs.Calls.{Does, DoesTold, IsWithin, synced_in, sync_dir}
use Rattle.ext_disk.specs.Since.{Rests}
use Rattle.ext_store_files.specs.Names.{IsGeneration, current_path, current_text, index_path}
use Rattle.ext_store_files.specs.Reading.{IsFoundAt, found_of}
use Rattle.ext_store_files.specs.declared.reading.Found.{Found}
use Rattle.ext_store_files.specs.declared.reading.Found.TheVariants.{TooLong, File}
use Rattle.ext_store_files.specs.declared.fault.StoreFault.TheVariants.{OutOfMemory, DiskFault, DepotFault, Damaged}
use Rattle.ext_gen.specs.Opened.{Generation}
use Rattle.ext_gen.specs.Store.{State, generation_in, Points, Stands}
use Rattle.ext_gen.specs.Sound.{IsDurably, IsMember, IsSound, StandsSince}
use Rattle.ext_gen.specs.Broken.{IsFaultyIndex, NamesNone}
use Rattle.ext_gen.specs.Opening.{IndexOf, IndexSays, KeepsNow, NamedBy, NamesOf, NumberSays, OpenEnds, OpenSays, OpensTold, TextSays}
use Rattle.ext_gen.specs.declared.errors.StoreErr.{StoreErr}
use Rattle.ext_gen.specs.declared.errors.StoreErr.TheVariants.{Fault, Broken, Mismatch, NotInDepot, Unfinished, Limit}
use Rattle.ext_gen.proofs.StatesLemmas.{durably_left, sound_left, sound_now, stands_points}
use Rattle.ext_gen.proofs.SyncingLemmas.{durably_synced, now_synced, within_since}
use Rattle.ext_gen.proofs.PointsLemmas.{one_generation}

-- no text of `current` has more than 13 bytes
length-current_text : (n : ℕ) → IsGeneration n → length (current_text n) ≤ 13
length-current_text n is =
    let digits : length (decimal n) ≤ 10 = length-decimal-le 10 n (omega arith) (omega (arith, is.1)) (omega (arith, is.1)) in
    omega (arith, length-append (103 ∷ 45 ∷ decimal n) (10 ∷ []))

not_so_long : (bytes : List ℕ) → 13 < length bytes → (n : ℕ) → IsGeneration n → bytes ≢ current_text n
not_so_long bytes long n is same =
    let short = length-current_text n is in
    let as_long = ap length same in
    omega arith

number_none : (o : Option Node) → o ≡ None → (r : Result (Option ℕ) StoreErr) → r ≡ Ok None → NumberSays o r
number_none o absent r is = subst (NumberSays o) (sym is) absent

number_broken : (o : Option Node) → NamesNone o → (r : Result (Option ℕ) StoreErr) → r ≡ Err (Broken 0) → NumberSays o r
number_broken o names r is = subst (NumberSays o) (sym is) (names, refl)

number_named : (bytes : List ℕ) (r : Result (Option ℕ) StoreErr) → NamedBy bytes r → NumberSays (Some (file bytes)) r
number_named bytes (Ok None) named = absurd named
number_named bytes (Ok (Some n)) named = (named.0, ap (λ b. Some (file b)) named.1)
number_named bytes (Err e) named = subst (λ (x : StoreErr). NumberSays (Some (file bytes)) (Err x)) (sym named.0) (named.1, refl)

number_of_file : (bytes : List ℕ) (short : Bool) → nat_le (length bytes) 13 ≡ short → (r : Result (Option ℕ) StoreErr)
    → NamesOf (cond short (File bytes) TooLong) r → NumberSays (Some (file bytes)) r
number_of_file bytes true is r names = number_named bytes r names
number_of_file bytes false is r names = number_broken (Some (file bytes)) (not_so_long bytes (leb-false (length bytes) 13 is)) r names

number_of_node : (o : Option Node) (r : Result (Option ℕ) StoreErr) → NamesOf (found_of 13 o) r → NumberSays o r
number_of_node None r names = number_none None refl r names
number_of_node (Some folder) r names = number_broken (Some folder) tt r names
number_of_node (Some (file bytes)) r names = number_of_file bytes (nat_le (length bytes) 13) refl r names

-- what is made of what was found at `current` says what stands there
number_told : (x : Option Told) (found : Found) (r : Result (Option ℕ) StoreErr) → IfSome x (λ d. found ≡ found_of 13 (d.places current_path).node)
    → NamesOf found r → IfSome x (λ d. NumberSays (d.places current_path).node r)
number_told None found r is names = tt
number_told (Some d) found r is names = number_of_node (d.places current_path).node r (subst (λ f. NamesOf f r) is names)

pub number_says : (disk : DiskState) (path : List (List ℕ)) (found : Found) (r : Result (Option ℕ) StoreErr) → path ≡ current_path → IsFoundAt disk path 13 found
    → NamesOf found r → IfSome disk.told (λ d. NumberSays (d.places current_path).node r)
number_says disk path found r is at names = number_told disk.told found r (subst (λ p. IsFoundAt disk p 13 found) is at) names

index_broken : (n : ℕ) (o : Option Node) → IsFaultyIndex n o 1 → (r : Result Generation StoreErr) → r ≡ Err (Broken 1) → IndexSays n o r
index_broken n o faulty r is = subst (IndexSays n o) (sym is) faulty

index_of_text : (n : ℕ) (text : List ℕ) (r : Result Generation StoreErr) → TextSays n text r → IndexSays n (Some (file text)) r
index_of_text n text (Ok g) says = (says.0, (text, refl, says.1))
index_of_text n text (Err (Fault OutOfMemory)) says = tt
index_of_text n text (Err (Fault DiskFault)) says = tt
index_of_text n text (Err (Fault DepotFault)) says = absurd says
index_of_text n text (Err (Broken line)) says = says
index_of_text n text (Err (Fault (Damaged damage))) says = absurd says
index_of_text n text (Err (Mismatch path listed found)) says = absurd says
index_of_text n text (Err (NotInDepot path)) says = absurd says
index_of_text n text (Err Unfinished) says = absurd says
index_of_text n text (Err (Limit which)) says = absurd says

index_of_file : (n : ℕ) (bytes : List ℕ) (short : Bool) → nat_le (length bytes) 134217728 ≡ short → (r : Result Generation StoreErr)
    → IndexOf n (cond short (File bytes) TooLong) r → IndexSays n (Some (file bytes)) r
index_of_file n bytes true is r index = index_of_text n bytes r index
index_of_file n bytes false is r index = index_broken n (Some (file bytes)) (inl (leb-false (length bytes) 134217728 is, refl)) r index

index_of_node : (n : ℕ) (o : Option Node) (r : Result Generation StoreErr) → IndexOf n (found_of 134217728 o) r → IndexSays n o r
index_of_node n None r index = index_broken n None refl r index
index_of_node n (Some folder) r index = index_broken n (Some folder) refl r index
index_of_node n (Some (file bytes)) r index = index_of_file n bytes (nat_le (length bytes) 134217728) refl r index

index_told : (x : Option Told) (n : ℕ) (found : Found) (r : Result Generation StoreErr) → IfSome x (λ d. found ≡ found_of 134217728 (d.places (index_path n)).node)
    → IndexOf n found r → IfSome x (λ d. IndexSays n (d.places (index_path n)).node r)
index_told None n found r is index = tt
index_told (Some d) n found r is index = index_of_node n (d.places (index_path n)).node r (subst (λ f. IndexOf n f r) is index)

pub index_says : (disk : DiskState) (path : List (List ℕ)) (n : ℕ) (found : Found) (r : Result Generation StoreErr) → path ≡ index_path n → IsFoundAt disk path 134217728 found
    → IndexOf n found r → IfSome disk.told (λ d. IndexSays n (d.places (index_path n)).node r)
index_says disk path n found r is at index = index_told disk.told n found r (subst (λ p. IsFoundAt disk p 134217728 found) is at) index

same_now : (d : Places) → now (synced_in [] d) ≡ now d
same_now d = λ i p. now_synced [] d p i

-- a tree that a stop within the syncing leaves stands for a state for which the store might stand
member_left : (s : State) (d x : Places) (t : Tree) → d [] ≡ root_place → IsSound d → IsMember d s → IsDurably s (synced_in [] d) → (x ≡ d) ⊎ IsWithin (sync_dir []) d x → MayLeave x t
    → (u : State) × IsMember d u × Stands t u
member_left s d x t root sound member durably (inl same) left = sound_left d t root sound (subst (λ f. MayLeave f t) same left)
member_left s d x t root sound member durably (inr (inl is)) left = (s, member, durably_left s (synced_in [] d) t durably (subst (λ f. MayLeave f t) is left))
member_left s d x t root sound member durably (inr (inr (inl same))) left = sound_left d t root sound (subst (λ f. MayLeave f t) same left)
member_left s d x t root sound member durably (inr (inr (inr half))) left = absurd half

pub syncs_durably : (d : Places) → d [] ≡ root_place → (sound : IsSound d) → IsDurably (sound_now d sound).0 (synced_in [] d)
syncs_durably d root sound =
    let one = sound_now d sound in
    durably_synced one.0 d root sound.hard one.1 one.2.durable

syncs_since : (done : Bool) (d e : Told) → IsDisk d → DoesTold (sync_dir []) done d e → IsSound d.places → StandsSince (IsMember d.places) e d.clock
syncs_since done d e disk does sound =
    let one = sound_now d.places sound in
    within_since (IsMember d.places) (sync_dir []) done d e disk does
    (λ x t is left. member_left one.0 d.places x t disk.tree.root sound one.2 (syncs_durably d.places disk.tree.root sound) is left)

ends_durably : (result : Result (Option Generation) StoreErr) (d e : Told) (s : State) → Stands (now d.places) s → IsDurably s e.places → OpenSays result (now d.places) → OpenEnds result d e
ends_durably (Ok answer) d e s stands durably says = (s, one_generation (now d.places) (generation_in s) answer (stands_points (now d.places) s stands) says, stands, durably)
ends_durably (Err x) d e s stands durably says = inr (s, stands, durably)

-- the barrier was passed, and what is answered is what the store points to
opens_told : (result : Result (Option Generation) StoreErr) (d e : Told) → IsDisk d → DoesTold (sync_dir []) true d e → OpenSays result (now d.places) → OpensTold result d e
opens_told result d e disk does says = λ sound.
    let one = sound_now d.places sound in
    record {
      ends = ends_durably result d e one.0 one.1 (subst (IsDurably one.0) (sym does.ends.0) (syncs_durably d.places disk.tree.root sound)) says;
      since = syncs_since true d e disk does sound;
    }

-- it failed
stopped_told : (e : StoreErr) (c d : Told) → IsDisk c → DoesTold (sync_dir []) false c d → OpensTold (Err e) c d
stopped_told e c d disk does = λ sound. record { ends = inl does.ends; since = syncs_since false c d disk does sound }

said_before : (result : Result (Option Generation) StoreErr) (x y : Option Told) → BothTold (DoesTold (sync_dir []) true) x y → IfSome y (λ d. OpenSays result (now d.places)) → IfSome x (λ d. OpenSays result (now d.places))
said_before result None None does says = tt
said_before result None (Some e) does says = tt
said_before result (Some d) None does says = absurd does
said_before result (Some d) (Some e) does says = subst (OpenSays result) (ap now does.ends.0 ∙ same_now d.places) says

-- what was said after the barrier was so before
pub barrier_says : (result : Result (Option Generation) StoreErr) (old mid : DiskState) → Does (sync_dir []) old mid true
    → IfSome mid.told (λ d. OpenSays result (now d.places)) → IfSome old.told (λ d. OpenSays result (now d.places))
barrier_says result old mid does says = said_before result old.told mid.told does.told says

opened_both : (result : Result (Option Generation) StoreErr) (x y : Option Told) → IfSome x IsDisk → BothTold (DoesTold (sync_dir []) true) x y → IfSome y (λ d. OpenSays result (now d.places)) → BothTold (OpensTold result) x y
opened_both result None None disk does says = tt
opened_both result None (Some e) disk does says = absurd does
opened_both result (Some d) None disk does says = absurd does
opened_both result (Some d) (Some e) disk does says = opens_told result d e disk does (subst (OpenSays result) (ap now does.ends.0 ∙ same_now d.places) says)

-- a store that was read after the barrier
pub barrier_opens : (result : Result (Option Generation) StoreErr) (old mid new : DiskState) → IfSome old.told IsDisk → Does (sync_dir []) old mid true → Rests mid new
    → IfSome mid.told (λ d. OpenSays result (now d.places)) → BothTold (OpensTold result) old.told new.told
barrier_opens result old mid new disk does rests says =
    subst (BothTold (OpensTold result) old.told) (sym rests.told) (opened_both result old.told mid.told disk does.told says)

stopped_both : (e : StoreErr) (x y : Option Told) → IfSome x IsDisk → BothTold (DoesTold (sync_dir []) false) x y → BothTold (OpensTold (Err e)) x y
stopped_both e None None disk does = tt
stopped_both e None (Some d) disk does = absurd does
stopped_both e (Some c) None disk does = absurd does
stopped_both e (Some c) (Some d) disk does = stopped_told e c d disk does

-- one of which the barrier failed
pub barrier_stops : (e : StoreErr) (old mid : DiskState) → IfSome old.told IsDisk → Does (sync_dir []) old mid false → BothTold (OpensTold (Err e)) old.told mid.told
barrier_stops e old mid disk does = stopped_both e old.told mid.told disk does.told

points_still : (answer : Option Generation) (x y : Option Told) → IfSome x (λ d. Points (now d.places) answer) → BothTold KeepsNow x y → IfSome y (λ e. Points (now e.places) answer)
points_still answer None None points keeps = tt
points_still answer None (Some e) points keeps = absurd keeps
points_still answer (Some d) None points keeps = absurd keeps
points_still answer (Some d) (Some e) points keeps =
    let same : now e.places ≡ now d.places = λ i p. keeps.now p refl i in
    subst (λ t. Points t answer) (sym same) points

-- a store points to what it was opened as
pub opened_points : (answer : Option Generation) (old new : DiskState) → IfSome old.told (λ d. OpenSays (Ok answer) (now d.places)) → BothTold KeepsNow old.told new.told → IfSome new.told (λ e. Points (now e.places) answer)
opened_points answer old new says keeps = points_still answer old.told new.told says keeps
