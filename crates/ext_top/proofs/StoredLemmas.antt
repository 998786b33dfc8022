-- What a store that stands for a state tells at the homes of its host's files.
use Rattle.std.proofs.Common.{◌≡◌, ℕ, List, [], Option, Some, None, refl, sym, ap, ◌∙◌, subst, arith}
use Rattle.std.specs.Prelude.{Contains}
use Rattle.ext_depot.specs.Depot.{DepotState}
use Rattle.ext_disk.specs.Disk.{DiskState, Told, now}
use Rattle.ext_tree.specs.Tree.{Entries}
use Rattle.ext_tree.specs.declared.stamp.Stamp.{Stamp}
use Rattle.ext_host.specs.Drawn.{IsFileOf}
use Rattle.ext_host.specs.Held.{HeldFile, IsStampOf}
use Rattle.ext_host.specs.Shelf.{IsFound, stored}
use Rattle.ext_host.specs.declared.body.Body.{Body}
use Rattle.ext_host.specs.declared.body.Body.TheVariants.{Here, Kept, Depot}
use Rattle.ext_host.specs.declared.home.Home.{Home}
use Rattle.ext_host.proofs.ForCallers.{one_stamp}
use Rattle.ext_store_files.specs.Copying.{contents_told}
use Rattle.ext_store_files.specs.HeldFiles.{node_told, told_at}
use Rattle.ext_store_files.specs.Names.{home_path}
use Rattle.ext_homes.specs.Giving.{home_told, lists_kept, stored_by, trees_before}
use Rattle.ext_homes.specs.Placed.{brought_told}
use Rattle.ext_gen.specs.Opened.{Generation}
use Rattle.ext_gen.specs.Preparing.{contents_of, host_before}
use Rattle.ext_gen.specs.Store.{State, none, at, Stands, generation_in}
use Rattle.ext_top.specs.Machine.{depot_of, stored_of, trees_in}
use Rattle.ext_top.proofs.PlacedLemmas.{Alike}

-- no trees have no file
no_tree : (es : Entries HeldFile) → ¬ Contains [] es
no_tree es (k, lt, is) = absurd (omega arith)

pub of_no_tree : (held : HeldFile) → ¬ IsFileOf [] held
of_no_tree held file = no_tree file.tree file.among

-- at the home of a file of its host the store has the state's bytes
pub told_of : (s : State) (d : Told) → Stands (now d.places) s → (stamp : Stamp) (home : Home) → lists_kept (trees_in s) stamp home → told_at (Some d) (home_path home.generation home.file) ≡ stored (contents_of s home)
told_of none d stands stamp home file = absurd (of_no_tree (record { stamp = stamp; body = Kept home }) file)
told_of (at g contents) d stands stamp home file = ap node_told (stands.1.stands (record { stamp = stamp; body = Kept home }) home (record { file = file; body = refl }))

-- and these have the listed stamp
pub stamped_at : (s : State) (d : Told) → Stands (now d.places) s → (stamp : Stamp) (home : Home) → lists_kept (trees_in s) stamp home → IsStampOf (contents_of s home) stamp
stamped_at none d stands stamp home file = absurd (of_no_tree (record { stamp = stamp; body = Kept home }) file)
stamped_at (at g contents) d stands stamp home file = stands.1.stamped (record { stamp = stamp; body = Kept home }) home (record { file = file; body = refl })

pub told_home : (s : State) (d : Told) (disk : DiskState) → disk.told ≡ Some d → Stands (now d.places) s → (stamp : Stamp) (home : Home) → lists_kept (trees_in s) stamp home → home_told disk home ≡ stored (contents_of s home)
told_home s d disk told stands stamp home file = ap (λ o. told_at o (home_path home.generation home.file)) told ∙ told_of s d stands stamp home file

-- what is told of a file of the depot depends on the files alone
pub depot_alike : (d e : DepotState) → e.contents ≡ d.contents → (body : Body) → brought_told e body ≡ brought_told d body
depot_alike d e same (Here bytes) = refl
depot_alike d e same (Kept home) = refl
depot_alike d e same (Depot path) = ap (λ files. contents_told files path) same

-- the store as its disk tells it, and as the state has it, with the files of the depot
pub alike_stored : (s : State) (from : Option Generation) (d : Told) (disk : DiskState) (depot : DepotState) → generation_in s ≡ from → disk.told ≡ Some d → Stands (now d.places) s
    → Alike (stored_by (host_before from) disk) (stored_of s) depot (depot_of depot.contents)
alike_stored s from d disk depot is told stands =
    let trees : trees_before (host_before from) ≡ trees_in s = ap (λ o. trees_before (host_before o)) (sym is) in
    record {
      lists = λ stamp home listed. subst (λ ts. lists_kept ts stamp home) trees listed;
      back = λ stamp home listed. subst (λ ts. lists_kept ts stamp home) (sym trees) listed;
      told = λ stamp home listed. told_home s d disk told stands stamp home listed;
      brought = depot_alike (depot_of depot.contents) depot refl;
    }

-- bytes with the listed stamp are not found to be others
pub stamped_not_found : (bytes : List ℕ) (listed : Stamp) (found : Option Stamp) → IsStampOf bytes listed → ¬ IsFound listed (stored bytes) found
stamped_not_found bytes listed None is differs = differs (sym is.size)
stamped_not_found bytes listed (Some found) is differs = differs.1 (one_stamp bytes found listed differs.2 is)

-- so no file of such a store is damaged
pub none_damaged : (s : State) (d : Told) (disk : DiskState) → disk.told ≡ Some d → Stands (now d.places) s → (stamp : Stamp) (home : Home) (found : Option Stamp) → lists_kept (trees_in s) stamp home
    → ¬ IsFound stamp (home_told disk home) found
none_damaged s d disk told stands stamp home found listed differs =
    stamped_not_found (contents_of s home) stamp found (stamped_at s d stands stamp home listed) (subst (λ t. IsFound stamp t found) (told_home s d disk told stands stamp home listed) differs)
