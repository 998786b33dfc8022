-- Homes for a coming host: by a list of kept files as by the host before.
use Rattle.std.proofs.Common.{◌≡◌, ℕ, ◌+◌, Bool, List, ◌++◌, length, Option, refl, sym, ap, ◌∙◌, subst, arith}
use Rattle.std.specs.Option.{is_some}
use Rattle.std.proofs.lemmas.Bool.{false≢true}
use Rattle.ext_text.proofs.ForCallers.{all_append}
use Rattle.ext_disk.specs.Disk.{Places, DiskState}
use Rattle.ext_depot.specs.Depot.{DepotState}
use Rattle.ext_tree.specs.Tree.{Entries}
use Rattle.ext_host.specs.Held.{HeldFile}
use Rattle.ext_host.specs.declared.host.Host.{Host}
use Rattle.ext_store_files.specs.Names.{generation_path}
use Rattle.ext_store_files.specs.Writing.{Holds, IsMade, Works}
use Rattle.ext_store_files.proofs.ForCallers.{holds_map, works_itself}
use Rattle.ext_homes.specs.Brought.{brought}
use Rattle.ext_homes.specs.Comparing.{stored_in}
use Rattle.ext_homes.specs.Giving.{AreBefore, AreHomesBefore, Gives, stored_by, trees_before}
use Rattle.ext_homes.specs.KeptFiles.{AreKept, lists_in}
use Rattle.ext_homes.specs.Placed.{AreBothPlaced}
use Rattle.ext_homes.specs.Placing.{Placing}
use Rattle.ext_homes.specs.Refused.{HomesCause}
use Rattle.ext_homes.specs.Sought.{AreSought, EntryAmong, IsSought, is_sought}
use Rattle.ext_homes.specs.Written.{HasHomes, is_below}
use Rattle.ext_homes.specs.declared.errors.HomesErr.{HomesErr}
use Rattle.ext_homes.specs.declared.giving.Placed.{Placed}
use Rattle.ext_homes.specs.declared.kept_files.KeptFile.{KeptFile}
use Rattle.ext_homes.proofs.StoredLemmas.{IsAlike, entries_alike, homes_cause_since}
use Rattle.ext_homes.proofs.WritingLemmas.{only_folder_works}

-- in the new folder of a generation no file has its home
no_homes : (n : ℕ) (e : Places) → IsMade (generation_path n) e → HasHomes n 0 e
no_homes n e made = record {
  root = made.node;
  folders = λ k less. absurd (omega arith);
  only = λ p below some. absurd (false≢true (ap is_some (sym (made.empty p below)) ∙ some));
}

-- nothing was done
pub nothing_works : (n most : ℕ) (s : DiskState) → Works (is_below n) (is_below n) most s s
nothing_works n most s = only_folder_works n most s s (works_itself (is_below n) (is_below n) s)

pub new_homes : (n : ℕ) (s : DiskState) → Holds (IsMade (generation_path n)) s → Holds (HasHomes n 0) s
new_homes n s made = holds_map (IsMade (generation_path n)) (HasHomes n 0) (no_homes n) s.told made

pub listed_before : (n : ℕ) (from : Option Host) (marks : List Bool) (files : List KeptFile) → AreKept (trees_before from) (is_sought marks) files → AreHomesBefore n (trees_before from) → AreBefore n (lists_in files)
listed_before n from marks files kept before stamp home listed = before stamp home (kept.each stamp home listed)

-- of the stamps that are sought the list has what the host before keeps
listed_alike : (from : Option Host) (marks : List Bool) (files : List KeptFile) (s : DiskState) → AreKept (trees_before from) (is_sought marks) files → IsAlike (IsSought marks) (stored_in files s) (stored_by from s)
listed_alike from marks files s kept = record { gives = λ stamp home sought listed. kept.each stamp home listed; takes = kept.all; tells = λ stamp home sought listed. refl }

pub host_given : (from : Option Host) (marks : List Bool) (files : List KeptFile) (n count : ℕ) (host : Host) (root lower : Entries HeldFile) (r s : DiskState) (d : DepotState) (placed : Placed)
    → AreKept (trees_before from) (is_sought marks) files → AreSought marks host.root → AreSought marks host.lower
    → Placing (λ written. AreBothPlaced (stored_in files r) d n host.root host.lower 0 root lower written) n 0 count (brought (host.root ++ host.lower)) r s
    → placed ≡ record { host = record host { root = root; lower = lower }; files = count } → Gives from n host r s d placed
host_given from marks files n count host root lower r s d placed kept sought_root sought_lower placing is =
    let alike = listed_alike from marks files r kept in
    let homes = placing.homes in
    subst (Gives from n host r s d) (sym is) (record {
      written = placing.written;
      homes = (
        root,
        lower,
        (
          homes.0,
          homes.1,
          entries_alike (IsSought marks) (stored_in files r) (stored_by from r) d d n host.root 0 root homes.0 alike (λ body. refl) sought_root homes.2,
          entries_alike (IsSought marks) (stored_in files r) (stored_by from r) d d n host.lower (0 + length homes.0) lower homes.1 alike (λ body. refl) sought_lower homes.3,
          homes.4,
        ),
        refl,
      );
      count = let long = placing.count in omega arith;
      told = placing.told;
    })

pub host_cause : (from : Option Host) (marks : List Bool) (files : List KeptFile) (n : ℕ) (root lower : Entries HeldFile) (e : HomesErr) (r s : DiskState) (d after : DepotState)
    → AreKept (trees_before from) (is_sought marks) files → AreSought marks root → AreSought marks lower
    → HomesCause r s d after (stored_in files r) n (root ++ lower) 0 e → HomesCause r s d after (stored_by from r) n (root ++ lower) 0 e
host_cause from marks files n root lower e r s d after kept sought_root sought_lower cause =
    homes_cause_since (IsSought marks) (stored_in files r) (stored_by from r) d d after r r s n (root ++ lower) 0 e (listed_alike from marks files r kept) (λ body. refl)
    (all_append (λ e. EntryAmong (IsSought marks) e.1) root lower sought_root sought_lower) (omega arith) (omega arith) cause
