-- What a survey says, item by item, and what a shelf fails at.
use Rattle.std.proofs.Common.{◌≡◌, ℕ, zero, ◌≤◌, Bool, true, false, cond, List, ◌∷◌, ◌++◌, Some, Result, Ok, Err, refl, sym, ◌∙◌, subst, arith}
use mathlib.Core.Logic.{inl, inr}
use Rattle.std.specs.FinMap.{FinMap}
use Rattle.std.specs.List.{Contains}
use Rattle.std.proofs.lemmas.List.Elements.{Contains-append_right}
use Rattle.ext_lines.specs.ByteOrder.{bytes_cmp}
use Rattle.ext_text.specs.Causes.{Rose}
use Rattle.ext_text.specs.declared.extension.Extension.{Extension}
use Rattle.ext_tree.specs.Tree.{Entries, lookup}
use Rattle.ext_tree.specs.declared.entry.Entry.TheVariants.{File}
use Rattle.ext_host.specs.Held.{HeldFile}
use Rattle.ext_host.specs.Host.{IsBase, hierarchies_in, is_in, merged_hierarchies, present}
use Rattle.ext_host.specs.Planning.{IsBaseTree, ServesAll, ServesHost}
use Rattle.ext_host.specs.Shelf.{IsFound, Told}
use Rattle.ext_host.specs.declared.host.Host.{Host}
use Rattle.ext_host.specs.declared.shelf.ShelfErr.{ShelfErr}
use Rattle.ext_host.specs.declared.shelf.ShelfErr.TheVariants as shelf_errors
use Rattle.ext_find.specs.HostRelease.{ReadsHost, ShelfFault}
use Rattle.ext_find.specs.declared.release.FindErr.{FindErr}
use Rattle.ext_find.specs.declared.release.FindErr.TheVariants as find_errors
use Rattle.ext_find.specs.declared.found.FoundItem.{FoundItem}
use Rattle.ext_view.specs.Errors.{of_find}
use Rattle.ext_view.specs.Judging.{FailsAt, ItemsAs, ListsAs}
use Rattle.ext_view.specs.Matched.{AreMatched}
use Rattle.ext_view.specs.Surveying.{IsFoundIn, IsHostRelease, IsItemOf, Surveys, SurveysAs}
use Rattle.ext_view.specs.declared.surveyed.SurveyItem.{SurveyItem}
use Rattle.ext_view.specs.declared.errors.ViewErr.{ViewErr}
use Rattle.ext_view.specs.declared.errors.ViewErr.TheVariants as errors

-- what rose in a later call rose
pub rose_before : (old mid new : ℕ) → old ≤ mid → Rose mid new → Rose old new
rose_before old mid new le (inl less) = inl (omega arith)
rose_before old mid new le (inr last) = inr last

-- a fault of a later call is one of the whole, where the same is told of the file
pub fault_before : (told here : Told) (old mid new : ℕ) (held : HeldFile) (e : ShelfErr) → here ≡ told → old ≤ mid → ShelfFault mid new here held e → ShelfFault old new told held e
fault_before told here old mid new held shelf_errors.OutOfMemory same le fault = absurd fault
fault_before told here old mid new held shelf_errors.Fault same le fault = rose_before old mid new le fault
fault_before told here old mid new held (shelf_errors.Damaged damage) same le fault = (fault.0, subst (λ t. IsFound damage.listed t damage.found) same fault.1)

module _ (told here : HeldFile → Told) (same : (held : HeldFile) → here held ≡ told held) (old mid new : ℕ) (le : old ≤ mid) where
  pub fails_before : (base : Entries HeldFile) (class : Extension) (place : List (List ℕ)) (name : List ℕ) (e : ShelfErr) → FailsAt here mid new base class place name e → FailsAt told old new base class place name e
  fails_before base class place name e fails = (fails.0, fails.1, fault_before (told fails.0) (here fails.0) old mid new fails.0 e (same fails.0) le fails.2)

  -- what fails at an item fails among the items
  pub lists_fail : (host : Host) (base : Entries HeldFile) (class : Extension) (force : Bool) (release : FinMap bytes_cmp (List ℕ)) (item : FoundItem) (items before after : List FoundItem) (e : ViewErr) → items ≡ before ++ item ∷ after → ItemsAs here mid new host base class force release item (Err e) → ListsAs told old new host base class force release items (Err e)
  lists_fail host base class force release item items before after errors.OutOfMemory among fails = tt
  lists_fail host base class force release item items before after errors.Merged among fails = absurd fails
  lists_fail host base class force release item items before after errors.NoHostRelease among fails = absurd fails
  lists_fail host base class force release item items before after (errors.BadHostRelease line) among fails = absurd fails
  lists_fail host base class force release item items before after (errors.Shelf e) among fails = record {
    item = item;
    before = before;
    after = after;
    among = among;
    kind = fails.0;
    fails = fails_before base class item.place item.name e fails.1;
  }
  lists_fail host base class force release item items before after (errors.Limit which) among fails = absurd fails

-- what a survey tells of the release file of the host, where that is not read
pub host_fails : (told : HeldFile → Told) (old new : ℕ) (host : Host) (base : Entries HeldFile) (class : Extension) (force : Bool) (e : FindErr) → ReadsHost base told old new (Err e) → SurveysAs told old new host base class force (Err (of_find e))
host_fails told old new host base class force find_errors.OutOfMemory reads = tt
host_fails told old new host base class force (find_errors.BadHostRelease line) reads =
    let read = reads.2 in
    (read.0, record { file = reads.0; is_file = reads.1; given = read.1 }, read.2)
host_fails told old new host base class force (find_errors.Shelf e) reads = (reads.0, inl reads.1, reads.2)

-- the release of the host
pub host_reads : (told : HeldFile → Told) (old new : ℕ) (base : Entries HeldFile) (release : FinMap bytes_cmp (List ℕ)) → ReadsHost base told old new (Ok (Some release)) → IsHostRelease told base release
host_reads told old new base release reads =
    let read = reads.2 in
    record { bytes = read.0; has = record { file = reads.0; is_file = reads.1; given = read.1 }; reads = read.2 }

-- an item that stands between others is among them
among_items : {X : Type 0} (items before after : List X) (x : X) → items ≡ before ++ x ∷ after → Contains items x
among_items items before after x is = subst (λ xs. Contains xs x) (sym is) (Contains-append_right before (x ∷ after) x (zero, omega arith, refl))

-- the survey of a host, by what is said of its items after its release file was read
module _ (told here : HeldFile → Told) (same : (held : HeldFile) → here held ≡ told held) (old mid new : ℕ) (le : old ≤ mid) (host : Host) (base : Entries HeldFile) (class : Extension) (force : Bool) (release : FinMap bytes_cmp (List ℕ)) (found_items : List FoundItem) (are_found : IsFoundIn host base class found_items) (is_release : IsHostRelease told base release) where
  pub surveys_listed : (result : Result (List SurveyItem) ViewErr) → ListsAs here mid new host base class force release found_items result → SurveysAs told old new host base class force result
  surveys_listed (Ok said) each =
      let same_told : here ≡ told = λ i held. same held i in
      record {
        release = release;
        is_release = is_release;
        surveyed = record { found_items = found_items; are_found = are_found; each = subst (λ t. AreMatched (IsItemOf t host base class force release) found_items said) same_told each };
      }
  surveys_listed (Err errors.OutOfMemory) fails = tt
  surveys_listed (Err errors.Merged) fails = absurd fails
  surveys_listed (Err errors.NoHostRelease) fails = absurd fails
  surveys_listed (Err (errors.BadHostRelease line)) fails = absurd fails
  surveys_listed (Err (errors.Shelf e)) fails =
      let failed = fails_before told here same old mid new le base class fails.item.place fails.item.name e fails.fails in (
        failed.0,
        inr (record {
          found_items = found_items;
          are_found = are_found;
          item = fails.item;
          among = among_items found_items fails.before fails.after fails.item fails.among;
          kind = fails.kind;
          is_file = failed.1;
        }),
        failed.2,
      )
  surveys_listed (Err (errors.Limit which)) fails = absurd fails

-- the survey of the host, whatever its base is called
pub surveys_of_base : (told : HeldFile → Told) (old new : ℕ) (host : Host) (base : Entries HeldFile) (class : Extension) (force : Bool) (result : Result (List SurveyItem) ViewErr) → IsBaseTree host base → SurveysAs told old new host base class force result → Surveys told old new host class force result
surveys_of_base told old new host base class force (Ok items) is surveys = (base, is, surveys)
surveys_of_base told old new host base class force (Err errors.OutOfMemory) is surveys = tt
surveys_of_base told old new host base class force (Err errors.Merged) is surveys = absurd surveys
surveys_of_base told old new host base class force (Err errors.NoHostRelease) is surveys = (base, is, surveys)
surveys_of_base told old new host base class force (Err (errors.BadHostRelease line)) is surveys = (base, is, surveys)
surveys_of_base told old new host base class force (Err (errors.Shelf e)) is surveys = (base, is, surveys)
surveys_of_base told old new host base class force (Err (errors.Limit which)) is surveys = absurd surveys

-- a shelf that serves a host serves its base
pub base_served : (serves : HeldFile → Bool) (host : Host) (base : Entries HeldFile) → ServesHost serves host → IsBase host base → ServesAll serves base
base_served serves host base all is path attributes held stands =
    elim (is_in (merged_hierarchies (hierarchies_in host) (present host)) path) as (λ b. cond b (lookup host.lower path) (lookup host.root path) ≡ Some (File attributes held) → serves held ≡ true) [
      | true ↦ λ here. all.lower path attributes held here
      | false ↦ λ here. all.root path attributes held here
    ] (sym (is path) ∙ stands)
