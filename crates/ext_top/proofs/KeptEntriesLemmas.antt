-- Where files are given homes, those that have one keep it: a kept entry stays as it is.
use Rattle.std.proofs.Common.{◌≡◌, ℕ, ◌+◌, cond, if◌then◌else◌, true, false, List, [], ◌∷◌, length, Option, Some, None, refl, sym, ap, ◌∙◌, subst}
use Rattle.std.specs.Ordering.{eq_by_cmp}
use Rattle.ext_attributes.specs.Attributes.{OfFile}
use Rattle.ext_text.specs.Path.{path_cmp}
use Rattle.ext_depot.specs.Depot.{DepotState}
use Rattle.ext_tree.specs.Tree.{Entries, lookup}
use Rattle.ext_tree.specs.declared.entry.Entry.{Entry}
use Rattle.ext_tree.specs.declared.entry.Entry.TheVariants.{Dir, Opaque, File, Link, Hide}
use Rattle.ext_host.specs.Held.{HeldFile}
use Rattle.ext_host.specs.Host.{base_at, hierarchies_in, is_in, merged_hierarchies, present}
use Rattle.ext_host.specs.declared.body.Body.TheVariants.{Kept}
use Rattle.ext_host.specs.declared.home.Home.{Home}
use Rattle.ext_host.specs.declared.host.Host.{Host}
use Rattle.ext_homes.specs.Placed.{ArePlaced, IsBodyPlaced, IsEntryPlaced, IsHostPlaced, Stored}

-- what stands there is no file, or a kept one
abbrev pub IsKeptAt : Option (Entry HeldFile) → Type 0
IsKeptAt o = (attributes : OfFile) (held : HeldFile) → o ≡ Some (File attributes held) → (home : Home) × (held.body ≡ Kept home)

pub none_is : (e : Entry HeldFile) → None ≡ Some e → ⊥
none_is e same = cc

some_is : (a b : Entry HeldFile) → Some a ≡ Some b → a ≡ b
some_is a b same = cc

module _ (old : Stored) (depot : DepotState) (n : ℕ) where
  -- nothing stands in either, or an entry and what it is with a home for its file
  abbrev pub PlacedAt : Option (Entry HeldFile) → Option (Entry HeldFile) → Type 0
  PlacedAt None o = o ≡ None
  PlacedAt (Some e) o = (f : Entry HeldFile) × (next : ℕ) × (written : List (List ℕ)) × IsEntryPlaced old depot n e next f written × (o ≡ Some f)

  lookup_placed : (es : Entries HeldFile) (next : ℕ) (new : Entries HeldFile) (written : List (List ℕ)) (p : List (List ℕ)) → ArePlaced old depot n es next new written → PlacedAt (lookup es p) (lookup new p)
  lookup_placed [] next new written p is = ap (λ l. lookup l p) is.0
  lookup_placed (x ∷ es) next new written p (f, fs, first, rest, one, others, new_is, written_is) =
      let there = lookup_placed es (next + length first) fs rest p others in
      subst (λ l. PlacedAt (lookup (x ∷ es) p) (lookup l p)) (sym new_is)
      (elim (eq_by_cmp path_cmp p x.0) as (λ b. PlacedAt (cond b (Some x.1) (lookup es p)) (cond b (Some f) (lookup fs p))) [
        | true ↦ (f, next, first, one, refl)
        | false ↦ there
      ])

  -- a kept entry stays
  entry_stays : (e : Entry HeldFile) (next : ℕ) (f : Entry HeldFile) (written : List (List ℕ)) → IsEntryPlaced old depot n e next f written → IsKeptAt (Some e) → f ≡ e
  entry_stays (Dir attributes) next f written is kept = is.0
  entry_stays (Opaque attributes) next f written is kept = is.0
  entry_stays (File attributes held) next f written (placed, is, same) kept =
      let home = kept attributes held refl in
      let stays = subst (λ body. IsBodyPlaced old depot n held body next placed written) home.1 is in
      same ∙ ap (λ h. File attributes h) stays.0
  entry_stays (Link owner target) next f written is kept = is.0
  entry_stays Hide next f written is kept = is.0

  pub stays_at : (a b : Option (Entry HeldFile)) → PlacedAt a b → IsKeptAt a → b ≡ a
  stays_at None b is kept = is
  stays_at (Some e) b (f, next, written, placed, is) kept = is ∙ ap Some (entry_stays e next f written placed kept)

  -- what the base has, with homes for the host's files
  pub base_placed : (host new : Host) (written : List (List ℕ)) (q : List (List ℕ)) → IsHostPlaced old depot n host new written
      → PlacedAt (base_at (hierarchies_in host) (present host) q) (base_at (hierarchies_in new) (present new) q)
  base_placed host new written q (root, lower, (first, rest, one, two, parts), is) =
      subst (λ h. PlacedAt (base_at (hierarchies_in host) (present host) q) (base_at (hierarchies_in h) (present h) q)) (sym is)
      (elim (is_in (merged_hierarchies (hierarchies_in host) (present host)) q) as (λ b. PlacedAt (if b then lookup host.lower q else lookup host.root q) (if b then lookup lower q else lookup root q)) [
        | true ↦ lookup_placed host.lower (0 + length first) lower rest q two
        | false ↦ lookup_placed host.root 0 root first q one
      ])

  -- what is seen at a path, and what lies under it, of a new host
  pub root_placed : (host new : Host) (written : List (List ℕ)) (q : List (List ℕ)) → IsHostPlaced old depot n host new written → PlacedAt (lookup host.root q) (lookup new.root q)
  root_placed host new written q (root, lower, (first, rest, one, two, parts), is) = subst (λ (h : Host). PlacedAt (lookup host.root q) (lookup h.root q)) (sym is) (lookup_placed host.root 0 root first q one)

  pub lower_placed : (host new : Host) (written : List (List ℕ)) (q : List (List ℕ)) → IsHostPlaced old depot n host new written → PlacedAt (lookup host.lower q) (lookup new.lower q)
  lower_placed host new written q (root, lower, (first, rest, one, two, parts), is) = subst (λ (h : Host). PlacedAt (lookup host.lower q) (lookup h.lower q)) (sym is) (lookup_placed host.lower (0 + length first) lower rest q two)
