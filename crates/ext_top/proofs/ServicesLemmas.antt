-- What attaching and detaching leave of a host: outside of the paths at which they write or cut, all that there was.
use Rattle.std.proofs.Common.{◌≡◌, ℕ, zero, suc, Bool, true, false, cond, not, ◌&&◌, ◌||◌, if◌then◌else◌, List, [], ◌∷◌, ◌++◌, None, refl, sym, ap, ◌∙◌, subst, arith}
use Rattle.std.specs.Prelude.{Contains}
use Rattle.std.specs.List.{filter, list_any}
use Rattle.std.proofs.lemmas.Bool.{and_parts, false_from_ne_true, or_parts, true≢false}
use Rattle.std.proofs.lemmas.List.Folds.{list_any-append}
use Rattle.ext_text.specs.Path.{are_related, is_prefix, is_proper_prefix}
use Rattle.ext_text.specs.SortedPaths.{covers, meets}
use Rattle.ext_text.proofs.ForCallers.{prefix_trans}
use Rattle.ext_tree.specs.Cut.{cut_all}
use Rattle.ext_tree.specs.Graft.{or_made}
use Rattle.ext_tree.specs.Refusals.{is_root}
use Rattle.ext_tree.specs.Tree.{Entries, lookup}
use Rattle.ext_tree.proofs.ForCallers.{is_cut_all}
use Rattle.ext_host.specs.Held.{HeldFile}
use Rattle.ext_host.specs.Shelf.{Told}
use Rattle.ext_host.specs.Touch.{untouched_all}
use Rattle.ext_host.specs.declared.host.Host.{Host}
use Rattle.ext_host.specs.declared.manifest.Manifest.{Manifest}
use Rattle.ext_units.specs.ImageName.{first_part, image_name}
use Rattle.ext_units.specs.declared.image.Image.{Image}
use Rattle.ext_updated.proofs.ForCallers.{prefixes_related}
use Rattle.ext_attached.specs.Going.{cut_paths, detached}
use Rattle.ext_attached.specs.declared.going.By.{By}
use Rattle.ext_attached.specs.declared.going.By.TheVariants.{FirstPart}
use Rattle.ext_added.specs.declared.ask.Ask.{Ask}
use Rattle.ext_port.specs.Laws.{added_of, with_ways}
use Rattle.ext_port.specs.Starting.{cut_of, start_host}
use Rattle.ext_port.specs.declared.attaching.Attach.{Attach}
use Rattle.ext_port.proofs.ForCallers.{LeavesOthers, attaches_leaves}
use Rattle.ext_portext.proofs.ForCallers.{extended_leaves}
use Rattle.ext_intents.specs.Portable.{Attached}

-- an element that passes a test stays
more : {X : Type 0} (x : X) (xs : List X) (y : X) → Contains xs y → Contains (x ∷ xs) y
more x xs y (k, lt, is) = (suc k, omega arith, is)

pub filter_has : {X : Type 0} (test : X → Bool) (xs : List X) (y : X) → Contains xs y → test y ≡ true → Contains (filter test xs) y
filter_has test [] y (k, lt, is) passes = absurd (omega arith)
filter_has test (x ∷ xs) y (zero, lt, is) passes =
    subst (λ (b : Bool). Contains (cond b (x ∷ filter test xs) (filter test xs)) y) (sym (ap test is ∙ passes)) (zero, omega arith, is)
filter_has test (x ∷ xs) y (suc k, lt, is) passes =
    let there = filter_has test xs y (k, omega arith, is) passes in
    elim (test x) as (λ b. Contains (cond b (x ∷ filter test xs) (filter test xs)) y) [ true ↦ more x (filter test xs) y there | false ↦ there ]

untouched_has : (paths : List (List (List ℕ))) (kept : List Manifest) (manifest : Manifest) → Contains kept manifest → meets paths manifest.path ≡ false → Contains (untouched_all paths kept) manifest
untouched_has paths kept manifest has apart = filter_has (λ (m : Manifest). not (meets paths m.path)) kept manifest has (ap not apart)

-- a host in which something was written or cut at some paths: outside of what is related to them stands what stood, and their manifests stay
pub record IsChangedAt (host next : Host) (paths : List (List (List ℕ))) : Type 0 where
  pub rest : next ≡ record host { root = next.root; attached = next.attached; kept = next.kept }
  pub stands : (path q : List (List ℕ)) → meets paths path ≡ false → is_prefix path q ≡ true → lookup next.root q ≡ lookup host.root q
  pub manifests : (manifest : Manifest) → Contains host.kept manifest → meets paths manifest.path ≡ false → Contains next.kept manifest

module _ (path q : List (List ℕ)) (below : is_prefix path q ≡ true) where
  -- what is at or below a path is at or below none that is not related to it, and lies above none
  pub uncovered : (paths : List (List (List ℕ))) → meets paths path ≡ false → covers paths q ≡ false
  uncovered [] apart = refl
  uncovered (p ∷ paths) apart =
      let parts = or_parts (are_related p path) (meets paths path) apart in
      let here : is_prefix p q ≡ false = false_from_ne_true (is_prefix p q) (λ over. true≢false (sym (prefixes_related p path q over below) ∙ parts.0)) in
      ap (λ b. b || covers paths q) here ∙ uncovered paths parts.1

  over_none : (paths : List (List (List ℕ))) → meets paths path ≡ false → list_any (λ p. is_proper_prefix q p) paths ≡ false
  over_none [] apart = refl
  over_none (p ∷ paths) apart =
      let parts = or_parts (are_related p path) (meets paths path) apart in
      let own = or_parts (is_prefix p path) (is_prefix path p) parts.0 in
      let here : is_proper_prefix q p ≡ false = false_from_ne_true (is_proper_prefix q p) (λ over.
      true≢false (sym (prefix_trans path q p below (and_parts (is_prefix q p) (not (is_prefix p q)) over).0) ∙ own.1)) in
      ap (λ b. b || list_any (λ p. is_proper_prefix q p) paths) here ∙ over_none paths parts.1

  -- so there what stands stays
  ways_apart : (paths : List (List (List ℕ))) (root : Entries HeldFile) → meets paths path ≡ false → with_ways paths root q ≡ lookup root q
  ways_apart paths root apart = ap (λ b. if b then or_made (lookup root q) else lookup root q) (no_way (not (is_root q)) (not (covers paths q)) (over_none paths apart))
    where
      no_way : (a b : Bool) {c : Bool} → c ≡ false → (a && (b && c)) ≡ false
      no_way true true none = none
      no_way true false none = refl
      no_way false b none = refl

  cut_apart : (paths : List (List (List ℕ))) (root : Entries HeldFile) → meets paths path ≡ false → lookup (cut_all paths root) q ≡ lookup root q
  cut_apart paths root apart = is_cut_all paths root q ∙ ap (λ b. if b then None else lookup root q) (uncovered paths apart)

-- detaching
pub detached_changes : (by : By) (text : List ℕ) (host : Host) → IsChangedAt host (detached by text host) (cut_paths by text host)
detached_changes by text host = record {
  rest = refl;
  stands = λ path q apart below. cut_apart path q below (cut_paths by text host) host.root apart;
  manifests = λ manifest has apart. untouched_has (cut_paths by text host) host.kept manifest has apart;
}

-- the host from which is attached
start_changes : (again : Bool) (image : Image) (host : Host) → IsChangedAt host (start_host again image host) (cut_of again image host)
start_changes false image host = record { rest = refl; stands = λ path q apart below. refl; manifests = λ manifest has apart. has }
start_changes true image host = detached_changes FirstPart (first_part (image_name image)) host

module _ (again : Bool) (host : Host) (ask : Ask) (next : Host) (leaves : LeavesOthers again host ask next) where
  -- attaching
  pub attached_changes : IsChangedAt host next (cut_of again ask.image host ++ added_of ask next)
  attached_changes =
      let start = start_host again ask.image host in
      let cut = cut_of again ask.image host in
      let added = added_of ask next in
      let first = start_changes again ask.image host in
      let is = leaves.leaves in
      record {
        rest = is.rest ∙ ap (λ (h : Host). record h { root = next.root; attached = next.attached; kept = next.kept }) first.rest;
        stands = λ path q apart below.
            let parts = or_parts (meets cut path) (meets added path) (sym (list_any-append (λ p. are_related p path) cut added) ∙ apart) in
            is.outside q (uncovered path q below added parts.1)
            ∙ ways_apart path q below added start.root parts.1
            ∙ first.stands path q parts.0 below;
        manifests = λ manifest has apart.
            let parts = or_parts (meets cut manifest.path) (meets added manifest.path) (sym (list_any-append (λ p. are_related p manifest.path) cut added) ∙ apart) in
            subst (λ l. Contains l manifest) (sym is.kept) (untouched_has added start.kept manifest (first.manifests manifest has parts.0) parts.1);
      }

-- what is attached with some extensions or none
pub attached_leaves : (told : HeldFile → Told) (again : Bool) (host : Host) (ask : Ask) (extensions : List Image) (attach : Attach) → Attached host told again ask extensions attach → LeavesOthers again host ask attach.plan.next
attached_leaves told again host ask [] attach attaches = attaches_leaves again host ask attach told 0 0 attaches
attached_leaves told again host ask (extension ∷ extensions) attach attaches = extended_leaves again host ask attach told 0 0 (extension ∷ extensions) attaches
