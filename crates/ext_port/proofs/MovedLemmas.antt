-- What is read of an image rests on what is told of the files of the host, and the faults that are counted matter for errors of the
-- shelf alone. So it is with what comes of inspecting and of attaching.
use Rattle.std.proofs.Common.{◌≡◌, ℕ, Bool, true, false, List, [], ◌∷◌, Option, Some, None, Ok, Err, inl, inr, refl, subst}
use Rattle.std.specs.Prelude.{Result}
use Rattle.std.specs.List.{flat_map}
use Rattle.ext_text.specs.declared.arch.Arch.{Arch}
use Rattle.ext_tree.specs.Tree.{Entries}
use Rattle.ext_tree.specs.declared.entry.Entry.TheVariants.{File}
use Rattle.ext_host.specs.Drawn.{HasFile, IsFileOf, trees_of}
use Rattle.ext_host.specs.Held.{HeldFile}
use Rattle.ext_host.specs.Planning.{IsBaseTree}
use Rattle.ext_host.specs.Shelf.{Told}
use Rattle.ext_host.specs.declared.host.Host.{Host}
use Rattle.ext_host.specs.declared.past.Past.{Past}
use Rattle.ext_host.specs.declared.shelf.ShelfErr.{ShelfErr}
use Rattle.ext_find.specs.HostRelease.{IsGiven, IsReleaseFile, ShelfFault}
use Rattle.ext_units.specs.Body.{IsTreeOf, ReadsBody, ReadsImage, ReleaseFileFails, ReleaseFileHas}
use Rattle.ext_units.specs.Errors.{of_body}
use Rattle.ext_units.specs.Inspecting.{Inspects}
use Rattle.ext_units.specs.declared.body.Body.{Body}
use Rattle.ext_units.specs.declared.errors.BodyErr.{BodyErr}
use Rattle.ext_units.specs.declared.errors.BodyErr.TheVariants as body_errors
use Rattle.ext_units.specs.declared.errors.InspectErr.{InspectErr}
use Rattle.ext_units.specs.declared.errors.InspectErr.TheVariants as inspect_errors
use Rattle.ext_units.specs.declared.image.Image.{Image}
use Rattle.ext_units.specs.declared.inspected.Inspect.{Inspect}
use Rattle.ext_attached.specs.Going.{paths_without}
use Rattle.ext_attached.proofs.ForCallers.{cut_found}
use Rattle.ext_added.specs.declared.ask.Ask.{Ask}
use Rattle.ext_port.specs.Errors.{port_err_of_body}
use Rattle.ext_port.specs.Files.{AreAlike}
use Rattle.ext_port.specs.Given.{IsHostFile}
use Rattle.ext_port.specs.Laws.{AttachesAlike, AttachUncounted, InspectsAlike, InspectUncounted, IsUncounted, IsUncountedInspect}
use Rattle.ext_port.specs.Starting.{cut_of, start_host, unfit}
use Rattle.ext_port.specs.Wants.{Attaches, BodyWants, FitWants}
use Rattle.ext_port.specs.declared.attaching.Attach.{Attach}
use Rattle.ext_port.specs.declared.errors.PortErr.{PortErr}
use Rattle.ext_port.proofs.ContainLemmas.{here, later}
use Rattle.ext_port.proofs.FilesLemmas.{tree_files}

-- files of the host

-- the past trees
abbrev past_trees : Host → List (Entries HeldFile)
past_trees host = flat_map (λ (past : Past). past.root ∷ past.lower ∷ []) host.past

seen_file : (host : Host) (held : HeldFile) → HasFile host.root held → IsFileOf (trees_of host) held
seen_file host held file = record { tree = host.root; among = here host.root (host.lower ∷ past_trees host); file = file }

under_file : (host : Host) (held : HeldFile) → HasFile host.lower held → IsFileOf (trees_of host) held
under_file host held file = record { tree = host.lower; among = later host.root host.lower (host.lower ∷ past_trees host) (here host.lower (past_trees host)); file = file }

-- a file of the host from which an image is attached is one of the host
start_host_file : (again : Bool) (image : Image) (host : Host) (held : HeldFile) → IsHostFile (start_host again image host) held → IsFileOf (trees_of host) held
start_host_file false image host held (inl seen) = seen_file host held seen
start_host_file false image host held (inr under) = under_file host held under
start_host_file true image host held (inl seen) =
    seen_file host held (record { path = seen.path; attributes = seen.attributes; stands = cut_found (paths_without image host) host.root seen.path (File seen.attributes held) seen.stands })
start_host_file true image host held (inr under) = under_file host held under

-- so is a file of an image in its base
pub start_file : (again : Bool) (image : Image) (host : Host) (base : Entries HeldFile) → IsBaseTree (start_host again image host) base → (place : List (List ℕ)) (tree : Entries HeldFile) → IsTreeOf base place tree
    → (held : HeldFile) → HasFile tree held → IsFileOf (trees_of host) held
start_file again image host base is_base place tree is held file =
    start_host_file again image host held (tree_files (start_host again image host) base is_base place tree is held file)

-- a release file is a file of the tree
pub release_file : (tree : Entries HeldFile) (held : HeldFile) → IsReleaseFile tree held → HasFile tree held
release_file tree held (inl own) = record { path = own.0; attributes = own.1; stands = own.3 }
release_file tree held (inr (none, vendor)) = record { path = vendor.0; attributes = vendor.1; stands = vendor.3 }

-- an image

-- two shelves that tell the same of the files of a tree
module _ (told other : HeldFile → Told) (old new : ℕ) (base : Entries HeldFile) (same : (place : List (List ℕ)) (tree : Entries HeldFile) (held : HeldFile) → IsTreeOf base place tree → HasFile tree held → told held ≡ other held) where
  has_alike : (P : List ℕ → Type 0) (place : List (List ℕ)) (tree : Entries HeldFile) → IsTreeOf base place tree → ReleaseFileHas told tree P → ReleaseFileHas other tree P
  has_alike P place tree is has = record {
    held = has.held;
    is_file = has.is_file;
    bytes = has.bytes;
    given = subst (λ t. IsGiven t has.held has.bytes) (same place tree has.held is (release_file tree has.held has.is_file)) has.given;
    has = has.has;
  }

  fails_alike : (e : ShelfErr) (place : List (List ℕ)) (tree : Entries HeldFile) → IsTreeOf base place tree → ReleaseFileFails told old new tree e → ReleaseFileFails other old new tree e
  fails_alike e place tree is fails = record {
    held = fails.held;
    is_file = fails.is_file;
    fault = subst (λ t. ShelfFault old new t fails.held e) (same place tree fails.held is (release_file tree fails.held fails.is_file)) fails.fault;
  }

  body_alike : (place : List (List ℕ)) (r : Result Body BodyErr) → ReadsBody told old new base place r → ReadsBody other old new base place r
  body_alike place (Ok body) reads = record {
    place_is = reads.place_is;
    is_tree = reads.is_tree;
    release = has_alike _ place body.tree reads.is_tree reads.release;
  }
  body_alike place (Err body_errors.OutOfMemory) reads = tt
  body_alike place (Err body_errors.NoSuchImage) reads = reads
  body_alike place (Err body_errors.NotPortable) reads = reads
  body_alike place (Err (body_errors.BadRelease line)) (tree, is, has) = (tree, is, has_alike _ place tree is has)
  body_alike place (Err (body_errors.Shelf e)) (tree, is, fails) = (tree, is, fails_alike e place tree is fails)

-- no error of the shelf
abbrev pub IsUncountedBody : Result Body BodyErr → Type 0
IsUncountedBody (Err (body_errors.Shelf e)) = ⊥
IsUncountedBody _ = Unit {0}

body_counts : (told : HeldFile → Told) (old new other_old other_new : ℕ) (base : Entries HeldFile) (place : List (List ℕ)) (r : Result Body BodyErr) → IsUncountedBody r
    → ReadsBody told old new base place r → ReadsBody told other_old other_new base place r
body_counts told old new other_old other_new base place (Ok body) uncounted reads = reads
body_counts told old new other_old other_new base place (Err body_errors.OutOfMemory) uncounted reads = tt
body_counts told old new other_old other_new base place (Err body_errors.NoSuchImage) uncounted reads = reads
body_counts told old new other_old other_new base place (Err body_errors.NotPortable) uncounted reads = reads
body_counts told old new other_old other_new base place (Err (body_errors.BadRelease line)) uncounted reads = reads
body_counts told old new other_old other_new base place (Err (body_errors.Shelf e)) uncounted reads = absurd uncounted

-- what follows of what is read of each image, where it has Q

module _ (told other : HeldFile → Told) (old new other_old other_new : ℕ) (base : Entries HeldFile) (Q : Result Body BodyErr → Type 0) (ok : (body : Body) → Q (Ok body))
    (moves : (place : List (List ℕ)) (r : Result Body BodyErr) → Q r → ReadsBody told old new base place r → ReadsBody other other_old other_new base place r) where
  image_moved : (arch : Arch) (image : Image) (r : Result Body BodyErr) → Q r → ReadsImage told old new base arch image r → ReadsImage other other_old other_new base arch image r
  image_moved arch image (Ok body) q (place, at, reads) = (place, at, moves place (Ok body) q reads)
  image_moved arch image (Err body_errors.OutOfMemory) q reads = tt
  image_moved arch image (Err body_errors.NoSuchImage) q none = none
  image_moved arch image (Err body_errors.NotPortable) q (place, at, reads) = (place, at, moves place (Err body_errors.NotPortable) q reads)
  image_moved arch image (Err (body_errors.BadRelease line)) q (place, at, reads) = (place, at, moves place (Err (body_errors.BadRelease line)) q reads)
  image_moved arch image (Err (body_errors.Shelf e)) q (place, at, reads) = (place, at, moves place (Err (body_errors.Shelf e)) q reads)

  -- of inspecting
  inspect_moved : (arch : Arch) (image : Image) (given : List (List ℕ)) (r : Result Inspect InspectErr) → ((e : BodyErr) → r ≡ Err (of_body e) → Q (Err e))
      → Inspects told old new base arch image given r → Inspects other other_old other_new base arch image given r
  inspect_moved arch image given (Ok inspect) known (body, reads, is) = (body, image_moved arch image (Ok body) (ok body) reads, is)
  inspect_moved arch image given (Err inspect_errors.OutOfMemory) known reads = tt
  inspect_moved arch image given (Err inspect_errors.NoSuchImage) known reads = reads
  inspect_moved arch image given (Err inspect_errors.NotPortable) known reads = image_moved arch image (Err body_errors.NotPortable) (known body_errors.NotPortable refl) reads
  inspect_moved arch image given (Err (inspect_errors.BadRelease line)) known reads = image_moved arch image (Err (body_errors.BadRelease line)) (known (body_errors.BadRelease line) refl) reads
  inspect_moved arch image given (Err (inspect_errors.PrefixForbidden prefix)) known (body, reads, is) = (body, image_moved arch image (Ok body) (ok body) reads, is)
  inspect_moved arch image given (Err inspect_errors.NoUnits) known (body, reads, is) = (body, image_moved arch image (Ok body) (ok body) reads, is)
  inspect_moved arch image given (Err (inspect_errors.Shelf e)) known reads = image_moved arch image (Err (body_errors.Shelf e)) (known (body_errors.Shelf e) refl) reads

  -- of attaching
  module _ (start : Host) (cut : List (List (List ℕ))) (ask : Ask) (r : Result Attach PortErr) (known : (e : BodyErr) → r ≡ Err (port_err_of_body e) → Q (Err e)) where
    body_moved : (place : List (List ℕ)) → BodyWants told old new start cut base ask place r → BodyWants other other_old other_new start cut base ask place r
    body_moved place (inl (body, reads, wants)) = inl (body, moves place (Ok body) (ok body) reads, wants)
    body_moved place (inr (e, reads, is)) = inr (e, moves place (Err e) (known e is) reads, is)

    fit_moved : (place : List (List ℕ)) (o : Option PortErr) → FitWants o (BodyWants told old new start cut base ask place) r → FitWants o (BodyWants other other_old other_new start cut base ask place) r
    fit_moved place None wants = body_moved place wants
    fit_moved place (Some refusal) is = is

-- by what is told

module _ (told other : HeldFile → Told) (old new : ℕ) (again : Bool) (host : Host) (alike : AreAlike host told other) (image : Image) (base : Entries HeldFile) (is_base : IsBaseTree (start_host again image host) base) where
  moves_alike : (place : List (List ℕ)) (r : Result Body BodyErr) → Unit {0} → ReadsBody told old new base place r → ReadsBody other old new base place r
  moves_alike place r all reads =
      body_alike told other old new base (λ at tree held is file. alike held (start_file again image host base is_base at tree is held file)) place r reads

  pub image_alike : (arch : Arch) (other_image : Image) (r : Result Body BodyErr) → ReadsImage told old new base arch other_image r → ReadsImage other old new base arch other_image r
  image_alike arch other_image r reads = image_moved told other old new old new base (λ _. Unit {0}) (λ _. tt) moves_alike arch other_image r tt reads

pub inspects_alike : InspectsAlike
inspects_alike told other old new host base image given result alike is_base inspects =
    inspect_moved told other old new old new base (λ _. Unit {0}) (λ _. tt) (moves_alike told other old new false host alike image base is_base) host.arch image given result (λ _ _. tt) inspects

pub attaches_alike : AttachesAlike
attaches_alike told other old new again host ask result alike (base, is_base, inl (place, at, wants)) = (
  base,
  is_base,
  inl (
    place,
    at,
    fit_moved told other old new old new base (λ _. Unit {0}) (λ _. tt) (moves_alike told other old new again host alike ask.image base is_base)
        (start_host again ask.image host) (cut_of again ask.image host) ask result (λ _ _. tt) place (unfit again host ask.image) wants,
  ),
)
attaches_alike told other old new again host ask result alike (base, is_base, inr none) = (base, is_base, inr none)

-- by the faults that are counted

inspect_uncounted : (r : Result Inspect InspectErr) (e : BodyErr) → IsUncountedInspect r → r ≡ Err (of_body e) → IsUncountedBody (Err e)
inspect_uncounted r body_errors.OutOfMemory uncounted is = tt
inspect_uncounted r body_errors.NoSuchImage uncounted is = tt
inspect_uncounted r body_errors.NotPortable uncounted is = tt
inspect_uncounted r (body_errors.BadRelease line) uncounted is = tt
inspect_uncounted r (body_errors.Shelf e) uncounted is = subst IsUncountedInspect is uncounted

attach_uncounted : (r : Result Attach PortErr) (e : BodyErr) → IsUncounted r → r ≡ Err (port_err_of_body e) → IsUncountedBody (Err e)
attach_uncounted r body_errors.OutOfMemory uncounted is = tt
attach_uncounted r body_errors.NoSuchImage uncounted is = tt
attach_uncounted r body_errors.NotPortable uncounted is = tt
attach_uncounted r (body_errors.BadRelease line) uncounted is = tt
attach_uncounted r (body_errors.Shelf e) uncounted is = subst IsUncounted is uncounted

pub inspect_counts_law : InspectUncounted
inspect_counts_law told old new other_old other_new base arch image given result uncounted inspects =
    inspect_moved told told old new other_old other_new base IsUncountedBody (λ _. tt) (body_counts told old new other_old other_new base) arch image given result (λ e is. inspect_uncounted result e uncounted is) inspects

pub attach_counts_law : AttachUncounted
attach_counts_law told old new other_old other_new again host ask result uncounted (base, is_base, inl (place, at, wants)) = (
  base,
  is_base,
  inl (
    place,
    at,
    fit_moved told told old new other_old other_new base IsUncountedBody (λ _. tt) (body_counts told old new other_old other_new base)
        (start_host again ask.image host) (cut_of again ask.image host) ask result (λ e is. attach_uncounted result e uncounted is) place (unfit again host ask.image) wants,
  ),
)
attach_counts_law told old new other_old other_new again host ask result uncounted (base, is_base, inr none) = (base, is_base, inr none)

-- the image that was read, or what is wrong with it, whatever the faults
pub image_counts : (told : HeldFile → Told) (old new other_old other_new : ℕ) (base : Entries HeldFile) (arch : Arch) (image : Image) (r : Result Body BodyErr) → IsUncountedBody r
    → ReadsImage told old new base arch image r → ReadsImage told other_old other_new base arch image r
image_counts told old new other_old other_new base arch image r uncounted reads =
    image_moved told told old new other_old other_new base IsUncountedBody (λ _. tt) (body_counts told old new other_old other_new base) arch image r uncounted reads

-- as if there were none
pub inspects_counts : (told : HeldFile → Told) (old new : ℕ) (base : Entries HeldFile) (arch : Arch) (image : Image) (given : List (List ℕ)) (result : Result Inspect InspectErr) → IsUncountedInspect result
    → Inspects told old new base arch image given result → Inspects told 0 0 base arch image given result
inspects_counts told old new base arch image given result uncounted inspects = inspect_counts_law told old new 0 0 base arch image given result uncounted inspects

pub attaches_counts : (told : HeldFile → Told) (old new : ℕ) (again : Bool) (host : Host) (ask : Ask) (result : Result Attach PortErr) → IsUncounted result
    → Attaches told old new again host ask result → Attaches told 0 0 again host ask result
attaches_counts told old new again host ask result uncounted attaches = attach_counts_law told old new 0 0 again host ask result uncounted attaches
