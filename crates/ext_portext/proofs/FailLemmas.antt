-- What is wrong with extensions, one after the other.
use Rattle.std.proofs.Common.{◌≡◌, ℕ, zero, suc, ◌+◌, ◌≤◌, ◌<◌, List, [], ◌∷◌, ◌++◌, length, length-append, take, drop, get_or, Option, Some, None, Ok, Err, inl, inr, refl, sym, ap, ◌∙◌, subst, arith}
use Rattle.std.specs.Prelude.{◌⊎◌, Result}
use Rattle.std.specs.FinMap.{FinMap}
use Rattle.std.proofs.lemmas.List.{drop_more, take-append-drop, take_more}
use Rattle.ext_lines.specs.ByteOrder.{bytes_cmp}
use Rattle.ext_text.specs.Causes.{Rose}
use Rattle.ext_tree.specs.Tree.{Entries}
use Rattle.ext_host.specs.Held.{HeldFile}
use Rattle.ext_host.specs.Shelf.{Told}
use Rattle.ext_host.specs.declared.host.Host.{Host}
use Rattle.ext_host.specs.declared.shelf.ShelfErr.{ShelfErr}
use Rattle.ext_host.specs.declared.shelf.ShelfErr.TheVariants as shelf_errors
use Rattle.ext_find.specs.HostRelease.{ShelfFault}
use Rattle.ext_find.specs.declared.found.BreakWhy.{BreakWhy}
use Rattle.ext_units.specs.Body.{IsTreeOf}
use Rattle.ext_units.specs.ImageName.{image_name}
use Rattle.ext_units.specs.declared.image.Image.{Image}
use Rattle.ext_port.specs.declared.errors.PortErr.TheVariants as port_errors
use Rattle.ext_portext.specs.Extension.{IsExtensionAt}
use Rattle.ext_portext.specs.Extensions.{AreExtending, ExtensionFails, FirstFails, IsExtending}
use Rattle.ext_portext.specs.Judged.{ExtensionFileFails, FitsAs}
use Rattle.ext_portext.specs.Steps.{ReadsExtension, ReadsExtensions, SaysOfExtension, SaysOfFile, extending_of}
use Rattle.ext_portext.specs.declared.errors.ExtWhy.{ExtWhy}
use Rattle.ext_portext.specs.declared.errors.PortExtErr.{PortExtErr}
use Rattle.ext_portext.specs.declared.errors.PortExtErr.TheVariants as errors
use Rattle.ext_portext.specs.declared.extending.Extending.{Extending}

-- what rose in a later call rose
rose_before : (old mid new : ℕ) → old ≤ mid → Rose mid new → Rose old new
rose_before old mid new le (inl less) = inl (omega arith)
rose_before old mid new le (inr last) = inr last

-- a fault of a later call is one of the whole
fault_before : (told : Told) (old mid new : ℕ) (held : HeldFile) (e : ShelfErr) → old ≤ mid → ShelfFault mid new told held e → ShelfFault old new told held e
fault_before told old mid new held shelf_errors.OutOfMemory le fault = absurd fault
fault_before told old mid new held shelf_errors.Fault le fault = rose_before old mid new le fault
fault_before told old mid new held (shelf_errors.Damaged damage) le fault = fault

-- the same of the release file of an extension
file_before : (told : HeldFile → Told) (old mid new : ℕ) (tree : Entries HeldFile) (name : List ℕ) (e : ShelfErr) → old ≤ mid → ExtensionFileFails told mid new tree name e → ExtensionFileFails told old new tree name e
file_before told old mid new tree name e le fails =
    record { held = fails.held; is_file = fails.is_file; fault = fault_before (told fails.held) old mid new fails.held e le fails.fault }

module _ (told : HeldFile → Told) (host : Host) (base : Entries HeldFile) (release : FinMap bytes_cmp (List ℕ)) where
  module _ (mid new : ℕ) (at : ℕ) (image : Image) (Q : PortExtErr → Type 0) where
    -- what follows from what is wrong with an extension
    fail_cases : (e : PortExtErr) → ExtensionFails told host base release mid new at image e
        → ((s : ShelfErr) → ExtensionFails told host base release mid new at image (errors.Port (port_errors.Shelf s)) → Q (errors.Port (port_errors.Shelf s)))
        → ((index : ℕ) → ExtensionFails told host base release mid new at image (errors.NoExtension index) → Q (errors.NoExtension index))
        → ((index : ℕ) (why : ExtWhy) → ExtensionFails told host base release mid new at image (errors.Extension index why) → Q (errors.Extension index why))
        → Q e
    fail_cases errors.OutOfMemory fails shelf none unfit = absurd fails
    fail_cases (errors.Port port_errors.OutOfMemory) fails shelf none unfit = absurd fails
    fail_cases (errors.Port port_errors.NoSuchImage) fails shelf none unfit = absurd fails
    fail_cases (errors.Port port_errors.AlreadyAttached) fails shelf none unfit = absurd fails
    fail_cases (errors.Port port_errors.NotAttached) fails shelf none unfit = absurd fails
    fail_cases (errors.Port port_errors.NotPortable) fails shelf none unfit = absurd fails
    fail_cases (errors.Port (port_errors.BadRelease line)) fails shelf none unfit = absurd fails
    fail_cases (errors.Port (port_errors.PrefixForbidden prefix)) fails shelf none unfit = absurd fails
    fail_cases (errors.Port port_errors.NoUnits) fails shelf none unfit = absurd fails
    fail_cases (errors.Port port_errors.NoProfile) fails shelf none unfit = absurd fails
    fail_cases (errors.Port (port_errors.ReadOnly path)) fails shelf none unfit = absurd fails
    fail_cases (errors.Port (port_errors.UnitExists path)) fails shelf none unfit = absurd fails
    fail_cases (errors.Port (port_errors.NotDirectory path)) fails shelf none unfit = absurd fails
    fail_cases (errors.Port (port_errors.Limit which)) fails shelf none unfit = absurd fails
    fail_cases (errors.Port (port_errors.Shelf s)) fails shelf none unfit = shelf s fails
    fail_cases (errors.NoExtension index) fails shelf none unfit = none index fails
    fail_cases (errors.Extension index why) fails shelf none unfit = unfit index why fails
    fail_cases (errors.Limit which) fails shelf none unfit = absurd fails

  -- what is wrong after a later call is wrong after all
  fails_before : (old mid new : ℕ) → old ≤ mid → (at : ℕ) (image : Image) (e : PortExtErr) → ExtensionFails told host base release mid new at image e → ExtensionFails told host base release old new at image e
  fails_before old mid new le at image e fails =
      fail_cases mid new at image (ExtensionFails told host base release old new at image) e fails
      (λ s f. (f.0, f.1, f.2, file_before told old mid new f.0.tree (image_name image) s le f.3))
      (λ index none. none)
      (λ index why unfit. unfit)

  pub first_before : (old mid new : ℕ) → old ≤ mid → (images : List Image) (e : PortExtErr) → FirstFails told host base release mid new images e → FirstFails told host base release old new images e
  first_before old mid new le images e fails = record {
    before = fails.before;
    image = fails.image;
    after = fails.after;
    among = fails.among;
    fitting = fails.fitting;
    fit = fails.fit;
    fails = fails_before old mid new le (length fails.before) fails.image e fails.fails;
  }

  -- one extension

  module _ (old new : ℕ) (at : ℕ) (image : Image) (extending : Extending) (broken : Option BreakWhy)
      (at_place : IsExtensionAt host base image extending.place broken) (is_tree : IsTreeOf base extending.place extending.tree) where
    said_fits : (o : Option BreakWhy) (why : Option ExtWhy) → SaysOfExtension release host.arch told old new extending.tree (image_name image) o (Ok why) → FitsAs release host.arch told extending.tree (image_name image) o why
    said_fits None why says = says
    said_fits (Some broken) why says = cc says

    -- what is said of it is what is read
    extension_fits : SaysOfExtension release host.arch told old new extending.tree (image_name image) broken (Ok None) → ReadsExtension told host base release old new at image (Ok extending)
    extension_fits says = record { broken = broken; at_place = at_place; is_tree = is_tree; fits = said_fits broken None says }

    extension_unfit : (why : ExtWhy) → SaysOfExtension release host.arch told old new extending.tree (image_name image) broken (Ok (Some why)) → ReadsExtension told host base release old new at image (Err (errors.Extension at why))
    extension_unfit why says = (refl, (extending, record { broken = broken; at_place = at_place; is_tree = is_tree; fits = said_fits broken (Some why) says }))

    file_fails : (e : PortExtErr) → IsExtensionAt host base image extending.place None → SaysOfFile release host.arch told old new extending.tree (image_name image) (Err e) → ReadsExtension told host base release old new at image (Err e)
    file_fails errors.OutOfMemory at_none says = tt
    file_fails (errors.Port port_errors.OutOfMemory) at_none says = absurd says
    file_fails (errors.Port port_errors.NoSuchImage) at_none says = absurd says
    file_fails (errors.Port port_errors.AlreadyAttached) at_none says = absurd says
    file_fails (errors.Port port_errors.NotAttached) at_none says = absurd says
    file_fails (errors.Port port_errors.NotPortable) at_none says = absurd says
    file_fails (errors.Port (port_errors.BadRelease line)) at_none says = absurd says
    file_fails (errors.Port (port_errors.PrefixForbidden prefix)) at_none says = absurd says
    file_fails (errors.Port port_errors.NoUnits) at_none says = absurd says
    file_fails (errors.Port port_errors.NoProfile) at_none says = absurd says
    file_fails (errors.Port (port_errors.ReadOnly path)) at_none says = absurd says
    file_fails (errors.Port (port_errors.UnitExists path)) at_none says = absurd says
    file_fails (errors.Port (port_errors.NotDirectory path)) at_none says = absurd says
    file_fails (errors.Port (port_errors.Limit which)) at_none says = absurd says
    file_fails (errors.Port (port_errors.Shelf s)) at_none says = (extending, at_none, is_tree, says)
    file_fails (errors.NoExtension index) at_none says = absurd says
    file_fails (errors.Extension index why) at_none says = absurd says
    file_fails (errors.Limit which) at_none says = absurd says

    said_fails : (o : Option BreakWhy) (e : PortExtErr) → IsExtensionAt host base image extending.place o → SaysOfExtension release host.arch told old new extending.tree (image_name image) o (Err e) → ReadsExtension told host base release old new at image (Err e)
    said_fails None e at_none says = file_fails e at_none says
    said_fails (Some why) e at_some says = cc says

    extension_fails : (e : PortExtErr) → SaysOfExtension release host.arch told old new extending.tree (image_name image) broken (Err e) → ReadsExtension told host base release old new at image (Err e)
    extension_fails e says = said_fails broken e at_place says

    pub said_extending : (r : Result (Option ExtWhy) PortExtErr) → SaysOfExtension release host.arch told old new extending.tree (image_name image) broken r → ReadsExtension told host base release old new at image (extending_of at extending.place extending.tree r)
    said_extending (Ok None) says = extension_fits says
    said_extending (Ok (Some why)) says = extension_unfit why says
    said_extending (Err e) says = extension_fails e says

  -- all of them

  -- one more that fits
  pub extending_push : (images : List Image) (all : List Extending) (image : Image) (extending : Extending) → AreExtending told host base release images all → IsExtending told host base release image extending None
      → AreExtending told host base release (images ++ image ∷ []) (all ++ extending ∷ [])
  extending_push [] [] image extending are is = (is, tt)
  extending_push [] (x ∷ all) image extending are is = absurd are
  extending_push (i ∷ images) [] image extending are is = absurd are
  extending_push (i ∷ images) (x ∷ all) image extending are is = (are.0, extending_push images all image extending are.1 is)

  -- what is wrong with the next one is wrong with the first that doesn't fit
  module _ (old mid new : ℕ) (le : old ≤ mid) (images before : List Image) (image : Image) (after : List Image) (among : images ≡ before ++ image ∷ after) (fitting : List Extending) (fit : AreExtending told host base release before fitting) where
    first_fails : (e : PortExtErr) → ExtensionFails told host base release mid new (length before) image e → ReadsExtensions told host base release old new images (Err e)
    first_fails e fails =
        fail_cases mid new (length before) image (λ x. ReadsExtensions told host base release old new images (Err x)) e fails
        (λ s f. record { before = before; image = image; after = after; among = among; fitting = fitting; fit = fit; fails = fails_before old mid new le (length before) image (errors.Port (port_errors.Shelf s)) f })
        (λ index f. record { before = before; image = image; after = after; among = among; fitting = fitting; fit = fit; fails = fails_before old mid new le (length before) image (errors.NoExtension index) f })
        (λ index why f. record { before = before; image = image; after = after; among = among; fitting = fitting; fit = fit; fails = fails_before old mid new le (length before) image (errors.Extension index why) f })

    read_cases : (e : PortExtErr) → ReadsExtension told host base release mid new (length before) image (Err e) → (e ≡ errors.OutOfMemory) ⊎ ExtensionFails told host base release mid new (length before) image e
    read_cases errors.OutOfMemory reads = inl refl
    read_cases (errors.Port e) reads = inr reads
    read_cases (errors.NoExtension index) reads = inr reads
    read_cases (errors.Extension index why) reads = inr reads
    read_cases (errors.Limit which) reads = inr reads

    pub next_fails : (e : PortExtErr) → ReadsExtension told host base release mid new (length before) image (Err e) → ReadsExtensions told host base release old new images (Err e)
    next_fails e reads = elim (read_cases e reads) [
      | inl memory ↦ subst (λ x. ReadsExtensions told host base release old new images (Err x)) (sym memory) tt
      | inr fails ↦ first_fails e fails
    ]

  -- the next one of the list
  around : (images : List Image) (i : ℕ) (image : Image) → i < length images → image ≡ get_or images i image → images ≡ take i images ++ image ∷ drop (i + 1) images
  around images i image below is =
      sym (take-append-drop i images) ∙ ap (λ ys. take i images ++ ys) (drop_more images i image below) ∙ ap (λ y. take i images ++ y ∷ drop (i + 1) images) (sym is)

  pub fails_at : (old mid new : ℕ) → old ≤ mid → (images : List Image) (i : ℕ) (image : Image) → i < length images → image ≡ get_or images i image → (fitting : List Extending) → AreExtending told host base release (take i images) fitting
      → length fitting ≡ i → (e : PortExtErr) → ReadsExtension told host base release mid new (length fitting) image (Err e) → ReadsExtensions told host base release old new images (Err e)
  fails_at old mid new le images i image below is fitting fit counted e reads =
      next_fails old mid new le images (take i images) image (drop (i + 1) images) (around images i image below is) fitting fit e
      (subst (λ n. ReadsExtension told host base release mid new n image (Err e)) (counted ∙ sym (length_first images i below)) reads)
    where
      length_first : {X : Type 0} (xs : List X) (n : ℕ) → n < length xs → length (take n xs) ≡ n
      length_first [] n low = absurd (omega (arith, low))
      length_first (x ∷ xs) zero low = refl
      length_first (x ∷ xs) (suc n) low = ap suc (length_first xs n (omega (arith, low)))

  pub extending_more : (images : List Image) (i : ℕ) (image : Image) → i < length images → image ≡ get_or images i image → (fitting : List Extending) (extending : Extending) (all : List Extending) → all ≡ fitting ++ extending ∷ []
      → AreExtending told host base release (take i images) fitting → IsExtending told host base release image extending None → AreExtending told host base release (take (i + 1) images) all
  extending_more images i image below is fitting extending all pushed fit one =
      subst (AreExtending told host base release (take (i + 1) images)) (sym pushed)
      (subst (λ xs. AreExtending told host base release xs (fitting ++ extending ∷ [])) (ap (λ z. take i images ++ z ∷ []) is ∙ sym (take_more images i image below)) (extending_push (take i images) fitting image extending fit one))

pub counted_more : (fitting : List Extending) (extending : Extending) (all : List Extending) → all ≡ fitting ++ extending ∷ [] → (i : ℕ) → length fitting ≡ i → length all ≡ i + 1
counted_more fitting extending all pushed i counted =
    let long = length-append fitting (extending ∷ []) in
    let same = ap length pushed in
    omega (arith, long, same, counted)
