-- There is one image, one choice of units and one inspection; and what holds of each unit.
use Rattle.std.proofs.Common.{◌≡◌, ℕ, ◌<◌, true, List, [], ◌∷◌, ◌++◌, length, Option, Some, None, Ok, Err, is_some, refl, sym, ap, ◌∙◌, subst, arith, inl, inr}
use Rattle.std.specs.Prelude.{◌⊎◌, Contains, Result, map}
use Rattle.std.specs.FinMap.{FinMap, find, is_sorted}
use Rattle.std.specs.FinMap.Entries.{below_all, same_entries}
use Rattle.std.specs.List.{AllByRecursion}
use Rattle.std.specs.List.Sorted.{IsStrictlySortedBy}
use Rattle.std.specs.Option.{option_map, unwrap_or}
use Rattle.std.specs.Ordering.{is_lt}
use Rattle.std.specs.declared.cmp.Ordering.TheVariants.{Less}
use Rattle.std.proofs.lemmas.Bool.{and_parts, false≢true}
use Rattle.std.proofs.lemmas.Float.{T_from_true}
use Rattle.std.proofs.lemmas.Option.{slice_get-map, slice_get_read}
use Rattle.ext_lines.specs.ByteOrder.{bytes_cmp, bytes_exact, bytes_total}
use Rattle.ext_text.specs.declared.arch.Arch.{Arch}
use Rattle.ext_text.proofs.ForCallers.{is_less}
use Rattle.ext_tree.specs.Part.{part}
use Rattle.ext_tree.specs.Tree.{Entries, lookup}
use Rattle.ext_tree.specs.declared.entry.Entry.TheVariants.{File}
use Rattle.ext_tree.proofs.ForCallers.{find_there}
use Rattle.ext_walk.specs.Leads.{LeadsTo}
use Rattle.ext_walk.specs.Walk.{Ends}
use Rattle.ext_walk.proofs.ForCallers.{same_end}
use Rattle.ext_host.specs.Held.{HeldFile}
use Rattle.ext_host.specs.Planning.{content_size}
use Rattle.ext_host.specs.Shelf.{Told}
use Rattle.ext_release.specs.Laws.{NoFaultInRelease, OneFault, OneRelease}
use Rattle.ext_release.specs.Release.{IsFirstFault, IsRelease}
use Rattle.ext_find.specs.Content.{is_file_at}
use Rattle.ext_find.specs.HostRelease.{IsGiven, IsReleaseFile, LeadsToContent, ReleaseFileAt, own_release, vendor_release}
use Rattle.ext_find.specs.Laws.{OneFound}
use Rattle.ext_units.specs.Body.{IsTreeOf, ReadsImage, ReleaseFileHas}
use Rattle.ext_units.specs.Choosing.{ChoosesUnits}
use Rattle.ext_units.specs.Errors.{of_body, of_units}
use Rattle.ext_units.specs.Image.{IsImageAt}
use Rattle.ext_units.specs.Inspecting.{Inspects, InspectsBody, IsInspect}
use Rattle.ext_units.specs.Laws.{FirstEntryDecides, FirstEntryHides, GivesOneText, IsOfImage, IsOfService, IsOfUnits, OneChoice, OneImage, OneInspect, OneUnits, UnitsAscend, UnitsHavePrefixes}
use Rattle.ext_units.specs.Prefixes.{prefixes_of}
use Rattle.ext_units.specs.Units.{AreUnits, IsUnit, units_by_name, names_of}
use Rattle.ext_units.specs.declared.body.Body.{Body}
use Rattle.ext_units.specs.declared.errors.BodyErr.{BodyErr}
use Rattle.ext_units.specs.declared.errors.BodyErr.TheVariants as body_errors
use Rattle.ext_units.specs.declared.errors.InspectErr.{InspectErr}
use Rattle.ext_units.specs.declared.errors.InspectErr.TheVariants as errors
use Rattle.ext_units.specs.declared.errors.UnitsErr.{UnitsErr}
use Rattle.ext_units.specs.declared.errors.UnitsErr.TheVariants as units_errors
use Rattle.ext_units.specs.declared.image.Image.{Image}
use Rattle.ext_units.specs.declared.image.Image.TheVariants.{Named, At}
use Rattle.ext_units.specs.declared.inspected.Inspect.{Inspect}
use Rattle.ext_units.specs.declared.unit_file.UnitFile.{UnitFile}
use Rattle.ext_units.proofs.ImageLemmas.{one_place}
use Rattle.ext_units.proofs.UnitLemmas.{one_directory}

-- the laws of what an image rests on
pub record Below : Type 0 where
  pub one_found : OneFound content_size
  pub one_release : OneRelease
  pub not_both : NoFaultInRelease
  pub one_fault : OneFault

-- names lead to one content
one_content : (es : Entries HeldFile) (names : List (List ℕ)) (a b : HeldFile) → LeadsToContent es names a → LeadsToContent es names b → a ≡ b
one_content es names a b x y =
    let end : x.0 ≡ y.0 = same_end es names x.0 y.0 x.2 y.2 in
    let same : Some (File x.1 a) ≡ Some (File y.1 b) = sym x.3 ∙ ap (lookup es) end ∙ y.3 in
    cc

leads_to_file : (es : Entries HeldFile) (names : List (List ℕ)) (a : HeldFile) → LeadsToContent es names a → LeadsTo is_file_at es names
leads_to_file es names a x = (x.0, x.2, ap is_file_at x.3)

-- an image has one release file
one_release_file : (es : Entries HeldFile) (a b : HeldFile) → IsReleaseFile es a → IsReleaseFile es b → a ≡ b
one_release_file es a b (inl x) (inl y) = one_content es own_release a b x y
one_release_file es a b (inl x) (inr y) = absurd (y.0 (leads_to_file es own_release a x))
one_release_file es a b (inr x) (inl y) = absurd (x.0 (leads_to_file es own_release b y))
one_release_file es a b (inr x) (inr y) = one_content es vendor_release a b x.1 y.1

-- and none where it has none
no_release_file : (es : Entries HeldFile) (a : HeldFile) → ReleaseFileAt es None → ¬ IsReleaseFile es a
no_release_file es a none (inl x) = none.0 (leads_to_file es own_release a x)
no_release_file es a none (inr x) = none.1 (leads_to_file es vendor_release a x.1)

one_tree_of : (base : Entries HeldFile) (place : List (List ℕ)) (t u : Entries HeldFile) → IsTreeOf base place t → IsTreeOf base place u → t ≡ u
one_tree_of base place t u x y = x.below ∙ ap (λ d. part d base) (same_end base place x.directory y.directory x.leads y.leads) ∙ sym y.below

module _ (below : Below) (told : HeldFile → Told) (gives : GivesOneText told) where
  -- the release file of an image has one text
  one_bytes : (t u : Entries HeldFile) (P Q : List ℕ → Type 0) → t ≡ u → (x : ReleaseFileHas told t P) (y : ReleaseFileHas told u Q) → x.bytes ≡ y.bytes
  one_bytes t u P Q same x y =
      let held : x.held ≡ y.held = one_release_file u x.held y.held (subst (λ es. IsReleaseFile es x.held) same x.is_file) y.is_file in
      gives y.held x.bytes y.bytes (subst (λ h. IsGiven (told h) h x.bytes) held x.given) y.given

  one_assigned : (t u : Entries HeldFile) (a b : FinMap bytes_cmp (List ℕ)) → t ≡ u → ReleaseFileHas told t (λ bytes. IsRelease bytes a) → ReleaseFileHas told u (λ bytes. IsRelease bytes b) → a ≡ b
  one_assigned t u a b same x y =
      below.one_release y.bytes a b (subst (λ bytes. IsRelease bytes a) (one_bytes t u (λ bytes. IsRelease bytes a) (λ bytes. IsRelease bytes b) same x y) x.has) y.has

  one_line : (t u : Entries HeldFile) (a b : ℕ) → t ≡ u → ReleaseFileHas told t (λ bytes. IsFirstFault bytes a) → ReleaseFileHas told u (λ bytes. IsFirstFault bytes b) → a ≡ b
  one_line t u a b same x y =
      below.one_fault y.bytes a b (subst (λ bytes. IsFirstFault bytes a) (one_bytes t u (λ bytes. IsFirstFault bytes a) (λ bytes. IsFirstFault bytes b) same x y) x.has) y.has

  not_both : (t u : Entries HeldFile) (a : FinMap bytes_cmp (List ℕ)) (line : ℕ) → t ≡ u → ReleaseFileHas told t (λ bytes. IsRelease bytes a) → ¬ ReleaseFileHas told u (λ bytes. IsFirstFault bytes line)
  not_both t u a line same x y =
      below.not_both y.bytes a line (subst (λ bytes. IsRelease bytes a) (one_bytes t u (λ bytes. IsRelease bytes a) (λ bytes. IsFirstFault bytes line) same x y) x.has) y.has

  none_there : (t u : Entries HeldFile) (P : List ℕ → Type 0) → t ≡ u → ReleaseFileAt t None → ¬ ReleaseFileHas told u P
  none_there t u P same none y = no_release_file u y.held (subst (λ es. ReleaseFileAt es None) same none) y.is_file

  module _ (base : Entries HeldFile) (arch : Arch) (image : Image) where
    one_at : (p q : List (List ℕ)) → IsImageAt base arch image p → IsImageAt base arch image q → p ≡ q
    one_at p q x y = by_image image x y
      where
        by_image : (i : Image) → IsImageAt base arch i p → IsImageAt base arch i q → p ≡ q
        by_image (Named name) x y = one_place base arch below.one_found name p q x y
        by_image (At path) x y = x.0 ∙ sym y.0

    one_tree : (p q : List (List ℕ)) (t u : Entries HeldFile) → IsImageAt base arch image p → IsImageAt base arch image q → IsTreeOf base p t → IsTreeOf base q u → t ≡ u
    one_tree p q t u at also x y = one_tree_of base q t u (subst (λ place. IsTreeOf base place t) (one_at p q at also) x) y

    module _ (old new other_old other_new : ℕ) where
      one_image : (a b : Result Body BodyErr) → IsOfImage a → IsOfImage b → ReadsImage told old new base arch image a → ReadsImage told other_old other_new base arch image b → a ≡ b
      one_image (Err body_errors.OutOfMemory) b known also x y = absurd known
      one_image (Err (body_errors.Shelf e)) b known also x y = absurd known
      one_image (Ok a) (Err body_errors.OutOfMemory) known also x y = absurd also
      one_image (Ok a) (Err (body_errors.Shelf e)) known also x y = absurd also
      one_image (Ok a) (Err body_errors.NoSuchImage) known also x y = absurd (y x.0 x.1)
      one_image (Ok a) (Err body_errors.NotPortable) known also x y =
          absurd (none_there y.2.0 a.tree (λ bytes. IsRelease bytes a.release) (one_tree y.0 x.0 y.2.0 a.tree y.1 x.1 y.2.1 x.2.is_tree) y.2.2 x.2.release)
      one_image (Ok a) (Err (body_errors.BadRelease line)) known also x y =
          absurd (not_both a.tree y.2.0 a.release line (one_tree x.0 y.0 a.tree y.2.0 x.1 y.1 x.2.is_tree y.2.1) x.2.release y.2.2)
      one_image (Ok a) (Ok b) known also x y =
          let place : a.place ≡ b.place = x.2.place_is ∙ one_at x.0 y.0 x.1 y.1 ∙ sym y.2.place_is in
          let tree : a.tree ≡ b.tree = one_tree x.0 y.0 a.tree b.tree x.1 y.1 x.2.is_tree y.2.is_tree in
          let release : a.release ≡ b.release = one_assigned a.tree b.tree a.release b.release tree x.2.release y.2.release in
          λ i. Ok (record { place = place i; tree = tree i; release = release i })
      one_image (Err body_errors.NoSuchImage) (Err body_errors.OutOfMemory) known also x y = absurd also
      one_image (Err body_errors.NoSuchImage) (Err (body_errors.Shelf e)) known also x y = absurd also
      one_image (Err body_errors.NoSuchImage) (Err body_errors.NoSuchImage) known also x y = refl
      one_image (Err body_errors.NoSuchImage) (Err body_errors.NotPortable) known also x y = absurd (x y.0 y.1)
      one_image (Err body_errors.NoSuchImage) (Err (body_errors.BadRelease line)) known also x y = absurd (x y.0 y.1)
      one_image (Err body_errors.NoSuchImage) (Ok b) known also x y = absurd (x y.0 y.1)
      one_image (Err body_errors.NotPortable) (Err body_errors.OutOfMemory) known also x y = absurd also
      one_image (Err body_errors.NotPortable) (Err (body_errors.Shelf e)) known also x y = absurd also
      one_image (Err body_errors.NotPortable) (Err body_errors.NoSuchImage) known also x y = absurd (y x.0 x.1)
      one_image (Err body_errors.NotPortable) (Err body_errors.NotPortable) known also x y = refl
      one_image (Err body_errors.NotPortable) (Err (body_errors.BadRelease line)) known also x y =
          absurd (none_there x.2.0 y.2.0 (λ bytes. IsFirstFault bytes line) (one_tree x.0 y.0 x.2.0 y.2.0 x.1 y.1 x.2.1 y.2.1) x.2.2 y.2.2)
      one_image (Err body_errors.NotPortable) (Ok b) known also x y =
          absurd (none_there x.2.0 b.tree (λ bytes. IsRelease bytes b.release) (one_tree x.0 y.0 x.2.0 b.tree x.1 y.1 x.2.1 y.2.is_tree) x.2.2 y.2.release)
      one_image (Err (body_errors.BadRelease line)) (Err body_errors.OutOfMemory) known also x y = absurd also
      one_image (Err (body_errors.BadRelease line)) (Err (body_errors.Shelf e)) known also x y = absurd also
      one_image (Err (body_errors.BadRelease line)) (Err body_errors.NoSuchImage) known also x y = absurd (y x.0 x.1)
      one_image (Err (body_errors.BadRelease line)) (Err body_errors.NotPortable) known also x y =
          absurd (none_there y.2.0 x.2.0 (λ bytes. IsFirstFault bytes line) (one_tree y.0 x.0 y.2.0 x.2.0 y.1 x.1 y.2.1 x.2.1) y.2.2 x.2.2)
      one_image (Err (body_errors.BadRelease line)) (Err (body_errors.BadRelease other)) known also x y =
          ap (λ l. Err (body_errors.BadRelease l)) (one_line x.2.0 y.2.0 line other (one_tree x.0 y.0 x.2.0 y.2.0 x.1 y.1 x.2.1 y.2.1) x.2.2 y.2.2)
      one_image (Err (body_errors.BadRelease line)) (Ok b) known also x y =
          absurd (not_both b.tree x.2.0 b.release line (one_tree y.0 x.0 b.tree x.2.0 y.1 x.1 y.2.is_tree x.2.1) y.2.release x.2.2)

pub one_image_law : Below → OneImage
one_image_law below told old new other_old other_new base arch image a b gives known also x y =
    one_image below told gives base arch image old new other_old other_new a b known also x y

-- units are made of their names and files
units_named : (units : List UnitFile) → map (λ (e : List ℕ × List (List ℕ)). record { name = e.0; file = e.1 }) (units_by_name units) ≡ units
units_named [] = refl
units_named (u ∷ units) = ap (λ l. u ∷ l) (units_named units)

pub one_units_law : (C : Type 0) → OneUnits C
one_units_law C es prefixes units other first second =
    sym (units_named units)
    ∙ ap (map (λ (e : List ℕ × List (List ℕ)). record { name = e.0; file = e.1 })) (same_entries bytes_cmp bytes_total bytes_exact (units_by_name units) (units_by_name other) (T_from_true _ first.sorted) (T_from_true _ second.sorted) agree)
    ∙ units_named other
  where
    by_case : (q : List ℕ) (o p : Option (List (List ℕ))) → find bytes_cmp q (units_by_name units) ≡ o → find bytes_cmp q (units_by_name other) ≡ p → o ≡ p
    by_case q (Some a) p at there = sym (second.whole q a (first.each q a at)) ∙ there
    by_case q None (Some b) at there = sym at ∙ first.whole q b (second.each q b there)
    by_case q None None at there = refl

    agree : (q : List ℕ) → find bytes_cmp q (units_by_name units) ≡ find bytes_cmp q (units_by_name other)
    agree q = by_case q (find bytes_cmp q (units_by_name units)) (find bytes_cmp q (units_by_name other)) refl refl

above_all : (k : List ℕ) (units : List UnitFile) → below_all bytes_cmp k (units_by_name units) ≡ true → AllByRecursion (λ name. bytes_cmp k name ≡ Less) (names_of units)
above_all k [] below = tt
above_all k (u ∷ units) below =
    let parts = and_parts (is_lt (bytes_cmp k u.name)) (below_all bytes_cmp k (units_by_name units)) below in
    (is_less _ parts.0, above_all k units parts.1)

ascend : (units : List UnitFile) → is_sorted bytes_cmp (units_by_name units) ≡ true → IsStrictlySortedBy bytes_cmp (names_of units)
unfolding IsStrictlySortedBy
ascend [] sorted = tt
ascend (u ∷ units) sorted =
    let parts = and_parts (below_all bytes_cmp u.name (units_by_name units)) (is_sorted bytes_cmp (units_by_name units)) sorted in
    (above_all u.name units parts.0, ascend units parts.1)

pub ascend_law : (C : Type 0) → UnitsAscend C
ascend_law C es prefixes units are = ascend units are.sorted

-- each unit of the list is one of the tree
pub each_unit : {C : Type 0} (es : Entries C) (prefixes : List (List ℕ)) (units : List UnitFile) (unit : UnitFile) → AreUnits es prefixes units → Contains units unit → IsUnit es prefixes unit.name unit.file
each_unit es prefixes units unit are among =
    are.each unit.name unit.file
    (find_there bytes_cmp bytes_total (units_by_name units) among.0 (unit.name, unit.file) are.sorted
    (slice_get-map (λ (u : UnitFile). (u.name, u.file)) units among.0
    ∙ ap (option_map (λ (u : UnitFile). (u.name, u.file))) (slice_get_read units (length units) among.0 unit refl among.1 (sym among.2))))

pub prefix_law : (C : Type 0) → UnitsHavePrefixes C
prefix_law C es prefixes units unit are among = (each_unit es prefixes units unit are among).is_name.has_prefix

pub decides_law : (C : Type 0) → FirstEntryDecides C
decides_law C es prefixes units unit index are among first =
    let is = each_unit es prefixes units unit are among in
    subst (λ d. Ends es (d ++ unit.name ∷ []) unit.file) (one_directory es is.index index unit.name is.first first) is.leads

pub hides_law : (C : Type 0) → FirstEntryHides C
hides_law C es prefixes units index name are first none unit among same =
    let is = subst (λ n. IsUnit es prefixes n unit.file) same (each_unit es prefixes units unit are among) in
    none (unit.file, subst (λ d. Ends es (d ++ name ∷ []) unit.file) (one_directory es is.index index name is.first first) is.leads, is.is_file)

-- there is something, or there is nothing
clash : {X A : Type 0} {x : X} {o : Option X} → o ≡ None → o ≡ Some x → A
clash none some = absurd (false≢true (sym (ap is_some none) ∙ ap is_some some))

not_empty : {X A : Type 0} {xs : List X} → xs ≡ [] → 0 < length xs → A
not_empty empty some = let none = ap length empty in absurd (omega (arith, none, some))

module _ {C : Type 0} (body : Body) (es : Entries C) (given : List (List ℕ)) where
  one_choice : (a b : Result (List UnitFile) UnitsErr) → IsOfUnits a → IsOfUnits b → ChoosesUnits body es given a → ChoosesUnits body es given b → a ≡ b
  one_choice (Err units_errors.OutOfMemory) b known also x y = absurd known
  one_choice (Ok a) (Err units_errors.OutOfMemory) known also x y = absurd also
  one_choice (Ok a) (Err (units_errors.PrefixForbidden prefix)) known also x y = clash x.0 y
  one_choice (Ok a) (Err units_errors.NoUnits) known also x y = not_empty (one_units_law C es (prefixes_of given body.place) a [] x.1 y.1) x.2
  one_choice (Ok a) (Ok b) known also x y = ap Ok (one_units_law C es (prefixes_of given body.place) a b x.1 y.1)
  one_choice (Err (units_errors.PrefixForbidden prefix)) (Err units_errors.OutOfMemory) known also x y = absurd also
  one_choice (Err (units_errors.PrefixForbidden prefix)) (Err (units_errors.PrefixForbidden other)) known also x y =
      ap (λ o. Err (units_errors.PrefixForbidden (unwrap_or o prefix))) (sym x ∙ y)
  one_choice (Err (units_errors.PrefixForbidden prefix)) (Err units_errors.NoUnits) known also x y = clash y.0 x
  one_choice (Err (units_errors.PrefixForbidden prefix)) (Ok b) known also x y = clash y.0 x
  one_choice (Err units_errors.NoUnits) (Err units_errors.OutOfMemory) known also x y = absurd also
  one_choice (Err units_errors.NoUnits) (Err (units_errors.PrefixForbidden prefix)) known also x y = clash x.0 y
  one_choice (Err units_errors.NoUnits) (Err units_errors.NoUnits) known also x y = refl
  one_choice (Err units_errors.NoUnits) (Ok b) known also x y = not_empty (one_units_law C es (prefixes_of given body.place) b [] y.1 x.1) y.2

pub one_choice_law : (C : Type 0) → OneChoice C
one_choice_law C body es given a b known also x y = one_choice body es given a b known also x y

-- what is told of an image is told of its units, or is why it has none
abbrev FromUnits : Body → List (List ℕ) → Result Inspect InspectErr → Type 0
FromUnits body given r =
    ((inspect : Inspect) × (units : List UnitFile) × (r ≡ Ok inspect) × ChoosesUnits body body.tree given (Ok units) × IsInspect body units inspect)
    ⊎ ((e : UnitsErr) × (r ≡ Err (of_units e)) × IsOfUnits (Err e) × ChoosesUnits body body.tree given (Err e))

from_units : (body : Body) (given : List (List ℕ)) (r : Result Inspect InspectErr) → IsOfService r → InspectsBody body given r → FromUnits body given r
from_units body given (Ok inspect) known x = inl (inspect, x.0, refl, x.1, x.2)
from_units body given (Err errors.OutOfMemory) known x = absurd known
from_units body given (Err errors.NoSuchImage) known x = absurd x
from_units body given (Err errors.NotPortable) known x = absurd x
from_units body given (Err (errors.BadRelease line)) known x = absurd x
from_units body given (Err (errors.PrefixForbidden prefix)) known x = inr (units_errors.PrefixForbidden prefix, refl, tt, x)
from_units body given (Err errors.NoUnits) known x = inr (units_errors.NoUnits, refl, tt, x)
from_units body given (Err (errors.Shelf e)) known x = absurd x

same_inspect : (body : Body) (units others : List UnitFile) (a b : Inspect) → units ≡ others → IsInspect body units a → IsInspect body others b → a ≡ b
same_inspect body units others a b same x y =
    let place : a.place ≡ b.place = x.place ∙ sym y.place in
    let id : a.id ≡ b.id = x.id ∙ sym y.id in
    let version : a.version ≡ b.version = x.version ∙ sym y.version in
    let names : a.units ≡ b.units = x.units_are ∙ ap names_of same ∙ sym y.units_are in
    λ i. record { place = place i; id = id i; version = version i; units = names i }

abbrev ok_of : (A E : Type 0) → A → Result A E
ok_of A E x = Ok x

abbrev err_of : (A E : Type 0) → E → Result A E
err_of A E e = Err e

ok_same : {A E : Type 0} (x y : A) → ok_of A E x ≡ ok_of A E y → x ≡ y
ok_same {A} {E} x y same = ap (λ (r : Result A E). elim r as (λ _. A) [ Ok v ↦ v | Err e ↦ x ]) same

err_same : {A E : Type 0} (x y : E) → err_of A E x ≡ err_of A E y → x ≡ y
err_same {A} {E} x y same = ap (λ (r : Result A E). elim r as (λ _. E) [ Ok v ↦ x | Err e ↦ e ]) same

ok_err : {A E B : Type 0} {x : A} {e : E} → ok_of A E x ≡ err_of A E e → B
ok_err {A} {E} same = absurd (subst (λ (r : Result A E). elim r as (λ _. Type 0) [ Ok v ↦ Unit {0} | Err e ↦ ⊥ ]) same tt)

module _ (one_choice : OneChoice HeldFile) (body : Body) (given : List (List ℕ)) (r s : Result Inspect InspectErr) where
  same_from : FromUnits body given r → FromUnits body given s → r ≡ s
  same_from (inl x) (inl y) =
      let units : x.1 ≡ y.1 = ok_same x.1 y.1 (one_choice body body.tree given (Ok x.1) (Ok y.1) tt tt x.3 y.3) in
      x.2 ∙ ap Ok (same_inspect body x.1 y.1 x.0 y.0 units x.4 y.4) ∙ sym y.2
  same_from (inl x) (inr y) = ok_err (one_choice body body.tree given (Ok x.1) (Err y.0) tt y.2 x.3 y.3)
  same_from (inr x) (inl y) = ok_err (sym (one_choice body body.tree given (Err x.0) (Ok y.1) x.2 tt x.3 y.3))
  same_from (inr x) (inr y) =
      x.1 ∙ ap (λ e. Err (of_units e)) (err_same x.0 y.0 (one_choice body body.tree given (Err x.0) (Err y.0) x.2 y.2 x.3 y.3)) ∙ sym y.1

module _ (told : HeldFile → Told) (base : Entries HeldFile) (arch : Arch) (image : Image) (given : List (List ℕ)) where
  -- what is told of a service is told of its image, or is why there is none
  abbrev FromImage : ℕ → ℕ → Result Inspect InspectErr → Type 0
  FromImage old new r =
      ((body : Body) × ReadsImage told old new base arch image (Ok body) × InspectsBody body given r)
      ⊎ ((e : BodyErr) × (r ≡ Err (of_body e)) × IsOfImage (Err e) × ReadsImage told old new base arch image (Err e))

  from_image : (old new : ℕ) (r : Result Inspect InspectErr) → IsOfService r → Inspects told old new base arch image given r → FromImage old new r
  from_image old new (Ok inspect) known x = inl x
  from_image old new (Err errors.OutOfMemory) known x = absurd known
  from_image old new (Err errors.NoSuchImage) known x = inr (body_errors.NoSuchImage, refl, tt, x)
  from_image old new (Err errors.NotPortable) known x = inr (body_errors.NotPortable, refl, tt, x)
  from_image old new (Err (errors.BadRelease line)) known x = inr (body_errors.BadRelease line, refl, tt, x)
  from_image old new (Err (errors.PrefixForbidden prefix)) known x = inl x
  from_image old new (Err errors.NoUnits) known x = inl x
  from_image old new (Err (errors.Shelf e)) known x = absurd known

  module _ (one : OneImage) (one_choice : OneChoice HeldFile) (gives : GivesOneText told) (old new other_old other_new : ℕ) (r s : Result Inspect InspectErr) (known : IsOfService r) (also : IsOfService s) where
    same_inspection : FromImage old new r → FromImage other_old other_new s → r ≡ s
    same_inspection (inl x) (inl y) =
        let body : x.0 ≡ y.0 = ok_same x.0 y.0 (one told old new other_old other_new base arch image (Ok x.0) (Ok y.0) gives tt tt x.1 y.1) in
        same_from one_choice y.0 given r s (from_units y.0 given r known (subst (λ b. InspectsBody b given r) body x.2)) (from_units y.0 given s also y.2)
    same_inspection (inl x) (inr y) = ok_err (one told old new other_old other_new base arch image (Ok x.0) (Err y.0) gives tt y.2 x.1 y.3)
    same_inspection (inr x) (inl y) = ok_err (sym (one told old new other_old other_new base arch image (Err x.0) (Ok y.0) gives x.2 tt x.3 y.1))
    same_inspection (inr x) (inr y) =
        x.1
        ∙ ap (λ e. Err (of_body e)) (err_same x.0 y.0 (one told old new other_old other_new base arch image (Err x.0) (Err y.0) gives x.2 y.2 x.3 y.3))
        ∙ sym y.1

pub one_inspect_law : OneImage → OneChoice HeldFile → OneInspect
one_inspect_law one one_choice told old new other_old other_new base arch image given a b gives known also x y =
    same_inspection told base arch image given one one_choice gives old new other_old other_new a b known also
    (from_image told base arch image given old new a known x) (from_image told base arch image given other_old other_new b also y)
