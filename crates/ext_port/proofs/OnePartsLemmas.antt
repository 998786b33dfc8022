-- Of each part of an attachment there is one: its profile, what is made of it, and the paths at which something is put.
use Rattle.std.proofs.Common.{◌≡◌, ℕ, Bool, true, false, cond, ◌||◌, List, [], ◌∷◌, map, Option, Some, None, inl, inr, refl, sym, ap, ◌∙◌}
use Rattle.std.specs.FinMap.{find, is_sorted}
use Rattle.std.specs.FinMap.Entries.{below_all, same_entries}
use Rattle.std.specs.List.{AllByRecursion}
use Rattle.std.specs.List.Sorted.{IsStrictlySortedBy}
use Rattle.std.specs.Ordering.{eq_by_cmp, is_lt}
use Rattle.std.specs.declared.cmp.Ordering.TheVariants.{Less}
use Rattle.std.proofs.lemmas.Bool.{and_from}
use Rattle.std.proofs.lemmas.Float.{T_from_true}
use Rattle.ext_attributes.specs.Attributes.{OfFile}
use Rattle.ext_text.specs.Order.{paths_exact, paths_total}
use Rattle.ext_text.specs.Path.{path_cmp}
use Rattle.ext_text.specs.SortedPaths.{is_among}
use Rattle.ext_tree.specs.Tree.{Entries, lookup}
use Rattle.ext_tree.specs.declared.entry.Entry.{Entry}
use Rattle.ext_tree.specs.declared.entry.Entry.TheVariants.{File}
use Rattle.ext_walk.specs.Leads.{LeadsTo}
use Rattle.ext_walk.specs.Walk.{parts}
use Rattle.ext_walk.proofs.ForCallers.{same_end}
use Rattle.ext_host.specs.Held.{HeldFile}
use Rattle.ext_host.proofs.ForCallers.{one_stamp}
use Rattle.ext_find.specs.Content.{is_file_at}
use Rattle.ext_units.specs.declared.body.Body.{Body}
use Rattle.ext_units.specs.declared.unit_file.UnitFile.{UnitFile}
use Rattle.ext_added.specs.Attaching.{IsAttaching, directory_attributes, is_outside, shown_for}
use Rattle.ext_added.specs.DropIn.{IsOwn, own_text}
use Rattle.ext_added.specs.Profile.{IsProfile, LeadsToProfile, NoProfile, etc_profiles, profile_text, run_profiles, vendor_profiles}
use Rattle.ext_added.specs.declared.ask.Ask.{Ask}
use Rattle.ext_added.specs.declared.attaching.Attaching.{Attaching}
use Rattle.ext_added.specs.declared.profile.Profile.{Profile}
use Rattle.ext_port.specs.Wants.{AreAdded}

-- paths in order

-- paths as the keys of a map
abbrev keyed : List (List (List ℕ)) → List (List (List ℕ) × Bool)
keyed ps = map (λ (p : List (List ℕ)). (p, true)) ps

all_after : (p : List (List ℕ)) (ps : List (List (List ℕ))) → AllByRecursion (λ q. path_cmp p q ≡ Less) ps → below_all path_cmp p (keyed ps) ≡ true
all_after p [] after = refl
all_after p (q ∷ ps) after = and_from _ _ (ap is_lt after.0) (all_after p ps after.1)

in_order : (ps : List (List (List ℕ))) → IsStrictlySortedBy path_cmp ps → is_sorted path_cmp (keyed ps) ≡ true
unfolding IsStrictlySortedBy
in_order [] sorted = refl
in_order (p ∷ ps) sorted = and_from _ _ (all_after p ps sorted.0) (in_order ps sorted.1)

-- a path is found where it is among them
found_key : (q : List (List ℕ)) (ps : List (List (List ℕ))) → find path_cmp q (keyed ps) ≡ cond (is_among ps q) (Some true) None
found_key q [] = refl
found_key q (p ∷ ps) = elim (eq_by_cmp path_cmp q p) as (λ b. cond b (Some true) (find path_cmp q (keyed ps)) ≡ cond (b || is_among ps q) (Some true) None) [
  | true ↦ refl
  | false ↦ found_key q ps
]

keys_are : (ps : List (List (List ℕ))) → map (λ (e : List (List ℕ) × Bool). e.0) (keyed ps) ≡ ps
keys_are [] = refl
keys_are (p ∷ ps) = ap (λ qs. p ∷ qs) (keys_are ps)

-- the same paths have one order
one_order : (a b : List (List (List ℕ))) → IsStrictlySortedBy path_cmp a → IsStrictlySortedBy path_cmp b → ((q : List (List ℕ)) → is_among a q ≡ is_among b q) → a ≡ b
one_order a b first second same =
    sym (keys_are a)
    ∙ ap (map (λ (e : List (List ℕ) × Bool). e.0))
    (same_entries path_cmp paths_total paths_exact (keyed a) (keyed b) (T_from_true _ (in_order a first)) (T_from_true _ (in_order b second))
    (λ q. found_key q a ∙ ap (λ t. cond t (Some true) None) (same q) ∙ sym (found_key q b)))
    ∙ keys_are b

-- the paths at which something is put
pub one_added : (tops a b : List (List (List ℕ))) → AreAdded tops a → AreAdded tops b → a ≡ b
one_added tops a b first second = one_order a b first.order second.order (λ q. first.same (eq_by_cmp path_cmp q) ∙ sym (second.same (eq_by_cmp path_cmp q)))

-- the profile

same_file : (m n : OfFile) (a b : HeldFile) → ◌≡◌ {A = Option (Entry HeldFile)} (Some (File m a)) (Some (File n b)) → a ≡ b
same_file m n a b same = cc

module _ (base : Entries HeldFile) where
  led_to_file : (names : List (List ℕ)) (a : Profile) → LeadsToProfile base names a → LeadsTo is_file_at base names
  led_to_file names a x = (a.path, x.leads, ap is_file_at x.stands)

  one_led : (names : List (List ℕ)) (a b : Profile) → LeadsToProfile base names a → LeadsToProfile base names b → a ≡ b
  one_led names a b x y =
      let path : a.path ≡ b.path = same_end base names a.path b.path x.leads y.leads in
      let file : a.file ≡ b.file = same_file x.attributes y.attributes a.file b.file (sym x.stands ∙ ap (lookup base) path ∙ y.stands) in
      λ i. record { path = path i; file = file i }

  module _ (name : List ℕ) where
    abbrev in_etc : List (List ℕ)
    in_etc = parts (profile_text etc_profiles name)

    abbrev in_run : List (List ℕ)
    in_run = parts (profile_text run_profiles name)

    abbrev in_vendor : List (List ℕ)
    in_vendor = parts (profile_text vendor_profiles name)

    -- there is one profile of a name
    pub one_profile : (a b : Profile) → IsProfile base name a → IsProfile base name b → a ≡ b
    one_profile a b (inl x) (inl y) = one_led in_etc a b x y
    one_profile a b (inl x) (inr (inl y)) = absurd (y.0 (led_to_file in_etc a x))
    one_profile a b (inl x) (inr (inr y)) = absurd (y.0 (led_to_file in_etc a x))
    one_profile a b (inr (inl x)) (inl y) = absurd (x.0 (led_to_file in_etc b y))
    one_profile a b (inr (inl x)) (inr (inl y)) = one_led in_run a b x.1 y.1
    one_profile a b (inr (inl x)) (inr (inr y)) = absurd (y.1 (led_to_file in_run a x.1))
    one_profile a b (inr (inr x)) (inl y) = absurd (x.0 (led_to_file in_etc b y))
    one_profile a b (inr (inr x)) (inr (inl y)) = absurd (x.1 (led_to_file in_run b y.1))
    one_profile a b (inr (inr x)) (inr (inr y)) = one_led in_vendor a b x.2 y.2

    -- or none
    pub no_profile : (a : Profile) → NoProfile base name → ¬ IsProfile base name a
    no_profile a none (inl x) = none.0 (led_to_file in_etc a x)
    no_profile a none (inr (inl x)) = none.1 (led_to_file in_run a x.1)
    no_profile a none (inr (inr x)) = none.2 (led_to_file in_vendor a x.2)

-- what is made

one_own : (text : List ℕ) (a b : HeldFile) → IsOwn text a → IsOwn text b → a ≡ b
one_own text a b x y =
    let stamp = one_stamp text a.stamp b.stamp x.stamp y.stamp in
    let body = x.body ∙ sym y.body in
    λ i. record { stamp = stamp i; body = body i }

-- one thing is made of an ask, an image and its units
pub one_made : (base : Entries HeldFile) (ask : Ask) (body : Body) (units : List UnitFile) (profile : Profile) (lines : List ℕ) (a b : Attaching) → IsAttaching base ask body units profile lines a → IsAttaching base ask body units profile lines b → a ≡ b
one_made base ask body units profile lines a b x y =
    let runtime : a.runtime ≡ b.runtime = x.runtime ∙ sym y.runtime in
    let copy : a.copy ≡ b.copy = x.copy ∙ sym y.copy in
    let place : a.place ≡ b.place = x.place ∙ sym y.place in
    let outside : a.outside ≡ b.outside = x.outside ∙ sym y.outside in
    let directory : a.directory ≡ b.directory = same_end base body.place a.directory b.directory x.leads y.leads in
    let attributes : a.attributes ≡ b.attributes = x.attributes ∙ ap (λ d. directory_attributes (lookup base d)) directory ∙ sym y.attributes in
    let profile_same : a.profile ≡ b.profile = x.profile_is ∙ sym y.profile_is in
    let own : a.own ≡ b.own = one_own (own_text body.place (shown_for ask.runtime ask.copy (is_outside ask.image) body.place) lines) a.own b.own x.own y.own in
    let units_same : a.units ≡ b.units = x.units_are ∙ sym y.units_are in
    λ i. record {
      runtime = runtime i;
      copy = copy i;
      place = place i;
      outside = outside i;
      directory = directory i;
      attributes = attributes i;
      profile = profile_same i;
      own = own i;
      units = units_same i;
    }
