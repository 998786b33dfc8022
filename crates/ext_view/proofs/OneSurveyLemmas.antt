-- A host has one survey, where it is told of each file what it has, and one refreshed host.
use Rattle.std.proofs.Common.{◌≡◌, ◌≢◌, ℕ, Bool, true, List, [], ◌∷◌, length, Option, Some, None, Ok, refl, sym, ap, ◌∙◌, subst, arith, inl, inr}
use Rattle.std.proofs.lemmas.Bool.{true≢false}
use Rattle.std.specs.FinMap.{FinMap}
use Rattle.ext_lines.specs.ByteOrder.{bytes_cmp}
use Rattle.ext_text.specs.declared.extension.Extension.{Extension}
use Rattle.ext_tree.specs.Part.{part}
use Rattle.ext_tree.specs.Tree.{Entries, lookup}
use Rattle.ext_tree.specs.declared.entry.Entry.TheVariants.{File}
use Rattle.ext_walk.specs.Walk.{parts, walk}
use Rattle.ext_walk.specs.Leads.{LeadsTo}
use Rattle.ext_walk.proofs.ForCallers.{one_end}
use Rattle.ext_release.specs.Laws.{NoFaultInRelease, OneFault, OneRelease}
use Rattle.ext_release.specs.Release.{IsRelease}
use Rattle.ext_host.specs.Held.{HeldFile}
use Rattle.ext_host.specs.Planning.{IsBaseTree, content_size}
use Rattle.ext_host.specs.Shelf.{Told, untold, missing, stored}
use Rattle.ext_host.specs.declared.host.Host.{Host}
use Rattle.ext_host.specs.declared.host.Plan.{Plan}
use Rattle.ext_match.specs.Verdict.{IsVerdict, OneVerdict}
use Rattle.ext_find.specs.Content.{is_file_at}
use Rattle.ext_find.specs.ExtensionRelease.{release_text}
use Rattle.ext_find.specs.HostRelease.{IsGiven, IsReleaseFile, LeadsToContent, own_release, vendor_release}
use Rattle.ext_find.specs.Laws.{OneFound}
use Rattle.ext_find.specs.declared.found.FoundItem.{FoundItem}
use Rattle.ext_find.specs.declared.found.FoundKind.{FoundKind}
use Rattle.ext_find.specs.declared.found.FoundKind.TheVariants as found
use Rattle.ext_view.specs.Image.{HasReleaseFile}
use Rattle.ext_view.specs.Laws.{OneSurvey, RefreshGivesUnmergeThenMerge, TellsAll, host_after}
use Rattle.ext_view.specs.Matched.{AreMatched}
use Rattle.ext_view.specs.Merging.{IsRefreshed, PlansView, Refreshes}
use Rattle.ext_view.specs.Surveying.{HasHostRelease, IsHostRelease, IsItemOf, IsJudged, IsKindOf, MakesOf}
use Rattle.ext_view.specs.View.{chosen, names_of}
use Rattle.ext_view.specs.declared.outcome.Merge.{Merge}
use Rattle.ext_view.specs.declared.surveyed.SurveyItem.{SurveyItem}
use Rattle.ext_view.specs.declared.surveyed.SurveyKind.{SurveyKind}
use Rattle.ext_view.specs.declared.surveyed.SurveyKind.TheVariants.{Masked, Raw, Broken, BadRelease, Image}
use Rattle.ext_view.proofs.LawsLemmas.{one_tree, one_unmerged, one_view, unmerge_then_merge_is_refresh}

-- names lead to one content
one_content : (es : Entries HeldFile) (names : List (List ℕ)) (a b : HeldFile) → LeadsToContent es names a → LeadsToContent es names b → a ≡ b
one_content es names a b x y =
    let end : x.0 ≡ y.0 = one_end es (walk [] names 0) x.0 y.0 x.2 y.2 in
    let same : Some (File x.1 a) ≡ Some (File y.1 b) = sym x.3 ∙ ap (lookup es) end ∙ y.3 in
    cc

-- so they lead to a file
pub leads_to_file : (es : Entries HeldFile) (names : List (List ℕ)) (a : HeldFile) → LeadsToContent es names a → LeadsTo is_file_at es names
leads_to_file es names a x = (x.0, x.2, ap is_file_at x.3)

-- the host has one release file
pub one_release_file : (es : Entries HeldFile) (a b : HeldFile) → IsReleaseFile es a → IsReleaseFile es b → a ≡ b
one_release_file es a b (inl x) (inl y) = one_content es own_release a b x y
one_release_file es a b (inl x) (inr y) = absurd (y.0 (leads_to_file es own_release a x))
one_release_file es a b (inr x) (inl y) = absurd (x.0 (leads_to_file es own_release b y))
one_release_file es a b (inr x) (inr y) = one_content es vendor_release a b x.1 y.1

-- an image has one release file
one_image_file : (es : Entries HeldFile) (class : Extension) (place : List (List ℕ)) (name : List ℕ) (a b : HeldFile) → HasReleaseFile es class place name a → HasReleaseFile es class place name b → a ≡ b
one_image_file es class place name a b x y =
    let image : x.image ≡ y.image = one_end es (walk [] place 0) x.image y.image x.leads y.leads in
    one_content (part y.image es) (parts (release_text class name)) a b (subst (λ image. LeadsToContent (part image es) (parts (release_text class name)) a) image x.file) y.file

-- of what is told one text is given
pub one_given : (t : Told) (held : HeldFile) (a b : List ℕ) → t ≢ untold → IsGiven t held a → IsGiven t held b → a ≡ b
one_given untold held a b tells x y = absurd (tells refl)
one_given missing held a b tells x y = absurd x.as_told
one_given (stored bytes) held a b tells x y = x.as_told ∙ sym y.as_told

module _ (told : HeldFile → Told) (tells : TellsAll told) where
  given_once : (a b : HeldFile) (x y : List ℕ) → a ≡ b → IsGiven (told a) a x → IsGiven (told b) b y → x ≡ y
  given_once a b x y same given other = one_given (told b) b x y (tells b) (subst (λ held. IsGiven (told held) held x) same given) other

  pub one_host_bytes : (base : Entries HeldFile) (a b : List ℕ) → HasHostRelease told base a → HasHostRelease told base b → a ≡ b
  one_host_bytes base a b x y = given_once x.file y.file a b (one_release_file base x.file y.file x.is_file y.is_file) x.given y.given

-- the laws of what a survey rests on
pub record Below : Type 0 where
  pub one_found : OneFound content_size
  pub one_release : OneRelease
  pub not_both : NoFaultInRelease
  pub one_fault : OneFault
  pub one_verdict : OneVerdict

module _ (below : Below) (told : HeldFile → Told) (tells : TellsAll told) where
  one_host_release : (base : Entries HeldFile) (a b : FinMap bytes_cmp (List ℕ)) → IsHostRelease told base a → IsHostRelease told base b → a ≡ b
  one_host_release base a b x y = below.one_release y.bytes a b (subst (λ bytes. IsRelease bytes a) (one_host_bytes told tells base x.bytes y.bytes x.has y.has) x.reads) y.reads

  module _ (host : Host) (base : Entries HeldFile) (class : Extension) (force : Bool) (release : FinMap bytes_cmp (List ℕ)) where
    one_made : (bytes : List ℕ) (a b : SurveyKind) → MakesOf release host class force bytes a → MakesOf release host class force bytes b → a ≡ b
    one_made bytes Masked b x y = absurd x
    one_made bytes Raw b x y = absurd x
    one_made bytes (Broken why) b x y = absurd x
    one_made bytes (BadRelease line) Masked x y = absurd y
    one_made bytes (BadRelease line) Raw x y = absurd y
    one_made bytes (BadRelease line) (Broken why) x y = absurd y
    one_made bytes (BadRelease line) (BadRelease other) x y = ap BadRelease (below.one_fault bytes line other x y)
    one_made bytes (BadRelease line) (Image verdict) x y = absurd (below.not_both bytes y.0 line y.1 x)
    one_made bytes (Image verdict) Masked x y = absurd y
    one_made bytes (Image verdict) Raw x y = absurd y
    one_made bytes (Image verdict) (Broken why) x y = absurd y
    one_made bytes (Image verdict) (BadRelease line) x y = absurd (below.not_both bytes x.0 line x.1 y)
    one_made bytes (Image verdict) (Image other) x y =
        let own : x.0 ≡ y.0 = below.one_release bytes x.0 y.0 x.1 y.1 in
        ap Image (below.one_verdict release y.0 class host.scope host.arch force verdict other (subst (λ own. IsVerdict release own class host.scope host.arch force verdict) own x.2) y.2)

    one_judged : (place : List (List ℕ)) (name : List ℕ) (a b : SurveyKind) → IsJudged told host base class force release place name a → IsJudged told host base class force release place name b → a ≡ b
    one_judged place name a b x y =
        let file : x.file ≡ y.file = one_image_file base class place name x.file y.file x.is_file y.is_file in
        let bytes : x.bytes ≡ y.bytes = given_once told tells x.file y.file x.bytes y.bytes file x.given y.given in
        one_made y.bytes a b (subst (λ bytes. MakesOf release host class force bytes a) bytes x.makes) y.makes

    one_kind : (place : List (List ℕ)) (name : List ℕ) (kind : FoundKind) (a b : SurveyKind) → IsKindOf told host base class force release place name kind a → IsKindOf told host base class force release place name kind b → a ≡ b
    one_kind place name found.Masked a b x y = x ∙ sym y
    one_kind place name found.Raw a b x y = x ∙ sym y
    one_kind place name (found.Broken why) a b x y = x ∙ sym y
    one_kind place name found.Image a b x y = one_judged place name a b x y

    one_item : (item : FoundItem) (a b : SurveyItem) → IsItemOf told host base class force release item a → IsItemOf told host base class force release item b → a ≡ b
    one_item item a b x y =
        let name : a.name ≡ b.name = x.name ∙ sym y.name in
        let place : a.place ≡ b.place = x.place ∙ sym y.place in
        let kind : a.kind ≡ b.kind = one_kind item.place item.name item.kind a.kind b.kind x.kind y.kind in
        (λ i. record { name = name i; place = place i; kind = kind i })

    one_list : (items : List FoundItem) (a b : List SurveyItem) → AreMatched (IsItemOf told host base class force release) items a → AreMatched (IsItemOf told host base class force release) items b → a ≡ b
    one_list [] [] [] x y = refl
    one_list [] [] (b ∷ bs) x y = absurd y
    one_list [] (a ∷ as_) bs x y = absurd x
    one_list (item ∷ items) [] bs x y = absurd x
    one_list (item ∷ items) (a ∷ as_) [] x y = absurd y
    one_list (item ∷ items) (a ∷ as_) (b ∷ bs) x y =
        let first : a ≡ b = one_item item a b x.0 y.0 in
        let rest : as_ ≡ bs = one_list items as_ bs x.1 y.1 in
        (λ i. first i ∷ rest i)

pub one_survey : Below → OneSurvey
one_survey below told host base class force items others tells x y =
    let release : x.release ≡ y.release = one_host_release below told tells base x.release y.release x.is_release y.is_release in
    let all : x.surveyed.found_items ≡ y.surveyed.found_items = below.one_found base _ _ _ x.surveyed.found_items y.surveyed.found_items x.surveyed.are_found y.surveyed.are_found in
    one_list below told tells host base class force y.release y.surveyed.found_items items others
    (subst (λ found_items. AreMatched (IsItemOf told host base class force y.release) found_items items) all (subst (λ release. AreMatched (IsItemOf told host base class force release) x.surveyed.found_items items) release x.surveyed.each))
    y.surveyed.each

-- a host has one base
pub one_base : (host : Host) (x y : Entries HeldFile) → IsBaseTree host x → IsBaseTree host y → x ≡ y
one_base host x y is also = one_tree x y is.tree also.tree (λ p. is.is_base p ∙ sym (also.is_base p))

-- two plans of one view are one
plan_once : (host : Host) (class : Extension) (base : Entries HeldFile) (items : List SurveyItem) (x y : Option Plan) → PlansView host class base items x → PlansView host class base items y → x ≡ y
plan_once host class base items None None is also = refl
plan_once host class base [] None (Some y) is also = absurd (true≢false (sym also.0 ∙ is.1))
plan_once host class base (item ∷ items) None (Some y) is also = absurd (let long = ap length is.0 in omega (arith, long))
plan_once host class base [] (Some x) None is also = absurd (true≢false (sym is.0 ∙ also.1))
plan_once host class base (item ∷ items) (Some x) None is also = absurd (let long = ap length also.0 in omega (arith, long))
plan_once host class base [] (Some x) (Some y) is also = let next = one_unmerged host class x.next y.next is.1 also.1 in (λ i. Some (record { next = next i }))
plan_once host class base (item ∷ items) (Some x) (Some y) is also = let next = one_view host class base (item ∷ items) x.next y.next is also in (λ i. Some (record { next = next i }))

-- and one refreshed host
pub one_refreshed : OneSurvey → (told : HeldFile → Told) → TellsAll told → (host : Host) (base : Entries HeldFile) (class : Extension) (force : Bool) (x y : Merge) → IsRefreshed told host base class force x → IsRefreshed told host base class force y → x ≡ y
one_refreshed one_survey told tells host base class force x y is also =
    let items = one_survey told host base class force is.items also.items tells is.surveyed also.surveyed in
    let names : x.names ≡ y.names = is.names ∙ ap (λ items. names_of (chosen items)) items ∙ sym also.names in
    let plan : x.plan ≡ y.plan = plan_once host class base (chosen also.items) x.plan y.plan (subst (λ items. PlansView host class base (chosen items) x.plan) items is.plan) also.plan in
    (λ i. record { plan = plan i; names = names i })

refreshes_once : OneSurvey → (told : HeldFile → Told) → TellsAll told → (old new : ℕ) (host : Host) (class : Extension) (force : Bool) (x y : Merge) → Refreshes told old new host class force (Ok x) → Refreshes told old new host class force (Ok y) → x ≡ y
refreshes_once one_survey told tells old new host class force x y is also =
    let base = one_base host is.0 also.0 is.1 also.1 in
    one_refreshed one_survey told tells host also.0 class force x y (subst (λ base. IsRefreshed told host base class force x) base is.2) also.2

-- what a refresh gives is what an unmerge and then a merge give
pub refresh_gives_unmerge_then_merge : OneSurvey → RefreshGivesUnmergeThenMerge
refresh_gives_unmerge_then_merge one_survey told old new host class force unmerged merged refreshed tells valid unmerges merges refreshes =
    let other = unmerge_then_merge_is_refresh told old new host class force unmerged merged valid unmerges merges in
    let same : refreshed ≡ record { plan = other.0; names = merged.names } = refreshes_once one_survey told tells old new host class force refreshed (record { plan = other.0; names = merged.names }) refreshes other.1 in
    (ap (λ (merge : Merge). merge.names) same, ap (λ (merge : Merge). host_after host merge.plan) same ∙ other.2)
