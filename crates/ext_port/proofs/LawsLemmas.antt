-- The laws of attaching.
use Rattle.std.proofs.Common.{◌≡◌, ◌≢◌, ℕ, Bool, true, false, cond, not, ◌||◌, ◌&&◌, if◌then◌else◌, List, [], ◌∷◌, ◌++◌, length, Option, Some, None, Ok, Err, is_some, inl, inr, refl, sym, ap, ◌∙◌, subst, arith}
use Rattle.std.specs.Prelude.{Result}
use Rattle.std.specs.List.{filter, flat_map, list_any}
use Rattle.std.specs.Ordering.{eq_by_cmp, is_gt, is_lt}
use Rattle.std.specs.declared.cmp.Ordering.TheVariants.{Less, Equal, Greater}
use Rattle.std.proofs.lemmas.Bool.{false≢true, cases_lt, false_from_ne_true, or_left, or_right, true≢false}
use Rattle.std.proofs.lemmas.List.{append-nil}
use Rattle.std.proofs.lemmas.List.Folds.{list_any-append}
use Rattle.ext_lines.specs.ByteOrder.{bytes_cmp}
use Rattle.ext_text.specs.Path.{is_prefix, is_proper_prefix, path_cmp}
use Rattle.ext_text.specs.SortedPaths.{covers, is_among}
use Rattle.ext_text.specs.declared.which.Which.{Which}
use Rattle.ext_text.proofs.ForCallers.{names_tied, prefix_short, prefix_whole, same_name, tied_name}
use Rattle.ext_tree.specs.Cut.{cut_all}
use Rattle.ext_tree.specs.Graft.{or_made}
use Rattle.ext_tree.specs.Refusals.{is_root}
use Rattle.ext_tree.specs.Tree.{Entries, IsTree, is_directory_at, lookup}
use Rattle.ext_tree.specs.declared.entry.Entry.{Entry}
use Rattle.ext_tree.proofs.ForCallers.{is_cut_all, prefixes}
use Rattle.ext_host.specs.Held.{HeldFile}
use Rattle.ext_host.specs.ReadOnly.{is_read_only}
use Rattle.ext_host.specs.Shelf.{Told}
use Rattle.ext_host.specs.declared.attachment.Attachment.{Attachment}
use Rattle.ext_host.specs.declared.host.Host.{Host}
use Rattle.ext_units.specs.ImageName.{first_part, image_name}
use Rattle.ext_units.specs.declared.body.Body.{Body}
use Rattle.ext_units.specs.declared.image.Image.{Image}
use Rattle.ext_units.specs.declared.unit_file.UnitFile.{UnitFile}
use Rattle.ext_updated.specs.Pieces.{is_above, paths_of}
use Rattle.ext_updated.specs.Updated.{IsUpdated}
use Rattle.ext_updated.proofs.ForCallers.{among_right, any_among}
use Rattle.ext_attached.specs.Detaching.{Detaches}
use Rattle.ext_attached.specs.Going.{detached, gone, goes, is_of_name, staying, without}
use Rattle.ext_attached.specs.Least.{NonePasses}
use Rattle.ext_attached.specs.declared.going.By.TheVariants.{Name, FirstPart}
use Rattle.ext_added.specs.Added.{pieces_of}
use Rattle.ext_added.specs.Tops.{tops_of}
use Rattle.ext_added.specs.declared.ask.Ask.{Ask}
use Rattle.ext_added.specs.declared.attaching.Attaching.{Attaching}
use Rattle.ext_added.proofs.ForCallers.{no_top_root, tops_fit}
use Rattle.ext_port.specs.Laws.{AddedAtTops, DetachUndoesAttach, ReattachIsAttach, added_of, is_way, with_ways}
use Rattle.ext_port.specs.Limits.{first_limit, new_bytes}
use Rattle.ext_port.specs.NextHost.{attached_host, attachment_of, with_attachment}
use Rattle.ext_port.specs.Starting.{cut_of, start_host, unfit}
use Rattle.ext_port.specs.Wants.{AreAdded, Attaches, BlockingWants, BodyWants, FitWants, FitsAll, FittingWants, LockedWants, ProfileWants, SizedWants, StandingWants, UnitsWant}
use Rattle.ext_port.specs.declared.attaching.Attach.{Attach}
use Rattle.ext_port.specs.declared.errors.PortErr.{PortErr}
use Rattle.ext_port.specs.declared.errors.PortErr.TheVariants as errors

-- what is attached is no refusal
pub no_refusal : {A : Type 0} (attach : Attach) (e : PortErr) → ◌≡◌ {A = Result Attach PortErr} (Ok attach) (Err e) → A
no_refusal attach e same = absurd (subst (λ (r : Result Attach PortErr). elim r as (λ _. Type 0) [ Ok v ↦ Unit {0} | Err x ↦ ⊥ ]) same tt)

same_attach : (a b : Attach) → ◌≡◌ {A = Result Attach PortErr} (Ok a) (Ok b) → a ≡ b
same_attach a b same = ap (λ (r : Result Attach PortErr). elim r as (λ _. Attach) [ Ok v ↦ v | Err x ↦ a ]) same

-- what is known of an image that was attached
pub record IsDone (start : Host) (cut : List (List (List ℕ))) (ask : Ask) (image tree : Entries HeldFile) (made : Attaching) (attach : Attach) : Type 0 where
  pub unlocked : NonePasses (is_read_only start) (cut ++ tops_of made)
  pub free : NonePasses (λ path. is_some (lookup start.root path)) (tops_of made)
  pub fits : FitsAll made image tree
  pub root : Entries HeldFile
  pub updated : IsUpdated start.root [] (pieces_of made image tree) root
  pub added : List (List (List ℕ))
  pub are_added : AreAdded (tops_of made) added
  pub next : attach.plan.next ≡ attached_host start added root (attachment_of ask made.place added)

module _ (start : Host) (cut : List (List (List ℕ))) (ask : Ask) (image tree : Entries HeldFile) (made : Attaching) (attach : Attach) where
  sized_done : NonePasses (is_read_only start) (cut ++ tops_of made) → NonePasses (λ path. is_some (lookup start.root path)) (tops_of made) → FitsAll made image tree
      → (root : Entries HeldFile) → IsUpdated start.root [] (pieces_of made image tree) root → (o : Option Which) → SizedWants start ask image tree made root o (Ok attach) → IsDone start cut ask image tree made attach
  sized_done unlocked free fits root updated (Some which) is = no_refusal attach _ is
  sized_done unlocked free fits root updated None (added, are, is) = record {
    unlocked = unlocked;
    free = free;
    fits = fits;
    root = root;
    updated = updated;
    added = added;
    are_added = are;
    next = ap (λ (a : Attach). a.plan.next) (same_attach attach _ is);
  }

  fitting_done : NonePasses (is_read_only start) (cut ++ tops_of made) → NonePasses (λ path. is_some (lookup start.root path)) (tops_of made)
      → FittingWants start ask image tree made (Ok attach) → IsDone start cut ask image tree made attach
  fitting_done unlocked free (inl (fits, (root, updated, sized))) = sized_done unlocked free fits root updated (first_limit (new_bytes made) root start.lower) sized
  fitting_done unlocked free (inr (long, is)) = no_refusal attach _ is

  blocking_done : NonePasses (is_read_only start) (cut ++ tops_of made) → NonePasses (λ path. is_some (lookup start.root path)) (tops_of made)
      → BlockingWants start ask image tree made (Ok attach) → IsDone start cut ask image tree made attach
  blocking_done unlocked free (inl (open_, wants)) = fitting_done unlocked free wants
  blocking_done unlocked free (inr (path, least, is)) = no_refusal attach _ is

  standing_done : NonePasses (is_read_only start) (cut ++ tops_of made) → StandingWants start ask image tree made (Ok attach) → IsDone start cut ask image tree made attach
  standing_done unlocked (inl (free, wants)) = blocking_done unlocked free wants
  standing_done unlocked (inr (path, least, is)) = no_refusal attach _ is

  pub locked_done : LockedWants start ask image tree made cut (Ok attach) → IsDone start cut ask image tree made attach
  locked_done (inl (unlocked, wants)) = standing_done unlocked wants
  locked_done (inr (path, least, is)) = no_refusal attach _ is

  -- the attachment is the one of its name
  not_named : (n : List ℕ) (other : Attachment) → bytes_cmp other.name n ≢ Equal → is_of_name n other ≡ false
  not_named n other apart = false_from_ne_true (is_of_name n other) (λ named. apart (ap (λ m. bytes_cmp m n) (same_name other.name n named) ∙ names_tied n))

  none_lesser : (n : List ℕ) (attached : List Attachment) → gone Name n (filter (λ (other : Attachment). is_lt (bytes_cmp other.name n)) attached) ≡ []
  none_lesser n [] = refl
  none_lesser n (a ∷ attached) = elim (bytes_cmp a.name n) as (λ o. bytes_cmp a.name n ≡ o
      → gone Name n (cond (is_lt o) (a ∷ filter (λ (other : Attachment). is_lt (bytes_cmp other.name n)) attached) (filter (λ (other : Attachment). is_lt (bytes_cmp other.name n)) attached)) ≡ []) [
        | Less ↦ λ less. ap (λ b. cond b (a ∷ gone Name n (filter (λ (other : Attachment). is_lt (bytes_cmp other.name n)) attached)) (gone Name n (filter (λ (other : Attachment). is_lt (bytes_cmp other.name n)) attached))) (not_named n a (λ tied. cc (less, tied)))
            ∙ none_lesser n attached
        | Equal ↦ λ _. none_lesser n attached
        | Greater ↦ λ _. none_lesser n attached
      ] refl

  none_greater : (n : List ℕ) (attached : List Attachment) → gone Name n (filter (λ (other : Attachment). is_gt (bytes_cmp other.name n)) attached) ≡ []
  none_greater n [] = refl
  none_greater n (a ∷ attached) = elim (bytes_cmp a.name n) as (λ o. bytes_cmp a.name n ≡ o
      → gone Name n (cond (is_gt o) (a ∷ filter (λ (other : Attachment). is_gt (bytes_cmp other.name n)) attached) (filter (λ (other : Attachment). is_gt (bytes_cmp other.name n)) attached)) ≡ []) [
        | Less ↦ λ _. none_greater n attached
        | Equal ↦ λ _. none_greater n attached
        | Greater ↦ λ greater. ap (λ b. cond b (a ∷ gone Name n (filter (λ (other : Attachment). is_gt (bytes_cmp other.name n)) attached)) (gone Name n (filter (λ (other : Attachment). is_gt (bytes_cmp other.name n)) attached))) (not_named n a (λ tied. cc (greater, tied)))
            ∙ none_greater n attached
      ] refl

  filter_append : (f : Attachment → Bool) (xs ys : List Attachment) → filter f (xs ++ ys) ≡ filter f xs ++ filter f ys
  filter_append f [] ys = refl
  filter_append f (x ∷ xs) ys = elim (f x) as (λ b. cond b (x ∷ filter f (xs ++ ys)) (filter f (xs ++ ys)) ≡ cond b (x ∷ filter f xs) (filter f xs) ++ filter f ys) [
    | true ↦ ap (λ zs. x ∷ zs) (filter_append f xs ys)
    | false ↦ filter_append f xs ys
  ]

  one_gone : (a : Attachment) (attached : List Attachment) → gone Name a.name (with_attachment a attached) ≡ a ∷ []
  one_gone a attached =
      filter_append (is_of_name a.name) (filter (λ (other : Attachment). is_lt (bytes_cmp other.name a.name)) attached) (a ∷ filter (λ (other : Attachment). is_gt (bytes_cmp other.name a.name)) attached)
      ∙ (λ i. none_lesser a.name attached i ++ cond (tied_name a.name a.name refl i) (a ∷ none_greater a.name attached i) (none_greater a.name attached i))

  there_is : (a : Attachment) (attached : List Attachment) → list_any (is_of_name a.name) (with_attachment a attached) ≡ true
  there_is a attached =
      list_any-append (is_of_name a.name) (filter (λ (other : Attachment). is_lt (bytes_cmp other.name a.name)) attached) (a ∷ filter (λ (other : Attachment). is_gt (bytes_cmp other.name a.name)) attached)
      ∙ or_right _ _ (or_left _ _ (tied_name a.name a.name refl))

  module _ (done : IsDone start cut ask image tree made attach) where
    abbrev pub coming : Host
    coming = attached_host start done.added done.root (attachment_of ask made.place done.added)

    -- the paths that it added are those at which something was put
    pub paths_coming : added_of ask coming ≡ done.added
    paths_coming =
        ap (λ attached. flat_map (λ (a : Attachment). a.added) attached) (one_gone (attachment_of ask made.place done.added) start.attached) ∙ append-nil done.added

    any_added : (test : List (List ℕ) → Bool) → list_any test done.added ≡ list_any test (paths_of (pieces_of made image tree))
    any_added test = done.are_added.same test ∙ ap (list_any test) (sym (tops_fit made image tree done.fits.made_fits))

    ways_same : (q : List (List ℕ)) → covers done.added q ≡ false → is_way done.added q ≡ is_above (pieces_of made image tree) q
    ways_same q out = (λ i. not (is_root q) && (not (out i) && any_added (λ p. is_proper_prefix q p) i))

    -- outside of what was added
    pub outside_coming : (q : List (List ℕ)) → covers done.added q ≡ false → lookup done.root q ≡ with_ways done.added start.root q
    outside_coming q out =
        let apart = sym (any_added (λ p. is_prefix p q)) ∙ out in
        elim (is_above (pieces_of made image tree) q) as (λ b. is_above (pieces_of made image tree) q ≡ b → lookup done.root q ≡ with_ways done.added start.root q) [
          | true ↦ λ above. done.updated.above q apart above ∙ sym (ap (λ b. if b then or_made (lookup start.root q) else lookup start.root q) (ways_same q out ∙ above))
          | false ↦ λ aside. done.updated.elsewhere q apart aside ∙ sym (ap (λ b. if b then or_made (lookup start.root q) else lookup start.root q) (ways_same q out ∙ aside))
        ] refl

    pub added_law_of : (q : List (List ℕ)) → covers (added_of ask attach.plan.next) q ≡ false → lookup attach.plan.next.root q ≡ with_ways (added_of ask attach.plan.next) start.root q
    added_law_of q out =
        let same : added_of ask attach.plan.next ≡ done.added = ap (added_of ask) done.next ∙ paths_coming in
        ap (λ (h : Host). lookup h.root q) done.next ∙ outside_coming q (sym (ap (λ ps. covers ps q) same) ∙ out) ∙ ap (λ ps. with_ways ps start.root q) (sym same)

    module _ (is_tree : IsTree start.root) where
      -- nothing stood at and below what was added
      none_under : (q : List (List ℕ)) → covers done.added q ≡ true → lookup start.root q ≡ None
      none_under q covered =
          let p = any_among (λ r. is_prefix r q) done.added covered in
          elim (lookup start.root q) as (λ o. lookup start.root q ≡ o → o ≡ None) [
            | None ↦ λ _. refl
            | Some e ↦ λ there.
                let among = sym (done.are_added.same (λ r. eq_by_cmp path_cmp p.0 r)) ∙ p.1 in
                absurd (top_there p.0 among (done.free p.0 among) (ap is_some there) p.2)
          ] refl
        where
          directory_there : (o : Option (Entry HeldFile)) → is_directory_at o ≡ true → is_some o ≡ true
          directory_there None directory = directory
          directory_there (Some e) directory = refl

          top_there : (p : List (List ℕ)) → is_among (tops_of made) p ≡ true → is_some (lookup start.root p) ≡ false → is_some (lookup start.root q) ≡ true → is_prefix p q ≡ true → ⊥
          top_there [] among none there below = true≢false (sym among ∙ no_top_root made)
          top_there (n ∷ p) among none there below = elim (cases_lt (length (n ∷ p)) (length q)) [
            | inl shorter ↦ false≢true (sym none ∙ directory_there (lookup start.root (n ∷ p)) (prefixes start.root is_tree (n ∷ p) q there below shorter))
            | inr longer ↦ false≢true (sym none ∙ ap (λ r. is_some (lookup start.root r)) (prefix_whole (n ∷ p) q below (omega (arith, longer, prefix_short (n ∷ p) q below))) ∙ there)
          ]

      covered_ways : (q : List (List ℕ)) → covers done.added q ≡ true → with_ways done.added start.root q ≡ lookup start.root q
      covered_ways q covered = ap (λ b. if not (is_root q) && (not b && list_any (λ p. is_proper_prefix q p) done.added) then or_made (lookup start.root q) else lookup start.root q) covered ∙ and_none (not (is_root q))
        where
          and_none : (b : Bool) → (if b && false then or_made (lookup start.root q) else lookup start.root q) ≡ lookup start.root q
          and_none true = refl
          and_none false = refl

      -- so what is detached leaves what stood
      pub back_is : (q : List (List ℕ)) → lookup (cut_all done.added done.root) q ≡ with_ways done.added start.root q
      back_is q =
          is_cut_all done.added done.root q
          ∙ elim (covers done.added q) as (λ b. covers done.added q ≡ b → (if b then None else lookup done.root q) ≡ with_ways done.added start.root q) [
            | true ↦ λ covered. sym (covered_ways q covered ∙ none_under q covered)
            | false ↦ λ out. outside_coming q out
          ] refl

      -- and detaching is not refused
      pub detaches : Detaches coming (image_name ask.image) (Ok (record { next = detached Name (image_name ask.image) coming }))
      detaches = (
        there_is (attachment_of ask made.place done.added) start.attached,
        λ path among.
            let top : is_among (tops_of made) path ≡ true = sym (done.are_added.same (λ r. eq_by_cmp path_cmp path r)) ∙ sym (ap (λ ps. is_among ps path) paths_coming) ∙ among in
            done.unlocked path (among_right cut (tops_of made) path top),
        refl,
      )

      pub undone : Detaches attach.plan.next (image_name ask.image) (Ok (record { next = detached Name (image_name ask.image) attach.plan.next }))
          × ((q : List (List ℕ)) → lookup (detached Name (image_name ask.image) attach.plan.next).root q ≡ with_ways (added_of ask attach.plan.next) start.root q)
      undone = subst (λ (h : Host). Detaches h (image_name ask.image) (Ok (record { next = detached Name (image_name ask.image) h }))
          × ((q : List (List ℕ)) → lookup (detached Name (image_name ask.image) h).root q ≡ with_ways (added_of ask h) start.root q))
          (sym done.next) (detaches, (λ q. ap (λ ps. lookup (cut_all ps done.root) q) paths_coming ∙ back_is q ∙ ap (λ ps. with_ways ps start.root q) (sym paths_coming)))

-- what was attached, with all that is known of it
pub record WasDone (start : Host) (cut : List (List (List ℕ))) (ask : Ask) (attach : Attach) : Type 0 where
  pub image : Entries HeldFile
  pub tree : Entries HeldFile
  pub made : Attaching
  pub done : IsDone start cut ask image tree made attach

module _ (told : HeldFile → Told) (old new : ℕ) (start : Host) (cut : List (List (List ℕ))) (base : Entries HeldFile) (ask : Ask) (attach : Attach) where
  profile_done : (body : Body) (tree : Entries HeldFile) (lines : List ℕ) (units : List UnitFile) → ProfileWants start cut base ask body tree lines units (Ok attach) → WasDone start cut ask attach
  profile_done body tree lines units (inl (profile, is, (made, are, wants))) =
      record { image = body.tree; tree = tree; made = made; done = locked_done start cut ask body.tree tree made attach wants }
  profile_done body tree lines units (inr (none, is)) = no_refusal attach _ is

  pub units_done : (body : Body) (tree : Entries HeldFile) (lines : List ℕ) → UnitsWant start cut base ask body tree lines (Ok attach) → WasDone start cut ask attach
  units_done body tree lines (inl (units, chosen, wants)) = profile_done body tree lines units wants
  units_done body tree lines (inr (e, chosen, is)) = no_refusal attach _ is

  pub body_done : (place : List (List ℕ)) → BodyWants told old new start cut base ask place (Ok attach) → WasDone start cut ask attach
  body_done place (inl (body, reads, wants)) = units_done body body.tree [] wants
  body_done place (inr (e, reads, is)) = no_refusal attach _ is

  pub fit_done : (place : List (List ℕ)) (unfit : Option PortErr) → FitWants unfit (BodyWants told old new start cut base ask place) (Ok attach) → WasDone start cut ask attach
  fit_done place None wants = body_done place wants
  fit_done place (Some e) is = no_refusal attach _ is

pub was_done : (told : HeldFile → Told) (old new : ℕ) (again : Bool) (host : Host) (ask : Ask) (attach : Attach) → Attaches told old new again host ask (Ok attach)
    → WasDone (start_host again ask.image host) (cut_of again ask.image host) ask attach
was_done told old new again host ask attach (base, is_base, inl (place, at, wants)) =
    fit_done told old new (start_host again ask.image host) (cut_of again ask.image host) base ask attach place (unfit again host ask.image) wants
was_done told old new again host ask attach (base, is_base, inr (none, is)) = no_refusal attach _ is

pub tops_law : AddedAtTops
tops_law told old new again host ask attach attaches q out =
    let was = was_done told old new again host ask attach attaches in
    added_law_of (start_host again ask.image host) (cut_of again ask.image host) ask was.image was.tree was.made attach was.done q out

pub undo_law : DetachUndoesAttach
undo_law told old new again host ask attach is_tree attaches =
    let was = was_done told old new again host ask attach attaches in
    undone (start_host again ask.image host) (cut_of again ask.image host) ask was.image was.tree was.made attach was.done is_tree

-- attaching anew

-- none that stays has the name of the image
pub none_stays : (n : List ℕ) (attached : List Attachment) → list_any (is_of_name n) (staying FirstPart (first_part n) attached) ≡ false
none_stays n [] = refl
none_stays n (a ∷ attached) = elim (goes FirstPart (first_part n) a) as (λ b. goes FirstPart (first_part n) a ≡ b → list_any (is_of_name n) (cond (not b) (a ∷ staying FirstPart (first_part n) attached) (staying FirstPart (first_part n) attached)) ≡ false) [
  | true ↦ λ _. none_stays n attached
  | false ↦ λ stays.
      ap (λ b. b || list_any (is_of_name n) (staying FirstPart (first_part n) attached))
      (false_from_ne_true (is_of_name n a) (λ named. true≢false (sym (tied_name (first_part a.name) (first_part n) (ap first_part (same_name a.name n named))) ∙ stays)))
      ∙ none_stays n attached
] refl

fit_again : (host : Host) (image : Image) → unfit false (without image host) image ≡ None
fit_again host image = ap (λ b. if b then Some errors.AlreadyAttached else None) (none_stays (image_name image) host.attached)

module _ (start : Host) (cut : List (List (List ℕ))) (base : Entries HeldFile) (ask : Ask) (attach : Attach) where
  locked_less : (image tree : Entries HeldFile) (made : Attaching) → LockedWants start ask image tree made cut (Ok attach) → LockedWants start ask image tree made [] (Ok attach)
  locked_less image tree made (inl (unlocked, wants)) = inl ((λ path among. unlocked path (among_right cut (tops_of made) path among)), wants)
  locked_less image tree made (inr (path, least, is)) = no_refusal attach _ is

  units_less : (body : Body) (tree : Entries HeldFile) (lines : List ℕ) → UnitsWant start cut base ask body tree lines (Ok attach) → UnitsWant start [] base ask body tree lines (Ok attach)
  units_less body tree lines (inl (units, chosen, inl (profile, is, (made, are, wants)))) = inl (units, chosen, inl (profile, is, (made, are, locked_less body.tree tree made wants)))
  units_less body tree lines (inl (units, chosen, inr (none, is))) = no_refusal attach _ is
  units_less body tree lines (inr (e, chosen, is)) = no_refusal attach _ is

  pub fit_less : (told : HeldFile → Told) (old new : ℕ) (place : List (List ℕ)) (unfit : Option PortErr) → FitWants unfit (BodyWants told old new start cut base ask place) (Ok attach) → BodyWants told old new start [] base ask place (Ok attach)
  fit_less told old new place None (inl (body, reads, wants)) = inl (body, reads, units_less body body.tree [] wants)
  fit_less told old new place None (inr (e, reads, is)) = no_refusal attach _ is
  fit_less told old new place (Some e) is = no_refusal attach _ is

pub again_law : ReattachIsAttach
again_law told old new host ask attach (base, is_base, inl (place, at, wants)) = (
  base,
  is_base,
  inl (
    place,
    at,
    subst (λ o. FitWants o (BodyWants told old new (without ask.image host) [] base ask place) (Ok attach)) (sym (fit_again host ask.image))
        (fit_less (without ask.image host) (cut_of true ask.image host) base ask attach told old new place (unfit true host ask.image) wants),
  ),
)
again_law told old new host ask attach (base, is_base, inr (none, is)) = no_refusal attach _ is
