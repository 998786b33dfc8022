-- What attaching leaves of the host from which it attaches: the same whatever tree its units come from.
use Rattle.std.proofs.Common.{◌≡◌, ◌≢◌, ℕ, Bool, true, false, cond, not, ◌||◌, if◌then◌else◌, List, [], ◌∷◌, ◌++◌, map, Option, Some, None, Ok, inl, inr, refl, sym, ap, ◌∙◌, subst}
use Rattle.std.specs.List.{AllByRecursion, filter, list_any}
use Rattle.std.specs.Prelude.{Result}
use Rattle.std.specs.Ordering.{eq_by_cmp, is_gt, is_lt, ordering_reverse}
use Rattle.std.specs.declared.cmp.Ordering.TheVariants.{Less, Equal, Greater}
use Rattle.std.proofs.lemmas.Bool.{or_parts, true≢false}
use Rattle.std.proofs.lemmas.List.Folds.{list_any-append}
use Rattle.std.proofs.lemmas.Option.{none-some}
use Rattle.ext_lines.specs.ByteOrder.{bytes_cmp, bytes_total}
use Rattle.ext_text.specs.Path.{path_cmp}
use Rattle.ext_text.specs.SortedPaths.{covers, is_among}
use Rattle.ext_text.proofs.ForCallers.{names_exact, tied_name}
use Rattle.ext_tree.specs.Tree.{Entries, IsTree, lookup}
use Rattle.ext_host.specs.Held.{HeldFile}
use Rattle.ext_host.specs.Planning.{IsBaseTree}
use Rattle.ext_host.specs.ReadOnly.{is_read_only}
use Rattle.ext_host.specs.Shelf.{Told, untold}
use Rattle.ext_host.specs.Touch.{untouched_all}
use Rattle.ext_host.specs.Valid.{AreAscending, AreAttachments}
use Rattle.ext_host.specs.declared.attachment.Attachment.{Attachment}
use Rattle.ext_host.specs.declared.host.Host.{Host}
use Rattle.ext_units.specs.ImageName.{image_name}
use Rattle.ext_units.specs.declared.body.Body.{Body}
use Rattle.ext_units.specs.declared.image.Image.{Image}
use Rattle.ext_attached.specs.Detaching.{Detaches}
use Rattle.ext_attached.specs.Going.{detached, is_of_name, staying}
use Rattle.ext_attached.specs.Least.{NonePasses}
use Rattle.ext_attached.specs.declared.going.By.TheVariants.{Name}
use Rattle.ext_added.specs.Tops.{tops_of}
use Rattle.ext_added.specs.declared.ask.Ask.{Ask}
use Rattle.ext_port.specs.Laws.{added_of, with_ways}
use Rattle.ext_port.specs.NextHost.{attachment_of, with_attachment}
use Rattle.ext_port.specs.Starting.{cut_of, start_host, unfit}
use Rattle.ext_port.specs.Wants.{Attaches, AttachesBody, BodyWants, FitWants, UnitsWant}
use Rattle.ext_port.specs.declared.attaching.Attach.{Attach}
use Rattle.ext_port.specs.declared.errors.PortErr.{PortErr}
use Rattle.ext_port.specs.declared.errors.PortErr.TheVariants as errors
use Rattle.ext_port.proofs.LawsLemmas.{WasDone, added_law_of, body_done, no_refusal, none_stays, paths_coming, undone, units_done}

-- a host with what was attached, by the one from which it was
pub record LeavesRest (start : Host) (cut : List (List (List ℕ))) (ask : Ask) (next : Host) : Type 0 where
  -- nothing but what is seen, the attachments and the manifests is other than it was
  pub rest : next ≡ record start { root = next.root; attached = next.attached; kept = next.kept }
  -- the manifests that are related to no added path
  pub kept : next.kept ≡ untouched_all (added_of ask next) start.kept
  -- the attachments that there were, where none had the name
  pub others : AreAttachments start.attached → list_any (is_of_name (image_name ask.image)) start.attached ≡ false
      → staying Name (image_name ask.image) next.attached ≡ start.attached
  -- no path that was cut or added is locked
  pub unlocked : NonePasses (is_read_only start) (cut ++ added_of ask next)
  -- outside of what was added stands what stood, the ways to it aside
  pub outside : (q : List (List ℕ)) → covers (added_of ask next) q ≡ false → lookup next.root q ≡ with_ways (added_of ask next) start.root q
  -- and it can be detached
  pub undone : IsTree start.root → Detaches next (image_name ask.image) (Ok (record { next = detached Name (image_name ask.image) next }))
      × ((q : List (List ℕ)) → lookup (detached Name (image_name ask.image) next).root q ≡ with_ways (added_of ask next) start.root q)

-- one of the name goes, and each other stays
one_goes : (n : List ℕ) (a : Attachment) (attached : List Attachment) → a.name ≡ n → staying Name n (a ∷ attached) ≡ staying Name n attached
one_goes n a attached named = ap (λ b. cond (not b) (a ∷ staying Name n attached) (staying Name n attached)) (tied_name a.name n named)

other_stays : (n : List ℕ) (a : Attachment) (attached : List Attachment) → is_of_name n a ≡ false → staying Name n (a ∷ attached) ≡ a ∷ staying Name n attached
other_stays n a attached other = ap (λ b. cond (not b) (a ∷ staying Name n attached) (staying Name n attached)) other

all_stay : (n : List ℕ) (attached : List Attachment) → list_any (is_of_name n) attached ≡ false → staying Name n attached ≡ attached
all_stay n [] none = refl
all_stay n (a ∷ attached) none =
    let parts = or_parts (is_of_name n a) (list_any (is_of_name n) attached) none in
    other_stays n a attached parts.0 ∙ ap (λ l. a ∷ l) (all_stay n attached parts.1)

-- of attachments whose names come after one, none comes before it
module _ (n : List ℕ) where
  abbrev AllAfter : List Attachment → Type 0
  AllAfter attached = AllByRecursion (λ x. bytes_cmp n x ≡ Less) (map (λ (a : Attachment). a.name) attached)

  abbrev lesser : List Attachment → List Attachment
  lesser attached = filter (λ (other : Attachment). is_lt (bytes_cmp other.name n)) attached

  abbrev greater : List Attachment → List Attachment
  greater attached = filter (λ (other : Attachment). is_gt (bytes_cmp other.name n)) attached

  is_after : (m : List ℕ) → bytes_cmp n m ≡ Less → bytes_cmp m n ≡ Greater
  is_after m less = bytes_total.antisymm m n ∙ ap ordering_reverse less

  none_lesser : (attached : List Attachment) → AllAfter attached → lesser attached ≡ []
  none_lesser [] after = refl
  none_lesser (a ∷ attached) after = ap (λ o. cond (is_lt o) (a ∷ lesser attached) (lesser attached)) (is_after a.name after.0) ∙ none_lesser attached after.1

  all_greater : (attached : List Attachment) → AllAfter attached → greater attached ≡ attached
  all_greater [] after = refl
  all_greater (a ∷ attached) after = ap (λ o. cond (is_gt o) (a ∷ greater attached) (greater attached)) (is_after a.name after.0) ∙ ap (λ l. a ∷ l) (all_greater attached after.1)

  -- those after a name that comes after another one come after that
  through : (m : List ℕ) (names : List (List ℕ)) → bytes_cmp n m ≡ Less → AllByRecursion (λ x. bytes_cmp m x ≡ Less) names → AllByRecursion (λ x. bytes_cmp n x ≡ Less) names
  through m [] less all = tt
  through m (x ∷ names) less all = (bytes_total.trans n m x less all.0, through m names less all.1)

-- without the one that was added there are those that there were
back_again : (a : Attachment) (attached : List Attachment) → AreAscending bytes_cmp (map (λ (a : Attachment). a.name) attached) → list_any (is_of_name a.name) attached ≡ false
    → staying Name a.name (with_attachment a attached) ≡ attached
back_again a [] order none = one_goes a.name a [] refl
back_again a (x ∷ attached) order none =
    let n = a.name in
    let parts = or_parts (is_of_name n x) (list_any (is_of_name n) attached) none in
    elim (bytes_cmp x.name n) as (λ o. bytes_cmp x.name n ≡ o
    → staying Name n (cond (is_lt o) (x ∷ lesser n attached) (lesser n attached) ++ a ∷ cond (is_gt o) (x ∷ greater n attached) (greater n attached)) ≡ x ∷ attached) [
      | Less ↦ λ _. other_stays n x (lesser n attached ++ a ∷ greater n attached) parts.0 ∙ ap (λ l. x ∷ l) (back_again a attached order.1 parts.1)
      | Equal ↦ λ tied. absurd (true≢false (sym (tied_name x.name n (names_exact x.name n tied)) ∙ parts.0))
      | Greater ↦ λ greater_is.
          let after : AllAfter n attached = through n x.name (map (λ (a : Attachment). a.name) attached) (bytes_total.antisymm n x.name ∙ ap ordering_reverse greater_is) order.0 in
          (λ i. staying Name n (none_lesser n attached after i ++ a ∷ x ∷ all_greater n attached after i))
          ∙ one_goes n a (x ∷ attached) refl
          ∙ all_stay n (x ∷ attached) none
    ] refl

module _ (start : Host) (cut : List (List (List ℕ))) (ask : Ask) (attach : Attach) where
  -- what was attached leaves the rest
  pub done_leaves : WasDone start cut ask attach → LeavesRest start cut ask attach.plan.next
  done_leaves was =
      let done = was.done in
      let attachment = attachment_of ask was.made.place done.added in
      let added : added_of ask attach.plan.next ≡ done.added = ap (added_of ask) done.next ∙ paths_coming start cut ask was.image was.tree was.made attach done in
      record {
        rest = done.next ∙ sym (λ i. record start { root = (done.next i).root; attached = (done.next i).attached; kept = (done.next i).kept });
        kept = ap (λ (h : Host). h.kept) done.next ∙ ap (λ ps. untouched_all ps start.kept) (sym added);
        others = λ are none. ap (λ (h : Host). staying Name (image_name ask.image) h.attached) done.next ∙ back_again attachment start.attached are.order none;
        unlocked = subst (λ ps. NonePasses (is_read_only start) (cut ++ ps)) (sym added) (added_unlocked was);
        outside = λ q out. added_law_of start cut ask was.image was.tree was.made attach done q out;
        undone = λ is_tree. undone start cut ask was.image was.tree was.made attach done is_tree;
      }
    where
      added_unlocked : (was : WasDone start cut ask attach) → NonePasses (is_read_only start) (cut ++ was.done.added)
      added_unlocked was path among =
          was.done.unlocked path
          (list_any-append (λ p. eq_by_cmp path_cmp path p) cut (tops_of was.made)
          ∙ ap (λ b. is_among cut path || b) (sym (was.done.are_added.same (λ p. eq_by_cmp path_cmp path p)))
          ∙ sym (list_any-append (λ p. eq_by_cmp path_cmp path p) cut was.done.added)
          ∙ among)

-- an image is attached only where no attachment has its name
fit_none : (again : Bool) (host : Host) (image : Image) → unfit again host image ≡ None → list_any (is_of_name (image_name image)) (start_host again image host).attached ≡ false
fit_none false host image fit = elim (list_any (is_of_name (image_name image)) host.attached) as (λ b. (if b then Some errors.AlreadyAttached else None) ≡ None → b ≡ false) [
  | true ↦ λ same. absurd (none-some errors.AlreadyAttached (sym same))
  | false ↦ λ _. refl
] fit
fit_none true host image fit = none_stays (image_name image) host.attached

-- a host with what was attached, or attached anew
pub record LeavesOthers (again : Bool) (host : Host) (ask : Ask) (next : Host) : Type 0 where
  pub fresh : list_any (is_of_name (image_name ask.image)) (start_host again ask.image host).attached ≡ false
  pub leaves : LeavesRest (start_host again ask.image host) (cut_of again ask.image host) ask next

module _ (again : Bool) (host : Host) (ask : Ask) (attach : Attach) where
  abbrev start : Host
  start = start_host again ask.image host

  abbrev cut_paths_here : List (List (List ℕ))
  cut_paths_here = cut_of again ask.image host

  fit_leaves : (Wants : Result Attach PortErr → Type 0) → (Wants (Ok attach) → WasDone start cut_paths_here ask attach) → (o : Option PortErr) → unfit again host ask.image ≡ o → FitWants o Wants (Ok attach) → LeavesOthers again host ask attach.plan.next
  fit_leaves Wants was None fit wants = record { fresh = fit_none again host ask.image fit; leaves = done_leaves start cut_paths_here ask attach (was wants) }
  fit_leaves Wants was (Some e) fit is = no_refusal attach e is

  -- of an image that was read, with units from a tree and further lines
  pub body_leaves : (body : Body) (tree : Entries HeldFile) (lines : List ℕ) → AttachesBody again host ask body tree lines (Ok attach) → LeavesOthers again host ask attach.plan.next
  body_leaves body tree lines attaches =
      fit_leaves (λ r. (base : Entries HeldFile) × IsBaseTree start base × UnitsWant start cut_paths_here base ask body tree lines r)
      (λ (base, is, wants). units_done (λ _. untold) 0 0 start cut_paths_here base ask attach body tree lines wants) (unfit again host ask.image) refl attaches

  -- of an image
  pub attaches_leaves : (told : HeldFile → Told) (old new : ℕ) → Attaches told old new again host ask (Ok attach) → LeavesOthers again host ask attach.plan.next
  attaches_leaves told old new (base, is_base, inl (place, at, wants)) =
      fit_leaves (BodyWants told old new start cut_paths_here base ask place) (λ w. body_done told old new start cut_paths_here base ask attach place w) (unfit again host ask.image) refl wants
  attaches_leaves told old new (base, is_base, inr (none, is)) = no_refusal attach _ is
