-- The state after a planned view: kept files stay where they are, so its host is the planned one.
use Rattle.std.proofs.Common.{◌≡◌, ◌≢◌, ◌⊎◌, ℕ, ◌+◌, ◌≤◌, ◌==◌, true, false, if◌then◌else◌, List, [], ◌∷◌, ◌++◌, length, Option, Some, None, refl, ap, ◌∙◌, subst, inl, inr, arith}
use Rattle.std.specs.Prelude.{slice_get, unwrap_or}
use Rattle.std.specs.List.{AllByRecursion}
use Rattle.std.proofs.lemmas.Bool.Decides.{eqb_tells}
use Rattle.ext_attributes.specs.Attributes.{OfFile}
use Rattle.ext_text.specs.Order.{paths_total}
use Rattle.ext_text.specs.Path.{path_cmp}
use Rattle.ext_text.proofs.ForCallers.{all_weaker}
use Rattle.ext_depot.specs.Depot.{DepotState, Files}
use Rattle.ext_tree.specs.Tree.{Entries, IsTree, lookup}
use Rattle.ext_tree.specs.declared.entry.Entry.{Entry}
use Rattle.ext_tree.specs.declared.entry.Entry.TheVariants.{Dir, Opaque, File, Link, Hide}
use Rattle.ext_tree.proofs.ForCallers.{find_there}
use Rattle.ext_host.specs.Drawn.{IsFileOf, trees_of}
use Rattle.ext_host.specs.Held.{HeldFile}
use Rattle.ext_host.specs.Shelf.{stored}
use Rattle.ext_host.specs.declared.body.Body.{Body}
use Rattle.ext_host.specs.declared.body.Body.TheVariants.{Here, Kept, Depot}
use Rattle.ext_host.specs.declared.home.Home.{Home}
use Rattle.ext_host.specs.declared.host.Host.{Host}
use Rattle.ext_host.specs.declared.host.Plan.{Plan}
use Rattle.ext_homes.specs.Placed.{ArePlaced, IsBodyPlaced, IsEntryPlaced, IsHostPlaced, Stored}
use Rattle.ext_index.specs.ValidIndex.{IsKeptUpTo}
use Rattle.ext_gen.specs.Opened.{Generation}
use Rattle.ext_gen.specs.Preparing.{contents_after}
use Rattle.ext_gen.specs.Store.{State, at}
use Rattle.ext_view.specs.Laws.{host_after}
use Rattle.ext_cmd.specs.Replies.{answer_text}
use Rattle.ext_cmd.specs.declared.answer.Answer.{Answer}
use Rattle.ext_cmd.specs.declared.refusal.Refusal.{Refusal}
use Rattle.ext_intents.specs.Step.{TellAlike}
use Rattle.ext_intents.specs.Views.{planned}
use Rattle.ext_top.specs.Machine.{depot_of, Comes, bytes_at, gives, refuses, stored_of}
use Rattle.ext_top.proofs.CheckLemmas.{by_index}
use Rattle.ext_top.proofs.ViewFilesLemmas.{FromHost, PlansViewOf, lower_file, root_file}

-- each file is kept up to a generation
abbrev pub KeptUpTo : ℕ → Host → Type 0
KeptUpTo n host = (held : HeldFile) → IsFileOf (trees_of host) held → IsKeptUpTo n held.body

-- at some home
abbrev IsKept : Body → Type 0
IsKept body = (home : Home) × (body ≡ Kept home)

kept_body : (n : ℕ) (body : Body) → IsKeptUpTo n body → IsKept body
kept_body n (Here bytes) kept = absurd kept
kept_body n (Kept home) kept = (home, refl)
kept_body n (Depot path) kept = absurd kept

abbrev KeptEntry : Entry HeldFile → Type 0
KeptEntry (Dir attributes) = Unit {0}
KeptEntry (Opaque attributes) = Unit {0}
KeptEntry (File attributes held) = IsKept held.body
KeptEntry (Link owner target) = Unit {0}
KeptEntry Hide = Unit {0}

abbrev KeptAll : Entries HeldFile → Type 0
KeptAll es = AllByRecursion (λ (x : List (List ℕ) × Entry HeldFile). KeptEntry x.1) es

kept_entry : (es : Entries HeldFile) → ((p : List (List ℕ)) (attributes : OfFile) (held : HeldFile) → lookup es p ≡ Some (File attributes held) → IsKept held.body) → (p : List (List ℕ)) (e : Entry HeldFile) → lookup es p ≡ Some e → KeptEntry e
kept_entry es kept p (Dir attributes) stands = tt
kept_entry es kept p (Opaque attributes) stands = tt
kept_entry es kept p (File attributes held) stands = kept p attributes held stands
kept_entry es kept p (Link owner target) stands = tt
kept_entry es kept p Hide stands = tt

kept_all : (es : Entries HeldFile) → IsTree es → ((p : List (List ℕ)) (attributes : OfFile) (held : HeldFile) → lookup es p ≡ Some (File attributes held) → IsKept held.body) → KeptAll es
kept_all es tree kept =
    all_weaker (λ (x : List (List ℕ) × Entry HeldFile). lookup es x.0 ≡ Some x.1) (λ (x : List (List ℕ) × Entry HeldFile). KeptEntry x.1) (λ x stands. kept_entry es kept x.0 x.1 stands) es
    (by_index (λ (x : List (List ℕ) × Entry HeldFile). lookup es x.0 ≡ Some x.1) es (λ i x here. find_there path_cmp paths_total es i x tree.sorted here))

-- kept files are placed as they are
module _ (old : Stored) (depot : DepotState) (n : ℕ) where
  entry_same : (x : Entry HeldFile) (next : ℕ) (e : Entry HeldFile) (written : List (List ℕ)) → KeptEntry x → IsEntryPlaced old depot n x next e written → (e ≡ x) × (written ≡ [])
  entry_same (Dir attributes) next e written kept is = is
  entry_same (Opaque attributes) next e written kept is = is
  entry_same (File attributes held) next e written (home, kept) (placed, is, same) =
      let of : (placed ≡ held) × (written ≡ []) = subst (λ body. IsBodyPlaced old depot n held body next placed written) kept is in
      (same ∙ ap (λ h. File attributes h) of.0, of.1)
  entry_same (Link owner target) next e written kept is = is
  entry_same Hide next e written kept is = is

  entries_same : (es : Entries HeldFile) (next : ℕ) (new : Entries HeldFile) (written : List (List ℕ)) → KeptAll es → ArePlaced old depot n es next new written → (new ≡ es) × (written ≡ [])
  entries_same [] next new written kept is = is
  entries_same (x ∷ es) next new written kept (e, fs, first, rest, one, others, new_is, written_is) =
      let here = entry_same x.1 next e first kept.0 one in
      let there = entries_same es (next + length first) fs rest kept.1 others in
      (new_is ∙ (λ i. (x.0, here.0 i) ∷ there.0 i), written_is ∙ (λ i. here.1 i ++ there.1 i))

  host_same : (host new : Host) (written : List (List ℕ)) → KeptAll host.root → KeptAll host.lower → IsHostPlaced old depot n host new written → (new ≡ host) × (written ≡ [])
  host_same host new written kept under (root, lower, (first, rest, one, two, parts), is) =
      let r = entries_same host.root 0 root first kept one in
      let l = entries_same host.lower (0 + length first) lower rest under two in
      (is ∙ (λ i. record host { root = r.0 i; lower = l.0 i }), parts ∙ (λ i. r.1 i ++ l.1 i))

-- the state after a planned view: its host is the planned one, and the bytes are as they were
pub record IsAfter (number : ℕ) (contents : Home → List ℕ) (next : Host) (text : List ℕ) (u : State) (reply : List ℕ) : Type 0 where
  pub g : Generation
  pub bytes : Home → List ℕ
  pub is : u ≡ at g bytes
  pub host : g.host ≡ next
  pub later : number ≤ g.number
  pub kept : (home : Home) → home.generation ≤ number → bytes home ≡ contents home
  pub text_is : reply ≡ text

kept_before : (number : ℕ) (contents : Home → List ℕ) (g : Generation) (n : ℕ) (written : List (List ℕ)) → n ≡ number + 1 → (home : Home) → home.generation ≤ number → contents_after n written (at g contents) home ≡ contents home
kept_before number contents g n written is home before = by_test (eqb_tells home.generation n)
  where
    by_test : ((home.generation == n ≡ true) × (home.generation ≡ n)) ⊎ ((home.generation == n ≡ false) × (home.generation ≢ n)) → contents_after n written (at g contents) home ≡ contents home
    by_test (inl same) = let late = same.1 in absurd (omega arith)
    by_test (inr other) = ap (λ b. if b then unwrap_or (slice_get written home.file) [] else contents home) other.0

gives_state : (u v : State) (a b : List ℕ) → gives u a ≡ gives v b → (u ≡ v) × (a ≡ b)
gives_state u v a b same = (cc, cc)

pub not_both : (u : State) (a : List ℕ) (refusal : Refusal) → gives u a ≡ refuses refusal → ⊥
not_both u a refusal same = cc

pub after_plan : (g : Generation) (contents : Home → List ℕ) (files : Option Files) (host : Host) (plan : Option Plan) (answer : Answer) (u : State) (reply : List ℕ) → g.host ≡ host → KeptUpTo g.number (host_after host plan) → PlansViewOf host plan
    → Comes (at g contents) files (planned plan answer) (gives u reply) → IsAfter g.number contents (host_after host plan) (answer_text answer) u reply
after_plan g contents files host None answer u reply same kept view comes =
    let of = gives_state u (at g contents) reply (answer_text answer) comes in
    record { g = g; bytes = contents; is = of.0; host = same; later = omega arith; kept = λ home before. refl; text_is = of.1 }
after_plan g contents files host (Some plan) answer u reply same kept view (inl (v, free, next, is)) =
    let of = gives_state u v reply (answer_text answer) is in
    let s = at g contents in
    let root : KeptAll plan.next.root = kept_all plan.next.root view.root (λ p attributes held found. kept_body g.number held.body (kept held (root_file plan.next p attributes held found))) in
    let lower : KeptAll plan.next.lower = kept_all plan.next.lower view.lower (λ p attributes held found. kept_body g.number held.body (kept held (lower_file plan.next p attributes held found))) in
    let placed = host_same (stored_of s) (depot_of files) next.coming.number plan.next next.coming.host next.written root lower next.homes in
    let number : next.coming.number ≡ g.number + 1 = next.number in
    record {
      g = next.coming;
      bytes = contents_after next.coming.number next.written s;
      is = of.0 ∙ next.is;
      host = placed.0;
      later = omega arith;
      kept = λ home before. kept_before g.number contents g next.coming.number next.written number home before;
      text_is = of.1;
    }
after_plan g contents files host (Some plan) answer u reply same kept view (inr (refusal, refused, is)) = absurd (not_both u reply refusal is)

pub kept_after : (n m : ℕ) (host next : Host) → n ≤ m → FromHost host next → KeptUpTo n host → KeptUpTo m next
kept_after n m host next le files kept held file = later held.body (kept held (files held file))
  where
    later : (body : Body) → IsKeptUpTo n body → IsKeptUpTo m body
    later (Here bytes) up = up
    later (Kept home) up = let last = up.last in record { first = up.first; last = omega arith; file = up.file }
    later (Depot path) up = up

-- what is told of files that are kept up to there
pub told_after : (g h : Generation) (contents bytes : Home → List ℕ) (host : Host) → KeptUpTo g.number host → ((home : Home) → home.generation ≤ g.number → bytes home ≡ contents home)
    → TellAlike host (λ held. stored (bytes_at (at h bytes) held.body)) (λ held. stored (bytes_at (at g contents) held.body))
told_after g h contents bytes host kept same held file = by_body held.body (kept held file)
  where
    by_body : (body : Body) → IsKeptUpTo g.number body → stored (bytes_at (at h bytes) body) ≡ stored (bytes_at (at g contents) body)
    by_body (Here text) up = refl
    by_body (Kept home) up = ap stored (same home up.last)
    by_body (Depot path) up = refl
