-- A command `import-fs` wants one thing.
use Rattle.std.proofs.Common.{◌≡◌, ℕ, zero, suc, ◌<◌, true, false, not, List, [], ◌∷◌, length, Option, Some, None, is_some, refl, sym, ap, ◌∙◌, subst, arith, inl, inr}
use Rattle.std.specs.Prelude.{◌⊎◌, Contains}
use Rattle.std.specs.List.{AllByRecursion}
use Rattle.std.specs.Ordering.{eq_by_cmp, is_gt, is_lt, ordering_reverse}
use Rattle.std.specs.declared.cmp.Ordering.{Ordering}
use Rattle.std.specs.declared.cmp.Ordering.TheVariants.{Less, Equal, Greater}
use Rattle.std.proofs.lemmas.Bool.{and_from, and_parts, false≢true, true≢false}
use Rattle.ext_lines.specs.ByteOrder.{bytes_cmp, bytes_total}
use Rattle.ext_text.specs.Path.{is_prefix}
use Rattle.ext_text.proofs.ForCallers.{prefix_both, prefix_shorter, prefix_self, same_name, tied_name}
use Rattle.ext_tree.specs.FirstFault.{IsOne}
use Rattle.ext_tree.specs.Graft.{is_non_directory_at}
use Rattle.ext_tree.specs.Laws.{NoFaultInText, OneFirstFault, OneTreeOfText}
use Rattle.ext_tree.specs.Tree.{Entries, IsTree, is_directory_at, lookup}
use Rattle.ext_tree.specs.declared.entry.Entry.{Entry}
use Rattle.ext_tree.specs.declared.stamp.Stamp.{Stamp}
use Rattle.ext_tree.proofs.ForCallers.{prefixes}
use Rattle.ext_depot.specs.Depot.{Files}
use Rattle.ext_depot.specs.declared.depot_text.DepotText.{DepotText}
use Rattle.ext_depot.specs.declared.depot_text.DepotText.TheVariants.{Absent, TooLong, Whole}
use Rattle.ext_host.specs.Held.{HeldFile}
use Rattle.ext_host.specs.ReadOnly.{IsLeast, IsReadOnlyAt, merged_in}
use Rattle.ext_host.specs.declared.host.Host.{Host}
use Rattle.ext_view.proofs.ForCallers.{one_tree}
use Rattle.ext_cmd.specs.Resource.{tree_path}
use Rattle.ext_cmd.specs.declared.refusal.Refusal.TheVariants as refusals
use Rattle.ext_intents.specs.Change.{changed_at}
use Rattle.ext_intents.specs.Import.{FittingImportWants, ImportWants, IsUnder, OpenImportWants, TextWants, TreeWants, sized}
use Rattle.ext_intents.specs.declared.intent.Intent.{Intent}
use Rattle.ext_intents.specs.declared.intent.Intent.TheVariants.{Refuses}
use Rattle.ext_intents.proofs.OneInitLemmas.{tied}

-- of two prefixes of a path one is a prefix of the other
two_prefixes : (a b path : List (List ℕ)) → is_prefix a path ≡ true → is_prefix b path ≡ true → (is_prefix a b ≡ true) ⊎ (is_prefix b a ≡ true)
two_prefixes [] b path x y = inl refl
two_prefixes (n ∷ a) [] path x y = inr refl
two_prefixes (n ∷ a) (m ∷ b) [] x y = absurd (false≢true x)
two_prefixes (n ∷ a) (m ∷ b) (k ∷ path) x y =
    let p = and_parts (eq_by_cmp bytes_cmp n k) (is_prefix a path) x in
    let q = and_parts (eq_by_cmp bytes_cmp m k) (is_prefix b path) y in
    let one : n ≡ m = same_name n k p.0 ∙ sym (same_name m k q.0) in
    elim (two_prefixes a b path p.1 q.1) [
      | inl there ↦ inl (and_from (eq_by_cmp bytes_cmp n m) (is_prefix a b) (tied_name n m one) there)
      | inr back ↦ inr (and_from (eq_by_cmp bytes_cmp m n) (is_prefix b a) (tied_name m n (sym one)) back)
    ]

-- what is no directory is not one
no_directory : (o : Option (Entry HeldFile)) → is_non_directory_at o ≡ true → is_directory_at o ≡ true → ⊥
no_directory None non is = false≢true non
no_directory (Some e) non is = false≢true (sym (ap not is) ∙ non)

-- nothing stands below what is no directory
none_below : (es : Entries HeldFile) (at other : List (List ℕ)) → IsTree es → is_non_directory_at (lookup es at) ≡ true → is_non_directory_at (lookup es other) ≡ true → is_prefix at other ≡ true → length at < length other → ⊥
none_below es [] other tree stands below prefix short = false≢true (sym (ap is_non_directory_at tree.root) ∙ stands)
none_below es (n ∷ at) other tree stands below prefix short = no_directory (lookup es (n ∷ at)) stands (prefixes es tree (n ∷ at) other (some_there (lookup es other) below) prefix short)
  where
    some_there : (o : Option (Entry HeldFile)) → is_non_directory_at o ≡ true → is_some o ≡ true
    some_there None below = absurd (false≢true below)
    some_there (Some e) below = refl

by_shorter : (es : Entries HeldFile) (at other : List (List ℕ)) → IsTree es → is_non_directory_at (lookup es at) ≡ true → is_non_directory_at (lookup es other) ≡ true → is_prefix at other ≡ true → at ≡ other
by_shorter es at other tree stands also prefix =
    elim (is_prefix other at) as (λ b. is_prefix other at ≡ b → at ≡ other) [
      | true ↦ λ back. prefix_both at other prefix back
      | false ↦ λ apart. absurd (none_below es at other tree stands also prefix (prefix_shorter at other prefix (λ same. false≢true (sym apart ∙ ap (λ p. is_prefix p at) (sym same) ∙ prefix_self at))))
    ] refl

under_once : (es : Entries HeldFile) (path at other : List (List ℕ)) → IsTree es → IsUnder es path at → IsUnder es path other → at ≡ other
under_once es path at other tree x y =
    let p = and_parts (is_prefix at path) (not (is_prefix path at)) x.proper_prefix in
    let q = and_parts (is_prefix other path) (not (is_prefix path other)) y.proper_prefix in
    elim (two_prefixes at other path p.0 q.0) [
      | inl there ↦ by_shorter es at other tree x.stands y.stands there
      | inr back ↦ sym (by_shorter es other at tree y.stands x.stands back)
    ]

-- the least of some names is one
at_contained : {X : Type 0} (P : X → Type 0) (xs : List X) (x : X) → AllByRecursion P xs → Contains xs x → P x
at_contained P [] x all (k, lt, is) = absurd (omega arith)
at_contained P (y ∷ xs) x all (zero, lt, is) = subst P is all.0
at_contained P (y ∷ xs) x all (suc k, lt, is) = at_contained P xs x all.1 (k, omega arith, is)

flip : (o p : Ordering) → p ≡ ordering_reverse o → is_gt o ≡ false → is_lt p ≡ false
flip Less p back high = ap is_lt back
flip Equal p back high = ap is_lt back
flip Greater p back high = absurd (true≢false high)

least_once : (names : List (List ℕ)) (a b : List ℕ) → IsLeast bytes_cmp names a → IsLeast bytes_cmp names b → a ≡ b
least_once names a b x y =
    let first : is_gt (bytes_cmp a b) ≡ false = at_contained (λ other. is_gt (bytes_cmp a other) ≡ false) names b x.least y.among in
    let second : is_gt (bytes_cmp b a) ≡ false = at_contained (λ other. is_gt (bytes_cmp b other) ≡ false) names a y.least x.among in
    tied a b (flip (bytes_cmp b a) (bytes_cmp a b) (bytes_total.antisymm a b) second) (flip (bytes_cmp a b) (bytes_cmp b a) (bytes_total.antisymm b a) first)

read_only_once : (host : Host) (path at other : List (List ℕ)) → IsReadOnlyAt host path at → IsReadOnlyAt host path other → at ≡ other
read_only_once host [] at other (name, least, is) (next, also, same) = is ∙ ap (λ name. name ∷ []) (least_once (merged_in host) name next least also) ∙ sym same
read_only_once host (first ∷ path) at other x y = x ∙ sym y

-- the laws of tree texts that it rests on
pub record TextLaws : Type 0 where
  pub one_text : OneTreeOfText
  pub no_fault : NoFaultInText
  pub one_first : OneFirstFault IsOne

module _ (laws : TextLaws) (host : Host) (root_tree : IsTree host.root) where
  fitting_once : (resource path : List (List ℕ)) (es : Entries Stamp) (a b : Intent) → FittingImportWants host resource path es a → FittingImportWants host resource path es b → a ≡ b
  fitting_once resource path es a b (inl (fits, (x, graft, is))) (inl (also, (y, other, same))) =
      let one : x ≡ y = one_tree x y graft.tree other.tree (λ q. graft.each q ∙ sym (other.each q)) in
      is ∙ ap (λ root. sized (changed_at host path root)) one ∙ sym same
  fitting_once resource path es a b (inl x) (inr y) = absurd (y.0 x.0)
  fitting_once resource path es a b (inr x) (inl y) = absurd (x.0 y.0)
  fitting_once resource path es a b (inr x) (inr y) = x.1 ∙ sym y.1

  open_once : (resource path : List (List ℕ)) (es : Entries Stamp) (a b : Intent) → OpenImportWants host resource path es a → OpenImportWants host resource path es b → a ≡ b
  open_once resource path es a b (inl x) (inl y) = fitting_once resource path es a b x.1 y.1
  open_once resource path es a b (inl x) (inr (at, under, is)) = absurd (false≢true (sym (x.0 at under.proper_prefix) ∙ under.stands))
  open_once resource path es a b (inr (at, under, is)) (inl y) = absurd (false≢true (sym (y.0 at under.proper_prefix) ∙ under.stands))
  open_once resource path es a b (inr (at, under, is)) (inr (other, also, same)) =
      is ∙ ap (λ at. Refuses (refusals.NotDirectory at)) (under_once host.root path at other root_tree under also) ∙ sym same

  tree_once : (resource path : List (List ℕ)) (es : Entries Stamp) (a b : Intent) → TreeWants host resource path es a → TreeWants host resource path es b → a ≡ b
  tree_once resource path es a b (inl x) (inl y) = open_once resource path es a b x.1 y.1
  tree_once resource path es a b (inl x) (inr y) = absurd (true≢false (sym y.0 ∙ x.0))
  tree_once resource path es a b (inr x) (inl y) = absurd (true≢false (sym x.0 ∙ y.0))
  tree_once resource path es a b (inr (locked, (at, least, is))) (inr (also, (other, lowest, same))) =
      is ∙ ap (λ at. Refuses (refusals.ReadOnly at)) (read_only_once host path at other least lowest) ∙ sym same

  text_once : (resource path : List (List ℕ)) (found : DepotText) (a b : Intent) → TextWants host resource path found a → TextWants host resource path found b → a ≡ b
  text_once resource path Absent a b x y = x ∙ sym y
  text_once resource path TooLong a b x y = x ∙ sym y
  text_once resource path (Whole bytes) a b (inl (x, is, wants)) (inl (y, also, other)) =
      tree_once resource path y a b (subst (λ es. TreeWants host resource path es a) (laws.one_text bytes x y is also) wants) other
  text_once resource path (Whole bytes) a b (inl (x, is, wants)) (inr (line, fault, other)) = absurd (laws.no_fault bytes x line is fault)
  text_once resource path (Whole bytes) a b (inr (line, fault, wants)) (inl (y, also, other)) = absurd (laws.no_fault bytes y line also fault)
  text_once resource path (Whole bytes) a b (inr (line, fault, is)) (inr (other, also, same)) =
      is ∙ ap (λ line. Refuses (refusals.BadTree line (Some (tree_path resource)))) (laws.one_first bytes line other fault also) ∙ sym same

  pub import_once : (files : Files) (resource path : List (List ℕ)) (a b : Intent) → ImportWants host (Some files) resource path a → ImportWants host (Some files) resource path b → a ≡ b
  import_once files resource path a b (x, is, wants) (y, also, other) =
      text_once resource path y a b (subst (λ found. TextWants host resource path found a) (is ∙ sym also) wants) other
