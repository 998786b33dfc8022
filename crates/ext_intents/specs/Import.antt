-- The command `import-fs`: a tree of the depot in place of what stands at and below a path of the host. Its refusals, the
-- first that holds, in this order, which is this project's own: no tree text, or one that is too long; a faulty line; a path
-- that a merge locks; a path below something that is no directory; a path past its limits; too many entries, then too
-- many bytes, of what is seen and what lies under the view.
use Rattle.std.specs.Prelude.{◌≡◌, ℕ, ◌⊎◌, true, false, IsTrue, List, Option, Some, None}
use Rattle.std.specs.List.{AllByRecursion}
use Rattle.ext_text.specs.Path.{is_proper_prefix}
use Rattle.ext_text.specs.declared.which.Which.{Which}
use Rattle.ext_text.specs.declared.which.Which.TheVariants as limits
use Rattle.ext_depot.specs.Depot.{Files}
use Rattle.ext_depot.specs.DepotText.{IsTextIn}
use Rattle.ext_depot.specs.declared.depot_text.DepotText.{DepotText}
use Rattle.ext_depot.specs.declared.depot_text.DepotText.TheVariants.{Absent, TooLong, Whole}
use Rattle.ext_tree.specs.FirstFault.{IsFirstFault, IsOne}
use Rattle.ext_tree.specs.Graft as graft
use Rattle.ext_tree.specs.Graft.{IsGraft, IsOpen, is_non_directory_at}
use Rattle.ext_tree.specs.Tree.{Entries, lookup}
use Rattle.ext_tree.specs.TreeText.{IsTreeText}
use Rattle.ext_tree.specs.declared.stamp.Stamp.{Stamp}
use Rattle.ext_host.specs.DepotBodies as bodies
use Rattle.ext_host.specs.DepotBodies.{from_depot}
use Rattle.ext_host.specs.Held.{HeldFile}
use Rattle.ext_host.specs.Limits.{passed_limit}
use Rattle.ext_host.specs.declared.host.Host.{Host}
use Rattle.ext_host.specs.ReadOnly.{IsReadOnlyAt, is_read_only}
use Rattle.ext_cmd.specs.Resource.{tree_path}
use Rattle.ext_cmd.specs.declared.answer.Answer.TheVariants.{Done}
use Rattle.ext_cmd.specs.declared.refusal.Refusal.TheVariants.{ReadOnly, Limit, NotDirectory, BadTree, NotInDepot}
use Rattle.ext_intents.specs.Change.{changed_at}
use Rattle.ext_intents.specs.declared.intent.Intent.{Intent}
use Rattle.ext_intents.specs.declared.intent.Intent.TheVariants.{Changes, Refuses}

-- a host is wanted where it passes no limit
abbrev pub within : Host → Option Which → Intent
within next None = Changes next Done
within next (Some which) = Refuses (Limit which)

-- the coming host is wanted where what is seen and what lies under the view are within the limits
abbrev pub sized : Host → Intent
sized next = within next (passed_limit next.root next.lower)

-- a tree with its files in the depot in place of what stands at and below the path
abbrev pub PartWants : Host → List (List ℕ) → Entries HeldFile → Intent → Type 0
PartWants host path part intent =
    (graft.Fits path part × ((root : Entries HeldFile) × IsGraft host.root path part root × (intent ≡ sized (changed_at host path root))))
    ⊎ ((¬ graft.Fits path part) × (intent ≡ Refuses (Limit limits.Path)))

-- something that is no directory stands at a proper prefix of the path
pub record IsUnder (es : Entries HeldFile) (path at : List (List ℕ)) : Type 0 where
  pub proper_prefix : IsTrue (is_proper_prefix at path)
  pub stands : IsTrue (is_non_directory_at (lookup es at))

-- each path of the host and of the depot stays within the limits
pub record ImportFits (resource path : List (List ℕ)) (es : Entries Stamp) : Type 0 where
  pub host : graft.Fits path (from_depot resource es)
  pub depot : AllByRecursion (bodies.FileFits resource) es

-- the tree in place of what stands at and below the path
abbrev pub FittingImportWants : Host → List (List ℕ) → List (List ℕ) → Entries Stamp → Intent → Type 0
FittingImportWants host resource path es intent =
    (ImportFits resource path es × ((root : Entries HeldFile) × IsGraft host.root path (from_depot resource es) root
    × (intent ≡ sized (changed_at host path root))))
    ⊎ ((¬ ImportFits resource path es) × (intent ≡ Refuses (Limit limits.Path)))

-- what is wanted where nothing stands in the way of the path
abbrev pub OpenImportWants : Host → List (List ℕ) → List (List ℕ) → Entries Stamp → Intent → Type 0
OpenImportWants host resource path es intent =
    (IsOpen host.root path × FittingImportWants host resource path es intent)
    ⊎ ((at : List (List ℕ)) × IsUnder host.root path at × (intent ≡ Refuses (NotDirectory at)))

-- what is wanted of a tree that was read
abbrev pub TreeWants : Host → List (List ℕ) → List (List ℕ) → Entries Stamp → Intent → Type 0
TreeWants host resource path es intent =
    ((is_read_only host path ≡ false) × OpenImportWants host resource path es intent)
    ⊎ ((is_read_only host path ≡ true) × ((at : List (List ℕ)) × IsReadOnlyAt host path at × (intent ≡ Refuses (ReadOnly at))))

-- what is wanted of what the depot has
abbrev pub TextWants : Host → List (List ℕ) → List (List ℕ) → DepotText → Intent → Type 0
TextWants host resource path Absent intent = intent ≡ Refuses (NotInDepot (tree_path resource))
TextWants host resource path TooLong intent = intent ≡ Refuses (Limit limits.Text)
TextWants host resource path (Whole bytes) intent =
    ((es : Entries Stamp) × IsTreeText bytes es × TreeWants host resource path es intent)
    ⊎ ((line : ℕ) × IsFirstFault IsOne bytes line × (intent ≡ Refuses (BadTree line (Some (tree_path resource)))))

-- what it wants of a host, by the files that the depot has
abbrev pub ImportWants : Host → Option Files → List (List ℕ) → List (List ℕ) → Intent → Type 0
ImportWants host files resource path intent =
    (found : DepotText) × IsTextIn files (tree_path resource) found × TextWants host resource path found intent
