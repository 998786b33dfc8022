-- What attaching an image gives. Its refusals, the first that holds, in this order, which is this project's own: there is no such
-- image; it may not be attached, or attached anew; it has no release file, or a faulty one; a prefix is not allowed; there is no unit;
-- there is no profile; a path that is cut or added is locked by a merge; something stands at a path that is added; something that is no
-- directory stands above; a limit is passed. Of several paths the least is told. A lack of memory may come in place of each of them.
use Rattle.std.specs.Prelude.{◌≡◌, ◌⊎◌, ℕ, Bool, List, [], ◌++◌, is_some, Option, Some, None, Result, Ok, Err}
use Rattle.std.specs.List.{AllByRecursion, list_any}
use Rattle.std.specs.List.Sorted.{IsStrictlySortedBy}
use Rattle.ext_text.specs.Path.{path_cmp}
use Rattle.ext_text.specs.declared.which.Which.{Which}
use Rattle.ext_text.specs.declared.which.Which.TheVariants as limits
use Rattle.ext_tree.specs.Graft.{is_non_directory_at}
use Rattle.ext_tree.specs.Tree.{Entries, lookup}
use Rattle.ext_host.specs.Held.{HeldFile}
use Rattle.ext_host.specs.Planning.{IsBaseTree}
use Rattle.ext_host.specs.ReadOnly.{is_read_only}
use Rattle.ext_host.specs.Shelf.{Told}
use Rattle.ext_host.specs.declared.host.Host.{Host}
use Rattle.ext_units.specs.Body.{ReadsBody}
use Rattle.ext_units.specs.Choosing.{ChoosesUnits}
use Rattle.ext_units.specs.Image.{IsImageAt}
use Rattle.ext_units.specs.Units.{names_of}
use Rattle.ext_units.specs.declared.body.Body.{Body}
use Rattle.ext_units.specs.declared.errors.BodyErr.{BodyErr}
use Rattle.ext_units.specs.declared.errors.UnitsErr.{UnitsErr}
use Rattle.ext_units.specs.declared.unit_file.UnitFile.{UnitFile}
use Rattle.ext_updated.specs.Updated.{IsUpdated, PieceFits}
use Rattle.ext_attached.specs.Least.{IsLeastPassing, NonePasses}
use Rattle.ext_added.specs.Added.{pieces_of}
use Rattle.ext_added.specs.Attaching.{IsAttaching}
use Rattle.ext_added.specs.Profile.{IsProfile, NoProfile}
use Rattle.ext_added.specs.Tops.{FitsAttaching, tops_of, ways_of}
use Rattle.ext_added.specs.declared.ask.Ask.{Ask}
use Rattle.ext_added.specs.declared.attaching.Attaching.{Attaching}
use Rattle.ext_added.specs.declared.profile.Profile.{Profile}
use Rattle.ext_port.specs.Errors.{port_err_of_body, port_err_of_units}
use Rattle.ext_port.specs.Limits.{first_limit, new_bytes}
use Rattle.ext_port.specs.NextHost.{attached_host, attachment_of}
use Rattle.ext_port.specs.Starting.{cut_of, start_host, unfit}
use Rattle.ext_port.specs.declared.attaching.Attach.{Attach}
use Rattle.ext_port.specs.declared.errors.PortErr.{PortErr}
use Rattle.ext_port.specs.declared.errors.PortErr.TheVariants as errors

-- what is wanted, or a lack of memory in its place
abbrev pub BarMemory : (Result Attach PortErr → Type 0) → Result Attach PortErr → Type 0
BarMemory Wants (Ok attach) = Wants (Ok attach)
BarMemory Wants (Err errors.OutOfMemory) = Unit {0}
BarMemory Wants (Err e) = Wants (Err e)

-- what is wanted where none of the paths passes the test, and else the refusal of the least
abbrev pub UnlessPassing : (List (List ℕ) → Bool) → List (List (List ℕ)) → (List (List ℕ) → PortErr) → (Result Attach PortErr → Type 0) → Result Attach PortErr → Type 0
UnlessPassing test paths refused Wants result =
    (NonePasses test paths × Wants result) ⊎ ((path : List (List ℕ)) × IsLeastPassing test paths path × (result ≡ Err (refused path)))

-- the paths at which something was put, in path order
pub record AreAdded (tops added : List (List (List ℕ))) : Type 0 where
  pub order : IsStrictlySortedBy path_cmp added
  pub same : (test : List (List ℕ) → Bool) → list_any test added ≡ list_any test tops

-- all that is made and put stays within the limits of names and paths
pub record FitsAll (made : Attaching) (image tree : Entries HeldFile) : Type 0 where
  pub made_fits : FitsAttaching made
  pub below : AllByRecursion PieceFits (pieces_of made image tree)

module _ (start : Host) (ask : Ask) (image tree : Entries HeldFile) (made : Attaching) where
  -- the host with this tree and the attachment, where no limit is passed
  abbrev pub SizedWants : Entries HeldFile → Option Which → Result Attach PortErr → Type 0
  SizedWants root None result =
      (added : List (List (List ℕ))) × AreAdded (tops_of made) added
      × (result ≡ Ok (record { plan = record { next = attached_host start added root (attachment_of ask made.place added) }; units = names_of made.units }))
  SizedWants root (Some which) result = result ≡ Err (errors.Limit which)

  -- where nothing stands in the way
  abbrev pub FittingWants : Result Attach PortErr → Type 0
  FittingWants result =
      (FitsAll made image tree × ((root : Entries HeldFile) × IsUpdated start.root [] (pieces_of made image tree) root
      × SizedWants root (first_limit (new_bytes made) root start.lower) result))
      ⊎ ((¬ FitsAll made image tree) × (result ≡ Err (errors.Limit limits.Path)))

  -- where nothing stands at a path that is added
  abbrev pub BlockingWants : Result Attach PortErr → Type 0
  BlockingWants result =
      UnlessPassing (λ path. is_non_directory_at (lookup start.root path)) (ways_of made) (λ path. errors.NotDirectory path) FittingWants result

  -- where no path is locked
  abbrev pub StandingWants : Result Attach PortErr → Type 0
  StandingWants result =
      UnlessPassing (λ path. is_some (lookup start.root path)) (tops_of made) (λ path. errors.UnitExists path) BlockingWants result

  -- of what is made
  abbrev pub LockedWants : List (List (List ℕ)) → Result Attach PortErr → Type 0
  LockedWants cut result = UnlessPassing (is_read_only start) (cut ++ tops_of made) (λ path. errors.ReadOnly path) StandingWants result

module _ (start : Host) (cut : List (List (List ℕ))) (base : Entries HeldFile) (ask : Ask) (body : Body) (tree : Entries HeldFile) (lines : List ℕ) where
  -- of an image with these units
  abbrev pub ProfileWants : List UnitFile → Result Attach PortErr → Type 0
  ProfileWants units result =
      ((profile : Profile) × IsProfile base ask.profile profile × ((made : Attaching) × IsAttaching base ask body units profile lines made
      × LockedWants start ask body.tree tree made cut result))
      ⊎ (NoProfile base ask.profile × (result ≡ Err errors.NoProfile))

  -- of an image
  abbrev pub UnitsWant : Result Attach PortErr → Type 0
  UnitsWant result =
      ((units : List UnitFile) × ChoosesUnits body tree ask.prefixes (Ok units) × ProfileWants units result)
      ⊎ ((e : UnitsErr) × ChoosesUnits body tree ask.prefixes (Err e) × (result ≡ Err (port_err_of_units e)))

module _ (told : HeldFile → Told) (old new : ℕ) (start : Host) (cut : List (List (List ℕ))) (base : Entries HeldFile) (ask : Ask) where
  -- of an image at the place, whose release file is read
  abbrev pub BodyWants : List (List ℕ) → Result Attach PortErr → Type 0
  BodyWants place result =
      ((body : Body) × ReadsBody told old new base place (Ok body) × UnitsWant start cut base ask body body.tree [] result)
      ⊎ ((e : BodyErr) × ReadsBody told old new base place (Err e) × (result ≡ Err (port_err_of_body e)))

-- what is wanted where an image may be attached, and else the refusal
abbrev pub FitWants : Option PortErr → (Result Attach PortErr → Type 0) → Result Attach PortErr → Type 0
FitWants None Wants result = Wants result
FitWants (Some refusal) Wants result = result ≡ Err refusal

-- what attaching an image, or attaching it anew, gives of a host. The numbers count the faults of the shelf before and after
abbrev pub Attaches : (HeldFile → Told) → ℕ → ℕ → Bool → Host → Ask → Result Attach PortErr → Type 0
Attaches told old new again host ask result =
    (base : Entries HeldFile) × IsBaseTree (start_host again ask.image host) base
    × (((place : List (List ℕ)) × IsImageAt base host.arch ask.image place
    × FitWants (unfit again host ask.image) (BodyWants told old new (start_host again ask.image host) (cut_of again ask.image host) base ask place) result)
    ⊎ (((place : List (List ℕ)) → ¬ IsImageAt base host.arch ask.image place) × (result ≡ Err errors.NoSuchImage)))

-- the same of an image that was read, with units from a tree and further lines
abbrev pub AttachesBody : Bool → Host → Ask → Body → Entries HeldFile → List ℕ → Result Attach PortErr → Type 0
AttachesBody again host ask body tree lines result =
    FitWants (unfit again host ask.image)
    (λ r. (base : Entries HeldFile) × IsBaseTree (start_host again ask.image host) base
    × UnitsWant (start_host again ask.image host) (cut_of again ask.image host) base ask body tree lines r)
    result
