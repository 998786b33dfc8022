-- What the code knows on the way to a plan.
use Rattle.std.specs.Prelude.{◌≡◌, ◌⊎◌, ℕ, List, [], Option, Some, None, Result, Ok, Err}
use Rattle.std.specs.List.{AllByRecursion}
use Rattle.ext_text.specs.declared.which.Which.{Which}
use Rattle.ext_text.specs.declared.which.Which.TheVariants as limits
use Rattle.ext_tree.specs.Tree.{Entries}
use Rattle.ext_host.specs.Held.{HeldFile}
use Rattle.ext_host.specs.declared.host.Host.{Host}
use Rattle.ext_units.specs.Units.{names_of}
use Rattle.ext_updated.specs.Updated.{IsPieceTooLong, IsUpdated, PieceFits}
use Rattle.ext_updated.specs.declared.piece.Piece.{Piece}
use Rattle.ext_added.specs.declared.ask.Ask.{Ask}
use Rattle.ext_added.specs.declared.attaching.Attaching.{Attaching}
use Rattle.ext_port.specs.Limits.{first_limit, new_bytes}
use Rattle.ext_port.specs.NextHost.{attached_host, attachment_of}
use Rattle.ext_port.specs.declared.attaching.Attach.{Attach}
use Rattle.ext_port.specs.declared.errors.PortErr.{PortErr}
use Rattle.ext_port.specs.declared.errors.PortErr.TheVariants as errors

module _ (start : Host) (ask : Ask) (made : Attaching) where
  -- what is attached with a tree that is to be seen, by the limit that it passes with what lies under the view
  abbrev pub RootWants : List (List (List ℕ)) → Entries HeldFile → Option Which → Result Attach PortErr → Type 0
  RootWants added root None result =
      result ≡ Ok (record { plan = record { next = attached_host start added root (attachment_of ask made.place added) }; units = names_of made.units })
  RootWants added root (Some which) result = result ≡ Err (errors.Limit which)

  -- what is attached of pieces that may be put
  abbrev pub PutWants : List (Piece HeldFile) → List (List (List ℕ)) → Result Attach PortErr → Type 0
  PutWants pieces added result =
      (AllByRecursion PieceFits pieces × ((root : Entries HeldFile) × IsUpdated start.root [] pieces root
      × RootWants added root (first_limit (new_bytes made) root start.lower) result))
      ⊎ (IsPieceTooLong pieces × (result ≡ Err (errors.Limit limits.Path)))
