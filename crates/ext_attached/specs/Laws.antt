-- The laws of what is attached.
use Rattle.std.specs.Prelude.{◌≡◌, ◌≢◌, ℕ, Bool, List, Option, Result, Err}
use Rattle.ext_host.specs.Planning.{IsPlannedHost}
use Rattle.ext_host.specs.Valid.{IsValidHost}
use Rattle.ext_host.specs.declared.host.Host.{Host}
use Rattle.ext_host.specs.declared.host.Plan.{Plan}
use Rattle.ext_units.specs.declared.image.Image.{Image}
use Rattle.ext_attached.specs.Detaching.{Detaches}
use Rattle.ext_attached.specs.Going.{detached, without}
use Rattle.ext_attached.specs.Least.{FindsLeast}
use Rattle.ext_attached.specs.State.{state_of}
use Rattle.ext_attached.specs.declared.errors.DetachErr.{DetachErr}
use Rattle.ext_attached.specs.declared.errors.DetachErr.TheVariants as errors
use Rattle.ext_attached.specs.declared.going.By.{By}
use Rattle.ext_attached.specs.declared.going.By.TheVariants.{Name}
use Rattle.ext_attached.specs.declared.state.State.TheVariants.{Detached}

-- a valid host without some of its attachments is valid, and its files are those of the host
abbrev pub DetachedIsPlanned : Type 0
DetachedIsPlanned = (by : By) (text : List ℕ) (host : Host) → IsValidHost host → IsPlannedHost host (detached by text host)

-- of some paths one is the least that passes a test, or none passes
abbrev pub OneLeast : Type 0
OneLeast = (test : List (List ℕ) → Bool) (paths : List (List (List ℕ))) (a b : Option (List (List ℕ))) → FindsLeast test paths a → FindsLeast test paths b → a ≡ b

-- without the attachment of a name its image is detached, and each other image is in the state in which it was
abbrev pub OthersStayAttached : Type 0
OthersStayAttached = (host : Host) (name : List ℕ)
    → (state_of (detached Name name host).attached name ≡ Detached)
    × ((other : List ℕ) → other ≢ name → state_of (detached Name name host).attached other ≡ state_of host.attached other)

-- without those of an image there is none left to be taken away
abbrev pub WithoutAgain : Type 0
WithoutAgain = (image : Image) (host : Host) → without image (without image host) ≡ without image host

-- what comes of detaching is no want of memory
abbrev pub IsOfDetach : Result Plan DetachErr → Type 0
IsOfDetach (Err errors.OutOfMemory) = ⊥
IsOfDetach _ = Unit {0}

-- one thing comes of detaching an image
abbrev pub OneDetach : Type 0
OneDetach =
    (host : Host) (name : List ℕ) (a b : Result Plan DetachErr)
    → IsOfDetach a
    → IsOfDetach b
    → Detaches host name a
    → Detaches host name b
    → a ≡ b
