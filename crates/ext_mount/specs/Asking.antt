-- What a store has of which an image is asked, and why there is none: the first of the conditions below that holds, in the order in
-- which they stand.
--
--     no-store   there is no store
--     no-mark    the host has no such mark
--     link       a link's target has more bytes than Linux reads
use Rattle.std.specs.Prelude.{◌≡◌, ℕ, List, Option, Some, None}
use Rattle.ext_tree.specs.Tree.{Entries}
use Rattle.ext_host.specs.Held.{HeldFile}
use Rattle.ext_host.specs.declared.host.Host.{Host}
use Rattle.ext_host.specs.declared.past.Past.{Past}
use Rattle.ext_history.specs.Marks.{HasNoMark, IsMark}
use Rattle.ext_gen.specs.Opened.{Generation}
use Rattle.ext_erofs.specs.HomePath.{homed_of}
use Rattle.ext_erofs.specs.Homed.{homed_entries}
use Rattle.ext_erofs.specs.Image.{image}
use Rattle.ext_erofs.specs.Links.{first_long_link}
use Rattle.ext_mount.specs.Asked.{time_of}
use Rattle.ext_mount.specs.declared.asked.ImageAsk.{ImageAsk}
use Rattle.ext_mount.specs.declared.refusal.ImageRefusal.{ImageRefusal}
use Rattle.ext_mount.specs.declared.refusal.ImageRefusal.TheVariants.{NoStore, NoMark, LongLink}

-- what the host shows, or what a mark of it has
abbrev pub IsTreeAsked : Host → Option ℕ → Entries HeldFile → Type 0
IsTreeAsked host None root = root ≡ host.root
IsTreeAsked host (Some generation) root = (mark : Past) × IsMark host.past generation mark × (root ≡ mark.root)

-- the store has this tree, and it has an image
pub record HasImage (opened : Option Generation) (ask : ImageAsk) (root : Entries HeldFile) : Type 0 where
  pub generation : Generation
  pub is : opened ≡ Some generation
  pub tree : IsTreeAsked generation.host ask.mark root
  pub short : first_long_link root ≡ None

-- the image of the tree, with the time that is asked
abbrev pub image_asked : ImageAsk → Entries HeldFile → List ℕ
image_asked ask root = image (homed_entries homed_of root) (time_of ask)

-- the host has no such mark
pub record LacksMark (opened : Option Generation) (ask : ImageAsk) (mark : ℕ) : Type 0 where
  pub generation : Generation
  pub is : opened ≡ Some generation
  pub asked : ask.mark ≡ Some mark
  pub none : HasNoMark generation.host.past mark

-- the store has a tree, of which this is the first link that is too long
pub record HasLongLink (opened : Option Generation) (ask : ImageAsk) (path : List (List ℕ)) : Type 0 where
  pub generation : Generation
  pub is : opened ≡ Some generation
  pub root : Entries HeldFile
  pub tree : IsTreeAsked generation.host ask.mark root
  pub long : first_long_link root ≡ Some path

-- the refusal is the first whose condition holds
abbrev pub IsImageRefused : Option Generation → ImageAsk → ImageRefusal → Type 0
IsImageRefused opened ask NoStore = opened ≡ None
IsImageRefused opened ask (NoMark mark) = LacksMark opened ask mark
IsImageRefused opened ask (LongLink path) = HasLongLink opened ask path

-- the host lacks the mark that is asked, and a refusal says so
abbrev pub LacksTree : Host → Option ℕ → ImageRefusal → Type 0
LacksTree host None refusal = ⊥
LacksTree host (Some generation) refusal = (refusal ≡ NoMark generation) × HasNoMark host.past generation
