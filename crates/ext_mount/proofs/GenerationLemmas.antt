-- What is printed of what was opened.
use Rattle.std.proofs.Common.{◌≡◌, ℕ, Option, Some, None, refl, sym, subst, inl, inr}
use Rattle.ext_io.specs.SinkState.{SinkState}
use Rattle.ext_tree.specs.Tree.{Entries}
use Rattle.ext_host.specs.Held.{HeldFile}
use Rattle.ext_gen.specs.Opened.{Generation}
use Rattle.ext_mount.specs.Asked.{time_of}
use Rattle.ext_mount.specs.declared.asked.ImageAsk.{ImageAsk}
use Rattle.ext_mount.specs.Asking.{HasImage, IsImageRefused, IsTreeAsked, LacksTree}
use Rattle.ext_mount.specs.Printing.{EndsImage, PrintsOpened, PrintsRefusal, PrintsTree, PutsTree}
use Rattle.ext_mount.specs.declared.refusal.ImageRefusal.{ImageRefusal}
use Rattle.ext_mount.specs.declared.refusal.ImageRefusal.TheVariants.{LongLink}
use Rattle.ext_mount.specs.declared.status.ImageStatus.{ImageStatus}
use Rattle.ext_mount.specs.declared.status.ImageStatus.TheVariants.{Done, Refused, Usage, WriteFault, DiskFault, OutOfMemory, BadStore}

-- the line of a refusal, or what was written of it
pub refused_opened : (opened : Option Generation) (ask : ImageAsk) (refusal : ImageRefusal) (k l : SinkState) (status : ImageStatus) → IsImageRefused opened ask refusal → PrintsRefusal refusal k l status → PrintsOpened opened ask k l status
refused_opened opened ask refusal k l Done is prints = absurd prints
refused_opened opened ask refusal k l (Refused told) is prints = subst (λ r. EndsImage opened ask k l (Refused r)) (sym prints.0) (is, prints.1)
refused_opened opened ask refusal k l (Usage place) is prints = prints
refused_opened opened ask refusal k l WriteFault is prints = (prints.0, inr (refusal, is, prints.1))
refused_opened opened ask refusal k l DiskFault is prints = prints
refused_opened opened ask refusal k l OutOfMemory is prints = inl prints
refused_opened opened ask refusal k l (BadStore line) is prints = prints

-- the mark is none of the host's
pub lacks_opened : (g : Generation) (mark : Option ℕ) (ask : ImageAsk) (refusal : ImageRefusal) → ask.mark ≡ mark → LacksTree g.host mark refusal → IsImageRefused (Some g) ask refusal
lacks_opened g None ask refusal asked lacks = absurd lacks
lacks_opened g (Some generation) ask refusal asked lacks = subst (IsImageRefused (Some g) ask) (sym lacks.0) (record { generation = g; is = refl; asked = asked; none = lacks.1 })

put_opened : (g : Generation) (ask : ImageAsk) (root : Entries HeldFile) (k l : SinkState) (status : ImageStatus) → HasImage (Some g) ask root → PutsTree root (time_of ask) k l status → PrintsOpened (Some g) ask k l status
put_opened g ask root k l Done has puts = (root, has, puts)
put_opened g ask root k l (Refused refusal) has puts = absurd puts
put_opened g ask root k l (Usage place) has puts = puts
put_opened g ask root k l WriteFault has puts = (puts.0, inl (root, has, puts.1))
put_opened g ask root k l DiskFault has puts = puts
put_opened g ask root k l OutOfMemory has puts = inr (root, has, puts)
put_opened g ask root k l (BadStore line) has puts = puts

-- the tree that is asked was printed, or the first link of it that is too long
pub tree_opened : (g : Generation) (ask : ImageAsk) (root : Entries HeldFile) (k l : SinkState) (status : ImageStatus) → IsTreeAsked g.host ask.mark root → PrintsTree root (time_of ask) k l status → PrintsOpened (Some g) ask k l status
tree_opened g ask root k l status tree (inl put) = put_opened g ask root k l status (record { generation = g; is = refl; tree = tree; short = put.0 }) put.1
tree_opened g ask root k l status tree (inr (path, long, inl none)) = subst (PrintsOpened (Some g) ask k l) (sym none.0) (inl none.1)
tree_opened g ask root k l status tree (inr (path, long, inr prints)) = refused_opened (Some g) ask (LongLink path) k l status (record { generation = g; is = refl; root = root; tree = tree; long = long }) prints
