-- A printed image shows the tree that was asked.
use Rattle.std.proofs.Common.{ℕ, ◌+◌, ◌<◌, ◌^◌, List, Option, None, Some, IfSome, sym, subst, arith}
use Rattle.std.specs.List.{AllByRecursion}
use Rattle.std.proofs.lemmas.Option.{same_Some}
use Rattle.ext_tree.specs.Tree.{Entries, IsTreeWithin}
use Rattle.ext_host.specs.Held.{HeldFile}
use Rattle.ext_gen.specs.Opened.{Generation, IsOpened}
use Rattle.ext_erofs.specs.HomePath.{homed_of}
use Rattle.ext_erofs.specs.Homed.{homed_entries}
use Rattle.ext_erofs.specs.Image.{FitsTree, count_shown}
use Rattle.ext_erofs.specs.Shown.{IsSuperblock, Shows, shown}
use Rattle.ext_erofs.specs.Standing.{IsPlain}
use Rattle.ext_erofs.proofs.ForCallers.{all_short, image_shows, image_superblock, short_fits, tree_fits, within_homed}
use Rattle.ext_mount.specs.Asked.{IsImageAsk, IsImageTime, number_or_0, time_of}
use Rattle.ext_mount.specs.declared.asked.ImageAsk.{ImageAsk}
use Rattle.ext_mount.specs.Asking.{HasImage, IsTreeAsked, image_asked}
use Rattle.ext_mount.proofs.FittingLemmas.{asked_fits, asked_is_tree}

time_small : (time : Option ℕ) → IfSome time IsImageTime → number_or_0 time < 2 ^ 64
time_small None is = omega arith
time_small (Some seconds) is = omega (arith, is)

module _ (g : Generation) (ask : ImageAsk) (root : Entries HeldFile) (opened : IsOpened g) (is : IsImageAsk ask) (has : HasImage (Some g) ask root) where
  tree_of_this : IsTreeAsked g.host ask.mark root
  tree_of_this = subst (λ (h : Generation). IsTreeAsked h.host ask.mark root) (sym (same_Some _ _ has.is)) has.tree

  homed_within : IsTreeWithin (homed_entries homed_of root)
  homed_within = within_homed homed_of root (asked_is_tree g ask.mark root opened tree_of_this)

  homed_fit : FitsTree (homed_entries homed_of root) (time_of ask)
  homed_fit = short_fits (homed_entries homed_of root) (time_of ask) homed_within (asked_fits g ask.mark root opened tree_of_this) (all_short homed_of root has.short) (time_small ask.time is.time)

  pub printed_superblock : IsSuperblock (image_asked ask root) (1 + count_shown (homed_entries homed_of root)) (time_of ask)
  printed_superblock = image_superblock (homed_entries homed_of root) (time_of ask) (tree_fits (homed_entries homed_of root) (time_of ask) homed_within homed_fit)

  pub printed_shows : (path : List (List ℕ)) → AllByRecursion IsPlain path → Shows (image_asked ask root) (time_of ask) path (shown (homed_entries homed_of root) path)
  printed_shows = image_shows (homed_entries homed_of root) (time_of ask) homed_within.tree (tree_fits (homed_entries homed_of root) (time_of ask) homed_within homed_fit)
