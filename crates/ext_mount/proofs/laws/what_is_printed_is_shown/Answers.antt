use Rattle.ext_mount.proofs.ShowingLemmas.{printed_shows, printed_superblock}
use Rattle.ext_mount.proofs.laws.what_is_printed_is_shown.Goals as goal

pub returns : goal.returns
returns c = record {
  superblock = λ generation ask root opened is has. printed_superblock generation ask root opened is has;
  shows = λ generation ask root opened is has path plain. printed_shows generation ask root opened is has path plain;
}
