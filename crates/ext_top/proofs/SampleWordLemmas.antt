-- The words of the commands of a sample: each line has its command, and no other.
use Rattle.std.proofs.Common.{◌≡◌, ◌≢◌, ℕ, ◌<◌, ◌≤◌, Bool, true, false, ◌&&◌, List, [], ◌∷◌, length, refl, arith, codes}
use Rattle.std.specs.Prelude.{nat_lt}
use Rattle.std.specs.List.{list_all}
use Rattle.std.proofs.lemmas.Bool.{and_parts, ltb-true}
use Rattle.std.proofs.lemmas.List.Elements.{All-weaker}
use Rattle.std.proofs.lemmas.List.Sums.{AllPass-from_list_all}
use Rattle.std.proofs.lemmas.Str.{IsUtf8-from_ascii}
use Rattle.std.proofs.lemmas.Str.Ascii.{IsAscii-from_all}
use Rattle.ext_lines.specs.Words.{words_of}
use Rattle.ext_text.specs.Name.{IsName, is_name_byte}
use Rattle.ext_text.specs.Path.{IsPath}
use Rattle.ext_text.specs.declared.arch.Arch.TheVariants.{X86_64}
use Rattle.ext_text.specs.declared.scope.Scope.TheVariants.{System}
use Rattle.ext_cmd.specs.Line.{IsLineCommand}
use Rattle.ext_cmd.specs.Resource.{IsResource}
use Rattle.ext_cmd.specs.Words.{IsWellFormed}
use Rattle.ext_cmd.specs.declared.command.Chosen.TheVariants.{Default}
use Rattle.ext_cmd.specs.declared.command.Command.TheVariants.{Init, ImportFs, Sysext}
use Rattle.ext_cmd.specs.declared.command.ViewCommand.TheVariants.{Merge, Unmerge, Refresh}
use Rattle.ext_top.specs.Sample.{sample_directory}

-- a byte of a name, of ASCII
abbrev is_ascii_name_byte : ℕ → Bool
is_ascii_name_byte b = is_name_byte b && nat_lt b 128

ascii_name : (bytes : List ℕ) → 0 < length bytes → length bytes ≤ 255 → bytes ≢ 46 ∷ [] → bytes ≢ 46 ∷ 46 ∷ [] → list_all is_ascii_name_byte bytes ≡ true → IsName bytes
ascii_name bytes some few dot dots plain =
    let all = AllPass-from_list_all is_ascii_name_byte bytes plain in
    let low = All-weaker (λ b. is_ascii_name_byte b ≡ true) (λ b. b < 128) (λ b is. ltb-true b 128 (and_parts (is_name_byte b) (nat_lt b 128) is).1) bytes all in
    record {
      non_empty = some;
      at_most_255 = few;
      not_dot = dot;
      not_dot_dot = dots;
      plain = All-weaker (λ b. is_ascii_name_byte b ≡ true) (λ b. is_name_byte b ≡ true) (λ b is. (and_parts (is_name_byte b) (nat_lt b 128) is).0) bytes all;
      utf8 = IsUtf8-from_ascii bytes (IsAscii-from_all bytes low);
    }

-- a path of one short name
one_name : (bytes : List ℕ) → IsName bytes → IsPath (bytes ∷ [])
one_name bytes name = record { each = (name, tt); depth = omega arith; size = let most = name.at_most_255 in omega arith }

host : IsResource (codes "host" ∷ [])
host = record {
  within = one_name (codes "host") (ascii_name (codes "host") (omega arith) (omega arith) (λ e. cc) (λ e. cc) refl);
  below_root = λ e. cc;
  text = one_name (codes "host.tree") (ascii_name (codes "host.tree") (omega arith) (omega arith) (λ e. cc) (λ e. cc) refl);
}

images : IsResource (codes "images" ∷ [])
images = record {
  within = one_name (codes "images") (ascii_name (codes "images") (omega arith) (omega arith) (λ e. cc) (λ e. cc) refl);
  below_root = λ e. cc;
  text = one_name (codes "images.tree") (ascii_name (codes "images.tree") (omega arith) (omega arith) (λ e. cc) (λ e. cc) refl);
}

root : IsPath []
root = record { each = tt; depth = omega arith; size = omega arith }

var : IsName (codes "var")
var = ascii_name (codes "var") (omega arith) (omega arith) (λ e. cc) (λ e. cc) refl

lib : IsName (codes "lib")
lib = ascii_name (codes "lib") (omega arith) (omega arith) (λ e. cc) (λ e. cc) refl

extensions : IsName (codes "extensions")
extensions = ascii_name (codes "extensions") (omega arith) (omega arith) (λ e. cc) (λ e. cc) refl

directory : IsPath sample_directory
directory = record {
  each = (var, (lib, (extensions, tt)));
  depth = omega arith;
  size = omega arith;
}

-- the commands are well formed
pub init_formed : IsWellFormed (Init X86_64 System Default)
init_formed = (λ e. cc, tt)

pub host_formed : IsWellFormed (ImportFs (codes "host" ∷ []) [])
host_formed = (host, root)

pub images_formed : IsWellFormed (ImportFs (codes "images" ∷ []) sample_directory)
images_formed = (images, directory)

-- each is that of its line
pub init_line : IsLineCommand (words_of (codes "init x86-64 system"))
init_line = record { command = Init X86_64 System Default; well_formed = init_formed; line = refl; same = refl }

pub host_line : IsLineCommand (words_of (codes "import-fs host /"))
host_line = record { command = ImportFs (codes "host" ∷ []) []; well_formed = host_formed; line = refl; same = refl }

pub images_line : IsLineCommand (words_of (codes "import-fs images /var/lib/extensions"))
images_line = record { command = ImportFs (codes "images" ∷ []) sample_directory; well_formed = images_formed; line = refl; same = refl }

pub merge_line : IsLineCommand (words_of (codes "sysext merge"))
merge_line = record { command = Sysext (Merge false); well_formed = tt; line = refl; same = refl }

pub unmerge_line : IsLineCommand (words_of (codes "sysext unmerge"))
unmerge_line = record { command = Sysext Unmerge; well_formed = tt; line = refl; same = refl }

pub refresh_line : IsLineCommand (words_of (codes "sysext refresh"))
refresh_line = record { command = Sysext (Refresh false); well_formed = tt; line = refl; same = refl }
