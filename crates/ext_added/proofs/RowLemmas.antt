-- The definitions on examples, by computation: an image foobar_47.11, its drop-in, its units, what attaching it puts where, and places
-- in and outside the search directories.
use Rattle.std.proofs.Common.{◌≡◌, ℕ, true, false, List, [], ◌∷◌, ◌++◌, length, refl}
use Rattle.std.specs.Prelude.{codes}
use Rattle.ext_attributes.specs.Attributes.{file_of_mode, of_mode, root_owner}
use Rattle.ext_tree.specs.declared.entry.Entry.TheVariants.{File, Link}
use Rattle.ext_host.specs.Held.{HeldFile}
use Rattle.ext_units.specs.ImageName.{first_part, last_name}
use Rattle.ext_units.specs.Units.{has_unit_suffix}
use Rattle.ext_units.specs.declared.image.Image.TheVariants.{Named, At}
use Rattle.ext_units.specs.declared.unit_file.UnitFile.{UnitFile}
use Rattle.ext_added.specs.Added.{drop_ins, made_attributes, unit_entry}
use Rattle.ext_added.specs.Attaching.{is_outside}
use Rattle.ext_added.specs.DropIn.{doubled, own_text}
use Rattle.ext_added.specs.Tops.{tops_of, ways_of}
use Rattle.ext_added.specs.declared.ask.CopyMode.TheVariants as copying
use Rattle.ext_added.specs.declared.attaching.Attaching.{Attaching}

-- where it is
abbrev place : List (List ℕ)
place = codes "var" ∷ codes "lib" ∷ codes "portables" ∷ codes "foobar_47.11" ∷ []

-- the drop-in of its services
text_is : own_text place place []
    ≡ ((((codes "# hostext portable foobar_47.11" ++ 10 ∷ []) ++ codes "[Service]") ++ 10 ∷ []) ++ codes "RootDirectory=/var/lib/portables/foobar_47.11") ++ 10 ∷ []
text_is = refl

text_length : length (own_text place place []) ≡ 88
text_length = refl

-- the same with a line for an extension
longer_text : length (own_text place place (codes "ExtensionDirectories=/var/lib/extensions/tools" ++ 10 ∷ [])) ≡ 135
longer_text = refl

-- its prefix, and names of units and of others
prefix_is : first_part (last_name place) ≡ codes "foobar"
prefix_is = refl

template_is : has_unit_suffix (codes "foobar@.service") ≡ true
template_is = refl

mount_is_none : has_unit_suffix (codes "foobar.mount") ≡ false
mount_is_none = refl

-- a directory in which images are looked for is no place outside, and one beside it is
inside_is : is_outside (At place) ≡ false
inside_is = refl

outside_is : is_outside (At (codes "srv" ∷ codes "foobar" ∷ [])) ≡ true
outside_is = refl

named_is : is_outside (Named (codes "foobar")) ≡ false
named_is = refl

-- a `%` is written twice
percent_is : doubled (codes "a%b") ≡ codes "a%%b"
percent_is = refl

-- a unit of the image
abbrev unit_of : List ℕ → UnitFile
unit_of name = record { name = name; file = codes "usr" ∷ codes "lib" ∷ codes "systemd" ∷ codes "system" ∷ name ∷ [] }

-- the directory of units, and a name in it
abbrev attached : List ℕ → List (List ℕ)
attached name = codes "etc" ∷ codes "systemd" ∷ codes "system.attached" ∷ name ∷ []

module _ (own profile unit : HeldFile) where
  -- what is made of it
  abbrev made : Attaching
  made = record {
    runtime = false;
    copy = copying.Auto;
    place = place;
    outside = false;
    directory = place;
    attributes = of_mode 493;
    profile = record {
      path = codes "usr" ∷ codes "lib" ∷ codes "systemd" ∷ codes "portable" ∷ codes "profile" ∷ codes "default" ∷ codes "service.conf" ∷ [];
      file = profile;
    };
    own = own;
    units = unit_of (codes "foobar-a.timer") ∷ unit_of (codes "foobar.service") ∷ unit_of (codes "foobar@.service") ∷ [];
  }

  -- where something is put: units, and drop-ins of services alone
  tops_are : tops_of made
      ≡ attached (codes "foobar-a.timer") ∷ attached (codes "foobar.service") ∷ attached (codes "foobar@.service")
      ∷ attached (codes "foobar.service.d") ∷ attached (codes "foobar@.service.d") ∷ []
  tops_are = refl

  ways_are : ways_of made ≡ (codes "etc" ∷ []) ∷ (codes "etc" ∷ codes "systemd" ∷ []) ∷ (codes "etc" ∷ codes "systemd" ∷ codes "system.attached" ∷ []) ∷ []
  ways_are = refl

  -- the profile is linked, and the other drop-in is a file
  drop_ins_are : drop_ins made
      ≡ (codes "10-profile.conf" ∷ [], Link root_owner (codes "/usr/lib/systemd/portable/profile/default/service.conf")) ∷ (codes "20-portable.conf" ∷ [], File made_attributes own) ∷ []
  drop_ins_are = refl

  -- a unit is copied, with the attributes of made files
  unit_is : unit_entry made (((unit_of (codes "foobar.service")).file, File (file_of_mode 384) unit) ∷ []) (unit_of (codes "foobar.service")) ≡ File made_attributes unit
  unit_is = refl
