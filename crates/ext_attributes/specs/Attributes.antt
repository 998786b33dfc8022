-- What an entry has beside its content, and how it stands in a line: as one field, a number and, where the entry is not
-- root's or has a capability, more numbers, each after a colon.
--
--     MODE                                                      a directory, opaque or not, or a file
--     MODE:USER:GROUP
--     MODE:USER:GROUP:EFFECTIVE:PERMITTED:INHERITABLE:ROOT      a file alone
--     LENGTH                                                    a link, whose target has so many bytes
--     LENGTH:USER:GROUP
--
-- MODE is octal and the others are decimal, all without leading zeros; EFFECTIVE is 0 or 1. So that a value has one text,
-- `MODE:0:0` and `LENGTH:0:0` are none. A capability is what the attribute `security.capability` says, after
-- capabilities(7), section "File capability extended attribute versioning".
use Rattle.std.specs.Prelude.{◌≡◌, ◌≢◌, ℕ, ◌≤◌, Bool, true, false, ◌&&◌, ◌==◌, List, [], ◌∷◌, ◌++◌, decimal, if◌then◌else◌, Option, Some, None}
use Rattle.std.specs.Borrow.{Bor}
use Rattle.ext_lines.specs.Numbers.{octal}
use Rattle.ext_lines.specs.Split.{Lacks}
use Rattle.ext_attributes.specs.declared.owner.Owner.{Owner}
use Rattle.ext_attributes.specs.declared.capability.Capability.{Capability}
use Rattle.ext_attributes.specs.declared.attributes.Attributes.{Attributes}

-- what a file has beside its content
pub record OfFile : Type 0 where
  pub attributes : Attributes
  pub capability : Option Capability

-- users and groups are numbers below the highest of 32 bits, which stands for none
pub record IsOwner (owner : Owner) : Type 0 where
  pub user : owner.user ≤ 4294967294
  pub group : owner.group ≤ 4294967294

-- two sets of 64 bits, and the number of a user
pub record IsCapability (capability : Capability) : Type 0 where
  pub permitted : capability.permitted ≤ 18446744073709551615
  pub inheritable : capability.inheritable ≤ 18446744073709551615
  pub root : capability.root ≤ 4294967294

-- a capability in its ranges, or none
abbrev pub IsOptional : Option Capability → Type 0
IsOptional None = Unit {0}
IsOptional (Some capability) = IsCapability capability

-- a mode and an owner in their ranges
pub record IsAttributes (attributes : Attributes) : Type 0 where
  pub mode : attributes.mode ≤ 4095
  pub owner : IsOwner attributes.owner

-- what a file has, in its ranges
pub record IsOfFile (file : OfFile) : Type 0 where
  pub attributes : IsAttributes file.attributes
  pub capability : IsOptional file.capability

-- user 0 and group 0
abbrev pub root_owner : Owner
root_owner = record { user = 0; group = 0 }

-- it is user 0 and group 0
abbrev pub is_root_owner : Owner → Bool
is_root_owner owner = (owner.user == 0) && (owner.group == 0)

-- neither another owner nor a capability
abbrev pub are_plain : Owner → Option Capability → Bool
are_plain owner None = is_root_owner owner
are_plain owner (Some capability) = false

-- a mode alone
abbrev pub is_plain : Attributes → Bool
is_plain a = is_root_owner a.owner

-- a mode alone, of a file
abbrev pub is_plain_file : OfFile → Bool
is_plain_file a = are_plain a.attributes.owner a.capability

-- root's, with this mode
abbrev pub of_mode : ℕ → Attributes
of_mode mode = record { mode = mode; owner = root_owner }

-- what a file has, of its parts
abbrev pub with_capability : Attributes → Option Capability → OfFile
with_capability attributes capability = record { attributes = attributes; capability = capability }

-- without a capability
abbrev pub plain_file : Attributes → OfFile
plain_file attributes = with_capability attributes None

-- root's, with this mode and without a capability
abbrev pub file_of_mode : ℕ → OfFile
file_of_mode mode = plain_file (of_mode mode)

-- a flag as a number
abbrev pub flag : Bool → ℕ
flag true = 1
flag false = 0

-- the four numbers of a capability
abbrev pub capability_text : Capability → List ℕ
capability_text c = decimal (flag c.effective) ++ 58 ∷ (decimal c.permitted ++ 58 ∷ (decimal c.inheritable ++ 58 ∷ decimal c.root))

-- the two numbers of an owner
abbrev pub owner_text : Owner → List ℕ
owner_text o = decimal o.user ++ 58 ∷ decimal o.group

-- what stands after the first number of a field: a colon and the owner, and a colon and the capability, where they are told
abbrev pub marks_text : Owner → Option Capability → List ℕ
marks_text o None = if is_root_owner o then [] else 58 ∷ owner_text o
marks_text o (Some c) = 58 ∷ (decimal o.user ++ 58 ∷ (decimal o.group ++ 58 ∷ capability_text c))

-- the field of a directory
abbrev pub attributes_text : Attributes → List ℕ
attributes_text a = octal a.mode ++ marks_text a.owner None

-- the field of a file
abbrev pub file_attributes_text : OfFile → List ℕ
file_attributes_text a = octal a.attributes.mode ++ marks_text a.attributes.owner a.capability

-- the field of a link: a number with an owner
abbrev pub owned_number : ℕ → Owner → List ℕ
owned_number n o = decimal n ++ marks_text o None

-- what a reader finds after a colon
abbrev pub ReadsMarks : List ℕ → Option (Owner × Option Capability) → Type 0
ReadsMarks text None = (o : Owner) (c : Option Capability) → IsOwner o → IsOptional c → 58 ∷ text ≢ marks_text o c
ReadsMarks text (Some m) = IsOwner m.0 × IsOptional m.1 × (58 ∷ text ≡ marks_text m.0 m.1)

-- what a reader finds in a field: what stands before its first colon, and what is told after it
abbrev pub SplitsMarks : List ℕ → Option (Bor (List ℕ) × Owner × Option Capability) → Type 0
SplitsMarks field None = (h : List ℕ) (o : Owner) (c : Option Capability) → Lacks 58 h → IsOwner o → IsOptional c → field ≢ h ++ marks_text o c
SplitsMarks field (Some m) = Lacks 58 m.0.now × IsOwner m.1 × IsOptional m.2 × (field ≡ m.0.now ++ marks_text m.1 m.2)

-- the same, where no capability may be told
abbrev pub SplitsOwner : List ℕ → Option (Bor (List ℕ) × Owner) → Type 0
SplitsOwner field None = (h : List ℕ) (o : Owner) → Lacks 58 h → IsOwner o → field ≢ h ++ marks_text o None
SplitsOwner field (Some m) = Lacks 58 m.0.now × IsOwner m.1 × (field ≡ m.0.now ++ marks_text m.1 None)
