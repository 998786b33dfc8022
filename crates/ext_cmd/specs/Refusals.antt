-- The lines of refusals: `refused`, the number, the word and the details, parted by spaces. Paths of the host stand after a
-- `/`, paths of the depot without one. Numbers and words are this project's own.
use Rattle.std.specs.Prelude.{ℕ, List, ◌++◌, codes, decimal, Option, Some, None}
use Rattle.hex.specs.Hex.{encode_lower}
use Rattle.ext_text.specs.Absolute.{absolute}
use Rattle.ext_text.specs.Path.{path_text}
use Rattle.ext_text.specs.declared.which.Which.{Which}
use Rattle.ext_text.specs.declared.which.Which.TheVariants as limits
use Rattle.ext_tree.specs.declared.stamp.Stamp.{Stamp}
use Rattle.ext_portext.specs.declared.errors.ExtWhy.{ExtWhy}
use Rattle.ext_portext.specs.declared.errors.ExtWhy.TheVariants as reasons
use Rattle.ext_transfer.specs.declared.err.TransferFault.{TransferFault}
use Rattle.ext_transfer.specs.declared.err.TransferFault.TheVariants as transfers
use Rattle.ext_transfer.specs.declared.feature.FeatureFault.{FeatureFault}
use Rattle.ext_transfer.specs.declared.feature.FeatureFault.TheVariants as features
use Rattle.ext_cmd.specs.Portable.{image_word}
use Rattle.ext_cmd.specs.Replies.{lined, verdict_word, why_word}
use Rattle.ext_cmd.specs.declared.refusal.Refusal.{Refusal}
use Rattle.ext_cmd.specs.declared.refusal.Refusal.TheVariants.{NoStore, StoreExists, Merged, ReadOnly, NoHostRelease, BadHostRelease, Limit}
use Rattle.ext_cmd.specs.declared.refusal.Refusal.TheVariants.{NoEntry, NotDirectory, NotFile, BadTree, NotInDepot, Mismatch}
use Rattle.ext_cmd.specs.declared.refusal.Refusal.TheVariants.{NoTransfers, BadTransfer, BadManifest, NoneNewer, BadFeature, NoneOn}
use Rattle.ext_cmd.specs.declared.refusal.Refusal.TheVariants.{NoSuchVersion, NoRoom, Clash, NoMark}
use Rattle.ext_cmd.specs.declared.refusal.Refusal.TheVariants.{NoSuchImage, NotPortable, BadRelease, PrefixForbidden, NoUnits, NoProfile}
use Rattle.ext_cmd.specs.declared.refusal.Refusal.TheVariants.{UnitExists, AlreadyAttached, NotAttached, NoExtension, Extension}

-- the number of a refusal
abbrev pub refusal_number : Refusal → ℕ
refusal_number NoStore = 1
refusal_number StoreExists = 2
refusal_number Merged = 3
refusal_number (ReadOnly path) = 4
refusal_number NoHostRelease = 5
refusal_number (BadHostRelease line) = 6
refusal_number (Limit which) = 7
refusal_number (NoEntry path) = 8
refusal_number (NotDirectory path) = 9
refusal_number (NotFile path) = 10
refusal_number NoSuchImage = 11
refusal_number NotPortable = 12
refusal_number (BadRelease line) = 13
refusal_number (PrefixForbidden prefix) = 14
refusal_number NoUnits = 15
refusal_number NoProfile = 16
refusal_number (UnitExists path) = 17
refusal_number AlreadyAttached = 18
refusal_number NotAttached = 19
refusal_number NoTransfers = 20
refusal_number (BadTransfer line why file) = 21
refusal_number (BadManifest line path) = 22
refusal_number (BadTree line path) = 23
refusal_number (NotInDepot path) = 24
refusal_number (Mismatch path listed found) = 25
refusal_number NoneNewer = 26
refusal_number (NoSuchVersion version) = 27
refusal_number (NoRoom count file) = 28
refusal_number (Clash path) = 29
refusal_number (NoExtension extension) = 30
refusal_number (Extension extension why) = 31
refusal_number (BadFeature line why file) = 32
refusal_number NoneOn = 33
refusal_number (NoMark generation) = 37

-- the word of a limit
abbrev pub which_word : Which → List ℕ
which_word limits.Entries = codes "entries"
which_word limits.Bytes = codes "bytes"
which_word limits.File = codes "file"
which_word limits.Path = codes "path"
which_word limits.Text = codes "text"
which_word limits.Index = codes "index"
which_word limits.Generations = codes "generations"

-- the path of a faulty tree text in the depot, or `-` where it came from elsewhere
abbrev pub place_word : Option (List (List ℕ)) → List ℕ
place_word None = codes "-"
place_word (Some path) = path_text path

-- the size of a file, and its digest
abbrev pub stamp_words : Stamp → List ℕ
stamp_words stamp = decimal stamp.size ++ codes " " ++ encode_lower stamp.digest.0

-- the word of what is wrong with a transfer file
abbrev pub transfer_fault_word : TransferFault → List ℕ
transfer_fault_word transfers.Syntax = codes "syntax"
transfer_fault_word transfers.Specifier = codes "specifier"
transfer_fault_word transfers.Verify = codes "verify"
transfer_fault_word transfers.SourceType = codes "source-type"
transfer_fault_word transfers.SourcePath = codes "source-path"
transfer_fault_word transfers.SourcePattern = codes "source-pattern"
transfer_fault_word transfers.TargetType = codes "target-type"
transfer_fault_word transfers.TargetPath = codes "target-path"
transfer_fault_word transfers.TargetPattern = codes "target-pattern"
transfer_fault_word transfers.Mode = codes "mode"
transfer_fault_word transfers.Instances = codes "instances"
transfer_fault_word transfers.Link = codes "link"
transfer_fault_word transfers.Relative = codes "relative"
transfer_fault_word transfers.MinVersion = codes "min-version"
transfer_fault_word transfers.ProtectVersion = codes "protect-version"

-- and of what is wrong with a feature file
abbrev pub feature_fault_word : FeatureFault → List ℕ
feature_fault_word features.Syntax = codes "syntax"
feature_fault_word features.Enabled = codes "enabled"

-- the line of the first fault of a file, what is wrong there, and the name of the file
abbrev pub file_fault_words : ℕ → List ℕ → List ℕ → List ℕ
file_fault_words line why file = decimal line ++ codes " " ++ why ++ codes " " ++ file

-- why an extension of a portable service does not fit
abbrev pub ext_why_words : ExtWhy → List ℕ
ext_why_words (reasons.Broken why) = why_word why
ext_why_words (reasons.BadRelease line) = codes "bad-release " ++ decimal line
ext_why_words (reasons.Verdict verdict) = verdict_word verdict

-- the word and the details of a refusal
abbrev pub refusal_details : Refusal → List ℕ
refusal_details NoStore = codes "no-store"
refusal_details StoreExists = codes "store-exists"
refusal_details Merged = codes "merged"
refusal_details (ReadOnly path) = codes "read-only " ++ absolute path
refusal_details NoHostRelease = codes "no-host-release"
refusal_details (BadHostRelease line) = codes "bad-host-release " ++ decimal line
refusal_details (Limit which) = codes "limit " ++ which_word which
refusal_details (NoEntry path) = codes "no-entry " ++ absolute path
refusal_details (NotDirectory path) = codes "not-directory " ++ absolute path
refusal_details (NotFile path) = codes "not-file " ++ absolute path
refusal_details NoSuchImage = codes "no-image"
refusal_details NotPortable = codes "not-portable"
refusal_details (BadRelease line) = codes "bad-release " ++ decimal line
refusal_details (PrefixForbidden prefix) = codes "prefix " ++ prefix
refusal_details NoUnits = codes "no-units"
refusal_details NoProfile = codes "no-profile"
refusal_details (UnitExists path) = codes "exists " ++ absolute path
refusal_details AlreadyAttached = codes "already-attached"
refusal_details NotAttached = codes "not-attached"
refusal_details NoTransfers = codes "no-transfers"
refusal_details (BadTransfer line why file) = codes "bad-transfer " ++ file_fault_words line (transfer_fault_word why) file
refusal_details (BadManifest line path) = codes "bad-manifest " ++ decimal line ++ codes " " ++ path_text path
refusal_details (BadTree line path) = codes "bad-tree " ++ decimal line ++ codes " " ++ place_word path
refusal_details (NotInDepot path) = codes "not-in-depot " ++ path_text path
refusal_details (Mismatch path listed found) =
    codes "mismatch " ++ path_text path ++ codes " " ++ stamp_words listed ++ codes " " ++ stamp_words found
refusal_details NoneNewer = codes "none-newer"
refusal_details (NoSuchVersion version) = codes "no-such-version " ++ version
refusal_details (NoRoom count file) = codes "no-room " ++ decimal count ++ codes " " ++ file
refusal_details (Clash path) = codes "clash " ++ absolute path
refusal_details (NoExtension extension) = codes "no-extension " ++ image_word extension
refusal_details (Extension extension why) = codes "extension " ++ image_word extension ++ codes " " ++ ext_why_words why
refusal_details (BadFeature line why file) = codes "bad-feature " ++ file_fault_words line (feature_fault_word why) file
refusal_details NoneOn = codes "none-on"
refusal_details (NoMark generation) = codes "no-mark " ++ decimal generation

-- the line of a refusal, with its newline
abbrev pub refusal_line : Refusal → List ℕ
refusal_line refusal = lined (codes "refused " ++ decimal (refusal_number refusal) ++ codes " " ++ refusal_details refusal)
