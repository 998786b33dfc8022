-- The lines of a run: `published`, the number of the files and that of their bytes; or that it was refused, with a number, a
-- word and the details, parted by spaces. Paths of the host stand after a `/`, paths of the depot without one. Numbers and words
-- are this project's own.
use Rattle.std.specs.Prelude.{ℕ, List, ◌++◌, codes, decimal}
use Rattle.ext_text.specs.Absolute.{absolute}
use Rattle.ext_text.specs.Path.{path_text}
use Rattle.ext_published.specs.declared.refusal.PubRefusal.{PubRefusal}
use Rattle.ext_published.specs.declared.refusal.PubRefusal.TheVariants.{NoStore, NoEntry, NotFile, LimitPath, OutKind, LimitText, OutManifest, Listed}

-- the line of a run that was done, with its newline
abbrev pub published_line : ℕ → ℕ → List ℕ
published_line files bytes = codes "published " ++ decimal files ++ codes " " ++ decimal bytes ++ codes "\n"

-- the number of a refusal
abbrev pub pub_refusal_number : PubRefusal → ℕ
pub_refusal_number NoStore = 1
pub_refusal_number (NoEntry path) = 8
pub_refusal_number (NotFile path) = 10
pub_refusal_number LimitPath = 7
pub_refusal_number (OutKind path) = 36
pub_refusal_number LimitText = 7
pub_refusal_number (OutManifest line) = 35
pub_refusal_number (Listed name) = 34

-- the word and the details of a refusal
abbrev pub pub_refusal_details : PubRefusal → List ℕ
pub_refusal_details NoStore = codes "no-store"
pub_refusal_details (NoEntry path) = codes "no-entry " ++ absolute path
pub_refusal_details (NotFile path) = codes "not-file " ++ absolute path
pub_refusal_details LimitPath = codes "limit path"
pub_refusal_details (OutKind path) = codes "out-kind " ++ path_text path
pub_refusal_details LimitText = codes "limit text"
pub_refusal_details (OutManifest line) = codes "out-manifest " ++ decimal line
pub_refusal_details (Listed name) = codes "listed " ++ name

-- the line of a refusal, with its newline
abbrev pub pub_refusal_line : PubRefusal → List ℕ
pub_refusal_line refusal = codes "refused " ++ decimal (pub_refusal_number refusal) ++ codes " " ++ pub_refusal_details refusal ++ codes "\n"
