-- The laws of reading the lines of an index, in the generations that there are.
use Rattle.std.specs.Prelude.{◌≡◌, ℕ, ◌≤◌, List, length}
use Rattle.ext_index_lines.specs.declared.text_number.TextNumber.TheVariants.{One}
use Rattle.ext_index_reader.specs.Index.{index_text}
use Rattle.ext_index_reader.specs.Listed.{IsListedHost, IsOfText1, IsToldHost, IsWellFormed}
use Rattle.ext_index_reader.specs.Reading.{IsSaid, RunsThrough, StopsAtLine}
use Rattle.ext_index_reader.specs.declared.said.Said.{Said}
use Rattle.ext_index_reader.specs.declared.state.SoFar.{SoFar}
use Rattle.ext_host.specs.Home.{last_generation}

-- bytes say one thing
abbrev pub OneReading : Type 0
OneReading = (g : ℕ) (bytes : List ℕ) (s t : SoFar) → g ≤ last_generation → RunsThrough g bytes s → RunsThrough g bytes t → s ≡ t

-- where the lines run through they stop nowhere
abbrev pub NoStop : Type 0
NoStop = (g : ℕ) (bytes : List ℕ) (s : SoFar) (line : ℕ) → g ≤ last_generation → RunsThrough g bytes s → ¬ StopsAtLine g bytes line

-- and they stop at one line at most
abbrev pub OneStop : Type 0
OneStop = (g : ℕ) (bytes : List ℕ) (line other : ℕ) → g ≤ last_generation → StopsAtLine g bytes line → StopsAtLine g bytes other → line ≡ other

-- the bytes are the text of a host that an index of generation g lists
pub record IsListing (g : ℕ) (bytes : List ℕ) (said : Said) : Type 0 where
  pub formed : IsWellFormed said.host
  pub listed : IsListedHost g said.host
  pub told : IsToldHost said.text said.host
  pub text_1 : said.text ≡ One → IsOfText1 said.host
  pub text : bytes ≡ index_text said.text g said.host

-- what lines say that run through is such a text of it
abbrev pub SaidIsListed : Type 0
SaidIsListed = (g : ℕ) (bytes : List ℕ) (said : Said) → g ≤ last_generation → IsSaid g bytes said → IsListing g bytes said

-- and the lines of each such text, which is not longer than a count can tell, say that host
abbrev pub ListedIsSaid : Type 0
ListedIsSaid = (g : ℕ) (bytes : List ℕ) (said : Said) → g ≤ last_generation → length bytes ≤ 1073741824 → IsListing g bytes said → IsSaid g bytes said
