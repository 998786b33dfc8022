-- What is asked of a run, in three words, this project's own grammar.
--
--     hostext_publish STORE OUT ABS RES NAME
--
-- ABS is a path after a `/`: what is published. RES is a path other than the root that stays one with `.tree` after its last
-- name: the folder in which it is published. NAME is a name that stays one with `.tree` after it, and is none of a tree text nor
-- of a manifest: the name that it gets there.
use Rattle.std.specs.Prelude.{◌≡◌, ◌≢◌, ℕ, ◌+◌, false, List, [], ◌∷◌, ◌++◌, length, codes}
use Rattle.ext_text.specs.Absolute.{absolute}
use Rattle.ext_text.specs.Name.{IsName}
use Rattle.ext_text.specs.Path.{IsPath, path_parts, path_text}
use Rattle.ext_published.specs.Names.{coming_manifest_name, is_of_tree_text, manifest_name, tree_text_name}

-- what contracts see of it
pub record AskedOf : Type 0 where
  -- the path on the host of what is published
  pub path : List (List ℕ)
  -- the folder of the depot
  pub folder : List (List ℕ)
  -- the name there
  pub name : List ℕ

-- a path other than the root that stays one with `.tree` after its last name
pub record IsDepotFolder (path : List (List ℕ)) : Type 0 where
  pub within : IsPath path
  pub below_root : path ≢ []
  pub text : IsPath (path_parts (path_text path ++ codes ".tree"))

-- a name that stays one with `.tree` after it, and is none of a tree text nor of a manifest
pub record IsResourceName (name : List ℕ) : Type 0 where
  pub within : IsName name
  pub text : IsName (tree_text_name name)
  pub no_tree_text : is_of_tree_text name ≡ false
  pub no_manifest : name ≢ manifest_name
  pub no_coming_manifest : name ≢ coming_manifest_name

-- what may be asked
pub record IsPublishAsk (asked : AskedOf) : Type 0 where
  pub path : IsPath asked.path
  pub folder : IsDepotFolder asked.folder
  pub name : IsResourceName asked.name

-- its words
abbrev pub asked_words : AskedOf → List (List ℕ)
asked_words asked = absolute asked.path ∷ path_text asked.folder ∷ asked.name ∷ []

-- the words ask something
pub record AskSomething (words : List (List ℕ)) : Type 0 where
  pub asked : AskedOf
  pub is : IsPublishAsk asked
  pub same : words ≡ asked_words asked

-- words that ask something begin with these
pub record BeginsAsking (words : List (List ℕ)) : Type 0 where
  pub more : List (List ℕ)
  pub whole : AskSomething (words ++ more)

-- words that begin to ask something do so no longer with the next word; or no word is left, and they ask nothing yet
abbrev pub GoesWrong : List (List ℕ) → List (List ℕ) → Type 0
GoesWrong prefix [] = ¬ AskSomething prefix
GoesWrong prefix (word ∷ rest) = ¬ BeginsAsking (prefix ++ word ∷ [])

-- The words ask nothing, and this is the place of their first fault, counted from 1: the least place such that no words that
-- ask something begin with those up to it; where some begin with all of them, the place after the last.
pub record IsAskWrongAt (words : List (List ℕ)) (place : ℕ) : Type 0 where
  pub prefix : List (List ℕ)
  pub rest : List (List ℕ)
  pub split : words ≡ prefix ++ rest
  pub after : place ≡ length prefix + 1
  pub begins : BeginsAsking prefix
  pub wrong : GoesWrong prefix rest
