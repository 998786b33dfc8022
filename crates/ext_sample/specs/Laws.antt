-- The law of samples.
use Rattle.std.specs.Prelude.{◌≡◌, ℕ, List}
use Rattle.ext_depot.specs.Depot.{Files}
use Rattle.ext_sample.specs.Sample.{IsSampleDepot}

-- the depots of samples of as many images have the same file at each path
abbrev pub OneSampleDepot : Type 0
OneSampleDepot =
    (n : ℕ) (files others : Files) → IsSampleDepot n files → IsSampleDepot n others → (path : List (List ℕ)) → files path ≡ others path
