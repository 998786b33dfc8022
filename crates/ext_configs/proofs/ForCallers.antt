-- The lemmas on this crate's definitions that other crates cite.

-- each of the configuration files is one by its name and content
pub use Rattle.ext_configs.proofs.CallerLemmas.{each_config}
-- the content of a configuration file is that of a file of the base
pub use Rattle.ext_configs.proofs.CallerLemmas.{config_in_base}
-- a name that has one content as a configuration file has no other
pub use Rattle.ext_configs.proofs.CallerLemmas.{one_config}
-- in a tree each component that is listed is one by the rule of names
pub use Rattle.ext_configs.proofs.CallerLemmas.{component_named}
