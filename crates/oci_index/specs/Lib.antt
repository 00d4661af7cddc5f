pub mod Entries
pub mod Numbers
pub mod Reading
pub mod Index
pub mod Chosen
pub mod Edited
pub mod Version
pub use Rattle.json_tree.specs.Tree.{tree}
pub use Rattle.manifest_v2s2.specs.Calls.{Reads, TellsOnly}
