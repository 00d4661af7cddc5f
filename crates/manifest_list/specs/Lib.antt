pub mod Platform
pub mod Entry
pub mod IsList
pub mod BadList
pub mod AnyList
pub mod Choice
pub mod Written
pub use Rattle.json_tree.specs.Tree.{tree}
pub use Rattle.manifest_v2s2.specs.Calls.{Reads, NamesFirstBad, TellsOnly}
