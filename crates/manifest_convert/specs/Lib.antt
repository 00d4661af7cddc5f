pub mod Types
pub mod Kinds
pub mod HasKind
pub mod BadKind
pub mod AnyImage
pub mod Blobs
pub use Rattle.json_tree.specs.Tree.{tree}
pub use Rattle.manifest_v2s2.specs.Image.{image_of}
pub use Rattle.manifest_v2s2.specs.Calls.{Reads, NamesFirstBad, TellsOnly}
