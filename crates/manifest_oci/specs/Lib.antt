pub mod OciImage
pub mod Calls
pub use Rattle.json_tree.specs.Tree.{tree}
pub use Rattle.manifest_v2s2.specs.Image.{image_of}
pub use Rattle.manifest_v2s2.specs.Calls.{Reads, NamesFirstBad, TellsOnly}
