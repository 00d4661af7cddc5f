pub mod Rows
pub mod Found
pub mod Changed
pub mod IsChange
pub use Rattle.json_tree.specs.Tree.{tree}
pub use Rattle.manifest_v2s2.specs.Image.{image_of}
pub use Rattle.manifest_v2s2.specs.IsImage.{SaysImage}
pub use Rattle.manifest_v2s2.specs.Written.{image_data}
