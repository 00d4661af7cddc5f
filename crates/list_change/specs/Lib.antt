pub mod Changed
pub mod IsListChange
pub use Rattle.manifest_change.specs.Changed.{Answers}
pub use Rattle.manifest_change.specs.Rows.{Becomes}
pub use Rattle.manifest_list.specs.Written.{list_data}
