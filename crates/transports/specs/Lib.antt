pub mod Places
pub mod Refusals
pub mod Courses
pub mod Blobs
pub mod Within
pub mod Registries
pub mod Tried
pub mod Names
pub mod Stores
pub mod Given
pub mod Calls
pub mod Beside
pub mod Has
pub mod Writes
pub mod Fair
pub mod Uploads
pub mod StepEnds
pub mod Found
pub mod Next
pub mod Named
pub use Rattle.skopeo_outside.specs.LaneTold.{LaneTold, IsLater}
pub use Rattle.skopeo_outside.specs.Steps.{Ends, Says}
