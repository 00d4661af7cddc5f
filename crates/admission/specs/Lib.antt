pub mod Counts
pub mod Admission
pub mod Parts
pub mod GateTold
pub mod Taken
pub mod Judged
pub mod Calls
pub mod Walk
pub use Rattle.transports.specs.Courses.{lane_course}
pub use Rattle.skopeo_outside.specs.Steps.{Ends, Says}
