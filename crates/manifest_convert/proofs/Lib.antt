pub mod BlobLemmas
pub mod SeenLemmas
pub mod KindLemmas
pub mod GivenLemmas
pub mod OrderLemmas
pub mod OnlyJobs
