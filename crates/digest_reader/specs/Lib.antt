pub mod Digests
pub mod Fed
