pub mod FrontLaw
pub mod WildcardLaw
pub mod HostLaw
pub mod ChoiceLaw
