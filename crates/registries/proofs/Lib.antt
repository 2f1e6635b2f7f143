pub mod RegistryLaws
pub mod Samples
