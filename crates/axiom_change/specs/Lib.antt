pub mod Revising
