pub mod Shape
pub mod Drafts
pub mod Spots
pub mod Meets
pub mod Few
pub mod Exact
pub mod Wired
pub mod Right
pub mod Drawings
mod Ranges
mod Reading
mod Rows
mod Branches
mod Listings
mod Wirings
mod Checked
mod Outcomes
pub mod Copying
mod Certified
mod CaseProofs
