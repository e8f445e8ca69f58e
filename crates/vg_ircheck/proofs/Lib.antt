mod Firsts
pub mod Places
pub mod PlaceLemmas
pub mod CountLemmas
pub mod SeekingLemmas
mod Refusals
pub mod TypeLemmas
pub mod InitialLemmas
pub mod Leads
pub mod Reached
mod Deciding
