pub mod Ascending
pub mod Attestations
pub mod Claimed
pub mod Fronts
pub mod Origins
