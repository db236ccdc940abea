-- The name of a lemma of rpki_der in the crates above.
pub use Rattle.rpki_der.proofs.Reading.Unique.{part-reading}
