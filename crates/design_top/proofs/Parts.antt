-- What is shown of parts below.
pub use Rattle.design_parts.proofs.Runs.{says_fails, nothing_ok, give_ok}
